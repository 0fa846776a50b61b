use Rattle.std.proofs.Common.{ap, sym, ◌∙◌, ◌++◌}
use Rattle.cc_defs.specs.declared.log.Version.{Version}
use Rattle.cc_defs.specs.LogVersions.{header_of, lines_bytes, other_version}
use Rattle.cc_ports.specs.declared.desk.To.TheVariants as outputs
use Rattle.cc_list.specs.Telling.{counts_of}
use Rattle.cc_tell.specs.Givens.{given_to}
use Rattle.cc_tell.proofs.GivenSteps.{cut_one, step_as, then_one}
use Rattle.cc_run.proofs.Converted.{says_left}
use Rattle.cc_run.proofs.modes.convert.give_other.Goals as goal

pub returns-in_err-give_header : goal.returns-in_err-give_header
returns-in_err-give_header g c = λ d q of says.
    let counts = counts_of d q c.args.prepared.now.key in
    let same = c.other_version.ensures ∙ ap other_version (c.version_of-version.ensures.of says.version _ says.lines) in
    cut_one outputs.Log (header_of (other_version says.version)) (lines_bytes (other_version says.version) counts 1 says.said) _ _
    c.give_header.result c.in_err-give_header.field-0.0 c.from_residual.result
    (step_as _ _ _ _ c.give_header.result (ap (λ (v : Version). given_to outputs.Log (header_of v)) same) (c.give_header.ensures counts))
    c.in_err-give_header.was c.from_residual.ensures.1

pub give_lines-requires-clause-left : goal.give_lines-requires-clause-left
give_lines-requires-clause-left g c =
    let (d, q, of, says) = c.requires.says in
    let rest = lines_bytes says.version (counts_of d q c.args.prepared.now.key) 1 says.said in
    let same = c.version_of-version.ensures.of says.version rest says.lines in
    let behind = c.behind_header.ensures rest (says.lines ∙ ap (λ (v : Version). header_of v ++ rest) (sym same)) in
    (d, q, says.said, of, says_left d q c.args.prepared.now.key c.args.bytes.now c.requires.few says _ _ same behind)

pub returns : goal.returns
returns g c = λ d q of says.
    let counts = counts_of d q c.args.prepared.now.key in
    let rest = lines_bytes says.version counts 1 says.said in
    let same = c.version_of-version.ensures.of says.version rest says.lines in
    let behind = c.behind_header.ensures rest (says.lines ∙ ap (λ (v : Version). header_of v ++ rest) (sym same)) in
    then_one outputs.Log (header_of (other_version says.version)) (lines_bytes (other_version says.version) counts 1 says.said) _ _ _
    c.give_header.result c.in_ok-give_header.field-0 c.give_lines.result
    (step_as _ _ _ _ c.give_header.result (ap (λ (v : Version). given_to outputs.Log (header_of v)) (c.other_version.ensures ∙ ap other_version same)) (c.give_header.ensures counts))
    c.in_ok-give_header.was
    (step_as _ _ _ _ c.give_lines.result (ap (λ (v : Version). given_to outputs.Log (lines_bytes (other_version v) counts 1 says.said)) same)
    (c.give_lines.ensures d q says.said of (says_left d q c.args.prepared.now.key c.args.bytes.now c.requires.few says _ _ same behind)))
