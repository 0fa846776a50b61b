use Rattle.std.proofs.Common.{◌∙◌, ◌+◌, ◌++◌, ◌∷◌, [], List, ℕ, ap, eqb-true, length, subst, sym}
use Rattle.std.proofs.lemmas.Bool.{eqb-false}
use Rattle.cc_defs.specs.declared.log.LogLine.{LogLine}
use Rattle.cc_defs.specs.LogVersions.{own_behind}
use Rattle.cc_convert.specs.Saying.{AreLinesOf, no_axioms}
use Rattle.cc_convert.proofs.SectionLines.{AreReadTo, all_read, begun, more_read, next_there}
use Rattle.cc_convert.proofs.lines.lines_of.Goals as goal

pub loop-rest-init : goal.loop-rest-init
loop-rest-init c =
    subst (AreReadTo c.args.form.now c.args.section.now (c.count-own.result + 1) c.args.section.now.bytes.now)
    (sym (c.in_ok-push.ensures.items ∙ ap (λ (l : List LogLine). l ++ c.heading_of.result ∷ []) c.new-said.ensures.items ∙ ap (λ (l : LogLine). l ∷ []) c.heading_of.ensures))
    (begun c.args.form.now c.args.section.now c.count-own.ensures.form c.requires.few c.requires.right (c.count-own.result + 1) (ap (λ (n : ℕ). n + 1) c.count-own.ensures.value))

pub said_line-requires : goal.said_line-requires
said_line-requires c =
    let next = next_there c.args.form.now c.args.section.now c.loop-rest.own c.loop-rest.rest.now c.loop-rest.said.items c.loop-rest.invariant
    (eqb-false (length c.loop-rest.rest.now) 0 (sym c.is_empty.ensures ∙ c.loop-rest-test.true)) in
    (next.line, next.behind, next.sayable, next.is)

pub next_number-own-requires : goal.next_number-own-requires
next_number-own-requires c =
    (next_there c.args.form.now c.args.section.now c.loop-rest.own c.loop-rest.rest.now c.loop-rest.said.items c.loop-rest.invariant
    (eqb-false (length c.loop-rest.rest.now) 0 (sym c.is_empty.ensures ∙ c.loop-rest-test.true))).sayable.own_short

pub loop-rest-smaller : goal.loop-rest-smaller
loop-rest-smaller c =
    (more_read c.args.form.now c.args.section.now c.loop-rest.own c.loop-rest.rest.now c.loop-rest.said.items c.loop-rest.invariant
    (eqb-false (length c.loop-rest.rest.now) 0 (sym c.is_empty.ensures ∙ c.loop-rest-test.true)) c.in_ok-line.line c.in_ok-line.behind.now c.in_ok-line.ensures).1

pub loop-rest-preserved : goal.loop-rest-preserved
loop-rest-preserved c =
    subst (λ (n : ℕ). AreReadTo c.args.form.now c.args.section.now n c.in_ok-line.behind.now c.push-in-loop-rest.new.self.items) (sym c.next_number-own.ensures)
    (subst (AreReadTo c.args.form.now c.args.section.now (own_behind no_axioms c.loop-rest.own c.in_ok-line.line) c.in_ok-line.behind.now) (sym c.in_ok-push-2.ensures.items)
    (more_read c.args.form.now c.args.section.now c.loop-rest.own c.loop-rest.rest.now c.loop-rest.said.items c.loop-rest.invariant
    (eqb-false (length c.loop-rest.rest.now) 0 (sym c.is_empty.ensures ∙ c.loop-rest-test.true)) c.in_ok-line.line c.in_ok-line.behind.now c.in_ok-line.ensures).0)

pub returns : goal.returns
returns c =
    subst (AreLinesOf c.args.form.now c.args.section.now) (sym c.of.ensures)
    (all_read c.args.form.now c.args.section.now c.loop-rest.own c.loop-rest.rest.now c.loop-rest.said.items c.loop-rest.invariant
    (eqb-true (length c.loop-rest.rest.now) 0 (sym c.is_empty.ensures ∙ c.loop-rest-test.false)))
