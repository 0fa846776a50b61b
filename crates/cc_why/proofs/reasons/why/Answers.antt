use Rattle.std.proofs.Common.{◌≡◌, ◌∙◌, ◌++◌, ℕ, Option, ap, drop, length, map, sym, take, unwrap_or}
use Rattle.std.proofs.Math.Seq.{take-append_seam}
use Rattle.cc_why.proofs.Found.{row_is, told}
use Rattle.cc_why.proofs.Rows.{atoms_there, bare, bare_signature, constants_there, count_is}
use Rattle.cc_why.proofs.Standing.{stand_in}
use Rattle.cc_why.proofs.Values.{length_values}
use Rattle.cc_why.specs.declared.cause.Cause.{Cause}
use Rattle.cc_why.specs.declared.cause.Cause.TheVariants as kinds
use Rattle.cc_why.specs.Noting.{first_of}
use Rattle.cc_why.proofs.reasons.why.Goals as goal

pub first_causes-requires : goal.first_causes-requires
first_causes-requires c = λ some.
    let s = c.args.sig.now in
    let row = c.args.row.now in
    let is = row_is c.models_are_paths.ensures s c.args.laws.now c.requires.laws c.args.horizon row c.requires.path (bare s) (bare_signature s) in
    constants_there s c.args.horizon row (atoms_there c.positions_have_sizes.ensures (bare s) s (bare_signature s) c.args.horizon row is) some

pub note_steps-requires-clause-fit : goal.note_steps-requires-clause-fit
note_steps-requires-clause-fit c =
    let s = c.args.sig.now in
    let row = c.args.row.now in
    let is = row_is c.models_are_paths.ensures s c.args.laws.now c.requires.laws c.args.horizon row c.requires.path (bare s) (bare_signature s) in
    let long = count_is c.positions_have_sizes.ensures (bare s) s (bare_signature s) c.args.horizon row is in
    stand_in s c.args.laws.now c.requires.laws c.args.horizon (length row) c.stride.result long c.stride.ensures c.laws.result.now c.laws.ensures

pub note_steps-requires-clause-long : goal.note_steps-requires-clause-long
note_steps-requires-clause-long c =
    ap length c.deref_mut.ensures.value ∙ ap length c.in_ok-causes.ensures ∙ length_values (first_of c.args.sig.now) (length c.args.row.now)

pub returns : goal.returns
returns c = λ d of.
    let causes = c.in_ok-causes.causes in
    let new = c.note_steps.new.causes in
    let many : length causes.items ≡ length c.args.row.now = ap length c.in_ok-causes.ensures ∙ length_values (first_of c.args.sig.now) (length c.args.row.now) in
    let long : causes.len ≡ length new = causes.ok.0 ∙ many ∙ sym c.note_steps.ensures.long in
    let read : c.deref.result.now ≡ new = c.deref.ensures.value ∙ ap (λ (n : ℕ). take n (new ++ drop (length new) causes.items)) long ∙ take-append_seam new (drop (length new) causes.items) in
    told c.models_are_paths.ensures c.args.sig.now c.args.laws.now c.requires.laws c.args.horizon c.args.row.now c.requires.path c.positions_have_sizes.ensures c.models_meet_completion.ensures
    c.stride.result c.stride.ensures c.laws.result.now c.laws.ensures c.deref_mut.result.now c.note_steps.new.causes (c.deref_mut.ensures.value ∙ c.in_ok-causes.ensures) c.note_steps.ensures.noted
    c.of.result (c.of.ensures ∙ c.in_ok-all_there.ensures ∙ ap (map (λ (cause : Option Cause). unwrap_or cause kinds.OneValue)) read) d of
