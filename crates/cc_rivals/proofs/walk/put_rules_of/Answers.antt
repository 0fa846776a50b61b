use Rattle.std.proofs.Common.{Bor, ◌+◌, ◌++◌, ◌∙◌, ◌≤◌, List, ℕ, ap, flat_map, option_map, refl, subst, sym}
use Rattle.std.specs.List.{AllByRecursion}
use Rattle.cc_defs.specs.Rules.{upto}
use Rattle.cc_form.specs.Places.{position_sizes}
use Rattle.cc_rivals.specs.Making.{IsLawOver, most_in_front, rules_at_step}
use Rattle.cc_rivals.specs.Putting.{put_rules}
use Rattle.cc_rivals.proofs.Folding.{loop_begun, loop_fails, puts_alike, puts_then, rules_behind, rules_fold}
use Rattle.cc_rivals.proofs.Stances.{few_in_front, laws_over}
use Rattle.cc_rivals.proofs.walk.put_rules_of.Goals as goal
use Rattle.cc_theory.specs.Making.{stride_of}
use Rattle.cc_wide.specs.WideLists.{WideTimed, all_initial_wide}

pub returns-in_err-put_all_initial : goal.returns-in_err-put_all_initial
returns-in_err-put_all_initial c =
    let row = option_map (λ (r : Bor (List ℕ)). r.now) c.args.row in
    let one = all_initial_wide 0 c.args.sig.now.fluents in
    let other = flat_map (rules_at_step (stride_of c.args.sig.now) c.args.laws.now c.args.horizon) (upto (c.args.horizon + 1)) in
    loop_fails (put_rules row) (rules_fold row) c.args.draft.now c.args.draft.now c.put_all_initial.new.draft c.from_residual.result c.in_err-put_all_initial.field-0.0 (one ++ other) one other (one ++ other)
    (loop_begun (put_rules row) (rules_fold row) c.args.draft.now (one ++ other) (one ++ other) refl) refl c.from_residual.ensures.1 c.in_err-put_all_initial.ensures c.put_all_initial.new.draft

pub put_steps-requires-clause-laws : goal.put_steps-requires-clause-laws
put_steps-requires-clause-laws c = λ step within.
    subst (λ (p : List ℕ). AllByRecursion (IsLawOver p c.stride.result c.args.horizon step) c.args.laws.now) (sym (c.in_ok-put_all_initial.ensures.places ∙ c.requires.places))
    (subst (λ (n : ℕ). AllByRecursion (IsLawOver (position_sizes c.args.sig.now c.args.horizon) n c.args.horizon step) c.args.laws.now) (sym c.stride.ensures.value)
    (laws_over c.args.sig.now most_in_front c.args.horizon (few_in_front c.args.sig.now (subst (λ (n : ℕ). n ≤ 8589934592) c.stride.ensures.value c.stride.ensures.bound) c.args.horizon c.requires.horizon) c.args.laws.now c.requires.laws step within))

pub returns : goal.returns
returns c =
    let row = option_map (λ (r : Bor (List ℕ)). r.now) c.args.row in
    let one = all_initial_wide 0 c.args.sig.now.fluents in
    let other : ℕ → List WideTimed = λ n. flat_map (rules_at_step n c.args.laws.now c.args.horizon) (upto (c.args.horizon + 1)) in
    puts_alike c.args.draft.now c.put_steps.new.draft c.put_steps.result (λ sizes made. put_rules row sizes (put_rules row sizes made one) (other c.stride.result)) (λ sizes made. put_rules row sizes made (one ++ other (stride_of c.args.sig.now)))
    (λ sizes made. ap (λ (n : ℕ). put_rules row sizes (put_rules row sizes made one) (other n)) c.stride.ensures.value ∙ sym (rules_behind row sizes made one (other (stride_of c.args.sig.now))))
    (puts_then c.args.draft.now c.put_all_initial.new.draft c.put_steps.new.draft c.put_steps.result (λ sizes made. put_rules row sizes made one) (λ sizes made. put_rules row sizes made (other c.stride.result))
    c.in_ok-put_all_initial.ensures c.put_steps.ensures)
