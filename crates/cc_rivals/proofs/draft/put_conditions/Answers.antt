use Rattle.std.proofs.Common.{◌≤◌, ◌+◌, [], ◌∷◌, List, Ok, Err, ap, drop, get_or, map, subst}
use Rattle.std.specs.List.{AllByRecursion}
use Rattle.std.proofs.lemmas.List.{drop_all, drop_more}
use Rattle.cc_arena.specs.declared.ground_laws.GroundCondition.{GroundCondition}
use Rattle.cc_defs.specs.Histories.{step_of}
use Rattle.cc_defs.specs.Terms.{Ground}
use Rattle.cc_rivals.specs.declared.timed.Placed.{Placed}
use Rattle.cc_rivals.specs.Making.{IsPlacedOver, placed_condition, term_at}
use Rattle.cc_rivals.specs.Putting.{put_term, put_terms}
use Rattle.cc_rivals.proofs.Denials.{condition_turn, no_condition}
use Rattle.cc_rivals.proofs.Folding.{loop_ends, loop_fails, loop_turn, puts_alike, terms_fold}
use Rattle.cc_rivals.proofs.draft.put_conditions.Goals as goal

pub returns-in_err-put : goal.returns-in_err-put
returns-in_err-put c =
    let f : GroundCondition → Ground = λ condition. term_at (placed_condition c.args.stride c.args.horizon condition) in
    let cs = c.args.conditions.now in
    let i = c.loop-condition.condition-index in
    loop_fails put_terms terms_fold c.args.draft.now c.loop-condition.draft c.put.new.draft c.from_residual.result c.in_err-put.field-0.0 (map f (drop i cs)) (f (get_or cs i no_condition) ∷ []) (map f (drop (i + 1) cs)) (map f cs)
    c.loop-condition.invariant.0 (condition_turn f cs i c.loop-condition-test.true) c.from_residual.ensures.1
    (puts_alike c.loop-condition.draft c.put.new.draft (Err c.in_err-put.field-0.0) (λ sizes made. put_term sizes made (term_at c.placed_condition.result)) (λ sizes made. put_term sizes made (f (get_or cs i no_condition)))
    (λ sizes made. ap (λ (p : Placed). put_term sizes made (term_at p)) c.placed_condition.ensures) c.in_err-put.ensures)
    c.put.new.draft

pub loop-condition-preserved : goal.loop-condition-preserved
loop-condition-preserved c =
    let f : GroundCondition → Ground = λ condition. term_at (placed_condition c.args.stride c.args.horizon condition) in
    let cs = c.args.conditions.now in
    let i = c.loop-condition.condition-index in (
      loop_turn put_terms terms_fold c.args.draft.now c.loop-condition.draft c.put.new.draft (map f (drop i cs)) (f (get_or cs i no_condition) ∷ []) (map f (drop (i + 1) cs)) (map f cs)
          c.loop-condition.invariant.0 (condition_turn f cs i c.loop-condition-test.true)
          (puts_alike c.loop-condition.draft c.put.new.draft (Ok tt) (λ sizes made. put_term sizes made (term_at c.placed_condition.result)) (λ sizes made. put_term sizes made (f (get_or cs i no_condition)))
          (λ sizes made. ap (λ (p : Placed). put_term sizes made (term_at p)) c.placed_condition.ensures) c.in_ok-put.ensures),
      (subst (λ (l : List GroundCondition). AllByRecursion (λ condition. (step_of condition.at c.args.horizon ≤ 1000) × IsPlacedOver c.args.draft.now.places (placed_condition c.args.stride c.args.horizon condition)) l)
          (drop_more cs i no_condition c.loop-condition-test.true) c.loop-condition.invariant.1).1,
    )

pub returns : goal.returns
returns c =
    let f : GroundCondition → Ground = λ condition. term_at (placed_condition c.args.stride c.args.horizon condition) in
    let cs = c.args.conditions.now in
    let i = c.loop-condition.condition-index in
    loop_ends put_terms terms_fold c.args.draft.now c.loop-condition.draft (map f (drop i cs)) (map f cs) c.loop-condition.invariant.0 (ap (map f) (drop_all i cs c.loop-condition-test.false))
