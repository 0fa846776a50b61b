use Rattle.std.proofs.Common.{◌∙◌, ◌≤◌, ◌+◌, ◌∷◌, [], ap, drop, get_or, map, subst, sym}
use Rattle.cc_arena.specs.declared.ground_laws.GroundCondition.{GroundCondition}
use Rattle.cc_defs.specs.Histories.{step_of}
use Rattle.cc_defs.specs.Terms.{Ground}
use Rattle.cc_rivals.specs.declared.timed.Placed.{Placed}
use Rattle.cc_rivals.specs.Making.{IsPlacedOver, placed_condition, term_at}
use Rattle.cc_rivals.proofs.Denials.{condition_turn, no_condition}
use Rattle.cc_rivals.proofs.Testing.{alone, fails, passes}
use Rattle.cc_rivals.proofs.Turns.{all_split}
use Rattle.cc_rivals.proofs.candidate.meets_conditions.Goals as goal
use Rattle.cc_wide.specs.WideLists.{holds_in}

pub is_true-requires : goal.is_true-requires
is_true-requires c =
    let over = c.loop-condition.invariant.1 in
    let fits = all_split (λ (condition : GroundCondition). (step_of condition.at c.args.horizon ≤ 1000) × IsPlacedOver over.0 (placed_condition c.args.stride c.args.horizon condition)) c.args.conditions.now c.loop-condition.condition-index no_condition c.loop-condition-test.true over.2 in
    (over.0, over.1, subst (IsPlacedOver over.0) (sym c.placed_condition.ensures) fits.0.1)

pub returns-then-not-is_true : goal.returns-then-not-is_true
returns-then-not-is_true c =
    let f : GroundCondition → Ground = λ condition. term_at (placed_condition c.args.stride c.args.horizon condition) in
    let cs = c.args.conditions.now in
    let i = c.loop-condition.condition-index in
    let test = holds_in c.args.row.now in
    fails test (map f (drop i cs)) (map f cs) c.loop-condition.invariant.0 (f (get_or cs i no_condition) ∷ []) (map f (drop (i + 1) cs)) (condition_turn f cs i c.loop-condition-test.true) c.is_true.result
    (alone test (f (get_or cs i no_condition)) c.is_true.result (c.is_true.ensures ∙ ap (λ (p : Placed). test (term_at p)) c.placed_condition.ensures)) c.if-not-is_true.true

pub loop-condition-preserved : goal.loop-condition-preserved
loop-condition-preserved c =
    let f : GroundCondition → Ground = λ condition. term_at (placed_condition c.args.stride c.args.horizon condition) in
    let cs = c.args.conditions.now in
    let i = c.loop-condition.condition-index in
    let over = c.loop-condition.invariant.1 in
    let test = holds_in c.args.row.now in (
      passes test (map f (drop i cs)) (map f cs) c.loop-condition.invariant.0 (f (get_or cs i no_condition) ∷ []) (map f (drop (i + 1) cs)) (condition_turn f cs i c.loop-condition-test.true) c.is_true.result
          (alone test (f (get_or cs i no_condition)) c.is_true.result (c.is_true.ensures ∙ ap (λ (p : Placed). test (term_at p)) c.placed_condition.ensures)) c.if-not-is_true.false,
      (over.0, over.1, (all_split (λ (condition : GroundCondition). (step_of condition.at c.args.horizon ≤ 1000) × IsPlacedOver over.0 (placed_condition c.args.stride c.args.horizon condition)) cs i no_condition c.loop-condition-test.true over.2).1),
    )
