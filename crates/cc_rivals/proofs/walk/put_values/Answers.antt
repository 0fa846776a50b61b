use Rattle.std.proofs.Common.{Bor, [], ◌∷◌, ◌+◌, ◌∙◌, List, ℕ, ap, drop, map, option_map, slice_get}
use Rattle.cc_defs.specs.Rules.{upto}
use Rattle.cc_rivals.specs.Making.{initial_value}
use Rattle.cc_rivals.specs.Putting.{put_rules}
use Rattle.cc_rivals.proofs.Folding.{loop_ends, loop_turn, rules_fold}
use Rattle.cc_rivals.proofs.Turns.{upto_done, value_turn}
use Rattle.cc_rivals.proofs.walk.put_values.Goals as goal

pub put_value-requires-clause-size : goal.put_value-requires-clause-size
put_value-requires-clause-size c = (c.args.size, ap (λ (p : List ℕ). slice_get p c.args.number) c.loop-value.invariant.places ∙ c.requires.size, c.loop-value-test.true)

pub loop-value-preserved : goal.loop-value-preserved
loop-value-preserved c =
    let row = option_map (λ (r : Bor (List ℕ)). r.now) c.args.row in
    let i = c.loop-value.value in
    let f = initial_value c.args.number in
    let n = c.args.size in
    loop_turn (put_rules row) (rules_fold row) c.args.draft.now c.loop-value.draft c.put_value.new.draft (map f (drop i (upto n))) (f i ∷ []) (map f (drop (i + 1) (upto n))) (map f (upto n)) c.loop-value.invariant
    (value_turn c.args.number n i c.loop-value-test.true) c.in_ok-put_value.ensures

pub returns : goal.returns
returns c =
    let row = option_map (λ (r : Bor (List ℕ)). r.now) c.args.row in
    let i = c.loop-value.value in
    let f = initial_value c.args.number in
    let n = c.args.size in
    loop_ends (put_rules row) (rules_fold row) c.args.draft.now c.loop-value.draft (map f (drop i (upto n))) (map f (upto n)) c.loop-value.invariant (ap (map f) (upto_done n i c.loop-value-test.false))
