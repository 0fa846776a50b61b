use Rattle.std.proofs.Common.{Bor, ◌<◌, ◌+◌, ◌∙◌, ◌≤◌, List, ℕ, ap, arith, drop, length, option_map, slice_get, subst}
use Rattle.std.proofs.lemmas.List.{drop_all}
use Rattle.cc_rivals.specs.Putting.{put_rules}
use Rattle.cc_rivals.proofs.Folding.{loop_ends, loop_fails, loop_turn, rules_fold}
use Rattle.cc_rivals.proofs.Stances.{first_stands}
use Rattle.cc_rivals.proofs.Turns.{fluent_sized, fluent_turn, fluent_within}
use Rattle.cc_rivals.proofs.walk.put_all_initial.Goals as goal
use Rattle.cc_wide.specs.WideLists.{all_initial_wide, initial_wide}

pub put_initial-requires-clause-size : goal.put_initial-requires-clause-size
put_initial-requires-clause-size c =
    let sig = c.args.sig.now in
    let i = c.loop-number.number in
    let less : i < length sig.fluents = (let l = c.loop-number-test.true in let f = c.fluents-number-end.ensures in omega arith) in
    ap (λ (p : List ℕ). slice_get p i) (c.loop-number.invariant.places ∙ c.requires.places)
    ∙ first_stands sig c.args.horizon i c.domain_size-size.result (fluent_sized sig.fluents sig.actions i c.from.result c.domain_size-size.result c.constant.result.now less c.from.ensures c.constant.ensures c.domain_size-size.ensures)

pub returns-in_err-put_initial : goal.returns-in_err-put_initial
returns-in_err-put_initial c =
    let row = option_map (λ (r : Bor (List ℕ)). r.now) c.args.row in
    let sig = c.args.sig.now in
    let i = c.loop-number.number in
    let less : i < length sig.fluents = (let l = c.loop-number-test.true in let f = c.fluents-number-end.ensures in omega arith) in
    loop_fails (put_rules row) (rules_fold row) c.args.draft.now c.loop-number.draft c.put_initial.new.draft c.from_residual.result c.in_err-put_initial.field-0.0
    (all_initial_wide i (drop i sig.fluents)) (initial_wide c.constant.result.now.kind i c.domain_size-size.result) (all_initial_wide (i + 1) (drop (i + 1) sig.fluents)) (all_initial_wide 0 sig.fluents) c.loop-number.invariant
    (fluent_turn sig.fluents sig.actions i c.from.result c.domain_size-size.result c.constant.result.now less c.from.ensures c.constant.ensures c.domain_size-size.ensures)
    c.from_residual.ensures.1 c.in_err-put_initial.ensures c.put_initial.new.draft

pub loop-number-preserved : goal.loop-number-preserved
loop-number-preserved c =
    let row = option_map (λ (r : Bor (List ℕ)). r.now) c.args.row in
    let sig = c.args.sig.now in
    let i = c.loop-number.number in
    let less : i < length sig.fluents = (let l = c.loop-number-test.true in let f = c.fluents-number-end.ensures in omega arith) in
    loop_turn (put_rules row) (rules_fold row) c.args.draft.now c.loop-number.draft c.put_initial.new.draft
    (all_initial_wide i (drop i sig.fluents)) (initial_wide c.constant.result.now.kind i c.domain_size-size.result) (all_initial_wide (i + 1) (drop (i + 1) sig.fluents)) (all_initial_wide 0 sig.fluents) c.loop-number.invariant
    (fluent_turn sig.fluents sig.actions i c.from.result c.domain_size-size.result c.constant.result.now less c.from.ensures c.constant.ensures c.domain_size-size.ensures)
    c.in_ok-put_initial.ensures

pub constant-requires : goal.constant-requires
constant-requires c = fluent_within c.args.sig.now.fluents c.args.sig.now.actions c.loop-number.number c.fluents-number-end.result c.loop-number-test.true c.fluents-number-end.ensures

pub returns : goal.returns
returns c =
    let row = option_map (λ (r : Bor (List ℕ)). r.now) c.args.row in
    let fluents = c.args.sig.now.fluents in
    let i = c.loop-number.number in
    loop_ends (put_rules row) (rules_fold row) c.args.draft.now c.loop-number.draft (all_initial_wide i (drop i fluents)) (all_initial_wide 0 fluents) c.loop-number.invariant
    (ap (all_initial_wide i) (drop_all i fluents (subst (λ (n : ℕ). n ≤ i) c.fluents-number-end.ensures c.loop-number-test.false)))
