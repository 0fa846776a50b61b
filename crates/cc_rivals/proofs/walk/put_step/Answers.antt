use Rattle.std.proofs.Common.{Bor, ◌+◌, List, ℕ, ap, drop, get_or, option_map, subst}
use Rattle.std.specs.List.{AllByRecursion}
use Rattle.std.proofs.lemmas.List.{drop_all, drop_more}
use Rattle.cc_rivals.specs.Making.{IsLawOver, placed_at, rules_at_step, rules_in}
use Rattle.cc_rivals.specs.Putting.{put_rules}
use Rattle.cc_rivals.proofs.Folding.{loop_ends, loop_fails, loop_turn, rules_fold}
use Rattle.cc_rivals.proofs.Turns.{law_turn, no_law}
use Rattle.cc_rivals.proofs.walk.put_step.Goals as goal
use Rattle.cc_wide.specs.declared.ground.WideGroundLaw.{WideGroundLaw}

pub returns-in_err-put_law : goal.returns-in_err-put_law
returns-in_err-put_law c =
    let row = option_map (λ (r : Bor (List ℕ)). r.now) c.args.row in
    let laws = c.args.laws.now in
    let i = c.loop-law.law-index in
    loop_fails (put_rules row) (rules_fold row) c.args.draft.now c.loop-law.draft c.put_law.new.draft c.from_residual.result c.in_err-put_law.field-0.0
    (rules_at_step c.args.stride (drop i laws) c.args.horizon c.args.step) (rules_in (placed_at c.args.stride c.args.horizon c.args.step (get_or laws i no_law)))
    (rules_at_step c.args.stride (drop (i + 1) laws) c.args.horizon c.args.step) (rules_at_step c.args.stride laws c.args.horizon c.args.step) c.loop-law.invariant.0
    (law_turn c.args.stride laws c.args.horizon c.args.step i c.loop-law-test.true) c.from_residual.ensures.1 c.in_err-put_law.ensures c.put_law.new.draft

pub loop-law-preserved : goal.loop-law-preserved
loop-law-preserved c =
    let row = option_map (λ (r : Bor (List ℕ)). r.now) c.args.row in
    let laws = c.args.laws.now in
    let i = c.loop-law.law-index in (
      loop_turn (put_rules row) (rules_fold row) c.args.draft.now c.loop-law.draft c.put_law.new.draft
          (rules_at_step c.args.stride (drop i laws) c.args.horizon c.args.step) (rules_in (placed_at c.args.stride c.args.horizon c.args.step (get_or laws i no_law)))
          (rules_at_step c.args.stride (drop (i + 1) laws) c.args.horizon c.args.step) (rules_at_step c.args.stride laws c.args.horizon c.args.step) c.loop-law.invariant.0
          (law_turn c.args.stride laws c.args.horizon c.args.step i c.loop-law-test.true) c.in_ok-put_law.ensures,
      (subst (λ (l : List WideGroundLaw). AllByRecursion (IsLawOver c.args.draft.now.places c.args.stride c.args.horizon c.args.step) l) (drop_more laws i no_law c.loop-law-test.true) c.loop-law.invariant.1).1,
    )

pub returns : goal.returns
returns c =
    let row = option_map (λ (r : Bor (List ℕ)). r.now) c.args.row in
    let laws = c.args.laws.now in
    let i = c.loop-law.law-index in
    loop_ends (put_rules row) (rules_fold row) c.args.draft.now c.loop-law.draft (rules_at_step c.args.stride (drop i laws) c.args.horizon c.args.step) (rules_at_step c.args.stride laws c.args.horizon c.args.step) c.loop-law.invariant.0
    (ap (λ (l : List WideGroundLaw). rules_at_step c.args.stride l c.args.horizon c.args.step) (drop_all i laws c.loop-law-test.false))
