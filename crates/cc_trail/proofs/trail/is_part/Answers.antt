use Rattle.cc_trail.proofs.trail.is_part.Goals.{then-met-part+then-eq, else-met-part}
use Rattle.std.proofs.Common.{◌≤◌, ℕ, length, subst, sym, take, arith, eqb-true, List}
use Rattle.cc_trail.proofs.Attaching.{part_next}
use Rattle.cc_trail.proofs.Choosing.{codes_same}
use Rattle.cc_defs.specs.Clauses.{Literal}
use Rattle.std.specs.Prelude.{Contains}
use Rattle.std.proofs.lemmas.List.{take_all}
use Rattle.cc_trail.proofs.trail.is_part.Goals as goal

pub loop-lit-preserved : goal.loop-lit-preserved
loop-lit-preserved c = elim c.if-met-part.branch [
  | then-met-part+then-eq w ↦ subst (λ (n : ℕ). (n ≤ length c.args.part.now) × ((literal : Literal) → Contains (take n c.args.part.now) literal → Contains c.args.clause.now literal)) (sym w.met-is) (
    (let low = w.if-met-part.true in omega arith),
    part_next c.args.part.now c.args.clause.now c.loop-lit.met c.loop-lit.lit-index w.index-part-met.result c.lit-item.result w.if-met-part.true c.loop-lit-test.true
        w.index-part-met.is c.lit-item.is (codes_same w.index-part-met.result c.lit-item.result w.eq.result w.eq.ensures w.if-eq.true) c.loop-lit.invariant.1,
  )
  | else-met-part w ↦ subst (λ (n : ℕ). (n ≤ length c.args.part.now) × ((literal : Literal) → Contains (take n c.args.part.now) literal → Contains c.args.clause.now literal)) (sym w.met-is) c.loop-lit.invariant
]

pub returns : goal.returns
returns c = λ yes literal here.
    let all = eqb-true c.loop-lit.met (length c.args.part.now) yes in
    c.loop-lit.invariant.1 literal (subst (λ (ls : List Literal). Contains ls literal) (sym (take_all c.loop-lit.met c.args.part.now (omega arith))) here)
