use Rattle.std.proofs.Common.{◌∙◌, sym, ap, refl}
use Rattle.std.proofs.lemmas.Bool.{le-ltb}
use Rattle.cc_kernel.specs.Kernels.{clauses_of}
use Rattle.cc_trail.specs.Trails.{TrailView}
use Rattle.cc_trail.proofs.Dropping.{last_covered}
use Rattle.cc_trail.proofs.trail.Trail.is_last_covered.Goals.{then-number-id, else-number-id, then-is_part, else-is_part}
use Rattle.cc_trail.proofs.Ranking.{true_is_false}
use Rattle.cc_trail.proofs.trail.Trail.is_last_covered.Goals as goal

pub returns-then-is_near : goal.returns-then-is_near
returns-then-is_near c near = elim c.if-is_part.branch [
  | else-is_part w ↦ absurd (true_is_false c.if-is_part.value c.if-is_near.true (w.value-is ∙ w.if-is_part.false))
  | then-is_part w ↦ elim c.if-number-id.branch [
    | else-number-id v ↦
        absurd (true_is_false c.if-number-id.value w.if-is_part.true (v.value-is ∙ le-ltb c.in-Some.number.now c.args.id v.if-number-id.false))
    | then-number-id v ↦
        last_covered (clauses_of c.args.kernel.now) c.args.self.now c.deref.result.now (c.deref.ensures.value ∙ ap (λ (t : TrailView). t.longs) c.self.view_is)
        c.in-Some.number.now c.args.id c.in-Some.ensures.item.3 v.if-number-id.true v.clause-then-number-id.result.now v.clause.result.now
        v.clause-then-number-id.ensures.clause v.clause.ensures.clause (v.is_part.ensures (sym v.value-is ∙ w.if-is_part.true))
  ]
]

pub returns-in-None : goal.returns-in-None
returns-in-None c = λ no. absurd (true_is_false _ no refl)

pub returns-else-is_near : goal.returns-else-is_near
returns-else-is_near c = λ yes. absurd (true_is_false c.if-is_part.value yes c.if-is_near.false)
