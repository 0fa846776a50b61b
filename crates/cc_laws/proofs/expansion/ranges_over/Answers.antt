use Rattle.std.proofs.Common.{[], ◌∷◌, get_or, map, refl}
use Rattle.cc_defs.specs.declared.law.Range.TheVariants as ranges
use Rattle.cc_laws.proofs.Fronts.{front_more, front_all}
use Rattle.cc_laws.proofs.expansion.ranges_over.Goals as goal

pub loop-sort-preserved : goal.loop-sort-preserved
loop-sort-preserved c =
    front_more (map ranges.Sort) (λ sort. ranges.Sort sort ∷ []) c.args.sorts.now c.loop-sort.sort-index c.loop-sort.ranges.items _ c.loop-sort.invariant (λ _ _. refl) 0 (get_or c.args.sorts.now c.loop-sort.sort-index 0) _ c.loop-sort-test.true refl c.in_ok-push.ensures.items

pub returns : goal.returns
returns c = front_all (map ranges.Sort) (λ sort. ranges.Sort sort ∷ []) c.args.sorts.now c.loop-sort.sort-index c.loop-sort.ranges.items _ c.loop-sort.invariant refl c.loop-sort-test.false
