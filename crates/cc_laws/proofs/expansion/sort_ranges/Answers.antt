use Rattle.std.proofs.Common.{[], ◌∷◌, ◌++◌, get_or, refl, ap, ◌∙◌}
use Rattle.cc_defs.specs.declared.law.Range.TheVariants as ranges
use Rattle.cc_laws.specs.Expansion.{sort_ranges}
use Rattle.cc_laws.specs.Vocabulary.{sort_of_entry, vocabulary_of}
use Rattle.cc_laws.proofs.Fronts.{front_more, front_all}
use Rattle.cc_laws.proofs.expansion.sort_ranges.Goals as goal

pub loop-variable-preserved : goal.loop-variable-preserved
loop-variable-preserved c =
    let v = vocabulary_of c.args.table.now in
    front_more (sort_ranges v) (λ variable. ranges.Sort (sort_of_entry v.variables variable) ∷ []) c.args.variables.now c.loop-variable.variable-index c.loop-variable.ranges.items _ c.loop-variable.invariant (λ _ _. refl) 0 (get_or c.args.variables.now c.loop-variable.variable-index 0) _ c.loop-variable-test.true refl
    (c.in_ok-push.ensures.items ∙ ap (λ sort. c.loop-variable.ranges.items ++ ranges.Sort sort ∷ []) c.sort_of.ensures)

pub returns : goal.returns
returns c =
    let v = vocabulary_of c.args.table.now in
    front_all (sort_ranges v) (λ variable. ranges.Sort (sort_of_entry v.variables variable) ∷ []) c.args.variables.now c.loop-variable.variable-index c.loop-variable.ranges.items _ c.loop-variable.invariant refl c.loop-variable-test.false
