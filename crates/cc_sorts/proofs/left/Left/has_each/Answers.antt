use Rattle.std.proofs.Common.{◌∙◌, Bor, List, ℕ, refl, sym}
use Rattle.std.specs.List.{list_all}
use Rattle.cc_sorts.proofs.Walks.{all_later, all_left, all_stop}
use Rattle.cc_sorts.specs.Lefts.{left_has_sort}
use Rattle.cc_sorts.proofs.left.Left.has_each.Goals as goal

pub returns-then-not-is_sort : goal.returns-then-not-is_sort
returns-then-not-is_sort c =
    all_stop (list_all (λ (name : Bor (List ℕ)). left_has_sort c.args.self.now name.now)) (λ (name : Bor (List ℕ)). left_has_sort c.args.self.now name.now) (λ x rest. refl) c.args.names.now c.loop-name.name-index (list_all (λ (name : Bor (List ℕ)). left_has_sort c.args.self.now name.now) c.args.names.now) c.loop-name.invariant _ c.loop-name-test.true
    (sym c.if-not-is_sort.true ∙ c.is_sort.ensures)

pub loop-name-preserved : goal.loop-name-preserved
loop-name-preserved c =
    all_later (list_all (λ (name : Bor (List ℕ)). left_has_sort c.args.self.now name.now)) (λ (name : Bor (List ℕ)). left_has_sort c.args.self.now name.now) (λ x rest. refl) c.args.names.now c.loop-name.name-index (list_all (λ (name : Bor (List ℕ)). left_has_sort c.args.self.now name.now) c.args.names.now) c.loop-name.invariant _ c.loop-name-test.true
    (sym c.if-not-is_sort.false ∙ c.is_sort.ensures)

pub returns : goal.returns
returns c = all_left (list_all (λ (name : Bor (List ℕ)). left_has_sort c.args.self.now name.now)) (λ (name : Bor (List ℕ)). left_has_sort c.args.self.now name.now) (λ x rest. refl) c.args.names.now c.loop-name.name-index (list_all (λ (name : Bor (List ℕ)). left_has_sort c.args.self.now name.now) c.args.names.now) c.loop-name.invariant refl c.loop-name-test.false
