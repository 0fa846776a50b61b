use Rattle.std.proofs.Common.{◌∙◌, Bor, List, ℕ, ap, map, refl, sym}
use Rattle.std.specs.List.{list_all}
use Rattle.cc_sorts.proofs.Walks.{all_later, all_left, all_stop}
use Rattle.cc_defs.specs.Trees.{PlainShape, plain_shape}
use Rattle.cc_defs.specs.declared.tree.Shape.{Shape}
use Rattle.cc_defs.specs.DeclarationFaults.{same_sorts}
use Rattle.cc_sorts.proofs.left.each_has_sorts.Goals as goal

pub returns-then-not-same_sorts : goal.returns-then-not-same_sorts
returns-then-not-same_sorts c =
    all_stop (λ (w : List Shape). list_all (λ (shape : PlainShape). same_sorts shape.sorts (map (λ (sort : Bor (List ℕ)). sort.now) c.args.sorts.now)) (map plain_shape w)) (λ (x : Shape). (λ (shape : PlainShape). same_sorts shape.sorts (map (λ (sort : Bor (List ℕ)). sort.now) c.args.sorts.now)) (plain_shape x)) (λ x rest. refl) c.items-items.result.now c.loop-shape.shape-index (list_all (λ (shape : PlainShape). same_sorts shape.sorts (map (λ (sort : Bor (List ℕ)). sort.now) c.args.sorts.now)) (map plain_shape c.args.shapes.now)) c.loop-shape.invariant _ c.loop-shape-test.true
    (sym c.if-not-same_sorts.true ∙ c.same_sorts.ensures ∙ ap (λ (w : List (Bor (List ℕ))). same_sorts (map (λ (sort : Bor (List ℕ)). sort.now) w) (map (λ (sort : Bor (List ℕ)). sort.now) c.args.sorts.now)) c.items.ensures ∙ ap (λ (x : Shape). (λ (shape : PlainShape). same_sorts shape.sorts (map (λ (sort : Bor (List ℕ)). sort.now) c.args.sorts.now)) (plain_shape x)) c.shape-item.is)

pub loop-shape-preserved : goal.loop-shape-preserved
loop-shape-preserved c =
    all_later (λ (w : List Shape). list_all (λ (shape : PlainShape). same_sorts shape.sorts (map (λ (sort : Bor (List ℕ)). sort.now) c.args.sorts.now)) (map plain_shape w)) (λ (x : Shape). (λ (shape : PlainShape). same_sorts shape.sorts (map (λ (sort : Bor (List ℕ)). sort.now) c.args.sorts.now)) (plain_shape x)) (λ x rest. refl) c.items-items.result.now c.loop-shape.shape-index (list_all (λ (shape : PlainShape). same_sorts shape.sorts (map (λ (sort : Bor (List ℕ)). sort.now) c.args.sorts.now)) (map plain_shape c.args.shapes.now)) c.loop-shape.invariant _ c.loop-shape-test.true
    (sym c.if-not-same_sorts.false ∙ c.same_sorts.ensures ∙ ap (λ (w : List (Bor (List ℕ))). same_sorts (map (λ (sort : Bor (List ℕ)). sort.now) w) (map (λ (sort : Bor (List ℕ)). sort.now) c.args.sorts.now)) c.items.ensures ∙ ap (λ (x : Shape). (λ (shape : PlainShape). same_sorts shape.sorts (map (λ (sort : Bor (List ℕ)). sort.now) c.args.sorts.now)) (plain_shape x)) c.shape-item.is)

pub returns : goal.returns
returns c = all_left (λ (w : List Shape). list_all (λ (shape : PlainShape). same_sorts shape.sorts (map (λ (sort : Bor (List ℕ)). sort.now) c.args.sorts.now)) (map plain_shape w)) (λ (x : Shape). (λ (shape : PlainShape). same_sorts shape.sorts (map (λ (sort : Bor (List ℕ)). sort.now) c.args.sorts.now)) (plain_shape x)) (λ x rest. refl) c.items-items.result.now c.loop-shape.shape-index (list_all (λ (shape : PlainShape). same_sorts shape.sorts (map (λ (sort : Bor (List ℕ)). sort.now) c.args.sorts.now)) (map plain_shape c.args.shapes.now)) c.loop-shape.invariant refl c.loop-shape-test.false
