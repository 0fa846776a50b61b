use Rattle.std.proofs.Common.{◌∙◌, Bor, List, ℕ, ap, map, refl, sym}
use Rattle.std.specs.List.{list_all}
use Rattle.cc_sorts.proofs.Walks.{all_later, all_left, all_stop}
use Rattle.cc_defs.specs.Trees.{PlainShape, plain_shape}
use Rattle.cc_defs.specs.declared.tree.Shape.{Shape}
use Rattle.cc_sorts.specs.Lefts.{are_numbered}
use Rattle.cc_sorts.proofs.left.have_numbers.Goals as goal

pub returns-then-not-are_numbered : goal.returns-then-not-are_numbered
returns-then-not-are_numbered c =
    all_stop (λ (w : List Shape). list_all (λ (shape : PlainShape). are_numbered c.args.table.now.sorts.names shape.sorts c.args.numbers.now) (map plain_shape w)) (λ (x : Shape). (λ (shape : PlainShape). are_numbered c.args.table.now.sorts.names shape.sorts c.args.numbers.now) (plain_shape x)) (λ x rest. refl) c.items-items.result.now c.loop-shape.shape-index (list_all (λ (shape : PlainShape). are_numbered c.args.table.now.sorts.names shape.sorts c.args.numbers.now) (map plain_shape c.args.shapes.now)) c.loop-shape.invariant _ c.loop-shape-test.true
    (sym c.if-not-are_numbered.true ∙ c.are_numbered.ensures ∙ ap (λ (w : List (Bor (List ℕ))). are_numbered c.args.table.now.sorts.names (map (λ (sort : Bor (List ℕ)). sort.now) w) c.args.numbers.now) c.items.ensures ∙ ap (λ (x : Shape). (λ (shape : PlainShape). are_numbered c.args.table.now.sorts.names shape.sorts c.args.numbers.now) (plain_shape x)) c.shape-item.is)

pub loop-shape-preserved : goal.loop-shape-preserved
loop-shape-preserved c =
    all_later (λ (w : List Shape). list_all (λ (shape : PlainShape). are_numbered c.args.table.now.sorts.names shape.sorts c.args.numbers.now) (map plain_shape w)) (λ (x : Shape). (λ (shape : PlainShape). are_numbered c.args.table.now.sorts.names shape.sorts c.args.numbers.now) (plain_shape x)) (λ x rest. refl) c.items-items.result.now c.loop-shape.shape-index (list_all (λ (shape : PlainShape). are_numbered c.args.table.now.sorts.names shape.sorts c.args.numbers.now) (map plain_shape c.args.shapes.now)) c.loop-shape.invariant _ c.loop-shape-test.true
    (sym c.if-not-are_numbered.false ∙ c.are_numbered.ensures ∙ ap (λ (w : List (Bor (List ℕ))). are_numbered c.args.table.now.sorts.names (map (λ (sort : Bor (List ℕ)). sort.now) w) c.args.numbers.now) c.items.ensures ∙ ap (λ (x : Shape). (λ (shape : PlainShape). are_numbered c.args.table.now.sorts.names shape.sorts c.args.numbers.now) (plain_shape x)) c.shape-item.is)

pub returns : goal.returns
returns c = all_left (λ (w : List Shape). list_all (λ (shape : PlainShape). are_numbered c.args.table.now.sorts.names shape.sorts c.args.numbers.now) (map plain_shape w)) (λ (x : Shape). (λ (shape : PlainShape). are_numbered c.args.table.now.sorts.names shape.sorts c.args.numbers.now) (plain_shape x)) (λ x rest. refl) c.items-items.result.now c.loop-shape.shape-index (list_all (λ (shape : PlainShape). are_numbered c.args.table.now.sorts.names shape.sorts c.args.numbers.now) (map plain_shape c.args.shapes.now)) c.loop-shape.invariant refl c.loop-shape-test.false
