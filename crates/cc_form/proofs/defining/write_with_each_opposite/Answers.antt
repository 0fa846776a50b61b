use Rattle.std.proofs.Common.{[], ◌∷◌, List, ap, subst, arith}
use Rattle.cc_defs.specs.ClauseForms.{all_written}
use Rattle.cc_defs.specs.Clauses.{Literal, opposite}
use Rattle.cc_form.specs.Store.{Gives}
use Rattle.cc_form.proofs.Keeping.{gives_none}
use Rattle.cc_form.proofs.Definitions.{write_more, mapped_all}
use Rattle.cc_form.proofs.defining.write_with_each_opposite.Goals as goal

pub loop-literal-init : goal.loop-literal-init
loop-literal-init c = gives_none c.args.store.now.kept

pub loop-literal-preserved : goal.loop-literal-preserved
loop-literal-preserved c = write_more (λ literal. c.args.first ∷ opposite literal ∷ []) c.args.literals.now c.loop-literal.literal-index c.literal-item.result (c.args.first ∷ c.opposite.result ∷ [])
    c.args.store.now.kept c.loop-literal.store.kept c.write_two.new.self.kept c.loop-literal-test.true c.literal-item.is (ap (λ l. c.args.first ∷ l ∷ []) c.opposite.ensures) c.loop-literal.invariant c.in_ok-write_two.ensures

pub returns : goal.returns
returns c = subst (λ (l : List (List Literal)). Gives c.args.store.now.kept c.loop-literal.store.kept (all_written l))
    (mapped_all (λ literal. c.args.first ∷ opposite literal ∷ []) c.args.literals.now c.loop-literal.literal-index (let least = c.loop-literal-test.false in let most = c.loop-literal.auto.literal-index-end in omega arith))
    c.loop-literal.invariant
