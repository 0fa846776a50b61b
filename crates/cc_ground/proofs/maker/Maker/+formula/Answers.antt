use Rattle.std.proofs.Common.{List, ℕ, IfErr, OnOk, [], ◌∷◌, length, refl, ap, subst, sym}
use Rattle.cc_defs.specs.declared.node.Node.{Node}
use Rattle.cc_defs.specs.Terms.{nothing, postfixes}
use Rattle.cc_defs.specs.Resolved.{Formula, plain_formula}
use Rattle.cc_ground.specs.Outermost.{joining_node}
use Rattle.cc_ground.specs.Views.{HasPut, LacksRoom}
use Rattle.cc_ground.proofs.Putting.{behind, err_if, err_on, first_lacks, implies_nodes, joined_nodes, comparison_nodes, lacks_so, nodes_in, not_nodes, one_lacks, put_as, then_lacks, then_put, two_lack, two_put, bracket_nodes, bracket_puts, bracket_lacks, bracket_lacks_last, count_is, instance_at, instance_lacks, instance_put, instances_begin, instances_done, instances_in}
use Rattle.cc_ground.proofs.maker.Maker.+formula.Goals as goal

pub put_instances-loop-object-init : goal.put_instances-loop-object-init
put_instances-loop-object-init t c = instances_begin _ _ _

pub put_instances-returns-in_err-put-clause-full : goal.put_instances-returns-in_err-put-clause-full
put_instances-returns-in_err-put-clause-full t c =
    let maker = c.args.self.now in
    let formula = plain_formula c.args.formula.now in
    let halt = c.in_err-put.field-0.0 in
    lacks_so _ _ halt c.from_residual-in_err-put.result c.from_residual-in_err-put.ensures.1
    (subst (λ (objects : List ℕ). LacksRoom (length (postfixes (behind (instance_at maker formula c.args.variable) nothing objects))) maker.room halt) c.objects_of-objects.ensures
    (instance_lacks formula c.args.variable c.bind.new.self halt c.loop-object.invariant c.loop-object-test.true c.in_ok-bind.ensures.binds c.in_err-put.ensures.full))

pub put_instances-loop-object-preserved : goal.put_instances-loop-object-preserved
put_instances-loop-object-preserved t c =
    instance_put (plain_formula c.args.formula.now) c.args.variable c.put.new.self c.bind.new.self c.unbind.new.self c.loop-object.invariant c.loop-object-test.true c.in_ok-bind.ensures.bound
    c.in_ok-bind.ensures.binds c.in_ok-put.ensures.put (c.unbind.ensures _ _ _)

pub put_with-returns-in_err-put-clause-full : goal.put_with-returns-in_err-put-clause-full
put_with-returns-in_err-put-clause-full t c =
    first_lacks (nodes_in c.args.self.now (plain_formula c.args.formula.now)) (c.args.node ∷ []) c.args.self.now.room c.in_err-put.field-0.0 c.from_residual.result c.from_residual.ensures.1 c.in_err-put.ensures.full

pub put_with-returns-clause-put : goal.put_with-returns-clause-put
put_with-returns-clause-put t c = then_put (c.args.node ∷ []) c.push.new.self c.push.result c.in_ok-put.ensures.put c.push.ensures.put

pub put_with-returns-clause-full : goal.put_with-returns-clause-full
put_with-returns-clause-full t c = then_lacks (c.args.node ∷ []) c.push.result c.in_ok-put.ensures.put c.push.ensures.full

pub put-returns-in-Not-clause-put : goal.put-returns-in-Not-clause-put
put-returns-in-Not-clause-put t c =
    subst (λ (l : List Node). OnOk c.put_with.result (HasPut l c.args.self.now c.put_with.new.self)) (not_nodes c.args.self.now c.args.formula.now c.deref.result.now c.in-Not.inner c.in-Not.is c.deref.ensures) c.put_with.ensures.put

pub put-returns-in-Not-clause-full : goal.put-returns-in-Not-clause-full
put-returns-in-Not-clause-full t c =
    subst (λ (l : List Node). IfErr c.put_with.result (LacksRoom (length l) c.args.self.now.room)) (not_nodes c.args.self.now c.args.formula.now c.deref.result.now c.in-Not.inner c.in-Not.is c.deref.ensures) c.put_with.ensures.full

pub put-returns-in_ok-put_with-in-Implies-clause-put : goal.put-returns-in_ok-put_with-in-Implies-clause-put
put-returns-in_ok-put_with-in-Implies-clause-put t c = two_put c.put_with-in-Implies-2.new.self c.put_with-in-Implies-2.result (implies_nodes c.args.self.now c.args.formula.now c.deref-in-Implies.result.now c.deref-in-Implies-2.result.now c.in-Implies.left c.in-Implies.right c.in-Implies.is c.deref-in-Implies.ensures c.deref-in-Implies-2.ensures) c.in_ok-put_with-in-Implies.ensures.put c.put_with-in-Implies-2.ensures.put

pub put-returns-in_ok-put_with-in-Implies-clause-full : goal.put-returns-in_ok-put_with-in-Implies-clause-full
put-returns-in_ok-put_with-in-Implies-clause-full t c = two_lack c.put_with-in-Implies-2.result (implies_nodes c.args.self.now c.args.formula.now c.deref-in-Implies.result.now c.deref-in-Implies-2.result.now c.in-Implies.left c.in-Implies.right c.in-Implies.is c.deref-in-Implies.ensures c.deref-in-Implies-2.ensures) c.in_ok-put_with-in-Implies.ensures.put c.put_with-in-Implies-2.ensures.full

pub put-returns-in-True-clause-put : goal.put-returns-in-True-clause-put
put-returns-in-True-clause-put t c = subst (λ (f : Formula). OnOk c.push.result (HasPut (nodes_in c.args.self.now f) c.args.self.now c.push.new.self)) (sym (ap plain_formula c.in-True.is)) c.push.ensures.put

pub put-returns-in-True-clause-full : goal.put-returns-in-True-clause-full
put-returns-in-True-clause-full t c = subst (λ (f : Formula). IfErr c.push.result (LacksRoom (length (nodes_in c.args.self.now f)) c.args.self.now.room)) (sym (ap plain_formula c.in-True.is)) c.push.ensures.full

pub put-returns-in-False-clause-put : goal.put-returns-in-False-clause-put
put-returns-in-False-clause-put t c = subst (λ (f : Formula). OnOk c.push-in-False.result (HasPut (nodes_in c.args.self.now f) c.args.self.now c.push-in-False.new.self)) (sym (ap plain_formula c.in-False.is)) c.push-in-False.ensures.put

pub put-returns-in-False-clause-full : goal.put-returns-in-False-clause-full
put-returns-in-False-clause-full t c = subst (λ (f : Formula). IfErr c.push-in-False.result (LacksRoom (length (nodes_in c.args.self.now f)) c.args.self.now.room)) (sym (ap plain_formula c.in-False.is)) c.push-in-False.ensures.full

pub put-returns-in-Equal-clause-put : goal.put-returns-in-Equal-clause-put
put-returns-in-Equal-clause-put t c = subst (λ (f : Formula). OnOk c.put_equal.result (HasPut (nodes_in c.args.self.now f) c.args.self.now c.put_equal.new.self)) (sym (ap plain_formula c.in-Equal.is)) c.put_equal.ensures.put

pub put-returns-in-Equal-clause-full : goal.put-returns-in-Equal-clause-full
put-returns-in-Equal-clause-full t c = subst (λ (f : Formula). IfErr c.put_equal.result (LacksRoom (length (nodes_in c.args.self.now f)) c.args.self.now.room)) (sym (ap plain_formula c.in-Equal.is)) c.put_equal.ensures.full

pub put_with-returns-in_err-put-clause-put : goal.put_with-returns-in_err-put-clause-put
put_with-returns-in_err-put-clause-put t c = err_on _ c.from_residual.result c.from_residual.ensures.0

pub put_instances-returns-in_err-bind-clause-put : goal.put_instances-returns-in_err-bind-clause-put
put_instances-returns-in_err-bind-clause-put t c = err_on _ c.from_residual.result c.from_residual.ensures.0

pub put_instances-returns-in_err-bind-clause-count : goal.put_instances-returns-in_err-bind-clause-count
put_instances-returns-in_err-bind-clause-count t c = err_if _ c.from_residual.result c.from_residual.ensures.0

pub put_instances-returns-in_err-put-clause-put : goal.put_instances-returns-in_err-put-clause-put
put_instances-returns-in_err-put-clause-put t c = err_on _ c.from_residual-in_err-put.result c.from_residual-in_err-put.ensures.0

pub put_instances-returns-in_err-put-clause-count : goal.put_instances-returns-in_err-put-clause-count
put_instances-returns-in_err-put-clause-count t c = err_if _ c.from_residual-in_err-put.result c.from_residual-in_err-put.ensures.0

pub put_instances-returns-in_err-narrow-clause-put : goal.put_instances-returns-in_err-narrow-clause-put
put_instances-returns-in_err-narrow-clause-put t c = err_on _ c.from_residual-in_err-narrow.result c.from_residual-in_err-narrow.ensures.0

pub put_instances-returns-in_err-narrow-clause-count : goal.put_instances-returns-in_err-narrow-clause-count
put_instances-returns-in_err-narrow-clause-count t c = err_if _ c.from_residual-in_err-narrow.result c.from_residual-in_err-narrow.ensures.0

pub put_instances-returns-clause-put : goal.put_instances-returns-clause-put
put_instances-returns-clause-put t c =
    put_as (ap (λ (l : List ℕ). postfixes (behind (instance_at c.args.self.now (plain_formula c.args.formula.now) c.args.variable) nothing l)) c.objects_of-objects.ensures) (instances_done c.loop-object.invariant c.loop-object-test.false)

pub put-returns-in-Less-clause-put : goal.put-returns-in-Less-clause-put
put-returns-in-Less-clause-put t c =
    subst (λ (l : List Node). OnOk c.put_judged.result (HasPut l c.args.self.now c.put_judged.new.self)) (comparison_nodes c.args.self.now c.args.formula.now c.sign_in.result c.in-Less.left c.in-Less.right c.in-Less.is c.sign_in.ensures)
    c.put_judged.ensures.put

pub put-returns-in-Less-clause-full : goal.put-returns-in-Less-clause-full
put-returns-in-Less-clause-full t c =
    subst (λ (l : List Node). IfErr c.put_judged.result (LacksRoom (length l) c.args.self.now.room)) (comparison_nodes c.args.self.now c.args.formula.now c.sign_in.result c.in-Less.left c.in-Less.right c.in-Less.is c.sign_in.ensures)
    c.put_judged.ensures.full

pub put-returns-in_err-put_with-in-Implies-clause-put : goal.put-returns-in_err-put_with-in-Implies-clause-put
put-returns-in_err-put_with-in-Implies-clause-put t c = err_on _ c.from_residual.result c.from_residual.ensures.0

pub put-returns-in_err-put_with-in-Implies-clause-full : goal.put-returns-in_err-put_with-in-Implies-clause-full
put-returns-in_err-put_with-in-Implies-clause-full t c = one_lacks c.in_err-put_with-in-Implies.field-0.0 c.from_residual.result (implies_nodes c.args.self.now c.args.formula.now c.deref-in-Implies.result.now c.in-Implies.right.value c.in-Implies.left c.in-Implies.right c.in-Implies.is c.deref-in-Implies.ensures refl) c.from_residual.ensures.1 c.in_err-put_with-in-Implies.ensures.full

pub put-returns-in_err-put-in-Both-clause-put : goal.put-returns-in_err-put-in-Both-clause-put
put-returns-in_err-put-in-Both-clause-put t c = err_on _ c.from_residual-in_err-put-in-Both.result c.from_residual-in_err-put-in-Both.ensures.0

pub put-returns-in_err-put-in-Both-clause-full : goal.put-returns-in_err-put-in-Both-clause-full
put-returns-in_err-put-in-Both-clause-full t c =
    one_lacks c.in_err-put-in-Both.field-0.0 c.from_residual-in_err-put-in-Both.result
    (joined_nodes c.args.self.now c.args.formula.now c.deref-in-Both.result.now c.in-Both.right.value c.in-Both.left c.in-Both.right (joining_node (plain_formula c.args.formula.now) 2) c.in-Both.is refl c.deref-in-Both.ensures refl)
    c.from_residual-in_err-put-in-Both.ensures.1 c.in_err-put-in-Both.ensures.full

pub put-returns-in_ok-put-in-Both-clause-put : goal.put-returns-in_ok-put-in-Both-clause-put
put-returns-in_ok-put-in-Both-clause-put t c =
    two_put c.put_with-in-Both.new.self c.put_with-in-Both.result
    (joined_nodes c.args.self.now c.args.formula.now c.deref-in-Both.result.now c.deref-in-Both-2.result.now c.in-Both.left c.in-Both.right c.joining_node-in-Both.result c.in-Both.is c.joining_node-in-Both.ensures c.deref-in-Both.ensures c.deref-in-Both-2.ensures)
    c.in_ok-put-in-Both.ensures.put c.put_with-in-Both.ensures.put

pub put-returns-in_ok-put-in-Both-clause-full : goal.put-returns-in_ok-put-in-Both-clause-full
put-returns-in_ok-put-in-Both-clause-full t c =
    two_lack c.put_with-in-Both.result
    (joined_nodes c.args.self.now c.args.formula.now c.deref-in-Both.result.now c.deref-in-Both-2.result.now c.in-Both.left c.in-Both.right c.joining_node-in-Both.result c.in-Both.is c.joining_node-in-Both.ensures c.deref-in-Both.ensures c.deref-in-Both-2.ensures)
    c.in_ok-put-in-Both.ensures.put c.put_with-in-Both.ensures.full

pub put-returns-in_err-count-in-ForAll-clause-put : goal.put-returns-in_err-count-in-ForAll-clause-put
put-returns-in_err-count-in-ForAll-clause-put t c = err_on _ c.from_residual-in_err-count-in-ForAll.result c.from_residual-in_err-count-in-ForAll.ensures.0

pub put-returns-in_err-count-in-ForAll-clause-full : goal.put-returns-in_err-count-in-ForAll-clause-full
put-returns-in_err-count-in-ForAll-clause-full t c =
    let maker = c.args.self.now in
    bracket_lacks _ (instances_in maker (plain_formula c.deref-in-ForAll.result.now) c.in-ForAll.variable c.in-ForAll.sort) _ c.in_err-count-in-ForAll.field-0.0 c.from_residual-in_err-count-in-ForAll.result
    (bracket_nodes maker c.args.formula.now c.deref-in-ForAll.result.now c.in-ForAll.variable c.in-ForAll.sort c.in-ForAll.inner c.in-ForAll.is c.deref-in-ForAll.ensures)
    c.from_residual-in_err-count-in-ForAll.ensures.1 c.in_err-count-in-ForAll.ensures.full

pub put-returns-in_ok-count-in-ForAll-clause-put : goal.put-returns-in_ok-count-in-ForAll-clause-put
put-returns-in_ok-count-in-ForAll-clause-put t c =
    let maker = c.args.self.now in
    let inner = plain_formula c.deref-in-ForAll.result.now in
    bracket_puts (joining_node (plain_formula c.args.formula.now)) (instances_in maker inner c.in-ForAll.variable c.in-ForAll.sort) c.push-in-ForAll.new.self c.push-in-ForAll.result
    (bracket_nodes maker c.args.formula.now c.deref-in-ForAll.result.now c.in-ForAll.variable c.in-ForAll.sort c.in-ForAll.inner c.in-ForAll.is c.deref-in-ForAll.ensures)
    c.joining_node.ensures (count_is maker inner c.in-ForAll.variable c.in-ForAll.sort c.in_ok-count-in-ForAll.ensures.count) c.in_ok-count-in-ForAll.ensures.put c.push-in-ForAll.ensures.put

pub put-returns-in_ok-count-in-ForAll-clause-full : goal.put-returns-in_ok-count-in-ForAll-clause-full
put-returns-in_ok-count-in-ForAll-clause-full t c =
    let maker = c.args.self.now in
    bracket_lacks_last _ (instances_in maker (plain_formula c.deref-in-ForAll.result.now) c.in-ForAll.variable c.in-ForAll.sort) c.push-in-ForAll.result
    (bracket_nodes maker c.args.formula.now c.deref-in-ForAll.result.now c.in-ForAll.variable c.in-ForAll.sort c.in-ForAll.inner c.in-ForAll.is c.deref-in-ForAll.ensures)
    c.in_ok-count-in-ForAll.ensures.put c.push-in-ForAll.ensures.full
