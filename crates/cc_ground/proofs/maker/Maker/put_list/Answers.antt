use Rattle.std.proofs.Common.{List, ℕ, IfErr, [], ◌∷◌, ◌++◌, ◌∙◌, ap, length, subst, sym}
use Rattle.cc_defs.specs.declared.node.Node.{Node}
use Rattle.cc_defs.specs.declared.node.Node.TheVariants as nodes
use Rattle.cc_ground.specs.Pieces.{atom_nodes}
use Rattle.cc_ground.specs.Views.{LacksRoom}
use Rattle.cc_ground.proofs.Putting.{err_if, err_on, first_lacks, list_there, put_as, put_both, second_lacks}
use Rattle.cc_ground.proofs.maker.Maker.put_list.Goals as goal

pub returns-in_err-push-clause-put : goal.returns-in_err-push-clause-put
returns-in_err-push-clause-put c = err_on _ c.from_residual-in_err-push.result c.from_residual-in_err-push.ensures.0

pub returns-in_err-push-clause-count : goal.returns-in_err-push-clause-count
returns-in_err-push-clause-count c = err_if _ c.from_residual-in_err-push.result c.from_residual-in_err-push.ensures.0

pub returns-in_err-count-clause-full : goal.returns-in_err-count-clause-full
returns-in_err-count-clause-full c =
    let out = c.from_residual-in_err-count in
    let atoms = atom_nodes c.args.equation.now.constants.now c.args.indexes.now in
    subst (λ (l : List Node). IfErr out.result (LacksRoom (length l) c.args.self.now.room)) (list_there c.args.equation.now c.args.indexes.now (sym c.in_ok-holds.ensures ∙ c.if-not-branch.false))
    (first_lacks atoms (nodes.All (length atoms) ∷ []) c.args.self.now.room c.in_err-count.field-0.0 out.result out.ensures.1 c.in_err-count.ensures.full)

pub returns-in_err-push-clause-full : goal.returns-in_err-push-clause-full
returns-in_err-push-clause-full c =
    let out = c.from_residual-in_err-push in
    let atoms = atom_nodes c.args.equation.now.constants.now c.args.indexes.now in
    subst (λ (l : List Node). IfErr out.result (LacksRoom (length l) c.args.self.now.room)) (list_there c.args.equation.now c.args.indexes.now (sym c.in_ok-holds.ensures ∙ c.if-not-branch.false))
    (second_lacks atoms (nodes.All (length atoms) ∷ []) c.in_err-push.field-0.0 out.result out.ensures.1 c.in_ok-count.ensures.put c.in_err-push.ensures.full)

pub returns-clause-put : goal.returns-clause-put
returns-clause-put c =
    let atoms = atom_nodes c.args.equation.now.constants.now c.args.indexes.now in
    put_as (ap (λ (n : ℕ). atoms ++ nodes.All n ∷ []) c.in_ok-count.ensures.count ∙ list_there c.args.equation.now c.args.indexes.now (sym c.in_ok-holds.ensures ∙ c.if-not-branch.false)) (put_both c.in_ok-count.ensures.put c.in_ok-push.ensures.put)
