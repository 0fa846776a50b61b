use Rattle.std.proofs.Common.{◌∙◌, ℕ, List, IfErr, OnOk, [], ◌∷◌, ◌++◌, ap, length, rules, tests, subst}
use Rattle.cc_defs.specs.declared.node.Node.{Node}
use Rattle.cc_defs.specs.declared.node.Node.TheVariants as nodes
use Rattle.cc_ground.specs.Pieces.{count_behind, nodes_behind}
use Rattle.cc_ground.specs.Views.{HasPut, LacksRoom}
use Rattle.cc_ground.proofs.Putting.{first_lacks, over_some, then_lacks, then_put}
use Rattle.cc_ground.proofs.maker.Maker.put_all_lists.Goals as goal

pub returns-in_err-count-clause-full : goal.returns-in_err-count-clause-full
returns-in_err-count-clause-full c =
    let out = c.from_residual-in_err-count in
    let room = c.args.self.now.room in
    subst (λ (l : List Node). IfErr out.result (LacksRoom (length l) room)) (over_some c.args.equation.now c.args.equation.now.constants.now (search (tests, rules)))
    (first_lacks (nodes_behind c.args.equation.now [] c.args.equation.now.constants.now) (nodes.Any (count_behind c.args.equation.now [] c.args.equation.now.constants.now) ∷ []) room c.in_err-count.field-0.0 out.result out.ensures.1
    (subst (λ (l : List ℕ). LacksRoom (length (nodes_behind c.args.equation.now l c.args.equation.now.constants.now)) room c.in_err-count.field-0.0) c.new-indexes.ensures.items c.in_err-count.ensures.full))

pub returns-clause-put : goal.returns-clause-put
returns-clause-put c =
    let counted = c.in_ok-count.ensures.count ∙ ap (λ (l : List ℕ). count_behind c.args.equation.now l c.args.equation.now.constants.now) c.new-indexes.ensures.items in
    subst (λ (l : List Node). OnOk c.push.result (HasPut l c.args.self.now c.push.new.self)) (ap (λ (n : ℕ). nodes_behind c.args.equation.now [] c.args.equation.now.constants.now ++ nodes.Any n ∷ []) counted ∙ over_some c.args.equation.now c.args.equation.now.constants.now (search (tests, rules)))
    (then_put _ c.push.new.self c.push.result (subst (λ (l : List ℕ). HasPut (nodes_behind c.args.equation.now l c.args.equation.now.constants.now) c.args.self.now c.put_lists.new.self) c.new-indexes.ensures.items c.in_ok-count.ensures.put) c.push.ensures.put)

pub returns-clause-full : goal.returns-clause-full
returns-clause-full c =
    let counted = c.in_ok-count.ensures.count ∙ ap (λ (l : List ℕ). count_behind c.args.equation.now l c.args.equation.now.constants.now) c.new-indexes.ensures.items in
    subst (λ (l : List Node). IfErr c.push.result (LacksRoom (length l) c.args.self.now.room)) (ap (λ (n : ℕ). nodes_behind c.args.equation.now [] c.args.equation.now.constants.now ++ nodes.Any n ∷ []) counted ∙ over_some c.args.equation.now c.args.equation.now.constants.now (search (tests, rules)))
    (then_lacks (nodes.Any c.in_ok-count.count ∷ []) c.push.result (subst (λ (l : List ℕ). HasPut (nodes_behind c.args.equation.now l c.args.equation.now.constants.now) c.args.self.now c.put_lists.new.self) c.new-indexes.ensures.items c.in_ok-count.ensures.put) c.push.ensures.full)
