use Rattle.std.proofs.Common.{List, map, option_map, subst}
use Rattle.cc_arena.specs.declared.ground_laws.GroundCondition.{GroundCondition}
use Rattle.cc_arena.specs.GroundViews.{plain_ground_condition}
use Rattle.cc_defs.specs.declared.node.Node.{Node}
use Rattle.cc_defs.specs.ClauseLists.{key_terms}
use Rattle.cc_defs.specs.Terms.{postfix}
use Rattle.cc_form.specs.Machine.{IsBuilt, IsPast}
use Rattle.cc_form.specs.Making.{asserted_nodes, nodes_if, query_list}
use Rattle.cc_form.specs.Queries.{condition_nodes}
use Rattle.cc_form.proofs.Finishing.{claim_past, conditions_past, query_done}
use Rattle.cc_form.proofs.Parts.{adds_err}
use Rattle.cc_form.proofs.form.add_query.Goals as goal

pub returns-in_err-assert_all : goal.returns-in_err-assert_all
returns-in_err-assert_all c =
    let b = c.args.writer.now in
    let f : GroundCondition → List Node = λ condition. condition_nodes c.args.stride c.args.horizon (plain_ground_condition condition) in
    adds_err b c.assert_all.new.writer c.from_residual.result (query_list b.places b.last (map f c.args.query.now.conditions) (nodes_if c.args.with_claim (option_map f c.args.query.now.claim)) (map postfix (key_terms b.places (option_map (λ key. key.now) c.args.after)))) c.in_err-assert_all.field-0.0 c.from_residual.ensures.1
    (conditions_past b.places b.last (map f c.args.query.now.conditions) (nodes_if c.args.with_claim (option_map f c.args.query.now.claim)) (map postfix (key_terms b.places (option_map (λ key. key.now) c.args.after))) c.in_err-assert_all.field-0.0
    (subst (λ (l : List GroundCondition). IsPast (asserted_nodes b.places b.last (map f l)).last c.in_err-assert_all.field-0.0) c.items.ensures c.in_err-assert_all.ensures))

pub returns-in_err-deny_if : goal.returns-in_err-deny_if
returns-in_err-deny_if c =
    let b = c.args.writer.now in
    let f : GroundCondition → List Node = λ condition. condition_nodes c.args.stride c.args.horizon (plain_ground_condition condition) in
    adds_err b c.deny_if.new.writer c.from_residual-in_err-deny_if.result (query_list b.places b.last (map f c.args.query.now.conditions) (nodes_if c.args.with_claim (option_map f c.args.query.now.claim)) (map postfix (key_terms b.places (option_map (λ key. key.now) c.args.after)))) c.in_err-deny_if.field-0.0 c.from_residual-in_err-deny_if.ensures.1
    (claim_past b c.assert_all.new.writer (map f c.args.query.now.conditions) (nodes_if c.args.with_claim (option_map f c.args.query.now.claim)) (map postfix (key_terms b.places (option_map (λ key. key.now) c.args.after))) c.in_err-deny_if.field-0.0
    (subst (λ (l : List GroundCondition). IsBuilt b c.assert_all.new.writer (asserted_nodes b.places b.last (map f l)).last (asserted_nodes b.places b.last (map f l)).clauses) c.items.ensures c.in_ok-assert_all.ensures)
    c.in_err-deny_if.ensures)

pub returns : goal.returns
returns c =
    let b = c.args.writer.now in
    let f : GroundCondition → List Node = λ condition. condition_nodes c.args.stride c.args.horizon (plain_ground_condition condition) in
    query_done b c.assert_all.new.writer c.deny_if.new.writer c.follow_if.new.writer (map f c.args.query.now.conditions) (nodes_if c.args.with_claim (option_map f c.args.query.now.claim))
    (λ p. map postfix (key_terms p (option_map (λ key. key.now) c.args.after))) c.follow_if.result
    (subst (λ (l : List GroundCondition). IsBuilt b c.assert_all.new.writer (asserted_nodes b.places b.last (map f l)).last (asserted_nodes b.places b.last (map f l)).clauses) c.items.ensures c.in_ok-assert_all.ensures)
    c.in_ok-deny_if.ensures c.follow_if.ensures
