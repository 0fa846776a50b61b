use Rattle.std.proofs.Common.{◌∙◌, Some, ap, sym}
use Rattle.cc_defs.specs.Resolved.{Constant, Equal, Terms, Variable}
use Rattle.cc_laws.specs.declared.values.Persistence.{Persistence}
use Rattle.cc_laws.specs.Expansion.{after_of, body_of}
use Rattle.cc_laws.specs.Views.{persistence_of, row_terms}
use Rattle.cc_laws.proofs.values.value_parts.Goals as goal

pub returns-in-Exogenous-clause-body : goal.returns-in-Exogenous-clause-body
returns-in-Exogenous-clause-body c =
    let own = λ (args : Terms). Equal (Constant c.args.symbol args) (Variable c.args.variable) in
    c.equation_of.ensures ∙ ap own c.in_ok-copies.ensures ∙ sym (ap (λ (p : Persistence). body_of (persistence_of p) (own (row_terms c.args.args.now))) c.in-Exogenous.is)

pub returns-in-Exogenous-clause-after : goal.returns-in-Exogenous-clause-after
returns-in-Exogenous-clause-after c =
    let own = λ (args : Terms). Equal (Constant c.args.symbol args) (Variable c.args.variable) in
    sym (ap (λ (p : Persistence). after_of (persistence_of p) (own (row_terms c.args.args.now))) c.in-Exogenous.is)

pub returns-in_ok-others-in-Inertial-clause-body : goal.returns-in_ok-others-in-Inertial-clause-body
returns-in_ok-others-in-Inertial-clause-body c =
    let own = λ (args : Terms). Equal (Constant c.args.symbol args) (Variable c.args.variable) in
    c.equation_of-in-Inertial.ensures ∙ ap own c.in_ok-copies.ensures ∙ sym (ap (λ (p : Persistence). body_of (persistence_of p) (own (row_terms c.args.args.now))) c.in-Inertial.is)

pub returns-in_ok-others-in-Inertial-clause-after : goal.returns-in_ok-others-in-Inertial-clause-after
returns-in_ok-others-in-Inertial-clause-after c =
    let own = λ (args : Terms). Equal (Constant c.args.symbol args) (Variable c.args.variable) in
    ap Some (c.equation_of-in-Inertial-2.ensures ∙ ap own c.in_ok-others-in-Inertial.ensures) ∙ sym (ap (λ (p : Persistence). after_of (persistence_of p) (own (row_terms c.args.args.now))) c.in-Inertial.is)

pub returns-in-Rigid-clause-body : goal.returns-in-Rigid-clause-body
returns-in-Rigid-clause-body c =
    let own = λ (args : Terms). Equal (Constant c.args.symbol args) (Variable c.args.variable) in
    sym (ap (λ (p : Persistence). body_of (persistence_of p) (own (row_terms c.args.args.now))) c.in-Rigid.is)

pub returns-in-Rigid-clause-after : goal.returns-in-Rigid-clause-after
returns-in-Rigid-clause-after c =
    let own = λ (args : Terms). Equal (Constant c.args.symbol args) (Variable c.args.variable) in
    ap Some (c.equation_of-in-Rigid.ensures ∙ ap own c.in_ok-copies.ensures) ∙ sym (ap (λ (p : Persistence). after_of (persistence_of p) (own (row_terms c.args.args.now))) c.in-Rigid.is)
