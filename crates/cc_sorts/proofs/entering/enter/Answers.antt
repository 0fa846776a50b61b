use Rattle.std.proofs.Common.{◌∙◌, ap}
use Rattle.cc_defs.specs.Trees.{plain_statement}
use Rattle.cc_sorts.specs.Declaring.{plain_declarations}
use Rattle.cc_sorts.specs.Entered.{IsRefusedFor}
use Rattle.cc_sorts.proofs.Declared.{front_none, want_of_memory}
use Rattle.cc_sorts.proofs.entering.enter.Goals as goal

pub returns-in_err-add_declarations-clause-refused : goal.returns-in_err-add_declarations-clause-refused
returns-in_err-add_declarations-clause-refused c = λ left is.
    want_of_memory c.from_residual.result (IsRefusedFor c.args.file left (plain_statement c.args.statement.now) c.args.register.now c.args.register.now) c.from_residual.ensures.1
    (front_none c.args.file left (plain_statement c.args.statement.now) c.args.register.now is)

pub returns-clause-refused : goal.returns-clause-refused
returns-clause-refused c = λ left is.
    c.declare_all.ensures.refused left (plain_statement c.args.statement.now).part is
    (ap (plain_declarations c.args.file c.args.statement.now.line) c.deref.ensures.value ∙ rw (c.new-new.ensures.items) at (c.in_ok-add_declarations.ensures c.args.file))
