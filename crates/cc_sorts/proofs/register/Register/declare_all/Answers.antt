use Rattle.std.proofs.Common.{◌∙◌, sym}
use Rattle.cc_sorts.specs.Declaring.{plain_declarations, statement_of}
use Rattle.cc_sorts.specs.Entered.{IsRefusedFor}
use Rattle.cc_sorts.proofs.Declared.{front_none, front_of, declares, want_of_memory}
use Rattle.cc_sorts.proofs.register.Register.declare_all.Goals as goal

pub returns-in_err-refusal-clause-refused : goal.returns-in_err-refusal-clause-refused
returns-in_err-refusal-clause-refused c = λ left part is are.
    want_of_memory c.from_residual.result (IsRefusedFor c.args.file left (statement_of c.args.line part) c.args.self.now c.args.self.now) c.from_residual.ensures.1
    (front_none c.args.file left (statement_of c.args.line part) c.args.self.now is)

pub returns-in_err-put_all-clause-refused : goal.returns-in_err-put_all-clause-refused
returns-in_err-put_all-clause-refused c = λ left part is are.
    want_of_memory c.from_residual-in_err-put_all.result (IsRefusedFor c.args.file left (statement_of c.args.line part) c.args.self.now c.put_all.new.self) c.from_residual-in_err-put_all.ensures.1
    (front_of c.args.file left (statement_of c.args.line part) (plain_declarations c.args.file c.args.line c.args.new.now) c.args.self.now c.put_all.new.self
    are (sym (c.in_ok-refusal.ensures left is) ∙ c.in_default.is) is c.in_err-put_all.ensures.front)

pub returns-clause-declared : goal.returns-clause-declared
returns-clause-declared c = λ left part is are.
    declares c.args.file left (statement_of c.args.line part) (plain_declarations c.args.file c.args.line c.args.new.now) c.args.self.now c.put_all.new.self
    are (sym (c.in_ok-refusal.ensures left is) ∙ c.in_default.is) is c.in_ok-put_all.ensures.put
