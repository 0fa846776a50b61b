use Rattle.std.proofs.Common.{◌∙◌, sym, false, true}
use Rattle.cc_defs.specs.DeclarationFaults.{is_empty}
use Rattle.cc_sorts.specs.Instances.{instances_from}
use Rattle.cc_sorts.proofs.Listed.{found_first, found_second}
use Rattle.cc_sorts.specs.Shown.{shown}
use Rattle.cc_sorts.proofs.register.Register.empty_symbol.Goals as goal

pub returns-in-Some : goal.returns-in-Some
returns-in-Some c =
    sym (found_first is_empty (instances_from (shown c.args.self.now).sorts false 0 c.args.self.now.symbols) (instances_from (shown c.args.self.now).sorts true 0 c.args.self.now.symbols) c.in-Some.number
    (sym c.first_empty.ensures ∙ c.in-Some.is))

pub returns-in-None : goal.returns-in-None
returns-in-None c =
    c.first_empty-in-None.ensures
    ∙ sym (found_second is_empty (instances_from (shown c.args.self.now).sorts false 0 c.args.self.now.symbols) (instances_from (shown c.args.self.now).sorts true 0 c.args.self.now.symbols)
    (sym c.first_empty.ensures ∙ c.in-None.is))
