use Rattle.std.proofs.Common.{◌∙◌, sym, ap}
use Rattle.cc_sorts.specs.Shown.{shown}
use Rattle.cc_sorts.proofs.Agreed.{signature_of, refused_of, made_of}
use Rattle.cc_sorts.proofs.Tabled.{shown_is}
use Rattle.cc_sorts.proofs.register.Register.signature.Goals as goal

pub returns-in-Some-clause-refused : goal.returns-in-Some-clause-refused
returns-in-Some-clause-refused c = λ left is. refused_of (shown c.args.self.now) c.in-Some.refusal (sym c.in-Some.is ∙ c.refusal.ensures) left (shown_is c.args.self.now left is)

pub of-requires : goal.of-requires
of-requires c =
    signature_of (shown c.args.self.now) c.in_ok-fluents.fluents.items c.in_ok-actions.actions.items (sym c.refusal.ensures ∙ c.in_default.is) c.in_ok-fluents.ensures.made c.in_ok-actions.ensures.made
    c.in_ok-numbers.numbers.items

pub returns-clause-made : goal.returns-clause-made
returns-clause-made c = λ left is.
    made_of (shown c.args.self.now) c.in_ok-sig.sig c.in_ok-fluents.fluents.items c.in_ok-actions.actions.items c.in_ok-numbers.numbers.items (sym c.refusal.ensures ∙ c.in_default.is) c.in_ok-sig.ensures
    (c.in_ok-numbers.ensures.items ∙ c.numbers.ensures ∙ ap (λ table. table.numbers) c.self.view_is) c.in_ok-fluents.ensures.made c.in_ok-actions.ensures.made c.instances.ensures.numbered left (shown_is c.args.self.now left is)
