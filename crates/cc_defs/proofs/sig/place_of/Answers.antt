use Rattle.std.proofs.Common.{◌+◌, ◌∙◌, sym, ap, length, option_map}
use Rattle.cc_defs.proofs.Places.{in_first, in_second}
use Rattle.cc_defs.proofs.sig.place_of.Goals as goal

pub returns-in-Some : goal.returns-in-Some
returns-in-Some c =
    sym (in_first c.args.fluents.now c.args.actions.now c.args.symbol c.args.args.now c.in-Some.number (sym c.find.ensures ∙ c.in-Some.is))

pub returns-in-Some-find : goal.returns-in-Some-find
returns-in-Some-find c =
    sym (in_second c.args.fluents.now c.args.actions.now c.args.symbol c.args.args.now (sym c.find.ensures ∙ c.in-None.is)
    ∙ ap (option_map (λ i. length c.args.fluents.now + i)) (sym c.find-in-None.ensures ∙ c.in-Some-find.is))

pub returns-in-None-find : goal.returns-in-None-find
returns-in-None-find c =
    sym (in_second c.args.fluents.now c.args.actions.now c.args.symbol c.args.args.now (sym c.find.ensures ∙ c.in-None.is)
    ∙ ap (option_map (λ i. length c.args.fluents.now + i)) (sym c.find-in-None.ensures ∙ c.in-None-find.is))
