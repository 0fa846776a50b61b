use Rattle.std.proofs.Common.{◌∙◌, ap, sym}
use Rattle.std.specs.Option.{option_map}
use Rattle.cc_sorts.proofs.Decided.{found_at_number, number_within, no_number}
use Rattle.cc_sorts.proofs.left.symbol_named.Goals as goal

pub symbol_of-requires : goal.symbol_of-requires
symbol_of-requires c = number_within c.args.name.now (λ placed. placed.symbol.name) c.args.table.now.symbols c.in-Some.symbol c.in-Some.ensures

pub returns-in-Some : goal.returns-in-Some
returns-in-Some c =
    c.symbol_of.ensures
    ∙ ap (option_map (λ placed. placed.symbol)) (sym (found_at_number c.args.name.now (λ placed. placed.symbol.name) c.args.table.now.symbols c.in-Some.symbol c.in-Some.ensures))

pub returns-in-None : goal.returns-in-None
returns-in-None c = ap (option_map (λ placed. placed.symbol)) (sym (no_number c.args.name.now (λ placed. placed.symbol.name) c.args.table.now.symbols c.in-None.ensures))
