use Rattle.std.proofs.Common.{sym, ◌∙◌}
use Rattle.cc_laws.proofs.Meant.{found_within, nothing_meant, object_meant, variable_meant, constant_meant, unknown_meant}
use Rattle.cc_laws.proofs.meaning.meaning_of.Goals as goal

pub returns-then-eq : goal.returns-then-eq
returns-then-eq c = nothing_meant c.args.table.now c.args.name.now (sym c.eq.ensures ∙ c.if-eq.true)

pub object_sort-requires : goal.object_sort-requires
object_sort-requires c = found_within _ c.args.table.now.objects c.args.name.now _ (sym c.object.ensures ∙ c.in-Some.is)

pub returns-in-Some : goal.returns-in-Some
returns-in-Some c =
    object_meant c.args.table.now c.args.name.now c.in-Some.object c.object_sort.result (sym c.eq.ensures ∙ c.if-eq.false) (sym c.object.ensures ∙ c.in-Some.is)
    c.object_sort.ensures

pub sort_of-requires : goal.sort_of-requires
sort_of-requires c = found_within _ c.args.table.now.variables c.args.name.now _ (sym c.variable.ensures ∙ c.in-Some-variable.is)

pub returns-in-Some-variable : goal.returns-in-Some-variable
returns-in-Some-variable c =
    variable_meant c.args.table.now c.args.name.now c.in-Some-variable.variable c.sort_of.result (sym c.eq.ensures ∙ c.if-eq.false)
    (sym c.object.ensures ∙ c.in_default.is) (sym c.variable.ensures ∙ c.in-Some-variable.is) c.sort_of.ensures

pub symbol_of-requires : goal.symbol_of-requires
symbol_of-requires c = found_within _ c.args.table.now.symbols c.args.name.now _ (sym c.symbol.ensures ∙ c.in-Some-symbol.is)

pub returns-in-Some-symbol : goal.returns-in-Some-symbol
returns-in-Some-symbol c =
    constant_meant c.args.table.now c.args.name.now c.in-Some-symbol.symbol c.symbol_of.result.now (sym c.eq.ensures ∙ c.if-eq.false)
    (sym c.object.ensures ∙ c.in_default.is) (sym c.variable.ensures ∙ c.in_default-variable.is) (sym c.symbol.ensures ∙ c.in-Some-symbol.is) c.symbol_of.ensures

pub returns-in-None : goal.returns-in-None
returns-in-None c =
    unknown_meant c.args.table.now c.args.name.now (sym c.eq.ensures ∙ c.if-eq.false) (sym c.object.ensures ∙ c.in_default.is)
    (sym c.variable.ensures ∙ c.in_default-variable.is) (sym c.symbol.ensures ∙ c.in-None.is)
