use Rattle.std.proofs.Common.{◌∙◌, ◌∷◌, [], List, ℕ, ap, arith, sym}
use Rattle.std.proofs.lemmas.List.{map-append}
use Rattle.std.proofs.lemmas.Result.{on_ok_weaker, on_err_weaker}
use Rattle.cc_defs.specs.Trees.{plain_kind, plain_shape}
use Rattle.cc_sorts.specs.Dictionaries.{number_of, values_of}
use Rattle.cc_sorts.specs.Lists.{lists_of}
use Rattle.cc_sorts.specs.declared.table.Placed.{Placed}
use Rattle.cc_sorts.specs.Steps.{new_symbol}
use Rattle.cc_sorts.specs.Tables.{TableView, symbol_names}
use Rattle.cc_sorts.proofs.Past.{fits_symbol, missing, symbol_is, viewed}
use Rattle.cc_sorts.proofs.register.Register.put_symbol.Goals as goal

pub invariant_of-self : goal.invariant_of-self
invariant_of-self c =
    fits_symbol c.push.result c.self.inside.sorts c.self.inside.puts.items (lists_of c.self.inside.lists.items) c.self.inside.objects.named c.self.inside.variables c.self.inside.symbols c.push.new.self c.args.shape.now.name.now c.in_ok-placed.placed
    c.self.invariant (omega (arith, c.len.ensures, c.if-len-ge-MOST_ENTRIES.false)) (sym (ap (λ (p : Placed). p.symbol.name) c.in_ok-placed.ensures)) c.push.ensures.added c.push.ensures.unchanged

pub returns-clause-put : goal.returns-clause-put
returns-clause-put c =
    on_ok_weaker c.push.result
    (λ is. ap (λ (w : List Placed). viewed c.self.inside.sorts c.self.inside.puts.items c.self.inside.objects.named c.self.inside.objects.numbers c.self.inside.variables w) (ap values_of is ∙ map-append (λ entry. entry.1) c.self.inside.symbols ((c.args.shape.now.name.now, c.in_ok-placed.placed) ∷ []))
    ∙ ap (λ (t : TableView). new_symbol t c.in_ok-placed.placed) c.self.view_is ∙ ap (new_symbol c.args.self.now) c.in_ok-placed.ensures
    ∙ sym (symbol_is c.args.self.now (plain_shape c.args.shape.now) (plain_kind c.args.kind.now) c.args.file c.args.line
    (ap (λ (t : TableView). number_of (symbol_names t) c.args.shape.now.name.now) (sym c.self.view_is) ∙ ap (λ (names : List (List ℕ)). number_of names c.args.shape.now.name.now) (sym c.self.invariant.named)
    ∙ missing c.find.result _ c.is_some.result c.find.ensures c.is_some.ensures c.if-is_some.false))) c.push.ensures.added

pub returns-clause-unchanged : goal.returns-clause-unchanged
returns-clause-unchanged c = on_err_weaker c.push.result (λ is. ap (λ (w : List Placed). viewed c.self.inside.sorts c.self.inside.puts.items c.self.inside.objects.named c.self.inside.objects.numbers c.self.inside.variables w) (ap values_of is) ∙ c.self.view_is) c.push.ensures.unchanged

pub push-requires : goal.push-requires
push-requires c = missing c.find.result _ c.is_some.result c.find.ensures c.is_some.ensures c.if-is_some.false
