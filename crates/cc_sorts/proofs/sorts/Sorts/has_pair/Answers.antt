use Rattle.std.proofs.Common.{◌≡◌, ◌∙◌, ◌<◌, ap, length, subst, sym}
use Rattle.std.specs.List.{list_any}
use Rattle.cc_defs.specs.DeclarationFaults.{same_pair}
use Rattle.cc_sorts.specs.Dictionaries.{names_of}
use Rattle.cc_sorts.specs.SortViews.{SortsView, name_at}
use Rattle.cc_sorts.proofs.Pairs.{found_pair}
use Rattle.cc_sorts.proofs.sorts.Sorts.has_pair.Goals as goal

pub returns : goal.returns
returns c =
    let count : length (names_of c.self.inside.names) ≡ length c.args.self.now.names = ap (λ (view : SortsView). length view.names) c.self.view_is in
    c.contains.ensures ∙ c.self.invariant.known_are (record { upper = c.args.upper; lower = c.args.lower })
    ∙ found_pair (names_of c.self.inside.names) c.self.invariant.distinct c.args.upper c.args.lower
    (subst (λ n. c.args.upper < n) (sym count) c.requires.upper) (subst (λ n. c.args.lower < n) (sym count) c.requires.lower) c.self.inside.pairs.items c.self.invariant.pairs_within
    ∙ ap (λ (view : SortsView). list_any (same_pair (name_at view c.args.upper, name_at view c.args.lower)) view.pairs) c.self.view_is
