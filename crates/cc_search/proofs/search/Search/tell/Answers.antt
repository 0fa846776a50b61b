use Rattle.std.proofs.Common.{refl, sym, subst}
use Rattle.cc_query.specs.Sessions.{IsWithin}
use Rattle.cc_query.proofs.Within.{one_more}
use Rattle.cc_search.specs.Searches.{SearchView}
use Rattle.cc_search.proofs.search.Search.tell.Goals as goal

pub stand-requires : goal.stand-requires
stand-requires c = (
  c.requires.found,
  (
    c.args.listed,
    refl,
    one_more c.args.listed c.number.result c.requires.within.denied_few c.number.ensures c.if-listed-number.false,
    subst (λ (v : SearchView). IsWithin v.ask c.args.solver c.args.listed) (sym c.self.view_is) c.requires.within,
  ),
)
