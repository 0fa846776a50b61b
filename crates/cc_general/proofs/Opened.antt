-- The candidates of a horizon, as they are made of the fields.
use Rattle.std.proofs.Common.{◌≡◌, ◌≤◌, [], None, Result, Ok, Err, IfOk, IfErr, OnOk, refl, sym, subst, arith}
use Rattle.cc_clauses.specs.Tells.{Tells}
use Rattle.cc_defs.specs.declared.refusal.Fault.{Fault}
use Rattle.cc_defs.specs.GroundLaws.{StandsForQuery}
use Rattle.cc_defs.specs.Refusals.{IsRefusedBy}
use Rattle.cc_defs.specs.Resolved.{Query}
use Rattle.cc_defs.specs.Sections.{Axioms}
use Rattle.cc_form.specs.Places.{position_sizes}
use Rattle.cc_general.specs.Generals.{GeneralView, IsAmong, IsGeneralOf}
use Rattle.cc_general.specs.Walks.{IsFormOf, IsListingAt}
use Rattle.cc_general.proofs.Candidates.{gone_none}
use Rattle.cc_lists.specs.Sections.{open_section}
use Rattle.cc_rivals.specs.Wides.{AreWideLawsOf, candidates_refusal}
use Rattle.cc_search.specs.Searches.{HasMore, SearchView, Stands}
use Rattle.cc_wide.specs.WideLaws.{WideDescription, frame}
use Rattle.cc_wide.specs.WideLists.{candidate_axioms}
use Rattle.cc_wide.specs.WideRules.{IsCandidate}

module _ (v now : GeneralView) (same : v ≡ now) where
  pub low_at : now.horizon ≤ now.query.hi → v.horizon ≤ v.query.hi
  low_at low = subst (λ (s : GeneralView). s.horizon ≤ s.query.hi) (sym same) low

  module _ (w : WideDescription) (q : Query) (of : IsGeneralOf now w q) where
    of_fields : IsGeneralOf v w q
    of_fields = subst (λ (s : GeneralView). IsGeneralOf s w q) (sym same) of

    pub form_made : (r : Result Axioms Fault) →
        ((w : WideDescription) (q : Query) → AreWideLawsOf v.signature v.laws w → StandsForQuery v.query (frame w) q → IfOk r (λ form. form ≡ candidate_axioms w q v.horizon)) →
        ((w : WideDescription) (q : Query) → AreWideLawsOf v.signature v.laws w → StandsForQuery v.query (frame w) q → OnOk r (Tells (candidate_axioms w q v.horizon) (IsCandidate w q v.horizon))) →
        ((w : WideDescription) (q : Query) → AreWideLawsOf v.signature v.laws w → StandsForQuery v.query (frame w) q → OnOk r (candidates_refusal w q v.horizon ≡ None)) →
        IfOk r (IsFormOf w q now.horizon)
    form_made (Err fault) made tells within = tt
    form_made (Ok form) made tells within =
        let is = made w q of_fields.laws of_fields.query in
        subst (λ (s : GeneralView). IsFormOf w q s.horizon form) same (record {
          axioms = is;
          tells = subst (λ (f : Axioms). Tells f (IsCandidate w q v.horizon)) (sym is) (tells w q of_fields.laws of_fields.query);
          within = within w q of_fields.laws of_fields.query;
        })

    pub form_refused : (r : Result Axioms Fault) →
        ((w : WideDescription) (q : Query) → AreWideLawsOf v.signature v.laws w → StandsForQuery v.query (frame w) q → IfErr r (IsRefusedBy (candidates_refusal w q v.horizon))) →
        IfErr r (IsRefusedBy (candidates_refusal w q now.horizon))
    form_refused r refused = subst (λ (s : GeneralView). IfErr r (IsRefusedBy (candidates_refusal w q s.horizon))) same (refused w q of_fields.laws of_fields.query)

module _ (general : GeneralView) (form : Axioms) (search : SearchView) (stands : Stands form None general.budget search (open_section []))
    (made : (w : WideDescription) (q : Query) → IsGeneralOf general w q → IsFormOf w q general.horizon form) where
  pub among_first : (w : WideDescription) (q : Query) → IsGeneralOf general w q → IsAmong w q general.budget general.horizon [] search []
  among_first w q of =
      let is = made w q of in
      record {
        within = is.within;
        section = open_section [];
        stands = subst (λ (x : Axioms). Stands x None general.budget search (open_section [])) is.axioms stands;
        lines_are = refl;
        gone = gone_none w q general.horizon;
      }

  pub listing_first : general.horizon ≤ general.query.hi → general.horizon ≤ 1000 → HasMore search → form.sizes ≡ position_sizes general.signature general.horizon →
      IsListingAt general 0 search []
  listing_first low small more sizes = record {
    low = low;
    small = small;
    more = more;
    formed = tt;
    axioms = form;
    section = open_section [];
    stands = stands;
    sizes = sizes;
    few = omega arith;
    are = λ w q laws query. let is = made w q (record { laws = laws; query = query }) in (is.axioms, is.tells);
  }
