-- What an accepted log of an induction proves.
use Rattle.std.proofs.Common.{◌≡◌, ◌∙◌, ℕ, ◌+◌, ◌<◌, ◌≤◌, inl, inr, Bool, true, false, List, [], ◌∷◌, None, refl, sym, ap, subst, arith}
use Rattle.std.specs.List.Sorted.{IsStrictlySortedBy}
use Rattle.std.proofs.lemmas.Bool.{cases_lt, false≢true}
use Rattle.cc_arena.specs.declared.ground_laws.GroundLaw.{GroundLaw}
use Rattle.cc_check.specs.declared.silent.Place.{Place}
use Rattle.cc_check.specs.declared.silent.SilentVerdict.{SilentVerdict}
use Rattle.cc_check.specs.declared.silent.SilentVerdict.TheVariants as verdicts
use Rattle.cc_check.specs.Laws.{SilentSectionsHaveNoRows}
use Rattle.cc_check.specs.Silent.{IsSilentVerdict, first_place, may_end}
use Rattle.cc_clauses.specs.RowsOf.{IsRowOf}
use Rattle.cc_defs.specs.Description.{Description}
use Rattle.cc_defs.specs.GroundLaws.{PlainGroundQuery, StandsForQuery}
use Rattle.cc_defs.specs.Histories.{IsHistory}
use Rattle.cc_defs.specs.Limits.{most_steps}
use Rattle.cc_defs.specs.Resolved.{Query}
use Rattle.cc_defs.specs.Runs.{HasNone, range_of}
use Rattle.cc_defs.specs.Sections.{Axioms}
use Rattle.cc_defs.specs.Signatures.{Signature}
use Rattle.cc_form.specs.ListLaws.{ListsTellHistories}
use Rattle.cc_form.specs.Queries.{IsQueryAt}
use Rattle.cc_induction.specs.Induction.{InductionHolds, Never, step_query}
use Rattle.cc_induction.specs.Laws.{QueriesAreAskedLater, StepsAreAsked}
use Rattle.cc_induction.specs.Steps.{ground_step}
use Rattle.cc_silent.specs.declared.forever.ForeverHeading.{ForeverHeading}
use Rattle.cc_silent.specs.declared.forever.ForeverHeading.TheVariants as headings
use Rattle.cc_silent.specs.ForeverLogs.{HasSections, ProvesNever, axioms_under, forever_subject}
use Rattle.cc_silent.proofs.AcceptedSilent.{AreRefuted, accepted_leads}
use Rattle.cc_silent.proofs.SureChecking.{range_stands}
use Rattle.cc_theory.specs.Theories.{AreLawsFor, AreLawsOf, LawsGiveRules}

-- the laws that it rests on
pub record Rests : Type 0 where
  pub silent : SilentSectionsHaveNoRows
  pub tell : ListsTellHistories
  pub rules : LawsGiveRules
  pub later : QueriesAreAskedLater
  pub steps : StepsAreAsked
  pub holds : InductionHolds

none_has : (d : Description) (q : Query) (horizon : ℕ) → ((row : List ℕ) → IsHistory d q horizon None row → ⊥) → HasNone d q horizon
unfolding IsStrictlySortedBy
none_has d q horizon nothing = record {
  ascending = tt;
  members = λ row. ((λ there. absurd (let less = there.1 in omega arith)), (λ history. absurd (nothing row history)));
}

-- ---- a log that ends is closed, and so has a section

abbrev last_is : Description → Query → Place → List ForeverHeading → Place → Type 0
last_is d q place list last = AreRefuted (forever_subject d q) place list last

more_behind : (d : Description) (q : Query) (place : Place) (list : List ForeverHeading) (last : Place) → last_is d q place list last → place.before ≤ last.before
more_behind d q place [] last are = let e = ap (λ (p : Place). p.before) are in omega arith
more_behind d q place (heading ∷ list) last (right, none, are) =
    let more = more_behind d q (record { before = place.before + 1; is_closed = (forever_subject d q).closes heading }) list last are in omega arith

some_sections : (d : Description) (q : Query) (list : List ForeverHeading) (last : Place) → last_is d q first_place list last → may_end (forever_subject d q) last ≡ true → 1 ≤ last.before
some_sections d q [] last are may = absurd (false≢true (ap (may_end (forever_subject d q)) (sym are) ∙ may))
some_sections d q (heading ∷ list) last (right, none, are) may = more_behind d q (record { before = 0 + 1; is_closed = (forever_subject d q).closes heading }) list last are

module _ (d : Description) (q : Query) where
  pub has_sections : SilentSectionsHaveNoRows → (bytes : List ℕ) (verdict : SilentVerdict) → IsSilentVerdict (forever_subject d q) bytes verdict → HasSections verdict
  has_sections silent bytes (verdicts.Accepted count) is =
      let led = accepted_leads (forever_subject d q) silent bytes (verdicts.Accepted count) is count refl in
      let some = some_sections d q led.headings led.last led.are led.may in
      let counted = led.counted in
      omega arith
  has_sections silent bytes (verdicts.Refused line _) is = tt

  module _ (rests : Rests) (signature : Signature) (laws : List GroundLaw) (query : PlainGroundQuery) (for : AreLawsFor signature laws) (of : AreLawsOf signature laws d)
      (stands : StandsForQuery query d q) (asked : IsQueryAt signature query.lo query) where
    least_is : (range_of q).0 ≡ query.lo
    least_is = (range_stands query d q stands).0

    -- so many horizons have no history
    abbrev AreNone : ℕ → Type 0
    AreNone count = (horizon : ℕ) → query.lo ≤ horizon → horizon < query.lo + count → HasNone d q horizon

    abbrev HasNoRows : Axioms → Type 0
    HasNoRows axioms = (row : List ℕ) → IsRowOf axioms.sizes axioms.clauses row → ⊥

    none_at : (horizon : ℕ) → query.lo ≤ horizon → horizon ≤ most_steps → HasNoRows (axioms_under d q (headings.Horizon horizon)) → HasNone d q horizon
    none_at horizon long few none =
        none_has d q horizon
        (λ row history. none row (((rests.tell signature laws query for d q of stands horizon few (rests.later signature query query.lo horizon long asked)).rows row).1 history))

    none_over : (count : ℕ) → count ≤ most_steps → HasNoRows (axioms_under d q (headings.Steps count)) → HasNone d (step_query q count) count
    none_over count few none =
        let (is, stand) = rests.steps signature query asked count in
        none_has d (step_query q count) count
        (λ row history. none row (((rests.tell signature laws (ground_step query count) for d (step_query q count) of (stand d q stands) count few is).rows row).1 history))

    one_more : (count horizon : ℕ) → horizon ≡ query.lo + count → HasNone d q horizon → AreNone count → AreNone (count + 1)
    one_more count horizon is none before other long short = elim (cases_lt other (query.lo + count)) [
      | inl less ↦ before other long less
      | inr far ↦ subst (HasNone d q) (let e : horizon ≡ other = omega arith in e) none
    ]

    proved_by : (count : ℕ) → AreNone count → (list : List ForeverHeading) (last : Place) → last_is d q (record { before = count; is_closed = false }) list last →
        last.is_closed ≡ true → Never d q
    proved_by count before [] last are closed = absurd (false≢true (ap (λ (p : Place). p.is_closed) (sym are) ∙ closed))
    proved_by count before (headings.Horizon horizon ∷ list) last ((free, (turn, few)), none, are) closed =
        let here = turn ∙ ap (λ (n : ℕ). n + count) least_is in
        proved_by (count + 1) (one_more count horizon here (none_at horizon (omega arith) few none) before) list last are closed
    proved_by count before (headings.Steps steps ∷ list) last ((free, (turn, some, few)), none, are) closed =
        rests.holds d ((rests.rules signature laws for steps).theory d of).well signature q query of.signature_is stands asked steps some
        (subst AreNone (sym turn) before) (none_over steps few none)

    pub proves : (bytes : List ℕ) (verdict : SilentVerdict) → IsSilentVerdict (forever_subject d q) bytes verdict → ProvesNever d q verdict
    proves bytes verdict is = λ count accepted.
        let led = accepted_leads (forever_subject d q) rests.silent bytes verdict is count accepted in
        proved_by 0 (λ horizon long short. absurd (let e : ⊥ = omega arith in e)) led.headings led.last led.are (closed_so led.last led.may)
      where
        closed_so : (place : Place) → may_end (forever_subject d q) place ≡ true → place.is_closed ≡ true
        closed_so place may = by place.is_closed may
          where
            by : (closed : Bool) → Rattle.std.specs.Prelude.◌||◌ closed false ≡ true → closed ≡ true
            by true is = refl
            by false is = absurd cc
