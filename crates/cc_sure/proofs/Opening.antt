-- The axioms of a horizon, and what a search over them shows.
use Rattle.std.proofs.Common.{◌≡◌, ◌∙◌, ℕ, ◌≤◌, ◌<◌, List, [], ◌∷◌, Option, Some, None, Result, Ok, Err, IfOk, IfErr, OnOk, sym, subst, ap, slice_get}
use Rattle.std.specs.Prelude.{true, false}
use Rattle.std.specs.Option.{option_or}
use Rattle.cc_defs.specs.declared.log.EndWord.{EndWord}
use Rattle.cc_defs.specs.declared.log.EndWord.TheVariants as words
use Rattle.cc_defs.specs.declared.log.LogLine.{LogLine}
use Rattle.cc_defs.specs.declared.refusal.Fault.{Fault}
use Rattle.cc_defs.specs.declared.refusal.Refusal.{Refusal}
use Rattle.cc_defs.specs.Description.{Description}
use Rattle.cc_defs.specs.GroundLaws.{StandsForQuery}
use Rattle.cc_defs.specs.Histories.{AreFirstOf, IsHistory}
use Rattle.cc_defs.specs.Refusals.{IsRefusedBy}
use Rattle.cc_defs.specs.Resolved.{Query}
use Rattle.cc_defs.specs.Runs.{HasNone, TellsRows, axioms_of}
use Rattle.cc_defs.specs.Sections.{Axioms}
use Rattle.cc_form.specs.Building.{count_refusal}
use Rattle.cc_form.specs.Forms.{TellsHistories, asked, form_of, section_refusal, with_atom}
use Rattle.cc_search.proofs.Moving.{first_moved, told_moved}
use Rattle.cc_search.specs.declared.least.Outcome.TheVariants as outcomes
use Rattle.cc_search.specs.Outcomes.{IsEnded, IsOutcome}
use Rattle.cc_silent.specs.Sought.{HasValue, IsSought, PassesNoLimit, Any, With}
use Rattle.cc_sure.specs.SureRuns.{LooksFor}
use Rattle.cc_sure.specs.Sures.{IsFormOf, IsSureOf, SureView}
use Rattle.cc_silent.proofs.Atoms.{atom_tells}
use Rattle.cc_theory.specs.Theories.{AreLawsOf}

-- ---- the axioms, as they are made of the fields

module _ (v now : SureView) (same : v ≡ now) where
  pub query_at : now.horizon ≤ now.query.hi → v.horizon ≤ v.query.hi
  query_at low = subst (λ (s : SureView). s.horizon ≤ s.query.hi) (sym same) low

  module _ (d : Description) (q : Query) (of : IsSureOf now d q) where
    of_fields : IsSureOf v d q
    of_fields = subst (λ (s : SureView). IsSureOf s d q) (sym same) of

    pub form_made : (r : Result Axioms Fault) →
        ((d : Description) (q : Query) → AreLawsOf v.signature v.laws d → StandsForQuery v.query d q → IfOk r (λ form. form ≡ form_of d q v.horizon true None)) →
        ((d : Description) (q : Query) → AreLawsOf v.signature v.laws d → StandsForQuery v.query d q → OnOk r (TellsHistories d (asked true q) v.horizon None (form_of d q v.horizon true None))) →
        ((d : Description) (q : Query) → AreLawsOf v.signature v.laws d → StandsForQuery v.query d q → OnOk r (section_refusal d q v.horizon true None ≡ None)) →
        IfOk r (IsFormOf d q now.horizon)
    form_made (Err fault) made tells within = tt
    form_made (Ok form) made tells within =
        let is = made d q of_fields.laws of_fields.query in
        subst (λ (s : SureView). IsFormOf d q s.horizon form) same (record {
          axioms = is;
          tells = subst (λ (f : Axioms). TellsHistories d q v.horizon None f) (sym is) (tells d q of_fields.laws of_fields.query);
          within = within d q of_fields.laws of_fields.query;
        })

    pub form_refused : (r : Result Axioms Fault) →
        ((d : Description) (q : Query) → AreLawsOf v.signature v.laws d → StandsForQuery v.query d q → IfErr r (IsRefusedBy (section_refusal d q v.horizon true None))) →
        IfErr r (IsRefusedBy (section_refusal d q now.horizon true None))
    form_refused r refused = subst (λ (s : SureView). IfErr r (IsRefusedBy (section_refusal d q s.horizon true None))) same (refused d q of_fields.laws of_fields.query)

-- ---- what a search over them shows

module _ (d : Description) (q : Query) (horizon budget : ℕ) (form : Axioms) (opened : IsFormOf d q horizon form) where
  pub first_found : (row : List ℕ) → IsOutcome form budget (outcomes.Found row) → AreFirstOf (IsHistory d q horizon None) (row ∷ [])
  first_found row found = first_moved form (IsHistory d q horizon None) opened.tells (row ∷ []) found

  pub any_ended : (word : EndWord) (lines : List LogLine) → (ended : IsEnded form budget word lines) → LooksFor d q budget horizon Any ended.section
  any_ended word lines ended = record {
    within = opened.within;
    tells = subst (λ (x : Axioms). TellsRows (IsHistory d q horizon None) x (Some 1) budget ended.section) opened.axioms
        (told_moved form (IsHistory d q horizon None) opened.tells (Some 1) budget ended.section ended.tells);
    silent = ended.silent;
  }

  pub none_found : (lines : List LogLine) → IsOutcome form budget (outcomes.Empty lines) → HasNone d q horizon
  none_found lines ended = subst (λ (l : List (List ℕ)). Rattle.cc_defs.specs.Histories.AreAllOf (IsHistory d q horizon None) l) ended.silent
      ((any_ended words.Empty lines ended).tells.all_told ended.ends)

  module _ (position value size : ℕ) (at : slice_get form.sizes position ≡ Some size) (less : value < size) where
    abbrev own : Axioms
    own = with_atom form position value

    pub atom_found : (row : List ℕ) → IsOutcome own budget (outcomes.Found row) → AreFirstOf (IsSought d q horizon (With position value)) (row ∷ [])
    atom_found row found = first_moved own (λ r. IsHistory d q horizon None r × HasValue position value r) (atom_tells form position value size at less (IsHistory d q horizon None) opened.tells) (row ∷ []) found

    pub atom_within : count_refusal own.clauses ≡ None → PassesNoLimit d q horizon (With position value)
    atom_within within =
        ap (λ (o : Option Refusal). option_or o (count_refusal (with_atom (axioms_of d q None false horizon) position value).clauses)) opened.within
        ∙ ap (λ (x : Axioms). count_refusal (with_atom x position value).clauses) (sym opened.axioms) ∙ within

    pub atom_ended : count_refusal own.clauses ≡ None → (word : EndWord) (lines : List LogLine) → (ended : IsEnded own budget word lines) → LooksFor d q budget horizon (With position value) ended.section
    atom_ended within word lines ended = record {
      within = atom_within within;
      tells = subst (λ (x : Axioms). TellsRows (IsSought d q horizon (With position value)) (with_atom x position value) (Some 1) budget ended.section) opened.axioms
          (told_moved own (λ r. IsHistory d q horizon None r × HasValue position value r) (atom_tells form position value size at less (IsHistory d q horizon None) opened.tells) (Some 1) budget ended.section ended.tells);
      silent = ended.silent;
    }
