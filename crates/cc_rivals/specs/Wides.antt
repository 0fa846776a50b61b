-- Ground laws with heads of any form, as they are handed in, and the limits of the clause lists that are made of them.
use Rattle.std.specs.Prelude.{◌≡◌, ◌↔◌, ℕ, List, length, map, Option, Some, None, nat_lt, if◌then◌else◌}
use Rattle.std.specs.Option.{option_or}
use Rattle.cc_clauses.specs.Tells.{Tells}
use Rattle.cc_defs.specs.declared.refusal.LimitAt.TheVariants as limits
use Rattle.cc_defs.specs.declared.refusal.Refusal.{Refusal}
use Rattle.cc_defs.specs.Conditions.{IsSignatureOfDescription}
use Rattle.cc_defs.specs.Limits.{most_rules}
use Rattle.cc_defs.specs.Refusals.{past}
use Rattle.cc_defs.specs.Resolved.{Query}
use Rattle.cc_defs.specs.Rows.{IsRow}
use Rattle.cc_defs.specs.Signatures.{Signature}
use Rattle.cc_defs.specs.Universe.{Universe, HaveOwnValues}
use Rattle.cc_form.specs.Forms.{form_refusal}
use Rattle.cc_wide.specs.declared.ground.WideGroundLaw.{WideGroundLaw}
use Rattle.cc_wide.specs.WideForms.{AreWideGroundLaws}
use Rattle.cc_wide.specs.WideGrounds.{StandForWide, plain_wide_ground}
use Rattle.cc_wide.specs.WideLaws.{WideDescription, frame}
use Rattle.cc_wide.specs.WideLists.{candidates_list, rival_axioms, rivals_list, wide_timed}
use Rattle.cc_wide.specs.WideRules.{IsCandidate, IsGeneral, IsRival, wide_sizes}

-- the laws are ground laws over the constants of the signature, whose values are different for each of them
pub record AreWideLawsFor (signature : Signature) (laws : List WideGroundLaw) : Type 0 where
  pub u : Universe
  pub fluents : u.fluents ≡ signature.fluents
  pub actions : u.actions ≡ signature.actions
  pub numbers : u.numbers ≡ signature.numbers
  pub values : HaveOwnValues u
  pub laws_fit : AreWideGroundLaws u (map plain_wide_ground laws)

-- the laws are those of a description with this signature
pub record AreWideLawsOf (signature : Signature) (laws : List WideGroundLaw) (w : WideDescription) : Type 0 where
  pub signature_is : IsSignatureOfDescription (frame w) signature
  pub laws_are : StandForWide laws w

-- ---- limits

-- more rules than their limit
abbrev pub wide_rules_refusal : WideDescription → ℕ → Option Refusal
wide_rules_refusal w horizon = if nat_lt most_rules (length (wide_timed w horizon)) then Some (past limits.Rules) else None

-- the first limit that the rules or clauses of candidates pass
abbrev pub candidates_refusal : WideDescription → Query → ℕ → Option Refusal
candidates_refusal w q horizon = option_or (wide_rules_refusal w horizon) (form_refusal (candidates_list w q horizon))

-- the first limit that the rules or the clauses of a row's rivals pass
abbrev pub rivals_refusal : WideDescription → ℕ → List ℕ → Option Refusal
rivals_refusal w horizon row = option_or (wide_rules_refusal w horizon) (form_refusal (rivals_list w horizon row))

-- ---- what makes candidates and rivals worth looking for

-- a row is a history exactly where it is a candidate that has no rival
abbrev pub HistoriesHaveNoRivals : Type 0
HistoriesHaveNoRivals = (w : WideDescription) (q : Query) (horizon : ℕ) (row : List ℕ) →
    IsGeneral w q horizon row ↔ (IsCandidate w q horizon row × ((other : List ℕ) → IsRival w horizon row other → ⊥))

-- the rows of the clause list of a row's rivals are these
abbrev pub RivalListsTellRivals : Type 0
RivalListsTellRivals = (signature : Signature) (laws : List WideGroundLaw) → AreWideLawsFor signature laws →
    (w : WideDescription) → AreWideLawsOf signature laws w → (horizon : ℕ) (row : List ℕ) → IsRow (wide_sizes w horizon) row →
    Tells (rival_axioms w horizon row) (IsRival w horizon row)
