-- What is right of a heading, and the axioms under it.
use Rattle.std.proofs.Common.{◌≡◌, ◌∙◌, ℕ, ◌≤◌, Option, None, Result, Ok, Err, IfOk, IfErr, OnOk, sym, subst, ap, arith, slice_get}
use Rattle.std.specs.Prelude.{◌↔◌, Bool, IsTrue, true, false, unwrap_or}
use Rattle.std.specs.Option.{option_or}
use Rattle.cc_defs.specs.declared.refusal.Fault.{Fault}
use Rattle.cc_defs.specs.declared.refusal.Fault.TheVariants as faults
use Rattle.cc_defs.specs.declared.refusal.Refusal.{Refusal}
use Rattle.cc_defs.specs.Conditions.{IsSignatureOfDescription}
use Rattle.cc_defs.specs.Description.{Description}
use Rattle.cc_defs.specs.GroundLaws.{PlainGroundQuery, StandsForQuery}
use Rattle.cc_defs.specs.Refusals.{IsRefusedBy}
use Rattle.cc_defs.specs.Resolved.{Query}
use Rattle.cc_defs.specs.Runs.{axioms_of, range_of}
use Rattle.cc_defs.specs.Sections.{Axioms}
use Rattle.cc_form.specs.Building.{count_refusal}
use Rattle.cc_form.specs.Forms.{form_of, section_refusal, with_atom}
use Rattle.cc_silent.specs.declared.sure.AtomHeading.{AtomHeading}
use Rattle.cc_silent.specs.Sought.{IsAtomAt, With, sought_axioms, sought_refusal}
use Rattle.cc_silent.specs.SureLogs.{IsInRange}
use Rattle.cc_silent.specs.SureParts.{AreAtomsOf, AtomsView, HasAtom}

pub range_stands : (query : PlainGroundQuery) (d : Description) (q : Query) → StandsForQuery query d q → ((range_of q).0 ≡ query.lo) × ((range_of q).1 ≡ query.hi)
range_stands query d q (range, there, made) = (
  ap (λ (o : Option (ℕ × ℕ)). (unwrap_or o (1, 0)).0) there ∙ sym (ap (λ (g : PlainGroundQuery). g.lo) made),
  ap (λ (o : Option (ℕ × ℕ)). (unwrap_or o (1, 0)).1) there ∙ sym (ap (λ (g : PlainGroundQuery). g.hi) made),
)

module _ (d : Description) (q : Query) (heading : AtomHeading) (form : Axioms) (made : form ≡ form_of d q heading.horizon true None) (right : IsInRange d q heading) where
  pub has_atom : HasAtom form heading.position heading.value
  has_atom =
      let (size, at, less) = right.atom in
      (size, ap (λ (f : Axioms). slice_get f.sizes heading.position) made ∙ at, less)

  pub made_with : (r : Result Axioms Fault) → IfOk r (λ with. with ≡ with_atom form heading.position heading.value) →
      IfOk r (λ with. with ≡ sought_axioms d q heading.horizon (With heading.position heading.value))
  made_with (Ok with) is = is ∙ ap (λ (f : Axioms). with_atom f heading.position heading.value) made
  made_with (Err fault) is = tt

  limit_is : section_refusal d q heading.horizon true None ≡ None →
      sought_refusal d q heading.horizon (With heading.position heading.value) ≡ count_refusal (with_atom form heading.position heading.value).clauses
  limit_is none =
      ap (λ (o : Option Refusal). option_or o (count_refusal (with_atom (axioms_of d q None false heading.horizon) heading.position heading.value).clauses)) none
      ∙ ap (λ (f : Axioms). count_refusal (with_atom f heading.position heading.value).clauses) (sym made)

  pub within_with : section_refusal d q heading.horizon true None ≡ None → (r : Result Axioms Fault) → OnOk r (count_refusal (with_atom form heading.position heading.value).clauses ≡ None) →
      OnOk r (sought_refusal d q heading.horizon (With heading.position heading.value) ≡ None)
  within_with none (Ok with) is = limit_is none ∙ is
  within_with none (Err fault) is = tt

  pub refused_with : section_refusal d q heading.horizon true None ≡ None → (r : Result Axioms Fault) →
      IfErr r (IsRefusedBy (count_refusal (with_atom form heading.position heading.value).clauses)) →
      IfErr r (IsRefusedBy (sought_refusal d q heading.horizon (With heading.position heading.value)))
  refused_with none (Ok with) is = tt
  refused_with none (Err fault) is = subst (λ (o : Option Refusal). IsRefusedBy o fault) (sym (limit_is none)) is

pub refused_first : (d : Description) (q : Query) (heading : AtomHeading) (fault : Fault) → IsRefusedBy (section_refusal d q heading.horizon true None) fault →
    IsRefusedBy (sought_refusal d q heading.horizon (With heading.position heading.value)) fault
refused_first d q heading faults.OutOfMemory is = tt
refused_first d q heading (faults.Refused refusal) is =
    ap (λ (o : Option Refusal). option_or o (count_refusal (sought_axioms d q heading.horizon (With heading.position heading.value)).clauses)) is

-- ---- which headings are right

pub right_so : (atoms : AtomsView) (d : Description) (q : Query) → AreAtomsOf atoms d q → (heading : AtomHeading) → (atoms.query.lo ≤ heading.horizon) × (heading.horizon ≤ atoms.query.hi) →
    (atom : Bool) → ((e : Description) → IsSignatureOfDescription e atoms.signature → IsTrue atom ↔ IsAtomAt e heading.horizon heading.position heading.value) → IsTrue atom ↔ IsInRange d q heading
right_so atoms d q of heading (least, most) atom either =
    let range = range_stands atoms.query d q of.query in let lo = range.0 in let hi = range.1 in (
      (λ is. record { least = omega arith; most = omega arith; atom = (either d of.laws.signature_is).0 is }),
      (λ right. (either d of.laws.signature_is).1 right.atom),
    )

pub not_right : (atoms : AtomsView) (d : Description) (q : Query) → AreAtomsOf atoms d q → (heading : AtomHeading) →
    ((atoms.query.lo ≤ heading.horizon) × (heading.horizon ≤ atoms.query.hi) → ⊥) → IsInRange d q heading → ⊥
not_right atoms d q of heading out right =
    let range = range_stands atoms.query d q of.query in let lo = range.0 in let hi = range.1 in let least = right.least in let most = right.most in out (omega arith, omega arith)
