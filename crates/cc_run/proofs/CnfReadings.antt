-- A CNF whose text, or whose clause list, is refused.
use Rattle.std.proofs.Common.{Err, Result, ◌≡◌, sym, subst, ◌≤◌, List, [], ◌∷◌, ℕ, Option, Some, None, IfSome, length, refl, inr, Err}
use Rattle.std.specs.Prelude.{IsErrOf}
use Rattle.cc_defs.specs.declared.refusal.Fault.TheVariants as faults
use Rattle.cc_defs.specs.declared.refusal.LimitAt.TheVariants as limits
use Rattle.cc_defs.specs.declared.refusal.Refusal.{Refusal}
use Rattle.cc_defs.specs.Limits.{limit_number}
use Rattle.cc_defs.specs.Sections.{Axioms}
use Rattle.cc_describe.specs.FirstRefusal.{file_named}
use Rattle.cc_ports.specs.Contents.{Contents}
use Rattle.cc_ports.specs.declared.whole.ReadStop.{ReadStop}
use Rattle.cc_ports.specs.declared.whole.ReadStop.TheVariants as read_stops
use Rattle.cc_run.specs.declared.cnfs.CnfStop.{CnfStop}
use Rattle.cc_run.specs.declared.cnfs.CnfStop.TheVariants as stops
use Rattle.cc_run.specs.CnfForms.{IsFormFault}
use Rattle.cc_run.specs.Modes.Modelling.{RefusesCnf}
use Rattle.cc_words.specs.Words.{Text}

abbrev stop_of : Refusal → CnfStop
stop_of refusal = stops.Refused refusal

same_refusal : (a b : Refusal) → stop_of a ≡ stop_of b → a ≡ b
same_refusal a b e = cc

pub form_refused : (o : Option Contents) (file : Text) (read bytes : List ℕ) (refusal found : Refusal) → stop_of found ≡ stop_of refusal → bytes ≡ read →
    length read ≤ limit_number limits.FileBytes → IsFormFault bytes (faults.Refused found) → IfSome o (λ c. c.files file ≡ Some read) →
    IfSome o (λ c. RefusesCnf c.files file refusal (file_named (file ∷ []) refusal))
form_refused None file read bytes refusal found is same few fault there = tt
form_refused (Some c) file read bytes refusal found is same few fault there = record {
  bytes = bytes;
  there = subst (λ (b : List ℕ). c.files file ≡ Some b) (sym same) there;
  refused = inr (
    subst (λ (b : List ℕ). length b ≤ limit_number limits.FileBytes) (sym same) few,
    subst (λ (r : Refusal). IsFormFault bytes (faults.Refused r)) (same_refusal found refusal is) fault,
  );
  name_is = refl;
}

abbrev unformed : CnfStop → Result Axioms CnfStop
unformed stop = Err stop

pub refused_is_no_fault : (stop : CnfStop) (refusal : Refusal) → stop ≡ stops.Refused refusal → IsErrOf (unformed stop) stops.ReadFault → ⊥
refused_is_no_fault stop refusal is fault = cc

-- ---- why there is none

pub fault_refuses_none : (refusal : Refusal) → stops.ReadFault ≡ stops.Refused refusal → ⊥
fault_refuses_none refusal is = absurd cc

pub memory_refuses_none : (refusal : Refusal) → stops.OutOfMemory ≡ stops.Refused refusal → ⊥
memory_refuses_none refusal is = absurd cc

pub memory_is_no_fault : (T : Type 0) → IsErrOf {T = T} (Err stops.OutOfMemory) stops.ReadFault → ⊥
memory_is_no_fault T is = absurd cc

pub refused_no_fault : (T : Type 0) (refusal : Refusal) → IsErrOf {T = T} (Err (stops.Refused refusal)) stops.ReadFault → ⊥
refused_no_fault T refusal is = absurd cc

pub memory_unread : (T : Type 0) (stop : ReadStop) → stop ≡ read_stops.OutOfMemory → IsErrOf {T = T} (Err stop) read_stops.Failed → ⊥
memory_unread T stop is fault = absurd cc
