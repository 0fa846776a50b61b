-- What is left of a writer by a call whose result is handed on.
use Rattle.std.proofs.Common.{Result, Ok, Err, IfErr, IfOk, IsErr, IsErrAnd, IsOk, OnErr, OnOk, inl, inr, ◌⊎◌, ◌≡◌, ◌≤◌, List, length, None, Some, refl, sym, ap, subst}
use Rattle.std.proofs.lemmas.Bool.{le-ltb, lt-ltb}
use Rattle.cc_defs.specs.declared.refusal.Fault.{Fault}
use Rattle.cc_defs.specs.declared.refusal.Fault.TheVariants as faults
use Rattle.cc_defs.specs.Clauses.{Literal}
use Rattle.cc_defs.specs.Refusals.{IsRefusedBy}
use Rattle.cc_defs.specs.Sections.{Axioms}
use Rattle.cc_form.specs.declared.writer.Writer.{Writer}
use Rattle.cc_form.specs.Building.{count_refusal}
use Rattle.cc_form.specs.Drafts.{axioms_refusal}
use Rattle.cc_form.specs.Machine.{IsPast}
use Rattle.cc_form.specs.Store.{AreFew, Holds, literal_count_of}
use Rattle.cc_form.proofs.Whole.{KeepsAll}

pub on_then : {X E A B : Type 0} (made : Result X E) → OnOk made A → (A → B) → OnOk made B
on_then (Ok x) a then = then a
on_then (Err e) a then = tt

pub both_then : {X E B : Type 0} {P Q : X → Type 0} (made : Result X E) → IfOk made P → OnOk made B → ((x : X) → P x → B → Q x) → IfOk made Q
both_then (Ok x) p b then = then x p b
both_then (Err e) p b then = tt

-- an error says nothing of what was made
pub err_on : {X E : Type 0} (P : Type 0) (made : Result X E) → IsErr made → OnOk made P
err_on P (Err e) is = tt
err_on P (Ok x) is = absurd cc

pub err_if : {X E : Type 0} (P : X → Type 0) (made : Result X E) → IsErr made → IfOk made P
err_if P (Err e) is = tt
err_if P (Ok x) is = absurd cc

-- what is known of an error is so where it goes up
pub errs : {X E : Type 0} (made : Result X E) (error : E) (P : E → Type 0) → IsErrAnd made (λ given. given ≡ error) → P error → IfErr made P
errs (Ok x) error P is p = tt
errs (Err given) error P is p = subst P (sym is) p

-- a writer that is emptied after an error

pub emptied_is : {X E : Type 0} (P : Writer → Type 0) (made : Result X E) (old new : Writer) → OnOk made (new ≡ old) → OnErr made (P new) → OnOk made (P old) → P new
emptied_is P (Ok x) old new kept none form = subst P (sym kept) form
emptied_is P (Err e) old new kept none form = none

pub emptied_if : {X E : Type 0} (P : X → Writer → Type 0) (made result : Result X E) (old new : Writer) → result ≡ made → OnOk made (new ≡ old) → IfOk made (λ x. P x old) → IfOk result (λ x. P x new)
emptied_if {X} {E} P (Ok x) result old new same kept form = subst (λ (r : Result X E). IfOk r (λ x. P x new)) (sym same) (subst (P x) (sym kept) form)
emptied_if {X} {E} P (Err e) result old new same kept form = subst (λ (r : Result X E). IfOk r (λ x. P x new)) (sym same) tt

-- what was made, where a writer is within its limits

pub within_then : {X B : Type 0} {P Q : X → Type 0} (made fits : Result X Fault) (writer : Writer) → IfOk fits (λ x. made ≡ Ok x) → IfOk made P → OnOk made B →
    ((clauses : List (List Literal)) → Holds writer.store.kept clauses → OnOk fits (writer.store.kept.arena ≡ clauses)) →
    ((clauses : List (List Literal)) → Holds writer.store.kept clauses → OnOk fits (AreFew clauses)) →
    ((x : X) → P x → B → KeepsAll writer → Q x) → IfOk fits Q
within_then {X} {B} {P} made (Ok x) writer is p b keeps few then =
    then x (subst (λ (r : Result X Fault). IfOk r P) is p) (subst (λ (r : Result X Fault). OnOk r B) is b) (λ clauses holds. (keeps clauses holds, few clauses holds))
within_then made (Err fault) writer is p b keeps few then = tt

past_refused : (axioms : Axioms) (fault : Fault) → IsPast axioms.variables fault → IsRefusedBy (axioms_refusal axioms) fault
past_refused axioms (faults.Refused refusal) past = rw (lt-ltb 4000000 axioms.variables past.1) (ap Some (sym past.0))
past_refused axioms faults.OutOfMemory past = tt

pub few_refused : (axioms : Axioms) (fault : Fault) → axioms.variables ≤ 4000000 → IsRefusedBy (count_refusal axioms.clauses) fault → IsRefusedBy (axioms_refusal axioms) fault
few_refused axioms fault few refused = rw (le-ltb 4000000 axioms.variables few) refused

pub few_within : (axioms : Axioms) → axioms.variables ≤ 4000000 → AreFew axioms.clauses → axioms_refusal axioms ≡ None
few_within axioms few are = rw (le-ltb 4000000 axioms.variables few, le-ltb 8000000 (length axioms.clauses) are.0, le-ltb 40000000 (literal_count_of axioms.clauses) are.1) refl

-- why a writer is not within its limits: nothing was made, or its clauses are too many
abbrev pub IsPastLimit : {X : Type 0} → Result X Fault → Writer → Fault → Type 0
IsPastLimit made writer fault =
    (made ≡ Err fault) ⊎ (IsOk made × ((clauses : List (List Literal)) → Holds writer.store.kept clauses → IsRefusedBy (count_refusal clauses) fault))

-- the first limit that is passed: of variables as it is made, of clauses and literals behind it
pub within_refused : {X : Type 0} (made fits result : Result X Fault) (writer : Writer) (axioms : Axioms) → result ≡ fits → IfErr made (IsRefusedBy (axioms_refusal axioms)) →
    OnOk made ((axioms.variables ≤ 4000000) × Holds writer.store.kept axioms.clauses) → IfErr fits (IsPastLimit made writer) → IfErr result (IsRefusedBy (axioms_refusal axioms))
within_refused {X} made (Ok x) result writer axioms same past few fits = subst (λ (r : Result X Fault). IfErr r (IsRefusedBy (axioms_refusal axioms))) (sym same) tt
within_refused {X} made (Err fault) result writer axioms same past few fits = subst (λ (r : Result X Fault). IfErr r (IsRefusedBy (axioms_refusal axioms))) (sym same) (here made past few fits)
  where
    here : (made : Result X Fault) → IfErr made (IsRefusedBy (axioms_refusal axioms)) → OnOk made ((axioms.variables ≤ 4000000) × Holds writer.store.kept axioms.clauses) → IsPastLimit made writer fault →
        IsRefusedBy (axioms_refusal axioms) fault
    here made past few (inl is) = subst (λ (r : Result X Fault). IfErr r (IsRefusedBy (axioms_refusal axioms))) is past
    here (Ok x) past few (inr (ok, refused)) = few_refused axioms fault few.0 (refused axioms.clauses few.1)
    here (Err other) past few (inr (ok, refused)) = absurd cc

pub past_if : {X : Type 0} (made : Result X Fault) (axioms : Axioms) → IfErr made (IsPast axioms.variables) → IfErr made (IsRefusedBy (axioms_refusal axioms))
past_if (Ok x) axioms past = tt
past_if (Err fault) axioms past = past_refused axioms fault past

-- where only memory may be wanting

pub memory_if : {X : Type 0} (made : Result X Fault) (axioms : Axioms) → IfErr made (λ fault. fault ≡ faults.OutOfMemory) → IfErr made (IsRefusedBy (axioms_refusal axioms))
memory_if (Ok x) axioms is = tt
memory_if (Err fault) axioms is = subst (IsRefusedBy (axioms_refusal axioms)) (sym is) tt

pub on_both : {X Y E F : Type 0} (A : Type 0) (made : Result X E) (first : Result Y F) → OnOk made (IsOk first) → OnOk first A → OnOk made A
on_both A (Ok x) (Ok y) ok a = a
on_both A (Ok x) (Err f) ok a = absurd cc
on_both A (Err e) first ok a = tt
