-- What a check finds by a table is so by its declarations, and what is made where it finds nothing.
use Rattle.std.proofs.Common.{◌≡◌, ◌∙◌, ℕ, List, Option, None, Result, Ok, Err, IfOk, map, sym, ap, subst}
use Rattle.std.specs.Prelude.{IfErr}
use Rattle.std.specs.Global.{Vec}
use Rattle.std.specs.Result.{IsErrAnd, MatchResult}
use Rattle.cc_defs.specs.declared.refusal.Fault.{Fault}
use Rattle.cc_defs.specs.declared.refusal.Fault.TheVariants as faults
use Rattle.cc_defs.specs.declared.refusal.Refusal.{Refusal}
use Rattle.cc_defs.specs.Declarations.{Declaration}
use Rattle.cc_defs.specs.Refusals.{IsRefusedBy, refused_if}
use Rattle.cc_defs.specs.Trees.{PlainStatement}
use Rattle.cc_sorts.specs.Tables.{TableView, IsTable}
use Rattle.cc_laws.specs.LawFaults.{part_fault, law_refusal}
use Rattle.cc_laws.specs.Vocabulary.{Vocabulary, vocabulary, vocabulary_of}
use Rattle.cc_laws.proofs.Vocabularies.{same_vocabulary}

pub law_refused : (file : ℕ) (table : TableView) (left : List Declaration) (statement : PlainStatement) (fault : Option ℕ) → IsTable table left →
    fault ≡ part_fault (vocabulary_of table) statement.part → law_refusal file (vocabulary left) statement ≡ refused_if file statement.line fault
law_refused file table left statement fault is found =
    ap (λ (v : Vocabulary). law_refusal file v statement) (sym (same_vocabulary table left is))
    ∙ ap (refused_if file statement.line) (sym found)

-- what was made, where a fault may be told in its place
pub given_so : {X E F : Type 0} (P : X → Type 0) (made : Result X E) (result : Result X F) → IfOk result (λ value. made ≡ Ok value) → IfOk made P → IfOk result P
given_so P made (Ok x) is so = subst (λ r. IfOk r P) is so
given_so P made (Err fault) is so = tt

pub given_fault : {X : Type 0} (refusal : Option Refusal) (result : Result X Fault) → IfErr result (λ fault. fault ≡ faults.OutOfMemory) → IfErr result (IsRefusedBy refusal)
given_fault refusal (Ok x) is = tt
given_fault refusal (Err fault) is = subst (IsRefusedBy refusal) (sym is) tt

-- behind a check that found nothing
pub held : {X F : Type 0} (P : Type 0) (result : Result X F) → P → IfOk result (λ made. P)
held P (Ok x) so = so
held P (Err fault) so = tt

-- at the exit of a call that did not succeed
pub errs : {X E : Type 0} (P : E → Type 0) (result : Result X E) (error : E) → IsErrAnd result (λ given. given ≡ error) → P error → IfErr result P
errs P (Ok x) error is so = tt
errs P (Err given) error is so = subst P (sym is) so

-- as a list, by the declarations
pub listed_so : {X Z : Type 0} (plain : X → Z) (refusal : Option Refusal) (file line : ℕ) (fault : Option ℕ) (laws whole : List Z) (made : Result (Vec X) Fault) (result : Result (List X) Fault) →
    MatchResult made (λ items. result ≡ Ok items.items) (λ fault. result ≡ Err fault) → refusal ≡ refused_if file line fault → laws ≡ whole →
    IfOk made (λ items. fault ≡ None) → IfOk made (λ items. map plain items.items ≡ laws) →
    IfOk result (λ list. (refusal ≡ None) × (map plain list ≡ whole))
listed_so plain refusal file line fault laws whole (Ok items) result is r e none so =
    subst (λ w. IfOk w (λ list. (refusal ≡ None) × (map plain list ≡ whole))) (sym is) (r ∙ ap (refused_if file line) none, so ∙ e)
listed_so plain refusal file line fault laws whole (Err error) result is r e none so =
    subst (λ w. IfOk w (λ list. (refusal ≡ None) × (map plain list ≡ whole))) (sym is) tt

pub listed_refused : {X : Type 0} (refusal : Option Refusal) (file line : ℕ) (fault : Option ℕ) (made : Result (Vec X) Fault) (result : Result (List X) Fault) →
    MatchResult made (λ items. result ≡ Ok items.items) (λ fault. result ≡ Err fault) → refusal ≡ refused_if file line fault →
    IfErr made (IsRefusedBy (refused_if file line fault)) → IfErr result (IsRefusedBy refusal)
listed_refused refusal file line fault (Ok items) result is r by = subst (λ w. IfErr w (IsRefusedBy refusal)) (sym is) tt
listed_refused refusal file line fault (Err error) result is r by =
    subst (λ w. IfErr w (IsRefusedBy refusal)) (sym is) (subst (λ o. IsRefusedBy o error) (sym r) by)
