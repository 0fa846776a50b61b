-- A query at a table, by the declarations that the table has.
use Rattle.std.proofs.Common.{◌≡◌, ◌∙◌, ℕ, ◌+◌, List, Option, None, Result, Ok, Err, IfOk, flat_map, arith, refl, sym, ap, subst}
use Rattle.std.specs.Prelude.{IfErr, option_map}
use Rattle.cc_defs.specs.declared.refusal.Fault.{Fault}
use Rattle.cc_defs.specs.Declarations.{Declaration}
use Rattle.cc_defs.specs.Refusals.{IsRefusedBy, least, refused_if}
use Rattle.cc_defs.specs.Resolved.{Condition, Query}
use Rattle.cc_defs.specs.Trees.{PlainQueryItem, PlainStatement}
use Rattle.cc_sorts.specs.Tables.{TableView, IsTable}
use Rattle.cc_laws.specs.Questions.{first, labels_in, ranges_in, claims_in, conditions_in, condition_asked, conditions_asked, brackets_asked, items_of, query_faults, query_refusal, query_of, query_asked}
use Rattle.cc_laws.specs.Vocabulary.{Vocabulary, vocabulary, vocabulary_of}
use Rattle.cc_laws.proofs.Vocabularies.{same_vocabulary}

pub judged : (file : ℕ) (table : TableView) (left : List Declaration) (statement : PlainStatement) (items : List PlainQueryItem) (fault : Option ℕ) →
    IsTable table left → items ≡ items_of statement.part → fault ≡ least (query_faults (vocabulary_of table) items) →
    query_refusal file (vocabulary left) statement ≡ refused_if file statement.line fault
judged file table left statement items fault is p q =
    ap (λ (v : Vocabulary). refused_if file statement.line (least (query_faults v (items_of statement.part)))) (sym (same_vocabulary table left is))
    ∙ ap (λ (l : List PlainQueryItem). refused_if file statement.line (least (query_faults (vocabulary_of table) l))) (sym p)
    ∙ ap (refused_if file statement.line) (sym q)

pub answered : (file : ℕ) (table : TableView) (left : List Declaration) (statement : PlainStatement) (items : List PlainQueryItem) (query : Query) →
    IsTable table left → items ≡ items_of statement.part → query ≡ query_of file (vocabulary_of table) statement.line items →
    query ≡ query_asked file (vocabulary left) statement
answered file table left statement items query is p q =
    q
    ∙ ap (λ (l : List PlainQueryItem). query_of file (vocabulary_of table) statement.line l) p
    ∙ ap (λ (v : Vocabulary). query_of file v statement.line (items_of statement.part)) (same_vocabulary table left is)

-- what was asked, where there is no fault
pub asked_so : {X : Type 0} (plain : X → Query) (file : ℕ) (table : TableView) (left : List Declaration) (statement : PlainStatement) (items : List PlainQueryItem) (result : Result X Fault) →
    IsTable table left → items ≡ items_of statement.part → IfOk result (λ query. least (query_faults (vocabulary_of table) items) ≡ None) →
    IfOk result (λ query. plain query ≡ query_of file (vocabulary_of table) statement.line items) →
    IfOk result (λ query. (query_refusal file (vocabulary left) statement ≡ None) × (plain query ≡ query_asked file (vocabulary left) statement))
asked_so plain file table left statement items (Ok query) is p none so =
    (judged file table left statement items _ is p refl ∙ ap (refused_if file statement.line) none, answered file table left statement items (plain query) is p so)
asked_so plain file table left statement items (Err fault) is p none so = tt

pub asked_refused : {X : Type 0} (file : ℕ) (table : TableView) (left : List Declaration) (statement : PlainStatement) (items : List PlainQueryItem) (result : Result X Fault) →
    IsTable table left → items ≡ items_of statement.part → IfErr result (IsRefusedBy (refused_if file statement.line (least (query_faults (vocabulary_of table) items)))) →
    IfErr result (IsRefusedBy (query_refusal file (vocabulary left) statement))
asked_refused file table left statement items result is p by =
    subst (λ o. IfErr result (IsRefusedBy o)) (sym (judged file table left statement items _ is p refl)) by

-- what is asked, from its parts; the brackets of the claim have their numbers behind those of the conditions
abbrev query : ℕ → ℕ → Option (List ℕ) → Option (ℕ × ℕ) → List Condition → Option Condition → Query
query file line label range conditions claim = record { label = label; range = range; conditions = conditions; claim = claim; file = file; line = line }

pub put_together : (file line : ℕ) (v : Vocabulary) (items : List PlainQueryItem) (label : Option (List ℕ)) (range : Option (ℕ × ℕ)) (conditions : List Condition) (claim : Option Condition) (next : ℕ) →
    label ≡ first (flat_map labels_in items) → range ≡ first (flat_map ranges_in items) → conditions ≡ conditions_asked v 0 (flat_map conditions_in items) →
    next ≡ 0 + brackets_asked (flat_map conditions_in items) → claim ≡ option_map (condition_asked v next) (first (flat_map claims_in items)) →
    query file line label range conditions claim ≡ query_of file v line items
put_together file line v items label range conditions claim next e f g h i =
    let behind : next ≡ brackets_asked (flat_map conditions_in items) = omega arith in
    let claimed = i ∙ ap (λ (n : ℕ). option_map (condition_asked v n) (first (flat_map claims_in items))) behind in
    ap (λ l. query file line l range conditions claim) e ∙ ap (λ r. query file line (first (flat_map labels_in items)) r conditions claim) f
    ∙ ap (λ cs. query file line (first (flat_map labels_in items)) (first (flat_map ranges_in items)) cs claim) g
    ∙ ap (λ c. query file line (first (flat_map labels_in items)) (first (flat_map ranges_in items)) (conditions_asked v 0 (flat_map conditions_in items)) c) claimed
