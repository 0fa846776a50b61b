-- The refusal of a description: that of the first place that has one, each judged by what stands before it; and if no place
-- has one, that of all declarations together.
use Rattle.std.specs.Prelude.{ℕ, ◌+◌, ◌==◌, nat_lt, if◌then◌else◌, Bool, List, [], ◌∷◌, ◌++◌, length, flat_map, slice_index_or, Option, Some, None}
use Rattle.std.specs.Option.{option_or}
use Rattle.std.specs.List.{list_any}
use Rattle.cc_defs.specs.declared.refusal.LimitAt.TheVariants as limits
use Rattle.cc_defs.specs.declared.refusal.Refusal.{Refusal}
use Rattle.cc_defs.specs.DeclarationFaults.{declaration_refusal, signature_refusal}
use Rattle.cc_defs.specs.Declarations.{Declaration, declarations_of}
use Rattle.cc_defs.specs.Grammar.{same_text}
use Rattle.cc_defs.specs.Limits.{limit_number}
use Rattle.cc_defs.specs.Refusals.{past_at, refused}
use Rattle.cc_defs.specs.Trees.{PlainQueryItem, PlainPart, PlainStatement}
use Rattle.cc_defs.specs.Trees as trees
use Rattle.cc_laws.specs.LawFaults.{law_refusal}
use Rattle.cc_laws.specs.Questions.{items_of, labels_in, query_refusal}
use Rattle.cc_laws.specs.Vocabulary.{Vocabulary, vocabulary}
use Rattle.cc_laws.specs.Widening.{wide_refusal}
use Rattle.cc_describe.specs.declared.heads.Heads.{Heads}
use Rattle.cc_describe.specs.declared.heads.Heads.TheVariants as heads
use Rattle.cc_describe.specs.Places.{Place, Opened, Barred, Said, opened_at, opened_in}

-- ---- what stands before a place

abbrev pub declared_at : Place → List Declaration
declared_at (Said file around statement) = declarations_of file statement
declared_at place = []

abbrev pub declared_in : List Place → List Declaration
declared_in places = flat_map declared_at places

abbrev pub labels_at : Place → List (List ℕ)
labels_at (Said file around statement) = flat_map labels_in (items_of statement.part)
labels_at place = []

-- the labels of queries
abbrev pub labelled_in : List Place → List (List ℕ)
labelled_in places = flat_map labels_at places

abbrev pub bytes_at : Place → ℕ
bytes_at (Opened name bytes) = length bytes
bytes_at place = 0

-- the bytes of all files, each as often as it is opened
abbrev pub bytes_in : List Place → ℕ
bytes_in [] = 0
bytes_in (place ∷ places) = bytes_at place + bytes_in places

-- ---- the refusal of a place

-- a file is too long, or all files so far are
abbrev pub opening_refusal : List Place → List ℕ → Option Refusal
opening_refusal before bytes =
    if nat_lt (limit_number limits.FileBytes) (length bytes) then Some (past_at limits.FileBytes (length (opened_in before)) 1)
    else (if nat_lt (limit_number limits.TotalBytes) (bytes_in before + length bytes) then Some (past_at limits.TotalBytes (length (opened_in before)) 1)
    else None)

abbrev pub is_among : List (List ℕ) → List ℕ → Bool
is_among names name = list_any (same_text name) names

-- an earlier query has the label, which is 4 as a label given twice is; then the query's own faults
abbrev pub asking_refusal : List Place → ℕ → PlainStatement → Option Refusal
asking_refusal before file statement =
    if list_any (is_among (labelled_in before)) (flat_map labels_in (items_of statement.part)) then Some (refused 4 file statement.line)
    else query_refusal file (vocabulary (declared_in before)) statement

-- the file is being read; or it would be too deep
abbrev pub include_refusal : ℕ → List (List ℕ) → ℕ → List ℕ → Option Refusal
include_refusal file around line name =
    if is_among around name then Some (refused 17 file line)
    else (if nat_lt (limit_number limits.IncludeDepth) (length around) then Some (past_at limits.IncludeDepth file line)
    else None)

-- the least fault of a law; that its head is not definite is one only where heads have to be
abbrev pub law_refusal_of : Heads → ℕ → Vocabulary → PlainStatement → Option Refusal
law_refusal_of heads.Definite file v statement = law_refusal file v statement
law_refusal_of heads.Any file v statement = wide_refusal file v statement

abbrev pub statement_refusal : Heads → List Place → ℕ → List (List ℕ) → PlainStatement → PlainPart → Option Refusal
statement_refusal which before file around statement (trees.Query items) = asking_refusal before file statement
statement_refusal which before file around statement (trees.Include name) = include_refusal file around statement.line name
statement_refusal which before file around statement (trees.Law law test) = law_refusal_of which file (vocabulary (declared_in before)) statement
statement_refusal which before file around statement part = declaration_refusal file (declared_in before) statement

abbrev pub refusal_at : Heads → List Place → Place → Option Refusal
refusal_at which before (Opened name bytes) = opening_refusal before bytes
refusal_at which before (Barred refusal) = Some refusal
refusal_at which before (Said file around statement) = statement_refusal which before file around statement statement.part

-- ---- the first refusal

-- of the places behind others
abbrev pub first_behind : Heads → List Place → List Place → Option Refusal
first_behind which before [] = None
first_behind which before (place ∷ places) = option_or (refusal_at which before place) (first_behind which (before ++ place ∷ []) places)

abbrev pub first_refusal : Heads → List Place → Option Refusal
first_refusal which places = option_or (first_behind which [] places) (signature_refusal (declared_in places))

-- the names of the files that are opened up to the first refusal
abbrev pub opened_behind : Option Refusal → List (List ℕ) → List (List ℕ)
opened_behind (Some refusal) names = []
opened_behind None names = names

abbrev pub opened_until : Heads → List Place → List Place → List (List ℕ)
opened_until which before [] = []
opened_until which before (place ∷ places) =
    opened_at place ++ opened_behind (refusal_at which before place) (opened_until which (before ++ place ∷ []) places)

-- the name of the file that a refusal speaks of, among these; none where the refusal has no place
abbrev pub file_named : List (List ℕ) → Refusal → List ℕ
file_named names refusal = if refusal.line == 0 then [] else slice_index_or names refusal.file []
