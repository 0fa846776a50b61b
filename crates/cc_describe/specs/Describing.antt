-- What a description that is not refused says, and what `describe` answers.
use Rattle.std.specs.Prelude.{◌≡◌, ℕ, List, [], ◌∷◌, ◌++◌, map, Some, None, Result, Ok, Err}
use Rattle.std.specs.List.{AllByRecursion}
use Rattle.cc_defs.specs.DeclarationFaults.{signature_refusal}
use Rattle.cc_defs.specs.Declarations.{Declaration, declarations_of, symbols}
use Rattle.cc_defs.specs.Forms.{HaveForms}
use Rattle.cc_defs.specs.Resolved.{BaseLaw, Query, plain_base_law, plain_query}
use Rattle.cc_defs.specs.Trees.{PlainPart, PlainStatement}
use Rattle.cc_defs.specs.Trees as trees
use Rattle.cc_laws.specs.Expansion.{base_laws}
use Rattle.cc_laws.specs.Laws.{HasFormulas}
use Rattle.cc_laws.specs.Questions.{query_asked}
use Rattle.cc_laws.specs.Vocabulary.{vocabulary}
use Rattle.cc_laws.specs.Widening.{wide_laws}
use Rattle.cc_sorts.specs.Tables.{IsTable, IsSignatureOf}
use Rattle.cc_wide.specs.WideForms.{HaveWideForms}
use Rattle.cc_wide.specs.WideLaws.{WideBase, plain_wide_base}
use Rattle.cc_describe.specs.declared.description.Described.{Described}
use Rattle.cc_describe.specs.declared.description.DescribedWide.{DescribedWide}
use Rattle.cc_describe.specs.declared.description.DescribeStop.{DescribeStop}
use Rattle.cc_describe.specs.declared.description.DescribeStop.TheVariants as stops
use Rattle.cc_describe.specs.declared.heads.Heads.{Heads}
use Rattle.cc_describe.specs.declared.heads.Heads.TheVariants as heads
use Rattle.cc_describe.specs.FirstRefusal.{declared_in, file_named, first_refusal, opened_until}
use Rattle.cc_describe.specs.Places.{Files, Place, Said, opened_in, AreAllPlaces, AreThere}

-- ---- the laws of a statement, at the declarations up to its own; a constant has those of its kind behind its declaration

-- base laws, where heads have to be definite
abbrev pub base_laws_at : Heads → List Place → ℕ → PlainStatement → List BaseLaw
base_laws_at heads.Definite before file statement =
    base_laws file (vocabulary (declared_in before ++ declarations_of file statement)) statement.line statement.part
base_laws_at heads.Any before file statement = []

-- laws with heads of any form, where they may be so
abbrev pub wide_laws_at : Heads → List Place → ℕ → PlainStatement → List WideBase
wide_laws_at heads.Definite before file statement = []
wide_laws_at heads.Any before file statement =
    wide_laws file (vocabulary (declared_in before ++ declarations_of file statement)) statement.line statement.part

abbrev pub laws_at : Heads → List Place → Place → List BaseLaw
laws_at which before (Said file around statement) = base_laws_at which before file statement
laws_at which before place = []

abbrev pub wide_at : Heads → List Place → Place → List WideBase
wide_at which before (Said file around statement) = wide_laws_at which before file statement
wide_at which before place = []

abbrev pub laws_behind : Heads → List Place → List Place → List BaseLaw
laws_behind which before [] = []
laws_behind which before (place ∷ places) = laws_at which before place ++ laws_behind which (before ++ place ∷ []) places

abbrev pub wide_behind : Heads → List Place → List Place → List WideBase
wide_behind which before [] = []
wide_behind which before (place ∷ places) = wide_at which before place ++ wide_behind which (before ++ place ∷ []) places

-- ---- queries

abbrev pub asked_in : List Place → ℕ → PlainStatement → PlainPart → List Query
asked_in before file statement (trees.Query items) = query_asked file (vocabulary (declared_in before)) statement ∷ []
asked_in before file statement part = []

abbrev pub queries_at : List Place → Place → List Query
queries_at before (Said file around statement) = asked_in before file statement statement.part
queries_at before place = []

abbrev pub queries_behind : List Place → List Place → List Query
queries_behind before [] = []
queries_behind before (place ∷ places) = queries_at before place ++ queries_behind (before ++ place ∷ []) places

-- ---- the description

-- The table and the signature are those of all declarations; the laws and queries stand in the order of the text, those of an
-- included file in place of its include.
pub record IsDescribed (which : Heads) (places : List Place) (described : Described) : Type 0 where
  pub table : IsTable described.table (declared_in places)
  pub signature : IsSignatureOf (declared_in places) described.sig
  pub laws : map plain_base_law described.laws ≡ laws_behind which [] places
  pub queries : map plain_query described.queries ≡ queries_behind [] places
  pub names : described.files ≡ opened_in places

-- so are the laws with heads of any form beside it
pub record IsDescribedWide (which : Heads) (places : List Place) (read : DescribedWide) : Type 0 where
  pub described : IsDescribed which places read.described
  pub wide : map plain_wide_base read.wide ≡ wide_behind which [] places

-- some places have no refusal, and this is what they say
abbrev pub SaysBy : (which : Heads) → {T : Type 0} → (List Place → T → Type 0) → T → Type 0
SaysBy which Is read = (places : List Place) × (first_refusal which places ≡ None) × Is places read

-- Whatever the desk told: some places have no refusal, and this is what they say.
abbrev pub SaysAll : Heads → Described → Type 0
SaysAll which described = SaysBy which (IsDescribed which) described

abbrev pub SaysAllWide : Heads → DescribedWide → Type 0
SaysAllWide which read = SaysBy which (IsDescribedWide which) read

-- its base laws have the forms of their kinds, at the declarations that its table is of
abbrev pub HasForms : Described → Type 0
HasForms described = (declarations : List Declaration) → IsTable described.table declarations → HaveForms (symbols declarations) (map plain_base_law described.laws)

-- and so have the laws with heads of any form beside it
abbrev pub HasWideForms : DescribedWide → Type 0
HasWideForms read = (declarations : List Declaration) → IsTable read.described.table declarations → HaveWideForms (symbols declarations) (map plain_wide_base read.wide)

-- what its queries ask are formulas of these
abbrev pub AsksFormulas : Described → Type 0
AsksFormulas described = (declarations : List Declaration) → IsTable described.table declarations → AllByRecursion (HasFormulas (symbols declarations)) (map plain_query described.queries)

-- the places of the description have no refusal, this is what they say, and its files are there
abbrev pub DescribesBy : (which : Heads) → {T : Type 0} → (List Place → T → Type 0) → Files → List ℕ → T → Type 0
DescribesBy which Is files name read =
    (places : List Place) × AreAllPlaces files name places × (first_refusal which places ≡ None) × Is places read
    × AreThere files (opened_in places)

abbrev pub Describes : Heads → Files → List ℕ → Described → Type 0
Describes which files name described = DescribesBy which (IsDescribed which) files name described

abbrev pub DescribesWide : Heads → Files → List ℕ → DescribedWide → Type 0
DescribesWide which files name read = DescribesBy which (IsDescribedWide which) files name read

-- exactly the refusal of the places, before which all files are there; nothing is said of a fault of the desk or want of
-- memory
abbrev pub HasStopped : Heads → Files → List ℕ → DescribeStop → Type 0
HasStopped which files name (stops.Refused refusal file) =
    (places : List Place) × AreAllPlaces files name places × (first_refusal which places ≡ Some refusal) × (file ≡ file_named (opened_until which [] places) refusal)
    × AreThere files (opened_until which [] places)
HasStopped which files name stops.ReadFault = Unit {0}
HasStopped which files name stops.OutOfMemory = Unit {0}

-- Whatever the desk told: the refusal is exactly that of some places.
abbrev pub IsOfSome : Heads → DescribeStop → Type 0
IsOfSome which (stops.Refused refusal file) =
    (places : List Place) × (first_refusal which places ≡ Some refusal) × (file ≡ file_named (opened_until which [] places) refusal)
IsOfSome which stops.ReadFault = Unit {0}
IsOfSome which stops.OutOfMemory = Unit {0}

-- all declarations together are refused so, or there is another reason
abbrev pub IsRefusedWhole : List Place → DescribeStop → Type 0
IsRefusedWhole places (stops.Refused refusal file) =
    (signature_refusal (declared_in places) ≡ Some refusal) × (file ≡ file_named (opened_in places) refusal)
IsRefusedWhole places stops.ReadFault = ⊥
IsRefusedWhole places stops.OutOfMemory = Unit {0}

-- ---- the names that are opened

-- these names, or the first of them
abbrev pub AreFirstNames : List (List ℕ) → List (List ℕ) → Type 0
AreFirstNames names all = (rest : List (List ℕ)) × (all ≡ names ++ rest)

-- those of the places up to the first refusal, in their order
abbrev pub AreToOpen : Heads → Files → List ℕ → List (List ℕ) → Type 0
AreToOpen which files name all = (places : List Place) × AreAllPlaces files name places × (all ≡ opened_until which [] places)

-- For a description these are opened and no others; only where a fault of the desk or want of memory stops it, not all of them.
abbrev pub OpensFor : Heads → Files → List ℕ → {T : Type 0} → Result T DescribeStop → List (List ℕ) → Type 0
OpensFor which files name (Ok described) names = AreToOpen which files name names
OpensFor which files name (Err (stops.Refused refusal file)) names = AreToOpen which files name names
OpensFor which files name (Err stops.ReadFault) names = (all : List (List ℕ)) × AreToOpen which files name all × AreFirstNames names all
OpensFor which files name (Err stops.OutOfMemory) names = (all : List (List ℕ)) × AreToOpen which files name all × AreFirstNames names all
