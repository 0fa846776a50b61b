-- What was read of a description stands for the places that were gone through; and what each step leaves.
use Rattle.std.specs.Prelude.{◌≡◌, ◌⊎◌, ℕ, List, [], ◌∷◌, ◌++◌, map, Bool, true, false, Option, Some, None, Result, Ok, Err}
use Rattle.cc_defs.specs.declared.refusal.Fault.{Fault}
use Rattle.cc_defs.specs.declared.refusal.Fault.TheVariants as faults
use Rattle.cc_defs.specs.Declarations.{Declaration}
use Rattle.cc_defs.specs.Resolved.{plain_base_law, plain_query}
use Rattle.cc_defs.specs.Statements.{IsRefused, IsParsed}
use Rattle.cc_defs.specs.Tokens.{TokenView}
use Rattle.cc_defs.specs.Trees.{PlainPart, PlainStatement}
use Rattle.cc_defs.specs.Trees as trees
use Rattle.cc_laws.specs.Expansion.{base_laws}
use Rattle.cc_laws.specs.Vocabulary.{vocabulary}
use Rattle.cc_laws.specs.Widening.{wide_laws}
use Rattle.cc_ports.specs.Calls.{AreActs, Call, names_begun, names_opened, with_calls}
use Rattle.cc_sorts.specs.Tables.{IsTable}
use Rattle.cc_wide.specs.WideLaws.{plain_wide_base}
use Rattle.cc_describe.specs.declared.description.DescribeStop.{DescribeStop}
use Rattle.cc_describe.specs.declared.description.DescribeStop.TheVariants as stops
use Rattle.cc_describe.specs.declared.files.Halt.{Halt}
use Rattle.cc_describe.specs.declared.files.Halt.TheVariants as halts
use Rattle.cc_describe.specs.declared.heads.Heads.{Heads}
use Rattle.cc_describe.specs.declared.heads.Heads.TheVariants as heads
use Rattle.cc_describe.specs.declared.progress.Progress.{Progress}
use Rattle.cc_describe.specs.Describing.{laws_behind, queries_behind, wide_behind, AreFirstNames}
use Rattle.cc_describe.specs.FirstRefusal.{declared_in, file_named, labelled_in, bytes_in, first_behind, opened_until, opening_refusal, statement_refusal}
use Rattle.cc_describe.specs.Places.{Files, Place, Opened, Said, included, opened_in, AreThere}

-- what is kept is that of these places, for laws with such heads
pub record IsProgress (which : Heads) (progress : Progress) (places : List Place) : Type 0 where
  pub heads : progress.heads ≡ which
  pub table : IsTable progress.table (declared_in places)
  pub laws : map plain_base_law progress.laws.items ≡ laws_behind which [] places
  pub wide : map plain_wide_base progress.wide.items ≡ wide_behind which [] places
  pub queries : map plain_query progress.queries.items ≡ queries_behind [] places
  pub labels : progress.labels ≡ labelled_in places
  pub names : progress.names.items ≡ opened_in places
  pub bytes : progress.bytes ≡ bytes_in places

abbrev pub halt_of : Fault → Halt
halt_of (faults.Refused refusal) = halts.Refused refusal
halt_of faults.OutOfMemory = halts.OutOfMemory

-- What is kept has the laws of a statement behind those that it had, in the form that they are to have, where these declarations
-- are in the table.
abbrev pub Adds : Heads → (file : ℕ) → List Declaration → PlainStatement → (old new : Progress) → Type 0
Adds heads.Definite file left statement old new =
    (map plain_base_law new.laws.items ≡ map plain_base_law old.laws.items ++ base_laws file (vocabulary left) statement.line statement.part)
    × (new.wide ≡ old.wide)
Adds heads.Any file left statement old new =
    (map plain_wide_base new.wide.items ≡ map plain_wide_base old.wide.items ++ wide_laws file (vocabulary left) statement.line statement.part)
    × (new.laws ≡ old.laws)

-- A statement is not refused, and was taken up.
pub record Says (which : Heads) (before : List Place) (file : ℕ) (around : List (List ℕ)) (statement : PlainStatement) (new : Progress) : Type 0 where
  pub unrefused : statement_refusal which before file around statement statement.part ≡ None
  pub taken : IsProgress which new (before ++ Said file around statement ∷ [])

-- The tokens are a statement that was taken up, which includes this file or none.
abbrev pub IsTaken : Heads → List Place → ℕ → List (List ℕ) → List TokenView → Option (List ℕ) → Progress → Type 0
IsTaken which before file around tokens name new =
    (statement : PlainStatement) × IsParsed tokens statement × (name ≡ included statement.part) × Says which before file around statement new

-- The statement is refused so, or memory was wanting.
abbrev pub IsRefusedStatement : Heads → List Place → ℕ → List (List ℕ) → List TokenView → Fault → Type 0
IsRefusedStatement which before file around tokens (faults.Refused refusal) =
    IsRefused file tokens refusal
    ⊎ ((statement : PlainStatement) × IsParsed tokens statement × (statement_refusal which before file around statement statement.part ≡ Some refusal))
IsRefusedStatement which before file around tokens faults.OutOfMemory = Unit {0}

-- a statement of sorts, objects, variables or constants
abbrev pub declares : PlainPart → Bool
declares (trees.Query items) = false
declares (trees.Include name) = false
declares (trees.Law law test) = false
declares part = true

-- A file with these bytes was opened, and is being read.
pub record IsOpened (which : Heads) (before : List Place) (name bytes : List ℕ) (new : Progress) : Type 0 where
  pub unrefused : opening_refusal before bytes ≡ None
  pub opened : IsProgress which new (before ++ Opened name bytes ∷ [])

-- It is refused, and its name is the last of those kept; or there is another reason, and it may be.
abbrev pub IsRefusedOpening : List Place → List ℕ → List ℕ → Halt → Progress → Type 0
IsRefusedOpening before name bytes (halts.Refused refusal) new =
    (opening_refusal before bytes ≡ Some refusal) × (new.names.items ≡ opened_in before ++ name ∷ [])
IsRefusedOpening before name bytes halts.ReadFault new = AreFirstNames new.names.items (opened_in before ++ name ∷ [])
IsRefusedOpening before name bytes halts.OutOfMemory new = AreFirstNames new.names.items (opened_in before ++ name ∷ [])

-- The names kept are those of the files to be opened up to the first refusal, or the first of them.
abbrev pub OpensFirst : Heads → (List Place → Type 0) → List Place → Progress → Type 0
OpensFirst which Are before new =
    (places : List Place) × Are places × AreFirstNames new.names.items (opened_in before ++ opened_until which before places)

-- Places behind others were gone through: none is refused, and what is kept is that of all of them; or the first refusal is
-- told, and the names kept are those of the files opened up to it; or there is another reason, and these are the first of them.
-- `Are` says which places.
abbrev pub GoesThrough : Heads → (List Place → Type 0) → List Place → {T : Type 0} → Result T Halt → Progress → Type 0
GoesThrough which Are before (Ok done) new =
    (places : List Place) × Are places × (first_behind which before places ≡ None) × IsProgress which new (before ++ places)
GoesThrough which Are before (Err (halts.Refused refusal)) new =
    (places : List Place) × Are places × (first_behind which before places ≡ Some refusal)
    × (new.names.items ≡ opened_in before ++ opened_until which before places)
GoesThrough which Are before (Err halts.ReadFault) new = OpensFirst which Are before new
GoesThrough which Are before (Err halts.OutOfMemory) new = OpensFirst which Are before new

-- whichever places they are
abbrev pub GoesSomewhere : Heads → List Place → {T : Type 0} → Result T Halt → Progress → Type 0
GoesSomewhere which before result new = GoesThrough which (λ places. Unit {0}) before result new

-- The files with these names are there; nothing is said of a fault of the desk or want of memory.
abbrev pub FindsFiles : Files → {T : Type 0} → Result T Halt → List (List ℕ) → Type 0
FindsFiles files (Ok done) names = AreThere files names
FindsFiles files (Err (halts.Refused refusal)) names = AreThere files names
FindsFiles files (Err halts.ReadFault) names = Unit {0}
FindsFiles files (Err halts.OutOfMemory) names = Unit {0}

-- The calls of the desk open each file whose name is kept after the earlier ones, in order, and no other, and read it when they have
-- opened it; they begin no log.
pub record OpensAsKept (old new : List (List ℕ)) (before after : Option (List Call)) : Type 0 where
  pub more : List Call
  pub names : new ≡ old ++ names_opened more
  pub begun : names_begun more ≡ []
  pub calls : after ≡ with_calls more before
  pub acts : AreActs more

-- why a description stops, with the name of the file that a refusal speaks of
abbrev pub StopsAs : List (List ℕ) → Halt → DescribeStop → Type 0
StopsAs names (halts.Refused refusal) (stops.Refused told file) = (told ≡ refusal) × (file ≡ file_named names refusal)
StopsAs names (halts.Refused refusal) stops.ReadFault = ⊥
StopsAs names (halts.Refused refusal) stops.OutOfMemory = Unit {0}
StopsAs names halts.ReadFault stop = stop ≡ stops.ReadFault
StopsAs names halts.OutOfMemory stop = stop ≡ stops.OutOfMemory
