-- What is shown of the puts of a sort: their objects, each at its first place.
use Rattle.std.specs.Prelude.{ℕ, ◌+◌, ◌≤◌, if◌then◌else◌, List, [], ◌∷◌, ◌++◌, length, map, slice_get, slice_index_or, slice_set, Option, Some, None}
use Rattle.std.specs.declared.vec.Vec.{Vec}
use Rattle.cc_defs.specs.Declarations.{firsts}
use Rattle.cc_sorts.specs.declared.table.PutAt.{PutAt}
use Rattle.cc_sorts.specs.Lists.{lists_of, capacities_of, list_at}
use Rattle.cc_sorts.specs.Numbers.{has}
use Rattle.cc_sorts.specs.Tables.{TableView}

abbrev pub object_put : Option PutAt → ℕ
object_put (Some put) = put.object
object_put None = 0

-- the object of a put
abbrev pub owner : List PutAt → ℕ → ℕ
owner puts number = object_put (slice_get puts number)

abbrev pub shown_list : List PutAt → List ℕ → List ℕ
shown_list puts list = firsts (map (owner puts) list)

abbrev pub shown_lists : List PutAt → List (List ℕ) → List (List ℕ)
shown_lists puts lists = map (shown_list puts) lists

-- a table whose sorts have the numbers of puts, with the objects of these
abbrev pub shown : TableView → TableView
shown table = record {
  sorts = record { names = table.sorts.names; pairs = table.sorts.pairs; members = shown_lists table.puts table.sorts.members };
  puts = table.puts;
  objects = table.objects;
  numbers = table.numbers;
  variables = table.variables;
  symbols = table.symbols;
}

-- an object behind the others, if it is not among them
abbrev pub put_end : ℕ → List ℕ → List ℕ
put_end object list = if has object list then list else list ++ object ∷ []

-- the lists at these numbers are set, one after another
abbrev pub set_each : List ℕ → (ℕ → List ℕ) → List (List ℕ) → List (List ℕ)
set_each [] made lists = lists
set_each (number ∷ numbers) made lists = set_each numbers made (slice_set lists number (made number))

-- there is room for more in the list at a number
abbrev pub HasSpace : {Z : Type 0} → List (Vec ℕ Z) → ℕ → ℕ → Type 0
HasSpace vectors more number = length (list_at (lists_of vectors) number) + more ≤ slice_index_or (capacities_of vectors) number 0
