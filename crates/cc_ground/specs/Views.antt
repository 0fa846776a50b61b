-- What a table and a signature are about, and what the makers of terms leave.
use Rattle.std.specs.Prelude.{◌≡◌, ℕ, Bool, true, false, Option, Some, None, ◌+◌, ◌<◌, List, [], ◌++◌, length, map, flat_map}
use Rattle.std.specs.List.{filter}
use Rattle.cc_arena.specs.declared.ground_laws.GroundLaw.{GroundLaw}
use Rattle.cc_defs.specs.declared.law.Range.{Range}
use Rattle.cc_defs.specs.declared.node.Node.{Node}
use Rattle.cc_defs.specs.declared.refusal.Fault.{Fault}
use Rattle.cc_defs.specs.declared.refusal.Fault.TheVariants as faults
use Rattle.cc_defs.specs.declared.refusal.LimitAt.TheVariants as limits
use Rattle.cc_defs.specs.Refusals.{past}
use Rattle.cc_defs.specs.Resolved.{BaseLaw, Formula, Law}
use Rattle.cc_defs.specs.Satisfaction.{Environment, Value as Meant, Thing, Whole, satisfied}
use Rattle.cc_defs.specs.Signatures.{Signature}
use Rattle.cc_sorts.specs.Tables.{TableView}
use Rattle.cc_ground.specs.declared.maker.Halt.{Halt}
use Rattle.cc_ground.specs.declared.maker.Halt.TheVariants as halts
use Rattle.cc_ground.specs.declared.maker.Maker.{Maker}
use Rattle.cc_ground.specs.declared.sides.Side.{Side as SideKept}
use Rattle.cc_ground.specs.declared.sides.Side.TheVariants as sides
use Rattle.cc_ground.specs.declared.sums.Value.{Value}
use Rattle.cc_ground.specs.declared.sums.Value.TheVariants as values
use Rattle.cc_ground.specs.Counting.{nodes_in}
use Rattle.cc_defs.specs.Environments.{Under, choices, has_instance, instances_from, instances_of, range_values, without_constants}
use Rattle.cc_defs.specs.GroundLaws.{PlainGroundLaw, law_of_instance}
use Rattle.cc_arena.specs.GroundViews.{plain_ground_law}
use Rattle.cc_defs.specs.Nodes.{Side, Constant, Value as ValueSide, Absent}
use Rattle.cc_defs.specs.Universe.{Universe}

-- what a table and a signature are about
abbrev pub universe_of : TableView → Signature → Universe
universe_of table signature = record {
  sorts = table.sorts.members;
  numbers = table.numbers;
  symbols = map (λ placed. placed.symbol) table.symbols;
  fluents = signature.fluents;
  actions = signature.actions;
}

-- what a table alone is about: there is no constant
abbrev pub bare_universe : TableView → Universe
bare_universe table = record {
  sorts = table.sorts.members;
  numbers = table.numbers;
  symbols = map (λ placed. placed.symbol) table.symbols;
  fluents = [];
  actions = [];
}

-- what a maker of terms speaks of
abbrev pub universe_in : Maker → Universe
universe_in maker = universe_of maker.table.now maker.sig.now

abbrev pub plain_side : SideKept → Side
plain_side (sides.Constant number values) = Constant number values.now
plain_side (sides.Value value) = ValueSide value
plain_side sides.Absent = Absent

abbrev pub plain_value : Value → Meant
plain_value (values.Thing object) = Thing object
plain_value (values.Whole plus minus) = Whole plus minus

-- a list, where it is asked for
abbrev pub some_if : Bool → List ℕ → Option (List ℕ)
some_if true items = Some items
some_if false items = None

-- only the nodes and the room for more change
pub record IsLike (old new : Maker) : Type 0 where
  pub table : new.table.now ≡ old.table.now
  pub sig : new.sig.now ≡ old.sig.now
  pub env : new.env ≡ old.env

-- these nodes were put behind those that are there
pub record HasPut (nodes : List Node) (old new : Maker) : Type 0 where
  pub put : new.nodes.items ≡ old.nodes.items ++ nodes
  pub room : new.room + length nodes ≡ old.room
  pub like : IsLike old new

-- There is not enough room for so many nodes; nothing is said of want of memory.
abbrev pub LacksRoom : ℕ → ℕ → Halt → Type 0
LacksRoom count room halts.Full = room < count
LacksRoom count room halts.OutOfMemory = Unit {0}

-- the fault by which a call ends that stopped making nodes
abbrev pub fault_by : Halt → Fault
fault_by halts.Full = faults.Refused (past limits.GroundNodes)
fault_by halts.OutOfMemory = faults.OutOfMemory

-- these laws were made behind those that are there
pub record HasMade (laws : List PlainGroundLaw) (was is_now : List GroundLaw) (old new : Maker) : Type 0 where
  pub made : map plain_ground_law is_now ≡ map plain_ground_law was ++ laws
  pub room : new.room + nodes_in laws ≡ old.room
  pub like : IsLike old new

-- the ground laws of a law, for those of these lists of values that make an instance
abbrev pub laws_under : Universe → ℕ → Law → List (List ℕ) → List PlainGroundLaw
laws_under u base law lists = flat_map (λ values. law_of_instance u (Under base law values)) (filter (has_instance u law) lists)

-- for all values of the ranges that are left, behind these
abbrev pub laws_behind : Universe → ℕ → Law → List ℕ → List Range → List PlainGroundLaw
laws_behind u base law values ranges = laws_under u base law (map (λ more. values ++ more) (choices (map (range_values u) ranges)))

-- the ground laws of a base law, and of base laws whose numbers begin with this one
abbrev pub laws_of : Universe → ℕ → BaseLaw → List PlainGroundLaw
laws_of u base law = flat_map (law_of_instance u) (instances_of u base law)

abbrev pub laws_from : Universe → ℕ → List BaseLaw → List PlainGroundLaw
laws_from u base laws = flat_map (law_of_instance u) (instances_from u base laws)

-- the truth of a formula in which no constant has a value
abbrev pub passes_in : Universe → Formula → Environment → Bool
passes_in u test env = satisfied (without_constants u) (λ number. 0) env test
