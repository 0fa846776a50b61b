-- What base laws stand for: a law under each of its environments, and each two Boolean actions of `noconcurrency`.
use Rattle.std.specs.Prelude.{ℕ, ◌+◌, Bool, ◌&&◌, List, [], ◌∷◌, ◌++◌, map, flat_map}
use Rattle.std.specs.List.{filter}
use Rattle.cc_defs.specs.declared.law.Range.{Range}
use Rattle.cc_defs.specs.declared.law.Range.TheVariants as ranges
use Rattle.cc_defs.specs.Resolved.{Formula, Law, BaseLaw, One, NoConcurrency}
use Rattle.cc_defs.specs.Satisfaction.{satisfied, giving, head_is_there}
use Rattle.cc_defs.specs.Universe.{Universe, objects_of, values_of, boolean_actions}

abbrev pub range_values : Universe → Range → List ℕ
range_values u (ranges.Sort sort) = objects_of u sort
range_values u (ranges.Domain symbol) = values_of u symbol

-- all lists that have a value of each range, those with an earlier first value first
abbrev pub choices : List (List ℕ) → List (List ℕ)
choices [] = [] ∷ []
choices (values ∷ others) = flat_map (λ value. map (λ more. value ∷ more) (choices others)) values

-- A test speaks of objects and variables alone; no constant has a value in it.
abbrev pub without_constants : Universe → Universe
without_constants u = record u { fluents = []; actions = [] }

abbrev pub passes : Universe → Formula → List ℕ → Bool
passes u test values = satisfied (without_constants u) (λ number. 0) (giving values) test

-- the law has an instance where its variables have these values: its test is true, and its head is there
abbrev pub has_instance : Universe → Law → List ℕ → Bool
has_instance u law values = passes u law.test values && head_is_there u (giving values) law.head

-- the environments of a law, in order, each as the list of the values of its variables
abbrev pub environments : Universe → Law → List (List ℕ)
environments u law = filter (has_instance u law) (choices (map (range_values u) law.ranges))

-- each two, an earlier one first, sorted by the first, then the second
abbrev pub pairs_of : List ℕ → List (ℕ × ℕ)
pairs_of [] = []
pairs_of (number ∷ numbers) = map (λ other. (number, other)) numbers ++ pairs_of numbers

-- ---- instances

-- the base law of this number under an environment; or two Boolean actions, by number, that are not done at once
pub data Instance : Type 0 where
  Under : (base : ℕ) → Law → (values : List ℕ) → Instance
  Together : (base : ℕ) → (pair : ℕ × ℕ) → Instance

abbrev pub instances_of : Universe → ℕ → BaseLaw → List Instance
instances_of u base (One law) = map (Under base law) (environments u law)
instances_of u base (NoConcurrency file line) = map (Together base) (pairs_of (boolean_actions u))

-- those of base laws whose numbers begin with this one
abbrev pub instances_from : Universe → ℕ → List BaseLaw → List Instance
instances_from u base [] = []
instances_from u base (law ∷ laws) = instances_of u base law ++ instances_from u (base + 1) laws

-- the instances of base laws, law by law and environment by environment
abbrev pub instances : Universe → List BaseLaw → List Instance
instances u laws = instances_from u 0 laws
