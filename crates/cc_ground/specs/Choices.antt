-- How many lists of values are walked for a formula and for the instances of a law, in the order in which they are counted.
use Rattle.std.specs.Prelude.{ℕ, ◌+◌, Bool, true, false, ◌&&◌, ◌||◌, if◌then◌else◌, List, [], ◌∷◌, ◌++◌, map, Option, Some, None}
use Rattle.cc_defs.specs.declared.law.Range.{Range}
use Rattle.cc_defs.specs.Environments.{choices, has_instance, range_values}
use Rattle.cc_defs.specs.Judged.{choices_of, constants_of, is_sum}
use Rattle.cc_defs.specs.Resolved.{BaseLaw, Condition, Formula, Law, Terms}
use Rattle.cc_defs.specs.Resolved as resolved
use Rattle.cc_defs.specs.Satisfaction.{Environment, bind, giving}
use Rattle.cc_defs.specs.Universe.{Universe}
use Rattle.cc_ground.specs.Counting.{condition_choices, part_choices}

abbrev pub has_any : List (ℕ × Terms) → Bool
has_any [] = false
has_any (constant ∷ others) = true

-- whether there is an equation or comparison in a formula whose lists of values are walked
abbrev pub has_lists : Formula → Bool
has_lists resolved.Truth = false
has_lists resolved.Falsehood = false
has_lists (resolved.Equal s t) = (is_sum s || is_sum t) && has_any (constants_of s ++ constants_of t)
has_lists (resolved.Less s t) = has_any (constants_of s ++ constants_of t)
has_lists (resolved.AtMost s t) = has_any (constants_of s ++ constants_of t)
has_lists (resolved.Not f) = has_lists f
has_lists (resolved.Both f g) = has_lists f || has_lists g
has_lists (resolved.Either f g) = has_lists f || has_lists g
has_lists (resolved.Implies f g) = has_lists f || has_lists g
has_lists (resolved.Same f g) = has_lists f || has_lists g
has_lists (resolved.ForAll variable sort f) = has_lists f
has_lists (resolved.Exists variable sort f) = has_lists f

abbrev pub has_lists_part : Option Formula → Bool
has_lists_part None = false
has_lists_part (Some formula) = has_lists formula

-- the lists of a formula for each of these objects
abbrev pub bracket_choices : Universe → Environment → ℕ → Formula → List ℕ → ℕ
bracket_choices u env variable formula [] = 0
bracket_choices u env variable formula (object ∷ objects) = choices_of u (bind variable object env) formula + bracket_choices u env variable formula objects

-- those of a law under an environment
abbrev pub law_choices : Universe → Law → List ℕ → ℕ
law_choices u law values = choices_of u (giving values) law.body + part_choices u (giving values) law.after

-- of those of these lists of values that make an instance
abbrev pub choices_under : Universe → Law → List (List ℕ) → ℕ
choices_under u law [] = 0
choices_under u law (values ∷ lists) = (if has_instance u law values then law_choices u law values else 0) + choices_under u law lists

-- for all values of the ranges that are left, behind these
abbrev pub choices_behind : Universe → Law → List ℕ → List Range → ℕ
choices_behind u law values ranges = choices_under u law (map (λ more. values ++ more) (choices (map (range_values u) ranges)))

-- of each of these values of the first range
abbrev pub choices_with : Universe → Law → List ℕ → List Range → List ℕ → ℕ
choices_with u law front others [] = 0
choices_with u law front others (value ∷ values) = choices_behind u law (front ++ value ∷ []) others + choices_with u law front others values

-- of a base law, and of base laws
abbrev pub base_choices : Universe → BaseLaw → ℕ
base_choices u (resolved.One law) = choices_behind u law [] law.ranges
base_choices u (resolved.NoConcurrency file line) = 0

abbrev pub laws_choices : Universe → List BaseLaw → ℕ
laws_choices u [] = 0
laws_choices u (law ∷ laws) = base_choices u law + laws_choices u laws

-- of conditions
abbrev pub conditions_choices : Universe → List Condition → ℕ
conditions_choices u [] = 0
conditions_choices u (condition ∷ conditions) = condition_choices u condition + conditions_choices u conditions
