-- The free variables of formulas, by their numbers.
use Rattle.std.specs.Prelude.{ℕ, Bool, not, if◌then◌else◌, List, [], ◌∷◌, ◌++◌, flat_map, nat_eq, Option, Some, None}
use Rattle.std.specs.List.{list_any, filter}
use Rattle.cc_defs.specs.Trees.{PlainTerm, PlainSum, PlainTree}
use Rattle.cc_defs.specs.Trees as trees
use Rattle.cc_laws.specs.Leaves.{mentions, sum_mentions}
use Rattle.cc_laws.specs.Vocabulary.{Vocabulary, Meaning, Variable, meaning}

abbrev pub is_among : List ℕ → ℕ → Bool
is_among numbers number = list_any (nat_eq number) numbers

abbrev pub variable_meant : Meaning → List ℕ
variable_meant (Variable number sort) = number ∷ []
variable_meant means = []

-- what is there, as a list
abbrev pub optional : {X : Type 0} → Option X → List X
optional None = []
optional (Some x) = x ∷ []

-- the variables of a term, in the order of its text
abbrev pub term_variables : Vocabulary → PlainTerm → List ℕ
term_variables v term = flat_map (λ mention. variable_meant (meaning v mention.name)) (mentions term)

abbrev pub sum_variables : Vocabulary → PlainSum → List ℕ
sum_variables v sum = flat_map (λ mention. variable_meant (meaning v mention.name)) (sum_mentions sum)

-- those that no bracket around them binds
abbrev pub unbound : List ℕ → List ℕ → List ℕ
unbound bound numbers = filter (λ number. not (is_among bound number)) numbers

-- The free occurrences of variables in a formula, in the order of its text, inside brackets with these variables.
abbrev pub free : Vocabulary → List ℕ → PlainTree → List ℕ
free v bound (trees.Bare term) = unbound bound (term_variables v term)
free v bound (trees.Compared comparison s t) = unbound bound (sum_variables v s) ++ unbound bound (sum_variables v t)
free v bound (trees.Paren f) = free v bound f
free v bound (trees.Not f) = free v bound f
free v bound (trees.Both f g) = free v bound f ++ free v bound g
free v bound (trees.Either f g) = free v bound f ++ free v bound g
free v bound (trees.Implies f g) = free v bound f ++ free v bound g
free v bound (trees.Same f g) = free v bound f ++ free v bound g
free v bound (trees.ForAll name f) = free v (bound ++ variable_meant (meaning v name)) f
free v bound (trees.Exists name f) = free v (bound ++ variable_meant (meaning v name)) f

-- each number at its first place
abbrev pub firsts_after : List ℕ → List ℕ → List ℕ
firsts_after seen [] = []
firsts_after seen (number ∷ numbers) =
    if is_among seen number then firsts_after seen numbers else number ∷ firsts_after (seen ++ number ∷ []) numbers

abbrev pub firsts : List ℕ → List ℕ
firsts numbers = firsts_after [] numbers

-- whether one of the numbers is not among the others
abbrev pub some_is_new : List ℕ → List ℕ → Bool
some_is_new others numbers = list_any (λ number. not (is_among others number)) numbers
