-- Definite heads, and what they stand for: `false`, atoms, Boolean constants and their denials, and conjunctions of these.
use Rattle.std.specs.Prelude.{zero, Bool, true, false, not, ◌&&◌, List, [], ◌∷◌, ◌++◌, Option, Some, None}
use Rattle.cc_defs.specs.Resolved.{Term, Terms, Head}
use Rattle.cc_defs.specs.Resolved as resolved
use Rattle.cc_defs.specs.Trees.{PlainTerm, Applied, PlainSum, PlainTree}
use Rattle.cc_defs.specs.Trees as trees
use Rattle.cc_laws.specs.FormulaFaults.{sum_has, term_meaning}
use Rattle.cc_laws.specs.Leaves.{lone}
use Rattle.cc_laws.specs.Resolving.{Binding, resolve_sum, resolve_sums}
use Rattle.cc_laws.specs.Vocabulary.{Vocabulary, Meaning, Object, Constant, meaning, is_constant, is_boolean_constant, is_truth_value, is_falsity}

abbrev pub is_constant_term : Vocabulary → PlainTerm → Bool
is_constant_term v term = is_constant (term_meaning v term)

abbrev pub is_boolean_term : Vocabulary → PlainTerm → Bool
is_boolean_term v term = is_boolean_constant (term_meaning v term)

abbrev pub is_truth_term : Vocabulary → PlainTerm → Bool
is_truth_term v term = is_truth_value (term_meaning v term)

abbrev pub is_falsity_term : Vocabulary → PlainTerm → Bool
is_falsity_term v term = is_falsity (term_meaning v term)

-- ---- the heads of terms

abbrev pub listed : Terms → List Term
listed resolved.NoTerms = []
listed (resolved.MoreTerms first others) = first ∷ listed others

abbrev pub atom_meant : Meaning → Terms → Term → Option (List Head)
atom_meant (Constant number symbol) args value = Some (resolved.Atom number (listed args) value ∷ [])
atom_meant means args value = None

-- `c=value`, where c is a constant
abbrev pub atom : Vocabulary → List Binding → PlainTerm → Term → Option (List Head)
atom v scope (Applied name args) value = atom_meant (meaning v name) (resolve_sums v scope args) value

-- the other one of `false` and `true`
abbrev pub opposite_of : Meaning → Term
opposite_of (Object zero sort) = resolved.Object 1
opposite_of means = resolved.Object 0

abbrev pub opposite : Vocabulary → PlainTerm → Term
opposite v term = opposite_of (term_meaning v term)

-- ---- the heads of formulas

abbrev pub only_if : Bool → Option (List Head) → Option (List Head)
only_if true heads = heads
only_if false heads = None

abbrev pub or_else : Option (List Head) → Option (List Head) → Option (List Head)
or_else (Some heads) others = Some heads
or_else None others = others

abbrev pub both_heads : Option (List Head) → Option (List Head) → Option (List Head)
both_heads (Some heads) (Some others) = Some (heads ++ others)
both_heads (Some heads) None = None
both_heads None others = None

-- `c=sum`, where c is a constant alone, and the sum has no constant
abbrev pub value_heads : Vocabulary → List Binding → Option PlainTerm → PlainSum → Option (List Head)
value_heads v scope None sum = None
value_heads v scope (Some c) sum =
    only_if (is_constant_term v c && not (sum_has v (λ means count. is_constant means) sum)) (atom v scope c (resolve_sum v scope sum))

-- that a Boolean constant has not this one of `false` and `true`
abbrev pub boolean_heads : Vocabulary → List Binding → Option PlainTerm → Option PlainTerm → Option (List Head)
boolean_heads v scope (Some c) (Some value) = only_if (is_boolean_term v c && is_truth_term v value) (atom v scope c (opposite v value))
boolean_heads v scope (Some c) None = None
boolean_heads v scope None value = None

-- What `-` may stand before, and the head that it makes: of a Boolean constant c it is `c=false`; of `c=v` and `v=c`, v one of
-- `false` and `true`, it is that c has the other one.
abbrev pub denied_heads : Vocabulary → List Binding → PlainTree → Option (List Head)
denied_heads v scope (trees.Bare c) = only_if (is_boolean_term v c) (atom v scope c (resolved.Object 0))
denied_heads v scope (trees.Compared trees.IsEqual s t) = or_else (boolean_heads v scope (lone s) (lone t)) (boolean_heads v scope (lone t) (lone s))
denied_heads v scope (trees.Paren f) = denied_heads v scope f
denied_heads v scope formula = None

-- The heads that a definite formula stands for, in order; none where the formula is not definite.
abbrev pub definite_heads : Vocabulary → List Binding → PlainTree → Option (List Head)
definite_heads v scope (trees.Bare c) =
    or_else (only_if (is_falsity_term v c) (Some (resolved.Falsity ∷ []))) (only_if (is_boolean_term v c) (atom v scope c (resolved.Object 1)))
definite_heads v scope (trees.Compared trees.IsEqual s t) = or_else (value_heads v scope (lone s) t) (value_heads v scope (lone t) s)
definite_heads v scope (trees.Compared trees.Differs s t) = boolean_heads v scope (lone s) (lone t)
definite_heads v scope (trees.Paren f) = definite_heads v scope f
definite_heads v scope (trees.Not f) = denied_heads v scope f
definite_heads v scope (trees.Both f g) = both_heads (definite_heads v scope f) (definite_heads v scope g)
definite_heads v scope formula = None
