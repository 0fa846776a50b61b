-- Which formulas have definite heads, by their terms.
use Rattle.std.proofs.Common.{◌≡◌, ◌∙◌, Bool, true, false, not, ◌&&◌, ◌||◌, List, [], Option, Some, None, refl, ap, append_assoc, subst}
use Rattle.std.specs.Prelude.{if◌then◌else◌, is_some, unwrap_or}
use Rattle.cc_defs.specs.Resolved.{Term, Head}
use Rattle.cc_defs.specs.Trees.{PlainTerm, Applied, PlainSum, PlainTree}
use Rattle.cc_defs.specs.Trees as trees
use Rattle.cc_laws.specs.Heads.{is_constant_term, is_boolean_term, is_truth_term, is_falsity_term, atom, atom_meant, opposite, only_if, or_else, both_heads, value_heads, boolean_heads, definite_heads, denied_heads}
use Rattle.cc_laws.specs.FormulaFaults.{sum_has, term_meaning}
use Rattle.cc_laws.specs.LawFaults.{is_definite}
use Rattle.cc_laws.specs.Leaves.{lone}
use Rattle.cc_laws.specs.Resolving.{Binding, resolve_sum}
use Rattle.cc_laws.specs.Views.{constant_beside, truth_beside}
use Rattle.cc_laws.specs.Vocabulary.{Vocabulary, Meaning, Unknown, Nothing, Object, Variable, Constant, meaning, is_constant, is_boolean_constant}

-- ---- whether there are heads

some_only : (test : Bool) (heads : Option (List Head)) → is_some (only_if test heads) ≡ (test && is_some heads)
some_only true heads = refl
some_only false heads = refl

some_or_else : (heads others : Option (List Head)) → is_some (or_else heads others) ≡ (is_some heads || is_some others)
some_or_else (Some heads) others = refl
some_or_else None others = refl

some_both : (heads others : Option (List Head)) → is_some (both_heads heads others) ≡ (is_some heads && is_some others)
some_both (Some heads) (Some others) = refl
some_both (Some heads) None = refl
some_both None others = refl

some_atom_meant : (means : Meaning) (args : _) (value : Term) → is_some (atom_meant means args value) ≡ is_constant means
some_atom_meant Unknown args value = refl
some_atom_meant Nothing args value = refl
some_atom_meant (Object number sort) args value = refl
some_atom_meant (Variable number sort) args value = refl
some_atom_meant (Constant number symbol) args value = refl

some_atom : (v : Vocabulary) (scope : List Binding) (term : PlainTerm) (value : Term) → is_some (atom v scope term value) ≡ is_constant_term v term
some_atom v scope (Applied name args) value = some_atom_meant (meaning v name) _ value

-- ---- a Boolean constant is a constant, and no truth value

and_true : (b : Bool) → (b && true) ≡ b
and_true true = refl
and_true false = refl

boolean_constant : (means : Meaning) → (is_boolean_constant means && is_constant means) ≡ is_boolean_constant means
boolean_constant Unknown = refl
boolean_constant Nothing = refl
boolean_constant (Object number sort) = refl
boolean_constant (Variable number sort) = refl
boolean_constant (Constant number symbol) = and_true (is_boolean_constant (Constant number symbol))

boolean_atom : (v : Vocabulary) (scope : List Binding) (term : PlainTerm) (value : Term) → (is_boolean_term v term && is_some (atom v scope term value)) ≡ is_boolean_term v term
boolean_atom v scope (Applied name args) value =
    ap (λ (b : Bool). is_boolean_constant (meaning v name) && b) (some_atom_meant (meaning v name) _ value) ∙ boolean_constant (meaning v name)

-- ---- tests of which one follows from another

-- two alternatives of which it is known when there are heads
either_some : (heads others : Option (List Head)) (a b : Bool) → is_some heads ≡ a → is_some others ≡ b → is_some (or_else heads others) ≡ (a || b)
either_some heads others a b e f =
    some_or_else heads others ∙ ap (λ (w : Bool). w || is_some others) e ∙ ap (λ (w : Bool). a || w) f

some_if : (test : Bool) (heads : List Head) → is_some (only_if test (Some heads)) ≡ test
some_if true heads = refl
some_if false heads = refl

some_boolean : (v : Vocabulary) (scope : List Binding) (term : PlainTerm) (value : Term) → is_some (only_if (is_boolean_term v term) (atom v scope term value)) ≡ is_boolean_term v term
some_boolean v scope term value = some_only (is_boolean_term v term) (atom v scope term value) ∙ boolean_atom v scope term value

-- ---- the heads of an equation, by its two sides

-- that a constant has a value, where there is one
abbrev pub atom_beside : Vocabulary → List Binding → Option PlainTerm → Term → Option (List Head)
atom_beside v scope None value = None
atom_beside v scope (Some c) value = atom v scope c value

-- that a Boolean constant has the other truth value
abbrev pub truth_heads : Vocabulary → List Binding → Option (PlainTerm × PlainTerm) → Option (List Head)
truth_heads v scope None = None
truth_heads v scope (Some pair) = atom v scope pair.0 (opposite v pair.1)

value_beside : (v : Vocabulary) (scope : List Binding) (c : Option PlainTerm) (sum : PlainSum) → value_heads v scope c sum ≡ atom_beside v scope (constant_beside v c sum) (resolve_sum v scope sum)
value_beside v scope None sum = refl
value_beside v scope (Some c) sum = choose (is_constant_term v c && not (sum_has v (λ means count. is_constant means) sum))
  where
    choose : (test : Bool) → only_if test (atom v scope c (resolve_sum v scope sum)) ≡ atom_beside v scope (if test then Some c else None) (resolve_sum v scope sum)
    choose true = refl
    choose false = refl

pub heads_beside : (v : Vocabulary) (scope : List Binding) (c value : Option PlainTerm) → boolean_heads v scope c value ≡ truth_heads v scope (truth_beside v c value)
heads_beside v scope None value = refl
heads_beside v scope (Some c) None = refl
heads_beside v scope (Some c) (Some value) = choose (is_boolean_term v c && is_truth_term v value)
  where
    choose : (test : Bool) → only_if test (atom v scope c (opposite v value)) ≡ truth_heads v scope (if test then Some (c, value) else None)
    choose true = refl
    choose false = refl

-- a Boolean constant is a constant
boolean_is_constant : (means : Meaning) → is_boolean_constant means ≡ true → is_constant means ≡ true
boolean_is_constant Unknown e = absurd cc
boolean_is_constant Nothing e = absurd cc
boolean_is_constant (Object number sort) e = absurd cc
boolean_is_constant (Variable number sort) e = absurd cc
boolean_is_constant (Constant number symbol) e = refl

some_beside : (v : Vocabulary) (scope : List Binding) (c : Option PlainTerm) (sum : PlainSum) (value : Term) → is_some (atom_beside v scope (constant_beside v c sum) value) ≡ is_some (constant_beside v c sum)
some_beside v scope None sum value = refl
some_beside v scope (Some c) sum value = choose (is_constant_term v c) (not (sum_has v (λ means count. is_constant means) sum)) refl
  where
    choose : (own other : Bool) → is_constant_term v c ≡ own → is_some (atom_beside v scope (if own && other then Some c else None) value) ≡ is_some (if own && other then Some c else None)
    choose true true e = some_atom v scope c value ∙ e
    choose true false e = refl
    choose false other e = refl

some_truths : (v : Vocabulary) (scope : List Binding) (c value : Option PlainTerm) → is_some (truth_heads v scope (truth_beside v c value)) ≡ is_some (truth_beside v c value)
some_truths v scope None value = refl
some_truths v scope (Some c) None = refl
some_truths v scope (Some c) (Some value) = choose (is_boolean_term v c) (is_truth_term v value) refl
  where
    choose : (own other : Bool) → is_boolean_term v c ≡ own → is_some (truth_heads v scope (if own && other then Some (c, value) else None)) ≡ is_some {T = PlainTerm × PlainTerm} (if own && other then Some (c, value) else None)
    choose true true e = some_atom v scope c (opposite v value) ∙ boolean_is_constant (term_meaning v c) e
    choose true false e = refl
    choose false other e = refl

some_value : (v : Vocabulary) (scope : List Binding) (c : Option PlainTerm) (sum : PlainSum) → is_some (value_heads v scope c sum) ≡ is_some (constant_beside v c sum)
some_value v scope c sum = ap is_some (value_beside v scope c sum) ∙ some_beside v scope c sum (resolve_sum v scope sum)

some_truth : (v : Vocabulary) (scope : List Binding) (c value : Option PlainTerm) → is_some (boolean_heads v scope c value) ≡ is_some (truth_beside v c value)
some_truth v scope c value = ap is_some (heads_beside v scope c value) ∙ some_truths v scope c value

-- ---- definite formulas

pub bare_definite : (v : Vocabulary) (c : PlainTerm) → is_definite v (trees.Bare c) ≡ (is_falsity_term v c || is_boolean_term v c)
bare_definite v c = either_some _ _ (is_falsity_term v c) (is_boolean_term v c) (some_if (is_falsity_term v c) _) (some_boolean v [] c _)

pub equation_definite : (v : Vocabulary) (s t : PlainSum) → is_definite v (trees.Compared trees.IsEqual s t) ≡ (is_some (constant_beside v (lone s) t) || is_some (constant_beside v (lone t) s))
equation_definite v s t = either_some _ _ (is_some (constant_beside v (lone s) t)) (is_some (constant_beside v (lone t) s)) (some_value v [] (lone s) t) (some_value v [] (lone t) s)

pub denial_definite : (v : Vocabulary) (s t : PlainSum) → is_definite v (trees.Compared trees.Differs s t) ≡ is_some (truth_beside v (lone s) (lone t))
denial_definite v s t = some_truth v [] (lone s) (lone t)

pub bare_deniable : (v : Vocabulary) (c : PlainTerm) → is_some (denied_heads v [] (trees.Bare c)) ≡ is_boolean_term v c
bare_deniable v c = some_boolean v [] c _

pub equation_deniable : (v : Vocabulary) (s t : PlainSum) → is_some (denied_heads v [] (trees.Compared trees.IsEqual s t)) ≡ (is_some (truth_beside v (lone s) (lone t)) || is_some (truth_beside v (lone t) (lone s)))
equation_deniable v s t =
    either_some _ _ (is_some (truth_beside v (lone s) (lone t))) (is_some (truth_beside v (lone t) (lone s))) (some_truth v [] (lone s) (lone t)) (some_truth v [] (lone t) (lone s))

pub both_definite : (v : Vocabulary) (f g : PlainTree) → is_definite v (trees.Both f g) ≡ (is_definite v f && is_definite v g)
both_definite v f g = some_both (definite_heads v [] f) (definite_heads v [] g)

-- ---- the heads, by the terms beside each other

or_some : (heads others : Option (List Head)) → is_some heads ≡ true → or_else heads others ≡ heads
or_some (Some heads) others e = refl
or_some None others e = absurd cc

module _ (v : Vocabulary) (scope : List Binding) (s t : PlainSum) where
  valued : (one : Option PlainTerm) → constant_beside v (lone s) t ≡ one → definite_heads v scope (trees.Compared trees.IsEqual s t) ≡ or_else (atom_beside v scope one (resolve_sum v scope t)) (value_heads v scope (lone t) s)
  valued one e =
      ap (λ (heads : Option (List Head)). or_else heads (value_heads v scope (lone t) s))
      (value_beside v scope (lone s) t ∙ ap (λ (c : Option PlainTerm). atom_beside v scope c (resolve_sum v scope t)) e)

  pub valued_left : (c : PlainTerm) → constant_beside v (lone s) t ≡ Some c → definite_heads v scope (trees.Compared trees.IsEqual s t) ≡ atom v scope c (resolve_sum v scope t)
  valued_left c e =
      let value = resolve_sum v scope t in
      valued (Some c) e
      ∙ or_some (atom v scope c value) (value_heads v scope (lone t) s)
      (subst (λ (one : Option PlainTerm). is_some (atom_beside v scope one value) ≡ is_some one) e (some_beside v scope (lone s) t value))

  pub valued_right : (other : Option PlainTerm) → constant_beside v (lone s) t ≡ None → constant_beside v (lone t) s ≡ other →
      definite_heads v scope (trees.Compared trees.IsEqual s t) ≡ atom_beside v scope other (resolve_sum v scope s)
  valued_right other e f = valued None e ∙ value_beside v scope (lone t) s ∙ ap (λ (c : Option PlainTerm). atom_beside v scope c (resolve_sum v scope s)) f

  pub denial_heads : (pair : Option (PlainTerm × PlainTerm)) → truth_beside v (lone s) (lone t) ≡ pair → definite_heads v scope (trees.Compared trees.Differs s t) ≡ truth_heads v scope pair
  denial_heads pair e = heads_beside v scope (lone s) (lone t) ∙ ap (truth_heads v scope) e

  denied : (pair : Option (PlainTerm × PlainTerm)) → truth_beside v (lone s) (lone t) ≡ pair → denied_heads v scope (trees.Compared trees.IsEqual s t) ≡ or_else (truth_heads v scope pair) (boolean_heads v scope (lone t) (lone s))
  denied pair e = ap (λ (heads : Option (List Head)). or_else heads (boolean_heads v scope (lone t) (lone s))) (heads_beside v scope (lone s) (lone t) ∙ ap (truth_heads v scope) e)

  pub denied_left : (pair : PlainTerm × PlainTerm) → truth_beside v (lone s) (lone t) ≡ Some pair → denied_heads v scope (trees.Compared trees.IsEqual s t) ≡ atom v scope pair.0 (opposite v pair.1)
  denied_left pair e =
      denied (Some pair) e
      ∙ or_some (atom v scope pair.0 (opposite v pair.1)) (boolean_heads v scope (lone t) (lone s))
      (subst (λ (one : Option (PlainTerm × PlainTerm)). is_some (truth_heads v scope one) ≡ is_some one) e (some_truths v scope (lone s) (lone t)))

  pub denied_right : (other : Option (PlainTerm × PlainTerm)) → truth_beside v (lone s) (lone t) ≡ None → truth_beside v (lone t) (lone s) ≡ other →
      denied_heads v scope (trees.Compared trees.IsEqual s t) ≡ truth_heads v scope other
  denied_right other e f = denied None e ∙ heads_beside v scope (lone t) (lone s) ∙ ap (truth_heads v scope) f

-- ---- heads behind others

-- the first part has heads
pub both_behind : (old : List Head) (heads others : Option (List Head)) (mid : List Head) → Some mid ≡ both_heads (Some old) heads → both_heads (Some mid) others ≡ both_heads (Some old) (both_heads heads others)
both_behind old (Some heads) (Some others) mid e = ap (λ (w : Option (List Head)). both_heads w (Some others)) e ∙ ap Some (append_assoc old heads others)
both_behind old (Some heads) None mid e = refl
both_behind old None others mid e = absurd cc

-- it has none
pub none_behind : (old : List Head) (heads others : Option (List Head)) → None ≡ both_heads (Some old) heads → None ≡ both_heads (Some old) (both_heads heads others)
none_behind old (Some heads) others e = absurd cc
none_behind old None others e = refl

pub all_found : (heads : Option (List Head)) (found : List Head) → Some found ≡ both_heads (Some []) heads → found ≡ unwrap_or heads []
all_found (Some heads) found e = ap (λ (w : Option (List Head)). unwrap_or w []) e
all_found None found e = absurd cc

pub none_found : (heads : Option (List Head)) → None ≡ both_heads (Some []) heads → [] ≡ unwrap_or heads []
none_found (Some heads) e = absurd cc
none_found None e = refl
