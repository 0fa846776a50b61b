-- A clause more: numbers, reasons and watches stay, and what is closed stays closed where the clause is mild.
use Rattle.std.proofs.Common.{◌≡◌, ◌≢◌, ◌∙◌, ℕ, ◌-◌, zero, suc, inl, inr, Bool, true, false, not, List, [], ◌∷◌, ◌++◌, Some, sym, subst, arith, length-append}
use Rattle.std.specs.Prelude.{◌⊎◌, slice_get, Contains}
use Rattle.std.proofs.lemmas.List.Elements.{Contains-append_cases}
use Rattle.cc_defs.specs.Clauses.{Literal, IsNumbered}
use Rattle.cc_defs.specs.Assignments.{Values, IsClosed, IsFailed, IsUnit, IsTrueIn, IsFalseIn, HasNoValue}
use Rattle.cc_kernel.specs.Kernels.{KernelView, clauses_of}
use Rattle.cc_trail.specs.declared.entries.Step.{Step}
use Rattle.cc_trail.specs.Steps.{values_to}
use Rattle.cc_trail.specs.Watches.{AreReasonedAfter}
use Rattle.cc_trail.specs.Pairs.{IsPair}
use Rattle.cc_trail.specs.Trails.{TrailView, FitsClauses, Fits, IsCovered, KeepsSettled, IsSettledOver}

pub get_append : {X : Type 0} (xs ys : List X) (k : ℕ) (x : X) → slice_get xs k ≡ Some x → slice_get (xs ++ ys) k ≡ Some x
get_append [] ys k x is = cc
get_append (y ∷ xs) ys zero x is = is
get_append (y ∷ xs) ys (suc k) x is = get_append xs ys k x is

pub numbered_more : (clauses more : List (List Literal)) (number : ℕ) (clause : List Literal) → IsNumbered clauses number clause → IsNumbered (clauses ++ more) number clause
numbered_more clauses more number clause numbered = (numbered.0, get_append clauses more (number - 1) clause numbered.1)

reasoned_more : (clauses more : List (List Literal)) (before steps : List Step) → AreReasonedAfter clauses before steps → AreReasonedAfter (clauses ++ more) before steps
reasoned_more clauses more before [] reasoned = tt
reasoned_more clauses more before (step ∷ steps) reasoned = (
  (λ number is.
      let (clause, numbered, member, others) = reasoned.0 number is in
      (clause, numbered_more clauses more number clause numbered, member, others)),
  reasoned_more clauses more (before ++ step ∷ []) steps reasoned.1,
)

pair_more : (clauses more : List (List Literal)) (number : ℕ) (a b : Literal) → IsPair clauses number a b → IsPair (clauses ++ more) number a b
pair_more clauses more number a b (clause, numbered, a_in, b_in, only) = (clause, numbered_more clauses more number clause numbered, a_in, b_in, only)

covered_more : (clauses more : List (List Literal)) (number : ℕ) → IsCovered clauses number → IsCovered (clauses ++ more) number
covered_more clauses more number (by, later, clause, part, numbered, by_numbered, all) =
    (by, later, clause, part, numbered_more clauses more number clause numbered, numbered_more clauses more by part by_numbered, all)

pub fits_more : (trail : TrailView) (clauses more : List (List Literal)) → FitsClauses trail clauses → FitsClauses trail (clauses ++ more)
fits_more trail clauses more fits = record {
  attached = let few = fits.attached in omega (arith, length-append clauses more);
  reasons = reasoned_more clauses more [] trail.steps fits.reasons;
  shorts = λ number here.
      let (clause, numbered, short) = fits.shorts number here in
      (clause, numbered_more clauses more number clause numbered, short);
  met_few = fits.met_few;
  met = λ number here.
      let (clause, numbered, literal, member, is) = fits.met number here in
      (clause, numbered_more clauses more number clause numbered, literal, member, is);
  longs = λ node within.
      let long = fits.longs node within in
      record {
        clause = long.clause;
        numbered = numbered_more clauses more _ long.clause long.numbered;
        here = long.here;
        there = long.there;
        apart = long.apart;
      };
  pairs = λ literal other beside. pair_more clauses more other.number literal other.lit (fits.pairs literal other beside);
  each = λ number some most. elim (fits.each number some most) [
    | inl short ↦ inl short
    | inr rest ↦ elim rest [
      | inl long ↦ inr (inl long)
      | inr others ↦ elim others [
        | inl paired ↦ inr (inr (inl paired))
        | inr covered ↦ inr (inr (inr (covered_more clauses more number covered)))
      ]
    ]
  ];
  watches = fits.watches;
  followed = fits.followed;
}

pub fits_added : (trail : TrailView) (old new : KernelView) (clause : List Literal) → new.variables ≡ old.variables →
    clauses_of new ≡ clauses_of old ++ clause ∷ [] → Fits trail old → Fits trail new
fits_added trail old new clause variables is fits = record {
  variables = fits.variables ∙ sym variables;
  clauses = subst (λ (clauses : List (List Literal)). FitsClauses trail clauses) (sym is) (fits_more trail (clauses_of old) (clause ∷ []) fits.clauses);
}

-- ---- a clause with a true literal, or with two that have no value, is neither false nor unit

not_both : (b : Bool) → Some b ≡ Some (not b) → ⊥
not_both true e = cc
not_both false e = cc

true_false : (values : Values) (literal : Literal) → IsTrueIn values literal → IsFalseIn values literal → ⊥
true_false values literal is not_is = not_both literal.positive (sym is ∙ not_is)

open_false : (values : Values) (literal : Literal) → HasNoValue values literal → IsFalseIn values literal → ⊥
open_false values literal none is = cc

open_true : (values : Values) (literal : Literal) → HasNoValue values literal → IsTrueIn values literal → ⊥
open_true values literal none is = cc

abbrev pub Spares : Values → List Literal → Type 0
Spares values clause = ((literal : Literal) × Contains clause literal × IsTrueIn values literal) ⊎
    ((one : Literal) × (two : Literal) × (one ≢ two) × Contains clause one × Contains clause two × HasNoValue values one × HasNoValue values two)

pub not_failed : (values : Values) (clause : List Literal) → Spares values clause → IsFailed values clause → ⊥
not_failed values clause (inl (literal, member, is)) failed = true_false values literal is (failed literal member)
not_failed values clause (inr (one, two, apart, one_in, two_in, one_open, two_open)) failed = open_false values one one_open (failed one one_in)

pub not_unit : (values : Values) (clause : List Literal) → Spares values clause → IsUnit values clause → ⊥
not_unit values clause (inl (literal, member, is)) unit = elim (unit.others literal member) [
  | inl same ↦ open_true values literal (subst (λ (l : Literal). HasNoValue values l) (sym same) unit.open_yet) is
  | inr false_is ↦ true_false values literal is false_is
]
not_unit values clause (inr (one, two, apart, one_in, two_in, one_open, two_open)) unit = elim (unit.others one one_in) [
  | inr false_is ↦ open_false values one one_open false_is
  | inl same ↦ elim (unit.others two two_in) [
    | inr false_is ↦ open_false values two two_open false_is
    | inl other ↦ apart (same ∙ sym other)
  ]
]

only_one : (clauses : List (List Literal)) (clause other : List Literal) → Contains (clauses ++ clause ∷ []) other → Contains clauses other ⊎ (clause ≡ other)
only_one clauses clause other here = elim (Contains-append_cases clauses (clause ∷ []) other here) [
  | inl before ↦ inl before
  | inr last ↦ inr (single last)
]
  where
    single : Contains (clause ∷ []) other → clause ≡ other
    single (zero, within, is) = is
    single (suc k, within, is) = absurd (omega (arith, within))

closed_added : (values : Values) (clauses : List (List Literal)) (clause : List Literal) → Spares values clause → IsClosed values clauses → IsClosed values (clauses ++ clause ∷ [])
closed_added values clauses clause spares closed = record {
  none_failed = λ other here failed. elim (only_one clauses clause other here) [
    | inl before ↦ closed.none_failed other before failed
    | inr same ↦ not_failed values clause spares (subst (λ (c : List Literal). IsFailed values c) (sym same) failed)
  ];
  none_unit = λ other here unit. elim (only_one clauses clause other here) [
    | inl before ↦ closed.none_unit other before unit
    | inr same ↦ not_unit values clause spares (subst (λ (c : List Literal). IsUnit values c) (sym same) unit)
  ];
}

pub settled_added : (steps : List Step) (level_count : ℕ) (old new : List (List Literal)) (clause : List Literal) → new ≡ old ++ clause ∷ [] →
    KeepsSettled steps level_count clause → IsSettledOver steps level_count old → IsSettledOver steps level_count new
settled_added steps level_count old new clause is mild settled level low =
    subst (λ (clauses : List (List Literal)). IsClosed (values_to level steps) clauses) (sym is)
    (closed_added (values_to level steps) old clause (mild level low) (settled level low))
