-- Ground laws and queries mean what they stand for, where the values of each constant are different.
use Rattle.std.proofs.Common.{◌≡◌, ◌∙◌, ℕ, ◌+◌, ◌<◌, Bool, true, false, List, [], ◌∷◌, ◌++◌, length, map, flat_map, nat_eq, position, slice_get, cond, Option, Some, None, refl, sym, ap, subst}
use Rattle.std.specs.Option.{option_map}
use Rattle.std.specs.Prelude.{◌&&◌, ◌||◌, IsTrue, is_some, option_and_then}
use Rattle.std.specs.List.{AllByRecursion, AllZip, list_any, position_from}
use Rattle.std.proofs.lemmas.Iterator.Adapters.{position_from-zero}
use Rattle.std.proofs.lemmas.List.{length-map}
use Rattle.std.proofs.lemmas.Option.{slice_get_within}
use Rattle.cc_defs.specs.declared.node.GroundHead.{GroundHead}
use Rattle.cc_defs.specs.declared.node.Node.{Node}
use Rattle.cc_defs.specs.declared.node.Node.TheVariants as nodes
use Rattle.cc_defs.specs.declared.signature.Const.{Const}
use Rattle.cc_defs.specs.Description.{domain_sizes}
use Rattle.cc_defs.specs.Environments.{Instance, Under, Together, instances, instances_from, instances_of, pairs_of, choices, has_instance, passes, range_values}
use Rattle.cc_defs.specs.GroundLaws.{PlainGroundLaw, ground_condition, ground_head, ground_laws, ground_query, head_at, head_of_sides, law_of_instance, law_with, pair_law}
use Rattle.cc_defs.specs.Nodes.{Constant, Value, side, value_side, constant_side, numbered_side, nodes_of, term_of}
use Rattle.cc_defs.specs.Resolved.{Term, Formula, Head, Law, BaseLaw, Condition, Query, terms_of}
use Rattle.cc_defs.specs.Resolved as resolved
use Rattle.cc_defs.specs.Satisfaction.{Environment, giving, constant_meant, has_value, head_is_there, object_given}
use Rattle.cc_defs.specs.Signatures.{none_value}
use Rattle.cc_defs.specs.Terms.{Fits, NamesBelow}
use Rattle.cc_defs.specs.Universe.{Universe, HaveOwnValues, boolean_actions, constants_in}
use Rattle.cc_arena.specs.Meanings.{Means, MeansPart, MeansHead, MeansInstance, MeanLaws, MeansCondition, MeansClaim, MeansQuery}
use Rattle.cc_arena.proofs.Each.{all_append, all_map, all_passing, all_since, both_hold}
use Rattle.cc_arena.proofs.Fitting.{fits_all}
use Rattle.cc_arena.proofs.Truths.{truth_is, head_is}

-- a node that fits names one of the constants
fit_names : (constants : List Const) (node : Node) → Fits (domain_sizes constants) node → NamesBelow (length constants) node
fit_names constants (nodes.Atom constant value) (size, there, below) =
    subst (λ (count : ℕ). constant < count) (length-map constants (λ (c : Const). length c.domain)) (slice_get_within (domain_sizes constants) constant size there)
fit_names constants nodes.True fits = tt
fit_names constants nodes.False fits = tt
fit_names constants nodes.Not fits = tt
fit_names constants (nodes.All operands) fits = tt
fit_names constants (nodes.Any operands) fits = tt
fit_names constants nodes.Same fits = tt

-- ---- a head is there exactly where it has a ground head

-- whether there is a place of a value is whether it is among them
place_from : (test : ℕ → Bool) (n : ℕ) (values : List ℕ) → list_any test values ≡ is_some (position_from test n values)
place_from test n [] = refl
place_from test n (value ∷ values) = elim (test value) as (λ here. (here || list_any test values) ≡ is_some (cond here (Some n) (position_from test (n + 1) values))) [
  | true ↦ refl
  | false ↦ place_from test (n + 1) values
]

any_place : (test : ℕ → Bool) (values : List ℕ) → list_any test values ≡ is_some (position test values)
any_place test values = place_from test 0 values ∙ ap is_some (sym (position_from-zero test values))

some_of : {X : Type 0} → (o : Option X) → is_some o ≡ true → (x : X) × (o ≡ Some x)
some_of (Some x) e = (x, refl)
some_of None e = absurd cc

module _ (u : Universe) where
  at_place : (number : ℕ) (o : Option ℕ) → is_some o ≡ is_some (head_at number o)
  at_place number (Some index) = refl
  at_place number None = refl

  module _ (number : ℕ) (constant : Const) (env : Environment) where
    object_there : (value : ℕ) → has_value (Some constant) (Some value) ≡ is_some (head_of_sides (Constant number constant.domain) (Value value))
    object_there value = any_place (nat_eq value) constant.domain ∙ at_place number (position (nat_eq value) constant.domain)

    given_there : (o : Option ℕ) → has_value (Some constant) o ≡ is_some (head_of_sides (Constant number constant.domain) (value_side o))
    given_there (Some value) = object_there value
    given_there None = refl

    -- a constant is no value
    none_there : (o : Option ℕ) → false ≡ is_some (head_of_sides (Constant number constant.domain) (numbered_side u o))
    none_there None = refl
    none_there (Some other) = at (slice_get (constants_in u) other)
      where
        at : (o : Option Const) → false ≡ is_some (head_of_sides (Constant number constant.domain) (constant_side other o))
        at (Some another) = refl
        at None = refl

    value_there : (value : Term) → has_value (Some constant) (object_given u env value) ≡ is_some (head_of_sides (Constant number constant.domain) (side u env value))
    value_there (resolved.Constant symbol args) = none_there (constant_meant u env symbol args)
    value_there (resolved.Object object) = object_there object
    value_there (resolved.Variable variable) = given_there (env variable)
    value_there resolved.Nothing = object_there none_value
    value_there (resolved.Number other) = given_there (object_given u env (resolved.Number other))
    value_there (resolved.Plus s t) = given_there (object_given u env (resolved.Plus s t))
    value_there (resolved.Minus s t) = given_there (object_given u env (resolved.Minus s t))

  pub heads_there : (env : Environment) (head : Head) → head_is_there u env head ≡ is_some (ground_head u env head)
  heads_there env resolved.Falsity = refl
  heads_there env (resolved.Atom symbol args value) = of_number (constant_meant u env symbol (terms_of args))
    where
      of_constant : (number : ℕ) (o : Option Const) → has_value o (object_given u env value) ≡ is_some (head_of_sides (constant_side number o) (side u env value))
      of_constant number (Some constant) = value_there number constant env value
      of_constant number None = refl

      of_number : (o : Option ℕ) → has_value (option_and_then (λ number. slice_get (constants_in u) number) o) (object_given u env value) ≡ is_some (head_of_sides (numbered_side u o) (side u env value))
      of_number (Some number) = of_constant number (slice_get (constants_in u) number)
      of_number None = refl

  module _ (own : HaveOwnValues u) where
    pub means : (env : Environment) (formula : Formula) → Means u env formula (nodes_of u env formula)
    means env formula = record {
      term = term_of u env formula;
      written = refl;
      names = all_since (Fits (domain_sizes (constants_in u))) (NamesBelow (length (constants_in u))) (nodes_of u env formula) (fit_names (constants_in u)) (fits_all u env formula);
      truth_is = λ valuation. truth_is u own valuation env formula;
    }

    pub head_means : (env : Environment) (head : Head) (found : GroundHead) → ground_head u env head ≡ Some found → MeansHead u env head found
    head_means env head found e valuation = head_is u own valuation env head found e

    -- ---- ground laws

    part_means : (env : Environment) (part : Option Formula) → MeansPart u env part (option_map (nodes_of u env) part)
    part_means env None = tt
    part_means env (Some formula) = means env formula

    -- an instance has the one ground law that means it
    abbrev HasLaw : Instance → Type 0
    HasLaw instance = (made : PlainGroundLaw) × (law_of_instance u instance ≡ made ∷ []) × MeansInstance u instance made

    under_has : (base : ℕ) (law : Law) (values : List ℕ) → IsTrue (has_instance u law values) → HasLaw (Under base law values)
    under_has base law values there =
        let env = giving values in
        let found = some_of (ground_head u env law.head) (sym (heads_there env law.head) ∙ (both_hold (passes u law.test values) (head_is_there u env law.head) there).1) in (
          record {
            head = found.0;
            body = nodes_of u env law.body;
            after = option_map (nodes_of u env) law.after;
            kind = law.kind;
            base = base;
          },
          ap (law_with u base law env) found.1,
          record {
            head = head_means env law.head found.0 found.1;
            body = means env law.body;
            after = part_means env law.after;
            kind = refl;
            number = refl;
          },
        )

    law_has : (base : ℕ) (law : BaseLaw) → AllByRecursion HasLaw (instances_of u base law)
    law_has base (resolved.One law) = all_passing HasLaw (Under base law) (has_instance u law) (choices (map (range_values u) law.ranges)) (under_has base law)
    law_has base (resolved.NoConcurrency file line) = all_map HasLaw (Together base) (pairs_of (boolean_actions u)) (λ pair. (pair_law base pair, refl, refl))

    have_from : (base : ℕ) (laws : List BaseLaw) → AllByRecursion HasLaw (instances_from u base laws)
    have_from base [] = tt
    have_from base (law ∷ laws) = all_append HasLaw (instances_of u base law) (instances_from u (base + 1) laws) (law_has base law) (have_from (base + 1) laws)

    have_mean : (found : List Instance) → AllByRecursion HasLaw found → AllZip (MeansInstance u) found (flat_map (law_of_instance u) found)
    have_mean [] have = tt
    have_mean (instance ∷ found) have =
        subst (λ (made : List PlainGroundLaw). AllZip (MeansInstance u) (instance ∷ found) (made ++ flat_map (law_of_instance u) found)) (sym have.0.1)
        (have.0.2, have_mean found have.1)

    pub laws_mean : (laws : List BaseLaw) → MeanLaws u laws (ground_laws u laws)
    laws_mean laws = have_mean (instances u laws) (have_from 0 laws)

    -- ---- queries

    conditions_mean : (conditions : List Condition) → AllZip (MeansCondition u) conditions (map (ground_condition u) conditions)
    conditions_mean [] = tt
    conditions_mean (condition ∷ conditions) = (record { at = refl; nodes = means (giving []) condition.formula }, conditions_mean conditions)

    claim_means : (claim : Option Condition) → MeansClaim u claim (option_map (ground_condition u) claim)
    claim_means None = tt
    claim_means (Some claim) = record { at = refl; nodes = means (giving []) claim.formula }

    pub query_means : (range : ℕ × ℕ) (query : Query) → MeansQuery u query (ground_query u range query)
    query_means range query = record { conditions = conditions_mean query.conditions; claim = claim_means query.claim }
