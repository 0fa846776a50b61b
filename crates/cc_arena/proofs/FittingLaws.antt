-- The ground laws of base laws that have the forms of their kinds have these forms too.
use Rattle.std.proofs.Common.{◌≡◌, ◌∙◌, ℕ, zero, suc, ◌+◌, ◌<◌, ◌≤◌, ◌⊎◌, inl, inr, Bool, true, false, List, [], ◌∷◌, ◌++◌, length, map, get_or, nat_eq, position, slice_get, Option, Some, None, refl, sym, ap, subst, arith}
use Rattle.std.specs.Option.{option_map}
use Rattle.std.specs.Prelude.{◌==◌, ◌&&◌, if◌then◌else◌, is_none, option_and_then, IsTrue, IsFalse, IsNone, IfSome}
use Rattle.std.specs.List.{AllByRecursion}
use Rattle.std.specs.Cmp.Lexicographic.{pointwise}
use Rattle.std.proofs.lemmas.Bool.{eqb-true}
use Rattle.std.proofs.lemmas.List.Quantifiers.{position-Some}
use Rattle.std.proofs.lemmas.Option.{slice_get-get_or}
use Rattle.cc_defs.specs.declared.node.GroundHead.{GroundHead}
use Rattle.cc_defs.specs.declared.node.GroundHead.TheVariants as heads
use Rattle.cc_defs.specs.declared.signature.Const.{Const}
use Rattle.cc_defs.specs.declared.signature.Kind.TheVariants as kinds
use Rattle.cc_defs.specs.declared.signature.LawKind.{LawKind}
use Rattle.cc_defs.specs.declared.signature.LawKind.TheVariants as law_kinds
use Rattle.cc_defs.specs.declared.signature.Symbol.{Symbol}
use Rattle.cc_defs.specs.Conditions.{HasKindOf, HaveTheirKinds, HaveTheirValues, IsFluentTerm, IsTermOf, IsGroundFluentHead, IsGroundSimpleHead, IsGroundActionHead, IsGroundOfKind, AreGroundLaws, IsGroundQuery}
use Rattle.cc_defs.specs.Declarations.{is_action, numbers_where}
use Rattle.cc_defs.specs.Description.{domain_sizes}
use Rattle.cc_defs.specs.Environments.{Instance, Under, Together, instances, instances_from, instances_of, pairs_of, environments}
use Rattle.cc_defs.specs.Forms.{formula_symbols, is_action_at, is_action_symbol, is_simple, is_simple_at, is_simple_symbol, IsFluentFormula, IsFluentHead, IsSimpleHead, IsActionHead, IsOfKind, HasForm, HaveForms}
use Rattle.cc_defs.specs.GroundLaws.{PlainGroundLaw, PlainGroundCondition, ground_condition, ground_head, ground_laws, ground_query, head_at, head_of_sides, law_of_instance, law_with}
use Rattle.cc_defs.specs.Nodes.{Side, Constant, Value, Absent, side, constant_side, numbered_side, nodes_of, term_of}
use Rattle.cc_defs.specs.Resolved.{Terms, Formula, Head, Law, BaseLaw, Condition, Query, terms_of}
use Rattle.cc_defs.specs.Resolved as resolved
use Rattle.cc_defs.specs.Satisfaction.{Environment, giving, arguments, constant_meant}
use Rattle.cc_defs.specs.Signatures.{ground_number}
use Rattle.cc_defs.specs.Terms.{Fits, postfix, all_of}
use Rattle.cc_defs.specs.Terms as terms
use Rattle.cc_defs.specs.Universe.{Universe, boolean_actions, constants_in, is_boolean_action, is_boolean_symbol, objects_of, values_of, values_of_symbol}
use Rattle.cc_arena.proofs.Each.{all_append, all_flat, all_got, all_map, both_hold, each_fails}
use Rattle.cc_arena.proofs.Fitting.{IsSized, index_below, fits_all, pair_fits, size_at, term_fits}

-- ---- the constant that a symbol with arguments stands for is one of the symbol

-- of a universe's constant: it is there, and has the symbol
pub record OfSymbol (u : Universe) (symbol number : ℕ) : Type 0 where
  pub constant : Const
  pub there : slice_get (constants_in u) number ≡ Some constant
  pub named : constant.symbol ≡ symbol

abbrev any_constant : Const
any_constant = record { symbol = 0; args = []; kind = kinds.Simple; domain = [] }

numbered : (u : Universe) (symbol number : ℕ) (args : List ℕ) → ground_number (constants_in u) symbol args ≡ Some number → OfSymbol u symbol number
numbered u symbol number args e =
    let found = position-Some (λ (constant : Const). (constant.symbol == symbol) && pointwise nat_eq constant.args args) (constants_in u) number any_constant e in
    let constant = get_or (constants_in u) number any_constant in
    let same = both_hold (constant.symbol == symbol) (pointwise nat_eq constant.args args) found.1 in
    record {
      constant = constant;
      there = slice_get-get_or (constants_in u) number any_constant found.0;
      named = eqb-true constant.symbol symbol same.0;
    }

meant : (u : Universe) (env : Environment) (symbol number : ℕ) (args : Terms) → constant_meant u env symbol args ≡ Some number → OfSymbol u symbol number
meant u env symbol number args e = by_args (arguments u env args) e
  where
    by_args : (o : Option (List ℕ)) → option_and_then (ground_number (constants_in u) symbol) o ≡ Some number → OfSymbol u symbol number
    by_args (Some found) e = numbered u symbol number found e
    by_args None e = absurd cc

-- ---- an item of two lists is one of the first, or stands behind all of these

in_either : {X : Type 0} → (xs ys : List X) (i : ℕ) (x : X) → slice_get (xs ++ ys) i ≡ Some x →
    (slice_get xs i ≡ Some x) ⊎ ((length xs ≤ i) × (j : ℕ) × (slice_get ys j ≡ Some x))
in_either [] ys i x e = inr (omega arith, i, e)
in_either (y ∷ xs) ys zero x e = inl e
in_either (y ∷ xs) ys (suc i) x e = elim (in_either xs ys i x e) [
  | inl here ↦ inl here
  | inr behind ↦ inr (omega (arith, behind.0), behind.1, behind.2)
]

-- ---- the kinds of constants

module _ (u : Universe) (have : HaveTheirKinds u) where
  fluent_at : (number : ℕ) (constant : Const) → slice_get (constants_in u) number ≡ Some constant → is_action constant.kind ≡ false → slice_get u.fluents number ≡ Some constant
  fluent_at number constant e fluent = elim (in_either u.fluents u.actions number constant e) [
    | inl here ↦ here
    | inr behind ↦
        let action : is_action constant.kind ≡ true = all_got (λ (c : Const). IsTrue (is_action c.kind)) u.actions behind.1 constant have.actions behind.2 in
        absurd cc
  ]

  action_at : (number : ℕ) (constant : Const) → slice_get (constants_in u) number ≡ Some constant → is_action constant.kind ≡ true → length u.fluents ≤ number
  action_at number constant e action = elim (in_either u.fluents u.actions number constant e) [
    | inl here ↦
        let fluent : is_action constant.kind ≡ false = all_got (λ (c : Const). IsFalse (is_action c.kind)) u.fluents number constant have.fluents here in
        absurd cc
    | inr behind ↦ behind.0
  ]

  module _ (symbol number : ℕ) (of : OfSymbol u symbol number) where
    kind_of : HasKindOf u.symbols of.constant
    kind_of = all_got (HasKindOf u.symbols) (constants_in u) number of.constant have.symbols of.there

    symbol_at : slice_get u.symbols symbol ≡ Some kind_of.0
    symbol_at = ap (slice_get u.symbols) (sym of.named) ∙ kind_of.1

    action_is : is_action_symbol u.symbols symbol ≡ is_action of.constant.kind
    action_is = ap is_action_at symbol_at ∙ ap is_action kind_of.2

    simple_is : is_simple_symbol u.symbols symbol ≡ is_simple of.constant.kind
    simple_is = ap is_simple_at symbol_at ∙ ap is_simple kind_of.2

    fluent_there : IsFalse (is_action_symbol u.symbols symbol) → slice_get u.fluents number ≡ Some of.constant
    fluent_there fluent = fluent_at number of.constant of.there (sym action_is ∙ fluent)

  -- ---- terms of fluents

  abbrev FluentSymbol : ℕ → Type 0
  FluentSymbol symbol = IsFalse (is_action_symbol u.symbols symbol)

  fluent_sized : (env : Environment) (symbol : ℕ) (args : Terms) → FluentSymbol symbol → IsSized (domain_sizes u.fluents) (side u env (resolved.Constant symbol args))
  fluent_sized env symbol args fluent = number_sized (constant_meant u env symbol args) refl
    where
      at : (number : ℕ) (o : Option Const) → slice_get (constants_in u) number ≡ o → OfSymbol u symbol number → IsSized (domain_sizes u.fluents) (constant_side number o)
      at number (Some constant) e of =
          let same : Some of.constant ≡ Some constant = sym of.there ∙ e in
          size_at u.fluents number constant (fluent_there symbol number of fluent ∙ same)
      at number None e of = tt

      number_sized : (o : Option ℕ) → constant_meant u env symbol args ≡ o → IsSized (domain_sizes u.fluents) (numbered_side u o)
      number_sized (Some number) e = at number (slice_get (constants_in u) number) refl (meant u env symbol number args e)
      number_sized None e = tt

  pub fluent_fits : (env : Environment) (formula : Formula) → IsFluentFormula u.symbols formula → IsFluentTerm u (nodes_of u env formula)
  fluent_fits env formula fluent = record {
    formula = term_of u env formula;
    written = refl;
    fits = term_fits (domain_sizes u.fluents) u FluentSymbol fluent_sized env formula (each_fails (is_action_symbol u.symbols) (formula_symbols formula) fluent.1);
  }

-- ---- terms of any constants

module _ (u : Universe) where
  pub term_is : (env : Environment) (formula : Formula) → IsTermOf u (nodes_of u env formula)
  term_is env formula = record { formula = term_of u env formula; written = refl; fits = fits_all u env formula }

  -- ---- heads

  -- an atom of a constant of the symbol, with one of its values
  pub record HeadOf (symbol : ℕ) (head : GroundHead) : Type 0 where
    pub number : ℕ
    pub index : ℕ
    pub is : heads.Atom number index ≡ head
    pub of : OfSymbol u symbol number
    pub below : index < length of.constant.domain

  module _ (env : Environment) (symbol : ℕ) (args : Terms) (head : GroundHead) where
    at_index : (number : ℕ) (of : OfSymbol u symbol number) (o : Option ℕ) → ((index : ℕ) → o ≡ Some index → index < length of.constant.domain) → head_at number o ≡ Some head → HeadOf symbol head
    at_index number of (Some index) below e = record { number = number; index = index; is = cc; of = of; below = below index refl }
    at_index number of None below e = absurd cc

    of_constant : (number : ℕ) (of : OfSymbol u symbol number) (o : Option Const) (other : Side) → slice_get (constants_in u) number ≡ o →
        head_of_sides (constant_side number o) other ≡ Some head → HeadOf symbol head
    of_constant number of (Some constant) (Value value) there e =
        let same : of.constant ≡ constant = cc in
        at_index number of (position (nat_eq value) constant.domain) (λ index at. subst (λ (c : Const). index < length c.domain) (sym same) (index_below constant.domain value index at)) e
    of_constant number of (Some constant) (Constant another values) there e = absurd cc
    of_constant number of (Some constant) Absent there e = absurd cc
    of_constant number of None other there e = absurd cc

    of_number : (o : Option ℕ) (other : Side) → constant_meant u env symbol args ≡ o → head_of_sides (numbered_side u o) other ≡ Some head → HeadOf symbol head
    of_number (Some number) other is e = of_constant number (meant u env symbol number args is) (slice_get (constants_in u) number) other refl e
    of_number None other is e = absurd cc

    head_of : (other : Side) → head_of_sides (side u env (resolved.Constant symbol args)) other ≡ Some head → HeadOf symbol head
    head_of other e = of_number (constant_meant u env symbol args) other refl e

module _ (u : Universe) (have : HaveTheirKinds u) where
  module _ (env : Environment) (head : GroundHead) where
    falsity_or : heads.Falsity ≡ head → (P : GroundHead → Type 0) → P heads.Falsity → P head
    falsity_or same P p = subst P same p

    fluent_head : (law_head : Head) → IsFluentHead u.symbols law_head → ground_head u env law_head ≡ Some head → IsGroundFluentHead u head
    fluent_head resolved.Falsity form e = let same : heads.Falsity ≡ head = cc in falsity_or same (IsGroundFluentHead u) tt
    fluent_head (resolved.Atom symbol args value) form e =
        let found = head_of u env symbol (terms_of args) head (side u env value) e in
        subst (IsGroundFluentHead u) found.is (found.of.constant, fluent_there u have symbol found.number found.of form.1, found.below)

    -- a simple fluent is no action
    not_action : (kind : _) → is_simple kind ≡ true → is_action kind ≡ false
    not_action kinds.Simple e = refl
    not_action kinds.Determined e = refl
    not_action kinds.Action e = absurd cc

    simple_head : (law_head : Head) → IsSimpleHead u.symbols law_head → ground_head u env law_head ≡ Some head → IsGroundSimpleHead u head
    simple_head resolved.Falsity form e = let same : heads.Falsity ≡ head = cc in falsity_or same (IsGroundSimpleHead u) tt
    simple_head (resolved.Atom symbol args value) form e =
        let found = head_of u env symbol (terms_of args) head (side u env value) e in
        let simple : is_simple found.of.constant.kind ≡ true = sym (simple_is u have symbol found.number found.of) ∙ form in
        let fluent = fluent_at u have found.number found.of.constant found.of.there (not_action found.of.constant.kind simple) in
        subst (IsGroundSimpleHead u) found.is (found.of.constant, fluent, found.below, simple)

    action_head : (law_head : Head) → IsActionHead u.symbols law_head → ground_head u env law_head ≡ Some head → IsGroundActionHead u head
    action_head resolved.Falsity form e = absurd form
    action_head (resolved.Atom symbol args value) form e =
        let found = head_of u env symbol (terms_of args) head (side u env value) e in
        let behind = action_at u have found.number found.of.constant found.of.there (sym (action_is u have symbol found.number found.of) ∙ form) in
        subst (IsGroundActionHead u) found.is (found.of.constant, behind, found.of.there, found.below)

  -- ---- laws

  no_part : (env : Environment) (part : Option Formula) → IsNone part → IsNone (option_map (nodes_of u env) part)
  no_part env None none = refl
  no_part env (Some formula) none = absurd cc

  abbrev made : ℕ → Law → Environment → GroundHead → PlainGroundLaw
  made base law env head = record {
    head = head;
    body = nodes_of u env law.body;
    after = option_map (nodes_of u env) law.after;
    kind = law.kind;
    base = base;
  }

  module _ (base : ℕ) (law : Law) (env : Environment) (head : GroundHead) (there : ground_head u env law.head ≡ Some head) where
    made_fits : (kind : LawKind) → IsOfKind kind u.symbols law → IsGroundOfKind kind u (made base law env head)
    made_fits law_kinds.Static form = record {
      head = fluent_head env head law.head form.head there;
      body = fluent_fits u have env law.body form.body;
      after = no_part env law.after form.after;
    }
    made_fits law_kinds.ActionDynamic form = record {
      head = action_head env head law.head form.head there;
      body = term_is u env law.body;
      after = no_part env law.after form.after;
    }
    made_fits law_kinds.FluentDynamic form = record {
      head = simple_head env head law.head form.head there;
      body = fluent_fits u have env law.body form.body;
      after = nodes_of u env form.after;
      written = ap (option_map (nodes_of u env)) form.written;
      term = term_is u env form.after;
    }

  with_fits : (base : ℕ) (law : Law) (env : Environment) → IsOfKind law.kind u.symbols law → (found : Option GroundHead) → ground_head u env law.head ≡ found → AreGroundLaws u (law_with u base law env found)
  with_fits base law env form None e = tt
  with_fits base law env form (Some head) e = (made_fits base law env head e law.kind form, tt)

  under_fits : (base : ℕ) (law : Law) → IsOfKind law.kind u.symbols law → (values : List ℕ) → AreGroundLaws u (law_of_instance u (Under base law values))
  under_fits base law form values = with_fits base law (giving values) form (ground_head u (giving values) law.head) refl

  -- ---- two Boolean actions

  module _ (own : HaveTheirValues u) where
    -- the number is that of a constant that has the value index 1
    abbrev HasTwo : ℕ → Type 0
    HasTwo number = (size : ℕ) × (slice_get (domain_sizes (constants_in u)) number ≡ Some size) × (1 < size)

    two_of : (symbol : Option Symbol) → is_boolean_symbol symbol ≡ true → (values : List ℕ) → values ≡ values_of_symbol u symbol → 1 < length values
    two_of None boolean values is = absurd cc
    two_of (Some symbol) boolean values is = elim symbol.attribute as (λ a. (is_none a && (symbol.domain == 0)) ≡ true → values ≡ values_of_symbol u (Some (record symbol { attribute = a })) → 1 < length values) [
      | None ↦ (λ two same.
          let zeroth : symbol.domain ≡ 0 = eqb-true symbol.domain 0 two in
          let first : values ≡ 0 ∷ 1 ∷ own.others = same ∙ ap (objects_of u) zeroth ∙ own.booleans in
          let long : length values ≡ suc (suc (length own.others)) = ap length first in
          omega (arith, long))
      | Some action ↦ (λ two same. absurd cc)
    ] boolean is

    boolean_two : (number : ℕ) (constant : Const) → slice_get (constants_in u) number ≡ Some constant → is_boolean_action u constant ≡ true → HasTwo number
    boolean_two number constant e boolean =
        let both = both_hold (is_action constant.kind) (is_boolean_symbol (slice_get u.symbols constant.symbol)) boolean in
        let values = all_got (λ (c : Const). c.domain ≡ values_of u c.symbol) (constants_in u) number constant own.values e in
        (length constant.domain, size_at (constants_in u) number constant e, two_of (slice_get u.symbols constant.symbol) both.1 constant.domain values)

    where_all : (P : ℕ → Type 0) (test : Const → Bool) (first : ℕ) (constants : List Const) →
        ((i : ℕ) (constant : Const) → slice_get constants i ≡ Some constant → test constant ≡ true → P (first + i)) → AllByRecursion P (numbers_where test first constants)
    where_all P test first [] each = tt
    where_all P test first (constant ∷ constants) each =
        here (test constant) refl
        (where_all P test (first + 1) constants (λ i c e passes. let at : first + suc i ≡ first + 1 + i = omega arith in subst P at (each (suc i) c e passes)))
      where
        here : (passes : Bool) → test constant ≡ passes → AllByRecursion P (numbers_where test (first + 1) constants) →
            AllByRecursion P (if passes then first ∷ numbers_where test (first + 1) constants else numbers_where test (first + 1) constants)
        here true e rest = (let at : first + 0 ≡ first = omega arith in subst P at (each 0 constant refl e), rest)
        here false e rest = rest

    abbrev BothAre : (ℕ → Type 0) → ℕ × ℕ → Type 0
    BothAre P pair = P pair.0 × P pair.1

    pairs_all : (P : ℕ → Type 0) (numbers : List ℕ) → AllByRecursion P numbers → AllByRecursion (BothAre P) (pairs_of numbers)
    pairs_all P [] all = tt
    pairs_all P (number ∷ numbers) all =
        all_append (BothAre P) (map (λ other. (number, other)) numbers) (pairs_of numbers) (with_first numbers all.1) (pairs_all P numbers all.1)
      where
        with_first : (others : List ℕ) → AllByRecursion P others → AllByRecursion (BothAre P) (map (λ other. (number, other)) others)
        with_first [] some = tt
        with_first (other ∷ others) some = ((all.0, some.0), with_first others some.1)

    pair_law_fits : (base : ℕ) (pair : ℕ × ℕ) → HasTwo pair.0 × HasTwo pair.1 → AreGroundLaws u (law_of_instance u (Together base pair))
    pair_law_fits base pair two = (
      record {
        head = tt;
        body = record { formula = terms.Truth; written = refl; fits = (tt, tt) };
        after = postfix (all_of (terms.Atom pair.0 1 ∷ terms.Atom pair.1 1 ∷ []));
        written = refl;
        term = record {
          formula = all_of (terms.Atom pair.0 1 ∷ terms.Atom pair.1 1 ∷ []);
          written = refl;
          fits = pair_fits (domain_sizes (constants_in u)) (terms.Atom pair.0 1) (terms.Atom pair.1 1) (two.0, tt) (two.1, tt);
        };
      },
      tt,
    )

    -- ---- base laws

    abbrev Made : Instance → Type 0
    Made instance = AreGroundLaws u (law_of_instance u instance)

    togethers : (base : ℕ) (pairs : List (ℕ × ℕ)) → AllByRecursion (BothAre HasTwo) pairs → AllByRecursion Made (map (Together base) pairs)
    togethers base [] two = tt
    togethers base (pair ∷ pairs) two = (pair_law_fits base pair two.0, togethers base pairs two.1)

    law_fits : (base : ℕ) (law : BaseLaw) → HasForm u.symbols law → AllByRecursion Made (instances_of u base law)
    law_fits base (resolved.One law) form = all_map Made (Under base law) (environments u law) (under_fits base law form)
    law_fits base (resolved.NoConcurrency file line) form =
        togethers base (pairs_of (boolean_actions u)) (pairs_all HasTwo (boolean_actions u) (where_all HasTwo (is_boolean_action u) 0 (constants_in u)
        (λ i constant e boolean. let at : i ≡ 0 + i = omega arith in subst HasTwo at (boolean_two i constant e boolean))))

    fit_from : (base : ℕ) (laws : List BaseLaw) → HaveForms u.symbols laws → AllByRecursion Made (instances_from u base laws)
    fit_from base [] forms = tt
    fit_from base (law ∷ laws) forms = all_append Made (instances_of u base law) (instances_from u (base + 1) laws) (law_fits base law forms.0) (fit_from (base + 1) laws forms.1)

    pub laws_fit : (laws : List BaseLaw) → HaveForms u.symbols laws → AreGroundLaws u (ground_laws u laws)
    laws_fit laws forms = all_flat (λ law. IsGroundOfKind law.kind u law) (law_of_instance u) (instances u laws) (fit_from 0 laws forms)

-- ---- queries

module _ (u : Universe) where
  claim_fits : (claim : Option Condition) → IfSome (option_map (ground_condition u) claim) (λ made. IsTermOf u made.nodes)
  claim_fits None = tt
  claim_fits (Some claim) = term_is u (giving []) claim.formula

  pub query_fits : (range : ℕ × ℕ) (query : Query) → IsGroundQuery u (ground_query u range query)
  query_fits range query = record {
    conditions = all_map (λ (made : PlainGroundCondition). IsTermOf u made.nodes) (ground_condition u) query.conditions (λ condition. term_is u (giving []) condition.formula);
    claim = claim_fits query.claim;
  }
