-- The ground laws of laws that have the forms of their kinds have these forms too.
use Rattle.std.proofs.Common.{ℕ, ◌+◌, Bool, true, false, List, [], ◌∷◌, ◌++◌, map, flat_map, filter, Option, Some, None, refl, sym, ap, subst}
use Rattle.std.specs.Option.{option_map}
use Rattle.std.specs.Prelude.{if◌then◌else◌, IsNone}
use Rattle.std.specs.List.{AllByRecursion}
use Rattle.std.proofs.lemmas.List.{map-append}
use Rattle.std.proofs.lemmas.Option.{same_Some}
use Rattle.cc_arena.specs.Laws.{FluentTermsFit, GroundLawsFit}
use Rattle.cc_defs.specs.declared.law.Range.{Range}
use Rattle.cc_defs.specs.declared.signature.LawKind.{LawKind}
use Rattle.cc_defs.specs.declared.signature.LawKind.TheVariants as law_kinds
use Rattle.cc_defs.specs.Conditions.{AreGroundLaws, HaveTheirKinds, HaveTheirValues, IsTermOf}
use Rattle.cc_defs.specs.Environments.{Together, Under, choices, has_instance, pairs_of, range_values}
use Rattle.cc_defs.specs.Forms.{HaveForms, IsFormula}
use Rattle.cc_defs.specs.GroundLaws.{law_of_instance}
use Rattle.cc_defs.specs.Nodes.{nodes_of}
use Rattle.cc_defs.specs.Resolved.{Formula, Law}
use Rattle.cc_defs.specs.Resolved as resolved
use Rattle.cc_defs.specs.Satisfaction.{giving}
use Rattle.cc_defs.specs.Universe.{Universe, boolean_actions}
use Rattle.cc_wide.specs.WideForms.{AreWideGroundLaws, HasFormOf, HasWideForm, HaveWideForms, IsWideOfKind}
use Rattle.cc_wide.specs.WideGrounds.{wide_ground_of}
use Rattle.cc_wide.specs.WideLaws.{NoConcurrency, One, WideBase, WideLaw, frame_law}
use Rattle.cc_wide.specs.WideRules.{wide_environments, wide_instances_from, wide_instances_of}
use Rattle.cc_wide.specs.WideRules as wide

module _ {X : Type 0} (P : X → Type 0) where
  all_append : (xs ys : List X) → AllByRecursion P xs → AllByRecursion P ys → AllByRecursion P (xs ++ ys)
  all_append [] ys p q = q
  all_append (x ∷ xs) ys p q = (p.0, all_append xs ys p.1 q)

  all_kept : (test : X → Bool) (xs : List X) → AllByRecursion P xs → AllByRecursion P (filter test xs)
  all_kept test [] all = tt
  all_kept test (x ∷ xs) all = here (test x) (all_kept test xs all.1)
    where
      here : (passes : Bool) → AllByRecursion P (filter test xs) → AllByRecursion P (if passes then x ∷ filter test xs else filter test xs)
      here true rest = (all.0, rest)
      here false rest = rest

  all_made : {Y : Type 0} (f : Y → X) (ys : List Y) → AllByRecursion (λ y. P (f y)) ys → AllByRecursion P (map f ys)
  all_made f [] all = tt
  all_made f (y ∷ ys) all = (all.0, all_made f ys all.1)

  all_each : (xs : List X) → ((x : X) → P x) → AllByRecursion P xs
  all_each [] each = tt
  all_each (x ∷ xs) each = (each x, all_each xs each)

-- ---- terms of any constants: those of the `after` parts of laws with the same ranges

abbrev probe : List Range → Formula → Law
probe ranges formula = record {
  ranges = ranges;
  head = resolved.Falsity;
  body = resolved.Truth;
  after = Some formula;
  test = resolved.Truth;
  kind = law_kinds.FluentDynamic;
  file = 0;
  line = 0;
}

module _ (u : Universe) (fluent : FluentTermsFit) (fit : GroundLawsFit) (kinds : HaveTheirKinds u) (values : HaveTheirValues u) where
  abbrev IsTermUnder : Formula → List ℕ → Type 0
  IsTermUnder formula given = IsTermOf u (nodes_of u (giving given) formula)

  probed : (ranges : List Range) (formula : Formula) (lists : List (List ℕ)) →
      AreGroundLaws u (flat_map (law_of_instance u) (map (Under 0 (probe ranges formula)) (filter (has_instance u (probe ranges formula)) lists) ++ [])) →
      AllByRecursion (IsTermUnder formula) lists
  probed ranges formula [] all = tt
  probed ranges formula (given ∷ lists) all =
      (subst (IsTermOf u) (sym (same_Some (nodes_of u (giving given) formula) all.0.after all.0.written)) all.0.term, probed ranges formula lists all.1)

  all_terms : (law : WideLaw) (formula : Formula) → IsFormula u.symbols formula → AllByRecursion (IsTermUnder formula) (wide_environments u law)
  all_terms law formula declared =
      let lists = choices (map (range_values u) law.ranges) in
      let forms : HaveForms u.symbols (resolved.One (probe law.ranges formula) ∷ []) =
      (record { head = tt; body = (tt, refl); after = formula; written = refl; declared = declared }, tt) in
      all_kept (IsTermUnder formula) (has_instance u (frame_law law)) lists
      (probed law.ranges formula lists (fit u kinds values (resolved.One (probe law.ranges formula) ∷ []) forms))

  -- ---- laws

  without : (after : Option Formula) → IsNone after → (given : List ℕ) → IsNone (option_map (nodes_of u (giving given)) after)
  without (Some formula) none given = absurd cc
  without None none given = refl

  abbrev FitsUnder : LawKind → ℕ → WideLaw → List ℕ → Type 0
  FitsUnder kind base law given = IsWideOfKind kind u (wide_ground_of u (wide.Under base law given))

  action_fits : (base : ℕ) (law : WideLaw) → HasFormOf law_kinds.ActionDynamic u.symbols law → (lists : List (List ℕ)) →
      AllByRecursion (IsTermUnder law.head) lists → AllByRecursion (IsTermUnder law.body) lists →
      AllByRecursion (FitsUnder law_kinds.ActionDynamic base law) lists
  action_fits base law form [] heads bodies = tt
  action_fits base law form (given ∷ lists) heads bodies =
      (record { head = heads.0; body = bodies.0; after = without law.after form.after given }, action_fits base law form lists heads.1 bodies.1)

  fluent_dynamic_fits : (base : ℕ) (law : WideLaw) (form : HasFormOf law_kinds.FluentDynamic u.symbols law) (lists : List (List ℕ)) →
      AllByRecursion (IsTermUnder form.after) lists → AllByRecursion (FitsUnder law_kinds.FluentDynamic base law) lists
  fluent_dynamic_fits base law form [] terms = tt
  fluent_dynamic_fits base law form (given ∷ lists) terms = (
    record {
      head = fluent u kinds (giving given) law.head form.head;
      body = fluent u kinds (giving given) law.body form.body;
      after = nodes_of u (giving given) form.after;
      written = ap (option_map (nodes_of u (giving given))) form.written;
      term = terms.0;
    },
    fluent_dynamic_fits base law form lists terms.1,
  )

  kind_fits : (kind : LawKind) (base : ℕ) (law : WideLaw) → HasFormOf kind u.symbols law → AllByRecursion (FitsUnder kind base law) (wide_environments u law)
  kind_fits law_kinds.Static base law form = all_each (FitsUnder law_kinds.Static base law) (wide_environments u law) (λ given. record {
    head = fluent u kinds (giving given) law.head form.head;
    body = fluent u kinds (giving given) law.body form.body;
    after = without law.after form.after given;
  })
  kind_fits law_kinds.ActionDynamic base law form =
      action_fits base law form (wide_environments u law) (all_terms law law.head form.head) (all_terms law law.body form.body)
  kind_fits law_kinds.FluentDynamic base law form = fluent_dynamic_fits base law form (wide_environments u law) (all_terms law form.after form.declared)

  pairs_fit : (base : ℕ) (pairs : List (ℕ × ℕ)) → AreGroundLaws u (flat_map (law_of_instance u) (map (Together 0) pairs ++ [])) →
      AreWideGroundLaws u (map (wide_ground_of u) (map (wide.Together base) pairs))
  pairs_fit base [] all = tt
  pairs_fit base (pair ∷ pairs) all = (
    record {
      head = fluent u kinds (giving []) resolved.Falsehood (tt, refl);
      body = all.0.body;
      after = all.0.after;
      written = all.0.written;
      term = all.0.term;
    },
    pairs_fit base pairs all.1,
  )

  base_fits : (base : ℕ) (law : WideBase) → HasWideForm u.symbols law → AreWideGroundLaws u (map (wide_ground_of u) (wide_instances_of u base law))
  base_fits base (One law) form =
      all_made (λ made. IsWideOfKind made.kind u made) (wide_ground_of u) (map (wide.Under base law) (wide_environments u law))
      (all_made (λ instance. IsWideOfKind (wide_ground_of u instance).kind u (wide_ground_of u instance)) (wide.Under base law) (wide_environments u law)
      (kind_fits law.kind base law form))
  base_fits base (NoConcurrency file line) form =
      pairs_fit base (pairs_of (boolean_actions u)) (fit u kinds values (resolved.NoConcurrency file line ∷ []) (tt, tt))

  pub all_fit : (base : ℕ) (laws : List WideBase) → HaveWideForms u.symbols laws →
      AreWideGroundLaws u (map (wide_ground_of u) (wide_instances_from u base laws))
  all_fit base [] forms = tt
  all_fit base (law ∷ laws) forms =
      subst (AreWideGroundLaws u) (sym (map-append (wide_ground_of u) (wide_instances_of u base law) (wide_instances_from u (base + 1) laws)))
      (all_append (λ made. IsWideOfKind made.kind u made) (map (wide_ground_of u) (wide_instances_of u base law))
      (map (wide_ground_of u) (wide_instances_from u (base + 1) laws))
      (base_fits base law forms.0) (all_fit (base + 1) laws forms.1))
