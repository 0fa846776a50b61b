-- What the holder of a trail sees after its parts have changed.
use Rattle.std.proofs.Common.{◌≡◌, ◌∙◌, ℕ, ◌+◌, ◌≤◌, inl, inr, List, [], ◌∷◌, ◌++◌, length, min, Some, None, refl, sym, subst, ap, arith, length-append}
use Rattle.cc_defs.specs.Clauses.{Literal, IsIn, IsLiteralOver}
use Rattle.cc_defs.specs.Assignments.{IsClosed}
use Rattle.cc_kernel.specs.Kernels.{KernelView, clauses_of}
use Rattle.cc_trail.specs.declared.entries.Step.{Step}
use Rattle.cc_trail.specs.declared.trail.Trail.TheInside.{Inside}
use Rattle.cc_trail.specs.Links.{LinksView}
use Rattle.cc_trail.specs.Steps.{EntriesView, AreSteps, step_of, steps_to, values_of}
use Rattle.cc_trail.specs.EntrySteps.{IsBack}
use Rattle.cc_trail.specs.Trails.{TrailView, IsTrail, Fits, IsSettled, decided, back_at}
use Rattle.cc_trail.specs.TrailParts.{view_of, AreParts}
use Rattle.cc_trail.proofs.StepLists.{levels_most, steps_push}
use Rattle.cc_trail.proofs.Values.{settled_decided, settled_back, fits_decided, fits_back}

module _ (inside : Inside) (old : TrailView) (is : view_of inside ≡ old) (parts : AreParts inside) where
  pub over_links : (literal : Literal) → IsLiteralOver old.variables literal → IsLiteralOver inside.links.variables literal
  over_links literal over =
      subst (λ (n : ℕ). IsLiteralOver n literal) (sym (parts.variables ∙ ap (λ (v : TrailView). v.variables) is)) over

  trail_here : IsTrail old
  trail_here = subst (λ (v : TrailView). IsTrail v) is parts.trail_is

  module _ (entries : EntriesView) (literal : Literal) (entries_are : entries ≡ record inside.entries {
    steps = inside.entries.steps ++ (record { lit = literal; level = inside.entries.level_count + 1; reason = None }) ∷ [];
    level_count = inside.entries.level_count + 1;
  }) where
    view_decided : ◌≡◌ {A = TrailView} (record (view_of inside) { variables = entries.variables; steps = entries.steps; level_count = entries.level_count }) (decided old literal)
    view_decided = rw entries_are (ap (λ (v : TrailView). decided v literal) is)

    steps_decided : IsLiteralOver old.variables literal → step_of old.steps literal.variable ≡ None → AreSteps entries.variables entries.steps entries.level_count
    steps_decided over open_yet = rw entries_are
        (subst (λ (n : ℕ). AreSteps inside.entries.variables (inside.entries.steps ++ (record { lit = literal; level = inside.entries.level_count + 1; reason = None }) ∷ []) n)
        refl (steps_push inside.entries.variables inside.entries.level_count inside.entries.steps (record { lit = literal; level = inside.entries.level_count + 1; reason = None })
        parts.trail_is.are_steps (subst (λ (v : TrailView). IsLiteralOver v.variables literal) (sym is) over)
        (subst (λ (v : TrailView). step_of v.steps literal.variable ≡ None) (sym is) open_yet) (inr (omega arith))))

    pub parts_then : IsLiteralOver old.variables literal → step_of old.steps literal.variable ≡ None →
        IsTrail (record (view_of inside) { variables = entries.variables; steps = entries.steps; level_count = entries.level_count }) × (inside.links.variables ≡ entries.variables) ×
        (inside.pairs.variables ≡ entries.variables)
    parts_then over open_yet = (
      (record {
        are_steps = steps_decided over open_yet;
        visited =
            let before = parts.trail_is.visited in
            let count : length entries.steps ≡ length inside.entries.steps + 1 = rw entries_are (length-append inside.entries.steps _) in
            omega arith;
        nodes = parts.trail_is.nodes;
      }),
      (parts.variables ∙ ap (λ (e : EntriesView). e.variables) (sym entries_are)),
      (parts.pairs_variables ∙ ap (λ (e : EntriesView). e.variables) (sym entries_are)),
    )

    pub fits_then : (kernel : KernelView) → Fits old kernel →
        Fits (record (view_of inside) { variables = entries.variables; steps = entries.steps; level_count = entries.level_count }) kernel
    fits_then kernel fits = subst (λ (v : TrailView). Fits v kernel) (sym view_decided) (record {
      variables = fits.variables;
      clauses = fits_decided old literal (clauses_of kernel) trail_here.visited fits.clauses;
    })

    pub settled_then : (kernel : KernelView) → IsClosed (values_of old.steps) (clauses_of kernel) → IsSettled old kernel →
        IsSettled (record (view_of inside) { variables = entries.variables; steps = entries.steps; level_count = entries.level_count }) kernel
    settled_then kernel closed settled = subst (λ (v : TrailView). IsSettled v kernel) (sym view_decided)
        (settled_decided old.variables old.steps old.level_count (record { lit = literal; level = old.level_count + 1; reason = None }) (clauses_of kernel)
        trail_here.are_steps refl closed settled)

  module _ (entries : EntriesView) (level visited : ℕ) (low : level ≤ old.level_count) (back : IsBack inside.entries entries level)
      (are : AreSteps entries.variables entries.steps entries.level_count) (visited_is : visited ≡ min inside.visited (length entries.steps)) where
    view_back : ◌≡◌ {A = TrailView} (record (view_of inside) { variables = entries.variables; steps = entries.steps; level_count = entries.level_count; visited = visited }) (back_at old level)
    view_back = rw (visited_is, back.variables, back.level_count, back.steps) (ap (λ (v : TrailView). back_at v level) is)

    steps_are : entries.steps ≡ steps_to level old.steps
    steps_are = back.steps ∙ ap (λ (v : TrailView). steps_to level v.steps) is

    front : old.steps ≡ steps_to level old.steps ++ back.gone
    front = ap (λ (v : TrailView). v.steps) (sym is) ∙ back.front ∙ ap (λ (ss : List Step). ss ++ back.gone) steps_are

    kept_low : (step : Step) → IsIn (steps_to level old.steps) step → step.level ≤ level
    kept_low step here =
        let most = levels_most 0 entries.steps are.rising step (subst (λ (ss : List Step). IsIn ss step) (sym steps_are) here) in
        let levels = are.levels in
        let count = back.level_count in
        omega (arith, most)

    pub fits_went : (kernel : KernelView) → Fits old kernel →
        Fits (record (view_of inside) { variables = entries.variables; steps = entries.steps; level_count = entries.level_count; visited = visited }) kernel
    fits_went kernel fits = subst (λ (v : TrailView). Fits v kernel) (sym view_back) (record {
      variables = fits.variables;
      clauses = fits_back old level back.gone (clauses_of kernel) front back.high kept_low fits.clauses;
    })

    pub settled_went : (kernel : KernelView) → IsSettled old kernel →
        IsSettled (record (view_of inside) { variables = entries.variables; steps = entries.steps; level_count = entries.level_count; visited = visited }) kernel
    settled_went kernel settled = subst (λ (v : TrailView). IsSettled v kernel) (sym view_back)
        (settled_back old.steps (steps_to level old.steps) back.gone old.level_count level (clauses_of kernel) front back.high low settled)

-- what the holder sees stays as it is
pub parts_kept : (inside new : Inside) → AreParts inside → view_of new ≡ view_of inside → new.links ≡ inside.links → AreParts new
parts_kept inside new parts same links = record {
  trail_is = rw same parts.trail_is;
  variables = ap (λ (l : LinksView). l.variables) links ∙ parts.variables ∙ sym (ap (λ (v : TrailView). v.variables) same);
  pairs_variables = ap (λ (v : TrailView). v.pairs.variables) same ∙ parts.pairs_variables ∙ sym (ap (λ (v : TrailView). v.variables) same);
  ahead = ap (λ (l : LinksView). l.ahead) links ∙ parts.ahead;
}

-- two more nodes, and perhaps fewer steps visited
pub parts_long : (inside : Inside) → AreParts inside → (id visited : ℕ) (longs : List ℕ) (literal other : Literal) (links : LinksView) → visited ≤ inside.visited →
    links ≡ record inside.links { watched = inside.links.watched ++ literal ∷ other ∷ [] } → longs ≡ inside.longs.items ++ id ∷ [] →
    IsTrail (record (view_of inside) { attached = id; longs = longs; watched = links.watched; visited = visited }) × (links.variables ≡ inside.entries.variables) × (links.ahead ≡ [])
parts_long inside parts id visited longs literal other links fewer links_are longs_are = rw links_are (
  (record {
    are_steps = parts.trail_is.are_steps;
    visited = let before = parts.trail_is.visited in omega arith;
    nodes =
        let before = parts.trail_is.nodes in
        omega (arith, length-append inside.links.watched (literal ∷ other ∷ []), ap length longs_are, length-append inside.longs.items (id ∷ []));
  }),
  parts.variables,
  parts.ahead,
)

-- a clause is attached whose literals stand side by side, and perhaps fewer steps are visited
pub parts_pair : (inside new : Inside) → AreParts inside → new.entries ≡ inside.entries → new.links ≡ inside.links → new.longs.items ≡ inside.longs.items →
    new.pairs.variables ≡ inside.pairs.variables → new.visited ≤ inside.visited → AreParts new
parts_pair inside new parts entries links longs pairs fewer = record {
  trail_is = rw (entries, links, longs) (record {
    are_steps = parts.trail_is.are_steps;
    visited = let before = parts.trail_is.visited in omega arith;
    nodes = parts.trail_is.nodes;
  });
  variables = rw (entries, links) parts.variables;
  pairs_variables = rw entries (pairs ∙ parts.pairs_variables);
  ahead = rw links parts.ahead;
}

-- one more step at the last level, and two more nodes
pub parts_true : (inside : Inside) (old : TrailView) → view_of inside ≡ old → AreParts inside → (id : ℕ) (longs : List ℕ) (literal other : Literal) (entries : EntriesView) (links : LinksView) →
    entries ≡ record inside.entries { steps = inside.entries.steps ++ (record { lit = literal; level = inside.entries.level_count; reason = Some id }) ∷ [] } →
    links ≡ record inside.links { watched = inside.links.watched ++ literal ∷ other ∷ [] } → longs ≡ inside.longs.items ++ id ∷ [] →
    IsLiteralOver old.variables literal → step_of old.steps literal.variable ≡ None →
    IsTrail (record (view_of inside) { variables = entries.variables; steps = entries.steps; level_count = entries.level_count; attached = id; longs = longs; watched = links.watched }) ×
    (links.variables ≡ entries.variables) × (inside.pairs.variables ≡ entries.variables) × (links.ahead ≡ [])
parts_true inside old is parts id longs literal other entries links entries_are links_are longs_are over open_yet = rw (entries_are, links_are) (
  (record {
    are_steps = steps_push inside.entries.variables inside.entries.level_count inside.entries.steps (record { lit = literal; level = inside.entries.level_count; reason = Some id })
        parts.trail_is.are_steps (subst (λ (v : TrailView). IsLiteralOver v.variables literal) (sym is) over)
        (subst (λ (v : TrailView). step_of v.steps literal.variable ≡ None) (sym is) open_yet) (inl refl);
    visited =
        let before = parts.trail_is.visited in
        omega (arith, length-append inside.entries.steps ((record { lit = literal; level = inside.entries.level_count; reason = Some id }) ∷ []));
    nodes =
        let before = parts.trail_is.nodes in
        omega (arith, length-append inside.links.watched (literal ∷ other ∷ []), ap length longs_are, length-append inside.longs.items (id ∷ []));
  }),
  parts.variables,
  parts.pairs_variables,
  parts.ahead,
)
