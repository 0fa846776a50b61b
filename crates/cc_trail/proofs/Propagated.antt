-- What the holder of a trail sees after propagation, and that it is closed.
use Rattle.std.proofs.Common.{◌≡◌, ◌∙◌, ℕ, ◌-◌, ◌*◌, ◌<◌, ◌≤◌, suc, inl, inr, List, [], ◌∷◌, length, take, get_or, Option, Some, None, option_map, refl, sym, subst, ap, arith}
use Rattle.std.specs.Prelude.{◌⊎◌, Contains, slice_get, IfNone}
use Rattle.std.proofs.lemmas.List.{length-map, take_all}
use Rattle.std.proofs.lemmas.Option.{slice_get-get_or, slice_get_within}
use Rattle.cc_defs.specs.Clauses.{Literal, IsNumbered, IsIn}
use Rattle.cc_defs.specs.Assignments.{IsClosed, IsTrueIn, HasNoValue}
use Rattle.cc_kernel.specs.Kernels.{KernelView, Entry, clauses_of}
use Rattle.cc_trail.specs.declared.entries.Step.{Step}
use Rattle.cc_trail.specs.declared.trail.Trail.TheInside.{Inside}
use Rattle.cc_trail.specs.Links.{LinksView, watched_at}
use Rattle.cc_trail.specs.Pairs.{PairsView, IsPaired, AreFollowed, other_in}
use Rattle.cc_trail.specs.Steps.{EntriesView, AreApart, step_of, sign_of, values_of}
use Rattle.cc_trail.specs.Watches.{IsFalseBy, IsWatched, IsShort, IsMetForGood, partner}
use Rattle.cc_trail.specs.Trails.{TrailView, Fits, IsCovered, IsSettled, number_of}
use Rattle.cc_trail.specs.TrailParts.{view_of, AreParts}
use Rattle.cc_trail.specs.Visits.{AreSound, AreGrown, AreWatched, IsMet, IsPropagating}
use Rattle.cc_trail.proofs.StepLists.{in_take, levels_most, step_found, found_step}
use Rattle.cc_trail.proofs.Attaching.{half_first, partner_first, partner_second}
use Rattle.cc_trail.proofs.Adding.{Spares, not_failed, not_unit}
use Rattle.cc_trail.proofs.Covered.{all_spare}
use Rattle.cc_trail.proofs.Growing.{same_or_opposite, grown_in, grown_then, followed_grown, watched_grown}
use Rattle.cc_trail.proofs.Values.{good_more}
use Rattle.cc_trail.proofs.Visiting.{numbered_same}

-- ---- closed

true_by : (steps : List Step) → AreApart steps → (literal : Literal) (step : Step) → IsIn steps step → step.lit ≡ literal → IsTrueIn (values_of steps) literal
true_by steps apart literal step here is =
    ap (λ (n : ℕ). option_map sign_of (step_of steps n)) (sym (ap (λ (l : Literal). l.variable) is)) ∙
    ap (λ (found : Option Step). option_map sign_of found) (found_step steps apart step here) ∙ ap (λ (l : Literal). Some l.positive) is

-- a literal has no value, or a step makes it true, or false
value_tells : (steps : List Step) (literal : Literal) (found : Option Step) → step_of steps literal.variable ≡ found →
    HasNoValue (values_of steps) literal ⊎ (((step : Step) × IsIn steps step × (step.lit ≡ literal)) ⊎ IsFalseBy steps literal)
value_tells steps literal None is = inl (ap (λ (found : Option Step). option_map sign_of found) is)
value_tells steps literal (Some step) is =
    let there = step_found steps literal.variable step is in
    elim (same_or_opposite step.lit literal (there.1)) [
      | inl same ↦ inr (inl (step, there.0, same))
      | inr other ↦ inr (inr (step, there.0, other))
    ]

place_in : (ns : List ℕ) (n : ℕ) → IsIn ns n → (k : ℕ) × (k < length ns) × (get_or ns k 0 ≡ n)
place_in [] n none = elim none [ ]
place_in (m ∷ ns) n (inl same) = (0, omega arith, same)
place_in (m ∷ ns) n (inr here) = let (k, within, at) = place_in ns n here in (suc k, omega (arith, within), at)

module _ (kernel : KernelView) (shorts longs : List ℕ) (visited : ℕ) (entries : EntriesView) (links : LinksView) (pairs : PairsView)
    (it : IsPropagating kernel longs pairs visited entries links) (all : visited ≡ length entries.steps)
    (met : (number : ℕ) → IsIn shorts number → IsMet (clauses_of kernel) entries.steps number)
    (each : (number : ℕ) → 0 < number → number ≤ length (clauses_of kernel) →
    IsIn shorts number ⊎ (IsIn longs number ⊎ (IsPaired pairs number ⊎ IsCovered (clauses_of kernel) number))) where
  watched_all : (node : ℕ) → node < length links.watched → IsWatched entries.steps entries.steps links.watched node
  watched_all node low =
      subst (λ (steps : List Step). IsWatched steps entries.steps links.watched node) (take_all visited entries.steps (omega arith)) (it.watched.watches node low)

  spares_short : (number : ℕ) (clause : List Literal) → IsNumbered (clauses_of kernel) number clause → IsIn shorts number → Spares (values_of entries.steps) clause
  spares_short number clause numbered here =
      let (other, other_numbered, literal, member, step, among, is) = met number here in
      inl (
        literal,
        subst (λ (c : List Literal). Contains c literal) (numbered_same (clauses_of kernel) number other clause other_numbered numbered) member,
        true_by entries.steps it.sound.are_steps.apart literal step among is,
      )

  spares_node : (node : ℕ) → node < length links.watched → partner node < length links.watched → partner (partner node) ≡ node → (clause : List Literal) →
      IsNumbered (clauses_of kernel) (number_of longs node) clause → Spares (values_of entries.steps) clause
  spares_node node low partner_low twice clause numbered =
      let watching = it.watched.watching node low in
      let same = numbered_same (clauses_of kernel) (number_of longs node) watching.clause clause watching.numbered numbered in
      let one = subst (λ (c : List Literal). Contains c (watched_at links.watched node)) same watching.here in
      let two = subst (λ (c : List Literal). Contains c (watched_at links.watched (partner node))) same watching.there in
      elim (value_tells entries.steps (watched_at links.watched node) (step_of entries.steps (watched_at links.watched node).variable) refl) [
        | inr valued ↦ elim valued [
          | inl (step, among, is) ↦ inl (watched_at links.watched node, one, true_by entries.steps it.sound.are_steps.apart (watched_at links.watched node) step among is)
          | inr (step, among, is) ↦
              let true_is = watched_all node low step among is in
              inl (watched_at links.watched (partner node), two, true_by entries.steps it.sound.are_steps.apart (watched_at links.watched (partner node)) true_is.0 true_is.1 true_is.2)
        ]
        | inl one_open ↦ elim (value_tells entries.steps (watched_at links.watched (partner node)) (step_of entries.steps (watched_at links.watched (partner node)).variable) refl) [
          | inl two_open ↦ elim watching.apart [
            | inl apart ↦ inr (watched_at links.watched node, watched_at links.watched (partner node), apart, one, two, one_open, two_open)
            | inr is ↦ inl (watched_at links.watched node, one, true_by entries.steps it.sound.are_steps.apart (watched_at links.watched node) is.0 is.1 is.2)
          ]
          | inr valued ↦ elim valued [
            | inl (step, among, is) ↦ inl (watched_at links.watched (partner node), two, true_by entries.steps it.sound.are_steps.apart (watched_at links.watched (partner node)) step among is)
            | inr (step, among, is) ↦
                let true_is = watched_all (partner node) partner_low step among is in
                inl (
                  watched_at links.watched node,
                  one,
                  true_by entries.steps it.sound.are_steps.apart (watched_at links.watched node) true_is.0 true_is.1
                      (true_is.2 ∙ ap (λ (k : ℕ). watched_at links.watched k) twice),
                )
          ]
        ]
      ]

  spares_long : (number : ℕ) (clause : List Literal) → IsNumbered (clauses_of kernel) number clause → IsIn longs number → Spares (values_of entries.steps) clause
  spares_long number clause numbered here =
      let (k, within, at) = place_in longs number here in
      let nodes = it.watched.nodes in
      spares_node (2 * k) (omega arith) (rw (partner_first k) (omega arith)) (ap partner (partner_first k) ∙ partner_second k) clause
      (subst (λ (n : ℕ). IsNumbered (clauses_of kernel) n clause) (sym at ∙ ap (λ (j : ℕ). get_or longs j 0) (sym (half_first k))) numbered)

  followed_all : AreFollowed pairs entries.steps entries.steps
  followed_all = subst (λ (steps : List Step). AreFollowed pairs steps entries.steps) (take_all visited entries.steps (omega arith)) it.followed

  spares_pair : (number : ℕ) (clause : List Literal) → IsNumbered (clauses_of kernel) number clause → IsPaired pairs number → Spares (values_of entries.steps) clause
  spares_pair number clause numbered (a, b, apart, ab, ba) =
      let (other, other_numbered, a_in, b_in, only) = it.paired a (other_in b number) ab in
      let same = numbered_same (clauses_of kernel) number other clause other_numbered numbered in
      let one = subst (λ (c : List Literal). Contains c a) same a_in in
      let two = subst (λ (c : List Literal). Contains c b) same b_in in
      elim (value_tells entries.steps a (step_of entries.steps a.variable) refl) [
        | inr valued ↦ elim valued [
          | inl (step, among, is) ↦ inl (a, one, true_by entries.steps it.sound.are_steps.apart a step among is)
          | inr (step, among, is) ↦
              let true_is = followed_all a (other_in b number) ab step among is in
              inl (b, two, true_by entries.steps it.sound.are_steps.apart b true_is.0 true_is.1 true_is.2)
        ]
        | inl a_open ↦ elim (value_tells entries.steps b (step_of entries.steps b.variable) refl) [
          | inl b_open ↦ inr (a, b, apart, one, two, a_open, b_open)
          | inr valued ↦ elim valued [
            | inl (step, among, is) ↦ inl (b, two, true_by entries.steps it.sound.are_steps.apart b step among is)
            | inr (step, among, is) ↦
                let true_is = followed_all b (other_in a number) ba step among is in
                inl (a, one, true_by entries.steps it.sound.are_steps.apart a true_is.0 true_is.1 true_is.2)
          ]
        ]
      ]

  near : (number : ℕ) (clause : List Literal) → IsNumbered (clauses_of kernel) number clause → Spares (values_of entries.steps) clause ⊎ IsCovered (clauses_of kernel) number
  near number clause numbered =
      let some = numbered.0 in
      let low = slice_get_within (clauses_of kernel) (number - 1) clause numbered.1 in
      elim (each number some (omega (arith, some, low))) [
        | inl here ↦ inl (spares_short number clause numbered here)
        | inr rest ↦ elim rest [
          | inl here ↦ inl (spares_long number clause numbered here)
          | inr others ↦ elim others [
            | inl here ↦ inl (spares_pair number clause numbered here)
            | inr covered ↦ inr covered
          ]
        ]
      ]

  spares : (clause : List Literal) → Contains (clauses_of kernel) clause → Spares (values_of entries.steps) clause
  spares clause (k, within, at) =
      let back : k ≡ suc k - 1 = omega arith in
      let numbered : IsNumbered (clauses_of kernel) (suc k) clause =
      (omega arith, subst (λ (n : ℕ). slice_get (clauses_of kernel) n ≡ Some clause) back (slice_get-get_or (clauses_of kernel) k clause within ∙ ap (λ (c : List Literal). Some c) at)) in
      all_spare (values_of entries.steps) (clauses_of kernel) near (suc k) clause numbered

  pub closed_then : IsClosed (values_of entries.steps) (clauses_of kernel)
  closed_then = record {
    none_failed = λ clause here failed. not_failed (values_of entries.steps) clause (spares clause here) failed;
    none_unit = λ clause here unit. not_unit (values_of entries.steps) clause (spares clause here) unit;
  }

-- ---- the parts of a trail, before and after

module _ (inside : Inside) (old : TrailView) (is : view_of inside ≡ old) (parts : AreParts inside) (kernel : KernelView) (fits : Fits old kernel) where
  fits_here : Fits (view_of inside) kernel
  fits_here = subst (λ (v : TrailView). Fits v kernel) (sym is) fits

  pub shorts_here : (number : ℕ) → IsIn inside.shorts.items number → IsShort (clauses_of kernel) number
  shorts_here = fits_here.clauses.shorts

  pub sound_here : IsSettled old kernel → AreSound kernel inside.entries
  sound_here settled = record {
    variables = fits_here.variables;
    are_steps = parts.trail_is.are_steps;
    reasons = fits_here.clauses.reasons;
    settled = subst (λ (v : TrailView). IsSettled v kernel) (sym is) settled;
  }

  watched_here : AreWatched kernel inside.longs.items inside.visited inside.entries inside.links
  watched_here = record {
    variables = parts.variables ∙ fits_here.variables;
    within = parts.trail_is.visited;
    nodes = parts.trail_is.nodes;
    watching = fits_here.clauses.longs;
    watches = fits_here.clauses.watches;
  }

  pub propagating_here : (entries : EntriesView) → AreGrown inside.entries entries → AreSound kernel entries →
      IsPropagating kernel inside.longs.items inside.pairs inside.visited entries inside.links
  propagating_here entries grown sound = record {
    variables = parts.pairs_variables ∙ sym grown.variables;
    sound = sound;
    watched = watched_grown kernel inside.longs.items inside.visited inside.entries entries inside.links grown watched_here;
    paired = fits_here.clauses.pairs;
    followed = followed_grown inside.pairs inside.visited inside.entries entries grown parts.trail_is.visited fits_here.clauses.followed;
    none = parts.ahead;
  }

  good_here : (entries : EntriesView) → AreGrown inside.entries entries → (number : ℕ) → IsIn (take inside.met inside.shorts.items) number →
      IsMetForGood (clauses_of kernel) entries.steps number
  good_here entries grown number here =
      subst (λ (steps : List Step). IsMetForGood (clauses_of kernel) steps number) (sym grown.steps)
      (good_more (clauses_of kernel) inside.entries.steps grown.more number (fits_here.clauses.met number here))

  pub still_good : (entries : EntriesView) → AreGrown inside.entries entries → (inside.met ≤ length inside.shorts.items) ×
      ((number : ℕ) → IsIn (take inside.met inside.shorts.items) number → IsMetForGood (clauses_of kernel) entries.steps number)
  still_good entries grown = (fits_here.clauses.met_few, good_here entries grown)

  pub known_here : (number : ℕ) → IsIn (take inside.met inside.shorts.items) number → IsMet (clauses_of kernel) inside.entries.steps number
  known_here number here =
      let (clause, numbered, literal, member, is) = fits_here.clauses.met number here in
      (clause, numbered, literal, member, is.0, is.1, is.2)

  -- so many are met for good, where all are met: at level 0 all
  pub good_then : (met count : ℕ) (made entries : EntriesView) → (met ≡ inside.met) ⊎ ((met ≡ count) × (made.level_count ≡ 0)) → count ≡ length inside.shorts.items →
      AreGrown inside.entries made → AreGrown made entries → AreSound kernel made → ((number : ℕ) → IsIn inside.shorts.items number → IsMet (clauses_of kernel) made.steps number) →
      (met ≤ length inside.shorts.items) × ((number : ℕ) → IsIn (take met inside.shorts.items) number → IsMetForGood (clauses_of kernel) entries.steps number)
  good_then met count made entries (inl same) count_is one two sound all =
      rw same (still_good entries (grown_then inside.entries made entries one two))
  good_then met count made entries (inr (is, none)) count_is one two sound all = (omega arith, now_good)
    where
      now_good : (number : ℕ) → IsIn (take met inside.shorts.items) number → IsMetForGood (clauses_of kernel) entries.steps number
      now_good number here =
          let (clause, numbered, literal, member, step, among, lit_is) = all number (in_take met inside.shorts.items number here) in
          let low = levels_most 0 made.steps sound.are_steps.rising step among in
          let levels = sound.are_steps.levels in
          (clause, numbered, literal, member, (step, grown_in made entries two step among, lit_is, omega (arith, low)))

  each_here : old.attached ≡ length kernel.entries → (number : ℕ) → 0 < number → number ≤ length (clauses_of kernel) →
      IsIn inside.shorts.items number ⊎ (IsIn inside.longs.items number ⊎ (IsPaired inside.pairs number ⊎ IsCovered (clauses_of kernel) number))
  each_here attached number some most =
      let here : inside.attached ≡ old.attached = ap (λ (v : TrailView). v.attached) is in
      let count : length (clauses_of kernel) ≡ length kernel.entries = length-map kernel.entries (λ (entry : Entry). entry.clause) in
      fits_here.clauses.each number some (omega arith)

  pub fits_then : (visited met : ℕ) (entries : EntriesView) (links : LinksView) → IsPropagating kernel inside.longs.items inside.pairs visited entries links →
      (met ≤ length inside.shorts.items) × ((number : ℕ) → IsIn (take met inside.shorts.items) number → IsMetForGood (clauses_of kernel) entries.steps number) →
      Fits (record {
        variables = entries.variables;
        steps = entries.steps;
        level_count = entries.level_count;
        attached = inside.attached;
        shorts = inside.shorts.items;
        longs = inside.longs.items;
        met = met;
        watched = links.watched;
        pairs = inside.pairs;
        visited = visited;
      }) kernel
  fits_then visited met entries links it good = record {
    variables = it.sound.variables;
    clauses = record {
      attached = fits_here.clauses.attached;
      reasons = it.sound.reasons;
      shorts = fits_here.clauses.shorts;
      met_few = good.0;
      met = good.1;
      longs = it.watched.watching;
      pairs = fits_here.clauses.pairs;
      each = fits_here.clauses.each;
      watches = it.watched.watches;
      followed = it.followed;
    };
  }

  pub all_closed : (found : Option ℕ) (visited : ℕ) (entries : EntriesView) (links : LinksView) → old.attached ≡ length kernel.entries →
      IsPropagating kernel inside.longs.items inside.pairs visited entries links →
      ((number : ℕ) → IsIn inside.shorts.items number → IsMet (clauses_of kernel) entries.steps number) →
      IfNone found (visited ≡ length entries.steps) → IfNone found (IsClosed (values_of entries.steps) (clauses_of kernel))
  all_closed None visited entries links attached it met all =
      closed_then kernel inside.shorts.items inside.longs.items visited entries links inside.pairs it all met (each_here attached)
  all_closed (Some number) visited entries links attached it met all = tt
