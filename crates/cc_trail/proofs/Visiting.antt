-- A visit of a node: it is kept, or moved to a literal that may be watched in place of the false one.
use Rattle.std.proofs.Common.{◌≡◌, ◌≢◌, ◌∙◌, ℕ, ◌-◌, ◌/◌, ◌<◌, ◌≤◌, zero, suc, inl, inr, leb, Bool, true, false, List, [], ◌∷◌, length, get_or, set, take, drop, Option, Some, None, option_map, refl, sym, subst, ap, arith}
use Rattle.std.specs.Prelude.{◌⊎◌, All, Contains, slice_get, if◌then◌else◌, option_and_then}
use Rattle.std.proofs.lemmas.Bool.Decides.{eqb_tells, leb_tells, nat_tests}
use Rattle.std.proofs.lemmas.List.{length-set, length-map, get_or-set_other, get_or-set_same}
use Rattle.std.proofs.lemmas.List.Elements.{All-contains}
use Rattle.std.proofs.lemmas.Option.{slice_get_within}
use Rattle.cc_defs.specs.Clauses.{Literal, opposite, IsNumbered, IsIn}
use Rattle.cc_defs.specs.Assignments.{IsClosed, IsFalseIn}
use Rattle.cc_kernel.specs.Kernels.{KernelView, Entry, clauses_of, IsThere}
use Rattle.cc_trail.specs.declared.entries.Step.{Step}
use Rattle.cc_trail.specs.Links.{LinksView, BeginsWith, no_literal, watched_at}
use Rattle.cc_trail.specs.Steps.{EntriesView, AreApart, AreSteps, step_of, sign_of, sign_to, values_of, values_to}
use Rattle.cc_trail.specs.Watches.{IsTrueBy, IsFalseBy, IsWatched, Watches, HasReason, partner}
use Rattle.cc_trail.specs.Trails.{IsFailedClause, number_of}
use Rattle.cc_trail.specs.Visits.{IsFalseTo, IsFalseAt, IsFalseBut, AreSound, AreGrown, IsVisiting}
use Rattle.cc_trail.proofs.StepLists.{in_take, same_step, step_found, found_step}
use Rattle.cc_trail.proofs.Attaching.{partner_below, half_below, take_fewer_in}
use Rattle.cc_trail.proofs.Growing.{opposite_twice, not_opposite, same_or_opposite, visiting_grown, grown_but}

-- ---- members and numbers

pub in_get : {X : Type 0} (xs : List X) (k : ℕ) (x : X) → slice_get xs k ≡ Some x → IsIn (take (suc k) xs) x
in_get [] k x is = cc
in_get (y ∷ xs) zero x is = inl cc
in_get (y ∷ xs) (suc k) x is = inr (in_get xs k x is)

pub take_next : {X : Type 0} (k : ℕ) (xs : List X) (x y : X) → slice_get xs k ≡ Some x → IsIn (take (suc k) xs) y → IsIn (take k xs) y ⊎ (x ≡ y)
take_next k [] x y is here = cc
take_next zero (z ∷ xs) x y is (inl same) = inr cc
take_next zero (z ∷ xs) x y is (inr none) = elim none [ ]
take_next (suc k) (z ∷ xs) x y is (inl same) = inl (inl same)
take_next (suc k) (z ∷ xs) x y is (inr here) = elim (take_next k xs x y is here) [
  | inl before ↦ inl (inr before)
  | inr same ↦ inr same
]

pub numbered_within : (kernel : KernelView) (number : ℕ) (clause : List Literal) → IsNumbered (clauses_of kernel) number clause → IsThere kernel number
numbered_within kernel number clause numbered =
    let within : number - 1 < length (clauses_of kernel) = slice_get_within (clauses_of kernel) (number - 1) clause numbered.1 in
    let count : length (clauses_of kernel) ≡ length kernel.entries = length-map kernel.entries (λ (entry : Entry). entry.clause) in
    let some : 0 < number = numbered.0 in
    (some, omega arith)

pub numbered_same : (clauses : List (List Literal)) (number : ℕ) (a b : List Literal) → IsNumbered clauses number a → IsNumbered clauses number b → a ≡ b
numbered_same clauses number a b one two = same (sym one.1 ∙ two.1)
  where
    same : Some a ≡ Some b → a ≡ b
    same e = cc

contains_get : {X : Type 0} (xs : List X) (k : ℕ) (x : X) → slice_get xs k ≡ Some x → Contains xs x
contains_get {X = X} xs k x is = (k, slice_get_within xs k x is, at xs k is)
  where
    at : (ys : List X) (j : ℕ) → slice_get ys j ≡ Some x → get_or ys j x ≡ x
    at [] j none = cc
    at (y ∷ ys) zero here = cc
    at (y ∷ ys) (suc j) here = at ys j here

pub numbered_in : (clauses : List (List Literal)) (number : ℕ) (clause : List Literal) → IsNumbered clauses number clause → Contains clauses clause
numbered_in clauses number clause numbered = contains_get clauses (number - 1) clause numbered.1

partner_twice : (node : ℕ) → partner (partner node) ≡ node
partner_twice node = grind (arith, nat_tests)

partner_apart : (node : ℕ) → partner node ≡ node → ⊥
partner_apart node = grind (arith, nat_tests)

partner_half : (node : ℕ) → partner node / 2 ≡ node / 2
partner_half node = grind (arith, nat_tests)

-- ---- values

pub false_to : (steps : List Step) → AreApart steps → (literal : Literal) (level : ℕ) → IsFalseTo steps literal level → IsFalseIn (values_to level steps) literal
false_to steps apart literal level (step, here, is, low) =
    ap (λ (n : ℕ). option_and_then (sign_to level) (step_of steps n)) (sym (ap (λ (l : Literal). l.variable) is)) ∙
    ap (λ (found : Option Step). option_and_then (sign_to level) found) (found_step steps apart step here) ∙
    low_enough (leb_tells step.level level) ∙ ap (λ (l : Literal). Some l.positive) is
  where
    low_enough : ((leb step.level level ≡ true) × (step.level ≤ level)) ⊎ ((leb step.level level ≡ false) × (level < step.level)) →
        (if leb step.level level then Some step.lit.positive else None) ≡ Some step.lit.positive
    low_enough (inl is) = rw (is.0) refl
    low_enough (inr is) = let above : level < step.level = is.1 in let below : step.level ≤ level = low in absurd (omega arith)

pub false_by : (steps : List Step) → AreApart steps → (literal : Literal) → IsFalseBy steps literal → IsFalseIn (values_of steps) literal
false_by steps apart literal (step, here, is) =
    ap (λ (n : ℕ). option_map sign_of (step_of steps n)) (sym (ap (λ (l : Literal). l.variable) is)) ∙
    ap (λ (found : Option Step). option_map sign_of found) (found_step steps apart step here) ∙ ap (λ (l : Literal). Some l.positive) is

-- what has a value up to a level has it by a step of such a level
valued : (steps : List Step) (level variable : ℕ) (sign : Bool) (found : Option Step) → step_of steps variable ≡ found → values_to level steps variable ≡ Some sign →
    (step : Step) × IsIn steps step × (step.lit.variable ≡ variable) × (step.lit.positive ≡ sign) × (step.level ≤ level)
valued steps level variable sign None found_is is = absurd (nothing (ap (λ (found : Option Step). option_and_then (sign_to level) found) (sym found_is) ∙ is))
  where
    nothing : None ≡ Some sign → ⊥
    nothing e = cc
valued steps level variable sign (Some step) found_is is =
    let there = step_found steps variable step found_is in
    let low = low_enough (leb_tells step.level level) (ap (λ (found : Option Step). option_and_then (sign_to level) found) (sym found_is) ∙ is) in
    (step, there.0, there.1, low.0, low.1)
  where
    low_enough : ((leb step.level level ≡ true) × (step.level ≤ level)) ⊎ ((leb step.level level ≡ false) × (level < step.level)) →
        (if leb step.level level then Some step.lit.positive else None) ≡ Some sign → (step.lit.positive ≡ sign) × (step.level ≤ level)
    low_enough (inl low) given = let e : Some step.lit.positive ≡ Some sign = rw (low.0) at given in (cc, low.1)
    low_enough (inr high) given = let e : None ≡ Some sign = rw (high.0) at given in cc

-- Where all other literals of a clause are false up to a level, the last one is true up to it, or the level is the last one.
module _ (kernel : KernelView) (entries : EntriesView) (sound : AreSound kernel entries) (clause : List Literal) (there : Contains (clauses_of kernel) clause)
    (literal : Literal) (member : Contains clause literal) (level : ℕ) (others : All (IsFalseBut entries.steps literal level) clause) where
  other_false : (other : Literal) → Contains clause other → (other ≡ literal) ⊎ IsFalseIn (values_to level entries.steps) other
  other_false other here = elim (All-contains (IsFalseBut entries.steps literal level) clause other others here) [
    | inl same ↦ inl same
    | inr is ↦ inr (false_to entries.steps sound.are_steps.apart other level is)
  ]

  by_value : IsClosed (values_to level entries.steps) (clauses_of kernel) → (value : Option Bool) → values_to level entries.steps literal.variable ≡ value → IsTrueBy entries.steps literal level
  by_value closed None is = absurd (closed.none_unit clause there (record { left = literal; member = member; open_yet = is; others = other_false }))
  by_value closed (Some sign) is =
      let found = valued entries.steps level literal.variable sign (step_of entries.steps literal.variable) refl is in
      elim (same_or_opposite found.0.lit literal (found.2)) [
        | inl same ↦ (found.0, found.1, same, found.4)
        | inr false_is ↦ absurd (closed.none_failed clause there (λ other here. elim (other_false other here) [
          | inr is_false ↦ is_false
          | inl other_is ↦ subst (λ (l : Literal). IsFalseIn (values_to level entries.steps) l) (sym other_is)
              (false_to entries.steps sound.are_steps.apart literal level (found.0, found.1, false_is, found.4))
        ]))
      ]

  reached : (entries.level_count ≤ level) ⊎ IsTrueBy entries.steps literal level
  reached = elim (leb_tells entries.level_count level) [
    | inl is ↦ inl (is.1)
    | inr low ↦ inr (by_value (sound.settled level (low.1)) (values_to level entries.steps literal.variable) refl)
  ]

  -- so a true one is true up to it
  pub true_to : IsTrueBy entries.steps literal entries.level_count → IsTrueBy entries.steps literal level
  true_to (step, here, is, low) = elim reached [
    | inr found ↦ found
    | inl last ↦ let last_is : entries.level_count ≤ level = last in let low_is : step.level ≤ entries.level_count = low in (step, here, is, omega arith)
  ]

  pub reason_then : (number : ℕ) → IsNumbered (clauses_of kernel) number clause → HasReason (clauses_of kernel) entries.steps literal number
  reason_then number numbered = (
    clause,
    numbered,
    member,
    (λ other here. elim (All-contains (IsFalseBut entries.steps literal level) clause other others here) [
      | inl same ↦ inl same
      | inr is ↦ inr (is.0, is.1, is.2)
    ]),
  )

  pub failed_then : (number : ℕ) → IsNumbered (clauses_of kernel) number clause → IsFalseBy entries.steps literal → IsFailedClause (clauses_of kernel) entries.steps number
  failed_then number numbered false_is = (
    clause,
    numbered,
    (λ other here. elim (All-contains (IsFalseBut entries.steps literal level) clause other others here) [
      | inl same ↦ subst (λ (l : Literal). IsFalseIn (values_of entries.steps) l) (sym same) (false_by entries.steps sound.are_steps.apart literal false_is)
      | inr is ↦ false_by entries.steps sound.are_steps.apart other (is.0, is.1, is.2)
    ]),
  )

-- ---- the visit of a node

module _ (kernel : KernelView) (longs : List ℕ) (place : ℕ) (step : Step) (entries : EntriesView) (links : LinksView)
    (visiting : IsVisiting kernel longs place step entries links) (node : ℕ) (begins : BeginsWith links.ahead node) where
  mine : (node < length links.watched) × (watched_at links.watched node ≡ opposite step.lit)
  mine = visiting.ahead node (rw (begins.1) (inl refl))

  pub low : node < length links.watched
  low = mine.0

  pub partner_low : (k : ℕ) → k < length links.watched → partner k < length links.watched
  partner_low k within =
      let nodes = visiting.watched.nodes in
      let below = partner_below k (length longs) (omega arith) in
      omega (arith, below)

  pub half_low : node / 2 < length longs
  half_low = let nodes = visiting.watched.nodes in half_below node (length longs) (let here = low in omega arith)

  pub watching : Watches (clauses_of kernel) entries.steps (number_of longs node) links.watched node
  watching = visiting.watched.watching node low

  pub there : IsThere kernel (number_of longs node)
  there = numbered_within kernel (number_of longs node) watching.clause watching.numbered

  step_in : IsIn entries.steps step
  step_in = in_take (suc place) entries.steps step (in_get entries.steps place step visiting.here)

  are : AreSteps entries.variables entries.steps entries.level_count
  are = visiting.sound.are_steps

  pub fallen_at : IsFalseAt entries.steps (opposite step.lit) step.level
  fallen_at = (step, step_in, sym (opposite_twice step.lit), refl)

  -- the watched literals differ, since this one is false
  really_apart : watched_at links.watched node ≢ watched_at links.watched (partner node)
  really_apart = elim watching.apart [
    | inl apart ↦ apart
    | inr true_is ↦
        let lit_is : true_is.0.lit ≡ opposite step.lit = true_is.2 ∙ mine.1 in
        let step_is : true_is.0 ≡ step = same_step entries.steps are.apart true_is.0 step true_is.1 step_in (ap (λ (l : Literal). l.variable) lit_is) in
        absurd (not_opposite step.lit (ap (λ (t : Step). t.lit) (sym step_is) ∙ lit_is))
  ]

  -- no step made the other one false
  other_not_false : (s : Step) → IsIn (take (suc place) entries.steps) s → s.lit ≡ opposite (watched_at links.watched (partner node)) → ⊥
  other_not_false s here is = elim (take_next place entries.steps step s visiting.here here) [
    | inr same ↦ really_apart (mine.1 ∙ ap (λ (t : Step). opposite t.lit) same ∙ ap opposite is ∙ opposite_twice (watched_at links.watched (partner node)))
    | inl before ↦
        let true_is = visiting.watched.watches (partner node) (partner_low node low) s before is in
        let lit_is : true_is.0.lit ≡ opposite step.lit = true_is.2 ∙ ap (λ (k : ℕ). watched_at links.watched k) (partner_twice node) ∙ mine.1 in
        let step_is : true_is.0 ≡ step = same_step entries.steps are.apart true_is.0 step true_is.1 step_in (ap (λ (l : Literal). l.variable) lit_is) in
        not_opposite step.lit (ap (λ (t : Step). t.lit) (sym step_is) ∙ lit_is)
  ]

  module _ (clause : List Literal) (numbered : IsNumbered (clauses_of kernel) (number_of longs node) clause) where
    clause_is : watching.clause ≡ clause
    clause_is = numbered_same (clauses_of kernel) (number_of longs node) watching.clause clause watching.numbered numbered

    pub fallen_in : Contains clause (opposite step.lit)
    fallen_in = subst (λ (c : List Literal). Contains c (opposite step.lit)) clause_is (subst (λ (l : Literal). Contains watching.clause l) (mine.1) watching.here)

    pub in_watching : (literal : Literal) → Contains clause literal → Contains watching.clause literal
    in_watching literal member = subst (λ (c : List Literal). Contains c literal) (sym clause_is) member

    pub other_in : Contains clause (watched_at links.watched (partner node))
    other_in = subst (λ (c : List Literal). Contains c (watched_at links.watched (partner node))) clause_is watching.there

  pub fallen_apart : opposite step.lit ≢ watched_at links.watched (partner node)
  fallen_apart e = really_apart (mine.1 ∙ e)

  -- the node watches this literal from now on
  module _ (once : IsIn (drop 1 links.ahead) node → ⊥) (literal : Literal) (member : Contains watching.clause literal)
      (apart : (literal ≢ watched_at links.watched (partner node)) ⊎
      ((literal ≡ watched_at links.watched (partner node)) × IsTrueBy entries.steps (watched_at links.watched (partner node)) 0))
      (right : (s : Step) → IsIn (take (suc place) entries.steps) s → s.lit ≡ opposite literal → IsTrueBy entries.steps (watched_at links.watched (partner node)) s.level) where
    at_node : watched_at (set links.watched node literal) node ≡ literal
    at_node = get_or-set_same links.watched node literal no_literal low

    at_other : (k : ℕ) → k ≢ node → watched_at (set links.watched node literal) k ≡ watched_at links.watched k
    at_other k other = get_or-set_other links.watched node k literal no_literal other

    at_partner : watched_at (set links.watched node literal) (partner node) ≡ watched_at links.watched (partner node)
    at_partner = at_other (partner node) (partner_apart node)

    partner_other : (k : ℕ) → k ≢ partner node → partner k ≢ node
    partner_other k other e = other (sym (partner_twice k) ∙ ap partner e)

    watching_then : (k : ℕ) → k < length links.watched → Watches (clauses_of kernel) entries.steps (number_of longs k) (set links.watched node literal) k
    watching_then k within = elim (eqb_tells k node) [
      | inl same ↦ rw (same.1) (record {
        clause = watching.clause;
        numbered = watching.numbered;
        here = rw at_node member;
        there = rw at_partner watching.there;
        apart = rw (at_node, at_partner) (elim apart [
          | inl differ ↦ inl differ
          | inr same_too ↦ inr (rw (same_too.0) (same_too.1))
        ]);
      })
      | inr other ↦ elim (eqb_tells k (partner node)) [
        | inl same ↦ rw (same.1) (record {
          clause = watching.clause;
          numbered = rw (partner_half node) watching.numbered;
          here = rw at_partner watching.there;
          there = rw (partner_twice node, at_node) member;
          apart = rw (partner_twice node, at_node, at_partner) (elim apart [
            | inl differ ↦ inl (λ e. differ (sym e))
            | inr same_too ↦ inr (same_too.1)
          ]);
        })
        | inr far ↦
            let before = visiting.watched.watching k within in
            record {
              clause = before.clause;
              numbered = before.numbered;
              here = rw (at_other k (other.1)) before.here;
              there = rw (at_other (partner k) (partner_other k (far.1))) before.there;
              apart = rw (at_other k (other.1), at_other (partner k) (partner_other k (far.1))) before.apart;
            }
      ]
    ]

    watches_then : (visited : List Step) → ((s : Step) → IsIn visited s → IsIn (take (suc place) entries.steps) s) → (k : ℕ) → k < length links.watched →
        (k ≢ node → k ≢ partner node → IsWatched visited entries.steps links.watched k) → IsWatched visited entries.steps (set links.watched node literal) k
    watches_then visited within k low before = elim (eqb_tells k node) [
      | inl same ↦ rw (same.1) (λ s here is. rw at_partner (right s (within s here) (is ∙ ap opposite at_node)))
      | inr other ↦ elim (eqb_tells k (partner node)) [
        | inl same ↦ rw (same.1) (λ s here is. absurd (other_not_false s (within s here) (is ∙ ap opposite at_partner)))
        | inr far ↦ λ s here is.
            rw (at_other (partner k) (partner_other k (far.1))) (before (other.1) (far.1) s here (is ∙ ap opposite (at_other k (other.1))))
      ]
    ]

    rest_is : drop 1 links.ahead ≡ begins.0
    rest_is = rw (begins.1) refl

    count : length (set links.watched node literal) ≡ length links.watched
    count = length-set links.watched node literal

    done_then : (k : ℕ) → k < length links.watched →
        IsIn (drop 1 links.ahead) k ⊎ IsWatched (take (suc place) entries.steps) entries.steps (set links.watched node literal) k
    done_then k within = elim (visiting.done k within) [
      | inr is ↦ inr (watches_then (take (suc place) entries.steps) (λ s here. here) k within (λ a b. is))
      | inl here ↦ elim (subst (λ (ks : List ℕ). IsIn ks k) (begins.1) here) [
        | inl same ↦ inr (watches_then (take (suc place) entries.steps) (λ s here. here) k within (λ a b. absurd (a (sym same))))
        | inr rest ↦ inl (subst (λ (ks : List ℕ). IsIn ks k) (sym rest_is) rest)
      ]
    ]

    taken_then : (k : ℕ) → IsIn (drop 1 links.ahead) k → (k < length links.watched) × (watched_at (set links.watched node literal) k ≡ opposite step.lit)
    taken_then k here =
        let before = visiting.ahead k (rw (begins.1) (inr (subst (λ (ks : List ℕ). IsIn ks k) rest_is here))) in
        (before.0, at_other k (λ e. once (subst (λ (j : ℕ). IsIn (drop 1 links.ahead) j) e here)) ∙ before.1)

    pub moved : IsVisiting kernel longs place step entries (record links { watched = set links.watched node literal; ahead = drop 1 links.ahead })
    moved = record {
      sound = visiting.sound;
      watched = record {
        variables = visiting.watched.variables;
        within = visiting.watched.within;
        nodes = count ∙ visiting.watched.nodes;
        watching = λ k within. watching_then k (subst (λ (n : ℕ). k < n) count within);
        watches = λ k within. let old_within = subst (λ (n : ℕ). k < n) count within in
            watches_then (take place entries.steps) (λ s here. take_fewer_in place (suc place) entries.steps s (omega arith) here) k old_within
            (λ a b. visiting.watched.watches k old_within);
      };
      here = visiting.here;
      ahead = λ k here. let is = taken_then k here in (subst (λ (n : ℕ). k < n) (sym count) (is.0), is.1);
      done = λ k within. done_then k (subst (λ (n : ℕ). k < n) count within);
    }

  -- the literals that it may watch

  kept_right : IsTrueBy entries.steps (watched_at links.watched (partner node)) step.level →
      (s : Step) → IsIn (take (suc place) entries.steps) s → s.lit ≡ opposite (opposite step.lit) → IsTrueBy entries.steps (watched_at links.watched (partner node)) s.level
  kept_right is s here lit_is =
      let same = same_step entries.steps are.apart s step (in_take (suc place) entries.steps s here) step_in (ap (λ (l : Literal). l.variable) lit_is) in
      subst (λ (t : Step). IsTrueBy entries.steps (watched_at links.watched (partner node)) t.level) (sym same) is

  -- the node goes on to watch the false one, where the other one is true
  module _ (other : Literal) (other_is : other ≡ watched_at links.watched (partner node)) (true_is : IsTrueBy entries.steps other step.level) where
    passed_right : IsWatched (take (suc place) entries.steps) entries.steps links.watched node
    passed_right s here lit_is =
        kept_right (subst (λ (l : Literal). IsTrueBy entries.steps l step.level) other_is true_is) s here (lit_is ∙ ap opposite (mine.1))

    behind : drop 1 links.ahead ≡ begins.0
    behind = rw (begins.1) refl

    done_passed : (k : ℕ) → k < length links.watched → IsIn (drop 1 links.ahead) k ⊎ IsWatched (take (suc place) entries.steps) entries.steps links.watched k
    done_passed k within = elim (visiting.done k within) [
      | inr is ↦ inr is
      | inl here ↦ elim (subst (λ (ks : List ℕ). IsIn ks k) (begins.1) here) [
        | inl same ↦ inr (subst (λ (j : ℕ). IsWatched (take (suc place) entries.steps) entries.steps links.watched j) same passed_right)
        | inr rest ↦ inl (subst (λ (ks : List ℕ). IsIn ks k) (sym behind) rest)
      ]
    ]

    pub passed_then : (new : LinksView) → ◌≡◌ {A = LinksView} new (record links { ahead = drop 1 links.ahead }) → IsVisiting kernel longs place step entries new
    passed_then new new_is = rw new_is (record {
      sound = visiting.sound;
      watched = record {
        variables = visiting.watched.variables;
        within = visiting.watched.within;
        nodes = visiting.watched.nodes;
        watching = visiting.watched.watching;
        watches = visiting.watched.watches;
      };
      here = visiting.here;
      ahead = λ k here. visiting.ahead k (rw (begins.1) (inr (subst (λ (ks : List ℕ). IsIn ks k) behind here)));
      done = done_passed;
    })

  pub fallen_right : (literal : Literal) (level : ℕ) → IsFalseAt entries.steps literal level → IsTrueBy entries.steps (watched_at links.watched (partner node)) level →
      (s : Step) → IsIn (take (suc place) entries.steps) s → s.lit ≡ opposite literal → IsTrueBy entries.steps (watched_at links.watched (partner node)) s.level
  fallen_right literal level (at, at_in, at_is, level_is) true_is s here lit_is =
      let same = same_step entries.steps are.apart s at (in_take (suc place) entries.steps s here) at_in (ap (λ (l : Literal). l.variable) (lit_is ∙ sym at_is)) in
      subst (λ (n : ℕ). IsTrueBy entries.steps (watched_at links.watched (partner node)) n) (sym level_is ∙ ap (λ (t : Step). t.level) (sym same)) true_is

  pub open_right : (literal : Literal) → (IsFalseBy entries.steps literal → ⊥) →
      (s : Step) → IsIn (take (suc place) entries.steps) s → s.lit ≡ opposite literal → IsTrueBy entries.steps (watched_at links.watched (partner node)) s.level
  open_right literal not_false s here lit_is = absurd (not_false (s, in_take (suc place) entries.steps s here, lit_is))

  -- the other one was to be made true, by this clause

  module _ (other : Literal) (other_is : other ≡ watched_at links.watched (partner node)) (clause : List Literal)
      (numbered : IsNumbered (clauses_of kernel) (number_of longs node) clause) (level : ℕ) (others : All (IsFalseBut entries.steps other level) clause)
      (new : EntriesView) (grown : AreGrown entries new)
      (makes : HasReason (clauses_of kernel) entries.steps other (number_of longs node) → AreSound kernel entries → AreSound kernel new) where
    among : Contains (clauses_of kernel) clause
    among = numbered_in (clauses_of kernel) (number_of longs node) clause numbered

    member_then : Contains clause other
    member_then = subst (λ (l : Literal). Contains clause l) (sym other_is) (other_in clause numbered)

    sound_then : AreSound kernel new
    sound_then = makes (reason_then kernel entries visiting.sound clause among other member_then level others (number_of longs node) numbered) visiting.sound

    pub visiting_then : IsVisiting kernel longs place step new links
    visiting_then = visiting_grown kernel longs place step entries new links grown sound_then visiting

    pub others_then : All (IsFalseBut new.steps other level) clause
    others_then = grown_but entries new grown other level clause others

    pub failed_here : IsFalseBy new.steps other → IsFailedClause (clauses_of kernel) new.steps (number_of longs node)
    failed_here false_is = failed_then kernel new sound_then clause among other member_then level others_then (number_of longs node) numbered false_is

  -- what is there after each of the ways to put it

  module _ (once : IsIn (drop 1 links.ahead) node → ⊥) (other : Literal) (other_is : other ≡ watched_at links.watched (partner node)) (literal : Literal) (new : LinksView)
      (new_is : ◌≡◌ {A = LinksView} new (record links { watched = set links.watched node literal; ahead = drop 1 links.ahead })) where
    -- both watch the other one from now on, which is true at level 0
    pub gone_then : literal ≡ other → IsTrueBy entries.steps other 0 → IsVisiting kernel longs place step entries new
    gone_then is true_is =
        let here : IsTrueBy entries.steps (watched_at links.watched (partner node)) 0 = subst (λ (l : Literal). IsTrueBy entries.steps l 0) other_is true_is in
        rw (new_is, is, other_is)
        (moved once (watched_at links.watched (partner node)) watching.there (inr (refl, here)) (λ s _ _. raised s.level here))
      where
        raised : (level : ℕ) → IsTrueBy entries.steps (watched_at links.watched (partner node)) 0 → IsTrueBy entries.steps (watched_at links.watched (partner node)) level
        raised level (t, among, lit_is, low) = (t, among, lit_is, omega (arith, low))

    module _ (clause : List Literal) (numbered : IsNumbered (clauses_of kernel) (number_of longs node) clause) (member : Contains clause literal) (apart : literal ≢ other) where
      apart_here : literal ≢ watched_at links.watched (partner node)
      apart_here e = apart (e ∙ sym other_is)

      pub open_then : (IsFalseBy entries.steps literal → ⊥) → IsVisiting kernel longs place step entries new
      open_then not_false = rw new_is (moved once literal (in_watching clause numbered literal member) (inl apart_here) (open_right literal not_false))

      pub fallen_then : (level : ℕ) → IsFalseAt entries.steps literal level → All (IsFalseBut entries.steps other level) clause → IsTrueBy entries.steps other entries.level_count →
          IsVisiting kernel longs place step entries new
      fallen_then level fallen others true_is = rw new_is
          (moved once literal (in_watching clause numbered literal member) (inl apart_here)
          (fallen_right literal level fallen
          (subst (λ (l : Literal). IsTrueBy entries.steps l level) other_is
          (true_to kernel entries visiting.sound clause (numbered_in (clauses_of kernel) (number_of longs node) clause numbered) other
          (subst (λ (l : Literal). Contains clause l) (sym other_is) (other_in clause numbered)) level others true_is))))
