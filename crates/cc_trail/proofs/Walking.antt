-- Walks: over the nodes that watch a literal, over the steps, and over the clauses of fewer than two literals.
use Rattle.std.proofs.Common.{◌≡◌, ◌∙◌, ℕ, ◌+◌, ◌<◌, zero, suc, inl, inr, List, [], ◌∷◌, length, take, Some, sym, subst, ap, arith}
use Rattle.std.specs.Prelude.{◌⊎◌, Contains, slice_get}
use Rattle.std.proofs.lemmas.Option.{slice_get_within}
use Rattle.cc_defs.specs.Clauses.{Literal, opposite, IsNumbered, IsIn, IsLiteralOver}
use Rattle.cc_kernel.specs.Kernels.{KernelView, clauses_of}
use Rattle.cc_trail.specs.declared.entries.Step.{Step}
use Rattle.cc_trail.specs.Links.{LinksView, AreAhead, watched_at}
use Rattle.cc_trail.specs.Steps.{EntriesView}
use Rattle.cc_trail.specs.Watches.{IsFalseBy, IsWatched, HasReason, IsShort}
use Rattle.cc_trail.specs.Trails.{IsFailedClause}
use Rattle.cc_trail.specs.Visits.{AreSound, AreGrown, AreWatched, IsVisiting, IsMet}
use Rattle.cc_trail.proofs.StepLists.{in_take}
use Rattle.cc_trail.proofs.Growing.{opposite_twice, literals_tell, grown_in}
use Rattle.cc_trail.proofs.Visiting.{in_get, take_next, numbered_same, false_by}

-- ---- a step is visited

module _ (kernel : KernelView) (longs : List ℕ) (place : ℕ) (step : Step) (entries : EntriesView) (here : slice_get entries.steps place ≡ Some step) where
  pub fallen_over : (variables : ℕ) → AreSound kernel entries → variables ≡ kernel.variables → IsLiteralOver variables (opposite step.lit)
  fallen_over variables sound is = rw (is ∙ sym sound.variables) (sound.are_steps.over step (in_take (suc place) entries.steps step (in_get entries.steps place step here)))

  module _ (old new : LinksView) (sound : AreSound kernel entries) (watched : AreWatched kernel longs place entries old) (begun : AreAhead old new (opposite step.lit)) where
    again : AreWatched kernel longs place entries new
    again = record {
      variables = begun.variables ∙ watched.variables;
      within = watched.within;
      nodes = ap length begun.watched ∙ watched.nodes;
      watching = rw begun.watched watched.watching;
      watches = rw begun.watched watched.watches;
    }

    done_yet : (node : ℕ) → node < length old.watched → IsIn new.ahead node ⊎ IsWatched (take (suc place) entries.steps) entries.steps old.watched node
    done_yet node low = elim (literals_tell (watched_at old.watched node) (opposite step.lit)) [
      | inl same ↦ inl ((begun.nodes node).1 (low, same))
      | inr other ↦ inr (λ s among is. elim (take_next place entries.steps step s here among) [
        | inl before ↦ watched.watches node low s before is
        | inr same ↦ absurd (other (sym (opposite_twice (watched_at old.watched node)) ∙ ap opposite (sym is) ∙ ap (λ (t : Step). opposite t.lit) (sym same)))
      ])
    ]

    pub visit_begins : IsVisiting kernel longs place step entries new
    visit_begins = record {
      sound = sound;
      watched = again;
      here = here;
      ahead = rw begun.watched (λ node among. (begun.nodes node).0 among);
      done = rw begun.watched done_yet;
    }

pub put_watched : (kernel : KernelView) (longs : List ℕ) (place : ℕ) (entries : EntriesView) (old new : LinksView) → ◌≡◌ {A = LinksView} new (record old { ahead = [] }) →
    AreWatched kernel longs place entries old → AreWatched kernel longs place entries new
put_watched kernel longs place entries old new is watched = rw is (record {
  variables = watched.variables;
  within = watched.within;
  nodes = watched.nodes;
  watching = watched.watching;
  watches = watched.watches;
})

pub visit_ends : (kernel : KernelView) (longs : List ℕ) (place : ℕ) (step : Step) (entries : EntriesView) (links : LinksView) →
    IsVisiting kernel longs place step entries links → links.ahead ≡ [] → AreWatched kernel longs (place + 1) entries links
visit_ends kernel longs place step entries links visiting none =
    let within = slice_get_within entries.steps place step visiting.here in
    let next : suc place ≡ place + 1 = omega arith in
    record {
      variables = visiting.watched.variables;
      within = omega arith;
      nodes = visiting.watched.nodes;
      watching = visiting.watched.watching;
      watches = λ node low. elim (visiting.done node low) [
        | inl here ↦ elim (subst (λ (ks : List ℕ). IsIn ks node) none here) [ ]
        | inr is ↦ subst (λ (n : ℕ). IsWatched (take n entries.steps) entries.steps links.watched node) next is
      ];
    }

-- ---- clauses of fewer than two literals

pub short_reason : (clauses : List (List Literal)) (steps : List Step) (number : ℕ) (clause : List Literal) (literal : Literal) → IsNumbered clauses number clause →
    length clause < 2 → slice_get clause 0 ≡ Some literal → HasReason clauses steps literal number × Contains clause literal × ((other : Literal) → Contains clause other → other ≡ literal)
short_reason clauses steps number [] literal numbered short is = cc
short_reason clauses steps number (a ∷ b ∷ clause) literal numbered short is = absurd (omega (arith, short))
short_reason clauses steps number (a ∷ []) literal numbered short is =
    ((a ∷ [], numbered, member, (λ other there. inl (only other there))), member, only)
  where
    same : a ≡ literal
    same = cc

    member : Contains (a ∷ []) literal
    member = (0, omega arith, same)

    only : (other : Literal) → Contains (a ∷ []) other → other ≡ literal
    only other (zero, within, at) = sym at ∙ same
    only other (suc k, within, at) = absurd (omega (arith, within))

pub short_true : (kernel : KernelView) (steps : List Step) (number : ℕ) (clause : List Literal) (literal : Literal) → IsShort (clauses_of kernel) number →
    IsNumbered (clauses_of kernel) number clause → slice_get clause 0 ≡ Some literal → HasReason (clauses_of kernel) steps literal number × Contains clause literal
short_true kernel steps number clause literal (other, other_numbered, short) numbered is =
    let it = short_reason (clauses_of kernel) steps number clause literal numbered
    (subst (λ (ls : List Literal). length ls < 2) (numbered_same (clauses_of kernel) number other clause other_numbered numbered) short) is in
    (it.0, it.1)

pub short_failed : (kernel : KernelView) (old new : EntriesView) (number : ℕ) (clause : List Literal) (literal : Literal) → AreSound kernel old →
    (HasReason (clauses_of kernel) old.steps literal number → AreSound kernel old → AreSound kernel new) →
    IsShort (clauses_of kernel) number → IsNumbered (clauses_of kernel) number clause → slice_get clause 0 ≡ Some literal → IsFalseBy new.steps literal →
    IsFailedClause (clauses_of kernel) new.steps number
short_failed kernel old new number clause literal sound makes (other, other_numbered, short) numbered is false_is =
    let same = numbered_same (clauses_of kernel) number other clause other_numbered numbered in
    let here = short_reason (clauses_of kernel) old.steps number clause literal numbered (subst (λ (c : List Literal). length c < 2) same short) is in
    let then_sound = makes (here.0) sound in
    (clause, numbered, (λ l among. false_by new.steps then_sound.are_steps.apart l (subst (λ (x : Literal). IsFalseBy new.steps x) (sym (here.2 l among)) false_is)))

pub met_grown : (clauses : List (List Literal)) (old new : EntriesView) (number : ℕ) → AreGrown old new → IsMet clauses old.steps number → IsMet clauses new.steps number
met_grown clauses old new number grown (clause, numbered, literal, member, step, here, is) = (clause, numbered, literal, member, step, grown_in old new grown step here, is)

pub met_more : (clauses : List (List Literal)) (shorts : List ℕ) (index number : ℕ) (old new : EntriesView) → slice_get shorts index ≡ Some number → AreGrown old new →
    ((k : ℕ) → IsIn (take index shorts) k → IsMet clauses old.steps k) → IsMet clauses new.steps number → (k : ℕ) → IsIn (take (index + 1) shorts) k → IsMet clauses new.steps k
met_more clauses shorts index number old new is grown before last k here =
    let next : index + 1 ≡ suc index = omega arith in
    elim (take_next index shorts number k is (subst (λ (n : ℕ). IsIn (take n shorts) k) next here)) [
      | inl among ↦ met_grown clauses old new k grown (before k among)
      | inr same ↦ subst (λ (j : ℕ). IsMet clauses new.steps j) same last
    ]
