-- Steps more, made by propagation: what is true, false, sound and watched stays so.
use Rattle.std.proofs.Common.{◌≡◌, ◌≢◌, ◌∙◌, ℕ, ◌≤◌, suc, inl, inr, Bool, true, false, not, List, [], ◌∷◌, ◌++◌, length, take, Some, None, refl, sym, subst, ap, arith, length-append, append_assoc, append-nil}
use Rattle.std.specs.Prelude.{◌⊎◌, All, slice_get}
use Rattle.std.specs.List.{AllByRecursion}
use Rattle.std.proofs.lemmas.Bool.Decides.{eqb_tells}
use Rattle.std.proofs.lemmas.List.Elements.{All-weaker}
use Rattle.std.proofs.lemmas.Option.{slice_get_within}
use Rattle.cc_defs.specs.Clauses.{Literal, opposite, IsIn, IsLiteralOver}
use Rattle.cc_kernel.specs.Kernels.{KernelView, clauses_of}
use Rattle.cc_trail.specs.declared.entries.Step.{Step}
use Rattle.cc_trail.specs.Links.{LinksView, watched_at}
use Rattle.cc_trail.specs.Pairs.{PairsView, AreFollowed}
use Rattle.cc_trail.specs.Steps.{EntriesView, step_of, values_to}
use Rattle.cc_trail.specs.Watches.{IsTrueBy, IsWatched, Watches, HasReason, partner}
use Rattle.cc_trail.specs.Trails.{IsPropagatedAt, number_of}
use Rattle.cc_trail.specs.Visits.{IsFalseAt, IsFalseBut, AreSound, AreGrown, AreWatched, IsVisiting}
use Rattle.cc_trail.proofs.StepLists.{in_left, in_right, steps_push}
use Rattle.cc_trail.proofs.Values.{closed_same, to_front, only_high, reasoned_push, true_more, watches_more, followed_more, take_left}
use Rattle.cc_trail.proofs.Adding.{get_append}

-- ---- literals

pub opposite_twice : (literal : Literal) → opposite (opposite literal) ≡ literal
opposite_twice literal = ap (λ (sign : Bool). let w : Literal = record literal { positive = sign } in w) (twice literal.positive)
  where
    twice : (b : Bool) → not (not b) ≡ b
    twice true = refl
    twice false = refl

pub literal_is : (a b : Literal) → a.variable ≡ b.variable → a.positive ≡ b.positive → a ≡ b
literal_is a b variable sign =
    ap (λ (n : ℕ). let w : Literal = record a { variable = n } in w) variable ∙ ap (λ (s : Bool). let w : Literal = record b { positive = s } in w) sign

signs : (p q : Bool) → (p ≡ q) ⊎ (p ≡ not q)
signs true true = inl refl
signs true false = inr refl
signs false true = inr refl
signs false false = inl refl

no_opposite : (b : Bool) → b ≡ not b → ⊥
no_opposite true e = cc
no_opposite false e = cc

pub not_opposite : (literal : Literal) → literal ≡ opposite literal → ⊥
not_opposite literal e = no_opposite literal.positive (ap (λ (l : Literal). l.positive) e)

pub same_or_opposite : (a b : Literal) → a.variable ≡ b.variable → (a ≡ b) ⊎ (a ≡ opposite b)
same_or_opposite a b variable = elim (signs a.positive b.positive) [
  | inl same ↦ inl (literal_is a b variable same)
  | inr other ↦ inr (literal_is a (opposite b) variable other)
]

pub literals_tell : (a b : Literal) → (a ≡ b) ⊎ (a ≢ b)
literals_tell a b = elim (eqb_tells a.variable b.variable) [
  | inr other ↦ inr (λ e. other.1 (ap (λ (l : Literal). l.variable) e))
  | inl variable ↦ elim (same_or_opposite a b (variable.1)) [
    | inl same ↦ inl same
    | inr is ↦ inr (λ e. not_opposite b (sym e ∙ is))
  ]
]

-- ---- more steps

each_append : (P : Step → Type 0) (xs ys : List Step) → AllByRecursion P xs → AllByRecursion P ys → AllByRecursion P (xs ++ ys)
each_append P [] ys one two = two
each_append P (x ∷ xs) ys one two = (one.0, each_append P xs ys one.1 two)

pub grown_none : (entries : EntriesView) → AreGrown entries entries
grown_none entries = record { more = []; steps = sym (append-nil entries.steps); each = tt; variables = refl; level_count = refl }

pub grown_then : (a b c : EntriesView) → AreGrown a b → AreGrown b c → AreGrown a c
grown_then a b c one two = record {
  more = one.more ++ two.more;
  steps = two.steps ∙ ap (λ (steps : List Step). steps ++ two.more) one.steps ∙ append_assoc a.steps one.more two.more;
  each = each_append (IsPropagatedAt a.level_count) one.more two.more one.each
      (subst (λ (n : ℕ). AllByRecursion (IsPropagatedAt n) two.more) one.level_count two.each);
  variables = two.variables ∙ one.variables;
  level_count = two.level_count ∙ one.level_count;
}

pub grown_in : (old new : EntriesView) → AreGrown old new → (step : Step) → IsIn old.steps step → IsIn new.steps step
grown_in old new grown step here = subst (λ (steps : List Step). IsIn steps step) (sym grown.steps) (in_left old.steps grown.more step here)

pub grown_at : (old new : EntriesView) → AreGrown old new → (literal : Literal) (level : ℕ) → IsFalseAt old.steps literal level → IsFalseAt new.steps literal level
grown_at old new grown literal level (step, here, is, level_is) = (step, grown_in old new grown step here, is, level_is)

pub grown_but : (old new : EntriesView) → AreGrown old new → (except : Literal) (level : ℕ) (clause : List Literal) →
    All (IsFalseBut old.steps except level) clause → All (IsFalseBut new.steps except level) clause
grown_but old new grown except level clause all =
    All-weaker (IsFalseBut old.steps except level) (IsFalseBut new.steps except level) (λ literal is. still literal is) clause all
  where
    still : (literal : Literal) → IsFalseBut old.steps except level literal → IsFalseBut new.steps except level literal
    still literal (inl same) = inl same
    still literal (inr (step, here, is, low)) = inr (step, grown_in old new grown step here, is, low)

pub watched_more : (n : ℕ) (old new : EntriesView) → AreGrown old new → n ≤ length old.steps → (watched : List Literal) (node : ℕ) →
    IsWatched (take n old.steps) old.steps watched node → IsWatched (take n new.steps) new.steps watched node
watched_more n old new grown within watched node is = subst (λ (steps : List Step). IsWatched (take n steps) steps watched node) (sym grown.steps)
    (λ step here false_is. true_more old.steps grown.more (watched_at watched (partner node)) step.level
    (is step (subst (λ (steps : List Step). IsIn steps step) (take_left n old.steps grown.more within) here) false_is))

pub followed_grown : (pairs : PairsView) (n : ℕ) (old new : EntriesView) → AreGrown old new → n ≤ length old.steps → AreFollowed pairs (take n old.steps) old.steps →
    AreFollowed pairs (take n new.steps) new.steps
followed_grown pairs n old new grown within followed = subst (λ (steps : List Step). AreFollowed pairs (take n steps) steps) (sym grown.steps)
    (followed_more pairs n old.steps grown.more within followed)

pub watched_grown : (kernel : KernelView) (longs : List ℕ) (visited : ℕ) (old new : EntriesView) (links : LinksView) →
    AreGrown old new → AreWatched kernel longs visited old links → AreWatched kernel longs visited new links
watched_grown kernel longs visited old new links grown watched = record {
  variables = watched.variables;
  within = let before = watched.within in omega (arith, ap length grown.steps, length-append old.steps grown.more);
  nodes = watched.nodes;
  watching = λ node low. subst (λ (steps : List Step). Watches (clauses_of kernel) steps (number_of longs node) links.watched node) (sym grown.steps)
      (watches_more (clauses_of kernel) old.steps grown.more (number_of longs node) links.watched node (watched.watching node low));
  watches = λ node low. watched_more visited old new grown watched.within links.watched node (watched.watches node low);
}

pub visiting_grown : (kernel : KernelView) (longs : List ℕ) (place : ℕ) (step : Step) (old new : EntriesView) (links : LinksView) →
    AreGrown old new → AreSound kernel new → IsVisiting kernel longs place step old links → IsVisiting kernel longs place step new links
visiting_grown kernel longs place step old new links grown sound visiting = record {
  sound = sound;
  watched = watched_grown kernel longs place old new links grown visiting.watched;
  here = subst (λ (steps : List Step). slice_get steps place ≡ Some step) (sym grown.steps) (get_append old.steps grown.more place step visiting.here);
  ahead = visiting.ahead;
  done = λ node low. elim (visiting.done node low) [
    | inl here ↦ inl here
    | inr is ↦
        let within = slice_get_within old.steps place step visiting.here in
        inr (watched_more (suc place) old new grown (omega arith) links.watched node is)
  ];
}

-- ---- one more step

abbrev pub pushed : EntriesView → Literal → ℕ → EntriesView
pushed entries literal number = record entries { steps = entries.steps ++ (record { lit = literal; level = entries.level_count; reason = Some number }) ∷ [] }

pub grown_push : (entries : EntriesView) (literal : Literal) (number : ℕ) → AreGrown entries (pushed entries literal number)
grown_push entries literal number = record {
  more = (record { lit = literal; level = entries.level_count; reason = Some number }) ∷ [];
  steps = refl;
  each = ((refl, number, refl), tt);
  variables = refl;
  level_count = refl;
}

some_same : (a b : ℕ) → Some a ≡ Some b → a ≡ b
some_same a b e = cc

pub sound_push : (kernel : KernelView) (entries : EntriesView) (literal : Literal) (number : ℕ) → IsLiteralOver entries.variables literal →
    step_of entries.steps literal.variable ≡ None → HasReason (clauses_of kernel) entries.steps literal number → AreSound kernel entries →
    AreSound kernel (pushed entries literal number)
sound_push kernel entries literal number over none reason sound =
    record {
      variables = sound.variables;
      are_steps = steps_push entries.variables entries.level_count entries.steps (record { lit = literal; level = entries.level_count; reason = Some number }) sound.are_steps over none (inl refl);
      reasons = reasoned_push (clauses_of kernel) [] entries.steps (record { lit = literal; level = entries.level_count; reason = Some number }) sound.reasons
          (λ other is. subst (λ (n : ℕ). HasReason (clauses_of kernel) entries.steps literal n) (some_same number other is) reason);
      settled = λ level low.
          closed_same (values_to level entries.steps) (values_to level (entries.steps ++ (record { lit = literal; level = entries.level_count; reason = Some number }) ∷ [])) (clauses_of kernel)
          (to_front level entries.steps ((record { lit = literal; level = entries.level_count; reason = Some number }) ∷ [])
          (only_high level (record { lit = literal; level = entries.level_count; reason = Some number }) low)) (sound.settled level low);
    }

pub push_true : (entries : EntriesView) (literal : Literal) (number : ℕ) → IsTrueBy (pushed entries literal number).steps literal entries.level_count
push_true entries literal number =
    (record { lit = literal; level = entries.level_count; reason = Some number }, in_right entries.steps _ _ (inl refl), refl, omega arith)
