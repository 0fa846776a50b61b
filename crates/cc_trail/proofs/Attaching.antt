-- One clause more is attached: the fit stays.
use Rattle.std.proofs.Common.{◌≡◌, ◌≢◌, ◌∙◌, ℕ, ◌+◌, ◌*◌, ◌/◌, ◌<◌, ◌≤◌, zero, suc, inl, inr, true, false, List, [], ◌∷◌, ◌++◌, length, get_or, take, Result, Ok, Err, sym, subst, ap, arith, length-append}
use Rattle.std.specs.Prelude.{◌⊎◌, OnOk, All, Contains}
use Rattle.std.proofs.lemmas.Bool.Decides.{eqb_tells, leb_tells, nat_tests}
use Rattle.std.proofs.lemmas.List.{get_or-take, length-map, length-take, get_or_append_left, get_or-append-add, take-append-le}
use Rattle.std.proofs.lemmas.List.Elements.{All-nil, All-cons}
use Rattle.cc_defs.specs.Clauses.{Literal, opposite, IsClause, IsOver, IsBefore, IsNumbered, IsIn, IsLiteralOver}
use Rattle.cc_kernel.specs.Kernels.{KernelView, Entry, clauses_of, IsThere}
use Rattle.cc_trail.specs.declared.entries.Step.{Step}
use Rattle.cc_trail.specs.Links.{no_literal, watched_at}
use Rattle.cc_trail.specs.Pairs.{PairsView, IsPair, IsPaired, ArePaired, AreFollowed, other_in}
use Rattle.cc_trail.specs.Watches.{IsTrueBy, IsWatched, Watches, partner}
use Rattle.cc_trail.specs.Trails.{TrailView, Fits, IsTrail, IsCovered, IsLong, IsPairLong, number_of}
use Rattle.cc_trail.proofs.Codes.{read_at}
use Rattle.cc_trail.proofs.StepLists.{in_left, in_right, in_push}

pub on_ok : {T E : Type 0} (r : Result T E) {P Q : Type 0} → (P → Q) → OnOk r P → OnOk r Q
on_ok (Ok x) f p = f p
on_ok (Err e) f p = tt

pub all_over : (variables : ℕ) (clause : List Literal) → IsOver variables clause → All (λ (literal : Literal). IsLiteralOver variables literal) clause
all_over variables [] over = All-nil (λ (literal : Literal). IsLiteralOver variables literal)
all_over variables (literal ∷ clause) over =
    All-cons (λ (literal : Literal). IsLiteralOver variables literal) literal clause (over.0, over.1) (all_over variables clause over.2)

pub different : (a b : Literal) → IsBefore a b → a ≡ b → ⊥
different a b (inl lower) same = let variable : a.variable ≡ b.variable = ap (λ (l : Literal). l.variable) same in absurd (omega (arith, lower))
different a b (inr (variable, negative, positive)) same =
    let sign : a.positive ≡ b.positive = ap (λ (l : Literal). l.positive) same in true_is_false (sym negative ∙ sign ∙ positive)
  where
    true_is_false : false ≡ true → ⊥
    true_is_false e = cc

pub first_two : (clause : List Literal) (one two d e : Literal) → IsClause clause → 2 ≤ length clause → one ≡ get_or clause 0 d → two ≡ get_or clause 1 e → two ≡ one → ⊥
first_two [] one two d e is long one_is two_is same = absurd (omega arith)
first_two (a ∷ []) one two d e is long one_is two_is same = absurd (omega arith)
first_two (a ∷ b ∷ clause) one two d e is long one_is two_is same = different a b is.0 (sym one_is ∙ sym same ∙ two_is)

-- ---- the fit

module _ (old new : TrailView) (kernel : KernelView) (fits : Fits old kernel) (number : ℕ) (next : number ≡ old.attached + 1) (there : IsThere kernel number)
    (clause : List Literal) (numbered : IsNumbered (clauses_of kernel) number clause) where
  pub within : number ≤ length (clauses_of kernel)
  within =
      let most : number ≤ length kernel.entries = there.1 in
      let count : length (clauses_of kernel) ≡ length kernel.entries = length-map kernel.entries (λ (entry : Entry). entry.clause) in
      omega arith

  each_or : (k : ℕ) → 0 < k → k ≤ number → (IsIn old.shorts k ⊎ (IsIn old.longs k ⊎ (IsPaired old.pairs k ⊎ IsCovered (clauses_of kernel) k))) ⊎ (k ≡ number)
  each_or k some most = elim (eqb_tells k number) [
    | inl same ↦ inr (same.1)
    | inr other ↦ let apart : k ≢ number = other.1 in inl (fits.clauses.each k some (omega arith))
  ]

  pub fits_short : length clause < 2 → new ≡ record old { attached = number; shorts = old.shorts ++ number ∷ [] } → Fits new kernel
  fits_short short is = rw is (record {
    variables = fits.variables;
    clauses = record {
      attached = within;
      reasons = fits.clauses.reasons;
      shorts = λ k here. elim (in_push old.shorts number k here) [
        | inl before ↦ fits.clauses.shorts k before
        | inr same ↦ rw (← same) (clause, numbered, short)
      ];
      met_few = let few = fits.clauses.met_few in omega (arith, length-append old.shorts (number ∷ []));
      met = λ k here. fits.clauses.met k (subst (λ (ks : List ℕ). IsIn ks k) (take-append-le old.met old.shorts (number ∷ []) fits.clauses.met_few) here);
      longs = fits.clauses.longs;
      pairs = fits.clauses.pairs;
      each = λ k some most. elim (each_or k some most) [
        | inl before ↦ elim before [
          | inl left ↦ inl (in_left old.shorts (number ∷ []) k left)
          | inr rest ↦ inr rest
        ]
        | inr last ↦ inl (in_right old.shorts (number ∷ []) k (inl (sym last)))
      ];
      watches = fits.clauses.watches;
      followed = fits.clauses.followed;
    };
  })

pub partner_below : (node half : ℕ) → node < 2 * half → partner node < 2 * half
partner_below node half within = grind (arith, nat_tests)

pub half_below : (node half : ℕ) → node < 2 * half → node / 2 < half
half_below node half within = omega arith

pub partner_first : (half : ℕ) → partner (2 * half) ≡ 2 * half + 1
partner_first half = grind (arith, nat_tests)

pub partner_second : (half : ℕ) → partner (2 * half + 1) ≡ 2 * half
partner_second half = grind (arith, nat_tests)

pub half_first : (half : ℕ) → (2 * half) / 2 ≡ half
half_first half = omega arith

half_second : (half : ℕ) → (2 * half + 1) / 2 ≡ half
half_second half = omega arith

pub take_fewer_in : (m n : ℕ) (steps : List Step) (step : Step) → m ≤ n → IsIn (take m steps) step → IsIn (take n steps) step
take_fewer_in zero n steps step few here = elim here [ ]
take_fewer_in (suc m) zero steps step few here = absurd (omega arith)
take_fewer_in (suc m) (suc n) [] step few here = elim here [ ]
take_fewer_in (suc m) (suc n) (first ∷ steps) step few (inl same) = inl same
take_fewer_in (suc m) (suc n) (first ∷ steps) step few (inr here) = inr (take_fewer_in m n steps step (omega arith) here)

followed_fewer : (pairs : PairsView) (fewer visited : ℕ) (steps : List Step) → fewer ≤ visited → AreFollowed pairs (take visited steps) steps →
    AreFollowed pairs (take fewer steps) steps
followed_fewer pairs fewer visited steps few followed literal other there step here =
    followed literal other there step (take_fewer_in fewer visited steps step few here)

-- what has nodes, where one long clause more has them
module _ (old new : TrailView) (trail : IsTrail old) (number : ℕ) (first second : Literal) (longs_are : new.longs ≡ old.longs ++ number ∷ [])
    (watched_are : new.watched ≡ old.watched ++ first ∷ second ∷ []) where
  nodes_then : length new.watched ≡ 2 * length old.longs + 2
  nodes_then = let before = trail.nodes in omega (arith, ap length watched_are, length-append old.watched (first ∷ second ∷ []))

  old_at : (node : ℕ) → node < length old.watched → watched_at new.watched node ≡ watched_at old.watched node
  old_at node low = rw watched_are (get_or_append_left old.watched (first ∷ second ∷ []) no_literal node low)

  old_number : (node : ℕ) → node < length old.watched → number_of new.longs node ≡ number_of old.longs node
  old_number node low =
      let before = trail.nodes in
      rw longs_are (get_or_append_left old.longs (number ∷ []) 0 (node / 2) (half_below node (length old.longs) (omega arith)))

  old_partner : (node : ℕ) → node < length old.watched → partner node < length old.watched
  old_partner node low =
      let before = trail.nodes in
      let below : partner node < 2 * length old.longs = partner_below node (length old.longs) (omega arith) in
      omega (arith, below)

  first_at : watched_at new.watched (2 * length old.longs) ≡ first
  first_at =
      let before = trail.nodes in
      let place : length old.watched + 0 ≡ 2 * length old.longs = omega arith in
      rw (watched_are, ← place) (get_or-append-add old.watched (first ∷ second ∷ []) 0 no_literal)

  second_at : watched_at new.watched (2 * length old.longs + 1) ≡ second
  second_at =
      let before = trail.nodes in
      let place : length old.watched + 1 ≡ 2 * length old.longs + 1 = omega arith in
      rw (watched_are, ← place) (get_or-append-add old.watched (first ∷ second ∷ []) 1 no_literal)

  number_at : get_or new.longs (length old.longs) 0 ≡ number
  number_at =
      let place : length old.longs + 0 ≡ length old.longs = omega arith in
      rw longs_are (subst (λ (k : ℕ). get_or (old.longs ++ number ∷ []) k 0 ≡ number) place (get_or-append-add old.longs (number ∷ []) 0 0))

  -- a node is an old one, or one of the two
  which : (node : ℕ) → node < length new.watched → (node < length old.watched) ⊎ ((node ≡ 2 * length old.longs) ⊎ (node ≡ 2 * length old.longs + 1))
  which node low =
      let before = trail.nodes in
      let count = nodes_then in
      elim (leb_tells (length old.watched) node) [
        | inr below ↦ inl (below.1)
        | inl past ↦ elim (eqb_tells node (2 * length old.longs)) [
          | inl same ↦ inr (inl (same.1))
          | inr other ↦ let far : length old.watched ≤ node = past.1 in let apart : node ≢ 2 * length old.longs = other.1 in inr (inr (omega arith))
        ]
      ]

  pub longs_then : (clauses : List (List Literal)) (clause : List Literal) → IsNumbered clauses number clause → Contains clause first → Contains clause second → first ≢ second →
      ((node : ℕ) → node < length old.watched → Watches clauses new.steps (number_of old.longs node) old.watched node) →
      (node : ℕ) → node < length new.watched → Watches clauses new.steps (number_of new.longs node) new.watched node
  longs_then clauses clause numbered first_in second_in apart longs node low = elim (which node low) [
    | inl before ↦
        let watches = longs node before in
        record {
          clause = watches.clause;
          numbered = rw (old_number node before) watches.numbered;
          here = rw (old_at node before) watches.here;
          there = rw (old_at (partner node) (old_partner node before)) watches.there;
          apart = rw (old_at node before, old_at (partner node) (old_partner node before)) watches.apart;
        }
    | inr one_of ↦ elim one_of [
      | inl is ↦ rw is (record {
        clause = clause;
        numbered = rw (half_first (length old.longs), number_at) numbered;
        here = rw first_at first_in;
        there = rw (partner_first (length old.longs), second_at) second_in;
        apart = inl (rw (partner_first (length old.longs), first_at, second_at) apart);
      })
      | inr is ↦ rw is (record {
        clause = clause;
        numbered = rw (half_second (length old.longs), number_at) numbered;
        here = rw second_at second_in;
        there = rw (partner_second (length old.longs), first_at) first_in;
        apart = inl (rw (partner_second (length old.longs), first_at, second_at) (λ same. apart (sym same)));
      })
    ]
  ]

  pub watches_then : (visited : List Step) → ((node : ℕ) → node < length old.watched → IsWatched visited new.steps old.watched node) →
      ((step : Step) → IsIn visited step → step.lit ≡ opposite first → IsTrueBy new.steps second step.level) →
      ((step : Step) → IsIn visited step → step.lit ≡ opposite second → IsTrueBy new.steps first step.level) →
      (node : ℕ) → node < length new.watched → IsWatched visited new.steps new.watched node
  watches_then visited watches at_first at_second node low = elim (which node low) [
    | inl before ↦ λ step here is.
        rw (old_at (partner node) (old_partner node before)) (watches node before step here (is ∙ ap opposite (old_at node before)))
    | inr one_of ↦ elim one_of [
      | inl same ↦ rw same (λ step here is. rw (partner_first (length old.longs), second_at) (at_first step here (is ∙ ap opposite first_at)))
      | inr same ↦ rw same (λ step here is. rw (partner_second (length old.longs), first_at) (at_second step here (is ∙ ap opposite second_at)))
    ]
  ]

module _ (old new : TrailView) (kernel : KernelView) (fits : Fits old kernel) (number : ℕ) (next : number ≡ old.attached + 1) (there : IsThere kernel number)
    (clause : List Literal) (numbered : IsNumbered (clauses_of kernel) number clause) where
  -- each clause is attached, where one more is among the long ones
  pub each_long : (k : ℕ) → 0 < k → k ≤ number →
      IsIn old.shorts k ⊎ (IsIn (old.longs ++ number ∷ []) k ⊎ (IsPaired old.pairs k ⊎ IsCovered (clauses_of kernel) k))
  each_long k some most = elim (each_or old new kernel fits number next there clause numbered k some most) [
    | inl before ↦ elim before [
      | inl left ↦ inl left
      | inr rest ↦ elim rest [
        | inl right ↦ inr (inl (in_left old.longs (number ∷ []) k right))
        | inr others ↦ inr (inr others)
      ]
    ]
    | inr last ↦ inr (inl (in_right old.longs (number ∷ []) k (inl (sym last))))
  ]

module _ (old new : TrailView) (kernel : KernelView) (fits : Fits old kernel) (trail : IsTrail old) (number : ℕ) (next : number ≡ old.attached + 1) (there : IsThere kernel number)
    (clause : List Literal) (numbered : IsNumbered (clauses_of kernel) number clause) (first second : Literal)
    (first_in : Contains clause first) (second_in : Contains clause second) (apart : first ≢ second) (long : IsLong old new number first second) where
  before_in : (step : Step) → IsIn (take new.visited new.steps) step → IsIn (take old.visited old.steps) step
  before_in step here =
      take_fewer_in new.visited old.visited old.steps step long.fewer (subst (λ (ss : List Step). IsIn (take new.visited ss) step) long.steps here)

  pub fits_long : Fits new kernel
  fits_long = record {
    variables = long.variables ∙ fits.variables;
    clauses = record {
      attached = rw long.attached (within old new kernel fits number next there clause numbered);
      reasons = rw long.steps fits.clauses.reasons;
      shorts = rw long.shorts fits.clauses.shorts;
      met_few = rw (long.met, long.shorts) fits.clauses.met_few;
      met = rw (long.met, long.shorts, long.steps) fits.clauses.met;
      longs = longs_then old new trail number first second long.longs long.watched (clauses_of kernel) clause numbered first_in second_in apart (rw long.steps fits.clauses.longs);
      pairs = rw long.pairs fits.clauses.pairs;
      each = rw (long.attached, long.shorts, long.longs, long.pairs) (each_long old new kernel fits number next there clause numbered);
      watches = watches_then old new trail number first second long.longs long.watched (take new.visited new.steps)
          (λ node low step here is. rw long.steps (fits.clauses.watches node low step (before_in step here) is))
          (λ step here is. absurd (long.first_open step here (ap (λ (l : Literal). l.variable) is)))
          (λ step here is. absurd (long.second_open step here (ap (λ (l : Literal). l.variable) is)));
      followed = rw (long.pairs, long.steps) (followed_fewer old.pairs new.visited old.visited old.steps long.fewer fits.clauses.followed);
    };
  }

-- ---- a clause of two literals

pub only_two : (clause : List Literal) (one two d e : Literal) → length clause ≡ 2 → one ≡ get_or clause 0 d → two ≡ get_or clause 1 e →
    Contains clause one × Contains clause two × ((literal : Literal) → Contains clause literal → (literal ≡ one) ⊎ (literal ≡ two))
only_two [] one two d e long one_is two_is = absurd (omega arith)
only_two (a ∷ []) one two d e long one_is two_is = absurd (omega arith)
only_two (a ∷ b ∷ c ∷ clause) one two d e long one_is two_is = absurd (omega arith)
only_two (a ∷ b ∷ []) one two d e long one_is two_is = ((0, omega arith, sym one_is), (1, omega arith, sym two_is), only)
  where
    only : (literal : Literal) → Contains (a ∷ b ∷ []) literal → (literal ≡ one) ⊎ (literal ≡ two)
    only literal (zero, within, is) = inl (sym is ∙ sym one_is)
    only literal (suc zero, within, is) = inr (sym is ∙ sym two_is)
    only literal (suc (suc k), within, is) = absurd (omega arith)

module _ (old new : TrailView) (kernel : KernelView) (fits : Fits old kernel) (number : ℕ) (next : number ≡ old.attached + 1) (there : IsThere kernel number)
    (clause : List Literal) (numbered : IsNumbered (clauses_of kernel) number clause) (first second : Literal) (apart : first ≢ second)
    (first_in : Contains clause first) (second_in : Contains clause second)
    (only : (literal : Literal) → Contains clause literal → (literal ≡ first) ⊎ (literal ≡ second)) (pair : IsPairLong old new number first second) where
  one_way : IsPair (clauses_of kernel) number first second
  one_way = (clause, numbered, first_in, second_in, only)

  other_way : IsPair (clauses_of kernel) number second first
  other_way = (
    clause,
    numbered,
    second_in,
    first_in,
    (λ literal member. elim (only literal member) [
      | inl is ↦ inr is
      | inr is ↦ inl is
    ]),
  )

  paired_then : ArePaired (clauses_of kernel) new.pairs
  paired_then literal other here = elim (pair.pairs.only literal other here) [
    | inl before ↦ fits.clauses.pairs literal other before
    | inr added ↦ elim added [
      | inl is ↦ rw (is.0, is.1) one_way
      | inr is ↦ rw (is.0, is.1) other_way
    ]
  ]

  followed_then : AreFollowed new.pairs (take new.visited new.steps) new.steps
  followed_then literal other among step here is = elim (pair.pairs.only literal other among) [
    | inl before ↦
        rw pair.steps
        (followed_fewer old.pairs new.visited old.visited old.steps pair.fewer fits.clauses.followed literal other before step
        (subst (λ (ss : List Step). IsIn (take new.visited ss) step) pair.steps here) is)
    | inr added ↦ elim added [
      | inl at ↦ absurd (pair.first_open step here (ap (λ (l : Literal). l.variable) is ∙ ap (λ (l : Literal). l.variable) (at.0)))
      | inr at ↦ absurd (pair.second_open step here (ap (λ (l : Literal). l.variable) is ∙ ap (λ (l : Literal). l.variable) (at.0)))
    ]
  ]

  still_paired : (k : ℕ) → IsPaired old.pairs k → IsPaired new.pairs k
  still_paired k (a, b, differ, ab, ba) = (a, b, differ, pair.pairs.before a (other_in b k) ab, pair.pairs.before b (other_in a k) ba)

  each_then : (k : ℕ) → 0 < k → k ≤ number → IsIn old.shorts k ⊎ (IsIn old.longs k ⊎ (IsPaired new.pairs k ⊎ IsCovered (clauses_of kernel) k))
  each_then k some most = elim (each_or old new kernel fits number next there clause numbered k some most) [
    | inr last ↦ inr (inr (inl (rw last (first, second, apart, pair.pairs.first, pair.pairs.second))))
    | inl before ↦ elim before [
      | inl left ↦ inl left
      | inr rest ↦ elim rest [
        | inl right ↦ inr (inl right)
        | inr others ↦ elim others [
          | inl paired ↦ inr (inr (inl (still_paired k paired)))
          | inr covered ↦ inr (inr (inr covered))
        ]
      ]
    ]
  ]

  pub fits_pair : Fits new kernel
  fits_pair = record {
    variables = pair.variables ∙ fits.variables;
    clauses = record {
      attached = rw pair.attached (within old new kernel fits number next there clause numbered);
      reasons = rw pair.steps fits.clauses.reasons;
      shorts = rw pair.shorts fits.clauses.shorts;
      met_few = rw (pair.met, pair.shorts) fits.clauses.met_few;
      met = rw (pair.met, pair.shorts, pair.steps) fits.clauses.met;
      longs = rw (pair.watched, pair.longs, pair.steps) fits.clauses.longs;
      pairs = paired_then;
      each = rw (pair.attached, pair.shorts, pair.longs) each_then;
      watches = rw (pair.watched, pair.steps) (λ node low step here is.
          fits.clauses.watches node low step (take_fewer_in new.visited old.visited old.steps step pair.fewer here) is);
      followed = followed_then;
    };
  }

-- one more literal of a part is met
pub part_next : (part clause : List Literal) (met index : ℕ) (one other : Literal) → met < length part → index < length clause → one ≡ get_or part met one → other ≡ get_or clause index other → one ≡ other →
    ((literal : Literal) → Contains (take met part) literal → Contains clause literal) → (literal : Literal) → Contains (take (met + 1) part) literal → Contains clause literal
part_next part clause met index one other met_low low one_is other_is same before literal (k, within, is) =
    let counted = length-take (met + 1) part in
    let at = sym (get_or-take (met + 1) part k literal (omega arith)) ∙ is in
    elim (leb_tells (k + 1) met) [
      | inl early ↦
          let fewer = length-take met part in
          before literal (k, omega (arith, early.1), get_or-take met part k literal (omega (arith, early.1)) ∙ at)
      | inr late ↦
          let here : k ≡ met = omega (arith, late.1) in
          let one_at = read_at part met one literal met_low one_is in
          let literal_is : one ≡ literal = one_at ∙ ap (λ (n : ℕ). get_or part n literal) (sym here) ∙ at in
          (index, low, sym (read_at clause index other literal low other_is) ∙ sym same ∙ literal_is)
    ]
