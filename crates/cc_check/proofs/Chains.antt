-- Chains: the clauses that they name, and what they reach.
use Rattle.std.proofs.Common.{◌≡◌, ℕ, suc, arith, ◌<◌, ◌≤◌, Bool, true, false, List, [], ◌∷◌, length, refl, sym, ap, subst, ◌∙◌}
use Rattle.std.proofs.lemmas.Option.{same_Some}
use Rattle.cc_clauses.specs.Laws.{ResolventsAreUnique}
use Rattle.cc_defs.specs.Clauses.{Literal, IsNumbered, IsResolvent, ReachesFrom, Reaches}
use Rattle.cc_defs.specs.Sections.{AreNamed}
use Rattle.cc_check.specs.Clauses.{IsClauseOver, IsStep, ReachesNothing}

-- ---- whether the numbers are those of clauses

pub record NamedFrom (count : ℕ) (rest whole : List ℕ) : Type 0 where
  pub to : AreNamed count rest → AreNamed count whole
  pub from : AreNamed count whole → AreNamed count rest

pub named_begun : (count : ℕ) (whole : List ℕ) → NamedFrom count whole whole
named_begun count whole = record { to = λ h. h; from = λ h. h }

first_named : (count number : ℕ) (behind : List ℕ) → AreNamed count (number ∷ behind) → (0 < number) × (number ≤ count)
first_named count number [] h = h
first_named count number (pivot ∷ chain) h = (h.0, h.1)

module _ (count : ℕ) (rest whole : List ℕ) (so_far : NamedFrom count rest whole) where
  pub named_more : (number pivot : ℕ) (others : List ℕ) → rest ≡ number ∷ pivot ∷ others → (0 < number) × (number ≤ count) → NamedFrom count others whole
  named_more number pivot others is here = record {
    to = λ h. so_far.to (subst (AreNamed count) (sym is) (here.0, here.1, h));
    from = λ h. (subst (AreNamed count) is (so_far.from h)).2;
  }

  pub named_last : (number : ℕ) → rest ≡ number ∷ [] → (0 < number) × (number ≤ count) → AreNamed count whole
  named_last number is here = so_far.to (subst (AreNamed count) (sym is) here)

  pub named_done : rest ≡ [] → AreNamed count whole
  named_done is = so_far.to (subst (AreNamed count) (sym is) tt)

  pub named_fails : (number : ℕ) (behind : List ℕ) → rest ≡ number ∷ behind → ((0 < number) × (number ≤ count) → ⊥) → AreNamed count whole → ⊥
  named_fails number behind is never h = never (first_named count number behind (subst (AreNamed count) is (so_far.from h)))

-- ---- what a chain reaches

-- behind the first number
abbrev pub PairsAreNamed : ℕ → List ℕ → Type 0
PairsAreNamed count [] = Unit {0}
PairsAreNamed count (pivot ∷ []) = Unit {0}
PairsAreNamed count (pivot ∷ number ∷ later) = (0 < number) × (number ≤ count) × PairsAreNamed count later

pub pairs_named : (count first : ℕ) (rest : List ℕ) → AreNamed count (first ∷ rest) → (0 < first) × (first ≤ count) × PairsAreNamed count rest
pairs_named count first [] h = (h.0, h.1, tt)
pairs_named count first (pivot ∷ []) h = (h.0, h.1, tt)
pairs_named count first (pivot ∷ number ∷ later) h = let more = pairs_named count number later h.2 in (h.0, h.1, more)

pub record ReachedFrom (clauses : List (List Literal)) (variables : ℕ) (chain : List ℕ) (staged : List Literal) (rest : List ℕ) : Type 0 where
  pub to : (clause : List Literal) → ReachesFrom clauses staged rest clause → Reaches clauses chain clause
  pub from : (clause : List Literal) → Reaches clauses chain clause → ReachesFrom clauses staged rest clause
  pub staged_over : IsClauseOver variables staged
  pub named : PairsAreNamed (length clauses) rest

one_numbered : (clauses : List (List Literal)) (number : ℕ) (a b : List Literal) → IsNumbered clauses number a → IsNumbered clauses number b → a ≡ b
one_numbered clauses number a b x y = same_Some a b (sym x.1 ∙ y.1)

pub nothing_reached : (clauses : List (List Literal)) (chain : List ℕ) → chain ≡ [] → ReachesNothing clauses chain
nothing_reached clauses chain is reached h = subst (λ (c : List ℕ). Reaches clauses c reached) is h

pub reached_begun : (clauses : List (List Literal)) (variables first : ℕ) (rest chain : List ℕ) (staged : List Literal) → chain ≡ first ∷ rest → AreNamed (length clauses) chain →
    IsNumbered clauses first staged → IsClauseOver variables staged → ReachedFrom clauses variables chain staged rest
reached_begun clauses variables first rest chain staged is named numbered over = record {
  to = λ clause h. subst (λ (c : List ℕ). Reaches clauses c clause) (sym is) (staged, numbered, h);
  from = λ clause h.
      let (start, there, more) : Reaches clauses (first ∷ rest) clause = subst (λ (c : List ℕ). Reaches clauses c clause) is h in
      subst (λ (s : List Literal). ReachesFrom clauses s rest clause) (one_numbered clauses first start staged there numbered) more;
  staged_over = over;
  named = (pairs_named (length clauses) first rest (subst (AreNamed (length clauses)) is named)).2;
}

pub two_first : (rest others later : List ℕ) (pivot number : ℕ) → rest ≡ pivot ∷ others → others ≡ number ∷ later → rest ≡ pivot ∷ number ∷ later
two_first rest others later pivot number is then_is = is ∙ ap (λ (t : List ℕ). pivot ∷ t) then_is

pub two_shorter : (rest later : List ℕ) (pivot number : ℕ) → rest ≡ pivot ∷ number ∷ later → length later < length rest
two_shorter rest later pivot number is = let e : length rest ≡ suc (suc (length later)) = ap length is in omega arith

module _ (unique : ResolventsAreUnique) (clauses : List (List Literal)) (variables : ℕ) (chain : List ℕ) (staged : List Literal) (rest : List ℕ)
    (so_far : ReachedFrom clauses variables chain staged rest) where
  pub reached_more : (pivot number : ℕ) (later : List ℕ) (next : List Literal) → rest ≡ pivot ∷ number ∷ later → IsStep clauses variables staged pivot number true next →
      ReachedFrom clauses variables chain next later
  reached_more pivot number later next is (other, numbered, (resolvent, over)) = record {
    to = λ clause h. so_far.to clause (subst (λ (r : List ℕ). ReachesFrom clauses staged r clause) (sym is) (other, next, numbered, resolvent, h));
    from = λ clause h.
        let (by, made, there, resolved, more) : ReachesFrom clauses staged (pivot ∷ number ∷ later) clause =
        subst (λ (r : List ℕ). ReachesFrom clauses staged r clause) is (so_far.from clause h) in
        let same = one_numbered clauses number by other there numbered in
        let one = unique staged other pivot made next (subst (λ (b : List Literal). IsResolvent staged b pivot made) same resolved) resolvent in
        subst (λ (s : List Literal). ReachesFrom clauses s later clause) one more;
    staged_over = over;
    named = (subst (PairsAreNamed (length clauses)) is so_far.named).2;
  }

  pub reached_stop : (pivot number : ℕ) (later : List ℕ) (next : List Literal) → rest ≡ pivot ∷ number ∷ later → IsStep clauses variables staged pivot number false next →
      ReachesNothing clauses chain
  reached_stop pivot number later next is (other, numbered, none) reached h =
      let (by, made, there, resolved, more) : ReachesFrom clauses staged (pivot ∷ number ∷ later) reached =
      subst (λ (r : List ℕ). ReachesFrom clauses staged r reached) is (so_far.from reached h) in
      none made (subst (λ (b : List Literal). IsResolvent staged b pivot made) (one_numbered clauses number by other there numbered) resolved)

  pub reached_half : (pivot : ℕ) → rest ≡ pivot ∷ [] → ReachesNothing clauses chain
  reached_half pivot is reached h = subst (λ (r : List ℕ). ReachesFrom clauses staged r reached) is (so_far.from reached h)

  pub reached_done : rest ≡ [] → Reaches clauses chain staged
  reached_done is = so_far.to staged (subst (λ (r : List ℕ). ReachesFrom clauses staged r staged) (sym is) refl)

  pub next_named : (pivot number : ℕ) (later : List ℕ) → rest ≡ pivot ∷ number ∷ later → (0 < number) × (number ≤ length clauses)
  next_named pivot number later is = let h = subst (PairsAreNamed (length clauses)) is so_far.named in (h.0, h.1)

  pub reached_by : (done : Bool) (pivot number : ℕ) (later : List ℕ) (next : List Literal) → rest ≡ pivot ∷ number ∷ later → done ≡ true →
      IsStep clauses variables staged pivot number done next → ReachedFrom clauses variables chain next later
  reached_by done pivot number later next is yes_done h =
      reached_more pivot number later next is (subst (λ (d : Bool). IsStep clauses variables staged pivot number d next) yes_done h)

  pub reached_not : (done : Bool) (pivot number : ℕ) (later : List ℕ) (next : List Literal) → rest ≡ pivot ∷ number ∷ later → done ≡ false →
      IsStep clauses variables staged pivot number done next → ReachesNothing clauses chain
  reached_not done pivot number later next is undone h =
      reached_stop pivot number later next is (subst (λ (d : Bool). IsStep clauses variables staged pivot number d next) undone h)
