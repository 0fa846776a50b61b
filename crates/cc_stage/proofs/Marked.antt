-- Which literals a clause of marks has, and that it ascends.
use Rattle.std.proofs.Common.{◌≡◌, ◌≢◌, ◌∙◌, ℕ, ◌+◌, ◌*◌, ◌-◌, ◌<◌, ◌≤◌, zero, suc, inl, inr, Bool, true, false, not, List, [], ◌∷◌, ◌++◌, length, get_or, set, take, drop, replicate, refl, sym, subst, ap, arith, get_or-set_same, get_or-set_other, length-set}
use Rattle.std.specs.Prelude.{◌⊎◌, ◌↔◌, IsTrue, if◌then◌else◌, Contains, OnErr, Result, Ok, Err}
use Rattle.std.proofs.lemmas.Bool.Decides.{eqb_tells, nat_tests}
use Rattle.std.proofs.lemmas.Bool.{cases_lt, false≢true}
use Rattle.std.proofs.lemmas.List.{drop_all, drop_more, get_or_past, set_past, take_all}
use Rattle.cc_clauses.specs.Merging.{code}
use Rattle.cc_clauses.proofs.Literals.{among, clause_cons, clause_low, contained, same_from_code, same_members}
use Rattle.cc_defs.specs.Clauses.{Literal, Clash, IsClause, IsIn, IsResolvent}
use Rattle.cc_stage.specs.Marks.{HasRoom, IsCovered, SameMarks, clause_of, is_marked, literal_at, marked_from, marked_with, with_marks, without}

-- ---- literals and their numbers

pub code_at : (n : ℕ) → code (literal_at n) ≡ n
code_at n = grind (arith, nat_tests)

pub at_code : (literal : Literal) → literal_at (code literal) ≡ literal
at_code literal = same_from_code (literal_at (code literal)) literal (code_at (code literal))

-- ---- the literals that are marked

marked_there : (first : ℕ) (marks : List Bool) (literal : Literal) → IsIn (marked_from first marks) literal →
    (k : ℕ) × (first + k ≡ code literal) × (is_marked marks k ≡ true)
marked_there first [] literal none = absurd none
marked_there first (true ∷ marks) literal (inl is) = let at : first ≡ code literal = sym (code_at first) ∙ ap code is in (0, omega arith, refl)
marked_there first (true ∷ marks) literal (inr here) = let (k, at, is) = marked_there (suc first) marks literal here in (suc k, omega arith, is)
marked_there first (false ∷ marks) literal here = let (k, at, is) = marked_there (suc first) marks literal here in (suc k, omega arith, is)

there_marked : (first : ℕ) (marks : List Bool) (literal : Literal) (k : ℕ) → first + k ≡ code literal → is_marked marks k ≡ true →
    IsIn (marked_from first marks) literal
there_marked first [] literal k at is = cc
there_marked first (true ∷ marks) literal zero at is = let same : first ≡ code literal = omega arith in inl (ap literal_at same ∙ at_code literal)
there_marked first (false ∷ marks) literal zero at is = cc
there_marked first (true ∷ marks) literal (suc k) at is = inr (there_marked (suc first) marks literal k (omega arith) is)
there_marked first (false ∷ marks) literal (suc k) at is = there_marked (suc first) marks literal k (omega arith) is

ascend_from : (first : ℕ) (marks : List Bool) → IsClause (marked_from first marks)
ascend_from first [] = tt
ascend_from first (true ∷ marks) = clause_cons (literal_at first) (marked_from (suc first) marks)
    (λ literal here. let (k, at, is) = marked_there (suc first) marks literal here in let low = code_at first in omega arith)
    (ascend_from (suc first) marks)
ascend_from first (false ∷ marks) = ascend_from (suc first) marks

pub marks_ascend : (marks : List Bool) → IsClause (clause_of marks)
marks_ascend marks = ascend_from 0 marks

pub in_marked : (marks : List Bool) (literal : Literal) → IsIn (clause_of marks) literal → is_marked marks (code literal) ≡ true
in_marked marks literal here =
    let (k, at, is) = marked_there 0 marks literal here in
    let same : k ≡ code literal = omega arith in
    subst (λ (n : ℕ). is_marked marks n ≡ true) same is

pub marked_in : (marks : List Bool) (literal : Literal) → is_marked marks (code literal) ≡ true → IsIn (clause_of marks) literal
marked_in marks literal is = there_marked 0 marks literal (code literal) (omega arith) is

pub members : (marks : List Bool) (literal : Literal) (r : Bool) → r ≡ is_marked marks (code literal) → IsTrue r ↔ Contains (clause_of marks) literal
members marks literal r is = (
  (λ passes. contained (clause_of marks) literal (marked_in marks literal (sym is ∙ passes))),
  (λ here. is ∙ in_marked marks literal (among (clause_of marks) literal here)),
)

-- a clause with just the literals that are marked is theirs
pub clause_is : (marks : List Bool) (clause : List Literal) → IsClause clause →
    ((literal : Literal) → is_marked marks (code literal) ≡ true → IsIn clause literal) →
    ((literal : Literal) → IsIn clause literal → is_marked marks (code literal) ≡ true) → clause_of marks ≡ clause
clause_is marks clause is there back = same_members (clause_of marks) clause (marks_ascend marks) is
    (λ literal here. there literal (in_marked marks literal here)) (λ literal here. marked_in marks literal (back literal here))

pub same_clause : (one other : List Bool) → SameMarks one other → clause_of one ≡ clause_of other
same_clause one other same = clause_is one (clause_of other) (marks_ascend other)
    (λ literal is. marked_in other literal (sym (same (code literal)) ∙ is)) (λ literal here. same (code literal) ∙ in_marked other literal here)

-- ---- marks that are set and taken away

-- a mark that is there was set, or stands at another number
set_cases : (marks : List Bool) (number : ℕ) (value : Bool) (k : ℕ) → is_marked (set marks number value) k ≡ true →
    ((k ≡ number) × (value ≡ true)) ⊎ ((k ≢ number) × (is_marked marks k ≡ true))
set_cases marks number value k is = elim (eqb_tells k number) [
  | inr other ↦ inr (other.1, sym (get_or-set_other marks number k value false (other.1)) ∙ is)
  | inl same ↦ elim (cases_lt number (length marks)) [
    | inl low ↦ inl (same.1, sym (get_or-set_same marks number value false low) ∙ subst (λ (n : ℕ). is_marked (set marks number value) n ≡ true) (same.1) is)
    | inr past ↦ absurd (none past (same.1))
  ]
]
  where
    none : length marks ≤ number → k ≡ number → ⊥
    none past same =
        let nothing : is_marked marks number ≡ false = get_or_past marks number false past in
        let kept : set marks number value ≡ marks = set_past marks number value past in
        let at : is_marked marks number ≡ true = subst (λ (n : ℕ). is_marked marks n ≡ true) same (subst (λ (m : List Bool). is_marked m k ≡ true) kept is) in
        cc

pub set_marked : (marks : List Bool) (number : ℕ) → number < length marks → is_marked (set marks number true) number ≡ true
set_marked marks number low = get_or-set_same marks number true false low

pub kept_marked : (marks : List Bool) (number : ℕ) (k : ℕ) → is_marked marks k ≡ true → is_marked (set marks number true) k ≡ true
kept_marked marks number k is = elim (eqb_tells k number) [
  | inr other ↦ get_or-set_other marks number k true false (other.1) ∙ is
  | inl same ↦ subst (λ (n : ℕ). is_marked (set marks number true) n ≡ true) (sym (same.1)) (set_marked marks number (within (same.1)))
]
  where
    within : k ≡ number → number < length marks
    within same = elim (cases_lt number (length marks)) [
      | inl low ↦ low
      | inr past ↦
          let nothing : is_marked marks number ≡ false = get_or_past marks number false past in
          let at : is_marked marks number ≡ true = subst (λ (n : ℕ). is_marked marks n ≡ true) same is in cc
    ]

erased : (marks : List Bool) (number k : ℕ) → is_marked (set marks number false) k ≡ true → (k ≢ number) × (is_marked marks k ≡ true)
erased marks number k is = elim (set_cases marks number false k is) [
  | inl (same, wrong) ↦ cc
  | inr kept ↦ kept
]

erased_kept : (marks : List Bool) (number k : ℕ) → k ≢ number → is_marked marks k ≡ true → is_marked (set marks number false) k ≡ true
erased_kept marks number k apart is = get_or-set_other marks number k false false apart ∙ is

-- ---- the marks of a variable are taken away

negative_or_positive : (literal : Literal) (variable : ℕ) → literal.variable ≡ variable → (code literal ≡ 2 * variable) ⊎ (code literal ≡ 2 * variable + 1)
negative_or_positive literal variable same = by literal.positive
  where
    by : (sign : Bool) → (2 * literal.variable + (if sign then 1 else 0) ≡ 2 * variable) ⊎ (2 * literal.variable + (if sign then 1 else 0) ≡ 2 * variable + 1)
    by true = inr (omega arith)
    by false = inl (omega arith)

code_apart : (literal : Literal) (variable : ℕ) → literal.variable ≢ variable → (code literal ≢ 2 * variable) × (code literal ≢ 2 * variable + 1)
code_apart literal variable apart = by literal.positive
  where
    by : (sign : Bool) → (2 * literal.variable + (if sign then 1 else 0) ≢ 2 * variable) × (2 * literal.variable + (if sign then 1 else 0) ≢ 2 * variable + 1)
    by true = ((λ e. omega arith), (λ e. apart (omega arith)))
    by false = ((λ e. apart (omega arith)), (λ e. omega arith))

pub without_there : (variable : ℕ) (marks : List Bool) (literal : Literal) → is_marked (without variable marks) (code literal) ≡ true →
    (literal.variable ≢ variable) × (is_marked marks (code literal) ≡ true)
without_there variable marks literal is =
    let (apart, there) = erased (set marks (2 * variable) false) (2 * variable + 1) (code literal) is in
    let (other, here) = erased marks (2 * variable) (code literal) there in
    ((λ same. elim (negative_or_positive literal variable same) [ inl negative ↦ other negative | inr positive ↦ apart positive ]), here)

pub without_kept : (variable : ℕ) (marks : List Bool) (literal : Literal) → literal.variable ≢ variable → is_marked marks (code literal) ≡ true →
    is_marked (without variable marks) (code literal) ≡ true
without_kept variable marks literal apart is =
    let others = code_apart literal variable apart in
    erased_kept (set marks (2 * variable) false) (2 * variable + 1) (code literal) (others.1) (erased_kept marks (2 * variable) (code literal) (others.0) is)

-- ---- the literals of a clause are marked

module _ (variable : ℕ) where
  with_there : (clause : List Literal) (marks : List Bool) (literal : Literal) → is_marked (with_marks variable clause marks) (code literal) ≡ true →
      (is_marked marks (code literal) ≡ true) ⊎ (IsIn clause literal × (literal.variable ≢ variable))
  with_there [] marks literal is = inl is
  with_there (first ∷ clause) marks literal is = elim (with_there clause (marked_with variable first marks) literal is) [
    | inr (here, apart) ↦ inr (inr here, apart)
    | inl there ↦ elim (eqb_tells first.variable variable) [
      | inl same ↦ inl (rw (same.0) at there)
      | inr other ↦ by (other.1) (set_cases marks (code first) true (code literal) (rw (other.0) at there))
    ]
  ]
    where
      by : first.variable ≢ variable → ((code literal ≡ code first) × (true ≡ true)) ⊎ ((code literal ≢ code first) × (is_marked marks (code literal) ≡ true)) →
          (is_marked marks (code literal) ≡ true) ⊎ (IsIn (first ∷ clause) literal × (literal.variable ≢ variable))
      by apart (inr kept) = inl kept.1
      by apart (inl (same, set_there)) =
          let is : first ≡ literal = same_from_code first literal (sym same) in
          inr (inl is, (λ e. apart (ap (λ (l : Literal). l.variable) is ∙ e)))

  length_with : (literal : Literal) (marks : List Bool) → length (marked_with variable literal marks) ≡ length marks
  length_with literal marks = elim (eqb_tells literal.variable variable) [
    | inl same ↦ rw (same.0) refl
    | inr other ↦ rw (other.0) (length-set marks (code literal) true)
  ]

  keeps_one : (first : Literal) (marks : List Bool) (k : ℕ) → is_marked marks k ≡ true → is_marked (marked_with variable first marks) k ≡ true
  keeps_one first marks k is = elim (eqb_tells first.variable variable) [
    | inl same ↦ rw (same.0) is
    | inr other ↦ rw (other.0) (kept_marked marks (code first) k is)
  ]

  pub with_kept : (clause : List Literal) (marks : List Bool) (k : ℕ) → is_marked marks k ≡ true → is_marked (with_marks variable clause marks) k ≡ true
  with_kept [] marks k is = is
  with_kept (first ∷ clause) marks k is = with_kept clause (marked_with variable first marks) k (keeps_one first marks k is)

  with_here : (clause : List Literal) (marks : List Bool) → HasRoom marks clause → (literal : Literal) → IsIn clause literal → literal.variable ≢ variable →
      is_marked (with_marks variable clause marks) (code literal) ≡ true
  with_here [] marks room literal none apart = absurd none
  with_here (first ∷ clause) marks room literal (inl is) apart =
      with_kept clause (marked_with variable first marks) (code literal) (subst (λ (l : Literal). is_marked (marked_with variable first marks) (code l) ≡ true) is here)
    where
      here : is_marked (marked_with variable first marks) (code first) ≡ true
      here = elim (eqb_tells first.variable variable) [
        | inl same ↦ absurd (apart (sym (ap (λ (l : Literal). l.variable) is) ∙ same.1))
        | inr other ↦ rw (other.0) (set_marked marks (code first) (room first (inl refl)))
      ]
  with_here (first ∷ clause) marks room literal (inr later) apart =
      with_here clause (marked_with variable first marks)
      (λ l here. subst (λ (n : ℕ). code l < n) (sym (length_with first marks)) (room l (inr here))) literal later apart

-- what stands in front: no mark but those of the clause
pub begun : (marks after : List Bool) (clause : List Literal) → ((number : ℕ) → is_marked marks number ≡ false) → HasRoom marks clause → IsClause clause →
    ((literal : Literal) → Contains clause literal → 0 < literal.variable) → after ≡ with_marks 0 clause marks → clause_of after ≡ clause
begun marks after clause none room is some after_is = ap clause_of after_is ∙ clause_is (with_marks 0 clause marks) clause is
    (λ literal marked. elim (with_there 0 clause marks literal marked) [
      | inl there ↦ let nothing = none (code literal) in cc
      | inr (here, apart) ↦ here
    ])
    (λ literal here. with_here 0 clause marks room literal here (λ e. let low = some literal (contained clause literal here) in omega arith))

-- the resolvent, by members
pub resolvent_marked : (old grown unmarked new : List Bool) (clause : List Literal) (pivot : ℕ) → SameMarks grown old → HasRoom grown clause →
    Clash (clause_of old) clause pivot → unmarked ≡ without pivot grown → new ≡ with_marks pivot clause unmarked →
    IsResolvent (clause_of old) clause pivot (clause_of new)
resolvent_marked old grown unmarked new clause pivot same room clash unmarked_is new_is = record {
  clash = clash;
  clause = marks_ascend new;
  members = λ literal. (
    (λ here. there literal (subst (λ (marks : List Bool). is_marked marks (code literal) ≡ true) new_is (in_marked new literal (among (clause_of new) literal here)))),
    (λ both. contained (clause_of new) literal (marked_in new literal (subst (λ (marks : List Bool). is_marked marks (code literal) ≡ true) (sym new_is) (back literal (both.0) (both.1))))),
  );
}
  where
    there : (literal : Literal) → is_marked (with_marks pivot clause unmarked) (code literal) ≡ true →
        (Contains (clause_of old) literal ⊎ Contains clause literal) × (literal.variable ≢ pivot)
    there literal marked = elim (with_there pivot clause unmarked literal marked) [
      | inr (here, apart) ↦ (inr (contained clause literal here), apart)
      | inl left ↦
          let (apart, is) = without_there pivot grown literal (subst (λ (marks : List Bool). is_marked marks (code literal) ≡ true) unmarked_is left) in
          (inl (contained (clause_of old) literal (marked_in old literal (sym (same (code literal)) ∙ is))), apart)
    ]

    room_then : HasRoom unmarked clause
    room_then literal here =
        let low = room literal here in
        let len : length unmarked ≡ length grown = ap length unmarked_is ∙ length-set (set grown (2 * pivot) false) (2 * pivot + 1) false ∙ length-set grown (2 * pivot) false in omega arith

    back : (literal : Literal) → Contains (clause_of old) literal ⊎ Contains clause literal → literal.variable ≢ pivot →
        is_marked (with_marks pivot clause unmarked) (code literal) ≡ true
    back literal (inl one) apart = with_kept pivot clause unmarked (code literal)
        (subst (λ (marks : List Bool). is_marked marks (code literal) ≡ true) (sym unmarked_is)
        (without_kept pivot grown literal apart (same (code literal) ∙ in_marked old literal (among (clause_of old) literal one))))
    back literal (inr two) apart = with_here pivot clause unmarked room_then literal (among clause literal two) apart

-- ---- which literals were touched

in_more : (xs : List Literal) (y x : Literal) → IsIn xs x → IsIn (xs ++ y ∷ []) x
in_more [] y x none = absurd none
in_more (z ∷ xs) y x (inl is) = inl is
in_more (z ∷ xs) y x (inr here) = inr (in_more xs y x here)

in_last : (xs : List Literal) (y x : Literal) → y ≡ x → IsIn (xs ++ y ∷ []) x
in_last [] y x is = inl is
in_last (z ∷ xs) y x is = inr (in_last xs y x is)

pub covered_put : (marks : List Bool) (touched after : List Literal) (literal : Literal) (place : ℕ) (done : Bool) → place ≡ code literal → IsCovered marks touched →
    done ≡ true → after ≡ (if done then touched ++ literal ∷ [] else touched) → IsCovered (set marks place true) after
covered_put marks touched after literal place done place_is covered done_is after_is number is =
    subst (λ (xs : List Literal). IsIn xs (literal_at number)) (sym after_then) (elim (set_cases marks place true number is) [
      | inl (same, _) ↦ in_last touched literal (literal_at number) (sym (ap literal_at (same ∙ place_is) ∙ at_code literal))
      | inr (apart, there) ↦ in_more touched literal (literal_at number) (covered number there)
    ])
  where
    after_then : after ≡ touched ++ literal ∷ []
    after_then = after_is ∙ rw done_is refl

pub covered_cleared : (marks : List Bool) (touched : List Literal) (index : ℕ) (item : Literal) (place : ℕ) → index < length touched → item ≡ get_or touched index item →
    place ≡ code item → IsCovered marks (drop index touched) → IsCovered (set marks place false) (drop (index + 1) touched)
covered_cleared marks touched index item place low item_is place_is covered number is =
    let (apart, there) = erased marks place number is in
    by apart (subst (λ (xs : List Literal). IsIn xs (literal_at number)) (drop_more touched index item low) (covered number there))
  where
    by : number ≢ place → IsIn (get_or touched index item ∷ drop (index + 1) touched) (literal_at number) → IsIn (drop (index + 1) touched) (literal_at number)
    by apart (inr later) = later
    by apart (inl same) = absurd (apart (sym (code_at number) ∙ ap code (sym same ∙ sym item_is) ∙ sym place_is))

pub none_left : (marks : List Bool) (touched : List Literal) (index : ℕ) → length touched ≤ index → IsCovered marks (drop index touched) →
    (number : ℕ) → is_marked marks number ≡ false
none_left marks touched index past covered number = by (is_marked marks number) refl
  where
    by : (b : Bool) → is_marked marks number ≡ b → b ≡ false
    by false e = refl
    by true e = absurd (subst (λ (xs : List Literal). IsIn xs (literal_at number)) (drop_all index touched past) (covered number e))

pub covered_same : (one other : List Bool) (touched after : List Literal) → SameMarks one other → after ≡ touched → IsCovered other touched → IsCovered one after
covered_same one other touched after same after_is covered number is =
    subst (λ (xs : List Literal). IsIn xs (literal_at number)) (sym after_is) (covered number (sym (same number) ∙ is))

pub covered_without : (marks unmarked : List Bool) (touched : List Literal) (variable : ℕ) → unmarked ≡ without variable marks → IsCovered marks touched → IsCovered unmarked touched
covered_without marks unmarked touched variable unmarked_is covered number is =
    let (apart, there) = erased (set marks (2 * variable) false) (2 * variable + 1) number (subst (λ (m : List Bool). is_marked m number ≡ true) unmarked_is is) in
    let (other, here) = erased marks (2 * variable) number there in covered number here

-- one literal more of a clause is marked
pub with_next : (variable : ℕ) (clause : List Literal) (index : ℕ) (item : Literal) (marks new whole : List Bool) → index < length clause → item ≡ get_or clause index item →
    new ≡ marked_with variable item marks → with_marks variable (drop index clause) marks ≡ whole → with_marks variable (drop (index + 1) clause) new ≡ whole
with_next variable clause index item marks new whole low item_is new_is so_far =
    let rest = drop (index + 1) clause in
    ap (with_marks variable rest) (new_is ∙ ap (λ (l : Literal). marked_with variable l marks) item_is)
    ∙ sym (ap (λ (ls : List Literal). with_marks variable ls marks) (drop_more clause index item low)) ∙ so_far

-- ---- a test, and behind it another one

module _ (P Q : Type 0) (first : Bool) (h : IsTrue first ↔ P) where
  pub both_then : (second : Bool) → first ≡ true → (IsTrue second ↔ Q) → IsTrue second ↔ (P × Q)
  both_then second is k = ((λ e. (h.0 is, k.0 e)), (λ p. k.1 p.1))

  pub both_else : first ≡ false → IsTrue first ↔ (P × Q)
  both_else is = ((λ e. absurd (false≢true (sym is ∙ e))), (λ p. h.1 p.0))

  pub alone_then : (second : Bool) → first ≡ true → (IsTrue second ↔ Q) → IsTrue (not second) ↔ (P × (Q → ⊥))
  alone_then true is k = ((λ e. absurd (false≢true e)), (λ p. absurd (p.1 (k.0 refl))))
  alone_then false is k = ((λ e. (h.0 is, (λ q. false≢true (k.1 q)))), (λ p. refl))

-- ---- room

pub item_in : (clause : List Literal) (index : ℕ) (item : Literal) → index < length clause → item ≡ get_or clause index item → IsIn clause item
item_in [] index item low is = absurd (omega arith)
item_in (first ∷ clause) zero item low is = inl (sym is)
item_in (first ∷ clause) (suc index) item low is = inr (item_in clause index item (omega arith) is)

-- no literal of a clause has a greater number than the last
last_most : (first : Literal) (clause : List Literal) (index : ℕ) (last : Literal) → IsClause (first ∷ clause) → suc index ≡ length (first ∷ clause) →
    last ≡ get_or (first ∷ clause) index last → (literal : Literal) → IsIn (first ∷ clause) literal → code literal ≤ code last
last_most first [] index last is at last_is literal (inr none) = absurd none
last_most first [] zero last is at last_is literal (inl same) = let e : literal ≡ last = sym same ∙ sym last_is in omega (arith, ap code e)
last_most first [] (suc index) last is at last_is literal (inl same) = absurd (omega arith)
last_most first (second ∷ clause) zero last is at last_is literal here = absurd (omega arith)
last_most first (second ∷ clause) (suc index) last is at last_is literal (inr later) =
    last_most second clause index last is.1 (omega arith) last_is literal later
last_most first (second ∷ clause) (suc index) last is at last_is literal (inl same) =
    let less : code first < code second = clause_low first (second ∷ clause) is second (inl refl) in
    let most = last_most second clause index last is.1 (omega arith) last_is second (inl refl) in
    let e : code first ≡ code literal = ap code same in omega arith

pub room_for : (clause : List Literal) (last : Literal) (marks : List Bool) → IsClause clause → 0 < length clause → last ≡ get_or clause (length clause - 1) last →
    code last < length marks → HasRoom marks clause
room_for [] last marks is some last_is low literal here = absurd here
room_for (first ∷ clause) last marks is some last_is low literal here =
    let index : length (first ∷ clause) - 1 ≡ length clause = omega arith in
    let at = subst (λ (n : ℕ). last ≡ get_or (first ∷ clause) n last) index last_is in
    let most = last_most first clause (length clause) last is (omega arith) at literal here in omega arith

pub same_grown : (marks grown : List Bool) (n more : ℕ) → length marks ≤ n → grown ≡ take n marks ++ replicate more false → SameMarks grown marks
same_grown marks grown n more low grown_is number = ap (λ (m : List Bool). is_marked m number) (grown_is ∙ ap (λ (m : List Bool). m ++ replicate more false) (take_all n marks low)) ∙ by marks number
  where
    nothing : (more number : ℕ) → is_marked (replicate more false) number ≡ false
    nothing zero number = refl
    nothing (suc more) zero = refl
    nothing (suc more) (suc number) = nothing more number

    by : (marks : List Bool) (number : ℕ) → is_marked (marks ++ replicate more false) number ≡ is_marked marks number
    by [] number = nothing more number
    by (mark ∷ marks) zero = refl
    by (mark ∷ marks) (suc number) = by marks number

pub on_err : {T E : Type 0} (P : Type 0) (result : Result T E) → P → OnErr result P
on_err P (Ok value) p = tt
on_err P (Err error) p = p
