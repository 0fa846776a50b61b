-- Which assignments meet the clauses of a term: those that give each new variable the truth of its part.
use Rattle.std.proofs.Common.{◌≡◌, ◌∙◌, ℕ, suc, ◌+◌, ◌⊎◌, inl, inr, Bool, true, false, not, ◌&&◌, ◌||◌, List, [], ◌∷◌, ◌++◌, length, map, refl, sym, ap, subst, arith, append-nil, length-append}
use Rattle.std.specs.Prelude.{if◌then◌else◌, ◌==◌}
use Rattle.std.specs.Bool.{beq}
use Rattle.std.specs.List.{list_all, list_any}
use Rattle.cc_defs.specs.declared.node.Node.TheVariants as nodes
use Rattle.cc_defs.specs.ClauseForms.{MadeAll, all_clauses, all_written, any_clauses, atom_variable, in_order, is_tautology, made_all, made_any, made_of, made_operands, positive, same_clauses, true_variable, written}
use Rattle.cc_defs.specs.Clauses.{Literal, is_made_true, meets, opposite, IsIn}
use Rattle.cc_defs.specs.Terms.{Ground, Operands, Fits, nothing, and_then, operand_count, postfix, postfixes, truth, all_true, any_true}
use Rattle.cc_defs.specs.Terms as terms
use Rattle.cc_form.specs.Parts.{Agrees, AllMet, IsTermTold}
use Rattle.cc_form.proofs.Ordered.{cases_test, ordered_from, ordered_has}
use Rattle.cc_form.proofs.Written.{any_gives, any_made, equal_tests, tautology_gives}

-- ---- the values of the variables behind a number

pub agrees_left : (a : ℕ → Bool) (last : ℕ) (xs ys : List Bool) → Agrees a last (xs ++ ys) → Agrees a last xs
agrees_left a last [] ys h = tt
agrees_left a last (x ∷ xs) ys h = (h.0, agrees_left a (last + 1) xs ys h.1)

pub agrees_right : (a : ℕ → Bool) (last : ℕ) (xs ys : List Bool) → Agrees a last (xs ++ ys) → Agrees a (last + length xs) ys
agrees_right a last [] ys h = subst (λ (n : ℕ). Agrees a n ys) (let e : last ≡ last + 0 = omega arith in e) h
agrees_right a last (x ∷ xs) ys h = subst (λ (n : ℕ). Agrees a n ys) (let e : last + 1 + length xs ≡ last + suc (length xs) = omega arith in e) (agrees_right a (last + 1) xs ys h.1)

pub agrees_both : (a : ℕ → Bool) (last : ℕ) (xs ys : List Bool) → Agrees a last xs → Agrees a (last + length xs) ys → Agrees a last (xs ++ ys)
agrees_both a last [] ys h k = subst (λ (n : ℕ). Agrees a n ys) (let e : last + 0 ≡ last = omega arith in e) k
agrees_both a last (x ∷ xs) ys h k = (h.0, agrees_both a (last + 1) xs ys h.1 (subst (λ (n : ℕ). Agrees a n ys) (let e : last + suc (length xs) ≡ last + 1 + length xs = omega arith in e) k))

-- ---- clauses that are all met

pub met_left : (a : ℕ → Bool) (xs ys : List (List Literal)) → AllMet a (xs ++ ys) → AllMet a xs
met_left a [] ys h = tt
met_left a (x ∷ xs) ys h = (h.0, met_left a xs ys h.1)

pub met_right : (a : ℕ → Bool) (xs ys : List (List Literal)) → AllMet a (xs ++ ys) → AllMet a ys
met_right a [] ys h = h
met_right a (x ∷ xs) ys h = met_right a xs ys h.1

pub met_both : (a : ℕ → Bool) (xs ys : List (List Literal)) → AllMet a xs → AllMet a ys → AllMet a (xs ++ ys)
met_both a [] ys h k = k
met_both a (x ∷ xs) ys h k = (h.0, met_both a xs ys h.1 k)

not_not : (b : Bool) → not (not b) ≡ b
not_not true = refl
not_not false = refl

pub and_is : (p q : Bool) → p ≡ true → q ≡ true → (p && q) ≡ true
and_is true true e f = refl
and_is true false e f = absurd cc
and_is false q e f = absurd cc

pub or_is : (p q : Bool) → (p ≡ true) ⊎ (q ≡ true) → (p || q) ≡ true
or_is true q h = refl
or_is false q (inl e) = absurd cc
or_is false q (inr e) = e

pub or_gives : (p q : Bool) → (p || q) ≡ true → (p ≡ true) ⊎ (q ≡ true)
or_gives true q e = inl refl
or_gives false q e = inr e

not_true : (p : Bool) → not p ≡ true → p ≡ false
not_true true e = absurd cc
not_true false e = refl

abbrev pub own_values : List Literal → Bool → List Bool
own_values [] b = []
own_values (x ∷ []) b = []
own_values (x ∷ y ∷ xs) b = b ∷ []

-- the values of the variables that a term makes, in order
abbrev mutual
  pub values_of : List ℕ → (ℕ → ℕ) → ℕ → Ground → List Bool
  values_of sizes v last terms.Truth = []
  values_of sizes v last terms.Falsehood = []
  values_of sizes v last (terms.Atom position value) = []
  values_of sizes v last (terms.Not f) = values_of sizes v last f
  values_of sizes v last (terms.All operands) = values_of_operands sizes v last operands ++ own_values (made_operands sizes last operands).literals (all_true v operands)
  values_of sizes v last (terms.Any operands) = values_of_operands sizes v last operands ++ own_values (made_operands sizes last operands).literals (any_true v operands)
  values_of sizes v last (terms.Same f g) = (values_of sizes v last f ++ values_of sizes v (made_of sizes last f).last g) ++ beq (truth v f) (truth v g) ∷ []

  pub values_of_operands : List ℕ → (ℕ → ℕ) → ℕ → Operands → List Bool
  values_of_operands sizes v last nothing = []
  values_of_operands sizes v last (and_then operands f) = values_of_operands sizes v last operands ++ values_of sizes v (made_operands sizes last operands).last f

-- each atom is of a position that is there, and of one of its values
abbrev mutual
  pub AtomsFit : List ℕ → Ground → Type 0
  AtomsFit sizes terms.Truth = Unit {0}
  AtomsFit sizes terms.Falsehood = Unit {0}
  AtomsFit sizes (terms.Atom position value) = Fits sizes (nodes.Atom position value)
  AtomsFit sizes (terms.Not f) = AtomsFit sizes f
  AtomsFit sizes (terms.All operands) = AtomsFitIn sizes operands
  AtomsFit sizes (terms.Any operands) = AtomsFitIn sizes operands
  AtomsFit sizes (terms.Same f g) = AtomsFit sizes f × AtomsFit sizes g

  pub AtomsFitIn : List ℕ → Operands → Type 0
  AtomsFitIn sizes nothing = Unit {0}
  AtomsFitIn sizes (and_then operands f) = AtomsFitIn sizes operands × AtomsFit sizes f

module _ (a : ℕ → Bool) where
  abbrev pub lit : Literal → Bool
  lit literal = is_made_true a literal

  pub opposite_is : (literal : Literal) → lit (opposite literal) ≡ not (lit literal)
  opposite_is literal = turned literal.positive
    where
      turned : (p : Bool) → (if not p then a literal.variable else not (a literal.variable)) ≡ not (if p then a literal.variable else not (a literal.variable))
      turned true = refl
      turned false = sym (not_not (a literal.variable))

  -- ---- a written clause is met where the list is

  among_any : (xs ys : List Literal) → ((l : Literal) → IsIn xs l → IsIn ys l) → list_any lit xs ≡ true → list_any lit ys ≡ true
  among_any xs ys inside e = let found = any_gives lit xs e in any_made lit ys found.0 (inside found.0 found.1) found.2

  tautology_met : (xs : List Literal) → is_tautology xs ≡ true → meets a xs ≡ true
  tautology_met xs e =
      let found = tautology_gives xs e in
      elim (cases_test (lit found.0)) [
        | inl is_so ↦ any_made lit xs found.0 found.1 is_so
        | inr isnt ↦ any_made lit xs (opposite found.0) found.2 (opposite_is found.0 ∙ ap not isnt)
      ]

  pub written_met : (xs : List Literal) → meets a xs ≡ true → AllMet a (written xs)
  written_met xs e = chosen (is_tautology xs)
    where
      chosen : (b : Bool) → AllMet a (if b then [] else in_order xs ∷ [])
      chosen true = tt
      chosen false = (among_any xs (in_order xs) (ordered_has xs) e, tt)

  pub met_written : (xs : List Literal) → AllMet a (written xs) → meets a xs ≡ true
  met_written xs h = elim (cases_test (is_tautology xs)) [
    | inl e ↦ tautology_met xs e
    | inr e ↦ among_any (in_order xs) xs (ordered_from xs) (subst (λ (b : Bool). AllMet a (if b then [] else in_order xs ∷ [])) e h).0
  ]

  pub all_written_met : (xs : List (List Literal)) → AllMet a xs → AllMet a (all_written xs)
  all_written_met [] h = tt
  all_written_met (x ∷ xs) h = met_both a (written x) (all_written xs) (written_met x h.0) (all_written_met xs h.1)

  pub met_all_written : (xs : List (List Literal)) → AllMet a (all_written xs) → AllMet a xs
  met_all_written [] h = tt
  met_all_written (x ∷ xs) h = (met_written x (met_left a (written x) (all_written xs) h), met_all_written xs (met_right a (written x) (all_written xs) h))

  -- ---- definitions

  pub pair_gives : (p q : Literal) → meets a (p ∷ q ∷ []) ≡ true → (lit p ≡ true) ⊎ (lit q ≡ true)
  pair_gives p q e = elim (or_gives (lit p) (lit q || false) e) [
    | inl h ↦ inl h
    | inr h ↦ elim (or_gives (lit q) false h) [ inl k ↦ inr k | inr k ↦ absurd cc ]
  ]

  pub pair_is : (p q : Literal) → (lit p ≡ true) ⊎ (lit q ≡ true) → meets a (p ∷ q ∷ []) ≡ true
  pair_is p q (inl h) = or_is (lit p) (lit q || false) (inl h)
  pair_is p q (inr h) = or_is (lit p) (lit q || false) (inr (or_is (lit q) false (inl h)))

  opposites_any : (xs : List Literal) → list_any lit (map opposite xs) ≡ not (list_all lit xs)
  opposites_any [] = refl
  opposites_any (x ∷ xs) = ap (λ (b : Bool). b || list_any lit (map opposite xs)) (opposite_is x) ∙ ap (λ (b : Bool). not (lit x) || b) (opposites_any xs) ∙ split (lit x) (list_all lit xs)
    where
      split : (p q : Bool) → (not p || not q) ≡ not (p && q)
      split true q = refl
      split false q = refl

  each_of : (x : Literal) (xs : List Literal) → lit x ≡ true → AllMet a (map (λ l. opposite x ∷ l ∷ []) xs) → list_all lit xs ≡ true
  each_of x [] e h = refl
  each_of x (y ∷ xs) e h = and_is (lit y) (list_all lit xs) (elim (pair_gives (opposite x) y h.0) [
    | inl k ↦ let f : not (lit x) ≡ true = sym (opposite_is x) ∙ k in let g : not true ≡ true = subst (λ (b : Bool). not b ≡ true) e f in absurd cc
    | inr k ↦ k
  ]) (each_of x xs e h.1)

  of_each : (x : Literal) (xs : List Literal) → (lit x ≡ true → list_all lit xs ≡ true) → AllMet a (map (λ l. opposite x ∷ l ∷ []) xs)
  of_each x [] f = tt
  of_each x (y ∷ xs) f = (
    pair_is (opposite x) y (elim (cases_test (lit x)) [ inl e ↦ inr (first (lit y) (list_all lit xs) (f e)) | inr e ↦ inl (opposite_is x ∙ ap not e) ]),
    of_each x xs (λ e. rest (lit y) (list_all lit xs) (f e)),
  )
    where
      first : (p q : Bool) → (p && q) ≡ true → p ≡ true
      first true q e = refl
      first false q e = absurd cc

      rest : (p q : Bool) → (p && q) ≡ true → q ≡ true
      rest true q e = e
      rest false q e = absurd cc

  pub met_all : (x : Literal) (xs : List Literal) → AllMet a (all_clauses x xs) → lit x ≡ list_all lit xs
  met_all x xs h = equal_tests (lit x) (list_all lit xs)
      (λ e. each_of x xs e (met_left a (map (λ l. opposite x ∷ l ∷ []) xs) ((x ∷ map opposite xs) ∷ []) h))
      (λ e. elim (or_gives (lit x) (list_any lit (map opposite xs)) (met_right a (map (λ l. opposite x ∷ l ∷ []) xs) ((x ∷ map opposite xs) ∷ []) h).0) [
        | inl k ↦ k
        | inr k ↦ let f : not true ≡ true = subst (λ (b : Bool). not b ≡ true) e (sym (opposites_any xs) ∙ k) in absurd cc
      ])

  pub all_met : (x : Literal) (xs : List Literal) → lit x ≡ list_all lit xs → AllMet a (all_clauses x xs)
  all_met x xs e = met_both a (map (λ l. opposite x ∷ l ∷ []) xs) ((x ∷ map opposite xs) ∷ []) (of_each x xs (λ f. sym e ∙ f))
      (or_is (lit x) (list_any lit (map opposite xs)) (elim (cases_test (lit x)) [ inl f ↦ inl f | inr f ↦ inr (opposites_any xs ∙ ap not (sym e ∙ f)) ]), tt)

  with_each : (x : Literal) (xs : List Literal) → AllMet a (map (λ l. x ∷ opposite l ∷ []) xs) → list_any lit xs ≡ true → lit x ≡ true
  with_each x [] h e = absurd cc
  with_each x (y ∷ xs) h e = elim (or_gives (lit y) (list_any lit xs) e) [
    | inl f ↦ elim (pair_gives x (opposite y) h.0) [
      | inl k ↦ k
      | inr k ↦ let g : not true ≡ true = subst (λ (b : Bool). not b ≡ true) f (sym (opposite_is y) ∙ k) in absurd cc
    ]
    | inr f ↦ with_each x xs h.1 f
  ]

  each_with : (x : Literal) (xs : List Literal) → (list_any lit xs ≡ true → lit x ≡ true) → AllMet a (map (λ l. x ∷ opposite l ∷ []) xs)
  each_with x [] f = tt
  each_with x (y ∷ xs) f = (
    pair_is x (opposite y) (elim (cases_test (lit y)) [ inl e ↦ inl (f (or_is (lit y) (list_any lit xs) (inl e))) | inr e ↦ inr (opposite_is y ∙ ap not e) ]),
    each_with x xs (λ e. f (or_is (lit y) (list_any lit xs) (inr e))),
  )

  pub met_any : (x : Literal) (xs : List Literal) → AllMet a (any_clauses x xs) → lit x ≡ list_any lit xs
  met_any x xs h = equal_tests (lit x) (list_any lit xs)
      (λ e. elim (or_gives (lit (opposite x)) (list_any lit xs) h.0) [
        | inl k ↦ let g : not true ≡ true = subst (λ (b : Bool). not b ≡ true) e (sym (opposite_is x) ∙ k) in absurd cc
        | inr k ↦ k
      ])
      (with_each x xs h.1)

  pub any_met : (x : Literal) (xs : List Literal) → lit x ≡ list_any lit xs → AllMet a (any_clauses x xs)
  any_met x xs e = (
    or_is (lit (opposite x)) (list_any lit xs) (elim (cases_test (lit x)) [ inl f ↦ inr (sym e ∙ f) | inr f ↦ inl (opposite_is x ∙ ap not f) ]),
    each_with x xs (λ f. e ∙ f),
  )

  three : Bool → Bool → Bool → Type 0
  three x f g = ((not x || (not f || (g || false))) ≡ true) × (((not x || (f || (not g || false))) ≡ true) × (((x || (f || (g || false))) ≡ true) × (((x || (not f || (not g || false))) ≡ true) × Unit {0})))

  three_is : (x f g : Bool) → three x f g → x ≡ beq f g
  unfolding three
  three_is true true true h = refl
  three_is true true false h = sym h.0
  three_is true false true h = sym h.1.0
  three_is true false false h = refl
  three_is false true true h = h.1.1.1.0
  three_is false true false h = refl
  three_is false false true h = refl
  three_is false false false h = h.1.1.0

  is_three : (x f g : Bool) → x ≡ beq f g → three x f g
  unfolding three
  is_three true true true e = (refl, (refl, (refl, (refl, tt))))
  is_three true true false e = absurd cc
  is_three true false true e = absurd cc
  is_three true false false e = (refl, (refl, (refl, (refl, tt))))
  is_three false true true e = absurd cc
  is_three false true false e = (refl, (refl, (refl, (refl, tt))))
  is_three false false true e = (refl, (refl, (refl, (refl, tt))))
  is_three false false false e = absurd cc

  same_three : (x f g : Literal) → AllMet a (same_clauses x f g) ≡ three (lit x) (lit f) (lit g)
  unfolding three
  same_three x f g = rw (opposite_is x, opposite_is f, opposite_is g) refl

  pub met_same : (x f g : Literal) → AllMet a (same_clauses x f g) → lit x ≡ beq (lit f) (lit g)
  met_same x f g h = three_is (lit x) (lit f) (lit g) (subst (λ (t : Type 0). t) (same_three x f g) h)

  pub same_met : (x f g : Literal) → lit x ≡ beq (lit f) (lit g) → AllMet a (same_clauses x f g)
  same_met x f g e = subst (λ (t : Type 0). t) (sym (same_three x f g)) (is_three (lit x) (lit f) (lit g) e)

  pub one_true : (l : Literal) → meets a (l ∷ []) ≡ true → lit l ≡ true
  one_true l e = elim (or_gives (lit l) false e) [ inl h ↦ h | inr h ↦ absurd cc ]

  -- ---- what clauses with new variables tell

  pub record AreTold (last : ℕ) (made : MadeAll) (values : List Bool) (all any : Bool) : Type 0 where
    pub ends : made.last ≡ last + length values
    pub meets : AllMet a made.clauses → Agrees a last values
    pub agrees : Agrees a last values → AllMet a made.clauses
    pub all_are : Agrees a last values → list_all lit made.literals ≡ all
    pub any_is : Agrees a last values → list_any lit made.literals ≡ any

  -- with one more variable, which a condition of clauses gives its value
  one_more : (last : ℕ) (values : List Bool) (b : Bool) (top : ℕ) (before defining : List (List Literal)) → top ≡ last + length values →
      (AllMet a before → Agrees a last values) → (Agrees a last values → AllMet a before) →
      (Agrees a last values → AllMet a defining → a (top + 1) ≡ b) → (Agrees a last values → a (top + 1) ≡ b → AllMet a defining) →
      IsTermTold a last (record { literal = positive (top + 1); last = top + 1; clauses = before ++ defining }) (values ++ b ∷ []) b
  one_more last values b top before defining ends meets agrees given gives =
      let here : (h : Agrees a last (values ++ b ∷ [])) → a (top + 1) ≡ b = λ h. ap (λ (n : ℕ). a (n + 1)) ends ∙ (agrees_right a last values (b ∷ []) h).0 in
      record {
        ends = (let long = length-append values (b ∷ []) in omega arith);
        meets = λ h.
            let old = meets (met_left a before defining h) in
            agrees_both a last values (b ∷ []) old (sym (ap (λ (n : ℕ). a (n + 1)) ends) ∙ given old (met_right a before defining h), tt);
        agrees = λ h.
            let old = agrees_left a last values (b ∷ []) h in
            met_both a before defining (agrees old) (gives old (here h));
        literal = here;
      }

  plain : (last : ℕ) (made : MadeAll) (values : List Bool) (all any b : Bool) (l : Literal) → AreTold last made values all any → (Agrees a last values → lit l ≡ b) →
      IsTermTold a last (record { literal = l; last = made.last; clauses = made.clauses }) (values ++ []) b
  plain last made values all any b l told is =
      let e = append-nil values in
      subst (λ (vs : List Bool). IsTermTold a last (record { literal = l; last = made.last; clauses = made.clauses }) vs b) (sym e)
      (record { ends = told.ends; meets = told.meets; agrees = told.agrees; literal = is })

  and_last : (p : Bool) → (p && true) ≡ p
  and_last true = refl
  and_last false = refl

  or_last : (p : Bool) → (p || false) ≡ p
  or_last true = refl
  or_last false = refl

  told_all : (t : Literal) → lit t ≡ true → (last : ℕ) (literals : List Literal) (top : ℕ) (clauses : List (List Literal)) (values : List Bool) (all any : Bool) →
      AreTold last (record { literals = literals; last = top; clauses = clauses }) values all any →
      IsTermTold a last (made_all t (record { literals = literals; last = top; clauses = clauses }) literals) (values ++ own_values literals all) all
  told_all t is last [] top clauses values all any told = plain last (record { literals = []; last = top; clauses = clauses }) values all any all t told (λ h. is ∙ told.all_are h)
  told_all t is last (x ∷ []) top clauses values all any told = plain last (record { literals = x ∷ []; last = top; clauses = clauses }) values all any all x told (λ h. sym (and_last (lit x)) ∙ told.all_are h)
  told_all t is last (x ∷ y ∷ xs) top clauses values all any told =
      one_more last values all top clauses (all_written (all_clauses (positive (top + 1)) (x ∷ y ∷ xs))) told.ends told.meets told.agrees
      (λ h k. met_all (positive (top + 1)) (x ∷ y ∷ xs) (met_all_written (all_clauses (positive (top + 1)) (x ∷ y ∷ xs)) k) ∙ told.all_are h)
      (λ h e. all_written_met (all_clauses (positive (top + 1)) (x ∷ y ∷ xs)) (all_met (positive (top + 1)) (x ∷ y ∷ xs) (e ∙ sym (told.all_are h))))

  told_any : (t : Literal) → lit t ≡ true → (last : ℕ) (literals : List Literal) (top : ℕ) (clauses : List (List Literal)) (values : List Bool) (all any : Bool) →
      AreTold last (record { literals = literals; last = top; clauses = clauses }) values all any →
      IsTermTold a last (made_any t (record { literals = literals; last = top; clauses = clauses }) literals) (values ++ own_values literals any) any
  told_any t is last [] top clauses values all any told = plain last (record { literals = []; last = top; clauses = clauses }) values all any any (opposite t) told (λ h. opposite_is t ∙ ap not is ∙ told.any_is h)
  told_any t is last (x ∷ []) top clauses values all any told = plain last (record { literals = x ∷ []; last = top; clauses = clauses }) values all any any x told (λ h. sym (or_last (lit x)) ∙ told.any_is h)
  told_any t is last (x ∷ y ∷ xs) top clauses values all any told =
      one_more last values any top clauses (all_written (any_clauses (positive (top + 1)) (x ∷ y ∷ xs))) told.ends told.meets told.agrees
      (λ h k. met_any (positive (top + 1)) (x ∷ y ∷ xs) (met_all_written (any_clauses (positive (top + 1)) (x ∷ y ∷ xs)) k) ∙ told.any_is h)
      (λ h e. all_written_met (any_clauses (positive (top + 1)) (x ∷ y ∷ xs)) (any_met (positive (top + 1)) (x ∷ y ∷ xs) (e ∙ sym (told.any_is h))))

  -- ---- terms over positions

  module _ (sizes : List ℕ) (v : ℕ → ℕ) (is_true : a (true_variable sizes) ≡ true)
      (atoms : (position value : ℕ) → Fits sizes (nodes.Atom position value) → a (atom_variable sizes position value) ≡ (v position == value)) where
    abbrev pub values : ℕ → Ground → List Bool
    values last f = values_of sizes v last f

    abbrev pub values_in : ℕ → Operands → List Bool
    values_in last operands = values_of_operands sizes v last operands

    abbrev pub Told : ℕ → Ground → Type 0
    Told last f = IsTermTold a last (made_of sizes last f) (values last f) (truth v f)

    abbrev pub ToldIn : ℕ → Operands → Type 0
    ToldIn last operands = AreTold last (made_operands sizes last operands) (values_in last operands) (all_true v operands) (any_true v operands)

    leaf : (last : ℕ) (l : Literal) (b : Bool) → lit l ≡ b → IsTermTold a last (record { literal = l; last = last; clauses = [] }) [] b
    leaf last l b e = record { ends = omega arith; meets = λ h. tt; agrees = λ h. tt; literal = λ h. e }

    told_not : (last : ℕ) (f : Ground) → Told last f → Told last (terms.Not f)
    told_not last f told = record { ends = told.ends; meets = told.meets; agrees = told.agrees; literal = λ h. opposite_is (made_of sizes last f).literal ∙ ap not (told.literal h) }

    -- one behind the other
    module _ (last : ℕ) (xs ys : List Bool) (one other : List (List Literal)) (top : ℕ) (ends : top ≡ last + length xs)
        (meets_one : AllMet a one → Agrees a last xs) (agrees_one : Agrees a last xs → AllMet a one)
        (meets_other : AllMet a other → Agrees a top ys) (agrees_other : Agrees a top ys → AllMet a other) where
      both_meet : AllMet a (one ++ other) → Agrees a last (xs ++ ys)
      both_meet h = agrees_both a last xs ys (meets_one (met_left a one other h)) (subst (λ (n : ℕ). Agrees a n ys) ends (meets_other (met_right a one other h)))

      later : Agrees a last (xs ++ ys) → Agrees a top ys
      later h = subst (λ (n : ℕ). Agrees a n ys) (sym ends) (agrees_right a last xs ys h)

      both_agree : Agrees a last (xs ++ ys) → AllMet a (one ++ other)
      both_agree h = met_both a one other (agrees_one (agrees_left a last xs ys h)) (agrees_other (later h))

    told_same : (last : ℕ) (f g : Ground) → Told last f → Told (made_of sizes last f).last g → Told last (terms.Same f g)
    told_same last f g one other =
        let m = made_of sizes last f in
        let n = made_of sizes m.last g in
        let xs = values last f in
        let ys = values m.last g in
        let x = positive (n.last + 1) in
        one_more last (xs ++ ys) (beq (truth v f) (truth v g)) n.last (m.clauses ++ n.clauses) (all_written (same_clauses x m.literal n.literal))
        (let long = length-append xs ys in let e = one.ends in let k = other.ends in omega arith)
        (both_meet last xs ys m.clauses n.clauses m.last one.ends one.meets one.agrees other.meets other.agrees)
        (both_agree last xs ys m.clauses n.clauses m.last one.ends one.meets one.agrees other.meets other.agrees)
        (λ h k. met_same x m.literal n.literal (met_all_written (same_clauses x m.literal n.literal) k)
        ∙ ap (λ (b : Bool). beq b (lit n.literal)) (one.literal (agrees_left a last xs ys h)) ∙ ap (beq (truth v f)) (other.literal (later last xs ys m.clauses n.clauses m.last one.ends one.meets one.agrees other.meets other.agrees h)))
        (λ h e. all_written_met (same_clauses x m.literal n.literal) (same_met x m.literal n.literal (e
        ∙ sym (ap (λ (b : Bool). beq b (lit n.literal)) (one.literal (agrees_left a last xs ys h)) ∙ ap (beq (truth v f)) (other.literal (later last xs ys m.clauses n.clauses m.last one.ends one.meets one.agrees other.meets other.agrees h))))))

    list_all_last : (xs : List Literal) (l : Literal) → list_all lit (xs ++ l ∷ []) ≡ (list_all lit xs && lit l)
    list_all_last [] l = and_last (lit l)
    list_all_last (x ∷ xs) l = ap (λ (b : Bool). lit x && b) (list_all_last xs l) ∙ joined (lit x) (list_all lit xs) (lit l)
      where
        joined : (p q r : Bool) → (p && (q && r)) ≡ (p && q && r)
        joined true q r = refl
        joined false q r = refl

    list_any_last : (xs : List Literal) (l : Literal) → list_any lit (xs ++ l ∷ []) ≡ (list_any lit xs || lit l)
    list_any_last [] l = or_last (lit l)
    list_any_last (x ∷ xs) l = ap (λ (b : Bool). lit x || b) (list_any_last xs l) ∙ joined (lit x) (list_any lit xs) (lit l)
      where
        joined : (p q r : Bool) → (p || (q || r)) ≡ (p || q || r)
        joined true q r = refl
        joined false q r = refl

    told_more : (last : ℕ) (operands : Operands) (f : Ground) → ToldIn last operands → Told (made_operands sizes last operands).last f → ToldIn last (and_then operands f)
    told_more last operands f all one =
        let m = made_operands sizes last operands in
        let n = made_of sizes m.last f in
        let xs = values_in last operands in
        let ys = values m.last f in
        record {
          ends = (let long = length-append xs ys in let e = all.ends in let k = one.ends in omega arith);
          meets = both_meet last xs ys m.clauses n.clauses m.last all.ends all.meets all.agrees one.meets one.agrees;
          agrees = both_agree last xs ys m.clauses n.clauses m.last all.ends all.meets all.agrees one.meets one.agrees;
          all_are = λ h. list_all_last m.literals n.literal ∙ ap (λ (b : Bool). b && lit n.literal) (all.all_are (agrees_left a last xs ys h))
              ∙ ap (λ (b : Bool). all_true v operands && b) (one.literal (later last xs ys m.clauses n.clauses m.last all.ends all.meets all.agrees one.meets one.agrees h));
          any_is = λ h. list_any_last m.literals n.literal ∙ ap (λ (b : Bool). b || lit n.literal) (all.any_is (agrees_left a last xs ys h))
              ∙ ap (λ (b : Bool). any_true v operands || b) (one.literal (later last xs ys m.clauses n.clauses m.last all.ends all.meets all.agrees one.meets one.agrees h));
        }

    mutual
      pub term_told : (f : Ground) (last : ℕ) → AtomsFit sizes f → Told last f
      term_told terms.Truth last fit = leaf last (positive (true_variable sizes)) true is_true
      term_told terms.Falsehood last fit = leaf last (opposite (positive (true_variable sizes))) false (ap not is_true)
      term_told (terms.Atom position value) last fit = leaf last (positive (atom_variable sizes position value)) (v position == value) (atoms position value fit)
      term_told (terms.Not f) last fit = told_not last f (term_told f last fit)
      term_told (terms.All operands) last fit =
          let m = made_operands sizes last operands in
          told_all (positive (true_variable sizes)) is_true last m.literals m.last m.clauses (values_in last operands) (all_true v operands) (any_true v operands) (operands_told operands last fit)
      term_told (terms.Any operands) last fit =
          let m = made_operands sizes last operands in
          told_any (positive (true_variable sizes)) is_true last m.literals m.last m.clauses (values_in last operands) (all_true v operands) (any_true v operands) (operands_told operands last fit)
      term_told (terms.Same f g) last fit = told_same last f g (term_told f last fit.0) (term_told g (made_of sizes last f).last fit.1)

      pub operands_told : (operands : Operands) (last : ℕ) → AtomsFitIn sizes operands → ToldIn last operands
      operands_told nothing last fit = record { ends = omega arith; meets = λ h. tt; agrees = λ h. tt; all_are = λ h. refl; any_is = λ h. refl }
      operands_told (and_then operands f) last fit = told_more last operands f (operands_told operands last fit.0) (term_told f (made_operands sizes last operands).last fit.1)
