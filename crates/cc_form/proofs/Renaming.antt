-- The clauses of terms under a renaming of variables that keeps their order.
use Rattle.std.proofs.Common.{inl, inr, ◌≡◌, ◌∙◌, ℕ, ◌+◌, ◌<◌, ◌≤◌, Bool, true, false, not, ◌&&◌, ◌||◌, List, [], ◌∷◌, ◌++◌, map, nat_lt, refl, sym, ap, arith, eq-eqb, ne_eqb}
use Rattle.std.specs.Prelude.{if◌then◌else◌, ◌==◌}
use Rattle.std.specs.Bool.{beq}
use Rattle.std.specs.List.{list_any}
use Rattle.std.proofs.lemmas.Bool.{cases_lt, lt-ltb, le-ltb}
use Rattle.std.proofs.lemmas.List.{map-append}
use Rattle.cc_defs.specs.declared.node.Node.TheVariants as nodes
use Rattle.cc_defs.specs.ClauseForms.{Made, MadeAll, all_clauses, all_written, any_clauses, atom_variable, in_order, is_before, is_tautology, made_all, made_any, made_of, made_operands, made_same, positive, put, same_clauses, same_literal, true_variable, written}
use Rattle.cc_defs.specs.Clauses.{Literal, opposite}
use Rattle.cc_defs.specs.Terms.{Ground, Operands, Fits, nothing, and_then}
use Rattle.cc_defs.specs.Terms as terms
use Rattle.cc_defs.specs.TimedRules.{moved, moved_operands}
use Rattle.cc_form.specs.Moving.{renamed, renamed_all, renamed_clauses, renamed_made}
use Rattle.cc_form.proofs.Good.{operands_well, term_well}
use Rattle.cc_form.proofs.Meaning.{AtomsFit, AtomsFitIn}

module _ (name : ℕ → ℕ) (rises : (a b : ℕ) → a < b → name a < name b) where
  abbrev R : Literal → Literal
  R literal = renamed name literal

  -- ---- tests of literals

  same_number : (a b : ℕ) → (name a == name b) ≡ (a == b)
  same_number a b = elim (cases_lt a b) [
    | inl less ↦ let up = rises a b less in ne_eqb (name a) (name b) (λ e. omega arith) ∙ sym (ne_eqb a b (λ e. omega arith))
    | inr most ↦ elim (cases_lt b a) [
      | inl more ↦ let up = rises b a more in ne_eqb (name a) (name b) (λ e. omega arith) ∙ sym (ne_eqb a b (λ e. omega arith))
      | inr least ↦ let e : a ≡ b = omega arith in eq-eqb (name a) (name b) (ap name e) ∙ sym (eq-eqb a b e)
    ]
  ]

  less_number : (a b : ℕ) → nat_lt (name a) (name b) ≡ nat_lt a b
  less_number a b = elim (cases_lt a b) [
    | inl less ↦ lt-ltb (name a) (name b) (rises a b less) ∙ sym (lt-ltb a b less)
    | inr most ↦ elim (cases_lt b a) [
      | inl more ↦ let up = rises b a more in le-ltb (name a) (name b) (omega arith) ∙ sym (le-ltb a b most)
      | inr least ↦
          let e : a ≡ b = omega arith in
          let same : name a ≡ name b = ap name e in
          le-ltb (name a) (name b) (omega arith) ∙ sym (le-ltb a b most)
    ]
  ]

  same_renamed : (a b : Literal) → same_literal (R a) (R b) ≡ same_literal a b
  same_renamed a b = ap (λ (e : Bool). e && beq a.positive b.positive) (same_number a.variable b.variable)

  before_renamed : (a b : Literal) → is_before (R a) (R b) ≡ is_before a b
  before_renamed a b =
      ap (λ (e : Bool). e || ((name a.variable == name b.variable) && (not a.positive && b.positive))) (less_number a.variable b.variable)
      ∙ ap (λ (e : Bool). nat_lt a.variable b.variable || (e && (not a.positive && b.positive))) (same_number a.variable b.variable)

  -- ---- clauses as they are written

  put_renamed : (l : Literal) (xs : List Literal) → put (R l) (map R xs) ≡ map R (put l xs)
  put_renamed l [] = refl
  put_renamed l (x ∷ xs) =
      ap (λ (b : Bool). if b then R x ∷ map R xs else (if is_before (R l) (R x) then R l ∷ R x ∷ map R xs else R x ∷ put (R l) (map R xs))) (same_renamed l x)
      ∙ ap (λ (b : Bool). if same_literal l x then R x ∷ map R xs else (if b then R l ∷ R x ∷ map R xs else R x ∷ put (R l) (map R xs))) (before_renamed l x)
      ∙ ap (λ (ys : List Literal). if same_literal l x then R x ∷ map R xs else (if is_before l x then R l ∷ R x ∷ map R xs else R x ∷ ys)) (put_renamed l xs)
      ∙ chosen (same_literal l x) (is_before l x)
    where
      chosen : (b c : Bool) → (if b then R x ∷ map R xs else (if c then R l ∷ R x ∷ map R xs else R x ∷ map R (put l xs))) ≡ map R (if b then x ∷ xs else (if c then l ∷ x ∷ xs else x ∷ put l xs))
      chosen true c = refl
      chosen false true = refl
      chosen false false = refl

  ordered_renamed : (xs : List Literal) → in_order (map R xs) ≡ map R (in_order xs)
  ordered_renamed [] = refl
  ordered_renamed (x ∷ xs) = ap (put (R x)) (ordered_renamed xs) ∙ put_renamed x (in_order xs)

  any_renamed : (p q : Literal → Bool) → ((x : Literal) → p (R x) ≡ q x) → (xs : List Literal) → list_any p (map R xs) ≡ list_any q xs
  any_renamed p q is [] = refl
  any_renamed p q is (x ∷ xs) = ap (λ (b : Bool). b || list_any p (map R xs)) (is x) ∙ ap (λ (b : Bool). q x || b) (any_renamed p q is xs)

  tautology_renamed : (xs : List Literal) → is_tautology (map R xs) ≡ is_tautology xs
  tautology_renamed xs =
      any_renamed (λ l. list_any (same_literal (opposite l)) (map R xs)) (λ l. list_any (same_literal (opposite l)) xs)
      (λ x. any_renamed (same_literal (opposite (R x))) (same_literal (opposite x)) (λ y. same_renamed (opposite x) y) xs) xs

  written_renamed : (xs : List Literal) → written (map R xs) ≡ renamed_clauses name (written xs)
  written_renamed xs =
      ap (λ (b : Bool). if b then [] else in_order (map R xs) ∷ []) (tautology_renamed xs)
      ∙ ap (λ (ys : List Literal). if is_tautology xs then [] else ys ∷ []) (ordered_renamed xs) ∙ chosen (is_tautology xs)
    where
      chosen : (b : Bool) → (if b then [] else map R (in_order xs) ∷ []) ≡ renamed_clauses name (if b then [] else in_order xs ∷ [])
      chosen true = refl
      chosen false = refl

  pub all_written_renamed : (cs : List (List Literal)) → all_written (renamed_clauses name cs) ≡ renamed_clauses name (all_written cs)
  all_written_renamed [] = refl
  all_written_renamed (c ∷ cs) =
      ap (λ (w : List (List Literal)). w ++ all_written (renamed_clauses name cs)) (written_renamed c)
      ∙ ap (λ (w : List (List Literal)). renamed_clauses name (written c) ++ w) (all_written_renamed cs)
      ∙ sym (map-append (map R) (written c) (all_written cs))

  -- ---- definitions

  each_renamed : (a : Literal) (xs : List Literal) → map (λ l. R a ∷ l ∷ []) (map R xs) ≡ renamed_clauses name (map (λ l. a ∷ l ∷ []) xs)
  each_renamed a [] = refl
  each_renamed a (x ∷ xs) = ap (λ (w : List (List Literal)). (R a ∷ R x ∷ []) ∷ w) (each_renamed a xs)

  pub each_opposite_renamed : (a : Literal) (xs : List Literal) → map (λ l. R a ∷ opposite l ∷ []) (map R xs) ≡ renamed_clauses name (map (λ l. a ∷ opposite l ∷ []) xs)
  each_opposite_renamed a [] = refl
  each_opposite_renamed a (x ∷ xs) = ap (λ (w : List (List Literal)). (R a ∷ opposite (R x) ∷ []) ∷ w) (each_opposite_renamed a xs)

  opposites_renamed : (xs : List Literal) → map opposite (map R xs) ≡ map R (map opposite xs)
  opposites_renamed [] = refl
  opposites_renamed (x ∷ xs) = ap (λ (w : List Literal). opposite (R x) ∷ w) (opposites_renamed xs)

  all_clauses_renamed : (x : Literal) (xs : List Literal) → all_clauses (R x) (map R xs) ≡ renamed_clauses name (all_clauses x xs)
  all_clauses_renamed x xs =
      ap (λ (w : List (List Literal)). w ++ (R x ∷ map opposite (map R xs)) ∷ []) (each_renamed (opposite x) xs)
      ∙ ap (λ (o : List Literal). renamed_clauses name (map (λ l. opposite x ∷ l ∷ []) xs) ++ (R x ∷ o) ∷ []) (opposites_renamed xs)
      ∙ sym (map-append (map R) (map (λ l. opposite x ∷ l ∷ []) xs) ((x ∷ map opposite xs) ∷ []))

  pub any_clauses_renamed : (x : Literal) (xs : List Literal) → any_clauses (R x) (map R xs) ≡ renamed_clauses name (any_clauses x xs)
  any_clauses_renamed x xs = ap (λ (w : List (List Literal)). (R (opposite x) ∷ map R xs) ∷ w) (each_opposite_renamed x xs)

  -- ---- terms

  abbrev mk : Literal → ℕ → List (List Literal) → Made
  mk literal last clauses = record { literal = literal; last = last; clauses = clauses }

  abbrev all : List Literal → ℕ → List (List Literal) → MadeAll
  all literals last clauses = record { literals = literals; last = last; clauses = clauses }

  module _ (sizes others : List ℕ) (by high : ℕ) (truth : name (true_variable sizes) ≡ true_variable others)
      (own : (n : ℕ) → true_variable sizes ≤ n → name (n + 1) ≡ n + high + 1)
      (atoms : (position value : ℕ) → Fits sizes (nodes.Atom position value) → atom_variable others (by + position) value ≡ name (atom_variable sizes position value)) where
    abbrev T : ℕ
    T = true_variable sizes

    truth_renamed : positive (true_variable others) ≡ R (positive T)
    truth_renamed = ap positive (sym truth)

    -- a variable of its own, with clauses behind others
    own_renamed : (clauses : List (List Literal)) (top : ℕ) (defined : Literal → List (List Literal)) (meant : List (List Literal)) → T ≤ top →
        (defined (R (positive (top + 1))) ≡ renamed_clauses name meant) →
        mk (positive (top + high + 1)) (top + high + 1) (renamed_clauses name clauses ++ all_written (defined (positive (top + high + 1)))) ≡ renamed_made name high (mk (positive (top + 1)) (top + 1) (clauses ++ all_written meant))
    own_renamed clauses top defined meant most is =
        ap (λ (l : Literal). mk l (top + high + 1) (renamed_clauses name clauses ++ all_written (defined l))) (ap positive (sym (own top most)))
        ∙ ap (λ (n : ℕ). mk (R (positive (top + 1))) n (renamed_clauses name clauses ++ all_written (defined (R (positive (top + 1)))))) (let e : top + high + 1 ≡ top + 1 + high = omega arith in e)
        ∙ ap (λ (w : List (List Literal)). mk (R (positive (top + 1))) (top + 1 + high) (renamed_clauses name clauses ++ all_written w)) is
        ∙ ap (λ (w : List (List Literal)). mk (R (positive (top + 1))) (top + 1 + high) (renamed_clauses name clauses ++ w)) (all_written_renamed meant)
        ∙ ap (λ (w : List (List Literal)). mk (R (positive (top + 1))) (top + 1 + high) w) (sym (map-append (map R) clauses (all_written meant)))

    made_all_renamed : (made : MadeAll) → T ≤ made.last → (literals : List Literal) →
        made_all (positive (true_variable others)) (renamed_all name high made) (map R literals) ≡ renamed_made name high (made_all (positive T) made literals)
    made_all_renamed made most [] = ap (λ (l : Literal). mk l (made.last + high) (renamed_clauses name made.clauses)) truth_renamed
    made_all_renamed made most (x ∷ []) = refl
    made_all_renamed made most (x ∷ y ∷ xs) =
        own_renamed made.clauses made.last (λ l. all_clauses l (map R (x ∷ y ∷ xs))) (all_clauses (positive (made.last + 1)) (x ∷ y ∷ xs)) most (all_clauses_renamed (positive (made.last + 1)) (x ∷ y ∷ xs))

    made_any_renamed : (made : MadeAll) → T ≤ made.last → (literals : List Literal) →
        made_any (positive (true_variable others)) (renamed_all name high made) (map R literals) ≡ renamed_made name high (made_any (positive T) made literals)
    made_any_renamed made most [] = ap (λ (l : Literal). mk (opposite l) (made.last + high) (renamed_clauses name made.clauses)) truth_renamed
    made_any_renamed made most (x ∷ []) = refl
    made_any_renamed made most (x ∷ y ∷ xs) =
        own_renamed made.clauses made.last (λ l. any_clauses l (map R (x ∷ y ∷ xs))) (any_clauses (positive (made.last + 1)) (x ∷ y ∷ xs)) most (any_clauses_renamed (positive (made.last + 1)) (x ∷ y ∷ xs))

    made_same_renamed : (f g : Made) → T ≤ g.last → made_same (renamed_made name high f) (renamed_made name high g) ≡ renamed_made name high (made_same f g)
    made_same_renamed f g most =
        ap (λ (w : List (List Literal)). mk (positive (g.last + high + 1)) (g.last + high + 1) (w ++ all_written (same_clauses (positive (g.last + high + 1)) (R f.literal) (R g.literal)))) (sym (map-append (map R) f.clauses g.clauses))
        ∙ own_renamed (f.clauses ++ g.clauses) g.last (λ l. same_clauses l (R f.literal) (R g.literal)) (same_clauses (positive (g.last + 1)) f.literal g.literal) most refl

    more_renamed : (one : MadeAll) (other : Made) →
        all (map R one.literals ++ R other.literal ∷ []) (other.last + high) (renamed_clauses name one.clauses ++ renamed_clauses name other.clauses)
        ≡ renamed_all name high (all (one.literals ++ other.literal ∷ []) other.last (one.clauses ++ other.clauses))
    more_renamed one other =
        ap (λ (l : List Literal). all l (other.last + high) (renamed_clauses name one.clauses ++ renamed_clauses name other.clauses)) (sym (map-append R one.literals (other.literal ∷ [])))
        ∙ ap (λ (w : List (List Literal)). all (map R (one.literals ++ other.literal ∷ [])) (other.last + high) w) (sym (map-append (map R) one.clauses other.clauses))

    mutual
      pub term_renamed : (f : Ground) (last : ℕ) → AtomsFit sizes f → T ≤ last → made_of others (last + high) (moved by f) ≡ renamed_made name high (made_of sizes last f)
      term_renamed terms.Truth last fit most = ap (λ (l : Literal). mk l (last + high) []) truth_renamed
      term_renamed terms.Falsehood last fit most = ap (λ (l : Literal). mk (opposite l) (last + high) []) truth_renamed
      term_renamed (terms.Atom position value) last fit most = ap (λ (n : ℕ). mk (positive n) (last + high) []) (atoms position value fit)
      term_renamed (terms.Not f) last fit most = ap (λ (m : Made). mk (opposite m.literal) m.last m.clauses) (term_renamed f last fit most)
      term_renamed (terms.All operands) last fit most =
          ap (λ (m : MadeAll). made_all (positive (true_variable others)) m m.literals) (operands_renamed operands last fit most)
          ∙ made_all_renamed (made_operands sizes last operands) (let well = operands_well sizes operands last fit most in let up = well.rises in omega arith) (made_operands sizes last operands).literals
      term_renamed (terms.Any operands) last fit most =
          ap (λ (m : MadeAll). made_any (positive (true_variable others)) m m.literals) (operands_renamed operands last fit most)
          ∙ made_any_renamed (made_operands sizes last operands) (let well = operands_well sizes operands last fit most in let up = well.rises in omega arith) (made_operands sizes last operands).literals
      term_renamed (terms.Same f g) last fit most =
          let one = term_well sizes f last fit.0 most in
          let up = one.rises in
          let between : T ≤ (made_of sizes last f).last = omega arith in
          let other = term_well sizes g (made_of sizes last f).last fit.1 between in
          let more = other.rises in
          ap (λ (m : Made). made_same m (made_of others m.last (moved by g))) (term_renamed f last fit.0 most)
          ∙ ap (made_same (renamed_made name high (made_of sizes last f))) (term_renamed g (made_of sizes last f).last fit.1 between)
          ∙ made_same_renamed (made_of sizes last f) (made_of sizes (made_of sizes last f).last g) (omega arith)

      operands_renamed : (operands : Operands) (last : ℕ) → AtomsFitIn sizes operands → T ≤ last → made_operands others (last + high) (moved_operands by operands) ≡ renamed_all name high (made_operands sizes last operands)
      operands_renamed nothing last fit most = refl
      operands_renamed (and_then operands f) last fit most =
          let one = made_operands sizes last operands in
          let well = operands_well sizes operands last fit.0 most in
          let up = well.rises in
          ap (λ (m : MadeAll). let n = made_of others m.last (moved by f) in all (m.literals ++ n.literal ∷ []) n.last (m.clauses ++ n.clauses)) (operands_renamed operands last fit.0 most)
          ∙ ap (λ (n : Made). all (map R one.literals ++ n.literal ∷ []) n.last (renamed_clauses name one.clauses ++ n.clauses)) (term_renamed f one.last fit.1 (omega arith))
          ∙ more_renamed one (made_of sizes one.last f)
