-- The values of the variables of atoms in a row, and the clauses that each position has exactly one value.
use Rattle.std.proofs.Common.{◌≡◌, ◌∙◌, ℕ, zero, suc, ◌+◌, ◌-◌, ◌<◌, inl, inr, Bool, true, false, not, List, [], ◌∷◌, ◌++◌, length, map, sum, slice_get, Some, refl, sym, ap, subst, arith, length-append}
use Rattle.std.specs.Prelude.{◌==◌, slice_index}
use Rattle.std.specs.List.{list_any}
use Rattle.std.proofs.lemmas.Bool.{eqb-true, eq-eqb, ne_eqb, cases_order, cases_lt}
use Rattle.cc_defs.specs.declared.node.Node.TheVariants as nodes
use Rattle.cc_defs.specs.ClauseForms.{atom_variable, first_variable, positive}
use Rattle.cc_defs.specs.ClauseLists.{exactly_one, pairs_denied, position_variables, positions_from}
use Rattle.cc_defs.specs.Clauses.{Literal, is_made_true, meets, opposite, IsIn}
use Rattle.cc_defs.specs.Rows.{IsRow}
use Rattle.cc_defs.specs.Rules.{upto}
use Rattle.cc_defs.specs.Terms.{Fits}
use Rattle.cc_clauses.specs.RowsOf.{HasRow, HasRowFrom, MeetsAll}
use Rattle.cc_form.specs.Parts.{Agrees, AllMet}
use Rattle.cc_form.proofs.Choices.{variables_front}
use Rattle.cc_form.proofs.Meaning.{agrees_both, agrees_left, agrees_right, met_both, met_left, met_right, or_gives, pair_gives, pair_is}
use Rattle.cc_form.proofs.Ordered.{among, contained, cases_test}
use Rattle.cc_form.proofs.Positions.{sum_cons}
use Rattle.cc_form.proofs.Written.{any_made}

-- ---- all clauses, by members and by recursion

pub met_from : (a : ℕ → Bool) (clauses : List (List Literal)) → MeetsAll a clauses → AllMet a clauses
met_from a clauses all = each clauses (λ c h. all c (contained clauses c h))
  where
    each : (cs : List (List Literal)) → ((c : List Literal) → IsIn cs c → meets a c ≡ true) → AllMet a cs
    each [] h = tt
    each (c ∷ cs) h = (h c (inl refl), each cs (λ d k. h d (inr k)))

pub meets_from : (a : ℕ → Bool) (clauses : List (List Literal)) → AllMet a clauses → MeetsAll a clauses
meets_from a clauses all clause has = each clauses all (among clauses clause has)
  where
    each : (cs : List (List Literal)) → AllMet a cs → IsIn cs clause → meets a clause ≡ true
    each [] h k = absurd k
    each (c ∷ cs) h (inl e) = subst (λ (d : List Literal). meets a d ≡ true) e h.0
    each (c ∷ cs) h (inr k) = each cs h.1 k

-- ---- the values of atoms

pub row_values : List ℕ → List ℕ → List Bool
row_values [] row = []
row_values (size ∷ sizes) [] = []
row_values (size ∷ sizes) (index ∷ row) = map (λ value. index == value) (upto size) ++ row_values sizes row

mapped_long : {B : Type 0} (f : ℕ → B) (n : ℕ) → length (map f (upto n)) ≡ n
mapped_long f zero = refl
mapped_long f (suc n) = ap length (map_last f (upto n) n) ∙ length-append (map f (upto n)) (f n ∷ []) ∙ ap (λ (k : ℕ). k + 1) (mapped_long f n) ∙ omega arith
  where
    map_last : {B : Type 0} (f : ℕ → B) (xs : List ℕ) (x : ℕ) → map f (xs ++ x ∷ []) ≡ map f xs ++ f x ∷ []
    map_last f [] x = refl
    map_last f (y ∷ xs) x = ap (λ l. f y ∷ l) (map_last f xs x)

pub mapped_last : {A B : Type 0} (f : A → B) (xs : List A) (x : A) → map f (xs ++ x ∷ []) ≡ map f xs ++ f x ∷ []
mapped_last f [] x = refl
mapped_last f (y ∷ xs) x = ap (λ l. f y ∷ l) (mapped_last f xs x)

pub row_values_long : (sizes row : List ℕ) → IsRow sizes row → length (row_values sizes row) ≡ sum sizes
unfolding row_values
row_values_long [] row is = refl
row_values_long (size ∷ sizes) [] is = absurd is
row_values_long (size ∷ sizes) (index ∷ row) is =
    let all = length-append (map (λ value. index == value) (upto size)) (row_values sizes row) in
    let here = mapped_long (λ value. index == value) size in
    let more = row_values_long sizes row is.1 in
    let s = sum_cons size sizes in
    omega arith

module _ (a : ℕ → Bool) where
  upto_agrees : (last : ℕ) (f : ℕ → Bool) (n : ℕ) → ((value : ℕ) → value < n → a (last + 1 + value) ≡ f value) → Agrees a last (map f (upto n))
  upto_agrees last f zero h = tt
  upto_agrees last f (suc n) h =
      subst (Agrees a last) (sym (mapped_last f (upto n) n))
      (agrees_both a last (map f (upto n)) (f n ∷ []) (upto_agrees last f n (λ value less. h value (omega arith)))
      (ap a (let long = mapped_long f n in let e : last + length (map f (upto n)) + 1 ≡ last + 1 + n = omega arith in e) ∙ h n (omega arith), tt))

  agrees_upto : (last : ℕ) (f : ℕ → Bool) (n : ℕ) → Agrees a last (map f (upto n)) → (value : ℕ) → value < n → a (last + 1 + value) ≡ f value
  agrees_upto last f zero h value less = absurd (omega arith)
  agrees_upto last f (suc n) h value less =
      let whole = subst (Agrees a last) (mapped_last f (upto n) n) h in
      elim (cases_lt value n) [
        | inl below ↦ agrees_upto last f n (agrees_left a last (map f (upto n)) (f n ∷ []) whole) value below
        | inr above ↦
            let same : value ≡ n = omega arith in
            let end = (agrees_right a last (map f (upto n)) (f n ∷ []) whole).0 in
            ap a (let long = mapped_long f n in let e : last + 1 + value ≡ last + length (map f (upto n)) + 1 = omega arith in e) ∙ end ∙ ap f (sym same)
      ]

  pub row_agrees : (last : ℕ) (sizes row : List ℕ) → HasRowFrom (last + 1) sizes a row → Agrees a last (row_values sizes row)
  unfolding row_values
  row_agrees last [] row h = tt
  row_agrees last (size ∷ sizes) [] h = absurd h
  row_agrees last (size ∷ sizes) (index ∷ row) h =
      agrees_both a last (map (λ value. index == value) (upto size)) (row_values sizes row)
      (upto_agrees last (λ value. index == value) size h.0)
      (row_agrees (last + length (map (λ value. index == value) (upto size))) sizes row
      (subst (λ (n : ℕ). HasRowFrom n sizes a row) (let long = mapped_long (λ value. index == value) size in let e : last + 1 + size ≡ last + length (map (λ value. index == value) (upto size)) + 1 = omega arith in e) h.1))

  pub agrees_row : (last : ℕ) (sizes row : List ℕ) → IsRow sizes row → Agrees a last (row_values sizes row) → HasRowFrom (last + 1) sizes a row
  unfolding row_values
  agrees_row last [] row is h = tt
  agrees_row last (size ∷ sizes) [] is h = absurd is
  agrees_row last (size ∷ sizes) (index ∷ row) is h = (
    agrees_upto last (λ value. index == value) size (agrees_left a last (map (λ value. index == value) (upto size)) (row_values sizes row) h),
    subst (λ (n : ℕ). HasRowFrom n sizes a row) (let long = mapped_long (λ value. index == value) size in let e : last + length (map (λ value. index == value) (upto size)) + 1 ≡ last + 1 + size = omega arith in e)
        (agrees_row (last + length (map (λ value. index == value) (upto size))) sizes row is.1 (agrees_right a last (map (λ value. index == value) (upto size)) (row_values sizes row) h)),
  )

  -- ---- an atom has the value that the row gives it

  atom_from : (k : ℕ) (sizes row : List ℕ) → HasRowFrom (k + 1) sizes a row → (position value size : ℕ) → slice_get sizes position ≡ Some size → value < size →
      a (k + atom_variable sizes position value) ≡ (slice_index row position == value)
  atom_from k [] row h position value size at less = absurd cc
  atom_from k (s ∷ sizes) [] h position value size at less = absurd h
  atom_from k (s ∷ sizes) (index ∷ row) h zero value size at less =
      ap a (let e : k + (1 + value) ≡ k + 1 + value = omega arith in e) ∙ h.0 value (let same : s ≡ size = cc in omega arith)
  atom_from k (s ∷ sizes) (index ∷ row) h (suc position) value size at less =
      ap a (let e : k + (s + first_variable sizes position + value) ≡ k + s + (first_variable sizes position + value) = omega arith in e)
      ∙ atom_from (k + s) sizes row (subst (λ (n : ℕ). HasRowFrom n sizes a row) (let e : k + 1 + s ≡ k + s + 1 = omega arith in e) h.1) position value size at less

  pub atom_is : (sizes row : List ℕ) → HasRow sizes a row → (position value : ℕ) → Fits sizes (nodes.Atom position value) → a (atom_variable sizes position value) ≡ (slice_index row position == value)
  atom_is sizes row h position value fits =
      ap a (let e : atom_variable sizes position value ≡ 0 + atom_variable sizes position value = omega arith in e)
      ∙ atom_from 0 sizes row (subst (λ (n : ℕ). HasRowFrom n sizes a row) (let e : 1 ≡ 0 + 1 = omega arith in e) h) position value fits.0 fits.1 fits.2

  -- ---- exactly one value

  -- none of the variables behind one that is true is true
  abbrev Alone : ℕ → ℕ → Type 0
  Alone first n = (i j : ℕ) → i < j → j < n → a (first + i) ≡ true → a (first + j) ≡ true → ⊥

  front_alone : (first n : ℕ) → ((j : ℕ) → j < n → a first ≡ true → a (first + 1 + j) ≡ true → ⊥) → AllMet a (map (λ v. opposite (positive first) ∷ opposite v ∷ []) (position_variables (first + 1) n))
  front_alone first zero h = tt
  front_alone first (suc n) h =
      subst (λ (l : List Literal). AllMet a (map (λ v. opposite (positive first) ∷ opposite v ∷ []) l)) (sym (mapped_last (λ value. positive (first + 1 + value)) (upto n) n))
      (subst (AllMet a) (sym (mapped_last (λ v. opposite (positive first) ∷ opposite v ∷ []) (position_variables (first + 1) n) (positive (first + 1 + n))))
      (met_both a (map (λ v. opposite (positive first) ∷ opposite v ∷ []) (position_variables (first + 1) n)) ((opposite (positive first) ∷ opposite (positive (first + 1 + n)) ∷ []) ∷ [])
      (front_alone first n (λ j less. h j (omega arith))) (
        pair_is a (opposite (positive first)) (opposite (positive (first + 1 + n))) (elim (cases_test (a first)) [
          | inl here ↦ elim (cases_test (a (first + 1 + n))) [
            | inl there ↦ absurd (h n (omega arith) here there)
            | inr no_ ↦ inr (ap not no_)
          ]
          | inr no_ ↦ inl (ap not no_)
        ]),
        tt,
      )))

  pub pairs_met : (n first : ℕ) → Alone first n → AllMet a (pairs_denied (position_variables first n))
  pairs_met zero first alone = tt
  pairs_met (suc n) first alone =
      subst (λ (l : List Literal). AllMet a (pairs_denied l)) (sym (variables_front first n))
      (met_both a (map (λ v. opposite (positive first) ∷ opposite v ∷ []) (position_variables (first + 1) n)) (pairs_denied (position_variables (first + 1) n))
      (front_alone first n (λ j less here there. alone 0 (j + 1) (omega arith) (omega arith) (ap a (let e : first + 0 ≡ first = omega arith in e) ∙ here) (ap a (let e : first + (j + 1) ≡ first + 1 + j = omega arith in e) ∙ there)))
      (pairs_met n (first + 1) (λ i j less within here there.
      alone (i + 1) (j + 1) (omega arith) (omega arith) (ap a (let e : first + (i + 1) ≡ first + 1 + i = omega arith in e) ∙ here) (ap a (let e : first + (j + 1) ≡ first + 1 + j = omega arith in e) ∙ there))))

  alone_front : (first n : ℕ) → AllMet a (map (λ v. opposite (positive first) ∷ opposite v ∷ []) (position_variables (first + 1) n)) → (j : ℕ) → j < n → a first ≡ true → a (first + 1 + j) ≡ true → ⊥
  alone_front first zero h j less here there = omega arith
  alone_front first (suc n) h j less here there =
      let whole = subst (AllMet a) (mapped_last (λ v. opposite (positive first) ∷ opposite v ∷ []) (position_variables (first + 1) n) (positive (first + 1 + n)))
      (subst (λ (l : List Literal). AllMet a (map (λ v. opposite (positive first) ∷ opposite v ∷ []) l)) (mapped_last (λ value. positive (first + 1 + value)) (upto n) n) h) in
      elim (cases_lt j n) [
        | inl below ↦ alone_front first n (met_left a (map (λ v. opposite (positive first) ∷ opposite v ∷ []) (position_variables (first + 1) n)) ((opposite (positive first) ∷ opposite (positive (first + 1 + n)) ∷ []) ∷ []) whole) j below here there
        | inr above ↦
            let same : first + 1 + j ≡ first + 1 + n = omega arith in
            elim (pair_gives a (opposite (positive first)) (opposite (positive (first + 1 + n))) (met_right a (map (λ v. opposite (positive first) ∷ opposite v ∷ []) (position_variables (first + 1) n)) ((opposite (positive first) ∷ opposite (positive (first + 1 + n)) ∷ []) ∷ []) whole).0) [
              | inl no_ ↦ let f : not true ≡ true = subst (λ (b : Bool). not b ≡ true) here no_ in cc
              | inr no_ ↦ let f : not true ≡ true = subst (λ (b : Bool). not b ≡ true) (ap a (sym same) ∙ there) no_ in cc
            ]
      ]

  pub met_pairs : (n first : ℕ) → AllMet a (pairs_denied (position_variables first n)) → Alone first n
  met_pairs zero first h i j less within here there = omega arith
  met_pairs (suc n) first h zero j less within here there =
      let whole = subst (λ (l : List Literal). AllMet a (pairs_denied l)) (variables_front first n) h in
      alone_front first n (met_left a (map (λ v. opposite (positive first) ∷ opposite v ∷ []) (position_variables (first + 1) n)) (pairs_denied (position_variables (first + 1) n)) whole)
      (j - 1) (omega arith) (ap a (let e : first ≡ first + 0 = omega arith in e) ∙ here) (ap a (let e : first + 1 + (j - 1) ≡ first + j = omega arith in e) ∙ there)
  met_pairs (suc n) first h (suc i) j less within here there =
      let whole = subst (λ (l : List Literal). AllMet a (pairs_denied l)) (variables_front first n) h in
      met_pairs n (first + 1) (met_right a (map (λ v. opposite (positive first) ∷ opposite v ∷ []) (position_variables (first + 1) n)) (pairs_denied (position_variables (first + 1) n)) whole)
      i (j - 1) (omega arith) (omega arith) (ap a (let e : first + 1 + i ≡ first + suc i = omega arith in e) ∙ here) (ap a (let e : first + 1 + (j - 1) ≡ first + j = omega arith in e) ∙ there)

  some_variable : (n first index : ℕ) → index < n → a (first + index) ≡ true → list_any (is_made_true a) (position_variables first n) ≡ true
  some_variable zero first index less is = absurd (omega arith)
  some_variable (suc n) first index less is =
      any_made (is_made_true a) (position_variables first (suc n)) (positive (first + index)) (there (suc n) less) is
    where
      there : (k : ℕ) → index < k → IsIn (position_variables first k) (positive (first + index))
      there zero below = absurd (omega arith)
      there (suc k) below = subst (λ (l : List Literal). IsIn l (positive (first + index))) (sym (mapped_last (λ value. positive (first + value)) (upto k) k)) (elim (cases_lt index k) [
        | inl lower ↦ among_left (position_variables first k) (positive (first + k) ∷ []) (positive (first + index)) (there k lower)
        | inr upper ↦ among_right (position_variables first k) (positive (first + k) ∷ []) (positive (first + index)) (inl (ap (λ (v : ℕ). positive (first + v)) (let e : k ≡ index = omega arith in e)))
      ])
        where
          among_left : (xs ys : List Literal) (l : Literal) → IsIn xs l → IsIn (xs ++ ys) l
          among_left [] ys l h = absurd h
          among_left (x ∷ xs) ys l (inl e) = inl e
          among_left (x ∷ xs) ys l (inr h) = inr (among_left xs ys l h)

          among_right : (xs ys : List Literal) (l : Literal) → IsIn ys l → IsIn (xs ++ ys) l
          among_right [] ys l h = h
          among_right (x ∷ xs) ys l h = inr (among_right xs ys l h)

  variable_some : (n first : ℕ) → list_any (is_made_true a) (position_variables first n) ≡ true → (index : ℕ) × (index < n) × (a (first + index) ≡ true)
  variable_some zero first e = absurd cc
  variable_some (suc n) first e =
      elim (or_gives (a first) (list_any (is_made_true a) (position_variables (first + 1) n)) (ap (list_any (is_made_true a)) (sym (variables_front first n)) ∙ e)) [
        | inl here ↦ (0, (omega arith), ap a (let s : first + 0 ≡ first = omega arith in s) ∙ here)
        | inr later ↦ let found = variable_some n (first + 1) later in
            (suc found.0, (let less = found.1 in omega arith), ap a (let s : first + suc found.0 ≡ first + 1 + found.0 = omega arith in s) ∙ found.2)
      ]

  pub positions_met : (sizes row : List ℕ) (first : ℕ) → IsRow sizes row → HasRowFrom first sizes a row → AllMet a (positions_from first sizes)
  positions_met [] row first is h = tt
  positions_met (size ∷ sizes) [] first is h = absurd is
  positions_met (size ∷ sizes) (index ∷ row) first is h =
      met_both a (exactly_one (position_variables first size)) (positions_from (first + size) sizes) (
        some_variable size first index is.0 (h.0 index is.0 ∙ eq-eqb index index refl),
        pairs_met size first (λ i j less within here there.
            let one = eqb-true index i (sym (h.0 i (omega arith)) ∙ here) in
            let other = eqb-true index j (sym (h.0 j within) ∙ there) in
            omega arith),
      )
      (positions_met sizes row (first + size) is.1 h.1)

  pub row_of : (sizes : List ℕ) (first : ℕ) → AllMet a (positions_from first sizes) → (row : List ℕ) × HasRowFrom first sizes a row × IsRow sizes row
  row_of [] first h = ([], tt, tt)
  row_of (size ∷ sizes) first h =
      let here = met_left a (exactly_one (position_variables first size)) (positions_from (first + size) sizes) h in
      let more = row_of sizes (first + size) (met_right a (exactly_one (position_variables first size)) (positions_from (first + size) sizes) h) in
      let found = variable_some size first here.0 in
      let alone = met_pairs size first here.1 in
      (found.0 ∷ more.0, ((λ value less. only found.0 value found.1 less found.2 alone), more.1), (found.1, more.2))
    where
      only : (index value : ℕ) → index < size → value < size → a (first + index) ≡ true → Alone first size → a (first + value) ≡ (index == value)
      only index value less within is alone = elim (cases_order index value) [
        | inl same ↦ ap (λ (n : ℕ). a (first + n)) (sym same) ∙ is ∙ sym (eq-eqb index value same)
        | inr (inl below) ↦ false_at (λ there. alone index value below within is there) ∙ sym (ne_eqb index value (λ e. omega arith))
        | inr (inr above) ↦ false_at (λ there. alone value index above less there is) ∙ sym (ne_eqb index value (λ e. omega arith))
      ]
        where
          false_at : (a (first + value) ≡ true → ⊥) → a (first + value) ≡ false
          false_at never = elim (cases_test (a (first + value))) [ inl e ↦ absurd (never e) | inr e ↦ e ]
