-- The clauses of a term behind others keep their rows.
use Rattle.std.proofs.Common.{◌≡◌, ◌∙◌, ℕ, ◌+◌, ◌-◌, ◌<◌, ◌≤◌, inl, inr, Bool, true, false, not, ◌||◌, List, [], ◌∷◌, ◌++◌, length, get_or, nat_lt, sum, refl, sym, ap, subst, arith, length-append}
use Rattle.std.specs.Prelude.{if◌then◌else◌, Contains, slice_index}
use Rattle.std.proofs.lemmas.Bool.{cases_lt, le-ltb, lt-ltb}
use Rattle.cc_defs.specs.ClauseForms.{Made, made_of, positive, true_variable}
use Rattle.cc_defs.specs.Clauses.{Literal, IsOver, is_made_true, meets}
use Rattle.cc_defs.specs.Sections.{Axioms}
use Rattle.cc_defs.specs.Terms.{Ground}
use Rattle.cc_clauses.specs.RowsOf.{HasRow, HasRowFrom, IsRowOf, MeetsAll}
use Rattle.cc_theory.specs.Completion.{holds}
use Rattle.cc_form.specs.Drafts.{Extends}
use Rattle.cc_form.specs.Forms.{IsAxioms}
use Rattle.cc_form.specs.Laws.{TermFits}
use Rattle.cc_form.specs.Parts.{Agrees, AllMet, IsTermTold}
use Rattle.cc_form.proofs.Causes.{atoms_fit}
use Rattle.cc_form.proofs.Drafting.{good_from}
use Rattle.cc_form.proofs.Good.{AreGood}
use Rattle.cc_form.proofs.Meaning.{met_both, met_left, met_right, one_true, term_told, values_of}
use Rattle.cc_form.proofs.Positions.{sum_cons}
use Rattle.cc_form.proofs.RowValues.{atom_is, meets_from, met_from}
use Rattle.cc_form.proofs.Saying.{agrees_same}

-- ---- an assignment with other values behind a number

patched : (ℕ → Bool) → ℕ → List Bool → ℕ → Bool
patched a n values k = if nat_lt n k then get_or values (k - (n + 1)) false else a k

patched_low : (a : ℕ → Bool) (n : ℕ) (values : List Bool) (k : ℕ) → k ≤ n → patched a n values k ≡ a k
unfolding patched
patched_low a n values k less = ap (λ (b : Bool). if b then get_or values (k - (n + 1)) false else a k) (le-ltb n k less)

patched_at : (a : ℕ → Bool) (n : ℕ) (front values : List Bool) → Agrees (patched a n (front ++ values)) (n + length front) values
unfolding patched
patched_at a n front [] = tt
patched_at a n front (b ∷ values) = (
  ap (λ (t : Bool). if t then get_or (front ++ b ∷ values) (n + length front + 1 - (n + 1)) false else a (n + length front + 1)) (lt-ltb n (n + length front + 1) (omega arith))
      ∙ ap (λ (m : ℕ). get_or (front ++ b ∷ values) m false) (let e : n + length front + 1 - (n + 1) ≡ length front = omega arith in e) ∙ reads front,
  subst (λ (m : ℕ). Agrees (patched a n (front ++ b ∷ values)) m values) (let long = length-append front (b ∷ []) in let e : n + length (front ++ b ∷ []) ≡ n + length front + 1 = omega arith in e)
      (subst (λ (l : List Bool). Agrees (patched a n l) (n + length (front ++ b ∷ [])) values) (regroup front) (patched_at a n (front ++ b ∷ []) values)),
)
  where
    reads : (xs : List Bool) → get_or (xs ++ b ∷ values) (length xs) false ≡ b
    reads [] = refl
    reads (x ∷ xs) = reads xs

    regroup : (xs : List Bool) → (xs ++ b ∷ []) ++ values ≡ xs ++ b ∷ values
    regroup [] = refl
    regroup (x ∷ xs) = ap (λ l. x ∷ l) (regroup xs)

patched_from : (a : ℕ → Bool) (n : ℕ) (values : List Bool) → Agrees (patched a n values) n values
patched_from a n values = subst (λ (m : ℕ). Agrees (patched a n values) m values) (let e : n + 0 ≡ n = omega arith in e) (patched_at a n [] values)

-- ---- assignments that are the same on some variables

module _ (one other : ℕ → Bool) (n : ℕ) (same : (k : ℕ) → 0 < k → k ≤ n → one k ≡ other k) where
  meets_same : (clause : List Literal) → IsOver n clause → meets one clause ≡ meets other clause
  meets_same [] over = refl
  meets_same (l ∷ clause) over =
      ap (λ (v : Bool). (if l.positive then v else not v) || meets one clause) (same l.variable over.0 over.1) ∙ ap (λ (b : Bool). is_made_true other l || b) (meets_same clause over.2)

  all_same : (clauses : List (List Literal)) → AreGood n clauses → AllMet one clauses → AllMet other clauses
  all_same [] good met = tt
  all_same (c ∷ clauses) good met = (sym (meets_same c good.0.1) ∙ met.0, all_same clauses good.1 met.1)

  row_same : (first : ℕ) (sizes row : List ℕ) → 0 < first → first + sum sizes ≤ n + 1 → HasRowFrom first sizes one row → HasRowFrom first sizes other row
  row_same first [] row some most has = tt
  row_same first (size ∷ sizes) [] some most has = absurd has
  row_same first (size ∷ sizes) (index ∷ row) some most has =
      let all = sum_cons size sizes in
      ((λ value less. sym (same (first + value) (omega arith) (omega arith)) ∙ has.0 value less), row_same (first + size) sizes row (omega arith) (omega arith) has.1)

front_meets : (a : ℕ → Bool) (xs ys : List (List Literal)) → MeetsAll a (xs ++ ys) → MeetsAll a xs
front_meets a xs ys all = meets_from a xs (met_left a xs ys (met_from a (xs ++ ys) all))

-- ---- the literal of a term behind axioms

module _ (old : Axioms) (is : IsAxioms old) (truth : Contains old.clauses (positive (true_variable old.sizes) ∷ [])) (f : Ground) (fit : TermFits old.sizes f) where
  abbrev m : Made
  m = made_of old.sizes old.variables f

  abbrev new : Axioms
  new = record { sizes = old.sizes; variables = m.last; clauses = old.clauses ++ m.clauses }

  abbrev given : List ℕ → List Bool
  given row = values_of old.sizes (λ position. slice_index row position) old.variables f

  true_in : (a : ℕ → Bool) → MeetsAll a old.clauses → a (true_variable old.sizes) ≡ true
  true_in a all = one_true a (positive (true_variable old.sizes)) (all (positive (true_variable old.sizes) ∷ []) truth)

  told : (row : List ℕ) (a : ℕ → Bool) → HasRow old.sizes a row → a (true_variable old.sizes) ≡ true → IsTermTold a old.variables m (given row) (holds row f)
  told row a has is_true = term_told a old.sizes (λ position. slice_index row position) is_true (atom_is a old.sizes row has) f old.variables (atoms_fit old.sizes f fit)

  new_agrees : (row : List ℕ) (a : ℕ → Bool) → HasRow old.sizes a row → MeetsAll a new.clauses → Agrees a old.variables (given row)
  new_agrees row a has all = (told row a has (true_in a (front_meets a old.clauses m.clauses all))).meets (met_right a old.clauses m.clauses (met_from a new.clauses all))

  row_stays : (row : List ℕ) → IsRowOf old.sizes old.clauses row → IsRowOf new.sizes new.clauses row
  row_stays row of =
      let a = of.assignment in
      let b = patched a old.variables (given row) in
      let same : (k : ℕ) → 0 < k → k ≤ old.variables → a k ≡ b k = λ k some most. sym (patched_low a old.variables (given row) k most) in
      let has = row_same a b old.variables same 1 old.sizes row (omega arith) (let least = is.least in let e : 1 + sum old.sizes ≤ old.variables + 1 = omega arith in e) of.has in
      let is_true = patched_low a old.variables (given row) (true_variable old.sizes) is.least ∙ true_in a of.meets_all in
      record {
        is_row = of.is_row;
        assignment = b;
        has = has;
        meets_all = meets_from b new.clauses
            (met_both b old.clauses m.clauses (all_same a b old.variables same old.clauses (good_from old is) (met_from a old.clauses of.meets_all))
            ((told row b has is_true).agrees (patched_from a old.variables (given row))));
      }

  pub term_extends : Extends old new m.literal (λ row. holds row f)
  term_extends = record {
    rows = λ row. (
      (λ of. record { is_row = of.is_row; assignment = of.assignment; has = of.has; meets_all = front_meets of.assignment old.clauses m.clauses of.meets_all }),
      row_stays row,
    );
    once = λ row old_once one other has_one has_other met_one met_other variable some most. elim (cases_lt old.variables variable) [
      | inl later ↦
          agrees_same one other old.variables (given row) (new_agrees row one has_one met_one) (new_agrees row other has_other met_other) variable later
          (let ends = (told row one has_one (true_in one (front_meets one old.clauses m.clauses met_one))).ends in omega arith)
      | inr early ↦ old_once one other has_one has_other (front_meets one old.clauses m.clauses met_one) (front_meets other old.clauses m.clauses met_other) variable some early
    ];
    literal_is = λ row a has all. (told row a has (true_in a (front_meets a old.clauses m.clauses all))).literal (new_agrees row a has all);
  }
