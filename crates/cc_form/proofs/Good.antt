-- The clauses of a list are clauses over its variables.
use Rattle.std.proofs.Common.{◌≡◌, ℕ, zero, suc, ◌+◌, ◌<◌, ◌≤◌, inl, inr, Bool, true, false, List, [], ◌∷◌, ◌++◌, map, sum, refl, sym, subst, arith}
use Rattle.std.specs.Prelude.{if◌then◌else◌}
use Rattle.std.specs.List.{AllByRecursion}
use Rattle.cc_defs.specs.ClauseForms.{Made, MadeAll, all_clauses, all_written, any_clauses, in_order, is_tautology, made_all, made_any, made_of, made_operands, positive, same_clauses, true_variable, written}
use Rattle.cc_defs.specs.ClauseLists.{exactly_one, pairs_denied, position_variables, positions_from}
use Rattle.cc_defs.specs.Clauses.{Literal, IsClause, IsOver, opposite, IsIn}
use Rattle.cc_defs.specs.Terms.{Ground, Operands, Fits, nothing, and_then}
use Rattle.cc_defs.specs.Terms as terms
use Rattle.cc_form.proofs.Choices.{variables_front}
use Rattle.cc_form.proofs.Meaning.{AtomsFit, AtomsFitIn}
use Rattle.cc_form.proofs.Ordered.{ordered_clause, ordered_from}
use Rattle.cc_form.proofs.Positions.{atom_below, atom_some, sum_cons}

-- ---- literals and clauses over so many variables

abbrev pub IsWithin : ℕ → Literal → Type 0
IsWithin n literal = (0 < literal.variable) × (literal.variable ≤ n)

abbrev pub AreWithin : ℕ → List Literal → Type 0
AreWithin n literals = AllByRecursion (IsWithin n) literals

abbrev pub IsGood : ℕ → List Literal → Type 0
IsGood n clause = IsClause clause × IsOver n clause

abbrev pub AreGood : ℕ → List (List Literal) → Type 0
AreGood n clauses = AllByRecursion (IsGood n) clauses

within_at : (n : ℕ) (xs : List Literal) → AreWithin n xs → (l : Literal) → IsIn xs l → IsWithin n l
within_at n [] all l h = absurd h
within_at n (x ∷ xs) all l (inl e) = subst (IsWithin n) e all.0
within_at n (x ∷ xs) all l (inr h) = within_at n xs all.1 l h

over_from : (n : ℕ) (xs : List Literal) → ((l : Literal) → IsIn xs l → IsWithin n l) → IsOver n xs
over_from n [] h = tt
over_from n (x ∷ xs) h = let here = h x (inl refl) in (here.0, here.1, over_from n xs (λ l k. h l (inr k)))

more_over : (m n : ℕ) → m ≤ n → (xs : List Literal) → IsOver m xs → IsOver n xs
more_over m n less [] h = tt
more_over m n less (x ∷ xs) h = (h.0, (let here = h.1 in omega arith), more_over m n less xs h.2)

pub more_good : (m n : ℕ) → m ≤ n → (clauses : List (List Literal)) → AreGood m clauses → AreGood n clauses
more_good m n less [] h = tt
more_good m n less (c ∷ cs) h = ((h.0.0, more_over m n less c h.0.1), more_good m n less cs h.1)

pub more_within : (m n : ℕ) → m ≤ n → (xs : List Literal) → AreWithin m xs → AreWithin n xs
more_within m n less [] h = tt
more_within m n less (x ∷ xs) h = ((h.0.0, (let here = h.0.1 in omega arith)), more_within m n less xs h.1)

pub both_all : {X : Type 0} (P : X → Type 0) (xs ys : List X) → AllByRecursion P xs → AllByRecursion P ys → AllByRecursion P (xs ++ ys)
both_all P [] ys h k = k
both_all P (x ∷ xs) ys h k = (h.0, both_all P xs ys h.1 k)

opposites : (n : ℕ) (xs : List Literal) → AreWithin n xs → AreWithin n (map opposite xs)
opposites n [] h = tt
opposites n (x ∷ xs) h = (h.0, opposites n xs h.1)

pub written_good : (n : ℕ) (xs : List Literal) → AreWithin n xs → AreGood n (written xs)
written_good n xs all = chosen (is_tautology xs)
  where
    chosen : (b : Bool) → AreGood n (if b then [] else in_order xs ∷ [])
    chosen true = tt
    chosen false = ((ordered_clause xs, over_from n (in_order xs) (λ l h. within_at n xs all l (ordered_from xs l h))), tt)

pub all_written_good : (n : ℕ) (xs : List (List Literal)) → AllByRecursion (AreWithin n) xs → AreGood n (all_written xs)
all_written_good n [] h = tt
all_written_good n (x ∷ xs) h = both_all (IsGood n) (written x) (all_written xs) (written_good n x h.0) (all_written_good n xs h.1)

-- ---- definitions

module _ (n : ℕ) (x : Literal) (is : IsWithin n x) where
  with_each : (xs : List Literal) → AreWithin n xs → AllByRecursion (AreWithin n) (map (λ l. opposite x ∷ l ∷ []) xs)
  with_each [] h = tt
  with_each (y ∷ xs) h = ((is, (h.0, tt)), with_each xs h.1)

  with_each_opposite : (xs : List Literal) → AreWithin n xs → AllByRecursion (AreWithin n) (map (λ l. x ∷ opposite l ∷ []) xs)
  with_each_opposite [] h = tt
  with_each_opposite (y ∷ xs) h = ((is, (h.0, tt)), with_each_opposite xs h.1)

  all_good : (xs : List Literal) → AreWithin n xs → AreGood n (all_written (all_clauses x xs))
  all_good xs h = all_written_good n (all_clauses x xs) (both_all (AreWithin n) (map (λ l. opposite x ∷ l ∷ []) xs) ((x ∷ map opposite xs) ∷ []) (with_each xs h) ((is, opposites n xs h), tt))

  pub any_good : (xs : List Literal) → AreWithin n xs → AllByRecursion (AreWithin n) (any_clauses x xs)
  any_good xs h = ((is, h), with_each_opposite xs h)

  same_good : (f g : Literal) → IsWithin n f → IsWithin n g → AreGood n (all_written (same_clauses x f g))
  same_good f g h k = all_written_good n (same_clauses x f g) ((is, (h, (k, tt))), ((is, (h, (k, tt))), ((is, (h, (k, tt))), ((is, (h, (k, tt))), tt))))

-- ---- terms

pub record IsMadeWell (last : ℕ) (made : Made) : Type 0 where
  pub rises : last ≤ made.last
  pub literal_in : IsWithin made.last made.literal
  pub good : AreGood made.last made.clauses

pub record AreMadeWell (last : ℕ) (made : MadeAll) : Type 0 where
  pub rises : last ≤ made.last
  pub literals_in : AreWithin made.last made.literals
  pub good : AreGood made.last made.clauses

module _ (sizes : List ℕ) where
  abbrev T : ℕ
  T = true_variable sizes

  truth_in : (last : ℕ) → T ≤ last → IsWithin last (positive T)
  truth_in last most = ((let e : 0 < sum sizes + 1 = omega arith in e), most)

  all_well : (last : ℕ) (literals : List Literal) (top : ℕ) (clauses : List (List Literal)) → T ≤ top → AreMadeWell last (record { literals = literals; last = top; clauses = clauses }) →
      IsMadeWell last (made_all (positive T) (record { literals = literals; last = top; clauses = clauses }) literals)
  all_well last [] top clauses most well = record { rises = well.rises; literal_in = truth_in top most; good = well.good }
  all_well last (x ∷ []) top clauses most well = record { rises = well.rises; literal_in = well.literals_in.0; good = well.good }
  all_well last (x ∷ y ∷ xs) top clauses most well = record {
    rises = (let up = well.rises in omega arith);
    literal_in = ((omega arith), (omega arith));
    good = both_all (IsGood (top + 1)) clauses (all_written (all_clauses (positive (top + 1)) (x ∷ y ∷ xs))) (more_good top (top + 1) (omega arith) clauses well.good)
        (all_good (top + 1) (positive (top + 1)) ((omega arith), (omega arith)) (x ∷ y ∷ xs) (more_within top (top + 1) (omega arith) (x ∷ y ∷ xs) well.literals_in));
  }

  any_well : (last : ℕ) (literals : List Literal) (top : ℕ) (clauses : List (List Literal)) → T ≤ top → AreMadeWell last (record { literals = literals; last = top; clauses = clauses }) →
      IsMadeWell last (made_any (positive T) (record { literals = literals; last = top; clauses = clauses }) literals)
  any_well last [] top clauses most well = record { rises = well.rises; literal_in = truth_in top most; good = well.good }
  any_well last (x ∷ []) top clauses most well = record { rises = well.rises; literal_in = well.literals_in.0; good = well.good }
  any_well last (x ∷ y ∷ xs) top clauses most well = record {
    rises = (let up = well.rises in omega arith);
    literal_in = ((omega arith), (omega arith));
    good = both_all (IsGood (top + 1)) clauses (all_written (any_clauses (positive (top + 1)) (x ∷ y ∷ xs))) (more_good top (top + 1) (omega arith) clauses well.good)
        (all_written_good (top + 1) (any_clauses (positive (top + 1)) (x ∷ y ∷ xs)) (any_good (top + 1) (positive (top + 1)) ((omega arith), (omega arith)) (x ∷ y ∷ xs) (more_within top (top + 1) (omega arith) (x ∷ y ∷ xs) well.literals_in)));
  }

  mutual
    pub term_well : (f : Ground) (last : ℕ) → AtomsFit sizes f → T ≤ last → IsMadeWell last (made_of sizes last f)
    term_well terms.Truth last fit most = record { rises = omega arith; literal_in = truth_in last most; good = tt }
    term_well terms.Falsehood last fit most = record { rises = omega arith; literal_in = truth_in last most; good = tt }
    term_well (terms.Atom position value) last fit most = record {
      rises = omega arith;
      literal_in = ((let some = atom_some sizes position value in omega arith), (let below = atom_below sizes position value fit in let t : sum sizes + 1 ≤ last = most in omega arith));
      good = tt;
    }
    term_well (terms.Not f) last fit most = let well = term_well f last fit most in record { rises = well.rises; literal_in = well.literal_in; good = well.good }
    term_well (terms.All operands) last fit most =
        let m = made_operands sizes last operands in
        let well = operands_well operands last fit most in
        all_well last m.literals m.last m.clauses (let up = well.rises in omega arith) well
    term_well (terms.Any operands) last fit most =
        let m = made_operands sizes last operands in
        let well = operands_well operands last fit most in
        any_well last m.literals m.last m.clauses (let up = well.rises in omega arith) well
    term_well (terms.Same f g) last fit most =
        let m = made_of sizes last f in
        let one = term_well f last fit.0 most in
        let other = term_well g m.last fit.1 (let up = one.rises in omega arith) in
        let k = made_of sizes m.last g in
        let up : m.last ≤ k.last + 1 = (let u = other.rises in omega arith) in
        let x = positive (k.last + 1) in
        record {
          rises = (let u = one.rises in let w = other.rises in omega arith);
          literal_in = ((omega arith), (omega arith));
          good = both_all (IsGood (k.last + 1)) (m.clauses ++ k.clauses) (all_written (same_clauses x m.literal k.literal))
              (both_all (IsGood (k.last + 1)) m.clauses k.clauses (more_good m.last (k.last + 1) up m.clauses one.good) (more_good k.last (k.last + 1) (omega arith) k.clauses other.good))
              (same_good (k.last + 1) x ((omega arith), (omega arith)) m.literal k.literal (one.literal_in.0, (let w = one.literal_in.1 in omega arith)) (other.literal_in.0, (let w = other.literal_in.1 in omega arith)));
        }

    pub operands_well : (operands : Operands) (last : ℕ) → AtomsFitIn sizes operands → T ≤ last → AreMadeWell last (made_operands sizes last operands)
    operands_well nothing last fit most = record { rises = omega arith; literals_in = tt; good = tt }
    operands_well (and_then operands f) last fit most =
        let m = made_operands sizes last operands in
        let one = operands_well operands last fit.0 most in
        let other = term_well f m.last fit.1 (let up = one.rises in omega arith) in
        let k = made_of sizes m.last f in
        record {
          rises = (let u = one.rises in let w = other.rises in omega arith);
          literals_in = both_all (IsWithin k.last) m.literals (k.literal ∷ []) (more_within m.last k.last other.rises m.literals one.literals_in) (other.literal_in, tt);
          good = both_all (IsGood k.last) m.clauses k.clauses (more_good m.last k.last other.rises m.clauses one.good) other.good;
        }

-- ---- exactly one value

abbrev AllUp : (m n : ℕ) → List Literal → Type 0
AllUp m n literals = AllByRecursion (λ l. (m ≤ l.variable) × (l.variable < n) × (l.positive ≡ true)) literals

variables_up : (n first : ℕ) → AllUp first (first + n) (position_variables first n)
variables_up zero first = tt
variables_up (suc n) first = subst (AllUp first (first + suc n)) (sym (variables_front first n))
    (((omega arith), (omega arith), refl), wider (position_variables (first + 1) n) (variables_up n (first + 1)))
  where
    wider : (xs : List Literal) → AllUp (first + 1) (first + 1 + n) xs → AllUp first (first + suc n) xs
    wider [] h = tt
    wider (x ∷ xs) h = (((let a = h.0.0 in omega arith), (let b = h.0.1 in omega arith), h.0.2), wider xs h.1)

up_clause : (n first : ℕ) → IsClause (position_variables first n)
up_clause zero first = tt
up_clause (suc zero) first = tt
up_clause (suc (suc n)) first = subst IsClause (sym (variables_front first (suc n))) (next (variables_front (first + 1) n) (up_clause (suc n) (first + 1)))
  where
    next : position_variables (first + 1) (suc n) ≡ positive (first + 1) ∷ position_variables (first + 1 + 1) n → IsClause (position_variables (first + 1) (suc n)) → IsClause (positive first ∷ position_variables (first + 1) (suc n))
    next e h = subst (λ (l : List Literal). IsClause (positive first ∷ l)) (sym e) (inl (omega arith), subst IsClause e h)

up_over : (m n bound : ℕ) (xs : List Literal) → 0 < m → n ≤ bound + 1 → AllUp m n xs → IsOver bound xs
up_over m n bound [] some most h = tt
up_over m n bound (x ∷ xs) some most h = ((let a = h.0.0 in omega arith), (let b = h.0.1 in omega arith), up_over m n bound xs some most h.1)

pair_good : (first n bound : ℕ) (xs : List Literal) → 0 < first → n ≤ bound + 1 → AllUp (first + 1) n xs → AreGood bound (map (λ v. opposite (positive first) ∷ opposite v ∷ []) xs)
pair_good first n bound [] some most h = tt
pair_good first n bound (x ∷ xs) some most h = (
  ((inl (let a = h.0.0 in omega arith), tt), (some, (let a = h.0.0 in let b = h.0.1 in omega arith), ((let a = h.0.0 in omega arith), (let b = h.0.1 in omega arith), tt))),
  pair_good first n bound xs some most h.1,
)

pairs_good : (n first bound : ℕ) → 0 < first → first + n ≤ bound + 1 → AreGood bound (pairs_denied (position_variables first n))
pairs_good zero first bound some most = tt
pairs_good (suc n) first bound some most = subst (λ (l : List Literal). AreGood bound (pairs_denied l)) (sym (variables_front first n))
    (both_all (IsGood bound) (map (λ v. opposite (positive first) ∷ opposite v ∷ []) (position_variables (first + 1) n)) (pairs_denied (position_variables (first + 1) n))
    (pair_good first (first + 1 + n) bound (position_variables (first + 1) n) some (omega arith) (variables_up n (first + 1))) (pairs_good n (first + 1) bound (omega arith) (omega arith)))

pub positions_good : (sizes : List ℕ) (first bound : ℕ) → 0 < first → first + sum sizes ≤ bound + 1 → AreGood bound (positions_from first sizes)
positions_good [] first bound some most = tt
positions_good (size ∷ sizes) first bound some most =
    let all = sum_cons size sizes in
    both_all (IsGood bound) (exactly_one (position_variables first size)) (positions_from (first + size) sizes)
    ((up_clause size first, up_over first (first + size) bound (position_variables first size) some (omega arith) (variables_up size first)), pairs_good size first bound some (omega arith))
    (positions_good sizes (first + size) bound (omega arith) (omega arith))
