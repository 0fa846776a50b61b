-- The rows of the clause list are the models.
use Rattle.std.proofs.Common.{◌≡◌, ◌∙◌, ℕ, zero, suc, ◌+◌, ◌-◌, ◌*◌, ◌<◌, ◌≤◌, Bool, true, false, ◌&&◌, ◌||◌, List, [], ◌∷◌, map, slice_get, Some, refl, sym, ap, subst, arith, IsTrue}
use Rattle.std.specs.Prelude.{◌↔◌, ◌==◌, slice_index_or}
use Rattle.std.specs.List.{AllByRecursion, list_all, list_any}
use Rattle.cc_defs.specs.ClauseForms.{all_written, atom_variable, first_variable, positive, true_variable, written}
use Rattle.cc_defs.specs.ClauseLists.{Asserted}
use Rattle.cc_defs.specs.Clauses.{Literal, IsLiteralOver, is_made_true, meets}
use Rattle.cc_defs.specs.Rows.{IsRow}
use Rattle.cc_form.specs.Parts.{AreWorth, IsWorth, Says, SaysFrom, axioms_behind}
use Rattle.cc_form.proofs.Saying.{atom_worth, opposite_worth, parts_tell_rows, says_alike, says_clause, says_from, says_nothing, says_then, tells_alike}
use Rattle.cc_dimacs.specs.Cnfs.{AreOver, IsModelOf, atom_of, sizes_of, twos}
use Rattle.cc_dimacs.specs.Laws.{AxiomsTellModels}

two_there : (n position : ℕ) → position < n → slice_get (twos n) position ≡ Some 2
two_there zero position below = absurd (omega arith)
two_there (suc n) zero below = refl
two_there (suc n) (suc position) below = two_there n position (omega arith)

first_there : (n position : ℕ) → position < n → first_variable (twos n) position ≡ 1 + 2 * position
first_there zero position below = absurd (omega arith)
first_there (suc n) zero below = refl
first_there (suc n) (suc position) below = let here = first_there n position (omega arith) in omega arith

both : (a b : Bool) → IsTrue (a && b) ↔ (IsTrue a × IsTrue b)
both true b = ((λ h. (refl, h)), (λ h. h.1))
both false b = ((λ h. absurd cc), (λ h. let wrong = h.0 in absurd cc))

-- the value of a variable in a row
abbrev value_in : List ℕ → ℕ → Bool
value_in row variable = slice_index_or row (variable - 1) 0 == 1

abbrev worth_of : Literal → List ℕ → Bool
worth_of literal row = is_made_true (value_in row) literal

module _ (n start : ℕ) (before : List ℕ → List Bool) where
  atom_is_variable : (variable : ℕ) → 0 < variable → variable ≤ n → positive (atom_variable (twos n) (variable - 1) 1) ≡ positive (2 * variable)
  atom_is_variable variable some most =
      let first = first_there n (variable - 1) (omega arith) in
      let same : atom_variable (twos n) (variable - 1) 1 ≡ 2 * variable = omega arith in
      ap positive same

  positive_worth : (variable : ℕ) → 0 < variable → variable ≤ n → IsWorth (twos n) start before (positive (2 * variable)) (λ row. value_in row variable)
  positive_worth variable some most =
      subst (λ (l : Literal). IsWorth (twos n) start before l (λ row. value_in row variable)) (atom_is_variable variable some most)
      (atom_worth (twos n) start before (variable - 1) 1 (2, two_there n (variable - 1) (omega arith), (let e : 1 < 2 = omega arith in e)))

  literal_worth : (variable : ℕ) (sign : Bool) → 0 < variable → variable ≤ n → IsWorth (twos n) start before (atom_of (record { variable = variable; positive = sign })) (worth_of (record { variable = variable; positive = sign }))
  literal_worth variable true some most = positive_worth variable some most
  literal_worth variable false some most = opposite_worth (twos n) start before (positive (2 * variable)) (λ row. value_in row variable) (positive_worth variable some most)

  all_worth : (clause : List Literal) → AllByRecursion (IsLiteralOver n) clause → AreWorth (twos n) start before (map atom_of clause) (map worth_of clause)
  all_worth [] over = tt
  all_worth (literal ∷ clause) over = (literal_worth literal.variable literal.positive over.0.0 over.0.1, all_worth clause over.1)

worth_meets : (row : List ℕ) (clause : List Literal) → list_any (λ worth. worth row) (map worth_of clause) ≡ meets (value_in row) clause
worth_meets row [] = refl
worth_meets row (literal ∷ clause) = ap (λ (b : Bool). worth_of literal row || b) (worth_meets row clause)

-- ---- the clauses say of a row that it is a model

module _ (n : ℕ) where
  abbrev truth : ℕ
  truth = true_variable (twos n)

  abbrev part : List (List Literal) → Asserted
  part clauses = record { last = truth; clauses = all_written (map (map atom_of) clauses) }

  clause_says : (clause : List Literal) → AllByRecursion (IsLiteralOver n) clause → SaysFrom (twos n) truth (record { last = truth; clauses = written (map atom_of clause) }) (λ row. IsTrue (meets (value_in row) clause))
  clause_says clause over =
      let made : Asserted = record { last = truth; clauses = written (map atom_of clause) } in
      says_alike (twos n) truth made (λ row. IsTrue (list_any (λ worth. worth row) (map worth_of clause))) (λ row. IsTrue (meets (value_in row) clause))
      (λ row is. ((λ h. sym (worth_meets row clause) ∙ h), (λ h. worth_meets row clause ∙ h)))
      (says_from (twos n) truth made (λ row. IsTrue (list_any (λ worth. worth row) (map worth_of clause)))
      (says_clause (twos n) truth (λ row. []) truth (map atom_of clause) (map worth_of clause) (all_worth n truth (λ row. []) clause over)))

  all_say : (clauses : List (List Literal)) → AreOver n clauses → Says (twos n) (part clauses) (λ row. IsTrue (list_all (meets (value_in row)) clauses))
  all_say [] over = says_alike (twos n) truth (part []) (λ row. Unit {0}) (λ row. IsTrue (list_all (meets (value_in row)) [])) (λ row is. ((λ h. refl), (λ h. tt))) (says_nothing (twos n) truth)
  all_say (clause ∷ clauses) over =
      says_alike (twos n) truth (part (clause ∷ clauses)) (λ row. IsTrue (meets (value_in row) clause) × IsTrue (list_all (meets (value_in row)) clauses)) (λ row. IsTrue (list_all (meets (value_in row)) (clause ∷ clauses)))
      (λ row is. let here = both (meets (value_in row) clause) (list_all (meets (value_in row)) clauses) in (here.1, here.0))
      (says_then (twos n) truth (record { last = truth; clauses = written (map atom_of clause) }) (part clauses) (λ row. IsTrue (meets (value_in row) clause)) (λ row. IsTrue (list_all (meets (value_in row)) clauses))
      (clause_says clause over.0) (all_say clauses over.1))

pub axioms_tell_models : AxiomsTellModels
axioms_tell_models cnf over =
    tells_alike (axioms_behind (sizes_of cnf) (part cnf.variables cnf.clauses)) (λ row. IsRow (sizes_of cnf) row × IsTrue (list_all (meets (value_in row)) cnf.clauses)) (IsModelOf cnf)
    (λ row. ((λ h. record { row = h.0; each = h.1 }), (λ model. (model.row, model.each))))
    (parts_tell_rows (sizes_of cnf) (part cnf.variables cnf.clauses) (λ row. IsTrue (list_all (meets (value_in row)) cnf.clauses)) (all_say cnf.variables cnf.clauses over))
