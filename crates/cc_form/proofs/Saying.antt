-- What clause lists in parts tell. Lemmas over predicates of rows, which no clause can carry: crates above take them from here.
use Rattle.std.proofs.Common.{◌≡◌, ◌∙◌, ℕ, ◌+◌, ◌-◌, ◌<◌, ◌≤◌, inl, inr, Bool, true, false, not, ◌||◌, List, [], ◌∷◌, ◌++◌, length, get_or, refl, sym, ap, subst, arith, length-append, IsTrue}
use Rattle.std.specs.Prelude.{◌↔◌, ◌==◌, slice_index}
use Rattle.std.specs.List.{list_any}
use Rattle.std.proofs.lemmas.Bool.{cases_lt}
use Rattle.cc_defs.specs.declared.node.Node.{Node}
use Rattle.cc_defs.specs.declared.node.Node.TheVariants as nodes
use Rattle.cc_defs.specs.ClauseForms.{atom_variable, made_of, positive, true_variable, written}
use Rattle.cc_defs.specs.ClauseLists.{Asserted, asserted, positions_from}
use Rattle.cc_defs.specs.Clauses.{Literal, is_made_true, meets, opposite}
use Rattle.cc_defs.specs.Rows.{IsRow}
use Rattle.cc_defs.specs.Sections.{Axioms}
use Rattle.cc_defs.specs.Terms.{Ground, Fits, postfix}
use Rattle.cc_clauses.specs.RowsOf.{HasRow, HasRowFrom}
use Rattle.cc_clauses.specs.Tells.{Tells}
use Rattle.cc_theory.specs.Completion.{holds}
use Rattle.cc_form.specs.Laws.{TermFits}
use Rattle.cc_form.specs.Machine.{made_nodes}
use Rattle.cc_form.specs.Parts.{Agrees, AllMet, AreWorth, IsWorth, Says, SaysBehind, SaysFrom, axioms_behind, first_clauses, joined_parts}
use Rattle.cc_form.proofs.Causes.{atoms_fit, behind, ends_together, joined}
use Rattle.cc_form.proofs.Meaning.{agrees_both, agrees_left, agrees_right, met_both, met_left, met_right, met_written, one_true, opposite_is, or_is, term_told, values_of, written_met}
use Rattle.cc_form.proofs.RowValues.{agrees_row, atom_is, meets_from, met_from, positions_met, row_agrees, row_of, row_values, row_values_long}
use Rattle.cc_form.proofs.Running.{made_is}

-- ---- assignments by lists of values

looked : List Bool → ℕ → Bool
looked values variable = get_or values (variable - 1) false

looked_at : (front values : List Bool) → Agrees (looked (front ++ values)) (length front) values
unfolding looked
looked_at front [] = tt
looked_at front (b ∷ values) = (
  ap (λ (n : ℕ). get_or (front ++ b ∷ values) n false) (let e : length front + 1 - 1 ≡ length front = omega arith in e) ∙ reads front,
  subst (λ (n : ℕ). Agrees (looked (front ++ b ∷ values)) n values) (length-append front (b ∷ []))
      (subst (λ (l : List Bool). Agrees (looked l) (length (front ++ b ∷ [])) values) (regroup front) (looked_at (front ++ b ∷ []) values)),
)
  where
    reads : (xs : List Bool) → get_or (xs ++ b ∷ values) (length xs) false ≡ b
    reads [] = refl
    reads (x ∷ xs) = reads xs

    regroup : (xs : List Bool) → (xs ++ b ∷ []) ++ values ≡ xs ++ b ∷ values
    regroup [] = refl
    regroup (x ∷ xs) = ap (λ l. x ∷ l) (regroup xs)

pub agrees_same : (one other : ℕ → Bool) (last : ℕ) (values : List Bool) → Agrees one last values → Agrees other last values → (n : ℕ) → last < n → n ≤ last + length values → one n ≡ other n
agrees_same one other last [] h k n above below = absurd (omega arith)
agrees_same one other last (b ∷ values) h k n above below = elim (cases_lt (last + 1) n) [
  | inl later ↦ agrees_same one other (last + 1) values h.1 k.1 n later (omega arith)
  | inr here ↦ let same : n ≡ last + 1 = omega arith in ap one same ∙ h.0 ∙ sym k.0 ∙ ap other (sym same)
]

-- assignments that have a row in common have every row in common
has_same : (first : ℕ) (sizes row found : List ℕ) (one other : ℕ → Bool) → HasRowFrom first sizes one row → HasRowFrom first sizes other row → HasRowFrom first sizes one found → HasRowFrom first sizes other found
has_same first [] row found one other h k f = tt
has_same first (size ∷ sizes) [] found one other h k f = absurd h
has_same first (size ∷ sizes) (i ∷ row) [] one other h k f = absurd f
has_same first (size ∷ sizes) (i ∷ row) (j ∷ found) one other h k f = (λ value less. k.0 value less ∙ sym (h.0 value less) ∙ f.0 value less, has_same (first + size) sizes row found one other h.1 k.1 f.1)

-- the assignment that has a row, makes T true, and gives the variables behind it these values
module _ (sizes row : List ℕ) (is : IsRow sizes row) (given : List Bool) where
  abbrev all_values : List Bool
  all_values = row_values sizes row ++ true ∷ given

  abbrev assigned : ℕ → Bool
  assigned = looked all_values

  T_behind : length (row_values sizes row) + 1 ≡ true_variable sizes
  T_behind = ap (λ (n : ℕ). n + 1) (row_values_long sizes row is)

  T_after : 0 + length (row_values sizes row) + 1 ≡ true_variable sizes
  T_after = let t = T_behind in omega arith

  canonical : Agrees assigned 0 all_values
  canonical = looked_at [] all_values

  row_in : HasRow sizes assigned row
  row_in = agrees_row assigned 0 sizes row is (agrees_left assigned 0 (row_values sizes row) (true ∷ given) canonical)

  true_in : assigned (true_variable sizes) ≡ true
  true_in = ap assigned (sym T_after) ∙ (agrees_right assigned 0 (row_values sizes row) (true ∷ given) canonical).0

  given_in : Agrees assigned (true_variable sizes) given
  given_in = subst (λ (n : ℕ). Agrees assigned n given) T_after (agrees_right assigned 0 (row_values sizes row) (true ∷ given) canonical).1

  -- and there is one alone
  all_agree : (a : ℕ → Bool) → HasRow sizes a row → a (true_variable sizes) ≡ true → Agrees a (true_variable sizes) given → Agrees a 0 all_values
  all_agree a has is_true agrees =
      agrees_both a 0 (row_values sizes row) (true ∷ given) (row_agrees a 0 sizes row has)
      (ap a T_after ∙ is_true, subst (λ (n : ℕ). Agrees a n given) (sym T_after) agrees)

-- ---- what a list of positions and clauses behind them tells

module _ (sizes : List ℕ) (made : Asserted) (Is : List ℕ → Type 0) (part : Says sizes made Is) where
  abbrev whole : List (List Literal)
  whole = first_clauses sizes ++ made.clauses

  true_from : (a : ℕ → Bool) → AllMet a whole → a (true_variable sizes) ≡ true
  true_from a met = one_true a (positive (true_variable sizes)) met.0

  part_met : (a : ℕ → Bool) → AllMet a whole → AllMet a made.clauses
  part_met a met = met_right a (first_clauses sizes) made.clauses met

  positions_in : (a : ℕ → Bool) → AllMet a whole → AllMet a (positions_from 1 sizes)
  positions_in a met = (met_left a (first_clauses sizes) made.clauses met).1

  whole_met : (row : List ℕ) → IsRow sizes row → (a : ℕ → Bool) → HasRow sizes a row → a (true_variable sizes) ≡ true → Agrees a (true_variable sizes) (part.given row) → Is row → AllMet a whole
  whole_met row is a has is_true agrees so =
      met_both a (first_clauses sizes) made.clauses (or_is (a (true_variable sizes)) false (inl is_true), positions_met a sizes row 1 is has)
      ((part.says row is a has is_true).agrees agrees so)

  whole_agrees : (row : List ℕ) (is : IsRow sizes row) (a : ℕ → Bool) → HasRow sizes a row → AllMet a whole → Agrees a 0 (all_values sizes row is (part.given row))
  whole_agrees row is a has met =
      let is_true = true_from a met in
      all_agree sizes row is (part.given row) a has is_true ((part.says row is a has is_true).meets (part_met a met))

  only_one : (row : List ℕ) → IsRow sizes row → (one other : ℕ → Bool) → HasRow sizes one row → HasRow sizes other row → AllMet one whole → AllMet other whole →
      (variable : ℕ) → 0 < variable → variable ≤ made.last → one variable ≡ other variable
  only_one row is one other has_one has_other met_one met_other variable some most =
      agrees_same one other 0 (all_values sizes row is (part.given row)) (whole_agrees row is one has_one met_one) (whole_agrees row is other has_other met_other) variable some
      (let end = (part.says row is one has_one (true_from one met_one)).ends in
      let t = T_behind sizes row is (part.given row) in
      let long = length-append (row_values sizes row) (true ∷ part.given row) in
      omega arith)

  -- The rows of positions and clauses behind them are those of which the clauses say so.
  pub parts_tell_rows : Tells (axioms_behind sizes made) (λ row. IsRow sizes row × Is row)
  parts_tell_rows = record {
    rows = λ row. (
      (λ of.
          let met = met_from of.assignment whole of.meets_all in
          (of.is_row, (part.says row of.is_row of.assignment of.has (true_from of.assignment met)).holds (part_met of.assignment met))),
      (λ of.
          let is = of.0 in
          let a = assigned sizes row is (part.given row) in
          record {
            is_row = is;
            assignment = a;
            has = row_in sizes row is (part.given row);
            meets_all = meets_from a whole (whole_met row is a (row_in sizes row is (part.given row)) (true_in sizes row is (part.given row)) (given_in sizes row is (part.given row)) of.1);
          }),
    );
    once = λ row one other has_one has_other met_one met_other variable some most.
        let met = met_from one whole met_one in
        let found = row_of one sizes 1 (positions_in one met) in
        only_one found.0 found.2 one other found.1 (has_same 1 sizes row found.0 one other has_one has_other found.1) met (met_from other whole met_other) variable some most;
    each = λ a met_all. let met = met_from a whole met_all in let found = row_of a sizes 1 (positions_in a met) in (found.0, found.1, found.2);
  }

-- the same of rows said otherwise
pub tells_alike : (axioms : Axioms) (Is Js : List ℕ → Type 0) → ((row : List ℕ) → Is row ↔ Js row) → Tells axioms Is → Tells axioms Js
tells_alike axioms Is Js same tells = record {
  rows = λ row. ((λ of. (same row).0 ((tells.rows row).0 of)), (λ of. (tells.rows row).1 ((same row).1 of)));
  once = tells.once;
  each = tells.each;
}

pub says_alike : (sizes : List ℕ) (last : ℕ) (made : Asserted) (Is Js : List ℕ → Type 0) → ((row : List ℕ) → IsRow sizes row → Is row ↔ Js row) → SaysFrom sizes last made Is → SaysFrom sizes last made Js
says_alike sizes last made Is Js same part = record {
  given = part.given;
  says = λ row is a has is_true.
      let here = part.says row is a has is_true in
      record {
        ends = here.ends;
        meets = here.meets;
        holds = λ h. (same row is).0 (here.holds h);
        agrees = λ h k. here.agrees h ((same row is).1 k);
      };
}

-- ---- parts one behind the other

-- no clauses: every row
pub says_nothing : (sizes : List ℕ) (last : ℕ) → SaysFrom sizes last (record { last = last; clauses = [] }) (λ row. Unit {0})
says_nothing sizes last = record { given = λ row. []; says = λ row is a has is_true. record { ends = omega arith; meets = λ h. tt; holds = λ h. tt; agrees = λ h k. tt } }

pub says_ends : (sizes : List ℕ) (last : ℕ) (made : Asserted) (Is : List ℕ → Type 0) (part : SaysFrom sizes last made Is) (row : List ℕ) → IsRow sizes row → made.last ≡ last + length (part.given row)
says_ends sizes last made Is part row is = (part.says row is (assigned sizes row is []) (row_in sizes row is []) (true_in sizes row is [])).ends

-- what is said wherever, is said behind others
pub says_behind : (sizes : List ℕ) (start : ℕ) (before : List ℕ → List Bool) (last : ℕ) (made : Asserted) (Is : List ℕ → Type 0) → SaysFrom sizes last made Is → SaysBehind sizes start before last made Is
says_behind sizes start before last made Is part = record {
  given = part.given;
  ends = says_ends sizes last made Is part;
  says = λ row is a has is_true known. part.says row is a has is_true;
}

-- one part behind another whose variables are known: both
pub says_with : (sizes : List ℕ) (last : ℕ) (one other : Asserted) (Is Js : List ℕ → Type 0) (first : SaysFrom sizes last one Is) → SaysBehind sizes last first.given one.last other Js →
    SaysFrom sizes last (joined_parts one other) (λ row. Is row × Js row)
says_with sizes last one other Is Js first second = record {
  given = λ row. first.given row ++ second.given row;
  says = λ row is a has is_true.
      let xs = first.given row in
      let ys = second.given row in
      let here = first.says row is a has is_true in
      let there = second.says row is a has is_true in
      record {
        ends = ends_together a last xs ys one.last here.ends other.last (second.ends row is);
        meets = λ h.
            let known = here.meets (met_left a one.clauses other.clauses h) in
            joined a last xs ys one.last here.ends known ((there known).meets (met_right a one.clauses other.clauses h));
        holds = λ h.
            let before = met_left a one.clauses other.clauses h in
            (here.holds before, (there (here.meets before)).holds (met_right a one.clauses other.clauses h));
        agrees = λ h k.
            let known = agrees_left a last xs ys h in
            met_both a one.clauses other.clauses (here.agrees known k.0) ((there known).agrees (behind a last xs ys one.last here.ends h) k.1);
      };
}

-- one part behind another: both
abbrev pub says_then : (sizes : List ℕ) (last : ℕ) (one other : Asserted) (Is Js : List ℕ → Type 0) → SaysFrom sizes last one Is → SaysFrom sizes one.last other Js →
    SaysFrom sizes last (joined_parts one other) (λ row. Is row × Js row)
says_then sizes last one other Is Js first second = says_with sizes last one other Is Js first (says_behind sizes last first.given one.last other Js second)

-- ---- terms

module _ (sizes : List ℕ) (last : ℕ) (f : Ground) (fit : TermFits sizes f) where
  abbrev value_in : List ℕ → ℕ → ℕ
  value_in row = λ position. slice_index row position

  -- the clauses of a term: every row
  pub says_defined : SaysFrom sizes last (record { last = (made_of sizes last f).last; clauses = (made_of sizes last f).clauses }) (λ row. Unit {0})
  says_defined = record {
    given = λ row. values_of sizes (value_in row) last f;
    says = λ row is a has is_true.
        let told = term_told a sizes (value_in row) is_true (atom_is a sizes row has) f last (atoms_fit sizes f fit) in
        record { ends = told.ends; meets = told.meets; holds = λ h. tt; agrees = λ h k. told.agrees h };
  }

  -- and its literal is worth its truth behind them
  pub term_worth : IsWorth sizes last says_defined.given (made_of sizes last f).literal (λ row. holds row f)
  unfolding says_defined
  term_worth = record { is = λ row is a has is_true known. (term_told a sizes (value_in row) is_true (atom_is a sizes row has) f last (atoms_fit sizes f fit)).literal known }

  -- the clauses of a term and its literal alone: the rows in which it is true
  pub says_term : SaysFrom sizes last (asserted (made_of sizes last f) (made_of sizes last f).literal) (λ row. IsTrue (holds row f))
  says_term = record {
    given = λ row. values_of sizes (value_in row) last f;
    says = λ row is a has is_true.
        let m = made_of sizes last f in
        let told = term_told a sizes (value_in row) is_true (atom_is a sizes row has) f last (atoms_fit sizes f fit) in
        record {
          ends = told.ends;
          meets = λ h. told.meets (met_left a m.clauses ((m.literal ∷ []) ∷ []) h);
          holds = λ h. sym (told.literal (told.meets (met_left a m.clauses ((m.literal ∷ []) ∷ []) h))) ∙ one_true a m.literal (met_right a m.clauses ((m.literal ∷ []) ∷ []) h).0;
          agrees = λ h k. met_both a m.clauses ((m.literal ∷ []) ∷ []) (told.agrees h) (or_is (is_made_true a m.literal) false (inl (told.literal h ∙ k)), tt);
        };
  }

-- the clauses of the nodes of a term are those of the term
pub nodes_made : (sizes : List ℕ) (last : ℕ) (f : Ground) (term : List Node) → postfix f ≡ term → made_nodes sizes last term ≡ made_of sizes last f
nodes_made sizes last f term is = ap (made_nodes sizes last) (sym is) ∙ made_is sizes f last

-- ---- what literals are worth

module _ (sizes : List ℕ) (start : ℕ) (before : List ℕ → List Bool) where
  -- T is true
  pub true_worth : IsWorth sizes start before (positive (true_variable sizes)) (λ row. true)
  true_worth = record { is = λ row is a has is_true known. is_true }

  pub opposite_worth : (literal : Literal) (worth : List ℕ → Bool) → IsWorth sizes start before literal worth → IsWorth sizes start before (opposite literal) (λ row. not (worth row))
  opposite_worth literal worth so = record { is = λ row is a has is_true known. opposite_is a literal ∙ ap not (so.is row is a has is_true known) }

  -- an atom is true in the rows that have its value
  pub atom_worth : (position value : ℕ) → Fits sizes (nodes.Atom position value) → IsWorth sizes start before (positive (atom_variable sizes position value)) (λ row. slice_index row position == value)
  atom_worth position value fits = record { is = λ row is a has is_true known. atom_is a sizes row has position value fits }

  worth_together : (literals : List Literal) (worths : List (List ℕ → Bool)) → AreWorth sizes start before literals worths → (row : List ℕ) → IsRow sizes row → (a : ℕ → Bool) → HasRow sizes a row →
      a (true_variable sizes) ≡ true → Agrees a start (before row) → meets a literals ≡ list_any (λ worth. worth row) worths
  worth_together [] [] are row is a has is_true known = refl
  worth_together [] (worth ∷ worths) are row is a has is_true known = absurd are
  worth_together (literal ∷ literals) [] are row is a has is_true known = absurd are
  worth_together (literal ∷ literals) (worth ∷ worths) are row is a has is_true known =
      ap (λ (b : Bool). b || meets a literals) (are.0.is row is a has is_true known)
      ∙ ap (λ (b : Bool). worth row || b) (worth_together literals worths are.1 row is a has is_true known)

  -- one written clause: the rows in which one of its literals is true
  pub says_clause : (last : ℕ) (literals : List Literal) (worths : List (List ℕ → Bool)) → AreWorth sizes start before literals worths →
      SaysBehind sizes start before last (record { last = last; clauses = written literals }) (λ row. IsTrue (list_any (λ worth. worth row) worths))
  says_clause last literals worths are = record {
    given = λ row. [];
    ends = λ row is. omega arith;
    says = λ row is a has is_true known.
        let same = worth_together literals worths are row is a has is_true known in
        record {
          ends = omega arith;
          meets = λ h. tt;
          holds = λ h. sym same ∙ met_written a literals h;
          agrees = λ h k. written_met a literals (same ∙ k);
        };
  }

-- what a literal of the first part is worth, it is worth behind both
pub worth_kept : (sizes : List ℕ) (last : ℕ) (one other : Asserted) (Is Js : List ℕ → Type 0) (first : SaysFrom sizes last one Is) (second : SaysBehind sizes last first.given one.last other Js)
    (literal : Literal) (worth : List ℕ → Bool) → IsWorth sizes last first.given literal worth → IsWorth sizes last (says_with sizes last one other Is Js first second).given literal worth
unfolding says_with
worth_kept sizes last one other Is Js first second literal worth so = record { is = λ row is a has is_true known. so.is row is a has is_true (agrees_left a last (first.given row) (second.given row) known) }

-- and one of the second part
pub worth_added : (sizes : List ℕ) (last : ℕ) (one other : Asserted) (Is Js : List ℕ → Type 0) (first : SaysFrom sizes last one Is) (second : SaysFrom sizes one.last other Js)
    (literal : Literal) (worth : List ℕ → Bool) → IsWorth sizes one.last second.given literal worth → IsWorth sizes last (says_then sizes last one other Is Js first second).given literal worth
unfolding says_with says_behind
worth_added sizes last one other Is Js first second literal worth so = record {
  is = λ row is a has is_true known. so.is row is a has is_true (behind a last (first.given row) (second.given row) one.last (says_ends sizes last one Is first row is) known);
}

-- a part that needs nothing known
pub says_from : (sizes : List ℕ) (last : ℕ) (made : Asserted) (Is : List ℕ → Type 0) → SaysBehind sizes last (λ row. []) last made Is → SaysFrom sizes last made Is
says_from sizes last made Is part = record { given = part.given; says = λ row is a has is_true. part.says row is a has is_true tt }
