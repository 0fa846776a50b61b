-- Sections of clauses that tell rows of a kind: what is told of the rows of the clauses is told of the kind.
use Rattle.std.proofs.Common.{ℕ, List, Option}
use Rattle.std.specs.Prelude.{◌↔◌}
use Rattle.cc_clauses.specs.RowsOf.{IsRowOf}
use Rattle.cc_clauses.specs.Tells.{Tells}
use Rattle.cc_defs.specs.Histories.{AreAllOf, AreFirstOf}
use Rattle.cc_defs.specs.Runs.{Section, TellsRows, rows_of}
use Rattle.cc_defs.specs.Sections.{Axioms}

module _ (Is Other : List ℕ → Type 0) (same : (row : List ℕ) → Is row ↔ Other row) where
  all_same : (rows : List (List ℕ)) → AreAllOf Is rows → AreAllOf Other rows
  all_same rows all = record {
    ascending = all.ascending;
    members = λ row. ((λ there. (same row).0 ((all.members row).0 there)), (λ is. (all.members row).1 ((same row).1 is)));
  }

  first_same : (rows : List (List ℕ)) → AreFirstOf Is rows → AreFirstOf Other rows
  first_same rows first = record {
    ascending = first.ascending;
    each = λ row there. (same row).0 (first.each row there);
    others = λ row is. first.others row ((same row).1 is);
  }

  told_same : (axioms : Axioms) (count : Option ℕ) (budget : ℕ) (section : Section) → TellsRows Is axioms count budget section → TellsRows Other axioms count budget section
  told_same axioms count budget section tells = record {
    fair = tells.fair;
    first = first_same (rows_of section) tells.first;
    asked = tells.asked;
    denied = tells.denied;
    all_told = λ ends. all_same (rows_of section) (tells.all_told ends);
    enough = tells.enough;
    undenied = tells.undenied;
  }

module _ (axioms : Axioms) (Is : List ℕ → Type 0) (tells : Tells axioms Is) where
  pub all_moved : (rows : List (List ℕ)) → AreAllOf (IsRowOf axioms.sizes axioms.clauses) rows → AreAllOf Is rows
  all_moved rows all = all_same (IsRowOf axioms.sizes axioms.clauses) Is tells.rows rows all

  pub first_moved : (rows : List (List ℕ)) → AreFirstOf (IsRowOf axioms.sizes axioms.clauses) rows → AreFirstOf Is rows
  first_moved rows first = first_same (IsRowOf axioms.sizes axioms.clauses) Is tells.rows rows first

  pub told_moved : (count : Option ℕ) (budget : ℕ) (section : Section) →
      TellsRows (IsRowOf axioms.sizes axioms.clauses) axioms count budget section → TellsRows Is axioms count budget section
  told_moved count budget section told = told_same (IsRowOf axioms.sizes axioms.clauses) Is tells.rows axioms count budget section told
