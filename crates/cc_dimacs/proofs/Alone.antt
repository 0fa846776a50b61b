-- A text spells one list of clauses at most, and none where it has a fault.
use Rattle.std.proofs.Common.{◌≡◌, ◌∙◌, ℕ, ◌+◌, ◌≤◌, true, List, [], ◌∷◌, ◌++◌, flat_map, length, Option, Some, None, decimal, refl, sym, ap, subst, arith, append_assoc, append-nil, inl, inr}
use Rattle.cc_defs.specs.Clauses.{Literal}
use Rattle.cc_defs.specs.LogTexts.{IsShort}
use Rattle.cc_dimacs.specs.Cnfs.{PlainCnf, AreOver}
use Rattle.cc_dimacs.specs.CnfTexts.{IsFaultIn, IsFirstWrong, IsHeading, Line, Word, clause_words, texts_of, words_in, words_of}
use Rattle.cc_dimacs.specs.Laws.{FaultsSpellNothing, OneCnf}
use Rattle.cc_dimacs.specs.Reading.{Taken, nothing_taken}
use Rattle.cc_dimacs.proofs.Clauses.{after, after_both, after_none, begins_taken, taken_begins, taken_of}
use Rattle.cc_dimacs.proofs.Faults.{texts_both}
use Rattle.cc_dimacs.proofs.Numbers.{one_number}

module _ (words : List (List ℕ)) (one_variables other_variables one_count other_count : ℕ) (one : IsHeading words one_variables one_count) (other : IsHeading words other_variables other_count) where
  pub same_variables : one_variables ≡ other_variables
  same_variables =
      let a = one.spelled in let b = other.spelled in
      let same : decimal one_variables ≡ decimal other_variables = cc in
      one_number one_variables other_variables one.variables_short other.variables_short same

  pub same_count : one_count ≡ other_count
  same_count =
      let a = one.spelled in let b = other.spelled in
      let same : decimal one_count ≡ decimal other_count = cc in
      one_number one_count other_count one.count_short other.count_short same

-- all of the words are taken
pub spelled_taken : (variables count : ℕ) (words : List (List ℕ)) (clauses : List (List Literal)) → IsShort variables → AreOver variables clauses → length clauses ≤ count → words ≡ flat_map clause_words clauses →
    after true variables count (Some nothing_taken) words ≡ Some (taken_of true clauses [])
spelled_taken variables count words clauses short over few spelled =
    begins_taken true variables count words (record {
      clauses = clauses;
      rest = [];
      over = over;
      rest_over = tt;
      few = few;
      fewer = λ e. absurd (e refl);
      spelled = spelled ∙ sym (append-nil (flat_map clause_words clauses));
    }) short

one_list : (variables : ℕ) (words : List (List ℕ)) (one other : List (List Literal)) → IsShort variables → AreOver variables one → AreOver variables other → words ≡ flat_map clause_words one → words ≡ flat_map clause_words other → one ≡ other
one_list variables words one other short over_one over_other a b =
    let first = spelled_taken variables (length one + length other) words one short over_one (omega arith) a in
    let second = spelled_taken variables (length one + length other) words other short over_other (omega arith) b in
    let same : taken_of true one [] ≡ taken_of true other [] = cc in
    ap (λ (t : Taken). t.clauses) same

pub one_cnf : OneCnf
one_cnf bytes one other a b =
    let lines_a = a.lines in let lines_b = b.lines in
    let first_same : a.first ≡ b.first = cc in
    let others_same : a.others ≡ b.others = cc in
    let heading = subst (λ (l : Line). IsHeading (words_in l.text) one.variables (length one.clauses)) first_same a.heading in
    let v = same_variables (words_in b.first.text) one.variables other.variables (length one.clauses) (length other.clauses) heading b.heading in
    let spelled : texts_of (flat_map words_of b.others) ≡ flat_map clause_words one.clauses = subst (λ (ls : List Line). texts_of (flat_map words_of ls) ≡ flat_map clause_words one.clauses) others_same a.spelled in
    let c = one_list other.variables (texts_of (flat_map words_of b.others)) one.clauses other.clauses b.heading.variables_short (subst (λ (n : ℕ). AreOver n one.clauses) v a.over) b.over spelled b.spelled in
    ap (λ (n : ℕ). let made : PlainCnf = record { variables = n; clauses = one.clauses } in made) v
    ∙ ap (λ (cs : List (List Literal)). let made : PlainCnf = record { variables = other.variables; clauses = cs } in made) c

-- a word among those of clauses is not wrong
not_wrong : (variables count : ℕ) (words : List Word) (wrong : Word) (clauses : List (List Literal)) → IsShort variables → AreOver variables clauses → length clauses ≤ count → texts_of words ≡ flat_map clause_words clauses → IsFirstWrong variables count words wrong → ⊥
not_wrong variables count words wrong clauses short over few spelled is = go (after true variables count (Some nothing_taken) (texts_of (is.before ++ wrong ∷ []))) refl
  where
    all : after true variables count (Some nothing_taken) (texts_of words) ≡ Some (taken_of true clauses [])
    all = spelled_taken variables count (texts_of words) clauses short over few spelled

    parts : texts_of words ≡ texts_of (is.before ++ wrong ∷ []) ++ texts_of is.behind
    parts = ap texts_of (is.parted ∙ sym (append_assoc is.before (wrong ∷ []) is.behind)) ∙ texts_both (is.before ++ wrong ∷ []) is.behind

    split : after true variables count (after true variables count (Some nothing_taken) (texts_of (is.before ++ wrong ∷ []))) (texts_of is.behind) ≡ Some (taken_of true clauses [])
    split = sym (after_both true variables count (Some nothing_taken) (texts_of (is.before ++ wrong ∷ [])) (texts_of is.behind)) ∙ sym (ap (after true variables count (Some nothing_taken)) parts) ∙ all

    go : (state : Option Taken) → after true variables count (Some nothing_taken) (texts_of (is.before ++ wrong ∷ [])) ≡ state → ⊥
    go None at =
        let none : None ≡ Some (taken_of true clauses []) = sym (after_none true variables count (texts_of is.behind)) ∙ sym (ap (λ (s : Option Taken). after true variables count s (texts_of is.behind)) at) ∙ split in
        cc
    go (Some state) at = is.wrongs (taken_begins true variables count (texts_of (is.before ++ wrong ∷ [])) state at).begins

pub faults_spell_nothing : FaultsSpellNothing
faults_spell_nothing bytes line cnf fault text = elim (subst (λ (ls : List Line). IsFaultIn bytes ls line) text.lines fault) [
  | inl none ↦ none.0 cnf.variables (length cnf.clauses) text.heading
  | inr behind ↦
      let v = same_variables (words_in text.first.text) behind.0 cnf.variables behind.1 (length cnf.clauses) behind.2 text.heading in
      let n = same_count (words_in text.first.text) behind.0 cnf.variables behind.1 (length cnf.clauses) behind.2 text.heading in
      let over : AreOver behind.0 cnf.clauses = subst (λ (k : ℕ). AreOver k cnf.clauses) (sym v) text.over in
      elim behind.3 [
        | inl wrong ↦ not_wrong behind.0 behind.1 (flat_map words_of text.others) wrong.0 cnf.clauses behind.2.variables_short over (omega arith) text.spelled wrong.1
        | inr lacks ↦ lacks.0.none cnf.clauses over (sym n) text.spelled
      ]
]
