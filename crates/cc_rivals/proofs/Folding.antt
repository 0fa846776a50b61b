-- What is put into drafts one behind another, and loops over what is to be put.
use Rattle.std.proofs.Common.{◌≡◌, ◌∙◌, ℕ, ◌≤◌, Bool, true, false, List, [], ◌∷◌, ◌++◌, map, IsErrAnd, Option, Some, None, Result, Ok, Err, OnOk, IfErr, refl, sym, ap, subst, arith, append_assoc, append-nil}
use Rattle.std.specs.Prelude.{if◌then◌else◌, cond}
use Rattle.std.specs.List.{filter}
use Rattle.cc_defs.specs.declared.refusal.Fault.{Fault}
use Rattle.cc_defs.specs.declared.refusal.Fault.TheVariants as faults
use Rattle.cc_defs.specs.ClauseForms.{Made, MadeAll, made_all, made_any, made_of, made_operands, positive, true_variable}
use Rattle.cc_defs.specs.ClauseLists.{Asserted, assert_all, asserted, deny}
use Rattle.cc_defs.specs.Clauses.{Literal}
use Rattle.cc_defs.specs.Terms.{Ground, Operands, nothing, and_then}
use Rattle.cc_defs.specs.Terms as terms
use Rattle.cc_form.specs.declared.writer.Writer.{Writer}
use Rattle.cc_form.specs.Drafts.{IsDraft}
use Rattle.cc_form.specs.Machine.{IsPast}
use Rattle.cc_form.specs.Parts.{joined_parts}
use Rattle.cc_rivals.specs.Putting.{Puts, put_claim, put_rule, put_rules, put_term, put_terms}
use Rattle.cc_wide.specs.WideLists.{WideTimed, all_implied, implied, implied_with, reduct_heads, test_holds}

-- ---- the last variable only rises

all_rises : (t : Literal) (made : MadeAll) (literals : List Literal) → made.last ≤ (made_all t made literals).last
all_rises t made [] = omega arith
all_rises t made (l ∷ []) = omega arith
all_rises t made (l ∷ m ∷ literals) = omega arith

any_rises : (t : Literal) (made : MadeAll) (literals : List Literal) → made.last ≤ (made_any t made literals).last
any_rises t made [] = omega arith
any_rises t made (l ∷ []) = omega arith
any_rises t made (l ∷ m ∷ literals) = omega arith

mutual
  pub made_rises : (sizes : List ℕ) (last : ℕ) (f : Ground) → last ≤ (made_of sizes last f).last
  made_rises sizes last terms.Truth = omega arith
  made_rises sizes last terms.Falsehood = omega arith
  made_rises sizes last (terms.Atom position value) = omega arith
  made_rises sizes last (terms.Not f) = made_rises sizes last f
  made_rises sizes last (terms.All operands) =
      let made = made_operands sizes last operands in
      let before = operands_rise sizes last operands in
      let here = all_rises (positive (true_variable sizes)) made made.literals in
      omega arith
  made_rises sizes last (terms.Any operands) =
      let made = made_operands sizes last operands in
      let before = operands_rise sizes last operands in
      let here = any_rises (positive (true_variable sizes)) made made.literals in
      omega arith
  made_rises sizes last (terms.Same f g) =
      let one = made_rises sizes last f in
      let other = made_rises sizes (made_of sizes last f).last g in
      omega arith

  operands_rise : (sizes : List ℕ) (last : ℕ) (operands : Operands) → last ≤ (made_operands sizes last operands).last
  operands_rise sizes last nothing = omega arith
  operands_rise sizes last (and_then operands f) =
      let before = operands_rise sizes last operands in
      let here = made_rises sizes (made_operands sizes last operands).last f in
      omega arith

pub with_rises : (sizes : List ℕ) (now : Made) (before : Option Ground) (head : Ground) → now.last ≤ (implied_with sizes now before head).last
with_rises sizes now None head = made_rises sizes now.last head
with_rises sizes now (Some f) head =
    let one = made_rises sizes now.last f in
    let other = made_rises sizes (made_of sizes now.last f).last head in
    omega arith

pub implied_rises : (sizes : List ℕ) (last : ℕ) (rule : WideTimed) → last ≤ (implied sizes last rule).last
implied_rises sizes last rule =
    let now = made_of sizes last rule.now in
    let one = made_rises sizes last rule.now in
    let other = with_rises sizes now rule.before rule.head in
    omega arith

rule_rises : (row : Option (List ℕ)) (sizes : List ℕ) (made : Asserted) (rule : WideTimed) → made.last ≤ (put_rule row sizes made rule).last
rule_rises None sizes made rule = implied_rises sizes made.last rule
rule_rises (Some row) sizes made rule = chosen (test_holds row rule)
  where
    chosen : (b : Bool) → made.last ≤ (if b then put_term sizes made rule.head else made).last
    chosen true = made_rises sizes made.last rule.head
    chosen false = omega arith

pub rules_rise : (row : Option (List ℕ)) (sizes : List ℕ) (made : Asserted) (rules : List WideTimed) → made.last ≤ (put_rules row sizes made rules).last
rules_rise row sizes made [] = omega arith
rules_rise row sizes made (rule ∷ rules) =
    let one = rule_rises row sizes made rule in
    let other = rules_rise row sizes (put_rule row sizes made rule) rules in
    omega arith

pub terms_rise : (sizes : List ℕ) (made : Asserted) (formulas : List Ground) → made.last ≤ (put_terms sizes made formulas).last
terms_rise sizes made [] = omega arith
terms_rise sizes made (f ∷ formulas) =
    let one = made_rises sizes made.last f in
    let other = terms_rise sizes (put_term sizes made f) formulas in
    omega arith

pub claim_rises : (sizes : List ℕ) (made : Asserted) (claim : Option Ground) → made.last ≤ (put_claim sizes made claim).last
claim_rises sizes made None = omega arith
claim_rises sizes made (Some f) = made_rises sizes made.last f

-- ---- one list behind another

pub rules_behind : (row : Option (List ℕ)) (sizes : List ℕ) (made : Asserted) (xs ys : List WideTimed) → put_rules row sizes made (xs ++ ys) ≡ put_rules row sizes (put_rules row sizes made xs) ys
rules_behind row sizes made [] ys = refl
rules_behind row sizes made (x ∷ xs) ys = rules_behind row sizes (put_rule row sizes made x) xs ys

pub terms_behind : (sizes : List ℕ) (made : Asserted) (xs ys : List Ground) → put_terms sizes made (xs ++ ys) ≡ put_terms sizes (put_terms sizes made xs) ys
terms_behind sizes made [] ys = refl
terms_behind sizes made (x ∷ xs) ys = terms_behind sizes (put_term sizes made x) xs ys

-- ---- faults

pub past_more : (last more : ℕ) (fault : Fault) → last ≤ more → IsPast last fault → IsPast more fault
past_more last more (faults.Refused refusal) less is = (is.0, (let past = is.1 in omega arith))
past_more last more faults.OutOfMemory less is = tt

pub puts_err : (old new : Writer) (result : Result (Unit {0}) Fault) (more : List ℕ → Asserted → Asserted) (fault : Fault) → IsErrAnd result (λ given. given ≡ fault) →
    ((sizes : List ℕ) (made : Asserted) → IsDraft sizes old made → IsPast (more sizes made).last fault) → Puts old new result more
puts_err old new (Ok done) more fault is past = absurd is
puts_err old new (Err given) more fault is past = record {
  places = tt;
  draft = λ sizes made h. tt;
  refused = λ sizes made h. subst (IsPast (more sizes made).last) (sym is) (past sizes made h);
}

pub puts_alike : (old new : Writer) (result : Result (Unit {0}) Fault) (more other : List ℕ → Asserted → Asserted) → ((sizes : List ℕ) (made : Asserted) → more sizes made ≡ other sizes made) → Puts old new result more → Puts old new result other
puts_alike old new result more other same puts = record {
  places = puts.places;
  draft = λ sizes made is. subst (λ (a : Asserted). OnOk result (IsDraft sizes new a)) (same sizes made) (puts.draft sizes made is);
  refused = λ sizes made is. subst (λ (a : Asserted). IfErr result (IsPast a.last)) (same sizes made) (puts.refused sizes made is);
}

-- nothing is put where nothing is to be put
pub puts_nothing : (old : Writer) (more : List ℕ → Asserted → Asserted) → ((sizes : List ℕ) (made : Asserted) → more sizes made ≡ made) → Puts old old (Ok tt) more
puts_nothing old more none = record {
  places = refl;
  draft = λ sizes made is. subst (IsDraft sizes old) (sym (none sizes made)) is;
  refused = λ sizes made is. tt;
}

-- one call behind another
pub puts_then : (old between new : Writer) (result : Result (Unit {0}) Fault) (first second : List ℕ → Asserted → Asserted) → Puts old between (Ok tt) first → Puts between new result second → Puts old new result (λ sizes made. second sizes (first sizes made))
puts_then old between new result first second one other = record {
  places = both result other.places;
  draft = λ sizes made is. other.draft sizes (first sizes made) (one.draft sizes made is);
  refused = λ sizes made is. other.refused sizes (first sizes made) (one.draft sizes made is);
}
  where
    both : (r : Result (Unit {0}) Fault) → OnOk r (new.places ≡ between.places) → OnOk r (new.places ≡ old.places)
    both (Ok done) e = e ∙ one.places
    both (Err fault) e = tt

-- ---- loops

pub record IsFold {X : Type 0} (F : List ℕ → Asserted → List X → Asserted) : Type 0 where
  pub none : (sizes : List ℕ) (made : Asserted) → F sizes made [] ≡ made
  pub behind : (sizes : List ℕ) (made : Asserted) (xs ys : List X) → F sizes made (xs ++ ys) ≡ F sizes (F sizes made xs) ys
  pub rises : (sizes : List ℕ) (made : Asserted) (xs : List X) → made.last ≤ (F sizes made xs).last

pub rules_fold : (row : Option (List ℕ)) → IsFold (put_rules row)
rules_fold row = record { none = λ sizes made. refl; behind = rules_behind row; rises = rules_rise row }

pub terms_fold : IsFold put_terms
terms_fold = record { none = λ sizes made. refl; behind = terms_behind; rises = terms_rise }

-- what is there, with what is left, is the whole
pub record Stands {X : Type 0} (F : List ℕ → Asserted → List X → Asserted) (begun now : Writer) (left whole : List X) : Type 0 where
  pub places : now.places ≡ begun.places
  pub so : (sizes : List ℕ) (made : Asserted) → IsDraft sizes begun made → (so : Asserted) × IsDraft sizes now so × (F sizes so left ≡ F sizes made whole)

module _ {X : Type 0} (F : List ℕ → Asserted → List X → Asserted) (fold : IsFold F) where
  pub loop_begun : (begun : Writer) (left whole : List X) → left ≡ whole → Stands F begun begun left whole
  loop_begun begun left whole same = record { places = refl; so = λ sizes made is. (made, is, ap (F sizes made) same) }

  pub loop_turn : (begun now new : Writer) (left here rest whole : List X) → Stands F begun now left whole → left ≡ here ++ rest → Puts now new (Ok tt) (λ sizes made. F sizes made here) → Stands F begun new rest whole
  loop_turn begun now new left here rest whole stands split puts = record {
    places = puts.places ∙ stands.places;
    so = λ sizes made is.
        let at = stands.so sizes made is in
        (F sizes at.0 here, puts.draft sizes at.0 at.1, sym (fold.behind sizes at.0 here rest) ∙ ap (F sizes at.0) (sym split) ∙ at.2);
  }

  pub loop_fails : (begun now new : Writer) (result : Result (Unit {0}) Fault) (fault : Fault) (left here rest whole : List X) → Stands F begun now left whole → left ≡ here ++ rest → IsErrAnd result (λ given. given ≡ fault) →
      Puts now new (Err fault) (λ sizes made. F sizes made here) → (final : Writer) → Puts begun final result (λ sizes made. F sizes made whole)
  loop_fails begun now new result fault left here rest whole stands split failed puts final = puts_err begun final result (λ sizes made. F sizes made whole) fault failed (λ sizes made is.
      let at = stands.so sizes made is in
      let all : F sizes (F sizes at.0 here) rest ≡ F sizes made whole = sym (fold.behind sizes at.0 here rest) ∙ ap (F sizes at.0) (sym split) ∙ at.2 in
      past_more (F sizes at.0 here).last (F sizes made whole).last fault (subst (λ (a : Asserted). (F sizes at.0 here).last ≤ a.last) all (fold.rises sizes (F sizes at.0 here) rest)) (puts.refused sizes at.0 at.1))

  pub loop_ends : (begun now : Writer) (left whole : List X) → Stands F begun now left whole → left ≡ [] → Puts begun now (Ok tt) (λ sizes made. F sizes made whole)
  loop_ends begun now left whole stands done = record {
    places = stands.places;
    draft = λ sizes made is.
        let at = stands.so sizes made is in
        subst (IsDraft sizes now) (sym (fold.none sizes at.0) ∙ ap (F sizes at.0) (sym done) ∙ at.2) at.1;
    refused = λ sizes made is. tt;
  }

-- ---- what was put, as lists

joined_none : (made : Asserted) → made ≡ joined_parts made (record { last = made.last; clauses = [] })
joined_none made = ap (λ (l : List (List Literal)). let a : Asserted = record { last = made.last; clauses = l } in a) (sym (append-nil made.clauses))

joined_more : (made one other : Asserted) → joined_parts (joined_parts made one) other ≡ joined_parts made (joined_parts one other)
joined_more made one other = ap (λ (l : List (List Literal)). let a : Asserted = record { last = other.last; clauses = l } in a) (append_assoc made.clauses one.clauses other.clauses)

pub implied_put : (sizes : List ℕ) (made : Asserted) (rules : List WideTimed) → put_rules None sizes made rules ≡ joined_parts made (all_implied sizes made.last rules)
implied_put sizes made [] = joined_none made
implied_put sizes made (rule ∷ rules) =
    let first = implied sizes made.last rule in
    implied_put sizes (joined_parts made first) rules ∙ joined_more made first (all_implied sizes first.last rules)

pub terms_put : (sizes : List ℕ) (made : Asserted) (formulas : List Ground) → put_terms sizes made formulas ≡ joined_parts made (assert_all sizes made.last formulas)
terms_put sizes made [] = joined_none made
terms_put sizes made (f ∷ formulas) =
    let told = made_of sizes made.last f in
    let others = assert_all sizes told.last formulas in
    terms_put sizes (put_term sizes made f) formulas ∙ joined_more made (asserted told told.literal) others
    ∙ ap (λ (l : List (List Literal)). joined_parts made (let a : Asserted = record { last = others.last; clauses = l } in a)) (append_assoc told.clauses ((told.literal ∷ []) ∷ []) others.clauses)

pub claim_put : (sizes : List ℕ) (made : Asserted) (claim : Option Ground) → put_claim sizes made claim ≡ joined_parts made (deny sizes made.last claim)
claim_put sizes made None = joined_none made
claim_put sizes made (Some f) = refl

-- of rules whose parts a row meets, the heads
pub heads_put : (row sizes : List ℕ) (made : Asserted) (rules : List WideTimed) → put_rules (Some row) sizes made rules ≡ put_terms sizes made (reduct_heads rules row)
heads_put row sizes made [] = refl
heads_put row sizes made (rule ∷ rules) = chosen (test_holds row rule) (λ more. heads_put row sizes more rules)
  where
    chosen : (b : Bool) → ((more : Asserted) → put_rules (Some row) sizes more rules ≡ put_terms sizes more (reduct_heads rules row)) → put_rules (Some row) sizes (if b then put_term sizes made rule.head else made) rules
        ≡ put_terms sizes made (map (λ (r : WideTimed). r.head) (cond b (rule ∷ filter (test_holds row) rules) (filter (test_holds row) rules)))
    chosen true others = others (put_term sizes made rule.head)
    chosen false others = others made
