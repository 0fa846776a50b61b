-- What calls on a draft put there.
use Rattle.std.proofs.Common.{◌≡◌, ◌∙◌, ℕ, ◌≤◌, Bool, true, false, List, [], ◌∷◌, ◌++◌, IsErrAnd, IfErr, OnOk, Option, Some, None, Result, Ok, Err, refl, sym, ap, subst, append_assoc}
use Rattle.std.specs.Prelude.{◌==◌, ◌&&◌, ◌||◌, not, if◌then◌else◌}
use Rattle.std.specs.Bool.{beq}
use Rattle.cc_defs.specs.declared.refusal.Fault.{Fault}
use Rattle.cc_defs.specs.ClauseForms.{made_of, written}
use Rattle.cc_defs.specs.ClauseLists.{Asserted, asserted}
use Rattle.cc_defs.specs.Clauses.{Literal, opposite}
use Rattle.cc_defs.specs.Terms.{Ground}
use Rattle.cc_form.specs.declared.writer.Writer.{Writer}
use Rattle.cc_form.specs.Drafts.{IsDraft, with_clause}
use Rattle.cc_form.specs.Machine.{IsPast}
use Rattle.cc_form.specs.Parts.{joined_parts}
use Rattle.cc_rivals.specs.Putting.{Puts, put_denied, put_term, with_term}
use Rattle.cc_rivals.proofs.Folding.{past_more, puts_alike, puts_err, with_rises}
use Rattle.cc_wide.specs.WideLists.{implied_with}

-- a clause of one literal
pub written_one : (literal : Literal) → written (literal ∷ []) ≡ (literal ∷ []) ∷ []
written_one literal = ap (λ (b : Bool). if b then [] else (literal ∷ []) ∷ []) (apart literal.positive (literal.variable == literal.variable))
  where
    apart : (p v : Bool) → (((v && beq (not p) p) || false) || false) ≡ false
    apart true true = refl
    apart true false = refl
    apart false true = refl
    apart false false = refl

-- a draft with the clauses of a term
abbrev pub IsWithTerm : Writer → Writer → Ground → Type 0
IsWithTerm old new f = (sizes : List ℕ) (made : Asserted) → IsDraft sizes old made → IsDraft sizes new (with_term sizes made f)

abbrev pub IsLiteral : Writer → Ground → Literal → Type 0
IsLiteral old f literal = (sizes : List ℕ) (made : Asserted) → IsDraft sizes old made → literal ≡ (made_of sizes made.last f).literal

-- and a clause of its literal behind them
pub term_clause : (old mid new : Writer) (f : Ground) (told : Literal) (make : Literal → List Literal) (clause : List Literal) → IsLiteral old f told → IsWithTerm old mid f → mid.places ≡ old.places →
    ((sizes : List ℕ) (made : Asserted) → IsDraft sizes mid made → IsDraft sizes new (with_clause made clause)) → new.places ≡ mid.places → clause ≡ make told →
    Puts old new (Ok tt) (λ sizes made. with_clause (with_term sizes made f) (make (made_of sizes made.last f).literal))
term_clause old mid new f told make clause is with places puts places_then made_so = record {
  places = places_then ∙ places;
  draft = λ sizes made h.
      subst (λ (l : List Literal). IsDraft sizes new (with_clause (with_term sizes made f) l)) (made_so ∙ ap make (is sizes made h)) (puts sizes (with_term sizes made f) (with sizes made h));
  refused = λ sizes made h. tt;
}

term_asserted : (sizes : List ℕ) (made : Asserted) (f : Ground) (literal : Literal) → with_clause (with_term sizes made f) (literal ∷ []) ≡ joined_parts made (asserted (made_of sizes made.last f) literal)
term_asserted sizes made f literal =
    let told = made_of sizes made.last f in
    ap (λ (l : List (List Literal)). let a : Asserted = record { last = told.last; clauses = (made.clauses ++ told.clauses) ++ l } in a) (written_one literal)
    ∙ ap (λ (l : List (List Literal)). let a : Asserted = record { last = told.last; clauses = l } in a) (append_assoc made.clauses told.clauses ((literal ∷ []) ∷ []))

module _ (old mid new : Writer) (f : Ground) (told : Literal) (clause : List Literal) (is : IsLiteral old f told) (with : IsWithTerm old mid f) (places : mid.places ≡ old.places)
    (puts : (sizes : List ℕ) (made : Asserted) → IsDraft sizes mid made → IsDraft sizes new (with_clause made clause)) (places_then : new.places ≡ mid.places) where
  pub puts_true : clause ≡ told ∷ [] → Puts old new (Ok tt) (λ sizes made. put_term sizes made f)
  puts_true made_so =
      puts_alike old new (Ok tt) (λ sizes made. with_clause (with_term sizes made f) ((made_of sizes made.last f).literal ∷ [])) (λ sizes made. put_term sizes made f)
      (λ sizes made. term_asserted sizes made f (made_of sizes made.last f).literal)
      (term_clause old mid new f told (λ l. l ∷ []) clause is with places puts places_then made_so)

  pub puts_denied : clause ≡ opposite told ∷ [] → Puts old new (Ok tt) (λ sizes made. put_denied sizes made f)
  puts_denied made_so =
      puts_alike old new (Ok tt) (λ sizes made. with_clause (with_term sizes made f) (opposite (made_of sizes made.last f).literal ∷ [])) (λ sizes made. put_denied sizes made f)
      (λ sizes made. term_asserted sizes made f (opposite (made_of sizes made.last f).literal))
      (term_clause old mid new f told (λ l. opposite l ∷ []) clause is with places puts places_then made_so)

-- the clauses of a term, and what is put behind them by its literal
pub puts_behind : (old mid new : Writer) (result : Result (Unit {0}) Fault) (f : Ground) (told : Literal) (more : Literal → List ℕ → Asserted → Asserted) → IsLiteral old f told → IsWithTerm old mid f → mid.places ≡ old.places → Puts mid new result (more told) →
    Puts old new result (λ sizes made. more (made_of sizes made.last f).literal sizes (with_term sizes made f))
puts_behind old mid new result f told more is with places puts = record {
  places = both result puts.places;
  draft = λ sizes made h. subst (λ (l : Literal). OnOk result (IsDraft sizes new (more l sizes (with_term sizes made f)))) (is sizes made h) (puts.draft sizes (with_term sizes made f) (with sizes made h));
  refused = λ sizes made h. subst (λ (l : Literal). IfErr result (IsPast (more l sizes (with_term sizes made f)).last)) (is sizes made h) (puts.refused sizes (with_term sizes made f) (with sizes made h));
}
  where
    both : (r : Result (Unit {0}) Fault) → OnOk r (new.places ≡ mid.places) → OnOk r (new.places ≡ old.places)
    both (Ok done) e = e ∙ places
    both (Err fault) e = tt

-- the literal of a term fails
pub literal_fails : (old new : Writer) (result : Result (Unit {0}) Fault) (f : Ground) (fault : Fault) (more : List ℕ → Asserted → Asserted) → IsErrAnd result (λ given. given ≡ fault) →
    ((sizes : List ℕ) (made : Asserted) → IsDraft sizes old made → IsPast (with_term sizes made f).last fault) → ((sizes : List ℕ) (made : Asserted) → (made_of sizes made.last f).last ≤ (more sizes made).last) → Puts old new result more
literal_fails old new result f fault more failed past rises = puts_err old new result more fault failed (λ sizes made h. past_more (made_of sizes made.last f).last (more sizes made).last fault (rises sizes made) (past sizes made h))

-- ---- rules

module _ (sizes : List ℕ) (made : Asserted) (now head : Ground) where
  one_implied : with_clause (with_term sizes (with_term sizes made now) head) (opposite (made_of sizes made.last now).literal ∷ (made_of sizes (made_of sizes made.last now).last head).literal ∷ [])
      ≡ joined_parts made (implied_with sizes (made_of sizes made.last now) None head)
  one_implied =
      let m = made_of sizes made.last now in
      let t = made_of sizes m.last head in
      let w = written (opposite m.literal ∷ t.literal ∷ []) in
      ap (λ (l : List (List Literal)). let a : Asserted = record { last = t.last; clauses = l } in a)
      (ap (λ (l : List (List Literal)). l ++ w) (append_assoc made.clauses m.clauses t.clauses) ∙ append_assoc made.clauses (m.clauses ++ t.clauses) w)

  both_implied : (before : Ground) →
      with_clause (with_term sizes (with_term sizes (with_term sizes made now) before) head)
      (opposite (made_of sizes made.last now).literal ∷ opposite (made_of sizes (made_of sizes made.last now).last before).literal ∷ (made_of sizes (made_of sizes (made_of sizes made.last now).last before).last head).literal ∷ [])
      ≡ joined_parts made (implied_with sizes (made_of sizes made.last now) (Some before) head)
  both_implied before =
      let m = made_of sizes made.last now in
      let b = made_of sizes m.last before in
      let t = made_of sizes b.last head in
      let w = written (opposite m.literal ∷ opposite b.literal ∷ t.literal ∷ []) in
      ap (λ (l : List (List Literal)). let a : Asserted = record { last = t.last; clauses = l } in a)
      (ap (λ (l : List (List Literal)). l ++ t.clauses ++ w) (append_assoc made.clauses m.clauses b.clauses)
      ∙ ap (λ (l : List (List Literal)). l ++ w) (append_assoc made.clauses (m.clauses ++ b.clauses) t.clauses)
      ∙ append_assoc made.clauses (m.clauses ++ b.clauses ++ t.clauses) w)

module _ (old mid new : Writer) (result : Result (Unit {0}) Fault) (now head : Ground) (told : Literal) (is : IsLiteral old now told) (with : IsWithTerm old mid now) (places : mid.places ≡ old.places) where
  pub implies_one : (before : Option Ground) → before ≡ None → Puts mid new result (λ sizes made. with_clause (with_term sizes made head) (opposite told ∷ (made_of sizes made.last head).literal ∷ [])) →
      Puts old new result (λ sizes made. joined_parts made (implied_with sizes (made_of sizes made.last now) before head))
  implies_one before none puts =
      subst (λ (o : Option Ground). Puts old new result (λ sizes made. joined_parts made (implied_with sizes (made_of sizes made.last now) o head))) (sym none)
      (puts_alike old new result
      (λ sizes made. with_clause (with_term sizes (with_term sizes made now) head) (opposite (made_of sizes made.last now).literal ∷ (made_of sizes (made_of sizes made.last now).last head).literal ∷ []))
      (λ sizes made. joined_parts made (implied_with sizes (made_of sizes made.last now) None head)) (λ sizes made. one_implied sizes made now head)
      (puts_behind old mid new result now told (λ l sizes made. with_clause (with_term sizes made head) (opposite l ∷ (made_of sizes made.last head).literal ∷ [])) is with places puts))

  pub implies_both : (before : Option Ground) (after : Ground) → before ≡ Some after →
      Puts mid new result (λ sizes made. with_clause (with_term sizes (with_term sizes made after) head) (opposite told ∷ opposite (made_of sizes made.last after).literal ∷ (made_of sizes (made_of sizes made.last after).last head).literal ∷ [])) →
      Puts old new result (λ sizes made. joined_parts made (implied_with sizes (made_of sizes made.last now) before head))
  implies_both before after some puts =
      subst (λ (o : Option Ground). Puts old new result (λ sizes made. joined_parts made (implied_with sizes (made_of sizes made.last now) o head))) (sym some)
      (puts_alike old new result
      (λ sizes made. with_clause (with_term sizes (with_term sizes (with_term sizes made now) after) head)
      (opposite (made_of sizes made.last now).literal ∷ opposite (made_of sizes (made_of sizes made.last now).last after).literal ∷ (made_of sizes (made_of sizes (made_of sizes made.last now).last after).last head).literal ∷ []))
      (λ sizes made. joined_parts made (implied_with sizes (made_of sizes made.last now) (Some after) head)) (λ sizes made. both_implied sizes made now head after)
      (puts_behind old mid new result now told
      (λ l sizes made. with_clause (with_term sizes (with_term sizes made after) head) (opposite l ∷ opposite (made_of sizes made.last after).literal ∷ (made_of sizes (made_of sizes made.last after).last head).literal ∷ [])) is with places puts))

pub rule_fails : (sizes : List ℕ) (made : Asserted) (now : Ground) (before : Option Ground) (head : Ground) → (made_of sizes made.last now).last ≤ (joined_parts made (implied_with sizes (made_of sizes made.last now) before head)).last
rule_fails sizes made now before head = with_rises sizes (made_of sizes made.last now) before head
