-- A loop over terms that are asserted.
use Rattle.std.proofs.Common.{◌≡◌, ◌∙◌, ℕ, ◌≤◌, List, [], ◌∷◌, ◌++◌, refl, sym, ap, subst, arith, append_assoc, append-nil}
use Rattle.cc_defs.specs.declared.node.Node.{Node}
use Rattle.cc_defs.specs.declared.refusal.Fault.{Fault}
use Rattle.cc_defs.specs.Clauses.{Literal}
use Rattle.cc_form.specs.declared.writer.Writer.{Writer}
use Rattle.cc_form.specs.Machine.{IsBuilt, IsPast, made_nodes}
use Rattle.cc_form.specs.Making.{asserted_nodes}
use Rattle.cc_form.specs.Store.{Gives}
use Rattle.cc_form.proofs.Keeping.{gives_more, gives_none}
use Rattle.cc_form.proofs.Running.{past_more, run_rises}

pub record AssertedSoFar (old now : Writer) (rest whole : List (List Node)) : Type 0 where
  pub places : now.places ≡ old.places
  pub within : now.last ≤ 4000000
  pub done : List (List Literal)
  pub gives : Gives old.store.kept now.store.kept done
  pub clauses : done ++ (asserted_nodes old.places now.last rest).clauses ≡ (asserted_nodes old.places old.last whole).clauses
  pub ends : (asserted_nodes old.places now.last rest).last ≡ (asserted_nodes old.places old.last whole).last

pub asserting : (old : Writer) (whole : List (List Node)) → old.last ≤ 4000000 → AssertedSoFar old old whole whole
asserting old whole within = record { places = refl; within = within; done = []; gives = gives_none old.store.kept; clauses = refl; ends = refl }

-- the writer behind the literal of a term, and the one behind its clause
pub assert_step : (old now between new : Writer) (literal : Literal) (term : List Node) (rest whole : List (List Node)) → AssertedSoFar old now (term ∷ rest) whole →
    literal ≡ (made_nodes now.places now.last term).literal → IsBuilt now between (made_nodes now.places now.last term).last (made_nodes now.places now.last term).clauses →
    new.places ≡ between.places → new.last ≡ between.last → Gives between.store.kept new.store.kept ((literal ∷ []) ∷ []) → AssertedSoFar old new rest whole
assert_step old now between new literal term rest whole so is' built' places last kept =
    let P = old.places in
    let m = made_nodes P now.last term in
    let is : literal ≡ m.literal = is' ∙ ap (λ (p : List ℕ). (made_nodes p now.last term).literal) so.places in
    let built : IsBuilt now between m.last m.clauses = subst (λ (p : List ℕ). IsBuilt now between (made_nodes p now.last term).last (made_nodes p now.last term).clauses) so.places built' in
    let own : List (List Literal) = m.clauses ++ (literal ∷ []) ∷ [] in
    let end : new.last ≡ m.last = last ∙ built.ends in
    record {
      places = places ∙ built.places ∙ so.places;
      within = (let below = built.within in omega arith);
      done = so.done ++ own;
      gives = gives_more old.store.kept now.store.kept new.store.kept so.done own so.gives (gives_more now.store.kept between.store.kept new.store.kept m.clauses ((literal ∷ []) ∷ []) built.gives kept);
      clauses = ap (λ (n : ℕ). so.done ++ own ++ (asserted_nodes P n rest).clauses) end ∙ append_assoc so.done own (asserted_nodes P m.last rest).clauses
          ∙ ap (λ (l : List (List Literal)). so.done ++ l) (append_assoc m.clauses ((literal ∷ []) ∷ []) (asserted_nodes P m.last rest).clauses)
          ∙ ap (λ (l : Literal). so.done ++ (m.clauses ++ (l ∷ []) ∷ (asserted_nodes P m.last rest).clauses)) is ∙ so.clauses;
      ends = ap (λ (n : ℕ). (asserted_nodes P n rest).last) end ∙ so.ends;
    }

pub asserted_rise : (sizes : List ℕ) (last : ℕ) (terms : List (List Node)) → last ≤ (asserted_nodes sizes last terms).last
asserted_rise sizes last [] = omega arith
asserted_rise sizes last (term ∷ terms) =
    let here = run_rises sizes term [] last in
    let more = asserted_rise sizes (made_nodes sizes last term).last terms in
    omega arith

pub assert_fails : (old now : Writer) (term : List Node) (rest whole : List (List Node)) (fault : Fault) → AssertedSoFar old now (term ∷ rest) whole → IsPast (made_nodes now.places now.last term).last fault →
    IsPast (asserted_nodes old.places old.last whole).last fault
assert_fails old now term rest whole fault so past =
    let m = made_nodes old.places now.last term in
    past_more m.last (asserted_nodes old.places old.last whole).last fault
    (subst (λ (n : ℕ). m.last ≤ n) so.ends (asserted_rise old.places m.last rest))
    (subst (λ (p : List ℕ). IsPast (made_nodes p now.last term).last fault) so.places past)

pub assert_ends : (old now : Writer) (whole : List (List Node)) → AssertedSoFar old now [] whole → IsBuilt old now (asserted_nodes old.places old.last whole).last (asserted_nodes old.places old.last whole).clauses
assert_ends old now whole so = record {
  places = so.places;
  ends = so.ends;
  within = subst (λ (n : ℕ). n ≤ 4000000) so.ends so.within;
  gives = subst (Gives old.store.kept now.store.kept) (sym (append-nil so.done) ∙ so.clauses) so.gives;
}
