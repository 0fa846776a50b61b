-- Drafts of clauses behind those of positions.
use Rattle.std.proofs.Common.{OnOk, IfOk, Result, Ok, Err, ◌≡◌, ◌∙◌, ℕ, ◌+◌, ◌<◌, ◌≤◌, inl, inr, List, [], ◌∷◌, ◌++◌, length, sum, None, refl, sym, ap, subst, arith, append_assoc, append-nil}
use Rattle.std.specs.List.{AllByRecursion}
use Rattle.std.proofs.lemmas.Bool.{le-ltb}
use Rattle.std.proofs.lemmas.List.Elements.{recursion_from_All}
use Rattle.cc_defs.specs.declared.node.Node.{Node}
use Rattle.cc_defs.specs.ClauseForms.{Made, positive, true_variable, written}
use Rattle.cc_defs.specs.ClauseLists.{Asserted, positions_from}
use Rattle.cc_defs.specs.Clauses.{Literal, IsClause, IsIn, IsLiteralOver, IsOver}
use Rattle.cc_defs.specs.Sections.{Axioms}
use Rattle.cc_defs.specs.Terms.{Fits, IsTermOver}
use Rattle.cc_form.specs.declared.store.Kept.{Kept}
use Rattle.cc_form.specs.declared.writer.Writer.{Writer}
use Rattle.cc_form.specs.Building.{IsBuiltForm, count_refusal}
use Rattle.cc_form.specs.Drafts.{IsDraft, with_clause, with_nodes}
use Rattle.cc_form.specs.Forms.{IsAxioms}
use Rattle.cc_form.specs.Machine.{IsBuilt, made_nodes}
use Rattle.cc_form.specs.Parts.{axioms_behind, first_clauses}
use Rattle.cc_form.specs.Store.{AreFew, Gives, Holds, literal_count_of}
use Rattle.cc_form.proofs.Causes.{atoms_fit}
use Rattle.cc_form.proofs.Good.{AreGood, IsGood, IsMadeWell, both_all, more_good, positions_good, term_well, written_good}
use Rattle.cc_form.proofs.GoodLists.{all_clauses_are, all_over_are}
use Rattle.cc_form.proofs.Keeping.{gives_more}
use Rattle.cc_form.proofs.Ordered.{among, contained}
use Rattle.cc_form.proofs.Saying.{nodes_made}

-- ---- clauses over variables

pub good_from : (form : Axioms) → IsAxioms form → AreGood form.variables form.clauses
good_from form is = both form.clauses (recursion_from_All IsClause form.clauses is.each) (recursion_from_All (IsOver form.variables) form.clauses is.over)
  where
    both : (cs : List (List Literal)) → AllByRecursion IsClause cs → AllByRecursion (IsOver form.variables) cs → AreGood form.variables cs
    both [] h k = tt
    both (c ∷ cs) h k = ((h.0, k.0), both cs h.1 k.1)

in_front : (xs ys : List (List Literal)) (x : List Literal) → IsIn xs x → IsIn (xs ++ ys) x
in_front [] ys x h = absurd h
in_front (y ∷ xs) ys x (inl e) = inl e
in_front (y ∷ xs) ys x (inr h) = inr (in_front xs ys x h)

-- with clauses more behind them
pub axioms_more : (sizes : List ℕ) (last top : ℕ) (clauses more : List (List Literal)) → IsAxioms (record { sizes = sizes; variables = last; clauses = clauses }) → last ≤ top → AreGood top more →
    IsAxioms (record { sizes = sizes; variables = top; clauses = clauses ++ more })
axioms_more sizes last top clauses more is less good =
    let all = both_all (IsGood top) clauses more (more_good last top less clauses (good_from (record { sizes = sizes; variables = last; clauses = clauses }) is)) good in
    record {
      each = all_clauses_are top (clauses ++ more) all;
      over = all_over_are top (clauses ++ more) all;
      least = (let least = is.least in omega arith);
      choices = λ clause has. contained (clauses ++ more) clause (in_front clauses more clause (among clauses clause (is.choices clause has)));
    }

first_good : (sizes : List ℕ) → AreGood (true_variable sizes) (first_clauses sizes)
first_good sizes = (
  (tt, ((let e : 0 < sum sizes + 1 = omega arith in e), (let e : sum sizes + 1 ≤ sum sizes + 1 = omega arith in e), tt)),
  positions_good sizes 1 (true_variable sizes) (omega arith) (let e : 1 + sum sizes ≤ sum sizes + 1 + 1 = omega arith in e),
)

pub first_axioms : (sizes : List ℕ) → IsAxioms (record { sizes = sizes; variables = true_variable sizes; clauses = first_clauses sizes })
first_axioms sizes = record {
  each = all_clauses_are (true_variable sizes) (first_clauses sizes) (first_good sizes);
  over = all_over_are (true_variable sizes) (first_clauses sizes) (first_good sizes);
  least = (let e : sum sizes + 1 ≤ sum sizes + 1 = omega arith in e);
  choices = λ clause has. contained (first_clauses sizes) clause (inr (among (positions_from 1 sizes) clause has));
}

pub nodes_well : (sizes : List ℕ) (last : ℕ) (term : List Node) → IsTermOver sizes term → true_variable sizes ≤ last → IsMadeWell last (made_nodes sizes last term)
nodes_well sizes last term is most =
    subst (IsMadeWell last) (sym (nodes_made sizes last is.formula term (sym is.written)))
    (term_well sizes is.formula last (atoms_fit sizes is.formula (subst (AllByRecursion (Fits sizes)) is.written is.fits)) most)

-- ---- what a writer holds

none_axioms : IsAxioms (record { sizes = []; variables = 1; clauses = [] })
none_axioms = record {
  each = all_clauses_are 1 [] tt;
  over = all_over_are 1 [] tt;
  least = (let e : 0 + 1 ≤ 1 = omega arith in e);
  choices = λ clause has. has;
}

pub none_is_form : (writer : Writer) → writer.places ≡ [] → writer.last ≡ 1 → Holds writer.store.kept [] → IsBuiltForm writer
none_is_form writer places last holds = record {
  clauses = [];
  holds = holds;
  within = omega arith;
  axioms = subst (λ (n : ℕ). IsAxioms (record { sizes = writer.places; variables = n; clauses = [] })) (sym last)
      (subst (λ (p : List ℕ). IsAxioms (record { sizes = p; variables = 1; clauses = [] })) (sym places) none_axioms);
}

-- clauses over more variables, put behind
pub form_more : (old new : Writer) (top : ℕ) (more : List (List Literal)) → IsBuiltForm old → new.places ≡ old.places → new.last ≡ top → old.last ≤ top → top ≤ 4000000 → Gives old.store.kept new.store.kept more → AreGood top more → IsBuiltForm new
form_more old new top more is places ends less most gives good = record {
  clauses = is.clauses ++ more;
  holds = gives.each is.clauses is.holds;
  within = omega arith;
  axioms = subst (λ (n : ℕ). IsAxioms (record { sizes = new.places; variables = n; clauses = is.clauses ++ more })) (sym ends)
      (subst (λ (p : List ℕ). IsAxioms (record { sizes = p; variables = top; clauses = is.clauses ++ more })) (sym places) (axioms_more old.places old.last top is.clauses more is.axioms less good));
}

pub draft_more : (sizes : List ℕ) (old new : Writer) (made : Asserted) (top : ℕ) (more : List (List Literal)) → IsDraft sizes old made → new.places ≡ old.places → new.last ≡ top → made.last ≤ top → top ≤ 4000000 →
    Gives old.store.kept new.store.kept more → AreGood top more → IsDraft sizes new (record { last = top; clauses = made.clauses ++ more })
draft_more sizes old new made top more is places ends less most gives good = record {
  places = places ∙ is.places;
  ends = ends;
  within = most;
  holds = subst (Holds new.store.kept) (append_assoc (first_clauses sizes) made.clauses more) (gives.each (first_clauses sizes ++ made.clauses) is.holds);
  axioms = subst (λ (l : List (List Literal)). IsAxioms (record { sizes = sizes; variables = top; clauses = l })) (append_assoc (first_clauses sizes) made.clauses more)
      (axioms_more sizes made.last top (first_clauses sizes ++ made.clauses) more is.axioms less good);
}

least_last : (sizes : List ℕ) (last : ℕ) → sum sizes + 1 ≤ last → true_variable sizes ≤ last
least_last sizes last least = least

-- ---- the calls

pub first_gives : {E : Type 0} (result : Result (Unit {0}) E) (old between new : Kept) (sizes own : List ℕ) (truth : Literal) → truth ≡ positive (true_variable sizes) → own ≡ sizes → Gives old between ((truth ∷ []) ∷ []) →
    OnOk result (Gives between new (positions_from 1 own)) → OnOk result (Gives old new (first_clauses sizes))
first_gives (Err e) old between new sizes own truth is same one other = tt
first_gives (Ok done) old between new sizes own truth is same one other =
    gives_more old between new ((positive (true_variable sizes) ∷ []) ∷ []) (positions_from 1 sizes) (subst (λ (l : Literal). Gives old between ((l ∷ []) ∷ [])) is one) (subst (λ (s : List ℕ). Gives between new (positions_from 1 s)) same other)

pub begun_form : (old new : Writer) → old.last ≡ true_variable old.places → true_variable old.places ≤ 4000000 → Holds old.store.kept [] → new.places ≡ old.places → new.last ≡ old.last →
    Gives old.store.kept new.store.kept (first_clauses old.places) → IsDraft old.places new (record { last = true_variable old.places; clauses = [] })
begun_form old new first most none places last gives = record {
  places = places;
  ends = last ∙ first;
  within = most;
  holds = subst (Holds new.store.kept) (sym (append-nil (first_clauses old.places))) (gives.each [] none);
  axioms = subst (λ (l : List (List Literal)). IsAxioms (record { sizes = old.places; variables = true_variable old.places; clauses = l })) (sym (append-nil (first_clauses old.places))) (first_axioms old.places);
}

pub draft_is_form : (sizes : List ℕ) (draft : Writer) (made : Asserted) → IsDraft sizes draft made → IsBuiltForm draft
draft_is_form sizes draft made is = record {
  clauses = first_clauses sizes ++ made.clauses;
  holds = is.holds;
  within = (let e = is.ends in let w = is.within in omega arith);
  axioms = subst (λ (n : ℕ). IsAxioms (record { sizes = draft.places; variables = n; clauses = first_clauses sizes ++ made.clauses })) (sym is.ends)
      (subst (λ (p : List ℕ). IsAxioms (record { sizes = p; variables = made.last; clauses = first_clauses sizes ++ made.clauses })) (sym is.places) is.axioms);
}

-- the literal of a term is one of the variables that are there then
pub literal_over : (old new : Writer) (literal : Literal) (term : List Node) → sum old.places + 1 ≤ old.last → IsTermOver old.places term → literal ≡ (made_nodes old.places old.last term).literal →
    new.last ≡ (made_nodes old.places old.last term).last → IsLiteralOver new.last literal × (old.last ≤ new.last)
literal_over old new literal term least over is ends =
    let m = made_nodes old.places old.last term in
    let well = nodes_well old.places old.last term over least in
    (subst (λ (n : ℕ). IsLiteralOver n literal) (sym ends) (subst (IsLiteralOver m.last) (sym is) well.literal_in), (let up = well.rises in omega arith))

pub literal_form : (old new : Writer) (term : List Node) → IsBuiltForm old → IsTermOver old.places term → IsBuilt old new (made_nodes old.places old.last term).last (made_nodes old.places old.last term).clauses → IsBuiltForm new
literal_form old new term is over built =
    let m = made_nodes old.places old.last term in
    let well = nodes_well old.places old.last term over (least_last old.places old.last is.axioms.least) in
    form_more old new m.last m.clauses is built.places built.ends well.rises built.within built.gives well.good

pub literal_draft : (sizes : List ℕ) (made : Asserted) (old new : Writer) (term : List Node) → IsDraft sizes old made → IsTermOver old.places term →
    IsBuilt old new (made_nodes old.places old.last term).last (made_nodes old.places old.last term).clauses → IsDraft sizes new (with_nodes sizes made term)
literal_draft sizes made old new term is over built' =
    let m = made_nodes sizes made.last term in
    let at : made_nodes old.places old.last term ≡ m = ap (λ (p : List ℕ). made_nodes p old.last term) is.places ∙ ap (λ (n : ℕ). made_nodes sizes n term) is.ends in
    let built : IsBuilt old new m.last m.clauses = subst (λ (m : Made). IsBuilt old new m.last m.clauses) at built' in
    let well = nodes_well sizes made.last term (subst (λ (p : List ℕ). IsTermOver p term) is.places over) (least_last sizes made.last is.axioms.least) in
    draft_more sizes old new made m.last m.clauses is built.places built.ends well.rises built.within built.gives well.good

pub made_at : (sizes : List ℕ) (made : Asserted) (old : Writer) (term : List Node) → IsDraft sizes old made → made_nodes old.places old.last term ≡ made_nodes sizes made.last term
made_at sizes made old term is = ap (λ (p : List ℕ). made_nodes p old.last term) is.places ∙ ap (λ (n : ℕ). made_nodes sizes n term) is.ends

pub clause_form : (old new : Writer) (literals : List Literal) → IsBuiltForm old → AllByRecursion (IsLiteralOver old.last) literals → new.places ≡ old.places → new.last ≡ old.last → Gives old.store.kept new.store.kept (written literals) → IsBuiltForm new
clause_form old new literals is over places last gives =
    form_more old new old.last (written literals) is places last (omega arith) (let w = is.within in omega arith) gives (written_good old.last literals over)

pub clause_draft : (sizes : List ℕ) (made : Asserted) (old new : Writer) (literals : List Literal) → IsDraft sizes old made → AllByRecursion (IsLiteralOver old.last) literals → new.places ≡ old.places → new.last ≡ old.last →
    Gives old.store.kept new.store.kept (written literals) → IsDraft sizes new (with_clause made literals)
clause_draft sizes made old new literals is over places last gives =
    draft_more sizes old new made made.last (written literals) is places (last ∙ is.ends) (omega arith) is.within gives
    (written_good made.last literals (subst (λ (n : ℕ). AllByRecursion (IsLiteralOver n) literals) is.ends over))

pub closed_draft : {E : Type 0} (sizes : List ℕ) (made : Asserted) (draft : Writer) (result : Result Axioms E) → IsDraft sizes draft made →
    IfOk result (λ form. form ≡ record { sizes = draft.places; variables = draft.last; clauses = first_clauses sizes ++ made.clauses }) → IfOk result (λ form. form ≡ axioms_behind sizes made)
closed_draft sizes made draft (Err e) is made_it = tt
closed_draft sizes made draft (Ok form) is made_it =
    made_it ∙ ap (λ (p : List ℕ). let a : Axioms = record { sizes = p; variables = draft.last; clauses = first_clauses sizes ++ made.clauses } in a) is.places
    ∙ ap (λ (n : ℕ). let a : Axioms = record { sizes = sizes; variables = n; clauses = first_clauses sizes ++ made.clauses } in a) is.ends

pub few_are_within : {T E : Type 0} (result : Result T E) (clauses : List (List Literal)) → OnOk result (AreFew clauses) → OnOk result (count_refusal clauses ≡ None)
few_are_within (Err e) clauses are = tt
few_are_within (Ok x) clauses are = rw (le-ltb 8000000 (length clauses) are.0, le-ltb 40000000 (literal_count_of clauses) are.1) refl
