-- Writers all of whose clauses are kept.
use Rattle.std.proofs.Common.{◌≡◌, ◌∙◌, ℕ, ◌≤◌, List, [], ◌∷◌, ◌++◌, sym, ap, subst, arith}
use Rattle.std.specs.List.{AllByRecursion, Contains}
use Rattle.std.proofs.lemmas.Bool.{le-ltb}
use Rattle.cc_defs.specs.declared.node.Node.{Node}
use Rattle.cc_defs.specs.declared.refusal.Fault.{Fault}
use Rattle.cc_defs.specs.ClauseForms.{Made, positive, true_variable, written}
use Rattle.cc_defs.specs.ClauseLists.{Asserted}
use Rattle.cc_defs.specs.Clauses.{Literal, IsLiteralOver}
use Rattle.cc_defs.specs.Refusals.{IsRefusedBy}
use Rattle.cc_defs.specs.Sections.{Axioms}
use Rattle.cc_defs.specs.Terms.{Fits, Ground, IsTermOver, postfix}
use Rattle.cc_theory.specs.Completion.{holds}
use Rattle.cc_form.specs.declared.writer.Writer.{Writer}
use Rattle.cc_form.specs.Building.{count_refusal}
use Rattle.cc_form.specs.Drafts.{Extends, IsDraft, IsWhole, axioms_refusal, nodes_behind}
use Rattle.cc_form.specs.Forms.{IsAxioms}
use Rattle.cc_form.specs.Machine.{IsBuilt, made_nodes}
use Rattle.cc_form.specs.Parts.{axioms_behind, first_clauses}
use Rattle.cc_form.specs.Store.{AreFew, Gives, Holds}
use Rattle.cc_form.proofs.Drafting.{axioms_more, nodes_well}
use Rattle.cc_form.proofs.Extending.{term_extends}
use Rattle.cc_form.proofs.Good.{AreGood, written_good}
use Rattle.cc_form.proofs.Saying.{nodes_made}

abbrev pub axioms_of : Writer → Axioms
axioms_of writer = record { sizes = writer.places; variables = writer.last; clauses = writer.store.kept.arena }

-- whatever clauses a writer has: they are kept, and within their limits
abbrev pub KeepsAll : Writer → Type 0
KeepsAll writer = (clauses : List (List Literal)) → Holds writer.store.kept clauses → (writer.store.kept.arena ≡ clauses) × AreFew clauses

whole_of : (writer : Writer) (clauses : List (List Literal)) → Holds writer.store.kept clauses → KeepsAll writer → writer.last ≤ 4000000 →
    IsAxioms (record { sizes = writer.places; variables = writer.last; clauses = clauses }) → IsWhole writer
whole_of writer clauses holds keeps within axioms =
    let same = sym (keeps clauses holds).0 in
    record {
      holds = subst (Holds writer.store.kept) same holds;
      few = subst AreFew same (keeps clauses holds).1;
      within = within;
      axioms = subst (λ (l : List (List Literal)). IsAxioms (record { sizes = writer.places; variables = writer.last; clauses = l })) same axioms;
    }

whole_more : (old new : Writer) (top : ℕ) (more : List (List Literal)) → IsWhole old → new.places ≡ old.places → new.last ≡ top → old.last ≤ top → top ≤ 4000000 → Gives old.store.kept new.store.kept more → AreGood top more →
    KeepsAll new → IsWhole new
whole_more old new top more is places ends less most gives good keeps =
    whole_of new (old.store.kept.arena ++ more) (gives.each old.store.kept.arena is.holds) keeps (omega arith)
    (subst (λ (n : ℕ). IsAxioms (record { sizes = new.places; variables = n; clauses = old.store.kept.arena ++ more })) (sym ends)
    (subst (λ (p : List ℕ). IsAxioms (record { sizes = p; variables = top; clauses = old.store.kept.arena ++ more })) (sym places) (axioms_more old.places old.last top old.store.kept.arena more is.axioms less good)))

pub literal_whole : (old new : Writer) (term : List Node) → IsWhole old → IsTermOver old.places term → IsBuilt old new (made_nodes old.places old.last term).last (made_nodes old.places old.last term).clauses → KeepsAll new → IsWhole new
literal_whole old new term is over built keeps =
    let m = made_nodes old.places old.last term in
    let well = nodes_well old.places old.last term over is.axioms.least in
    whole_more old new m.last m.clauses is built.places built.ends well.rises built.within built.gives well.good keeps

pub clause_whole : (old new : Writer) (literals : List Literal) → IsWhole old → AllByRecursion (IsLiteralOver old.last) literals → new.places ≡ old.places → new.last ≡ old.last → Gives old.store.kept new.store.kept (written literals) →
    KeepsAll new → IsWhole new
clause_whole old new literals is over places last gives keeps =
    whole_more old new old.last (written literals) is places last (omega arith) is.within gives (written_good old.last literals over) keeps

pub draft_whole : (sizes : List ℕ) (draft : Writer) (made : Asserted) → IsDraft sizes draft made → KeepsAll draft → IsWhole draft
draft_whole sizes draft made is keeps =
    whole_of draft (first_clauses sizes ++ made.clauses) is.holds keeps (let e = is.ends in let w = is.within in omega arith)
    (subst (λ (n : ℕ). IsAxioms (record { sizes = draft.places; variables = n; clauses = first_clauses sizes ++ made.clauses })) (sym is.ends)
    (subst (λ (p : List ℕ). IsAxioms (record { sizes = p; variables = made.last; clauses = first_clauses sizes ++ made.clauses })) (sym is.places) is.axioms))

-- ---- what the literal of a term is worth

nodes_extend : (old : Axioms) (f : Ground) (term : List Node) → IsAxioms old → postfix f ≡ term → IsTermOver old.sizes term → Contains old.clauses (positive (true_variable old.sizes) ∷ []) →
    Extends old (nodes_behind old term) (made_nodes old.sizes old.variables term).literal (λ row. holds row f)
nodes_extend old f term is same over truth =
    subst (λ (m : Made). Extends old (record { sizes = old.sizes; variables = m.last; clauses = old.clauses ++ m.clauses }) m.literal (λ row. holds row f)) (sym (nodes_made old.sizes old.variables f term same))
    (term_extends old is truth f (subst (AllByRecursion (Fits old.sizes)) (sym same) over.fits))

pub new_axioms : (old new : Writer) (term : List Node) → IsWhole old → IsBuilt old new (made_nodes old.places old.last term).last (made_nodes old.places old.last term).clauses → KeepsAll new → axioms_of new ≡ nodes_behind (axioms_of old) term
new_axioms old new term is built keeps =
    let m = made_nodes old.places old.last term in
    ap (λ (p : List ℕ). let x : Axioms = record { sizes = p; variables = new.last; clauses = new.store.kept.arena } in x) built.places
    ∙ ap (λ (n : ℕ). let x : Axioms = record { sizes = old.places; variables = n; clauses = new.store.kept.arena } in x) built.ends
    ∙ ap (λ (l : List (List Literal)). let x : Axioms = record { sizes = old.places; variables = m.last; clauses = l } in x) (keeps (old.store.kept.arena ++ m.clauses) (built.gives.each old.store.kept.arena is.holds)).0

pub literal_extends : (old new : Writer) (seen : Axioms) (literal : Literal) (f : Ground) (term : List Node) → IsWhole old → axioms_of old ≡ seen → postfix f ≡ term → IsTermOver seen.sizes term →
    Contains seen.clauses (positive (true_variable seen.sizes) ∷ []) → literal ≡ (made_nodes old.places old.last term).literal →
    IsBuilt old new (made_nodes old.places old.last term).last (made_nodes old.places old.last term).clauses → KeepsAll new → Extends seen (axioms_of new) literal (λ row. holds row f)
literal_extends old new seen literal f term is same written over truth literal_is built keeps =
    subst (λ (s : Axioms). Extends s (axioms_of new) literal (λ row. holds row f)) same
    (subst (λ (n : Axioms). Extends (axioms_of old) n literal (λ row. holds row f)) (sym (new_axioms old new term is built keeps))
    (subst (λ (l : Literal). Extends (axioms_of old) (nodes_behind (axioms_of old) term) l (λ row. holds row f)) (sym literal_is)
    (nodes_extend (axioms_of old) f term is.axioms written (subst (λ (s : Axioms). IsTermOver s.sizes term) (sym same) over)
    (subst (λ (s : Axioms). Contains s.clauses (positive (true_variable s.sizes) ∷ [])) (sym same) truth))))

-- ---- the first clauses are too many

pub first_refused : (fault : Fault) (sizes : List ℕ) → true_variable sizes ≤ 4000000 → IsRefusedBy (count_refusal (first_clauses sizes ++ [])) fault →
    IsRefusedBy (axioms_refusal (axioms_behind sizes (record { last = true_variable sizes; clauses = [] }))) fault
first_refused fault sizes few refused = rw (le-ltb 4000000 (true_variable sizes) few) refused

abbrev axioms_with : List ℕ → ℕ → List (List Literal) → Axioms
axioms_with sizes variables clauses = record { sizes = sizes; variables = variables; clauses = clauses }

-- the axioms of a writer that has the first clauses alone
pub built_is : (old sizes places : List ℕ) (last : ℕ) (arena : List (List Literal)) → old ≡ sizes → places ≡ old → last ≡ true_variable old → arena ≡ first_clauses old ++ [] →
    axioms_with places last arena ≡ axioms_behind sizes (record { last = true_variable sizes; clauses = [] })
built_is old sizes places last arena same p l a =
    ap (λ (s : List ℕ). axioms_with s last arena) p ∙ ap (λ (n : ℕ). axioms_with old n arena) l ∙ ap (λ (c : List (List Literal)). axioms_with old (true_variable old) c) a
    ∙ ap (λ (s : List ℕ). axioms_with s (true_variable s) (first_clauses s ++ [])) same
