-- Base laws by what they are made of.
use Rattle.std.proofs.Common.{◌≡◌, ◌∙◌, ℕ, ◌+◌, ◌<◌, ◌≤◌, List, [], ◌∷◌, ◌++◌, length, drop, Option, Some, None, refl, sym, ap}
use Rattle.std.proofs.lemmas.List.{at_drop_more, at_drop_all}
use Rattle.std.specs.Global.{Vec}
use Rattle.cc_defs.specs.declared.formula.Term as kept
use Rattle.cc_defs.specs.Resolved.{Term, Terms, MoreTerms, BaseLaw}
use Rattle.cc_defs.specs.Resolved as resolved
use Rattle.cc_defs.specs.Trees as trees
use Rattle.cc_laws.specs.Expansion.{Frame, Persistence, value_law, subject_meant, subject_laws, places}
use Rattle.cc_laws.specs.Resolving.{number_in, variable_at, term_meant, resolve_term, resolve_sums}
use Rattle.cc_laws.specs.Views.{row_terms}
use Rattle.cc_laws.specs.Vocabulary.{Vocabulary, Meaning, Unknown, Nothing, Object, Variable, Constant, meaning}
use Rattle.cc_laws.proofs.ActionNames.{plain_constant}
use Rattle.cc_laws.proofs.TermRows.{behind, behind_last, behind_none}

-- ---- places

pub placed_more : (sorts : List ℕ) (i : ℕ) (made pushed : List kept.Term) (one : kept.Term) (whole : Terms) → i < length sorts →
    pushed ≡ made ++ one ∷ [] → resolved.plain_term one ≡ resolved.Variable i →
    behind (row_terms made) (places i (drop i sorts)) ≡ whole →
    behind (row_terms pushed) (places (i + 1) (drop (i + 1) sorts)) ≡ whole
placed_more sorts i made pushed one whole within push e q =
    let rest = places (i + 1) (drop (i + 1) sorts) in
    ap (λ (l : List kept.Term). behind (row_terms l) rest) push
    ∙ behind_last made one rest
    ∙ ap (λ (t : Term). behind (row_terms made) (MoreTerms t rest)) e
    ∙ ap (behind (row_terms made)) (sym (at_drop_more (places i) sorts i 0 within))
    ∙ q

pub placed_all : (sorts : List ℕ) (i : ℕ) (made : List kept.Term) (whole : Terms) → length sorts ≤ i →
    behind (row_terms made) (places i (drop i sorts)) ≡ whole →
    row_terms made ≡ whole
placed_all sorts i made whole past q =
    sym (behind_none (row_terms made)) ∙ ap (behind (row_terms made)) (sym (at_drop_all (places i) sorts i past)) ∙ q

-- ---- what is exogenous or inertial, by its term with numbers in place of names

abbrev pub subject_by : Vocabulary → Frame → Persistence → Term → List BaseLaw
subject_by v frame p (resolved.Constant number args) = value_law v frame p number args ∷ []
subject_by v frame p term = []

no_subject : (v : Vocabulary) (frame : Frame) (p : Persistence) (number : Option ℕ) → subject_by v frame p (variable_at number) ≡ []
no_subject v frame p (Some number) = refl
no_subject v frame p None = refl

subject_of : (v : Vocabulary) (frame : Frame) (p : Persistence) (means : Meaning) (args : Terms) → subject_by v frame p (term_meant frame.scope means args) ≡ subject_meant v frame p means args
subject_of v frame p Unknown args = refl
subject_of v frame p Nothing args = refl
subject_of v frame p (Object number sort) args = refl
subject_of v frame p (Variable number sort) args = no_subject v frame p (number_in frame.scope number)
subject_of v frame p (Constant number symbol) args = refl

subject_is : (v : Vocabulary) (frame : Frame) (p : Persistence) (term : trees.PlainTerm) → subject_by v frame p (resolve_term v frame.scope term) ≡ subject_laws v frame p term
subject_is v frame p (trees.Applied name args) = subject_of v frame p (meaning v name) (resolve_sums v frame.scope args)

pub subject_made : (v : Vocabulary) (frame : Frame) (p : Persistence) (term : trees.PlainTerm) (made : kept.Term) (symbol : ℕ) (args : Vec kept.Term) (law : BaseLaw) →
    made ≡ kept.Constant symbol args → resolved.plain_term made ≡ resolve_term v frame.scope term → law ≡ value_law v frame p symbol (row_terms args.items) →
    law ∷ [] ≡ subject_laws v frame p term
subject_made v frame p term made symbol args law is e q =
    ap (λ (one : BaseLaw). one ∷ []) q
    ∙ ap (subject_by v frame p) (sym (plain_constant symbol args) ∙ ap resolved.plain_term (sym is) ∙ e)
    ∙ subject_is v frame p term
