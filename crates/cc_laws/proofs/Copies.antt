-- Terms that are copied, one after another.
use Rattle.std.proofs.Common.{◌≡◌, ◌∙◌, ℕ, ◌+◌, ◌<◌, ◌≤◌, List, [], ◌∷◌, ◌++◌, length, drop, get_or, sym, ap}
use Rattle.std.proofs.lemmas.List.{at_drop_all}
use Rattle.std.specs.Global.{Vec}
use Rattle.cc_defs.specs.declared.formula.Term as kept
use Rattle.cc_defs.specs.Resolved.{Term, Terms, Constant, MoreTerms, plain_term}
use Rattle.cc_laws.specs.Views.{row_terms}
use Rattle.cc_laws.proofs.ActionNames.{plain_constant}
use Rattle.cc_laws.proofs.TermRows.{behind, behind_last, behind_none, next_item}

pub copied_more : (terms : List kept.Term) (i : ℕ) (d : kept.Term) (copies pushed : List kept.Term) (one : kept.Term) (whole : Terms) →
    i < length terms → d ≡ get_or terms i d → pushed ≡ copies ++ one ∷ [] → plain_term one ≡ plain_term d →
    behind (row_terms copies) (row_terms (drop i terms)) ≡ whole →
    behind (row_terms pushed) (row_terms (drop (i + 1) terms)) ≡ whole
copied_more terms i d copies pushed one whole within is push e q =
    let rest = row_terms (drop (i + 1) terms) in
    ap (λ (l : List kept.Term). behind (row_terms l) rest) push
    ∙ behind_last copies one rest
    ∙ ap (λ (t : Term). behind (row_terms copies) (MoreTerms t rest)) e
    ∙ ap (behind (row_terms copies)) (sym (next_item row_terms terms i d within is))
    ∙ q

pub copied_all : (terms : List kept.Term) (i : ℕ) (copies : List kept.Term) (whole : Terms) → length terms ≤ i →
    behind (row_terms copies) (row_terms (drop i terms)) ≡ whole →
    row_terms copies ≡ whole
copied_all terms i copies whole past q =
    sym (behind_none (row_terms copies))
    ∙ ap (behind (row_terms copies)) (sym (at_drop_all row_terms terms i past))
    ∙ q

pub constant_copied : (term : kept.Term) (symbol : ℕ) (args copies : Vec kept.Term) → term ≡ kept.Constant symbol args → row_terms copies.items ≡ row_terms args.items →
    plain_term (kept.Constant symbol copies) ≡ plain_term term
constant_copied term symbol args copies e q =
    plain_constant symbol copies ∙ ap (Constant symbol) q ∙ sym (plain_constant symbol args) ∙ sym (ap plain_term e)
