-- Terms with numbers in place of names, and their arguments.
use Rattle.std.proofs.Common.{rules, ◌≡◌, ◌∙◌, ℕ, ◌+◌, ◌<◌, ◌≤◌, List, [], ◌∷◌, ◌++◌, length, drop, get_or, refl, sym, ap, Global}
use Rattle.std.proofs.lemmas.List.{at_drop_more, at_drop_all}
use Rattle.std.specs.Prelude.{Vec}
use Rattle.cc_defs.specs.declared.formula.Term as kept
use Rattle.cc_defs.specs.declared.formula.Term.{items-the_row-Term, items_hidden-the_row-Term-0}
use Rattle.cc_defs.specs.declared.formula.Term.TheBlock.{hidden-the_row-Term-0}
use Rattle.cc_defs.specs.declared.tree.Addend.{Addend}
use Rattle.cc_defs.specs.declared.tree.SumTree.{SumTree, out-SumTree}
use Rattle.cc_defs.specs.declared.tree.TermTree.{TermTree, out-TermTree}
use Rattle.cc_defs.specs.Resolved.{Term, Terms, NoTerms, MoreTerms, plain_term}
use Rattle.cc_defs.specs.Resolved as resolved
use Rattle.cc_defs.specs.Trees as trees
use Rattle.cc_laws.specs.Resolving.{Binding, resolve_term, resolve_sums, resolve_sum, resolve_piece, resolve_addends, term_meant, joined}
use Rattle.cc_laws.specs.Views.{plain_sums, plain_added, row_terms}
use Rattle.cc_laws.specs.Vocabulary.{Vocabulary, Meaning, meaning}
use Rattle.cc_laws.proofs.Mentions.{term_parts, sum_parts}

pub next_item : {X Y : Type 0} (F : List X → Y) (xs : List X) (i : ℕ) (d : X) → i < length xs → d ≡ get_or xs i d → F (drop i xs) ≡ F (d ∷ drop (i + 1) xs)
next_item F xs i d within is = at_drop_more F xs i d within ∙ ap (λ x. F (x ∷ drop (i + 1) xs)) (sym is)

-- these terms, and more behind them
abbrev pub behind : Terms → Terms → Terms
behind NoTerms more = more
behind (MoreTerms first others) more = MoreTerms first (behind others more)

pub behind_last : (made : List kept.Term) (one : kept.Term) (more : Terms) → behind (row_terms (made ++ one ∷ [])) more ≡ behind (row_terms made) (MoreTerms (plain_term one) more)
behind_last [] one more = refl
behind_last (term ∷ terms) one more = ap (MoreTerms (plain_term term)) (behind_last terms one more)

pub behind_none : (terms : Terms) → behind terms NoTerms ≡ terms
behind_none NoTerms = refl
behind_none (MoreTerms first others) = ap (MoreTerms first) (behind_none others)

pub resolved_more : (v : Vocabulary) (scope : List Binding) (args : List SumTree) (i : ℕ) (d : SumTree) (made pushed : List kept.Term) (one : kept.Term) (whole : Terms) →
    i < length args → d ≡ get_or args i d → pushed ≡ made ++ one ∷ [] → plain_term one ≡ resolve_sum v scope (trees.plain_sum d) →
    behind (row_terms made) (resolve_sums v scope (plain_sums (drop i args))) ≡ whole →
    behind (row_terms pushed) (resolve_sums v scope (plain_sums (drop (i + 1) args))) ≡ whole
resolved_more v scope args i d made pushed one whole within is push e q =
    let rest = resolve_sums v scope (plain_sums (drop (i + 1) args)) in
    ap (λ (l : List kept.Term). behind (row_terms l) rest) push
    ∙ behind_last made one rest
    ∙ ap (λ (t : Term). behind (row_terms made) (MoreTerms t rest)) e
    ∙ ap (behind (row_terms made)) (sym (next_item (λ (l : List SumTree). resolve_sums v scope (plain_sums l)) args i d within is))
    ∙ q

pub resolved_all : (v : Vocabulary) (scope : List Binding) (args : List SumTree) (i : ℕ) (made : List kept.Term) (whole : Terms) → length args ≤ i →
    behind (row_terms made) (resolve_sums v scope (plain_sums (drop i args))) ≡ whole →
    row_terms made ≡ whole
resolved_all v scope args i made whole past q =
    sym (behind_none (row_terms made))
    ∙ ap (behind (row_terms made)) (sym (at_drop_all (λ (l : List SumTree). resolve_sums v scope (plain_sums l)) args i past))
    ∙ q

-- ---- the vector of a term

row_kept : (n : _) (row : kept.Row_of-Term n) → resolved.plain_row row ≡ row_terms (items-the_row-Term n row)
row_kept _ kept.end_of-Term = refl
row_kept _ (kept.more_of-Term term rest) = ap (MoreTerms (plain_term term)) (row_kept _ rest)

pub row_made : (args : Vec kept.Term Global) → resolved.plain_row (hidden-the_row-Term-0 args) ≡ row_terms args.items
row_made args = search (rules, row_kept, items_hidden-the_row-Term-0)

pub term_resolved : (v : Vocabulary) (scope : List Binding) (term : TermTree) (means : Meaning) (args : Terms) →
    means ≡ meaning v (out-TermTree term).name.now →
    args ≡ resolve_sums v scope (plain_sums (out-TermTree term).args.items) →
    term_meant scope means args ≡ resolve_term v scope (trees.plain_term term)
term_resolved v scope term means args p q =
    ap (λ (m : Meaning). term_meant scope m args) p
    ∙ ap (term_meant scope (meaning v (out-TermTree term).name.now)) q
    ∙ sym (ap (resolve_term v scope) (term_parts term))

-- a sum whose first piece was made, and the others are left
pub sum_begun : (v : Vocabulary) (scope : List Binding) (sum : SumTree) (made : Term) (items : List Addend) →
    made ≡ resolve_piece v scope (trees.plain_piece (out-SumTree sum).first) → items ≡ (out-SumTree sum).rest.items →
    resolve_addends v scope made (plain_added items) ≡ resolve_sum v scope (trees.plain_sum sum)
sum_begun v scope sum made items p q =
    ap (λ (one : Term). resolve_addends v scope one (plain_added items)) p
    ∙ ap (λ (addends : List Addend). resolve_addends v scope (resolve_piece v scope (trees.plain_piece (out-SumTree sum).first)) (plain_added addends)) q
    ∙ sym (ap (resolve_sum v scope) (sum_parts sum))

-- one more addend was joined
pub addend_more : (v : Vocabulary) (scope : List Binding) (items : List Addend) (i : ℕ) (d : Addend) (made first second one whole : Term) → i < length items → d ≡ get_or items i d →
    first ≡ made → second ≡ resolve_piece v scope (trees.plain_piece d.piece) → one ≡ joined d.minus first second →
    resolve_addends v scope made (plain_added (drop i items)) ≡ whole → resolve_addends v scope one (plain_added (drop (i + 1) items)) ≡ whole
addend_more v scope items i d made first second one whole within is f s e q =
    ap (λ (t : Term). resolve_addends v scope t (plain_added (drop (i + 1) items))) (e ∙ ap (λ (t : Term). joined d.minus t second) f ∙ ap (joined d.minus made) s)
    ∙ sym (next_item (λ (l : List Addend). resolve_addends v scope made (plain_added l)) items i d within is)
    ∙ q

pub addends_done : (v : Vocabulary) (scope : List Binding) (items : List Addend) (i : ℕ) (made whole : Term) → length items ≤ i →
    resolve_addends v scope made (plain_added (drop i items)) ≡ whole → made ≡ whole
addends_done v scope items i made whole past q = sym (at_drop_all (λ (l : List Addend). resolve_addends v scope made (plain_added l)) items i past) ∙ q
