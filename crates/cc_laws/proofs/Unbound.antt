-- The variables of a term that no bracket binds: that of its name, and those of its arguments.
use Rattle.std.proofs.Common.{◌≡◌, ◌∙◌, ℕ, not, List, [], ◌∷◌, ◌++◌, flat_map, append_assoc, refl, sym, ap, ◌⊎◌, inl, inr}
use Rattle.std.proofs.lemmas.List.Concat.{flat_map-append}
use Rattle.std.proofs.lemmas.List.Elements.{filter-append}
use Rattle.cc_defs.specs.declared.tree.Addend.{Addend}
use Rattle.cc_defs.specs.declared.tree.SumTree.{SumTree, out-SumTree}
use Rattle.cc_defs.specs.declared.tree.TermTree.{TermTree, out-TermTree}
use Rattle.cc_defs.specs.Trees.{PlainTerm, PlainSum, plain_piece, plain_sum, plain_term, plain_tree}
use Rattle.cc_laws.specs.FreeVariables.{is_among, variable_meant, term_variables, sum_variables, unbound, free}
use Rattle.cc_laws.specs.Leaves.{Mention, argument_mentions, sum_mentions, addend_mentions, piece_mentions}
use Rattle.cc_laws.specs.Views.{plain_sums, plain_added, piece_variables}
use Rattle.cc_laws.specs.Vocabulary.{Vocabulary, meaning}
use Rattle.cc_laws.proofs.Mentions.{term_parts, sum_parts}
use Rattle.std.specs.Global.{Box}
use Rattle.cc_defs.specs.declared.tree.Tree.{Tree}
use Rattle.cc_defs.specs.declared.tree.Tree as trees

-- those of several sums
abbrev pub unbound_in : Vocabulary → List ℕ → List SumTree → List ℕ
unbound_in v bound [] = []
unbound_in v bound (sum ∷ sums) = unbound bound (sum_variables v (plain_sum sum)) ++ unbound_in v bound sums

-- those of several addends
abbrev pub unbound_added : Vocabulary → List ℕ → List Addend → List ℕ
unbound_added v bound [] = []
unbound_added v bound (addend ∷ addends) = unbound bound (piece_variables v (plain_piece addend.piece)) ++ unbound_added v bound addends

abbrev mentioned : Vocabulary → Mention → List ℕ
mentioned v mention = variable_meant (meaning v mention.name)

both_unbound : (v : Vocabulary) (bound : List ℕ) (some others : List Mention) →
    unbound bound (flat_map (mentioned v) (some ++ others)) ≡ unbound bound (flat_map (mentioned v) some) ++ unbound bound (flat_map (mentioned v) others)
both_unbound v bound some others =
    ap (unbound bound) (flat_map-append (mentioned v) some others)
    ∙ filter-append (λ (number : ℕ). not (is_among bound number)) (flat_map (mentioned v) some) (flat_map (mentioned v) others)

unbound_items : (v : Vocabulary) (bound : List ℕ) (sums : List SumTree) →
    unbound bound (flat_map (mentioned v) (argument_mentions (plain_sums sums))) ≡ unbound_in v bound sums
unbound_items v bound [] = refl
unbound_items v bound (sum ∷ sums) =
    both_unbound v bound (sum_mentions (plain_sum sum)) (argument_mentions (plain_sums sums))
    ∙ ap (λ (more : List ℕ). unbound bound (sum_variables v (plain_sum sum)) ++ more) (unbound_items v bound sums)

unbound_addends : (v : Vocabulary) (bound : List ℕ) (addends : List Addend) →
    unbound bound (flat_map (mentioned v) (addend_mentions (plain_added addends))) ≡ unbound_added v bound addends
unbound_addends v bound [] = refl
unbound_addends v bound (addend ∷ addends) =
    both_unbound v bound (piece_mentions (plain_piece addend.piece)) (addend_mentions (plain_added addends))
    ∙ ap (λ (more : List ℕ). unbound bound (piece_variables v (plain_piece addend.piece)) ++ more) (unbound_addends v bound addends)

abbrev own_unbound : Vocabulary → List ℕ → List ℕ → List ℕ
own_unbound v bound name = unbound bound (variable_meant (meaning v name))

unbound_term : (v : Vocabulary) (bound : List ℕ) (term : TermTree) →
    unbound bound (term_variables v (plain_term term)) ≡ own_unbound v bound (out-TermTree term).name.now ++ unbound_in v bound (out-TermTree term).args.items
unbound_term v bound term =
    let name = (out-TermTree term).name.now in
    let args = (out-TermTree term).args.items in
    ap (λ (plain : PlainTerm). unbound bound (term_variables v plain)) (term_parts term)
    ∙ filter-append (λ (number : ℕ). not (is_among bound number)) (variable_meant (meaning v name)) (flat_map (mentioned v) (argument_mentions (plain_sums args)))
    ∙ ap (λ (more : List ℕ). own_unbound v bound name ++ more) (unbound_items v bound args)

unbound_sum : (v : Vocabulary) (bound : List ℕ) (sum : SumTree) →
    unbound bound (sum_variables v (plain_sum sum)) ≡ unbound bound (piece_variables v (plain_piece (out-SumTree sum).first)) ++ unbound_added v bound (out-SumTree sum).rest.items
unbound_sum v bound sum =
    let first = plain_piece (out-SumTree sum).first in
    let rest = (out-SumTree sum).rest.items in
    ap (λ (plain : PlainSum). unbound bound (sum_variables v plain)) (sum_parts sum)
    ∙ both_unbound v bound (piece_mentions first) (addend_mentions (plain_added rest))
    ∙ ap (λ (more : List ℕ). unbound bound (piece_variables v first) ++ more) (unbound_addends v bound rest)

-- its own variable was added, and its arguments are left
pub begun : (v : Vocabulary) (bound : List ℕ) (term : TermTree) (old new : List ℕ) (items : List SumTree) →
    new ≡ old ++ own_unbound v bound (out-TermTree term).name.now → items ≡ (out-TermTree term).args.items →
    new ++ unbound_in v bound items ≡ old ++ unbound bound (term_variables v (plain_term term))
begun v bound term old new items added are =
    let own = own_unbound v bound (out-TermTree term).name.now in
    ap (λ (front : List ℕ). front ++ unbound_in v bound items) added
    ∙ ap (λ (sums : List SumTree). (old ++ own) ++ unbound_in v bound sums) are
    ∙ append_assoc old own (unbound_in v bound (out-TermTree term).args.items)
    ∙ ap (λ (more : List ℕ). old ++ more) (sym (unbound_term v bound term))

-- those of its first piece were added, and the others are left
pub sum_begun : (v : Vocabulary) (bound : List ℕ) (sum : SumTree) (old new : List ℕ) (items : List Addend) →
    new ≡ old ++ unbound bound (piece_variables v (plain_piece (out-SumTree sum).first)) → items ≡ (out-SumTree sum).rest.items →
    new ++ unbound_added v bound items ≡ old ++ unbound bound (sum_variables v (plain_sum sum))
sum_begun v bound sum old new items added are =
    let own = unbound bound (piece_variables v (plain_piece (out-SumTree sum).first)) in
    ap (λ (front : List ℕ). front ++ unbound_added v bound items) added
    ∙ ap (λ (addends : List Addend). (old ++ own) ++ unbound_added v bound addends) are
    ∙ append_assoc old own (unbound_added v bound (out-SumTree sum).rest.items)
    ∙ ap (λ (more : List ℕ). old ++ more) (sym (unbound_sum v bound sum))

-- no bracket binds
pub unbound_none : (numbers : List ℕ) → unbound [] numbers ≡ numbers
unbound_none [] = refl
unbound_none (number ∷ numbers) = ap (λ (others : List ℕ). number ∷ others) (unbound_none numbers)

-- those of two formulas that are joined
pub joined_free : (v : Vocabulary) (bound : List ℕ) (formula : Tree) (first second : Box Tree) →
    (formula ≡ trees.Both first second) ⊎ ((formula ≡ trees.Either first second) ⊎ ((formula ≡ trees.Implies first second) ⊎ (formula ≡ trees.Same first second))) →
    free v bound (plain_tree first.value) ++ free v bound (plain_tree second.value) ≡ free v bound (plain_tree formula)
joined_free v bound formula first second (inl e) = sym (ap (λ (f : Tree). free v bound (plain_tree f)) e)
joined_free v bound formula first second (inr (inl e)) = sym (ap (λ (f : Tree). free v bound (plain_tree f)) e)
joined_free v bound formula first second (inr (inr (inl e))) = sym (ap (λ (f : Tree). free v bound (plain_tree f)) e)
joined_free v bound formula first second (inr (inr (inr e))) = sym (ap (λ (f : Tree). free v bound (plain_tree f)) e)
