use Rattle.std.proofs.Common.{rules, ◌≡◌, ℕ, zero, suc, List, ◌<◌, ◌≤◌, ◌∷◌, [], ◌⊎◌, inl, inr, length, get_or, sym, ◌∙◌, arith}
use Rattle.std.specs.Ordering.{nat_cmp}
use Rattle.std.specs.declared.cmp.Ordering.TheVariants.{Less, Equal, Greater}
use Rattle.std.specs.Cmp.Lexicographic.{slice_cmp}
use Rattle.std.proofs.lemmas.Fn.{always_returns_same}
use Rattle.std.specs.List.Sorted.{IsPartitionPoint}
use Rattle.cc_defs.specs.declared.signature.Const.{Const}
use Rattle.cc_defs.specs.declared.signature.Kind.TheVariants.{Simple}
use Rattle.cc_defs.specs.Signatures.{place}
use Rattle.cc_defs.proofs.Places.{searchable, first, none}
use Rattle.cc_defs.proofs.index.find_by_halves.Goals as goal

below_or_from : (k i : ℕ) → (k < i) ⊎ (i ≤ k)
below_or_from k zero = inr (omega arith)
below_or_from zero (suc i) = inl (omega arith)
below_or_from (suc k) (suc i) = elim (below_or_from k i) [ inl p ↦ inl (omega arith) | inr p ↦ inr (omega arith) ]

abbrev some_constant : Const
some_constant = record { symbol = 0; args = []; kind = Simple; domain = [] }

pub returns-in-Ok : goal.returns-in-Ok
returns-in-Ok c =
    let found = c.in-Ok.ensures.position (λ y. slice_cmp nat_cmp (place y) (c.args.symbol ∷ c.args.args.now)) (always_returns_same _ _ _ (λ a r g h. search rules)) in
    sym (first c.args.constants.now c.in-Ok.number c.args.symbol c.args.args.now some_constant c.requires c.in-Ok.ensures.bound (found some_constant))

parts : (cs : List Const) (key : List ℕ) (i k : ℕ)
    → IsPartitionPoint (λ y. slice_cmp nat_cmp (place y) key ≡ Less) (λ y. slice_cmp nat_cmp (place y) key ≡ Greater) cs i
    → k < length cs → slice_cmp nat_cmp (place (get_or cs k some_constant)) key ≡ Equal → ⊥
parts cs key i k parted within equal = elim (below_or_from k i) [
  | inl below ↦ let e = sym equal ∙ parted.0 k some_constant (omega arith) below in cc
  | inr from ↦ let e = sym equal ∙ parted.1 k some_constant from within in cc
]

pub returns-in-Err : goal.returns-in-Err
returns-in-Err c =
    let key = c.args.symbol ∷ c.args.args.now in
    let parted = c.in-Err.ensures.position (λ y. slice_cmp nat_cmp (place y) key) (always_returns_same _ _ _ (λ a r g h. search rules)) (searchable c.args.constants.now key c.requires) in
    sym (none c.args.constants.now c.args.symbol c.args.args.now some_constant (λ k within equal. parts c.args.constants.now key c.in-Err.field-0 k parted within equal))
