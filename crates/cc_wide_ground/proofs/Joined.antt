-- What is put together of the laws that are left.
use Rattle.std.proofs.Common.{◌≡◌, ◌∙◌, ℕ, ◌≤◌, inl, inr, List, [], ◌∷◌, ◌++◌, length, drop, refl, sym, ap, arith, append-nil}
use Rattle.std.specs.Prelude.{min}
use Rattle.std.proofs.lemmas.Bool.{cases_lt}
use Rattle.std.proofs.lemmas.List.{drop_all}
use Rattle.cc_arena.specs.declared.ground_laws.GroundLaw.{GroundLaw}
use Rattle.cc_arena.specs.GroundViews.{plain_ground_laws}
use Rattle.cc_defs.specs.declared.node.Node.{Node}
use Rattle.cc_defs.specs.GroundLaws.{PlainGroundLaw}
use Rattle.cc_wide.specs.WideGrounds.{PlainWideGround}
use Rattle.cc_wide_ground.specs.Joining.{joined}

no_heads : (falsehood : List Node) (laws : List PlainGroundLaw) → joined falsehood laws [] ≡ []
no_heads falsehood [] = refl
no_heads falsehood (law ∷ laws) = refl

none_left : (falsehood : List Node) (laws heads : List GroundLaw) (i : ℕ) → min (length laws) (length heads) ≤ i →
    joined falsehood (plain_ground_laws (drop i laws)) (plain_ground_laws (drop i heads)) ≡ []
none_left falsehood laws heads i past = elim (cases_lt i (length laws)) [
  | inl within ↦
      ap (λ (left : List GroundLaw). joined falsehood (plain_ground_laws (drop i laws)) (plain_ground_laws left)) (drop_all i heads (omega arith))
      ∙ no_heads falsehood (plain_ground_laws (drop i laws))
  | inr done ↦ ap (λ (left : List GroundLaw). joined falsehood (plain_ground_laws left) (plain_ground_laws (drop i heads))) (drop_all i laws done)
]

pub joined_all : (falsehood : List Node) (laws heads : List GroundLaw) (count i : ℕ) (made whole : List PlainWideGround) →
    count ≡ min (length laws) (length heads) → count ≤ i →
    made ++ joined falsehood (plain_ground_laws (drop i laws)) (plain_ground_laws (drop i heads)) ≡ whole → made ≡ whole
joined_all falsehood laws heads count i made whole is past e =
    sym (append-nil made)
    ∙ sym (ap (λ (left : List PlainWideGround). made ++ left) (none_left falsehood laws heads i (omega (arith, is, past))))
    ∙ e
