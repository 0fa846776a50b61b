-- The base law of a part of a head, by what it denies.
use Rattle.std.proofs.Common.{◌≡◌, ◌∙◌, Bool, true, false, refl, ap}
use Rattle.std.proofs.Math.Bool.{and_assoc}
use Rattle.std.specs.Prelude.{◌&&◌, if◌then◌else◌, Option, is_none}
use Rattle.cc_defs.specs.Resolved.{Formula, Head, BaseLaw}
use Rattle.cc_laws.specs.Expansion.{Frame, Caused, base_law, part_acts, is_falsity_head}
use Rattle.cc_laws.specs.Vocabulary.{Vocabulary}

-- of its parts, each by the same test
of_parts : (v : Vocabulary) (frame : Frame) (head : Head) (denied : Bool) (x y : Formula) (p q : Option Formula) →
    base_law v frame head (if denied then x else y) (if denied then p else q) ≡ (if denied then base_law v frame head x p else base_law v frame head y q)
of_parts v frame head true x y p q = refl
of_parts v frame head false x y p q = refl

pub denied_by : (v : Vocabulary) (law : Caused) (head : Head) (denying denied : Bool) →
    denying ≡ (is_none law.after && part_acts v law.head) → denied ≡ (denying && is_falsity_head head) →
    denied ≡ (is_none law.after && (part_acts v law.head && is_falsity_head head))
denied_by v law head denying denied e f =
    f ∙ ap (λ w. w && is_falsity_head head) e ∙ and_assoc (is_none law.after) (part_acts v law.head) (is_falsity_head head)

pub made_for : (v : Vocabulary) (frame : Frame) (head : Head) (denied test : Bool) (x y body : Formula) (p q after : Option Formula) (made : BaseLaw) →
    denied ≡ test → body ≡ (if denied then x else y) → after ≡ (if denied then p else q) → made ≡ base_law v frame head body after →
    made ≡ (if test then base_law v frame head x p else base_law v frame head y q)
made_for v frame head denied test x y body p q after made is b a e =
    e ∙ ap (λ w. base_law v frame head w after) b ∙ ap (λ w. base_law v frame head (if denied then x else y) w) a
    ∙ of_parts v frame head denied x y p q
    ∙ ap (λ w. if w then base_law v frame head x p else base_law v frame head y q) is
