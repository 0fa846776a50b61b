-- The base laws of a law, by what it is short for.
use Rattle.std.proofs.Common.{◌≡◌, Bool, List, true, false, Option, Some, None, [], ◌∷◌, ◌∙◌, refl, sym, ap}
use Rattle.std.specs.Global.{Box}
use Rattle.cc_defs.specs.Resolved.{BaseLaw}
use Rattle.cc_defs.specs.Trees.{PlainLaw, PlainTree, plain_law}
use Rattle.cc_defs.specs.Trees as trees
use Rattle.cc_laws.specs.Expansion.{Caused, Frame, effect, laws_with, split}
use Rattle.cc_laws.specs.FormulaFaults.{is_fluent_formula}
use Rattle.cc_laws.specs.Shortened.{is_later, is_short, law_short_for, other_laws, short_with}
use Rattle.cc_laws.specs.Vocabulary.{Vocabulary}
use Rattle.cc_laws.specs.Widening.{whole_law, whole_of, whole_short}
use Rattle.cc_defs.specs.declared.tree.LawTree.{LawTree}
use Rattle.cc_defs.specs.declared.tree.TermTree.{TermTree}
use Rattle.cc_defs.specs.declared.tree.Tree.{Tree}
use Rattle.cc_defs.specs.declared.tree.LawTree.TheVariants as kept

effect_is : (later : Bool) (a f : PlainTree) (g : Option PlainTree) → short_with later (trees.Causes a f g) ≡ effect later a f g
effect_is true a f g = refl
effect_is false a f g = refl

pub short_laws : (v : Vocabulary) (frame : Frame) (law : PlainLaw) → is_short law ≡ true → split v frame (short_with (is_later v law) law) ≡ laws_with v frame law
short_laws v frame (trees.Caused f g h) is = refl
short_laws v frame (trees.Constraint f) is = refl
short_laws v frame (trees.Always f) is = refl
short_laws v frame (trees.Nonexecutable f g) is = refl
short_laws v frame (trees.Default f g h) is = refl
short_laws v frame (trees.Causes a f g) is = ap (split v frame) (effect_is (is_fluent_formula v f) a f g)
short_laws v frame (trees.MayCause a f g) is = refl
short_laws v frame (trees.Exogenous c) is = absurd cc
short_laws v frame (trees.Inertial c) is = absurd cc
short_laws v frame trees.NoConcurrency is = absurd cc

-- where the head is kept whole
pub whole_shortened : (v : Vocabulary) (frame : Frame) (law : PlainLaw) →
    whole_of v frame (short_with (is_later v law) law) (short_with (is_later v law) law).head ≡ whole_short v frame (law_short_for v law)
whole_shortened v frame (trees.Caused f g h) = refl
whole_shortened v frame (trees.Constraint f) = refl
whole_shortened v frame (trees.Always f) = refl
whole_shortened v frame (trees.Nonexecutable f g) = refl
whole_shortened v frame (trees.Default f g h) = refl
whole_shortened v frame (trees.Causes a f g) = ap (λ (law : Caused). whole_of v frame law law.head) (effect_is (is_fluent_formula v f) a f g)
whole_shortened v frame (trees.MayCause a f g) = refl
whole_shortened v frame (trees.Exogenous c) = refl
whole_shortened v frame (trees.Inertial c) = refl
whole_shortened v frame trees.NoConcurrency = refl

pub of_others : (v : Vocabulary) (frame : Frame) (law : PlainLaw) → is_short law ≡ false → other_laws v frame law ≡ laws_with v frame law
of_others v frame (trees.Caused f g h) is = absurd cc
of_others v frame (trees.Constraint f) is = absurd cc
of_others v frame (trees.Always f) is = absurd cc
of_others v frame (trees.Nonexecutable f g) is = absurd cc
of_others v frame (trees.Default f g h) is = absurd cc
of_others v frame (trees.Causes a f g) is = absurd cc
of_others v frame (trees.MayCause a f g) is = absurd cc
of_others v frame (trees.Exogenous c) is = refl
of_others v frame (trees.Inertial c) is = refl
of_others v frame trees.NoConcurrency is = refl

-- ---- by the law itself that a law is short for

abbrev pub by_short : Vocabulary → Frame → PlainLaw → Option Caused → List BaseLaw
by_short v frame law (Some short) = split v frame short
by_short v frame law None = other_laws v frame law

pub shortened : (v : Vocabulary) (frame : Frame) (law : PlainLaw) → by_short v frame law (law_short_for v law) ≡ laws_with v frame law
shortened v frame (trees.Caused f g h) = refl
shortened v frame (trees.Constraint f) = refl
shortened v frame (trees.Always f) = refl
shortened v frame (trees.Nonexecutable f g) = refl
shortened v frame (trees.Default f g h) = refl
shortened v frame (trees.Causes a f g) = refl
shortened v frame (trees.MayCause a f g) = refl
shortened v frame (trees.Exogenous c) = refl
shortened v frame (trees.Inertial c) = refl
shortened v frame trees.NoConcurrency = refl

pub whole_head : (v : Vocabulary) (frame : Frame) (law : PlainLaw) (later : Bool) (head : PlainTree) → later ≡ is_later v law → (short_with later law).head ≡ Some head →
    whole_law v frame (short_with later law) head ∷ [] ≡ whole_short v frame (law_short_for v law)
whole_head v frame law later head e q =
    ap (whole_of v frame (short_with later law)) (sym q)
    ∙ ap (λ (b : Bool). whole_of v frame (short_with b law) (short_with b law).head) e
    ∙ whole_shortened v frame law

pub none_of_others : (v : Vocabulary) (frame : Frame) (law : LawTree) → ((c : TermTree) → law ≡ kept.Exogenous c → ⊥) → ((c : TermTree) → law ≡ kept.Inertial c → ⊥) → (law ≡ kept.NoConcurrency → ⊥) → [] ≡ other_laws v frame (plain_law law)
none_of_others v frame (kept.Caused f g h) e i n = refl
none_of_others v frame (kept.Constraint f) e i n = refl
none_of_others v frame (kept.Always f) e i n = refl
none_of_others v frame (kept.Nonexecutable f g) e i n = refl
none_of_others v frame (kept.Default f g h) e i n = refl
none_of_others v frame (kept.Exogenous c) e i n = absurd (e c refl)
none_of_others v frame (kept.Inertial c) e i n = absurd (i c refl)
none_of_others v frame (kept.Causes a f g) e i n = refl
none_of_others v frame (kept.MayCause a f g) e i n = refl
none_of_others v frame kept.NoConcurrency e i n = absurd (n refl)

-- where there is no head
pub headless : (v : Vocabulary) (frame : Frame) (law : LawTree) → ((f : Box Tree) (g h : Option (Box Tree)) → law ≡ kept.Caused f g h → ⊥) → ((f : Box Tree) (g h : Option (Box Tree)) → law ≡ kept.Default f g h → ⊥) →
    ((a f : Box Tree) (g : Option (Box Tree)) → law ≡ kept.Causes a f g → ⊥) → ((a f : Box Tree) (g : Option (Box Tree)) → law ≡ kept.MayCause a f g → ⊥) → [] ≡ whole_short v frame (law_short_for v (plain_law law))
headless v frame (kept.Caused f g h) c d e m = absurd (c f g h refl)
headless v frame (kept.Constraint f) c d e m = refl
headless v frame (kept.Always f) c d e m = refl
headless v frame (kept.Nonexecutable f g) c d e m = refl
headless v frame (kept.Default f g h) c d e m = absurd (d f g h refl)
headless v frame (kept.Exogenous t) c d e m = refl
headless v frame (kept.Inertial t) c d e m = refl
headless v frame (kept.Causes a f g) c d e m = absurd (e a f g refl)
headless v frame (kept.MayCause a f g) c d e m = absurd (m a f g refl)
headless v frame kept.NoConcurrency c d e m = refl
