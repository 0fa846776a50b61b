-- The law that a law is short for, and the base laws of those that are short for none.
use Rattle.std.specs.Prelude.{Bool, true, false, if◌then◌else◌, List, [], ◌∷◌, Option, Some, None}
use Rattle.cc_defs.specs.Resolved as resolved
use Rattle.cc_defs.specs.Trees.{PlainLaw, PlainTree}
use Rattle.cc_defs.specs.Trees as trees
use Rattle.cc_laws.specs.Expansion.{Caused, caused, both, effect, Exogenous, Inertial, Frame, subject_laws}
use Rattle.cc_laws.specs.FormulaFaults.{is_fluent_formula}
use Rattle.cc_laws.specs.Vocabulary.{Vocabulary}

abbrev pub law_short_for : Vocabulary → PlainLaw → Option Caused
law_short_for v (trees.Caused f g h) = Some (caused (Some f) g h)
law_short_for v (trees.Constraint f) = Some (caused None (Some (trees.Not f)) None)
law_short_for v (trees.Always f) = Some (caused None None (Some (trees.Not f)))
law_short_for v (trees.Nonexecutable f g) = Some (caused None None (Some (both f g)))
law_short_for v (trees.Default f g h) = Some (caused (Some f) (Some (both f g)) h)
law_short_for v (trees.Causes a f g) = Some (effect (is_fluent_formula v f) a f g)
law_short_for v (trees.MayCause a f g) = Some (caused (Some f) (Some f) (Some (both a g)))
law_short_for v law = None

abbrev pub other_laws : Vocabulary → Frame → PlainLaw → List resolved.BaseLaw
other_laws v frame (trees.Exogenous c) = subject_laws v frame Exogenous c
other_laws v frame (trees.Inertial c) = subject_laws v frame Inertial c
other_laws v frame trees.NoConcurrency = resolved.NoConcurrency frame.file frame.line ∷ []
other_laws v frame law = []

-- ---- the same, by the law and whether the effect of its actions comes a step later

abbrev pub is_short : PlainLaw → Bool
is_short (trees.Exogenous c) = false
is_short (trees.Inertial c) = false
is_short trees.NoConcurrency = false
is_short law = true

abbrev pub is_later : Vocabulary → PlainLaw → Bool
is_later v (trees.Causes a f g) = is_fluent_formula v f
is_later v law = false

abbrev pub head_of : PlainLaw → Option PlainTree
head_of (trees.Caused f g h) = Some f
head_of (trees.Default f g h) = Some f
head_of (trees.Causes a f g) = Some f
head_of (trees.MayCause a f g) = Some f
head_of law = None

abbrev pub body_of : Bool → PlainLaw → Option PlainTree
body_of later (trees.Caused f g h) = g
body_of later (trees.Constraint f) = Some (trees.Not f)
body_of later (trees.Default f g h) = Some (both f g)
body_of later (trees.Causes a f g) = if later then None else Some (both a g)
body_of later (trees.MayCause a f g) = Some f
body_of later law = None

abbrev pub after_of : Bool → PlainLaw → Option PlainTree
after_of later (trees.Caused f g h) = h
after_of later (trees.Always f) = Some (trees.Not f)
after_of later (trees.Nonexecutable f g) = Some (both f g)
after_of later (trees.Default f g h) = h
after_of later (trees.Causes a f g) = if later then Some (both a g) else None
after_of later (trees.MayCause a f g) = Some (both a g)
after_of later law = None

abbrev pub short_with : Bool → PlainLaw → Caused
short_with later law = caused (head_of law) (body_of later law) (after_of later law)
