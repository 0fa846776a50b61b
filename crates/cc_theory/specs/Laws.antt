-- What the completion and paths have to do with models (Clark, 1978; Giunchiglia, Lee, Lifschitz, McCain and Turner, 2004).
use Rattle.std.specs.Prelude.{◌≡◌, ℕ, ◌+◌, ◌*◌, ◌<◌, ◌≤◌, List, take, drop, length, slice_get, Some, Contains, ◌↔◌}
use Rattle.cc_defs.specs.declared.node.GroundHead.{GroundHead}
use Rattle.cc_defs.specs.declared.node.GroundHead.TheVariants as heads
use Rattle.cc_defs.specs.Conditions.{AreGroundLaws}
use Rattle.cc_defs.specs.Description.{Description, sizes_at, stride}
use Rattle.cc_defs.specs.GroundLaws.{ground_laws}
use Rattle.cc_defs.specs.Paths.{IsPath}
use Rattle.cc_defs.specs.Rows.{IsRow}
use Rattle.cc_defs.specs.Rules.{rules_at}
use Rattle.cc_defs.specs.Terms.{Ground, IsTermOver, postfix, truth}
use Rattle.cc_defs.specs.Theories.{IsModel}
use Rattle.cc_defs.specs.TimedRules.{TimedRule, timed_rules}
use Rattle.cc_defs.specs.Universe.{HaveOwnValues}
use Rattle.cc_theory.specs.Completion.{MeetsCompletion}

-- the values of each ground constant are different, and the ground laws are as their kinds ask
pub record IsGroundedWell (d : Description) : Type 0 where
  pub values : HaveOwnValues d.universe
  pub laws : AreGroundLaws d.universe (ground_laws d.universe d.laws)

-- The completion theorem: a row is a model exactly where it meets the completion of the rules.
abbrev pub ModelsMeetCompletion : Type 0
ModelsMeetCompletion = (d : Description) → IsGroundedWell d → (horizon : ℕ) (row : List ℕ) → IsRow (sizes_at d horizon) row →
    IsModel (sizes_at d horizon) (rules_at d horizon) row ↔ MeetsCompletion (sizes_at d horizon) (timed_rules d horizon) row

-- The path theorem: the models of a horizon are the paths of so many transitions.
abbrev pub ModelsArePaths : Type 0
ModelsArePaths = (d : Description) → IsGroundedWell d → (horizon : ℕ) (row : List ℕ) →
    IsModel (sizes_at d horizon) (rules_at d horizon) row ↔ IsPath d horizon row

-- the part of a row from a step on, over so many transitions
abbrev pub part_of : Description → List ℕ → (start count : ℕ) → List ℕ
part_of d row start count = take (count * stride d + length d.universe.fluents) (drop (start * stride d) row)

-- Each run of consecutive states of a path, with the actions between them, is a path.
abbrev pub PathsHaveParts : Type 0
PathsHaveParts = (d : Description) → IsGroundedWell d → (horizon : ℕ) (row : List ℕ) → IsPath d horizon row →
    (start count : ℕ) → start + count ≤ horizon → IsPath d count (part_of d row start count)

-- A term is worth the same under two valuations that agree on its constants.
abbrev pub TermsRestOnTheirConstants : Type 0
TermsRestOnTheirConstants = (sizes : List ℕ) (formula : Ground) → IsTermOver sizes (postfix formula) → (v w : ℕ → ℕ) →
    ((constant : ℕ) → constant < length sizes → v constant ≡ w constant) → truth v formula ≡ truth w formula

-- a head names a position, and a value of it
abbrev pub HeadFits : List ℕ → GroundHead → Type 0
HeadFits sizes (heads.Atom position value) = (size : ℕ) × (slice_get sizes position ≡ Some size) × (value < size)
HeadFits sizes heads.Falsity = Unit {0}

-- The head of each rule of a horizon is an atom of it, or falsity.
abbrev pub HeadsNameAtoms : Type 0
HeadsNameAtoms = (d : Description) → IsGroundedWell d → (horizon : ℕ) (rule : TimedRule) → Contains (timed_rules d horizon) rule → HeadFits (sizes_at d horizon) rule.head
