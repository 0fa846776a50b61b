-- Theories of a horizon as they are handed out: when a rule is one of a description, and which rules have an atom for their head.
use Rattle.std.specs.Prelude.{◌≡◌, ℕ, ◌*◌, ◌<◌, ◌≤◌, ◌%◌, ◌==◌, ◌&&◌, ◌↔◌, Bool, true, false, List, length, slice_get, Option, Some, None, nat_lt, if◌then◌else◌, IfSome}
use Rattle.std.specs.List.{AllByRecursion, AllZip}
use Rattle.cc_arena.specs.declared.ground_laws.GroundLaw.{GroundLaw}
use Rattle.cc_arena.specs.GroundViews.{plain_ground_laws}
use Rattle.cc_defs.specs.Limits.{most_rules}
use Rattle.cc_defs.specs.declared.node.GroundHead.{GroundHead}
use Rattle.cc_defs.specs.declared.node.GroundHead.TheVariants as heads
use Rattle.cc_defs.specs.declared.node.Node.{Node}
use Rattle.cc_defs.specs.declared.refusal.LimitAt.TheVariants as limits
use Rattle.cc_defs.specs.declared.refusal.Refusal.{Refusal}
use Rattle.cc_defs.specs.declared.signature.Const.{Const}
use Rattle.cc_defs.specs.Conditions.{AreGroundLaws, IsSignatureOfDescription}
use Rattle.cc_defs.specs.Declarations.{numbers_where}
use Rattle.cc_defs.specs.Description.{Description, domain_sizes, sizes_at, stride}
use Rattle.cc_defs.specs.GroundLaws.{StandFor}
use Rattle.cc_defs.specs.Paths.{IsPath}
use Rattle.cc_defs.specs.Refusals.{past}
use Rattle.cc_defs.specs.Rows.{IsRow}
use Rattle.cc_defs.specs.Rules.{rules_at}
use Rattle.cc_defs.specs.Theories.{IsModel}
use Rattle.cc_theory.specs.Completion.{MeetsCompletion}
use Rattle.cc_theory.specs.Laws.{IsGroundedWell}
use Rattle.cc_defs.specs.Signatures.{Signature, ground_constants, position_count}
use Rattle.cc_defs.specs.Terms.{Ground, IsTermOver, postfix}
use Rattle.cc_defs.specs.Terms as terms
use Rattle.cc_defs.specs.TimedRules.{joined_parts, moved, timed_rules}
use Rattle.cc_defs.specs.TimedRules as timed
use Rattle.cc_defs.specs.Universe.{Universe, HaveOwnValues}
use Rattle.cc_theory.specs.Making.{rules_for, stride_of}
use Rattle.cc_theory.specs.declared.rule.Timed.{Timed}
use Rattle.cc_theory.specs.declared.rule.TimedHead.{TimedHead}
use Rattle.cc_theory.specs.declared.rule.TimedHead.TheVariants as timed_heads
use Rattle.cc_theory.specs.declared.rule.TimedRule.{TimedRule}

-- the laws are ground laws over the constants of the signature, whose values are different for each of them
pub record AreLawsFor (signature : Signature) (laws : List GroundLaw) : Type 0 where
  pub u : Universe
  pub fluents : u.fluents ≡ signature.fluents
  pub actions : u.actions ≡ signature.actions
  pub numbers : u.numbers ≡ signature.numbers
  pub values : HaveOwnValues u
  pub laws_fit : AreGroundLaws u (plain_ground_laws laws)

-- the laws are those of a description with this signature
pub record AreLawsOf (signature : Signature) (laws : List GroundLaw) (d : Description) : Type 0 where
  pub signature_is : IsSignatureOfDescription d signature
  pub laws_are : StandFor (plain_ground_laws laws) d

-- ---- rules

abbrev pub plain_head : TimedHead → GroundHead
plain_head (timed_heads.Atom position value) = heads.Atom position value
plain_head timed_heads.Falsity = heads.Falsity

-- the atom of a head
abbrev pub IsAtomOf : TimedHead → Ground → Type 0
IsAtomOf (timed_heads.Atom position value) body = body ≡ terms.Atom position value
IsAtomOf timed_heads.Falsity body = ⊥

-- a part at its step, where so many positions lie between a step and the next; a part that is missing asks nothing
abbrev pub IsPart : ℕ → Option Timed → Ground → Type 0
IsPart stride None part = part ≡ terms.Truth
IsPart stride (Some given) part = (formula : Ground) × (given.nodes.now ≡ postfix formula) × (part ≡ moved (given.step * stride) formula)

-- a body of both parts; where both are missing, of the head's atom
abbrev pub IsBody : ℕ → TimedHead → Option Timed → Option Timed → Ground → Type 0
IsBody stride head None None body = IsAtomOf head body
IsBody stride head None (Some before) body = ⊥
IsBody stride head (Some now) before body =
    (first second : Ground) × IsPart stride (Some now) first × IsPart stride before second × (body ≡ joined_parts first second)

pub record IsRuleOf (stride : ℕ) (rule : TimedRule) (meant : timed.TimedRule) : Type 0 where
  pub head : plain_head rule.head ≡ meant.head
  pub body : IsBody stride rule.head rule.now rule.before meant.body

-- ---- theories

-- what a theory was made of, and its rules in order
pub record PlainTheory : Type 0 where
  pub signature : Signature
  pub horizon : ℕ
  pub rules : List TimedRule

-- more rules than their limit
abbrev pub rules_refusal : Description → ℕ → Option Refusal
rules_refusal d horizon = if nat_lt most_rules (length (timed_rules d horizon)) then Some (past limits.Rules) else None

-- the rows that are models of a horizon are those that meet the completion of its rules; they are the paths
abbrev pub ModelsMeetCompletionOf : Description → ℕ → Type 0
ModelsMeetCompletionOf d horizon = (row : List ℕ) → IsRow (sizes_at d horizon) row →
    IsModel (sizes_at d horizon) (rules_at d horizon) row ↔ MeetsCompletion (sizes_at d horizon) (timed_rules d horizon) row

abbrev pub ModelsArePathsOf : Description → ℕ → Type 0
ModelsArePathsOf d horizon = (row : List ℕ) → IsModel (sizes_at d horizon) (rules_at d horizon) row ↔ IsPath d horizon row

-- an atom: a position of the horizon, and the index of a value of the constant there
pub record IsAtom (signature : Signature) (horizon position value : ℕ) : Type 0 where
  pub constant : Const
  pub within : position < position_count signature horizon
  pub found : slice_get (ground_constants signature) (position % length (ground_constants signature)) ≡ Some constant
  pub short : value < length constant.domain

abbrev pub has_atom : ℕ → ℕ → TimedHead → Bool
has_atom position value (timed_heads.Atom other index) = (other == position) && (index == value)
has_atom position value timed_heads.Falsity = false

abbrev pub is_falsity : TimedHead → Bool
is_falsity (timed_heads.Atom position value) = false
is_falsity timed_heads.Falsity = true

-- the numbers of the rules whose head is an atom, ascending; of those whose head is falsity
abbrev pub causes_of : List TimedRule → ℕ → ℕ → List ℕ
causes_of rules position value = numbers_where (λ rule. has_atom position value rule.head) 0 rules

abbrev pub denials_of : List TimedRule → List ℕ
denials_of rules = numbers_where (λ rule. is_falsity rule.head) 0 rules

-- ---- what a theory hands out

-- the domain sizes of the constants that a step of a horizon has: all of them, at the last step the fluents alone
abbrev pub sizes_of_step : Signature → (horizon step : ℕ) → List ℕ
sizes_of_step signature horizon step = if nat_lt step horizon then domain_sizes (ground_constants signature) else domain_sizes signature.fluents

-- a term over the constants of a step
pub record IsTermAt (signature : Signature) (horizon step : ℕ) (nodes : List Node) : Type 0 where
  pub within : step ≤ horizon
  pub term : IsTermOver (sizes_of_step signature horizon step) nodes

-- an atom of the horizon, or falsity
abbrev pub IsHeadAt : Signature → ℕ → TimedHead → Type 0
IsHeadAt signature horizon (timed_heads.Atom position value) = IsAtom signature horizon position value
IsHeadAt signature horizon timed_heads.Falsity = Unit {0}

-- a rule of a horizon
pub record IsRuleAt (signature : Signature) (horizon : ℕ) (rule : TimedRule) : Type 0 where
  pub head : IsHeadAt signature horizon rule.head
  pub now : IfSome rule.now (λ timed. IsTermAt signature horizon timed.step timed.nodes.now)
  pub before : IfSome rule.before (λ timed. IsTermAt signature horizon timed.step timed.nodes.now)

abbrev pub AreRulesAt : Signature → ℕ → List TimedRule → Type 0
AreRulesAt signature horizon rules = AllByRecursion (IsRuleAt signature horizon) rules

-- the theory of a description: its rules are those of the description, which is ground well
pub record IsTheoryOf (theory : PlainTheory) (d : Description) : Type 0 where
  pub signature : IsSignatureOfDescription d theory.signature
  pub well : IsGroundedWell d
  pub rules : AllZip (IsRuleOf (stride d)) theory.rules (timed_rules d theory.horizon)

-- ---- what ground laws give

-- an atom of one of so many ground constants, or falsity
abbrev pub IsHeadBelow : ℕ → GroundHead → Type 0
IsHeadBelow count (heads.Atom constant value) = constant < count
IsHeadBelow count heads.Falsity = Unit {0}

-- the rules that laws have at a horizon are rules of it, and those of each description with these laws
pub record GiveRules (signature : Signature) (laws : List GroundLaw) (horizon : ℕ) : Type 0 where
  pub heads : AllByRecursion (λ law. IsHeadBelow (stride_of signature) law.head) laws
  pub fit : AreRulesAt signature horizon (rules_for signature laws horizon)
  pub long : (d : Description) → AreLawsOf signature laws d → length (rules_for signature laws horizon) ≡ length (timed_rules d horizon)
  pub theory : (d : Description) → AreLawsOf signature laws d → IsTheoryOf (record { signature = signature; horizon = horizon; rules = rules_for signature laws horizon }) d

abbrev pub LawsGiveRules : Type 0
LawsGiveRules = (signature : Signature) (laws : List GroundLaw) → AreLawsFor signature laws → (horizon : ℕ) → GiveRules signature laws horizon
