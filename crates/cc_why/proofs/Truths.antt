-- Terms, parts and rules at their steps of a row.
use Rattle.std.proofs.Common.{◌≡◌, ◌∙◌, ℕ, ◌+◌, ◌*◌, Bool, true, false, not, ◌&&◌, ◌||◌, List, drop, Option, Some, None, refl, sym, ap, subst}
use Rattle.std.specs.Prelude.{slice_index}
use Rattle.std.specs.Bool.{beq}
use Rattle.std.proofs.lemmas.List.{get_or-drop}
use Rattle.cc_defs.specs.Terms.{Ground, Operands, postfix, truth, all_true, any_true}
use Rattle.cc_defs.specs.Terms as terms
use Rattle.cc_defs.specs.TimedRules.{joined_parts, moved, moved_operands}
use Rattle.cc_defs.specs.TimedRules as timed
use Rattle.cc_theory.specs.Completion.{holds}
use Rattle.cc_theory.specs.declared.rule.Timed.{Timed}
use Rattle.cc_theory.specs.declared.rule.TimedHead.{TimedHead}
use Rattle.cc_theory.specs.declared.rule.TimedHead.TheVariants as timed_heads
use Rattle.cc_theory.specs.declared.rule.TimedRule.{TimedRule}
use Rattle.cc_theory.specs.Theories.{IsBody, IsPart, IsRuleOf, plain_head}
use Rattle.cc_why.specs.Meeting.{has_head, meets}

-- ---- a term at a step

module _ (v : ℕ → ℕ) (by : ℕ) where
  mutual
    moved_truth : (term : Ground) → truth v (moved by term) ≡ truth (λ constant. v (by + constant)) term
    moved_truth terms.Truth = refl
    moved_truth terms.Falsehood = refl
    moved_truth (terms.Atom constant value) = refl
    moved_truth (terms.Not f) = ap not (moved_truth f)
    moved_truth (terms.All operands) = moved_all operands
    moved_truth (terms.Any operands) = moved_any operands
    moved_truth (terms.Same f g) =
        ap (λ (b : Bool). beq b (truth v (moved by g))) (moved_truth f) ∙ ap (λ (b : Bool). beq (truth (λ constant. v (by + constant)) f) b) (moved_truth g)

    moved_all : (operands : Operands) → all_true v (moved_operands by operands) ≡ all_true (λ constant. v (by + constant)) operands
    moved_all terms.nothing = refl
    moved_all (terms.and_then operands last) =
        ap (λ (b : Bool). b && truth v (moved by last)) (moved_all operands) ∙ ap (λ (b : Bool). all_true (λ constant. v (by + constant)) operands && b) (moved_truth last)

    moved_any : (operands : Operands) → any_true v (moved_operands by operands) ≡ any_true (λ constant. v (by + constant)) operands
    moved_any terms.nothing = refl
    moved_any (terms.and_then operands last) =
        ap (λ (b : Bool). b || truth v (moved by last)) (moved_any operands) ∙ ap (λ (b : Bool). any_true (λ constant. v (by + constant)) operands || b) (moved_truth last)

-- the truth of a term over the indexes from a place on
pub truth_from : (row part : List ℕ) (start : ℕ) (term : Ground) → part ≡ drop start row → truth (λ number. slice_index part number) term ≡ holds row (moved start term)
truth_from row part start term is =
    ap (λ (p : List ℕ). truth (λ number. slice_index p number) term) is
    ∙ ap (λ (v : ℕ → ℕ). truth v term) (λ i number. get_or-drop start row number 0 i)
    ∙ sym (moved_truth (λ position. slice_index row position) start term)

-- ---- parts and bodies

and_true : (b : Bool) → b ≡ (b && true)
and_true true = refl
and_true false = refl

joined_truth : (v : ℕ → ℕ) (now before : Ground) → truth v (joined_parts now before) ≡ (truth v now && truth v before)
joined_truth v terms.Truth before = refl
joined_truth v now terms.Truth = and_true (truth v now)
joined_truth v now before = refl

module _ (row : List ℕ) (stride : ℕ) where
  pub part_there : (given : Timed) (part : Option Timed) (result : Bool) → part ≡ Some given →
      ((term : Ground) → given.nodes.now ≡ postfix term → result ≡ holds row (moved (given.step * stride) term)) →
      (meant : Ground) → IsPart stride part meant → result ≡ holds row meant
  part_there given part result is told meant there =
      let p = subst (λ (o : Option Timed). IsPart stride o meant) is there in
      told p.0 p.1 ∙ ap (holds row) (sym p.2)

  pub part_missing : (part : Option Timed) → part ≡ None → (meant : Ground) → IsPart stride part meant → true ≡ holds row meant
  part_missing part is meant there = ap (holds row) (sym (subst (λ (o : Option Timed). IsPart stride o meant) is there))

  -- a result for a part is its truth
  abbrev pub Tells : Option Timed → Bool → Type 0
  Tells part result = (meant : Ground) → IsPart stride part meant → result ≡ holds row meant

  -- the body of both parts
  both_tell : (head : TimedHead) (given : Timed) (before : Option Timed) (body : Ground) → IsBody stride head (Some given) before body →
      (first second : Ground) × IsPart stride (Some given) first × IsPart stride before second × (holds row body ≡ (holds row first && holds row second))
  both_tell head given before body is = (is.0, is.1, is.2, is.3, ap (holds row) is.4 ∙ joined_truth (λ position. slice_index row position) is.0 is.1)

  both_of : (rule : TimedRule) (given : Timed) → rule.now ≡ Some given → (meant : timed.TimedRule) → IsRuleOf stride rule meant →
      (first second : Ground) × IsPart stride rule.now first × IsPart stride rule.before second × (holds row meant.body ≡ (holds row first && holds row second))
  both_of rule given is meant of =
      let parts = both_tell rule.head given rule.before meant.body (subst (λ (o : Option Timed). IsBody stride rule.head o rule.before meant.body) is of.body) in
      (parts.0, parts.1, subst (λ (o : Option Timed). IsPart stride o parts.0) (sym is) parts.2, parts.3, parts.4)

  true_and : (a b result : Bool) → true ≡ a → result ≡ b → result ≡ (a && b)
  true_and true b result e is = is
  true_and false b result e is = absurd cc

  false_and : (a b : Bool) → false ≡ a → false ≡ (a && b)
  false_and true b e = absurd cc
  false_and false b e = refl

  -- the first part is true, and the second is as it was found
  pub parts_tell : (rule : TimedRule) (given : Timed) (first second : Bool) → rule.now ≡ Some given → first ≡ true → Tells rule.now first → Tells rule.before second →
      (meant : timed.TimedRule) → IsRuleOf stride rule meant → second ≡ holds row meant.body
  parts_tell rule given first second is so tell tell_before meant of =
      let parts = both_of rule given is meant of in
      true_and (holds row parts.0) (holds row parts.1) second (sym so ∙ tell parts.0 parts.2) (tell_before parts.1 parts.3) ∙ sym parts.4

  -- the first part is false
  pub parts_fail : (rule : TimedRule) (given : Timed) (first : Bool) → rule.now ≡ Some given → first ≡ false → Tells rule.now first →
      (meant : timed.TimedRule) → IsRuleOf stride rule meant → first ≡ holds row meant.body
  parts_fail rule given first is fails tell meant of =
      let parts = both_of rule given is meant of in
      fails ∙ false_and (holds row parts.0) (holds row parts.1) (sym fails ∙ tell parts.0 parts.2) ∙ sym parts.4

  -- where both are missing, of the head's atom
  atom_tells : (head : TimedHead) (before : Option Timed) (body : Ground) → IsBody stride head None before body → has_head row (plain_head head) ≡ holds row body
  atom_tells (timed_heads.Atom position value) None body is = ap (holds row) (sym is)
  atom_tells timed_heads.Falsity None body is = absurd is
  atom_tells head (Some before) body is = absurd is

  pub head_tells : (rule : TimedRule) (result : Bool) → rule.now ≡ None → result ≡ has_head row (plain_head rule.head) →
      (meant : timed.TimedRule) → IsRuleOf stride rule meant → result ≡ holds row meant.body
  head_tells rule result is told meant of =
      told ∙ atom_tells rule.head rule.before meant.body (subst (λ (o : Option Timed). IsBody stride rule.head o rule.before meant.body) is of.body)

  -- ---- rules

  abbrev pub TellsBody : TimedRule → Bool → Type 0
  TellsBody rule result = (meant : timed.TimedRule) → IsRuleOf stride rule meant → result ≡ holds row meant.body

  pub rule_met : (rule : TimedRule) (body head : Bool) → TellsBody rule body → head ≡ has_head row (plain_head rule.head) →
      (meant : timed.TimedRule) → IsRuleOf stride rule meant → (not body || head) ≡ meets row meant
  rule_met rule body head tells told meant of =
      ap (λ (b : Bool). not b || head) (tells meant of) ∙ ap (λ (b : Bool). not (holds row meant.body) || b) (told ∙ ap (has_head row) of.head)
