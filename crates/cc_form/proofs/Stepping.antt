-- The bodies of rules step by step: those of a step are those of a step of a horizon of two, renamed.
use Rattle.std.proofs.Common.{Bor, sum, inl, inr, ◌≡◌, ◌∙◌, ℕ, zero, suc, ◌+◌, ◌-◌, ◌*◌, ◌<◌, ◌≤◌, Bool, true, false, List, [], ◌∷◌, ◌++◌, length, map, flat_map, nat_lt, Option, Some, None, refl, sym, ap, subst, arith, append_assoc, append-nil, option_map}
use Rattle.std.specs.Prelude.{if◌then◌else◌, slice_index_or}
use Rattle.std.specs.List.{AllByRecursion}
use Rattle.std.proofs.Math.Nat.{add-mul}
use Rattle.std.proofs.lemmas.Bool.{cases_lt, lt-ltb, le-ltb}
use Rattle.std.proofs.lemmas.List.{map-append}
use Rattle.std.proofs.lemmas.List.Concat.{flat_map-append}
use Rattle.cc_arena.specs.declared.ground_laws.GroundLaw.{GroundLaw}
use Rattle.cc_defs.specs.declared.node.GroundHead.{GroundHead}
use Rattle.cc_defs.specs.declared.node.GroundHead.TheVariants as heads
use Rattle.cc_defs.specs.declared.node.Node.{Node}
use Rattle.cc_defs.specs.declared.node.Node.TheVariants as nodes
use Rattle.cc_defs.specs.declared.signature.Const.{Const}
use Rattle.cc_defs.specs.declared.signature.Kind.{Kind}
use Rattle.cc_defs.specs.declared.signature.Kind.TheVariants as kinds
use Rattle.cc_defs.specs.declared.signature.LawKind.{LawKind}
use Rattle.cc_defs.specs.declared.signature.LawKind.TheVariants as law_kinds
use Rattle.cc_defs.specs.ClauseForms.{atom_variable, positive, true_variable}
use Rattle.cc_defs.specs.ClauseLists.{Bodied, MadeRules, is_certain}
use Rattle.cc_defs.specs.Clauses.{Literal}
use Rattle.cc_defs.specs.Rules.{upto}
use Rattle.cc_defs.specs.Signatures.{Signature}
use Rattle.cc_defs.specs.Terms.{Fits}
use Rattle.cc_theory.specs.declared.rule.Timed.{Timed}
use Rattle.cc_theory.specs.declared.rule.TimedHead.{TimedHead}
use Rattle.cc_theory.specs.declared.rule.TimedHead.TheVariants as timed_heads
use Rattle.cc_theory.specs.declared.rule.TimedRule.{TimedRule}
use Rattle.cc_theory.specs.Making.{all_initial, head_at, initial_of, initial_rule, rule_at, rule_of, rule_of_kind, rules_at_step, rules_for, rules_in, stride_of}
use Rattle.cc_theory.specs.Theories.{GiveRules, plain_head}
use Rattle.cc_form.specs.Machine.{made_nodes, plain_made}
use Rattle.cc_form.specs.Making.{IsBodyOver, body_of, head_nodes, made_bodies, made_rule}
use Rattle.cc_form.specs.Moving.{renamed_bodied, renamed_rules, rule_behind, timed_behind, timed_head_behind}
use Rattle.cc_form.specs.Places.{position_sizes}
use Rattle.cc_form.specs.Steps.{bodies_at, move_at, moved_variable, own_variables, step_bodies, truth_at}
use Rattle.cc_form.proofs.Behind.{bodies_renamed}
use Rattle.cc_form.proofs.Bodies.{bodies_rise}
use Rattle.cc_form.proofs.Causes.{all_left, all_right}
use Rattle.cc_form.proofs.Placing.{each, first_later, moved_high, moved_low, moved_rises, moved_truth, sized_later, sums_below}
use Rattle.cc_form.proofs.Positions.{atom_below}
use Rattle.cc_form.proofs.Standing.{rules_stand}

-- ---- lists by steps

pub flat_last : {X : Type 0} (f : ℕ → List X) (n : ℕ) → flat_map f (upto (suc n)) ≡ flat_map f (upto n) ++ f n
flat_last f n = flat_map-append f (upto n) (n ∷ []) ∙ ap (λ l. flat_map f (upto n) ++ l) (append-nil (f n))

pub all_at : {X : Type 0} (P : X → Type 0) (f : ℕ → List X) (n k : ℕ) → k < n → AllByRecursion P (flat_map f (upto n)) → AllByRecursion P (f k)
all_at P f zero k less all = absurd (omega arith)
all_at P f (suc n) k less all =
    let split = subst (AllByRecursion P) (flat_last f n) all in
    elim (cases_lt k n) [
      | inl below ↦ all_at P f n k below (all_left P (flat_map f (upto n)) (f n) split)
      | inr most ↦ subst (λ (i : ℕ). AllByRecursion P (f i)) (let e : n ≡ k = omega arith in e) (all_right P (flat_map f (upto n)) (f n) split)
    ]

-- ---- rules of later steps

-- a step of a horizon that is like one of a horizon of two
pub record IsLike (m d k : ℕ) : Type 0 where
  pub most : d + 2 ≤ m
  pub within : k ≤ 2
  pub last : nat_lt (d + k) m ≡ nat_lt k 2

pub like_early : (m d k : ℕ) → d + 2 ≤ m → k < 2 → IsLike m d k
like_early m d k most less = record { most = most; within = omega arith; last = lt-ltb (d + k) m (omega arith) ∙ sym (lt-ltb k 2 less) }

pub like_last : (m d : ℕ) → d + 2 ≡ m → IsLike m d 2
like_last m d is = record { most = omega arith; within = omega arith; last = le-ltb (d + 2) m (omega arith) ∙ sym (le-ltb 2 2 (omega arith)) }

module _ (stride d : ℕ) where
  head_later : (now : ℕ) (head : GroundHead) → head_at stride (d + now) head ≡ timed_head_behind (d * stride) (head_at stride now head)
  head_later now (heads.Atom constant value) =
      ap (λ (n : ℕ). timed_heads.Atom n value) (let turned = add-mul d now stride in let e : (d + now) * stride + constant ≡ d * stride + (now * stride + constant) = omega arith in e)
  head_later now heads.Falsity = refl

  rule_later : (law : GroundLaw) (now before : ℕ) → rule_of stride law (d + now) (d + before) ≡ rule_behind stride d (rule_of stride law now before)
  rule_later law now before =
      ap (λ (h : TimedHead). let r : TimedRule = record { head = h; now = Some (record { step = d + now; nodes = law.body }); before = option_map (λ nodes. record { step = d + before; nodes = nodes }) law.after } in r) (head_later now law.head)
      ∙ ap (λ (p : Option Timed). let r : TimedRule = record { head = timed_head_behind (d * stride) (head_at stride now law.head); now = Some (record { step = d + now; nodes = law.body }); before = p } in r) (part law.after)
    where
      part : (after : Option (Bor (List Node))) → option_map (λ nodes. let t : Timed = record { step = d + before; nodes = nodes } in t) after ≡ option_map (timed_behind d) (option_map (λ nodes. let t : Timed = record { step = before; nodes = nodes } in t) after)
      part None = refl
      part (Some nodes) = refl

  module _ (m n k : ℕ) (last : nat_lt (d + k) m ≡ nat_lt k n) where
    kind_later : (kind : LawKind) (law : GroundLaw) → rule_of_kind kind stride m (d + k) law ≡ option_map (rule_behind stride d) (rule_of_kind kind stride n k law)
    kind_later law_kinds.Static law = ap Some (rule_later law k k)
    kind_later law_kinds.ActionDynamic law =
        ap (λ (b : Bool). if b then Some (rule_of stride law (d + k) (d + k)) else None) last ∙ ap (λ (r : TimedRule). if nat_lt k n then Some r else None) (rule_later law k k)
        ∙ chosen (nat_lt k n) (rule_of stride law k k)
      where
        chosen : (b : Bool) (rule : TimedRule) → (if b then Some (rule_behind stride d rule) else None) ≡ option_map (rule_behind stride d) (if b then Some rule else None)
        chosen true rule = refl
        chosen false rule = refl
    kind_later law_kinds.FluentDynamic law =
        ap (λ (b : Bool). if b then Some (rule_of stride law (d + k + 1) (d + k)) else None) last
        ∙ ap (λ (i : ℕ). if nat_lt k n then Some (rule_of stride law i (d + k)) else None) (let e : d + k + 1 ≡ d + (k + 1) = omega arith in e)
        ∙ ap (λ (r : TimedRule). if nat_lt k n then Some r else None) (rule_later law (k + 1) k) ∙ chosen (nat_lt k n) (rule_of stride law (k + 1) k)
      where
        chosen : (b : Bool) (rule : TimedRule) → (if b then Some (rule_behind stride d rule) else None) ≡ option_map (rule_behind stride d) (if b then Some rule else None)
        chosen true rule = refl
        chosen false rule = refl

    in_list : (rule : Option TimedRule) → rules_in (option_map (rule_behind stride d) rule) ≡ map (rule_behind stride d) (rules_in rule)
    in_list None = refl
    in_list (Some rule) = refl

    pub rules_later : (laws : List GroundLaw) → rules_at_step stride laws m (d + k) ≡ map (rule_behind stride d) (rules_at_step stride laws n k)
    rules_later [] = refl
    rules_later (law ∷ laws) =
        ap (λ (r : List TimedRule). r ++ rules_at_step stride laws m (d + k)) (ap rules_in (kind_later law.kind law) ∙ in_list (rule_at stride n k law))
        ∙ ap (λ (r : List TimedRule). map (rule_behind stride d) (rules_in (rule_at stride n k law)) ++ r) (rules_later laws)
        ∙ sym (map-append (rule_behind stride d) (rules_in (rule_at stride n k law)) (rules_at_step stride laws n k))

-- ---- lists of rules one behind another

abbrev pub joined_rules : MadeRules → MadeRules → MadeRules
joined_rules one other = record { rules = one.rules ++ other.rules; last = other.last; clauses = one.clauses ++ other.clauses }

made_two : (sizes : List ℕ) (stride last : ℕ) (xs ys : List TimedRule) →
    made_bodies sizes stride last (xs ++ ys) ≡ joined_rules (made_bodies sizes stride last xs) (made_bodies sizes stride (made_bodies sizes stride last xs).last ys)
made_two sizes stride last [] ys = refl
made_two sizes stride last (rule ∷ xs) ys =
    let m = made_rule sizes stride last rule in
    let b : Bodied = record { head = plain_head rule.head; body = m.literal } in
    let one = made_bodies sizes stride m.last xs in
    let other = made_bodies sizes stride one.last ys in
    ap (λ (o : MadeRules). let r : MadeRules = record { rules = b ∷ o.rules; last = o.last; clauses = m.clauses ++ o.clauses } in r) (made_two sizes stride m.last xs ys)
    ∙ ap (λ (c : List (List Literal)). let r : MadeRules = record { rules = b ∷ one.rules ++ other.rules; last = other.last; clauses = c } in r) (sym (append_assoc m.clauses one.clauses other.clauses))

-- ---- initial rules

abbrev IsPlain : TimedRule → Type 0
IsPlain rule = rule.now ≡ None

plain_mapped : (number : ℕ) (xs : List ℕ) → AllByRecursion IsPlain (map (initial_rule number) xs)
plain_mapped number [] = tt
plain_mapped number (x ∷ xs) = (refl, plain_mapped number xs)

plain_two : (xs ys : List TimedRule) → AllByRecursion IsPlain xs → AllByRecursion IsPlain ys → AllByRecursion IsPlain (xs ++ ys)
plain_two [] ys h k = k
plain_two (x ∷ xs) ys h k = (h.0, plain_two xs ys h.1 k)

plain_of : (kind : Kind) (number size : ℕ) → AllByRecursion IsPlain (initial_of kind number size)
plain_of kinds.Simple number size = plain_mapped number (upto size)
plain_of kinds.Determined number size = tt
plain_of kinds.Action number size = tt

pub initial_plain : (number : ℕ) (constants : List Const) → AllByRecursion IsPlain (all_initial number constants)
initial_plain number [] = tt
initial_plain number (c ∷ constants) = plain_two (initial_of c.kind number (length c.domain)) (all_initial (number + 1) constants) (plain_of c.kind number (length c.domain)) (initial_plain (number + 1) constants)

module _ (sizes : List ℕ) (stride : ℕ) where
  pub record IsIdle (last : ℕ) (made : MadeRules) : Type 0 where
    pub ends : made.last ≡ last
    pub none : made.clauses ≡ []

  idle_rule : (last : ℕ) (head : TimedHead) (now before : Option Timed) → now ≡ None →
      (let made = if is_certain sizes (plain_head head) then plain_made (positive (true_variable sizes)) last else made_nodes sizes last (body_of stride head now before) in (made.last ≡ last) × (made.clauses ≡ []))
  idle_rule last head (Some now) before is = absurd cc
  idle_rule last (timed_heads.Atom position value) None before is = chosen (is_certain sizes (heads.Atom position value))
    where
      chosen : (b : Bool) → (let made = if b then plain_made (positive (true_variable sizes)) last else made_nodes sizes last (head_nodes (timed_heads.Atom position value)) in (made.last ≡ last) × (made.clauses ≡ []))
      chosen true = (refl, refl)
      chosen false = (refl, refl)
  idle_rule last timed_heads.Falsity None before is = (refl, refl)

  pub idle : (last : ℕ) (rules : List TimedRule) → AllByRecursion IsPlain rules → IsIdle last (made_bodies sizes stride last rules)
  idle last [] plain = record { ends = refl; none = refl }
  idle last (rule ∷ rules) plain =
      let m = made_rule sizes stride last rule in
      let one = idle_rule last rule.head rule.now rule.before plain.0 in
      let more = idle m.last rules plain.1 in
      record {
        ends = more.ends ∙ one.0;
        none = ap (λ (c : List (List Literal)). c ++ (made_bodies sizes stride m.last rules).clauses) one.1 ∙ more.none;
      }

-- they are at the first step of each horizon
module _ (stride : ℕ) where
  same_mapped : (number : ℕ) (xs : List ℕ) → map (initial_rule number) xs ≡ map (rule_behind stride 0) (map (initial_rule number) xs)
  same_mapped number [] = refl
  same_mapped number (x ∷ xs) =
      ap (λ (n : ℕ). let r : TimedRule = record { head = timed_heads.Atom n x; now = None; before = None } in r ∷ map (initial_rule number) xs) (let e : number ≡ 0 * stride + number = omega arith in e)
      ∙ ap (λ (l : List TimedRule). rule_behind stride 0 (initial_rule number x) ∷ l) (same_mapped number xs)

  same_of : (kind : Kind) (number size : ℕ) → initial_of kind number size ≡ map (rule_behind stride 0) (initial_of kind number size)
  same_of kinds.Simple number size = same_mapped number (upto size)
  same_of kinds.Determined number size = refl
  same_of kinds.Action number size = refl

  initial_same : (number : ℕ) (constants : List Const) → all_initial number constants ≡ map (rule_behind stride 0) (all_initial number constants)
  initial_same number [] = refl
  initial_same number (c ∷ constants) =
      ap (λ (l : List TimedRule). l ++ all_initial (number + 1) constants) (same_of c.kind number (length c.domain))
      ∙ ap (λ (l : List TimedRule). map (rule_behind stride 0) (initial_of c.kind number (length c.domain)) ++ l) (initial_same (number + 1) constants)
      ∙ sym (map-append (rule_behind stride 0) (initial_of c.kind number (length c.domain)) (all_initial (number + 1) constants))

-- ---- steps of a longer horizon

module _ (signature : Signature) (laws : List GroundLaw) (give : GiveRules signature laws 2) where
  abbrev P : ℕ → List ℕ
  P horizon = position_sizes signature horizon

  abbrev S : ℕ
  S = stride_of signature

  abbrev V : ℕ
  V = sum (each signature)

  abbrev K : ℕ
  K = own_variables signature laws

  abbrev T : ℕ → ℕ
  T horizon = truth_at signature horizon

  abbrev pub M : ℕ → ℕ → MadeRules
  M horizon step = step_bodies signature laws K horizon step

  abbrev pub name : ℕ → ℕ → ℕ → ℕ
  name m d variable = moved_variable (move_at signature laws m d) variable

  abbrev pub high : ℕ → ℕ → ℕ
  high m d = T m - T 2 + d * K

  pub low_middle : (m d : ℕ) → d + 2 ≤ m → d * V ≤ T m - T 2
  low_middle m d most = let below = sums_below signature d m most in omega arith

  pub name_rises : (m d : ℕ) → d + 2 ≤ m → (a b : ℕ) → a < b → name m d a < name m d b
  name_rises m d most = moved_rises (move_at signature laws m d) (low_middle m d most) (omega arith)

  truth_named : (m d : ℕ) → d + 2 ≤ m → name m d (T 2) ≡ T m
  truth_named m d most = let is = moved_truth (move_at signature laws m d) (T 2) refl in let below = sums_below signature d m most in omega arith

  own_named : (m d n : ℕ) → T 2 ≤ n → name m d (n + 1) ≡ n + high m d + 1
  own_named m d n most = let is = moved_high (move_at signature laws m d) (n + 1) (omega arith) in omega arith

  pub atom_named : (m d : ℕ) → d + 2 ≤ m → (position value : ℕ) → Fits (P 2) (nodes.Atom position value) → atom_variable (P m) (d * S + position) value ≡ name m d (atom_variable (P 2) position value)
  atom_named m d most position value fits =
      let first = first_later signature d m position fits.0 most fits.1 in
      let is = moved_low (move_at signature laws m d) (atom_variable (P 2) position value) (atom_below (P 2) position value fits) in
      omega arith

  sized_named : (m d : ℕ) → d + 2 ≤ m → (position value : ℕ) → Fits (P 2) (nodes.Atom position value) → slice_index_or (P m) (d * S + position) 0 ≡ slice_index_or (P 2) position 0
  sized_named m d most position value fits = sized_later signature d m position fits.0 most fits.1

  all_fit : AllByRecursion (IsBodyOver (P 2) S) (all_initial 0 signature.fluents ++ flat_map (rules_at_step S laws 2) (upto (2 + 1)))
  all_fit = rules_stand signature 2 (rules_for signature laws 2) (omega arith) give.fit

  pub initial_fit : AllByRecursion (IsBodyOver (P 2) S) (all_initial 0 signature.fluents)
  initial_fit = all_left (IsBodyOver (P 2) S) (all_initial 0 signature.fluents) (flat_map (rules_at_step S laws 2) (upto (2 + 1))) all_fit

  pub step_fit : (k : ℕ) → k ≤ 2 → AllByRecursion (IsBodyOver (P 2) S) (rules_at_step S laws 2 k)
  step_fit k within =
      all_at (IsBodyOver (P 2) S) (rules_at_step S laws 2) (2 + 1) k (omega arith)
      (all_right (IsBodyOver (P 2) S) (all_initial 0 signature.fluents) (flat_map (rules_at_step S laws 2) (upto (2 + 1))) all_fit)

  later_renamed : (m d : ℕ) → d + 2 ≤ m → (rules : List TimedRule) (last : ℕ) → AllByRecursion (IsBodyOver (P 2) S) rules → T 2 ≤ last →
      made_bodies (P m) S (last + high m d) (map (rule_behind S d) rules) ≡ renamed_rules (name m d) (high m d) (d * S) (made_bodies (P 2) S last rules)
  later_renamed m d most =
      bodies_renamed (name m d) (name_rises m d most) (P 2) (P m) S d (high m d) (truth_named m d most) (λ n least. own_named m d n least) (atom_named m d most) (sized_named m d most)

  pub step_renamed : (m d k : ℕ) → IsLike m d k → M m (d + k) ≡ renamed_rules (name m d) (high m d) (d * S) (M 2 k)
  step_renamed m d k like =
      ap (made_bodies (P m) S (T m + (d + k) * K)) (rules_later S d m 2 k like.last laws)
      ∙ ap (λ (n : ℕ). made_bodies (P m) S n (map (rule_behind S d) (rules_at_step S laws 2 k)))
      (let turned = add-mul d k K in let below = sums_below signature d m like.most in let e : T m + (d + k) * K ≡ T 2 + k * K + high m d = omega arith in e)
      ∙ later_renamed m d like.most (rules_at_step S laws 2 k) (T 2 + k * K)
      (step_fit k like.within)
      (omega arith)

  -- ---- where steps end

  first_ends : (M 2 0).last ≡ T 2 + K
  first_ends =
      let same : (M 2 0).last ≡ (step_bodies signature laws 0 2 0).last = ap (λ (n : ℕ). (made_bodies (P 2) S n (rules_at_step S laws 2 0)).last) (let e : T 2 + 0 * K ≡ T 2 + 0 * 0 = omega arith in e) in
      let up = bodies_rise (P 2) S (T 2 + 0 * 0) (rules_at_step S laws 2 0) in
      omega arith

  -- by a horizon of three: its second step is like the first and like the second of two
  second_ends : (M 2 1).last ≡ T 2 + 2 * K
  second_ends =
      let one : (M 3 (1 + 0)).last ≡ (M 2 0).last + high 3 1 = ap (λ (r : MadeRules). r.last) (step_renamed 3 1 0 (like_early 3 1 0 (omega arith) (omega arith))) in
      let other : (M 3 (0 + 1)).last ≡ (M 2 1).last + high 3 0 = ap (λ (r : MadeRules). r.last) (step_renamed 3 0 1 (like_early 3 0 1 (omega arith) (omega arith))) in
      let same : (M 3 (1 + 0)).last ≡ (M 3 (0 + 1)).last = ap (λ (n : ℕ). (M 3 n).last) (let e : 1 + 0 ≡ 0 + 1 = omega arith in e) in
      let ends = first_ends in
      omega arith

  pub step_ends : (m i : ℕ) → 2 ≤ m → i < m → (M m i).last ≡ T m + suc i * K
  step_ends m i most less = elim (cases_lt (i + 1) m) [
    | inl early ↦
        let is : (M m (i + 0)).last ≡ (M 2 0).last + high m i = ap (λ (r : MadeRules). r.last) (step_renamed m i 0 (like_early m i 0 (omega arith) (omega arith))) in
        let same : (M m (i + 0)).last ≡ (M m i).last = ap (λ (n : ℕ). (M m n).last) (let e : i + 0 ≡ i = omega arith in e) in
        let below = sums_below signature i m (omega arith) in
        let ends = first_ends in
        let turned = counted in
        omega arith
    | inr late ↦
        let d = m - 2 in
        let is : (M m (d + 1)).last ≡ (M 2 1).last + high m d = ap (λ (r : MadeRules). r.last) (step_renamed m d 1 (like_early m d 1 (omega arith) (omega arith))) in
        let same : (M m (d + 1)).last ≡ (M m i).last = ap (λ (n : ℕ). (M m n).last) (let e : d + 1 ≡ i = omega arith in e) in
        let below = sums_below signature d m (omega arith) in
        let ends = second_ends in
        let all : suc i * K ≡ d * K + 2 * K = ap (λ (n : ℕ). n * K) (let e : suc i ≡ d + 2 = omega arith in e) ∙ add-mul d 2 K in
        omega arith
  ]
    where
      counted : suc i * K ≡ i * K + 1 * K
      counted = ap (λ (n : ℕ). n * K) (let e : suc i ≡ i + 1 = omega arith in e) ∙ add-mul i 1 K

  -- ---- all rules, step by step

  abbrev by_steps : ℕ → ℕ → ℕ → MadeRules
  by_steps m n last = record { rules = flat_map (λ i. (M m i).rules) (upto n); last = last; clauses = flat_map (λ i. (M m i).clauses) (upto n) }

  one_step : (m n : ℕ) → made_bodies (P m) S (T m) (flat_map (rules_at_step S laws m) (upto n)) ≡ by_steps m n (T m + n * K) →
      made_bodies (P m) S (T m) (flat_map (rules_at_step S laws m) (upto (suc n))) ≡ by_steps m (suc n) (M m n).last
  one_step m n before =
      let f = rules_at_step S laws m in
      ap (made_bodies (P m) S (T m)) (flat_last f n) ∙ made_two (P m) S (T m) (flat_map f (upto n)) (f n)
      ∙ ap (λ (r : MadeRules). joined_rules r (made_bodies (P m) S r.last (f n))) before
      ∙ ap (λ (l : List Bodied). let r : MadeRules = record { rules = l; last = (M m n).last; clauses = flat_map (λ i. (M m i).clauses) (upto n) ++ (M m n).clauses } in r) (sym (flat_last (λ i. (M m i).rules) n))
      ∙ ap (λ (c : List (List Literal)). let r : MadeRules = record { rules = flat_map (λ i. (M m i).rules) (upto (suc n)); last = (M m n).last; clauses = c } in r) (sym (flat_last (λ i. (M m i).clauses) n))

  first_steps : (m n : ℕ) → 2 ≤ m → n ≤ m → made_bodies (P m) S (T m) (flat_map (rules_at_step S laws m) (upto n)) ≡ by_steps m n (T m + n * K)
  first_steps m zero some most = ap (by_steps m 0) (let e : T m ≡ T m + 0 * K = omega arith in e)
  first_steps m (suc n) some most = one_step m n (first_steps m n some (omega arith)) ∙ ap (by_steps m (suc n)) (step_ends m n some (omega arith))

  -- initial rules
  abbrev pub I : ℕ → List Bodied
  I m = (made_bodies (P m) S (T m) (all_initial 0 signature.fluents)).rules

  pub bodies_are : (m : ℕ) → 2 ≤ m → bodies_at signature laws m ≡ record { rules = I m ++ flat_map (λ i. (M m i).rules) (upto (suc m)); last = (M m m).last; clauses = flat_map (λ i. (M m i).clauses) (upto (suc m)) }
  bodies_are m some =
      let f = rules_at_step S laws m in
      let initial = made_bodies (P m) S (T m) (all_initial 0 signature.fluents) in
      let still = idle (P m) S (T m) (all_initial 0 signature.fluents) (initial_plain 0 signature.fluents) in
      made_two (P m) S (T m) (all_initial 0 signature.fluents) (flat_map f (upto (m + 1)))
      ∙ ap (λ (n : ℕ). joined_rules initial (made_bodies (P m) S n (flat_map f (upto (m + 1))))) still.ends
      ∙ ap (λ (n : ℕ). joined_rules initial (made_bodies (P m) S (T m) (flat_map f (upto n)))) (let e : m + 1 ≡ suc m = omega arith in e)
      ∙ ap (joined_rules initial) (one_step m m (first_steps m m some (omega arith)))
      ∙ ap (λ (c : List (List Literal)). let r : MadeRules = record { rules = I m ++ flat_map (λ i. (M m i).rules) (upto (suc m)); last = (M m m).last; clauses = c ++ flat_map (λ i. (M m i).clauses) (upto (suc m)) } in r) still.none

  pub initial_renamed : (m : ℕ) → 2 ≤ m → I m ≡ map (renamed_bodied (name m 0) (0 * S)) (I 2)
  initial_renamed m some =
      let below = sums_below signature 0 m (omega arith) in
      let start : T m ≡ T 2 + high m 0 = omega arith in
      ap (λ (n : ℕ). (made_bodies (P m) S n (all_initial 0 signature.fluents)).rules) start
      ∙ ap (λ (l : List TimedRule). (made_bodies (P m) S (T 2 + high m 0) l).rules) (initial_same S 0 signature.fluents)
      ∙ ap (λ (r : MadeRules). r.rules) (later_renamed m 0 (omega arith) (all_initial 0 signature.fluents) (T 2)
      initial_fit (omega arith))
