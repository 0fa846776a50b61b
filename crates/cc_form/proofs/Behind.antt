-- The bodies of rules that stand some steps later.
use Rattle.std.proofs.Common.{◌≡◌, ◌∙◌, ℕ, ◌+◌, ◌*◌, ◌<◌, ◌≤◌, Bool, true, false, List, [], ◌∷◌, ◌++◌, map, Option, Some, None, refl, sym, ap, subst, arith, option_map}
use Rattle.std.specs.Prelude.{if◌then◌else◌, ◌==◌, slice_index_or}
use Rattle.std.specs.List.{AllByRecursion}
use Rattle.std.proofs.Math.Nat.{add-mul}
use Rattle.std.proofs.lemmas.List.{map-append}
use Rattle.cc_defs.specs.declared.node.GroundHead.{GroundHead}
use Rattle.cc_defs.specs.declared.node.Node.{Node}
use Rattle.cc_defs.specs.declared.node.Node.TheVariants as nodes
use Rattle.cc_defs.specs.ClauseForms.{Made, atom_variable, positive, true_variable}
use Rattle.cc_defs.specs.ClauseLists.{MadeRules, is_certain}
use Rattle.cc_defs.specs.Clauses.{Literal}
use Rattle.cc_defs.specs.Terms.{Fits, IsTermOver}
use Rattle.cc_defs.specs.TimedRules.{moved}
use Rattle.cc_theory.specs.declared.rule.Timed.{Timed}
use Rattle.cc_theory.specs.declared.rule.TimedHead.{TimedHead}
use Rattle.cc_theory.specs.declared.rule.TimedHead.TheVariants as timed_heads
use Rattle.cc_theory.specs.declared.rule.TimedRule.{TimedRule}
use Rattle.cc_theory.specs.Theories.{plain_head}
use Rattle.cc_form.specs.Machine.{made_nodes, moved_node, moved_nodes, plain_made}
use Rattle.cc_form.specs.Making.{IsBodyOver, body_nodes, body_of, head_nodes, is_true_node, is_truth, joined_nodes, made_bodies, made_rule, part_nodes}
use Rattle.cc_form.specs.Moving.{head_behind, renamed, renamed_bodied, renamed_clauses, renamed_made, renamed_rules, rule_behind, timed_behind, timed_head_behind}
use Rattle.cc_form.proofs.Bodies.{rule_rises}
use Rattle.cc_form.proofs.Causes.{atoms_fit}
use Rattle.cc_form.proofs.Meant.{body_over}
use Rattle.cc_form.proofs.Renaming.{term_renamed}
use Rattle.cc_form.proofs.Running.{made_is}
use Rattle.cc_form.proofs.Standing.{moved_postfix}

-- ---- nodes

node_twice : (a b : ℕ) (node : Node) → moved_node (a + b) node ≡ moved_node a (moved_node b node)
node_twice a b nodes.True = refl
node_twice a b nodes.False = refl
node_twice a b (nodes.Atom constant value) = ap (λ (n : ℕ). nodes.Atom n value) (let e : a + b + constant ≡ a + (b + constant) = omega arith in e)
node_twice a b nodes.Not = refl
node_twice a b (nodes.All count) = refl
node_twice a b (nodes.Any count) = refl
node_twice a b nodes.Same = refl

nodes_twice : (a b : ℕ) (term : List Node) → moved_nodes (a + b) term ≡ moved_nodes a (moved_nodes b term)
nodes_twice a b [] = refl
nodes_twice a b (node ∷ term) = ap (λ (n : Node). n ∷ moved_nodes (a + b) term) (node_twice a b node) ∙ ap (λ (t : List Node). moved_node a (moved_node b node) ∷ t) (nodes_twice a b term)

truth_moved : (by : ℕ) (term : List Node) → is_truth (moved_nodes by term) ≡ is_truth term
truth_moved by [] = refl
truth_moved by (node ∷ more ∷ term) = refl
truth_moved by (node ∷ []) = one node
  where
    one : (node : Node) → is_true_node (moved_node by node) ≡ is_true_node node
    one nodes.True = refl
    one nodes.False = refl
    one (nodes.Atom constant value) = refl
    one nodes.Not = refl
    one (nodes.All count) = refl
    one (nodes.Any count) = refl
    one nodes.Same = refl

joined_moved : (by : ℕ) (now before : List Node) → joined_nodes (moved_nodes by now) (moved_nodes by before) ≡ moved_nodes by (joined_nodes now before)
joined_moved by now before =
    let N = moved_nodes by now in
    let B = moved_nodes by before in
    ap (λ (b : Bool). if b then B else (if is_truth B then N else N ++ B ++ nodes.All 2 ∷ [])) (truth_moved by now)
    ∙ ap (λ (b : Bool). if is_truth now then B else (if b then N else N ++ B ++ nodes.All 2 ∷ [])) (truth_moved by before)
    ∙ ap (λ (t : List Node). if is_truth now then B else (if is_truth before then N else t)) (sym (map-append (moved_node by) (now ++ before) (nodes.All 2 ∷ []) ∙ ap (λ (t : List Node). t ++ nodes.All 2 ∷ []) (map-append (moved_node by) now before)))
    ∙ chosen (is_truth now) (is_truth before)
  where
    chosen : (b c : Bool) → (if b then moved_nodes by before else (if c then moved_nodes by now else moved_nodes by (now ++ before ++ nodes.All 2 ∷ [])))
        ≡ moved_nodes by (if b then before else (if c then now else now ++ before ++ nodes.All 2 ∷ []))
    chosen true c = refl
    chosen false true = refl
    chosen false false = refl

-- ---- rules

module _ (stride steps : ℕ) where
  abbrev by : ℕ
  by = steps * stride

  part_moved : (timed : Timed) → part_nodes stride (timed_behind steps timed) ≡ moved_nodes by (part_nodes stride timed)
  part_moved timed = ap (λ (n : ℕ). moved_nodes n timed.nodes.now) (add-mul steps timed.step stride) ∙ nodes_twice by (timed.step * stride) timed.nodes.now

  head_moved : (head : TimedHead) → head_nodes (timed_head_behind by head) ≡ moved_nodes by (head_nodes head)
  head_moved (timed_heads.Atom position value) = refl
  head_moved timed_heads.Falsity = refl

  pub plain_moved : (head : TimedHead) → plain_head (timed_head_behind by head) ≡ head_behind by (plain_head head)
  plain_moved (timed_heads.Atom position value) = refl
  plain_moved timed_heads.Falsity = refl

  parts_moved : (head : TimedHead) (now before : Option Timed) →
      body_of stride (timed_head_behind by head) (option_map (timed_behind steps) now) (option_map (timed_behind steps) before) ≡ moved_nodes by (body_of stride head now before)
  parts_moved head None None = head_moved head
  parts_moved head None (Some before) = head_moved head
  parts_moved head (Some now) None = part_moved now
  parts_moved head (Some now) (Some before) =
      ap (λ (t : List Node). joined_nodes t (part_nodes stride (timed_behind steps before))) (part_moved now)
      ∙ ap (joined_nodes (moved_nodes by (part_nodes stride now))) (part_moved before) ∙ joined_moved by (part_nodes stride now) (part_nodes stride before)

  pub body_moved : (rule : TimedRule) → body_nodes stride (rule_behind stride steps rule) ≡ moved_nodes by (body_nodes stride rule)
  body_moved rule = parts_moved rule.head rule.now rule.before

-- ---- their bodies

module _ (name : ℕ → ℕ) (rises : (a b : ℕ) → a < b → name a < name b) (sizes others : List ℕ) (stride steps high : ℕ)
    (truth : name (true_variable sizes) ≡ true_variable others) (own : (n : ℕ) → true_variable sizes ≤ n → name (n + 1) ≡ n + high + 1)
    (atoms : (position value : ℕ) → Fits sizes (nodes.Atom position value) → atom_variable others (steps * stride + position) value ≡ name (atom_variable sizes position value))
    (sized : (position value : ℕ) → Fits sizes (nodes.Atom position value) → slice_index_or others (steps * stride + position) 0 ≡ slice_index_or sizes position 0) where
  certain_moved : (head : TimedHead) → IsTermOver sizes (head_nodes head) → is_certain others (head_behind (steps * stride) (plain_head head)) ≡ is_certain sizes (plain_head head)
  certain_moved (timed_heads.Atom position value) is = ap (λ (n : ℕ). n == 1) (sized position value is.fits.0)
  certain_moved timed_heads.Falsity is = refl

  nodes_renamed : (last : ℕ) (term : List Node) → IsTermOver sizes term → true_variable sizes ≤ last → made_nodes others (last + high) (moved_nodes (steps * stride) term) ≡ renamed_made name high (made_nodes sizes last term)
  nodes_renamed last term is most =
      let f = is.formula in
      ap (λ (t : List Node). made_nodes others (last + high) (moved_nodes (steps * stride) t)) is.written
      ∙ ap (made_nodes others (last + high)) (moved_postfix (steps * stride) f) ∙ made_is others (moved (steps * stride) f) (last + high)
      ∙ term_renamed name rises sizes others (steps * stride) high truth own atoms f last (atoms_fit sizes f (subst (AllByRecursion (Fits sizes)) is.written is.fits)) most
      ∙ ap (renamed_made name high) (sym (ap (made_nodes sizes last) is.written ∙ made_is sizes f last))

  rule_renamed : (last : ℕ) (rule : TimedRule) → IsBodyOver sizes stride rule → true_variable sizes ≤ last → made_rule others stride (last + high) (rule_behind stride steps rule) ≡ renamed_made name high (made_rule sizes stride last rule)
  rule_renamed last rule is most =
      let by = steps * stride in
      let N = made_nodes others (last + high) (body_nodes stride (rule_behind stride steps rule)) in
      ap (λ (h : GroundHead). if is_certain others h then plain_made (positive (true_variable others)) (last + high) else N) (plain_moved stride steps rule.head)
      ∙ ap (λ (b : Bool). if b then plain_made (positive (true_variable others)) (last + high) else N) (certain_moved rule.head is.head)
      ∙ ap (λ (m : Made). if is_certain sizes (plain_head rule.head) then plain_made (positive (true_variable others)) (last + high) else m)
      (ap (made_nodes others (last + high)) (body_moved stride steps rule) ∙ nodes_renamed last (body_nodes stride rule) (body_over sizes stride rule is) most)
      ∙ ap (λ (n : ℕ). if is_certain sizes (plain_head rule.head) then plain_made (positive n) (last + high) else renamed_made name high (made_nodes sizes last (body_nodes stride rule))) (sym truth)
      ∙ chosen (is_certain sizes (plain_head rule.head))
    where
      chosen : (b : Bool) → (if b then plain_made (renamed name (positive (true_variable sizes))) (last + high) else renamed_made name high (made_nodes sizes last (body_nodes stride rule)))
          ≡ renamed_made name high (if b then plain_made (positive (true_variable sizes)) last else made_nodes sizes last (body_nodes stride rule))
      chosen true = refl
      chosen false = refl

  pub bodies_renamed : (rules : List TimedRule) (last : ℕ) → AllByRecursion (IsBodyOver sizes stride) rules → true_variable sizes ≤ last →
      made_bodies others stride (last + high) (map (rule_behind stride steps) rules) ≡ renamed_rules name high (steps * stride) (made_bodies sizes stride last rules)
  bodies_renamed [] last fit most = refl
  bodies_renamed (rule ∷ rules) last fit most =
      let m = made_rule sizes stride last rule in
      let up = rule_rises sizes stride last rule in
      let behind = made_bodies sizes stride m.last rules in
      let own_head = plain_head (timed_head_behind (steps * stride) rule.head) in
      let joined : Made → MadeRules → MadeRules = λ one more. record { rules = (record { head = own_head; body = one.literal }) ∷ more.rules; last = more.last; clauses = one.clauses ++ more.clauses } in
      ap (λ (one : Made). joined one (made_bodies others stride one.last (map (rule_behind stride steps) rules))) (rule_renamed last rule fit.0 most)
      ∙ ap (joined (renamed_made name high m)) (bodies_renamed rules m.last fit.1 (omega arith))
      ∙ ap (λ (h : GroundHead). let r : MadeRules = record { rules = (record { head = h; body = renamed name m.literal }) ∷ map (renamed_bodied name (steps * stride)) behind.rules; last = behind.last + high; clauses = renamed_clauses name m.clauses ++ renamed_clauses name behind.clauses } in r) (plain_moved stride steps rule.head)
      ∙ ap (λ (c : List (List Literal)). let r : MadeRules = record { rules = (record { head = head_behind (steps * stride) (plain_head rule.head); body = renamed name m.literal }) ∷ map (renamed_bodied name (steps * stride)) behind.rules; last = behind.last + high; clauses = c } in r) (sym (map-append (map (renamed name)) m.clauses behind.clauses))
