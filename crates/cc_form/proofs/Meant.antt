-- The clause list as it is made from nodes is that of the rules and terms that these nodes are of.
use Rattle.std.proofs.Common.{inl, inr, ◌≡◌, ◌∙◌, ℕ, zero, suc, ◌+◌, ◌*◌, ◌<◌, ◌≤◌, Bool, true, false, not, ◌&&◌, List, [], ◌∷◌, ◌++◌, map, flat_map, nat_lt, slice_get, Option, Some, None, refl, sym, ap, subst, arith}
use Rattle.std.specs.Prelude.{◌==◌, if◌then◌else◌, cond, IfSome, slice_index_or}
use Rattle.std.specs.List.{filter, AllByRecursion, AllZip}
use Rattle.std.specs.Option.{option_map}
use Rattle.std.proofs.lemmas.Bool.{eqb-true, ltb-true}
use Rattle.cc_defs.specs.declared.lists.Key.{Key}
use Rattle.cc_defs.specs.declared.node.GroundHead.{GroundHead}
use Rattle.cc_defs.specs.declared.node.GroundHead.TheVariants as heads
use Rattle.cc_defs.specs.declared.node.Node.{Node}
use Rattle.cc_defs.specs.declared.node.Node.TheVariants as nodes
use Rattle.cc_defs.specs.ClauseForms.{Made, all_written, atom_variable, made_of, positive, true_variable}
use Rattle.cc_defs.specs.ClauseLists.{Asserted, Bodied, ClauseList, MadeRules, assert_all, asserted, bodies_of, clauses_over, completion_from, completion_of, denials_of, deny, is_certain, is_falsity, is_of_atom, key_terms, made_rules, position_completion, positions_from, rules_that_count}
use Rattle.cc_defs.specs.Clauses.{Literal, opposite}
use Rattle.cc_defs.specs.Rules.{upto}
use Rattle.cc_defs.specs.Terms.{Ground, Fits, IsTermOver, all_of, operand_count, postfix, postfixes}
use Rattle.cc_defs.specs.Terms as terms
use Rattle.cc_defs.specs.TimedRules.{TimedRule, joined_parts}
use Rattle.cc_theory.specs.declared.rule.Timed.{Timed}
use Rattle.cc_theory.specs.declared.rule.TimedHead.{TimedHead}
use Rattle.cc_theory.specs.declared.rule.TimedHead.TheVariants as timed_heads
use Rattle.cc_theory.specs.declared.rule.TimedRule as code
use Rattle.cc_theory.specs.Theories.{IsBody, IsPart, IsRuleOf, plain_head}
use Rattle.cc_form.specs.Laws.{HeadFits, RuleFits}
use Rattle.cc_form.specs.Machine.{made_nodes, moved_nodes, plain_made}
use Rattle.cc_form.specs.Making.{IsBodyOver, asserted_nodes, body_nodes, body_of, denied_nodes, head_nodes, is_truth, joined_nodes, list_over, made_bodies, made_rule, part_nodes}
use Rattle.cc_form.proofs.Ordered.{cases_test}
use Rattle.cc_form.proofs.Parts.{joined_both, joined_first, joined_second}
use Rattle.cc_form.proofs.Running.{made_is}
use Rattle.cc_form.proofs.Standing.{moved_postfix}

-- ---- rules

-- the rule is meant by the code's: it has its head, and the nodes of its body
pub record IsMeantBy (stride : ℕ) (rule : code.TimedRule) (meant : TimedRule) : Type 0 where
  pub head : plain_head rule.head ≡ meant.head
  pub body : body_nodes stride rule ≡ postfix meant.body

-- whether a formula is `true` shows in its nodes
ends_other : (xs : List Node) (node : Node) → is_truth (node ∷ []) ≡ false → is_truth (xs ++ node ∷ []) ≡ false
ends_other [] node e = e
ends_other (x ∷ []) node e = refl
ends_other (x ∷ y ∷ xs) node e = refl

truth_shows : (f : Ground) → is_truth (postfix f) ≡ true → f ≡ terms.Truth
truth_shows terms.Truth e = refl
truth_shows terms.Falsehood e = absurd cc
truth_shows (terms.Atom position value) e = absurd cc
truth_shows (terms.Not f) e = let other = ends_other (postfix f) nodes.Not refl in absurd cc
truth_shows (terms.All operands) e = let other = ends_other (postfixes operands) (nodes.All (operand_count operands)) refl in absurd cc
truth_shows (terms.Any operands) e = let other = ends_other (postfixes operands) (nodes.Any (operand_count operands)) refl in absurd cc
truth_shows (terms.Same f g) e = let other = ends_other (postfix f ++ postfix g) nodes.Same refl in absurd cc

parts_first : (f : Ground) → is_truth (postfix f) ≡ false → joined_parts f terms.Truth ≡ f
parts_first terms.Truth e = absurd cc
parts_first f e = refl

parts_both : (f g : Ground) → is_truth (postfix f) ≡ false → is_truth (postfix g) ≡ false → joined_parts f g ≡ all_of (f ∷ g ∷ [])
parts_both terms.Truth g e h = absurd cc
parts_both f terms.Truth e h = absurd cc
parts_both f g e h = refl

-- the nodes of a conjunction of both parts
joined_is : (f g : Ground) → joined_nodes (postfix f) (postfix g) ≡ postfix (joined_parts f g)
joined_is f g = elim (cases_test (is_truth (postfix f))) [
  | inl e ↦ joined_first (postfix f) (postfix g) e ∙ ap (λ (h : Ground). postfix (joined_parts h g)) (sym (truth_shows f e))
  | inr e ↦ elim (cases_test (is_truth (postfix g))) [
    | inl h ↦ joined_second (postfix f) (postfix g) e h ∙ ap postfix (sym (parts_first f e)) ∙ ap (λ (k : Ground). postfix (joined_parts f k)) (sym (truth_shows g h))
    | inr h ↦ joined_both (postfix f) (postfix g) e h ∙ ap postfix (sym (parts_both f g e h))
  ]
]

part_is : (stride : ℕ) (timed : Timed) (part : Ground) → IsPart stride (Some timed) part → part_nodes stride timed ≡ postfix part
part_is stride timed part (formula, written, is) = ap (moved_nodes (timed.step * stride)) written ∙ moved_postfix (timed.step * stride) formula ∙ ap postfix (sym is)

truth_last : (f : Ground) → joined_parts f terms.Truth ≡ f
truth_last terms.Truth = refl
truth_last f = refl

body_is : (stride : ℕ) (head : TimedHead) (now before : Option Timed) (body : Ground) → IsBody stride head now before body → body_of stride head now before ≡ postfix body
body_is stride (timed_heads.Atom position value) None None body is = ap postfix (sym is)
body_is stride timed_heads.Falsity None None body is = absurd is
body_is stride head None (Some before) body is = absurd is
body_is stride head (Some now) None body (first, second, one, other, is) =
    part_is stride now first one ∙ ap postfix (sym (is ∙ ap (joined_parts first) other ∙ truth_last first))
body_is stride head (Some now) (Some before) body (first, second, one, other, is) =
    ap (λ (t : List Node). joined_nodes t (part_nodes stride before)) (part_is stride now first one) ∙ ap (joined_nodes (postfix first)) (part_is stride before second other)
    ∙ joined_is first second ∙ ap postfix (sym is)

pub meant_of : (stride : ℕ) (rules : List code.TimedRule) (meant : List TimedRule) → AllZip (IsRuleOf stride) rules meant → AllZip (IsMeantBy stride) rules meant
meant_of stride [] [] are = tt
meant_of stride [] (m ∷ meant) are = absurd are
meant_of stride (r ∷ rules) [] are = absurd are
meant_of stride (r ∷ rules) (m ∷ meant) are = (record { head = are.0.head; body = body_is stride r.head r.now r.before m.body are.0.body }, meant_of stride rules meant are.1)

-- ---- some rules that are meant

all_two : {X : Type 0} (P : X → Type 0) (xs ys : List X) → AllByRecursion P xs → AllByRecursion P ys → AllByRecursion P (xs ++ ys)
all_two P [] ys h k = k
all_two P (x ∷ xs) ys h k = (h.0, all_two P xs ys h.1 k)

joined_over : (sizes : List ℕ) (a b : List Node) → IsTermOver sizes a → IsTermOver sizes b → IsTermOver sizes (joined_nodes a b)
joined_over sizes a b one other = elim (cases_test (is_truth a)) [
  | inl e ↦ subst (IsTermOver sizes) (sym (joined_first a b e)) other
  | inr e ↦ elim (cases_test (is_truth b)) [
    | inl h ↦ subst (IsTermOver sizes) (sym (joined_second a b e h)) one
    | inr h ↦ subst (IsTermOver sizes) (sym (joined_both a b e h)) (record {
      formula = all_of (one.formula ∷ other.formula ∷ []);
      written = ap (λ (t : List Node). t ++ b ++ nodes.All 2 ∷ []) one.written ∙ ap (λ (t : List Node). postfix one.formula ++ t ++ nodes.All 2 ∷ []) other.written;
      fits = all_two (Fits sizes) (a ++ b) (nodes.All 2 ∷ []) (all_two (Fits sizes) a b one.fits other.fits) (tt, tt);
    })
  ]
]

pub body_over : (sizes : List ℕ) (stride : ℕ) (rule : code.TimedRule) → IsBodyOver sizes stride rule → IsTermOver sizes (body_nodes stride rule)
body_over sizes stride rule is = by_parts rule.now rule.before is.now is.before
  where
    by_parts : (now before : Option Timed) → IfSome now (λ timed. (timed.step ≤ 1000) × IsTermOver sizes (part_nodes stride timed)) → IfSome before (λ timed. (timed.step ≤ 1000) × IsTermOver sizes (part_nodes stride timed)) →
        IsTermOver sizes (body_of stride rule.head now before)
    by_parts None before n b = is.head
    by_parts (Some now) None n b = n.1
    by_parts (Some now) (Some before) n b = joined_over sizes (part_nodes stride now) (part_nodes stride before) n.1 b.1

head_fits : (sizes : List ℕ) (head : TimedHead) → IsTermOver sizes (head_nodes head) → HeadFits sizes (plain_head head)
head_fits sizes (timed_heads.Atom position value) is = is.fits.0
head_fits sizes timed_heads.Falsity is = tt

pub meant_fit : (sizes : List ℕ) (stride : ℕ) (rules : List code.TimedRule) (meant : List TimedRule) → AllByRecursion (IsBodyOver sizes stride) rules → AllZip (IsMeantBy stride) rules meant → AllByRecursion (RuleFits sizes) meant
meant_fit sizes stride [] [] fit are = tt
meant_fit sizes stride [] (m ∷ meant) fit are = absurd are
meant_fit sizes stride (r ∷ rules) [] fit are = absurd are
meant_fit sizes stride (r ∷ rules) (m ∷ meant) fit are = (
  record { head = subst (HeadFits sizes) are.0.head (head_fits sizes r.head fit.0.head); body = subst (AllByRecursion (Fits sizes)) are.0.body (body_over sizes stride r fit.0).fits },
  meant_fit sizes stride rules meant fit.1 are.1,
)

pub some_meant : (sizes : List ℕ) (stride : ℕ) (rules : List code.TimedRule) → AllByRecursion (IsBodyOver sizes stride) rules → (meant : List TimedRule) × AllZip (IsMeantBy stride) rules meant
some_meant sizes stride [] fit = ([], tt)
some_meant sizes stride (r ∷ rules) fit =
    let more = some_meant sizes stride rules fit.1 in
    let term = body_over sizes stride r fit.0 in
    ((record { head = plain_head r.head; body = term.formula }) ∷ more.0, (record { head = refl; body = term.written }, more.1))

-- ---- bodies

module _ (sizes : List ℕ) (stride : ℕ) where
  abbrev counts : TimedRule → Bool
  counts rule = not (is_certain sizes rule.head)

  abbrev bodied_counts : Bodied → Bool
  bodied_counts rule = not (is_certain sizes rule.head)

  -- the rules that count, of all
  pub record SameBodies (all : MadeRules) (some : MadeRules) : Type 0 where
    pub rules : filter bodied_counts all.rules ≡ some.rules
    pub ends : all.last ≡ some.last
    pub clauses : all.clauses ≡ some.clauses

  bodies_same : (rules : List code.TimedRule) (meant : List TimedRule) (last : ℕ) → AllZip (IsMeantBy stride) rules meant → SameBodies (made_bodies sizes stride last rules) (made_rules sizes last (rules_that_count sizes meant))
  bodies_same [] [] last are = record { rules = refl; ends = refl; clauses = refl }
  bodies_same [] (m ∷ meant) last are = absurd are
  bodies_same (r ∷ rules) [] last are = absurd are
  bodies_same (r ∷ rules) (m ∷ meant) last are = elim (cases_test (is_certain sizes (plain_head r.head))) [
    | inl e ↦
        let skipped : made_rule sizes stride last r ≡ plain_made (positive (true_variable sizes)) last = ap (λ (b : Bool). if b then plain_made (positive (true_variable sizes)) last else made_nodes sizes last (body_nodes stride r)) e in
        let more = bodies_same rules meant last are.1 in
        let certain : is_certain sizes m.head ≡ true = ap (is_certain sizes) (sym are.0.head) ∙ e in
        let there : rules_that_count sizes (m ∷ meant) ≡ rules_that_count sizes meant = ap (λ (b : Bool). cond (not b) (m ∷ rules_that_count sizes meant) (rules_that_count sizes meant)) certain in
        let own : Made → MadeRules = λ made. let others = made_bodies sizes stride made.last rules in record {
          rules = (record { head = plain_head r.head; body = made.literal }) ∷ others.rules;
          last = others.last;
          clauses = made.clauses ++ others.clauses;
        } in
        let here : made_bodies sizes stride last (r ∷ rules) ≡ own (plain_made (positive (true_variable sizes)) last) = ap own skipped in
        record {
          rules = ap (λ (b : MadeRules). filter bodied_counts b.rules) here
              ∙ ap (λ (b : Bool). cond (not b) ((record { head = plain_head r.head; body = positive (true_variable sizes) }) ∷ filter bodied_counts (made_bodies sizes stride last rules).rules) (filter bodied_counts (made_bodies sizes stride last rules).rules)) e
              ∙ more.rules ∙ ap (λ (l : List TimedRule). (made_rules sizes last l).rules) (sym there);
          ends = ap (λ (b : MadeRules). b.last) here ∙ more.ends ∙ ap (λ (l : List TimedRule). (made_rules sizes last l).last) (sym there);
          clauses = ap (λ (b : MadeRules). b.clauses) here ∙ more.clauses ∙ ap (λ (l : List TimedRule). (made_rules sizes last l).clauses) (sym there);
        }
    | inr e ↦
        let made : Made = made_of sizes last m.body in
        let counted : made_rule sizes stride last r ≡ made =
        ap (λ (b : Bool). if b then plain_made (positive (true_variable sizes)) last else made_nodes sizes last (body_nodes stride r)) e ∙ ap (made_nodes sizes last) are.0.body ∙ made_is sizes m.body last in
        let more = bodies_same rules meant made.last are.1 in
        let uncertain : is_certain sizes m.head ≡ false = ap (is_certain sizes) (sym are.0.head) ∙ e in
        let there : rules_that_count sizes (m ∷ meant) ≡ m ∷ rules_that_count sizes meant = ap (λ (b : Bool). cond (not b) (m ∷ rules_that_count sizes meant) (rules_that_count sizes meant)) uncertain in
        let own : Made → MadeRules = λ made. let others = made_bodies sizes stride made.last rules in record {
          rules = (record { head = plain_head r.head; body = made.literal }) ∷ others.rules;
          last = others.last;
          clauses = made.clauses ++ others.clauses;
        } in
        let here : made_bodies sizes stride last (r ∷ rules) ≡ own made = ap own counted in
        record {
          rules = ap (λ (b : MadeRules). filter bodied_counts b.rules) here
              ∙ ap (λ (b : Bool). cond (not b) ((record { head = plain_head r.head; body = made.literal }) ∷ filter bodied_counts (made_bodies sizes stride made.last rules).rules) (filter bodied_counts (made_bodies sizes stride made.last rules).rules)) e
              ∙ ap (λ (l : List Bodied). (record { head = plain_head r.head; body = made.literal }) ∷ l) more.rules
              ∙ ap (λ (h : GroundHead). let b : Bodied = record { head = h; body = made.literal } in b ∷ (made_rules sizes made.last (rules_that_count sizes meant)).rules) are.0.head
              ∙ ap (λ (l : List TimedRule). (made_rules sizes last l).rules) (sym there);
          ends = ap (λ (b : MadeRules). b.last) here ∙ more.ends ∙ ap (λ (l : List TimedRule). (made_rules sizes last l).last) (sym there);
          clauses = ap (λ (b : MadeRules). b.clauses) here ∙ ap (λ (l : List (List Literal)). made.clauses ++ l) more.clauses ∙ ap (λ (l : List TimedRule). (made_rules sizes last l).clauses) (sym there);
        }
  ]

  -- what is kept of a filtered list is kept of the list
  filter_twice : (test keep : Bodied → Bool) (xs : List Bodied) → ((x : Bodied) → keep x ≡ false → test x ≡ false) → filter test (filter keep xs) ≡ filter test xs
  filter_twice test keep [] h = refl
  filter_twice test keep (x ∷ xs) h = elim (cases_test (keep x)) [
    | inl e ↦ ap (λ (b : Bool). filter test (cond b (x ∷ filter keep xs) (filter keep xs))) e ∙ ap (λ (l : List Bodied). cond (test x) (x ∷ l) l) (filter_twice test keep xs h)
    | inr e ↦ ap (λ (b : Bool). filter test (cond b (x ∷ filter keep xs) (filter keep xs))) e ∙ filter_twice test keep xs h ∙ ap (λ (b : Bool). cond b (x ∷ filter test xs) (filter test xs)) (sym (h x e))
  ]

  certain_is : (b : Bool) → not b ≡ false → b ≡ true
  certain_is true e = refl
  certain_is false e = absurd cc

  bodies_counting : (rules : List Bodied) (position value size : ℕ) → slice_get sizes position ≡ Some size → 1 < size → bodies_of position value (filter bodied_counts rules) ≡ bodies_of position value rules
  bodies_counting rules position value size at more =
      ap (map (λ rule. rule.body)) (filter_twice (λ rule. is_of_atom position value rule.head) bodied_counts rules (λ rule e. no_head rule.head (certain_is (is_certain sizes rule.head) e)))
    where
      read_at : (xs : List ℕ) (p : ℕ) → slice_get xs p ≡ Some size → slice_index_or xs p 0 ≡ size
      read_at [] p e = absurd cc
      read_at (x ∷ xs) zero e = cc
      read_at (x ∷ xs) (suc p) e = read_at xs p e

      no_head : (head : GroundHead) → is_certain sizes head ≡ true → is_of_atom position value head ≡ false
      no_head heads.Falsity e = refl
      no_head (heads.Atom other index) e = elim (cases_test (position == other)) [
        | inl same ↦
            let one = eqb-true (slice_index_or sizes other 0) 1 e in
            let here = ap (λ (p : ℕ). slice_index_or sizes p 0) (eqb-true position other same) in
            let read = read_at sizes position at in
            absurd (omega arith)
        | inr apart ↦ ap (λ (t : Bool). t && (value == index)) apart
      ]

  flat_same : (f g : ℕ → List (List Literal)) (xs : List ℕ) → ((x : ℕ) → f x ≡ g x) → flat_map f xs ≡ flat_map g xs
  flat_same f g [] h = refl
  flat_same f g (x ∷ xs) h = ap (λ (l : List (List Literal)). l ++ flat_map f xs) (h x) ∙ ap (λ (l : List (List Literal)). g x ++ l) (flat_same f g xs h)

  completion_counting : (rules : List Bodied) (rest : List ℕ) (position : ℕ) → ((k size : ℕ) → slice_get rest k ≡ Some size → slice_get sizes (position + k) ≡ Some size) →
      completion_from sizes (filter bodied_counts rules) position rest ≡ completion_from sizes rules position rest
  completion_counting rules [] position at = refl
  completion_counting rules (size ∷ rest) position at =
      ap (λ (l : List (List Literal)). l ++ completion_from sizes (filter bodied_counts rules) (position + 1) rest) (here (nat_lt 1 size) refl)
      ∙ ap (λ (l : List (List Literal)). position_completion sizes rules position size ++ l)
      (completion_counting rules rest (position + 1) (λ k s e. ap (slice_get sizes) (let f : position + 1 + k ≡ position + suc k = omega arith in f) ∙ at (suc k) s e))
    where
      here : (b : Bool) → nat_lt 1 size ≡ b →
          (if b then flat_map (λ value. completion_of (positive (atom_variable sizes position value)) (bodies_of position value (filter bodied_counts rules))) (upto size) else [])
          ≡ (if b then flat_map (λ value. completion_of (positive (atom_variable sizes position value)) (bodies_of position value rules)) (upto size) else [])
      here false e = refl
      here true e = flat_same (λ value. completion_of (positive (atom_variable sizes position value)) (bodies_of position value (filter bodied_counts rules)))
          (λ value. completion_of (positive (atom_variable sizes position value)) (bodies_of position value rules)) (upto size)
          (λ value. ap (completion_of (positive (atom_variable sizes position value)))
          (bodies_counting rules position value size (ap (slice_get sizes) (let f : position ≡ position + 0 = omega arith in f) ∙ at 0 size refl) (ltb-true 1 size e)))

  denials_counting : (rules : List Bodied) → denials_of (filter bodied_counts rules) ≡ denials_of rules
  denials_counting rules = ap (map (λ rule. opposite rule.body ∷ [])) (filter_twice (λ rule. is_falsity rule.head) bodied_counts rules (λ rule e. no_head rule.head (certain_is (is_certain sizes rule.head) e)))
    where
      no_head : (head : GroundHead) → is_certain sizes head ≡ true → is_falsity head ≡ false
      no_head (heads.Atom other index) e = refl
      no_head heads.Falsity e = absurd cc

  -- ---- terms that are asserted

  asserted_same : (formulas : List Ground) (last : ℕ) → asserted_nodes sizes last (map postfix formulas) ≡ assert_all sizes last formulas
  asserted_same [] last = refl
  asserted_same (f ∷ formulas) last =
      let own : Made → Asserted = λ made. let others = asserted_nodes sizes made.last (map postfix formulas) in record { last = others.last; clauses = made.clauses ++ (made.literal ∷ []) ∷ others.clauses } in
      let made = made_of sizes last f in
      let with_others : Asserted → Asserted = λ others. record { last = others.last; clauses = made.clauses ++ (made.literal ∷ []) ∷ others.clauses } in
      ap own (made_is sizes f last) ∙ ap with_others (asserted_same formulas made.last)

  denied_same : (claim : Option Ground) (last : ℕ) → denied_nodes sizes last (option_map postfix claim) ≡ deny sizes last claim
  denied_same None last = refl
  denied_same (Some f) last = ap (λ (made : Made). asserted made (opposite made.literal)) (made_is sizes f last)

  -- ---- the whole list

  pub list_is : (rules : List code.TimedRule) (meant : List TimedRule) (conditions : List Ground) (claim : Option Ground) (key : Option Key) → AllZip (IsMeantBy stride) rules meant →
      list_over sizes stride rules (map postfix conditions) (option_map postfix claim) (map postfix (key_terms sizes key)) ≡ clauses_over sizes meant conditions claim key
  list_is rules meant conditions claim key are =
      let all = made_bodies sizes stride (true_variable sizes) rules in
      let some = made_rules sizes (true_variable sizes) (rules_that_count sizes meant) in
      let same = bodies_same rules meant (true_variable sizes) are in
      let first = (positive (true_variable sizes) ∷ []) ∷ positions_from 1 sizes in
      let of : List (List Literal) → List (List Literal) → List (List Literal) → Asserted → Asserted → Asserted → ClauseList = λ b c e q n l. record {
        variables = l.last;
        clauses = first ++ b ++ all_written c ++ all_written e ++ q.clauses ++ n.clauses ++ l.clauses;
      } in
      let complete : completion_from sizes all.rules 0 sizes ≡ completion_from sizes some.rules 0 sizes =
      sym (completion_counting all.rules sizes 0 (λ k size e. ap (slice_get sizes) (let s : 0 + k ≡ k = omega arith in s) ∙ e)) ∙ ap (λ (r : List Bodied). completion_from sizes r 0 sizes) same.rules in
      let deny_all : denials_of all.rules ≡ denials_of some.rules = sym (denials_counting all.rules) ∙ ap denials_of same.rules in
      let query : asserted_nodes sizes all.last (map postfix conditions) ≡ assert_all sizes some.last conditions = ap (λ (n : ℕ). asserted_nodes sizes n (map postfix conditions)) same.ends ∙ asserted_same conditions some.last in
      let q = assert_all sizes some.last conditions in
      let denied : denied_nodes sizes (asserted_nodes sizes all.last (map postfix conditions)).last (option_map postfix claim) ≡ deny sizes q.last claim =
      ap (λ (a : Asserted). denied_nodes sizes a.last (option_map postfix claim)) query ∙ denied_same claim q.last in
      let n = deny sizes q.last claim in
      let later : asserted_nodes sizes (denied_nodes sizes (asserted_nodes sizes all.last (map postfix conditions)).last (option_map postfix claim)).last (map postfix (key_terms sizes key)) ≡ assert_all sizes n.last (key_terms sizes key) =
      ap (λ (a : Asserted). asserted_nodes sizes a.last (map postfix (key_terms sizes key))) denied ∙ asserted_same (key_terms sizes key) n.last in
      let aq = asserted_nodes sizes all.last (map postfix conditions) in
      let an = denied_nodes sizes aq.last (option_map postfix claim) in
      let al = asserted_nodes sizes an.last (map postfix (key_terms sizes key)) in
      ap (λ (b : List (List Literal)). of b (completion_from sizes all.rules 0 sizes) (denials_of all.rules) aq an al) same.clauses
      ∙ ap (λ (c : List (List Literal)). of some.clauses c (denials_of all.rules) aq an al) complete
      ∙ ap (λ (e : List (List Literal)). of some.clauses (completion_from sizes some.rules 0 sizes) e aq an al) deny_all
      ∙ ap (λ (a : Asserted). of some.clauses (completion_from sizes some.rules 0 sizes) (denials_of some.rules) a an al) query
      ∙ ap (λ (a : Asserted). of some.clauses (completion_from sizes some.rules 0 sizes) (denials_of some.rules) q a al) denied
      ∙ ap (λ (a : Asserted). of some.clauses (completion_from sizes some.rules 0 sizes) (denials_of some.rules) q n a) later
