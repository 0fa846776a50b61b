-- Rules, their completion, denials, and terms that are asserted.
use Rattle.std.proofs.Common.{◌≡◌, ◌∙◌, ℕ, zero, suc, ◌+◌, ◌<◌, inl, inr, Bool, true, false, not, ◌&&◌, ◌||◌, List, [], ◌∷◌, ◌++◌, length, map, flat_map, nat_lt, slice_get, Option, Some, None, refl, sym, ap, subst, arith, length-append, append_assoc, append-nil}
use Rattle.std.specs.Prelude.{◌==◌, if◌then◌else◌, cond, slice_index_or, IfSome}
use Rattle.std.specs.List.{list_any, filter, AllByRecursion}
use Rattle.std.proofs.lemmas.Bool.{eqb-true, lt-ltb, ltb-true, cases_lt}
use Rattle.cc_defs.specs.declared.node.GroundHead.{GroundHead}
use Rattle.cc_defs.specs.declared.node.GroundHead.TheVariants as heads
use Rattle.cc_defs.specs.declared.node.Node.TheVariants as nodes
use Rattle.cc_defs.specs.ClauseForms.{atom_variable, made_of, positive, true_variable}
use Rattle.cc_defs.specs.ClauseLists.{Bodied, MadeRules, assert_all, bodies_of, completion_from, completion_of, deny, is_certain, is_falsity, is_of_atom, made_rules, position_completion, rules_that_count}
use Rattle.cc_defs.specs.Clauses.{Literal, opposite}
use Rattle.cc_defs.specs.Rules.{upto}
use Rattle.cc_defs.specs.Terms.{Ground, Operands, Fits, nothing, and_then, operand_count, postfix, postfixes, truth}
use Rattle.cc_defs.specs.Terms as terms
use Rattle.cc_defs.specs.TimedRules.{TimedRule}
use Rattle.cc_form.specs.Laws.{RuleFits, TermFits}
use Rattle.cc_form.specs.Parts.{Agrees, AllMet, AreAsserted}
use Rattle.cc_form.proofs.Meaning.{AtomsFit, AtomsFitIn, agrees_both, agrees_left, agrees_right, any_met, lit, met_any, met_both, met_left, met_right, one_true, opposite_is, or_gives, or_is, term_told, values_of}
use Rattle.cc_form.proofs.Ordered.{cases_test}

-- ---- one list of clauses behind another

module _ (a : ℕ → Bool) (last : ℕ) (xs ys : List Bool) (top : ℕ) (ends : top ≡ last + length xs) where
  pub joined : Agrees a last xs → Agrees a top ys → Agrees a last (xs ++ ys)
  joined h k = agrees_both a last xs ys h (subst (λ (n : ℕ). Agrees a n ys) ends k)

  pub behind : Agrees a last (xs ++ ys) → Agrees a top ys
  behind h = subst (λ (n : ℕ). Agrees a n ys) (sym ends) (agrees_right a last xs ys h)

  pub ends_together : (end : ℕ) → end ≡ top + length ys → end ≡ last + length (xs ++ ys)
  ends_together end e = let long = length-append xs ys in omega arith

-- ---- atoms of a term

pub all_left : {X : Type 0} (P : X → Type 0) (xs ys : List X) → AllByRecursion P (xs ++ ys) → AllByRecursion P xs
all_left P [] ys h = tt
all_left P (x ∷ xs) ys h = (h.0, all_left P xs ys h.1)

pub all_right : {X : Type 0} (P : X → Type 0) (xs ys : List X) → AllByRecursion P (xs ++ ys) → AllByRecursion P ys
all_right P [] ys h = h
all_right P (x ∷ xs) ys h = all_right P xs ys h.1

-- ---- a test of some rule

-- tests and values of rules pass a filter that takes away only what fails the test
any_filter : {X : Type 0} (keep test : X → Bool) (xs : List X) → ((x : X) → keep x ≡ false → test x ≡ false) → list_any test (filter keep xs) ≡ list_any test xs
any_filter keep test [] h = refl
any_filter keep test (x ∷ xs) h = elim (cases_test (keep x)) [
  | inl e ↦ subst (λ (b : Bool). list_any test (cond b (x ∷ filter keep xs) (filter keep xs)) ≡ list_any test (x ∷ xs)) (sym e) (ap (λ (b : Bool). test x || b) (any_filter keep test xs h))
  | inr e ↦ subst (λ (b : Bool). list_any test (cond b (x ∷ filter keep xs) (filter keep xs)) ≡ list_any test (x ∷ xs)) (sym e)
      (any_filter keep test xs h ∙ sym (ap (λ (b : Bool). b || list_any test xs) (h x e)))
]

pub all_filter : {X : Type 0} (P : X → Type 0) (keep : X → Bool) (xs : List X) → AllByRecursion P xs → AllByRecursion P (filter keep xs)
all_filter P keep [] h = tt
all_filter P keep (x ∷ xs) h = elim (cases_test (keep x)) [
  | inl e ↦ subst (λ (b : Bool). AllByRecursion P (cond b (x ∷ filter keep xs) (filter keep xs))) (sym e) (h.0, all_filter P keep xs h.1)
  | inr e ↦ subst (λ (b : Bool). AllByRecursion P (cond b (x ∷ filter keep xs) (filter keep xs))) (sym e) (all_filter P keep xs h.1)
]

mutual
  pub atoms_fit : (sizes : List ℕ) (f : Ground) → TermFits sizes f → AtomsFit sizes f
  atoms_fit sizes terms.Truth fit = tt
  atoms_fit sizes terms.Falsehood fit = tt
  atoms_fit sizes (terms.Atom position value) fit = fit.0
  atoms_fit sizes (terms.Not f) fit = atoms_fit sizes f (all_left (Fits sizes) (postfix f) (nodes.Not ∷ []) fit)
  atoms_fit sizes (terms.All operands) fit = atoms_fit_in sizes operands (all_left (Fits sizes) (postfixes operands) (nodes.All (operand_count operands) ∷ []) fit)
  atoms_fit sizes (terms.Any operands) fit = atoms_fit_in sizes operands (all_left (Fits sizes) (postfixes operands) (nodes.Any (operand_count operands) ∷ []) fit)
  atoms_fit sizes (terms.Same f g) fit =
      let both = all_left (Fits sizes) (postfix f ++ postfix g) (nodes.Same ∷ []) fit in
      (atoms_fit sizes f (all_left (Fits sizes) (postfix f) (postfix g) both), atoms_fit sizes g (all_right (Fits sizes) (postfix f) (postfix g) both))

  pub atoms_fit_in : (sizes : List ℕ) (operands : Operands) → AllByRecursion (Fits sizes) (postfixes operands) → AtomsFitIn sizes operands
  atoms_fit_in sizes nothing fit = tt
  atoms_fit_in sizes (and_then operands f) fit =
      (atoms_fit_in sizes operands (all_left (Fits sizes) (postfixes operands) (postfix f) fit), atoms_fit sizes f (all_right (Fits sizes) (postfixes operands) (postfix f) fit))

pub all_atoms_fit : (sizes : List ℕ) (formulas : List Ground) → AllByRecursion (TermFits sizes) formulas → AllByRecursion (AtomsFit sizes) formulas
all_atoms_fit sizes [] fit = tt
all_atoms_fit sizes (f ∷ formulas) fit = (atoms_fit sizes f fit.0, all_atoms_fit sizes formulas fit.1)

-- the values of the variables that terms make, one after another
abbrev pub rules_values_of : List ℕ → (ℕ → ℕ) → ℕ → List TimedRule → List Bool
rules_values_of sizes v last [] = []
rules_values_of sizes v last (rule ∷ rules) = values_of sizes v last rule.body ++ rules_values_of sizes v (made_of sizes last rule.body).last rules

abbrev pub terms_values_of : List ℕ → (ℕ → ℕ) → ℕ → List Ground → List Bool
terms_values_of sizes v last [] = []
terms_values_of sizes v last (f ∷ formulas) = values_of sizes v last f ++ terms_values_of sizes v (made_of sizes last f).last formulas

abbrev pub claim_values_of : List ℕ → (ℕ → ℕ) → ℕ → Option Ground → List Bool
claim_values_of sizes v last None = []
claim_values_of sizes v last (Some f) = values_of sizes v last f

abbrev pub AllTrue : (ℕ → ℕ) → List Ground → Type 0
AllTrue v [] = Unit {0}
AllTrue v (f ∷ formulas) = (truth v f ≡ true) × AllTrue v formulas

abbrev pub IsDenied : (ℕ → ℕ) → Option Ground → Type 0
IsDenied v None = Unit {0}
IsDenied v (Some f) = truth v f ≡ false

module _ (a : ℕ → Bool) (sizes : List ℕ) (v : ℕ → ℕ) (is_true : a (true_variable sizes) ≡ true)
    (atoms : (position value : ℕ) → Fits sizes (nodes.Atom position value) → a (atom_variable sizes position value) ≡ (v position == value)) where
  abbrev new : ℕ → Ground → List Bool
  new last f = values_of sizes v last f

  abbrev FitsTerm : Ground → Type 0
  FitsTerm f = AtomsFit sizes f

  abbrev FitsIn : Operands → Type 0
  FitsIn operands = AtomsFitIn sizes operands

  -- ---- bodies

  abbrev pub rules_values : ℕ → List TimedRule → List Bool
  rules_values last rules = rules_values_of sizes v last rules

  abbrev pub has_body : (GroundHead → Bool) → TimedRule → Bool
  has_body test rule = test rule.head && truth v rule.body

  pub record AreRulesTold (last : ℕ) (made : MadeRules) (given : List Bool) (rules : List TimedRule) : Type 0 where
    pub ends : made.last ≡ last + length given
    pub meets : AllMet a made.clauses → Agrees a last given
    pub agrees : Agrees a last given → AllMet a made.clauses
    pub tests : Agrees a last given → (test : GroundHead → Bool) →
        list_any (lit a) (map (λ rule. rule.body) (filter (λ rule. test rule.head) made.rules)) ≡ list_any (has_body test) rules

  first_tested : (test : GroundHead → Bool) (head : GroundHead) (body : Literal) (others : List Bodied) (b : Bool) (rest : Bool) → lit a body ≡ b →
      list_any (lit a) (map (λ rule. rule.body) (filter (λ rule. test rule.head) others)) ≡ rest →
      list_any (lit a) (map (λ rule. rule.body) (filter (λ rule. test rule.head) ((record { head = head; body = body }) ∷ others))) ≡ (test head && b || rest)
  first_tested test head body others b rest is more = elim (cases_test (test head)) [
    | inl e ↦ subst (λ (t : Bool). list_any (lit a) (map (λ rule. rule.body) (cond t ((record { head = head; body = body }) ∷ filter (λ rule. test rule.head) others) (filter (λ rule. test rule.head) others))) ≡ (t && b || rest)) (sym e)
        (ap (λ (p : Bool). p || list_any (lit a) (map (λ rule. rule.body) (filter (λ rule. test rule.head) others))) is ∙ ap (λ (q : Bool). b || q) more)
    | inr e ↦ subst (λ (t : Bool). list_any (lit a) (map (λ rule. rule.body) (cond t ((record { head = head; body = body }) ∷ filter (λ rule. test rule.head) others) (filter (λ rule. test rule.head) others))) ≡ (t && b || rest)) (sym e) more
  ]

  pub rules_told : (rules : List TimedRule) (last : ℕ) → AllByRecursion (RuleFits sizes) rules → AreRulesTold last (made_rules sizes last rules) (rules_values last rules) rules
  rules_told [] last fit = record { ends = omega arith; meets = λ h. tt; agrees = λ h. tt; tests = λ h test. refl }
  rules_told (rule ∷ rules) last fit =
      let m = made_of sizes last rule.body in
      let n = made_rules sizes m.last rules in
      let xs = new last rule.body in
      let ys = rules_values m.last rules in
      let one = term_told a sizes v is_true atoms rule.body last (atoms_fit sizes rule.body fit.0.body) in
      let other = rules_told rules m.last fit.1 in
      record {
        ends = ends_together a last xs ys m.last one.ends n.last other.ends;
        meets = λ h. joined a last xs ys m.last one.ends (one.meets (met_left a m.clauses n.clauses h)) (other.meets (met_right a m.clauses n.clauses h));
        agrees = λ h. met_both a m.clauses n.clauses (one.agrees (agrees_left a last xs ys h)) (other.agrees (behind a last xs ys m.last one.ends h));
        tests = λ h test. first_tested test rule.head m.literal n.rules (truth v rule.body) (list_any (has_body test) rules) (one.literal (agrees_left a last xs ys h)) (other.tests (behind a last xs ys m.last one.ends h) test);
      }

  -- ---- rules that count

  pub atoms_counting : (rules : List TimedRule) (position value size : ℕ) → slice_get sizes position ≡ Some size → 1 < size →
      list_any (has_body (is_of_atom position value)) (rules_that_count sizes rules) ≡ list_any (has_body (is_of_atom position value)) rules
  atoms_counting rules position value size at more =
      any_filter (λ rule. not (is_certain sizes rule.head)) (has_body (is_of_atom position value)) rules (λ rule e. no_head rule.head (truth v rule.body) e)
    where
      read_at : (xs : List ℕ) (p : ℕ) → slice_get xs p ≡ Some size → slice_index_or xs p 0 ≡ size
      read_at [] p e = absurd cc
      read_at (x ∷ xs) zero e = cc
      read_at (x ∷ xs) (suc p) e = read_at xs p e

      no_head : (head : GroundHead) (b : Bool) → not (is_certain sizes head) ≡ false → (is_of_atom position value head && b) ≡ false
      no_head heads.Falsity b e = refl
      no_head (heads.Atom other index) b e = elim (cases_test (position == other)) [
        | inl same ↦
            let one = eqb-true (slice_index_or sizes other 0) 1 (turned (slice_index_or sizes other 0 == 1) e) in
            let here = ap (λ (p : ℕ). slice_index_or sizes p 0) (eqb-true position other same) in
            let read = read_at sizes position at in
            absurd (omega arith)
        | inr apart ↦ ap (λ (t : Bool). t && (value == index) && b) apart
      ]
        where
          turned : (t : Bool) → not t ≡ false → t ≡ true
          turned true f = refl
          turned false f = absurd cc

  pub falsity_counting : (rules : List TimedRule) → list_any (has_body is_falsity) (rules_that_count sizes rules) ≡ list_any (has_body is_falsity) rules
  falsity_counting rules = any_filter (λ rule. not (is_certain sizes rule.head)) (has_body is_falsity) rules (λ rule e. no_head rule.head (truth v rule.body) e)
    where
      no_head : (head : GroundHead) (b : Bool) → not (is_certain sizes head) ≡ false → (is_falsity head && b) ≡ false
      no_head (heads.Atom other index) b e = refl
      no_head heads.Falsity b e = absurd cc

  -- ---- denials

  pub denials_met : (rules : List Bodied) → list_any (lit a) (map (λ rule. rule.body) rules) ≡ false → AllMet a (map (λ rule. opposite rule.body ∷ []) rules)
  denials_met [] e = tt
  denials_met (rule ∷ rules) e = (
    or_is (lit a (opposite rule.body)) false (inl (opposite_is a rule.body ∙ ap not (first (lit a rule.body) (list_any (lit a) (map (λ rule. rule.body) rules)) e))),
    denials_met rules (rest (lit a rule.body) (list_any (lit a) (map (λ rule. rule.body) rules)) e),
  )
    where
      first : (p q : Bool) → (p || q) ≡ false → p ≡ false
      first true q e = absurd cc
      first false q e = refl

      rest : (p q : Bool) → (p || q) ≡ false → q ≡ false
      rest true q e = absurd cc
      rest false q e = e

  pub met_denials : (rules : List Bodied) → AllMet a (map (λ rule. opposite rule.body ∷ []) rules) → list_any (lit a) (map (λ rule. rule.body) rules) ≡ false
  met_denials [] h = refl
  met_denials (rule ∷ rules) h = neither (lit a rule.body) (list_any (lit a) (map (λ rule. rule.body) rules)) (untrue (lit a rule.body) (elim (or_gives (lit a (opposite rule.body)) false h.0) [ inl e ↦ sym (opposite_is a rule.body) ∙ e | inr e ↦ absurd cc ])) (met_denials rules h.1)
    where
      untrue : (p : Bool) → not p ≡ true → p ≡ false
      untrue true e = absurd cc
      untrue false e = refl

      neither : (p q : Bool) → p ≡ false → q ≡ false → (p || q) ≡ false
      neither true q e f = absurd cc
      neither false q e f = f

  -- ---- completion

  flat_gives : (f : ℕ → List (List Literal)) (n : ℕ) → AllMet a (flat_map f (upto n)) → (value : ℕ) → value < n → AllMet a (f value)
  flat_gives f zero h value less = absurd (omega arith)
  flat_gives f (suc n) h value less =
      let whole = subst (AllMet a) (flat_last (upto n) n) h in
      elim (cases_lt value n) [
        | inl below ↦ flat_gives f n (met_left a (flat_map f (upto n)) (f n) whole) value below
        | inr above ↦ subst (λ (k : ℕ). AllMet a (f k)) (let e : n ≡ value = omega arith in e) (met_right a (flat_map f (upto n)) (f n) whole)
      ]
    where
      flat_last : (xs : List ℕ) (x : ℕ) → flat_map f (xs ++ x ∷ []) ≡ flat_map f xs ++ f x
      flat_last [] x = append-nil (f x)
      flat_last (y ∷ xs) x = ap (λ l. f y ++ l) (flat_last xs x) ∙ sym (append_assoc (f y) (flat_map f xs) (f x))

  gives_flat : (f : ℕ → List (List Literal)) (n : ℕ) → ((value : ℕ) → value < n → AllMet a (f value)) → AllMet a (flat_map f (upto n))
  gives_flat f zero h = tt
  gives_flat f (suc n) h = subst (AllMet a) (sym (flat_last (upto n) n)) (met_both a (flat_map f (upto n)) (f n) (gives_flat f n (λ value less. h value (omega arith))) (h n (omega arith)))
    where
      flat_last : (xs : List ℕ) (x : ℕ) → flat_map f (xs ++ x ∷ []) ≡ flat_map f xs ++ f x
      flat_last [] x = append-nil (f x)
      flat_last (y ∷ xs) x = ap (λ l. f y ++ l) (flat_last xs x) ∙ sym (append_assoc (f y) (flat_map f xs) (f x))

  -- each atom of a position with two values or more is true where some of these is
  abbrev pub IsCompleted : List Bodied → List ℕ → ℕ → Type 0
  IsCompleted rules rest position = (k size value : ℕ) → slice_get rest k ≡ Some size → 1 < size → value < size →
      a (atom_variable sizes (position + k) value) ≡ list_any (lit a) (bodies_of (position + k) value rules)

  pub met_completion : (rules : List Bodied) (rest : List ℕ) (position : ℕ) → AllMet a (completion_from sizes rules position rest) → IsCompleted rules rest position
  met_completion rules [] position h k size value at more less = absurd cc
  met_completion rules (s ∷ rest) position h zero size value at more less =
      let same : s ≡ size = cc in
      let here : AllMet a (position_completion sizes rules position size) = subst (λ (n : ℕ). AllMet a (position_completion sizes rules position n)) same (met_left a (position_completion sizes rules position s) (completion_from sizes rules (position + 1) rest) h) in
      let open_ = subst (λ (b : Bool). AllMet a (if b then flat_map (λ value. completion_of (positive (atom_variable sizes position value)) (bodies_of position value rules)) (upto size) else [])) (lt-ltb 1 size more) here in
      subst (λ (p : ℕ). a (atom_variable sizes p value) ≡ list_any (lit a) (bodies_of p value rules)) (let e : position ≡ position + 0 = omega arith in e)
      (met_any a (positive (atom_variable sizes position value)) (bodies_of position value rules)
      (flat_gives (λ value. completion_of (positive (atom_variable sizes position value)) (bodies_of position value rules)) size open_ value less))
  met_completion rules (s ∷ rest) position h (suc k) size value at more less =
      subst (λ (p : ℕ). a (atom_variable sizes p value) ≡ list_any (lit a) (bodies_of p value rules)) (let e : position + 1 + k ≡ position + suc k = omega arith in e)
      (met_completion rules rest (position + 1) (met_right a (position_completion sizes rules position s) (completion_from sizes rules (position + 1) rest) h) k size value at more less)

  pub completion_met : (rules : List Bodied) (rest : List ℕ) (position : ℕ) → IsCompleted rules rest position → AllMet a (completion_from sizes rules position rest)
  completion_met rules [] position is = tt
  completion_met rules (s ∷ rest) position is =
      met_both a (position_completion sizes rules position s) (completion_from sizes rules (position + 1) rest)
      (elim (cases_test (nat_lt 1 s)) [
        | inl e ↦ subst (λ (b : Bool). AllMet a (if b then flat_map (λ value. completion_of (positive (atom_variable sizes position value)) (bodies_of position value rules)) (upto s) else [])) (sym e)
            (gives_flat (λ value. completion_of (positive (atom_variable sizes position value)) (bodies_of position value rules)) s (λ value less.
            any_met a (positive (atom_variable sizes position value)) (bodies_of position value rules)
            (subst (λ (p : ℕ). a (atom_variable sizes p value) ≡ list_any (lit a) (bodies_of p value rules)) (let f : position + 0 ≡ position = omega arith in f) (is 0 s value refl (ltb-true 1 s e) less))))
        | inr e ↦ subst (λ (b : Bool). AllMet a (if b then flat_map (λ value. completion_of (positive (atom_variable sizes position value)) (bodies_of position value rules)) (upto s) else [])) (sym e) tt
      ])
      (completion_met rules rest (position + 1) (λ k size value at more less.
      subst (λ (p : ℕ). a (atom_variable sizes p value) ≡ list_any (lit a) (bodies_of p value rules)) (let f : position + suc k ≡ position + 1 + k = omega arith in f) (is (suc k) size value at more less)))

  -- ---- terms that are asserted, and one that is denied

  abbrev pub terms_values : ℕ → List Ground → List Bool
  terms_values last formulas = terms_values_of sizes v last formulas

  pub terms_asserted : (formulas : List Ground) (last : ℕ) → AllByRecursion (AtomsFit sizes) formulas → AreAsserted a last (assert_all sizes last formulas) (terms_values last formulas) (AllTrue v formulas)
  terms_asserted [] last fit = record { ends = omega arith; meets = λ h. tt; holds = λ h. tt; agrees = λ h k. tt }
  terms_asserted (f ∷ formulas) last fit =
      let m = made_of sizes last f in
      let n = assert_all sizes m.last formulas in
      let xs = new last f in
      let ys = terms_values m.last formulas in
      let one = term_told a sizes v is_true atoms f last fit.0 in
      let other = terms_asserted formulas m.last fit.1 in
      let tail = (m.literal ∷ []) ∷ n.clauses in
      record {
        ends = ends_together a last xs ys m.last one.ends n.last other.ends;
        meets = λ h. joined a last xs ys m.last one.ends (one.meets (met_left a m.clauses tail h)) (other.meets (met_right a m.clauses tail h).1);
        holds = λ h. (sym (one.literal (one.meets (met_left a m.clauses tail h))) ∙ one_true a m.literal (met_right a m.clauses tail h).0, other.holds (met_right a m.clauses tail h).1);
        agrees = λ h k.
            met_both a m.clauses tail (one.agrees (agrees_left a last xs ys h))
            (or_is (lit a m.literal) false (inl (one.literal (agrees_left a last xs ys h) ∙ k.0)), other.agrees (behind a last xs ys m.last one.ends h) k.1);
      }

  abbrev pub claim_values : ℕ → Option Ground → List Bool
  claim_values last claim = claim_values_of sizes v last claim

  pub claim_denied : (claim : Option Ground) (last : ℕ) → IfSome claim (TermFits sizes) → AreAsserted a last (deny sizes last claim) (claim_values last claim) (IsDenied v claim)
  claim_denied None last fit = record { ends = omega arith; meets = λ h. tt; holds = λ h. tt; agrees = λ h k. tt }
  claim_denied (Some f) last fit =
      let m = made_of sizes last f in
      let one = term_told a sizes v is_true atoms f last (atoms_fit sizes f fit) in
      let tail = (opposite m.literal ∷ []) ∷ [] in
      record {
        ends = one.ends;
        meets = λ h. one.meets (met_left a m.clauses tail h);
        holds = λ h. sym (one.literal (one.meets (met_left a m.clauses tail h))) ∙ untrue (lit a m.literal) (sym (opposite_is a m.literal) ∙ one_true a (opposite m.literal) (met_right a m.clauses tail h).0);
        agrees = λ h k. met_both a m.clauses tail (one.agrees h) (or_is (lit a (opposite m.literal)) false (inl (opposite_is a m.literal ∙ ap not (one.literal h ∙ k))), tt);
      }
    where
      untrue : (p : Bool) → not p ≡ true → p ≡ false
      untrue true e = absurd cc
      untrue false e = refl
