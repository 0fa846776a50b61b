-- The clause list of rules, conditions, a claim and a key has clauses over its variables alone.
use Rattle.std.proofs.Common.{◌≡◌, ◌∙◌, ℕ, zero, suc, ◌+◌, ◌<◌, ◌≤◌, inl, inr, Bool, true, false, not, List, [], ◌∷◌, ◌++◌, map, flat_map, nat_lt, sum, slice_get, Option, Some, None, refl, ap, arith}
use Rattle.std.specs.Prelude.{if◌then◌else◌, IfSome}
use Rattle.std.specs.List.{filter, AllByRecursion, All, Contains}
use Rattle.std.proofs.lemmas.List.Elements.{All-from_recursion}
use Rattle.cc_defs.specs.declared.lists.Key.{Key}
use Rattle.cc_defs.specs.declared.node.GroundHead.{GroundHead}
use Rattle.cc_defs.specs.ClauseForms.{all_written, atom_variable, made_of, positive, true_variable}
use Rattle.cc_defs.specs.ClauseLists.{Asserted, Bodied, MadeRules, assert_all, bodies_of, clauses_over, completion_from, completion_of, denials_of, deny, is_certain, is_falsity, is_of_atom, key_terms, made_rules, position_completion, positions_from, rules_that_count}
use Rattle.cc_defs.specs.Clauses.{Literal, IsClause, IsOver, opposite, IsIn}
use Rattle.cc_defs.specs.Rules.{upto}
use Rattle.cc_defs.specs.Terms.{Ground}
use Rattle.cc_defs.specs.TimedRules.{TimedRule}
use Rattle.cc_form.specs.Laws.{AllFit, RuleFits, TermFits}
use Rattle.cc_form.proofs.Causes.{all_atoms_fit, all_filter, atoms_fit}
use Rattle.cc_form.proofs.Good.{AreGood, AreWithin, IsGood, IsWithin, all_written_good, any_good, both_all, more_good, positions_good, term_well}
use Rattle.cc_form.proofs.Meaning.{AtomsFit}
use Rattle.cc_form.proofs.Ordered.{among, contained}
use Rattle.cc_form.proofs.Positions.{atom_below, atom_some}
use Rattle.cc_form.proofs.Telling.{key_atoms}

module _ (sizes : List ℕ) where
  abbrev T : ℕ
  T = true_variable sizes

  -- ---- bodies

  abbrev BodiesIn : ℕ → List Bodied → Type 0
  BodiesIn n rules = AllByRecursion (λ rule. IsWithin n rule.body) rules

  more_bodies : (m n : ℕ) → m ≤ n → (rules : List Bodied) → BodiesIn m rules → BodiesIn n rules
  more_bodies m n less [] h = tt
  more_bodies m n less (r ∷ rules) h = ((h.0.0, (let here = h.0.1 in omega arith)), more_bodies m n less rules h.1)

  pub record RulesWell (last : ℕ) (made : MadeRules) : Type 0 where
    pub rises : last ≤ made.last
    pub bodies_in : BodiesIn made.last made.rules
    pub good : AreGood made.last made.clauses

  rules_well : (rules : List TimedRule) (last : ℕ) → AllByRecursion (RuleFits sizes) rules → T ≤ last → RulesWell last (made_rules sizes last rules)
  rules_well [] last fit most = record { rises = omega arith; bodies_in = tt; good = tt }
  rules_well (rule ∷ rules) last fit most =
      let m = made_of sizes last rule.body in
      let n = made_rules sizes m.last rules in
      let one = term_well sizes rule.body last (atoms_fit sizes rule.body fit.0.body) most in
      let other = rules_well rules m.last fit.1 (let up = one.rises in omega arith) in
      record {
        rises = (let u = one.rises in let w = other.rises in omega arith);
        bodies_in = ((one.literal_in.0, (let a = one.literal_in.1 in let w = other.rises in omega arith)), other.bodies_in);
        good = both_all (IsGood n.last) m.clauses n.clauses (more_good m.last n.last other.rises m.clauses one.good) other.good;
      }

  picked_in : (n : ℕ) (rules : List Bodied) (test : GroundHead → Bool) → BodiesIn n rules → AreWithin n (map (λ rule. rule.body) (filter (λ rule. test rule.head) rules))
  picked_in n rules test h = mapped (filter (λ rule. test rule.head) rules) (all_filter (λ rule. IsWithin n rule.body) (λ rule. test rule.head) rules h)
    where
      mapped : (rs : List Bodied) → BodiesIn n rs → AreWithin n (map (λ rule. rule.body) rs)
      mapped [] k = tt
      mapped (r ∷ rs) k = (k.0, mapped rs k.1)

  -- ---- completion

  flat_all : (P : List Literal → Type 0) (f : ℕ → List (List Literal)) (n : ℕ) → ((value : ℕ) → value < n → AllByRecursion P (f value)) → AllByRecursion P (flat_map f (upto n))
  flat_all P f zero h = tt
  flat_all P f (suc n) h = at (upto n) (flat_all P f n (λ value less. h value (omega arith)))
    where
      at : (xs : List ℕ) → AllByRecursion P (flat_map f xs) → AllByRecursion P (flat_map f (xs ++ n ∷ []))
      at [] k = both_all P (f n) [] (h n (omega arith)) tt
      at (x ∷ xs) k = both_all P (f x) (flat_map f (xs ++ n ∷ [])) (left (f x) (flat_map f xs) k) (at xs (right (f x) (flat_map f xs) k))
        where
          left : (cs ds : List (List Literal)) → AllByRecursion P (cs ++ ds) → AllByRecursion P cs
          left [] ds k = tt
          left (c ∷ cs) ds k = (k.0, left cs ds k.1)

          right : (cs ds : List (List Literal)) → AllByRecursion P (cs ++ ds) → AllByRecursion P ds
          right [] ds k = k
          right (c ∷ cs) ds k = right cs ds k.1

  completion_in : (n : ℕ) (rules : List Bodied) (rest : List ℕ) (position : ℕ) → sum sizes ≤ n → BodiesIn n rules → ((k size : ℕ) → slice_get rest k ≡ Some size → slice_get sizes (position + k) ≡ Some size) →
      AllByRecursion (AreWithin n) (completion_from sizes rules position rest)
  completion_in n rules [] position most inside at = tt
  completion_in n rules (size ∷ rest) position most inside at =
      both_all (AreWithin n) (position_completion sizes rules position size) (completion_from sizes rules (position + 1) rest) (chosen (nat_lt 1 size))
      (completion_in n rules rest (position + 1) most inside (λ k s e. ap (slice_get sizes) (let f : position + 1 + k ≡ position + suc k = omega arith in f) ∙ at (suc k) s e))
    where
      here : slice_get sizes position ≡ Some size
      here = ap (slice_get sizes) (let e : position ≡ position + 0 = omega arith in e) ∙ at 0 size refl

      chosen : (b : Bool) → AllByRecursion (AreWithin n) (if b then flat_map (λ value. completion_of (positive (atom_variable sizes position value)) (bodies_of position value rules)) (upto size) else [])
      chosen false = tt
      chosen true = flat_all (AreWithin n) (λ value. completion_of (positive (atom_variable sizes position value)) (bodies_of position value rules)) size (λ value less.
          any_good n (positive (atom_variable sizes position value))
          ((let some = atom_some sizes position value in omega arith), (let below = atom_below sizes position value (size, here, less) in omega arith))
          (bodies_of position value rules) (picked_in n rules (is_of_atom position value) inside))

  denials_in : (n : ℕ) (rules : List Bodied) → BodiesIn n rules → AllByRecursion (AreWithin n) (denials_of rules)
  denials_in n rules h = mapped (filter (λ rule. is_falsity rule.head) rules) (all_filter (λ rule. IsWithin n rule.body) (λ rule. is_falsity rule.head) rules h)
    where
      mapped : (rs : List Bodied) → BodiesIn n rs → AllByRecursion (AreWithin n) (map (λ rule. opposite rule.body ∷ []) rs)
      mapped [] k = tt
      mapped (r ∷ rs) k = ((k.0, tt), mapped rs k.1)

  -- ---- terms that are asserted

  pub record AssertedWell (last : ℕ) (made : Asserted) : Type 0 where
    pub rises : last ≤ made.last
    pub good : AreGood made.last made.clauses

  unit_good : (n : ℕ) (l : Literal) → IsWithin n l → IsGood n (l ∷ [])
  unit_good n l h = (tt, (h.0, h.1, tt))

  terms_well : (formulas : List Ground) (last : ℕ) → AllByRecursion (AtomsFit sizes) formulas → T ≤ last → AssertedWell last (assert_all sizes last formulas)
  terms_well [] last fit most = record { rises = omega arith; good = tt }
  terms_well (f ∷ formulas) last fit most =
      let m = made_of sizes last f in
      let n = assert_all sizes m.last formulas in
      let one = term_well sizes f last fit.0 most in
      let other = terms_well formulas m.last fit.1 (let up = one.rises in omega arith) in
      record {
        rises = (let u = one.rises in let w = other.rises in omega arith);
        good = both_all (IsGood n.last) m.clauses ((m.literal ∷ []) ∷ n.clauses) (more_good m.last n.last other.rises m.clauses one.good)
            (unit_good n.last m.literal (one.literal_in.0, (let a = one.literal_in.1 in let w = other.rises in omega arith)), other.good);
      }

  claim_well : (claim : Option Ground) (last : ℕ) → IfSome claim (TermFits sizes) → T ≤ last → AssertedWell last (deny sizes last claim)
  claim_well None last fit most = record { rises = omega arith; good = tt }
  claim_well (Some f) last fit most =
      let m = made_of sizes last f in
      let one = term_well sizes f last (atoms_fit sizes f fit) most in
      record { rises = one.rises; good = both_all (IsGood m.last) m.clauses ((opposite m.literal ∷ []) ∷ []) one.good (unit_good m.last (opposite m.literal) one.literal_in, tt) }

  -- ---- the whole list

  pub list_good : (rules : List TimedRule) (conditions : List Ground) (claim : Option Ground) (key : Option Key) → AllFit sizes rules conditions claim key →
      (T ≤ (clauses_over sizes rules conditions claim key).variables) × AreGood (clauses_over sizes rules conditions claim key).variables (clauses_over sizes rules conditions claim key).clauses
  list_good rules conditions claim key fit =
      let counted = rules_that_count sizes rules in
      let bodies = made_rules sizes T counted in
      let query = assert_all sizes bodies.last conditions in
      let denied = deny sizes query.last claim in
      let later = assert_all sizes denied.last (key_terms sizes key) in
      let n = later.last in
      let b = rules_well counted T (all_filter (RuleFits sizes) (λ rule. not (is_certain sizes rule.head)) rules fit.rules_fit) (omega arith) in
      let q = terms_well conditions bodies.last (all_atoms_fit sizes conditions fit.conditions_fit) (let u = b.rises in omega arith) in
      let d = claim_well claim query.last fit.claim_fits (let u = b.rises in let w = q.rises in omega arith) in
      let l = terms_well (key_terms sizes key) denied.last (key_atoms sizes key fit.key_fits) (let u = b.rises in let w = q.rises in let x = d.rises in omega arith) in
      let up_b = b.rises in
      let up_q = q.rises in
      let up_d = d.rises in
      let up_l = l.rises in
      let most : T ≤ n = omega arith in
      let first = (positive T ∷ []) ∷ positions_from 1 sizes in
      let completion = all_written (completion_from sizes bodies.rules 0 sizes) in
      let denials = all_written (denials_of bodies.rules) in
      let inside : BodiesIn n bodies.rules = more_bodies bodies.last n (omega arith) bodies.rules b.bodies_in in
      let below : sum sizes ≤ n = (let t : sum sizes + 1 ≤ n = most in omega arith) in (
        most,
        both_all (IsGood n) (first ++ bodies.clauses ++ completion ++ denials ++ query.clauses ++ denied.clauses) later.clauses
            (both_all (IsGood n) (first ++ bodies.clauses ++ completion ++ denials ++ query.clauses) denied.clauses
            (both_all (IsGood n) (first ++ bodies.clauses ++ completion ++ denials) query.clauses
            (both_all (IsGood n) (first ++ bodies.clauses ++ completion) denials
            (both_all (IsGood n) (first ++ bodies.clauses) completion
            (both_all (IsGood n) first bodies.clauses
            (unit_good n (positive T) ((let e : 0 < sum sizes + 1 = omega arith in e), most), positions_good sizes 1 n (omega arith) (let t : sum sizes + 1 ≤ n = most in omega arith))
            (more_good bodies.last n (omega arith) bodies.clauses b.good))
            (all_written_good n (completion_from sizes bodies.rules 0 sizes) (completion_in n bodies.rules sizes 0 below inside (λ k size e. ap (slice_get sizes) (let s : 0 + k ≡ k = omega arith in s) ∙ e))))
            (all_written_good n (denials_of bodies.rules) (denials_in n bodies.rules inside)))
            (more_good query.last n (omega arith) query.clauses q.good))
            (more_good denied.last n (omega arith) denied.clauses d.good))
            l.good,
      )

  -- the clauses of positions are among them
  pub choices_in : (rules : List TimedRule) (conditions : List Ground) (claim : Option Ground) (key : Option Key) (clause : List Literal) → Contains (positions_from 1 sizes) clause →
      Contains (clauses_over sizes rules conditions claim key).clauses clause
  choices_in rules conditions claim key clause has =
      let counted = rules_that_count sizes rules in
      let bodies = made_rules sizes T counted in
      let query = assert_all sizes bodies.last conditions in
      let denied = deny sizes query.last claim in
      let later = assert_all sizes denied.last (key_terms sizes key) in
      let first = (positive T ∷ []) ∷ positions_from 1 sizes in
      let completion = all_written (completion_from sizes bodies.rules 0 sizes) in
      let denials = all_written (denials_of bodies.rules) in
      contained (first ++ bodies.clauses ++ completion ++ denials ++ query.clauses ++ denied.clauses ++ later.clauses) clause
      (front (first ++ bodies.clauses ++ completion ++ denials ++ query.clauses ++ denied.clauses) later.clauses
      (front (first ++ bodies.clauses ++ completion ++ denials ++ query.clauses) denied.clauses
      (front (first ++ bodies.clauses ++ completion ++ denials) query.clauses
      (front (first ++ bodies.clauses ++ completion) denials
      (front (first ++ bodies.clauses) completion
      (front first bodies.clauses (inr (among (positions_from 1 sizes) clause has))))))))
    where
      front : (xs ys : List (List Literal)) → IsIn xs clause → IsIn (xs ++ ys) clause
      front [] ys h = absurd h
      front (x ∷ xs) ys (inl e) = inl e
      front (x ∷ xs) ys (inr h) = inr (front xs ys h)

pub all_clauses_are : (n : ℕ) (clauses : List (List Literal)) → AreGood n clauses → All IsClause clauses
all_clauses_are n clauses good = All-from_recursion IsClause clauses (each clauses good)
  where
    each : (cs : List (List Literal)) → AreGood n cs → AllByRecursion IsClause cs
    each [] h = tt
    each (c ∷ cs) h = (h.0.0, each cs h.1)

pub all_over_are : (n : ℕ) (clauses : List (List Literal)) → AreGood n clauses → All (IsOver n) clauses
all_over_are n clauses good = All-from_recursion (IsOver n) clauses (each clauses good)
  where
    each : (cs : List (List Literal)) → AreGood n cs → AllByRecursion (IsOver n) cs
    each [] h = tt
    each (c ∷ cs) h = (h.0.1, each cs h.1)
