-- The clauses of a horizon, put together from those of the steps of a horizon of two.
use Rattle.std.proofs.Common.{◌≡◌, ◌∙◌, ℕ, suc, ◌+◌, ◌-◌, ◌*◌, ◌≤◌, List, [], ◌∷◌, ◌++◌, length, flat_map, sum, Bool, IsErrAnd, Option, None, Result, Ok, Err, OnOk, IfOk, IfErr, refl, sym, ap, subst, arith, append_assoc}
use Rattle.std.specs.List.{AllByRecursion}
use Rattle.std.specs.Option.{option_or}
use Rattle.std.proofs.lemmas.Bool.{le-ltb}
use Rattle.cc_arena.specs.declared.ground_laws.GroundLaw.{GroundLaw}
use Rattle.cc_defs.specs.declared.lists.Key.{Key}
use Rattle.cc_defs.specs.declared.refusal.Fault.{Fault}
use Rattle.cc_defs.specs.declared.refusal.Refusal.{Refusal}
use Rattle.cc_defs.specs.ClauseForms.{all_written, true_variable}
use Rattle.cc_defs.specs.ClauseLists.{ClauseList, MadeRules, completion_from, denials_of}
use Rattle.cc_defs.specs.Clauses.{Literal}
use Rattle.cc_defs.specs.Description.{Description}
use Rattle.cc_defs.specs.GroundLaws.{PlainGroundQuery, StandsForQuery}
use Rattle.cc_defs.specs.Refusals.{IsRefusedBy}
use Rattle.cc_defs.specs.Resolved.{Query}
use Rattle.cc_defs.specs.Rules.{upto}
use Rattle.cc_defs.specs.Sections.{Axioms}
use Rattle.cc_defs.specs.Signatures.{Signature}
use Rattle.cc_defs.specs.TimedRules.{timed_rules}
use Rattle.cc_theory.specs.declared.rule.TimedRule.{TimedRule}
use Rattle.cc_theory.specs.Making.{rules_for, stride_of}
use Rattle.cc_theory.specs.Theories.{AreLawsOf, GiveRules, rules_refusal}
use Rattle.cc_form.specs.declared.moving.Way.{Way}
use Rattle.cc_form.specs.declared.steps.Steps.{Steps}
use Rattle.cc_form.specs.declared.store.Kept.{Kept}
use Rattle.cc_form.specs.Forms.{section_refusal}
use Rattle.cc_form.specs.Laws.{AllFit}
use Rattle.cc_form.specs.Making.{IsBodyOver, made_bodies, rules_list}
use Rattle.cc_form.specs.Parts.{first_clauses}
use Rattle.cc_form.specs.Places.{position_sizes}
use Rattle.cc_form.specs.Steps.{AreOver, AreOverSteps, AreSteps, CanPlace, IsFormAt, bodies_at, bodies_of_step, completion_of_step, denials_of_step, placed, placed_by, placed_steps, truth_at, way_of}
use Rattle.cc_form.specs.Store.{Gives}
use Rattle.cc_form.proofs.Bodies.{bodies_rise}
use Rattle.cc_form.proofs.Causes.{all_left, all_right}
use Rattle.cc_form.proofs.Good.{AreGood, IsGood}
use Rattle.cc_form.proofs.GoodLists.{list_good}
use Rattle.cc_form.proofs.Keeping.{gives_more}
use Rattle.cc_form.proofs.Meant.{list_is, meant_fit, some_meant}
use Rattle.cc_form.proofs.Placing.{sums_below}
use Rattle.cc_form.proofs.Spreading.{bodies_placed, completion_all, completion_placed, denials_all, denials_placed, last_is}
use Rattle.cc_form.proofs.Standing.{rules_stand}
use Rattle.cc_form.proofs.Stepping.{M, all_at, bodies_are, low_middle}

-- ---- the clauses of rules are over their variables

pub record RulesGood (sizes : List ℕ) (made : MadeRules) : Type 0 where
  pub bodies : AreGood made.last made.clauses
  pub completion : AreGood made.last (all_written (completion_from sizes made.rules 0 sizes))
  pub denials : AreGood made.last (all_written (denials_of made.rules))

rules_good : (sizes : List ℕ) (stride : ℕ) (rules : List TimedRule) → AllByRecursion (IsBodyOver sizes stride) rules → RulesGood sizes (made_bodies sizes stride (true_variable sizes) rules)
rules_good sizes stride rules fits =
    let made = made_bodies sizes stride (true_variable sizes) rules in
    let first = first_clauses sizes in
    let C = all_written (completion_from sizes made.rules 0 sizes) in
    let D = all_written (denials_of made.rules) in
    let P = IsGood made.last in
    let some = some_meant sizes stride rules fits in
    let fit : AllFit sizes some.0 [] None None = record { rules_fit = meant_fit sizes stride rules some.0 fits some.1; conditions_fit = tt; claim_fits = tt; key_fits = tt } in
    let good = subst (λ (l : ClauseList). AreGood l.variables l.clauses) (sym (list_is sizes stride rules some.0 [] None None some.1)) (list_good sizes some.0 [] None None fit).1 in
    let four = all_left P (first ++ made.clauses ++ C ++ D) [] (all_left P (first ++ made.clauses ++ C ++ D ++ []) [] (all_left P (first ++ made.clauses ++ C ++ D ++ [] ++ []) [] good)) in
    let three = all_left P (first ++ made.clauses ++ C) D four in
    record {
      bodies = all_right P first made.clauses (all_left P (first ++ made.clauses) C three);
      completion = all_right P (first ++ made.clauses) C three;
      denials = all_right P (first ++ made.clauses ++ C) D four;
    }

over_of : (top : ℕ) (clauses : List (List Literal)) → AreGood top clauses → AreOver top clauses
over_of top [] good = tt
over_of top (c ∷ clauses) good = (good.0.1, over_of top clauses good.1)

module _ (signature : Signature) (laws : List GroundLaw) (give : GiveRules signature laws 2) (steps : Steps) (are : AreSteps signature laws steps) where
  abbrev P : ℕ → List ℕ
  P horizon = position_sizes signature horizon

  abbrev S : ℕ
  S = stride_of signature

  abbrev made : MadeRules
  made = bodies_at signature laws 2

  good : RulesGood (P 2) made
  good = rules_good (P 2) S (rules_for signature laws 2) (rules_stand signature 2 (rules_for signature laws 2) (omega arith) give.fit)

  part_over : (all : List (List Literal)) (f : ℕ → List (List Literal)) (k : ℕ) (part : List (List Literal)) → AreGood made.last all → all ≡ flat_map f (upto (suc 2)) → k ≤ 2 → part ≡ f k → AreOver steps.ends part
  part_over all f k part is at within same =
      subst (λ (n : ℕ). AreOver n part) (sym are.ends)
      (over_of made.last part (subst (AreGood made.last) (sym same) (all_at (IsGood made.last) f (suc 2) k (omega arith) (subst (AreGood made.last) at is))))

  bodies_all : made.clauses ≡ flat_map (bodies_of_step signature laws 2) (upto (suc 2))
  bodies_all = ap (λ (r : MadeRules). r.clauses) (bodies_are signature laws give 2 (omega arith))

  bodies_over : (k : ℕ) (part : List (List Literal)) → k ≤ 2 → part ≡ bodies_of_step signature laws 2 k → AreOver steps.ends part
  bodies_over k part within same = part_over made.clauses (bodies_of_step signature laws 2) k part good.bodies bodies_all within same

  completion_over : (k : ℕ) (part : List (List Literal)) → k ≤ 2 → part ≡ completion_of_step signature laws 2 k → AreOver steps.ends part
  completion_over k part within same = part_over (all_written (completion_from (P 2) made.rules 0 (P 2))) (completion_of_step signature laws 2) k part good.completion (completion_all signature laws give 2) within same

  denials_over : (k : ℕ) (part : List (List Literal)) → k ≤ 2 → part ≡ denials_of_step signature laws 2 k → AreOver steps.ends part
  denials_over k part within same = part_over (all_written (denials_of made.rules)) (denials_of_step signature laws 2) k part good.denials (denials_all signature laws give 2 (omega arith)) within same

  pub over_steps : AreOverSteps steps.ends steps
  over_steps = record {
    first = record { bodies = bodies_over 0 steps.first.bodies (omega arith) are.first.bodies; completion = completion_over 0 steps.first.completion (omega arith) are.first.completion; denials = denials_over 0 steps.first.denials (omega arith) are.first.denials };
    later = record { bodies = bodies_over 1 steps.later.bodies (omega arith) are.later.bodies; completion = completion_over 1 steps.later.completion (omega arith) are.later.completion; denials = denials_over 1 steps.later.denials (omega arith) are.later.denials };
    last = record { bodies = bodies_over 2 steps.last.bodies (omega arith) are.last.bodies; completion = completion_over 2 steps.last.completion (omega arith) are.last.completion; denials = denials_over 2 steps.last.denials (omega arith) are.last.denials };
  }

  -- ---- a horizon

  module _ (m : ℕ) (some : 2 ≤ m) (truth : ℕ) (truth_is : truth ≡ truth_at signature m) where
    pub atoms_below : steps.atoms + 1 ≤ truth
    atoms_below = let below = sums_below signature 0 m (omega arith) in let atoms = are.atoms in omega arith

    module _ (way : Way) (made_so : way ≡ record { atoms = steps.atoms; values = steps.values; middle = truth - (steps.atoms + 1); own = steps.own }) where
      pub way_is : way ≡ way_of signature laws m
      way_is =
          made_so
          ∙ ap (λ (n : ℕ). let w : Way = record { atoms = n; values = steps.values; middle = truth - (n + 1); own = steps.own } in w) are.atoms
          ∙ ap (λ (n : ℕ). let w : Way = record { atoms = sum (P 2); values = n; middle = truth - (sum (P 2) + 1); own = steps.own } in w) are.values
          ∙ ap (λ (n : ℕ). let w : Way = record { atoms = sum (P 2); values = (way_of signature laws m).values; middle = n - (sum (P 2) + 1); own = steps.own } in w) truth_is
          ∙ ap (λ (n : ℕ). let w : Way = record { atoms = sum (P 2); values = (way_of signature laws m).values; middle = truth_at signature m - (sum (P 2) + 1); own = n } in w) are.own

      ends_is : steps.ends ≡ (M signature laws give 2 2).last
      ends_is = are.ends ∙ ap (λ (r : MadeRules). r.last) (bodies_are signature laws give 2 (omega arith))

      pub last_same : steps.ends + (way.middle + (m - 2) * way.own) ≡ (bodies_at signature laws m).last
      last_same =
          ap (λ (w : Way). steps.ends + (w.middle + (m - 2) * w.own)) way_is
          ∙ ap (λ (n : ℕ). n + ((way_of signature laws m).middle + (m - 2) * (way_of signature laws m).own)) ends_is
          ∙ sym (last_is signature laws give m some)

      pub can_place : steps.ends + (way.middle + (m - 2) * way.own) ≤ 4000000 → CanPlace way m steps.ends
      can_place few = record {
        some = some;
        few = (let up = bodies_rise (P 2) S (truth_at signature 2) (rules_for signature laws 2) in let ends = are.ends in let most = are.within in let e = ap (λ (w : Way). w.atoms) way_is in omega arith);
        low = subst (λ (w : Way). (m - 2) * w.values ≤ w.middle) (sym way_is) (low_middle signature laws give m (m - 2) (omega arith));
        most = few;
      }

      same_placed : (f : ℕ → List (List Literal)) (first later last : List (List Literal)) → first ≡ f 0 → later ≡ f 1 → last ≡ f 2 → placed_by way m first later last ≡ placed signature laws m (f 0) (f 1) (f 2)
      same_placed f first later last one two three =
          ap (λ (w : Way). placed_by w m first later last) way_is
          ∙ ap (λ (c : List (List Literal)). placed signature laws m c later last) one
          ∙ ap (λ (c : List (List Literal)). placed signature laws m (f 0) c last) two
          ∙ ap (λ (c : List (List Literal)). placed signature laws m (f 0) (f 1) c) three

      abbrev C : List (List Literal)
      C = all_written (completion_from (P m) (bodies_at signature laws m).rules 0 (P m))

      abbrev D : List (List Literal)
      D = all_written (denials_of (bodies_at signature laws m).rules)

      pub groups_placed : placed_steps way m steps ≡ (bodies_at signature laws m).clauses ++ C ++ D
      groups_placed =
          let B = (bodies_at signature laws m).clauses in
          let c = placed_by way m steps.first.completion steps.later.completion steps.last.completion in
          let d = placed_by way m steps.first.denials steps.later.denials steps.last.denials in
          ap (λ (b : List (List Literal)). b ++ c ++ d)
          (same_placed (bodies_of_step signature laws 2) steps.first.bodies steps.later.bodies steps.last.bodies are.first.bodies are.later.bodies are.last.bodies ∙ sym (bodies_placed signature laws give m some))
          ∙ ap (λ (x : List (List Literal)). B ++ x ++ d)
          (same_placed (completion_of_step signature laws 2) steps.first.completion steps.later.completion steps.last.completion are.first.completion are.later.completion are.last.completion ∙ sym (completion_placed signature laws give m some))
          ∙ ap (λ (x : List (List Literal)). B ++ C ++ x)
          (same_placed (denials_of_step signature laws 2) steps.first.denials steps.later.denials steps.last.denials are.first.denials are.later.denials are.last.denials ∙ sym (denials_placed signature laws give m some))

      pub clauses_given : (old between new : Kept) → Gives old between (first_clauses (P m)) → Gives between new (placed_steps way m steps) → Gives old new (rules_list (P m) S (rules_for signature laws m)).clauses
      clauses_given old between new one other =
          let B = (bodies_at signature laws m).clauses in
          let F = first_clauses (P m) in
          subst (Gives old new) (ap (λ (x : List (List Literal)). F ++ x) groups_placed ∙ sym (append_assoc F (B ++ C) D) ∙ ap (λ (x : List (List Literal)). x ++ D) (sym (append_assoc F B C)))
          (gives_more old between new F (placed_steps way m steps) one other)

-- ---- refusals

abbrev length_of : Description → ℕ → ℕ
length_of d horizon = length (timed_rules d horizon)

pub rules_few : (d : Description) (horizon count : ℕ) → count ≡ length_of d horizon → count ≤ 8000000 → rules_refusal d horizon ≡ None
rules_few d horizon count is few = rw (le-ltb 8000000 (length_of d horizon) (subst (λ (n : ℕ). n ≤ 8000000) is few)) refl

pub refused_so : {T : Type 0} (result : Result T Fault) (rules form : Option Refusal) → rules ≡ None → IfErr result (IsRefusedBy form) → IfErr result (IsRefusedBy (option_or rules form))
refused_so result rules form none is = subst (λ (o : Option Refusal). IfErr result (IsRefusedBy (option_or o form))) (sym none) is

pub within_so : {T E : Type 0} (result : Result T E) (rules form : Option Refusal) → rules ≡ None → OnOk result (form ≡ None) → OnOk result (option_or rules form ≡ None)
within_so result rules form none is = subst (λ (o : Option Refusal). OnOk result (option_or o form ≡ None)) (sym none) is

pub told_so : {X E : Type 0} (r : Result X E) (P : X → Type 0) (x : X) → IfOk r (λ form. form ≡ x) → IfOk r P → OnOk r (P x)
told_so (Ok form) P x is holds = subst P is holds
told_so (Err e) P x is holds = tt

pub err_form : (signature : Signature) (laws : List GroundLaw) (horizon : ℕ) (query : PlainGroundQuery) (with_claim : Bool) (key : Option Key) (row : Option (List ℕ)) (result : Result Axioms Fault) (fault : Fault) →
    IsErrAnd result (λ given. given ≡ fault) →
    ((d : Description) (q : Query) → AreLawsOf signature laws d → StandsForQuery query d q → IfErr result (IsRefusedBy (section_refusal d q horizon with_claim key))) →
    IsFormAt signature laws horizon query with_claim key row result
err_form signature laws horizon query with_claim key row (Ok form) fault is refused = absurd is
err_form signature laws horizon query with_claim key row (Err given) fault is refused = record { made = λ d q of stands. tt; tells = λ d q of stands. tt; within = λ d q of stands. tt; refused = refused }
