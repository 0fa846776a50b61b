-- The clauses of the steps of a horizon of two, as they are gathered.
use Rattle.std.proofs.Common.{◌≡◌, ◌∙◌, ℕ, suc, ◌+◌, ◌-◌, ◌*◌, ◌<◌, ◌≤◌, List, [], ◌∷◌, ◌++◌, length, map, flat_map, take, drop, min, sum, Result, Ok, Err, OnOk, refl, sym, ap, subst, arith, append_assoc, append-nil, length-append}
use Rattle.std.specs.List.{AllByRecursion}
use Rattle.std.proofs.lemmas.List.{length-map, map-append}
use Rattle.std.proofs.lemmas.List.Sums.{sum_by-append}
use Rattle.cc_arena.specs.declared.ground_laws.GroundLaw.{GroundLaw}
use Rattle.cc_defs.specs.declared.signature.Const.{Const}
use Rattle.cc_defs.specs.ClauseForms.{all_written, true_variable}
use Rattle.cc_defs.specs.ClauseLists.{Bodied, MadeRules, completion_from}
use Rattle.cc_defs.specs.Clauses.{Literal}
use Rattle.cc_defs.specs.Description.{domain_sizes}
use Rattle.cc_defs.specs.Rules.{upto}
use Rattle.cc_defs.specs.Signatures.{Signature, ground_constants}
use Rattle.cc_theory.specs.declared.rule.TimedRule.{TimedRule}
use Rattle.cc_theory.specs.Making.{all_initial, rules_at_step, rules_for, stride_of}
use Rattle.cc_theory.specs.Theories.{GiveRules, sizes_of_step}
use Rattle.cc_form.specs.Making.{IsBodyOver, bodied, made_bodies}
use Rattle.cc_form.specs.Places.{position_sizes}
use Rattle.cc_form.specs.Steps.{bodies_at, completion_of_step, own_variables, step_bodies, truth_at}
use Rattle.cc_form.proofs.Finishing.{bodied_is}
use Rattle.cc_form.proofs.Placing.{each}
use Rattle.cc_form.proofs.Stepping.{I, M, bodies_are, flat_last, idle, initial_plain, step_ends}

abbrev pub bodies_in : List Bodied → List Literal
bodies_in rules = map (λ rule. rule.body) rules

-- ---- rules of a step

pub fits_as : (places sizes : List ℕ) (own stride : ℕ) (rules meant : List TimedRule) → places ≡ sizes → own ≡ stride → rules ≡ meant →
    AllByRecursion (IsBodyOver sizes stride) meant → AllByRecursion (IsBodyOver places own) rules
fits_as places sizes own stride rules meant at is are fit =
    subst (λ (p : List ℕ). AllByRecursion (IsBodyOver p own) rules) (sym at) (subst (λ (n : ℕ). AllByRecursion (IsBodyOver sizes n) rules) (sym is) (subst (AllByRecursion (IsBodyOver sizes stride)) (sym are) fit))

pub initial_still : (places : List ℕ) (stride last number : ℕ) (constants : List Const) → (made_bodies places stride last (all_initial number constants)).last ≡ last
initial_still places stride last number constants = (idle places stride last (all_initial number constants) (initial_plain number constants)).ends

module _ (signature : Signature) (laws : List GroundLaw) (give : GiveRules signature laws 2) where
  abbrev P : List ℕ
  P = position_sizes signature 2

  abbrev S : ℕ
  S = stride_of signature

  abbrev K : ℕ
  K = own_variables signature laws

  abbrev B : ℕ → MadeRules
  B step = step_bodies signature laws K 2 step

  pub step_next : {T E : Type 0} (result : Result T E) (new step own last : ℕ) (places : List ℕ) (rules : List TimedRule) → places ≡ P → own ≡ S → last ≡ truth_at signature 2 + step * K →
      rules ≡ rules_at_step S laws 2 step → step < 2 → OnOk result (new ≡ (made_bodies places own last rules).last) → OnOk result (new ≡ truth_at signature 2 + (step + 1) * K)
  step_next (Err e) new step own last places rules at is begins are less ends = tt
  step_next (Ok x) new step own last places rules at is begins are less ends =
      ends ∙ ap (λ (p : List ℕ). (made_bodies p own last rules).last) at ∙ ap (λ (n : ℕ). (made_bodies P n last rules).last) is
      ∙ ap (λ (n : ℕ). (made_bodies P S n rules).last) begins ∙ ap (λ (r : List TimedRule). (made_bodies P S (truth_at signature 2 + step * K) r).last) are
      ∙ step_ends signature laws give 2 step (omega arith) less ∙ ap (λ (n : ℕ). truth_at signature 2 + n * K) (let e : suc step ≡ step + 1 = omega arith in e)

  -- ---- all rules

  three_steps : {X : Type 0} (f : ℕ → List X) → flat_map f (upto (suc 2)) ≡ f 0 ++ f 1 ++ f 2
  three_steps f = flat_last f 2 ∙ ap (λ l. l ++ f 2) (flat_last f 1 ∙ ap (λ l. l ++ f 1) (flat_last f 0))

  pub all_literals : (l0 l1 l2 l3 l4 : List Literal) → l0 ≡ [] → l1 ≡ l0 ++ bodies_in (I signature laws give 2) → l2 ≡ l1 ++ bodies_in (B 0).rules → l3 ≡ l2 ++ bodies_in (B 1).rules →
      l4 ≡ l3 ++ bodies_in (B 2).rules → l4 ≡ bodies_in (bodies_at signature laws 2).rules
  all_literals l0 l1 l2 l3 l4 e0 e1 e2 e3 e4 =
      let body : Bodied → Literal = λ rule. rule.body in
      let initial = I signature laws give 2 in
      let one : l1 ≡ bodies_in initial = e1 ∙ ap (λ (l : List Literal). l ++ bodies_in initial) e0 in
      let two : l2 ≡ bodies_in initial ++ bodies_in (B 0).rules = e2 ∙ ap (λ (l : List Literal). l ++ bodies_in (B 0).rules) one in
      let three : l3 ≡ bodies_in initial ++ bodies_in (B 0).rules ++ bodies_in (B 1).rules = e3 ∙ ap (λ (l : List Literal). l ++ bodies_in (B 1).rules) two in
      e4 ∙ ap (λ (l : List Literal). l ++ bodies_in (B 2).rules) three
      ∙ ap (λ (l : List Literal). l ++ bodies_in (B 2).rules) (ap (λ (l : List Literal). l ++ bodies_in (B 1).rules) (sym (map-append body initial (B 0).rules)) ∙ sym (map-append body (initial ++ (B 0).rules) (B 1).rules))
      ∙ sym (map-append body (initial ++ (B 0).rules ++ (B 1).rules) (B 2).rules)
      ∙ ap (map body) (ap (λ (l : List Bodied). l ++ (B 2).rules) (append_assoc initial (B 0).rules (B 1).rules) ∙ append_assoc initial ((B 0).rules ++ (B 1).rules) (B 2).rules)
      ∙ ap (λ (l : List Bodied). map body (initial ++ l)) (sym (three_steps (λ i. (M signature laws give 2 i).rules)))
      ∙ ap (λ (r : MadeRules). map body r.rules) (sym (bodies_are signature laws give 2 (omega arith)))

  pub all_ends : (last : ℕ) → last ≡ (B 2).last → last ≡ (bodies_at signature laws 2).last
  all_ends last is = is ∙ ap (λ (r : MadeRules). r.last) (sym (bodies_are signature laws give 2 (omega arith)))

-- ---- completion of a step

taken_front : (xs ys : List ℕ) (n : ℕ) → length xs ≡ n → take n (xs ++ ys) ≡ xs
taken_front xs ys n long = ap (λ (k : ℕ). take k (xs ++ ys)) (sym long) ∙ own xs
  where
    own : (zs : List ℕ) → take (length zs) (zs ++ ys) ≡ zs
    own [] = refl
    own (z ∷ zs) = ap (λ (l : List ℕ). z ∷ l) (own zs)

dropped_front : (xs ys : List ℕ) (n : ℕ) → length xs ≡ n → drop n (xs ++ ys) ≡ ys
dropped_front xs ys n long = ap (λ (k : ℕ). drop k (xs ++ ys)) (sym long) ∙ own xs
  where
    own : (zs : List ℕ) → drop (length zs) (zs ++ ys) ≡ ys
    own [] = refl
    own (z ∷ zs) = own zs

module _ (signature : Signature) where
  abbrev F : List ℕ
  F = domain_sizes signature.fluents

  abbrev two : List ℕ
  two = position_sizes signature 2

  abbrev stride : ℕ
  stride = stride_of signature

  each_long : length (each signature) ≡ stride
  each_long = length-map (ground_constants signature) (λ (c : Const). length c.domain) ∙ length-append signature.fluents signature.actions

  pub first_part : (end : ℕ) → end ≡ stride → take (end - 0) (drop 0 two) ≡ sizes_of_step signature 2 0
  first_part end is = taken_front (each signature) (each signature ++ F) (end - 0) (let e = each_long in omega arith)

  pub later_part : (start end : ℕ) → start ≡ stride → end ≡ 2 * stride → take (end - start) (drop start two) ≡ sizes_of_step signature 2 1
  later_part start end from to =
      ap (take (end - start)) (dropped_front (each signature) (each signature ++ F) start (let e = each_long in omega arith)) ∙ taken_front (each signature) F (end - start) (let e = each_long in omega arith)

  pub last_part : (start end : ℕ) → start ≡ 2 * stride → end ≡ length two → take (end - start) (drop start two) ≡ sizes_of_step signature 2 2
  last_part start end from to =
      let e = each_long in
      let one = length-append (each signature) (each signature ++ F) in
      let other = length-append (each signature) F in
      let both = length-append (each signature) (each signature) in
      ap (λ (l : List ℕ). take (end - start) (drop start l)) (sym (append_assoc (each signature) (each signature) F))
      ∙ ap (take (end - start)) (dropped_front (each signature ++ each signature) F start (omega arith))
      ∙ ap (take (end - start)) (sym (append-nil F)) ∙ taken_front F [] (end - start) (omega arith)

  pub parts_within : 2 * stride ≤ length two
  parts_within =
      let e = each_long in
      let one = length-append (each signature) (each signature ++ F) in
      let other = length-append (each signature) F in
      omega arith

  pub completion_part : (laws : List GroundLaw) (k : ℕ) (places : List ℕ) (rules : List TimedRule) (literals : List Literal) (start end : ℕ) → places ≡ two → rules ≡ rules_for signature laws 2 →
      literals ≡ bodies_in (bodies_at signature laws 2).rules → start ≡ k * stride → take (end - start) (drop start two) ≡ sizes_of_step signature 2 k →
      all_written (completion_from places (bodied rules literals) start (take (end - start) (drop start places))) ≡ completion_of_step signature laws 2 k
  completion_part laws k places rules literals start end at are made from part =
      ap (λ (p : List ℕ). all_written (completion_from p (bodied rules literals) start (take (end - start) (drop start p)))) at
      ∙ ap (λ (r : List Bodied). all_written (completion_from two r start (take (end - start) (drop start two))))
      (ap (λ (r : List TimedRule). bodied r literals) are ∙ ap (bodied (rules_for signature laws 2)) made ∙ bodied_is two stride (truth_at signature 2) (rules_for signature laws 2))
      ∙ ap (λ (l : List ℕ). all_written (completion_from two (bodies_at signature laws 2).rules start l)) part
      ∙ ap (λ (n : ℕ). all_written (completion_from two (bodies_at signature laws 2).rules n (sizes_of_step signature 2 k))) from

  pub few_values : true_variable two ≤ 4000000 → min (sum (each signature)) 4000001 ≡ sum (each signature)
  few_values few =
      let one = sum_by-append (λ (n : ℕ). n) (each signature) (each signature ++ F) in
      omega arith

  pub later_within : (step : ℕ) (places : List ℕ) → step ≡ stride → places ≡ two → 2 * step ≤ length places
  later_within step places is at = let within = parts_within in let long = ap length at in omega arith

  pub first_within : (step : ℕ) (places : List ℕ) → step ≡ stride → places ≡ two → step ≤ length places
  first_within step places is at = let within = later_within step places is at in omega arith

pub own_is : (start truth own last : ℕ) → start ≡ truth → last ≡ truth + (0 + 1) * own → last - start ≡ own
own_is start truth own last e f = omega arith
