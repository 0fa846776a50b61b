-- The clauses of rules are those of the steps of a horizon of two, moved.
use Rattle.std.proofs.Common.{◌≡◌, ◌∙◌, ℕ, zero, suc, ◌+◌, ◌-◌, ◌*◌, ◌<◌, ◌≤◌, Bool, true, false, List, [], ◌∷◌, ◌++◌, length, map, flat_map, nat_lt, Some, slice_get, refl, sym, ap, arith, append_assoc, append-nil, length-append}
use Rattle.std.specs.Prelude.{if◌then◌else◌, cond}
use Rattle.std.specs.List.{filter, AllByRecursion}
use Rattle.std.proofs.Math.Nat.{add-mul}
use Rattle.std.proofs.lemmas.Bool.{lt-ltb, le-ltb}
use Rattle.std.proofs.lemmas.List.{length-map, map-append}
use Rattle.std.proofs.lemmas.List.Elements.{filter-append}
use Rattle.cc_arena.specs.declared.ground_laws.GroundLaw.{GroundLaw}
use Rattle.cc_defs.specs.declared.node.GroundHead.{GroundHead}
use Rattle.cc_defs.specs.declared.node.GroundHead.TheVariants as heads
use Rattle.cc_defs.specs.declared.signature.Const.{Const}
use Rattle.cc_defs.specs.declared.signature.Kind.{Kind}
use Rattle.cc_defs.specs.declared.signature.Kind.TheVariants as kinds
use Rattle.cc_defs.specs.ClauseForms.{all_written, atom_variable, positive, written}
use Rattle.cc_defs.specs.ClauseLists.{Bodied, MadeRules, bodies_of, completion_from, completion_of, denials_of, is_falsity, position_completion}
use Rattle.cc_defs.specs.Clauses.{Literal, opposite}
use Rattle.cc_defs.specs.Description.{domain_sizes}
use Rattle.cc_defs.specs.Rules.{upto}
use Rattle.cc_defs.specs.Signatures.{Signature, ground_constants}
use Rattle.cc_theory.specs.declared.rule.TimedRule.{TimedRule}
use Rattle.cc_theory.specs.Making.{all_initial, initial_of, initial_rule, stride_of}
use Rattle.cc_theory.specs.Theories.{GiveRules, plain_head, sizes_of_step}
use Rattle.cc_form.specs.Making.{made_bodies, made_rule}
use Rattle.cc_form.specs.Moving.{head_behind, renamed, renamed_bodied, renamed_clauses}
use Rattle.cc_form.specs.Places.{position_sizes}
use Rattle.cc_form.specs.Steps.{bodies_at, bodies_of_step, completion_of_step, denials_of_step, placed}
use Rattle.cc_form.proofs.Completing.{bodies_like}
use Rattle.cc_form.proofs.Placing.{behind_steps, each, steps_long, steps_of}
use Rattle.cc_form.proofs.Renaming.{all_written_renamed, any_clauses_renamed}
use Rattle.cc_form.proofs.Standing.{back}
use Rattle.cc_form.proofs.Stepping.{I, IsLike, M, atom_named, bodies_are, flat_last, high, like_early, like_last, name, name_rises, step_renamed}

-- ---- written clauses

pub written_two : (xs ys : List (List Literal)) → all_written (xs ++ ys) ≡ all_written xs ++ all_written ys
written_two [] ys = refl
written_two (x ∷ xs) ys = ap (λ (l : List (List Literal)). written x ++ l) (written_two xs ys) ∙ sym (append_assoc (written x) (all_written xs) (all_written ys))

-- ---- parts that are renamed

flat_like : (s : ℕ → ℕ) (f g : ℕ → List (List Literal)) (n : ℕ) → ((v : ℕ) → v < n → f v ≡ renamed_clauses s (g v)) → flat_map f (upto n) ≡ renamed_clauses s (flat_map g (upto n))
flat_like s f g zero is = refl
flat_like s f g (suc n) is =
    flat_last f n ∙ ap (λ (l : List (List Literal)). l ++ f n) (flat_like s f g n (λ v less. is v (omega arith)))
    ∙ ap (λ (l : List (List Literal)). renamed_clauses s (flat_map g (upto n)) ++ l) (is n (omega arith))
    ∙ sym (map-append (map (renamed s)) (flat_map g (upto n)) (g n)) ∙ ap (renamed_clauses s) (sym (flat_last g n))

-- ---- completion in parts

completion_two : (sizes : List ℕ) (rules : List Bodied) (position : ℕ) (xs ys : List ℕ) →
    completion_from sizes rules position (xs ++ ys) ≡ completion_from sizes rules position xs ++ completion_from sizes rules (position + length xs) ys
completion_two sizes rules position [] ys = ap (λ (n : ℕ). completion_from sizes rules n ys) (let e : position ≡ position + 0 = omega arith in e)
completion_two sizes rules position (x ∷ xs) ys =
    let here = position_completion sizes rules position x in
    ap (λ (l : List (List Literal)). here ++ l) (completion_two sizes rules (position + 1) xs ys)
    ∙ sym (append_assoc here (completion_from sizes rules (position + 1) xs) (completion_from sizes rules (position + 1 + length xs) ys))
    ∙ ap (λ (n : ℕ). here ++ completion_from sizes rules (position + 1) xs ++ completion_from sizes rules n ys) (let e : position + 1 + length xs ≡ position + suc (length xs) = omega arith in e)

-- ---- denials in parts

pub denials_two : (xs ys : List Bodied) → denials_of (xs ++ ys) ≡ denials_of xs ++ denials_of ys
denials_two xs ys =
    let test : Bodied → Bool = λ rule. is_falsity rule.head in
    ap (map (λ (rule : Bodied). opposite rule.body ∷ [])) (filter-append test xs ys) ∙ map-append (λ (rule : Bodied). opposite rule.body ∷ []) (filter test xs) (filter test ys)

denials_flat : (f : ℕ → List Bodied) (n : ℕ) → all_written (denials_of (flat_map f (upto n))) ≡ flat_map (λ j. all_written (denials_of (f j))) (upto n)
denials_flat f zero = refl
denials_flat f (suc n) =
    ap (λ (l : List Bodied). all_written (denials_of l)) (flat_last f n) ∙ ap all_written (denials_two (flat_map f (upto n)) (f n))
    ∙ written_two (denials_of (flat_map f (upto n))) (denials_of (f n))
    ∙ ap (λ (l : List (List Literal)). l ++ all_written (denials_of (f n))) (denials_flat f n) ∙ sym (flat_last (λ j. all_written (denials_of (f j))) n)

falsity_behind : (by : ℕ) (head : GroundHead) → is_falsity (head_behind by head) ≡ is_falsity head
falsity_behind by (heads.Atom position value) = refl
falsity_behind by heads.Falsity = refl

denials_behind : (s : ℕ → ℕ) (by : ℕ) (rules : List Bodied) → denials_of (map (renamed_bodied s by) rules) ≡ renamed_clauses s (denials_of rules)
denials_behind s by [] = refl
denials_behind s by (rule ∷ rules) =
    let more = filter (λ (r : Bodied). is_falsity r.head) (map (renamed_bodied s by) rules) in
    let kept = filter (λ (r : Bodied). is_falsity r.head) rules in
    ap (λ (t : Bool). map (λ (r : Bodied). opposite r.body ∷ []) (cond t (renamed_bodied s by rule ∷ more) more)) (falsity_behind by rule.head)
    ∙ taken (is_falsity rule.head) more kept (denials_behind s by rules)
  where
    taken : (t : Bool) (more kept : List Bodied) → map (λ (r : Bodied). opposite r.body ∷ []) more ≡ renamed_clauses s (map (λ (r : Bodied). opposite r.body ∷ []) kept) →
        map (λ (r : Bodied). opposite r.body ∷ []) (cond t (renamed_bodied s by rule ∷ more) more) ≡ renamed_clauses s (map (λ (r : Bodied). opposite r.body ∷ []) (cond t (rule ∷ kept) kept))
    taken true more kept e = ap (λ (l : List (List Literal)). (opposite (renamed s rule.body) ∷ []) ∷ l) e
    taken false more kept e = e

-- initial rules have atoms for heads
abbrev IsNoDenial : TimedRule → Type 0
IsNoDenial rule = is_falsity (plain_head rule.head) ≡ false

no_denials : (sizes : List ℕ) (stride last : ℕ) (rules : List TimedRule) → AllByRecursion IsNoDenial rules → denials_of (made_bodies sizes stride last rules).rules ≡ []
no_denials sizes stride last [] none = refl
no_denials sizes stride last (rule ∷ rules) none =
    let m = made_rule sizes stride last rule in
    let b : Bodied = record { head = plain_head rule.head; body = m.literal } in
    let kept = filter (λ (r : Bodied). is_falsity r.head) (made_bodies sizes stride m.last rules).rules in
    ap (λ (t : Bool). map (λ (r : Bodied). opposite r.body ∷ []) (cond t (b ∷ kept) kept)) none.0 ∙ no_denials sizes stride m.last rules none.1

mapped_none : (number : ℕ) (xs : List ℕ) → AllByRecursion IsNoDenial (map (initial_rule number) xs)
mapped_none number [] = tt
mapped_none number (x ∷ xs) = (refl, mapped_none number xs)

two_none : (xs ys : List TimedRule) → AllByRecursion IsNoDenial xs → AllByRecursion IsNoDenial ys → AllByRecursion IsNoDenial (xs ++ ys)
two_none [] ys h k = k
two_none (x ∷ xs) ys h k = (h.0, two_none xs ys h.1 k)

of_none : (kind : Kind) (number size : ℕ) → AllByRecursion IsNoDenial (initial_of kind number size)
of_none kinds.Simple number size = mapped_none number (upto size)
of_none kinds.Determined number size = tt
of_none kinds.Action number size = tt

initial_none : (number : ℕ) (constants : List Const) → AllByRecursion IsNoDenial (all_initial number constants)
initial_none number [] = tt
initial_none number (c ∷ constants) = two_none (initial_of c.kind number (length c.domain)) (all_initial (number + 1) constants) (of_none c.kind number (length c.domain)) (initial_none (number + 1) constants)

-- ---- the three groups

module _ (signature : Signature) (laws : List GroundLaw) (give : GiveRules signature laws 2) where
  abbrev P : ℕ → List ℕ
  P horizon = position_sizes signature horizon

  abbrev S : ℕ
  S = stride_of signature

  abbrev F : List ℕ
  F = domain_sizes signature.fluents

  abbrev R : ℕ → List Bodied
  R m = (bodies_at signature laws m).rules

  abbrev s : ℕ → ℕ → ℕ → ℕ
  s m d variable = name signature laws give m d variable

  abbrev Mv : ℕ → ℕ → List (List Literal) → List (List Literal)
  Mv m d clauses = renamed_clauses (s m d) clauses

  pub bodies_step : (m d k : ℕ) → IsLike m d k → bodies_of_step signature laws m (d + k) ≡ Mv m d (bodies_of_step signature laws 2 k)
  bodies_step m d k like = ap (λ (r : MadeRules). r.clauses) (step_renamed signature laws give m d k like)

  pub denials_step : (m d k : ℕ) → IsLike m d k → denials_of_step signature laws m (d + k) ≡ Mv m d (denials_of_step signature laws 2 k)
  denials_step m d k like =
      ap (λ (r : MadeRules). all_written (denials_of r.rules)) (step_renamed signature laws give m d k like)
      ∙ ap all_written (denials_behind (s m d) (d * S) (M signature laws give 2 k).rules)
      ∙ all_written_renamed (s m d) (name_rises signature laws give m d like.most) (denials_of (M signature laws give 2 k).rules)

  module _ (m d k : ℕ) (like : IsLike m d k) (first : k ≡ 0 → d ≡ 0) where
    position_like : (p size : ℕ) → p < S → slice_get (P 2) (k * S + p) ≡ Some size →
        position_completion (P m) (R m) (d * S + (k * S + p)) size ≡ Mv m d (position_completion (P 2) (R 2) (k * S + p) size)
    position_like p size below at =
        let here = k * S + p in
        ap (λ (l : List (List Literal)). if nat_lt 1 size then l else []) (flat_like (s m d)
        (λ v. completion_of (positive (atom_variable (P m) (d * S + here) v)) (bodies_of (d * S + here) v (R m)))
        (λ v. completion_of (positive (atom_variable (P 2) here v)) (bodies_of here v (R 2))) size
        (λ v less.
        ap (λ (n : ℕ). completion_of (positive n) (bodies_of (d * S + here) v (R m))) (atom_named signature laws give m d like.most here v (size, at, less))
        ∙ ap (λ (b : List Literal). completion_of (positive (s m d (atom_variable (P 2) here v))) b) (bodies_like signature laws give m d k p v like first below)
        ∙ any_clauses_renamed (s m d) (name_rises signature laws give m d like.most) (positive (atom_variable (P 2) here v)) (bodies_of here v (R 2))))
        ∙ chosen (nat_lt 1 size) (flat_map (λ v. completion_of (positive (atom_variable (P 2) here v)) (bodies_of here v (R 2))) (upto size))
      where
        chosen : (b : Bool) (clauses : List (List Literal)) → (if b then Mv m d clauses else []) ≡ Mv m d (if b then clauses else [])
        chosen true clauses = refl
        chosen false clauses = refl

    rest_like : (before rest tail : List ℕ) (p : ℕ) → P 2 ≡ before ++ (rest ++ tail) → length before ≡ k * S + p → p + length rest ≤ S →
        completion_from (P m) (R m) (d * S + (k * S + p)) rest ≡ Mv m d (completion_from (P 2) (R 2) (k * S + p) rest)
    rest_like before [] tail p at long most = refl
    rest_like before (size ∷ rest) tail p at long most =
        let here : slice_get (P 2) (k * S + p) ≡ Some size =
        ap (λ (l : List ℕ). slice_get l (k * S + p)) at
        ∙ ap (slice_get (before ++ (size ∷ rest ++ tail))) (let e : k * S + p ≡ length before + 0 = omega arith in e) ∙ back before (size ∷ rest ++ tail) 0 in
        let next = rest_like (before ++ size ∷ []) rest tail (p + 1) (at ∙ sym (append_assoc before (size ∷ []) (rest ++ tail)))
        (let both = length-append before (size ∷ []) in let e : length (before ++ size ∷ []) ≡ k * S + (p + 1) = omega arith in e) (omega arith) in
        ap (λ (l : List (List Literal)). l ++ completion_from (P m) (R m) (d * S + (k * S + p) + 1) rest) (position_like p size (omega arith) here)
        ∙ ap (λ (n : ℕ). Mv m d (position_completion (P 2) (R 2) (k * S + p) size) ++ completion_from (P m) (R m) n rest) (let e : d * S + (k * S + p) + 1 ≡ d * S + (k * S + (p + 1)) = omega arith in e)
        ∙ ap (λ (l : List (List Literal)). Mv m d (position_completion (P 2) (R 2) (k * S + p) size) ++ l) next
        ∙ ap (λ (n : ℕ). Mv m d (position_completion (P 2) (R 2) (k * S + p) size) ++ Mv m d (completion_from (P 2) (R 2) n rest)) (let e : k * S + (p + 1) ≡ k * S + p + 1 = omega arith in e)
        ∙ sym (map-append (map (renamed (s m d))) (position_completion (P 2) (R 2) (k * S + p) size) (completion_from (P 2) (R 2) (k * S + p + 1) rest))

    each_long : length (each signature) ≡ S
    each_long = length-map (ground_constants signature) (λ (c : Const). length c.domain) ∙ length-append signature.fluents signature.actions

    fluents_long : length F ≤ S
    fluents_long = let e : length F ≡ length signature.fluents = length-map signature.fluents (λ (c : Const). length c.domain) in omega arith

    -- where a step stands among those of two
    pub record StandsIn (i : ℕ) (rest : List ℕ) : Type 0 where
      pub before : List ℕ
      pub tail : List ℕ
      pub at : P 2 ≡ before ++ (rest ++ tail)
      pub long : length before ≡ i * S + 0
      pub most : 0 + length rest ≤ S

    stands_in : (i : ℕ) → i ≤ 2 → StandsIn i (sizes_of_step signature 2 i)
    stands_in zero within = record { before = []; tail = each signature ++ F; at = refl; long = (let e : 0 ≡ 0 * S + 0 = omega arith in e); most = (let e = each_long in omega arith) }
    stands_in (suc zero) within = record { before = each signature; tail = F; at = refl; long = (let l = each_long in let e : length (each signature) ≡ 1 * S + 0 = omega arith in e); most = (let e = each_long in omega arith) }
    stands_in (suc (suc zero)) within = record {
      before = each signature ++ each signature;
      tail = [];
      at = ap (λ (l : List ℕ). each signature ++ (each signature ++ l)) (sym (append-nil F)) ∙ sym (append_assoc (each signature) (each signature) (F ++ []));
      long = (let l = each_long in let both = length-append (each signature) (each signature) in let e : length (each signature ++ each signature) ≡ 2 * S + 0 = omega arith in e);
      most = (let e = fluents_long in omega arith);
    }
    stands_in (suc (suc (suc i))) within = absurd (omega arith)

    pub completion_step : completion_of_step signature laws m (d + k) ≡ Mv m d (completion_of_step signature laws 2 k)
    completion_step =
        let rest = sizes_of_step signature 2 k in
        let at = stands_in k like.within in
        ap (λ (b : Bool). all_written (completion_from (P m) (R m) ((d + k) * S) (if b then each signature else F))) like.last
        ∙ ap (λ (n : ℕ). all_written (completion_from (P m) (R m) n rest)) (let turned = add-mul d k S in let e : (d + k) * S ≡ d * S + (k * S + 0) = omega arith in e)
        ∙ ap all_written (rest_like at.before rest at.tail 0 at.at at.long at.most)
        ∙ ap (λ (n : ℕ). all_written (Mv m d (completion_from (P 2) (R 2) n rest))) (let e : k * S + 0 ≡ k * S = omega arith in e)
        ∙ all_written_renamed (s m d) (name_rises signature laws give m d like.most) (completion_from (P 2) (R 2) (k * S) rest)

  -- ---- all steps

  steps_more : (j : ℕ) → steps_of signature (suc j) ≡ steps_of signature j ++ each signature
  steps_more zero = append-nil (each signature)
  steps_more (suc j) = ap (λ (l : List ℕ). each signature ++ l) (steps_more j) ∙ sym (append_assoc (each signature) (steps_of signature j) (each signature))

  before_steps : (m j : ℕ) → j ≤ m → all_written (completion_from (P m) (R m) 0 (steps_of signature j)) ≡ flat_map (completion_of_step signature laws m) (upto j)
  before_steps m zero most = refl
  before_steps m (suc j) most =
      let C = completion_from (P m) (R m) in
      let before = steps_of signature j in
      ap (λ (l : List ℕ). all_written (C 0 l)) (steps_more j)
      ∙ ap all_written (completion_two (P m) (R m) 0 before (each signature)) ∙ written_two (C 0 before) (C (0 + length before) (each signature))
      ∙ ap (λ (l : List (List Literal)). l ++ all_written (C (0 + length before) (each signature))) (before_steps m j (omega arith))
      ∙ ap (λ (n : ℕ). flat_map (completion_of_step signature laws m) (upto j) ++ all_written (C n (each signature))) (let l = steps_long signature j in let e : 0 + length before ≡ j * S = omega arith in e)
      ∙ ap (λ (b : Bool). flat_map (completion_of_step signature laws m) (upto j) ++ all_written (C (j * S) (if b then each signature else F))) (sym (lt-ltb j m (omega arith)))
      ∙ sym (flat_last (completion_of_step signature laws m) j)

  pub completion_all : (m : ℕ) → all_written (completion_from (P m) (R m) 0 (P m)) ≡ flat_map (completion_of_step signature laws m) (upto (suc m))
  completion_all m =
      let C = completion_from (P m) (R m) in
      let before = steps_of signature m in
      ap (λ (l : List ℕ). all_written (C 0 l)) (ap P (let e : m ≡ m + 0 = omega arith in e) ∙ behind_steps signature m 0)
      ∙ ap all_written (completion_two (P m) (R m) 0 before F) ∙ written_two (C 0 before) (C (0 + length before) F)
      ∙ ap (λ (l : List (List Literal)). l ++ all_written (C (0 + length before) F)) (before_steps m m (omega arith))
      ∙ ap (λ (n : ℕ). flat_map (completion_of_step signature laws m) (upto m) ++ all_written (C n F)) (let l = steps_long signature m in let e : 0 + length before ≡ m * S = omega arith in e)
      ∙ ap (λ (b : Bool). flat_map (completion_of_step signature laws m) (upto m) ++ all_written (C (m * S) (if b then each signature else F))) (sym (le-ltb m m (omega arith)))
      ∙ sym (flat_last (completion_of_step signature laws m) m)

  pub denials_all : (m : ℕ) → 2 ≤ m → all_written (denials_of (R m)) ≡ flat_map (denials_of_step signature laws m) (upto (suc m))
  denials_all m some =
      let f : ℕ → List Bodied = λ i. (M signature laws give m i).rules in
      ap (λ (r : MadeRules). all_written (denials_of r.rules)) (bodies_are signature laws give m some)
      ∙ ap all_written (denials_two (I signature laws give m) (flat_map f (upto (suc m))))
      ∙ ap (λ (l : List (List Literal)). all_written (l ++ denials_of (flat_map f (upto (suc m))))) (no_denials (P m) S _ (all_initial 0 signature.fluents) (initial_none 0 signature.fluents))
      ∙ denials_flat f (suc m)

  -- ---- moved to their places

  later_steps : (m : ℕ) (f g : ℕ → List (List Literal)) → ((d k : ℕ) → IsLike m d k → (k ≡ 0 → d ≡ 0) → f (d + k) ≡ Mv m d (g k)) → (n : ℕ) → n + 1 ≤ m → 2 ≤ m →
      flat_map f (upto (suc n)) ≡ Mv m 0 (g 0) ++ flat_map (λ d. Mv m d (g 1)) (upto n)
  later_steps m f g is zero most some =
      flat_last f 0 ∙ ap f (let e : 0 ≡ 0 + 0 = omega arith in e) ∙ is 0 0 (like_early m 0 0 (omega arith) (omega arith)) (λ e. refl) ∙ sym (append-nil (Mv m 0 (g 0)))
  later_steps m f g is (suc n) most some =
      flat_last f (suc n) ∙ ap (λ (l : List (List Literal)). l ++ f (suc n)) (later_steps m f g is n (omega arith) some)
      ∙ ap (λ (l : List (List Literal)). Mv m 0 (g 0) ++ flat_map (λ d. Mv m d (g 1)) (upto n) ++ l)
      (ap f (let e : suc n ≡ n + 1 = omega arith in e) ∙ is n 1 (like_early m n 1 (omega arith) (omega arith)) (λ e. let none : 1 ≡ 0 = e in omega arith))
      ∙ append_assoc (Mv m 0 (g 0)) (flat_map (λ d. Mv m d (g 1)) (upto n)) (Mv m n (g 1))
      ∙ ap (λ (l : List (List Literal)). Mv m 0 (g 0) ++ l) (sym (flat_last (λ d. Mv m d (g 1)) n))

  spread : (m : ℕ) (f g : ℕ → List (List Literal)) → ((d k : ℕ) → IsLike m d k → (k ≡ 0 → d ≡ 0) → f (d + k) ≡ Mv m d (g k)) → 2 ≤ m →
      flat_map f (upto (suc m)) ≡ placed signature laws m (g 0) (g 1) (g 2)
  spread m f g is some =
      flat_last f m
      ∙ ap (λ (n : ℕ). flat_map f (upto n) ++ f m) (let e : m ≡ suc (m - 1) = omega arith in e)
      ∙ ap (λ (l : List (List Literal)). l ++ f m) (later_steps m f g is (m - 1) (omega arith) some)
      ∙ ap (λ (l : List (List Literal)). Mv m 0 (g 0) ++ flat_map (λ d. Mv m d (g 1)) (upto (m - 1)) ++ l)
      (ap f (let e : m ≡ m - 2 + 2 = omega arith in e) ∙ is (m - 2) 2 (like_last m (m - 2) (omega arith)) (λ e. let none : 2 ≡ 0 = e in omega arith))

  abbrev pub last_placed : ℕ → ℕ
  last_placed m = (M signature laws give 2 2).last + high signature laws give m (m - 2)

  pub last_is : (m : ℕ) → 2 ≤ m → (bodies_at signature laws m).last ≡ last_placed m
  last_is m some =
      ap (λ (r : MadeRules). r.last) (bodies_are signature laws give m some)
      ∙ ap (λ (n : ℕ). (M signature laws give m n).last) (let e : m ≡ m - 2 + 2 = omega arith in e)
      ∙ ap (λ (r : MadeRules). r.last) (step_renamed signature laws give m (m - 2) 2 (like_last m (m - 2) (omega arith)))

  pub bodies_placed : (m : ℕ) → 2 ≤ m → (bodies_at signature laws m).clauses ≡ placed signature laws m (bodies_of_step signature laws 2 0) (bodies_of_step signature laws 2 1) (bodies_of_step signature laws 2 2)
  bodies_placed m some =
      ap (λ (r : MadeRules). r.clauses) (bodies_are signature laws give m some)
      ∙ spread m (bodies_of_step signature laws m) (bodies_of_step signature laws 2) (λ d k like first. bodies_step m d k like) some

  pub completion_placed : (m : ℕ) → 2 ≤ m → all_written (completion_from (P m) (R m) 0 (P m)) ≡ placed signature laws m (completion_of_step signature laws 2 0) (completion_of_step signature laws 2 1) (completion_of_step signature laws 2 2)
  completion_placed m some = completion_all m ∙ spread m (completion_of_step signature laws m) (completion_of_step signature laws 2) (completion_step m) some

  pub denials_placed : (m : ℕ) → 2 ≤ m → all_written (denials_of (R m)) ≡ placed signature laws m (denials_of_step signature laws 2 0) (denials_of_step signature laws 2 1) (denials_of_step signature laws 2 2)
  denials_placed m some = denials_all m some ∙ spread m (denials_of_step signature laws m) (denials_of_step signature laws 2) (λ d k like first. denials_step m d k like) some
