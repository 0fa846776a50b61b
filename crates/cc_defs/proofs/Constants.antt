-- The ground constants of a signature as they are read from its two lists.
use Rattle.std.proofs.Common.{◌≡◌, ◌∙◌, ℕ, zero, suc, ◌+◌, ◌-◌, ◌%◌, ◌<◌, ◌≤◌, List, [], ◌∷◌, ◌++◌, length, get_or, slice_get, Some, ap, refl, subst, sym, arith, length-append}
use Rattle.std.proofs.lemmas.Option.{slice_get-get_or}
use Rattle.cc_defs.specs.declared.signature.Const.{Const}
use Rattle.cc_defs.specs.Signatures.{Signature, AreShort, IsSignature, ground_constants}

pub in_fluents : (fluents actions : List Const) (g : ℕ) (constant : Const) → g < length fluents → constant ≡ get_or fluents g constant → Some constant ≡ slice_get (fluents ++ actions) g
in_fluents [] actions g constant low is = absurd (omega arith)
in_fluents (x ∷ xs) actions zero constant low is = ap (λ (c : Const). Some c) is
in_fluents (x ∷ xs) actions (suc g) constant low is = in_fluents xs actions g constant (omega arith) is

pub in_actions : (fluents actions : List Const) (g k : ℕ) (constant : Const) → g ≡ length fluents + k → k < length actions → constant ≡ get_or actions k constant →
    Some constant ≡ slice_get (fluents ++ actions) g
in_actions [] actions g k constant at low is =
    let same : k ≡ g = omega arith in
    ap (λ (c : Const). Some c) is ∙ sym (slice_get-get_or actions k constant low) ∙ ap (λ (n : ℕ). slice_get actions n) same
in_actions (x ∷ xs) actions zero k constant at low is = absurd (omega arith)
in_actions (x ∷ xs) actions (suc g) k constant at low is = in_actions xs actions g k constant (omega arith) low is

module _ (made view : Signature) (is : made ≡ view) (fluents : ℕ) (fluents_are : fluents ≡ length made.fluents) where
  pub counted : (actions : ℕ) → actions ≡ length made.actions → fluents + actions ≡ length (ground_constants view)
  counted actions actions_are =
      let long = length-append made.fluents made.actions in
      let same = ap (λ (s : Signature). length (ground_constants s)) is in
      omega arith

  pub action_low : (g : ℕ) → fluents ≤ g → g < length (ground_constants view) → g - fluents < length made.actions
  action_low g high low =
      let long = length-append made.fluents made.actions in
      let same = ap (λ (s : Signature). length (ground_constants s)) is in
      omega arith

pub rest_low : (position count all : ℕ) → count ≡ all → 0 < all → position % count < all
rest_low position count all is some = omega arith

pub rest_few : (position fluents actions : ℕ) (made : Signature) → IsSignature made → fluents ≡ length made.fluents → actions ≡ length made.actions → 0 < fluents + actions →
    position % (fluents + actions) < 4294967296
rest_few position fluents actions made are fluents_are actions_are some =
    let low = rest_low position (fluents + actions) (fluents + actions) refl some in
    let few = are.few in
    omega arith

short_in : (constants : List Const) (g : ℕ) (constant : Const) → AreShort constants → Some constant ≡ slice_get constants g → length constant.domain < 4294967296
short_in [] g constant short is = absurd cc
short_in (x ∷ xs) zero constant short is = let same : constant ≡ x = cc in subst (λ (c : Const). length c.domain < 4294967296) (sym same) short.0
short_in (x ∷ xs) (suc g) constant short is = short_in xs g constant short.1 is

short_both : (fluents actions : List Const) → AreShort fluents → AreShort actions → AreShort (fluents ++ actions)
short_both [] actions one two = two
short_both (x ∷ xs) actions one two = (one.0, short_both xs actions one.1 two)

pub domain_short : (made view : Signature) → made ≡ view → IsSignature made → (g : ℕ) (constant : Const) → Some constant ≡ slice_get (ground_constants view) g → length constant.domain < 4294967296
domain_short made view is are g constant there =
    short_in (ground_constants made) g constant (short_both made.fluents made.actions are.fluents_short are.actions_short)
    (there ∙ ap (λ (s : Signature). slice_get (ground_constants s) g) (sym is))
