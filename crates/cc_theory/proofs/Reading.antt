-- Reading the numbers of the rules of a head.
use Rattle.std.proofs.Common.{◌≡◌, ◌∙◌, ℕ, ◌+◌, ◌-◌, ◌*◌, ◌/◌, ◌%◌, ◌<◌, ◌≤◌, nat_eq, List, length, take, drop, get_or, slice_get, sym, ap, subst, arith, option_map, length-append}
use Rattle.std.proofs.Math.Nat.{add-mul, mul-le-mul_left, mul_comm, div-lt_iff_lt-mul}
use Rattle.std.proofs.lemmas.Option.{slice_get-map, slice_get_within}
use Rattle.std.proofs.lemmas.List.{length-map}
use Rattle.cc_defs.specs.declared.signature.Const.{Const}
use Rattle.cc_defs.specs.Declarations.{numbers_where}
use Rattle.cc_defs.specs.Signatures.{Signature, ground_constants}
use Rattle.cc_theory.specs.declared.rule.TimedHead.{TimedHead}
use Rattle.cc_theory.specs.declared.rule.TimedHead.TheVariants as timed_heads
use Rattle.cc_theory.specs.declared.rule.TimedRule.{TimedRule}
use Rattle.cc_theory.specs.Groups.{sizes_of, place_of, place_keys, places, HasPlace, AreIndexed}
use Rattle.cc_theory.specs.Theories.{IsAtom}
use Rattle.cc_theory.proofs.HeadPlaces.{place_below}

module _ (signature : Signature) (horizon : ℕ) (rules : List TimedRule) (firsts begins numbers : List ℕ) (are : AreIndexed signature horizon rules firsts begins numbers)
    (head : TimedHead) (key : ℕ) (has : HasPlace (sizes_of signature) horizon head) (is : key ≡ place_of (sizes_of signature) horizon head) where
  below : key < places (sizes_of signature) horizon
  below = let less = place_below (sizes_of signature) horizon head has in omega arith

  pub group_long : key + 1 < length begins
  group_long = let e = are.groups.long in let less = below in omega arith

  pub group_order : get_or begins key 0 ≤ get_or begins (key + 1) 0
  group_order = are.groups.ordered key below

  pub group_within : get_or begins (key + 1) 0 ≤ length numbers
  group_within = are.groups.within key below

  pub group_is : take (get_or begins (key + 1) 0 - get_or begins key 0) (drop (get_or begins key 0) numbers)
      ≡ numbers_where (nat_eq (place_of (sizes_of signature) horizon head)) 0 (place_keys (sizes_of signature) horizon rules)
  group_is = are.groups.numbers_are key below ∙ ap (λ (k : ℕ). numbers_where (nat_eq k) 0 (place_keys (sizes_of signature) horizon rules)) is

pub atom_place : (signature : Signature) (horizon position value : ℕ) → IsAtom signature horizon position value → HasPlace (sizes_of signature) horizon (timed_heads.Atom position value)
atom_place signature horizon position value is =
    let constants = ground_constants signature in
    let fluents = length signature.fluents in
    let actions = length signature.actions in
    let count : length (sizes_of signature) ≡ length constants = length-map constants (λ (c : Const). length c.domain) in
    let long : length constants ≡ fluents + actions = length-append signature.fluents signature.actions in
    let spread : (fluents + actions) * (horizon + 1) ≡ fluents * (horizon + 1) + actions * (horizon + 1) = add-mul fluents actions (horizon + 1) in
    let less : actions * horizon ≤ actions * (horizon + 1) = mul-le-mul_left actions (omega arith) in
    let at : position < (horizon + 1) * length (sizes_of signature) =
    subst (λ (n : ℕ). position < n) (mul_comm (fluents + actions) (horizon + 1) ∙ ap (λ (n : ℕ). (horizon + 1) * n) (sym (count ∙ long))) (let within = is.within in omega arith) in
    let inside = slice_get_within constants (position % length constants) is.constant is.found in
    let some : 0 < length (sizes_of signature) = omega arith in
    let step : position / length (sizes_of signature) < horizon + 1 = (div-lt_iff_lt-mul some).1 at in (
      length is.constant.domain,
      omega arith,
      slice_get-map (λ (c : Const). length c.domain) constants (position % length (sizes_of signature))
          ∙ ap (λ (n : ℕ). option_map (λ (c : Const). length c.domain) (slice_get constants (position % n))) count
          ∙ ap (option_map (λ (c : Const). length c.domain)) is.found,
      is.short,
    )
