-- The variables of positions, and rows of them.
use Rattle.std.proofs.Common.{◌≡◌, ◌∙◌, ℕ, zero, suc, ◌+◌, ◌-◌, ◌%◌, ◌<◌, ◌≤◌, false, List, [], ◌∷◌, ◌++◌, length, drop, get_or, slice_get, Some, sum, refl, sym, ap, subst, arith, IsTrue, option_map, append_assoc, append-nil}
use Rattle.std.proofs.lemmas.List.Sums.{sum_by-cons}
use Rattle.std.proofs.lemmas.Option.{slice_get-map}
use Rattle.std.proofs.Math.Nat.{mod-eq_of_lt}
use Rattle.cc_defs.specs.declared.node.Node.TheVariants as nodes
use Rattle.cc_defs.specs.declared.signature.Const.{Const}
use Rattle.cc_defs.specs.ClauseForms.{atom_variable, first_variable, true_variable}
use Rattle.cc_defs.specs.Description.{domain_sizes}
use Rattle.cc_defs.specs.Rows.{IsRow}
use Rattle.cc_defs.specs.declared.refusal.Fault.{Fault}
use Rattle.cc_defs.specs.declared.refusal.Fault.TheVariants as faults
use Rattle.cc_defs.specs.declared.refusal.LimitAt.TheVariants as limits
use Rattle.cc_defs.specs.Refusals.{past}
use Rattle.cc_defs.specs.Signatures.{Signature, ground_constants}
use Rattle.cc_defs.specs.Terms.{Fits}
use Rattle.cc_form.specs.Machine.{IsPast}
use Rattle.cc_form.specs.Places.{firsts, position_sizes}

pub sum_cons : (x : ℕ) (xs : List ℕ) → sum (x ∷ xs) ≡ x + sum xs
sum_cons x xs = sum_by-cons (λ (n : ℕ). n) x xs

pub first_some : (sizes : List ℕ) (position : ℕ) → 1 ≤ first_variable sizes position
first_some [] position = omega arith
first_some (size ∷ sizes) zero = omega arith
first_some (size ∷ sizes) (suc position) = let more = first_some sizes position in omega arith

pub first_below : (sizes : List ℕ) (position size : ℕ) → slice_get sizes position ≡ Some size → first_variable sizes position + size ≤ sum sizes + 1
first_below [] position size at = absurd cc
first_below (s ∷ sizes) zero size at = let same : s ≡ size = cc in let all = sum_cons s sizes in omega arith
first_below (s ∷ sizes) (suc position) size at = let more = first_below sizes position size at in let all = sum_cons s sizes in omega arith

pub first_read : (first : ℕ) (sizes : List ℕ) (position size : ℕ) → slice_get sizes position ≡ Some size → get_or (firsts first sizes) position 0 + 1 ≡ first + first_variable sizes position
first_read first [] position size at = absurd cc
first_read first (s ∷ sizes) zero size at = refl
first_read first (s ∷ sizes) (suc position) size at = let more = first_read (first + s) sizes position size at in omega arith

pub firsts_long : (first : ℕ) (sizes : List ℕ) → length (firsts first sizes) ≡ length sizes
firsts_long first [] = refl
firsts_long first (s ∷ sizes) = ap suc (firsts_long (first + s) sizes)

pub position_within : (sizes : List ℕ) (position size : ℕ) → slice_get sizes position ≡ Some size → position < length sizes
position_within [] position size at = absurd cc
position_within (s ∷ sizes) zero size at = omega arith
position_within (s ∷ sizes) (suc position) size at = let more = position_within sizes position size at in omega arith

-- ---- rows

pub row_long : (sizes row : List ℕ) → IsRow sizes row → length sizes ≡ length row
row_long [] [] is = refl
row_long [] (index ∷ row) is = absurd is
row_long (size ∷ sizes) [] is = absurd is
row_long (size ∷ sizes) (index ∷ row) is = ap suc (row_long sizes row is.1)

pub row_below : (sizes row : List ℕ) → IsRow sizes row → (k : ℕ) → k < length sizes → get_or row k 0 < get_or sizes k 0
row_below [] [] is k less = absurd (omega arith)
row_below [] (index ∷ row) is k less = absurd is
row_below (size ∷ sizes) [] is k less = absurd is
row_below (size ∷ sizes) (index ∷ row) is zero less = is.0
row_below (size ∷ sizes) (index ∷ row) is (suc k) less = row_below sizes row is.1 k (omega arith)

pub is_row : (sizes row : List ℕ) → length sizes ≡ length row → ((k : ℕ) → k < length sizes → get_or row k 0 < get_or sizes k 0) → IsRow sizes row
is_row [] [] long below = tt
is_row [] (index ∷ row) long below = absurd (omega arith)
is_row (size ∷ sizes) [] long below = absurd (omega arith)
is_row (size ∷ sizes) (index ∷ row) long below = (below 0 (omega arith), is_row sizes row (omega arith) (λ k less. below (suc k) (omega arith)))

pub no_row : (sizes row : List ℕ) → (IsRow sizes row → ⊥) → (IsTrue false → IsRow sizes row) × (IsRow sizes row → IsTrue false)
no_row sizes row never = (λ e. absurd cc, λ is. absurd (never is))

-- ---- sizes

front_is : {X : Type 0} (xs : List X) (i : ℕ) (x : X) → Some x ≡ slice_get xs i → drop i xs ≡ x ∷ drop (suc i) xs
front_is [] i x e = absurd cc
front_is (y ∷ ys) zero x e = cc
front_is (y ∷ ys) (suc i) x e = front_is ys i x e

pub front_behind : {X : Type 0} (xs : List X) (i : ℕ) (x : X) → Some x ≡ slice_get xs i → drop i xs ≡ x ∷ drop (i + 1) xs
front_behind xs i x e = front_is xs i x e ∙ ap (λ (n : ℕ). x ∷ drop n xs) (let s : suc i ≡ i + 1 = omega arith in s)

pub sizes_step : (constants : List Const) (number size : ℕ) (front new : List ℕ) → number < length constants →
    option_map (λ (c : Const). length c.domain) (slice_get constants (number % length constants)) ≡ Some size →
    new ≡ front ++ size ∷ [] → front ++ drop number (domain_sizes constants) ≡ domain_sizes constants → new ++ drop (number + 1) (domain_sizes constants) ≡ domain_sizes constants
sizes_step constants number size front new less sized made so_far =
    let sizes = domain_sizes constants in
    let here : slice_get sizes number ≡ Some size =
    slice_get-map (λ (c : Const). length c.domain) constants number
    ∙ ap (λ (n : ℕ). option_map (λ (c : Const). length c.domain) (slice_get constants n)) (sym (mod-eq_of_lt less)) ∙ sized in
    ap (λ (w : List ℕ). w ++ drop (number + 1) sizes) made ∙ append_assoc front (size ∷ []) (drop (number + 1) sizes)
    ∙ ap (λ (w : List ℕ). front ++ w) (sym (front_behind sizes number size (sym here))) ∙ so_far

pub sizes_end : (sizes front : List ℕ) (number : ℕ) → length sizes ≤ number → front ++ drop number sizes ≡ sizes → front ≡ sizes
sizes_end sizes front number most e = sym (append-nil front) ∙ ap (λ (l : List ℕ). front ++ l) (sym (dropped sizes number most)) ∙ e
  where
    dropped : (xs : List ℕ) (n : ℕ) → length xs ≤ n → drop n xs ≡ []
    dropped [] zero less = refl
    dropped [] (suc n) less = refl
    dropped (x ∷ xs) zero less = absurd (omega arith)
    dropped (x ∷ xs) (suc n) less = dropped xs n (omega arith)

-- ---- atoms

module _ (sizes firsts_there : List ℕ) (position value index : ℕ) (fits : Fits sizes (nodes.Atom position value)) (are : firsts_there ≡ firsts 1 sizes) where
  pub atom_within : position < length firsts_there
  atom_within = let long = ap length are ∙ firsts_long 1 sizes in let here = position_within sizes position fits.0 fits.1 in omega arith

  read_as : (xs : List ℕ) (k d : ℕ) → k < length xs → get_or xs k d ≡ get_or xs k 0
  read_as [] k d less = absurd (omega arith)
  read_as (x ∷ xs) zero d less = refl
  read_as (x ∷ xs) (suc k) d less = read_as xs k d (omega arith)

  pub atom_number : index ≡ get_or firsts_there position index → index + value ≡ atom_variable sizes position value
  atom_number is =
      let read = is ∙ read_as firsts_there position index atom_within ∙ ap (λ (l : List ℕ). get_or l position 0) are in
      let first = first_read 1 sizes position fits.0 fits.1 in
      omega arith

pub atom_some : (sizes : List ℕ) (position value : ℕ) → 1 ≤ atom_variable sizes position value
atom_some sizes position value = let some = first_some sizes position in omega arith

pub atom_below : (sizes : List ℕ) (position value : ℕ) → Fits sizes (nodes.Atom position value) → atom_variable sizes position value ≤ sum sizes
atom_below sizes position value fits = let below = first_below sizes position fits.0 fits.1 in let less = fits.2 in omega arith

pub step_more : (signature : Signature) (horizon step : ℕ) (each front new whole : List ℕ) → step < horizon → each ≡ domain_sizes (ground_constants signature) → new ≡ front ++ each →
    front ++ position_sizes signature (horizon - step) ≡ whole → new ++ position_sizes signature (horizon - (step + 1)) ≡ whole
step_more signature horizon step each front new whole less same made so_far =
    let rest = position_sizes signature (horizon - (step + 1)) in
    ap (λ (l : List ℕ). l ++ rest) made ∙ append_assoc front each rest ∙ ap (λ (l : List ℕ). front ++ (l ++ rest)) same
    ∙ ap (λ (n : ℕ). front ++ position_sizes signature n) (let e : suc (horizon - (step + 1)) ≡ horizon - step = omega arith in e) ∙ so_far

pub no_steps : (signature : Signature) (horizon step : ℕ) → horizon ≤ step → position_sizes signature (horizon - step) ≡ domain_sizes signature.fluents
no_steps signature horizon step most = ap (position_sizes signature) (let e : horizon - step ≡ 0 = omega arith in e)

pub is_past : (fault : Fault) (sizes : List ℕ) → fault ≡ faults.Refused (past limits.Variables) → 4000000 ≤ sum sizes → IsPast (true_variable sizes) fault
is_past fault sizes e least = subst (IsPast (true_variable sizes)) (sym e) (refl, (let more : 4000000 < sum sizes + 1 = omega arith in more))
