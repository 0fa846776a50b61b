-- The clauses of positions, one behind the other.
use Rattle.std.proofs.Common.{◌≡◌, ◌∙◌, ℕ, zero, suc, ◌+◌, ◌-◌, ◌<◌, ◌≤◌, List, [], ◌∷◌, ◌++◌, length, map, flat_map, drop, get_or, slice_get, Some, Bool, sum, Result, Ok, Err, OnOk, refl, sym, ap, subst, arith, append_assoc, append-nil}
use Rattle.std.proofs.lemmas.List.Sums.{sum_by-cons}
use Rattle.std.specs.Prelude.{if◌then◌else◌}
use Rattle.std.proofs.lemmas.Bool.{le-ltb, lt-ltb}
use Rattle.cc_defs.specs.ClauseForms.{all_written, any_clauses, atom_variable, positive}
use Rattle.cc_defs.specs.ClauseLists.{Bodied, bodies_of, completion_from, completion_of, exactly_one, position_completion, pairs_denied, position_variables, positions_from}
use Rattle.cc_defs.specs.Clauses.{Literal, opposite}
use Rattle.cc_defs.specs.Rules.{upto}
use Rattle.cc_form.specs.declared.store.Kept.{Kept}
use Rattle.cc_form.specs.Store.{Gives}
use Rattle.cc_form.proofs.Definitions.{written_behind}
use Rattle.cc_form.proofs.Keeping.{gives_full, gives_more, gives_none}

-- some clauses are there, and with the rest they are all
pub record Done (old now : Kept) (rest whole : List (List Literal)) : Type 0 where
  pub part : List (List Literal)
  pub gives : Gives old now part
  pub joined : part ++ rest ≡ whole

pub done_none : (kept : Kept) (whole : List (List Literal)) → Done kept kept whole whole
done_none kept whole = record { part = []; gives = gives_none kept; joined = refl }

pub done_more : (old now new : Kept) (before part rest whole : List (List Literal)) → before ≡ part ++ rest → Done old now before whole → Gives now new part → Done old new rest whole
done_more old now new before part rest whole e done gives = record {
  part = done.part ++ part;
  gives = gives_more old now new done.part part done.gives gives;
  joined = append_assoc done.part part rest ∙ ap (λ (l : List (List Literal)). done.part ++ l) (sym e) ∙ done.joined;
}

pub done_all : (old now : Kept) (rest whole : List (List Literal)) → rest ≡ [] → Done old now rest whole → Gives old now whole
done_all old now rest whole none done = subst (Gives old now) (sym (append-nil done.part) ∙ ap (λ (l : List (List Literal)). done.part ++ l) (sym none) ∙ done.joined) done.gives

pub done_full : (old now : Kept) (rest whole : List (List Literal)) → 8000000 < now.count → Done old now rest whole → Gives old now whole
done_full old now rest whole full done = subst (Gives old now) done.joined (gives_more old now now done.part rest done.gives (gives_full now rest full))

-- ---- the variables of a position

pub variables_front : (first n : ℕ) → position_variables first (suc n) ≡ positive first ∷ position_variables (first + 1) n
variables_front first zero = ap (λ (v : ℕ). positive v ∷ []) (let e : first + 0 ≡ first = omega arith in e)
variables_front first (suc n) =
    map_last (λ value. positive (first + value)) (upto (suc n)) (suc n)
    ∙ ap (λ (l : List Literal). l ++ positive (first + suc n) ∷ []) (variables_front first n)
    ∙ ap (λ (v : ℕ). positive first ∷ (position_variables (first + 1) n ++ positive v ∷ [])) (let e : first + suc n ≡ first + 1 + n = omega arith in e)
    ∙ ap (λ (l : List Literal). positive first ∷ l) (sym (map_last (λ value. positive (first + 1 + value)) (upto n) n))
  where
    map_last : (f : ℕ → Literal) (xs : List ℕ) (x : ℕ) → map f (xs ++ x ∷ []) ≡ map f xs ++ f x ∷ []
    map_last f [] x = refl
    map_last f (y ∷ xs) x = ap (λ l. f y ∷ l) (map_last f xs x)

pub pairs_front : (low end : ℕ) → low < end → pairs_denied (position_variables low (end - low))
    ≡ map (λ v. opposite (positive low) ∷ opposite v ∷ []) (position_variables (low + 1) (end - (low + 1))) ++ pairs_denied (position_variables (low + 1) (end - (low + 1)))
pairs_front low end less =
    ap (λ (n : ℕ). pairs_denied (position_variables low n)) (let e : end - low ≡ suc (end - (low + 1)) = omega arith in e)
    ∙ ap pairs_denied (variables_front low (end - (low + 1)))

pub no_pairs : (low end : ℕ) → end ≤ low → pairs_denied (position_variables low (end - low)) ≡ []
no_pairs low end most = ap (λ (n : ℕ). pairs_denied (position_variables low n)) (let e : end - low ≡ 0 = omega arith in e)

mapped_last : {A B : Type 0} (f : A → B) (xs : List A) (x : A) → map f (xs ++ x ∷ []) ≡ map f xs ++ f x ∷ []
mapped_last f [] x = refl
mapped_last f (y ∷ xs) x = ap (λ l. f y ∷ l) (mapped_last f xs x)

pub pair_more : (old now new : Kept) (low high : ℕ) (f : Literal → List Literal) (clause : List Literal) → low + 1 ≤ high → clause ≡ f (positive high) →
    Gives old now (map f (position_variables (low + 1) (high - (low + 1)))) → Gives now new (clause ∷ []) → Gives old new (map f (position_variables (low + 1) (high + 1 - (low + 1))))
pair_more old now new low high f clause least same one other =
    let n = high - (low + 1) in
    subst (Gives old new)
    (ap (λ (c : List Literal). map f (position_variables (low + 1) n) ++ c ∷ []) (same ∙ ap (λ (v : ℕ). f (positive v)) (let e : high ≡ low + 1 + n = omega arith in e))
    ∙ sym (mapped_last f (position_variables (low + 1) n) (positive (low + 1 + n)))
    ∙ ap (map f) (sym (mapped_last (λ value. positive (low + 1 + value)) (upto n) n))
    ∙ ap (λ (k : ℕ). map f (position_variables (low + 1) k)) (let e : suc n ≡ high + 1 - (low + 1) = omega arith in e))
    (gives_more old now new (map f (position_variables (low + 1) n)) (clause ∷ []) one other)

pub exactly : {T E : Type 0} (result : Result T E) (old between new : Kept) (first size : ℕ) → Gives old between (position_variables first size ∷ []) →
    OnOk result (Gives between new (pairs_denied (position_variables first (first + size - first)))) → OnOk result (Gives old new (exactly_one (position_variables first size)))
exactly (Err e) old between new first size one other = tt
exactly (Ok x) old between new first size one other =
    gives_more old between new (position_variables first size ∷ []) (pairs_denied (position_variables first size)) one
    (subst (λ (n : ℕ). Gives between new (pairs_denied (position_variables first n))) (let e : first + size - first ≡ size = omega arith in e) other)

pub positions_front : (first : ℕ) (sizes : List ℕ) (i : ℕ) → i < length sizes →
    positions_from first (drop i sizes) ≡ exactly_one (position_variables first (get_or sizes i 0)) ++ positions_from (first + get_or sizes i 0) (drop (i + 1) sizes)
positions_front first [] i less = absurd (omega arith)
positions_front first (s ∷ sizes) zero less = refl
positions_front first (s ∷ sizes) (suc i) less = positions_front first sizes i (omega arith)
    ∙ ap (λ (n : ℕ). exactly_one (position_variables first (get_or sizes i 0)) ++ positions_from (first + get_or sizes i 0) (drop n (s ∷ sizes))) (let e : suc (i + 1) ≡ suc i + 1 = omega arith in e)

pub no_positions : (first : ℕ) (sizes : List ℕ) (i : ℕ) → length sizes ≤ i → positions_from first (drop i sizes) ≡ []
no_positions first [] zero most = refl
no_positions first [] (suc i) most = refl
no_positions first (s ∷ sizes) zero most = absurd (omega arith)
no_positions first (s ∷ sizes) (suc i) most = no_positions first sizes i (omega arith)

pub sum_front : (sizes : List ℕ) (i : ℕ) → i < length sizes → sum (drop i sizes) ≡ get_or sizes i 0 + sum (drop (i + 1) sizes)
sum_front [] i less = absurd (omega arith)
sum_front (s ∷ sizes) zero less = sum_by-cons (λ (n : ℕ). n) s sizes
sum_front (s ∷ sizes) (suc i) less = sum_front sizes i (omega arith) ∙ ap (λ (n : ℕ). get_or sizes i 0 + sum (drop n (s ∷ sizes))) (let e : suc (i + 1) ≡ suc i + 1 = omega arith in e)

-- ---- completion

flat_last : {X : Type 0} (f : ℕ → List X) (xs : List ℕ) (x : ℕ) → flat_map f (xs ++ x ∷ []) ≡ flat_map f xs ++ f x
flat_last f [] x = append-nil (f x)
flat_last f (y ∷ xs) x = ap (λ l. f y ++ l) (flat_last f xs x) ∙ sym (append_assoc (f y) (flat_map f xs) (f x))

pub value_more : (old now new : Kept) (f : ℕ → List (List Literal)) (n : ℕ) → Gives old now (all_written (flat_map f (upto n))) → Gives now new (all_written (f n)) → Gives old new (all_written (flat_map f (upto (n + 1))))
value_more old now new f n one other =
    subst (Gives old new)
    (sym (written_behind (flat_map f (upto n)) (f n)) ∙ ap all_written (sym (flat_last f (upto n) n)) ∙ ap (λ (k : ℕ). all_written (flat_map f (upto k))) (let e : suc n ≡ n + 1 = omega arith in e))
    (gives_more old now new (all_written (flat_map f (upto n))) (all_written (f n)) one other)

pub one_value : (sizes : List ℕ) (rules : List Bodied) (position size : ℕ) (kept : Kept) → size < 2 → Gives kept kept (all_written (position_completion sizes rules position size))
one_value sizes rules position size kept less =
    subst (λ (b : Bool). Gives kept kept (all_written (if b then flat_map (λ value. completion_of (positive (atom_variable sizes position value)) (bodies_of position value rules)) (upto size) else []))) (sym (le-ltb 1 size (omega arith))) (gives_none kept)

pub all_values : (sizes : List ℕ) (rules : List Bodied) (position size : ℕ) (old new : Kept) → 2 ≤ size →
    Gives old new (all_written (flat_map (λ value. completion_of (positive (atom_variable sizes position value)) (bodies_of position value rules)) (upto size))) → Gives old new (all_written (position_completion sizes rules position size))
all_values sizes rules position size old new more given =
    subst (λ (b : Bool). Gives old new (all_written (if b then flat_map (λ value. completion_of (positive (atom_variable sizes position value)) (bodies_of position value rules)) (upto size) else []))) (sym (lt-ltb 1 size (omega arith))) given

pub completion_front : (sizes : List ℕ) (rules : List Bodied) (position : ℕ) (all : List ℕ) → position < length all →
    all_written (completion_from sizes rules position (drop position all)) ≡ all_written (position_completion sizes rules position (get_or all position 0)) ++ all_written (completion_from sizes rules (position + 1) (drop (position + 1) all))
completion_front sizes rules position all less =
    ap (λ (l : List ℕ). all_written (completion_from sizes rules position l)) (front_at all position less)
    ∙ written_behind (position_completion sizes rules position (get_or all position 0)) (completion_from sizes rules (position + 1) (drop (position + 1) all))
  where
    front_at : (xs : List ℕ) (i : ℕ) → i < length xs → drop i xs ≡ get_or xs i 0 ∷ drop (i + 1) xs
    front_at [] i below = absurd (omega arith)
    front_at (x ∷ xs) zero below = refl
    front_at (x ∷ xs) (suc i) below = front_at xs i (omega arith) ∙ ap (λ (n : ℕ). get_or xs i 0 ∷ drop n (x ∷ xs)) (let e : suc (i + 1) ≡ suc i + 1 = omega arith in e)

pub no_completion : (sizes : List ℕ) (rules : List Bodied) (position : ℕ) (all : List ℕ) → length all ≤ position → all_written (completion_from sizes rules position (drop position all)) ≡ []
no_completion sizes rules position all most = ap (λ (l : List ℕ). all_written (completion_from sizes rules position l)) (none all position most)
  where
    none : (xs : List ℕ) (i : ℕ) → length xs ≤ i → drop i xs ≡ []
    none [] zero less = refl
    none [] (suc i) less = refl
    none (x ∷ xs) zero less = absurd (omega arith)
    none (x ∷ xs) (suc i) less = none xs i (omega arith)

pub size_at : (sizes : List ℕ) (i : ℕ) → i < length sizes → slice_get sizes i ≡ Some (get_or sizes i 0)
size_at [] i less = absurd (omega arith)
size_at (s ∷ sizes) zero less = refl
size_at (s ∷ sizes) (suc i) less = size_at sizes i (omega arith)

pub complete_is : {T E : Type 0} (result : Result T E) (old new : Kept) (x atom : Literal) (causes bodies : List Literal) → x ≡ atom → causes ≡ bodies →
    OnOk result (Gives old new (all_written (any_clauses x causes))) → OnOk result (Gives old new (all_written (completion_of atom bodies)))
complete_is result old new x atom causes bodies same are given =
    subst (λ (l : Literal). OnOk result (Gives old new (all_written (any_clauses l bodies)))) same (subst (λ (b : List Literal). OnOk result (Gives old new (all_written (any_clauses x b)))) are given)
