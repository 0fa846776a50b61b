-- Loops that copy clauses, and that make those of a part of the positions or of the rules.
use Rattle.std.proofs.Common.{◌≡◌, ◌∙◌, ℕ, zero, suc, ◌+◌, ◌-◌, ◌<◌, ◌≤◌, List, [], ◌∷◌, ◌++◌, length, map, flat_map, take, drop, get_or, slice_get, Some, Result, Ok, Err, OnOk, refl, sym, ap, subst, arith, append_assoc}
use Rattle.std.proofs.Math.Nat.{mul-le-mul_right}
use Rattle.std.proofs.lemmas.List.{map-append, take-append-drop, take_more}
use Rattle.cc_defs.specs.ClauseForms.{all_written}
use Rattle.cc_defs.specs.ClauseLists.{Bodied, completion_from, denials_of, position_completion}
use Rattle.cc_defs.specs.Clauses.{IsLiteralOver, IsOver, Literal}
use Rattle.cc_defs.specs.Rules.{upto}
use Rattle.cc_theory.specs.declared.rule.TimedRule.{TimedRule}
use Rattle.cc_theory.specs.Theories.{plain_head}
use Rattle.cc_form.specs.declared.moving.Way.{Way}
use Rattle.cc_form.specs.declared.store.Kept.{Kept}
use Rattle.cc_form.specs.Making.{bodied}
use Rattle.cc_form.specs.Steps.{CanMove, CanPlace, way_at}
use Rattle.cc_form.specs.Store.{Gives}
use Rattle.cc_form.proofs.Keeping.{gives_full, gives_more}
use Rattle.cc_form.proofs.Spreading.{denials_two, written_two}
use Rattle.cc_form.proofs.Stepping.{flat_last}

-- ---- parts one behind the other

pub three_given : {T E : Type 0} (result : Result T E) (a b c d : Kept) (x y z : List (List Literal)) → Gives a b x → Gives b c y → OnOk result (Gives c d z) → OnOk result (Gives a d (x ++ y ++ z))
three_given (Err e) a b c d x y z one two three = tt
three_given (Ok done) a b c d x y z one two three = gives_more a c d (x ++ y) z (gives_more a b c x y one two) three

pub each_given : (old now new : Kept) (f : ℕ → List (List Literal)) (n : ℕ) → Gives old now (flat_map f (upto n)) → Gives now new (f n) → Gives old new (flat_map f (upto (n + 1)))
each_given old now new f n one other =
    subst (Gives old new) (sym (flat_last f n) ∙ ap (λ (k : ℕ). flat_map f (upto k)) (let e : suc n ≡ n + 1 = omega arith in e)) (gives_more old now new (flat_map f (upto n)) (f n) one other)

-- ---- copies

pub literal_over : (top : ℕ) (clause : List Literal) (i : ℕ) (literal : Literal) → IsOver top clause → i < length clause → literal ≡ get_or clause i literal → IsLiteralOver top literal
literal_over top [] i literal over less is = absurd (omega arith)
literal_over top (x ∷ clause) zero literal over less is = subst (IsLiteralOver top) (sym is) (over.0, over.1)
literal_over top (x ∷ clause) (suc i) literal over less is = literal_over top clause i literal over.2 (omega arith) is

pub taken_more : {X : Type 0} (xs : List X) (i : ℕ) (x : X) → slice_get xs i ≡ Some x → take (i + 1) xs ≡ take i xs ++ x ∷ []
taken_more xs i x at = ap (λ (n : ℕ). take n xs) (let e : i + 1 ≡ suc i = omega arith in e) ∙ by_index xs i x at
  where
    by_index : {X : Type 0} (xs : List X) (i : ℕ) (x : X) → slice_get xs i ≡ Some x → take (suc i) xs ≡ take i xs ++ x ∷ []
    by_index [] i x at = absurd cc
    by_index (y ∷ ys) zero x at = ap (λ z. z ∷ []) (let e : y ≡ x = cc in e)
    by_index (y ∷ ys) (suc i) x at = ap (λ l. y ∷ l) (by_index ys i x at)

pub copied_more : (old now new : Kept) (f : List Literal → List Literal) (clauses : List (List Literal)) (i : ℕ) (clause : List Literal) → slice_get clauses i ≡ Some clause →
    Gives old now (map f (take i clauses)) → Gives now new (f clause ∷ []) → Gives old new (map f (take (i + 1) clauses))
copied_more old now new f clauses i clause at one other =
    subst (Gives old new) (sym (ap (map f) (taken_more clauses i clause at) ∙ map-append f (take i clauses) (clause ∷ []))) (gives_more old now new (map f (take i clauses)) (f clause ∷ []) one other)

-- where there are more clauses than their limit already
pub copied_full : (old now : Kept) (f : List Literal → List Literal) (clauses : List (List Literal)) (i : ℕ) → 8000000 < now.count → Gives old now (map f (take i clauses)) → Gives old now (map f clauses)
copied_full old now f clauses i full given =
    subst (Gives old now) (sym (map-append f (take i clauses) (drop i clauses)) ∙ ap (map f) (take-append-drop i clauses))
    (gives_more old now now (map f (take i clauses)) (map f (drop i clauses)) given (gives_full now (map f (drop i clauses)) full))

-- ---- a part of the positions

pub completion_within : (sizes : List ℕ) (rules : List Bodied) (position end : ℕ) (all : List ℕ) → position < end → end ≤ length all →
    all_written (completion_from sizes rules position (take (end - position) (drop position all)))
    ≡ all_written (position_completion sizes rules position (get_or all position 0)) ++ all_written (completion_from sizes rules (position + 1) (take (end - (position + 1)) (drop (position + 1) all)))
completion_within sizes rules position end all less most =
    ap (λ (n : ℕ). all_written (completion_from sizes rules position (take n (drop position all)))) (let e : end - position ≡ suc (end - (position + 1)) = omega arith in e)
    ∙ ap (λ (l : List ℕ). all_written (completion_from sizes rules position (take (suc (end - (position + 1))) l))) (front_of all position (omega arith))
    ∙ written_two (position_completion sizes rules position (get_or all position 0)) (completion_from sizes rules (position + 1) (take (end - (position + 1)) (drop (position + 1) all)))
  where
    front_of : (xs : List ℕ) (i : ℕ) → i < length xs → drop i xs ≡ get_or xs i 0 ∷ drop (i + 1) xs
    front_of [] i below = absurd (omega arith)
    front_of (x ∷ xs) zero below = refl
    front_of (x ∷ xs) (suc i) below = front_of xs i (omega arith) ∙ ap (λ (n : ℕ). get_or xs i 0 ∷ drop n (x ∷ xs)) (let e : suc (i + 1) ≡ suc i + 1 = omega arith in e)

-- ---- a part of the rules

pub denial_front : (rules : List TimedRule) (bodies : List Literal) (i : ℕ) (none : TimedRule) (body : Literal) → i < length rules → length bodies ≡ length rules → body ≡ get_or bodies i body →
    all_written (denials_of (bodied (drop i rules) (drop i bodies)))
    ≡ all_written (denials_of (record { head = plain_head (get_or rules i none).head; body = body } ∷ [])) ++ all_written (denials_of (bodied (drop (i + 1) rules) (drop (i + 1) bodies)))
denial_front [] bodies i none body less long is = absurd (omega arith)
denial_front (rule ∷ rules) [] i none body less long is = absurd (let e : suc (length rules) ≡ 0 = sym long in omega arith)
denial_front (rule ∷ rules) (b ∷ bodies) zero none body less long is =
    let first : Bodied = record { head = plain_head rule.head; body = body } in
    ap (λ (l : Literal). let r : Bodied = record { head = plain_head rule.head; body = l } in all_written (denials_of (r ∷ bodied rules bodies))) (sym is)
    ∙ ap all_written (denials_two (first ∷ []) (bodied rules bodies)) ∙ written_two (denials_of (first ∷ [])) (denials_of (bodied rules bodies))
denial_front (rule ∷ rules) (b ∷ bodies) (suc i) none body less long is =
    denial_front rules bodies i none body (omega arith) (omega arith) is
    ∙ ap (λ (n : ℕ). all_written (denials_of (record { head = plain_head (get_or rules i none).head; body = body } ∷ [])) ++ all_written (denials_of (bodied (drop n (rule ∷ rules)) (drop n (b ∷ bodies)))))
    (let e : suc (i + 1) ≡ suc i + 1 = omega arith in e)

pub can_move : (way : Way) (horizon steps top : ℕ) → steps + 2 ≤ horizon → CanPlace way horizon top → CanMove (way_at way steps) top
can_move way horizon steps top less can =
    let before : steps ≤ horizon - 2 = omega arith in
    let values = mul-le-mul_right way.values before in
    let own = mul-le-mul_right way.own before in
    let low = can.low in
    let most = can.most in
    record { few = can.few; low = omega arith; middle = omega arith; most = omega arith }

pub staged_more : (f : Literal → Literal) (start now next clause : List Literal) (i : ℕ) (literal made : Literal) → i < length clause → literal ≡ get_or clause i literal → made ≡ f literal → next ≡ now ++ made ∷ [] →
    now ≡ start ++ map f (take i clause) → next ≡ start ++ map f (take (i + 1) clause)
staged_more f start now next clause i literal made less at is pushed so_far =
    pushed ∙ ap (λ (m : Literal). now ++ m ∷ []) (is ∙ ap f at) ∙ ap (λ (l : List Literal). l ++ f (get_or clause i literal) ∷ []) so_far
    ∙ append_assoc start (map f (take i clause)) (f (get_or clause i literal) ∷ [])
    ∙ ap (λ (l : List Literal). start ++ l) (sym (ap (map f) (take_more clause i literal less) ∙ map-append f (take i clause) (get_or clause i literal ∷ [])))
