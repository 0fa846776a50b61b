-- Where the statements end.
use Rattle.std.proofs.Common.{◌≡◌, ℕ, zero, suc, ◌+◌, ◌-◌, ◌<◌, ◌≤◌, Bool, true, false, cond, List, [], ◌∷◌, ◌++◌, length, get_or, take, drop, refl, sym, ap, subst, ◌∙◌, append_assoc, add-one, arith, length-append, length-drop, inl, inr, ◌⊎◌}
use Rattle.std.proofs.Math.Seq.{take-suc, drop-cons, drop-length}
use Rattle.std.proofs.lemmas.List.{get_or-drop, get_or-map, length-map, take-map, drop-map, take_rest, append-nil, length-take-le}
use Rattle.cc_defs.specs.Tokens.{TokenView, is_dot, last_statement, statements_from, statements}
use Rattle.cc_defs.specs.declared.token.Token.{Token}
use Rattle.cc_text.specs.Views.{token_view, token_views, cut_at, AreEnds}

-- ---- pieces

pub cut_length : (from : ℕ) (ends : List ℕ) (items : List TokenView) → length (cut_at from ends items) ≡ length ends
cut_length from [] items = refl
cut_length from (end ∷ ends) items = ap (λ (n : ℕ). suc n) (cut_length end ends items)

pub piece_at : (from : ℕ) (ends : List ℕ) (items : List TokenView) (i : ℕ) → i < length ends
    → get_or (cut_at from ends items) i [] ≡ take (get_or ends i 0 - get_or (from ∷ ends) i 0) (drop (get_or (from ∷ ends) i 0) items)
piece_at from [] items i lt = absurd (omega arith)
piece_at from (end ∷ ends) items zero lt = refl
piece_at from (end ∷ ends) items (suc i) lt = piece_at end ends items i (omega arith)

pub ends_le : (from : ℕ) (ends : List ℕ) (count : ℕ) → AreEnds from ends count → from ≤ count
ends_le from [] count e = e
ends_le from (end ∷ ends) count e = let f = ends_le end ends count e.1 in let g = e.0 in omega arith

pub ends_at : (from : ℕ) (ends : List ℕ) (count i : ℕ) → AreEnds from ends count → i < length ends
    → (get_or (from ∷ ends) i 0 < get_or ends i 0) × (get_or ends i 0 ≤ count)
ends_at from [] count i e lt = absurd (omega arith)
ends_at from (end ∷ ends) count zero e lt = (e.0, ends_le end ends count e.1)
ends_at from (end ∷ ends) count (suc i) e lt = ends_at end ends count i e.1 (omega arith)

-- ---- one more piece

-- the last of the places
abbrev pub last_of : ℕ → List ℕ → ℕ
last_of from [] = from
last_of from (end ∷ ends) = last_of end ends

pub ends_push : (from : ℕ) (ends : List ℕ) (count end : ℕ) → AreEnds from ends count → last_of from ends < end → AreEnds from (ends ++ end ∷ []) end
ends_push from [] count end e lt = (lt, omega arith)
ends_push from (first ∷ ends) count end e lt = (e.0, ends_push first ends count end e.1 lt)

pub ends_widen : (from : ℕ) (ends : List ℕ) (count more : ℕ) → AreEnds from ends count → count ≤ more → AreEnds from ends more
ends_widen from [] count more e le = omega (arith, e)
ends_widen from (first ∷ ends) count more e le = (e.0, ends_widen first ends count more e.1 le)

pub last_push : (from : ℕ) (ends : List ℕ) (end : ℕ) → last_of from (ends ++ end ∷ []) ≡ end
last_push from [] end = refl
last_push from (first ∷ ends) end = last_push first ends end

-- the items from one place to before the other
abbrev pub between : ℕ → ℕ → List TokenView → List TokenView
between from to items = take (to - from) (drop from items)

pub cut_push : (from : ℕ) (ends : List ℕ) (end : ℕ) (items : List TokenView)
    → cut_at from (ends ++ end ∷ []) items ≡ cut_at from ends items ++ between (last_of from ends) end items ∷ []
cut_push from [] end items = refl
cut_push from (first ∷ ends) end items = ap (λ (l : List (List TokenView)). between from first items ∷ l) (cut_push first ends end items)

-- ---- the loop over the tokens

-- the statements that have ended, and what is left of the tokens
abbrev pub CutSoFar : List TokenView → List ℕ → ℕ → ℕ → Type 0
CutSoFar items ends begun at = statements items ≡ cut_at 0 ends items ++ statements_from (between begun at items) (drop at items)

between-next : (items : List TokenView) (from at : ℕ) (item : TokenView) → from ≤ at → at < length items → get_or items at item ≡ item
    → between from (at + 1) items ≡ between from at items ++ item ∷ []
between-next items from at item le lt e =
    let more : (at + 1) - from ≡ suc (at - from) = omega arith in
    let place : from + (at - from) ≡ at = omega arith in
    let within : at - from < length (drop from items) = omega (arith, length-drop from items) in
    let one : take (suc (at - from)) (drop from items) ≡ between from at items ++ get_or (drop from items) (at - from) item ∷ [] = take-suc (drop from items) (at - from) item within in
    let same : get_or (drop from items) (at - from) item ≡ item = get_or-drop from items (at - from) item ∙ ap (λ (i : ℕ). get_or items i item) place ∙ e in
    ap (λ (n : ℕ). take n (drop from items)) more ∙ one ∙ ap (λ (t : TokenView). between from at items ++ t ∷ []) same

drop-next : (items : List TokenView) (at : ℕ) (item : TokenView) → at < length items → get_or items at item ≡ item → drop at items ≡ item ∷ drop (at + 1) items
drop-next items at item lt e = rw add-one (drop-cons items at item lt ∙ ap (λ (t : TokenView). t ∷ drop (suc at) items) e)

nothing_between : (items : List TokenView) (at : ℕ) → between at at items ≡ []
nothing_between items at = let e : at - at ≡ 0 = omega arith in ap (λ (n : ℕ). take n (drop at items)) e

choose : {A : Type 0} (t : Bool) (x y : A) → t ≡ false → cond t x y ≡ y
choose true x y e = absurd cc
choose false x y e = refl

choose_first : {A : Type 0} (t : Bool) (x y : A) → t ≡ true → cond t x y ≡ x
choose_first true x y e = refl
choose_first false x y e = absurd cc

pub goes_on : (items : List TokenView) (ends : List ℕ) (begun at : ℕ) (item : TokenView) → begun ≤ at → at < length items → get_or items at item ≡ item
    → is_dot item ≡ false → CutSoFar items ends begun at → CutSoFar items ends begun (at + 1)
goes_on items ends begun at item le lt e dot so_far =
    let held = between begun at items in
    let rest = drop (at + 1) items in
    let one : statements_from held (item ∷ rest) ≡ statements_from (held ++ item ∷ []) rest = choose (is_dot item) _ _ dot in
    let next : statements_from held (drop at items) ≡ statements_from (between begun (at + 1) items) rest =
    ap (statements_from held) (drop-next items at item lt e) ∙ one ∙ ap (λ (l : List TokenView). statements_from l rest) (sym (between-next items begun at item le lt e)) in
    so_far ∙ ap (λ (l : List (List TokenView)). cut_at 0 ends items ++ l) next

pub ends_here : (items : List TokenView) (ends : List ℕ) (begun at : ℕ) (item : TokenView) → begun ≡ last_of 0 ends → begun ≤ at → at < length items → get_or items at item ≡ item
    → is_dot item ≡ true → CutSoFar items ends begun at → CutSoFar items (ends ++ (at + 1) ∷ []) (at + 1) (at + 1)
ends_here items ends begun at item last le lt e dot so_far =
    let held = between begun at items in
    let rest = drop (at + 1) items in
    let one : statements_from held (item ∷ rest) ≡ (held ++ item ∷ []) ∷ statements_from [] rest = choose_first (is_dot item) _ _ dot in
    let piece : held ++ item ∷ [] ≡ between (last_of 0 ends) (at + 1) items = sym (between-next items begun at item le lt e) ∙ ap (λ (n : ℕ). between n (at + 1) items) last in
    let next : statements_from held (drop at items) ≡ between (last_of 0 ends) (at + 1) items ∷ statements_from (between (at + 1) (at + 1) items) rest =
    ap (statements_from held) (drop-next items at item lt e) ∙ one ∙ ap (λ (l : List TokenView). l ∷ statements_from [] rest) piece
    ∙ ap (λ (l : List TokenView). between (last_of 0 ends) (at + 1) items ∷ statements_from l rest) (sym (nothing_between items (at + 1))) in
    so_far ∙ ap (λ (l : List (List TokenView)). cut_at 0 ends items ++ l) next
    ∙ sym (append_assoc (cut_at 0 ends items) (between (last_of 0 ends) (at + 1) items ∷ []) (statements_from (between (at + 1) (at + 1) items) rest))
    ∙ ap (λ (l : List (List TokenView)). l ++ statements_from (between (at + 1) (at + 1) items) rest) (sym (cut_push 0 ends (at + 1) items))

-- ---- the end

at_end : (items : List TokenView) (ends : List ℕ) (begun : ℕ) → CutSoFar items ends begun (length items)
    → statements items ≡ cut_at 0 ends items ++ last_statement (drop begun items)
at_end items ends begun so_far =
    let held : between begun (length items) items ≡ drop begun items = take_rest items begun in
    so_far ∙ ap (λ (l : List TokenView). cut_at 0 ends items ++ statements_from (between begun (length items) items) l) (drop-length items)
    ∙ ap (λ (l : List TokenView). cut_at 0 ends items ++ last_statement l) held

one_last : (held : List TokenView) → 0 < length held → last_statement held ≡ held ∷ []
one_last [] lt = absurd (omega arith)
one_last (item ∷ held) lt = refl

none_last : (held : List TokenView) → length held ≤ 0 → last_statement held ≡ []
none_last [] le = refl
none_last (item ∷ held) le = absurd (omega arith)

pub ends_last : (items : List TokenView) (ends : List ℕ) (begun : ℕ) → begun ≡ last_of 0 ends → begun < length items → CutSoFar items ends begun (length items)
    → cut_at 0 (ends ++ length items ∷ []) items ≡ statements items
ends_last items ends begun last lt so_far =
    let piece : between (last_of 0 ends) (length items) items ≡ drop begun items = ap (λ (n : ℕ). between n (length items) items) (sym last) ∙ take_rest items begun in
    let some : last_statement (drop begun items) ≡ drop begun items ∷ [] = one_last (drop begun items) (omega (arith, length-drop begun items)) in
    sym (at_end items ends begun so_far ∙ ap (λ (l : List (List TokenView)). cut_at 0 ends items ++ l) some
    ∙ ap (λ (l : List TokenView). cut_at 0 ends items ++ l ∷ []) (sym piece) ∙ sym (cut_push 0 ends (length items) items))

pub ended : (items : List TokenView) (ends : List ℕ) (begun : ℕ) → length items ≤ begun → CutSoFar items ends begun (length items) → cut_at 0 ends items ≡ statements items
ended items ends begun le so_far =
    let none : last_statement (drop begun items) ≡ [] = none_last (drop begun items) (omega (arith, length-drop begun items)) in
    sym (at_end items ends begun so_far ∙ ap (λ (l : List (List TokenView)). cut_at 0 ends items ++ l) none ∙ append-nil (cut_at 0 ends items))

-- ---- the tokens themselves

abbrev item_at : List Token → ℕ → Token → TokenView
item_at tokens i d = token_view (get_or tokens i d)

item_is : (tokens : List Token) (i : ℕ) (d : Token) → i < length tokens → get_or (token_views tokens) i (item_at tokens i d) ≡ item_at tokens i d
item_is tokens i d lt = get_or-map token_view tokens i d (item_at tokens i d) lt

views_length : (tokens : List Token) → length (token_views tokens) ≡ length tokens
views_length tokens = length-map tokens token_view

pub token_goes_on : (tokens : List Token) (ends : List ℕ) (begun at : ℕ) (d : Token) → begun ≤ at → at < length tokens → is_dot (item_at tokens at d) ≡ false
    → CutSoFar (token_views tokens) ends begun at → CutSoFar (token_views tokens) ends begun (at + 1)
token_goes_on tokens ends begun at d le lt dot so_far =
    goes_on (token_views tokens) ends begun at (item_at tokens at d) le (omega (arith, views_length tokens)) (item_is tokens at d lt) dot so_far

pub token_ends : (tokens : List Token) (ends : List ℕ) (begun at : ℕ) (d : Token) → begun ≡ last_of 0 ends → begun ≤ at → at < length tokens → is_dot (item_at tokens at d) ≡ true
    → CutSoFar (token_views tokens) ends begun at → CutSoFar (token_views tokens) (ends ++ (at + 1) ∷ []) (at + 1) (at + 1)
token_ends tokens ends begun at d last le lt dot so_far =
    ends_here (token_views tokens) ends begun at (item_at tokens at d) last le (omega (arith, views_length tokens)) (item_is tokens at d lt) dot so_far

-- where the loop ends
pub at_length : (tokens : List Token) (ends : List ℕ) (begun at : ℕ) → at ≡ length tokens → CutSoFar (token_views tokens) ends begun at
    → CutSoFar (token_views tokens) ends begun (length (token_views tokens))
at_length tokens ends begun at e so_far = subst (CutSoFar (token_views tokens) ends begun) (e ∙ sym (views_length tokens)) so_far

pub last_ends : (tokens : List Token) (ends : List ℕ) (begun at : ℕ) → begun ≡ last_of 0 ends → begun < length tokens → at ≡ length tokens → CutSoFar (token_views tokens) ends begun at
    → cut_at 0 (ends ++ length tokens ∷ []) (token_views tokens) ≡ statements (token_views tokens)
last_ends tokens ends begun at last lt e so_far =
    ap (λ (n : ℕ). cut_at 0 (ends ++ n ∷ []) (token_views tokens)) (sym (views_length tokens))
    ∙ ends_last (token_views tokens) ends begun last (omega (arith, views_length tokens)) (at_length tokens ends begun at e so_far)

pub all_ended : (tokens : List Token) (ends : List ℕ) (begun at : ℕ) → length tokens ≤ begun → at ≡ length tokens → CutSoFar (token_views tokens) ends begun at
    → cut_at 0 ends (token_views tokens) ≡ statements (token_views tokens)
all_ended tokens ends begun at le e so_far = ended (token_views tokens) ends begun (omega (arith, views_length tokens)) (at_length tokens ends begun at e so_far)

pub statement_is : (tokens : List Token) (ends : List ℕ) (i : ℕ) → i < length ends
    → token_views (take (get_or ends i 0 - get_or (0 ∷ ends) i 0) (drop (get_or (0 ∷ ends) i 0) tokens)) ≡ get_or (cut_at 0 ends (token_views tokens)) i []
statement_is tokens ends i lt =
    let from = get_or (0 ∷ ends) i 0 in
    let to = get_or ends i 0 in
    sym (piece_at 0 ends (token_views tokens) i lt ∙ ap (take (to - from)) (drop-map token_view from tokens) ∙ take-map token_view (to - from) (drop from tokens))

pub statement_some : (tokens : List Token) (ends : List ℕ) (i : ℕ) → AreEnds 0 ends (length tokens) → i < length ends
    → 0 < length (take (get_or ends i 0 - get_or (0 ∷ ends) i 0) (drop (get_or (0 ∷ ends) i 0) tokens))
statement_some tokens ends i are lt =
    let p = ends_at 0 ends (length tokens) i are lt in
    let below = p.0 in
    let within = p.1 in
    let from = get_or (0 ∷ ends) i 0 in
    let to = get_or ends i 0 in
    let size : to - from ≤ length (drop from tokens) = omega (arith, length-drop from tokens) in
    omega (arith, length-take-le (to - from) (drop from tokens) size)
