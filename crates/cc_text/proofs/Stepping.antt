-- One step of the reading, and what it adds to the steps before it.
use Rattle.std.proofs.Common.{◌≡◌, ℕ, zero, suc, ◌+◌, ◌<◌, ◌≤◌, Bool, true, false, eqb, List, [], ◌∷◌, ◌++◌, length, take, drop, Option, Some, None, refl, sym, ap, subst, ◌∙◌, append_assoc, arith, length-append, length-drop, inl, inr, ◌⊎◌}
use Rattle.std.specs.List.{AllByRecursion}
use Rattle.std.proofs.lemmas.List.{take-append-drop, append-nil}
use Rattle.std.proofs.lemmas.List.Sums.{count_by-le-length}
use Rattle.cc_defs.specs.declared.refusal.LimitAt.{LimitAt}
use Rattle.cc_defs.specs.declared.refusal.Refusal.{Refusal}
use Rattle.cc_defs.specs.declared.token.TokenKind.{TokenKind}
use Rattle.cc_defs.specs.Tokens.{line_feeds, kind_of, TokenView, Skips, IsToken, IsCut, PassesLimit, IsShort, StopsAt}
use Rattle.cc_text.specs.Fronts.{IsGapOf, IsFront, NoFront}
use Rattle.cc_text.specs.Steps.{Passes, PassesNone}
use Rattle.cc_text.proofs.Cuts.{front_token, none_begins, some_bytes, plain, too_long, view}

skips : (text : List ℕ) (count lines : ℕ) → IsGapOf text count lines → count < length text → Skips text (take count text) (drop count text)
skips text count lines g lt = record { whole = sym (take-append-drop count text); space = g.space; outside = g.outside lt }

not_whole : (text : List ℕ) (count lines : ℕ) → IsGapOf text count lines → (count ≡ length text → ⊥) → count < length text
not_whole text count lines g other = let f = g.within in omega (arith, other)

drop-add : (n m : ℕ) (l : List ℕ) → drop (n + m) l ≡ drop m (drop n l)
drop-add zero m l = let e : 0 + m ≡ m = omega arith in ap (λ (k : ℕ). drop k l) e
drop-add (suc n) zero [] = let e : suc n + 0 ≡ suc n = omega arith in ap (λ (k : ℕ). drop k []) e
drop-add (suc n) (suc m) [] = let e : suc n + suc m ≡ suc (n + suc m) = omega arith in ap (λ (k : ℕ). drop k []) e
drop-add (suc n) m (b ∷ l) = let e : suc n + m ≡ suc (n + m) = omega arith in ap (λ (k : ℕ). drop k (b ∷ l)) e ∙ drop-add n m l

pub none_first : (file line : ℕ) (text : List ℕ) (count lines : ℕ) (rest : List ℕ) → IsGapOf text count lines → (count ≡ length text → ⊥) → rest ≡ drop count text → NoFront rest
    → StopsAt file line text [] (plain file (line + lines))
none_first file line text count lines rest g other e none =
    let lt = not_whole text count lines g other in (
      take count text,
      drop count text,
      skips text count lines g lt,
      inl (none_begins (drop count text) (g.ends lt) (subst NoFront e none), ap (λ (n : ℕ). plain file (line + n)) g.lines_are),
    )

pub long_first : (file line : ℕ) (text : List ℕ) (count lines : ℕ) (rest : List ℕ) (kind : TokenKind) (size : ℕ) (piece : List ℕ) (limit : LimitAt)
    → IsGapOf text count lines → (count ≡ length text → ⊥) → rest ≡ drop count text → IsFront rest kind size → piece ≡ take size rest → Passes kind piece limit
    → StopsAt file line text [] (too_long file (line + lines) limit)
long_first file line text count lines rest kind size piece limit g other e f piece_is passes =
    let lt = not_whole text count lines g other in
    let front = subst (λ (l : List ℕ). IsFront l kind size) e f in
    let same : piece ≡ take size (drop count text) = piece_is ∙ ap (take size) e in (
      take count text,
      drop count text,
      skips text count lines g lt,
      inr (
        view kind (take size (drop count text)) 0,
        drop size (drop count text),
        limit,
        front_token (drop count text) kind size 0 front,
        subst (λ (l : List ℕ). Passes kind l limit) same passes,
        ap (λ (n : ℕ). too_long file (line + n) limit) g.lines_are,
      ),
    )

-- the token is found behind the gap, and count bytes are up to its end
pub record Finds (line : ℕ) (text : List ℕ) (token : TokenView) (count : ℕ) : Type 0 where
  pub gap : List ℕ
  pub rest : List ℕ
  pub positive : 0 < count
  pub within : count ≤ length text
  pub skipped : Skips text gap rest
  pub is_token : IsToken token rest (drop count text)
  pub short : IsShort token
  pub line_is : token.line ≡ line + line_feeds gap

pub token_first : (line : ℕ) (text : List ℕ) (count lines : ℕ) (rest : List ℕ) (kind : TokenKind) (size : ℕ) (piece name : List ℕ)
    → IsGapOf text count lines → (count ≡ length text → ⊥) → rest ≡ drop count text → IsFront rest kind size → piece ≡ take size rest → name ≡ piece → PassesNone kind piece
    → Finds line text (view kind name (line + lines)) (count + size)
token_first line text count lines rest kind size piece name g other e f piece_is name_is short =
    let lt = not_whole text count lines g other in
    let front = subst (λ (l : List ℕ). IsFront l kind size) e f in
    let same : take size (drop count text) ≡ name = sym (name_is ∙ piece_is ∙ ap (take size) e) in
    let front_within = front.within in
    let first : IsToken (view kind (take size (drop count text)) (line + lines)) (drop count text) (drop size (drop count text)) =
    front_token (drop count text) kind size (line + lines) front in
    let behind : drop size (drop count text) ≡ drop (count + size) text = sym (drop-add count size text) in
    let named : IsToken (view kind name (line + lines)) (drop count text) (drop size (drop count text)) =
    subst (λ (l : List ℕ). IsToken (view kind l (line + lines)) (drop count text) (drop size (drop count text))) same first in
    record {
      gap = take count text;
      rest = drop count text;
      positive = (let h = some_bytes rest kind size f in omega arith);
      within = omega (arith, length-drop count text);
      skipped = skips text count lines g lt;
      is_token = subst (λ (l : List ℕ). IsToken (view kind name (line + lines)) (drop count text) l) behind named;
      short = subst (PassesNone kind) (sym name_is) short;
      line_is = ap (λ (n : ℕ). line + n) g.lines_are;
    }

-- ---- the steps so far

-- each cut of what is left, and each stop in it, is one of the whole behind the tokens so far
pub record ReadSoFar (file : ℕ) (text : List ℕ) (tokens : List TokenView) (line : ℕ) (rest : List ℕ) : Type 0 where
  pub cuts : (more : List TokenView) → IsCut line rest more → IsCut 1 text (tokens ++ more)
  pub stops : (more : List TokenView) (refusal : Refusal) → StopsAt file line rest more refusal → StopsAt file 1 text (tokens ++ more) refusal
  pub short : AllByRecursion IsShort tokens
  pub few : length tokens + length rest ≤ length text
  pub lines_fit : line + length rest ≤ length text + 1

pub read_nothing : (file : ℕ) (text : List ℕ) → ReadSoFar file text [] 1 text
read_nothing file text = record {
  cuts = λ more c. c;
  stops = λ more refusal s. s;
  short = tt;
  few = omega arith;
  lines_fit = omega arith;
}

short_push : (tokens : List TokenView) (token : TokenView) → AllByRecursion IsShort tokens → IsShort token → AllByRecursion IsShort (tokens ++ token ∷ [])
short_push [] token all one = (one, tt)
short_push (first ∷ tokens) token all one = (all.0, short_push tokens token all.1 one)

pub read_more : (file : ℕ) (text : List ℕ) (tokens : List TokenView) (line : ℕ) (rest : List ℕ) (token : TokenView) (count : ℕ) (after : List ℕ)
    → ReadSoFar file text tokens line rest → Finds line rest token count → after ≡ drop count rest
    → ReadSoFar file text (tokens ++ token ∷ []) token.line after
read_more file text tokens line rest token count after so_far f e = subst (ReadSoFar file text (tokens ++ token ∷ []) token.line) (sym e) (record {
  cuts = λ more c.
      let d : IsCut (line + line_feeds f.gap) (drop count rest) more = subst (λ (l : ℕ). IsCut l (drop count rest) more) f.line_is c in
      subst (IsCut 1 text) (sym (append_assoc tokens (token ∷ []) more)) (so_far.cuts (token ∷ more) (f.gap, f.rest, drop count rest, f.skipped, f.is_token, f.line_is, d));
  stops = λ more refusal s.
      let d : StopsAt file (line + line_feeds f.gap) (drop count rest) more refusal = subst (λ (l : ℕ). StopsAt file l (drop count rest) more refusal) f.line_is s in
      subst (λ (l : List TokenView). StopsAt file 1 text l refusal) (sym (append_assoc tokens (token ∷ []) more))
      (so_far.stops (token ∷ more) refusal (f.gap, f.rest, drop count rest, f.skipped, f.is_token, f.short, f.line_is, d));
  short = short_push tokens token so_far.short f.short;
  few = (let g = so_far.few in let p = f.positive in let w = f.within in omega (arith, length-append tokens (token ∷ []), length-drop count rest));
  lines_fit =
      let g = so_far.lines_fit in
      let feeds = count_by-le-length (λ b. eqb b 10) f.gap in
      let gap_size = ap length f.skipped.whole in
      let token_size = ap length f.is_token.whole in
      let line_is = f.line_is in
      omega (arith, length-append f.gap f.rest, length-append token.text (drop count rest));
})

pub shorter : (rest behind : List ℕ) (count : ℕ) → 0 < count → count ≤ length rest → behind ≡ drop count rest → length behind < length rest
shorter rest behind count some within is = let e = ap length is in omega (arith, length-drop count rest)
