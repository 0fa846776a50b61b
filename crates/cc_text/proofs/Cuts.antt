-- One cut, one stop, and one of both.
use Rattle.std.proofs.Common.{◌≡◌, ◌≢◌, ℕ, zero, suc, ◌+◌, ◌<◌, ◌≤◌, Bool, true, false, ◌||◌, ◌&&◌, cond, eqb, leb, List, [], ◌∷◌, ◌++◌, length, get_or, take, drop, Option, Some, None, refl, sym, ap, subst, ◌∙◌, append_assoc, arith, length-append, length-drop, inl, inr, ◌⊎◌}
use Rattle.std.specs.List.{AllByRecursion}
use Rattle.std.proofs.Math.Seq.{take-add, take-append_seam, drop-append_seam}
use Rattle.std.proofs.lemmas.Bool.{eqb-true, eqb-false, leb-true, leb-false, or_cases}
use Rattle.std.proofs.lemmas.List.{take-append-drop, append_cancel_left, append-nil}
use Rattle.cc_defs.specs.declared.refusal.LimitAt.{LimitAt}
use Rattle.cc_defs.specs.declared.refusal.Refusal.{Refusal}
use Rattle.cc_defs.specs.declared.token.TokenKind.{TokenKind}
use Rattle.cc_defs.specs.declared.token.TokenKind.TheVariants as kinds
use Rattle.cc_defs.specs.Limits.{limit_number}
use Rattle.cc_defs.specs.Tokens.{is_space, is_gap, ends_inside, begins_gap, line_feeds, kind_of, limit_of, counted, TokenView, Skips, IsLongest, IsToken, IsCut, NoneBegins, PassesLimit, IsShort, StopsAt}
use Rattle.cc_text.specs.Fronts.{IsFront, NoFront}
use Rattle.cc_text.specs.Steps.{Passes, PassesNone}
use Rattle.cc_text.proofs.Gaps.{bool_cases, both, one_gap, whole_gap, gap_split}

-- ---- fronts are tokens

-- more bytes than the first so many
longer : (text : List ℕ) (count : ℕ) (more after : List ℕ) → drop count text ≡ more ++ after → take count text ++ more ≡ take (count + length more) text
longer text count more after e =
    let front : take (length more) (drop count text) ≡ more = ap (take (length more)) e ∙ take-append_seam more after in
    sym (take-add count (length more) text ∙ ap (λ (l : List ℕ). take count text ++ l) front)

not_empty : (more : List ℕ) → more ≢ [] → 0 < length more
not_empty [] none = absurd (none refl)
not_empty (b ∷ more) none = omega arith

pub front_token : (text : List ℕ) (kind : TokenKind) (count line : ℕ) → IsFront text kind count
    → IsToken (record { kind = kind; text = take count text; line = line }) text (drop count text)
front_token text kind count line f = record {
  whole = sym (take-append-drop count text);
  kind = f.kind_is;
  longest = λ more after e some.
      let size : count + length more ≤ length text = (let g = ap length e in let w = f.within in omega (arith, length-drop count text, length-append more after)) in
      let positive = not_empty more some in
      ap kind_of (longer text count more after e) ∙ f.longest (count + length more) (omega arith) size;
}

pub none_begins : (text : List ℕ) → begins_gap text ≡ false → NoFront text → NoneBegins text
none_begins text b none = (
  b,
  λ front after e.
      let same : front ≡ take (length front) text = sym (ap (take (length front)) e ∙ take-append_seam front after) in
      let size : length front ≤ length text = (let f = ap length e in omega (arith, length-append front after)) in
      ap kind_of same ∙ none (length front) size,
)

-- ---- each place has a front, or none

option_cases : (o : Option TokenKind) → ((kind : TokenKind) × (o ≡ Some kind)) ⊎ (o ≡ None)
option_cases None = inr refl
option_cases (Some kind) = inl (kind, refl)

front_up_to : (text : List ℕ) (count : ℕ) → count ≤ length text → ((more : ℕ) → count < more → more ≤ length text → kind_of (take more text) ≡ None)
    → ((kind : TokenKind) × (size : ℕ) × IsFront text kind size) ⊎ NoFront text
front_up_to text zero le none = inr all
  where
    all : NoFront text
    all zero within = refl
    all (suc more) within = none (suc more) (omega arith) within
front_up_to text (suc count) le none =
    elim (option_cases (kind_of (take (suc count) text))) [
      | inl k ↦ inl (k.0, suc count, record { within = le; kind_is = k.1; longest = none })
      | inr e ↦ front_up_to text count (omega arith) (λ more lt within. elim (bool_cases (eqb (suc count) more)) [
        | inl same ↦ subst (λ (n : ℕ). kind_of (take n text) ≡ None) (eqb-true (suc count) more same) e
        | inr other ↦ none more (let f = eqb-false (suc count) more other in omega arith) within
      ])
    ]

pub front_split : (text : List ℕ) → ((kind : TokenKind) × (size : ℕ) × IsFront text kind size) ⊎ NoFront text
front_split text = front_up_to text (length text) (omega arith) (λ more lt le. absurd (omega arith))

-- ---- one token at one place

prefix_cases : (a b c d : List ℕ) → a ++ b ≡ c ++ d → ((m : List ℕ) × (c ≡ a ++ m) × (b ≡ m ++ d)) ⊎ ((m : List ℕ) × (a ≡ c ++ m) × (d ≡ m ++ b))
prefix_cases [] b c d e = inl (c, refl, e)
prefix_cases (x ∷ a) b [] d e = inr (x ∷ a, refl, sym e)
prefix_cases (x ∷ a) b (y ∷ c) d e =
    let first : x ≡ y = cc in
    let rest : a ++ b ≡ c ++ d = cc in
    elim (prefix_cases a b c d rest) [
      | inl p ↦ inl (p.0, cc, p.2)
      | inr p ↦ inr (p.0, cc, p.2)
    ]

no_more : (piece m after : List ℕ) (kind : TokenKind) → IsLongest piece (m ++ after) → kind_of (piece ++ m) ≡ Some kind → m ≡ []
no_more piece [] after kind longest e = refl
no_more piece (b ∷ m) after kind longest e = absurd (let f = longest (b ∷ m) after refl (λ g. let h = g in cc) in cc)

same_text : (rest : List ℕ) (one other : TokenView) (after behind : List ℕ) → IsToken one rest after → IsToken other rest behind → (one.text ≡ other.text) × (after ≡ behind)
same_text rest one other after behind s t =
    elim (prefix_cases one.text after other.text behind (sym s.whole ∙ t.whole)) [
      | inl p ↦
          let none : p.0 ≡ [] = no_more one.text p.0 behind other.kind (subst (IsLongest one.text) p.2 s.longest) (ap kind_of (sym p.1) ∙ t.kind) in
          (sym (p.1 ∙ ap (λ (l : List ℕ). one.text ++ l) none ∙ append-nil one.text), p.2 ∙ ap (λ (l : List ℕ). l ++ behind) none)
      | inr p ↦
          let none : p.0 ≡ [] = no_more other.text p.0 after one.kind (subst (IsLongest other.text) p.2 t.longest) (ap kind_of (sym p.1) ∙ s.kind) in
          (p.1 ∙ ap (λ (l : List ℕ). other.text ++ l) none ∙ append-nil other.text, sym (p.2 ∙ ap (λ (l : List ℕ). l ++ after) none))
    ]

abbrev some : TokenKind → Option TokenKind
some k = Some k

some_is : (k l : TokenKind) → some k ≡ some l → k ≡ l
some_is k l e = cc

same_kind : (rest : List ℕ) (one other : TokenView) (after behind : List ℕ) → IsToken one rest after → IsToken other rest behind → one.kind ≡ other.kind
same_kind rest one other after behind s t =
    some_is one.kind other.kind (sym s.kind ∙ ap kind_of ((same_text rest one other after behind s t).0) ∙ t.kind)

abbrev pub view : TokenKind → List ℕ → ℕ → TokenView
view kind text line = record { kind = kind; text = text; line = line }

same_view : (one other : TokenView) → one.kind ≡ other.kind → one.text ≡ other.text → one.line ≡ other.line → one ≡ other
same_view one other k t l =
    ap (λ (kind : TokenKind). view kind one.text one.line) k ∙ ap (λ (text : List ℕ). view other.kind text one.line) t
    ∙ ap (λ (line : ℕ). view other.kind other.text line) l

-- ---- no token begins with space or a comment

none_is : (kind : TokenKind) → None ≡ Some kind → ⊥
none_is kind e = cc

starts : (b : ℕ) (bs : List ℕ) (kind : TokenKind) → kind_of (b ∷ bs) ≡ Some kind → (is_space b || eqb b 37) ≡ false
starts b bs kind e =
    elim (bool_cases (is_space b || eqb b 37)) [
      | inr f ↦ f
      | inl f ↦ absurd (elim (or_cases (is_space b) (eqb b 37) f) [
        | inr s ↦ none_is kind (subst (λ (c : ℕ). kind_of (c ∷ bs) ≡ Some kind) (eqb-true b 37 s) e)
        | inl f1 ↦ elim (or_cases _ (eqb b 10) f1) [
          | inr s ↦ none_is kind (subst (λ (c : ℕ). kind_of (c ∷ bs) ≡ Some kind) (eqb-true b 10 s) e)
          | inl f2 ↦ elim (or_cases _ (eqb b 13) f2) [
            | inr s ↦ none_is kind (subst (λ (c : ℕ). kind_of (c ∷ bs) ≡ Some kind) (eqb-true b 13 s) e)
            | inl f3 ↦ elim (or_cases (eqb b 32) (eqb b 9) f3) [
              | inr s ↦ none_is kind (subst (λ (c : ℕ). kind_of (c ∷ bs) ≡ Some kind) (eqb-true b 9 s) e)
              | inl s ↦ none_is kind (subst (λ (c : ℕ). kind_of (c ∷ bs) ≡ Some kind) (eqb-true b 32 s) e)
            ]
          ]
        ]
      ])
    ]

begins_by : (piece after : List ℕ) (kind : TokenKind) → kind_of piece ≡ Some kind → begins_gap (piece ++ after) ≡ false
begins_by [] after kind e = absurd (none_is kind e)
begins_by (b ∷ bs) after kind e = starts b bs kind e

token_begins : (token : TokenView) (rest after : List ℕ) → IsToken token rest after → begins_gap rest ≡ false
token_begins token rest after t = ap begins_gap t.whole ∙ begins_by token.text after token.kind t.kind

same_gap : (text gap rest other behind : List ℕ) → Skips text gap rest → begins_gap rest ≡ false → Skips text other behind → begins_gap behind ≡ false
    → (gap ≡ other) × (rest ≡ behind)
same_gap text gap rest other behind s b t d =
    let same = one_gap false gap other rest behind (sym s.whole ∙ t.whole) s.space s.outside b t.space t.outside d in
    (same, append_cancel_left other rest behind (ap (λ (l : List ℕ). l ++ rest) (sym same) ∙ sym s.whole ∙ t.whole))

-- a text that is space and comments has no place behind them
no_place : (text gap rest : List ℕ) → is_gap false text ≡ true → Skips text gap rest → begins_gap rest ≡ false → ⊥
no_place text gap rest g s b = whole_gap text gap rest s.whole g s.outside b

-- ---- the laws

-- a token at the front of two texts that are one
pub record Meets (text gap rest after other next behind : List ℕ) (token twin : TokenView) : Type 0 where
  pub gaps : gap ≡ other
  pub rests : rest ≡ next
  pub afters : after ≡ behind
  pub texts : token.text ≡ twin.text
  pub kinds_are : token.kind ≡ twin.kind

meet : (text gap rest after other next behind : List ℕ) (token twin : TokenView) → Skips text gap rest → IsToken token rest after → Skips text other next → IsToken twin next behind
    → Meets text gap rest after other next behind token twin
meet text gap rest after other next behind token twin s t u v =
    let same = same_gap text gap rest other next s (token_begins token rest after t) u (token_begins twin next behind v) in
    let w : IsToken twin rest behind = subst (λ (l : List ℕ). IsToken twin l behind) (sym same.1) v in
    let p = same_text rest token twin after behind t w in
    record {
      gaps = same.0;
      rests = same.1;
      afters = p.1;
      texts = p.0;
      kinds_are = same_kind rest token twin after behind t w;
    }

abbrev feeds : ℕ → List ℕ → ℕ
feeds line gap = line + line_feeds gap

pub one_cut : (line : ℕ) (text : List ℕ) (one other : List TokenView) → IsCut line text one → IsCut line text other → one ≡ other
one_cut line text [] [] c d = refl
one_cut line text [] (token ∷ other) c d = absurd (no_place text d.0 d.1 c d.3 (token_begins token d.1 d.2 d.4))
one_cut line text (token ∷ one) [] c d = absurd (no_place text c.0 c.1 d c.3 (token_begins token c.1 c.2 c.4))
one_cut line text (token ∷ one) (twin ∷ other) c d =
    let m = meet text c.0 c.1 c.2 d.0 d.1 d.2 token twin c.3 c.4 d.3 d.4 in
    let lines : feeds line d.0 ≡ feeds line c.0 = ap (feeds line) (sym m.gaps) in
    let same : token ≡ twin = same_view token twin m.kinds_are m.texts (c.5 ∙ sym (d.5 ∙ lines)) in
    let e : IsCut (feeds line c.0) c.2 other = subst (λ (l : ℕ). IsCut l c.2 other) lines (subst (λ (l : List ℕ). IsCut (feeds line d.0) l other) (sym m.afters) d.6) in
    let rest = one_cut (feeds line c.0) c.2 one other c.6 e in
    cc

-- the place of a stop has no short token
no_short : (rest after : List ℕ) (token twin : TokenView) (behind : List ℕ) (limit : LimitAt) → IsToken token rest after → IsShort token → IsToken twin rest behind → PassesLimit twin limit → ⊥
no_short rest after token twin behind limit t short u passes =
    let p = same_text rest token twin after behind t u in
    let k = same_kind rest token twin after behind t u in
    short limit (subst (λ (kind : TokenKind). Passes kind token.text limit) (sym k) (subst (λ (text : List ℕ). Passes twin.kind text limit) (sym p.0) passes))

-- where no token begins there is none
none_here : (rest after : List ℕ) (token : TokenView) → NoneBegins rest → IsToken token rest after → ⊥
none_here rest after token none t = let f = none.1 token.text after t.whole in let g = t.kind in absurd cc

-- ---- what stops

abbrev pub plain : ℕ → ℕ → Refusal
plain file line = record { number = 2; file = file; line = line; limit = None }

abbrev pub too_long : ℕ → ℕ → LimitAt → Refusal
too_long file line limit = record { number = 14; file = file; line = line; limit = Some limit }

abbrev Last : ℕ → ℕ → List ℕ → Refusal → Type 0
Last file line rest refusal =
    (NoneBegins rest × (refusal ≡ plain file line))
    ⊎ ((token : TokenView) × (after : List ℕ) × (limit : LimitAt) × IsToken token rest after × PassesLimit token limit × (refusal ≡ too_long file line limit))

last_begins : (file line : ℕ) (rest : List ℕ) (refusal : Refusal) → Last file line rest refusal → begins_gap rest ≡ false
last_begins file line rest refusal l = elim l [
  | inl n ↦ n.0.0
  | inr t ↦ token_begins t.0 rest t.1 t.3
]

last_token : (file line : ℕ) (rest : List ℕ) (refusal : Refusal) (token : TokenView) (after : List ℕ) → Last file line rest refusal → IsToken token rest after → IsShort token → ⊥
last_token file line rest refusal token after l t short = elim l [
  | inl n ↦ none_here rest after token n.0 t
  | inr u ↦ no_short rest after token u.0 u.1 u.2 t short u.3 u.4
]

abbrev limit_some : LimitAt → Option LimitAt
limit_some limit = Some limit

limit_is : (one other : LimitAt) → limit_some one ≡ limit_some other → one ≡ other
limit_is one other e = cc

one_limit : (one other : TokenKind) (limit bound : LimitAt) → one ≡ other → limit_of one ≡ Some limit → limit_of other ≡ Some bound → limit ≡ bound
one_limit one other limit bound k e f = limit_is limit bound (sym e ∙ ap limit_of k ∙ f)

one_last : (file line : ℕ) (rest : List ℕ) (why because : Refusal) → Last file line rest why → Last file line rest because → why ≡ because
one_last file line rest why because l m = elim l [
  | inl n ↦ elim m [
    | inl o ↦ n.1 ∙ sym o.1
    | inr u ↦ absurd (none_here rest u.1 u.0 n.0 u.3)
  ]
  | inr t ↦ elim m [
    | inl o ↦ absurd (none_here rest t.1 t.0 o.0 t.3)
    | inr u ↦
        let kinds_are = same_kind rest t.0 u.0 t.1 u.1 t.3 u.3 in
        t.5 ∙ ap (too_long file line) (one_limit t.0.kind u.0.kind t.2 u.2 kinds_are t.4.0 u.4.0) ∙ sym u.5
  ]
]

pub one_stop : (file line : ℕ) (text : List ℕ) (one other : List TokenView) (why because : Refusal)
    → StopsAt file line text one why → StopsAt file line text other because → (one ≡ other) × (why ≡ because)
one_stop file line text [] [] why because c d =
    let same = same_gap text c.0 c.1 d.0 d.1 c.2 (last_begins file (feeds line c.0) c.1 why c.3) d.2 (last_begins file (feeds line d.0) d.1 because d.3) in
    let e : Last file (feeds line c.0) c.1 because =
    subst (λ (g : List ℕ). Last file (feeds line g) c.1 because) (sym same.0) (subst (λ (l : List ℕ). Last file (feeds line d.0) l because) (sym same.1) d.3) in
    (refl, one_last file (feeds line c.0) c.1 why because c.3 e)
one_stop file line text [] (token ∷ other) why because c d =
    let same = same_gap text c.0 c.1 d.0 d.1 c.2 (last_begins file (feeds line c.0) c.1 why c.3) d.3 (token_begins token d.1 d.2 d.4) in
    absurd (last_token file (feeds line c.0) d.1 why token d.2 (subst (λ (l : List ℕ). Last file (feeds line c.0) l why) same.1 c.3) d.4 d.5)
one_stop file line text (token ∷ one) [] why because c d =
    let same = same_gap text c.0 c.1 d.0 d.1 c.3 (token_begins token c.1 c.2 c.4) d.2 (last_begins file (feeds line d.0) d.1 because d.3) in
    absurd (last_token file (feeds line d.0) c.1 because token c.2 (subst (λ (l : List ℕ). Last file (feeds line d.0) l because) (sym same.1) d.3) c.4 c.5)
one_stop file line text (token ∷ one) (twin ∷ other) why because c d =
    let m = meet text c.0 c.1 c.2 d.0 d.1 d.2 token twin c.3 c.4 d.3 d.4 in
    let lines : feeds line d.0 ≡ feeds line c.0 = ap (feeds line) (sym m.gaps) in
    let same : token ≡ twin = same_view token twin m.kinds_are m.texts (c.6 ∙ sym (d.6 ∙ lines)) in
    let e : StopsAt file (feeds line c.0) c.2 other because =
    subst (λ (l : ℕ). StopsAt file l c.2 other because) lines (subst (λ (l : List ℕ). StopsAt file (feeds line d.0) l other because) (sym m.afters) d.7) in
    let rest = one_stop file (feeds line c.0) c.2 one other why because c.7 e in
    let tails = rest.0 in
    (cc, rest.1)

pub cuts_or_stops : (file line : ℕ) (text : List ℕ) (tokens stopped : List TokenView) (refusal : Refusal)
    → IsCut line text tokens → AllByRecursion IsShort tokens → StopsAt file line text stopped refusal → ⊥
cuts_or_stops file line text [] [] refusal c short d = no_place text d.0 d.1 c d.2 (last_begins file (feeds line d.0) d.1 refusal d.3)
cuts_or_stops file line text [] (token ∷ stopped) refusal c short d = no_place text d.0 d.1 c d.3 (token_begins token d.1 d.2 d.4)
cuts_or_stops file line text (token ∷ tokens) [] refusal c short d =
    let same = same_gap text c.0 c.1 d.0 d.1 c.3 (token_begins token c.1 c.2 c.4) d.2 (last_begins file (feeds line d.0) d.1 refusal d.3) in
    last_token file (feeds line d.0) c.1 refusal token c.2 (subst (λ (l : List ℕ). Last file (feeds line d.0) l refusal) (sym same.1) d.3) c.4 short.0
cuts_or_stops file line text (token ∷ tokens) (twin ∷ stopped) refusal c short d =
    let m = meet text c.0 c.1 c.2 d.0 d.1 d.2 token twin c.3 c.4 d.3 d.4 in
    let lines : feeds line d.0 ≡ feeds line c.0 = ap (feeds line) (sym m.gaps) in
    let e : StopsAt file (feeds line c.0) c.2 stopped refusal =
    subst (λ (l : ℕ). StopsAt file l c.2 stopped refusal) lines (subst (λ (l : List ℕ). StopsAt file (feeds line d.0) l stopped refusal) (sym m.afters) d.7) in
    cuts_or_stops file (feeds line c.0) c.2 tokens stopped refusal c.6 short.1 e

-- ---- one of both

limit_cases : (o : Option LimitAt) → ((limit : LimitAt) × (o ≡ Some limit)) ⊎ (o ≡ None)
limit_cases None = inr refl
limit_cases (Some limit) = inl (limit, refl)

passes_or_not : (kind : TokenKind) (text : List ℕ) → ((limit : LimitAt) × Passes kind text limit) ⊎ PassesNone kind text
passes_or_not kind text =
    elim (limit_cases (limit_of kind)) [
      | inr e ↦ inr (λ limit p. let f = p.0 in absurd cc)
      | inl l ↦ elim (bool_cases (leb (counted kind text) (limit_number l.0))) [
        | inr e ↦ inl (l.0, (l.1, leb-false (counted kind text) (limit_number l.0) e))
        | inl e ↦ inr (λ limit p.
            let same = ap limit_number (limit_is limit l.0 (sym p.0 ∙ l.1)) in
            let few = leb-true (counted kind text) (limit_number l.0) e in
            let many = p.1 in
            absurd (omega arith))
      ]
    ]

pub some_bytes : (text : List ℕ) (kind : TokenKind) (size : ℕ) → IsFront text kind size → 0 < size
some_bytes text kind zero f = absurd (none_is kind f.kind_is)
some_bytes text kind (suc size) f = omega arith

abbrev CutOr : ℕ → ℕ → List ℕ → Type 0
CutOr file line text =
    ((tokens : List TokenView) × IsCut line text tokens × AllByRecursion IsShort tokens)
    ⊎ ((tokens : List TokenView) × (refusal : Refusal) × StopsAt file line text tokens refusal)

cut_or_stop_below : (fuel file line : ℕ) (text : List ℕ) → length text < fuel → CutOr file line text
cut_or_stop_below zero file line text lt = absurd (omega arith)
cut_or_stop_below (suc fuel) file line text lt =
    elim (gap_split false text) [
      | inl g ↦ inl ([], g, tt)
      | inr g ↦
          let there = feeds line g.0 in
          let skips : Skips text g.0 g.1 = record { whole = g.2; space = g.3; outside = g.4 } in
          let size_is = ap length g.2 in
          let rest_size : length g.1 ≤ length text = omega (arith, length-append g.0 g.1) in
          elim (front_split g.1) [
            | inr none ↦ inr ([], plain file there, (g.0, g.1, skips, inl (none_begins g.1 g.5 none, refl)))
            | inl f ↦
                let piece = take f.1 g.1 in
                let after = drop f.1 g.1 in
                let token = view f.0 piece there in
                let is_token : IsToken token g.1 after = front_token g.1 f.0 f.1 there f.2 in
                elim (passes_or_not f.0 piece) [
                  | inl p ↦ inr ([], too_long file there p.0, (g.0, g.1, skips, inr (token, after, p.0, is_token, p.1, refl)))
                  | inr short ↦
                      let positive = some_bytes g.1 f.0 f.1 f.2 in
                      let within = f.2.within in
                      let fewer : length after < fuel = omega (arith, length-drop f.1 g.1) in
                      elim (cut_or_stop_below fuel file there after fewer) [
                        | inl r ↦ inl (token ∷ r.0, (g.0, g.1, after, skips, is_token, refl, r.1), (short, r.2))
                        | inr r ↦ inr (token ∷ r.0, r.1, (g.0, g.1, after, skips, is_token, short, refl, r.2))
                      ]
                ]
          ]
    ]

pub cut_or_stop : (file line : ℕ) (text : List ℕ) → CutOr file line text
cut_or_stop file line text = cut_or_stop_below (suc (length text)) file line text (omega arith)
