-- Terms that are copied, and those of a constant.
use Rattle.std.proofs.Common.{rules, ◌≡◌, ◌∙◌, ℕ, ◌+◌, ◌≤◌, ◌<◌, List, [], ◌∷◌, ◌++◌, length, map, drop, get_or, refl, sym, ap, subst, append-nil, append_assoc, Result, Ok, Err, IfOk, IsErrAnd, IsOk, OnOk}
use Rattle.std.proofs.lemmas.List.{drop_all, drop_more, map-append}
use Rattle.std.specs.Prelude.{◌==◌, if◌then◌else◌}
use Rattle.std.specs.Global.{Vec}
use Rattle.cc_defs.specs.declared.formula.Term as kept
use Rattle.cc_defs.specs.declared.formula.Term.{items-the_row-Term, items_hidden-the_row-Term-0}
use Rattle.cc_defs.specs.declared.formula.Term.TheBlock.{hidden-the_row-Term-0}
use Rattle.cc_defs.specs.declared.refusal.OutOfMemory.{OutOfMemory}
use Rattle.cc_defs.specs.Judged.{constants_of}
use Rattle.cc_defs.specs.Resolved.{Atom, Constant, Falsity, MoreTerms, Term, plain_row, plain_term, terms_of}
use Rattle.cc_wide.specs.WideLaws.{atom_of_sides, listed}

row_kept : (n : _) (row : kept.Row_of-Term n) → plain_row row ≡ terms_of (map plain_term (items-the_row-Term n row))
row_kept _ kept.end_of-Term = refl
row_kept _ (kept.more_of-Term term rest) = ap (MoreTerms (plain_term term)) (row_kept _ rest)

row_made : (args : Vec kept.Term) → plain_row (hidden-the_row-Term-0 args) ≡ terms_of (map plain_term args.items)
row_made args = search (rules, row_kept, items_hidden-the_row-Term-0)

plain_constant : (symbol : ℕ) (args : Vec kept.Term) → plain_term (kept.Constant symbol args) ≡ Constant symbol (terms_of (map plain_term args.items))
plain_constant symbol args = search (rules, row_made)

pub constant_copied : (term : kept.Term) (symbol : ℕ) (args copies : Vec kept.Term) → term ≡ kept.Constant symbol args →
    map plain_term copies.items ≡ map plain_term args.items →
    plain_term (kept.Constant symbol copies) ≡ plain_term term
constant_copied term symbol args copies e q =
    plain_constant symbol copies ∙ ap (λ (terms : List Term). Constant symbol (terms_of terms)) q ∙ sym (plain_constant symbol args) ∙ sym (ap plain_term e)

listed_all : (terms : List Term) → listed (terms_of terms) ≡ terms
listed_all [] = refl
listed_all (term ∷ terms) = ap (λ (others : List Term). term ∷ others) (listed_all terms)

module _ {X Y Z : Type 0} (plain : X → Y) (left : List Z → List Y) where
  pub copied_all : (items : List Z) (i : ℕ) (copies : List X) (whole : List Y) → left [] ≡ [] → length items ≤ i →
      map plain copies ++ left (drop i items) ≡ whole → map plain copies ≡ whole
  copied_all items i copies whole none past e =
      sym (append-nil (map plain copies)) ∙ ap (λ (l : List Y). map plain copies ++ l) (sym none)
      ∙ sym (ap (λ (l : List Z). map plain copies ++ left l) (drop_all i items past)) ∙ e

  pub copied_more : (meant : Z → Y) → ((z : Z) (zs : List Z) → left (z ∷ zs) ≡ meant z ∷ left zs) → (items : List Z) (i : ℕ) (z : Z) (copies new : List X) (item : X) (whole : List Y) → i < length items → z ≡ get_or items i z →
      plain item ≡ meant z → new ≡ copies ++ item ∷ [] →
      map plain copies ++ left (drop i items) ≡ whole → map plain new ++ left (drop (i + 1) items) ≡ whole
  copied_more meant next items i z copies new item whole less at same put e =
      let rest = left (drop (i + 1) items) in
      ap (λ (l : List X). map plain l ++ rest) put ∙ ap (λ (l : List Y). l ++ rest) (map-append plain copies (item ∷ [])) ∙ append_assoc (map plain copies) (plain item ∷ []) rest
      ∙ ap (λ (l : List Y). map plain copies ++ l) (ap (λ (y : Y). y ∷ rest) same ∙ sym (next z (drop (i + 1) items)) ∙ sym (ap left (drop_more items i z less ∙ ap (λ y. y ∷ drop (i + 1) items) (sym at)))) ∙ e

-- ---- what calls made

pub nothing_told : {X E : Type 0} (P : Type 0) (result : Result X E) (fault : E) → IsErrAnd result (λ given. given ≡ fault) → OnOk result P
nothing_told P (Ok made) fault failed = absurd failed
nothing_told P (Err given) fault failed = tt

pub nothing_made : {X E : Type 0} (P : X → Type 0) (result : Result X E) (fault : E) → IsErrAnd result (λ given. given ≡ fault) → IfOk result P
nothing_made P (Ok made) fault failed = absurd failed
nothing_made P (Err given) fault failed = tt

pub two : {A B C : Type 0} (make : A → B → C) {a b : A} {x y : B} → a ≡ b → x ≡ y → make a x ≡ make b y
two make {a = a} {b = b} {x = x} {y = y} p q = ap (λ z. make z x) p ∙ ap (make b) q

-- a copy, in its box, of what stands in one
pub boxed_copy : {X Y : Type 0} (plain : X → Y) {placed copy at old : X} → placed ≡ copy → plain copy ≡ plain at → at ≡ old → plain placed ≡ plain old
boxed_copy plain is so same = ap plain is ∙ so ∙ ap plain same

-- the head of an equation with a constant
pub sides_are : (side : kept.Term) (symbol : ℕ) (args : Vec kept.Term) (items : List kept.Term) (value : Term) →
    side ≡ kept.Constant symbol args → items ≡ args.items →
    (if length (constants_of value) == 0 then Atom symbol (map plain_term items) value else Falsity) ≡ atom_of_sides (plain_term side) value
sides_are side symbol args items value e is =
    ap (λ (terms : List Term). if length (constants_of value) == 0 then Atom symbol terms value else Falsity)
    (ap (map plain_term) is ∙ sym (listed_all (map plain_term args.items)))
    ∙ sym (ap (λ (term : Term). atom_of_sides term value) (ap plain_term e ∙ plain_constant symbol args))
