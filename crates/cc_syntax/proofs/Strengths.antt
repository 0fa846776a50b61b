-- How strong an operand may be where it stands, and that a formula of less strength may stand there too.
use Rattle.std.proofs.Common.{◌≡◌, ◌⊎◌, ℕ, ◌<◌, ◌≤◌, Bool, true, false, List, [], ◌∷◌, length, Some, refl, ap, arith, inl, inr}
use Rattle.std.specs.Prelude.{nat_le}
use Rattle.cc_defs.specs.declared.token.Mark.{Mark}
use Rattle.cc_defs.specs.declared.token.Mark.TheVariants as marks
use Rattle.cc_defs.specs.Trees.{PlainTree}
use Rattle.cc_defs.specs.Trees as trees
use Rattle.cc_defs.specs.Grammar.{Terminal, Sign, Spelling, sign, name, sum, comparing, ◌▸◌, formula_of}
use Rattle.cc_syntax.specs.declared.operators.Operator.{Operator}
use Rattle.cc_syntax.specs.declared.operators.Operator.TheVariants as operators
use Rattle.cc_syntax.specs.Operators.{operator_at, strength, left_strength, right_strength, joined}
use Rattle.cc_syntax.specs.Formulas.{PlainFrame, Not, Paren, ForAll, Exists, Left, ends_before, closed}
use Rattle.cc_syntax.proofs.Singles.{some-is, sign-literal, name-reader}
use Rattle.cc_syntax.proofs.TermReader.{term-shorter, sum-shorter}

-- ---- operators

abbrev pub mark_of : Operator → Mark
mark_of operators.Both = marks.And
mark_of operators.Either = marks.Or
mark_of operators.Implies = marks.Arrow
mark_of operators.Same = marks.DoubleArrow

pub operator-here : (op : Operator) (rest : List Terminal) → operator_at (Sign (mark_of op) ∷ rest) ≡ Some (op, rest)
operator-here operators.Both rest = refl
operator-here operators.Either rest = refl
operator-here operators.Implies rest = refl
operator-here operators.Same rest = refl

abbrev spelled : Operator × List Terminal → List Terminal
spelled read = Sign (mark_of read.0) ∷ read.1

pub operator-takes : (tokens : List Terminal) (read : Operator × List Terminal) → operator_at tokens ≡ Some read → tokens ≡ Sign (mark_of read.0) ∷ read.1
operator-takes (Sign marks.And ∷ rest) read e = ap spelled (some-is (operators.Both, rest) read e)
operator-takes (Sign marks.Or ∷ rest) read e = ap spelled (some-is (operators.Either, rest) read e)
operator-takes (Sign marks.Arrow ∷ rest) read e = ap spelled (some-is (operators.Implies, rest) read e)
operator-takes (Sign marks.DoubleArrow ∷ rest) read e = ap spelled (some-is (operators.Same, rest) read e)
operator-takes tokens read e = absurd cc

pub strength-some : (op : Operator) → 0 < strength op
strength-some operators.Both = omega arith
strength-some operators.Either = omega arith
strength-some operators.Implies = omega arith
strength-some operators.Same = omega arith

pub strength-most : (op : Operator) → strength op ≤ 4
strength-most operators.Both = omega arith
strength-most operators.Either = omega arith
strength-most operators.Implies = omega arith
strength-most operators.Same = omega arith

pub left-least : (op : Operator) → left_strength op ≤ strength op
left-least operators.Both = omega arith
left-least operators.Either = omega arith
left-least operators.Implies = omega arith
left-least operators.Same = omega arith

pub right-least : (op : Operator) → right_strength op ≤ strength op
right-least operators.Both = omega arith
right-least operators.Either = omega arith
right-least operators.Implies = omega arith
right-least operators.Same = omega arith

pub joined-parts : (op : Operator) (f g : PlainTree) (s : ℕ) (tokens rest : List Terminal) → formula_of s (joined op f g) tokens rest
    → (strength op ≤ s) × (formula_of (left_strength op) f ▸ sign (mark_of op) ▸ formula_of (right_strength op) g) tokens rest
joined-parts operators.Both f g s tokens rest p = p
joined-parts operators.Either f g s tokens rest p = p
joined-parts operators.Implies f g s tokens rest p = p
joined-parts operators.Same f g s tokens rest p = p

pub parts-joined : (op : Operator) (f g : PlainTree) (s : ℕ) (tokens rest : List Terminal) → strength op ≤ s
    → (formula_of (left_strength op) f ▸ sign (mark_of op) ▸ formula_of (right_strength op) g) tokens rest → formula_of s (joined op f g) tokens rest
parts-joined operators.Both f g s tokens rest le p = (le, p)
parts-joined operators.Either f g s tokens rest le p = (le, p)
parts-joined operators.Implies f g s tokens rest le p = (le, p)
parts-joined operators.Same f g s tokens rest le p = (le, p)

-- ---- frames

-- the greatest strength of an operand that stands there
abbrev pub room_of : PlainFrame → ℕ
room_of Not = 0
room_of Paren = 4
room_of (ForAll variable) = 4
room_of (Exists variable) = 4
room_of (Left op left) = right_strength op

abbrev pub room : List PlainFrame → ℕ
room [] = 4
room (frame ∷ frames) = room_of frame

-- the other's right operand ends before the operator just where the formula of the operator has no room in it
abbrev Tells : Bool → ℕ → Operator → Type 0
Tells ends most op = ((ends ≡ true) × (most < strength op)) ⊎ ((ends ≡ false) × (strength op ≤ most))

operators-tell : (op other : Operator) → Tells (nat_le (strength other) (left_strength op)) (right_strength other) op
operators-tell operators.Both operators.Both = inl (refl, omega arith)
operators-tell operators.Either operators.Both = inl (refl, omega arith)
operators-tell operators.Implies operators.Both = inl (refl, omega arith)
operators-tell operators.Same operators.Both = inl (refl, omega arith)
operators-tell operators.Both operators.Either = inr (refl, omega arith)
operators-tell operators.Either operators.Either = inl (refl, omega arith)
operators-tell operators.Implies operators.Either = inl (refl, omega arith)
operators-tell operators.Same operators.Either = inl (refl, omega arith)
operators-tell operators.Both operators.Implies = inr (refl, omega arith)
operators-tell operators.Either operators.Implies = inr (refl, omega arith)
operators-tell operators.Implies operators.Implies = inr (refl, omega arith)
operators-tell operators.Same operators.Implies = inl (refl, omega arith)
operators-tell operators.Both operators.Same = inr (refl, omega arith)
operators-tell operators.Either operators.Same = inr (refl, omega arith)
operators-tell operators.Implies operators.Same = inr (refl, omega arith)
operators-tell operators.Same operators.Same = inl (refl, omega arith)

pub frame-tells : (op : Operator) (frame : PlainFrame) → Tells (ends_before (left_strength op) frame) (room_of frame) op
frame-tells op Not = inl (refl, strength-some op)
frame-tells op Paren = inr (refl, strength-most op)
frame-tells op (ForAll variable) = inr (refl, strength-most op)
frame-tells op (Exists variable) = inr (refl, strength-most op)
frame-tells op (Left other left) = operators-tell op other

-- nothing is closed where the formula of the operator has room
pub stays : (op : Operator) (frames : List PlainFrame) (tree : PlainTree) → strength op ≤ room frames → closed (left_strength op) frames tree ≡ (frames, tree)
stays op [] tree le = refl
stays op (frame ∷ frames) tree le =
    elim (frame-tells op frame) [
      | inl p ↦ let more = p.1 in absurd (omega arith)
      | inr p ↦ rw p.0 refl
    ]

-- ---- strength

pub weaker : (f : PlainTree) (s t : ℕ) (tokens rest : List Terminal) → formula_of s f tokens rest → s ≤ t → formula_of t f tokens rest
weaker (trees.Bare x) s t tokens rest p le = p
weaker (trees.Compared comparison x y) s t tokens rest p le = p
weaker (trees.Paren f) s t tokens rest p le = p
weaker (trees.Not f) s t tokens rest p le = p
weaker (trees.Both f g) s t tokens rest p le = let least = p.0 in (omega arith, p.1)
weaker (trees.Either f g) s t tokens rest p le = let least = p.0 in (omega arith, p.1)
weaker (trees.Implies f g) s t tokens rest p le = let least = p.0 in (omega arith, p.1)
weaker (trees.Same f g) s t tokens rest p le = let least = p.0 in (omega arith, p.1)
weaker (trees.ForAll x f) s t tokens rest p le = p
weaker (trees.Exists x f) s t tokens rest p le = p

-- ---- a formula has a token at least

abbrev Shortens : Spelling → Type 0
Shortens spelling = (tokens rest : List Terminal) → spelling tokens rest → length rest < length tokens

behind : (first second : Spelling) → Shortens first → Shortens second → Shortens (first ▸ second)
behind first second one two tokens rest p =
    let a = one tokens p.0 p.1 in
    let b = two p.0 rest p.2 in
    omega arith

sign-shortens : (mark : Mark) → Shortens (sign mark)
sign-shortens mark = (sign-literal mark).shorter

binary-shortens : (first second : Spelling) (mark : Mark) → Shortens first → Shortens second → Shortens (first ▸ sign mark ▸ second)
binary-shortens first second mark one two = behind first (sign mark ▸ second) one (behind (sign mark) second (sign-shortens mark) two)

quantifier-shortens : (inner : Spelling) (mark : Mark) (x : List ℕ) → Shortens inner
    → Shortens (sign marks.LeftBracket ▸ sign mark ▸ name x ▸ sign marks.Bar ▸ inner ▸ sign marks.RightBracket)
quantifier-shortens inner mark x one =
    behind (sign marks.LeftBracket) (sign mark ▸ name x ▸ sign marks.Bar ▸ inner ▸ sign marks.RightBracket) (sign-shortens marks.LeftBracket)
    (behind (sign mark) (name x ▸ sign marks.Bar ▸ inner ▸ sign marks.RightBracket) (sign-shortens mark)
    (behind (name x) (sign marks.Bar ▸ inner ▸ sign marks.RightBracket) (name-reader.shorter x)
    (behind (sign marks.Bar) (inner ▸ sign marks.RightBracket) (sign-shortens marks.Bar)
    (behind inner (sign marks.RightBracket) one (sign-shortens marks.RightBracket)))))

pub formula-shorter : (f : PlainTree) (s : ℕ) → Shortens (formula_of s f)
formula-shorter (trees.Bare x) s = term-shorter x
formula-shorter (trees.Compared comparison x y) s = binary-shortens (sum x) (sum y) (comparing comparison) (sum-shorter x) (sum-shorter y)
formula-shorter (trees.Paren f) s =
    behind (sign marks.LeftParen) (formula_of 4 f ▸ sign marks.RightParen) (sign-shortens marks.LeftParen)
    (behind (formula_of 4 f) (sign marks.RightParen) (formula-shorter f 4) (sign-shortens marks.RightParen))
formula-shorter (trees.Not f) s = behind (sign marks.Minus) (formula_of 0 f) (sign-shortens marks.Minus) (formula-shorter f 0)
formula-shorter (trees.Both f g) s =
    λ tokens rest p. binary-shortens (formula_of 1 f) (formula_of 0 g) marks.And (formula-shorter f 1) (formula-shorter g 0) tokens rest p.1
formula-shorter (trees.Either f g) s =
    λ tokens rest p. binary-shortens (formula_of 2 f) (formula_of 1 g) marks.Or (formula-shorter f 2) (formula-shorter g 1) tokens rest p.1
formula-shorter (trees.Implies f g) s =
    λ tokens rest p. binary-shortens (formula_of 2 f) (formula_of 3 g) marks.Arrow (formula-shorter f 2) (formula-shorter g 3) tokens rest p.1
formula-shorter (trees.Same f g) s =
    λ tokens rest p. binary-shortens (formula_of 4 f) (formula_of 3 g) marks.DoubleArrow (formula-shorter f 4) (formula-shorter g 3) tokens rest p.1
formula-shorter (trees.ForAll x f) s = quantifier-shortens (formula_of 4 f) marks.AllSign x (formula-shorter f 4)
formula-shorter (trees.Exists x f) s = quantifier-shortens (formula_of 4 f) marks.AnySign x (formula-shorter f 4)
