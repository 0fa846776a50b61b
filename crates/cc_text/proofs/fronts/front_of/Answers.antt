use Rattle.std.proofs.Common.{◌≡◌, ◌∙◌, ◌+◌, ◌-◌, List, ◌∷◌, ℕ, false, eqb, sym, ap, subst, length, get_or, take, drop}
use Rattle.std.proofs.lemmas.Bool.{ne_eqb}
use Rattle.cc_defs.specs.declared.token.TokenKind.TheVariants as kinds
use Rattle.cc_text.specs.Fronts.{IsFront, NoFront, IsMarkFront, NoMark}
use Rattle.cc_text.proofs.Words.{word_front, number_front, quoted_front, no_quoted, mark_front, no_mark_front, nothing_front, first_rest}
use Rattle.cc_text.proofs.fronts.front_of.Goals as goal

pub returns-then-is_letter_byte : goal.returns-then-is_letter_byte
returns-then-is_letter_byte c =
    let text = c.args.bytes.now in
    subst (λ (t : List ℕ). IsFront t kinds.Word (c.run_of_word.result + 1)) (first_rest text c.in-len1-up.len_at_least)
    (word_front (get_or text 0 0) (take (length text - 1) (drop 1 text)) c.run_of_word.result (sym c.is_letter_byte.ensures ∙ c.if-is_letter_byte.true) c.run_of_word.ensures)

pub returns-then-is_digit_byte : goal.returns-then-is_digit_byte
returns-then-is_digit_byte c =
    let text = c.args.bytes.now in
    subst (λ (t : List ℕ). IsFront t kinds.Number (c.run_of_digits.result + 1)) (first_rest text c.in-len1-up.len_at_least)
    (number_front (get_or text 0 0) (take (length text - 1) (drop 1 text)) c.run_of_digits.result (sym c.is_letter_byte.ensures ∙ c.if-is_letter_byte.false)
    (sym c.is_digit_byte.ensures ∙ c.if-is_digit_byte.true) c.run_of_digits.ensures)

pub returns-in-Some : goal.returns-in-Some
returns-in-Some c =
    let text = c.args.bytes.now in
    let rest = take (length text - 1) (drop 1 text) in
    subst (λ (t : List ℕ). IsFront t kinds.Quoted (c.in-Some.length + 1)) (ap (λ (b : ℕ). b ∷ rest) (sym c.if-first-eq39.true) ∙ first_rest text c.in-len1-up.len_at_least)
    (quoted_front rest c.in-Some.length c.in-Some.ensures)

pub returns-in-None : goal.returns-in-None
returns-in-None c =
    let text = c.args.bytes.now in
    let rest = take (length text - 1) (drop 1 text) in
    subst NoFront (ap (λ (b : ℕ). b ∷ rest) (sym c.if-first-eq39.true) ∙ first_rest text c.in-len1-up.len_at_least)
    (no_quoted rest c.in-None.ensures)

pub returns-in-Some-mark_front : goal.returns-in-Some-mark_front
returns-in-Some-mark_front c =
    let text = c.args.bytes.now in
    let whole = first_rest text c.in-len1-up.len_at_least in
    let kind = kinds.Mark c.in-Some-mark_front.mark in
    let count = c.in-Some-mark_front.length in
    subst (λ (t : List ℕ). IsFront t kind count) whole
    (mark_front (get_or text 0 0) (take (length text - 1) (drop 1 text)) c.in-Some-mark_front.mark count (sym c.is_letter_byte.ensures ∙ c.if-is_letter_byte.false)
    (sym c.is_digit_byte.ensures ∙ c.if-is_digit_byte.false) (ne_eqb (get_or text 0 0) 39 c.if-first-eq39.false)
    (subst (λ (t : List ℕ). IsMarkFront t c.in-Some-mark_front.mark count) (sym whole) c.in-Some-mark_front.ensures))

pub returns-in-None-mark_front : goal.returns-in-None-mark_front
returns-in-None-mark_front c =
    let text = c.args.bytes.now in
    let whole = first_rest text c.in-len1-up.len_at_least in
    subst NoFront whole
    (no_mark_front (get_or text 0 0) (take (length text - 1) (drop 1 text)) (sym c.is_letter_byte.ensures ∙ c.if-is_letter_byte.false)
    (sym c.is_digit_byte.ensures ∙ c.if-is_digit_byte.false) (ne_eqb (get_or text 0 0) 39 c.if-first-eq39.false)
    (subst NoMark (sym whole) c.in-None-mark_front.ensures))
