-- The readers of the parts of a query.
use Rattle.std.proofs.Common.{◌≡◌, ℕ, Bool, true, false, ◌&&◌, List, ◌∷◌, refl, ap, subst, ◌∙◌, inl, inr}
use Rattle.std.specs.Prelude.{codes}
use Rattle.std.proofs.lemmas.Bool.{and_parts}
use Rattle.cc_defs.specs.declared.signature.At.{At}
use Rattle.cc_defs.specs.declared.signature.At.TheVariants as ats
use Rattle.cc_defs.specs.declared.token.Mark.TheVariants as marks
use Rattle.cc_defs.specs.Trees.{PlainQueryItem, Label, Range, Condition}
use Rattle.cc_defs.specs.Grammar.{Terminal, Word, Number, Spelling, ◌▸◌, sign, word, numeral, listed, formula, label, step, query_item}
use Rattle.cc_syntax.specs.Readers.{sign_at, word_at, listed_at}
use Rattle.cc_syntax.specs.Formulas.{formula_at}
use Rattle.cc_syntax.specs.Queries.{condition_at, step_at, stepped_at, range_at, last_at, labelled_at, query_item_at}
use Rattle.cc_syntax.proofs.IsReader.{IsReader, anywhere, ends_formula}
use Rattle.cc_syntax.proofs.Singles.{sign-literal, word-literal, numeral-reader, label-reader}
use Rattle.cc_syntax.proofs.Combined.{as_part, respelled, stopped, lacks, behind, made_by, made, led_by, leading, by_choice, choice, nothing_for, nothing, or_nothing, or_else, items}
use Rattle.cc_syntax.proofs.FormulaReader.{formula-reader}

-- ---- a condition

abbrev pub ends_formulas : List Terminal → Bool
ends_formulas rest = ends_formula rest && lacks (sign_at marks.Comma) rest

pub formulas-reader : IsReader (listed_at formula_at marks.Comma) (listed formula marks.Comma) ends_formulas
formulas-reader = items marks.Comma formula-reader (λ rest. refl)

abbrev condition_of : Bool → At → PlainQueryItem → Spelling
condition_of claim at = made_by (λ formulas. Condition claim at formulas) (λ formulas. sign marks.Colon ▸ listed formula marks.Comma formulas)

condition-reader : (claim : Bool) (at : At) → IsReader (condition_at claim at) (condition_of claim at) ends_formulas
condition-reader claim at = made (λ formulas. Condition claim at formulas) (behind (sign-literal marks.Colon) (as_part formulas-reader))

-- ---- a step

step-reader : IsReader step_at step anywhere
step-reader = respelled (choice (word-literal (codes "maxstep")) (nothing ats.Last) (made (λ n. ats.Number n) numeral-reader)) to from
  where
    to : (at : At) (tokens rest : List Terminal) → by_choice (word_at (codes "maxstep")) (word (codes "maxstep")) (nothing_for ats.Last) (made_by (λ n. ats.Number n) numeral) at tokens rest → step at tokens rest
    to at tokens rest (inl p) =
        let ends : step ats.Last tokens rest = subst (λ (l : List Terminal). word (codes "maxstep") tokens l) p.2.1 p.1 in
        subst (λ (z : At). step z tokens rest) p.2.0 ends
    to at tokens rest (inr p) = subst (λ (z : At). step z tokens rest) p.1.1 p.1.2

    from : (at : At) (tokens rest : List Terminal) → step at tokens rest → by_choice (word_at (codes "maxstep")) (word (codes "maxstep")) (nothing_for ats.Last) (made_by (λ n. ats.Number n) numeral) at tokens rest
    from (ats.Number n) tokens rest p = inr (ap (word_at (codes "maxstep")) p.1, (n, refl, p))
    from ats.Last tokens rest p = inl (rest, p, (refl, refl))

abbrev stepped_of : Bool → PlainQueryItem → Spelling
stepped_of claim = led_by step (condition_of claim)

stepped-reader : (claim : Bool) → IsReader (stepped_at claim) (stepped_of claim) ends_formulas
unfolding stepped_at
stepped-reader claim = leading step-reader (λ at. as_part (condition-reader claim at)) (λ at item tokens rest p s. refl)

-- ---- a range

abbrev range_of : PlainQueryItem → Spelling
range_of = led_by numeral (λ lo. or_nothing (sign marks.DotDot) (Range lo lo) (made_by (λ hi. Range lo hi) numeral))

range-reader : IsReader range_at range_of (lacks (sign_at marks.DotDot))
unfolding range_at
range-reader = leading numeral-reader (λ lo. or_else (Range lo lo) (sign-literal marks.DotDot) (as_part (made (λ hi. Range lo hi) numeral-reader))) (λ lo item tokens rest p s. refl)

-- ---- what a part may be

abbrev pub ends_query : List Terminal → Bool
ends_query rest = ends_formulas rest && lacks (sign_at marks.DotDot) rest

query-formulas : (rest : List Terminal) → ends_query rest ≡ true → ends_formulas rest ≡ true
query-formulas rest s = (and_parts (ends_formulas rest) (lacks (sign_at marks.DotDot) rest) s).0

query-range : (rest : List Terminal) → ends_query rest ≡ true → lacks (sign_at marks.DotDot) rest ≡ true
query-range rest s = (and_parts (ends_formulas rest) (lacks (sign_at marks.DotDot) rest) s).1

abbrev last_of : PlainQueryItem → Spelling
last_of = by_choice (sign_at marks.DoubleColon) (sign marks.DoubleColon) range_of (condition_of false ats.Last)

last-reader : IsReader last_at last_of ends_query
last-reader = choice (sign-literal marks.DoubleColon) (as_part (stopped range-reader query-range)) (stopped (condition-reader false ats.Last) query-formulas)

abbrev label_of : PlainQueryItem → Spelling
label_of = made_by (λ text. Label text) (λ text. sign marks.DoubleColon ▸ label text)

labelled-reader : IsReader labelled_at label_of anywhere
labelled-reader = made (λ text. Label text) (behind (sign-literal marks.DoubleColon) (as_part label-reader))

abbrev claim_of : PlainQueryItem → Spelling
claim_of item = sign marks.DoubleColon ▸ stepped_of true item

abbrev some_item : PlainQueryItem → Spelling
some_item =
    by_choice (word_at (codes "label")) (word (codes "label")) label_of
    (by_choice (word_at (codes "claim")) (word (codes "claim")) claim_of
    (by_choice (word_at (codes "maxstep")) (word (codes "maxstep")) last_of (stepped_of false)))

pub query_item-reader : IsReader query_item_at query_item ends_query
unfolding query_item_at
query_item-reader =
    respelled
    (choice (word-literal (codes "label")) (as_part (stopped labelled-reader (λ rest s. refl)))
    (choice (word-literal (codes "claim")) (as_part (stopped (behind (sign-literal marks.DoubleColon) (as_part (stepped-reader true))) query-formulas))
    (choice (word-literal (codes "maxstep")) (as_part last-reader) (stopped (stepped-reader false) query-formulas))))
    to from
  where
    to_range : (item : PlainQueryItem) (tokens b c rest : List Terminal) → word (codes "maxstep") tokens b → sign marks.DoubleColon b c → range_of item c rest → query_item item tokens rest
    to_range item tokens b c rest w d (lo, (e, n, inl p)) = subst (λ (z : PlainQueryItem). query_item z tokens rest) p.2.1 (b, w, (c, d, inr (e, n, (p.0, p.1, p.2.2))))
    to_range item tokens b c rest w d (lo, (e, n, inr p)) =
        let ends : numeral lo c rest = subst (λ (l : List Terminal). numeral lo c l) p.1 n in
        subst (λ (z : PlainQueryItem). query_item z tokens rest) p.0 (b, w, (c, d, inl (refl, ends)))

    to : (item : PlainQueryItem) (tokens rest : List Terminal) → some_item item tokens rest → query_item item tokens rest
    to item tokens rest (inl p) = subst (λ (z : PlainQueryItem). query_item z tokens rest) p.2.1 (p.0, p.1, p.2.2)
    to item tokens rest (inr (none, inl (b, w, (c, d, (at, (e, s, (formulas, same, h))))))) =
        subst (λ (z : PlainQueryItem). query_item z tokens rest) same (c, (b, w, d), (e, s, h))
    to item tokens rest (inr (none, inr (other, inl (b, w, inl (c, d, r))))) = to_range item tokens b c rest w d r
    to item tokens rest (inr (none, inr (other, inl (b, w, inr (third, (formulas, same, h)))))) =
        subst (λ (z : PlainQueryItem). query_item z tokens rest) same (tokens, refl, (b, w, h))
    to item tokens rest (inr (none, inr (other, inr (third, (at, (b, s, (formulas, same, h))))))) =
        subst (λ (z : PlainQueryItem). query_item z tokens rest) same (tokens, refl, (b, s, h))

    from : (item : PlainQueryItem) (tokens rest : List Terminal) → query_item item tokens rest → some_item item tokens rest
    from (Label text) tokens rest p = inl (p.0, p.1, (text, refl, p.2))
    from (Range lo hi) tokens rest (b, w, (c, d, inl (same, n))) =
        inr (ap (word_at (codes "label")) w, inr (ap (word_at (codes "claim")) w, inl (b, w, inl (c, d, (lo, (rest, n, inr (ap (λ (m : ℕ). Range lo m) same, refl)))))))
    from (Range lo hi) tokens rest (b, w, (c, d, inr (e, n, (f, s, m)))) =
        inr (ap (word_at (codes "label")) w, inr (ap (word_at (codes "claim")) w, inl (b, w, inl (c, d, (lo, (e, n, inl (f, s, (hi, refl, m))))))))
    from (Condition true at formulas) tokens rest (c, (b, w, d), (e, s, h)) =
        inr (ap (word_at (codes "label")) w, inl (b, w, (c, d, (at, (e, s, (formulas, refl, h))))))
    from (Condition false (ats.Number n) formulas) tokens rest (b, same, (c, (digits, d, m), h)) =
        let whole : tokens ≡ Number digits ∷ c = same ∙ d in
        inr (ap (word_at (codes "label")) whole, inr (ap (word_at (codes "claim")) whole, inr (ap (word_at (codes "maxstep")) whole, (ats.Number n, (c, (digits, whole, m), (formulas, refl, h))))))
    from (Condition false ats.Last formulas) tokens rest (b, same, (c, s, h)) =
        let whole : tokens ≡ Word (codes "maxstep") ∷ c = same ∙ s in
        inr (ap (word_at (codes "label")) whole, inr (ap (word_at (codes "claim")) whole, inl (c, whole, inr (ap (sign_at marks.DoubleColon) h.1, (formulas, refl, h)))))
