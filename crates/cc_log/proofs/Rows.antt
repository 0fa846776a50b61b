-- Numbers and literals one after another, each behind a space.
use Rattle.std.proofs.Common.{◌≡◌, ◌≢◌, ℕ, suc, ◌<◌, ◌≤◌, true, List, [], ◌∷◌, ◌++◌, decimal, length, drop, get_or, refl, sym, ap, subst, ◌∙◌, arith, append_assoc, append-nil, length-append, inl, inr, ◌⊎◌}
use Rattle.std.proofs.lemmas.Bool.{cases_Bool}
use Rattle.std.proofs.lemmas.Fmt.{decimal_digit}
use Rattle.cc_defs.specs.Clauses.{Literal}
use Rattle.cc_defs.specs.LogTexts.{literal_text}
use Rattle.cc_log.specs.Fronts.{EndsNumber, IsNumberAt, HasNoNumber, IsSignedAt, HasNoSigned, AreNumbers, HasNoNumbers, AreLiterals, HasNoLiterals}
use Rattle.cc_log.proofs.Numbers.{one_number}
use Rattle.cc_log.proofs.Signed.{one_signed}
use Rattle.cc_log.proofs.Spelled.{numbers_text, literals_text}

-- ---- numbers

pub numbers_end : (numbers : List ℕ) → EndsNumber (numbers_text numbers ++ 10 ∷ [])
numbers_end [] = refl
numbers_end (number ∷ numbers) = refl

-- one more at the front
put_number : (behind : List ℕ) (number : ℕ) (next others : List ℕ) → IsNumberAt behind number next → AreNumbers next others →
    AreNumbers (32 ∷ behind) (number ∷ others)
put_number behind number next others h rest = record {
  short = (h.formed, rest.short);
  spelled = ap (λ (t : List ℕ). 32 ∷ t) (h.spelled ∙ ap (λ (t : List ℕ). decimal number ++ t) rest.spelled ∙ sym (append_assoc (decimal number) (numbers_text others) (10 ∷ [])));
}

-- and taken from there
first_number : (behind : List ℕ) (numbers : List ℕ) → AreNumbers (32 ∷ behind) numbers →
    (number : ℕ) × (others : List ℕ) × (next : List ℕ) × (numbers ≡ number ∷ others) × IsNumberAt behind number next × AreNumbers next others
first_number behind [] h = absurd (let no = h.spelled in cc)
first_number behind (number ∷ others) h =
    let same : behind ≡ (decimal number ++ numbers_text others) ++ 10 ∷ [] = ap (λ (t : List ℕ). drop 1 t) h.spelled in (
      number,
      others,
      numbers_text others ++ 10 ∷ [],
      refl,
      record { formed = h.short.0; spelled = same ∙ append_assoc (decimal number) (numbers_text others) (10 ∷ []); ends = numbers_end others },
      record { short = h.short.1; spelled = refl },
    )

numbers_none : (rest others : List ℕ) → AreNumbers rest others → (length rest < 1) ⊎ (get_or rest 0 0 ≢ 32) → (rest ≡ 10 ∷ [] → ⊥) → ⊥
numbers_none rest [] left other never = never left.spelled
numbers_none rest (number ∷ others) left other never = elim other [
  | inl short ↦ let long : length rest ≡ suc (length ((decimal number ++ numbers_text others) ++ 10 ∷ [])) = ap length left.spelled in omega arith
  | inr differs ↦ differs (ap (λ (t : List ℕ). get_or t 0 0) left.spelled)
]

pub numbers_shorter : (rest behind : List ℕ) (number : ℕ) (next : List ℕ) → rest ≡ 32 ∷ behind → IsNumberAt behind number next → length next < length rest
numbers_shorter rest behind number next is h = let e = ap length h.spelled ∙ length-append (decimal number) next in let f : length rest ≡ suc (length behind) = ap length is in omega arith

pub record NumbersSoFar (text made rest : List ℕ) : Type 0 where
  pub to : (others : List ℕ) → AreNumbers rest others → AreNumbers text (made ++ others)
  pub from : (numbers : List ℕ) → AreNumbers text numbers → (others : List ℕ) × AreNumbers rest others × (numbers ≡ made ++ others)

pub numbers_begun : (text : List ℕ) → NumbersSoFar text [] text
numbers_begun text = record { to = λ others h. h; from = λ numbers h. (numbers, h, refl) }

module _ (text made rest : List ℕ) (so_far : NumbersSoFar text made rest) where
  pub numbers_more : (behind : List ℕ) (number : ℕ) (next : List ℕ) → rest ≡ 32 ∷ behind → IsNumberAt behind number next →
      NumbersSoFar text (made ++ number ∷ []) next
  numbers_more behind number next is h =
      record {
        to = λ others there.
            rw append_assoc (so_far.to (number ∷ others) (subst (λ (t : List ℕ). AreNumbers t (number ∷ others)) (sym is) (put_number behind number next others h there)));
        from = λ numbers there.
            let (others, left, same) = so_far.from numbers there in
            let (first, more, after, parts, here, further) = first_number behind others (subst (λ (t : List ℕ). AreNumbers t others) is left) in
            let one = one_number behind first number after next here h in (
              more,
              subst (λ (t : List ℕ). AreNumbers t more) one.1 further,
              same ∙ ap (λ (xs : List ℕ). made ++ xs) (parts ∙ ap (λ (n : ℕ). n ∷ more) one.0) ∙ sym (append_assoc made (number ∷ []) more),
            );
      }

  pub numbers_stop : (behind : List ℕ) → rest ≡ 32 ∷ behind → HasNoNumber behind → HasNoNumbers text
  numbers_stop behind is none numbers there =
      let (others, left, same) = so_far.from numbers there in
      let (first, more, after, parts, here, further) =
      first_number behind others (subst (λ (t : List ℕ). AreNumbers t others) (is) left) in
      none first after here

  pub numbers_done : rest ≡ 10 ∷ [] → AreNumbers text made
  numbers_done is = rw (← append-nil made) (so_far.to [] (record { short = tt; spelled = is }))

  pub numbers_fail : (length rest < 1) ⊎ (get_or rest 0 0 ≢ 32) → (rest ≡ 10 ∷ [] → ⊥) → HasNoNumbers text
  numbers_fail other never numbers there =
      let (others, left, same) = so_far.from numbers there in
      numbers_none rest others left other never

pub one_list : (a b text : List ℕ) → AreNumbers text a → AreNumbers text b → a ≡ b
one_list [] [] text x y = refl
one_list [] (m ∷ b) text x y = absurd (let both : 10 ∷ [] ≡ 32 ∷ ((decimal m ++ numbers_text b) ++ 10 ∷ []) = sym x.spelled ∙ y.spelled in cc)
one_list (n ∷ a) [] text x y = absurd (let both : 10 ∷ [] ≡ 32 ∷ ((decimal n ++ numbers_text a) ++ 10 ∷ []) = sym y.spelled ∙ x.spelled in cc)
one_list (n ∷ a) (m ∷ b) text x y =
    let (m2, b2, next, parts, here, further) = first_number ((decimal n ++ numbers_text a) ++ 10 ∷ []) (m ∷ b) (subst (λ (t : List ℕ). AreNumbers t (m ∷ b)) x.spelled y) in
    let (n2, a2, after, others, there, more) = first_number ((decimal n ++ numbers_text a) ++ 10 ∷ []) (n ∷ a) (subst (λ (t : List ℕ). AreNumbers t (n ∷ a)) x.spelled x) in
    let one = one_number ((decimal n ++ numbers_text a) ++ 10 ∷ []) n2 m2 after next there here in
    let same : a ≡ a2 = ap (λ (t : List ℕ). drop 1 t) others in
    let same_b : b ≡ b2 = ap (λ (t : List ℕ). drop 1 t) parts in
    let tails = one_list a b next (subst (λ (xs : List ℕ). AreNumbers next xs) (sym same) (subst (λ (t : List ℕ). AreNumbers t a2) one.1 more)) (subst (λ (xs : List ℕ). AreNumbers next xs) (sym same_b) further) in
    let heads : n ≡ m = ap (λ (t : List ℕ). get_or t 0 0) others ∙ one.0 ∙ sym (ap (λ (t : List ℕ). get_or t 0 0) parts) in
    ap (λ (k : ℕ). k ∷ a) heads ∙ ap (λ (xs : List ℕ). m ∷ xs) tails

-- ---- literals

put_literal : (behind : List ℕ) (literal : Literal) (next : List ℕ) (others : List Literal) (rest : List ℕ) → IsSignedAt behind literal next → 0 < literal.variable →
    AreLiterals next others rest → AreLiterals (32 ∷ behind) (literal ∷ others) rest
put_literal behind literal next others rest h some there = record {
  formed = ((some, h.formed), there.formed);
  spelled = ap (λ (t : List ℕ). 32 ∷ t) (h.spelled ∙ ap (λ (t : List ℕ). literal_text literal ++ t) there.spelled ∙ sym (append_assoc (literal_text literal) (literals_text others) (32 ∷ 48 ∷ rest)));
  ends = there.ends;
}

literals_end : (literals : List Literal) (rest : List ℕ) → EndsNumber (literals_text literals ++ (32 ∷ 48 ∷ rest))
literals_end [] rest = refl
literals_end (literal ∷ literals) rest = refl

first_literal : (behind : List ℕ) (literals : List Literal) (rest : List ℕ) → AreLiterals (32 ∷ behind) literals rest →
    ((literals ≡ []) × (behind ≡ 48 ∷ rest))
    ⊎ ((literal : Literal) × (others : List Literal) × (next : List ℕ) × (literals ≡ literal ∷ others) × (0 < literal.variable) × IsSignedAt behind literal next × AreLiterals next others rest)
first_literal behind [] rest h = inl (refl, ap (λ (t : List ℕ). drop 1 t) h.spelled)
first_literal behind (literal ∷ others) rest h =
    let same : behind ≡ (literal_text literal ++ literals_text others) ++ (32 ∷ 48 ∷ rest) = ap (λ (t : List ℕ). drop 1 t) h.spelled in
    inr (
      literal,
      others,
      literals_text others ++ (32 ∷ 48 ∷ rest),
      refl,
      h.formed.0.0,
      record { formed = h.formed.0.1; some = λ _. h.formed.0.0; spelled = same ∙ append_assoc (literal_text literal) (literals_text others) (32 ∷ 48 ∷ rest); ends = literals_end others rest },
      record { formed = h.formed.1; spelled = refl; ends = h.ends },
    )

zero_signed : (rest : List ℕ) → EndsNumber rest → IsSignedAt (48 ∷ rest) (record { variable = 0; positive = true }) rest
zero_signed rest ends = record {
  formed = omega arith;
  some = λ h. absurd cc;
  spelled = ap (λ (digits : List ℕ). digits ++ rest) (sym (decimal_digit 0 (omega arith)));
  ends = ends;
}

pub literals_shorter : (rest behind : List ℕ) (literal : Literal) (next : List ℕ) → rest ≡ 32 ∷ behind → IsSignedAt behind literal next → length next < length rest
literals_shorter rest behind literal next is h = let e = ap length h.spelled ∙ length-append (literal_text literal) next in let f : length rest ≡ suc (length behind) = ap length is in omega arith

literals_long : (rest : List ℕ) (others : List Literal) (tail : List ℕ) → AreLiterals rest others tail → 1 ≤ length rest
literals_long rest [] tail h = let long : length rest ≡ suc (suc (length tail)) = ap length h.spelled in omega arith
literals_long rest (literal ∷ others) tail h =
    let long : length rest ≡ suc (length ((literal_text literal ++ literals_text others) ++ (32 ∷ 48 ∷ tail))) = ap length h.spelled in omega arith

literals_space : (rest : List ℕ) (others : List Literal) (tail : List ℕ) → AreLiterals rest others tail → get_or rest 0 0 ≡ 32
literals_space rest [] tail h = ap (λ (t : List ℕ). get_or t 0 0) h.spelled
literals_space rest (literal ∷ others) tail h = ap (λ (t : List ℕ). get_or t 0 0) h.spelled

zero_first : (rest : List ℕ) (literal : Literal) (others : List Literal) (other : List ℕ) → EndsNumber rest → AreLiterals (32 ∷ 48 ∷ rest) (literal ∷ others) other → ⊥
zero_first rest literal others other ends h = elim (first_literal (48 ∷ rest) (literal ∷ others) other h) [
  | inl (nil, _) ↦ cc
  | inr (first, more, after, parts, above, here, further) ↦
      let same = ap (λ (l : Literal). l.variable) (one_signed (48 ∷ rest) first (record { variable = 0; positive = true }) after rest here (zero_signed rest ends)).0 in
      omega arith
]

one_first : (behind : List ℕ) (n m : Literal) (a b : List Literal) (text rest other : List ℕ) → text ≡ 32 ∷ behind →
    AreLiterals (32 ∷ behind) (n ∷ a) rest → AreLiterals (32 ∷ behind) (m ∷ b) other →
    ((next tail end : List ℕ) → AreLiterals next a tail → AreLiterals next b end → (a ≡ b) × (tail ≡ end)) → (n ∷ a ≡ m ∷ b) × (rest ≡ other)
one_first behind n m a b text rest other is x y more = elim (first_literal behind (n ∷ a) rest x) [
  | inl (nil, _) ↦ absurd (let e : n ∷ a ≡ [] = nil in cc)
  | inr (n2, a2, after, parts, above, here, further) ↦ elim (first_literal behind (m ∷ b) other y) [
    | inl (nil, _) ↦ absurd (let e : m ∷ b ≡ [] = nil in cc)
    | inr (m2, b2, next, others, above_b, there, further_b) ↦
        let one = one_signed behind n2 m2 after next here there in
        let same_a : a2 ≡ a = sym (ap (λ (t : List Literal). drop 1 t) parts) in
        let same_b : b2 ≡ b = sym (ap (λ (t : List Literal). drop 1 t) others) in
        let left : AreLiterals next a rest = subst (λ (xs : List Literal). AreLiterals next xs rest) same_a (subst (λ (t : List ℕ). AreLiterals t a2 rest) one.1 further) in
        let right : AreLiterals next b other = subst (λ (xs : List Literal). AreLiterals next xs other) same_b further_b in
        let tails = more next rest other left right in
        let heads : n ≡ m = ap (λ (t : List Literal). get_or t 0 n) parts ∙ one.0 ∙ sym (ap (λ (t : List Literal). get_or t 0 m) others) in
        (ap (λ (k : Literal). k ∷ a) heads ∙ ap (λ (xs : List Literal). m ∷ xs) tails.0, tails.1)
  ]
]

pub one_clause : (a b : List Literal) (text rest other : List ℕ) → AreLiterals text a rest → AreLiterals text b other → (a ≡ b) × (rest ≡ other)
one_clause [] [] text rest other x y = (refl, let both : 32 ∷ 48 ∷ rest ≡ 32 ∷ 48 ∷ other = sym x.spelled ∙ y.spelled in cc)
one_clause [] (m ∷ b) text rest other x y = absurd (zero_first rest m b other x.ends (subst (λ (t : List ℕ). AreLiterals t (m ∷ b) other) x.spelled y))
one_clause (n ∷ a) [] text rest other x y = absurd (zero_first other n a rest y.ends (subst (λ (t : List ℕ). AreLiterals t (n ∷ a) rest) y.spelled x))
one_clause (n ∷ a) (m ∷ b) text rest other x y =
    one_first ((literal_text n ++ literals_text a) ++ (32 ∷ 48 ∷ rest)) n m a b text rest other x.spelled (subst (λ (t : List ℕ). AreLiterals t (n ∷ a) rest) x.spelled x) (subst (λ (t : List ℕ). AreLiterals t (m ∷ b) other) x.spelled y)
    (one_clause a b)

pub record LiteralsSoFar (text : List ℕ) (made : List Literal) (rest : List ℕ) : Type 0 where
  pub to : (others : List Literal) (tail : List ℕ) → AreLiterals rest others tail → AreLiterals text (made ++ others) tail
  pub from : (literals : List Literal) (tail : List ℕ) → AreLiterals text literals tail → (others : List Literal) × AreLiterals rest others tail × (literals ≡ made ++ others)

pub literals_begun : (text : List ℕ) → LiteralsSoFar text [] text
literals_begun text = record { to = λ others tail h. h; from = λ literals tail h. (literals, h, refl) }

module _ (text : List ℕ) (made : List Literal) (rest : List ℕ) (so_far : LiteralsSoFar text made rest) where
  at_front : (behind : List ℕ) (others : List Literal) (tail : List ℕ) → rest ≡ 32 ∷ behind → AreLiterals rest others tail → AreLiterals (32 ∷ behind) others tail
  at_front behind others tail is left = subst (λ (t : List ℕ). AreLiterals t others tail) (is) left

  pub literals_more : (behind : List ℕ) (literal : Literal) (next : List ℕ) → rest ≡ 32 ∷ behind → IsSignedAt behind literal next → literal.variable ≢ 0 →
      LiteralsSoFar text (made ++ literal ∷ []) next
  literals_more behind literal next is h other = record {
    to = λ others tail there.
        rw append_assoc (so_far.to (literal ∷ others) tail (subst (λ (t : List ℕ). AreLiterals t (literal ∷ others) tail) (sym (is))
        (put_literal behind literal next others tail h (omega arith) there)));
    from = λ literals tail there.
        let (others, left, same) = so_far.from literals tail there in
        elim (first_literal behind others tail (at_front behind others tail is left)) [
          | inl (none, zero_is) ↦
              let zeroed = subst (λ (t : List ℕ). IsSignedAt t (record { variable = 0; positive = true }) tail) (sym zero_is) (zero_signed tail left.ends) in
              absurd (other (ap (λ (l : Literal). l.variable) (one_signed behind literal (record { variable = 0; positive = true }) next tail h zeroed).0))
          | inr (first, more, after, parts, above, here, further) ↦
              let one = one_signed behind first literal after next here h in (
                more,
                subst (λ (t : List ℕ). AreLiterals t more tail) one.1 further,
                same ∙ ap (λ (xs : List Literal). made ++ xs) (parts ∙ ap (λ (n : Literal). n ∷ more) one.0) ∙ sym (append_assoc made (literal ∷ []) more),
              )
        ];
  }

  pub literals_stop : (behind : List ℕ) → rest ≡ 32 ∷ behind → HasNoSigned behind → HasNoLiterals text
  literals_stop behind is none literals tail there =
      let (others, left, same) = so_far.from literals tail there in
      elim (first_literal behind others tail (at_front behind others tail is left)) [
        | inl (nil, zero_is) ↦ none _ tail (subst (λ (t : List ℕ). IsSignedAt t (record { variable = 0; positive = true }) tail) (sym zero_is) (zero_signed tail left.ends))
        | inr (first, more, after, parts, above, here, further) ↦ none first after here
      ]

  pub literals_done : (behind : List ℕ) (literal : Literal) (next : List ℕ) → rest ≡ 32 ∷ behind → IsSignedAt behind literal next → literal.variable ≡ 0 →
      AreLiterals text made next
  literals_done behind literal next is h nil =
      let positive : literal.positive ≡ true = elim (cases_Bool literal.positive) [ inl plus ↦ plus | inr minus ↦ let above = h.some minus in absurd (omega arith) ] in
      let spelled : behind ≡ 48 ∷ next = h.spelled ∙ rw (positive, nil, decimal_digit 0 (omega arith)) refl in
      rw (← append-nil made) (so_far.to [] next (record {
        formed = tt;
        spelled = is ∙ ap (λ (t : List ℕ). 32 ∷ t) spelled;
        ends = h.ends;
      }))

  pub literals_fail : (length rest < 1) ⊎ (get_or rest 0 0 ≢ 32) → HasNoLiterals text
  literals_fail other literals tail there =
      let (others, left, same) = so_far.from literals tail there in
      elim other [
        | inl short ↦ let long = literals_long rest others tail left in omega arith
        | inr differs ↦ differs (literals_space rest others tail left)
      ]
