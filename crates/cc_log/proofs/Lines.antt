-- The texts of lines: what stands behind their letters.
use Rattle.std.proofs.Common.{◌≡◌, ℕ, ◌<◌, true, false, List, [], ◌∷◌, ◌++◌, decimal, codes, length, get_or, refl, sym, ap, subst, ◌∙◌, arith, append_assoc, inl, inr, ◌⊎◌}
use Rattle.std.specs.List.{AllByRecursion}
use Rattle.std.proofs.lemmas.List.Concat.{flat_map-append}
use Rattle.std.proofs.lemmas.List.{same_from_push}
use Rattle.std.proofs.lemmas.Fmt.{decimal_digit}
use Rattle.cc_defs.specs.declared.log.EndWord.{EndWord}
use Rattle.cc_defs.specs.declared.log.EndWord.TheVariants as words
use Rattle.cc_defs.specs.declared.log.LogLine.{LogLine}
use Rattle.cc_defs.specs.declared.log.LogLine.TheVariants as lines
use Rattle.cc_defs.specs.Clauses.{Literal}
use Rattle.cc_defs.specs.declared.log.Version.TheVariants.{First}
use Rattle.cc_defs.specs.LogTexts.{IsShort, IsOdd, IsLine, line_text}
use Rattle.cc_defs.specs.Sections.{HasNoForm}
use Rattle.cc_log.specs.Fronts.{AreNumbers, HasNoNumbers, AreLiterals, HasNoChain, HasNoLiterals, IsLast, IsNumberAt}
use Rattle.cc_log.proofs.Spelled.{numbers_text, literals_text, numbered_text, derived_text}
use Rattle.cc_log.proofs.Rows.{one_list, one_clause, numbers_end}
use Rattle.cc_log.proofs.Numbers.{one_number}

tail_text : (chain : List ℕ) → numbers_text chain ++ codes " 0" ≡ numbers_text (chain ++ 0 ∷ [])
tail_text chain =
    sym (flat_map-append (λ number. 32 ∷ decimal number) chain (0 ∷ [])
    ∙ ap (λ (digits : List ℕ). numbers_text chain ++ (32 ∷ (digits ++ []))) (decimal_digit 0 (omega arith)))

pub whole_derived : (clause : List Literal) (chain : List ℕ) →
    line_text (lines.Derived clause chain) ≡ 100 ∷ (literals_text clause ++ (32 ∷ 48 ∷ (numbers_text (chain ++ 0 ∷ []) ++ 10 ∷ [])))
whole_derived clause chain =
    ap (λ (t : List ℕ). t ++ 10 ∷ []) (derived_text clause chain)
    ∙ ap (λ (t : List ℕ). 100 ∷ t) (append_assoc (literals_text clause) (codes " 0" ++ (numbers_text chain ++ codes " 0")) (10 ∷ [])
    ∙ ap (λ (t : List ℕ). literals_text clause ++ (32 ∷ 48 ∷ (t ++ 10 ∷ []))) (tail_text chain))

pub whole_block : (row : List ℕ) → line_text (lines.Block row) ≡ 98 ∷ (numbers_text row ++ 10 ∷ [])
whole_block row = ap (λ (t : List ℕ). t ++ 10 ∷ []) (numbered_text (codes "b") row)

abbrev letter_of : LogLine → ℕ
letter_of (lines.Section true horizon) = 119
letter_of (lines.Section false horizon) = 104
letter_of (lines.Derived clause chain) = 100
letter_of (lines.Block row) = 98
letter_of (lines.End word) = 101

letter : (line : LogLine) → get_or (line_text line) 0 0 ≡ letter_of line
letter (lines.Section true horizon) = refl
letter (lines.Section false horizon) = refl
letter (lines.Derived clause chain) = ap (λ (t : List ℕ). get_or t 0 0) (whole_derived clause chain)
letter (lines.Block row) = ap (λ (t : List ℕ). get_or t 0 0) (whole_block row)
letter (lines.End words.Empty) = refl
letter (lines.End words.Found) = refl
letter (lines.End words.Spent) = refl

pub first_letter : (text : List ℕ) (line : LogLine) → IsLine text line → get_or text 0 0 ≡ letter_of line
first_letter text line h = ap (λ (t : List ℕ). get_or t 0 0) h.spelled ∙ letter line

-- ---- blocks

pub block_line : (body numbers : List ℕ) → AreNumbers body numbers → IsLine (98 ∷ body) (lines.Block numbers)
block_line body numbers h = record { formed = h.short; spelled = ap (λ (t : List ℕ). 98 ∷ t) h.spelled ∙ sym (whole_block numbers) }

pub no_block : (body : List ℕ) → HasNoNumbers body → HasNoForm First (98 ∷ body)
no_block body none (lines.Section true horizon) h = let e = first_letter _ _ h in omega arith
no_block body none (lines.Section false horizon) h = let e = first_letter _ _ h in omega arith
no_block body none (lines.Derived clause chain) h = let e = first_letter _ _ h in omega arith
no_block body none (lines.End word) h = let e = first_letter _ _ h in omega arith
no_block body none (lines.Block row) h =
    let whole : 98 ∷ body ≡ 98 ∷ (numbers_text row ++ 10 ∷ []) = h.spelled ∙ whole_block row in
    none row (record { short = h.formed; spelled = cc })

-- ---- derived lines

pub short_push : (numbers : List ℕ) (number : ℕ) → AllByRecursion IsShort numbers → IsShort number → AllByRecursion IsShort (numbers ++ number ∷ [])
short_push [] number all one = (one, tt)
short_push (n ∷ numbers) number all one = (all.0, short_push numbers number all.1 one)

short_front : (numbers : List ℕ) (number : ℕ) → AllByRecursion IsShort (numbers ++ number ∷ []) → AllByRecursion IsShort numbers
short_front [] number all = tt
short_front (n ∷ numbers) number all = (all.0, short_front numbers number all.1)

pub derived_line : (body tail chain : List ℕ) (clause : List Literal) → AreLiterals body clause tail → AreNumbers tail (chain ++ 0 ∷ []) → IsOdd (length chain) →
    IsLine (100 ∷ body) (lines.Derived clause chain)
derived_line body tail chain clause ls ns odd = record {
  formed = (ls.formed, short_front chain 0 ns.short, odd);
  spelled = ap (λ (t : List ℕ). 100 ∷ t) (ls.spelled ∙ ap (λ (t : List ℕ). literals_text clause ++ (32 ∷ 48 ∷ t)) ns.spelled) ∙ sym (whole_derived clause chain);
}

derived_parts : (body chain : List ℕ) (clause : List Literal) → IsLine (100 ∷ body) (lines.Derived clause chain) →
    AreLiterals body clause (numbers_text (chain ++ 0 ∷ []) ++ 10 ∷ []) × AreNumbers (numbers_text (chain ++ 0 ∷ []) ++ 10 ∷ []) (chain ++ 0 ∷ []) × IsOdd (length chain)
derived_parts body chain clause h =
    let whole : 100 ∷ body ≡ 100 ∷ (literals_text clause ++ (32 ∷ 48 ∷ (numbers_text (chain ++ 0 ∷ []) ++ 10 ∷ []))) = h.spelled ∙ whole_derived clause chain in (
      record { formed = h.formed.0; spelled = cc; ends = numbers_end (chain ++ 0 ∷ []) },
      record { short = short_push chain 0 h.formed.1 (omega arith); spelled = refl },
      h.formed.2,
    )

pub no_derived : (body : List ℕ) →
    ((clause : List Literal) (tail chain : List ℕ) → AreLiterals body clause tail → AreNumbers tail (chain ++ 0 ∷ []) → IsOdd (length chain) → ⊥) → HasNoForm First (100 ∷ body)
no_derived body none (lines.Section true horizon) h = let e = first_letter _ _ h in omega arith
no_derived body none (lines.Section false horizon) h = let e = first_letter _ _ h in omega arith
no_derived body none (lines.Block row) h = let e = first_letter _ _ h in omega arith
no_derived body none (lines.End word) h = let e = first_letter _ _ h in omega arith
no_derived body none (lines.Derived clause chain) h =
    let (ls, ns, odd) = derived_parts body chain clause h in
    none clause (numbers_text (chain ++ 0 ∷ []) ++ 10 ∷ []) chain ls ns odd

-- ---- by what was read

pub last_by : (text rest : List ℕ) (number : ℕ) → IsNumberAt text number rest → (rest ≡ 10 ∷ [] → ⊥) → (other : ℕ) → IsLast text other → ⊥
last_by text rest number h never other (short, spelled) =
    never (one_number text number other rest (10 ∷ []) h (record { formed = short; spelled = spelled; ends = refl })).1

pub no_literals_derived : (body : List ℕ) → HasNoLiterals body → HasNoForm First (100 ∷ body)
no_literals_derived body none = no_derived body (λ clause tail chain ls ns odd. none clause tail ls)

pub no_chain_derived : (body tail : List ℕ) (made : List Literal) → AreLiterals body made tail → HasNoChain tail → HasNoForm First (100 ∷ body)
no_chain_derived body tail made h none = no_derived body (λ clause rest chain ls ns odd.
    none chain (subst (λ (t : List ℕ). AreNumbers t (chain ++ 0 ∷ [])) (sym (one_clause made clause body tail rest h ls).1) ns, odd))

-- ---- no text is that of two lines

rest_is : (byte : ℕ) (a b : List ℕ) → byte ∷ a ≡ byte ∷ b → a ≡ b
rest_is byte a b is = cc

one_horizon : (byte h1 h2 : ℕ) → IsShort h1 → IsShort h2 → byte ∷ 32 ∷ (decimal h1 ++ 10 ∷ []) ≡ byte ∷ 32 ∷ (decimal h2 ++ 10 ∷ []) → h1 ≡ h2
one_horizon byte h1 h2 a b is =
    (one_number (decimal h1 ++ 10 ∷ []) h1 h2 (10 ∷ []) (10 ∷ []) (record { formed = a; spelled = refl; ends = refl })
    (record { formed = b; spelled = rest_is 32 _ _ (rest_is byte _ _ is); ends = refl })).0

apart : (m n : ℕ) → m ≡ n → (m < n) ⊎ (n < m) → ⊥
apart m n is (inl below) = omega arith
apart m n is (inr above) = omega arith

one_word : (w1 w2 : EndWord) → line_text (lines.End w1) ≡ line_text (lines.End w2) → w1 ≡ w2
one_word words.Empty words.Empty is = refl
one_word words.Found words.Found is = refl
one_word words.Spent words.Spent is = refl
one_word words.Empty words.Found is = absurd (apart 101 102 (ap (λ (t : List ℕ). get_or t 2 0) is) (inl (omega arith)))
one_word words.Empty words.Spent is = absurd (apart 101 115 (ap (λ (t : List ℕ). get_or t 2 0) is) (inl (omega arith)))
one_word words.Found words.Empty is = absurd (apart 102 101 (ap (λ (t : List ℕ). get_or t 2 0) is) (inr (omega arith)))
one_word words.Found words.Spent is = absurd (apart 102 115 (ap (λ (t : List ℕ). get_or t 2 0) is) (inl (omega arith)))
one_word words.Spent words.Empty is = absurd (apart 115 101 (ap (λ (t : List ℕ). get_or t 2 0) is) (inr (omega arith)))
one_word words.Spent words.Found is = absurd (apart 115 102 (ap (λ (t : List ℕ). get_or t 2 0) is) (inr (omega arith)))

one_derived : (text : List ℕ) (c1 c2 : List Literal) (n1 n2 : List ℕ) → IsLine text (lines.Derived c1 n1) → IsLine text (lines.Derived c2 n2) → lines.Derived c1 n1 ≡ lines.Derived c2 n2
one_derived text c1 c2 n1 n2 x y =
    let is = x.spelled ∙ whole_derived c1 n1 in
    let (l1, m1, o1) = derived_parts (literals_text c1 ++ (32 ∷ 48 ∷ (numbers_text (n1 ++ 0 ∷ []) ++ 10 ∷ []))) n1 c1 (subst (λ (t : List ℕ). IsLine t (lines.Derived c1 n1)) is x) in
    let (l2, m2, o2) = derived_parts (literals_text c1 ++ (32 ∷ 48 ∷ (numbers_text (n1 ++ 0 ∷ []) ++ 10 ∷ []))) n2 c2 (subst (λ (t : List ℕ). IsLine t (lines.Derived c2 n2)) is y) in
    let clauses = one_clause c1 c2 _ _ _ l1 l2 in
    let chains = one_list (n1 ++ 0 ∷ []) (n2 ++ 0 ∷ []) _ m1 (subst (λ (t : List ℕ). AreNumbers t (n2 ++ 0 ∷ [])) (sym clauses.1) m2) in
    ap (λ (c : List Literal). lines.Derived c n1) clauses.0 ∙ ap (lines.Derived c2) (same_from_push n1 n2 0 0 chains).0

pub one_line : (text : List ℕ) (a b : LogLine) → IsLine text a → IsLine text b → a ≡ b
one_line text (lines.Section true h1) (lines.Section true h2) x y = ap (λ (h : ℕ). lines.Section true h) (one_horizon _ h1 h2 x.formed y.formed (sym x.spelled ∙ y.spelled))
one_line text (lines.Section true h1) (lines.Section false h2) x y = let e = sym (first_letter text _ x) ∙ first_letter text _ y in absurd (omega arith)
one_line text (lines.Section true h1) (lines.Derived c2 n2) x y = let e = sym (first_letter text _ x) ∙ first_letter text _ y in absurd (omega arith)
one_line text (lines.Section true h1) (lines.Block r2) x y = let e = sym (first_letter text _ x) ∙ first_letter text _ y in absurd (omega arith)
one_line text (lines.Section true h1) (lines.End w2) x y = let e = sym (first_letter text _ x) ∙ first_letter text _ y in absurd (omega arith)
one_line text (lines.Section false h1) (lines.Section true h2) x y = let e = sym (first_letter text _ x) ∙ first_letter text _ y in absurd (omega arith)
one_line text (lines.Section false h1) (lines.Section false h2) x y = ap (λ (h : ℕ). lines.Section false h) (one_horizon _ h1 h2 x.formed y.formed (sym x.spelled ∙ y.spelled))
one_line text (lines.Section false h1) (lines.Derived c2 n2) x y = let e = sym (first_letter text _ x) ∙ first_letter text _ y in absurd (omega arith)
one_line text (lines.Section false h1) (lines.Block r2) x y = let e = sym (first_letter text _ x) ∙ first_letter text _ y in absurd (omega arith)
one_line text (lines.Section false h1) (lines.End w2) x y = let e = sym (first_letter text _ x) ∙ first_letter text _ y in absurd (omega arith)
one_line text (lines.Derived c1 n1) (lines.Section true h2) x y = let e = sym (first_letter text _ x) ∙ first_letter text _ y in absurd (omega arith)
one_line text (lines.Derived c1 n1) (lines.Section false h2) x y = let e = sym (first_letter text _ x) ∙ first_letter text _ y in absurd (omega arith)
one_line text (lines.Derived c1 n1) (lines.Derived c2 n2) x y = one_derived text c1 c2 n1 n2 x y
one_line text (lines.Derived c1 n1) (lines.Block r2) x y = let e = sym (first_letter text _ x) ∙ first_letter text _ y in absurd (omega arith)
one_line text (lines.Derived c1 n1) (lines.End w2) x y = let e = sym (first_letter text _ x) ∙ first_letter text _ y in absurd (omega arith)
one_line text (lines.Block r1) (lines.Section true h2) x y = let e = sym (first_letter text _ x) ∙ first_letter text _ y in absurd (omega arith)
one_line text (lines.Block r1) (lines.Section false h2) x y = let e = sym (first_letter text _ x) ∙ first_letter text _ y in absurd (omega arith)
one_line text (lines.Block r1) (lines.Derived c2 n2) x y = let e = sym (first_letter text _ x) ∙ first_letter text _ y in absurd (omega arith)
one_line text (lines.Block r1) (lines.Block r2) x y = ap lines.Block (one_list r1 r2 (numbers_text r1 ++ 10 ∷ []) (record { short = x.formed; spelled = refl }) (record { short = y.formed; spelled = rest_is _ _ _ (sym (whole_block r1) ∙ sym x.spelled ∙ y.spelled ∙ whole_block r2) }))
one_line text (lines.Block r1) (lines.End w2) x y = let e = sym (first_letter text _ x) ∙ first_letter text _ y in absurd (omega arith)
one_line text (lines.End w1) (lines.Section true h2) x y = let e = sym (first_letter text _ x) ∙ first_letter text _ y in absurd (omega arith)
one_line text (lines.End w1) (lines.Section false h2) x y = let e = sym (first_letter text _ x) ∙ first_letter text _ y in absurd (omega arith)
one_line text (lines.End w1) (lines.Derived c2 n2) x y = let e = sym (first_letter text _ x) ∙ first_letter text _ y in absurd (omega arith)
one_line text (lines.End w1) (lines.Block r2) x y = let e = sym (first_letter text _ x) ∙ first_letter text _ y in absurd (omega arith)
one_line text (lines.End w1) (lines.End w2) x y = ap lines.End (one_word w1 w2 (sym x.spelled ∙ y.spelled))
