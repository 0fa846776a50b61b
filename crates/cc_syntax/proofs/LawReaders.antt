-- The readers of laws.
use Rattle.std.proofs.Common.{◌≡◌, ◌⊎◌, ℕ, ◌<◌, Bool, true, false, cond, ◌&&◌, ◌||◌, List, ◌∷◌, length, Option, Some, None, refl, ap, subst, ◌∙◌, inl, inr}
use Rattle.std.specs.Prelude.{codes}
use Rattle.std.specs.Cmp.Derive.{both_true}
use Rattle.std.proofs.lemmas.Bool.{and_parts}
use Rattle.cc_defs.specs.Trees.{PlainTerm, Applied, NoSums, MoreSums, PlainPiece, Numeral, Called, PlainSum, Summed, PlainTree, PlainLaw, Caused, Constraint, Always, Nonexecutable, Default, Exogenous, Inertial, Causes, MayCause, NoConcurrency, PlainPart, Law}
use Rattle.cc_defs.specs.Trees as trees
use Rattle.cc_defs.specs.Grammar.{Terminal, Word, Spelling, ◌▸◌, never, word, optional, is_name, is_value_word, term, sum, piece, formula_of, formula, law, tested_law}
use Rattle.cc_syntax.specs.Readers.{Literal, word_at, optional_at}
use Rattle.cc_syntax.specs.Formulas.{formula_at}
use Rattle.cc_syntax.specs.Laws.{if_at, caused_at, effect_at, alone_at, of_term_at, worded_at, acting_at, opens_formula, law_at, tested_law_at}
use Rattle.cc_syntax.proofs.IsReader.{IsReader, IsLiteral, ends_term, ends_formula}
use Rattle.cc_syntax.proofs.Singles.{word-literal}
use Rattle.cc_syntax.proofs.Combined.{IsPart, as_part, respelled, stopped, part_stopped, lacks, behind, made_by, made, made_part, paired_by, pair, led_by, leading, leading_part, by_choice, choice, nothing_for, nothing, none_for, refusing, option}
use Rattle.cc_syntax.proofs.FormulaReader.{formula-sum, formula-reader}
use Rattle.cc_syntax.proofs.TermReader.{sum-term, term-reader}

-- ---- where laws end

abbrev pub ends_law : List Terminal → Bool
ends_law rest = ends_formula rest && lacks (word_at (codes "if")) rest && lacks (word_at (codes "after")) rest

abbrev ends_if : List Terminal → Bool
ends_if rest = ends_formula rest && lacks (word_at (codes "if")) rest

abbrev ends_after : List Terminal → Bool
ends_after rest = ends_formula rest && lacks (word_at (codes "after")) rest

law-if : (rest : List Terminal) → ends_law rest ≡ true → ends_if rest ≡ true
law-if rest s = (and_parts (ends_if rest) (lacks (word_at (codes "after")) rest) s).0

law-formula : (rest : List Terminal) → ends_law rest ≡ true → ends_formula rest ≡ true
law-formula rest s = (and_parts (ends_formula rest) (lacks (word_at (codes "if")) rest) (law-if rest s)).0

law-after : (rest : List Terminal) → ends_law rest ≡ true → ends_after rest ≡ true
law-after rest s =
    both_true (law-formula rest s)
    (and_parts (ends_if rest) (lacks (word_at (codes "after")) rest) s).1

formula-term : (rest : List Terminal) → ends_formula rest ≡ true → ends_term rest ≡ true
formula-term rest e = sum-term rest (formula-sum rest e)

-- what may end before the word and before the rest may end before what is optional
ends-before : (ends : List Terminal → Bool) (text : List ℕ) → ((rest : List Terminal) → ends (Word text ∷ rest) ≡ true)
    → (x : Option PlainTree) (tokens rest : List Terminal) → optional formula text x tokens rest → ends rest ≡ true → ends tokens ≡ true
ends-before ends text begins None tokens rest p e = ap ends p ∙ e
ends-before ends text begins (Some x) tokens rest p e = ap ends p.1 ∙ begins p.0

-- ---- the shapes of laws

if-part : IsPart if_at (optional formula (codes "if")) ends_if
if-part = option (codes "if") formula-reader

after-part : IsPart (optional_at formula_at (codes "after")) (optional formula (codes "after")) ends_after
after-part = option (codes "after") formula-reader

abbrev after_of : (PlainTree → Option PlainTree → Option PlainTree → PlainLaw) → PlainTree → Option PlainTree → PlainLaw → Spelling
after_of make f g = made_by (λ h. make f g h) (optional formula (codes "after"))

abbrev if_of : (PlainTree → Option PlainTree → Option PlainTree → PlainLaw) → PlainTree → PlainLaw → Spelling
if_of make f = led_by (optional formula (codes "if")) (after_of make f)

abbrev caused_of : (PlainTree → Option PlainTree → Option PlainTree → PlainLaw) → PlainLaw → Spelling
caused_of make = led_by formula (if_of make)

caused-reader : (make : PlainTree → Option PlainTree → Option PlainTree → PlainLaw) → IsReader (caused_at make) (caused_of make) ends_law
unfolding caused_at
caused-reader make =
    leading formula-reader
    (λ f. leading_part if-part (λ g. part_stopped (made_part (λ h. make f g h) after-part) law-after) (before_after f))
    before_if
  where
    before_after : (f : PlainTree) (g : Option PlainTree) (l : PlainLaw) (tokens rest : List Terminal) → after_of make f g l tokens rest → ends_law rest ≡ true → ends_if tokens ≡ true
    before_after f g l tokens rest p s = ends-before ends_if (codes "after") (λ more. refl) p.0 tokens rest p.2 (law-if rest s)

    before_if : (f : PlainTree) (l : PlainLaw) (tokens rest : List Terminal) → if_of make f l tokens rest → ends_law rest ≡ true → ends_formula tokens ≡ true
    before_if f l tokens rest p s =
        let after = ends-before ends_formula (codes "after") (λ more. refl) p.1.2.0 p.1.0 rest p.1.2.2 (law-formula rest s) in
        ends-before ends_formula (codes "if") (λ more. refl) p.0 tokens p.1.0 p.1.1 after

abbrev effect_of : (PlainTree → Option PlainTree → PlainLaw) → PlainLaw → Spelling
effect_of make = paired_by make formula (optional formula (codes "if"))

effect-reader : (make : PlainTree → Option PlainTree → PlainLaw) → IsReader (effect_at make) (effect_of make) ends_law
unfolding effect_at
effect-reader make =
    pair make formula-reader (part_stopped if-part law-if)
    (λ g tokens rest p s. ends-before ends_formula (codes "if") (λ more. refl) g tokens rest p (law-formula rest s))

alone-reader : (make : PlainTree → PlainLaw) → IsReader (alone_at make) (made_by make formula) ends_law
unfolding alone_at
alone-reader make = stopped (made make formula-reader) law-formula

of_term-reader : (make : PlainTerm → PlainLaw) → IsReader (of_term_at make) (made_by make term) ends_law
unfolding of_term_at
of_term-reader make = stopped (made make term-reader) (λ rest s. formula-term rest (law-formula rest s))

-- ---- laws that begin with a word

-- the laws that do, as the grammar spells them
abbrev worded : PlainLaw → Spelling
worded (Causes a f g) = never
worded (MayCause a f g) = never
worded NoConcurrency = never
worded l = law l

abbrev by_word : PlainLaw → Spelling
by_word =
    by_choice (word_at (codes "caused")) (word (codes "caused")) (caused_of Caused)
    (by_choice (word_at (codes "constraint")) (word (codes "constraint")) (made_by Constraint formula)
    (by_choice (word_at (codes "always")) (word (codes "always")) (made_by Always formula)
    (by_choice (word_at (codes "nonexecutable")) (word (codes "nonexecutable")) (effect_of Nonexecutable)
    (by_choice (word_at (codes "default")) (word (codes "default")) (caused_of Default)
    (by_choice (word_at (codes "exogenous")) (word (codes "exogenous")) (made_by Exogenous term)
    (by_choice (word_at (codes "inertial")) (word (codes "inertial")) (made_by Inertial term) none_for))))))

worded-reader : IsReader worded_at worded ends_law
unfolding worded_at
worded-reader =
    respelled
    (choice (word-literal (codes "caused")) (as_part (caused-reader Caused))
    (choice (word-literal (codes "constraint")) (as_part (alone-reader Constraint))
    (choice (word-literal (codes "always")) (as_part (alone-reader Always))
    (choice (word-literal (codes "nonexecutable")) (as_part (effect-reader Nonexecutable))
    (choice (word-literal (codes "default")) (as_part (caused-reader Default))
    (choice (word-literal (codes "exogenous")) (as_part (of_term-reader Exogenous))
    (choice (word-literal (codes "inertial")) (as_part (of_term-reader Inertial)) refusing)))))))
    to from
  where
    to : (l : PlainLaw) (tokens rest : List Terminal) → by_word l tokens rest → worded l tokens rest
    to l tokens rest (inl (b, w, (f, (c, p, (g, (d, q, (h, e, r))))))) = subst (λ (z : PlainLaw). worded z tokens rest) e (b, w, (c, p, (d, q, r)))
    to l tokens rest (inr (n0, inl (b, w, (f, e, p)))) = subst (λ (z : PlainLaw). worded z tokens rest) e (b, w, p)
    to l tokens rest (inr (n0, inr (n1, inl (b, w, (f, e, p))))) = subst (λ (z : PlainLaw). worded z tokens rest) e (b, w, p)
    to l tokens rest (inr (n0, inr (n1, inr (n2, inl (b, w, (f, g, e, p)))))) = subst (λ (z : PlainLaw). worded z tokens rest) e (b, w, p)
    to l tokens rest (inr (n0, inr (n1, inr (n2, inr (n3, inl (b, w, (f, (c, p, (g, (d, q, (h, e, r))))))))))) = subst (λ (z : PlainLaw). worded z tokens rest) e (b, w, (c, p, (d, q, r)))
    to l tokens rest (inr (n0, inr (n1, inr (n2, inr (n3, inr (n4, inl (b, w, (f, e, p)))))))) = subst (λ (z : PlainLaw). worded z tokens rest) e (b, w, p)
    to l tokens rest (inr (n0, inr (n1, inr (n2, inr (n3, inr (n4, inr (n5, inl (b, w, (f, e, p))))))))) = subst (λ (z : PlainLaw). worded z tokens rest) e (b, w, p)
    to l tokens rest (inr (n0, inr (n1, inr (n2, inr (n3, inr (n4, inr (n5, inr (n6, p)))))))) = absurd p

    from : (l : PlainLaw) (tokens rest : List Terminal) → worded l tokens rest → by_word l tokens rest
    from (Caused f g h) tokens rest (b, w, (c, p, (d, q, r))) = inl (b, w, (f, (c, p, (g, (d, q, (h, refl, r))))))
    from (Constraint f) tokens rest (b, w, p) = inr (ap (word_at (codes "caused")) w, inl (b, w, (f, refl, p)))
    from (Always f) tokens rest (b, w, p) = inr (ap (word_at (codes "caused")) w, inr (ap (word_at (codes "constraint")) w, inl (b, w, (f, refl, p))))
    from (Nonexecutable f g) tokens rest (b, w, p) = inr (ap (word_at (codes "caused")) w, inr (ap (word_at (codes "constraint")) w, inr (ap (word_at (codes "always")) w, inl (b, w, (f, g, refl, p)))))
    from (Default f g h) tokens rest (b, w, (c, p, (d, q, r))) =
        inr (ap (word_at (codes "caused")) w, inr (ap (word_at (codes "constraint")) w, inr (ap (word_at (codes "always")) w, inr (ap (word_at (codes "nonexecutable")) w, inl (b, w, (f, (c, p, (g, (d, q, (h, refl, r))))))))))
    from (Exogenous f) tokens rest (b, w, p) =
        inr (ap (word_at (codes "caused")) w, inr (ap (word_at (codes "constraint")) w, inr (ap (word_at (codes "always")) w, inr (ap (word_at (codes "nonexecutable")) w, inr (ap (word_at (codes "default")) w, inl (b, w, (f, refl, p)))))))
    from (Inertial f) tokens rest (b, w, p) =
        inr (ap (word_at (codes "caused")) w, inr (ap (word_at (codes "constraint")) w, inr (ap (word_at (codes "always")) w, inr (ap (word_at (codes "nonexecutable")) w, inr (ap (word_at (codes "default")) w, inr (ap (word_at (codes "exogenous")) w, inl (b, w, (f, refl, p))))))))
    from (Causes a f g) tokens rest p = absurd p
    from (MayCause a f g) tokens rest p = absurd p
    from NoConcurrency tokens rest p = absurd p

-- the words do not begin a formula
worded-shut : (l : PlainLaw) (tokens rest : List Terminal) → worded l tokens rest → opens_formula tokens ≡ false
worded-shut (Caused f g h) tokens rest p = ap opens_formula p.1
worded-shut (Constraint f) tokens rest p = ap opens_formula p.1
worded-shut (Always f) tokens rest p = ap opens_formula p.1
worded-shut (Nonexecutable f g) tokens rest p = ap opens_formula p.1
worded-shut (Default f g h) tokens rest p = ap opens_formula p.1
worded-shut (Exogenous f) tokens rest p = ap opens_formula p.1
worded-shut (Inertial f) tokens rest p = ap opens_formula p.1
worded-shut (Causes a f g) tokens rest p = absurd p
worded-shut (MayCause a f g) tokens rest p = absurd p
worded-shut NoConcurrency tokens rest p = absurd p

-- `noconcurrency` is none of the words
worded-other : (l : PlainLaw) (tokens rest : List Terminal) → worded l tokens rest → word_at (codes "noconcurrency") tokens ≡ None
worded-other (Caused f g h) tokens rest p = ap (word_at (codes "noconcurrency")) p.1
worded-other (Constraint f) tokens rest p = ap (word_at (codes "noconcurrency")) p.1
worded-other (Always f) tokens rest p = ap (word_at (codes "noconcurrency")) p.1
worded-other (Nonexecutable f g) tokens rest p = ap (word_at (codes "noconcurrency")) p.1
worded-other (Default f g h) tokens rest p = ap (word_at (codes "noconcurrency")) p.1
worded-other (Exogenous f) tokens rest p = ap (word_at (codes "noconcurrency")) p.1
worded-other (Inertial f) tokens rest p = ap (word_at (codes "noconcurrency")) p.1
worded-other (Causes a f g) tokens rest p = absurd p
worded-other (MayCause a f g) tokens rest p = absurd p
worded-other NoConcurrency tokens rest p = absurd p

-- ---- laws that begin with a formula

abbrev acting : PlainLaw → Spelling
acting (Causes a f g) = law (Causes a f g)
acting (MayCause a f g) = law (MayCause a f g)
acting l = never

abbrev effects_of : PlainTree → PlainLaw → Spelling
effects_of a =
    by_choice (word_at (codes "causes")) (word (codes "causes")) (effect_of (Causes a))
    (λ l. word (codes "may") ▸ word (codes "cause") ▸ effect_of (MayCause a) l)

acting-reader : IsReader acting_at acting ends_law
unfolding acting_at
acting-reader =
    respelled
    (leading formula-reader
    (λ a. as_part
    (choice (word-literal (codes "causes")) (as_part (effect-reader (Causes a)))
    (behind (word-literal (codes "may")) (as_part (behind (word-literal (codes "cause")) (as_part (effect-reader (MayCause a))))))))
    before_effects)
    to from
  where
    before_effects : (a : PlainTree) (l : PlainLaw) (tokens rest : List Terminal) → effects_of a l tokens rest → ends_law rest ≡ true → ends_formula tokens ≡ true
    before_effects a l tokens rest (inl p) s = ap ends_formula p.1
    before_effects a l tokens rest (inr p) s = ap ends_formula p.1.1

    to : (l : PlainLaw) (tokens rest : List Terminal) → led_by formula effects_of l tokens rest → acting l tokens rest
    to l tokens rest (a, (b, p, inl (c, w, (f, g, e, q)))) = subst (λ (z : PlainLaw). acting z tokens rest) e (b, p, (c, w, q))
    to l tokens rest (a, (b, p, inr (none, (c, w, (d, v, (f, g, e, q)))))) = subst (λ (z : PlainLaw). acting z tokens rest) e (b, p, (c, w, (d, v, q)))

    from : (l : PlainLaw) (tokens rest : List Terminal) → acting l tokens rest → led_by formula effects_of l tokens rest
    from (Causes a f g) tokens rest (b, p, (c, w, q)) = (a, (b, p, inl (c, w, (f, g, refl, q))))
    from (MayCause a f g) tokens rest (b, p, (c, w, (d, v, q))) = (a, (b, p, inr (ap (word_at (codes "causes")) w, (c, w, (d, v, (f, g, refl, q))))))
    from (Caused f g h) tokens rest p = absurd p
    from (Constraint f) tokens rest p = absurd p
    from (Always f) tokens rest p = absurd p
    from (Nonexecutable f g) tokens rest p = absurd p
    from (Default f g h) tokens rest p = absurd p
    from (Exogenous c) tokens rest p = absurd p
    from (Inertial c) tokens rest p = absurd p
    from NoConcurrency tokens rest p = absurd p

or_left : (a b : Bool) → a ≡ true → (a || b) ≡ true
or_left true b e = refl
or_left false b e = absurd cc

term-opens : (t : PlainTerm) (tokens rest : List Terminal) → term t tokens rest → opens_formula tokens ≡ true
term-opens (Applied text NoSums) tokens rest p = ap opens_formula p.1 ∙ p.0
term-opens (Applied text (MoreSums first others)) tokens rest p = ap opens_formula p.1.1 ∙ or_left (is_name text) (is_value_word text) p.1.0

piece-opens : (x : PlainPiece) (tokens rest : List Terminal) → piece x tokens rest → opens_formula tokens ≡ true
piece-opens (Numeral n) tokens rest p = ap opens_formula p.1
piece-opens (Called t) tokens rest p = term-opens t tokens rest p

sum-opens : (s : PlainSum) (tokens rest : List Terminal) → sum s tokens rest → opens_formula tokens ≡ true
sum-opens (Summed first others) tokens rest p = piece-opens first tokens p.0 p.1

pub formula-opens : (strength : ℕ) (f : PlainTree) (tokens rest : List Terminal) → formula_of strength f tokens rest → opens_formula tokens ≡ true
formula-opens strength (trees.Bare s) tokens rest p = term-opens s tokens rest p
formula-opens strength (trees.Compared comparison s t) tokens rest p = sum-opens s tokens p.0 p.1
formula-opens strength (trees.Paren f) tokens rest p = ap opens_formula p.1
formula-opens strength (trees.Not f) tokens rest p = ap opens_formula p.1
formula-opens strength (trees.Both f g) tokens rest p = formula-opens 1 f tokens p.1.0 p.1.1
formula-opens strength (trees.Either f g) tokens rest p = formula-opens 2 f tokens p.1.0 p.1.1
formula-opens strength (trees.Implies f g) tokens rest p = formula-opens 2 f tokens p.1.0 p.1.1
formula-opens strength (trees.Same f g) tokens rest p = formula-opens 4 f tokens p.1.0 p.1.1
formula-opens strength (trees.ForAll x f) tokens rest p = ap opens_formula p.1
formula-opens strength (trees.Exists x f) tokens rest p = ap opens_formula p.1

acting-opens : (l : PlainLaw) (tokens rest : List Terminal) → acting l tokens rest → opens_formula tokens ≡ true
acting-opens (Causes a f g) tokens rest p = formula-opens 4 a tokens p.0 p.1
acting-opens (MayCause a f g) tokens rest p = formula-opens 4 a tokens p.0 p.1
acting-opens (Caused f g h) tokens rest p = absurd p
acting-opens (Constraint f) tokens rest p = absurd p
acting-opens (Always f) tokens rest p = absurd p
acting-opens (Nonexecutable f g) tokens rest p = absurd p
acting-opens (Default f g h) tokens rest p = absurd p
acting-opens (Exogenous c) tokens rest p = absurd p
acting-opens (Inertial c) tokens rest p = absurd p
acting-opens NoConcurrency tokens rest p = absurd p

-- ---- laws other than `noconcurrency`

abbrev pub other_law : PlainLaw → Spelling
other_law l tokens rest = acting l tokens rest ⊎ worded l tokens rest

pub law-reader : IsReader law_at other_law ends_law
law-reader = record { takes = takes; again = again; shorter = shorter }
  where
    by_test : (t : Bool) (tokens : List Terminal) (read : PlainLaw × List Terminal) → cond t (acting_at tokens) (worded_at tokens) ≡ Some read → other_law read.0 tokens read.1
    by_test true tokens read e = inl (acting-reader.takes tokens read e)
    by_test false tokens read e = inr (worded-reader.takes tokens read e)

    takes : (tokens : List Terminal) (read : PlainLaw × List Terminal) → law_at tokens ≡ Some read → other_law read.0 tokens read.1
    takes tokens read e = by_test (opens_formula tokens) tokens read e

    again : (l : PlainLaw) (tokens rest : List Terminal) → other_law l tokens rest → ends_law rest ≡ true → law_at tokens ≡ Some (l, rest)
    again l tokens rest (inl p) s = let opens : opens_formula tokens ≡ true = acting-opens l tokens rest p in rw opens (acting-reader.again l tokens rest p s)
    again l tokens rest (inr p) s = let opens : opens_formula tokens ≡ false = worded-shut l tokens rest p in rw opens (worded-reader.again l tokens rest p s)

    shorter : (l : PlainLaw) (tokens rest : List Terminal) → other_law l tokens rest → length rest < length tokens
    shorter l tokens rest (inl p) = acting-reader.shorter l tokens rest p
    shorter l tokens rest (inr p) = worded-reader.shorter l tokens rest p

is-none : {A : Type 0} (o : Option A) → ((x : A) → o ≡ Some x → ⊥) → o ≡ None
is-none None f = refl
is-none (Some x) f = absurd (f x refl)

-- where a formula begins, nothing stands that begins none
pub opening-lacks : {literal : Literal} {mark : Spelling} → IsLiteral literal mark → ((tokens rest : List Terminal) → mark tokens rest → opens_formula tokens ≡ false)
    → (tokens : List Terminal) → opens_formula tokens ≡ true → literal tokens ≡ None
opening-lacks {literal = literal} l shut tokens e =
    is-none (literal tokens) (λ rest p. differ (opens_formula tokens) e (shut tokens rest (l.takes tokens rest p)))
  where
    differ : (b : Bool) → b ≡ true → b ≡ false → ⊥
    differ b e f = cc

other_law-other : (l : PlainLaw) (tokens rest : List Terminal) → other_law l tokens rest → word_at (codes "noconcurrency") tokens ≡ None
other_law-other l tokens rest (inl p) = opening-lacks (word-literal (codes "noconcurrency")) (λ more after w. ap opens_formula w) tokens (acting-opens l tokens rest p)
other_law-other l tokens rest (inr p) = worded-other l tokens rest p

-- ---- laws with their tests

abbrev pub ends_test : List Terminal → Bool
ends_test rest = ends_law rest && lacks (word_at (codes "where")) rest

-- a law with its test, among the parts
abbrev pub tested_part : PlainPart → Spelling
tested_part (Law l test) = tested_law l test
tested_part p = never

abbrev some_test : PlainPart → Spelling
some_test =
    by_choice (word_at (codes "noconcurrency")) (word (codes "noconcurrency")) (nothing_for (Law NoConcurrency None))
    (paired_by Law other_law (optional formula (codes "where")))

pub tested_law-reader : IsReader tested_law_at tested_part ends_test
unfolding tested_law_at
tested_law-reader =
    respelled
    (choice (word-literal (codes "noconcurrency")) (part_stopped (nothing (Law NoConcurrency None)) (λ rest s. refl))
    (pair Law law-reader (part_stopped (option (codes "where") formula-reader) test-where) before_test))
    to from
  where
    test-law : (rest : List Terminal) → ends_test rest ≡ true → ends_law rest ≡ true
    test-law rest s = (and_parts (ends_law rest) (lacks (word_at (codes "where")) rest) s).0

    test-where : (rest : List Terminal) → ends_test rest ≡ true → (ends_formula rest && lacks (word_at (codes "where")) rest) ≡ true
    test-where rest s =
        let both = and_parts (ends_law rest) (lacks (word_at (codes "where")) rest) s in
        both_true (law-formula rest both.0) both.1

    before_test : (test : Option PlainTree) (tokens rest : List Terminal) → optional formula (codes "where") test tokens rest → ends_test rest ≡ true → ends_law tokens ≡ true
    before_test test tokens rest p s = ends-before ends_law (codes "where") (λ more. refl) test tokens rest p (test-law rest s)

    to_tested : (l : PlainLaw) (test : Option PlainTree) (tokens rest : List Terminal) → (other_law l ▸ optional formula (codes "where") test) tokens rest → tested_law l test tokens rest
    to_tested (Causes a f g) test tokens rest (b, inl p, q) = (b, p, q)
    to_tested (MayCause a f g) test tokens rest (b, inl p, q) = (b, p, q)
    to_tested (Caused f g h) test tokens rest (b, inl p, q) = absurd p
    to_tested (Constraint f) test tokens rest (b, inl p, q) = absurd p
    to_tested (Always f) test tokens rest (b, inl p, q) = absurd p
    to_tested (Nonexecutable f g) test tokens rest (b, inl p, q) = absurd p
    to_tested (Default f g h) test tokens rest (b, inl p, q) = absurd p
    to_tested (Exogenous c) test tokens rest (b, inl p, q) = absurd p
    to_tested (Inertial c) test tokens rest (b, inl p, q) = absurd p
    to_tested NoConcurrency test tokens rest (b, inl p, q) = absurd p
    to_tested (Causes a f g) test tokens rest (b, inr p, q) = absurd p
    to_tested (MayCause a f g) test tokens rest (b, inr p, q) = absurd p
    to_tested (Caused f g h) test tokens rest (b, inr p, q) = (b, p, q)
    to_tested (Constraint f) test tokens rest (b, inr p, q) = (b, p, q)
    to_tested (Always f) test tokens rest (b, inr p, q) = (b, p, q)
    to_tested (Nonexecutable f g) test tokens rest (b, inr p, q) = (b, p, q)
    to_tested (Default f g h) test tokens rest (b, inr p, q) = (b, p, q)
    to_tested (Exogenous c) test tokens rest (b, inr p, q) = (b, p, q)
    to_tested (Inertial c) test tokens rest (b, inr p, q) = (b, p, q)
    to_tested NoConcurrency test tokens rest (b, inr p, q) = absurd p

    to : (p : PlainPart) (tokens rest : List Terminal) → some_test p tokens rest → tested_part p tokens rest
    to part tokens rest (inl (b, w, (e, q))) = subst (λ (z : PlainPart). tested_part z tokens rest) e (b, w, q)
    to part tokens rest (inr (none, (l, test, e, q))) = subst (λ (z : PlainPart). tested_part z tokens rest) e (to_tested l test tokens rest q)

    other : (l : PlainLaw) (test : Option PlainTree) (tokens b rest : List Terminal) → other_law l tokens b → optional formula (codes "where") test b rest → some_test (Law l test) tokens rest
    other l test tokens b rest p q = inr (other_law-other l tokens b p, (l, test, refl, (b, p, q)))

    from : (p : PlainPart) (tokens rest : List Terminal) → tested_part p tokens rest → some_test p tokens rest
    from (Law NoConcurrency None) tokens rest (b, w, q) = inl (b, w, (refl, q))
    from (Law NoConcurrency (Some test)) tokens rest p = absurd p
    from (Law (Causes a f g) test) tokens rest p = other (Causes a f g) test tokens p.0 rest (inl p.1) p.2
    from (Law (MayCause a f g) test) tokens rest p = other (MayCause a f g) test tokens p.0 rest (inl p.1) p.2
    from (Law (Caused f g h) test) tokens rest p = other (Caused f g h) test tokens p.0 rest (inr p.1) p.2
    from (Law (Constraint f) test) tokens rest p = other (Constraint f) test tokens p.0 rest (inr p.1) p.2
    from (Law (Always f) test) tokens rest p = other (Always f) test tokens p.0 rest (inr p.1) p.2
    from (Law (Nonexecutable f g) test) tokens rest p = other (Nonexecutable f g) test tokens p.0 rest (inr p.1) p.2
    from (Law (Default f g h) test) tokens rest p = other (Default f g h) test tokens p.0 rest (inr p.1) p.2
    from (Law (Exogenous c) test) tokens rest p = other (Exogenous c) test tokens p.0 rest (inr p.1) p.2
    from (Law (Inertial c) test) tokens rest p = other (Inertial c) test tokens p.0 rest (inr p.1) p.2
    from (trees.Sorts list) tokens rest p = absurd p
    from (trees.Objects list) tokens rest p = absurd p
    from (trees.Variables list) tokens rest p = absurd p
    from (trees.Constants list) tokens rest p = absurd p
    from (trees.Query list) tokens rest p = absurd p
    from (trees.Include file) tokens rest p = absurd p
