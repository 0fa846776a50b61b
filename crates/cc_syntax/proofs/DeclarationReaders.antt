-- The readers of declarations.
use Rattle.std.proofs.Common.{◌≡◌, ℕ, ◌<◌, Bool, true, ◌&&◌, List, [], ◌∷◌, length, Option, Some, None, refl, ap, subst, ◌∙◌, arith, inl, inr}
use Rattle.std.specs.Prelude.{codes}
use Rattle.std.proofs.lemmas.Bool.{and_parts}
use Rattle.cc_defs.specs.declared.token.Mark.TheVariants as marks
use Rattle.cc_defs.specs.declared.tree.KindWord.{KindWord}
use Rattle.cc_defs.specs.declared.tree.KindWord.TheVariants as kind_words
use Rattle.cc_defs.specs.Trees.{PlainShape, PlainSortItem, Names, Chain, PlainMember, Name, Numbers, PlainObjItem, PlainListItem, PlainKind, Plain, Attribute, PlainConstItem}
use Rattle.cc_defs.specs.Grammar.{Terminal, Spelling, ◌▸◌, sign, word, name, numeral, in_parentheses, chained, listed, sort_item, member, obj_item, list_item, sorts_of, shape, kind_word, kind, const_item}
use Rattle.cc_syntax.specs.Readers.{given, ◌>>=◌, name_at, numeral_at, sign_at, word_at, listed_at, paired}
use Rattle.cc_syntax.specs.Declarations.{names_at, sort_item_at, numbers_at, member_at, obj_item_of, obj_item_at, list_item_of, list_item_at, shape_of, sorts_at, shape_at, kind_word_at, sort_at, attribute_at, kind_at, const_item_of, const_item_at}
use Rattle.cc_syntax.proofs.IsReader.{IsReader, anywhere}
use Rattle.cc_syntax.proofs.Singles.{bind_some, given_cases, some-is, sign-literal, word-literal, name-reader, numeral-reader}
use Rattle.cc_syntax.proofs.Combined.{IsPart, as_part, respelled, part_respelled, lacks, lacks-none, regroup, group, behind, before, made_by, made, paired_by, pair, by_choice, choice, nothing_for, nothing, or_nothing, or_else, none_for, refusing, items, parenthesized}

-- ---- sorts

names-reader : IsReader names_at (listed name marks.Comma) (lacks (sign_at marks.Comma))
names-reader = items marks.Comma name-reader (λ rest. refl)

chain-reader : IsReader (listed_at name_at marks.Above) (listed name marks.Above) (lacks (sign_at marks.Above))
chain-reader = items marks.Above name-reader (λ rest. refl)

abbrev pub ends_sorts : List Terminal → Bool
ends_sorts rest = lacks (sign_at marks.Above) rest && lacks (sign_at marks.Comma) rest

sort_item_takes : (tokens : List Terminal) (read : PlainSortItem × List Terminal) → sort_item_at tokens ≡ Some read → sort_item read.0 tokens read.1
unfolding sort_item_at
sort_item_takes tokens read e =
    let first = bind_some (name_at tokens) (λ first. given (sign_at marks.Above first.1) (names_at tokens >>= λ names. Some (Names names.0, names.1)) (λ rest. listed_at name_at marks.Above rest >>= λ names. Some (Chain (first.0 ∷ names.0), names.1))) read e in
    elim (given_cases (sign_at marks.Above first.0.1) (names_at tokens >>= λ names. Some (Names names.0, names.1)) (λ rest. listed_at name_at marks.Above rest >>= λ names. Some (Chain (first.0.0 ∷ names.0), names.1)) (Some read) first.2) [
      | inl p ↦
          let q = bind_some (listed_at name_at marks.Above p.0) (λ names. Some (Chain (first.0.0 ∷ names.0), names.1)) read p.2 in
          subst (λ (z : PlainSortItem × List Terminal). sort_item z.0 tokens z.1) (some-is (Chain (first.0.0 ∷ q.0.0), q.0.1) read q.2)
          (first.0.1, name-reader.takes tokens first.0 first.1, (p.0, (sign-literal marks.Above).takes first.0.1 p.0 p.1, chain-reader.takes p.0 q.0 q.1))
      | inr p ↦
          let q = bind_some (names_at tokens) (λ names. Some (Names names.0, names.1)) read p.1 in
          subst (λ (z : PlainSortItem × List Terminal). sort_item z.0 tokens z.1) (some-is (Names q.0.0, q.0.1) read q.2) (names-reader.takes tokens q.0 q.1)
    ]

-- behind the first of names stands no `>>`
first_name : (x : List ℕ) (xs : List (List ℕ)) (tokens rest : List Terminal) → chained name marks.Comma x xs tokens rest → sign_at marks.Above rest ≡ None
    → (after : List Terminal) × (name_at tokens ≡ Some (x, after)) × (sign_at marks.Above after ≡ None)
first_name x [] tokens rest p none = (rest, name-reader.again x tokens rest p refl, none)
first_name x (y ∷ ys) tokens rest p none = (p.0, name-reader.again x tokens p.0 p.1 refl, ap (sign_at marks.Above) p.2.1)

sort_item_again : (item : PlainSortItem) (tokens rest : List Terminal) → sort_item item tokens rest → ends_sorts rest ≡ true → sort_item_at tokens ≡ Some (item, rest)
unfolding sort_item_at
sort_item_again (Names []) tokens rest p s = absurd p
sort_item_again (Names (x ∷ xs)) tokens rest p s =
    let ends = and_parts (lacks (sign_at marks.Above) rest) (lacks (sign_at marks.Comma) rest) s in
    let first = first_name x xs tokens rest p (lacks-none (sign_at marks.Above) rest ends.0) in
    let named : name_at tokens ≡ Some (x, first.0) = first.1 in
    let none : sign_at marks.Above first.0 ≡ None = first.2 in
    let whole : names_at tokens ≡ Some (x ∷ xs, rest) = names-reader.again (x ∷ xs) tokens rest p ends.1 in
    rw (named, none, whole) refl
sort_item_again (Chain []) tokens rest p s = absurd p
sort_item_again (Chain (x ∷ xs)) tokens rest p s =
    let ends = and_parts (lacks (sign_at marks.Above) rest) (lacks (sign_at marks.Comma) rest) s in
    let named : name_at tokens ≡ Some (x, p.0) = name-reader.again x tokens p.0 p.1 refl in
    let above : sign_at marks.Above p.0 ≡ Some p.2.0 = (sign-literal marks.Above).again p.0 p.2.0 p.2.1 in
    let whole : listed_at name_at marks.Above p.2.0 ≡ Some (xs, rest) = chain-reader.again xs p.2.0 rest p.2.2 ends.0 in
    rw (named, above, whole) refl

sort_item_shorter : (item : PlainSortItem) (tokens rest : List Terminal) → sort_item item tokens rest → length rest < length tokens
sort_item_shorter (Names names) tokens rest p = names-reader.shorter names tokens rest p
sort_item_shorter (Chain []) tokens rest p = absurd p
sort_item_shorter (Chain (x ∷ xs)) tokens rest p =
    let a = name-reader.shorter x tokens p.0 p.1 in
    let b = (sign-literal marks.Above).shorter p.0 p.2.0 p.2.1 in
    let c = chain-reader.shorter xs p.2.0 rest p.2.2 in
    omega arith

pub sort_item-reader : IsReader sort_item_at sort_item ends_sorts
sort_item-reader = record { takes = sort_item_takes; again = sort_item_again; shorter = sort_item_shorter }

-- ---- objects

-- a member may end where no `..` follows
abbrev pub ends_member : List Terminal → Bool
ends_member rest = lacks (sign_at marks.DotDot) rest

-- behind the number that was read
abbrev numbers_of : ℕ → PlainMember → Spelling
numbers_of low = or_nothing (sign marks.DotDot) (Numbers low low) (made_by (λ high. Numbers low high) numeral)

numbers-part : (low : ℕ) → IsPart (numbers_at low) (numbers_of low) ends_member
numbers-part low = or_else (Numbers low low) (sign-literal marks.DotDot) (as_part (made (λ high. Numbers low high) numeral-reader))

member_takes : (tokens : List Terminal) (read : PlainMember × List Terminal) → member_at tokens ≡ Some read → member read.0 tokens read.1
unfolding member_at
member_takes tokens read e =
    elim (given_cases (numeral_at tokens) _ _ _ e) [
      | inl low ↦ as_numbers low.0.0 tokens low.0.1 read.0 read.1 (numeral-reader.takes tokens low.0 low.1) ((numbers-part low.0.0).takes low.0.1 read low.2)
      | inr named ↦
          let text = bind_some (name_at tokens) (λ text. Some (Name text.0, text.1)) read named.1 in
          subst (λ (r : PlainMember × List Terminal). member r.0 tokens r.1) (some-is (Name text.0.0, text.0.1) read text.2) (name-reader.takes tokens text.0 text.1)
    ]
  where
    as_numbers : (low : ℕ) (tokens between : List Terminal) (m : PlainMember) (rest : List Terminal) → numeral low tokens between → numbers_of low m between rest → member m tokens rest
    as_numbers low tokens between m rest n (inl p) = subst (λ (z : PlainMember). member z tokens rest) p.2.1 (inr (between, n, (p.0, p.1, p.2.2)))
    as_numbers low tokens between m rest n (inr p) =
        let ends : numeral low tokens rest = subst (λ (l : List Terminal). numeral low tokens l) p.1 n in
        subst (λ (z : PlainMember). member z tokens rest) p.0 (inl (refl, ends))

member_again : (m : PlainMember) (tokens rest : List Terminal) → member m tokens rest → ends_member rest ≡ true → member_at tokens ≡ Some (m, rest)
unfolding member_at
member_again (Name text) tokens rest p s =
    let none : numeral_at tokens ≡ None = ap numeral_at p.1 in
    let named : name_at tokens ≡ Some (text, rest) = name-reader.again text tokens rest p refl in
    rw (none, named) refl
member_again (Numbers low high) tokens rest (inl p) s =
    let read : numeral_at tokens ≡ Some (low, rest) = numeral-reader.again low tokens rest p.1 refl in
    let more : numbers_at low rest ≡ Some (Numbers low low, rest) = (numbers-part low).again (Numbers low low) rest rest (inr (refl, refl)) s in
    rw read (more ∙ ap (λ (n : ℕ). Some (Numbers low n, rest)) p.0)
member_again (Numbers low high) tokens rest (inr p) s =
    let read : numeral_at tokens ≡ Some (low, p.0) = numeral-reader.again low tokens p.0 p.1 refl in
    let more : numbers_at low p.0 ≡ Some (Numbers low high, rest) =
    (numbers-part low).again (Numbers low high) p.0 rest (inl (p.2.0, p.2.1, (high, refl, p.2.2))) s in
    rw read more

member_shorter : (m : PlainMember) (tokens rest : List Terminal) → member m tokens rest → length rest < length tokens
member_shorter (Name text) tokens rest p = name-reader.shorter text tokens rest p
member_shorter (Numbers low high) tokens rest (inl p) = numeral-reader.shorter low tokens rest p.1
member_shorter (Numbers low high) tokens rest (inr p) =
    let a = numeral-reader.shorter low tokens p.0 p.1 in
    let b = (sign-literal marks.DotDot).shorter p.0 p.2.0 p.2.1 in
    let c = numeral-reader.shorter high p.2.0 rest p.2.2 in
    omega arith

pub member-reader : IsReader member_at member ends_member
member-reader = record { takes = member_takes; again = member_again; shorter = member_shorter }

abbrev ends_members : List Terminal → Bool
ends_members rest = ends_member rest && lacks (sign_at marks.Comma) rest

members-reader : IsReader (listed_at member_at marks.Comma) (listed member marks.Comma) ends_members
members-reader = items marks.Comma member-reader (λ rest. refl)

pub obj_item-reader : IsReader obj_item_at obj_item anywhere
unfolding obj_item_at
obj_item-reader =
    respelled (pair obj_item_of (before (as_part members-reader) (sign-literal marks.DoubleColon) (λ tokens rest p. ap ends_members p)) (as_part name-reader) (λ y tokens rest p s. refl)) to from
  where
    to : (item : PlainObjItem) (tokens rest : List Terminal) → paired_by obj_item_of (λ members. listed member marks.Comma members ▸ sign marks.DoubleColon) name item tokens rest → obj_item item tokens rest
    to item tokens rest p = subst (λ (z : PlainObjItem). obj_item z tokens rest) p.2 (regroup (listed member marks.Comma p.0) (sign marks.DoubleColon) (name p.1) tokens rest p.3)

    from : (item : PlainObjItem) (tokens rest : List Terminal) → obj_item item tokens rest → paired_by obj_item_of (λ members. listed member marks.Comma members ▸ sign marks.DoubleColon) name item tokens rest
    from item tokens rest p = (item.members, item.sort, refl, group (listed member marks.Comma item.members) (sign marks.DoubleColon) (name item.sort) tokens rest p)

-- ---- variables

pub list_item-reader : IsReader list_item_at list_item anywhere
unfolding list_item_at
list_item-reader =
    respelled (pair list_item_of (before (as_part names-reader) (sign-literal marks.DoubleColon) (λ tokens rest p. ap (lacks (sign_at marks.Comma)) p)) (as_part name-reader) (λ y tokens rest p s. refl)) to from
  where
    to : (item : PlainListItem) (tokens rest : List Terminal) → paired_by list_item_of (λ names. listed name marks.Comma names ▸ sign marks.DoubleColon) name item tokens rest → list_item item tokens rest
    to item tokens rest p = subst (λ (z : PlainListItem). list_item z tokens rest) p.2 (regroup (listed name marks.Comma p.0) (sign marks.DoubleColon) (name p.1) tokens rest p.3)

    from : (item : PlainListItem) (tokens rest : List Terminal) → list_item item tokens rest → paired_by list_item_of (λ names. listed name marks.Comma names ▸ sign marks.DoubleColon) name item tokens rest
    from item tokens rest p = (item.names, item.sort, refl, group (listed name marks.Comma item.names) (sign marks.DoubleColon) (name item.sort) tokens rest p)

-- ---- constants

-- no bracket goes on with it
abbrev pub ends_shape : List Terminal → Bool
ends_shape rest = lacks (sign_at marks.LeftParen) rest

sorts-part : IsPart sorts_at sorts_of ends_shape
sorts-part = part_respelled (or_else [] (sign-literal marks.LeftParen) (as_part (before (as_part names-reader) (sign-literal marks.RightParen) (λ tokens rest p. ap (lacks (sign_at marks.Comma)) p)))) to from
  where
    to : (sorts : List (List ℕ)) (tokens rest : List Terminal) → or_nothing (sign marks.LeftParen) [] (λ names. listed name marks.Comma names ▸ sign marks.RightParen) sorts tokens rest → sorts_of sorts tokens rest
    to [] tokens rest (inl p) = absurd p.2.1
    to (x ∷ xs) tokens rest (inl p) = p
    to [] tokens rest (inr p) = p.1
    to (x ∷ xs) tokens rest (inr p) = let e = p.0 in absurd cc

    from : (sorts : List (List ℕ)) (tokens rest : List Terminal) → sorts_of sorts tokens rest → or_nothing (sign marks.LeftParen) [] (λ names. listed name marks.Comma names ▸ sign marks.RightParen) sorts tokens rest
    from [] tokens rest p = inr (refl, p)
    from (x ∷ xs) tokens rest p = inl p

pub shape-reader : IsReader shape_at shape ends_shape
unfolding shape_at
shape-reader = respelled (pair shape_of name-reader sorts-part (λ y tokens rest p s. refl)) to from
  where
    to : (s : PlainShape) (tokens rest : List Terminal) → paired_by shape_of name sorts_of s tokens rest → shape s tokens rest
    to s tokens rest p = subst (λ (z : PlainShape). shape z tokens rest) p.2 p.3

    from : (s : PlainShape) (tokens rest : List Terminal) → shape s tokens rest → paired_by shape_of name sorts_of s tokens rest
    from s tokens rest p = (s.name, s.sorts, refl, p)

abbrev some_kind_word : KindWord → Spelling
some_kind_word k =
    by_choice (word_at (codes "simpleFluent")) (word (codes "simpleFluent")) (nothing_for kind_words.Simple)
    (by_choice (word_at (codes "inertialFluent")) (word (codes "inertialFluent")) (nothing_for kind_words.Inertial)
    (by_choice (word_at (codes "sdFluent")) (word (codes "sdFluent")) (nothing_for kind_words.Determined)
    (by_choice (word_at (codes "rigid")) (word (codes "rigid")) (nothing_for kind_words.Rigid)
    (by_choice (word_at (codes "action")) (word (codes "action")) (nothing_for kind_words.Action)
    (by_choice (word_at (codes "exogenousAction")) (word (codes "exogenousAction")) (nothing_for kind_words.ExogenousAction) none_for))))) k

is_word_of : (one k : KindWord) (tokens rest : List Terminal) → (word (kind_word one) ▸ nothing_for one k) tokens rest → word (kind_word k) tokens rest
is_word_of one k tokens rest p =
    let ends : word (kind_word one) tokens rest = subst (λ (l : List Terminal). word (kind_word one) tokens l) p.2.1 p.1 in
    subst (λ (z : KindWord). word (kind_word z) tokens rest) p.2.0 ends

kind_word-reader : IsReader kind_word_at (λ k. word (kind_word k)) anywhere
kind_word-reader =
    respelled
    (choice (word-literal (codes "simpleFluent")) (nothing kind_words.Simple)
    (choice (word-literal (codes "inertialFluent")) (nothing kind_words.Inertial)
    (choice (word-literal (codes "sdFluent")) (nothing kind_words.Determined)
    (choice (word-literal (codes "rigid")) (nothing kind_words.Rigid)
    (choice (word-literal (codes "action")) (nothing kind_words.Action)
    (choice (word-literal (codes "exogenousAction")) (nothing kind_words.ExogenousAction) refusing))))))
    to from
  where
    to : (k : KindWord) (tokens rest : List Terminal) → some_kind_word k tokens rest → word (kind_word k) tokens rest
    to k tokens rest (inl p) = is_word_of kind_words.Simple k tokens rest p
    to k tokens rest (inr (e, inl p)) = is_word_of kind_words.Inertial k tokens rest p
    to k tokens rest (inr (e, inr (f, inl p))) = is_word_of kind_words.Determined k tokens rest p
    to k tokens rest (inr (e, inr (f, inr (g, inl p)))) = is_word_of kind_words.Rigid k tokens rest p
    to k tokens rest (inr (e, inr (f, inr (g, inr (h, inl p))))) = is_word_of kind_words.Action k tokens rest p
    to k tokens rest (inr (e, inr (f, inr (g, inr (h, inr (i, inl p)))))) = is_word_of kind_words.ExogenousAction k tokens rest p
    to k tokens rest (inr (e, inr (f, inr (g, inr (h, inr (i, inr (j, p))))))) = absurd p

    from : (k : KindWord) (tokens rest : List Terminal) → word (kind_word k) tokens rest → some_kind_word k tokens rest
    from kind_words.Simple tokens rest p = inl (rest, p, (refl, refl))
    from kind_words.Inertial tokens rest p = inr (ap (word_at (codes "simpleFluent")) p, inl (rest, p, (refl, refl)))
    from kind_words.Determined tokens rest p = inr (ap (word_at (codes "simpleFluent")) p, inr (ap (word_at (codes "inertialFluent")) p, inl (rest, p, (refl, refl))))
    from kind_words.Rigid tokens rest p = inr (ap (word_at (codes "simpleFluent")) p, inr (ap (word_at (codes "inertialFluent")) p, inr (ap (word_at (codes "sdFluent")) p, inl (rest, p, (refl, refl)))))
    from kind_words.Action tokens rest p = inr (ap (word_at (codes "simpleFluent")) p, inr (ap (word_at (codes "inertialFluent")) p, inr (ap (word_at (codes "sdFluent")) p, inr (ap (word_at (codes "rigid")) p, inl (rest, p, (refl, refl))))))
    from kind_words.ExogenousAction tokens rest p = inr (ap (word_at (codes "simpleFluent")) p, inr (ap (word_at (codes "inertialFluent")) p, inr (ap (word_at (codes "sdFluent")) p, inr (ap (word_at (codes "rigid")) p, inr (ap (word_at (codes "action")) p, inl (rest, p, (refl, refl)))))))

-- a sort in brackets, or nothing
abbrev sort_of : Option (List ℕ) → Spelling
sort_of None tokens rest = tokens ≡ rest
sort_of (Some sort) tokens rest = in_parentheses (name sort) tokens rest

sort-part : IsPart sort_at sort_of ends_shape
sort-part = part_respelled (or_else None (sign-literal marks.LeftParen) (as_part (made (λ sort. Some sort) (before (as_part name-reader) (sign-literal marks.RightParen) (λ tokens rest p. refl))))) to from
  where
    to : (sort : Option (List ℕ)) (tokens rest : List Terminal) → or_nothing (sign marks.LeftParen) None (made_by (λ sort. Some sort) (λ sort. name sort ▸ sign marks.RightParen)) sort tokens rest → sort_of sort tokens rest
    to sort tokens rest (inl p) = subst (λ (z : Option (List ℕ)). sort_of z tokens rest) p.2.1 (p.0, p.1, p.2.2)
    to sort tokens rest (inr p) = subst (λ (z : Option (List ℕ)). sort_of z tokens rest) p.0 p.1

    from : (sort : Option (List ℕ)) (tokens rest : List Terminal) → sort_of sort tokens rest → or_nothing (sign marks.LeftParen) None (made_by (λ sort. Some sort) (λ sort. name sort ▸ sign marks.RightParen)) sort tokens rest
    from None tokens rest p = inr (refl, p)
    from (Some sort) tokens rest p = inl (p.0, p.1, (sort, refl, p.2))

attribute-reader : IsReader attribute_at (paired_by Attribute (λ sort. in_parentheses (name sort)) (λ action. word (codes "of") ▸ shape action)) ends_shape
unfolding attribute_at
attribute-reader = pair Attribute (parenthesized name-reader (λ rest. refl)) (as_part (behind (word-literal (codes "of")) (as_part shape-reader))) (λ y tokens rest p s. refl)

plain-reader : IsReader (paired Plain kind_word_at sort_at) (paired_by Plain (λ k. word (kind_word k)) sort_of) ends_shape
plain-reader = pair Plain kind_word-reader sort-part (λ y tokens rest p s. refl)

not_attribute : (k : KindWord) (tokens rest : List Terminal) → word (kind_word k) tokens rest → word_at (codes "attribute") tokens ≡ None
not_attribute kind_words.Simple tokens rest p = ap (word_at (codes "attribute")) p
not_attribute kind_words.Inertial tokens rest p = ap (word_at (codes "attribute")) p
not_attribute kind_words.Determined tokens rest p = ap (word_at (codes "attribute")) p
not_attribute kind_words.Rigid tokens rest p = ap (word_at (codes "attribute")) p
not_attribute kind_words.Action tokens rest p = ap (word_at (codes "attribute")) p
not_attribute kind_words.ExogenousAction tokens rest p = ap (word_at (codes "attribute")) p

plain_kind : (k : KindWord) (sort : Option (List ℕ)) (tokens rest : List Terminal) → (word (kind_word k) ▸ sort_of sort) tokens rest → kind (Plain k sort) tokens rest
plain_kind k None tokens rest p = subst (λ (l : List Terminal). word (kind_word k) tokens l) p.2 p.1
plain_kind k (Some sort) tokens rest p = p

abbrev some_kind : PlainKind → Spelling
some_kind =
    by_choice (word_at (codes "attribute")) (word (codes "attribute")) (paired_by Attribute (λ sort. in_parentheses (name sort)) (λ action. word (codes "of") ▸ shape action))
    (paired_by Plain (λ k. word (kind_word k)) sort_of)

pub kind-reader : IsReader kind_at kind ends_shape
unfolding kind_at
kind-reader = respelled (choice (word-literal (codes "attribute")) (as_part attribute-reader) plain-reader) to from
  where
    to : (k : PlainKind) (tokens rest : List Terminal) → some_kind k tokens rest → kind k tokens rest
    to k tokens rest (inl p) = subst (λ (z : PlainKind). kind z tokens rest) p.2.2 (p.0, p.1, p.2.3)
    to k tokens rest (inr p) = subst (λ (z : PlainKind). kind z tokens rest) p.1.2 (plain_kind p.1.0 p.1.1 tokens rest p.1.3)

    from : (k : PlainKind) (tokens rest : List Terminal) → kind k tokens rest → some_kind k tokens rest
    from (Attribute sort action) tokens rest p = inl (p.0, p.1, (sort, action, refl, p.2))
    from (Plain k None) tokens rest p = inr (not_attribute k tokens rest p, (k, None, refl, (rest, p, refl)))
    from (Plain k (Some sort)) tokens rest p = inr (not_attribute k tokens p.0 p.1, (k, Some sort, refl, p))

shapes-reader : IsReader (listed_at shape_at marks.Comma) (listed shape marks.Comma) (λ rest. ends_shape rest && lacks (sign_at marks.Comma) rest)
shapes-reader = items marks.Comma shape-reader (λ rest. refl)

pub const_item-reader : IsReader const_item_at const_item ends_shape
unfolding const_item_at
const_item-reader =
    respelled (pair const_item_of (before (as_part shapes-reader) (sign-literal marks.DoubleColon) (λ tokens rest p. ap (λ l. ends_shape l && lacks (sign_at marks.Comma) l) p)) (as_part kind-reader) (λ y tokens rest p s. refl)) to from
  where
    to : (item : PlainConstItem) (tokens rest : List Terminal) → paired_by const_item_of (λ shapes. listed shape marks.Comma shapes ▸ sign marks.DoubleColon) kind item tokens rest → const_item item tokens rest
    to item tokens rest p = subst (λ (z : PlainConstItem). const_item z tokens rest) p.2 (regroup (listed shape marks.Comma p.0) (sign marks.DoubleColon) (kind p.1) tokens rest p.3)

    from : (item : PlainConstItem) (tokens rest : List Terminal) → const_item item tokens rest → paired_by const_item_of (λ shapes. listed shape marks.Comma shapes ▸ sign marks.DoubleColon) kind item tokens rest
    from item tokens rest p = (item.shapes, item.kind, refl, group (listed shape marks.Comma item.shapes) (sign marks.DoubleColon) (kind item.kind) tokens rest p)
