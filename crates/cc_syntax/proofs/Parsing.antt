-- The reader of statements.
use Rattle.std.proofs.Common.{◌≡◌, ℕ, Bool, true, ◌&&◌, List, [], ◌∷◌, Option, Some, None, is_some, refl, sym, ap, subst, ◌∙◌, inl, inr}
use Rattle.std.specs.Prelude.{codes}
use Rattle.cc_defs.specs.declared.token.Mark.TheVariants as marks
use Rattle.cc_defs.specs.Tokens.{TokenView}
use Rattle.cc_defs.specs.Trees.{PlainTree, PlainLaw, PlainPart, PlainStatement, Sorts, Objects, Variables, Constants, Query, Include, Law, Caused, Constraint, Always, Nonexecutable, Default, Exogenous, Inertial, Causes, MayCause, NoConcurrency}
use Rattle.cc_defs.specs.Grammar.{Terminal, Word, Quoted, Sign, Spelling, ◌▸◌, sign, word, listed, terminals, sort_item, obj_item, list_item, const_item, query_item, tested_law, directive, part}
use Rattle.cc_syntax.specs.Views.{AreReadable}
use Rattle.cc_syntax.specs.Readers.{Reader, ◌>>=◌, sign_at, word_at, ◌◁◌}
use Rattle.cc_syntax.specs.Laws.{opens_formula}
use Rattle.cc_syntax.specs.Parsing.{items_at, include_at, directive_at, part_at, nothing_left, statement_at, OneTree}
use Rattle.cc_syntax.proofs.IsReader.{IsReader, anywhere}
use Rattle.cc_syntax.proofs.Singles.{bind_some, some-is, sign-literal, word-literal}
use Rattle.cc_syntax.proofs.Combined.{as_part, respelled, stopped, lacks, before, made_by, made, by_choice, choice, none_for, refusing, items}
use Rattle.cc_syntax.proofs.DeclarationReaders.{sort_item-reader, obj_item-reader, list_item-reader, const_item-reader}
use Rattle.cc_syntax.proofs.QueryReaders.{query_item-reader}
use Rattle.cc_syntax.proofs.LawReaders.{formula-opens, tested_part, tested_law-reader, opening-lacks}
use Rattle.cc_syntax.proofs.QuotedNames.{in_quotes, unquoted-is, quoted-among, quoted_token, quoted-reader}

-- ---- the dot

-- a part ends before the dot
abbrev pub at_dot : List Terminal → Bool
at_dot rest = is_some (sign_at marks.Dot rest)

some-of : {A : Type 0} (o : Option A) → is_some o ≡ true → (x : A) × (o ≡ Some x)
some-of None e = absurd cc
some-of (Some x) e = (x, refl)

-- what ends before a dot ends there
ends-there : (stops : List Terminal → Bool) → ((rest : List Terminal) → stops (Sign marks.Dot ∷ rest) ≡ true) → (rest : List Terminal) → at_dot rest ≡ true → stops rest ≡ true
ends-there stops ends rest e =
    let dot = some-of (sign_at marks.Dot rest) e in
    ap stops ((sign-literal marks.Dot).takes rest dot.0 dot.1) ∙ ends dot.0

-- ---- directives

listed-reader : {X : Type 0} {item : Reader X} {spelling : X → Spelling} {stops : List Terminal → Bool} (make : List X → PlainPart) → IsReader item spelling stops
    → ((rest : List Terminal) → stops (Sign marks.Semicolon ∷ rest) ≡ true) → ((rest : List Terminal) → stops (Sign marks.Dot ∷ rest) ≡ true)
    → IsReader (items_at make item) (made_by make (listed spelling marks.Semicolon)) at_dot
listed-reader {X = X} {stops = stops} make r goes_on ends =
    stopped (made make (items marks.Semicolon r goes_on))
    (ends-there (λ rest. stops rest && lacks (sign_at marks.Semicolon) rest) (λ rest. let e : stops (Sign marks.Dot ∷ rest) ≡ true = ends rest in rw e refl))

include-reader : IsReader include_at (made_by Include quoted_token) at_dot
include-reader = stopped (made Include quoted-reader) (λ rest s. refl)

-- the parts as they are read: what the quotes of a token are is left open
abbrev read_part : PlainPart → Spelling
read_part (Include file) = directive (codes "include") (quoted_token file)
read_part (Sorts list) = part (Sorts list)
read_part (Objects list) = part (Objects list)
read_part (Variables list) = part (Variables list)
read_part (Constants list) = part (Constants list)
read_part (Query list) = part (Query list)
read_part (Law l test) = part (Law l test)

abbrev some_directive : PlainPart → Spelling
some_directive =
    by_choice (word_at (codes "sorts")) (word (codes "sorts")) (made_by Sorts (listed sort_item marks.Semicolon))
    (by_choice (word_at (codes "objects")) (word (codes "objects")) (made_by Objects (listed obj_item marks.Semicolon))
    (by_choice (word_at (codes "variables")) (word (codes "variables")) (made_by Variables (listed list_item marks.Semicolon))
    (by_choice (word_at (codes "constants")) (word (codes "constants")) (made_by Constants (listed const_item marks.Semicolon))
    (by_choice (word_at (codes "query")) (word (codes "query")) (made_by Query (listed query_item marks.Semicolon))
    (by_choice (word_at (codes "include")) (word (codes "include")) (made_by Include quoted_token) none_for)))))

directive-reader : IsReader directive_at some_directive at_dot
unfolding directive_at
directive-reader =
    choice (word-literal (codes "sorts")) (as_part (listed-reader Sorts sort_item-reader (λ rest. refl) (λ rest. refl)))
    (choice (word-literal (codes "objects")) (as_part (listed-reader Objects obj_item-reader (λ rest. refl) (λ rest. refl)))
    (choice (word-literal (codes "variables")) (as_part (listed-reader Variables list_item-reader (λ rest. refl) (λ rest. refl)))
    (choice (word-literal (codes "constants")) (as_part (listed-reader Constants const_item-reader (λ rest. refl) (λ rest. refl)))
    (choice (word-literal (codes "query")) (as_part (listed-reader Query query_item-reader (λ rest. refl) (λ rest. refl)))
    (choice (word-literal (codes "include")) (as_part include-reader) refusing)))))

-- ---- laws do not begin with `:-`

opening-turn : (tokens : List Terminal) → opens_formula tokens ≡ true → sign_at marks.Turn tokens ≡ None
opening-turn = opening-lacks (sign-literal marks.Turn) (λ tokens rest t. ap opens_formula t)

law-turn : (l : PlainLaw) (test : Option PlainTree) (tokens rest : List Terminal) → tested_law l test tokens rest → sign_at marks.Turn tokens ≡ None
law-turn (Caused f g h) test tokens rest p = ap (sign_at marks.Turn) p.1.1
law-turn (Constraint f) test tokens rest p = ap (sign_at marks.Turn) p.1.1
law-turn (Always f) test tokens rest p = ap (sign_at marks.Turn) p.1.1
law-turn (Nonexecutable f g) test tokens rest p = ap (sign_at marks.Turn) p.1.1
law-turn (Default f g h) test tokens rest p = ap (sign_at marks.Turn) p.1.1
law-turn (Exogenous c) test tokens rest p = ap (sign_at marks.Turn) p.1.1
law-turn (Inertial c) test tokens rest p = ap (sign_at marks.Turn) p.1.1
law-turn (Causes a f g) test tokens rest p = opening-turn tokens (formula-opens 4 a tokens p.1.0 p.1.1)
law-turn (MayCause a f g) test tokens rest p = opening-turn tokens (formula-opens 4 a tokens p.1.0 p.1.1)
law-turn NoConcurrency None tokens rest p = ap (sign_at marks.Turn) p.1
law-turn NoConcurrency (Some test) tokens rest p = absurd p

-- ---- parts

abbrev some_part : PlainPart → Spelling
some_part = by_choice (sign_at marks.Turn) (sign marks.Turn) some_directive tested_part

pub part-reader : IsReader part_at read_part at_dot
unfolding part_at
part-reader =
    respelled (choice (sign-literal marks.Turn) (as_part directive-reader) (stopped tested_law-reader (ends-there _ (λ rest. refl)))) to from
  where
    to_law : (p : PlainPart) (tokens rest : List Terminal) → tested_part p tokens rest → read_part p tokens rest
    to_law (Law l test) tokens rest p = p
    to_law (Sorts list) tokens rest p = absurd p
    to_law (Objects list) tokens rest p = absurd p
    to_law (Variables list) tokens rest p = absurd p
    to_law (Constants list) tokens rest p = absurd p
    to_law (Query list) tokens rest p = absurd p
    to_law (Include file) tokens rest p = absurd p

    to : (p : PlainPart) (tokens rest : List Terminal) → some_part p tokens rest → read_part p tokens rest
    to p tokens rest (inl (b, t, inl (c, w, (list, e, q)))) = subst (λ (z : PlainPart). read_part z tokens rest) e (b, t, (c, w, q))
    to p tokens rest (inl (b, t, inr (n0, inl (c, w, (list, e, q))))) = subst (λ (z : PlainPart). read_part z tokens rest) e (b, t, (c, w, q))
    to p tokens rest (inl (b, t, inr (n0, inr (n1, inl (c, w, (list, e, q)))))) = subst (λ (z : PlainPart). read_part z tokens rest) e (b, t, (c, w, q))
    to p tokens rest (inl (b, t, inr (n0, inr (n1, inr (n2, inl (c, w, (list, e, q))))))) = subst (λ (z : PlainPart). read_part z tokens rest) e (b, t, (c, w, q))
    to p tokens rest (inl (b, t, inr (n0, inr (n1, inr (n2, inr (n3, inl (c, w, (list, e, q)))))))) = subst (λ (z : PlainPart). read_part z tokens rest) e (b, t, (c, w, q))
    to p tokens rest (inl (b, t, inr (n0, inr (n1, inr (n2, inr (n3, inr (n4, inl (c, w, (file, e, q))))))))) = subst (λ (z : PlainPart). read_part z tokens rest) e (b, t, (c, w, q))
    to p tokens rest (inl (b, t, inr (n0, inr (n1, inr (n2, inr (n3, inr (n4, inr (n5, q)))))))) = absurd q
    to p tokens rest (inr (none, q)) = to_law p tokens rest q

    from : (p : PlainPart) (tokens rest : List Terminal) → read_part p tokens rest → some_part p tokens rest
    from (Sorts list) tokens rest (b, t, (c, w, q)) = inl (b, t, inl (c, w, (list, refl, q)))
    from (Objects list) tokens rest (b, t, (c, w, q)) = inl (b, t, inr (ap (word_at (codes "sorts")) w, inl (c, w, (list, refl, q))))
    from (Variables list) tokens rest (b, t, (c, w, q)) = inl (b, t, inr (ap (word_at (codes "sorts")) w, inr (ap (word_at (codes "objects")) w, inl (c, w, (list, refl, q)))))
    from (Constants list) tokens rest (b, t, (c, w, q)) =
        inl (b, t, inr (ap (word_at (codes "sorts")) w, inr (ap (word_at (codes "objects")) w, inr (ap (word_at (codes "variables")) w, inl (c, w, (list, refl, q))))))
    from (Query list) tokens rest (b, t, (c, w, q)) =
        inl (b, t, inr (ap (word_at (codes "sorts")) w, inr (ap (word_at (codes "objects")) w, inr (ap (word_at (codes "variables")) w, inr (ap (word_at (codes "constants")) w, inl (c, w, (list, refl, q)))))))
    from (Include file) tokens rest (b, t, (c, w, q)) =
        inl (b, t, inr (ap (word_at (codes "sorts")) w, inr (ap (word_at (codes "objects")) w, inr (ap (word_at (codes "variables")) w, inr (ap (word_at (codes "constants")) w, inr (ap (word_at (codes "query")) w, inl (c, w, (file, refl, q))))))))
    from (Law l test) tokens rest p = inr (law-turn l test tokens rest p, p)

-- what the grammar spells is read
read-part : (p : PlainPart) (tokens rest : List Terminal) → part p tokens rest → read_part p tokens rest
read-part (Include file) tokens rest (b, t, (c, w, q)) = (b, t, (c, w, (in_quotes file, q, unquoted-is file)))
read-part (Sorts list) tokens rest p = p
read-part (Objects list) tokens rest p = p
read-part (Variables list) tokens rest p = p
read-part (Constants list) tokens rest p = p
read-part (Query list) tokens rest p = p
read-part (Law l test) tokens rest p = p

-- what is read from tokens the grammar spells
part-read : (tokens : List TokenView) → AreReadable tokens → (p : PlainPart) (rest : List Terminal) → read_part p (terminals tokens) rest → part p (terminals tokens) rest
part-read tokens all (Include file) rest (b, t, (c, w, (text, q, u))) =
    let whole : terminals tokens ≡ Sign marks.Turn ∷ Word (codes "include") ∷ Quoted text ∷ rest =
    t ∙ ap (λ (l : List Terminal). Sign marks.Turn ∷ l) (w ∙ ap (λ (l : List Terminal). Word (codes "include") ∷ l) q) in
    let same : text ≡ in_quotes file = quoted-among (Sign marks.Turn ∷ Word (codes "include") ∷ []) tokens all text rest whole ∙ ap in_quotes u in
    (b, t, (c, w, q ∙ ap (λ (l : List ℕ). Quoted l ∷ rest) same))
part-read tokens all (Sorts list) rest p = p
part-read tokens all (Objects list) rest p = p
part-read tokens all (Variables list) rest p = p
part-read tokens all (Constants list) rest p = p
part-read tokens all (Query list) rest p = p
part-read tokens all (Law l test) rest p = p

-- ---- statements

dotted-reader : IsReader (part_at ◁ sign_at marks.Dot) (λ p. read_part p ▸ sign marks.Dot) anywhere
dotted-reader = before (as_part part-reader) (sign-literal marks.Dot) (λ tokens rest p. ap at_dot p)

nothing_left-is : (p found : PlainPart) (rest : List Terminal) → nothing_left (found, rest) ≡ Some p → (found ≡ p) × (rest ≡ [])
nothing_left-is p found [] e = (some-is found p e, refl)
nothing_left-is p found (token ∷ rest) e = absurd cc

pub statement-takes : (tokens : List TokenView) → AreReadable tokens → (p : PlainPart) → statement_at (terminals tokens) ≡ Some p → (part p ▸ sign marks.Dot) (terminals tokens) []
statement-takes tokens all p e =
    let read = bind_some ((part_at ◁ sign_at marks.Dot) (terminals tokens)) nothing_left p e in
    let ends = nothing_left-is p read.0.0 read.0.1 read.2 in
    let spelled = dotted-reader.takes (terminals tokens) read.0 read.1 in
    let one : part p (terminals tokens) spelled.0 = subst (λ (z : PlainPart). part z (terminals tokens) spelled.0) ends.0 (part-read tokens all read.0.0 spelled.0 spelled.1) in
    let other : sign marks.Dot spelled.0 [] = subst (λ (l : List Terminal). sign marks.Dot spelled.0 l) ends.1 spelled.2 in
    (spelled.0, one, other)

pub statement-again : (tokens : List TokenView) (p : PlainPart) → (part p ▸ sign marks.Dot) (terminals tokens) [] → statement_at (terminals tokens) ≡ Some p
statement-again tokens p spelled =
    let read : (part_at ◁ sign_at marks.Dot) (terminals tokens) ≡ Some (p, []) =
    dotted-reader.again p (terminals tokens) [] (spelled.0, read-part p (terminals tokens) spelled.0 spelled.1, spelled.2) refl in
    ap (λ (o : Option (PlainPart × List Terminal)). o >>= nothing_left) read

-- a statement, of its part and its line
abbrev with_part : PlainPart → ℕ → PlainStatement
with_part p line = record { part = p; line = line }

pub one-tree : OneTree
one-tree tokens tree other one two =
    let first = statement-again tokens tree.part one.whole in
    let second = statement-again tokens other.part two.whole in
    let same : tree.part ≡ other.part = some-is tree.part other.part (sym first ∙ second) in
    let line : tree.line ≡ other.line = one.line ∙ sym two.line in
    ap (λ (p : PlainPart). with_part p tree.line) same ∙ ap (λ (n : ℕ). with_part other.part n) line
