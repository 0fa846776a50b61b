-- The grammar, one case for each production. A tree is spelled at the front of a list of tokens, and the rest is left
-- behind it.
use Rattle.std.specs.Prelude.{◌≡◌, ◌⊎◌, ℕ, ◌+◌, ◌-◌, ◌*◌, ◌≤◌, Bool, true, false, not, ◌||◌, nat_eq, IsTrue, List, [], ◌∷◌, ◌++◌, map, codes, fold, Option, Some, None}
use Rattle.std.specs.List.{list_any}
use Rattle.std.specs.Cmp.Lexicographic.{pointwise}
use Rattle.cc_defs.specs.declared.signature.At.{At}
use Rattle.cc_defs.specs.declared.signature.At.TheVariants as ats
use Rattle.cc_defs.specs.declared.token.Mark.{Mark}
use Rattle.cc_defs.specs.declared.token.Mark.TheVariants as marks
use Rattle.cc_defs.specs.declared.token.TokenKind.{TokenKind}
use Rattle.cc_defs.specs.declared.token.TokenKind.TheVariants as kinds
use Rattle.cc_defs.specs.declared.tree.KindWord.{KindWord}
use Rattle.cc_defs.specs.declared.tree.KindWord.TheVariants as kind_words
use Rattle.cc_defs.specs.Tokens.{TokenView, first_line}
use Rattle.cc_defs.specs.Trees.{PlainTerm, PlainSums, PlainSum, PlainPiece, PlainAddends, PlainTree, PlainMember, PlainObjItem, Comparison, PlainShape, PlainSortItem, PlainListItem, PlainKind, PlainConstItem, PlainQueryItem, PlainLaw, PlainPart, PlainStatement}
use Rattle.cc_defs.specs.Trees as trees

-- what the grammar sees of a token
pub data Terminal : Type 0 where
  Word : List ℕ → Terminal
  Number : List ℕ → Terminal
  Quoted : List ℕ → Terminal
  Sign : Mark → Terminal

abbrev pub terminal_of_kind : TokenKind → List ℕ → Terminal
terminal_of_kind kinds.Word text = Word text
terminal_of_kind kinds.Number text = Number text
terminal_of_kind kinds.Quoted text = Quoted text
terminal_of_kind (kinds.Mark mark) text = Sign mark

abbrev pub terminal : TokenView → Terminal
terminal token = terminal_of_kind token.kind token.text

abbrev pub terminals : List TokenView → List Terminal
terminals tokens = map terminal tokens

abbrev pub same_text : List ℕ → List ℕ → Bool
same_text text other = pointwise nat_eq text other

-- the words that no declaration may use as a name
abbrev pub reserved_words : List (List ℕ)
reserved_words =
    codes "caused" ∷ codes "if" ∷ codes "after" ∷ codes "default" ∷ codes "inertial" ∷ codes "exogenous" ∷ codes "constraint"
    ∷ codes "always" ∷ codes "nonexecutable" ∷ codes "causes" ∷ codes "may" ∷ codes "cause" ∷ codes "where"
    ∷ codes "noconcurrency" ∷ codes "true" ∷ codes "false" ∷ codes "none" ∷ codes "maxstep" ∷ codes "label" ∷ codes "claim"
    ∷ codes "sorts" ∷ codes "objects" ∷ codes "variables" ∷ codes "constants" ∷ codes "query" ∷ codes "include" ∷ codes "of"
    ∷ codes "simpleFluent" ∷ codes "inertialFluent" ∷ codes "sdFluent" ∷ codes "rigid" ∷ codes "action"
    ∷ codes "exogenousAction" ∷ codes "attribute" ∷ []

abbrev pub is_reserved : List ℕ → Bool
is_reserved text = list_any (same_text text) reserved_words

-- a word that may be a name
abbrev pub is_name : List ℕ → Bool
is_name text = not (is_reserved text)

-- the reserved words that are terms
abbrev pub is_value_word : List ℕ → Bool
is_value_word text = same_text text (codes "true") || (same_text text (codes "false") || same_text text (codes "none"))

-- the number that digits spell
abbrev pub number_of : List ℕ → ℕ
number_of digits = fold (λ n digit. n * 10 + (digit - 48)) 0 digits

-- ---- how productions are made

-- what stands at the front of a list of tokens, and what is left behind it
abbrev pub Spelling : Type 1
Spelling = List Terminal → List Terminal → Type 0

infixr 20 ◌▸◌
-- one behind the other
abbrev pub ◌▸◌ : Spelling → Spelling → Spelling
(first ▸ second) tokens rest = (between : List Terminal) × first tokens between × second between rest

-- nothing
abbrev pub empty : Spelling
empty tokens rest = tokens ≡ rest

-- no tokens spell it
abbrev pub never : Spelling
never tokens rest = ⊥

abbrev pub sign : Mark → Spelling
sign mark tokens rest = tokens ≡ Sign mark ∷ rest

abbrev pub word : List ℕ → Spelling
word text tokens rest = tokens ≡ Word text ∷ rest

abbrev pub name : List ℕ → Spelling
name text tokens rest = IsTrue (is_name text) × (tokens ≡ Word text ∷ rest)

abbrev pub numeral : ℕ → Spelling
numeral n tokens rest = (digits : List ℕ) × (tokens ≡ Number digits ∷ rest) × (n ≡ number_of digits)

-- where the condition holds
abbrev pub where_it : Type 0 → Spelling → Spelling
where_it condition spelling tokens rest = condition × spelling tokens rest

-- the one or the other
abbrev pub one_of : Spelling → Spelling → Spelling
one_of first second tokens rest = first tokens rest ⊎ second tokens rest

abbrev pub in_parentheses : Spelling → Spelling
in_parentheses inner = sign marks.LeftParen ▸ inner ▸ sign marks.RightParen

module _ {X : Type 0} where
  -- an item, then each of the others behind the mark
  abbrev pub chained : (X → Spelling) → Mark → X → List X → Spelling
  chained item mark x [] = item x
  chained item mark x (y ∷ ys) = item x ▸ sign mark ▸ chained item mark y ys

  -- one item or more, with the mark between them
  abbrev pub listed : (X → Spelling) → Mark → List X → Spelling
  listed item mark [] = never
  listed item mark (x ∷ xs) = chained item mark x xs

  -- nothing, or an item behind the word
  abbrev pub optional : (X → Spelling) → List ℕ → Option X → Spelling
  optional item text None = empty
  optional item text (Some x) = word text ▸ item x

-- ---- terms, sums and formulas

abbrev pub additive : (minus : Bool) → Mark
additive true = marks.Minus
additive false = marks.Plus

abbrev mutual
  pub term : PlainTerm → Spelling
  term (trees.Applied text trees.NoSums) tokens rest = IsTrue (is_name text || is_value_word text) × (tokens ≡ Word text ∷ rest)
  term (trees.Applied text (trees.MoreSums first others)) tokens rest = (name text ▸ sign marks.LeftParen ▸ sum first ▸ other_sums others) tokens rest

  pub other_sums : PlainSums → Spelling
  other_sums trees.NoSums tokens rest = sign marks.RightParen tokens rest
  other_sums (trees.MoreSums first others) tokens rest = (sign marks.Comma ▸ sum first ▸ other_sums others) tokens rest

  pub sum : PlainSum → Spelling
  sum (trees.Summed first addends) tokens rest = (piece first ▸ other_pieces addends) tokens rest

  pub piece : PlainPiece → Spelling
  piece (trees.Numeral number) tokens rest = numeral number tokens rest
  piece (trees.Called t) tokens rest = term t tokens rest

  pub other_pieces : PlainAddends → Spelling
  other_pieces trees.NoAddends tokens rest = tokens ≡ rest
  other_pieces (trees.MoreAddends minus first others) tokens rest = (sign (additive minus) ▸ piece first ▸ other_pieces others) tokens rest

abbrev pub comparing : Comparison → Mark
comparing trees.IsEqual = marks.Equal
comparing trees.Differs = marks.NotEqual
comparing trees.IsLess = marks.Less
comparing trees.IsAtMost = marks.AtMost
comparing trees.IsMore = marks.More
comparing trees.IsAtLeast = marks.AtLeast

-- A formula where one of a strength is asked for: 0 for `unary`, 1 for `both`, 2 for `either`, 3 for `implied` and 4 for
-- `formula`. One of less strength may stand there too.
abbrev pub formula_of : ℕ → PlainTree → Spelling
formula_of strength (trees.Bare s) = term s
formula_of strength (trees.Compared comparison s t) = sum s ▸ sign (comparing comparison) ▸ sum t
formula_of strength (trees.Paren f) = sign marks.LeftParen ▸ formula_of 4 f ▸ sign marks.RightParen
formula_of strength (trees.Not f) = sign marks.Minus ▸ formula_of 0 f
formula_of strength (trees.Both f g) = where_it (1 ≤ strength) (formula_of 1 f ▸ sign marks.And ▸ formula_of 0 g)
formula_of strength (trees.Either f g) = where_it (2 ≤ strength) (formula_of 2 f ▸ sign marks.Or ▸ formula_of 1 g)
formula_of strength (trees.Implies f g) = where_it (3 ≤ strength) (formula_of 2 f ▸ sign marks.Arrow ▸ formula_of 3 g)
formula_of strength (trees.Same f g) = where_it (4 ≤ strength) (formula_of 4 f ▸ sign marks.DoubleArrow ▸ formula_of 3 g)
formula_of strength (trees.ForAll x f) = sign marks.LeftBracket ▸ sign marks.AllSign ▸ name x ▸ sign marks.Bar ▸ formula_of 4 f ▸ sign marks.RightBracket
formula_of strength (trees.Exists x f) = sign marks.LeftBracket ▸ sign marks.AnySign ▸ name x ▸ sign marks.Bar ▸ formula_of 4 f ▸ sign marks.RightBracket

abbrev pub formula : PlainTree → Spelling
formula f = formula_of 4 f

-- ---- declarations

abbrev pub sort_item : PlainSortItem → Spelling
sort_item (trees.Names names) = listed name marks.Comma names
sort_item (trees.Chain []) = never
sort_item (trees.Chain (x ∷ xs)) = name x ▸ sign marks.Above ▸ listed name marks.Above xs

-- `n` is `n..n`
abbrev pub member : PlainMember → Spelling
member (trees.Name text) = name text
member (trees.Numbers low high) = one_of (where_it (low ≡ high) (numeral low)) (numeral low ▸ sign marks.DotDot ▸ numeral high)

abbrev pub obj_item : PlainObjItem → Spelling
obj_item item = listed member marks.Comma item.members ▸ sign marks.DoubleColon ▸ name item.sort

abbrev pub list_item : PlainListItem → Spelling
list_item item = listed name marks.Comma item.names ▸ sign marks.DoubleColon ▸ name item.sort

abbrev pub sorts_of : List (List ℕ) → Spelling
sorts_of [] = empty
sorts_of (sort ∷ sorts) = in_parentheses (listed name marks.Comma (sort ∷ sorts))

abbrev pub shape : PlainShape → Spelling
shape s = name s.name ▸ sorts_of s.sorts

abbrev pub kind_word : KindWord → List ℕ
kind_word kind_words.Simple = codes "simpleFluent"
kind_word kind_words.Inertial = codes "inertialFluent"
kind_word kind_words.Determined = codes "sdFluent"
kind_word kind_words.Rigid = codes "rigid"
kind_word kind_words.Action = codes "action"
kind_word kind_words.ExogenousAction = codes "exogenousAction"

abbrev pub kind : PlainKind → Spelling
kind (trees.Plain plain None) = word (kind_word plain)
kind (trees.Plain plain (Some sort)) = word (kind_word plain) ▸ in_parentheses (name sort)
kind (trees.Attribute sort action) = word (codes "attribute") ▸ in_parentheses (name sort) ▸ word (codes "of") ▸ shape action

abbrev pub const_item : PlainConstItem → Spelling
const_item item = listed shape marks.Comma item.shapes ▸ sign marks.DoubleColon ▸ kind item.kind

-- ---- queries

abbrev pub label : List ℕ → Spelling
label text tokens rest = name text tokens rest ⊎ (tokens ≡ Number text ∷ rest)

abbrev pub step : At → Spelling
step (ats.Number n) = numeral n
step ats.Last = word (codes "maxstep")

abbrev pub claimed : Bool → Spelling
claimed true = word (codes "claim") ▸ sign marks.DoubleColon
claimed false = empty

abbrev pub query_item : PlainQueryItem → Spelling
query_item (trees.Label text) = word (codes "label") ▸ sign marks.DoubleColon ▸ label text
query_item (trees.Range lo hi) =
    word (codes "maxstep") ▸ sign marks.DoubleColon
    ▸ one_of (where_it (lo ≡ hi) (numeral lo)) (numeral lo ▸ sign marks.DotDot ▸ numeral hi)
query_item (trees.Condition claim at formulas) = claimed claim ▸ step at ▸ sign marks.Colon ▸ listed formula marks.Comma formulas

-- ---- laws

abbrev pub law : PlainLaw → Spelling
law (trees.Caused f g h) = word (codes "caused") ▸ formula f ▸ optional formula (codes "if") g ▸ optional formula (codes "after") h
law (trees.Constraint f) = word (codes "constraint") ▸ formula f
law (trees.Always f) = word (codes "always") ▸ formula f
law (trees.Nonexecutable f g) = word (codes "nonexecutable") ▸ formula f ▸ optional formula (codes "if") g
law (trees.Default f g h) = word (codes "default") ▸ formula f ▸ optional formula (codes "if") g ▸ optional formula (codes "after") h
law (trees.Exogenous c) = word (codes "exogenous") ▸ term c
law (trees.Inertial c) = word (codes "inertial") ▸ term c
law (trees.Causes a f g) = formula a ▸ word (codes "causes") ▸ formula f ▸ optional formula (codes "if") g
law (trees.MayCause a f g) = formula a ▸ word (codes "may") ▸ word (codes "cause") ▸ formula f ▸ optional formula (codes "if") g
law trees.NoConcurrency = word (codes "noconcurrency")

-- `noconcurrency` has no test
abbrev pub tested_law : PlainLaw → Option PlainTree → Spelling
tested_law trees.NoConcurrency (Some test) = never
tested_law l test = law l ▸ optional formula (codes "where") test

-- ---- statements

abbrev pub directive : List ℕ → Spelling → Spelling
directive text rest = sign marks.Turn ▸ word text ▸ rest

-- a file's name in quotes
abbrev pub quoted : List ℕ → Spelling
quoted text tokens rest = tokens ≡ Quoted (39 ∷ text ++ 39 ∷ []) ∷ rest

abbrev pub part : PlainPart → Spelling
part (trees.Sorts items) = directive (codes "sorts") (listed sort_item marks.Semicolon items)
part (trees.Objects items) = directive (codes "objects") (listed obj_item marks.Semicolon items)
part (trees.Variables items) = directive (codes "variables") (listed list_item marks.Semicolon items)
part (trees.Constants items) = directive (codes "constants") (listed const_item marks.Semicolon items)
part (trees.Query items) = directive (codes "query") (listed query_item marks.Semicolon items)
part (trees.Include file) = directive (codes "include") (quoted file)
part (trees.Law l test) = tested_law l test

-- a tree spells a list of tokens: they are those of its part, then a dot; its line is that of the first of them
pub record Spells (tree : PlainStatement) (tokens : List TokenView) : Type 0 where
  pub whole : (part tree.part ▸ sign marks.Dot) (terminals tokens) []
  pub line : tree.line ≡ first_line tokens
