-- The reader of statements, and what `parse` answers.
use Rattle.std.specs.Prelude.{◌≡◌, ◌⊎◌, ℕ, List, [], ◌∷◌, Option, Some, None, codes}
use Rattle.cc_defs.specs.declared.refusal.Fault.{Fault}
use Rattle.cc_defs.specs.declared.refusal.Fault.TheVariants as faults
use Rattle.cc_defs.specs.declared.token.Mark.TheVariants as marks
use Rattle.cc_defs.specs.declared.refusal.Refusal.{Refusal}
use Rattle.cc_defs.specs.Tokens.{TokenView}
use Rattle.cc_defs.specs.Trees.{PlainPart, PlainStatement, Sorts, Objects, Variables, Constants, Query, Include}
use Rattle.cc_defs.specs.Grammar.{Terminal, Spells}
use Rattle.cc_defs.specs.Statements.{IsRefused, IsParsed}
use Rattle.cc_syntax.specs.Views.{AreReadable}
use Rattle.cc_syntax.specs.Readers.{Reader, given, ◌>>=◌, quoted_at, sign_at, word_at, listed_at, ◌◁◌}
use Rattle.cc_syntax.specs.Declarations.{sort_item_at, obj_item_at, list_item_at, const_item_at}
use Rattle.cc_syntax.specs.Queries.{query_item_at}
use Rattle.cc_syntax.specs.Laws.{tested_law_at}

-- one item or more behind the word of a directive
abbrev pub items_at : {X : Type 0} → (List X → PlainPart) → Reader X → Reader PlainPart
items_at make item tokens = listed_at item marks.Semicolon tokens >>= λ read. Some (make read.0, read.1)

abbrev pub include_at : Reader PlainPart
include_at tokens = quoted_at tokens >>= λ read. Some (Include read.0, read.1)

-- behind `:-`
unfoldable pub directive_at : Reader PlainPart
directive_at tokens =
    given (word_at (codes "sorts") tokens) (
    given (word_at (codes "objects") tokens) (
    given (word_at (codes "variables") tokens) (
    given (word_at (codes "constants") tokens) (
    given (word_at (codes "query") tokens) (
    given (word_at (codes "include") tokens) None
    include_at) (items_at Query query_item_at)) (items_at Constants const_item_at)) (items_at Variables list_item_at))
    (items_at Objects obj_item_at)) (items_at Sorts sort_item_at)

unfoldable pub part_at : Reader PlainPart
part_at tokens = given (sign_at marks.Turn tokens) (tested_law_at tokens) directive_at

-- what is left when all was read
abbrev pub nothing_left : PlainPart × List Terminal → Option PlainPart
nothing_left (part, []) = Some part
nothing_left (part, token ∷ rest) = None

-- a whole statement
abbrev pub statement_at : List Terminal → Option PlainPart
statement_at tokens = (part_at ◁ sign_at marks.Dot) tokens >>= nothing_left

-- memory was wanting, or the statement is refused so
abbrev pub HasRefused : ℕ → List TokenView → Fault → Type 0
HasRefused file tokens faults.OutOfMemory = Unit {0}
HasRefused file tokens (faults.Refused refusal) = IsRefused file tokens refusal

-- a list of tokens is spelled by one tree at most
abbrev pub OneTree : Type 0
OneTree = (tokens : List TokenView) (tree other : PlainStatement) → Spells tree tokens → Spells other tokens → tree ≡ other

-- each list of tokens has a tree, or is refused
abbrev pub TreeOrRefusal : Type 0
TreeOrRefusal = (file : ℕ) (tokens : List TokenView) → AreReadable tokens →
    ((tree : PlainStatement) × IsParsed tokens tree) ⊎ ((refusal : Refusal) × IsRefused file tokens refusal)
