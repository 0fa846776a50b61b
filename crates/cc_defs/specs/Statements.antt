-- What is wrong with a statement before its names are looked up: it is too long, or no tree spells it.
use Rattle.std.specs.Prelude.{◌≡◌, ◌⊎◌, ℕ, Bool, false, nat_lt, if◌then◌else◌, IsTrue, IsFalse, List, [], ◌∷◌, length, codes, Option, Some, None}
use Rattle.std.specs.List.{list_any}
use Rattle.cc_defs.specs.declared.refusal.LimitAt.{LimitAt}
use Rattle.cc_defs.specs.declared.refusal.LimitAt.TheVariants.{DeclarationTokens, StatementTokens}
use Rattle.cc_defs.specs.declared.refusal.Refusal.{Refusal}
use Rattle.cc_defs.specs.declared.token.Mark.TheVariants as marks
use Rattle.cc_defs.specs.Limits.{limit_number}
use Rattle.cc_defs.specs.Tokens.{TokenView, first_line}
use Rattle.cc_defs.specs.Trees.{PlainStatement}
use Rattle.cc_defs.specs.Grammar.{Terminal, Word, Sign, terminals, same_text, Spells}

-- the tokens begin with `:-` and one of these words
abbrev pub begins_directive : List (List ℕ) → List Terminal → Bool
begins_directive words (Sign marks.Turn ∷ Word text ∷ more) = list_any (same_text text) words
begins_directive words tokens = false

abbrev pub is_declaration : List Terminal → Bool
is_declaration tokens = begins_directive (codes "sorts" ∷ codes "objects" ∷ codes "variables" ∷ codes "constants" ∷ []) tokens

abbrev pub is_query : List Terminal → Bool
is_query tokens = begins_directive (codes "query" ∷ []) tokens

-- the limit of a statement's tokens
abbrev pub token_limit : List Terminal → LimitAt
token_limit tokens = if is_declaration tokens then DeclarationTokens else StatementTokens

abbrev pub is_too_long : List Terminal → Bool
is_too_long tokens = nat_lt (limit_number (token_limit tokens)) (length tokens)

abbrev pub NoTree : List TokenView → Type 0
NoTree tokens = (tree : PlainStatement) → Spells tree tokens → ⊥

abbrev pub refusal_at : ℕ → ℕ → Option LimitAt → List TokenView → Refusal
refusal_at number file limit tokens = record { number = number; file = file; line = first_line tokens; limit = limit }

-- the refusals of a statement, in their order
abbrev pub TooLong : ℕ → List TokenView → Refusal → Type 0
TooLong file tokens refusal =
    IsTrue (is_too_long (terminals tokens)) × (refusal ≡ refusal_at 14 file (Some (token_limit (terminals tokens))) tokens)

abbrev pub NoSyntax : ℕ → List TokenView → Refusal → Type 0
NoSyntax file tokens refusal =
    IsFalse (is_too_long (terminals tokens)) × NoTree tokens × (refusal ≡ refusal_at 3 file None tokens)

-- the statement is refused before its names are looked up
abbrev pub IsRefused : ℕ → List TokenView → Refusal → Type 0
IsRefused file tokens refusal = TooLong file tokens refusal ⊎ NoSyntax file tokens refusal

-- it is not refused, and this is its tree
pub record IsParsed (tokens : List TokenView) (tree : PlainStatement) : Type 0 where
  pub short : IsFalse (is_too_long (terminals tokens))
  pub spelled : Spells tree tokens
