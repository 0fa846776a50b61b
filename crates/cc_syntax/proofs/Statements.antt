-- What the reader of statements finds is the tree of a statement, and where it finds nothing there is none.
use Rattle.std.proofs.Common.{◌≡◌, ℕ, ◌<◌, ◌≤◌, List, [], ◌∷◌, length, slice_index_or, Option, Some, None, Result, Err, IfOk, Bool, true, false, IsFalse, refl, ap, subst, sym, ◌∙◌, ◌⊎◌, inl, inr, arith}
use Rattle.std.specs.Bool.{then_some}
use Rattle.std.specs.Global.{Box}
use Rattle.std.specs.Option.{ok_or}
use Rattle.std.proofs.lemmas.Bool.{le-ltb, lt-ltb}
use Rattle.std.proofs.lemmas.List.{length-map}
use Rattle.cc_defs.specs.declared.refusal.Fault.{Fault}
use Rattle.cc_defs.specs.declared.refusal.Fault.TheVariants as faults
use Rattle.cc_defs.specs.declared.refusal.LimitAt.{LimitAt}
use Rattle.cc_defs.specs.declared.refusal.Refusal.{Refusal}
use Rattle.cc_defs.specs.declared.token.Mark.TheVariants as marks
use Rattle.cc_defs.specs.declared.token.Token.{Token}
use Rattle.cc_defs.specs.declared.tree.Part.{Part}
use Rattle.cc_defs.specs.Grammar.{Terminal, terminals}
use Rattle.cc_defs.specs.Limits.{limit_number}
use Rattle.cc_defs.specs.Statements.{token_limit, is_too_long, refusal_at, NoTree, IsParsed, IsRefused}
use Rattle.cc_defs.specs.Tokens.{TokenView, first_line}
use Rattle.cc_defs.specs.Trees.{PlainPart, PlainStatement, plain_part, plain_statement}
use Rattle.cc_syntax.specs.declared.stop.Stop.{Stop}
use Rattle.cc_syntax.specs.declared.stop.Stop.TheVariants as stops
use Rattle.cc_syntax.specs.Parsing.{part_at, nothing_left, statement_at, HasRefused, TreeOrRefusal}
use Rattle.cc_syntax.specs.Readers.{given, sign_at}
use Rattle.cc_syntax.specs.Views.{AreReadable, seen}
use Rattle.cc_text.specs.Views.{token_views}
use Rattle.cc_syntax.proofs.Parsing.{statement-takes, statement-again}

pub nothing_spells : (tokens : List TokenView) → statement_at (terminals tokens) ≡ None → NoTree tokens
nothing_spells tokens nothing tree spelled = let e : None ≡ Some tree.part = sym nothing ∙ statement-again tokens tree.part spelled.whole in cc

-- a part, and what follows it, make the statement
pub statement-ended : (tokens rest : List Terminal) (part : PlainPart) (ends : Option PlainPart) → part_at tokens ≡ Some (part, rest) →
    given (given (sign_at marks.Dot rest) None (λ left. Some (part, left))) None nothing_left ≡ ends → statement_at tokens ≡ ends
statement-ended tokens rest part ends is_part is_ends = rw is_part is_ends

-- the part of a statement, where it is the whole of it; the part may be in a box
abbrev pub IsWhole : {K : Type 0} → (K → PlainPart) → List Terminal → Result K Stop → Type 0
IsWhole view tokens result = (IfOk result (λ part. statement_at tokens ≡ Some (view part))) × (result ≡ Err stops.NoTree → statement_at tokens ≡ None)

pub whole-ended : {K : Type 0} (view : K → PlainPart) (tokens rest : List Terminal) (part : K) (ends : Bool) (ended : Option K) (result : Result K Stop) →
    part_at tokens ≡ Some (view part, rest) →
    given (given (sign_at marks.Dot rest) None (λ left. Some (view part, left))) None nothing_left ≡ then_some ends (view part) →
    ended ≡ then_some ends part → result ≡ ok_or ended stops.NoTree → IsWhole view tokens result
whole-ended view tokens rest part true ended result is_part is_end is_ended is_result =
    subst (λ w. IsWhole view tokens w) (sym (is_result ∙ ap (λ o. ok_or o stops.NoTree) is_ended)) (statement-ended tokens rest (view part) _ is_part is_end, λ e. cc)
whole-ended view tokens rest part false ended result is_part is_end is_ended is_result =
    subst (λ w. IsWhole view tokens w) (sym (is_result ∙ ap (λ o. ok_or o stops.NoTree) is_ended)) (tt, λ e. statement-ended tokens rest (view part) _ is_part is_end)

-- ---- what `parse` answers

pub is_short : (tokens : List Token) (limit : LimitAt) (number : ℕ) → limit ≡ token_limit (seen tokens) → number ≡ limit_number limit →
    length tokens ≤ number → IsFalse (is_too_long (seen tokens))
is_short tokens limit number is_limit is_number fits =
    le-ltb _ _ (subst (λ n. length (seen tokens) ≤ n) (is_number ∙ ap limit_number is_limit) (simp length-map fits))

line_of : (tokens : List Token) (other : Token) → 0 < length tokens → first_line (token_views tokens) ≡ (slice_index_or tokens 0 other).line
line_of [] other some = absurd (omega (arith, some))
line_of (token ∷ tokens) other some = refl

pub is_parsed : (tokens : List Token) (part : Box Part) (other : Token) → 0 < length tokens → AreReadable (token_views tokens) →
    IsFalse (is_too_long (seen tokens)) → statement_at (seen tokens) ≡ Some (plain_part part.value) →
    IsParsed (token_views tokens) (plain_statement record { part = part; line = (slice_index_or tokens 0 other).line })
is_parsed tokens part other some are short found = record {
  short = short;
  spelled = record { whole = statement-takes (token_views tokens) are (plain_part part.value) found; line = sym (line_of tokens other some) };
}

pub is_long : (tokens : List Token) (file : ℕ) (fault : Fault) (limit : LimitAt) (number : ℕ) → limit ≡ token_limit (seen tokens) → number ≡ limit_number limit →
    number < length tokens → fault ≡ faults.Refused (refusal_at 14 file (Some limit) (token_views tokens)) → HasRefused file (token_views tokens) fault
is_long tokens file fault limit number is_limit is_number past is_fault =
    subst (HasRefused file (token_views tokens)) (sym is_fault)
    (inl (lt-ltb _ _ (subst (λ n. n < length (seen tokens)) (is_number ∙ ap limit_number is_limit) (simp length-map past)), ap (λ (l : LimitAt). refusal_at 14 file (Some l) (token_views tokens)) is_limit))

pub is_refused : (tokens : List Token) (file : ℕ) (fault : Fault) → IsFalse (is_too_long (seen tokens)) →
    statement_at (seen tokens) ≡ None → fault ≡ faults.Refused (refusal_at 3 file None (token_views tokens)) →
    HasRefused file (token_views tokens) fault
is_refused tokens file fault short nothing is_fault =
    subst (HasRefused file (token_views tokens)) (sym is_fault) (inr (short, nothing_spells (token_views tokens) nothing, refl))

-- ---- each list of tokens has a tree, or is refused

read-or-refused : (file : ℕ) (tokens : List TokenView) → AreReadable tokens → IsFalse (is_too_long (terminals tokens)) →
    (read : Option PlainPart) → statement_at (terminals tokens) ≡ read →
    ((tree : PlainStatement) × IsParsed tokens tree) ⊎ ((refusal : Refusal) × IsRefused file tokens refusal)
read-or-refused file tokens are short (Some p) found =
    inl (record { part = p; line = first_line tokens }, record { short = short; spelled = record { whole = statement-takes tokens are p found; line = refl } })
read-or-refused file tokens are short None nothing =
    inr (refusal_at 3 file None tokens, inr (short, nothing_spells tokens nothing, refl))

short-or-refused : (file : ℕ) (tokens : List TokenView) → AreReadable tokens → (long : Bool) → is_too_long (terminals tokens) ≡ long →
    ((tree : PlainStatement) × IsParsed tokens tree) ⊎ ((refusal : Refusal) × IsRefused file tokens refusal)
short-or-refused file tokens are true long =
    inr (refusal_at 14 file (Some (token_limit (terminals tokens))) tokens, inl (long, refl))
short-or-refused file tokens are false short = read-or-refused file tokens are short (statement_at (terminals tokens)) refl

pub tree-or-refusal : TreeOrRefusal
tree-or-refusal file tokens are = short-or-refused file tokens are (is_too_long (terminals tokens)) refl
