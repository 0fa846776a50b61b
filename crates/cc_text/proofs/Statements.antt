-- The tokens of each statement of a text that was read are of their kinds, and short.
use Rattle.std.proofs.Common.{◌≡◌, ℕ, zero, suc, ◌+◌, ◌<◌, Bool, true, false, cond, List, [], ◌∷◌, ◌++◌, length, get_or, subst, sym, arith}
use Rattle.std.specs.List.{AllByRecursion}
use Rattle.cc_defs.specs.Tokens.{TokenView, IsCut, IsShort, AreTokens, line_feeds, is_dot, last_statement, statements_from, statements}
use Rattle.cc_text.specs.Laws.{StatementsAreTokens}
use Rattle.cc_text.specs.Reading.{HasRead}

cut_tokens : (line : ℕ) (text : List ℕ) (tokens : List TokenView) → IsCut line text tokens → AllByRecursion IsShort tokens → AreTokens tokens
cut_tokens line text [] cut short = tt
cut_tokens line text (token ∷ tokens) cut short =
    ((cut.4.kind, short.0), cut_tokens (line + line_feeds cut.0) cut.2 tokens cut.6 short.1)

push : (held : List TokenView) (token : TokenView) → AreTokens held → AreTokens (token ∷ []) → AreTokens (held ++ token ∷ [])
push [] token are one = one
push (first ∷ held) token are one = (are.0, push held token are.1 one)

either : (t : Bool) (x y : List (List TokenView)) → AllByRecursion AreTokens x → AllByRecursion AreTokens y → AllByRecursion AreTokens (cond t x y)
either true x y p q = p
either false x y p q = q

last_are : (held : List TokenView) → AreTokens held → AllByRecursion AreTokens (last_statement held)
last_are [] are = tt
last_are (token ∷ held) are = (are, tt)

all_are : (held tokens : List TokenView) → AreTokens held → AreTokens tokens → AllByRecursion AreTokens (statements_from held tokens)
all_are held [] h a = last_are held h
all_are held (token ∷ tokens) h a =
    let longer = push held token h (a.0, tt) in
    either (is_dot token) _ _ (longer, all_are [] tokens tt a.1) (all_are (held ++ token ∷ []) tokens longer a.1)

at : (all : List (List TokenView)) (i : ℕ) → AllByRecursion AreTokens all → AreTokens (get_or all i [])
at [] i p = tt
at (one ∷ others) zero p = p.0
at (one ∷ others) (suc i) p = at others i p.1

-- each statement of a text that was read
pub statement_are : (text : List ℕ) (read : List (List TokenView)) (i : ℕ) → HasRead text read → AreTokens (get_or read i [])
statement_are text read i p =
    subst (λ (l : List (List TokenView)). AreTokens (get_or l i [])) (sym p.3)
    (at (statements p.0) i (all_are [] p.0 tt (cut_tokens 1 text p.0 p.1 p.2)))

pub statements_are : StatementsAreTokens
statements_are line text tokens cut short = all_are [] tokens tt (cut_tokens line text tokens cut short)
