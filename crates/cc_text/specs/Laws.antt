-- Laws of the cut of a text.
use Rattle.std.specs.Prelude.{◌≡◌, ◌⊎◌, ℕ, List}
use Rattle.std.specs.List.{AllByRecursion}
use Rattle.cc_defs.specs.declared.refusal.Refusal.{Refusal}
use Rattle.cc_defs.specs.Tokens.{TokenView, AreTokens, IsCut, IsShort, StopsAt, statements}

-- a text has one cut
abbrev pub OneCut : Type 0
OneCut = (line : ℕ) (text : List ℕ) (one other : List TokenView) → IsCut line text one → IsCut line text other → one ≡ other

-- a text stops at one place, for one reason
abbrev pub OneStop : Type 0
OneStop = (file line : ℕ) (text : List ℕ) (one other : List TokenView) (why because : Refusal)
    → StopsAt file line text one why → StopsAt file line text other because → (one ≡ other) × (why ≡ because)

-- a text that has a cut into short tokens does not stop
abbrev pub CutsOrStops : Type 0
CutsOrStops = (file line : ℕ) (text : List ℕ) (tokens stopped : List TokenView) (refusal : Refusal)
    → IsCut line text tokens → AllByRecursion IsShort tokens → StopsAt file line text stopped refusal → ⊥

-- each text has a cut into short tokens, or stops
abbrev pub CutOrStop : Type 0
CutOrStop = (file line : ℕ) (text : List ℕ)
    → ((tokens : List TokenView) × IsCut line text tokens × AllByRecursion IsShort tokens)
    ⊎ ((tokens : List TokenView) × (refusal : Refusal) × StopsAt file line text tokens refusal)

-- the statements of a text that has a cut into short tokens are of such tokens
abbrev pub StatementsAreTokens : Type 0
StatementsAreTokens = (line : ℕ) (text : List ℕ) (tokens : List TokenView)
    → IsCut line text tokens → AllByRecursion IsShort tokens → AllByRecursion AreTokens (statements tokens)
