-- What the reading of a text answers.
use Rattle.std.specs.Prelude.{◌≡◌, ℕ, ◌≤◌, List, [], ◌∷◌, length}
use Rattle.std.specs.List.{AllByRecursion}
use Rattle.cc_defs.specs.declared.refusal.Fault.{Fault}
use Rattle.cc_defs.specs.declared.refusal.Fault.TheVariants as faults
use Rattle.cc_defs.specs.Tokens.{TokenView, IsCut, IsShort, StopsAt, statements}

-- the statements are those of the cut of the text, whose tokens are all short
abbrev pub HasRead : List ℕ → List (List TokenView) → Type 0
HasRead text read = (tokens : List TokenView) × IsCut 1 text tokens × AllByRecursion IsShort tokens × (read ≡ statements tokens)

-- the text has this cut, into short tokens
abbrev pub HasTokens : List ℕ → List TokenView → Type 0
HasTokens text tokens = IsCut 1 text tokens × AllByRecursion IsShort tokens × (length tokens ≤ length text)

-- memory was wanting, or this is the first fault of the text
abbrev pub HasStopped : ℕ → List ℕ → Fault → Type 0
HasStopped file text faults.OutOfMemory = Unit {0}
HasStopped file text (faults.Refused refusal) = (tokens : List TokenView) × StopsAt file 1 text tokens refusal
