-- How refusals are made and named, which of several numbers counts, and what it is to be refused by exactly one.
use Rattle.std.specs.Prelude.{◌≡◌, ℕ, Bool, if◌then◌else◌, List, [], ◌∷◌, Option, Some, None, codes, unwrap_or, slice_get}
use Rattle.cc_defs.specs.declared.refusal.Fault.{Fault}
use Rattle.cc_defs.specs.declared.refusal.Fault.TheVariants as faults
use Rattle.cc_defs.specs.declared.refusal.LimitAt.{LimitAt}
use Rattle.cc_defs.specs.declared.refusal.Refusal.{Refusal}

-- that of this number, at a line of a file
abbrev pub refused : ℕ → ℕ → ℕ → Refusal
refused number file line = record { number = number; file = file; line = line; limit = None }

-- a count is past its limit: at a line of a file, or without a place
abbrev pub past_at : LimitAt → ℕ → ℕ → Refusal
past_at limit file line = record { number = 14; file = file; line = line; limit = Some limit }

abbrev pub past : LimitAt → Refusal
past limit = past_at limit 0 0

-- the refusal of a number that may be none, at a line of a file
abbrev pub refused_if : ℕ → ℕ → Option ℕ → Option Refusal
refused_if file line None = None
refused_if file line (Some number) = Some (refused number file line)

-- Of numbered tests in ascending order, the least number whose test holds.
abbrev pub least : List (ℕ × Bool) → Option ℕ
least [] = None
least (test ∷ tests) = if test.1 then Some test.0 else least tests

-- exactly this refusal, or memory was wanting
abbrev pub IsRefusedBy : Option Refusal → Fault → Type 0
IsRefusedBy refusal (faults.Refused given) = refusal ≡ Some given
IsRefusedBy refusal faults.OutOfMemory = Unit {0}

-- ---- names

-- the names of the refusals, from number 1 on; none has the number 13
abbrev pub refusal_names : List (List ℕ)
refusal_names =
    codes "Words" ∷ codes "Byte" ∷ codes "Syntax" ∷ codes "TwiceDeclared" ∷ codes "UnknownName" ∷ codes "Arity" ∷ codes "Sort"
    ∷ codes "Unbound" ∷ codes "LawForm" ∷ codes "SdInDynamicHead" ∷ codes "NotDefinite" ∷ codes "EmptyDomain" ∷ []
    ∷ codes "Limit" ∷ codes "NoQuery" ∷ codes "Step" ∷ codes "Include" ∷ codes "Key"
    ∷ codes "Dimacs" ∷ codes "ClaimQuery" ∷ []

abbrev pub refusal_name : ℕ → List ℕ
refusal_name number = unwrap_or (slice_get ([] ∷ refusal_names) number) []
