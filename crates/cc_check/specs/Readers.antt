-- What stands in bytes one after another, as it is read from the front: numbers, literals, and the chain of a derived line.
use Rattle.std.specs.Prelude.{ℕ, zero, suc, ◌+◌, ◌-◌, ◌*◌, ◌/◌, ◌%◌, ◌==◌, ◌&&◌, not, nat_lt, if◌then◌else◌, Bool, true, false, List, [], ◌∷◌, drop, Option, Some, None, option_map}
use Rattle.std.specs.Borrow.{Bor}
use Rattle.cc_defs.specs.declared.log.Version.{Version}
use Rattle.cc_defs.specs.declared.log.Version.TheVariants.{First, Second}
use Rattle.cc_defs.specs.Clauses.{Literal}
use Rattle.cc_log.specs.Fronts.{number_of}
use Rattle.cc_check.specs.declared.reader.NumberReader.{NumberReader}
use Rattle.cc_check.specs.declared.reader.LiteralReader.{LiteralReader}
use Rattle.cc_check.specs.declared.reader.ChainReader.{ChainReader}

-- ---- one at the front, and what is behind it

-- a number above its lowest seven bits: with 0 it would be one byte shorter, with more it is past 1999999999
abbrev pub is_high : ℕ → Bool
is_high high = nat_lt 0 high && nat_lt high 15625000

abbrev pub with_low : ℕ → Option (ℕ × List ℕ) → Option (ℕ × List ℕ)
with_low low None = None
with_low low (Some read) = if is_high read.0 then Some (128 * read.0 + low, read.1) else None

-- a number of version 2, of at most so many bytes behind the first
abbrev pub entry_number : ℕ → List ℕ → Option (ℕ × List ℕ)
entry_number more [] = None
entry_number zero (byte ∷ bytes) = if nat_lt byte 128 then Some (byte, bytes) else None
entry_number (suc more) (byte ∷ bytes) =
    if nat_lt byte 128 then Some (byte, bytes) else (if nat_lt byte 256 then with_low (byte - 128) (entry_number more bytes) else None)

-- a number in a list: in version 1 a byte stands before it
abbrev pub number_taken : Version → List ℕ → Option (ℕ × List ℕ)
number_taken First bytes = number_of (drop 1 bytes)
number_taken Second bytes = entry_number 4 bytes

abbrev pub as_positive : Option (ℕ × List ℕ) → Option (Literal × List ℕ)
as_positive None = None
as_positive (Some read) = Some (record { variable = read.0; positive = true }, read.1)

abbrev pub as_negative : Option (ℕ × List ℕ) → Option (Literal × List ℕ)
as_negative None = None
as_negative (Some read) = if read.0 == 0 then None else Some (record { variable = read.0; positive = false }, read.1)

abbrev pub signed_of : List ℕ → Option (Literal × List ℕ)
signed_of [] = None
signed_of (byte ∷ bytes) = if byte == 45 then as_negative (number_of bytes) else as_positive (number_of (byte ∷ bytes))

-- the literal of a number of version 2
abbrev pub as_literal : Option (ℕ × List ℕ) → Option (Literal × List ℕ)
as_literal None = None
as_literal (Some read) = if nat_lt read.0 2 then None else Some (record { variable = read.0 / 2; positive = read.0 % 2 == 0 }, read.1)

abbrev pub literal_taken : Version → List ℕ → Option (Literal × List ℕ)
literal_taken First bytes = signed_of (drop 1 bytes)
literal_taken Second bytes = as_literal (entry_number 4 bytes)

-- ---- so many, one after another

abbrev pub put_first : {X : Type 0} → Option (X × List ℕ) → (List ℕ → List X) → List X
put_first None behind = []
put_first (Some read) behind = read.0 ∷ behind read.1

-- so many of them, or those before the first that does not stand there
abbrev pub list_from : {X : Type 0} → (List ℕ → Option (X × List ℕ)) → ℕ → List ℕ → List X
list_from taken zero bytes = []
list_from taken (suc count) bytes = put_first (taken bytes) (list_from taken count)

abbrev pub numbers_in : Version → ℕ → List ℕ → List ℕ
numbers_in version count bytes = list_from (number_taken version) count bytes

abbrev pub literals_in : Version → ℕ → List ℕ → List Literal
literals_in version count bytes = list_from (literal_taken version) count bytes

-- ---- what readers have left

abbrev pub numbers_of : NumberReader → List ℕ
numbers_of reader = numbers_in reader.version reader.count reader.bytes.now

abbrev pub literals_of : LiteralReader → List Literal
literals_of reader = literals_in reader.version reader.count reader.bytes.now

-- the number of a clause, where it is named, or a pivot
abbrev pub link : Version → (own : ℕ) → (names : Bool) → ℕ → ℕ
link First own names number = number
link Second own true distance = own - distance
link Second own false pivot = pivot

-- clauses by their numbers and pivots, in turn
abbrev pub links : Version → (own : ℕ) → (names : Bool) → List ℕ → List ℕ
links version own names [] = []
links version own names (number ∷ numbers) = link version own names number ∷ links version own (not names) numbers

abbrev pub chain_of : ChainReader → List ℕ
chain_of reader = links reader.version reader.own reader.names (numbers_of reader.numbers)

-- ---- what is read, without its borrow

abbrev pub plain_number : Option (ℕ × Bor (List ℕ)) → Option (ℕ × List ℕ)
plain_number read = option_map (λ read. (read.0, read.1.now)) read

abbrev pub plain_literal : Option (ℕ × Bool × Bor (List ℕ)) → Option (Literal × List ℕ)
plain_literal read = option_map (λ read. (record { variable = read.0; positive = read.1 }, read.2.now)) read
