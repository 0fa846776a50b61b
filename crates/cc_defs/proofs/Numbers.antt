-- What the digits of a number spell.
use Rattle.std.proofs.Common.{◌≡◌, ℕ, ◌+◌, ◌-◌, ◌*◌, ◌<◌, ◌≤◌, true, IsTrue, List, [], ◌∷◌, length, fold, Result, Ok, Err, arith, rules}
use Rattle.std.proofs.lemmas.Str.Parse.{IsNumeralModel, numerals_by_fold, parse_gives, digits_value_short}
use Rattle.std.specs.List.{list_all}
use Rattle.std.specs.Str.Parse.{ParsesUnsigned}
use Rattle.cc_defs.specs.Grammar.{number_of}
use Rattle.cc_defs.specs.Tokens.{is_digit, is_number}

abbrev AreDigits : List ℕ → Type 0
AreDigits digits = list_all is_digit digits ≡ true

abbrev number_behind : ℕ → List ℕ → ℕ
number_behind n digits = fold (λ n digit. n * 10 + (digit - 48)) n digits

numerals : IsNumeralModel AreDigits (number_behind 0)
numerals = numerals_by_fold _ (search rules) number_behind (search rules)

are_digits : (digits : List ℕ) → IsTrue (is_number digits) → AreDigits digits × (0 < length digits)
are_digits [] is = absurd cc
are_digits (b ∷ bs) is = (is, omega arith)

pub digits-parse : {E : Type 0} (digits : List ℕ) (read : Result ℕ E) → ParsesUnsigned 32 10 digits read → IsTrue (is_number digits) → length digits ≤ 9
    → read ≡ Ok (number_of digits)
digits-parse digits read parses is few =
    let p = are_digits digits is in
    parse_gives numerals 32 digits read parses p.0 p.1 (omega (arith, digits_value_short numerals digits 9 p.0 few))

-- what a reading gave is what it gives
pub read_ok : {E : Type 0} (read : Result ℕ E) (number other : ℕ) → read ≡ Ok number → read ≡ Ok other → number ≡ other
read_ok read number other is gives = cc

pub no_err : {E : Type 0} (read : Result ℕ E) (number : ℕ) (error : E) → read ≡ Err error → read ≡ Ok number → ⊥
no_err read number error is gives = cc
