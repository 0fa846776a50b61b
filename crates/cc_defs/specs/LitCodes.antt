-- A literal as a number: twice the variable, and one more where it is positive.
use Rattle.std.specs.Prelude.{◌≡◌, ℕ, ◌+◌, ◌*◌, ◌/◌, ◌%◌, ◌≤◌, ◌==◌, if◌then◌else◌}
use Rattle.cc_defs.specs.declared.literal.Lit.TheInside.{Inside}
use Rattle.cc_defs.specs.Clauses.{Literal}
use Rattle.std.proofs.Common.{arith, ap}
use Rattle.std.proofs.lemmas.Bool.Decides.{nat_tests}

abbrev pub literal_of : Inside → Literal
literal_of lit = record { variable = lit.code / 2; positive = lit.code % 2 == 1 }

abbrev pub IsCode : Inside → Type 0
IsCode lit = (2 ≤ lit.code) × (lit.code ≤ 8000001)

abbrev pub lit_of : Literal → Inside
lit_of literal = record { code = 2 * literal.variable + (if literal.positive then 1 else 0) }

halves : (n : ℕ) → 2 * (n / 2) + (if n % 2 == 1 then 1 else 0) ≡ n
halves n = grind (arith, nat_tests)

pub lit_of-literal_of : (lit : Inside) → IsCode lit → lit_of (literal_of lit) ≡ lit
lit_of-literal_of lit is = ap (λ (n : ℕ). let lit : Inside = record { code = n } in lit) (halves lit.code)
