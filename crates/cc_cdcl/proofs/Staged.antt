-- What a test of the staged clause says.
use Rattle.std.proofs.Common.{◌≡◌, ℕ, Bool, true, false, List, Option, Some, None, refl}
use Rattle.std.specs.Prelude.{◌↔◌, Contains, IfSome, IsSome, IsTrue}
use Rattle.cc_defs.specs.Clauses.{Literal}

pub staged_here : (staged : Option (List Literal)) (value : Bool) (literal : Literal) → IsSome staged → IfSome staged (λ clause. IsTrue value ↔ Contains clause literal) →
    value ≡ true → (clause : List Literal) × (staged ≡ Some clause) × Contains clause literal
staged_here None value literal some both is = absurd cc
staged_here (Some clause) value literal some both is = (clause, refl, both.0 is)

pub staged_never : (staged : Option (List Literal)) (value : Bool) (literal : Literal) (clause : List Literal) → staged ≡ Some clause →
    IfSome staged (λ clause. IsTrue value ↔ Contains clause literal) → value ≡ false → Contains clause literal → ⊥
staged_never staged value literal clause is both none here =
    let there : IsTrue value ↔ Contains clause literal = rw is at both in
    let yes : value ≡ true = there.1 here in cc

pub if_some_of : (found : Option ℕ) (P : ℕ → Type 0) → ((id : ℕ) → found ≡ Some id → P id) → IfSome found P
if_some_of None P all = tt
if_some_of (Some id) P all = all id refl
