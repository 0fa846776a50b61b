-- What is known of what was made, where it was put behind others.
use Rattle.std.proofs.Common.{◌≡◌, ◌∙◌, List, [], ◌∷◌, ◌++◌, map, Option, Some, Result, Ok, Err, IfOk, IsOk, OnOk, ap, sym, subst, ◌⊎◌, inl, inr, append_assoc}
use Rattle.std.specs.Prelude.{IsErr, option_map}
use Rattle.std.specs.Result.{MatchResult}
use Rattle.std.proofs.lemmas.List.{map-append}
use Rattle.std.specs.Global.{Vec, Box}

pub with_made : {X E R : Type 0} (made : Result X E) (P Q : X → Type 0) → IsOk made → IfOk made Q → IfOk made P → ((x : X) → P x → Q x → R) → R
with_made (Ok x) P Q ok q p give = give x p q
with_made (Err error) P Q wrong q p give = absurd cc

-- by what it stands for
pub put_behind : {X Y E F Z : Type 0} (plain : X → Z) (made : Result X E) (put : Result Y F) (old new : List X) (z : Z) →
    OnOk put (IsOk made) → OnOk put (IfOk made (λ x. new ≡ old ++ x ∷ [])) → IfOk made (λ x. plain x ≡ z) →
    OnOk put (map plain new ≡ map plain old ++ z ∷ [])
put_behind plain (Ok x) (Ok done) old new z ok e q = ap (map plain) e ∙ map-append plain old (x ∷ []) ∙ ap (λ w. map plain old ++ w ∷ []) q
put_behind plain (Err error) (Ok done) old new z ok e q = absurd cc
put_behind plain made (Err error) old new z ok e q = tt

-- alone, by what it stands for
pub only_so : {X E Z : Type 0} (plain : X → Z) (made : Result (Vec X) E) (x : X) → IfOk made (λ list. list.items ≡ x ∷ []) → IfOk made (λ list. map plain list.items ≡ plain x ∷ [])
only_so plain (Ok list) x e = ap (map plain) e
only_so plain (Err error) x e = tt

no_value : {X E : Type 0} (P : X → Type 0) (result : Result X E) → IsErr result → IfOk result P
no_value P (Ok x) wrong = absurd cc
no_value P (Err error) wrong = tt

-- as a part that is there, by what it stands for
pub some_of : {X E Z : Type 0} (plain : X → Z) (made : Result X E) (result : Result (Option X) E) (z : Z) → MatchResult made (λ value. result ≡ Ok (Some value)) (λ error. IsErr result) →
    IfOk made (λ x. plain x ≡ z) → IfOk result (λ part. option_map plain part ≡ Some z)
some_of plain (Ok x) result z e q = subst (λ r. IfOk r (λ part. option_map plain part ≡ Some z)) (sym e) (ap Some q)
some_of plain (Err error) result z e q = no_value (λ part. option_map plain part ≡ Some z) result e

-- the same, of a value that is known by another name
pub some_as : {X E Z : Type 0} (plain : X → Z) (made : Result X E) (result : Result (Option X) E) (z w : Z) → z ≡ w → MatchResult made (λ value. result ≡ Ok (Some value)) (λ error. IsErr result) →
    IfOk made (λ x. plain x ≡ z) → IfOk result (λ part. option_map plain part ≡ Some w)
some_as plain made result z w same e q = subst (λ v. IfOk result (λ part. option_map plain part ≡ Some v)) same (some_of plain made result z e q)

-- in a box
pub in_box : {X E : Type 0} (P : X → Type 0) (made : Result X E) (boxed : Result (Box X) E) (box : Box X) → boxed ≡ Ok box → IfOk boxed (λ place. made ≡ Ok place.value) → IfOk made P → P box.value
in_box P made boxed box is put so = subst (λ r. IfOk r P) (subst (λ r. IfOk r (λ place. made ≡ Ok place.value)) is put) so

pub by_either : {X : Type 0} (P : X → Type 0) (x a b : X) → (x ≡ a) ⊎ (x ≡ b) → P a → P b → P x
by_either P x a b (inl e) p q = subst P (sym e) p
by_either P x a b (inr e) p q = subst P (sym e) q

-- what was added behind what had been added
pub appended : {X Y E : Type 0} (done : Result Y E) (found one two first second whole : List X) → one ≡ found ++ first → OnOk done (two ≡ one ++ second) → first ++ second ≡ whole → OnOk done (two ≡ found ++ whole)
appended {X = X} (Ok x) found one two first second whole e last are = last ∙ ap (λ (w : List X). w ++ second) e ∙ append_assoc found first second ∙ ap (λ (w : List X). found ++ w) are
appended (Err error) found one two first second whole e last are = tt
