-- What a place of a formula sees, as the code keeps it.
use Rattle.std.proofs.Common.{◌≡◌, ◌∙◌, ℕ, ◌+◌, ◌-◌, ◌<◌, ◌≤◌, ◌==◌, List, [], ◌∷◌, ◌++◌, length, drop, get_or, Option, Some, if◌then◌else◌, arith, refl, sym, ap, subst, take}
use Rattle.std.proofs.lemmas.List.{at_drop_more, length_push, take_at, at_drop_all}
use Rattle.cc_laws.specs.declared.names.Binding.{Binding as KeptBinding}
use Rattle.cc_laws.specs.Resolving.{Binding, number_in, numbered_from}
use Rattle.cc_laws.specs.Views.{plain_binding, inside}

pub inside_last : (scope : List Binding) (bindings : List KeptBinding) (last : KeptBinding) → inside scope (bindings ++ last ∷ []) ≡ plain_binding last ∷ inside scope bindings
inside_last scope [] last = refl
inside_last scope (binding ∷ bindings) last = inside_last (plain_binding binding ∷ scope) bindings last

pub pushed : (old new : List KeptBinding) (last : KeptBinding) → new ≡ old ++ last ∷ [] → inside [] new ≡ plain_binding last ∷ inside [] old
pushed old new last e = ap (inside []) e ∙ inside_last [] old last

-- ---- a number that is looked up from the outermost binding on

abbrev pub found_in : Option ℕ → List KeptBinding → ℕ → Option ℕ
found_in found [] variable = found
found_in found (binding ∷ bindings) variable = found_in (if binding.variable == variable then Some binding.number else found) bindings variable

pub found_inside : (scope : List Binding) (bindings : List KeptBinding) (variable : ℕ) → found_in (number_in scope variable) bindings variable ≡ number_in (inside scope bindings) variable
found_inside scope [] variable = refl
found_inside scope (binding ∷ bindings) variable = found_inside (plain_binding binding ∷ scope) bindings variable

-- ---- the variables of a law, bound from the last to the first

numbered_front : (variables : List ℕ) (i d : ℕ) → i < length variables → numbered_from i (drop i variables) ≡ record { variable = get_or variables i d; number = i } ∷ numbered_from (i + 1) (drop (i + 1) variables)
numbered_front variables i d within = at_drop_more (numbered_from i) variables i d within

bound_more : (variables : List ℕ) (i d : ℕ) (old new : List KeptBinding) (last : KeptBinding) → i < length variables → plain_binding last ≡ record { variable = get_or variables i d; number = i } →
    new ≡ old ++ last ∷ [] → inside [] old ≡ numbered_from (i + 1) (drop (i + 1) variables) → inside [] new ≡ numbered_from i (drop i variables)
bound_more variables i d old new last within is e q =
    pushed old new last e
    ∙ ap (λ (w : Binding). w ∷ inside [] old) is
    ∙ ap (λ (w : List Binding). record { variable = get_or variables i d; number = i } ∷ w) q
    ∙ sym (numbered_front variables i d within)

pub bound_before : (variables : List ℕ) (place d : ℕ) (old new : List KeptBinding) (last : KeptBinding) → 0 < place → place ≤ length variables →
    plain_binding last ≡ record { variable = get_or variables (place - 1) d; number = place - 1 } →
    new ≡ old ++ last ∷ [] → inside [] old ≡ numbered_from place (drop place variables) → inside [] new ≡ numbered_from (place - 1) (drop (place - 1) variables)
bound_before variables place d old new last some within is e q =
    let here : place ≡ place - 1 + 1 = omega arith in
    bound_more variables (place - 1) d old new last (omega arith) is e (subst (λ (n : ℕ). inside [] old ≡ numbered_from n (drop n variables)) here q)

-- ---- a list to which one was pushed and from which it was taken again, and a number that was counted on

pub popped : {X : Type 0} (old pushed new : List X) (x : X) (count : ℕ) → count ≡ length pushed → pushed ≡ old ++ x ∷ [] → new ≡ take (count - 1) pushed → new ≡ old
popped old pushed new x count all e q =
    let longer : count ≡ length old + 1 = all ∙ ap length e ∙ length_push old x in
    let as_many : length old ≡ count - 1 = omega (arith, longer) in
    q ∙ ap (take (count - 1)) e ∙ take_at old (x ∷ []) (count - 1) as_many

pub counted_on : (n m a b c : ℕ) → n ≡ m + c → m ≡ a + b → n ≡ a + (b + c)
counted_on n m a b c e q = omega (arith, e, q)

pub counted_all : {X : Type 0} (count : List X → ℕ) (xs : List X) (i next total : ℕ) → count [] ≡ 0 → length xs ≤ i → next + count (drop i xs) ≡ total → next ≡ total
counted_all count xs i next total none past so = let e = at_drop_all count xs i past ∙ none in omega (arith, e, so)

pub none_counted : (n m : ℕ) → m ≡ 0 → n ≡ n + m
none_counted n m e = omega (arith, e)
