-- A pass over declarations in order, each judged by what stands to its left.
use Rattle.std.proofs.Common.{◌≡◌, ◌∙◌, ℕ, ◌+◌, ◌<◌, ◌≤◌, Bool, true, false, ◌||◌, List, ◌∷◌, ◌++◌, drop, length, get_or, suc, sym, ap, add-one, drop-cons}
use Rattle.std.proofs.lemmas.List.{drop_all}
use Rattle.cc_defs.specs.DeclarationFaults.{any_has}
use Rattle.cc_defs.specs.Declarations.{Declaration}
use Rattle.cc_sorts.specs.Declaring.{plain_declaration, plain_declarations}
use Rattle.cc_sorts.specs.Lefts.{IsLeft, Adds}
use Rattle.cc_sorts.specs.declared.declaration.Declaration.{Declaration as Given}
use Rattle.cc_sorts.specs.declared.left.Left.{Left}
use Rattle.cc_sorts.proofs.Clear.{has_append}
use Rattle.cc_sorts.proofs.Lefts.{left_more}

-- The declarations before this one have no such fault, and they stand to the left.
pub record HasPassed (fault : List Declaration → Declaration → Bool) (new : List Given) (i : ℕ) (now : Left) (file line : ℕ) (left : List Declaration) : Type 0 where
  pub front : List Declaration
  pub is_left : IsLeft now front
  pub rest : any_has fault left (plain_declarations file line new) ≡ any_has fault front (plain_declarations file line (drop i new))

rest_is : (file line : ℕ) (new : List Given) (i : ℕ) (item : Given) → i < length new → item ≡ get_or new i item →
    plain_declarations file line (drop i new) ≡ plain_declaration file line item ++ plain_declarations file line (drop (i + 1) new)
rest_is file line new i item within is_item =
    ap (λ (rest : List Given). plain_declarations file line rest) (drop-cons new i item within)
    ∙ ap (λ (x : Given). plain_declarations file line (x ∷ drop (suc i) new)) (sym is_item)
    ∙ ap (λ (k : ℕ). plain_declaration file line item ++ plain_declarations file line (drop k new)) (sym (add-one i))

module _ {fault : List Declaration → Declaration → Bool} {new : List Given} {i : ℕ} {now : Left} {file line : ℕ} {left : List Declaration} where
  next : (passed : HasPassed fault new i now file line left) (item : Given) → i < length new → item ≡ get_or new i item →
      any_has fault left (plain_declarations file line new)
      ≡ (any_has fault passed.front (plain_declaration file line item)
      || any_has fault (passed.front ++ plain_declaration file line item) (plain_declarations file line (drop (i + 1) new)))
  next passed item within is_item =
      passed.rest
      ∙ ap (any_has fault passed.front) (rest_is file line new i item within is_item)
      ∙ has_append fault passed.front (plain_declaration file line item) (plain_declarations file line (drop (i + 1) new))

  pub has_fault : (passed : HasPassed fault new i now file line left) (item : Given) → i < length new → item ≡ get_or new i item →
      (verdict : Bool) → verdict ≡ any_has fault passed.front (plain_declaration file line item) → verdict ≡ true → true ≡ any_has fault left (plain_declarations file line new)
  has_fault passed item within is_item verdict is_verdict faulty =
      ap (λ b. b || any_has fault (passed.front ++ plain_declaration file line item) (plain_declarations file line (drop (i + 1) new))) (sym faulty ∙ is_verdict)
      ∙ sym (next passed item within is_item)

  pub passes : (passed : HasPassed fault new i now file line left) (item : Given) (more : Left) (verdict : Bool) → i < length new → item ≡ get_or new i item →
      verdict ≡ any_has fault passed.front (plain_declaration file line item) → verdict ≡ false → Adds now more (plain_declaration file line item) →
      HasPassed fault new (i + 1) more file line left
  passes passed item more verdict within is_item is_verdict sound adds = record {
    front = passed.front ++ plain_declaration file line item;
    is_left = left_more now more passed.front (plain_declaration file line item) passed.is_left adds;
    rest = next passed item within is_item
        ∙ ap (λ b. b || any_has fault (passed.front ++ plain_declaration file line item) (plain_declarations file line (drop (i + 1) new))) (sym is_verdict ∙ sound);
  }

  pub all_passed : HasPassed fault new i now file line left → length new ≤ i → false ≡ any_has fault left (plain_declarations file line new)
  all_passed passed past = sym (passed.rest ∙ ap (λ rest. any_has fault passed.front (plain_declarations file line rest)) (drop_all i new past))
