use Rattle.std.proofs.Common.{◌∙◌, IfOk, ap, sym, subst, refl, Bool, ◌≡◌}
use Rattle.cc_defs.specs.DeclarationFaults.{any_has, is_unknown, has_wrong_count, has_wrong_sort}
use Rattle.cc_sorts.specs.Declaring.{plain_declaration}
use Rattle.cc_sorts.specs.Lefts.{fault_of}
use Rattle.cc_sorts.proofs.Ranges.{head_fault, twice_is}
use Rattle.cc_sorts.proofs.fault.has.Goals as goal

pub returns-in-Twice : goal.returns-in-Twice
returns-in-Twice c = λ file line declared is_left.
    c.is_twice.ensures ∙ twice_is c.args.left.now declared file line c.args.declaration.now is_left
    ∙ ap (λ fault. any_has (fault_of fault) declared (plain_declaration file line c.args.declaration.now)) (sym c.in-Twice.is)

pub returns-in-Unknown : goal.returns-in-Unknown
returns-in-Unknown c = λ file line declared is_left.
    c.is_unknown.ensures file line declared is_left ∙ head_fault is_unknown declared file line c.args.declaration.now (λ left value sort. refl)
    ∙ ap (λ fault. any_has (fault_of fault) declared (plain_declaration file line c.args.declaration.now)) (sym c.in-Unknown.is)

pub returns-in-WrongCount : goal.returns-in-WrongCount
returns-in-WrongCount c = λ file line declared is_left.
    c.has_wrong_count.ensures file line declared is_left ∙ head_fault has_wrong_count declared file line c.args.declaration.now (λ left value sort. refl)
    ∙ ap (λ fault. any_has (fault_of fault) declared (plain_declaration file line c.args.declaration.now)) (sym c.in-WrongCount.is)

pub returns-in-WrongSort : goal.returns-in-WrongSort
returns-in-WrongSort c = λ file line declared is_left.
    subst (λ (w : Bool). IfOk c.has_wrong_sort.result (λ has. has ≡ w))
    (head_fault has_wrong_sort declared file line c.args.declaration.now (λ left value sort. refl)
    ∙ ap (λ fault. any_has (fault_of fault) declared (plain_declaration file line c.args.declaration.now)) (sym c.in-WrongSort.is))
    (c.has_wrong_sort.ensures file line declared is_left)
