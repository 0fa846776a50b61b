use Rattle.std.proofs.Common.{◌≡◌, List, map, flat_map, OnOk, ◌++◌, ap, sym, subst, ◌∙◌}
use Rattle.cc_defs.specs.Declarations.{Declaration, declarations_of, part_declarations, sort_declarations, object_declarations, variable_declarations, constant_declarations}
use Rattle.cc_defs.specs.Trees.{plain_statement, plain_part, plain_sort_item, plain_obj_item, plain_list_item, plain_const_item}
use Rattle.cc_sorts.specs.Declaring.{plain_declarations}
use Rattle.cc_sorts.proofs.declaration.add_declarations.Goals as goal

pub returns-in-Sorts : goal.returns-in-Sorts
returns-in-Sorts c = λ file.
    let line = c.args.statement.now.line
    in let e : flat_map (sort_declarations) (map plain_sort_item c.in-Sorts.items) ≡ declarations_of file (plain_statement c.args.statement.now) =
    sym (ap (λ part. part_declarations file line (plain_part part)) (sym c.deref.ensures ∙ c.in-Sorts.is))
    in subst (λ (declarations : List Declaration). OnOk c.add_sort_items.result (plain_declarations file line c.add_sort_items.new.found.items ≡ plain_declarations file line c.args.found.now.items ++ declarations)) e (c.add_sort_items.ensures file line)

pub returns-in-Objects : goal.returns-in-Objects
returns-in-Objects c = λ file.
    let line = c.args.statement.now.line
    in let e : flat_map (object_declarations) (map plain_obj_item c.in-Objects.items) ≡ declarations_of file (plain_statement c.args.statement.now) =
    sym (ap (λ part. part_declarations file line (plain_part part)) (sym c.deref.ensures ∙ c.in-Objects.is))
    in subst (λ (declarations : List Declaration). OnOk c.add_object_items.result (plain_declarations file line c.add_object_items.new.found.items ≡ plain_declarations file line c.args.found.now.items ++ declarations)) e (c.add_object_items.ensures file line)

pub returns-in-Variables : goal.returns-in-Variables
returns-in-Variables c = λ file.
    let line = c.args.statement.now.line
    in let e : flat_map (variable_declarations) (map plain_list_item c.in-Variables.items) ≡ declarations_of file (plain_statement c.args.statement.now) =
    sym (ap (λ part. part_declarations file line (plain_part part)) (sym c.deref.ensures ∙ c.in-Variables.is))
    in subst (λ (declarations : List Declaration). OnOk c.add_variable_items.result (plain_declarations file line c.add_variable_items.new.found.items ≡ plain_declarations file line c.args.found.now.items ++ declarations)) e (c.add_variable_items.ensures file line)

pub returns-in-Constants : goal.returns-in-Constants
returns-in-Constants c = λ file.
    let line = c.args.statement.now.line
    in let e : flat_map (constant_declarations file line) (map plain_const_item c.in-Constants.items) ≡ declarations_of file (plain_statement c.args.statement.now) =
    sym (ap (λ part. part_declarations file line (plain_part part)) (sym c.deref.ensures ∙ c.in-Constants.is))
    in subst (λ (declarations : List Declaration). OnOk c.add_const_items.result (plain_declarations file line c.add_const_items.new.found.items ≡ plain_declarations file line c.args.found.now.items ++ declarations)) e (c.add_const_items.ensures file line)
