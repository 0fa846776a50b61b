use Rattle.std.proofs.Common.{◌≡◌, List, ◌++◌, map, OnOk, ap, sym, subst, ◌∙◌}
use Rattle.cc_defs.specs.Declarations.{Declaration, sort_declarations}
use Rattle.cc_defs.specs.Trees.{Names, Chain, plain_sort_item}
use Rattle.cc_sorts.specs.Declaring.{plain_declarations}
use Rattle.cc_sorts.proofs.declaration.add_sort_item.Goals as goal

pub returns-in-Names : goal.returns-in-Names
returns-in-Names c = λ file line.
    let old = plain_declarations file line c.args.found.now.items
    in let e : sort_declarations (Names (map (λ name. name.now) c.items.result.now)) ≡ sort_declarations (plain_sort_item c.args.item.now) =
    ap (λ names. sort_declarations (Names (map (λ name. name.now) names))) c.items.ensures ∙ sym (ap (λ item. sort_declarations (plain_sort_item item)) c.in-Names.is)
    in subst (λ (new : List Declaration). OnOk c.add_sorts.result (plain_declarations file line c.add_sorts.new.found.items ≡ old ++ new)) e (c.add_sorts.ensures file line)

pub returns-in-Chain : goal.returns-in-Chain
returns-in-Chain c = λ file line.
    let old = plain_declarations file line c.args.found.now.items
    in let e : sort_declarations (Chain (map (λ name. name.now) c.items-in-Chain.result.now)) ≡ sort_declarations (plain_sort_item c.args.item.now) =
    ap (λ names. sort_declarations (Chain (map (λ name. name.now) names))) c.items-in-Chain.ensures ∙ sym (ap (λ item. sort_declarations (plain_sort_item item)) c.in-Chain.is)
    in subst (λ (new : List Declaration). OnOk c.add_chain.result (plain_declarations file line c.add_chain.new.found.items ≡ old ++ new)) e (c.add_chain.ensures file line)
