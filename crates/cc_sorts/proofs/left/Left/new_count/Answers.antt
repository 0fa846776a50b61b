use Rattle.std.proofs.Common.{◌∙◌, length, ap, sym}
use Rattle.std.specs.Option.{option_map}
use Rattle.std.proofs.lemmas.List.{length-map}
use Rattle.cc_sorts.specs.Lefts.{arguments_of, plain_constant}
use Rattle.cc_sorts.proofs.left.Left.new_count.Goals as goal

pub returns-in-Some : goal.returns-in-Some
returns-in-Some c =
    ap length c.items.ensures ∙ sym (length-map c.in-Some.constant.now.shape.now.sorts (λ sort. sort.now))
    ∙ ap (λ found. length (arguments_of (option_map plain_constant found))) c.in-Some.ensures.value

pub returns-in-None : goal.returns-in-None
returns-in-None c = ap (λ found. length (arguments_of (option_map plain_constant found))) c.in-None.ensures.value
