use Rattle.std.proofs.Common.{◌≡◌, drop}
use Rattle.std.specs.List.{list_any}
use Rattle.cc_words.specs.Requests.{has}
use Rattle.cc_words.specs.Views.{plain_given}
use Rattle.cc_words.proofs.given.Given.has_any.Given as goal

abbrev pub invariant-loop-item : goal.invariant-loop-item
invariant-loop-item l = list_any (has (plain_given l.self)) (drop l.item-index l.items) ≡ list_any (has (plain_given l.self)) l.items
