use Rattle.std.proofs.Common.{◌≡◌, drop}
use Rattle.std.specs.List.{list_all}
use Rattle.cc_words.specs.Requests.{has}
use Rattle.cc_words.specs.Views.{plain_given}
use Rattle.cc_words.proofs.given.Given.has_all.Given as goal

abbrev pub invariant-loop-item : goal.invariant-loop-item
invariant-loop-item l = list_all (has (plain_given l.self)) (drop l.item-index l.items) ≡ list_all (has (plain_given l.self)) l.items
