-- Each of the eight rows is tried.
use Rattle.std.proofs.Common.{refl}
use Rattle.std.specs.List.Sorted.{IsStrictlySortedBy}
use Rattle.cc_tests_texts.specs.Examples.{lamp, lamp_ends_on}
use Rattle.cc_tests_texts.proofs.Finite.{listing}
use Rattle.cc_tests_texts.proofs.examples.lamp_ends_on_in_two_ways.Goals as goal

pub returns : goal.returns
unfolding IsStrictlySortedBy
returns c = listing lamp lamp_ends_on 0 _ refl ((refl, tt), (tt, tt)) refl refl
