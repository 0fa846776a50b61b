use Rattle.std.proofs.Common.{◌≡◌, drop}
use Rattle.cc_laws.specs.Expansion.{places}
use Rattle.cc_laws.specs.Views.{row_terms}
use Rattle.cc_laws.proofs.TermRows.{behind}
use Rattle.cc_laws.proofs.expansion.places.Given as goal

abbrev pub invariant-loop-place : goal.invariant-loop-place
invariant-loop-place l = behind (row_terms l.made.items) (places l.place (drop l.place l.sorts)) ≡ places 0 l.sorts
