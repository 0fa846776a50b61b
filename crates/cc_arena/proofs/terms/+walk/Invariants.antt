use Rattle.std.proofs.Common.{◌≤◌, ◌-◌, slice_index}
use Rattle.cc_arena.specs.Walks.{arity}
use Rattle.cc_arena.proofs.Walking.{Midway}
use Rattle.cc_arena.proofs.terms.+walk.Given as goal

abbrev pub decreases-walk : goal.decreases-walk
decreases-walk l = l.end

abbrev pub invariant-loop-done : goal.invariant-loop-done
invariant-loop-done l = record {
  midway : Midway (λ number. slice_index l.constants number) l.term (l.end - 1) l.begin (arity l.node) l._done l.trues;
  before : l.begin ≤ l.end - 1;
  trues_within : l.trues ≤ l._done;
}
