use Rattle.std.specs.Str.Iter.{split_inclusive_text}
use Rattle.cc_ports.specs.declared.desk.To.TheVariants as outputs
use Rattle.cc_tell.proofs.LineSteps.{LinesSoFar}
use Rattle.cc_tell.proofs.telling.give_lines.Given as goal

-- what was given, before what is left of the text, is the whole
abbrev pub invariant-loop-line : goal.invariant-loop-line
invariant-loop-line g l =
    let desk = g.D.Desk in
    record {
      can : (goal.iterator-loop-line g).can_next l.line-iterator;
      finite : (goal.iterator-loop-line g).is_finite l.line-iterator;
      given : LinesSoFar outputs.Out l.text (split_inclusive_text l.line-iterator)
          (desk.seen l.initial.desk) (desk.seen l.desk);
    }
