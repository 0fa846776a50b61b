use Rattle.std.proofs.Common.{drop, flat_map}
use Rattle.cc_dimacs.specs.CnfTexts.{clause_line}
use Rattle.cc_ports.specs.declared.desk.To.TheVariants as outputs
use Rattle.cc_tell.proofs.LineSteps.{LinesSoFar}
use Rattle.cc_run.proofs.modes.export.tell_clauses.Given as goal

-- the lines of the clauses before this one were given
abbrev pub invariant-loop-index : goal.invariant-loop-index
invariant-loop-index g l =
    let desk = g.D.Desk in
    LinesSoFar outputs.Out (flat_map clause_line l.form.clauses) (flat_map clause_line (drop l.index l.form.clauses))
    (desk.seen l.initial.desk) (desk.seen l.desk)
