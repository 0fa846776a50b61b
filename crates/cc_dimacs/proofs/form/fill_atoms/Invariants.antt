use Rattle.std.proofs.Common.{◌≡◌, ◌++◌, drop, map}
use Rattle.cc_dimacs.specs.Cnfs.{atom_of}
use Rattle.cc_dimacs.proofs.form.fill_atoms.Given as goal

-- the literals so far, with those that are left, are all
abbrev pub invariant-loop-literal : goal.invariant-loop-literal
invariant-loop-literal l = l.atoms.items ++ map atom_of (drop l.literal-index l.clause) ≡ map atom_of l.clause
