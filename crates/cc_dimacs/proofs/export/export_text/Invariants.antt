use Rattle.std.proofs.Common.{◌≡◌, ◌++◌, drop, flat_map, string_bytes}
use Rattle.cc_dimacs.specs.CnfTexts.{clause_line}
use Rattle.cc_dimacs.proofs.export.export_text.Given as goal

-- the text so far, with what is left to write, is the whole text
abbrev pub invariant-loop-index : goal.invariant-loop-index
invariant-loop-index l =
    string_bytes l.text ++ flat_map clause_line (drop l.index l.form.clauses)
    ≡ string_bytes l.initial.text ++ flat_map clause_line l.form.clauses
