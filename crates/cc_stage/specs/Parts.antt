-- How the parts of a stage make its clause, and what is always true of them.
use Rattle.std.specs.Prelude.{List}
use Rattle.cc_defs.specs.Clauses.{Literal}
use Rattle.cc_stage.specs.declared.stage.Stage.TheInside.{Inside}
use Rattle.cc_stage.specs.Marks.{IsCovered, clause_of}

abbrev pub view_of : Inside → List Literal
view_of stage = clause_of stage.marks.items

abbrev pub IsStage : Inside → Type 0
IsStage stage = IsCovered stage.marks.items stage.touched.items
