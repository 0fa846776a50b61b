-- What the answers of models mode mean: what is listed are the models of the CNF.
use Rattle.std.specs.Prelude.{◌≡◌, ◌≢◌, ℕ, List, [], ◌++◌, length, Some}
use Rattle.cc_corollaries.specs.Ran.{AskedForModels}
use Rattle.cc_defs.specs.declared.log.EndWord.TheVariants as words
use Rattle.cc_defs.specs.Histories.{AreAllOf, AreFirstOf}
use Rattle.cc_dimacs.specs.Cnfs.{PlainCnf, IsModelOf}
use Rattle.cc_ports.specs.Contents.{Contents}
use Rattle.cc_tell.specs.declared.status.Status.TheVariants as statuses
use Rattle.cc_tell_modes.specs.ModelTexts.{model_lines, models_end}

-- Code 0: what is printed is all models of the CNF, ascending, each once.
abbrev pub CompleteMeansAllOfThem : Type 0
CompleteMeansAllOfThem = (cnf : PlainCnf) (after : Contents) → AskedForModels cnf statuses.Right after →
    (models : List (List ℕ)) × AreAllOf (IsModelOf cnf) models × (models ≢ [])
    × (after.out ≡ model_lines 1 models ++ models_end (length models) words.Empty)

-- As many were listed as were asked for: what is printed is the first so many.
abbrev pub AskedMeansTheFirstOfThem : Type 0
AskedMeansTheFirstOfThem = (cnf : PlainCnf) (after : Contents) → (asked : AskedForModels cnf statuses.Asked after) →
    (models : List (List ℕ)) × AreFirstOf (IsModelOf cnf) models × (asked.modelling.count ≡ Some (length models))
    × (after.out ≡ model_lines 1 models ++ models_end (length models) words.Found)

-- Code 1: the CNF has no model.
abbrev pub NoModelMeansNone : Type 0
NoModelMeansNone = (cnf : PlainCnf) (after : Contents) → AskedForModels cnf statuses.Not after → (model : List ℕ) → IsModelOf cnf model → ⊥
