-- The base laws of a statement at a table, by the declarations that the table has.
use Rattle.std.proofs.Common.{◌≡◌, ◌∙◌, ℕ, List, ap}
use Rattle.cc_defs.specs.Declarations.{Declaration}
use Rattle.cc_defs.specs.Resolved.{BaseLaw}
use Rattle.cc_defs.specs.Trees.{PlainPart}
use Rattle.cc_sorts.specs.Tables.{TableView, IsTable}
use Rattle.cc_laws.specs.Expansion.{base_laws}
use Rattle.cc_laws.specs.Vocabulary.{Vocabulary, vocabulary, vocabulary_of}
use Rattle.cc_laws.proofs.Vocabularies.{same_vocabulary}

pub expanded_so : (file : ℕ) (table : TableView) (left : List Declaration) (line : ℕ) (part : PlainPart) (laws : List BaseLaw) → IsTable table left →
    laws ≡ base_laws file (vocabulary_of table) line part → laws ≡ base_laws file (vocabulary left) line part
expanded_so file table left line part laws is e = e ∙ ap (λ (v : Vocabulary). base_laws file v line part) (same_vocabulary table left is)
