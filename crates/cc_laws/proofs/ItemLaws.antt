-- The base laws of one constant of a kind.
use Rattle.std.proofs.Common.{ℕ, List}
use Rattle.cc_defs.specs.Resolved.{BaseLaw}
use Rattle.cc_defs.specs.Trees.{PlainConstItem, PlainShape}
use Rattle.cc_laws.specs.Expansion.{constant_laws}
use Rattle.cc_laws.specs.Vocabulary.{Vocabulary, meaning}

abbrev pub laws_of_shape : ℕ → Vocabulary → ℕ → PlainConstItem → PlainShape → List BaseLaw
laws_of_shape file v line item = λ shape. constant_laws file v line item.kind (meaning v shape.name)
