-- How the ground laws of parts and those of heads are put together.
use Rattle.std.specs.Prelude.{List, [], ◌∷◌, Option, Some, None}
use Rattle.cc_defs.specs.declared.node.Node.{Node}
use Rattle.cc_defs.specs.GroundLaws.{PlainGroundLaw}
use Rattle.cc_wide.specs.WideGrounds.{PlainWideGround}

-- the term of a head: of the two that are grounded by heads, only a law of `noconcurrency` has an `after` part, and its head is false
abbrev pub head_term : List Node → List Node → Option (List Node) → List Node
head_term falsehood term None = term
head_term falsehood term (Some after) = falsehood

abbrev pub joined_law : List Node → PlainGroundLaw → PlainGroundLaw → PlainWideGround
joined_law falsehood parts told = record {
  head = head_term falsehood told.body told.after;
  body = parts.body;
  after = parts.after;
  kind = parts.kind;
  base = parts.base;
}

-- one by one
abbrev pub joined : List Node → List PlainGroundLaw → List PlainGroundLaw → List PlainWideGround
joined falsehood [] heads = []
joined falsehood (law ∷ laws) [] = []
joined falsehood (law ∷ laws) (told ∷ heads) = joined_law falsehood law told ∷ joined falsehood laws heads
