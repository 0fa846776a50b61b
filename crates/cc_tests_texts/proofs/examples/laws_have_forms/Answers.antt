-- Part by part; a head of a fluent is none of an action.
use Rattle.std.proofs.Common.{◌≡◌, ℕ, true, false, List, [], ◌∷◌, Some, None, refl, arith}
use Rattle.cc_defs.specs.declared.node.GroundHead.TheVariants as ground_heads
use Rattle.cc_defs.specs.declared.node.Node.TheVariants as nodes
use Rattle.cc_defs.specs.declared.signature.LawKind.TheVariants as law_kinds
use Rattle.cc_defs.specs.Conditions.{HaveTheirKinds, IsGroundStatic}
use Rattle.cc_tests_texts.specs.Examples.{two_objects, one_from_the_other}
use Rattle.cc_defs.specs.Forms.{IsStatic}
use Rattle.cc_defs.specs.Terms as terms
use Rattle.cc_tests_texts.proofs.examples.laws_have_forms.Goals as goal

kinds : HaveTheirKinds two_objects
kinds = record { fluents = (refl, (refl, tt)); actions = tt; symbols = ((_, refl, refl), ((_, refl, refl), tt)) }

form : IsStatic two_objects.symbols one_from_the_other
form = record { head = (omega arith, refl); body = ((omega arith, tt), refl); after = refl }

first : IsGroundStatic two_objects (record { head = ground_heads.Atom 0 1; body = nodes.Atom 1 1 ∷ []; after = None; kind = law_kinds.Static; base = 0 })
first = record {
  head = (_, refl, omega arith);
  body = record { formula = terms.Atom 1 1; written = refl; fits = ((2, refl, omega arith), tt) };
  after = refl;
}

second : IsGroundStatic two_objects (record { head = ground_heads.Atom 1 1; body = nodes.Atom 0 1 ∷ []; after = None; kind = law_kinds.Static; base = 0 })
second = record {
  head = (_, refl, omega arith);
  body = record { formula = terms.Atom 0 1; written = refl; fits = ((2, refl, omega arith), tt) };
  after = refl;
}

pub returns : goal.returns
returns c = (kinds, (form, tt), (first, (second, tt)), λ forms. (let no : false ≡ true = forms.0.head in absurd cc))
