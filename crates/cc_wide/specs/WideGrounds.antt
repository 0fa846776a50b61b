-- Ground laws with heads of any form: what descriptions stand for, with the terms of their formulas.
use Rattle.std.specs.Prelude.{◌≡◌, ℕ, List, [], ◌∷◌, map, Option, Some, None}
use Rattle.std.specs.Option.{option_map}
use Rattle.cc_defs.specs.declared.node.Node.{Node}
use Rattle.cc_defs.specs.declared.signature.LawKind.{LawKind}
use Rattle.cc_defs.specs.declared.signature.LawKind.TheVariants as kinds
use Rattle.cc_defs.specs.Description.{Description}
use Rattle.cc_defs.specs.Nodes.{nodes_of}
use Rattle.cc_defs.specs.Satisfaction.{giving}
use Rattle.cc_defs.specs.Terms.{postfix, all_of}
use Rattle.cc_defs.specs.Terms as terms
use Rattle.cc_defs.specs.Universe.{Universe}
use Rattle.cc_wide.specs.WideLaws.{WideDescription}
use Rattle.cc_wide.specs.WideRules.{Together, Under, WideInstance, wide_instances}
use Rattle.cc_wide.specs.declared.ground.WideGroundLaw.{WideGroundLaw}

pub record PlainWideGround : Type 0 where
  pub head : List Node
  pub body : List Node
  pub after : Option (List Node)
  pub kind : LawKind
  pub base : ℕ

abbrev pub plain_wide_ground : WideGroundLaw → PlainWideGround
plain_wide_ground law = record {
  head = law.head.now;
  body = law.body.now;
  after = option_map (λ nodes. nodes.now) law.after;
  kind = law.kind;
  base = law.base;
}

-- that of an instance; of two actions it is `caused false after a & b`
abbrev pub wide_ground_of : Universe → WideInstance → PlainWideGround
wide_ground_of u (Under base law values) = record {
  head = nodes_of u (giving values) law.head;
  body = nodes_of u (giving values) law.body;
  after = option_map (nodes_of u (giving values)) law.after;
  kind = law.kind;
  base = base;
}
wide_ground_of u (Together base pair) = record {
  head = postfix terms.Falsehood;
  body = postfix terms.Truth;
  after = Some (postfix (all_of (terms.Atom pair.0 1 ∷ terms.Atom pair.1 1 ∷ [])));
  kind = kinds.FluentDynamic;
  base = base;
}

-- the ground laws stand for a description: one for each instance, in order
abbrev pub StandForWide : List WideGroundLaw → WideDescription → Type 0
StandForWide laws w = map plain_wide_ground laws ≡ map (wide_ground_of w.universe) (wide_instances w)
