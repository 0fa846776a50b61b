-- Ground laws and queries apart from where their terms lie.
use Rattle.std.specs.Prelude.{List, map}
use Rattle.std.specs.Option.{option_map}
use Rattle.cc_arena.specs.declared.ground_laws.GroundCondition.{GroundCondition}
use Rattle.cc_arena.specs.declared.ground_laws.GroundLaw.{GroundLaw}
use Rattle.cc_arena.specs.declared.ground_laws.GroundQuery.{GroundQuery}
use Rattle.cc_defs.specs.GroundLaws.{PlainGroundLaw, PlainGroundCondition, PlainGroundQuery}

abbrev pub plain_ground_law : GroundLaw → PlainGroundLaw
plain_ground_law law = record {
  head = law.head;
  body = law.body.now;
  after = option_map (λ nodes. nodes.now) law.after;
  kind = law.kind;
  base = law.base;
}

abbrev pub plain_ground_laws : List GroundLaw → List PlainGroundLaw
plain_ground_laws laws = map plain_ground_law laws

abbrev pub plain_ground_condition : GroundCondition → PlainGroundCondition
plain_ground_condition condition = record { at = condition.at; nodes = condition.nodes.now }

abbrev pub plain_ground_query : GroundQuery → PlainGroundQuery
plain_ground_query query = record {
  lo = query.lo;
  hi = query.hi;
  conditions = map plain_ground_condition query.conditions;
  claim = option_map plain_ground_condition query.claim;
}
