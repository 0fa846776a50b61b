-- What is prepared for a search, in the words of its definitions.
use Rattle.std.specs.Prelude.{Option}
use Rattle.cc_arena.specs.GroundViews.{plain_ground_query}
use Rattle.cc_defs.specs.declared.lists.Key.{Key}
use Rattle.cc_defs.specs.Description.{Description}
use Rattle.cc_defs.specs.Resolved.{Query}
use Rattle.cc_describe.specs.declared.description.Described.{Described}
use Rattle.cc_list.specs.declared.asking.Prepared.{Prepared}
use Rattle.cc_list.specs.Asking.{AreOf, AreSearchable}

-- laws and query stand for those of a description
abbrev pub StandsFor : Described → Prepared → Description → Query → Type 0
StandsFor described prepared d q = AreOf described.sig prepared.laws (plain_ground_query prepared.query) d q

-- they can be searched, behind a key
abbrev pub IsSearchable : Described → Prepared → Option Key → Type 0
IsSearchable described prepared key = AreSearchable described.sig prepared.laws (plain_ground_query prepared.query) key
