-- What words name of a description that was read: its laws and a query of it, ground, and a key; or what is refused of these.
use Rattle.std.specs.Prelude.{◌≡◌, ◌≤◌, ◌⊎◌, ℕ, List, Option, Some, None, IfSome}
use Rattle.cc_arena.specs.declared.ground_laws.GroundLaw.{GroundLaw}
use Rattle.cc_defs.specs.declared.lists.Key.{Key}
use Rattle.cc_defs.specs.declared.refusal.Fault.{Fault}
use Rattle.cc_defs.specs.declared.refusal.Fault.TheVariants as faults
use Rattle.cc_defs.specs.declared.refusal.Refusal.{Refusal}
use Rattle.cc_defs.specs.declared.signature.Symbol.{Symbol}
use Rattle.cc_defs.specs.Limits.{most_steps}
use Rattle.cc_defs.specs.Description.{Description}
use Rattle.cc_defs.specs.GroundLaws.{PlainGroundQuery, StandsForQuery}
use Rattle.cc_defs.specs.Resolved.{Query}
use Rattle.cc_defs.specs.Signatures.{Signature}
use Rattle.cc_form.specs.Queries.{IsQueryAt}
use Rattle.cc_laws.specs.Questions.{steps_refusal}
use Rattle.cc_lists.specs.Horizons.{Fits}
use Rattle.cc_list.specs.Tasks.{HasNoKey, IsKeyNamed, asked_refusal, query_named, query_refusal, refusal_without_place}
use Rattle.cc_theory.specs.Theories.{AreLawsFor, AreLawsOf}
use Rattle.cc_words.specs.Words.{Text}

-- laws, a query and a key can be searched with
pub record AreSearchable (signature : Signature) (laws : List GroundLaw) (query : PlainGroundQuery) (key : Option Key) : Type 0 where
  pub laws_fit : AreLawsFor signature laws
  pub ordered : query.lo ≤ query.hi
  pub most : query.hi ≤ most_steps
  pub steps : (horizon : ℕ) → query.lo ≤ horizon → horizon ≤ query.hi → IsQueryAt signature horizon query
  pub key_fits : IfSome key (Fits signature query)

-- they are those of a description and a query of it
pub record AreOf (signature : Signature) (laws : List GroundLaw) (query : PlainGroundQuery) (d : Description) (q : Query) : Type 0 where
  pub laws_are : AreLawsOf signature laws d
  pub query_is : StandsForQuery query d q

-- this query and this key are named, and nothing of them is refused
pub record AreNamed (d : Description) (queries : List Query) (label after : Option Text) (q : Query) (key : Option Key) : Type 0 where
  pub query : query_named label queries ≡ Some q
  pub unrefused : asked_refusal d (Some q) ≡ None
  pub key_is : IsKeyNamed d q after key

-- the ground query stands for the one that is named, and nothing of it is refused
pub record IsAskedAs (d : Description) (queries : List Query) (label : Option Text) (made : PlainGroundQuery) : Type 0 where
  pub query : Query
  pub named_is : query_named label queries ≡ Some query
  pub unrefused : query_refusal d (Some query) ≡ None
  pub stands : StandsForQuery made d query

-- 15 where there is no such query, or the refusal of its steps
abbrev pub found_refusal : List Symbol → Option Query → Option Refusal
found_refusal symbols None = Some (refusal_without_place 15)
found_refusal symbols (Some query) = steps_refusal symbols query

-- the refusal of what is named
abbrev pub IsRefusedNamed : Description → List Query → (label after : Option Text) → Refusal → Type 0
IsRefusedNamed d queries label after refusal =
    (asked_refusal d (query_named label queries) ≡ Some refusal)
    ⊎ ((q : Query) × (query_named label queries ≡ Some q) × (asked_refusal d (Some q) ≡ None) × HasNoKey d q after
    × (refusal ≡ refusal_without_place 18))

-- or memory was wanting
abbrev pub IsFaultNamed : Description → List Query → (label after : Option Text) → Fault → Type 0
IsFaultNamed d queries label after (faults.Refused refusal) = IsRefusedNamed d queries label after refusal
IsFaultNamed d queries label after faults.OutOfMemory = Unit {0}

-- no key of the query is the text, or memory was wanting
abbrev pub IsKeyFault : Description → Query → Option Text → Fault → Type 0
IsKeyFault d q after (faults.Refused refusal) = HasNoKey d q after × (refusal ≡ refusal_without_place 18)
IsKeyFault d q after faults.OutOfMemory = Unit {0}
