-- What a run works on: the description, the query and the key that its words name; and what is refused of these, in order.
use Rattle.std.specs.Prelude.{◌≡◌, ℕ, ◌≤◌, ◌⊎◌, Bool, false, List, [], Option, Some, None, IsNone, find, option_and_then}
use Rattle.std.specs.Option.{option_or, option_map_or}
use Rattle.cc_list.specs.Descriptions.{description_of, ground_refusal}
use Rattle.cc_defs.specs.declared.lists.Key.{Key}
use Rattle.cc_defs.specs.declared.refusal.Refusal.{Refusal}
use Rattle.cc_defs.specs.Description.{Description, sizes_at}
use Rattle.cc_defs.specs.Grammar.{same_text}
use Rattle.cc_defs.specs.Resolved.{Query}
use Rattle.cc_defs.specs.Rows.{IsRow}
use Rattle.cc_defs.specs.Runs.{Ask, range_of}
use Rattle.cc_describe.specs.declared.heads.Heads.{Heads}
use Rattle.cc_describe.specs.declared.heads.Heads.TheVariants as heads
use Rattle.cc_describe.specs.Describing.{laws_behind, queries_behind}
use Rattle.cc_describe.specs.FirstRefusal.{declared_in, file_named, first_refusal, opened_until}
use Rattle.cc_describe.specs.Places.{Files, Place, opened_in, AreAllPlaces, AreThere}
use Rattle.cc_ground.specs.Counting.{laws_refusal}
use Rattle.cc_laws.specs.Questions.{first, steps_refusal}
use Rattle.cc_print.specs.Keys.{IsKeyText}
use Rattle.cc_words.specs.Readings.{reading}
use Rattle.cc_words.specs.Requests.{Listing, Request, asked_of}
use Rattle.cc_words.specs.Words.{Text}

-- ---- what is named

-- what the words ask for
abbrev pub request_of : List Text → Option Request
request_of words = option_and_then asked_of (reading words)

-- what words name: a file, the label of a query, and a key
pub record Named : Type 0 where
  pub file : Text
  pub query : Option Text
  pub after : Option Text

abbrev pub named_by : Listing → Named
named_by listing = record { file = listing.file; query = listing.query; after = listing.after }

-- the description that these places make, and its queries
abbrev pub description_in : List Place → Description
description_in places = description_of (declared_in places) (laws_behind heads.Definite [] places)

abbrev pub queries_in : List Place → List Query
queries_in places = queries_behind [] places

-- the first query with the label; without a label, the first one
abbrev pub has_label : Text → Query → Bool
has_label label query = option_map_or (same_text label) query.label false

abbrev pub query_named : Option Text → List Query → Option Query
query_named None queries = first queries
query_named (Some label) queries = find (has_label label) queries

-- The text is that of a key of the query, which has no claim: a row of one of its horizons.
pub record IsKeyOf (d : Description) (q : Query) (text : Text) (key : Key) : Type 0 where
  pub spelled : IsKeyText text key
  pub least : (range_of q).0 ≤ key.horizon
  pub most : key.horizon ≤ (range_of q).1
  pub row : IsRow (sizes_at d key.horizon) key.row
  pub claim : IsNone q.claim

abbrev pub IsKeyNamed : Description → Query → Option Text → Option Key → Type 0
IsKeyNamed d q None None = Unit {0}
IsKeyNamed d q None (Some key) = ⊥
IsKeyNamed d q (Some text) None = ⊥
IsKeyNamed d q (Some text) (Some key) = IsKeyOf d q text key

abbrev pub HasNoKey : Description → Query → Option Text → Type 0
HasNoKey d q None = ⊥
HasNoKey d q (Some text) = (key : Key) → IsKeyOf d q text key → ⊥

-- ---- what is refused

abbrev pub refusal_without_place : ℕ → Refusal
refusal_without_place number = record { number = number; file = 0; line = 0; limit = None }

-- 15 where there is no such query; then the refusal of its steps, and of its nodes
abbrev pub query_refusal : Description → Option Query → Option Refusal
query_refusal d None = Some (refusal_without_place 15)
query_refusal d (Some q) = option_or (steps_refusal d.universe.symbols q) (ground_refusal d q)

-- that of the laws, then that of the query
abbrev pub asked_refusal : Description → Option Query → Option Refusal
asked_refusal d q = option_or (laws_refusal d.universe d.laws) (query_refusal d q)

-- the places of the description, which have no refusal where laws may have such heads, and whose files are there
pub record AreReadFor (which : Heads) (files : Files) (file : Text) (places : List Place) : Type 0 where
  pub all : AreAllPlaces files file places
  pub unrefused : first_refusal which places ≡ None
  pub there : AreThere files (opened_in places)

abbrev pub AreRead : Files → (file : Text) → List Place → Type 0
AreRead files file places = AreReadFor heads.Definite files file places

-- The refusal of what is named, and the name of the file that it speaks of: the first of the description,
pub record RefusesDescriptionFor (which : Heads) (files : Files) (main : Text) (refusal : Refusal) (file : Text) : Type 0 where
  pub places : List Place
  pub all : AreAllPlaces files main places
  pub refused : first_refusal which places ≡ Some refusal
  pub there : AreThere files (opened_until which [] places)
  pub name : file ≡ file_named (opened_until which [] places) refusal

abbrev pub RefusesDescription : Files → Named → Refusal → Text → Type 0
RefusesDescription files named refusal file = RefusesDescriptionFor heads.Definite files named.file refusal file

-- then that of its laws and the query,
pub record RefusesQuery (files : Files) (named : Named) (refusal : Refusal) (file : Text) : Type 0 where
  pub places : List Place
  pub read : AreRead files named.file places
  pub refused : asked_refusal (description_in places) (query_named named.query (queries_in places)) ≡ Some refusal
  pub name : file ≡ file_named (opened_in places) refusal

-- then 18.
pub record RefusesKey (files : Files) (named : Named) (refusal : Refusal) (file : Text) : Type 0 where
  pub places : List Place
  pub read : AreRead files named.file places
  pub query : Query
  pub named_is : query_named named.query (queries_in places) ≡ Some query
  pub unrefused : asked_refusal (description_in places) (Some query) ≡ None
  pub no_key : HasNoKey (description_in places) query named.after
  pub refused : refusal ≡ refusal_without_place 18
  pub name : file ≡ []

abbrev pub RefusesNamed : Files → Named → Refusal → Text → Type 0
RefusesNamed files named refusal file =
    RefusesDescription files named refusal file ⊎ (RefusesQuery files named refusal file ⊎ RefusesKey files named refusal file)

-- ---- what is worked on

-- a description, a query of it, and what is asked
pub record Task : Type 0 where
  pub description : Description
  pub query : Query
  pub ask : Ask

-- it is the one that is named, and nothing of it is refused
pub record IsTask (files : Files) (named : Named) (task : Task) : Type 0 where
  pub places : List Place
  pub read : AreRead files named.file places
  pub description : task.description ≡ description_in places
  pub query : query_named named.query (queries_in places) ≡ Some task.query
  pub unrefused : asked_refusal task.description (Some task.query) ≡ None
  pub key : IsKeyNamed task.description task.query named.after task.ask.after
