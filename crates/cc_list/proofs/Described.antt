-- A description that was read, by its places, and what is listed or refused of it.
use Rattle.std.proofs.Common.{append-nil, ◌≡◌, ◌∙◌, refl, sym, ap, subst, ℕ, List, [], ◌++◌, map, Option, Some, None, IfSome, Result, Err, inl, inr}
use Rattle.cc_list.specs.Descriptions.{IsDescriptionOf, description_of}
use Rattle.cc_defs.specs.declared.lists.Key.{Key}
use Rattle.cc_defs.specs.declared.refusal.Refusal.{Refusal}
use Rattle.cc_defs.specs.Resolved.{Query, plain_query}
use Rattle.cc_describe.specs.declared.description.Described.{Described}
use Rattle.cc_describe.specs.declared.description.DescribeStop.TheVariants as describe_stops
use Rattle.cc_describe.specs.declared.description.DescribeStop.{DescribeStop}
use Rattle.cc_describe.specs.declared.heads.Heads.{Heads}
use Rattle.cc_describe.specs.declared.heads.Heads.TheVariants as heads
use Rattle.cc_describe.specs.Describing.{AreFirstNames, AreToOpen, Describes, DescribesBy, HasStopped, IsDescribed, OpensFor, SaysAll, SaysBy}
use Rattle.cc_describe.specs.FirstRefusal.{declared_in, file_named}
use Rattle.cc_describe.specs.Places.{Files, Place}
use Rattle.cc_ports.specs.Contents.{Contents}
use Rattle.cc_list.specs.Asking.{AreNamed, IsRefusedNamed}
use Rattle.cc_list.specs.Tasks.{AreRead, AreReadFor, IsTask, Named, RefusesDescriptionFor, RefusesNamed, asked_refusal, description_in, query_named}
use Rattle.cc_words.specs.Words.{Text}
use Rattle.cc_list.proofs.Callings.{first_all}
use Rattle.cc_list.proofs.Outcomes.{known}

pub description_is : (places : List Place) (described : Described) → IsDescribed heads.Definite places described → IsDescriptionOf described (description_in places)
description_is places described is = record {
  declarations = declared_in places;
  table = is.table;
  signature = is.signature;
  is = ap (description_of (declared_in places)) (sym is.laws);
}

-- some places say all of it, and they are those of the files that it is read from, where the desk tells these
pub record IsReadBy (which : Heads) {T : Type 0} (Is : List Place → T → Type 0) (o : Option Contents) (source : Files → Files) (name : Text) (said_all : T) : Type 0 where
  pub places : List Place
  pub said : Is places said_all
  pub read : IfSome o (λ before. AreReadFor which (source before.files) name places)

pub is_read_by : (which : Heads) {T : Type 0} (Is : List Place → T → Type 0) (o : Option Contents) (source : Files → Files) (name : Text) (said_all : T) → SaysBy which Is said_all →
    IfSome o (λ before. DescribesBy which Is (source before.files) name said_all) → IsReadBy which Is o source name said_all
is_read_by which Is None source name said_all says describes = record { places = says.0; said = says.2; read = tt }
is_read_by which Is (Some c) source name said_all says describes = record {
  places = describes.0;
  said = describes.3;
  read = record { all = describes.1; unrefused = describes.2; there = describes.4 };
}

abbrev pub IsRead : Heads → Option Contents → (Files → Files) → Text → Described → Type 0
IsRead which o source name described = IsReadBy which (IsDescribed which) o source name described

pub is_read : (which : Heads) (o : Option Contents) (source : Files → Files) (name : Text) (described : Described) → SaysAll which described →
    IfSome o (λ before. Describes which (source before.files) name described) → IsRead which o source name described
is_read which o source name described says describes = is_read_by which (IsDescribed which) o source name described says describes

-- ---- what is listed

is_task : (files : Files) (by : Named) (places : List Place) (described : Described) (q : Query) (count : Option ℕ) (budget : ℕ) (key : Option Key) →
    IsDescribed heads.Definite places described → AreNamed (description_in places) (map plain_query described.queries) by.query by.after q key →
    AreRead files by.file places →
    IsTask files by (record { description = description_in places; query = q; ask = record { count = count; budget = budget; after = key } })
is_task files by places described q count budget key said named read = record {
  places = places;
  read = read;
  description = refl;
  query = subst (λ queries. query_named by.query queries ≡ Some q) said.queries named.query;
  unrefused = named.unrefused;
  key = named.key_is;
}

pub task_read : (o : Option Contents) (source : Files → Files) (by : Named) (described : Described) (of : IsRead heads.Definite o source by.file described) (q : Query) (key : Option Key) →
    AreNamed (description_in of.places) (map plain_query described.queries) by.query by.after q key → (count : Option ℕ) (budget : ℕ) →
    IfSome o (λ before. IsTask (source before.files) by (record { description = description_in of.places; query = q; ask = record { count = count; budget = budget; after = key } }))
task_read o source by described of q key named count budget =
    known o (λ before. AreRead (source before.files) by.file of.places)
    (λ before. IsTask (source before.files) by (record { description = description_in of.places; query = q; ask = record { count = count; budget = budget; after = key } }))
    (λ before read. is_task (source before.files) by of.places described q count budget key of.said named read) of.read

-- ---- what is refused

pub stopped_refuses : (which : Heads) (files : Files) (main : Text) (refusal : Refusal) (file : Text) → HasStopped which files main (describe_stops.Refused refusal file) →
    RefusesDescriptionFor which files main refusal file
stopped_refuses which files main refusal file stopped =
    record { places = stopped.0; all = stopped.1; refused = stopped.2; there = stopped.4; name = stopped.3 }

pub named_refused : (files : Files) (by : Named) (places : List Place) (described : Described) (refusal : Refusal) (file : Text) → IsDescribed heads.Definite places described →
    AreRead files by.file places → file ≡ file_named described.files refusal →
    IsRefusedNamed (description_in places) (map plain_query described.queries) by.query by.after refusal → RefusesNamed files by refusal file
named_refused files by places described refusal file said read name (inl refused) = inr (inl (record {
  places = places;
  read = read;
  refused = subst (λ queries. asked_refusal (description_in places) (query_named by.query queries) ≡ Some refusal) said.queries refused;
  name = name ∙ ap (λ names. file_named names refusal) said.names;
}))
named_refused files by places described refusal file said read name (inr (q, named, unrefused, no_key, same)) = inr (inr (record {
  places = places;
  read = read;
  query = q;
  named_is = subst (λ queries. query_named by.query queries ≡ Some q) said.queries named;
  unrefused = unrefused;
  no_key = no_key;
  refused = same;
  name = name ∙ ap (file_named described.files) same;
}))

-- ---- what is opened

abbrev pub stopped : {T : Type 0} → DescribeStop → Result T DescribeStop
stopped stop = Err stop

pub first_files : (T : Type 0) (which : Heads) (files : Files) (name : Text) (stop : DescribeStop) (names : List Text) → OpensFor which files name (stopped {T = T} stop) names →
    (all : List Text) × AreToOpen which files name all × AreFirstNames names all
first_files T which files name (describe_stops.Refused refusal file) names are = (names, are, first_all names)
first_files T which files name describe_stops.ReadFault names are = are
first_files T which files name describe_stops.OutOfMemory names are = are

-- the files of a description were opened, or the first of them
pub first_named : (o : Option Contents) (which : Heads) (name : Text) (stop : DescribeStop) (names : List Text) → IfSome o (λ c. OpensFor which c.files name (stopped {T = Described} stop) names) →
    (all : List Text) × AreFirstNames names all × IfSome o (λ c. AreToOpen which c.files name all)
first_named None which name stop names opens = (names, first_all names, tt)
first_named (Some c) which name stop names opens =
    let there = first_files Described which c.files name stop names opens in
    (there.0, there.2, there.1)

-- all of them were, and none is to be opened behind them
pub all_named : (o : Option Contents) (which : Heads) (name : Text) (names : List Text) → IfSome o (λ c. AreToOpen which c.files name names) →
    IfSome o (λ c. AreToOpen which c.files name (names ++ []))
all_named o which name names =
    known o (λ c. AreToOpen which c.files name names) (λ c. AreToOpen which c.files name (names ++ []))
    (λ c are. subst (AreToOpen which c.files name) (sym (append-nil names)) are)
