-- The row that words name, what is refused of it, and what is given.
use Rattle.std.proofs.Common.{◌≡◌, ◌∙◌, refl, sym, ap, subst, ℕ, ◌<◌, ◌≤◌, Bool, true, false, cond, List, [], length, nat_lt, Option, Some, None, IfSome, Result, Ok, Err, IfOk, inl, inr, arith}
use Rattle.std.specs.Prelude.{◌↔◌, IfErr, IsErrAnd, IsTrue}
use Rattle.std.proofs.lemmas.Bool.{iff_false}
use Rattle.std.proofs.lemmas.Bool.Decides.{nat_tests}
use Rattle.cc_arena.specs.declared.ground_laws.GroundLaw.{GroundLaw}
use Rattle.cc_defs.specs.declared.lists.Key.{Key}
use Rattle.cc_defs.specs.declared.refusal.Fault.{Fault}
use Rattle.cc_defs.specs.declared.refusal.Fault.TheVariants as faults
use Rattle.cc_defs.specs.declared.refusal.LimitAt.TheVariants as limits
use Rattle.cc_defs.specs.declared.refusal.Refusal.{Refusal}
use Rattle.cc_defs.specs.Description.{Description, sizes_at}
use Rattle.cc_defs.specs.Limits.{most_rules, most_steps}
use Rattle.cc_defs.specs.Paths.{IsPath}
use Rattle.cc_defs.specs.Refusals.{IsRefusedBy, past}
use Rattle.cc_defs.specs.Rows.{IsRow}
use Rattle.cc_defs.specs.Signatures.{Signature}
use Rattle.cc_defs.specs.TimedRules.{timed_rules}
use Rattle.cc_describe.specs.declared.description.Described.{Described}
use Rattle.cc_describe.specs.declared.heads.Heads.TheVariants as heads
use Rattle.cc_describe.specs.Describing.{IsDescribed}
use Rattle.cc_describe.specs.FirstRefusal.{file_named}
use Rattle.cc_describe.specs.Places.{Files, Place, opened_in}
use Rattle.cc_ground.specs.Counting.{laws_refusal}
use Rattle.cc_list.proofs.Described.{IsRead}
use Rattle.cc_ports.specs.Contents.{Contents}
use Rattle.cc_ports.specs.declared.desk.To.TheVariants as outputs
use Rattle.cc_ports.specs.Moments.{Moment}
use Rattle.cc_print.specs.Keys.{IsKeyText}
use Rattle.cc_print.specs.Laws.{OneKey}
use Rattle.cc_run.specs.WhyTold.{IsWhyFault, IsLookedAt, IsRowFault, TellsRow}
use Rattle.cc_run.specs.Modes.Why.{TellsWhy, HasNoRow, IsToldWhy, IsRowNamed, MayEndWhy, RefusesRow, RefusesRowOf, why_promise, no_history_line}
use Rattle.cc_list.specs.Promises.{Keeps}
use Rattle.cc_list.specs.Stops.{Prints}
use Rattle.cc_list.specs.Tasks.{AreRead, description_in}
use Rattle.cc_list.specs.Wholes.{Whole}
use Rattle.cc_tell.specs.declared.status.Status.{Status}
use Rattle.cc_tell.specs.declared.status.Status.TheVariants as statuses
use Rattle.cc_tell.specs.declared.status.Stop.{Stop}
use Rattle.cc_tell_modes.specs.CauseTexts.{why_text}
use Rattle.cc_tell.specs.Steps.{Step}
use Rattle.cc_tell.specs.Givens.{given_to, only_out}
use Rattle.cc_theory.specs.Theories.{rules_refusal}
use Rattle.cc_words.specs.Requests.{SayingWhy}
use Rattle.cc_words.specs.Words.{Text}
use Rattle.cc_list.proofs.Outcomes.{asks_no_more, known, prints_whole}

-- ---- the row

-- a text of one key that is not that of a row is that of no row
pub no_row : OneKey → (d : Description) (text : Text) (key : Key) → IsKeyText text key → (IsRowNamed d text key → ⊥) → HasNoRow d text
no_row one d text key spelled other = λ found named. other (subst (λ (k : Key). IsRowNamed d text k) (one text found key named.spelled spelled) named)

-- nor is a text of no key
pub no_row_spelled : (d : Description) (text : Text) → ((key : Key) → IsKeyText text key → ⊥) → HasNoRow d text
no_row_spelled d text none = λ key named. none key named.spelled

pub too_far : (d : Description) (text : Text) (key : Key) (most : ℕ) → most ≡ most_steps → most < key.horizon → IsRowNamed d text key → ⊥
too_far d text key most is far named = let low = named.most in omega arith

pub no_indexes : (d : Description) (text : Text) (key : Key) (row : List ℕ) (b : Bool) → row ≡ key.row → (IsTrue b ↔ IsRow (sizes_at d key.horizon) row) → b ≡ false →
    IsRowNamed d text key → ⊥
no_indexes d text key row b same is none named = iff_false is none (subst (λ (l : List ℕ). IsRow (sizes_at d key.horizon) l) (sym same) named.row)

-- ---- what is refused, where a call hands it on

grounding_fault : (d : Description) (text : Text) (fault : Fault) → IsRefusedBy (laws_refusal d.universe d.laws) fault → IsWhyFault d text fault
grounding_fault d text faults.OutOfMemory is = tt
grounding_fault d text (faults.Refused refusal) is = inl is

row_fault : (d : Description) (text : Text) (fault : Fault) → laws_refusal d.universe d.laws ≡ None → IsRowFault d text fault → IsWhyFault d text fault
row_fault d text faults.OutOfMemory none is = tt
row_fault d text (faults.Refused refusal) none is = inr (none, inl is)

rules_fault : (d : Description) (text : Text) (key : Key) (fault : Fault) → laws_refusal d.universe d.laws ≡ None → IsRowNamed d text key →
    IsRefusedBy (rules_refusal d key.horizon) fault → IsWhyFault d text fault
rules_fault d text key faults.OutOfMemory none named is = tt
rules_fault d text key (faults.Refused refusal) none named is = inr (none, inr (key, named, is))

pub exit_grounding : {X : Type 0} (d : Description) (text : Text) (fault : Fault) (s : Result X Fault) → IsErrAnd s (λ e. e ≡ fault) →
    IsRefusedBy (laws_refusal d.universe d.laws) fault → IfErr s (IsWhyFault d text)
exit_grounding d text fault (Ok x) err is = absurd err
exit_grounding d text fault (Err e) err is = subst (IsWhyFault d text) (sym err) (grounding_fault d text fault is)

pub exit_row : {X : Type 0} (d : Description) (text : Text) (fault : Fault) (s : Result X Fault) → IsErrAnd s (λ e. e ≡ fault) → laws_refusal d.universe d.laws ≡ None →
    IsRowFault d text fault → IfErr s (IsWhyFault d text)
exit_row d text fault (Ok x) err none is = absurd err
exit_row d text fault (Err e) err none is = subst (IsWhyFault d text) (sym err) (row_fault d text fault none is)

pub exit_rules : {X : Type 0} (d : Description) (text : Text) (key : Key) (fault : Fault) (s : Result X Fault) → IsErrAnd s (λ e. e ≡ fault) →
    laws_refusal d.universe d.laws ≡ None → IsRowNamed d text key → IsRefusedBy (rules_refusal d key.horizon) fault → IfErr s (IsWhyFault d text)
exit_rules d text key fault (Ok x) err none named is = absurd err
exit_rules d text key fault (Err e) err none named is = subst (IsWhyFault d text) (sym err) (rules_fault d text key fault none named is)

-- the file that a refusal of the row speaks of: none
unplaced_rules : (names : List Text) (b : Bool) (refusal : Refusal) → cond b (Some (past limits.Rules)) None ≡ Some refusal → file_named names refusal ≡ []
unplaced_rules names true refusal is = ap (file_named names) (same_refusal refusal (past limits.Rules) (sym is))
  where
    same_refusal : (a b : Refusal) → Some a ≡ Some b → a ≡ b
    same_refusal a b e = cc
unplaced_rules names false refusal is = absurd cc

unplaced : (names : List Text) (d : Description) (text : Text) (refusal : Refusal) → RefusesRowOf d text refusal → file_named names refusal ≡ []
unplaced names d text refusal (inl no_row) = ap (file_named names) no_row.1
unplaced names d text refusal (inr (key, named, is)) = unplaced_rules names (nat_lt most_rules (length (timed_rules d key.horizon))) refusal is

row_refused : (files : Files) (saying : SayingWhy) (places : List Place) (described : Described) (refusal : Refusal) (file : Text) → IsDescribed heads.Definite places described →
    AreRead files saying.file places → file ≡ file_named described.files refusal → IsWhyFault (description_in places) saying.key (faults.Refused refusal) →
    RefusesRow files saying refusal file
row_refused files saying places described refusal file said read name (inl is) = record {
  places = places;
  read = read;
  refused = inl (is, name ∙ ap (λ names. file_named names refusal) said.names);
}
row_refused files saying places described refusal file said read name (inr (none, is)) = record {
  places = places;
  read = read;
  refused = inr (none, is, name ∙ unplaced described.files (description_in places) saying.key refusal is);
}

pub refuses_row : (o : Option Contents) (saying : SayingWhy) (described : Described) (of : IsRead heads.Definite o (λ files. files) saying.file described) (refusal : Refusal)
    (file : Text) → file ≡ file_named described.files refusal →
    IsWhyFault (description_in of.places) saying.key (faults.Refused refusal) → IfSome o (λ before. (why_promise saying).Refuses before.files refusal file)
refuses_row o saying described of refusal file name fault =
    known o (λ before. AreRead before.files saying.file of.places) (λ before. (why_promise saying).Refuses before.files refusal file)
    (λ before read. inr (row_refused before.files saying of.places described refusal file of.said read name fault)) of.read

-- the text of the key, as the words give it
pub fault_as : (d : Description) (a b : Text) (fault : Fault) → a ≡ b → IsWhyFault d b fault → IsWhyFault d a fault
fault_as d a b fault same is = subst (λ (text : Text). IsWhyFault d text fault) (sym same) is

pub looked_as : (d : Description) (signature : Signature) (a b : Text) (laws : List GroundLaw) (key : Key) (is_path : Bool) → a ≡ b →
    IsLookedAt d signature b laws key is_path → IsLookedAt d signature a laws key is_path
looked_as d signature a b laws key is_path same is = subst (λ (text : Text). IsLookedAt d signature text laws key is_path) (sym same) is

-- ---- what is given

pub ended_as : (status : Status) (r : Result Status Stop) → IfOk r (λ s. s ≡ status) → IfOk r (λ s. Some status ≡ Some s)
ended_as status (Ok s) is = ap Some (sym is)
ended_as status (Err stop) is = tt

-- nothing is said of the status of a run that stopped
pub stopped_so : {X : Type 0} (P : X → Type 0) (e : Stop) (r : Result X Stop) → IsErrAnd r (λ d. d ≡ e) → IfOk r P
stopped_so P e (Ok v) is = absurd is
stopped_so P e (Err d) is = tt

pub tells_history : (d : Description) (names : List Text) (key : Key) (x z : Moment) (r : Result Status Stop) → IsPath d key.horizon key.row →
    Step (given_to outputs.Out (why_text d names key.horizon key.row)) x z r → IfOk r (λ status. status ≡ statuses.Right) → TellsRow d names key x z r
tells_history d names key x z r path step is = record {
  whole = record { given = only_out (why_text d names key.horizon key.row); begun = false; ends = Some statuses.Right };
  explained = inl (path, refl, refl);
  begun = refl;
  step = step;
  ended = ended_as statuses.Right r is;
}

pub tells_none : (d : Description) (names : List Text) (key : Key) (x z : Moment) (r : Result Status Stop) → (IsPath d key.horizon key.row → ⊥) →
    Step (only_out no_history_line) x z r → IfOk r (λ status. status ≡ statuses.Not) → TellsRow d names key x z r
tells_none d names key x z r no_path step is = record {
  whole = record { given = only_out no_history_line; begun = false; ends = Some statuses.Not };
  explained = inr (no_path, refl, refl);
  begun = refl;
  step = step;
  ended = ended_as statuses.Not r is;
}

some_status : (a b : Status) (o : Option Status) → o ≡ Some a → o ≡ Some b → a ≡ b
some_status a b o one other = cc

may_end : (d : Description) (names : List Text) (key : Key) (whole : Whole) (status : Status) → IsToldWhy d names key whole → whole.ends ≡ Some status → MayEndWhy status
may_end d names key whole status (inl explained) is = subst MayEndWhy (some_status statuses.Right status whole.ends explained.2 is) tt
may_end d names key whole status (inr explained) is = subst MayEndWhy (some_status statuses.Not status whole.ends explained.2 is) tt

ends_so : (saying : SayingWhy) (d : Description) (names : List Text) (key : Key) (whole : Whole) (r : Result Status Stop) →
    IsToldWhy d names key whole → IfOk r (λ status. whole.ends ≡ Some status) → IfOk r ((why_promise saying).MayEnd)
ends_so saying d names key whole (Ok status) explained ended =
    (may_end d names key whole status explained ended)
ends_so saying d names key whole (Err stop) explained ended = tt

-- the names of the files, by the places
told_why_as : (d : Description) (names all : List Text) (key : Key) (whole : Whole) → names ≡ all → IsToldWhy d names key whole → IsToldWhy d all key whole
told_why_as d names all key whole same is = subst (λ (w : List Text). IsToldWhy d w key whole) same is

why_given : (files : Files) (saying : SayingWhy) (places : List Place) (described : Described) (signature : Signature) (laws : List GroundLaw) (key : Key)
    (is_path : Bool) (whole : Whole) → IsDescribed heads.Definite places described → AreRead files saying.file places →
    IsLookedAt (description_in places) signature saying.key laws key is_path → IsToldWhy (description_in places) described.files key whole → whole.begun ≡ false →
    Keeps (why_promise saying) files whole
why_given files saying places described signature laws key is_path whole said read looked explained begun = inr explains
  where
    explains : TellsWhy saying files whole
    explains = record {
      places = places;
      read = read;
      laws = looked.unrefused;
      key = key;
      row = looked.named;
      rules = looked.rules;
      explained = told_why_as (description_in places) described.files (opened_in places) key whole said.names explained;
      begun = begun;
    }

pub prints_why : (saying : SayingWhy) (described : Described) (signature : Signature) (laws : List GroundLaw) (key : Key) (is_path : Bool) (x z : Moment)
    (r : Result Status Stop) → (of : IsRead heads.Definite x.told (λ files. files) saying.file described) →
    IsLookedAt (description_in of.places) signature saying.key laws key is_path → TellsRow (description_in of.places) described.files key x z r → Prints (why_promise saying) false [] x z r
prints_why saying described signature laws key is_path x z r of looked tells =
    prints_whole (why_promise saying) false [] tells.whole x z r
    (known x.told (λ before. AreRead before.files saying.file of.places) (λ before. Keeps (why_promise saying) before.files tells.whole)
    (λ before read. why_given before.files saying of.places described signature laws key is_path tells.whole of.said read looked tells.explained tells.begun) of.read)
    tells.begun tells.step tells.ended (ends_so saying (description_in of.places) described.files key tells.whole r tells.explained tells.ended)
    (asks_no_more (why_promise saying) x z r (λ _. refl) tells.step.moves.called)

-- so few rules are not refused
pub rules_fit : (d : Description) (horizon : ℕ) → length (timed_rules d horizon) ≤ most_rules → rules_refusal d horizon ≡ None
rules_fit d horizon few = grind (arith, nat_tests)
