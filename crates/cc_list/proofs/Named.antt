-- The query and the key that words name, and what is refused of them.
use Rattle.std.proofs.Common.{◌≡◌, ◌∙◌, refl, sym, ap, subst, ℕ, ◌≤◌, Bool, true, false, cond, List, [], ◌∷◌, map, Option, Some, None, Result, Ok, Err, inl, inr, option_map, unwrap_or, find}
use Rattle.std.specs.Prelude.{◌↔◌, IfErr, IfOk, IsErrAnd, IsNone, IsTrue, OnOk}
use Rattle.std.specs.List.{AllByRecursion}
use Rattle.std.proofs.lemmas.Bool.{iff_false}
use Rattle.std.specs.Option.{option_or}
use Rattle.cc_defs.specs.declared.lists.Key.{Key}
use Rattle.cc_defs.specs.declared.refusal.Fault.{Fault}
use Rattle.cc_defs.specs.declared.refusal.Fault.TheVariants as faults
use Rattle.cc_defs.specs.declared.refusal.Refusal.{Refusal}
use Rattle.cc_defs.specs.declared.signature.Symbol.{Symbol}
use Rattle.cc_defs.specs.Conditions.{IsSignatureOfDescription}
use Rattle.cc_defs.specs.Declarations.{Declaration, Declared, constants, symbols, symbol_of}
use Rattle.cc_defs.specs.Description.{Description}
use Rattle.cc_defs.specs.GroundLaws.{PlainGroundQuery, StandsForQuery, ground_condition}
use Rattle.cc_defs.specs.Refusals.{IsRefusedBy}
use Rattle.cc_defs.specs.Resolved.{Condition, Query}
use Rattle.cc_defs.specs.Universe.{Universe}
use Rattle.cc_describe.specs.declared.description.Described.{Described}
use Rattle.cc_list.specs.Descriptions.{IsDescriptionOf, ground_refusal}
use Rattle.cc_ground.specs.Counting.{laws_refusal}
use Rattle.cc_laws.specs.Questions.{first, steps_refusal}
use Rattle.cc_print.specs.Keys.{IsKeyText}
use Rattle.cc_print.specs.Laws.{OneKey}
use Rattle.cc_lists.specs.Horizons.{FitsIn}
use Rattle.cc_list.specs.Asking.{IsAskedAs, IsFaultNamed, IsKeyFault, found_refusal}
use Rattle.cc_list.specs.Tasks.{HasNoKey, IsKeyOf, asked_refusal, has_label, query_named, query_refusal}
use Rattle.cc_sorts.specs.Tables.{IsTable, TableView, placed_of}
use Rattle.cc_words.specs.Words.{Text}

-- ---- the query

-- what is true of all queries is true of the one that is found
same_query : (a b : Query) → Some a ≡ Some b → a ≡ b
same_query a b e = cc

in_first : (P : Query → Type 0) (queries : List Query) (q : Query) → first queries ≡ Some q → AllByRecursion P queries → P q
in_first P [] q is all = absurd cc
in_first P (query ∷ queries) q is all = subst P (same_query query q is) all.0

in_found : (P : Query → Type 0) (test : Query → Bool) (queries : List Query) (q : Query) → find test queries ≡ Some q → AllByRecursion P queries → P q
in_found P test [] q is all = absurd cc
in_found P test (query ∷ queries) q is all = chosen (test query) (λ e. in_found P test queries q e all.1) is
  where
    chosen : (b : Bool) → (find test queries ≡ Some q → P q) → cond b (Some query) (find test queries) ≡ Some q → P q
    chosen true behind e = subst P (same_query query q e) all.0
    chosen false behind e = behind e

pub in_named : (P : Query → Type 0) (label : Option Text) (queries : List Query) (q : Query) → query_named label queries ≡ Some q → AllByRecursion P queries → P q
in_named P None queries q is all = in_first P queries q is all
in_named P (Some label) queries q is all = in_found P (has_label label) queries q is all

-- the symbols of a table are those of the description
symbols_placed : (declarations : List Declaration) (found : List Declared) →
    map (λ placed. placed.symbol) (placed_of declarations found) ≡ map (symbol_of declarations) found
symbols_placed declarations [] = refl
symbols_placed declarations (constant ∷ others) = ap (λ (w : List Symbol). symbol_of declarations constant ∷ w) (symbols_placed declarations others)

symbols_are : (table : TableView) (declarations : List Declaration) → IsTable table declarations →
    map (λ placed. placed.symbol) table.symbols ≡ symbols declarations
symbols_are table declarations is = ap (map (λ placed. placed.symbol)) is.symbols_are ∙ symbols_placed declarations (constants declarations)

pub symbols_of : (described : Described) (d : Description) → IsDescriptionOf described d →
    map (λ placed. placed.symbol) described.table.symbols ≡ d.universe.symbols
symbols_of described d of = symbols_are described.table of.declarations of.table ∙ sym (ap (λ (x : Description). x.universe.symbols) of.is)

-- what is found of a query is what is refused of it
refused_in_front : (front behind : Option Refusal) (fault : Fault) → IsRefusedBy front fault → IsRefusedBy (option_or front behind) fault
refused_in_front front behind faults.OutOfMemory is = tt
refused_in_front front behind (faults.Refused refusal) is = ap (λ r. option_or r behind) is

refused_behind : (front behind : Option Refusal) (fault : Fault) → front ≡ None → IsRefusedBy behind fault → IsRefusedBy (option_or front behind) fault
refused_behind front behind faults.OutOfMemory none is = tt
refused_behind front behind (faults.Refused refusal) none is = ap (λ r. option_or r behind) none ∙ is

pub refused_found : (d : Description) (found : List Symbol) (q : Option Query) (fault : Fault) → found ≡ d.universe.symbols → IsRefusedBy (found_refusal found q) fault →
    IsRefusedBy (query_refusal d q) fault
refused_found d found None fault same is = is
refused_found d found (Some q) fault same is =
    refused_in_front (steps_refusal d.universe.symbols q) (ground_refusal d q) fault (subst (λ w. IsRefusedBy (steps_refusal w q) fault) same is)

pub exit_found : {X : Type 0} (d : Description) (found : List Symbol) (q : Option Query) (fault : Fault) (s : Result X Fault) → IsErrAnd s (λ e. e ≡ fault) →
    found ≡ d.universe.symbols → IsRefusedBy (found_refusal found q) fault → IfErr s (IsRefusedBy (query_refusal d q))
exit_found d found q fault (Ok x) err same is = absurd err
exit_found d found q fault (Err e) err same is = subst (λ w. IsRefusedBy (query_refusal d q) w) (sym err) (refused_found d found q fault same is)

-- a query whose steps are not refused
pub refused_nodes : (d : Description) (found : List Symbol) (named : Option Query) (q : Query) (fault : Fault) → found ≡ d.universe.symbols → named ≡ Some q →
    steps_refusal found q ≡ None → IsRefusedBy (ground_refusal d q) fault → IsRefusedBy (query_refusal d named) fault
refused_nodes d found named q fault same is none refused =
    subst (λ w. IsRefusedBy (query_refusal d w) fault) (sym is)
    (refused_behind (steps_refusal d.universe.symbols q) (ground_refusal d q) fault (subst (λ w. steps_refusal w q ≡ None) same none) refused)

-- nor are its nodes: nothing of it is refused
pub unrefused_query : (d : Description) (found : List Symbol) (q : Query) → found ≡ d.universe.symbols → steps_refusal found q ≡ None → ground_refusal d q ≡ None →
    query_refusal d (Some q) ≡ None
unrefused_query d found q same none few = ap (λ r. option_or r (ground_refusal d q)) (subst (λ w. steps_refusal w q ≡ None) same none) ∙ few

asked_as : (d : Description) (found : List Symbol) (queries : List Query) (label : Option Text) (q : Query) (made : PlainGroundQuery) → found ≡ d.universe.symbols →
    query_named label queries ≡ Some q → steps_refusal found q ≡ None → ground_refusal d q ≡ None → StandsForQuery made d q → IsAskedAs d queries label made
asked_as d found queries label q made same is none few stands =
    record { query = q; named_is = is; unrefused = unrefused_query d found q same none few; stands = stands }

pub asked_ok : {X : Type 0} (view : X → PlainGroundQuery) (d : Description) (found : List Symbol) (queries : List Query) (label : Option Text) (q : Query) (r : Result X Fault) →
    found ≡ d.universe.symbols → query_named label queries ≡ Some q → steps_refusal found q ≡ None → OnOk r (ground_refusal d q ≡ None) →
    IfOk r (λ made. StandsForQuery (view made) d q) → IfOk r (λ made. IsAskedAs d queries label (view made))
asked_ok view d found queries label q (Ok made) same is none few stands = asked_as d found queries label q (view made) same is none few stands
asked_ok view d found queries label q (Err fault) same is none few stands = tt

-- ---- the key

unclaimed : (u : Universe) (claim : Option Condition) → IsNone (option_map (ground_condition u) claim) → IsNone claim
unclaimed u None is = refl
unclaimed u (Some claim) is = is

unclaimed_made : (u : Universe) (claim : Option Condition) → IsNone claim → IsNone (option_map (ground_condition u) claim)
unclaimed_made u None is = refl
unclaimed_made u (Some claim) is = is

-- a key that fits a query is one of its keys, and the other way round
pub is_key : (d : Description) (q : Query) (made : PlainGroundQuery) (text : Text) (key : Key) → StandsForQuery made d q → IsKeyText text key → FitsIn d made key → IsKeyOf d q text key
is_key d q made text key (range, is, same) spelled fit = record {
  spelled = spelled;
  least = subst (λ (r : Option (ℕ × ℕ)). (unwrap_or r (1, 0)).0 ≤ key.horizon) (sym is) (subst (λ (p : PlainGroundQuery). p.lo ≤ key.horizon) same fit.least);
  most = subst (λ (r : Option (ℕ × ℕ)). key.horizon ≤ (unwrap_or r (1, 0)).1) (sym is) (subst (λ (p : PlainGroundQuery). key.horizon ≤ p.hi) same fit.most);
  row = fit.row;
  claim = unclaimed d.universe q.claim (subst (λ (p : PlainGroundQuery). IsNone p.claim) same fit.claim);
}

pub key_fits : (d : Description) (q : Query) (made : PlainGroundQuery) (text : Text) (key : Key) → StandsForQuery made d q → IsKeyOf d q text key → FitsIn d made key
key_fits d q made text key (range, is, same) of = record {
  least = subst (λ (p : PlainGroundQuery). p.lo ≤ key.horizon) (sym same) (subst (λ (r : Option (ℕ × ℕ)). (unwrap_or r (1, 0)).0 ≤ key.horizon) is of.least);
  most = subst (λ (p : PlainGroundQuery). key.horizon ≤ p.hi) (sym same) (subst (λ (r : Option (ℕ × ℕ)). key.horizon ≤ (unwrap_or r (1, 0)).1) is of.most);
  claim = subst (λ (p : PlainGroundQuery). IsNone p.claim) (sym same) (unclaimed_made d.universe q.claim of.claim);
  row = of.row;
}

-- a text of one key that does not fit is that of no key of the query
pub no_key_fits : OneKey → (d : Description) (q : Query) (made : PlainGroundQuery) (text : Text) (key : Key) → StandsForQuery made d q → IsKeyText text key →
    (FitsIn d made key → ⊥) → HasNoKey d q (Some text)
no_key_fits one d q made text key stands spelled unfit = λ other of.
    unfit (subst (λ k. FitsIn d made k) (one text other key of.spelled spelled) (key_fits d q made text other stands of))

pub unfit : {P : Type 0} (b : Bool) → (IsTrue b ↔ P) → b ≡ false → P → ⊥
unfit b same is p = iff_false same is p

-- nor is a text of no key
pub no_key_spelled : (d : Description) (q : Query) (text : Text) → ((key : Key) → IsKeyText text key → ⊥) → HasNoKey d q (Some text)
no_key_spelled d q text none = λ key of. none key of.spelled

-- ---- what is named

fault_laws : (d : Description) (queries : List Query) (label after : Option Text) (fault : Fault) → IsRefusedBy (laws_refusal d.universe d.laws) fault →
    IsFaultNamed d queries label after fault
fault_laws d queries label after faults.OutOfMemory is = tt
fault_laws d queries label after (faults.Refused refusal) is = inl (ap (λ r. option_or r (query_refusal d (query_named label queries))) is)

fault_query : (d : Description) (queries : List Query) (label after : Option Text) (fault : Fault) → laws_refusal d.universe d.laws ≡ None →
    IsRefusedBy (query_refusal d (query_named label queries)) fault → IsFaultNamed d queries label after fault
fault_query d queries label after faults.OutOfMemory none is = tt
fault_query d queries label after (faults.Refused refusal) none is =
    inl (ap (λ r. option_or r (query_refusal d (query_named label queries))) none ∙ is)

pub unrefused_as : (d : Description) (q : Query) → laws_refusal d.universe d.laws ≡ None → query_refusal d (Some q) ≡ None → asked_refusal d (Some q) ≡ None
unrefused_as d q none unrefused = ap (λ r. option_or r (query_refusal d (Some q))) none ∙ unrefused

fault_key : (d : Description) (queries : List Query) (label after : Option Text) (q : Query) (fault : Fault) → laws_refusal d.universe d.laws ≡ None →
    query_named label queries ≡ Some q → query_refusal d (Some q) ≡ None → IsKeyFault d q after fault → IsFaultNamed d queries label after fault
fault_key d queries label after q faults.OutOfMemory none is unrefused no_key = tt
fault_key d queries label after q (faults.Refused refusal) none is unrefused no_key = inr (q, is, unrefused_as d q none unrefused, no_key.0, no_key.1)

-- the faults where a call hands one on
pub exit_laws : {X : Type 0} (d : Description) (queries : List Query) (label after : Option Text) (fault : Fault) (s : Result X Fault) → IsErrAnd s (λ e. e ≡ fault) →
    IsRefusedBy (laws_refusal d.universe d.laws) fault → IfErr s (IsFaultNamed d queries label after)
exit_laws d queries label after fault (Ok x) err is = absurd err
exit_laws d queries label after fault (Err e) err is = subst (IsFaultNamed d queries label after) (sym err) (fault_laws d queries label after fault is)

pub exit_query : {X : Type 0} (d : Description) (queries : List Query) (label after : Option Text) (fault : Fault) (s : Result X Fault) → IsErrAnd s (λ e. e ≡ fault) →
    laws_refusal d.universe d.laws ≡ None → IsRefusedBy (query_refusal d (query_named label queries)) fault → IfErr s (IsFaultNamed d queries label after)
exit_query d queries label after fault (Ok x) err none is = absurd err
exit_query d queries label after fault (Err e) err none is = subst (IsFaultNamed d queries label after) (sym err) (fault_query d queries label after fault none is)

pub exit_key : {X : Type 0} (d : Description) (queries : List Query) (label after : Option Text) (made : PlainGroundQuery) (fault : Fault) (s : Result X Fault) →
    IsErrAnd s (λ e. e ≡ fault) → laws_refusal d.universe d.laws ≡ None → (asked : IsAskedAs d queries label made) → IsKeyFault d asked.query after fault →
    IfErr s (IsFaultNamed d queries label after)
exit_key d queries label after made fault (Ok x) err none asked no_key = absurd err
exit_key d queries label after made fault (Err e) err none asked no_key =
    subst (IsFaultNamed d queries label after) (sym err) (fault_key d queries label after asked.query fault none asked.named_is asked.unrefused no_key)

pub exit_no_key : {X : Type 0} (d : Description) (q : Query) (after : Option Text) (fault : Fault) (s : Result X Fault) → IsErrAnd s (λ e. e ≡ fault) →
    IsKeyFault d q after fault → IfErr s (IsKeyFault d q after)
exit_no_key d q after fault (Ok x) err is = absurd err
exit_no_key d q after fault (Err e) err is = subst (IsKeyFault d q after) (sym err) is

pub signature_of : (described : Described) (d : Description) → IsDescriptionOf described d → IsSignatureOfDescription d described.sig
signature_of described d of = subst (λ (x : Description). IsSignatureOfDescription x described.sig) (sym of.is)
    (record { fluents = ap (λ s. s.fluents) of.signature.1; actions = ap (λ s. s.actions) of.signature.1; numbers = ap (λ s. s.numbers) of.signature.1 })
