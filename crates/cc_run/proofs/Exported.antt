-- The clause list that is exported, what is refused of it, and how it is given.
use Rattle.std.proofs.Common.{◌≡◌, ◌∙◌, refl, sym, ap, subst, ℕ, zero, suc, ◌+◌, ◌-◌, ◌≤◌, Bool, true, false, cond, List, [], ◌∷◌, ◌++◌, append-nil, drop, flat_map, length, map, nat_lt, slice_get, Option, Some, None, IfSome, Result, Ok, Err, IfOk, inl, inr, unwrap_or, arith, add-one}
use Rattle.std.specs.Prelude.{◌||◌, IfErr, IsErrAnd, OnOk}
use Rattle.std.specs.Option.{option_or}
use Rattle.std.proofs.lemmas.Bool.{ltb-false}
use Rattle.std.proofs.lemmas.List.{drop_all}
use Rattle.cc_list.specs.Descriptions.{ground_refusal}
use Rattle.cc_defs.specs.ClauseLists.{ClauseList, clause_list}
use Rattle.cc_defs.specs.Clauses.{Literal}
use Rattle.cc_defs.specs.declared.refusal.Fault.{Fault}
use Rattle.cc_defs.specs.declared.refusal.Fault.TheVariants as faults
use Rattle.cc_defs.specs.declared.refusal.LimitAt.{LimitAt}
use Rattle.cc_defs.specs.declared.refusal.LimitAt.TheVariants as limits
use Rattle.cc_defs.specs.declared.refusal.Refusal.{Refusal}
use Rattle.cc_defs.specs.declared.signature.Symbol.{Symbol}
use Rattle.cc_defs.specs.Description.{Description}
use Rattle.cc_defs.specs.GroundLaws.{PlainGroundQuery, StandsForQuery}
use Rattle.cc_defs.specs.Limits.{most_clauses, most_literals, most_rules, most_steps, most_variables}
use Rattle.cc_defs.specs.Refusals.{IsRefusedBy, past}
use Rattle.cc_defs.specs.Resolved.{Query, plain_query}
use Rattle.cc_defs.specs.Sections.{Axioms}
use Rattle.cc_defs.specs.Signatures.{Signature}
use Rattle.cc_defs.specs.TimedRules.{timed_rules}
use Rattle.cc_describe.specs.declared.description.Described.{Described}
use Rattle.cc_describe.specs.declared.heads.Heads.TheVariants as heads
use Rattle.cc_describe.specs.Describing.{IsDescribed}
use Rattle.cc_describe.specs.FirstRefusal.{file_named}
use Rattle.cc_describe.specs.Places.{Files, Place}
use Rattle.cc_dimacs.specs.CnfTexts.{clause_line, export_of}
use Rattle.cc_form.specs.Forms.{TellsHistories, form_of, form_refusal}
use Rattle.cc_form.specs.Queries.{IsQueryAt}
use Rattle.cc_form.specs.Store.{literal_count_of}
use Rattle.cc_ground.specs.Counting.{laws_refusal}
use Rattle.cc_laws.specs.Questions.{step_refusal, steps_refusal}
use Rattle.cc_list.proofs.Described.{IsRead}
use Rattle.cc_ports.specs.Contents.{Contents}
use Rattle.cc_ports.specs.declared.desk.To.TheVariants as outputs
use Rattle.cc_ports.specs.Moments.{Moment}
use Rattle.cc_lists.specs.Horizons.{refusal_at}
use Rattle.cc_run.specs.Exported.{IsAskedAt, IsExportFault, IsExported, tried_refusal}
use Rattle.cc_run.specs.Modes.Exporting.{Exports, MayEndExporting, NamesHorizon, RefusesExporting, export_refusal, exporting_promise, horizon_refusal, is_outside}
use Rattle.cc_list.specs.Promises.{Keeps}
use Rattle.cc_list.specs.Stops.{Prints}
use Rattle.cc_list.specs.Tasks.{AreRead, description_in, queries_in, query_named, query_refusal}
use Rattle.cc_list.specs.Wholes.{Whole}
use Rattle.cc_tell.specs.declared.status.Status.{Status}
use Rattle.cc_tell.specs.declared.status.Status.TheVariants as statuses
use Rattle.cc_tell.specs.declared.status.Stop.{Stop}
use Rattle.cc_tell.specs.declared.status.Stop.TheVariants as stops
use Rattle.cc_tell.specs.Steps.{Step}
use Rattle.cc_tell.specs.Givens.{given_to, only_out}
use Rattle.cc_words.specs.Requests.{Exporting}
use Rattle.cc_words.specs.Words.{Text}
use Rattle.cc_tell.proofs.GivenSteps.{step_nothing}
use Rattle.cc_tell.proofs.LineSteps.{LinesSoFar, lines_end, lines_stop}
use Rattle.cc_run.proofs.WhyTold.{ended_as}
use Rattle.cc_list.proofs.Named.{refused_found, unrefused_query}
use Rattle.cc_list.proofs.Outcomes.{asks_no_more, known, prints_whole}

-- an error that is handed on
pub handed_on : {X : Type 0} (P : Fault → Type 0) (fault : Fault) (s : Result X Fault) → IsErrAnd s (λ e. e ≡ fault) → P fault → IfErr s P
handed_on P fault (Ok x) err is = absurd err
handed_on P fault (Err e) err is = subst P (sym err) is

-- ---- the query

-- what is refused of the query that is named, before it is ground
tried_so : (d : Description) (found : List Symbol) (q : Query) (outside : Bool) (fault : Fault) → found ≡ d.universe.symbols →
    IsRefusedBy (cond outside (Some (step_refusal q)) (steps_refusal found q)) fault → IsRefusedBy (cond outside (Some (step_refusal q)) (query_refusal d (Some q))) fault
tried_so d found q true fault same is = is
tried_so d found q false fault same is = refused_found d found (Some q) fault same is

pub refused_tried : (d : Description) (found : List Symbol) (q : Option Query) (horizon : ℕ) (fault : Fault) → found ≡ d.universe.symbols →
    IsRefusedBy (tried_refusal found q horizon) fault → IsRefusedBy (horizon_refusal d q horizon) fault
refused_tried d found None horizon fault same is = is
refused_tried d found (Some q) horizon fault same is = tried_so d found q (is_outside q horizon) fault same is

-- of a query that tries the horizon what is refused of any query
inside_so : (d : Description) (named : Option Query) (q : Query) (horizon : ℕ) → named ≡ Some q → is_outside q horizon ≡ false →
    horizon_refusal d named horizon ≡ query_refusal d named
inside_so d named q horizon is inside =
    ap (λ w. horizon_refusal d w horizon) is ∙ ap (λ b. cond b (Some (step_refusal q)) (query_refusal d (Some q))) inside ∙ sym (ap (λ w. query_refusal d w) is)

pub refused_inside : (d : Description) (named : Option Query) (q : Query) (horizon : ℕ) (fault : Fault) → named ≡ Some q → is_outside q horizon ≡ false →
    IsRefusedBy (query_refusal d named) fault → IsRefusedBy (horizon_refusal d named horizon) fault
refused_inside d named q horizon fault is inside refused = subst (λ o. IsRefusedBy o fault) (sym (inside_so d named q horizon is inside)) refused

pub asked_at : {X : Type 0} (view : X → PlainGroundQuery) (d : Description) (found : List Symbol) (queries : List Query) (label : Option Text) (horizon : ℕ) (q : Query) (r : Result X Fault) →
    found ≡ d.universe.symbols → query_named label queries ≡ Some q → is_outside q horizon ≡ false → steps_refusal found q ≡ None → OnOk r (ground_refusal d q ≡ None) →
    IfOk r (λ made. StandsForQuery (view made) d q) → IfOk r (λ made. IsAskedAt d queries label horizon (view made))
asked_at view d found queries label horizon q (Err fault) same is inside none few stands = tt
asked_at view d found queries label horizon q (Ok made) same is inside none few stands = record {
  query = q;
  named_is = is;
  unrefused = inside_so d (Some q) q horizon refl inside ∙ unrefused_query d found q same none few;
  stands = stands;
}

-- ---- the horizon

neither : (a b : Bool) → (a || b) ≡ false → (a ≡ false) × (b ≡ false)
neither true b is = absurd cc
neither false b is = (refl, is)

tries : (d : Description) (q : Query) (made : PlainGroundQuery) (horizon : ℕ) → StandsForQuery made d q → is_outside q horizon ≡ false →
    (made.lo ≤ horizon) × (horizon ≤ made.hi)
tries d q made horizon (range, is, same) inside =
    let within = neither (nat_lt horizon range.0) (nat_lt range.1 horizon)
    (subst (λ (r : Option (ℕ × ℕ)). (nat_lt horizon (unwrap_or r (1, 0)).0 || nat_lt (unwrap_or r (1, 0)).1 horizon) ≡ false) is inside) in (
      subst (λ (p : PlainGroundQuery). p.lo ≤ horizon) (sym same) (ltb-false horizon range.0 within.0),
      subst (λ (p : PlainGroundQuery). horizon ≤ p.hi) (sym same) (ltb-false range.1 horizon within.1),
    )

module _ {X : Type 0} (view : X → PlainGroundQuery) (d : Description) (q : Query) (horizon : ℕ) (inside : is_outside q horizon ≡ false) where
  pub at_horizon : (s : Signature) (r : Result X Fault) → IfOk r (λ made. StandsForQuery (view made) d q) →
      IfOk r (λ made. (horizon : ℕ) → (view made).lo ≤ horizon → horizon ≤ (view made).hi → IsQueryAt s horizon (view made)) → IfOk r (λ made. IsQueryAt s horizon (view made))
  at_horizon s (Ok made) stands at = let within = tries d q (view made) horizon stands inside in at horizon within.0 within.1
  at_horizon s (Err fault) stands at = tt

  pub few_steps : (r : Result X Fault) → IfOk r (λ made. StandsForQuery (view made) d q) →
      IfOk r (λ made. ((view made).lo ≤ (view made).hi) × ((view made).hi ≤ most_steps)) → OnOk r (horizon ≤ most_steps)
  few_steps (Ok made) stands range =
      let below = (tries d q (view made) horizon stands inside).1 in
      let most = range.1 in omega arith
  few_steps (Err fault) stands range = tt

-- ---- the clauses

module _ (d : Description) (queries : List Query) (label : Option Text) (horizon : ℕ) where
  pub fault_laws : (fault : Fault) → IsRefusedBy (laws_refusal d.universe d.laws) fault → IsExportFault d queries label horizon fault
  fault_laws faults.OutOfMemory is = tt
  fault_laws (faults.Refused refusal) is = inl (ap (λ r. option_or r (horizon_refusal d (query_named label queries) horizon)) is)

  pub fault_query : (fault : Fault) → laws_refusal d.universe d.laws ≡ None → IsRefusedBy (horizon_refusal d (query_named label queries) horizon) fault →
      IsExportFault d queries label horizon fault
  fault_query faults.OutOfMemory none is = tt
  fault_query (faults.Refused refusal) none is = inl (ap (λ r. option_or r (horizon_refusal d (query_named label queries) horizon)) none ∙ is)

  module _ (made : PlainGroundQuery) (none : laws_refusal d.universe d.laws ≡ None) (asked : IsAskedAt d queries label horizon made) where
    unrefused : export_refusal d (Some asked.query) horizon ≡ None
    unrefused = ap (λ r. option_or r (horizon_refusal d (Some asked.query) horizon)) none ∙ asked.unrefused

    pub exported_ok : (r : Result Axioms Fault) → IfOk r (λ form. form ≡ form_of d asked.query horizon true None) →
        OnOk r (TellsHistories d asked.query horizon None (form_of d asked.query horizon true None)) → OnOk r (refusal_at d asked.query horizon true None ≡ None) →
        IfOk r (IsExported d queries label horizon)
    exported_ok (Ok form) is tells within = record {
      query = asked.query;
      named_is = asked.named_is;
      unrefused = unrefused;
      within = within;
      form_is = is;
      tells = tells;
    }
    exported_ok (Err fault) is tells within = tt

    pub fault_form : (fault : Fault) → IsRefusedBy (refusal_at d asked.query horizon true None) fault → IsExportFault d queries label horizon fault
    fault_form faults.OutOfMemory is = tt
    fault_form (faults.Refused refusal) is = inr (asked.query, asked.named_is, unrefused, is)

-- ---- the lines

pub line_is : (clauses : List (List Literal)) (i : ℕ) (clause : List Literal) (line : List ℕ) → slice_get clauses (i + 1 - 1) ≡ Some clause → line ≡ clause_line clause →
    flat_map clause_line (drop i clauses) ≡ line ++ flat_map clause_line (drop (i + 1) clauses)
line_is clauses i clause line at is =
    let same : i + 1 - 1 ≡ i = omega arith in
    left clauses i (ap (λ (k : ℕ). slice_get clauses k) (sym same) ∙ at) ∙ ap (λ (k : ℕ). clause_line clause ++ flat_map clause_line (drop k clauses)) (sym (add-one i))
    ∙ ap (λ (l : List ℕ). l ++ flat_map clause_line (drop (i + 1) clauses)) (sym is)
  where
    left : (clauses : List (List Literal)) (i : ℕ) → slice_get clauses i ≡ Some clause → flat_map clause_line (drop i clauses) ≡ clause_line clause ++ flat_map clause_line (drop (suc i) clauses)
    left [] i at = absurd cc
    left (c ∷ clauses) zero at = let first : c ≡ clause = cc in ap (λ (x : List Literal). clause_line x ++ flat_map clause_line clauses) first
    left (c ∷ clauses) (suc i) at = left clauses i at

pub all_given : {X : Type 0} (clauses : List (List Literal)) (count i : ℕ) (x y : Moment) (v : X) → count ≡ length clauses → count ≤ i →
    LinesSoFar outputs.Out (flat_map clause_line clauses) (flat_map clause_line (drop i clauses)) x y → Step (given_to outputs.Out (flat_map clause_line clauses)) x y (Ok v)
all_given clauses count i x y v is end so_far =
    lines_end outputs.Out (flat_map clause_line clauses) (flat_map clause_line (drop i clauses)) x y so_far v (ap (λ (l : List (List Literal)). length (flat_map clause_line l)) (drop_all i clauses (subst (λ (k : ℕ). k ≤ i) is end)))

-- want of memory before a line
pub lines_lack : {X : Type 0} (text left : List ℕ) (x y : Moment) (s : Result X Stop) → LinesSoFar outputs.Out text left x y → IsErrAnd s (λ e. e ≡ stops.OutOfMemory) →
    Step (given_to outputs.Out text) x y s
lines_lack {X = X} text left x y s so_far same =
    let lacking : Result X Stop = Err stops.OutOfMemory in
    lines_stop outputs.Out text left x y so_far left [] (sym (append-nil left)) y lacking stops.OutOfMemory s (step_nothing (given_to outputs.Out left) y lacking refl) refl same

-- ---- the file that a refusal speaks of

-- a limit has none
at_limit : (names : List Text) (b : Bool) (limit : LimitAt) (others : Option Refusal) (refusal : Refusal) → (others ≡ Some refusal → file_named names refusal ≡ []) →
    cond b (Some (past limit)) others ≡ Some refusal → file_named names refusal ≡ []
at_limit names true limit others refusal behind is = ap (file_named names) (same_refusal refusal (past limit) (sym is))
  where
    same_refusal : (a b : Refusal) → Some a ≡ Some b → a ≡ b
    same_refusal a b e = cc
at_limit names false limit others refusal behind is = behind is

form_unplaced : (names : List Text) (list : ClauseList) (refusal : Refusal) → form_refusal list ≡ Some refusal → file_named names refusal ≡ []
form_unplaced names list refusal is =
    at_limit names (nat_lt most_variables list.variables) limits.Variables _ refusal
    (at_limit names (nat_lt most_clauses (length list.clauses)) limits.AxiomClauses _ refusal
    (at_limit names (nat_lt most_literals (literal_count_of list.clauses)) limits.AxiomLiterals None refusal (λ none. absurd cc))) is

limit_unplaced : (names : List Text) (many : Bool) (list : ClauseList) (refusal : Refusal) → option_or (cond many (Some (past limits.Rules)) None) (form_refusal list) ≡ Some refusal →
    file_named names refusal ≡ []
limit_unplaced names true list refusal is = at_limit names true limits.Rules None refusal (λ none. absurd cc) is
limit_unplaced names false list refusal is = form_unplaced names list refusal is

unplaced : (names : List Text) (d : Description) (q : Query) (horizon : ℕ) (refusal : Refusal) → refusal_at d q horizon true None ≡ Some refusal → file_named names refusal ≡ []
unplaced names d q horizon refusal is = limit_unplaced names (nat_lt most_rules (length (timed_rules d horizon))) (clause_list d q horizon true None) refusal is

-- ---- what is refused of the request

-- the query that is named, by the places
named_in : (exporting : Exporting) (places : List Place) (described : Described) (o : Option Query) → IsDescribed heads.Definite places described →
    query_named exporting.query (map plain_query described.queries) ≡ o → query_named exporting.query (queries_in places) ≡ o
named_in exporting places described o said is = subst (λ queries. query_named exporting.query queries ≡ o) said.queries is

names_horizon : (files : Files) (exporting : Exporting) (places : List Place) (described : Described) (q : Query) → IsDescribed heads.Definite places described → AreRead files exporting.file places →
    query_named exporting.query (map plain_query described.queries) ≡ Some q → export_refusal (description_in places) (Some q) exporting.horizon ≡ None →
    NamesHorizon files exporting (description_in places) q
names_horizon files exporting places described q said read is unrefused = record {
  places = places;
  read = read;
  description = refl;
  query = named_in exporting places described (Some q) said is;
  unrefused = unrefused;
}

export_refused : (files : Files) (exporting : Exporting) (places : List Place) (described : Described) (refusal : Refusal) (file : Text) → IsDescribed heads.Definite places described →
    AreRead files exporting.file places → file ≡ file_named described.files refusal →
    IsExportFault (description_in places) (map plain_query described.queries) exporting.query exporting.horizon (faults.Refused refusal) → RefusesExporting files exporting refusal file
export_refused files exporting places described refusal file said read name (inl is) = inr (inl (record {
  places = places;
  read = read;
  refused = subst (λ queries. export_refusal (description_in places) (query_named exporting.query queries) exporting.horizon ≡ Some refusal) said.queries is;
  name = name ∙ ap (λ names. file_named names refusal) said.names;
}))
export_refused files exporting places described refusal file said read name (inr (q, is, unrefused, passed)) = inr (inr (record {
  description = description_in places;
  query = q;
  named = names_horizon files exporting places described q said read is unrefused;
  passed = passed;
  name = name ∙ unplaced described.files (description_in places) q exporting.horizon refusal passed;
}))

pub refuses_export : (o : Option Contents) (exporting : Exporting) (described : Described) (of : IsRead heads.Definite o (λ files. files) exporting.file described) (refusal : Refusal)
    (file : Text) → file ≡ file_named described.files refusal →
    IsExportFault (description_in of.places) (map plain_query described.queries) exporting.query exporting.horizon (faults.Refused refusal) →
    IfSome o (λ before. (exporting_promise exporting).Refuses before.files refusal file)
refuses_export o exporting described of refusal file name fault =
    known o (λ before. AreRead before.files exporting.file of.places) (λ before. (exporting_promise exporting).Refuses before.files refusal file)
    (λ before read. (export_refused before.files exporting of.places described refusal file of.said read name fault)) of.read

-- ---- what is given

abbrev export_whole : Exporting → Axioms → Whole
export_whole exporting form = record {
  given = only_out (export_of exporting.horizon (record { variables = form.variables; clauses = form.clauses }));
  begun = false;
  ends = Some statuses.Right;
}

may_end : (exporting : Exporting) (r : Result Status Stop) → IfOk r (λ s. s ≡ statuses.Right) →
    IfOk r ((exporting_promise exporting).MayEnd)
may_end exporting (Ok status) is =
    (subst MayEndExporting (sym is) tt)
may_end exporting (Err stop) is = tt

export_given : (files : Files) (exporting : Exporting) (places : List Place) (described : Described) (form : Axioms) →
    IsDescribed heads.Definite places described → AreRead files exporting.file places →
    IsExported (description_in places) (map plain_query described.queries) exporting.query exporting.horizon form → Keeps (exporting_promise exporting) files (export_whole exporting form)
export_given files exporting places described form said read is = inr exports
  where
    exports : Exports exporting files (export_whole exporting form)
    exports = record {
      description = description_in places;
      query = is.query;
      named = names_horizon files exporting places described is.query said read is.named_is is.unrefused;
      within = is.within;
      given = ap (λ (f : Axioms). only_out (export_of exporting.horizon (record { variables = f.variables; clauses = f.clauses }))) is.form_is;
      tells = is.tells;
      begun = refl;
      ends = refl;
    }

pub prints_exported : (exporting : Exporting) (described : Described) (form : Axioms) (x z : Moment) (r : Result Status Stop) →
    (of : IsRead heads.Definite x.told (λ files. files) exporting.file described) →
    IsExported (description_in of.places) (map plain_query described.queries) exporting.query exporting.horizon form →
    Step (only_out (export_of exporting.horizon (record { variables = form.variables; clauses = form.clauses }))) x z r → IfOk r (λ status. status ≡ statuses.Right) →
    Prints (exporting_promise exporting) false [] x z r
prints_exported exporting described form x z r of is step ended =
    prints_whole (exporting_promise exporting) false [] (export_whole exporting form) x z r
    (known x.told (λ before. AreRead before.files exporting.file of.places) (λ before. Keeps (exporting_promise exporting) before.files (export_whole exporting form))
    (λ before read. export_given before.files exporting of.places described form of.said read is) of.read)
    refl step (ended_as statuses.Right r ended) (may_end exporting r ended) (asks_no_more (exporting_promise exporting) x z r (λ _. refl) step.moves.called)
