-- What the calls of a session join to.
use Rattle.std.proofs.Common.{◌≡◌, ◌≢◌, ◌∙◌, ℕ, ◌+◌, ◌<◌, ◌≤◌, ◌⊎◌, inl, inr, true, List, [], ◌∷◌, ◌++◌, length, map, Option, Some, None, Result, Ok, Err, refl, sym, subst, ap, arith}
use Rattle.std.specs.Prelude.{IfOk, IfErr, IsOk, OnErr, OnOk, IsSome, Contains}
use Rattle.std.proofs.lemmas.Bool.{false≢true}
use Rattle.std.proofs.lemmas.List.{length_push}
use Rattle.cc_cdcl.specs.Solvers.{SolverView, Found, Ready, AddsDerived, IsStep}
use Rattle.cc_cdcl.specs.declared.solver.Step.{Step}
use Rattle.cc_cdcl.specs.declared.solver.Step.TheVariants as answers
use Rattle.cc_clauses.specs.RowsOf.{IsLeastRowOf}
use Rattle.cc_arena.specs.declared.ground_laws.GroundLaw.{GroundLaw}
use Rattle.cc_defs.specs.declared.event.Ending.{Ending}
use Rattle.cc_defs.specs.declared.event.Ending.TheVariants as endings
use Rattle.cc_defs.specs.declared.event.Told.{Told}
use Rattle.cc_defs.specs.declared.log.EndWord.{EndWord}
use Rattle.cc_defs.specs.GroundLaws.{PlainGroundQuery, StandsForQuery}
use Rattle.cc_defs.specs.Signatures.{Signature}
use Rattle.cc_theory.specs.Theories.{AreLawsOf}
use Rattle.cc_defs.specs.declared.event.Event.{Event}
use Rattle.cc_defs.specs.declared.event.Event.TheVariants as events
use Rattle.cc_defs.specs.declared.log.EndWord.TheVariants as words
use Rattle.cc_defs.specs.declared.log.LogLine.{LogLine}
use Rattle.cc_defs.specs.declared.log.LogLine.TheVariants as lines
use Rattle.cc_defs.specs.declared.refusal.Fault.{Fault}
use Rattle.cc_defs.specs.declared.refusal.Fault.TheVariants as faults
use Rattle.cc_defs.specs.declared.refusal.LimitAt.TheVariants as limits
use Rattle.cc_defs.specs.declared.refusal.OutOfMemory.{OutOfMemory}
use Rattle.cc_defs.specs.Clauses.{Literal, IsNumbered}
use Rattle.cc_defs.specs.Description.{Description}
use Rattle.cc_defs.specs.Refusals.{IsRefusedBy, past}
use Rattle.cc_defs.specs.Resolved.{Query}
use Rattle.cc_defs.specs.Rows.{IsRow}
use Rattle.cc_defs.specs.Runs.{Ask}
use Rattle.cc_defs.specs.Sections.{HasNoEmpty, row_denial}
use Rattle.cc_kernel.specs.declared.kernel.Origin.TheVariants as origins
use Rattle.cc_kernel.specs.Kernels.{Entry, KernelView, added, clauses_of, first_empty, number_if_empty}
use Rattle.cc_lists.specs.Horizons.{last_at, opening_refusal}
use Rattle.cc_lists.specs.Subjects.{with_row}
use Rattle.cc_lists.proofs.Members.{in_cases, in_first, in_none, in_rest}
use Rattle.cc_query.specs.declared.phase.Part.{Part}
use Rattle.cc_query.specs.declared.phase.Part.TheVariants as parts
use Rattle.cc_query.specs.declared.phase.Phase.{Phase}
use Rattle.cc_query.specs.declared.phase.Phase.TheVariants as phases
use Rattle.cc_query.specs.Laws.{SearchLaws}
use Rattle.cc_query.specs.Parts.{is_conditions}
use Rattle.cc_query.specs.Events.{Gives}
use Rattle.cc_query.specs.Sessions.{SessionView, After, HasFound, IsAskable, IsBlocked, IsReady, IsRightFault, IsSession, IsSessionOf, IsWithin, ending_behind, opens_at}
use Rattle.cc_query.proofs.Giving.{asks_for, gives_all_asked, gives_block, gives_budget, gives_complete, gives_counterexample, gives_empty, gives_empty_line, gives_failing, gives_found, gives_history, gives_holds, gives_last, gives_line, gives_no_conditions, gives_no_history, gives_refuted, gives_spent}
use Rattle.cc_query.proofs.Going.{history_too_many}
use Rattle.cc_query.proofs.Refusing.{handed_on}
use Rattle.cc_query.proofs.Within.{block_within, last_numbered, line_within}

pub gives_at : (s new expected : SessionView) (event given : Event) → new ≡ expected → event ≡ given → Gives s expected given → Gives s new event
gives_at s new expected event given new_is event_is gives =
    subst (λ (v : SessionView). Gives s v event) (sym new_is) (subst (λ (e : Event). Gives s expected e) (sym event_is) gives)

pub askable_of : (v now : SessionView) → v ≡ now → IsSession v → IsAskable now.signature now.laws now.query now.ask
askable_of v now same is = (subst (λ (s : SessionView). IsSession s) same is).askable

-- ---- lines

-- what is told of a line that was made
pub told_line : {E : Type 0} (f : LogLine → E) (r : Result E Fault) (line : Result LogLine OutOfMemory) (x : LogLine) →
    IfOk r (λ told. (made : LogLine) × (line ≡ Ok made) × (told ≡ f made)) → IfOk line (λ made. made ≡ x) → IfOk r (λ told. told ≡ f x)
told_line f (Err fault) line x told is = tt
told_line f (Ok event) line x (made, made_is, event_is) is =
    event_is ∙ ap f (subst (λ (l : Result LogLine OutOfMemory). IfOk l (λ given. given ≡ x)) made_is is)

pub told_on : {E : Type 0} (P : Type 0) (f : LogLine → E) (r : Result E Fault) (line : Result LogLine OutOfMemory) →
    IfOk r (λ told. (made : LogLine) × (line ≡ Ok made) × (told ≡ f made)) → OnOk line P → OnOk r P
told_on P f (Err fault) line told is = tt
told_on P f (Ok event) line (made, made_is, event_is) is = subst (λ (l : Result LogLine OutOfMemory). OnOk l P) made_is is

-- of a derived line, read from a kernel
pub derived_told : {E : Type 0} (f : LogLine → E) (r : Result E Fault) (line : Result LogLine OutOfMemory) (read kernel : KernelView) → read ≡ kernel →
    IfOk r (λ told. (made : LogLine) × (line ≡ Ok made) × (told ≡ f made)) →
    ((given : List Literal) → IsNumbered (clauses_of read) (length read.entries) given → IfOk line (λ made. made ≡ lines.Derived given read.chain)) →
    (clause : List Literal) → IsNumbered (clauses_of kernel) (length kernel.entries) clause → IfOk r (λ told. told ≡ f (lines.Derived clause kernel.chain))
derived_told f r line read kernel same told derived clause is =
    subst (λ (k : KernelView). IfOk r (λ told. told ≡ f (lines.Derived clause k.chain))) same
    (told_line f r line (lines.Derived clause read.chain) told
    (derived clause (subst (λ (k : KernelView). IsNumbered (clauses_of k) (length k.entries) clause) (sym same) is)))

pub on_each : {T E P Q : Type 0} (r : Result T E) → (P → Q) → OnOk r P → OnOk r Q
on_each (Ok value) more is = more is
on_each (Err error) more is = tt

pub on_both : {T E P Q R : Type 0} (r : Result T E) → (P → Q → R) → OnOk r P → OnOk r Q → OnOk r R
on_both (Ok value) more one two = more one two
on_both (Err error) more one two = tt

-- ---- denying

-- the line of a denial was made, so the row was denied
pub on_denied : (P : Type 0) (line : Result LogLine OutOfMemory) (denied : Result ℕ OutOfMemory) → OnOk line (IsOk denied) → OnOk denied P → OnOk line P
on_denied P (Err error) denied ok is = tt
on_denied P (Ok made) (Ok number) ok is = is
on_denied P (Ok made) (Err error) ok is = absurd (false≢true ok)

pub found_one : (solver : SolverView) (items row : List ℕ) → solver.standing ≡ Found items → solver.standing ≡ Found row → items ≡ row
found_one solver items row here there = cc

pub blocked_is : (old new : SolverView) → HasFound old →
    ((row : List ℕ) → old.standing ≡ Found row → new ≡ record old { kernel = added old.kernel (row_denial old.sizes row) origins.Block; standing = Ready }) → IsBlocked old new
blocked_is old new found blocked = record {
  sizes = ap (λ (v : SolverView). v.sizes) (blocked found.0 found.1);
  kernel = λ row is. ap (λ (v : SolverView). v.kernel) (blocked row is);
}

pub block_ready : (ask : Ask) (old new : SolverView) (listed : ℕ) → HasFound old →
    ((denied : ℕ) × (listed ≡ denied + 1) × (denied + 1 ≤ 100000000) × IsWithin ask old denied) →
    ((row : List ℕ) → old.standing ≡ Found row → new ≡ record old { kernel = added old.kernel (row_denial old.sizes row) origins.Block; standing = Ready }) →
    (new.standing ≡ Ready) × IsWithin ask new listed
block_ready ask old new listed found (denied, listed_is, few, within) blocked = (
  ap (λ (v : SolverView). v.standing) (blocked found.0 found.1),
  subst (λ (n : ℕ). IsWithin ask new n) (sym listed_is)
      (block_within ask old new denied found.0 within few found.2 (ap (λ (v : SolverView). v.sizes) (blocked found.0 found.1))
      (ap (λ (v : SolverView). v.kernel) (blocked found.0 found.1))),
)

pub block_gives : (laws : SearchLaws) (r : Result Event Fault) (now new : SessionView) (solver : SolverView) (listed : ℕ) →
    IsAskable now.signature now.laws now.query now.ask → (now.ask.count ≡ Some listed → ⊥) →
    ((row : List ℕ) → solver.standing ≡ Found row → IfOk r (λ event. event ≡ events.Log (lines.Block row))) →
    OnOk r ((blocked : SolverView) × IsBlocked solver blocked × (new ≡ record now { phase = phases.Searching parts.Histories blocked listed })) → HasFound solver →
    ((denied : ℕ) × (listed ≡ denied + 1) × (denied + 1 ≤ 100000000) × IsWithin now.ask solver denied) → IfOk r (Gives (record now { phase = phases.Denying solver listed }) new)
block_gives laws (Err fault) now new solver listed askable other event stands found within = tt
block_gives laws (Ok given) now new solver listed askable other event (blocked, is, new_is) found within =
    gives_at (record now { phase = phases.Denying solver listed }) new (record now { phase = phases.Searching parts.Histories blocked listed }) given
    (events.Log (lines.Block found.0)) new_is (event found.0 found.1)
    (gives_block laws (record now { phase = phases.Denying solver listed }) askable solver blocked listed within.0 refl other is.sizes is.kernel found within.3)

-- ---- opening

fault_of : {S : Type 0} (r : Result S Fault) (s : SessionView) (part : Part) → opens_at s.phase ≡ Some part → s.horizon ≤ last_at s.query s.ask.after →
    ((d : Description) (q : Query) → IsSessionOf s d q → IfErr r (IsRefusedBy (opening_refusal d q s.ask s.horizon (is_conditions part)))) → IfErr r (IsRightFault s)
fault_of (Ok value) s part opens low refused = tt
fault_of (Err faults.OutOfMemory) s part opens low refused = tt
fault_of (Err (faults.Refused refusal)) s part opens low refused = λ d q given of after. inl (part, opens, low, refused d q of)

pub opening_fault : {S : Type 0} (r : Result S Fault) (fault : Fault) (s : SessionView) (part : Part) → opens_at s.phase ≡ Some part → s.horizon ≤ last_at s.query s.ask.after →
    r ≡ Err fault → ((d : Description) (q : Query) → IsSessionOf s d q → IfErr r (IsRefusedBy (opening_refusal d q s.ask s.horizon (is_conditions part)))) → IsRightFault s fault
opening_fault r fault s part opens low was refused = handed_on r fault (IsRightFault s) was (fault_of r s part opens low refused)

-- it is within the range, where it is not past it
pub low_at : (v now : SessionView) (last : ℕ) → v ≡ now → last ≡ last_at v.query v.ask.after → v.horizon ≤ last → now.horizon ≤ last_at now.query now.ask.after
low_at v now last same last_is low =
    subst (λ (s : SessionView). s.horizon ≤ last_at s.query s.ask.after) same (subst (λ (n : ℕ). v.horizon ≤ n) last_is low)

pub begin_last : (laws : SearchLaws) (v now : SessionView) (part : Part) (last : ℕ) (ending : Ending) → v ≡ now → IsSession v → now.phase ≡ phases.Ended →
    last ≡ last_at v.query v.ask.after → last < v.horizon → ending ≡ ending_behind v.met part →
    Gives (record now { phase = phases.Opening part }) now (events.Ended ending)
begin_last laws v now part last ending same is over last_is past ending_is =
    let past_it : last_at v.query v.ask.after < v.horizon = subst (λ (n : ℕ). n < v.horizon) last_is past in
    gives_at (record now { phase = phases.Opening part }) now (record now { phase = phases.Ended }) (events.Ended ending) (events.Ended (ending_behind now.met part))
    (ap (λ (p : Phase). record now { phase = p }) over)
    (ap (λ (e : Ending). events.Ended e) ending_is ∙ ap (λ (s : SessionView). events.Ended (ending_behind s.met part)) same)
    (gives_last laws (record now { phase = phases.Opening part }) (askable_of v now same is) part refl
    (subst (λ (s : SessionView). last_at s.query s.ask.after < s.horizon) same past_it))

-- ---- searching

pub memory_fault : {T : Type 0} (r : Result T Fault) (s : SessionView) → IfErr r (λ fault. fault ≡ faults.OutOfMemory) → IfErr r (IsRightFault s)
memory_fault (Ok value) s is = tt
memory_fault (Err fault) s is = subst (λ (f : Fault). IsRightFault s f) (sym is) tt

pub line_gives : (laws : SearchLaws) (r : Result Event Fault) (now new : SessionView) (old solver : SolverView) (part : Part) (listed : ℕ) →
    IsAskable now.signature now.laws now.query now.ask → IsStep now.ask.budget old solver answers.Line →
    ((clause : List Literal) → IsNumbered (clauses_of solver.kernel) (length solver.kernel.entries) clause → IfOk r (λ event. event ≡ events.Log (lines.Derived clause solver.kernel.chain))) →
    OnOk r (new ≡ record now { phase = phases.Searching part solver listed }) → IsWithin now.ask old listed →
    IfOk r (Gives (record now { phase = phases.Searching part old listed }) new)
line_gives laws (Err fault) now new old solver part listed askable step event stands within = tt
line_gives laws (Ok given) now new old solver part listed askable (clause, some, adds, earned, most, sizes, ready) event stands within =
    gives_at (record now { phase = phases.Searching part old listed }) new (record now { phase = phases.Searching part solver listed }) given
    (events.Log (lines.Derived clause solver.kernel.chain)) stands (event clause (last_numbered old.kernel solver.kernel clause adds))
    (gives_line laws (record now { phase = phases.Searching part old listed }) askable part old solver listed refl clause adds earned most sizes within)

-- the empty clause was derived, where there was none
pub added_empty : (old solver : SolverView) → HasNoEmpty (clauses_of old.kernel) → Contains (clauses_of solver.kernel) [] →
    (solver.kernel ≡ old.kernel) ⊎ AddsDerived old.kernel solver.kernel [] → AddsDerived old.kernel solver.kernel []
added_empty old solver none there (inl same) = absurd (none (subst (λ (k : KernelView). Contains (clauses_of k) []) same there))
added_empty old solver none there (inr adds) = adds

pub refuted_some : (budget : ℕ) (old solver : SolverView) → IsStep budget old solver answers.Refuted → 0 < length solver.kernel.entries
refuted_some budget old solver (sizes, standing, there, added) = some_of solver.kernel.entries there
  where
    some_of : (entries : List Entry) → Contains (map (λ (e : Entry). e.clause) entries) [] → 0 < length entries
    some_of [] (k, low, is) = absurd (omega arith)
    some_of (entry ∷ entries) there = omega arith

pub empty_gives : (laws : SearchLaws) (r : Result Event Fault) (now new : SessionView) (old solver : SolverView) (part : Part) (listed : ℕ) →
    IsAskable now.signature now.laws now.query now.ask → HasNoEmpty (clauses_of old.kernel) → IsStep now.ask.budget old solver answers.Refuted →
    ((clause : List Literal) → IsNumbered (clauses_of solver.kernel) (length solver.kernel.entries) clause → IfOk r (λ event. event ≡ events.Log (lines.Derived clause solver.kernel.chain))) →
    OnOk r (new ≡ record now { phase = phases.Refuted part listed }) → IsWithin now.ask old listed →
    IfOk r (Gives (record now { phase = phases.Searching part old listed }) new)
empty_gives laws (Err fault) now new old solver part listed askable none step event stands within = tt
empty_gives laws (Ok given) now new old solver part listed askable none (sizes, standing, there, added) event stands within =
    let adds = added_empty old solver none there added in
    gives_at (record now { phase = phases.Searching part old listed }) new (record now { phase = phases.Refuted part listed }) given
    (events.Log (lines.Derived [] solver.kernel.chain)) stands (event [] (last_numbered old.kernel solver.kernel [] adds))
    (gives_empty_line laws (record now { phase = phases.Searching part old listed }) askable part old solver listed refl adds none within)

pub line_ready : (ask : Ask) (old solver : SolverView) (listed : ℕ) → ask.budget ≤ 2000000 → IsStep ask.budget old solver answers.Line → IsWithin ask old listed →
    (solver.standing ≡ Ready) × IsWithin ask solver listed × (0 < length solver.kernel.entries)
line_ready ask old solver listed budget (clause, some, adds, earned, most, sizes, ready) within = (
  ready,
  line_within ask old solver listed clause budget within adds most sizes,
  let long : length solver.kernel.entries ≡ length old.kernel.entries + 1 =
      ap (λ (l : List Entry). length l) adds.entries ∙ length_push old.kernel.entries (record { clause = clause; origin = origins.Derived }) in omega arith,
)

pub found_ready : (ask : Ask) (old solver : SolverView) (listed : ℕ) → IsStep ask.budget old solver answers.Found → IsWithin ask old listed → HasFound solver × IsWithin ask solver listed
found_ready ask old solver listed (row, least, is) within = (
  (row, ap (λ (v : SolverView). v.standing) is, subst (λ (v : SolverView). IsRow v.sizes row) (sym is) least.one.is_row),
  subst (λ (v : SolverView). IsWithin ask v listed) (sym is) (record {
    derived = within.derived;
    few = within.few;
    denied_few = within.denied_few;
    over = within.over;
    variables = within.variables;
    positions = within.positions;
  }),
)

-- ---- rows that were found

row_is : (budget : ℕ) (old solver : SolverView) (items : List ℕ) → (step : IsStep budget old solver answers.Found) → solver.standing ≡ Found items → step.0 ≡ items
row_is budget old solver items (row, least, is) standing = let there : solver.standing ≡ Found row = ap (λ (v : SolverView). v.standing) is in cc

pub least_there : (budget : ℕ) (old solver : SolverView) (items : List ℕ) → (step : IsStep budget old solver answers.Found) → solver.standing ≡ Found items →
    IsLeastRowOf old.sizes (clauses_of old.kernel) items × (solver ≡ record old { standing = Found items })
least_there budget old solver items step standing =
    subst (λ (row : List ℕ). IsLeastRowOf old.sizes (clauses_of old.kernel) row × (solver ≡ record old { standing = Found row }))
    (row_is budget old solver items step standing) (step.1, step.2)

pub history_gives : (laws : SearchLaws) (r : Result Event Fault) (now new : SessionView) (old solver : SolverView) (listed : ℕ) (items : List ℕ) →
    IsAskable now.signature now.laws now.query now.ask → IsStep now.ask.budget old solver answers.Found → solver.standing ≡ Found items →
    IfOk r (λ event. event ≡ events.History now.horizon (listed + 1)) →
    OnOk r (new ≡ record now { row = items; phase = phases.Denying solver (listed + 1) }) → OnOk r (listed + 1 ≤ 100000000) →
    IfOk r (Gives (record now { phase = phases.Searching parts.Histories old listed }) new)
history_gives laws (Err fault) now new old solver listed items askable step standing event stands few = tt
history_gives laws (Ok given) now new old solver listed items askable step standing event stands few =
    let there = least_there now.ask.budget old solver items step standing in
    gives_at (record now { phase = phases.Searching parts.Histories old listed }) new (record now { row = items; phase = phases.Denying solver (listed + 1) }) given
    (events.History now.horizon (listed + 1)) stands event
    (gives_history laws (record now { phase = phases.Searching parts.Histories old listed }) askable old solver listed refl items there.0 there.1 few)

pub history_fault : (laws : SearchLaws) (r : Result Event Fault) (now : SessionView) (old solver : SolverView) (listed : ℕ) (items : List ℕ) →
    IsAskable now.signature now.laws now.query now.ask → IsStep now.ask.budget old solver answers.Found → solver.standing ≡ Found items →
    IfErr r (λ fault. fault ≡ faults.Refused (past limits.Histories)) → OnErr r (listed ≡ 100000000) →
    IfErr r (IsRightFault (record now { phase = phases.Searching parts.Histories old listed }))
history_fault laws (Ok value) now old solver listed items askable step standing fault many = tt
history_fault laws (Err given) now old solver listed items askable step standing fault many =
    let there = least_there now.ask.budget old solver items step standing in
    subst (λ (f : Fault). IsRightFault (record now { phase = phases.Searching parts.Histories old listed }) f) (sym fault)
    (λ d q told of after. inr (
      refl,
      history_too_many laws d q (record now { phase = phases.Searching parts.Histories old listed })
          (asks_for (record now { phase = phases.Searching parts.Histories old listed }) d q askable of) told old listed refl after items there.0 many,
    ))

pub path_gives : (laws : SearchLaws) (now new : SessionView) (event : Event) (old solver : SolverView) (part : Part) (listed : ℕ) (items : List ℕ) →
    IsAskable now.signature now.laws now.query now.ask → part ≢ parts.Histories → IsStep now.ask.budget old solver answers.Found → solver.standing ≡ Found items →
    event ≡ events.Log (lines.End words.Found) → new ≡ record now { row = items; phase = phases.Closed part words.Found listed } →
    Gives (record now { phase = phases.Searching part old listed }) new event
path_gives laws now new event old solver part listed items askable other step standing event_is stands =
    let there = least_there now.ask.budget old solver items step standing in
    gives_at (record now { phase = phases.Searching part old listed }) new (record now { row = items; phase = phases.Closed part words.Found listed }) event
    (events.Log (lines.End words.Found)) stands event_is
    (gives_found laws (record now { phase = phases.Searching part old listed }) askable part old listed other refl items there.0)

-- ---- the empty clause, by its number

one_first : (clause : List Literal) (number : ℕ) (later : Option ℕ) → number_if_empty clause number later ≡ None → (clause ≢ []) × (later ≡ None)
one_first [] number later is = absurd cc
one_first (literal ∷ literals) number later is = ((λ same. absurd cc), is)

pub none_first : (number : ℕ) (entries : List Entry) → first_empty number entries ≡ None → HasNoEmpty (map (λ (e : Entry). e.clause) entries)
none_first number [] is there = in_none [] there
none_first number (entry ∷ entries) is there =
    let one = one_first entry.clause number (first_empty (number + 1) entries) is in
    elim (in_cases entry.clause [] (map (λ (e : Entry). e.clause) entries) there) [
      | inl same ↦ one.0 same
      | inr rest ↦ none_first (number + 1) entries one.1 rest
    ]

one_some : (clause : List Literal) (number : ℕ) (later : Option ℕ) → IsSome (number_if_empty clause number later) → (clause ≡ []) ⊎ IsSome later
one_some [] number later is = inl refl
one_some (literal ∷ literals) number later is = inr is

pub some_first : (number : ℕ) (entries : List Entry) → IsSome (first_empty number entries) → Contains (map (λ (e : Entry). e.clause) entries) []
some_first number [] is = absurd cc
some_first number (entry ∷ entries) is = elim (one_some entry.clause number (first_empty (number + 1) entries) is) [
  | inl same ↦ subst (λ (c : List Literal). Contains (c ∷ map (λ (e : Entry). e.clause) entries) []) (sym same) (in_first [] (map (λ (e : Entry). e.clause) entries))
  | inr rest ↦ in_rest entry.clause [] (map (λ (e : Entry). e.clause) entries) (some_first (number + 1) entries rest)
]

-- ---- behind end lines

pub complete_none : (laws : SearchLaws) (v now new : SessionView) (listed : ℕ) → v ≡ now → IsSession v → listed ≡ 0 → v.ask.after ≡ None → now.horizon ≤ last_at now.query now.ask.after →
    new ≡ record now { horizon = now.horizon + 1; met = v.met; phase = phases.Opening parts.Histories } →
    Gives (record now { phase = phases.Closed parts.Histories words.Empty listed }) new (events.NoHistory v.horizon)
complete_none laws v now new listed same is none no_key low new_is =
    gives_at (record now { phase = phases.Closed parts.Histories words.Empty listed }) new
    (record now { horizon = now.horizon + 1; phase = phases.Opening parts.Histories }) (events.NoHistory v.horizon) (events.NoHistory now.horizon)
    (new_is ∙ ap (λ (s : SessionView). record now { horizon = now.horizon + 1; met = s.met; phase = phases.Opening parts.Histories }) same)
    (ap (λ (s : SessionView). events.NoHistory s.horizon) same)
    (gives_no_history laws (record now { phase = phases.Closed parts.Histories words.Empty listed }) (askable_of v now same is)
    (ap (λ (n : ℕ). phases.Closed parts.Histories words.Empty n) none) (ap (λ (s : SessionView). s.ask.after) (sym same) ∙ no_key) low)

pub complete_some : (laws : SearchLaws) (v now : SessionView) (listed : ℕ) → v ≡ now → IsSession v → now.phase ≡ phases.Ended →
    (0 < listed) ⊎ IsSome v.ask.after →
    Gives (record now { phase = phases.Closed parts.Histories words.Empty listed }) now (events.Ended (endings.Complete v.horizon listed))
complete_some laws v now listed same is over some =
    gives_at (record now { phase = phases.Closed parts.Histories words.Empty listed }) now (record now { phase = phases.Ended })
    (events.Ended (endings.Complete v.horizon listed)) (events.Ended (endings.Complete now.horizon listed))
    (ap (λ (p : Phase). record now { phase = p }) over) (ap (λ (s : SessionView). events.Ended (endings.Complete s.horizon listed)) same)
    (gives_complete laws (record now { phase = phases.Closed parts.Histories words.Empty listed }) (askable_of v now same is) listed refl
    (subst (λ (s : SessionView). (0 < listed) ⊎ IsSome s.ask.after) same some))

pub complete_at : (now new : SessionView) (event : Event) (part : Part) (listed : ℕ) → part ≡ parts.Histories →
    Gives (record now { phase = phases.Closed parts.Histories words.Empty listed }) new event → Gives (record now { phase = phases.Closed part words.Empty listed }) new event
complete_at now new event part listed is gives = subst (λ (p : Part). Gives (record now { phase = phases.Closed p words.Empty listed }) new event) (sym is) gives

pub conditions_none : (laws : SearchLaws) (v now new : SessionView) (part : Part) (listed : ℕ) → v ≡ now → IsSession v → part ≡ parts.Conditions →
    now.horizon ≤ last_at now.query now.ask.after →
    new ≡ record now { horizon = now.horizon + 1; met = v.met; phase = phases.Opening parts.Conditions } →
    Gives (record now { phase = phases.Closed part words.Empty listed }) new (events.NoConditions v.horizon)
conditions_none laws v now new part listed same is part_is low new_is =
    gives_at (record now { phase = phases.Closed part words.Empty listed }) new
    (record now { horizon = now.horizon + 1; phase = phases.Opening parts.Conditions }) (events.NoConditions v.horizon) (events.NoConditions now.horizon)
    (new_is ∙ ap (λ (s : SessionView). record now { horizon = now.horizon + 1; met = s.met; phase = phases.Opening parts.Conditions }) same)
    (ap (λ (s : SessionView). events.NoConditions s.horizon) same)
    (gives_no_conditions laws (record now { phase = phases.Closed part words.Empty listed }) (askable_of v now same is) listed
    (ap (λ (p : Part). phases.Closed p words.Empty listed) part_is) low)

pub claim_holds : (laws : SearchLaws) (v now new : SessionView) (part : Part) (listed : ℕ) → v ≡ now → IsSession v → part ≡ parts.Claim →
    now.horizon ≤ last_at now.query now.ask.after →
    new ≡ record now { horizon = now.horizon + 1; met = true; phase = phases.Opening parts.Conditions } →
    Gives (record now { phase = phases.Closed part words.Empty listed }) new (events.Holds v.horizon)
claim_holds laws v now new part listed same is part_is low new_is =
    gives_at (record now { phase = phases.Closed part words.Empty listed }) new
    (record now { horizon = now.horizon + 1; met = true; phase = phases.Opening parts.Conditions }) (events.Holds v.horizon) (events.Holds now.horizon)
    new_is (ap (λ (s : SessionView). events.Holds s.horizon) same)
    (gives_holds laws (record now { phase = phases.Closed part words.Empty listed }) (askable_of v now same is) listed
    (ap (λ (p : Part). phases.Closed p words.Empty listed) part_is) low)

pub stop_asked : (laws : SearchLaws) (v now : SessionView) (part : Part) (listed : ℕ) → v ≡ now → IsSession v → now.phase ≡ phases.Ended → part ≡ parts.Histories →
    Gives (record now { phase = phases.Closed part words.Found listed }) now (events.Ended (endings.Asked v.horizon listed))
stop_asked laws v now part listed same is over part_is =
    gives_at (record now { phase = phases.Closed part words.Found listed }) now (record now { phase = phases.Ended })
    (events.Ended (endings.Asked v.horizon listed)) (events.Ended (endings.Asked now.horizon listed))
    (ap (λ (p : Phase). record now { phase = p }) over) (ap (λ (s : SessionView). events.Ended (endings.Asked s.horizon listed)) same)
    (gives_all_asked laws (record now { phase = phases.Closed part words.Found listed }) (askable_of v now same is) listed
    (ap (λ (p : Part). phases.Closed p words.Found listed) part_is))

pub stop_claim : (laws : SearchLaws) (v now new : SessionView) (part : Part) (listed : ℕ) → v ≡ now → IsSession v → part ≡ parts.Claim →
    new ≡ record now { phase = phases.Failing } → Gives (record now { phase = phases.Closed part words.Found listed }) new (events.Counterexample v.horizon)
stop_claim laws v now new part listed same is part_is new_is =
    gives_at (record now { phase = phases.Closed part words.Found listed }) new (record now { phase = phases.Failing })
    (events.Counterexample v.horizon) (events.Counterexample now.horizon) new_is (ap (λ (s : SessionView). events.Counterexample s.horizon) same)
    (gives_counterexample laws (record now { phase = phases.Closed part words.Found listed }) (askable_of v now same is) listed
    (ap (λ (p : Part). phases.Closed p words.Found listed) part_is))

pub conclude_spent : (laws : SearchLaws) (v now : SessionView) (part : Part) (word : EndWord) (listed : ℕ) → v ≡ now → IsSession v → now.phase ≡ phases.Ended →
    word ≡ words.Spent → Gives (record now { phase = phases.Closed part word listed }) now (events.Ended (endings.Spent v.horizon listed))
conclude_spent laws v now part word listed same is over word_is =
    gives_at (record now { phase = phases.Closed part word listed }) now (record now { phase = phases.Ended })
    (events.Ended (endings.Spent v.horizon listed)) (events.Ended (endings.Spent now.horizon listed))
    (ap (λ (p : Phase). record now { phase = p }) over) (ap (λ (s : SessionView). events.Ended (endings.Spent s.horizon listed)) same)
    (gives_budget laws (record now { phase = phases.Closed part word listed }) (askable_of v now same is) part listed
    (ap (λ (w : EndWord). phases.Closed part w listed) word_is))

-- ---- any step

pub as_before : (now mid : SessionView) (taken phase : Phase) → mid ≡ record now { phase = phases.Ended } → taken ≡ now.phase → taken ≡ phase →
    record mid { phase = phase } ≡ now
as_before now mid taken phase mid_is taken_is phase_is =
    ap (λ (s : SessionView). record s { phase = phase }) mid_is ∙ ap (λ (p : Phase). record now { phase = p }) (sym phase_is ∙ taken_is)

pub ready_before : (now mid : SessionView) (taken phase : Phase) → mid ≡ record now { phase = phases.Ended } → taken ≡ phase →
    IsReady now.ask now.horizon (last_at now.query now.ask.after) taken → IsReady mid.ask mid.horizon (last_at mid.query mid.ask.after) phase
ready_before now mid taken phase mid_is phase_is ready =
    subst (λ (s : SessionView). IsReady s.ask s.horizon (last_at s.query s.ask.after) phase) (sym mid_is)
    (subst (λ (p : Phase). IsReady now.ask now.horizon (last_at now.query now.ask.after) p) phase_is ready)

pub step_refuted : (laws : SearchLaws) (v now mid new : SessionView) (event : Event) (taken : Phase) (part : Part) (listed : ℕ) → v ≡ now → IsSession v →
    mid ≡ record now { phase = phases.Ended } → taken ≡ now.phase → taken ≡ phases.Refuted part listed →
    new ≡ record mid { phase = phases.Closed part words.Empty listed } → event ≡ events.Log (lines.End words.Empty) → Gives now new event
step_refuted laws v now mid new event taken part listed same is mid_is taken_is phase_is new_is event_is =
    gives_at now new (record now { phase = phases.Closed part words.Empty listed }) event (events.Log (lines.End words.Empty))
    (new_is ∙ ap (λ (s : SessionView). record s { phase = phases.Closed part words.Empty listed }) mid_is) event_is
    (gives_refuted laws now (askable_of v now same is) part listed (sym taken_is ∙ phase_is))

pub step_failing : (laws : SearchLaws) (v now mid : SessionView) (taken : Phase) → v ≡ now → IsSession v → mid ≡ record now { phase = phases.Ended } →
    taken ≡ now.phase → taken ≡ phases.Failing → Gives now mid (events.Ended endings.ClaimFails)
step_failing laws v now mid taken same is mid_is taken_is phase_is =
    gives_at now mid (record now { phase = phases.Ended }) (events.Ended endings.ClaimFails) (events.Ended endings.ClaimFails) mid_is refl
    (gives_failing laws now (askable_of v now same is) (sym taken_is ∙ phase_is))

pub search_refuted : (laws : SearchLaws) (v now new : SessionView) (event : Event) (solver : SolverView) (part : Part) (listed : ℕ) → v ≡ now → IsSession v →
    Contains (clauses_of solver.kernel) [] → new ≡ record now { phase = phases.Closed part words.Empty listed } → event ≡ events.Log (lines.End words.Empty) →
    Gives (record now { phase = phases.Searching part solver listed }) new event
search_refuted laws v now new event solver part listed same is there new_is event_is =
    gives_at (record now { phase = phases.Searching part solver listed }) new (record now { phase = phases.Closed part words.Empty listed }) event
    (events.Log (lines.End words.Empty)) new_is event_is
    (gives_empty laws (record now { phase = phases.Searching part solver listed }) (askable_of v now same is) part solver listed refl there)

pub search_spent : (laws : SearchLaws) (now new : SessionView) (event : Event) (old solver : SolverView) (part : Part) (listed : ℕ) →
    IsAskable now.signature now.laws now.query now.ask → IsStep now.ask.budget old solver answers.Spent →
    new ≡ record now { phase = phases.Closed part words.Spent listed } → event ≡ events.Log (lines.End words.Spent) →
    Gives (record now { phase = phases.Searching part old listed }) new event
search_spent laws now new event old solver part listed askable (kept, all, none, stuck) new_is event_is =
    gives_at (record now { phase = phases.Searching part old listed }) new (record now { phase = phases.Closed part words.Spent listed }) event
    (events.Log (lines.End words.Spent)) new_is event_is
    (gives_spent laws (record now { phase = phases.Searching part old listed }) askable part old listed refl all none)

-- what the solver answered, by the budget that is asked
pub step_at : (budget : ℕ) (v now : SessionView) (old new : SolverView) (given answer : Step) → budget ≡ v.ask.budget → v ≡ now → given ≡ answer →
    IsStep budget old new given → IsStep now.ask.budget old new answer
step_at budget v now old new given answer budget_is same answer_is step =
    subst (λ (n : ℕ). IsStep n old new answer) (budget_is ∙ ap (λ (s : SessionView). s.ask.budget) same)
    (subst (λ (a : Step). IsStep budget old new a) answer_is step)

pub each_ok : {X E : Type 0} {P Q : X → Type 0} (r : Result X E) → ((x : X) → P x → Q x) → IfOk r P → IfOk r Q
each_ok (Ok x) more is = more x is
each_ok (Err e) more is = tt

pub each_on : {X E Q : Type 0} {P : X → Type 0} (r : Result X E) → ((x : X) → P x → Q) → IfOk r P → OnOk r Q
each_on (Ok x) more is = more x is
each_on (Err e) more is = tt

pub next_event : (r : Result Event Fault) (old new : SessionView) (d : Description) (q : Query) (given : List Told) → IfOk r (Gives old new) → IsSessionOf old d q →
    After d q old given → IfOk r (λ event. After d q new (given ++ with_row event new.row ∷ []) × IsSessionOf new d q)
next_event (Err fault) old new d q given gives of after = tt
next_event (Ok event) old new d q given gives of after = (
  gives.tells d q given of after,
  record {
    laws = subst (λ (s : Signature). AreLawsOf s new.laws d) (sym gives.same.signature)
        (subst (λ (l : List GroundLaw). AreLawsOf old.signature l d) (sym gives.same.laws) of.laws);
    query = subst (λ (made : PlainGroundQuery). StandsForQuery made d q) (sym gives.same.query) of.query;
  },
)
