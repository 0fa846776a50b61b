-- What a section has when it opens: its clauses, and a search that holds just them.
use Rattle.std.proofs.Common.{◌≡◌, ◌∙◌, ℕ, ◌≤◌, suc, Bool, List, [], ◌∷◌, ◌++◌, length, map, Option, Some, None, option_map, Result, Ok, Err, Bor, refl, sym, subst, ap, arith}
use Rattle.std.specs.Prelude.{Contains, IfOk, OnOk, not, sum}
use Rattle.std.specs.List.{AllByRecursion}
use Rattle.cc_cdcl.specs.Solvers.{SolverView}
use Rattle.cc_defs.specs.declared.lists.Key.{Key}
use Rattle.cc_defs.specs.ClauseLists.{positions_from}
use Rattle.cc_defs.specs.Clauses.{Literal, IsOver}
use Rattle.cc_defs.specs.Description.{Description}
use Rattle.cc_defs.specs.Resolved.{Query}
use Rattle.cc_defs.specs.Runs.{Ask, key_row}
use Rattle.cc_defs.specs.Sections.{Axioms}
use Rattle.cc_form.specs.Forms.{TellsHistories, asked, form_of}
use Rattle.cc_kernel.specs.Kernels.{Entry, KernelView, axiom_of, axioms_of, clauses_of, derived_count}
use Rattle.cc_lists.specs.Horizons.{opening_refusal, refusal_at}
use Rattle.cc_lists.specs.Subjects.{AreGoodAxioms}
use Rattle.cc_query.specs.declared.phase.Part.{Part}
use Rattle.cc_query.specs.declared.phase.Part.TheVariants as parts
use Rattle.cc_query.specs.Parts.{axioms_at, is_conditions, query_of}
use Rattle.cc_query.specs.Sessions.{Holds, IsWithin, RowsAreHistories, SessionView}
use Rattle.cc_query.proofs.Holding.{axioms_are}

-- the clauses on positions are among those of the kernel
pub positions_there : (sizes others : List ℕ) (clauses arena : List (List Literal)) (kernel : KernelView) → sizes ≡ others → kernel.entries ≡ axioms_of arena → arena ≡ clauses →
    ((clause : List Literal) → Contains (positions_from 1 others) clause → Contains clauses clause) →
    (clause : List Literal) → Contains (positions_from 1 sizes) clause → Contains (clauses_of kernel) clause
positions_there sizes others clauses arena kernel sizes_are entries arena_is choices clause within =
    subst (λ (l : List (List Literal)). Contains l clause)
    (sym (ap (λ (l : List Entry). map (λ entry. entry.clause) l) entries ∙ axioms_are arena ∙ arena_is))
    (choices clause (subst (λ (l : List ℕ). Contains (positions_from 1 l) clause) sizes_are within))

-- what was made
pub of_made : {E : Type 0} (r : Result SolverView E) (made : SolverView) (P : SolverView → Type 0) → IfOk r (λ solver. solver ≡ made) → P made → IfOk r P
of_made (Ok solver) made P is holds = subst P (sym is) holds
of_made (Err e) made P is holds = tt

pub on_ok : {X E P : Type 0} (r : Result X E) → P → OnOk r P
on_ok (Ok x) holds = holds
on_ok (Err e) holds = tt

-- ---- the section of a part

same_form : (d : Description) (q : Query) (s now : SessionView) (part : Part) (denies : Bool) (key : Option Key) → s ≡ now → denies ≡ not (is_conditions part) →
    key ≡ s.ask.after → form_of d q s.horizon denies key ≡ axioms_at d q now.ask now.horizon part
same_form d q s now part denies key same denies_is key_is =
    ap (λ (b : Bool). form_of d q s.horizon b key) denies_is
    ∙ ap (λ (k : Option Key). form_of d q s.horizon (not (is_conditions part)) k) key_is
    ∙ ap (λ (v : SessionView). form_of d q v.horizon (not (is_conditions part)) v.ask.after) same

pub nothing_behind : (entries : List Entry) → entries ++ [] ≡ entries
nothing_behind [] = refl
nothing_behind (entry ∷ entries) = ap (λ (l : List Entry). entry ∷ l) (nothing_behind entries)

pub holds_first : (form : Axioms) (solver : SolverView) → solver.sizes ≡ form.sizes → solver.kernel.variables ≡ form.variables → form.variables ≤ 4000000 →
    solver.kernel.entries ≡ axioms_of form.clauses → Holds form [] solver
holds_first form solver sizes variables few entries =
    record { sizes = sizes; variables = variables; few = few; entries = entries ∙ sym (nothing_behind (map axiom_of form.clauses)) }

pub holds_opened : (d : Description) (q : Query) (s now : SessionView) (part : Part) (denies : Bool) (key : Option Key) (form : Axioms) (solver : SolverView) →
    s ≡ now → denies ≡ not (is_conditions part) → key ≡ s.ask.after → form ≡ form_of d q s.horizon denies key → solver.sizes ≡ form.sizes →
    solver.kernel.variables ≡ form.variables → form.variables ≤ 4000000 → solver.kernel.entries ≡ axioms_of form.clauses →
    Holds (axioms_at d q now.ask now.horizon part) [] solver
holds_opened d q s now part denies key form solver same denies_is key_is is sizes variables few entries =
    subst (λ (f : Axioms). Holds f [] solver) (is ∙ same_form d q s now part denies key same denies_is key_is)
    (holds_first form solver sizes variables few entries)

asked_is : (q : Query) (part : Part) → asked (not (is_conditions part)) q ≡ query_of part q
asked_is q parts.Histories = refl
asked_is q parts.Conditions = refl
asked_is q parts.Claim = refl

rows_of_keys : (after : Option (Bor Key)) → option_map (λ (key : Bor Key). key.now.row) after ≡ option_map (λ (key : Key). key.row) (option_map (λ (key : Bor Key). key.now) after)
rows_of_keys None = refl
rows_of_keys (Some key) = refl

pub rows_opened : (d : Description) (q : Query) (s now : SessionView) (part : Part) (denies : Bool) (after : Option (Bor Key)) → s ≡ now → denies ≡ not (is_conditions part) →
    option_map (λ (key : Bor Key). key.now) after ≡ s.ask.after →
    TellsHistories d (asked denies q) s.horizon (option_map (λ (key : Bor Key). key.now.row) after) (form_of d q s.horizon denies (option_map (λ (key : Bor Key). key.now) after)) →
    RowsAreHistories d q now.ask now.horizon part
rows_opened d q s now part denies after same denies_is key_is tells =
    let keyed = subst (λ (rows : Option (List ℕ)). TellsHistories d (asked denies q) s.horizon rows (form_of d q s.horizon denies (option_map (λ (key : Bor Key). key.now) after)))
    (rows_of_keys after) tells in
    let meant = subst (λ (k : Option Key). TellsHistories d (asked denies q) s.horizon (option_map (λ (key : Key). key.row) k) (form_of d q s.horizon denies k)) key_is keyed in
    let denied = subst (λ (b : Bool). TellsHistories d (asked b q) s.horizon (key_row s.ask) (form_of d q s.horizon b s.ask.after)) denies_is meant in
    let there = subst (λ (v : SessionView). TellsHistories d (asked (not (is_conditions part)) q) v.horizon (key_row v.ask) (form_of d q v.horizon (not (is_conditions part)) v.ask.after)) same denied in
    subst (λ (x : Query). TellsHistories d x now.horizon (key_row now.ask) (form_of d q now.horizon (not (is_conditions part)) now.ask.after)) (asked_is q part) there

-- ---- nothing is derived yet

none_derived : (clauses : List (List Literal)) → derived_count (axioms_of clauses) ≡ 0
none_derived [] = refl
none_derived (clause ∷ clauses) = none_derived clauses

pub as_many : (clauses : List (List Literal)) → length (axioms_of clauses) ≡ length clauses
as_many [] = refl
as_many (clause ∷ clauses) = ap suc (as_many clauses)

pub fresh_opened : (solver : SolverView) (form : Axioms) → solver.kernel.entries ≡ axioms_of form.clauses → derived_count solver.kernel.entries ≡ 0
fresh_opened solver form entries = ap derived_count entries ∙ none_derived form.clauses

pub within_opened : (ask : Ask) (solver : SolverView) (form : Axioms) → AreGoodAxioms form → solver.sizes ≡ form.sizes → solver.kernel.variables ≡ form.variables →
    form.variables ≤ 4000000 → solver.kernel.entries ≡ axioms_of form.clauses → length form.clauses ≤ 8000000 → IsWithin ask solver 0
within_opened ask solver form good sizes variables low entries few =
    let none = fresh_opened solver form entries in
    let many : length solver.kernel.entries ≡ length form.clauses = ap (λ (l : List Entry). length l) entries ∙ as_many form.clauses in
    let clauses : clauses_of solver.kernel ≡ form.clauses = ap (λ (l : List Entry). map (λ entry. entry.clause) l) entries ∙ axioms_are form.clauses in
    record {
      derived = omega arith;
      few = omega arith;
      denied_few = omega arith;
      over = subst (λ (l : List (List Literal)). AllByRecursion (IsOver solver.kernel.variables) l) (sym clauses)
          (subst (λ (n : ℕ). AllByRecursion (IsOver n) form.clauses) (sym variables) good.over);
      variables = subst (λ (n : ℕ). n ≤ 4000000) (sym variables) low;
      positions = subst (λ (n : ℕ). sum solver.sizes ≤ n) (sym variables) (subst (λ (l : List ℕ). sum l ≤ form.variables) (sym sizes) good.positions);
    }

-- its rules and clauses are within their limits
pub within_part : (d : Description) (q : Query) (s now : SessionView) (part : Part) (denies : Bool) (key : Option Key) → s ≡ now → denies ≡ not (is_conditions part) →
    key ≡ s.ask.after → refusal_at d q s.horizon denies key ≡ None → opening_refusal d q now.ask now.horizon (is_conditions part) ≡ None
within_part d q s now part denies key same denies_is key_is none =
    subst (λ (v : SessionView). opening_refusal d q v.ask v.horizon (is_conditions part) ≡ None) same
    (subst (λ (b : Bool). refusal_at d q s.horizon b s.ask.after ≡ None) denies_is (subst (λ (k : Option Key). refusal_at d q s.horizon denies k ≡ None) key_is none))

-- its axioms are good
pub good_opened : (d : Description) (q : Query) (s now : SessionView) (part : Part) (denies : Bool) (key : Option Key) (form : Axioms) →
    s ≡ now → denies ≡ not (is_conditions part) → key ≡ s.ask.after → form ≡ form_of d q s.horizon denies key → AreGoodAxioms form →
    AreGoodAxioms (axioms_at d q now.ask now.horizon part)
good_opened d q s now part denies key form same denies_is key_is is good =
    subst AreGoodAxioms (is ∙ same_form d q s now part denies key same denies_is key_is) good
