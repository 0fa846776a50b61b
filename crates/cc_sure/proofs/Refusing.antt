-- When a run refuses, and what holds behind the values that examples have.
use Rattle.std.proofs.Common.{◌≡◌, ◌∙◌, ℕ, ◌+◌, ◌<◌, ◌≤◌, List, [], ◌∷◌, ◌++◌, length, slice_get, Option, Some, None, Result, Ok, Err, IfOk, IfErr, refl, sym, subst, ap, arith, append-nil, append_assoc}
use Rattle.std.specs.Prelude.{true, false}
use Rattle.std.specs.Option.{option_or}
use Rattle.cc_defs.specs.declared.refusal.Fault.{Fault}
use Rattle.cc_defs.specs.declared.refusal.Fault.TheVariants as faults
use Rattle.cc_defs.specs.declared.refusal.Refusal.{Refusal}
use Rattle.cc_defs.specs.Description.{Description}
use Rattle.cc_defs.specs.GroundLaws.{StandsForQuery}
use Rattle.cc_defs.specs.Refusals.{IsRefusedBy}
use Rattle.cc_defs.specs.Resolved.{Query}
use Rattle.cc_defs.specs.Runs.{axioms_of, range_of}
use Rattle.cc_defs.specs.Sections.{Axioms}
use Rattle.cc_form.specs.Building.{count_refusal}
use Rattle.cc_form.specs.Forms.{section_refusal, with_atom}
use Rattle.cc_lists.proofs.Members.{all_append}
use Rattle.cc_sure.specs.declared.turn.SureTurn.{SureTurn}
use Rattle.cc_sure.specs.declared.phase.Phase.TheVariants as phases
use Rattle.cc_silent.specs.Sought.{With, sought_refusal}
use Rattle.cc_sure.specs.SureRuns.{Settled, SureRun, Tried, Known, AreTrueTried, IsNew, IsToSearch, ReachesSureLimit, settled_examples, sought_next, sure_horizon}
use Rattle.cc_sure.specs.Sures.{Gives, IsAsking, IsRightFault, IsSureOf, PassesTo, SureView, left_of}
use Rattle.cc_sure.proofs.Giving.{atom_at, low_at, low_of, new_of_run, opened_of, tried_count}
use Rattle.cc_sure.proofs.Runs.{asking_stands, going, looking_stands}
use Rattle.cc_theory.specs.Theories.{AreLawsOf}

-- ---- the axioms of a horizon pass a limit

pub form_fault : (now : SureView) → now.horizon ≤ now.query.hi → (fault : Fault) →
    ((d : Description) (q : Query) → IsSureOf now d q → IsRefusedBy (section_refusal d q now.horizon true None) fault) → IsRightFault (record now { phase = phases.Looking }) fault
form_fault now low faults.OutOfMemory refused = tt
form_fault now low (faults.Refused refusal) refused = λ d q run of stands.
    let (empty, same, fair, horizon) = looking_stands d q now run stands in
    subst (λ (r : SureRun). ReachesSureLimit d q now.budget r refusal) (sym same) (record {
      known = [];
      each = tt;
      fair = tt;
      search = record { open_yet = refl; horizon = low_at now d q empty of horizon low; atom = tt };
      limit = subst (λ (h : ℕ). section_refusal d q h true None ≡ Some refusal) horizon (refused d q (record { laws = of.laws; query = of.query }));
    })

-- ---- those with an atom do

module _ (now : SureView) (form : Axioms) (is : IsAsking now form) (size : ℕ) (at_size : slice_get form.sizes now.position ≡ Some size) (less : length now.never < size)
    (new_value : IsNew now.examples now.position (length now.never)) where
  passed : (d : Description) (q : Query) → IsSureOf (record now { phase = phases.Asking form }) d q → (refusal : Refusal) →
      count_refusal (with_atom form now.position (length now.never)).clauses ≡ Some refusal → sought_refusal d q now.horizon (With now.position (length now.never)) ≡ Some refusal
  passed d q of refusal past =
      let opened = opened_of now form is d q of in
      ap (λ (o : Option Refusal). option_or o (count_refusal (with_atom (axioms_of d q None false now.horizon) now.position (length now.never)).clauses)) opened.within
      ∙ ap (λ (x : Axioms). count_refusal (with_atom x now.position (length now.never)).clauses) (sym opened.axioms) ∙ past

  pub atom_fault : (position value : ℕ) → position ≡ now.position → value ≡ length now.never → (fault : Fault) →
      IsRefusedBy (count_refusal (with_atom form position value).clauses) fault → IsRightFault (record now { phase = phases.Asking form }) fault
  atom_fault position value position_is value_is faults.OutOfMemory refused = tt
  atom_fault position value position_is value_is (faults.Refused refusal) refused = λ d q run of stands.
      let (empty, row, same, fair, at) = asking_stands d q now form run stands in
      let past : count_refusal (with_atom form now.position (length now.never)).clauses ≡ Some refusal =
      sym (λ i. count_refusal (with_atom form (position_is i) (value_is i)).clauses) ∙ refused in
      subst (λ (r : SureRun). ReachesSureLimit d q now.budget r refusal) (sym same)
      (reaches d q of refusal past empty row run.done run.next fair at)
    where
      reaches : (d : Description) (q : Query) → IsSureOf (record now { phase = phases.Asking form }) d q → (refusal : Refusal) →
          count_refusal (with_atom form now.position (length now.never)).clauses ≡ Some refusal → (empty : ℕ) (row : List ℕ) (done : List Settled) (next : List Tried) →
          Rattle.cc_sure.specs.SureRuns.IsFairSure d q now.budget (going empty row done next) → Rattle.cc_sure.specs.Sures.IsAt q now (going empty row done next) →
          ReachesSureLimit d q now.budget (going empty row done next) refusal
      reaches d q of refusal past empty row done next fair at =
          let nil = sym (append-nil next) in
          record {
            known = [];
            each = tt;
            fair = subst (λ (l : List Tried). AreTrueTried d q now.budget ((range_of q).0 + empty) (settled_examples (going empty row done next)) (length done) 0 l) nil fair.next;
            search = subst (λ (l : List Tried). IsToSearch d q (going empty row done l)) nil (record {
              open_yet = refl;
              horizon = low_of now form is d q empty of at.horizon;
              atom = (atom_at now form is size at_size less d q of empty row done next at, new_of_run now form is size at_size less new_value q empty row done next at);
            });
            limit = subst (λ (l : List Tried). sought_refusal d q ((range_of q).0 + empty) (With (length done) (length l)) ≡ Some refusal) nil
                (subst (λ (h : ℕ). sought_refusal d q h (With (length done) (length next)) ≡ Some refusal) at.horizon
                (subst (λ (p : ℕ). sought_refusal d q now.horizon (With p (length next)) ≡ Some refusal) at.position
                (subst (λ (v : ℕ). sought_refusal d q now.horizon (With now.position v) ≡ Some refusal) (tried_count now form is q empty row done next at) (passed d q of refusal past))));
          }

-- ---- behind values that examples have

module _ (form : Axioms) (now mid : SureView) (is : IsAsking now form) (passes : PassesTo form now mid) where
  of_behind : (d : Description) (q : Query) → IsSureOf (record now { phase = phases.Asking form }) d q → IsSureOf (record mid { phase = phases.Asking form }) d q
  of_behind d q of = record {
    laws = subst (λ (s : SureView). AreLawsOf s.signature s.laws d) (sym passes.new_is) of.laws;
    query = subst (λ (s : SureView). StandsForQuery s.query d q) (sym passes.new_is) of.query;
  }

  left_behind : left_of (record mid { phase = phases.Asking form }) ≤ left_of (record now { phase = phases.Asking form })
  left_behind =
      let more = passes.more in
      subst (λ (s : SureView). left_of (record s { phase = phases.Asking form }) ≤ left_of (record now { phase = phases.Asking form })) (sym passes.new_is) (omega arith)

  pub gives_behind : (r : Result SureTurn Fault) (new : SureView) → IfOk r (Gives (record mid { phase = phases.Asking form }) new) → IfOk r (Gives (record now { phase = phases.Asking form }) new)
  gives_behind (Err fault) new gives = tt
  gives_behind (Ok turn) new gives = record {
    tells = λ d q run of stands.
        let (known, each, told, stood) = passes.stands d q run (record { laws = of.laws; query = of.query }) stands in
        let (after, more, turn_is, told_is, stands_so) = gives.tells d q (record run { next = run.next ++ known }) (of_behind d q of) stood in
        (after, more, turn_is, told_is ∙ ap (λ l. l ++ more ∷ []) told, stands_so);
    less = (let less = gives.less in let left = left_behind in omega arith);
    goes = gives.goes;
    short = gives.short;
    few = gives.few;
    good = λ d q of. gives.good d q (of_behind d q of);
  }

  pub refuses_behind : (r : Result SureTurn Fault) → IfErr r (IsRightFault (record mid { phase = phases.Asking form })) → IfErr r (IsRightFault (record now { phase = phases.Asking form }))
  refuses_behind (Ok turn) right = tt
  refuses_behind (Err faults.OutOfMemory) right = tt
  refuses_behind (Err (faults.Refused refusal)) right = λ d q run of stands.
      let (known, each, told, stood) = passes.stands d q run (record { laws = of.laws; query = of.query }) stands in
      let reached = right d q (record run { next = run.next ++ known }) (of_behind d q of) stood in
      let same = append_assoc run.next known reached.known in
      let budget : mid.budget ≡ now.budget = ap (λ (s : SureView). s.budget) passes.new_is in
      record {
        known = known ++ reached.known;
        each = all_append (λ (t : Tried). t ≡ Known) known reached.known each reached.each;
        fair = subst (λ (b : ℕ). AreTrueTried d q b (sure_horizon q run) (settled_examples run) (length run.done) 0 (run.next ++ (known ++ reached.known))) budget
            (subst (λ (l : List Tried). AreTrueTried d q mid.budget (sure_horizon q run) (settled_examples run) (length run.done) 0 l) same reached.fair);
        search = subst (λ (l : List Tried). IsToSearch d q (record run { next = l })) same reached.search;
        limit = subst (λ (l : List Tried). sought_refusal d q (sure_horizon q run) (sought_next (record run { next = l }) run.first) ≡ Some refusal) same reached.limit;
      }
