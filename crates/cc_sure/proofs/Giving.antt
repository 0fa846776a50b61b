-- What each step of a run gives: the turn that is told, and where the state stands then.
use Rattle.std.proofs.Common.{◌≡◌, ◌∙◌, ℕ, zero, suc, ◌+◌, ◌<◌, ◌≤◌, Bool, true, false, List, [], ◌∷◌, ◌++◌, drop, length, map, sum, slice_get, Option, Some, None, refl, sym, subst, ap, arith, append-nil, append_assoc, length-append, inl, inr}
use Rattle.std.proofs.lemmas.List.{length-map, map-append}
use Rattle.std.proofs.lemmas.List.Elements.{Contains-append_left, Contains-append_right}
use Rattle.std.proofs.lemmas.List.Sums.{sum_by-cons}
use Rattle.cc_clauses.specs.RowsOf.{IsRowOf}
use Rattle.cc_defs.specs.declared.log.EndWord.{EndWord}
use Rattle.cc_defs.specs.declared.log.EndWord.TheVariants as words
use Rattle.cc_defs.specs.declared.log.LogLine.{LogLine}
use Rattle.cc_defs.specs.Description.{Description, sizes_at}
use Rattle.cc_defs.specs.GroundLaws.{StandsForQuery}
use Rattle.cc_defs.specs.Histories.{AreFirst, AreFirstOf}
use Rattle.cc_defs.specs.Resolved.{Query}
use Rattle.cc_defs.specs.Rows.{IsRow}
use Rattle.cc_defs.specs.Runs.{range_of}
use Rattle.cc_defs.specs.Sections.{Axioms}
use Rattle.cc_form.specs.Building.{count_refusal}
use Rattle.cc_form.specs.Forms.{with_atom}
use Rattle.cc_lists.specs.Subjects.{AreGoodAxioms}
use Rattle.cc_lists.proofs.Members.{all_append, in_first}
use Rattle.cc_search.specs.declared.least.Outcome.{Outcome}
use Rattle.cc_search.specs.declared.least.Outcome.TheVariants as outcomes
use Rattle.cc_search.specs.Outcomes.{IsEnded, IsOutcome}
use Rattle.cc_sure.specs.declared.answer.Answer.{Answer}
use Rattle.cc_sure.specs.declared.turn.SureTurn.{SureTurn}
use Rattle.cc_sure.specs.declared.turn.SureTurn.TheVariants as turns
use Rattle.cc_sure.specs.declared.phase.Phase.TheVariants as phases
use Rattle.cc_sure.specs.Outcomes.{AreAnswersFor, SomeHas}
use Rattle.cc_silent.specs.Sought.{HasValue, IsAtomAt, IsSought, Any, With, PassesNoLimit, sought_axioms}
use Rattle.cc_sure.specs.SureRuns.{Settled, SureEnding, Complete, NoneAtAll, Spent, SureRun, Tried, Known, Shown, Never, IsFairSure, IsNew, IsTrueTried, LooksFor, MayEndSure, examples_of, settled_examples, shown_by, shown_in}
use Rattle.cc_sure.specs.SureTold.{SureTold, NoneAt, ExampleIs, NeverSo, AnswersAre, Ends, sure_told}
use Rattle.cc_sure.specs.Sures.{AreFewTried, Gives, IsAsking, IsAt, IsFormOf, IsOpened, IsOver, IsSureTurn, IsSureOf, PassesTo, Stands, SureView, TellsNext, Awaits, is_never, left_at, left_of}
use Rattle.cc_sure.proofs.Answering.{behind_cases, examples_still, settled_so}
use Rattle.cc_silent.proofs.Atoms.{has_of}
use Rattle.cc_sure.proofs.Opening.{any_ended, atom_ended, atom_found, atom_within, first_found, none_found}
use Rattle.cc_sure.proofs.Runs.{IsEmptyAt, adds, asking_stands, at_first, begins_fair, begins_told, ending_told, ends_fair, going, looking_stands, passes_fair, passes_told, range_is, settles_fair, settles_told, tries_fair, tries_told}
use Rattle.cc_sure.proofs.Told.{shown_more}
use Rattle.cc_theory.specs.Theories.{AreLawsOf}

pub gives_at : (old new expected : SureView) (turn : SureTurn) → new ≡ expected → Gives old expected turn → Gives old new turn
gives_at old new expected turn is gives = subst (λ (s : SureView). Gives old s turn) (sym is) gives

-- ---- sizes

sum_cons : (size : ℕ) (sizes : List ℕ) → sum (size ∷ sizes) ≡ size + sum sizes
sum_cons size sizes = sum_by-cons (λ (n : ℕ). n) size sizes

-- each position has a value, where there is a row
pub row_long : (sizes row : List ℕ) → IsRow sizes row → length sizes ≤ sum sizes
row_long [] row is = omega arith
row_long (size ∷ sizes) [] is = absurd is
row_long (size ∷ sizes) (index ∷ row) is = let less = is.0 in let more = row_long sizes row is.1 in let all = sum_cons size sizes in omega arith

pub dropped : (sizes : List ℕ) (position size : ℕ) → slice_get sizes position ≡ Some size →
    (sum (drop position sizes) ≡ size + sum (drop (suc position) sizes)) × (length (drop position sizes) ≡ suc (length (drop (suc position) sizes))) × (position < length sizes)
dropped [] position size at = absurd cc
dropped (s ∷ sizes) zero size at = let same : s ≡ size = cc in let all = sum_cons s sizes in (omega arith, refl, omega arith)
dropped (s ∷ sizes) (suc position) size at = let rest = dropped sizes position size at in (rest.0, rest.1, (let below = rest.2 in omega arith))

pub dropped_less : (sizes : List ℕ) (position : ℕ) → sum (drop position sizes) ≤ sum sizes
dropped_less [] zero = omega arith
dropped_less [] (suc position) = omega arith
dropped_less (s ∷ sizes) zero = omega arith
dropped_less (s ∷ sizes) (suc position) = let rest = dropped_less sizes position in let all = sum_cons s sizes in omega arith

past : (sizes : List ℕ) (position : ℕ) → slice_get sizes position ≡ None → length sizes ≤ position
past [] position at = omega arith
past (s ∷ sizes) zero at = absurd cc
past (s ∷ sizes) (suc position) at = let rest = past sizes position at in omega arith

few_none : (o : Option ℕ) → AreFewTried o []
few_none None = refl
few_none (Some size) = omega arith

pub few_at : (o : Option ℕ) (size : ℕ) (never : List Bool) → o ≡ Some size → AreFewTried o never → length never ≤ size
few_at o size never is few = subst (λ (w : Option ℕ). AreFewTried w never) is few

few_so : (o : Option ℕ) (size : ℕ) (never : List Bool) → o ≡ Some size → length never ≤ size → AreFewTried o never
few_so o size never is few = subst (λ (w : Option ℕ). AreFewTried w never) (sym is) few

left_over : (s : SureView) → IsOver s → left_of s ≡ 0
left_over s is = ap (λ p. left_at s p) is

over_less : (new old : SureView) → IsOver new → 0 < left_of old → left_of new < left_of old
over_less new old over some = subst (λ (n : ℕ). n < left_of old) (sym (left_over new over)) some

-- ---- a horizon is looked at

module _ (now : SureView) where
  abbrev pub looking : SureView
  looking = record now { phase = phases.Looking }

  pub opened_at : (form : Axioms) → IsOpened now form → (d : Description) (q : Query) → IsSureOf looking d q → IsFormOf d q now.horizon form
  opened_at form opened d q of = opened d q (record { laws = of.laws; query = of.query })

  pub low_at : (d : Description) (q : Query) (empty : ℕ) → IsSureOf looking d q → now.horizon ≡ (range_of q).0 + empty → now.horizon ≤ now.query.hi → (range_of q).0 + empty ≤ (range_of q).1
  low_at d q empty of at low = let range = range_is looking d q of in let hi = range.1 in omega arith

  -- what is told behind a run of this shape is told behind the run
  tells_looking : (new : SureView) (turn : SureTurn) → ((d : Description) (q : Query) → IsSureOf looking d q → (empty : ℕ) → IsFairSure d q now.budget (at_first empty) →
      now.horizon ≡ (range_of q).0 + empty → TellsNext d q new (at_first empty) turn) →
      (d : Description) (q : Query) (run : SureRun) → IsSureOf looking d q → Stands d q looking run → TellsNext d q new run turn
  tells_looking new turn tells d q run of stands =
      let (empty, same, fair, horizon) = looking_stands d q now run stands in
      subst (λ (r : SureRun). TellsNext d q new r turn) (sym same) (tells d q of empty fair horizon)

  -- an ending
  ends_looking : (ending : SureEnding) (turn : SureTurn) → IsOver now →
      ((d : Description) (q : Query) → IsSureOf looking d q → (empty : ℕ) → IsFairSure d q now.budget (at_first empty) → now.horizon ≡ (range_of q).0 + empty → MayEndSure d q now.budget (at_first empty) ending) →
      IsSureTurn turn (Ends Any ending) → now.position ≡ 0 → now.examples ≡ [] → now.never ≡ [] →
      (d : Description) (q : Query) (run : SureRun) → IsSureOf looking d q → Stands d q looking run → TellsNext d q now run turn
  ends_looking ending turn over may is position examples never = tells_looking now turn (λ d q of empty fair horizon. (
    record (at_first empty) { ending = Some ending },
    Ends Any ending,
    is,
    ending_told _ (Ends Any ending),
    record {
      fair = ends_fair d q now.budget (at_first empty) ending fair (may d q of empty fair horizon);
      at = record { horizon = horizon; examples = examples; position = position; never = never };
      awaits = subst (λ p. Awaits (record (at_first empty) { ending = Some ending }) p) (sym over) refl;
    },
  ))

  pub none_gives : IsOver now → now.query.hi < now.horizon → (now.horizon ≤ now.query.hi + 1) → now.examples ≡ [] → now.position ≡ 0 → now.never ≡ [] → Gives looking now turns.NoneAtAll
  none_gives over high most examples position never = record {
    tells = ends_looking NoneAtAll turns.NoneAtAll over
        (λ d q of empty fair horizon. (refl, (let range = range_is looking d q of in let hi = range.1 in omega arith))) tt position examples never;
    less = over_less now looking over (omega arith);
    goes = over;
    short = tt;
    good = λ d q of. tt;
    few = tt;
  }

  pub spent_gives : IsOver now → (now.horizon ≤ now.query.hi) → now.examples ≡ [] → now.position ≡ 0 → now.never ≡ [] → (form : Axioms) → IsOpened now form → (lines : List LogLine) →
      IsOutcome form now.budget (outcomes.Spent lines) → Gives looking now (turns.Spent None lines)
  spent_gives over low examples position never form opened lines ended = record {
    tells = ends_looking (Spent ended.section) (turns.Spent None lines) over
        (λ d q of empty fair horizon. (
          low_at d q empty of horizon low,
          tt,
          subst (λ (h : ℕ). LooksFor d q now.budget h Any ended.section) horizon (any_ended d q now.horizon now.budget form (opened_at form opened d q of) words.Spent lines ended),
          ended.ends,
        )) (refl, ended.lines_are) position examples never;
    less = over_less now looking over (omega arith);
    goes = over;
    short = ended.formed;
    good = λ d q of. tt;
    few = tt;
  }

  pub pass_gives : (now.horizon ≤ now.query.hi) → now.horizon ≤ 1000 → now.examples ≡ [] → now.position ≡ 0 → now.never ≡ [] → (form : Axioms) → IsOpened now form → (lines : List LogLine) →
      IsOutcome form now.budget (outcomes.Empty lines) → (new : SureView) → new ≡ record now { horizon = now.horizon + 1; phase = phases.Looking } →
      (turn : SureTurn) → turn ≡ turns.NoHistory now.horizon → Gives looking new turn
  pass_gives low most examples position never form opened lines ended new new_is turn turn_is =
      let after : SureView = record now { horizon = now.horizon + 1; phase = phases.Looking } in
      gives_at looking new after turn new_is (subst (λ (e : SureTurn). Gives looking after e) (sym turn_is) (record {
        tells = tells_looking after (turns.NoHistory now.horizon) (λ d q of empty fair horizon. (
          at_first (empty + 1),
          NoneAt ((range_of q).0 + empty),
          horizon,
          passes_told q empty,
          record {
            fair = passes_fair d q now.budget empty fair (low_at d q empty of horizon low)
                (subst (IsEmptyAt d q now.budget) horizon (none_found d q now.horizon now.budget form (opened_at form opened d q of) lines ended, (opened_at form opened d q of).within));
            at = record { horizon = (let e : now.horizon + 1 ≡ (range_of q).0 + (empty + 1) = omega arith in e); examples = examples; position = position; never = never };
            awaits = (refl, refl);
          },
        ));
        less = omega arith;
        goes = λ is. absurd cc;
        short = tt;
        good = λ d q of. tt;
        few = omega arith;
      }))

  begun_asking : (form : Axioms) (row : List ℕ) → now.horizon ≤ now.query.hi → now.examples ≡ [] → now.position ≡ 0 → now.never ≡ [] → IsOpened now form →
      AreFirstOf (IsRowOf form.sizes form.clauses) (row ∷ []) → sum form.sizes + 1 ≤ 4000000 → IsAsking (record now { examples = row ∷ []; position = 0; never = [] }) form
  begun_asking form row low examples position never opened found sizes =
      let is = (found.each row (in_first row [])).is_row in
      record {
        low = low;
        opened = λ d q of. opened d q (record { laws = of.laws; query = of.query });
        sizes = sizes;
        positions = row_long form.sizes row is;
        position = omega arith;
        tried = few_none (slice_get form.sizes 0);
        examples = omega arith;
        known = λ value at. absurd cc;
      }

  -- where nothing was asked yet
  begun_is : (row : List ℕ) (mid : SureView) → mid ≡ record now { examples = now.examples ++ row ∷ [] } → now.examples ≡ [] → now.position ≡ 0 → now.never ≡ [] →
      mid ≡ record now { examples = row ∷ []; position = 0; never = [] }
  begun_is row mid is examples position never = is ∙ (λ i. record now { examples = examples i ++ row ∷ []; position = position i; never = never i })

  pub begin_ready : (form : Axioms) (row : List ℕ) → now.horizon ≤ now.query.hi → now.examples ≡ [] → now.position ≡ 0 → now.never ≡ [] → IsOpened now form →
      IsOutcome form now.budget (outcomes.Found row) → sum form.sizes + 1 ≤ 4000000 → (mid : SureView) → mid ≡ record now { examples = now.examples ++ row ∷ [] } → IsAsking mid form
  begin_ready form row low examples position never opened found sizes mid is =
      subst (λ (s : SureView). IsAsking s form) (sym (begun_is row mid is examples position never)) (begun_asking form row low examples position never opened found sizes)

  pub begin_gives : (form : Axioms) (row shown : List ℕ) → now.horizon ≤ now.query.hi → now.examples ≡ [] → now.position ≡ 0 → now.never ≡ [] → IsOpened now form →
      IsOutcome form now.budget (outcomes.Found row) → sum form.sizes + 1 ≤ 4000000 → (mid new : SureView) → mid ≡ record now { examples = now.examples ++ row ∷ [] } →
      new ≡ record mid { phase = phases.Asking form } → shown ≡ row → Gives looking new (turns.Example 1 shown)
  begin_gives form row shown low examples position never opened found sizes mid new mid_is new_is shown_is =
      let after : SureView = record now { examples = row ∷ []; position = 0; never = []; phase = phases.Asking form } in
      let small = row_long form.sizes row ((found.each row (in_first row [])).is_row) in
      gives_at looking new after (turns.Example 1 shown) (new_is ∙ (λ i. record (begun_is row mid mid_is examples position never i) { phase = phases.Asking form })) (record {
        tells = tells_looking after (turns.Example 1 shown) (λ d q of empty fair horizon. (
          going empty row [] [],
          ExampleIs 1 row,
          (refl, shown_is),
          begins_told q empty row,
          record {
            fair = begins_fair d q now.budget empty row fair (low_at d q empty of horizon low)
                (subst (λ (h : ℕ). AreFirst d q h None (row ∷ [])) horizon (first_found d q now.horizon now.budget form (opened_at form opened d q of) row found))
                (subst (λ (h : ℕ). PassesNoLimit d q h Any) horizon (opened_at form opened d q of).within);
            at = record { horizon = horizon; examples = refl; position = refl; never = refl };
            awaits = (refl, refl);
          },
        ));
        less = omega arith;
        goes = λ is. absurd cc;
        short = tt;
        good = λ d q of. tt;
        few = omega arith;
      })

-- ---- values are asked

module _ (now : SureView) (form : Axioms) (is : IsAsking now form) where
  abbrev pub asking : SureView
  asking = record now { phase = phases.Asking form }

  pub opened_of : (d : Description) (q : Query) → IsSureOf asking d q → IsFormOf d q now.horizon form
  opened_of d q of = is.opened d q (record { laws = of.laws; query = of.query })

  sizes_of : (d : Description) (q : Query) → IsSureOf asking d q → (empty : ℕ) → now.horizon ≡ (range_of q).0 + empty → form.sizes ≡ sizes_at d ((range_of q).0 + empty)
  sizes_of d q of empty horizon = ap (λ (f : Axioms). f.sizes) (opened_of d q of).axioms ∙ ap (sizes_at d) horizon

  pub low_of : (d : Description) (q : Query) (empty : ℕ) → IsSureOf asking d q → now.horizon ≡ (range_of q).0 + empty → (range_of q).0 + empty ≤ (range_of q).1
  low_of d q empty of at = let range = range_is asking d q of in let hi = range.1 in let low = is.low in omega arith

  tells_asking : (new : SureView) (turn : SureTurn) → ((d : Description) (q : Query) → IsSureOf asking d q → (empty : ℕ) (row : List ℕ) (done : List Settled) (next : List Tried) →
      IsFairSure d q now.budget (going empty row done next) → IsAt q now (going empty row done next) → TellsNext d q new (going empty row done next) turn) →
      (d : Description) (q : Query) (run : SureRun) → IsSureOf asking d q → Stands d q asking run → TellsNext d q new run turn
  tells_asking new turn tells d q run of stands =
      let (empty, row, same, fair, at) = asking_stands d q now form run stands in
      subst (λ (r : SureRun). TellsNext d q new r turn) (sym same) (tells d q of empty row run.done run.next fair at)

  -- how many values were tried
  pub tried_count : (q : Query) (empty : ℕ) (row : List ℕ) (done : List Settled) (next : List Tried) → IsAt q now (going empty row done next) → length now.never ≡ length next
  tried_count q empty row done next at = ap length at.never ∙ length-map next is_never

  -- ---- the value that is next, where the position has it and no example

  module _ (size : ℕ) (at_size : slice_get form.sizes now.position ≡ Some size) (less : length now.never < size) where
    small : (length now.examples + 1 ≤ 4000000) × (now.position < 4000000) × (length now.never < 4000000)
    small =
        let sizes = is.sizes in let positions = is.positions in let examples = is.examples in let from = dropped form.sizes now.position size at_size in
        let below = from.2 in let sums = from.0 in let all = dropped_less form.sizes now.position in
        (omega arith, omega arith, omega arith)

    pub value_small : length now.never ≤ 4000000
    value_small = let low = small.2 in omega arith

    pub count_small : (row : List ℕ) (mid : SureView) (never : List Bool) → mid ≡ record now { never = never; examples = now.examples ++ row ∷ [] } → length mid.examples ≤ 4000000
    count_small row mid never mid_is =
        let low = small.0 in let long = ap (λ (s : SureView). length s.examples) mid_is ∙ length-append now.examples (row ∷ []) in omega arith

    -- with one value more, the state is still asking
    more_asking : (never : Bool) (examples : List (List ℕ)) → length examples ≤ length now.examples + 1 →
        ((value : ℕ) → slice_get (now.never ++ never ∷ []) value ≡ Some false → SomeHas examples now.position value) →
        IsAsking (record now { never = now.never ++ never ∷ []; examples = examples }) form
    more_asking never examples few known =
        let long = length-append now.never (never ∷ []) in let bound = is.examples in
        record {
          low = is.low;
          opened = λ d q of. is.opened d q (record { laws = of.laws; query = of.query });
          sizes = is.sizes;
          positions = is.positions;
          position = is.position;
          tried = few_so (slice_get form.sizes now.position) size (now.never ++ never ∷ []) at_size (omega arith);
          examples = omega arith;
          known = known;
        }

    left_less : (never : Bool) (examples : List (List ℕ)) → left_of (record now { never = now.never ++ never ∷ []; examples = examples; phase = phases.Asking form }) < left_of asking
    left_less never examples =
        let long = length-append now.never (never ∷ []) in let from = dropped form.sizes now.position size at_size in let sums = from.0 in omega arith

    pub atom_at : (d : Description) (q : Query) → IsSureOf asking d q → (empty : ℕ) (row : List ℕ) (done : List Settled) (next : List Tried) → IsAt q now (going empty row done next) →
        IsAtomAt d ((range_of q).0 + empty) (length done) (length next)
    atom_at d q of empty row done next at = (
      size,
      sym (ap (λ (l : List ℕ). slice_get l (length done)) (sizes_of d q of empty at.horizon)) ∙ ap (slice_get form.sizes) (sym at.position) ∙ at_size,
      (let count = tried_count q empty row done next at in omega arith),
    )

    after_at : (q : Query) (tried : Tried) (never : Bool) (examples : List (List ℕ)) → is_never tried ≡ never → examples ≡ now.examples ++ shown_by tried →
        (empty : ℕ) (row : List ℕ) (done : List Settled) (next : List Tried) → IsAt q now (going empty row done next) →
        IsAt q (record now { never = now.never ++ never ∷ []; examples = examples; phase = phases.Asking form }) (going empty row done (next ++ tried ∷ []))
    after_at q tried never examples never_is examples_is empty row done next at = record {
      horizon = at.horizon;
      examples = examples_is ∙ ap (λ l. l ++ shown_by tried) at.examples ∙ append_assoc (settled_examples (going empty row done next)) (shown_in next) (shown_by tried)
          ∙ ap (λ l. settled_examples (going empty row done next) ++ l) (sym (shown_more next tried));
      position = at.position;
      never = ap (λ (l : List Bool). l ++ never ∷ []) at.never ∙ ap (λ (b : Bool). map is_never next ++ b ∷ []) (sym never_is) ∙ sym (map-append is_never next (tried ∷ []));
    }

    -- what a value that was tried tells
    tried_tells : (tried : Tried) (never : Bool) (examples : List (List ℕ)) (turn : SureTurn) → is_never tried ≡ never → examples ≡ now.examples ++ shown_by tried →
        ((d : Description) (q : Query) → IsSureOf asking d q → (empty : ℕ) (row : List ℕ) (done : List Settled) (next : List Tried) → IsAt q now (going empty row done next) →
        IsTrueTried d q now.budget ((range_of q).0 + empty) (examples_of (going empty row done next)) (length done) (length next) tried
        × ((told : SureTold) × IsSureTurn turn told × (adds q empty row done next tried ≡ told ∷ []))) →
        (d : Description) (q : Query) (run : SureRun) → IsSureOf asking d q → Stands d q asking run →
        TellsNext d q (record now { never = now.never ++ never ∷ []; examples = examples; phase = phases.Asking form }) run turn
    tried_tells tried never examples turn never_is examples_is each =
        tells_asking (record now { never = now.never ++ never ∷ []; examples = examples; phase = phases.Asking form }) turn (λ d q of empty row done next fair at.
        let (true_of, (told, turn_is, adds_is)) = each d q of empty row done next at in (
          going empty row done (next ++ tried ∷ []),
          told,
          turn_is,
          tries_told q empty row done next tried ∙ ap (λ l. sure_told q (going empty row done next) ++ l) adds_is,
          record {
            fair = tries_fair d q now.budget empty row done next fair tried (atom_at d q of empty row done next at) true_of;
            at = after_at q tried never examples never_is examples_is empty row done next at;
            awaits = (refl, refl);
          },
        ))

    -- what is new is so of the run
    module _ (new_value : IsNew now.examples now.position (length now.never)) where
      pub new_of_run : (q : Query) (empty : ℕ) (first : List ℕ) (done : List Settled) (next : List Tried) → IsAt q now (going empty first done next) →
          IsNew (examples_of (going empty first done next)) (length done) (length next)
      new_of_run q empty first done next at =
          subst (λ (l : List (List ℕ)). IsNew l (length done) (length next)) at.examples
          (subst (λ (p : ℕ). IsNew now.examples p (length next)) at.position
          (subst (λ (v : ℕ). IsNew now.examples now.position v) (tried_count q empty first done next at) new_value))

    -- of a further example
    module _ (row : List ℕ) (new_value : IsNew now.examples now.position (length now.never)) (within : count_refusal (with_atom form now.position (length now.never)).clauses ≡ None)
        (found : IsOutcome (with_atom form now.position (length now.never)) now.budget (outcomes.Found row)) where
      row_has : (d : Description) (q : Query) → IsSureOf asking d q → AreFirstOf (IsSought d q now.horizon (With now.position (length now.never))) (row ∷ [])
      row_has d q of = atom_found d q now.horizon now.budget form (opened_of d q of) now.position (length now.never) size at_size less row found

      has_it : HasValue now.position (length now.never) row
      has_it = has_of form now.position (length now.never) size at_size less row (found.each row (in_first row []))

      known_with : (value : ℕ) → slice_get (now.never ++ false ∷ []) value ≡ Some false → SomeHas (now.examples ++ row ∷ []) now.position value
      known_with value at = elim (behind_cases now.never false value false at) [
        | inl before ↦ let (other, there, has) = is.known value before in (other, Contains-append_left now.examples (row ∷ []) other there, has)
        | inr last ↦ (row, Contains-append_right now.examples (row ∷ []) row (in_first row []), subst (λ (n : ℕ). HasValue now.position n row) (sym last.0) has_it)
      ]

      pub add_ready : (mid : SureView) → mid ≡ record now { never = now.never ++ false ∷ []; examples = now.examples ++ row ∷ [] } → IsAsking mid form
      add_ready mid mid_is = subst (λ (s : SureView). IsAsking s form) (sym mid_is)
          (more_asking false (now.examples ++ row ∷ []) (let long = length-append now.examples (row ∷ []) in omega arith) known_with)

      pub add_gives : (shown : List ℕ) (number : ℕ) (mid new : SureView) → mid ≡ record now { never = now.never ++ false ∷ []; examples = now.examples ++ row ∷ [] } →
          new ≡ record mid { phase = phases.Asking form } → shown ≡ row → number ≡ length mid.examples → Gives asking new (turns.Example number shown)
      add_gives shown number mid new mid_is new_is shown_is number_is =
          let after : SureView = record now { never = now.never ++ false ∷ []; examples = now.examples ++ row ∷ []; phase = phases.Asking form } in
          let long = length-append now.examples (row ∷ []) in
          let count : number ≡ length (now.examples ++ row ∷ []) = number_is ∙ ap (λ (s : SureView). length s.examples) mid_is in
          let low = small in
          gives_at asking new after (turns.Example number shown) (new_is ∙ ap (λ (s : SureView). record s { phase = phases.Asking form }) mid_is) (record {
            tells = tried_tells (Shown row) false (now.examples ++ row ∷ []) (turns.Example number shown) refl refl (λ d q of empty first done next at.
                let position = at.position in let values = tried_count q empty first done next at in let horizon = at.horizon in
                let all : length now.examples ≡ length (examples_of (going empty first done next)) = ap length at.examples in (
                  (shift_new q empty first done next at, shift_first d q of empty first done next at, shift_limit d q of empty first done next at),
                  (ExampleIs (length (examples_of (going empty first done next)) + 1) row, (omega arith, shown_is), refl),
                ));
            less = left_less false (now.examples ++ row ∷ []);
            goes = λ is. absurd cc;
            short = tt;
            good = λ d q of. tt;
            few = (let most = low.0 in omega arith);
          })
        where
          shift_new : (q : Query) (empty : ℕ) (first : List ℕ) (done : List Settled) (next : List Tried) → IsAt q now (going empty first done next) →
              IsNew (examples_of (going empty first done next)) (length done) (length next)
          shift_new q empty first done next at = new_of_run new_value q empty first done next at

          shift_limit : (d : Description) (q : Query) → IsSureOf asking d q → (empty : ℕ) (first : List ℕ) (done : List Settled) (next : List Tried) → IsAt q now (going empty first done next) →
              PassesNoLimit d q ((range_of q).0 + empty) (With (length done) (length next))
          shift_limit d q of empty first done next at =
              subst (λ (h : ℕ). PassesNoLimit d q h (With (length done) (length next))) at.horizon
              (subst (λ (p : ℕ). PassesNoLimit d q now.horizon (With p (length next))) at.position
              (subst (λ (v : ℕ). PassesNoLimit d q now.horizon (With now.position v)) (tried_count q empty first done next at)
              (atom_within d q now.horizon now.budget form (opened_of d q of) now.position (length now.never) size at_size less within)))

          shift_first : (d : Description) (q : Query) → IsSureOf asking d q → (empty : ℕ) (first : List ℕ) (done : List Settled) (next : List Tried) → IsAt q now (going empty first done next) →
              AreFirstOf (IsSought d q ((range_of q).0 + empty) (With (length done) (length next))) (row ∷ [])
          shift_first d q of empty first done next at =
              subst (λ (h : ℕ). AreFirstOf (IsSought d q h (With (length done) (length next))) (row ∷ [])) at.horizon
              (subst (λ (p : ℕ). AreFirstOf (IsSought d q now.horizon (With p (length next))) (row ∷ [])) at.position
              (subst (λ (v : ℕ). AreFirstOf (IsSought d q now.horizon (With now.position v)) (row ∷ [])) (tried_count q empty first done next at) (row_has d q of)))

    -- of an atom that no history has, and of a search that was spent
    module _ (new_value : IsNew now.examples now.position (length now.never)) (within : count_refusal (with_atom form now.position (length now.never)).clauses ≡ None)
        (word : EndWord) (lines : List LogLine) (ended : IsEnded (with_atom form now.position (length now.never)) now.budget word lines) where
      looks : (d : Description) (q : Query) → IsSureOf asking d q → (empty : ℕ) (first : List ℕ) (done : List Settled) (next : List Tried) → IsAt q now (going empty first done next) →
          LooksFor d q now.budget ((range_of q).0 + empty) (With (length done) (length next)) ended.section
      looks d q of empty first done next at =
          subst (λ (h : ℕ). LooksFor d q now.budget h (With (length done) (length next)) ended.section) at.horizon
          (subst (λ (p : ℕ). LooksFor d q now.budget now.horizon (With p (length next)) ended.section) at.position
          (subst (λ (v : ℕ). LooksFor d q now.budget now.horizon (With now.position v) ended.section) (tried_count q empty first done next at)
          (atom_ended d q now.horizon now.budget form (opened_of d q of) now.position (length now.never) size at_size less within word lines ended)))

      -- what was searched over
      good_of : (d : Description) (q : Query) → IsSureOf asking d q → (position value : ℕ) → position ≡ now.position → value ≡ length now.never →
          AreGoodAxioms (sought_axioms d q now.horizon (With position value))
      good_of d q of position value position_is value_is =
          subst (λ (x : Axioms). AreGoodAxioms (with_atom x position value)) (opened_of d q of).axioms
          (subst (λ (p : ℕ). AreGoodAxioms (with_atom form p value)) (sym position_is)
          (subst (λ (v : ℕ). AreGoodAxioms (with_atom form now.position v)) (sym value_is) ended.good))

      known_still : (value : ℕ) → slice_get (now.never ++ true ∷ []) value ≡ Some false → SomeHas now.examples now.position value
      known_still value at = elim (behind_cases now.never true value false at) [
        | inl before ↦ is.known value before
        | inr last ↦ absurd (let no_ = last.1 in cc)
      ]

      pub deny_ready : (mid : SureView) → mid ≡ record now { never = now.never ++ true ∷ [] } → IsAsking mid form
      deny_ready mid mid_is = subst (λ (s : SureView). IsAsking s form) (sym mid_is) (more_asking true now.examples (omega arith) known_still)

      pub deny_gives : (position value : ℕ) (mid new : SureView) → word ≡ words.Empty → mid ≡ record now { never = now.never ++ true ∷ [] } → new ≡ record mid { phase = phases.Asking form } →
          position ≡ now.position → value ≡ length now.never → Gives asking new (turns.Impossible position value lines)
      deny_gives position value mid new word_is mid_is new_is position_is value_is =
          let after : SureView = record now { never = now.never ++ true ∷ []; phase = phases.Asking form } in
          let low = small in
          gives_at asking new after (turns.Impossible position value lines) (new_is ∙ ap (λ (s : SureView). record s { phase = phases.Asking form }) mid_is) (record {
            tells = tried_tells (Never ended.section) true now.examples (turns.Impossible position value lines) refl (sym (append-nil now.examples)) (λ d q of empty first done next at.
                let values = tried_count q empty first done next at in (
                  (new_of_run new_value q empty first done next at, looks d q of empty first done next at, ended.ends ∙ ap Some word_is),
                  (NeverSo (length done) (length next) ended.section, (position_is ∙ at.position, value_is ∙ values, ended.lines_are), refl),
                ));
            less = left_less true now.examples;
            goes = λ is. absurd cc;
            short = ended.formed;
            good = λ d q of. good_of d q of position value position_is value_is;
            few = (let most = low.1 in omega arith, let most = low.2 in omega arith);
          })

      pub stopped_gives : (position value : ℕ) → word ≡ words.Spent → IsOver now → position ≡ now.position → value ≡ length now.never →
          Gives asking now (turns.Spent (Some (position, value)) lines)
      stopped_gives position value word_is over position_is value_is =
          let low = small in
          record {
            tells = tells_asking now (turns.Spent (Some (position, value)) lines) (λ d q of empty first done next fair at. (
              record (going empty first done next) { ending = Some (Spent ended.section) },
              Ends (With (length done) (length next)) (Spent ended.section),
              ((λ i. Some ((position_is ∙ at.position) i, (value_is ∙ tried_count q empty first done next at) i)), ended.lines_are),
              ending_told _ (Ends (With (length done) (length next)) (Spent ended.section)),
              record {
                fair = ends_fair d q now.budget (going empty first done next) (Spent ended.section) fair (
                  low_of d q empty of at.horizon,
                  (atom_at d q of empty first done next at, new_of_run new_value q empty first done next at),
                  looks d q of empty first done next at,
                  ended.ends ∙ ap Some word_is,
                );
                at = record { horizon = at.horizon; examples = at.examples; position = at.position; never = at.never };
                awaits = subst (λ p. Awaits (record (going empty first done next) { ending = Some (Spent ended.section) }) p) (sym over) refl;
              },
            ));
            less = over_less now asking over (let from = dropped form.sizes now.position size at_size in let sums = from.0 in omega arith);
            goes = over;
            short = ended.formed;
            good = λ d q of. tt;
            few = (let most = low.1 in omega arith, let most = low.2 in omega arith);
          }

  -- ---- all values were tried

  pub complete_gives : slice_get form.sizes now.position ≡ None → IsOver now → Gives asking now turns.Complete
  complete_gives none over =
      let end = past form.sizes now.position none in let position = is.position in
      record {
        tells = tells_asking now turns.Complete (λ d q of empty row done next fair at. (
          record (going empty row done next) { ending = Some Complete },
          Ends (With (length done) (length next)) Complete,
          tt,
          ending_told _ (Ends (With (length done) (length next)) Complete),
          record {
            fair = ends_fair d q now.budget (going empty row done next) Complete fair (
              refl,
              (let here = at.position in let e : length done ≡ length form.sizes = omega arith in e) ∙ ap length (sizes_of d q of empty at.horizon),
              no_next next (sym at.never ∙ subst (λ (o : Option ℕ). AreFewTried o now.never) none is.tried),
            );
            at = record { horizon = at.horizon; examples = at.examples; position = at.position; never = at.never };
            awaits = subst (λ p. Awaits (record (going empty row done next) { ending = Some Complete }) p) (sym over) refl;
          },
        ));
        less = over_less now asking over (let few = ap length (subst (λ (o : Option ℕ). AreFewTried o now.never) none is.tried) in omega arith);
        goes = over;
        short = tt;
        good = λ d q of. tt;
        few = tt;
      }
    where
      no_next : (next : List Tried) → map is_never next ≡ [] → next ≡ []
      no_next [] same = refl
      no_next (tried ∷ next) same = absurd cc

  module _ (all : slice_get form.sizes now.position ≡ Some (length now.never)) where
    settled_asking : IsAsking (record now { position = now.position + 1; never = [] }) form
    settled_asking =
        let from = dropped form.sizes now.position (length now.never) all in let sums = from.0 in let below = from.2 in let bound = is.examples in
        let e : now.position + 1 ≡ suc now.position = omega arith in
        let same = ap (λ (n : ℕ). sum (drop n form.sizes)) e in
        record {
          low = is.low;
          opened = λ d q of. is.opened d q (record { laws = of.laws; query = of.query });
          sizes = is.sizes;
          positions = is.positions;
          position = omega arith;
          tried = few_none (slice_get form.sizes (now.position + 1));
          examples = omega arith;
          known = λ value at. absurd cc;
        }

    pub settle_ready : (mid : SureView) → mid ≡ record now { position = now.position + 1; never = [] } → IsAsking mid form
    settle_ready mid mid_is = subst (λ (s : SureView). IsAsking s form) (sym mid_is) settled_asking

    pub settle_most : now.position < 4000000
    settle_most = let from = dropped form.sizes now.position (length now.never) all in let below = from.2 in let sizes = is.sizes in let positions = is.positions in omega arith

    pub settle_few : length now.examples ≤ 4000000
    settle_few =
        let from = dropped form.sizes now.position (length now.never) all in let sums = from.0 in let bound = is.examples in let sizes = is.sizes in omega arith

    pub settle_short : length now.never ≤ 4000000
    settle_short =
        let from = dropped form.sizes now.position (length now.never) all in let sums = from.0 in let less = dropped_less form.sizes now.position in let sizes = is.sizes in omega arith

    pub settle_gives : (position : ℕ) (answers : List Answer) (mid new : SureView) → AreAnswersFor now.examples now.position now.never 0 answers → length answers ≡ length now.never →
        mid ≡ record now { position = now.position + 1; never = [] } → new ≡ record mid { phase = phases.Asking form } → position ≡ now.position → Gives asking new (turns.Answers position answers)
    settle_gives position answers mid new right count mid_is new_is position_is =
        let after : SureView = record now { position = now.position + 1; never = []; phase = phases.Asking form } in
        let from = dropped form.sizes now.position (length now.never) all in let sums = from.0 in let longs = from.1 in let most = settle_most in
        let e : now.position + 1 ≡ suc now.position = omega arith in
        let same = ap (λ (n : ℕ). sum (drop n form.sizes)) e in let same_long = ap (λ (n : ℕ). length (drop n form.sizes)) e in
        gives_at asking new after (turns.Answers position answers) (new_is ∙ ap (λ (s : SureView). record s { phase = phases.Asking form }) mid_is) (record {
          tells = tells_asking after (turns.Answers position answers) (λ d q of empty row done next fair at.
              let values = tried_count q empty row done next at in let here = at.position in (
                going empty row (done ++ record { tried = next; answers = answers } ∷ []) [],
                AnswersAre (length done) answers,
                (position_is ∙ at.position, refl),
                settles_told q empty row done next answers,
                record {
                  fair = settles_fair d q now.budget empty row done next fair answers
                      (settled_so d q now.budget now.horizon form (opened_of d q of) empty row done next now.examples now.position now.never answers fair at.horizon at.examples at.position at.never all right count);
                  at = record {
                    horizon = at.horizon;
                    examples = at.examples ∙ examples_still row done next answers;
                    position = (let long = length-append done (record { tried = next; answers = answers } ∷ []) in omega arith);
                    never = refl;
                  };
                  awaits = (refl, refl);
                },
              ));
          less = omega arith;
          goes = λ is. absurd cc;
          short = tt;
          good = λ d q of. tt;
          few = (omega arith, let short = settle_short in omega arith);
        })

-- ---- values that examples have

pub passes_none : (now : SureView) (form : Axioms) → IsAsking now form → PassesTo form now now
passes_none now form is = record {
  new_is = refl;
  asking = is;
  more = omega arith;
  stands = λ d q run of stands.
      let same = sym (append-nil run.next) in
      ([], tt, ap (λ (l : List Tried). sure_told q (record run { next = l })) (append-nil run.next), subst (λ (l : List Tried). Stands d q (record now { phase = phases.Asking form }) (record run { next = l })) same stands);
}

pub passes_one : (now mid new : SureView) (form : Axioms) (size : ℕ) → slice_get form.sizes mid.position ≡ Some size → length mid.never < size →
    SomeHas mid.examples mid.position (length mid.never) → new ≡ record mid { never = mid.never ++ false ∷ [] } → PassesTo form now mid → PassesTo form now new
passes_one now mid new form size at_size less some new_is passes = record {
  new_is = new_is ∙ (λ i. record (passes.new_is i) { never = mid.never ++ false ∷ [] }) ∙ sym (ap (λ (s : SureView). record now { never = s.never }) new_is);
  asking = subst (λ (s : SureView). IsAsking s form) (sym new_is)
      (more_asking mid form passes.asking size at_size less false mid.examples (omega arith) (λ value at. elim (behind_cases mid.never false value false at) [
        | inl before ↦ passes.asking.known value before
        | inr last ↦ subst (SomeHas mid.examples mid.position) (sym last.0) some
      ]));
  more = (let more = passes.more in let long = ap (λ (s : SureView). length s.never) new_is ∙ length-append mid.never (false ∷ []) in omega arith);
  stands = λ d q run of stands.
      let (known, each, told, stood) = passes.stands d q run of stands in
      let one = known_stands d q (record { laws = of_mid d q of; query = of_query d q of }) (record run { next = run.next ++ known }) stood in
      let same = append_assoc run.next known (Known ∷ []) in (
        known ++ Known ∷ [],
        all_append (λ (t : Tried). t ≡ Known) known (Known ∷ []) each (refl, tt),
        ap (λ (l : List Tried). sure_told q (record run { next = l })) (sym same) ∙ one.0 ∙ told,
        subst (λ (l : List Tried). Stands d q (record new { phase = phases.Asking form }) (record run { next = l })) same
            (subst (λ (s : SureView). Stands d q (record s { phase = phases.Asking form }) (record run { next = (run.next ++ known) ++ Known ∷ [] })) (sym new_is) one.1),
      );
}
  where
    of_mid : (d : Description) (q : Query) → IsSureOf now d q → AreLawsOf mid.signature mid.laws d
    of_mid d q of = subst (λ (s : SureView). AreLawsOf s.signature s.laws d) (sym passes.new_is) of.laws

    of_query : (d : Description) (q : Query) → IsSureOf now d q → StandsForQuery mid.query d q
    of_query d q of = subst (λ (s : SureView). StandsForQuery s.query d q) (sym passes.new_is) of.query

    known_stands : (d : Description) (q : Query) → IsSureOf (record mid { phase = phases.Asking form }) d q → (run : SureRun) → Stands d q (record mid { phase = phases.Asking form }) run →
        (sure_told q (record run { next = run.next ++ Known ∷ [] }) ≡ sure_told q run)
        × Stands d q (record mid { never = mid.never ++ false ∷ []; phase = phases.Asking form }) (record run { next = run.next ++ Known ∷ [] })
    known_stands d q of run stands =
        let (empty, row, same, fair, at) = asking_stands d q mid form run stands in
        let values = tried_count mid form passes.asking q empty row run.done run.next at in
        let same_more : record run { next = run.next ++ Known ∷ [] } ≡ going empty row run.done (run.next ++ Known ∷ []) = ap (λ (r : SureRun). record r { next = run.next ++ Known ∷ [] }) same in (
          ap (sure_told q) same_more ∙ tries_told q empty row run.done run.next Known ∙ append-nil (sure_told q (going empty row run.done run.next)) ∙ ap (sure_told q) (sym same),
          subst (λ (r : SureRun). Stands d q (record mid { never = mid.never ++ false ∷ []; phase = phases.Asking form }) r) (sym same_more) (record {
            fair = tries_fair d q mid.budget empty row run.done run.next fair Known (atom_at mid form passes.asking size at_size less d q of empty row run.done run.next at)
                (subst (λ (l : List (List ℕ)). SomeHas l (length run.done) (length run.next)) at.examples
                (subst (λ (p : ℕ). SomeHas mid.examples p (length run.next)) at.position (subst (SomeHas mid.examples mid.position) values some)));
            at = after_at mid form passes.asking size at_size less q Known false mid.examples refl (sym (append-nil mid.examples)) empty row run.done run.next at;
            awaits = (refl, refl);
          }),
        )

pub outcome_at : (axioms : Axioms) (budget : ℕ) (outcome given : Outcome) → outcome ≡ given → IsOutcome axioms budget outcome → IsOutcome axioms budget given
outcome_at axioms budget outcome given same is = subst (IsOutcome axioms budget) same is

pub none_size : (v now : SureView) (form : Axioms) → v ≡ now → (size : Option ℕ) → size ≡ slice_get form.sizes v.position → size ≡ None → slice_get form.sizes now.position ≡ None
none_size v now form same size size_is none = ap (λ (s : SureView). slice_get form.sizes s.position) (sym same) ∙ sym size_is ∙ none

-- the position is that of the beginning
pub passes_next : (now mid new : SureView) (form : Axioms) (size : ℕ) → slice_get form.sizes now.position ≡ Some size → length mid.never < size →
    SomeHas mid.examples mid.position (length mid.never) → new ≡ record mid { never = mid.never ++ false ∷ [] } → PassesTo form now mid → PassesTo form now new
passes_next now mid new form size at_size less some new_is passes =
    passes_one now mid new form size (ap (λ (s : SureView). slice_get form.sizes s.position) passes.new_is ∙ at_size) less some new_is passes
