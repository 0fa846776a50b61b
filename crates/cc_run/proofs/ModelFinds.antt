-- What is told of one find of a search of models, and of all of them.
use Rattle.std.proofs.Common.{◌≡◌, ◌∙◌, refl, sym, ap, subst, ℕ, ◌+◌, Bool, false, true, List, [], ◌∷◌, ◌++◌, length, Option, Some, None, Result, Ok, Err, IfOk, inl, inr, append_assoc, append-nil, arith, length-append}
use Rattle.std.specs.Prelude.{IsErrAnd, IsNone, OnOk}
use Rattle.cc_defs.specs.declared.log.EndWord.{EndWord}
use Rattle.cc_defs.specs.declared.log.LogLine.{LogLine}
use Rattle.cc_defs.specs.declared.log.LogLine.TheVariants as lines
use Rattle.cc_defs.specs.declared.log.Version.{Version}
use Rattle.cc_defs.specs.declared.refusal.LimitAt.TheVariants as limits
use Rattle.cc_defs.specs.declared.refusal.Refusal.{Refusal}
use Rattle.cc_defs.specs.Clauses.{Literal}
use Rattle.cc_defs.specs.LogVersions.{counts_in, line_bytes}
use Rattle.cc_defs.specs.Refusals.{past}
use Rattle.cc_defs.specs.Runs.{Derive, Section, Step as SectionStep, Tell, rows_of}
use Rattle.cc_defs.specs.Sections.{Axioms}
use Rattle.cc_judge.specs.Single.{subject_over}
use Rattle.cc_ports.specs.declared.desk.To.TheVariants as outputs
use Rattle.cc_ports.specs.Moments.{Moment}
use Rattle.cc_print.specs.Models.{model_line}
use Rattle.cc_lists.specs.Sections.{open_section, section_of}
use Rattle.cc_run.specs.ModelsTold.{AreAt, AreWithin, EndsListing, IsAt, TellsFind, TellsListing, TellsMore, told_of}
use Rattle.cc_search.specs.declared.stage.Find.TheVariants as finds
use Rattle.cc_search.specs.Searches.{HasMore, IsBehind, SearchView, Stands, TellsTooMany, found_behind}
use Rattle.cc_tell_modes.specs.declared.models.Lister.{Lister}
use Rattle.cc_tell.specs.declared.status.Status.{Status}
use Rattle.cc_tell.specs.declared.status.Status.TheVariants as statuses
use Rattle.cc_tell.specs.declared.status.Stop.{Stop}
use Rattle.cc_tell.specs.declared.status.Stop.TheVariants as stops
use Rattle.cc_tell_modes.specs.ModelTexts.{models_end, models_status, models_text}
use Rattle.cc_tell.specs.ErrLines.{refusal_text}
use Rattle.cc_tell.specs.Steps.{Moves, Step}
use Rattle.cc_tell.specs.Givens.{given_to, Given, joined, nothing, only_err}
use Rattle.cc_tell.specs.Tellers.{IsWritable}
use Rattle.cc_tell.proofs.GivenSteps.{given_all, moves_none, step_again, step_done, step_nothing, step_of, step_then}
use Rattle.cc_run.proofs.ModelLines.{blocked_writable, derived_writable}
use Rattle.cc_run.proofs.ModelTexts.{listed_blocked, listed_derived, log_begun, log_ended, log_front, log_pushed, log_told, text_blocked, text_derived, text_ended, text_told, rows_more}

none_of : {X : Type 0} (o : Option X) → IsNone o → o ≡ None
none_of None is = refl
none_of (Some x) is = absurd cc

-- a section without an end
open_is : (section : Section) → IsNone section.word → section ≡ section_of section.steps section.last None
open_is section still = λ i. record { steps = section.steps; last = section.last; word = none_of section.word still i }

module _ (axioms : Axioms) (version : Version) (count : Option ℕ) (budget : ℕ) where
  abbrev counts : Bool → ℕ → ℕ
  counts = counts_in (subject_over axioms)

  -- ---- a line more, or a model

  module _ (section next : Section) (before lister : Lister) (search found : SearchView) (at : AreAt axioms count budget section before.own before.listed search)
      (stands : Stands axioms count budget found next) (old new : Moment) where
    -- what is told with more given
    more_told : (given : Given) → joined (told_of axioms version section) given ≡ told_of axioms version next → (r : Result (Option Status) Stop) → Step given old new r →
        IfOk r (λ status. status ≡ None) → IfOk r (λ _. AreAt axioms count budget next lister.own lister.listed found) →
        TellsFind axioms version count budget section lister.own lister.listed found old new r
    more_told given grows (Ok status) step none keeps = record {
      next = next;
      ends = None;
      more = record { tells = stands.tells; few = stands.few; err = []; how = refl; given = given; grows = grows; step = step };
      ended = sym none;
      keeps = λ _. keeps;
    }
    more_told given grows (Err stop) step none keeps = record {
      next = next;
      ends = None;
      more = record { tells = stands.tells; few = stands.few; err = []; how = refl; given = given; grows = grows; step = step };
      ended = tt;
      keeps = tt;
    }

  at_behind : (section next : Section) (before lister : Lister) (search found : SearchView) → AreAt axioms count budget section before.own before.listed search →
      Stands axioms count budget found next → (r : Result (Option Status) Stop) → (own listed : ℕ) → OnOk r (lister ≡ record before { own = own; listed = listed }) →
      own ≡ length axioms.clauses + 1 + length next.steps → listed ≡ length (rows_of next) → IfOk r (λ _. AreAt axioms count budget next lister.own lister.listed found)
  at_behind section next before lister search found at stands (Ok status) own listed is own_is listed_is = record {
    within = at.within;
    stands = stands;
    own_is = ap (λ (l : Lister). l.own) is ∙ own_is;
    listed_is = ap (λ (l : Lister). l.listed) is ∙ listed_is;
  }
  at_behind section next before lister search found at stands (Err stop) own listed is own_is listed_is = tt

  pushed : (steps : List SectionStep) (step : SectionStep) → length (steps ++ step ∷ []) ≡ length steps + 1
  pushed steps step = length-append steps (step ∷ [])

  module _ (before lister : Lister) (search found : SearchView) (old new : Moment) (r : Result (Option Status) Stop) (goes_on : IfOk r (λ status. status ≡ None)) where
    line_as : (line : LogLine) (n : ℕ) → before.own ≡ n → line_bytes version before.own line ≡ line_bytes version n line
    line_as line n same = ap (λ (m : ℕ). line_bytes version m line) same

    pub derived_found : (steps : List SectionStep) (clause : List Literal) (chain : List ℕ) → AreAt axioms count budget (open_section steps) before.own before.listed search →
        Stands axioms count budget found (open_section (steps ++ Derive clause chain ∷ [])) →
        Step (given_to outputs.Log (line_bytes version before.own (lines.Derived clause chain))) old new r → OnOk r (lister ≡ record before { own = before.own + 1 }) →
        TellsFind axioms version count budget (open_section steps) lister.own lister.listed found old new r
    derived_found steps clause chain at stands step behind =
        let next = open_section (steps ++ Derive clause chain ∷ []) in
        let bytes = line_bytes version before.own (lines.Derived clause chain) in
        let log : (told_of axioms version (open_section steps)).log ++ bytes ≡ (told_of axioms version next).log =
        ap (λ (l : List ℕ). (told_of axioms version (open_section steps)).log ++ l) (line_as (lines.Derived clause chain) _ at.own_is) ∙ log_pushed version counts steps None (Derive clause chain) in
        let out = text_derived steps clause chain in
        let push = pushed steps (Derive clause chain) in
        let own_is = at.own_is in
        more_told (open_section steps) next before lister search found at stands old new (given_to outputs.Log bytes)
        (λ i. record { out = out i; err = []; log = log i }) r step goes_on
        (at_behind (open_section steps) next before lister search found at stands r (before.own + 1) before.listed behind (omega arith) (at.listed_is ∙ listed_derived steps clause chain))

    pub blocked_found : (steps : List SectionStep) (row : List ℕ) → AreAt axioms count budget (section_of steps (Some row) None) before.own before.listed search →
        Stands axioms count budget found (open_section (steps ++ Tell row ∷ [])) →
        Step (given_to outputs.Log (line_bytes version before.own (lines.Block row))) old new r → OnOk r (lister ≡ record before { own = before.own + 1 }) →
        TellsFind axioms version count budget (section_of steps (Some row) None) lister.own lister.listed found old new r
    blocked_found steps row at stands step behind =
        let section = section_of steps (Some row) None in
        let next = open_section (steps ++ Tell row ∷ []) in
        let bytes = line_bytes version before.own (lines.Block row) in
        let log : (told_of axioms version section).log ++ bytes ≡ (told_of axioms version next).log =
        ap (λ (l : List ℕ). (told_of axioms version section).log ++ l) (line_as (lines.Block row) _ at.own_is) ∙ log_pushed version counts steps (Some row) (Tell row) in
        let out = text_blocked steps row in
        let push = pushed steps (Tell row) in
        let own_is = at.own_is in
        more_told section next before lister search found at stands old new (given_to outputs.Log bytes)
        (λ i. record { out = out i; err = []; log = log i }) r step goes_on
        (at_behind section next before lister search found at stands r (before.own + 1) before.listed behind (omega arith) (at.listed_is ∙ listed_blocked steps row))

    pub row_found : (steps : List SectionStep) (row : List ℕ) → AreAt axioms count budget (open_section steps) before.own before.listed search →
        Stands axioms count budget found (section_of steps (Some row) None) →
        Step (given_to outputs.Out (model_line (before.listed + 1) row)) old new r → OnOk r (lister ≡ record before { listed = before.listed + 1 }) →
        TellsFind axioms version count budget (open_section steps) lister.own lister.listed found old new r
    row_found steps row at stands step behind =
        let section = open_section steps in
        let next = section_of steps (Some row) None in
        let listed_is = at.listed_is in
        let number : before.listed + 1 ≡ 1 + length (rows_of section) = omega arith in
        let out : models_text section ++ model_line (before.listed + 1) row ≡ models_text next =
        ap (λ (n : ℕ). models_text section ++ model_line n row) number ∙ text_told steps row in
        let log = log_told version counts steps row in
        let all = length-append (rows_of section) (row ∷ []) in
        let rows : length (rows_of next) ≡ length (rows_of section) + 1 = rows_more steps row in
        more_told section next before lister search found at stands old new (given_to outputs.Out (model_line (before.listed + 1) row))
        (λ i. record { out = out i; err = []; log = log i }) r step goes_on
        (at_behind section next before lister search found at stands r before.own (before.listed + 1) behind at.own_is (omega arith))

  -- ---- the end

  pub end_found : (section : Section) (word : EndWord) (lister : Lister) (search found : SearchView) (old new : Moment) (r : Result (Option Status) Stop) →
      AreAt axioms count budget section lister.own lister.listed search → IsNone section.word → Stands axioms count budget found (section_of section.steps section.last (Some word)) →
      Step (record nothing { out = models_end lister.listed word; log = line_bytes version lister.own (lines.End word) }) old new r →
      IfOk r (λ status. status ≡ Some (models_status lister.listed word)) → TellsFind axioms version count budget section lister.own lister.listed found old new r
  end_found section word lister search found old new r at still stands step is =
      let steps = section.steps in
      let last = section.last in
      let same = open_is section still in
      let next = section_of steps last (Some word) in
      let listed : lister.listed ≡ length (rows_of (section_of steps last None)) = at.listed_is in
      let out : models_text section ++ models_end lister.listed word ≡ models_text next =
      ap (λ (s : Section). models_text s ++ models_end lister.listed word) same ∙ (ap (λ (n : ℕ). models_text (section_of steps last None) ++ models_end n word) listed ∙ text_ended steps last word) in
      let log : (told_of axioms version section).log ++ line_bytes version lister.own (lines.End word) ≡ (told_of axioms version next).log =
      ap (λ (s : Section). (told_of axioms version s).log ++ line_bytes version lister.own (lines.End word)) same
      ∙ (ap (λ (n : ℕ). (told_of axioms version (section_of steps last None)).log ++ line_bytes version n (lines.End word)) at.own_is ∙ log_ended version counts steps last word) in
      record {
        next = next;
        ends = Some (models_status lister.listed word);
        more = record {
          tells = stands.tells;
          few = stands.few;
          err = [];
          how = inl (word, refl, refl, ap (λ (n : ℕ). models_status n word) listed);
          given = _;
          grows = λ i. record { out = out i; err = []; log = log i };
          step = step;
        };
        ended = ended r is;
        keeps = keeps _ r is;
      }
    where
      ended : (r : Result (Option Status) Stop) → IfOk r (λ status. status ≡ Some (models_status lister.listed word)) → IfOk r (λ status. Some (models_status lister.listed word) ≡ status)
      ended (Ok status) is = sym is
      ended (Err stop) is = tt

      keeps : (A : Type 0) (r : Result (Option Status) Stop) → IfOk r (λ status. status ≡ Some (models_status lister.listed word)) → IfOk r (λ status. IsNone status → A)
      keeps A (Ok status) is = λ none. absurd (some_is (subst (λ (o : Option Status). IsNone o) is none))
        where
          some_is : {B : Type 0} → true ≡ false → B
          some_is h = absurd cc
      keeps A (Err stop) is = tt

  -- ---- too many models, or want of memory

  pub limit_found : (section : Section) (lister : Lister) (search found : SearchView) (refusal : Refusal) (old new : Moment) (r : Result (Option Status) Stop) →
      AreAt axioms count budget section lister.own lister.listed search → refusal ≡ past limits.Histories → TellsTooMany axioms section →
      Step (only_err (refusal_text refusal [])) old new r → IfOk r (λ status. status ≡ Some statuses.Refused) →
      TellsFind axioms version count budget section lister.own lister.listed found old new r
  limit_found section lister search found refusal old new r at past_is many step is = record {
    next = section;
    ends = Some statuses.Refused;
    more = record {
      tells = at.stands.tells;
      few = at.stands.few;
      err = refusal_text refusal [];
      how = inr (many.open_yet, many, ap (λ (f : Refusal). refusal_text f []) past_is, refl);
      given = only_err (refusal_text refusal []);
      grows = λ i. record { out = append-nil (models_text section) i; err = refusal_text refusal []; log = append-nil ((told_of axioms version section).log) i };
      step = step;
    };
    ended = ended r is;
    keeps = keeps _ r is;
  }
    where
      ended : (r : Result (Option Status) Stop) → IfOk r (λ status. status ≡ Some statuses.Refused) → IfOk r (λ status. Some statuses.Refused ≡ status)
      ended (Ok status) is = sym is
      ended (Err stop) is = tt

      keeps : (A : Type 0) (r : Result (Option Status) Stop) → IfOk r (λ status. status ≡ Some statuses.Refused) → IfOk r (λ status. IsNone status → A)
      keeps A (Ok status) is = λ none. absurd (some_is (subst (λ (o : Option Status). IsNone o) is none))
        where
          some_is : {B : Type 0} → true ≡ false → B
          some_is h = absurd cc
      keeps A (Err stop) is = tt

  -- ---- a line, whichever it is

  -- a section without a last model
  bare_is : (section : Section) → IsNone section.word → IsNone section.last → section ≡ open_section section.steps
  bare_is section still none = λ i. record { steps = section.steps; last = none_of section.last none i; word = none_of section.word still i }

  told_is : (section : Section) (row : List ℕ) → IsNone section.word → section.last ≡ Some row → section ≡ section_of section.steps (Some row) None
  told_is section row still last = λ i. record { steps = section.steps; last = last i; word = none_of section.word still i }

  pub line_writable : (section : Section) (line : LogLine) (own listed : ℕ) (search found : SearchView) (row : List ℕ) → AreAt axioms count budget section own listed search →
      IsBehind section (finds.Line line) → Stands axioms count budget found (found_behind section row (finds.Line line)) → IsWritable own line
  line_writable section (lines.Section conditions horizon) own listed search found row at behind stands = absurd behind.1
  line_writable section (lines.End word) own listed search found row at behind stands = absurd behind.1
  line_writable section (lines.Derived clause chain) own listed search found row at behind stands =
      derived_writable axioms count budget found at.within section.steps clause chain own at.own_is stands
  line_writable section (lines.Block told) own listed search found row at behind stands =
      blocked_writable axioms count budget found at.within section.steps told own at.own_is stands

  pub line_found : (section : Section) (line : LogLine) (before lister : Lister) (search found : SearchView) (row : List ℕ) (old new : Moment) (r : Result (Option Status) Stop) →
      AreAt axioms count budget section before.own before.listed search → IsBehind section (finds.Line line) →
      Stands axioms count budget found (found_behind section row (finds.Line line)) → Step (given_to outputs.Log (line_bytes version before.own line)) old new r →
      OnOk r (lister ≡ record before { own = before.own + 1 }) → IfOk r (λ status. status ≡ None) → TellsFind axioms version count budget section lister.own lister.listed found old new r
  line_found section (lines.Section conditions horizon) before lister search found row old new r at behind stands step more none = absurd behind.1
  line_found section (lines.End word) before lister search found row old new r at behind stands step more none = absurd behind.1
  line_found section (lines.Derived clause chain) before lister search found row old new r at behind stands step more none =
      let same = bare_is section behind.0 behind.1 in
      subst (λ (s : Section). TellsFind axioms version count budget s lister.own lister.listed found old new r) (sym same)
      (derived_found before lister search found old new r none section.steps clause chain
      (subst (λ (s : Section). AreAt axioms count budget s before.own before.listed search) same at) stands step more)
  line_found section (lines.Block told) before lister search found row old new r at behind stands step more none =
      let same = told_is section told behind.0 behind.1 in
      subst (λ (s : Section). TellsFind axioms version count budget s lister.own lister.listed found old new r) (sym same)
      (blocked_found before lister search found old new r none section.steps told
      (subst (λ (s : Section). AreAt axioms count budget s before.own before.listed search) same at) stands step more)

  pub model_found : (section : Section) (before lister : Lister) (search found : SearchView) (row : List ℕ) (old new : Moment) (r : Result (Option Status) Stop) →
      AreAt axioms count budget section before.own before.listed search → IsBehind section finds.Row →
      Stands axioms count budget found (found_behind section row finds.Row) → Step (given_to outputs.Out (model_line (before.listed + 1) row)) old new r →
      OnOk r (lister ≡ record before { listed = before.listed + 1 }) → IfOk r (λ status. status ≡ None) → TellsFind axioms version count budget section lister.own lister.listed found old new r
  model_found section before lister search found row old new r at behind stands step more none =
      let same = bare_is section behind.0 behind.1 in
      subst (λ (s : Section). TellsFind axioms version count budget s lister.own lister.listed found old new r) (sym same)
      (row_found before lister search found old new r none section.steps row
      (subst (λ (s : Section). AreAt axioms count budget s before.own before.listed search) same at) stands step more)

  -- memory was wanting
  pub memory_found : (section : Section) (lister : Lister) (search found : SearchView) (m : Moment) (r : Result (Option Status) Stop) →
      AreAt axioms count budget section lister.own lister.listed search → IsErrAnd r (λ e. e ≡ stops.OutOfMemory) →
      TellsFind axioms version count budget section lister.own lister.listed found m m r
  memory_found section lister search found m (Ok status) at lacks = absurd lacks
  memory_found section lister search found m (Err stop) at lacks = record {
    next = section;
    ends = None;
    more = record {
      tells = at.stands.tells;
      few = at.stands.few;
      err = [];
      how = refl;
      given = nothing;
      grows = λ i. record { out = append-nil (models_text section) i; err = []; log = append-nil ((told_of axioms version section).log) i };
      step = step_nothing nothing m (Err stop) lacks;
    };
    ended = tt;
    keeps = tt;
  }

-- ---- all of them

-- so far this was told, and the search goes on
pub record ListedSoFar (axioms : Axioms) (version : Version) (count : Option ℕ) (budget : ℕ) (before : Given) (own listed : ℕ) (search : SearchView) (old new : Moment) : Type 0 where
  pub section : Section
  pub at : AreAt axioms count budget section own listed search
  pub given : Given
  pub grows : joined before given ≡ told_of axioms version section
  pub moves : Moves {X = Unit {0}} given old new (Ok tt)

pub record IsListing (start now : Lister) (initial search : SearchView) (old new : Moment) : Type 0 where
  pub version : now.version ≡ start.version
  pub more : HasMore search
  pub at : IsAt now.own now.listed search
  pub each : (axioms : Axioms) (count : Option ℕ) (budget : ℕ) (section : Section) → AreAt axioms count budget section start.own start.listed initial →
      ListedSoFar axioms start.version count budget (told_of axioms start.version section) now.own now.listed search old new

pub listing_begins : (start : Lister) (search : SearchView) (m : Moment) → HasMore search → IsAt start.own start.listed search → IsListing start start search search m m
listing_begins start search m more at = record {
  version = refl;
  more = more;
  at = at;
  each = λ axioms count budget section there. record {
    section = section;
    at = there;
    given = nothing;
    grows = λ i. record { out = append-nil (models_text section) i; err = []; log = append-nil ((told_of axioms start.version section).log) i };
    moves = moves_none m tt;
  };
}

abbrev Finds : Lister → Lister → Lister → SearchView → SearchView → Moment → Moment → Result (Option Status) Stop → Type 0
Finds start now next search found old new r = (axioms : Axioms) (count : Option ℕ) (budget : ℕ) (section : Section) → AreAt axioms count budget section now.own now.listed search →
    TellsFind axioms now.version count budget section next.own next.listed found old new r

joined_both : (a b c : Given) → joined (joined a b) c ≡ joined a (joined b c)
joined_both a b c = λ i. record { out = append_assoc a.out b.out c.out i; err = append_assoc a.err b.err c.err i; log = append_assoc a.log b.log c.log i }

module _ (start now next : Lister) (initial search found : SearchView) (old mid new : Moment) (r : Result (Option Status) Stop) (listing : IsListing start now initial search old mid)
    (tells : Finds start now next search found mid new r) where
  abbrev find_at : (axioms : Axioms) (count : Option ℕ) (budget : ℕ) (section : Section) (so_far : ListedSoFar axioms start.version count budget (told_of axioms start.version section) now.own now.listed search old mid) →
      TellsFind axioms start.version count budget so_far.section next.own next.listed found mid new r
  find_at axioms count budget section so_far =
      subst (λ (v : Version). TellsFind axioms v count budget so_far.section next.own next.listed found mid new r) listing.version (tells axioms count budget so_far.section so_far.at)

  -- what was told before, and this
  abbrev more_behind : {X : Type 0} (s : Result X Stop) (axioms : Axioms) (count : Option ℕ) (budget : ℕ) (section last : Section) (ends : Option Status)
      (so_far : ListedSoFar axioms start.version count budget (told_of axioms start.version section) now.own now.listed search old mid) →
      TellsMore axioms start.version count budget (told_of axioms start.version so_far.section) last ends mid new s →
      TellsMore axioms start.version count budget (told_of axioms start.version section) last ends old new s
  more_behind s axioms count budget section last ends so_far more = record {
    tells = more.tells;
    few = more.few;
    err = more.err;
    how = more.how;
    given = joined so_far.given more.given;
    grows = sym (joined_both (told_of axioms start.version section) so_far.given more.given) ∙ (ap (λ (g : Given). joined g more.given) so_far.grows ∙ more.grows);
    step = step_then so_far.given more.given old mid new (Ok tt) tt s (step_of so_far.given old mid tt so_far.moves) refl more.step;
  }

  pub listing_ends : (status : Status) → r ≡ Ok (Some status) → (axioms : Axioms) (count : Option ℕ) (budget : ℕ) (section : Section) →
      AreAt axioms count budget section start.own start.listed initial →
      TellsListing axioms start.version count budget (told_of axioms start.version section) old new (Ok status)
  listing_ends status was axioms count budget section at =
      let so_far = listing.each axioms count budget section at in
      let done : Result (Option Status) Stop = Ok (Some status) in
      let find : TellsFind axioms start.version count budget so_far.section next.own next.listed found mid new done =
      subst (λ (t : Result (Option Status) Stop). TellsFind axioms start.version count budget so_far.section next.own next.listed found mid new t) was (find_at axioms count budget section so_far) in
      let more = find.more in
      let ended : Result Status Stop = Ok status in
      record {
        section = find.next;
        ends = find.ends;
        more = more_behind ended axioms count budget section find.next find.ends so_far
            (record { tells = more.tells; few = more.few; err = more.err; how = more.how; given = more.given; grows = more.grows; step = step_done more.given mid new done (Some status) status more.step refl });
        ended = find.ended;
      }

  pub listing_stops : (e : Stop) (s : Result Status Stop) → r ≡ Err e → IsErrAnd s (λ d. d ≡ e) → (axioms : Axioms) (count : Option ℕ) (budget : ℕ) (section : Section) →
      AreAt axioms count budget section start.own start.listed initial →
      TellsListing axioms start.version count budget (told_of axioms start.version section) old new s
  listing_stops e (Ok status) was same axioms count budget section at = absurd same
  listing_stops e (Err d) was same axioms count budget section at =
      let so_far = listing.each axioms count budget section at in
      let find = find_at axioms count budget section so_far in
      let more = find.more in
      let stopped : Result Status Stop = Err d in
      record {
        section = find.next;
        ends = find.ends;
        more = more_behind stopped axioms count budget section find.next find.ends so_far
            (record { tells = more.tells; few = more.few; err = more.err; how = more.how; given = more.given; grows = more.grows; step = step_again more.given mid new r e stopped more.step was same });
        ended = tt;
      }

  pub listing_next : r ≡ Ok None → next.version ≡ now.version → HasMore found → IsListing start next initial found old new
  listing_next was version more = record {
    version = version ∙ listing.version;
    more = more;
    at = there listing.at;
    each = λ axioms count budget section at. so_far axioms count budget section (listing.each axioms count budget section at);
  }
    where
      none : Option Status
      none = None

      done : Result (Option Status) Stop
      done = Ok none

      there : IsAt now.own now.listed search → IsAt next.own next.listed found
      there (axioms, count, budget, section, at) =
          let find : TellsFind axioms now.version count budget section next.own next.listed found mid new done =
          subst (λ (t : Result (Option Status) Stop). TellsFind axioms now.version count budget section next.own next.listed found mid new t) was (tells axioms count budget section at) in
          (axioms, count, budget, find.next, find.keeps refl)

      grown : (axioms : Axioms) (version : Version) (section : Section) (err : List ℕ) (ends : Option Status) → ends ≡ None → EndsListing axioms section err ends →
          record (told_of axioms version section) { err = err } ≡ told_of axioms version section
      grown axioms version section err None is how = ap (λ (e : List ℕ). record (told_of axioms version section) { err = e }) how
      grown axioms version section err (Some status) is how = absurd cc

      so_far : (axioms : Axioms) (count : Option ℕ) (budget : ℕ) (section : Section) →
          ListedSoFar axioms start.version count budget (told_of axioms start.version section) now.own now.listed search old mid →
          ListedSoFar axioms start.version count budget (told_of axioms start.version section) next.own next.listed found old new
      so_far axioms count budget section before =
          let find : TellsFind axioms start.version count budget before.section next.own next.listed found mid new done =
          subst (λ (t : Result (Option Status) Stop). TellsFind axioms start.version count budget before.section next.own next.listed found mid new t) was (find_at axioms count budget section before) in
          let unit : Result (Unit {0}) Stop = Ok tt in
          let more = find.more in
          let behind = more_behind unit axioms count budget section find.next find.ends before
          (record { tells = more.tells; few = more.few; err = more.err; how = more.how; given = more.given; grows = more.grows; step = step_done more.given mid new done none tt more.step refl }) in
          record {
            section = find.next;
            at = find.keeps refl;
            given = behind.given;
            grows = behind.grows ∙ grown axioms start.version find.next more.err find.ends find.ended more.how;
            moves = given_all behind.given old new tt behind.step;
          }

-- ---- behind the heading

begun_is : (axioms : Axioms) (version : Version) → given_to outputs.Log (log_front version (counts_in (subject_over axioms))) ≡ told_of axioms version (open_section [])
begun_is axioms version = λ i. record { out = []; err = []; log = log_begun version (counts_in (subject_over axioms)) i }

pub begun_at : (axioms : Axioms) (count : Option ℕ) (budget own : ℕ) (search : SearchView) → AreWithin axioms budget → Stands axioms count budget search (open_section []) →
    own ≡ length axioms.clauses + 1 → AreAt axioms count budget (open_section []) own 0 search
begun_at axioms count budget own search within stands is = record { within = within; stands = stands; own_is = omega arith; listed_is = refl }

pub listing_cut : {X : Type 0} (axioms : Axioms) (version : Version) (count : Option ℕ) (budget : ℕ) (search : SearchView) (x y : Moment) (r : Result X Stop) (e : Stop) (s : Result Status Stop) →
    Stands axioms count budget search (open_section []) → Step (given_to outputs.Log (log_front version (counts_in (subject_over axioms)))) x y r → r ≡ Err e →
    IsErrAnd s (λ d. d ≡ e) → TellsListing axioms version count budget nothing x y s
listing_cut axioms version count budget search x y r e (Ok status) stands step was same = absurd same
listing_cut axioms version count budget search x y r e (Err d) stands step was same =
    let front = given_to outputs.Log (log_front version (counts_in (subject_over axioms))) in
    let stopped : Result Status Stop = Err d in
    record {
      section = open_section [];
      ends = None;
      more = record { tells = stands.tells; few = stands.few; err = []; how = refl; given = front; grows = begun_is axioms version; step = step_again front x y r e stopped step was same };
      ended = tt;
    }

pub listing_told : {X : Type 0} (axioms : Axioms) (version : Version) (count : Option ℕ) (budget : ℕ) (x y z : Moment) (r : Result X Stop) (v : X) (s : Result Status Stop) →
    Step (given_to outputs.Log (log_front version (counts_in (subject_over axioms)))) x y r → r ≡ Ok v →
    TellsListing axioms version count budget (told_of axioms version (open_section [])) y z s → TellsListing axioms version count budget nothing x z s
listing_told axioms version count budget x y z r v s step was listing =
    let front = given_to outputs.Log (log_front version (counts_in (subject_over axioms))) in
    let more = listing.more in
    record {
      section = listing.section;
      ends = listing.ends;
      more = record {
        tells = more.tells;
        few = more.few;
        err = more.err;
        how = more.how;
        given = joined front more.given;
        grows = ap (λ (g : Given). joined g more.given) (begun_is axioms version) ∙ more.grows;
        step = step_then front more.given x y z r v s step was more.step;
      };
      ended = listing.ended;
    }
