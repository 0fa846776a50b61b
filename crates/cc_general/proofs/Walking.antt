-- A turn of the walk over the candidates of a horizon, and what it comes to.
use Rattle.std.proofs.Common.{◌≡◌, ◌≢◌, ◌∙◌, ℕ, ◌+◌, ◌<◌, ◌≤◌, List, [], ◌∷◌, ◌++◌, length, map, Option, Some, None, Result, Ok, Err, IfOk, IfErr, refl, sym, subst, ap, arith, append-nil, length-append, inl, inr}
use Rattle.std.specs.Prelude.{IsNone}
use Rattle.std.specs.List.{AllByRecursion}
use Rattle.std.proofs.lemmas.List.{map-append}
use Rattle.std.proofs.lemmas.List.Elements.{Contains-append_right}
use Rattle.cc_clauses.specs.Tells.{Tells}
use Rattle.cc_defs.specs.declared.log.EndWord.{EndWord}
use Rattle.cc_defs.specs.declared.log.EndWord.TheVariants as words
use Rattle.cc_defs.specs.declared.log.LogLine.{LogLine}
use Rattle.cc_defs.specs.declared.log.LogLine.TheVariants as said
use Rattle.cc_defs.specs.declared.refusal.Fault.{Fault}
use Rattle.cc_defs.specs.declared.refusal.Fault.TheVariants as faults
use Rattle.cc_defs.specs.GroundLaws.{StandsForQuery}
use Rattle.cc_defs.specs.LogTexts.{IsFormed}
use Rattle.cc_defs.specs.Refusals.{IsRefusedBy}
use Rattle.cc_defs.specs.Resolved.{Query}
use Rattle.cc_defs.specs.Rows.{IsRow}
use Rattle.cc_defs.specs.Runs.{Section, Step, Derive, Tell, optional, rows_of}
use Rattle.cc_defs.specs.Sections.{Axioms}
use Rattle.cc_form.specs.Places.{position_sizes}
use Rattle.cc_general.specs.declared.halt.Halt.{Halt}
use Rattle.cc_general.specs.declared.halt.Halt.TheVariants as halts
use Rattle.cc_general.specs.GeneralRuns.{ComesNext, WentThrough}
use Rattle.cc_general.specs.Generals.{GeneralView, IsAmong}
use Rattle.cc_general.specs.Walks.{Comes, IsClosed, IsFormedOutcome, IsFound, IsJudged, IsListingAt, IsShownBy, IsSought, IsWalkFault, halt_of}
use Rattle.cc_general.proofs.Candidates.{gone_pass, no_history}
use Rattle.cc_lists.specs.Sections.{open_section, rows_in, section_lines, section_of, step_line}
use Rattle.cc_lists.proofs.Members.{in_first}
use Rattle.cc_query.proofs.Steps.{rows_kept, rows_more}
use Rattle.cc_rivals.specs.Wides.{AreWideLawsOf, HistoriesHaveNoRivals, rivals_refusal}
use Rattle.cc_search.specs.declared.least.Outcome.{Outcome}
use Rattle.cc_search.specs.declared.least.Outcome.TheVariants as outcomes
use Rattle.cc_search.specs.declared.stage.Find.{Find}
use Rattle.cc_search.specs.declared.stage.Find.TheVariants as finds
use Rattle.cc_search.specs.Outcomes.{IsEnded, IsOutcome}
use Rattle.cc_search.specs.Searches.{GoesOn, HasMore, IsBehind, IsLineBehind, IsRightFault, IsShortFind, SearchView, Stands, found_behind, left_of, line_behind}
use Rattle.cc_search.proofs.Moving.{first_moved, told_moved}
use Rattle.cc_wide.specs.WideLaws.{WideDescription, frame}
use Rattle.cc_wide.specs.WideLists.{candidate_axioms, rival_axioms}
use Rattle.cc_wide.specs.WideRules.{IsCandidate, IsRival}

pub all_append : {X : Type 0} (P : X → Type 0) (xs ys : List X) → AllByRecursion P xs → AllByRecursion P ys → AllByRecursion P (xs ++ ys)
all_append P [] ys all more = more
all_append P (x ∷ xs) ys all more = (all.0, all_append P xs ys all.1 more)

none_is : {X : Type 0} (o : Option X) → IsNone o → o ≡ None
none_is None is = refl
none_is (Some x) is = absurd cc

-- ---- a section with a line more

rows_still : (section : Section) (line : LogLine) → IsLineBehind section line → rows_of (line_behind section line) ≡ rows_of section
rows_still section (said.Section conditions horizon) behind = absurd behind
rows_still section (said.Derived clause chain) behind =
    append-nil (rows_in (section.steps ++ Derive clause chain ∷ [])) ∙ rows_kept section.steps clause chain
    ∙ sym (append-nil (rows_in section.steps)) ∙ ap (λ (o : Option (List ℕ)). rows_in section.steps ++ optional o) (sym (none_is section.last behind))
rows_still section (said.Block row) behind =
    append-nil (rows_in (section.steps ++ Tell row ∷ [])) ∙ rows_more section.steps row
    ∙ ap (λ (o : Option (List ℕ)). rows_in section.steps ++ optional o) (sym behind)
rows_still section (said.End word) behind = absurd behind

-- of one that has not ended
lines_open : (section : Section) → IsNone section.word → section_lines section ≡ map step_line section.steps
lines_open section open_yet =
    ap (λ (o : Option EndWord). map step_line section.steps ++ map said.End (optional o)) (none_is section.word open_yet) ∙ append-nil (map step_line section.steps)

lines_step : (section : Section) (step : Step) → IsNone section.word → section_lines section ++ step_line step ∷ [] ≡ section_lines (open_section (section.steps ++ step ∷ []))
lines_step section step open_yet =
    ap (λ (l : List LogLine). l ++ step_line step ∷ []) (lines_open section open_yet)
    ∙ sym (map-append step_line section.steps (step ∷ [])) ∙ sym (append-nil (map step_line (section.steps ++ step ∷ [])))

lines_still : (section : Section) (line : LogLine) → IsNone section.word → IsLineBehind section line → section_lines section ++ line ∷ [] ≡ section_lines (line_behind section line)
lines_still section (said.Section conditions horizon) open_yet behind = absurd behind
lines_still section (said.Derived clause chain) open_yet behind = lines_step section (Derive clause chain) open_yet
lines_still section (said.Block row) open_yet behind = lines_step section (Tell row) open_yet
lines_still section (said.End word) open_yet behind = absurd behind

-- what was found comes next
pub next_found : (w : WideDescription) (q : Query) (budget horizon : ℕ) (told : List (List ℕ)) (search : SearchView) (lines : List LogLine) (row : List ℕ) →
    IsFound w q budget horizon told search lines row → ComesNext w q horizon told row
next_found w q budget horizon told search lines row found = record {
  rows = rows_in found.steps;
  gone = found.gone;
  fewer = let few = found.stands.few in let long = length-append (rows_in found.steps) (row ∷ []) in omega arith;
  first = found.first;
}

-- ---- what a search for a rival shows

module _ (w : WideDescription) (budget horizon : ℕ) (row : List ℕ) (form : Axioms) (is : form ≡ rival_axioms w horizon row)
    (tells : Tells (rival_axioms w horizon row) (IsRival w horizon row)) (within : rivals_refusal w horizon row ≡ None) where
  shown_by : (word : EndWord) (lines : List LogLine) → IsEnded (rival_axioms w horizon row) budget word lines → IsShownBy w budget horizon row word lines
  shown_by word lines ended = record {
    section = ended.section;
    looks = record {
      within = within;
      tells = told_moved (rival_axioms w horizon row) (IsRival w horizon row) tells (Some 1) budget ended.section ended.tells;
      silent = ended.silent;
    };
    ends = ended.ends;
    lines_are = ended.lines_are;
    good = ended.good;
  }

  pub sought_of : (outcome : Outcome) → IsOutcome form budget outcome → IsSought w budget horizon row outcome
  sought_of (outcomes.Found other) found = (
    (first_moved (rival_axioms w horizon row) (IsRival w horizon row) tells (other ∷ [])
        (subst (λ (x : Axioms). IsOutcome x budget (outcomes.Found other)) is found)).each other (in_first other []),
    within,
  )
  sought_of (outcomes.Empty lines) ended = shown_by words.Empty lines (subst (λ (x : Axioms). IsEnded x budget words.Empty lines) is ended)
  sought_of (outcomes.Spent lines) ended = shown_by words.Spent lines (subst (λ (x : Axioms). IsEnded x budget words.Spent lines) is ended)

pub formed_of : (form : Axioms) (budget : ℕ) (outcome : Outcome) → IsOutcome form budget outcome → IsFormedOutcome outcome
formed_of form budget (outcomes.Found other) found = tt
formed_of form budget (outcomes.Empty lines) ended = ended.formed
formed_of form budget (outcomes.Spent lines) ended = ended.formed

pub sought_result : (v now : GeneralView) → v ≡ now → (row : List ℕ) (form : Axioms) (r : Result Outcome Fault) → IfOk r (IsOutcome form v.budget) →
    ((w : WideDescription) → AreWideLawsOf v.signature v.laws w → form ≡ rival_axioms w v.horizon row) →
    ((w : WideDescription) → AreWideLawsOf v.signature v.laws w → Tells (rival_axioms w v.horizon row) (IsRival w v.horizon row)) →
    ((w : WideDescription) → AreWideLawsOf v.signature v.laws w → rivals_refusal w v.horizon row ≡ None) →
    (w : WideDescription) → AreWideLawsOf now.signature now.laws w → IfOk r (IsSought w now.budget now.horizon row)
sought_result v now same row form (Err fault) outcome made tells within w laws = tt
sought_result v now same row form (Ok found) outcome made tells within w laws =
    let of = subst (λ (s : GeneralView). AreWideLawsOf s.signature s.laws w) (sym same) laws in
    subst (λ (s : GeneralView). IsSought w s.budget s.horizon row found) same (sought_of w v.budget v.horizon row form (made w of) (tells w of) (within w of) found outcome)

-- ---- a turn

module _ (law : HistoriesHaveNoRivals) (general : GeneralView) (old : SearchView) (before : List LogLine) (listing : IsListingAt general general.listed old before) where
  abbrev Among : WideDescription → Query → List (List ℕ) → SearchView → List LogLine → Type 0
  Among w q told search lines = IsAmong w q general.budget general.horizon told search lines

  tells_of : (w : WideDescription) (q : Query) → AreWideLawsOf general.signature general.laws w → StandsForQuery general.query (frame w) q →
      Tells (candidate_axioms w q general.horizon) (IsCandidate w q general.horizon)
  tells_of w q laws query =
      let are = listing.are w q laws query in
      subst (λ (x : Axioms). Tells x (IsCandidate w q general.horizon)) are.0 are.1

  -- the search refuses
  pub search_fault : (fault : Fault) → IsRightFault old fault → IsWalkFault general old before fault
  search_fault faults.OutOfMemory is = tt
  search_fault (faults.Refused refusal) is = λ w q told laws query among.
      let many = is.1 (candidate_axioms w q general.horizon) None general.budget among.section among.stands in
      inr (
        is.0,
        record {
          rows = rows_of among.section;
          many = many.many;
          further = many.further;
          first = first_moved (candidate_axioms w q general.horizon) (IsCandidate w q general.horizon) (tells_of w q laws query) (rows_of among.section ++ many.further ∷ []) many.first;
          gone = among.gone;
        },
      )

  module _ (new : SearchView) where
    abbrev Next : Find → Type 0
    Next find = (axioms : Axioms) (count : Option ℕ) (budget : ℕ) (section : Section) → Stands axioms count budget old section →
        IsBehind section find × Stands axioms count budget new (found_behind section new.row find)

    -- ---- a line

    line_at : (line : LogLine) → Next (finds.Line line) → IsFormed line → left_of new < left_of old → HasMore new → Comes general old before new (before ++ line ∷ []) None
    line_at line next formed less more = record {
      tells = λ w q told laws query among.
          let (behind, stands) = next (candidate_axioms w q general.horizon) None general.budget among.section among.stands in
          record {
            within = among.within;
            section = line_behind among.section line;
            stands = stands;
            lines_are = ap (λ (l : List LogLine). l ++ line ∷ []) among.lines_are ∙ lines_still among.section line behind.0 behind.1;
            gone = subst (λ (rows : List (List ℕ)). WentThrough w q general.horizon rows told) (sym (rows_still among.section line behind.1)) among.gone;
          };
      ready =
          let (behind, stands) = next listing.axioms None general.budget listing.section listing.stands in
          record {
            low = listing.low;
            small = listing.small;
            more = more;
            formed = all_append IsFormed before (line ∷ []) listing.formed (formed, tt);
            axioms = listing.axioms;
            section = line_behind listing.section line;
            stands = stands;
            sizes = listing.sizes;
            few = subst (λ (rows : List (List ℕ)). general.listed ≤ length rows) (sym (rows_still listing.section line behind.1)) listing.few;
            are = listing.are;
          };
      less = less;
    }

    pub line_comes : (find : Find) (line : LogLine) (after : List LogLine) → find ≡ finds.Line line → Next find → IsShortFind find → left_of new < left_of old → GoesOn new find →
        after ≡ before ++ line ∷ [] → Comes general old before new after None
    line_comes find line after is next short less goes after_is =
        subst (λ (l : List LogLine). Comes general old before new l None) (sym after_is)
        (line_at line (subst Next is next) (subst IsShortFind is short) less (subst (GoesOn new) is goes))

    -- ---- a row

    module _ (next : Next finds.Row) where
      stands_row : Stands listing.axioms None general.budget new (section_of listing.section.steps (Some new.row) None)
      stands_row = (next listing.axioms None general.budget listing.section listing.stands).1

      found_is_row : IsRow (position_sizes general.signature general.horizon) new.row
      found_is_row = subst (λ (sizes : List ℕ). IsRow sizes new.row) listing.sizes
          (stands_row.tells.first.each new.row (Contains-append_right (rows_in listing.section.steps) (new.row ∷ []) new.row (in_first new.row []))).is_row

      rows_before : (section : Section) → IsNone section.last → rows_of section ≡ rows_in section.steps
      rows_before section none = ap (λ (o : Option (List ℕ)). rows_in section.steps ++ optional o) (none_is section.last none) ∙ append-nil (rows_in section.steps)

      found_at : (w : WideDescription) (q : Query) (told : List (List ℕ)) → AreWideLawsOf general.signature general.laws w → StandsForQuery general.query (frame w) q →
          Among w q told old before → IsFound w q general.budget general.horizon told new before new.row
      found_at w q told laws query among =
          let (behind, stands) = next (candidate_axioms w q general.horizon) None general.budget among.section among.stands in
          record {
            within = among.within;
            steps = among.section.steps;
            stands = stands;
            first = first_moved (candidate_axioms w q general.horizon) (IsCandidate w q general.horizon) (tells_of w q laws query)
                (rows_in among.section.steps ++ new.row ∷ []) stands.tells.first;
            lines_are = among.lines_are ∙ lines_open among.section behind.0 ∙ sym (append-nil (map step_line among.section.steps));
            gone = subst (λ (rows : List (List ℕ)). WentThrough w q general.horizon rows told) (rows_before among.section behind.1) among.gone;
          }

      -- with this many told it is ready behind the row
      ready_row : (listed : ℕ) → listed ≤ general.listed + 1 → HasMore new → IsListingAt general listed new before
      ready_row listed most more =
          let (behind, stands) = next listing.axioms None general.budget listing.section listing.stands in
          record {
            low = listing.low;
            small = listing.small;
            more = more;
            formed = listing.formed;
            axioms = listing.axioms;
            section = section_of listing.section.steps (Some new.row) None;
            stands = stands_row;
            sizes = listing.sizes;
            few =
                let few = subst (λ (rows : List (List ℕ)). general.listed ≤ length rows) (rows_before listing.section behind.1) listing.few in
                let long = length-append (rows_in listing.section.steps) (new.row ∷ []) in
                omega arith;
            are = listing.are;
          }

      row_at : (outcome : Outcome) → IsFormedOutcome outcome →
          ((w : WideDescription) → AreWideLawsOf general.signature general.laws w → IsSought w general.budget general.horizon new.row outcome) →
          left_of new < left_of old → HasMore new → Comes general old before new before (halt_of new.row outcome)
      row_at (outcomes.Found other) formed sought less more = record {
        tells = λ w q told laws query among.
            let found = found_at w q told laws query among in
            record {
              within = found.within;
              section = section_of found.steps (Some new.row) None;
              stands = found.stands;
              lines_are = found.lines_are;
              gone = gone_pass law w q general.horizon (rows_in found.steps) told new.row found.first found.stands.few found.gone (sought w laws).1
                  (no_history law w q general.horizon new.row other (sought w laws).0);
            };
        ready = ready_row general.listed (omega arith) more;
        less = less;
      }
      row_at (outcomes.Empty lines) formed sought less more = record {
        tells = λ w q told laws query among. (found_at w q told laws query among, sought w laws);
        ready = (ready_row (general.listed + 1) (omega arith) more, found_is_row, formed, (λ w laws. (sought w laws).good));
        less = less;
      }
      row_at (outcomes.Spent lines) formed sought less more = record {
        tells = λ w q told laws query among. (found_at w q told laws query among, sought w laws);
        ready = (found_is_row, formed);
        less = less;
      }

      judge_fault : (fault : Fault) → ((w : WideDescription) → AreWideLawsOf general.signature general.laws w → IsRefusedBy (rivals_refusal w general.horizon new.row) fault) →
          IsWalkFault general old before fault
      judge_fault faults.OutOfMemory refused = tt
      judge_fault (faults.Refused refusal) refused = λ w q told laws query among.
          let found = found_at w q told laws query among in
          inl (new.row, next_found w q general.budget general.horizon told new before new.row found, refused w laws)

    module _ (find : Find) (is : find ≡ finds.Row) (next : Next find) where
      row_next : Next finds.Row
      row_next = subst Next is next

      pub row_fits : (row : List ℕ) → row ≡ new.row → IsRow (position_sizes general.signature general.horizon) row
      row_fits row same = subst (λ (r : List ℕ). IsRow (position_sizes general.signature general.horizon) r) (sym same) (found_is_row row_next)

      pub row_comes : (row : List ℕ) (r : Result (Option Halt) Fault) → row ≡ new.row → IfOk r (IsJudged general row) → left_of new < left_of old → GoesOn new find →
          IfOk r (Comes general old before new before)
      row_comes row (Err fault) same judged less goes = tt
      row_comes row (Ok halt) same judged less goes =
          let here = subst (λ (r : List ℕ). IsJudged general r halt) same judged in
          subst (Comes general old before new before) (sym here.halt_is) (row_at row_next here.outcome here.formed here.sought less (subst (GoesOn new) is goes))

      pub row_fault : (row : List ℕ) (r : Result (Option Halt) Fault) → row ≡ new.row →
          ((w : WideDescription) → AreWideLawsOf general.signature general.laws w → IfErr r (IsRefusedBy (rivals_refusal w general.horizon row))) → IfErr r (IsWalkFault general old before)
      row_fault row (Ok halt) same refused = tt
      row_fault row (Err fault) same refused = judge_fault row_next fault
          (subst (λ (r : List ℕ). (w : WideDescription) → AreWideLawsOf general.signature general.laws w → IsRefusedBy (rivals_refusal w general.horizon r) fault) same refused)

    -- ---- the end

    module _ (find : Find) (word : EndWord) (is : find ≡ finds.End word) (next : Next find) where
      end_next : Next (finds.End word)
      end_next = subst Next is next

      -- as all rows are asked for
      pub not_found : word ≢ words.Found
      not_found same = none_asked ((end_next listing.axioms None general.budget listing.section listing.stands).1.tells.enough (ap Some same))
        where
          none_asked : {n : ℕ} → None ≡ Some n → ⊥
          none_asked none = absurd cc

      closed_at : (w : WideDescription) (q : Query) (told : List (List ℕ)) → AreWideLawsOf general.signature general.laws w → StandsForQuery general.query (frame w) q →
          Among w q told old before → IsClosed w q general.budget general.horizon told before word
      closed_at w q told laws query among =
          let (behind, stands) = end_next (candidate_axioms w q general.horizon) None general.budget among.section among.stands in
          record {
            within = among.within;
            section = section_of among.section.steps among.section.last (Some word);
            tells = told_moved (candidate_axioms w q general.horizon) (IsCandidate w q general.horizon) (tells_of w q laws query) None general.budget
                (section_of among.section.steps among.section.last (Some word)) stands.tells;
            ends = refl;
            lines_are = ap (λ (l : List LogLine). l ++ said.End word ∷ []) (among.lines_are ∙ lines_open among.section behind);
            gone = among.gone;
          }

      pub end_comes : (halt : Halt) → (word ≡ words.Empty → halt ≡ halts.Exhausted) → (word ≡ words.Spent → halt ≡ halts.SpentAmong) → left_of new < left_of old →
          Comes general old before new before (Some halt)
      end_comes halt empty spent less = by word refl
        where
          by : (given : EndWord) → word ≡ given → Comes general old before new before (Some halt)
          by words.Empty same = subst (λ (h : Halt). Comes general old before new before (Some h)) (sym (empty same)) (record {
            tells = λ w q told laws query among. subst (IsClosed w q general.budget general.horizon told before) same (closed_at w q told laws query among);
            ready = tt;
            less = less;
          })
          by words.Spent same = subst (λ (h : Halt). Comes general old before new before (Some h)) (sym (spent same)) (record {
            tells = λ w q told laws query among. subst (IsClosed w q general.budget general.horizon told before) same (closed_at w q told laws query among);
            ready = listing.formed;
            less = less;
          })
          by words.Found same = absurd (not_found same)

-- ---- turns one after another

-- so far no history came, and no end
pub record IsWalking (general : GeneralView) (old : SearchView) (before : List LogLine) (search : SearchView) (lines : List LogLine) : Type 0 where
  pub listing : IsListingAt general general.listed search lines
  pub tells : (w : WideDescription) (q : Query) (told : List (List ℕ)) → AreWideLawsOf general.signature general.laws w → StandsForQuery general.query (frame w) q →
      IsAmong w q general.budget general.horizon told old before → IsAmong w q general.budget general.horizon told search lines
  pub less : left_of search ≤ left_of old

pub walking_first : (general : GeneralView) (old : SearchView) (before : List LogLine) → IsListingAt general general.listed old before → IsWalking general old before old before
walking_first general old before listing = record { listing = listing; tells = λ w q told laws query among. among; less = omega arith }

module _ (general : GeneralView) (old : SearchView) (before : List LogLine) (search : SearchView) (lines : List LogLine) (walking : IsWalking general old before search lines) where
  pub walking_on : (new : SearchView) (after : List LogLine) (halt : Option Halt) → halt ≡ None → Comes general search lines new after halt →
      IsWalking general old before new after × (left_of new < left_of search)
  walking_on new after halt none comes =
      let here = subst (Comes general search lines new after) none comes in
      let less = here.less in let far = walking.less in (
        record {
          listing = here.ready;
          tells = λ w q told laws query among. here.tells w q told laws query (walking.tells w q told laws query among);
          less = omega arith;
        },
        less,
      )

  pub walking_ends : (new : SearchView) (after : List LogLine) (given : Option Halt) (halt : Halt) → given ≡ Some halt → Comes general search lines new after given →
      Comes general old before new after (Some halt)
  walking_ends new after given halt is comes =
      let here = subst (Comes general search lines new after) is comes in
      let less = here.less in let far = walking.less in
      record {
        tells = λ w q told laws query among. here.tells w q told laws query (walking.tells w q told laws query among);
        ready = here.ready;
        less = omega arith;
      }

  pub walking_fault : (fault : Fault) → IsWalkFault general search lines fault → IsWalkFault general old before fault
  walking_fault faults.OutOfMemory is = tt
  walking_fault (faults.Refused refusal) is = λ w q told laws query among. is w q told laws query (walking.tells w q told laws query among)
