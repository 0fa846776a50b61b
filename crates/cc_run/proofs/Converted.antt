-- An accepted log that is told in its other version, line by line.
use Rattle.std.proofs.Common.{◌≡◌, ◌∙◌, refl, sym, ap, subst, ℕ, ◌≤◌, ◌<◌, Bool, true, false, if◌then◌else◌, List, [], ◌∷◌, ◌++◌, length, length-append, map, Option, Some, None, IfSome, IfOk, Result, Ok, Err, Bor, arith, append-nil, inr, option_map}
use Rattle.std.specs.Prelude.{not, suc, zero, ◌+◌, ◌/◌, IsErrAnd, decimal, flat_map, nat_lt}
use Rattle.std.specs.List.{join_with_byte}
use Rattle.std.proofs.lemmas.List.{length-map}
use Rattle.cc_arena.specs.declared.ground_laws.GroundLaw.{GroundLaw}
use Rattle.cc_log.specs.Entries.{AreBefore, HasShortLists, NamesBefore}
use Rattle.cc_log.specs.Versions.{OtherVersionsAreJudgedAlike}
use Rattle.cc_convert.specs.Laws.{AcceptedLogsSayLines, SaysLines}
use Rattle.cc_defs.specs.declared.event.Event.TheVariants as events
use Rattle.cc_defs.specs.declared.lists.Key.{Key}
use Rattle.cc_defs.specs.declared.log.Cause.{Cause}
use Rattle.cc_defs.specs.declared.log.EndWord.TheVariants as ends
use Rattle.cc_defs.specs.declared.log.LogLine.{LogLine}
use Rattle.cc_defs.specs.declared.log.LogLine.TheVariants as lines
use Rattle.cc_defs.specs.declared.log.LogVerdict.{LogVerdict}
use Rattle.cc_defs.specs.declared.log.LogVerdict.TheVariants as verdicts
use Rattle.cc_defs.specs.declared.log.Version.{Version}
use Rattle.cc_defs.specs.declared.log.Version.TheVariants.{First, Second}
use Rattle.cc_defs.specs.declared.refusal.Refusal.{Refusal}
use Rattle.cc_defs.specs.Description.{Description}
use Rattle.cc_defs.specs.GroundLaws.{PlainGroundQuery, StandsForQuery}
use Rattle.cc_defs.specs.Limits.{most_log_bytes, most_steps}
use Rattle.cc_defs.specs.LogBytes.{chain_behind, literal_bytes, literal_number, number_bytes}
use Rattle.cc_defs.specs.LogTexts.{IsShort, line_parts, literal_text}
use Rattle.cc_defs.specs.Logs.{IsVerdict}
use Rattle.cc_defs.specs.LogVersions.{AreEarlier, NamesEarlier, header_of, line_bytes, lines_bytes, log_in, other_version, own_behind}
use Rattle.cc_defs.specs.Resolved.{Query}
use Rattle.cc_defs.specs.Runs.{first_horizon, last_horizon, range_of}
use Rattle.cc_defs.specs.Signatures.{Signature}
use Rattle.cc_describe.specs.Places.{Files}
use Rattle.cc_form.specs.Queries.{IsKeyAt, IsQueryAt}
use Rattle.cc_judge.specs.Judging.{IsVerdictWithin, limit_of}
use Rattle.cc_ports.specs.declared.desk.To.TheVariants as outputs
use Rattle.cc_ports.specs.Moments.{Moment}
use Rattle.cc_print.specs.Verdicts.{verdict_line}
use Rattle.cc_lists.specs.Horizons.{Fits, refusal_at}
use Rattle.cc_lists.specs.Subjects.{subject_of}
use Rattle.cc_lists.proofs.Ranges.{last_is, last_low}
use Rattle.cc_list.specs.Asking.{AreOf, AreSearchable}
use Rattle.cc_run.specs.Converted.{AreLeft, HasLeft, HasOpened, IsJudged, converted_by, other_said}
use Rattle.cc_list.specs.Promises.{Keeps, log_asked}
use Rattle.cc_list.specs.Stops.{Asks, Prints, outcome}
use Rattle.cc_list.specs.Telling.{counts_of, task_to_check}
use Rattle.cc_run.specs.Modes.Checking.{NamesLogOf, verdict_status}
use Rattle.cc_run.specs.Modes.Converting.{Converts, IsConverted, converting_promise}
use Rattle.cc_list.specs.Names.{IsAnswer}
use Rattle.cc_run.specs.Naming.{checked_by}
use Rattle.cc_list.specs.Wholes.{Whole}
use Rattle.cc_tell.specs.Steps.{Begins, Step}
use Rattle.cc_tell.specs.Givens.{given_to, joined, only_out}
use Rattle.cc_tell.specs.Tellers.{IsCounted, IsWritable}
use Rattle.cc_tell.specs.declared.status.Status.{Status}
use Rattle.cc_tell.specs.declared.status.Status.TheVariants as statuses
use Rattle.cc_tell.specs.declared.status.Stop.{Stop}
use Rattle.cc_theory.specs.Theories.{AreLawsOf}
use Rattle.cc_words.specs.Requests.{Converting}
use Rattle.cc_words.specs.Words.{Text}
use Rattle.cc_tell.proofs.LineSteps.{LinesSoFar, lines_begin, lines_end, lines_more, lines_stop}
use Rattle.cc_list.proofs.Callings.{first_none, stop_answers_nothing}
use Rattle.cc_list.proofs.Outcomes.{known, prints_begun, prints_whole}
use Rattle.cc_list.proofs.Passing.{range_is}

-- ---- a section of the log

module _ (signature : Signature) (laws : List GroundLaw) (query : PlainGroundQuery) (d : Description) (q : Query) (key : Option Key) (searchable : AreSearchable signature laws query key)
    (stands : StandsForQuery query d q) (horizon : ℕ) (least : first_horizon q key ≤ horizon) (most : horizon ≤ last_horizon q key) where
  within_range : (after : Option Key) → IfSome after (Fits signature query) → first_horizon q after ≤ horizon → horizon ≤ last_horizon q after →
      (query.lo ≤ horizon) × (horizon ≤ query.hi)
  within_range None fits low high =
      let lows : query.lo ≡ (range_of q).0 = ap (λ (made : PlainGroundQuery). made.lo) stands.2 ∙ ap (λ (range : ℕ × ℕ). range.0) (sym (range_is query d q stands)) in
      let highs : query.hi ≡ (range_of q).1 = ap (λ (made : PlainGroundQuery). made.hi) stands.2 ∙ ap (λ (range : ℕ × ℕ). range.1) (sym (range_is query d q stands)) in
      (omega arith, omega arith)
  within_range (Some after) fits low high =
      let before = fits.least in
      let behind = fits.most in
      (omega arith, omega arith)

  range : (query.lo ≤ horizon) × (horizon ≤ query.hi)
  range = within_range key searchable.key_fits least most

  pub asks_there : IsQueryAt signature horizon query
  asks_there = searchable.steps horizon range.0 range.1

  pub few_steps : horizon ≤ most_steps
  few_steps = let low = range.1 in let all = searchable.most in omega arith

  pub key_there : (found : Option (Bor Key)) → option_map (λ (low : Bor Key). low.now) found ≡ key → IfSome found (λ low. IsKeyAt signature horizon low.now)
  key_there None same = tt
  key_there (Some low) same =
      let fits : Fits signature query low.now = subst (λ (k : Option Key). IfSome k (Fits signature query)) (sym same) searchable.key_fits in
      let first : low.now.horizon ≤ horizon = subst (λ (k : Option Key). first_horizon q k ≤ horizon) (sym same) least in
      let last : horizon ≤ low.now.horizon = subst (λ (k : Option Key). horizon ≤ last_horizon q k) (sym same) most in
      at low.now fits (omega arith)
    where
      at : (low : Key) → Fits signature query low → low.horizon ≡ horizon → IsKeyAt signature horizon low
      at low fits same = subst (λ (h : ℕ). IsKeyAt signature h low) same (record { horizon_is = refl; row = fits.row })

abbrev some_refusal : Refusal → Option Refusal
some_refusal refusal = Some refusal

none_refused : (o : Option Refusal) (refusal : Refusal) → o ≡ None → o ≡ some_refusal refusal → ⊥
none_refused o refusal none some = cc

module _ (signature : Signature) (laws : List GroundLaw) (query : PlainGroundQuery) (key : Option Key) (conditions : Bool) (horizon : ℕ) where
  pub opened_asks : AreSearchable signature laws query key → HasOpened signature laws query key (lines.Section conditions horizon) → IsQueryAt signature horizon query
  opened_asks searchable (d, q, of, (least, most, within)) = asks_there signature laws query d q key searchable of.query_is horizon least most

  -- its limits are not passed
  pub never_refused : HasOpened signature laws query key (lines.Section conditions horizon) → (found : Option Key) → found ≡ key → (refusal : Refusal) →
      ((d : Description) (q : Query) → AreLawsOf signature laws d → StandsForQuery query d q → refusal_at d q horizon (not conditions) found ≡ Some refusal) → ⊥
  never_refused (d, q, of, (least, most, within)) found same refusal refused =
      none_refused (limit_of d q key conditions horizon) refusal within
      (subst (λ (k : Option Key). refusal_at d q horizon (not conditions) k ≡ Some refusal) same (refused d q of.laws_are of.query_is))

same_log : (a b : LogLine) → events.Log a ≡ events.Log b → a ≡ b
same_log a b is = cc

same_section : (a b : Bool) (m n : ℕ) → lines.Section a m ≡ lines.Section b n → (a ≡ b) × (m ≡ n)
same_section a b m n is = (cc, cc)

-- a heading is that of one section
pub section_counted : {X : Type 0} (counts : Bool → ℕ → ℕ) (line : LogLine) (conditions : Bool) (horizon : ℕ) (r : Result ℕ X) → line ≡ lines.Section conditions horizon →
    IfOk r (λ axioms. axioms ≡ counts conditions horizon) → IfOk r (IsCounted counts (events.Log line))
section_counted counts line conditions horizon (Err e) is counted = tt
section_counted counts line conditions horizon (Ok axioms) is counted = λ other at heads.
    let same = same_section conditions other horizon at (sym is ∙ same_log line (lines.Section other at) heads) in
    counted ∙ (ap (λ (b : Bool). counts b horizon) same.0 ∙ ap (λ (n : ℕ). counts other n) same.1)

-- ---- how long a line is

parts_low : (parts : List (List ℕ)) → length parts ≤ length (join_with_byte 32 parts) + 1
parts_low [] = omega arith
parts_low (part ∷ []) = omega arith
parts_low (part ∷ next ∷ parts) =
    let rest = parts_low (next ∷ parts) in
    let all = length-append part (32 ∷ join_with_byte 32 (next ∷ parts)) in
    omega arith

items_low : {X : Type 0} (written : X → List ℕ) → ((item : X) → 1 ≤ length (written item)) → (items : List X) → length items ≤ length (flat_map written items)
items_low written some [] = omega arith
items_low written some (item ∷ items) =
    let here = some item in
    let rest = items_low written some items in
    let all = length-append (written item) (flat_map written items) in
    omega arith

number_some : (number : ℕ) → 1 ≤ length (number_bytes number)
number_some number = of (nat_lt number 128) (number ∷ []) _ (omega arith) (omega arith)
  where
    of : (b : Bool) (short long : List ℕ) → 1 ≤ length short → 1 ≤ length long → 1 ≤ length (if b then short else long)
    of true short long first second = first
    of false short long first second = second

chain_same : (own : ℕ) (chain : List ℕ) → length (chain_behind own chain) ≡ length chain
chain_same own [] = refl
chain_same own (distance ∷ []) = refl
chain_same own (distance ∷ pivot ∷ chain) = ap (λ (n : ℕ). suc (suc n)) (chain_same own chain)

line_some : (version : Version) (own : ℕ) (line : LogLine) → 0 < length (line_bytes version own line)
line_some First own line = let all = length-append (join_with_byte 32 (line_parts line)) (10 ∷ []) in omega arith
line_some Second own (lines.Section conditions horizon) = omega arith
line_some Second own (lines.Derived clause chain) = omega arith
line_some Second own (lines.Block row) = omega arith
line_some Second own (lines.End ends.Empty) = omega arith
line_some Second own (lines.End ends.Found) = omega arith
line_some Second own (lines.End ends.Spent) = omega arith

-- a line has no more literals or numbers than bytes
abbrev AreShort : ℕ → LogLine → Type 0
AreShort most (lines.Section conditions horizon) = Unit {0}
AreShort most (lines.Derived clause chain) = (length clause ≤ most) × (length chain ≤ most)
AreShort most (lines.Block row) = length row ≤ most
AreShort most (lines.End word) = Unit {0}

lists_low : (version : Version) (own : ℕ) (line : LogLine) → AreShort (length (line_bytes version own line)) line
lists_low version own (lines.Section conditions horizon) = tt
lists_low version own (lines.End word) = tt
lists_low First own (lines.Derived clause chain) =
    let parts = parts_low (line_parts (lines.Derived clause chain)) in
    let clause_parts = length-map clause literal_text in
    let chain_parts = length-map chain decimal in
    let behind = length-append (map decimal chain) ((48 ∷ []) ∷ []) in
    let before = length-append (map literal_text clause) ((48 ∷ []) ∷ (map decimal chain ++ (48 ∷ []) ∷ [])) in
    let all = length-append (join_with_byte 32 (line_parts (lines.Derived clause chain))) (10 ∷ []) in
    (omega arith, omega arith)
lists_low First own (lines.Block row) =
    let parts = parts_low (line_parts (lines.Block row)) in
    let row_parts = length-map row decimal in
    let all = length-append (join_with_byte 32 (line_parts (lines.Block row))) (10 ∷ []) in
    omega arith
lists_low Second own (lines.Derived clause chain) =
    let numbers = flat_map number_bytes (chain_behind own chain) in
    let literals = flat_map literal_bytes clause in
    let count = number_bytes (length clause) in
    let pairs = number_bytes (length (chain_behind own chain) / 2) in
    let same = chain_same own chain in
    let clause_low = items_low literal_bytes (λ literal. number_some (literal_number literal)) clause in
    let chain_low = items_low number_bytes number_some (chain_behind own chain) in
    let first = length-append ((count ++ literals) ++ pairs) numbers in
    let second = length-append (count ++ literals) pairs in
    let third = length-append count literals in
    (omega arith, omega arith)
lists_low Second own (lines.Block row) =
    let row_low = items_low number_bytes number_some row in
    let all = length-append (number_bytes (length row)) (flat_map number_bytes row) in
    omega arith

short_lists : (most : ℕ) (line : LogLine) → most ≤ 999999999 → AreShort most line → HasShortLists line
short_lists most (lines.Section conditions horizon) low short = tt
short_lists most (lines.Derived clause chain) low short =
    let clause_low = short.0 in
    let chain_low = short.1 in
    (omega arith, omega arith)
short_lists most (lines.Block row) low short = omega arith
short_lists most (lines.End word) low short = tt

names_before : (own : ℕ) (chain : List ℕ) → AreEarlier own chain → AreBefore own chain
names_before own [] are = tt
names_before own (number ∷ []) are = are.1
names_before own (number ∷ pivot ∷ chain) are = (are.1, names_before own chain are.2)

line_before : (own : ℕ) (line : LogLine) → NamesEarlier own line → NamesBefore own line
line_before own (lines.Section conditions horizon) are = tt
line_before own (lines.Derived clause chain) are = names_before own chain are
line_before own (lines.Block row) are = tt
line_before own (lines.End word) are = tt

-- ---- the first of the lines that are left

module _ (d : Description) (q : Query) (key : Option Key) (version : Version) (own : ℕ) (bytes : List ℕ) where
  -- there is one, where bytes are left
  pub record HasFirst (said : List LogLine) : Type 0 where
    pub line : LogLine
    pub others : List LogLine
    pub is : said ≡ line ∷ others
    pub left : AreLeft d q key version own bytes (line ∷ others)

  pub first_of : (said : List LogLine) → AreLeft d q key version own bytes said → 0 < length bytes → HasFirst said
  first_of [] left some = let none = ap (λ (b : List ℕ). length b) left.spelled in absurd (omega arith)
  first_of (line ∷ others) left some = record { line = line; others = others; is = refl; left = left }

  module _ (line : LogLine) (others : List LogLine) (left : AreLeft d q key version own bytes (line ∷ others)) where
    abbrev pub bytes_behind : List ℕ
    bytes_behind = lines_bytes version (counts_of d q key) (own_behind (counts_of d q key) own line) others

    both : length bytes ≡ length (line_bytes version own line) + length bytes_behind
    both = ap (λ (b : List ℕ). length b) left.spelled ∙ length-append (line_bytes version own line) bytes_behind

    pub shorter : (found : List ℕ) → found ≡ bytes_behind → length found < length bytes
    shorter found is =
        let same = ap (λ (b : List ℕ). length b) is in
        let all = both in
        let some = line_some version own line in
        omega arith

    pub left_behind : (found : List ℕ) (next : ℕ) → found ≡ bytes_behind → next ≡ own_behind (counts_of d q key) own line → AreLeft d q key version next found others
    left_behind found next is number =
        let low = shorter found is in
        let few = left.few in
        subst (λ (n : ℕ). AreLeft d q key version n found others) (sym number) (record { spelled = is; few = omega arith; each = left.each.2 })

    pub writable : IsWritable own line
    writable =
        let few = left.few in
        let all = both in
        let said = left.each.0 in
        (said.own_short, short_lists (length (line_bytes version own line)) line (omega arith) (lists_low version own line), line_before own line said.earlier)

    pub none_left : length bytes ≡ 0 → ⊥
    none_left none =
        let all = both in
        let some = line_some version own line in
        omega arith

-- some description and query have one
module _ (signature : Signature) (laws : List GroundLaw) (query : PlainGroundQuery) (key : Option Key) (version : Version) (own : ℕ) (bytes : List ℕ) where
  pub record OneLeft : Type 0 where
    pub d : Description
    pub q : Query
    pub of : AreOf signature laws query d q
    pub line : LogLine
    pub others : List LogLine
    pub left : AreLeft d q key version own bytes (line ∷ others)

  pub one_left : HasLeft signature laws query key version own bytes → 0 < length bytes → OneLeft
  one_left (d, q, said, of, left) some =
      let first = first_of d q key version own bytes said left some in
      record { d = d; q = q; of = of; line = first.line; others = first.others; left = first.left }

pub some_left : (n : ℕ) → (n ≡ 0 → ⊥) → 0 < n
some_left zero none = absurd (none refl)
some_left (suc n) none = omega arith

-- ---- line by line

module _ (d : Description) (q : Query) (key : Option Key) (version : Version) (said : List LogLine) where
  -- lines in the other version
  abbrev written : ℕ → List LogLine → List ℕ
  written own others = lines_bytes (other_version version) (counts_of d q key) own others

  -- some of the lines were told, and these are left
  pub record TellsLines (own : ℕ) (bytes : List ℕ) (old new : Moment) : Type 0 where
    pub others : List LogLine
    pub left : AreLeft d q key version own bytes others
    pub so_far : LinesSoFar outputs.Log (lines_bytes (other_version version) (counts_of d q key) 1 said) (lines_bytes (other_version version) (counts_of d q key) own others) old new

  pub telling_begins : (bytes : List ℕ) (m : Moment) → AreLeft d q key version 1 bytes said → TellsLines 1 bytes m m
  telling_begins bytes m left = record { others = said; left = left; so_far = lines_begin outputs.Log (written 1 said) (written 1 said) m refl }

  module _ (own : ℕ) (bytes : List ℕ) (x y : Moment) (tells : TellsLines own bytes x y) where
    pub telling_ends : {X : Type 0} (v : X) → length bytes ≡ 0 → Step (given_to outputs.Log (written 1 said)) x y (Ok v)
    telling_ends v none = lines_end outputs.Log (written 1 said) (written own tells.others) x y tells.so_far v (empty tells.others tells.left)
      where
        empty : (others : List LogLine) → AreLeft d q key version own bytes others → length (written own others) ≡ 0
        empty [] left = refl
        empty (line ∷ others) left = absurd (none_left d q key version own bytes line others left none)

    -- what one more step gives, and what it leaves
    abbrev pub Told : {X : Type 0} → (y z : Moment) → Result X Stop → Type 0
    Told y z r = (line : LogLine) (others : List LogLine) → AreLeft d q key version own bytes (line ∷ others) →
        Step (given_to outputs.Log (line_bytes (other_version version) own line)) y z r

    module _ (some : 0 < length bytes) (z : Moment) where
      first : HasFirst d q key version own bytes tells.others
      first = first_of d q key version own bytes tells.others tells.left some

      split : written own tells.others ≡ line_bytes (other_version version) own first.line ++ written (own_behind (counts_of d q key) own first.line) first.others
      split = ap (λ (l : List LogLine). written own l) first.is

      pub telling_stops : {X Y : Type 0} (r : Result X Stop) (e : Stop) (s : Result Y Stop) → Told y z r → r ≡ Err e → IsErrAnd s (λ d. d ≡ e) →
          Step (given_to outputs.Log (written 1 said)) x z s
      telling_stops r e s told is same =
          lines_stop outputs.Log (written 1 said) (written own tells.others) x y tells.so_far (line_bytes (other_version version) own first.line)
          (written (own_behind (counts_of d q key) own first.line) first.others) split z r e s (told first.line first.others first.left) is same

      pub telling_next : {X : Type 0} (r : Result X Stop) (v : X) (next : ℕ) (found : List ℕ) → Told y z r → r ≡ Ok v →
          ((line : LogLine) (others : List LogLine) → AreLeft d q key version own bytes (line ∷ others) →
          (next ≡ own_behind (counts_of d q key) own line) × AreLeft d q key version next found others) → TellsLines next found x z
      telling_next r v next found told is leaves =
          let left = leaves first.line first.others first.left in
          record {
            others = first.others;
            left = left.1;
            so_far = subst (λ (n : ℕ). LinesSoFar outputs.Log (written 1 said) (written n first.others) x z) (sym left.0)
                (lines_more outputs.Log (written 1 said) (written own tells.others) x y tells.so_far (line_bytes (other_version version) own first.line)
                (written (own_behind (counts_of d q key) own first.line) first.others) split z r v (told first.line first.others first.left) is);
          }

-- ---- the log as a whole

pub says_left : (d : Description) (q : Query) (key : Option Key) (bytes : List ℕ) → length bytes ≤ most_log_bytes → (says : SaysLines d q key bytes) → (version : Version) (behind : List ℕ) →
    version ≡ says.version → behind ≡ lines_bytes says.version (counts_of d q key) 1 says.said → AreLeft d q key version 1 behind says.said
says_left d q key bytes few says version behind same is =
    let all = ap (λ (b : List ℕ). length b) says.lines ∙ length-append (header_of says.version) (lines_bytes says.version (counts_of d q key) 1 says.said) in
    let here = ap (λ (b : List ℕ). length b) is in
    subst (λ (v : Version). AreLeft d q key v 1 behind says.said) (sym same) (record { spelled = is; few = omega (arith, all, here, few); each = says.each })

-- the horizons that are searched have few digits
pub last_short : (signature : Signature) (laws : List GroundLaw) (query : PlainGroundQuery) (d : Description) (q : Query) (key : Option Key) →
    AreSearchable signature laws query key → StandsForQuery query d q → IsShort (last_horizon q key)
last_short signature laws query d q key searchable stands =
    let same = last_is d q query key stands in
    let low = last_low signature query key searchable.most searchable.key_fits in
    omega arith

pub says_of : AcceptedLogsSayLines → (d : Description) (q : Query) (key : Option Key) (bytes : List ℕ) (verdict : LogVerdict) (first last blocked : ℕ) → length bytes ≤ most_log_bytes →
    IsShort (last_horizon q key) → verdict ≡ verdicts.Accepted first last blocked → IsVerdictWithin d q key bytes verdict → SaysLines d q key bytes
says_of law d q key bytes verdict first last blocked few short is within =
    law d q key bytes first last blocked few short (subst (λ (v : LogVerdict). IsVerdictWithin d q key bytes v) is within)

pub converted_joined : (verdict : LogVerdict) (other : List ℕ) → joined (only_out (verdict_line verdict)) (given_to outputs.Log other) ≡ converted_by verdict other
converted_joined verdict other = λ i. record { out = append-nil (verdict_line verdict) i; err = []; log = other }

-- ---- a run that converts

ends_as : (converting : Converting) (verdict : LogVerdict) (r : Result Status Stop) →
    IfOk r (λ status. status ≡ verdict_status verdict) → IfOk r ((converting_promise converting).MayEnd)
ends_as converting verdict (Err stop) is = tt
ends_as converting verdict (Ok status) is =
    (subst (λ (s : Status). (converting_promise converting).MayEnd s) (sym is) (may verdict))
  where
    may : (verdict : LogVerdict) → (converting_promise converting).MayEnd (verdict_status verdict)
    may (verdicts.Accepted low high blocked) = tt
    may (verdicts.Refused line reason) = tt

ended_as : (verdict : LogVerdict) (r : Result Status Stop) → IfOk r (λ status. status ≡ verdict_status verdict) → IfOk r (λ status. Some (verdict_status verdict) ≡ Some status)
ended_as verdict (Ok status) is = ap Some (sym is)
ended_as verdict (Err stop) is = tt

module _ (converting : Converting) (d : Description) (q : Query) (key : Option Key) (bytes : List ℕ) where
  gives_whole : (files : Files) (verdict : LogVerdict) (whole : Whole) → NamesLogOf files (checked_by converting) (task_to_check d q key) bytes → IsJudged d q key bytes verdict →
      IsConverted (subject_of d q key) bytes verdict whole → whole.ends ≡ Some (verdict_status verdict) → Keeps (converting_promise converting) files whole
  gives_whole files verdict whole named judged converted ends = inr converts
    where
      converts : Converts converting files whole
      converts = record {
        task = task_to_check d q key;
        bytes = bytes;
        named = named;
        few = judged.few;
        verdict = verdict;
        judged = judged.judged;
        within = judged.within;
        blocks = judged.blocks;
        converted = converted;
        ends = ends;
      }

  -- a log that is refused: no other is begun
  pub prints_refused_log : (verdict : LogVerdict) (line : ℕ) (reason : Cause) (x z : Moment) (r : Result Status Stop) → verdict ≡ verdicts.Refused line reason →
      IfSome x.told (λ c. NamesLogOf c.files (checked_by converting) (task_to_check d q key) bytes) → IsJudged d q key bytes verdict →
      Step (only_out (verdict_line verdict)) x z r → IfOk r (λ status. status ≡ verdict_status verdict) → Prints (converting_promise converting) true [] x z r
  prints_refused_log verdict line reason x z r is named judged step status =
      prints_whole (converting_promise converting) true [] whole x z r
      (known x.told (λ c. NamesLogOf c.files (checked_by converting) (task_to_check d q key) bytes) (λ c. Keeps (converting_promise converting) c.files whole)
      (λ c log. gives_whole c.files verdict whole log judged (subst (λ (v : LogVerdict). IsConverted (subject_of d q key) bytes v (of v)) (sym is) (refl, refl)) refl) named)
      refl step (ended_as verdict r status) (ends_as converting verdict r status) asks
    where
      of : LogVerdict → Whole
      of v = record { given = only_out (verdict_line v); begun = false; ends = Some (verdict_status v) }

      whole : Whole
      whole = of verdict

      none : (r : Result Status Stop) → IfOk r (λ status. status ≡ verdict_status verdict) → IsAnswer (outcome r) → [] ≡ log_asked (converting_promise converting) (outcome r)
      none (Err stop) status answer = absurd (stop_answers_nothing stop answer)
      none (Ok end) status answer = ap (λ (s : Status). log_asked (converting_promise converting) s) (sym (status ∙ ap verdict_status is))

      asks : Asks [] (log_asked (converting_promise converting)) x z r
      asks = record {
        opened = [];
        begun = [];
        called = step.moves.called;
        opened_first = first_none [];
        begun_first = first_none (log_asked (converting_promise converting) statuses.Right);
        whole = λ answer. (refl, none r status answer);
      }

  -- a log that is accepted: its other version is given to the one that is begun
  pub prints_accepted_log : {X : Type 0} → OtherVersionsAreJudgedAlike → (verdict : LogVerdict) (first last blocked : ℕ) (names : List Text) (x y z : Moment) (b : Result X Stop) (v : X)
      (r : Result Status Stop) (says : SaysLines d q key bytes) → verdict ≡ verdicts.Accepted first last blocked → names ≡ converting.to ∷ [] →
      IfSome x.told (λ c. NamesLogOf c.files (checked_by converting) (task_to_check d q key) bytes) → IsJudged d q key bytes verdict → Begins true names x y b → b ≡ Ok v →
      Step (converted_by verdict (other_said d q key bytes says)) y z r → IfOk r (λ status. status ≡ verdict_status verdict) → Prints (converting_promise converting) true [] x z r
  prints_accepted_log law verdict first last blocked names x y z b v r says is to named judged begins at step status =
      prints_begun (converting_promise converting) true names whole x y z b v r to
      (λ answer. to ∙ (name r status answer))
      (known x.told (λ c. NamesLogOf c.files (checked_by converting) (task_to_check d q key) bytes) (λ c. Keeps (converting_promise converting) c.files whole)
      (λ c log. gives_whole c.files verdict whole log judged (converted verdict is judged.judged) refl) named)
      refl begins at step (ended_as verdict r status) (ends_as converting verdict r status)
    where
      other : List ℕ
      other = other_said d q key bytes says

      of : LogVerdict → Whole
      of v = record { given = converted_by v (other_said d q key bytes says); begun = true; ends = Some (verdict_status v) }

      whole : Whole
      whole = of verdict

      name : (r : Result Status Stop) → IfOk r (λ status. status ≡ verdict_status verdict) → IsAnswer (outcome r) → converting.to ∷ [] ≡ log_asked (converting_promise converting) (outcome r)
      name (Err stop) status answer = absurd (stop_answers_nothing stop answer)
      name (Ok end) status answer = ap (λ (s : Status). log_asked (converting_promise converting) s) (sym (status ∙ ap verdict_status is))

      converted : (v : LogVerdict) → v ≡ verdicts.Accepted first last blocked → IsVerdict (subject_of d q key) bytes v → IsConverted (subject_of d q key) bytes v (of v)
      converted v same right =
          subst (λ (w : LogVerdict). IsConverted (subject_of d q key) bytes w (of w)) (sym same) (
            other_said d q key bytes says,
            record {
              version = says.version;
              versions = record { said = says.said; sayable = says.sayable; here = says.lines; there = refl };
              judged = law (subject_of d q key) says.version says.said (verdicts.Accepted first last blocked) says.sayable says.entries
                  (subst (λ (w : LogVerdict). IsVerdict (subject_of d q key) (log_in says.version (counts_of d q key) says.said) w) same
                  (subst (λ (b : List ℕ). IsVerdict (subject_of d q key) b v) says.lines right));
            },
            refl,
            refl,
          )
