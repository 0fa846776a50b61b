-- The log of a fair run in which no search was spent is accepted.
use Rattle.std.proofs.Common.{◌≡◌, ◌∙◌, ℕ, suc, ◌+◌, inr, List, [], ◌∷◌, ◌++◌, map, flat_map, length, get_or, decimal, codes, Option, Some, None, refl, sym, subst, ap, arith, append_assoc, append-nil}
use Rattle.std.specs.Prelude.{Contains, IfSome, false}
use Rattle.std.specs.List.{AllByRecursion}
use Rattle.cc_check.specs.declared.silent.Place.{Place}
use Rattle.cc_check.specs.declared.silent.SilentVerdict.TheVariants as verdicts
use Rattle.cc_check.specs.Silent.{BeginsSection, LeadsTo, SilentSection}
use Rattle.cc_defs.specs.declared.lists.Key.{Key}
use Rattle.cc_defs.specs.declared.log.EndWord.TheVariants as words
use Rattle.cc_defs.specs.declared.log.LogLine.{LogLine}
use Rattle.cc_defs.specs.LogTexts.{IsShort, line_text, lines_in}
use Rattle.cc_defs.specs.Resolved.{Query}
use Rattle.cc_defs.specs.Runs.{optional}
use Rattle.cc_defs.specs.Sections.{Right}
use Rattle.cc_defs.specs.Texts.{key_text}
use Rattle.cc_general.specs.Accepted.{GeneralLogsAreAccepted, IsUnspentEnding, IsWritableShown}
use Rattle.cc_silent.specs.GeneralLogs.{IsCandidateKey, IsRivalsHeading, general_subject, rivals_heading}
use Rattle.cc_general.specs.GeneralRuns.{GeneralEnding, Complete, Asked, NoneAtAll, SpentAmong, SpentOver, GeneralRun, IsFairGeneral, IsShownRightly, Shown, general_horizon}
use Rattle.cc_general.specs.GeneralTold.{shown_text, spent_text}
use Rattle.cc_silent.proofs.RowTexts.{joined}
use Rattle.cc_lists.specs.Sections.{section_lines}
use Rattle.cc_lists.proofs.AcceptedEmpty.{lines_within, section_found}
use Rattle.cc_lists.proofs.AcceptedLines.{HasNoFeed, IsNoFeed, IsWithin, cut, digits, letter, letter_within, lines_cut}
use Rattle.cc_lists.proofs.AcceptedLines as texts
use Rattle.cc_lists.proofs.Members.{all_append, all_both, all_map, in_first, in_none, in_rest}
use Rattle.cc_rivals.specs.Wides.{HistoriesHaveNoRivals}
use Rattle.cc_wide.specs.WideLaws.{WideDescription}
use Rattle.cc_wide.specs.WideLists.{rival_axioms}

-- ---- texts

heading_cut : (horizon : ℕ) (row rest : List ℕ) → IsShort horizon → AllByRecursion IsShort row →
    lines_in (rivals_heading horizon row ++ rest) ≡ rivals_heading horizon row ∷ lines_in rest
heading_cut horizon row rest at short =
    let front : HasNoFeed (decimal horizon ++ 58 ∷ []) = all_append IsNoFeed (decimal horizon) (58 ∷ []) (digits horizon at) (refl, tt) in
    let indexes : HasNoFeed (joined row) = texts.joined 44 refl (map decimal row) (all_map HasNoFeed IsShort decimal digits row short) in
    ap lines_in (append_assoc (codes "u " ++ key_text horizon row) (10 ∷ []) rest)
    ∙ cut (codes "u " ++ key_text horizon row) rest (refl, (refl, all_append IsNoFeed (decimal horizon ++ 58 ∷ []) (joined row) front indexes))

-- a line within a section begins with another letter than a heading
unread : (line : LogLine) → IsWithin line → (key : Key) → IsRivalsHeading (line_text line) key → ⊥
unread line within key is =
    let same = sym (letter line) ∙ ap (λ (t : List ℕ). get_or t 0 0) is.spelled in
    let low = letter_within line within in
    omega arith

module _ (w : WideDescription) (q : Query) (budget horizon : ℕ) where
  abbrev key_of : Shown → Key
  key_of shown = record { horizon = horizon; row = shown.row }

  -- it names a candidate, is shown rightly, and can be written
  abbrev IsGoodShown : Shown → Type 0
  IsGoodShown shown = (IsCandidateKey w q (key_of shown) × IsShownRightly w budget horizon shown) × IsWritableShown w horizon shown

  abbrev behind : ℕ → Place
  behind before = record { before = before; is_closed = false }

  -- the texts from a line on, behind so many sections: sections, as many as these
  record IsLed (before line : ℕ) (texts : List (List ℕ)) (count : ℕ) : Type 0 where
    pub begins : BeginsSection (general_subject w q) texts
    pub sections : List (SilentSection Key)
    pub after : ℕ
    pub leads : LeadsTo (general_subject w q) (λ _. Unit {0}) (behind before) line texts sections (behind (before + count)) after []

  -- the text of a section and what is behind it
  section_cut : (shown : Shown) (rest : List ℕ) → IsShort horizon → IsGoodShown shown →
      lines_in (shown_text horizon shown ++ rest) ≡ rivals_heading horizon shown.row ∷ (map line_text (section_lines shown.section) ++ lines_in rest)
  section_cut shown rest short (is, (in_row, formed, good)) =
      let heading = rivals_heading horizon shown.row in
      let inside = flat_map line_text (section_lines shown.section) in
      ap lines_in (append_assoc heading inside rest) ∙ heading_cut horizon shown.row (inside ++ rest) short in_row
      ∙ ap (λ (texts : List (List ℕ)). heading ∷ texts) (lines_cut (section_lines shown.section) rest formed)

  section_led : (shown : Shown) (before line count : ℕ) (rest : List (List ℕ)) → IsShort horizon → IsGoodShown shown →
      IsLed (before + 1) (line + 1 + length (map line_text (section_lines shown.section))) rest count →
      IsLed before line (rivals_heading horizon shown.row ∷ (map line_text (section_lines shown.section) ++ rest)) (suc count)
  section_led shown before line count rest short ((right, (looks, ends)), (in_row, formed, good)) next =
      let heading = rivals_heading horizon shown.row in
      let reads : IsRivalsHeading heading (key_of shown) = record { horizon = short; row = in_row; spelled = refl } in
      let inside = map line_text (section_lines shown.section) in
      let (last, found) = section_found shown.section ends (rival_axioms w horizon shown.row) budget (line + 1) looks.tells.fair looks.silent good formed in
      record {
        begins = (key_of shown, reads);
        sections = record { heading = key_of shown; line = line; texts = inside } ∷ next.sections;
        after = next.after;
        leads = (
          rest,
          record {
            text = heading;
            parts = refl;
            line_is = refl;
            reads = reads;
            inside = all_map (λ text. (key : Key) → IsRivalsHeading text key → ⊥) IsWithin line_text unread (section_lines shown.section) (lines_within shown.section ends);
            next = next.begins;
          },
          ((refl, right), tt, (Right words.Empty 0 last, found, refl)),
          subst (λ (n : ℕ). LeadsTo (general_subject w q) (λ _. Unit {0}) (behind (before + 1)) (line + 1 + length inside) rest next.sections (behind n) next.after [])
              (let e : before + 1 + count ≡ before + suc count = omega arith in e) next.leads,
        );
      }

  all_led : (all : List Shown) (before line : ℕ) → IsShort horizon → AllByRecursion IsGoodShown all → IsLed before line (lines_in (flat_map (shown_text horizon) all)) (length all)
  all_led [] before line short good =
      record { begins = tt; sections = []; after = line; leads = (ap behind (let e : before + 0 ≡ before = omega arith in e), refl, refl) }
  all_led (shown ∷ others) before line short good =
      let rest = flat_map (shown_text horizon) others in
      subst (λ (texts : List (List ℕ)). IsLed before line texts (suc (length others))) (sym (section_cut shown rest short good.0))
      (section_led shown before line (length others) (lines_in rest) short good.0
      (all_led others (before + 1) (line + 1 + length (map line_text (section_lines shown.section))) short good.1))

-- ---- the run

each_row : (P : List ℕ → Type 0) (all : List Shown) → ((row : List ℕ) → Contains (map (λ (shown : Shown). shown.row) all) row → P row) →
    AllByRecursion (λ (shown : Shown). P shown.row) all
each_row P [] each = tt
each_row P (shown ∷ others) each =
    let rows = map (λ (one : Shown). one.row) others in
    (each shown.row (in_first shown.row rows), each_row P others (λ row there. each row (in_rest shown.row row rows there)))

none_spent : (horizon : ℕ) (ending : Option GeneralEnding) → IfSome ending IsUnspentEnding → flat_map (spent_text horizon) (optional ending) ≡ []
none_spent horizon None unspent = refl
none_spent horizon (Some Complete) unspent = refl
none_spent horizon (Some Asked) unspent = refl
none_spent horizon (Some NoneAtAll) unspent = refl
none_spent horizon (Some (SpentAmong section)) unspent = absurd unspent
none_spent horizon (Some (SpentOver row section)) unspent = absurd unspent

module _ (law : HistoriesHaveNoRivals) (w : WideDescription) (q : Query) (count : Option ℕ) (budget : ℕ) (run : GeneralRun) (fair : IsFairGeneral w q count budget run) where
  abbrev at : ℕ
  at = general_horizon q run

  -- each row that is told is a candidate of a horizon of the range
  told_right : (row : List ℕ) → Contains (map (λ (shown : Shown). shown.row) run.shown) row → IsCandidateKey w q (record { horizon = at; row = row })
  told_right row there = record {
    least = omega arith;
    most = (fair.opened (λ none. in_none row (subst (λ (all : List Shown). Contains (map (λ (shown : Shown). shown.row) all) row) none there))).0;
    candidate = ((law w q at row).0 (fair.first.each row there)).0;
  }

pub logs_are_accepted : HistoriesHaveNoRivals → GeneralLogsAreAccepted
logs_are_accepted law w q count budget run fair unspent short writable =
    let horizon = general_horizon q run in
    let sections = flat_map (shown_text horizon) run.shown in
    let right = each_row (λ row. IsCandidateKey w q (record { horizon = horizon; row = row })) run.shown (told_right law w q count budget run fair) in
    let led = all_led w q budget horizon run.shown 0 2 short
    (all_both (λ (shown : Shown). IsCandidateKey w q (record { horizon = horizon; row = shown.row }) × IsShownRightly w budget horizon shown) (IsWritableShown w horizon) run.shown
    (all_both (λ (shown : Shown). IsCandidateKey w q (record { horizon = horizon; row = shown.row })) (IsShownRightly w budget horizon) run.shown right fair.each) writable) in
    let same : sections ++ flat_map (spent_text horizon) (optional run.ending) ≡ sections =
    ap (λ (end : List ℕ). sections ++ end) (none_spent horizon run.ending unspent) ∙ append-nil sections in
    let all = length run.shown in
    let last : Place = record { before = 0 + all; is_closed = false } in
    inr (
      refl,
      (
        led.sections,
        last,
        led.after,
        [],
        subst (λ (text : List ℕ). LeadsTo (general_subject w q) (λ _. Unit {0}) (record { before = 0; is_closed = false }) 2 (lines_in text) led.sections last led.after []) (sym same) led.leads,
        ap verdicts.Accepted (let e : all ≡ 0 + all = omega arith in e),
      ),
    )
