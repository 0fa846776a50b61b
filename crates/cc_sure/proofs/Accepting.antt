-- The log of a fair run in which no search was spent is accepted.
use Rattle.std.proofs.Common.{◌≡◌, ◌∙◌, ℕ, zero, suc, ◌+◌, ◌≤◌, ◌⊎◌, inl, inr, List, [], ◌∷◌, ◌++◌, map, flat_map, length, Option, Some, None, refl, sym, subst, ap, arith, append_assoc}
use Rattle.std.specs.Prelude.{IfSome, IsNone, false}
use Rattle.std.specs.List.{AllByRecursion}
use Rattle.cc_check.specs.declared.silent.Place.{Place}
use Rattle.cc_check.specs.declared.silent.SilentVerdict.TheVariants as verdicts
use Rattle.cc_check.specs.Silent.{BeginsSection, LeadsTo, SilentSection}
use Rattle.cc_defs.specs.declared.log.EndWord.TheVariants as words
use Rattle.cc_defs.specs.Description.{Description}
use Rattle.cc_defs.specs.Histories.{AreFirst}
use Rattle.cc_defs.specs.LogTexts.{IsShort, line_text, lines_in}
use Rattle.cc_defs.specs.Resolved.{Query}
use Rattle.cc_defs.specs.Runs.{Section, EndsWith, optional, range_of}
use Rattle.cc_defs.specs.Sections.{Right}
use Rattle.cc_lists.specs.Sections.{section_lines}
use Rattle.cc_lists.proofs.AcceptedEmpty.{lines_within, section_found}
use Rattle.cc_lists.proofs.AcceptedLines.{lines_cut}
use Rattle.cc_lists.proofs.Members.{all_append, all_both}
use Rattle.cc_silent.specs.declared.sure.AtomHeading.{AtomHeading}
use Rattle.cc_sure.specs.Accepted.{IsUnspent, IsUnspentEnding, IsWritableTold, SureLogsAreAccepted, never_of}
use Rattle.cc_silent.specs.Sought.{PassesNoLimit, Sought, Any, With, sought_axioms}
use Rattle.cc_silent.specs.SureLogs.{IsAtomHeading, IsInRange, atom_heading, sure_subject}
use Rattle.cc_sure.specs.SureRuns.{Settled, SureEnding, Complete, NoneAtAll, Spent, SureRun, Tried, Known, Shown, Never, AreTrueSettled, AreTrueTried, IsFairSure, LooksFor, settled_examples, shown_at, sought_next, sure_horizon}
use Rattle.cc_sure.specs.SureTold.{SureTold, NoneAt, ExampleIs, NeverSo, AnswersAre, Ends, none_told, settled_told, sure_lines, sure_told, tried_told}
use Rattle.cc_sure.proofs.AtomLines.{all_unread, heading_cut}

module _ (d : Description) (q : Query) (budget horizon : ℕ) where
  abbrev heading_at : (position value : ℕ) → AtomHeading
  heading_at position value = record { horizon = horizon; position = position; value = value }

  -- ---- what a fair run tells

  -- what it tells of an atom of a horizon of the range is true, and it tells of no search that was spent
  abbrev IsTrueTold : SureTold → Type 0
  IsTrueTold (NoneAt empty) = Unit {0}
  IsTrueTold (ExampleIs number row) = Unit {0}
  IsTrueTold (NeverSo position value section) =
      IsInRange d q (heading_at position value) × LooksFor d q budget horizon (With position value) section × EndsWith words.Empty section
  IsTrueTold (AnswersAre position answers) = Unit {0}
  IsTrueTold (Ends sought Complete) = Unit {0}
  IsTrueTold (Ends sought NoneAtAll) = Unit {0}
  IsTrueTold (Ends sought (Spent section)) = ⊥

  none_true : (from count : ℕ) → AllByRecursion IsTrueTold (none_told from count)
  none_true from zero = tt
  none_true from (suc count) = (tt, none_true (from + 1) count)

  first_true : (first : Option (List ℕ)) → AllByRecursion IsTrueTold (map (ExampleIs 1) (optional first))
  first_true None = tt
  first_true (Some row) = (tt, tt)

  ending_true : (sought : Sought) (ending : Option SureEnding) → IfSome ending IsUnspentEnding → AllByRecursion IsTrueTold (map (Ends sought) (optional ending))
  ending_true sought None unspent = tt
  ending_true sought (Some Complete) unspent = (tt, tt)
  ending_true sought (Some NoneAtAll) unspent = (tt, tt)
  ending_true sought (Some (Spent section)) unspent = absurd unspent

  module _ (least : (range_of q).0 ≤ horizon) (most : horizon ≤ (range_of q).1) where
    tried_true : (examples : List (List ℕ)) (count position value : ℕ) (tried : List Tried) → AreTrueTried d q budget horizon examples position value tried →
        AllByRecursion IsTrueTold (tried_told count position value tried)
    tried_true examples count position value [] are = tt
    tried_true examples count position value (Known ∷ others) (atom, is, are) = tried_true (examples ++ []) count position (value + 1) others are
    tried_true examples count position value (Shown row ∷ others) (atom, is, are) = (tt, tried_true (examples ++ row ∷ []) (count + 1) position (value + 1) others are)
    tried_true examples count position value (Never section ∷ others) (atom, is, are) = (
      (record { least = least; most = most; atom = atom }, is.1, is.2),
      tried_true (examples ++ []) count position (value + 1) others are,
    )

    settled_true : (examples : List (List ℕ)) (count position : ℕ) (done : List Settled) → AreTrueSettled d q budget horizon examples position done →
        AllByRecursion IsTrueTold (settled_told count position done)
    settled_true examples count position [] are = tt
    settled_true examples count position (settled ∷ others) (is, are) =
        all_append IsTrueTold (tried_told count position 0 settled.tried)
        (AnswersAre position settled.answers ∷ settled_told (count + length (shown_at settled)) (position + 1) others)
        (tried_true examples count position 0 settled.tried is.each)
        (tt, settled_true (examples ++ shown_at settled) (count + length (shown_at settled)) (position + 1) others are)

  -- ---- such a log is accepted

  abbrev IsGoodTold : SureTold → Type 0
  IsGoodTold told = IsTrueTold told × IsWritableTold d q horizon told

  abbrev behind : ℕ → Place
  behind before = record { before = before; is_closed = false }

  -- the texts from a line on, behind so many sections: sections, as many as atoms are told to be impossible
  record IsLed (before line : ℕ) (texts : List (List ℕ)) (count : ℕ) : Type 0 where
    pub begins : BeginsSection (sure_subject d q) texts
    pub sections : List (SilentSection AtomHeading)
    pub after : ℕ
    pub leads : LeadsTo (sure_subject d q) (λ _. Unit {0}) (behind before) line texts sections (behind (before + count)) after []

  abbrev texts_of : List SureTold → List (List ℕ)
  texts_of told = lines_in (flat_map (sure_lines horizon) told)

  abbrev count_of : List SureTold → ℕ
  count_of told = length (flat_map never_of told)

  -- the text of a section and what is behind it
  section_cut : (position value : ℕ) (section : Section) (rest : List ℕ) → IsShort horizon → IsGoodTold (NeverSo position value section) →
      lines_in (sure_lines horizon (NeverSo position value section) ++ rest) ≡ atom_heading horizon position value ∷ (map line_text (section_lines section) ++ lines_in rest)
  section_cut position value section rest short (is, (in_row, at_value, formed, good)) =
      let heading = atom_heading horizon position value in
      let inside = flat_map line_text (section_lines section) in
      ap lines_in (append_assoc heading inside rest) ∙ heading_cut horizon position value (inside ++ rest) short in_row at_value
      ∙ ap (λ (texts : List (List ℕ)). heading ∷ texts) (lines_cut (section_lines section) rest formed)

  section_led : (position value : ℕ) (section : Section) (others : List SureTold) (before line : ℕ) → IsShort horizon → IsGoodTold (NeverSo position value section) →
      IsLed (before + 1) (line + 1 + length (map line_text (section_lines section))) (texts_of others) (count_of others) →
      IsLed before line (atom_heading horizon position value ∷ (map line_text (section_lines section) ++ texts_of others)) (suc (count_of others))
  section_led position value section others before line short good next =
      let heading = heading_at position value in
      let ((range, looks, ends), (in_row, at_value, formed, good_axioms)) = good in
      let reads : IsAtomHeading (atom_heading horizon position value) heading = record { horizon = short; position = in_row; value = at_value; spelled = refl } in
      let inside = map line_text (section_lines section) in
      let (last, found) = section_found section ends (sought_axioms d q horizon (With position value)) budget (line + 1) looks.tells.fair looks.silent good_axioms formed in
      record {
        begins = (heading, reads);
        sections = record { heading = heading; line = line; texts = inside } ∷ next.sections;
        after = next.after;
        leads = (
          texts_of others,
          record {
            text = atom_heading horizon position value;
            parts = refl;
            line_is = refl;
            reads = reads;
            inside = all_unread (section_lines section) (lines_within section ends);
            next = next.begins;
          },
          ((refl, range), tt, (Right words.Empty 0 last, found, refl)),
          subst (λ (n : ℕ). LeadsTo (sure_subject d q) (λ _. Unit {0}) (behind (before + 1)) (line + 1 + length inside) (texts_of others) next.sections (behind n) next.after [])
              (let e : before + 1 + count_of others ≡ before + suc (count_of others) = omega arith in e) next.leads,
        );
      }

  told_led : (told : List SureTold) (before line : ℕ) → IsShort horizon → AllByRecursion IsGoodTold told → IsLed before line (texts_of told) (count_of told)
  told_led [] before line short good =
      record { begins = tt; sections = []; after = line; leads = (ap behind (let e : before + 0 ≡ before = omega arith in e), refl, refl) }
  told_led (NoneAt empty ∷ others) before line short good = told_led others before line short good.1
  told_led (ExampleIs number row ∷ others) before line short good = told_led others before line short good.1
  told_led (AnswersAre position answers ∷ others) before line short good = told_led others before line short good.1
  told_led (Ends sought Complete ∷ others) before line short good = told_led others before line short good.1
  told_led (Ends sought NoneAtAll ∷ others) before line short good = told_led others before line short good.1
  told_led (Ends sought (Spent section) ∷ others) before line short good = absurd good.0.0
  told_led (NeverSo position value section ∷ others) before line short good =
      subst (λ (texts : List (List ℕ)). IsLed before line texts (suc (count_of others)))
      (sym (section_cut position value section (flat_map (sure_lines horizon) others) short good.0))
      (section_led position value section others before line short good.0 (told_led others (before + 1) (line + 1 + length (map line_text (section_lines section))) short good.1))

-- ---- the run

-- the horizon of a run that has told of an atom is one of the range
in_range : (d : Description) (q : Query) (at : ℕ) (run : SureRun) (first : Option (List ℕ)) →
    IfSome first (λ row. (at ≤ (range_of q).1) × AreFirst d q at None (row ∷ []) × PassesNoLimit d q at Any) →
    (IsNone first → (run.done ≡ []) × (run.next ≡ [])) → (at ≤ (range_of q).1) ⊎ ((run.done ≡ []) × (run.next ≡ []))
in_range d q at run None is begun = inr (begun refl)
in_range d q at run (Some row) is begun = inl is.0

may_tell : (d : Description) (q : Query) (budget : ℕ) (run : SureRun) → IsFairSure d q budget run →
    (sure_horizon q run ≤ (range_of q).1) ⊎ ((run.done ≡ []) × (run.next ≡ []))
may_tell d q budget run fair = in_range d q (sure_horizon q run) run run.first fair.first fair.begun

module _ (d : Description) (q : Query) (budget : ℕ) (run : SureRun) (fair : IsFairSure d q budget run) where
  abbrev at : ℕ
  at = sure_horizon q run

  abbrev IsTrue : SureTold → Type 0
  IsTrue told = IsTrueTold d q budget at told

  middle_true : (first_count all_count : ℕ) → (at ≤ (range_of q).1) ⊎ ((run.done ≡ []) × (run.next ≡ [])) →
      AllByRecursion IsTrue (settled_told first_count 0 run.done) × AllByRecursion IsTrue (tried_told all_count (length run.done) 0 run.next)
  middle_true first_count all_count (inl most) =
      let least : (range_of q).0 ≤ at = omega arith in (
        settled_true d q budget at least most (optional run.first) first_count 0 run.done fair.done,
        tried_true d q budget at least most (settled_examples run) all_count (length run.done) 0 run.next fair.next,
      )
  middle_true first_count all_count (inr (no_done, no_next)) = (
    subst (λ (done : List Settled). AllByRecursion IsTrue (settled_told first_count 0 done)) (sym no_done) tt,
    subst (λ (next : List Tried). AllByRecursion IsTrue (tried_told all_count (length run.done) 0 next)) (sym no_next) tt,
  )

  told_true : IsUnspent run → AllByRecursion IsTrue (sure_told q run)
  told_true unspent =
      let none = none_told (range_of q).0 run.empty in
      let first = map (ExampleIs 1) (optional run.first) in
      let settled = settled_told (length (optional run.first)) 0 run.done in
      let tried = tried_told (length (settled_examples run)) (length run.done) 0 run.next in
      let ends = map (Ends (sought_next run run.first)) (optional run.ending) in
      let (settled_is, tried_is) = middle_true (length (optional run.first)) (length (settled_examples run)) (may_tell d q budget run fair) in
      all_append IsTrue (((none ++ first) ++ settled) ++ tried) ends
      (all_append IsTrue ((none ++ first) ++ settled) tried
      (all_append IsTrue (none ++ first) settled
      (all_append IsTrue none first (none_true d q budget at (range_of q).0 run.empty) (first_true d q budget at run.first)) settled_is) tried_is)
      (ending_true d q budget at (sought_next run run.first) run.ending unspent)

pub logs_are_accepted : SureLogsAreAccepted
logs_are_accepted d q budget run fair unspent short writable =
    let horizon = sure_horizon q run in
    let told = sure_told q run in
    let led = told_led d q budget horizon told 0 2 short
    (all_both (IsTrueTold d q budget horizon) (IsWritableTold d q horizon) told (told_true d q budget run fair unspent) writable) in
    let count = length (flat_map never_of told) in
    inr (refl, (led.sections, record { before = 0 + count; is_closed = false }, led.after, [], led.leads, ap verdicts.Accepted (let e : count ≡ 0 + count = omega arith in e)))
