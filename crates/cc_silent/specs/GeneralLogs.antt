-- Logs of rivals: their header and headings, which are accepted, and what that shows.
use Rattle.std.specs.Prelude.{◌≡◌, ℕ, ◌≤◌, false, true, List, [], ◌∷◌, ◌++◌, codes, Contains}
use Rattle.std.specs.List.{AllByRecursion}
use Rattle.std.specs.Option.{option_or}
use Rattle.cc_check.specs.Silent.{SilentSubject}
use Rattle.cc_check.specs.declared.silent.SilentVerdict.{SilentVerdict}
use Rattle.cc_check.specs.declared.silent.SilentVerdict.TheVariants as verdicts
use Rattle.cc_defs.specs.declared.lists.Key.{Key}
use Rattle.cc_defs.specs.LogTexts.{IsShort, lines_in}
use Rattle.cc_defs.specs.Resolved.{Query}
use Rattle.cc_defs.specs.Runs.{range_of}
use Rattle.cc_defs.specs.Texts.{key_text}
use Rattle.cc_silent.specs.declared.general_verdict.GeneralVerdict.{GeneralVerdict}
use Rattle.cc_silent.specs.declared.general_verdict.GeneralVerdict.TheVariants as found
use Rattle.cc_rivals.specs.Wides.{candidates_refusal, rivals_refusal}
use Rattle.cc_wide.specs.WideLaws.{WideDescription}
use Rattle.cc_wide.specs.WideLists.{rival_axioms}
use Rattle.cc_wide.specs.WideRules.{IsCandidate, IsGeneral}

abbrev pub general_header : List ℕ
general_header = codes "ccalc general 1" ++ 10 ∷ []

-- the heading of the rivals of a row, with its key
abbrev pub rivals_heading : (horizon : ℕ) → List ℕ → List ℕ
rivals_heading horizon row = codes "u " ++ key_text horizon row ++ 10 ∷ []

-- a text, with its line feed, is that of a heading, whose numbers have at most nine digits
pub record IsRivalsHeading (text : List ℕ) (key : Key) : Type 0 where
  pub horizon : IsShort key.horizon
  pub row : AllByRecursion IsShort key.row
  pub spelled : text ≡ rivals_heading key.horizon key.row

-- it names a candidate of a horizon of the range
pub record IsCandidateKey (w : WideDescription) (q : Query) (key : Key) : Type 0 where
  pub least : (range_of q).0 ≤ key.horizon
  pub most : key.horizon ≤ (range_of q).1
  pub candidate : IsCandidate w q key.horizon key.row

-- What a log of rivals is read as. The first limit is that of the candidates of a heading's horizon, and behind it that of the rivals.
abbrev pub general_subject : WideDescription → Query → SilentSubject Key
general_subject w q = record {
  header = general_header;
  Reads = IsRivalsHeading;
  Right = λ before. IsCandidateKey w q;
  closes = λ key. false;
  may_stay_open = true;
  axioms = λ key. rival_axioms w key.horizon key.row;
  limit = λ key. option_or (candidates_refusal w q key.horizon) (rivals_refusal w key.horizon key.row);
}

-- what is said of a log of rivals, as what is said of a log of silent sections
abbrev pub as_silent : GeneralVerdict → SilentVerdict
as_silent (found.Accepted histories) = verdicts.Accepted histories
as_silent (found.Refused line cause) = verdicts.Refused line cause

-- Where a log is accepted, each row that it names is a history.
abbrev pub ProvesHistories : WideDescription → Query → List ℕ → SilentVerdict → Type 0
ProvesHistories w q bytes verdict = (sections : ℕ) → verdict ≡ verdicts.Accepted sections →
    (key : Key) → Contains (lines_in bytes) (rivals_heading key.horizon key.row) → IsRivalsHeading (rivals_heading key.horizon key.row) key →
    IsGeneral w q key.horizon key.row
