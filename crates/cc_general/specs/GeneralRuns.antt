-- Listing by the definition of a model: what a run over candidates tells, and which runs are fair.
use Rattle.std.specs.Prelude.{◌≡◌, ◌≢◌, ◌↔◌, ◌⊎◌, ℕ, ◌+◌, ◌<◌, ◌≤◌, List, [], ◌∷◌, ◌++◌, length, map, Option, Some, None, IsNone, IfSome, Contains}
use Rattle.std.specs.List.{AllByRecursion}
use Rattle.cc_defs.specs.declared.log.EndWord.TheVariants as words
use Rattle.cc_defs.specs.declared.refusal.LimitAt.TheVariants as limits
use Rattle.cc_defs.specs.declared.refusal.Refusal.{Refusal}
use Rattle.cc_defs.specs.Histories.{AreAllOf, AreFirstOf}
use Rattle.cc_defs.specs.Limits.{most_histories}
use Rattle.cc_defs.specs.Refusals.{past}
use Rattle.cc_defs.specs.Resolved.{Query}
use Rattle.cc_defs.specs.Runs.{EndsWith, Section, TellsRows, range_of, rows_of}
use Rattle.cc_rivals.specs.Wides.{candidates_refusal, rivals_refusal}
use Rattle.cc_wide.specs.WideLaws.{WideDescription}
use Rattle.cc_wide.specs.WideLists.{candidate_axioms, rival_axioms}
use Rattle.cc_wide.specs.WideRules.{IsCandidate, IsGeneral, IsRival}

-- ---- the shape of what is told

-- a history, and the section that shows that it has no rival
pub record Shown : Type 0 where
  pub row : List ℕ
  pub section : Section

-- All histories of the horizon were told; as many as were asked for were; no horizon has one; or a search was spent: that among the
-- candidates of the horizon, or that for a rival of this one.
pub data GeneralEnding : Type 0 where
  Complete : GeneralEnding
  Asked : GeneralEnding
  NoneAtAll : GeneralEnding
  SpentAmong : Section → GeneralEnding
  SpentOver : (row : List ℕ) → Section → GeneralEnding

-- A run so far: how many horizons, from the first of the range on, have no history; the histories of the horizon behind them, in
-- order; and the ending, where it has come.
pub record GeneralRun : Type 0 where
  pub empty : ℕ
  pub shown : List Shown
  pub ending : Option GeneralEnding

-- the horizon that a run is at
abbrev pub general_horizon : Query → GeneralRun → ℕ
general_horizon q run = (range_of q).0 + run.empty

abbrev pub rows_shown : GeneralRun → List (List ℕ)
rows_shown run = map (λ shown. shown.row) run.shown

-- ---- runs that tell the truth

abbrev pub HasNoGeneral : WideDescription → Query → ℕ → Type 0
HasNoGeneral w q horizon = (row : List ℕ) → IsGeneral w q horizon row → ⊥

-- a section that looks for a rival of a row, and tells none; its axioms pass no limit
pub record LooksForRival (w : WideDescription) (budget horizon : ℕ) (row : List ℕ) (section : Section) : Type 0 where
  pub within : rivals_refusal w horizon row ≡ None
  pub tells : TellsRows (IsRival w horizon row) (rival_axioms w horizon row) (Some 1) budget section
  pub silent : rows_of section ≡ []

-- no row but this one satisfies its reduct, as its section shows
abbrev pub IsShownRightly : WideDescription → (budget horizon : ℕ) → Shown → Type 0
IsShownRightly w budget horizon shown = LooksForRival w budget horizon shown.row shown.section × EndsWith words.Empty shown.section

-- the histories among these rows, and no others, were told
abbrev pub AreJudged : WideDescription → Query → (horizon : ℕ) → (rows told : List (List ℕ)) → Type 0
AreJudged w q horizon rows told = (row : List ℕ) → Contains told row ↔ (Contains rows row × IsGeneral w q horizon row)

-- The first candidates of a horizon, at most as many as may be listed, whose rivals pass no limit; of them the histories, and no
-- others, were told.
pub record WentThrough (w : WideDescription) (q : Query) (horizon : ℕ) (rows told : List (List ℕ)) : Type 0 where
  pub first : AreFirstOf (IsCandidate w q horizon) rows
  pub few : length rows ≤ most_histories
  pub within : AllByRecursion (λ row. rivals_refusal w horizon row ≡ None) rows
  pub judged : AreJudged w q horizon rows told

-- these are all candidates of the horizon
abbrev pub WentThroughAll : WideDescription → Query → (horizon : ℕ) → (told : List (List ℕ)) → Type 0
WentThroughAll w q horizon told =
    (rows : List (List ℕ)) × WentThrough w q horizon rows told × AreAllOf (IsCandidate w q horizon) rows

-- behind some of them, fewer than may be listed, this candidate comes next
pub record ComesNext (w : WideDescription) (q : Query) (horizon : ℕ) (told : List (List ℕ)) (row : List ℕ) : Type 0 where
  pub rows : List (List ℕ)
  pub gone : WentThrough w q horizon rows told
  pub fewer : length rows < most_histories
  pub first : AreFirstOf (IsCandidate w q horizon) (rows ++ row ∷ [])

-- fewer were told than are asked for
abbrev pub IsWanting : (count : Option ℕ) → GeneralRun → Type 0
IsWanting count run = IfSome count (λ most. length run.shown < most)

-- an ending comes only then
abbrev pub MayEndGeneral : WideDescription → Query → (count : Option ℕ) → (budget : ℕ) → GeneralRun → GeneralEnding → Type 0
MayEndGeneral w q count budget run Complete =
    (run.shown ≢ []) × IsWanting count run × AreAllOf (IsGeneral w q (general_horizon q run)) (rows_shown run)
    × WentThroughAll w q (general_horizon q run) (rows_shown run)
MayEndGeneral w q count budget run Asked = count ≡ Some (length run.shown)
MayEndGeneral w q count budget run NoneAtAll = (run.shown ≡ []) × (general_horizon q run ≡ (range_of q).1 + 1)
MayEndGeneral w q count budget run (SpentAmong section) =
    (general_horizon q run ≤ (range_of q).1) × IsWanting count run
    × TellsRows (IsCandidate w q (general_horizon q run)) (candidate_axioms w q (general_horizon q run)) None budget section
    × WentThrough w q (general_horizon q run) (rows_of section) (rows_shown run) × EndsWith words.Spent section
MayEndGeneral w q count budget run (SpentOver row section) =
    (general_horizon q run ≤ (range_of q).1) × IsWanting count run × ComesNext w q (general_horizon q run) (rows_shown run) row
    × LooksForRival w budget (general_horizon q run) row section × EndsWith words.Spent section

-- A run tells the truth: horizons that are told to have no history have none; the first histories of the next one are told, at most
-- so many as are asked for, each with the section that shows that it has no rival; of its candidates the first were gone through;
-- and it ends only as it may.
pub record IsFairGeneral (w : WideDescription) (q : Query) (count : Option ℕ) (budget : ℕ) (run : GeneralRun) : Type 0 where
  pub claim : IsNone q.claim
  pub none : (horizon : ℕ) → (range_of q).0 ≤ horizon → horizon < general_horizon q run →
      HasNoGeneral w q horizon × (candidates_refusal w q horizon ≡ None) × WentThroughAll w q horizon []
  pub within : general_horizon q run ≤ (range_of q).1 + 1
  pub opened : run.shown ≢ [] → (general_horizon q run ≤ (range_of q).1) × (candidates_refusal w q (general_horizon q run) ≡ None)
  pub first : AreFirstOf (IsGeneral w q (general_horizon q run)) (rows_shown run)
  pub gone : (rows : List (List ℕ)) × WentThrough w q (general_horizon q run) rows (rows_shown run)
  pub each : AllByRecursion (IsShownRightly w budget (general_horizon q run)) run.shown
  pub asked : IfSome count (λ most. length run.shown ≤ most)
  pub ending : IfSome run.ending (MayEndGeneral w q count budget run)

-- ---- limits

-- as many candidates as may be listed were gone through, and there is one more
pub record HasManyCandidates (w : WideDescription) (q : Query) (horizon : ℕ) (told : List (List ℕ)) : Type 0 where
  pub rows : List (List ℕ)
  pub gone : WentThrough w q horizon rows told
  pub many : length rows ≡ most_histories
  pub further : List ℕ
  pub first : AreFirstOf (IsCandidate w q horizon) (rows ++ further ∷ [])

-- the first limit that is passed: by the candidates of the horizon, by the rivals of the next of them, or by how many there are
abbrev pub IsGeneralLimit : WideDescription → Query → GeneralRun → Refusal → Type 0
IsGeneralLimit w q run refusal =
    ((run.shown ≡ []) × (candidates_refusal w q (general_horizon q run) ≡ Some refusal))
    ⊎ (((row : List ℕ) × ComesNext w q (general_horizon q run) (rows_shown run) row × (rivals_refusal w (general_horizon q run) row ≡ Some refusal))
    ⊎ ((refusal ≡ past limits.Histories) × HasManyCandidates w q (general_horizon q run) (rows_shown run)))

-- a run that has not ended, at a horizon of the range, comes to this limit
pub record ReachesGeneralLimit (w : WideDescription) (q : Query) (count : Option ℕ) (run : GeneralRun) (refusal : Refusal) : Type 0 where
  pub open_yet : IsNone run.ending
  pub horizon : general_horizon q run ≤ (range_of q).1
  pub more : IsWanting count run
  pub limit : IsGeneralLimit w q run refusal
