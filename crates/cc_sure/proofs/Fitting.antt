-- What a fair run tells is of its horizon: rows are rows of it, and the answers of a position are those of its values.
use Rattle.std.proofs.Common.{◌≡◌, ◌∙◌, sym, ap, subst, ℕ, zero, suc, ◌+◌, ◌≤◌, List, [], ◌∷◌, ◌++◌, length, map, Option, Some, None, IfSome, slice_get}
use Rattle.std.specs.List.{AllByRecursion}
use Rattle.cc_defs.specs.Conditions.{IsSignatureOfDescription}
use Rattle.cc_defs.specs.Description.{Description, sizes_at}
use Rattle.cc_defs.specs.Histories.{AreFirst, AreFirstOf, IsHistory}
use Rattle.cc_defs.specs.Paths.{IsPath}
use Rattle.cc_defs.specs.Resolved.{Query}
use Rattle.cc_defs.specs.Rows.{IsRow}
use Rattle.cc_defs.specs.Runs.{optional, range_of}
use Rattle.cc_defs.specs.Signatures.{Signature}
use Rattle.cc_lists.proofs.Members.{all_append, all_behind}
use Rattle.cc_lists.proofs.Positions.{sizes_are}
use Rattle.cc_lists.proofs.Members.{in_first}
use Rattle.cc_sure.specs.declared.turn.SureTurn.{SureTurn}
use Rattle.cc_sure.specs.declared.turn.SureTurn.TheVariants as turns
use Rattle.cc_silent.specs.Sought.{IsSought, PassesNoLimit, Sought, Any, With}
use Rattle.cc_sure.specs.SureRuns.{AreTrueSettled, AreTrueTried, IsFairSure, Settled, SureEnding, SureRun, Tried, Known, Shown, Never, settled_examples, shown_at, sought_next, sure_horizon}
use Rattle.cc_sure.specs.SureSteps.{IsOfHorizon}
use Rattle.cc_sure.specs.SureTold.{SureTold, NoneAt, ExampleIs, NeverSo, AnswersAre, Ends, none_told, settled_told, sure_told, tried_told}
use Rattle.cc_sure.proofs.Saying.{Says}

abbrev IsTrueTold : Description → ℕ → SureTold → Type 0
IsTrueTold d horizon (NoneAt empty) = Unit {0}
IsTrueTold d horizon (ExampleIs number row) = IsRow (sizes_at d horizon) row
IsTrueTold d horizon (NeverSo position value section) = Unit {0}
IsTrueTold d horizon (AnswersAre position answers) = slice_get (sizes_at d horizon) position ≡ Some (length answers)
IsTrueTold d horizon (Ends sought ending) = Unit {0}

path_row : (d : Description) (horizon : ℕ) (row : List ℕ) → IsPath d horizon row → IsRow (sizes_at d horizon) row
path_row d zero row is = is.interprets
path_row d (suc horizon) row is = is.0

module _ (d : Description) (horizon : ℕ) where
  abbrev AreTrue : List SureTold → Type 0
  AreTrue told = AllByRecursion (IsTrueTold d horizon) told

  true_both : (a b : List SureTold) → AreTrue a → AreTrue b → AreTrue (a ++ b)
  true_both a b first second = all_append (IsTrueTold d horizon) a b first second

  true_none : (first count : ℕ) → AreTrue (none_told first count)
  true_none first zero = tt
  true_none first (suc count) = (tt, true_none (first + 1) count)

  module _ (q : Query) (budget : ℕ) where
    row_of : (sought : Sought) (row : List ℕ) → IsSought d q horizon sought row → IsRow (sizes_at d horizon) row
    row_of Any row is = path_row d horizon row is.path
    row_of (With position value) row is = path_row d horizon row is.0.path

    only_row : (sought : Sought) (row : List ℕ) → AreFirstOf (IsSought d q horizon sought) (row ∷ []) → IsRow (sizes_at d horizon) row
    only_row sought row first = row_of sought row (first.each row (in_first row []))

    true_tried : (examples : List (List ℕ)) (count position value : ℕ) (tried : List Tried) → AreTrueTried d q budget horizon examples position value tried →
        AreTrue (tried_told count position value tried)
    true_tried examples count position value [] are = tt
    true_tried examples count position value (Known ∷ others) are = true_tried (examples ++ []) count position (value + 1) others are.2
    true_tried examples count position value (Shown row ∷ others) are =
        (only_row (With position value) row are.1.1, true_tried (examples ++ row ∷ []) (count + 1) position (value + 1) others are.2)
    true_tried examples count position value (Never section ∷ others) are = (tt, true_tried (examples ++ []) count position (value + 1) others are.2)

    true_settled : (examples : List (List ℕ)) (count position : ℕ) (done : List Settled) → AreTrueSettled d q budget horizon examples position done →
        AreTrue (settled_told count position done)
    true_settled examples count position [] are = tt
    true_settled examples count position (settled ∷ others) are =
        true_both (tried_told count position 0 settled.tried) _ (true_tried examples count position 0 settled.tried are.0.each)
        (are.0.all_tried ∙ ap Some (sym are.0.all_answered), true_settled (examples ++ shown_at settled) (count + length (shown_at settled)) (position + 1) others are.1)

  true_first : (q : Query) (first : Option (List ℕ)) → IfSome first (λ row. AreFirstOf (IsHistory d q horizon None) (row ∷ [])) → AreTrue (map (ExampleIs 1) (optional first))
  true_first q None is = tt
  true_first q (Some row) is = (only_row q 0 Any row is, tt)

  true_end : (sought : Sought) (ending : Option SureEnding) → AreTrue (map (Ends sought) (optional ending))
  true_end sought None = tt
  true_end sought (Some ending) = (tt, tt)

all_true : (d : Description) (q : Query) (budget : ℕ) (run : SureRun) → IsFairSure d q budget run → AreTrue d (sure_horizon q run) (sure_told q run)
all_true d q budget run fair =
    let horizon = sure_horizon q run in
    true_both d horizon _ _ (true_both d horizon _ _ (true_both d horizon _ _ (true_both d horizon _ _
    (true_none d horizon (range_of q).0 run.empty)
    (true_first d horizon q run.first (first_rows run.first fair.first)))
    (true_settled d horizon q budget (optional run.first) (length (optional run.first)) 0 run.done fair.done))
    (true_tried d horizon q budget (settled_examples run) (length (settled_examples run)) (length run.done) 0 run.next fair.next))
    (true_end d horizon (sought_next run run.first) run.ending)
  where
    first_rows : (first : Option (List ℕ)) →
        IfSome first (λ row. (sure_horizon q run ≤ (range_of q).1) × AreFirst d q (sure_horizon q run) None (row ∷ []) × PassesNoLimit d q (sure_horizon q run) Any) →
        IfSome first (λ row. AreFirstOf (IsHistory d q (sure_horizon q run) None) (row ∷ []))
    first_rows None is = tt
    first_rows (Some row) is = is.1

of_horizon : (d : Description) (signature : Signature) → IsSignatureOfDescription d signature → (horizon : ℕ) (turn : SureTurn) (told : SureTold) → Says turn told →
    IsTrueTold d horizon told → IsOfHorizon signature horizon turn
of_horizon d signature of horizon (turns.NoHistory empty) told is so = tt
of_horizon d signature of horizon (turns.Example number row) told is so =
    subst (λ (sizes : List ℕ). IsRow sizes row) (sym (sizes_are d signature of horizon)) (subst (IsTrueTold d horizon) is so)
of_horizon d signature of horizon (turns.Impossible position value lines) told is so = tt
of_horizon d signature of horizon (turns.Answers position answers) told is so =
    ap (λ (sizes : List ℕ). slice_get sizes position) (sizes_are d signature of horizon) ∙ subst (IsTrueTold d horizon) is so
of_horizon d signature of horizon turns.Complete told is so = tt
of_horizon d signature of horizon turns.NoneAtAll told is so = tt
of_horizon d signature of horizon (turns.Spent atom lines) told is so = tt

-- the turn behind what a fair run told
pub turn_fits : (d : Description) (q : Query) (budget : ℕ) (signature : Signature) → IsSignatureOfDescription d signature → (before : List SureTold) (after : SureRun) (horizon : ℕ)
    (turn : SureTurn) (told : SureTold) → IsFairSure d q budget after → horizon ≡ sure_horizon q after → Says turn told → sure_told q after ≡ before ++ told ∷ [] →
    IsOfHorizon signature horizon turn
turn_fits d q budget signature of before after horizon turn told fair at is all =
    let last = all_behind (IsTrueTold d (sure_horizon q after)) before (told ∷ [])
    (subst (λ (l : List SureTold). AreTrue d (sure_horizon q after) l) all (all_true d q budget after fair)) in
    of_horizon d signature of horizon turn told is (subst (λ (h : ℕ). IsTrueTold d h told) (sym at) last.0)
