-- The corollaries of sure mode, each from the run that it told.
use Rattle.std.proofs.Common.{◌≡◌, ◌∙◌, refl, sym, ap, subst, ℕ, ◌+◌, ◌≤◌, List, [], ◌∷◌, map, Option, Some, None, arith}
use Rattle.std.specs.Prelude.{IfSome, IsSome, IsSomeAnd, flat_map, slice_get}
use Rattle.std.specs.List.{All}
use Rattle.std.proofs.lemmas.List.{length-map}
use Rattle.std.proofs.lemmas.List.Elements.{All-cons}
use Rattle.std.proofs.lemmas.Option.{slice_get_within}
use Rattle.cc_corollaries.specs.Corollaries.{NoneBelow}
use Rattle.cc_corollaries.specs.Values.{AllSo, AreAnswered, examples_in, NothingSureMeansNone, SureMeansSo}
use Rattle.cc_corollaries.proofs.Nones.{none_meets}
use Rattle.cc_corollaries.proofs.Surely.{surely_run}
use Rattle.cc_corollaries.proofs.Valued.{all_found, are_examples, finished, finished_out, found_in, of_settled, only_first, so_position}
use Rattle.cc_defs.specs.Description.{Description, sizes_at}
use Rattle.cc_defs.specs.Histories.{AreFirst, IsHistory}
use Rattle.cc_defs.specs.Resolved.{Query}
use Rattle.cc_defs.specs.Runs.{optional, range_of}
use Rattle.cc_describe.specs.Places.{OneListOfPlaces}
use Rattle.cc_run.specs.Modes.Surely.{sure_status, sure_text}
use Rattle.cc_silent.specs.Sought.{Any, PassesNoLimit}
use Rattle.cc_sure.specs.SureRuns.{AreTrueSettled, Complete, IsFairSure, MayEndSure, NoneAtAll, Spent, SureEnding, SureRun, shown_at, sure_horizon}
use Rattle.cc_tell.specs.declared.status.Status.TheVariants as statuses

-- ---- by its status, how a run ended

complete_of : (ending : SureEnding) → statuses.Right ≡ sure_status ending → ending ≡ Complete
complete_of Complete code = refl
complete_of NoneAtAll code = absurd cc
complete_of (Spent section) code = absurd cc

none_of_all : (ending : SureEnding) → statuses.Not ≡ sure_status ending → ending ≡ NoneAtAll
none_of_all Complete code = absurd cc
none_of_all NoneAtAll code = refl
none_of_all (Spent section) code = absurd cc

some_first : (first : Option (List ℕ)) → IsSome first → (row : List ℕ) × (first ≡ Some row)
some_first None some = absurd cc
some_first (Some row) some = (row, refl)

module _ (d : Description) (q : Query) (budget : ℕ) (run : SureRun) (fair : IsFairSure d q budget run) where
  may_end : (ending : SureEnding) → run.ending ≡ Some ending → MayEndSure d q budget run ending
  may_end ending ends = subst (λ (o : Option SureEnding). IfSome o (MayEndSure d q budget run)) ends fair.ending

  below : NoneBelow d q (sure_horizon q run)
  below horizon least low = (fair.none horizon least low).0

-- ---- what it means

pub nothing_sure : OneListOfPlaces → NothingSureMeansNone
nothing_sure one d q after asked horizon (least, most) =
    let ran = surely_run one d q statuses.Not after tt asked in
    let ends = ran.ends ∙ ap Some (none_of_all ran.ending ran.status_is) in
    let behind : sure_horizon q ran.run ≡ (range_of q).1 + 1 = (may_end d q ran.budget ran.run ran.fair NoneAtAll ends).1 in
    none_meets d q horizon ran.fair.claim (below d q ran.budget ran.run ran.fair horizon least (omega arith))

pub sure_so : OneListOfPlaces → SureMeansSo
sure_so one d q after asked =
    let ran = surely_run one d q statuses.Right after tt asked in
    let run = ran.run in
    let fair = ran.fair in
    let horizon = sure_horizon q run in
    let ends = ran.ends ∙ ap Some (complete_of ran.ending ran.status_is) in
    let (some, all, no_more) = may_end d q ran.budget run fair Complete ends in
    let (row, is) = some_first run.first some in
    let (most, first, within) = subst (λ (o : Option (List ℕ)). IfSome o (λ row. (horizon ≤ (range_of q).1) × AreFirst d q horizon None (row ∷ []) × PassesNoLimit d q horizon Any)) is fair.first in
    let done = subst (λ (o : Option (List ℕ)). AreTrueSettled d q ran.budget horizon (optional o) 0 run.done) is fair.done in
    let Is = IsHistory d q horizon None in
    let told = map of_settled run.done in
    let shown = flat_map shown_at run.done in
    let examples = examples_in row told in
    let whole : row ∷ shown ≡ examples = ap (λ (l : List (List ℕ)). row ∷ l) (found_in run.done) in
    let are = subst (All Is) whole (All-cons Is row shown (only_first Is row first) (all_found d q ran.budget horizon (row ∷ []) 0 run.done done)) in
    let last : run ≡ finished run.empty row run.done = λ i. record { empty = run.empty; first = is i; done = run.done; next = no_more i; ending = ends i } in
    let answered : AreAnswered d q horizon examples told = λ position size at.
    let z : 0 + position ≡ position = omega arith in
    let inside = slice_get_within (sizes_at d horizon) position size at in
    subst (λ (n : ℕ). IsSomeAnd (slice_get told position) (λ one. AllSo d q horizon examples n size one.answers)) z
    (so_position d q ran.budget horizon fair.claim examples are (row ∷ []) 0 run.done (sym whole) done position size (omega arith)
    (ap (slice_get (sizes_at d horizon)) z ∙ at)) in (
      horizon,
      row,
      told,
      (omega arith, most),
      below d q ran.budget run fair,
      first,
      length-map run.done of_settled ∙ all,
      are_examples d q ran.budget horizon examples are,
      answered,
      ran.out_is ∙ ap (sure_text d q) last ∙ finished_out d q run.empty row run.done,
    )
