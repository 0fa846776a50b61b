-- A run of sure mode that came to its end with an answer: the fair run of the query that it told, and how that ended.
use Rattle.std.proofs.Common.{◌≡◌, ◌∙◌, sym, ap, subst, List, ℕ, Some, inl, inr}
use Rattle.std.proofs.lemmas.Option.{same_Some}
use Rattle.cc_corollaries.specs.Ran.{AskedSurely}
use Rattle.cc_corollaries.proofs.Ended.{ended_so, not_refused, same_query}
use Rattle.cc_defs.specs.Description.{Description}
use Rattle.cc_defs.specs.Resolved.{Query}
use Rattle.cc_describe.specs.Places.{Files, OneListOfPlaces}
use Rattle.cc_list.specs.Answers.{Ended, left_in}
use Rattle.cc_list.specs.Names.{IsAnswer}
use Rattle.cc_list.specs.Tasks.{Named}
use Rattle.cc_list.specs.Wholes.{Left}
use Rattle.cc_ports.specs.Contents.{Contents}
use Rattle.cc_run.specs.Modes.Proving.{NamesQuery}
use Rattle.cc_run.specs.Modes.Surely.{EndsSurely, NamesUnclaimed, named_surely, sure_promise, sure_status, sure_text}
use Rattle.cc_sure.specs.SureRuns.{IsFairSure, SureEnding, SureRun}
use Rattle.cc_tell.specs.declared.status.Status.{Status}
use Rattle.cc_tell.specs.declared.status.Status.TheVariants as statuses
use Rattle.cc_words.specs.Requests.{Surely, ToBeSure}

-- a fair run of a query that ended, and what was printed of it
pub record EndedSurely (d : Description) (q : Query) (status : Status) (out : List ℕ) : Type 0 where
  pub budget : ℕ
  pub run : SureRun
  pub fair : IsFairSure d q budget run
  pub ending : SureEnding
  pub ends : run.ending ≡ Some ending
  pub status_is : status ≡ sure_status ending
  pub out_is : out ≡ sure_text d q run

pub query_named_so : (files : Files) (named : Named) (d : Description) (q : Query) → NamesUnclaimed files named d q → NamesQuery files named d q
query_named_so files named d q is = record { places = is.places; read = is.read; description = is.description; query = is.query; unrefused = is.unrefused }

module _ (files : Files) (surely : Surely) (status : Status) (answer : IsAnswer status) where
  ended_surely : OneListOfPlaces → (d : Description) (q : Query) → NamesUnclaimed files (named_surely surely) d q → (left : Left) →
      Ended files (sure_promise surely) status left → EndedSurely d q status left.given.out
  ended_surely one d q named left ended = elim ended.gives [
    | inl refused ↦ not_refused status answer (same_Some status statuses.Refused (sym ended.ends ∙ refused.ends))
    | inr tells ↦
        let words = named_surely surely in
        let (same_d, same_q) = same_query one files words tells.description d tells.query q (query_named_so files words tells.description tells.query tells.named)
        (query_named_so files words d q named) in
        subst (λ (d : Description). EndedSurely d q status left.given.out) same_d
        (subst (λ (q : Query). EndedSurely tells.description q status left.given.out) same_q
        (elim (subst (EndsSurely tells.description tells.query surely.budget tells.run ended.whole.given.err) ended.ends tells.ends) [
          | inl (ending, is, err, status_is) ↦ record {
            budget = surely.budget;
            run = tells.run;
            fair = tells.fair;
            ending = ending;
            ends = is;
            status_is = status_is;
            out_is = ap (λ (l : Left). l.given.out) ended.left_is ∙ tells.out;
          }
          | inr (refusal, reaches, err, is) ↦ not_refused status answer is
        ]))
  ]

pub surely_run : OneListOfPlaces → (d : Description) (q : Query) (status : Status) (after : Contents) → IsAnswer status → AskedSurely d q status after →
    EndedSurely d q status after.out
surely_run one d q status after answer is =
    ended_surely is.before.files is.surely status answer one d q is.named (left_in after is.ran.answered.log is.ran.begun)
    (ended_so (ToBeSure is.surely) is.before after status answer is.ran)
