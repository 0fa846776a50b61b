use Rattle.std.proofs.Common.{[], refl}
use Rattle.cc_list.specs.Promises.{refused_words}
use Rattle.cc_list.specs.Tasks.{refusal_without_place}
use Rattle.cc_list.proofs.Outcomes.{prints_refusal, prints_unopened, refused_known}
use Rattle.cc_list.proofs.WholeRuns.{refused_may, runs_ended, runs_stopped}
use Rattle.cc_list.proofs.running.refuse_words.Goals as goal

pub returns-in-Ok : goal.returns-in-Ok
returns-in-Ok g c =
    runs_ended refused_words _ _ c.refuse.result _ c.in-Ok.is refused_may (prints_unopened refused_words _ _ _ c.refuse.result (λ files. refl)
    (prints_refusal refused_words _ [] c.at.result [] _ _ c.refuse.result refl
    (rw c.at.ensures (refused_known _ refused_words (refusal_without_place 1) [] (λ files. (refl, refl))))
    c.refuse.ensures.told c.refuse.ensures.status))

pub returns-in-Err : goal.returns-in-Err
returns-in-Err g c =
    runs_stopped refused_words _ _ _ c.refuse.result _ _ c.in-Err.is (prints_unopened refused_words _ _ _ c.refuse.result (λ files. refl)
    (prints_refusal refused_words _ [] c.at.result [] _ _ c.refuse.result refl
    (rw c.at.ensures (refused_known _ refused_words (refusal_without_place 1) [] (λ files. (refl, refl))))
    c.refuse.ensures.told c.refuse.ensures.status)) c.tell_stop.ensures
