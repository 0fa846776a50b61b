use Rattle.std.proofs.Common.{[], map, refl, string_bytes, sym}
use Rattle.cc_run.specs.Promised.{promised}
use Rattle.cc_list.specs.Promises.{refused_words}
use Rattle.cc_list.specs.Tasks.{refusal_without_place, request_of}
use Rattle.cc_list.proofs.Outcomes.{asked_lacking, prints_refusal, prints_unopened, refused_known}
use Rattle.cc_run.proofs.Promised.{some_asked_of}
use Rattle.cc_run.proofs.Reading.{printed_as}
use Rattle.cc_list.proofs.Requests.{asked_is, asked_none, request_within}
use Rattle.cc_run.proofs.top.answer.Goals as goal

pub answer_asked-requires : goal.answer_asked-requires
answer_asked-requires g c =
    let words = map string_bytes c.args.words.now in
    record { within = request_within words _ (asked_is words _ _ c.in_ok-asked.ensures.taken c.in-Some.is) }

pub returns-in-Some : goal.returns-in-Some
returns-in-Some g c =
    let asked = asked_is (map string_bytes c.args.words.now) _ _ c.in_ok-asked.ensures.taken c.in-Some.is in
    printed_as _ _ _ _ c.answer_asked.result (sym asked) c.answer_asked.ensures

pub returns-in-None : goal.returns-in-None
returns-in-None g c =
    let none = asked_none (map string_bytes c.args.words.now) _ c.in_ok-asked.ensures.taken c.in-None.is in
    printed_as _ _ _ _ c.refuse.result (sym none) (prints_unopened refused_words _ _ _ c.refuse.result (λ files. refl)
    (prints_refusal refused_words _ [] c.at.result [] _ _ c.refuse.result refl
    (rw c.at.ensures (refused_known _ refused_words (refusal_without_place 1) [] (λ files. (refl, refl))))
    c.refuse.ensures.told c.refuse.ensures.status))

pub returns-in_err-asked : goal.returns-in_err-asked
returns-in_err-asked g c =
    let words = map string_bytes c.args.words.now in
    asked_lacking (promised words) _ _ c.from_residual.result (some_asked_of c.has_places.ensures (request_of words)) c.from_residual.ensures.1
