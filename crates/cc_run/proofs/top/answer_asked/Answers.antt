use Rattle.std.proofs.Common.{ap, refl, subst, sym}
use Rattle.cc_words.specs.declared.asked.Asked.{Asked}
use Rattle.cc_words.specs.Requests.{IsWithin}
use Rattle.cc_words.specs.Views.{modelling_by, models_checking_by, plain_request}
use Rattle.cc_run.proofs.Reading.{printed_as, some_request}
use Rattle.cc_run.proofs.top.answer_asked.Goals as goal

pub list-requires-clause-count : goal.list-requires-clause-count
list-requires-clause-count g c = (subst (λ (asked : Asked). IsWithin (plain_request asked)) c.in-List.is c.requires.within).0

pub list-requires-clause-budget : goal.list-requires-clause-budget
list-requires-clause-budget g c = (subst (λ (asked : Asked). IsWithin (plain_request asked)) c.in-List.is c.requires.within).1

pub returns-in-List : goal.returns-in-List
returns-in-List g c = printed_as _ _ _ _ c.list.result (ap some_request (sym c.in-List.is)) c.list.ensures

pub returns-in-Models : goal.returns-in-Models
returns-in-Models g c =
    printed_as _ _ _ _ c.models.result (ap some_request (sym c.in-Models.is)) (c.models.ensures (modelling_by c.in-Models.asked) refl)

pub returns-in-CheckModels : goal.returns-in-CheckModels
returns-in-CheckModels g c =
    printed_as _ _ _ _ c.check.result (ap some_request (sym c.in-CheckModels.is)) (c.check.ensures (models_checking_by c.in-CheckModels.asked) refl)
