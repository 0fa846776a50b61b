use Rattle.std.proofs.Common.{map, refl, string_bytes, subst}
use Rattle.cc_list.specs.Promises.{IsEndStatus}
use Rattle.cc_list.specs.Tasks.{request_of}
use Rattle.cc_list.proofs.Outcomes.{names_ended, names_stopped, run_ended, run_stopped}
use Rattle.cc_run.proofs.Promised.{ends_as_it_may}
use Rattle.cc_list.proofs.Callings.{told_ends_nothing}
use Rattle.cc_run.proofs.top.run.Goals as goal

pub returns-in-Err-clause-answer : goal.returns-in-Err-clause-answer
returns-in-Err-clause-answer g c = run_stopped _ _ _ _ _ _ _ _ c.in-Err.ensures.prints c.tell_stop.ensures

pub returns-in-Ok-clause-answer : goal.returns-in-Ok-clause-answer
returns-in-Ok-clause-answer g c = run_ended _ _ _ _ _ _ _ (ends_as_it_may (request_of (map string_bytes c.args.words.now)) _) c.in-Ok.ensures.prints

pub returns-in-Err-clause-names : goal.returns-in-Err-clause-names
returns-in-Err-clause-names g c = names_stopped _ _ _ _ _ _ _ c.in-Err.ensures c.tell_stop.ensures

pub returns-in-Ok-clause-names : goal.returns-in-Ok-clause-names
returns-in-Ok-clause-names g c = names_ended _ _ _ _ _ c.in-Ok.ensures

pub returns-in-Err-clause-ends : goal.returns-in-Err-clause-ends
returns-in-Err-clause-ends g c = λ is. absurd (told_ends_nothing _ _ _ _ c.tell_stop.ensures is)

pub returns-in-Err-clause-calm : goal.returns-in-Err-clause-calm
returns-in-Err-clause-calm g c = λ is. absurd (told_ends_nothing _ _ _ _ c.tell_stop.ensures is)

pub returns-in-Ok-clause-ends : goal.returns-in-Ok-clause-ends
returns-in-Ok-clause-ends g c = λ _. c.in-Ok.ensures.prints.ends

pub returns-in-Ok-clause-calm : goal.returns-in-Ok-clause-calm
returns-in-Ok-clause-calm g c = λ _. c.in-Ok.ensures.prints.calm refl

pub returns-in-Ok-clause-read_fault : goal.returns-in-Ok-clause-read_fault
returns-in-Ok-clause-read_fault g c = λ is. absurd (subst IsEndStatus is (ends_as_it_may (request_of (map string_bytes c.args.words.now)) _ c.in-Ok.ensures.prints.ends))

pub returns-in-Ok-clause-write_fault : goal.returns-in-Ok-clause-write_fault
returns-in-Ok-clause-write_fault g c = λ is. absurd (subst IsEndStatus is (ends_as_it_may (request_of (map string_bytes c.args.words.now)) _ c.in-Ok.ensures.prints.ends))
