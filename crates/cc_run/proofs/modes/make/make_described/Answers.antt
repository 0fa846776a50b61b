use Rattle.std.proofs.Common.{[], None, refl}
use Rattle.cc_describe.specs.declared.heads.Heads.TheVariants as heads
use Rattle.cc_list.proofs.Described.{description_is, is_read, task_read}
use Rattle.cc_list.specs.Tasks.{description_in}
use Rattle.cc_run.proofs.Made.{whatever}
use Rattle.cc_run.proofs.Reading.{names_refuse, prints_fault}
use Rattle.cc_run.specs.Modes.Making.{making_promise}
use Rattle.cc_run.specs.Naming.{made_files, made_named}
use Rattle.cc_run.proofs.modes.make.make_described.Goals as goal

pub sum_up-requires-clause-of : goal.sum_up-requires-clause-of
sum_up-requires-clause-of g c =
    let says = c.requires.says in
    let is = description_is says.0 c.args.described.now says.2 in
    let named = c.in-Ok.ensures.named (description_in says.0) is in
    (description_in says.0, named.0, is, named.1)

pub returns-in-Ok : goal.returns-in-Ok
returns-in-Ok g c =
    let of = is_read heads.Definite (g.D.Desk.seen c.args.desk.now).told (λ _. made_files c.args.size) made_named.file c.args.described.now c.requires.says (whatever _ c.requires.describes) in
    let is = description_is of.places c.args.described.now of.said in
    let named = c.in-Ok.ensures.named (description_in of.places) is in
    c.sum_up.ensures (description_in of.places) named.0 is named.1
    (task_read _ (λ _. made_files c.args.size) made_named c.args.described.now of named.0 _ named.2 None c.args.budget)

pub returns : goal.returns
returns g c =
    let of = is_read heads.Definite (g.D.Desk.seen c.args.desk.now).told (λ _. made_files c.args.size) made_named.file c.args.described.now c.requires.says (whatever _ c.requires.describes) in
    let refused = c.in-Err.ensures.refused (description_in of.places) (description_is of.places c.args.described.now of.said) in
    prints_fault (making_promise c.args.size c.args.budget) _ [] c.args.described.now.files c.in-Err.fault _ _ c.refuse_fault.result tt
    (names_refuse _ (λ _. made_files c.args.size) made_named c.args.described.now of c.in-Err.fault refused) c.refuse_fault.ensures
