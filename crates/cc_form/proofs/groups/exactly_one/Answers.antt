use Rattle.cc_form.proofs.Choices.{exactly}
use Rattle.cc_form.proofs.groups.exactly_one.Goals as goal

pub returns : goal.returns
returns c = exactly c.no_two_values.result c.args.store.now.kept c.some_value.new.store.kept c.no_two_values.new.store.kept c.args.first c.args.size c.in_ok-some_value.ensures c.no_two_values.ensures
