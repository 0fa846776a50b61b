use Rattle.std.proofs.Common.{◌∙◌}
use Rattle.cc_describe.proofs.progress.Progress.enter.Goals as goal

pub returns-clause-number : goal.returns-clause-number
returns-clause-number c = c.len-number.ensures ∙ c.args.self.now.names.ok.0
