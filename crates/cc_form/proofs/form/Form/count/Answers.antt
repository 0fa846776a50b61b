use Rattle.std.proofs.Common.{subst}
use Rattle.cc_form.specs.Forms.{IsForm}
use Rattle.cc_form.proofs.form.Form.count.Goals as goal

pub returns-clause-form : goal.returns-clause-form
returns-clause-form c = subst IsForm c.self.view_is c.self.invariant
