use Rattle.std.proofs.Common.{inl, inr, is_ok, ap}
use Rattle.cc_form.proofs.Leaving.{IsPastLimit, errs}
use Rattle.cc_form.proofs.writer.Writer.within.Goals as goal

pub returns-in_err-it-clause-refused : goal.returns-in_err-it-clause-refused
returns-in_err-it-clause-refused g c = errs c.from_residual.result c.in_err-it.field-0.0 (IsPastLimit c.args.made c.args.self.now) c.from_residual.ensures.1 (inl c.in_err-it.was)

pub returns-in_err-fits-clause-refused : goal.returns-in_err-fits-clause-refused
returns-in_err-fits-clause-refused g c =
    errs c.from_residual-in_err-fits.result c.in_err-fits.field-0.0 (IsPastLimit c.args.made c.args.self.now) c.from_residual-in_err-fits.ensures.1 (inr (ap is_ok c.in_ok-it.was, c.in_err-fits.ensures.refused))
