use Rattle.std.proofs.Common.{subst, sym}
use Rattle.cc_silent.specs.SureParts.{AreAtomsOf, AtomsView}
use Rattle.cc_silent.proofs.SureChecking.{right_so}
use Rattle.cc_silent.proofs.sure.AtomsSilent.is_right.Goals as goal

pub returns-then-is_tried-clause-right : goal.returns-then-is_tried-clause-right
returns-then-is_tried-clause-right c = λ of is.
    right_so _ of.0 of.1 (subst (λ (s : AtomsView). AreAtomsOf s of.0 of.1) (sym c.self.view_is) is) c.args.heading.now (c.is_tried.ensures.0 c.if-is_tried.true) c.is_atom.result c.is_atom.ensures
