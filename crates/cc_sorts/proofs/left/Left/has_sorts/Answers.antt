use Rattle.std.proofs.Common.{◌∙◌, map}
use Rattle.cc_defs.specs.Trees.{plain_shape}
use Rattle.cc_sorts.proofs.Fitting.{symbol_fits, new_fits}
use Rattle.cc_sorts.proofs.left.Left.has_sorts.Goals as goal

pub returns-in-Some : goal.returns-in-Some
returns-in-Some c = λ left is_left.
    c.symbol_fits.ensures
    ∙ symbol_fits c.args.self.now left c.args.action.now.name.now c.in-Some.symbol.now is_left c.in-Some.ensures (map (λ sort. sort.now) c.args.action.now.sorts) (map plain_shape c.args.shapes.now)

pub returns-in-None : goal.returns-in-None
returns-in-None c = λ left is_left.
    c.new_fits.ensures
    ∙ new_fits c.args.self.now left c.args.action.now.name.now is_left c.in-None.ensures (map (λ sort. sort.now) c.args.action.now.sorts) (map plain_shape c.args.shapes.now)
