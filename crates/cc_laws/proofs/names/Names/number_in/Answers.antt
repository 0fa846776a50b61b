use Rattle.std.proofs.Common.{◌∙◌, [], None, ap}
use Rattle.cc_laws.proofs.Scopes.{found_in, found_inside}
use Rattle.cc_laws.proofs.names.Names.number_in.Goals as goal

pub loop-binding-init : goal.loop-binding-init
loop-binding-init c = ap (λ items. found_in None items c.args.variable) c.deref-binding-items.ensures.value ∙ found_inside [] c.args.self.now.bindings.items c.args.variable
