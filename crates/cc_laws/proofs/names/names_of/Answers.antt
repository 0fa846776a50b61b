use Rattle.std.proofs.Common.{refl}
use Rattle.cc_laws.proofs.Scopes.{bound_before}
use Rattle.cc_laws.proofs.names.names_of.Goals as goal

pub loop-place-preserved : goal.loop-place-preserved
loop-place-preserved c =
    bound_before c.args.variables.now c.loop-place.place 0 c.loop-place.bindings.items c.push.new.self.items _ c.loop-place-test.true c.loop-place.auto.place refl c.in_ok-push.ensures.items
    c.loop-place.invariant
