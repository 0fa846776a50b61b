use Rattle.std.proofs.Common.{◌<◌, length, sym, subst, arith}
use Rattle.std.specs.List.{AllByRecursion}
use Rattle.cc_form.proofs.Picking.{denied_all, deny_more, denials_below, number_at}
use Rattle.cc_form.proofs.groups.deny_falsity.Goals as goal

pub bounds-bodies-number : goal.bounds-bodies-number
bounds-bodies-number c = number_at c.denials-number-items.result.now (length c.args.bodies.now) c.loop-number.number-index
    (subst (AllByRecursion (λ number. number < length c.args.bodies.now)) (sym c.denials-number-items.ensures) (denials_below c.args.theory.now.rules (length c.args.bodies.now) (sym c.requires))) c.loop-number-test.true

pub loop-number-preserved : goal.loop-number-preserved
loop-number-preserved c = deny_more c.args.store.now.kept c.loop-number.store.kept c.write_one.new.self.kept c.args.bodies.now c.denials-number-items.result.now c.loop-number.number-index
    c.index-bodies-number.result c.opposite.result c.loop-number-test.true
    (number_at c.denials-number-items.result.now (length c.args.bodies.now) c.loop-number.number-index
    (subst (AllByRecursion (λ number. number < length c.args.bodies.now)) (sym c.denials-number-items.ensures) (denials_below c.args.theory.now.rules (length c.args.bodies.now) (sym c.requires))) c.loop-number-test.true)
    c.index-bodies-number.is c.opposite.ensures c.loop-number.invariant c.in_ok-write_one.ensures

pub returns : goal.returns
returns c = denied_all c.args.store.now.kept c.loop-number.store.kept c.args.theory.now.rules c.args.bodies.now c.denials-number-items.result.now c.loop-number.number-index c.requires c.denials-number-items.ensures
    (let least = c.loop-number-test.false in let most = c.loop-number.auto.number-index-end in omega arith) c.loop-number.invariant
