use Rattle.std.proofs.Common.{◌∙◌, ℕ, ap, arith, map, min}
use Rattle.cc_defs.specs.Resolved.{plain_base_law}
use Rattle.cc_ground.specs.Views.{universe_of}
use Rattle.cc_ground.proofs.Counted.{laws_are, laws_done, laws_more}
use Rattle.cc_ground.proofs.choosing.choices_of_laws.Goals as goal

pub returns : goal.returns
returns c =
    let u = universe_of c.args.table.now c.args.sig.now in
    laws_done u c.args.laws.now c.loop-law.law-index c.loop-law.count c.loop-law.invariant.few (omega arith) c.loop-law.invariant.rest
    ∙ ap (λ (k : ℕ). min k 16000001) (laws_are u (map plain_base_law c.args.laws.now))

pub loop-law-preserved : goal.loop-law-preserved
loop-law-preserved c = record {
  few = omega (arith, c.in_ok-count.ensures.count);
  env = c.in_ok-count.ensures.env ∙ c.loop-law.invariant.env;
  rest = laws_more (universe_of c.args.table.now c.args.sig.now) c.args.laws.now c.loop-law.law-index c.loop-law.count c.in_ok-count.count _ c.law-item.result c.loop-law-test.true c.law-item.is c.in_ok-count.ensures.count c.loop-law.invariant.rest;
}
