use Rattle.std.proofs.Common.{refl, arith}
use Rattle.std.proofs.lemmas.Grind.{common_steps}
use Rattle.cc_log.proofs.WrittenBytes.{link_next, links_behind, links_before, links_split}
use Rattle.cc_log.proofs.binary.push_chain.Goals as goal

pub loop-number-init : goal.loop-number-init
loop-number-init c = (refl, links_before c.args.own c.args.chain.now c.requires)

pub link_of-requires : goal.link_of-requires
link_of-requires c = (links_split c.loop-number.names c.args.own c.args.chain.now c.loop-number.number-index _ c.loop-number-test.true c.loop-number.invariant.1).0

pub loop-number-preserved : goal.loop-number-preserved
loop-number-preserved c = (
  link_next c.loop-number.names c.args.own c.args.chain.now c.loop-number.number-index 0 c.link_of.result c.loop-number.bytes.items c.push_number.new.bytes.items _ c.loop-number-test.true
      c.link_of.ensures c.in_ok-push_number.ensures c.loop-number.invariant.0,
  (links_split c.loop-number.names c.args.own c.args.chain.now c.loop-number.number-index 0 c.loop-number-test.true c.loop-number.invariant.1).1,
)

pub returns : goal.returns
returns c = grind (arith, common_steps, links_behind, c.loop-number.invariant.0)
