use Rattle.std.proofs.Common.{◌<◌, ◌-◌, get_or, slice_index, length, arith, ◌∙◌}
use Rattle.cc_defs.specs.declared.node.Node.TheVariants as nodes
use Rattle.cc_defs.specs.Terms.{NamesBelow}
use Rattle.cc_arena.specs.Walks.{arity}
use Rattle.cc_arena.proofs.Each.{all_at}
use Rattle.cc_arena.proofs.Formulas.{from_bool-le}
use Rattle.cc_arena.proofs.Walking.{begins, has_node, next_ends, steps, start_le, ends}
use Rattle.cc_arena.proofs.terms.+walk.Goals as goal

pub overflow_sub-begin : goal.overflow_sub-begin
overflow_sub-begin t c = has_node c.args.term.now c.args.end c.requires.ends c.requires.within

pub bounds-term-begin : goal.bounds-term-begin
bounds-term-begin t c = omega (arith, overflow_sub-begin t c)

pub loop-done-init : goal.loop-done-init
loop-done-init t c = record {
  midway = begins (λ number. slice_index c.args.constants.now number) c.args.term.now c.args.end c.requires.ends c.requires.within;
  before = omega arith;
  trues_within = omega arith;
}

pub walk-holds-requires : goal.walk-holds-requires
walk-holds-requires t c =
    let some : 0 < c.args.end = has_node c.args.term.now c.args.end c.requires.ends c.requires.within in
    (omega arith, (next_ends c.loop-done.invariant.midway (omega arith), (omega arith, c.requires.names)))

pub overflow_add-trues : goal.overflow_add-trues
overflow_add-trues t c = omega (arith, from_bool-le c.walk-holds.result.0)

pub loop-done-preserved : goal.loop-done-preserved
loop-done-preserved t c =
    let holds = c.walk-holds.result.0 in
    let start = c.walk-holds.result.1 in
    let more : c.loop-done._done < arity (get_or c.args.term.now (c.args.end - 1) nodes.True) = omega arith in
    record {
      midway = steps c.loop-done.invariant.midway more holds start c.walk-holds.ensures c.from-trues.result c.from-trues.ensures;
      before = omega (arith, start_le c.loop-done.invariant.midway more holds start c.walk-holds.ensures (omega arith));
      trues_within = omega (arith, from_bool-le holds);
    }

pub decides-requires : goal.decides-requires
decides-requires t c =
    let some : 0 < c.args.end = has_node c.args.term.now c.args.end c.requires.ends c.requires.within in
    all_at (NamesBelow (length c.args.constants.now)) c.args.term.now (c.args.end - 1) nodes.True c.requires.names (omega arith)

pub returns : goal.returns
returns t c prefix formula same =
    let ended = ends c.loop-done.invariant.midway (omega arith) c.requires.within (omega arith) prefix formula same in
    (c.decides.ensures ∙ ended.0, ended.1)
