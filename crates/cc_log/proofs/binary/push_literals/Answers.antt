use Rattle.std.proofs.Common.{flat_map, refl, sym, subst, ap, ◌∙◌, ◌++◌}
use Rattle.cc_defs.specs.Clauses.{Literal}
use Rattle.cc_defs.specs.LogBytes.{literal_bytes}
use Rattle.cc_defs.specs.LogTexts.{IsShortLiteral}
use Rattle.cc_log.proofs.Behind.{all_split, flat_next, nothing_left}
use Rattle.cc_log.proofs.binary.push_literals.Goals as goal

pub push_literal-requires : goal.push_literal-requires
push_literal-requires c =
    (subst IsShortLiteral (sym c.literal-item.is) (all_split IsShortLiteral c.args.literals.now c.loop-literal.literal-index c.literal-item.result c.loop-literal-test.true c.loop-literal.invariant.1).0).1

pub loop-literal-preserved : goal.loop-literal-preserved
loop-literal-preserved c = (
  flat_next literal_bytes c.args.literals.now c.loop-literal.literal-index c.literal-item.result c.loop-literal.bytes.items c.push_literal.new.bytes.items _ c.loop-literal-test.true
      (c.in_ok-push_literal.ensures ∙ ap (λ (l : Literal). c.loop-literal.bytes.items ++ literal_bytes l) c.literal-item.is) c.loop-literal.invariant.0,
  (all_split IsShortLiteral c.args.literals.now c.loop-literal.literal-index c.literal-item.result c.loop-literal-test.true c.loop-literal.invariant.1).1,
)

pub returns : goal.returns
returns c = nothing_left (flat_map literal_bytes) c.args.literals.now c.loop-literal.literal-index c.loop-literal.bytes.items _ refl c.loop-literal-test.false c.loop-literal.invariant.0
