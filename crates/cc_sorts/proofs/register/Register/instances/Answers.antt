use Rattle.std.proofs.Common.{◌∙◌, ◌++◌, List, arith, ap, sym}
use Rattle.std.proofs.lemmas.List.{take_all}
use Rattle.cc_defs.specs.declared.signature.Const.{Const}
use Rattle.cc_sorts.specs.Instances.{instances_by, instances_from}
use Rattle.cc_sorts.proofs.Listed.{instances_more}
use Rattle.cc_sorts.specs.Shown.{shown}
use Rattle.cc_sorts.proofs.register.Register.instances.Goals as goal

pub loop-number-preserved : goal.loop-number-preserved
loop-number-preserved c =
    c.in_ok-write_symbol.ensures ∙ ap (λ (w : List Const). w ++ instances_by (shown c.args.self.now).sorts c.args.actions c.loop-number.number c.placed_at-placed.result.now) c.loop-number.invariant
    ∙ sym (instances_more (shown c.args.self.now).sorts c.args.actions c.args.self.now.symbols c.loop-number.number c.placed_at-placed.result.now c.placed_at-placed.ensures)

pub loop-number-init : goal.loop-number-init
loop-number-init c = c.new-made.ensures.items

pub returns-clause-made : goal.returns-clause-made
returns-clause-made c =
    c.loop-number.invariant
    ∙ ap (instances_from (shown c.args.self.now).sorts c.args.actions 0) (take_all c.loop-number.number c.args.self.now.symbols (omega (arith, c.symbol_count-number-end.ensures.count, c.loop-number-test.false)))

pub returns-clause-numbered : goal.returns-clause-numbered
returns-clause-numbered c = c.symbol_count-number-end.ensures.numbered
