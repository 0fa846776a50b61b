use Rattle.std.proofs.Common.{◌∙◌, List, Some, [], ◌∷◌, ap}
use Rattle.cc_defs.specs.declared.node.GroundHead.TheVariants as heads
use Rattle.cc_defs.specs.declared.node.Node.{Node}
use Rattle.cc_defs.specs.declared.node.Node.TheVariants as nodes
use Rattle.cc_defs.specs.declared.signature.LawKind.TheVariants as kinds
use Rattle.cc_defs.specs.GroundLaws.{PlainGroundLaw, pair_law}
use Rattle.cc_ground.proofs.Making.{one_made, pair_room, placed}
use Rattle.cc_ground.specs.declared.maker.Halt.TheVariants as halts
use Rattle.cc_ground.proofs.Putting.{err_on, lacks_so}
use Rattle.cc_ground.proofs.maker.Maker.add_pair.Goals as goal

pub returns-in_err-push-clause-made : goal.returns-in_err-push-clause-made
returns-in_err-push-clause-made c = err_on _ c.from_residual-in_err-push.result c.from_residual-in_err-push.ensures.0

pub returns-in_err-body-clause-made : goal.returns-in_err-body-clause-made
returns-in_err-body-clause-made c = err_on _ c.from_residual-in_err-body.result c.from_residual-in_err-body.ensures.0

pub returns-in_err-body-clause-full : goal.returns-in_err-body-clause-full
returns-in_err-body-clause-full c = lacks_so _ _ halts.OutOfMemory c.from_residual-in_err-body.result c.from_residual-in_err-body.ensures.1 tt

pub returns-in_err-push-2-clause-made : goal.returns-in_err-push-2-clause-made
returns-in_err-push-2-clause-made c = err_on _ c.from_residual-in_err-push-2.result c.from_residual-in_err-push-2.ensures.0

pub returns-in_err-push-2-clause-full : goal.returns-in_err-push-2-clause-full
returns-in_err-push-2-clause-full c = lacks_so _ _ halts.OutOfMemory c.from_residual-in_err-push-2.result c.from_residual-in_err-push-2.ensures.1 tt

pub returns-clause-made : goal.returns-clause-made
returns-clause-made c =
    let first = c.in_ok-put_both.ensures.put in
    let second = c.in_ok-push.ensures.put in
    record {
      made = one_made _ (pair_law c.args.base (c.args.one, c.args.other)) c.args.made.now.items c.push-2.new.self.items c.in_ok-push-2.ensures.items
          (ap (λ (l : List Node). let law : PlainGroundLaw = record { head = heads.Falsity; body = l; after = Some c.in_ok-after.after.now; kind = kinds.FluentDynamic; base = c.args.base } in law)
          (placed _ _ _ _ _ c.clear-2.ensures.items second.put c.deref-2.ensures.value c.in_ok-body.ensures)
          ∙ ap (λ (l : List Node). let law : PlainGroundLaw = record { head = heads.Falsity; body = nodes.True ∷ []; after = Some l; kind = kinds.FluentDynamic; base = c.args.base } in law)
          (placed _ _ _ _ _ c.clear.ensures.items first.put c.deref.ensures.value c.in_ok-after.ensures));
      room = pair_room c.args.base c.args.one c.args.other _ _ _ second.room first.room;
      like = record { table = second.like.table ∙ first.like.table; sig = second.like.sig ∙ first.like.sig; env = second.like.env ∙ first.like.env };
    }
