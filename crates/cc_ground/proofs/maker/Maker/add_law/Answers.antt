use Rattle.std.proofs.Common.{◌∙◌, List, Option, ap, length, option_map}
use Rattle.cc_defs.specs.declared.node.Node.{Node}
use Rattle.cc_defs.specs.GroundLaws.{PlainGroundLaw}
use Rattle.cc_defs.specs.Nodes.{nodes_of}
use Rattle.cc_defs.specs.Resolved.{plain_formula}
use Rattle.cc_ground.specs.Bindings.{environment_of}
use Rattle.cc_ground.specs.Views.{universe_in}
use Rattle.cc_ground.proofs.Making.{law_room, one_made, part_like}
use Rattle.cc_ground.specs.declared.maker.Halt.TheVariants as halts
use Rattle.cc_ground.proofs.Putting.{err_on, lacks_so, like_both}
use Rattle.cc_ground.proofs.maker.Maker.add_law.Goals as goal

pub returns-in_err-after-clause-made : goal.returns-in_err-after-clause-made
returns-in_err-after-clause-made c = err_on _ c.from_residual-in_err-after.result c.from_residual-in_err-after.ensures.0

pub returns-in_err-push-clause-made : goal.returns-in_err-push-clause-made
returns-in_err-push-clause-made c = err_on _ c.from_residual-in_err-push.result c.from_residual-in_err-push.ensures.0

pub returns-in_err-push-clause-full : goal.returns-in_err-push-clause-full
returns-in_err-push-clause-full c = lacks_so _ _ halts.OutOfMemory c.from_residual-in_err-push.result c.from_residual-in_err-push.ensures.1 tt

pub returns-clause-made : goal.returns-clause-made
returns-clause-made c =
    let maker = c.args.self.now in
    let law = c.args.law.now in
    let body = nodes_of (universe_in maker) (environment_of maker.env) (plain_formula law.body) in
    let first = c.in_ok-body.ensures in
    let second = c.in_ok-after.ensures in
    let part = part_like law.after first.like in
    record {
      made = one_made _ _ c.args.made.now.items c.push.new.self.items c.in_ok-push.ensures.items
          (ap (λ (l : List Node). let there : PlainGroundLaw = record { head = c.args.head; body = l; after = option_map (λ nodes. nodes.now) c.in_ok-after.after; kind = law.kind; base = c.args.base } in there) first.term
          ∙ ap (λ (l : Option (List Node)). let there : PlainGroundLaw = record { head = c.args.head; body = body; after = l; kind = law.kind; base = c.args.base } in there) (second.term ∙ part));
      room = law_room _ _ _ (length body) _ _ second.room part first.room;
      like = like_both first.like second.like;
    }
