use Rattle.std.proofs.Common.{◌∙◌, [], ◌∷◌, Some, ap, subst}
use Rattle.cc_arena.specs.GroundViews.{plain_ground_condition}
use Rattle.cc_defs.specs.Clauses.{Literal, opposite}
use Rattle.cc_form.specs.Making.{denied_nodes}
use Rattle.cc_form.specs.Queries.{condition_nodes}
use Rattle.cc_form.specs.Store.{Gives}
use Rattle.cc_form.proofs.Keeping.{gives_more}
use Rattle.cc_form.proofs.Parts.{adds_err}
use Rattle.cc_form.proofs.section.deny.Goals as goal

pub returns-in_err-literal : goal.returns-in_err-literal
returns-in_err-literal c =
    let b = c.args.writer.now in
    adds_err b c.literal_at.new.writer c.from_residual.result (denied_nodes b.places b.last (Some (condition_nodes c.args.stride c.args.horizon (plain_ground_condition c.args.claim)))) c.in_err-literal.field-0.0
    c.from_residual.ensures.1 c.in_err-literal.ensures

pub returns : goal.returns
returns c =
    let made = c.literal_at.new.writer.store.kept in
    let built = c.in_ok-literal.ensures.1 in
    let kept = subst (λ (l : Literal). Gives made c.keep_one.new.self.kept ((l ∷ []) ∷ [])) (c.opposite.ensures ∙ ap opposite c.in_ok-literal.ensures.0) c.in_ok-keep_one.ensures in
    record { places = built.places; ends = built.ends; within = built.within; gives = gives_more c.args.writer.now.store.kept made c.keep_one.new.self.kept _ _ built.gives kept }
