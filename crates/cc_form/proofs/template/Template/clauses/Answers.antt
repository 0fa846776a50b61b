use Rattle.std.proofs.Common.{Bor, option_map, subst}
use Rattle.cc_arena.specs.GroundViews.{plain_ground_query}
use Rattle.cc_defs.specs.declared.lists.Key.{Key}
use Rattle.cc_form.specs.Steps.{IsFormAt, TemplateView}
use Rattle.cc_form.proofs.template.Template.clauses.Goals as goal

pub returns-in-Some-clause-made : goal.returns-in-Some-clause-made
returns-in-Some-clause-made c =
    let form = subst (λ (v : TemplateView). IsFormAt v.signature v.laws c.args.horizon (plain_ground_query c.args.query.now) c.args.with_claim (option_map (λ (key : Bor Key). key.now) c.args.after) (option_map (λ (key : Bor Key). key.now.row) c.args.after) c.put_together.result) c.self.view_is c.put_together.ensures in
    form.made

pub returns-in-Some-clause-tells : goal.returns-in-Some-clause-tells
returns-in-Some-clause-tells c =
    let form = subst (λ (v : TemplateView). IsFormAt v.signature v.laws c.args.horizon (plain_ground_query c.args.query.now) c.args.with_claim (option_map (λ (key : Bor Key). key.now) c.args.after) (option_map (λ (key : Bor Key). key.now.row) c.args.after) c.put_together.result) c.self.view_is c.put_together.ensures in
    form.tells

pub returns-in-Some-clause-within : goal.returns-in-Some-clause-within
returns-in-Some-clause-within c =
    let form = subst (λ (v : TemplateView). IsFormAt v.signature v.laws c.args.horizon (plain_ground_query c.args.query.now) c.args.with_claim (option_map (λ (key : Bor Key). key.now) c.args.after) (option_map (λ (key : Bor Key). key.now.row) c.args.after) c.put_together.result) c.self.view_is c.put_together.ensures in
    form.within

pub returns-in-Some-clause-refused : goal.returns-in-Some-clause-refused
returns-in-Some-clause-refused c =
    let form = subst (λ (v : TemplateView). IsFormAt v.signature v.laws c.args.horizon (plain_ground_query c.args.query.now) c.args.with_claim (option_map (λ (key : Bor Key). key.now) c.args.after) (option_map (λ (key : Bor Key). key.now.row) c.args.after) c.put_together.result) c.self.view_is c.put_together.ensures in
    form.refused

pub returns-in-None-clause-made : goal.returns-in-None-clause-made
returns-in-None-clause-made c =
    let form = subst (λ (v : TemplateView). IsFormAt v.signature v.laws c.args.horizon (plain_ground_query c.args.query.now) c.args.with_claim (option_map (λ (key : Bor Key). key.now) c.args.after) (option_map (λ (key : Bor Key). key.now.row) c.args.after) c.made.result) c.self.view_is c.made.ensures in
    form.made

pub returns-in-None-clause-tells : goal.returns-in-None-clause-tells
returns-in-None-clause-tells c =
    let form = subst (λ (v : TemplateView). IsFormAt v.signature v.laws c.args.horizon (plain_ground_query c.args.query.now) c.args.with_claim (option_map (λ (key : Bor Key). key.now) c.args.after) (option_map (λ (key : Bor Key). key.now.row) c.args.after) c.made.result) c.self.view_is c.made.ensures in
    form.tells

pub returns-in-None-clause-within : goal.returns-in-None-clause-within
returns-in-None-clause-within c =
    let form = subst (λ (v : TemplateView). IsFormAt v.signature v.laws c.args.horizon (plain_ground_query c.args.query.now) c.args.with_claim (option_map (λ (key : Bor Key). key.now) c.args.after) (option_map (λ (key : Bor Key). key.now.row) c.args.after) c.made.result) c.self.view_is c.made.ensures in
    form.within

pub returns-in-None-clause-refused : goal.returns-in-None-clause-refused
returns-in-None-clause-refused c =
    let form = subst (λ (v : TemplateView). IsFormAt v.signature v.laws c.args.horizon (plain_ground_query c.args.query.now) c.args.with_claim (option_map (λ (key : Bor Key). key.now) c.args.after) (option_map (λ (key : Bor Key). key.now.row) c.args.after) c.made.result) c.self.view_is c.made.ensures in
    form.refused
