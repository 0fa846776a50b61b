use Rattle.std.proofs.Common.{◌≡◌, ◌∙◌, Some, Option, subst, sym}
use Rattle.std.specs.Prelude.{IfSome}
use Rattle.cc_arena.specs.GroundViews.{plain_ground_query}
use Rattle.cc_form.specs.Queries.{IsKeyAt, IsQueryAt}
use Rattle.cc_form.specs.Steps.{TemplateView}
use Rattle.cc_theory.specs.Theories.{AreLawsOf}
use Rattle.cc_lists.proofs.lists.Lists.form.Goals as goal

some_is : (given : Option TemplateView) (template v : TemplateView) → given ≡ Some template → IfSome given (λ t. t ≡ v) → template ≡ v
some_is given template v is same = subst (λ (o : Option TemplateView). IfSome o (λ t. t ≡ v)) is same

pub returns-in-Some-clause-made : goal.returns-in-Some-clause-made
returns-in-Some-clause-made c = λ d q laws stands.
    let same = some_is c.self.inside.template c.in-Some.template _ c.in-Some.is c.self.invariant.1 ∙ c.self.view_is in
    c.clauses.ensures.made d q (subst (λ (v : TemplateView). AreLawsOf v.signature v.laws d) (sym same) laws) stands

pub returns-in-Some-clause-tells : goal.returns-in-Some-clause-tells
returns-in-Some-clause-tells c = λ d q laws stands.
    let same = some_is c.self.inside.template c.in-Some.template _ c.in-Some.is c.self.invariant.1 ∙ c.self.view_is in
    c.clauses.ensures.tells d q (subst (λ (v : TemplateView). AreLawsOf v.signature v.laws d) (sym same) laws) stands

pub returns-in-Some-clause-within : goal.returns-in-Some-clause-within
returns-in-Some-clause-within c = λ d q laws stands.
    let same = some_is c.self.inside.template c.in-Some.template _ c.in-Some.is c.self.invariant.1 ∙ c.self.view_is in
    c.clauses.ensures.within d q (subst (λ (v : TemplateView). AreLawsOf v.signature v.laws d) (sym same) laws) stands

pub returns-in-Some-clause-refused : goal.returns-in-Some-clause-refused
returns-in-Some-clause-refused c = λ d q laws stands.
    let same = some_is c.self.inside.template c.in-Some.template _ c.in-Some.is c.self.invariant.1 ∙ c.self.view_is in
    c.clauses.ensures.refused d q (subst (λ (v : TemplateView). AreLawsOf v.signature v.laws d) (sym same) laws) stands

pub returns-in-None-clause-made : goal.returns-in-None-clause-made
returns-in-None-clause-made c = λ d q laws stands.
    c.form_at.ensures.made d q (subst (λ (v : TemplateView). AreLawsOf v.signature v.laws d) (sym c.self.view_is) laws) stands

pub returns-in-None-clause-tells : goal.returns-in-None-clause-tells
returns-in-None-clause-tells c = λ d q laws stands.
    c.form_at.ensures.tells d q (subst (λ (v : TemplateView). AreLawsOf v.signature v.laws d) (sym c.self.view_is) laws) stands

pub returns-in-None-clause-within : goal.returns-in-None-clause-within
returns-in-None-clause-within c = λ d q laws stands.
    c.form_at.ensures.within d q (subst (λ (v : TemplateView). AreLawsOf v.signature v.laws d) (sym c.self.view_is) laws) stands

pub returns-in-None-clause-refused : goal.returns-in-None-clause-refused
returns-in-None-clause-refused c = λ d q laws stands.
    c.form_at.ensures.refused d q (subst (λ (v : TemplateView). AreLawsOf v.signature v.laws d) (sym c.self.view_is) laws) stands

pub clauses-requires-clause-query : goal.clauses-requires-clause-query
clauses-requires-clause-query c =
    let same = some_is c.self.inside.template c.in-Some.template _ c.in-Some.is c.self.invariant.1 ∙ c.self.view_is in
    subst (λ (v : TemplateView). IsQueryAt v.signature c.args.horizon (plain_ground_query c.args.query.now)) (sym same) c.requires.query

pub clauses-requires-clause-key : goal.clauses-requires-clause-key
clauses-requires-clause-key c =
    let same = some_is c.self.inside.template c.in-Some.template _ c.in-Some.is c.self.invariant.1 ∙ c.self.view_is in
    subst (λ (v : TemplateView). IfSome c.args.after (λ key. IsKeyAt v.signature c.args.horizon key.now)) (sym same) c.requires.key

pub form_at-requires-clause-query : goal.form_at-requires-clause-query
form_at-requires-clause-query c = subst (λ (v : TemplateView). IsQueryAt v.signature c.args.horizon (plain_ground_query c.args.query.now)) (sym c.self.view_is) c.requires.query

pub form_at-requires-clause-key : goal.form_at-requires-clause-key
form_at-requires-clause-key c = subst (λ (v : TemplateView). IfSome c.args.after (λ key. IsKeyAt v.signature c.args.horizon key.now)) (sym c.self.view_is) c.requires.key
