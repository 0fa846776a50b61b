use Rattle.cc_query.proofs.Joining.{each_ok, each_on, next_event}
use Rattle.cc_defs.specs.declared.event.Event.{Event}
use Rattle.cc_query.specs.Events.{Gives}
use Rattle.cc_query.proofs.session.Session.next.Goals as goal

pub returns-clause-event : goal.returns-clause-event
returns-clause-event c = λ d q given of after. next_event c.step.result c.args.self.now c.step.new.self d q given c.step.ensures.gives of after

pub returns-clause-opened : goal.returns-clause-opened
returns-clause-opened c = each_ok c.step.result (λ (e : Event) (gives : Gives c.args.self.now c.step.new.self e). gives.within) c.step.ensures.gives

pub returns-clause-same : goal.returns-clause-same
returns-clause-same c = each_on c.step.result (λ (e : Event) (gives : Gives c.args.self.now c.step.new.self e). gives.same) c.step.ensures.gives

pub returns-clause-more : goal.returns-clause-more
returns-clause-more c = each_ok c.step.result (λ (e : Event) (gives : Gives c.args.self.now c.step.new.self e). gives.more) c.step.ensures.gives

pub returns-clause-less : goal.returns-clause-less
returns-clause-less c = each_on c.step.result (λ (e : Event) (gives : Gives c.args.self.now c.step.new.self e). gives.less) c.step.ensures.gives

pub returns-clause-short : goal.returns-clause-short
returns-clause-short c = each_ok c.step.result (λ (e : Event) (gives : Gives c.args.self.now c.step.new.self e). gives.short) c.step.ensures.gives

pub returns-clause-good : goal.returns-clause-good
returns-clause-good c = each_ok c.step.result (λ (e : Event) (gives : Gives c.args.self.now c.step.new.self e). gives.good) c.step.ensures.gives

pub returns-clause-few : goal.returns-clause-few
returns-clause-few c = each_ok c.step.result (λ (e : Event) (gives : Gives c.args.self.now c.step.new.self e). gives.few) c.step.ensures.gives

pub returns-clause-heading : goal.returns-clause-heading
returns-clause-heading c = each_ok c.step.result (λ (e : Event) (gives : Gives c.args.self.now c.step.new.self e). gives.opened) c.step.ensures.gives
