use Rattle.std.proofs.Common.{◌∙◌, ap, map}
use Rattle.std.proofs.lemmas.Iterator.Adapters.{YieldsList-from_vec}
use Rattle.std.proofs.lemmas.Iterator.Consumers.{YieldsList-end}
use Rattle.cc_defs.specs.Resolved.{plain_base_law}
use Rattle.cc_laws.specs.Widening.{widened}
use Rattle.cc_wide.specs.WideLaws.{plain_wide_base}
use Rattle.cc_laws.proofs.Gathered.{yielded_more, yielded_all}
use Rattle.cc_laws.proofs.wide.all_widened.Goals as goal

pub loop-law-preserved : goal.loop-law-preserved
loop-law-preserved c =
    yielded_more plain_wide_base widened plain_base_law c.loop-law.yielded c.in-Some.law c.loop-law.made.items c.push.new.self.items
    c.widened.result c.in_ok-push.ensures.items c.widened.ensures c.loop-law.invariant

pub returns : goal.returns
returns c =
    let begun = c.into_iter-law-iterator.ensures.into_iter_gives in
    let taken = YieldsList-end (YieldsList-from_vec {s = c.into_iter-law-iterator.result} c.args.laws.items begun.0 (begun.1 ∙ c.args.laws.ok.0)) c.loop-law.yielded c.loop-law.law-iterator c.loop-law.yielded_by c.next.result c.next.new.self c.in-None.is c.next.ensures.steps in
    yielded_all plain_wide_base widened plain_base_law c.loop-law.yielded c.args.laws.items c.loop-law.made.items taken.0 c.loop-law.invariant

pub loop-law-init : goal.loop-law-init
loop-law-init c = ap (map plain_wide_base) c.in_ok-made.ensures.items
