use Rattle.std.proofs.Common.{◌∙◌, ap, map}
use Rattle.std.proofs.lemmas.Iterator.Adapters.{YieldsList-from_vec}
use Rattle.std.proofs.lemmas.Iterator.Consumers.{YieldsList-end}
use Rattle.cc_defs.specs.Resolved.{plain_base_law, plain_head}
use Rattle.cc_laws.specs.Expansion.{law_for}
use Rattle.cc_laws.specs.Views.{frame_from, plain_caused}
use Rattle.cc_laws.specs.Vocabulary.{vocabulary_of}
use Rattle.cc_laws.proofs.Gathered.{yielded_more, yielded_all}
use Rattle.cc_laws.proofs.expansion.split.Goals as goal

pub loop-head-preserved : goal.loop-head-preserved
loop-head-preserved c =
    let v = vocabulary_of c.args.table.now in
    let f = law_for v (frame_from v c.args.source.now) (plain_caused c.args.law.now c.args.later) in
    yielded_more plain_base_law f plain_head c.loop-head.yielded c.in-Some.head c.loop-head.made.items c.push.new.self.items _ c.in_ok-push.ensures.items c.in_ok-law_for.ensures c.loop-head.invariant

pub returns : goal.returns
returns c =
    let v = vocabulary_of c.args.table.now in
    let f = law_for v (frame_from v c.args.source.now) (plain_caused c.args.law.now c.args.later) in
    let begun = c.into_iter-head-iterator.ensures.into_iter_gives in
    let taken = YieldsList-end (YieldsList-from_vec {s = c.into_iter-head-iterator.result} c.in_ok-heads.heads.items begun.0 (begun.1 ∙ c.in_ok-heads.heads.ok.0)) c.loop-head.yielded c.loop-head.head-iterator c.loop-head.yielded_by c.next.result c.next.new.self c.in-None.is c.next.ensures.steps in
    yielded_all plain_base_law f plain_head c.loop-head.yielded c.in_ok-heads.heads.items c.loop-head.made.items taken.0 c.loop-head.invariant
    ∙ ap (map f) c.in_ok-heads.ensures

pub loop-head-init : goal.loop-head-init
loop-head-init c = ap (map plain_base_law) c.in_ok-made.ensures.items
