use Rattle.std.proofs.Common.{◌-◌, ◌∙◌, length, arith, refl, rules}
use Rattle.cc_ports.proofs.Called.{nothing_given, given_more}
use Rattle.cc_ports.proofs.Told.{given_within, piece_within, still_below, was_given, was_kept}
use Rattle.cc_ports.proofs.whole.give_all.Goals as goal

pub returns-in_err-given-clause-some : goal.returns-in_err-given-clause-some
returns-in_err-given-clause-some g c =
    was_kept c.from_residual.result c.args.to c.args.bytes.now c.loop-given.given (length c.args.bytes.now - c.loop-given.given)
    _ _ _ _ c.loop-given.invariant.told c.in_err-given.ensures.after

pub loop-given-preserved : goal.loop-given-preserved
loop-given-preserved g c =
    let invariant = c.loop-given.invariant in
    let gives = c.in_ok-given.ensures in
    let bytes = c.args.bytes.now in
    let few = piece_within bytes c.loop-given.given _ gives.count in
    record {
      within = given_within _ _ _ invariant.within few;
      told = was_given c.args.to bytes c.loop-given.given (length bytes - c.loop-given.given) _ _ _ _ few invariant.told gives.after;
      begun = gives.begun ∙ invariant.begun;
      calls = given_more c.args.to _ _ _ _ invariant.calls gives.calls;
      calm = (gives.calm.0 ∙ invariant.calm.0, gives.calm.1 ∙ invariant.calm.1);
      reads_count = still_below _ _ _ invariant.reads_count gives.reads_count;
      writes_count = still_below _ _ _ invariant.writes_count gives.writes_count;
    }

pub loop-given-init : goal.loop-given-init
loop-given-init g c = record {
  within = omega arith;
  told = search rules;
  begun = refl;
  calls = nothing_given c.args.to _;
  calm = (refl, refl);
  reads_count = omega arith;
  writes_count = omega arith;
}

pub returns-in_err-given-clause-calls : goal.returns-in_err-given-clause-calls
returns-in_err-given-clause-calls g c = given_more c.args.to _ _ _ _ c.loop-given.invariant.calls c.in_err-given.ensures.calls

pub returns-clause-calls : goal.returns-clause-calls
returns-clause-calls g c = c.loop-given.invariant.calls

pub returns-clause-calm : goal.returns-clause-calm
returns-clause-calm g c = c.loop-given.invariant.calm
