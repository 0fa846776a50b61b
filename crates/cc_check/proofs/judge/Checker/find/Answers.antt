use Rattle.cc_check.proofs.FirstTexts.{text_shorter}
use Rattle.std.proofs.Common.{rules}
use Rattle.cc_check.specs.Clauses.{plain_finding, reading_as}
use Rattle.cc_check.proofs.Judged.{found_begun, found_more, found_ends, found_nothing, found_wrong}
use Rattle.cc_check.proofs.judge.Checker.find.Goals as goal

pub loop-rest-preserved : goal.loop-rest-preserved
loop-rest-preserved c = record {
  sound = c.in_ok-pass.ensures.left.sound;
  found = found_more _ _ _ _ c.loop-rest.self.own c.loop-rest.self.blocks c.loop-rest.line c.loop-rest.rest.now c.loop-rest.invariant.found
      c.in_ok-pass.pass c.in_ok-pass.behind.now c.pass.new.self.own c.pass.new.self.blocks c.in_ok-pass.ensures.passed c.in-Goes.is
      c.in_ok-pass.ensures.left.counted c.in_ok-pass.ensures.left.grown;
}

pub returns-in-Ends-clause-found : goal.returns-in-Ends-clause-found
returns-in-Ends-clause-found c =
    found_ends _ _ _ _ c.loop-rest.self.own c.loop-rest.self.blocks c.loop-rest.line c.loop-rest.rest.now c.loop-rest.invariant.found
    c.in_ok-pass.pass c.in_ok-pass.behind.now c.pass.new.self.own c.pass.new.self.blocks c.in_ok-pass.ensures.passed c.in-Ends.word
    (plain_finding c.behind_end.result) c.in-Ends.is c.behind_end.ensures.ended

pub returns-in-Wrong-clause-found : goal.returns-in-Wrong-clause-found
returns-in-Wrong-clause-found c =
    found_wrong _ _ _ _ c.loop-rest.self.own c.loop-rest.self.blocks c.loop-rest.line c.loop-rest.rest.now c.loop-rest.invariant.found
    c.in_ok-pass.pass c.in_ok-pass.behind.now c.pass.new.self.own c.pass.new.self.blocks c.in_ok-pass.ensures.passed c.in-Wrong.cause c.in-Wrong.is

pub returns-clause-found : goal.returns-clause-found
returns-clause-found c =
    found_nothing (reading_as c.args.version c.args.may) c.args.form.now c.args.first c.args.bytes.now c.loop-rest.self.own c.loop-rest.self.blocks
    c.loop-rest.line c.loop-rest.rest.now c.loop-rest.invariant.found (search rules)

pub loop-rest-smaller : goal.loop-rest-smaller
loop-rest-smaller c = text_shorter _ _ _ _ c.in_ok-pass.ensures.passed.first

pub loop-rest-init : goal.loop-rest-init
loop-rest-init c = record {
  sound = c.requires.sound;
  found = found_begun _ _ c.args.first c.args.bytes.now c.args.self.now.own c.args.self.now.blocks c.requires.own c.requires.counted;
}
