use Rattle.cc_check.proofs.Judged.{end_goes, end_wrong, ends_rightly, ends_wrongly}
use Rattle.cc_check.proofs.judge.Checker.end.Goals as goal

pub returns-then-self-says_empty : goal.returns-then-self-says_empty
returns-then-self-says_empty c version may text read =
    end_goes version may c.args.form.now c.args.self.now.own c.args.self.now.blocks text c.args.word
    (ends_rightly _ c.args.word c.args.self.now.refuted c.says_empty.result c.requires.sound.empty c.says_empty.ensures c.if-self-says_empty.true) read

pub returns-else-self-says_empty : goal.returns-else-self-says_empty
returns-else-self-says_empty c version may text read =
    end_wrong version may c.args.form.now c.args.self.now.own c.args.self.now.blocks text c.args.word
    (ends_wrongly _ c.args.word c.args.self.now.refuted c.says_empty.result c.requires.sound.empty c.says_empty.ensures c.if-self-says_empty.false) read
