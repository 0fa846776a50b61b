use Rattle.std.proofs.Common.{length, sym, ◌∙◌}
use Rattle.cc_dimacs.proofs.FirstWords.{word_here, word_more, word_all, word_cut}
use Rattle.cc_dimacs.proofs.words.cut_word.Goals as goal

pub loop-i-preserved : goal.loop-i-preserved
loop-i-preserved c = word_more c.args.text.now c.loop-i.i c.loop-i-test.true c.loop-i.invariant (sym c.is_space_byte.ensures ∙ c.if-is_space_byte.false)

pub returns-then-is_space_byte-clause-words : goal.returns-then-is_space_byte-clause-words
returns-then-is_space_byte-clause-words c =
    word_cut c.args.text.now c.split_at.result.0.now c.split_at.result.1.now _ c.requires.some c.requires.begins
    (word_here c.args.text.now c.loop-i.i c.loop-i-test.true c.loop-i.invariant (sym c.is_space_byte.ensures ∙ c.if-is_space_byte.true)) c.split_at.ensures.front c.split_at.ensures.back

pub returns-clause-words : goal.returns-clause-words
returns-clause-words c =
    word_cut c.args.text.now c.split_at-2.result.0.now c.split_at-2.result.1.now (length c.args.text.now) c.requires.some c.requires.begins
    (word_all c.args.text.now c.loop-i.i c.loop-i-test.false c.loop-i.auto.i-end c.loop-i.invariant) c.split_at-2.ensures.front c.split_at-2.ensures.back
