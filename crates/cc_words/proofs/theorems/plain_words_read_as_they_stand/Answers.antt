use Rattle.cc_words.proofs.Plain.{plain_reads}
use Rattle.cc_words.proofs.theorems.plain_words_read_as_they_stand.Goals as goal

pub returns : goal.returns
returns c = plain_reads
