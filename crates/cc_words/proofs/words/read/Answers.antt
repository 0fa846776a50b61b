use Rattle.std.proofs.Common.{◌∙◌, ap, map, string_bytes}
use Rattle.std.specs.Option.{option_and_then}
use Rattle.std.proofs.lemmas.Result.{IfOk-weaker}
use Rattle.cc_words.specs.Requests.{asked_of}
use Rattle.cc_words.proofs.words.read.Goals as goal

pub returns : goal.returns
returns c = record {
  plain = λ pairs file plain. IfOk-weaker c.asked_by.result _ _
      (λ asked is. is ∙ ap (option_and_then asked_of) (c.plain_words_read_as_they_stand.ensures pairs file (map string_bytes c.args.words.now) plain)) c.asked_by.ensures;
  taken = c.asked_by.ensures;
}
