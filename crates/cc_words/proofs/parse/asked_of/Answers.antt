use Rattle.std.proofs.Common.{◌∙◌, ap, option_and_then}
use Rattle.cc_words.specs.Requests.{asked_of}
use Rattle.cc_words.specs.Words.{Given}
use Rattle.cc_words.proofs.Reading.{reading_found, refused_reads}
use Rattle.cc_words.proofs.parse.asked_of.Goals as goal

pub returns-in-Ok : goal.returns-in-Ok
returns-in-Ok c = c.asked.ensures ∙ ap (λ (given : Given). asked_of given) c.given_by.ensures
    ∙ ap (option_and_then asked_of) (reading_found _ _ _ c.requires c.in-Ok.ensures.kinds c.in-Ok.ensures.matches)

pub returns-in-Err : goal.returns-in-Err
returns-in-Err c = refused_reads _ _ _ _ c.requires c.refused.ensures c.in-Err.ensures.passes
