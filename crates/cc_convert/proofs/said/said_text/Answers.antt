use Rattle.cc_convert.proofs.Reading.{cut_is}
use Rattle.cc_convert.proofs.said.said_text.Goals as goal

pub text_line-requires : goal.text_line-requires
text_line-requires c =
    let (line, rest, formed, over, is) = c.requires in
    let (same, _) = cut_is line c.args.bytes.now rest c.first_line.result.0.now c.first_line.result.1.now formed is c.first_line.ensures in
    (line, record { formed = formed; spelled = same }, over)

pub returns : goal.returns
returns c = λ line rest formed over is.
    let (same, behind) = cut_is line c.args.bytes.now rest c.first_line.result.0.now c.first_line.result.1.now formed is c.first_line.ensures in
    (c.in_ok-line.ensures line (record { formed = formed; spelled = same }) over, behind)
