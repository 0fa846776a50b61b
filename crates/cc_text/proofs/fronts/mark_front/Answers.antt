use Rattle.std.proofs.Common.{◌≡◌, ◌∙◌, ap, sym, arith}
use Rattle.cc_defs.specs.Tokens.{mark_of}
use Rattle.cc_text.proofs.MarkFronts.{first_one, first_two, first_three, three_front, two_front, one_front, no_front, NotThree, NotTwo}
use Rattle.cc_text.proofs.fronts.mark_front.Goals as goal
use Rattle.cc_text.proofs.fronts.mark_front.Goals.{in_default, in-len3-up+in_default-mark_of_three, in_default-bytes, in-len2-up+in_default-mark_of_two}

pub returns-in-Some : goal.returns-in-Some
returns-in-Some c =
    three_front c.args.bytes.now c.in-Some.mark c.in-len3-up.len_at_least
    (ap mark_of (first_three c.args.bytes.now c.in-len3-up.len_at_least) ∙ sym c.mark_of_three.ensures ∙ c.in-Some.is)

pub returns-in-Some-mark_of_two : goal.returns-in-Some-mark_of_two
returns-in-Some-mark_of_two c =
    let three : NotThree c.args.bytes.now = elim c.if-bytes-lt3.branch [
      | in_default w ↦ λ le. absurd (let f = w.in_default.len_below in omega arith)
      | in-len3-up+in_default-mark_of_three w ↦ λ le. ap mark_of (first_three c.args.bytes.now le) ∙ sym w.mark_of_three.ensures ∙ w.in_default-mark_of_three.is
    ] in
    two_front c.args.bytes.now c.in-Some-mark_of_two.mark three c.in-len2-up.len_at_least
    (ap mark_of (first_two c.args.bytes.now c.in-len2-up.len_at_least) ∙ sym c.mark_of_two.ensures ∙ c.in-Some-mark_of_two.is)

pub returns-in-Some-mark_of_one : goal.returns-in-Some-mark_of_one
returns-in-Some-mark_of_one c =
    let three : NotThree c.args.bytes.now = elim c.if-bytes-lt3.branch [
      | in_default w ↦ λ le. absurd (let f = w.in_default.len_below in omega arith)
      | in-len3-up+in_default-mark_of_three w ↦ λ le. ap mark_of (first_three c.args.bytes.now le) ∙ sym w.mark_of_three.ensures ∙ w.in_default-mark_of_three.is
    ] in
    let two : NotTwo c.args.bytes.now = elim c.if-bytes-lt2.branch [
      | in_default-bytes w ↦ λ le. absurd (let f = w.in_default-bytes.len_below in omega arith)
      | in-len2-up+in_default-mark_of_two w ↦ λ le. ap mark_of (first_two c.args.bytes.now le) ∙ sym w.mark_of_two.ensures ∙ w.in_default-mark_of_two.is
    ] in
    one_front c.args.bytes.now c.in-Some-mark_of_one.mark three two c.in-len1-up.len_at_least
    (ap mark_of (first_one c.args.bytes.now c.in-len1-up.len_at_least) ∙ sym c.mark_of_one.ensures ∙ c.in-Some-mark_of_one.is)

pub returns-in_default-mark_of_one : goal.returns-in_default-mark_of_one
returns-in_default-mark_of_one c =
    let three : NotThree c.args.bytes.now = elim c.if-bytes-lt3.branch [
      | in_default w ↦ λ le. absurd (let f = w.in_default.len_below in omega arith)
      | in-len3-up+in_default-mark_of_three w ↦ λ le. ap mark_of (first_three c.args.bytes.now le) ∙ sym w.mark_of_three.ensures ∙ w.in_default-mark_of_three.is
    ] in
    let two : NotTwo c.args.bytes.now = elim c.if-bytes-lt2.branch [
      | in_default-bytes w ↦ λ le. absurd (let f = w.in_default-bytes.len_below in omega arith)
      | in-len2-up+in_default-mark_of_two w ↦ λ le. ap mark_of (first_two c.args.bytes.now le) ∙ sym w.mark_of_two.ensures ∙ w.in_default-mark_of_two.is
    ] in
    no_front c.args.bytes.now three two (λ le. ap mark_of (first_one c.args.bytes.now le) ∙ sym c.mark_of_one.ensures ∙ c.in_default-mark_of_one.is)
