use Rattle.std.proofs.Common.{◌<◌, ◌++◌, ◌∷◌, [], ◌∙◌, List, ℕ, arith, ap, sym, string_bytes}
use Rattle.std.proofs.lemmas.Fmt.{decimal_digit}
use Rattle.cc_log.proofs.put.push_digit.Goals as goal

pub returns : goal.returns
returns c =
    let few = c.requires in
    let low : c.from.result < 128 = (let is = c.from.ensures in omega arith) in
    c.in_ok-push.ensures.bytes ∙ ap (λ (digits : List ℕ). string_bytes c.args.text.now ++ digits)
    ((c.in_ok-push.ensures.ascii low ∙ ap (λ (byte : ℕ). byte ∷ []) c.from.ensures) ∙ sym (decimal_digit c.args.digit (omega arith)))
