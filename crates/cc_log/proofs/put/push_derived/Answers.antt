use Rattle.std.proofs.Common.{List, ℕ, [], ◌∷◌, ◌++◌, decimal, flat_map, string_bytes}
use Rattle.cc_defs.specs.Clauses.{Literal}
use Rattle.cc_defs.specs.LogTexts.{literal_text}
use Rattle.cc_log.proofs.Behind.{then_behind}
use Rattle.cc_log.proofs.put.push_derived.Goals as goal

pub returns : goal.returns
returns c =
    let zero_text : List ℕ = 32 ∷ 48 ∷ [] in
    let literals = flat_map (λ (literal : Literal). 32 ∷ literal_text literal) c.args.clause.now in
    let numbers = flat_map (λ (number : ℕ). 32 ∷ decimal number) c.args.chain.now in
    then_behind (string_bytes c.args.text.now) (100 ∷ []) (literals ++ (zero_text ++ (numbers ++ zero_text))) c.in_ok-push_str.ensures.bytes
    (then_behind (string_bytes c.push_str.new.self) literals (zero_text ++ (numbers ++ zero_text)) c.in_ok-push_literals.ensures
    (then_behind (string_bytes c.push_literals.new.text) zero_text (numbers ++ zero_text) c.in_ok-push_str-2.ensures.bytes
    (then_behind (string_bytes c.push_str-2.new.self) numbers zero_text c.in_ok-push_numbers.ensures c.in_ok-push_str-3.ensures.bytes)))
