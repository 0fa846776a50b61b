use Rattle.std.proofs.Common.{◌≡◌, drop}
use Rattle.cc_words.specs.Requests.{are_shown}
use Rattle.cc_words.proofs.names.is_plain_name.Given as goal

abbrev pub invariant-loop-byte : goal.invariant-loop-byte
invariant-loop-byte l = are_shown l.after (drop l.byte-index l.name) ≡ are_shown 0 l.name
