use Rattle.std.proofs.Common.{◌≡◌, ◌+◌, ◌++◌, slice_index, string_bytes}
use Rattle.cc_defs.specs.Texts.{constants_shown}
use Rattle.cc_print.specs.Histories.{AreGiven, constants_between, named_by}
use Rattle.cc_print.proofs.histories.push_constants.Given as goal

-- the text so far, with the constants that are left, is the whole text
abbrev pub invariant-loop-number : goal.invariant-loop-number
invariant-loop-number l =
    record {
      whole : string_bytes l.text ++ constants_shown (named_by l.table) (constants_between l.sig l.number l.to) l.number (λ number. slice_index l.row (l.place + number))
          ≡ string_bytes l.initial.text ++ constants_shown (named_by l.table) (constants_between l.sig l.from l.to) l.from (λ number. slice_index l.row (l.place + number));
      given : AreGiven l.table l.row (constants_between l.sig l.number l.to) (l.place + l.number);
    }
