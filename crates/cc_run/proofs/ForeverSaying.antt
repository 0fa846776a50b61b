-- What a turn of a run on every horizon says, by the turn.
use Rattle.std.proofs.Common.{◌≡◌, ap, ap₂, sym, ℕ}
use Rattle.cc_defs.specs.Runs.{Section}
use Rattle.cc_forever.specs.declared.turn.ForeverTurn.{ForeverTurn}
use Rattle.cc_forever.specs.declared.turn.ForeverTurn.TheVariants as turns
use Rattle.cc_forever.specs.Forevers.{IsForeverTurn}
use Rattle.cc_forever.specs.ForeverTold.{ForeverTold, FailsOver, FoundAt, HoldsOver, LeftOpen, NoneAt, SpentIn}
use Rattle.cc_lists.specs.Sections.{section_lines}
use Rattle.cc_silent.specs.declared.forever.ForeverHeading.{ForeverHeading}

abbrev pub Says : ForeverTurn → ForeverTold → Type 0
Says (turns.NoHistory horizon lines) told = (section : Section) × (lines ≡ section_lines section) × (told ≡ NoneAt horizon section)
Says (turns.Fails steps) told = told ≡ FailsOver steps
Says (turns.Holds steps lines) told = (section : Section) × (lines ≡ section_lines section) × (told ≡ HoldsOver steps section)
Says (turns.Found horizon row) told = told ≡ FoundAt horizon row
Says (turns.Unsettled steps example) told = told ≡ LeftOpen steps example
Says (turns.Spent heading lines) told = (section : Section) × (lines ≡ section_lines section) × (told ≡ SpentIn heading section)

pub is_of : (turn : ForeverTurn) (told : ForeverTold) → IsForeverTurn turn told → Says turn told
is_of (turns.NoHistory horizon lines) (NoneAt at section) (same, lines_are) = (section, lines_are, ap (λ (n : ℕ). NoneAt n section) (sym same))
is_of (turns.NoHistory horizon lines) (FailsOver over) is = absurd is
is_of (turns.NoHistory horizon lines) (HoldsOver over section) is = absurd is
is_of (turns.NoHistory horizon lines) (FoundAt at found) is = absurd is
is_of (turns.NoHistory horizon lines) (LeftOpen over other) is = absurd is
is_of (turns.NoHistory horizon lines) (SpentIn sought section) is = absurd is
is_of (turns.Fails steps) (NoneAt at section) is = absurd is
is_of (turns.Fails steps) (FailsOver over) same = ap FailsOver (sym same)
is_of (turns.Fails steps) (HoldsOver over section) is = absurd is
is_of (turns.Fails steps) (FoundAt at found) is = absurd is
is_of (turns.Fails steps) (LeftOpen over other) is = absurd is
is_of (turns.Fails steps) (SpentIn sought section) is = absurd is
is_of (turns.Holds steps lines) (NoneAt at section) is = absurd is
is_of (turns.Holds steps lines) (FailsOver over) is = absurd is
is_of (turns.Holds steps lines) (HoldsOver over section) (same, lines_are) = (section, lines_are, ap (λ (n : ℕ). HoldsOver n section) (sym same))
is_of (turns.Holds steps lines) (FoundAt at found) is = absurd is
is_of (turns.Holds steps lines) (LeftOpen over other) is = absurd is
is_of (turns.Holds steps lines) (SpentIn sought section) is = absurd is
is_of (turns.Found horizon row) (NoneAt at section) is = absurd is
is_of (turns.Found horizon row) (FailsOver over) is = absurd is
is_of (turns.Found horizon row) (HoldsOver over section) is = absurd is
is_of (turns.Found horizon row) (FoundAt at found) (same, row_is) = ap₂ FoundAt (sym same) (sym row_is)
is_of (turns.Found horizon row) (LeftOpen over other) is = absurd is
is_of (turns.Found horizon row) (SpentIn sought section) is = absurd is
is_of (turns.Unsettled steps example) (NoneAt at section) is = absurd is
is_of (turns.Unsettled steps example) (FailsOver over) is = absurd is
is_of (turns.Unsettled steps example) (HoldsOver over section) is = absurd is
is_of (turns.Unsettled steps example) (FoundAt at found) is = absurd is
is_of (turns.Unsettled steps example) (LeftOpen over row) (same, row_is) = ap₂ LeftOpen (sym same) (sym row_is)
is_of (turns.Unsettled steps example) (SpentIn sought section) is = absurd is
is_of (turns.Spent heading lines) (NoneAt at section) is = absurd is
is_of (turns.Spent heading lines) (FailsOver over) is = absurd is
is_of (turns.Spent heading lines) (HoldsOver over section) is = absurd is
is_of (turns.Spent heading lines) (FoundAt at found) is = absurd is
is_of (turns.Spent heading lines) (LeftOpen over other) is = absurd is
is_of (turns.Spent heading lines) (SpentIn sought section) (same, lines_are) = (section, lines_are, ap (λ (h : ForeverHeading). SpentIn h section) (sym same))
