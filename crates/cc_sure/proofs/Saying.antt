-- What a turn of a run on certain and possible atoms says.
use Rattle.std.proofs.Common.{◌≡◌, refl, sym, ap}
use Rattle.cc_defs.specs.Runs.{Section}
use Rattle.cc_lists.specs.Sections.{section_lines}
use Rattle.cc_sure.specs.declared.turn.SureTurn.{SureTurn}
use Rattle.cc_sure.specs.declared.turn.SureTurn.TheVariants as turns
use Rattle.cc_silent.specs.Sought.{Sought}
use Rattle.cc_sure.specs.SureRuns.{Complete, NoneAtAll, Spent}
use Rattle.cc_sure.specs.SureTold.{SureTold, NoneAt, ExampleIs, NeverSo, AnswersAre, Ends}
use Rattle.cc_sure.specs.Sures.{IsSureTurn, sought_atom}

abbrev pub Says : SureTurn → SureTold → Type 0
Says (turns.NoHistory horizon) told = told ≡ NoneAt horizon
Says (turns.Example number row) told = told ≡ ExampleIs number row
Says (turns.Impossible position value lines) told = (section : Section) × (lines ≡ section_lines section) × (told ≡ NeverSo position value section)
Says (turns.Answers position answers) told = told ≡ AnswersAre position answers
Says turns.Complete told = (sought : Sought) × (told ≡ Ends sought Complete)
Says turns.NoneAtAll told = (sought : Sought) × (told ≡ Ends sought NoneAtAll)
Says (turns.Spent atom lines) told = (sought : Sought) × (section : Section) × (atom ≡ sought_atom sought) × (lines ≡ section_lines section) × (told ≡ Ends sought (Spent section))

pub is_of : (turn : SureTurn) (told : SureTold) → IsSureTurn turn told → Says turn told
is_of (turns.NoHistory horizon) (NoneAt empty) is = ap NoneAt (sym is)
is_of (turns.NoHistory horizon) (ExampleIs count shown) is = absurd is
is_of (turns.NoHistory horizon) (NeverSo at index section) is = absurd is
is_of (turns.NoHistory horizon) (AnswersAre at given) is = absurd is
is_of (turns.NoHistory horizon) (Ends sought Complete) is = absurd is
is_of (turns.NoHistory horizon) (Ends sought NoneAtAll) is = absurd is
is_of (turns.NoHistory horizon) (Ends sought (Spent section)) is = absurd is
is_of (turns.Example number row) (NoneAt empty) is = absurd is
is_of (turns.Example number row) (ExampleIs count shown) is = λ i. ExampleIs (sym is.0 i) (sym is.1 i)
is_of (turns.Example number row) (NeverSo at index section) is = absurd is
is_of (turns.Example number row) (AnswersAre at given) is = absurd is
is_of (turns.Example number row) (Ends sought Complete) is = absurd is
is_of (turns.Example number row) (Ends sought NoneAtAll) is = absurd is
is_of (turns.Example number row) (Ends sought (Spent section)) is = absurd is
is_of (turns.Impossible position value lines) (NoneAt empty) is = absurd is
is_of (turns.Impossible position value lines) (ExampleIs count shown) is = absurd is
is_of (turns.Impossible position value lines) (NeverSo at index section) is = (section, is.2, λ i. NeverSo (sym is.0 i) (sym is.1 i) section)
is_of (turns.Impossible position value lines) (AnswersAre at given) is = absurd is
is_of (turns.Impossible position value lines) (Ends sought Complete) is = absurd is
is_of (turns.Impossible position value lines) (Ends sought NoneAtAll) is = absurd is
is_of (turns.Impossible position value lines) (Ends sought (Spent section)) is = absurd is
is_of (turns.Answers position answers) (NoneAt empty) is = absurd is
is_of (turns.Answers position answers) (ExampleIs count shown) is = absurd is
is_of (turns.Answers position answers) (NeverSo at index section) is = absurd is
is_of (turns.Answers position answers) (AnswersAre at given) is = λ i. AnswersAre (sym is.0 i) (sym is.1 i)
is_of (turns.Answers position answers) (Ends sought Complete) is = absurd is
is_of (turns.Answers position answers) (Ends sought NoneAtAll) is = absurd is
is_of (turns.Answers position answers) (Ends sought (Spent section)) is = absurd is
is_of turns.Complete (NoneAt empty) is = absurd is
is_of turns.Complete (ExampleIs count shown) is = absurd is
is_of turns.Complete (NeverSo at index section) is = absurd is
is_of turns.Complete (AnswersAre at given) is = absurd is
is_of turns.Complete (Ends sought Complete) is = (sought, refl)
is_of turns.Complete (Ends sought NoneAtAll) is = absurd is
is_of turns.Complete (Ends sought (Spent section)) is = absurd is
is_of turns.NoneAtAll (NoneAt empty) is = absurd is
is_of turns.NoneAtAll (ExampleIs count shown) is = absurd is
is_of turns.NoneAtAll (NeverSo at index section) is = absurd is
is_of turns.NoneAtAll (AnswersAre at given) is = absurd is
is_of turns.NoneAtAll (Ends sought Complete) is = absurd is
is_of turns.NoneAtAll (Ends sought NoneAtAll) is = (sought, refl)
is_of turns.NoneAtAll (Ends sought (Spent section)) is = absurd is
is_of (turns.Spent atom lines) (NoneAt empty) is = absurd is
is_of (turns.Spent atom lines) (ExampleIs count shown) is = absurd is
is_of (turns.Spent atom lines) (NeverSo at index section) is = absurd is
is_of (turns.Spent atom lines) (AnswersAre at given) is = absurd is
is_of (turns.Spent atom lines) (Ends sought Complete) is = absurd is
is_of (turns.Spent atom lines) (Ends sought NoneAtAll) is = absurd is
is_of (turns.Spent atom lines) (Ends sought (Spent section)) is = (sought, section, is.0, is.1, refl)
