-- The law of the plain form.
use Rattle.std.specs.Prelude.{◌≡◌, List, Option, Some}
use Rattle.cc_words.specs.Readings.{reading}
use Rattle.cc_words.specs.Words.{IsPlain, Pair, Text, given_of}

-- words of the plain form read as they stand
abbrev pub PlainWordsReadAsTheyStand : Type 0
PlainWordsReadAsTheyStand = (pairs : List Pair) (file : Option Text) (words : List Text)
    → IsPlain pairs file words → reading words ≡ Some (given_of pairs file)
