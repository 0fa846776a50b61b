-- The texts of a log's bytes in each version, one line a text, and the first of them.
use Rattle.std.specs.Prelude.{◌≡◌, ℕ, ◌<◌, ◌⊎◌, List, [], ◌∷◌, ◌++◌, length}
use Rattle.cc_defs.specs.declared.log.Version.{Version}
use Rattle.cc_defs.specs.declared.log.Version.TheVariants.{First, Second}
use Rattle.cc_defs.specs.LogBytes.{AreEntries}
use Rattle.cc_defs.specs.LogTexts.{lines_in}

-- what is read behind a text does not change the lines of the text
abbrev pub EndsLine : List ℕ → Type 0
EndsLine text = (behind : List ℕ) → lines_in (text ++ behind) ≡ lines_in text ++ lines_in behind

pub record IsFirstLine (text line rest : List ℕ) : Type 0 where
  pub lines : lines_in text ≡ line ∷ lines_in rest
  pub parts : text ≡ line ++ rest
  pub some : 0 < length line
  pub alone : lines_in line ≡ line ∷ []
  pub ends : (rest ≡ []) ⊎ EndsLine line

-- ---- both versions

-- bytes are those of these texts, as this version writes them
abbrev pub AreTexts : Version → List ℕ → List (List ℕ) → Type 0
AreTexts First bytes texts = texts ≡ lines_in bytes
AreTexts Second bytes texts = AreEntries bytes texts

-- bytes are those of these texts, whatever stands behind them
abbrev pub EndsTexts : Version → List ℕ → List (List ℕ) → Type 0
EndsTexts version bytes texts = (behind : List ℕ) (more : List (List ℕ)) → AreTexts version behind more → AreTexts version (bytes ++ behind) (texts ++ more)

-- Bytes begin with this text, and this is behind it: nothing, where the text has no end.
pub record IsFirstText (version : Version) (bytes text rest : List ℕ) : Type 0 where
  pub parts : bytes ≡ text ++ rest
  pub some : 0 < length text
  pub whole : ((rest ≡ []) × AreTexts version bytes (text ∷ [])) ⊎ EndsTexts version text (text ∷ [])
  pub behind : (texts : List (List ℕ)) → AreTexts version bytes texts → (more : List (List ℕ)) × (texts ≡ text ∷ more) × AreTexts version rest more
