-- The bytes of a log of lines are cut into what its version writes of each line, and into nothing else.
use Rattle.std.proofs.Common.{◌≡◌, ◌≢◌, ◌<◌, ℕ, Bool, inl, inr, List, [], ◌∷◌, ◌++◌, get_or, refl, sym, ap, subst, ◌∙◌, arith}
use Rattle.std.proofs.lemmas.List.{append_cancel_left}
use Rattle.cc_defs.specs.declared.log.EndWord.TheVariants as words
use Rattle.cc_defs.specs.declared.log.LogLine.{LogLine}
use Rattle.cc_defs.specs.declared.log.LogLine.TheVariants as lines
use Rattle.cc_defs.specs.declared.log.LogVerdict.{LogVerdict}
use Rattle.cc_defs.specs.declared.log.Version.{Version}
use Rattle.cc_defs.specs.declared.log.Version.TheVariants.{First, Second}
use Rattle.cc_defs.specs.LogBytes.{AreEntries, BeginsWith, binary_header, entry_bytes, line_behind}
use Rattle.cc_defs.specs.LogTexts.{header, line_text, lines_in}
use Rattle.cc_defs.specs.LogVersions.{line_bytes, lines_bytes, log_in, own_behind}
use Rattle.cc_defs.specs.Logs.{IsNotBinary, IsVerdict, IsVerdictBehind, IsVerdictOf, Subject}
use Rattle.cc_log.proofs.ConvertingLines.{CanWrite, CanWriteAll, spelled, texts_in}
use Rattle.cc_log.proofs.EntryBytes.{one_entry}
use Rattle.cc_log.proofs.Telling.{ends_once, first_text}

-- ---- texts

texts_cut : (counts : Bool → ℕ → ℕ) (own : ℕ) (all : List LogLine) → CanWriteAll First counts own all →
    lines_in (lines_bytes First counts own all) ≡ texts_in First counts own all
texts_cut counts own [] can = refl
texts_cut counts own (line ∷ others) can =
    first_text (line_text line) (lines_bytes First counts (own_behind counts own line) others) (ends_once line can.0)
    ∙ ap (λ (texts : List (List ℕ)). line_text line ∷ texts) (texts_cut counts (own_behind counts own line) others can.1)

header_cut : (rest : List ℕ) → lines_in (header ++ rest) ≡ header ∷ lines_in rest
header_cut rest = refl

log_cut : (counts : Bool → ℕ → ℕ) (all : List LogLine) → CanWriteAll First counts 1 all →
    lines_in (log_in First counts all) ≡ header ∷ texts_in First counts 1 all
log_cut counts all can = header_cut (lines_bytes First counts 1 all) ∙ ap (λ (texts : List (List ℕ)). header ∷ texts) (texts_cut counts 1 all can)

differ : (m n : ℕ) → m ≡ n → m < n → ⊥
differ m n is below = omega arith

-- the sixth byte of the two headers is another
not_binary : (rest : List ℕ) → IsNotBinary (header ++ rest)
not_binary rest behind is = differ 32 108 (ap (λ (t : List ℕ). get_or t 5 0) is) (omega arith)

-- ---- entries

some_bytes : (line : LogLine) (rest : List ℕ) → entry_bytes line ++ rest ≢ []
some_bytes (lines.Section conditions horizon) rest is = absurd cc
some_bytes (lines.Derived clause chain) rest is = absurd cc
some_bytes (lines.Block row) rest is = absurd cc
some_bytes (lines.End words.Empty) rest is = absurd cc
some_bytes (lines.End words.Found) rest is = absurd cc
some_bytes (lines.End words.Spent) rest is = absurd cc

entry_begins : (own : ℕ) (line : LogLine) (rest : List ℕ) → CanWrite Second own line →
    BeginsWith (line_bytes Second own line ++ rest) (line_behind own line) rest
entry_begins own line rest can = record { entry = line_bytes Second own line; read = spelled Second own line can; spelled = refl }

entries_are : (counts : Bool → ℕ → ℕ) (own : ℕ) (all : List LogLine) → CanWriteAll Second counts own all →
    AreEntries (lines_bytes Second counts own all) (texts_in Second counts own all)
entries_are counts own [] can = refl
entries_are counts own (line ∷ others) can =
    inl (
      line_behind own line,
      spelled Second own line can.0,
      (lines_bytes Second counts (own_behind counts own line) others, refl, entries_are counts (own_behind counts own line) others can.1),
    )

one_cut : (counts : Bool → ℕ → ℕ) (own : ℕ) (all : List LogLine) (texts : List (List ℕ)) → CanWriteAll Second counts own all →
    AreEntries (lines_bytes Second counts own all) texts → texts ≡ texts_in Second counts own all
one_cut counts own [] [] can are = refl
one_cut counts own [] (text ∷ texts) can (inl (line, is, (rest, whole, more))) =
    absurd (some_bytes line rest (ap (λ (t : List ℕ). t ++ rest) (sym is.spelled) ∙ sym whole))
one_cut counts own [] (text ∷ texts) can (inr (none, some, same, last)) = absurd (some refl)
one_cut counts own (line ∷ others) [] can are = absurd (some_bytes (line_behind own line) (lines_bytes Second counts (own_behind counts own line) others) are)
one_cut counts own (line ∷ others) (text ∷ texts) can (inr (none, some, same, last)) =
    absurd (none (line_behind own line) (lines_bytes Second counts (own_behind counts own line) others)
    (entry_begins own line (lines_bytes Second counts (own_behind counts own line) others) can.0))
one_cut counts own (line ∷ others) (text ∷ texts) can (inl (read, is, (rest, whole, more))) =
    let behind = lines_bytes Second counts (own_behind counts own line) others in
    let (same, behind_same) =
    one_entry (line_bytes Second own line ++ behind) read (line_behind own line) rest behind (record { entry = text; read = is; spelled = whole })
    (entry_begins own line behind can.0) in
    let first : text ≡ entry_bytes (line_behind own line) = is.spelled ∙ ap entry_bytes same in
    let next = one_cut counts (own_behind counts own line) others texts can.1 (subst (λ (bytes : List ℕ). AreEntries bytes texts) behind_same more) in
    ap (λ (t : List ℕ). t ∷ texts) first ∙ ap (λ (ts : List (List ℕ)). entry_bytes (line_behind own line) ∷ ts) next

-- ---- verdicts

module _ (subject : Subject) (counts : Bool → ℕ → ℕ) (all : List LogLine) (verdict : LogVerdict) where
  pub verdict_behind : (version : Version) → CanWriteAll version counts 1 all → IsVerdict subject (log_in version counts all) verdict →
      IsVerdictBehind version subject (texts_in version counts 1 all) verdict
  verdict_behind First can (inl (behind, is, read)) = absurd (not_binary (lines_bytes First counts 1 all) behind is)
  verdict_behind First can (inr (plain, is)) = of_texts (subst (λ (texts : List (List ℕ)). IsVerdictOf subject texts verdict) (log_cut counts all can) is) where
    of_texts : IsVerdictOf subject (header ∷ texts_in First counts 1 all) verdict → IsVerdictBehind First subject (texts_in First counts 1 all) verdict
    of_texts (inl (other, refused)) = absurd (other refl)
    of_texts (inr (same, found)) = found
  verdict_behind Second can (inl (behind, is, (texts, are, found))) =
      let same = append_cancel_left binary_header (lines_bytes Second counts 1 all) behind is in
      let cut = one_cut counts 1 all texts can (subst (λ (bytes : List ℕ). AreEntries bytes texts) (sym same) are) in
      subst (λ (ts : List (List ℕ)). IsVerdictBehind Second subject ts verdict) cut found
  verdict_behind Second can (inr (plain, is)) = absurd (plain (lines_bytes Second counts 1 all) refl)

  pub verdict_of : (version : Version) → CanWriteAll version counts 1 all → IsVerdictBehind version subject (texts_in version counts 1 all) verdict →
      IsVerdict subject (log_in version counts all) verdict
  verdict_of First can found =
      inr (
        not_binary (lines_bytes First counts 1 all),
        subst (λ (texts : List (List ℕ)). IsVerdictOf subject texts verdict) (sym (log_cut counts all can)) (inr (refl, found)),
      )
  verdict_of Second can found = inl (lines_bytes Second counts 1 all, refl, (texts_in Second counts 1 all, entries_are counts 1 all can, found))
