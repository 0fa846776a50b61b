-- What is read at the front of bytes is the line that stands there.
use Rattle.std.proofs.Common.{◌≡◌, ◌∙◌, ◌++◌, ℕ, List, ◌∷◌, Result, Ok, Err, IfOk, refl, sym, ap, subst}
use Rattle.std.proofs.lemmas.List.{append_cancel_left}
use Rattle.cc_check.specs.declared.line.Kind.{Kind}
use Rattle.cc_check.specs.declared.line.Kind.TheVariants as kinds
use Rattle.cc_log.specs.Entries.{HasNoHeading}
use Rattle.cc_check.specs.Reading.{IsEntryRead}
use Rattle.cc_check.specs.Reading.{IsRead}
use Rattle.cc_check.specs.Texts.{IsFirstLine}
use Rattle.cc_log.proofs.ConvertingLines.{meant}
use Rattle.cc_log.proofs.EntryBytes.{one_entry}
use Rattle.cc_log.proofs.Lines.{one_line}
use Rattle.cc_log.proofs.Telling.{ends_once, first_text}
use Rattle.cc_defs.specs.declared.log.LogLine.{LogLine}
use Rattle.cc_defs.specs.declared.log.LogLine.TheVariants as lines
use Rattle.cc_defs.specs.declared.log.Version.TheVariants.{First, Second}
use Rattle.cc_defs.specs.Clauses.{Literal}
use Rattle.cc_defs.specs.LogBytes.{BeginsWith, entry_bytes, line_behind}
use Rattle.cc_defs.specs.LogTexts.{IsFormed, IsLine, line_text, lines_in}
use Rattle.cc_defs.specs.Logs.{IsNoHeading}
use Rattle.cc_convert.specs.Held.{IsHeld, IsHoldable}
use Rattle.cc_convert.specs.Saying.{IsOverMost, IsSayableAt}

-- ---- version 1

pub cut_is : (line : LogLine) (bytes rest text behind : List ℕ) → IsFormed line → bytes ≡ line_text line ++ rest → IsFirstLine bytes text behind →
    (text ≡ line_text line) × (behind ≡ rest)
cut_is line bytes rest text behind formed is cut =
    let whole : text ∷ lines_in behind ≡ line_text line ∷ lines_in rest =
    sym cut.lines ∙ ap lines_in is ∙ first_text (line_text line) rest (ends_once line formed) in
    let same : text ≡ line_text line = cc in
    (same, append_cancel_left (line_text line) behind rest (ap (λ (t : List ℕ). t ++ behind) (sym same) ∙ sym cut.parts ∙ is))

module _ (text : List ℕ) (line : LogLine) (is : IsLine text line) where
  pub text_holdable : (literals : List Literal) (numbers : List ℕ) (kind : Kind) → IsNoHeading First text → IsRead text literals numbers kind → IsOverMost line →
      IsHoldable literals kind
  text_holdable literals numbers kinds.Heading none (conditions, horizon, read) over = none conditions horizon read
  text_holdable literals numbers kinds.Derived none read over = subst IsOverMost (sym (one_line text (lines.Derived literals numbers) line read is)) over
  text_holdable literals numbers kinds.Block none read over = tt
  text_holdable literals numbers (kinds.End word) none read over = tt

  text_says : (literals : List Literal) (numbers : List ℕ) (kind : Kind) (found : LogLine) → IsRead text literals numbers kind →
      IsHeld First 0 literals numbers kind found → found ≡ line
  text_says literals numbers kinds.Heading found read held = absurd held
  text_says literals numbers kinds.Derived found read held = held ∙ one_line text (lines.Derived literals numbers) line read is
  text_says literals numbers kinds.Block found read held = held ∙ one_line text (lines.Block numbers) line read is
  text_says literals numbers (kinds.End word) found read held = held ∙ one_line text (lines.End word) line read is

  pub text_result : {E : Type 0} (r : Result LogLine E) (literals : List Literal) (numbers : List ℕ) (kind : Kind) → IsRead text literals numbers kind →
      IfOk r (IsHeld First 0 literals numbers kind) → IfOk r (λ (found : LogLine). found ≡ line)
  text_result (Ok found) literals numbers kind read held = text_says literals numbers kind found read held
  text_result (Err fault) literals numbers kind read held = tt

-- ---- version 2

module _ (own : ℕ) (line : LogLine) (bytes rest : List ℕ) (sayable : IsSayableAt own line) (is : bytes ≡ entry_bytes (line_behind own line) ++ rest) where
  pub there : BeginsWith bytes (line_behind own line) rest
  there = record { entry = entry_bytes (line_behind own line); read = record { formed = sayable.entry; spelled = refl }; spelled = is }

  pub entry_is : (read : LogLine) (behind : List ℕ) → BeginsWith bytes read behind → (line_behind own read ≡ line) × (behind ≡ rest)
  entry_is read behind h =
      let (same, rests) = one_entry bytes read (line_behind own line) behind rest h there in
      (ap (line_behind own) same ∙ meant Second own line sayable.earlier, rests)

  pub entry_holdable : (literals : List Literal) (numbers : List ℕ) (kind : Kind) (behind : List ℕ) → HasNoHeading bytes → IsEntryRead bytes literals numbers kind behind →
      IsHoldable literals kind
  entry_holdable literals numbers kinds.Heading behind none (conditions, horizon, read) = none conditions horizon behind read
  entry_holdable literals numbers kinds.Derived behind none read = subst IsOverMost (sym (entry_is (lines.Derived literals numbers) behind read).0) sayable.over
  entry_holdable literals numbers kinds.Block behind none read = tt
  entry_holdable literals numbers (kinds.End word) behind none read = tt

  pub entry_says : (literals : List Literal) (numbers : List ℕ) (kind : Kind) (found : LogLine) (behind : List ℕ) → IsEntryRead bytes literals numbers kind behind →
      IsHeld Second own literals numbers kind found → (found ≡ line) × (behind ≡ rest)
  entry_says literals numbers kinds.Heading found behind read held = absurd held
  entry_says literals numbers kinds.Derived found behind read held =
      let (same, rests) = entry_is (lines.Derived literals numbers) behind read in (held ∙ same, rests)
  entry_says literals numbers kinds.Block found behind read held =
      let (same, rests) = entry_is (lines.Block numbers) behind read in (held ∙ same, rests)
  entry_says literals numbers (kinds.End word) found behind read held =
      let (same, rests) = entry_is (lines.End word) behind read in (held ∙ same, rests)
