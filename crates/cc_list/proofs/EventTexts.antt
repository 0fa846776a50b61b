-- What events give behind others.
use Rattle.std.proofs.Common.{◌≡◌, ℕ, Bool, List, [], ◌∷◌, ◌++◌, refl, sym, ap, subst, ◌∙◌, append_assoc}
use Rattle.std.specs.Prelude.{flat_map}
use Rattle.std.proofs.lemmas.Grind.{flat_map-append}
use Rattle.cc_defs.specs.declared.event.Ending.{Ending}
use Rattle.cc_defs.specs.declared.event.Event.{Event}
use Rattle.cc_defs.specs.declared.event.Event.TheVariants as events
use Rattle.cc_defs.specs.declared.event.Told.{Told}
use Rattle.cc_defs.specs.declared.log.LogLine.{LogLine}
use Rattle.cc_defs.specs.declared.log.Version.{Version}
use Rattle.cc_defs.specs.Description.{Description}
use Rattle.cc_defs.specs.Events.{line_told, out_text, told_text}
use Rattle.cc_defs.specs.LogTexts.{line_text}
use Rattle.cc_defs.specs.LogVersions.{line_bytes, lines_bytes, own_behind}
use Rattle.cc_lists.specs.Subjects.{lines_of}
use Rattle.cc_tell.specs.declared.telling.Teller.{Teller}
use Rattle.cc_tell.specs.declared.telling.Teller.TheVariants as tellers
use Rattle.cc_tell.specs.Manners.{Manner, Summed, out_told, summed}
use Rattle.cc_tell.specs.EventTexts.{lines_text, own_after, texts_behind, texts_of}
use Rattle.cc_tell.specs.Tellers.{KeepsUp, manner_of}
use Rattle.cc_tell.specs.Givens.{joined}
use Rattle.cc_tell.proofs.OwnNumbers.{lines_both}

lines_more : (told more : List Told) → lines_text (told ++ more) ≡ lines_text told ++ lines_text more
lines_more told more = ap (λ (lines : List LogLine). flat_map line_text lines) (lines_both told more) ∙ flat_map-append line_text (lines_of told) (lines_of more)

module _ (version : Version) (counts : Bool → ℕ → ℕ) where
  bytes_both : (own : ℕ) (a b : List LogLine) → lines_bytes version counts own (a ++ b) ≡ lines_bytes version counts own a ++ lines_bytes version counts (own_after counts own a) b
  bytes_both own [] b = refl
  bytes_both own (line ∷ a) b =
      ap (λ (l : List ℕ). line_bytes version own line ++ l) (bytes_both (own_behind counts own line) a b)
      ∙ sym (append_assoc (line_bytes version own line) (lines_bytes version counts (own_behind counts own line) a)
      (lines_bytes version counts (own_after counts (own_behind counts own line) a) b))

  one_line : (own : ℕ) (event : Event) → lines_bytes version counts own (line_told event ++ []) ≡ flat_map (line_bytes version own) (line_told event)
  one_line own (events.Log line) = refl
  one_line own (events.NoHistory horizon) = refl
  one_line own (events.History horizon number) = refl
  one_line own (events.NoConditions horizon) = refl
  one_line own (events.Holds horizon) = refl
  one_line own (events.Counterexample horizon) = refl
  one_line own (events.Ended ending) = refl

  bytes_more : (before : List Told) (one : Told) → lines_bytes version counts 1 (lines_of (before ++ one ∷ []))
      ≡ lines_bytes version counts 1 (lines_of before) ++ flat_map (line_bytes version (own_after counts 1 (lines_of before))) (line_told one.event)
  bytes_more before one =
      ap (λ (l : List LogLine). lines_bytes version counts 1 l) (lines_both before (one ∷ []))
      ∙ (bytes_both 1 (lines_of before) (lines_of (one ∷ []))
      ∙ ap (λ (l : List ℕ). lines_bytes version counts 1 (lines_of before) ++ l) (one_line (own_after counts 1 (lines_of before)) one.event))

out_more : (d : Description) (told more : List Told) → out_text d (told ++ more) ≡ out_text d told ++ out_text d more
out_more d told more = flat_map-append (told_text d) told more

module _ (d : Description) (before : List Told) (one : Told) (counts : Bool → ℕ → ℕ) where
  abbrev AreJoined : Manner → Type 0
  AreJoined manner = joined (texts_of manner d before) (texts_behind manner d before one) ≡ texts_of manner d (before ++ one ∷ [])

  told_joined : (teller : Teller) → KeepsUp counts teller before → AreJoined (manner_of counts teller)
  told_joined (tellers.OneByOne version own) keeps = λ i. record { out = sym (out_more d before (one ∷ [])) i; err = []; log = sym (bytes_more version counts before one) i }
  told_joined (tellers.Summed size outcome) keeps = λ i. record {
    out = ap (λ (endings : List Ending). summed size before endings ++ out_told (Summed size) d (before ++ one ∷ [])) keeps.1 i;
    err = [];
    log = sym (lines_more before (one ∷ [])) i;
  }

  -- what was given, and what one event more gives, is what all of them give
  pub texts_more : (teller : Teller) (manner : Manner) → manner_of counts teller ≡ manner → KeepsUp counts teller before → AreJoined manner
  texts_more teller manner is keeps = subst (λ (m : Manner). AreJoined m) is (told_joined teller keeps)
