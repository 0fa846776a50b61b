-- What either version writes of a line, and what that is read as.
use Rattle.std.proofs.Common.{◌≡◌, ℕ, Bool, List, [], ◌∷◌, ◌++◌, length, suc, refl, sym, ap, subst, append-nil}
use Rattle.std.specs.List.{AllByRecursion}
use Rattle.cc_defs.specs.declared.log.LogLine.{LogLine}
use Rattle.cc_defs.specs.declared.log.LogLine.TheVariants as lines
use Rattle.cc_defs.specs.declared.log.Version.{Version}
use Rattle.cc_defs.specs.declared.log.Version.TheVariants.{First, Second}
use Rattle.cc_defs.specs.LogBytes.{BeginsWith, HasNumbers, IsEntry, IsSpelled, line_behind, line_meant}
use Rattle.cc_defs.specs.LogTexts.{IsFormed}
use Rattle.cc_defs.specs.LogVersions.{AreEarlier, AreSayable, NamesEarlier, line_bytes, own_behind}
use Rattle.cc_defs.specs.Logs.{IsNoHeading}
use Rattle.cc_log.specs.Entries.{AreBefore, NamesBefore}
use Rattle.cc_log.specs.Versions.{HaveEntries}
use Rattle.cc_log.proofs.EntryBytes.{one_entry}
use Rattle.cc_log.proofs.Lines.{one_line}
use Rattle.cc_log.proofs.WrittenBytes.{line_twice}

-- ---- one line

-- what is written for a line: the line itself, or that with distances
abbrev pub written_of : Version → ℕ → LogLine → LogLine
written_of First own line = line
written_of Second own line = line_behind own line

abbrev pub CanWrite : Version → ℕ → LogLine → Type 0
CanWrite First own line = IsFormed line
CanWrite Second own line = HasNumbers (line_behind own line)

pub spelled : (version : Version) (own : ℕ) (line : LogLine) → CanWrite version own line →
    IsSpelled version (line_bytes version own line) (written_of version own line)
spelled First own line can = record { formed = can; spelled = refl }
spelled Second own line can = record { formed = can; spelled = refl }

chain_before : (own : ℕ) (chain : List ℕ) → AreEarlier own chain → AreBefore own chain
chain_before own [] h = tt
chain_before own (number ∷ []) h = h.1
chain_before own (number ∷ pivot ∷ chain) h = (h.1, chain_before own chain h.2)

names_before : (own : ℕ) (line : LogLine) → NamesEarlier own line → NamesBefore own line
names_before own (lines.Section conditions horizon) h = tt
names_before own (lines.Derived clause chain) h = chain_before own chain h
names_before own (lines.Block row) h = tt
names_before own (lines.End word) h = tt

pub meant : (version : Version) (own : ℕ) (line : LogLine) → NamesEarlier own line → line_meant version own (written_of version own line) ≡ line
meant First own line names = refl
meant Second own line names = line_twice own line (names_before own line names)

alone : (text : List ℕ) (line : LogLine) → IsEntry text line → BeginsWith text line []
alone text line is = record { entry = text; read = is; spelled = sym (append-nil text) }

pub one_spelled : (version : Version) (text : List ℕ) (a b : LogLine) → IsSpelled version text a → IsSpelled version text b → a ≡ b
one_spelled First text a b x y = one_line text a b x y
one_spelled Second text a b x y = (one_entry text a b [] [] (alone text a x) (alone text b y)).0

-- what is written is read as nothing else
pub read_as : (version : Version) (own : ℕ) (line read : LogLine) → CanWrite version own line → IsSpelled version (line_bytes version own line) read →
    read ≡ written_of version own line
read_as version own line read can is = one_spelled version (line_bytes version own line) read (written_of version own line) is (spelled version own line can)

-- ---- headings

-- a line within a section
abbrev pub IsWithin : LogLine → Type 0
IsWithin (lines.Section conditions horizon) = ⊥
IsWithin (lines.Derived clause chain) = Unit {0}
IsWithin (lines.Block row) = Unit {0}
IsWithin (lines.End word) = Unit {0}

heading_written : (version : Version) (own : ℕ) (line : LogLine) (conditions : Bool) (horizon : ℕ) →
    lines.Section conditions horizon ≡ written_of version own line → lines.Section conditions horizon ≡ line
heading_written First own line conditions horizon is = is
heading_written Second own (lines.Section c h) conditions horizon is = is
heading_written Second own (lines.Derived clause chain) conditions horizon is = absurd cc
heading_written Second own (lines.Block row) conditions horizon is = absurd cc
heading_written Second own (lines.End word) conditions horizon is = absurd cc

pub is_heading : (version : Version) (own : ℕ) (line : LogLine) (conditions : Bool) (horizon : ℕ) → CanWrite version own line →
    IsSpelled version (line_bytes version own line) (lines.Section conditions horizon) → lines.Section conditions horizon ≡ line
is_heading version own line conditions horizon can is =
    heading_written version own line conditions horizon (read_as version own line (lines.Section conditions horizon) can is)

pub heading_spelled : (version : Version) (own : ℕ) (conditions : Bool) (horizon : ℕ) → CanWrite version own (lines.Section conditions horizon) →
    IsSpelled version (line_bytes version own (lines.Section conditions horizon)) (lines.Section conditions horizon)
heading_spelled First own conditions horizon can = spelled First own (lines.Section conditions horizon) can
heading_spelled Second own conditions horizon can = spelled Second own (lines.Section conditions horizon) can

pub no_heading : (version : Version) (own : ℕ) (line : LogLine) → CanWrite version own line → IsWithin line → IsNoHeading version (line_bytes version own line)
no_heading version own line can within conditions horizon is = subst IsWithin (sym (is_heading version own line conditions horizon can is)) within

pub is_within : (version : Version) (own : ℕ) (line : LogLine) → CanWrite version own line → IsNoHeading version (line_bytes version own line) → IsWithin line
is_within version own (lines.Section conditions horizon) can none = none conditions horizon (heading_spelled version own conditions horizon can)
is_within version own (lines.Derived clause chain) can none = tt
is_within version own (lines.Block row) can none = tt
is_within version own (lines.End word) can none = tt

-- ---- lines

-- the number of the next clause behind lines
abbrev pub own_after : (counts : Bool → ℕ → ℕ) → ℕ → List LogLine → ℕ
own_after counts own [] = own
own_after counts own (line ∷ others) = own_after counts (own_behind counts own line) others

abbrev pub texts_in : Version → (counts : Bool → ℕ → ℕ) → ℕ → List LogLine → List (List ℕ)
texts_in version counts own [] = []
texts_in version counts own (line ∷ others) = line_bytes version own line ∷ texts_in version counts (own_behind counts own line) others

abbrev pub CanWriteAll : Version → (counts : Bool → ℕ → ℕ) → ℕ → List LogLine → Type 0
CanWriteAll version counts own [] = Unit {0}
CanWriteAll version counts own (line ∷ others) = CanWrite version own line × CanWriteAll version counts (own_behind counts own line) others

-- chains name earlier clauses alone
abbrev pub NameEarlier : (counts : Bool → ℕ → ℕ) → ℕ → List LogLine → Type 0
NameEarlier counts own [] = Unit {0}
NameEarlier counts own (line ∷ others) = NamesEarlier own line × NameEarlier counts (own_behind counts own line) others

module _ (counts : Bool → ℕ → ℕ) where
  pub all_written : (version : Version) (own : ℕ) (all : List LogLine) → AllByRecursion IsFormed all → HaveEntries counts own all → CanWriteAll version counts own all
  all_written version own [] formed entered = tt
  all_written First own (line ∷ others) formed entered = (formed.0, all_written First (own_behind counts own line) others formed.1 entered.1)
  all_written Second own (line ∷ others) formed entered = (entered.0, all_written Second (own_behind counts own line) others formed.1 entered.1)

  pub sayable_formed : (own : ℕ) (all : List LogLine) → AreSayable counts own all → AllByRecursion IsFormed all
  sayable_formed own [] said = tt
  sayable_formed own (line ∷ others) said = (said.0, sayable_formed (own_behind counts own line) others said.3)

  pub sayable_names : (own : ℕ) (all : List LogLine) → AreSayable counts own all → NameEarlier counts own all
  sayable_names own [] said = tt
  sayable_names own (line ∷ others) said = (said.2, sayable_names (own_behind counts own line) others said.3)

  pub names_front : (own : ℕ) (xs ys : List LogLine) → NameEarlier counts own (xs ++ ys) → NameEarlier counts own xs
  names_front own [] ys names = tt
  names_front own (x ∷ xs) ys names = (names.0, names_front (own_behind counts own x) xs ys names.1)

  pub names_rest : (own : ℕ) (xs ys : List LogLine) → NameEarlier counts own (xs ++ ys) → NameEarlier counts (own_after counts own xs) ys
  names_rest own [] ys names = names
  names_rest own (x ∷ xs) ys names = names_rest (own_behind counts own x) xs ys names.1

  module _ (version : Version) where
    pub texts_append : (own : ℕ) (xs ys : List LogLine) →
        texts_in version counts own (xs ++ ys) ≡ texts_in version counts own xs ++ texts_in version counts (own_after counts own xs) ys
    texts_append own [] ys = refl
    texts_append own (x ∷ xs) ys = ap (λ (texts : List (List ℕ)). line_bytes version own x ∷ texts) (texts_append (own_behind counts own x) xs ys)

    pub texts_length : (own : ℕ) (all : List LogLine) → length (texts_in version counts own all) ≡ length all
    texts_length own [] = refl
    texts_length own (line ∷ others) = ap suc (texts_length (own_behind counts own line) others)

    pub written_front : (own : ℕ) (xs ys : List LogLine) → CanWriteAll version counts own (xs ++ ys) → CanWriteAll version counts own xs
    written_front own [] ys can = tt
    written_front own (x ∷ xs) ys can = (can.0, written_front (own_behind counts own x) xs ys can.1)

    pub written_rest : (own : ℕ) (xs ys : List LogLine) → CanWriteAll version counts own (xs ++ ys) → CanWriteAll version counts (own_after counts own xs) ys
    written_rest own [] ys can = can
    written_rest own (x ∷ xs) ys can = written_rest (own_behind counts own x) xs ys can.1
