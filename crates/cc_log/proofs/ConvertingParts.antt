-- The sections of a log of lines, in either version: each is a heading and the lines behind it.
use Rattle.std.proofs.Common.{◌≡◌, ℕ, ◌+◌, Bool, List, [], ◌∷◌, ◌++◌, length, map, refl, sym, ap, ap₂, subst, ◌∙◌}
use Rattle.std.specs.List.{AllByRecursion}
use Rattle.cc_defs.specs.declared.log.LogLine.{LogLine}
use Rattle.cc_defs.specs.declared.log.LogLine.TheVariants as lines
use Rattle.cc_defs.specs.declared.log.Version.{Version}
use Rattle.cc_defs.specs.LogBytes.{IsSpelled}
use Rattle.cc_defs.specs.LogVersions.{line_bytes, own_behind}
use Rattle.cc_defs.specs.Logs.{AreSections, IsNoHeading, SectionText}
use Rattle.cc_log.proofs.ConvertingLines.{CanWriteAll, IsWithin, heading_spelled, is_heading, is_within, no_heading, own_after, texts_append, texts_in, texts_length, written_front, written_rest}

-- ---- sections of lines

-- A section, in whatever version: its heading, the number of its line, and the lines behind it.
pub record Part : Type 0 where
  pub conditions : Bool
  pub horizon : ℕ
  pub line : ℕ
  pub inside : List LogLine

abbrev pub said_of : List Part → List LogLine
said_of [] = []
said_of (part ∷ parts) = lines.Section part.conditions part.horizon ∷ (part.inside ++ said_of parts)

-- no heading stands within a part, and each has its number
abbrev pub AreParts : ℕ → List Part → Type 0
AreParts line [] = Unit {0}
AreParts line (part ∷ parts) = (part.line ≡ line) × AllByRecursion IsWithin part.inside × AreParts (line + 1 + length part.inside) parts

-- ---- texts that are cut in two

record IsCutAt (version : Version) (counts : Bool → ℕ → ℕ) (own : ℕ) (all : List LogLine) (xs ys : List (List ℕ)) : Type 0 where
  inside : List LogLine
  outer : List LogLine
  whole : all ≡ inside ++ outer
  front : xs ≡ texts_in version counts own inside
  behind : ys ≡ texts_in version counts (own_after counts own inside) outer

cut_more : (version : Version) (counts : Bool → ℕ → ℕ) (own : ℕ) (line : LogLine) (others : List LogLine) (x : List ℕ) (xs ys : List (List ℕ)) →
    line_bytes version own line ≡ x → IsCutAt version counts (own_behind counts own line) others xs ys → IsCutAt version counts own (line ∷ others) (x ∷ xs) ys
cut_more version counts own line others x xs ys first cut = record {
  inside = line ∷ cut.inside;
  outer = cut.outer;
  whole = ap (λ (ls : List LogLine). line ∷ ls) cut.whole;
  front = ap₂ (λ (t : List ℕ) (ts : List (List ℕ)). t ∷ ts) (sym first) cut.front;
  behind = cut.behind;
}

cut_at : (version : Version) (counts : Bool → ℕ → ℕ) (own : ℕ) (all : List LogLine) (xs ys : List (List ℕ)) →
    texts_in version counts own all ≡ xs ++ ys → IsCutAt version counts own all xs ys
cut_at version counts own all [] ys is = record { inside = []; outer = all; whole = refl; front = refl; behind = sym is }
cut_at version counts own [] (x ∷ xs) ys is = absurd cc
cut_at version counts own (line ∷ others) (x ∷ xs) ys is =
    let first : line_bytes version own line ≡ x = cc in
    let next : texts_in version counts (own_behind counts own line) others ≡ xs ++ ys = cc in
    cut_more version counts own line others x xs ys first (cut_at version counts (own_behind counts own line) others xs ys next)

module _ (version : Version) (counts : Bool → ℕ → ℕ) where
  all_within : (own : ℕ) (inside : List LogLine) → CanWriteAll version counts own inside →
      AllByRecursion (IsNoHeading version) (texts_in version counts own inside) → AllByRecursion IsWithin inside
  all_within own [] can none = tt
  all_within own (line ∷ others) can none =
      (is_within version own line can.0 none.0, all_within (own_behind counts own line) others can.1 none.1)

  none_within : (own : ℕ) (inside : List LogLine) → CanWriteAll version counts own inside → AllByRecursion IsWithin inside →
      AllByRecursion (IsNoHeading version) (texts_in version counts own inside)
  none_within own [] can within = tt
  none_within own (line ∷ others) can within =
      (no_heading version own line can.0 within.0, none_within (own_behind counts own line) others can.1 within.1)

  -- ---- sections as a version writes them

  -- the number of the first clause that lines of a part add
  abbrev pub own_in : Part → ℕ
  own_in part = counts part.conditions part.horizon + 1

  abbrev pub section_in : Part → SectionText
  section_in part = record {
    version = version;
    conditions = part.conditions;
    horizon = part.horizon;
    line = part.line;
    texts = texts_in version counts (own_in part) part.inside;
  }

  pub sections_are : (line own : ℕ) (parts : List Part) → AreParts line parts → CanWriteAll version counts own (said_of parts) →
      AreSections version line (texts_in version counts own (said_of parts)) (map section_in parts)
  sections_are line own [] are can = refl
  sections_are line own (part ∷ parts) are can =
      let front = written_front counts version (own_in part) part.inside (said_of parts) can.1 in
      let rest = written_rest counts version (own_in part) part.inside (said_of parts) can.1 in
      let next = sections_are (line + 1 + length part.inside) (own_after counts (own_in part) part.inside) parts are.2 rest in (
        line_bytes version own (lines.Section part.conditions part.horizon),
        texts_in version counts (own_after counts (own_in part) part.inside) (said_of parts),
        ap (λ (ts : List (List ℕ)). line_bytes version own (lines.Section part.conditions part.horizon) ∷ ts)
            (texts_append counts version (own_in part) part.inside (said_of parts)),
        are.0,
        heading_spelled version own part.conditions part.horizon can.0,
        none_within (own_in part) part.inside front are.1,
        subst (λ (n : ℕ). AreSections version (line + 1 + n) (texts_in version counts (own_after counts (own_in part) part.inside) (said_of parts)) (map section_in parts))
            (sym (texts_length counts version (own_in part) part.inside)) next,
        refl,
      )

  -- ---- and back

  -- The sections of the texts of lines.
  pub record HasParts (line : ℕ) (all : List LogLine) (sections : List SectionText) : Type 0 where
    pub parts : List Part
    pub are : AreParts line parts
    pub said : all ≡ said_of parts
    pub written : sections ≡ map section_in parts

  -- a section is told by its texts and its version
  section_is : (section : SectionText) (inside : List LogLine) → section.version ≡ version →
      section.texts ≡ texts_in version counts (counts section.conditions section.horizon + 1) inside →
      section ≡ section_in (record { conditions = section.conditions; horizon = section.horizon; line = section.line; inside = inside })
  section_is section inside same texts =
      ap (λ (v : Version). record section { version = v }) same ∙ ap (λ (ts : List (List ℕ)). record section { version = version; texts = ts }) texts

  one_part : (line : ℕ) (section : SectionText) (sections : List SectionText) (inside outer : List LogLine) → section.line ≡ line → section.version ≡ version →
      section.texts ≡ texts_in version counts (counts section.conditions section.horizon + 1) inside → AllByRecursion IsWithin inside →
      HasParts (line + 1 + length section.texts) outer sections →
      HasParts line (lines.Section section.conditions section.horizon ∷ (inside ++ outer)) (section ∷ sections)
  one_part line section sections inside outer at same texts within next =
      let part : Part = record { conditions = section.conditions; horizon = section.horizon; line = section.line; inside = inside } in
      let many : length section.texts ≡ length inside = ap length texts ∙ texts_length counts version (own_in part) inside in
      record {
        parts = part ∷ next.parts;
        are = (at, within, subst (λ (n : ℕ). AreParts (line + 1 + n) next.parts) many next.are);
        said = ap (λ (ls : List LogLine). lines.Section section.conditions section.horizon ∷ (inside ++ ls)) next.said;
        written = ap (λ (s : SectionText). s ∷ sections) (section_is section inside same texts)
            ∙ ap (λ (ss : List SectionText). section_in part ∷ ss) next.written;
      }

  pub has_parts : (line own : ℕ) (all : List LogLine) (sections : List SectionText) → CanWriteAll version counts own all →
      AreSections version line (texts_in version counts own all) sections → HasParts line all sections
  has_parts line own [] [] can are = record { parts = []; are = tt; said = refl; written = refl }
  has_parts line own (first ∷ others) [] can are = absurd cc
  has_parts line own [] (section ∷ sections) can (heading, rest, is, at, spelled, none, are, same) = absurd cc
  has_parts line own (first ∷ others) (section ∷ sections) can (heading, rest, is, at, spelled, none, are, same) =
      let text : heading ≡ line_bytes version own first = cc in
      let texts : texts_in version counts (own_behind counts own first) others ≡ section.texts ++ rest = cc in
      let heads : lines.Section section.conditions section.horizon ≡ first =
      is_heading version own first section.conditions section.horizon can.0
      (subst (λ (t : List ℕ). IsSpelled version t (lines.Section section.conditions section.horizon)) text spelled) in
      let own_there = counts section.conditions section.horizon + 1 in
      let can_there = subst (λ (l : LogLine). CanWriteAll version counts (own_behind counts own l) others) (sym heads) can.1 in
      let cut = cut_at version counts own_there others section.texts rest
      (subst (λ (l : LogLine). texts_in version counts (own_behind counts own l) others ≡ section.texts ++ rest) (sym heads) texts) in
      let can_both = subst (CanWriteAll version counts own_there) cut.whole can_there in
      let within = all_within own_there cut.inside (written_front counts version own_there cut.inside cut.outer can_both)
      (subst (AllByRecursion (IsNoHeading version)) cut.front none) in
      let next = has_parts (line + 1 + length section.texts) (own_after counts own_there cut.inside) cut.outer sections
      (written_rest counts version own_there cut.inside cut.outer can_both)
      (subst (λ (ts : List (List ℕ)). AreSections version (line + 1 + length section.texts) ts sections) cut.behind are) in
      subst (λ (ls : List LogLine). HasParts line ls (section ∷ sections))
      (ap (λ (ls : List LogLine). lines.Section section.conditions section.horizon ∷ ls) (sym cut.whole) ∙ ap (λ (l : LogLine). l ∷ others) heads)
      (one_part line section sections cut.inside cut.outer at same cut.front within next)
