-- The first text of bytes, in each version.
use Rattle.std.proofs.Common.{◌≡◌, ℕ, ◌<◌, inl, inr, true, false, List, [], ◌∷◌, ◌++◌, Some, None, length, refl, sym, ap, subst, ◌∙◌, arith, append-nil, length-append}
use Rattle.cc_defs.specs.declared.log.EndWord.TheVariants as words
use Rattle.cc_defs.specs.declared.log.LogLine.{LogLine}
use Rattle.cc_defs.specs.declared.log.LogLine.TheVariants as lines
use Rattle.cc_defs.specs.declared.log.Version.{Version}
use Rattle.cc_defs.specs.declared.log.Version.TheVariants.{First, Second}
use Rattle.cc_defs.specs.Clauses.{Literal}
use Rattle.cc_defs.specs.LogBytes.{AreEntries, BeginsWith, HasNoEntry, IsEntry, entry_bytes}
use Rattle.cc_defs.specs.LogTexts.{lines_in}
use Rattle.cc_defs.specs.Sections.{HasNoForm}
use Rattle.cc_check.specs.declared.line.Heading.{Heading}
use Rattle.cc_check.specs.declared.line.Kind.{Kind}
use Rattle.cc_check.specs.declared.line.Kind.TheVariants as kinds
use Rattle.cc_log.specs.Entries.{HasNoHeading}
use Rattle.cc_check.specs.Reading.{IsEntryRead}
use Rattle.cc_check.specs.Parts.{IsCut}
use Rattle.cc_check.specs.declared.line.LineParts.{LineParts}
use Rattle.cc_check.specs.Readers.{literals_of, numbers_of}
use Rattle.cc_check.specs.Reading.{IsFirstRead, IsReadIn}
use Rattle.cc_check.specs.Texts.{AreTexts, EndsLine, EndsTexts, IsFirstLine, IsFirstText}
use Rattle.cc_log.proofs.EntryBytes.{one_entry}

-- ---- version 1

line_ends : (text : List ℕ) → lines_in text ≡ text ∷ [] → EndsLine text → EndsTexts First text (text ∷ [])
line_ends text alone ends behind more is =
    ap (λ (ts : List (List ℕ)). text ∷ ts) is ∙ ap (λ (ts : List (List ℕ)). ts ++ lines_in behind) (sym alone) ∙ sym (ends behind)

pub text_shorter : (version : Version) (bytes text rest : List ℕ) → IsFirstText version bytes text rest → length rest < length bytes
text_shorter version bytes text rest h = let e = ap length h.parts ∙ length-append text rest in let some = h.some in omega arith

pub line_text_first : (bytes text rest : List ℕ) → IsFirstLine bytes text rest → IsFirstText First bytes text rest
line_text_first bytes text rest cut = record {
  parts = cut.parts;
  some = cut.some;
  whole = elim cut.ends [
    | inl nil ↦ inl (nil, sym (cut.lines ∙ ap (λ (t : List ℕ). text ∷ lines_in t) nil))
    | inr ends ↦ inr (line_ends text cut.alone ends)
  ];
  behind = λ texts are. (lines_in rest, are ∙ cut.lines, refl);
}

-- ---- version 2

entry_long : (line : LogLine) → 0 < length (entry_bytes line)
entry_long (lines.Section true horizon) = omega arith
entry_long (lines.Section false horizon) = omega arith
entry_long (lines.Derived clause chain) = omega arith
entry_long (lines.Block row) = omega arith
entry_long (lines.End words.Empty) = omega arith
entry_long (lines.End words.Found) = omega arith
entry_long (lines.End words.Spent) = omega arith

pub entry_some : (text : List ℕ) (line : LogLine) → IsEntry text line → 0 < length text
entry_some text line is = subst (λ (t : List ℕ). 0 < length t) (sym is.spelled) (entry_long line)

front_some : (bytes text rest : List ℕ) → bytes ≡ text ++ rest → 0 < length text → bytes ≡ [] → ⊥
front_some bytes text rest parts some nil =
    let e = ap length parts ∙ length-append text rest in
    let n : length bytes ≡ 0 = ap length nil in
    omega arith

module _ (bytes text rest : List ℕ) (line : LogLine) (is : IsEntry text line) (parts : bytes ≡ text ++ rest) where
  entry_behind : (texts : List (List ℕ)) → AreEntries bytes texts → (more : List (List ℕ)) × (texts ≡ text ∷ more) × AreEntries rest more
  entry_behind [] nil = absurd (front_some bytes text rest parts (entry_some text line is) nil)
  entry_behind (first ∷ texts) (inl (other, read, (others, spelled, are))) =
      let same = one_entry bytes line other rest others (record { entry = text; read = is; spelled = parts }) (record { entry = first; read = read; spelled = spelled }) in
      (texts, ap (λ (t : List ℕ). t ∷ texts) (read.spelled ∙ ap entry_bytes (sym same.0) ∙ sym is.spelled), subst (λ (t : List ℕ). AreEntries t texts) (sym same.1) are)
  entry_behind (first ∷ texts) (inr (none, some, same, nil)) = absurd (none line rest (record { entry = text; read = is; spelled = parts }))

  pub entry_text_first : IsFirstText Second bytes text rest
  entry_text_first = record {
    parts = parts;
    some = entry_some text line is;
    whole = inr (λ behind more are. inl (line, is, (behind, refl, are)));
    behind = entry_behind;
  }

module _ (bytes : List ℕ) (none : HasNoEntry bytes) where
  pub no_form : HasNoForm Second bytes
  no_form line is = none line [] (record { entry = bytes; read = is; spelled = sym (append-nil bytes) })

  last_behind : (texts : List (List ℕ)) → 0 < length bytes → AreEntries bytes texts → (more : List (List ℕ)) × (texts ≡ bytes ∷ more) × AreEntries [] more
  last_behind [] some nil = absurd (let n : length bytes ≡ 0 = ap length nil in omega arith)
  last_behind (first ∷ texts) some (inl (line, read, (rest, spelled, are))) = absurd (none line rest (record { entry = first; read = read; spelled = spelled }))
  last_behind (first ∷ texts) some (inr (never, more, same, nil)) =
      ([], ap (λ (t : List ℕ). t ∷ texts) same ∙ ap (λ (ts : List (List ℕ)). bytes ∷ ts) nil, refl)

  pub last_text_first : 0 < length bytes → IsFirstText Second bytes bytes []
  last_text_first some = record {
    parts = sym (append-nil bytes);
    some = some;
    whole = inl (refl, inr (none, (λ nil. let n : length bytes ≡ 0 = ap length nil in omega arith), refl, refl));
    behind = λ texts are. last_behind texts some are;
  }

  pub unread_first : 0 < length bytes → IsFirstRead Second bytes None []
  unread_first some = record { text = bytes; first = last_text_first some; read = no_form }

  pub unread_cut : 0 < length bytes → IsCut Second bytes None []
  unread_cut some = record { text = bytes; first = last_text_first some; read = λ conditions horizon is. no_form (lines.Section conditions horizon) is }

begun_first : (bytes rest : List ℕ) (line : LogLine) (h : BeginsWith bytes line rest) → IsFirstText Second bytes h.entry rest
begun_first bytes rest line h = entry_text_first bytes h.entry rest line h.read h.spelled

-- the text of an entry
pub entry_text : (bytes : List ℕ) (literals : List Literal) (numbers : List ℕ) (kind : Kind) (rest : List ℕ) → IsEntryRead bytes literals numbers kind rest →
    (text : List ℕ) × IsFirstText Second bytes text rest × IsReadIn Second text literals numbers kind
entry_text bytes literals numbers kinds.Heading rest (conditions, horizon, h) =
    (h.entry, begun_first bytes rest (lines.Section conditions horizon) h, (conditions, horizon, h.read))
entry_text bytes literals numbers kinds.Derived rest h = (h.entry, begun_first bytes rest (lines.Derived literals numbers) h, h.read)
entry_text bytes literals numbers kinds.Block rest h = (h.entry, begun_first bytes rest (lines.Block numbers) h, h.read)
entry_text bytes literals numbers (kinds.End word) rest h = (h.entry, begun_first bytes rest (lines.End word) h, h.read)

pub entry_first : (bytes : List ℕ) (line : LineParts) (rest : List ℕ) → IsEntryRead bytes (literals_of line.literals) (numbers_of line.numbers) line.kind rest →
    IsFirstRead Second bytes (Some line) rest
entry_first bytes line rest h =
    let (text, first, read) = entry_text bytes (literals_of line.literals) (numbers_of line.numbers) line.kind rest h in
    record { text = text; first = first; read = read }

pub heading_cut : (bytes : List ℕ) (heading : Heading) (rest : List ℕ) → BeginsWith bytes (lines.Section heading.conditions heading.horizon) rest →
    IsCut Second bytes (Some heading) rest
heading_cut bytes heading rest h =
    record { text = h.entry; first = begun_first bytes rest (lines.Section heading.conditions heading.horizon) h; read = h.read }

pub other_cut : (bytes : List ℕ) (literals : List Literal) (numbers : List ℕ) (kind : Kind) (rest : List ℕ) → HasNoHeading bytes → IsEntryRead bytes literals numbers kind rest →
    IsCut Second bytes None rest
other_cut bytes literals numbers kind rest none h =
    let (text, first, _) = entry_text bytes literals numbers kind rest h in
    record {
      text = text;
      first = first;
      read = λ conditions horizon is. none conditions horizon rest (record { entry = text; read = is; spelled = first.parts });
    }

-- ---- both versions

pub none_of : (version : Version) → AreTexts version [] []
none_of First = refl
none_of Second = refl

pub nothing_in : (version : Version) (texts : List (List ℕ)) → AreTexts version [] texts → texts ≡ []
nothing_in First texts is = is
nothing_in Second [] are = refl
nothing_in Second (text ∷ texts) (inl (line, read, (rest, spelled, are))) = absurd (front_some [] text rest spelled (entry_some text line read) refl)
nothing_in Second (text ∷ texts) (inr (none, some, same, nil)) = absurd (some refl)

pub one_more : (version : Version) (bytes text rest : List ℕ) → IsFirstText version bytes text rest → (more : List (List ℕ)) → AreTexts version rest more →
    AreTexts version bytes (text ∷ more)
one_more version bytes text rest cut more are = elim cut.whole [
  | inl (nil, whole) ↦
      let none = nothing_in version more (subst (λ (t : List ℕ). AreTexts version t more) nil are) in
      subst (λ (ts : List (List ℕ)). AreTexts version bytes (text ∷ ts)) (sym none) whole
  | inr ends ↦ subst (λ (t : List ℕ). AreTexts version t (text ∷ more)) (sym cut.parts) (ends rest more are)
]

pub same_first : (version : Version) (bytes one other rest others : List ℕ) → IsFirstText version bytes one rest → IsFirstText version bytes other others →
    (more : List (List ℕ)) → AreTexts version others more → other ≡ one
same_first version bytes one other rest others a b more are =
    let (texts, is, behind) = a.behind (other ∷ more) (one_more version bytes other others b more are) in
    cc

-- ---- bytes are those of one list of texts

one_entries : (bytes : List ℕ) (xs ys : List (List ℕ)) → AreEntries bytes xs → AreEntries bytes ys → xs ≡ ys
one_entries bytes [] ys nil are = sym (nothing_in Second ys (subst (λ (t : List ℕ). AreEntries t ys) nil are))
one_entries bytes (text ∷ texts) ys (inl (line, read, (rest, spelled, more))) are =
    let (others, is, behind) = (entry_text_first bytes text rest line read spelled).behind ys are in
    ap (λ (ts : List (List ℕ)). text ∷ ts) (one_entries rest texts others more behind) ∙ sym is
one_entries bytes (text ∷ texts) ys (inr (none, some, same, nil)) are =
    let (others, is, behind) = (last_text_first bytes none (long bytes some)).behind ys are in
    ap (λ (ts : List (List ℕ)). text ∷ ts) (nil ∙ sym (nothing_in Second others behind)) ∙ ap (λ (t : List ℕ). t ∷ others) same ∙ sym is
  where
    long : (bs : List ℕ) → (bs ≡ [] → ⊥) → 0 < length bs
    long [] some = absurd (some refl)
    long (b ∷ bs) some = omega arith

pub one_list : (version : Version) (bytes : List ℕ) (xs ys : List (List ℕ)) → AreTexts version bytes xs → AreTexts version bytes ys → xs ≡ ys
one_list First bytes xs ys x y = x ∙ sym y
one_list Second bytes xs ys x y = one_entries bytes xs ys x y
