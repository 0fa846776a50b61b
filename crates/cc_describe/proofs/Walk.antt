-- A file is opened, and gone through statement by statement.
use Rattle.std.proofs.Common.{◌≡◌, ◌∙◌, ℕ, zero, suc, ◌+◌, ◌-◌, ◌<◌, ◌≤◌, List, [], ◌∷◌, ◌++◌, length, take, drop, map, slice_index_or, unwrap_or, Option, Some, None, option_map, IfSome, IsSome, Result, Ok, Err, IsErrAnd, IsErrOf, IfOk, OnOk, refl, sym, ap, subst, inl, inr, append_assoc, append-nil, length-append, arith}
use Rattle.std.specs.Option.{option_or}
use Rattle.std.specs.List.{AllByRecursion}
use Rattle.std.proofs.lemmas.List.{take_all, take-append-le, take_more, take-append-drop}
use Rattle.std.proofs.Math.Seq.{drop-cons}
use Rattle.std.proofs.lemmas.Bool.Decides.{nat_tests}
use Rattle.cc_defs.specs.Limits.{limit_number}
use Rattle.cc_defs.specs.declared.refusal.LimitAt.TheVariants as limits
use Rattle.cc_defs.specs.declared.refusal.Fault.{Fault}
use Rattle.cc_defs.specs.declared.refusal.Fault.TheVariants as faults
use Rattle.cc_defs.specs.Resolved.{plain_base_law, plain_query}
use Rattle.cc_defs.specs.Tokens.{TokenView, AreTokens, statements as statements_of}
use Rattle.cc_ports.specs.Contents.{Contents, with_rest}
use Rattle.cc_ports.specs.declared.whole.ReadStop.{ReadStop}
use Rattle.cc_ports.specs.declared.whole.ReadStop.TheVariants as stops
use Rattle.cc_text.specs.Laws.{CutOrStop, StatementsAreTokens}
use Rattle.cc_text.specs.Reading.{HasRead, HasStopped}
use Rattle.cc_syntax.specs.Parsing.{TreeOrRefusal}
use Rattle.cc_describe.specs.declared.heads.Heads.{Heads}
use Rattle.cc_wide.specs.WideLaws.{plain_wide_base}
use Rattle.cc_describe.specs.declared.files.Halt.{Halt}
use Rattle.cc_describe.specs.declared.files.Halt.TheVariants as halts
use Rattle.cc_describe.specs.declared.progress.Progress.{Progress}
use Rattle.cc_describe.specs.Describing.{AreFirstNames}
use Rattle.cc_describe.specs.FirstRefusal.{declared_in, bytes_in, opening_refusal, first_behind, opened_behind, opened_until}
use Rattle.cc_describe.specs.Places.{Files, Place, Opened, Barred, Said, AreThere, content, included, opened_in, AreBehind, AreOfStatement, AreOfStatements, AreOfText, NoPlaces, ArePlaces}
use Rattle.cc_describe.specs.ProgressViews.{IsProgress, IsOpened, IsRefusedOpening, IsRefusedStatement, IsTaken, FindsFiles, GoesThrough, OpensFirst, halt_of}
use Rattle.cc_describe.proofs.HasPlaces.{Has, behind_exists, statement_places_exist, statements_exist, text_places_exist, places_exist}
use Rattle.cc_describe.proofs.ProgressLemmas.{step, nothing_more}
use Rattle.cc_sorts.specs.Tables.{IsTable}
use Rattle.cc_describe.proofs.PlacesAppended.{all_first, first_behind_all, first_of, first_opened, first_until, names_behind, opened_in_all, opened_in_behind, opened_until_some}

-- ---- what the desk tells

-- a desk that was not asked tells what it told
pub untouched : (told : Option Contents) → (rest : List ℕ) × (told ≡ option_map (with_rest rest) told)
untouched None = ([], refl)
untouched (Some contents) = (contents.rest, refl)

pub touched_again : (rest : List ℕ) (old now new : Option Contents) → now ≡ option_map (with_rest rest) old → (more : List ℕ)
    → new ≡ option_map (with_rest more) now → (left : List ℕ) × (new ≡ option_map (with_rest left) old)
touched_again rest None now new first more second = ([], rw (second, first) refl)
touched_again rest (Some contents) now new first more second = (more, rw (second, first) refl)

-- the files stay
pub tells_still : (rest : List ℕ) (old now : Option Contents) (contents : Contents) → now ≡ option_map (with_rest rest) old
    → old ≡ Some contents → now ≡ Some (with_rest rest contents)
tells_still rest old now contents after told = rw (after, told) refl

pub content_is : (told : Option Contents) (contents : Contents) (name bytes : List ℕ) → told ≡ Some contents
    → IfSome told (λ c. c.files name ≡ Some bytes) → bytes ≡ content contents.files name
content_is told contents name bytes is there =
    let found = rw is at there in
    ap (λ file. unwrap_or file []) (sym found)

-- ---- a file is opened

opened_progress : {which : Heads} (before : List Place) (name bytes : List ℕ) (old entered new : Progress) → IsProgress which old before
    → entered.names.items ≡ old.names.items ++ name ∷ [] → entered ≡ record old { names = entered.names; around = entered.around }
    → new.bytes ≡ entered.bytes + length bytes → new ≡ record entered { bytes = new.bytes }
    → IsProgress which new (before ++ Opened name bytes ∷ [])
opened_progress before name bytes old entered new was names entering counted counting =
    step before (Opened name bytes) old new was
    (ap (λ p. p.heads) counting ∙ ap (λ p. p.heads) entering)
    (subst (λ table. IsTable table (declared_in before ++ [])) (sym (ap (λ p. p.table) counting ∙ ap (λ p. p.table) entering)) (rw append-nil was.table))
    (nothing_more _ _ _ (ap (λ p. map plain_base_law p.laws.items) counting ∙ ap (λ p. map plain_base_law p.laws.items) entering) refl)
    (nothing_more _ _ _ (ap (λ p. map plain_wide_base p.wide.items) counting ∙ ap (λ p. map plain_wide_base p.wide.items) entering) refl)
    (nothing_more _ _ _ (ap (λ p. map plain_query p.queries.items) counting ∙ ap (λ p. map plain_query p.queries.items) entering) refl)
    (nothing_more _ _ _ (ap (λ p. p.labels) counting ∙ ap (λ p. p.labels) entering) refl)
    (ap (λ p. p.names.items) counting ∙ names)
    (counted ∙ ap (λ p. p.bytes + length bytes) entering)

unrefused_opening : (before : List Place) (bytes : List ℕ) → length bytes ≤ limit_number limits.FileBytes
    → bytes_in before + length bytes ≤ limit_number limits.TotalBytes → opening_refusal before bytes ≡ None
unrefused_opening before bytes short few = grind (arith, nat_tests)

pub is_opened : {which : Heads} (before : List Place) (name bytes : List ℕ) (old entered new : Progress) (count : ℕ) → IsProgress which old before
    → entered.names.items ≡ old.names.items ++ name ∷ [] → entered ≡ record old { names = entered.names; around = entered.around }
    → count ≡ length bytes → length bytes ≤ limit_number limits.FileBytes
    → (new.bytes ≡ entered.bytes + count) × (entered.bytes + count ≤ limit_number limits.TotalBytes) → new ≡ record entered { bytes = new.bytes }
    → IsOpened which before name bytes new
is_opened before name bytes old entered new count was names entering is short counted counting =
    let bytes_were : entered.bytes ≡ old.bytes = ap (λ (p : Progress). p.bytes) entering in
    record {
      unrefused = unrefused_opening before bytes short (omega (arith, was.bytes, counted.1));
      opened = opened_progress before name bytes old entered new was names entering (counted.0 ∙ ap (λ n. entered.bytes + n) is) counting;
    }

-- ---- the places of a file with their statements gone through

-- the places of what is included, so many files deep
abbrev pub AreInside : ℕ → Files → List (List ℕ) → ℕ → List ℕ → List Place → Type 0
AreInside zero files around = NoPlaces
AreInside (suc deep) files around = ArePlaces deep files around

inside_exist : CutOrStop → StatementsAreTokens → TreeOrRefusal → (deep : ℕ) (files : Files) (around : List (List ℕ)) → Has (AreInside deep files around)
inside_exist cut are read zero files around number name = ([], refl)
inside_exist cut are read (suc deep) files around number name = places_exist cut are read deep files around number name

of_file : (deep : ℕ) (files : Files) (around : List (List ℕ)) (file : ℕ) (name : List ℕ) (behind : List Place)
    → AreOfText (AreInside deep files (around ++ name ∷ [])) file (around ++ name ∷ []) (content files name) behind
    → ArePlaces deep files around file name (Opened name (content files name) ∷ behind)
of_file zero files around file name behind are = (behind, are, refl)
of_file (suc deep) files around file name behind are = (behind, are, refl)

-- ---- one statement

-- where a statement is refused
pub statement_refused : {which : Heads} → CutOrStop → StatementsAreTokens → TreeOrRefusal → (deep : ℕ) (files : Files) (around : List (List ℕ)) (file : ℕ)
    (before : List Place) (tokens : List TokenView) (fault : Fault) (old new : Progress) → AreTokens tokens → IsProgress which old before → new.names ≡ old.names
    → IsRefusedStatement which before file around tokens fault
    → GoesThrough which (AreOfStatement (AreInside deep files around) file around (length (opened_in before)) tokens) before {T = Unit {0}} (Err (halt_of fault)) new
statement_refused cut are read deep files around file before tokens faults.OutOfMemory old new of_kinds was names refused =
    let places = statement_places_exist read (AreInside deep files around) (inside_exist cut are read deep files around) file around (length (opened_in before)) tokens of_kinds in
    (places.0, places.1, all_first _ (ap (λ l. l.items) names ∙ was.names))
statement_refused cut are read deep files around file before tokens (faults.Refused refusal) old new of_kinds was names (inl refused) =
    (Barred refusal ∷ [], inl (refusal, refused, refl), refl, ap (λ l. l.items) names ∙ was.names ∙ sym (append-nil (opened_in before)))
statement_refused {which} cut are read deep files around file before tokens (faults.Refused refusal) old new of_kinds was names (inr (statement, parsed, refused)) =
    let behind = behind_exists (AreInside deep files around) (inside_exist cut are read deep files around) (length (opened_in before)) (included statement.part) in (
      Said file around statement ∷ behind.0,
      inr (statement, behind.0, parsed, behind.1, refl),
      ap (λ one. option_or one (first_behind which (before ++ Said file around statement ∷ []) behind.0)) refused,
      ap (λ l. l.items) names ∙ was.names ∙ sym (append-nil (opened_in before))
          ∙ ap (λ one. opened_in before ++ opened_behind one (opened_until which (before ++ Said file around statement ∷ []) behind.0)) (sym refused),
    )

-- where it includes nothing
pub statement_alone : {which : Heads} (Inside : ℕ → List ℕ → List Place → Type 0) (around : List (List ℕ)) (file : ℕ)
    (before : List Place) (tokens : List TokenView) (done : Unit {0}) (new : Progress) → IsTaken which before file around tokens None new
    → GoesThrough which (AreOfStatement Inside file around (length (opened_in before)) tokens) before (Ok done) new
statement_alone Inside around file before tokens done new (statement, parsed, is, says) = (
  Said file around statement ∷ [],
  inr (statement, [], parsed, subst (λ name. AreBehind Inside (length (opened_in before)) name []) is refl, refl),
  ap (λ one. option_or one None) says.unrefused,
  says.taken,
)

-- where it includes a file, which was gone through
pub statement_includes : {which : Heads} (Inside : ℕ → List ℕ → List Place → Type 0) (around : List (List ℕ)) (file : ℕ)
    (before : List Place) (tokens : List TokenView) (name : List ℕ) (result : Result (Unit {0}) Halt) (now new : Progress) → IsTaken which before file around tokens (Some name) now
    → ((more : List Place) → IsProgress which now more → GoesThrough which (Inside (length (opened_in more)) name) more result new)
    → GoesThrough which (AreOfStatement Inside file around (length (opened_in before)) tokens) before result new
statement_includes {which} Inside around file before tokens name result now new (statement, parsed, is, says) goes =
    let place = Said file around statement in
    let more = before ++ place ∷ [] in
    let number : length (opened_in more) ≡ length (opened_in before) = ap length (opened_in_behind before place ∙ append-nil (opened_in before)) in
    let are : (behind : List Place) → Inside (length (opened_in more)) name behind → AreOfStatement Inside file around (length (opened_in before)) tokens (place ∷ behind) =
    λ behind inside. inr (
      statement,
      behind,
      parsed,
      subst (λ name. AreBehind Inside (length (opened_in before)) name behind) is (subst (λ n. Inside n name behind) number inside),
      refl,
    ) in
    step result are (goes more says.taken)
  where
    place : Place
    place = Said file around statement

    step : (result : Result (Unit {0}) Halt)
        → ((behind : List Place) → Inside (length (opened_in (before ++ place ∷ []))) name behind → AreOfStatement Inside file around (length (opened_in before)) tokens (place ∷ behind))
        → GoesThrough which (Inside (length (opened_in (before ++ place ∷ []))) name) (before ++ place ∷ []) result new
        → GoesThrough which (AreOfStatement Inside file around (length (opened_in before)) tokens) before result new
    step (Ok done) are (behind, inside, none, kept) = (
      place ∷ behind,
      are behind inside,
      ap (λ one. option_or one (first_behind which (before ++ place ∷ []) behind)) says.unrefused ∙ none,
      subst (IsProgress which new) (append_assoc before (place ∷ []) behind) kept,
    )
    step (Err (halts.Refused refusal)) are (behind, inside, some, names) = (
      place ∷ behind,
      are behind inside,
      ap (λ one. option_or one (first_behind which (before ++ place ∷ []) behind)) says.unrefused ∙ some,
      names ∙ ap (λ l. l ++ opened_until which (before ++ place ∷ []) behind) (opened_in_behind before place ∙ append-nil (opened_in before))
          ∙ ap (λ one. opened_in before ++ opened_behind one (opened_until which (before ++ place ∷ []) behind)) (sym says.unrefused),
    )
    step (Err halts.ReadFault) are (behind, inside, first) =
        (place ∷ behind, are behind inside, first_of new.names.items (names_behind which before (place ∷ []) behind (ap (λ one. option_or one None) says.unrefused)) first)
    step (Err halts.OutOfMemory) are (behind, inside, first) =
        (place ∷ behind, are behind inside, first_of new.names.items (names_behind which before (place ∷ []) behind (ap (λ one. option_or one None) says.unrefused)) first)

-- ---- the statements of a file

statements_all : (Inside : ℕ → List ℕ → List Place → Type 0) (file : ℕ) (around : List (List ℕ)) (number : ℕ) (all more : List (List TokenView)) (done rest : List Place)
    → AreOfStatements Inside file around number all done → AreOfStatements Inside file around (number + length (opened_in done)) more rest
    → AreOfStatements Inside file around number (all ++ more) (done ++ rest)
statements_all Inside file around number [] more done rest none are =
    let number_is : number + length (opened_in done) ≡ number = rw none (omega arith) in
    subst (λ places. AreOfStatements Inside file around number more (places ++ rest)) (sym none)
    (subst (λ n. AreOfStatements Inside file around n more rest) number_is are)
statements_all Inside file around number (tokens ∷ all) more done rest (first, later, is_first, are_later, is) are =
    let number_is : number + length (opened_in done) ≡ (number + length (opened_in first)) + length (opened_in later) =
    rw (is, opened_in_all first later, length-append) (omega arith) in (
      first,
      later ++ rest,
      is_first,
      statements_all Inside file around (number + length (opened_in first)) all more later rest are_later
          (subst (λ n. AreOfStatements Inside file around n more rest) number_is are),
      ap (λ places. places ++ rest) is ∙ append_assoc first later rest,
    )

all_later : {X : Type 0} (P : X → Type 0) (xs ys : List X) → AllByRecursion P (xs ++ ys) → AllByRecursion P ys
all_later P [] ys all = all
all_later P (x ∷ xs) ys all = all_later P xs ys all.1

-- what comes before a statement, the statement, and what comes behind it
parted : (statements : List (List TokenView)) (i : ℕ) → i < length statements
    → statements ≡ take i statements ++ (slice_index_or statements i [] ∷ drop (suc i) statements)
parted statements i within =
    sym (take-append-drop i statements) ∙ ap (λ l. take i statements ++ l) (drop-cons statements i [] within)

-- Before a statement: the file was opened, and the places of the statements before it were gone through.
pub record Midway (which : Heads) (deep : ℕ) (files : Files) (before : List Place) (name : List ℕ) (file : ℕ) (around : List (List ℕ)) (statements : List (List TokenView)) (i : ℕ) (progress : Progress) : Type 0 where
  pub unrefused : opening_refusal before (content files name) ≡ None
  pub number : file ≡ length (opened_in before)
  pub done : List Place
  pub are : AreOfStatements (AreInside deep files around) file around (file + 1) (take i statements) done
  pub none : first_behind which (before ++ Opened name (content files name) ∷ []) done ≡ None
  pub kept : IsProgress which progress ((before ++ Opened name (content files name) ∷ []) ++ done)

-- the places up to there
abbrev pub up_to : {which : Heads} {deep : ℕ} {files : Files} {before : List Place} {name : List ℕ} {file : ℕ} {around : List (List ℕ)} {statements : List (List TokenView)} {i : ℕ} {progress : Progress}
    → Midway which deep files before name file around statements i progress → List Place
up_to {files = files} {before = before} {name = name} m = (before ++ Opened name (content files name) ∷ []) ++ m.done

-- the number of the next file
next_number : (before done : List Place) (name bytes : List ℕ) (file : ℕ) → file ≡ length (opened_in before)
    → length (opened_in ((before ++ Opened name bytes ∷ []) ++ done)) ≡ (file + 1) + length (opened_in done)
next_number before done name bytes file number =
    let all = ap length (opened_in_all (before ++ Opened name bytes ∷ []) done ∙ ap (λ l. l ++ opened_in done) (opened_in_behind before (Opened name bytes))) in
    omega (arith, all, length-append (opened_in before ++ name ∷ []) (opened_in done), length-append (opened_in before) (name ∷ []))

-- before the first statement
pub midway_begins : {which : Heads} {deep : ℕ} {files : Files} {before : List Place} {name bytes : List ℕ} {file : ℕ} {around : List (List ℕ)} {statements : List (List TokenView)} {progress : Progress}
    → bytes ≡ content files name → IsOpened which before name bytes progress → file ≡ length (opened_in before)
    → Midway which deep files before name file around statements 0 progress
midway_begins {which} {deep} {files} {before} {name} {bytes} {file} {around} {statements} {progress} is opened number =
    let opened_is = subst (λ b. IsOpened which before name b progress) is opened in
    record {
      unrefused = opened_is.unrefused;
      number = number;
      done = [];
      are = refl;
      none = refl;
      kept = subst (IsProgress which progress) (sym (append-nil (before ++ Opened name (content files name) ∷ []))) opened_is.opened;
    }

-- behind a statement that was gone through
pub midway_goes : {which : Heads} {deep : ℕ} {files : Files} {before : List Place} {name : List ℕ} {file : ℕ} {around : List (List ℕ)} {statements : List (List TokenView)} {i : ℕ} {old : Progress} (new : Progress)
    (done : Unit {0}) → i < length statements → (m : Midway which deep files before name file around statements i old)
    → GoesThrough which (AreOfStatement (AreInside deep files around) file around (length (opened_in (up_to m))) (slice_index_or statements i []))
    (up_to m) (Ok done) new
    → Midway which deep files before name file around statements (i + 1) new
midway_goes {which} {deep} {files} {before} {name} {file} {around} {statements} {i} {old} new done within m (places, are, none, kept) =
    let start = before ++ Opened name (content files name) ∷ [] in
    let tokens = slice_index_or statements i [] in
    let one : AreOfStatements (AreInside deep files around) file around ((file + 1) + length (opened_in m.done)) (tokens ∷ []) places =
    (places, [], subst (λ n. AreOfStatement (AreInside deep files around) file around n tokens places) (next_number before m.done name (content files name) file m.number) are, refl, sym (append-nil places)) in
    record {
      unrefused = m.unrefused;
      number = m.number;
      done = m.done ++ places;
      are = subst (λ all. AreOfStatements (AreInside deep files around) file around (file + 1) all (m.done ++ places)) (sym (take_more statements i [] within))
          (statements_all (AreInside deep files around) file around (file + 1) (take i statements) (tokens ∷ []) m.done places m.are one);
      none = first_behind_all which start m.done places ∙ ap (λ first. option_or first (first_behind which (start ++ m.done) places)) m.none ∙ none;
      kept = subst (IsProgress which new) (append_assoc start m.done places) kept;
    }

-- behind the last statement
pub progress_left : {which : Heads} (places : List Place) (old new : Progress) → IsProgress which old places → new ≡ record old { around = new.around } → IsProgress which new places
progress_left {which} places old new kept left =
    subst (λ p. IsProgress which p places) (sym left)
    (record { heads = kept.heads; table = kept.table; laws = kept.laws; wide = kept.wide; queries = kept.queries; labels = kept.labels; names = kept.names; bytes = kept.bytes })

pub midway_ends : {which : Heads} {deep : ℕ} {files : Files} {before : List Place} {name : List ℕ} {file : ℕ} {statements : List (List TokenView)} {i : ℕ} {old : Progress} (around : List (List ℕ)) (new : Progress)
    (done : Unit {0}) → length statements ≤ i → HasRead (content files name) statements
    → Midway which deep files before name file (around ++ name ∷ []) statements i old → new ≡ record old { around = new.around }
    → GoesThrough which (ArePlaces deep files around (length (opened_in before)) name) before (Ok done) new
midway_ends {which} {deep} {files} {before} {name} {file} {statements} {i} {old} around new done past (tokens, cut, short, read) m left =
    let are = subst (λ all. AreOfStatements (AreInside deep files (around ++ name ∷ [])) file (around ++ name ∷ []) (file + 1) all m.done) (take_all i statements past ∙ read) m.are in
    let bytes = content files name in (
      Opened name bytes ∷ m.done,
      subst (λ n. ArePlaces deep files around n name (Opened name bytes ∷ m.done)) m.number
          (of_file deep files around file name m.done (inr (tokens, cut, short, are))),
      ap (λ one. option_or one (first_behind which (before ++ Opened name bytes ∷ []) m.done)) m.unrefused ∙ m.none,
      progress_left (before ++ Opened name bytes ∷ m.done) old new (subst (IsProgress which old) (append_assoc before (Opened name bytes ∷ []) m.done) m.kept) left,
    )

-- the names opened, where a statement follows
names_midway : {which : Heads} {deep : ℕ} {files : Files} {before : List Place} {name : List ℕ} {file : ℕ} {around : List (List ℕ)} {statements : List (List TokenView)} {i : ℕ} {old : Progress}
    (m : Midway which deep files before name file around statements i old) (behind : List Place)
    → opened_in (up_to m) ++ opened_until which (up_to m) behind ≡ opened_in before ++ opened_until which before (Opened name (content files name) ∷ (m.done ++ behind))
names_midway {which = which} {files = files} {before = before} {name = name} m behind =
    let place = Opened name (content files name) in
    names_behind which (before ++ place ∷ []) m.done behind m.none ∙ names_behind which before (place ∷ []) (m.done ++ behind) (ap (λ one. option_or one None) m.unrefused)

-- a statement of a text that was read, and those behind it
pub later_are_tokens : StatementsAreTokens → (text : List ℕ) (statements : List (List TokenView)) (i : ℕ) → i < length statements → HasRead text statements
    → AllByRecursion AreTokens (slice_index_or statements i [] ∷ drop (suc i) statements)
later_are_tokens are text statements i within (tokens, cut, short, is) =
    all_later AreTokens (take i statements) (slice_index_or statements i [] ∷ drop (suc i) statements)
    (subst (AllByRecursion AreTokens) (parted statements i within) (subst (AllByRecursion AreTokens) (sym is) (are 1 text tokens cut short)))

-- whatever places a statement has, the file has some with these
midway_whole : {which : Heads} → CutOrStop → StatementsAreTokens → TreeOrRefusal
    → {deep : ℕ} {files : Files} {before : List Place} {name : List ℕ} {file : ℕ} {statements : List (List TokenView)} {i : ℕ} {old : Progress} (around : List (List ℕ))
    → i < length statements → HasRead (content files name) statements
    → (m : Midway which deep files before name file (around ++ name ∷ []) statements i old) (places : List Place)
    → AreOfStatement (AreInside deep files (around ++ name ∷ [])) file (around ++ name ∷ []) (length (opened_in (up_to m))) (slice_index_or statements i []) places
    → (rest : List Place) × ArePlaces deep files around (length (opened_in before)) name (Opened name (content files name) ∷ (m.done ++ (places ++ rest)))
midway_whole cut are read {deep} {files} {before} {name} {file} {statements} {i} {old} around within has m places first =
    let bytes = content files name in
    let within_file = around ++ name ∷ [] in
    let Inside = AreInside deep files within_file in
    let number = (file + 1) + length (opened_in m.done) in
    let one = slice_index_or statements i [] in
    let later = drop (suc i) statements in
    let later_are = later_are_tokens are bytes statements i within has in
    let rest = statements_exist read Inside (inside_exist cut are read deep files within_file) file within_file (number + length (opened_in places)) later later_are.1 in
    let behind = m.done ++ (places ++ rest.0) in
    let here : AreOfStatements Inside file within_file number (one ∷ later) (places ++ rest.0) =
    (places, rest.0, subst (λ n. AreOfStatement Inside file within_file n one places) (next_number before m.done name bytes file m.number) first, rest.1, refl) in
    let whole : AreOfStatements Inside file within_file (file + 1) (statements_of has.0) behind =
    subst (λ all. AreOfStatements Inside file within_file (file + 1) all behind) (sym (parted statements i within) ∙ has.3)
    (statements_all Inside file within_file (file + 1) (take i statements) (one ∷ later) m.done (places ++ rest.0) m.are here) in (
      rest.0,
      subst (λ n. ArePlaces deep files around n name (Opened name bytes ∷ behind)) m.number
          (of_file deep files around file name behind (inr (has.0, has.1, has.2, whole))),
    )

-- at a statement that is refused
pub midway_stops : {which : Heads} → CutOrStop → StatementsAreTokens → TreeOrRefusal
    → {deep : ℕ} {files : Files} {before : List Place} {name : List ℕ} {file : ℕ} {statements : List (List TokenView)} {i : ℕ} {old : Progress} (around : List (List ℕ)) (new : Progress)
    (halt : Halt) → i < length statements → HasRead (content files name) statements
    → (m : Midway which deep files before name file (around ++ name ∷ []) statements i old)
    → GoesThrough which (AreOfStatement (AreInside deep files (around ++ name ∷ [])) file (around ++ name ∷ []) (length (opened_in (up_to m))) (slice_index_or statements i []))
    (up_to m) {T = Unit {0}} (Err halt) new
    → GoesThrough which (ArePlaces deep files around (length (opened_in before)) name) before {T = Unit {0}} (Err halt) new
midway_stops {which} cut are read {deep} {files} {before} {name} {file} {statements} {i} {old} around new halt within has m goes = stopped halt goes
  where
    start : List Place
    start = before ++ Opened name (content files name) ∷ []

    mid : List Place
    mid = start ++ m.done

    Are : List Place → Type 0
    Are = AreOfStatement (AreInside deep files (around ++ name ∷ [])) file (around ++ name ∷ []) (length (opened_in mid)) (slice_index_or statements i [])

    first_ones : OpensFirst which Are mid new → OpensFirst which (ArePlaces deep files around (length (opened_in before)) name) before new
    first_ones (places, first, names) =
        let whole = midway_whole cut are read around within has m places first in (
          Opened name (content files name) ∷ (m.done ++ (places ++ whole.0)),
          whole.1,
          first_of new.names.items (names_midway m (places ++ whole.0)) (first_until which new.names.items mid places whole.0 names),
        )

    stopped : (halt : Halt) → GoesThrough which Are mid {T = Unit {0}} (Err halt) new → GoesThrough which (ArePlaces deep files around (length (opened_in before)) name) before {T = Unit {0}} (Err halt) new
    stopped halts.ReadFault goes = first_ones goes
    stopped halts.OutOfMemory goes = first_ones goes
    stopped (halts.Refused refusal) (places, first, some, names) =
        let whole = midway_whole cut are read around within has m places first in (
          Opened name (content files name) ∷ (m.done ++ (places ++ whole.0)),
          whole.1,
          ap (λ refused. option_or refused (first_behind which start (m.done ++ (places ++ whole.0)))) m.unrefused ∙ first_behind_all which start m.done (places ++ whole.0)
              ∙ ap (λ refused. option_or refused (first_behind which mid (places ++ whole.0))) m.none ∙ first_behind_all which mid places whole.0
              ∙ ap (λ refused. option_or refused (first_behind which (mid ++ places) whole.0)) some,
          names ∙ ap (λ l. opened_in mid ++ l) (sym (opened_until_some which mid places whole.0 refusal some)) ∙ names_midway m (places ++ whole.0),
        )

-- ---- a file that is not gone through

-- it has places, and was opened, or would be next
file_opens : (which : Heads) → CutOrStop → StatementsAreTokens → TreeOrRefusal
    → (deep : ℕ) (files : Files) (before : List Place) (name : List ℕ) (around : List (List ℕ)) (new : Progress)
    → AreFirstNames new.names.items (opened_in before ++ name ∷ [])
    → OpensFirst which (ArePlaces deep files around (length (opened_in before)) name) before new
file_opens which cut are read deep files before name around new first =
    let bytes = content files name in
    let within_file = around ++ name ∷ [] in
    let file = length (opened_in before) in
    let behind = text_places_exist cut are read (AreInside deep files within_file) (inside_exist cut are read deep files within_file) file within_file bytes in
    (Opened name bytes ∷ behind.0, of_file deep files around file name behind.0 behind.1, first_opened which new.names.items before name bytes behind.0 first)

-- its opening is refused
pub opening_stops : (which : Heads) → CutOrStop → StatementsAreTokens → TreeOrRefusal
    → (deep : ℕ) (files : Files) (before : List Place) (name : List ℕ) (around : List (List ℕ)) (halt : Halt) (new : Progress)
    → IsRefusedOpening before name (content files name) halt new
    → GoesThrough which (ArePlaces deep files around (length (opened_in before)) name) before {T = Unit {0}} (Err halt) new
opening_stops which cut are read deep files before name around halts.ReadFault new first = file_opens which cut are read deep files before name around new first
opening_stops which cut are read deep files before name around halts.OutOfMemory new first = file_opens which cut are read deep files before name around new first
opening_stops which cut are read deep files before name around (halts.Refused refusal) new (refused, names) =
    let bytes = content files name in
    let within_file = around ++ name ∷ [] in
    let file = length (opened_in before) in
    let behind = text_places_exist cut are read (AreInside deep files within_file) (inside_exist cut are read deep files within_file) file within_file bytes in (
      Opened name bytes ∷ behind.0,
      of_file deep files around file name behind.0 behind.1,
      ap (λ one. option_or one (first_behind which (before ++ Opened name bytes ∷ []) behind.0)) refused,
      names ∙ ap (λ one. opened_in before ++ name ∷ opened_behind one (opened_until which (before ++ Opened name bytes ∷ []) behind.0)) (sym refused),
    )

-- its text is no tokens
text_refused : {which : Heads} → CutOrStop → StatementsAreTokens → TreeOrRefusal → (deep : ℕ) (files : Files) (before : List Place) (name : List ℕ) (file : ℕ) (around : List (List ℕ)) (fault : Fault) (new : Progress)
    → IsOpened which before name (content files name) new → file ≡ length (opened_in before) → HasStopped file (content files name) fault
    → GoesThrough which (ArePlaces deep files around (length (opened_in before)) name) before {T = Unit {0}} (Err (halt_of fault)) new
text_refused {which} cut are read deep files before name file around faults.OutOfMemory new opened number stopped =
    file_opens which cut are read deep files before name around new ([], sym (append-nil new.names.items ∙ opened.opened.names ∙ opened_in_behind before (Opened name (content files name))))
text_refused cut are read deep files before name file around (faults.Refused refusal) new opened number stopped =
    let there = content files name in (
      Opened name there ∷ Barred refusal ∷ [],
      subst (λ n. ArePlaces deep files around n name (Opened name there ∷ Barred refusal ∷ [])) number
          (of_file deep files around file name (Barred refusal ∷ []) (inl (stopped.0, refusal, stopped.1, refl))),
      ap (λ one. option_or one (Some refusal)) opened.unrefused,
      opened.opened.names ∙ opened_in_behind before (Opened name there) ∙ ap (λ one. opened_in before ++ name ∷ opened_behind one []) (sym opened.unrefused),
    )

pub text_stops : {which : Heads} → CutOrStop → StatementsAreTokens → TreeOrRefusal → (deep : ℕ) (files : Files) (before : List Place) (name bytes text : List ℕ) (file : ℕ) (around : List (List ℕ)) (fault : Fault) (halt : Halt) (new : Progress)
    → bytes ≡ content files name → text ≡ bytes → halt ≡ halt_of fault → IsOpened which before name bytes new → file ≡ length (opened_in before) → HasStopped file text fault
    → GoesThrough which (ArePlaces deep files around (length (opened_in before)) name) before {T = Unit {0}} (Err halt) new
text_stops {which} cut are read deep files before name bytes text file around fault halt new is text_is halt_is opened number stopped =
    subst (λ h. GoesThrough which (ArePlaces deep files around (length (opened_in before)) name) before {T = Unit {0}} (Err h) new) (sym halt_is)
    (text_refused cut are read deep files before name file around fault new (subst (λ b. IsOpened which before name b new) is opened) number
    (subst (λ b. HasStopped file b fault) (text_is ∙ is) stopped))

pub has_read : (text bytes there : List ℕ) (read statements : List (List TokenView)) → text ≡ bytes → bytes ≡ there → statements ≡ read → HasRead text read → HasRead there statements
has_read text bytes there read statements text_is is are has = subst (HasRead there) (sym are) (subst (λ b. HasRead b read) (text_is ∙ is) has)

-- what an error is told as
pub told_as : (which : Heads) (Are : List Place → Type 0) (before : List Place) (result : Result (Unit {0}) Halt) (halt : Halt) (new : Progress)
    → IsErrAnd result (λ told. told ≡ halt) → GoesThrough which Are before {T = Unit {0}} (Err halt) new → GoesThrough which Are before result new
told_as which Are before (Ok done) halt new is goes = elim is [ ]
told_as which Are before (Err told) halt new is goes = subst (λ h. GoesThrough which Are before {T = Unit {0}} (Err h) new) (sym is) goes

-- ---- as the calls say it

pub taken_as : {which : Heads} (before : List Place) (file : ℕ) (other around : List (List ℕ)) (taken tokens : List TokenView) (name named : Option (List ℕ)) (new : Progress)
    → other ≡ around → taken ≡ tokens → name ≡ named → IsTaken which before file other taken name new → IsTaken which before file around tokens named new
taken_as {which} before file other around taken tokens name named new other_is tokens_are name_is is_taken =
    subst (λ a. IsTaken which before file a tokens named new) other_is (subst (λ l. IsTaken which before file other l named new) tokens_are
    (subst (λ o. IsTaken which before file other taken o new) name_is is_taken))

pub refused_as : (which : Heads) (before : List Place) (file : ℕ) (other around : List (List ℕ)) (taken tokens : List TokenView) (fault : Fault)
    → other ≡ around → taken ≡ tokens → IsRefusedStatement which before file other taken fault → IsRefusedStatement which before file around tokens fault
refused_as which before file other around taken tokens fault other_is tokens_are refused =
    subst (λ a. IsRefusedStatement which before file a tokens fault) other_is (subst (λ l. IsRefusedStatement which before file other l fault) tokens_are refused)

inside_is : (deep : ℕ) (files : Files) (around : List (List ℕ)) → 0 < deep → ArePlaces (deep - 1) files around ≡ AreInside deep files around
inside_is zero files around some = absurd (omega arith)
inside_is (suc deep) files around some = ap (λ d. ArePlaces d files around) (omega arith)

-- what is included was read
pub statement_reads : {which : Heads} (deep : ℕ) (files : Files) (around behind : List (List ℕ)) (file : ℕ) (before : List Place) (tokens : List TokenView) (name : List ℕ)
    (result : Result (Unit {0}) Halt) (now new : Progress) → 0 < deep → behind ≡ around → IsTaken which before file around tokens (Some name) now
    → ((more : List Place) → IsProgress which now more → GoesThrough which (ArePlaces (deep - 1) files behind (length (opened_in more)) name) more result new)
    → GoesThrough which (AreOfStatement (AreInside deep files around) file around (length (opened_in before)) tokens) before result new
statement_reads {which} deep files around behind file before tokens name result now new some behind_is taken goes =
    statement_includes (AreInside deep files around) around file before tokens name result now new taken
    (λ more kept. subst (λ Inside. GoesThrough which (Inside (length (opened_in more)) name) more result new) (inside_is deep files around some)
    (subst (λ a. GoesThrough which (ArePlaces (deep - 1) files a (length (opened_in more)) name) more result new) behind_is (goes more kept)))

-- a deeper include has no places
pub statement_ends : {which : Heads} (deep : ℕ) (files : Files) (around : List (List ℕ)) (file : ℕ) (before : List Place) (tokens : List TokenView) (name : List ℕ)
    (done : Unit {0}) (now : Progress) → deep ≡ 0 → IsTaken which before file around tokens (Some name) now
    → GoesThrough which (AreOfStatement (AreInside deep files around) file around (length (opened_in before)) tokens) before (Ok done) now
statement_ends {which} deep files around file before tokens name done now none taken =
    subst (λ d. GoesThrough which (AreOfStatement (AreInside d files around) file around (length (opened_in before)) tokens) before (Ok done) now) (sym none)
    (statement_includes NoPlaces around file before tokens name (Ok done) now now taken
    (λ more kept. ([], refl, refl, subst (IsProgress which now) (sym (append-nil more)) kept)))

-- a statement that is refused is no fault of the desk
pub no_fault : {T : Type 0} (result : Result T Halt) (fault : Fault) → IsErrAnd result (λ told. told ≡ halt_of fault) → result ≡ Err halts.ReadFault → ⊥
no_fault (Ok done) fault is same = elim is [ ]
no_fault (Err told) (faults.Refused refusal) is same = absurd cc
no_fault (Err told) faults.OutOfMemory is same = absurd cc

-- nor is what was done
pub done_no_fault : {T : Type 0} (done : T) → IsErrOf {T = T} (Ok done) halts.ReadFault → ⊥
done_no_fault done same = absurd cc

pub err_is : {T : Type 0} (result : Result T Halt) {halt : Halt} → IsErrAnd result (λ told. told ≡ halt) → result ≡ Err halt
err_is (Ok done) is = elim is [ ]
err_is (Err told) is = ap Err is

-- an error of another type of results
abbrev as_err : (T U : Type 0) (halt : Halt) → Result T Halt → Result U Halt
as_err T U halt (Ok done) = Err halt
as_err T U halt (Err told) = Err told

pub same_fault : {T U : Type 0} (result : Result U Halt) (halt : Halt) → IsErrAnd result (λ told. told ≡ halt) → IsErrOf {T = T} (Err halt) halts.ReadFault → result ≡ Err halts.ReadFault
same_fault {T} {U} result halt is same = err_is result is ∙ ap (as_err T U halts.ReadFault) same

pub as_told : {T U : Type 0} (result : Result U Halt) (halt : Halt) → IsErrAnd result (λ told. told ≡ halt) → result ≡ Err halts.ReadFault → IsErrOf {T = T} (Err halt) halts.ReadFault
as_told {T} {U} result halt is same = ap (as_err U T halts.ReadFault) (sym (err_is result is) ∙ same)

pub errs_on : {T : Type 0} (P : Type 0) (result : Result T Halt) (halt : Halt) → IsErrAnd result (λ told. told ≡ halt) → OnOk result P
errs_on P (Ok done) halt is = elim is [ ]
errs_on P (Err told) halt is = tt

pub errs_if : {T : Type 0} (P : T → Type 0) (result : Result T Halt) (halt : Halt) → IsErrAnd result (λ told. told ≡ halt) → IfOk result P
errs_if P (Ok done) halt is = elim is [ ]
errs_if P (Err told) halt is = tt

-- a read that gave bytes did not fail
pub read_no_fault : {T : Type 0} (done : T) → IsErrOf {T = T} (Ok done) stops.Failed → ⊥
read_no_fault done same = absurd cc

pub long_no_fault : {T : Type 0} (stop : ReadStop) → stop ≡ stops.Limit → IsErrOf {T = T} (Err stop) stops.Failed → ⊥
long_no_fault stop is same = absurd cc

pub wanting_no_fault : {T : Type 0} (stop : ReadStop) → stop ≡ stops.OutOfMemory → IsErrOf {T = T} (Err stop) stops.Failed → ⊥
wanting_no_fault stop is same = absurd cc

-- ---- how deep

pub up_through : {a b c : ℕ} → a ≤ b → b ≤ c → a ≤ c
up_through first second = omega arith

pub none_below : {n : ℕ} → n ≤ 0 → n ≡ 0
none_below none = omega arith

pub deeper : (around : List (List ℕ)) (name : List ℕ) {names : List (List ℕ)} {deep most : ℕ} → 0 < deep → names ≡ around ++ name ∷ [] → length around + deep ≡ most → length names + (deep - 1) ≡ most
deeper around name some is sum = omega (arith, ap length is, length-append around (name ∷ []))

pub less_deep : {deep measure : ℕ} → 0 < deep → deep ≡ measure → deep - 1 < measure
less_deep some is = omega arith

-- a file is left
pub left_again : (around : List (List ℕ)) (name : List ℕ) {names left : List (List ℕ)} → names ≡ around ++ name ∷ [] → left ≡ take (length names - 1) names → left ≡ around
left_again around name is left_is =
    let one_less : length (around ++ name ∷ []) - 1 ≡ length around = omega (arith, length-append around (name ∷ [])) in
    left_is ∙ ap (λ l. take (length l - 1) l) is ∙ ap (λ n. take n (around ++ name ∷ [])) one_less ∙ take-append-le (length around) around (name ∷ []) (omega arith) ∙ take_all (length around) around (omega arith)

-- ---- the files that are opened are there

pub there_too : (files : Files) (names : List (List ℕ)) (name : List ℕ) → AreThere files names → IsSome (files name) → AreThere files (names ++ name ∷ [])
there_too files [] name are is = (is, tt)
there_too files (first ∷ names) name are is = (are.0, there_too files names name are.1 is)

-- a name that was read is
pub read_there : (told : Option Contents) (contents : Contents) (name bytes : List ℕ) → told ≡ Some contents
    → IfSome told (λ c. c.files name ≡ Some bytes) → IsSome (contents.files name)
read_there told contents name bytes is there = let found = rw is at there in rw found refl

pub long_there : (told : Option Contents) (contents : Contents) (name : List ℕ) (most : ℕ) → told ≡ Some contents
    → IfSome told (λ c. (bytes : List ℕ) × (c.files name ≡ Some bytes) × (most < length bytes)) → IsSome (contents.files name)
long_there told contents name most is there = let found = rw is at there in rw (found.1) refl

pub content_long : (told : Option Contents) (contents : Contents) (name : List ℕ) (most : ℕ) → told ≡ Some contents
    → IfSome told (λ c. (bytes : List ℕ) × (c.files name ≡ Some bytes) × (most < length bytes)) → most < length (content contents.files name)
content_long told contents name most is there = let found = rw is at there in subst (λ file. most < length (unwrap_or file [])) (sym found.1) found.2

pub finds : {T : Type 0} (files : Files) (result : Result T Halt) (names : List (List ℕ)) → AreThere files names → FindsFiles files result names
finds files (Ok done) names are = are
finds files (Err (halts.Refused refusal)) names are = are
finds files (Err halts.ReadFault) names are = tt
finds files (Err halts.OutOfMemory) names are = tt

-- what an error is told as
pub finds_as : {T : Type 0} (U : Type 0) (files : Files) (result : Result T Halt) (halt : Halt) (names : List (List ℕ))
    → IsErrAnd result (λ told. told ≡ halt) → FindsFiles files {T = U} (Err halt) names → FindsFiles files result names
finds_as U files (Ok done) halt names is found = elim is [ ]
finds_as {T} U files (Err told) halt names is found = moved told is
  where
    at : (h : Halt) → FindsFiles files {T = U} (Err h) names → FindsFiles files {T = T} (Err h) names
    at (halts.Refused refusal) found = found
    at halts.ReadFault found = tt
    at halts.OutOfMemory found = tt

    moved : (told : Halt) → told ≡ halt → FindsFiles files {T = T} (Err told) names
    moved told is = subst (λ h. FindsFiles files {T = T} (Err h) names) (sym is) (at halt found)
