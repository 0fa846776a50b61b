-- Words of the plain form read as they stand.
use Rattle.std.proofs.Common.{◌≡◌, ◌∙◌, ◌&&◌, ◌||◌, ap, ap₂, subst, sym, refl, cond, not, Bool, true, false, List, [], ◌∷◌, ◌++◌, map, append-nil, append_assoc, Option, Some, None, option_map, true≢false}
use Rattle.std.specs.List.{AllByRecursion, find, flat_map, fold, list_any, slice_get}
use Rattle.std.specs.Option.{is_some, option_and_then, option_map_or}
use Rattle.std.specs.Prelude.{codes, if◌then◌else◌}
use Rattle.std.specs.Str.{bytes_eq}
use Rattle.std.proofs.lemmas.List.Folds.{list_any-append}
use Rattle.clap.proofs.OnLiterals.{clap_on_literals}
use Rattle.clap.specs.Faults.{default_fault, defaults_fault, fault_of, given_default_fault, level_fault, entered_fault, repeat_fault, settle_fault, step_fault, turn_fault, use_fault, walk_fault, word_fault}
use Rattle.clap.specs.Kinds.{Kinds, or_else}
use Rattle.clap.specs.Lexer.{long_of, short_of}
use Rattle.clap.specs.Simple.{built, entered, filled, matches_of, new_rule, with_index}
use Rattle.clap.specs.Walk.{Held, Row, Rule, Step, Text, Walk, after_step, arg_by_id, at_row, first_of, has_row, idle, is_pending, more_values, next, nothing_held, option, pushed, settled, settled_rows, used_by_id, value as for_positional, walked, with_default, with_values, without, word_met}
use Rattle.clap.specs.declared.builder.value_parser.Reading.TheVariants as readings
use Rattle.clap.specs.declared.parser.matches.ValueSource.TheVariants as sources
use Rattle.cc_words.specs.Readings.{command, file_text, given_in, option_rule, reading}
use Rattle.cc_words.proofs.Taken.{fault_taken, shape}
use Rattle.cc_words.specs.Words.{IsPlain, Name, Mode, Query, Count, Budget, After, Log, Form, To, Key, Horizon, Size, Pair, are_different, begins_with_hyphen, file_words, given_of, is_same, name_text, pair_words, value_of}

neither : (a b : Bool) → (a || b) ≡ false → (a ≡ false) × (b ≡ false)
neither true b e = absurd (true≢false e)
neither false b e = (refl, e)

both : (a b : Bool) → (not a && b) ≡ true → (a ≡ false) × (b ≡ true)
both true b e = absurd (true≢false (sym e))
both false b e = (refl, e)

-- ---- the command

abbrev file_rule : Rule
file_rule = with_index 1 (filled (new_rule file_text))

abbrev built_rule : Name → Rule
built_rule name = with_index 1 (filled (option_rule (name_text name)))

known : (name : Name) → arg_by_id shape.rules (name_text name) ≡ Some (built_rule name)
known Mode = refl
known Query = refl
known Count = refl
known Budget = refl
known After = refl
known Log = refl
known Form = refl
known To = refl
known Key = refl
known Horizon = refl
known Size = refl

not_file : (name : Name) → (bytes_eq (name_text name) file_text ≡ false) × (bytes_eq file_text (name_text name) ≡ false)
not_file Mode = (refl, refl)
not_file Query = (refl, refl)
not_file Count = (refl, refl)
not_file Budget = (refl, refl)
not_file After = (refl, refl)
not_file Log = (refl, refl)
not_file Form = (refl, refl)
not_file To = (refl, refl)
not_file Key = (refl, refl)
not_file Horizon = (refl, refl)
not_file Size = (refl, refl)

same_name : (name : Name) → bytes_eq (name_text name) (name_text name) ≡ true
same_name Mode = refl
same_name Query = refl
same_name Count = refl
same_name Budget = refl
same_name After = refl
same_name Log = refl
same_name Form = refl
same_name To = refl
same_name Key = refl
same_name Horizon = refl
same_name Size = refl

-- ---- rows

abbrev row_given : Text → Text → Row
row_given id value = record { id = id; values = value ∷ []; count = None; source = Some sources.CommandLine; reading = readings.AsWritten }

abbrev pair_row : Pair → Row
pair_row pair = row_given (name_text pair.0) pair.1

abbrev pair_rows : List Pair → List Row
pair_rows = map pair_row

abbrev file_rows : Option Text → List Row
file_rows None = []
file_rows (Some file) = row_given file_text file ∷ []

at_row_absent : (id : Text) (change : Row → List Row) (missing rows : List Row) → has_row id rows ≡ false → at_row id change missing rows ≡ rows ++ missing
at_row_absent id change missing [] absent = refl
at_row_absent id change missing (row ∷ rows) absent =
    let p = neither (bytes_eq row.id id) _ absent in
    rw p.0 (ap (λ more. row ∷ more) (at_row_absent id change missing rows p.1))

added : (id value : Text) (rows : List Row) → has_row id rows ≡ false
    → with_values id readings.AsWritten sources.CommandLine (value ∷ []) (without id rows) ≡ rows ++ row_given id value ∷ []
added id value rows absent =
    ap (with_values id readings.AsWritten sources.CommandLine (value ∷ [])) (at_row_absent id (λ _. []) [] rows absent ∙ append-nil rows)
    ∙ at_row_absent id (more_values sources.CommandLine (value ∷ [])) (row_given id value ∷ []) rows absent

named : (name : Name) (pairs : List Pair) (file : Option Text) → first_of (name_text name) (pair_rows pairs ++ file_rows file) ≡ value_of name pairs
named name [] None = refl
named name [] (Some file) = rw (not_file name).1 refl
named name (p ∷ ps) file = go (bytes_eq (name_text p.0) (name_text name)) (named name ps file)
  where
    go : (b : Bool) → first_of (name_text name) (pair_rows ps ++ file_rows file) ≡ value_of name ps
        → option_and_then (λ (r : Row). slice_get r.values 0) (cond b (Some (pair_row p)) (find (λ r. bytes_eq r.id (name_text name)) (pair_rows ps ++ file_rows file)))
        ≡ option_map (λ (q : Pair). q.1) (cond b (Some p) (find (λ q. is_same q.0 name) ps))
    go true e = refl
    go false e = e

file_named : (pairs : List Pair) (file : Option Text) → first_of file_text (pair_rows pairs ++ file_rows file) ≡ file
file_named [] None = refl
file_named [] (Some file) = refl
file_named (p ∷ ps) file = rw (not_file p.0).0 (file_named ps file)

given_is : (pairs : List Pair) (file : Option Text) → given_in (pair_rows pairs ++ file_rows file) ≡ given_of pairs file
given_is pairs file = λ i. record {
  mode = named Mode pairs file i;
  query = named Query pairs file i;
  count = named Count pairs file i;
  budget = named Budget pairs file i;
  after = named After pairs file i;
  log = named Log pairs file i;
  form = named Form pairs file i;
  to = named To pairs file i;
  key = named Key pairs file i;
  horizon = named Horizon pairs file i;
  size = named Size pairs file i;
  file = file_named pairs file i;
}

-- ---- one word

-- where the walk stands behind pairs, and behind the name of one
abbrev behind : List Row → Option (Text × List Text) → Walk
behind rows pending =
    record { held = record { rows = rows; pending = pending; skip = 0 }; waiting = idle; position = 1; is_trailing = false; stopped = None }

abbrev behind_name : Name → List Row → Walk
behind_name name rows = record (behind rows (Some (name_text name, []))) { waiting = option (name_text name) }

abbrev behind_file : Text → List Row → Walk
behind_file file rows = record (behind rows (Some (file_text, file ∷ []))) { position = 2 }

abbrev Settles : List Row → Option (Text × List Text) → Type 0
Settles rows pending = settle_fault shape.rules false (record { rows = rows; pending = pending; skip = 0 }) ≡ []

name_walked : (name : Name) (rows : List Row) (pending : Option (Text × List Text))
    → walked shape.rules [] (behind rows pending) (codes "--" ++ name_text name) ≡ behind_name name (settled_rows shape.rules pending rows)
unfolding clap_on_literals
name_walked Mode rows pending = refl
name_walked Query rows pending = refl
name_walked Count rows pending = refl
name_walked Budget rows pending = refl
name_walked After rows pending = refl
name_walked Log rows pending = refl
name_walked Form rows pending = refl
name_walked To rows pending = refl
name_walked Key rows pending = refl
name_walked Horizon rows pending = refl
name_walked Size rows pending = refl

name_passes : (name : Name) (rows : List Row) (pending : Option (Text × List Text)) → Settles rows pending
    → turn_fault shape [] (behind rows pending) (codes "--" ++ name_text name) ≡ []
unfolding clap_on_literals
name_passes Mode rows pending settles = ap (λ kinds. or_else kinds []) settles
name_passes Query rows pending settles = ap (λ kinds. or_else kinds []) settles
name_passes Count rows pending settles = ap (λ kinds. or_else kinds []) settles
name_passes Budget rows pending settles = ap (λ kinds. or_else kinds []) settles
name_passes After rows pending settles = ap (λ kinds. or_else kinds []) settles
name_passes Log rows pending settles = ap (λ kinds. or_else kinds []) settles
name_passes Form rows pending settles = ap (λ kinds. or_else kinds []) settles
name_passes To rows pending settles = ap (λ kinds. or_else kinds []) settles
name_passes Key rows pending settles = ap (λ kinds. or_else kinds []) settles
name_passes Horizon rows pending settles = ap (λ kinds. or_else kinds []) settles
name_passes Size rows pending settles = ap (λ kinds. or_else kinds []) settles

-- a word with no first hyphen is no `--`, and neither a long nor a short option
no_option : (word : Text) → begins_with_hyphen word ≡ false → (bytes_eq word (45 ∷ 45 ∷ []) ≡ false) × (long_of word ≡ None) × (short_of word ≡ None)
no_option [] plain = (refl, refl, refl)
no_option (byte ∷ bytes) plain = (rw plain refl, rw plain refl, rw plain refl)

module _ (word : Text) (plain : begins_with_hyphen word ≡ false) (rows : List Row) where
  value_met : (name : Name) → word_met shape.rules [] false (option (name_text name)) 1 word (behind_name name rows).held
      ≡ ((behind rows (Some (name_text name, word ∷ []))).held, next idle)
  value_met name = let p = no_option word plain in rw (p.0, p.1, p.2, known name, same_name name) refl

  no_fault : (waiting : _) (held : Held) → word_fault shape [] false waiting word held ≡ []
  no_fault idle held = let p = no_option word plain in rw (p.0, p.1, p.2) refl
  no_fault (option id) held = let p = no_option word plain in rw (p.0, p.1, p.2) refl
  no_fault _ held = let p = no_option word plain in rw (p.0, p.1, p.2) refl

  value_walked : (name : Name) → walked shape.rules [] (behind_name name rows) word ≡ behind rows (Some (name_text name, word ∷ []))
  unfolding walked
  value_walked name = ap (λ (met : Held × Step). after_step shape.rules word (behind_name name rows) met.0 met.1) (value_met name)

  value_passes : (name : Name) → turn_fault shape [] (behind_name name rows) word ≡ []
  value_passes name = ap₂ or_else (no_fault (option (name_text name)) (behind_name name rows).held)
      (ap (λ (met : Held × Step). step_fault shape 1 met.0 met.1) (value_met name))

  module _ (pending : Option (Text × List Text)) where
    file_met : word_met shape.rules [] false idle 1 word (behind rows pending).held ≡ ((behind rows pending).held, for_positional)
    file_met = let p = no_option word plain in rw (p.0, p.1, p.2) refl

    one_alone : (b : Bool) → (b && false) ≡ false
    one_alone true = refl
    one_alone false = refl

    file_walked : walked shape.rules [] (behind rows pending) word ≡ behind_file word (settled_rows shape.rules pending rows)
    unfolding walked
    file_walked = ap (λ (met : Held × Step). after_step shape.rules word (behind rows pending) met.0 met.1) file_met
        ∙ ap (λ b. record (behind rows pending) {
          held = pushed file_text word (if b then (behind rows pending).held else settled shape.rules (behind rows pending).held);
          position = 2;
        }) (one_alone (is_pending file_rule pending))

    file_passes : Settles rows pending → turn_fault shape [] (behind rows pending) word ≡ []
    file_passes settles = ap₂ or_else (no_fault idle (behind rows pending).held)
        (ap (λ (met : Held × Step). step_fault shape 1 met.0 met.1) file_met
        ∙ ap (λ b. if b then [] else settle_fault shape.rules false (behind rows pending).held) (one_alone (is_pending file_rule pending))
        ∙ settles)

-- ---- settling

first_use : (id : Text) (rows : List Row) → has_row id rows ≡ false → or_else (repeat_fault false id rows) [] ≡ []
first_use id rows absent = rw absent refl

module _ (value : Text) (rows : List Row) where
  pair_settles : (name : Name) → has_row (name_text name) rows ≡ false → Settles rows (Some (name_text name, value ∷ []))
  pair_settles name absent =
      ap (λ (rule : Option Rule). option_map_or (λ a. use_fault false a (value ∷ []) rows) rule []) (known name) ∙ first_use (name_text name) rows absent

  pair_settled : (name : Name) → has_row (name_text name) rows ≡ false
      → settled_rows shape.rules (Some (name_text name, value ∷ [])) rows ≡ rows ++ pair_row (name, value) ∷ []
  pair_settled name absent = ap (λ rule. used_by_id rule (value ∷ []) rows) (known name) ∙ added (name_text name) value rows absent

-- ---- the words

abbrev end : Walk → List Text → Held
end w words = (fold (walked shape.rules []) w words).held

-- the words pass from where the walk stands, and have these rows at the end
record Reads (w : Walk) (words : List Text) (found : List Row) : Type 0 where
  pub passes : walk_fault shape [] w words ≡ []
  pub stopped : (fold (walked shape.rules []) w words).stopped ≡ None
  pub settles : settle_fault shape.rules false (end w words) ≡ []
  pub rows : (settled shape.rules (end w words)).rows ≡ found

reads_end : (w : Walk) (found : List Row) → w.stopped ≡ None → settle_fault shape.rules false w.held ≡ [] → (settled shape.rules w.held).rows ≡ found → Reads w [] found
unfolding walk_fault
reads_end w found stopped settles rows = record { passes = refl; stopped = stopped; settles = settles; rows = rows }

reads_on : (w after : Walk) (word : Text) (words : List Text) (found : List Row) → turn_fault shape [] w word ≡ [] → walked shape.rules [] w word ≡ after
    → Reads after words found → Reads w (word ∷ words) found
unfolding walk_fault
reads_on w after word words found passes is r = record {
  passes = ap₂ or_else passes (ap (λ w. walk_fault shape [] w words) is ∙ r.passes);
  stopped = ap (λ w. (fold (walked shape.rules []) w words).stopped) is ∙ r.stopped;
  settles = ap (λ w. settle_fault shape.rules false (end w words)) is ∙ r.settles;
  rows = ap (λ w. (settled shape.rules (end w words)).rows) is ∙ r.rows;
}

-- the file stands behind pairs with these rows
file_reads : (file : Option Text) (rows : List Row) (pending : Option (Text × List Text)) (given : List Row) → Settles rows pending → settled_rows shape.rules pending rows ≡ given
    → has_row file_text given ≡ false → option_map_or begins_with_hyphen file false ≡ false → Reads (behind rows pending) (file_words file) (given ++ file_rows file)
file_reads None rows pending given settles is absent plain = reads_end (behind rows pending) (given ++ []) refl settles (is ∙ sym (append-nil given))
file_reads (Some file) rows pending given settles is absent plain =
    reads_on (behind rows pending) (behind_file file given) file [] (given ++ row_given file_text file ∷ []) (file_passes file plain rows pending settles)
    (file_walked file plain rows pending ∙ ap (behind_file file) is)
    (reads_end (behind_file file given) (given ++ row_given file_text file ∷ []) refl (first_use file_text given absent) (added file_text file given absent))

abbrev AreNew : List Row → List Pair → Type 0
AreNew rows pairs = list_any (λ pair. has_row (name_text pair.0) rows) pairs ≡ false

still_new : (p : Pair) (rows : List Row) (pairs : List Pair) → AreNew rows pairs → list_any (is_same p.0) (map (λ pair. pair.0) pairs) ≡ false → AreNew (rows ++ pair_row p ∷ []) pairs
still_new p rows [] new different = refl
still_new p rows (q ∷ qs) new different =
    let n = neither (has_row (name_text q.0) rows) _ new in
    let d = neither (is_same p.0 q.0) _ different in
    let here : has_row (name_text q.0) (rows ++ pair_row p ∷ []) ≡ false = list_any-append (λ r. bytes_eq r.id (name_text q.0)) rows (pair_row p ∷ []) ∙ rw (n.0, d.0) refl in
    rw here (still_new p rows qs n.1 d.1)

pairs_read : (pairs : List Pair) (file : Option Text) (rows : List Row) (pending : Option (Text × List Text)) (given : List Row) → Settles rows pending
    → settled_rows shape.rules pending rows ≡ given → AreNew given pairs → has_row file_text given ≡ false → are_different (map (λ pair. pair.0) pairs) ≡ true
    → list_any (λ pair. begins_with_hyphen pair.1) pairs ≡ false → option_map_or begins_with_hyphen file false ≡ false
    → Reads (behind rows pending) (flat_map pair_words pairs ++ file_words file) (given ++ (pair_rows pairs ++ file_rows file))
pairs_read [] file rows pending given settles is new absent once values plain = file_reads file rows pending given settles is absent plain
pairs_read (p ∷ ps) file rows pending given settles is new absent once values plain =
    let n = neither (has_row (name_text p.0) given) _ new in
    let o = both (list_any (is_same p.0) (map (λ pair. pair.0) ps)) _ once in
    let v = neither (begins_with_hyphen p.1) _ values in
    let more = given ++ pair_row p ∷ [] in
    let rest = flat_map pair_words ps ++ file_words file in
    let found = given ++ (pair_rows (p ∷ ps) ++ file_rows file) in
    let no_file : has_row file_text more ≡ false =
    list_any-append (λ (r : Row). bytes_eq r.id file_text) given (pair_row p ∷ []) ∙ rw (absent, (not_file p.0).0) refl in
    let pending_value = Some (name_text p.0, p.1 ∷ []) in
    let last : Reads (behind given pending_value) rest found = subst (Reads (behind given pending_value) rest) (append_assoc given (pair_row p ∷ []) (pair_rows ps ++ file_rows file))
    (pairs_read ps file given pending_value more (pair_settles p.1 given p.0 n.0) (pair_settled p.1 given p.0 n.0) (still_new p given ps n.1 o.0) no_file o.1 v.1 plain) in
    reads_on (behind rows pending) (behind_name p.0 given) (codes "--" ++ name_text p.0) (p.1 ∷ rest) found (name_passes p.0 rows pending settles)
    (name_walked p.0 rows pending ∙ ap (behind_name p.0) is)
    (reads_on (behind_name p.0 given) (behind given pending_value) p.1 rest found (value_passes p.1 v.0 given p.0) (value_walked p.1 v.0 given p.0) last)

-- ---- after the words

abbrev HaveNoDefaults : List Rule → Type 0
HaveNoDefaults rules = AllByRecursion (λ (rule : Rule). rule.defaults ≡ []) rules

default_kept : (rule : Rule) (rows : List Row) → rule.defaults ≡ [] → with_default rows rule ≡ rows
default_kept rule rows none = rw none (go (has_row rule.id rows))
  where
    go : (b : Bool) → (if b then rows else rows) ≡ rows
    go true = refl
    go false = refl

default_passes : (rule : Rule) (rows : List Row) → rule.defaults ≡ [] → default_fault rows rule ≡ []
default_passes rule rows none = rw none (go (has_row rule.id rows) (given_default_fault rule []))
  where
    go : (b : Bool) (kinds : Kinds) → (if b || true then [] else kinds) ≡ []
    go true kinds = refl
    go false kinds = refl

no_defaults : (rows : List Row) (rules : List Rule) → HaveNoDefaults rules → fold with_default rows rules ≡ rows
no_defaults rows [] none = refl
no_defaults rows (rule ∷ rules) none = ap (λ rows. fold with_default rows rules) (default_kept rule rows none.0) ∙ no_defaults rows rules none.1

defaults_pass : (rows : List Row) (rules : List Rule) → HaveNoDefaults rules → defaults_fault rows rules ≡ []
unfolding defaults_fault
defaults_pass rows [] none = refl
defaults_pass rows (rule ∷ rules) none =
    ap₂ or_else (default_passes rule rows none.0) (ap (λ rows. defaults_fault rows rules) (default_kept rule rows none.0) ∙ defaults_pass rows rules none.1)

abbrev rules_have_none : HaveNoDefaults shape.rules
rules_have_none = (refl, (refl, (refl, (refl, (refl, (refl, (refl, (refl, (refl, (refl, (refl, (refl, tt))))))))))))

-- words that pass have their rows as the reading
reads_as : (words : List Text) (found : List Row) → Reads (behind [] None) words found → reading words ≡ Some (given_in found)
reads_as words found r =
    let last = settled shape.rules (end (behind [] None) words) in
    let level : level_fault shape [] nothing_held words false [] ≡ [] = ap₂ or_else r.passes (ap₂ or_else r.settles (ap₂ or_else (defaults_pass last.rows shape.rules rules_have_none) refl)) in
    let none : fault_of command words ≡ [] =
    ap (λ stop. level_fault shape [] nothing_held words (is_some (entered (built command) stop)) (entered_fault (built command) stop)) r.stopped ∙ level in
    let rows : matches_of command words ≡ found = no_defaults last.rows shape.rules rules_have_none ∙ r.rows in
    rw (fault_taken words none) (ap (λ rows. Some (given_in rows)) rows)

pub plain_reads : (pairs : List Pair) (file : Option Text) (words : List Text) → IsPlain pairs file words → reading words ≡ Some (given_of pairs file)
plain_reads pairs file words plain =
    let read = pairs_read pairs file [] None [] refl refl (none_new pairs) refl plain.once plain.values plain.name in
    ap reading plain.spelled ∙ reads_as _ (pair_rows pairs ++ file_rows file) read ∙ ap (λ given. Some given) (given_is pairs file)
  where
    none_new : (pairs : List Pair) → AreNew [] pairs
    none_new [] = refl
    none_new (p ∷ ps) = none_new ps
