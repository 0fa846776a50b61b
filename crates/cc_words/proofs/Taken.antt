-- Words with no fault are taken.
use Rattle.std.proofs.Common.{◌≡◌, ◌∙◌, ◌&&◌, ◌||◌, ◌==◌, ◌+◌, sym, refl, not, arith, ℕ, zero, suc, Bool, true, false, List, [], ◌∷◌, length, drop, min, nat_le, nat_lt, Option, Some, None}
use Rattle.std.proofs.lemmas.Bool.Decides.{nat_tests}
use Rattle.std.specs.Option.{is_some, option_map_or}
use Rattle.std.specs.Prelude.{encode_utf8, if◌then◌else◌, slice_get}
use Rattle.std.specs.Str.{bytes_eq, chars}
use Rattle.clap.specs.Facts.{parser_of_value, unwrap_or_range}
use Rattle.clap.specs.Faults.{action_fault, bundle_fault, bundle_step_fault, count_fault, fault_of, flag_word_fault, flags_fault, level_fault, long_fault, option_fault, other_fault, positional_fault, react_fault, repeat_fault, set_fault, settle_fault, short_fault, step_fault, stray_fault, turn_fault, use_fault, values_fault, walk_fault, word_fault}
use Rattle.clap.specs.Kinds.{Kinds, or_else, range_kinds, value_kinds}
use Rattle.clap.specs.Lexer.{long_of, short_of}
use Rattle.clap.specs.Matches.{count_text}
use Rattle.clap.specs.Simple.{Shape, built}
use Rattle.clap.specs.Takes.{action_passes, bundle_passes, bundle_step_passes, count_passes, flag_word_passes, flags_pass, level_passes, long_passes, option_passes, other_passes, positional_passes, react_passes, set_passes, settle_passes, short_passes, step_passes, takes, turn_passes, use_passes, value_passes, values_pass, walk_passes, word_passes}
use Rattle.clap.specs.Walk.{Held, Row, Rule, Step, Text, Waiting, Walk, action_of, arg_by_id, arg_by_index, arg_by_long, arg_by_short, attached_value, count_of, has_row, idle, is_pending, most_values, next, nothing_held, option, positional, reacted, settled, subcommand, subcommand_met, takes_several, takes_values, trailing, value as for_positional, values_or_missing, walk, walk_from, walked, word_met}
use Rattle.clap.specs.declared.builder.action.ArgAction.{ArgAction}
use Rattle.clap.specs.declared.builder.action.ArgAction.TheVariants as action
use Rattle.clap.specs.declared.error.kind.ErrorKind.{ErrorKind}
use Rattle.clap.specs.declared.error.kind.ErrorKind.TheVariants.{InvalidSubcommand, InvalidValue, TooFewValues, TooManyValues, UnknownArgument, WrongNumberOfValues}
use Rattle.clap.proofs.FaultLemmas.{leaf_fault}
use Rattle.clap.proofs.TakesLemmas.{leaf_takes}
use Rattle.cc_words.specs.Readings.{command}

-- the command as it is built
abbrev pub shape : Shape
shape = (built command).top

-- where there is no fault, the test passes
abbrev Passes : Kinds → Bool → Type 0
Passes kinds passes = kinds ≡ [] → passes ≡ true

parts : (first second : Kinds) → or_else first second ≡ [] → (first ≡ []) × (second ≡ [])
parts [] second e = (refl, e)
parts (kind ∷ kinds) second e = absurd cc

two : (first second : Kinds) (p q : Bool) → Passes first p → Passes second q → Passes (or_else first second) (p && q)
two first second p q h k e = let s = parts first second e in rw (h s.0) (k s.1)

unless : (b : Bool) (kinds : Kinds) (p : Bool) → Passes kinds p → Passes (if b then [] else kinds) (b || p)
unless true kinds p h e = refl
unless false kinds p h e = h e

in_case : (b : Bool) (first second : Kinds) (p q : Bool) → Passes first p → Passes second q → Passes (if b then first else second) (if b then p else q)
in_case true first second p q h k e = h e
in_case false first second p q h k e = k e

mapped : {X : Type 0} (o : Option X) (f : X → Kinds) (p : X → Bool) → ((x : X) → Passes (f x) (p x)) → Passes (option_map_or f o []) (option_map_or p o true)
mapped None f p h e = refl
mapped (Some x) f p h e = h x e

-- ---- one use

only : (b : Bool) (kind : ErrorKind) → Passes (if b then [] else kind ∷ []) b
only true kind e = refl
only false kind e = absurd cc

once : (b again : Bool) (kind : ErrorKind) → Passes (if b && not again then kind ∷ [] else []) (not b || again)
once true true kind e = refl
once true false kind e = absurd cc
once false again kind e = refl

values_taken : (a : Rule) (values : List Text) → Passes (values_fault a values) (values_pass a values)
values_taken a [] e = refl
values_taken a (v ∷ vs) e =
    two (value_kinds a.ignore_case (parser_of_value a.parser) v) (values_fault a vs) (value_passes a v) (values_pass a vs) (only (value_passes a v) _) (values_taken a vs) e

count_taken : (a : Rule) (values : List Text) (rows : List Row) → Passes (count_fault a values rows) (count_passes a values rows)
count_taken a [] rows e = only (value_passes a (count_text (min (count_of a.id rows + 1) 255))) _ e
count_taken a (v ∷ vs) rows e = values_taken a (v ∷ vs) e

module _ (again : Bool) (a : Rule) (values : List Text) (rows : List Row) where
  set_taken : Passes (set_fault again a values rows) (set_passes again a values rows)
  set_taken = two (repeat_fault again a.id rows) (values_fault a values) (not (has_row a.id rows) || again) (values_pass a values)
      (once (has_row a.id rows) again _) (values_taken a values)

  action_taken : (x : ArgAction) → Passes (action_fault x again a values rows) (action_passes x again a values rows)
  action_taken action.Set e = set_taken e
  action_taken action.SetTrue e = set_taken e
  action_taken action.SetFalse e = set_taken e
  action_taken action.Append e = values_taken a values e
  action_taken action.Count e = count_taken a values rows e
  action_taken action.Help e = absurd cc
  action_taken action.HelpShort e = absurd cc
  action_taken action.HelpLong e = absurd cc
  action_taken action.Version e = absurd cc

range_taken : (least most n : ℕ) → range_kinds least most n ≡ [] → (nat_le least n ≡ true) × (nat_le n most ≡ true)
range_taken least most n e = go (nat_lt 0 least && n == 0) (least == most) refl (least == n) refl (nat_lt n least) refl (nat_lt most n) refl e
  where
    go : (none same : Bool) → (least == most) ≡ same → (is : Bool) → (least == n) ≡ is → (few : Bool) → nat_lt n least ≡ few → (many : Bool) → nat_lt most n ≡ many
        → (if none then InvalidValue ∷ [] else (if same then (if is then [] else WrongNumberOfValues ∷ [])
        else (if few then TooFewValues ∷ [] else (if many then TooManyValues ∷ [] else [])))) ≡ [] → (nat_le least n ≡ true) × (nat_le n most ≡ true)
    go true same s is i few f many m e = absurd cc
    go false true s true i few f many m e = (grind (arith, nat_tests), grind (arith, nat_tests))
    go false true s false i few f many m e = absurd cc
    go false false s is i true f many m e = absurd cc
    go false false s is i false f true m e = absurd cc
    go false false s is i false f false m e = (grind (arith, nat_tests), grind (arith, nat_tests))

use_taken : (again : Bool) (a : Rule) (values : List Text) (rows : List Row) → Passes (use_fault again a values rows) (use_passes again a values rows)
use_taken again a values rows e =
    let p = parts (range_kinds (unwrap_or_range a.range).start_inclusive (most_values a) (length values)) _ e in
    let r = range_taken (unwrap_or_range a.range).start_inclusive (most_values a) (length values) p.0 in
    rw (r.0, r.1) (action_taken again a (values_or_missing a values) rows (action_of a) p.1)

-- ---- one word

module _ (c : List Rule) (again : Bool) where
  settle_taken : (h : Held) → Passes (settle_fault c again h) (settle_passes c again h)
  settle_taken h = mapped h.pending (λ p. option_map_or (λ a. use_fault again a p.1 h.rows) (arg_by_id c p.0) [])
      (λ p. option_map_or (λ a. use_passes again a p.1 h.rows) (arg_by_id c p.0) true)
      (λ p. mapped (arg_by_id c p.0) (λ a. use_fault again a p.1 h.rows) (λ a. use_passes again a p.1 h.rows) (λ a. use_taken again a p.1 h.rows))

  react_taken : (a : Rule) (values : List Text) (h : Held) → Passes (react_fault c again a values h) (react_passes c again a values h)
  react_taken a values h = two (settle_fault c again h) (use_fault again a values (settled c h).rows) (settle_passes c again h)
      (use_passes again a values (settled c h).rows) (settle_taken h) (use_taken again a values (settled c h).rows)

  option_taken : (a : Rule) (v : Option Text) (h : Held) → Passes (option_fault c again a v h) (option_passes c again a v h)
  option_taken a None h = settle_taken h
  option_taken a (Some v) h = react_taken a (v ∷ []) h

  long_taken : (o : Option Rule) (v : Option Text) (h : Held) → Passes (long_fault c again o v h) (long_passes c again o v h)
  long_taken None v h e = absurd cc
  long_taken (Some a) v h e = in_case (takes_values a) (option_fault c again a v h) (if is_some v then TooManyValues ∷ [] else react_fault c again a [] h)
      (option_passes c again a v h) (not (is_some v) && react_passes c again a [] h) (option_taken a v h) (go v) e
    where
      go : (v : Option Text) → Passes (if is_some v then TooManyValues ∷ [] else react_fault c again a [] h) (not (is_some v) && react_passes c again a [] h)
      go None e = react_taken a [] h e
      go (Some v) e = absurd cc

  short_taken : (o : Option Rule) (rest : Text) (h : Held) (f : Held → Kinds) (p : Held → Bool) → ((h : Held) → Passes (f h) (p h))
      → Passes (short_fault c again o rest h f) (short_passes c again o rest h p)
  short_taken None rest h f p more e = absurd cc
  short_taken (Some a) rest h f p more e = in_case (takes_values a) (option_fault c again a (attached_value rest) h) (or_else (react_fault c again a [] h) (f (reacted c a [] h)))
      (option_passes c again a (attached_value rest) h) (react_passes c again a [] h && p (reacted c a [] h)) (option_taken a (attached_value rest) h)
      (two (react_fault c again a [] h) (f (reacted c a [] h)) (react_passes c again a [] h) (p (reacted c a [] h)) (react_taken a [] h) (more (reacted c a [] h))) e

  bundle_step_taken : (o : Option ℕ) (flags : Text) (skip : ℕ) (h : Held) (f : Text → ℕ → Held → Kinds) (p : Text → ℕ → Held → Bool)
      → ((flags : Text) (skip : ℕ) (h : Held) → Passes (f flags skip h) (p flags skip h)) → Passes (bundle_step_fault c again o flags skip h f) (bundle_step_passes c again o flags skip h p)
  bundle_step_taken None flags skip h f p more e = refl
  bundle_step_taken (Some x) flags zero h f p more e =
      let rest = drop (length (encode_utf8 x)) flags in
      short_taken (arg_by_short c x) rest h (f rest 0) (p rest 0) (more rest 0) e
  bundle_step_taken (Some x) flags (suc skip) h f p more e = more (drop (length (encode_utf8 x)) flags) skip h e

  flags_taken : (k : ℕ) (flags : Text) (skip : ℕ) (h : Held) → Passes (flags_fault c again k flags skip h) (flags_pass c again k flags skip h)
  unfolding flags_fault flags_pass
  flags_taken zero flags skip h e = refl
  flags_taken (suc k) flags skip h e =
      bundle_step_taken (slice_get (chars flags) 0) flags skip h (flags_fault c again k) (flags_pass c again k) (flags_taken k) e

  flag_word_taken : (o : Option (Text × Option Text)) (word : Text) (h : Held) → Passes (flag_word_fault c again o word h) (flag_word_passes c again o word h)
  flag_word_taken (Some p) word h = long_taken (arg_by_long c p.0) p.1 h
  flag_word_taken None word h = mapped (short_of word) (λ flags. bundle_fault c again flags h) (λ flags. bundle_passes c again flags h)
      (λ flags. flags_taken (length flags) flags h.skip (record h { skip = 0 }))

-- ---- the walk

other_taken : (waiting : Waiting) (word : Text) (h : Held) → Passes (other_fault shape (subcommand_met [] waiting word) word h) (other_passes shape (subcommand_met [] waiting word) word h)
other_taken waiting word h = go waiting
  where
    flags : Passes (other_fault shape None word h) (other_passes shape None word h)
    flags = unless (bytes_eq word (45 ∷ 45 ∷ [])) (flag_word_fault shape.rules false (long_of word) word h) (flag_word_passes shape.rules false (long_of word) word h)
        (flag_word_taken shape.rules false (long_of word) word h)

    go : (waiting : Waiting) → Passes (other_fault shape (subcommand_met [] waiting word) word h) (other_passes shape (subcommand_met [] waiting word) word h)
    go idle = flags
    go (option id) = flags
    go positional = flags

module _ (s : Shape) where
  stray_taken : (leaf : Bool) → Passes (if leaf then UnknownArgument ∷ [] else UnknownArgument ∷ InvalidSubcommand ∷ []) false
  stray_taken true e = absurd cc
  stray_taken false e = absurd cc

  step_taken : (position : ℕ) (h : Held) (step : Step) → Passes (step_fault s position h step) (step_passes s position h step)
  step_taken position h for_positional e = go (arg_by_index s.rules position) e
    where
      go : (o : Option Rule) → Passes (option_map_or (λ a. positional_fault s.rules s.args_override_self a h) o (stray_fault s)) (option_map_or (λ a. positional_passes s.rules s.args_override_self a h) o false)
      go None e = stray_taken s.is_leaf e
      go (Some a) e = unless (is_pending a h.pending && takes_several a) (settle_fault s.rules s.args_override_self h) (settle_passes s.rules s.args_override_self h) (settle_taken s.rules s.args_override_self h) e
  step_taken position h (next waiting) e = refl
  step_taken position h (trailing p) e = refl
  step_taken position h (subcommand name) e = refl

turn_taken : (w : Walk) (word : Text) → Passes (turn_fault shape [] w word) (turn_passes shape [] w word)
turn_taken w word =
    let met = word_met shape.rules [] w.is_trailing w.waiting w.position word w.held in
    unless (is_some w.stopped) (or_else (word_fault shape [] w.is_trailing w.waiting word w.held) (step_fault shape w.position met.0 met.1))
    (word_passes shape [] w.is_trailing w.waiting word w.held && step_passes shape w.position met.0 met.1)
    (two (word_fault shape [] w.is_trailing w.waiting word w.held) (step_fault shape w.position met.0 met.1)
    (word_passes shape [] w.is_trailing w.waiting word w.held) (step_passes shape w.position met.0 met.1)
    (unless w.is_trailing (other_fault shape (subcommand_met [] w.waiting word) word w.held) (other_passes shape (subcommand_met [] w.waiting word) word w.held)
    (other_taken w.waiting word w.held))
    (step_taken shape w.position met.0 met.1))

walk_taken : (w : Walk) (words : List Text) → Passes (walk_fault shape [] w words) (walk_passes shape [] w words)
unfolding walk_fault walk_passes
walk_taken w [] e = refl
walk_taken w (word ∷ words) e = two (turn_fault shape [] w word) (walk_fault shape [] (walked shape.rules [] w word) words) (turn_passes shape [] w word)
    (walk_passes shape [] (walked shape.rules [] w word) words) (turn_taken w word) (walk_taken (walked shape.rules [] w word) words) e

level_taken : (words : List Text) → Passes (level_fault shape [] nothing_held words false []) (level_passes shape [] nothing_held words false)
level_taken words e =
    let last = (walk shape.rules [] nothing_held words).held in
    let p = parts (walk_fault shape [] (walk_from nothing_held) words) _ e in
    let q = parts (settle_fault shape.rules false last) _ p.1 in
    rw (walk_taken (walk_from nothing_held) words p.0, settle_taken shape.rules false last q.0) refl

pub fault_taken : (words : List Text) → fault_of command words ≡ [] → takes command words ≡ true
fault_taken words e = leaf_takes (built command) nothing_held words refl (level_taken words (sym (leaf_fault (built command) nothing_held words refl) ∙ e))
