-- The first wrong word, line by line, and what a whole text spells.
use Rattle.std.proofs.Common.{◌≡◌, ◌≢◌, ◌∙◌, ℕ, Bool, true, false, List, [], ◌∷◌, ◌++◌, map, flat_map, length, Option, Some, None, Result, Ok, Err, IfErr, IsErrAnd, refl, sym, ap, subst, arith, append_assoc, append-nil, inl, inr, ◌⊎◌}
use Rattle.std.proofs.lemmas.Bool.Decides.{nat_tests}
use Rattle.cc_defs.specs.declared.refusal.Fault.{Fault}
use Rattle.cc_defs.specs.declared.refusal.Fault.TheVariants as faults
use Rattle.cc_defs.specs.declared.refusal.LimitAt.TheVariants as limits
use Rattle.cc_defs.specs.declared.refusal.Refusal.{Refusal}
use Rattle.cc_defs.specs.Clauses.{Literal}
use Rattle.cc_defs.specs.LogTexts.{IsShort, literal_text}
use Rattle.cc_defs.specs.Refusals.{past}
use Rattle.cc_dimacs.specs.Cnfs.{AreOver}
use Rattle.cc_dimacs.specs.CnfTexts.{IsCnfFault, IsCnfRefusal, IsCnfText, IsFaultIn, IsFirstWrong, IsHeading, LacksClauses, Line, Word, clause_words, last_line, texts_of, told_lines, words_in, words_of}
use Rattle.cc_dimacs.specs.Reading.{IsWrongLine, Taken, is_kept, judged, nothing_taken, on_line, then_word, then_words, word_step}
use Rattle.cc_dimacs.proofs.Clauses.{after, after_both, after_none, begins_taken, taken_begins, taken_of}

pub texts_both : (one other : List Word) → texts_of (one ++ other) ≡ texts_of one ++ texts_of other
texts_both [] other = refl
texts_both (word ∷ one) other = ap (λ (ts : List (List ℕ)). word.text ∷ ts) (texts_both one other)

abbrev pub on_lines : ℕ → List (List ℕ) → List Word
on_lines number texts = map (λ text. let w : Word = record { line = number; text = text } in w) texts

pub texts_on : (number : ℕ) (texts : List (List ℕ)) → texts_of (on_lines number texts) ≡ texts
texts_on number [] = refl
texts_on number (text ∷ texts) = ap (λ (ts : List (List ℕ)). text ∷ ts) (texts_on number texts)

module _ (kept : Bool) (variables count : ℕ) where
  -- words of which one is the first that is wrong
  pub record Stops (words : List Word) (taken : Taken) (line : ℕ) : Type 0 where
    pub before : List Word
    pub wrong : Word
    pub behind : List Word
    pub state : Taken
    pub parted : words ≡ before ++ wrong ∷ behind
    pub so_far : after kept variables count (Some taken) (texts_of before) ≡ Some state
    pub stops : word_step kept variables count state wrong.text ≡ None
    pub on : line ≡ wrong.line

  stops_in : (number : ℕ) (texts : List (List ℕ)) (taken : Taken) → after kept variables count (Some taken) texts ≡ None → Stops (on_lines number texts) taken number
  stops_in number [] taken is = absurd cc
  stops_in number (text ∷ texts) taken is = go (word_step kept variables count taken text) refl is (λ next more. stops_in number texts next more)
    where
      go : (step : Option Taken) → word_step kept variables count taken text ≡ step → after kept variables count step texts ≡ None →
          ((next : Taken) → after kept variables count (Some next) texts ≡ None → Stops (on_lines number texts) next number) → Stops (on_lines number (text ∷ texts)) taken number
      go None at rest later = record {
        before = [];
        wrong = record { line = number; text = text };
        behind = on_lines number texts;
        state = taken;
        parted = refl;
        so_far = refl;
        stops = at;
        on = refl;
      }
      go (Some next) at rest later =
          let h = later next rest in
          record {
            before = (record { line = number; text = text }) ∷ h.before;
            wrong = h.wrong;
            behind = h.behind;
            state = h.state;
            parted = ap (λ (ws : List Word). (record { line = number; text = text }) ∷ ws) h.parted;
            so_far = ap (λ (s : Option Taken). after kept variables count s (texts_of h.before)) at ∙ h.so_far;
            stops = h.stops;
            on = h.on;
          }

  stops_at : (lines : List Line) (taken : Taken) (line : ℕ) → judged kept variables count taken lines ≡ Err line → Stops (flat_map words_of lines) taken line
  stops_at [] taken line is = absurd cc
  stops_at (first ∷ lines) taken line is = go (after kept variables count (Some taken) (words_in first.text)) refl is (λ next more. stops_at lines next line more)
    where
      go : (state : Option Taken) → after kept variables count (Some taken) (words_in first.text) ≡ state → on_line first.number state (λ more. judged kept variables count more lines) ≡ Err line →
          ((next : Taken) → judged kept variables count next lines ≡ Err line → Stops (flat_map words_of lines) next line) → Stops (flat_map words_of (first ∷ lines)) taken line
      go None at found later =
          let h = stops_in first.number (words_in first.text) taken at in
          let same : first.number ≡ line = cc in
          record {
            before = h.before;
            wrong = h.wrong;
            behind = h.behind ++ flat_map words_of lines;
            state = h.state;
            parted = ap (λ (ws : List Word). ws ++ flat_map words_of lines) h.parted ∙ append_assoc h.before (h.wrong ∷ h.behind) (flat_map words_of lines);
            so_far = h.so_far;
            stops = h.stops;
            on = sym same ∙ h.on;
          }
      go (Some next) at found later =
          let h = later next found in
          record {
            before = words_of first ++ h.before;
            wrong = h.wrong;
            behind = h.behind;
            state = h.state;
            parted = ap (λ (ws : List Word). words_of first ++ ws) h.parted ∙ sym (append_assoc (words_of first) h.before (h.wrong ∷ h.behind));
            so_far =
                ap (after kept variables count (Some taken)) (texts_both (words_of first) h.before ∙ ap (λ (ts : List (List ℕ)). ts ++ texts_of h.before) (texts_on first.number (words_in first.text)))
                ∙ after_both kept variables count (Some taken) (words_in first.text) (texts_of h.before)
                ∙ ap (λ (s : Option Taken). after kept variables count s (texts_of h.before)) at ∙ h.so_far;
            stops = h.stops;
            on = h.on;
          }

  pub first_wrong : (words : List Word) (line : ℕ) → IsShort variables → Stops words nothing_taken line → (wrong : Word) × IsFirstWrong variables count words wrong × (line ≡ wrong.line)
  first_wrong words line short h = (
    h.wrong,
    record {
      before = h.before;
      behind = h.behind;
      parted = h.parted;
      begins = (taken_begins kept variables count (texts_of h.before) h.state h.so_far).begins;
      wrongs = λ b.
          let more = begins_taken kept variables count (texts_of (h.before ++ h.wrong ∷ [])) b short in
          let none : after kept variables count (Some nothing_taken) (texts_of (h.before ++ h.wrong ∷ [])) ≡ None =
          ap (after kept variables count (Some nothing_taken)) (texts_both h.before (h.wrong ∷ []))
          ∙ after_both kept variables count (Some nothing_taken) (texts_of h.before) (h.wrong.text ∷ [])
          ∙ ap (λ (s : Option Taken). then_word kept variables count s h.wrong.text) h.so_far ∙ h.stops in
          cc;
    },
    h.on,
  )

  pub all_taken : (lines : List Line) (taken end : Taken) → judged kept variables count taken lines ≡ Ok end → after kept variables count (Some taken) (texts_of (flat_map words_of lines)) ≡ Some end
  all_taken [] taken end is = let same : taken ≡ end = cc in ap (λ (t : Taken). Some t) same
  all_taken (first ∷ lines) taken end is = go (after kept variables count (Some taken) (words_in first.text)) refl is (λ next more. all_taken lines next end more)
    where
      go : (state : Option Taken) → after kept variables count (Some taken) (words_in first.text) ≡ state → on_line first.number state (λ more. judged kept variables count more lines) ≡ Ok end →
          ((next : Taken) → judged kept variables count next lines ≡ Ok end → after kept variables count (Some next) (texts_of (flat_map words_of lines)) ≡ Some end) →
          after kept variables count (Some taken) (texts_of (flat_map words_of (first ∷ lines))) ≡ Some end
      go None at found later = absurd cc
      go (Some next) at found later =
          ap (after kept variables count (Some taken)) (texts_both (words_of first) (flat_map words_of lines) ∙ ap (λ (ts : List (List ℕ)). ts ++ texts_of (flat_map words_of lines)) (texts_on first.number (words_in first.text)))
          ∙ after_both kept variables count (Some taken) (words_in first.text) (texts_of (flat_map words_of lines))
          ∙ ap (λ (s : Option Taken). after kept variables count s (texts_of (flat_map words_of lines))) at ∙ later next found

  pub lacks : (words : List Word) (end : Taken) → IsShort variables → after kept variables count (Some nothing_taken) (texts_of words) ≡ Some end → (end.is_open ≡ true) ⊎ (end.done ≢ count) → LacksClauses variables count words
  lacks words end short is why = record {
    begins = (taken_begins kept variables count (texts_of words) end is).begins;
    none = λ clauses over long spelled.
        let whole = begins_taken kept variables count (texts_of words) (record { clauses = clauses; rest = []; over = over; rest_over = tt; few = omega arith; fewer = λ e. absurd (e refl); spelled = spelled ∙ sym (append-nil (flat_map clause_words clauses)) }) short in
        let same : taken_of kept clauses [] ≡ end = cc in
        let closed : false ≡ end.is_open = ap (λ (t : Taken). t.is_open) same in
        let counted : length clauses ≡ end.done = ap (λ (t : Taken). t.done) same in
        elim why [ inl open_is ↦ cc | inr other ↦ other (sym counted ∙ long) ];
  }

-- ---- whole texts

-- the clauses of words that were taken to the end, and that they are what was kept
record Whole (kept : Bool) (variables count : ℕ) (words : List (List ℕ)) (end : Taken) : Type 0 where
  clauses : List (List Literal)
  over : AreOver variables clauses
  long : length clauses ≡ count
  spelled : words ≡ flat_map clause_words clauses
  is : kept ≡ true → clauses ≡ end.clauses

whole : (kept : Bool) (variables count : ℕ) (words : List (List ℕ)) (end : Taken) → after kept variables count (Some nothing_taken) words ≡ Some end → end.is_open ≡ false → end.done ≡ count → Whole kept variables count words end
whole kept variables count words end is closed counted =
    let h = taken_begins kept variables count words end is in
    go h.begins.clauses h.begins.rest h.begins.over h.begins.spelled h.is
  where
    go : (clauses : List (List Literal)) (rest : List Literal) → AreOver variables clauses → words ≡ flat_map clause_words clauses ++ map literal_text rest → taken_of kept clauses rest ≡ end → Whole kept variables count words end
    go clauses (literal ∷ rest) over spelled same = let open_is : true ≡ end.is_open = ap (λ (t : Taken). t.is_open) same in absurd cc
    go clauses [] over spelled same = record {
      clauses = clauses;
      over = over;
      long = ap (λ (t : Taken). t.done) same ∙ counted;
      spelled = spelled ∙ append-nil (flat_map clause_words clauses);
      is = λ all. let own : taken_of true clauses [] ≡ end = subst (λ (k : Bool). taken_of k clauses [] ≡ end) all same in ap (λ (t : Taken). t.clauses) own;
    }

module _ (bytes : List ℕ) (first : Line) (others : List Line) (at : told_lines bytes ≡ first ∷ others) (variables count : ℕ) (heading : IsHeading (words_in first.text) variables count) where
  fault_in : (line : ℕ) → IsFaultIn bytes (first ∷ others) line → IsCnfFault bytes line
  fault_in line fault = subst (λ (ls : List Line). IsFaultIn bytes ls line) (sym at) fault

  -- a word is wrong, or memory was wanting
  pub wrong_refused : (found : Result Taken ℕ) (fault : Fault) → judged (is_kept variables) variables count nothing_taken others ≡ found → IsWrongLine found fault → IsCnfRefusal bytes fault
  wrong_refused found faults.OutOfMemory is wrong = tt
  wrong_refused (Ok end) (faults.Refused refusal) is wrong = absurd wrong
  wrong_refused (Err line) (faults.Refused refusal) is wrong =
      inl (line, fault_in line (inr (variables, count, heading, inl (first_wrong (is_kept variables) variables count (flat_map words_of others) line heading.variables_short (stops_at (is_kept variables) variables count others nothing_taken line is)))), wrong)

  module _ (end : Taken) (is : judged (is_kept variables) variables count nothing_taken others ≡ Ok end) where
    taken : after (is_kept variables) variables count (Some nothing_taken) (texts_of (flat_map words_of others)) ≡ Some end
    taken = all_taken (is_kept variables) variables count others nothing_taken end is

    -- a clause is missing
    pub lacking_refused : (line : ℕ) (fault : Fault) → (end.is_open ≡ true) ⊎ (end.done ≢ count) → last_line bytes ≡ line → IsWrongLine (Err line) fault → IsCnfRefusal bytes fault
    lacking_refused line faults.OutOfMemory why last wrong = tt
    lacking_refused line (faults.Refused refusal) why last wrong =
        inl (line, fault_in line (inr (variables, count, heading, inr (lacks (is_kept variables) variables count (flat_map words_of others) end heading.variables_short taken why, sym last))), wrong)

    text_of : (w : Whole (is_kept variables) variables count (texts_of (flat_map words_of others)) end) → IsCnfText bytes (record { variables = variables; clauses = w.clauses })
    text_of w = record {
      first = first;
      others = others;
      lines = at;
      heading = subst (IsHeading (words_in first.text) variables) (sym w.long) heading;
      spelled = w.spelled;
      over = w.over;
    }

    -- a whole text with too many variables
    pub many_refused : end.is_open ≡ false → end.done ≡ count → is_kept variables ≡ false → (refusal : Refusal) → refusal ≡ past limits.CnfVariables → IsCnfRefusal bytes (faults.Refused refusal)
    many_refused closed counted many refusal given =
        let w = whole (is_kept variables) variables count (texts_of (flat_map words_of others)) end taken closed counted in
        inr (record { variables = variables; clauses = w.clauses }, text_of w, grind (arith, nat_tests), given)

    -- a whole text
    pub text_is : end.is_open ≡ false → end.done ≡ count → is_kept variables ≡ true → (clauses : List (List Literal)) → clauses ≡ end.clauses → IsCnfText bytes (record { variables = variables; clauses = clauses })
    text_is closed counted few clauses given =
        let w = whole (is_kept variables) variables count (texts_of (flat_map words_of others)) end taken closed counted in
        let same : w.clauses ≡ clauses = w.is few ∙ sym given in
        subst (λ (cs : List (List Literal)). IsCnfText bytes (record { variables = variables; clauses = cs })) same (text_of w)

-- ---- what is given out

pub refused_so : {T : Type 0} (result : Result T Fault) (Is : Fault → Type 0) (fault : Fault) → IsErrAnd result (λ given. given ≡ fault) → Is fault → IfErr result Is
refused_so (Ok x) Is fault same so = tt
refused_so (Err other) Is fault same so = subst Is (sym same) so

pub stops_line : (kept : Bool) (variables count : ℕ) (taken : Taken) (result : Option Taken) (words others : List (List ℕ)) (word : List ℕ) → result ≡ then_words kept variables count (Some taken) words → words ≡ word ∷ others →
    word_step kept variables count taken word ≡ None → result ≡ None
stops_line kept variables count taken result words others word is parted none =
    is ∙ ap (then_words kept variables count (Some taken)) parted ∙ ap (λ (s : Option Taken). then_words kept variables count s others) none ∙ after_none kept variables count others
