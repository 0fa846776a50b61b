-- Words as clauses: what is taken of words is what they spell.
use Rattle.std.proofs.Common.{◌≡◌, ◌≢◌, ◌∙◌, ℕ, ◌+◌, ◌<◌, ◌≤◌, Bool, true, false, eqb, ltb, leb, List, [], ◌∷◌, ◌++◌, map, flat_map, length, length-append, Option, Some, None, codes, refl, sym, ap, subst, arith, append_assoc, append-nil, inl, inr}
use Rattle.std.specs.List.{AllByRecursion}
use Rattle.std.proofs.lemmas.Bool.{cases_Bool}
use Rattle.std.proofs.lemmas.Bool.Decides.{nat_tests}
use Rattle.cc_defs.specs.Clauses.{Literal, IsLiteralOver}
use Rattle.cc_defs.specs.LogTexts.{IsShort, literal_text}
use Rattle.cc_dimacs.specs.Cnfs.{AreOver}
use Rattle.cc_dimacs.specs.CnfTexts.{Begins, clause_words}
use Rattle.cc_dimacs.specs.Reading.{Taken, clause_ended, literal_taken, named_of, named_step, nothing_taken, then_word, then_words, word_step}
use Rattle.cc_dimacs.proofs.Numbers.{named_complete, named_sound, zero_named}

-- ---- what is taken where clauses have ended and literals stand behind them

abbrev has_some : List Literal → Bool
has_some [] = false
has_some (x ∷ xs) = true

abbrev if_kept : {X : Type 0} → Bool → List X → List X
if_kept true xs = xs
if_kept false xs = []

abbrev pub taken_of : Bool → List (List Literal) → List Literal → Taken
taken_of kept clauses rest = record { done = length clauses; is_open = has_some rest; clauses = if_kept kept clauses; rest = if_kept kept rest }

ended_is : (kept : Bool) (clauses : List (List Literal)) (rest : List Literal) → clause_ended kept (taken_of kept clauses rest) ≡ taken_of kept (clauses ++ rest ∷ []) []
ended_is true clauses rest = ap (λ (n : ℕ). let t : Taken = record { done = n; is_open = false; clauses = clauses ++ rest ∷ []; rest = [] } in t) (sym (length-append clauses (rest ∷ [])))
ended_is false clauses rest = ap (λ (n : ℕ). let t : Taken = record { done = n; is_open = false; clauses = []; rest = [] } in t) (sym (length-append clauses (rest ∷ [])))

has_more : (rest : List Literal) (literal : Literal) → true ≡ has_some (rest ++ literal ∷ [])
has_more [] literal = refl
has_more (x ∷ rest) literal = refl

literal_is : (kept : Bool) (clauses : List (List Literal)) (rest : List Literal) (literal : Literal) → literal_taken kept (taken_of kept clauses rest) literal ≡ taken_of kept clauses (rest ++ literal ∷ [])
literal_is true clauses rest literal = ap (λ (b : Bool). let t : Taken = record { done = length clauses; is_open = b; clauses = clauses; rest = rest ++ literal ∷ [] } in t) (has_more rest literal)
literal_is false clauses rest literal = ap (λ (b : Bool). let t : Taken = record { done = length clauses; is_open = b; clauses = []; rest = [] } in t) (has_more rest literal)

begun : (kept : Bool) → nothing_taken ≡ taken_of kept [] []
begun true = refl
begun false = refl

-- ---- words

module _ (kept : Bool) (variables count : ℕ) where
  abbrev pub after : Option Taken → List (List ℕ) → Option Taken
  after state words = then_words kept variables count state words

  pub after_none : (words : List (List ℕ)) → after None words ≡ None
  after_none [] = refl
  after_none (word ∷ words) = after_none words

  pub after_both : (state : Option Taken) (one other : List (List ℕ)) → after state (one ++ other) ≡ after (after state one) other
  after_both state [] other = refl
  after_both state (word ∷ one) other = after_both (then_word kept variables count state word) one other

  -- ---- what is there is taken

  step_ends : (clauses : List (List Literal)) (rest : List Literal) → length clauses < count → word_step kept variables count (taken_of kept clauses rest) (codes "0") ≡ Some (taken_of kept (clauses ++ rest ∷ []) [])
  step_ends clauses rest below =
      let goes : leb count (length clauses) ≡ false = grind (arith, nat_tests) in
      ap (named_step kept variables count (taken_of kept clauses rest)) zero_named ∙ rw goes (ap (λ (t : Taken). Some t) (ended_is kept clauses rest))

  step_literal : (clauses : List (List Literal)) (rest : List Literal) (literal : Literal) → length clauses < count → IsLiteralOver variables literal → IsShort variables →
      word_step kept variables count (taken_of kept clauses rest) (literal_text literal) ≡ Some (taken_of kept clauses (rest ++ literal ∷ []))
  step_literal clauses rest literal below over short =
      let some = over.0 in
      let most = over.1 in
      let goes : leb count (length clauses) ≡ false = grind (arith, nat_tests) in
      let other : eqb literal.variable 0 ≡ false = grind (arith, nat_tests) in
      let within : ltb variables literal.variable ≡ false = grind (arith, nat_tests) in
      ap (named_step kept variables count (taken_of kept clauses rest)) (named_complete literal some (omega arith)) ∙ rw (goes, other, within) (ap (λ (t : Taken). Some t) (literal_is kept clauses rest literal))

  literals_taken : (clauses : List (List Literal)) (rest literals : List Literal) → (literals ≢ [] → length clauses < count) → AllByRecursion (IsLiteralOver variables) literals → IsShort variables →
      after (Some (taken_of kept clauses rest)) (map literal_text literals) ≡ Some (taken_of kept clauses (rest ++ literals))
  literals_taken clauses rest [] below over short = ap (λ (r : List Literal). Some (taken_of kept clauses r)) (sym (append-nil rest))
  literals_taken clauses rest (literal ∷ literals) below over short =
      let less : length clauses < count = below (λ e. cc) in
      ap (λ (s : Option Taken). after s (map literal_text literals)) (step_literal clauses rest literal less over.0 short)
      ∙ literals_taken clauses (rest ++ literal ∷ []) literals (λ e. less) over.1 short
      ∙ ap (λ (r : List Literal). Some (taken_of kept clauses r)) (append_assoc rest (literal ∷ []) literals)

  clauses_taken : (clauses more : List (List Literal)) → length clauses + length more ≤ count → AreOver variables more → IsShort variables →
      after (Some (taken_of kept clauses [])) (flat_map clause_words more) ≡ Some (taken_of kept (clauses ++ more) [])
  clauses_taken clauses [] most over short = ap (λ (c : List (List Literal)). Some (taken_of kept c [])) (sym (append-nil clauses))
  clauses_taken clauses (clause ∷ more) most over short =
      let less : length clauses < count = omega arith in
      let longer = length-append clauses (clause ∷ []) in
      after_both (Some (taken_of kept clauses [])) (clause_words clause) (flat_map clause_words more)
      ∙ ap (λ (s : Option Taken). after s (flat_map clause_words more))
      (after_both (Some (taken_of kept clauses [])) (map literal_text clause) (codes "0" ∷ [])
      ∙ ap (λ (s : Option Taken). after s (codes "0" ∷ [])) (literals_taken clauses [] clause (λ e. less) over.0 short)
      ∙ step_ends clauses clause less)
      ∙ clauses_taken (clauses ++ clause ∷ []) more (omega arith) over.1 short
      ∙ ap (λ (c : List (List Literal)). Some (taken_of kept c [])) (append_assoc clauses (clause ∷ []) more)

  pub begins_taken : (words : List (List ℕ)) (b : Begins variables count words) → IsShort variables → after (Some nothing_taken) words ≡ Some (taken_of kept b.clauses b.rest)
  begins_taken words b short =
      ap (after (Some nothing_taken)) b.spelled
      ∙ after_both (Some nothing_taken) (flat_map clause_words b.clauses) (map literal_text b.rest)
      ∙ ap (λ (s : Option Taken). after s (map literal_text b.rest)) (ap (λ (t : Taken). after (Some t) (flat_map clause_words b.clauses)) (begun kept) ∙ clauses_taken [] b.clauses (let few = b.few in omega arith) b.over short)
      ∙ literals_taken b.clauses [] b.rest b.fewer b.rest_over short

  -- ---- what is taken is there

  -- words that were taken with this outcome
  pub record Reached (words : List (List ℕ)) (taken : Taken) : Type 0 where
    pub begins : Begins variables count words
    pub is : taken_of kept begins.clauses begins.rest ≡ taken

  all_last : {X : Type 0} (P : X → Type 0) (xs : List X) (x : X) → AllByRecursion P xs → P x → AllByRecursion P (xs ++ x ∷ [])
  all_last P [] x all here = (here, tt)
  all_last P (y ∷ xs) x all here = (all.0, all_last P xs x all.1 here)

  flat_last : (clauses : List (List Literal)) (clause : List Literal) → flat_map clause_words (clauses ++ clause ∷ []) ≡ flat_map clause_words clauses ++ clause_words clause
  flat_last [] clause = append-nil (clause_words clause)
  flat_last (c ∷ clauses) clause = ap (λ (ws : List (List ℕ)). clause_words c ++ ws) (flat_last clauses clause) ∙ sym (append_assoc (clause_words c) (flat_map clause_words clauses) (clause_words clause))

  map_last : (literals : List Literal) (literal : Literal) → map literal_text (literals ++ literal ∷ []) ≡ map literal_text literals ++ literal_text literal ∷ []
  map_last [] literal = refl
  map_last (l ∷ literals) literal = ap (λ (ws : List (List ℕ)). literal_text l ∷ ws) (map_last literals literal)

  with_end : (words : List (List ℕ)) (word : List ℕ) (b : Begins variables count words) → length b.clauses < count → word ≡ codes "0" → Begins variables count (words ++ word ∷ [])
  with_end words word b below is = record {
    clauses = b.clauses ++ b.rest ∷ [];
    rest = [];
    over = all_last (AllByRecursion (IsLiteralOver variables)) b.clauses b.rest b.over b.rest_over;
    rest_over = tt;
    few = (let longer = length-append b.clauses (b.rest ∷ []) in omega arith);
    fewer = λ e. absurd (e refl);
    spelled =
        ap (λ (ws : List (List ℕ)). ws ++ word ∷ []) b.spelled ∙ ap (λ (w : List ℕ). (flat_map clause_words b.clauses ++ map literal_text b.rest) ++ w ∷ []) is
        ∙ append_assoc (flat_map clause_words b.clauses) (map literal_text b.rest) (codes "0" ∷ [])
        ∙ sym (flat_last b.clauses b.rest) ∙ sym (append-nil (flat_map clause_words (b.clauses ++ b.rest ∷ [])));
  }

  with_literal : (words : List (List ℕ)) (word : List ℕ) (b : Begins variables count words) (literal : Literal) → length b.clauses < count → IsLiteralOver variables literal → word ≡ literal_text literal → Begins variables count (words ++ word ∷ [])
  with_literal words word b literal below over is = record {
    clauses = b.clauses;
    rest = b.rest ++ literal ∷ [];
    over = b.over;
    rest_over = all_last (IsLiteralOver variables) b.rest literal b.rest_over over;
    few = omega arith;
    fewer = λ e. below;
    spelled =
        ap (λ (ws : List (List ℕ)). ws ++ word ∷ []) b.spelled ∙ ap (λ (w : List ℕ). (flat_map clause_words b.clauses ++ map literal_text b.rest) ++ w ∷ []) is
        ∙ append_assoc (flat_map clause_words b.clauses) (map literal_text b.rest) (literal_text literal ∷ [])
        ∙ ap (λ (ws : List (List ℕ)). flat_map clause_words b.clauses ++ ws) (sym (map_last b.rest literal));
  }

  read_sound : (words : List (List ℕ)) (word : List ℕ) (b : Begins variables count words) (taken : Taken) (read : Option Literal) → named_of word ≡ read → named_step kept variables count (taken_of kept b.clauses b.rest) read ≡ Some taken → Reached (words ++ word ∷ []) taken
  unfolding with_end with_literal
  read_sound words word b taken None at is = absurd cc
  read_sound words word b taken (Some literal) at is = elim (cases_Bool (leb count (length b.clauses))) [
    | inl full ↦ let none : None ≡ Some taken = rw full at is in absurd cc
    | inr goes ↦
        let names = named_sound word literal at in
        let below : length b.clauses < count = grind (arith, nat_tests) in
        elim (cases_Bool (eqb literal.variable 0)) [
          | inl zero_is ↦
              let more : Some (clause_ended kept (taken_of kept b.clauses b.rest)) ≡ Some taken = rw (goes, zero_is) at is in
              let same : clause_ended kept (taken_of kept b.clauses b.rest) ≡ taken = cc in
              record { begins = with_end words word b below (names.none (grind (arith, nat_tests))); is = sym (ended_is kept b.clauses b.rest) ∙ same }
          | inr other ↦ elim (cases_Bool (ltb variables literal.variable)) [
            | inl past ↦ let none : None ≡ Some taken = rw (goes, other, past) at is in absurd cc
            | inr within ↦
                let more : Some (literal_taken kept (taken_of kept b.clauses b.rest) literal) ≡ Some taken = rw (goes, other, within) at is in
                let same : literal_taken kept (taken_of kept b.clauses b.rest) literal ≡ taken = cc in
                let some : 0 < literal.variable = grind (arith, nat_tests) in
                let most : literal.variable ≤ variables = grind (arith, nat_tests) in
                record { begins = with_literal words word b literal below (some, most) (names.some some); is = sym (literal_is kept b.clauses b.rest literal) ∙ same }
          ]
        ]
  ]

  words_sound : (so_far words : List (List ℕ)) (b : Begins variables count so_far) (taken : Taken) → after (Some (taken_of kept b.clauses b.rest)) words ≡ Some taken → Reached (so_far ++ words) taken
  words_sound so_far [] b taken is =
      let same : taken_of kept b.clauses b.rest ≡ taken = cc in
      subst (λ (ws : List (List ℕ)). Reached ws taken) (sym (append-nil so_far)) (record { begins = b; is = same })
  words_sound so_far (word ∷ words) b taken is = go (word_step kept variables count (taken_of kept b.clauses b.rest) word) refl is (λ next more. words_sound (so_far ++ word ∷ []) words next taken more)
    where
      go : (step : Option Taken) → word_step kept variables count (taken_of kept b.clauses b.rest) word ≡ step → after step words ≡ Some taken →
          ((next : Begins variables count (so_far ++ word ∷ [])) → after (Some (taken_of kept next.clauses next.rest)) words ≡ Some taken → Reached ((so_far ++ word ∷ []) ++ words) taken) → Reached (so_far ++ word ∷ words) taken
      go None at rest behind = let none : None ≡ Some taken = sym (after_none words) ∙ rest in absurd cc
      go (Some between) at rest behind =
          let h = read_sound so_far word b between (named_of word) refl at in
          subst (λ (ws : List (List ℕ)). Reached ws taken) (append_assoc so_far (word ∷ []) words)
          (behind h.begins (ap (λ (t : Taken). after (Some t) words) h.is ∙ rest))

  nothing_begins : Begins variables count []
  nothing_begins = record { clauses = []; rest = []; over = tt; rest_over = tt; few = omega arith; fewer = λ e. absurd (e refl); spelled = refl }

  pub taken_begins : (words : List (List ℕ)) (taken : Taken) → after (Some nothing_taken) words ≡ Some taken → Reached words taken
  unfolding nothing_begins
  taken_begins words taken is = words_sound [] words nothing_begins taken (ap (λ (t : Taken). after (Some t) words) (sym (begun kept)) ∙ is)
