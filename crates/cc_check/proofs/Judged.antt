-- What lines do, behind the clauses of a section.
use Rattle.std.proofs.Common.{◌≡◌, ◌≢◌, ℕ, suc, ◌+◌, ◌-◌, ◌≤◌, Bool, true, false, not, ◌||◌, eqb, List, [], ◌∷◌, ◌++◌, length, refl, sym, ap, subst, ◌∙◌, arith, append_assoc, append-nil, length-append, inl, inr}
use Rattle.std.specs.Prelude.{◌↔◌, IsTrue}
use Rattle.std.specs.Bool.{MatchBool, beq}
use Rattle.std.specs.Prelude.{MatchOption, Option, None, Some}
use Rattle.std.proofs.Math.Dec.{eqb-suc-zero}
use Rattle.std.specs.List.{Contains}
use Rattle.std.proofs.lemmas.Bool.{false≢true}
use Rattle.std.proofs.lemmas.List.{nil_from_length}
use Rattle.std.proofs.lemmas.List.Elements.{Contains-append_left, Contains-push, Contains-push_cases}
use Rattle.cc_defs.specs.declared.log.Cause.{Cause}
use Rattle.cc_defs.specs.declared.log.Cause.TheVariants as causes
use Rattle.cc_defs.specs.declared.log.EndWord.{EndWord}
use Rattle.cc_defs.specs.declared.log.EndWord.TheVariants as words
use Rattle.cc_defs.specs.declared.log.LogLine.{LogLine}
use Rattle.cc_defs.specs.declared.log.LogLine.TheVariants as lines
use Rattle.cc_defs.specs.declared.log.Version.{Version}
use Rattle.cc_defs.specs.declared.log.Version.TheVariants.{First, Second}
use Rattle.cc_defs.specs.Clauses.{Literal, Reaches}
use Rattle.cc_defs.specs.LogBytes.{IsSpelled, chain_behind, line_meant}
use Rattle.cc_defs.specs.Rows.{IsRow}
use Rattle.cc_defs.specs.Sections.{Axioms, Finding, Reading, Right, Trailed, Wrong, HasNoEmpty, AreNamed, EndsRightly, IsBlockJudged, IsFound, IsEnded, IsJudged, row_denial}
use Rattle.cc_check.specs.declared.judge.Pass.{Pass}
use Rattle.cc_check.specs.declared.judge.Pass.TheVariants as passes
use Rattle.cc_check.specs.declared.line.Kind.{Kind}
use Rattle.cc_check.specs.declared.line.Kind.TheVariants as kinds
use Rattle.cc_check.specs.Clauses.{IsClauseOver, AreClausesOver, AreSound, IsEndedInBytes, IsFoundInBytes, IsLeft, IsPassed, IsPassedAt, IsRightDerived, IsWrongDerived, ReachesNothing, reading_as}
use Rattle.cc_check.specs.declared.line.LineParts.{LineParts}
use Rattle.cc_check.specs.Readers.{links, literals_of, numbers_of}
use Rattle.cc_check.specs.Reading.{IsFirstRead, IsReadIn}
use Rattle.cc_check.specs.Texts.{AreTexts}
use Rattle.cc_check.proofs.FirstTexts.{nothing_in}

-- ---- what a line means, in each version

block_meant : (version : Version) (own : ℕ) (row : List ℕ) → line_meant version own (lines.Block row) ≡ lines.Block row
block_meant First own row = refl
block_meant Second own row = refl

end_meant : (version : Version) (own : ℕ) (word : EndWord) → line_meant version own (lines.End word) ≡ lines.End word
end_meant First own word = refl
end_meant Second own word = refl

-- ---- a chain's clauses, named one after another

same_links : (own : ℕ) (names : Bool) (numbers : List ℕ) → links First own names numbers ≡ numbers
same_links own names [] = refl
same_links own names (number ∷ numbers) = ap (λ (t : List ℕ). number ∷ t) (same_links own (not names) numbers)

far_links : (own : ℕ) (numbers : List ℕ) → links Second own true numbers ≡ chain_behind own numbers
far_links own [] = refl
far_links own (distance ∷ []) = refl
far_links own (distance ∷ pivot ∷ numbers) = ap (λ (t : List ℕ). (own - distance) ∷ pivot ∷ t) (far_links own numbers)

pub linked : (version : Version) (own : ℕ) (clause : List Literal) (numbers : List ℕ) →
    line_meant version own (lines.Derived clause numbers) ≡ lines.Derived clause (links version own true numbers)
linked First own clause numbers = ap (lines.Derived clause) (sym (same_links own true numbers))
linked Second own clause numbers = ap (lines.Derived clause) (sym (far_links own numbers))

-- ---- what a line does

module _ (version : Version) (may : Bool) (axioms : Axioms) (own : List (List Literal)) (blocks : ℕ) (text : List ℕ) where
  abbrev Found : ℕ → List (List ℕ) → Finding → List (List Literal) → ℕ → Type 0
  Found line texts finding after count = IsFound (reading_as version may) axioms after count line texts finding

  found_by : (read said : LogLine) → IsSpelled version text read → line_meant version (length (axioms.clauses ++ own) + 1) read ≡ said →
      (line : ℕ) (texts : List (List ℕ)) (finding : Finding) →
      IsJudged (reading_as version may) axioms (axioms.clauses ++ own) blocks line (Found (line + 1) texts finding) texts finding said →
      IsFound (reading_as version may) axioms (axioms.clauses ++ own) blocks line (text ∷ texts) finding
  found_by read said spelled is line texts finding judged = inr (
    read,
    spelled,
    subst (IsJudged (reading_as version may) axioms (axioms.clauses ++ own) blocks line (Found (line + 1) texts finding) texts finding) (sym is) judged,
  )

  moved : (clause : List Literal) (after : List (List Literal)) (count line : ℕ) (texts : List (List ℕ)) (finding : Finding) → after ≡ own ++ clause ∷ [] →
      Found line texts finding (axioms.clauses ++ after) count → Found line texts finding ((axioms.clauses ++ own) ++ clause ∷ []) count
  moved clause after count line texts finding is next =
      subst (λ (cs : List (List Literal)). Found line texts finding cs count)
      (ap (λ (cs : List (List Literal)). axioms.clauses ++ cs) is ∙ sym (append_assoc axioms.clauses own (clause ∷ []))) next

  pub block_goes : may ≡ true → (row : List ℕ) (clause : List Literal) (after : List (List Literal)) (count : ℕ) → HasNoEmpty (axioms.clauses ++ own) → IsRow axioms.sizes row →
      clause ≡ row_denial axioms.sizes row → after ≡ own ++ clause ∷ [] → count ≡ blocks → IsSpelled version text (lines.Block row) →
      IsPassed (reading_as version may) axioms own blocks text passes.Goes after (count + 1)
  block_goes allowed row clause after count none is_row denial is same read line texts finding next =
      let here = moved clause after (count + 1) (line + 1) texts finding is next in
      let goes = subst (λ (k : ℕ). Found (line + 1) texts finding ((axioms.clauses ++ own) ++ row_denial axioms.sizes row ∷ []) (k + 1)) same
      (subst (λ (d : List Literal). Found (line + 1) texts finding ((axioms.clauses ++ own) ++ d ∷ []) (count + 1)) denial here) in
      found_by (lines.Block row) (lines.Block row) read (block_meant version _ row) line texts finding
      (subst (λ (b : Bool). IsBlockJudged b axioms (axioms.clauses ++ own) blocks line (Found (line + 1) texts finding) finding row) (sym allowed) (inr (inr (none, is_row, goes))))

  pub end_goes : (word : EndWord) → EndsRightly (axioms.clauses ++ own) word → IsSpelled version text (lines.End word) →
      IsPassed (reading_as version may) axioms own blocks text (passes.Ends word) own blocks
  end_goes word right read line texts finding ended =
      found_by (lines.End word) (lines.End word) read (end_meant version _ word) line texts finding (inl (right, ended))

  pub end_wrong : (word : EndWord) → (EndsRightly (axioms.clauses ++ own) word → ⊥) → IsSpelled version text (lines.End word) →
      IsPassed (reading_as version may) axioms own blocks text (passes.Wrong causes.Section) own blocks
  end_wrong word wrong read line texts =
      found_by (lines.End word) (lines.End word) read (end_meant version _ word) line texts (Wrong line causes.Section) (inr (wrong, refl))

  -- a derived line, with its clauses named by their numbers
  module _ (literals : List Literal) (numbers chain : List ℕ) (number : ℕ) (number_is : number ≡ length (axioms.clauses ++ own) + 1)
      (chain_is : chain ≡ links version number true numbers) (read : IsSpelled version text (lines.Derived literals numbers)) where
    said : line_meant version (length (axioms.clauses ++ own) + 1) (lines.Derived literals numbers) ≡ lines.Derived literals chain
    said =
        ap (λ (n : ℕ). line_meant version n (lines.Derived literals numbers)) (sym number_is) ∙ linked version number literals numbers
        ∙ ap (lines.Derived literals) (sym chain_is)

    pub derived_passed : (r : Option Cause) (staged : List Literal) (after : List (List Literal)) (count : ℕ) →
        MatchOption r (IsRightDerived axioms (axioms.clauses ++ own) literals chain × (staged ≡ literals)) (IsWrongDerived axioms (axioms.clauses ++ own) literals chain) → r ≡ None →
        after ≡ own ++ staged ∷ [] → count ≡ blocks → IsPassed (reading_as version may) axioms own blocks text passes.Goes after count
    derived_passed r staged after count h none is same line texts finding next =
        let right : IsRightDerived axioms (axioms.clauses ++ own) literals chain × (staged ≡ literals) = rw none at h in
        let here = moved literals after count (line + 1) texts finding (is ∙ ap (λ (c : List Literal). own ++ c ∷ []) right.1) next in
        found_by (lines.Derived literals numbers) (lines.Derived literals chain) read said line texts finding
        (inr (inr (
          right.0.open_still,
          right.0.clause_over.0,
          right.0.clause_over.1,
          right.0.reached,
          subst (λ (k : ℕ). Found (line + 1) texts finding ((axioms.clauses ++ own) ++ literals ∷ []) k) same here,
        )))

    pub derived_wrong : (r : Option Cause) (cause : Cause) (right : Type 0) (after : List (List Literal)) (count : ℕ) →
        MatchOption r right (IsWrongDerived axioms (axioms.clauses ++ own) literals chain) → r ≡ Some cause →
        IsPassed (reading_as version may) axioms own blocks text (passes.Wrong cause) after count
    derived_wrong r cause right after count h some line texts =
        let wrong : IsWrongDerived axioms (axioms.clauses ++ own) literals chain cause = rw some at h in
        found_by (lines.Derived literals numbers) (lines.Derived literals chain) read said line texts (Wrong line cause)
        (elim wrong [
          | inl there ↦ inl (there.0, ap (Wrong line) there.1)
          | inr wrongly ↦ inr (inl (wrongly.0, (cause, wrongly.1, refl)))
        ])

-- ---- the end word

pub ends_rightly : (clauses : List (List Literal)) (word : EndWord) (refuted said : Bool) → MatchBool refuted (Contains clauses []) (HasNoEmpty clauses) →
    (IsTrue said ↔ (word ≡ words.Empty)) → beq refuted said ≡ true → EndsRightly clauses word
ends_rightly clauses word true true there is same = ((λ _. there), (λ _. is.0 refl))
ends_rightly clauses word false false none is same = ((λ e. absurd (false≢true (is.1 e))), (λ h. absurd (none h)))
ends_rightly clauses word true false there is same = absurd (false≢true same)
ends_rightly clauses word false true none is same = absurd (false≢true same)

pub ends_wrongly : (clauses : List (List Literal)) (word : EndWord) (refuted said : Bool) → MatchBool refuted (Contains clauses []) (HasNoEmpty clauses) →
    (IsTrue said ↔ (word ≡ words.Empty)) → beq refuted said ≡ false → EndsRightly clauses word → ⊥
ends_wrongly clauses word true true there is other h = false≢true (sym other)
ends_wrongly clauses word false false none is other h = false≢true (sym other)
ends_wrongly clauses word true false there is other h = false≢true (is.1 (h.1 there))
ends_wrongly clauses word false true none is other h = none (h.0 (is.0 refl))

-- ---- one more clause

over_all : (variables : ℕ) (own : List (List Literal)) (clause : List Literal) → AreClausesOver variables own → IsClauseOver variables clause → AreClausesOver variables (own ++ clause ∷ [])
over_all variables [] clause all one = (one, tt)
over_all variables (first ∷ own) clause all one = (all.0, over_all variables own clause all.1 one)

still_none : (clauses : List (List Literal)) (literal : Literal) (clause : List Literal) → HasNoEmpty clauses → HasNoEmpty (clauses ++ (literal ∷ clause) ∷ [])
still_none clauses literal clause none h = elim (Contains-push_cases clauses (literal ∷ clause) [] h) [
  | inl there ↦ none there
  | inr is ↦ let long : suc (length clause) ≡ 0 = ap length is in omega arith
]

empty_added : (clauses : List (List Literal)) (clause : List Literal) (refuted : Bool) → MatchBool refuted (Contains clauses []) (HasNoEmpty clauses) →
    MatchBool (refuted || eqb (length clause) 0) (Contains (clauses ++ clause ∷ []) []) (HasNoEmpty (clauses ++ clause ∷ []))
empty_added clauses clause true there = Contains-append_left clauses (clause ∷ []) [] there
empty_added clauses [] false none = Contains-push clauses []
empty_added clauses (literal ∷ clause) false none = rw eqb-suc-zero (still_none clauses literal clause none)

pub sound_added : (axioms : Axioms) (own new : List (List Literal)) (clause : List Literal) (refuted flag : Bool) → AreSound axioms own refuted → IsClauseOver axioms.variables clause →
    new ≡ own ++ clause ∷ [] → flag ≡ (refuted || eqb (length clause) 0) → AreSound axioms new flag
sound_added axioms own new clause refuted flag sound over is flagged =
    subst (λ (n : List (List Literal)). AreSound axioms n flag) (sym is)
    (subst (λ (f : Bool). AreSound axioms (own ++ clause ∷ []) f) (sym flagged)
    (record {
      clauses = over_all axioms.variables own clause sound.clauses over;
      empty = subst (λ (cs : List (List Literal)). MatchBool (refuted || eqb (length clause) 0) (Contains cs []) (HasNoEmpty cs))
          (append_assoc axioms.clauses own (clause ∷ [])) (empty_added (axioms.clauses ++ own) clause refuted sound.empty);
    }))

-- ---- causes of derived lines

module _ (axioms : Axioms) (own : List (List Literal)) (clause : List Literal) (chain : List ℕ) (none : HasNoEmpty (axioms.clauses ++ own))
    (over : IsClauseOver axioms.variables clause) where
  pub named_all : (given count : ℕ) (numbers : List ℕ) → given ≡ length axioms.clauses → count ≡ length own → AreNamed (given + count) numbers → AreNamed (length (axioms.clauses ++ own)) numbers
  named_all given count numbers is_given is_own h =
      subst (λ (k : ℕ). AreNamed k numbers) (let e = length-append axioms.clauses own in omega arith) h

  pub wrong_number : (given count : ℕ) → given ≡ length axioms.clauses → count ≡ length own → (AreNamed (given + count) chain → ⊥) →
      IsWrongDerived axioms (axioms.clauses ++ own) clause chain causes.Number
  wrong_number given count is_given is_own never = inr (
    none,
    (
      over.0,
      over.1,
      λ h.
          never (subst (λ (k : ℕ). AreNamed k chain) (let e = length-append axioms.clauses own in omega arith) h),
    ),
  )

  module _ (named : AreNamed (length (axioms.clauses ++ own)) chain) where
    pub wrong_pivot : ReachesNothing (axioms.clauses ++ own) chain → IsWrongDerived axioms (axioms.clauses ++ own) clause chain causes.Pivot
    wrong_pivot nothing = inr (none, (over.0, over.1, named, nothing))

    pub wrong_clause : (reached : List Literal) → Reaches (axioms.clauses ++ own) chain reached → reached ≢ clause → IsWrongDerived axioms (axioms.clauses ++ own) clause chain causes.Clause
    wrong_clause reached h other = inr (none, (over.0, over.1, named, (reached, h, other)))

-- ---- the lines of a section, one after another

-- a line that is not right, or ends the section, leaves all as it was
pub left_alone : (axioms : Axioms) (own : List (List Literal)) (blocks : ℕ) (refuted : Bool) → AreSound axioms own refuted → IsLeft axioms own blocks own blocks refuted
left_alone axioms own blocks refuted sound = record { sound = sound; counted = omega arith; grown = omega arith }

-- a clause was put behind the others
pub left_more : (axioms : Axioms) (own : List (List Literal)) (blocks : ℕ) (after : List (List Literal)) (count : ℕ) (refuted : Bool) → AreSound axioms after refuted →
    count ≤ blocks + 1 → length after ≡ length own + 1 → IsLeft axioms own blocks after count refuted
left_more axioms own blocks after count refuted sound counted grown = record { sound = sound; counted = counted; grown = omega arith }

pub record FoundSoFar (reading : Reading) (axioms : Axioms) (first : ℕ) (bytes : List ℕ) (own : List (List Literal)) (blocks line : ℕ) (rest : List ℕ) : Type 0 where
  pub so_far : (texts : List (List ℕ)) → AreTexts reading.version bytes texts → (more : List (List ℕ)) × AreTexts reading.version rest more
      × ((finding : Finding) → IsFound reading axioms (axioms.clauses ++ own) blocks line more finding → IsFound reading axioms axioms.clauses 0 first texts finding)
  pub line_few : line + length rest ≤ first + length bytes
  pub blocks_few : blocks + length rest ≤ length bytes
  pub own_few : length own + length rest ≤ length bytes

pub found_begun : (reading : Reading) (axioms : Axioms) (first : ℕ) (bytes : List ℕ) (own : List (List Literal)) (blocks : ℕ) → own ≡ [] → blocks ≡ 0 →
    FoundSoFar reading axioms first bytes own blocks first bytes
found_begun reading axioms first bytes own blocks nothing none = let empty : length own ≡ 0 = ap length nothing in record {
  so_far = λ texts are. (
    texts,
    are,
    λ finding h.
        subst (λ (cs : List (List Literal)). IsFound reading axioms cs 0 first texts finding)
        (ap (λ (o : List (List Literal)). axioms.clauses ++ o) nothing ∙ append-nil axioms.clauses)
        (subst (λ (k : ℕ). IsFound reading axioms (axioms.clauses ++ own) k first texts finding) none h),
  );
  line_few = omega arith;
  blocks_few = omega arith;
  own_few = omega arith;
}

module _ (reading : Reading) (axioms : Axioms) (first : ℕ) (bytes : List ℕ) (own : List (List Literal)) (blocks line : ℕ) (rest : List ℕ)
    (h : FoundSoFar reading axioms first bytes own blocks line rest) (pass : Pass) (behind : List ℕ) (after : List (List Literal)) (count : ℕ)
    (at : IsPassedAt reading axioms own blocks rest pass behind after count) where
  parted : length rest ≡ length at.text + length behind
  parted = ap length at.first.parts ∙ length-append at.text behind

  -- what is found behind the line, for all texts
  found_at : (texts : List (List ℕ)) → AreTexts reading.version bytes texts → (more : List (List ℕ)) × AreTexts reading.version behind more
      × ((finding : Finding) → IsFound reading axioms (axioms.clauses ++ own) blocks line (at.text ∷ more) finding → IsFound reading axioms axioms.clauses 0 first texts finding)
  found_at texts are =
      let (more, more_are, go) = h.so_far texts are in
      let (others, same, others_are) = at.first.behind more more_are in
      (others, others_are, λ finding found. go finding (subst (λ (ts : List (List ℕ)). IsFound reading axioms (axioms.clauses ++ own) blocks line ts finding) (sym same) found))

  pub found_more : pass ≡ passes.Goes → count ≤ blocks + 1 → length after ≤ length own + 1 → FoundSoFar reading axioms first bytes after count (line + 1) behind
  found_more is more grown =
      let some = at.first.some in
      let e = parted in
      let l = h.line_few in
      let b = h.blocks_few in
      let o = h.own_few in
      record {
        so_far = λ texts are.
            let (others, others_are, go) = found_at texts are in (
              others,
              others_are,
              λ finding next. go finding ((subst (λ (p : Pass). IsPassed reading axioms own blocks at.text p after count) is at.passed) line others finding next),
            );
        line_few = omega arith;
        blocks_few = omega arith;
        own_few = omega arith;
      }

  pub found_ends : (word : EndWord) (finding : Finding) → pass ≡ passes.Ends word → IsEndedInBytes reading.version word count line behind finding →
      IsFoundInBytes reading axioms first bytes finding
  found_ends word finding is ended texts are =
      let (others, others_are, go) = found_at texts are in
      go finding ((subst (λ (p : Pass). IsPassed reading axioms own blocks at.text p after count) is at.passed) line others finding (ended others others_are))

  pub found_wrong : (cause : Cause) → pass ≡ passes.Wrong cause → IsFoundInBytes reading axioms first bytes (Wrong line cause)
  found_wrong cause is texts are =
      let (others, others_are, go) = found_at texts are in
      go (Wrong line cause) ((subst (λ (p : Pass). IsPassed reading axioms own blocks at.text p after count) is at.passed) line others)

pub found_nothing : (reading : Reading) (axioms : Axioms) (first : ℕ) (bytes : List ℕ) (own : List (List Literal)) (blocks line : ℕ) (rest : List ℕ) →
    FoundSoFar reading axioms first bytes own blocks line rest → length rest ≡ 0 → IsFoundInBytes reading axioms first bytes (Wrong line causes.Section)
found_nothing reading axioms first bytes own blocks line rest h nil texts are =
    let (more, more_are, go) = h.so_far texts are in
    let none = nothing_in reading.version more (subst (λ (t : List ℕ). AreTexts reading.version t more) (nil_from_length rest nil) more_are) in
    go (Wrong line causes.Section) (subst (λ (ts : List (List ℕ)). IsFound reading axioms (axioms.clauses ++ own) blocks line ts (Wrong line causes.Section)) (sym none) refl)

-- ---- behind the end of a section

-- what is read is a line
pub line_read : (version : Version) (text : List ℕ) (literals : List Literal) (numbers : List ℕ) (kind : Kind) → IsReadIn version text literals numbers kind →
    (line : LogLine) × IsSpelled version text line
line_read version text literals numbers kinds.Heading (conditions, horizon, is) = (lines.Section conditions horizon, is)
line_read version text literals numbers kinds.Derived is = (lines.Derived literals numbers, is)
line_read version text literals numbers kinds.Block is = (lines.Block numbers, is)
line_read version text literals numbers (kinds.End word) is = (lines.End word, is)

pub ended_none : (version : Version) (word : EndWord) (blocks line : ℕ) (rest : List ℕ) → length rest ≡ 0 → IsEndedInBytes version word blocks line rest (Right word blocks line)
ended_none version word blocks line rest nil texts are =
    let none = nothing_in version texts (subst (λ (t : List ℕ). AreTexts version t texts) (nil_from_length rest nil) are) in
    subst (λ (ts : List (List ℕ)). IsEnded version word blocks line ts (Right word blocks line)) (sym none) refl

module _ (version : Version) (word : EndWord) (blocks line : ℕ) (bytes : List ℕ) (read : Option LineParts) (rest : List ℕ) (h : IsFirstRead version bytes read rest) where
  ended_at : (finding : Finding) → ((more : List (List ℕ)) → IsEnded version word blocks line (h.text ∷ more) finding) → IsEndedInBytes version word blocks line bytes finding
  ended_at finding ended texts are =
      let (more, same, more_are) = h.first.behind texts are in
      subst (λ (ts : List (List ℕ)). IsEnded version word blocks line ts finding) (sym same) (ended more)

  pub ended_unread : read ≡ None → IsEndedInBytes version word blocks line bytes (Trailed word line causes.Form)
  ended_unread none = ended_at (Trailed word line causes.Form) (λ more. inl (rw none at h.read, refl))

  pub ended_read : (parts : LineParts) → read ≡ Some parts → IsEndedInBytes version word blocks line bytes (Trailed word line causes.Section)
  ended_read parts some = ended_at (Trailed word line causes.Section)
      (λ more. inr (line_read version h.text (literals_of parts.literals) (numbers_of parts.numbers) parts.kind (rw some at h.read), refl))
