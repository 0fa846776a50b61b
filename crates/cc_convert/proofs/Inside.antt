-- The lines of a section that is right.
use Rattle.std.proofs.Common.{◌≡◌, ℕ, ◌+◌, ◌≤◌, inl, inr, Bool, List, [], ◌∷◌, ◌++◌, length, length-append, refl, sym, ap₂, subst, arith}
use Rattle.std.specs.Prelude.{sum}
use Rattle.std.specs.List.{AllByRecursion}
use Rattle.cc_defs.specs.declared.log.EndWord.{EndWord}
use Rattle.cc_defs.specs.declared.log.LogLine.{LogLine}
use Rattle.cc_defs.specs.declared.log.LogLine.TheVariants as lines
use Rattle.cc_defs.specs.declared.log.Version.{Version}
use Rattle.cc_defs.specs.Clauses.{IsOver, Literal, Reaches}
use Rattle.cc_defs.specs.Limits.{most_log_bytes, most_variables}
use Rattle.cc_defs.specs.LogBytes.{line_meant}
use Rattle.cc_defs.specs.LogVersions.{line_bytes, lines_bytes, own_behind}
use Rattle.cc_defs.specs.Sections.{Axioms, Right, IsEnded, IsFound, IsJudged, row_denial}
use Rattle.cc_log.proofs.Converting.{own_pushed, reading_of}
use Rattle.cc_convert.specs.Saying.{AreSayableBy, IsHeadedBy, IsSayableAt}
use Rattle.cc_convert.proofs.Bounds.{IsLowChain, denial_over, low_chain, over_most, over_push, row_low}
use Rattle.cc_convert.proofs.Joined.{joined}
use Rattle.cc_convert.proofs.Spoken.{IsSpoken, block_sayable, derived_sayable, end_sayable, spoken}

module _ (May : Bool → ℕ → Type 0) (counts : Bool → ℕ → ℕ) (version : Version) where
  -- Texts are those of lines that both versions can say.
  pub record SaysTexts (own : ℕ) (texts : List (List ℕ)) : Type 0 where
    pub said : List LogLine
    pub written : joined texts ≡ lines_bytes version counts own said
    pub each : AreSayableBy May counts own said

  pub says_none : (own : ℕ) → SaysTexts own []
  says_none own = record { said = []; written = refl; each = tt }

  pub says_more : (own : ℕ) (line : LogLine) (text : List ℕ) (texts : List (List ℕ)) → text ≡ line_bytes version own line → IsSayableAt own line →
      IsHeadedBy May line → SaysTexts (own_behind counts own line) texts → SaysTexts own (text ∷ texts)
  says_more own line text texts is sayable opens more = record {
    said = line ∷ more.said;
    written = ap₂ (λ (t ts : List ℕ). t ++ ts) is more.written;
    each = (sayable, opens, more.each);
  }

  -- texts behind those of a section: from every number on that they leave room for
  abbrev pub SaysBehind : List (List ℕ) → Type 0
  SaysBehind more = (own : ℕ) → own + length more ≤ 500000000 → SaysTexts own more

  -- The bounds of a section.
  pub record IsLow (axioms : Axioms) : Type 0 where
    pub most : axioms.variables ≤ most_variables
    pub positions : sum axioms.sizes ≤ axioms.variables

  module _ (axioms : Axioms) (is_low : IsLow axioms) (more : List (List ℕ)) (behind : SaysBehind more) (word : EndWord) (count last : ℕ) where
    -- what is said behind a line that adds a clause
    abbrev Follows : (before : List (List Literal)) (own : ℕ) → (List (List Literal) → ℕ → Type 0) → List (List ℕ) → Type 0
    Follows before own Goes texts = (added : List Literal) (blocks : ℕ) → IsOver axioms.variables added → Goes (before ++ added ∷ []) blocks → SaysTexts (own + 1) (texts ++ more)

    module _ (before : List (List Literal)) (over : AllByRecursion (IsOver axioms.variables) before) (own blocks line : ℕ) (at : own ≡ length before + 1)
        (Goes : List (List Literal) → ℕ → Type 0) (text : List ℕ) (texts : List (List ℕ)) (room : own + (1 + length (texts ++ more)) ≤ 500000000) where
      ended_said : (end : EndWord) → text ≡ line_bytes version own (lines.End end) → (others : List (List ℕ)) → own + (1 + length (others ++ more)) ≤ 500000000 →
          IsEnded version end blocks line others (Right word count last) → SaysTexts own (text ∷ (others ++ more))
      ended_said end is [] small ends = says_more own (lines.End end) text more is (end_sayable own end (omega arith)) tt (behind own (omega arith))
      ended_said end is (other ∷ others) small (inl (none, ends)) = absurd cc
      ended_said end is (other ∷ others) small (inr (read, ends)) = absurd cc

      low_here : (chain : List ℕ) (clause : List Literal) → Reaches before chain clause → IsLowChain own 999999999 chain
      low_here chain clause reached =
          let most = is_low.most in
          subst (λ (n : ℕ). IsLowChain n 999999999 chain) (sym at)
          (low_chain axioms.variables 999999999 before over (omega arith) (omega arith) chain clause reached)

      line_said : (one : LogLine) → IsSpoken version own text one → Follows before own Goes texts →
          IsJudged (reading_of version) axioms before blocks line Goes texts (Right word count last) one → SaysTexts own (text ∷ (texts ++ more))
      line_said (lines.Section conditions horizon) says next is = absurd cc
      line_said (lines.End end) says next (inl (ends, is)) = ended_said end says texts room is
      line_said (lines.End end) says next (inr (out, is)) = absurd cc
      line_said (lines.Derived clause chain) says next (inl (some, is)) = absurd cc
      line_said (lines.Derived clause chain) says next (inr (inl (none, (_, wrong, is)))) = absurd cc
      line_said (lines.Derived clause chain) (counted, paired, odd, text_is) next (inr (inr (none, is, over_here, reached, goes))) =
          let low = low_here chain clause reached in
          says_more own (lines.Derived clause chain) text (texts ++ more) (text_is low.earlier)
          (derived_sayable own clause chain (omega arith) (over_most axioms.variables most_variables clause is_low.most over_here) low counted paired odd) tt
          (next clause blocks over_here goes)
      line_said (lines.Block row) says next (inl (some, is)) = absurd cc
      line_said (lines.Block row) says next (inr (inl (none, wrong, is))) = absurd cc
      line_said (lines.Block row) (counted, text_is) next (inr (inr (none, is, goes))) =
          let most = is_low.most in
          let positions = is_low.positions in
          says_more own (lines.Block row) text (texts ++ more) text_is
          (block_sayable own row (omega arith) counted (row_low 999999999 axioms.sizes row (omega arith) is)) tt
          (next (row_denial axioms.sizes row) (blocks + 1) (denial_over axioms.variables 1 axioms.sizes row (omega arith) (omega arith) is) goes)

    pub inside_said : (before : List (List Literal)) (blocks line own : ℕ) (texts : List (List ℕ)) → AllByRecursion (IsOver axioms.variables) before → own ≡ length before + 1 →
        own + length (texts ++ more) ≤ 500000000 → length (joined texts) ≤ most_log_bytes →
        IsFound (reading_of version) axioms before blocks line texts (Right word count last) → SaysTexts own (texts ++ more)
    inside_said before blocks line own [] over at room few is = absurd cc
    inside_said before blocks line own (text ∷ texts) over at room few (inl (none, is)) = absurd cc
    inside_said before blocks line own (text ∷ texts) over at room few (inr (read, is, judged)) =
        let long = length-append text (joined texts) in
        let Goes : List (List Literal) → ℕ → Type 0 = λ after many. IsFound (reading_of version) axioms after many (line + 1) texts (Right word count last) in
        let next : Follows before own Goes texts = λ added many over_here goes.
        inside_said (before ++ added ∷ []) many (line + 1) (own + 1) texts (over_push axioms.variables before added over over_here)
        (own_pushed before added own (own + 1) at refl) (omega arith) (omega arith) goes in
        line_said before over own blocks line at Goes text texts (omega arith) (line_meant version own read) (spoken version own text read (omega arith) is) next
        (subst (λ (n : ℕ). IsJudged (reading_of version) axioms before blocks line Goes texts (Right word count last) (line_meant version n read)) (sym at) judged)
