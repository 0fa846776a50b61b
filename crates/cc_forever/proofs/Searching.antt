-- What a search under the heading of a horizon or of a step shows.
use Rattle.std.proofs.Common.{◌≡◌, ℕ, zero, suc, List, [], ◌∷◌, None, Some, sym, subst}
use Rattle.std.specs.Prelude.{true}
use Rattle.std.specs.List.{AllByRecursion}
use Rattle.cc_defs.specs.declared.log.EndWord.{EndWord}
use Rattle.cc_defs.specs.declared.log.EndWord.TheVariants as words
use Rattle.cc_defs.specs.declared.log.LogLine.{LogLine}
use Rattle.cc_defs.specs.Conditions.{IsSignatureOfDescription}
use Rattle.cc_defs.specs.Description.{Description, sizes_at}
use Rattle.cc_defs.specs.Histories.{AreAllOf}
use Rattle.cc_defs.specs.LogTexts.{IsFormed}
use Rattle.cc_defs.specs.Paths.{IsPath}
use Rattle.cc_defs.specs.Resolved.{Query}
use Rattle.cc_defs.specs.Rows.{IsRow}
use Rattle.cc_defs.specs.Runs.{EndsWith, HasNone, HasSome, Section}
use Rattle.cc_defs.specs.Sections.{Axioms}
use Rattle.cc_defs.specs.Signatures.{Signature}
use Rattle.cc_form.specs.Forms.{form_of}
use Rattle.cc_form.specs.Places.{position_sizes}
use Rattle.cc_forever.specs.Accepted.{IsWritableUnder}
use Rattle.cc_forever.specs.ForeverRuns.{IsLeast, LooksFor, Refutes}
use Rattle.cc_forever.specs.Forevers.{IsSearched}
use Rattle.cc_lists.proofs.Members.{in_first, in_none}
use Rattle.cc_lists.proofs.Positions.{sizes_are}
use Rattle.cc_lists.specs.Sections.{section_lines}
use Rattle.cc_search.proofs.Moving.{first_moved, told_moved}
use Rattle.cc_search.specs.declared.least.Outcome.{Outcome}
use Rattle.cc_search.specs.declared.least.Outcome.TheVariants as outcomes
use Rattle.cc_search.specs.Outcomes.{IsEnded}
use Rattle.cc_silent.specs.ForeverLogs.{IsUnder, number_in, query_under}
use Rattle.cc_silent.specs.declared.forever.ForeverHeading.{ForeverHeading}

module _ (d : Description) (q : Query) (budget : ℕ) (heading : ForeverHeading) where
  abbrev pub Searched : Outcome → Type 0
  Searched outcome = IsSearched d (query_under q heading) (number_in heading) budget outcome

  abbrev form : Axioms
  form = form_of d (query_under q heading) (number_in heading) true None

  pub least_found : (row : List ℕ) → Searched (outcomes.Found row) → IsLeast d q heading row
  least_found row is = record { within = is.within; first = first_moved form (IsUnder d q heading) is.tells (row ∷ []) is.comes }

  -- these lines are those of a section that looks for a history, tells none, and ends with this word
  pub record Ended (word : EndWord) (lines : List LogLine) : Type 0 where
    pub section : Section
    pub looks : LooksFor d q budget heading section
    pub ends : EndsWith word section
    pub lines_are : lines ≡ section_lines section
    pub formed : AllByRecursion IsFormed lines
    pub writable : IsWritableUnder d q heading section

  ended : (word : EndWord) (lines : List LogLine) (outcome : Outcome) → Searched outcome → IsEnded form budget word lines → Ended word lines
  ended word lines outcome is by = record {
    section = by.section;
    looks = record {
      within = is.within;
      tells = told_moved form (IsUnder d q heading) is.tells (Some 1) budget by.section by.tells;
      silent = by.silent;
    };
    ends = by.ends;
    lines_are = by.lines_are;
    formed = by.formed;
    writable = record { formed = subst (AllByRecursion IsFormed) by.lines_are by.formed; good = by.good };
  }

  pub empty_ended : (lines : List LogLine) → Searched (outcomes.Empty lines) → Ended words.Empty lines
  empty_ended lines is = ended words.Empty lines (outcomes.Empty lines) is is.comes

  pub spent_ended : (lines : List LogLine) → Searched (outcomes.Spent lines) → Ended words.Spent lines
  spent_ended lines is = ended words.Spent lines (outcomes.Spent lines) is is.comes

  -- ---- what is shown of histories

  pub none_under : (section : Section) → Refutes d q budget heading section → HasNone d (query_under q heading) (number_in heading)
  none_under section is = subst (λ (l : List (List ℕ)). AreAllOf (IsUnder d q heading) l) is.looks.silent (is.looks.tells.all_told is.ends)

  pub some_under : (row : List ℕ) → IsLeast d q heading row → HasSome d (query_under q heading) (number_in heading)
  some_under row is none = in_none row ((none.members row).1 (is.first.each row (in_first row [])))

  -- ---- its row is one of the horizon

  path_row : (horizon : ℕ) (row : List ℕ) → IsPath d horizon row → IsRow (sizes_at d horizon) row
  path_row zero row is = is.interprets
  path_row (suc horizon) row is = is.0

  pub row_fits : (signature : Signature) → IsSignatureOfDescription d signature → (row : List ℕ) → IsLeast d q heading row →
      IsRow (position_sizes signature (number_in heading)) row
  row_fits signature of row is =
      subst (λ (sizes : List ℕ). IsRow sizes row) (sym (sizes_are d signature of (number_in heading)))
      (path_row (number_in heading) row (is.first.each row (in_first row [])).path)
