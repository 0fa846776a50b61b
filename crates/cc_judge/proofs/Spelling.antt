-- A section by its bytes, and the text that it is.
use Rattle.std.proofs.Common.{◌∙◌, ℕ, ◌+◌, Bool, true, Option, sym, subst}
use Rattle.cc_check.specs.Clauses.{reading_as}
use Rattle.cc_check.specs.declared.sections.Section.{Section}
use Rattle.cc_check.specs.SectionTexts.{IsFoundOf, IsTextOf}
use Rattle.cc_defs.specs.declared.lists.Key.{Key}
use Rattle.cc_defs.specs.declared.log.Version.{Version}
use Rattle.cc_defs.specs.GroundLaws.{PlainGroundQuery}
use Rattle.cc_defs.specs.Logs.{SectionText, Standing}
use Rattle.cc_defs.specs.Sections.{Axioms, Finding, IsFound}
use Rattle.cc_judge.specs.Standings.{IsOnly, IsPlaced}

pub placed_text : (query : PlainGroundQuery) (key : Option Key) (standing : Standing) (section : Section) (text : SectionText) → IsTextOf section text →
    IsPlaced query key standing section.conditions section.horizon → IsPlaced query key standing text.conditions text.horizon
placed_text query key standing section text is placed =
    subst (λ (c : Bool). IsPlaced query key standing c text.horizon) (sym is.conditions)
    (subst (λ (h : ℕ). IsPlaced query key standing section.conditions h) (sym is.horizon) placed)

pub only_text : (standing : Standing) (section : Section) (text : SectionText) → IsTextOf section text → IsOnly standing section.conditions section.horizon →
    IsOnly standing text.conditions text.horizon
only_text standing section text is only = (is.conditions ∙ only.0, is.horizon ∙ only.1, only.2)

pub found_text : (axioms : Axioms) (section : Section) (text : SectionText) (finding : Finding) → IsTextOf section text → IsFoundOf true axioms section finding →
    IsFound (reading_as text.version true) axioms axioms.clauses 0 (text.line + 1) text.texts finding
found_text axioms section text finding is found =
    subst (λ (v : Version). IsFound (reading_as v true) axioms axioms.clauses 0 (text.line + 1) text.texts finding) (sym is.version)
    (subst (λ (n : ℕ). IsFound (reading_as section.version true) axioms axioms.clauses 0 (n + 1) text.texts finding) (sym is.line) (found text is))
