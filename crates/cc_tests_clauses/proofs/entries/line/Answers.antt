use Rattle.std.proofs.Common.{◌≡◌, ℕ, List, [], ◌∷◌, refl, rules, sym, subst, ◌∙◌}
use Rattle.std.specs.List.{AllByRecursion}
use Rattle.cc_defs.specs.declared.log.LogLine.{LogLine}
use Rattle.cc_defs.specs.declared.log.LogLine.TheVariants as lines
use Rattle.cc_defs.specs.Clauses.{Literal}
use Rattle.cc_defs.specs.LogTexts.{IsFormed, IsShort}
use Rattle.cc_log.specs.Entries.{AreBefore, HasShortLists, NamesBefore}
use Rattle.cc_tests_clauses.proofs.entries.line.Goals as goal

abbrev links : List ℕ
links = 28 ∷ 1 ∷ 2 ∷ 2 ∷ 26 ∷ 4 ∷ 14 ∷ 10 ∷ 23 ∷ 9 ∷ 12 ∷ 2 ∷ 26 ∷ 6 ∷ 27 ∷ []

abbrev Fits : LogLine → Type 0
Fits line = IsFormed line × HasShortLists line × NamesBefore 29 line

short : AllByRecursion IsShort links
short = search rules depth 40

before : AreBefore 29 links
before = search rules depth 40

there : Fits (lines.Derived [] links)
there = ((tt, short, (7, refl)), (search rules, search rules), before)

fits : (clause : List Literal) (chain : List ℕ) → clause ≡ [] → chain ≡ links → Fits (lines.Derived clause chain)
fits clause chain none is = subst (λ (c : List Literal). Fits (lines.Derived c chain)) (sym none) (subst (λ (t : List ℕ). Fits (lines.Derived [] t)) (sym is) there)

pub returns : goal.returns
returns c = fits c.of.result c.of-2.result (c.of.ensures ∙ c.new.ensures.items) (c.of-2.ensures ∙ c.in_ok-chain.ensures.items)
