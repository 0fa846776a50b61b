-- What is always true of a kernel stays true as clauses are added and a stage goes on.
use Rattle.std.proofs.Common.{◌≡◌, ◌∙◌, ℕ, ◌+◌, ◌-◌, ◌<◌, ◌≤◌, zero, suc, inl, inr, true, List, [], ◌∷◌, ◌++◌, length, Option, Some, None, refl, sym, subst, ap, arith, length-append, add_comm}
use Rattle.std.specs.Prelude.{IfSome}
use Rattle.std.specs.List.{Contains}
use Rattle.std.proofs.lemmas.Option.{MatchOption-at_some}
use Rattle.cc_defs.specs.Clauses.{Literal, IsClause, IsOver, Follows, IsResolvent, IsNumbered, Reaches}
use Rattle.cc_clauses.specs.Laws.{ResolventsAreSound}
use Rattle.cc_kernel.specs.declared.kernel.Origin.{Origin}
use Rattle.cc_kernel.specs.declared.kernel.Origin.TheVariants as origins
use Rattle.cc_kernel.specs.Kernels.{KernelView, Entry, clauses_of, first_empty, added, given_of, empty_after, is_given_origin}
use Rattle.cc_kernel.specs.Parts.{IsSound}
use Rattle.cc_kernel.proofs.Entries.{clause_of_entry, clauses_push, first_empty_push, map_push}
use Rattle.cc_kernel.proofs.Chains.{reaches_more, reaches_step, reached_follows, follow_push}

pub clause_there : (kernel : KernelView) (empty : Option ℕ) (id : ℕ) (clause : List Literal) → IsSound kernel empty → IsNumbered (clauses_of kernel) id clause →
    IsClause clause × IsOver kernel.variables clause
clause_there kernel empty id clause sound numbered = clause_of_entry kernel.variables kernel.entries (id - 1) clause sound.clauses numbered.1

pub stage_facts : (kernel : KernelView) (empty : Option ℕ) (clause : List Literal) → IsSound kernel empty → kernel.staged ≡ Some clause →
    Reaches (clauses_of kernel) kernel.chain clause × IsClause clause × IsOver kernel.variables clause
stage_facts kernel empty clause sound staged = MatchOption-at_some _ (λ (c : List Literal). Reaches (clauses_of kernel) kernel.chain c × IsClause c × IsOver kernel.variables c) clause staged sound.reached

reached_alone : (clauses : List (List Literal)) (chain : List ℕ) (variables : ℕ) (staged : Option (List Literal)) →
    IfSome staged (λ clause. Reaches clauses chain clause × IsClause clause × IsOver variables clause) → IfSome staged (λ clause. Reaches clauses chain clause)
reached_alone clauses chain variables None h = h
reached_alone clauses chain variables (Some clause) h = h.0

pub stage_reached : (kernel : KernelView) (empty : Option ℕ) → IsSound kernel empty → IfSome kernel.staged (λ clause. Reaches (clauses_of kernel) kernel.chain clause)
stage_reached kernel empty sound = reached_alone (clauses_of kernel) kernel.chain kernel.variables kernel.staged sound.reached

reached_added : (variables : ℕ) (clauses more : List (List Literal)) (chain : List ℕ) (staged : Option (List Literal)) →
    IfSome staged (λ clause. Reaches clauses chain clause × IsClause clause × IsOver variables clause) →
    IfSome staged (λ clause. Reaches (clauses ++ more) chain clause × IsClause clause × IsOver variables clause)
reached_added variables clauses more chain None h = h
reached_added variables clauses more chain (Some clause) h = (reaches_more clauses more chain clause h.0, h.1, h.2)

pub sound_added : (kernel : KernelView) (empty : Option ℕ) (clause : List Literal) (origin : Origin) → IsSound kernel empty →
    IsClause clause → IsOver kernel.variables clause → length kernel.entries < 4000000000 →
    (origin ≡ origins.Derived → Follows (given_of kernel.entries) clause) →
    IsSound (added kernel clause origin) (empty_after empty clause (length kernel.entries + 1))
sound_added kernel empty clause origin sound is_clause over few follow =
    let entry : Entry = record { clause = clause; origin = origin } in
    record {
      variables_few = sound.variables_few;
      entries_few = omega (arith, length-append kernel.entries (entry ∷ []));
      clauses = clauses_push kernel.variables kernel.entries entry sound.clauses is_clause over;
      derived = follow_push kernel.entries entry sound.derived follow;
      reached =
          subst (λ (clauses : List (List Literal)). IfSome kernel.staged (λ c. Reaches clauses kernel.chain c × IsClause c × IsOver kernel.variables c))
          (sym (map_push (λ (e : Entry). e.clause) kernel.entries entry))
          (reached_added kernel.variables (clauses_of kernel) (clause ∷ []) kernel.chain kernel.staged sound.reached);
      first =
          ap (λ (e : Option ℕ). empty_after e clause (length kernel.entries + 1)) sound.first ∙
          ap (empty_after (first_empty 1 kernel.entries) clause) (add_comm (length kernel.entries) 1) ∙
          sym (first_empty_push 1 kernel.entries entry);
    }

pub sound_unstaged : (kernel : KernelView) (empty : Option ℕ) → IsSound kernel empty → IsSound (record kernel { staged = None }) empty
sound_unstaged kernel empty sound = record {
  variables_few = sound.variables_few;
  entries_few = sound.entries_few;
  clauses = sound.clauses;
  derived = sound.derived;
  reached = tt;
  first = sound.first;
}

sound_staged : (kernel : KernelView) (empty : Option ℕ) (clause : List Literal) (chain : List ℕ) → IsSound kernel empty →
    Reaches (clauses_of kernel) chain clause → IsClause clause → IsOver kernel.variables clause →
    IsSound (record kernel { staged = Some clause; chain = chain }) empty
sound_staged kernel empty clause chain sound reaches is_clause over = record {
  variables_few = sound.variables_few;
  entries_few = sound.entries_few;
  clauses = sound.clauses;
  derived = sound.derived;
  reached = (reaches, is_clause, over);
  first = sound.first;
}

pub sound_started : (kernel : KernelView) (empty : Option ℕ) (id : ℕ) (clause : List Literal) → IsSound kernel empty →
    IsNumbered (clauses_of kernel) id clause → IsSound (record kernel { staged = Some clause; chain = id ∷ [] }) empty
sound_started kernel empty id clause sound numbered =
    let facts = clause_there kernel empty id clause sound numbered in
    sound_staged kernel empty clause (id ∷ []) sound (clause, numbered, refl) (facts.0) (facts.1)

pub over_at : (variables : ℕ) (clause : List Literal) (literal : Literal) → IsOver variables clause → Contains clause literal →
    (0 < literal.variable) × (literal.variable ≤ variables)
over_at variables [] literal over (k, below, is) = absurd (omega arith)
over_at variables (first ∷ clause) literal over (zero, below, is) =
    subst (λ (z : Literal). (0 < z.variable) × (z.variable ≤ variables)) is (over.0, over.1)
over_at variables (first ∷ clause) literal over (suc k, below, is) = over_at variables clause literal over.2 (k, (omega arith), is)

over_from : (variables : ℕ) (clause : List Literal) → ((literal : Literal) → Contains clause literal → (0 < literal.variable) × (literal.variable ≤ variables)) →
    IsOver variables clause
over_from variables [] each = tt
over_from variables (first ∷ clause) each =
    let here = each first (zero, (omega arith), refl) in
    (here.0, here.1, over_from variables clause (λ literal (k, below, is). each literal (suc k, (omega arith), is)))

over_resolvent : (variables : ℕ) (a b : List Literal) (pivot : ℕ) (r : List Literal) → IsOver variables a → IsOver variables b →
    IsResolvent a b pivot r → IsOver variables r
over_resolvent variables a b pivot r over_a over_b is = over_from variables r
    (λ literal c. elim ((is.members literal).0 c).0 [
      | inl of_a ↦ over_at variables a literal over_a of_a
      | inr of_b ↦ over_at variables b literal over_b of_b
    ])

pub sound_stepped : (kernel : KernelView) (empty : Option ℕ) (pivot id : ℕ) (staged other r : List Literal) → IsSound kernel empty →
    kernel.staged ≡ Some staged → IsNumbered (clauses_of kernel) id other → IsResolvent staged other pivot r →
    IsSound (record kernel { staged = Some r; chain = kernel.chain ++ pivot ∷ id ∷ [] }) empty
sound_stepped kernel empty pivot id staged other r sound staged_is numbered is =
    let stage = stage_facts kernel empty staged sound staged_is in
    let there = clause_there kernel empty id other sound numbered in
    sound_staged kernel empty r (kernel.chain ++ pivot ∷ id ∷ []) sound
    (reaches_step (clauses_of kernel) pivot id staged other r numbered is kernel.chain (stage.0))
    is.clause (over_resolvent kernel.variables staged other pivot r (stage.2) (there.1) is)

pub sound_finished : ResolventsAreSound → (kernel : KernelView) (empty : Option ℕ) (clause : List Literal) → IsSound kernel empty → kernel.staged ≡ Some clause →
    length kernel.entries < 4000000000 →
    IsSound (record (added kernel clause origins.Derived) { staged = None }) (empty_after empty clause (length kernel.entries + 1))
sound_finished law kernel empty clause sound staged few =
    let stage = stage_facts kernel empty clause sound staged in
    sound_unstaged (added kernel clause origins.Derived) (empty_after empty clause (length kernel.entries + 1))
    (sound_added kernel empty clause origins.Derived sound (stage.1) (stage.2) few
    (λ _. reached_follows law kernel.entries kernel.chain clause sound.derived (stage.0)))

not_derived : (origin : Origin) → is_given_origin origin ≡ true → origin ≡ origins.Derived → ⊥
not_derived origins.Axiom given derived = cc
not_derived origins.Block given derived = cc
not_derived origins.Derived given derived = cc

pub sound_given : (kernel : KernelView) (empty : Option ℕ) (clause : List Literal) (origin : Origin) → IsSound kernel empty →
    IsClause clause → IsOver kernel.variables clause → length kernel.entries < 4000000000 → is_given_origin origin ≡ true →
    IsSound (added kernel clause origin) (empty_after empty clause (length kernel.entries + 1))
sound_given kernel empty clause origin sound is_clause over few given =
    sound_added kernel empty clause origin sound is_clause over few (λ derived. absurd (not_derived origin given derived))
