-- What the holder sees of a kernel after its parts have changed.
use Rattle.std.proofs.Common.{◌≡◌, ◌∙◌, ℕ, ◌+◌, ◌-◌, ◌<◌, ◌≤◌, Bool, true, false, List, [], ◌∷◌, ◌++◌, length, Option, Some, None, refl, sym, subst, ap, arith}
use Rattle.std.specs.Prelude.{◌↔◌, IsTrue, IsSome, All, if◌then◌else◌}
use Rattle.std.proofs.lemmas.List.{length-map}
use Rattle.std.proofs.lemmas.Option.{same_Some, slice_get_within}
use Rattle.cc_defs.specs.Clauses.{Literal, IsClause, IsOver, IsNumbered, IsResolvent, Clash}
use Rattle.cc_clauses.specs.Laws.{ResolventsAreSound}
use Rattle.cc_kernel.specs.declared.kernel.Origin.{Origin}
use Rattle.cc_kernel.specs.declared.kernel.Origin.TheVariants as origins
use Rattle.cc_kernel.specs.declared.kernel.Kernel.TheInside.{Inside}
use Rattle.cc_kernel.specs.Kernels.{KernelView, Entry, clauses_of, axiom_of, axioms_of, added, IsThere, AreAxioms, ClashesWith, first_empty, empty_after, is_given_origin}
use Rattle.cc_kernel.specs.Parts.{view_of, entries_of, IsSound}
use Rattle.cc_kernel.proofs.Entries.{clauses_are, length_of_entries, axioms_push, none_later, axiom_added, axioms_are_clauses, are_axioms}
use Rattle.cc_kernel.proofs.Chains.{none_follows}
use Rattle.cc_kernel.proofs.Kernels.{sound_given, sound_finished, stage_facts, clause_there}

flag_cases : (flag : Bool) (stage staged : List Literal) → (if flag then Some stage else None) ≡ Some staged → (flag ≡ true) × (stage ≡ staged)
flag_cases true stage staged is = (refl, same_Some stage staged is)
flag_cases false stage staged is = cc

module _ (inside : Inside) (old : KernelView) (is : view_of inside ≡ old) where
  pub clauses_here : clauses_of old ≡ inside.clauses
  clauses_here = sym (ap clauses_of is) ∙ clauses_are inside.clauses (length inside.clauses - length inside.later.items) inside.later.items

  pub count_here : length old.entries ≡ length inside.clauses
  count_here = sym (ap (λ (v : KernelView). length v.entries) is) ∙ length_of_entries inside.clauses inside.later.items

  pub there_inside : (id : ℕ) → IsThere old id → id ≤ length inside.clauses
  there_inside id there = let count = count_here in let most : id ≤ length old.entries = there.1 in omega arith

  pub numbered_here : (id : ℕ) (clause : List Literal) → IsNumbered inside.clauses id clause → IsNumbered (clauses_of old) id clause
  numbered_here id clause numbered = subst (λ (clauses : List (List Literal)). IsNumbered clauses id clause) (sym clauses_here) numbered

  pub numbered_inside : (id : ℕ) (clause : List Literal) → IsNumbered (clauses_of old) id clause → IsNumbered inside.clauses id clause
  numbered_inside id clause numbered = subst (λ (clauses : List (List Literal)). IsNumbered clauses id clause) clauses_here numbered

  pub numbered_most : (id : ℕ) (clause : List Literal) → IsNumbered (clauses_of old) id clause → id ≤ length inside.clauses
  numbered_most id clause numbered =
      let within = slice_get_within inside.clauses (id - 1) clause ((numbered_inside id clause numbered).1) in
      omega arith

  pub staged_inside : (staged : List Literal) → old.staged ≡ Some staged → (inside.is_staged ≡ true) × (inside.stage ≡ staged)
  staged_inside staged staged_is = flag_cases inside.is_staged inside.stage staged (ap (λ (v : KernelView). v.staged) is ∙ staged_is)

  pub sound_here : (empty : Option ℕ) → IsSound (view_of inside) empty → IsSound old empty
  sound_here empty sound = subst (λ (v : KernelView). IsSound v empty) is sound

  pub entries_added : (entries : List Entry) (clause : List Literal) (origin : Origin) →
      entries ≡ (view_of inside).entries ++ (record { clause = clause; origin = origin }) ∷ [] →
      ◌≡◌ {A = KernelView} (record (view_of inside) { entries = entries }) (added old clause origin)
  entries_added entries clause origin entries_are = rw entries_are (ap (λ (v : KernelView). added v clause origin) is)

  pub entries_finished : (entries : List Entry) (stage clause : List Literal) → stage ≡ clause →
      entries ≡ (view_of inside).entries ++ (record { clause = stage; origin = origins.Derived }) ∷ [] →
      ◌≡◌ {A = KernelView} (record (view_of inside) { entries = entries; staged = None }) (record (added old clause origins.Derived) { staged = None })
  entries_finished entries stage clause stage_is entries_are =
      rw (entries_are, stage_is) (ap (λ (v : KernelView). let w : KernelView = record (added v clause origins.Derived) { staged = None } in w) is)

  pub given_sound : (empty next : Option ℕ) (clause : List Literal) (origin : Origin) (entries : List Entry) (number : ℕ) →
      IsSound (view_of inside) empty → IsClause clause → IsOver old.variables clause → length old.entries < 4000000000 → is_given_origin origin ≡ true →
      entries ≡ (view_of inside).entries ++ (record { clause = clause; origin = origin }) ∷ [] → number ≡ length old.entries →
      next ≡ empty_after empty clause (number + 1) → IsSound (record (view_of inside) { entries = entries }) next
  given_sound empty next clause origin entries number sound is_clause over few given entries_are number_is next_is =
      let done = sound_given old empty clause origin (sound_here empty sound) is_clause over few given in
      rw (next_is, number_is) (subst (λ (v : KernelView). IsSound v (empty_after empty clause (length old.entries + 1)))
      (sym (entries_added entries clause origin entries_are)) done)

  pub finished_sound : ResolventsAreSound → (empty next : Option ℕ) (stage clause : List Literal) (entries : List Entry) (number : ℕ) →
      IsSound (view_of inside) empty → old.staged ≡ Some clause → length old.entries < 4000000000 → stage ≡ clause →
      entries ≡ (view_of inside).entries ++ (record { clause = stage; origin = origins.Derived }) ∷ [] → number ≡ length old.entries →
      next ≡ empty_after empty stage (number + 1) → IsSound (record (view_of inside) { entries = entries; staged = None }) next
  finished_sound law empty next stage clause entries number sound staged few stage_is entries_are number_is next_is =
      let done = sound_finished law old empty clause (sound_here empty sound) staged few in
      rw (next_is, number_is, stage_is) (subst (λ (v : KernelView). IsSound v (empty_after empty clause (length old.entries + 1)))
      (sym (entries_finished entries stage clause stage_is entries_are)) done)

  pub started_is : (stage clause : List Literal) (chain : List ℕ) (id : ℕ) → stage ≡ clause → chain ≡ id ∷ [] →
      ◌≡◌ {A = KernelView} (record (view_of inside) { staged = Some stage; chain = chain }) (record old { staged = Some clause; chain = id ∷ [] })
  started_is stage clause chain id stage_is chain_is =
      rw (stage_is, chain_is) (ap (λ (v : KernelView). let w : KernelView = record v { staged = Some clause; chain = id ∷ [] } in w) is)

  pub stepped_is : (staged r : List Literal) (chain more : List ℕ) → old.staged ≡ Some staged → chain ≡ inside.chain.items ++ more →
      ◌≡◌ {A = KernelView} (record (view_of inside) { staged = if inside.is_staged then Some r else None; chain = chain })
      (record old { staged = Some r; chain = old.chain ++ more })
  stepped_is staged r chain more staged_is chain_is =
      let flag = (staged_inside staged staged_is).0 in
      rw (flag, chain_is) (ap (λ (v : KernelView). let w : KernelView = record v { staged = Some r; chain = v.chain ++ more } in w) is)

  -- what is read as the stage and as the clause of a number is what clashes
  module _ (pivot id : ℕ) (stage other : List Literal) (clash : ClashesWith old pivot id) (stage_is : stage ≡ inside.stage)
      (numbered : IsNumbered inside.clauses id other) where
    read_stage : clash.0 ≡ stage
    read_stage = sym (stage_is ∙ (staged_inside (clash.0) (clash.2)).1)

    read_other : clash.1 ≡ other
    read_other = same_Some (clash.1) other (sym ((numbered_inside id (clash.1) (clash.3)).1) ∙ numbered.1)

    pub resolved : (r : List Literal) → IsResolvent stage other pivot r → IsResolvent (clash.0) (clash.1) pivot r
    resolved r is = rw (read_stage, read_other) is

    pub parents : (empty : Option ℕ) → IsSound (view_of inside) empty → IsClause stage × IsClause other × Clash stage other pivot
    parents empty sound =
        let here = sound_here empty sound in
        let facts = stage_facts old empty (clash.0) here (clash.2) in
        let there = clause_there old empty id (clash.1) here (clash.3) in (
          subst IsClause read_stage (facts.1),
          subst IsClause read_other (there.0),
          subst (λ (a : List Literal). Clash a other pivot) read_stage (subst (λ (b : List Literal). Clash (clash.0) b pivot) read_other (clash.4)),
        )

  module _ (clauses : List (List Literal)) (clause : List Literal) (few : length inside.later.items ≤ length inside.clauses)
      (axioms : AreAxioms old.entries) (clauses_are : clauses ≡ inside.clauses ++ clause ∷ []) where
    axioms_inside : AreAxioms (view_of inside).entries
    axioms_inside = subst (λ (v : KernelView). AreAxioms v.entries) (sym is) axioms

    pub axiom_entries : entries_of clauses inside.later.items ≡ (view_of inside).entries ++ axiom_of clause ∷ []
    axiom_entries =
        let none : inside.later.items ≡ [] = none_later inside.clauses inside.later.items few axioms_inside in
        rw (clauses_are, none) (axiom_added inside.clauses clause)

    pub axioms_still : AreAxioms (entries_of clauses inside.later.items)
    axioms_still = subst AreAxioms (sym axiom_entries) (axioms_push (view_of inside).entries (axiom_of clause) axioms_inside refl)

pub some_is : (staged : Option (List Literal)) → IsSome staged → (clause : List Literal) × (staged ≡ Some clause)
some_is None some = cc
some_is (Some clause) some = (clause, refl)

-- a test of the staged clause and the clause of a number
pub clashes_with : (kernel : KernelView) (pivot id : ℕ) (staged other : List Literal) (r : Bool) → kernel.staged ≡ Some staged →
    IsNumbered (clauses_of kernel) id other → IsTrue r ↔ Clash staged other pivot → IsTrue r ↔ ClashesWith kernel pivot id
clashes_with kernel pivot id staged other r staged_is numbered test = (
  (λ passes. (staged, other, staged_is, numbered, test.0 passes)),
  (λ (one, two, one_is, two_is, clash).
      let first : one ≡ staged = same_Some one staged (sym one_is ∙ staged_is) in
      let second : two ≡ other = same_Some two other (sym (two_is.1) ∙ numbered.1) in
      test.1 (subst (λ (a : List Literal). Clash a other pivot) first (subst (λ (b : List Literal). Clash one b pivot) second clash))),
)

-- a kernel of axioms alone
pub sound_of : (variables : ℕ) (clauses : List (List Literal)) (empty : Option ℕ) → variables ≤ 4000000 → length clauses ≤ 4000000000 →
    All IsClause clauses → All (IsOver variables) clauses → empty ≡ first_empty 1 (axioms_of clauses) →
    IsSound (record { variables = variables; entries = axioms_of clauses; staged = None; chain = [] }) empty
sound_of variables clauses empty variables_few few each over first = record {
  variables_few = variables_few;
  entries_few = let count : length (axioms_of clauses) ≡ length clauses = length-map clauses axiom_of in omega arith;
  clauses = axioms_are_clauses variables clauses each over;
  derived = none_follows (axioms_of clauses) (are_axioms clauses);
  reached = tt;
  first = first;
}
