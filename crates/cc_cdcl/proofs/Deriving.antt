-- Conflict analysis: how the staged clause is resolved back along the trail, and what is derived in the end.
use Rattle.std.proofs.Common.{◌≡◌, ◌≢◌, ◌∙◌, ℕ, ◌+◌, ◌-◌, ◌<◌, ◌≤◌, zero, suc, inl, inr, Bool, true, false, List, [], ◌∷◌, ◌++◌, length, map, take, drop, get_or, None, Option, Some, option_and_then, refl, sym, subst, ap, arith, length-append, append-nil}
use Rattle.std.specs.Prelude.{◌⊎◌, Contains, slice_get, IfNone, IfSome, OnErr, OnOk, Result, Ok, Err}
use Rattle.std.specs.Bool.{MatchBool}
use Rattle.std.specs.List.{AllByRecursion}
use Rattle.std.proofs.lemmas.List.{length-map}
use Rattle.cc_defs.specs.Assignments.{IsFailed}
use Rattle.cc_defs.specs.Clauses.{Literal, Clash, IsClause, IsIn, IsLiteralOver, IsNumbered, IsOver, IsResolvent, Reaches, opposite}
use Rattle.cc_kernel.specs.declared.kernel.Origin.TheVariants as origins
use Rattle.cc_kernel.specs.Kernels.{Entry, KernelView, ClashesWith, IsFinished, IsStarted, IsStepped, IsThere, clauses_of}
use Rattle.cc_trail.specs.declared.entries.Step.{Step}
use Rattle.cc_trail.specs.EntryParts.{literal_of_step}
use Rattle.cc_trail.specs.Steps.{AreApart, AreSteps, step_of, steps_to, values_of}
use Rattle.cc_trail.specs.Trails.{TrailView, Fits, FitsClauses, IsAttached, IsAttachedOver, IsFailedClause, KeepsSettled, IsPropagatedAt, IsSettled, back_at, reason_of_step}
use Rattle.cc_trail.specs.Watches.{AreReasoned, IsFalseBy}
use Rattle.cc_cdcl.specs.Analysis.{IsFinal, IsLearned, IsUnfinished, IsWalking, MayResolve, OpenLevels, highest_but, level_count_in}
use Rattle.cc_cdcl.specs.Derivations.{IsBackOver, IsDerived, IsDeriving, Learns}
use Rattle.cc_cdcl.specs.Laws.{LearnedIsEarned}
use Rattle.cc_trail.specs.TrailLaws.{AddingKeepsFit, AddingKeepsSettled}
use Rattle.cc_cdcl.specs.Searches.{KeepsEntries}
use Rattle.cc_cdcl.specs.Solvers.{AddsDerived}
use Rattle.cc_cdcl.proofs.Exactly.{map_push}
use Rattle.cc_cdcl.proofs.Levels.{in_found}
use Rattle.cc_cdcl.proofs.Resolving.{behind_front}
use Rattle.cc_cdcl.proofs.Stepping.{steps_few}
use Rattle.cc_cdcl.proofs.Walking.{front_or_last, reasoned_at}
use Rattle.cc_cdcl.proofs.Walks.{IsPlace, fresh_before, learned_at, step_at, walk_begins, walk_ends, walk_passes, walk_reason, walk_resolves}

-- ---- numbers of clauses

pub some_same : {A : Type 0} (a b : A) (value : Option A) → value ≡ Some a → value ≡ Some b → a ≡ b
some_same a b value e f = cc

pub one_clause : (clauses : List (List Literal)) (number : ℕ) (a b : List Literal) → IsNumbered clauses number a → IsNumbered clauses number b → a ≡ b
one_clause clauses number a b is other = some_same a b (slice_get clauses (number - 1)) is.1 other.1

get_within : {A : Type 0} (xs : List A) (k : ℕ) (x : A) → slice_get xs k ≡ Some x → k < length xs
get_within [] k x is = cc
get_within (y ∷ xs) zero x is = omega arith
get_within (y ∷ xs) (suc k) x is = let rest = get_within xs k x is in omega arith

pub numbered_there : (kernel : KernelView) (number : ℕ) (clause : List Literal) → IsNumbered (clauses_of kernel) number clause → IsThere kernel number
numbered_there kernel number clause is =
    let low = get_within (clauses_of kernel) (number - 1) clause is.1 in
    let count : length (clauses_of kernel) ≡ length kernel.entries = length-map kernel.entries (λ (entry : Entry). entry.clause) in
    let some = is.0 in (is.0, omega arith)

pub contains_numbered : (clauses : List (List Literal)) (number : ℕ) (clause : List Literal) → IsNumbered clauses number clause → Contains clauses clause
contains_numbered clauses number clause is = at clauses (number - 1) is.1
  where
    at : (clauses : List (List Literal)) (k : ℕ) → slice_get clauses k ≡ Some clause → Contains clauses clause
    at [] k e = cc
    at (first ∷ clauses) zero e = let same : first ≡ clause = cc in (0, omega arith, same)
    at (first ∷ clauses) (suc k) e = let (j, low, same) = at clauses k e in (suc j, omega arith, same)

pub clauses_added : (kernel : KernelView) (entries : List Entry) (entry : Entry) → entries ≡ kernel.entries ++ entry ∷ [] →
    map (λ (entry : Entry). entry.clause) entries ≡ clauses_of kernel ++ entry.clause ∷ []
clauses_added kernel entries entry is = ap (map (λ (entry : Entry). entry.clause)) is ∙ map_push (λ (entry : Entry). entry.clause) kernel.entries entry

pub numbered_last : (clauses all : List (List Literal)) (last clause : List Literal) (number : ℕ) → all ≡ clauses ++ last ∷ [] → number ≡ length clauses + 1 →
    IsNumbered all number clause → clause ≡ last
numbered_last clauses all last clause number all_is number_is (some, is) =
    some_same clause last (slice_get (clauses ++ last ∷ []) (length clauses))
    (subst (λ (n : ℕ). slice_get (clauses ++ last ∷ []) n ≡ Some clause) (omega arith) (subst (λ (cs : List (List Literal)). slice_get cs (number - 1) ≡ Some clause) all_is is))
    (get_last clauses)
  where
    get_last : (xs : List (List Literal)) → slice_get (xs ++ last ∷ []) (length xs) ≡ Some last
    get_last [] = refl
    get_last (x ∷ xs) = get_last xs

-- a kernel with the same clauses
pub fits_kept : (trail : TrailView) (old new : KernelView) → KeepsEntries old new → Fits trail old → Fits trail new
fits_kept trail old new kept fits = record {
  variables = fits.variables ∙ sym kept.variables;
  clauses = subst (λ (entries : List Entry). FitsClauses trail (map (λ (entry : Entry). entry.clause) entries)) (sym kept.entries) fits.clauses;
}

pub kept_trans : (a b c : KernelView) → KeepsEntries a b → KeepsEntries b c → KeepsEntries a c
kept_trans a b c one two = record { variables = two.variables ∙ one.variables; entries = two.entries ∙ one.entries }

pub kept_same : (a b : KernelView) → b ≡ a → KeepsEntries a b
kept_same a b is = record { variables = ap (λ (k : KernelView). k.variables) is; entries = ap (λ (k : KernelView). k.entries) is }

pub started_kept : (old new : KernelView) (id : ℕ) → IsStarted old new id → KeepsEntries old new
started_kept old new id (clause, numbered, is) = record { variables = ap (λ (k : KernelView). k.variables) is; entries = ap (λ (k : KernelView). k.entries) is }

pub stepped_kept : (old new : KernelView) (pivot id : ℕ) → IsStepped old new pivot id → KeepsEntries old new
stepped_kept old new pivot id (staged, other, r, is, numbered, resolvent, new_is) = record {
  variables = ap (λ (k : KernelView). k.variables) new_is;
  entries = ap (λ (k : KernelView). k.entries) new_is;
}

pub clash_there : (kernel : KernelView) (pivot id : ℕ) → ClashesWith kernel pivot id → IsThere kernel id
clash_there kernel pivot id (staged, other, is, numbered, clash) = numbered_there kernel id other numbered

pub last_there : (old : ℕ) (new : KernelView) (number : ℕ) → length new.entries ≡ old + 1 → number ≡ old + 1 → IsThere new number
last_there old new number count is = (omega arith, omega arith)

-- ---- one entry of the trail

may_of : (steps : List Step) (level_count : ℕ) (clause : List Literal) → IsUnfinished steps level_count clause → MayResolve steps level_count clause
may_of steps level_count clause (inl (zero_is, some)) = inl zero_is
may_of steps level_count clause (inr two) = inr two

module _ (variables : ℕ) (steps : List Step) (level_count : ℕ) (are : AreSteps variables steps level_count) (clauses : List (List Literal)) (opened : OpenLevels steps)
    (reasoned : AreReasoned clauses steps) (place : ℕ) (last : Step) (is : IsPlace steps place last) where
  pub place_over : IsLiteralOver variables last.lit
  place_over = are.over last (subst (λ (ss : List Step). IsIn ss last) (sym is.split) (behind_front (take place steps) (drop (suc place) steps) last))

  pub found_last : step_of steps last.lit.variable ≡ Some last
  found_last = in_found steps are.apart last (subst (λ (ss : List Step). IsIn ss last) (sym is.split) (behind_front (take place steps) (drop (suc place) steps) last))

  pub reason_last : (reason : Option ℕ) → option_and_then reason_of_step (step_of steps last.lit.variable) ≡ reason → last.reason ≡ reason
  reason_last reason at = sym (ap (option_and_then reason_of_step) found_last) ∙ at

  module _ (clause : List Literal) (walking : IsWalking steps level_count (suc place) clause) (may : MayResolve steps level_count clause) where
    -- a literal of the last step's variable is the opposite of its own
    of_last : (literal : Literal) → literal.variable ≡ last.lit.variable → Contains clause literal → literal ≡ opposite last.lit
    of_last literal same here =
        elim (front_or_last (take place steps) last literal (subst (λ (ss : List Step). IsFalseBy ss literal) is.front (walking.falsified literal here))) [
          | inr equal ↦ equal
          | inl (step, inside, at) ↦ absurd (fresh_before (take place steps) (drop (suc place) steps) last
              (subst AreApart is.split are.apart) step inside (ap (λ (l : Literal). l.variable) at ∙ same))
        ]

    clash_at : (number : ℕ) → last.reason ≡ Some number → (other : List Literal) → IsNumbered clauses number other → Contains clause (opposite last.lit) →
        Clash clause other last.lit.variable × ((resolvent : List Literal) → IsResolvent clause other last.lit.variable resolvent → IsWalking steps level_count place resolvent)
    clash_at number reason_is other numbered here =
        let (found, found_is, (reason, reason_numbered, there, others)) = walk_reason variables steps level_count are place last is clause walking clauses opened reasoned may in
        let same : found ≡ number = some_same found number last.reason found_is reason_is in
        let equal : reason ≡ other = one_clause clauses number reason other (subst (λ (n : ℕ). IsNumbered clauses n reason) same reason_numbered) numbered in
        walk_resolves variables steps level_count are place last is clause walking other may here (subst (λ (r : List Literal). Contains r last.lit) equal there)
        (subst (λ (r : List Literal). (l : Literal) → Contains r l → (l ≡ last.lit) ⊎ IsFalseBy (take place steps) l) equal others)

    pub passes : ((number : ℕ) → last.reason ≡ Some number → (other : List Literal) → IsNumbered clauses number other → Clash clause other last.lit.variable → ⊥) →
        IsWalking steps level_count place clause
    passes never = walk_passes variables steps level_count are place last is clause walking lacks
      where
        lacks : Contains clause (opposite last.lit) → ⊥
        lacks here =
            let (found, found_is, (reason, reason_numbered, there, others)) = walk_reason variables steps level_count are place last is clause walking clauses opened reasoned may in
            never found found_is reason reason_numbered (clash_at found found_is reason reason_numbered here).0

    pub resolves : (number : ℕ) → last.reason ≡ Some number → (other : List Literal) → IsNumbered clauses number other → Clash clause other last.lit.variable →
        (resolvent : List Literal) → IsResolvent clause other last.lit.variable resolvent → IsWalking steps level_count place resolvent
    resolves number reason_is other numbered (sign, (here, alone), there) resolvent resolvent_is =
        (clash_at number reason_is other numbered
        (subst (λ (l : Literal). Contains clause l) (of_last (record { variable = last.lit.variable; positive = sign }) refl here) here)).1 resolvent resolvent_is

-- ---- the staged clause

pub on_ok : {T E : Type 0} (P : Type 0) (result : Result T E) → P → OnOk result P
on_ok P (Ok value) holds = holds
on_ok P (Err error) holds = tt

pub on_err : {T E : Type 0} (P : Type 0) (result : Result T E) → P → OnErr result P
on_err P (Ok value) p = tt
on_err P (Err error) p = p

pub by_ok : {T E : Type 0} (A B C P : Type 0) (result : Result T E) → OnOk result A → OnOk result B → OnOk result C → (A → B → C → P) → OnOk result P
by_ok A B C P (Ok value) a b c holds = holds a b c
by_ok A B C P (Err error) a b c holds = tt

pub none_always : {T : Type 0} (P : Type 0) (found : Option T) → P → IfNone found P
none_always P (Some found) holds = tt
none_always P None holds = holds

pub when_true : (P Q : Type 0) (b : Bool) → b ≡ true → MatchBool b P Q → P
when_true P Q b is matched = rw is at matched

pub when_false : (P Q : Type 0) (b : Bool) → b ≡ false → MatchBool b P Q → Q
when_false P Q b is matched = rw is at matched

-- where the walk stands, and that it is to go on
pub record IsAt (trail : TrailView) (kernel : KernelView) (start : ℕ) : Type 0 where
  pub are : AreSteps trail.variables trail.steps trail.level_count
  pub fits : Fits trail kernel
  pub opened : OpenLevels trail.steps
  pub derivation : IsDeriving kernel trail start
  pub unfinished : IsUnfinished trail.steps trail.level_count derivation.clause

pub at_of : (trail : TrailView) (first kernel : KernelView) (start : ℕ) → kernel ≡ first → AreSteps trail.variables trail.steps trail.level_count → Fits trail first →
    OpenLevels trail.steps → IsDeriving kernel trail start →
    ((clause : List Literal) → first.staged ≡ Some clause → IsUnfinished trail.steps trail.level_count clause) → IsAt trail kernel start
at_of trail first kernel start same are fits opened derivation unfinished = record {
  are = are;
  fits = subst (λ (k : KernelView). Fits trail k) (sym same) fits;
  opened = opened;
  derivation = derivation;
  unfinished = unfinished derivation.clause (sym (ap (λ (k : KernelView). k.staged) same) ∙ derivation.staged);
}

module _ (trail : TrailView) (kernel : KernelView) (are : AreSteps trail.variables trail.steps trail.level_count) (fits : Fits trail kernel) (opened : OpenLevels trail.steps) where
  pub derivation_begins : (old : KernelView) (id : ℕ) → IsStarted old kernel id → IsFailedClause (clauses_of old) trail.steps id → IsSettled trail old →
      IsDeriving kernel trail (length trail.steps)
  derivation_begins old id (clause, numbered, kernel_is) (other, other_numbered, failed) settled =
      let same : other ≡ clause = one_clause (clauses_of old) id other clause other_numbered numbered in record {
        clause = clause;
        staged = ap (λ (k : KernelView). k.staged) kernel_is;
        walking = (walk_begins trail.variables trail.steps trail.level_count are (clauses_of old) clause settled (contains_numbered (clauses_of old) id clause numbered)
            (subst (λ (c : List Literal). IsFailed (values_of trail.steps) c) same failed)).1;
        within = omega arith;
        short = let chain : length kernel.chain ≡ 1 = ap (λ (k : KernelView). length k.chain) kernel_is in omega arith;
      }

module _ (trail : TrailView) (kernel : KernelView) (start : ℕ) (at_start : IsAt trail kernel start) where
  abbrev are : AreSteps trail.variables trail.steps trail.level_count
  are = at_start.are

  abbrev fits : Fits trail kernel
  fits = at_start.fits

  abbrev opened : OpenLevels trail.steps
  opened = at_start.opened

  abbrev derivation : IsDeriving kernel trail start
  derivation = at_start.derivation

  abbrev unfinished : IsUnfinished trail.steps trail.level_count derivation.clause
  unfinished = at_start.unfinished

  pub not_at_start : start ≢ 0
  not_at_start none =
      let ends = walk_ends trail.steps trail.level_count derivation.clause
      (subst (λ (n : ℕ). IsWalking trail.steps trail.level_count n derivation.clause) none derivation.walking) in
      both unfinished ends.0 ends.1
    where
      both : IsUnfinished trail.steps trail.level_count derivation.clause → trail.level_count ≡ 0 → derivation.clause ≡ [] → ⊥
      both (inl (zero_is, some)) level empty = some empty
      both (inr (one, two, apart, (k, low, at), two_in, one_at, two_at)) level empty = let long : length derivation.clause ≡ 0 = ap length empty in omega arith

  module _ (place : ℕ) (place_is : place ≡ start - 1) where
    next_is : start ≡ suc place
    next_is = let some = not_at_start in omega arith

    low : place < length trail.steps
    low = let within = derivation.within in let next = next_is in omega arith

    -- the step there
    pub step_there : (last : Step) × IsPlace trail.steps place last
    step_there = step_at trail.steps place low

    walking_there : IsWalking trail.steps trail.level_count (suc place) derivation.clause
    walking_there = subst (λ (n : ℕ). IsWalking trail.steps trail.level_count n derivation.clause) next_is derivation.walking

    pub literal_here : (entries : List Literal) (literal : Literal) → entries ≡ map literal_of_step trail.steps → literal ≡ get_or entries place literal →
        literal ≡ step_there.0.lit
    literal_here entries literal entries_are literal_is =
        literal_is ∙ ap (λ (es : List Literal). get_or es place literal) entries_are ∙ step_there.1.literal literal

    pub pivot_here : (entries : List Literal) (literal : Literal) (pivot : ℕ) → entries ≡ map literal_of_step trail.steps → literal ≡ get_or entries place literal →
        pivot ≡ literal.variable → pivot ≡ step_there.0.lit.variable
    pivot_here entries literal pivot entries_are literal_is is = is ∙ ap (λ (l : Literal). l.variable) (literal_here entries literal entries_are literal_is)

    module _ (pivot : ℕ) (pivot_is : pivot ≡ step_there.0.lit.variable) where
      pub pivot_over : (1 ≤ pivot) × (pivot ≤ trail.variables)
      pivot_over =
          let over = place_over trail.variables trail.steps trail.level_count are (clauses_of kernel) opened fits.clauses.reasons place step_there.0 step_there.1 in
          (omega (arith, over.0), omega (arith, over.1))

      reason_there : (id : ℕ) → option_and_then reason_of_step (step_of trail.steps pivot) ≡ Some id → step_there.0.reason ≡ Some id
      reason_there id at = reason_last trail.variables trail.steps trail.level_count are (clauses_of kernel) opened fits.clauses.reasons place step_there.0 step_there.1 (Some id)
          (ap (λ (n : ℕ). option_and_then reason_of_step (step_of trail.steps n)) (sym pivot_is) ∙ at)

      -- the staged clause clashes with the reason where it has the opposite of the step's literal, and only there
      module _ (literal : Literal) (literal_is : literal ≡ step_there.0.lit) (id : ℕ) (clause : List Literal)
          (at : option_and_then reason_of_step (step_of trail.steps pivot) ≡ Some id) (staged : kernel.staged ≡ Some clause) where
        pub clashes_here : Contains clause (opposite literal) → ClashesWith kernel pivot id
        clashes_here here =
            let (reason, numbered, there, others) = reasoned_at (clauses_of kernel) [] (take place trail.steps) step_there.0 (drop (suc place) trail.steps)
            (subst (λ (ss : List Step). AreReasoned (clauses_of kernel) ss) step_there.1.split fits.clauses.reasons) id (reason_there id at) in (
              derivation.clause,
              reason,
              derivation.staged,
              numbered,
              subst (λ (n : ℕ). Clash derivation.clause reason n) (sym pivot_is)
                  (clash_at trail.variables trail.steps trail.level_count are (clauses_of kernel) opened fits.clauses.reasons place step_there.0 step_there.1 derivation.clause
                  walking_there (may_of trail.steps trail.level_count derivation.clause unfinished) id (reason_there id at) reason numbered
                  (subst (λ (l : Literal). Contains derivation.clause (opposite l)) literal_is
                  (subst (λ (c : List Literal). Contains c (opposite literal)) (some_same clause derivation.clause kernel.staged staged derivation.staged) here))).0,
            )

        pub clashes_only_here : ClashesWith kernel pivot id → Contains clause (opposite literal)
        clashes_only_here (other_staged, other, other_is, numbered, (sign, (here, alone), there)) =
            let pivot_literal : Literal = record { variable = pivot; positive = sign } in
            let inside : Contains derivation.clause pivot_literal =
            subst (λ (c : List Literal). Contains c pivot_literal) (some_same other_staged derivation.clause kernel.staged other_is derivation.staged) here in
            let same : pivot_literal ≡ opposite step_there.0.lit =
            of_last trail.variables trail.steps trail.level_count are (clauses_of kernel) opened fits.clauses.reasons place step_there.0 step_there.1 derivation.clause
            walking_there (may_of trail.steps trail.level_count derivation.clause unfinished) pivot_literal pivot_is inside in
            subst (λ (c : List Literal). Contains c (opposite literal)) (some_same derivation.clause clause kernel.staged derivation.staged staged)
            (subst (λ (l : Literal). Contains derivation.clause l) (same ∙ ap opposite (sym literal_is)) inside)

      pub goes_on : ((id : ℕ) → option_and_then reason_of_step (step_of trail.steps pivot) ≡ Some id → ClashesWith kernel pivot id → ⊥) → IsDeriving kernel trail place
      goes_on never = record {
        clause = derivation.clause;
        staged = derivation.staged;
        walking = passes trail.variables trail.steps trail.level_count are (clauses_of kernel) opened fits.clauses.reasons place step_there.0 step_there.1 derivation.clause
            walking_there (may_of trail.steps trail.level_count derivation.clause unfinished) no_clash;
        within = let low = low in omega arith;
        short = let short = derivation.short in let next = next_is in omega arith;
      }
        where
          no_clash : (number : ℕ) → step_there.0.reason ≡ Some number → (other : List Literal) → IsNumbered (clauses_of kernel) number other →
              Clash derivation.clause other step_there.0.lit.variable → ⊥
          no_clash number reason_is other numbered clash =
              never number
              (ap (λ (n : ℕ). option_and_then reason_of_step (step_of trail.steps n)) pivot_is ∙
              ap (option_and_then reason_of_step) (found_last trail.variables trail.steps trail.level_count are (clauses_of kernel) opened fits.clauses.reasons place step_there.0 step_there.1) ∙ reason_is)
              (derivation.clause, other, derivation.staged, numbered, subst (λ (n : ℕ). Clash derivation.clause other n) (sym pivot_is) clash)

      pub steps_on : (new : KernelView) (id : ℕ) → option_and_then reason_of_step (step_of trail.steps pivot) ≡ Some id → IsStepped kernel new pivot id →
          IsDeriving new trail place × KeepsEntries kernel new
      steps_on new id at (staged, other, resolvent, staged_is, numbered, resolvent_is, new_is) = (
        record {
          clause = resolvent;
          staged = ap (λ (k : KernelView). k.staged) new_is;
          walking = resolves trail.variables trail.steps trail.level_count are (clauses_of kernel) opened fits.clauses.reasons place step_there.0 step_there.1 derivation.clause
              walking_there (may_of trail.steps trail.level_count derivation.clause unfinished) id (reason_there id at) other numbered resolvent_here.clash resolvent resolvent_here;
          within = let low = low in omega arith;
          short =
              let chain : length new.chain ≡ length (kernel.chain ++ pivot ∷ id ∷ []) = ap (λ (k : KernelView). length k.chain) new_is in
              let long = length-append kernel.chain (pivot ∷ id ∷ []) in
              let short = derivation.short in let next = next_is in omega arith;
        },
        record { variables = ap (λ (k : KernelView). k.variables) new_is; entries = ap (λ (k : KernelView). k.entries) new_is },
      )
        where
          resolvent_here : IsResolvent derivation.clause other step_there.0.lit.variable resolvent
          resolvent_here = subst (λ (n : ℕ). IsResolvent derivation.clause other n resolvent) pivot_is
              (subst (λ (c : List Literal). IsResolvent c other pivot resolvent) (some_same staged derivation.clause kernel.staged staged_is derivation.staged) resolvent_is)

-- ---- what is derived

pub derives : (trail : TrailView) (old staged new : KernelView) → AreSteps trail.variables trail.steps trail.level_count → trail.variables ≡ old.variables →
    KeepsEntries old staged → (derived : IsDerived staged trail) → IsFinished staged new →
    IfSome staged.staged (λ clause. Reaches (clauses_of staged) staged.chain clause) → AddsDerived old new derived.derivation.clause
derives trail old staged new are variables kept derived (clause, staged_is, new_is) reached = record {
  variables = ap (λ (k : KernelView). k.variables) new_is ∙ kept.variables;
  entries = ap (λ (k : KernelView). k.entries) new_is ∙
      ap (λ (c : List Literal). staged.entries ++ (record { clause = c; origin = origins.Derived }) ∷ []) same ∙
      ap (λ (entries : List Entry). entries ++ (record { clause = derived.derivation.clause; origin = origins.Derived }) ∷ []) kept.entries;
  reached = subst (λ (entries : List Entry). Reaches (map (λ (entry : Entry). entry.clause) entries) new.chain derived.derivation.clause) kept.entries
      (subst (λ (chain : List ℕ). Reaches (clauses_of staged) chain derived.derivation.clause) (sym chain_is) (rw derived.derivation.staged at reached));
  short =
      let few = steps_few trail.variables trail.steps trail.level_count are in
      let short = derived.derivation.short in
      let chain : length new.chain ≡ length staged.chain = ap length chain_is in omega (arith, few.0);
}
  where
    same : clause ≡ derived.derivation.clause
    same = some_same clause derived.derivation.clause staged.staged staged_is derived.derivation.staged

    chain_is : new.chain ≡ staged.chain
    chain_is = ap (λ (k : KernelView). k.chain) new_is

pub derived_empty : (trail : TrailView) (kernel : KernelView) (derived : IsDerived kernel trail) → trail.level_count ≡ 0 → derived.derivation.clause ≡ []
derived_empty trail kernel derived level = by derived.derivation.final
  where
    by : IsFinal trail.steps trail.level_count derived.derivation.clause → derived.derivation.clause ≡ []
    by (inl (zero_is, empty)) = empty
    by (inr (some, one)) = absurd (omega arith)

pub derived_one : (trail : TrailView) (kernel : KernelView) (derived : IsDerived kernel trail) → 0 < trail.level_count →
    level_count_in trail.steps trail.level_count derived.derivation.clause ≡ 1
derived_one trail kernel derived level = by derived.derivation.final
  where
    by : IsFinal trail.steps trail.level_count derived.derivation.clause → level_count_in trail.steps trail.level_count derived.derivation.clause ≡ 1
    by (inl (zero_is, empty)) = absurd (omega arith)
    by (inr (some, one)) = one

pub derived_learned : (trail : TrailView) (kernel : KernelView) → AreSteps trail.variables trail.steps trail.level_count → (derived : IsDerived kernel trail) → 0 < trail.level_count →
    IsLearned trail.steps trail.level_count derived.derivation.clause (highest_but trail.steps trail.level_count derived.derivation.clause)
derived_learned trail kernel are derived level =
    learned_at trail.variables trail.steps trail.level_count are derived.derivation.clause derived.derivation.failed level
    (derived_one trail kernel derived level)

pub learns : (law : LearnedIsEarned) (trail : TrailView) (old staged new : KernelView) → AreSteps trail.variables trail.steps trail.level_count → IsSettled trail old →
    0 < trail.level_count → (derived : IsDerived staged trail) → AddsDerived old new derived.derivation.clause → (clause : List Literal) →
    clause ≡ derived.derivation.clause → IsClause clause → IsOver new.variables clause → Learns old new
learns law trail old staged new are settled level derived adds clause same is over = record {
  clause = derived.derivation.clause;
  adds = adds;
  is_clause = subst IsClause same is;
  over = subst (λ (n : ℕ). IsOver n derived.derivation.clause) adds.variables (subst (λ (c : List Literal). IsOver new.variables c) same over);
  some = λ empty. let one = derived_one trail staged derived level in let none = ap (level_count_in trail.steps trail.level_count) empty in omega arith;
  earned = (law trail.variables trail.steps trail.level_count (clauses_of old) derived.derivation.clause
      (highest_but trail.steps trail.level_count derived.derivation.clause) are settled (derived_learned trail staged are derived level)).0;
}

-- ---- what is learned at a level above 0

module _ (trail : TrailView) (old staged new : KernelView) (are : AreSteps trail.variables trail.steps trail.level_count) (variables : trail.variables ≡ old.variables)
    (kept : KeepsEntries old staged) (derived : IsDerived staged trail) (finished : IsFinished staged new)
    (reached : IfSome staged.staged (λ clause. Reaches (clauses_of staged) staged.chain clause)) (some : 0 < trail.level_count) where
  pub adds : AddsDerived old new derived.derivation.clause
  adds = derives trail old staged new are variables kept derived finished reached

  pub clauses_then : clauses_of new ≡ clauses_of old ++ derived.derivation.clause ∷ []
  clauses_then = clauses_added old new.entries (record { clause = derived.derivation.clause; origin = origins.Derived }) adds.entries

  pub count_then : length new.entries ≡ length old.entries + 1
  count_then = ap length adds.entries ∙ length-append old.entries ((record { clause = derived.derivation.clause; origin = origins.Derived }) ∷ [])

  pub there_then : (number : ℕ) → number ≡ length staged.entries + 1 → IsThere new number
  there_then number is = last_there (length staged.entries) new number (count_then ∙ ap (λ (es : List Entry). length es + 1) (sym kept.entries)) is

  pub fits_then : (law : AddingKeepsFit) (back : TrailView) → Fits back old → Fits back new
  fits_then law back fits = law back old new derived.derivation.clause adds.variables clauses_then fits

  -- what is read by the number of the clause
  pub read_there : (number : ℕ) (clause : List Literal) → number ≡ length staged.entries + 1 → IsNumbered (clauses_of new) number clause → clause ≡ derived.derivation.clause
  read_there number clause number_is numbered =
      let count : length (clauses_of old) ≡ length old.entries = length-map old.entries (λ (entry : Entry). entry.clause) in
      let same : length staged.entries ≡ length old.entries = ap length kept.entries in
      numbered_last (clauses_of old) (clauses_of new) derived.derivation.clause clause number clauses_then (omega arith) numbered

  module _ (clause : List Literal) (same : clause ≡ derived.derivation.clause) (level back : ℕ) (level_is : level ≡ trail.level_count)
      (back_is : back ≡ highest_but trail.steps level clause) where
    back_there : back ≡ highest_but trail.steps trail.level_count derived.derivation.clause
    back_there = back_is ∙ ap (λ (n : ℕ). highest_but trail.steps n clause) level_is ∙
        ap (highest_but trail.steps trail.level_count) same

    learned_there : IsLearned trail.steps trail.level_count derived.derivation.clause back
    learned_there = subst (λ (n : ℕ). IsLearned trail.steps trail.level_count derived.derivation.clause n) (sym back_there) (derived_learned trail staged are derived some)

    pub back_low : back ≤ trail.level_count
    back_low = let lower = learned_there.lower in omega arith

    pub back_mild : (law : LearnedIsEarned) → IsSettled trail old → KeepsSettled (steps_to back trail.steps) back derived.derivation.clause
    back_mild law settled =
        (law trail.variables trail.steps trail.level_count (clauses_of old) derived.derivation.clause back are settled learned_there).1

-- ---- going back, and attaching

pub attached_alone : (old new : TrailView) → IsAttached old new → IsAttachedOver old new
attached_alone old new attached = record {
  more = [];
  steps = attached.steps ∙ sym (append-nil old.steps);
  each = tt;
  variables = attached.variables;
  level_count = attached.level_count;
  attached = attached.attached;
}

pub attached_back : (law : AddingKeepsSettled) (old back new : TrailView) (before after : KernelView) (clause : List Literal) (level : ℕ) → level ≤ old.level_count →
    back ≡ back_at old level → old.attached ≡ length before.entries → (length after.entries ≡ length before.entries + 1) → clauses_of after ≡ clauses_of before ++ clause ∷ [] →
    KeepsSettled (steps_to level old.steps) level clause → IsSettled back before → IsAttachedOver back new → Fits new after →
    ((other : KernelView) → IsSettled back other → IsSettled new other) → IsBackOver old new after
attached_back law old back new before after clause level low back_is all longer clauses_are mild settled attached fits keeps = record {
  back = level;
  low = low;
  more = attached.more;
  variables = attached.variables ∙ ap (λ (t : TrailView). t.variables) back_is;
  steps = attached.steps ∙ ap (λ (t : TrailView). t.steps ++ attached.more) back_is;
  each = subst (λ (t : TrailView). AllByRecursion (IsPropagatedAt t.level_count) attached.more) back_is attached.each;
  level_count = attached.level_count ∙ ap (λ (t : TrailView). t.level_count) back_is;
  all = let one = attached.attached in let same = ap (λ (t : TrailView). t.attached) back_is in omega arith;
  fits = fits;
  settled = keeps after (law back before after clause clauses_are
      (subst (λ (t : TrailView). KeepsSettled t.steps t.level_count clause) (sym back_is) mild) settled);
}
