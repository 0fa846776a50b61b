-- Two runs, one of which goes on behind the last history of the other.
use Rattle.std.proofs.Common.{◌≡◌, ◌∙◌, ℕ, ◌≤◌, List, [], ◌∷◌, ◌++◌, Option, Some, sym, subst, ap, arith}
use Rattle.std.specs.Prelude.{IfSome}
use Rattle.std.specs.Option.{option_map}
use Rattle.cc_defs.specs.declared.lists.Key.{Key}
use Rattle.cc_defs.specs.Description.{Description}
use Rattle.cc_defs.specs.Histories.{IsListing, AreFirst}
use Rattle.cc_defs.specs.Resolved.{Query}
use Rattle.cc_defs.specs.Runs.{Ask, Run, Horizon, Section, Histories, IsFairRun, IsTrueOf, TellsHistories, first_horizon, horizon_at, key_row, last_horizon, rows_of}
use Rattle.cc_query.specs.Laws.{ListingsJoin, ListingsResume}

-- what a fair run tells of the horizon that it is at
told_at : (d : Description) (q : Query) (ask : Ask) (run : Run) (section : Section) → IsFairRun d q ask run → run.next ≡ Some (Histories section) →
    (horizon_at (first_horizon q ask.after) run ≤ last_horizon q ask.after) × TellsHistories d q ask (horizon_at (first_horizon q ask.after) run) section
told_at d q ask run section fair next_is =
    let at = horizon_at (first_horizon q ask.after) run in
    let next = subst (λ (n : Option Horizon). IfSome n (λ h. (at ≤ last_horizon q ask.after) × IsTrueOf d q ask at h)) next_is fair.next in
    (next.0, next.1.1)

-- a run behind a key is at the key's horizon
at_the_key : (q : Query) (later : Ask) (key : Key) (run : Run) → later.after ≡ Some key →
    horizon_at (first_horizon q later.after) run ≤ last_horizon q later.after → horizon_at (first_horizon q later.after) run ≡ key.horizon
at_the_key q later key run after most =
    let first : first_horizon q later.after ≡ key.horizon = ap (λ (k : Option Key). first_horizon q k) after in
    let last : last_horizon q later.after ≡ key.horizon = ap (λ (k : Option Key). last_horizon q k) after in
    omega (arith, first, last, most)

pub joined : ListingsResume → ListingsJoin
joined resume d q ask later key one other section rest told last fair next_is rows_are after row_is at_is other_fair other_next ends =
    let tells = (told_at d q ask one section fair next_is).1 in
    let others = told_at d q later other rest other_fair other_next in
    let at : horizon_at (first_horizon q later.after) other ≡ key.horizon = at_the_key q later key other after others.0 in
    let key_is : key_row later ≡ Some last = ap (λ (k : Option Key). option_map (λ key. key.row) k) after ∙ ap (λ (row : List ℕ). Some row) row_is in
    let listing : IsListing d q key.horizon (Some last) (rows_of rest) =
    subst (λ (horizon : ℕ). IsListing d q horizon (Some last) (rows_of rest)) at
    (subst (λ (low : Option (List ℕ)). IsListing d q (horizon_at (first_horizon q later.after) other) low (rows_of rest)) key_is (others.1.all_told ends)) in
    let first : AreFirst d q key.horizon (key_row ask) (told ++ last ∷ []) =
    subst (λ (horizon : ℕ). AreFirst d q horizon (key_row ask) (told ++ last ∷ [])) (sym at_is)
    (subst (λ (rows : List (List ℕ)). AreFirst d q (horizon_at (first_horizon q ask.after) one) (key_row ask) rows) rows_are tells.first) in
    subst (λ (rows : List (List ℕ)). IsListing d q key.horizon (key_row ask) (rows ++ rows_of rest)) (sym rows_are)
    (resume d q key.horizon (key_row ask) told last (rows_of rest) first listing)
