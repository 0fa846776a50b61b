-- Where a session stands before its first event.
use Rattle.std.proofs.Common.{◌≡◌, ◌≢◌, ◌∙◌, ◌≤◌, ◌⊎◌, inl, inr, false, [], Option, Some, None, refl, sym, subst, ap, arith}
use Rattle.std.specs.Prelude.{IsSome, IsNone, is_some}
use Rattle.std.specs.Option.{option_map}
use Rattle.std.proofs.lemmas.Bool.{false≢true}
use Rattle.cc_arena.specs.declared.ground_laws.GroundCondition.{GroundCondition}
use Rattle.cc_arena.specs.GroundViews.{plain_ground_condition}
use Rattle.cc_defs.specs.declared.lists.Key.{Key}
use Rattle.cc_defs.specs.Description.{Description}
use Rattle.cc_defs.specs.GroundLaws.{PlainGroundQuery, ground_condition}
use Rattle.cc_defs.specs.Resolved.{Condition, Query}
use Rattle.cc_lists.specs.Horizons.{first_at, last_at}
use Rattle.cc_lists.proofs.Ranges.{first_is, last_is}
use Rattle.cc_query.specs.declared.phase.Part.{Part}
use Rattle.cc_query.specs.declared.phase.Part.TheVariants as parts
use Rattle.cc_query.specs.declared.phase.Phase.{Phase}
use Rattle.cc_query.specs.declared.phase.Phase.TheVariants as phases
use Rattle.cc_query.specs.Sessions.{SessionView, After, Awaits, IsSessionOf, Opens}
use Rattle.cc_query.proofs.Running.{run_at}

first_of_claim : (d : Description) (claim : Option Condition) (ground : Option GroundCondition) (part : Part) →
    option_map plain_ground_condition ground ≡ option_map (ground_condition d.universe) claim →
    (IsNone ground → part ≡ parts.Histories) → (IsSome ground → part ≡ parts.Conditions) →
    (IsNone claim × (part ≡ parts.Histories)) ⊎ (IsSome claim × (part ≡ parts.Conditions))
first_of_claim d None None part same histories conditions = inl (refl, histories refl)
first_of_claim d None (Some ground) part same histories conditions = absurd (false≢true (sym (ap is_some same)))
first_of_claim d (Some claim) None part same histories conditions = absurd (false≢true (ap is_some same))
first_of_claim d (Some claim) (Some ground) part same histories conditions = inr (refl, conditions refl)

pub opening_more : (part : Part) → phases.Opening part ≢ phases.Ended
opening_more part over = absurd cc

in_order : (query : PlainGroundQuery) (after : Option Key) → query.lo ≤ query.hi → first_at query after ≤ last_at query after
in_order query None ordered = ordered
in_order query (Some key) ordered = omega arith

pub nothing_given : (s : SessionView) (ground : Option GroundCondition) (part : Part) (d : Description) (q : Query) → IsSessionOf s d q →
    s.query.claim ≡ option_map plain_ground_condition ground → (IsNone ground → part ≡ parts.Histories) → (IsSome ground → part ≡ parts.Conditions) →
    s.horizon ≡ first_at s.query s.ask.after → s.met ≡ false → s.phase ≡ phases.Opening part → s.query.lo ≤ s.query.hi → After d q s []
nothing_given s ground part d q of claim_is histories conditions horizon_is met phase_is ordered =
    let claim : option_map plain_ground_condition ground ≡ option_map (ground_condition d.universe) q.claim =
    sym claim_is ∙ ap (λ (made : PlainGroundQuery). made.claim) of.query.2 in
    let opens : Opens q part None = elim (first_of_claim d q.claim ground part claim histories conditions) [
      | inl none ↦ subst (λ (p : Part). Opens q p None) (sym none.1) (none.0, refl)
      | inr some ↦ subst (λ (p : Part). Opens q p None) (sym some.1) (some.0, refl)
    ] in
    let first = first_is d q s.query s.ask.after of.query in
    let last = last_is d q s.query s.ask.after of.query in
    let low = in_order s.query s.ask.after ordered in (
      run_at [] None None,
      record { done = tt; next = tt; within = omega arith; ending = tt },
      refl,
      record {
        horizon = let same = horizon_is ∙ first in omega arith;
        met = met;
        awaits = subst (λ (p : Phase). Awaits d q s (run_at [] None None) p) (sym phase_is) (refl, opens);
      },
    )
