-- A log that was to be begun.
use Rattle.std.proofs.Common.{◌≡◌, ◌∙◌, refl, sym, ap, subst, ℕ, ◌≤◌, true, false, List, Option, Some, None, Result, Ok, Err, IfSome, option_map}
use Rattle.std.specs.Prelude.{is_some}
use Rattle.std.specs.Borrow.{Bor}
use Rattle.cc_defs.specs.Runs.{optional}
use Rattle.cc_ports.specs.Calls.{Begins as BeginsLog, with_call}
use Rattle.cc_ports.specs.Contents.{Contents, Rose, after_create, keeping}
use Rattle.cc_ports.specs.Moments.{Moment}
use Rattle.cc_tell.specs.declared.status.Stop.{Stop}
use Rattle.cc_tell.specs.declared.status.Stop.TheVariants as stops
use Rattle.cc_tell.specs.Steps.{Begins, IsCalm, IsFresh}
use Rattle.cc_tell.proofs.Calls.{called_begins}

abbrev named : Option (Bor (List ℕ)) → Option (List ℕ)
named = option_map (λ (text : Bor (List ℕ)). text.now)

begun_fresh : (c : Contents) → IsFresh c → after_create true c ≡ keeping true c
begun_fresh c fresh = λ i. record c { log = sym fresh.log i; keeps = true }

after_begun : (old new : Option Contents) → new ≡ option_map (after_create true) old → IfSome old (λ before. IsFresh before → new ≡ Some (keeping true before))
after_begun None new is = tt
after_begun (Some c) new is = λ fresh. is ∙ ap Some (begun_fresh c fresh)

after_failed : (old new : Option Contents) → new ≡ option_map (after_create false) old → IfSome old (λ before. IsFresh before → new ≡ Some before)
after_failed None new is = tt
after_failed (Some c) new is = λ fresh. is

pub begins_done : {X : Type 0} (o : Option (Bor (List ℕ))) (name : Bor (List ℕ)) (x y : Moment) (v : X) → o ≡ Some name → y.told ≡ option_map (after_create true) x.told → y.begun ≡ true →
    y.calls ≡ with_call (BeginsLog name.now) x.calls → IsCalm x y → x.reads ≤ y.reads → x.writes ≤ y.writes → Begins (is_some o) (optional (named o)) x y (Ok v)
begins_done o name x y v is told begun calls calm reads writes =
    subst (λ (n : Option (Bor (List ℕ))). Begins (is_some n) (optional (named n)) x y (Ok v)) (sym is) (record {
      told = after_begun x.told y.told told;
      begun = begun;
      failed = tt;
      called = called_begins name.now x y calls;
      calm = λ _. calm;
      reads = reads;
      writes = writes;
    })

pub begins_failed : {X : Type 0} (o : Option (Bor (List ℕ))) (name : Bor (List ℕ)) (x y : Moment) → o ≡ Some name → y.told ≡ option_map (after_create false) x.told → y.begun ≡ x.begun →
    y.calls ≡ with_call (BeginsLog name.now) x.calls → Rose x.writes y.writes → x.reads ≤ y.reads → x.writes ≤ y.writes →
    Begins {X = X} (is_some o) (optional (named o)) x y (Err stops.WriteFault)
begins_failed {X = X} o name x y is told begun calls rose reads writes =
    let failed : Result X Stop = Err stops.WriteFault in
    subst (λ (n : Option (Bor (List ℕ))). Begins (is_some n) (optional (named n)) x y failed) (sym is) (record {
      told = after_failed x.told y.told told;
      begun = begun;
      failed = (refl, rose, refl);
      called = called_begins name.now x y calls;
      calm = λ ok. absurd cc;
      reads = reads;
      writes = writes;
    })
