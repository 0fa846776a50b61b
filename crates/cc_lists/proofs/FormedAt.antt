-- What is known of a section's clause list behind its rules: what it tells, and which limit refuses it.
use Rattle.std.proofs.Common.{◌≡◌, ℕ, ◌≤◌, Option, None, Some, Result, Ok, Err, length, sym, subst, arith}
use Rattle.std.specs.Prelude.{IfErr, IfOk, OnOk, nat_lt, if◌then◌else◌}
use Rattle.std.specs.Option.{option_or}
use Rattle.std.proofs.lemmas.Bool.Decides.{nat_tests}
use Rattle.cc_defs.specs.declared.refusal.Fault.{Fault}
use Rattle.cc_defs.specs.declared.refusal.LimitAt.TheVariants as limits
use Rattle.cc_defs.specs.declared.refusal.Refusal.{Refusal}
use Rattle.cc_defs.specs.Description.{Description}
use Rattle.cc_defs.specs.Refusals.{IsRefusedBy, past}
use Rattle.cc_defs.specs.TimedRules.{timed_rules}
use Rattle.cc_theory.specs.Theories.{rules_refusal}

pub told_of : {X E : Type 0} (r : Result X E) (P : X → Type 0) (x : X) → IfOk r (λ form. form ≡ x) → IfOk r P → OnOk r (P x)
told_of (Ok form) P x is holds = subst P is holds
told_of (Err e) P x is holds = tt

pub within_both : {X E : Type 0} (r : Result X E) (rules form : Option Refusal) → rules ≡ None → OnOk r (form ≡ None) → OnOk r (option_or rules form ≡ None)
within_both r rules form none is = subst (λ (o : Option Refusal). OnOk r (option_or o form ≡ None)) (sym none) is

not_past : (n : ℕ) → n ≤ 8000000 → (if nat_lt 8000000 n then Some (past limits.Rules) else None) ≡ None
not_past n few = grind (arith, nat_tests)

pub rules_within : (d : Description) (horizon : ℕ) → length (timed_rules d horizon) ≤ 8000000 → rules_refusal d horizon ≡ None
rules_within d horizon few = not_past (length (timed_rules d horizon)) few

pub refused_behind : {T : Type 0} (r : Result T Fault) (rules form : Option Refusal) → rules ≡ None → IfErr r (IsRefusedBy form) →
    IfErr r (IsRefusedBy (option_or rules form))
refused_behind r rules form none is = subst (λ (o : Option Refusal). IfErr r (IsRefusedBy (option_or o form))) (sym none) is
