-- Which limit refuses a section that opens.
use Rattle.std.proofs.Common.{◌≡◌, Bool, Option, Result, Ok, Err, sym, subst}
use Rattle.std.specs.Result.{IsErrAnd}
use Rattle.std.specs.Prelude.{IfErr, not}
use Rattle.cc_defs.specs.declared.refusal.Fault.{Fault}
use Rattle.cc_defs.specs.declared.refusal.LimitAt.TheVariants as limits
use Rattle.cc_defs.specs.declared.lists.Key.{Key}
use Rattle.cc_defs.specs.Description.{Description}
use Rattle.cc_defs.specs.Refusals.{IsRefusedBy}
use Rattle.cc_defs.specs.Resolved.{Query}
use Rattle.cc_lists.specs.Horizons.{opening_refusal, refusal_at}
use Rattle.cc_query.specs.declared.phase.Part.{Part}
use Rattle.cc_query.specs.Parts.{is_conditions}
use Rattle.cc_query.specs.Sessions.{SessionView}

-- what is known of an error is so where it goes up
pub errs : {T E : Type 0} (r : Result T E) (error : E) (P : E → Type 0) → IsErrAnd r (λ given. given ≡ error) → P error → IfErr r P
errs (Ok value) error P is p = tt
errs (Err given) error P is p = subst P (sym is) p

-- what is said of an error that is handed on
pub handed_on : {S : Type 0} (r : Result S Fault) (fault : Fault) (P : Fault → Type 0) → r ≡ Err fault → IfErr r P → P fault
handed_on r fault P was holds = subst (λ (x : Result _ Fault). IfErr x P) was holds

-- what the clauses of a section refuse is what its opening refuses
pub opening_refused : {S : Type 0} (r : Result S Fault) (fault : Fault) (d : Description) (q : Query) (s now : SessionView) (part : Part)
    (denies : Bool) (key : Option Key) → s ≡ now → denies ≡ not (is_conditions part) → key ≡ s.ask.after → r ≡ Err fault →
    IfErr r (IsRefusedBy (refusal_at d q s.horizon denies key)) → IsRefusedBy (opening_refusal d q now.ask now.horizon (is_conditions part)) fault
opening_refused r fault d q s now part denies key same denies_is key_is was refused =
    subst (λ (v : SessionView). IsRefusedBy (opening_refusal d q v.ask v.horizon (is_conditions part)) fault) same
    (handed_on r fault (λ (f : Fault). IsRefusedBy (opening_refusal d q s.ask s.horizon (is_conditions part)) f) was
    (subst (λ (k : Option Key). IfErr r (IsRefusedBy (refusal_at d q s.horizon (not (is_conditions part)) k))) key_is
    (subst (λ (b : Bool). IfErr r (IsRefusedBy (refusal_at d q s.horizon b key))) denies_is refused)))
