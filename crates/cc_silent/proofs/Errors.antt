-- What is known of an error is so where it goes up.
use Rattle.std.proofs.Common.{◌≡◌, Result, Ok, Err, IfErr, IsErrAnd, sym, subst}
use Rattle.cc_defs.specs.declared.refusal.Fault.{Fault}

pub errs_with : {T : Type 0} (P : Fault → Type 0) (r : Result T Fault) (fault : Fault) → IsErrAnd r (λ given. given ≡ fault) → P fault → IfErr r P
errs_with P (Ok done) fault is so = tt
errs_with P (Err given) fault is so = subst P (sym is) so
