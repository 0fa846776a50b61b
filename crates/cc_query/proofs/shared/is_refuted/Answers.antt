use Rattle.std.proofs.Common.{◌≡◌, ◌∙◌, ℕ, true, false, [], Option, Some, None, refl, sym, subst}
use Rattle.std.specs.Prelude.{Contains, is_some}
use Rattle.cc_defs.specs.Sections.{HasNoEmpty}
use Rattle.cc_kernel.specs.Kernels.{KernelView, clauses_of}
use Rattle.cc_query.proofs.Joining.{none_first, some_first}
use Rattle.cc_query.proofs.shared.is_refuted.Goals as goal

none_of : (found : Option ℕ) → is_some found ≡ false → found ≡ None
none_of None is = refl
none_of (Some n) is = absurd cc

pub returns-clause-some : goal.returns-clause-some
returns-clause-some c = λ is. subst (λ (k : KernelView). Contains (clauses_of k) []) c.kernel.ensures.kernel
    (some_first 1 c.kernel.result.now.entries (subst (λ (o : Option ℕ). is_some o ≡ true) c.refuted.ensures (sym c.is_some.ensures ∙ is)))

pub returns-clause-none : goal.returns-clause-none
returns-clause-none c = λ is. subst (λ (k : KernelView). HasNoEmpty (clauses_of k)) c.kernel.ensures.kernel
    (none_first 1 c.kernel.result.now.entries (sym c.refuted.ensures ∙ none_of c.refuted.result (sym c.is_some.ensures ∙ is)))
