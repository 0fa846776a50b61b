-- The clauses of a kernel are attached one after another.
use Rattle.std.proofs.Common.{◌≡◌, ◌∙◌, ℕ, ◌+◌, [], length, refl, ap, arith}
use Rattle.cc_kernel.specs.Kernels.{KernelView}
use Rattle.cc_trail.specs.Trails.{TrailView, Fits, IsNew, IsSettled, IsAttached, IsEmptyOver}

pub record IsStarting (trail : TrailView) (kernel : KernelView) (index : ℕ) : Type 0 where
  pub steps : trail.steps ≡ []
  pub level_count : trail.level_count ≡ 0
  pub attached : trail.attached ≡ index
  pub fits : Fits trail kernel

pub starts : (trail : TrailView) (kernel : KernelView) (variables : ℕ) → IsEmptyOver variables trail → variables ≡ kernel.variables → IsStarting trail kernel 0
starts trail kernel variables empty variables_are = rw empty.is (record {
  steps = refl;
  level_count = refl;
  attached = refl;
  fits = record {
    variables = variables_are;
    clauses = record {
      attached = omega arith;
      reasons = tt;
      shorts = λ number none. elim none [ ];
      met_few = omega arith;
      met = λ number none. elim none [ ];
      longs = λ node low. absurd (omega arith);
      pairs = λ literal other beside. absurd (empty.none literal other beside);
      each = λ number some none. absurd (omega arith);
      watches = λ node low. absurd (omega arith);
      followed = λ literal other beside. absurd (empty.none literal other beside);
    };
  };
})

pub starts_on : (old new : TrailView) (kernel : KernelView) (index : ℕ) → IsStarting old kernel index → IsAttached old new → Fits new kernel → IsStarting new kernel (index + 1)
starts_on old new kernel index before attached fits = record {
  steps = attached.steps ∙ before.steps;
  level_count = attached.level_count ∙ before.level_count;
  attached = attached.attached ∙ ap (λ (n : ℕ). n + 1) before.attached;
  fits = fits;
}

pub is_new : (trail : TrailView) (kernel : KernelView) (index : ℕ) → IsStarting trail kernel index → index ≡ length kernel.entries → IsNew trail kernel
is_new trail kernel index before is = record {
  steps = before.steps;
  level_count = before.level_count;
  attached = before.attached ∙ is;
}

pub is_settled : (trail : TrailView) (kernel : KernelView) (index : ℕ) → IsStarting trail kernel index → IsSettled trail kernel
is_settled trail kernel index before level low = let none = before.level_count in absurd (omega arith)
