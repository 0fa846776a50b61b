-- A row is a history exactly where it is a candidate without a rival.
use Rattle.std.proofs.Common.{◌≡◌, ◌≢◌, ◌⊎◌, ℕ, Bool, true, false, inl, inr, List, refl}
use Rattle.std.specs.Bool.{Decides}
use Rattle.std.specs.Str.{bytes_eq}
use Rattle.std.proofs.lemmas.Bool.{false≢true}
use Rattle.std.proofs.lemmas.Slice.Eq.{bytes_eq-Decides}
use Rattle.cc_rivals.specs.Wides.{HistoriesHaveNoRivals}

decided : {P : Type 0} (b : Bool) → Decides b P → P ⊎ (P → ⊥)
decided true is = inl (is.0 refl)
decided false is = inr (λ p. false≢true (is.1 p))

same_or_other : (row other : List ℕ) → (row ≡ other) ⊎ (row ≢ other)
same_or_other row other = decided (bytes_eq row other) (bytes_eq-Decides row other)

pub no_rivals : HistoriesHaveNoRivals
no_rivals w q horizon row = (
  λ general. (
    record { interprets = general.model.interprets; satisfied = general.model.satisfied; meets = general.meets },
    λ other rival. rival.differs (general.model.only other rival.interprets rival.satisfied),
  ),
  λ found. record {
    model = record {
      interprets = found.0.interprets;
      satisfied = found.0.satisfied;
      only = λ other is so. elim (same_or_other other row) [
        | inl same ↦ same
        | inr apart ↦ absurd (found.1 other (record { interprets = is; satisfied = so; differs = apart }))
      ];
    };
    meets = found.0.meets;
  },
)
