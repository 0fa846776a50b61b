use Rattle.cc_lists.proofs.keys.is_fit.Goals.{then-is_unclaimed, else-is_unclaimed}
use Rattle.cc_lists.proofs.keys.is_fit.Goals as goal
use Rattle.std.proofs.Common.{◌∙◌, ℕ, List, subst, sym}
use Rattle.std.proofs.lemmas.Bool.{false≢true}
use Rattle.cc_defs.specs.Rows.{IsRow}
use Rattle.cc_form.specs.Places.{position_sizes}

pub returns-then-is_tried : goal.returns-then-is_tried
returns-then-is_tried c = elim c.if-is_unclaimed.branch [
  | then-is_unclaimed w ↦
      let IsIts : List ℕ → Type 0 = IsRow (position_sizes c.args.sig.now c.args.key.now.horizon) in
      let tried = w.is_tried.ensures.0 (sym w.value-is ∙ c.if-is_tried.true) in (
        (λ yes. record {
          least = tried.0;
          most = tried.1;
          claim = c.is_unclaimed.ensures.0 w.if-is_unclaimed.true;
          row = subst IsIts c.items.ensures (c.is_row.ensures.is.0 yes);
        }),
        (λ fits. c.is_row.ensures.is.1 (subst IsIts (sym c.items.ensures) fits.row)),
      )
  | else-is_unclaimed w ↦ absurd (false≢true (sym w.if-is_unclaimed.false ∙ sym w.value-is ∙ c.if-is_tried.true))
]

pub returns-else-is_tried : goal.returns-else-is_tried
returns-else-is_tried c = (
  (λ yes. absurd (false≢true (sym c.if-is_tried.false ∙ yes))),
  (λ fits. elim c.if-is_unclaimed.branch [
    | then-is_unclaimed w ↦ w.value-is ∙ w.is_tried.ensures.1 (fits.least, fits.most)
    | else-is_unclaimed w ↦ absurd (false≢true (sym w.if-is_unclaimed.false ∙ c.is_unclaimed.ensures.1 fits.claim))
  ]),
)
