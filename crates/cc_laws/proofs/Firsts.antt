-- Each number at its first place, step by step.
use Rattle.std.proofs.Common.{◌≡◌, ◌∙◌, ℕ, ◌+◌, ◌<◌, ◌≤◌, true, false, List, [], ◌∷◌, ◌++◌, get_or, length, drop, append_assoc, append-nil, ap, sym, Bool}
use Rattle.std.specs.Prelude.{if◌then◌else◌}
use Rattle.std.proofs.lemmas.List.{at_drop_more, at_drop_all}
use Rattle.cc_laws.specs.FreeVariables.{is_among, firsts_after}

step : (kept numbers : List ℕ) (i : ℕ) → i < length numbers →
    kept ++ firsts_after kept (drop i numbers)
    ≡ kept ++ (if is_among kept (get_or numbers i 0) then firsts_after kept (drop (i + 1) numbers) else get_or numbers i 0 ∷ firsts_after (kept ++ get_or numbers i 0 ∷ []) (drop (i + 1) numbers))
step kept numbers i within = at_drop_more (λ (rest : List ℕ). kept ++ firsts_after kept rest) numbers i 0 within

module _ (kept numbers whole seen : List ℕ) (i : ℕ) (among : Bool) (within : i < length numbers) (are : seen ≡ kept) (tested : among ≡ is_among seen (get_or numbers i 0))
    (so : kept ++ firsts_after kept (drop i numbers) ≡ whole) where
  found : is_among kept (get_or numbers i 0) ≡ among
  found = ap (λ (w : List ℕ). is_among w (get_or numbers i 0)) (sym are) ∙ sym tested

  pub skipped : (new : List ℕ) → new ≡ kept → among ≡ true → new ++ firsts_after new (drop (i + 1) numbers) ≡ whole
  skipped new is e = ap (λ (w : List ℕ). w ++ firsts_after w (drop (i + 1) numbers)) is ∙ (rw (found ∙ e) at (sym (step kept numbers i within))) ∙ so

  pub kept_more : (new : List ℕ) → new ≡ kept ++ get_or numbers i 0 ∷ [] → among ≡ false → new ++ firsts_after new (drop (i + 1) numbers) ≡ whole
  kept_more new is e =
      let x = get_or numbers i 0 in
      ap (λ (w : List ℕ). w ++ firsts_after w (drop (i + 1) numbers)) is
      ∙ append_assoc kept (x ∷ []) (firsts_after (kept ++ x ∷ []) (drop (i + 1) numbers))
      ∙ (rw (found ∙ e) at (sym (step kept numbers i within))) ∙ so

pub all_kept : (kept numbers whole : List ℕ) (i : ℕ) → length numbers ≤ i → kept ++ firsts_after kept (drop i numbers) ≡ whole → kept ≡ whole
all_kept kept numbers whole i past so =
    sym (append-nil kept) ∙ sym (at_drop_all (λ (rest : List ℕ). kept ++ firsts_after kept rest) numbers i past) ∙ so
