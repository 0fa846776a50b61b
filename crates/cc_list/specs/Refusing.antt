-- A run that is refused.
use Rattle.std.specs.Prelude.{◌≡◌, false, Some}
use Rattle.cc_defs.specs.declared.refusal.Refusal.{Refusal}
use Rattle.cc_list.specs.Wholes.{Whole}
use Rattle.cc_tell.specs.declared.status.Status.TheVariants as statuses
use Rattle.cc_tell.specs.Givens.{only_err}
use Rattle.cc_tell.specs.ErrLines.{refusal_text}
use Rattle.cc_words.specs.Words.{Text}

-- The run is refused before it begins, and prints just that.
pub record IsRefusedWith (Refuses : Refusal → Text → Type 0) (whole : Whole) : Type 0 where
  pub refusal : Refusal
  pub file : Text
  pub refused : Refuses refusal file
  pub given : whole.given ≡ only_err (refusal_text refusal file)
  pub begun : whole.begun ≡ false
  pub ends : whole.ends ≡ Some statuses.Refused
