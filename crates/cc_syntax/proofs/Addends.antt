-- Sums: the steps of the loop that reads the pieces behind the first.
use Rattle.std.proofs.Common.{◌≡◌, ℕ, zero, suc, ◌-◌, ◌<◌, Bool, List, [], ◌∷◌, ◌++◌, map, Option, Some, None, refl, ap, ◌∙◌, arith}
use Rattle.std.proofs.lemmas.List.{map-append}
use Rattle.cc_defs.specs.declared.tree.Addend.{Addend}
use Rattle.cc_defs.specs.Trees.{PlainTerm, PlainPiece, plain_piece}
use Rattle.cc_defs.specs.Grammar.{Terminal}
use Rattle.cc_syntax.specs.Readers.{Reader}
use Rattle.cc_syntax.specs.Terms.{PlainAddend, plain_addend, additive_at, piece_by, addends_from}

module _ (term : Reader PlainTerm) where
  -- no sign is there
  pub addends-ended : (n : ℕ) (found : List PlainAddend) (tokens : List Terminal) → additive_at tokens ≡ None → addends_from term n found tokens ≡ Some (found, tokens)
  unfolding addends_from
  addends-ended zero found tokens e = refl
  addends-ended (suc n) found tokens e = rw e refl

  -- no step is left
  pub addends-spent : (n : ℕ) (found : List PlainAddend) (tokens : List Terminal) → n ≡ 0 → addends_from term n found tokens ≡ Some (found, tokens)
  unfolding addends_from
  addends-spent n found tokens e = rw e refl

  -- no piece is behind the sign
  pub addends-refused : (n : ℕ) (found : List PlainAddend) (tokens behind : List Terminal) (minus : Bool) → 0 < n → additive_at tokens ≡ Some (minus, behind)
      → piece_by term behind ≡ None → addends_from term n found tokens ≡ None
  unfolding addends_from
  addends-refused zero found tokens behind minus some e f = absurd (omega (arith, some))
  addends-refused (suc n) found tokens behind minus some e f = rw (e, f) refl

  -- a piece is
  pub addends-more : (n : ℕ) (found : List PlainAddend) (tokens behind rest : List Terminal) (minus : Bool) (piece : PlainPiece) → 0 < n
      → additive_at tokens ≡ Some (minus, behind) → piece_by term behind ≡ Some (piece, rest)
      → addends_from term n found tokens ≡ addends_from term (n - 1) (found ++ (minus, piece) ∷ []) rest
  unfolding addends_from
  addends-more zero found tokens behind rest minus piece some e f = absurd (omega (arith, some))
  addends-more (suc n) found tokens behind rest minus piece some e f =
      rw (e, f) (ap (λ m. addends_from term m (found ++ (minus, piece) ∷ []) rest) (omega arith))

  -- the same of what the code holds
  pub addends-continued : (whole : Option (List PlainAddend × List Terminal)) (n less : ℕ) (items pushed : List Addend) (addend : Addend) (tokens behind rest : List Terminal)
      → whole ≡ addends_from term n (map plain_addend items) tokens → 0 < n → less ≡ n - 1 → pushed ≡ items ++ addend ∷ []
      → additive_at tokens ≡ Some (addend.minus, behind) → piece_by term behind ≡ Some (plain_piece addend.piece, rest)
      → whole ≡ addends_from term less (map plain_addend pushed) rest
  addends-continued whole n less items pushed addend tokens behind rest so_far some is_less is_pushed e f =
      so_far
      ∙ addends-more n (map plain_addend items) tokens behind rest addend.minus (plain_piece addend.piece) some e f
      ∙ rw (is_pushed, map-append, is_less)
