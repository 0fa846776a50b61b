-- Room that was made stays where lists grow.
use Rattle.std.proofs.Common.{◌≡◌, ◌≤◌, ◌+◌, ℕ, List, length, slice_index_or, arith, subst, sym, Vec}
use Rattle.cc_sorts.specs.Lists.{lists_of, capacities_of, list_at, HasRoom}

pub room_kept : {Z : Type 0} (old new : List (Vec ℕ Z)) (more to_move later number : ℕ) → lists_of new ≡ lists_of old →
    slice_index_or (capacities_of old) number 0 ≤ slice_index_or (capacities_of new) number 0 → to_move ≤ later → HasRoom old more to_move number → HasRoom new more later number
room_kept old new more to_move later number same grown moved room =
    subst (λ (lists : List (List ℕ)). (length (list_at lists number) + more ≤ slice_index_or (capacities_of new) number 0) × (length (list_at lists number) ≤ later)) (sym same) (omega (arith, room.0), omega (arith, room.1))
