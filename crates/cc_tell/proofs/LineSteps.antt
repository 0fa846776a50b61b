-- A text that is given to one output line by line.
use Rattle.std.proofs.Common.{◌≡◌, ℕ, List, [], ◌∷◌, ◌++◌, length, Result, Ok, Err, refl, sym, ap, subst, ◌∙◌, append_assoc, append-nil}
use Rattle.std.specs.Prelude.{IsErrAnd}
use Rattle.cc_ports.specs.declared.desk.To.{To}
use Rattle.cc_ports.specs.declared.desk.To.TheVariants as outputs
use Rattle.cc_ports.specs.Moments.{Moment}
use Rattle.cc_tell.specs.declared.status.Stop.{Stop}
use Rattle.cc_tell.specs.Steps.{Moves, Step}
use Rattle.cc_tell.specs.Givens.{given_to, nothing}
use Rattle.cc_tell.proofs.GivenSteps.{cut_one, then_one, given_all, moves_as, moves_none, step_again, step_done, step_of}

-- a front of the text was given, and this is left
pub record LinesSoFar (to : To) (text left : List ℕ) (old new : Moment) : Type 0 where
  pub front : List ℕ
  pub whole : text ≡ front ++ left
  pub moves : Moves {X = Unit {0}} (given_to to front) old new (Ok tt)

pub lines_begin : (to : To) (text left : List ℕ) (m : Moment) → left ≡ text → LinesSoFar to text left m m
lines_begin to text left m is = record { front = []; whole = sym is; moves = moves_as nothing (given_to to []) m m (Ok tt) (given_none to) (moves_none m tt) }
  where
    given_none : (to : To) → nothing ≡ given_to to []
    given_none outputs.Out = refl
    given_none outputs.Err = refl
    given_none outputs.Log = refl

module _ (to : To) (text left : List ℕ) (x y : Moment) (so_far : LinesSoFar to text left x y) where
  pub lines_end : {X : Type 0} (v : X) → length left ≡ 0 → Step (given_to to text) x y (Ok v)
  lines_end {X = X} v none = step_done (given_to to text) x y (Ok tt) tt v given refl
    where
      empty : (bytes : List ℕ) → length bytes ≡ 0 → bytes ≡ []
      empty [] is = refl
      empty (byte ∷ bytes) is = absurd cc

      given : Step {X = Unit {0}} (given_to to text) x y (Ok tt)
      given = subst (λ (bytes : List ℕ). Step {X = Unit {0}} (given_to to bytes) x y (Ok tt))
          (sym (so_far.whole ∙ (ap (λ (bytes : List ℕ). so_far.front ++ bytes) (empty left none) ∙ append-nil so_far.front)))
          (step_of (given_to to so_far.front) x y tt so_far.moves)

  module _ (line rest : List ℕ) (is : left ≡ line ++ rest) (z : Moment) where
    split : (so_far.front ++ line) ++ rest ≡ text
    split = append_assoc so_far.front line rest ∙ (ap (λ (bytes : List ℕ). so_far.front ++ bytes) (sym is) ∙ sym so_far.whole)

    front_given : Step {X = Unit {0}} (given_to to so_far.front) x y (Ok tt)
    front_given = step_of (given_to to so_far.front) x y tt so_far.moves

    pub lines_more : {X : Type 0} (r : Result X Stop) (v : X) → Step (given_to to line) y z r → r ≡ Ok v → LinesSoFar to text rest x z
    lines_more r v step was = record {
      front = so_far.front ++ line;
      whole = sym split;
      moves = given_all (given_to to (so_far.front ++ line)) x z tt
          (then_one to so_far.front line x y z (Ok tt) tt (Ok tt) front_given refl (step_done (given_to to line) y z r v tt step was));
    }

    pub lines_stop : {X Y : Type 0} (r : Result X Stop) (e : Stop) (s : Result Y Stop) → Step (given_to to line) y z r → r ≡ Err e →
        IsErrAnd s (λ d. d ≡ e) → Step (given_to to text) x z s
    lines_stop r e s step was same =
        subst (λ (bytes : List ℕ). Step (given_to to bytes) x z s) split
        (cut_one to (so_far.front ++ line) rest x z s e s
        (then_one to so_far.front line x y z (Ok tt) tt s front_given refl (step_again (given_to to line) y z r e s step was same)) (err_is s e same) same)
      where
        err_is : {Y : Type 0} (s : Result Y Stop) (e : Stop) → IsErrAnd s (λ d. d ≡ e) → s ≡ Err e
        err_is (Ok v) e h = absurd h
        err_is (Err d) e h = ap Err h
