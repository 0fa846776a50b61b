use Rattle.std.proofs.Common.{◌∙◌, Bool, ap, map, sym}
use Rattle.std.specs.Prelude.{if◌then◌else◌}
use Rattle.cc_defs.specs.Resolved.{Atom, Falsity, Head, plain_term}
use Rattle.cc_wide_ground.proofs.Copied.{two}
use Rattle.cc_wide_ground.proofs.bases.head_of_constant.Goals as goal

pub returns : goal.returns
returns c =
    two (Atom c.args.symbol) (ap (map plain_term) c.of.ensures ∙ c.in_ok-args.ensures) c.in_ok-value.ensures
    ∙ ap (λ (b : Bool). let head : Head = if b then Atom c.args.symbol (map plain_term c.args.args.now) (plain_term c.args.value.now) else Falsity in head) (sym c.if-not-is_free.false ∙ c.is_free.ensures)
