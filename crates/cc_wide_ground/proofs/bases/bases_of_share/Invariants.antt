use Rattle.std.proofs.Common.{◌≡◌, ◌++◌, drop, map}
use Rattle.cc_defs.specs.Resolved.{plain_base_law}
use Rattle.cc_wide.specs.WideLaws.{plain_wide_base}
use Rattle.cc_wide_ground.specs.Shares.{base_by}
use Rattle.cc_wide_ground.proofs.bases.bases_of_share.Given as goal

abbrev pub invariant-loop-law : goal.invariant-loop-law
invariant-loop-law l =
    map plain_base_law l.made.items ++ map (base_by l.share) (map plain_wide_base (drop l.law-index l.laws))
    ≡ map (base_by l.share) (map plain_wide_base l.laws)
