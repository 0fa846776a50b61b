use Rattle.std.proofs.Common.{◌≡◌, ℕ, ◌++◌, map, flat_map, take}
use Rattle.cc_defs.specs.Declarations.{member_declarations}
use Rattle.cc_defs.specs.Trees.{plain_member}
use Rattle.cc_sorts.specs.Declaring.{plain_declarations}
use Rattle.cc_sorts.proofs.declaration.add_members.Given as goal

abbrev pub invariant-loop-member : goal.invariant-loop-member
invariant-loop-member l = (file line : ℕ) →
    plain_declarations file line l.found.items ≡ plain_declarations file line l.initial.found.items ++ flat_map (member_declarations l.sort) (map plain_member (take l.member-index l.members))
