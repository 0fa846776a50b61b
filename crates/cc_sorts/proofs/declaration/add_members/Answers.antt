use Rattle.std.proofs.Common.{◌<◌, [], length, get_or, arith}
use Rattle.std.proofs.lemmas.List.{get_or_default}
use Rattle.cc_defs.specs.Declarations.{member_declarations}
use Rattle.cc_defs.specs.Trees.{plain_member}
use Rattle.cc_defs.specs.declared.tree.Member.TheVariants as members
use Rattle.cc_sorts.specs.Declaring.{plain_declarations}
use Rattle.cc_sorts.proofs.Adding.{parts-more, parts-all}
use Rattle.cc_sorts.proofs.declaration.add_members.Goals as goal

pub loop-member-preserved : goal.loop-member-preserved
loop-member-preserved c = λ file line.
    let within : c.loop-member.member-index < length c.args.members.now = omega (arith, c.loop-member-test.true) in
    let member = get_or c.args.members.now c.loop-member.member-index (members.Name (record { ref_ptr = (0, 0); now = [] })) in
    parts-more (member_declarations c.args.sort.now) plain_member (plain_declarations file line c.args.found.now.items) _ _ c.args.members.now c.loop-member.member-index member within
    (get_or_default c.args.members.now c.loop-member.member-index _ member within) (c.in_ok-add_member.ensures file line) (c.loop-member.invariant file line)

pub returns : goal.returns
returns c = λ file line.
    parts-all (member_declarations c.args.sort.now) plain_member (plain_declarations file line c.args.found.now.items) _ c.args.members.now c.loop-member.member-index
    c.loop-member-test.false (c.loop-member.invariant file line)
