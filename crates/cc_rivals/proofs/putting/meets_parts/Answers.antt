use Rattle.cc_rivals.proofs.putting.meets_parts.Goals as goal

pub is_part_true-requires : goal.is_part_true-requires
is_part_true-requires c = (c.requires.0, c.requires.1, c.requires.2.after)
