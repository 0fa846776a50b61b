-- The base law by which a share of a law is grounded: of its parts the frame, and of its head the law that has it as its `if` part.
use Rattle.cc_defs.specs.Resolved.{BaseLaw, Law}
use Rattle.cc_wide.specs.WideLaws.{WideBase, WideLaw, frame_base, frame_law}
use Rattle.cc_wide_ground.specs.declared.bases.Share.{Share}
use Rattle.cc_wide_ground.specs.declared.bases.Share.TheVariants as shares
use Rattle.cc_wide_ground.specs.WideGrounding.{head_base, head_law}

abbrev pub law_by : Share → WideLaw → Law
law_by shares.Parts law = frame_law law
law_by shares.Head law = head_law law

abbrev pub base_by : Share → WideBase → BaseLaw
base_by shares.Parts law = frame_base law
base_by shares.Head law = head_base law
