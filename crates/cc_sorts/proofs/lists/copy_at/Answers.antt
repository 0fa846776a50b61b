use Rattle.std.proofs.Common.{◌∙◌, sym}
use Rattle.cc_sorts.proofs.Vectors.{list_here}
use Rattle.cc_sorts.proofs.lists.copy_at.Goals as goal

pub returns : goal.returns
returns c = c.in_ok-from_slice.ensures.items ∙ c.deref.ensures.value ∙ sym (list_here c.args.lists.now c.args.number c.index-lists-number.result c.index-lists-number.result c.requires c.index-lists-number.is)
