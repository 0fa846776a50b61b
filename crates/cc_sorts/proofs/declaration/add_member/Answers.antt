use Rattle.std.proofs.Common.{◌∙◌, ◌++◌, ap, sym}
use Rattle.cc_defs.specs.Declarations.{member_declarations}
use Rattle.cc_defs.specs.Trees.{plain_member}
use Rattle.cc_sorts.specs.Declaring.{plain_declaration, plain_declarations}
use Rattle.cc_sorts.proofs.Adding.{pushed-last}
use Rattle.cc_sorts.proofs.declaration.add_member.Goals as goal
