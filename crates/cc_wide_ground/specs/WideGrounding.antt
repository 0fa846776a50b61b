-- The base laws by which laws with heads of any form are grounded, and the limits of grounding.
use Rattle.std.specs.Prelude.{ℕ, ◌+◌, nat_lt, if◌then◌else◌, List, [], ◌∷◌, length, map, Option, Some, None}
use Rattle.std.specs.Option.{option_or}
use Rattle.cc_defs.specs.declared.refusal.LimitAt.TheVariants as limits
use Rattle.cc_defs.specs.declared.refusal.Refusal.{Refusal}
use Rattle.cc_defs.specs.Limits.{limit_number}
use Rattle.cc_defs.specs.Refusals.{past}
use Rattle.cc_defs.specs.Resolved.{BaseLaw, Law}
use Rattle.cc_defs.specs.Resolved as resolved
use Rattle.cc_defs.specs.Universe.{Universe}
use Rattle.cc_ground.specs.Counting.{choice_refusal, choices_of_all, instances_of_all, length_of_part, node_refusal}
use Rattle.cc_wide.specs.WideGrounds.{PlainWideGround, wide_ground_of}
use Rattle.cc_wide.specs.WideLaws.{WideBase, One, NoConcurrency, WideLaw, frame_base, frame_law}
use Rattle.cc_wide.specs.WideRules.{wide_instances_from}

-- A law with the same instances, whose `if` part is the head.
abbrev pub head_law : WideLaw → Law
head_law law = record (frame_law law) { body = law.head; after = None }

abbrev pub head_base : WideBase → BaseLaw
head_base (One law) = resolved.One (head_law law)
head_base (NoConcurrency file line) = resolved.NoConcurrency file line

-- The nodes of the terms of laws: those of their heads beside those of their parts.
abbrev pub wide_nodes_in : List PlainWideGround → ℕ
wide_nodes_in [] = 0
wide_nodes_in (law ∷ laws) = length law.head + length law.body + length_of_part law.after + wide_nodes_in laws

-- too many instances, then too many lists of values, of the parts and of the heads together
abbrev pub counts_refusal : Universe → (frames heads : List BaseLaw) → Option Refusal
counts_refusal u frames heads =
    if nat_lt (limit_number limits.LawInstances) (instances_of_all u frames) then Some (past limits.LawInstances)
    else choice_refusal (choices_of_all u frames + choices_of_all u heads)

-- The refusal of laws with heads of any form, as that of base laws: too many instances, then too many lists of values, then too many
-- nodes, where each head counts beside the parts of its law.
abbrev pub wide_laws_refusal : Universe → List WideBase → Option Refusal
wide_laws_refusal u laws = option_or (counts_refusal u (map frame_base laws) (map head_base laws))
    (node_refusal (wide_nodes_in (map (wide_ground_of u) (wide_instances_from u 0 laws))))
