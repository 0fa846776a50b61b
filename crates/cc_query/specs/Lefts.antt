-- How much may still come of a session: a number that each event lowers.
use Rattle.std.specs.Prelude.{ℕ, ◌+◌, ◌-◌, ◌*◌}
use Rattle.cc_defs.specs.Limits.{most_histories}
use Rattle.cc_kernel.specs.Kernels.{derived_count}
use Rattle.cc_lists.specs.Horizons.{last_at}
use Rattle.cc_query.specs.declared.phase.Part.{Part}
use Rattle.cc_query.specs.declared.phase.Part.TheVariants as parts
use Rattle.cc_query.specs.declared.phase.Phase.{Phase}
use Rattle.cc_query.specs.declared.phase.Phase.TheVariants as phases
use Rattle.cc_query.specs.Sessions.{SessionView}

-- Of a section: each derived clause takes one, each history and its denial two.
abbrev pub left_in_section : (derived listed : ℕ) → ℕ
left_in_section derived listed = (2000000 - derived) + 2 * (most_histories - listed)

-- behind a section: that on the claim comes behind that on the conditions
abbrev pub left_behind : Part → ℕ
left_behind parts.Histories = 0
left_behind parts.Conditions = 202000005
left_behind parts.Claim = 0

-- of a horizon
abbrev pub left_at : Phase → ℕ
left_at (phases.Opening part) = 202000005 + left_behind part
left_at (phases.Searching part solver listed) = 4 + left_behind part + left_in_section (derived_count solver.kernel.entries) listed
left_at (phases.Denying solver listed) = 5 + left_in_section (derived_count solver.kernel.entries) listed
left_at (phases.Refuted part listed) = 3 + left_behind part
left_at (phases.Closed part word listed) = 2 + left_behind part
left_at phases.Failing = 1
left_at phases.Ended = 0

-- of all horizons
abbrev pub left_of : SessionView → ℕ
left_of session = 500000000 * (last_at session.query session.ask.after + 1 - session.horizon) + left_at session.phase
