-- The description that declarations and base laws make, and what is refused of a query of it.
use Rattle.std.specs.Prelude.{◌≡◌, ℕ, List, map, Option, Some, None}
use Rattle.cc_defs.specs.declared.refusal.Refusal.{Refusal}
use Rattle.cc_defs.specs.Declarations.{Declaration, objects}
use Rattle.cc_defs.specs.Description.{Description}
use Rattle.cc_defs.specs.Resolved.{BaseLaw, Query, plain_base_law}
use Rattle.cc_defs.specs.Universe.{universe}
use Rattle.cc_describe.specs.declared.description.Described.{Described}
use Rattle.cc_describe.specs.declared.description.DescribedWide.{DescribedWide}
use Rattle.cc_ground.specs.Counting.{query_refusal}
use Rattle.cc_sorts.specs.Tables.{IsTable, IsSignatureOf}
use Rattle.cc_wide.specs.WideLaws.{WideBase, WideDescription, plain_wide_base}

abbrev pub description_of : List Declaration → List BaseLaw → Description
description_of declarations laws = record { objects = map (λ named. named.0) (objects declarations); universe = universe declarations; laws = laws }

-- the description that was read: that of its declarations and its base laws
pub record IsDescriptionOf (described : Described) (d : Description) : Type 0 where
  pub declarations : List Declaration
  pub table : IsTable described.table declarations
  pub signature : IsSignatureOf declarations described.sig
  pub is : d ≡ description_of declarations (map plain_base_law described.laws)

-- the same where heads may be of any form

abbrev pub wide_description_of : List Declaration → List WideBase → WideDescription
wide_description_of declarations laws =
    record { objects = map (λ named. named.0) (objects declarations); universe = universe declarations; laws = laws }

pub record IsWideDescriptionOf (said : DescribedWide) (w : WideDescription) : Type 0 where
  pub declarations : List Declaration
  pub table : IsTable said.described.table declarations
  pub signature : IsSignatureOf declarations said.described.sig
  pub is : w ≡ wide_description_of declarations (map plain_wide_base said.wide)

-- the lists of values that a query's terms are judged by are too many, or its nodes
abbrev pub ground_refusal_of : Description → Query → Option (ℕ × ℕ) → Option Refusal
ground_refusal_of d query None = None
ground_refusal_of d query (Some range) = query_refusal d.universe range query

abbrev pub ground_refusal : Description → Query → Option Refusal
ground_refusal d query = ground_refusal_of d query query.range
