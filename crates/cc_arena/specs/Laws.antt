-- What ground laws and queries are, and what they mean where the values of each constant are different.
use Rattle.std.specs.Prelude.{◌≡◌, ℕ, List, Some, is_some}
use Rattle.cc_arena.specs.Meanings.{Means, MeansHead, MeansQuery, MeanLaws}
use Rattle.cc_defs.specs.declared.node.GroundHead.{GroundHead}
use Rattle.cc_defs.specs.Conditions.{AreGroundLaws, HaveTheirKinds, HaveTheirValues, IsFluentTerm, IsGroundQuery}
use Rattle.cc_defs.specs.Forms.{HaveForms, IsFluentFormula}
use Rattle.cc_defs.specs.GroundLaws.{ground_head, ground_laws, ground_query}
use Rattle.cc_defs.specs.Nodes.{nodes_of}
use Rattle.cc_defs.specs.Resolved.{Formula, Head, BaseLaw, Query}
use Rattle.cc_defs.specs.Satisfaction.{Environment, head_is_there}
use Rattle.cc_defs.specs.Universe.{Universe, HaveOwnValues}

-- ---- what they mean

abbrev pub TermsMeanFormulas : Type 0
TermsMeanFormulas = (u : Universe) → HaveOwnValues u → (env : Environment) (formula : Formula) → Means u env formula (nodes_of u env formula)

abbrev pub HeadsMeanHeads : Type 0
HeadsMeanHeads =
    (u : Universe) → HaveOwnValues u → (env : Environment) (head : Head) (found : GroundHead) → ground_head u env head ≡ Some found → MeansHead u env head found

-- A head is there exactly where it has a ground head.
abbrev pub HeadsThereAreGround : Type 0
HeadsThereAreGround = (u : Universe) (env : Environment) (head : Head) → head_is_there u env head ≡ is_some (ground_head u env head)

abbrev pub GroundLawsMeanLaws : Type 0
GroundLawsMeanLaws = (u : Universe) → HaveOwnValues u → (laws : List BaseLaw) → MeanLaws u laws (ground_laws u laws)

abbrev pub GroundQueriesMeanQueries : Type 0
GroundQueriesMeanQueries = (u : Universe) → HaveOwnValues u → (range : ℕ × ℕ) (query : Query) → MeansQuery u query (ground_query u range query)

-- ---- what they are

-- A fluent formula has a term of fluents.
abbrev pub FluentTermsFit : Type 0
FluentTermsFit =
    (u : Universe) → HaveTheirKinds u → (env : Environment) (formula : Formula) → IsFluentFormula u.symbols formula → IsFluentTerm u (nodes_of u env formula)

-- The ground laws of base laws that have the forms of their kinds have them too.
abbrev pub GroundLawsFit : Type 0
GroundLawsFit = (u : Universe) → HaveTheirKinds u → HaveTheirValues u → (laws : List BaseLaw) → HaveForms u.symbols laws → AreGroundLaws u (ground_laws u laws)

abbrev pub GroundQueriesFit : Type 0
GroundQueriesFit = (u : Universe) → (range : ℕ × ℕ) (query : Query) → IsGroundQuery u (ground_query u range query)
