-- A kind of log for tests: headings of one digit, over clauses that no row meets.
use Rattle.std.specs.Prelude.{◌≡◌, ℕ, ◌+◌, ◌<◌, ◌≤◌, ◌==◌, Bool, false, [], ◌∷◌, ◌++◌, codes, Some, None}
use Rattle.cc_check.specs.Silent.{SilentSubject}
use Rattle.cc_defs.specs.declared.lists.Key.{Key}
use Rattle.cc_defs.specs.Description.{Description}
use Rattle.cc_defs.specs.Resolved.{Query}
use Rattle.cc_defs.specs.Sections.{Axioms}
use Rattle.cc_form.specs.Forms.{form_of}

-- a description without constants and laws, and a query that asks nothing of it
abbrev pub no_description : Description
no_description = record { objects = []; universe = record { sorts = []; numbers = []; symbols = []; fluents = []; actions = [] }; laws = [] }

abbrev pub no_question : Query
no_question = record { label = None; range = Some (0, 0); conditions = []; claim = None; file = 0; line = 0 }

-- its only row, which is empty
abbrev pub only_row : Key
only_row = record { horizon = 0; row = [] }

-- a row is to lie behind the only one
abbrev pub axioms_behind : Axioms
axioms_behind = form_of no_description no_question 0 false (Some only_row)

-- A heading is a digit and a line feed, and right below 9, wherever it stands; behind 8 nothing may stand.
abbrev pub digits : (may_stay_open : Bool) → SilentSubject ℕ
digits may_stay_open = record {
  header = codes "digits" ++ 10 ∷ [];
  Reads = λ text digit. (digit ≤ 9) × (text ≡ (48 + digit) ∷ 10 ∷ []);
  Right = λ before digit. digit < 9;
  closes = λ digit. digit == 8;
  may_stay_open = may_stay_open;
  axioms = λ digit. axioms_behind;
  limit = λ digit. None;
}
