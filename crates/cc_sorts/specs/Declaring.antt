-- The declarations of a statement as the code holds them, in plain form.
use Rattle.std.specs.Prelude.{◌≡◌, ℕ, List, [], ◌∷◌, map, flat_map}
use Rattle.cc_defs.specs.Declarations.{Declaration, Sort, Link, Subsort, Object, Span, Number, Variable, Constant, Kinds, declarations_of, from_to}
use Rattle.cc_defs.specs.Trees.{PlainPart, PlainStatement, plain_shape, plain_kind}
use Rattle.cc_sorts.specs.declared.declaration.Declaration as declarations
use Rattle.cc_sorts.specs.declared.declaration.Declaration.TheVariants as declared

-- the declaration that an entry stands for, in a statement that begins in this line of this file: a range by its ends
abbrev pub plain_head : ℕ → ℕ → declarations.Declaration → Declaration
plain_head file line (declared.Sort name) = Sort name.now
plain_head file line (declared.Object name sort) = Object name.now sort.now
plain_head file line (declared.Numbers low high sort) = Span low high sort.now
plain_head file line (declared.Link name) = Link name.now
plain_head file line (declared.Subsort upper lower) = Subsort upper.now lower.now
plain_head file line (declared.Variable name sort) = Variable name.now sort.now
plain_head file line (declared.Constant shape kind) = Constant (plain_shape shape.now) (plain_kind kind.now) file line
plain_head file line (declared.Kinds shapes kind) = Kinds (map plain_shape shapes.now) (plain_kind kind.now)

abbrev pub numbers_of : List ℕ → List ℕ → List Declaration
numbers_of sort numbers = map (λ value. Number value sort) numbers

-- what stands behind it: the numbers of a range, one by one
abbrev pub plain_behind : declarations.Declaration → List Declaration
plain_behind (declared.Numbers low high sort) = numbers_of sort.now (from_to low high)
plain_behind declaration = []

abbrev pub plain_declaration : ℕ → ℕ → declarations.Declaration → List Declaration
plain_declaration file line declaration = plain_head file line declaration ∷ plain_behind declaration

abbrev pub plain_declarations : ℕ → ℕ → List declarations.Declaration → List Declaration
plain_declarations file line declarations = flat_map (plain_declaration file line) declarations

abbrev pub statement_of : ℕ → PlainPart → PlainStatement
statement_of line part = record { part = part; line = line }

-- they are those of this part of a statement that begins in this line of this file
abbrev pub AreOfPart : ℕ → ℕ → PlainPart → List declarations.Declaration → Type 0
AreOfPart file line part declarations = plain_declarations file line declarations ≡ declarations_of file (statement_of line part)
