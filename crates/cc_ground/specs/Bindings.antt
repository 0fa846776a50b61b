-- What variables stand for while formulas are walked.
use Rattle.std.specs.Prelude.{ℕ, List, [], ◌∷◌, ◌++◌}
use Rattle.cc_defs.specs.Satisfaction.{Environment, giving, bind}

pub record BindingsView : Type 0 where
  -- of the variables of a law, by number
  pub values : List ℕ
  -- of the brackets around, the innermost last: a variable, and the object that it stands for
  pub bound : List (ℕ × ℕ)

abbrev pub no_bindings : BindingsView
no_bindings = record { values = []; bound = [] }

-- an environment under brackets, the outermost first
abbrev pub bound_over : List (ℕ × ℕ) → Environment → Environment
bound_over [] env = env
bound_over (pair ∷ pairs) env = bound_over pairs (bind pair.0 pair.1 env)

abbrev pub environment_of : BindingsView → Environment
environment_of bindings = bound_over bindings.bound (giving bindings.values)

abbrev pub with_value : ℕ → BindingsView → BindingsView
with_value value bindings = record bindings { values = bindings.values ++ value ∷ [] }

abbrev pub with_bound : ℕ → ℕ → BindingsView → BindingsView
with_bound variable object bindings = record bindings { bound = bindings.bound ++ (variable, object) ∷ [] }
