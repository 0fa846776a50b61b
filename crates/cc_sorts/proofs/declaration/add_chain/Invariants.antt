use Rattle.std.proofs.Common.{◌≡◌, ℕ, map, ◌++◌, drop}
use denote.Text.{Utf8}
use denote.Shadow.{shadow}
use Rattle.cc_defs.specs.Declarations.{chain_behind}
use Rattle.cc_sorts.specs.Declaring.{plain_declarations}
use Rattle.cc_sorts.proofs.declaration.add_chain.Given as goal

abbrev pub invariant-loop-name : goal.invariant-loop-name
invariant-loop-name l = record {
  text : shadow (Utf8 l.upper);
  whole : (file line : ℕ) → plain_declarations file line l.found.items ++ chain_behind l.upper (map (λ name. name.now) (drop l.name-index l.lower))
      ≡ plain_declarations file line l.initial.found.items ++ chain_behind l.initial.upper (map (λ name. name.now) l.lower);
}
