-- A desk with one text.
use Rattle.std.specs.Prelude.{ℕ, List, [], Option, Some, true}
use Rattle.cc_ports.specs.Contents.{Contents}

-- each name is that of a file with this text
abbrev pub each_is : List ℕ → List ℕ → Option (List ℕ)
each_is text name = Some text

-- the text, what is left of it to be read, and how often something was given or a log was to be begun
pub record Single : Type 0 where
  pub text : List ℕ
  pub rest : List ℕ
  pub write_faults : ℕ

abbrev pub contents_of : Single → Contents
contents_of desk = record { files = each_is desk.text; rest = desk.rest; out = []; err = []; log = []; keeps = true }
