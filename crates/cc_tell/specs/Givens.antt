-- What is given to the three outputs, and fronts of it.
use Rattle.std.specs.Prelude.{ℕ, List, [], ◌++◌}
use Rattle.cc_ports.specs.declared.desk.To.{To}
use Rattle.cc_ports.specs.declared.desk.To.TheVariants as outputs
use Rattle.cc_ports.specs.Contents.{IsPrefix, Contents, kept_behind}

-- what is given to the three outputs
pub record Given : Type 0 where
  pub out : List ℕ
  pub err : List ℕ
  pub log : List ℕ

abbrev pub nothing : Given
nothing = record { out = []; err = []; log = [] }

abbrev pub only_err : List ℕ → Given
only_err text = record nothing { err = text }

abbrev pub only_out : List ℕ → Given
only_out text = record nothing { out = text }

abbrev pub only_log : List ℕ → Given
only_log text = record nothing { log = text }

-- one after the other
abbrev pub joined : Given → Given → Given
joined a b = record { out = a.out ++ b.out; err = a.err ++ b.err; log = a.log ++ b.log }

-- a front of each of them
pub record AreFronts (given whole : Given) : Type 0 where
  pub out : IsPrefix given.out whole.out
  pub err : IsPrefix given.err whole.err
  pub log : IsPrefix given.log whole.log

-- behind what is there
abbrev pub adding : Given → Contents → Contents
adding given c = record c { out = c.out ++ given.out; err = c.err ++ given.err; log = kept_behind c.keeps c.log given.log }

-- bytes for one output
abbrev pub given_to : To → List ℕ → Given
given_to outputs.Out bytes = record nothing { out = bytes }
given_to outputs.Err bytes = record nothing { err = bytes }
given_to outputs.Log bytes = record nothing { log = bytes }
