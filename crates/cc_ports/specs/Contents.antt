-- What a desk tells of its files and outputs, and what each call changes of it.
use Rattle.std.specs.Prelude.{◌≡◌, ℕ, ◌<◌, ◌≤◌, ◌⊎◌, Bool, true, false, List, [], ◌++◌, length, take, drop, Option, unwrap_or, Result, Ok, Err}
use Rattle.cc_ports.specs.declared.desk.Failed.{Failed}
use Rattle.cc_ports.specs.declared.desk.To.{To}
use Rattle.cc_ports.specs.declared.desk.To.TheVariants as outputs

-- the files by name, what is left of the file being read, what was written, and whether Log keeps what is given to it or drops it;
-- it keeps what is given to it once a log was begun
pub record Contents : Type 0 where
  pub files : List ℕ → Option (List ℕ)
  pub rest : List ℕ
  pub out : List ℕ
  pub err : List ℕ
  pub log : List ℕ
  pub keeps : Bool

abbrev pub with_rest : List ℕ → Contents → Contents
with_rest rest c = record c { rest = rest }

-- the bytes of a file; none where it is not there
abbrev pub content_of : Contents → List ℕ → List ℕ
content_of c name = unwrap_or (c.files name) []

-- after a read that gave so many bytes, or that failed
abbrev pub after_read : Result ℕ Failed → Contents → Contents
after_read (Ok n) c = record c { rest = drop n c.rest }
after_read (Err failed) c = c

-- so many bytes were read of what is left, into the front of the buffer; none only at the end
pub record ReadsFrom (rest : List ℕ) (n : ℕ) (buffer : List ℕ) : Type 0 where
  pub within : n ≤ length rest
  pub front : take n buffer ≡ take n rest
  pub end : n ≡ 0 → rest ≡ []

-- after a log was begun, which keeps what is given to it; or it was not
abbrev pub after_create : Bool → Contents → Contents
after_create true c = record c { log = []; keeps = true }
after_create false c = c

-- the same, where a log was begun since, or was not
abbrev pub keeping : Bool → Contents → Contents
keeping true c = record c { keeps = true }
keeping false c = c

-- what was written to an output
abbrev pub output_of : To → Contents → List ℕ
output_of outputs.Out c = c.out
output_of outputs.Err c = c.err
output_of outputs.Log c = c.log

-- what an output holds behind these bytes once more were given to it, where it keeps what is given to it, or drops it
abbrev pub kept_behind : Bool → List ℕ → List ℕ → List ℕ
kept_behind true bytes more = bytes ++ more
kept_behind false bytes more = bytes

-- after these bytes were given to an output
abbrev pub appended : To → List ℕ → Contents → Contents
appended outputs.Out bytes c = record c { out = c.out ++ bytes }
appended outputs.Err bytes c = record c { err = c.err ++ bytes }
appended outputs.Log bytes c = record c { log = kept_behind c.keeps c.log bytes }

-- after a give that took so many of the bytes, or that failed
abbrev pub after_give : To → Result ℕ Failed → List ℕ → Contents → Contents
after_give to (Ok n) bytes c = appended to (take n bytes) c
after_give to (Err failed) bytes c = c

-- a front of a list
abbrev pub IsPrefix : List ℕ → List ℕ → Type 0
IsPrefix front whole = (rest : List ℕ) × (whole ≡ front ++ rest)

-- A count rose: it is greater than before, or it stands at the greatest u64.
abbrev pub Rose : ℕ → ℕ → Type 0
Rose before after = (before < after) ⊎ (18446744073709551615 ≤ after)
