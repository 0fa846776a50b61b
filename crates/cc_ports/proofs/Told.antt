-- What the calls of a desk make of what it told before them.
use Rattle.std.proofs.Common.{◌≡◌, ◌≢◌, ◌∙◌, ◌<◌, ◌-◌, Bool, true, false, ℕ, ◌+◌, ◌≤◌, List, [], ◌++◌, take, drop, Option, Some, None, option_map, unwrap_or, IfSome, IsSome, OnErr, Result, Ok, Err, refl, sym, ap, length, arith, append_assoc, append-nil, length-append, true≢false}
use Rattle.std.proofs.lemmas.List.{length-take, length-drop, take-append-drop, take-take}
use Rattle.std.proofs.Math.Seq.{take-add}
use Rattle.cc_ports.specs.Contents.{Contents, kept_behind, with_rest, content_of, after_read, ReadsFrom, appended, after_give, IsPrefix}
use Rattle.cc_ports.specs.declared.desk.Failed.{Failed}
use Rattle.cc_ports.specs.declared.desk.To.{To}
use Rattle.cc_ports.specs.declared.desk.To.TheVariants as outputs

there : (file : Option (List ℕ)) → IsSome file → file ≡ Some (unwrap_or file [])
there None h = absurd (true≢false (sym h))
there (Some bytes) h = refl

-- after the file was opened, nothing of it is read
pub opened : (name bytes : List ℕ) (old now : Option Contents) → bytes ≡ []
    → now ≡ option_map (λ c. with_rest (content_of c name) c) old → IfSome old (λ c. IsSome (c.files name))
    → (rest : List ℕ) × (now ≡ option_map (with_rest rest) old) × IfSome old (λ c. c.files name ≡ Some (bytes ++ rest))
opened name bytes None now none e h = ([], e, tt)
opened name bytes (Some c) now none e h = rw none (content_of c name, e, there (c.files name) h)

-- a read takes a front of the rest
pub was_read : (name bytes more buffer : List ℕ) (n : ℕ) (old now new : Option Contents)
    → ((rest : List ℕ) × (now ≡ option_map (with_rest rest) old) × IfSome old (λ c. c.files name ≡ Some (bytes ++ rest)))
    → new ≡ option_map (after_read (Ok n)) now → IfSome now (λ c. ReadsFrom c.rest n buffer)
    → more ≡ bytes ++ take n buffer
    → (rest : List ℕ) × (new ≡ option_map (with_rest rest) old) × IfSome old (λ c. c.files name ≡ Some (more ++ rest))
was_read name bytes more buffer n None now new s e h joined = ([], rw (e, s.1) refl, tt)
was_read name bytes more buffer n (Some c) now new s e h joined =
    let reads = rw s.1 at h in
    (drop n s.0, rw (e, s.1) refl, rw (joined, reads.front, append_assoc, take-append-drop) s.2)

kept_twice : (keeps : Bool) (log a b : List ℕ) → kept_behind keeps (kept_behind keeps log a) b ≡ kept_behind keeps log (a ++ b)
kept_twice true log a b = append_assoc log a b
kept_twice false log a b = refl

-- a give appends a front of what was left to give
pub was_given : (to : To) (bytes : List ℕ) (given most n : ℕ) (old now new : Option Contents) → n ≤ most
    → now ≡ option_map (appended to (take given bytes)) old
    → new ≡ option_map (after_give to (Ok n) (take most (drop given bytes))) now
    → new ≡ option_map (appended to (take (given + n) bytes)) old
was_given to bytes given most n None now new within s e = rw (e, s) refl
was_given outputs.Out bytes given most n (Some c) now new within s e = rw (e, s, take-add, append_assoc, take-take n most (drop given bytes) within) refl
was_given outputs.Err bytes given most n (Some c) now new within s e = rw (e, s, take-add, append_assoc, take-take n most (drop given bytes) within) refl
was_given outputs.Log bytes given most n (Some c) now new within s e = rw (e, s, take-add, kept_twice, take-take n most (drop given bytes) within) refl

-- a give that fails appends nothing
pub was_kept : (result : Result (Unit {0}) Failed) (to : To) (bytes : List ℕ) (given most : ℕ) (old now new : Option Contents)
    (failed : Failed) → now ≡ option_map (appended to (take given bytes)) old
    → new ≡ option_map (after_give to (Err failed) (take most (drop given bytes))) now
    → OnErr result ((front : List ℕ) × IsPrefix front bytes × (new ≡ option_map (appended to front) old))
was_kept (Ok done) to bytes given most old now new failed s e = tt
was_kept (Err again) to bytes given most None now new failed s e =
    (take given bytes, (drop given bytes, sym (take-append-drop given bytes)), rw (e, s) refl)
was_kept (Err again) to bytes given most (Some c) now new failed s e =
    (take given bytes, (drop given bytes, sym (take-append-drop given bytes)), rw (e, s) refl)

-- ---- the end of a file

pub at_end : (name bytes got buffer : List ℕ) (n : ℕ) (old now : Option Contents)
    → ((rest : List ℕ) × (now ≡ option_map (with_rest rest) old) × IfSome old (λ c. c.files name ≡ Some (bytes ++ rest)))
    → IfSome now (λ c. ReadsFrom c.rest n buffer) → n ≡ 0 → got ≡ bytes → IfSome old (λ c. c.files name ≡ Some got)
at_end name bytes got buffer n None now s h none is = tt
at_end name bytes got buffer n (Some c) now s h none is =
    let reads = rw s.1 at h in
    s.2 ∙ ap (λ (l : List ℕ). Some (bytes ++ l)) (reads.end none) ∙ ap Some (append-nil bytes ∙ sym is)

pub past_limit : (name bytes : List ℕ) (most : ℕ) (old now : Option Contents)
    → ((rest : List ℕ) × (now ≡ option_map (with_rest rest) old) × IfSome old (λ c. c.files name ≡ Some (bytes ++ rest)))
    → most < length bytes → IfSome old (λ c. (whole : List ℕ) × (c.files name ≡ Some whole) × (most < length whole))
past_limit name bytes most None now s less = tt
past_limit name bytes most (Some c) now s less = (bytes ++ s.0, s.2, omega (arith, length-append bytes s.0, less))

-- ---- the bytes of a turn

pub taken_long : (n : ℕ) (bytes piece buffer : List ℕ) → n ≤ length piece → length buffer ≡ length piece → length (bytes ++ take n buffer) ≡ length bytes + n
taken_long n bytes piece buffer within same = omega (arith, length-append bytes (take n buffer), length-take n buffer, within, same)

pub turn_within : (n most have now : ℕ) (piece buffer : List ℕ) → n ≤ length piece → length buffer ≡ length piece → n ≤ most - have → have ≤ most → now ≡ have + length (take n buffer) → now ≤ most
turn_within n most have now piece buffer within same few so is = omega (arith, length-take n buffer, within, same, few, so, is)

pub turn_smaller : (n most have now : ℕ) (piece buffer : List ℕ) → n ≤ length piece → length buffer ≡ length piece → n ≤ most - have → n ≢ 0 → now ≡ have + length (take n buffer) → most - now < most - have
turn_smaller n most have now piece buffer within same few some is = omega (arith, length-take n buffer, within, same, few, some, is)

pub turn_more : (n have now : ℕ) (piece buffer : List ℕ) → n ≤ length piece → length buffer ≡ length piece → n ≢ 0 → now ≡ have + length (take n buffer) → have + 1 ≤ now
turn_more n have now piece buffer within same some is = omega (arith, length-take n buffer, within, same, some, is)

pub passed_limit : (n most have : ℕ) (bytes piece buffer : List ℕ) → n ≤ length piece → length buffer ≡ length piece → have ≡ length bytes → most - have < n → most < length (bytes ++ take n buffer)
passed_limit n most have bytes piece buffer within same is more = omega (arith, taken_long n bytes piece buffer within same, is, more)

pub still_below : (a b c : ℕ) → a ≤ b → b ≤ c → a ≤ c
still_below a b c one other = omega arith

pub no_stop : {X E : Type 0} (x : X) (e : E) → Ok x ≡ Err e → ⊥
no_stop x e wrong = cc

pub at_most_so : (a b : ℕ) → a ≡ b → a ≤ b
at_most_so a b same = omega arith

pub none_within : (n most : ℕ) → n ≡ 0 → n ≤ most
none_within n most none = omega arith

pub piece_within : (bytes : List ℕ) (given n : ℕ) → n ≤ length (take (length bytes - given) (drop given bytes)) → n ≤ length bytes - given
piece_within bytes given n few = omega (arith, length-take (length bytes - given) (drop given bytes), length-drop given bytes, few)

pub given_within : (whole given n : ℕ) → given ≤ whole → n ≤ whole - given → given + n ≤ whole
given_within whole given n before few = omega (arith, before, few)

pub taken_is : (n : ℕ) (piece buffer : List ℕ) → n ≤ length piece → length buffer ≡ length piece → n ≡ length (take n buffer)
taken_is n piece buffer within same = omega (arith, length-take n buffer, within, same)
