-- Steps that give to the outputs, one after another.
use Rattle.std.proofs.Common.{◌≡◌, Bool, true, false, IfSome, ℕ, ◌≤◌, List, [], ◌++◌, Option, Some, None, Result, Ok, Err, refl, sym, ◌∙◌, ap, subst, append_assoc, append-nil, arith, inl, inr, option_map, MatchResult}
use Rattle.std.specs.Prelude.{IsErrAnd}
use Rattle.cc_ports.specs.Contents.{Contents, appended, kept_behind, IsPrefix, Rose}
use Rattle.cc_ports.specs.declared.desk.To.{To}
use Rattle.cc_ports.specs.declared.desk.To.TheVariants as outputs
use Rattle.cc_ports.specs.Moments.{Moment}
use Rattle.cc_tell.specs.declared.status.Stop.{Stop}
use Rattle.cc_tell.specs.declared.status.Stop.TheVariants as stops
use Rattle.cc_tell.specs.Givens.{Given, AreFronts, joined, nothing, adding, given_to}
use Rattle.cc_tell.specs.declared.status.Status.{Status}
use Rattle.cc_tell.specs.Steps.{Called, IsCalm, Moves, Step}
use Rattle.cc_tell.specs.StopLines.{TellsStop, cut_status, stop_line, stop_status}
use Rattle.cc_tell.proofs.Calls.{called_both, called_none}

pub joined-nothing : (a : Given) → joined a nothing ≡ a
joined-nothing a = λ i. record { out = append-nil a.out i; err = append-nil a.err i; log = append-nil a.log i }

pub kept-nothing : (keeps : Bool) (log : List ℕ) → kept_behind keeps log [] ≡ log
kept-nothing true log = append-nil log
kept-nothing false log = refl

kept_twice : (keeps : Bool) (log a b : List ℕ) → kept_behind keeps (kept_behind keeps log a) b ≡ kept_behind keeps log (a ++ b)
kept_twice true log a b = append_assoc log a b
kept_twice false log a b = refl

adding-nothing : (c : Contents) → adding nothing c ≡ c
adding-nothing c = λ i. record c { out = append-nil c.out i; err = append-nil c.err i; log = kept-nothing c.keeps c.log i }

adding_adding : (a b : Given) (c : Contents) → adding b (adding a c) ≡ adding (joined a b) c
adding_adding a b c = λ i. record c { out = append_assoc c.out a.out b.out i; err = append_assoc c.err a.err b.err i; log = kept_twice c.keeps c.log a.log b.log i }

adding_one : (to : To) (bytes : List ℕ) (c : Contents) → appended to bytes c ≡ adding (given_to to bytes) c
adding_one outputs.Out bytes c = λ i. record c { out = c.out ++ bytes; err = sym (append-nil c.err) i; log = sym (kept-nothing c.keeps c.log) i }
adding_one outputs.Err bytes c = λ i. record c { out = sym (append-nil c.out) i; err = c.err ++ bytes; log = sym (kept-nothing c.keeps c.log) i }
adding_one outputs.Log bytes c = λ i. record c { out = sym (append-nil c.out) i; err = sym (append-nil c.err) i; log = kept_behind c.keeps c.log bytes }

told-nothing : (o : Option Contents) → o ≡ option_map (adding nothing) o
told-nothing None = refl
told-nothing (Some c) = ap Some (sym (adding-nothing c))

told-both : (a b : Given) (x y z : Option Contents) → y ≡ option_map (adding a) x → z ≡ option_map (adding b) y → z ≡ option_map (adding (joined a b)) x
told-both a b None y z first second = second ∙ ap (option_map (adding b)) first
told-both a b (Some c) y z first second = (second ∙ ap (option_map (adding b)) first) ∙ ap Some (adding_adding a b c)

-- what `give_all` says of the contents, as a step says it
pub told_one : (to : To) (bytes : List ℕ) (x y : Option Contents) → y ≡ option_map (appended to bytes) x → y ≡ option_map (adding (given_to to bytes)) x
told_one to bytes None y is = is
told_one to bytes (Some c) y is = is ∙ ap Some (adding_one to bytes c)

-- ---- fronts

pub prefix_longer : (a b c : List ℕ) → IsPrefix a b → IsPrefix a (b ++ c)
prefix_longer a b c front = (front.0 ++ c, ap (λ (w : List ℕ). w ++ c) front.1 ∙ append_assoc a front.0 c)

pub prefix_behind : (a b c : List ℕ) → IsPrefix b c → IsPrefix (a ++ b) (a ++ c)
prefix_behind a b c front = (front.0, ap (λ (w : List ℕ). a ++ w) front.1 ∙ sym (append_assoc a b front.0))

pub fronts-nothing : (a : Given) → AreFronts nothing a
fronts-nothing a = record { out = (a.out, refl); err = (a.err, refl); log = (a.log, refl) }

fronts_longer : (a b c : Given) → AreFronts a b → AreFronts a (joined b c)
fronts_longer a b c are = record {
  out = prefix_longer a.out b.out c.out are.out;
  err = prefix_longer a.err b.err c.err are.err;
  log = prefix_longer a.log b.log c.log are.log;
}

pub fronts_behind : (a b c : Given) → AreFronts b c → AreFronts (joined a b) (joined a c)
fronts_behind a b c are = record {
  out = prefix_behind a.out b.out c.out are.out;
  err = prefix_behind a.err b.err c.err are.err;
  log = prefix_behind a.log b.log c.log are.log;
}

pub fronts_one : (to : To) (front bytes : List ℕ) → IsPrefix front bytes → AreFronts (given_to to front) (given_to to bytes)
fronts_one outputs.Out front bytes is = record { out = is; err = ([], refl); log = ([], refl) }
fronts_one outputs.Err front bytes is = record { out = ([], refl); err = is; log = ([], refl) }
fronts_one outputs.Log front bytes is = record { out = ([], refl); err = ([], refl); log = is }

-- ---- moves

-- a count that rose before or after rose over both
pub rose_later : (a b c : ℕ) → a ≤ b → Rose b c → Rose a c
rose_later a b c h (inl rose) = inl (omega arith)
rose_later a b c h (inr end) = inr end

pub rose_earlier : (a b c : ℕ) → Rose a b → b ≤ c → Rose a c
rose_earlier a b c (inl rose) h = inl (omega arith)
rose_earlier a b c (inr end) h = inr (omega arith)

-- the error of an equation between errors
error_of : {X : Type 0} (d e : Stop) (r : Result X Stop) → r ≡ Err d → r ≡ Err e → d ≡ e
error_of d e r one other = cc

-- nothing was given, and nothing stopped
pub moves_none : {X : Type 0} (m : Moment) (v : X) → Moves nothing m m (Ok v)
moves_none m v = record {
  told = told-nothing m.told;
  begun = refl;
  reads = omega arith;
  writes = omega arith;
  called = called_none m;
  calm = λ ok. (refl, refl);
  no_read_fault = λ is. cc;
  write_fault = λ is. cc;
}

-- nothing was given, for want of memory
pub moves_nothing : {X : Type 0} (m : Moment) (r : Result X Stop) → IsErrAnd r (λ e. e ≡ stops.OutOfMemory) → Moves nothing m m r
moves_nothing m (Ok v) h = absurd h
moves_nothing {X = X} m (Err e) h = record {
  told = told-nothing m.told;
  begun = refl;
  reads = omega arith;
  writes = omega arith;
  called = called_none m;
  calm = λ ok. (refl, refl);
  no_read_fault = λ is. let same : e ≡ stops.ReadFault = error_of {X = X} e stops.ReadFault (Err e) refl is in cc;
  write_fault = λ is. let same : e ≡ stops.WriteFault = error_of {X = X} e stops.WriteFault (Err e) refl is in cc;
}

-- a move that was done, with another answer
pub moves_done : {X Y : Type 0} (a : Given) (x y : Moment) (v : X) (w : Y) → Moves a x y (Ok v) → Moves a x y (Ok w)
moves_done a x y v w moves = record {
  told = moves.told;
  begun = moves.begun;
  reads = moves.reads;
  writes = moves.writes;
  called = moves.called;
  calm = λ ok. moves.calm refl;
  no_read_fault = λ is. cc;
  write_fault = λ is. cc;
}

-- a stop that is passed on
pub moves_again : {X Y : Type 0} (a : Given) (x y : Moment) (e d : Stop) → d ≡ e → Moves {X = X} a x y (Err e) → Moves {X = Y} a x y (Err d)
moves_again {X = X} {Y = Y} a x y e d same moves = record {
  told = moves.told;
  begun = moves.begun;
  reads = moves.reads;
  writes = moves.writes;
  called = moves.called;
  calm = λ ok. absurd cc;
  no_read_fault = λ again. moves.no_read_fault (ap Err (sym same ∙ error_of {X = Y} d stops.ReadFault (Err d) refl again));
  write_fault = λ again. moves.write_fault (ap Err (sym same ∙ error_of {X = Y} d stops.WriteFault (Err d) refl again));
}

pub calm_both : (x y z : Moment) → IsCalm x y → IsCalm y z → IsCalm x z
calm_both x y z first second = (second.0 ∙ first.0, second.1 ∙ first.1)

-- a move that was done, and another
pub moves_both : {X Y : Type 0} (a b : Given) (x y z : Moment) (v : X) (s : Result Y Stop) → Moves a x y (Ok v) → Moves b y z s → Moves (joined a b) x z s
moves_both a b x y z v s first second =
    let reads = first.reads in
    let reads_then = second.reads in
    let writes = first.writes in
    let writes_then = second.writes in
    record {
      told = told-both a b x.told y.told z.told first.told second.told;
      begun = second.begun ∙ first.begun;
      reads = omega arith;
      writes = omega arith;
      called = called_both [] [] [] [] x y z first.called second.called;
      calm = λ ok. calm_both x y z (first.calm refl) (second.calm ok);
      no_read_fault = second.no_read_fault;
      write_fault = λ is. rose_later x.writes y.writes z.writes writes (second.write_fault is);
    }

pub moves_as : {X : Type 0} (a b : Given) (x y : Moment) (r : Result X Stop) → a ≡ b → Moves a x y r → Moves b x y r
moves_as a b x y r same moves = subst (λ (given : Given). Moves given x y r) same moves

-- ---- steps

-- what a step that was done gave
pub given_all : {X : Type 0} (a : Given) (x y : Moment) (v : X) → Step a x y (Ok v) → Moves a x y (Ok v)
given_all a x y v step = moves_as step.given a x y (Ok v) step.how step.moves

pub step_of : {X : Type 0} (a : Given) (x y : Moment) (v : X) → Moves a x y (Ok v) → Step a x y (Ok v)
step_of a x y v moves = record { given = a; moves = moves; how = refl }

-- want of memory before anything is given
pub step_nothing : {X : Type 0} (a : Given) (m : Moment) (r : Result X Stop) → IsErrAnd r (λ e. e ≡ stops.OutOfMemory) → Step a m m r
step_nothing a m (Ok v) h = absurd h
step_nothing a m (Err e) h = record { given = nothing; moves = moves_nothing m (Err e) h; how = fronts-nothing a }

-- a step that stopped, as the front of a longer one
pub step_cut : {X Y : Type 0} (a b : Given) (x y : Moment) (r : Result X Stop) (e : Stop) (s : Result Y Stop) →
    Step a x y r → r ≡ Err e → IsErrAnd s (λ d. d ≡ e) → Step (joined a b) x y s
step_cut a b x y r e (Ok v) step is same = absurd same
step_cut {X = X} {Y = Y} a b x y r e (Err d) step is same =
    let stopped : Result X Stop = Err e in
    let cut : Step a x y stopped = subst (λ (t : Result X Stop). Step a x y t) is step
    in record { given = cut.given; moves = moves_again {X = X} {Y = Y} cut.given x y e d same cut.moves; how = fronts_longer cut.given a b cut.how }

-- a step that stopped, passed on
pub step_again : {X Y : Type 0} (a : Given) (x y : Moment) (r : Result X Stop) (e : Stop) (s : Result Y Stop) →
    Step a x y r → r ≡ Err e → IsErrAnd s (λ d. d ≡ e) → Step a x y s
step_again {Y = Y} a x y r e s step is same = subst (λ (given : Given). Step {X = Y} given x y s) (joined-nothing a) (step_cut a nothing x y r e s step is same)

given_both : {X : Type 0} (a b given more : Given) (s : Result X Stop) → given ≡ a →
    MatchResult s (λ _. more ≡ b) (λ _. AreFronts more b) → MatchResult s (λ _. joined given more ≡ joined a b) (λ _. AreFronts (joined given more) (joined a b))
given_both a b given more (Ok v) same how = ap (λ (g : Given). joined g more) same ∙ ap (λ (g : Given). joined a g) how
given_both a b given more (Err e) same how =
    subst (λ (g : Given). AreFronts (joined g more) (joined a b)) (sym same) (fronts_behind a more b how)

-- a step that was done, and another
pub step_then : {X Y : Type 0} (a b : Given) (x y z : Moment) (r : Result X Stop) (v : X) (s : Result Y Stop) →
    Step a x y r → r ≡ Ok v → Step b y z s → Step (joined a b) x z s
step_then {X = X} a b x y z r v s first is second =
    let done : Step a x y (Ok v) = subst (λ (t : Result X Stop). Step a x y t) is first
    in record {
      given = joined done.given second.given;
      moves = moves_both done.given second.given x y z v s done.moves second.moves;
      how = given_both a b done.given second.given s done.how second.how;
    }

-- a step that was done, with another answer
pub step_done : {X Y : Type 0} (a : Given) (x y : Moment) (r : Result X Stop) (v : X) (w : Y) → Step a x y r → r ≡ Ok v → Step a x y (Ok w)
step_done {X = X} a x y r v w step is =
    let done : Step a x y (Ok v) = subst (λ (t : Result X Stop). Step a x y t) is step
    in record { given = done.given; moves = moves_done done.given x y v w done.moves; how = done.how }

-- the same step of texts that are spelled otherwise
pub step_as : {X : Type 0} (a b : Given) (x y : Moment) (r : Result X Stop) → a ≡ b → Step a x y r → Step b x y r
step_as a b x y r same step = subst (λ (given : Given). Step given x y r) same step

-- ---- bytes for one output

pub step_given : {X : Type 0} (to : To) (bytes : List ℕ) (x y : Moment) (v : X) → y.told ≡ option_map (appended to bytes) x.told → y.begun ≡ x.begun →
    x.reads ≤ y.reads → x.writes ≤ y.writes → Called [] [] x y → IsCalm x y → Step (given_to to bytes) x y (Ok v)
step_given to bytes x y v told begun reads writes called calm = record {
  given = given_to to bytes;
  moves = record {
    told = told_one to bytes x.told y.told told;
    begun = begun;
    reads = reads;
    writes = writes;
    called = called;
    calm = λ ok. calm;
    no_read_fault = λ is. cc;
    write_fault = λ is. cc;
  };
  how = refl;
}

-- bytes for a log that drops them need not be given
pub step_dropped : {X : Type 0} (bytes : List ℕ) (m : Moment) (v : X) → IfSome m.told (λ c. c.keeps ≡ false) → Step (given_to outputs.Log bytes) m m (Ok v)
step_dropped bytes m v dropped = record {
  given = given_to outputs.Log bytes;
  moves = record {
    told = told_dropped m.told dropped;
    begun = refl;
    reads = omega arith;
    writes = omega arith;
    called = called_none m;
    calm = λ ok. (refl, refl);
    no_read_fault = λ is. cc;
    write_fault = λ is. cc;
  };
  how = refl;
}
  where
    kept : (keeps : Bool) (log : List ℕ) → keeps ≡ false → log ≡ kept_behind keeps log bytes
    kept true log is = absurd cc
    kept false log is = refl

    told_dropped : (told : Option Contents) → IfSome told (λ c. c.keeps ≡ false) → told ≡ option_map (adding (given_to outputs.Log bytes)) told
    told_dropped None dropped = refl
    told_dropped (Some c) dropped = ap Some (λ i. record c { out = sym (append-nil c.out) i; err = sym (append-nil c.err) i; log = kept c.keeps c.log dropped i })

pub step_failed : {X : Type 0} (to : To) (front bytes : List ℕ) (x y : Moment) → IsPrefix front bytes → y.told ≡ option_map (appended to front) x.told →
    y.begun ≡ x.begun → x.reads ≤ y.reads → x.writes ≤ y.writes → Rose x.writes y.writes → Called [] [] x y → Step {X = X} (given_to to bytes) x y (Err stops.WriteFault)
step_failed {X = X} to front bytes x y is told begun reads writes rose called = record {
  given = given_to to front;
  moves = record {
    told = told_one to front x.told y.told told;
    begun = begun;
    reads = reads;
    writes = writes;
    called = called;
    calm = λ ok. absurd cc;
    no_read_fault = λ is. let same : stops.WriteFault ≡ stops.ReadFault = error_of {X = X} stops.WriteFault stops.ReadFault (Err stops.WriteFault) refl is in cc;
    write_fault = λ is. rose;
  };
  how = fronts_one to front bytes is;
}

given_to_both : (to : To) (a b : List ℕ) → joined (given_to to a) (given_to to b) ≡ given_to to (a ++ b)
given_to_both outputs.Out a b = refl
given_to_both outputs.Err a b = refl
given_to_both outputs.Log a b = refl

pub cut_one : {X Y : Type 0} (to : To) (a b : List ℕ) (x y : Moment) (r : Result X Stop) (e : Stop) (s : Result Y Stop) →
    Step (given_to to a) x y r → r ≡ Err e → IsErrAnd s (λ d. d ≡ e) → Step (given_to to (a ++ b)) x y s
cut_one to a b x y r e s step is same = step_as _ _ x y s (given_to_both to a b) (step_cut (given_to to a) (given_to to b) x y r e s step is same)

pub then_one : {X Y : Type 0} (to : To) (a b : List ℕ) (x y z : Moment) (r : Result X Stop) (v : X) (s : Result Y Stop) →
    Step (given_to to a) x y r → r ≡ Ok v → Step (given_to to b) y z s → Step (given_to to (a ++ b)) x z s
then_one to a b x y z r v s first is second = step_as _ _ x z s (given_to_both to a b) (step_then (given_to to a) (given_to to b) x y z r v s first is second)

-- ---- stops

pub stop_is_whole : (stop : Stop) (bytes : List ℕ) (x y : Moment) (status : Status) → bytes ≡ stop_line stop → y.told ≡ option_map (appended outputs.Err bytes) x.told →
    status ≡ stop_status stop → y.begun ≡ x.begun → x.reads ≤ y.reads → x.writes ≤ y.writes → Called [] [] x y → TellsStop stop x y status
stop_is_whole stop bytes x y status is told status_is begun reads writes called = record {
  line = bytes;
  told = told_one outputs.Err bytes x.told y.told told;
  how = inl (is, status_is);
  begun = begun;
  called = called;
  reads = reads;
  writes = writes;
}

pub stop_is_cut : (stop : Stop) (front bytes : List ℕ) (x y : Moment) (status : Status) → bytes ≡ stop_line stop → IsPrefix front bytes →
    y.told ≡ option_map (appended outputs.Err front) x.told → status ≡ cut_status stop → Rose x.writes y.writes → y.begun ≡ x.begun → x.reads ≤ y.reads → x.writes ≤ y.writes →
    Called [] [] x y → TellsStop stop x y status
stop_is_cut stop front bytes x y status is cut told status_is rose begun reads writes called = record {
  line = front;
  told = told_one outputs.Err front x.told y.told told;
  how = inr (subst (λ (whole : List ℕ). IsPrefix front whole) is cut, status_is, rose);
  begun = begun;
  called = called;
  reads = reads;
  writes = writes;
}

pub one_as : {X : Type 0} (to : To) (a b : List ℕ) (x y : Moment) (r : Result X Stop) → a ≡ b → Step (given_to to a) x y r → Step (given_to to b) x y r
one_as to a b x y r same step = subst (λ (bytes : List ℕ). Step (given_to to bytes) x y r) same step
