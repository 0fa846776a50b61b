-- What a description answers, by what was gone through.
use Rattle.std.proofs.Common.{◌≡◌, ◌≢◌, ◌∙◌, ℕ, List, [], ◌++◌, length, Option, Some, None, IfSome, Result, Ok, Err, IfOk, IfErr, IsErrOf, refl, sym, ap, subst, append-nil}
use Rattle.std.specs.Option.{option_or}
use Rattle.cc_defs.specs.DeclarationFaults.{signature_refusal}
use Rattle.cc_defs.specs.Limits.{limit_number}
use Rattle.cc_defs.specs.declared.refusal.Fault.{Fault}
use Rattle.cc_defs.specs.declared.refusal.Fault.TheVariants as faults
use Rattle.cc_defs.specs.declared.refusal.LimitAt.TheVariants.{IncludeDepth}
use Rattle.cc_ports.specs.Calls.{AreActs, Call, names_begun, names_opened, with_calls}
use Rattle.cc_ports.specs.Contents.{Contents}
use Rattle.cc_sorts.specs.Tables.{IsRefusedSignature}
use Rattle.cc_describe.specs.declared.heads.Heads.{Heads}
use Rattle.cc_describe.specs.declared.description.Described.{Described}
use Rattle.cc_describe.specs.declared.description.DescribedWide.{DescribedWide}
use Rattle.cc_describe.specs.declared.description.DescribeStop.{DescribeStop}
use Rattle.cc_describe.specs.declared.description.DescribeStop.TheVariants as stops
use Rattle.cc_describe.specs.declared.files.Halt.{Halt}
use Rattle.cc_describe.specs.declared.files.Halt.TheVariants as halts
use Rattle.cc_describe.specs.declared.progress.Progress.{Progress}
use Rattle.cc_describe.specs.Describing.{AreToOpen, Describes, DescribesWide, HasStopped, IsDescribedWide, IsOfSome, IsRefusedWhole, OpensFor, SaysAll, SaysAllWide}
use Rattle.cc_describe.specs.FirstRefusal.{declared_in, file_named, first_behind, opened_until}
use Rattle.cc_describe.specs.Places.{Files, Place, opened_in, ArePlaces, AreAllPlaces, AreThere, HasPlaces}
use Rattle.cc_describe.specs.ProgressViews.{IsProgress, FindsFiles, GoesSomewhere, GoesThrough, OpensAsKept, StopsAs, halt_of}
use Rattle.cc_describe.proofs.PlacesAppended.{opened_where_none}

-- ---- all declarations are refused

stops_whole : (places : List Place) (names : List (List ℕ)) (fault : Fault) (stop : DescribeStop) → names ≡ opened_in places
    → IsRefusedSignature (declared_in places) fault → StopsAs names (halt_of fault) stop → IsRefusedWhole places stop
stops_whole places names faults.OutOfMemory stop are refused is = subst (IsRefusedWhole places) (sym is) tt
stops_whole places names (faults.Refused refusal) (stops.Refused told file) are refused is =
    (refused ∙ ap Some (sym is.0), is.1 ∙ ap (λ l. file_named l refusal) are ∙ ap (file_named (opened_in places)) (sym is.0))
stops_whole places names (faults.Refused refusal) stops.ReadFault are refused is = is
stops_whole places names (faults.Refused refusal) stops.OutOfMemory are refused is = tt

pub refused_whole : (places : List Place) (names : List (List ℕ)) (fault : Fault) (halt : Halt) (stop : DescribeStop) → names ≡ opened_in places
    → IsRefusedSignature (declared_in places) fault → halt ≡ halt_of fault → StopsAs names halt stop → IsRefusedWhole places stop
refused_whole places names fault halt stop are refused halt_is is = stops_whole places names fault stop are refused (subst (λ h. StopsAs names h stop) halt_is is)

-- ---- a fault of the desk is told where there is one

fault_was : (names : List (List ℕ)) (halt : Halt) (stop : DescribeStop) → StopsAs names halt stop → stop ≡ stops.ReadFault → halt ≡ halts.ReadFault
fault_was names (halts.Refused refusal) (stops.Refused told file) is fault = absurd cc
fault_was names (halts.Refused refusal) stops.ReadFault is fault = absurd is
fault_was names (halts.Refused refusal) stops.OutOfMemory is fault = absurd cc
fault_was names halts.ReadFault stop is fault = refl
fault_was names halts.OutOfMemory stop is fault = absurd cc

pub fault_told : (names : List (List ℕ)) (halt : Halt) (stop : DescribeStop) → StopsAs names halt stop → IsErrOf {T = DescribedWide} (Err stop) stops.ReadFault → halt ≡ halts.ReadFault
fault_told names halt stop is told = fault_was names halt stop is cc

-- a fault of the desk is told as one
pub fault_comes : (names : List (List ℕ)) (halt : Halt) (stop : DescribeStop) → StopsAs names halt stop → IsErrOf {T = Unit {0}} (Err halt) halts.ReadFault → IsErrOf {T = DescribedWide} (Err stop) stops.ReadFault
fault_comes names (halts.Refused refusal) stop is told = absurd cc
fault_comes names halts.ReadFault stop is told = ap Err is
fault_comes names halts.OutOfMemory stop is told = absurd cc

pub tells_no_fault : (names : List (List ℕ)) (fault : Fault) (halt : Halt) (stop : DescribeStop) → halt ≡ halt_of fault → StopsAs names halt stop → stop ≢ stops.ReadFault
tells_no_fault names (faults.Refused refusal) halt stop halt_is is told = let was = fault_was names halt stop is told in absurd cc
tells_no_fault names faults.OutOfMemory halt stop halt_is is told = let was = fault_was names halt stop is told in absurd cc

-- ---- a description

-- The places of a file that is read while no other is; `progress` is that of nothing.
abbrev Goes : ℕ → Option Contents → List ℕ → Progress → Result (Unit {0}) Halt → Progress → Type 0
Goes deep told name progress result new =
    (contents : Contents) (which : Heads) (before : List Place) → told ≡ Some contents → IsProgress which progress before
    → GoesThrough which (ArePlaces deep contents.files progress.around.items (length (opened_in before)) name) before result new

-- the files opened are there, where no other was opened before
abbrev Finds : Option Contents → Progress → Result (Unit {0}) Halt → Progress → Type 0
Finds told progress result new =
    (contents : Contents) → told ≡ Some contents → AreThere contents.files progress.names.items → FindsFiles contents.files result new.names.items

-- all statements were gone through, and so were all declarations; or these are refused
abbrev Finishes : Progress → Result DescribedWide DescribeStop → Type 0
Finishes new result =
    (which : Heads) (places : List Place) → IsProgress which new places → IfOk result (λ described. (signature_refusal (declared_in places) ≡ None) × IsDescribedWide which places described)

abbrev RefusesWhole : Progress → Result DescribedWide DescribeStop → Type 0
RefusesWhole new result = (which : Heads) (places : List Place) → IsProgress which new places → IfErr result (IsRefusedWhole places)

none_opened : {which : Heads} (files : Files) (progress : Progress) → IsProgress which progress [] → AreThere files progress.names.items
none_opened files progress begun = subst (AreThere files) (sym begun.names) tt

all_places : (deep : ℕ) (files : Files) (around : List (List ℕ)) (name : List ℕ) (places : List Place) → deep ≡ limit_number IncludeDepth → around ≡ []
    → ArePlaces deep files around 0 name places → AreAllPlaces files name places
all_places deep files around name places deep_is around_is are =
    subst (λ d. ArePlaces d files [] 0 name places) deep_is (subst (λ a. ArePlaces deep files a 0 name places) around_is are)

-- all places were gone through, and so were all declarations
pub is_described : {which : Heads} (deep : ℕ) (told : Option Contents) (name : List ℕ) (progress new : Progress) (done : Unit {0}) (result : Result DescribedWide DescribeStop)
    → deep ≡ limit_number IncludeDepth → IsProgress which progress [] → progress.around.items ≡ [] → Goes deep told name progress (Ok done) new → Finds told progress (Ok done) new
    → Finishes new result → IfSome told (λ contents. IfOk result (DescribesWide which contents.files name))
is_described deep None name progress new done result deep_is begun outside goes found finished = tt
is_described deep (Some contents) name progress new done (Err stop) deep_is begun outside goes found finished = tt
is_described deep (Some contents) name progress new done (Ok described) deep_is begun outside goes found finished =
    let gone = goes contents _ [] refl begun in
    let places = gone.0 in
    let whole = finished _ places gone.3 in (
      places,
      all_places deep contents.files progress.around.items name places deep_is outside gone.1,
      ap (λ one. option_or one (signature_refusal (declared_in places))) gone.2 ∙ whole.0,
      whole.1,
      subst (AreThere contents.files) gone.3.names (found contents refl (none_opened contents.files progress begun)),
    )

-- all places were gone through, and all declarations are refused
pub is_refused_whole : {which : Heads} (deep : ℕ) (told : Option Contents) (name : List ℕ) (progress new : Progress) (done : Unit {0}) (result : Result DescribedWide DescribeStop)
    → deep ≡ limit_number IncludeDepth → IsProgress which progress [] → progress.around.items ≡ [] → Goes deep told name progress (Ok done) new → Finds told progress (Ok done) new
    → RefusesWhole new result → IfSome told (λ contents. IfErr result (HasStopped which contents.files name))
is_refused_whole deep None name progress new done result deep_is begun outside goes found finished = tt
is_refused_whole deep (Some contents) name progress new done (Ok described) deep_is begun outside goes found finished = tt
is_refused_whole deep (Some contents) name progress new done (Err stops.ReadFault) deep_is begun outside goes found finished = tt
is_refused_whole deep (Some contents) name progress new done (Err stops.OutOfMemory) deep_is begun outside goes found finished = tt
is_refused_whole {which} deep (Some contents) name progress new done (Err (stops.Refused refusal file)) deep_is begun outside goes found finished =
    let gone = goes contents _ [] refl begun in
    let places = gone.0 in
    let whole = finished _ places gone.3 in (
      places,
      all_places deep contents.files progress.around.items name places deep_is outside gone.1,
      ap (λ one. option_or one (signature_refusal (declared_in places))) gone.2 ∙ whole.0,
      whole.1 ∙ ap (λ names. file_named names refusal) (sym (opened_where_none which [] places gone.2)),
      subst (AreThere contents.files) (gone.3.names ∙ sym (opened_where_none which [] places gone.2)) (found contents refl (none_opened contents.files progress begun)),
    )

-- a place is refused
pub is_refused : {which : Heads} (deep : ℕ) (told : Option Contents) (name : List ℕ) (names : List (List ℕ)) (progress new : Progress) (halt : Halt) (stop : DescribeStop)
    → deep ≡ limit_number IncludeDepth → IsProgress which progress [] → progress.around.items ≡ [] → Goes deep told name progress (Err halt) new → Finds told progress (Err halt) new
    → names ≡ new.names.items → StopsAs names halt stop → IfSome told (λ contents. HasStopped which contents.files name stop)
is_refused deep None name names progress new halt stop deep_is begun outside goes found names_are is = tt
is_refused {which} deep (Some contents) name names progress new halts.ReadFault stop deep_is begun outside goes found names_are is = subst (HasStopped which contents.files name) (sym is) tt
is_refused {which} deep (Some contents) name names progress new halts.OutOfMemory stop deep_is begun outside goes found names_are is = subst (HasStopped which contents.files name) (sym is) tt
is_refused deep (Some contents) name names progress new (halts.Refused refusal) stops.ReadFault deep_is begun outside goes found names_are is = tt
is_refused deep (Some contents) name names progress new (halts.Refused refusal) stops.OutOfMemory deep_is begun outside goes found names_are is = tt
is_refused {which} deep (Some contents) name names progress new (halts.Refused refusal) (stops.Refused told file) deep_is begun outside goes found names_are is =
    let gone = goes contents _ [] refl begun in
    let places = gone.0 in (
      places,
      all_places deep contents.files progress.around.items name places deep_is outside gone.1,
      ap (λ one. option_or one (signature_refusal (declared_in places))) gone.2 ∙ ap Some (sym is.0),
      is.1 ∙ ap (λ l. file_named l refusal) (names_are ∙ gone.3) ∙ ap (file_named (opened_until which [] places)) (sym is.0),
      subst (AreThere contents.files) gone.3 (found contents refl (none_opened contents.files progress begun)),
    )

-- ---- the names that are opened

-- all that are to be
opens_all : (which : Heads) (files : Files) (name : List ℕ) (names : List (List ℕ)) (result : Result DescribedWide DescribeStop) → AreToOpen which files name names → OpensFor which files name result names
opens_all which files name names (Ok described) all = all
opens_all which files name names (Err (stops.Refused refusal file)) all = all
opens_all which files name names (Err stops.ReadFault) all = (names, all, ([], sym (append-nil names)))
opens_all which files name names (Err stops.OutOfMemory) all = (names, all, ([], sym (append-nil names)))

-- the calls of the desk, where the names kept are these
pub as_called : (which : Heads) (told : Option Contents) (name : List ℕ) (result : Result DescribedWide DescribeStop) {old new : List (List ℕ)} {before after : Option (List Call)} → old ≡ []
    → OpensAsKept old new before after → IfSome told (λ contents. OpensFor which contents.files name result new)
    → (more : List Call) × (after ≡ with_calls more before) × (names_begun more ≡ []) × IfSome told (λ contents. OpensFor which contents.files name result (names_opened more)) × AreActs more
as_called which told name result none kept opens = (
  kept.more,
  kept.calls,
  kept.begun,
  subst (λ l. IfSome told (λ contents. OpensFor which contents.files name result l)) (kept.names ∙ ap (λ l. l ++ names_opened kept.more) none) opens,
  kept.acts,
)

-- nothing was opened
pub opens_none : (which : Heads) → HasPlaces → (told : Option Contents) (name : List ℕ) → IfSome told (λ contents. OpensFor which contents.files name {T = DescribedWide} (Err stops.OutOfMemory) [])
opens_none which has None name = tt
opens_none which has (Some contents) name =
    let places = has contents.files name in (opened_until which [] places.0, (places.0, places.1, refl), (opened_until which [] places.0, refl))

-- all places were gone through
pub opens_whole : {which : Heads} (deep : ℕ) (told : Option Contents) (name : List ℕ) (progress new : Progress) (done : Unit {0}) (result : Result DescribedWide DescribeStop)
    → deep ≡ limit_number IncludeDepth → IsProgress which progress [] → progress.around.items ≡ [] → Goes deep told name progress (Ok done) new
    → IfSome told (λ contents. OpensFor which contents.files name result new.names.items)
opens_whole deep None name progress new done result deep_is begun outside goes = tt
opens_whole {which} deep (Some contents) name progress new done result deep_is begun outside goes =
    let gone = goes contents _ [] refl begun in
    opens_all which contents.files name new.names.items result
    (gone.0, all_places deep contents.files progress.around.items name gone.0 deep_is outside gone.1, gone.3.names ∙ sym (opened_where_none which [] gone.0 gone.2))

-- a place is refused, or there is another reason
pub opens_stopped : {which : Heads} (deep : ℕ) (told : Option Contents) (name : List ℕ) (names : List (List ℕ)) (progress new : Progress) (halt : Halt) (stop : DescribeStop)
    → deep ≡ limit_number IncludeDepth → IsProgress which progress [] → progress.around.items ≡ [] → Goes deep told name progress (Err halt) new
    → StopsAs names halt stop → IfSome told (λ contents. OpensFor which contents.files name {T = DescribedWide} (Err stop) new.names.items)
opens_stopped deep None name names progress new halt stop deep_is begun outside goes is = tt
opens_stopped {which} deep (Some contents) name names progress new (halts.Refused refusal) stop deep_is begun outside goes is =
    let gone = goes contents _ [] refl begun in
    opens_all which contents.files name new.names.items (Err stop)
    (gone.0, all_places deep contents.files progress.around.items name gone.0 deep_is outside gone.1, gone.3)
opens_stopped {which} deep (Some contents) name names progress new halts.ReadFault stop deep_is begun outside goes is =
    let gone = goes contents _ [] refl begun in
    subst (λ s. OpensFor which contents.files name {T = DescribedWide} (Err s) new.names.items) (sym is)
    (opened_until which [] gone.0, (gone.0, all_places deep contents.files progress.around.items name gone.0 deep_is outside gone.1, refl), gone.2)
opens_stopped {which} deep (Some contents) name names progress new halts.OutOfMemory stop deep_is begun outside goes is =
    let gone = goes contents _ [] refl begun in
    subst (λ s. OpensFor which contents.files name {T = DescribedWide} (Err s) new.names.items) (sym is)
    (opened_until which [] gone.0, (gone.0, all_places deep contents.files progress.around.items name gone.0 deep_is outside gone.1, refl), gone.2)

-- ---- whatever the desk tells

pub says_all : {which : Heads} (new : Progress) (done : Unit {0}) (result : Result DescribedWide DescribeStop) → GoesSomewhere which [] {T = Unit {0}} (Ok done) new → Finishes new result
    → IfOk result (SaysAllWide which)
says_all new done (Err stop) gone finished = tt
says_all new done (Ok described) (places, any, none, kept) finished =
    let whole = finished _ places kept in (places, ap (λ one. option_or one (signature_refusal (declared_in places))) none ∙ whole.0, whole.1)

-- what holds of each description of places without a refusal
pub says_so : {which : Heads} (P : DescribedWide → Type 0) → ((places : List Place) (described : DescribedWide) → first_behind which [] places ≡ None → IsDescribedWide which places described → P described)
    → (new : Progress) (done : Unit {0}) (result : Result DescribedWide DescribeStop) → GoesSomewhere which [] {T = Unit {0}} (Ok done) new → Finishes new result → IfOk result P
says_so P holds new done (Err stop) gone finished = tt
says_so P holds new done (Ok described) (places, any, none, kept) finished = holds places described none (finished _ places kept).1

-- all places were gone through, and all declarations are refused
pub of_some_whole : {which : Heads} (new : Progress) (done : Unit {0}) (result : Result DescribedWide DescribeStop) → GoesSomewhere which [] {T = Unit {0}} (Ok done) new
    → RefusesWhole new result → IfErr result (IsOfSome which)
of_some_whole new done (Ok described) gone finished = tt
of_some_whole new done (Err stops.ReadFault) gone finished = tt
of_some_whole new done (Err stops.OutOfMemory) gone finished = tt
of_some_whole {which} new done (Err (stops.Refused refusal file)) (places, any, none, kept) finished =
    let whole = finished _ places kept in (
      places,
      ap (λ one. option_or one (signature_refusal (declared_in places))) none ∙ whole.0,
      whole.1 ∙ ap (λ names. file_named names refusal) (sym (opened_where_none which [] places none)),
    )

-- a place is refused
pub of_some : (which : Heads) (names : List (List ℕ)) (new : Progress) (halt : Halt) (stop : DescribeStop) → GoesSomewhere which [] {T = Unit {0}} (Err halt) new → names ≡ new.names.items → StopsAs names halt stop → IsOfSome which stop
of_some which names new halts.ReadFault stop gone names_are is = subst (IsOfSome which) (sym is) tt
of_some which names new halts.OutOfMemory stop gone names_are is = subst (IsOfSome which) (sym is) tt
of_some which names new (halts.Refused refusal) stops.ReadFault gone names_are is = tt
of_some which names new (halts.Refused refusal) stops.OutOfMemory gone names_are is = tt
of_some which names new (halts.Refused refusal) (stops.Refused told file) (places, any, some, opened) names_are is = (
  places,
  ap (λ one. option_or one (signature_refusal (declared_in places))) some ∙ ap Some (sym is.0),
  is.1 ∙ ap (λ l. file_named l refusal) (names_are ∙ opened) ∙ ap (file_named (opened_until which [] places)) (sym is.0),
)

-- what did not end well describes nothing
pub nothing_described : {T E : Type 0} (told : Option Contents) (stop : E) (P : Contents → T → Type 0) → IfSome told (λ contents. IfOk {T = T} {E = E} (Err stop) (P contents))
nothing_described None stop P = tt
nothing_described (Some contents) stop P = tt

-- ---- what was read where heads have to be definite, by what was read for heads of a form

pub describes_bare : (which : Heads) (told : Option Contents) (name : List ℕ) (read : DescribedWide) (described : Described) → described ≡ read.described
    → IfSome told (λ contents. DescribesWide which contents.files name read) → IfSome told (λ contents. Describes which contents.files name described)
describes_bare which None name read described is all = tt
describes_bare which (Some contents) name read described is all = subst (Describes which contents.files name) (sym is) (all.0, all.1, all.2, all.3.described, all.4)

pub says_bare : (which : Heads) (read : DescribedWide) (described : Described) → described ≡ read.described → SaysAllWide which read → SaysAll which described
says_bare which read described is all = subst (SaysAll which) (sym is) (all.0, all.1, all.2.described)

pub no_fault : {T : Type 0} (read : T) (fault : DescribeStop) → IsErrOf {T = T} (Ok read) fault → ⊥
no_fault read fault is = absurd cc

pub same_fault : {A B : Type 0} (stop fault : DescribeStop) → IsErrOf {T = A} (Err stop) fault → IsErrOf {T = B} (Err stop) fault
same_fault stop fault is = let same : stop ≡ fault = cc in ap Err same

opens_bare : (A B : Type 0) (which : Heads) (files : Files) (name : List ℕ) (stop : DescribeStop) (names : List (List ℕ)) → OpensFor which files name {T = A} (Err stop) names
    → OpensFor which files name {T = B} (Err stop) names
opens_bare A B which files name (stops.Refused refusal file) names opens = opens
opens_bare A B which files name stops.ReadFault names opens = opens
opens_bare A B which files name stops.OutOfMemory names opens = opens

pub opened_bare : (A B : Type 0) (which : Heads) (told : Option Contents) (name : List ℕ) (stop : DescribeStop) (names : List (List ℕ))
    → IfSome told (λ contents. OpensFor which contents.files name {T = A} (Err stop) names) → IfSome told (λ contents. OpensFor which contents.files name {T = B} (Err stop) names)
opened_bare A B which None name stop names opens = tt
opened_bare A B which (Some contents) name stop names opens = opens_bare A B which contents.files name stop names opens
