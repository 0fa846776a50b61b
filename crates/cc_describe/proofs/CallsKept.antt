-- The names that are kept are those of the files that the desk was to open.
use Rattle.std.proofs.Common.{◌≡◌, ◌∙◌, ℕ, List, [], ◌∷◌, ◌++◌, map, Option, Some, None, refl, sym, ap, append_assoc, append-nil}
use Rattle.std.proofs.lemmas.Grind.{flat_map-append}
use Rattle.std.proofs.lemmas.List.Concat.{flat_map-cons}
use Rattle.cc_ports.proofs.Acts.{acts_both, acts_none, acts_read}
use Rattle.cc_ports.specs.Calls.{Call, Opens, Reads, AreReadings, name_begun, name_opened, names_begun, names_opened, with_calls}
use Rattle.cc_describe.specs.ProgressViews.{OpensAsKept}

no_calls : (calls : Option (List Call)) → calls ≡ with_calls [] calls
no_calls None = refl
no_calls (Some calls) = ap Some (sym (append-nil calls))

more_calls : (first second : List Call) (before between after : Option (List Call)) → between ≡ with_calls first before → after ≡ with_calls second between
    → after ≡ with_calls (first ++ second) before
more_calls first second None between after is then_is = then_is ∙ ap (with_calls second) is
more_calls first second (Some calls) between after is then_is = then_is ∙ ap (with_calls second) is ∙ ap Some (append_assoc calls first second)

-- no file is opened
pub keeps_names : {old new : List (List ℕ)} (calls : Option (List Call)) → new ≡ old → OpensAsKept old new calls calls
keeps_names {old} calls same = record { more = []; names = same ∙ sym (append-nil old); begun = refl; calls = no_calls calls; acts = acts_none }

-- and then others
pub keeps_more : {old now new : List (List ℕ)} {before between after : Option (List Call)} → OpensAsKept old now before between → OpensAsKept now new between after
    → OpensAsKept old new before after
keeps_more {old} {now} {new} {before} {between} {after} first second = record {
  more = first.more ++ second.more;
  names = second.names ∙ ap (λ l. l ++ names_opened second.more) first.names ∙ append_assoc old (names_opened first.more) (names_opened second.more)
      ∙ ap (λ l. old ++ l) (sym (flat_map-append name_opened first.more second.more));
  begun = flat_map-append name_begun first.more second.more ∙ ap (λ l. l ++ names_begun second.more) first.begun ∙ second.begun;
  calls = more_calls first.more second.more before between after first.calls second.calls;
  acts = acts_both first.more second.more first.acts second.acts;
}

-- with the names as they are kept afterwards
pub keeps_as : {old now new : List (List ℕ)} {before after : Option (List Call)} → OpensAsKept old now before after → new ≡ now → OpensAsKept old new before after
keeps_as kept same = record { more = kept.more; names = same ∙ kept.names; begun = kept.begun; calls = kept.calls; acts = kept.acts }

reads_open_none : (rooms : List ℕ) → names_opened (map Reads rooms) ≡ []
reads_open_none [] = refl
reads_open_none (room ∷ rooms) = flat_map-cons name_opened (Reads room) (map Reads rooms) ∙ reads_open_none rooms

reads_begin_none : (rooms : List ℕ) → names_begun (map Reads rooms) ≡ []
reads_begin_none [] = refl
reads_begin_none (room ∷ rooms) = flat_map-cons name_begun (Reads room) (map Reads rooms) ∙ reads_begin_none rooms

-- a file was read
pub keeps_read : {old new : List (List ℕ)} {before after : Option (List Call)} (name : List ℕ) (most : ℕ) → new ≡ old ++ name ∷ []
    → (more : List Call) × AreReadings name most more × (after ≡ with_calls more before) → OpensAsKept old new before after
keeps_read {old} name most named (more, are, calls) = record {
  more = more;
  names = named
      ∙ ap (λ l. old ++ l) (sym (ap names_opened are.calls_are ∙ flat_map-cons name_opened (Opens name) (map Reads are.rooms) ∙ ap (λ l. name ∷ l) (reads_open_none are.rooms)));
  begun = ap names_begun are.calls_are ∙ flat_map-cons name_begun (Opens name) (map Reads are.rooms) ∙ reads_begin_none are.rooms;
  calls = calls;
  acts = acts_read name most more are;
}
