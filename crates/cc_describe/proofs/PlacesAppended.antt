-- What the places of a list with more behind it say is what its own say with what those behind it say.
use Rattle.std.proofs.Common.{◌≡◌, ◌∙◌, ℕ, ◌+◌, List, [], ◌∷◌, ◌++◌, Option, Some, None, refl, sym, ap, append_assoc, append-nil, arith}
use Rattle.std.specs.Option.{option_or}
use Rattle.std.proofs.lemmas.Grind.{flat_map-append}
use Rattle.std.proofs.lemmas.List.Concat.{flat_map-cons}
use Rattle.cc_defs.specs.declared.refusal.Refusal.{Refusal}
use Rattle.cc_describe.specs.declared.heads.Heads.{Heads}
use Rattle.cc_describe.specs.Describing.{laws_at, laws_behind, wide_at, wide_behind, queries_at, queries_behind, AreFirstNames}
use Rattle.cc_describe.specs.FirstRefusal.{declared_at, declared_in, labels_at, labelled_in, bytes_at, bytes_in, refusal_at, first_behind, opened_behind, opened_until}
use Rattle.cc_describe.specs.Places.{Place, Opened, opened_at, opened_in}

-- ---- lists behind others

pub declared_in_all : (before after : List Place) → declared_in (before ++ after) ≡ declared_in before ++ declared_in after
declared_in_all before after = flat_map-append declared_at before after

pub labelled_in_all : (before after : List Place) → labelled_in (before ++ after) ≡ labelled_in before ++ labelled_in after
labelled_in_all before after = flat_map-append labels_at before after

pub opened_in_all : (before after : List Place) → opened_in (before ++ after) ≡ opened_in before ++ opened_in after
opened_in_all before after = flat_map-append opened_at before after

pub bytes_in_all : (before after : List Place) → bytes_in (before ++ after) ≡ bytes_in before + bytes_in after
bytes_in_all [] after = omega arith
bytes_in_all (place ∷ before) after = let more = bytes_in_all before after in omega arith

-- before one place and others is before the one, and then before the others
pub one_more : (before : List Place) (place : Place) (places : List Place) → (before ++ place ∷ []) ++ places ≡ before ++ place ∷ places
one_more before place places = append_assoc before (place ∷ []) places

-- what each place adds, by what stands before it, and so all of them behind others
pub record Gathers {X : Type 0} (at : List Place → Place → List X) (behind : List Place → List Place → List X) : Type 0 where
  pub none : (before : List Place) → behind before [] ≡ []
  pub more : (before : List Place) (place : Place) (places : List Place) → behind before (place ∷ places) ≡ at before place ++ behind (before ++ place ∷ []) places

pub gathers_laws : (which : Heads) → Gathers (laws_at which) (laws_behind which)
gathers_laws which = record { none = λ before. refl; more = λ before place places. refl }

pub gathers_wide : (which : Heads) → Gathers (wide_at which) (wide_behind which)
gathers_wide which = record { none = λ before. refl; more = λ before place places. refl }

pub gathers_queries : Gathers queries_at queries_behind
gathers_queries = record { none = λ before. refl; more = λ before place places. refl }

gathered_all : {X : Type 0} {at : List Place → Place → List X} {behind : List Place → List Place → List X} → Gathers at behind → (before places after : List Place) →
    behind before (places ++ after) ≡ behind before places ++ behind (before ++ places) after
gathered_all {behind = behind} gathers before [] after =
    ap (λ all. behind all after) (sym (append-nil before)) ∙ ap (λ l. l ++ behind (before ++ []) after) (sym (gathers.none before))
gathered_all {at = at} {behind = behind} gathers before (place ∷ places) after =
    let next = before ++ place ∷ [] in
    gathers.more before place (places ++ after)
    ∙ ap (λ l. at before place ++ l) (gathered_all gathers next places after)
    ∙ ap (λ all. at before place ++ (behind next places ++ behind all after)) (one_more before place places)
    ∙ sym (append_assoc (at before place) (behind next places) (behind (before ++ place ∷ places) after))
    ∙ ap (λ l. l ++ behind (before ++ place ∷ places) after) (sym (gathers.more before place places))

pub gathered_one : {X : Type 0} {at : List Place → Place → List X} {behind : List Place → List Place → List X} → Gathers at behind → (before : List Place) (place : Place) →
    behind [] (before ++ place ∷ []) ≡ behind [] before ++ at before place
gathered_one {at = at} {behind = behind} gathers before place =
    gathered_all gathers [] before (place ∷ [])
    ∙ ap (λ l. behind [] before ++ l) (gathers.more before place [] ∙ ap (λ l. at before place ++ l) (gathers.none (before ++ place ∷ [])) ∙ append-nil (at before place))

-- the first refusal, and the names opened up to it

option_or_assoc : (one two three : Option Refusal) → option_or (option_or one two) three ≡ option_or one (option_or two three)
option_or_assoc None two three = refl
option_or_assoc (Some refusal) two three = refl

pub first_behind_all : (which : Heads) (before places after : List Place) →
    first_behind which before (places ++ after) ≡ option_or (first_behind which before places) (first_behind which (before ++ places) after)
first_behind_all which before [] after = ap (λ all. first_behind which all after) (sym (append-nil before))
first_behind_all which before (place ∷ places) after =
    ap (option_or (refusal_at which before place)) (first_behind_all which (before ++ place ∷ []) places after)
    ∙ ap (λ all. option_or (refusal_at which before place) (option_or (first_behind which (before ++ place ∷ []) places) (first_behind which all after))) (one_more before place places)
    ∙ sym (option_or_assoc (refusal_at which before place) (first_behind which (before ++ place ∷ []) places) (first_behind which (before ++ place ∷ places) after))

opened_step : (names : List (List ℕ)) (refused first : Option Refusal) (behind after : List (List ℕ)) →
    names ++ opened_behind refused (behind ++ opened_behind first after)
    ≡ (names ++ opened_behind refused behind) ++ opened_behind (option_or refused first) after
opened_step names None first behind after = sym (append_assoc names behind (opened_behind first after))
opened_step names (Some refusal) first behind after = sym (append-nil (names ++ []))

pub opened_until_all : (which : Heads) (before places after : List Place) →
    opened_until which before (places ++ after) ≡ opened_until which before places ++ opened_behind (first_behind which before places) (opened_until which (before ++ places) after)
opened_until_all which before [] after = ap (λ all. opened_until which all after) (sym (append-nil before))
opened_until_all which before (place ∷ places) after =
    let next = before ++ place ∷ [] in
    ap (λ names. opened_at place ++ opened_behind (refusal_at which before place) names) (opened_until_all which next places after)
    ∙ ap (λ all. opened_at place ++ opened_behind (refusal_at which before place) (opened_until which next places ++ opened_behind (first_behind which next places) (opened_until which all after))) (one_more before place places)
    ∙ opened_step (opened_at place) (refusal_at which before place) (first_behind which next places) (opened_until which next places) (opened_until which (before ++ place ∷ places) after)

-- where nothing is refused, these are all names
pub opened_where_none : (which : Heads) (before places : List Place) → first_behind which before places ≡ None → opened_until which before places ≡ opened_in places
opened_where_none which before [] none = refl
opened_where_none which before (place ∷ places) none = step (refusal_at which before place) none (opened_where_none which (before ++ place ∷ []) places)
  where
    step : (refused : Option Refusal) → option_or refused (first_behind which (before ++ place ∷ []) places) ≡ None →
        (first_behind which (before ++ place ∷ []) places ≡ None → opened_until which (before ++ place ∷ []) places ≡ opened_in places) →
        opened_at place ++ opened_behind refused (opened_until which (before ++ place ∷ []) places) ≡ opened_in (place ∷ places)
    step None none more = ap (λ names. opened_at place ++ names) (more none) ∙ sym (flat_map-cons opened_at place places)
    step (Some refusal) none more = absurd cc

-- ---- one place behind others

pub declared_in_behind : (before : List Place) (place : Place) → declared_in (before ++ place ∷ []) ≡ declared_in before ++ declared_at place
declared_in_behind before place = declared_in_all before (place ∷ []) ∙ ap (λ more. declared_in before ++ more) (append-nil (declared_at place))

pub labelled_in_behind : (before : List Place) (place : Place) → labelled_in (before ++ place ∷ []) ≡ labelled_in before ++ labels_at place
labelled_in_behind before place = labelled_in_all before (place ∷ []) ∙ ap (λ more. labelled_in before ++ more) (append-nil (labels_at place))

pub opened_in_behind : (before : List Place) (place : Place) → opened_in (before ++ place ∷ []) ≡ opened_in before ++ opened_at place
opened_in_behind before place = opened_in_all before (place ∷ []) ∙ ap (λ more. opened_in before ++ more) (append-nil (opened_at place))

pub bytes_in_behind : (before : List Place) (place : Place) → bytes_in (before ++ place ∷ []) ≡ bytes_in before + bytes_at place
bytes_in_behind before place = let all = bytes_in_all before (place ∷ []) in omega arith

-- ---- the names opened, where places follow that were gone through

pub names_behind : (which : Heads) (before places behind : List Place) → first_behind which before places ≡ None →
    opened_in (before ++ places) ++ opened_until which (before ++ places) behind ≡ opened_in before ++ opened_until which before (places ++ behind)
names_behind which before places behind none =
    let until : opened_until which before (places ++ behind) ≡ opened_in places ++ opened_until which (before ++ places) behind =
    opened_until_all which before places behind
    ∙ ap (λ one. opened_until which before places ++ opened_behind one (opened_until which (before ++ places) behind)) none
    ∙ ap (λ l. l ++ opened_until which (before ++ places) behind) (opened_where_none which before places none) in
    ap (λ l. l ++ opened_until which (before ++ places) behind) (opened_in_all before places)
    ∙ append_assoc (opened_in before) (opened_in places) (opened_until which (before ++ places) behind)
    ∙ ap (λ l. opened_in before ++ l) (sym until)

-- the first names of a list are those of a longer one
pub first_longer : (names all more longer : List (List ℕ)) → longer ≡ all ++ more → AreFirstNames names all → AreFirstNames names longer
first_longer names all more longer is (rest, e) = (rest ++ more, is ∙ ap (λ l. l ++ more) e ∙ append_assoc names rest more)

pub first_of : (names : List (List ℕ)) {all other : List (List ℕ)} → all ≡ other → AreFirstNames names all → AreFirstNames names other
first_of names is (rest, e) = (rest, sym is ∙ e)

-- those of what was opened before
pub all_first : {names all : List (List ℕ)} (more : List (List ℕ)) → names ≡ all → AreFirstNames names (all ++ more)
all_first more is = (more, ap (λ l. l ++ more) (sym is))

-- those up to a file that was opened, or would be next
pub first_opened : (which : Heads) (names : List (List ℕ)) (before : List Place) (name bytes : List ℕ) (behind : List Place) → AreFirstNames names (opened_in before ++ name ∷ [])
    → AreFirstNames names (opened_in before ++ opened_until which before (Opened name bytes ∷ behind))
first_opened which names before name bytes behind first =
    let more = opened_behind (refusal_at which before (Opened name bytes)) (opened_until which (before ++ Opened name bytes ∷ []) behind) in
    first_longer names (opened_in before ++ name ∷ []) more _ (sym (append_assoc (opened_in before) (name ∷ []) more)) first

-- behind a refusal nothing is opened
pub opened_until_some : (which : Heads) (before places behind : List Place) (refusal : Refusal) → first_behind which before places ≡ Some refusal
    → opened_until which before (places ++ behind) ≡ opened_until which before places
opened_until_some which before places behind refusal some =
    opened_until_all which before places behind
    ∙ ap (λ one. opened_until which before places ++ opened_behind one (opened_until which (before ++ places) behind)) some
    ∙ append-nil (opened_until which before places)

pub first_until : (which : Heads) (names : List (List ℕ)) (before places behind : List Place) → AreFirstNames names (opened_in before ++ opened_until which before places)
    → AreFirstNames names (opened_in before ++ opened_until which before (places ++ behind))
first_until which names before places behind first =
    let more = opened_behind (first_behind which before places) (opened_until which (before ++ places) behind) in
    first_longer names (opened_in before ++ opened_until which before places) more _ (ap (λ l. opened_in before ++ l) (opened_until_all which before places behind) ∙ sym (append_assoc (opened_in before) (opened_until which before places) more)) first
