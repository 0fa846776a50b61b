-- Which calls steps make of a desk, one after another.
use Rattle.std.proofs.Common.{◌≡◌, ◌∙◌, refl, sym, ap, subst, ℕ, List, [], ◌∷◌, ◌++◌, map, Option, Some, None, append_assoc, append-nil}
use Rattle.std.proofs.lemmas.Grind.{flat_map-append}
use Rattle.cc_ports.proofs.Acts.{acts_begun, acts_both, acts_given, acts_none}
use Rattle.cc_ports.specs.Calls.{AreGivings, Begins, Call, Gives, name_begun, name_opened, names_begun, names_opened, with_call, with_calls}
use Rattle.cc_ports.specs.declared.desk.To.{To}
use Rattle.cc_ports.specs.Moments.{Moment}
use Rattle.cc_tell.specs.Steps.{Called}

names_both : (a b c d : List (List ℕ)) → a ≡ c → b ≡ d → a ++ b ≡ c ++ d
names_both a b c d first second = λ i. first i ++ second i

calls_both : (a b : List Call) (x y z : Option (List Call)) → y ≡ with_calls a x → z ≡ with_calls b y → z ≡ with_calls (a ++ b) x
calls_both a b None y z first second = second ∙ ap (λ (o : Option (List Call)). with_calls b o) first
calls_both a b (Some c) y z first second = (second ∙ ap (λ (o : Option (List Call)). with_calls b o) first) ∙ ap Some (append_assoc c a b)

no_calls : (o : Option (List Call)) → o ≡ with_calls [] o
no_calls None = refl
no_calls (Some c) = ap Some (sym (append-nil c))

pub called_none : (m : Moment) → Called [] [] m m
called_none m = record { more = []; calls = no_calls m.calls; opened_are = refl; begun_are = refl; acts = acts_none }

pub called_both : (opened begun opened_then begun_then : List (List ℕ)) (x y z : Moment) → Called opened begun x y → Called opened_then begun_then y z →
    Called (opened ++ opened_then) (begun ++ begun_then) x z
called_both opened begun opened_then begun_then x y z first second = record {
  more = first.more ++ second.more;
  calls = calls_both first.more second.more x.calls y.calls z.calls first.calls second.calls;
  opened_are = flat_map-append name_opened first.more second.more
      ∙ names_both (names_opened first.more) (names_opened second.more) opened opened_then first.opened_are second.opened_are;
  begun_are = flat_map-append name_begun first.more second.more
      ∙ names_both (names_begun first.more) (names_begun second.more) begun begun_then first.begun_are second.begun_are;
  acts = acts_both first.more second.more first.acts second.acts;
}

-- behind other calls, these only give
pub called_on : (opened begun : List (List ℕ)) (x y z : Moment) → Called opened begun x y → Called [] [] y z → Called opened begun x z
called_on opened begun x y z first second =
    subst (λ (b : List (List ℕ)). Called opened b x z) (append-nil begun)
    (subst (λ (o : List (List ℕ)). Called o (begun ++ []) x z) (append-nil opened) (called_both opened begun [] [] x y z first second))

gives_opened : (to : To) (parts : List (List ℕ)) → names_opened (map (Gives to) parts) ≡ []
gives_opened to [] = refl
gives_opened to (part ∷ parts) = gives_opened to parts

gives_begun : (to : To) (parts : List (List ℕ)) → names_begun (map (Gives to) parts) ≡ []
gives_begun to [] = refl
gives_begun to (part ∷ parts) = gives_begun to parts

-- what `give_all` says of its calls
pub called_gives : (to : To) (x y : Moment) → ((more : List Call) × AreGivings to more × (y.calls ≡ with_calls more x.calls)) → Called [] [] x y
called_gives to x y made = record {
  more = made.0;
  calls = made.2;
  opened_are = ap (λ (l : List Call). names_opened l) made.1.calls_are ∙ gives_opened to made.1.parts;
  begun_are = ap (λ (l : List Call). names_begun l) made.1.calls_are ∙ gives_begun to made.1.parts;
  acts = acts_given to made.0 made.1;
}

-- what `create_file` says of its call
pub called_begins : (name : List ℕ) (x y : Moment) → y.calls ≡ with_call (Begins name) x.calls → Called [] (name ∷ []) x y
called_begins name x y made = record { more = Begins name ∷ []; calls = made; opened_are = refl; begun_are = refl; acts = acts_begun name }
