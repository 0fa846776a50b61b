-- Laws that are made behind others, and the room that is left for their nodes.
use Rattle.std.proofs.Common.{◌≡◌, ◌∙◌, ℕ, ◌+◌, ◌<◌, ◌≤◌, length, drop, get_or, List, [], ◌∷◌, ◌++◌, map, IfOk, Option, Some, None, option_map, Ok, Err, Result, refl, sym, ap, subst, append_assoc, append-nil, arith}
use Rattle.std.proofs.lemmas.List.{at_drop_all, at_drop_more, map-append}
use Rattle.cc_arena.specs.declared.ground_laws.GroundLaw.{GroundLaw}
use Rattle.cc_ground.specs.declared.maker.Halt.{Halt}
use Rattle.cc_ground.specs.declared.maker.Maker.{Maker}
use Rattle.cc_defs.specs.declared.formula.Formula as kept
use Rattle.cc_defs.specs.declared.node.Node.{Node}
use Rattle.cc_defs.specs.Nodes.{nodes_of}
use Rattle.cc_defs.specs.Resolved.{plain_formula}
use Rattle.cc_ground.specs.Bindings.{environment_of}
use Rattle.cc_ground.specs.Counting.{length_of_part, nodes_in}
use Rattle.cc_defs.specs.GroundLaws.{PlainGroundLaw, pair_law}
use Rattle.cc_arena.specs.GroundViews.{plain_ground_law}
use Rattle.cc_defs.specs.Environments.{pairs_of}
use Rattle.cc_ground.specs.Views.{HasMade, IsLike, LacksRoom, universe_in}
use Rattle.cc_ground.proofs.Putting.{lacks_more, like_both, nodes_like}

pub nodes_in-append : (laws more : List PlainGroundLaw) → nodes_in (laws ++ more) ≡ nodes_in laws + nodes_in more
nodes_in-append [] more = omega arith
nodes_in-append (law ∷ laws) more = omega (arith, nodes_in-append laws more)

-- what is made, with these that are left, is the whole
pub record MadeSoFar (left whole : List PlainGroundLaw) (was there : List GroundLaw) (old new : Maker) : Type 0 where
  pub made : map plain_ground_law there ++ left ≡ map plain_ground_law was ++ whole
  pub room : new.room + nodes_in whole ≡ old.room + nodes_in left
  pub like : IsLike old new

pub made_begin : (whole : List PlainGroundLaw) (was : List GroundLaw) (maker : Maker) → MadeSoFar whole whole was was maker maker
made_begin whole was maker = record { made = refl; room = refl; like = record { table = refl; sig = refl; env = refl } }

pub made_more : {left whole laws less : List PlainGroundLaw} {was there next : List GroundLaw} {old mid new : Maker} → MadeSoFar left whole was there old mid → left ≡ laws ++ less →
    HasMade laws there next mid new → MadeSoFar less whole was next old new
made_more {left} {whole} {laws} {less} {was} {there} {next} {old} {mid} {new} so e one = record {
  made =
      ap (λ (l : List PlainGroundLaw). l ++ less) one.made
      ∙ append_assoc (map plain_ground_law there) laws less
      ∙ ap (λ (l : List PlainGroundLaw). map plain_ground_law there ++ l) (sym e)
      ∙ so.made;
  room = omega (arith, so.room, one.room, ap nodes_in e, nodes_in-append laws less);
  like = like_both so.like one.like;
}

pub made_end : {left whole : List PlainGroundLaw} {was there : List GroundLaw} {old new : Maker} → MadeSoFar left whole was there old new → left ≡ [] → HasMade whole was there old new
made_end {left} {whole} {was} {there} {old} {new} so e = record {
  made = sym (append-nil (map plain_ground_law there)) ∙ ap (λ (l : List PlainGroundLaw). map plain_ground_law there ++ l) (sym e) ∙ so.made;
  room = omega (arith, so.room, ap nodes_in e);
  like = so.like;
}

pub made_lacks : {left whole : List PlainGroundLaw} (laws less : List PlainGroundLaw) {was there : List GroundLaw} {old mid : Maker} (halt : Halt) → MadeSoFar left whole was there old mid → left ≡ laws ++ less →
    LacksRoom (nodes_in laws) mid.room halt → LacksRoom (nodes_in whole) old.room halt
made_lacks laws less halt so e lacks = lacks_more halt (λ few. omega (arith, so.room, ap nodes_in e, nodes_in-append laws less)) lacks

map_pairs : (base one : ℕ) (others : List ℕ) → map (pair_law base) (map (λ (other : ℕ). (one, other)) others) ≡ map (λ other. pair_law base (one, other)) others
map_pairs base one [] = refl
map_pairs base one (other ∷ others) = ap (λ (l : List PlainGroundLaw). pair_law base (one, other) ∷ l) (map_pairs base one others)

pub first_pairs : (base one : ℕ) (others left : List ℕ) → left ≡ one ∷ others →
    map (pair_law base) (pairs_of left) ≡ map (λ other. pair_law base (one, other)) others ++ map (pair_law base) (pairs_of others)
first_pairs base one others left e =
    ap (λ (l : List ℕ). map (pair_law base) (pairs_of l)) e
    ∙ map-append (pair_law base) (map (λ (other : ℕ). (one, other)) others) (pairs_of others)
    ∙ ap (λ (l : List PlainGroundLaw). l ++ map (pair_law base) (pairs_of others)) (map_pairs base one others)

-- what holds of what a result was made to be holds of it
pub as_made : {A E B : Type 0} (view : A → B) (P : B → Type 0) (result : Result A E) (made : B) → P made → IfOk result (λ a. view a ≡ made) → IfOk result (λ a. P (view a))
as_made view P (Ok a) made holds e = subst P (sym e) holds
as_made view P (Err fault) made holds e = tt

pub pair_made : (base one : ℕ) (others : List ℕ) (i other : ℕ) {whole : List PlainGroundLaw} {was there next : List GroundLaw} {old mid new : Maker} → MadeSoFar (map (λ other. pair_law base (one, other)) (drop i others)) whole was there old mid → i < length others →
    other ≡ get_or others i 0 → HasMade (pair_law base (one, other) ∷ []) there next mid new → MadeSoFar (map (λ other. pair_law base (one, other)) (drop (i + 1) others)) whole was next old new
pair_made base one others i other so within is made =
    made_more so (at_drop_more (map (λ other. pair_law base (one, other))) others i 0 within ∙ ap (λ (o : ℕ). pair_law base (one, o) ∷ map (λ other. pair_law base (one, other)) (drop (i + 1) others)) (sym is)) made

pub pairs_made : (base one : ℕ) (others : List ℕ) (i : ℕ) {whole : List PlainGroundLaw} {was there : List GroundLaw} {old new : Maker} → MadeSoFar (map (λ other. pair_law base (one, other)) (drop i others)) whole was there old new → length others ≤ i → HasMade whole was there old new
pairs_made base one others i so past = made_end so (at_drop_all (map (λ other. pair_law base (one, other))) others i past)

pub one_made : (law : GroundLaw) (plain : PlainGroundLaw) (was now : List GroundLaw) → now ≡ was ++ law ∷ [] → plain_ground_law law ≡ plain → map plain_ground_law now ≡ map plain_ground_law was ++ plain ∷ []
one_made law plain was now pushed same = ap (map plain_ground_law) pushed ∙ map-append plain_ground_law was (law ∷ []) ∙ ap (λ (p : PlainGroundLaw). map plain_ground_law was ++ p ∷ []) same

pub pair_room : (base one other last mid first : ℕ) → last + 1 ≡ mid → mid + 3 ≡ first → last + nodes_in (pair_law base (one, other) ∷ []) ≡ first
pair_room base one other last mid first second before = omega arith

put_clear : {X : Type 0} (had now part : List X) → had ≡ [] → now ≡ had ++ part → now ≡ part
put_clear had now part none is = is ∙ ap (λ l. l ++ part) none

pub placed : {X : Type 0} (slice part had now placed_now : List X) → had ≡ [] → now ≡ had ++ part → slice ≡ now → placed_now ≡ slice → placed_now ≡ part
placed slice part had now placed_now none is same copied = copied ∙ same ∙ put_clear had now part none is

pub part_like : (part : Option kept.Formula) {a b : Maker} → IsLike a b →
    option_map (λ f. nodes_of (universe_in b) (environment_of b.env) (plain_formula f)) part ≡ option_map (nodes_of (universe_in a) (environment_of a.env)) (option_map plain_formula part)
part_like None like = refl
part_like (Some f) like = ap Some (nodes_like (plain_formula f) like)

pub law_room : (last mid first body : ℕ) (part same : Option (List Node)) → last + length_of_part part ≡ mid → part ≡ same → mid + body ≡ first → last + (body + length_of_part same + 0) ≡ first
law_room last mid first body part same second is before = let e = ap length_of_part is in omega (arith, second, e, before)
