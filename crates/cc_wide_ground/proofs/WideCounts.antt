-- How many nodes parts have, and heads, against those of laws with heads of any form; and which refusal comes of it.
use Rattle.std.proofs.Common.{◌≡◌, ◌∙◌, ℕ, ◌+◌, ◌≤◌, ◌<◌, Bool, true, false, List, [], ◌∷◌, ◌++◌, length, map, flat_map, drop, get_or, Option, Some, None, Result, Ok, Err, IfErr, IsErrAnd, refl, sym, ap, subst, arith}
use Rattle.std.specs.Prelude.{if◌then◌else◌, nat_lt, min}
use Rattle.std.specs.Option.{option_map, option_or}
use Rattle.std.proofs.lemmas.Bool.{le-ltb, lt-ltb, ltb-true}
use Rattle.std.proofs.lemmas.Grind.{flat_map-append}
use Rattle.std.proofs.lemmas.List.{drop_all, drop_more, map-append}
use Rattle.cc_defs.specs.declared.node.GroundHead.{GroundHead}
use Rattle.cc_defs.specs.declared.refusal.Fault.{Fault}
use Rattle.cc_defs.specs.declared.refusal.Fault.TheVariants as faults
use Rattle.cc_defs.specs.declared.refusal.LimitAt.TheVariants as limits
use Rattle.cc_defs.specs.declared.refusal.Refusal.{Refusal}
use Rattle.cc_defs.specs.Environments.{Instance, Together, Under, instances_from, instances_of, pairs_of}
use Rattle.cc_defs.specs.GroundLaws.{PlainGroundLaw, ground_head, ground_laws, law_of_instance, law_with}
use Rattle.cc_defs.specs.Refusals.{IsRefusedBy, past}
use Rattle.cc_defs.specs.Resolved.{BaseLaw}
use Rattle.cc_defs.specs.Satisfaction.{giving}
use Rattle.cc_defs.specs.Universe.{Universe, boolean_actions}
use Rattle.cc_ground.specs.Counting.{length_of_part, node_refusal, nodes_in}
use Rattle.cc_wide.specs.WideGrounds.{PlainWideGround, plain_wide_ground, wide_ground_of}
use Rattle.cc_wide.specs.declared.ground.WideGroundLaw.{WideGroundLaw}
use Rattle.cc_wide.specs.WideLaws.{NoConcurrency, One, WideBase, WideLaw, frame_base}
use Rattle.cc_wide.specs.WideRules.{WideInstance, wide_environments, wide_instances_from, wide_instances_of}
use Rattle.cc_wide.specs.WideRules as wide
use Rattle.cc_wide_ground.specs.declared.bases.Share.{Share}
use Rattle.cc_wide_ground.specs.declared.bases.Share.TheVariants as shares
use Rattle.cc_wide_ground.specs.Shares.{base_by, law_by}
use Rattle.cc_wide_ground.specs.WideGrounding.{counts_refusal, head_base, wide_laws_refusal, wide_nodes_in}

-- ---- nodes

nodes_append : (laws more : List PlainGroundLaw) → nodes_in (laws ++ more) ≡ nodes_in laws + nodes_in more
nodes_append [] more = omega arith
nodes_append (law ∷ laws) more = let rest = nodes_append laws more in omega arith

wide_append : (laws more : List PlainWideGround) → wide_nodes_in (laws ++ more) ≡ wide_nodes_in laws + wide_nodes_in more
wide_append [] more = omega arith
wide_append (law ∷ laws) more = let rest = wide_append laws more in omega arith

module _ (u : Universe) where
  -- the nodes of a share of the laws of instances, and of instances of laws with heads of any form
  abbrev share_nodes : List Instance → ℕ
  share_nodes instances = nodes_in (flat_map (law_of_instance u) instances)

  abbrev all_nodes : List WideInstance → ℕ
  all_nodes instances = wide_nodes_in (map (wide_ground_of u) instances)

  of_one : (share : Share) (head : Option GroundHead) (base : ℕ) (law : WideLaw) (values : List ℕ) →
      nodes_in (law_with u base (law_by share law) (giving values) head) ≤ all_nodes (wide.Under base law values ∷ [])
  of_one share None base law values = omega arith
  of_one shares.Parts (Some head) base law values = omega arith
  of_one shares.Head (Some head) base law values = omega arith

  of_lists : (share : Share) (base : ℕ) (law : WideLaw) (lists : List (List ℕ)) →
      share_nodes (map (Under base (law_by share law)) lists) ≤ all_nodes (map (wide.Under base law) lists)
  of_lists share base law [] = omega arith
  of_lists share base law (values ∷ lists) =
      let one = of_one share (ground_head u (giving values) (law_by share law).head) base law values in
      let rest = of_lists share base law lists in
      let joined = nodes_append (law_of_instance u (Under base (law_by share law) values)) (flat_map (law_of_instance u) (map (Under base (law_by share law)) lists)) in
      omega arith

  of_pairs : (base : ℕ) (pairs : List (ℕ × ℕ)) → share_nodes (map (Together base) pairs) ≤ all_nodes (map (wide.Together base) pairs)
  of_pairs base [] = omega arith
  of_pairs base (pair ∷ pairs) = let rest = of_pairs base pairs in omega arith

  of_base : (share : Share) (base : ℕ) (law : WideBase) → share_nodes (instances_of u base (base_by share law)) ≤ all_nodes (wide_instances_of u base law)
  of_base shares.Parts base (One law) = of_lists shares.Parts base law (wide_environments u law)
  of_base shares.Head base (One law) = of_lists shares.Head base law (wide_environments u law)
  of_base shares.Parts base (NoConcurrency file line) = of_pairs base (pairs_of (boolean_actions u))
  of_base shares.Head base (NoConcurrency file line) = of_pairs base (pairs_of (boolean_actions u))

  -- no share of laws has more nodes than the laws
  of_all : (share : Share) (base : ℕ) (laws : List WideBase) → share_nodes (instances_from u base (map (base_by share) laws)) ≤ all_nodes (wide_instances_from u base laws)
  of_all share base [] = omega arith
  of_all share base (law ∷ laws) =
      let first = instances_of u base (base_by share law) in
      let others = instances_from u (base + 1) (map (base_by share) laws) in
      let told = wide_instances_of u base law in
      let more = wide_instances_from u (base + 1) laws in
      let one = of_base share base law in
      let rest = of_all share (base + 1) laws in
      let split = ap nodes_in (flat_map-append (law_of_instance u) first others) ∙ nodes_append (flat_map (law_of_instance u) first) (flat_map (law_of_instance u) others) in
      let whole = ap wide_nodes_in (map-append (wide_ground_of u) told more) ∙ wide_append (map (wide_ground_of u) told) (map (wide_ground_of u) more) in
      omega arith

-- ---- refusals

many_stay : (count more : ℕ) (refusal : Refusal) → count ≤ more → node_refusal count ≡ Some refusal → node_refusal more ≡ Some refusal
many_stay count more refusal within e = here (nat_lt 16000000 count) refl e
  where
    here : (many : Bool) → nat_lt 16000000 count ≡ many → (if many then Some (past limits.GroundNodes) else None) ≡ Some refusal → node_refusal more ≡ Some refusal
    here true over same = ap (λ (b : Bool). if b then Some (past limits.GroundNodes) else None) (lt-ltb 16000000 more (let past = ltb-true 16000000 count over in omega arith)) ∙ same
    here false over same = absurd cc

pub err_refused : {X : Type 0} (refusal : Option Refusal) (result : Result X Fault) (fault : Fault) → IsErrAnd result (λ given. given ≡ fault) → IsRefusedBy refusal fault → IfErr result (IsRefusedBy refusal)
err_refused refusal (Ok made) fault failed refused = tt
err_refused refusal (Err given) fault failed refused = subst (IsRefusedBy refusal) (sym failed) refused

-- where neither instances nor lists of values are too many
module _ (u : Universe) (laws : List WideBase) (frames heads : List BaseLaw) (framed : frames ≡ map frame_base laws) (headed : heads ≡ map head_base laws) (counted : counts_refusal u frames heads ≡ None) where
  abbrev nodes : ℕ
  nodes = wide_nodes_in (map (wide_ground_of u) (wide_instances_from u 0 laws))

  nodes_alone : wide_laws_refusal u laws ≡ node_refusal nodes
  nodes_alone =
      ap (λ (o : Option Refusal). option_or o (node_refusal nodes))
      (ap (λ (l : List BaseLaw). counts_refusal u l (map head_base laws)) (sym framed) ∙ ap (counts_refusal u frames) (sym headed) ∙ counted)

  share_refused : (share : Share) (bases : List BaseLaw) (fault : Fault) → bases ≡ map (base_by share) laws → IsRefusedBy (node_refusal (nodes_in (ground_laws u bases))) fault → IsRefusedBy (wide_laws_refusal u laws) fault
  share_refused share bases faults.OutOfMemory is refused = tt
  share_refused share bases (faults.Refused given) is refused =
      nodes_alone ∙ many_stay (nodes_in (ground_laws u bases)) nodes given (subst (λ (l : List BaseLaw). nodes_in (ground_laws u l) ≤ nodes) (sym is) (of_all u share 0 laws)) refused

  -- too many nodes of parts, or of heads
  pub parts_refused : (fault : Fault) → IsRefusedBy (node_refusal (nodes_in (ground_laws u frames))) fault → IsRefusedBy (wide_laws_refusal u laws) fault
  parts_refused fault = share_refused shares.Parts frames fault framed

  pub heads_refused : (fault : Fault) → IsRefusedBy (node_refusal (nodes_in (ground_laws u heads))) fault → IsRefusedBy (wide_laws_refusal u laws) fault
  heads_refused fault = share_refused shares.Head heads fault headed

  -- the nodes of all laws, counted
  module _ (made : List PlainWideGround) (count limit : ℕ) (is : made ≡ map (wide_ground_of u) (wide_instances_from u 0 laws)) (told : count ≡ min (wide_nodes_in made) 16000001) (first : limit ≡ 16000000) where
    pub many_nodes : (refusal : Refusal) → limit < count → refusal ≡ past limits.GroundNodes → wide_laws_refusal u laws ≡ Some refusal
    many_nodes refusal many past_it =
        nodes_alone ∙ ap node_refusal (sym (ap wide_nodes_in is))
        ∙ ap (λ (b : Bool). if b then Some (past limits.GroundNodes) else None) (lt-ltb 16000000 (wide_nodes_in made) (omega (arith, told, first, many))) ∙ ap Some (sym past_it)

    pub few_nodes : count ≤ limit → wide_laws_refusal u laws ≡ None
    few_nodes few =
        nodes_alone ∙ ap node_refusal (sym (ap wide_nodes_in is))
        ∙ ap (λ (b : Bool). if b then Some (past limits.GroundNodes) else None) (le-ltb 16000000 (wide_nodes_in made) (omega (arith, told, first, few)))

-- ---- the loop

pub counted_more : (laws : List WideGroundLaw) (i count next : ℕ) (default : WideGroundLaw) → i < length laws →
    next ≡ min (count + length (get_or laws i default).head.now + length (get_or laws i default).body.now + length_of_part (option_map (λ nodes. nodes.now) (get_or laws i default).after)) 16000001 →
    min (count + wide_nodes_in (map plain_wide_ground (drop i laws))) 16000001 ≡ min (wide_nodes_in (map plain_wide_ground laws)) 16000001 →
    min (next + wide_nodes_in (map plain_wide_ground (drop (i + 1) laws))) 16000001 ≡ min (wide_nodes_in (map plain_wide_ground laws)) 16000001
counted_more laws i count next default within made so =
    let whole = ap (λ (l : List WideGroundLaw). wide_nodes_in (map plain_wide_ground l)) (drop_more laws i default within) in
    omega (arith, made, so, whole)

pub counted_all : (laws : List WideGroundLaw) (i count : ℕ) → length laws ≤ i → count ≤ 16000001 →
    min (count + wide_nodes_in (map plain_wide_ground (drop i laws))) 16000001 ≡ min (wide_nodes_in (map plain_wide_ground laws)) 16000001 →
    count ≡ min (wide_nodes_in (map plain_wide_ground laws)) 16000001
counted_all laws i count past few so =
    let whole = ap (λ (l : List WideGroundLaw). wide_nodes_in (map plain_wide_ground l)) (drop_all i laws past) in
    omega (arith, so, whole, few)
