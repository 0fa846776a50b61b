-- The ground laws of frames and those of heads, instance by instance, are the ground laws of laws with heads of any form.
use Rattle.std.proofs.Common.{◌≡◌, ◌∙◌, ℕ, ◌+◌, Bool, true, false, List, [], ◌∷◌, ◌++◌, map, flat_map, filter, Option, Some, None, is_some, refl, sym, ap}
use Rattle.std.specs.Prelude.{◌&&◌, if◌then◌else◌}
use Rattle.std.proofs.lemmas.Grind.{flat_map-append}
use Rattle.std.proofs.lemmas.List.{map-append}
use Rattle.cc_arena.specs.Laws.{HeadsThereAreGround}
use Rattle.cc_defs.specs.declared.node.GroundHead.{GroundHead}
use Rattle.cc_defs.specs.declared.node.Node.{Node}
use Rattle.cc_defs.specs.Environments.{Instance, Together, Under, choices, has_instance, instances_from, instances_of, pairs_of, passes, range_values}
use Rattle.cc_defs.specs.GroundLaws.{PlainGroundLaw, ground_head, ground_laws, law_of_instance, law_with}
use Rattle.cc_defs.specs.Resolved.{BaseLaw, Law}
use Rattle.cc_defs.specs.Satisfaction.{giving, head_is_there}
use Rattle.cc_defs.specs.Terms.{postfix}
use Rattle.cc_defs.specs.Terms as terms
use Rattle.cc_defs.specs.Universe.{Universe, boolean_actions}
use Rattle.cc_wide.specs.WideGrounds.{PlainWideGround, wide_ground_of}
use Rattle.cc_wide.specs.WideLaws.{NoConcurrency, One, WideBase, WideLaw, frame_base, frame_law}
use Rattle.cc_wide.specs.WideRules.{wide_instances_from, wide_instances_of}
use Rattle.cc_wide.specs.WideRules as wide
use Rattle.cc_wide_ground.specs.Joining.{joined}
use Rattle.cc_wide_ground.specs.WideGrounding.{head_base, head_law}

-- the term of `false`
abbrev pub false_term : List Node
false_term = postfix terms.Falsehood

both_hold : (a b : Bool) → (a && b) ≡ true → b ≡ true
both_hold true b e = e
both_hold false b e = absurd cc

is_found : (found : Option GroundHead) → is_some found ≡ true → (head : GroundHead) × (found ≡ Some head)
is_found (Some head) e = (head, refl)
is_found None e = absurd cc

module _ (u : Universe) (there : HeadsThereAreGround) where
  -- the ground laws of instances
  abbrev laws_in : List Instance → List PlainGroundLaw
  laws_in instances = flat_map (law_of_instance u) instances

  -- an instance has a ground head
  ground_there : (law : Law) (values : List ℕ) → has_instance u law values ≡ true → (head : GroundHead) × (ground_head u (giving values) law.head ≡ Some head)
  ground_there law values e =
      is_found (ground_head u (giving values) law.head)
      (sym (there u (giving values) law.head) ∙ both_hold (passes u law.test values) (head_is_there u (giving values) law.head) e)

  module _ (base : ℕ) (laws more : List PlainGroundLaw) where
    -- what is put together of a law under these lists of values, with others behind it
    abbrev put_together : WideLaw → List (List ℕ) → List PlainWideGround
    put_together law lists =
        joined false_term (laws_in (map (Under base (frame_law law)) lists) ++ laws) (laws_in (map (Under base (head_law law)) lists) ++ more)

    abbrev told_under : WideLaw → List (List ℕ) → List PlainWideGround
    told_under law lists = map (wide_ground_of u) (map (wide.Under base law) lists) ++ joined false_term laws more

    next : (law : WideLaw) (values : List ℕ) (lists : List (List ℕ)) → has_instance u (frame_law law) values ≡ true →
        put_together law lists ≡ told_under law lists → put_together law (values ∷ lists) ≡ told_under law (values ∷ lists)
    next law values lists passes others =
        ap (λ (head : Option GroundHead). joined false_term
        ((law_with u base (frame_law law) (giving values) head ++ laws_in (map (Under base (frame_law law)) lists)) ++ laws)
        ((law_with u base (head_law law) (giving values) head ++ laws_in (map (Under base (head_law law)) lists)) ++ more))
        (ground_there (frame_law law) values passes).1
        ∙ ap (λ (made : List PlainWideGround). wide_ground_of u (wide.Under base law values) ∷ made) others

    of_law : (law : WideLaw) (lists : List (List ℕ)) →
        put_together law (filter (has_instance u (frame_law law)) lists) ≡ told_under law (filter (has_instance u (frame_law law)) lists)
    of_law law [] = refl
    of_law law (values ∷ lists) = here (has_instance u (frame_law law) values) refl (filter (has_instance u (frame_law law)) lists) (of_law law lists)
      where
        here : (passing : Bool) → has_instance u (frame_law law) values ≡ passing → (left : List (List ℕ)) →
            put_together law left ≡ told_under law left →
            put_together law (if passing then values ∷ left else left) ≡ told_under law (if passing then values ∷ left else left)
        here true e left others = next law values left e others
        here false e left others = others

    of_pairs : (pairs : List (ℕ × ℕ)) →
        joined false_term (laws_in (map (Together base) pairs) ++ laws) (laws_in (map (Together base) pairs) ++ more)
        ≡ map (wide_ground_of u) (map (wide.Together base) pairs) ++ joined false_term laws more
    of_pairs [] = refl
    of_pairs (pair ∷ pairs) = ap (λ (made : List PlainWideGround). wide_ground_of u (wide.Together base pair) ∷ made) (of_pairs pairs)

    of_base : (law : WideBase) →
        joined false_term (laws_in (instances_of u base (frame_base law)) ++ laws) (laws_in (instances_of u base (head_base law)) ++ more)
        ≡ map (wide_ground_of u) (wide_instances_of u base law) ++ joined false_term laws more
    of_base (One law) = of_law law (choices (map (range_values u) law.ranges))
    of_base (NoConcurrency file line) = of_pairs (pairs_of (boolean_actions u))

  of_all : (base : ℕ) (laws : List WideBase) →
      joined false_term (laws_in (instances_from u base (map frame_base laws))) (laws_in (instances_from u base (map head_base laws)))
      ≡ map (wide_ground_of u) (wide_instances_from u base laws)
  of_all base [] = refl
  of_all base (law ∷ laws) =
      let frames = instances_from u (base + 1) (map frame_base laws) in
      let heads = instances_from u (base + 1) (map head_base laws) in
      ap (λ (made : List PlainGroundLaw). joined false_term made (laws_in (instances_of u base (head_base law) ++ heads)))
      (flat_map-append (law_of_instance u) (instances_of u base (frame_base law)) frames)
      ∙ ap (λ (made : List PlainGroundLaw). joined false_term (laws_in (instances_of u base (frame_base law)) ++ laws_in frames) made)
      (flat_map-append (law_of_instance u) (instances_of u base (head_base law)) heads)
      ∙ of_base base (laws_in frames) (laws_in heads) law
      ∙ ap (λ (made : List PlainWideGround). map (wide_ground_of u) (wide_instances_of u base law) ++ made) (of_all (base + 1) laws)
      ∙ sym (map-append (wide_ground_of u) (wide_instances_of u base law) (wide_instances_from u (base + 1) laws))

  -- what was grounded, put together
  pub all_made : (laws : List WideBase) (frames heads : List BaseLaw) (parts told : List PlainGroundLaw) (falsehood : List Node) →
      frames ≡ map frame_base laws → heads ≡ map head_base laws → parts ≡ ground_laws u frames → told ≡ ground_laws u heads → falsehood ≡ false_term →
      joined falsehood parts told ≡ map (wide_ground_of u) (wide_instances_from u 0 laws)
  all_made laws frames heads parts told falsehood framed headed parted headed_so falsely =
      ap (λ (term : List Node). joined term parts told) falsely
      ∙ ap (λ (made : List PlainGroundLaw). joined false_term made told) (parted ∙ ap (ground_laws u) framed)
      ∙ ap (λ (made : List PlainGroundLaw). joined false_term (ground_laws u (map frame_base laws)) made) (headed_so ∙ ap (ground_laws u) headed)
      ∙ of_all 0 laws
