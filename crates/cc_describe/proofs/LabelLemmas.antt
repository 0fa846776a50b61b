-- Labels by their texts: whether one is there, and a new one goes last.
use Rattle.std.proofs.Common.{◌≡◌, ◌∙◌, ℕ, Bool, true, false, ◌||◌, cond, if◌then◌else◌, List, [], ◌∷◌, ◌++◌, map, refl, sym, ap}
use Rattle.std.specs.List.{list_any}
use Rattle.std.proofs.lemmas.List.{map-append}
use Rattle.indexmap.specs.IndexSet.{insert_key}
use Rattle.cc_defs.specs.Grammar.{same_text}
use Rattle.cc_describe.specs.FirstRefusal.{is_among}

module _ {K : Type 0} (bytes : K → List ℕ) where
  -- a text is among those of the keys as the test of the keys says
  pub among_keys : (name : List ℕ) (keys : List K) → is_among (map bytes keys) name ≡ list_any (λ key. same_text name (bytes key)) keys
  among_keys name [] = refl
  among_keys name (key ∷ keys) = ap (λ found. same_text name (bytes key) || found) (among_keys name keys)

  -- a key goes last, if its text is not there
  pub texts_with : (keys : List K) (key : K) →
      map bytes (insert_key (λ one other. same_text (bytes one) (bytes other)) keys key)
      ≡ (if is_among (map bytes keys) (bytes key) then map bytes keys else map bytes keys ++ bytes key ∷ [])
  texts_with keys key =
      by (list_any (λ other. same_text (bytes key) (bytes other)) keys)
      ∙ ap (λ found. if found then map bytes keys else map bytes keys ++ bytes key ∷ []) (sym (among_keys (bytes key) keys))
    where
      by : (found : Bool) → map bytes (cond found keys (keys ++ key ∷ [])) ≡ (if found then map bytes keys else map bytes keys ++ bytes key ∷ [])
      by true = refl
      by false = map-append bytes keys (key ∷ [])
