-- Entries by name: a name is where its key is, and a new key goes last.
use Rattle.std.proofs.Common.{◌≡◌, ◌∙◌, ℕ, ◌+◌, Bool, true, false, cond, List, [], ◌∷◌, ◌++◌, map, Option, Some, None, position, slice_get, option_map, refl, sym, ap}
use Rattle.std.specs.List.{position_from}
use Rattle.std.specs.Map.{keys_of}
use Rattle.std.proofs.lemmas.Iterator.Adapters.{position_from-zero}
use Rattle.std.proofs.lemmas.Option.{slice_get-map}
use Rattle.indexmap.specs.IndexMap.{insert_entry}
use Rattle.cc_defs.specs.Grammar.{same_text}
use Rattle.cc_sorts.specs.Dictionaries.{number_of, names_of, values_of}

module _ {K : Type 0} (bytes : K → List ℕ) where
  abbrev pub same_key : K → K → Bool
  same_key key other = same_text (bytes key) (bytes other)

module _ {K V : Type 0} (bytes : K → List ℕ) where
  abbrev pub seen : List (K × V) → List (List ℕ × V)
  seen entries = map (λ entry. (bytes entry.0, entry.1)) entries

  number_from : (name : List ℕ) (n : ℕ) (entries : List (K × V)) →
      position_from (same_text name) n (names_of (seen entries)) ≡ position_from (λ key. same_text name (bytes key)) n (keys_of entries)
  number_from name n [] = refl
  number_from name n (entry ∷ entries) = ap (λ found. cond (same_text name (bytes entry.0)) (Some n) found) (number_from name (n + 1) entries)

  -- a name has the number of its key
  pub number_of_key : (name : List ℕ) (entries : List (K × V)) →
      number_of (names_of (seen entries)) name ≡ position (λ key. same_text name (bytes key)) (keys_of entries)
  number_of_key name entries =
      position_from-zero (same_text name) (names_of (seen entries)) ∙ number_from name 0 entries
      ∙ sym (position_from-zero (λ key. same_text name (bytes key)) (keys_of entries))

  through : {X : Type 0} (entries : List (K × V)) (number : ℕ) (f : List ℕ × V → X) →
      slice_get (map f (seen entries)) number ≡ option_map f (option_map (λ (e : K × V). (bytes e.0, e.1)) (slice_get entries number))
  through entries number f =
      slice_get-map f (seen entries) number ∙ ap (option_map f) (slice_get-map (λ (e : K × V). (bytes e.0, e.1)) entries number)

  -- the name and the value of a number are those of its entry
  pub name_there : (entries : List (K × V)) (view : List (List ℕ × V)) (number : ℕ) (entry : K × V) →
      seen entries ≡ view → Some entry ≡ slice_get entries number → Some (bytes entry.0) ≡ slice_get (names_of view) number
  name_there entries view number entry is there =
      ap (λ (found : Option (K × V)). option_map (λ (e : List ℕ × V). e.0) (option_map (λ (e : K × V). (bytes e.0, e.1)) found)) there
      ∙ sym (through entries number (λ (e : List ℕ × V). e.0)) ∙ ap (λ (w : List (List ℕ × V)). slice_get (names_of w) number) is

  pub value_there : (entries : List (K × V)) (view : List (List ℕ × V)) (number : ℕ) (found : Option (K × V)) →
      seen entries ≡ view → found ≡ slice_get entries number →
      option_map (λ (e : List ℕ × V). e.1) (option_map (λ (e : K × V). (bytes e.0, e.1)) found) ≡ slice_get (values_of view) number
  value_there entries view number found is there =
      ap (λ (f : Option (K × V)). option_map (λ (e : List ℕ × V). e.1) (option_map (λ (e : K × V). (bytes e.0, e.1)) f)) there
      ∙ sym (through entries number (λ (e : List ℕ × V). e.1)) ∙ ap (λ (w : List (List ℕ × V)). slice_get (values_of w) number) is

  new_from : (n : ℕ) (entries : List (K × V)) (key : K) (value : V) →
      position_from (same_text (bytes key)) n (names_of (seen entries)) ≡ None →
      seen (insert_entry (same_key bytes) entries key value) ≡ seen entries ++ (bytes key, value) ∷ []
  new_from n [] key value none = refl
  new_from n (entry ∷ entries) key value none = other (same_key bytes key entry.0) none (new_from (n + 1) entries key value)
    where
      other : (same : Bool) → cond same (Some n) (position_from (same_text (bytes key)) (n + 1) (names_of (seen entries))) ≡ None →
          (position_from (same_text (bytes key)) (n + 1) (names_of (seen entries)) ≡ None → seen (insert_entry (same_key bytes) entries key value) ≡ seen entries ++ (bytes key, value) ∷ []) →
          seen (cond same ((entry.0, value) ∷ entries) (entry ∷ insert_entry (same_key bytes) entries key value)) ≡ seen (entry ∷ entries) ++ (bytes key, value) ∷ []
      other true none more = absurd cc
      other false none more = ap (λ rest. (bytes entry.0, entry.1) ∷ rest) (more none)

  -- a new name goes last
  pub new_goes_last : (entries : List (K × V)) (key : K) (value : V) → number_of (names_of (seen entries)) (bytes key) ≡ None →
      seen (insert_entry (same_key bytes) entries key value) ≡ seen entries ++ (bytes key, value) ∷ []
  new_goes_last entries key value none =
      new_from 0 entries key value (sym (position_from-zero (same_text (bytes key)) (names_of (seen entries))) ∙ none)
