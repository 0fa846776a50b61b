-- The least number of a fault, by what each pass found.
use Rattle.std.proofs.Common.{◌≡◌, ℕ, Bool, true, false, if◌then◌else◌, Option, Some, None, ap, ◌∙◌}

abbrev pub chosen : Bool → Bool → Bool → Bool → Option ℕ
chosen twice unknown count sort = if twice then Some 4 else (if unknown then Some 5 else (if count then Some 6 else (if sort then Some 7 else None)))

pub chosen_4 : (twice unknown count sort : Bool) → true ≡ twice → Some 4 ≡ chosen twice unknown count sort
chosen_4 twice unknown count sort e = ap (λ t. chosen t unknown count sort) e

pub chosen_5 : (twice unknown count sort : Bool) → false ≡ twice → true ≡ unknown → Some 5 ≡ chosen twice unknown count sort
chosen_5 twice unknown count sort e f = ap (λ t. chosen false t count sort) f ∙ ap (λ t. chosen t unknown count sort) e

pub chosen_6 : (twice unknown count sort : Bool) → false ≡ twice → false ≡ unknown → true ≡ count → Some 6 ≡ chosen twice unknown count sort
chosen_6 twice unknown count sort e f g = ap (λ t. chosen false false t sort) g ∙ ap (λ t. chosen false t count sort) f ∙ ap (λ t. chosen t unknown count sort) e

pub chosen_7 : (twice unknown count sort : Bool) → false ≡ twice → false ≡ unknown → false ≡ count → true ≡ sort → Some 7 ≡ chosen twice unknown count sort
chosen_7 twice unknown count sort e f g h = ap (λ t. chosen false false false t) h ∙ ap (λ t. chosen false false t sort) g ∙ ap (λ t. chosen false t count sort) f ∙ ap (λ t. chosen t unknown count sort) e

pub chosen_none : (twice unknown count sort : Bool) → false ≡ twice → false ≡ unknown → false ≡ count → false ≡ sort → None ≡ chosen twice unknown count sort
chosen_none twice unknown count sort e f g h = ap (λ t. chosen false false false t) h ∙ ap (λ t. chosen false false t sort) g ∙ ap (λ t. chosen false t count sort) f ∙ ap (λ t. chosen t unknown count sort) e
