-- The files of versions and the places of their images.
use Rattle.std.specs.Prelude.{◌≡◌, ℕ, List, [], ◌∷◌, map}
use Rattle.std.specs.List.{zip}
use Rattle.std.proofs.Common.{refl, ◌∙◌, ap, ap₂}
use Rattle.dd_dir.specs.Own.{Listed}
use Rattle.dd_dir.specs.OwnVersions.{version_of}
use Rattle.dd_version.specs.declared.parts.Parts.{Parts}
use Rattle.dd_engine.specs.declared.merge.Pick.{Pick}
use Rattle.dd_engine.specs.Merging.{pick_view, place_key, place_pick, places_in, stands_at, versions_in}
use Rattle.dd_engine.specs.Picking.{FileKey, file_of, files_of}
use Rattle.dd_engine.proofs.ImagePicks.{twice}

-- ---- the files of versions and their places, side by side

zip_maps : {A B C D : Type 0} (f : A → C) (g : B → D) (xs : List A) (ys : List B)
    → map (λ p. (f p.0, g p.1)) (zip xs ys) ≡ zip (map f xs) (map g ys)
zip_maps f g [] ys = refl
zip_maps f g (x ∷ xs) [] = refl
zip_maps f g (x ∷ xs) (y ∷ ys) = ap (λ l. (f x, g y) ∷ l) (zip_maps f g xs ys)

zip_same : {A C D : Type 0} (f : A → C) (g : A → D) (xs : List A)
    → zip (map f xs) (map g xs) ≡ map (λ x. (f x, g x)) xs
zip_same f g [] = refl
zip_same f g (x ∷ xs) = ap (λ l. (f x, g x) ∷ l) (zip_same f g xs)

-- a version has the file of its place
files_placed : (images : List (ℕ × Listed))
    → map (λ v. file_of v) (versions_in images) ≡ map (λ place. place_key place.1) (places_in images)
files_placed [] = refl
files_placed (image ∷ images) = ap (λ l. file_of (version_of image.1) ∷ l) (files_placed images)

-- what a mark says, with its place as a set and a File ID
abbrev pub told : Pick × FileKey → (ℕ × List ℕ) × FileKey
told mark = (pick_view mark.0, mark.1)

pub side_by_side : (images : List (ℕ × Listed)) (versions : List Parts) (picks : List Pick)
    → versions ≡ versions_in images
    → map (λ pick. pick_view pick) picks ≡ map (λ place. place_pick place) (places_in images)
    → map told (files_of (zip picks versions)) ≡ map (λ place. stands_at place) (places_in images)
side_by_side images versions picks v p =
    twice told (λ (version : Pick × Parts). (version.0, file_of version.1)) (zip picks versions)
    ∙ zip_maps (λ pick. pick_view pick) (λ version. file_of version) picks versions
    ∙ ap₂ (λ (a : List (ℕ × List ℕ)) (b : List FileKey). zip a b) p
    (ap (map (λ version. file_of version)) v ∙ files_placed images)
    ∙ zip_same (λ place. place_pick place) (λ place. place_key place.1) (places_in images)
