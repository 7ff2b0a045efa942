-- The sets that images are copied from are among those that were given.
use Rattle.std.specs.Prelude.{◌≡◌, ◌<◌, ◌≤◌, ◌+◌, ◌++◌, ℕ, suc, List, [], ◌∷◌, length, map, All, IfOk, Result, Ok, Err}
use Rattle.std.specs.List.{AllByRecursion}
use Rattle.std.proofs.Common.{refl, ap, subst, arith}
use Rattle.std.proofs.lemmas.List.{get_or-map, length-map}
use Rattle.dd_catalogue.specs.Harmony.{harmonised}
use Rattle.dd_dir.specs.Own.{Listed}
use Rattle.dd_layout.specs.Limits.{Limits}
use Rattle.dd_layout.specs.Plans.{records_of}
use Rattle.dd_engine.specs.declared.choice.Choice.{Choice}
use Rattle.dd_engine.specs.declared.merge.Merged.{Merged}
use Rattle.dd_engine.specs.declared.merge_fault.MergeFault.{MergeFault}
use Rattle.dd_engine.specs.Choosing.{label_for}
use Rattle.dd_engine.specs.Merging.{AreOwn, Merges, SetListing, held_in, numbered, pick_view, places_in, stands_at}
use Rattle.dd_engine.specs.Merging.{stands_in}
use Rattle.dd_engine.proofs.ImagePicks.{holds_of_picks}

-- the numbers of these images are below this one
abbrev pub AreBelow : ℕ → List (ℕ × Listed) → Type 0
AreBelow n images = AllByRecursion (λ image. image.0 < n) images

below_append : (n : ℕ) (xs ys : List (ℕ × Listed)) → AreBelow n xs → AreBelow n ys → AreBelow n (xs ++ ys)
below_append n [] ys front back = back
below_append n (x ∷ xs) ys front back = (front.0, below_append n xs ys front.1 back)

one_below : (n at : ℕ) (images : List Listed) → at < n → AreBelow n (map (λ image. (at, image)) images)
one_below n at [] below = tt
one_below n at (image ∷ images) below = (below, one_below n at images below)

numbered_below : (n at : ℕ) (listings : List SetListing) → at + length listings ≤ n
    → AreBelow n (numbered at listings)
numbered_below n at [] within = tt
numbered_below n at (first ∷ listings) within =
    below_append n (map (λ image. (at, image)) first.images) (numbered (suc at) listings)
    (one_below n at first.images (omega arith)) (numbered_below n (suc at) listings (omega arith))

-- and so are the numbers of their places
places_below : (n : ℕ) (images : List (ℕ × Listed)) → AreBelow n images
    → AllByRecursion (λ mark. mark.0.0 < n) (map (λ place. stands_at place) (places_in images))
places_below n [] below = tt
places_below n (image ∷ images) below = (below.0, places_below n images below.1)

pub many_own : (sets : List (List ℕ)) (listings : List SetListing) → AreOwn sets listings
    → length listings ≡ length sets
many_own [] [] own = refl
many_own [] (first ∷ listings) own = absurd own
many_own (set ∷ sets) [] own = absurd own
many_own (set ∷ sets) (first ∷ listings) own = ap suc (many_own sets listings own.1)

-- the numbers of all sets are below the count of sets
pub all_numbered_below : (sets : List (List ℕ)) (listings : List SetListing) → AreOwn sets listings
    → AreBelow (length sets) (numbered 0 listings)
all_numbered_below sets listings own =
    numbered_below (length sets) 0 listings (omega (arith, many_own sets listings own))

-- what holds of all elements of a mapped list holds of the elements, mapped
pub unmapped : {A B : Type 0} (P : B → Type 0) (f : A → B) (xs : List A) → All P (map f xs) → All (λ x. P (f x)) xs
unmapped P f xs all k d below =
    subst P (get_or-map f xs k d (f d) below) (all k (f d) (omega (arith, below, length-map xs f)))

pub picks_within : (choice : Choice) (limits : Limits) (given sets : List (List ℕ))
    (result : Result Merged MergeFault) → Merges choice limits given sets result
    → IfOk result (λ merged. All (λ pick. pick.set < length sets) merged.picks.items)
picks_within choice limits given sets (Ok merged) (listings, own, is) =
    let h = held_in given listings in
    let versions = harmonised h.versions in
    let below = all_numbered_below sets listings own in
    unmapped (λ (pick : ℕ × List ℕ). pick.0 < length sets) (λ pick. pick_view pick) merged.picks.items
    (holds_of_picks (λ (pick : ℕ × List ℕ). pick.0 < length sets) (stands_in listings) versions
    (records_of (label_for choice h.versions h.withdrawn) versions) (map (λ pick. pick_view pick) merged.picks.items)
    (places_below (length sets) (numbered 0 listings) below) is.picks)
picks_within choice limits given sets (Err fault) merges = tt
