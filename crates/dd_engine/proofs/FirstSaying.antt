-- Where the file of the first version is that is filed as the planned one.
use Rattle.std.specs.Prelude.{◌≡◌, ◌<◌, ℕ, List, [], ◌∷◌, length, map, Option, Some, None, slice_get}
use Rattle.std.specs.Prelude.{option_map, IfOk, IfSome, Result, Ok, Err}
use Rattle.std.specs.List.{AllByRecursion}
use Rattle.std.proofs.Common.{◌∙◌, ap, arith, get_or, refl, sym, subst}
use Rattle.std.proofs.lemmas.List.{length-map}
use Rattle.std.proofs.lemmas.List.Elements.{All-from_recursion}
use Rattle.std.proofs.lemmas.Option.{get_or_from_slice_get, slice_get-map, slice_get_read, slice_get_within}
use Rattle.dd_dir.specs.Own.{Listed}
use Rattle.dd_dir.specs.OwnVersions.{place_of, version_of}
use Rattle.dd_version.specs.declared.parts.Parts.{Parts}
use Rattle.dd_engine.specs.declared.gathering.Gathered.{Gathered}
use Rattle.dd_engine.specs.declared.merge.Pick.{Pick}
use Rattle.dd_engine.specs.declared.merge_fault.MergeFault.{MergeFault}
use Rattle.dd_engine.specs.Merging.{AreOwn, SetListing, numbered, pick_view, place_pick, places_in}
use Rattle.dd_engine.specs.MergeSteps.{GathersOf}
use Rattle.dd_engine.specs.Saying.{AnswersSaying, IsFiledAt, IsFirstFiled, IsFirstSaying}
use Rattle.dd_engine.proofs.PicksWithin.{AreBelow, all_numbered_below}

-- there are as many picks as versions
picks_as_versions : (listings : List SetListing) (gathered : Gathered) → GathersOf [] listings gathered
    → length gathered.origins.items ≡ length gathered.versions.items
picks_as_versions listings gathered gathers =
    let images = numbered 0 listings in
    sym (length-map gathered.origins.items (λ pick. pick_view pick))
    ∙ ap (λ (places : List (ℕ × List ℕ)). length places) gathers.origins
    ∙ length-map (places_in images) (λ place. place_pick place)
    ∙ length-map images (λ image. (image.0, place_of image.1))
    ∙ sym (length-map images (λ image. version_of image.1))
    ∙ sym (ap (λ (versions : List Parts). length versions) gathers.versions)

-- the pick of the first version that is filed so is the place of its image
pub first_place : (planned : Parts) (listings : List SetListing) (gathered : Gathered) (at : ℕ) (pick : Pick)
    → GathersOf [] listings gathered → IsFirstFiled planned gathered.versions.items at
    → pick ≡ get_or gathered.origins.items at pick → IsFirstSaying planned (numbered 0 listings) (Some pick)
first_place planned listings gathered at pick gathers first read = (
  at,
  subst (λ (versions : List Parts). IsFirstFiled planned versions at) gathers.versions first,
  ap (λ (places : List (ℕ × List ℕ)). slice_get places at) (sym gathers.origins)
      ∙ slice_get-map (λ pick. pick_view pick) gathered.origins.items at
      ∙ ap (option_map (λ pick. pick_view pick)) (slice_get_read gathered.origins.items
      (length gathered.origins.items) at pick refl (within listings gathered at gathers first.here.within) read),
) where
  within : (listings : List SetListing) (gathered : Gathered) (at : ℕ) → GathersOf [] listings gathered
      → at < length gathered.versions.items → at < length gathered.origins.items
  within listings gathered at gathers below =
      let same = picks_as_versions listings gathered gathers in
      omega (arith, below, same)

-- where no version is filed so, None is the answer
pub no_place : (planned : Parts) (listings : List SetListing) (gathered : Gathered)
    → GathersOf [] listings gathered → ((at : ℕ) → ¬ IsFiledAt planned gathered.versions.items at)
    → IsFirstSaying planned (numbered 0 listings) None
no_place planned listings gathered gathers none = λ at is.
    none at (subst (λ (versions : List Parts). IsFiledAt planned versions at) (sym gathers.versions) is)

-- each place has the number of a set
places_below : (n : ℕ) (images : List (ℕ × Listed)) → AreBelow n images
    → AllByRecursion (λ place. place.0 < n) (map (λ place. place_pick place) (places_in images))
places_below n [] below = tt
places_below n (image ∷ images) below = (below.0, places_below n images below.1)

-- so has the pick that is found
pub place_within : (sets : List (List ℕ)) (listings : List SetListing) (planned : Parts) (pick : Pick)
    → AreOwn sets listings → IsFirstSaying planned (numbered 0 listings) (Some pick) → pick.set < length sets
place_within sets listings planned pick own (at, first, there) =
    let places = map (λ place. place_pick place) (places_in (numbered 0 listings)) in
    let all = All-from_recursion (λ (place : ℕ × List ℕ). place.0 < length sets) places
    (places_below (length sets) (numbered 0 listings) (all_numbered_below sets listings own)) in
    subst (λ (place : ℕ × List ℕ). place.0 < length sets)
    (get_or_from_slice_get places at (pick_view pick) (pick_view pick) there)
    (all at (pick_view pick) (slice_get_within places at (pick_view pick) there))

-- so has the pick of an answer
pub answer_within : (sets : List (List ℕ)) (planned : Parts) (answer : Result (Option Pick) MergeFault)
    → AnswersSaying planned sets answer → IfOk answer (λ found. IfSome found (λ pick. pick.set < length sets))
answer_within sets planned (Ok None) answers = tt
answer_within sets planned (Ok (Some pick)) answers =
    place_within sets answers.0 planned pick answers.1 answers.2
answer_within sets planned (Err fault) answers = tt
