-- What is gathered of one set more, and which set is the first that fails.
use Rattle.std.specs.Prelude.{◌≡◌, ◌≢◌, ◌<◌, ◌+◌, ℕ, suc, List, [], ◌∷◌, ◌++◌, length, map, take, get_or, Option, None}
use Rattle.std.specs.Prelude.{Some, Ok, Err}
use Rattle.std.specs.Borrow.{Bor}
use Rattle.std.proofs.Common.{refl, sym, ◌∙◌, ap, ap₂, inr, subst, arith, append_assoc}
use Rattle.std.proofs.lemmas.List.{append-nil, map-append, take_more}
use Rattle.dd_dir.specs.Own.{Listed, own}
use Rattle.dd_dir.specs.OwnVersions.{file_of, place_of, version_of}
use Rattle.dd_walk.specs.Reading.{IsWalk, Refuses}
use Rattle.dd_walk.specs.Trees.{Walk}
use Rattle.dd_dir.specs.Withdrawn.{AreRisingUids}
use Rattle.dd_walk.specs.WithdrawnPieces.{withdrawn_of}
use Rattle.dd_version.specs.declared.parts.Parts.{Parts}
use Rattle.dd_engine.specs.declared.gathering.Gathered.{Gathered}
use Rattle.dd_engine.specs.declared.merge.Pick.{Pick}
use Rattle.dd_engine.specs.declared.merge_fault.MergeFault.{MergeFault}
use Rattle.dd_engine.specs.declared.merge_fault.MergeFault.TheVariants.{Dir, Own, Plan, Memory}
use Rattle.dd_engine.specs.Merging.{AreOwn, IsFirst, IsForeign, IsOwn, SetListing, numbered, place_pick, places_in}
use Rattle.dd_engine.specs.Merging.{pick_view, versions_in, withdrawn_in}
use Rattle.dd_engine.specs.MergeSteps.{ArePlaced, FailsAt, Gathers, GathersAll, GathersOf, Withdrawal, withdrawals_from}
use Rattle.dd_engine.specs.MergeSteps.{withdrawals_in}
use Rattle.dd_engine.proofs.ImagePicks.{twice}

-- ---- what one set more lists

own_after : (sets : List (List ℕ)) (listings : List SetListing) (set : List ℕ) (last : SetListing)
    → AreOwn sets listings → IsOwn set last → AreOwn (sets ++ set ∷ []) (listings ++ last ∷ [])
own_after [] [] set last all own = (own, tt)
own_after [] (first ∷ listings) set last all own = absurd all
own_after (first ∷ sets) [] set last all own = absurd all
own_after (first ∷ sets) (listed ∷ listings) set last all own = (all.0, own_after sets listings set last all.1 own)

pub own_more : (sets : List (List ℕ)) (i : ℕ) (listings : List SetListing) (last : SetListing) → i < length sets
    → AreOwn (take i sets) listings → IsOwn (get_or sets i []) last
    → AreOwn (take (i + 1) sets) (listings ++ last ∷ [])
own_more sets i listings last below all own =
    subst (λ l. AreOwn l (listings ++ last ∷ [])) (sym (take_more sets i [] below))
    (own_after (take i sets) listings (get_or sets i []) last all own)

numbered_more : (at n : ℕ) (listings : List SetListing) (last : SetListing) → at + length listings ≡ n
    → numbered at (listings ++ last ∷ []) ≡ numbered at listings ++ map (λ image. (n, image)) last.images
numbered_more at n [] last is =
    let here : at ≡ n = omega (arith, is) in
    append-nil (map (λ image. (at, image)) last.images) ∙ ap (λ k. map (λ image. (k, image)) last.images) here
numbered_more at n (first ∷ listings) last is =
    ap (λ l. map (λ image. (at, image)) first.images ++ l)
    (numbered_more (suc at) n listings last (omega (arith, is)))
    ∙ sym (append_assoc (map (λ image. (at, image)) first.images) (numbered (suc at) listings)
    (map (λ image. (n, image)) last.images))

withdrawals_more : (at n : ℕ) (listings : List SetListing) (last : SetListing) → at + length listings ≡ n
    → withdrawals_from at (listings ++ last ∷ [])
    ≡ withdrawals_from at listings ++ map (λ uid. (Some n, uid)) last.withdrawn
withdrawals_more at n [] last is =
    let here : at ≡ n = omega (arith, is) in
    append-nil (map (λ uid. (Some at, uid)) last.withdrawn)
    ∙ ap (λ k. map (λ (uid : List ℕ). (Some k, uid)) last.withdrawn) here
withdrawals_more at n (first ∷ listings) last is =
    ap (λ l. map (λ uid. (Some at, uid)) first.withdrawn ++ l)
    (withdrawals_more (suc at) n listings last (omega (arith, is)))
    ∙ sym (append_assoc (map (λ uid. (Some at, uid)) first.withdrawn) (withdrawals_from (suc at) listings)
    (map (λ uid. (Some n, uid)) last.withdrawn))

-- what is withdrawn of them after what is given
given_more : (given : List (List ℕ)) (n : ℕ) (listings : List SetListing) (last : SetListing)
    → length listings ≡ n
    → withdrawals_in given (listings ++ last ∷ [])
    ≡ withdrawals_in given listings ++ map (λ uid. (Some n, uid)) last.withdrawn
given_more given n listings last many =
    let front : List Withdrawal = map (λ uid. (None, uid)) given in
    ap (λ l. front ++ l) (withdrawals_more 0 n listings last (omega (arith, many)))
    ∙ sym (append_assoc front (withdrawals_from 0 listings) (map (λ uid. (Some n, uid)) last.withdrawn))

-- ---- the UIDs and the numbers of withdrawals

pub uids_numbered : (number : Option ℕ) (uids : List (List ℕ))
    → map (λ (uid : Withdrawal). uid.1) (map (λ uid. (number, uid)) uids) ≡ uids
uids_numbered number [] = refl
uids_numbered number (uid ∷ uids) = ap (λ l. uid ∷ l) (uids_numbered number uids)

pub numbers_numbered : (number : Option ℕ) (uids : List (List ℕ))
    → map (λ (uid : Withdrawal). uid.0) (map (λ uid. (number, uid)) uids) ≡ map (λ _. number) uids
numbers_numbered number [] = refl
numbers_numbered number (uid ∷ uids) = ap (λ l. number ∷ l) (numbers_numbered number uids)

uids_of_sets : (at : ℕ) (listings : List SetListing)
    → map (λ (uid : Withdrawal). uid.1) (withdrawals_from at listings) ≡ withdrawn_in listings
uids_of_sets at [] = refl
uids_of_sets at (listing ∷ listings) =
    map-append (λ (uid : Withdrawal). uid.1) (map (λ uid. (Some at, uid)) listing.withdrawn)
    (withdrawals_from (suc at) listings)
    ∙ ap₂ (λ (a b : List (List ℕ)). a ++ b) (uids_numbered (Some at) listing.withdrawn)
    (uids_of_sets (suc at) listings)

pub uids_withdrawn : (given : List (List ℕ)) (listings : List SetListing)
    → map (λ (uid : Withdrawal). uid.1) (withdrawals_in given listings) ≡ given ++ withdrawn_in listings
uids_withdrawn given listings =
    map-append (λ (uid : Withdrawal). uid.1) (map (λ uid. (None, uid)) given) (withdrawals_from 0 listings)
    ∙ ap₂ (λ (a b : List (List ℕ)). a ++ b) (uids_numbered None given) (uids_of_sets 0 listings)

pub uids_more : (uids : List Withdrawal) (number : Option ℕ) (own all added new : List (List ℕ))
    → all ≡ map (λ uid. uid.1) uids → new ≡ all ++ added → added ≡ own
    → new ≡ map (λ uid. uid.1) (uids ++ map (λ uid. (number, uid)) own)
uids_more uids number own all added new was is told =
    is ∙ ap₂ (λ (a b : List (List ℕ)). a ++ b) was (told ∙ sym (uids_numbered number own))
    ∙ sym (map-append (λ (uid : Withdrawal). uid.1) uids (map (λ uid. (number, uid)) own))

pub numbers_more : (uids : List Withdrawal) (number : Option ℕ) (own added : List (List ℕ)) (all new : List (Option ℕ))
    → all ≡ map (λ uid. uid.0) uids → new ≡ all ++ map (λ _. number) added → added ≡ own
    → new ≡ map (λ uid. uid.0) (uids ++ map (λ uid. (number, uid)) own)
numbers_more uids number own added all new was is told =
    is ∙ ap₂ (λ (a b : List (Option ℕ)). a ++ b) was
    (ap (map (λ _. number)) told ∙ sym (numbers_numbered number own))
    ∙ sym (map-append (λ (uid : Withdrawal). uid.0) uids (map (λ uid. (number, uid)) own))

-- ---- what was gathered of them

pub gathers_more : (given : List (List ℕ)) (n : ℕ) (listings : List SetListing) (last : SetListing)
    (gathered : Gathered) → length listings ≡ n
    → Gathers (numbered 0 listings ++ map (λ image. (n, image)) last.images)
    (withdrawals_in given listings ++ map (λ uid. (Some n, uid)) last.withdrawn)
    (map (λ listing. listing.unreached) listings ++ last.unreached ∷ []) gathered
    → GathersOf given (listings ++ last ∷ []) gathered
gathers_more given n listings last gathered many is =
    let all = listings ++ last ∷ [] in
    subst (λ c. Gathers (numbered 0 all) (withdrawals_in given all) c gathered)
    (sym (map-append (λ (listing : SetListing). listing.unreached) listings (last ∷ [])))
    (subst (λ u. Gathers (numbered 0 all) u (map (λ listing. listing.unreached) listings ++ last.unreached ∷ [])
    gathered)
    (sym (given_more given n listings last many))
    (subst (λ l. Gathers l (withdrawals_in given listings ++ map (λ uid. (Some n, uid)) last.withdrawn)
    (map (λ listing. listing.unreached) listings ++ last.unreached ∷ []) gathered)
    (sym (numbered_more 0 n listings last (omega (arith, many)))) is))

pub versions_more : (before : List (ℕ × Listed)) (at : ℕ) (images : List Listed) (old new added : List Parts)
    → old ≡ versions_in before → new ≡ old ++ added → added ≡ map version_of images
    → new ≡ versions_in (before ++ map (λ image. (at, image)) images)
versions_more before at images old new added was is told =
    is ∙ ap₂ (λ (a b : List Parts). a ++ b) was
    (told ∙ sym (twice (λ (i : ℕ × Listed). version_of i.1) (λ image. (at, image)) images))
    ∙ sym (map-append (λ (i : ℕ × Listed). version_of i.1) before (map (λ image. (at, image)) images))

pub origins_more : (before : List (ℕ × Listed)) (at : ℕ) (images : List Listed) (old new : List (ℕ × List ℕ))
    (added : List (Bor (List ℕ))) → old ≡ map place_pick (places_in before)
    → new ≡ old ++ map (λ file. (at, file.now)) added
    → map (λ file. file.now) added ≡ map file_of images
    → new ≡ map place_pick (places_in (before ++ map (λ image. (at, image)) images))
origins_more before at images old new added was is files =
    let here : map (λ file. (at, file.now)) added ≡ map place_pick (places_in (map (λ image. (at, image)) images)) =
    sym (twice (λ (file : List ℕ). (at, file)) (λ file. file.now) added)
    ∙ ap (map (λ (file : List ℕ). (at, file))) files
    ∙ twice (λ (file : List ℕ). (at, file)) file_of images
    ∙ sym (twice place_pick (λ image. (at, place_of image)) images)
    ∙ ap (map place_pick) (sym (twice (λ (i : ℕ × Listed). (i.0, place_of i.1)) (λ image. (at, image)) images)) in
    is ∙ ap (λ l. l ++ map (λ file. (at, file.now)) added) was
    ∙ ap (λ l. map place_pick (places_in before) ++ l) here
    ∙ sym (map-append place_pick (places_in before) (places_in (map (λ image. (at, image)) images)))
    ∙ ap (map place_pick)
    (sym (map-append (λ (i : ℕ × Listed). (i.0, place_of i.1)) before (map (λ image. (at, image)) images)))

-- ---- what is made of what was gathered

pub placed_is : (given : List (List ℕ)) (listings : List SetListing) (gathered : Gathered) (versions : List Parts)
    (picks : List Pick) → versions ≡ gathered.versions.items → picks ≡ gathered.origins.items
    → GathersOf given listings gathered → ArePlaced (numbered 0 listings) versions picks
placed_is given listings gathered versions picks all files held = record {
  versions = all ∙ held.versions;
  origins = ap (map (λ pick. pick_view pick)) files ∙ held.origins;
}

-- ---- the answer of one set

-- dd_dir would have written the set: it lists these images, and withdraws what its walk names
pub own_listing : (set : List ℕ) (walk : Walk) (images : List Listed) → IsWalk set walk
    → AreRisingUids (withdrawn_of walk) → own walk ≡ Ok images
    → IsOwn set (record { images = images; withdrawn = withdrawn_of walk; unreached = walk.unreached })
own_listing set walk images is rising lists =
    record { walk = walk; is_walk = is; names = refl; rising = rising; lists = lists; unreached = refl }

-- ---- where memory is wanted

not_nil : {A : Type 0} {at : ℕ} (items : List A) → at < length items → items ≢ []
not_nil [] below = absurd (omega (arith, below))
not_nil (item ∷ items) below = λ is. cc

-- ---- faults

-- a set fails, and none before it does
pub first_fails : (given : List (List ℕ)) (sets : List (List ℕ)) (at : ℕ) (set : List ℕ) (fault : MergeFault)
    (listings : List SetListing) → at < length sets → set ≡ get_or sets at [] → AreOwn (take at sets) listings
    → FailsAt at set fault → GathersAll given sets (Err fault)
first_fails given sets at set (Dir n fault) listings below is own fails =
    subst (λ k. IsFirst (λ s. Refuses s fault) sets k) (sym fails.0) (record {
      below = below;
      fails = subst (λ s. Refuses s fault) is fails.1;
      before = (listings, own);
    })
first_fails given sets at set (Own n fault) listings below is own fails =
    subst (λ k. IsFirst (λ s. IsForeign s fault) sets k) (sym fails.0) (record {
      below = below;
      fails = subst (λ s. IsForeign s fault) is fails.1;
      before = (listings, own);
    })
first_fails given sets at set (Plan fault) listings below is own fails = absurd fails
first_fails given sets at set Memory listings below is own fails = inr (not_nil sets below)
