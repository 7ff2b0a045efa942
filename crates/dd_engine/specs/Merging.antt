-- What merging directories answers: the walks of their bytes, the images that these list and the UIDs that they
-- withdraw. What is kept of all together is laid out, and each image has the file that it is copied from.
use Rattle.std.specs.Prelude.{◌≡◌, ◌≢◌, ◌⊎◌, ◌<◌, ℕ, suc, List, [], ◌∷◌, ◌++◌, length, map, take, get_or, None, Some}
use Rattle.std.specs.Prelude.{Result, Ok, Err}
use Rattle.dd_catalogue.specs.Contents.{Contents, held_of}
use Rattle.dd_catalogue.specs.Harmony.{harmonised}
use Rattle.dd_catalogue.specs.Histories.{together}
use Rattle.dd_dir.specs.declared.own_fault.OwnFault.{OwnFault}
use Rattle.dd_dir.specs.Own.{Listed, own}
use Rattle.dd_dir.specs.OwnVersions.{FailsOwn, Place, place_of, version_of}
use Rattle.dd_walk.specs.Reading.{IsWalk, Refuses}
use Rattle.dd_walk.specs.Trees.{Walk}
use Rattle.dd_dir.specs.Withdrawn.{AreRisingUids}
use Rattle.dd_walk.specs.WithdrawnPieces.{withdrawn_of}
use Rattle.dd_version.specs.declared.parts.Parts.{Parts}
use Rattle.dd_layout.specs.Limits.{Limits}
use Rattle.dd_layout.specs.Layouts.{layout_of}
use Rattle.dd_layout.specs.Plans.{records_of}
use Rattle.dd_engine.specs.declared.choice.Choice.{Choice}
use Rattle.dd_engine.specs.declared.merge.Merged.{Merged}
use Rattle.dd_engine.specs.declared.merge.Pick.{Pick}
use Rattle.dd_engine.specs.declared.merge_fault.MergeFault.{MergeFault}
use Rattle.dd_engine.specs.declared.merge_fault.MergeFault.TheVariants.{Dir, Own, Plan, Memory}
use Rattle.dd_engine.specs.Choosing.{label_for, refusal_for}
use Rattle.dd_engine.specs.Picking.{ArePicked, FileKey}

-- ---- what the sets list

-- the images that a set lists, the SOP Instance UIDs (PS3.3 section C.12.1) that it withdraws, and how many of its
-- records are not reached
pub record SetListing : Type 0 where
  pub images : List Listed
  pub withdrawn : List (List ℕ)
  pub unreached : ℕ

-- the bytes are a directory as dd_dir writes one, and this is what it lists and withdraws
pub record IsOwn (set : List ℕ) (listing : SetListing) : Type 0 where
  pub walk : Walk
  pub is_walk : IsWalk set walk
  pub names : withdrawn_of walk ≡ listing.withdrawn
  pub rising : AreRisingUids listing.withdrawn
  pub lists : own walk ≡ Ok listing.images
  pub unreached : walk.unreached ≡ listing.unreached

-- the bytes are a directory that dd_dir would not have written: its withdrawn UIDs or one of its records fail a check
pub record IsForeign (set : List ℕ) (fault : OwnFault) : Type 0 where
  pub walk : Walk
  pub is_walk : IsWalk set walk
  pub fails : FailsOwn walk fault

-- of each of these sets what it lists
abbrev pub AreOwn : List (List ℕ) → List SetListing → Type 0
AreOwn [] [] = Unit {0}
AreOwn [] (listing ∷ more) = ⊥
AreOwn (set ∷ sets) [] = ⊥
AreOwn (set ∷ sets) (listing ∷ more) = IsOwn set listing × AreOwn sets more

-- ---- all together

-- the images of all sets in a row, each with the number of its set; the first set has this number
abbrev pub numbered : ℕ → List SetListing → List (ℕ × Listed)
numbered at [] = []
numbered at (listing ∷ more) = map (λ image. (at, image)) listing.images ++ numbered (suc at) more

-- the versions of all images
abbrev pub versions_in : List (ℕ × Listed) → List Parts
versions_in images = map (λ image. version_of image.1) images

-- the UIDs that the sets withdraw
abbrev pub withdrawn_in : List SetListing → List (List ℕ)
withdrawn_in listings = together (map (λ listing. listing.withdrawn) listings)

-- what a catalogue holds of all this, where these UIDs are withdrawn as well
abbrev pub held_in : List (List ℕ) → List SetListing → Contents
held_in given listings =
    held_of (record { versions = versions_in (numbered 0 listings); withdrawn = given ++ withdrawn_in listings })

-- ---- where an image is copied from

-- where the files of all images are, each with the number of its set
abbrev pub places_in : List (ℕ × Listed) → List (ℕ × Place)
places_in images = map (λ image. (image.0, place_of image.1)) images

-- the set and the File ID of a place, and its file
abbrev pub place_pick : ℕ × Place → ℕ × List ℕ
place_pick place = (place.0, place.1.file)

abbrev pub place_key : Place → FileKey
place_key place = record { instance = place.uid; digest = place.digest }

abbrev pub stands_at : ℕ × Place → (ℕ × List ℕ) × FileKey
stands_at place = (place_pick place, place_key place.1)

abbrev pub pick_view : Pick → ℕ × List ℕ
pick_view pick = (pick.set, pick.file.now)

-- the places of the files of all images that the sets list
abbrev pub stands_in : List SetListing → List ((ℕ × List ℕ) × FileKey)
stands_in listings = map (λ place. stands_at place) (places_in (numbered 0 listings))

-- the versions of all images, each with the set and the File ID of its file
abbrev pub filed_in : List SetListing → List ((ℕ × List ℕ) × Parts)
filed_in listings =
    map (λ image. (place_pick (image.0, place_of image.1), version_of image.1)) (numbered 0 listings)

-- ---- the answer

-- Where the sets list this and these UIDs are withdrawn as well, what is held then is laid out under the label that is
-- asked for. Each image is picked from the first place with its file.
pub record IsMerged (choice : Choice) (limits : Limits) (given : List (List ℕ)) (listings : List SetListing)
    (merged : Merged) : Type 0 where
  pub plan : let h = held_in given listings in
      merged.plan ≡ layout_of (label_for choice h.versions h.withdrawn) h.versions h.withdrawn
  pub allowed : let h = held_in given listings in refusal_for choice limits h.versions h.withdrawn ≡ None
  pub picks : let h = held_in given listings in ArePicked (stands_in listings) (harmonised h.versions)
      (records_of (label_for choice h.versions h.withdrawn) (harmonised h.versions))
      (map (λ pick. pick_view pick) merged.picks.items)

-- it fails, and no set before it does
pub record IsFirst (Fails : List ℕ → Type 0) (sets : List (List ℕ)) (at : ℕ) : Type 0 where
  pub below : at < length sets
  pub fails : Fails (get_or sets at [])
  pub before : (listings : List SetListing) × AreOwn (take at sets) listings

-- a UID to withdraw or a set is given: without both no memory is wanted
abbrev pub IsGiven : {A : Type 0} → List (List ℕ) → List A → Type 0
IsGiven given sets = (given ≢ []) ⊎ (sets ≢ [])

-- Why these sets are refused, whatever is done with what they list, where these UIDs are withdrawn as well. One fails,
-- and no set before it does, or memory was refused.
abbrev pub RefusesSets : List (List ℕ) → List (List ℕ) → MergeFault → Type 0
RefusesSets given sets (Dir at fault) = IsFirst (λ set. Refuses set fault) sets at
RefusesSets given sets (Own at fault) = IsFirst (λ set. IsForeign set fault) sets at
RefusesSets given sets (Plan fault) = ⊥
RefusesSets given sets Memory = IsGiven given sets

-- the answer for the bytes of these sets, where these UIDs are withdrawn as well
abbrev pub Merges : Choice → Limits → List (List ℕ) → List (List ℕ) → Result Merged MergeFault → Type 0
Merges choice limits given sets (Ok merged) = (listings : List SetListing)
    × AreOwn sets listings × IsMerged choice limits given listings merged
Merges choice limits given sets (Err (Dir at fault)) = IsFirst (λ set. Refuses set fault) sets at
Merges choice limits given sets (Err (Own at fault)) = IsFirst (λ set. IsForeign set fault) sets at
Merges choice limits given sets (Err (Plan fault)) = (listings : List SetListing) × AreOwn sets listings
    × (let h = held_in given listings in refusal_for choice limits h.versions h.withdrawn ≡ Some fault)
Merges choice limits given sets (Err Memory) = IsGiven given sets

-- ---- numbers of sets

-- the set that a fault names has a number below the count of sets
abbrev pub IsNamedSet : ℕ → MergeFault → Type 0
IsNamedSet sets (Dir at fault) = at < sets
IsNamedSet sets (Own at fault) = at < sets
IsNamedSet sets (Plan fault) = Unit {0}
IsNamedSet sets Memory = Unit {0}
