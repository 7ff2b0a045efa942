-- What is noted of file-sets as sets: of which of them not all records are reached, which images are withdrawn, and
-- which given UIDs are in no record.
use Rattle.std.specs.Prelude.{◌≡◌, ◌<◌, Bool, ℕ, suc, nat_lt, List, [], ◌∷◌, ◌++◌, All, map, filter, Option, None, Some}
use Rattle.std.specs.Prelude.{length, option_map, if◌then◌else◌}
use Rattle.std.specs.List.{enumerate_from, filter_map, list_any}
use Rattle.dd_catalogue.specs.Conflicts.{same}
use Rattle.dd_dir.specs.OwnVersions.{place_of}
use Rattle.dd_version.specs.declared.parts.Parts.{Parts}
use Rattle.dd_engine.specs.declared.merge.Pick.{Pick}
use Rattle.dd_engine.specs.declared.set_notes.SetNotes.{SetNotes}
use Rattle.dd_engine.specs.declared.set_notes.Unreached.{Unreached}
use Rattle.dd_engine.specs.declared.set_notes.WithdrawnImage.{WithdrawnImage}
use Rattle.dd_engine.specs.Merging.{SetListing, filed_in, numbered, pick_view, versions_in, withdrawn_in}

-- ---- sets with records that are not reached

-- the number of each set that has such records, and how many it has
abbrev pub unreached_in : List SetListing → List (ℕ × ℕ)
unreached_in listings =
    filter (λ set. nat_lt 0 set.1) (enumerate_from 0 (map (λ listing. listing.unreached) listings))

abbrev pub AreUnreached : List SetListing → List Unreached → Type 0
AreUnreached listings notes = map (λ note. (note.set, note.records)) notes ≡ unreached_in listings

-- ---- images that are withdrawn

-- the UID is one of these
abbrev pub is_among : List (List ℕ) → List ℕ → Bool
is_among uids uid = list_any (λ one. same one uid) uids

-- the number of the first set that withdraws this UID; the first of these sets has the number `at`
abbrev pub withdrawing_from : ℕ → List SetListing → List ℕ → Option ℕ
withdrawing_from at [] uid = None
withdrawing_from at (listing ∷ more) uid =
    if is_among listing.withdrawn uid then Some at else withdrawing_from (suc at) more uid

-- the same, but of a given UID none
abbrev pub withdrawing : List (List ℕ) → List SetListing → List ℕ → Option ℕ
withdrawing given listings uid = if is_among given uid then None else withdrawing_from 0 listings uid

-- where the file of a version is, the set that withdraws its instance, and its SOP Instance UID
abbrev pub WithdrawnAs : Type 0 → Type 0
WithdrawnAs T = T × ℕ × List ℕ

abbrev pub withdrawn_as : {T : Type 0} → (List ℕ → Option ℕ) → T × Parts → Option (WithdrawnAs T)
withdrawn_as by version = option_map (λ set. (version.0, set, version.1.instance)) (by version.1.instance)

-- of the versions, in the order in which they came, those whose instance a set withdraws, where `by` gives that set
abbrev pub withdrawn_among : {T : Type 0} → (List ℕ → Option ℕ) → List (T × Parts) → List (WithdrawnAs T)
withdrawn_among by versions = filter_map (withdrawn_as by) versions

-- the notes name the images that sets withdraw, but those whose UID is given
abbrev pub AreWithdrawn : List (List ℕ) → List SetListing → List (WithdrawnImage Pick) → Type 0
AreWithdrawn given listings notes = map (λ note. (pick_view note.file, note.by, note.instance)) notes
    ≡ withdrawn_among (withdrawing given listings) (filed_in listings)

-- ---- given UIDs that are in no record

-- the UIDs of a list that are not among the known ones, each where it comes first
abbrev pub new_to : List (List ℕ) → List (List ℕ) → List (List ℕ)
new_to known [] = []
new_to known (uid ∷ more) = if is_among known uid then new_to known more else uid ∷ new_to (uid ∷ known) more

-- the SOP Instance UIDs of all images
abbrev pub instances_in : List SetListing → List (List ℕ)
instances_in listings = map (λ image. (place_of image.1).uid) (numbered 0 listings)

-- the given UIDs that no image has and no set withdraws
abbrev pub unlisted_in : List (List ℕ) → List SetListing → List (List ℕ)
unlisted_in given listings = new_to (instances_in listings ++ withdrawn_in listings) given

-- ---- how many images there are

-- how many of the versions have one of these UIDs
abbrev pub count_among : List (List ℕ) → List Parts → ℕ
count_among uids versions = length (filter (λ version. is_among uids version.instance) versions)

-- ---- all notes

pub record AreSetNotes (given : List (List ℕ)) (listings : List SetListing) (notes : SetNotes) : Type 0 where
  pub images : notes.images ≡ length (numbered 0 listings)
  pub all_withdrawn : notes.all_withdrawn
      ≡ count_among (given ++ withdrawn_in listings) (versions_in (numbered 0 listings))
  pub unreached : AreUnreached listings notes.unreached.items
  pub withdrawn : AreWithdrawn given listings notes.withdrawn.items
  pub unlisted : notes.unlisted.items ≡ unlisted_in given listings

-- the number of each set that they name is below the count
pub record NameSetsBelow (count : ℕ) (notes : SetNotes) : Type 0 where
  pub unreached : All (λ note. note.set < count) notes.unreached.items
  pub withdrawn : All (λ note. (note.file.set < count) × (note.by < count)) notes.withdrawn.items
