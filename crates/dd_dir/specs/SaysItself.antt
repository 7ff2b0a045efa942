-- What a directory says of itself: the versions of a catalogue in harmony, where their files are, and which UIDs are
-- withdrawn.
use Rattle.std.specs.Prelude.{◌≡◌, ℕ, Bool, true, false, List, [], ◌∷◌, map, filter, Ok}
use Rattle.dd_catalogue.specs.Best.{SameMembers}
use Rattle.dd_catalogue.specs.Harmony.{harmonised}
use Rattle.dd_catalogue.specs.Versions.{best_of}
use Rattle.dd_version.specs.declared.parts.Parts.{Parts}
use Rattle.dd_layout.specs.Paths.{Path}
use Rattle.dd_layout.specs.Plans.{file_of, path_of, tree}
use Rattle.dd_records.specs.Records.{file_text}
use Rattle.dd_dir.specs.Own.{Listed, own}
use Rattle.dd_dir.specs.OwnVersions.{Place, place_of, version_of}
use Rattle.dd_walk.specs.Reading.{IsWalk}
use Rattle.dd_walk.specs.Trees.{Walk}
use Rattle.dd_dir.specs.Withdrawn.{AreRisingUids}
use Rattle.dd_walk.specs.WithdrawnPieces.{withdrawn_of}

-- the path of an image: it has four parts
abbrev pub is_of_image : Path → Bool
is_of_image (patient ∷ study ∷ series ∷ image ∷ []) = true
is_of_image path = false

-- where the file of one of these versions is: its instance, its digest, and the File ID that it has among them
abbrev pub place_in : List Parts → Parts → Place
place_in versions v =
    record { uid = v.instance; digest = v.digest; file = file_text (file_of (tree versions) (path_of v)) }

-- The bytes have one walk, and no record in it fails a check. Its images are the versions of the set in harmony, in the
-- order of their paths. Each says all keys of its version and its place, and the best of them is the set in harmony.
-- The directory names these withdrawn UIDs, which rise.
pub record SaysItself (m : List Parts) (withdrawn : List (List ℕ)) (file : List ℕ) : Type 0 where
  pub walk : Walk
  pub is_walk : IsWalk file walk
  pub only : (other : Walk) → IsWalk file other → other ≡ walk
  pub images : List Listed
  pub lists : own walk ≡ Ok images
  pub order : map path_of (map version_of images) ≡ filter is_of_image (tree (harmonised m))
  pub versions : SameMembers (map version_of images) (harmonised m)
  pub best : best_of (map version_of images) ≡ harmonised m
  pub places : map place_of images ≡ map (place_in (harmonised m)) (map version_of images)
  pub names : withdrawn_of walk ≡ withdrawn
  pub rising : AreRisingUids withdrawn
