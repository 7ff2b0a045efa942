-- Which record files an image as a plan does.
use Rattle.std.specs.Prelude.{◌≡◌, ◌<◌, ℕ, List, [], length, map, slice_get, slice_index_or}
use Rattle.std.specs.Prelude.{Option, None, Some, Result, Ok, Err}
use Rattle.dd_dir.specs.Own.{Listed}
use Rattle.dd_version.specs.Filing.{FiledAs}
use Rattle.dd_version.specs.declared.parts.Parts.{Parts}
use Rattle.dd_engine.specs.declared.merge.Pick.{Pick}
use Rattle.dd_engine.specs.declared.merge_fault.MergeFault.{MergeFault}
use Rattle.dd_engine.specs.Merging.{AreOwn, RefusesSets, SetListing, numbered, pick_view, place_pick, places_in}
use Rattle.dd_engine.specs.Merging.{versions_in}

-- there is a version of this number, and it is filed as the planned one
pub record IsFiledAt (planned : Parts) (versions : List Parts) (at : ℕ) : Type 0 where
  pub within : at < length versions
  pub filed : (otherwise : Parts) → FiledAs planned (slice_index_or versions at otherwise)

-- it is, and no version before it is filed so
pub record IsFirstFiled (planned : Parts) (versions : List Parts) (at : ℕ) : Type 0 where
  pub here : IsFiledAt planned versions at
  pub first : (before : ℕ) → before < at → ¬ IsFiledAt planned versions before

-- The pick for these images, each with the number of its set: the file of the first image whose version is filed as the
-- planned one. None is the answer exactly where no version is filed so.
abbrev pub IsFirstSaying : Parts → List (ℕ × Listed) → Option Pick → Type 0
IsFirstSaying planned images None = (at : ℕ) → ¬ IsFiledAt planned (versions_in images) at
IsFirstSaying planned images (Some pick) = (at : ℕ) × IsFirstFiled planned (versions_in images) at
    × (slice_get (map (λ place. place_pick place) (places_in images)) at ≡ Some (pick_view pick))

-- the answer for the bytes of these sets
abbrev pub AnswersSaying : Parts → List (List ℕ) → Result (Option Pick) MergeFault → Type 0
AnswersSaying planned sets (Ok pick) = (listings : List SetListing)
    × AreOwn sets listings × IsFirstSaying planned (numbered 0 listings) pick
AnswersSaying planned sets (Err fault) = RefusesSets [] sets fault
