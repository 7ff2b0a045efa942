-- What became of the sources of an index, and of the images of a merge.
use Rattle.std.specs.Prelude.{◌≡◌, ◌+◌, ◌-◌, ℕ, length}
use Rattle.dd_engine.specs.declared.noted_index.NotedIndex.{NotedIndex}
use Rattle.dd_engine.specs.declared.noted_merge.NotedMerge.{NotedMerge}
use Rattle.dicomdir.specs.declared.set_sum.SetSum.{SetSum}
use Rattle.dicomdir.specs.declared.sum.Sum.{Sum}

-- the version of a source is the first that is planned, or there is none, or it is left out for another one, or it repeats
-- one that is planned
pub record CountsSources (noted : NotedIndex) (count : ℕ) (sum : Sum) : Type 0 where
  pub sources : sum.sources ≡ count
  pub kept : sum.kept ≡ length noted.indexed.plan.versions
  pub skipped : sum.skipped ≡ length noted.indexed.skipped.items
  pub left_out : sum.left_out ≡ length noted.notes.left_out.items
  pub repeated : sum.repeated ≡ count - sum.kept - sum.skipped - sum.left_out

-- each source is counted once
abbrev pub AddsUp : Sum → Type 0
AddsUp sum = sum.kept + sum.skipped + sum.left_out + sum.repeated ≡ sum.sources

-- an image of the sets is the first that is planned, or it is left out for another one, or withdrawn, or it repeats one
-- that is planned
pub record CountsImages (noted : NotedMerge) (count : ℕ) (sum : SetSum) : Type 0 where
  pub sets : sum.sets ≡ count
  pub images : sum.images ≡ noted.sets.images
  pub kept : sum.kept ≡ length noted.merged.plan.versions
  pub left_out : sum.left_out ≡ length noted.notes.left_out.items
  pub withdrawn : sum.withdrawn ≡ noted.sets.all_withdrawn
  pub repeated : sum.repeated ≡ sum.images - sum.kept - sum.left_out - sum.withdrawn

-- each image is counted once
abbrev pub ImagesAddUp : SetSum → Type 0
ImagesAddUp sum = sum.kept + sum.left_out + sum.repeated + sum.withdrawn ≡ sum.images
