-- How many sources a list has, how many have no version, how many of these were not read, and the bytes of the others.
use Rattle.std.specs.Prelude.{◌≡◌, ℕ, min, List, length, filter, sum_by, is_err, is_ok, not, if◌then◌else◌}
use Rattle.dd_elem.specs.Device.{last_count}
use Rattle.dd_staged.specs.Sources.{Source, has_copy}
use Rattle.dd_pile.specs.declared.sum.StageSum.{StageSum}

-- the bytes of a copy of a source that has a version
abbrev pub image_bytes : Source → ℕ
image_bytes source = if is_ok source.found then source.size else 0

pub record AddsUp (list : List Source) (sum : StageSum) : Type 0 where
  pub sources : sum.sources ≡ length list
  pub skipped : sum.skipped ≡ length (filter (λ source. is_err source.found) list)
  pub unread : sum.unread ≡ length (filter (λ source. not (has_copy source.found)) list)
  pub bytes : sum.bytes ≡ min (sum_by image_bytes list) last_count
