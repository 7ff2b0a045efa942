-- When one file stands for another in a comparison of keys.
use Rattle.std.specs.Prelude.{◌≡◌, Result, Ok, Err}
use Rattle.std.specs.List.{AllByRecursion}
use Rattle.dd_part10.specs.declared.fault.FileFault.{FileFault}
use Rattle.dd_part10.specs.Reading.{FileParts}
use Rattle.dd_walk.specs.Saying.{key_of}
use Rattle.dd_report.specs.Agreements.{compared_tags}

-- Reading both gives the same values at all tags that are compared: the three UIDs of group 0002, and these of the data
-- set. Or both are refused for one reason.
abbrev pub SayTheSame : Result FileParts FileFault → Result FileParts FileFault → Type 0
SayTheSame (Ok one) (Ok other) =
    (one.meta ≡ other.meta) × AllByRecursion (λ tag. key_of tag one.set ≡ key_of tag other.set) compared_tags
SayTheSame (Err one) (Err other) = one ≡ other
SayTheSame one other = ⊥
