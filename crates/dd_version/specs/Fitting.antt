-- Which parts are a version: what a directory needs of each file that it lists.
use Rattle.std.specs.Prelude.{◌≢◌, ◌≤◌, ℕ, Bool, true, false, not, List, [], ◌∷◌, Option, find, option_map, Contains}
use Rattle.dd_elem.specs.Tag.{number_of}
use Rattle.dd_elem.specs.declared.tag.Tag.{Tag}
use Rattle.dd_version.specs.Classes.{image_classes, is_image_class}
use Rattle.dd_version.specs.Syntaxes.{known_syntaxes, is_known_syntax}
use Rattle.dd_version.specs.declared.parts.Parts.{Parts}

-- the transfer syntax is known, the class is taken, and no type 1 key is empty
pub record Fits (parts : Parts) : Type 0 where
  pub transfer : Contains known_syntaxes parts.transfer
  pub class : Contains image_classes parts.class
  pub study_date : parts.study.date ≢ []
  pub study_time : parts.study.time ≢ []
  pub modality : parts.series.modality ≢ []
  pub patient_id : parts.patient.id ≢ []
  pub study_id : parts.study.id ≢ []
  pub series_number : parts.series.number ≢ []
  pub instance_number : parts.number ≢ []

-- ---- the same, tag by tag

-- a tag, and whether the part that it stands for fits
abbrev pub Fitting : Type 0
Fitting = Tag × Bool

-- the key has no bytes
abbrev pub is_empty : List ℕ → Bool
is_empty [] = true
is_empty (byte ∷ bytes) = false

abbrev pub tag : ℕ → ℕ → Tag
tag group number = record { group = group; element = number }

-- the tags whose parts may not fit, in their order
abbrev pub fittings : Parts → List Fitting
fittings parts =
    (tag 0x0002 0x0010, is_known_syntax parts.transfer) ∷
    (tag 0x0008 0x0016, is_image_class parts.class) ∷
    (tag 0x0008 0x0020, not (is_empty parts.study.date)) ∷
    (tag 0x0008 0x0030, not (is_empty parts.study.time)) ∷
    (tag 0x0008 0x0060, not (is_empty parts.series.modality)) ∷
    (tag 0x0010 0x0020, not (is_empty parts.patient.id)) ∷
    (tag 0x0020 0x0010, not (is_empty parts.study.id)) ∷
    (tag 0x0020 0x0011, not (is_empty parts.series.number)) ∷
    (tag 0x0020 0x0013, not (is_empty parts.number)) ∷ []

-- the part that this tag stands for does not fit
abbrev pub IsMisfit : Parts → Tag → Type 0
IsMisfit parts tag = Contains (fittings parts) (tag, false)

-- of the tags whose part does not fit it is the least
pub record IsLeastMisfit (parts : Parts) (tag : Tag) : Type 0 where
  pub misfit : IsMisfit parts tag
  pub least : (other : Tag) → IsMisfit parts other → number_of tag ≤ number_of other

-- the first tag whose part does not fit
abbrev pub least_misfit : Parts → Option Tag
least_misfit parts = option_map (λ f. f.0) (find (λ f. not f.1) (fittings parts))
