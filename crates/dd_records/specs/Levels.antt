-- The levels of records.
use Rattle.std.specs.Prelude.{ℕ, List, [], ◌∷◌, codes}
use Rattle.dd_records.specs.declared.level.Level.{Level}
use Rattle.dd_records.specs.declared.level.Level.TheVariants.{Patient, Study, Series, Image}

-- from the root down
abbrev pub levels : List Level
levels = Patient ∷ Study ∷ Series ∷ Image ∷ []

-- how the level is named in messages
abbrev pub name_of : Level → List ℕ
name_of Patient = codes "Patient"
name_of Study = codes "Study"
name_of Series = codes "Series"
name_of Image = codes "Image"
