-- The links of a record by what stands after it, level by level.
use Rattle.std.specs.Prelude.{ℕ}
use Rattle.dd_records.specs.declared.level.Level.{Level}
use Rattle.dd_records.specs.declared.level.Level.TheVariants.{Patient, Study, Series, Image}
use Rattle.dd_layout.specs.declared.links.Later.{Later}

-- the first record of this level, and of the level below
abbrev pub next_of : Level → Later → ℕ
next_of Patient later = later.patient
next_of Study later = later.study
next_of Series later = later.series
next_of Image later = later.image

abbrev pub lower_of : Level → Later → ℕ
lower_of Patient later = later.study
lower_of Study later = later.series
lower_of Series later = later.image
lower_of Image later = 0

-- a record of this level at this offset, and what stands after it: it hides all of the levels below
abbrev pub later_from : Level → ℕ → Later → Later
later_from Patient at later = record { patient = at; study = 0; series = 0; image = 0 }
later_from Study at later = record { patient = later.patient; study = at; series = 0; image = 0 }
later_from Series at later = record later { series = at; image = 0 }
later_from Image at later = record later { image = at }
