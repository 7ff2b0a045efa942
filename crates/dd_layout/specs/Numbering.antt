-- The ranks of records by one pass: four counters, of which each says how many records of its level have come below
-- the parent now.
use Rattle.std.specs.Prelude.{ℕ, ◌+◌, ◌&&◌, Bool, Option, None, Some, nat_le}
use Rattle.std.specs.Prelude.{if◌then◌else◌}
use Rattle.dd_elem.specs.FileId.{Ranks, max_rank, ranks_of}
use Rattle.dd_records.specs.declared.level.Level.{Level}
use Rattle.dd_records.specs.declared.level.Level.TheVariants.{Patient, Study, Series, Image}
use Rattle.dd_layout.specs.declared.ranks.Counters.{Counters}

abbrev pub counters_of : (patient study series image : ℕ) → Counters
counters_of patient study series image =
    record { patient = patient; study = study; series = series; image = image }

-- the counter of this level
abbrev pub count_of : Level → Counters → ℕ
count_of Patient counters = counters.patient
count_of Study counters = counters.study
count_of Series counters = counters.series
count_of Image counters = counters.image

-- after one record more of this level, below which none has come yet
abbrev pub after : Level → Counters → Counters
after Patient counters = counters_of (counters.patient + 1) 0 0 0
after Study counters = counters_of counters.patient (counters.study + 1) 0 0
after Series counters = counters_of counters.patient counters.study (counters.series + 1) 0
after Image counters = counters_of counters.patient counters.study counters.series (counters.image + 1)

-- ---- the File ID of a record that has just been counted

abbrev pub is_rank : ℕ → Bool
is_rank n = nat_le 1 n && nat_le n max_rank

abbrev pub are_ranks : Ranks → Bool
are_ranks ranks = is_rank ranks.patient && (is_rank ranks.study && (is_rank ranks.series && is_rank ranks.image))

abbrev pub file_if_ranks : Ranks → Option Ranks
file_if_ranks ranks = if are_ranks ranks then Some ranks else None

abbrev pub counted_file : Level → Counters → Option Ranks
counted_file Patient counters = None
counted_file Study counters = None
counted_file Series counters = None
counted_file Image counters =
    file_if_ranks (ranks_of counters.patient counters.study counters.series counters.image)

-- ---- the topmost level with too many records

abbrev pub topmost : Level → Option Level → Level
topmost level None = level
topmost level (Some Patient) = Patient
topmost Patient (Some Study) = Patient
topmost Study (Some Study) = Study
topmost Series (Some Study) = Study
topmost Image (Some Study) = Study
topmost Patient (Some Series) = Patient
topmost Study (Some Series) = Study
topmost Series (Some Series) = Series
topmost Image (Some Series) = Series
topmost level (Some Image) = level
