-- What is to fail in files in memory, as their callers see it.
use Rattle.std.specs.Prelude.{◌-◌, ◌==◌, ◌&&◌, ℕ, List, Option, Some, None, Result, Ok, Err, if◌then◌else◌}
use Rattle.std.specs.Prelude.{Bool, bytes_eq, false, option_map, string_bytes}
use Rattle.dd_mem_files.specs.declared.planned_faults.ReaderFault.{ReaderFault}

-- a reader that is to fail
pub record FailingReader : Type 0 where
  -- the path of its file
  pub path : List ℕ
  -- at which of the next openings of it, the first of which is number 1; with 0 no reader fails
  pub opening : ℕ
  -- after how many bytes
  pub after : ℕ

abbrev pub failing_reader_of : ReaderFault → FailingReader
failing_reader_of fault = record { path = string_bytes fault.path; opening = fault.opening; after = fault.after }

-- what is to fail
pub record Planned : Type 0 where
  -- how many bytes writes still take, where they are to fail then
  pub room : Option ℕ
  -- which of the next calls is refused, the first of which is number 1; with 0 no call is refused
  pub call : ℕ
  -- the reader that is to fail
  pub reader : Option FailingReader
  -- whether no file gets a hard link
  pub no_links : Bool

-- nothing is to fail
abbrev pub nothing_planned : Planned
nothing_planned = record { room = None; call = 0; reader = None; no_links = false }

-- what is to fail after a call that is numbered
abbrev pub after_call : Planned → Planned
after_call planned = record planned { call = planned.call - 1 }

-- the same, after a write that took n bytes
abbrev pub after_taking : Planned → ℕ → Planned
after_taking planned n = record planned { room = option_map (λ room. room - n) planned.room }

-- the same, after a write with this result
abbrev pub after_write : {E : Type 0} → Planned → Result ℕ E → Planned
after_write planned (Ok n) = after_taking planned n
after_write planned (Err e) = planned

-- the reader that is to fail, after an opening of this path
abbrev pub counted_down : List ℕ → Option FailingReader → Option FailingReader
counted_down path reader = option_map (λ reader. if bytes_eq reader.path path
    then record reader { opening = reader.opening - 1 } else reader) reader

-- what is to fail after an opening of this path
abbrev pub after_opening : List ℕ → Planned → Planned
after_opening path planned = record planned { reader = counted_down path planned.reader }

-- after how many bytes a reader fails that is opened at this path now, where it is to fail
abbrev pub fails_at : Option FailingReader → List ℕ → Option ℕ
fails_at None path = None
fails_at (Some reader) path = if reader.opening == 1 && bytes_eq reader.path path then Some reader.after else None
