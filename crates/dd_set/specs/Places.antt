-- Where the reading code stands, as `specs/Reading.antt` sees it.
use Rattle.std.specs.Prelude.{Result, Ok, Err}
use Rattle.dd_set.specs.declared.cursor.Cursor.{Cursor}
use Rattle.dd_grammar.specs.declared.fault.SetFault.{SetFault}
use Rattle.dd_grammar.specs.Reading.{At, Reads}

abbrev pub at_view : Cursor → At
at_view c = record { left = c.left; bytes = c.rest.now }

-- what a step of the code returned
abbrev pub stepped : {X Y : Type 0} → (X → Y) → Result (X × Cursor) SetFault → Reads Y
stepped view (Ok x) = Ok (view x.0, at_view x.1)
stepped view (Err e) = Err e
