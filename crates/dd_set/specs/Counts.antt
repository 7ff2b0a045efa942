-- What counting the fragments of a list returned, against reading it.
use Rattle.std.specs.Prelude.{◌≡◌, ℕ, List, length, Result, Ok, Err}
use Rattle.dd_grammar.specs.declared.fault.SetFault.{SetFault}
use Rattle.dd_grammar.specs.AnswersAs.{FailsAs}
use Rattle.dd_grammar.specs.Faults.{is_memory}
use Rattle.dd_grammar.specs.Reading.{At, Reads}

-- reading gives a list of this length, or fails with this fault
abbrev pub Counts : Result ℕ SetFault → Reads (List (List ℕ)) → Type 0
Counts (Ok n) read = (fs : List (List ℕ)) × (end : At) × (read ≡ Ok (fs, end)) × (length fs ≡ n)
Counts (Err e) read = FailsAs is_memory e read
