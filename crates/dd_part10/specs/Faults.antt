-- What the faults of a file say.
use Rattle.std.specs.Prelude.{Bool, false, T}
use Rattle.dd_grammar.specs.Faults as sets
use Rattle.dd_part10.specs.declared.fault.FileFault.{FileFault}
use Rattle.dd_part10.specs.declared.fault.FileFault.TheVariants.{Meta, Set}

-- an allocation was refused
abbrev pub is_memory : FileFault → Bool
is_memory (Meta fault) = sets.is_memory fault
is_memory (Set fault) = sets.is_memory fault
is_memory fault = false

abbrev pub SaysMemory : FileFault → Type 0
SaysMemory fault = T (is_memory fault)
