-- What the faults of a data set say.
use Rattle.std.specs.Prelude.{Bool, true, false}
use Rattle.dd_grammar.specs.declared.fault.SetFault.{SetFault}
use Rattle.dd_grammar.specs.declared.fault.SetFault.TheVariants.{Memory}

-- an allocation was refused
abbrev pub is_memory : SetFault → Bool
is_memory Memory = true
is_memory fault = false
