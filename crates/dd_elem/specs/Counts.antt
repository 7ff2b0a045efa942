-- What a call does to the counts of a device.
use Rattle.std.specs.Prelude.{Bool, true, false}
use Rattle.dd_elem.specs.Device.{counted}
use Rattle.dd_elem.specs.declared.counts.Counts.{Counts}

-- the counts after a call, by whether it worked
abbrev pub counts_after : Counts → Bool → Counts
counts_after c true = record c { calls = counted c.calls }
counts_after c false = record { calls = counted c.calls; failures = counted c.failures }

-- the counts after a call that was begun came to an end, by whether it worked
abbrev pub settled : Counts → Bool → Counts
settled c true = c
settled c false = record c { failures = counted c.failures }
