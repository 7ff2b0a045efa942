-- The bytes before this one are copied as they are shown.
use Rattle.std.proofs.Common.{◌≡◌, string_bytes, take}
use Rattle.dd_inputs.specs.ListedNames.{shown_name}
use Rattle.dd_inputs.proofs.listed_names.masked.Given as goal

abbrev pub invariant-loop-byte : goal.invariant-loop-byte
invariant-loop-byte l = string_bytes l.shown ≡ shown_name (take l.byte-index l.name)
