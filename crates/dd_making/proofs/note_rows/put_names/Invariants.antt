-- The names so far were put.
use Rattle.std.proofs.Common.{take}
use Rattle.dd_calls.specs.Texts.{Puts}
use Rattle.dd_making.proofs.note_rows.put_names.Given as goal

abbrev pub invariant-loop-name : goal.invariant-loop-name
invariant-loop-name l = Puts (take l.name-index l.names) l.initial.texts l.texts
