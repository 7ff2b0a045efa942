-- However a copy was refused, a front of it was written and nothing else.
use Rattle.std.proofs.Common.{ℕ, List, Option, Err}
use Rattle.dd_elem.specs.declared.device.Write.{Ghosts as WriteOf}
use Rattle.dd_files.proofs.Fronts.{Front, stopped, went}
use Rattle.dd_filing.specs.Copies.{IsAheadCopy, IsRefusedSource}
use Rattle.dd_filing.specs.Taken.{Taken}
use Rattle.dd_filing.specs.declared.copying.FilingFault.{FilingFault}
use Rattle.dd_filing.specs.declared.copying.FilingFault.TheVariants.{Changed, Memory, Unread, Unsent}
use Rattle.dd_stream.specs.Sends.{StopsBy, counts_of}
use Rattle.dd_stream.specs.declared.write_fault.WriteFault.{WriteFault}
use Rattle.dd_stream.specs.declared.write_fault.WriteFault.TheVariants.{NotWritable, Write}

pub ahead_front : {W : Type 0} (writer : WriteOf W) (old new : W) (fault : FilingFault) (file : Taken)
    → IsAheadCopy writer old new (Err fault) file → Front writer old new
ahead_front writer old new Memory file h = went writer file.bytes old new h.1
ahead_front writer old new Unread file h = went writer file.bytes old new h.1
ahead_front writer old new Unsent file h = stopped writer file.bytes h.0 old new h.1
ahead_front writer old new Changed file h = absurd h

pub source_front : {W : Type 0} (writer : WriteOf W) (old new : W) (fault : FilingFault) (limit : ℕ) (given : List ℕ)
    (left : Option (List ℕ)) (failures after : ℕ)
    → IsRefusedSource writer old new fault limit given left failures after → Front writer old new
source_front writer old new Memory limit given left failures after h = went writer given old new h.1.1
source_front writer old new Unread limit given left failures after h = went writer given old new h.1
source_front writer old new Unsent limit given left failures after h = stopped writer given h.1.0 old new h.1.1
source_front writer old new Changed limit given left failures after h = absurd h

pub list_front : {W : Type 0} (writer : WriteOf W) (old new : W) (fault : WriteFault) (text : List ℕ)
    → StopsBy text 0 fault (writer.contents old, writer.rest old) (writer.contents new, writer.rest new)
    (counts_of writer old) (counts_of writer new)
    → Front writer old new
list_front writer old new (Write k) text h = stopped writer text k old new h
list_front writer old new NotWritable text h = absurd h
