-- However a write was refused, a front of the bytes was written and nothing else.
use Rattle.std.proofs.Common.{◌≡◌, ℕ, List, [], ◌++◌, Option, Err, Result, Ok, sym}
use Rattle.std.proofs.lemmas.List.{append-nil}
use Rattle.std.specs.Io.KnownBytes.{Appends}
use Rattle.dd_elem.specs.declared.device.Write.{Ghosts as WriteOf}
use Rattle.dd_files.proofs.Fronts.{Front, stopped, went}
use Rattle.dd_filing.specs.Ahead.{IsSentAhead}
use Rattle.dd_filing.specs.Filing.{IsRefusedCopy}
use Rattle.dd_filing.specs.Taken.{Taken}
use Rattle.dd_filing.specs.declared.copying.FilingFault.{FilingFault}
use Rattle.dd_filing.specs.declared.copying.FilingFault.TheVariants.{Changed, Memory, Unread, Unsent}
use Rattle.dd_stream.specs.Sends.{SendsTo}
use Rattle.dd_stream.specs.declared.write_fault.WriteFault.{WriteFault}
use Rattle.dd_stream.specs.declared.write_fault.WriteFault.TheVariants.{NotWritable, Write}
use Rattle.dd_version.specs.declared.parts.Parts.{Parts}

-- of a copy of bytes that were read ahead
pub ahead_front : {W : Type 0} (writer : WriteOf W) (old new : W) (planned : Parts) (said : Option Parts)
    (fault : FilingFault) (file : Taken)
    → IsSentAhead writer old new planned said (Err fault) file → Front writer old new
ahead_front writer old new planned said Unread file h = went writer file.bytes old new h.1
ahead_front writer old new planned said Unsent file h = stopped writer file.bytes h.0 old new h.1
ahead_front writer old new planned said Memory file h = absurd h
ahead_front writer old new planned said Changed file h = absurd h

-- of a copy of bytes that are read while they are written
pub copy_front : {W : Type 0} (writer : WriteOf W) (old new : W) (fault : FilingFault) (limit : ℕ) (given : List ℕ)
    (left : Option (List ℕ)) (failures after : ℕ)
    → IsRefusedCopy writer old new fault limit given left failures after → Front writer old new
copy_front writer old new Memory limit given left failures after h = went writer given old new h.1.1
copy_front writer old new Unread limit given left failures after h = went writer given old new h.1
copy_front writer old new Changed limit given left failures after h = went writer given old new h.1
copy_front writer old new Unsent limit given left failures after h = stopped writer given h.1.0 old new h.1.1

-- of a text that is sent, a front
pub record TextFront {W : Type 0} (writer : WriteOf W) (text : List ℕ) (old new : W) : Type 0 where
  pub front : List ℕ
  pub rest : List ℕ
  pub parts : text ≡ front ++ rest
  pub stays : writer.rest new ≡ writer.rest old
  pub holds : Appends (writer.contents old) (writer.contents new) front

pub text_front : {W : Type 0} (writer : WriteOf W) (text : List ℕ) (result : Result ℕ WriteFault) (old new : W)
    → SendsTo writer text 0 result old new → TextFront writer text old new
text_front writer text (Ok sent) old new h =
    let went = h.ok.1 in
    record { front = text; rest = []; parts = sym (append-nil text); stays = went.stays; holds = went.holds }
text_front writer text (Err (Write taken)) old new h =
    let stops = h.err in
    record { front = stops.front; rest = stops.rest; parts = stops.parts; stays = stops.stays; holds = stops.holds }
text_front writer text (Err NotWritable) old new h = absurd h.err
