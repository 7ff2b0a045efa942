-- Why a pile was refused, by the counts of its files and of their readers.
use Rattle.std.proofs.Common.{◌≡◌, ℕ, Bool, List, Option, Err, IfErr, IfOk, inr, refl, subst, sym, if◌then◌else◌}
use Rattle.dd_elem.specs.declared.device.Read.{Ghosts as ReadOf}
use Rattle.dd_elem.specs.declared.device.Write.{Ghosts as WriteOf}
use Rattle.dd_files.proofs.Reasons.{failed_reader, has_failed}
use Rattle.dd_files.specs.Reasons.{HasCounted, HasFailedReader}
use Rattle.dd_filing.proofs.DueFiles.{due_since, due_with}
use Rattle.dd_filing.specs.Ahead.{AreDue, IsDue, IsReadAhead, NextFiles, with_file}
use Rattle.dd_filing.specs.Copies.{IsAheadCopy, IsRefusedSource}
use Rattle.dd_filing.specs.Taken.{Taken}
use Rattle.dd_filing.specs.declared.copying.FilingFault.{FilingFault}
use Rattle.dd_filing.specs.declared.copying.FilingFault.TheVariants.{Changed, Memory, Unread, Unsent}
use Rattle.dd_filing.specs.declared.places.Ahead.{Ahead}
use Rattle.dd_filing.specs.declared.places.Ahead.TheVariants as known
use Rattle.dd_stream.specs.Sends.{StopsBy, counts_of}
use Rattle.dd_stream.specs.Streams.{Ends}
use Rattle.dd_stream.specs.declared.end.End.TheVariants.{Ended, Failed}
use Rattle.dd_stream.specs.declared.write_fault.WriteFault.{WriteFault}
use Rattle.dd_stream.specs.declared.write_fault.WriteFault.TheVariants.{NotWritable, Write}
use Rattle.dd_files.specs.Files.{Held}
use Rattle.dd_pile.specs.Copies.{IsCopiedDueTo, MakesCopy, WritesFront, cut_or_refused}
use Rattle.dd_pile.specs.Refusals.{IsDueTo, IsOfCopy}
use Rattle.dd_pile.specs.declared.refusal.StageRefusal.{StageRefusal}
use Rattle.dd_pile.specs.declared.refusal.StageRefusal.TheVariants as refusals

-- a count that stays
pub same_counted : (old new : ℕ) → new ≡ old → HasCounted old → HasCounted new
same_counted old new same counted = subst HasCounted (sym same) counted

-- ---- the refusal of a fault

module _ {R W : Type 0} (reads : ReadOf R) (writer : WriteOf W) (old new : W) (refused : ℕ) where
  abbrev Due : StageRefusal → Type 0
  Due = IsDueTo reads refused (writer.failures new)

  -- what a fault of a copy makes of it, with its evidence
  abbrev Because : FilingFault → ℕ → Type 0
  Because fault at = IfErr (cut_or_refused fault at) Due × IfOk (cut_or_refused fault at) (IsCopiedDueTo reads refused)

  -- the copy of a source, while this reader read it
  pub source_due : (fault : FilingFault) (limit : ℕ) (given : List ℕ) (left : Option (List ℕ)) (reader : R)
      (failures at : ℕ)
      → IsRefusedSource writer old new fault limit given left failures (reads.failures reader) → Because fault at
  source_due Memory limit given left reader failures at h = (tt, tt)
  source_due Unread limit given left reader failures at h = (tt, failed_reader reads reader failures h.0.1)
  source_due Unsent limit given left reader failures at h =
      (inr (has_failed (writer.failures old) (writer.failures new) h.1.1.failed), tt)
  source_due Changed limit given left reader failures at h = absurd h

  -- the copy of one that was read ahead
  pub ahead_due : (Refuses : Type 0) (fault : FilingFault) (file : Taken) (at : ℕ)
      → IsDue Refuses (HasFailedReader reads) (known.File file) → IsAheadCopy writer old new (Err fault) file
      → Because fault at
  ahead_due Refuses Memory file at due h = (tt, tt)
  ahead_due Refuses Unread file at due h = (tt, due h.0)
  ahead_due Refuses Unsent file at due h =
      (inr (has_failed (writer.failures old) (writer.failures new) h.1.failed), tt)
  ahead_due Refuses Changed file at due h = absurd h

  -- the text of the list
  pub list_due : (fault : WriteFault) (text : List ℕ)
      → StopsBy text 0 fault (writer.contents old, writer.rest old) (writer.contents new, writer.rest new)
      (counts_of writer old) (counts_of writer new)
      → Due refusals.ListUnsent
  list_due (Write k) text h = inr (has_failed (writer.failures old) (writer.failures new) h.failed)
  list_due NotWritable text h = absurd h

-- it is of this copy
pub cut_of : (fault : FilingFault) (at : ℕ) → IfErr (cut_or_refused fault at) (IsOfCopy at)
cut_of Memory at = tt
cut_of Unread at = tt
cut_of Unsent at = refl
cut_of Changed at = tt

-- a part of a copy was made, where that is what it makes
pub cut_made : (pile : List ℕ) (number : ℕ) (source : List ℕ) (fault : FilingFault) (at : ℕ) (a b : Option Held)
    → WritesFront pile number a b
    → IfOk (cut_or_refused fault at) (λ copied. MakesCopy pile number source copied a b)
cut_made pile number source Memory at a b front = tt
cut_made pile number source Unread at a b front = front
cut_made pile number source Unsent at a b front = tt
cut_made pile number source Changed at a b front = front

-- ---- what was read ahead

-- one more, after a call
pub due_more : (old new : ℕ) (Fails : Type 0) (all after : NextFiles) (file : Ahead) → (HasCounted old → HasCounted new)
    → after ≡ with_file all file → AreDue (HasCounted old) Fails all → IsDue (HasCounted new) Fails file
    → AreDue (HasCounted new) Fails after
due_more old new Fails all after file since is due one =
    due_with (HasCounted new) Fails all after file is
    (due_since (HasCounted old) (HasCounted new) Fails all all refl since due) one

-- what this reader gave
pub read_due : {R : Type 0} (reads : ReadOf R) (Refuses : Type 0) (file : Ahead) (limit : ℕ) (given : List ℕ)
    (left : Option (List ℕ)) (reader : R) (failures : ℕ)
    → IsReadAhead file limit given left failures (reads.failures reader)
    → IsDue Refuses (HasFailedReader reads) file
read_due reads Refuses (known.File file) limit given left reader failures h = λ partial.
    let Came = λ (whole : Bool).
    Ends (if whole then Ended else Failed) limit given left failures (reads.failures reader) in
    failed_reader reads reader failures (subst Came partial h.1).1
read_due reads Refuses known.Absent limit given left reader failures h = absurd h
read_due reads Refuses known.Unknown limit given left reader failures h = tt
