-- What is known of files ahead of their copies, and what writing a file that was read answers.
use Rattle.std.specs.Prelude.{◌≡◌, ◌≤◌, ℕ, Bool, true, false, List, [], ◌∷◌, ◌++◌, All, take, get_or}
use Rattle.std.specs.Prelude.{Option, None, Result, Ok, Err, IfErr, ⊤, if◌then◌else◌}
use Rattle.sha2.specs.Sha256.{sha256}
use Rattle.sha2.specs.declared.Sha256.{Sha256}
use Rattle.dd_elem.specs.declared.device.Write.{Ghosts as WriteOf}
use Rattle.dd_keys.specs.Kept.{digested_by}
use Rattle.dd_keys.specs.declared.fault.KeyFault.{KeyFault}
use Rattle.dd_keys.specs.declared.fault.KeyFault.TheVariants.{Read}
use Rattle.dd_slots.specs.Slots.{IsSlotOf}
use Rattle.dd_slots.specs.declared.slot.Slot.{Slot}
use Rattle.dd_stream.specs.Sends.{GoesTo, StopsIn}
use Rattle.dd_stream.specs.Streams.{Ends}
use Rattle.dd_stream.specs.declared.end.End.TheVariants.{Ended, Failed}
use Rattle.dd_version.specs.declared.parts.Parts.{Parts}
use Rattle.dd_filing.specs.Copies.{IsFoundIn}
use Rattle.dd_filing.specs.CopySteps.{IsFilingFault}
use Rattle.dd_filing.specs.Filing.{IsFileAs}
use Rattle.dd_filing.specs.Taken.{Taken}
use Rattle.dd_filing.specs.declared.agreeing.Filed.{Filed}
use Rattle.dd_filing.specs.declared.copying.FilingFault.{FilingFault}
use Rattle.dd_filing.specs.declared.copying.FilingFault.TheVariants.{Unread, Unsent}
use Rattle.dd_filing.specs.declared.places.Ahead.{Ahead}
use Rattle.dd_filing.specs.declared.places.Ahead.TheVariants as known
use Rattle.dd_filing.specs.declared.places.Found.{Found}
use Rattle.dd_filing.specs.declared.places.Found.TheVariants as found
use Rattle.dd_filing.specs.declared.places.Place.{Place}
use Rattle.dd_filing.specs.declared.places.Places.{Places}

-- ---- one file

-- what is known of a file once reading it gave these bytes
abbrev pub IsReadAhead : Ahead → ℕ → List ℕ → Option (List ℕ) → ℕ → ℕ → Type 0
IsReadAhead (known.File file) limit given left old new = (file.bytes ≡ given)
    × Ends (if file.whole then Ended else Failed) limit given left old new
IsReadAhead known.Absent limit given left old new = ⊥
IsReadAhead known.Unknown limit given left old new = ⊤

-- a file that is read ahead has less than 8 MiB
abbrev pub ahead_limit : ℕ
ahead_limit = 8388607

-- what is known while digests are open: of files that were read whole nothing
abbrev pub shown : Bool → Ahead → Ahead
shown true file = file
shown false (known.File file) = if file.whole then known.Unknown else known.File file
shown false file = file

-- the answer for a file, to a writer that was `old` and is `new`
abbrev pub IsSentAhead : {W : Type 0} → WriteOf W → W → W → Parts → Option Parts → Result Filed FilingFault → Taken
    → Type 0
IsSentAhead writer old new planned said (Ok filed) file = (file.whole ≡ true)
    × (IsFileAs planned said filed file.bytes × GoesTo writer file.bytes old new)
IsSentAhead writer old new planned said (Err Unread) file = (file.whole ≡ false) × GoesTo writer file.bytes old new
IsSentAhead writer old new planned said (Err Unsent) file = (taken : ℕ) × StopsIn writer file.bytes 0 taken old new
IsSentAhead writer old new planned said (Err fault) file = ⊥

-- ---- the next files

-- what is known of them, how many of them are past, and whether all digests are set
pub record NextFiles : Type 0 where
  pub files : List Ahead
  pub past : ℕ
  pub digested : Bool

abbrev pub no_files : NextFiles
no_files = record { files = []; past = 0; digested = false }

-- one more, of which this is known
abbrev pub with_file : NextFiles → Ahead → NextFiles
with_file all file = record { files = all.files ++ file ∷ []; past = all.past; digested = false }

-- what is known of the first that is not past
abbrev pub first_left : NextFiles → Ahead
first_left all = shown all.digested (get_or all.files all.past known.Unknown)

-- The evidence for a file that is refused in its turn: a file was not opened, or a read failed.
abbrev pub IsDue : Type 0 → Type 0 → Ahead → Type 0
IsDue Refuses Fails (known.File file) = file.whole ≡ false → Fails
IsDue Refuses Fails known.Absent = Refuses
IsDue Refuses Fails known.Unknown = ⊤

-- the same of each of them
abbrev pub AreDue : Type 0 → Type 0 → NextFiles → Type 0
AreDue Refuses Fails all = All (IsDue Refuses Fails) all.files

-- ---- places

-- what a place keeps of the answer for a file: nothing where the file is too long, or an allocation was refused
abbrev pub IsFoundBy : Result Parts KeyFault → Found → Type 0
IsFoundBy answer (found.Whole same) = (same ≡ answer) × IfErr answer (λ fault. IsFilingFault fault None)
IsFoundBy answer found.Unread = answer ≡ Err Read
IsFoundBy (Err fault) found.Nothing = ¬ IsFilingFault fault None
IsFoundBy answer other = ⊥

-- the slot has the bytes of a file, and this is found of them; the digest of a version may not be set yet
pub record HasFile (slot : Slot) (answer : Result Parts KeyFault) (digested : Bool) : Type 0 where
  pub bytes : List ℕ
  pub kept : IsSlotOf slot bytes
  pub is : IsFoundIn bytes (digested_by (sha256 bytes) answer)
  pub set : digested ≡ true → answer ≡ digested_by (sha256 bytes) answer

-- a place without a file that was read whole, or with one and what is found of it
abbrev pub IsPlace : Slot → Found → Bool → Type 0
IsPlace slot (found.Whole answer) digested = HasFile slot answer digested
IsPlace slot other digested = Unit {0}

-- what a place knows: bytes that were hashed during the read are not there
abbrev pub known_by : Found → Option Sha256 → List ℕ → Ahead
known_by found.Absent hasher kept = known.Absent
known_by found.Unread None kept = known.File (record { bytes = kept; whole = false })
known_by (found.Whole answer) None kept = known.File (record { bytes = kept; whole = true })
known_by other hasher kept = known.Unknown

abbrev pub known_of : Place → Ahead
known_of place = known_by place.found place.slot.hasher place.slot.kept.items

-- what is known of the files whose places are held
abbrev pub files_of : Places → List Ahead
files_of all = take all.held (known_of all.first ∷ known_of all.second ∷ known_of all.third ∷ known_of all.fourth
    ∷ known_of all.fifth ∷ known_of all.sixth ∷ known_of all.seventh ∷ known_of all.latest ∷ [])

-- at most eight are held, and each is a place
abbrev pub ArePlaces : Places → Bool → Type 0
ArePlaces all digested = (all.held ≤ 8)
    × (IsPlace all.first.slot all.first.found digested
    × (IsPlace all.second.slot all.second.found digested
    × (IsPlace all.third.slot all.third.found digested
    × (IsPlace all.fourth.slot all.fourth.found digested
    × (IsPlace all.fifth.slot all.fifth.found digested
    × (IsPlace all.sixth.slot all.sixth.found digested
    × (IsPlace all.seventh.slot all.seventh.found digested × IsPlace all.latest.slot all.latest.found digested)))))))

-- a version that was found gets this digest
abbrev pub found_with : Found → List ℕ → Found
found_with (found.Whole answer) digest = found.Whole (digested_by digest answer)
found_with other digest = other

-- the version in a place gets the digest of the bytes in its slot
abbrev pub IsDigested : Place → Place → Type 0
IsDigested old new = (digest : List ℕ) × (((bytes : List ℕ) → IsSlotOf old.slot bytes → digest ≡ sha256 bytes)
    × (new ≡ record { slot = old.slot; found = found_with old.found digest }))
