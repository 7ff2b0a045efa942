-- Digests are set in places.
use Rattle.std.proofs.Common.{◌≡◌, ℕ, Bool, List, Option, None, Some, Result, Ok, Err, true, false}
use Rattle.std.proofs.Common.{refl, ap, sym, ◌∙◌, subst}
use Rattle.sha2.specs.Sha256.{sha256}
use Rattle.sha2.specs.declared.Sha256.{Sha256}
use Rattle.dd_keys.specs.Kept.{digested_by}
use Rattle.dd_keys.specs.declared.fault.KeyFault.{KeyFault}
use Rattle.dd_slots.specs.Slots.{IsSlotOf}
use Rattle.dd_slots.specs.declared.slot.Slot.{Slot}
use Rattle.dd_version.specs.Copies.{with_digest}
use Rattle.dd_version.specs.declared.parts.Parts.{Parts}
use Rattle.dd_filing.specs.Ahead.{HasFile, IsDigested, IsPlace, found_with, known_by, known_of}
use Rattle.dd_filing.specs.declared.places.Found.{Found}
use Rattle.dd_filing.specs.declared.places.Found.TheVariants as found
use Rattle.dd_filing.specs.declared.places.Place.{Place}

-- ---- what was found

abbrev version_of : Parts → Result Parts KeyFault
version_of version = Ok version

-- a version that was read has the digest of the bytes in the slot
file_digested : (slot : Slot) (answer : Result Parts KeyFault) (was : Bool) (digest : List ℕ) → HasFile slot answer was
    → ((bytes : List ℕ) → IsSlotOf slot bytes → digest ≡ sha256 bytes)
    → HasFile slot (digested_by digest answer) true
file_digested slot (Ok version) was digest h is = record {
  bytes = h.bytes;
  kept = h.kept;
  is = h.is;
  set = λ _. ap (λ (digest : List ℕ). version_of (with_digest version digest)) (is h.bytes h.kept);
}
file_digested slot (Err fault) was digest h is =
    record { bytes = h.bytes; kept = h.kept; is = h.is; set = λ _. refl }

place_of : (slot : Slot) (old : Found) (was : Bool) (digest : List ℕ) → IsPlace slot old was
    → ((bytes : List ℕ) → IsSlotOf slot bytes → digest ≡ sha256 bytes)
    → IsPlace slot (found_with old digest) true
place_of slot (found.Whole answer) was digest h is = file_digested slot answer was digest h is
place_of slot found.Nothing was digest h is = tt
place_of slot found.Absent was digest h is = tt
place_of slot found.Unread was digest h is = tt

pub place_digested : (old new : Place) (was : Bool) → IsDigested old new → IsPlace old.slot old.found was
    → IsPlace new.slot new.found true
place_digested old new was by h =
    subst (λ (place : Place). IsPlace place.slot place.found true) (sym by.1.1)
    (place_of old.slot old.found was by.0 h by.1.0)

-- a place whose digest may be set is one whose digest may be open
pub place_open : (slot : Slot) (one : Found) (was : Bool) → IsPlace slot one was → IsPlace slot one false
place_open slot (found.Whole answer) was h =
    record { bytes = h.bytes; kept = h.kept; is = h.is; set = λ e. absurd (cc) }
place_open slot found.Nothing was h = tt
place_open slot found.Absent was h = tt
place_open slot found.Unread was h = tt

-- ---- what is known of its file

known_same : (one : Found) (hasher : Option Sha256) (kept digest : List ℕ)
    → known_by (found_with one digest) hasher kept ≡ known_by one hasher kept
known_same found.Nothing hasher kept digest = refl
known_same found.Absent hasher kept digest = refl
known_same found.Unread None kept digest = refl
known_same found.Unread (Some hasher) kept digest = refl
known_same (found.Whole answer) None kept digest = refl
known_same (found.Whole answer) (Some hasher) kept digest = refl

pub known_digested : (old new : Place) → IsDigested old new → known_of new ≡ known_of old
known_digested old new by =
    ap (λ (place : Place). known_of place) by.1.1
    ∙ known_same old.found old.slot.hasher old.slot.kept.items by.0
