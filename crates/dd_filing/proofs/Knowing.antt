-- What is known of files, by their places.
use Rattle.std.proofs.Common.{◌≡◌, ◌<◌, ◌≤◌, ℕ, zero, suc, Bool, true, false, List, [], ◌∷◌, ◌++◌, Option, None, Some}
use Rattle.std.proofs.Common.{length, length-take-le, take, refl, ap, sym, ◌∙◌, arith}
use Rattle.std.specs.Prelude.{IsNone}
use Rattle.sha2.specs.Sha256.{sha256}
use Rattle.sha2.specs.declared.Sha256.{Sha256}
use Rattle.dd_slots.specs.Slots.{HasTaken, IsSlotOf}
use Rattle.dd_filing.proofs.Digested.{known_digested, place_digested, place_open}
use Rattle.dd_filing.specs.Ahead.{ArePlaces, IsDigested, IsPlace, files_of, found_with, known_by, known_of}
use Rattle.dd_filing.specs.Ahead.{shown, with_file}
use Rattle.dd_filing.specs.declared.places.Ahead.{Ahead}
use Rattle.dd_filing.specs.declared.places.Ahead.TheVariants as known
use Rattle.dd_filing.specs.declared.places.Found.{Found}
use Rattle.dd_filing.specs.declared.places.Found.TheVariants.{Unread}
use Rattle.dd_filing.specs.declared.places.Place.{Place}
use Rattle.dd_filing.specs.declared.places.Places.{Places}

-- bytes of a file whose reader failed
unread_kept : (digested : Bool) (hasher : Option Sha256) (kept bytes : List ℕ) → IsNone hasher
    → ((all : List ℕ) → HasTaken hasher kept all → bytes ≡ all)
    → known.File (record { bytes = bytes; whole = false }) ≡ shown digested (known_by Unread hasher kept)
unread_kept true None kept bytes none is =
    ap (λ (all : List ℕ). known.File (record { bytes = all; whole = false })) (is kept refl)
unread_kept false None kept bytes none is =
    ap (λ (all : List ℕ). known.File (record { bytes = all; whole = false })) (is kept refl)
unread_kept digested (Some hasher) kept bytes none is = absurd (cc)

pub unread_ahead : (digested : Bool) (one : Found) (hasher : Option Sha256) (kept bytes : List ℕ) → one ≡ Unread
    → IsNone hasher → ((all : List ℕ) → HasTaken hasher kept all → bytes ≡ all)
    → known.File (record { bytes = bytes; whole = false }) ≡ shown digested (known_by one hasher kept)
unread_ahead digested one hasher kept bytes unread none is =
    unread_kept digested hasher kept bytes none is
    ∙ ap (λ (one : Found). shown digested (known_by one hasher kept)) (sym unread)

-- ---- the next file

held_same : (held : ℕ) (first second third fourth fifth sixth seventh one other : Ahead) → held < 8
    → take held (first ∷ second ∷ third ∷ fourth ∷ fifth ∷ sixth ∷ seventh ∷ one ∷ [])
    ≡ take held (first ∷ second ∷ third ∷ fourth ∷ fifth ∷ sixth ∷ seventh ∷ other ∷ [])
held_same zero first second third fourth fifth sixth seventh one other h = refl
held_same (suc zero) first second third fourth fifth sixth seventh one other h = refl
held_same (suc (suc zero)) first second third fourth fifth sixth seventh one other h = refl
held_same (suc (suc (suc zero))) first second third fourth fifth sixth seventh one other h = refl
held_same (suc (suc (suc (suc zero)))) first second third fourth fifth sixth seventh one other h = refl
held_same (suc (suc (suc (suc (suc zero))))) first second third fourth fifth sixth seventh one other h = refl
held_same (suc (suc (suc (suc (suc (suc zero)))))) first second third fourth fifth sixth seventh one other h = refl
held_same (suc (suc (suc (suc (suc (suc (suc zero))))))) first second third fourth fifth sixth seventh one other h =
    refl
held_same (suc (suc (suc (suc (suc (suc (suc (suc held)))))))) first second third fourth fifth sixth seventh one other
    h = absurd (omega (arith, h))

-- where there is room, the latest place is not held
has_room : (all : Places) → all.held ≤ 8 → length (files_of all) < 8 → all.held < 8
has_room all most room =
    let many = length-take-le all.held
    (known_of all.first ∷ known_of all.second ∷ known_of all.third ∷ known_of all.fourth ∷ known_of all.fifth
    ∷ known_of all.sixth ∷ known_of all.seventh ∷ known_of all.latest ∷ []) most in
    omega (arith, many, room)

-- the latest place is held as well, and this is known of its file
pub next_file : (all new : Places) (latest : Place) (past : ℕ) (was : Bool) (one : Ahead) → all.held ≤ 8
    → files_of new ≡ files_of (record all { latest = latest }) ++ known_of latest ∷ [] → known_of latest ≡ one
    → length (files_of all) < 8
    → record { files = files_of new; past = past; digested = false }
    ≡ with_file (record { files = files_of all; past = past; digested = was }) one
next_file all new latest past was one most files is room =
    ap (λ (files : List Ahead). record { files = files; past = past; digested = false })
    (files ∙ ap (λ (one : Ahead). files_of (record all { latest = latest }) ++ one ∷ []) is
    ∙ ap (λ (files : List Ahead). files ++ one ∷ [])
    (held_same all.held (known_of all.first) (known_of all.second) (known_of all.third) (known_of all.fourth)
    (known_of all.fifth) (known_of all.sixth) (known_of all.seventh) (known_of latest)
    (known_of all.latest) (has_room all most room)))

-- a place more leaves the others places, whose digests may then be open
pub places_open : (all : Places) (latest : Place) (was : Bool) → ArePlaces all was
    → IsPlace latest.slot latest.found false → ArePlaces (record all { latest = latest }) false
places_open all latest was h is = (
  h.0,
  (
    place_open all.first.slot all.first.found was h.1.0,
    (
      place_open all.second.slot all.second.found was h.1.1.0,
      (
        place_open all.third.slot all.third.found was h.1.1.1.0,
        (
          place_open all.fourth.slot all.fourth.found was h.1.1.1.1.0,
          (
            place_open all.fifth.slot all.fifth.found was h.1.1.1.1.1.0,
            (
              place_open all.sixth.slot all.sixth.found was h.1.1.1.1.1.1.0,
              (place_open all.seventh.slot all.seventh.found was h.1.1.1.1.1.1.1.0, is),
            ),
          ),
        ),
      ),
    ),
  ),
)

-- ---- digests

-- what was found in the place has this digest
pub is_digested : (old : Place) (one : Found) (digest : List ℕ)
    → ((bytes : List ℕ) → IsSlotOf old.slot bytes → digest ≡ sha256 bytes)
    → one ≡ found_with old.found digest → IsDigested old (record { slot = old.slot; found = one })
is_digested old one digest right same =
    (digest, (right, ap (λ (one : Found). record { slot = old.slot; found = one }) same))

pub places_digested : (old new : Places) (was : Bool) → ArePlaces old was → new.held ≡ old.held
    → IsDigested old.first new.first → IsDigested old.second new.second → IsDigested old.third new.third
    → IsDigested old.fourth new.fourth → IsDigested old.fifth new.fifth → IsDigested old.sixth new.sixth
    → IsDigested old.seventh new.seventh → IsDigested old.latest new.latest → ArePlaces new true
places_digested old new was h held first second third fourth fifth sixth seventh latest = (
  omega (arith, held, h.0),
  (
    place_digested old.first new.first was first h.1.0,
    (
      place_digested old.second new.second was second h.1.1.0,
      (
        place_digested old.third new.third was third h.1.1.1.0,
        (
          place_digested old.fourth new.fourth was fourth h.1.1.1.1.0,
          (
            place_digested old.fifth new.fifth was fifth h.1.1.1.1.1.0,
            (
              place_digested old.sixth new.sixth was sixth h.1.1.1.1.1.1.0,
              (
                place_digested old.seventh new.seventh was seventh h.1.1.1.1.1.1.1.0,
                place_digested old.latest new.latest was latest h.1.1.1.1.1.1.1.1,
              ),
            ),
          ),
        ),
      ),
    ),
  ),
)

pub files_digested : (old new : Places) → new.held ≡ old.held → IsDigested old.first new.first
    → IsDigested old.second new.second → IsDigested old.third new.third → IsDigested old.fourth new.fourth
    → IsDigested old.fifth new.fifth → IsDigested old.sixth new.sixth → IsDigested old.seventh new.seventh
    → IsDigested old.latest new.latest
    → files_of new ≡ files_of old
files_digested old new held first second third fourth fifth sixth seventh latest =
    ap (λ (n : ℕ). take n (known_of new.first ∷ known_of new.second ∷ known_of new.third ∷ known_of new.fourth
    ∷ known_of new.fifth ∷ known_of new.sixth ∷ known_of new.seventh ∷ known_of new.latest ∷ []))
    held
    ∙ ap (λ (one : Ahead). take old.held (one ∷ known_of new.second ∷ known_of new.third ∷ known_of new.fourth
    ∷ known_of new.fifth ∷ known_of new.sixth ∷ known_of new.seventh ∷ known_of new.latest ∷ []))
    (known_digested old.first new.first first)
    ∙ ap (λ (one : Ahead). take old.held (known_of old.first ∷ one ∷ known_of new.third ∷ known_of new.fourth
    ∷ known_of new.fifth ∷ known_of new.sixth ∷ known_of new.seventh ∷ known_of new.latest ∷ []))
    (known_digested old.second new.second second)
    ∙ ap (λ (one : Ahead). take old.held (known_of old.first ∷ known_of old.second ∷ one ∷ known_of new.fourth
    ∷ known_of new.fifth ∷ known_of new.sixth ∷ known_of new.seventh ∷ known_of new.latest ∷ []))
    (known_digested old.third new.third third)
    ∙ ap (λ (one : Ahead). take old.held (known_of old.first ∷ known_of old.second ∷ known_of old.third ∷ one
    ∷ known_of new.fifth ∷ known_of new.sixth ∷ known_of new.seventh ∷ known_of new.latest ∷ []))
    (known_digested old.fourth new.fourth fourth)
    ∙ ap (λ (one : Ahead). take old.held (known_of old.first ∷ known_of old.second ∷ known_of old.third
    ∷ known_of old.fourth ∷ one ∷ known_of new.sixth ∷ known_of new.seventh ∷ known_of new.latest ∷ []))
    (known_digested old.fifth new.fifth fifth)
    ∙ ap (λ (one : Ahead). take old.held (known_of old.first ∷ known_of old.second ∷ known_of old.third
    ∷ known_of old.fourth ∷ known_of old.fifth ∷ one ∷ known_of new.seventh ∷ known_of new.latest ∷ []))
    (known_digested old.sixth new.sixth sixth)
    ∙ ap (λ (one : Ahead). take old.held (known_of old.first ∷ known_of old.second ∷ known_of old.third
    ∷ known_of old.fourth ∷ known_of old.fifth ∷ known_of old.sixth ∷ one ∷ known_of new.latest ∷ []))
    (known_digested old.seventh new.seventh seventh)
    ∙ ap (λ (one : Ahead). take old.held (known_of old.first ∷ known_of old.second ∷ known_of old.third
    ∷ known_of old.fourth ∷ known_of old.fifth ∷ known_of old.sixth ∷ known_of old.seventh ∷ one ∷ []))
    (known_digested old.latest new.latest latest)
