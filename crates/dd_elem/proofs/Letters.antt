-- The letters of a value representation name it, and no other.
use Rattle.std.proofs.Common.{◌≡◌, ◌≢◌, ℕ, false, List, [], ◌∷◌, Option, Some, None, refl, sym, ap}
use Rattle.std.proofs.Common.{◌∙◌}
use Rattle.std.specs.Prelude.{IfSome, IfNone, find}
use Rattle.std.specs.Str.{bytes_eq}
use Rattle.std.proofs.lemmas.Bool.{false_from_ne_true}
use Rattle.std.proofs.lemmas.Slice.Eq.{bytes_eq-Decides}
use Rattle.dd_elem.specs.declared.vr.Vr.{Vr}
use Rattle.dd_elem.specs.declared.vr.Vr.TheVariants.{AE, AS, AT, CS, DA, DS, DT, FD, FL, IS, LO, LT, OB, OD, OF, OL, OV}
use Rattle.dd_elem.specs.declared.vr.Vr.TheVariants.{OW, PN, SH, SL, SQ, SS, ST, SV, TM, UC, UI, UL, UN, UR, US, UT, UV}
use Rattle.dd_elem.specs.Vr.{letters_of, all_vrs, vr_of}

-- its letters name it
pub vr_of-letters_of : (v : Vr) → vr_of (letters_of v) ≡ Some v
vr_of-letters_of AE = refl
vr_of-letters_of AS = refl
vr_of-letters_of AT = refl
vr_of-letters_of CS = refl
vr_of-letters_of DA = refl
vr_of-letters_of DS = refl
vr_of-letters_of DT = refl
vr_of-letters_of FD = refl
vr_of-letters_of FL = refl
vr_of-letters_of IS = refl
vr_of-letters_of LO = refl
vr_of-letters_of LT = refl
vr_of-letters_of OB = refl
vr_of-letters_of OD = refl
vr_of-letters_of OF = refl
vr_of-letters_of OL = refl
vr_of-letters_of OV = refl
vr_of-letters_of OW = refl
vr_of-letters_of PN = refl
vr_of-letters_of SH = refl
vr_of-letters_of SL = refl
vr_of-letters_of SQ = refl
vr_of-letters_of SS = refl
vr_of-letters_of ST = refl
vr_of-letters_of SV = refl
vr_of-letters_of TM = refl
vr_of-letters_of UC = refl
vr_of-letters_of UI = refl
vr_of-letters_of UL = refl
vr_of-letters_of UN = refl
vr_of-letters_of UR = refl
vr_of-letters_of US = refl
vr_of-letters_of UT = refl
vr_of-letters_of UV = refl

-- they are two
pub letters_two : (v : Vr) → (a : ℕ) × ((b : ℕ) × (letters_of v ≡ a ∷ b ∷ []))
letters_two AE = (65, (69, refl))
letters_two AS = (65, (83, refl))
letters_two AT = (65, (84, refl))
letters_two CS = (67, (83, refl))
letters_two DA = (68, (65, refl))
letters_two DS = (68, (83, refl))
letters_two DT = (68, (84, refl))
letters_two FD = (70, (68, refl))
letters_two FL = (70, (76, refl))
letters_two IS = (73, (83, refl))
letters_two LO = (76, (79, refl))
letters_two LT = (76, (84, refl))
letters_two OB = (79, (66, refl))
letters_two OD = (79, (68, refl))
letters_two OF = (79, (70, refl))
letters_two OL = (79, (76, refl))
letters_two OV = (79, (86, refl))
letters_two OW = (79, (87, refl))
letters_two PN = (80, (78, refl))
letters_two SH = (83, (72, refl))
letters_two SL = (83, (76, refl))
letters_two SQ = (83, (81, refl))
letters_two SS = (83, (83, refl))
letters_two ST = (83, (84, refl))
letters_two SV = (83, (86, refl))
letters_two TM = (84, (77, refl))
letters_two UC = (85, (67, refl))
letters_two UI = (85, (73, refl))
letters_two UL = (85, (76, refl))
letters_two UN = (85, (78, refl))
letters_two UR = (85, (82, refl))
letters_two US = (85, (83, refl))
letters_two UT = (85, (84, refl))
letters_two UV = (85, (86, refl))

none_found : (letters : List ℕ) (vs : List Vr) → ((v : Vr) → letters_of v ≢ letters)
    → find (λ v. bytes_eq (letters_of v) letters) vs ≡ None
none_found letters [] h = refl
none_found letters (v ∷ vs) h =
    let differ : bytes_eq (letters_of v) letters ≡ false = false_from_ne_true _
    (λ e. h v ((bytes_eq-Decides (letters_of v) letters).0 e)) in
    rw differ (none_found letters vs h)

-- an answer that is named by its letters, and None only where no letters fit, is the one with these letters
pub vr_exact : (letters : List ℕ) (r : Option Vr) → IfSome r (λ v. letters_of v ≡ letters)
    → IfNone r ((v : Vr) → letters_of v ≢ letters) → r ≡ vr_of letters
vr_exact letters (Some v) named unnamed = sym (vr_of-letters_of v) ∙ ap vr_of named
vr_exact letters None named unnamed = sym (none_found letters all_vrs unnamed)
