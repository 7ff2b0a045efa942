-- The value representations: their letters, and which have the long header (PS3.5 sections 6.2 and 7.1.2).
use Rattle.std.specs.Prelude.{ℕ, Bool, true, false, List, [], ◌∷◌, Option, find}
use Rattle.std.specs.Str.{bytes_eq}
use Rattle.dd_elem.specs.declared.vr.Vr.{Vr}
use Rattle.dd_elem.specs.declared.vr.Vr.TheVariants.{AE, AS, AT, CS, DA, DS, DT, FD, FL, IS, LO, LT, OB, OD, OF, OL, OV}
use Rattle.dd_elem.specs.declared.vr.Vr.TheVariants.{OW, PN, SH, SL, SQ, SS, ST, SV, TM, UC, UI, UL, UN, UR, US, UT, UV}

-- the two letters of each, in ASCII
abbrev pub letters_of : Vr → List ℕ
letters_of AE = 65 ∷ 69 ∷ []
letters_of AS = 65 ∷ 83 ∷ []
letters_of AT = 65 ∷ 84 ∷ []
letters_of CS = 67 ∷ 83 ∷ []
letters_of DA = 68 ∷ 65 ∷ []
letters_of DS = 68 ∷ 83 ∷ []
letters_of DT = 68 ∷ 84 ∷ []
letters_of FD = 70 ∷ 68 ∷ []
letters_of FL = 70 ∷ 76 ∷ []
letters_of IS = 73 ∷ 83 ∷ []
letters_of LO = 76 ∷ 79 ∷ []
letters_of LT = 76 ∷ 84 ∷ []
letters_of OB = 79 ∷ 66 ∷ []
letters_of OD = 79 ∷ 68 ∷ []
letters_of OF = 79 ∷ 70 ∷ []
letters_of OL = 79 ∷ 76 ∷ []
letters_of OV = 79 ∷ 86 ∷ []
letters_of OW = 79 ∷ 87 ∷ []
letters_of PN = 80 ∷ 78 ∷ []
letters_of SH = 83 ∷ 72 ∷ []
letters_of SL = 83 ∷ 76 ∷ []
letters_of SQ = 83 ∷ 81 ∷ []
letters_of SS = 83 ∷ 83 ∷ []
letters_of ST = 83 ∷ 84 ∷ []
letters_of SV = 83 ∷ 86 ∷ []
letters_of TM = 84 ∷ 77 ∷ []
letters_of UC = 85 ∷ 67 ∷ []
letters_of UI = 85 ∷ 73 ∷ []
letters_of UL = 85 ∷ 76 ∷ []
letters_of UN = 85 ∷ 78 ∷ []
letters_of UR = 85 ∷ 82 ∷ []
letters_of US = 85 ∷ 83 ∷ []
letters_of UT = 85 ∷ 84 ∷ []
letters_of UV = 85 ∷ 86 ∷ []

-- whether a length of 32 bits follows two reserved bytes
abbrev pub is_long_of : Vr → Bool
is_long_of OB = true
is_long_of OD = true
is_long_of OF = true
is_long_of OL = true
is_long_of OV = true
is_long_of OW = true
is_long_of SQ = true
is_long_of SV = true
is_long_of UC = true
is_long_of UN = true
is_long_of UR = true
is_long_of UT = true
is_long_of UV = true
is_long_of AE = false
is_long_of AS = false
is_long_of AT = false
is_long_of CS = false
is_long_of DA = false
is_long_of DS = false
is_long_of DT = false
is_long_of FD = false
is_long_of FL = false
is_long_of IS = false
is_long_of LO = false
is_long_of LT = false
is_long_of PN = false
is_long_of SH = false
is_long_of SL = false
is_long_of SS = false
is_long_of ST = false
is_long_of TM = false
is_long_of UI = false
is_long_of UL = false
is_long_of US = false

-- all 34
abbrev pub all_vrs : List Vr
all_vrs = AE ∷ AS ∷ AT ∷ CS ∷ DA ∷ DS ∷ DT ∷ FD ∷ FL ∷ IS ∷ LO ∷ LT ∷ OB ∷ OD ∷ OF ∷ OL ∷ OV ∷ OW ∷ PN ∷ SH ∷ SL ∷ SQ ∷
    SS ∷ ST ∷ SV ∷ TM ∷ UC ∷ UI ∷ UL ∷ UN ∷ UR ∷ US ∷ UT ∷ UV ∷ []

-- the one with these letters
abbrev pub vr_of : List ℕ → Option Vr
vr_of letters = find (λ v. bytes_eq (letters_of v) letters) all_vrs
