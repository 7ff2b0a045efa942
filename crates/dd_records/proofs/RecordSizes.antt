-- Neither the links of a record nor the ranks in its File ID change its size.
use Rattle.std.proofs.Common.{◌≡◌, ℕ, ◌+◌, List, [], ◌∷◌, ◌++◌, length, Option, Some, None, refl, arith, length-append}
use Rattle.byteorder.specs.Endian.{little_bytes}
use Rattle.dd_elem.specs.FileId.{Ranks, AreRanks, text_of}
use Rattle.dd_elem.proofs.SixDigits.{length-six_digits}
use Rattle.dd_elem.specs.declared.vr.Vr.TheVariants.{CS, IS, UL, US}
use Rattle.dd_version.specs.declared.parts.Parts.{Parts}
use Rattle.dd_encoding.specs.Elements.{Element}
use Rattle.dd_records.specs.ElementForms.{tag, padded, text_element, uid_element, long_element, short_element}
use Rattle.dd_records.specs.Records.{IsFileOf, digest_elements, kind_of, key_elements, link_elements, record_elements}
use Rattle.dd_records.specs.Sizes.{elements_size}
use Rattle.dd_records.specs.declared.level.Level.{Level}
use Rattle.dd_records.specs.declared.level.Level.TheVariants.{Patient, Study, Series, Image}
use Rattle.dd_records.proofs.Lengths.{length-padded, short_more, size-append}

-- a File ID has 35 characters
pub length-text_of : (r : Ranks) → AreRanks r → length (text_of r) ≡ 35
unfolding text_of
length-text_of r are =
    let p = simp length-append at (length-six_digits r.patient are.patient) in
    let s = simp length-append at (length-six_digits r.study are.study) in
    let e = simp length-append at (length-six_digits r.series are.series) in
    let i = simp length-append at (length-six_digits r.image are.image) in
    simp length-append (omega arith)

-- what a record begins with
pub link_sum : (next lower : ℕ) (kind : List ℕ) → elements_size (link_elements next lower kind)
    ≡ 42 + length (padded 0x20 kind)
link_sum next lower kind =
    let kinds : List Element = text_element (tag 0x0004 0x1430) CS kind ∷ [] in
    let below : List Element = long_element (tag 0x0004 0x1420) lower ∷ kinds in
    let flag : List Element = short_element (tag 0x0004 0x1410) 0xffff ∷ below in
    let a = short_more (tag 0x0004 0x1400) UL (little_bytes 4 next) flag refl in
    let b = short_more (tag 0x0004 0x1410) US (little_bytes 2 0xffff) below refl in
    let c = short_more (tag 0x0004 0x1420) UL (little_bytes 4 lower) kinds refl in
    let d = short_more (tag 0x0004 0x1430) CS (padded 0x20 kind) [] refl in
    omega arith

-- its keys
same_keys : (level : Level) (file other : Option Ranks) (parts : Parts) → IsFileOf level file → IsFileOf level other
    → elements_size (key_elements level file parts) ≡ elements_size (key_elements level other parts)
same_keys Patient file other parts is too = refl
same_keys Study file other parts is too = refl
same_keys Series file other parts is too = refl
same_keys Image None other parts is too = absurd is
same_keys Image (Some r) None parts is too = absurd too
same_keys Image (Some r) (Some s) parts is too =
    let rest : List Element =
    uid_element (tag 0x0004 0x1510) parts.class ∷ uid_element (tag 0x0004 0x1511) parts.instance
    ∷ uid_element (tag 0x0004 0x1512) parts.transfer
    ∷ (digest_elements parts.digest ++ (text_element (tag 0x0020 0x0013) IS parts.number ∷ [])) in
    let a = short_more (tag 0x0004 0x1500) CS (padded 0x20 (text_of r)) rest refl in
    let b = short_more (tag 0x0004 0x1500) CS (padded 0x20 (text_of s)) rest refl in
    let c = length-padded 0x20 (text_of r) in
    let d = length-padded 0x20 (text_of s) in
    let e = length-text_of r is in
    let f = length-text_of s too in
    omega arith

-- the whole record
pub same_size : (level : Level) (next lower next' lower' : ℕ) (file other : Option Ranks) (parts : Parts)
    → IsFileOf level file → IsFileOf level other
    → elements_size (record_elements level next lower file parts)
    ≡ elements_size (record_elements level next' lower' other parts)
same_size level next lower next' lower' file other parts is too =
    let a = size-append (link_elements next lower (kind_of level)) (key_elements level file parts) in
    let b = size-append (link_elements next' lower' (kind_of level)) (key_elements level other parts) in
    let c = link_sum next lower (kind_of level) in
    let d = link_sum next' lower' (kind_of level) in
    let e = same_keys level file other parts is too in
    omega arith
