-- Short values whose tags rise are elements of a set in Explicit VR; the tags of each record do.
use Rattle.std.proofs.Common.{◌≡◌, ℕ, ◌+◌, ◌%◌, ◌<◌, ◌≤◌, ◌≢◌, ◌^◌, Bool, true, false, cond, ◌&&◌, T, eqb, ltb, leb}
use Rattle.std.proofs.Common.{ltb→lt, leb→le, List, [], ◌∷◌, ◌++◌, length, Option, Some, None, refl, subst, arith}
use Rattle.std.specs.List.{AllByRecursion}
use Rattle.byteorder.specs.Endian.{little_bytes}
use Rattle.dd_elem.specs.FileId.{Ranks, AreRanks, text_of}
use Rattle.dd_elem.specs.Tag.{number_of}
use Rattle.dd_elem.specs.Vr.{is_long_of}
use Rattle.dd_elem.specs.declared.tag.Tag.{Tag}
use Rattle.dd_elem.specs.declared.vr.Vr.{Vr}
use Rattle.dd_elem.specs.declared.vr.Vr.TheVariants.{CS, DA, LO, PN, SH, SQ, TM}
use Rattle.dd_version.specs.declared.parts.Parts.{Parts}
use Rattle.dd_encoding.specs.Elements.{Elements, Element, Content, bytes, items, fragments, element, elements_of}
use Rattle.dd_encoding.specs.Spelling.{AreElements, delimiter_group, length_limit}
use Rattle.dd_encoding.specs.declared.syntax.Syntax.TheVariants.{Explicit}
use Rattle.dd_records.specs.Cells.{IsShort, IsShortContent, IsShortElement}
use Rattle.dd_records.specs.ElementForms.{tag, padded, text_element, uid_element}
use Rattle.dd_records.specs.Records.{IsFileOf, kind_of, link_elements, record_elements}
use Rattle.dd_records.specs.declared.level.Level.{Level}
use Rattle.dd_records.specs.declared.level.Level.TheVariants.{Patient, Study, Series, Image}
use Rattle.dd_records.proofs.Lengths.{length-padded}
use Rattle.dd_records.proofs.RecordSizes.{length-text_of}

-- ---- tests that compute

-- an element of this value representation holds bytes
abbrev holds : Option Vr → Bool
holds None = false
holds (Some SQ) = false
holds (Some _) = true

-- the next tag may be this one: it is not below the least, and its group comes before the group of delimiters
abbrev may_follow : ℕ → Tag → Bool
may_follow low t = leb low (number_of t) && (ltb t.group delimiter_group && ltb t.element (2 ^ 16))

-- tags rise, and each element holds bytes
abbrev pub in_order : ℕ → List Element → Bool
in_order low [] = true
in_order low (e ∷ es) = may_follow low e.tag && (holds e.vr && in_order (number_of e.tag + 1) es)

both : (a b : Bool) → T (a && b) → T a × T b
both true b h = (tt, h)
both false b h = absurd h

-- ---- elements of a set

short_fits : (vr : Vr) (v : List ℕ) → length v ≤ 1024 → length v < length_limit (Some vr)
short_fits vr v short = go (is_long_of vr) where
  go : (b : Bool) → length v < cond b 0xffffffff (2 ^ 16)
  go true = omega arith
  go false = omega arith

no_sequence : (vr : Vr) → T (holds (Some vr)) → vr ≢ SQ
no_sequence vr h e = subst (λ (v : Vr). T (holds (Some v))) e h

-- a value of even length that its header has room for
pub value_valid : (levels low : ℕ) (t : Tag) (vr : Vr) (v : List ℕ) (rest : Elements) → T (may_follow low t)
    → T (holds (Some vr)) → length v % 2 ≡ 0 → length v < length_limit (Some vr)
    → AreElements Explicit levels (number_of t + 1) rest
    → AreElements Explicit levels low (element t (Some vr) (bytes v) rest)
value_valid levels low t vr v rest follows h even fits valid =
    let a = both (leb low (number_of t)) (ltb t.group delimiter_group && ltb t.element (2 ^ 16)) follows in
    let b = both (ltb t.group delimiter_group) (ltb t.element (2 ^ 16)) a.1 in
    let group : t.group < delimiter_group = ltb→lt t.group delimiter_group b.0 in (
      leb→le low (number_of t) a.0,
      omega arith,
      ltb→lt t.element (2 ^ 16) b.1,
      (λ e. omega arith),
      (no_sequence vr h, even, fits),
      tt,
      valid,
    )

-- a short value
pub one_valid : (levels low : ℕ) (t : Tag) (vr : Option Vr) (c : Content) (rest : Elements) → T (may_follow low t)
    → T (holds vr) → IsShortContent c
    → AreElements Explicit levels (number_of t + 1) rest → AreElements Explicit levels low (element t vr c rest)
one_valid levels low t None c rest follows h short valid = absurd h
one_valid levels low t (Some vr) (items form parts) rest follows h short valid = absurd short
one_valid levels low t (Some vr) (fragments fs) rest follows h short valid = absurd short
one_valid levels low t (Some vr) (bytes v) rest follows h short valid =
    value_valid levels low t vr v rest follows h short.0 (short_fits vr v short.1) valid

pub elements_valid : (levels low : ℕ) (es : List Element) → T (in_order low es) → AllByRecursion IsShortElement es
    → AreElements Explicit levels low (elements_of es)
elements_valid levels low [] rises short = tt
elements_valid levels low (e ∷ es) rises short =
    let a = both (may_follow low e.tag) (holds e.vr && in_order (number_of e.tag + 1) es) rises in
    let b = both (holds e.vr) (in_order (number_of e.tag + 1) es) a.1 in
    one_valid levels low e.tag e.vr e.content (elements_of es) a.0 b.0 short.0
    (elements_valid levels (number_of e.tag + 1) es b.1 short.1)

-- ---- records

-- the tags of a record rise, with a character set and without
record_rises : (level : Level) (next lower : ℕ) (file : Option Ranks) (parts : Parts)
    → T (in_order 0 (record_elements level next lower file parts))
record_rises Patient next lower file parts = go (eqb (length parts.patient.charset) 0) where
  go : (b : Bool) → T (in_order 0 (link_elements next lower (kind_of Patient)
      ++ (cond b [] (text_element (tag 0x0008 0x0005) CS parts.patient.charset ∷ [])
      ++ (text_element (tag 0x0010 0x0010) PN parts.patient.name ∷ text_element (tag 0x0010 0x0020) LO parts.patient.id
      ∷ []))))
  go true = tt
  go false = tt
record_rises Study next lower file parts = go (eqb (length parts.study.charset) 0) where
  go : (b : Bool) → T (in_order 0 (link_elements next lower (kind_of Study)
      ++ (cond b [] (text_element (tag 0x0008 0x0005) CS parts.study.charset ∷ [])
      ++ (text_element (tag 0x0008 0x0020) DA parts.study.date ∷ text_element (tag 0x0008 0x0030) TM parts.study.time
      ∷ text_element (tag 0x0008 0x0050) SH parts.study.accession
      ∷ text_element (tag 0x0008 0x1030) LO parts.study.description ∷ uid_element (tag 0x0020 0x000d) parts.study.uid
      ∷ text_element (tag 0x0020 0x0010) SH parts.study.id ∷ []))))
  go true = tt
  go false = tt
record_rises Series next lower file parts = tt
record_rises Image next lower file parts = tt

pub short_number : (n : ℕ) → IsShort (little_bytes 4 n)
short_number n = (refl, omega arith)

short_file : (r : Ranks) → AreRanks r → IsShort (padded 0x20 (text_of r))
short_file r are =
    let a = length-padded 0x20 (text_of r) in
    let b = length-text_of r are in
    (omega arith, omega arith)

-- other links and ranks leave it short
same_short : (level : Level) (next lower next' lower' : ℕ) (file other : Option Ranks) (parts : Parts)
    → IsFileOf level file → IsFileOf level other
    → AllByRecursion IsShortElement (record_elements level next lower file parts)
    → AllByRecursion IsShortElement (record_elements level next' lower' other parts)
same_short Patient next lower next' lower' file other parts is too h =
    (short_number next', (h.1.0, (short_number lower', h.1.1.1)))
same_short Study next lower next' lower' file other parts is too h =
    (short_number next', (h.1.0, (short_number lower', h.1.1.1)))
same_short Series next lower next' lower' file other parts is too h =
    (short_number next', (h.1.0, (short_number lower', h.1.1.1)))
same_short Image next lower next' lower' None other parts is too h = absurd is
same_short Image next lower next' lower' (Some r) None parts is too h = absurd too
same_short Image next lower next' lower' (Some r) (Some s) parts is too h =
    (short_number next', (h.1.0, (short_number lower', (h.1.1.1.0, (short_file s too, h.1.1.1.1.1)))))

-- a record with the size of one with short values
pub record_valid : (levels : ℕ) (level : Level) (next lower next' lower' : ℕ) (file other : Option Ranks)
    (parts : Parts) → IsFileOf level file → IsFileOf level other
    → AllByRecursion IsShortElement (record_elements level next lower file parts)
    → AreElements Explicit levels 0 (elements_of (record_elements level next' lower' other parts))
record_valid levels level next lower next' lower' file other parts is too short =
    elements_valid levels 0 (record_elements level next' lower' other parts) (record_rises level next' lower' other
    parts)
    (same_short level next lower next' lower' file other parts is too short)
