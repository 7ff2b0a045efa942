-- The elements of a stage are elements of a set in Explicit VR.
use Rattle.std.proofs.Common.{◌≡◌, ◌≢◌, ℕ, zero, suc, ◌+◌, ◌%◌, ◌<◌, ◌≤◌, ◌^◌, Bool, true, false}
use Rattle.std.proofs.Common.{cond, ◌&&◌, T, eqb, ltb, leb, ltb→lt, leb→le, List, [], ◌∷◌, ◌++◌, length}
use Rattle.std.proofs.Common.{Option, Some, None, Result, Ok, Err, refl, sym, ap, ap₂, ◌∙◌, subst, arith, length-append}
use Rattle.std.specs.Prelude.{unwrap_or}
use Rattle.std.proofs.lemmas.Bool.{eqb-true, eqb-false}
use Rattle.std.specs.List.{AllByRecursion}
use Rattle.byteorder.specs.Endian.{little_bytes}
use Rattle.dd_elem.specs.Key.{IsKey}
use Rattle.dd_elem.specs.Tag.{number_of}
use Rattle.dd_elem.specs.Vr.{is_long_of}
use Rattle.dd_elem.specs.declared.tag.Tag.{Tag}
use Rattle.dd_elem.specs.declared.vr.Vr.{Vr}
use Rattle.dd_elem.specs.declared.vr.Vr.TheVariants.{AT, CS, DA, IS, LO, OB, PN, SH, SQ, TM, UL}
use Rattle.dd_version.specs.WellFormed.{IsWellFormed}
use Rattle.dd_version.specs.Fitting.{tag}
use Rattle.dd_version.specs.declared.parts.Parts.{Parts}
use Rattle.dd_encoding.specs.declared.syntax.Length.TheVariants.{Undefined}
use Rattle.dd_encoding.specs.declared.syntax.Syntax.TheVariants.{Explicit}
use Rattle.dd_encoding.specs.Elements.{Content, Element, Elements, Items, bytes, element, elements_of, fragments, items}
use Rattle.dd_encoding.specs.Elements.{item, no_elements, no_items}
use Rattle.dd_encoding.specs.Spelling.{AreElements, AreItems, Spells, content_text, delimiter_group, elements_text}
use Rattle.dd_encoding.specs.Spelling.{items_text, length_limit, max_levels, sequence_end_text, shape_text, tag_text}
use Rattle.dd_encoding.specs.Spelling.{undefined_length}
use Rattle.dd_grammar.proofs.Laws.{one_set}
use Rattle.dd_set.specs.Single.{element_text, item_text}
use Rattle.dd_set.proofs.Counting.{element_first, part_first}
use Rattle.dd_part10.specs.declared.fault.FileFault.TheVariants as file_faults
use Rattle.dd_keys.specs.declared.fault.KeyFault.{KeyFault}
use Rattle.dd_keys.specs.declared.fault.KeyFault.TheVariants as key_faults
use Rattle.dd_staged.specs.declared.code.Code.{Code}
use Rattle.dd_staged.specs.declared.source_fault.SourceFault.{SourceFault}
use Rattle.dd_staged.specs.declared.source_fault.SourceFault.TheVariants as source_faults
use Rattle.dd_staged.specs.Codes.{code_of, key_code}
use Rattle.dd_staged.specs.Forms.{bytes_element, creator_element, name_value, padded, text_element}
use Rattle.dd_staged.specs.Forms.{uid_element}
use Rattle.dd_staged.specs.Sources.{IsFound, IsSource, IsSourceFault, Names, Source}
use Rattle.dd_staged.specs.Values.{source_in}
use Rattle.dd_staged.proofs.Back.{source_back}
use Rattle.dd_staged.specs.Stages.{IsStage, count_of, fault_elements, found_elements, item_with, items_tag, list_text}
use Rattle.dd_staged.specs.Stages.{set_with, size_element, source_elements, source_items, stage_set, stage_text}
use Rattle.dd_staged.specs.Stages.{version_elements}
use Rattle.dd_staged.proofs.Digested.{items_within}
use Rattle.dd_staged.proofs.ItemTexts.{item_length}
use Rattle.sha2.specs.Sha256.{sha256}
use Rattle.sha2.proofs.Facts256.{length-sha256}

-- ---- tests that compute

-- an element of this value representation holds bytes
abbrev holds : Option Vr → Bool
holds None = false
holds (Some SQ) = false
holds (Some _) = true

-- the next tag may be this one: it is not below the least, and its group comes before the group of delimiters
abbrev may_follow : ℕ → Tag → Bool
may_follow low t = leb low (number_of t) && (ltb t.group delimiter_group && ltb t.element (2 ^ 16))

-- tags rise, and each element holds bytes
abbrev in_order : ℕ → List Element → Bool
in_order low [] = true
in_order low (e ∷ es) = may_follow low e.tag && (holds e.vr && in_order (number_of e.tag + 1) es)

both : (a b : Bool) → T (a && b) → T a × T b
both true b h = (tt, h)
both false b h = absurd h

-- ---- elements of a set

no_sequence : (vr : Vr) → T (holds (Some vr)) → vr ≢ SQ
no_sequence vr h e = subst (λ (v : Vr). T (holds (Some v))) e h

-- a value of even length that its header has room for
abbrev FitsContent : Option Vr → Content → Type 0
FitsContent vr (bytes v) = (length v % 2 ≡ 0) × (length v < length_limit vr)
FitsContent vr (items form parts) = ⊥
FitsContent vr (fragments fs) = ⊥

abbrev FitsElement : Element → Type 0
FitsElement e = FitsContent e.vr e.content

one_valid : (levels low : ℕ) (t : Tag) (vr : Option Vr) (c : Content) (rest : Elements) → T (may_follow low t)
    → T (holds vr) → FitsContent vr c → AreElements Explicit levels (number_of t + 1) rest
    → AreElements Explicit levels low (element t vr c rest)
one_valid levels low t None c rest follows h fits valid = absurd h
one_valid levels low t (Some vr) (items form parts) rest follows h fits valid = absurd fits
one_valid levels low t (Some vr) (fragments fs) rest follows h fits valid = absurd fits
one_valid levels low t (Some vr) (bytes v) rest follows h fits valid =
    let a = both (leb low (number_of t)) (ltb t.group delimiter_group && ltb t.element (2 ^ 16)) follows in
    let b = both (ltb t.group delimiter_group) (ltb t.element (2 ^ 16)) a.1 in
    let group : t.group < delimiter_group = ltb→lt t.group delimiter_group b.0 in (
      leb→le low (number_of t) a.0,
      omega arith,
      ltb→lt t.element (2 ^ 16) b.1,
      (λ e. omega arith),
      (no_sequence vr h, fits.0, fits.1),
      tt,
      valid,
    )

elements_valid : (levels low : ℕ) (es : List Element) → T (in_order low es) → AllByRecursion FitsElement es
    → AreElements Explicit levels low (elements_of es)
elements_valid levels low [] rises fits = tt
elements_valid levels low (e ∷ es) rises fits =
    let a = both (may_follow low e.tag) (holds e.vr && in_order (number_of e.tag + 1) es) rises in
    let b = both (holds e.vr) (in_order (number_of e.tag + 1) es) a.1 in
    one_valid levels low e.tag e.vr e.content (elements_of es) a.0 b.0 fits.0
    (elements_valid levels (number_of e.tag + 1) es b.1 fits.1)

-- ---- values

padded_even : (pad : ℕ) (v : List ℕ) → length (padded pad v) % 2 ≡ 0
padded_even pad v = go (eqb (length v % 2) 1) refl where
  go : (b : Bool) → eqb (length v % 2) 1 ≡ b → length (v ++ cond b (pad ∷ []) []) % 2 ≡ 0
  go true e =
      let odd = eqb-true (length v % 2) 1 e in let more = length-append v (pad ∷ []) in omega (arith, odd, more)
  go false e =
      let odd : length v % 2 ≢ 1 = eqb-false (length v % 2) 1 e in let more = length-append v [] in
      omega (arith, odd, more)

padded_short : (pad : ℕ) (v : List ℕ) → length (padded pad v) ≤ length v + 1
padded_short pad v = go (eqb (length v % 2) 1) where
  go : (b : Bool) → length (v ++ cond b (pad ∷ []) []) ≤ length v + 1
  go true = let more = length-append v (pad ∷ []) in omega (arith, more)
  go false = let more = length-append v [] in omega (arith, more)

name_even : (name : List ℕ) → length (name_value name) % 2 ≡ 0
name_even name = go (eqb (length name % 2) 1) refl where
  go : (b : Bool) → eqb (length name % 2) 1 ≡ b → length (name ++ cond b (1 ∷ []) (0 ∷ 2 ∷ [])) % 2 ≡ 0
  go true e =
      let odd = eqb-true (length name % 2) 1 e in let more = length-append name (1 ∷ []) in omega (arith, odd, more)
  go false e =
      let odd : length name % 2 ≢ 1 = eqb-false (length name % 2) 1 e in
      let more = length-append name (0 ∷ 2 ∷ []) in omega (arith, odd, more)

short_fits : (vr : Vr) (n : ℕ) → n ≤ 1025 → n < length_limit (Some vr)
short_fits vr n short = go (is_long_of vr) where
  go : (b : Bool) → n < cond b 0xffffffff (2 ^ 16)
  go true = omega arith
  go false = omega arith

text_fits : (t : Tag) (vr : Vr) (key : List ℕ) → IsKey key → FitsElement (text_element t vr key)
text_fits t vr key is =
    let short = padded_short 0x20 key in
    (padded_even 0x20 key, short_fits vr _ (omega (arith, short, is.short)))

uid_fits : (t : Tag) (uid : List ℕ) → length uid ≤ 64 → FitsElement (uid_element t uid)
uid_fits t uid is = let short = padded_short 0x00 uid in (padded_even 0x00 uid, omega (arith, short, is))

name_fits : (t : Tag) (name : List ℕ) → length (name_value name) < undefined_length
    → FitsElement (bytes_element t OB (name_value name))
name_fits t name short = (name_even name, short)

digest_fits : (t : Tag) (digest : List ℕ) → length digest ≡ 32 → FitsElement (bytes_element t OB digest)
digest_fits t digest is = (omega (arith, is), omega (arith, is))

-- ---- items

creator_fits : FitsElement creator_element
creator_fits = (refl, omega arith)

size_fits : (size : ℕ) → FitsElement (size_element (little_bytes 8 size))
size_fits size = (refl, omega arith)

infixr 30 ◌also◌
◌also◌ : {A B : Type 0} → A → B → A × B
one also others = (one, others)

version_fits : (name : List ℕ) (size : ℕ) (parts : Parts) → IsWellFormed parts
    → length (name_value name) < undefined_length
    → AllByRecursion FitsElement (version_elements name (little_bytes 8 size) parts)
version_fits name size parts is short =
    uid_fits (tag 0x0004 0x1510) parts.class is.image.class.short
    also uid_fits (tag 0x0004 0x1511) parts.instance is.image.instance.short
    also uid_fits (tag 0x0004 0x1512) parts.transfer is.image.transfer.short
    also text_fits (tag 0x0008 0x0005) CS parts.study.charset is.study.charset
    also text_fits (tag 0x0008 0x0020) DA parts.study.date is.study.date
    also text_fits (tag 0x0008 0x0030) TM parts.study.time is.study.time
    also text_fits (tag 0x0008 0x0050) SH parts.study.accession is.study.accession
    also text_fits (tag 0x0008 0x0060) CS parts.series.modality is.series.modality
    also text_fits (tag 0x0008 0x1030) LO parts.study.description is.study.description
    also creator_fits
    also digest_fits (tag 0x0009 0x1001) parts.digest is.image.digest
    also name_fits (tag 0x0009 0x1005) name short
    also size_fits size
    also text_fits (tag 0x0009 0x1007) CS parts.patient.charset is.patient.charset
    also text_fits (tag 0x0010 0x0010) PN parts.patient.name is.patient.name
    also text_fits (tag 0x0010 0x0020) LO parts.patient.id is.patient.id
    also uid_fits (tag 0x0020 0x000d) parts.study.uid is.study.uid.short
    also uid_fits (tag 0x0020 0x000e) parts.series.uid is.series.uid.short
    also text_fits (tag 0x0020 0x0010) SH parts.study.id is.study.id
    also text_fits (tag 0x0020 0x0011) IS parts.series.number is.series.number
    also text_fits (tag 0x0020 0x0013) IS parts.number is.image.number
    also tt

-- the numbers of a fault are four, and so are the bytes of a tag and of a number
pub record HasFours (code : Code) : Type 0 where
  pub numbers : length code.numbers ≡ 4
  pub tag : length code.tag ≡ 4
  pub place : length code.place ≡ 4

fours : (code : Code) → length code.numbers ≡ 4 → length code.tag ≡ 4 → length code.place ≡ 4 → HasFours code
fours code numbers tag place = record { numbers = numbers; tag = tag; place = place }

has_fours : (fault : KeyFault) → HasFours (key_code fault)
has_fours (key_faults.File file_faults.NotPart10) = fours _ refl refl refl
has_fours (key_faults.File file_faults.GroupLength) = fours _ refl refl refl
has_fours (key_faults.File (file_faults.MetaMissing t)) = fours _ refl refl refl
has_fours (key_faults.File (file_faults.MetaUid t)) = fours _ refl refl refl
has_fours (key_faults.File (file_faults.OtherSyntax uid)) = fours _ refl refl refl
has_fours (key_faults.File (file_faults.Meta fault)) = fours _ refl refl refl
has_fours (key_faults.File (file_faults.Set fault)) = fours _ refl refl refl
has_fours (key_faults.NotImage uid) = fours _ refl refl refl
has_fours (key_faults.MissingKey t) = fours _ refl refl refl
has_fours (key_faults.BadKeyUid t) = fours _ refl refl refl
has_fours (key_faults.KeyTooLong t) = fours _ refl refl refl
has_fours (key_faults.KeyIsSequence t) = fours _ refl refl refl
has_fours (key_faults.MetaMismatch t) = fours _ refl refl refl
has_fours key_faults.Read = fours _ refl refl refl
has_fours key_faults.FileTooLong = fours _ refl refl refl
has_fours key_faults.Memory = fours _ refl refl refl

code_fours : (fault : SourceFault) → HasFours (code_of fault)
code_fours (source_faults.Key fault) = has_fours fault
code_fours source_faults.Absent = fours _ refl refl refl
code_fours source_faults.Unread = fours _ refl refl refl
code_fours (source_faults.BadName number) = fours _ refl refl refl

four_fits : (t : Tag) (vr : Vr) (v : List ℕ) → length v ≡ 4 → FitsElement (bytes_element t vr v)
four_fits t vr v is = (omega (arith, is), short_fits vr _ (omega (arith, is)))

-- what a fault names is short
key_uid_short : (fault : KeyFault) → Names fault → length (unwrap_or (key_code fault).uid []) ≤ 64
key_uid_short (key_faults.File file_faults.NotPart10) is = omega arith
key_uid_short (key_faults.File file_faults.GroupLength) is = omega arith
key_uid_short (key_faults.File (file_faults.MetaMissing t)) is = omega arith
key_uid_short (key_faults.File (file_faults.MetaUid t)) is = omega arith
key_uid_short (key_faults.File (file_faults.OtherSyntax uid)) is = is.short
key_uid_short (key_faults.File (file_faults.Meta fault)) is = omega arith
key_uid_short (key_faults.File (file_faults.Set fault)) is = omega arith
key_uid_short (key_faults.NotImage uid) is = is.short
key_uid_short (key_faults.MissingKey t) is = omega arith
key_uid_short (key_faults.BadKeyUid t) is = omega arith
key_uid_short (key_faults.KeyTooLong t) is = omega arith
key_uid_short (key_faults.KeyIsSequence t) is = omega arith
key_uid_short (key_faults.MetaMismatch t) is = omega arith
key_uid_short key_faults.Read is = omega arith
key_uid_short key_faults.FileTooLong is = omega arith
key_uid_short key_faults.Memory is = omega arith

uid_short : (fault : SourceFault) → IsSourceFault fault → length (unwrap_or (code_of fault).uid []) ≤ 64
uid_short (source_faults.Key fault) is = key_uid_short fault is.names
uid_short source_faults.Absent is = omega arith
uid_short source_faults.Unread is = omega arith
uid_short (source_faults.BadName number) is = omega arith

fault_fits : (name : List ℕ) (size : ℕ) (fault : SourceFault) → IsSourceFault fault
    → length (name_value name) < undefined_length
    → AllByRecursion FitsElement (fault_elements name (little_bytes 8 size) (code_of fault))
fault_fits name size fault is short =
    let four = code_fours fault in
    creator_fits
    also name_fits (tag 0x0009 0x1005) name short
    also size_fits size
    also four_fits (tag 0x0009 0x1008) OB _ four.numbers
    also four_fits (tag 0x0009 0x1009) AT _ four.tag
    also uid_fits (tag 0x0009 0x100a) (unwrap_or (code_of fault).uid []) (uid_short fault is)
    also four_fits (tag 0x0009 0x100c) UL _ four.place
    also tt

-- the elements of a source are those of a set
found_valid : (levels : ℕ) (name : List ℕ) (size : ℕ) (found : Result Parts SourceFault) → IsFound found
    → length (name_value name) < undefined_length
    → AreElements Explicit levels 0 (elements_of (found_elements name (little_bytes 8 size) found))
found_valid levels name size (Ok parts) is short =
    elements_valid levels 0 (version_elements name (little_bytes 8 size) parts) tt
    (version_fits name size parts is short)
found_valid levels name size (Err fault) is short =
    elements_valid levels 0 (fault_elements name (little_bytes 8 size) (code_of fault)) tt
    (fault_fits name size fault is short)

-- ---- the name is within the elements

-- the bytes of the element at a place
abbrev value_of : Content → List ℕ
value_of (bytes v) = v
value_of (items form parts) = []
value_of (fragments fs) = []

abbrev value_nth : ℕ → List Element → List ℕ
value_nth i [] = []
value_nth zero (e ∷ es) = value_of e.content
value_nth (suc i) (e ∷ es) = value_nth i es

content_within : (vr : Option Vr) (c : Content) → length (value_of c) ≤ length (content_text vr c)
content_within vr (bytes v) = let one = length-append (shape_text vr (length v)) v in omega (arith, one)
content_within vr (items form parts) = omega arith
content_within vr (fragments fs) = omega arith

value_within : (i : ℕ) (es : List Element) → length (value_nth i es) ≤ length (elements_text (elements_of es))
value_within i [] = omega arith
value_within zero (e ∷ es) =
    let all = ap length (element_first e (elements_of es)) in
    let one = length-append (element_text e) (elements_text (elements_of es)) in
    let two = length-append (tag_text e.tag) (content_text e.vr e.content) in
    let three = content_within e.vr e.content in
    omega (arith, all, one, two, three)
value_within (suc i) (e ∷ es) =
    let all = ap length (element_first e (elements_of es)) in
    let one = length-append (element_text e) (elements_text (elements_of es)) in
    omega (arith, all, one, value_within i es)

name_within : (name size : List ℕ) (found : Result Parts SourceFault)
    → length (name_value name) ≤ length (elements_text (elements_of (found_elements name size found)))
name_within name size (Ok parts) = value_within 11 (version_elements name size parts)
name_within name size (Err fault) = value_within 1 (fault_elements name size (code_of fault))

-- ---- the whole

items_valid : (levels : ℕ) (sources : List Source) → AllByRecursion IsSource sources
    → length (items_text (source_items sources)) < undefined_length
    → AreItems Explicit (suc levels) (source_items sources)
items_valid levels [] each short = tt
items_valid levels (source ∷ sources) each short =
    let es = source_elements source in
    let whole = ap length (part_first (item_with es) (source_items sources)) in
    let sum = length-append (item_text (item_with es)) (items_text (source_items sources)) in
    let one = item_length es in
    let name = name_within source.name (little_bytes 8 source.size) source.found in (
      found_valid levels source.name source.size source.found each.0.found
          (omega (arith, whole, sum, one, name, short)),
      omega (arith, whole, sum, one, short),
      items_valid levels sources each.1 (omega (arith, whole, sum, one, short)),
    )

set_valid : (parts : Items) (digest : List ℕ) → length digest ≡ 32 → AreItems Explicit max_levels parts
    → AreElements Explicit max_levels 0 (set_with parts digest)
set_valid parts digest is valid =
    let last : Elements = element (tag 0x0009 0x100b) (Some OB) (bytes digest) no_elements in
    let fourth : AreElements Explicit max_levels (number_of items_tag + 1) last =
    one_valid max_levels _ (tag 0x0009 0x100b) (Some OB) (bytes digest) no_elements tt tt
    (digest_fits (tag 0x0009 0x100b) digest is) tt in
    let listed : Elements = element items_tag (Some SQ) (items Undefined parts) last in
    let third : AreElements Explicit max_levels (number_of (tag 0x0009 0x1003) + 1) listed =
    (omega arith, omega arith, omega arith, (λ e. omega arith), (valid, tt), tt, fourth) in
    let count : Content = bytes (little_bytes 4 (count_of parts)) in
    let more : Elements = element (tag 0x0009 0x1003) (Some UL) count listed in
    let second : AreElements Explicit max_levels (number_of creator_element.tag + 1) more =
    one_valid max_levels _ (tag 0x0009 0x1003) (Some UL) count listed tt tt (refl, omega arith) third in
    one_valid max_levels 0 creator_element.tag creator_element.vr creator_element.content more tt tt
    (refl, omega arith) second

-- a stage is the spelling of its set
pub stage_spells : (text : List ℕ) (sources : List Source) → IsStage text sources
    → Spells Explicit (stage_set (source_items sources)) text
stage_spells text sources is =
    let parts = source_items sources in
    let within = items_within parts in
    let same : length text ≡ length (stage_text sources) = ap length is.text in
    record {
      valid = set_valid parts (sha256 (list_text parts)) (length-sha256 (list_text parts))
          (items_valid 31 sources is.each (omega (arith, within, same, is.short)));
      whole = is.text;
      fits = omega (arith, is.short);
    }

-- ---- one list

-- the items that a set holds in its third element
abbrev items_in : Elements → Items
items_in (element t vr c (element u ur d (element v vs (items form parts) rest))) = parts
items_in set = no_items

-- the sources that items say
abbrev sources_in : Items → List Source
sources_in no_items = []
sources_in (item form set rest) = source_in set ∷ sources_in rest

sources_back : (sources : List Source) → AllByRecursion IsSource sources → sources_in (source_items sources) ≡ sources
sources_back [] each = refl
sources_back (source ∷ sources) each =
    ap₂ (λ (s : Source) (ss : List Source). s ∷ ss) (source_back source each.0) (sources_back sources each.1)

pub one_list : (text : List ℕ) (one other : List Source) → IsStage text one → IsStage text other → one ≡ other
one_list text one other first second =
    let same : stage_set (source_items one) ≡ stage_set (source_items other) =
    one_set Explicit _ _ text (stage_spells text one first) (stage_spells text other second) in
    sym (sources_back one first.each) ∙ ap (λ (s : Elements). sources_in (items_in s)) same
    ∙ sources_back other second.each
