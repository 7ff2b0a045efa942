-- An item says the source that it was made of.
use Rattle.std.proofs.Common.{◌≡◌, ◌≢◌, ℕ, ◌%◌, Bool, true, false, cond, eqb, List, [], ◌∷◌, ◌++◌, length}
use Rattle.std.proofs.Common.{Option, Some, None, ◌+◌, ◌-◌, take, get_or, arith, append_assoc, length-append}
use Rattle.std.proofs.Common.{Result, Ok, Err, refl, sym, ap, ◌∙◌, append-nil}
use Rattle.std.proofs.lemmas.Nat.{from_le_bytes-to_le_bytes_4, from_le_bytes-to_le_bytes_8}
use Rattle.byteorder.specs.Endian.{little_bytes}
use Rattle.dd_elem.specs.Clean.{clean_of, is_padding}
use Rattle.dd_elem.specs.Key.{IsKey}
use Rattle.dd_elem.specs.Uid.{IsUid}
use Rattle.dd_elem.specs.declared.tag.Tag.{Tag}
use Rattle.dd_elem.proofs.Cleaning.{clean_of-clean_of, clean_of_push_padding}
use Rattle.std.specs.Prelude.{unwrap_or}
use Rattle.dd_set.specs.Find.{content_value, element_value, find_in}
use Rattle.dd_encoding.specs.Elements.{Content, Element, Elements, bytes, fragments, items}
use Rattle.dd_version.specs.WellFormed.{IsWellFormed}
use Rattle.dd_version.specs.declared.parts.Parts.{Parts}
use Rattle.dd_encoding.specs.Elements.{elements_of}
use Rattle.dd_encoding.specs.Spelling.{tag_text}
use Rattle.dd_grammar.proofs.Before.{tag_again}
use Rattle.dd_grammar.specs.Reading.{tag_of}
use Rattle.dd_grammar.specs.declared.fault.SetFault.{SetFault}
use Rattle.dd_grammar.specs.declared.fault.SetFault.TheVariants as set_faults
use Rattle.dd_part10.proofs.HeadLaw.{clean_uid}
use Rattle.dd_part10.specs.declared.fault.FileFault.{FileFault}
use Rattle.dd_part10.specs.declared.fault.FileFault.TheVariants as file_faults
use Rattle.dd_keys.specs.declared.fault.KeyFault.{KeyFault}
use Rattle.dd_keys.specs.declared.fault.KeyFault.TheVariants as key_faults
use Rattle.dd_staged.specs.declared.source_fault.SourceFault.{SourceFault}
use Rattle.dd_staged.specs.declared.source_fault.SourceFault.TheVariants as source_faults
use Rattle.dd_staged.specs.Codes.{code_of, key_code, set_number}
use Rattle.dd_staged.specs.Forms.{name_value, padded}
use Rattle.dd_staged.specs.Sources.{IsFault, IsFound, IsSource, IsSourceFault, IsTag, Source, has_copy}
use Rattle.dd_staged.specs.Stages.{fault_elements, source_elements, version_elements}
use Rattle.dd_staged.specs.Values.{key_at, fault_in, last_of, name_in, parts_in, set_fault_of, size_in, source_in}

-- ---- padding and ends go again

clean_of-padded : (pad : ℕ) (v : List ℕ) → is_padding pad ≡ true → clean_of (padded pad v) ≡ clean_of v
clean_of-padded pad v is = go (eqb (length v % 2) 1) where
  go : (b : Bool) → clean_of (v ++ cond b (pad ∷ []) []) ≡ clean_of v
  go true = clean_of_push_padding v pad is
  go false = ap clean_of (append-nil v)

key_back : (key : List ℕ) → IsKey key → clean_of (padded 0x20 key) ≡ key
key_back key is = clean_of-padded 0x20 key refl ∙ is.clean

uid_back : (uid : List ℕ) → IsUid uid → clean_of (padded 0x00 uid) ≡ uid
uid_back uid is = clean_of-padded 0x00 uid refl ∙ clean_uid uid is

get_end : (v : List ℕ) (byte : ℕ) (rest : List ℕ) → get_or (v ++ byte ∷ rest) (length v) 0 ≡ byte
get_end [] byte rest = refl
get_end (a ∷ v) byte rest = get_end v byte rest

take_front : (v rest : List ℕ) → take (length v) (v ++ rest) ≡ v
take_front [] rest = refl
take_front (a ∷ v) rest = ap (λ (w : List ℕ). a ∷ w) (take_front v rest)

-- a name before an end, which its last byte counts
name_before : (name end whole : List ℕ) (last : ℕ) → whole ≡ name ++ end → length end ≡ last
    → last_of whole ≡ last → name_in whole ≡ name
name_before name end whole last is count last_is =
    let sum : length whole ≡ length name + length end = ap length is ∙ length-append name end in
    let at : length whole - last_of whole ≡ length name = omega (arith, sum, count, last_is) in
    ap (λ (n : ℕ). take n whole) at ∙ ap (λ (v : List ℕ). take (length name) v) is ∙ take_front name end

name_odd : (name : List ℕ) → name_in (name ++ 1 ∷ []) ≡ name
name_odd name =
    let whole : List ℕ = name ++ 1 ∷ [] in
    let at : length whole - 1 ≡ length name = omega (arith, length-append name (1 ∷ [])) in
    name_before name (1 ∷ []) whole 1 refl refl (ap (λ (n : ℕ). get_or whole n 0) at ∙ get_end name 1 [])

name_even : (name : List ℕ) → name_in (name ++ 0 ∷ 2 ∷ []) ≡ name
name_even name =
    let whole : List ℕ = name ++ 0 ∷ 2 ∷ [] in
    let front : List ℕ = name ++ 0 ∷ [] in
    let at : length whole - 1 ≡ length front =
    omega (arith, length-append name (0 ∷ 2 ∷ []), length-append name (0 ∷ [])) in
    let split : whole ≡ front ++ 2 ∷ [] = sym (append_assoc name (0 ∷ []) (2 ∷ [])) in
    name_before name (0 ∷ 2 ∷ []) whole 2 refl refl (ap (λ (n : ℕ). get_or whole n 0) at
    ∙ ap (λ (v : List ℕ). get_or v (length front) 0) split ∙ get_end front 2 [])

name_back : (name : List ℕ) → name_in (name_value name) ≡ name
name_back name = go (eqb (length name % 2) 1) where
  go : (b : Bool) → name_in (name ++ cond b (1 ∷ []) (0 ∷ 2 ∷ [])) ≡ name
  go true = name_odd name
  go false = name_even name

-- ---- a version

parts_back : (name size : List ℕ) (parts : Parts) → IsWellFormed parts
    → parts_in (elements_of (version_elements name size parts)) ≡ parts
parts_back name size parts is =
    let id : clean_of (padded 0x20 parts.patient.id) ≡ parts.patient.id = key_back _ is.patient.id in
    let pname : clean_of (padded 0x20 parts.patient.name) ≡ parts.patient.name = key_back _ is.patient.name in
    let pset : clean_of (padded 0x20 parts.patient.charset) ≡ parts.patient.charset = key_back _ is.patient.charset in
    let study : clean_of (padded 0x00 parts.study.uid) ≡ parts.study.uid = uid_back _ is.study.uid in
    let date : clean_of (padded 0x20 parts.study.date) ≡ parts.study.date = key_back _ is.study.date in
    let time : clean_of (padded 0x20 parts.study.time) ≡ parts.study.time = key_back _ is.study.time in
    let accession : clean_of (padded 0x20 parts.study.accession) ≡ parts.study.accession =
    key_back _ is.study.accession in
    let description : clean_of (padded 0x20 parts.study.description) ≡ parts.study.description =
    key_back _ is.study.description in
    let sid : clean_of (padded 0x20 parts.study.id) ≡ parts.study.id = key_back _ is.study.id in
    let sset : clean_of (padded 0x20 parts.study.charset) ≡ parts.study.charset = key_back _ is.study.charset in
    let series : clean_of (padded 0x00 parts.series.uid) ≡ parts.series.uid = uid_back _ is.series.uid in
    let modality : clean_of (padded 0x20 parts.series.modality) ≡ parts.series.modality =
    key_back _ is.series.modality in
    let snumber : clean_of (padded 0x20 parts.series.number) ≡ parts.series.number = key_back _ is.series.number in
    let number : clean_of (padded 0x20 parts.number) ≡ parts.number = key_back _ is.image.number in
    let class : clean_of (padded 0x00 parts.class) ≡ parts.class = uid_back _ is.image.class in
    let transfer : clean_of (padded 0x00 parts.transfer) ≡ parts.transfer = uid_back _ is.image.transfer in
    let instance : clean_of (padded 0x00 parts.instance) ≡ parts.instance = uid_back _ is.image.instance in
    λ i. record {
      digest = parts.digest;
      patient = record { id = id i; name = pname i; charset = pset i };
      study = record {
        uid = study i;
        date = date i;
        time = time i;
        accession = accession i;
        description = description i;
        id = sid i;
        charset = sset i;
      };
      series = record { uid = series i; modality = modality i; number = snumber i };
      number = number i;
      class = class i;
      transfer = transfer i;
      instance = instance i;
    }

-- ---- a fault

set_back : (fault : SetFault) → fault ≢ set_faults.Memory → set_fault_of (set_number fault) ≡ fault
set_back set_faults.Truncated is = refl
set_back set_faults.Order is = refl
set_back set_faults.BadVr is = refl
set_back set_faults.Reserved is = refl
set_back set_faults.OddLength is = refl
set_back set_faults.UndefinedLength is = refl
set_back set_faults.UnexpectedTag is = refl
set_back set_faults.BadDelimiter is = refl
set_back set_faults.Overrun is = refl
set_back set_faults.TooDeep is = refl
set_back set_faults.Memory is = absurd (is refl)

tag_back : (t : Tag) → IsTag t → tag_of (tag_text t) ≡ t
tag_back t is = ap tag_of (sym (append-nil (tag_text t))) ∙ tag_again t [] is.0 is.1

file_back : (name size : List ℕ) (fault : FileFault) → IsFault (key_faults.File fault)
    → fault_in (elements_of (fault_elements name size (key_code (key_faults.File fault))))
    ≡ source_faults.Key (key_faults.File fault)
file_back name size file_faults.NotPart10 is = refl
file_back name size file_faults.GroupLength is = refl
file_back name size (file_faults.MetaMissing t) is =
    ap (λ (u : Tag). source_faults.Key (key_faults.File (file_faults.MetaMissing u))) (tag_back t is.names)
file_back name size (file_faults.MetaUid t) is =
    ap (λ (u : Tag). source_faults.Key (key_faults.File (file_faults.MetaUid u))) (tag_back t is.names)
file_back name size (file_faults.OtherSyntax uid) is =
    ap (λ (u : List ℕ). source_faults.Key (key_faults.File (file_faults.OtherSyntax u))) (uid_back uid is.names)
file_back name size (file_faults.Meta fault) is =
    ap (λ (f : SetFault). source_faults.Key (key_faults.File (file_faults.Meta f))) (set_back fault
    (λ e. is.of_read.memory (rw e tt)))
file_back name size (file_faults.Set fault) is =
    ap (λ (f : SetFault). source_faults.Key (key_faults.File (file_faults.Set f))) (set_back fault
    (λ e. is.of_read.memory (rw e tt)))

key_fault_back : (name size : List ℕ) (fault : KeyFault) → IsFault fault
    → fault_in (elements_of (fault_elements name size (key_code fault))) ≡ source_faults.Key fault
key_fault_back name size (key_faults.File fault) is = file_back name size fault is
key_fault_back name size (key_faults.NotImage uid) is =
    ap (λ (u : List ℕ). source_faults.Key (key_faults.NotImage u)) (uid_back uid is.names)
key_fault_back name size (key_faults.MissingKey t) is =
    ap (λ (u : Tag). source_faults.Key (key_faults.MissingKey u)) (tag_back t is.names)
key_fault_back name size (key_faults.BadKeyUid t) is =
    ap (λ (u : Tag). source_faults.Key (key_faults.BadKeyUid u)) (tag_back t is.names)
key_fault_back name size (key_faults.KeyTooLong t) is =
    ap (λ (u : Tag). source_faults.Key (key_faults.KeyTooLong u)) (tag_back t is.names)
key_fault_back name size (key_faults.KeyIsSequence t) is =
    ap (λ (u : Tag). source_faults.Key (key_faults.KeyIsSequence u)) (tag_back t is.names)
key_fault_back name size (key_faults.MetaMismatch t) is =
    ap (λ (u : Tag). source_faults.Key (key_faults.MetaMismatch u)) (tag_back t is.names)
key_fault_back name size key_faults.Read is = absurd (is.of_read.read refl)
key_fault_back name size key_faults.FileTooLong is = refl
key_fault_back name size key_faults.Memory is = absurd (is.of_read.memory tt)

fault_back : (name size : List ℕ) (fault : SourceFault) → IsSourceFault fault
    → fault_in (elements_of (fault_elements name size (code_of fault))) ≡ fault
fault_back name size (source_faults.Key fault) is = key_fault_back name size fault is
fault_back name size source_faults.Absent is = refl
fault_back name size source_faults.Unread is = refl
fault_back name size (source_faults.BadName number) is = ap source_faults.BadName (from_le_bytes-to_le_bytes_4 number is)

-- ---- a source

pub source_back : (source : Source) → IsSource source → source_in (elements_of (source_elements source)) ≡ source
source_back source is = go source.found is.found is.none where
  go : (found : Result Parts SourceFault) → IsFound found → (has_copy found ≡ false → source.size ≡ 0)
      → source_in (elements_of (source_elements (record source { found = found }))) ≡ record source { found = found }
  go (Ok parts) held none =
      let name = name_back source.name in
      let size = from_le_bytes-to_le_bytes_8 source.size is.size in
      let same = parts_back source.name (little_bytes 8 source.size) parts held in
      λ i. record { name = name i; size = size i; found = Ok (same i) }
  go (Err (source_faults.Key fault)) held none =
      let name = name_back source.name in
      let set = elements_of (fault_elements source.name (little_bytes 8 source.size) (key_code fault)) in
      let same = fault_back source.name (little_bytes 8 source.size) (source_faults.Key fault) held in
      let copy : size_in (Err (fault_in set)) set ≡ source.size =
      ap (λ (f : SourceFault). size_in (Err f) set) same ∙ from_le_bytes-to_le_bytes_8 source.size is.size in
      λ i. record { name = name i; size = copy i; found = Err (same i) }
  go (Err source_faults.Absent) held none =
      let name = name_back source.name in
      let size : 0 ≡ source.size = sym (none refl) in
      λ i. record { name = name i; size = size i; found = Err source_faults.Absent }
  go (Err source_faults.Unread) held none =
      let name = name_back source.name in
      let size : 0 ≡ source.size = sym (none refl) in
      λ i. record { name = name i; size = size i; found = Err source_faults.Unread }
  go (Err (source_faults.BadName number)) held none =
      let name = name_back source.name in
      let size : 0 ≡ source.size = sym (none refl) in
      let same = fault_back source.name (little_bytes 8 source.size) (source_faults.BadName number) held in
      λ i. record { name = name i; size = size i; found = Err (same i) }

-- ---- values without padding

pub key_is_clean : (t : Tag) (set : Elements) → clean_of (key_at t set) ≡ key_at t set
key_is_clean t set = go (find_in t set) where
  go : (found : Option Element) → clean_of (unwrap_or (element_value found) []) ≡ unwrap_or (element_value found) []
  go None = refl
  go (Some e) = content e.content where
    content : (c : Content) → clean_of (unwrap_or (content_value c) []) ≡ unwrap_or (content_value c) []
    content (bytes v) = clean_of-clean_of v
    content (items form parts) = refl
    content (fragments fs) = refl
