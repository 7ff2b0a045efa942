-- The head of a file, part by part.
use Rattle.std.proofs.Common.{◌≡◌, ◌≢◌, ℕ, ◌+◌, ◌<◌, ◌≤◌, ◌^◌, ◌%◌, ◌==◌, Bool, true, false, if◌then◌else◌, List, []}
use Rattle.std.proofs.Common.{◌∷◌, ◌++◌}
use Rattle.std.proofs.Common.{length, replicate, Some, refl, sym, ap, ◌∙◌, arith, append_assoc, append-nil}
use Rattle.std.proofs.Common.{length-append}
use Rattle.std.proofs.lemmas.Bool.{eqb-true, eqb-false}
use Rattle.byteorder.specs.Endian.{little_bytes}
use Rattle.dd_elem.specs.declared.tag.Tag.{Tag}
use Rattle.dd_elem.specs.declared.vr.Vr.{Vr}
use Rattle.dd_elem.specs.declared.vr.Vr.TheVariants.{OB, UI, UL}
use Rattle.dd_elem.specs.Vr.{is_long_of}
use Rattle.dd_encoding.specs.Elements.{Elements, no_elements, element, bytes}
use Rattle.dd_encoding.specs.Spelling.{header_limit}
use Rattle.dd_encoding.specs.Spelling.{elements_text, tag_text, shape_text, header_text, content_text}
use Rattle.dd_encoding.specs.declared.meta.Meta.{Meta}
use Rattle.dd_encoding.specs.Head.{prefix, group_length_text}
use Rattle.dd_encoding.specs.Meta.{group_length_tag, class_tag, instance_tag, transfer_tag}
use Rattle.dd_encoding.specs.Head.{head_text, group_text, uids_text, uid_text, uid_element, version_tag, padded}
use Rattle.dd_encoding.specs.Head.{padding_of, implementation_tag, implementation_uid}

-- ---- padding

-- one byte of padding or none
abbrev one_if : Bool → List ℕ
one_if b = if b then 0 ∷ [] else []

-- it is as long as the length is odd
length_one_if : (n : ℕ) (b : Bool) → (n % 2 == 1) ≡ b → length (one_if b) ≡ n % 2
length_one_if n true e = sym (eqb-true (n % 2) 1 e)
length_one_if n false e = let other : n % 2 ≢ 1 = eqb-false (n % 2) 1 e in omega (arith, other)

-- so is the padding of any number of characters
length_padding : (n : ℕ) → length (padding_of n) ≡ n % 2
length_padding n = length_one_if n (n % 2 == 1) refl

-- a UID takes as many bytes as it has characters, or one more
pub length_padded : (uid : List ℕ) → length (padded uid) ≡ length uid + length uid % 2
length_padded uid =
    length-append uid (padding_of (length uid)) ∙ ap (λ (k : ℕ). length uid + k) (length_padding (length uid))

-- ---- an element with a UID

-- it stands before the others
uid_first : (tag : Tag) (uid : List ℕ) (rest : Elements)
    → elements_text (uid_element tag uid rest) ≡ uid_text tag uid ++ elements_text rest
uid_first tag uid rest =
    sym (append_assoc (tag_text tag) (content_text (Some UI) (bytes (padded uid))) (elements_text rest))

-- its header has 8 bytes
length_uid : (tag : Tag) (uid : List ℕ) → length (uid_text tag uid) ≡ 8 + length (padded uid)
length_uid tag uid =
    omega (
      arith,
      length-append (tag_text tag) (content_text (Some UI) (bytes (padded uid))),
      length-append (shape_text (Some UI) (length (padded uid))) (padded uid),
    )

-- it is sent as its header, the characters and the padding
pub uid_parts : (tag : Tag) (uid padding : List ℕ) (n : ℕ) → padding ≡ padding_of (length uid)
    → n ≡ length uid + length padding → header_text tag (Some UI) n ++ (uid ++ padding) ≡ uid_text tag uid
uid_parts tag uid padding n is n_is =
    let len : n ≡ length (padded uid) = n_is ∙ sym (length-append uid padding)
    ∙ ap (λ (p : List ℕ). length (uid ++ p)) is in
    ap (λ (p : List ℕ). header_text tag (Some UI) n ++ (uid ++ p)) is
    ∙ append_assoc (tag_text tag) (shape_text (Some UI) n) (padded uid)
    ∙ ap (λ (k : ℕ). tag_text tag ++ (shape_text (Some UI) k ++ padded uid)) len

-- ---- an element with a short value

-- it is sent as its header and the value
pub element_parts : (tag : Tag) (vr : Vr) (value : List ℕ) → header_text tag (Some vr) (length value) ++ value
    ≡ tag_text tag ++ content_text (Some vr) (bytes value)
element_parts tag vr value = append_assoc (tag_text tag) (shape_text (Some vr) (length value)) value

-- its header has room for the length
pub header_room : (vr : Vr) (n : ℕ) → n ≤ 64 → n < header_limit vr
header_room vr n short =
    elim (is_long_of vr) as (λ b. n < (if b then 2 ^ 32 else 2 ^ 16))
    [ true ↦ omega (arith, short) | false ↦ omega (arith, short) ]

-- so is the group length
pub count_text : (value : List ℕ) (count n : ℕ) → value ≡ little_bytes 4 count → count ≡ n
    → tag_text group_length_tag ++ content_text (Some UL) (bytes value) ≡ group_length_text n
count_text value count n is same =
    ap (λ (v : List ℕ). tag_text group_length_tag ++ content_text (Some UL) (bytes v))
    (is ∙ ap (λ (m : ℕ). little_bytes 4 m) same)

-- ---- the group

-- the version
abbrev pub version_text : List ℕ
version_text = elements_text (element version_tag (Some OB) (bytes (0x00 ∷ 0x01 ∷ [])) no_elements)

-- it is the version and then the UIDs
pub group_parts : (meta : Meta) → group_text meta ≡ version_text ++ uids_text meta
unfolding group_text uids_text
group_parts meta =
    let last : elements_text (uid_element implementation_tag implementation_uid no_elements)
    ≡ uid_text implementation_tag implementation_uid =
    uid_first implementation_tag implementation_uid no_elements
    ∙ append-nil (uid_text implementation_tag implementation_uid) in
    let two = uid_element implementation_tag implementation_uid no_elements in
    let three = uid_element transfer_tag meta.transfer two in
    let four = uid_element instance_tag meta.instance three in
    let all : elements_text (uid_element class_tag meta.class four) ≡ uid_text class_tag meta.class
    ++ (uid_text instance_tag meta.instance ++ (uid_text transfer_tag meta.transfer
    ++ uid_text implementation_tag implementation_uid)) =
    uid_first class_tag meta.class four
    ∙ ap (λ (s : List ℕ). uid_text class_tag meta.class ++ s) (uid_first instance_tag meta.instance three
    ∙ ap (λ (s : List ℕ). uid_text instance_tag meta.instance ++ s) (uid_first transfer_tag meta.transfer two
    ∙ ap (λ (s : List ℕ). uid_text transfer_tag meta.transfer ++ s) last)) in
    ap (λ (s : List ℕ). version_text ++ s) all

-- how many bytes it has
pub length_group : (meta : Meta) → length (group_text meta)
    ≡ 76 + length (padded meta.class) + length (padded meta.instance) + length (padded meta.transfer)
unfolding uids_text
length_group meta =
    let last = uid_text implementation_tag implementation_uid in
    let three = uid_text transfer_tag meta.transfer ++ last in
    let two = uid_text instance_tag meta.instance ++ three in
    let whole : length (group_text meta) ≡ length (version_text ++ (uid_text class_tag meta.class ++ two)) = ap length
    (group_parts meta) in
    let a : length (version_text ++ (uid_text class_tag meta.class ++ two))
    ≡ 14 + length (uid_text class_tag meta.class ++ two) = length-append version_text
    (uid_text class_tag meta.class ++ two) in
    let b : length (uid_text class_tag meta.class ++ two)
    ≡ length (uid_text class_tag meta.class) + length two = length-append (uid_text class_tag meta.class) two in
    let c : length two ≡ length (uid_text instance_tag meta.instance) + length three = length-append
    (uid_text instance_tag meta.instance) three in
    let d : length three ≡ length (uid_text transfer_tag meta.transfer) + 38 = length-append
    (uid_text transfer_tag meta.transfer) last in
    let e : length (uid_text class_tag meta.class) ≡ 8 + length (padded meta.class) = length_uid class_tag meta.class in
    let f : length (uid_text instance_tag meta.instance)
    ≡ 8 + length (padded meta.instance) = length_uid instance_tag meta.instance in
    let g : length (uid_text transfer_tag meta.transfer)
    ≡ 8 + length (padded meta.transfer) = length_uid transfer_tag meta.transfer in
    sum_of (length (group_text meta)) _ _ _ _ _ _ _ _ _ _ whole a b c d e f g
  where
    sum_of : (n whole one two three u v w x y z : ℕ) → n ≡ whole → whole ≡ 14 + one → one ≡ u + two → two ≡ v + three
        → three ≡ w + 38 → u ≡ 8 + x → v ≡ 8 + y → w ≡ 8 + z → n ≡ 76 + x + y + z
    sum_of n whole one two three u v w x y z p a b c d e f g = omega arith

-- ---- the head

-- how many bytes it has
pub length_head : (meta : Meta) → length (head_text meta) ≡ 144 + length (group_text meta)
unfolding head_text
length_head meta =
    let count : List ℕ = group_length_text (length (group_text meta)) in
    let a : length (head_text meta) ≡ 128 + length (prefix ++ (count ++ group_text meta)) = length-append
    (replicate 128 0) (prefix ++ (count ++ group_text meta)) in
    let b : length (prefix ++ (count ++ group_text meta))
    ≡ 4 + length (count ++ group_text meta) = length-append prefix (count ++ group_text meta) in
    let c : length (count ++ group_text meta) ≡ 12 + length (group_text meta) = length-append count (group_text meta) in
    omega (arith, a, b, c)
