-- The bytes of a list, and the digest after them.
use Rattle.std.proofs.Common.{◌≡◌, ℕ, ◌+◌, ◌-◌, ◌<◌, ◌^◌, List, [], ◌∷◌, ◌++◌, length, take, Some}
use Rattle.std.proofs.Common.{refl, sym, ap, ◌∙◌, arith, append_assoc, append-nil, length-append}
use Rattle.sha2.specs.Sha256.{sha256}
use Rattle.sha2.proofs.Facts256.{length-sha256}
use Rattle.dd_encoding.specs.Elements.{Element, Items, elements_of}
use Rattle.dd_encoding.specs.Spelling.{elements_text, items_text, sequence_end_text}
use Rattle.dd_elem.specs.declared.vr.Vr.TheVariants.{OB}
use Rattle.dd_encoding.specs.Spelling.{shape_text, tag_text}
use Rattle.dd_version.specs.Fitting.{tag}
use Rattle.dd_set.specs.Single.{element_text}
use Rattle.dd_set.proofs.Counting.{element_first}
use Rattle.dd_staged.specs.Worked.{digest_header}
use Rattle.dd_staged.specs.Stages.{EndsInDigest, digest_element, list_elements, list_text, set_with, stage_set}

joined : (es others : List Element) → elements_text (elements_of (es ++ others))
    ≡ elements_text (elements_of es) ++ elements_text (elements_of others)
joined [] others = refl
joined (e ∷ es) others =
    let rest = elements_text (elements_of others) in
    element_first e (elements_of (es ++ others)) ∙ ap (λ (text : List ℕ). element_text e ++ text) (joined es others)
    ∙ sym (append_assoc (element_text e) (elements_text (elements_of es)) rest)
    ∙ ap (λ (text : List ℕ). text ++ rest) (sym (element_first e (elements_of es)))

-- the whole is the list and then the digest
pub digested : (parts : Items) (digest : List ℕ)
    → elements_text (set_with parts digest) ≡ list_text parts ++ element_text (digest_element digest)
digested parts digest =
    let last = digest_element digest in
    joined (list_elements parts) (last ∷ [])
    ∙ ap (λ (text : List ℕ). list_text parts ++ text) (element_first last (elements_of []) ∙ append-nil (element_text last))

-- the digest takes 44 bytes
pub digest_length : (digest : List ℕ) → length digest ≡ 32 → length (element_text (digest_element digest)) ≡ 44
digest_length digest is = omega (arith, is)

pub whole_length : (parts : Items) (digest : List ℕ) → length digest ≡ 32
    → length (elements_text (set_with parts digest)) ≡ length (list_text parts) + 44
whole_length parts digest is =
    let all = ap length (digested parts digest) in
    let sum = length-append (list_text parts) (element_text (digest_element digest)) in
    omega (arith, all, sum, digest_length digest is)

-- it is sent as the list and then the digest
pub stage_parts : (parts : Items) (digest : List ℕ) → digest ≡ sha256 (list_text parts)
    → list_text parts ++ element_text (digest_element digest) ≡ elements_text (stage_set parts)
stage_parts parts digest is =
    ap (λ (d : List ℕ). list_text parts ++ element_text (digest_element d)) is
    ∙ sym (digested parts (sha256 (list_text parts)))

pub stage_length : (parts : Items) → length (elements_text (stage_set parts)) ≡ length (list_text parts) + 44
stage_length parts = whole_length parts (sha256 (list_text parts)) (length-sha256 (list_text parts))

pub list_fits : (parts : Items) → length (elements_text (stage_set parts)) < 2 ^ 32 → length (list_text parts) < 2 ^ 32
list_fits parts fits = omega (arith, stage_length parts, fits)

-- the items take 52 bytes fewer than the list
pub list_length : (parts : Items) → length (list_text parts) ≡ length (items_text parts) + 52
list_length parts =
    let one = length-append (items_text parts) sequence_end_text in
    let two = length-append (items_text parts ++ sequence_end_text) [] in
    omega (arith, one, two)

pub items_within : (parts : Items) → length (items_text parts) + 96 ≡ length (elements_text (stage_set parts))
items_within parts = omega (arith, stage_length parts, list_length parts)

-- all but the last 44 bytes are the list
take_front : (v rest : List ℕ) → take (length v) (v ++ rest) ≡ v
take_front [] rest = refl
take_front (a ∷ v) rest = ap (λ (w : List ℕ). a ∷ w) (take_front v rest)

pub list_before : (text : List ℕ) (parts : Items) (digest : List ℕ) → length digest ≡ 32
    → text ≡ elements_text (set_with parts digest) → take (length text - 44) text ≡ list_text parts
list_before text parts digest is whole =
    let long : length text ≡ length (list_text parts) + 44 = ap length whole ∙ whole_length parts digest is in
    let at : length text - 44 ≡ length (list_text parts) = omega (arith, long) in
    ap (λ (n : ℕ). take n text) at
    ∙ ap (λ (v : List ℕ). take (length (list_text parts)) v) (whole ∙ digested parts digest)
    ∙ take_front (list_text parts) (element_text (digest_element digest))

-- a whole with the digest of what stands before its last 44 bytes is a stage
pub right_digest : (text : List ℕ) (parts : Items) (digest : List ℕ) → length digest ≡ 32
    → text ≡ elements_text (set_with parts digest) → digest ≡ sha256 (take (length text - 44) text)
    → digest ≡ sha256 (list_text parts)
right_digest text parts digest is whole same = same ∙ ap sha256 (list_before text parts digest is whole)

pub stage_digest : (text : List ℕ) (parts : Items) → text ≡ elements_text (stage_set parts)
    → sha256 (take (length text - 44) text) ≡ sha256 (list_text parts)
stage_digest text parts whole =
    ap sha256 (list_before text parts (sha256 (list_text parts)) (length-sha256 (list_text parts)) whole)

pub ends_in_digest : (text : List ℕ) (parts : Items) → text ≡ elements_text (stage_set parts) → EndsInDigest text
ends_in_digest text parts whole =
    record { before = list_text parts; whole = whole ∙ digested parts (sha256 (list_text parts)) }

-- ---- worked examples

digest_is : (digest : List ℕ) → length digest ≡ 32 → element_text (digest_element digest) ≡ digest_header ++ digest
digest_is digest is =
    ap (λ (n : ℕ). tag_text (tag 0x0009 0x100b) ++ (shape_text (Some OB) n ++ digest)) is

pub worked : (parts : Items) (list : List ℕ) → list_text parts ≡ list
    → elements_text (stage_set parts) ≡ list ++ (digest_header ++ sha256 list)
worked parts list is =
    let digest = sha256 (list_text parts) in
    digested parts digest
    ∙ ap (λ (text : List ℕ). list_text parts ++ text) (digest_is digest (length-sha256 (list_text parts)))
    ∙ ap (λ (text : List ℕ). text ++ (digest_header ++ sha256 text)) is
