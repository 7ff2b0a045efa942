-- A head with a data set after it is a file.
use Rattle.std.proofs.Common.{◌≡◌, ◌≢◌, ℕ, ◌+◌, ◌*◌, ◌%◌, ◌<◌, ◌≤◌, ◌^◌, ◌==◌, true, false, if◌then◌else◌, List, []}
use Rattle.std.proofs.Common.{◌∷◌, ◌++◌, length, replicate, All, Contains, Some, refl, sym, ap, subst, ◌∙◌, arith}
use Rattle.std.proofs.Common.{append_assoc, lit<, lit≤}
use Rattle.std.specs.List.{join_with_byte}
use Rattle.std.proofs.lemmas.List.Elements.{All-nil, All-cons, All-head, All-tail, All-weaker, All-append}
use Rattle.dd_elem.specs.Clean.{clean_of, is_padding, keep}
use Rattle.dd_elem.specs.Characters.{IsDigit}
use Rattle.dd_elem.specs.Uid.{IsUid, IsComponent, max_uid_length}
use Rattle.dd_elem.specs.declared.vr.Vr.TheVariants.{OB, UI}
use Rattle.dd_elem.proofs.Cleaning.{clean_of-append_padding, IsCleanOf_from_is}
use Rattle.dd_elem.specs.declared.tag.Tag.{Tag}
use Rattle.dd_encoding.specs.declared.syntax.Syntax.{Syntax}
use Rattle.dd_encoding.specs.declared.syntax.Syntax.TheVariants.{Explicit}
use Rattle.dd_encoding.specs.Elements.{Elements, no_elements, bytes, Element}
use Rattle.dd_grammar.specs.Lists.{element_list}
use Rattle.dd_encoding.specs.Spelling.{Spells, AreElements, IsContent, max_levels}
use Rattle.dd_encoding.specs.declared.meta.Meta.{Meta}
use Rattle.dd_encoding.specs.Head.{prefix, group_length_text}
use Rattle.dd_part10.specs.File.{StartsAbove, IsFile}
use Rattle.dd_encoding.specs.Head.{head_text, group_text, group_of, uid_element, padded, padding_of, version_tag}
use Rattle.dd_encoding.specs.Head.{implementation_tag, implementation_uid}
use Rattle.dd_encoding.specs.Meta.{class_tag, instance_tag, transfer_tag}
use Rattle.dd_part10.specs.Meta.{HasMetaUid, IsMeta}
use Rattle.dd_encoding.specs.Syntaxes.{syntax_of}
use Rattle.dd_encoding.proofs.Heads.{length_padded, length_group, length_head}
use Rattle.dd_part10.proofs.Tags.{neq_eqb, alone_from, contains_first, contains_later}

-- ---- a UID ends in no padding

-- no padding byte
abbrev IsPlain : ℕ → Type 0
IsPlain byte = is_padding byte ≡ false

-- neither NUL nor space
plain : (byte : ℕ) → byte ≢ 0 → byte ≢ 32 → IsPlain byte
plain byte no_nul no_space = rw (neq_eqb byte 0 no_nul, neq_eqb byte 32 no_space) refl

-- a digit is no padding
digit_plain : (byte : ℕ) → IsDigit byte → IsPlain byte
digit_plain byte h = plain byte (λ e. omega (arith, h.0, e)) (λ e. omega (arith, h.0, e))

-- components joined by `.` have no padding
joined_plain : (components : List (List ℕ)) → All IsComponent components → All IsPlain (join_with_byte 46 components)
joined_plain [] h = All-nil IsPlain
joined_plain (one ∷ []) h = All-weaker IsDigit IsPlain digit_plain one (All-head IsComponent one [] h).digits
joined_plain (one ∷ next ∷ more) h =
    let first : All IsPlain one = All-weaker IsDigit IsPlain digit_plain one
    (All-head IsComponent one (next ∷ more) h).digits in
    let others : All IsPlain (join_with_byte 46 (next ∷ more)) = joined_plain (next ∷ more)
    (All-tail IsComponent one (next ∷ more) h) in
    All-append IsPlain one (46 ∷ join_with_byte 46 (next ∷ more)) first
    (All-cons IsPlain 46 (join_with_byte 46 (next ∷ more)) refl others)

-- a byte that is no padding is kept
keep_plain : (byte : ℕ) (bs : List ℕ) → IsPlain byte → keep byte bs ≡ byte ∷ bs
keep_plain byte [] h = rw h refl
keep_plain byte (next ∷ more) h = refl

-- bytes without padding are kept
clean_plain : (bs : List ℕ) → All IsPlain bs → clean_of bs ≡ bs
clean_plain [] h = refl
clean_plain (byte ∷ bs) h = ap (λ (s : List ℕ). keep byte s) (clean_plain bs (All-tail IsPlain byte bs h))
    ∙ keep_plain byte bs (All-head IsPlain byte bs h)

-- so is a UID
pub clean_uid : (uid : List ℕ) → IsUid uid → clean_of uid ≡ uid
clean_uid uid h =
    clean_plain uid (subst (λ (s : List ℕ). All IsPlain s) (sym h.joined) (joined_plain h.components h.each))

-- a padding byte
abbrev Pads : ℕ → Type 0
Pads byte = is_padding byte ≡ true

-- the padding of a UID
padding_pads : (n : ℕ) → All Pads (padding_of n)
padding_pads n = elim (n % 2 == 1) as (λ b. All Pads (if b then 0 ∷ [] else []))
    [ true ↦ All-cons Pads 0 [] refl (All-nil Pads) | false ↦ All-nil Pads ]

-- a UID with its padding
clean_padded : (uid : List ℕ) → IsUid uid → clean_of (padded uid) ≡ uid
clean_padded uid h = clean_of-append_padding uid (padding_of (length uid)) (padding_pads (length uid)) ∙ clean_uid uid h

-- ---- group 0002

-- the value of a UID is one that its element may have
padded_fits : (uid : List ℕ) → length uid ≤ max_uid_length
    → IsContent Explicit max_levels (Some UI) (bytes (padded uid))
padded_fits uid short =
    let len : length (padded uid) ≡ length uid + length uid % 2 = length_padded uid in
    let even : length (padded uid) % 2 ≡ 0 = even_sum (length uid) (length (padded uid)) len in
    (λ e. absurd cc, even, omega (arith, len, short))
  where
    even_sum : (n m : ℕ) → m ≡ n + n % 2 → m % 2 ≡ 0
    even_sum n m e = omega arith

-- so is the value of the version
version_fits : IsContent Explicit max_levels (Some OB) (bytes (0x00 ∷ 0x01 ∷ []))
version_fits = (λ e. absurd cc, refl, lit< tt)

-- an element with a UID, before others
uid_valid : (low number : ℕ) (uid : List ℕ) (rest : Elements) → low ≤ 65536 * 2 + number → number < 2 ^ 16
    → length uid ≤ max_uid_length
    → AreElements Explicit max_levels (65536 * 2 + number + 1) rest
    → AreElements Explicit max_levels low (uid_element (record { group = 2; element = number }) uid rest)
uid_valid low number uid rest above room short others =
    (above, lit< tt, room, (λ e. absurd (omega (arith, e))), padded_fits uid short, tt, others)

-- the elements of the group are elements of a data set
group_valid : (meta : Meta) → IsUid meta.class → IsUid meta.instance → IsUid meta.transfer
    → AreElements Explicit max_levels 0 (group_of meta)
group_valid meta class instance transfer =
    let last = uid_element implementation_tag implementation_uid no_elements in
    let third = uid_element transfer_tag meta.transfer last in
    let second = uid_element instance_tag meta.instance third in (
      lit≤ tt,
      lit< tt,
      lit< tt,
      (λ e. absurd (omega (arith, e))),
      version_fits,
      tt,
      uid_valid 131074 2 meta.class second (lit≤ tt) (lit< tt) class.short
          (uid_valid 131075 3 meta.instance third (lit≤ tt) (lit< tt) instance.short
          (uid_valid 131076 16 meta.transfer last (lit≤ tt) (lit< tt) transfer.short
          (uid_valid 131089 18 implementation_uid no_elements (lit≤ tt) (lit< tt) (lit≤ tt) tt))),
    )

-- a UID is in a group that contains its element
has_uid : (group : Elements) (tag : Tag) (uid : List ℕ) → IsUid uid
    → Contains (element_list group) (record { tag = tag; vr = Some UI; content = bytes (padded uid) })
    → HasMetaUid group tag uid
has_uid group tag uid valid holds = record {
  vr = Some UI;
  value = padded uid;
  holds = holds;
  is = IsCleanOf_from_is (padded uid) uid (sym (clean_padded uid valid));
  valid = valid;
}

-- the group holds the meta information
group_holds : (meta : Meta) → IsUid meta.class → IsUid meta.instance → IsUid meta.transfer → IsMeta (group_of meta) meta
group_holds meta class instance transfer =
    let c : Element = record { tag = class_tag; vr = Some UI; content = bytes (padded meta.class) } in
    let i : Element = record { tag = instance_tag; vr = Some UI; content = bytes (padded meta.instance) } in
    let t : Element = record { tag = transfer_tag; vr = Some UI; content = bytes (padded meta.transfer) } in
    let m : Element = record { tag = implementation_tag; vr = Some UI; content = bytes (padded implementation_uid) } in
    let v : Element = record { tag = version_tag; vr = Some OB; content = bytes (0x00 ∷ 0x01 ∷ []) } in
    record {
      alone = alone_from (element_list (group_of meta)) refl;
      class = has_uid (group_of meta) class_tag meta.class class
          (contains_later v c (c ∷ i ∷ t ∷ m ∷ []) (contains_first c (i ∷ t ∷ m ∷ [])));
      instance = has_uid (group_of meta) instance_tag meta.instance instance
          (contains_later v i (c ∷ i ∷ t ∷ m ∷ [])
          (contains_later c i (i ∷ t ∷ m ∷ []) (contains_first i (t ∷ m ∷ []))));
      transfer = has_uid (group_of meta) transfer_tag meta.transfer transfer
          (contains_later v t (c ∷ i ∷ t ∷ m ∷ [])
          (contains_later c t (i ∷ t ∷ m ∷ []) (contains_later i t (t ∷ m ∷ []) (contains_first t (m ∷ [])))));
    }

-- ---- the whole

-- five lists
regroup : (a b c d e : List ℕ) → (a ++ (b ++ (c ++ d))) ++ e ≡ a ++ (b ++ (c ++ (d ++ e)))
regroup a b c d e = simp append_assoc

-- the group is short
group_short : (meta : Meta) → IsUid meta.class → IsUid meta.instance → IsUid meta.transfer
    → length (group_text meta) ≤ 268
group_short meta class instance transfer =
    omega (
      arith,
      length_group meta,
      length_padded meta.class,
      length_padded meta.instance,
      length_padded meta.transfer,
      class.short,
      instance.short,
      transfer.short,
    )

-- a head with a data set after it is a file
pub head_is_file : (meta : Meta) (syntax : Syntax) (set : Elements) (text : List ℕ) → IsUid meta.class
    → IsUid meta.instance → IsUid meta.transfer
    → syntax_of meta.transfer ≡ Some syntax → Spells syntax set text → StartsAbove set
    → IsFile (head_text meta ++ text) meta set (length (head_text meta))
unfolding head_text group_text
head_is_file meta syntax set text class instance transfer known follows above =
    let short : length (group_text meta) ≤ 268 = group_short meta class instance transfer in
    record {
      preamble = replicate 128 0;
      group_text = group_text meta;
      set_text = text;
      parts = regroup (replicate 128 0) prefix (group_length_text (length (group_text meta))) (group_text meta) text;
      free = refl;
      short = omega (arith, short);
      group = group_of meta;
      spelled = record { valid = group_valid meta class instance transfer; whole = refl; fits = omega (arith, short) };
      holds = group_holds meta class instance transfer;
      syntax = syntax;
      known = known;
      follows = follows;
      above = above;
      place = length_head meta;
    }
