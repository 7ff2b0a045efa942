-- What is read as a file is one.
use Rattle.std.proofs.Common.{◌≡◌, ℕ, ◌+◌, ◌^◌, ◌<◌, ◌≤◌, true, if◌then◌else◌, nat_lt, List, ◌++◌, length, take, drop}
use Rattle.std.proofs.Common.{Option, Some, Result, Ok, Err, Contains, refl, sym, ap, subst, ◌∙◌, arith, append_assoc}
use Rattle.std.proofs.Common.{length-append}
use Rattle.std.specs.Int.{w32, from_le_bytes}
use Rattle.std.specs.Option.{ok_or}
use Rattle.std.proofs.lemmas.Bool.{ltb-false, ltb-true}
use Rattle.std.proofs.lemmas.List.{take-append-drop, length-take, length-drop}
use Rattle.byteorder.specs.Endian.{little_bytes}
use Rattle.dd_elem.specs.Clean.{clean_of}
use Rattle.dd_elem.specs.Uid.{is_uid, IsUid}
use Rattle.dd_elem.specs.declared.tag.Tag.{Tag}
use Rattle.dd_elem.specs.declared.vr.Vr.{Vr}
use Rattle.dd_elem.specs.declared.vr.Vr.TheVariants.{UL}
use Rattle.dd_elem.proofs.Cleaning.{IsCleanOf_from_is}
use Rattle.dd_elem.proofs.UidForm.{IsUid_from_is_uid}
use Rattle.dd_encoding.specs.declared.syntax.Syntax.{Syntax}
use Rattle.dd_encoding.specs.declared.syntax.Syntax.TheVariants.{Explicit}
use Rattle.dd_stream.specs.Bytes.{AreBytes}
use Rattle.dd_encoding.specs.Elements.{Elements, no_elements, element, Content, bytes, items, fragments, Element}
use Rattle.dd_set.specs.Find.{find_in}
use Rattle.dd_grammar.specs.Lists.{same_tag, element_list}
use Rattle.dd_grammar.specs.Reading.{read_all}
use Rattle.dd_encoding.specs.Spelling.{Spells, header_text}
use Rattle.dd_grammar.proofs.SoundItems.{all_takes}
use Rattle.dd_grammar.proofs.Steps.{AreBytes-drop, AreBytes-take, long_front, long_text, found_passes}
use Rattle.dd_part10.specs.declared.fault.FileFault.{FileFault}
use Rattle.dd_part10.specs.declared.fault.FileFault.TheVariants.{NotPart10, GroupLength, MetaMissing, MetaUid}
use Rattle.dd_part10.specs.declared.fault.FileFault.TheVariants.{OtherSyntax}
use Rattle.dd_part10.specs.declared.fault.FileFault.TheVariants as faults
use Rattle.dd_encoding.specs.declared.meta.Meta.{Meta}
use Rattle.dd_encoding.specs.Head.{preamble_length, prefix, group_length_text}
use Rattle.dd_part10.specs.File.{max_group_length, StartsAbove, IsFile}
use Rattle.dd_encoding.specs.Meta.{group_length_tag, class_tag, instance_tag, transfer_tag}
use Rattle.dd_part10.specs.Meta.{HasMetaUid, IsMeta}
use Rattle.dd_grammar.specs.Reading.{◌>>=◌}
use Rattle.dd_part10.specs.Reading.{with_fault, FileParts, rest_after, rest_after_prefix, count_in, split_at}
use Rattle.dd_part10.specs.Reading.{after_length}
use Rattle.dd_part10.specs.Reading.{is_alone, uid_of, uid_at, uids_in, meta_in, starts_above, set_in, file_in}
use Rattle.dd_encoding.specs.Syntaxes.{syntax_of}
use Rattle.dd_part10.proofs.Fronts.{rest_after-is}
use Rattle.dd_part10.proofs.Steps.{bind_ok, passes, allowed, there, was_read, ok_is}
use Rattle.dd_part10.proofs.Tags.{found_there, same_tag-is, alone_from}

-- ---- the preamble and the prefix

-- a file is a preamble, the prefix and the rest
record Prefixed (file rest : List ℕ) : Type 0 where
  preamble : List ℕ
  parts : file ≡ preamble ++ (prefix ++ rest)
  free : length preamble ≡ preamble_length
  fits : AreBytes rest

-- what was read after the prefix
prefix_takes : (file rest : List ℕ) → AreBytes file → rest_after_prefix file ≡ Ok rest → Prefixed file rest
unfolding rest_after_prefix
prefix_takes file rest fits e =
    let is : drop 128 file ≡ prefix ++ rest = rest_after-is prefix (drop 128 file) rest
    (there (rest_after prefix (drop 128 file)) NotPart10 rest e) in
    let len : length (drop 128 file) ≡ 4 + length rest = ap length is ∙ length-append prefix rest in
    record {
      preamble = take 128 file;
      parts = sym (take-append-drop 128 file) ∙ ap (λ (s : List ℕ). take 128 file ++ s) is;
      free = omega (arith, length-take 128 file, length-drop 128 file, len);
      fits = subst (λ (s : List ℕ). AreBytes (drop 4 s)) is
          (AreBytes-drop 4 (drop 128 file) (AreBytes-drop 128 file fits));
    }

-- ---- the group length

-- it is a header and a number
pub length_parts : (n : ℕ) → group_length_text n ≡ header_text group_length_tag (Some UL) 4 ++ little_bytes 4 n
length_parts n = refl

-- bytes are the group length, the group and the data set
record Counted (bs group set : List ℕ) : Type 0 where
  parts : bs ≡ group_length_text (length group) ++ (group ++ set)
  short : length group ≤ max_group_length
  fits : AreBytes group × AreBytes set

-- the bytes that a length counts
split_takes : (n : ℕ) (bs : List ℕ) (x : List ℕ × List ℕ) → split_at n bs ≡ Ok x
    → (n ≤ length bs) × (x ≡ (take n bs, drop n bs))
split_takes n bs x e =
    let a = passes (nat_lt (length bs) n) GroupLength (Ok (take n bs, drop n bs)) x e in
    (ltb-false _ _ a.0, sym (ok_is (take n bs, drop n bs) x a.1))

-- the number after a header
record Numbered (bs : List ℕ) (n : ℕ) : Type 0 where
  rest : List ℕ
  is : bs ≡ header_text group_length_tag (Some UL) 4 ++ rest
  long : 4 ≤ length rest
  number : n ≡ from_le_bytes w32 rest
  short : n ≤ max_group_length

count_takes : (bs : List ℕ) (n : ℕ) → count_in bs ≡ Ok n → Numbered bs n
unfolding count_in
count_takes bs n e =
    let header : List ℕ = header_text group_length_tag (Some UL) 4 in
    let a = bind_ok (ok_or (rest_after header bs) GroupLength)
    (λ (rest : List ℕ). if nat_lt (length rest) 4 then Err GroupLength
    else (if nat_lt max_group_length (from_le_bytes w32 rest) then Err GroupLength else Ok (from_le_bytes w32 rest))) n
    e in
    let number : ℕ = from_le_bytes w32 a.0 in
    let b = passes (nat_lt (length a.0) 4) GroupLength
    (if nat_lt max_group_length number then Err GroupLength else Ok number) n a.2 in
    let c = passes (nat_lt max_group_length number) GroupLength (Ok number) n b.1 in
    let same : number ≡ n = ok_is number n c.1 in
    record {
      rest = a.0;
      is = rest_after-is header bs a.0 (there (rest_after header bs) GroupLength a.0 a.1);
      long = ltb-false (length a.0) 4 b.0;
      number = sym same;
      short = subst (λ (k : ℕ). k ≤ max_group_length) same (ltb-false max_group_length number c.0);
    }

-- the number after a header, spelled again
counted : (header rest bs : List ℕ) (n : ℕ) → bs ≡ header ++ rest → n ≡ from_le_bytes w32 rest → 4 ≤ length rest
    → AreBytes rest → n ≤ length (drop 4 rest)
    → bs ≡ (header ++ little_bytes 4 (length (take n (drop 4 rest)))) ++ (take n (drop 4 rest) ++ drop n (drop 4 rest))
counted header rest bs n is count long fits within =
    let front : length (take 4 rest) ≡ 4 = omega (arith, length-take 4 rest) in
    let number : from_le_bytes w32 rest ≡ from_le_bytes w32 (take 4 rest) = ap (λ (s : List ℕ). from_le_bytes w32 s)
    (sym (take-append-drop 4 rest)) ∙ long_front (take 4 rest) (drop 4 rest) front in
    let text : little_bytes 4 (from_le_bytes w32 (take 4 rest))
    ≡ take 4 rest = long_text (take 4 rest) front (AreBytes-take 4 rest fits) in
    let len : length (take n (drop 4 rest)) ≡ n = omega (arith, length-take n (drop 4 rest)) in
    let spelled : little_bytes 4 (length (take n (drop 4 rest)))
    ≡ take 4 rest = ap (λ (k : ℕ). little_bytes 4 k) (len ∙ count ∙ number) ∙ text in
    let whole : rest ≡ little_bytes 4 (length (take n (drop 4 rest)))
    ++ (take n (drop 4 rest) ++ drop n (drop 4 rest)) =
    sym (take-append-drop 4 rest) ∙ ap (λ (s : List ℕ). s ++ drop 4 rest) (sym spelled)
    ∙ ap (λ (s : List ℕ). little_bytes 4 (length (take n (drop 4 rest))) ++ s)
    (sym (take-append-drop n (drop 4 rest))) in
    is ∙ ap (λ (s : List ℕ). header ++ s) whole
    ∙ sym (append_assoc header (little_bytes 4 (length (take n (drop 4 rest))))
    (take n (drop 4 rest) ++ drop n (drop 4 rest)))

-- what was read after the group length
length_takes : (bs : List ℕ) (x : List ℕ × List ℕ) → AreBytes bs → after_length bs ≡ Ok x → Counted bs x.0 x.1
unfolding after_length
length_takes bs x fits e =
    let a = bind_ok (count_in bs) (λ k. split_at k (drop 12 bs)) x e in
    let n : ℕ = a.0 in
    let c = count_takes bs n a.1 in
    let rest : List ℕ = c.rest in
    let back : drop 12 bs ≡ drop 4 rest = ap (λ (s : List ℕ). drop 12 s) c.is in
    let s = split_takes n (drop 4 rest) x (subst (λ (t : List ℕ). split_at n t ≡ Ok x) back a.2) in
    let bytes_rest : AreBytes rest = subst (λ (t : List ℕ). AreBytes (drop 8 t)) c.is (AreBytes-drop 8 bs fits) in
    let bytes_after : AreBytes (drop 4 rest) = AreBytes-drop 4 rest bytes_rest in
    let len : length (take n (drop 4 rest)) ≡ n = omega (arith, length-take n (drop 4 rest), s.0) in
    let made : Counted bs (take n (drop 4 rest)) (drop n (drop 4 rest)) = record {
      parts = counted (header_text group_length_tag (Some UL) 4) rest bs n c.is c.number c.long bytes_rest s.0;
      short = omega (arith, len, c.short);
      fits = (AreBytes-take n (drop 4 rest) bytes_after, AreBytes-drop n (drop 4 rest) bytes_after);
    } in
    subst (λ (y : List ℕ × List ℕ). Counted bs y.0 y.1) (sym s.1) made

-- ---- the meta information

-- a value that is a UID
content_holds : (group : Elements) (tag : Tag) (vr : Option Vr) (content : Content) (uid : List ℕ)
    → Contains (element_list group) (record { tag = tag; vr = vr; content = content }) → uid_of tag content ≡ Ok uid
    → HasMetaUid group tag uid
content_holds group tag vr (items form parts) uid holds e = absurd cc
content_holds group tag vr (fragments fs) uid holds e = absurd cc
content_holds group tag vr (bytes v) uid holds e =
    let a = allowed (is_uid (clean_of v)) (MetaUid tag) (Ok (clean_of v)) uid e in
    let same : clean_of v ≡ uid = ok_is (clean_of v) uid a.1 in
    record {
      vr = vr;
      value = v;
      holds = holds;
      is = IsCleanOf_from_is v uid (sym same);
      valid = subst (λ (u : List ℕ). IsUid u) same (IsUid_from_is_uid (clean_of v) a.0);
    }

-- a UID that was read
uid_takes : (tag : Tag) (group : Elements) (uid : List ℕ) → uid_at tag group ≡ Ok uid → HasMetaUid group tag uid
unfolding uid_at
uid_takes tag group uid e =
    let a = bind_ok (ok_or (find_in tag group) (MetaMissing tag)) (λ (x : Element). uid_of tag x.content) uid e in
    let found : find_in tag group ≡ Some a.0 = there (find_in tag group) (MetaMissing tag) a.0 a.1 in
    let same : a.0.tag ≡ tag = same_tag-is a.0.tag tag
    (found_passes (λ (x : Element). same_tag x.tag tag) (element_list group) a.0 found) in
    let holds : Contains (element_list group) a.0 = found_there (λ (x : Element). same_tag x.tag tag)
    (element_list group) a.0 found in
    let tagged : Contains (element_list group) (record { tag = tag; vr = a.0.vr; content = a.0.content }) =
    subst (λ (t : Tag). Contains (element_list group)
    (record { tag = t; vr = a.0.vr; content = a.0.content })) same holds
    in
    content_holds group tag a.0.vr a.0.content uid tagged a.2

-- three UIDs that were read
uids_take : (group : Elements) (meta : Meta) → is_alone group ≡ true → uids_in group ≡ Ok meta → IsMeta group meta
unfolding uids_in
uids_take group meta alone e =
    let made : List ℕ → List ℕ → List ℕ → Meta = λ c i t. record { class = c; instance = i; transfer = t } in
    let a = bind_ok (uid_at class_tag group)
    (λ (c : List ℕ). ◌>>=◌ (uid_at instance_tag group)
    (λ (i : List ℕ). ◌>>=◌ (uid_at transfer_tag group) (λ (t : List ℕ). Ok (made c i t)))) meta e in
    let b = bind_ok (uid_at instance_tag group)
    (λ (i : List ℕ). ◌>>=◌ (uid_at transfer_tag group) (λ (t : List ℕ). Ok (made a.0 i t))) meta a.2 in
    let c = bind_ok (uid_at transfer_tag group) (λ (t : List ℕ). Ok (made a.0 b.0 t)) meta b.2 in
    let holds : IsMeta group (made a.0 b.0 c.0) = record {
      alone = alone_from (element_list group) alone;
      class = uid_takes class_tag group a.0 a.1;
      instance = uid_takes instance_tag group b.0 b.1;
      transfer = uid_takes transfer_tag group c.0 c.1;
    } in
    subst (λ (m : Meta). IsMeta group m) (ok_is (made a.0 b.0 c.0) meta c.2) holds

-- bytes spell a group that holds the meta information
record MetaSays (text : List ℕ) (meta : Meta) : Type 0 where
  group : Elements
  spelled : Spells Explicit group text
  holds : IsMeta group meta

-- meta information that was read
meta_takes : (text : List ℕ) (meta : Meta) → AreBytes text → length text < 2 ^ 64 → meta_in text ≡ Ok meta
    → MetaSays text meta
unfolding meta_in
meta_takes text meta fits room e =
    let a = bind_ok (with_fault faults.Meta (read_all Explicit text))
    (λ (group : Elements). if is_alone group then uids_in group else Err GroupLength) meta e in
    let read : read_all Explicit text ≡ Ok a.0 = was_read faults.Meta (read_all Explicit text) a.0 a.1 in
    let b = allowed (is_alone a.0) GroupLength (uids_in a.0) meta a.2 in
    let taken = all_takes Explicit text a.0 read fits in
    record {
      group = a.0;
      spelled = record { valid = taken.0; whole = taken.1; fits = room };
      holds = uids_take a.0 meta b.0 b.1;
    }

-- ---- the data set

-- a data set that passes the test
above_from : (set : Elements) → starts_above set ≡ true → StartsAbove set
above_from no_elements e = tt
above_from (element tag vr content rest) e = ltb-true _ _ e

-- a data set that was read
set_takes : (syntax : Syntax) (text : List ℕ) (set : Elements) → AreBytes text → length text < 2 ^ 64
    → set_in syntax text ≡ Ok set → Spells syntax set text × StartsAbove set
unfolding set_in
set_takes syntax text set fits room e =
    let a = bind_ok (with_fault faults.Set (read_all syntax text))
    (λ (s : Elements). if starts_above s then Ok s else Err GroupLength) set e in
    let read : read_all syntax text ≡ Ok a.0 = was_read faults.Set (read_all syntax text) a.0 a.1 in
    let b = allowed (starts_above a.0) GroupLength (Ok a.0) set a.2 in
    let taken = all_takes syntax text a.0 read fits in
    let both : Spells syntax a.0 text × StartsAbove
    a.0 = (record { valid = taken.0; whole = taken.1; fits = room }, above_from a.0 b.0) in
    subst (λ (s : Elements). Spells syntax s text × StartsAbove s) (ok_is a.0 set b.1) both

-- ---- the whole

-- parts of a whole are no longer than it
whole_length : (file preamble rest group set : List ℕ) (n : ℕ) → file ≡ preamble ++ (prefix ++ rest)
    → rest ≡ group_length_text n ++ (group ++ set) → length file < 2 ^ 64
    → (length group < 2 ^ 64) × (length set < 2 ^ 64)
whole_length file preamble rest group set n one two room =
    let a : length file ≡ length preamble + length (prefix ++ rest) = ap length one
    ∙ length-append preamble (prefix ++ rest) in
    let b : length (prefix ++ rest) ≡ 4 + length rest = length-append prefix rest in
    let c : length rest ≡ length (group_length_text n) + length (group ++ set) = ap length two
    ∙ length-append (group_length_text n) (group ++ set) in
    let d : length (group ++ set) ≡ length group + length set = length-append group set in
    (omega (arith, a, b, c, d, room), omega (arith, a, b, c, d, room))

-- what is read of a file after its data set, its syntax, its meta information, its parts and its prefix
abbrev pub with_set : Meta → ℕ → Elements → Result FileParts FileFault
with_set meta n set = Ok (record { meta = meta; set = set; set_at = 144 + n })

abbrev pub with_syntax : List ℕ × List ℕ → Meta → Syntax → Result FileParts FileFault
with_syntax parts meta syntax = set_in syntax parts.1 >>= with_set meta (length parts.0)

abbrev pub with_meta : List ℕ × List ℕ → Meta → Result FileParts FileFault
with_meta parts meta = ok_or (syntax_of meta.transfer) (OtherSyntax meta.transfer) >>= with_syntax parts meta

abbrev pub with_parts : List ℕ × List ℕ → Result FileParts FileFault
with_parts parts = meta_in parts.0 >>= with_meta parts

abbrev pub with_rest : List ℕ → Result FileParts FileFault
with_rest rest = after_length rest >>= with_parts

-- what is read as a file is one
pub file_found : (file : List ℕ) (x : FileParts) → file_in file ≡ Ok x → AreBytes file → length file < 2 ^ 64
    → IsFile file x.meta x.set x.set_at
unfolding file_in
file_found file x e fits room =
    let a = bind_ok (rest_after_prefix file) with_rest x e in
    let b = bind_ok (after_length a.0) with_parts x a.2 in
    let c = bind_ok (meta_in b.0.0) (with_meta b.0) x b.2 in
    let d = bind_ok (ok_or (syntax_of c.0.transfer) (OtherSyntax c.0.transfer)) (with_syntax b.0 c.0) x c.2 in
    let s = bind_ok (set_in d.0 b.0.1) (with_set c.0 (length b.0.0)) x d.2 in
    let p = prefix_takes file a.0 fits a.1 in
    let l = length_takes a.0 b.0 p.fits b.1 in
    let rooms = whole_length file p.preamble a.0 b.0.0 b.0.1 (length b.0.0) p.parts l.parts room in
    let m = meta_takes b.0.0 c.0 l.fits.0 rooms.0 c.1 in
    let t = set_takes d.0 b.0.1 s.0 l.fits.1 rooms.1 s.1 in
    let made : IsFile file c.0 s.0 (144 + length b.0.0) = record {
      preamble = p.preamble;
      group_text = b.0.0;
      set_text = b.0.1;
      parts = p.parts ∙ ap (λ (rest : List ℕ). p.preamble ++ (prefix ++ rest)) l.parts;
      free = p.free;
      short = l.short;
      group = m.group;
      spelled = m.spelled;
      holds = m.holds;
      syntax = d.0;
      known = there (syntax_of c.0.transfer) (OtherSyntax c.0.transfer) d.0 d.1;
      follows = t.0;
      above = t.1;
      place = refl;
    } in
    let last : FileParts = record { meta = c.0; set = s.0; set_at = 144 + length b.0.0 } in
    subst (λ (y : FileParts). IsFile file y.meta y.set y.set_at) {x = last} (ok_is last x s.2) made
