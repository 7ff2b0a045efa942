-- What is a file is read as one.
use Rattle.std.proofs.Common.{◌≡◌, ℕ, ◌≤◌, true, false, if◌then◌else◌, nat_lt, List, ◌++◌, length, drop}
use Rattle.std.proofs.Common.{Option, Some, Result, Ok, Err, refl, sym, ap, subst, ◌∙◌, arith, append_assoc}
use Rattle.std.proofs.Common.{length-append}
use Rattle.std.specs.Int.{w32, from_le_bytes}
use Rattle.std.specs.Option.{ok_or}
use Rattle.std.proofs.lemmas.Bool.{le-ltb, lt-ltb}
use Rattle.std.proofs.lemmas.List.{take_at, drop_at}
use Rattle.byteorder.specs.Endian.{little_bytes}
use Rattle.dd_elem.specs.Clean.{clean_of}
use Rattle.dd_elem.specs.Uid.{is_uid, IsUid}
use Rattle.dd_elem.specs.declared.tag.Tag.{Tag}
use Rattle.dd_elem.specs.declared.vr.Vr.TheVariants.{UL}
use Rattle.dd_elem.proofs.Cleaning.{same_from_IsCleanOf}
use Rattle.dd_elem.proofs.UidForm.{is_uid_from_IsUid}
use Rattle.dd_encoding.specs.declared.syntax.Syntax.{Syntax}
use Rattle.dd_encoding.specs.declared.syntax.Syntax.TheVariants.{Explicit}
use Rattle.dd_encoding.specs.Elements.{Elements, no_elements, element, bytes, Element}
use Rattle.dd_set.specs.Find.{find_in}
use Rattle.dd_grammar.specs.Lists.{element_list}
use Rattle.dd_grammar.specs.Reading.{read_all}
use Rattle.dd_encoding.specs.Spelling.{Spells, header_text, max_levels, AreElements}
use Rattle.dd_grammar.proofs.Again.{all_again}
use Rattle.dd_grammar.proofs.Steps.{long_again}
use Rattle.dd_part10.specs.declared.fault.FileFault.{FileFault}
use Rattle.dd_part10.specs.declared.fault.FileFault.TheVariants.{NotPart10, GroupLength, MetaMissing, MetaUid}
use Rattle.dd_part10.specs.declared.fault.FileFault.TheVariants.{OtherSyntax}
use Rattle.dd_part10.specs.declared.fault.FileFault.TheVariants as faults
use Rattle.dd_encoding.specs.declared.meta.Meta.{Meta}
use Rattle.dd_encoding.specs.Head.{preamble_length, prefix, group_length_text}
use Rattle.dd_part10.specs.File.{max_group_length, StartsAbove, IsFile}
use Rattle.dd_encoding.specs.Meta.{group_length_tag, class_tag, instance_tag, transfer_tag}
use Rattle.dd_part10.specs.Meta.{HasMetaUid, IsMeta}
use Rattle.dd_grammar.specs.Reading.{◌>>=◌}
use Rattle.dd_part10.specs.Reading.{with_fault, rest_after, rest_after_prefix, count_in, split_at, after_length}
use Rattle.dd_part10.specs.Reading.{is_alone}
use Rattle.dd_part10.specs.Reading.{uid_of, uid_at, uids_in, meta_in, starts_above, set_in, file_in}
use Rattle.dd_encoding.specs.Syntaxes.{syntax_of}
use Rattle.dd_part10.proofs.Found.{length_parts, with_set, with_syntax, with_meta, with_parts, with_rest}
use Rattle.dd_part10.proofs.Fronts.{rest_after-front}
use Rattle.dd_part10.proofs.Steps.{onward, into}
use Rattle.dd_part10.proofs.Tags.{found_in, alone_to}

-- ---- the preamble, the prefix and the group length

-- after the prefix
prefix_again : (preamble rest : List ℕ) → length preamble ≡ preamble_length
    → rest_after_prefix (preamble ++ (prefix ++ rest)) ≡ Ok rest
unfolding rest_after_prefix
prefix_again preamble rest len =
    let at : drop 128 (preamble ++ (prefix ++ rest)) ≡ prefix ++ rest = drop_at preamble (prefix ++ rest) 128 len in
    ap (λ (s : List ℕ). ok_or (rest_after prefix s) NotPart10) at
    ∙ ap (λ (o : Option (List ℕ)). ok_or o NotPart10) (rest_after-front prefix rest)

-- the bytes that the length counts
split_again : (group set : List ℕ) → split_at (length group) (group ++ set) ≡ Ok (group, set)
split_again group set =
    let enough : nat_lt (length (group ++ set)) (length group)
    ≡ false = le-ltb _ _ (omega (arith, length-append group set)) in
    rw (enough, take_at group set (length group) refl, drop_at group set (length group) refl) refl

-- a number, whatever stands after it
number_again : (n : ℕ) (bs : List ℕ) → n ≤ max_group_length
    → (if nat_lt (length (little_bytes 4 n ++ bs)) 4 then Err GroupLength
    else (if nat_lt max_group_length (from_le_bytes w32 (little_bytes 4 n ++ bs)) then Err GroupLength
    else Ok (from_le_bytes w32 (little_bytes 4 n ++ bs)))) ≡ Ok n
number_again n bs short =
    let long : nat_lt (length (little_bytes 4 n ++ bs)) 4 ≡ false =
    le-ltb _ _ (omega (arith, length-append (little_bytes 4 n) bs)) in
    let few : nat_lt max_group_length n ≡ false = le-ltb _ _ short in
    rw (long, long_again n bs (omega (arith, short)), few) refl

-- the number in a group length
count_again : (n : ℕ) (bs : List ℕ) → n ≤ max_group_length → count_in (group_length_text n ++ bs) ≡ Ok n
unfolding count_in
count_again n bs short =
    let header : List ℕ = header_text group_length_tag (Some UL) 4 in
    let rest : List ℕ = little_bytes 4 n ++ bs in
    let next : List ℕ → Result ℕ FileFault = λ r. if nat_lt (length r) 4 then Err GroupLength
    else (if nat_lt max_group_length (from_le_bytes w32 r) then Err GroupLength else Ok (from_le_bytes w32 r)) in
    let parts : group_length_text n ++ bs ≡ header ++ rest =
    ap (λ (s : List ℕ). s ++ bs) (length_parts n) ∙ append_assoc header (little_bytes 4 n) bs in
    let there : ok_or (rest_after header (header ++ rest)) GroupLength
    ≡ Ok rest = ap (λ (o : Option (List ℕ)). ok_or o GroupLength) (rest_after-front header rest) in
    ap (λ (s : List ℕ). ok_or (rest_after header s) GroupLength >>= next) parts
    ∙ onward (ok_or (rest_after header (header ++ rest)) GroupLength) rest next there ∙ number_again n bs short

-- after the group length
length_again : (group set : List ℕ) → length group ≤ max_group_length
    → after_length (group_length_text (length group) ++ (group ++ set)) ≡ Ok (group, set)
unfolding after_length
length_again group set short =
    let n : ℕ = length group in
    let bs : List ℕ = group_length_text n ++ (group ++ set) in
    let back : drop 12 bs ≡ group ++ set = drop_at (group_length_text n) (group ++ set) 12 refl in
    onward (count_in bs) n (λ k. split_at k (drop 12 bs)) (count_again n (group ++ set) short)
    ∙ ap (λ (s : List ℕ). split_at n s) back ∙ split_again group set

-- ---- the meta information

-- a UID that is there
uid_again : (tag : Tag) (group : Elements) (uid : List ℕ) → AreElements Explicit max_levels 0 group
    → HasMetaUid group tag uid → uid_at tag group ≡ Ok uid
unfolding uid_at
uid_again tag group uid valid h =
    let e : Element = record { tag = tag; vr = h.vr; content = bytes h.value } in
    let next : Element → Result (List ℕ) FileFault = λ x. uid_of tag x.content in
    let found : ok_or (find_in tag group) (MetaMissing tag)
    ≡ Ok e = ap (λ (o : Option Element). ok_or o (MetaMissing tag))
    (found_in Explicit max_levels 0 group e valid h.holds) in
    let same : clean_of h.value ≡ uid = sym (same_from_IsCleanOf h.value uid h.is) in
    let is : is_uid (clean_of h.value) ≡ true = is_uid_from_IsUid (clean_of h.value)
    (subst (λ (u : List ℕ). IsUid u) (sym same) h.valid) in
    onward (ok_or (find_in tag group) (MetaMissing tag)) e next found
    ∙ into (is_uid (clean_of h.value)) (Ok (clean_of h.value)) (Err (MetaUid tag)) is
    ∙ ap (λ (u : List ℕ). Ok u) same

-- the three UIDs
uids_again : (group : Elements) (meta : Meta) → AreElements Explicit max_levels 0 group → IsMeta group meta
    → uids_in group ≡ Ok meta
unfolding uids_in
uids_again group meta valid h =
    let made : List ℕ → List ℕ → List ℕ → Result Meta FileFault = λ c i t. Ok
    (record { class = c; instance = i; transfer = t }) in
    onward (uid_at class_tag group) meta.class
    (λ (c : List ℕ). uid_at instance_tag group >>= λ (i : List ℕ). uid_at transfer_tag group
    >>= λ (t : List ℕ). made c i t) (uid_again class_tag group meta.class valid h.class)
    ∙ onward (uid_at instance_tag group) meta.instance
    (λ (i : List ℕ). uid_at transfer_tag group >>= λ (t : List ℕ). made meta.class i t)
    (uid_again instance_tag group meta.instance valid h.instance)
    ∙ onward (uid_at transfer_tag group) meta.transfer (λ (t : List ℕ). made meta.class meta.instance t)
    (uid_again transfer_tag group meta.transfer valid h.transfer)

-- bytes that spell a set are read as that set
read_again : (syntax : Syntax) (set : Elements) (text : List ℕ) → Spells syntax set text → read_all syntax text ≡ Ok set
read_again syntax set text h = ap (λ (s : List ℕ). read_all syntax s) h.whole ∙ all_again syntax set h.valid

-- the meta information
meta_again : (text : List ℕ) (group : Elements) (meta : Meta) → Spells Explicit group text → IsMeta group meta
    → meta_in text ≡ Ok meta
unfolding meta_in
meta_again text group meta spelled h =
    let next : Elements → Result Meta FileFault = λ g. if is_alone g then uids_in g else Err GroupLength in
    let read : with_fault faults.Meta (read_all Explicit text)
    ≡ Ok group = ap (λ r. with_fault faults.Meta r) (read_again Explicit group text spelled) in
    onward (with_fault faults.Meta (read_all Explicit text)) group next read
    ∙ into (is_alone group) (uids_in group) (Err GroupLength) (alone_to (element_list group) h.alone)
    ∙ uids_again group meta spelled.valid h

-- ---- the data set

-- a data set that may follow
above_to : (set : Elements) → StartsAbove set → starts_above set ≡ true
above_to no_elements h = refl
above_to (element tag vr content rest) h = lt-ltb _ _ h

-- the data set
set_again : (syntax : Syntax) (text : List ℕ) (set : Elements) → Spells syntax set text → StartsAbove set
    → set_in syntax text ≡ Ok set
unfolding set_in
set_again syntax text set spelled above =
    let next : Elements → Result Elements FileFault = λ s. if starts_above s then Ok s else Err GroupLength in
    let read : with_fault faults.Set (read_all syntax text)
    ≡ Ok set = ap (λ r. with_fault faults.Set r) (read_again syntax set text spelled) in
    onward (with_fault faults.Set (read_all syntax text)) set next read
    ∙ into (starts_above set) (Ok set) (Err GroupLength) (above_to set above)

-- ---- the whole

-- what is a file is read as one
pub file_only : (file : List ℕ) (meta : Meta) (set : Elements) (set_at : ℕ) → IsFile file meta set set_at
    → file_in file ≡ Ok (record { meta = meta; set = set; set_at = set_at })
unfolding file_in
file_only file meta set set_at h =
    let parts : List ℕ × List ℕ = (h.group_text, h.set_text) in
    let rest : List ℕ = group_length_text (length h.group_text) ++ (h.group_text ++ h.set_text) in
    let known : ok_or (syntax_of meta.transfer) (OtherSyntax meta.transfer)
    ≡ Ok h.syntax = ap (λ (o : Option Syntax). ok_or o (OtherSyntax meta.transfer)) h.known in
    ap (λ (s : List ℕ). rest_after_prefix s >>= with_rest) h.parts
    ∙ onward (rest_after_prefix (h.preamble ++ (prefix ++ rest))) rest with_rest (prefix_again h.preamble rest h.free)
    ∙ onward (after_length rest) parts with_parts (length_again h.group_text h.set_text h.short)
    ∙ onward (meta_in h.group_text) meta (with_meta parts) (meta_again h.group_text h.group meta h.spelled h.holds)
    ∙ onward (ok_or (syntax_of meta.transfer) (OtherSyntax meta.transfer)) h.syntax (with_syntax parts meta) known
    ∙ onward (set_in h.syntax h.set_text) set (with_set meta (length h.group_text))
    (set_again h.syntax h.set_text set h.follows h.above)
    ∙ ap (λ (n : ℕ). Ok (record { meta = meta; set = set; set_at = n })) (sym h.place)
