-- The text of a directory as the pieces that are sent, and how long it is.
use Rattle.std.proofs.Common.{◌≡◌, ℕ, ◌+◌, ◌-◌, ◌<◌, ◌^◌, List, [], ◌∷◌, ◌++◌, length, map, Option, Some, Result, Ok}
use Rattle.std.proofs.Common.{Err, sum_by}
use Rattle.std.proofs.Common.{refl, sym, ap, ◌∙◌, arith, append_assoc, length-append}
use Rattle.std.specs.Prelude.{IfOk}
use Rattle.std.specs.List.{All, AllByRecursion, slice_get}
use Rattle.std.proofs.lemmas.List.Elements.{recursion_from_All}
use Rattle.std.proofs.lemmas.List.Sums.{sum_by-cons}
use Rattle.std.proofs.lemmas.Option.{slice_get-get_or}
use Rattle.dd_elem.specs.declared.counts.Counts.{Counts}
use Rattle.dd_elem.specs.declared.vr.Vr.TheVariants.{SQ}
use Rattle.dd_version.specs.declared.parts.Parts.{Parts}
use Rattle.dd_encoding.specs.Head.{head_text}
use Rattle.dd_encoding.specs.declared.meta.Meta.{Meta}
use Rattle.dd_encoding.specs.Elements.{Element, Item, items_of}
use Rattle.dd_stream.specs.Sends.{Sends}
use Rattle.dd_stream.specs.declared.write_fault.WriteFault.{WriteFault}
use Rattle.dd_encoding.specs.Spelling.{header_text, items_text, shape_text, tag_text}
use Rattle.dd_records.specs.declared.label.Label.{Label}
use Rattle.dd_records.specs.Directory.{directory_elements, first_offset, front_elements, meta_of, records_element}
use Rattle.dd_records.specs.ElementForms.{tag}
use Rattle.dd_layout.specs.Layouts.{IsSound}
use Rattle.dd_layout.specs.Paths.{Path}
use Rattle.dd_layout.specs.Plans.{file_of, least_below, level_of, record_at, record_size_at, records_end, records_of}
use Rattle.dd_layout.specs.Plans.{size, size_of}
use Rattle.dd_layout.specs.Plans.{tree}
use Rattle.dd_records.specs.Records.{record_item}
use Rattle.dd_records.specs.Sizes.{record_size}
use Rattle.dd_records.specs.Withdrawals.{withdrawal_elements, withdrawals_size}
use Rattle.dd_records.proofs.RecordSizes.{same_size}
use Rattle.dd_records.proofs.DirectoryElements.{items_length, length_is_of_records}
use Rattle.dd_dir.specs.Directories.{directory_of, elements_by, elements_for, first_root, last_root}
use Rattle.dd_dir.specs.Directories.{opening_text}
use Rattle.dd_dir.proofs.RecordTexts.{records_text}
use Rattle.dd_dir.proofs.RowTexts.{text-append, text-one, text_of}

-- ---- lengths

-- an element that is there
there : {X : Type 0} (xs : List X) (i : ℕ) → i < length xs → (x : X) × (slice_get xs i ≡ Some x)
there [] i within = absurd (omega (arith, within))
there (x ∷ xs) i within = (_, slice_get-get_or (x ∷ xs) i x within)

-- the record of a path has the size that is known by the path
pub one_size : (label : Label) (versions : List Parts) (x : Path)
    → IsSound (length versions) (record_at label versions x)
    → record_size (elements_for versions (record_at label versions x)) ≡ record_size_at versions x
one_size label versions x sound =
    let row = record_at label versions x in
    let file = file_of (tree versions) x in
    let found = there versions (least_below versions x) sound.0 in
    ap (λ (o : Option Parts). record_size (elements_by row o)) found.1
    ∙ ap (λ (n : ℕ). 8 + n) (same_size (level_of x) row.next row.lower 0 0 file file found.0 sound.1 sound.1)
    ∙ sym (ap (size_of (tree versions) x) found.1)

pub sizes_sum : (label : Label) (versions : List Parts) (xs : List Path)
    → AllByRecursion (IsSound (length versions)) (map (record_at label versions) xs)
    → sum_by record_size (map (elements_for versions) (map (record_at label versions) xs))
    ≡ sum_by (record_size_at versions) xs
sizes_sum label versions [] sound = refl
sizes_sum label versions (x ∷ xs) sound =
    let a = sum_by-cons record_size (elements_for versions (record_at label versions x))
    (map (elements_for versions) (map (record_at label versions) xs)) in
    let b = sum_by-cons (record_size_at versions) x xs in
    let c = one_size label versions x sound.0 in
    let d = sizes_sum label versions xs sound.1 in
    omega arith

-- the records take what is left of the size after the first offset
pub records_length : (label : Label) (versions : List Parts)
    → All (IsSound (length versions)) (records_of label versions)
    → first_offset label
    + length (items_text (items_of (map record_item (map (elements_for versions) (records_of label versions)))))
    ≡ records_end label versions
records_length label versions sound =
    let a = items_length (map (elements_for versions) (records_of label versions)) in
    let b = sizes_sum label versions (tree versions)
    (recursion_from_All (IsSound (length versions)) (records_of label versions) sound) in
    omega arith

pub directory_length : (label : Label) (versions : List Parts) (withdrawn : List (List ℕ))
    → All (IsSound (length versions)) (records_of label versions)
    → length (directory_of label versions withdrawn) ≡ size label versions withdrawn
directory_length label versions withdrawn sound =
    let entries = map (elements_for versions) (records_of label versions) in
    let first = first_root label versions in
    let last = last_root label versions in
    let all = directory_elements label.id first last (map record_item entries) ++ withdrawal_elements withdrawn in
    let a = length-append (head_text (meta_of label)) (text_of all) in
    let b = length_is_of_records label first last entries withdrawn in
    let c = sizes_sum label versions (tree versions)
    (recursion_from_All (IsSound (length versions)) (records_of label versions) sound) in
    omega arith

-- ---- pieces

-- the sequence is sent as its header and its items
sequence_parts : (parts : List Item) (count : ℕ) → count ≡ length (items_text (items_of parts))
    → text_of (records_element parts ∷ [])
    ≡ header_text (tag 0x0004 0x1220) (Some SQ) count ++ items_text (items_of parts)
sequence_parts parts count is =
    text-one (records_element parts)
    ∙ sym (append_assoc (tag_text (tag 0x0004 0x1220)) (shape_text (Some SQ) (length (items_text (items_of parts))))
    (items_text (items_of parts)))
    ∙ ap (λ (n : ℕ). header_text (tag 0x0004 0x1220) (Some SQ) n ++ items_text (items_of parts)) (sym is)

-- the header of the sequence of records
abbrev pub sequence_header : ℕ → List ℕ
sequence_header count = header_text (tag 0x0004 0x1220) (Some SQ) count

-- what stands before the records is sent as the head, the elements before their sequence, and its header
pub opening_parts : (label : Label) (versions : List Parts) (seen : Label) (meta : Meta) (front : List Element)
    (first last count : ℕ) → seen ≡ label → meta ≡ meta_of seen → front ≡ front_elements seen.id first last
    → first ≡ first_root label versions → last ≡ last_root label versions
    → head_text meta ++ (text_of front ++ sequence_header count) ≡ opening_text label versions count
opening_parts label versions seen meta front first last count same meta_is front_is first_is last_is =
    let whole : front ≡ front_elements label.id (first_root label versions) (last_root label versions) =
    front_is ∙ ap (λ (l : Label). front_elements l.id first last) same
    ∙ ap (λ (n : ℕ). front_elements label.id n last) first_is
    ∙ ap (λ (n : ℕ). front_elements label.id (first_root label versions) n) last_is in
    rw (meta_is, same) (ap (λ (es : List Element). head_text (meta_of label) ++ (text_of es ++ sequence_header count))
    whole)

-- the directory is sent as what stands before its records, the records, and the elements with the withdrawn UIDs
pub directory_parts : (label : Label) (versions : List Parts) (withdrawn : List (List ℕ)) (count : ℕ)
    → All (IsSound (length versions)) (records_of label versions)
    → count ≡ records_end label versions - first_offset label
    → opening_text label versions count
    ++ (records_text versions (records_of label versions) ++ text_of (withdrawal_elements withdrawn))
    ≡ directory_of label versions withdrawn
directory_parts label versions withdrawn count sound count_is =
    let parts = map record_item (map (elements_for versions) (records_of label versions)) in
    let items : List ℕ = items_text (items_of parts) in
    let a = records_length label versions sound in
    let many : count ≡ length items = omega (arith, a, count_is) in
    let front = front_elements label.id (first_root label versions) (last_root label versions) in
    let head : List ℕ = head_text (meta_of label) in
    let rest : List ℕ = text_of (withdrawal_elements withdrawn) in
    append_assoc head (text_of front ++ sequence_header count) (items ++ rest)
    ∙ ap (λ (t : List ℕ). head ++ t) (append_assoc (text_of front) (sequence_header count) (items ++ rest)
    ∙ ap (λ (t : List ℕ). text_of front ++ t) (sym (append_assoc (sequence_header count) items rest)
    ∙ ap (λ (t : List ℕ). t ++ rest) (sym (sequence_parts parts count many)))
    ∙ sym (append_assoc (text_of front) (text_of (records_element parts ∷ [])) rest)
    ∙ ap (λ (t : List ℕ). t ++ rest) (sym (text-append front (records_element parts ∷ [])))
    ∙ sym (text-append (front ++ (records_element parts ∷ [])) (withdrawal_elements withdrawn)))

-- so there is room for what stands before the records
pub opening_fits : (label : Label) (versions : List Parts) (withdrawn : List (List ℕ)) (count : ℕ)
    → All (IsSound (length versions)) (records_of label versions) → size label versions withdrawn < 2 ^ 32
    → count ≡ records_end label versions - first_offset label → length (opening_text label versions count) < 2 ^ 64
opening_fits label versions withdrawn count sound below count_is =
    let rest : List ℕ = records_text versions (records_of label versions) ++ text_of (withdrawal_elements withdrawn) in
    let whole = ap length (directory_parts label versions withdrawn count sound count_is) in
    let long = directory_length label versions withdrawn sound in
    let one = length-append (opening_text label versions count) rest in
    omega (arith, whole, long, one, below)

-- for its second and its third piece
pub second_piece_fits : (one two three whole : List ℕ) (n : ℕ) → one ++ (two ++ three) ≡ whole → length whole < 2 ^ 64
    → n ≡ 0 + length one → n + length two < 2 ^ 64
second_piece_fits one two three whole n is fits first =
    let a = ap length is in
    let b = length-append one (two ++ three) in
    let c = length-append two three in
    omega (arith, a, b, c, fits, first)

pub third_piece_fits : (one two three whole : List ℕ) (n m : ℕ) → one ++ (two ++ three) ≡ whole
    → length whole < 2 ^ 64 → n ≡ 0 + length one → m ≡ n + length two → m + length three < 2 ^ 64
third_piece_fits one two three whole n m is fits first second =
    let a = ap length is in
    let b = length-append one (two ++ three) in
    let c = length-append two three in
    omega (arith, a, b, c, fits, first, second)

-- for the records
pub records_fit : (label : Label) (versions : List Parts) (withdrawn : List (List ℕ)) (count n : ℕ)
    → All (IsSound (length versions)) (records_of label versions) → size label versions withdrawn < 2 ^ 32
    → count ≡ records_end label versions - first_offset label → n ≡ 0 + length (opening_text label versions count)
    → n + length (records_text versions (records_of label versions)) < 2 ^ 64
records_fit label versions withdrawn count n sound below count_is first =
    let records : List ℕ = records_text versions (records_of label versions) in
    let rest : List ℕ = text_of (withdrawal_elements withdrawn) in
    let whole = ap length (directory_parts label versions withdrawn count sound count_is) in
    let long = directory_length label versions withdrawn sound in
    let one = length-append (opening_text label versions count) (records ++ rest) in
    let two = length-append records rest in
    omega (arith, whole, long, one, two, below, first)

-- and for the elements after them
pub withdrawals_fit : (label : Label) (versions : List Parts) (withdrawn : List (List ℕ)) (count n m : ℕ)
    → All (IsSound (length versions)) (records_of label versions) → size label versions withdrawn < 2 ^ 32
    → count ≡ records_end label versions - first_offset label → n ≡ 0 + length (opening_text label versions count)
    → m ≡ n + length (records_text versions (records_of label versions))
    → m + withdrawals_size withdrawn < 2 ^ 64
withdrawals_fit label versions withdrawn count n m sound below count_is first second =
    let records : List ℕ = records_text versions (records_of label versions) in
    let rest : List ℕ = text_of (withdrawal_elements withdrawn) in
    let whole = ap length (directory_parts label versions withdrawn count sound count_is) in
    let long = directory_length label versions withdrawn sound in
    let one = length-append (opening_text label versions count) (records ++ rest) in
    let two = length-append records rest in
    omega (arith, whole, long, one, two, below, first, second)

-- the answer is the size of a text that was sent whole
pub size_told : {R : Type 0} (text : List ℕ) (n : ℕ) (result : Result ℕ WriteFault) (old new : Option (List ℕ) × R)
    (before after : Counts) → Sends text 0 result old new before after → length text ≡ n → IfOk result (λ k. k ≡ n)
size_told text n (Ok k) old new before after sends is = omega (arith, sends.ok.0, is)
size_told text n (Err fault) old new before after sends is = tt
