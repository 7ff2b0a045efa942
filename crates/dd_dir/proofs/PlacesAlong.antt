-- The items of the records of a directory stand at the offsets of the plan.
use Rattle.std.specs.Prelude.{◌≡◌, ◌≤◌, ◌<◌, ◌^◌, ℕ, ◌+◌, ◌==◌, true, false, not, List, [], ◌∷◌, ◌++◌, All, length, map}
use Rattle.std.specs.Prelude.{Option, Some, None}
use Rattle.std.specs.List.{AllByRecursion}
use Rattle.std.proofs.Common.{refl, sym, ◌∙◌, ap, inl, inr, arith, append_assoc}
use Rattle.std.proofs.lemmas.Bool.{eq-eqb, ne_eqb}
use Rattle.std.proofs.lemmas.List.Elements.{recursion_from_All}
use Rattle.std.proofs.lemmas.List.Filters.{sum_by-filter_both}
use Rattle.std.proofs.lemmas.List.Sums.{sum_by_push}
use Rattle.byteorder.specs.Endian.{little_bytes}
use Rattle.dd_elem.specs.declared.vr.Vr.TheVariants.{CS, SQ, UL, US}
use Rattle.dd_catalogue.proofs.Members.{Member}
use Rattle.dd_catalogue.proofs.Harmonies.{member-map}
use Rattle.dd_version.specs.declared.parts.Parts.{Parts}
use Rattle.dd_encoding.specs.Head.{head_text}
use Rattle.dd_encoding.specs.Elements.{Elements, Element, elements_of, items_of}
use Rattle.dd_set.specs.Single.{element_text, item_text}
use Rattle.dd_encoding.specs.Spelling.{header_text, items_text}
use Rattle.dd_set.specs.Starts.{places_in}
use Rattle.dd_encoding.proofs.Even.{length-header_text}
use Rattle.dd_set.proofs.Places.{places_in-sums, starts_from}
use Rattle.dd_records.specs.declared.label.Label.{Label}
use Rattle.dd_records.specs.declared.record.PlanRecord.{PlanRecord}
use Rattle.dd_records.specs.Directory.{first_offset, meta_of}
use Rattle.dd_records.specs.ElementForms.{bytes_element, padded, tag}
use Rattle.dd_layout.specs.Layouts.{IsSound}
use Rattle.dd_layout.specs.Paths.{Path, is_before}
use Rattle.dd_layout.specs.Plans.{at, at_or_none, path_of, record_at, record_size_at, records_end, records_of, size}
use Rattle.dd_layout.specs.Plans.{tree}
use Rattle.dd_records.specs.Records.{record_item}
use Rattle.dd_records.specs.Sizes.{record_size}
use Rattle.dd_layout.proofs.Leasts.{paths_have_parts}
use Rattle.dd_records.proofs.Lengths.{short_more}
use Rattle.dd_layout.proofs.Neighbourhood.{rows_are_known}
use Rattle.dd_records.proofs.DirectoryElements.{directory_length}
use Rattle.dd_layout.proofs.OffsetPass.{end_at}
use Rattle.dd_dir.specs.Directories.{directory_set, elements_for, first_root, last_root}
use Rattle.dd_walk.specs.Reading.{stands_in}
use Rattle.dd_walk.specs.Saying.{sets_of}
use Rattle.dd_dir.proofs.DirectoryTexts.{one_size}
use Rattle.dd_dir.proofs.RowTexts.{text-one}
use Rattle.dd_walk.specs.Pending.{Rises}
use Rattle.dd_walk.proofs.WalkPlaces.{places_rise, rises_lower}

-- ---- the items of records

-- how long one is
item_text_size : (entries : List Element) → length (item_text (record_item entries)) ≡ record_size entries
item_text_size entries = omega arith

-- they start at the offsets of their rows
starts_along : (label : Label) (versions : List Parts) (front rest : List Path) → tree versions ≡ front ++ rest
    → AllByRecursion (IsSound (length versions)) (map (record_at label versions) rest)
    → starts_from (end_at label versions front)
    (items_of (map record_item (map (elements_for versions) (map (record_at label versions) rest))))
    ≡ map (at label versions) rest
starts_along label versions front [] is sound = refl
starts_along label versions front (x ∷ rest) is sound =
    let known = rows_are_known (map path_of versions) (paths_have_parts versions) front x rest is in
    let here : end_at label versions front ≡ at label versions x =
    sym (known.at (first_offset label) (record_size_at versions)) in
    let push = sum_by_push (record_size_at versions) front x in
    let entries : List Element = elements_for versions (record_at label versions x) in
    let long : length (item_text (record_item entries)) ≡ record_size_at versions x =
    item_text_size entries ∙ one_size label versions x sound.0 in
    let end : end_at label versions front + length (item_text (record_item entries))
    ≡ end_at label versions (front ++ x ∷ []) = omega arith in
    let parts = items_of (map record_item (map (elements_for versions) (map (record_at label versions) rest))) in
    ap (λ (n : ℕ). n ∷ starts_from (end_at label versions front + length (item_text (record_item entries))) parts) here
    ∙ ap (λ (n : ℕ). at label versions x ∷ starts_from n parts) end
    ∙ ap (λ (l : List ℕ). at label versions x ∷ l)
    (starts_along label versions (front ++ x ∷ []) rest (is ∙ sym (append_assoc front (x ∷ []) rest)) sound.1)

-- all are within the bytes up to the end of the records
pub at_most : (label : Label) (versions : List Parts) (x : Option Path)
    → at_or_none label versions x ≤ records_end label versions
at_most label versions None = omega arith
at_most label versions (Some x) =
    let both = sum_by-filter_both (λ y. is_before y x) (λ y. not (is_before y x)) (λ y. refl)
    (record_size_at versions) (tree versions) in
    omega (arith, both)

-- which fit 32 bits where the whole directory does
pub end_small : (label : Label) (versions : List Parts) (withdrawn : List (List ℕ))
    → size label versions withdrawn < 2 ^ 32 → records_end label versions < 2 ^ 32
end_small label versions withdrawn small = omega (arith, small)

-- ---- where they stand in the file

-- what stands before them
records_begin : (label : Label) (first last n : ℕ)
    → length (head_text (meta_of label))
    + length (element_text (bytes_element (tag 0x0004 0x1130) CS (padded 0x20 label.id)))
    + length (element_text (bytes_element (tag 0x0004 0x1200) UL (little_bytes 4 first)))
    + length (element_text (bytes_element (tag 0x0004 0x1202) UL (little_bytes 4 last)))
    + length (element_text (bytes_element (tag 0x0004 0x1212) US (little_bytes 2 0x0000)))
    + length (header_text (tag 0x0004 0x1220) (Some SQ) n)
    ≡ first_offset label
records_begin label first last n =
    let e1 = ap length (text-one (bytes_element (tag 0x0004 0x1130) CS (padded 0x20 label.id))) in
    let e2 = ap length (text-one (bytes_element (tag 0x0004 0x1200) UL (little_bytes 4 first))) in
    let e3 = ap length (text-one (bytes_element (tag 0x0004 0x1202) UL (little_bytes 4 last))) in
    let e4 = ap length (text-one (bytes_element (tag 0x0004 0x1212) US (little_bytes 2 0x0000))) in
    let s1 = short_more (tag 0x0004 0x1130) CS (padded 0x20 label.id) [] refl in
    let s2 = short_more (tag 0x0004 0x1200) UL (little_bytes 4 first) [] refl in
    let s3 = short_more (tag 0x0004 0x1202) UL (little_bytes 4 last) [] refl in
    let s4 = short_more (tag 0x0004 0x1212) US (little_bytes 2 0x0000) [] refl in
    let head = length-header_text (tag 0x0004 0x1220) (Some SQ) n in
    let all = directory_length label.id 0 0 [] in
    omega arith

-- so the places of the items are the offsets of the rows
pub places_are : (label : Label) (versions : List Parts) (withdrawn : List (List ℕ))
    → All (IsSound (length versions)) (records_of label versions)
    → places_in (tag 0x0004 0x1220) (head_text (meta_of label)) (directory_set label versions withdrawn)
    ≡ Some (map (at label versions) (tree versions))
places_are label versions withdrawn sound =
    let each = recursion_from_All (IsSound (length versions)) (records_of label versions) sound in
    let parts = items_of (map record_item (map (elements_for versions) (records_of label versions))) in
    let start : first_offset label ≡ end_at label versions [] = omega arith in
    places_in-sums (tag 0x0004 0x1220) (head_text (meta_of label)) (directory_set label versions withdrawn)
    ∙ ap (λ (n : ℕ). Some (starts_from n parts)) (records_begin label (first_root label versions)
    (last_root label versions) (length (items_text parts)) ∙ start)
    ∙ ap (λ (l : List ℕ). Some l) (starts_along label versions [] (tree versions) refl each)

-- they rise
pub offsets_rise : (label : Label) (versions : List Parts) → All (IsSound (length versions)) (records_of label versions)
    → Rises 0 (map (at label versions) (tree versions))
offsets_rise label versions sound =
    let head = head_text (meta_of label) in
    let starts = map (at label versions) (tree versions) in
    rises_lower (length head) 0 starts (omega arith)
    (places_rise (tag 0x0004 0x1220) head (directory_set label versions []) starts (places_are label versions [] sound))

-- ---- the item at an offset

-- numbers that rise are no smaller than the first may be
pub rise_above : (low : ℕ) (ps : List ℕ) (p : ℕ) → Rises low ps → Member p ps → low ≤ p
rise_above low [] p up i = absurd i
rise_above low (q ∷ ps) p up (inl e) = omega (arith, up.0)
rise_above low (q ∷ ps) p up (inr i) = let above = rise_above (q + 1) ps p up.1 i in omega (arith, up.0)

-- the data sets of the records, row by row
pub sets_are : (versions : List Parts) (f : Path → PlanRecord) (rows : List Path)
    → sets_of (items_of (map record_item (map (elements_for versions) (map f rows))))
    ≡ map (λ x. elements_of (elements_for versions (f x))) rows
sets_are versions f [] = refl
sets_are versions f (x ∷ rows) =
    ap (λ (l : List Elements). elements_of (elements_for versions (f x)) ∷ l) (sets_are versions f rows)

-- each is found at the offset of its row
pub stands_found : (f : Path → ℕ) (set : Path → Elements) (low : ℕ) (rows : List Path) (x : Path)
    → Rises low (map f rows) → Member x rows → stands_in (map f rows) (map set rows) (f x) ≡ Some (set x)
stands_found f set low [] x up i = absurd i
stands_found f set low (y ∷ rows) x up (inl e) =
    let same : (f x == f y) ≡ true = eq-eqb (f x) (f y) (ap f (sym e)) in
    rw same (ap (λ (z : Path). Some (set z)) e)
stands_found f set low (y ∷ rows) x up (inr i) =
    let above = rise_above (f y + 1) (map f rows) (f x) up.1 (member-map f x rows i) in
    let other : (f x == f y) ≡ false = ne_eqb (f x) (f y) (λ e. omega arith) in
    rw other (stands_found f set (f y + 1) rows x up.1 i)
