-- What a scan says of a data set: its first tag, and of each wanted element of the set itself what its value is (PS3.5
-- sections 6.2 and 7.1).
use Rattle.std.specs.Prelude.{◌≡◌, ℕ, zero, suc, ◌+◌, Bool, IsTrue, List, [], ◌∷◌, length, take, map}
use Rattle.std.specs.Prelude.{filter, Option, Some, None, Result, Ok, Err}
use Rattle.std.specs.List.{list_any}
use Rattle.dd_elem.specs.Clean.{clean_of}
use Rattle.dd_elem.specs.Key.{max_key_length}
use Rattle.dd_elem.specs.Tag.{number_of}
use Rattle.dd_elem.specs.declared.tag.Tag.{Tag}
use Rattle.dd_grammar.specs.declared.checks.Sort.{Sort}
use Rattle.dd_grammar.specs.declared.checks.Sort.TheVariants as sorts
use Rattle.dd_grammar.specs.declared.fault.SetFault.{SetFault}
use Rattle.dd_grammar.specs.declared.fault.SetFault.TheVariants.{Memory}
use Rattle.dd_scan.specs.declared.found.Scan.{Scan}
use Rattle.dd_scan.specs.declared.found.Found.{Found}
use Rattle.dd_scan.specs.declared.found.FoundValue.{FoundValue}
use Rattle.dd_scan.specs.declared.found.FoundValue.TheVariants as values
use Rattle.dd_encoding.specs.Elements.{Elements, Content, bytes, items, fragments as fragment_list, Element}
use Rattle.dd_grammar.specs.Lists.{same_tag, element_list}
use Rattle.dd_encoding.specs.declared.syntax.Length.TheVariants.{Defined}
use Rattle.dd_encoding.specs.declared.syntax.Syntax.{Syntax}
use Rattle.dd_grammar.specs.AnswersAs.{FailsAs}
use Rattle.dd_grammar.specs.Faults.{is_memory}
use Rattle.dd_grammar.specs.Reading.{At, Reads, SequenceReader, element_at, sequence_with, item_reader, read_all}
use Rattle.dd_encoding.specs.Spelling.{max_levels}

-- how many bytes of a value its summary has: as many as a key may have
abbrev pub summary_length : ℕ
summary_length = max_key_length

-- the summary of a value: that it is a sequence, or fragments; or the front of its bytes, and how many they are
pub data Summary : Type 0 where
  sequence : Summary
  fragments : Summary
  cleaned : List ℕ → ℕ → Summary

abbrev pub summary_of_value : Option (List ℕ) → Summary
summary_of_value None = sequence
summary_of_value (Some value) = cleaned (take summary_length value) (length value)

-- the same of what an element holds, whose value is its bytes without the padding
abbrev pub summary_of : Content → Summary
summary_of (bytes v) = summary_of_value (Some (clean_of v))
summary_of (items form parts) = summary_of_value None
summary_of (fragment_list fs) = fragments

-- an element as a scan finds it
pub record Hit : Type 0 where
  pub tag : Tag
  pub summary : Summary

abbrev pub hit_of : Element → Hit
hit_of e = record { tag = e.tag; summary = summary_of e.content }

abbrev pub is_wanted : List Tag → Tag → Bool
is_wanted wanted tag = list_any (λ w. same_tag w tag) wanted

-- the wanted elements of a set: in the order of the set, so that tags rise, and each once
abbrev pub hits_of : List Tag → Elements → List Hit
hits_of wanted set = map hit_of (filter (λ e. is_wanted wanted e.tag) (element_list set))

-- the tag of the first element
abbrev pub first_tag : List Element → Option Tag
first_tag [] = None
first_tag (e ∷ es) = Some e.tag

abbrev pub first_of : Elements → Option Tag
first_of set = first_tag (element_list set)

-- ---- where a wanted element is there

-- one more element, and the others
abbrev pub and_others : (ℕ → At → List Element) → Reads (Option Element) → List Element
and_others others (Ok (Some e, at)) = e ∷ others (number_of e.tag + 1) at
and_others others (Ok (None, at)) = []
and_others others (Err fault) = []

-- the elements that are read whole, up to the end or to the first check that fails
unfoldable pub whole_elements : SequenceReader → Syntax → ℕ → ℕ → At → List Element
whole_elements reader syntax zero low at = []
whole_elements reader syntax (suc most) low at =
    and_others (whole_elements reader syntax most) (element_at reader syntax Defined low at)

-- a wanted element of the set itself is read whole
abbrev pub HasWanted : Syntax → List Tag → List ℕ → Type 0
HasWanted syntax wanted given =
    IsTrue (list_any (λ e. is_wanted wanted e.tag) (whole_elements (sequence_with (item_reader max_levels)) syntax
    (suc (length given)) 0 (record { left = None; bytes = given })))

-- ---- what a scan returned

abbrev pub found_summary : FoundValue → Summary
found_summary values.Items = sequence
found_summary values.Fragments = fragments
found_summary (values.Bytes front length) = cleaned front.items length

abbrev pub found_hit : Found → Hit
found_hit f = record { tag = f.tag; summary = found_summary f.value }

-- a scan is of this set
pub record IsScan (wanted : List Tag) (scan : Scan) (set : Elements) : Type 0 where
  pub first : scan.first ≡ first_of set
  pub found : map found_hit scan.found.items ≡ hits_of wanted set

-- a returned scan is of the set that reading the bytes gives; lack of memory comes only where a wanted element is there
abbrev pub ScanGives : Syntax → List Tag → Result Scan SetFault → List ℕ → Type 0
ScanGives syntax wanted (Ok scan) given = (set : Elements) × (read_all syntax given ≡ Ok set) × IsScan wanted scan set
ScanGives syntax wanted (Err e) given =
    FailsAs is_memory e (read_all syntax given) × (e ≡ Memory → HasWanted syntax wanted given)

-- the summary of a value of this sort that is not bytes
abbrev pub summary_of_sort : Sort → Summary
summary_of_sort (sorts.Bytes n) = sequence
summary_of_sort (sorts.Open inner) = sequence
summary_of_sort (sorts.Closed inner n) = sequence
summary_of_sort sorts.Fragments = fragments
