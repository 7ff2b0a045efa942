-- A directory is a file.
use Rattle.std.proofs.Common.{◌≡◌, ℕ, ◌≤◌, ◌<◌, ◌^◌, List, ◌++◌, length, map, refl, subst, arith, length-append}
use Rattle.std.specs.Prelude.{codes}
use Rattle.std.specs.List.{All, AllByRecursion}
use Rattle.std.proofs.lemmas.List.Elements.{All-from_recursion, recursion_from_All}
use Rattle.dd_elem.specs.SetId.{max_set_id_length}
use Rattle.dd_elem.specs.Uid.{IsUid, is_uid}
use Rattle.dd_elem.proofs.UidForm.{IsUid_from_is_uid}
use Rattle.dd_version.specs.declared.parts.Parts.{Parts}
use Rattle.dd_encoding.specs.Head.{head_text}
use Rattle.dd_part10.proofs.HeadLaw.{head_is_file}
use Rattle.dd_encoding.proofs.Heads.{length_head}
use Rattle.dd_encoding.specs.Spelling.{Spells, elements_text}
use Rattle.dd_encoding.specs.declared.syntax.Syntax.TheVariants.{Explicit}
use Rattle.dd_encoding.proofs.KnownSyntaxes.{explicit_known}
use Rattle.dd_records.specs.declared.label.Label.{Label}
use Rattle.dd_records.specs.declared.record.PlanRecord.{PlanRecord}
use Rattle.dd_records.specs.Directory.{meta_of}
use Rattle.dd_layout.specs.Layouts.{IsSound}
use Rattle.dd_layout.specs.Plans.{records_of, size, tree}
use Rattle.dd_records.specs.Records.{IsRecord}
use Rattle.dd_records.proofs.DirectoryElements.{elements_are_valid}
use Rattle.dd_dir.specs.Directories.{IsDirectory, directory_set, elements_for, first_root, last_root}
use Rattle.dd_dir.proofs.DirectoryTexts.{directory_length, sizes_sum}

class_valid : IsUid (codes "1.2.840.10008.1.3.10")
unfolding is_uid
class_valid = IsUid_from_is_uid (codes "1.2.840.10008.1.3.10") refl

syntax_valid : IsUid (codes "1.2.840.10008.1.2.1")
unfolding is_uid
syntax_valid = IsUid_from_is_uid (codes "1.2.840.10008.1.2.1") refl

-- the second of two texts that fit
second_below : (xs ys : List ℕ) (n : ℕ) → length (xs ++ ys) ≡ n → n < 2 ^ 32 → length ys < 2 ^ 64
second_below xs ys n is below = omega (arith, length-append xs ys, is, below)

-- its elements are elements of a data set
set_spelled : (label : Label) (versions : List Parts) (withdrawn : List (List ℕ))
    → All (IsSound (length versions)) (records_of label versions)
    → size label versions withdrawn < 2 ^ 32 → length label.id ≤ max_set_id_length
    → AllByRecursion IsRecord (map (elements_for versions) (records_of label versions))
    → Spells Explicit (directory_set label versions withdrawn) (elements_text (directory_set label versions withdrawn))
set_spelled label versions withdrawn sound below few valid =
    let entries = map (elements_for versions) (records_of label versions) in
    let head = length_head (meta_of label) in
    let sum = sizes_sum label versions (tree versions)
    (recursion_from_All (IsSound (length versions)) (records_of label versions) sound) in
    let all = directory_length label versions withdrawn sound in
    record {
      valid = elements_are_valid label.id (first_root label versions) (last_root label versions) entries
          withdrawn few (All-from_recursion IsRecord entries valid) (omega (arith, sum, head, below))
          (omega (arith, below));
      whole = refl;
      fits = second_below (head_text (meta_of label)) (elements_text (directory_set label versions withdrawn)) _ all
          below;
    }

pub directory_is_file : (label : Label) (versions : List Parts) (withdrawn : List (List ℕ))
    (rows : List PlanRecord) → rows ≡ records_of label versions → All (IsSound (length versions)) rows
    → size label versions withdrawn < 2 ^ 32 → length label.id ≤ max_set_id_length → IsUid label.uid
    → AllByRecursion IsRecord (map (elements_for versions) rows) → IsDirectory label versions withdrawn
directory_is_file label versions withdrawn rows is sound below few uid valid =
    let set = directory_set label versions withdrawn in
    let spelled = set_spelled label versions withdrawn (subst (All (IsSound (length versions))) is sound) below few
    (subst (λ (rs : List PlanRecord). AllByRecursion IsRecord (map (elements_for versions) rs)) is valid) in
    head_is_file (meta_of label) Explicit set (elements_text set) class_valid uid syntax_valid explicit_known spelled
    (omega arith)
