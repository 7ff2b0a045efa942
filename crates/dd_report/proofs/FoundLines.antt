-- The lines of records with the paths of their files.
use Rattle.std.proofs.Common.{◌≡◌, ◌∙◌, ℕ, List, [], ◌∷◌, ◌++◌, Option, Result, refl, sym, ap, subst, append_assoc, append-nil}
use Rattle.std.specs.Prelude.{IsErr, codes}
use Rattle.std.specs.List.{flat_map}
use Rattle.serde_json.specs.Data.{Data}
use Rattle.dd_encoding.specs.Elements.{Elements}
use Rattle.dd_set.specs.Views.{set_view}
use Rattle.dd_walk.specs.declared.forest.Tree.{Tree, out-Tree}
use Rattle.dd_walk.specs.ForestViews.{tree_view}
use Rattle.dd_walk.specs.Trees.{Node, Walk}
use Rattle.dd_json.proofs.Steps.{first_fails, middle_fails, third_tells}
use Rattle.dd_json.specs.Values.{json_line, members_in}
use Rattle.dd_json.specs.declared.value.Style.TheVariants.{Json}
use Rattle.dd_lines.specs.Telling.{Fails, GoesOn, Tells, Way}
use Rattle.dd_report.specs.declared.found_records.FoundRecord.{FoundRecord}
use Rattle.dd_report.specs.declared.known.Form.TheVariants.{Long}
use Rattle.dd_report.specs.FoundRecords.{FoundRow, found_json, found_line, found_lines, found_listing, found_row}
use Rattle.dd_report.specs.FoundRecords.{found_rows, path_data}
use Rattle.dd_report.specs.Listing.{elements_in, end_lines, record_members, set_line}
use Rattle.dd_report.specs.MemberTexts.{back_text, front_text, member_text, more_text}
use Rattle.dd_report.proofs.MemberLines.{front_more, parts_join}
use Rattle.dd_report.proofs.RecordLines.{set_same}

-- ---- an object

front_one : (members : List (List ℕ × Data)) (name : List ℕ) (value : Data)
    → front_text members ++ member_text name value ≡ front_text (members ++ (name, value) ∷ [])
front_one members name value =
    ap (λ (xs : List ℕ). front_text members ++ xs) (sym (append-nil (member_text name value)))
    ∙ front_more members ((name, value) ∷ [])

abbrev front_of : FoundRow → List ℕ
front_of found = front_text (record_members found.row.level found.row.node)

abbrev pub path_of : FoundRow → List ℕ
path_of found = member_text (codes "path") (path_data found.path)

abbrev back_of : FoundRow → List ℕ
back_of found = back_text (elements_in Long found.row.node.set)

found_joins : (found : FoundRow) → front_of found ++ (path_of found ++ back_of found) ≡ found_line found
found_joins found =
    let members = record_members found.row.level found.row.node in
    sym (append_assoc (front_of found) (path_of found) (back_of found))
    ∙ ap (λ (xs : List ℕ). xs ++ back_of found) (front_one members (codes "path") (path_data found.path))
    ∙ parts_join (members ++ (codes "path", path_data found.path) ∷ []) (elements_in Long found.row.node.set)

-- the writer failed in the members of each form, or in the path
pub front_fails : {T E : Type 0} (r : Result T E) (found : FoundRow) (a b : Way) → IsErr r → Fails (front_of found) a b
    → Tells r (found_line found) a b
front_fails r found a b err failed =
    subst (λ (text : List ℕ). Tells r text a b) (found_joins found)
    (first_fails r (front_of found) (path_of found ++ back_of found) a b err failed)

pub path_fails : {T E : Type 0} (r : Result T E) (found : FoundRow) (a b c : Way) → IsErr r
    → GoesOn (front_of found) a b → Fails (path_of found) b c → Tells r (found_line found) a c
path_fails r found a b c err front failed =
    subst (λ (text : List ℕ). Tells r text a c) (found_joins found)
    (middle_fails r (front_of found) (path_of found) (back_of found) a b c err front failed)

-- they went, and then the data set
pub back_tells : {T E : Type 0} (r : Result T E) (found : FoundRecord) (set : Elements) (a b c d : Way)
    → set ≡ set_view (out-Tree found.tree.now).set → GoesOn (front_of (found_row found)) a b
    → GoesOn (path_of (found_row found)) b c → Tells r (back_text (elements_in Long set)) c d
    → Tells r (found_line (found_row found)) a d
back_tells r found set a b c d is front path tells =
    let row = found_row found in
    subst (λ (text : List ℕ). Tells r text a d) (found_joins row)
    (third_tells r (front_of row) (path_of row) (back_of row) a b c d front path
    (subst (λ (x : Elements). Tells r (back_text (elements_in Long x)) c d) (is ∙ sym (set_same found.tree.now)) tells))

pub member_tells : {T E : Type 0} (r : Result T E) (name : List ℕ) (value other : Data) (a b : Way) → value ≡ other
    → Tells r (member_text name value) a b → Tells r (member_text name other) a b
member_tells r name value other a b is tells = subst (λ (x : Data). Tells r (member_text name x) a b) is tells

-- ---- objects in a row

abbrev pub record_text : FoundRecord → List ℕ
record_text found = found_line (found_row found)

pub found_each : (records : List FoundRecord) → found_lines (found_rows records) ≡ flat_map record_text records
found_each [] = refl
found_each (found ∷ records) = ap (λ (xs : List ℕ). record_text found ++ xs) (found_each records)

-- ---- the listing

pub names_fail : {T E : Type 0} (r : Result T E) (walk : Walk) (found : List FoundRow) (a b : Way) → IsErr r
    → Fails (set_line Json walk) a b → Tells r (found_listing walk found) a b
names_fail r walk found a b err failed =
    first_fails r (set_line Json walk) (found_lines found ++ end_lines Json walk) a b err failed

pub records_fail : {T E : Type 0} (r : Result T E) (walk : Walk) (found : List FoundRow) (a b c : Way) → IsErr r
    → GoesOn (set_line Json walk) a b → Fails (found_lines found) b c → Tells r (found_listing walk found) a c
records_fail r walk found a b c err names failed =
    middle_fails r (set_line Json walk) (found_lines found) (end_lines Json walk) a b c err names failed

pub end_tells : {T E : Type 0} (r : Result T E) (walk : Walk) (found : List FoundRow) (a b c d : Way)
    → GoesOn (set_line Json walk) a b → GoesOn (found_lines found) b c → Tells r (end_lines Json walk) c d
    → Tells r (found_listing walk found) a d
end_tells r walk found a b c d names records tells =
    third_tells r (set_line Json walk) (found_lines found) (end_lines Json walk) a b c d names records tells
