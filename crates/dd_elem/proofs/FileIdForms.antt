-- The test `is_file_id_form` decides `IsFileId`.
use Rattle.std.proofs.Common.{◌≡◌, ◌≤◌, ◌<◌, ◌+◌, ℕ, Bool, true, false, eqb, ltb, List, [], ◌∷◌, length, refl, sym, ap}
use Rattle.std.proofs.Common.{◌∙◌, arith}
use Rattle.std.specs.Prelude.{All, Decides, count_by}
use Rattle.std.specs.List.{list_all, slice_split, join_with_byte}
use Rattle.std.proofs.lemmas.Bool.{and_parts, and_from, and_left, leb-true, le-leb, lt-ltb, le-ltb, ne_eqb}
use borrow.Author.Tests.{ltb-true}
use Rattle.std.proofs.lemmas.Bool.Decides.{Decides-by_and}
use Rattle.std.proofs.lemmas.List.Elements.{All-head, All-tail, All-weaker}
use Rattle.std.proofs.lemmas.List.Splits.{slice_split_none, slice_split_at, join_with_byte-slice_split}
use Rattle.std.proofs.lemmas.List.Splits.{length-slice_split}
use Rattle.dd_elem.specs.Characters.{IsIdCharacter}
use Rattle.dd_elem.specs.FileIdForm.{IsFileIdComponent, IsFileId, is_file_id_component, is_file_id_form}
use Rattle.dd_elem.proofs.SetIdForm.{characters_decide}

-- a component is tested
component_decides : (bytes : List ℕ) → Decides (is_file_id_component bytes) (IsFileIdComponent bytes)
component_decides bytes = (
  λ e. let p = and_parts _ _ e in let q = and_parts _ _ p.1 in record {
    characters = (characters_decide bytes).0 q.1;
    not_empty = leb-true 1 (length bytes) p.0;
    short = leb-true (length bytes) 8 q.0;
  },
  λ h. and_from _ _ (le-leb 1 (length bytes) h.not_empty) (and_from _ _ (le-leb (length bytes) 8 h.short)
      ((characters_decide bytes).1 h.characters)),
)

components_decide : (parts : List (List ℕ)) → Decides (list_all is_file_id_component parts)
    (All IsFileIdComponent parts)
components_decide parts = Decides-by_and is_file_id_component IsFileIdComponent (list_all is_file_id_component)
    component_decides refl (λ _ _. refl) parts

-- no separator stands in a component
no_separator : (component : List ℕ) → IsFileIdComponent component → All (λ byte. eqb byte 92 ≡ false) component
no_separator component h = All-weaker IsIdCharacter (λ byte. eqb byte 92 ≡ false)
    (λ byte character. ne_eqb byte 92 (λ e. omega (arith, character))) component h.characters

-- components that are joined by separators are found again by cutting at the separators
slice_split-join : (first : List ℕ) (others : List (List ℕ)) → All IsFileIdComponent (first ∷ others)
    → slice_split (λ byte. eqb byte 92) (join_with_byte 92 (first ∷ others)) ≡ first ∷ others
slice_split-join first [] each = slice_split_none (λ byte. eqb byte 92) first
    (no_separator first (All-head IsFileIdComponent first [] each))
slice_split-join first (next ∷ others) each =
    slice_split_at (λ byte. eqb byte 92) first 92 (join_with_byte 92 (next ∷ others))
    (no_separator first (All-head IsFileIdComponent first (next ∷ others) each)) refl
    ∙ ap (λ (l : List (List ℕ)). first ∷ l) (slice_split-join next others
    (All-tail IsFileIdComponent first (next ∷ others) each))

split_is_components : (bytes : List ℕ) (components : List (List ℕ)) → All IsFileIdComponent components
    → bytes ≡ join_with_byte 92 components → 1 ≤ length components
    → slice_split (λ byte. eqb byte 92) bytes ≡ components
split_is_components bytes [] each joined some = absurd (omega (arith, some))
split_is_components bytes (first ∷ others) each joined some =
    ap (slice_split (λ byte. eqb byte 92)) joined ∙ slice_split-join first others each

-- the test passes at each File ID
is_file_id_form_from_IsFileId : (bytes : List ℕ) → IsFileId bytes → is_file_id_form bytes ≡ true
unfolding is_file_id_form
is_file_id_form_from_IsFileId bytes h =
    let parts = split_is_components bytes h.components h.each h.joined h.some in
    let cuts : length (slice_split (λ byte. eqb byte 92) bytes) ≡ count_by (λ byte. eqb byte 92) bytes + 1 =
    length-slice_split (λ byte. eqb byte 92) bytes in
    let few : count_by (λ byte. eqb byte 92) bytes < 8 = omega (arith, ap length parts, cuts, h.few) in
    and_from _ _ (lt-ltb _ 8 few) (ap (list_all is_file_id_component) parts ∙ (components_decide h.components).1 h.each)

-- what passes the test is a File ID
IsFileId_from_is_file_id_form : (bytes : List ℕ) → is_file_id_form bytes ≡ true → IsFileId bytes
unfolding is_file_id_form
IsFileId_from_is_file_id_form bytes e =
    let p = and_parts _ _ e in
    let cuts : length (slice_split (λ byte. eqb byte 92) bytes) ≡ count_by (λ byte. eqb byte 92) bytes + 1 =
    length-slice_split (λ byte. eqb byte 92) bytes in
    let below : count_by (λ byte. eqb byte 92) bytes < 8 = ltb-true _ 8 p.0 in
    record {
      components = slice_split (λ byte. eqb byte 92) bytes;
      each = (components_decide (slice_split (λ byte. eqb byte 92) bytes)).0 p.1;
      joined = sym (join_with_byte-slice_split 92 bytes);
      some = omega (arith, cuts);
      few = omega (arith, cuts, below);
    }

-- the test decides
pub form_decides : (bytes : List ℕ) → Decides (is_file_id_form bytes) (IsFileId bytes)
form_decides bytes = (IsFileId_from_is_file_id_form bytes, is_file_id_form_from_IsFileId bytes)

-- what answers as the test does decides
pub decides_from_is : (bytes : List ℕ) (result : Bool) → result ≡ is_file_id_form bytes
    → Decides result (IsFileId bytes)
decides_from_is bytes result is = (
  λ e. IsFileId_from_is_file_id_form bytes (sym is ∙ e),
  λ h. is
      ∙ is_file_id_form_from_IsFileId bytes h,
)

-- with eight separators or more the test fails, as does the test of their number
pub is_file_id_form-many : (bytes : List ℕ) (n : ℕ) → n ≡ count_by (λ byte. eqb byte 92) bytes → 8 ≤ n
    → ltb n 8 ≡ is_file_id_form bytes
unfolding is_file_id_form
is_file_id_form-many bytes n is many =
    let left : ltb n 8 ≡ false = le-ltb n 8 many in
    let right : ltb (count_by (λ byte. eqb byte 92) bytes) 8 ≡ false = ap (λ (k : ℕ). ltb k 8) (sym is) ∙ left in
    left ∙ sym (and_left _ _ right)
