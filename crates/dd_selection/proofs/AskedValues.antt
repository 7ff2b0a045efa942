-- The values that are asked for, as the line has them and without their padding.
use Rattle.std.proofs.Common.{◌≡◌, ◌∙◌, ℕ, Bool, true, ◌||◌, ◌&&◌, List, [], ◌∷◌, refl, sym, ap}
use Rattle.std.specs.Prelude.{String, string_bytes}
use Rattle.std.specs.List.{list_any}
use Rattle.std.specs.Str.{bytes_eq}
use Rattle.dd_elem.specs.Clean.{clean_of}
use Rattle.dd_records.specs.declared.level.Level.{Level}
use Rattle.dd_records.specs.Records.{kind_of}
use Rattle.dd_walk.specs.Saying.{key_of}
use Rattle.dd_walk.specs.Trees.{Node}
use Rattle.dd_selection.specs.Selection.{has_one_of, tag_of, texts_view}

texts_any : {Z : Type 0} (found : List ℕ) (texts : List (String Z))
    → list_any (λ (text : String Z). bytes_eq (clean_of (string_bytes text)) found) texts
    ≡ list_any (λ value. bytes_eq value found) (texts_view texts)
texts_any {Z} found [] = refl
texts_any {Z} found (text ∷ texts) =
    ap (λ (x : Bool). bytes_eq (clean_of (string_bytes text)) found || x) (texts_any found texts)

pub has_one : {Z : Type 0} (level : Level) (texts : List (String Z)) (node : Node) (found : List ℕ)
    → bytes_eq node.kind (kind_of level) ≡ true → found ≡ key_of (tag_of level) node.set
    → list_any (λ (text : String Z). bytes_eq (clean_of (string_bytes text)) found) texts
    ≡ has_one_of level (texts_view texts) node
has_one {Z} level texts node found kind is =
    texts_any found texts
    ∙ ap (λ (key : List ℕ). list_any (λ value. bytes_eq value key) (texts_view texts)) is
    ∙ sym (ap (λ (x : Bool).
    x && list_any (λ value. bytes_eq value (key_of (tag_of level) node.set)) (texts_view texts)) kind)
