-- The elements of a record, and what is compared of a file, one by one.
use Rattle.std.proofs.Common.{◌≡◌, ℕ, Bool, List, [], ◌∷◌, refl, rules}
use Rattle.std.specs.Prelude.{is_some}
use Rattle.dd_set.specs.Views.{set_view}
use Rattle.dd_encoding.specs.declared.meta.Meta.{Meta}
use Rattle.dd_encoding.specs.Meta.{class_tag, instance_tag}
use Rattle.dd_part10.specs.Reading.{FileParts}
use Rattle.dd_records.specs.ElementForms.{tag}
use Rattle.dd_walk.specs.declared.forest.Tree.{Tree, out-Tree, the_lemmas}
use Rattle.dd_walk.specs.ForestViews.{tree_view}
use Rattle.dd_walk.specs.Saying.{digest_in, key_of}
use Rattle.dd_walk.specs.Trees.{Node}
use Rattle.dd_report.specs.Agreements.{Agreement, agreement, agreements, nearest, patient_id, standing_below}
use Rattle.dd_report.specs.Agreements.{syntax_agreement}

-- the elements of a record
pub set_same : (t : Tree) → set_view (out-Tree t).set ≡ (tree_view t).node.set
set_same t = search (rules, the_lemmas)

module _ (node : Node) (above : List Node) (file : FileParts) (meta : Meta) (class instance : List ℕ) (is_own : Bool)
    (patient study series : List ℕ) where
  pub all_agree : (a b c d e f g h : Agreement) → meta ≡ file.meta
      → class ≡ key_of (tag 0x0004 0x1510) node.set → instance ≡ key_of (tag 0x0004 0x1511) node.set
      → is_own ≡ is_some (digest_in node.set) → patient ≡ nearest (tag 0x0010 0x0020) (node ∷ above)
      → study ≡ nearest (tag 0x0020 0x000d) (node ∷ above) → series ≡ nearest (tag 0x0020 0x000e) (node ∷ above)
      → a ≡ agreement class_tag meta.class class → b ≡ agreement instance_tag meta.instance instance
      → c ≡ syntax_agreement (standing_below above node) meta.transfer
      → d ≡ agreement (tag 0x0008 0x0016) (key_of (tag 0x0008 0x0016) file.set) class
      → e ≡ agreement (tag 0x0008 0x0018) (key_of (tag 0x0008 0x0018) file.set) instance
      → f ≡ agreement (tag 0x0010 0x0020) (patient_id is_own (key_of (tag 0x0010 0x0020) file.set))
      (patient_id is_own patient)
      → g ≡ agreement (tag 0x0020 0x000d) (key_of (tag 0x0020 0x000d) file.set) study
      → h ≡ agreement (tag 0x0020 0x000e) (key_of (tag 0x0020 0x000e) file.set) series
      → a ∷ b ∷ c ∷ d ∷ e ∷ f ∷ g ∷ h ∷ [] ≡ agreements (standing_below above node) file
  all_agree a b c d e f g h same_meta same_class same_instance same_own same_patient same_study same_series
      is_a is_b is_c is_d is_e is_f is_g is_h =
      rw (
        is_a,
        is_b,
        is_c,
        is_d,
        is_e,
        is_f,
        is_g,
        is_h,
        same_meta,
        same_class,
        same_instance,
        same_own,
        same_patient,
        same_study,
        same_series,
      ) refl
