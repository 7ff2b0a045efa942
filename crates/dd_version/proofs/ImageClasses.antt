-- The test `is_image_class` decides whether a class is in the table, which the code has too.
use Rattle.std.proofs.Common.{◌≡◌, ℕ, Bool, List, ap, bytes_eq}
use Rattle.std.specs.Prelude.{Contains, Decides}
use Rattle.std.specs.List.{list_any}
use Rattle.std.proofs.lemmas.Cmp.{nat_list_eq_equiv}
use Rattle.dd_version.specs.Classes.{image_classes, is_image_class}
use Rattle.dd_version.specs.declared.classes.TheConstants.{IMAGE_CLASSES}
use Rattle.dd_version.proofs.Listed.{listed_decides}

-- the test decides
pub is_image_class_decides : (class : List ℕ) → Decides (is_image_class class) (Contains image_classes class)
unfolding is_image_class
is_image_class_decides class = listed_decides image_classes class

-- a search in the code's table, which has the same classes, is the test
pub in_table : (class : List ℕ) → list_any (λ known. bytes_eq known.now class) IMAGE_CLASSES ≡ is_image_class class
unfolding is_image_class
in_table class =
    ap (λ (test : List ℕ → Bool). list_any test image_classes) (λ i known. nat_list_eq_equiv.symm known class i)
