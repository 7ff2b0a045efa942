-- The SOP classes of the images that are taken (PS3.4 section B.5).
use Rattle.std.specs.Prelude.{ℕ, Bool, List, [], ◌∷◌, ◌++◌, map, codes}
use Rattle.std.specs.List.{list_any}
use Rattle.std.specs.Str.{bytes_eq}

-- the UID of a storage class, from its end
abbrev pub storage_class : List ℕ → List ℕ
storage_class end = codes "1.2.840.10008.5.1.4.1.1." ++ end

-- Computed Radiography, Digital X-Ray and Digital Mammography X-Ray; CT; Ultrasound Multi-frame; MR; Ultrasound;
-- Secondary Capture; X-Ray Angiographic and Radiofluoroscopic; Nuclear Medicine; VL Endoscopic, Microscopic and
-- Photographic; Positron Emission Tomography
abbrev pub image_classes : List (List ℕ)
image_classes = map storage_class (
    codes "1" ∷ codes "1.1" ∷ codes "1.1.1" ∷ codes "1.2" ∷ codes "1.2.1" ∷
    codes "2" ∷ codes "2.1" ∷ codes "3.1" ∷ codes "4" ∷ codes "4.1" ∷ codes "6.1" ∷
    codes "7" ∷ codes "7.1" ∷ codes "7.2" ∷ codes "7.3" ∷ codes "7.4" ∷
    codes "12.1" ∷ codes "12.2" ∷ codes "20" ∷ codes "77.1.1" ∷ codes "77.1.2" ∷ codes "77.1.4" ∷ codes "128" ∷ [])

-- is it one of them?
unfoldable pub is_image_class : List ℕ → Bool
is_image_class class = list_any (bytes_eq class) image_classes
