-- The offsets of the worked example, one by one, and its records.
use Rattle.std.specs.Prelude.{◌≡◌, [], ◌∷◌, None, Some, codes}
use Rattle.std.proofs.Common.{refl}
use Rattle.std.specs.Fmt.{digits}
use Rattle.dd_elem.specs.FileId.{ranks_of, text_of}
use Rattle.dd_encoding.specs.Head.{head_text, group_text}
use Rattle.dd_records.specs.declared.level.Level.TheVariants.{Patient, Study, Series, Image}
use Rattle.dd_layout.specs.Plans.{at, records_of, size}
use Rattle.dd_layout.specs.Worked.{planned, eleven_records, four_images, one_withdrawn, two_withdrawn, unnamed}

pub at_first_patient : at unnamed four_images (codes "P1" ∷ []) ≡ 320
unfolding text_of head_text group_text digits
at_first_patient = refl

pub at_first_study : at unnamed four_images (codes "P1" ∷ codes "1.2.3" ∷ []) ≡ 404
unfolding text_of head_text group_text digits
at_first_study = refl

pub at_first_series : at unnamed four_images (codes "P1" ∷ codes "1.2.3" ∷ codes "1.2.3.4" ∷ []) ≡ 530
unfolding text_of head_text group_text digits
at_first_series = refl

pub at_first_image : at unnamed four_images
    (codes "P1" ∷ codes "1.2.3" ∷ codes "1.2.3.4" ∷ codes "1.2.3.4.5" ∷ []) ≡ 622
unfolding text_of head_text group_text digits
at_first_image = refl

pub at_second_image : at unnamed four_images
    (codes "P1" ∷ codes "1.2.3" ∷ codes "1.2.3.4" ∷ codes "1.2.3.4.6" ∷ []) ≡ 876
unfolding text_of head_text group_text digits
at_second_image = refl

pub at_second_series : at unnamed four_images (codes "P1" ∷ codes "1.2.3" ∷ codes "1.2.3.5" ∷ []) ≡ 1130
unfolding text_of head_text group_text digits
at_second_series = refl

pub at_third_image : at unnamed four_images
    (codes "P1" ∷ codes "1.2.3" ∷ codes "1.2.3.5" ∷ codes "1.2.3.5.1" ∷ []) ≡ 1222
unfolding text_of head_text group_text digits
at_third_image = refl

pub at_second_patient : at unnamed four_images (codes "P2" ∷ []) ≡ 1476
unfolding text_of head_text group_text digits
at_second_patient = refl

pub at_second_study : at unnamed four_images (codes "P2" ∷ codes "1.2.9" ∷ []) ≡ 1560
unfolding text_of head_text group_text digits
at_second_study = refl

pub at_third_series : at unnamed four_images (codes "P2" ∷ codes "1.2.9" ∷ codes "1.2.9.1" ∷ []) ≡ 1686
unfolding text_of head_text group_text digits
at_third_series = refl

pub at_fourth_image : at unnamed four_images
    (codes "P2" ∷ codes "1.2.9" ∷ codes "1.2.9.1" ∷ codes "1.2.9.1.1" ∷ []) ≡ 1778
unfolding text_of head_text group_text digits
at_fourth_image = refl

pub size_is : size unnamed four_images [] ≡ 2032
unfolding text_of head_text group_text digits
size_is = refl

pub size_with_one : size unnamed four_images one_withdrawn ≡ 2074
unfolding text_of head_text group_text digits
size_with_one = refl

pub size_with_two : size unnamed four_images two_withdrawn ≡ 2084
unfolding text_of head_text group_text digits
size_with_two = refl

pub records_are : records_of unnamed four_images ≡ eleven_records
records_are = λ i.
    planned Patient (at_first_patient i) (at_second_patient i) (at_first_study i) (None) 0
    ∷ planned Study (at_first_study i) (0) (at_first_series i) (None) 0
    ∷ planned Series (at_first_series i) (at_second_series i) (at_first_image i) (None) 0
    ∷ planned Image (at_first_image i) (at_second_image i) (0) (Some (ranks_of 1 1 1 1)) 0
    ∷ planned Image (at_second_image i) (0) (0) (Some (ranks_of 1 1 1 2)) 1
    ∷ planned Series (at_second_series i) (0) (at_third_image i) (None) 2
    ∷ planned Image (at_third_image i) (0) (0) (Some (ranks_of 1 1 2 1)) 2
    ∷ planned Patient (at_second_patient i) (0) (at_second_study i) (None) 3
    ∷ planned Study (at_second_study i) (0) (at_third_series i) (None) 3
    ∷ planned Series (at_third_series i) (0) (at_fourth_image i) (None) 3
    ∷ planned Image (at_fourth_image i) (0) (0) (Some (ranks_of 2 1 1 1)) 3
    ∷ []
