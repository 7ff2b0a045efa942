-- The path of an image is the path of its folder, a `/`, and the last component of its File ID.
use Rattle.std.proofs.Common.{◌≡◌, ◌∙◌, ◌≤◌, ◌<◌, ◌+◌, ℕ, List, [], ◌∷◌, ◌++◌, length, take, ap, arith, refl, subst}
use Rattle.std.proofs.Common.{sym}
use Rattle.std.proofs.Common.{append_assoc, length-append, take_all}
use Rattle.std.specs.Prelude.{All, codes}
use Rattle.std.proofs.lemmas.List.{length-map, map-append, take-append-le}
use Rattle.dd_elem.specs.FileId.{AreRanks, Ranks, six_digits, text_of}
use Rattle.dd_elem.proofs.SixDigits.{length-six_digits}
use Rattle.dd_files.specs.Paths.{IsPathIn, id_path, slashed}
use Rattle.dd_files.proofs.OnePaths.{one_path}
use Rattle.dd_file_set.specs.Made.{HasFolderOf, IsPlace}
use Rattle.dd_file_set.proofs.ImagePlaces.{component_ascii, text_ascii, then_component}

-- ---- the text of a File ID

abbrev series_of : Ranks → List ℕ
series_of ranks = codes "SE" ++ six_digits ranks.series

abbrev study_of : Ranks → List ℕ
study_of ranks = codes "ST" ++ six_digits ranks.study

abbrev patient_of : Ranks → List ℕ
patient_of ranks = codes "PT" ++ six_digits ranks.patient

-- its components but the last
abbrev front_of : Ranks → List ℕ
front_of ranks = patient_of ranks ++ 92 ∷ (study_of ranks ++ 92 ∷ series_of ranks)

abbrev last_of : Ranks → List ℕ
last_of ranks = codes "IM" ++ six_digits ranks.image

text_apart : (ranks : Ranks) → text_of ranks ≡ front_of ranks ++ 92 ∷ last_of ranks
unfolding text_of
text_apart ranks =
    let p = patient_of ranks in
    let t = study_of ranks in
    let s = series_of ranks in
    sym (append_assoc p (92 ∷ (t ++ 92 ∷ s)) (92 ∷ last_of ranks)
    ∙ ap (λ (more : List ℕ). p ++ 92 ∷ more) (append_assoc t (92 ∷ s) (92 ∷ last_of ranks)))

front_length : (ranks : Ranks) → AreRanks ranks → length (front_of ranks) ≡ 26
front_length ranks are =
    let p = patient_of ranks in
    let t = study_of ranks in
    let s = series_of ranks in
    omega (
      arith,
      length-six_digits ranks.patient are.patient,
      length-six_digits ranks.study are.study,
      length-six_digits ranks.series are.series,
      length-append p (92 ∷ (t ++ 92 ∷ s)),
      length-append t (92 ∷ s),
    )

front_is : (ranks : Ranks) → AreRanks ranks → take 26 (text_of ranks) ≡ front_of ranks
front_is ranks are =
    ap (take 26) (text_apart ranks)
    ∙ take-append-le 26 (front_of ranks) (92 ∷ last_of ranks) (omega (arith, front_length ranks are))
    ∙ take_all 26 (front_of ranks) (omega (arith, front_length ranks are))

last_length : (ranks : Ranks) → AreRanks ranks → length (last_of ranks) ≤ 8
last_length ranks are = omega (arith, length-six_digits ranks.image are.image)

front_ascii : (ranks : Ranks) → AreRanks ranks → All (λ byte. byte < 128) (front_of ranks)
front_ascii ranks are =
    let patient = component_ascii 80 84 ranks.patient (omega arith) (omega arith) are.patient in
    let study = component_ascii 83 84 ranks.study (omega arith) (omega arith) are.study in
    let series = component_ascii 83 69 ranks.series (omega arith) (omega arith) are.series in
    then_component (patient_of ranks) (study_of ranks ++ 92 ∷ series_of ranks) patient
    (then_component (study_of ranks) (series_of ranks) study series)

-- ---- the paths

names_apart : (front last : List ℕ) → id_path (front ++ 92 ∷ last) ≡ id_path front ++ 47 ∷ id_path last
names_apart front last = map-append slashed front (92 ∷ last)

joined : (base front last folder : List ℕ) → folder ≡ base ++ id_path front
    → folder ++ 47 ∷ id_path last ≡ base ++ id_path (front ++ 92 ∷ last)
joined base front last folder at =
    ap (λ (start : List ℕ). start ++ 47 ∷ id_path last) at
    ∙ append_assoc base (id_path front) (47 ∷ id_path last)
    ∙ ap (λ (name : List ℕ). base ++ name) (sym (names_apart front last))

apart : (set front last path folder : List ℕ) → IsPathIn set (id_path (front ++ 92 ∷ last)) path
    → IsPathIn set (id_path front) folder → path ≡ folder ++ 47 ∷ id_path last
apart set front last path folder is at =
    one_path set (id_path (front ++ 92 ∷ last)) path (folder ++ 47 ∷ id_path last) is (record {
      bare = λ none. joined [] front last folder (at.bare none);
      ended = λ ends. joined set front last folder (at.ended ends);
      apart = λ some not_so. joined (set ++ codes "/") front last folder (at.apart some not_so);
    })

-- the folder of the image was made
pub has_folder_of : (has_folder : List ℕ → Type 0) (set folder path : List ℕ) (ranks : Ranks) → AreRanks ranks
    → (All (λ byte. byte < 128) (take 26 (text_of ranks)) → IsPathIn set (id_path (take 26 (text_of ranks))) folder)
    → has_folder folder → IsPlace set ranks path → HasFolderOf has_folder path
has_folder_of has_folder set folder path ranks are at made place =
    let start = front_is ranks are in
    let is : IsPathIn set (id_path (front_of ranks ++ 92 ∷ last_of ranks)) path =
    subst (λ (text : List ℕ). IsPathIn set (id_path text) path) (text_apart ranks) (place (text_ascii ranks are)) in
    let folder_at : IsPathIn set (id_path (front_of ranks)) folder =
    subst (λ (text : List ℕ). IsPathIn set (id_path text) folder) start
    (at (subst (λ (text : List ℕ). All (λ byte. byte < 128) text) (sym start) (front_ascii ranks are))) in
    record {
      folder = folder;
      last = id_path (last_of ranks);
      is = apart set (front_of ranks) (last_of ranks) path folder is folder_at;
      short = omega (arith, length-map (last_of ranks) slashed, last_length ranks are);
      made = made;
    }

-- the name of the folder has 26 bytes
pub folder_length : (ranks : Ranks) → AreRanks ranks → 26 ≡ length (take 26 (text_of ranks))
folder_length ranks are = sym (ap length (front_is ranks are) ∙ front_length ranks are)
