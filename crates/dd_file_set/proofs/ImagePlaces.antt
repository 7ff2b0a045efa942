-- The paths of images in a folder, none of which is that of its directory.
use Rattle.std.proofs.Common.{◌≡◌, ◌∙◌, ◌<◌, ◌+◌, ◌-◌, ◌^◌, ◌%◌, ℕ, List, [], ◌∷◌, ◌++◌, length, replicate, All, Option}
use Rattle.std.proofs.Common.{ap, arith, get_or, refl, sym}
use Rattle.std.specs.Prelude.{codes, decimal}
use Rattle.std.proofs.lemmas.Fmt.{decimal_by_steps}
use Rattle.std.proofs.lemmas.List.Elements.{All-nil, All-cons, All-append, All-replicate}
use Rattle.dd_elem.specs.FileId.{AreRanks, IsRank, Ranks, six_digits, text_of}
use Rattle.dd_files.specs.Files.{Held}
use Rattle.dd_files.specs.Paths.{IsPathIn, id_path}
use Rattle.dd_files.proofs.OnePaths.{one_name}
use Rattle.dd_file_set.specs.Made.{IsImagePath, StartsImage}

-- ---- the text of a File ID is of ASCII

abbrev IsAscii : ℕ → Type 0
IsAscii byte = byte < 128

one_digit : (d : ℕ) → d < 10 → All IsAscii ((48 + d) ∷ [])
one_digit d small = All-cons IsAscii (48 + d) [] (omega (arith, small)) (All-nil IsAscii)

decimal_ascii : (n : ℕ) → n < 2 ^ 64 → All IsAscii (decimal n)
decimal_ascii n room = decimal_by_steps (λ m ds. All IsAscii ds) one_digit
    (λ m ds large h. All-append IsAscii ds ((48 + m % 10) ∷ []) h (one_digit (m % 10) (omega arith))) n room

pub component_ascii : (a b rank : ℕ) → a < 128 → b < 128 → IsRank rank → All IsAscii (a ∷ b ∷ six_digits rank)
component_ascii a b rank first second is =
    All-cons IsAscii a (b ∷ six_digits rank) first (All-cons IsAscii b (six_digits rank) second
    (All-append IsAscii (replicate (6 - length (decimal rank)) 48) (decimal rank)
    (All-replicate IsAscii (6 - length (decimal rank)) 48 (omega arith)) (decimal_ascii rank (omega (arith, is.1)))))

pub then_component : (xs ys : List ℕ) → All IsAscii xs → All IsAscii ys → All IsAscii (xs ++ (92 ∷ ys))
then_component xs ys first later =
    All-append IsAscii xs (92 ∷ ys) first (All-cons IsAscii 92 ys (omega arith) later)

pub text_ascii : (ranks : Ranks) → AreRanks ranks → All (λ byte. byte < 128) (text_of ranks)
unfolding text_of
text_ascii ranks are =
    let patient = component_ascii 80 84 ranks.patient (omega arith) (omega arith) are.patient in
    let study = component_ascii 83 84 ranks.study (omega arith) (omega arith) are.study in
    let series = component_ascii 83 69 ranks.series (omega arith) (omega arith) are.series in
    let image = component_ascii 73 77 ranks.image (omega arith) (omega arith) are.image in
    let i = codes "IM" ++ six_digits ranks.image in
    let s = codes "SE" ++ six_digits ranks.series in
    let t = codes "ST" ++ six_digits ranks.study in
    then_component (codes "PT" ++ six_digits ranks.patient) (t ++ (92 ∷ (s ++ (92 ∷ i)))) patient
    (then_component t (s ++ (92 ∷ i)) study (then_component s i series image))

-- ---- it is no name of a directory

starts_with_p : (ranks : Ranks) → (rest : List ℕ) × (id_path (text_of ranks) ≡ 80 ∷ rest)
unfolding text_of
starts_with_p ranks = (_, refl)

pub not_directory : (folder path : List ℕ) → IsImagePath folder path → IsPathIn folder (codes "DICOMDIR") path → ⊥
not_directory folder path image directory =
    let names = one_name folder (id_path (text_of image.file)) (codes "DICOMDIR") path
    (image.place (text_ascii image.file image.ranks)) directory in
    let starts = starts_with_p image.file in
    let head : 80 ≡ 68 = ap (λ (text : List ℕ). get_or text 0 0) (sym starts.1 ∙ names) in
    absurd (omega (arith, head))

-- a new image is at such a path
pub image_path : {folder : List ℕ} {file : Ranks} {old new : Option Held} → (start : StartsImage folder file old new)
    → IsImagePath folder start.path
image_path {file} start = record { file = file; ranks = start.ranks; place = start.place }
