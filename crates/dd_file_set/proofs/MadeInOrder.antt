-- The directory is made once the images are stored, also where one of these steps is refused.
use Rattle.std.proofs.Common.{◌≡◌, ◌∙◌, ℕ, List, [], ◌++◌, Option, None, Some, refl, sym, ap, subst, inl, inr}
use Rattle.std.specs.Prelude.{◌⊎◌, IsSome, codes, option_map}
use Rattle.dd_dir.specs.Directories.{directory_of}
use Rattle.dd_files.proofs.AddedWhole.{AddsWhole, last_after}
use Rattle.dd_files.proofs.CallLists.{made_or_not}
use Rattle.dd_files.proofs.CutPower.{others_alone, safe_at_cuts, there_or_not}
use Rattle.dd_files.proofs.FileLaws.{file_here}
use Rattle.dd_files.proofs.KeptFiles.{grown_is, said_stored, said_then}
use Rattle.dd_files.proofs.OnePaths.{one_path}
use Rattle.dd_files.proofs.SaidFiles.{said_both, said_by, said_same}
use Rattle.dd_files.specs.Files.{Held, grown, published, started, stored, with_file}
use Rattle.dd_files.specs.Keeping.{Adds, IfSaid, IsFree}
use Rattle.dd_files.specs.Paths.{IsPathIn}
use Rattle.dd_files.specs.PowerCuts.{IsFrontOf, MakesLast}
use Rattle.dd_version.specs.declared.parts.Parts.{Parts}
use Rattle.dd_layout.specs.Layouts.{Layout}
use Rattle.dd_layout.specs.Plans.{records_of}
use Rattle.dd_file_set.proofs.AllStanding.{images_add, rows_unsaid}
use Rattle.dd_file_set.proofs.ImagePlaces.{not_directory}
use Rattle.dd_file_set.specs.Left.{IsPartOfDirectory, IsPartWritten, MakesDirectoryLast}
use Rattle.dd_file_set.specs.Made.{IsImagePath, MakesImages}
use Rattle.dd_file_set.specs.Standing.{picked_rows}

-- ---- what is made

pub free_unstored : (path : List ℕ) (files : Option Held) → IsFree path (option_map stored files) → IsFree path files
free_unstored path None free = free
free_unstored path (Some held) free = free

pub all_steps : (path text : List ℕ) (a b c d : Option Held) → b ≡ option_map stored a
    → c ≡ option_map (published path text) b → d ≡ option_map stored c
    → d ≡ option_map (λ held. stored (published path text (stored held))) a
all_steps path text None b c d one two three =
    three ∙ ap (λ (x : Option Held). option_map stored x)
    (two ∙ ap (λ (x : Option Held). option_map (published path text) x) one)
all_steps path text (Some held) b c d one two three =
    three ∙ ap (λ (x : Option Held). option_map stored x)
    (two ∙ ap (λ (x : Option Held). option_map (published path text) x) one)

-- ---- a part of the directory

-- after some of it was written to the new file
pub part_grown : (path text front rest : List ℕ) (a b c : Option Held) → text ≡ front ++ rest
    → b ≡ option_map (started path) a → c ≡ option_map (grown front) b → IfSaid (IsPartWritten path text) a c
part_grown path text front rest None b c parts begun sent =
    sent ∙ ap (λ (x : Option Held). option_map (grown front) x) begun
part_grown path text front rest (Some old) b c parts begun sent =
    let begin = with_file path (Some []) old.bytes_at in
    let is : with_file path (option_map (λ before. before ++ front) (begin path)) begin path ≡ Some front =
    ap (λ (files : List ℕ → Option (List ℕ)). files path) (grown_is path front old.bytes_at)
    ∙ file_here path (Some front) old.bytes_at in
    subst (λ (x : Option Held). IfSaid (IsPartWritten path text) (Some old) x)
    (sym (sent ∙ ap (λ (x : Option Held). option_map (grown front) x) begun))
    (inr (subst (λ (file : Option (List ℕ)). IsFrontOf file (Some text)) (sym is) (rest, parts)))

pub part_none : (path text : List ℕ) (a b : Option Held) → b ≡ a → IfSaid (IsPartWritten path text) a b
part_none path text a b same = said_same (IsPartWritten path text) (λ held. inl refl) a b same

-- and no other bytes change then
pub part_same : (path text : List ℕ) (a b c : Option Held) → IfSaid (IsPartWritten path text) a b
    → IfSaid (λ old new. new.bytes_at ≡ old.bytes_at) b c → IfSaid (IsPartWritten path text) a c
part_same path text a b c part same =
    said_both (IsPartWritten path text) (λ old new. new.bytes_at ≡ old.bytes_at) (IsPartWritten path text) a b c
    one part same
  where
    one : (old mid new : Held) → IsPartWritten path text old mid → new.bytes_at ≡ mid.bytes_at
        → IsPartWritten path text old new
    one old mid new part same =
        let is : new.bytes_at path ≡ mid.bytes_at path = ap (λ (files : List ℕ → Option (List ℕ)). files path) same in
        elim part [
          | inl kept ↦ inl (is ∙ kept)
          | inr front ↦ inr (subst (λ (file : Option (List ℕ)). IsFrontOf file (Some text)) (sym is) front)
        ]

pub same_stored : (a b : Option Held) → b ≡ option_map stored a → IfSaid (λ old new. new.bytes_at ≡ old.bytes_at) a b
same_stored a b is = said_by (λ old new. new.bytes_at ≡ old.bytes_at) stored a b is (λ held told. refl)

-- ---- in which order

-- a new file is at a place where files were made
new_place : (MayBe : List ℕ → Type 0) (old new : Held) → Adds MayBe old new → (path : List ℕ)
    → old.bytes_at path ≡ None → IsSome (new.bytes_at path) → MayBe path
new_place MayBe old new adds path free some = elim (made_or_not adds.calls path) [
  | inl made ↦ adds.places path made
  | inr none ↦ absurd (let amiss = subst IsSome (adds.others path free none) some in cc)
]

-- and no other one changes
other_place : (MayBe : List ℕ → Type 0) (old new : Held) → Adds MayBe old new → (path : List ℕ) → (MayBe path → ⊥)
    → new.bytes_at path ≡ old.bytes_at path
other_place MayBe old new adds path not = elim (there_or_not (old.bytes_at path)) [
  | inl free ↦ adds.others path free (λ made. not (adds.places path made)) ∙ sym free
  | inr stood ↦ adds.stays.stays path stood.0 stood.1 ∙ sym stood.1
]

-- images alone, or some of them
pub images_alone : (folder : List ℕ) (a b : Option Held) → IfSaid (Adds (IsImagePath folder)) a b
    → IfSaid (MakesDirectoryLast folder) a b
images_alone folder None b adds = adds
images_alone folder (Some old) None adds = adds
images_alone folder (Some old) (Some new) adds =
    let Image = IsImagePath folder in
    record {
      last = λ path place. images_last path place;
      cuts = λ path place. safe_at_cuts path old new (images_last path place);
      directory = λ path place.
          inl (other_place Image old new adds path (λ image. not_directory folder path image place));
      places = λ path free some. inl (new_place Image old new adds path free some);
    }
  where
    images_last : (path : List ℕ) → IsPathIn folder (codes "DICOMDIR") path → MakesLast path old new
    images_last path place =
        others_alone (IsImagePath folder) path old new (λ image. not_directory folder path image place) adds

-- all of them, stored, and then at most the directory
directory_then : (folder path : List ℕ) (plan : Layout) (old mid new : Held) → IsPathIn folder (codes "DICOMDIR") path
    → AddsWhole (IsImagePath folder) old mid → Adds (λ other. path ≡ other) (stored mid) new
    → IsPartWritten path (directory_of plan.label plan.versions plan.withdrawn) (stored mid) new
    → MakesDirectoryLast folder old new
directory_then folder path plan old mid new place whole then part =
    let Image = IsImagePath folder in
    let One : List ℕ → Type 0 = λ other. path ≡ other in
    let apart : IsImagePath folder path → ⊥ = λ image. not_directory folder path image place in
    let same : (other : List ℕ) → IsPathIn folder (codes "DICOMDIR") other → path ≡ other =
    λ other of. one_path folder (codes "DICOMDIR") path other place of in
    let before = other_place Image old mid whole.adds path apart in
    record {
      last = λ other of. directory_last other of;
      cuts = λ other of. safe_at_cuts other old new (directory_last other of);
      directory = λ other of.
          subst (λ (p : List ℕ). (new.bytes_at p ≡ old.bytes_at p) ⊎ IsPartOfDirectory (new.bytes_at p)) (same other of)
          (elim part [
            | inl kept ↦ inl (kept ∙ before)
            | inr front ↦ inr (plan, front)
          ]);
      places = λ other free some. elim (there_or_not (mid.bytes_at other)) [
        | inl none ↦ inr (subst (IsPathIn folder (codes "DICOMDIR"))
            (new_place One (stored mid) new then other none some) place)
        | inr made ↦ inl (new_place Image old mid whole.adds other free (subst IsSome (sym made.1) refl))
      ];
    }
  where
    directory_last : (other : List ℕ) → IsPathIn folder (codes "DICOMDIR") other → MakesLast other old new
    directory_last other of =
        subst (λ (p : List ℕ). MakesLast p old new) (one_path folder (codes "DICOMDIR") path other place of)
        (last_after (IsImagePath folder) path old mid new (λ image. not_directory folder path image place) whole then)

module _ {P : Type 0} (From MayLink : P → List ℕ → Type 0) (said : P → Option Parts) (folder : List ℕ) (plan : Layout)
    (picks : List P)
    (path : List ℕ) (place : IsPathIn folder (codes "DICOMDIR") path) where
  abbrev text : List ℕ
  text = directory_of plan.label plan.versions plan.withdrawn

  pub images_then : (a b c d : Option Held)
      → MakesImages From MayLink said folder plan.versions (records_of plan.label plan.versions) picks a b
      → c ≡ option_map stored b → IfSaid (Adds (λ other. path ≡ other)) c d → IfSaid (IsPartWritten path text) c d
      → IfSaid (MakesDirectoryLast folder) a d
  images_then None b c d made kept adds part =
      let none : c ≡ None = kept ∙ ap (λ (x : Option Held). option_map stored x)
      (rows_unsaid From MayLink said folder plan.versions (picked_rows plan picks) b made) in
      subst (λ (x : Option Held). IfSaid (Adds (λ other. path ≡ other)) x d) none adds
  images_then (Some old) b c d made kept adds part =
      let images = images_add From MayLink said folder plan picks old b made in
      let is : c ≡ Some (stored images.after) = kept ∙ ap (λ (x : Option Held). option_map stored x) images.is in
      go images.after d images.whole (subst (λ (x : Option Held). IfSaid (Adds (λ other. path ≡ other)) x d) is adds)
      (subst (λ (x : Option Held). IfSaid (IsPartWritten path text) x d) is part)
    where
      go : (after : Held) (d : Option Held) → AddsWhole (IsImagePath folder) old after
          → IfSaid (Adds (λ other. path ≡ other)) (Some (stored after)) d
          → IfSaid (IsPartWritten path text) (Some (stored after)) d → IfSaid (MakesDirectoryLast folder) (Some old) d
      go after None whole adds part = absurd adds
      go after (Some new) whole adds part = directory_then folder path plan old after new place whole adds part

  -- which is stored, or not
  pub images_then_stored : (a b c d e : Option Held)
      → MakesImages From MayLink said folder plan.versions (records_of plan.label plan.versions) picks a b
      → c ≡ option_map stored b → IfSaid (Adds (λ other. path ≡ other)) c d → IfSaid (IsPartWritten path text) c d
      → e ≡ option_map stored d → IfSaid (MakesDirectoryLast folder) a e
  images_then_stored a b c d e made kept adds part last =
      let MayBe : List ℕ → Type 0 = λ other. path ≡ other in
      images_then a b c e made kept (said_then MayBe c d e adds (said_stored MayBe d e last))
      (part_same path text c d e part (same_stored d e last))
