-- What is merged of file-sets that all have one directory, which a command left, is what that command kept.
use Rattle.std.proofs.Common.{◌≡◌, ◌∙◌, ℕ, List, [], ◌∷◌, Option, None, Some, Result, Ok}
use Rattle.std.proofs.Common.{ap, ap₂, inl, refl, subst, sym}
use Rattle.std.specs.Prelude.{◌≢◌, Contains, map}
use Rattle.clap.specs.Words.{Row, Text}
use Rattle.dd_catalogue.specs.Best.{SameMembers}
use Rattle.dd_catalogue.specs.BestLaws.{best_of_rising}
use Rattle.dd_catalogue.specs.CatalogueJoin.{held_is_held, same_contents, uids_ordered}
use Rattle.dd_catalogue.specs.Contents.{Contents, held_of, left_of}
use Rattle.dd_catalogue.specs.Free.{is_free}
use Rattle.dd_catalogue.specs.FreeLaws.{kept_itself}
use Rattle.dd_catalogue.specs.Harmony.{agreed, harmonised}
use Rattle.dd_catalogue.specs.Rising.{by_test}
use Rattle.dd_catalogue.specs.Versions.{versions_ordered}
use Rattle.dd_catalogue.proofs.Again.{harmony_again_is_same}
use Rattle.dd_catalogue.proofs.BestMembers.{best_of_same}
use Rattle.dd_catalogue.proofs.FreeMembers.{kept_of_same}
use Rattle.dd_catalogue.proofs.Harmonies.{harmonised_rises}
use Rattle.dd_catalogue.proofs.Members.{contained}
use Rattle.dd_dir.specs.declared.own_fault.OwnFault.{OwnFault}
use Rattle.dd_dir.specs.Deriving.{harmony_label}
use Rattle.dd_dir.specs.Directories.{directory, directory_of}
use Rattle.dd_dir.specs.Own.{Listed, own}
use Rattle.dd_dir.specs.OwnVersions.{version_of}
use Rattle.dd_dir.specs.SaysItself.{SaysItself}
use Rattle.dd_dir.specs.Withdrawn.{AreRisingUids}
use Rattle.dd_walk.specs.WithdrawnPieces.{withdrawn_of}
use Rattle.dd_elem.specs.Ordered.{bytes_cmp}
use Rattle.dd_engine.specs.declared.choice.Choice.{Choice}
use Rattle.dd_engine.specs.Choosing.{label_for, uid_by}
use Rattle.dd_engine.specs.Merging.{IsOwn, SetListing}
use Rattle.dd_files.specs.Files.{Held}
use Rattle.dd_version.specs.declared.parts.Parts.{Parts}
use Rattle.dd_line.specs.declared.line.Verb.{Verb}
use Rattle.dd_line.specs.declared.line.Verb.TheVariants.{Merge}
use Rattle.dicomdir_laws.proofs.KeptListed.{one_list, takes, text_of}
use Rattle.dicomdir_laws.proofs.OnePaths.{one_directory}
use Rattle.dicomdir_laws.specs.Headline.{AreGivenFolders, LeaveOneDirectory, LeavesDirectory, Lists, Makes, MergesCopies}
use Rattle.dicomdir_laws.specs.Headline.{Names, OneSetSays, folder_for}
use Rattle.dicomdir.specs.Lines.{choice_of}
use Rattle.dd_inspecting.specs.Directories.{HasDirectory}

-- ---- a catalogue in harmony

left_agreed : (m n : List Parts) (w : List (List ℕ)) → left_of (map (agreed m) n) w ≡ map (agreed m) (left_of n w)
left_agreed m [] w = refl
left_agreed m (v ∷ n) w = by_test (is_free bytes_cmp w v.instance)
    (λ e. rw e (ap (λ (l : List Parts). agreed m v ∷ l) (left_agreed m n w)))
    (λ e. rw e (left_agreed m n w))

same_uid : (uid : Option (List ℕ)) (id : List ℕ) (m n : List Parts) (w : List (List ℕ)) → harmonised m ≡ harmonised n
    → uid_by uid id m w ≡ uid_by uid id n w
same_uid None id m n w one = ap (λ (l : List Parts). (harmony_label id l w).uid) one
same_uid (Some uid) id m n w one = refl

-- it has the directory that it has out of harmony
pub text_again : (choice : Choice) (m : List Parts) (w : List (List ℕ))
    → directory (label_for choice (harmonised m) w) (harmonised m) w ≡ directory (label_for choice m w) m w
text_again choice m w =
    let one = harmony_again_is_same m in
    ap₂ (λ (uid : List ℕ) (l : List Parts). directory_of (record { id = choice.id; uid = uid }) l w)
    (same_uid choice.uid choice.id (harmonised m) m w one) one

-- what is held of it and of the withdrawn UIDs
held_again : (taken other : Contents) (s : List Parts)
    → SameMembers s (harmonised (held_of taken).versions) → SameMembers other.versions s
    → SameMembers other.withdrawn (held_of taken).withdrawn
    → held_of other ≡ record { versions = harmonised (held_of taken).versions; withdrawn = (held_of taken).withdrawn }
held_again taken other s in_harmony versions withdrawn =
    let m = (held_of taken).versions in
    let w = (held_of taken).withdrawn in
    let is = held_is_held taken in
    let free : left_of (harmonised m) w ≡ harmonised m = left_agreed m m w ∙ ap (map (agreed m)) is.apart in
    same_contents (held_of other) (record { versions = harmonised m; withdrawn = w })
    (kept_of_same versions_ordered uids_ordered other.versions s other.withdrawn w versions withdrawn
    ∙ kept_of_same versions_ordered uids_ordered s (harmonised m) w w in_harmony (λ uid. (λ h. h, λ h. h))
    ∙ kept_itself versions_ordered (harmonised m) w (harmonised_rises m is.versions) free)
    (best_of_same uids_ordered other.withdrawn w withdrawn ∙ best_of_rising uids_ordered w is.withdrawn)

-- ---- what the sets say

same_images : (all : Result (List Listed) OwnFault) (images others : List Listed) → all ≡ Ok images → all ≡ Ok others
    → images ≡ others
same_images all images others one two = cc

module _ (m : List Parts) (w : List (List ℕ)) (text : List ℕ) (says : SaysItself m w text) where
  abbrev said_of : SetListing
  said_of = record { images = says.images; withdrawn = withdrawn_of says.walk; unreached = says.walk.unreached }

  own_said : IsOwn text said_of
  own_said = record {
    walk = says.walk;
    is_walk = says.is_walk;
    names = refl;
    rising = subst AreRisingUids (sym says.names) says.rising;
    lists = says.lists;
    unreached = refl;
  }

  images_are : (listing : SetListing) → IsOwn text listing → listing.images ≡ says.images
  images_are listing is = same_images (own says.walk) listing.images says.images
      (ap own (sym (says.only is.walk is.is_walk)) ∙ is.lists) says.lists

  names_are : (listing : SetListing) → IsOwn text listing → listing.withdrawn ≡ w
  names_are listing is = sym is.names ∙ ap withdrawn_of (says.only is.walk is.is_walk) ∙ says.names

  module _ (folders : List Text) (held : Held) (some : folders ≢ [])
      (each : (folder : Text) → Contains folders folder → HasDirectory folder text (Some held)) where
    text_said : (Says : SetListing → Type 0) (one : OneSetSays folders held Says) → IsOwn text one.listing
    text_said Says one = subst (λ (b : List ℕ). IsOwn b one.listing)
        (one_directory one.folder one.bytes text held one.directory (each one.folder one.among)) one.own

    first_says : (Says : SetListing → Type 0) → Says said_of → OneSetSays folders held Says
    first_says Says holds = by folders some each where
      by : (names : List Text) → names ≢ []
          → ((folder : Text) → Contains names folder → HasDirectory folder text (Some held))
          → OneSetSays names held Says
      by [] nothing all = absurd (nothing refl)
      by (folder ∷ more) nothing all =
          let among = contained folder (folder ∷ more) (inl refl) in
          record {
            folder = folder;
            among = among;
            bytes = text;
            directory = all folder among;
            listing = said_of;
            own = own_said;
            says = holds;
          }

    version_said : (version : Parts) → OneSetSays folders held (Lists version)
        → Contains (map version_of says.images) version
    version_said version one = subst (λ (l : List Listed). Contains (map version_of l) version)
        (images_are one.listing (text_said (Lists version) one)) one.says

    uid_said : (uid : List ℕ) → OneSetSays folders held (Names uid) → Contains w uid
    uid_said uid one = subst (λ (l : List (List ℕ)). Contains l uid)
        (names_are one.listing (text_said (Names uid) one)) one.says

-- ---- the law

-- OUT is one folder, with one directory
pub one_left : (verb : Verb) (given : List Row) (bytes other : List ℕ) (held : Held)
    → LeavesDirectory verb given bytes held → LeavesDirectory verb given other held → bytes ≡ other
one_left verb given bytes other held one two =
    let same : one.folder ≡ two.folder = same_head one.folder two.folder (sym one.out ∙ two.out) in
    one_directory (folder_for verb given two.folder) bytes other held
    (subst (λ (f : List ℕ). HasDirectory (folder_for verb given f) bytes (Some held)) same one.stands) two.stands
  where
    same_head : (one two : Text) → one ∷ [] ≡ two ∷ [] → one ≡ two
    same_head one two is = cc

pub merged_again : (verb : Verb) (given others : List Row) (old new first last : Held) → Makes verb given old new
    → Makes Merge others first last → choice_of given ≡ choice_of others → MergesCopies verb given others new first
    → LeaveOneDirectory verb Merge given others new last
merged_again verb given others old new first last made also choice copies =
    let one = takes verb given old new made in
    let two = takes Merge others first last also in
    let text = text_of (choice_of given) one.taken in
    let m = (held_of one.taken).versions in
    let w = (held_of one.taken).withdrawn in
    let says = one.has.again in
    let bytes : copies.bytes ≡ text = one_left verb given copies.bytes text new copies.left one.has.leaves in
    let each : (folder : Text) → Contains copies.folders folder → HasDirectory folder text (Some first) =
    λ folder among. subst (λ (b : List ℕ). HasDirectory folder b (Some first)) bytes (copies.each folder among) in
    let folders : (names : List Text) → AreGivenFolders others first names → names ≡ copies.folders =
    λ names are. one_list _ _ _ names copies.folders first are copies.are in
    let versions : SameMembers two.taken.versions (map version_of says.images) = λ version. (
      λ held. (let s = (two.is.versions version).0 held in
          version_said m w text says copies.folders first copies.some each version
          (subst (λ (names : List Text). OneSetSays names first (Lists version)) (folders s.0 s.1) s.2)),
      λ listed. (two.is.versions version).1 (
        copies.folders,
        copies.are,
        first_says m w text says copies.folders first copies.some each (Lists version) listed,
      ),
    ) in
    let withdrawn : SameMembers two.taken.withdrawn w = λ uid. (
      λ held. (let s = (two.is.withdrawn uid).0 held in
          uid_said m w text says copies.folders first copies.some each uid
          (subst (λ (names : List Text). OneSetSays names first (Names uid)) (folders s.0 s.1) s.2)),
      λ named. (two.is.withdrawn uid).1 (
        copies.folders,
        copies.are,
        first_says m w text says copies.folders first copies.some each (Names uid)
            (subst (λ (l : List (List ℕ)). Contains l uid) (sym says.names) named),
      ),
    ) in
    let held = held_again one.taken two.taken (map version_of says.images) says.versions versions withdrawn in
    let texts : text_of (choice_of others) two.taken ≡ text =
    ap₂ (λ (c : Choice) (h : Contents). directory (label_for c h.versions h.withdrawn) h.versions h.withdrawn)
    (sym choice) held ∙ text_again (choice_of given) m w in (
      text,
      one.has.leaves,
      subst (λ (b : List ℕ). LeavesDirectory Merge others b last) texts two.has.leaves,
    )
