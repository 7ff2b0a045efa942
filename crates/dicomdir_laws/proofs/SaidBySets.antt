-- What the sets of a merge list and withdraw is what the directories in its folders say.
use Rattle.std.proofs.Common.{◌≡◌, ◌∙◌, ℕ, List, [], ◌∷◌, Some, Result, Ok, ap, ap₂, inl, inr, map, refl, subst, sym}
use Rattle.std.specs.Prelude.{◌⊎◌, ◌++◌, Contains, suc}
use Rattle.std.proofs.lemmas.List.{map-append}
use Rattle.clap.specs.Words.{Text}
use Rattle.dd_catalogue.specs.Histories.{together}
use Rattle.dd_catalogue.proofs.Members.{Member, contained, member_of}
use Rattle.dd_dir.specs.declared.own_fault.OwnFault.{OwnFault}
use Rattle.dd_dir.specs.Own.{Listed, own}
use Rattle.dd_dir.specs.OwnVersions.{version_of}
use Rattle.dd_walk.specs.WithdrawnPieces.{withdrawn_of}
use Rattle.dd_walk.proofs.WalkFiles.{one_walk}
use Rattle.dd_engine.specs.Merging.{AreOwn, IsOwn, SetListing, numbered, versions_in, withdrawn_in}
use Rattle.dd_files.specs.Files.{Held}
use Rattle.dd_version.specs.declared.parts.Parts.{Parts}
use Rattle.dicomdir_laws.proofs.OnePaths.{one_directory}
use Rattle.dicomdir_laws.specs.Headline.{Lists, Names, OneSetSays}
use Rattle.dicomdir.specs.Merges.{AreDirectories}
use Rattle.dd_inspecting.specs.Directories.{HasDirectory}

-- ---- a set lists one thing

same_images : (all : Result (List Listed) OwnFault) (images others : List Listed) → all ≡ Ok images → all ≡ Ok others
    → images ≡ others
same_images all images others one two = cc

module _ (set : List ℕ) (one other : SetListing) (first : IsOwn set one) (second : IsOwn set other) where
  one_versions : map version_of one.images ≡ map version_of other.images
  one_versions = ap (map version_of) (same_images (own first.walk) one.images other.images first.lists
      (ap own (sym (one_walk set first.walk second.walk first.is_walk second.is_walk)) ∙ second.lists))

  one_withdrawn : one.withdrawn ≡ other.withdrawn
  one_withdrawn =
      sym first.names
      ∙ ap withdrawn_of (sym (one_walk set first.walk second.walk first.is_walk second.is_walk)) ∙ second.names

-- ---- what the sets give, as members

pub in_front : {V : Type 0} (v : V) (xs ys : List V) → Member v xs → Member v (xs ++ ys)
in_front v [] ys held = absurd held
in_front v (x ∷ xs) ys (inl is) = inl is
in_front v (x ∷ xs) ys (inr later) = inr (in_front v xs ys later)

pub at_end : {V : Type 0} (v : V) (xs ys : List V) → Member v ys → Member v (xs ++ ys)
at_end v [] ys held = held
at_end v (x ∷ xs) ys held = inr (at_end v xs ys held)

pub in_either : {V : Type 0} (v : V) (xs ys : List V) → Member v (xs ++ ys) → Member v xs ⊎ Member v ys
in_either v [] ys held = inr held
in_either v (x ∷ xs) ys (inl is) = inl (inl is)
in_either v (x ∷ xs) ys (inr later) = by (in_either v xs ys later) where
  by : Member v xs ⊎ Member v ys → Member v (x ∷ xs) ⊎ Member v ys
  by (inl front) = inl (inr front)
  by (inr back) = inr back

-- what is given by each listing, where one set gives one thing
module _ {V : Type 0} (given : SetListing → List V)
    (one_given : (set : List ℕ) (one other : SetListing) → IsOwn set one → IsOwn set other → given one ≡ given other)
    (held : Held) (v : V) where
  abbrev all_given : List SetListing → List V
  all_given listings = together (map given listings)

  abbrev Gives : List Text → Type 0
  Gives folders = OneSetSays folders held (λ listing. Contains (given listing) v)

  later_gives : (folder : Text) (folders : List Text) → Gives folders → Gives (folder ∷ folders)
  later_gives folder folders says = record {
    folder = says.folder;
    among = contained says.folder (folder ∷ folders) (inr (member_of says.folder folders says.among));
    bytes = says.bytes;
    directory = says.directory;
    listing = says.listing;
    own = says.own;
    says = says.says;
  }

  said_of_given : (folders : List Text) (sets : List (List ℕ)) (listings : List SetListing)
      → AreDirectories folders sets (Some held) → AreOwn sets listings → Member v (all_given listings)
      → Gives folders
  said_of_given folders sets [] dirs owned member = absurd member
  said_of_given [] [] (first ∷ listings) dirs owned member = absurd owned
  said_of_given [] (set ∷ sets) (first ∷ listings) dirs owned member = absurd dirs
  said_of_given (folder ∷ folders) [] (first ∷ listings) dirs owned member = absurd dirs
  said_of_given (folder ∷ folders) (set ∷ sets) (first ∷ listings) dirs owned member =
      elim (in_either v (given first) (all_given listings) member) [
        | inl here ↦ record {
          folder = folder;
          among = contained folder (folder ∷ folders) (inl refl);
          bytes = set;
          directory = dirs.0;
          listing = first;
          own = owned.0;
          says = contained v (given first) here;
        }
        | inr later ↦ later_gives folder folders (said_of_given folders sets listings dirs.1 owned.1 later)
      ]

  given_of_said : (folders : List Text) (sets : List (List ℕ)) (listings : List SetListing)
      → AreDirectories folders sets (Some held) → AreOwn sets listings → (folder bytes : List ℕ) (listing : SetListing)
      → Member folder folders → HasDirectory folder bytes (Some held) → IsOwn bytes listing
      → Member v (given listing) → Member v (all_given listings)
  given_of_said [] sets listings dirs owned folder bytes listing among has is member = absurd among
  given_of_said (one ∷ folders) [] listings dirs owned folder bytes listing among has is member = absurd dirs
  given_of_said (one ∷ folders) (set ∷ sets) [] dirs owned folder bytes listing among has is member = absurd owned
  given_of_said (one ∷ folders) (set ∷ sets) (first ∷ more) dirs owned folder bytes listing (inl same) has is member =
      let here : HasDirectory folder set (Some held) =
      subst (λ (f : List ℕ). HasDirectory f set (Some held)) same dirs.0 in
      let bytes_are : bytes ≡ set = one_directory folder bytes set held has here in
      in_front v (given first) (all_given more)
      (subst (λ (l : List V). Member v l)
      (one_given set listing first (subst (λ (b : List ℕ). IsOwn b listing) bytes_are is) owned.0) member)
  given_of_said (one ∷ folders) (set ∷ sets) (first ∷ more) dirs owned folder bytes listing (inr later) has is member =
      at_end v (given first) (all_given more)
      (given_of_said folders sets more dirs.1 owned.1 folder bytes listing later has is member)

-- ---- the versions and the withdrawn UIDs

pub twice : {A B C : Type 0} (f : B → C) (g : A → B) (xs : List A) → map f (map g xs) ≡ map (λ x. f (g x)) xs
twice f g [] = refl
twice {C = C} f g (x ∷ xs) = ap (λ (l : List C). f (g x) ∷ l) (twice f g xs)

numbered_together : (at : ℕ) (listings : List SetListing)
    → versions_in (numbered at listings) ≡ together (map (λ listing. map version_of listing.images) listings)
numbered_together at [] = refl
numbered_together at (first ∷ listings) =
    map-append (λ (i : ℕ × Listed). version_of i.1) (map (λ image. (at, image)) first.images)
    (numbered (suc at) listings)
    ∙ ap₂ (λ (a b : List Parts). a ++ b)
    (twice (λ (i : ℕ × Listed). version_of i.1) (λ image. (at, image)) first.images)
    (numbered_together (suc at) listings)

module _ (held : Held) (folders : List Text) (sets : List (List ℕ)) (listings : List SetListing)
    (dirs : AreDirectories folders sets (Some held)) (owned : AreOwn sets listings) where
  pub listed_says : (version : Parts) → Member version (versions_in (numbered 0 listings))
      → OneSetSays folders held (Lists version)
  listed_says version member =
      said_of_given (λ listing. map version_of listing.images) one_versions held version folders sets listings dirs
      owned (subst (λ (l : List Parts). Member version l) (numbered_together 0 listings) member)

  pub says_listed : (version : Parts) → OneSetSays folders held (Lists version)
      → Member version (versions_in (numbered 0 listings))
  says_listed version says =
      subst (λ (l : List Parts). Member version l) (sym (numbered_together 0 listings))
      (given_of_said (λ listing. map version_of listing.images) one_versions held version folders sets listings dirs
      owned says.folder says.bytes says.listing (member_of says.folder folders says.among) says.directory says.own
      (member_of version (map version_of says.listing.images) says.says))

  pub named_says : (uid : List ℕ) → Member uid (withdrawn_in listings) → OneSetSays folders held (Names uid)
  named_says uid member = said_of_given (λ listing. listing.withdrawn) one_withdrawn held uid folders sets listings
      dirs owned member

  pub says_named : (uid : List ℕ) → OneSetSays folders held (Names uid) → Member uid (withdrawn_in listings)
  says_named uid says =
      given_of_said (λ listing. listing.withdrawn) one_withdrawn held uid folders sets listings dirs owned
      says.folder says.bytes says.listing (member_of says.folder folders says.among) says.directory says.own
      (member_of uid says.listing.withdrawn says.says)
