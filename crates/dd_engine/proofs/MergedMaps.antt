-- Sets that are the directories of catalogues: none is refused. Where the catalogues agree in pairs, what is held of
-- all that the sets list has the images of the catalogue that joins these. In harmony it is that catalogue where no
-- version is withdrawn.
use Rattle.std.specs.Prelude.{◌≡◌, ◌<◌, ℕ, zero, suc, List, [], ◌∷◌, ◌++◌, length, map, get_or, IfOk}
use Rattle.std.specs.Prelude.{Result, Ok, Err}
use Rattle.std.proofs.Common.{refl, sym, ◌∙◌, ap, ap₂, subst, arith}
use Rattle.std.proofs.lemmas.List.{map-append}
use Rattle.dd_catalogue.specs.BestLaws.{best_left, best_right}
use Rattle.dd_catalogue.specs.Contents.{Contents, kept_of, uids_of}
use Rattle.dd_catalogue.specs.Harmony.{harmonised}
use Rattle.dd_catalogue.specs.Histories.{all_together, together}
use Rattle.dd_catalogue.specs.Versions.{best_of, versions_ordered}
use Rattle.dd_catalogue.proofs.Agreements.{merged_harmonies_are_merged_sets}
use Rattle.dd_dir.specs.declared.own_fault.OwnFault.{OwnFault}
use Rattle.dd_dir.specs.declared.own_fault.OwnFault.TheVariants.{BadWithdrawal}
use Rattle.dd_dir.specs.Own.{Listed, own}
use Rattle.dd_dir.specs.OwnVersions.{FailsOwn, version_of}
use Rattle.dd_walk.specs.Reading.{Refuses}
use Rattle.dd_dir.specs.SaysItself.{SaysItself}
use Rattle.dd_walk.specs.Trees.{Walk}
use Rattle.dd_dir.specs.Withdrawn.{AreRisingUids}
use Rattle.dd_walk.specs.WithdrawnPieces.{withdrawn_of}
use Rattle.dd_walk.proofs.WalkFiles.{walk_or_not}
use Rattle.dd_version.specs.declared.parts.Parts.{Parts}
use Rattle.dd_layout.specs.Limits.{Limits}
use Rattle.dd_layout.specs.Layouts.{Layout}
use Rattle.dd_engine.specs.declared.choice.Choice.{Choice}
use Rattle.dd_engine.specs.declared.merge.Merged.{Merged}
use Rattle.dd_engine.specs.declared.merge_fault.MergeFault.{MergeFault}
use Rattle.dd_engine.specs.declared.merge_fault.MergeFault.TheVariants.{Dir, Own, Plan, Memory}
use Rattle.dd_engine.specs.Merging.{AreOwn, IsFirst, IsForeign, IsOwn, Merges, SetListing, held_in, numbered}
use Rattle.dd_engine.specs.Merging.{versions_in, withdrawn_in}
use Rattle.dd_engine.specs.Published.{ArePublished, MapsAgree, MergesMaps, NoneWithdrawn, PlansImages, filed_as, joined}
use Rattle.dd_engine.proofs.ImagePicks.{twice}
use Rattle.dd_engine.proofs.KeptImages.{filed_in_harmony, kept_filed, kept_harmony}
use Rattle.dd_engine.proofs.SamePlans.{one_refusal, same_plan}

-- ---- a set that was published is not refused

published_at : (sets : List (List ℕ)) (maps : List Contents) (at : ℕ) → ArePublished sets maps → at < length sets
    → (m : Contents) × SaysItself m.versions m.withdrawn (get_or sets at [])
published_at [] maps at published below = absurd (omega arith)
published_at (set ∷ sets) [] at published below = absurd published
published_at (set ∷ sets) (m ∷ maps) zero published below = (m, published.0)
published_at (set ∷ sets) (m ∷ maps) (suc at) published below = published_at sets maps at published.1 (omega arith)

is_directory : (sets : List (List ℕ)) (maps : List Contents) (at : ℕ) (fault : _)
    → ArePublished sets maps → IsFirst (λ set. Refuses set fault) sets at → ⊥
is_directory sets maps at fault published first =
    let says = published_at sets maps at published first.below in
    walk_or_not (get_or sets at []) says.1.walk fault says.1.is_walk first.fails

listed_or_not : (all : Result (List Listed) OwnFault) (images : List Listed) (fault : OwnFault) → all ≡ Ok images
    → all ≡ Err fault → ⊥
listed_or_not all images fault a b = cc

-- where what names the withdrawn UIDs passes its check, a record fails one
record_fails : (walk : Walk) (fault : OwnFault) → AreRisingUids (withdrawn_of walk) → FailsOwn walk fault
    → own walk ≡ Err fault
record_fails walk BadWithdrawal rising fails = absurd (fails rising)
record_fails walk fault rising fails = fails.1

is_own : (sets : List (List ℕ)) (maps : List Contents) (at : ℕ) (fault : OwnFault)
    → ArePublished sets maps → IsFirst (λ set. IsForeign set fault) sets at → ⊥
is_own sets maps at fault published first =
    let says = published_at sets maps at published first.below in
    let foreign = first.fails in
    let one = says.1.only foreign.walk foreign.is_walk in
    let rising = subst (λ u. AreRisingUids u) (sym (ap withdrawn_of one ∙ says.1.names)) says.1.rising in
    listed_or_not (own says.1.walk) says.1.images fault says.1.lists
    (ap own (sym one) ∙ record_fails foreign.walk fault rising foreign.fails)

-- ---- what a set that was published lists

same_listed : (all : Result (List Listed) OwnFault) (images others : List Listed) → all ≡ Ok images → all ≡ Ok others
    → others ≡ images
same_listed all images others a b = cc

lists_harmony : (m : Contents) (set : List ℕ) (listing : SetListing) → SaysItself m.versions m.withdrawn set
    → IsOwn set listing → best_of (map version_of listing.images) ≡ harmonised m.versions
lists_harmony m set listing says listed =
    ap (λ (l : List Listed). best_of (map version_of l)) (same_listed (own says.walk) says.images listing.images
    says.lists (ap own (sym (says.only listed.walk listed.is_walk)) ∙ listed.lists))
    ∙ says.best

lists_withdrawn : (m : Contents) (set : List ℕ) (listing : SetListing) → SaysItself m.versions m.withdrawn set
    → IsOwn set listing → listing.withdrawn ≡ m.withdrawn
lists_withdrawn m set listing says listed =
    sym listed.names ∙ ap withdrawn_of (says.only listed.walk listed.is_walk) ∙ says.names

-- the versions of the images of each set, and the versions of each catalogue
abbrev pub versions_by_set : List SetListing → List (List Parts)
versions_by_set listings = map (λ listing. map version_of listing.images) listings

abbrev versions_by_map : List Contents → List (List Parts)
versions_by_map maps = map (λ m. m.versions) maps

list_harmonies : (sets : List (List ℕ)) (maps : List Contents) (listings : List SetListing)
    → ArePublished sets maps → AreOwn sets listings
    → map (λ s. best_of s) (versions_by_set listings) ≡ map harmonised (versions_by_map maps)
list_harmonies [] [] [] published listed = refl
list_harmonies [] [] (first ∷ listings) published listed = absurd listed
list_harmonies [] (m ∷ maps) listings published listed = absurd published
list_harmonies (set ∷ sets) [] listings published listed = absurd published
list_harmonies (set ∷ sets) (m ∷ maps) [] published listed = absurd listed
list_harmonies (set ∷ sets) (m ∷ maps) (first ∷ listings) published listed =
    ap₂ (λ (s : List Parts) (l : List (List Parts)). s ∷ l)
    (lists_harmony m set first published.0 listed.0) (list_harmonies sets maps listings published.1 listed.1)

list_withdrawn : (sets : List (List ℕ)) (maps : List Contents) (listings : List SetListing)
    → ArePublished sets maps → AreOwn sets listings
    → withdrawn_in listings ≡ together (map (λ m. m.withdrawn) maps)
list_withdrawn [] [] [] published listed = refl
list_withdrawn [] [] (first ∷ listings) published listed = absurd listed
list_withdrawn [] (m ∷ maps) listings published listed = absurd published
list_withdrawn (set ∷ sets) [] listings published listed = absurd published
list_withdrawn (set ∷ sets) (m ∷ maps) [] published listed = absurd listed
list_withdrawn (set ∷ sets) (m ∷ maps) (first ∷ listings) published listed =
    ap₂ (λ (a b : List (List ℕ)). a ++ b)
    (lists_withdrawn m set first published.0 listed.0) (list_withdrawn sets maps listings published.1 listed.1)

-- ---- all together

pub numbered_together : (at : ℕ) (listings : List SetListing)
    → versions_in (numbered at listings) ≡ together (versions_by_set listings)
numbered_together at [] = refl
numbered_together at (first ∷ listings) =
    map-append (λ (i : ℕ × Listed). version_of i.1) (map (λ image. (at, image)) first.images)
    (numbered (suc at) listings)
    ∙ ap₂ (λ (a b : List Parts). a ++ b)
    (twice (λ (i : ℕ × Listed). version_of i.1) (λ image. (at, image)) first.images)
    (numbered_together (suc at) listings)

-- the best of the bests of sets is the best of all
best_together : (sets : List (List Parts))
    → best_of (together (map (λ s. best_of s) sets)) ≡ best_of (together sets)
best_together [] = refl
best_together (set ∷ sets) =
    best_left versions_ordered set (together (map (λ s. best_of s) sets))
    ∙ sym (best_right versions_ordered set (together (map (λ s. best_of s) sets)))
    ∙ ap (λ (l : List Parts). best_of (set ++ l)) (best_together sets)
    ∙ best_right versions_ordered set (together sets)

-- the best of all that the sets list is the best of all harmonies
listed_best : (sets : List (List ℕ)) (maps : List Contents) (listings : List SetListing)
    → ArePublished sets maps → AreOwn sets listings
    → best_of (versions_in (numbered 0 listings)) ≡ best_of (together (map harmonised (versions_by_map maps)))
listed_best sets maps listings published listed =
    ap best_of (numbered_together 0 listings) ∙ sym (best_together (versions_by_set listings))
    ∙ ap (λ (l : List (List Parts)). best_of (together l)) (list_harmonies sets maps listings published listed)

-- what is held of both, and what is withdrawn of it
module _ (given sets : List (List ℕ)) (maps : List Contents) (listings : List SetListing)
    (published : ArePublished sets maps) (agree : MapsAgree maps) (listed : AreOwn sets listings) where
  all_withdrawn : given ++ withdrawn_in listings ≡ given ++ (all_together maps).withdrawn
  all_withdrawn = ap (λ l. given ++ l) (list_withdrawn sets maps listings published listed)

  pub held_withdrawn : (held_in given listings).withdrawn ≡ (joined given maps).withdrawn
  held_withdrawn = ap uids_of all_withdrawn

  -- in harmony it is the same where no version is withdrawn
  pub held_harmony : NoneWithdrawn given maps
      → harmonised (held_in given listings).versions ≡ harmonised (joined given maps).versions
  held_harmony none =
      ap (λ w. harmonised (kept_of (versions_in (numbered 0 listings)) w)) all_withdrawn
      ∙ kept_harmony (versions_by_map maps) (versions_in (numbered 0 listings))
      (given ++ (all_together maps).withdrawn) agree (listed_best sets maps listings published listed) none

  -- and its images are the same
  pub held_images : map (λ v. filed_as v) (harmonised (held_in given listings).versions)
      ≡ map (λ v. filed_as v) (joined given maps).versions
  held_images =
      filed_in_harmony (held_in given listings).versions
      ∙ ap (λ w. map (λ v. filed_as v) (kept_of (versions_in (numbered 0 listings)) w)) all_withdrawn
      ∙ kept_filed (versions_in (numbered 0 listings)) (together (versions_by_map maps))
      (given ++ (all_together maps).withdrawn)
      (ap harmonised (listed_best sets maps listings published listed)
      ∙ merged_harmonies_are_merged_sets (versions_by_map maps) agree)

-- ---- the answer

pub merges_maps : (choice : Choice) (limits : Limits) (given sets : List (List ℕ)) (maps : List Contents)
    (result : Result Merged MergeFault) → Merges choice limits given sets result → ArePublished sets maps
    → MapsAgree maps → NoneWithdrawn given maps → MergesMaps choice limits (joined given maps) result
merges_maps choice limits given sets maps (Ok merged) (listings, listed, is) published agree none =
    let h = held_in given listings in
    let k = joined given maps in
    let one = held_harmony given sets maps listings published agree listed none in
    let also = held_withdrawn given sets maps listings published agree listed in (
      is.plan ∙ same_plan choice h.versions k.versions h.withdrawn k.withdrawn one also,
      sym (one_refusal choice limits h.versions k.versions h.withdrawn k.withdrawn one also) ∙ is.allowed,
    )
merges_maps choice limits given sets maps (Err (Dir at fault)) first published agree none =
    is_directory sets maps at fault published first
merges_maps choice limits given sets maps (Err (Own at fault)) first published agree none =
    is_own sets maps at fault published first
merges_maps choice limits given sets maps (Err (Plan fault)) (listings, listed, is) published agree none =
    let h = held_in given listings in
    let k = joined given maps in
    sym (one_refusal choice limits h.versions k.versions h.withdrawn k.withdrawn
    (held_harmony given sets maps listings published agree listed none)
    (held_withdrawn given sets maps listings published agree listed)) ∙ is
merges_maps choice limits given sets maps (Err Memory) is published agree none = tt

pub plans_images : (choice : Choice) (limits : Limits) (given sets : List (List ℕ)) (maps : List Contents)
    (result : Result Merged MergeFault) → Merges choice limits given sets result → ArePublished sets maps
    → MapsAgree maps → IfOk result (λ merged. PlansImages (joined given maps) merged.plan)
plans_images choice limits given sets maps (Ok merged) (listings, listed, is) published agree = record {
  images = ap (λ (l : Layout). map (λ v. filed_as v) l.versions) is.plan
      ∙ held_images given sets maps listings published agree listed;
  withdrawn = ap (λ (l : Layout). l.withdrawn) is.plan
      ∙ held_withdrawn given sets maps listings published agree listed;
}
plans_images choice limits given sets maps (Err fault) is published agree = tt
