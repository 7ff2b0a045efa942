-- What merging the directories of catalogues answers, whatever the labels under which these were published.
use Rattle.std.specs.Prelude.{◌≡◌, ◌++◌, ℕ, List, [], ◌∷◌, Contains, map, None, Some, Result, Ok, Err}
use Rattle.dd_catalogue.specs.Agreement.{AllAgree}
use Rattle.dd_catalogue.specs.Contents.{Contents, held_of}
use Rattle.dd_catalogue.specs.Histories.{all_together}
use Rattle.dd_dir.specs.SaysItself.{SaysItself}
use Rattle.dd_version.specs.declared.parts.Parts.{Parts}
use Rattle.dd_layout.specs.Limits.{Limits}
use Rattle.dd_layout.specs.Layouts.{Layout, layout_of}
use Rattle.dd_layout.specs.Paths.{Path}
use Rattle.dd_layout.specs.Plans.{path_of}
use Rattle.dd_engine.specs.declared.choice.Choice.{Choice}
use Rattle.dd_engine.specs.declared.merge.Merged.{Merged}
use Rattle.dd_engine.specs.declared.merge_fault.MergeFault.{MergeFault}
use Rattle.dd_engine.specs.declared.merge_fault.MergeFault.TheVariants.{Dir, Own, Plan, Memory}
use Rattle.dd_engine.specs.Choosing.{label_for, refusal_for}

-- ---- catalogues that were published

-- each of these sets says what `publish` promises of its bytes where it is given the catalogue in that place
abbrev pub ArePublished : List (List ℕ) → List Contents → Type 0
ArePublished [] [] = Unit {0}
ArePublished [] (m ∷ maps) = ⊥
ArePublished (set ∷ sets) [] = ⊥
ArePublished (set ∷ sets) (m ∷ maps) = SaysItself m.versions m.withdrawn set × ArePublished sets maps

-- where two of the catalogues have one instance, they have one version of it
abbrev pub MapsAgree : List Contents → Type 0
MapsAgree maps = AllAgree (map (λ m. m.versions) maps)

-- of no version in these catalogues is the instance withdrawn, by one of them or by these UIDs
abbrev pub NoneWithdrawn : List (List ℕ) → List Contents → Type 0
NoneWithdrawn given maps = let all = all_together maps in
    (v : Parts) → Contains all.versions v → ¬ Contains (given ++ all.withdrawn) v.instance

-- what the catalogue holds that joins these, where these UIDs are withdrawn as well
abbrev pub joined : List (List ℕ) → List Contents → Contents
joined given maps = let all = all_together maps in
    held_of (record { versions = all.versions; withdrawn = given ++ all.withdrawn })

-- ---- what merging them answers

-- what the catalogue holds is laid out under the label that is asked for, or that is refused; the sets are not
abbrev pub MergesMaps : Choice → Limits → Contents → Result Merged MergeFault → Type 0
MergesMaps choice limits h (Ok merged) =
    (merged.plan ≡ layout_of (label_for choice h.versions h.withdrawn) h.versions h.withdrawn)
    × (refusal_for choice limits h.versions h.withdrawn ≡ None)
MergesMaps choice limits h (Err (Plan fault)) = refusal_for choice limits h.versions h.withdrawn ≡ Some fault
MergesMaps choice limits h (Err (Dir at fault)) = ⊥
MergesMaps choice limits h (Err (Own at fault)) = ⊥
MergesMaps choice limits h (Err Memory) = Unit {0}

-- the path of an image (PS3.3 section F.4), and the digest of its file
pub record Filed : Type 0 where
  pub path : Path
  pub digest : List ℕ

abbrev pub filed_as : Parts → Filed
filed_as version = record { path = path_of version; digest = version.digest }

-- the plan has the images that the catalogue holds, and withdraws what it has withdrawn
pub record PlansImages (h : Contents) (plan : Layout) : Type 0 where
  pub images : map (λ v. filed_as v) plan.versions ≡ map (λ v. filed_as v) h.versions
  pub withdrawn : plan.withdrawn ≡ h.withdrawn
