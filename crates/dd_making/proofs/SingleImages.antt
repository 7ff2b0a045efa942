-- The directories of single images: none is refused, and together they list the versions of all.
use Rattle.std.specs.Prelude.{◌≡◌, ◌<◌, ℕ, zero, suc, Bool, true, false, List, [], ◌∷◌, ◌++◌, length, map, get_or, None, Some}
use Rattle.std.specs.Prelude.{Result, Ok, Err}
use Rattle.std.specs.Ordering.{is_eq, is_lt}
use Rattle.std.specs.declared.cmp.Ordering.{Ordering}
use Rattle.std.proofs.Common.{refl, sym, ◌∙◌, ap, ap₂, subst, arith}
use Rattle.std.proofs.lemmas.List.{map-append}
use Rattle.dd_elem.specs.Ordered.{bytes_cmp}
use Rattle.dd_version.specs.Orders.{patient_cmp, series_cmp, study_cmp}
use Rattle.dd_version.specs.declared.parts.Parts.{Parts}
use Rattle.dd_catalogue.specs.Best.{greater}
use Rattle.dd_catalogue.specs.BestLaws.{best_left, best_right}
use Rattle.dd_catalogue.specs.Contents.{Contents, kept_of, uids_of}
use Rattle.dd_catalogue.specs.Harmony.{greatest_like, harmonised, patient_key, patient_of, series_key, series_of, study_key}
use Rattle.dd_catalogue.specs.Harmony.{study_of}
use Rattle.dd_catalogue.specs.Histories.{together}
use Rattle.dd_catalogue.specs.Versions.{best_of, versions_ordered}
use Rattle.dd_catalogue.proofs.Held.{left_of_none}
use Rattle.dd_layout.specs.Layouts.{Layout, layout_of}
use Rattle.dd_layout.specs.Limits.{Limits}
use Rattle.dd_layout.specs.declared.fault.PlanFault.{PlanFault}
use Rattle.dd_dir.specs.declared.own_fault.OwnFault.{OwnFault}
use Rattle.dd_dir.specs.declared.own_fault.OwnFault.TheVariants.{BadWithdrawal}
use Rattle.dd_dir.specs.Directories.{directory_of}
use Rattle.dd_dir.specs.Own.{Listed, own}
use Rattle.dd_dir.specs.OwnVersions.{FailsOwn, version_of}
use Rattle.dd_walk.specs.Reading.{Refuses}
use Rattle.dd_dir.specs.SaysItself.{SaysItself}
use Rattle.dd_walk.specs.Trees.{Walk}
use Rattle.dd_dir.specs.Withdrawn.{AreRisingUids}
use Rattle.dd_walk.specs.WithdrawnPieces.{withdrawn_of}
use Rattle.dd_walk.proofs.WalkFiles.{walk_or_not}
use Rattle.dd_engine.specs.declared.choice.Choice.{Choice}
use Rattle.dd_engine.specs.declared.engine.Indexed.{Indexed}
use Rattle.dd_sources.specs.declared.engine_fault.EngineFault.{EngineFault}
use Rattle.dd_sources.specs.declared.engine_fault.EngineFault.TheVariants as engine
use Rattle.dd_engine.specs.declared.merge.Merged.{Merged}
use Rattle.dd_engine.specs.declared.merge_fault.MergeFault.{MergeFault}
use Rattle.dd_engine.specs.declared.merge_fault.MergeFault.TheVariants as merge
use Rattle.dd_engine.specs.Choosing.{label_for, refusal_for}
use Rattle.dd_engine.specs.Indexed.{Indexes}
use Rattle.dd_keys.specs.Sources.{Answer}
use Rattle.dd_sources.specs.Indexing.{accepted, best_of_sources, versions_of}
use Rattle.dd_engine.specs.Merging.{AreOwn, IsFirst, IsForeign, IsOwn, Merges, SetListing, held_in, numbered, versions_in}
use Rattle.dd_engine.specs.Merging.{withdrawn_in}
use Rattle.dd_engine.specs.SameVersions.{AreSamePlans}
use Rattle.dd_making.specs.Indexes.{AreOfSources, AreOfVersions, PlansAgree}

-- ---- a version alone is in harmony

greater_same : {T : Type 0} (order : T → T → Ordering) (t : T) → greater order t t ≡ t
greater_same order t = by (is_lt (order t t)) refl where
  by : (b : Bool) → is_lt (order t t) ≡ b → greater order t t ≡ t
  by true e = rw e refl
  by false e = rw e refl

greatest_alone : {T : Type 0} (tuple : Parts → T) (key : T → List ℕ) (order : T → T → Ordering) (v : Parts)
    → greatest_like tuple key order (v ∷ []) v ≡ tuple v
greatest_alone tuple key order v = by (is_eq (bytes_cmp (key (tuple v)) (key (tuple v)))) refl where
  by : (b : Bool) → is_eq (bytes_cmp (key (tuple v)) (key (tuple v))) ≡ b
      → greatest_like tuple key order (v ∷ []) v ≡ tuple v
  by true e = rw e (greater_same order (tuple v))
  by false e = rw e refl

pub harmony_alone : (v : Parts) → harmonised (v ∷ []) ≡ v ∷ []
harmony_alone v =
    rw (
      greatest_alone patient_of patient_key patient_cmp v,
      greatest_alone study_of study_key study_cmp v,
      greatest_alone series_of series_key series_cmp v,
    ) refl

-- ---- a set that is the directory of a version is not refused

says_at : (versions : List Parts) (sets : List (List ℕ)) (at : ℕ) → AreOfVersions versions sets → at < length sets
    → (v : Parts) × SaysItself (v ∷ []) [] (get_or sets at [])
says_at versions [] at of below = absurd (omega arith)
says_at [] (set ∷ sets) at of below = absurd of
says_at (v ∷ versions) (set ∷ sets) zero of below = (v, of.0.says)
says_at (v ∷ versions) (set ∷ sets) (suc at) of below = says_at versions sets at of.1 (omega arith)

is_directory : (versions : List Parts) (sets : List (List ℕ)) (at : ℕ) (fault : _) → AreOfVersions versions sets
    → IsFirst (λ set. Refuses set fault) sets at → ⊥
is_directory versions sets at fault of first =
    let says = says_at versions sets at of first.below in
    walk_or_not (get_or sets at []) says.1.walk fault says.1.is_walk first.fails

listed_or_not : (all : Result (List Listed) OwnFault) (images : List Listed) (fault : OwnFault) → all ≡ Ok images
    → all ≡ Err fault → ⊥
listed_or_not all images fault a b = cc

record_fails : (walk : Walk) (fault : OwnFault) → AreRisingUids (withdrawn_of walk) → FailsOwn walk fault
    → own walk ≡ Err fault
record_fails walk BadWithdrawal rising fails = absurd (fails rising)
record_fails walk fault rising fails = fails.1

is_own : (versions : List Parts) (sets : List (List ℕ)) (at : ℕ) (fault : OwnFault) → AreOfVersions versions sets
    → IsFirst (λ set. IsForeign set fault) sets at → ⊥
is_own versions sets at fault of first =
    let says = says_at versions sets at of first.below in
    let foreign = first.fails in
    let one = says.1.only foreign.walk foreign.is_walk in
    let rising = subst (λ u. AreRisingUids u) (sym (ap withdrawn_of one ∙ says.1.names)) says.1.rising in
    listed_or_not (own says.1.walk) says.1.images fault says.1.lists
    (ap own (sym one) ∙ record_fails foreign.walk fault rising foreign.fails)

-- ---- what it lists

same_listed : (all : Result (List Listed) OwnFault) (images others : List Listed) → all ≡ Ok images → all ≡ Ok others
    → others ≡ images
same_listed all images others a b = cc

lists_version : (v : Parts) (set : List ℕ) (listing : SetListing) → SaysItself (v ∷ []) [] set → IsOwn set listing
    → best_of (map version_of listing.images) ≡ v ∷ []
lists_version v set listing says listed =
    ap (λ (l : List Listed). best_of (map version_of l)) (same_listed (own says.walk) says.images listing.images
    says.lists (ap own (sym (says.only listed.walk listed.is_walk)) ∙ listed.lists))
    ∙ says.best ∙ harmony_alone v

abbrev by_set : List SetListing → List (List Parts)
by_set listings = map (λ listing. map version_of listing.images) listings

abbrev alone : List Parts → List (List Parts)
alone versions = map (λ v. v ∷ []) versions

list_versions : (versions : List Parts) (sets : List (List ℕ)) (listings : List SetListing)
    → AreOfVersions versions sets → AreOwn sets listings → map (λ s. best_of s) (by_set listings) ≡ alone versions
list_versions [] [] [] of listed = refl
list_versions [] [] (first ∷ listings) of listed = absurd listed
list_versions [] (set ∷ sets) listings of listed = absurd of
list_versions (v ∷ versions) [] listings of listed = absurd of
list_versions (v ∷ versions) (set ∷ sets) [] of listed = absurd listed
list_versions (v ∷ versions) (set ∷ sets) (first ∷ listings) of listed =
    ap₂ (λ (s : List Parts) (l : List (List Parts)). s ∷ l) (lists_version v set first of.0.says listed.0)
    (list_versions versions sets listings of.1 listed.1)

none_withdrawn : (versions : List Parts) (sets : List (List ℕ)) (listings : List SetListing)
    → AreOfVersions versions sets → AreOwn sets listings → withdrawn_in listings ≡ []
none_withdrawn [] [] [] of listed = refl
none_withdrawn [] [] (first ∷ listings) of listed = absurd listed
none_withdrawn [] (set ∷ sets) listings of listed = absurd of
none_withdrawn (v ∷ versions) [] listings of listed = absurd of
none_withdrawn (v ∷ versions) (set ∷ sets) [] of listed = absurd listed
none_withdrawn (v ∷ versions) (set ∷ sets) (first ∷ listings) of listed =
    let says = of.0.says in
    ap₂ (λ (a b : List (List ℕ)). a ++ b)
    (sym listed.0.names ∙ ap withdrawn_of (says.only listed.0.walk listed.0.is_walk) ∙ says.names)
    (none_withdrawn versions sets listings of.1 listed.1)

-- ---- all together

twice : (at : ℕ) (images : List Listed)
    → map (λ (i : ℕ × Listed). version_of i.1) (map (λ image. (at, image)) images) ≡ map version_of images
twice at [] = refl
twice at (image ∷ images) = ap (λ (l : List Parts). version_of image ∷ l) (twice at images)

numbered_together : (at : ℕ) (listings : List SetListing)
    → versions_in (numbered at listings) ≡ together (by_set listings)
numbered_together at [] = refl
numbered_together at (first ∷ listings) =
    map-append (λ (i : ℕ × Listed). version_of i.1) (map (λ image. (at, image)) first.images)
    (numbered (suc at) listings)
    ∙ ap₂ (λ (a b : List Parts). a ++ b) (twice at first.images) (numbered_together (suc at) listings)

best_together : (sets : List (List Parts))
    → best_of (together (map (λ s. best_of s) sets)) ≡ best_of (together sets)
best_together [] = refl
best_together (set ∷ sets) =
    best_left versions_ordered set (together (map (λ s. best_of s) sets))
    ∙ sym (best_right versions_ordered set (together (map (λ s. best_of s) sets)))
    ∙ ap (λ (l : List Parts). best_of (set ++ l)) (best_together sets)
    ∙ best_right versions_ordered set (together sets)

all_alone : (versions : List Parts) → together (alone versions) ≡ versions
all_alone [] = refl
all_alone (v ∷ versions) = ap (λ (l : List Parts). v ∷ l) (all_alone versions)

module _ (versions : List Parts) (sets : List (List ℕ)) (listings : List SetListing)
    (of : AreOfVersions versions sets) (listed : AreOwn sets listings) where
  best_listed : best_of (versions_in (numbered 0 listings)) ≡ best_of versions
  best_listed =
      ap best_of (numbered_together 0 listings) ∙ sym (best_together (by_set listings))
      ∙ ap (λ (l : List (List Parts)). best_of (together l)) (list_versions versions sets listings of listed)
      ∙ ap best_of (all_alone versions)

  pub held_alone : held_in [] listings ≡ record { versions = best_of versions; withdrawn = [] }
  held_alone =
      let all = versions_in (numbered 0 listings) in
      let none = none_withdrawn versions sets listings of listed in
      ap (λ (w : List (List ℕ)). record { versions = kept_of all w; withdrawn = uids_of w }) none
      ∙ ap (λ (l : List Parts). record { versions = l; withdrawn = [] })
      (ap best_of (left_of_none all) ∙ best_listed)

-- ---- the plans

module _ (choice : Choice) (limits : Limits) where
  abbrev laid : Contents → Layout
  laid h = layout_of (label_for choice h.versions h.withdrawn) h.versions h.withdrawn

  same_layouts : (one other : Layout) → one ≡ other → AreSamePlans one other
  same_layouts one other is = record {
    plan = is;
    directory = ap (λ (l : Layout). directory_of l.label l.versions l.withdrawn) is;
  }

  refused : (h k : Contents) (fault : PlanFault) → h ≡ k → refusal_for choice limits h.versions h.withdrawn ≡ None
      → refusal_for choice limits k.versions k.withdrawn ≡ Some fault → ⊥
  refused h k fault is none some =
      let both : None ≡ Some fault =
      sym none ∙ ap (λ (c : Contents). refusal_for choice limits c.versions c.withdrawn) is ∙ some in cc

  one_fault : (h k : Contents) (fault other : PlanFault) → h ≡ k
      → refusal_for choice limits h.versions h.withdrawn ≡ Some fault
      → refusal_for choice limits k.versions k.withdrawn ≡ Some other → fault ≡ other
  one_fault h k fault other is first second =
      let both : Some fault ≡ Some other =
      sym first ∙ ap (λ (c : Contents). refusal_for choice limits c.versions c.withdrawn) is ∙ second in cc

  module _ (answers : List Answer) (sets : List (List ℕ)) (of : AreOfSources answers sets) where
    abbrev indexed_of : Contents
    indexed_of = record { versions = best_of_sources (accepted answers); withdrawn = [] }

    same_held : (listings : List SetListing) → AreOwn sets listings → held_in [] listings ≡ indexed_of
    same_held listings listed = held_alone (versions_of (accepted answers)) sets listings of listed

    pub plans_agree : (indexed : Result Indexed EngineFault) (merged : Result Merged MergeFault)
        → Indexes choice limits answers indexed → Merges choice limits [] sets merged → PlansAgree indexed merged
    plans_agree indexed (Err (merge.Dir at fault)) a b =
        is_directory (versions_of (accepted answers)) sets at fault of b
    plans_agree indexed (Err (merge.Own at fault)) a b =
        is_own (versions_of (accepted answers)) sets at fault of b
    plans_agree indexed (Err merge.Memory) a b = tt
    plans_agree (Ok indexed) (Ok merged) a b =
        same_layouts indexed.plan merged.plan
        (a.plan ∙ sym (ap (λ (h : Contents). laid h) (same_held b.0 b.1)) ∙ sym b.2.plan)
    plans_agree (Ok indexed) (Err (merge.Plan fault)) a b =
        refused indexed_of (held_in [] b.0) fault (sym (same_held b.0 b.1)) a.allowed b.2
    plans_agree (Err (engine.Plan fault)) (Ok merged) a b =
        refused (held_in [] b.0) indexed_of fault (same_held b.0 b.1) b.2.allowed a
    plans_agree (Err (engine.Plan fault)) (Err (merge.Plan other)) a b =
        one_fault indexed_of (held_in [] b.0) fault other (sym (same_held b.0 b.1)) a b.2
    plans_agree (Err engine.Memory) (Ok merged) a b = tt
    plans_agree (Err (engine.Absent at)) (Ok merged) a b = tt
    plans_agree (Err (engine.Unread at)) (Ok merged) a b = tt
    plans_agree (Err engine.Memory) (Err (merge.Plan other)) a b = tt
    plans_agree (Err (engine.Absent at)) (Err (merge.Plan other)) a b = tt
    plans_agree (Err (engine.Unread at)) (Err (merge.Plan other)) a b = tt
