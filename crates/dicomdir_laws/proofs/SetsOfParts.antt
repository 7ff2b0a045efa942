-- Sets with the directories of parts are merged to the directory of the whole.
use Rattle.std.proofs.Common.{◌≡◌, ◌∙◌, ℕ, List, [], ◌∷◌, Some, ap, ap₂, inl, inr, map, refl, subst, sym}
use Rattle.std.specs.Prelude.{◌↔◌, ◌++◌, Contains}
use Rattle.clap.specs.Words.{Row, Text}
use Rattle.dd_catalogue.specs.Best.{SameMembers}
use Rattle.dd_catalogue.specs.BestLaws.{best_left, best_right}
use Rattle.dd_catalogue.specs.Contents.{Contents, held_of}
use Rattle.dd_catalogue.specs.Harmony.{harmonised}
use Rattle.dd_catalogue.specs.Histories.{together}
use Rattle.dd_catalogue.specs.Versions.{best_of, versions_ordered}
use Rattle.dd_catalogue.proofs.Agreements.{in_together}
use Rattle.dd_catalogue.proofs.BestMembers.{best_is_best, best_of_same}
use Rattle.dd_catalogue.proofs.Members.{Member, contained, member_of}
use Rattle.dd_dir.specs.Directories.{directory}
use Rattle.dd_dir.specs.SaysItself.{SaysItself}
use Rattle.dd_engine.specs.declared.choice.Choice.{Choice}
use Rattle.dd_engine.specs.Choosing.{label_for}
use Rattle.dd_engine.specs.Merging.{numbered, versions_in, withdrawn_in}
use Rattle.dd_engine.specs.Published.{ArePublished, MapsAgree, NoneWithdrawn as NoneOfMaps, joined}
use Rattle.dd_engine.proofs.MergedMaps.{held_harmony, held_withdrawn}
use Rattle.dd_files.specs.Files.{Held}
use Rattle.dd_line.specs.declared.line.Verb.{Verb}
use Rattle.dd_line.specs.declared.line.Verb.TheVariants.{Merge}
use Rattle.dd_version.specs.declared.parts.Parts.{Parts}
use Rattle.dicomdir_laws.proofs.KeptListed.{all_left, has_taken, one_list, takes, text_of}
use Rattle.dicomdir_laws.proofs.OnePaths.{one_directory}
use Rattle.dicomdir_laws.proofs.SaidBySets.{at_end, in_either, in_front, twice}
use Rattle.dicomdir_laws.proofs.SetAgain.{one_left, text_again}
use Rattle.dicomdir_laws.specs.Headline.{IsSaidBy, IsSetOf, LeaveOneDirectory, LeavesDirectory, Makes, MergesParts}
use Rattle.dicomdir_laws.specs.Headline.{Run, SaysVersion}
use Rattle.dicomdir.specs.Lines.{choice_of}
use Rattle.dicomdir.specs.Merges.{AreDirectories}

-- ---- catalogues that withdraw nothing

no_members : {V : Type 0} (xs : List V) → ((v : V) → ¬ Contains xs v) → xs ≡ []
no_members [] none = refl
no_members (x ∷ xs) none = absurd (none x (contained x (x ∷ xs) (inl refl)))

abbrev best_only : List Parts → Contents
best_only s = record { versions = best_of s; withdrawn = [] }

holds_best : (taken : Contents) → taken.withdrawn ≡ [] → held_of taken ≡ best_only taken.versions
holds_best taken none =
    ap (λ (w : List (List ℕ)). held_of (record { versions = taken.versions; withdrawn = w })) none
    ∙ ap best_only (all_left taken.versions)

none_together : (sets : List (List Parts)) → together (map (λ (m : Contents). m.withdrawn) (map best_only sets)) ≡ []
none_together [] = refl
none_together (set ∷ sets) = none_together sets

-- ---- the best of bests

best_together : (sets : List (List Parts))
    → best_of (together (map (λ (s : List Parts). best_of s) sets)) ≡ best_of (together sets)
best_together [] = refl
best_together (set ∷ sets) =
    best_left versions_ordered set (together (map (λ (s : List Parts). best_of s) sets))
    ∙ sym (best_right versions_ordered set (together (map (λ (s : List Parts). best_of s) sets)))
    ∙ ap (λ (l : List Parts). best_of (set ++ l)) (best_together sets)
    ∙ best_right versions_ordered set (together sets)

-- what is best was there
best_among : (sets : List (List Parts)) (v : Parts)
    → Member v (together (map (λ (s : List Parts). best_of s) sets)) → Member v (together sets)
best_among [] v held = absurd held
best_among (set ∷ sets) v held =
    elim (in_either v (best_of set) (together (map (λ (s : List Parts). best_of s) sets)) held) [
      | inl here ↦ in_front v set (together sets) (member_of v set
          (((best_is_best versions_ordered set).each v).0 (contained v (best_of set) here)).member)
      | inr later ↦ at_end v set (together sets) (best_among sets v later)
    ]

-- ---- the parts

module _ (first : Held) (part : Text → Run) where
  abbrev RunSays : Text → Parts → Type 0
  RunSays folder v = SaysVersion (part folder).verb (part folder).given (part folder).old v

  -- what the runs took, and that the sets are its directories
  pub record AreParts (folders : List Text) (sets : List (List ℕ)) : Type 0 where
    pub taken : List (List Parts)
    pub published : ArePublished sets (map best_only taken)
    pub said : (v : Parts) → Member v (together taken) ↔ IsSaidBy folders part v

  later_said : (folder : Text) (folders : List Text) (v : Parts) → IsSaidBy folders part v
      → IsSaidBy (folder ∷ folders) part v
  later_said folder folders v (other, among, says) =
      (other, contained other (folder ∷ folders) (inr (member_of other folders among)), says)

  -- what one run took
  pub record IsPart (folder : Text) (set : List ℕ) : Type 0 where
    pub taken : List Parts
    pub says : SaysItself (best_of taken) [] set
    pub said : (v : Parts) → Contains taken v ↔ RunSays folder v

  is_part : (folder : Text) (set : List ℕ) → AreDirectories (folder ∷ []) (set ∷ []) (Some first)
      → IsSetOf (part folder) folder first → IsPart folder set
  is_part folder set dirs is =
      let run = part folder in
      let one = takes run.verb run.given run.old run.new is.makes in
      let none = no_members one.taken.withdrawn (λ uid among. is.none uid ((one.is.withdrawn uid).0 among)) in
      let bytes : text_of (choice_of run.given) one.taken ≡ set =
      one_left run.verb run.given _ is.bytes run.new one.has.leaves is.left
      ∙ one_directory folder is.bytes set first is.stands dirs.0 in
      record {
        taken = one.taken.versions;
        says = subst (λ (b : List ℕ). SaysItself (best_of one.taken.versions) [] b) bytes
            (subst (λ (h : Contents). SaysItself h.versions h.withdrawn (text_of (choice_of run.given) one.taken))
            (holds_best one.taken none) one.has.again);
        said = one.is.versions;
      }

  parts_of : (folders : List Text) (sets : List (List ℕ)) → AreDirectories folders sets (Some first)
      → ((folder : Text) → Contains folders folder → IsSetOf (part folder) folder first) → AreParts folders sets
  parts_of [] [] dirs each = record {
    taken = [];
    published = tt;
    said = λ v. (λ none. absurd none, λ says. absurd (member_of says.0 [] says.1));
  }
  parts_of [] (set ∷ sets) dirs each = absurd dirs
  parts_of (folder ∷ folders) [] dirs each = absurd dirs
  parts_of (folder ∷ folders) (set ∷ sets) dirs each =
      let here = contained folder (folder ∷ folders) (inl refl) in
      let one = is_part folder set (dirs.0, tt) (each folder here) in
      let more = parts_of folders sets dirs.1 (λ other among.
      each other (contained other (folder ∷ folders) (inr (member_of other folders among)))) in
      record {
        taken = one.taken ∷ more.taken;
        published = (one.says, more.published);
        said = λ v. (
          λ held. elim (in_either v one.taken (together more.taken) held) [
            | inl front ↦ (folder, here, (one.said v).0 (contained v one.taken front))
            | inr back ↦ later_said folder folders v ((more.said v).0 back)
          ],
          λ says. by v one more says.0 (member_of says.0 (folder ∷ folders) says.1) says.2,
        );
      }
    where
      by : (v : Parts) (one : IsPart folder set) (more : AreParts folders sets) (other : Text)
          → Member other (folder ∷ folders) → RunSays other v → Member v (one.taken ++ together more.taken)
      by v one more other (inl is) says = in_front v one.taken (together more.taken)
          (member_of v one.taken ((one.said v).1 (subst (λ (f : Text). RunSays f v) (sym is) says)))
      by v one more other (inr later) says = at_end v one.taken (together more.taken)
          ((more.said v).1 (other, contained other folders later, says))

-- ---- the law

same_text : (choice : Choice) (m n : List Parts) (w : List (List ℕ)) → harmonised m ≡ harmonised n → w ≡ []
    → directory (label_for choice m w) m w ≡ directory (label_for choice n []) n []
same_text choice m n w one none =
    sym (text_again choice m w)
    ∙ ap₂ (λ (l : List Parts) (u : List (List ℕ)). directory (label_for choice l u) l u) one none
    ∙ text_again choice n []

module _ (sets : List (List Parts)) (agree : (v w : Parts) → Member v (together sets) → Member w (together sets)
    → v.instance ≡ w.instance → v ≡ w) where
  abbrev maps : List Contents
  maps = map best_only sets

  versions_are : map (λ (m : Contents). m.versions) maps ≡ map (λ (s : List Parts). best_of s) sets
  versions_are = twice (λ (m : Contents). m.versions) best_only sets

  in_one : (v : Parts) (m : List Parts) → Contains (map (λ (m : Contents). m.versions) maps) m → Contains m v
      → Member v (together sets)
  in_one v m among held = best_among sets v (subst (λ (l : List (List Parts)). Member v (together l)) versions_are
      (in_together v m (map (λ (m : Contents). m.versions) maps)
      (member_of m (map (λ (m : Contents). m.versions) maps) among) (member_of v m held)))

  maps_agree : MapsAgree maps
  maps_agree m n one two v w here there same = agree v w (in_one v m one here) (in_one w n two there) same

  none_of_maps : NoneOfMaps [] maps
  none_of_maps v among withdrawn = member_of v.instance [] (subst (λ (l : List (List ℕ)). Contains l v.instance)
      (none_together sets) withdrawn)

  joined_is : joined [] maps ≡ best_only (together sets)
  joined_is =
      ap₂ (λ (l : List (List Parts)) (w : List (List ℕ)). held_of (record { versions = together l; withdrawn = w }))
      versions_are (none_together sets)
      ∙ holds_best (record { versions = together (map (λ (s : List Parts). best_of s) sets); withdrawn = [] }) refl
      ∙ ap (λ (l : List Parts). record { versions = l; withdrawn = [] }) (best_together sets)

pub merged_parts : (verb : Verb) (given others : List Row) (old new first last : Held)
    → Makes verb given old new → Makes Merge others first last → choice_of given ≡ choice_of others
    → MergesParts verb given others old first → LeaveOneDirectory verb Merge given others new last
merged_parts verb given others old new first last made also choice of =
    let one = takes verb given old new made in
    let mk = also.made in
    let taken : Contents =
    record { versions = versions_in (numbered 0 mk.listings); withdrawn = withdrawn_in mk.listings } in
    let two = has_taken _ _ _ Merge others also.folder mk.merged.plan mk.merged.picks.items first last taken
    also.new_set.out mk.is.plan mk.stands in
    let folders : also.folders ≡ of.folders = one_list _ _ _ also.folders of.folders first also.are of.are in
    let dirs : AreDirectories of.folders mk.sets (Some first) =
    subst (λ (l : List Text). AreDirectories l mk.sets (Some first)) folders mk.are in
    let parts = parts_of first of.part of.folders mk.sets dirs of.each in
    let all = together parts.taken in
    let agree : (v w : Parts) → Member v all → Member w all → v.instance ≡ w.instance → v ≡ w =
    λ v w here there same. of.agree v w ((of.all v).1 ((parts.said v).0 here)) ((of.all w).1 ((parts.said w).0 there))
    same in
    let maps = map best_only parts.taken in
    let joined_to = joined_is parts.taken agree in
    let harmony : harmonised (held_of taken).versions ≡ harmonised (best_of all) =
    held_harmony [] mk.sets maps mk.listings parts.published (maps_agree parts.taken agree) mk.own
    (none_of_maps parts.taken agree) ∙ ap (λ (h : Contents). harmonised h.versions) joined_to in
    let none : (held_of taken).withdrawn ≡ [] =
    held_withdrawn [] mk.sets maps mk.listings parts.published (maps_agree parts.taken agree) mk.own
    ∙ ap (λ (h : Contents). h.withdrawn) joined_to in
    let same : SameMembers one.taken.versions all = λ v. (
      λ held. contained v all ((parts.said v).1 ((of.all v).0 ((one.is.versions v).0 held))),
      λ held. (one.is.versions v).1 ((of.all v).1 ((parts.said v).0 (member_of v all held))),
    ) in
    let nothing = no_members one.taken.withdrawn (λ uid among. of.none uid ((one.is.withdrawn uid).0 among)) in
    let holds : held_of one.taken ≡ best_only all = holds_best one.taken nothing
    ∙ ap (λ (l : List Parts). record { versions = l; withdrawn = [] })
    (best_of_same versions_ordered one.taken.versions all same) in
    let texts : text_of (choice_of others) taken ≡ text_of (choice_of given) one.taken =
    same_text (choice_of others) (held_of taken).versions (best_of all) (held_of taken).withdrawn harmony none
    ∙ ap₂ (λ (c : Choice) (h : Contents). directory (label_for c h.versions h.withdrawn) h.versions h.withdrawn)
    (sym choice) (sym holds) in (
      text_of (choice_of given) one.taken,
      one.has.leaves,
      subst (λ (bytes : List ℕ). LeavesDirectory Merge others bytes last) texts two.leaves,
    )
