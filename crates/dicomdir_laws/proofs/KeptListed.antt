-- What a command that made its file-set has taken, and what its directory is then.
use Rattle.std.proofs.Common.{◌≡◌, ◌∙◌, ℕ, List, [], ◌∷◌, Option, None, Some}
use Rattle.std.proofs.Common.{ap, ap₂, inl, inr, refl, subst, sym}
use Rattle.std.specs.Prelude.{◌↔◌, ◌++◌, Bool, Contains}
use Rattle.std.proofs.lemmas.Option.{same_Some}
use Rattle.clap.specs.Words.{Row, Text}
use Rattle.dd_catalogue.specs.Best.{SameMembers}
use Rattle.dd_catalogue.specs.BestLaws.{rising-best}
use Rattle.dd_catalogue.specs.CatalogueJoin.{same_contents, uids_ordered}
use Rattle.dd_catalogue.specs.Contents.{Contents, held_of, left_of}
use Rattle.dd_catalogue.specs.Versions.{best_of, versions_ordered}
use Rattle.dd_catalogue.proofs.BestMembers.{best_of_same}
use Rattle.dd_catalogue.proofs.FreeMembers.{kept_of_same}
use Rattle.dd_catalogue.proofs.Members.{contained, member_of}
use Rattle.dd_dir.specs.Directories.{directory, directory_of}
use Rattle.dd_dir.specs.SaysItself.{SaysItself}
use Rattle.dd_dir.specs.Visits.{Realises}
use Rattle.dd_engine.specs.declared.choice.Choice.{Choice}
use Rattle.dd_engine.specs.Choosing.{label_for}
use Rattle.dd_sources.specs.Indexing.{accepted, versions_of}
use Rattle.dd_engine.specs.Merging.{numbered, versions_in, withdrawn_in}
use Rattle.dd_sources.specs.Readings.{answers_of}
use Rattle.dd_files.specs.Files.{Held}
use Rattle.dd_records.specs.declared.label.Label.{Label}
use Rattle.dd_layout.specs.Layouts.{Layout, layout_of}
use Rattle.dd_line.specs.Line.{given_for, instance_name, out_name, set_name}
use Rattle.dd_line.specs.Requests.{IsOnly}
use Rattle.dd_line.specs.declared.line.Verb.{Verb}
use Rattle.dd_line.specs.declared.line.Verb.TheVariants.{Check, Index, List as ListSet, Merge, Publish, Stage, Withdraw}
use Rattle.dd_version.specs.declared.parts.Parts.{Parts}
use Rattle.dicomdir_laws.proofs.SaidByFiles.{kept_of_said, said_of_kept}
use Rattle.dicomdir_laws.proofs.SaidByLists.{found_says, says_found}
use Rattle.dicomdir_laws.proofs.SaidBySets.{at_end, in_either, in_front, listed_says, named_says, says_listed, says_named}
use Rattle.dicomdir_laws.specs.Headline.{AreGivenFolders, LeaveOneDirectory, LeavesDirectory, ListsKept}
use Rattle.dicomdir_laws.specs.Headline.{Lists, Makes, Names, OneFileSays, OneListSays, OneSetSays, SayTheSame}
use Rattle.dicomdir_laws.specs.Headline.{SaysVersion, Withdraws, folder_for}
use Rattle.dicomdir.specs.Lines.{IndexesRows, MergesRows, PublishesRows, WithdrawsRows, choice_of}
use Rattle.dd_inputs.specs.ListedNames.{AreSources, parts}
use Rattle.dd_file_set.specs.Made.{RealisesPlan, SaysPlan}
use Rattle.dicomdir.specs.Publishes.{answers_in}
use Rattle.dd_file_set.specs.Standing.{StandsWhole}

-- ---- the directory of what was taken

abbrev pub label_of : Choice → Contents → Label
label_of choice taken = label_for choice (held_of taken).versions (held_of taken).withdrawn

abbrev plan_of : Choice → Contents → Layout
plan_of choice taken = layout_of (label_of choice taken) (held_of taken).versions (held_of taken).withdrawn

abbrev pub text_of : Choice → Contents → List ℕ
text_of choice taken = directory (label_of choice taken) (held_of taken).versions (held_of taken).withdrawn

-- the command made the directory of this
pub record HasTaken (verb : Verb) (given : List Row) (new : Held) (taken : Contents) : Type 0 where
  pub leaves : LeavesDirectory verb given (text_of (choice_of given) taken) new
  pub visited : Realises (label_of (choice_of given) taken) (held_of taken).versions (text_of (choice_of given) taken)
  pub again : SaysItself (held_of taken).versions (held_of taken).withdrawn (text_of (choice_of given) taken)

pub has_taken : {P : Type 0} (From MayLink : P → List ℕ → Type 0)
    (said : P → Option Parts) (verb : Verb) (given : List Row) (folder : List ℕ)
    (plan : Layout) (picks : List P) (old new : Held) (taken : Contents) → IsOnly out_name given folder
    → plan ≡ plan_of (choice_of given) taken
    → StandsWhole From MayLink said (folder_for verb given folder) plan picks old new → HasTaken verb given new taken
has_taken From MayLink said verb given folder plan picks old new taken out is stands =
    let m = (held_of taken).versions in
    let up = rising-best versions_ordered (left_of taken.versions taken.withdrawn) in
    let visited : RealisesPlan (plan_of (choice_of given) taken) = subst RealisesPlan is stands.visited in
    let again : SaysPlan (plan_of (choice_of given) taken) = subst SaysPlan is stands.again in
    record {
      leaves = record {
        folder = folder;
        out = out;
        stands = record {
          path = stands.path;
          place = stands.place;
          stands = stands.directory
              ∙ ap (λ (l : Layout). Some (directory_of l.label l.versions l.withdrawn)) is;
        };
      };
      visited = visited m up refl;
      again = again m up refl (rising-best uids_ordered taken.withdrawn);
    }

-- ---- what was taken is what was said

-- one list of sources
pub one_list : (keeps_going : Bool) (list : Option Text) (given names others : List Text) (held : Held)
    → AreSources keeps_going list given (Some held) names → AreSources keeps_going list given (Some held) others
    → names ≡ others
one_list keeps_going None given names others held one two = one ∙ sym two
one_list keeps_going (Some path) given names others held one two =
    let same : one.0 ≡ two.0 = same_Some one.0 two.0 (sym one.1 ∙ two.1) in
    one.3 ∙ ap (λ (list : List ℕ). given ++ parts list) same ∙ sym two.3

pub record IsTaken (verb : Verb) (given : List Row) (old : Held) (taken : Contents) : Type 0 where
  pub versions : (version : Parts) → Contains taken.versions version ↔ SaysVersion verb given old version
  pub withdrawn : (uid : List ℕ) → Contains taken.withdrawn uid ↔ Withdraws verb given old uid

pub record Takes (verb : Verb) (given : List Row) (old new : Held) : Type 0 where
  pub taken : Contents
  pub is : IsTaken verb given old taken
  pub has : HasTaken verb given new taken

-- nothing is withdrawn
pub all_left : (s : List Parts) → left_of s [] ≡ s
all_left [] = refl
all_left (version ∷ s) = ap (λ (l : List Parts). version ∷ l) (all_left s)

nothing_withdrawn : (choice : Choice) (plan : Layout) (s : List Parts)
    → plan ≡ layout_of (label_for choice (best_of s) []) (best_of s) []
    → plan ≡ plan_of choice (record { versions = s; withdrawn = [] })
nothing_withdrawn choice plan s is =
    is ∙ ap (λ (l : List Parts). layout_of (label_for choice (best_of l) []) (best_of l) []) (sym (all_left s))

index_takes : (given : List Row) (old new : Held) → IndexesRows given 0 (Some old) (Some new)
    → Takes Index given old new
index_takes given old new made =
    let mk = made.made in
    let s = versions_of (accepted (answers_of mk.readings)) in
    record {
      taken = record { versions = s; withdrawn = [] };
      is = record {
        versions = λ version. (
          λ kept. (
            made.sources,
            made.are,
            said_of_kept old made.sources mk.readings mk.read version (member_of version s kept),
          ),
          λ says. contained version s
              (kept_of_said old made.sources mk.readings mk.read version (mk.all.0 refl)
              (subst (λ (names : List Text). OneFileSays names old version)
              (one_list _ _ _ says.0 made.sources old says.1 made.are) says.2)),
        );
        withdrawn = λ uid. (λ none. member_of uid [] none, λ says. absurd says);
      };
      has = has_taken _ _ _ Index given made.folder mk.indexed.plan mk.indexed.picks.items old new
          (record { versions = s; withdrawn = [] }) made.new_set.out
          (nothing_withdrawn (choice_of given) mk.indexed.plan s mk.is.plan) mk.stands;
    }

publish_takes : (given : List Row) (status : ℕ) (old new : Held) → PublishesRows given status (Some old) (Some new)
    → Takes Publish given old new
publish_takes given status old new made =
    let mk = made.made in
    let s = versions_of (accepted (answers_in mk.lists)) in
    record {
      taken = record { versions = s; withdrawn = [] };
      is = record {
        versions = λ version. (
          λ kept. (
            made.piles,
            made.are,
            found_says old version made.piles mk.lists mk.are (member_of version s kept),
          ),
          λ says. contained version s (says_found old version made.piles mk.lists mk.are
              (subst (λ (piles : List Text). OneListSays piles old version)
              (one_list _ _ _ says.0 made.piles old says.1 made.are) says.2)),
        );
        withdrawn = λ uid. (λ none. member_of uid [] none, λ says. absurd says);
      };
      has = has_taken _ _ _ Publish given made.folder mk.indexed.plan mk.indexed.picks.items old new
          (record { versions = s; withdrawn = [] }) made.new_set.out
          (nothing_withdrawn (choice_of given) mk.indexed.plan s mk.is.plan) mk.stands;
    }

merge_takes : (given : List Row) (old new : Held) → MergesRows given (Some old) (Some new) → Takes Merge given old new
merge_takes given old new made =
    let mk = made.made in
    let s = versions_in (numbered 0 mk.listings) in
    let w = withdrawn_in mk.listings in
    let same : (others : List Text) → AreGivenFolders given old others → others ≡ made.folders =
    λ others are. one_list _ _ _ others made.folders old are made.are in
    record {
      taken = record { versions = s; withdrawn = w };
      is = record {
        versions = λ version. (
          λ listed. (
            made.folders,
            made.are,
            listed_says old made.folders mk.sets mk.listings mk.are mk.own version (member_of version s listed),
          ),
          λ says. contained version s (says_listed old made.folders mk.sets mk.listings mk.are mk.own version
              (subst (λ (folders : List Text). OneSetSays folders old (Lists version)) (same says.0 says.1) says.2)),
        );
        withdrawn = λ uid. (
          λ named. (
            made.folders,
            made.are,
            named_says old made.folders mk.sets mk.listings mk.are mk.own uid (member_of uid w named),
          ),
          λ says. contained uid w (says_named old made.folders mk.sets mk.listings mk.are mk.own uid
              (subst (λ (folders : List Text). OneSetSays folders old (Names uid)) (same says.0 says.1) says.2)),
        );
      };
      has = has_taken _ _ _ Merge given made.folder mk.merged.plan mk.merged.picks.items old new
          (record { versions = s; withdrawn = w }) made.new_set.out mk.is.plan mk.stands;
    }

withdraw_takes : (given : List Row) (old new : Held) → WithdrawsRows given (Some old) (Some new)
    → Takes Withdraw given old new
withdraw_takes given old new made =
    let mk = made.made in
    let folders = given_for set_name given in
    let uids = given_for instance_name given in
    let s = versions_in (numbered 0 mk.listings) in
    let w = withdrawn_in mk.listings in
    record {
      taken = record { versions = s; withdrawn = uids ++ w };
      is = record {
        versions = λ version. (
          λ listed. listed_says old folders mk.sets mk.listings mk.are mk.own version (member_of version s listed),
          λ says. contained version s (says_listed old folders mk.sets mk.listings mk.are mk.own version says),
        );
        withdrawn = λ uid. (
          λ named. elim (in_either uid uids w (member_of uid (uids ++ w) named)) [
            | inl given_one ↦ inl (contained uid uids given_one)
            | inr later ↦ inr (named_says old folders mk.sets mk.listings mk.are mk.own uid later)
          ],
          λ says. contained uid (uids ++ w) (elim says [
            | inl given_one ↦ in_front uid uids w (member_of uid uids given_one)
            | inr set ↦ at_end uid uids w (says_named old folders mk.sets mk.listings mk.are mk.own uid set)
          ]),
        );
      };
      has = has_taken _ _ _ Withdraw given made.folder mk.merged.plan mk.merged.picks.items old new
          (record { versions = s; withdrawn = uids ++ w }) made.new_set.out mk.is.plan mk.stands;
    }

pub takes : (verb : Verb) (given : List Row) (old new : Held) → Makes verb given old new → Takes verb given old new
takes Index given old new made = index_takes given old new made
takes Merge given old new made = merge_takes given old new made
takes Withdraw given old new made = withdraw_takes given old new made
takes Publish given old new made = publish_takes given made.0 old new made.2
takes Stage given old new made = absurd made
takes Check given old new made = absurd made
takes ListSet given old new made = absurd made

-- ---- the laws

pub lists_kept : (verb : Verb) (given : List Row) (old new : Held) → Makes verb given old new
    → ListsKept verb given old new
lists_kept verb given old new made =
    let takes = takes verb given old new made in
    record {
      taken = takes.taken;
      versions = takes.is.versions;
      withdrawn = takes.is.withdrawn;
      bytes = text_of (choice_of given) takes.taken;
      directory = takes.has.leaves;
      visited = takes.has.visited;
      again = takes.has.again;
    }

same_members : {V : Type 0} (one two : List V) (Says Also : V → Type 0) → ((v : V) → Contains one v ↔ Says v)
    → ((v : V) → Contains two v ↔ Also v) → ((v : V) → Says v ↔ Also v) → SameMembers one two
same_members one two Says Also first second same v = (
  λ held. (second v).1 ((same v).0 ((first v).0 held)),
  λ held. (first v).1 ((same v).1 ((second v).0 held)),
)

same_held : (one two : Contents) → SameMembers one.versions two.versions → SameMembers one.withdrawn two.withdrawn
    → held_of one ≡ held_of two
same_held one two versions withdrawn = same_contents (held_of one) (held_of two)
    (kept_of_same versions_ordered uids_ordered one.versions two.versions one.withdrawn two.withdrawn versions
    withdrawn)
    (best_of_same uids_ordered one.withdrawn two.withdrawn withdrawn)

pub one_directory : (verb other : Verb) (given others : List Row) (old new first last : Held)
    → Makes verb given old new → Makes other others first last → choice_of given ≡ choice_of others
    → SayTheSame verb other given others old first → LeaveOneDirectory verb other given others new last
one_directory verb other given others old new first last made also choice same =
    let one = takes verb given old new made in
    let two = takes other others first last also in
    let versions = same_members one.taken.versions two.taken.versions _ _ one.is.versions two.is.versions
    same.versions in
    let withdrawn = same_members one.taken.withdrawn two.taken.withdrawn _ _ one.is.withdrawn two.is.withdrawn
    same.withdrawn in
    let texts : text_of (choice_of others) two.taken ≡ text_of (choice_of given) one.taken =
    ap₂ (λ (c : Choice) (h : Contents). directory (label_for c h.versions h.withdrawn) h.versions h.withdrawn)
    (sym choice) (sym (same_held one.taken two.taken versions withdrawn)) in (
      text_of (choice_of given) one.taken,
      one.has.leaves,
      subst (λ (bytes : List ℕ). LeavesDirectory other others bytes last) texts two.has.leaves,
    )
