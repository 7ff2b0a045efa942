-- What the values of the pass over a directory's records stand for.
use Rattle.std.specs.Prelude.{◌≡◌, true, List, [], ◌∷◌, ◌++◌, find, Option, Some, None, is_some, Result}
use Rattle.dd_encoding.specs.Elements.{Elements}
use Rattle.dd_set.specs.Views.{set_view}
use Rattle.dd_records.specs.declared.level.Level.{Level}
use Rattle.dd_records.specs.declared.level.Level.TheVariants.{Patient, Study, Series, Image}
use Rattle.dd_records.specs.Tables.{table_of}
use Rattle.dd_dir.specs.declared.listed_images.Above.{Above as AboveValue}
use Rattle.dd_dir.specs.declared.listed_images.Above.TheVariants as values
use Rattle.dd_dir.specs.declared.listed_images.Listed.{Listed as ListedValue}
use Rattle.dd_dir.specs.declared.own_fault.OwnFault.{OwnFault}
use Rattle.dd_walk.specs.ForestViews.{Branch}
use Rattle.dd_dir.specs.Own.{Above, root, in_patient, in_study, in_series, in_image, Listed, ListsFirst, ListsWith}
use Rattle.dd_dir.specs.Own.{below, is_bad, listed_in, listed_with, own}
use Rattle.dd_dir.specs.OwnVersions.{Answers, ListsSome}
use Rattle.dd_walk.specs.Saying.{digest_in}
use Rattle.dd_walk.specs.Trees.{Walk}

abbrev pub above_view : AboveValue → Above
above_view values.Root = root
above_view (values.Patient patient) = in_patient (set_view patient.set.now)
above_view (values.Study patient study) = in_study (set_view patient.set.now) (set_view study.set.now)
above_view (values.Series patient study series) =
    in_series (set_view patient.set.now) (set_view study.set.now) (set_view series.set.now)
above_view values.Image = in_image

abbrev pub listed_view : ListedValue → Listed
listed_view listed = record {
  patient = set_view listed.patient.set.now;
  study = set_view listed.study.set.now;
  series = set_view listed.series.set.now;
  own = set_view listed.own.now;
}

abbrev pub listed_values : Option ListedValue → List Listed
listed_values None = []
listed_values (Some listed) = listed_view listed ∷ []

-- the images of one tree, which stands there
abbrev pub listed_of : Above → Branch → Result (List Listed) OwnFault
listed_of above branch = listed_with above branch.node (listed_in (below above branch.node.set) branch.below)

-- one is listed before any record of it fails
abbrev pub ListsOneFirst : Above → Branch → Type 0
ListsOneFirst above branch =
    ListsWith above branch.node (ListsFirst (below above branch.node.set) branch.below)

-- The answer of a pass that adds images to a list, where these are to come: all were added, or it is their fault.
-- Memory runs out only where it is wanted.
abbrev pub Adds : {F : Type 0} → List Listed → List Listed → Result (List Listed) OwnFault → Type 0
    → Result F OwnFault → Type 0
Adds {F} old new to_come IsWanted result = Answers to_come IsWanted (λ images (done : F). new ≡ old ++ images) result

-- The answer where the records of a walk list images, or fail. Memory is wanted only where an image is listed before
-- any of them fails.
abbrev pub AnswersRecords : {B : Type 0} → Walk → (List Listed → B → Type 0) → Result B OwnFault → Type 0
AnswersRecords walk IsAnswer result = Answers (own walk) (ListsSome walk) IsAnswer result

-- ---- records that were checked

-- all keys of the record are what they have to be
abbrev pub Passes : Level → Elements → Type 0
Passes level set = find (is_bad set) (table_of level) ≡ None

-- an image whose records pass their checks
pub record IsListed (image : Listed) : Type 0 where
  pub patient : Passes Patient image.patient
  pub study : Passes Study image.study
  pub series : Passes Series image.series
  pub own : Passes Image image.own
  pub digest : is_some (digest_in image.own) ≡ true
