-- What a directory says of itself is its versions in harmony, where their files are, and its withdrawn UIDs.
use Rattle.std.specs.Prelude.{◌≡◌, ◌≢◌, ℕ, true, List, [], ◌∷◌, filter, map, unwrap_or, Option}
use Rattle.std.specs.List.{AllByRecursion}
use Rattle.std.proofs.Common.{refl, sym, ◌∙◌, ap, ap₂, subst, inl, inr}
use Rattle.dd_elem.specs.FileId.{Ranks, text_of}
use Rattle.dd_catalogue.specs.Best.{SameMembers}
use Rattle.dd_catalogue.specs.BestLaws.{best_of_rising}
use Rattle.dd_catalogue.proofs.Members.{Member, contained, member_of}
use Rattle.dd_catalogue.proofs.BestMembers.{best_of_same}
use Rattle.dd_catalogue.specs.Harmony.{harmonised}
use Rattle.dd_catalogue.specs.Versions.{IsCatalogue, versions_ordered}
use Rattle.dd_catalogue.proofs.FirstConflicts.{one_version}
use Rattle.dd_catalogue.proofs.Harmonies.{harmonised_rises, member-map}
use Rattle.dd_version.specs.declared.parts.Parts.{Parts}
use Rattle.dd_records.specs.declared.label.Label.{Label}
use Rattle.dd_layout.specs.Paths.{Path, leads_to}
use Rattle.dd_layout.specs.Plans.{file_of, path_of, tree}
use Rattle.dd_records.specs.Records.{file_text}
use Rattle.dd_layout.proofs.Blocks.{leads_itself}
use Rattle.dd_layout.proofs.Leasts.{all_have_levels}
use Rattle.dd_layout.proofs.Trees.{tree_is_tree}
use Rattle.dd_dir.specs.Directories.{directory}
use Rattle.dd_dir.specs.Keyed.{IsSent}
use Rattle.dd_dir.specs.Own.{Listed}
use Rattle.dd_dir.specs.OwnVersions.{Place, place_of, version_of}
use Rattle.dd_dir.specs.SaysItself.{SaysItself, is_of_image, place_in}
use Rattle.dd_walk.specs.Trees.{Node}
use Rattle.dd_dir.specs.Visits.{node_at}
use Rattle.dd_dir.specs.Withdrawn.{AreRisingUids}
use Rattle.dd_dir.proofs.ListedAlong.{image_by, listed_along, rows_images}
use Rattle.dd_dir.proofs.RecordValues.{ImageSays, PatientSays, SeriesSays, StudySays}
use Rattle.dd_dir.proofs.RowsSay.{front_among, image_row, patient_row, row_of, row_ranks, rows_pass}
use Rattle.dd_dir.proofs.RowsSay.{series_row, study_row}
use Rattle.dd_dir.proofs.SameTuples.{AreAlike, harmony_is_alike}
use Rattle.dd_dir.proofs.TreeWalks.{tree_is_walked, tree_linked, tree_walk}
use Rattle.dd_dir.proofs.VisitsAlong.{front_is}
use Rattle.dd_walk.proofs.WalkFiles.{one_walk}
use Rattle.dd_dir.proofs.WithdrawnRead.{withdrawn_read}

-- ---- one image

version_is : (image : Listed) (file : List ℕ) (v : Parts) → PatientSays image.patient v.patient
    → StudySays image.study v.study → SeriesSays image.series v.series → ImageSays image.own file v
    → version_of image ≡ v
version_is image file v patient study series own = λ i. record {
  digest = unwrap_or (own.digest i) [];
  patient = record {
    id = unwrap_or (patient.id i) [];
    name = unwrap_or (patient.name i) [];
    charset = unwrap_or (patient.charset i) [];
  };
  study = record {
    uid = unwrap_or (study.uid i) [];
    date = unwrap_or (study.date i) [];
    time = unwrap_or (study.time i) [];
    accession = unwrap_or (study.accession i) [];
    description = unwrap_or (study.description i) [];
    id = unwrap_or (study.id i) [];
    charset = unwrap_or (study.charset i) [];
  };
  series = record {
    uid = unwrap_or (series.uid i) [];
    modality = unwrap_or (series.modality i) [];
    number = unwrap_or (series.number i) [];
  };
  number = unwrap_or (own.number i) [];
  class = unwrap_or (own.class i) [];
  transfer = unwrap_or (own.transfer i) [];
  instance = unwrap_or (own.instance i) [];
}

place_is : (image : Listed) (file : List ℕ) (v : Parts) → ImageSays image.own file v
    → place_of image ≡ record { uid = v.instance; digest = v.digest; file = file }
place_is image file v own = λ i. record {
  uid = unwrap_or (own.instance i) [];
  digest = unwrap_or (own.digest i) [];
  file = unwrap_or (own.file_id i) [];
}

-- the image says a version of these, whose path is this, and its place
record SaysVersion (versions : List Parts) (x : Path) (image : Listed) : Type 0 where
  version : Parts
  is : version_of image ≡ version
  member : Member version versions
  path : path_of version ≡ x
  place : place_of image ≡ place_in versions version

-- a path of four parts is the one that it leads to
led_is : (a b c d : List ℕ) (v : Parts) → leads_to (a ∷ b ∷ c ∷ d ∷ []) (path_of v) ≡ true
    → path_of v ≡ a ∷ b ∷ c ∷ d ∷ []
led_is a b c d v led =
    let is = front_is (a ∷ b ∷ c ∷ d ∷ []) (path_of v) led in
    let path : v.patient.id ∷ v.study.uid ∷ v.series.uid ∷ v.instance ∷ [] ≡ a ∷ b ∷ c ∷ d ∷ is.0 = is.1 in
    let none : [] ≡ is.0 = cc in
    path ∙ ap (λ (w : Path). a ∷ b ∷ c ∷ d ∷ w) (sym none)

image_says_version : {withdrawn : List (List ℕ)} (label : Label) (versions : List Parts) (a b c d : List ℕ)
    → AreAlike versions → IsSent label versions withdrawn → Member (a ∷ b ∷ c ∷ d ∷ []) (tree versions)
    → SaysVersion versions (a ∷ b ∷ c ∷ d ∷ []) (image_by (node_at label versions) a b c d)
image_says_version label versions a b c d alike sent i =
    let image = image_by (node_at label versions) a b c d in
    let own = row_of label versions (a ∷ b ∷ c ∷ d ∷ []) sent i in
    let p = row_of label versions (a ∷ []) sent
    (front_among versions (a ∷ []) (b ∷ c ∷ d ∷ []) (λ e. cc) (λ e. cc) i) in
    let t = row_of label versions (a ∷ b ∷ []) sent
    (front_among versions (a ∷ b ∷ []) (c ∷ d ∷ []) (λ e. cc) (λ e. cc) i) in
    let s = row_of label versions (a ∷ b ∷ c ∷ []) sent
    (front_among versions (a ∷ b ∷ c ∷ []) (d ∷ []) (λ e. cc) (λ e. cc) i) in
    let v = own.0 in
    let path = led_is a b c d v own.1.leads in
    let pf = front_is (a ∷ []) (path_of p.0) p.1.leads in
    let tf = front_is (a ∷ b ∷ []) (path_of t.0) t.1.leads in
    let sf = front_is (a ∷ b ∷ c ∷ []) (path_of s.0) s.1.leads in
    let pp : p.0.patient.id ∷ p.0.study.uid ∷ p.0.series.uid ∷ p.0.instance ∷ [] ≡ a ∷ pf.0 = pf.1 in
    let tp : t.0.patient.id ∷ t.0.study.uid ∷ t.0.series.uid ∷ t.0.instance ∷ [] ≡ a ∷ b ∷ tf.0 = tf.1 in
    let sp : s.0.patient.id ∷ s.0.study.uid ∷ s.0.series.uid ∷ s.0.instance ∷ [] ≡ a ∷ b ∷ c ∷ sf.0 = sf.1 in
    let vp : v.patient.id ∷ v.study.uid ∷ v.series.uid ∷ v.instance ∷ [] ≡ a ∷ b ∷ c ∷ d ∷ [] = path in
    let patients : p.0.patient.id ≡ v.patient.id = cc in
    let studies : t.0.study.uid ≡ v.study.uid = cc in
    let series : s.0.series.uid ≡ v.series.uid = cc in
    let ranks = row_ranks label versions a b c d v own.1 in
    let says = image_row label versions a b c d v ranks.0 own.1 ranks.1 ranks.2 in
    record {
      version = v;
      is = version_is image (text_of ranks.0) v
          (subst (PatientSays image.patient) (alike.patient p.0 v p.1.member own.1.member patients)
          (patient_row label versions a p.0 p.1))
          (subst (StudySays image.study) (alike.study t.0 v t.1.member own.1.member studies)
          (study_row label versions a b t.0 t.1))
          (subst (SeriesSays image.series) (alike.series s.0 v s.1.member own.1.member series)
          (series_row label versions a b c s.0 s.1))
          says;
      member = own.1.member;
      path = path;
      place = place_is image (text_of ranks.0) v says
          ∙ ap (λ (o : Option Ranks). record { uid = v.instance; digest = v.digest; file = file_text o })
          (sym (ap (file_of (tree versions)) path ∙ ranks.2));
    }

-- ---- all rows

-- the image of a row, where it has one, says its version
abbrev RowSays : List Parts → (Path → Node) → Path → Type 0
RowSays versions node (a ∷ b ∷ c ∷ d ∷ []) = SaysVersion versions (a ∷ b ∷ c ∷ d ∷ []) (image_by node a b c d)
RowSays versions node path = Unit {0}

row_says : {withdrawn : List (List ℕ)} (label : Label) (versions : List Parts) (x : Path) → AreAlike versions
    → IsSent label versions withdrawn → Member x (tree versions) → RowSays versions (node_at label versions) x
row_says label versions [] alike sent i = tt
row_says label versions (a ∷ []) alike sent i = tt
row_says label versions (a ∷ b ∷ []) alike sent i = tt
row_says label versions (a ∷ b ∷ c ∷ []) alike sent i = tt
row_says label versions (a ∷ b ∷ c ∷ d ∷ []) alike sent i = image_says_version label versions a b c d alike sent i
row_says label versions (a ∷ b ∷ c ∷ d ∷ e ∷ x) alike sent i = tt

rows_say : {withdrawn : List (List ℕ)} (label : Label) (versions : List Parts) (rest : List Path) → AreAlike versions
    → IsSent label versions withdrawn → ((x : Path) → Member x rest → Member x (tree versions))
    → AllByRecursion (RowSays versions (node_at label versions)) rest
rows_say label versions [] alike sent among = tt
rows_say label versions (x ∷ rest) alike sent among = (
  row_says label versions x alike sent (among x (inl refl)),
  rows_say label versions rest alike sent (λ y i. among y (inr i)),
)

-- the versions and the places that the images of rows say
abbrev said : (Path → Node) → List Path → List Parts
said node rest = map version_of (rows_images node rest)

order_is : (versions : List Parts) (node : Path → Node) (rest : List Path)
    → AllByRecursion (RowSays versions node) rest → map path_of (said node rest) ≡ filter is_of_image rest
order_is versions node [] each = refl
order_is versions node ([] ∷ rest) each = order_is versions node rest each.1
order_is versions node ((a ∷ []) ∷ rest) each = order_is versions node rest each.1
order_is versions node ((a ∷ b ∷ []) ∷ rest) each = order_is versions node rest each.1
order_is versions node ((a ∷ b ∷ c ∷ []) ∷ rest) each = order_is versions node rest each.1
order_is versions node ((a ∷ b ∷ c ∷ d ∷ []) ∷ rest) each =
    ap₂ (λ (x : Path) (l : List Path). x ∷ l) (ap path_of each.0.is ∙ each.0.path)
    (order_is versions node rest each.1)
order_is versions node ((a ∷ b ∷ c ∷ d ∷ e ∷ x) ∷ rest) each = order_is versions node rest each.1

places_are : (versions : List Parts) (node : Path → Node) (rest : List Path)
    → AllByRecursion (RowSays versions node) rest
    → map place_of (rows_images node rest) ≡ map (place_in versions) (said node rest)
places_are versions node [] each = refl
places_are versions node ([] ∷ rest) each = places_are versions node rest each.1
places_are versions node ((a ∷ []) ∷ rest) each = places_are versions node rest each.1
places_are versions node ((a ∷ b ∷ []) ∷ rest) each = places_are versions node rest each.1
places_are versions node ((a ∷ b ∷ c ∷ []) ∷ rest) each = places_are versions node rest each.1
places_are versions node ((a ∷ b ∷ c ∷ d ∷ []) ∷ rest) each =
    ap₂ (λ (x : Place) (l : List Place). x ∷ l) (each.0.place ∙ ap (place_in versions) (sym each.0.is))
    (places_are versions node rest each.1)
places_are versions node ((a ∷ b ∷ c ∷ d ∷ e ∷ x) ∷ rest) each = places_are versions node rest each.1

said_among : (versions : List Parts) (node : Path → Node) (rest : List Path) (u : Parts)
    → AllByRecursion (RowSays versions node) rest → Member u (said node rest) → Member u versions
said_among versions node [] u each i = absurd i
said_among versions node ([] ∷ rest) u each i = said_among versions node rest u each.1 i
said_among versions node ((a ∷ []) ∷ rest) u each i = said_among versions node rest u each.1 i
said_among versions node ((a ∷ b ∷ []) ∷ rest) u each i = said_among versions node rest u each.1 i
said_among versions node ((a ∷ b ∷ c ∷ []) ∷ rest) u each i = said_among versions node rest u each.1 i
said_among versions node ((a ∷ b ∷ c ∷ d ∷ []) ∷ rest) u each (inl e) =
    subst (λ (v : Parts). Member v versions) (sym each.0.is ∙ e) each.0.member
said_among versions node ((a ∷ b ∷ c ∷ d ∷ []) ∷ rest) u each (inr i) = said_among versions node rest u each.1 i
said_among versions node ((a ∷ b ∷ c ∷ d ∷ e ∷ x) ∷ rest) u each i = said_among versions node rest u each.1 i

said_behind : (node : Path → Node) (x : Path) (rest : List Path) (u : Parts) → Member u (said node rest)
    → Member u (said node (x ∷ rest))
said_behind node [] rest u i = i
said_behind node (a ∷ []) rest u i = i
said_behind node (a ∷ b ∷ []) rest u i = i
said_behind node (a ∷ b ∷ c ∷ []) rest u i = i
said_behind node (a ∷ b ∷ c ∷ d ∷ []) rest u i = inr i
said_behind node (a ∷ b ∷ c ∷ d ∷ e ∷ x) rest u i = i

-- the row of an image says a version with its path
row_said : (versions : List Parts) (node : Path → Node) (rest : List Path) (a b c d : List ℕ)
    → AllByRecursion (RowSays versions node) rest → Member (a ∷ b ∷ c ∷ d ∷ []) rest
    → (u : Parts) × Member u (said node rest) × (path_of u ≡ a ∷ b ∷ c ∷ d ∷ [])
row_said versions node [] a b c d each i = absurd i
row_said versions node (y ∷ rest) a b c d each (inl e) =
    let says : SaysVersion versions (a ∷ b ∷ c ∷ d ∷ []) (image_by node a b c d) =
    subst (RowSays versions node) e each.0 in
    let image = image_by node a b c d in (
      version_of image,
      subst (λ (z : Path). Member (version_of image) (said node (z ∷ rest))) (sym e) (inl refl),
      ap path_of says.is ∙ says.path,
    )
row_said versions node (y ∷ rest) a b c d each (inr i) =
    let later = row_said versions node rest a b c d each.1 i in
    (later.0, said_behind node y rest later.0 later.1, later.2)

-- ---- the versions of a catalogue

path_among : (versions : List Parts) (v : Parts) → Member v versions → Member (path_of v) (tree versions)
path_among versions v i =
    let paths = map path_of versions in
    let some : path_of v ≢ [] = λ e. cc in
    member_of (path_of v) (tree versions) (((tree_is_tree paths).each (path_of v)).1
    (some, (path_of v, contained (path_of v) paths (member-map path_of v versions i), leads_itself (path_of v))))

all_said : {withdrawn : List (List ℕ)} (label : Label) (versions : List Parts) → AreAlike versions
    → IsSent label versions withdrawn → IsCatalogue versions
    → SameMembers (said (node_at label versions) (tree versions)) versions
all_said label versions alike sent up =
    let node = node_at label versions in
    let rows = tree versions in
    let each = rows_say label versions rows alike sent (λ x i. i) in
    λ v. (
      (λ c. contained v versions (said_among versions node rows v each (member_of v (said node rows) c))),
      (λ c. let i = member_of v versions c in
          let u = row_said versions node rows v.patient.id v.study.uid v.series.uid v.instance each
          (path_among versions v i) in
          let path : u.0.patient.id ∷ u.0.study.uid ∷ u.0.series.uid ∷ u.0.instance ∷ []
          ≡ v.patient.id ∷ v.study.uid ∷ v.series.uid ∷ v.instance ∷ [] = u.2 in
          let same : u.0.instance ≡ v.instance = cc in
          let among = said_among versions node rows u.0 each u.1 in
          let one = one_version versions u.0 v up (contained u.0 versions among) (contained v versions i) same in
          contained v (said node rows) (subst (λ (w : Parts). Member w (said node rows)) one u.1)),
    )

pub directory_says : (label : Label) (m : List Parts) (withdrawn : List (List ℕ)) → IsCatalogue m
    → AreRisingUids withdrawn → IsSent label (harmonised m) withdrawn
    → SaysItself m withdrawn (directory label m withdrawn)
directory_says label m withdrawn up uids sent =
    let versions = harmonised m in
    let node = node_at label versions in
    let rows = tree versions in
    let alike = harmony_is_alike m in
    let rises = harmonised_rises m up in
    let each = rows_say label versions rows alike sent (λ x i. i) in
    let levels = all_have_levels versions in
    let same = all_said label versions alike sent rises in
    let is = tree_is_walked label versions withdrawn sent in
    record {
      walk = tree_walk label versions withdrawn;
      is_walk = is;
      only = λ other so. one_walk (directory label m withdrawn) (tree_walk label versions withdrawn) other is so;
      images = rows_images node rows;
      lists = listed_along node [] rows levels (tree_linked versions)
          (rows_pass label versions rows sent (λ x i. i) levels);
      order = order_is versions node rows each;
      versions = same;
      best = best_of_same versions_ordered (said node rows) versions same
          ∙ best_of_rising versions_ordered versions rises;
      places = places_are versions node rows each;
      names = withdrawn_read label versions withdrawn uids.each;
      rising = uids;
    }
