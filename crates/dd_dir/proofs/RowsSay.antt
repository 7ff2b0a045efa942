-- What the records of the rows of a tree say: each what its version says.
use Rattle.std.specs.Prelude.{◌≡◌, ◌≢◌, ℕ, zero, suc, true, List, [], ◌∷◌, ◌++◌, length, map, IsSomeAnd}
use Rattle.std.specs.Prelude.{Option, Some, None, slice_get}
use Rattle.std.specs.List.{AllByRecursion}
use Rattle.std.specs.Ordering.{is_eq}
use Rattle.std.proofs.Common.{refl, sym, ◌∙◌, ap, subst, inl, inr}
use Rattle.std.proofs.lemmas.Bool.{and_from}
use Rattle.std.proofs.lemmas.List.Elements.{recursion_from_All}
use Rattle.std.proofs.lemmas.Option.{none-some, same_Some}
use Rattle.dd_elem.specs.FileId.{AreRanks, Ranks, text_of}
use Rattle.dd_elem.specs.Ordered.{bytes_cmp}
use Rattle.dd_catalogue.proofs.Members.{Member, contained, member_of}
use Rattle.dd_version.specs.declared.parts.Parts.{Parts}
use Rattle.dd_encoding.specs.Elements.{Elements, elements_of}
use Rattle.dd_records.specs.declared.label.Label.{Label}
use Rattle.dd_records.specs.declared.level.Level.TheVariants.{Image}
use Rattle.dd_records.specs.declared.record.PlanRecord.{PlanRecord}
use Rattle.dd_layout.specs.Layouts.{IsSound}
use Rattle.dd_layout.specs.Paths.{Path, leads_to}
use Rattle.dd_layout.specs.Plans.{file_of, level_of, path_of, record_at, records_of, tree}
use Rattle.dd_records.specs.Records.{record_elements}
use Rattle.dd_layout.proofs.Blocks.{and_parts}
use Rattle.dd_layout.proofs.HasLevel.{HasLevel}
use Rattle.dd_layout.proofs.Trees.{tree_is_tree}
use Rattle.dd_dir.specs.Directories.{elements_by}
use Rattle.dd_dir.specs.Keyed.{IsKeyed, IsKeyedBy, IsSent}
use Rattle.dd_dir.specs.Visits.{node_at}
use Rattle.dd_version.specs.WellFormed.{IsWellFormed}
use Rattle.dd_dir.proofs.ListedAlong.{IsPassed}
use Rattle.dd_dir.proofs.RecordValues.{ImageSays, PatientSays, SeriesSays, StudySays, image_says, patient_says}
use Rattle.dd_dir.proofs.RecordValues.{series_says, study_says}
use Rattle.dd_dir.proofs.RecordsPass.{image_passes, patient_passes, series_passes, study_passes}
use Rattle.dd_dir.proofs.TreeWalks.{of_version}

-- ---- the version of a row

member_at : (m : List Parts) (i : ℕ) (v : Parts) → slice_get m i ≡ Some v → Member v m
member_at [] i v e = absurd (none-some v e)
member_at (x ∷ m) zero v e = inl (same_Some x v e)
member_at (x ∷ m) (suc i) v e = inr (member_at m i v e)

at_row : (P : PlanRecord → Type 0) (f : Path → PlanRecord) (rest : List Path) (x : Path)
    → AllByRecursion P (map f rest) → Member x rest → P (f x)
at_row P f [] x all i = absurd i
at_row P f (y ∷ rest) x all (inl e) = subst (λ (z : Path). P (f z)) e all.0
at_row P f (y ∷ rest) x all (inr i) = at_row P f rest x all.1 i

-- the record of a row is of this version, which is well formed
pub record IsRowOf (label : Label) (versions : List Parts) (x : Path) (v : Parts) : Type 0 where
  pub member : Member v versions
  pub leads : leads_to x (path_of v) ≡ true
  pub formed : IsWellFormed v
  pub sound : IsSound (length versions) (record_at label versions x)
  pub set : (node_at label versions x).set ≡ elements_of (record_elements (level_of x)
      (record_at label versions x).next (record_at label versions x).lower (record_at label versions x).file v)

pub row_of : {withdrawn : List (List ℕ)} (label : Label) (versions : List Parts) (x : Path)
    → IsSent label versions withdrawn → Member x (tree versions)
    → (v : Parts) × IsRowOf label versions x v
row_of label versions x sent i =
    let of = of_version versions x i in
    let row = record_at label versions x in
    let keyed = at_row (IsKeyed versions) (record_at label versions) (tree versions) x sent.keyed i in (
      of.version,
      record {
        member = member_at versions row.of of.version of.found;
        leads = of.leads;
        formed = subst (IsKeyedBy row) of.found keyed;
        sound = at_row (IsSound (length versions)) (record_at label versions) (tree versions) x
            (recursion_from_All (IsSound (length versions)) (records_of label versions) sent.sound) i;
        set = ap (λ (o : Option Parts). elements_of (elements_by row o)) of.found;
      },
    )

-- ---- what it says

pub patient_row : (label : Label) (versions : List Parts) (a : List ℕ) (v : Parts)
    → IsRowOf label versions (a ∷ []) v → PatientSays (node_at label versions (a ∷ [])).set v.patient
patient_row label versions a v is =
    let row = record_at label versions (a ∷ []) in
    subst (λ (s : Elements). PatientSays s v.patient) (sym is.set)
    (patient_says row.next row.lower row.file v is.formed.patient)

pub study_row : (label : Label) (versions : List Parts) (a b : List ℕ) (v : Parts)
    → IsRowOf label versions (a ∷ b ∷ []) v → StudySays (node_at label versions (a ∷ b ∷ [])).set v.study
study_row label versions a b v is =
    let row = record_at label versions (a ∷ b ∷ []) in
    subst (λ (s : Elements). StudySays s v.study) (sym is.set)
    (study_says row.next row.lower row.file v is.formed.study)

pub series_row : (label : Label) (versions : List Parts) (a b c : List ℕ) (v : Parts)
    → IsRowOf label versions (a ∷ b ∷ c ∷ []) v
    → SeriesSays (node_at label versions (a ∷ b ∷ c ∷ [])).set v.series
series_row label versions a b c v is =
    let row = record_at label versions (a ∷ b ∷ c ∷ []) in
    subst (λ (s : Elements). SeriesSays s v.series) (sym is.set)
    (series_says row.next row.lower row.file v is.formed.series)

ranked : (file : Option Ranks) → IsSomeAnd file AreRanks → (ranks : Ranks) × AreRanks ranks × (file ≡ Some ranks)
ranked None some = absurd some
ranked (Some ranks) are = (ranks, are, refl)

-- the ranks of an image
pub row_ranks : (label : Label) (versions : List Parts) (a b c d : List ℕ) (v : Parts)
    → IsRowOf label versions (a ∷ b ∷ c ∷ d ∷ []) v
    → (ranks : Ranks) × AreRanks ranks × (file_of (tree versions) (a ∷ b ∷ c ∷ d ∷ []) ≡ Some ranks)
row_ranks label versions a b c d v is = ranked (file_of (tree versions) (a ∷ b ∷ c ∷ d ∷ [])) is.sound.1

pub image_row : (label : Label) (versions : List Parts) (a b c d : List ℕ) (v : Parts) (ranks : Ranks)
    → IsRowOf label versions (a ∷ b ∷ c ∷ d ∷ []) v → AreRanks ranks
    → file_of (tree versions) (a ∷ b ∷ c ∷ d ∷ []) ≡ Some ranks
    → ImageSays (node_at label versions (a ∷ b ∷ c ∷ d ∷ [])).set (text_of ranks) v
image_row label versions a b c d v ranks is are file =
    let row = record_at label versions (a ∷ b ∷ c ∷ d ∷ []) in
    subst (λ (s : Elements). ImageSays s (text_of ranks) v)
    (sym (is.set ∙ ap (λ (o : Option Ranks). elements_of (record_elements Image row.next row.lower o v)) file))
    (image_says row.next row.lower ranks v are is.formed.image)

-- ---- it passes its checks

row_passes : (label : Label) (versions : List Parts) (x : Path) (v : Parts) → HasLevel x
    → IsRowOf label versions x v → IsPassed (node_at label versions) x
row_passes label versions [] v level is = absurd level
row_passes label versions (a ∷ []) v level is =
    let n = node_at label versions (a ∷ []) in
    patient_passes n.at n.set v is.formed (patient_row label versions a v is)
row_passes label versions (a ∷ b ∷ []) v level is =
    let n = node_at label versions (a ∷ b ∷ []) in
    study_passes n.at n.set v is.formed (study_row label versions a b v is)
row_passes label versions (a ∷ b ∷ c ∷ []) v level is =
    let n = node_at label versions (a ∷ b ∷ c ∷ []) in
    series_passes n.at n.set v is.formed (series_row label versions a b c v is)
row_passes label versions (a ∷ b ∷ c ∷ d ∷ []) v level is =
    let n = node_at label versions (a ∷ b ∷ c ∷ d ∷ []) in
    let r = row_ranks label versions a b c d v is in
    image_passes n.at n.set r.0 v is.formed r.1 (image_row label versions a b c d v r.0 is r.1 r.2)
row_passes label versions (a ∷ b ∷ c ∷ d ∷ e ∷ x) v level is = absurd level

pub rows_pass : {withdrawn : List (List ℕ)} (label : Label) (versions : List Parts) (rest : List Path)
    → IsSent label versions withdrawn
    → ((x : Path) → Member x rest → Member x (tree versions)) → AllByRecursion HasLevel rest
    → AllByRecursion (IsPassed (node_at label versions)) rest
rows_pass label versions [] sent among levels = tt
rows_pass label versions (x ∷ rest) sent among levels =
    let of = row_of label versions x sent (among x (inl refl)) in (
      row_passes label versions x of.0 levels.0 of.1,
      rows_pass label versions rest sent (λ y i. among y (inr i)) levels.1,
    )

-- ---- what stands above a row

leads_front : (u w p : Path) → leads_to (u ++ w) p ≡ true → leads_to u p ≡ true
leads_front [] w p is = refl
leads_front (a ∷ u) w [] is = absurd (cc)
leads_front (a ∷ u) w (b ∷ p) is =
    let both = and_parts (is_eq (bytes_cmp a b)) (leads_to (u ++ w) p) is in
    and_from (is_eq (bytes_cmp a b)) (leads_to u p) both.0 (leads_front u w p both.1)

pub front_among : (versions : List Parts) (u w : Path) → u ≢ [] → u ++ w ≢ [] → Member (u ++ w) (tree versions)
    → Member u (tree versions)
front_among versions u w some more i =
    let each = (tree_is_tree (map path_of versions)).each in
    let led = ((each (u ++ w)).0 (contained (u ++ w) (tree versions) i)).1 in
    member_of u (tree versions) ((each u).1 (some, (led.0, led.1, leads_front u w led.0 led.2)))
