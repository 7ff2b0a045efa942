-- Harmony keeps the image of each version: its path and the fields of the image itself.
use Rattle.std.specs.Prelude.{◌≡◌, ℕ, List, [], ◌∷◌, Option, Some, map, find}
use Rattle.std.proofs.Common.{refl, sym, ◌∙◌, ap, subst, inl, inr}
use Rattle.dd_version.specs.declared.parts.Parts.{Parts}
use Rattle.dd_catalogue.specs.Agreement.{IsSameImage, HaveSameImages}
use Rattle.dd_catalogue.proofs.Members.{Member, member_of, contained}
use Rattle.dd_catalogue.specs.Conflicts.{conflicts, pair_or, first_conflict}
use Rattle.dd_catalogue.specs.Harmony.{patient_of, study_of, series_of, agreed, harmonised}
use Rattle.dd_catalogue.specs.Rising.{by_test}
use Rattle.dd_catalogue.proofs.Harmonies.{member-map}
use Rattle.dd_catalogue.proofs.Harmonised.{is_like, patients_ordered, studies_ordered, series_ordered, member-unmap}

pub agreed_image : (m : List Parts) (v : Parts) → Member v m → IsSameImage v (agreed m v)
agreed_image m v i = record {
  patient = sym (is_like patient_of patients_ordered m v i).like;
  study = sym (is_like study_of studies_ordered m v i).like;
  series = sym (is_like series_of series_ordered m v i).like;
  instance = refl;
  digest = refl;
  number = refl;
  class = refl;
  transfer = refl;
}

pub harmony_keeps_images : (m : List Parts) → HaveSameImages m (harmonised m)
harmony_keeps_images m = record {
  first = λ v c. let i = member_of v m c in
      (agreed m v, contained (agreed m v) (harmonised m) (member-map (agreed m) v m i), agreed_image m v i);
  second = λ w c. let from = member-unmap (agreed m) w m (member_of w (harmonised m) c) in
      (from.0, contained from.0 m from.1, subst (λ x. IsSameImage from.0 x) from.2 (agreed_image m from.0 from.1));
}

-- ---- conflicts

same_conflicts : (v v' w w' : Parts) → IsSameImage v v' → IsSameImage w w' → conflicts v' w' ≡ conflicts v w
same_conflicts v v' w w' one other =
    rw (one.patient, one.study, one.series, other.patient, other.study, other.series) refl

conflict_by_pair : (f : Parts → Parts) (v : Parts) (m : List Parts) (other : Option (List ℕ × List ℕ))
    → IsSameImage v (f v) → ((w : Parts) → Member w m → IsSameImage w (f w))
    → pair_or (f v) (find (conflicts (f v)) (map f m)) other ≡ pair_or v (find (conflicts v) m) other
conflict_by_pair f v [] other one h = refl
conflict_by_pair f v (w ∷ m) other one h =
    let same = same_conflicts v (f v) w (f w) one (h w (inl refl)) in
    by_test (conflicts v w)
    (λ e. rw (same ∙ e, e) (λ j. Some (sym one.instance j, sym (h w (inl refl)).instance j)))
    (λ e. rw (same ∙ e, e) (conflict_by_pair f v m other one (λ u i. h u (inr i))))

same_conflict : (f : Parts → Parts) (m : List Parts) → ((v : Parts) → Member v m → IsSameImage v (f v))
    → first_conflict (map f m) ≡ first_conflict m
same_conflict f [] h = refl
same_conflict f (v ∷ m) h =
    conflict_by_pair f v m (first_conflict (map f m)) (h v (inl refl)) (λ w i. h w (inr i))
    ∙ ap (λ x. pair_or v (find (conflicts v) m) x) (same_conflict f m (λ w i. h w (inr i)))

pub harmony_keeps_conflict : (m : List Parts) → first_conflict (harmonised m) ≡ first_conflict m
harmony_keeps_conflict m = same_conflict (agreed m) m (λ v i. agreed_image m v i)
