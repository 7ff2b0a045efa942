-- What is kept of versions and of their harmonies: the same images; and in harmony the same versions, where none is
-- withdrawn.
use Rattle.std.specs.Prelude.{◌≡◌, ℕ, Bool, List, [], ◌∷◌, Contains, filter, map}
use Rattle.std.proofs.Common.{refl, sym, ◌∙◌, ap, subst, inl, inr}
use Rattle.dd_catalogue.specs.Agreement.{AllAgree, IsSameImage}
use Rattle.dd_catalogue.specs.CatalogueJoin.{uids_ordered}
use Rattle.dd_catalogue.specs.Contents.{kept_of, left_of}
use Rattle.dd_catalogue.specs.Free.{is_free}
use Rattle.dd_catalogue.specs.Harmony.{agreed, harmonised}
use Rattle.dd_catalogue.specs.Histories.{together}
use Rattle.dd_catalogue.specs.Rising.{by_test}
use Rattle.dd_catalogue.specs.Versions.{best_of}
use Rattle.dd_catalogue.proofs.Agreements.{IsFrom, from_harmonies, in_together}
use Rattle.dd_catalogue.proofs.Agreements.{merged_harmonies_are_merged_sets}
use Rattle.dd_catalogue.proofs.FreeMembers.{free_decides}
use Rattle.dd_catalogue.proofs.Held.{sifted}
use Rattle.dd_catalogue.proofs.Images.{agreed_image}
use Rattle.dd_catalogue.proofs.Members.{Member, contained}
use Rattle.dd_elem.specs.Ordered.{bytes_cmp}
use Rattle.dd_version.specs.declared.parts.Parts.{Parts}
use Rattle.dd_layout.specs.Paths.{Path}
use Rattle.dd_engine.specs.Published.{filed_as}

-- ---- harmony keeps each image

same_filed : (v w : Parts) → IsSameImage v w → filed_as w ≡ filed_as v
same_filed v w is = λ j. record {
  path = sym is.patient j ∷ sym is.study j ∷ sym is.series j ∷ sym is.instance j ∷ [];
  digest = sym is.digest j;
}

each_filed : (f : Parts → Parts) (m : List Parts) → ((v : Parts) → Member v m → IsSameImage v (f v))
    → map (λ v. filed_as v) (map f m) ≡ map (λ v. filed_as v) m
each_filed f [] same = refl
each_filed f (v ∷ m) same =
    λ j. same_filed v (f v) (same v (inl refl)) j ∷ each_filed f m (λ w i. same w (inr i)) j

pub filed_in_harmony : (m : List Parts) → map (λ v. filed_as v) (harmonised m) ≡ map (λ v. filed_as v) m
filed_in_harmony m = each_filed (agreed m) m (λ v i. agreed_image m v i)

-- ---- images that are left

-- the last part of the path of an image
abbrev instance_in : Path → List ℕ
instance_in (patient ∷ study ∷ series ∷ image ∷ path) = image
instance_in path = []

filed_left : (test : List ℕ → Bool) (m : List Parts)
    → map (λ v. filed_as v) (filter (λ v. test v.instance) m)
    ≡ filter (λ x. test (instance_in x.path)) (map (λ v. filed_as v) m)
filed_left test [] = refl
filed_left test (v ∷ m) = by_test (test v.instance)
    (λ e. rw e (ap (λ l. filed_as v ∷ l) (filed_left test m)))
    (λ e. rw e (filed_left test m))

-- sets that have the same images keep the same ones
pub kept_filed : (s t : List Parts) (w : List (List ℕ)) → harmonised (best_of s) ≡ harmonised (best_of t)
    → map (λ v. filed_as v) (kept_of s w) ≡ map (λ v. filed_as v) (kept_of t w)
kept_filed s t w one =
    let test = is_free bytes_cmp w in
    ap (map (λ v. filed_as v)) (sym (sifted s w)) ∙ filed_left test (best_of s)
    ∙ ap (filter (λ x. test (instance_in x.path)))
    (sym (filed_in_harmony (best_of s)) ∙ ap (map (λ v. filed_as v)) one ∙ filed_in_harmony (best_of t))
    ∙ sym (filed_left test (best_of t)) ∙ ap (map (λ v. filed_as v)) (sifted t w)

-- ---- where no version is withdrawn

all_left : (s : List Parts) (w : List (List ℕ)) → ((v : Parts) → Member v s → ¬ Contains w v.instance)
    → left_of s w ≡ s
all_left [] w none = refl
all_left (v ∷ s) w none =
    let free = (free_decides uids_ordered w v.instance).1 (none v (inl refl)) in
    rw free (ap (λ l. v ∷ l) (all_left s w (λ u i. none u (inr i))))

-- where no version is withdrawn, what is kept of all sets is in harmony what is kept of their harmonies
pub kept_harmony : (sets : List (List Parts)) (s : List Parts) (w : List (List ℕ)) → AllAgree sets
    → best_of s ≡ best_of (together (map harmonised sets))
    → ((v : Parts) → Contains (together sets) v → ¬ Contains w v.instance)
    → harmonised (kept_of s w) ≡ harmonised (kept_of (together sets) w)
kept_harmony sets s w agree best none =
    let r = together (map harmonised sets) in
    let one : left_of r w ≡ r = all_left r w (λ v i. here v (from_harmonies v sets i)) in
    let two : left_of (together sets) w ≡ together sets =
    all_left (together sets) w (λ v i. none v (contained v (together sets) i)) in
    ap harmonised (sym (sifted s w) ∙ ap (λ m. left_of m w) best ∙ sifted r w ∙ ap best_of one)
    ∙ merged_harmonies_are_merged_sets sets agree ∙ ap (λ l. harmonised (best_of l)) (sym two)
  where
    here : (v : Parts) (from : IsFrom sets v) → ¬ Contains w v.instance
    here v from c =
        let place = from.where_it_is in
        none from.source
        (contained from.source (together sets) (in_together from.source place.set sets place.among place.member))
        (subst (λ u. Contains w u) (sym (ap (λ (u : Parts). u.instance) from.agrees)) c)
