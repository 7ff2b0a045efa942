-- Conflicts: a study of two patients, or a series of two studies (against PS3.3 section A.1.2).
use Rattle.std.specs.Prelude.{◌≡◌, ◌≢◌, ◌⊎◌, ℕ, Bool, ◌&&◌, ◌||◌, not, List, [], ◌∷◌, Option, Some, None, Contains}
use Rattle.std.specs.Prelude.{find}
use Rattle.std.specs.Ordering.{is_eq}
use Rattle.std.specs.declared.cmp.Ordering.TheVariants.{Less}
use Rattle.dd_elem.specs.Ordered.{bytes_cmp}
use Rattle.dd_version.specs.declared.parts.Parts.{Parts}

-- ---- as a relation

-- one study and different Patient IDs, or one series and different studies
abbrev pub Conflict : Parts → Parts → Type 0
Conflict v w =
    ((v.study.uid ≡ w.study.uid) × (v.patient.id ≢ w.patient.id))
    ⊎ ((v.series.uid ≡ w.series.uid) × (v.study.uid ≢ w.study.uid))

-- by SOP Instance UID
abbrev pub IsBelow : Parts → Parts → Type 0
IsBelow v w = bytes_cmp v.instance w.instance ≡ Less

-- v is the least version of the set that conflicts with a greater one,
-- and w the least greater one with which v conflicts
pub record IsFirstConflict (m : List Parts) (v w : Parts) : Type 0 where
  pub one : Contains m v
  pub other : Contains m w
  pub below : IsBelow v w
  pub conflict : Conflict v w
  pub least : (x y : Parts) → Contains m x → Contains m y → IsBelow x v → IsBelow x y → ¬ Conflict x y
  pub nearest : (y : Parts) → Contains m y → IsBelow v y → IsBelow y w → ¬ Conflict v y

-- the instances of the first conflict, or none where no two versions of the set conflict
abbrev pub IsConflict : List Parts → Option (List ℕ × List ℕ) → Type 0
IsConflict m None = (v w : Parts) → Contains m v → Contains m w → ¬ Conflict v w
IsConflict m (Some pair) = (v : Parts) × (w : Parts) × IsFirstConflict m v w × (pair ≡ (v.instance, w.instance))

-- ---- the same as functions

abbrev pub same : List ℕ → List ℕ → Bool
same x y = is_eq (bytes_cmp x y)

-- two values have one UID, but different owners
abbrev pub splits : {V : Type 0} → (V → List ℕ) → (V → List ℕ) → V → V → Bool
splits uid owner v w = same (uid v) (uid w) && not (same (owner v) (owner w))

-- the test of a conflict
abbrev pub conflicts : Parts → Parts → Bool
conflicts v w = splits (λ p. p.study.uid) (λ p. p.patient.id) v w || splits (λ p. p.series.uid) (λ p. p.study.uid) v w

-- a version and one that it conflicts with, or else another pair
abbrev pub pair_or : Parts → Option Parts → Option (List ℕ × List ℕ) → Option (List ℕ × List ℕ)
pair_or v None other = other
pair_or v (Some w) other = Some (v.instance, w.instance)

-- of versions that rise by instance
abbrev pub first_conflict : List Parts → Option (List ℕ × List ℕ)
first_conflict [] = None
first_conflict (v ∷ m) = pair_or v (find (conflicts v) m) (first_conflict m)
