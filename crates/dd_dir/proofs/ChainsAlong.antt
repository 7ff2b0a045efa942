-- The trees that grow from rows are chains from the first rows of each level, where each record says what follows it.
use Rattle.std.specs.Prelude.{◌≡◌, ℕ, ◌+◌, true, List, [], ◌∷◌, ◌++◌, length, map, filter, find, Option, Some}
use Rattle.std.specs.List.{AllByRecursion, last_or}
use Rattle.std.proofs.Common.{refl, ◌∙◌, ap, ap₂, arith}
use Rattle.std.proofs.lemmas.List.{map-append}
use Rattle.dd_encoding.specs.Elements.{Elements}
use Rattle.dd_records.specs.declared.level.Level.TheVariants.{Patient, Study, Series, Image}
use Rattle.dd_layout.specs.Neighbours.{scan}
use Rattle.dd_layout.specs.Paths.{Path, is_path, parent_of}
use Rattle.dd_layout.specs.Plans.{level_of}
use Rattle.dd_records.specs.Records.{kind_of}
use Rattle.dd_layout.proofs.Blocks.{AllTails}
use Rattle.dd_layout.proofs.HasLevel.{HasLevel}
use Rattle.dd_layout.proofs.LinksAlong.{no_fifth}
use Rattle.dd_walk.specs.Saying.{Links, links_in}
use Rattle.dd_walk.specs.Trees.{Node, Trees, last_offset_or, no_trees, offsets}
use Rattle.dd_walk.specs.Trees as trees
use Rattle.dd_dir.specs.Visits.{Visit, own_key, visits_below}
use Rattle.dd_walk.specs.Walks.{IsChain, node_of}
use Rattle.dd_dir.proofs.GrownTrees.{Grown, grown, grown_from}
use Rattle.dd_dir.proofs.VisitsAlong.{at_by}

-- ---- chains

-- what a record is to say whose row stands before these: the offsets of the first row of its level and of the first
-- one below it
abbrev pub links_along : (Path → Node) → Path → List Path → Links
links_along node x rest = record {
  next = at_by node (scan (length x) rest);
  lower = at_by node (scan (length x + 1) rest);
  in_use = true;
  kind = kind_of (level_of x);
}

-- its record stands at its offset and says so
pub record SaysAlong (stands : ℕ → Option Elements) (node : Path → Node) (x : Path) (rest : List Path) : Type 0 where
  pub found : stands (node x).at ≡ Some (node x).set
  pub says : links_in (node x).set ≡ Some (links_along node x rest)
  pub is : node x ≡ node_of (node x).at (node x).set (links_along node x rest)

-- the trees of each level are a chain
pub record Chains (stands : ℕ → Option Elements) (node : Path → Node) (rest : List Path) (g : Grown) : Type 0 where
  pub patient : IsChain stands (at_by node (scan 1 rest)) 0 g.patient
  pub study : IsChain stands (at_by node (scan 2 rest)) 1 g.study
  pub series : IsChain stands (at_by node (scan 3 rest)) 2 g.series
  pub image : IsChain stands (at_by node (scan 4 rest)) 3 g.image

module _ (stands : ℕ → Option Elements) (node : Path → Node) (rest : List Path) (g : Grown)
    (chains : Chains stands node rest g) where
  patient_chains : (p : List ℕ) → SaysAlong stands node (p ∷ []) rest
      → Chains stands node ((p ∷ []) ∷ rest) (grown_from Patient (node (p ∷ [])) g)
  patient_chains p so = record {
    patient = (
      links_along node (p ∷ []) rest,
      record { found = so.found; room = omega arith; says_so = so.says; is = so.is },
      chains.study,
      chains.patient,
    );
    study = refl;
    series = refl;
    image = refl;
  }

  study_chains : (p q : List ℕ) → SaysAlong stands node (p ∷ q ∷ []) rest
      → Chains stands node ((p ∷ q ∷ []) ∷ rest) (grown_from Study (node (p ∷ q ∷ [])) g)
  study_chains p q so = record {
    patient = chains.patient;
    study = (
      links_along node (p ∷ q ∷ []) rest,
      record { found = so.found; room = omega arith; says_so = so.says; is = so.is },
      chains.series,
      chains.study,
    );
    series = refl;
    image = refl;
  }

  series_chains : (p q r : List ℕ) → SaysAlong stands node (p ∷ q ∷ r ∷ []) rest
      → Chains stands node ((p ∷ q ∷ r ∷ []) ∷ rest) (grown_from Series (node (p ∷ q ∷ r ∷ [])) g)
  series_chains p q r so = record {
    patient = chains.patient;
    study = chains.study;
    series = (
      links_along node (p ∷ q ∷ r ∷ []) rest,
      record { found = so.found; room = omega arith; says_so = so.says; is = so.is },
      chains.image,
      chains.series,
    );
    image = refl;
  }

  image_chains : (p q r s : List ℕ) → AllByRecursion HasLevel rest → SaysAlong stands node (p ∷ q ∷ r ∷ s ∷ []) rest
      → Chains stands node ((p ∷ q ∷ r ∷ s ∷ []) ∷ rest) (grown_from Image (node (p ∷ q ∷ r ∷ s ∷ [])) g)
  image_chains p q r s levels so = record {
    patient = chains.patient;
    study = chains.study;
    series = chains.series;
    image = (
      links_along node (p ∷ q ∷ r ∷ s ∷ []) rest,
      record { found = so.found; room = omega arith; says_so = so.says; is = so.is },
      ap (at_by node) (no_fifth rest levels),
      chains.image,
    );
  }

chains_more : (stands : ℕ → Option Elements) (node : Path → Node) (x : Path) (rest : List Path) → HasLevel x
    → AllByRecursion HasLevel rest → SaysAlong stands node x rest → Chains stands node rest (grown node rest)
    → Chains stands node (x ∷ rest) (grown node (x ∷ rest))
chains_more stands node [] rest level levels so chains = absurd level
chains_more stands node (p ∷ []) rest level levels so chains =
    patient_chains stands node rest (grown node rest) chains p so
chains_more stands node (p ∷ q ∷ []) rest level levels so chains =
    study_chains stands node rest (grown node rest) chains p q so
chains_more stands node (p ∷ q ∷ r ∷ []) rest level levels so chains =
    series_chains stands node rest (grown node rest) chains p q r so
chains_more stands node (p ∷ q ∷ r ∷ s ∷ []) rest level levels so chains =
    image_chains stands node rest (grown node rest) chains p q r s levels so
chains_more stands node (p ∷ q ∷ r ∷ s ∷ t ∷ x) rest level levels so chains = absurd level

pub chains_along : (stands : ℕ → Option Elements) (node : Path → Node) (rest : List Path)
    → AllByRecursion HasLevel rest → AllTails (SaysAlong stands node) rest
    → Chains stands node rest (grown node rest)
chains_along stands node [] levels so = record { patient = refl; study = refl; series = refl; image = refl }
chains_along stands node (x ∷ rest) levels so =
    chains_more stands node x rest levels.0 levels.1 so.0 (chains_along stands node rest levels.1 so.1)

-- ---- the first and the last root

pub first_along : (node : Path → Node) (rest : List Path) → AllByRecursion HasLevel rest
    → find (λ y. is_path (parent_of y) []) rest ≡ scan 1 rest
first_along node [] levels = refl
first_along node ([] ∷ rest) levels = absurd levels.0
first_along node ((p ∷ []) ∷ rest) levels = refl
first_along node ((p ∷ q ∷ []) ∷ rest) levels = first_along node rest levels.1
first_along node ((p ∷ q ∷ r ∷ []) ∷ rest) levels = first_along node rest levels.1
first_along node ((p ∷ q ∷ r ∷ s ∷ []) ∷ rest) levels = first_along node rest levels.1
first_along node ((p ∷ q ∷ r ∷ s ∷ t ∷ x) ∷ rest) levels = absurd levels.0

pub last_along : (node : Path → Node) (before : Option Path) (rest : List Path) → AllByRecursion HasLevel rest
    → last_offset_or (at_by node before) (grown node rest).patient
    ≡ at_by node (last_or before (filter (λ y. is_path (parent_of y) []) rest))
last_along node before [] levels = refl
last_along node before ([] ∷ rest) levels = absurd levels.0
last_along node before ((p ∷ []) ∷ rest) levels = last_along node (Some (p ∷ [])) rest levels.1
last_along node before ((p ∷ q ∷ []) ∷ rest) levels = last_along node before rest levels.1
last_along node before ((p ∷ q ∷ r ∷ []) ∷ rest) levels = last_along node before rest levels.1
last_along node before ((p ∷ q ∷ r ∷ s ∷ []) ∷ rest) levels = last_along node before rest levels.1
last_along node before ((p ∷ q ∷ r ∷ s ∷ t ∷ x) ∷ rest) levels = absurd levels.0

-- ---- offsets

-- records are visited in the order of their offsets
pub visits_places : (front : Path) (above : ℕ) (t : Trees)
    → map (λ visit. visit.node.at) (visits_below front above t) ≡ offsets t
visits_places front above no_trees = refl
visits_places front above (trees.tree node below after) =
    let path = front ++ own_key front node.set ∷ [] in
    ap (λ (ps : List ℕ). node.at ∷ ps)
    (map-append (λ (visit : Visit). visit.node.at) (visits_below path node.at below) (visits_below front above after)
    ∙ ap₂ (λ (ps qs : List ℕ). ps ++ qs) (visits_places path node.at below) (visits_places front above after))
