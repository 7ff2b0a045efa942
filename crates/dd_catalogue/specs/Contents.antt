-- What a catalogue holds: versions, and the SOP Instance UIDs (PS3.3 section C.12.1) that are withdrawn. It keeps the
-- best of the versions whose instances are not withdrawn.
use Rattle.std.specs.Prelude.{◌≡◌, ◌+◌, ℕ, List, [], ◌∷◌, ◌++◌, Bool, not, map}
use Rattle.dd_elem.specs.Ordered.{bytes_cmp}
use Rattle.dd_version.specs.Orders.{parts_cmp}
use Rattle.dd_version.specs.declared.parts.Parts.{Parts}
use Rattle.dd_catalogue.specs.Best.{IsRising, SameMembers}
use Rattle.dd_catalogue.specs.Compared.{compared_keys}
use Rattle.dd_catalogue.specs.Free.{is_free, free, set_of, best_free}
use Rattle.dd_catalogue.specs.Versions.{IsCatalogue, best_of, compared_of, instance_of}

-- versions and withdrawn UIDs: both taken in any order and with repeats, or as a catalogue holds them
pub record Contents : Type 0 where
  pub versions : List Parts
  pub withdrawn : List (List ℕ)

abbrev pub nothing : Contents
nothing = record { versions = []; withdrawn = [] }

-- is the UID withdrawn?
abbrev pub is_withdrawn : List (List ℕ) → List ℕ → Bool
is_withdrawn w uid = not (is_free bytes_cmp w uid)

-- the versions whose instance is not withdrawn
abbrev pub left_of : List Parts → List (List ℕ) → List Parts
left_of s w = free instance_of bytes_cmp w s

-- the best of the versions whose instance is not withdrawn
abbrev pub kept_of : List Parts → List (List ℕ) → List Parts
kept_of s w = best_free instance_of bytes_cmp parts_cmp s w

-- the UIDs, each once, rising
abbrev pub uids_of : List (List ℕ) → List (List ℕ)
uids_of w = set_of bytes_cmp w

-- what a catalogue holds that took these
abbrev pub held_of : Contents → Contents
held_of c = record { versions = kept_of c.versions c.withdrawn; withdrawn = uids_of c.withdrawn }

-- both together
abbrev pub all_of : Contents → Contents → Contents
all_of c d = record { versions = c.versions ++ d.versions; withdrawn = c.withdrawn ++ d.withdrawn }

-- How many pairs of UIDs a merge of d into c compares. They are of the withdrawn UIDs of both, of the versions of both,
-- and of the best of these versions with all withdrawn UIDs.
abbrev pub compared_in_merge : Contents → Contents → ℕ
compared_in_merge c d =
    compared_keys bytes_cmp c.withdrawn d.withdrawn + compared_of c.versions d.versions
    + compared_keys bytes_cmp (map instance_of (best_of (c.versions ++ d.versions)))
    (uids_of (c.withdrawn ++ d.withdrawn))

-- one version more, and one UID more
abbrev pub and_version : Parts → Contents → Contents
and_version v c = record { versions = v ∷ c.versions; withdrawn = c.withdrawn }

abbrev pub and_withdrawn : List ℕ → Contents → Contents
and_withdrawn uid c = record { versions = c.versions; withdrawn = uid ∷ c.withdrawn }

-- as a catalogue holds them: versions that rise by instance and UIDs that rise, and no version's instance is withdrawn
pub record IsHeld (c : Contents) : Type 0 where
  pub versions : IsCatalogue c.versions
  pub withdrawn : IsRising (λ u. u) bytes_cmp c.withdrawn
  pub apart : left_of c.versions c.withdrawn ≡ c.versions

-- the same versions and the same UIDs, in any order and with repeats
pub record SameContents (c d : Contents) : Type 0 where
  pub versions : SameMembers c.versions d.versions
  pub withdrawn : SameMembers c.withdrawn d.withdrawn

-- what is held of what two hold is what one holds that took both
abbrev pub HoldsBoth : Contents → Contents → Type 0
HoldsBoth c d = held_of (all_of (held_of c) (held_of d)) ≡ held_of (all_of c d)

-- the same of one version more, and of one UID more
abbrev pub HoldsVersion : Contents → Parts → Type 0
HoldsVersion c v = held_of (and_version v (held_of c)) ≡ held_of (and_version v c)

abbrev pub HoldsWithdrawn : Contents → List ℕ → Type 0
HoldsWithdrawn c uid = held_of (and_withdrawn uid (held_of c)) ≡ held_of (and_withdrawn uid c)
