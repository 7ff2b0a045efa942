-- The withdrawn SOP Instance UIDs (PS3.3 section C.12.1) that a directory names.
use Rattle.std.specs.Prelude.{ℕ, List, Option, Some, None, if◌then◌else◌}
use Rattle.std.specs.List.{AllByRecursion}
use Rattle.dd_catalogue.specs.Best.{IsRising}
use Rattle.dd_elem.specs.Ordered.{bytes_cmp}
use Rattle.dd_elem.specs.Uid.{IsUid, is_uid}

-- each is a UID, and they rise strictly as byte strings
pub record AreRisingUids (uids : List (List ℕ)) : Type 0 where
  pub each : AllByRecursion IsUid uids
  pub rising : IsRising (λ uid. uid) bytes_cmp uids

-- bytes that are a UID
abbrev pub uid_in : List ℕ → Option (List ℕ)
uid_in bytes = if is_uid bytes then Some bytes else None
