-- Where withdrawn UIDs are held.
use Rattle.std.specs.Prelude.{◌≢◌, ℕ, List, []}
use Rattle.std.specs.Arc.{arc_value}
use Rattle.dd_catalogue.specs.declared.withdrawals.Holding.{Holding}
use Rattle.dd_catalogue.specs.declared.withdrawals.Holding.TheVariants.{Own, Shared}

-- the UIDs
abbrev pub uids_in : Holding → List (List ℕ)
uids_in (Own uids) = uids
uids_in (Shared uids) = arc_value uids

-- a list that copies share has a UID
abbrev pub SharesSome : Holding → Type 0
SharesSome (Own uids) = Unit {0}
SharesSome (Shared uids) = arc_value uids ≢ []
