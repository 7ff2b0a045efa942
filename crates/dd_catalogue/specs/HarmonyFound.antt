-- What is found of the harmony of a catalogue.
use Rattle.std.specs.Prelude.{◌≡◌, List, Some, None}
use Rattle.dd_version.specs.declared.parts.Parts.{Parts}
use Rattle.dd_catalogue.specs.Changes.{with_changes}
use Rattle.dd_catalogue.specs.Conflicts.{first_conflict}
use Rattle.dd_catalogue.specs.Contents.{Contents}
use Rattle.dd_catalogue.specs.Harmony.{harmonised}
use Rattle.dd_catalogue.specs.declared.outcomes.Harmony.{Harmony}
use Rattle.dd_catalogue.specs.declared.outcomes.Harmony.TheVariants.{Found, Conflict}
use Rattle.dd_catalogue.specs.declared.outcomes.HarmonyChanges.{HarmonyChanges}
use Rattle.dd_catalogue.specs.declared.outcomes.HarmonyChanges.TheVariants as found

-- the versions in harmony, where no two conflict, with what is withdrawn; or the first conflict
abbrev pub IsHarmonyOf : Contents → Harmony → Type 0
IsHarmonyOf c (Found harmony) = (first_conflict c.versions ≡ None)
    × (harmony ≡ record { versions = harmonised c.versions; withdrawn = c.withdrawn })
IsHarmonyOf c (Conflict one other) = first_conflict c.versions ≡ Some (one, other)

-- the versions with these changes are in harmony, where no two conflict; or the first conflict
abbrev pub AreChangesOf : List Parts → HarmonyChanges → Type 0
AreChangesOf m (found.Found changes) = (first_conflict m ≡ None) × (with_changes changes m ≡ harmonised m)
AreChangesOf m (found.Conflict one other) = first_conflict m ≡ Some (one, other)
