-- What becomes of a version that a catalogue takes.
use Rattle.std.specs.Prelude.{ℕ, List, Option, Some, None, if◌then◌else◌}
use Rattle.std.specs.Ordering.{is_lt}
use Rattle.dd_version.specs.Orders.{parts_cmp}
use Rattle.dd_version.specs.declared.parts.Parts.{Parts}
use Rattle.dd_catalogue.specs.Versions.{kept}
use Rattle.dd_catalogue.specs.Contents.{Contents, is_withdrawn}
use Rattle.dd_catalogue.specs.declared.best.Taken.{Taken}
use Rattle.dd_catalogue.specs.declared.best.Taken.TheVariants.{Fresh, Displaced, Returned}
use Rattle.dd_catalogue.specs.declared.outcomes.Took.{Took}
use Rattle.dd_catalogue.specs.declared.outcomes.Withdrew.{Withdrew}
use Rattle.dd_catalogue.specs.declared.outcomes.Withdrew.TheVariants.{New as Fresh_withdrawal, Already}
use Rattle.dd_catalogue.specs.declared.outcomes.Took.TheVariants.{New, Replaced, Kept, Withdrawn}

-- where this one of its instance is kept
abbrev pub took_by : Parts → Option Parts → Took
took_by version None = New
took_by version (Some old) = if is_lt (parts_cmp old version) then Replaced old else Kept version

-- its instance is withdrawn, or it is new, or replaces a smaller one, or the one that is there is kept
abbrev pub took_of : Contents → Parts → Took
took_of c version =
    if is_withdrawn c.withdrawn version.instance
    then Withdrawn version
    else took_by version (kept c.versions version.instance)

-- the UID is withdrawn already, or it is not and this version had it
abbrev pub withdrew_of : Contents → List ℕ → Withdrew
withdrew_of c uid =
    if is_withdrawn c.withdrawn uid then Already else Fresh_withdrawal (kept c.versions uid)

-- what became of a value of a table, said of a version
abbrev pub as_took : Taken Parts → Took
as_took Fresh = New
as_took (Displaced old) = Replaced old
as_took (Returned given) = Kept given
