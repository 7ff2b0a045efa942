-- Mentions of UIDs, each with a number or without one: their order, and the first one of a UID.
use Rattle.std.specs.Prelude.{ℕ, List, [], ◌∷◌, map, Option, None, Some, if◌then◌else◌}
use Rattle.std.specs.List.{enumerate_from}
use Rattle.std.specs.declared.cmp.Ordering.{Ordering}
use Rattle.dd_catalogue.specs.Conflicts.{same}
use Rattle.dd_elem.specs.Ordered.{bytes_cmp}
use Rattle.dd_engine.specs.declared.mentions.Mention.{Mention}

-- the number and the UID of a mention
abbrev pub mention_view : Mention → Option ℕ × List ℕ
mention_view mention = (mention.number, mention.uid.now)

-- by the UID
abbrev pub mention_cmp : Mention → Mention → Ordering
mention_cmp one other = bytes_cmp one.uid.now other.uid.now

-- the number of the first mention of this UID: None where there is no mention of it, or the first has no number
abbrev pub first_number : List (Option ℕ × List ℕ) → List ℕ → Option ℕ
first_number [] uid = None
first_number (mention ∷ more) uid = if same mention.1 uid then mention.0 else first_number more uid

-- mentions of these UIDs, each with its place in the list
abbrev pub in_places : List (List ℕ) → List (Option ℕ × List ℕ)
in_places uids = map (λ uid. (Some uid.0, uid.1)) (enumerate_from 0 uids)
