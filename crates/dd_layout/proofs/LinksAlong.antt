-- Links from the back by levels are the links of the plan.
use Rattle.std.specs.Prelude.{◌≡◌, ℕ, ◌+◌, List, [], ◌∷◌, ◌++◌, length, map, None}
use Rattle.std.specs.List.{AllByRecursion}
use Rattle.std.proofs.Common.{refl, sym, ◌∙◌, ap, append_assoc}
use Rattle.dd_version.specs.declared.parts.Parts.{Parts}
use Rattle.dd_records.specs.declared.label.Label.{Label}
use Rattle.dd_records.specs.declared.level.Level.TheVariants.{Study, Series, Image}
use Rattle.dd_layout.specs.declared.links.Later.{Later}
use Rattle.dd_records.specs.declared.record.PlanRecord.{PlanRecord}
use Rattle.dd_layout.specs.Linking.{next_of, lower_of, later_from}
use Rattle.dd_layout.specs.Neighbours.{scan}
use Rattle.dd_layout.specs.Paths.{Path}
use Rattle.dd_layout.specs.Plans.{path_of, tree, level_of, at, at_or_none, record_at, records_of}
use Rattle.dd_layout.specs.Stages.{placed_at}
use Rattle.dd_layout.specs.Tree.{next_sibling}
use Rattle.dd_layout.proofs.HasLevel.{HasLevel}
use Rattle.dd_layout.proofs.Leasts.{all_have_levels, paths_have_parts}
use Rattle.dd_layout.proofs.LinkPass.{found, found_later, later_of, with_links, linked}
use Rattle.dd_layout.proofs.Neighbourhood.{rows_are_known}

later_is : (label : Label) (versions : List Parts) (rest : List Path) → AllByRecursion HasLevel rest
    → later_of (map (placed_at label versions) rest) ≡ found_later label versions rest
later_is label versions [] h = refl
later_is label versions ([] ∷ rest) h = absurd h.0
later_is label versions ((a ∷ []) ∷ rest) h = refl
later_is label versions ((a ∷ b ∷ []) ∷ rest) h =
    ap (λ (l : Later). later_from Study (at label versions (a ∷ b ∷ [])) l) (later_is label versions rest h.1)
later_is label versions ((a ∷ b ∷ c ∷ []) ∷ rest) h =
    ap (λ (l : Later). later_from Series (at label versions (a ∷ b ∷ c ∷ [])) l) (later_is label versions rest h.1)
later_is label versions ((a ∷ b ∷ c ∷ d ∷ []) ∷ rest) h =
    ap (λ (l : Later). later_from Image (at label versions (a ∷ b ∷ c ∷ d ∷ [])) l)
    (later_is label versions rest h.1)
later_is label versions ((a ∷ b ∷ c ∷ d ∷ e ∷ y) ∷ rest) h = absurd h.0

-- nothing has five parts
pub no_fifth : (rest : List Path) → AllByRecursion HasLevel rest → scan 5 rest ≡ None
no_fifth [] h = refl
no_fifth ([] ∷ rest) h = absurd h.0
no_fifth ((a ∷ []) ∷ rest) h = refl
no_fifth ((a ∷ b ∷ []) ∷ rest) h = refl
no_fifth ((a ∷ b ∷ c ∷ []) ∷ rest) h = refl
no_fifth ((a ∷ b ∷ c ∷ d ∷ []) ∷ rest) h = refl
no_fifth ((a ∷ b ∷ c ∷ d ∷ e ∷ y) ∷ rest) h = absurd h.0

next_is : (label : Label) (versions : List Parts) (x : Path) (rest : List Path) → HasLevel x
    → next_of (level_of x) (found_later label versions rest) ≡ found label versions (length x) rest
next_is label versions [] rest h = absurd h
next_is label versions (a ∷ []) rest h = refl
next_is label versions (a ∷ b ∷ []) rest h = refl
next_is label versions (a ∷ b ∷ c ∷ []) rest h = refl
next_is label versions (a ∷ b ∷ c ∷ d ∷ []) rest h = refl
next_is label versions (a ∷ b ∷ c ∷ d ∷ e ∷ x) rest h = absurd h

lower_is : (label : Label) (versions : List Parts) (x : Path) (rest : List Path) → HasLevel x
    → AllByRecursion HasLevel rest
    → lower_of (level_of x) (found_later label versions rest) ≡ found label versions (length x + 1) rest
lower_is label versions [] rest h all = absurd h
lower_is label versions (a ∷ []) rest h all = refl
lower_is label versions (a ∷ b ∷ []) rest h all = refl
lower_is label versions (a ∷ b ∷ c ∷ []) rest h all = refl
lower_is label versions (a ∷ b ∷ c ∷ d ∷ []) rest h all = ap (at_or_none label versions) (sym (no_fifth rest all))
lower_is label versions (a ∷ b ∷ c ∷ d ∷ e ∷ x) rest h all = absurd h

-- one record
record_is : (label : Label) (versions : List Parts) (front : List Path) (x : Path) (rest : List Path)
    → tree versions ≡ front ++ x ∷ rest → HasLevel x → AllByRecursion HasLevel rest
    → with_links (placed_at label versions x) (later_of (map (placed_at label versions) rest))
    ≡ record_at label versions x
record_is label versions front x rest is level all =
    let known = rows_are_known (map path_of versions) (paths_have_parts versions) front x rest is in
    let row : PlanRecord = placed_at label versions x in
    let next = next_is label versions x rest level ∙ ap (at_or_none label versions) (sym known.next) in
    let lower = lower_is label versions x rest level all ∙ ap (at_or_none label versions) (sym known.lower) in
    ap (with_links row) (later_is label versions rest all)
    ∙ ap (λ (n : ℕ). record row { next = n; lower = lower_of (level_of x) (found_later label versions rest) }) next
    ∙ ap (λ (n : ℕ). record row {
      next = at_or_none label versions (next_sibling (tree versions) x);
      lower = n;
    }) lower

-- all records
linked_is : (label : Label) (versions : List Parts) (front rest : List Path) → tree versions ≡ front ++ rest
    → AllByRecursion HasLevel rest
    → linked (map (placed_at label versions) rest) ≡ map (record_at label versions) rest
linked_is label versions front [] is all = refl
linked_is label versions front (x ∷ rest) is all =
    ap (λ (row : PlanRecord). row ∷ linked (map (placed_at label versions) rest))
    (record_is label versions front x rest is all.0 all.1)
    ∙ ap (λ (l : List PlanRecord). record_at label versions x ∷ l)
    (linked_is label versions (front ++ x ∷ []) rest (is ∙ sym (append_assoc front (x ∷ []) rest)) all.1)

pub links_are_known : (label : Label) (versions : List Parts)
    → linked (map (placed_at label versions) (tree versions)) ≡ records_of label versions
links_are_known label versions = linked_is label versions [] (tree versions) refl (all_have_levels versions)
