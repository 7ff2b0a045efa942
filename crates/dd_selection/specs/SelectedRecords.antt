-- The records of a directory that lie under all that is asked for, and those above them (PS3.3 section F.4).
use Rattle.std.specs.Prelude.{ℕ, Bool, true, false, ◌&&◌, List, [], ◌∷◌, if◌then◌else◌}
use Rattle.std.specs.List.{list_any}
use Rattle.dd_records.specs.declared.level.Level.{Level}
use Rattle.dd_records.specs.declared.level.Level.TheVariants.{Patient, Study, Series, Image}
use Rattle.dd_walk.specs.Trees.{Node, Trees, no_trees, tree}
use Rattle.dd_selection.specs.Selection.{Values, has_one_of}

-- A record lies under a kind where it, or a record above it, has one of the values of that kind; where no value is asked
-- for, each record does. A record is given with those above it, the nearest first.
abbrev pub lies_under : Level → List (List ℕ) → List Node → Bool
lies_under level [] records = true
lies_under level (value ∷ values) records = list_any (has_one_of level (value ∷ values)) records

abbrev pub lies_under_all : Values → List Node → Bool
lies_under_all values records =
    lies_under Patient values.patients records
    && (lies_under Study values.studies records
    && (lies_under Series values.series records && lies_under Image values.instances records))

-- a record stays where it lies under all kinds, or where one below it stays
abbrev pub stays : Bool → Trees → Bool
stays true below = true
stays false no_trees = false
stays false (tree first lower next) = true

-- a record in front of trees, where it stays, with what is left below it
abbrev pub kept : Bool → Node → Trees → Trees → Trees
kept lies node below after = if stays lies below then tree node below after else after

-- what is left of trees that stand below these records
abbrev pub selected_below : Values → List Node → Trees → Trees
selected_below values above no_trees = no_trees
selected_below values above (tree node below after) =
    kept (lies_under_all values (node ∷ above)) node (selected_below values (node ∷ above) below)
    (selected_below values above after)

abbrev pub selected : Values → Trees → Trees
selected values trees = selected_below values [] trees
