-- Trees from the rows of a tree, from the back. What stands after a row one level further down becomes the trees below
-- it. What stands after it at its own level becomes the trees after it.
use Rattle.std.specs.Prelude.{List, [], ◌∷◌}
use Rattle.dd_records.specs.declared.level.Level.{Level}
use Rattle.dd_records.specs.declared.level.Level.TheVariants.{Patient, Study, Series, Image}
use Rattle.dd_layout.specs.Paths.{Path}
use Rattle.dd_layout.specs.Plans.{level_of}
use Rattle.dd_walk.specs.Trees.{Node, Trees, no_trees, tree}

-- the trees of each level that stand first, if none above comes before
pub record Grown : Type 0 where
  pub patient : Trees
  pub study : Trees
  pub series : Trees
  pub image : Trees

abbrev pub none_grown : Grown
none_grown = record { patient = no_trees; study = no_trees; series = no_trees; image = no_trees }

-- one record more
abbrev pub grown_from : Level → Node → Grown → Grown
grown_from Patient node g =
    record { patient = tree node g.study g.patient; study = no_trees; series = no_trees; image = no_trees }
grown_from Study node g =
    record { patient = g.patient; study = tree node g.series g.study; series = no_trees; image = no_trees }
grown_from Series node g =
    record { patient = g.patient; study = g.study; series = tree node g.image g.series; image = no_trees }
grown_from Image node g =
    record { patient = g.patient; study = g.study; series = g.series; image = tree node no_trees g.image }

-- of rows whose records are these
abbrev pub grown : (Path → Node) → List Path → Grown
grown node [] = none_grown
grown node (x ∷ rest) = grown_from (level_of x) (node x) (grown node rest)
