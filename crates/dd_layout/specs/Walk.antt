-- The paths of a tree by one walk along the paths of its images, in order: each gives those that lead to it and not to
-- the one before.
use Rattle.std.specs.Prelude.{List, [], ◌∷◌, ◌++◌, map, if◌then◌else◌}
use Rattle.std.specs.Ordering.{is_eq}
use Rattle.dd_elem.specs.Ordered.{bytes_cmp}
use Rattle.dd_layout.specs.Paths.{Path, prefixes}

-- the paths that lead to this one and not to the one before
abbrev pub fresh : Path → Path → List Path
fresh before [] = []
fresh [] (part ∷ path) = prefixes (part ∷ path)
fresh (other ∷ before) (part ∷ path) =
    if is_eq (bytes_cmp other part) then map (λ q. part ∷ q) (fresh before path) else prefixes (part ∷ path)

abbrev pub paths_from : Path → List Path → List Path
paths_from before [] = []
paths_from before (path ∷ paths) = fresh before path ++ paths_from path paths
