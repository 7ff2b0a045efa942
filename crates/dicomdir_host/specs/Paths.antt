-- Paths that are looked for.
use Rattle.std.specs.Prelude.{ℕ}

-- the most bytes of a path that is looked for: the system takes one less (PATH_MAX)
abbrev pub most_path : ℕ
most_path = 4096
