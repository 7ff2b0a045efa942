-- The paths of a pile.
use Rattle.std.specs.Prelude.{ℕ, ◌-◌, ◌/◌, List, ◌++◌, length, replicate, codes, decimal}
use Rattle.dd_files.specs.Paths.{IsPathIn}

-- a number in at least this many decimal digits, with `0` (48) in front
abbrev pub digits_at_least : ℕ → ℕ → List ℕ
digits_at_least count n = replicate (count - length (decimal n)) 48 ++ decimal n

-- the folder of the copy of the source with this number, from 1: one for a thousand copies
abbrev pub folder_name : ℕ → List ℕ
folder_name number = digits_at_least 3 (number / 1000)

-- the copy
abbrev pub copy_name : ℕ → List ℕ
copy_name number = folder_name number ++ codes "/" ++ digits_at_least 6 number

-- their paths
abbrev pub IsFolderPath : List ℕ → ℕ → List ℕ → Type 0
IsFolderPath pile number path = IsPathIn pile (folder_name number) path

abbrev pub IsCopyPath : List ℕ → ℕ → List ℕ → Type 0
IsCopyPath pile number path = IsPathIn pile (copy_name number) path

-- the path of a copy in this pile
abbrev pub IsCopyOfPile : List ℕ → List ℕ → Type 0
IsCopyOfPile pile path = (number : ℕ) × IsCopyPath pile number path

-- the path of the list
abbrev pub IsListPath : List ℕ → List ℕ → Type 0
IsListPath pile path = IsPathIn pile (codes "STAGED") path
