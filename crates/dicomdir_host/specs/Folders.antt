-- The folder that a path stands in.
use Rattle.std.specs.Prelude.{◌≡◌, ◌≢◌, ◌<◌, ◌≤◌, ◌-◌, ℕ, List, [], codes, length, slice_index, take}

-- from one place to another stand slashes alone
abbrev pub AreSlashes : List ℕ → ℕ → ℕ → Type 0
AreSlashes path from to = (at : ℕ) → from ≤ at → at < to → slice_index path at ≡ 47

-- from one place to another stands no slash
abbrev pub HasNoSlash : List ℕ → ℕ → ℕ → Type 0
HasNoSlash path from to = (at : ℕ) → from ≤ at → at < to → slice_index path at ≢ 47

-- The folder in which the last name of a path stands. The name begins at `start`. Slashes stand after it, from `end`
-- on, and before it, from `base` on. What stands before `base` is the folder: `/` where that is nothing, and `.` where
-- nothing stands before the name.
pub record IsFolderOf (path folder : List ℕ) : Type 0 where
  pub base : ℕ
  pub start : ℕ
  pub end : ℕ
  pub behind : AreSlashes path end (length path)
  pub name : HasNoSlash path start end
  pub whole_name : 0 < start → slice_index path (start - 1) ≡ 47
  pub between : AreSlashes path base start
  pub whole_between : 0 < base → slice_index path (base - 1) ≢ 47
  pub current : start ≡ 0 → folder ≡ codes "."
  pub root : 0 < start → base ≡ 0 → folder ≡ codes "/"
  pub below : 0 < base → folder ≡ take base path

-- The path of a folder without the slashes after it, which stand from `end` on: `.` where the path is empty, and `/`
-- where it has slashes alone.
pub record IsBare (path folder : List ℕ) : Type 0 where
  pub end : ℕ
  pub behind : AreSlashes path end (length path)
  pub whole : 0 < end → slice_index path (end - 1) ≢ 47
  pub current : path ≡ [] → folder ≡ codes "."
  pub root : path ≢ [] → end ≡ 0 → folder ≡ codes "/"
  pub named : 0 < end → folder ≡ take end path
