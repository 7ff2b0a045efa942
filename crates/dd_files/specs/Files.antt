-- What files hold, and what the calls of `Files` change there.
use Rattle.std.specs.Prelude.{◌≡◌, ℕ, List, [], ◌∷◌, ◌++◌, Option, None, Some, Result, IfSome, IsErr, IsOk, IsSome}
use Rattle.std.specs.Prelude.{bytes_eq}
use Rattle.std.specs.Map.{update}
use Rattle.std.specs.Option.{option_map, option_and_then}
use Rattle.dd_elem.specs.Device.{HasWorked, counted}
use Rattle.dd_elem.specs.declared.device.Read.{Ghosts as ReadOf}
use Rattle.dd_elem.specs.declared.device.Write.{Ghosts as WriteOf}
use Rattle.dd_files.specs.Calls.{Call, Create, End, Link, Store}

-- files whose bytes and calls are all known
pub record Held : Type 0 where
  -- the bytes of the file at each path, where there is one
  pub bytes_at : List ℕ → Option (List ℕ)
  -- the path of the file that is being written, where there is one
  pub current : Option (List ℕ)
  -- the calls so far, the first of them first
  pub calls : List Call

-- the file at the path has these bytes, or there is no file, and all others are as they were
abbrev pub with_file : List ℕ → Option (List ℕ) → (List ℕ → Option (List ℕ)) → List ℕ → Option (List ℕ)
with_file path bytes files = update bytes_eq files path bytes

-- the bytes of the file that is being written, where there is one
abbrev pub written : Held → Option (List ℕ)
written held = option_and_then held.bytes_at held.current

-- these bytes in the file that is being written
abbrev pub with_written : Option (List ℕ) → Option (List ℕ) → (List ℕ → Option (List ℕ)) → List ℕ → Option (List ℕ)
with_written None bytes files = files
with_written (Some path) bytes files = with_file path bytes files

-- a new file at the path, which is then being written
abbrev pub started : List ℕ → Held → Held
started path held = record {
  bytes_at = with_file path (Some []) held.bytes_at;
  current = Some path;
  calls = held.calls ++ Create path ∷ [];
}

-- the file at one path under a second one, too
abbrev pub linked : List ℕ → List ℕ → Held → Held
linked from path held = record held {
  bytes_at = with_file path (held.bytes_at from) held.bytes_at;
  calls = held.calls ++ Link from path ∷ [];
}

-- the file that is being written grows by these bytes
abbrev pub grown : List ℕ → Held → Held
grown bytes held = record held {
  bytes_at = with_written held.current (option_map (λ before. before ++ bytes) (written held)) held.bytes_at;
}

-- the end of the file that is being written, where there is one
abbrev pub end_of : Option (List ℕ) → List Call
end_of None = []
end_of (Some path) = End path ∷ []

-- no file is being written any more
abbrev pub ended : Held → Held
ended held = record held { current = None; calls = held.calls ++ end_of held.current }

-- a new file at the path with these bytes, and none is being written any more
abbrev pub published : List ℕ → List ℕ → Held → Held
published path bytes held = record {
  bytes_at = with_file path (Some bytes) held.bytes_at;
  current = None;
  calls = (held.calls ++ Create path ∷ []) ++ End path ∷ [];
}

-- all ended files are stored
abbrev pub stored : Held → Held
stored held = record held { calls = held.calls ++ Store ∷ [] }

-- What each call of files does beside its work: a refusal counts, and changes neither what the files hold nor the bytes
-- that are being written. No call is a write.
pub record IsCall {F A E : Type 0} (writer : WriteOf F) (refusals : F → ℕ) (held : F → Option Held)
    (result : Result A E) (old new : F) : Type 0 where
  pub worked : IsOk result → HasWorked (refusals old) (refusals new)
  pub refused : IsErr result → refusals new ≡ counted (refusals old)
  pub kept : IsErr result → held new ≡ held old
  pub bytes : IsErr result → writer.contents new ≡ writer.contents old
  pub calls : writer.calls new ≡ writer.calls old
  pub failures : writer.failures new ≡ writer.failures old

-- a new reader of the file at a path: what it has left are the bytes of that file, where it is known what files hold
pub record IsUnread {R : Type 0} (reader : ReadOf R) (held : Option Held) (path : List ℕ) (opened : R) : Type 0 where
  pub calls : reader.calls opened ≡ 0
  pub failures : reader.failures opened ≡ 0
  pub given : (past : reader.Past) → reader.has_given opened past []
  pub left : IfSome held (λ files. IsSome (files.bytes_at path) × (reader.remaining opened ≡ files.bytes_at path))
