-- What writes leave alone in files in memory, and what they do to the file that is being written.
use Rattle.std.proofs.Common.{◌≡◌, ℕ, List, ◌++◌, Option, None, Some, refl, sym, ap, ◌∙◌, subst}
use Rattle.std.specs.Option.{option_and_then}
use Rattle.std.specs.Io.KnownBytes.{Appends}
use Rattle.std.specs.Prelude.{IfSome, option_map}
use Rattle.dd_files.proofs.FileLaws.{file_here, file_there, files_but}
use Rattle.dd_files.specs.Calls.{Call}
use Rattle.dd_files.specs.Files.{Held, grown, with_written, written}
use Rattle.dd_mem_files.specs.MemFiles.{Change, Stored, Unwritten, bytes_at, emptied, held_of, told, told_of, unwritten}
use Rattle.dd_mem_files.specs.MemFiles.{written_of}

-- the refusals stay
pub refusals_stay : (old new : Stored) → unwritten new ≡ unwritten old → new.refusals ≡ old.refusals
refusals_stay old new same = ap (λ (s : Unwritten). s.refusals) same

-- how a file grows that keeps whether it is there
grown_file : (old new : Option (List ℕ)) (bytes : List ℕ) → emptied new ≡ emptied old → Appends old new bytes
    → new ≡ option_map (λ before. before ++ bytes) old
grown_file None None bytes there adds = refl
grown_file None (Some ys) bytes there adds = cc
grown_file (Some xs) None bytes there adds = absurd adds
grown_file (Some xs) (Some ys) bytes there adds = ap (λ (zs : List ℕ). Some zs) adds

-- the file that is being written grows, and no other one changes
grown_at : (current : Option (List ℕ)) (old new : List ℕ → Option (List ℕ)) (bytes : List ℕ)
    → with_written current (emptied (option_and_then new current)) new ≡ with_written current (emptied
    (option_and_then old current)) old
    → Appends (option_and_then old current) (option_and_then new current) bytes
    → new ≡ with_written current (option_map (λ before. before ++ bytes) (option_and_then old current)) old
grown_at None old new bytes same adds = same
grown_at (Some path) old new bytes same adds =
    let there : emptied (new path) ≡ emptied (old path) =
    sym (file_here path (emptied (new path)) new) ∙ ap (λ (files : List ℕ → Option (List ℕ)). files path) same
    ∙ file_here path (emptied (old path)) old in
    files_but path (option_map (λ before. before ++ bytes) (old path)) old new (grown_file (old path)
    (new path) bytes there adds)
    (λ other apart. sym (file_there path other (emptied (new path)) new apart) ∙ ap (λ (files : List ℕ
    → Option (List ℕ)). files other) same ∙ file_there path other (emptied (old path)) old apart)

-- the same, of files by their parts
parts_grow : (c d : Option (List ℕ)) (f g : List ℕ → Option (List ℕ)) (calls : List Call) (bytes : List ℕ) → d ≡ c
    → with_written d (emptied (option_and_then g d)) g ≡ with_written c (emptied (option_and_then f c)) f
    → Appends (option_and_then f c) (option_and_then g d) bytes
    → record { bytes_at = g; current = d; calls = calls }
    ≡ grown bytes (record { bytes_at = f; current = c; calls = calls })
parts_grow c d f g calls bytes is =
    let Same = λ (x : Option (List ℕ)). with_written x (emptied (option_and_then g x)) g ≡ with_written c (emptied
    (option_and_then f c)) f in
    subst (λ (x : Option (List ℕ)). Same x → Appends (option_and_then f c) (option_and_then g x) bytes
    → record { bytes_at = g; current = x; calls = calls }
    ≡ grown bytes (record { bytes_at = f; current = c; calls = calls })) (sym is)
    (λ same adds. ap (λ (files : List ℕ → Option (List ℕ)). record { bytes_at = files; current = c; calls = calls })
    (grown_at c f g bytes same adds))

-- the same, where the contract says what the files hold
told_grows : (c d : Option Change) (h k : Held) (bytes : List ℕ) → d ≡ c → k ≡ grown bytes h
    → told d k ≡ option_map (grown bytes) (told c h)
told_grows None d h k bytes is grows = rw is (ap (λ (held : Held). Some held) grows)
told_grows (Some change) d h k bytes is grows = rw is refl

-- what writes add to the bytes that are being written, the file has
pub held_grows : (old new : Stored) (bytes : List ℕ) → unwritten new ≡ unwritten old
    → Appends (written_of old) (written_of new) bytes → told_of new ≡ option_map (grown bytes) (told_of old)
held_grows old new bytes same adds =
    let grows = parts_grow old.current new.current (bytes_at old.files) (bytes_at new.files) old.calls bytes
    (ap (λ (s : Unwritten). s.current) same) (ap (λ (s : Unwritten). s.bytes_at) same) adds in
    let same_calls = ap (λ (s : Unwritten). s.calls) same in
    told_grows old.later new.later (held_of old) (held_of new) bytes (ap (λ (s : Unwritten). s.later) same)
    (ap (λ (calls : List Call). record (held_of new) { calls = calls }) same_calls ∙ grows)

-- the bytes that are being written, where the contract says what the files hold
told_written : (later : Option Change) (h : Held) → IfSome (told later h) (λ now. written h ≡ written now)
told_written None h = refl
told_written (Some change) h = tt

-- the same, of files in memory
pub told_contents : (files : Stored) → IfSome (told_of files) (λ now. written_of files ≡ written now)
told_contents files = told_written files.later (held_of files)
