-- How a text prints, and what sending it to a writer does to the bytes that it holds and to its count of failures.
use Rattle.std.specs.Prelude.{◌≡◌, ℕ, ◌<◌, List, [], ◌∷◌, ◌++◌, length, map, take, Option}
use Rattle.std.specs.Prelude.{if◌then◌else◌}
use Rattle.std.specs.Borrow.{Bor}
use Rattle.std.specs.Char.{is_control}
use Rattle.std.specs.List.{concat}
use Rattle.std.specs.Str.{chars, encode_utf8_all}
use Rattle.std.specs.Io.KnownBytes.{Appends}
use Rattle.dd_elem.specs.Device.{HasFailed}
use Rattle.dd_elem.specs.declared.device.Write.{Ghosts as WriteOf}

-- a writer with these contents and this count of failures, before and after, took all the bytes and
-- did not fail
abbrev pub TakesAll : Option (List ℕ) → Option (List ℕ) → ℕ → ℕ → List ℕ → Type 0
TakesAll old new failures_old failures_new bytes =
    (failures_new ≡ failures_old) × Appends old new bytes

-- it failed, after it had taken some of the bytes from their front, but not all
pub record FailsAmid (old new : Option (List ℕ)) (failures_old failures_new : ℕ) (bytes : List ℕ)
    : Type 0 where
  pub taken : ℕ
  pub within : taken < length bytes
  pub front : Appends old new (take taken bytes)
  pub failed : HasFailed failures_old failures_new

-- it took some of the bytes from their front, and `rest` is still to be sent
pub record Sent (bytes rest : List ℕ) (old new : Option (List ℕ)) (failures_old failures_new : ℕ)
    : Type 0 where
  pub gone : List ℕ
  pub parts : bytes ≡ gone ++ rest
  pub took : TakesAll old new failures_old failures_new gone

-- ---- the same of a writer

abbrev pub TakesText : {W : Type 0} → WriteOf W → W → W → List ℕ → Type 0
TakesText writer old new =
    TakesAll (writer.contents old) (writer.contents new) (writer.failures old) (writer.failures new)

abbrev pub FailsInText : {W : Type 0} → WriteOf W → W → W → List ℕ → Type 0
FailsInText writer old new =
    FailsAmid (writer.contents old) (writer.contents new) (writer.failures old) (writer.failures new)

abbrev pub SendsFront : {W : Type 0} → WriteOf W → W → W → List ℕ → List ℕ → Type 0
SendsFront writer old new bytes rest =
    Sent bytes rest (writer.contents old) (writer.contents new) (writer.failures old) (writer.failures new)

-- ---- how a text prints

-- a character as it prints: `?` for a control character, which is one of U+0000 to U+001F and U+007F to U+009F
abbrev pub masked_char : ℕ → ℕ
masked_char c = if is_control c then 63 else c

-- a text as it prints, character by character, in UTF-8
unfoldable pub masked : List ℕ → List ℕ
masked text = encode_utf8_all (map masked_char (chars text))

-- the parts of a line, one after the other
abbrev pub joined : List (Bor (List ℕ)) → List ℕ
joined parts = concat (map (λ part. part.now) parts)

-- the line as it prints, with its end
abbrev pub line_text : List (Bor (List ℕ)) → List ℕ
line_text parts = masked (joined parts) ++ 10 ∷ []
