-- Text on its way to a writer through a buffer, and lines of it.
use Rattle.std.specs.Prelude.{ℕ, List, [], ◌∷◌, ◌++◌, map, nat_le, ◌&&◌, Option, Result, Ok, Err}
use Rattle.std.specs.Prelude.{if◌then◌else◌}
use Rattle.std.specs.Borrow.{Bor}
use Rattle.std.specs.List.{concat}
use Rattle.dd_elem.specs.declared.device.Write.{Ghosts as WriteOf}
use Rattle.dd_lines.specs.declared.line_buffer.LineBuffer.{LineBuffer}
use Rattle.dd_lines.specs.Text.{FailsAmid, Sent}

-- what waits in the buffer, what the writer holds, and its count of failures
pub record Way : Type 0 where
  pub waits : List ℕ
  pub holds : Option (List ℕ)
  pub failures : ℕ

abbrev pub way : List ℕ → Option (List ℕ) → ℕ → Way
way waits holds failures = record { waits = waits; holds = holds; failures = failures }

-- the same of lines on their way to their writer
abbrev pub way_of : {W : Type 0} → WriteOf W → LineBuffer W → Way
way_of writer lines = way lines.waiting (writer.contents lines.to.now) (writer.failures lines.to.now)

-- a text went on its way: a front of what waited and of it is sent, and the rest waits
abbrev pub GoesOn : List ℕ → Way → Way → Type 0
GoesOn text old new = Sent (old.waits ++ text) new.waits old.holds new.holds old.failures new.failures

-- the writer failed in what waited and in this text
abbrev pub Fails : List ℕ → Way → Way → Type 0
Fails text old new = FailsAmid old.holds new.holds old.failures new.failures (old.waits ++ text)

-- the answer of a call that sends a text on its way: it went, or the writer failed in it
abbrev pub Tells : {T E : Type 0} → Result T E → List ℕ → Way → Way → Type 0
Tells (Ok done) text old new = GoesOn text old new
Tells (Err fault) text old new = Fails text old new

-- ---- lines

-- a byte as it prints: `?` for one outside 20 to 7E
abbrev pub shown_byte : ℕ → ℕ
shown_byte byte = if nat_le 0x20 byte && nat_le byte 0x7e then byte else 63

abbrev pub shown : List ℕ → List ℕ
shown text = map shown_byte text

-- a line of these parts, one after the other, as it prints
abbrev pub shown_line : List (List ℕ) → List ℕ
shown_line parts = shown (concat parts) ++ 10 ∷ []

abbrev pub parts_of : List (Bor (List ℕ)) → List (List ℕ)
parts_of parts = map (λ part. part.now) parts
