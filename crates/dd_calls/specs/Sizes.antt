-- The sizes of an answer, and the room that it lies in.
use Rattle.std.specs.Prelude.{ℕ, List, ◌++◌, length, drop}
use Rattle.dd_calls.specs.declared.answer.Answer.{Answer}

-- these lie over the front of what was there
abbrev pub over : {A : Type 0} → List A → List A → List A
over given old = given ++ drop (length given) old

-- the answer of a call that gives this many bytes of text, rows and bytes of File IDs
abbrev pub sized : ℕ → ℕ → ℕ → Answer
sized text rows files = record {
  text = text;
  rows = rows;
  files = files;
  source = 0;
  fault = 0;
  within = 0;
  cause = 0;
  at = 0;
  tag = 0;
}

-- the answer of a call that is refused by a fault of this number alone
abbrev pub by_number : ℕ → Answer
by_number fault = record (sized 0 0 0) { fault = fault }
