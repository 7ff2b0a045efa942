-- How a reader over memory moves on.
use Rattle.std.proofs.Common.{◌≡◌, ℕ, List, [], ◌++◌, ◌+◌, ◌<◌, min, length, take, drop, Some, None, sym, ap, ◌∙◌}
use Rattle.std.proofs.Common.{arith}
use Rattle.std.specs.Prelude.{Option}
use Rattle.std.proofs.lemmas.List.{drop-drop, take-append-drop, nil_from_length}
use Rattle.dd_vectors.specs.ByteSource.{Source, next_len}
use Rattle.dd_elem.specs.Device.{IsBeforeFail, passing}

-- the bytes from a place on: the next n, and those after them
pub drop-split : (bytes : List ℕ) (at n : ℕ) → drop at bytes ≡ take n (drop at bytes) ++ drop (at + n) bytes
drop-split bytes at n = sym (ap (λ rest. take n (drop at bytes) ++ rest) (sym (drop-drop n at bytes))
    ∙ take-append-drop n (drop at bytes))

-- a device before its failure lets nothing pass only where nothing is wanted
pub passing-zero : (fails : Option ℕ) (passed wanted : ℕ) → IsBeforeFail fails passed → passing fails passed wanted ≡ 0
    → wanted ≡ 0
passing-zero None passed wanted before none = none
passing-zero (Some fails) passed wanted before none = omega arith

-- a read with room that gives nothing has come to the end
pub next_len-end : (s : Source) (room : ℕ) → 0 < s.piece → IsBeforeFail s.fails (length s.given) → next_len s room ≡ 0
    → 0 < room → s.left ≡ []
next_len-end s room piece before none room_is =
    let wanted = passing-zero s.fails (length s.given) (min (min room s.piece) (length s.left)) before none in
    nil_from_length s.left (omega arith)
