-- A text that is on its way up to a place, and what is still to come of it.
use Rattle.std.proofs.Common.{◌≡◌, ◌∙◌, ℕ, List, [], ◌++◌, Result, refl, sym, subst, append_assoc}
use Rattle.std.specs.Prelude.{IsErr}
use Rattle.dd_lines.specs.Telling.{Fails, GoesOn, Tells, Way}
use Rattle.dd_lines.proofs.GoingOn.{fails_front, fails_next, goes_none, goes_then, tells_err, tells_then}

-- its front went, and this is the rest
pub record Along (text rest : List ℕ) (a b : Way) : Type 0 where
  pub gone : List ℕ
  pub parts : text ≡ gone ++ rest
  pub goes : GoesOn gone a b

pub along_none : (text : List ℕ) (a : Way) → Along text text a a
along_none text a = record { gone = []; parts = refl; goes = goes_none a }

-- a piece more
pub along_more : (text piece rest : List ℕ) (a b c : Way) → Along text (piece ++ rest) a b → GoesOn piece b c
    → Along text rest a c
along_more text piece rest a b c so_far next = record {
  gone = so_far.gone ++ piece;
  parts = so_far.parts ∙ sym (append_assoc so_far.gone piece rest);
  goes = goes_then so_far.gone piece a b c so_far.goes next;
}

-- the writer failed in a piece
pub along_fails : {T E : Type 0} (r : Result T E) (text piece rest : List ℕ) (a b c : Way) → IsErr r
    → Along text (piece ++ rest) a b → Fails piece b c → Tells r text a c
along_fails r text piece rest a b c err so_far failed =
    subst (λ (all : List ℕ). Tells r all a c) (sym so_far.parts)
    (tells_err r (so_far.gone ++ (piece ++ rest)) a c err
    (fails_next so_far.gone (piece ++ rest) a b c so_far.goes (fails_front piece rest b c failed)))

-- the answer for the last piece is the answer for all
pub along_tells : {T E : Type 0} (r : Result T E) (text piece : List ℕ) (a b c : Way) → Along text piece a b
    → Tells r piece b c → Tells r text a c
along_tells r text piece a b c so_far tells =
    subst (λ (all : List ℕ). Tells r all a c) (sym so_far.parts)
    (tells_then r so_far.gone piece a b c so_far.goes tells)
