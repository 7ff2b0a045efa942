-- The lines of what is withdrawn: the first piece of a value, and the pieces that went so far.
use Rattle.std.proofs.Common.{◌≡◌, ◌∙◌, ◌==◌, ℕ, List, [], ◌∷◌, ◌++◌, ◌+◌, ◌-◌}
use Rattle.std.proofs.Common.{Option, Some, None, Result, length, take, drop, ap, sym, subst, refl, arith}
use Rattle.std.proofs.Common.{append_assoc, append-nil, length-drop}
use Rattle.std.specs.Prelude.{IsErr, option_map}
use Rattle.std.specs.Borrow.{Bor}
use Rattle.std.specs.List.{position}
use Rattle.std.proofs.lemmas.List.{take_all}
use Rattle.std.proofs.lemmas.List.Splits.{slice_split_first, slice_split_none}
use Rattle.std.proofs.lemmas.List.Sums.{fails_before_first}
use Rattle.std.proofs.lemmas.Grind.{flat_map-append}
use Rattle.dd_walk.specs.WithdrawnPieces.{pieces_in, pieces_of}
use Rattle.dd_report.specs.Listing.{withdrawn_line, withdrawn_lines}
use Rattle.dd_json.specs.declared.value.Style.{Style}
use Rattle.dd_lines.specs.Telling.{Fails, GoesOn, Tells, Way}
use Rattle.dd_files.proofs.FirstPlaces.{first_within, none_within}
use Rattle.dd_lines.proofs.GoingOn.{fails_next, fails_front, goes_none, goes_then, tells_err}

-- ---- the first piece

-- there is a separator, and after it the other pieces
pub some_after : (value : List ℕ) (at : ℕ) → Some at ≡ position (λ byte. byte == 92) value
    → pieces_of value ≡ take at value ∷ pieces_of (take (length value - (at + 1)) (drop (at + 1) value))
some_after value at is =
    let found = first_within (λ byte. byte == 92) value at is in
    let rest = take_all (length value - (at + 1)) (drop (at + 1) value) (omega (arith, length-drop (at + 1) value)) in
    slice_split_first (λ byte. byte == 92) value 0 found.0
    ∙ ap (λ (n : ℕ). take n value ∷ pieces_of (drop (n + 1) value)) found.1
    ∙ ap (λ (xs : List ℕ). take at value ∷ pieces_of xs) (sym rest)

-- where the value has no separator, it is one piece
pub none_after : (value : List ℕ) → None ≡ position (λ byte. byte == 92) value → pieces_of value ≡ value ∷ []
none_after value is =
    let past = none_within (λ byte. byte == 92) value is in
    slice_split_none (λ byte. byte == 92) value
    (λ k d within. fails_before_first (λ byte. byte == 92) value k d (omega (arith, within, past)))

-- ---- the pieces so far

-- what comes after the pieces that went
abbrev pub left : Option (Bor (List ℕ)) → List (List ℕ)
left rest = pieces_in (option_map (λ value. value.now) rest)

-- some pieces went, and these are left
pub record PiecesWent (style : Style) (value : List ℕ) (rest : List (List ℕ)) (old new : Way) : Type 0 where
  pub gone : List (List ℕ)
  pub all : pieces_of value ≡ gone ++ rest
  pub went : GoesOn (withdrawn_lines style gone) old new

pub none_went : (style : Style) (value : List ℕ) (w : Way) → PiecesWent style value (pieces_of value) w w
none_went style value w = record { gone = []; all = refl; went = goes_none w }

one_line : (style : Style) (piece : List ℕ) → withdrawn_lines style (piece ∷ []) ≡ withdrawn_line style piece
one_line style piece = append-nil (withdrawn_line style piece)

pub piece_went : (style : Style) (value piece : List ℕ) (rest after : List (List ℕ)) (a b c : Way)
    → rest ≡ piece ∷ after
    → PiecesWent style value rest a b → GoesOn (withdrawn_line style piece) b c → PiecesWent style value after a c
piece_went style value piece rest after a b c is so_far next = record {
  gone = so_far.gone ++ piece ∷ [];
  all = so_far.all ∙ ap (λ (xs : List (List ℕ)). so_far.gone ++ xs) is
      ∙ sym (append_assoc so_far.gone (piece ∷ []) after);
  went = subst (λ (text : List ℕ). GoesOn text a c)
      (sym (flat_map-append (withdrawn_line style) so_far.gone (piece ∷ [])
      ∙ ap (λ (xs : List ℕ). withdrawn_lines style so_far.gone ++ xs) (one_line style piece)))
      (goes_then (withdrawn_lines style so_far.gone) (withdrawn_line style piece) a b c so_far.went next);
}

pub pieces_went : (style : Style) (value : List ℕ) (rest : List (List ℕ)) (a b : Way) → rest ≡ []
    → PiecesWent style value rest a b
    → GoesOn (withdrawn_lines style (pieces_of value)) a b
pieces_went style value rest a b none so_far =
    subst (λ (pieces : List (List ℕ)). GoesOn (withdrawn_lines style pieces) a b)
    (sym (so_far.all ∙ ap (λ (xs : List (List ℕ)). so_far.gone ++ xs) none ∙ append-nil so_far.gone)) so_far.went

-- the writer failed in the next one
pub piece_fails : {T E : Type 0} (r : Result T E) (style : Style) (value piece : List ℕ) (rest after : List (List ℕ))
    (a b c : Way)
    → IsErr r → rest ≡ piece ∷ after → PiecesWent style value rest a b → Fails (withdrawn_line style piece) b c
    → Tells r (withdrawn_lines style (pieces_of value)) a c
piece_fails r style value piece rest after a b c err is so_far failed =
    let all : withdrawn_lines style (pieces_of value)
    ≡ withdrawn_lines style so_far.gone ++ (withdrawn_line style piece ++ withdrawn_lines style after) =
    ap (withdrawn_lines style) (so_far.all ∙ ap (λ (xs : List (List ℕ)). so_far.gone ++ xs) is)
    ∙ flat_map-append (withdrawn_line style) so_far.gone (piece ∷ after) in
    tells_err r (withdrawn_lines style (pieces_of value)) a c err (subst (λ (text : List ℕ). Fails text a c) (sym all)
    (fails_next (withdrawn_lines style so_far.gone) (withdrawn_line style piece ++ withdrawn_lines style after) a b c
    so_far.went
    (fails_front (withdrawn_line style piece) (withdrawn_lines style after) b c failed)))
