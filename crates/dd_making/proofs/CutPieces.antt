-- Bytes cut at one end more.
use Rattle.std.proofs.Common.{◌≡◌, ◌∙◌, ℕ, zero, suc, List, [], ◌∷◌, ◌++◌, ◌+◌, ◌<◌, ◌≤◌, length, map, take, get_or, refl}
use Rattle.std.proofs.Common.{sym, ap, ap₂, arith, subst}
use Rattle.std.specs.Prelude.{◌≢◌, ◌⊎◌, slice_range}
use Rattle.std.proofs.Common.{inl, inr}
use Rattle.std.proofs.lemmas.List.{map-append, take_more}
use Rattle.std.specs.Borrow.{Bor}
use Rattle.dd_making.specs.Cuts.{AreEnds, cuts}

-- where the last of these ends is
abbrev pub last_end : ℕ → List ℕ → ℕ
last_end start [] = start
last_end start (end ∷ ends) = last_end end ends

cuts_more : (start : ℕ) (bytes ends : List ℕ) (end : ℕ)
    → cuts start bytes (ends ++ end ∷ []) ≡ cuts start bytes ends ++ slice_range bytes (last_end start ends) end ∷ []
cuts_more start bytes [] end = refl
cuts_more start bytes (e ∷ ends) end =
    ap (λ (xs : List (List ℕ)). slice_range bytes start e ∷ xs) (cuts_more e bytes ends end)

last_more : (start : ℕ) (ends : List ℕ) (end : ℕ) → last_end start (ends ++ end ∷ []) ≡ end
last_more start [] end = refl
last_more start (e ∷ ends) end = last_more e ends end

ends_more : (start : ℕ) (bytes ends : List ℕ) (end : ℕ) → AreEnds start bytes ends → last_end start ends ≤ end
    → end ≤ length bytes → AreEnds start bytes (ends ++ end ∷ [])
ends_more start bytes [] end are rises within = (rises, within, tt)
ends_more start bytes (e ∷ ends) end are rises within =
    (are.0, are.1, ends_more e bytes ends end are.2 rises within)

-- the pieces so far are the cuts at the first ends
pub record AreCut (bytes ends : List ℕ) (i start : ℕ) (pieces : List (Bor (List ℕ))) : Type 0 where
  pub pieces_are : map (λ (piece : Bor (List ℕ)). piece.now) pieces ≡ cuts 0 bytes (take i ends)
  pub start_is : start ≡ last_end 0 (take i ends)
  pub within : start ≤ length bytes
  pub are : AreEnds 0 bytes (take i ends)

pub cut_more : (bytes ends : List ℕ) (i start end d : ℕ) (piece : Bor (List ℕ)) (pieces more : List (Bor (List ℕ)))
    → i < length ends → end ≡ get_or ends i d → start ≤ end → end ≤ length bytes
    → piece.now ≡ slice_range bytes start end
    → more ≡ pieces ++ piece ∷ [] → AreCut bytes ends i start pieces → AreCut bytes ends (i + 1) end more
cut_more bytes ends i start end d piece pieces more below is rises within cut pushed so_far =
    let now : Bor (List ℕ) → List ℕ = λ (p : Bor (List ℕ)). p.now in
    let ends_are : take (i + 1) ends ≡ take i ends ++ end ∷ [] =
    take_more ends i d below ∙ ap (λ (e : ℕ). take i ends ++ e ∷ []) (sym is) in
    record {
      pieces_are = ap (λ (ps : List (Bor (List ℕ))). map now ps) pushed ∙ map-append now pieces (piece ∷ [])
          ∙ ap₂ (λ (xs : List (List ℕ)) (x : List ℕ). xs ++ x ∷ []) so_far.pieces_are cut
          ∙ ap (λ (s : ℕ). cuts 0 bytes (take i ends) ++ slice_range bytes s end ∷ []) so_far.start_is
          ∙ sym (cuts_more 0 bytes (take i ends) end)
          ∙ ap (λ (es : List ℕ). cuts 0 bytes es) (sym ends_are);
      start_is = sym (last_more 0 (take i ends) end) ∙ ap (λ (es : List ℕ). last_end 0 es) (sym ends_are);
      within = within;
      are = subst (λ (es : List ℕ). AreEnds 0 bytes es) (sym ends_are)
          (ends_more 0 bytes (take i ends) end so_far.are
          (subst (λ (s : ℕ). s ≤ end) so_far.start_is rises) within);
    }

-- ---- the first end that is amiss

end_at : (start : ℕ) (bytes ends : List ℕ) (i d : ℕ) → AreEnds start bytes ends → i < length ends
    → (last_end start (take i ends) ≤ get_or ends i d) × (get_or ends i d ≤ length bytes)
end_at start bytes [] i d are below = absurd (omega (arith, below))
end_at start bytes (e ∷ ends) zero d are below = (are.0, are.1)
end_at start bytes (e ∷ ends) (suc i) d are below = end_at e bytes ends i d are.2 (omega (arith, below))

-- it is before the last one, or past the bytes
pub not_ends : (bytes ends : List ℕ) (i start end d : ℕ) (pieces : List (Bor (List ℕ))) → i < length ends
    → end ≡ get_or ends i d → (end < start) ⊎ (length bytes < end) → AreCut bytes ends i start pieces
    → ¬ AreEnds 0 bytes ends
not_ends bytes ends i start end d pieces below is amiss so_far = λ are.
    let there = end_at 0 bytes ends i d are below in
    let rises : start ≤ end = subst (λ (s : ℕ). s ≤ end) (sym so_far.start_is)
    (subst (λ (e : ℕ). last_end 0 (take i ends) ≤ e) (sym is) there.0) in
    let within : end ≤ length bytes = subst (λ (e : ℕ). e ≤ length bytes) (sym is) there.1 in
    by amiss rises within
  where
    by : (end < start) ⊎ (length bytes < end) → start ≤ end → end ≤ length bytes → ⊥
    by (inl before) rises within = omega (arith, before, rises)
    by (inr past) rises within = omega (arith, past, within)

pub some_ends : (ends : List ℕ) (i : ℕ) → i < length ends → ends ≢ []
some_ends [] i below = absurd (omega (arith, below))
some_ends (e ∷ ends) i below = λ same. cc same
