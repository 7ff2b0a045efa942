-- What `==` says of bytes and of UIDs: that they compare equal.
use Rattle.std.proofs.Common.{◌≡◌, ◌∙◌, refl, sym, ap, ℕ, List, ◌&&◌, length, take, nat_eq}
use Rattle.std.proofs.lemmas.Bool.Decides.{Decides-and, Decides-eqb, Decides-like, same_from_decides}
use Rattle.std.proofs.Math.Seq.{take-append_seam}
use Rattle.std.proofs.lemmas.Map.Text.{is_eq-slice_cmp}
use Rattle.std.proofs.lemmas.Slice.Eq.{slice_eq-Decides}
use Rattle.std.specs.Cmp.Lexicographic.{pointwise}
use Rattle.std.specs.Ordering.{is_eq}
use Rattle.std.specs.Str.{bytes_eq}
use Rattle.dd_elem.specs.InPlace.{filled}
use Rattle.dd_elem.specs.Ordered.{bytes_cmp}

pub same_bytes : (x y : List ℕ) → is_eq (bytes_cmp x y) ≡ bytes_eq x y
same_bytes = is_eq-slice_cmp

-- UIDs are equal where their arrays and their lengths are
pub same_uid : (x y : List ℕ)
    → is_eq (bytes_cmp x y) ≡ (pointwise nat_eq (filled 64 x) (filled 64 y) && nat_eq (length x) (length y))
same_uid x y = same_bytes x y ∙ same_from_decides (bytes_eq x y) _ (slice_eq-Decides Decides-eqb x y _ refl)
    (Decides-like _ (λ h. sym (take-append_seam x _) ∙ ap (take (length x)) h.0
    ∙ ap (λ (n : ℕ). take n (filled 64 y)) h.1 ∙ take-append_seam y _)
    (λ e. (ap (filled 64) e, ap length e))
    (Decides-and _ _ (slice_eq-Decides Decides-eqb (filled 64 x) (filled 64 y) _ refl)
    (Decides-eqb (length x) (length y))))
