-- Ranks written as six digits, and the text of a File ID that is made of four of them.
use Rattle.std.proofs.Common.{◌≡◌, ◌≤◌, ◌+◌, ◌-◌, ℕ, List, [], ◌++◌, length, take, drop, replicate, refl, sym, ap, ◌∙◌}
use Rattle.std.proofs.Common.{subst, arith}
use Rattle.std.specs.Prelude.{codes, decimal}
use Rattle.std.proofs.lemmas.Fmt.{length-decimal-le}
use Rattle.std.proofs.lemmas.List.{append_assoc, append-nil, length-append, length-replicate, take-append-drop}
use Rattle.std.proofs.lemmas.List.{take-append-le, take-replicate}
use Rattle.std.proofs.Math.Seq.{take-append-add, drop-append-add}
use Rattle.dd_elem.specs.FileId.{IsRank, ranks_of, six_digits, text_of}

-- a rank has at most six digits
pub length-rank : (rank : ℕ) → IsRank rank → length (decimal rank) ≤ 6
length-rank rank h = length-decimal-le 6 rank (omega arith) (omega arith) (omega arith)

-- the same of a number that equals a rank
pub length-same_rank : (number rank : ℕ) → number ≡ rank → IsRank rank → length (decimal number) ≤ 6
length-same_rank number rank same h = subst (λ (n : ℕ). length (decimal n) ≤ 6) (sym same) (length-rank rank h)

-- with its zeros it has six
pub length-six_digits : (rank : ℕ) → IsRank rank → length (six_digits rank) ≡ 6
length-six_digits rank h =
    omega (
      arith,
      length-rank rank h,
      length-append (replicate (6 - length (decimal rank)) 48) (decimal rank),
      length-replicate {A = ℕ} (6 - length (decimal rank)) 48,
    )

-- a rank's digits were written so that they end at `end`
pub record IsWritten (rank end start : ℕ) (old new : List ℕ) : Type 0 where
  pub is_rank : IsRank rank
  pub starts : start + length (decimal rank) ≡ end
  pub written : drop start new ≡ decimal rank ++ drop end old
  pub before : take start new ≡ take start old

-- the same of a number that equals a rank
pub is_written : (number rank end start : ℕ) (old new : List ℕ) → number ≡ rank → IsRank rank
    → start + length (decimal number) ≡ end → drop start new ≡ decimal number ++ drop end old
    → take start new ≡ take start old → IsWritten rank end start old new
is_written number rank end start old new same h starts written before =
    subst (λ (n : ℕ). IsWritten n end start old new) same
    (record { is_rank = subst IsRank (sym same) h; starts = starts; written = written; before = before })

-- what stands before the digits
digits_front : (front back : List ℕ) (count : ℕ) → count ≤ 6
    → take (length front + count) (front ++ (replicate 6 48 ++ back)) ≡ front ++ replicate count 48
digits_front front back count few =
    take-append-add front (replicate 6 48 ++ back) count
    ∙ ap (λ (b : List ℕ). front ++ b) (take-append-le count (replicate 6 48) back (omega (arith, few))
    ∙ take-replicate count 6 48 few)

-- digits written over six zeros make six digits
pub six_digits_written : (front back old new : List ℕ) (rank end start : ℕ) → IsWritten rank end start old new
    → old ≡ front ++ (replicate 6 48 ++ back) → length front + 6 ≡ end → new ≡ front ++ (six_digits rank ++ back)
six_digits_written front back old new rank end start h is ends =
    let short : length (decimal rank) ≤ 6 = length-rank rank h.is_rank in
    let place : start ≡ length front + (6 - length (decimal rank)) = omega (arith, h.starts) in
    let head : take start new ≡ front ++ replicate (6 - length (decimal rank)) 48 =
    h.before ∙ ap (take start) is ∙ ap (λ (n : ℕ). take n (front ++ (replicate 6 48 ++ back))) place
    ∙ digits_front front back (6 - length (decimal rank)) (omega arith) in
    let after : drop end old ≡ back =
    ap (drop end) is ∙ ap (λ (n : ℕ). drop n (front ++ (replicate 6 48 ++ back))) (sym ends)
    ∙ drop-append-add front (replicate 6 48 ++ back) 6 in
    sym (take-append-drop start new)
    ∙ ap (λ (b : List ℕ). b ++ drop start new) head
    ∙ ap (λ (b : List ℕ). (front ++ replicate (6 - length (decimal rank)) 48) ++ b)
    (h.written ∙ ap (λ (b : List ℕ). decimal rank ++ b) after)
    ∙ append_assoc front (replicate (6 - length (decimal rank)) 48) (decimal rank ++ back)
    ∙ ap (λ (b : List ℕ). front ++ b) (sym (append_assoc (replicate (6 - length (decimal rank)) 48) (decimal rank)
    back))

-- the same, where letters follow the digits and more zeros them
then_letters : (front letters back old new : List ℕ) (rank end start : ℕ) → IsWritten rank end start old new
    → old ≡ front ++ (replicate 6 48 ++ (letters ++ back)) → length front + 6 ≡ end
    → new ≡ (front ++ (six_digits rank ++ letters)) ++ back
then_letters front letters back old new rank end start h is ends =
    six_digits_written front (letters ++ back) old new rank end start h is ends ∙ simp append_assoc

-- the length up to the next zeros
length_then : (front letters : List ℕ) (rank : ℕ) → IsRank rank
    → length (front ++ (six_digits rank ++ letters)) ≡ length front + (6 + length letters)
length_then front letters rank h =
    omega (
      arith,
      length-append front (six_digits rank ++ letters),
      length-append (six_digits rank) letters,
      length-six_digits rank h,
    )

-- four ranks written one after another over the zeros make the text
pub text_written : (patient study series image : ℕ) (a b c d : ℕ) (one two three four : List ℕ)
    → IsWritten patient 8 a (codes "PT000000\\ST000000\\SE000000\\IM000000") one → IsWritten study 17 b one two
    → IsWritten series 26 c two three → IsWritten image 35 d three four
    → four ≡ text_of (ranks_of patient study series image)
unfolding text_of
text_written patient study series image a b c d one two three four p s e i =
    let f1 : List ℕ = codes "PT" in
    let f2 : List ℕ = f1 ++ (six_digits patient ++ codes "\\ST") in
    let f3 : List ℕ = f2 ++ (six_digits study ++ codes "\\SE") in
    let f4 : List ℕ = f3 ++ (six_digits series ++ codes "\\IM") in
    let l2 : length f2 ≡ 11 = length_then f1 (codes "\\ST") patient p.is_rank in
    let l3 : length f3 ≡ 20 = omega (arith, l2, length_then f2 (codes "\\SE") study s.is_rank) in
    let l4 : length f4 ≡ 29 = omega (arith, l3, length_then f3 (codes "\\IM") series e.is_rank) in
    let r4 : List ℕ = replicate 6 48 ++ [] in
    let r3 : List ℕ = replicate 6 48 ++ (codes "\\IM" ++ r4) in
    let r2 : List ℕ = replicate 6 48 ++ (codes "\\SE" ++ r3) in
    let t1 : one ≡ f2 ++ r2 = then_letters f1 (codes "\\ST") r2 _ one patient 8 a p refl refl in
    let t2 : two ≡ f3 ++ r3 = then_letters f2 (codes "\\SE") r3 one two study 17 b s t1 (omega (arith, l2)) in
    let t3 : three ≡ f4 ++ r4 = then_letters f3 (codes "\\IM") r4 two three series 26 c e t2 (omega (arith, l3)) in
    let t4 : four ≡ f4 ++ (six_digits image ++ []) = six_digits_written f4 [] three four image 35 d i t3
    (omega (arith, l4)) in
    t4 ∙ simp (append_assoc, append-nil)
