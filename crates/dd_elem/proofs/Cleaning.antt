-- What `clean_of` leaves of a value.
use Rattle.std.proofs.Common.{◌≡◌, ◌≢◌, ◌≤◌, ◌<◌, ◌+◌, ◌-◌, ℕ, true, false, List, [], ◌∷◌, ◌++◌, length, get_or, take}
use Rattle.std.proofs.Common.{refl, sym, ap, ◌∙◌, subst, ⊎_elim, arith}
use Rattle.std.proofs.lemmas.List.{take_at, take_all, take_more, length-append, nil_from_length, same_from_push}
use Rattle.std.proofs.lemmas.List.Elements.{All-head, All-tail}
use Rattle.std.proofs.lemmas.Bool.{or_parts, or_from, ne_eqb, eqb-false, cond-true, cond-false, cases_Bool}
use Rattle.std.specs.Prelude.{All}
use Rattle.dd_elem.specs.Clean.{IsCleanOf, EndsUnpadded, clean_of, keep, is_padding}

-- no bytes do not end in a byte
ends_in_none : (front : List ℕ) (last : ℕ) → [] ≡ front ++ last ∷ [] → ⊥
ends_in_none front last e = omega (arith, ap length e, length-append front (last ∷ []))

-- a byte that is no padding is neither NUL nor space
not_padding : (byte : ℕ) → is_padding byte ≡ false → (byte ≢ 0) × (byte ≢ 32)
not_padding byte e = let p = or_parts _ _ e in (eqb-false byte 0 p.0, eqb-false byte 32 p.1)

-- a padding byte before nothing goes
keep_padding : (byte : ℕ) → is_padding byte ≡ true → keep byte [] ≡ []
keep_padding byte e = cond-true _ _ _ e

-- a byte that is no padding stays before nothing
keep_other : (byte : ℕ) → is_padding byte ≡ false → keep byte [] ≡ byte ∷ []
keep_other byte e = cond-false _ _ _ e

-- one byte and what is kept after it begin the bytes
keep_begins : (byte : ℕ) (kept rest : List ℕ) → (more : List ℕ) × (byte ∷ (kept ++ rest) ≡ keep byte kept ++ more)
keep_begins byte (next ∷ kept) rest = (rest, refl)
keep_begins byte [] rest =
    ⊎_elim
    (λ e. (byte ∷ rest, ap (λ (k : List ℕ). k ++ (byte ∷ rest)) (sym (keep_padding byte e))))
    (λ e. (rest, ap (λ (k : List ℕ). k ++ rest) (sym (keep_other byte e))))
    (cases_Bool (is_padding byte))

-- what is kept begins the bytes
pub clean_of_begins : (bytes : List ℕ) → (rest : List ℕ) × (bytes ≡ clean_of bytes ++ rest)
clean_of_begins [] = ([], refl)
clean_of_begins (byte ∷ bytes) =
    let p = clean_of_begins bytes in
    let q = keep_begins byte (clean_of bytes) p.0 in
    (q.0, ap (λ (b : List ℕ). byte ∷ b) p.1 ∙ q.1)

-- one byte that is no padding ends in none
one_ends : (byte : ℕ) → is_padding byte ≡ false → EndsUnpadded (byte ∷ [])
one_ends byte e front last is =
    subst (λ (b : ℕ). (b ≢ 0) × (b ≢ 32)) ((same_from_push [] front byte last is).1) (not_padding byte e)

-- a byte before some that end in no padding
kept_ends : (byte next : ℕ) (kept : List ℕ) → EndsUnpadded (next ∷ kept) → EndsUnpadded (byte ∷ next ∷ kept)
kept_ends byte next kept ends [] last is = absurd (omega (arith, ap length is))
kept_ends byte next kept ends (first ∷ front) last is = ends front last cc

-- a byte before what is kept
keep_ends : (byte : ℕ) (kept : List ℕ) → EndsUnpadded kept → EndsUnpadded (keep byte kept)
keep_ends byte (next ∷ kept) ends = kept_ends byte next kept ends
keep_ends byte [] ends =
    ⊎_elim
    (λ e. subst EndsUnpadded (sym (keep_padding byte e)) ends)
    (λ e. subst EndsUnpadded (sym (keep_other byte e)) (one_ends byte e))
    (cases_Bool (is_padding byte))

-- cleaned bytes end in no padding
pub clean_of_ends : (bytes : List ℕ) → EndsUnpadded (clean_of bytes)
clean_of_ends [] = λ front last is. absurd (ends_in_none front last is)
clean_of_ends (byte ∷ bytes) = keep_ends byte (clean_of bytes) (clean_of_ends bytes)

-- bytes that end in no padding do so without their first byte, too
tail_ends : (byte : ℕ) (bytes : List ℕ) → EndsUnpadded (byte ∷ bytes) → EndsUnpadded bytes
tail_ends byte bytes ends front last is = ends (byte ∷ front) last (ap (λ (b : List ℕ). byte ∷ b) is)

-- one byte that ends in no padding is no padding
one_unpadded : (byte : ℕ) → EndsUnpadded (byte ∷ []) → is_padding byte ≡ false
one_unpadded byte ends =
    let p = ends [] byte refl in
    or_from _ _ (ne_eqb byte 0 p.0) (ne_eqb byte 32 p.1)

-- bytes that end in no padding are their own clean
pub clean_of-unpadded : (bytes : List ℕ) → EndsUnpadded bytes → clean_of bytes ≡ bytes
clean_of-unpadded [] ends = refl
clean_of-unpadded (byte ∷ []) ends = keep_other byte (one_unpadded byte ends)
clean_of-unpadded (byte ∷ next ∷ bytes) ends = ap (keep byte)
    (clean_of-unpadded (next ∷ bytes) (tail_ends byte (next ∷ bytes) ends))

-- cleaned bytes are their own clean
pub clean_of-clean_of : (bytes : List ℕ) → clean_of (clean_of bytes) ≡ clean_of bytes
clean_of-clean_of bytes = clean_of-unpadded (clean_of bytes) (clean_of_ends bytes)

-- bytes that are their own clean end in no padding
pub unpadded_from_clean_of : (bytes : List ℕ) → clean_of bytes ≡ bytes → EndsUnpadded bytes
unpadded_from_clean_of bytes e = subst EndsUnpadded e (clean_of_ends bytes)

-- nothing is longer once cleaned
pub length-clean_of : (bytes : List ℕ) → length (clean_of bytes) ≤ length bytes
length-clean_of bytes =
    let p = clean_of_begins bytes in
    omega (arith, ap length p.1, length-append (clean_of bytes) p.0)

-- padding alone leaves nothing
pub clean_of_padding : (padding : List ℕ) → All (λ byte. is_padding byte ≡ true) padding → clean_of padding ≡ []
clean_of_padding [] pads = refl
clean_of_padding (byte ∷ bytes) pads =
    ap (keep byte) (clean_of_padding bytes (All-tail (λ b. is_padding b ≡ true) byte bytes pads))
    ∙ keep_padding byte (All-head (λ b. is_padding b ≡ true) byte bytes pads)

-- padding at the end of a value changes nothing of what is left
pub clean_of-append_padding : (bytes padding : List ℕ) → All (λ byte. is_padding byte ≡ true) padding
    → clean_of (bytes ++ padding) ≡ clean_of bytes
clean_of-append_padding [] padding pads = clean_of_padding padding pads
clean_of-append_padding (byte ∷ bytes) padding pads = ap (keep byte) (clean_of-append_padding bytes padding pads)

-- one padding byte at the end of a value changes nothing of what is left
pub clean_of_push_padding : (bytes : List ℕ) (byte : ℕ) → is_padding byte ≡ true
    → clean_of (bytes ++ byte ∷ []) ≡ clean_of bytes
clean_of_push_padding [] byte e = keep_padding byte e
clean_of_push_padding (first ∷ bytes) byte e = ap (keep first) (clean_of_push_padding bytes byte e)

-- the NUL that pads a UID
pub clean_of_push_nul : (bytes : List ℕ) → clean_of (bytes ++ 0 ∷ []) ≡ clean_of bytes
clean_of_push_nul bytes = clean_of_push_padding bytes 0 refl

-- the space that pads a text
pub clean_of_push_space : (bytes : List ℕ) → clean_of (bytes ++ 32 ∷ []) ≡ clean_of bytes
clean_of_push_space bytes = clean_of_push_padding bytes 32 refl

-- bytes after which stands one that is no padding are kept
pub clean_of_push_other : (bytes : List ℕ) (byte : ℕ) → is_padding byte ≡ false → clean_of (bytes ++ byte ∷ []) ≡ bytes
    ++ byte ∷ []
clean_of_push_other [] byte e = keep_other byte e
clean_of_push_other (first ∷ []) byte e = ap (keep first) (keep_other byte e)
clean_of_push_other (first ∷ next ∷ bytes) byte e = ap (keep first) (clean_of_push_other (next ∷ bytes) byte e)

-- what ends in no padding and begins the bytes is no longer than what is kept
keep_longest : (byte : ℕ) (other kept : List ℕ) → EndsUnpadded (byte ∷ other) → length other ≤ length kept
    → length (byte ∷ other) ≤ length (keep byte kept)
keep_longest byte other (next ∷ kept) ends short = omega arith
keep_longest byte [] [] ends short =
    let e : keep byte [] ≡ byte ∷ [] = keep_other byte (one_unpadded byte ends) in
    omega (arith, ap length e)
keep_longest byte (next ∷ other) [] ends short = absurd (omega arith)

-- no longer prefix ends in no padding
clean_of_longest : (bytes other rest : List ℕ) → bytes ≡ other ++ rest → EndsUnpadded other
    → length other ≤ length (clean_of bytes)
clean_of_longest bytes [] rest is ends = omega arith
clean_of_longest [] (first ∷ other) rest is ends = absurd (omega (arith, ap length is))
clean_of_longest (byte ∷ bytes) (first ∷ other) rest is ends =
    let same : byte ≡ first = cc in
    let below : bytes ≡ other ++ rest = cc in
    subst (λ (b : ℕ). length (first ∷ other) ≤ length (keep b (clean_of bytes))) (sym same)
    (keep_longest first other (clean_of bytes) ends (clean_of_longest bytes other rest below
    (tail_ends first other ends)))

-- `clean_of` gives the longest prefix that ends in no padding
pub IsCleanOf-clean_of : (bytes : List ℕ) → IsCleanOf bytes (clean_of bytes)
IsCleanOf-clean_of bytes = record {
  prefix = clean_of_begins bytes;
  unpadded = clean_of_ends bytes;
  longest = clean_of_longest bytes;
}

-- the same of bytes that equal what is kept
pub IsCleanOf_from_is : (bytes kept : List ℕ) → kept ≡ clean_of bytes → IsCleanOf bytes kept
IsCleanOf_from_is bytes kept is = subst (IsCleanOf bytes) (sym is) (IsCleanOf-clean_of bytes)

-- no other prefix is the longest that ends in no padding
pub same_from_IsCleanOf : (bytes kept : List ℕ) → IsCleanOf bytes kept → kept ≡ clean_of bytes
same_from_IsCleanOf bytes kept is =
    let p = clean_of_begins bytes in
    let q = is.prefix in
    let up : length kept ≤ length (clean_of bytes) = clean_of_longest bytes kept q.0 q.1 is.unpadded in
    let down : length (clean_of bytes) ≤ length kept = is.longest (clean_of bytes) p.0 p.1 (clean_of_ends bytes) in
    let equal : length (clean_of bytes) ≡ length kept = omega arith in
    sym (take_at kept q.0 (length kept) refl) ∙ ap (take (length kept)) (sym q.1 ∙ p.1)
    ∙ take_at (clean_of bytes) p.0 (length kept) equal

-- nothing is left of no bytes
pub clean_of_none : (bytes : List ℕ) → length bytes ≡ 0 → bytes ≡ clean_of bytes
clean_of_none bytes none = let e : bytes ≡ [] = nil_from_length bytes none in e ∙ ap clean_of (sym e)

-- bytes are their front and their last byte
split_last : (bytes : List ℕ) (last : ℕ) → 0 < length bytes → last ≡ get_or bytes (length bytes - 1) 0
    → bytes ≡ take (length bytes - 1) bytes ++ last ∷ []
split_last bytes last some is =
    let at : length bytes - 1 + 1 ≡ length bytes = omega arith in
    sym (take_all (length bytes) bytes (omega arith))
    ∙ ap (λ (n : ℕ). take n bytes) (sym at)
    ∙ take_more bytes (length bytes - 1) 0 (omega arith)
    ∙ ap (λ (b : ℕ). take (length bytes - 1) bytes ++ b ∷ []) (sym is)

-- to cut one padding byte from the end changes nothing of what is left
pub clean_of_front : (bytes : List ℕ) (last : ℕ) → 0 < length bytes → last ≡ get_or bytes (length bytes - 1) 0
    → is_padding last ≡ true → clean_of (take (length bytes - 1) bytes) ≡ clean_of bytes
clean_of_front bytes last some is e =
    sym (clean_of_push_padding (take (length bytes - 1) bytes) last e)
    ∙ ap clean_of (sym (split_last bytes last some is))

-- bytes whose last is no padding are their own clean
pub clean_of_whole : (bytes : List ℕ) (last : ℕ) → 0 < length bytes → last ≡ get_or bytes (length bytes - 1) 0
    → is_padding last ≡ false → clean_of bytes ≡ bytes
clean_of_whole bytes last some is e =
    let whole = split_last bytes last some is in
    ap clean_of whole ∙ clean_of_push_other (take (length bytes - 1) bytes) last e ∙ sym whole
