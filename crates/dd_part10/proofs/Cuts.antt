-- Where a file is cut: a check of its first bytes says nothing of those after them.
use Rattle.std.proofs.Common.{◌≡◌, ◌≤◌, ◌<◌, ◌==◌, ℕ, Bool, true, false, if◌then◌else◌, nat_lt, List, [], ◌∷◌, ◌++◌}
use Rattle.std.proofs.Common.{length, take, drop, Option, Some, None, option_map, Result, Ok, Err, refl, ap, ◌∙◌}
use Rattle.std.proofs.Common.{arith, length-append}
use Rattle.std.specs.Int.{w32, from_le_bytes}
use Rattle.std.specs.Option.{ok_or}
use Rattle.std.proofs.lemmas.Bool.{le-ltb, lt-ltb, ltb-false}
use Rattle.std.proofs.lemmas.List.{drop-append-le, length-drop, nil_from_length}
use Rattle.dd_elem.specs.declared.vr.Vr.TheVariants.{UL}
use Rattle.dd_encoding.specs.Spelling.{header_text}
use Rattle.dd_grammar.proofs.Steps.{long_front}
use Rattle.dd_part10.specs.declared.fault.FileFault.{FileFault}
use Rattle.dd_part10.specs.declared.fault.FileFault.TheVariants.{NotPart10, GroupLength}
use Rattle.dd_encoding.specs.Head.{prefix}
use Rattle.dd_part10.specs.File.{max_group_length}
use Rattle.dd_grammar.specs.AnswersAs.{FailsAs}
use Rattle.dd_part10.specs.Faults.{is_memory}
use Rattle.dd_encoding.specs.Meta.{group_length_tag}
use Rattle.dd_grammar.specs.Reading.{◌>>=◌}
use Rattle.dd_part10.specs.Reading.{rest_after, rest_after_prefix, count_in, split_at, after_length}
use Rattle.dd_part10.proofs.Faults.{fails_along, bind_fails}
use Rattle.dd_part10.proofs.Fronts.{rest_after-is}
use Rattle.dd_part10.proofs.Steps.{bind_ok, onward, there, passes}

if_map : (b : Bool) (o p : Option (List ℕ)) (g : List ℕ → List ℕ) → p ≡ option_map g o
    → (if b then p else None) ≡ option_map g (if b then o else None)
if_map true o p g h = h
if_map false o p g h = refl

-- what stands after a front, of bytes that have others after them
rest_after-more : (front bs more : List ℕ) → length front ≤ length bs
    → rest_after front (bs ++ more) ≡ option_map (λ rest. rest ++ more) (rest_after front bs)
rest_after-more [] bs more long = refl
rest_after-more (first ∷ front) [] more long = absurd (omega (arith, long))
rest_after-more (first ∷ front) (byte ∷ bs) more long =
    if_map (first == byte) (rest_after front bs) (rest_after front (bs ++ more)) (λ rest. rest ++ more)
    (rest_after-more front bs more (omega (arith, long)))

-- ---- the preamble and the prefix

prefix_and : (o : Option (List ℕ)) (more : List ℕ) → ((rest : List ℕ) → o ≡ Some rest → rest ≡ [])
    → ok_or (option_map (λ rest. rest ++ more) o) NotPart10 ≡ (ok_or o NotPart10 >>= λ _. Ok more)
prefix_and None more none = refl
prefix_and (Some rest) more none = rw (none rest refl) refl

-- they are found in the first 132 bytes, and after them stand the others
pub prefix_cut : (front more : List ℕ) → length front ≡ 132
    → rest_after_prefix (front ++ more) ≡ (rest_after_prefix front >>= λ _. Ok more)
unfolding rest_after_prefix
prefix_cut front more size =
    let back : length (drop 128 front) ≡ 4 = omega (arith, length-drop 128 front) in
    ap (λ (bs : List ℕ). ok_or (rest_after prefix bs) NotPart10) (drop-append-le 128 front more (omega arith))
    ∙ ap (λ (o : Option (List ℕ)). ok_or o NotPart10) (rest_after-more prefix (drop 128 front) more (omega arith))
    ∙ prefix_and (rest_after prefix (drop 128 front)) more (λ rest found.
    nil_from_length rest (omega (
      arith,
      back,
      ap length (rest_after-is prefix (drop 128 front) rest found),
      length-append prefix rest,
    )))

-- ---- the group length

-- it is a number, and that number of bytes after it
pub length_is : (bs : List ℕ) → after_length bs ≡ (count_in bs >>= λ n. split_at n (drop 12 bs))
unfolding after_length
length_is bs = refl

-- the number in what stands after its header
abbrev number_of_rest : List ℕ → Result ℕ FileFault
number_of_rest rest = if nat_lt (length rest) 4 then Err GroupLength
    else (if nat_lt max_group_length (from_le_bytes w32 rest) then Err GroupLength else Ok (from_le_bytes w32 rest))

number_cut : (rest more : List ℕ) → length rest ≡ 4 → number_of_rest (rest ++ more) ≡ number_of_rest rest
number_cut rest more size =
    rw (
      le-ltb (length (rest ++ more)) 4 (omega (arith, length-append rest more)),
      le-ltb (length rest) 4 (omega arith),
      long_front rest more size,
    ) refl

number_and : (o : Option (List ℕ)) (more : List ℕ) → ((rest : List ℕ) → o ≡ Some rest → length rest ≡ 4)
    → (ok_or (option_map (λ rest. rest ++ more) o) GroupLength >>= number_of_rest)
    ≡ (ok_or o GroupLength >>= number_of_rest)
number_and None more size = refl
number_and (Some rest) more size = number_cut rest more (size rest refl)

-- the number is found in the first 12 bytes
pub count_cut : (front more : List ℕ) → length front ≡ 12 → count_in (front ++ more) ≡ count_in front
unfolding count_in
count_cut front more size =
    let header = header_text group_length_tag (Some UL) 4 in
    ap (λ (o : Option (List ℕ)). ok_or o GroupLength >>= number_of_rest) (rest_after-more header front more (omega arith))
    ∙ number_and (rest_after header front) more (λ rest found. omega
    (arith, ap length (rest_after-is header front rest found), length-append header rest))

-- after its header stand four bytes
pub header_long : (front rest : List ℕ) → rest_after (header_text group_length_tag (Some UL) 4) front ≡ Some rest
    → 4 ≤ length rest → 12 ≤ length front
header_long front rest found size =
    let header = header_text group_length_tag (Some UL) 4 in
    omega (arith, size, ap length (rest_after-is header front rest found), length-append header rest)

-- where it was found there are 12 bytes
pub count_long : (front : List ℕ) (n : ℕ) → count_in front ≡ Ok n → 12 ≤ length front
unfolding count_in
count_long front n h =
    let header = header_text group_length_tag (Some UL) 4 in
    let next : List ℕ → Result ℕ FileFault = λ rest. if nat_lt (length rest) 4 then Err GroupLength
    else (if nat_lt max_group_length (from_le_bytes w32 rest) then Err GroupLength else Ok (from_le_bytes w32 rest))
    in
    let a = bind_ok (ok_or (rest_after header front) GroupLength) next n h in
    let is = rest_after-is header front a.0 (there (rest_after header front) GroupLength a.0 a.1) in
    let b = passes (nat_lt (length a.0) 4) GroupLength
    (if nat_lt max_group_length (from_le_bytes w32 a.0) then Err GroupLength else Ok (from_le_bytes w32 a.0)) n a.2 in
    omega (arith, ap length is, length-append header a.0, ltb-false (length a.0) 4 b.0)

-- where the group length is refused, so are the group and the set
pub length_fails : (e : FileFault) (bs : List ℕ) → FailsAs is_memory e (count_in bs)
    → FailsAs is_memory e (after_length bs)
length_fails e bs h =
    fails_along e (count_in bs) (after_length bs) h
    (λ f k. length_is bs ∙ bind_fails (count_in bs) (λ n. split_at n (drop 12 bs)) f k)

-- fewer bytes than it counts, and as many
pub split_fails : (bs : List ℕ) (n : ℕ) → count_in bs ≡ Ok n → length (drop 12 bs) < n
    → after_length bs ≡ Err GroupLength
split_fails bs n count few =
    let short : split_at n (drop 12 bs) ≡ Err GroupLength = rw (lt-ltb (length (drop 12 bs)) n few) refl in
    length_is bs ∙ onward (count_in bs) n (λ k. split_at k (drop 12 bs)) count ∙ short

pub split_gives : (bs group set : List ℕ) (n : ℕ) → count_in bs ≡ Ok n → n ≤ length (drop 12 bs)
    → group ≡ take n (drop 12 bs) → set ≡ drop n (drop 12 bs) → after_length bs ≡ Ok (group, set)
split_gives bs group set n count enough front back =
    let whole : split_at n (drop 12 bs) ≡ Ok
    (group, set) = rw (le-ltb (length (drop 12 bs)) n enough, front, back) refl in
    length_is bs ∙ onward (count_in bs) n (λ k. split_at k (drop 12 bs)) count ∙ whole
