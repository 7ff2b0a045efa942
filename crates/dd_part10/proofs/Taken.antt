-- What was taken of a file, front by front, is what reading it in memory gives.
use Rattle.std.proofs.Common.{◌≡◌, ◌≢◌, ◌≤◌, ◌<◌, ◌+◌, ℕ, true, false, if◌then◌else◌, nat_lt, List, [], ◌++◌, length}
use Rattle.std.proofs.Common.{take, drop, Result, Ok, Err, refl, sym, ap, ◌∙◌, arith, inl, inr, append-nil}
use Rattle.std.proofs.Common.{length-append}
use Rattle.std.specs.Result.{MatchResult, IsErrAnd}
use Rattle.std.proofs.lemmas.Bool.{cases_lt, lt-ltb, le-ltb}
use Rattle.std.proofs.lemmas.List.{length-drop}
use Rattle.std.proofs.Math.Seq.{drop-append_seam, take-append_seam}
use Rattle.dd_elem.specs.declared.tag.Tag.{Tag}
use Rattle.dd_grammar.specs.declared.fault.SetFault.{SetFault}
use Rattle.dd_grammar.specs.declared.fault.SetFault.TheVariants.{Memory}
use Rattle.dd_scan.specs.declared.found.Scan.{Scan}
use Rattle.dd_encoding.specs.declared.syntax.Syntax.{Syntax}
use Rattle.dd_encoding.specs.declared.syntax.Syntax.TheVariants.{Explicit}
use Rattle.dd_encoding.specs.Elements.{Elements}
use Rattle.dd_grammar.specs.Faults as sets
use Rattle.dd_set.specs.Memory.{WantsMemory}
use Rattle.dd_grammar.specs.Reading.{read_all}
use Rattle.dd_scan.specs.Scan.{ScanGives, first_of}
use Rattle.dd_part10.specs.declared.fault.FileFault.{FileFault}
use Rattle.dd_part10.specs.declared.fault.FileFault.TheVariants.{NotPart10, GroupLength}
use Rattle.dd_part10.specs.declared.fault.FileFault.TheVariants as faults
use Rattle.dd_encoding.specs.declared.meta.Meta.{Meta}
use Rattle.dd_part10.specs.declared.scanned.Scanned.{Scanned}
use Rattle.dd_encoding.specs.Head.{prefix}
use Rattle.dd_grammar.specs.AnswersAs.{FailsAs, AnswersAs}
use Rattle.dd_part10.specs.Faults.{is_memory}
use Rattle.dd_part10.specs.Memory.{WantsNone}
use Rattle.dd_grammar.specs.Reading.{◌>>=◌}
use Rattle.dd_part10.specs.Reading.{rest_after, rest_after_prefix, after_length, meta_in, starts_above, set_in}
use Rattle.dd_part10.specs.Reading.{file_in}
use Rattle.dd_part10.specs.Reading.{count_in, split_at, syntax_in, may_follow}
use Rattle.dd_part10.specs.Taking.{whole_with, CountTaken, MetaTaken, HeadTaken, SetTaken, FileTaken}
use Rattle.dd_part10.proofs.Cuts.{prefix_cut, length_is, count_cut, count_long}
use Rattle.dd_part10.proofs.Faults.{fails_along, refused, set_fails, bind_fails}
use Rattle.dd_part10.proofs.Found.{with_syntax, with_meta, with_parts, with_rest}
use Rattle.dd_part10.proofs.Fronts.{rest_after-is}
use Rattle.dd_part10.proofs.Steps.{onward, there}
use Rattle.dd_part10.proofs.Wanting.{group_wants, has_head}

-- ---- the preamble and the prefix

-- where they were found there are 132 bytes
prefix_long : (front rest : List ℕ) → rest_after_prefix front ≡ Ok rest → 132 ≤ length front
unfolding rest_after_prefix
prefix_long front rest h =
    let is = rest_after-is prefix (drop 128 front) rest (there (rest_after prefix (drop 128 front)) NotPart10 rest h) in
    omega (arith, ap length is, length-append prefix rest, length-drop 128 front)

pub prefix_taken : (front found rest : List ℕ) → length front ≤ 132 → rest_after_prefix front ≡ Ok found
    → rest_after_prefix (front ++ rest) ≡ Ok rest
prefix_taken front found rest few h = prefix_cut front rest (omega (arith, few, prefix_long front found h))
    ∙ onward (rest_after_prefix front) found (λ _. Ok rest) h

-- they were not found, in 132 bytes or in all that there are
pub prefix_fails : (e : FileFault) (front rest : List ℕ) → length front ≤ 132 → (length front < 132 → rest ≡ [])
    → FailsAs is_memory e (rest_after_prefix front) → FailsAs is_memory e (rest_after_prefix (front ++ rest))
prefix_fails e front rest few over h =
    fails_along e (rest_after_prefix front) (rest_after_prefix (front ++ rest)) h (λ f k.
    elim (cases_lt (length front) 132) [
      | inl less ↦ ap rest_after_prefix (ap (λ (s : List ℕ). front ++ s) (over less) ∙ append-nil front) ∙ k
      | inr more ↦ prefix_cut front rest (omega (arith, few, more))
          ∙ bind_fails (rest_after_prefix front) (λ _. Ok rest) f k
    ])

-- ---- the group length

-- the first 12 bytes say it, or all that there are
count_stays : (front rest : List ℕ) → length front ≤ 12 → (length front < 12 → rest ≡ [])
    → count_in (front ++ rest) ≡ count_in front
count_stays front rest few over =
    elim (cases_lt (length front) 12) [
      | inl less ↦ ap count_in (ap (λ (s : List ℕ). front ++ s) (over less) ∙ append-nil front)
      | inr more ↦ count_cut front rest (omega (arith, few, more))
    ]

drop_front : (n : ℕ) (front rest : List ℕ) → length front ≡ n → drop n (front ++ rest) ≡ rest
drop_front n front rest size = ap (λ (k : ℕ). drop k (front ++ rest)) (sym size) ∙ drop-append_seam front rest

pub count_taken : (r : Result ℕ FileFault) (front rest : List ℕ) → length front ≤ 12 → (length front < 12 → rest ≡ [])
    → AnswersAs is_memory (λ n. n) r (count_in front) → CountTaken r (front ++ rest) rest
count_taken (Ok n) front rest few over h =
    length_is (front ++ rest)
    ∙ onward (count_in (front ++ rest)) n (λ k. split_at k (drop 12 (front ++ rest)))
    (count_stays front rest few over ∙ h)
    ∙ ap (λ (s : List ℕ). split_at n s) (drop_front 12 front rest (omega (arith, few, count_long front n h)))
count_taken (Err e) front rest few over h =
    fails_along e (count_in front) (after_length (front ++ rest)) h (λ f k.
    length_is (front ++ rest) ∙ bind_fails (count_in (front ++ rest)) (λ n. split_at n (drop 12 (front ++ rest))) f
    (count_stays front rest few over ∙ k))

-- ---- the meta information

-- no group length
pub meta_without_count : {X : Type 0} (e : FileFault) (bytes rest : List ℕ) → WantsNone {X = X} (Err e)
    → CountTaken (Err e) bytes rest → MetaTaken (Err e) bytes rest
meta_without_count e bytes rest none h = (
  fails_along e (after_length bytes) (after_length bytes >>= λ parts. meta_in parts.0) h
      (λ f k. bind_fails (after_length bytes) (λ parts. meta_in parts.0) f k),
  λ is. absurd (none.0 (ap (λ f. Err f) is)),
)

-- fewer bytes than it counts
pub split_short : (bytes mid rest : List ℕ) (n : ℕ) → after_length bytes ≡ split_at n mid → length mid < n
    → MetaTaken (Err GroupLength) bytes rest
split_short bytes mid rest n h few =
    let short : split_at n mid ≡ Err GroupLength = rw (lt-ltb (length mid) n few) refl in
    (bind_fails (after_length bytes) (λ parts. meta_in parts.0) GroupLength (h ∙ short), λ is. absurd cc)

-- the bytes that it counts
split_whole : (group rest : List ℕ) (n : ℕ) → length group ≡ n → split_at n (group ++ rest) ≡ Ok (group, rest)
split_whole group rest n size =
    let enough : nat_lt (length (group ++ rest)) n
    ≡ false = le-ltb (length (group ++ rest)) n (omega (arith, length-append group rest)) in
    let front : take n (group ++ rest) ≡ group = ap (λ (k : ℕ). take k (group ++ rest)) (sym size)
    ∙ take-append_seam group rest in
    rw (enough, front, drop_front n group rest size) refl

pub meta_taken : (r : Result Meta FileFault) (bytes group rest : List ℕ) (n : ℕ)
    → after_length bytes ≡ split_at n (group ++ rest) → length group ≡ n
    → AnswersAs is_memory (λ meta. meta) r (meta_in group)
    → (r ≡ Err (faults.Meta Memory) → WantsMemory Explicit group) → MetaTaken r bytes rest
meta_taken (Ok meta) bytes group rest n h size given wants = (group, h ∙ split_whole group rest n size, given)
meta_taken (Err e) bytes group rest n h size given wants =
    let parts : after_length bytes ≡ Ok (group, rest) = h ∙ split_whole group rest n size in (
      fails_along e (meta_in group) (after_length bytes >>= λ parts. meta_in parts.0) given
          (λ f k. onward (after_length bytes) (group, rest) (λ parts. meta_in parts.0) parts ∙ k),
      λ is. record { group = group; set = rest; parts = parts; wants = wants (ap (λ f. Err f) is) },
    )

-- ---- all before the data set

pub head_without_prefix : {X : Type 0} (e : FileFault) (bytes rest : List ℕ) → WantsNone {X = X} (Err e)
    → FailsAs is_memory e (rest_after_prefix bytes) → HeadTaken (Err e) bytes rest
unfolding file_in
head_without_prefix e bytes rest none h = (
  fails_along e (rest_after_prefix bytes) (rest_after_prefix bytes >>= with_rest) h
      (λ f k. bind_fails (rest_after_prefix bytes) with_rest f k),
  λ is. absurd (none.0 (ap (λ f. Err f) is)),
)

parts_fail : (r : Result (List ℕ × List ℕ) FileFault) (f : FileFault) → (r >>= λ parts. meta_in parts.0) ≡ Err f
    → (r >>= with_parts) ≡ Err f
parts_fail (Ok parts) f h = bind_fails (meta_in parts.0) (with_meta parts) f h
parts_fail (Err e) f h = cc

pub head_without_meta : (e : FileFault) (bytes mid rest : List ℕ) → rest_after_prefix bytes ≡ Ok mid
    → MetaTaken (Err e) mid rest → HeadTaken (Err e) bytes rest
unfolding file_in
head_without_meta e bytes mid rest front h = (
  fails_along e (after_length mid >>= λ parts. meta_in parts.0) (rest_after_prefix bytes >>= with_rest) h.0
      (λ f k. onward (rest_after_prefix bytes) mid with_rest front ∙ parts_fail (after_length mid) f k),
  λ is. let w = h.1 is in group_wants bytes mid w.group w.set front w.parts w.wants,
)

after_meta : (bytes mid group rest : List ℕ) (meta : Meta) → rest_after_prefix bytes ≡ Ok mid
    → after_length mid ≡ Ok (group, rest) → meta_in group ≡ Ok meta → file_in bytes ≡ with_meta (group, rest) meta
unfolding file_in
after_meta bytes mid group rest meta front parts holds =
    onward (rest_after_prefix bytes) mid with_rest front
    ∙ onward (after_length mid) (group, rest) with_parts parts
    ∙ onward (meta_in group) meta (with_meta (group, rest)) holds

pub head_without_syntax : {X : Type 0} (e : FileFault) (bytes mid rest : List ℕ) (meta : Meta)
    → WantsNone {X = X} (Err e) → rest_after_prefix bytes ≡ Ok mid → MetaTaken (Ok meta) mid rest
    → FailsAs is_memory e (syntax_in meta)
    → HeadTaken (Err e) bytes rest
head_without_syntax e bytes mid rest meta none front taken h = (
  fails_along e (syntax_in meta) (file_in bytes) h (λ f k. after_meta bytes mid taken.0 rest meta front taken.1 taken.2
      ∙ bind_fails (syntax_in meta) (with_syntax (taken.0, rest) meta) f k),
  λ is. absurd (none.0 (ap (λ f. Err f) is)),
)

pub head_taken : (bytes mid rest : List ℕ) (meta : Meta) (syntax : Syntax) → rest_after_prefix bytes ≡ Ok mid
    → MetaTaken (Ok meta) mid rest → syntax_in meta ≡ Ok syntax → HeadTaken (Ok (meta, syntax)) bytes rest
unfolding has_head
head_taken bytes mid rest meta syntax front taken known = (
  144 + length taken.0,
  after_meta bytes mid taken.0 rest meta front taken.1 taken.2
      ∙ onward (syntax_in meta) syntax (with_syntax (taken.0, rest) meta) known,
  has_head bytes mid taken.0 rest meta syntax front taken.1 taken.2 known,
  refl,
  refl,
)

-- ---- the data set

-- a data set that is refused
set_refused : (e : SetFault) (syntax : Syntax) (bytes : List ℕ) → FailsAs sets.is_memory e (read_all syntax bytes)
    → FailsAs is_memory (faults.Set e) (set_in syntax bytes)
unfolding set_in
set_refused e syntax bytes h =
    set_fails e (read_all syntax bytes) (λ set. if starts_above set then Ok set else Err GroupLength) h

set_read : (syntax : Syntax) (bytes : List ℕ) (set : Elements) → read_all syntax bytes ≡ Ok set
    → set_in syntax bytes ≡ (if may_follow (first_of set) then Ok set else Err GroupLength)
unfolding set_in
set_read syntax bytes set h = rw h refl

-- one whose first tag may not follow
pub set_below : (wanted : List Tag) (scan : Scan) (syntax : Syntax) (bytes : List ℕ)
    → ScanGives syntax wanted (Ok scan) bytes → may_follow scan.first ≡ false
    → set_in syntax bytes ≡ Err GroupLength
set_below wanted scan syntax bytes h below =
    let first : may_follow (first_of h.0) ≡ false = ap may_follow (sym h.2.first) ∙ below in
    set_read syntax bytes h.0 h.1 ∙ rw first refl

-- one whose first tag may
pub set_taken : (wanted : List Tag) (scan : Scan) (syntax : Syntax) (bytes : List ℕ)
    → ScanGives syntax wanted (Ok scan) bytes → may_follow scan.first ≡ true
    → SetTaken syntax wanted (Ok scan) bytes
set_taken wanted scan syntax bytes h above =
    let first : may_follow (first_of h.0) ≡ true = ap may_follow (sym h.2.first) ∙ above in
    (h.0, set_read syntax bytes h.0 h.1 ∙ rw first refl, h.2)

-- a data set that was taken, with its fault as one of the file
pub mapped_fails : (wanted : List Tag) (r : Result Scan SetFault) (s : Result Scan FileFault) (e : FileFault)
    (syntax : Syntax) (bytes : List ℕ)
    → MatchResult r (λ x. s ≡ Ok x) (λ f. IsErrAnd s (λ y. y ≡ faults.Set f)) → s ≡ Err e
    → ScanGives syntax wanted r bytes → SetTaken syntax wanted (Err e) bytes
mapped_fails wanted (Ok x) s e syntax bytes cases is h = absurd cc
mapped_fails wanted (Err f) s e syntax bytes cases is h =
    let same : e ≡ faults.Set f = rw is at cases in
    rw same (set_refused f syntax bytes h.0, λ memory. h.1 (let both : faults.Set f ≡ faults.Set Memory = memory in cc))

pub mapped_gives : (r : Result Scan SetFault) (s : Result Scan FileFault) (scan : Scan)
    → MatchResult r (λ x. s ≡ Ok x) (λ f. IsErrAnd s (λ y. y ≡ faults.Set f)) → s ≡ Ok scan → r ≡ Ok scan
mapped_gives (Ok x) s scan cases is = cc
mapped_gives (Err f) s scan cases is = absurd (rw is at cases)

-- ---- the whole

pub file_without_head : (wanted : List Tag) (e : FileFault) (bytes rest : List ℕ) → e ≢ faults.Set Memory
    → HeadTaken (Err e) bytes rest → FileTaken wanted (Err e) bytes
file_without_head wanted e bytes rest none h = refused wanted e bytes h.0 h.1 (λ is. absurd (none is))

pub file_without_set : (wanted : List Tag) (e : FileFault) (bytes rest : List ℕ) (meta : Meta) (syntax : Syntax)
    → e ≢ faults.Meta Memory → HeadTaken (Ok (meta, syntax)) bytes rest → SetTaken syntax wanted (Err e) rest
    → FileTaken wanted (Err e) bytes
file_without_set wanted e bytes rest meta syntax none head h =
    refused wanted e bytes (fails_along e (set_in syntax rest) (file_in bytes) h.0
    (λ f k. head.1 ∙ ap (whole_with meta head.0) k))
    (λ is. absurd (none is))
    (λ is. record { head = head.2; wants = rw (head.3, head.4) (h.1 is) })

pub file_taken : (wanted : List Tag) (scanned : Scanned) (scan : Scan) (bytes rest : List ℕ) (syntax : Syntax)
    → scanned.found ≡ scan.found → HeadTaken (Ok (scanned.meta, syntax)) bytes rest
    → SetTaken syntax wanted (Ok scan) rest → FileTaken wanted (Ok scanned) bytes
file_taken wanted scanned scan bytes rest syntax same head h = (
  record { meta = scanned.meta; set = h.0; set_at = head.0 },
  head.1 ∙ ap (whole_with scanned.meta head.0) h.1,
  record { meta = refl; found = rw same h.2.found },
)
