-- What is known of the files of picks before their turn.
use Rattle.std.proofs.Common.{◌≡◌, ◌∙◌, ◌≤◌, ◌+◌, ◌-◌, ℕ, zero, suc, Bool, true, false, List, [], ◌∷◌, ◌++◌}
use Rattle.std.proofs.Common.{Option, None, Some, ap, arith, drop, get_or, inl, inr, length, min, refl, subst, sym, take}
use Rattle.std.proofs.Common.{if◌then◌else◌}
use Rattle.std.proofs.KnownBytes.{Consumes-whole}
use Rattle.std.proofs.lemmas.List.{take_all}
use Rattle.std.specs.Io.KnownBytes.{Consumes, IsAtEnd}
use Rattle.std.specs.Prelude.{IfSome, IsSome, slice_get}
use Rattle.dd_elem.specs.FileId.{Ranks}
use Rattle.dd_files.proofs.FileLaws.{file_there}
use Rattle.dd_files.specs.Files.{Held, linked, published, with_file}
use Rattle.dd_files.specs.Keeping.{Keeps}
use Rattle.dd_filing.specs.Ahead.{IsReadAhead, NextFiles, first_left, shown, with_file as with_next}
use Rattle.dd_filing.specs.Taken.{Taken}
use Rattle.dd_filing.specs.declared.places.Ahead.{Ahead}
use Rattle.dd_filing.specs.declared.places.Ahead.TheVariants as known
use Rattle.dd_stream.specs.Streams.{Ends}
use Rattle.dd_stream.specs.declared.end.End.TheVariants.{Ended, Failed}
use Rattle.dd_version.specs.declared.parts.Parts.{Parts}
use Rattle.dd_files.specs.Keeping.{HasBytes}
use Rattle.dd_file_set.specs.Made.{HasAtOne, MakesImage}
use Rattle.dd_file_set.specs.ReadingAhead.{IsKnown, KnowsNext}

-- ---- one file

-- all that a reader gave is what its file has
has_given : (from : List ℕ) (files : Option Held) (start left : Option (List ℕ)) (given : List ℕ)
    → IfSome files (λ held. IsSome (held.bytes_at from) × (start ≡ held.bytes_at from)) → Consumes start left given
    → IsAtEnd left → HasBytes from given files
has_given from None start left given opened taken end = tt
has_given from (Some held) start left given opened taken end =
    go (held.bytes_at from) opened.0 (subst (λ (first : Option (List ℕ)). Consumes first left given) opened.1 taken)
  where
    go : (file : Option (List ℕ)) → IsSome file → Consumes file left given → file ≡ Some given
    go None there took = absurd (cc)
    go (Some bytes) there took = Consumes-whole (Some bytes) left given (λ all. Some all ≡ Some given) took end refl

pub one_given : (From : List ℕ → Type 0) (from : List ℕ) (files : Option Held) (start left : Option (List ℕ))
    (given : List ℕ) → From from
    → IfSome files (λ held. IsSome (held.bytes_at from) × (start ≡ held.bytes_at from)) → Consumes start left given
    → IsAtEnd left → HasAtOne From given files
one_given From from files start left given picked opened taken end =
    record { from = from; picked = picked; there = has_given from files start left given opened taken end }

known_file : (From : List ℕ → Type 0) (from : List ℕ) (files : Option Held) (start left : Option (List ℕ))
    (given : List ℕ) (limit old new : ℕ) (taken : Taken) → From from
    → IfSome files (λ held. IsSome (held.bytes_at from) × (start ≡ held.bytes_at from)) → Consumes start left given
    → taken.bytes ≡ given → Ends (if taken.whole then Ended else Failed) limit given left old new
    → IsKnown From (known.File taken) files
known_file From from files start left given limit old new taken picked opened took same ends = λ whole.
    let ended = subst (λ (b : Bool). Ends (if b then Ended else Failed) limit given left old new) whole ends in
    subst (λ (bytes : List ℕ). HasAtOne From bytes files) (sym same)
    (one_given From from files start left given picked opened took ended.1)

-- what was read of a file once it was opened
pub read_known : (From : List ℕ → Type 0) (from : List ℕ) (files : Option Held) (start left : Option (List ℕ))
    (given : List ℕ) (limit old new : ℕ) (file : Ahead) → From from
    → IfSome files (λ held. IsSome (held.bytes_at from) × (start ≡ held.bytes_at from)) → Consumes start left given
    → IsReadAhead file limit given left old new → IsKnown From file files
read_known From from files start left given limit old new (known.File taken) picked opened took read =
    known_file From from files start left given limit old new taken picked opened took read.0 read.1
read_known From from files start left given limit old new known.Absent picked opened took read = tt
read_known From from files start left given limit old new known.Unknown picked opened took read = tt

-- ---- the next of them

shown_by : (From : List ℕ → Type 0) (whole : Bool) (taken : Taken) (files : Option Held)
    → IsKnown From (known.File taken) files
    → IsKnown From (if whole then known.Unknown else known.File taken) files
shown_by From true taken files h = tt
shown_by From false taken files h = h

shown_known : (From : List ℕ → Type 0) (digested : Bool) (file : Ahead) (files : Option Held)
    → IsKnown From file files → IsKnown From (shown digested file) files
shown_known From true file files h = h
shown_known From false (known.File taken) files h = shown_by From taken.whole taken files h
shown_known From false known.Absent files h = h
shown_known From false known.Unknown files h = h

-- what is known of the file whose turn it is
pub next_known : {P : Type 0} (From : P → List ℕ → Type 0) (picks : List P) (d : P) (all : NextFiles) (file : Ahead)
    (files : Option Held) → 1 ≤ length picks → file ≡ first_left all → KnowsNext From picks all files
    → IsKnown (From (get_or picks 0 d)) file files
next_known From [] d all file files some is knows = absurd (omega (arith, some))
next_known From (pick ∷ picks) d all file files some is knows =
    subst (λ (x : Ahead). IsKnown (From pick) x files) (sym is)
    (shown_known (From pick) all.digested (get_or all.files all.past known.Unknown) files
    (subst (λ (n : ℕ). IsKnown (From pick) (get_or all.files n known.Unknown) files) (omega arith)
    (knows 0 pick refl)))

-- ---- one more is read

-- what is so of each place of a list holds with one more
push_each : (K : ℕ → Ahead → Type 0) (list : List Ahead) (file : Ahead) → ((i : ℕ) → K i known.Unknown)
    → ((i : ℕ) → K i (get_or list i known.Unknown)) → K (length list) file
    → (i : ℕ) → K i (get_or (list ++ file ∷ []) i known.Unknown)
push_each K [] file none each last zero = last
push_each K [] file none each last (suc i) = none (suc i)
push_each K (x ∷ list) file none each last zero = each zero
push_each K (x ∷ list) file none each last (suc i) =
    push_each (λ n. K (suc n)) list file (λ n. none (suc n)) (λ n. each (suc n)) last i

same_pick : {P : Type 0} (picks : List P) (n : ℕ) (d pick : P) → slice_get picks n ≡ Some pick
    → get_or picks n d ≡ pick
same_pick [] n d pick is = absurd (cc)
same_pick (first ∷ picks) zero d pick is = cc
same_pick (first ∷ picks) (suc n) d pick is = same_pick picks n d pick is

pub more_known : {P : Type 0} (From : P → List ℕ → Type 0) (picks : List P) (at : ℕ) (d : P) (all after : NextFiles)
    (file : Ahead) (files : Option Held) → all.past ≡ 0 → length all.files ≡ at → after ≡ with_next all file
    → IsKnown (From (get_or picks at d)) file files → KnowsNext From picks all files
    → KnowsNext From picks after files
more_known {P = P} From picks at d all after file files past count next is knows =
    let K = λ (i : ℕ) (x : Ahead). (pick : P) → slice_get picks i ≡ Some pick → IsKnown (From pick) x files in
    subst (λ (all : NextFiles). KnowsNext From picks all files) (sym next)
    (λ i.
    let same : i ≡ all.past + i = omega (arith, past) in
    subst (λ (n : ℕ). K i (get_or (all.files ++ file ∷ []) n known.Unknown)) same
    (push_each K all.files file (λ i pick its. tt)
    (λ i.
    let here : all.past + i ≡ i = omega (arith, past) in
    subst (λ (n : ℕ). K i (get_or all.files n known.Unknown)) here (knows i))
    (λ pick its. subst (λ (one : P). IsKnown (From one) file files)
    (same_pick picks at d pick (subst (λ (n : ℕ). slice_get picks n ≡ Some pick) count its)) is)
    i))

-- ---- one is past

same_place : (xs : List Ahead) (m n : ℕ) → m ≡ n → get_or xs m known.Unknown ≡ get_or xs n known.Unknown
same_place xs m n same = ap (λ (k : ℕ). get_or xs k known.Unknown) same

pass_index : (xs : List Ahead) (past i : ℕ) → get_or xs (min (past + 1) (length xs) + i) known.Unknown
    ≡ get_or xs (past + suc i) known.Unknown
pass_index [] past i = refl
pass_index (x ∷ xs) zero i = same_place (x ∷ xs) (min (0 + 1) (length (x ∷ xs)) + i) (0 + suc i) (omega arith)
pass_index (x ∷ xs) (suc past) i =
    same_place (x ∷ xs) (min (suc past + 1) (length (x ∷ xs)) + i) (suc (min (past + 1) (length xs) + i)) (omega arith)
    ∙ pass_index xs past i
    ∙ same_place (x ∷ xs) (suc (past + suc i)) (suc past + suc i) (omega arith)

-- an image that was made leaves the other files
apart_of : (held : Held) (path other bytes : List ℕ) → held.bytes_at path ≡ None → held.bytes_at other ≡ Some bytes
    → path ≡ other → ⊥
apart_of held path other bytes free stood same =
    let amiss : None ≡ Some bytes = sym free ∙ ap held.bytes_at same ∙ stood in absurd (cc)

keeps_new : (path : List ℕ) (file : Option (List ℕ)) (a : Held) (b : Option Held) (after : Held)
    → after.bytes_at ≡ with_file path file a.bytes_at → a.bytes_at path ≡ None → b ≡ Some after → Keeps (Some a) b
keeps_new path file a b after is free made =
    subst (λ (x : Option Held). Keeps (Some a) x) (sym made)
    (record {
      stays = λ other bytes stood. ap (λ (files : List ℕ → Option (List ℕ)). files other) is
          ∙ file_there path other file a.bytes_at (apart_of a path other bytes free stood) ∙ stood;
    })

image_keeps : (From MayLink : List ℕ → Type 0) (said : Option Parts) (folder : List ℕ) (file : Ranks) (planned : Parts)
    (a b : Option Held) → MakesImage From MayLink said folder file planned a b → Keeps a b
image_keeps From MayLink said folder file planned None b (inl copied) = copied.made
image_keeps From MayLink said folder file planned None b (inr link) = link.made
image_keeps From MayLink said folder file planned (Some a) b (inl copied) =
    keeps_new copied.path (Some copied.bytes) a b (published copied.path copied.bytes a) refl copied.free copied.made
image_keeps From MayLink said folder file planned (Some a) b (inr link) =
    keeps_new link.path (a.bytes_at link.from) a b (linked link.from link.path a) refl link.free link.made

one_kept : (From : List ℕ → Type 0) (bytes : List ℕ) (a b : Option Held) → Keeps a b → HasAtOne From bytes a
    → HasAtOne From bytes b
one_kept From bytes None b kept one =
    subst (λ (x : Option Held). HasAtOne From bytes x) (sym kept)
    (record { from = one.from; picked = one.picked; there = tt })
one_kept From bytes (Some a) None kept one = absurd kept
one_kept From bytes (Some a) (Some b) kept one =
    record { from = one.from; picked = one.picked; there = kept.stays one.from bytes one.there }

known_kept : (From : List ℕ → Type 0) (file : Ahead) (a b : Option Held) → Keeps a b → IsKnown From file a
    → IsKnown From file b
known_kept From (known.File taken) a b kept h = λ whole. one_kept From taken.bytes a b kept (h whole)
known_kept From known.Absent a b kept h = tt
known_kept From known.Unknown a b kept h = tt

passed_by : {P : Type 0} (From : P → List ℕ → Type 0) (picks : List P) (all after : NextFiles) (old new : Option Held)
    → 1 ≤ length picks
    → after ≡ record {
      files = all.files;
      past = min (all.past + 1) (length all.files);
      digested = all.digested;
    }
    → Keeps old new → KnowsNext From picks all old
    → KnowsNext From (take (length picks - 1) (drop 1 picks)) after new
passed_by From [] all after old new some past kept knows = absurd (omega (arith, some))
passed_by {P = P} From (first ∷ picks) all after old new some past kept knows =
    subst (λ (xs : List P). KnowsNext From xs after new)
    (sym (take_all (length (first ∷ picks) - 1) picks (omega arith)))
    (λ i pick is.
    known_kept (From pick) (get_or after.files (after.past + i) known.Unknown) old new kept
    (subst (λ (next : NextFiles). IsKnown (From pick) (get_or next.files (next.past + i) known.Unknown) old) (sym past)
    (subst (λ (x : Ahead). IsKnown (From pick) x old) (sym (pass_index all.files all.past i))
    (knows (suc i) pick is))))

-- the others, once its image is made
pub passed_known : {P : Type 0} (From : P → List ℕ → Type 0) (picks : List P) (all after : NextFiles)
    (old new : Option Held) (Of MayLink : List ℕ → Type 0) (said : Option Parts) (folder : List ℕ) (file : Ranks)
    (planned : Parts)
    → 1 ≤ length picks
    → after ≡ record {
      files = all.files;
      past = min (all.past + 1) (length all.files);
      digested = all.digested;
    }
    → MakesImage Of MayLink said folder file planned old new → KnowsNext From picks all old
    → KnowsNext From (take (length picks - 1) (drop 1 picks)) after new
passed_known From picks all after old new Of MayLink said folder file planned some past made knows =
    passed_by From picks all after old new some past (image_keeps Of MayLink said folder file planned old new made)
    knows
