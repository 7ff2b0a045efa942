-- Where the files of picks stand, and which images may be hard links, may be said otherwise.
use Rattle.std.proofs.Common.{◌≡◌, ℕ, List, [], ◌∷◌, Option, None, Some, Result, Ok, Err, IfOk, false, get_or, inl, inr, true}
use Rattle.std.proofs.lemmas.List.Elements.{All-head, All-tail}
use Rattle.std.specs.Prelude.{All, IfSome, IsSomeAnd, zip}
use Rattle.dd_elem.specs.FileId.{Ranks}
use Rattle.dd_files.specs.Files.{Held}
use Rattle.dd_version.specs.declared.parts.Parts.{Parts}
use Rattle.dd_records.specs.declared.record.PlanRecord.{PlanRecord}
use Rattle.dd_layout.specs.Layouts.{Layout}
use Rattle.dd_file_set.specs.Made.{MakesFileSet, MakesImage, MakesRow, MakesRows}

-- ---- one image

-- what is so of the bytes of a file
pub bytes_by : (P Q : List ℕ → Type 0) (from : List ℕ) (files : Option Held) → ((bytes : List ℕ) → P bytes → Q bytes)
    → IfSome files (λ held. IsSomeAnd (held.bytes_at from) P) → IfSome files (λ held. IsSomeAnd (held.bytes_at from) Q)
bytes_by P Q from None same there = tt
bytes_by P Q from (Some held) same there = go (held.bytes_at from) there
  where
    go : (file : Option (List ℕ)) → IsSomeAnd file P → IsSomeAnd file Q
    go None some = some
    go (Some bytes) some = same bytes some

-- what is said of a pick says this of it, too
pub record SaysToo (From To MayLink MayLinkTo : List ℕ → Type 0) : Type 0 where
  pub stands : (path : List ℕ) → From path → To path
  pub links : (bytes : List ℕ) → MayLink bytes → MayLinkTo bytes

module _ (From To MayLink MayLinkTo : List ℕ → Type 0) (said : Option Parts)
    (same : SaysToo From To MayLink MayLinkTo) where
  image_by : (folder : List ℕ) (file : Ranks) (planned : Parts) (old new : Option Held)
      → MakesImage From MayLink said folder file planned old new
      → MakesImage To MayLinkTo said folder file planned old new
  image_by folder file planned old new (inl copied) = inl (record {
    path = copied.path;
    bytes = copied.bytes;
    ranks = copied.ranks;
    place = copied.place;
    free = copied.free;
    of = record {
      from = copied.of.from;
      picked = same.stands copied.of.from copied.of.picked;
      there = copied.of.there;
    };
    is = copied.is;
    made = copied.made;
  })
  image_by folder file planned old new (inr linked) = inr (record {
    path = linked.path;
    from = linked.from;
    ranks = linked.ranks;
    place = linked.place;
    picked = same.stands linked.from linked.picked;
    there = bytes_by MayLink MayLinkTo linked.from old same.links linked.there;
    free = linked.free;
    made = linked.made;
  })

  row_by : (folder : List ℕ) (versions : List Parts) (row : PlanRecord) (old new : Option Held)
      → MakesRow From MayLink said folder versions row old new → MakesRow To MayLinkTo said folder versions row old new
  row_by folder versions row old new made = record {
    file = made.file;
    named = made.named;
    planned = made.planned;
    of = made.of;
    made = image_by folder made.file made.planned old new made.made;
  }

-- ---- all of them

module _ {P : Type 0} (From To MayLink MayLinkTo : P → List ℕ → Type 0) (said : P → Option Parts)
    (folder : List ℕ) where
  abbrev Same : P → Type 0
  Same pick = SaysToo (From pick) (To pick) (MayLink pick) (MayLinkTo pick)

  rows_by : (versions : List Parts) (rows : List PlanRecord) (picks : List P) (old new : Option Held) → All Same picks
      → MakesRows From MayLink said folder versions (zip rows picks) old new
      → MakesRows To MayLinkTo said folder versions (zip rows picks) old new
  rows_by versions [] picks old new same made = made
  rows_by versions (row ∷ rows) [] old new same made = made
  rows_by versions (row ∷ rows) (pick ∷ picks) old new same made = (
    made.0,
    row_by (From pick) (To pick) (MayLink pick) (MayLinkTo pick) (said pick)
        (All-head Same pick picks same) folder versions row
        old made.0 made.1,
    rows_by versions rows picks made.0 new (All-tail Same pick picks same) made.2,
  )

  pub set_by : (plan : Layout) (picks : List P) (old new : Option Held) → All Same picks
      → MakesFileSet From MayLink said folder plan picks old new
      → MakesFileSet To MayLinkTo said folder plan picks old new
  set_by plan picks old new same made = record {
    copied = made.copied;
    images = rows_by plan.versions _ picks old made.copied same made.images;
    path = made.path;
    place = made.place;
    free = made.free;
    directory = made.directory;
    visited = made.visited;
    again = made.again;
  }

  -- the same where each pick is one of these
  pub set_each : (plan : Layout) (picks : List P) (old new : Option Held) → ((pick : P) → Same pick)
      → MakesFileSet From MayLink said folder plan picks old new
      → MakesFileSet To MayLinkTo said folder plan picks old new
  set_each plan picks old new same made = set_by plan picks old new (λ at d within. same (get_or picks at d)) made

-- where no hard links are asked for, images get none
pub unlinked_done : {P E : Type 0} (r : Result ℕ E) (StandsAt : P → List ℕ → Type 0)
    (said : P → Option Parts) (folder : List ℕ) (plan : Layout)
    (picks : List P) (old new : Option Held)
    → IfOk r (λ status. status ≡ 0 → MakesFileSet StandsAt (λ _ _. false ≡ true) said folder plan picks old new)
    → IfOk r (λ status. status ≡ 0 → MakesFileSet StandsAt (λ _ _. ⊥) said folder plan picks old new)
unlinked_done (Ok status) StandsAt said folder plan picks old new made = λ done.
    set_each StandsAt StandsAt (λ _ _. false ≡ true) (λ _ _. ⊥) said folder plan picks old new
    (λ pick. record { stands = λ path at. at; links = λ bytes may. absurd (cc) }) (made done)
unlinked_done (Err refusal) StandsAt said folder plan picks old new made = tt
