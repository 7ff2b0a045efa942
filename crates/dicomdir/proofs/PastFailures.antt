-- Whether a source failed, and the status by that.
use Rattle.std.proofs.Common.{◌≡◌, ◌≢◌, ◌∙◌, ◌≤◌, ℕ, zero, suc, List, [], ◌∷◌, Bool, true, false, Option, Ok, Err, None}
use Rattle.std.proofs.Common.{get_or}
use Rattle.std.proofs.Common.{ap, arith, inl, inr, length, refl, subst}
use Rattle.std.specs.Prelude.{◌⊎◌, ◌↔◌, IfErr, IfSome, if◌then◌else◌, slice_get}
use Rattle.dd_engine.specs.declared.choice.Choice.{Choice}
use Rattle.dd_engine.specs.declared.engine.Indexed.{Indexed}
use Rattle.dd_engine.specs.declared.noted_index.NotedIndex.{NotedIndex}
use Rattle.dd_engine.specs.Indexed.{IsIndexed}
use Rattle.dd_catalogue.specs.Harmony.{harmonised}
use Rattle.dd_engine.specs.Choosing.{label_for}
use Rattle.dd_sources.specs.Indexing.{accepted, best_of_sources, skipped_from}
use Rattle.dd_layout.specs.Plans.{records_of}
use Rattle.dd_sources.specs.Readings.{Reading, answers_of}
use Rattle.dd_files.specs.Files.{Held}
use Rattle.dd_keys.specs.declared.fault.KeyFault.{KeyFault}
use Rattle.dd_keys.specs.declared.fault.KeyFault.TheVariants as keys
use Rattle.dd_inputs.specs.ListedNames.{HavePaths}
use Rattle.dd_file_set.proofs.AllStanding.{stands_whole}
use Rattle.dicomdir.proofs.PickedSources.{picks_named}
use Rattle.dd_file_set.proofs.Unlinked.{set_by}
use Rattle.dicomdir.specs.Indexes.{AreRead, Indexes, IsIndexStatus, IsRead, MakesIndex, NoneFailed, has_failed, is_unread}
use Rattle.dicomdir.specs.Indexes.{limits_of, status_past}
use Rattle.dd_file_set.specs.Made.{MakesFileSet}
use Rattle.dicomdir.specs.Origins.{IsPathAt}

if_some : {A : Type 0} (P Q : A → Type 0) (list : List A) (at : ℕ) → ((one : A) → P one → Q one)
    → IfSome (slice_get list at) P → IfSome (slice_get list at) Q
if_some P Q [] at f h = tt
if_some P Q (one ∷ list) zero f h = f one h
if_some P Q (one ∷ list) (suc at) f h = if_some P Q list at f h

-- ---- whether one failed

pub at_most_one : (status : ℕ) → (status ≡ 0) ⊎ (status ≡ 1) → status ≤ 1
at_most_one status (inl is) = omega (arith, is)
at_most_one status (inr is) = omega (arith, is)

-- an answer says that its source has no version, and not that it could not be read
abbrev Settled : Reading → Type 0
Settled (Ok answer) = IfErr answer (λ fault. fault ≢ keys.Read)
Settled (Err fault) = Unit {0}

settled : (old : Option Held) (name : List ℕ) (reading : Reading) → IsRead old name reading → Settled reading
settled old name (Ok (Ok version)) h = tt
settled old name (Ok (Err fault)) h = h.settled.0
settled old name (Err fault) h = tt

pub read_fault : (fault : KeyFault) → fault ≢ keys.Read → is_unread fault ≡ false
read_fault keys.Read other = absurd (other refl)
read_fault (keys.File fault) other = refl
read_fault (keys.NotImage class) other = refl
read_fault (keys.MissingKey tag) other = refl
read_fault (keys.BadKeyUid tag) other = refl
read_fault (keys.KeyTooLong tag) other = refl
read_fault (keys.KeyIsSequence tag) other = refl
read_fault (keys.MetaMismatch tag) other = refl
read_fault keys.FileTooLong other = refl
read_fault keys.Memory other = refl

none_failed : (n : ℕ) (readings : List Reading) → ((at : ℕ) → IfSome (slice_get readings at) Settled)
    → has_failed (skipped_from n (answers_of readings)) ≡ false → NoneFailed readings
none_failed n [] h none = tt
none_failed n (Ok (Ok version) ∷ readings) h none = (refl, none_failed (suc n) readings (λ at. h (suc at)) none)
none_failed n (Ok (Err fault) ∷ readings) h none =
    let this : is_unread fault ≡ false = read_fault fault (h 0) in
    (refl, none_failed (suc n) readings (λ at. h (suc at)) (rw this at none))
none_failed n (Err fault ∷ readings) h none = absurd (cc none)

none_skipped : (n : ℕ) (readings : List Reading) → ((at : ℕ) → IfSome (slice_get readings at) Settled)
    → NoneFailed readings → has_failed (skipped_from n (answers_of readings)) ≡ false
none_skipped n [] h all = refl
none_skipped n (Ok (Ok version) ∷ readings) h all = none_skipped (suc n) readings (λ at. h (suc at)) all.1
none_skipped n (Ok (Err fault) ∷ readings) h all =
    let this : is_unread fault ≡ false = read_fault fault (h 0) in
    rw this (none_skipped (suc n) readings (λ at. h (suc at)) all.1)
none_skipped n (Err fault ∷ readings) h all = absurd (cc all.0)

module _ (choice : Choice) (bytes : ℕ) (sources : List (List ℕ)) (old : Option Held) (noted : NotedIndex) where
  abbrev indexed : Indexed
  indexed = noted.indexed

  all_settled : (readings : List Reading) → AreRead sources old readings
      → (at : ℕ) → IfSome (slice_get readings at) Settled
  all_settled readings read at = if_some (IsRead old (get_or sources at [])) Settled readings at
      (settled old (get_or sources at [])) (read.each at)

  skips_none : (readings : List Reading) → AreRead sources old readings
      → IsIndexed choice (limits_of bytes) (answers_of readings) indexed → NoneFailed readings
      → has_failed indexed.skipped.items ≡ false
  skips_none readings read is all =
      rw is.skipped (none_skipped 0 readings (all_settled readings read) all)

  abbrev of : Bool → ℕ
  of failed = if failed then 3 else 0

  done_zero : (b : Bool) → has_failed indexed.skipped.items ≡ b → of b ≡ 0
      → has_failed indexed.skipped.items ≡ false
  done_zero true has is = absurd (cc is)
  done_zero false has is = has

  -- the status is 0 exactly where no source failed
  pub none_exactly : (readings : List Reading) → AreRead sources old readings
      → IsIndexed choice (limits_of bytes) (answers_of readings) indexed
      → (status_past 0 indexed.skipped.items ≡ 0) ↔ NoneFailed readings
  none_exactly readings read is = (
    λ zero. none_failed 0 readings (all_settled readings read)
        (subst (λ skips. has_failed skips ≡ false) is.skipped (done_zero (has_failed indexed.skipped.items) refl zero)),
    λ all. rw (skips_none readings read is all) refl,
  )

  pub index_status : (keeps_going : Bool) (made : ℕ) → made ≤ 1 → Indexes keeps_going choice bytes sources old noted
      → IsIndexStatus keeps_going (status_past made indexed.skipped.items)
  index_status keeps_going (suc made) least h = inl least
  index_status true zero least h = by (has_failed indexed.skipped.items) where
    by : (b : Bool) → IsIndexStatus true (if b then 3 else 0)
    by true = inr (refl, refl)
    by false = inl (omega arith)
  index_status false zero least h = rw (skips_none h.readings h.read h.notes.0 (h.all refl)) (inl (omega arith))

  -- the index is done where it has made its file-set
  pub done_index : (keeps_going : Bool) (made : ℕ) (paths : List (List ℕ)) (bad : List ℕ) (folder : List ℕ)
      (new : Option Held) → made ≤ 1 → HavePaths sources paths bad
      → Indexes keeps_going choice bytes sources old noted
      → MakesFileSet (IsPathAt paths) (λ _ _. ⊥) (λ _. None) folder indexed.plan indexed.picks.items old new
      → status_past made indexed.skipped.items ≢ 1
      → MakesIndex choice bytes sources folder (status_past made indexed.skipped.items) old new
  done_index keeps_going (suc made) paths bad folder new least have h set done = absurd (done (omega (arith, least)))
  done_index keeps_going zero paths bad folder new least have h set done = record {
    readings = h.readings;
    read = h.read;
    all = none_exactly h.readings h.read h.notes.0;
    indexed = indexed;
    is = h.notes.0;
    stands =
        let best = best_of_sources (accepted (answers_of h.readings)) in
        let named = picks_named sources paths bad old h.readings have h.read (harmonised best)
        (records_of (label_for choice best []) (harmonised best)) indexed.picks.items h.notes.0.picks in
        stands_whole (IsPathAt sources) (λ _ _. ⊥) (λ _. None) folder indexed.plan indexed.picks.items old new
        (set_by (IsPathAt paths) (IsPathAt sources) (λ _ _. ⊥) (λ _ _. ⊥) (λ _. None) folder indexed.plan
        indexed.picks.items old new named set);
  }

-- the answers are as many as the sources
pub answers_count : (sources : List (List ℕ)) (old : Option Held) (readings : List Reading) (count : ℕ)
    → length sources ≡ count → AreRead sources old readings → length (answers_of readings) ≡ count
answers_count sources old readings count many read = same readings ∙ read.count ∙ many where
  same : (list : List Reading) → length (answers_of list) ≡ length list
  same [] = refl
  same (one ∷ list) = ap suc (same list)
