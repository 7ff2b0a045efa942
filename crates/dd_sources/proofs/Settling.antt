-- Digests of versions that were open are set one by one.
use Rattle.std.proofs.Common.{◌≡◌, ◌<◌, ◌≤◌, ◌+◌, ◌-◌, ℕ, zero, suc, List, [], ◌∷◌, ◌++◌, length, map, take, drop}
use Rattle.std.proofs.Common.{add-one, length-drop, length-take-le, set, get_or, refl, sym, ap, subst, ◌∙◌, arith}
use Rattle.std.proofs.lemmas.List.{append-nil, append_assoc, get_or-append_right, length-append, length-map}
use Rattle.std.proofs.lemmas.List.{length_push, map-append, set-append_right, take-append-le}
use Rattle.std.proofs.Math.Seq.{drop-append_seam, take-append_seam}
use Rattle.sha2.specs.Sha256.{sha256}
use Rattle.dd_slots.specs.Slots.{IsSlotOf}
use Rattle.dd_slots.specs.declared.slot.Slot.{Slot}
use Rattle.dd_version.specs.Copies.{with_digest}
use Rattle.dd_version.specs.declared.parts.Parts.{Parts}
use Rattle.dd_sources.specs.Batches.{IsOpen, Pending, digested, open_slots, slots_of}
use Rattle.dd_sources.specs.declared.batch.Batch.{Batch}

-- ---- some digests are set

-- the versions, of which the first have these digests
abbrev pub with_digests : List Parts → List (List ℕ) → List Parts
with_digests versions [] = versions
with_digests [] (digest ∷ digests) = []
with_digests (version ∷ versions) (digest ∷ digests) = with_digest version digest ∷ with_digests versions digests

set_next : (versions : List Parts) (digests : List (List ℕ)) (at : ℕ) (other : Parts)
    → at < length versions → at < length digests
    → set (with_digests versions (take at digests)) at
    (with_digest (get_or (with_digests versions (take at digests)) at other) (get_or digests at []))
    ≡ with_digests versions (take (suc at) digests)
set_next [] digests at other here there = absurd (omega arith)
set_next (version ∷ versions) [] at other here there = absurd (omega arith)
set_next (version ∷ versions) (digest ∷ digests) zero other here there = refl
set_next (version ∷ versions) (digest ∷ digests) (suc at) other here there =
    ap (λ (rest : List Parts). with_digest version digest ∷ rest)
    (set_next versions digests at other (omega arith) (omega arith))

one_more : (front versions items : List Parts) (digests : List (List ℕ)) (index at : ℕ) (old new other : Parts)
    → items ≡ front ++ with_digests versions (take at digests) → old ≡ get_or items index other
    → new ≡ with_digest old (get_or digests at []) → index ≡ length front + at
    → at < length versions → at < length digests
    → set items index new ≡ front ++ with_digests versions (take (at + 1) digests)
one_more front versions items digests index at old new other so_far was is placed here there =
    let some = with_digests versions (take at digests) in
    let digest = get_or digests at [] in
    let within : length front ≤ index = omega (arith, placed) in
    let place : index - length front ≡ at = omega (arith, placed) in
    let got : old ≡ get_or some at other = was ∙ ap (λ (all : List Parts). get_or all index other) so_far
    ∙ get_or-append_right front some (length front) index other refl within
    ∙ ap (λ (n : ℕ). get_or some n other) place in
    ap (λ (all : List Parts). set all index new) so_far
    ∙ set-append_right front some (length front) index new refl within
    ∙ ap (λ (n : ℕ). front ++ set some n new) place
    ∙ ap (λ (version : Parts). front ++ set some at version)
    (is ∙ ap (λ (version : Parts). with_digest version digest) got)
    ∙ ap (λ (all : List Parts). front ++ all) (set_next versions digests at other here there)
    ∙ ap (λ (n : ℕ). front ++ with_digests versions (take n digests)) (sym (add-one at))

pub one_more_of : (all items : List Parts) (digests : List (List ℕ)) (first at : ℕ) (old new other : Parts)
    → items ≡ take first all ++ with_digests (drop first all) (take at digests)
    → old ≡ get_or items (first + at) other → new ≡ with_digest old (get_or digests at [])
    → first + at < length all → at < length digests
    → set items (first + at) new ≡ take first all ++ with_digests (drop first all) (take (at + 1) digests)
one_more_of all items digests first at old new other so_far was is here there =
    let within : first ≤ length all = omega (arith, here) in
    let many : length (take first all) ≡ first = length-take-le first all within in
    let rest : length (drop first all) ≡ length all - first = length-drop first all in
    one_more (take first all) (drop first all) items digests (first + at) at old new other so_far was is
    (ap (λ (n : ℕ). n + at) (sym many)) (omega (arith, rest, here)) there

-- ---- all are

-- they are the digests of what the slots have
abbrev pub AreDigests : List Slot → List (List ℕ) → Type 0
AreDigests [] digests = Unit {0}
AreDigests (slot ∷ slots) [] = ⊥
AreDigests (slot ∷ slots) (digest ∷ digests) =
    ((bytes : List ℕ) → IsSlotOf slot bytes → digest ≡ sha256 bytes) × AreDigests slots digests

all_digested : (slots : List Slot) (digests : List (List ℕ)) (pending : List Pending) → AreDigests slots digests
    → take (length pending) slots ≡ map (λ one. one.slot) pending
    → with_digests (map (λ one. one.version) pending) (take (length pending) digests) ≡ map digested pending
all_digested slots digests [] h same = refl
all_digested [] digests (one ∷ pending) h same = absurd (cc)
all_digested (slot ∷ slots) [] (one ∷ pending) h same = absurd h
all_digested (slot ∷ slots) (digest ∷ digests) (one ∷ pending) h same =
    let first : slot ≡ one.slot = cc in
    let rest : take (length pending) slots ≡ map (λ one. one.slot) pending = cc in
    let is : digest ≡ sha256 one.bytes =
    h.0 one.bytes (subst (λ (s : Slot). IsSlotOf s one.bytes) (sym first) one.kept) in
    ap (λ (d : List ℕ). with_digest one.version d
    ∷ with_digests (map (λ one. one.version) pending) (take (length pending) digests)) is
    ∙ ap (λ (versions : List Parts). digested one ∷ versions) (all_digested slots digests pending h.1 rest)

pub settled : (front items old closed : List Parts) (slots : List Slot) (digests : List (List ℕ))
    (pending : List Pending) (first used at : ℕ) → AreDigests slots digests → length pending ≡ used
    → take used slots ≡ map (λ one. one.slot) pending → old ≡ front ++ map (λ one. one.version) pending
    → closed ≡ front ++ map digested pending → first ≡ length old - used → at ≡ used
    → items ≡ take first old ++ with_digests (drop first old) (take at digests) → items ≡ closed
settled front items old closed slots digests pending first used at h many same all done left ended is =
    let versions = map (λ one. one.version) pending in
    let size : length old ≡ length front + length versions =
    ap length all ∙ length-append front versions in
    let as_many : length versions ≡ length pending = length-map pending (λ one. one.version) in
    let place : first ≡ length front = omega (arith, left, size, as_many, many) in
    let before : take first old ≡ front =
    ap (λ (n : ℕ). take n old) place ∙ ap (λ (list : List Parts). take (length front) list) all
    ∙ take-append_seam front versions in
    let after : drop first old ≡ versions =
    ap (λ (n : ℕ). drop n old) place ∙ ap (λ (list : List Parts). drop (length front) list) all
    ∙ drop-append_seam front versions in
    let here : at ≡ length pending = ended ∙ sym many in
    let slots_are = ap (λ (n : ℕ). take n slots) many ∙ same in
    is ∙ ap (λ (list : List Parts). list ++ with_digests (drop first old) (take at digests)) before
    ∙ ap (λ (list : List Parts). front ++ with_digests list (take at digests)) after
    ∙ ap (λ (n : ℕ). front ++ with_digests versions (take n digests)) here
    ∙ ap (λ (list : List Parts). front ++ list) (all_digested slots digests pending h slots_are)
    ∙ sym done

-- ---- one version more, and none

pub one_more_open : (old new : Batch) (front versions closed : List Parts) (version : Parts) (bytes : List ℕ)
    → versions ≡ front ++ version ∷ [] → IsSlotOf old.next bytes → IsOpen old front closed
    → new.used ≡ old.used + 1 → open_slots new ≡ open_slots old ++ old.next ∷ []
    → IsOpen new versions (closed ++ with_digest version (sha256 bytes) ∷ [])
one_more_open old new front versions closed version bytes all kept h count slots =
    let last : Pending = record { version = version; slot = old.next; bytes = bytes; kept = kept } in
    record {
      front = h.front;
      pending = h.pending ++ last ∷ [];
      many = length_push h.pending last ∙ ap (λ n. n + 1) h.many ∙ sym count;
      slots = slots ∙ ap (λ (list : List Slot). list ++ old.next ∷ []) h.slots
          ∙ sym (map-append (λ one. one.slot) h.pending (last ∷ []));
      all = all ∙ ap (λ (list : List Parts). list ++ version ∷ []) h.all
          ∙ append_assoc h.front (map (λ one. one.version) h.pending) (version ∷ [])
          ∙ ap (λ (list : List Parts). h.front ++ list) (sym (map-append (λ one. one.version) h.pending (last ∷ [])));
      done = ap (λ (list : List Parts). list ++ with_digest version (sha256 bytes) ∷ []) h.done
          ∙ append_assoc h.front (map digested h.pending) (digested last ∷ [])
          ∙ ap (λ (list : List Parts). h.front ++ list) (sym (map-append digested h.pending (last ∷ [])));
    }

pub none_open : (batch : Batch) (versions closed : List Parts) → batch.used ≡ 0 → versions ≡ closed
    → IsOpen batch versions closed
none_open batch versions closed none same = record {
  front = closed;
  pending = [];
  many = sym none;
  slots = ap (λ (n : ℕ). take n (slots_of batch)) none;
  all = same ∙ sym (append-nil closed);
  done = sym (append-nil closed);
}

-- the slot of the source that is read next is of no version, while there is room
pub other_next : (batch : Batch) (versions closed : List Parts) (next : Slot) → batch.used < 8
    → IsOpen batch versions closed → IsOpen (record batch { next = next }) versions closed
other_next batch versions closed next room h =
    let seven : List Slot =
    batch.first ∷ batch.second ∷ batch.third ∷ batch.fourth ∷ batch.fifth ∷ batch.sixth ∷ batch.seventh ∷ [] in
    let within : batch.used ≤ length seven = omega (arith, room) in
    record {
      front = h.front;
      pending = h.pending;
      many = h.many;
      slots = take-append-le batch.used seven (next ∷ []) within
          ∙ sym (take-append-le batch.used seven (batch.next ∷ []) within) ∙ h.slots;
      all = h.all;
      done = h.done;
    }
