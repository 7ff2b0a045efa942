-- What a reader gave is answered as its source, and the answers of all sources are kept in their order.
use Rattle.std.proofs.Common.{◌≡◌, ◌≢◌, ◌<◌, ◌≤◌, ◌+◌, ℕ, zero, suc, List, [], ◌∷◌, ◌++◌, length, map}
use Rattle.std.proofs.Common.{Option, Some, None, Ok, Err, refl, sym, ap, subst, inl, inr, ◌∙◌, arith}
use Rattle.std.proofs.lemmas.List.{append-nil, length-append, map-append}
use Rattle.std.proofs.lemmas.Bool.{cases_eq}
use Rattle.std.specs.Prelude.{IfErr, IfSome, min, slice_get}
use Rattle.std.specs.Io.KnownBytes.{Consumes}
use Rattle.dd_slots.specs.declared.slot.Slot.{Slot}
use Rattle.dd_elem.specs.Device.{HasFailed, HasWorked, IsLive, counted, last_count}
use Rattle.dd_keys.specs.Answers.{Answers, AnswersReader}
use Rattle.dd_keys.specs.Kept.{digested_by}
use Rattle.dd_keys.specs.declared.fault.KeyFault.{KeyFault}
use Rattle.dd_keys.specs.declared.fault.KeyFault.TheVariants.{FileTooLong}
use Rattle.dd_keys.specs.Sources.{Answer, AnswersSource, IsOfSource}
use Rattle.dd_version.specs.Copies.{with_digest}
use Rattle.dd_version.specs.declared.parts.Parts.{Parts}
use Rattle.dd_sources.specs.Batches.{HoldsOpen, IsOpen}
use Rattle.dd_sources.specs.Indexing.{Sourced, accepted_from, accepted, skipped_from, versions_of}
use Rattle.dd_sources.specs.declared.batch.Batch.{Batch}
use Rattle.dd_sources.specs.declared.engine_fault.EngineFault.{EngineFault}
use Rattle.dd_sources.specs.declared.engine_fault.EngineFault.TheVariants.{Memory, Absent, Unread, Plan}
use Rattle.dd_sources.specs.declared.sources.Sources.{Sources}
use Rattle.dd_sources.specs.Supply.{AllStay, OthersStay, StayBelow, EndsWith, added}
use Rattle.dd_sources.specs.Supply.{AreAnswers, HasGivenAll, Holds, IsAnswer}
use Rattle.dd_sources.proofs.Settling.{none_open, other_next}

-- ---- a reader's answer is its source's answer

-- a reader with an answer for its source did not fail
pub unfailed : (limit : ℕ) (given : List ℕ) (left : Option (List ℕ)) (old new : ℕ) (answer : Answer)
    → AnswersReader limit given left old new answer → IfErr answer IsOfSource → HasWorked old new
unfailed limit given left old new (Ok version) h settled = (h.ended (λ e. cc) (λ e. cc)).2
unfailed limit given left old new (Err FileTooLong) h settled = (h.long refl).1
unfailed limit given left old new (Err fault) h settled = (h.ended (λ e. settled.0 (cc)) (λ e. cc)).2

-- the source of a reader that has come to its end within the limit
fitting_source : (limit : ℕ) (file given rest : List ℕ) (answer : Answer) → file ≡ given ++ rest → rest ≡ []
    → length given ≤ limit → answer ≢ Err FileTooLong → Answers given answer → AnswersSource limit file answer
fitting_source limit file given rest answer all ended within short h =
    let same : file ≡ given = all ∙ ap (λ (bytes : List ℕ). given ++ bytes) ended ∙ append-nil given in
    record {
      long = (λ e. absurd (short e), λ more. absurd (omega (arith, ap length same)));
      fits = λ _. subst (λ (bytes : List ℕ). Answers bytes answer) (sym same) h;
    }

long_source : (limit : ℕ) (file given rest : List ℕ) → file ≡ given ++ rest → length given ≡ limit + 1
    → AnswersSource limit file (Err FileTooLong)
long_source limit file given rest all many =
    let size : length file ≡ length given + length rest = ap length all ∙ length-append given rest in
    record {
      long = (λ _. omega arith, λ _. refl);
      fits = λ within. absurd (omega arith);
    }

source_told : (limit : ℕ) (file given rest : List ℕ) (old new : ℕ) (answer : Answer) → file ≡ given ++ rest
    → AnswersReader limit given (Some rest) old new answer → IfErr answer IsOfSource
    → AnswersSource limit file answer
source_told limit file given rest old new (Ok version) all h settled =
    let read = h.ended (λ e. cc) (λ e. cc) in
    let answers = h.whole (λ e. cc) (λ e. cc) tt in
    fitting_source limit file given rest (Ok version) all read.1 read.0 (λ e. cc) answers
source_told limit file given rest old new (Err FileTooLong) all h settled =
    long_source limit file given rest all (h.long refl).0
source_told limit file given rest old new (Err fault) all h settled =
    let read = h.ended (λ e. settled.0 (cc)) (λ e. cc) in
    let answers = h.whole (λ e. settled.0 (cc)) (λ e. cc) settled.1 in
    fitting_source limit file given rest (Err fault) all read.1 read.0 (λ e. cc) answers

contents_right : (limit : ℕ) (contents left : Option (List ℕ)) (given : List ℕ) (old new : ℕ) (answer : Answer)
    → Consumes contents left given → AnswersReader limit given left old new answer → IfErr answer IsOfSource
    → IfSome contents (λ file. AnswersSource limit file answer)
contents_right limit None left given old new answer known h settled = tt
contents_right limit (Some file) None given old new answer known h settled = absurd known
contents_right limit (Some file) (Some rest) given old new answer known h settled =
    source_told limit file given rest old new answer known h settled

-- a reader begins with the bytes of its source, where these are known
consumes_contents : (contents start left : Option (List ℕ)) (given : List ℕ)
    → IfSome contents (λ file. start ≡ Some file)
    → Consumes start left given → Consumes contents left given
consumes_contents None start left given same known = tt
consumes_contents (Some file) start left given same known =
    subst (λ (first : Option (List ℕ)). Consumes first left given) same known

-- the answer for a source
pub source_answer : (limit : ℕ) (contents start left : Option (List ℕ)) (given : List ℕ) (old new : ℕ) (answer : Answer)
    → IfSome contents (λ file. start ≡ Some file) → Consumes start left given
    → AnswersReader limit given left old new answer → IfErr answer IsOfSource → IsAnswer limit contents answer
source_answer limit contents start left given old new answer same known h settled = record {
  settled = settled;
  right = contents_right limit contents left given old new answer (consumes_contents contents start left given same
      known) h settled;
}

-- ---- how many bytes a reader gave

-- a reader that was read to its end, or past the limit
all_given : (limit : ℕ) (file given rest : List ℕ) (old new : ℕ) (answer : Answer) → file ≡ given ++ rest
    → AnswersReader limit given (Some rest) old new answer → IfErr answer IsOfSource → length file ≤ limit
    → length given ≡ length file
all_given limit file given rest old new answer all h settled within = by answer h settled
  where
    size : length file ≡ length given + length rest
    size = ap length all ∙ length-append given rest

    whole : rest ≡ [] → length given ≡ length file
    whole ended = let none : length rest ≡ 0 = ap length ended in omega (arith, size, none)

    by : (one : Answer) → AnswersReader limit given (Some rest) old new one → IfErr one IsOfSource
        → length given ≡ length file
    by (Ok version) h settled = whole (h.ended (λ e. cc) (λ e. cc)).1
    by (Err FileTooLong) h settled = let many = (h.long refl).0 in absurd (omega (arith, size, many, within))
    by (Err fault) h settled = whole (h.ended (λ e. settled.0 (cc)) (λ e. cc)).1

-- the bytes of a source were counted, where the reader's are
pub has_given_all : (limit : ℕ) (contents start left : Option (List ℕ)) (given : List ℕ) (old new : ℕ) (answer : Answer)
    (was_given : List ℕ → Type 0) (counted : Option ℕ) → IfSome contents (λ file. start ≡ Some file)
    → Consumes start left given → AnswersReader limit given left old new answer → IfErr answer IsOfSource
    → IfSome counted (λ count. (bytes : List ℕ) → was_given bytes → count ≡ min (length bytes) last_count)
    → was_given given → HasGivenAll limit contents counted
has_given_all limit None start left given old new answer was_given counted same known h settled counts gave = tt
has_given_all limit (Some file) start left given old new answer was_given None same known h settled counts gave =
    λ within. tt
has_given_all limit (Some file) start None given old new answer was_given (Some count) same known h settled counts
    gave =
    absurd (subst (λ (first : Option (List ℕ)). Consumes first None given) same known)
has_given_all limit (Some file) start (Some rest) given old new answer was_given (Some count) same known h settled
    counts gave = λ within.
    let all = subst (λ (first : Option (List ℕ)). Consumes first (Some rest) given) same known in
    counts given gave ∙ ap (λ (n : ℕ). min n last_count) (all_given limit file given rest old new answer all h settled
    within)

-- ---- the counts of sources

-- nothing is added to a count that is not at its last value
none_more : (old more : ℕ) → more ≡ 0 → old < last_count → added old more ≡ old
none_more old more none below = omega arith

-- the count of a source stays where no read of its reader failed
unread_here : (at sources failures : ℕ) (old before new : ℕ → ℕ) → at < sources → old at < last_count
    → AllStay old before → (at < sources → new at ≡ added (before at) failures) → failures ≡ 0 → new at ≡ old at
unread_here at sources failures old before new there below same here none =
    let last : before at < last_count = subst (λ (n : ℕ). n < last_count) (sym (same.stays at)) below in
    here there ∙ none_more (before at) failures none last ∙ same.stays at

pub unread_stays : (at sources rest failures : ℕ) (old before new : ℕ → ℕ) → at < sources → rest ≡ sources
    → old at < last_count → AllStay old before → (at < rest → new at ≡ added (before at) failures)
    → OthersStay at before new → failures ≡ 0 → AllStay old new
unread_stays at sources rest failures old before new there many below same here others none =
    let in_rest : at < rest = omega arith in
    let stays = unread_here at rest failures old before new in_rest below same here none in
    record {
      stays = λ other. elim (cases_eq other at) [
        | inl is ↦ subst (λ (one : ℕ). new one ≡ old one) (sym is) stays
        | inr apart ↦ others.stays other apart ∙ same.stays other
      ];
    }

-- what stayed twice
pub all_later : (old before new : ℕ → ℕ) → AllStay old before → AllStay before new → AllStay old new
all_later old before new one two = record { stays = λ at. two.stays at ∙ one.stays at }

below_later : (at : ℕ) (old before new : ℕ → ℕ) → AllStay old before → StayBelow at before new → StayBelow at old new
below_later at old before new one two = record { stays = λ other less. two.stays other less ∙ one.stays other }

-- a fault of a source after others that did not fail
pub ends_later : (fault : EngineFault) (sources rest : ℕ) (old before new first next last : ℕ → ℕ) → rest ≡ sources
    → AllStay old before → AllStay first next → EndsWith fault rest before new next last
    → EndsWith fault sources old new first last
ends_later Memory sources rest old before new first next last same one two h =
    (all_later old before new one h.0, all_later first next last two h.1)
ends_later (Absent at) sources rest old before new first next last same one two h = (
  subst (λ (n : ℕ). at < n) same h.0,
  h.1 ∙ ap counted (one.stays at),
  below_later at old before new one h.2,
  below_later at first next last two h.3,
)
ends_later (Unread at) sources rest old before new first next last same one two h = (
  subst (λ (n : ℕ). at < n) same h.0,
  subst (λ (n : ℕ). HasFailed n (last at)) (two.stays at) h.1,
  below_later at old before new one h.2,
  below_later at first next last two h.3,
)
ends_later (Plan fault) sources rest old before new first next last same one two h = absurd h

-- a source was live before others were read that did not fail
pub live_before : (at : ℕ) (old before first next : ℕ → ℕ) → AllStay old before → AllStay first next
    → IsLive (before at) (next at) → IsLive (old at) (first at)
live_before at old before first next one two live = (
  subst (λ (n : ℕ). n < last_count) (one.stays at) live.0,
  subst (λ (n : ℕ). n < last_count) (two.stays at) live.1,
)

-- ---- one answer more

some_more : (P : Answer → Type 0) (answers : List Answer) (answer : Answer) (at : ℕ)
    → IfSome (slice_get answers at) P → (at ≡ length answers → P answer)
    → IfSome (slice_get (answers ++ answer ∷ []) at) P
some_more P [] answer zero h last = last refl
some_more P [] answer (suc at) h last = tt
some_more P (one ∷ answers) answer zero h last = h
some_more P (one ∷ answers) answer (suc at) h last = some_more P answers answer at h (λ e. last (ap suc e))

-- the answers with that for the next source
pub answers_more : (limit next : ℕ) (contents : ℕ → Option (List ℕ)) (answers : List Answer) (answer : Answer)
    → length answers ≡ next → AreAnswers limit contents answers → IsAnswer limit (contents next) answer
    → AreAnswers limit contents (answers ++ answer ∷ [])
answers_more limit next contents answers answer many h last = record {
  each = λ at. some_more (IsAnswer limit (contents at)) answers answer at (h.each at)
      (λ is. subst (λ (n : ℕ). IsAnswer limit (contents n) answer) (sym (is ∙ many)) last);
}

pub accepted_more : (at next : ℕ) (answers : List Answer) (answer : Answer) → at + length answers ≡ next
    → accepted_from at (answers ++ answer ∷ []) ≡ accepted_from at answers ++ accepted_from next (answer ∷ [])
accepted_more at next [] answer many =
    let is : at ≡ next = omega arith in ap (λ (n : ℕ). accepted_from n (answer ∷ [])) is
accepted_more at next (Ok version ∷ answers) answer many =
    ap (λ (rest : List Sourced). (at, version) ∷ rest) (accepted_more (suc at) next answers answer (omega arith))
accepted_more at next (Err fault ∷ answers) answer many = accepted_more (suc at) next answers answer (omega arith)

pub skipped_more : (at next : ℕ) (answers : List Answer) (answer : Answer) → at + length answers ≡ next
    → skipped_from at (answers ++ answer ∷ []) ≡ skipped_from at answers ++ skipped_from next (answer ∷ [])
skipped_more at next [] answer many =
    let is : at ≡ next = omega arith in ap (λ (n : ℕ). skipped_from n (answer ∷ [])) is
skipped_more at next (Ok version ∷ answers) answer many = skipped_more (suc at) next answers answer (omega arith)
skipped_more at next (Err fault ∷ answers) answer many =
    ap (λ (rest : List (ℕ × KeyFault)). (at, fault) ∷ rest) (skipped_more (suc at) next answers answer (omega arith))

-- what is held grows by what the answer gives
holds_more : (at : ℕ) (answers : List Answer) (answer : Answer) (old new : Sources) (before after : Batch)
    → length answers ≡ at → HoldsOpen answers old before
    → IsOpen after new.versions.items
    (versions_of (accepted answers) ++ versions_of (accepted_from at (answer ∷ [])))
    → new.origins.items ≡ old.origins.items ++ map (λ source. source.0) (accepted_from at (answer ∷ []))
    → new.skipped.items ≡ old.skipped.items ++ skipped_from at (answer ∷ [])
    → HoldsOpen (answers ++ answer ∷ []) new after
holds_more at answers answer old new before after many h versions origins skips =
    let more = accepted_more 0 at answers answer (omega arith) in
    let last = accepted_from at (answer ∷ []) in
    record {
      versions = subst (λ (closed : List Parts). IsOpen after new.versions.items closed)
          (sym (ap versions_of more ∙ map-append (λ (source : Sourced). source.1) (accepted answers) last)) versions;
      origins = origins ∙ ap (λ (front : List ℕ). front ++ map (λ source. source.0) last) h.origins
          ∙ sym (ap (map (λ (source : Sourced). source.0)) more
          ∙ map-append (λ (source : Sourced). source.0) (accepted answers) last);
      skips = skips ∙ ap (λ (front : List (ℕ × KeyFault)). front ++ skipped_from at (answer ∷ [])) h.skips
          ∙ sym (skipped_more 0 at answers answer (omega arith));
    }

pub holds_version : (at : ℕ) (answers : List Answer) (answer : Answer) (version : Parts) (digest : List ℕ)
    (old new : Sources) (before after : Batch) → answer ≡ Ok version → length answers ≡ at
    → HoldsOpen answers old before
    → IsOpen after new.versions.items (versions_of (accepted answers) ++ with_digest version digest ∷ [])
    → new.origins.items ≡ old.origins.items ++ at ∷ [] → new.skipped.items ≡ old.skipped.items
    → HoldsOpen (answers ++ digested_by digest answer ∷ []) new after
holds_version at answers answer version digest old new before after is many h versions origins skips =
    let all = skips ∙ sym (append-nil old.skipped.items) in
    subst (λ (one : Answer). HoldsOpen (answers ++ digested_by digest one ∷ []) new after) (sym is)
    (holds_more at answers (Ok (with_digest version digest)) old new before after many h versions origins all)

pub holds_skipped : (at : ℕ) (answers : List Answer) (answer : Answer) (fault : KeyFault) (digest : List ℕ)
    (old new : Sources) (batch : Batch) → answer ≡ Err fault → length answers ≡ at → HoldsOpen answers old batch
    → new.versions.items ≡ old.versions.items → new.origins.items ≡ old.origins.items
    → new.skipped.items ≡ old.skipped.items ++ (at, fault) ∷ []
    → HoldsOpen (answers ++ digested_by digest answer ∷ []) new batch
holds_skipped at answers answer fault digest old new batch is many h versions origins skips =
    let same = origins ∙ sym (append-nil old.origins.items) in
    let still = subst (λ (list : List Parts). IsOpen batch list (versions_of (accepted answers))) (sym versions)
    h.versions in
    let all = subst (λ (closed : List Parts). IsOpen batch new.versions.items closed)
    (sym (append-nil (versions_of (accepted answers)))) still in
    subst (λ (one : Answer). HoldsOpen (answers ++ digested_by digest one ∷ []) new batch) (sym is)
    (holds_more at answers (Err fault) old new batch batch many h all same skips)

-- before any source, no version is open
pub holds_first : (read : Sources) (batch : Batch) → Holds [] read → batch.used ≡ 0 → HoldsOpen [] read batch
holds_first read batch h none = record {
  versions = none_open batch read.versions.items [] none h.versions;
  origins = h.origins;
  skips = h.skips;
}

-- the slot of the next source is of no version that is held
pub holds_next : (answers : List Answer) (read : Sources) (batch : Batch) (next : Slot) → batch.used < 8
    → HoldsOpen answers read batch → HoldsOpen answers read (record batch { next = next })
holds_next answers read batch next room h = record {
  versions = other_next batch read.versions.items _ next room h.versions;
  origins = h.origins;
  skips = h.skips;
}

-- after all sources their digests are set
pub holds_closed : (answers : List Answer) (old new : Sources) (batch : Batch) → HoldsOpen answers old batch
    → new.versions.items ≡ versions_of (accepted answers) → new.origins.items ≡ old.origins.items
    → new.skipped.items ≡ old.skipped.items → Holds answers new
holds_closed answers old new batch h versions origins skips = record {
  versions = versions;
  origins = origins ∙ h.origins;
  skips = skips ∙ h.skips;
}

-- the bytes of a source are those that it had before others were read
pub answer_before : (limit at : ℕ) (old before : ℕ → Option (List ℕ)) (answer : Answer) → before ≡ old
    → IsAnswer limit (before at) answer → IsAnswer limit (old at) answer
answer_before limit at old before answer same h =
    subst (λ (contents : ℕ → Option (List ℕ)). IsAnswer limit (contents at) answer) same h
