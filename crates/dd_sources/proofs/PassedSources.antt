-- Sources that fail: what reading all of them gives where the first one ends it, and where each is passed.
use Rattle.std.specs.Prelude.{◌≡◌, ◌≢◌, ◌<◌, ◌≤◌, ◌+◌, ℕ, zero, suc, List, [], ◌∷◌, ◌++◌, length, map, slice_get}
use Rattle.std.specs.Prelude.{Option, IfSome, Ok, Err}
use Rattle.std.proofs.Common.{refl, sym, ap, subst, inl, inr, ◌∙◌, arith}
use Rattle.std.proofs.lemmas.Bool.{cases_eq}
use Rattle.std.proofs.lemmas.List.{map-append}
use Rattle.dd_elem.specs.Device.{HasFailed, counted}
use Rattle.dd_sources.specs.Batches.{HoldsOpen}
use Rattle.dd_sources.specs.declared.batch.Batch.{Batch}
use Rattle.dd_sources.specs.declared.engine_fault.EngineFault.{EngineFault}
use Rattle.dd_sources.specs.declared.engine_fault.EngineFault.TheVariants.{Memory, Absent, Unread, Plan}
use Rattle.dd_sources.specs.declared.sources.Sources.{Sources}
use Rattle.dd_sources.specs.Readings.{AreReadings, FailsSource, IsOfOne, IsReading, Reading}
use Rattle.dd_sources.specs.Readings.{absent_in, answer_of, answers_of}
use Rattle.dd_sources.specs.Supply.{AllStay, EndsWith, IsAnswer, OthersStay, StayBelow}
use Rattle.dd_sources.proofs.Lending.{StayFrom}

-- ---- the first that fails

others_below : (at : ℕ) (old new : ℕ → ℕ) → OthersStay at old new → StayBelow at old new
others_below at old new others =
    record { stays = λ before less. others.stays before (λ is. absurd (omega (arith, is))) }

all_below : (at : ℕ) (old new : ℕ → ℕ) → AllStay old new → StayBelow at old new
all_below at old new all = record { stays = λ before less. all.stays before }

-- where the next source fails, reading ends with it
pub source_ends : (at sources : ℕ) (fault : EngineFault) (refusals refused unread failed : ℕ → ℕ) → at < sources
    → FailsSource at fault refusals refused unread failed → EndsWith fault sources refusals refused unread failed
source_ends at sources Memory refusals refused unread failed there h = h
source_ends at sources (Absent number) refusals refused unread failed there h =
    let is = sym h.0 in (
      subst (λ (n : ℕ). n < sources) is there,
      subst (λ (n : ℕ). refused n ≡ counted (refusals n)) is h.1,
      subst (λ (n : ℕ). StayBelow n refusals refused) is (others_below at refusals refused h.2),
      all_below number unread failed h.3,
    )
source_ends at sources (Unread number) refusals refused unread failed there h =
    let is = sym h.0 in (
      subst (λ (n : ℕ). n < sources) is there,
      subst (λ (n : ℕ). HasFailed (unread n) (failed n)) is h.1,
      all_below number refusals refused h.3,
      subst (λ (n : ℕ). StayBelow n unread failed) is (others_below at unread failed h.2),
    )
source_ends at sources (Plan fault) refusals refused unread failed there h = absurd h

-- ---- each that fails

pub all_others : {A : Type 0} (at : ℕ) (old new : ℕ → A) → AllStay old new → OthersStay at old new
all_others at old new all = record { stays = λ other _. all.stays other }

-- the counts that failing changes are those of the source
pub refusals_of_one : (at : ℕ) (fault : EngineFault) (refusals refused unread failed : ℕ → ℕ) → IsOfOne fault
    → FailsSource at fault refusals refused unread failed → OthersStay at refusals refused
refusals_of_one at (Absent number) refusals refused unread failed one h = h.2
refusals_of_one at (Unread number) refusals refused unread failed one h = all_others at refusals refused h.3
refusals_of_one at Memory refusals refused unread failed one h = absurd one
refusals_of_one at (Plan fault) refusals refused unread failed one h = absurd one

pub unread_of_one : (at : ℕ) (fault : EngineFault) (refusals refused unread failed : ℕ → ℕ) → IsOfOne fault
    → FailsSource at fault refusals refused unread failed → OthersStay at unread failed
unread_of_one at (Absent number) refusals refused unread failed one h = all_others at unread failed h.3
unread_of_one at (Unread number) refusals refused unread failed one h = h.2
unread_of_one at Memory refusals refused unread failed one h = absurd one
unread_of_one at (Plan fault) refusals refused unread failed one h = absurd one

-- the reading of a source that fails
pub failed_reading : (limit : ℕ) (contents : Option (List ℕ)) (There : Type 0) (given : Option ℕ) (at : ℕ)
    (fault : EngineFault) (refusals refused unread failed : ℕ → ℕ) → IsOfOne fault
    → FailsSource at fault refusals refused unread failed
    → IsReading limit contents There given at (Err fault) (refusals at) (refused at) (unread at) (failed at)
failed_reading limit contents There given at (Absent number) refusals refused unread failed one h =
    (h.0, h.1, h.3.stays at)
failed_reading limit contents There given at (Unread number) refusals refused unread failed one h =
    (h.0, h.3.stays at, h.1)
failed_reading limit contents There given at Memory refusals refused unread failed one h = absurd one
failed_reading limit contents There given at (Plan fault) refusals refused unread failed one h = absurd one

none_at_end : {A : Type 0} (P : A → Type 0) (list : List A) (at : ℕ) → at ≡ length list → IfSome (slice_get list at) P
none_at_end P [] at is = tt
none_at_end P (one ∷ list) zero is = absurd (omega (arith, is))
none_at_end P (one ∷ list) (suc at) is = none_at_end P list at (omega (arith, is))

one_more : {A : Type 0} (P : A → Type 0) (list : List A) (last : A) (at : ℕ) → IfSome (slice_get list at) P
    → (at ≡ length list → P last) → IfSome (slice_get (list ++ last ∷ []) at) P
one_more P [] last zero h is = is refl
one_more P [] last (suc at) h is = tt
one_more P (one ∷ list) last zero h is = h
one_more P (one ∷ list) last (suc at) h is = one_more P list last at h (λ e. is (ap suc e))

if_some : {A : Type 0} (P Q : A → Type 0) (list : List A) (at : ℕ) → ((one : A) → P one → Q one)
    → IfSome (slice_get list at) P → IfSome (slice_get list at) Q
if_some P Q [] at f h = tt
if_some P Q (one ∷ list) zero f h = f one h
if_some P Q (one ∷ list) (suc at) f h = if_some P Q list at f h

-- the readings with that of the next source, whose counts alone changed
module _ (limit next : ℕ) (contents : ℕ → Option (List ℕ)) (There : ℕ → Type 0) (before given : ℕ → Option ℕ)
    (first refusals refused start unread failed : ℕ → ℕ) where
  abbrev Was : ℕ → Reading → Type 0
  Was at one =
      IsReading limit (contents at) (There at) (before at) at one (first at) (refusals at) (start at) (unread at)

  abbrev Is : ℕ → Reading → Type 0
  Is at one = IsReading limit (contents at) (There at) (given at) at one (first at) (refused at) (start at) (failed at)

  abbrev Now : Reading → Type 0
  Now one = IsReading limit (contents next) (There next) (given next) next one (refusals next) (refused next)
      (unread next) (failed next)

  first_counts : (one : Reading) → StayFrom next first refusals → StayFrom next start unread → Now one → Is next one
  first_counts one stay still h =
      subst (λ (n : ℕ). IsReading limit (contents next) (There next) (given next) next one (first next) (refused next) n
      (failed next)) (still.stays next (omega arith))
      (subst (λ (n : ℕ). IsReading limit (contents next) (There next) (given next) next one n (refused next)
      (unread next) (failed next)) (stay.stays next (omega arith)) h)

  stays_read : (at : ℕ) → at ≢ next → OthersStay next before given → OthersStay next refusals refused
      → OthersStay next unread failed → (one : Reading) → Was at one → Is at one
  stays_read at apart counts others rest one h =
      subst (λ (n : Option ℕ). IsReading limit (contents at) (There at) n at one (first at) (refused at) (start at)
      (failed at)) (sym (counts.stays at apart))
      (subst (λ (n : ℕ). IsReading limit (contents at) (There at) (before at) at one (first at) (refused at) (start at)
      n) (sym (rest.stays at apart))
      (subst (λ (n : ℕ). IsReading limit (contents at) (There at) (before at) at one (first at) n (start at)
      (unread at)) (sym (others.stays at apart)) h))

  pub readings_more : (readings : List Reading) (reading : Reading) → length readings ≡ next
      → AreReadings limit contents There before readings first refusals start unread
      → StayFrom next first refusals → StayFrom next start unread → OthersStay next before given
      → OthersStay next refusals refused → OthersStay next unread failed → Now reading
      → AreReadings limit contents There given (readings ++ reading ∷ []) first refused start failed
  readings_more readings reading many right stay still counts others rest last = record {
    each = λ at. elim (cases_eq at next) [
      | inl is ↦ one_more (Is at) readings reading at (none_at_end (Is at) readings at (is ∙ sym many))
          (λ _. subst (λ (n : ℕ). Is n reading) (sym is) (first_counts reading stay still last))
      | inr apart ↦ one_more (Is at) readings reading at
          (if_some (Was at) (Is at) readings at (stays_read at apart counts others rest) (right.each at))
          (λ end. absurd (apart (end ∙ many)))
    ];
  }

pub answers_with : (readings : List Reading) (reading : Reading)
    → answers_of (readings ++ reading ∷ []) ≡ answers_of readings ++ answer_of reading ∷ []
answers_with readings reading = map-append answer_of readings (reading ∷ [])

pub absent_with : (readings : List Reading) (reading : Reading)
    → absent_in (readings ++ reading ∷ []) ≡ absent_in readings ++ absent_in (reading ∷ [])
absent_with [] reading = refl
absent_with (Err (Absent number) ∷ readings) reading =
    ap (λ (rest : List ℕ). number ∷ rest) (absent_with readings reading)
absent_with (Err (Unread number) ∷ readings) reading = absent_with readings reading
absent_with (Err Memory ∷ readings) reading = absent_with readings reading
absent_with (Err (Plan fault) ∷ readings) reading = absent_with readings reading
absent_with (Ok answer ∷ readings) reading = absent_with readings reading

pub holds_with : (readings : List Reading) (reading : Reading) (read : Sources) (batch : Batch)
    → HoldsOpen (answers_of readings ++ answer_of reading ∷ []) read batch
    → HoldsOpen (answers_of (readings ++ reading ∷ [])) read batch
holds_with readings reading read batch h =
    subst (λ answers. HoldsOpen answers read batch) (sym (answers_with readings reading)) h

pub many_answers : (readings : List Reading) (at : ℕ) → length readings ≡ at → length (answers_of readings) ≡ at
many_answers readings at many = same readings ∙ many where
  same : (list : List Reading) → length (answers_of list) ≡ length list
  same [] = refl
  same (one ∷ list) = ap suc (same list)
