-- What it rests on that a file is said to have changed.
use Rattle.std.proofs.Common.{◌≡◌, ◌≢◌, ◌≤◌, ◌<◌, ◌+◌, ◌^◌, ℕ, zero, suc, Bool, true, false, List, [], ◌∷◌}
use Rattle.std.proofs.Common.{Option, None, Some}
use Rattle.std.proofs.Common.{Result, Ok, Err, IfErr, ap, arith, drop, get_or, inl, inr, is_some, length, refl, subst}
use Rattle.std.proofs.Common.{sym, take, if◌then◌else◌}
use Rattle.std.proofs.lemmas.List.{length-append}
use Rattle.std.specs.Io.KnownBytes.{Consumes}
use Rattle.std.specs.Prelude.{Contains, IfSome, IsSome, IsSomeAnd, slice_get, zip}
use Rattle.dd_elem.specs.declared.device.Write.{Ghosts as WriteOf}
use Rattle.dd_files.specs.Files.{Held}
use Rattle.dd_files.specs.Keeping.{Adds, IfSaid, KeepsAll}
use Rattle.dd_filing.specs.Ahead.{IsSentAhead}
use Rattle.dd_filing.specs.Filing.{IsFileAs, IsRefusedCopy}
use Rattle.dd_filing.specs.Taken.{Taken}
use Rattle.dd_filing.specs.declared.agreeing.Filed.{Filed}
use Rattle.dd_filing.specs.declared.agreeing.Filed.TheVariants.{AsPlanned}
use Rattle.dd_filing.specs.declared.copying.FilingFault.{FilingFault}
use Rattle.dd_filing.specs.declared.copying.FilingFault.TheVariants as copy
use Rattle.dd_records.specs.declared.record.PlanRecord.{PlanRecord}
use Rattle.dd_version.specs.declared.parts.Parts.{Parts}
use Rattle.dd_file_set.proofs.ImagesMade.{named}
use Rattle.dd_file_set.proofs.Unlinked.{bytes_by}
use Rattle.dd_file_set.specs.Changed.{HasUnfit, HasUnfitFirst, HasUnfitPick, IfChanged, IsUnfit}
use Rattle.dd_file_set.specs.Made.{HasAtOne}
use Rattle.dd_faults.specs.declared.refusal.ProgramFault.{ProgramFault}
use Rattle.dd_faults.specs.declared.refusal.ProgramFault.TheVariants.{Absent, BadName, BadStage, Changed, Create, Dir}
use Rattle.dd_faults.specs.declared.refusal.ProgramFault.TheVariants.{Folder, ListTooLarge, Memory, Own, Plan, SetId}
use Rattle.dd_faults.specs.declared.refusal.ProgramFault.TheVariants.{Strict, TooLong, Uid, Unread, Unsent}
use Rattle.dd_faults.specs.declared.refusal.Refusal.{Refusal}

-- ---- the same of more

pub changed_by : (E F : Type 0) (fault : ProgramFault) → (E → F) → IfChanged E fault → IfChanged F fault
changed_by E F Changed by is = by is
changed_by E F Absent by is = tt
changed_by E F Unread by is = tt
changed_by E F Create by is = tt
changed_by E F Folder by is = tt
changed_by E F Unsent by is = tt
changed_by E F Memory by is = tt
changed_by E F Strict by is = tt
changed_by E F (BadName number) by is = tt
changed_by E F (Uid bad) by is = tt
changed_by E F (SetId bad) by is = tt
changed_by E F (Plan none) by is = tt
changed_by E F (Dir bad) by is = tt
changed_by E F (Own bad) by is = tt
changed_by E F (BadStage item) by is = tt
changed_by E F TooLong by is = tt
changed_by E F ListTooLarge by is = tt

pub refused_by : {T : Type 0} (r : Result T Refusal) (E F : Type 0) → (E → F)
    → IfErr r (λ refusal. IfChanged E refusal.fault) → IfErr r (λ refusal. IfChanged F refusal.fault)
refused_by (Ok done) E F by is = tt
refused_by (Err refusal) E F by is = changed_by E F refusal.fault by is

-- ---- one file

module _ (From MayLink : List ℕ → Type 0) (said : Option Parts) (GivesLinks : Type 0) (planned : Parts) where
  abbrev Unfit : Option Held → Type 0
  Unfit files = HasUnfit From MayLink said GivesLinks planned files

  -- it was read whole, and is no file of the planned version
  pub other_file : (files : Option Held) (bytes : List ℕ) (filed : Filed) → HasAtOne From bytes files
      → (IsFileAs planned said AsPlanned bytes → filed ≡ AsPlanned) → filed ≢ AsPlanned → Unfit files
  other_file None bytes filed one same other = record { from = one.from; picked = one.picked; unfit = tt }
  other_file (Some held) bytes filed one same other = record {
    from = one.from;
    picked = one.picked;
    unfit = subst (λ (file : Option (List ℕ)). IsSomeAnd file (IsUnfit planned said GivesLinks MayLink)) (sym one.there)
        (inr (inl (λ is. other (same is))));
  }

  -- it gave as many bytes
  pub long_file : (from : List ℕ) (files : Option Held) (start left : Option (List ℕ)) (given : List ℕ) → From from
      → IfSome files (λ held. IsSome (held.bytes_at from) × (start ≡ held.bytes_at from)) → Consumes start left given
      → 2 ^ 32 ≤ length given → Unfit files
  long_file from None start left given picked opened taken long = record { from = from; picked = picked; unfit = tt }
  long_file from (Some held) start left given picked opened taken long = record {
    from = from;
    picked = picked;
    unfit = go (held.bytes_at from) left opened.0
        (subst (λ (first : Option (List ℕ)). Consumes first left given) opened.1 taken);
  } where
    go : (file left : Option (List ℕ)) → IsSome file → Consumes file left given
        → IsSomeAnd file (IsUnfit planned said GivesLinks MayLink)
    go None left there took = absurd (cc)
    go (Some bytes) None there took = absurd took
    go (Some bytes) (Some rest) there took =
        inl (omega (arith, long, ap length took, length-append given rest))

  -- a hard link to it may not have its bytes
  pub unlinked_file : (from : List ℕ) (files : Option Held) (MayNot : List ℕ → Type 0) → From from → GivesLinks
      → ((bytes : List ℕ) → MayNot bytes → ¬ MayLink bytes)
      → IfSome files (λ held. IsSomeAnd (held.bytes_at from) MayNot) → Unfit files
  unlinked_file from files MayNot picked gives not has = record {
    from = from;
    picked = picked;
    unfit = bytes_by MayNot (IsUnfit planned said GivesLinks MayLink) from files
        (λ bytes may_not. inr (inr (gives, not bytes may_not))) has;
  }

-- how many bytes were read of a file that is too long
pub too_long : {W : Type 0} (writer : WriteOf W) (old new : W) (fault : FilingFault) (limit : ℕ) (given : List ℕ)
    (left : Option (List ℕ)) (before after : ℕ) → fault ≡ copy.Changed
    → IsRefusedCopy writer old new fault limit given left before after → length given ≡ limit + 1
too_long writer old new fault limit given left before after is refused =
    (subst (λ (one : FilingFault). IsRefusedCopy writer old new one limit given left before after) is refused).0.0

-- what was read ahead is not
pub never_ahead : {W : Type 0} (writer : WriteOf W) (old new : W) (planned : Parts) (said : Option Parts)
    (fault : FilingFault) (file : Taken)
    → fault ≡ copy.Changed → IsSentAhead writer old new planned said (Err fault) file → ⊥
never_ahead writer old new planned said fault file is sent =
    subst (λ (one : FilingFault). IsSentAhead writer old new planned said (Err one) file) is sent

-- ---- a record and its pick

there : {X : Type 0} (first x : X) (xs : List X) → Contains xs x → Contains (first ∷ xs) x
there first x xs is = (suc is.0, omega (arith, is.1), is.2)

paired : {P : Type 0} (row : PlanRecord) (rows : List PlanRecord) (picks : List P) (pick : P)
    → slice_get picks 0 ≡ Some pick → Contains (zip (row ∷ rows) picks) (row, pick)
paired row rows [] pick first = absurd (cc)
paired row rows (one ∷ picks) pick first =
    let same : one ≡ pick = cc in
    (0, omega arith, ap (λ (p : _). (row, p)) same)

-- one more record before them may have a file, and its pick
amid : {P : Type 0} (row : PlanRecord) (front rows : List PlanRecord) (left : List P) (x : PlanRecord × P) (pick : P)
    → slice_get left 0 ≡ Some pick
    → ((all : List P) → left ≡ drop (length front) all → Contains (zip rows all) x) → (yes : Bool) (all : List P)
    → left ≡ drop (length (if yes then row ∷ front else front)) all
    → Contains (zip (if yes then row ∷ rows else rows) all) x
amid row front rows left x pick first next false all rest = next all rest
amid row front rows left x pick first next true [] rest =
    let amiss = subst (λ (picks : List _). slice_get picks 0 ≡ Some pick) rest first in absurd (cc)
amid row front rows left x pick first next true (one ∷ all) rest =
    there (row, one) x (zip rows all) (next all rest)

-- the next record with a file has the first of the picks that are left
row_among : {P : Type 0} (rows : List PlanRecord) (all left : List P) (at : ℕ) (d : PlanRecord) (pick : P)
    → at < length rows → IsSome (get_or rows at d).file → left ≡ drop (length (named (take at rows))) all
    → slice_get left 0 ≡ Some pick → Contains (zip (named rows) all) (get_or rows at d, pick)
row_among [] all left at d pick within some rest first = absurd (omega (arith, within))
row_among (row ∷ rows) all left zero d pick within some rest first =
    subst (λ (yes : Bool). Contains (zip (if yes then row ∷ named rows else named rows) all) (row, pick)) (sym some)
    (paired row (named rows) all pick (subst (λ (picks : List _). slice_get picks 0 ≡ Some pick) rest first))
row_among (row ∷ rows) all left (suc at) d pick within some rest first =
    amid row (named (take at rows)) (named rows) left (get_or rows at d, pick) pick first
    (λ others still. row_among rows others left at d pick (omega (arith, within)) some still first)
    (is_some row.file) all rest

-- a file has the bytes that it had
unfit_later : (From MayLink : List ℕ → Type 0) (said : Option Parts) (GivesLinks : Type 0) (planned : Parts)
    (old new : Held)
    → KeepsAll old new → HasUnfit From MayLink said GivesLinks planned (Some old)
    → HasUnfit From MayLink said GivesLinks planned (Some new)
unfit_later From MayLink said GivesLinks planned old new keeps has = record {
  from = has.from;
  picked = has.picked;
  unfit = go (old.bytes_at has.from) refl has.unfit;
} where
  go : (file : Option (List ℕ)) → old.bytes_at has.from ≡ file
      → IsSomeAnd file (IsUnfit planned said GivesLinks MayLink)
      → IsSomeAnd (new.bytes_at has.from) (IsUnfit planned said GivesLinks MayLink)
  go None is some = absurd some
  go (Some bytes) is some =
      subst (λ (file : Option (List ℕ)). IsSomeAnd file (IsUnfit planned said GivesLinks MayLink))
      (sym (keeps.stays has.from bytes is)) some

unfit_said : (From MayLink : List ℕ → Type 0) (said : Option Parts) (GivesLinks : Type 0) (planned : Parts)
    (MayBe : List ℕ → Type 0)
    (old new : Option Held) → IfSaid (Adds MayBe) old new → HasUnfit From MayLink said GivesLinks planned old
    → HasUnfit From MayLink said GivesLinks planned new
unfit_said From MayLink said GivesLinks planned MayBe None new adds has =
    subst (λ (files : Option Held). HasUnfit From MayLink said GivesLinks planned files) (sym adds) has
unfit_said From MayLink said GivesLinks planned MayBe (Some old) None adds has = absurd adds
unfit_said From MayLink said GivesLinks planned MayBe (Some old) (Some new) adds has =
    unfit_later From MayLink said GivesLinks planned old new adds.stays has

module _ {P : Type 0} (From MayLink : P → List ℕ → Type 0) (said : P → Option Parts) (GivesLinks : Type 0)
    (versions : List Parts) where
  -- the first of the picks
  pub unfit_first : (row : PlanRecord) (picks : List P) (d : P) (planned : Parts) (files : Option Held)
      → 1 ≤ length picks → IsSome row.file → slice_get versions row.of ≡ Some planned
      → HasUnfit (From (get_or picks 0 d)) (MayLink (get_or picks 0 d))
      (said (get_or picks 0 d)) GivesLinks planned files
      → HasUnfitFirst From MayLink said GivesLinks versions row picks files
  unfit_first row [] d planned files some file of has = absurd (omega (arith, some))
  unfit_first row (pick ∷ picks) d planned files some file of has = record {
    file = file;
    pick = pick;
    first = refl;
    has = record { planned = planned; of = of; has = has };
  }

  -- it is the pick of its record
  pub unfit_pick : (rows : List PlanRecord) (all left : List P) (at : ℕ) (d : PlanRecord) (MayBe : List ℕ → Type 0)
      (old new : Option Held) → at < length rows → left ≡ drop (length (named (take at rows))) all
      → IfSaid (Adds MayBe) old new → HasUnfitFirst From MayLink said GivesLinks versions (get_or rows at d) left old
      → HasUnfitPick From MayLink said GivesLinks versions (zip (named rows) all) new
  unfit_pick rows all left at d MayBe old new within rest adds is = record {
    row = (get_or rows at d, is.pick);
    among = row_among rows all left at d is.pick within is.file rest is.first;
    has = record {
      planned = is.has.planned;
      of = is.has.of;
      has = unfit_said (From is.pick) (MayLink is.pick) (said is.pick) GivesLinks is.has.planned MayBe old new adds
          is.has.has;
    };
  }
