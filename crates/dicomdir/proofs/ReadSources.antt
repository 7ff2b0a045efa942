-- What `index` reads of its sources, with `--keep-going` and without it.
use Rattle.std.proofs.Common.{◌≡◌, ◌∙◌, ◌<◌, ℕ, zero, suc, List, [], ◌∷◌, Bool, true, false, Option, Result, Ok, Err}
use Rattle.std.proofs.Common.{Global, String, ap, arith, get_or, length, map, refl, subst, sym, true≢false}
use Rattle.std.specs.Prelude.{IfErr, IfOk, IfSome, slice_get}
use Rattle.dd_engine.specs.declared.choice.Choice.{Choice}
use Rattle.dd_sources.specs.declared.engine_fault.EngineFault.{EngineFault}
use Rattle.dd_sources.specs.declared.engine_fault.EngineFault.TheVariants as faults
use Rattle.dd_engine.specs.declared.noted_index.NotedIndex.{NotedIndex}
use Rattle.dd_engine.specs.declared.notes.ConflictingFiles.{ConflictingFiles}
use Rattle.dd_engine.specs.declared.notes.NotedFault.{NotedFault}
use Rattle.dd_engine.specs.declared.past_failures.PastFailures.{PastFailures}
use Rattle.dd_sources.specs.declared.supply.Supply.{Ghosts as SupplyOf}
use Rattle.dd_engine.specs.Indexed.{Indexes as Plans, ReadsAll}
use Rattle.dd_keys.specs.Sources.{Answer}
use Rattle.dd_engine.specs.IndexNotes.{NotesFault, NotesIndex, NotesSupply}
use Rattle.dd_sources.specs.Readings.{AreAllReadings, AreReadings, IsReading, Reading, answers_of}
use Rattle.dd_engine.specs.PastFailures.{NotesPast, RefusesPast}
use Rattle.dd_sources.specs.Supply.{AreAnswers, HasGivenAll, IsAnswer}
use Rattle.dd_files.specs.Files.{Held}
use Rattle.dd_layout.specs.declared.fault.PlanFault.{PlanFault}
use Rattle.dd_line.specs.Line.{words_of}
use Rattle.dicomdir.proofs.BadNames.{answers_name}
use Rattle.dicomdir.specs.FileSupply.{IsThere, contents_by}
use Rattle.dicomdir.specs.Grounds.{HaveNoPlan}
use Rattle.dicomdir.specs.Indexes.{AnswersName, AreRead, Indexes, IsRead, NoneFailed, limits_of, most_of_source}
use Rattle.dd_inputs.specs.ListedNames.{HavePaths}

-- ---- readings of either kind

reading_is_read : (old : Option Held) (name : List ℕ) (contents : Option (List ℕ)) (There : Type 0) (given : Option ℕ)
    (at : ℕ) (reading : Reading) (refusals refused unread failed : ℕ)
    → ((answer : Answer) → IsAnswer most_of_source contents answer → There → AnswersName old name answer)
    → IsReading most_of_source contents There given at reading refusals refused unread failed → IsRead old name reading
reading_is_read old name contents There given at (Ok answer) refusals refused unread failed of h = of answer h.0 h.3
reading_is_read old name contents There given at (Err (faults.Absent number)) refusals refused unread failed of h = tt
reading_is_read old name contents There given at (Err (faults.Unread number)) refusals refused unread failed of h = tt
reading_is_read old name contents There given at (Err faults.Memory) refusals refused unread failed of h = absurd h
reading_is_read old name contents There given at (Err (faults.Plan fault)) refusals refused unread failed of h =
    absurd h

-- what is so of a list at a place, where that is one of the list
if_within : {A : Type 0} (P Q : A → Type 0) (list : List A) (at : ℕ) → (at < length list → (one : A) → P one → Q one)
    → IfSome (slice_get list at) P → IfSome (slice_get list at) Q
if_within P Q [] at f h = tt
if_within P Q (one ∷ list) zero f h = f (omega arith) one h
if_within P Q (one ∷ list) (suc at) f h =
    if_within P Q list at (λ within. f (omega (arith, within))) h

pub readings_are_read : (sources : List (List ℕ)) (texts : List (String Global)) (bad : List ℕ) (old : Option Held)
    (There : ℕ → Type 0) (given : ℕ → Option ℕ) (readings : List Reading) (refusals refused unread failed : ℕ → ℕ)
    → HavePaths sources (words_of texts) bad → length readings ≡ length (words_of texts)
    → ((at : ℕ) → There at → IsThere old (words_of texts) bad at)
    → AreReadings most_of_source (contents_by old (words_of texts)) There given readings refusals refused unread failed
    → AreRead sources old readings
readings_are_read sources texts bad old There given readings refusals refused unread failed have many stands h =
    record {
      count = many ∙ have.count;
      each = λ at. if_within _ (IsRead old (get_or sources at [])) readings at
          (λ within one is. reading_is_read old (get_or sources at []) (contents_by old (words_of texts) at) (There at)
          (given at) at one _ _ _ _ (λ answer right there. answers_name sources texts bad old have at
          (omega (arith, within, many, have.count)) answer right (stands at there)) is)
          (h.each at);
    }

-- the answers of an index that ends with the first source that fails
abbrev pub as_readings : List Answer → List Reading
as_readings answers = map (λ answer. Ok answer) answers

pub answered : (answers : List Answer) → answers_of (as_readings answers) ≡ answers
answered [] = refl
answered (answer ∷ answers) = ap (λ (rest : List Answer). answer ∷ rest) (answered answers)

as_reading : (limit : ℕ) (contents : Option (List ℕ)) (There : Type 0) (given : Option ℕ) (n : ℕ)
    (answers : List Answer) (at : ℕ) → IfSome (slice_get answers at) (IsAnswer limit contents)
    → (at < length answers → There × HasGivenAll limit contents given)
    → IfSome (slice_get (as_readings answers) at) (λ reading. IsReading limit contents There given n reading 0 0 0 0)
as_reading limit contents There given n [] at h whole = tt
as_reading limit contents There given n (answer ∷ answers) zero h whole =
    let more = whole (omega arith) in (h, refl, refl, more.0, more.1)
as_reading limit contents There given n (answer ∷ answers) (suc at) h whole =
    as_reading limit contents There given n answers at h (λ within. whole (omega (arith, within)))

as_many : (answers : List Answer) → length (as_readings answers) ≡ length answers
as_many [] = refl
as_many (answer ∷ answers) = ap suc (as_many answers)

as_none_failed : (answers : List Answer) → NoneFailed (as_readings answers)
as_none_failed [] = tt
as_none_failed (answer ∷ answers) = (refl, as_none_failed answers)

-- ---- what was read of all sources

-- readings of either kind: these are of sources that are there, and their bytes were counted
pub record AreAll (keeps_going : Bool) (sources : List (List ℕ)) (texts : List (String Global)) (bad : List ℕ)
    (old : Option Held) (given : ℕ → Option ℕ) (readings : List Reading) : Type 1 where
  pub have : HavePaths sources (words_of texts) bad
  pub many : length readings ≡ length (words_of texts)
  pub There : ℕ → Type 0
  pub stands : (at : ℕ) → There at → IsThere old (words_of texts) bad at
  pub refusals : ℕ → ℕ
  pub refused : ℕ → ℕ
  pub unread : ℕ → ℕ
  pub failed : ℕ → ℕ
  pub are : AreReadings most_of_source (contents_by old (words_of texts)) There given readings refusals refused unread
      failed
  pub all : keeps_going ≡ false → NoneFailed readings

pub all_read : (keeps_going : Bool) (sources : List (List ℕ)) (texts : List (String Global)) (bad : List ℕ)
    (old : Option Held) (given : ℕ → Option ℕ) (readings : List Reading)
    → AreAll keeps_going sources texts bad old given readings → AreRead sources old readings
all_read keeps_going sources texts bad old given readings h =
    readings_are_read sources texts bad old h.There given readings h.refusals h.refused h.unread h.failed h.have h.many
    h.stands h.are

module _ {S In : Type 0} (supply : SupplyOf S In) (keeps_going : Bool) (sources : List (List ℕ))
    (texts : List (String Global)) (bad : List ℕ) (old : Option Held) (start end : S)
    (have : HavePaths sources (words_of texts) bad) (many : supply.sources start ≡ length (words_of texts))
    (same : supply.contents start ≡ contents_by old (words_of texts))
    (stands : (at : ℕ) → supply.is_there (supply.rest start) at → IsThere old (words_of texts) bad at) where
  -- those of an index that goes on past sources that fail
  pub all_past : (readings : List Reading) → keeps_going ≡ true
      → AreAllReadings supply most_of_source readings start end
      → AreAll keeps_going sources texts bad old (supply.given end) readings
  all_past readings keeps h = record {
    have = have;
    many = h.count ∙ many;
    There = supply.is_there (supply.rest start);
    stands = stands;
    refusals = supply.refusals start;
    refused = supply.refusals end;
    unread = supply.unread start;
    failed = supply.unread end;
    are = subst (λ (contents : ℕ → Option (List ℕ)). AreReadings most_of_source contents
        (supply.is_there (supply.rest start)) (supply.given end) readings (supply.refusals start)
        (supply.refusals end) (supply.unread start) (supply.unread end)) same h.right;
    all = λ none. absurd (true≢false (sym keeps ∙ none));
  }

-- each of this many sources is there, and its bytes were counted
abbrev pub AllCounted : List (String Global) → List ℕ → Option Held → (ℕ → Option ℕ) → ℕ → Type 0
AllCounted texts bad old given count = (at : ℕ) → at < count
    → IsThere old (words_of texts) bad at × HasGivenAll most_of_source (contents_by old (words_of texts) at) (given at)

-- those of an index that ends with the first one that fails
pub all_answers : (keeps_going : Bool) (sources : List (List ℕ)) (texts : List (String Global)) (bad : List ℕ)
    (old : Option Held) (given : ℕ → Option ℕ) (count : ℕ) (answers : List Answer)
    → HavePaths sources (words_of texts) bad → count ≡ length (words_of texts) → length answers ≡ count
    → AreAnswers most_of_source (contents_by old (words_of texts)) answers → AllCounted texts bad old given count
    → AreAll keeps_going sources texts bad old given (as_readings answers)
all_answers keeps_going sources texts bad old given count answers have many length_is right counted = record {
  have = have;
  many = as_many answers ∙ length_is ∙ many;
  There = IsThere old (words_of texts) bad;
  stands = λ at there. there;
  refusals = λ _. 0;
  refused = λ _. 0;
  unread = λ _. 0;
  failed = λ _. 0;
  are = record {
    each = λ at. as_reading most_of_source (contents_by old (words_of texts) at) (IsThere old (words_of texts) bad at)
        (given at) at answers at (right.each at) (λ within. counted at (omega (arith, within, length_is)));
  };
  all = λ _. as_none_failed answers;
}

-- the index of what was read
pub indexes_all : (keeps_going : Bool) (choice : Choice) (bytes : ℕ) (sources : List (List ℕ))
    (texts : List (String Global)) (bad : List ℕ) (old : Option Held) (given : ℕ → Option ℕ) (readings : List Reading)
    (noted : NotedIndex) → AreAll keeps_going sources texts bad old given readings
    → NotesIndex choice (limits_of bytes) (answers_of readings) (Ok noted)
    → Indexes keeps_going choice bytes sources old noted
indexes_all keeps_going choice bytes sources texts bad old given readings noted h notes = record {
  readings = readings;
  read = all_read keeps_going sources texts bad old given readings h;
  all = h.all;
  notes = notes;
}

-- it has no plan
no_plan : (keeps_going : Bool) (choice : Choice) (bytes : ℕ) (sources : List (List ℕ)) (texts : List (String Global))
    (bad : List ℕ) (old : Option Held) (given : ℕ → Option ℕ) (readings : List Reading) (fault other : PlanFault)
    → AreAll keeps_going sources texts bad old given readings
    → Plans choice (limits_of bytes) (answers_of readings) (Err (faults.Plan fault))
    → faults.Plan fault ≡ faults.Plan other
    → HaveNoPlan keeps_going choice bytes sources old other
no_plan keeps_going choice bytes sources texts bad old given readings fault other h refused is =
    let same : fault ≡ other = cc in
    subst (λ (one : PlanFault). HaveNoPlan keeps_going choice bytes sources old one) same (record {
      readings = readings;
      read = all_read keeps_going sources texts bad old given readings h;
      all = h.all;
      refuses = refused;
    })

-- ---- the index

module _ {S In : Type 0} (supply : SupplyOf S In) (keeps_going : Bool) (choice : Choice) (bytes : ℕ)
    (sources : List (List ℕ)) (texts : List (String Global)) (bad : List ℕ) (old : Option Held) (start end : S)
    (have : HavePaths sources (words_of texts) bad) (many : supply.sources start ≡ length (words_of texts))
    (same : supply.contents start ≡ contents_by old (words_of texts))
    (stands : (at : ℕ) → supply.is_there (supply.rest start) at → IsThere old (words_of texts) bad at) where
  abbrev NoPlan : NotedFault EngineFault ℕ → Type 0
  NoPlan noted = (fault : PlanFault) → noted.fault ≡ faults.Plan fault
      → HaveNoPlan keeps_going choice bytes sources old fault

  -- where it goes on past sources that fail
  module _ (keeps : keeps_going ≡ true) where
    pub indexes_past : {E : Type 0} (r : Result PastFailures E)
        → IfOk r (λ past. NotesPast supply choice (limits_of bytes) most_of_source past start end)
        → IfOk r (λ past. Indexes keeps_going choice bytes sources old past.noted)
    indexes_past (Ok past) h =
        indexes_all keeps_going choice bytes sources texts bad old (supply.given end) h.0 past.noted
        (all_past supply keeps_going sources texts bad old start end have many same stands h.0 keeps h.1) h.2
    indexes_past (Err noted) h = tt

    refused_past : (fault : EngineFault) (conflict : Option (ConflictingFiles ℕ)) (other : PlanFault)
        → RefusesPast supply choice (limits_of bytes) most_of_source fault conflict start end
        → fault ≡ faults.Plan other → HaveNoPlan keeps_going choice bytes sources old other
    refused_past faults.Memory conflict other h is = absurd (cc)
    refused_past (faults.Absent at) conflict other h is = absurd h
    refused_past (faults.Unread at) conflict other h is = absurd h
    refused_past (faults.Plan fault) conflict other h is =
        no_plan keeps_going choice bytes sources texts bad old (supply.given end) h.0 fault other
        (all_past supply keeps_going sources texts bad old start end have many same stands h.0 keeps h.1) h.2 is

    pub no_plan_past : (r : Result PastFailures (NotedFault EngineFault ℕ))
        → IfErr r (λ noted. RefusesPast supply choice (limits_of bytes) most_of_source noted.fault noted.conflict start
        end)
        → IfErr r NoPlan
    no_plan_past (Ok past) h = tt
    no_plan_past (Err noted) h = λ fault is. refused_past noted.fault noted.conflict fault h is

-- where it ends with the first one that fails
module _ (keeps_going : Bool) (choice : Choice) (bytes : ℕ) (sources : List (List ℕ)) (texts : List (String Global))
    (bad : List ℕ) (old : Option Held) (given : ℕ → Option ℕ) (count : ℕ)
    (have : HavePaths sources (words_of texts) bad) (many : count ≡ length (words_of texts)) where
  pub indexes_whole : (noted : NotedIndex)
      → NotesSupply choice (limits_of bytes) most_of_source (contents_by old (words_of texts)) count (Ok noted)
      → AllCounted texts bad old given count → Indexes keeps_going choice bytes sources old noted
  indexes_whole noted h counted =
      indexes_all keeps_going choice bytes sources texts bad old given (as_readings h.0) noted
      (all_answers keeps_going sources texts bad old given count h.0 have many h.1 h.2 counted)
      (subst (λ (all : List Answer). NotesIndex choice (limits_of bytes) all (Ok noted)) (sym (answered h.0)) h.3)

  pub no_plan_whole : (fault : EngineFault) (conflict : Option (ConflictingFiles ℕ)) (other : PlanFault)
      → NotesFault choice (limits_of bytes) most_of_source (contents_by old (words_of texts)) count fault conflict
      → (ReadsAll (Err fault) → AllCounted texts bad old given count) → fault ≡ faults.Plan other
      → HaveNoPlan keeps_going choice bytes sources old other
  no_plan_whole faults.Memory conflict other h counted is = absurd (cc)
  no_plan_whole (faults.Absent at) conflict other h counted is = absurd (cc)
  no_plan_whole (faults.Unread at) conflict other h counted is = absurd (cc)
  no_plan_whole (faults.Plan fault) conflict other h counted is =
      no_plan keeps_going choice bytes sources texts bad old given (as_readings h.0) fault other
      (all_answers keeps_going sources texts bad old given count h.0 have many h.1 h.2 (counted tt))
      (subst (λ (all : List Answer). Plans choice (limits_of bytes) all (Err (faults.Plan fault)))
      (sym (answered h.0)) h.3) is
