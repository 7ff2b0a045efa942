-- What is found in a source is what `index` finds in the bytes of its file.
use Rattle.std.proofs.Common.{◌≡◌, ◌≢◌, ◌∙◌, ◌≤◌, ◌+◌, ℕ, List, [], ◌++◌, length, true}
use Rattle.std.proofs.Common.{Option, None, Some, Ok, Err, take, refl, sym, ap, subst, arith, append-nil}
use Rattle.std.proofs.lemmas.List.{length-append, take_all, take_at}
use Rattle.std.specs.Io.KnownBytes.{Consumes}
use Rattle.std.specs.Prelude.{IfErr, IfSome, IsSome}
use Rattle.dd_files.specs.Files.{Held}
use Rattle.dd_filing.specs.Ahead.{ahead_limit}
use Rattle.dd_filing.specs.Copies.{IsFoundIn, length_of}
use Rattle.dd_filing.specs.CopySteps.{IsFilingFault}
use Rattle.dd_filing.specs.Taken.{Taken}
use Rattle.dd_filing.specs.declared.places.Ahead.TheVariants as known
use Rattle.dd_keys.specs.Answers.{Answers, AnswersReader}
use Rattle.dd_keys.specs.declared.fault.KeyFault.TheVariants.{FileTooLong}
use Rattle.dd_keys.specs.Sources.{Answer, AnswersSource, IsOfSource}
use Rattle.dd_pile.proofs.FilesRead.{file_given}
use Rattle.dd_pile.specs.Copies.{IsCopyOf, IsKnown, most_of_source}

-- ---- read while it was copied

-- how the reader of a source ended: with a byte too many, or with all of its bytes
pub record WasRead (given rest : List ℕ) (answer : Answer) : Type 0 where
  pub short : length given ≤ most_of_source + 1
  pub answered : AnswersSource most_of_source (given ++ rest) answer
  pub front : given ≡ take (most_of_source + 1) (given ++ rest)

was_whole : (given rest : List ℕ) (answer : Answer) → rest ≡ [] → length given ≤ most_of_source
    → answer ≢ Err FileTooLong → Answers given answer → WasRead given rest answer
was_whole given rest answer ended within short h =
    let same : given ++ rest ≡ given = ap (λ (bytes : List ℕ). given ++ bytes) ended ∙ append-nil given in
    record {
      short = omega (arith, within);
      answered = record {
        long = (λ e. absurd (short e), λ more. absurd (omega (arith, ap length same)));
        fits = λ _. subst (λ (bytes : List ℕ). Answers bytes answer) (sym same) h;
      };
      front = sym (ap (λ (bytes : List ℕ). take (most_of_source + 1) bytes) same
          ∙ take_all (most_of_source + 1) given (omega (arith, within)));
    }

was_long : (given rest : List ℕ) → length given ≡ most_of_source + 1 → WasRead given rest (Err FileTooLong)
was_long given rest many =
    let size : length (given ++ rest) ≡ length given + length rest = length-append given rest in
    record {
      short = omega (arith, many);
      answered = record {
        long = (λ _. omega (arith, many, size), λ _. refl);
        fits = λ within. absurd (omega (arith, many, size, within));
      };
      front = sym (take_at given rest (most_of_source + 1) many);
    }

was_read : (given rest : List ℕ) (old new : ℕ) (answer : Answer)
    → AnswersReader most_of_source given (Some rest) old new answer → IfErr answer IsOfSource
    → WasRead given rest answer
was_read given rest old new (Ok version) h settled =
    let read = h.ended (λ e. cc) (λ e. cc) in
    was_whole given rest (Ok version) read.1 read.0 (λ e. cc) (h.whole (λ e. cc) (λ e. cc) tt)
was_read given rest old new (Err FileTooLong) h settled = was_long given rest (h.long refl).0
was_read given rest old new (Err fault) h settled =
    let read = h.ended (λ e. settled.0 (cc)) (λ e. cc) in
    was_whole given rest (Err fault) read.1 read.0 (λ e. cc) (h.whole (λ e. settled.0 (cc)) (λ e. cc) settled.1)

-- however the reader ended, it gave at most one byte too many
few_given : (given : List ℕ) (left : Option (List ℕ)) (old new : ℕ) (answer : Answer)
    → AnswersReader most_of_source given left old new answer → IfErr answer IsOfSource
    → length given ≤ most_of_source + 1
few_given given left old new (Ok version) h settled =
    let read = (h.ended (λ e. cc) (λ e. cc)).0 in omega (arith, read)
few_given given left old new (Err FileTooLong) h settled = let read = (h.long refl).0 in omega (arith, read)
few_given given left old new (Err fault) h settled =
    let read = (h.ended (λ e. settled.0 (cc)) (λ e. cc)).0 in omega (arith, read)

-- so that its bytes were counted
pub size_given : (given : List ℕ) (left : Option (List ℕ)) (old new size : ℕ) (answer : Answer)
    → AnswersReader most_of_source given left old new answer → IfErr answer IsOfSource → size ≡ length_of given
    → size ≡ length given
size_given given left old new size answer h settled counted =
    let few = few_given given left old new answer h settled in omega (arith, few, counted)

copy_read : (file left : Option (List ℕ)) (start : Option (List ℕ)) (given : List ℕ) (old new : ℕ) (answer : Answer)
    → IsSome file → start ≡ file → Consumes start left given
    → AnswersReader most_of_source given left old new answer → IfErr answer IsOfSource → IsCopyOf file given answer
copy_read file left start given old new answer there same known h settled =
    let is = file_given file start left given there same known in
    let read = was_read given is.rest old new answer
    (subst (λ (after : Option (List ℕ)). AnswersReader most_of_source given after old new answer) is.after h) settled in
    record {
      bytes = is.bytes;
      stands = is.stands;
      front = subst (λ (bytes : List ℕ). given ≡ take (most_of_source + 1) bytes) (sym is.parts) read.front;
      found = subst (λ (bytes : List ℕ). AnswersSource most_of_source bytes answer) (sym is.parts) read.answered;
    }

-- the copy of a source that was read while it was written
pub copy_given : (path : List ℕ) (files : Option Held) (start left : Option (List ℕ)) (given : List ℕ) (old new : ℕ)
    (answer : Answer)
    → IfSome files (λ held. IsSome (held.bytes_at path) × (start ≡ held.bytes_at path)) → Consumes start left given
    → AnswersReader most_of_source given left old new answer → IfErr answer IsOfSource
    → IfSome files (λ held. IsCopyOf (held.bytes_at path) given answer)
copy_given path None start left given old new answer opened known h settled = tt
copy_given path (Some held) start left given old new answer opened known h settled =
    copy_read (held.bytes_at path) left start given old new answer opened.0 opened.1 known h settled

-- ---- read ahead

short_enough : (answer : Answer) → IfErr answer (λ fault. IsFilingFault fault None) → answer ≢ Err FileTooLong
short_enough (Ok version) settled = λ e. cc
short_enough (Err fault) settled = λ e. settled.1.0 (cc)

found_answers : (answer : Answer) (bytes : List ℕ) → length bytes ≤ ahead_limit → IsFoundIn bytes answer
    → AnswersSource most_of_source bytes answer
found_answers answer bytes within is = record {
  long = (λ e. absurd (short_enough answer is.settled e), λ more. absurd (omega (arith, within, more)));
  fits = λ _. is.answers;
}

pub found_settled : (answer : Answer) (bytes : List ℕ) → IsFoundIn bytes answer → IfErr answer IsOfSource
found_settled (Ok version) bytes is = tt
found_settled (Err fault) bytes is = (is.settled.0, is.settled.1.1)

-- the copy of a source that was read whole before it was written
pub copy_known : (path : List ℕ) (taken : Taken) (files : Option Held) (answer : Answer)
    → IsKnown path (known.File taken) files → taken.whole ≡ true → IsFoundIn taken.bytes answer
    → IfSome files (λ held. IsCopyOf (held.bytes_at path) taken.bytes answer)
copy_known path taken None answer knows whole is = tt
copy_known path taken (Some held) answer knows whole is = record {
  bytes = taken.bytes;
  stands = (knows whole).0;
  front =
      let within = (knows whole).1 in
      sym (take_all (most_of_source + 1) taken.bytes (omega (arith, within)));
  found = found_answers answer taken.bytes (knows whole).1 is;
}
