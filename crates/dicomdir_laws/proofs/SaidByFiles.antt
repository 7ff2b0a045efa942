-- The versions that `index` reads are those of the files at its sources.
use Rattle.std.proofs.Common.{◌≡◌, ◌<◌, ◌∙◌, ℕ, zero, suc, List, [], ◌∷◌, Option, None, Some, Ok, Err}
use Rattle.std.proofs.Common.{ap, arith, false, inl, inr, length, refl, subst, true}
use Rattle.std.specs.Prelude.{Contains, IfErr, IfSome, IsSomeAnd, slice_get, slice_index_or}
use Rattle.std.specs.Str.{IsUtf8}
use Rattle.std.proofs.lemmas.Option.{slice_get_cases, slice_get_within}
use Rattle.clap.specs.Words.{Text}
use Rattle.dd_catalogue.proofs.Members.{Member, contained}
use Rattle.dd_sources.specs.Indexing.{accepted, accepted_from, versions_of}
use Rattle.dd_sources.specs.Readings.{Reading, answers_of}
use Rattle.dd_files.specs.Files.{Held}
use Rattle.dd_grammar.specs.declared.fault.SetFault.TheVariants as parsing
use Rattle.dd_keys.specs.Answers.{Answers}
use Rattle.dd_keys.specs.Faults.{IsWantOfMemory, SaysMemory}
use Rattle.dd_keys.specs.Versions.{IsVersion}
use Rattle.dd_keys.specs.declared.fault.KeyFault.{KeyFault}
use Rattle.dd_keys.specs.declared.fault.KeyFault.TheVariants.{File, Memory}
use Rattle.dd_keys.specs.Sources.{Answer, AnswersSource, IsOfSource}
use Rattle.dd_part10.specs.Memory.{SetWants}
use Rattle.dd_part10.specs.declared.fault.FileFault.TheVariants.{Meta, Set}
use Rattle.dd_version.specs.declared.parts.Parts.{Parts}
use Rattle.dicomdir_laws.specs.Headline.{OneFileSays}
use Rattle.dicomdir.proofs.ShortFiles.{short_file}
use Rattle.dicomdir.specs.Indexes.{AnswersName, AreRead, IsRead, NoneFailed, most_of_source}

-- ---- the versions among readings

kept_at : (at : ℕ) (readings : List Reading) (version : Parts)
    → Member version (versions_of (accepted_from at (answers_of readings)))
    → (k : ℕ) × (slice_get readings k ≡ Some (Ok (Ok version)))
kept_at at [] version held = absurd held
kept_at at (Ok (Ok one) ∷ readings) version (inl is) = (zero, ap (λ (v : Parts). Some (Ok (Ok v))) is)
kept_at at (Ok (Ok one) ∷ readings) version (inr later) =
    let there = kept_at (suc at) readings version later in (suc there.0, there.1)
kept_at at (Ok (Err fault) ∷ readings) version held =
    let there = kept_at (suc at) readings version held in (suc there.0, there.1)
kept_at at (Err fault ∷ readings) version held =
    let there = kept_at (suc at) readings version held in (suc there.0, there.1)

kept_of : (at k : ℕ) (readings : List Reading) (version : Parts) → slice_get readings k ≡ Some (Ok (Ok version))
    → Member version (versions_of (accepted_from at (answers_of readings)))
kept_of at k [] version is = absurd (cc)
kept_of at zero (Ok (Ok one) ∷ readings) version is = inl (cc)
kept_of at zero (Ok (Err fault) ∷ readings) version is = absurd (cc)
kept_of at zero (Err fault ∷ readings) version is = absurd (cc)
kept_of at (suc k) (Ok (Ok one) ∷ readings) version is = inr (kept_of (suc at) k readings version is)
kept_of at (suc k) (Ok (Err fault) ∷ readings) version is = kept_of (suc at) k readings version is
kept_of at (suc k) (Err fault ∷ readings) version is = kept_of (suc at) k readings version is

-- ---- names by number

name_at : (names : List Text) (k : ℕ) → k < length names → Member (slice_index_or names k []) names
name_at [] k below = absurd (omega arith)
name_at (name ∷ names) zero below = inl refl
name_at (name ∷ names) (suc k) below = inr (name_at names k (omega arith))

is_at : (names : List Text) (k : ℕ) (name : Text) → k < length names → slice_index_or names k name ≡ name
    → slice_index_or names k [] ≡ name
is_at [] k name below is = absurd (omega arith)
is_at (one ∷ names) zero name below is = is
is_at (one ∷ names) (suc k) name below is = is_at names k name (omega arith) is

-- ---- what one file says

module _ (held : Held) (names : List Text) (name : Text) (among : Contains names name) (version : Parts) where
  says_by : (file : Option (List ℕ)) → held.bytes_at name ≡ file → IsUtf8 name
      → IsSomeAnd file (λ file. AnswersSource most_of_source file (Ok version)) → OneFileSays names held version
  says_by None is path answers = absurd answers
  says_by (Some file) is path answers =
      let short = short_file file version answers in
      record {
        name = name;
        among = among;
        path = path;
        file = file;
        there = is;
        short = short;
        right = (answers.fits short).found;
      }

  says_of : AnswersName (Some held) name (Ok version) → OneFileSays names held version
  says_of answers = says_by (held.bytes_at name) refl answers.path answers.right

-- ---- the answer for a file that has a version

says_memory : (file : List ℕ) (fault : KeyFault) → IsWantOfMemory SetWants file fault → SaysMemory fault
says_memory file Memory want = tt
says_memory file (File (Meta parsing.Memory)) want = tt
says_memory file (File (Set parsing.Memory)) want = tt
says_memory file fault want = absurd want

pub version_is : (file : List ℕ) (version : Parts) (answer : Answer) → IfErr answer IsOfSource → Answers file answer
    → IsVersion file version → answer ≡ Ok version
version_is file version (Ok parts) settled answers right = ap (λ (v : Parts). Ok v) (answers.only version right)
version_is file version (Err fault) settled answers right =
    absurd (settled.1 (says_memory file fault (answers.only version right)))

answer_at : (readings : List Reading) (k : ℕ) (reading : Reading) → NoneFailed readings
    → slice_get readings k ≡ Some reading → (answer : Answer) × (reading ≡ Ok answer)
answer_at [] k reading all is = absurd (cc)
answer_at (Ok answer ∷ readings) zero reading all is = (answer, cc)
answer_at (Err fault ∷ readings) zero reading all is = let no : false ≡ true = all.0 in absurd (cc)
answer_at (one ∷ readings) (suc k) reading all is = answer_at readings k reading all.1 is

-- ---- all files

module _ (held : Held) (names : List Text) (readings : List Reading) (read : AreRead names (Some held) readings) where
  reading_at : (k : ℕ) (reading : Reading) → slice_get readings k ≡ Some reading
      → IsRead (Some held) (slice_index_or names k []) reading
  reading_at k reading is =
      subst (λ (o : Option Reading). IfSome o (IsRead (Some held) (slice_index_or names k []))) is (read.each k)

  pub said_of_kept : (version : Parts) → Member version (versions_of (accepted (answers_of readings)))
      → OneFileSays names held version
  said_of_kept version kept =
      let there = kept_at 0 readings version kept in
      let k = there.0 in
      let within : k < length names =
      subst (λ (n : ℕ). k < n) read.count (slice_get_within readings k (Ok (Ok version)) there.1) in
      let name = slice_index_or names k [] in
      says_of held names name (contained name names (name_at names k within)) version
      (reading_at k (Ok (Ok version)) there.1)

  answer_is : (version : Parts) (says : OneFileSays names held version) (k : ℕ) (answer : Answer)
      → slice_get readings k ≡ Some (Ok answer) → slice_index_or names k [] ≡ says.name → answer ≡ Ok version
  answer_is version says k answer is same =
      let answers : AnswersName (Some held) says.name answer =
      subst (λ (name : Text). AnswersName (Some held) name answer) same (reading_at k (Ok answer) is) in
      let right : AnswersSource most_of_source says.file answer =
      subst (λ (o : Option (List ℕ)). IsSomeAnd o (λ file. AnswersSource most_of_source file answer)) says.there
      answers.right in
      version_is says.file version answer answers.settled (right.fits says.short) says.right

  pub kept_of_said : (version : Parts) → NoneFailed readings → OneFileSays names held version
      → Member version (versions_of (accepted (answers_of readings)))
  kept_of_said version all says =
      let k = says.among.0 in
      let same = is_at names k says.name says.among.1 says.among.2 in
      elim (slice_get_cases readings k).1 [
        | inl one ↦
            let good = answer_at readings k one.0 all one.2 in
            let is : slice_get readings k ≡ Some (Ok good.0) = one.2 ∙ ap (λ (r : Reading). Some r) good.1 in
            kept_of 0 k readings version
            (is ∙ ap (λ (a : Answer). Some (Ok a)) (answer_is version says k good.0 is same))
        | inr none ↦ absurd (omega (arith, read.count, says.among.1, none.0))
      ]
