-- What an index of a supply of sources answers.
use Rattle.std.specs.Prelude.{◌≡◌, ◌<◌, ℕ, List, [], All, length, Option, None, Some, Result, Ok, Err}
use Rattle.dd_catalogue.specs.Harmony.{harmonised}
use Rattle.dd_layout.specs.Limits.{Limits}
use Rattle.dd_layout.specs.Layouts.{layout_of}
use Rattle.dd_layout.specs.Plans.{records_of}
use Rattle.dd_engine.specs.declared.choice.Choice.{Choice}
use Rattle.dd_engine.specs.declared.engine.Indexed.{Indexed}
use Rattle.dd_sources.specs.declared.engine_fault.EngineFault.{EngineFault}
use Rattle.dd_sources.specs.declared.engine_fault.EngineFault.TheVariants.{Memory, Absent, Unread, Plan}
use Rattle.dd_engine.specs.Choosing.{label_for, refusal_for}
use Rattle.dd_keys.specs.Sources.{Answer}
use Rattle.dd_sources.specs.Indexing.{accepted, best_of_sources, skipped}
use Rattle.dd_engine.specs.Picking.{ArePicked, files_of}
use Rattle.dd_sources.specs.Supply.{AreAnswers}

-- Where these are the answers for the sources, the best of their versions is laid out under the label that is asked
-- for, with nothing withdrawn. Sources without a version are skipped, and each image is picked from the first source
-- that has its file.
pub record IsIndexed (choice : Choice) (limits : Limits) (answers : List Answer) (indexed : Indexed) : Type 0 where
  pub plan : let m = best_of_sources (accepted answers) in indexed.plan ≡ layout_of (label_for choice m []) m []
  pub allowed : refusal_for choice limits (best_of_sources (accepted answers)) [] ≡ None
  pub skipped : indexed.skipped.items ≡ skipped answers
  pub picks : let m = best_of_sources (accepted answers) in ArePicked (files_of (accepted answers)) (harmonised m)
      (records_of (label_for choice m []) (harmonised m)) indexed.picks.items

-- the answer where these are the answers for the sources
abbrev pub Indexes : Choice → Limits → List Answer → Result Indexed EngineFault → Type 0
Indexes choice limits answers (Ok indexed) = IsIndexed choice limits answers indexed
Indexes choice limits answers (Err (Plan fault)) =
    refusal_for choice limits (best_of_sources (accepted answers)) [] ≡ Some fault
Indexes choice limits answers (Err Memory) = Unit {0}
Indexes choice limits answers (Err fault) = ⊥

-- the answer for a number of sources with these bytes, where they are known; where a source failed, nothing is said of
-- the others
abbrev pub AnswersSupply : Choice → Limits → ℕ → (ℕ → Option (List ℕ)) → ℕ → Result Indexed EngineFault → Type 0
AnswersSupply choice limits limit contents sources (Err (Absent at)) = at < sources
AnswersSupply choice limits limit contents sources (Err (Unread at)) = at < sources
AnswersSupply choice limits limit contents sources (Err Memory) = Unit {0}
AnswersSupply choice limits limit contents sources answer = (answers : List Answer)
    × (length answers ≡ sources) × AreAnswers limit contents answers × Indexes choice limits answers answer

-- ---- numbers of sources

-- each skipped source, and each that an image is copied from, has a number below the count of sources
pub record IsWithin (sources : ℕ) (indexed : Indexed) : Type 0 where
  pub skipped : All (λ skip. skip.0 < sources) indexed.skipped.items
  pub picks : All (λ at. at < sources) indexed.picks.items

-- the source that a fault names has a number below the count of sources
abbrev pub IsNamed : ℕ → EngineFault → Type 0
IsNamed sources (Absent at) = at < sources
IsNamed sources (Unread at) = at < sources
IsNamed sources fault = Unit {0}

-- each source was read, whether their versions have a plan or not
abbrev pub ReadsAll : Result Indexed EngineFault → Type 0
ReadsAll (Ok indexed) = Unit {0}
ReadsAll (Err (Plan fault)) = Unit {0}
ReadsAll (Err fault) = ⊥
