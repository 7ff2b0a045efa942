-- What a command prints, from the notes to the last line.
use Rattle.std.proofs.Common.{◌≡◌, ◌≢◌, ◌∙◌, ◌≤◌, ◌<◌, ◌↔◌, ℕ, zero, suc, List, [], ◌∷◌, ◌++◌, Bool, Option, arith}
use Rattle.std.proofs.Common.{false}
use Rattle.std.proofs.Common.{inl, inr, length, refl, sym, true, true≢false}
use Rattle.std.specs.Prelude.{Err, IfOk, IfSome, IsTrue, None, Ok, Result, Some}
use Rattle.dd_elem.specs.declared.device.Write.{Ghosts as WriteOf}
use Rattle.dd_engine.specs.declared.choice.Choice.{Choice}
use Rattle.dd_engine.specs.declared.noted_index.NotedIndex.{NotedIndex}
use Rattle.dd_engine.specs.declared.noted_merge.NotedMerge.{NotedMerge}
use Rattle.dd_engine.specs.MergeNotes.{NotesSets}
use Rattle.dd_files.specs.Files.{Held}
use Rattle.dd_json.specs.declared.value.Style.{Style}
use Rattle.dd_lines.specs.Text.{TakesText}
use Rattle.dicomdir.specs.FileSupply.{bytes_read}
use Rattle.dicomdir.specs.Indexes.{CountsPicks, Indexes, bytes_of_files, limits_of, status_past}
use Rattle.dd_inputs.specs.ListedNames.{HavePaths}
use Rattle.dicomdir.specs.Merges.{AreDirectories}
use Rattle.dicomdir.specs.Noted.{IsNoted, IsNotedIndex}
use Rattle.dicomdir.specs.Prints.{IsLastLine, PrintsIndex, PrintsMerge, last_line}
use Rattle.dicomdir.specs.Said.{SaysNotes, SaysSetNotes}
use Rattle.dicomdir.specs.declared.source_counts.SourceCounts.{SourceCounts}
use Rattle.dicomdir.proofs.SaidLines.{takes_both}

-- a strict run goes on only where nothing is noted
pub unnoted : (strict is_noted : Bool) (Noted : Type 0) → (false ≡ true) ↔ ((strict ≡ true) × (is_noted ≡ true))
    → IsTrue is_noted ↔ Noted → strict ≡ true → ¬ Noted
unnoted strict is_noted Noted refuses is asked noted = true≢false (sym (refuses.1 (asked, is.1 noted)))

module _ {W : Type 0} (writer : WriteOf W) (style : Style) (is_dry is_strict keeps_going : Bool) (choice : Choice)
    (bytes : ℕ) (sources paths : List (List ℕ)) (bad : List ℕ) (files : Option Held) (noted : NotedIndex)
    (old mid new : W) (line : List ℕ) where
  -- the last line was printed after the notes, unless the output failed
  pub index_prints : (status : ℕ) → HavePaths sources paths bad → Indexes keeps_going choice bytes sources files noted
      → (notes : List ℕ) × SaysNotes style paths noted notes × TakesText writer old mid notes
      → (is_strict ≡ true → ¬ IsNotedIndex noted) → IsLastLine style is_dry sources files noted.indexed line
      → (status ≡ 0 → TakesText writer mid new line) → status ≤ 1
      → status_past status noted.indexed.skipped.items ≢ 1
      → PrintsIndex writer style is_dry is_strict keeps_going choice bytes sources
      (status_past status noted.indexed.skipped.items) files old new
  index_prints (suc status) have indexes (notes, said, took) strict last next least done =
      absurd (done (omega (arith, least)))
  index_prints zero have indexes (notes, said, took) strict last next least done = record {
    noted = noted;
    indexes = indexes;
    past = refl;
    paths = paths;
    bad = bad;
    have = have;
    notes = notes;
    said = said;
    strict = strict;
    line = line;
    last = last;
    printed = takes_both writer old mid new notes line took (next refl);
  }

-- the bytes of images, where those of the sources were counted
pub images_counted : (files : Option Held) (names : List (List ℕ)) (counts : List SourceCounts) (picks : List ℕ)
    (images : ℕ) → images ≡ bytes_read counts picks → CountsPicks names counts picks files
    → IfSome files (λ held. images ≡ bytes_of_files held names picks)
images_counted None names counts picks images is counted = tt
images_counted (Some held) names counts picks images is counted = is ∙ counted

-- ---- file-sets

none_of : {T : Type 0} (xs : List T) → ¬ (0 < length xs) → xs ≡ []
none_of [] none = refl
none_of (x ∷ xs) none = absurd (none (omega (arith)))

-- where a strict run goes on, no image is withdrawn
pub unwithdrawn : (strict : Bool) (noted : NotedMerge) → (strict ≡ true → ¬ IsNoted noted) → strict ≡ true
    → noted.sets.withdrawn.items ≡ []
unwithdrawn strict noted none asked =
    none_of noted.sets.withdrawn.items (λ some. none asked (inr (inr (inl some))))

-- the notes, and then the last line
abbrev pub SaidBoth : {W : Type 0} → WriteOf W → Style → Bool → List (List ℕ) → NotedMerge → List ℕ → W → W → Type 0
SaidBoth writer style is_strict folders noted line old new = (notes : List ℕ)
    × SaysSetNotes style folders noted notes × (is_strict ≡ true → ¬ IsNoted noted)
    × TakesText writer old new (notes ++ line)

pub said_both : {E W : Type 0} (writer : WriteOf W) (r : Result ℕ E) (style : Style) (is_strict : Bool)
    (folders : List (List ℕ)) (noted : NotedMerge) (old mid new : W) (line : List ℕ)
    → (text : List ℕ) × SaysSetNotes style folders noted text × TakesText writer old mid text
    → (is_strict ≡ true → ¬ IsNoted noted) → IfOk r (λ status. status ≡ 0 → TakesText writer mid new line)
    → IfOk r (λ status. status ≡ 0 → SaidBoth writer style is_strict folders noted line old new)
said_both writer (Ok status) style is_strict folders noted old mid new line (notes, said, took) strict next =
    λ done. (notes, said, strict, takes_both writer old mid new notes line took (next done))
said_both writer (Err refusal) style is_strict folders noted old mid new line (notes, said, took) strict next = tt

module _ {E W : Type 0} (writer : WriteOf W) (style : Style) (is_dry is_strict : Bool) (choice : Choice) (bytes : ℕ)
    (given folders sets : List (List ℕ)) (files : Option Held) (noted : NotedMerge) (old new : W) where
  pub merge_prints : (r : Result ℕ E) → AreDirectories folders sets files
      → NotesSets choice (limits_of bytes) given sets (Ok noted)
      → IfOk r (λ status. status ≡ 0
      → SaidBoth writer style is_strict folders noted (last_line style is_dry noted.merged.plan) old new)
      → IfOk r (λ status. status ≡ 0
      → PrintsMerge writer style is_dry is_strict choice bytes given folders files old new)
  merge_prints (Ok status) are merges both = λ done.
      let (notes, said, strict, printed) = both done in
      record {
        sets = sets;
        are = are;
        noted = noted;
        merges = merges;
        notes = notes;
        said = said;
        strict = strict;
        printed = printed;
      }
  merge_prints (Err refusal) are merges both = tt
