-- What a check or a listing of a file-set has printed, by its answer.
use Rattle.std.proofs.Common.{◌≡◌, ◌⊎◌, ℕ, Bool, true, false, List, Option, inl, inr, refl, subst}
use Rattle.dd_walk.specs.declared.fault.DirFault.{DirFault}
use Rattle.dd_walk.specs.ReadAnswers.{SaysMemory}
use Rattle.dd_walk.specs.Reading.{IsWalk, Refuses}
use Rattle.dd_walk.specs.Trees.{Walk}
use Rattle.dd_elem.specs.declared.device.Read.{Ghosts as ReadOf}
use Rattle.dd_elem.specs.declared.device.Write.{Ghosts as WriteOf}
use Rattle.dd_files.specs.Files.{Held}
use Rattle.dd_json.specs.declared.value.Style.{Style}
use Rattle.dd_report.specs.Checking.{TellsSome, TellsWalk}
use Rattle.dd_lines.specs.Text.{FailsInText, TakesText}
use Rattle.dd_report.specs.declared.checking.Comparison.{Comparison}
use Rattle.dd_report.specs.declared.known.Form.{Form}
use Rattle.dd_report.specs.FoundRecords.{IsListing}
use Rattle.dd_inspecting.specs.Inspecting.{ChecksSet, IsBroken, IsBrokenLine, ListsSet, SaysWalk, TellsBroken}
use Rattle.dd_inspecting.specs.Directories.{HasDirectory}

module _ {R W : Type 0} (readers : ReadOf R) (writer : WriteOf W) (folder bytes : List ℕ) (files : Option Held)
    (comparison : Comparison) (style : Style) (before after : ℕ) (old new : W)
    (directory : HasDirectory folder bytes files) where
  says : (walk : Walk) → IsWalk bytes walk → SaysWalk folder files walk
  says walk is = record { bytes = bytes; directory = directory; says = is }

  -- nothing was found, or something
  abbrev Told : Walk → Bool → Type 0
  Told walk found = (text : List ℕ) × TellsWalk readers files folder comparison style walk found before after text
      × TakesText writer old new text

  pub nothing_found : (walk : Walk) (found : Bool) → IsWalk bytes walk → Told walk found → found ≡ false
      → ChecksSet readers folder files comparison style writer 0 before after old new
  nothing_found walk found is (text, tells, took) none =
      let right = subst (λ (found : Bool). TellsWalk readers files folder comparison style walk found before after text)
      none tells in
      (text, inl (inl (refl, record { walk = walk; says = says walk is; tells = right }), took))

  pub something_found : (walk : Walk) (found : Bool) → IsWalk bytes walk → Told walk found → found ≡ true
      → ChecksSet readers folder files comparison style writer 3 before after old new
  something_found walk found is (text, tells, took) some =
      let amiss = subst (λ (found : Bool). TellsWalk readers files folder comparison style walk found before after text)
      some tells in
      (text, inl (inr (refl, inl (record { walk = walk; says = says walk is; tells = amiss })), took))

  -- the output failed
  pub check_unsent : (walk : Walk) → IsWalk bytes walk
      → (text : List ℕ) × TellsSome readers files folder comparison style walk before after text
      × FailsInText writer old new text
      → ChecksSet readers folder files comparison style writer 1 before after old new
  check_unsent walk is (text, tells, failed) =
      (text, inr (refl, inl (record { walk = walk; says = says walk is; tells = tells }), failed))

  -- the directory can't be read
  broken : (fault : DirFault) → SaysMemory fault ⊎ Refuses bytes fault → ¬ SaysMemory fault
      → IsBroken folder files fault
  broken fault (inl memory) none = absurd (none memory)
  broken fault (inr refuses) none = record { bytes = bytes; directory = directory; refuses = refuses }

  tells_broken : (fault : DirFault) → SaysMemory fault ⊎ Refuses bytes fault → ¬ SaysMemory fault → (text : List ℕ)
      → IsBrokenLine style text → TellsBroken folder files style text
  tells_broken fault refused none text line =
      record { fault = fault; broken = broken fault refused none; line = line }

  pub check_broken : (fault : DirFault) (status : ℕ) → SaysMemory fault ⊎ Refuses bytes fault → ¬ SaysMemory fault
      → (status ≡ 1) ⊎ (status ≡ 3)
      → (status ≡ 3 → (text : List ℕ) × IsBrokenLine style text × TakesText writer old new text)
      → (status ≡ 1 → (text : List ℕ) × IsBrokenLine style text × FailsInText writer old new text)
      → ChecksSet readers folder files comparison style writer status before after old new
  check_broken fault status refused none (inl one) printed failed =
      let (text, line, fails) = failed one in
      (text, inr (one, inr (tells_broken fault refused none text line), fails))
  check_broken fault status refused none (inr three) printed failed =
      let (text, line, took) = printed three in
      (text, inl (inr (three, inr (tells_broken fault refused none text line)), took))

-- what a listing has printed
module _ {W : Type 0} (writer : WriteOf W) (IsShown : List ℕ → List ℕ → List ℕ → Type 0) (folder bytes : List ℕ)
    (files : Option Held) (style : Style) (form : Form) (old new : W) (directory : HasDirectory folder bytes files) where
  pub listed : (walk : Walk) → IsWalk bytes walk → (text : List ℕ)
      × IsListing IsShown files folder style form walk text × TakesText writer old new text
      → ListsSet writer IsShown style form folder files 0 old new
  listed walk is (text, lists, took) = record {
    walk = walk;
    says = record { bytes = bytes; directory = directory; says = is };
    text = text;
    lists = lists;
    printed = inl (refl, took);
  }

  -- the output failed
  pub list_unsent : (walk : Walk) → IsWalk bytes walk → (text : List ℕ)
      × IsListing IsShown files folder style form walk text × FailsInText writer old new text
      → ListsSet writer IsShown style form folder files 1 old new
  list_unsent walk is (text, lists, failed) = record {
    walk = walk;
    says = record { bytes = bytes; directory = directory; says = is };
    text = text;
    lists = lists;
    printed = inr (refl, failed);
  }
