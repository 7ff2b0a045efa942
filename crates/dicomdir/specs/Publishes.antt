-- What `publish` makes of piles, and what it prints: as `index` does of their sources.
use Rattle.std.specs.Prelude.{◌≡◌, ◌≢◌, ◌↔◌, ◌+◌, ◌<◌, ◌++◌, ◌∷◌, ℕ, List, [], Bool, Option, None, Result, Ok, IfOk, length, map}
use Rattle.std.specs.Prelude.{false, min, slice_index_or, sum_by, take, true}
use Rattle.std.specs.List.{AllByRecursion, flat_map}
use Rattle.std.specs.Str.{IsUtf8}
use Rattle.dd_elem.specs.Device.{last_count}
use Rattle.dd_elem.specs.declared.device.Write.{Ghosts as WriteOf}
use Rattle.dd_engine.specs.declared.choice.Choice.{Choice}
use Rattle.dd_engine.specs.declared.engine.Indexed.{Indexed}
use Rattle.dd_engine.specs.declared.noted_index.NotedIndex.{NotedIndex}
use Rattle.dd_engine.specs.Found.{HasFound}
use Rattle.dd_engine.specs.Indexed.{IsIndexed}
use Rattle.dd_engine.specs.IndexNotes.{NotesIndex}
use Rattle.dd_keys.specs.Sources.{Answer}
use Rattle.dd_files.specs.Files.{Held}
use Rattle.dd_files.specs.Keeping.{IfSaid}
use Rattle.dd_json.specs.declared.value.Style.{Style}
use Rattle.dd_layout.specs.Layouts.{Layout}
use Rattle.dd_line.specs.Line.{words_of}
use Rattle.dd_lines.specs.Text.{TakesText}
use Rattle.dd_pile.specs.Lists.{IfList}
use Rattle.dd_pile.specs.Paths.{IsCopyPath}
use Rattle.dd_pile.specs.declared.pile_fault.PileFault.{PileFault}
use Rattle.dd_pile.specs.declared.pile_fault.PileFault.TheVariants as list
use Rattle.dd_staged.specs.Sources.{Source}
use Rattle.dd_staged.specs.Stages.{IsStage}
use Rattle.dd_messages.specs.Counts.{ending_text, images_text}
use Rattle.dicomdir.specs.Indexes.{limits_of, status_past}
use Rattle.dd_inputs.specs.ListedNames.{shown_name}
use Rattle.dicomdir.specs.Noted.{IsNotedIndex}
use Rattle.dicomdir.specs.Prints.{size_of}
use Rattle.dicomdir.specs.Said.{SaysNotes}
use Rattle.dd_version.specs.declared.parts.Parts.{Parts}
use Rattle.dd_file_set.specs.Standing.{StandsWhole}
use Rattle.dd_faults.specs.declared.refusal.ProgramFault.{ProgramFault}
use Rattle.dd_faults.specs.declared.refusal.ProgramFault.TheVariants as faults
use Rattle.dicomdir.specs.Unread.{WasRead, absent_by, answer_of, bad_names_from, listed_from, said_of}
use Rattle.dd_messages.specs.declared.counts.Ending.TheVariants.{Done}
use Rattle.dicomdir.specs.declared.piles.Place.{Place}
use Rattle.dicomdir.specs.declared.piles.Piled.{Piled}

-- ---- what the lists say

-- the lists of these piles say these sources
abbrev pub AreLists : List (List ℕ) → List (List Source) → Option Held → Type 0
AreLists [] [] files = Unit {0}
AreLists [] (list ∷ lists) files = ⊥
AreLists (pile ∷ piles) [] files = ⊥
AreLists (pile ∷ piles) (list ∷ lists) files = IfList pile (λ bytes. IsStage bytes list) files × AreLists piles lists files

-- all these sources, in the order of their piles
abbrev pub sources_in : List (List Source) → List Source
sources_in lists = flat_map (λ list. list) lists

-- what was found of them
abbrev pub answers_in : List (List Source) → List Answer
answers_in lists = map (λ source. answer_of source.found) (sources_in lists)

-- the version that is said of each, where one is
abbrev pub versions_in : List (List Source) → List (Option Parts)
versions_in lists = map (λ source. said_of source.found) (sources_in lists)

-- the names that they were given
abbrev pub names_in : List (List Source) → List (List ℕ)
names_in lists = map (λ source. source.name) (sources_in lists)

-- the lengths of their copies
abbrev pub sizes_in : List (List Source) → List ℕ
sizes_in lists = map (λ source. source.size) (sources_in lists)

-- a name as lines show it
pub record IsShown (name shown : List ℕ) : Type 0 where
  pub utf8 : IsUtf8 name → shown ≡ name
  pub other : ¬ IsUtf8 name → shown ≡ shown_name name

-- names as lines show them
pub record AreShown (names shown : List (List ℕ)) : Type 0 where
  pub count : length shown ≡ length names
  pub each : (at : ℕ) → at < length names → IsShown (slice_index_or names at []) (slice_index_or shown at [])

-- the fault of a run that this fault of a list refuses
abbrev pub fault_of : PileFault → ProgramFault
fault_of list.TooLong = faults.TooLong
fault_of (list.BadStage item) = faults.BadStage item
fault_of list.Memory = faults.Memory
fault_of list.Absent = faults.Absent
fault_of list.Unread = faults.Unread

-- ---- copies

-- the source of number `at` among all is that of number `number` in this pile, all counted from 0
pub record IsInPile (lists : List (List Source)) (at pile number : ℕ) : Type 0 where
  pub within : number < length (slice_index_or lists pile [])
  pub same : at ≡ length (sources_in (take pile lists)) + number

-- its copy stands at this path
pub record IsCopyOf (piles : List (List ℕ)) (lists : List (List Source)) (at : ℕ) (path : List ℕ) : Type 0 where
  pub pile : ℕ
  pub number : ℕ
  pub place : IsInPile lists at pile number
  pub is : IsCopyPath (slice_index_or piles pile []) (number + 1) path

-- a hard link to it may have these bytes: they are as many as the list says
abbrev pub MayLinkCopy : Type 0 → List (List Source) → ℕ → List ℕ → Type 0
MayLinkCopy GivesLinks lists at bytes = GivesLinks × (length bytes ≡ slice_index_or (sizes_in lists) at 0)

-- the version that is said of the copy of this number: its copy is wholly of it
abbrev pub said_at : List (Option Parts) → ℕ → Option Parts
said_at said at = slice_index_or said at None

abbrev pub said_in : List (List Source) → ℕ → Option Parts
said_in lists at = said_at (versions_in lists) at

-- the place of this number
abbrev pub place_at : List Place → ℕ → Place
place_at places at = slice_index_or places at (record { pile = 0; number = 0; size = 0 })

abbrev pub pile_at : List Place → ℕ → ℕ
pile_at places at = (place_at places at).pile

-- it is there, and the copy at it has this path
pub record IsCopyAt (piles : List (List ℕ)) (places : List Place) (at : ℕ) (path : List ℕ) : Type 0 where
  pub within : at < length places
  pub is : IsCopyPath (slice_index_or piles (pile_at places at) []) (place_at places at).number path

-- the length of the copy at it
abbrev pub size_at : List Place → ℕ → ℕ
size_at places at = (place_at places at).size

-- a hard link to it may have these bytes
abbrev pub MayLinkAt : Type 0 → List Place → ℕ → List ℕ → Type 0
MayLinkAt GivesLinks places at bytes = GivesLinks × (length bytes ≡ size_at places at)

-- the bytes of the copies at these, up to the largest count
abbrev pub placed_bytes : List Place → List ℕ → ℕ
placed_bytes places picks = min (sum_by (size_at places) picks) last_count

-- the place of the source of number `number`, from 0, in this pile
pub record IsPlaceOf (pile number : ℕ) (place : Place) : Type 0 where
  pub in_pile : place.pile ≡ pile
  pub counted : place.number ≡ number + 1

-- the places of the sources of these lists
pub record ArePlaces (lists : List (List Source)) (places : List Place) : Type 0 where
  pub count : length places ≡ length (sources_in lists)
  pub each : (at pile number : ℕ) → IsInPile lists at pile number → IsPlaceOf pile number (place_at places at)
  pub sizes : map (λ place. place.size) places ≡ sizes_in lists

-- what was read of these lists: the names as lines show them, the places and versions of the copies, which sources were
-- not read, and what was found
pub record IsPiled (lists : List (List Source)) (piled : Piled) : Type 0 where
  pub shown : AreShown (names_in lists) (words_of piled.names.items)
  pub places : ArePlaces lists piled.places.items
  pub said : piled.said.items ≡ versions_in lists
  pub absent : piled.unread.absent.items ≡ listed_from absent_by 0 (sources_in lists)
  pub bad_names : piled.unread.bad_names.items ≡ bad_names_from 0 lists
  pub found : HasFound (answers_in lists) piled.found

-- that is read of the lists of these piles
abbrev pub HasPiled : List (List ℕ) → Option Held → Piled → Type 0
HasPiled piles files piled = (lists : List (List Source)) × AreLists piles lists files × IsPiled lists piled

-- ---- what is made and printed

-- The best of all versions that the lists say is laid out under the label that is asked for, and the file-set of this
-- layout stands in the folder. A copy is wholly of the version that its list says. The status is 0 exactly where each
-- source was read when it was staged.
pub record MakesPublish (choice : Choice) (bytes : ℕ) (piles : List (List ℕ)) (GivesLinks : Type 0) (folder : List ℕ)
    (status : ℕ) (old new : Option Held) : Type 0 where
  pub lists : List (List Source)
  pub are : AreLists piles lists old
  pub all : (status ≡ 0) ↔ AllByRecursion (λ source. WasRead source.found) (sources_in lists)
  pub indexed : Indexed
  pub is : IsIndexed choice (limits_of bytes) (answers_in lists) indexed
  pub stands : IfSaid (StandsWhole (IsCopyOf piles lists) (MayLinkCopy GivesLinks lists)
      (said_in lists) folder indexed.plan
      indexed.picks.items) old new

-- a publish that is done has made this
abbrev pub DonePublishes : {E : Type 0} → Result ℕ E → Choice → ℕ → List (List ℕ) → Type 0 → List ℕ → Option Held
    → Option Held → Type 0
DonePublishes r choice bytes piles GivesLinks folder old new =
    IfOk r (λ status. status ≢ 1 → MakesPublish choice bytes piles GivesLinks folder status old new)

-- the bytes of the images of these sources, by the lengths of their copies, up to the largest count
abbrev pub image_bytes : List (List Source) → List ℕ → ℕ
image_bytes lists picks = min (sum_by (λ at. slice_index_or (sizes_in lists) at 0) picks) last_count

-- the last line: of a file-set with this layout that was made or, where nothing is made, of one that would be, with this
-- number of bytes of images
abbrev pub last_line : Style → Bool → Layout → ℕ → List ℕ
last_line style false plan images = ending_text style Done (length plan.versions) (size_of plan)
last_line style true plan images = images_text style (length plan.versions) (size_of plan) images

-- The notes on what the lists say, and then the last line, as `index` prints them of the sources. In a strict run nothing
-- is noted. The status says whether a source is skipped since it was not read.
pub record PrintsPublish {W : Type 0} (writer : WriteOf W) (style : Style) (is_dry is_strict : Bool) (choice : Choice)
    (bytes : ℕ) (piles : List (List ℕ)) (status : ℕ) (files : Option Held) (old new : W) : Type 0 where
  pub lists : List (List Source)
  pub are : AreLists piles lists files
  pub noted : NotedIndex
  pub indexes : NotesIndex choice (limits_of bytes) (answers_in lists) (Ok noted)
  pub past : status ≡ status_past 0 noted.indexed.skipped.items
  pub names : List (List ℕ)
  pub shown : AreShown (names_in lists) names
  pub notes : List ℕ
  pub said : SaysNotes style names noted notes
  pub strict : is_strict ≡ true → ¬ IsNotedIndex noted
  pub printed : TakesText writer old new
      (notes ++ last_line style is_dry noted.indexed.plan (image_bytes lists noted.indexed.picks.items))
