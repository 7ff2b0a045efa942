-- What was made of piles, and what was printed.
use Rattle.std.proofs.Common.{◌≡◌, ◌≢◌, ◌∙◌, ◌+◌, ◌<◌, ◌≤◌, ℕ, zero, suc, List, [], ◌∷◌, Bool, Option, Ok, ap, ap₂, arith}
use Rattle.std.proofs.Common.{get_or, length, refl, string_bytes, subst, sym, true}
use Rattle.std.proofs.lemmas.List.{get_or_default, length-map}
use Rattle.std.proofs.lemmas.List.Elements.{All-weaker}
use Rattle.std.proofs.lemmas.List.Sums.{sum_by-cons}
use Rattle.std.proofs.Math.ListN.{get_or-map}
use Rattle.std.specs.Prelude.{All, min, sum_by}
use Rattle.dd_elem.specs.Device.{last_count}
use Rattle.dd_elem.specs.declared.device.Write.{Ghosts as WriteOf}
use Rattle.dd_engine.specs.declared.choice.Choice.{Choice}
use Rattle.dd_engine.specs.declared.noted_index.NotedIndex.{NotedIndex}
use Rattle.dd_engine.specs.Found.{HasFound}
use Rattle.dd_keys.specs.Sources.{Answer}
use Rattle.dd_engine.specs.IndexNotes.{NotesIndex}
use Rattle.dd_files.specs.Files.{Held}
use Rattle.dd_json.specs.declared.value.Style.{Style}
use Rattle.dd_line.specs.Line.{words_of}
use Rattle.dd_lines.specs.Text.{TakesText}
use Rattle.dd_pile.specs.Paths.{IsCopyPath}
use Rattle.dd_staged.specs.Sources.{Source}
use Rattle.dd_version.specs.declared.parts.Parts.{Parts}
use Rattle.dd_file_set.proofs.AllStanding.{stands_whole}
use Rattle.dicomdir.proofs.InPiles.{in_some_pile, pile_within}
use Rattle.dicomdir.proofs.Piling.{lists_count}
use Rattle.dicomdir.proofs.SaidLines.{takes_both}
use Rattle.dd_file_set.proofs.Unlinked.{set_each}
use Rattle.dicomdir.proofs.UnreadPiles.{zero_where_read}
use Rattle.dicomdir.specs.Indexes.{limits_of, status_past}
use Rattle.dd_file_set.specs.Made.{MakesFileSet}
use Rattle.dicomdir.specs.Noted.{IsNotedIndex}
use Rattle.dicomdir.specs.Publishes.{HasPiled, IsCopyAt, IsCopyOf, IsPiled, MakesPublish, MayLinkAt, MayLinkCopy, PrintsPublish}
use Rattle.dicomdir.specs.Publishes.{answers_in, image_bytes, last_line, pile_at, placed_bytes, said_at, said_in}
use Rattle.dicomdir.specs.Publishes.{size_at, sizes_in}
use Rattle.dicomdir.specs.Publishes.{sources_in}
use Rattle.dicomdir.specs.Said.{SaysNotes}
use Rattle.dicomdir.specs.Unread.{answer_of}
use Rattle.dicomdir.specs.declared.piles.Piled.{Piled}
use Rattle.dicomdir.specs.declared.piles.Place.{Place}

-- ---- the numbers of sources

-- this is so of a number where it is so of the number of all sources
pub of_names : (piles : List (List ℕ)) (files : Option Held) (piled : Piled) (Is : ℕ → Type 0)
    → HasPiled piles files piled → ((answers : List Answer) → HasFound answers piled.found → Is (length answers))
    → Is (length piled.names.items)
of_names piles files piled Is (lists, are, is) h =
    let sources = sources_in lists in
    subst Is (length-map sources (λ (source : Source). answer_of source.found)
    ∙ sym (length-map sources (λ (source : Source). source.name)) ∙ sym is.shown.count
    ∙ length-map piled.names.items (λ name. string_bytes name))
    (h (answers_in lists) is.found)

in_a_pile : (count : ℕ) (lists : List (List Source)) (piled : Piled) (at : ℕ) → length lists ≡ count
    → IsPiled lists piled → at < length piled.places.items → pile_at piled.places.items at < count
in_a_pile count lists piled at many is within =
    let (pile, number, in_pile) = in_some_pile lists at (omega (arith, within, is.places.count)) in
    omega (
      arith,
      many,
      pile_within lists at pile number in_pile,
      (is.places.each at pile number in_pile).in_pile,
    )

-- each place is in one of the piles
pub all_in_piles : (piles : List (List ℕ)) (count : ℕ) (files : Option Held) (piled : Piled) → length piles ≡ count
    → HasPiled piles files piled → All (λ place. place.pile < count) piled.places.items
all_in_piles piles count files piled many (lists, are, is) = λ at d within.
    subst (λ (place : Place). place.pile < count)
    (get_or_default piled.places.items at (record { pile = 0; number = 0; size = 0 }) d within)
    (in_a_pile count lists piled at (lists_count piles lists files are ∙ many) is within)

-- each number of a source has its place
pub have_places : (piles : List (List ℕ)) (files : Option Held) (piled : Piled) (picks : List ℕ)
    → HasPiled piles files piled
    → ((answers : List Answer) → HasFound answers piled.found → All (λ at. at < length answers) picks)
    → All (λ at. at < length piled.places.items) picks
have_places piles files piled picks (lists, are, is) within =
    All-weaker (λ at. at < length (answers_in lists)) (λ at. at < length piled.places.items)
    (λ at among.
    omega (
      arith,
      among,
      is.places.count,
      length-map (sources_in lists)
          (λ (source : Source). answer_of source.found),
    )) picks
    (within (answers_in lists) is.found)

-- ---- copies

-- the length of a copy is that which the lists say
pub same_size : (lists : List (List Source)) (piled : Piled) → IsPiled lists piled → (at : ℕ)
    → size_at piled.places.items at ≡ get_or (sizes_in lists) at 0
same_size lists piled is at =
    sym (get_or-map (λ (place : Place). place.size) piled.places.items at
    (record { pile = 0; number = 0; size = 0 }))
    ∙ ap (λ (sizes : List ℕ). get_or sizes at 0) is.places.sizes

-- by the places of the picks their images have as many bytes as by the lists
same_bytes : (lists : List (List Source)) (piled : Piled) (picks : List ℕ) → IsPiled lists piled
    → placed_bytes piled.places.items picks ≡ image_bytes lists picks
same_bytes lists piled picks is = ap (λ (n : ℕ). min n last_count) (sums picks) where
  sums : (picks : List ℕ) → sum_by (size_at piled.places.items) picks
      ≡ sum_by (λ at. get_or (sizes_in lists) at 0) picks
  sums [] = refl
  sums (at ∷ picks) =
      sum_by-cons (size_at piled.places.items) at picks ∙ ap₂ (λ (a b : ℕ). a + b) (same_size lists piled is at) (sums picks)
      ∙ sym (sum_by-cons (λ (at : ℕ). get_or (sizes_in lists) at 0) at picks)

pub copy_of : (piles : List (List ℕ)) (lists : List (List Source)) (piled : Piled) (at : ℕ) (path : List ℕ)
    → IsPiled lists piled → IsCopyAt piles piled.places.items at path → IsCopyOf piles lists at path
copy_of piles lists piled at path is copy =
    let (pile, number, in_pile) = in_some_pile lists at (omega (arith, copy.within, is.places.count)) in
    let place = is.places.each at pile number in_pile in
    record {
      pile = pile;
      number = number;
      place = in_pile;
      is = subst (λ (at_pile : ℕ). IsCopyPath (get_or piles at_pile []) (number + 1) path) place.in_pile
          (subst (λ (n : ℕ). IsCopyPath (get_or piles (pile_at piled.places.items at) []) n path) place.counted copy.is);
    }

module _ (choice : Choice) (bytes : ℕ) (piles : List (List ℕ)) (piled : Piled) (noted : NotedIndex) where
  -- what was found is noted so
  abbrev pub NotesFound : Type 0
  NotesFound = (answers : List Answer) → HasFound answers piled.found
      → NotesIndex choice (limits_of bytes) answers (Ok noted)

  -- what a publish is done with, that has made its file-set
  pub done_publish : (made : ℕ) (GivesLinks : Type 0) (folder : List ℕ) (old new : Option Held) → made ≤ 1
      → HasPiled piles old piled → NotesFound
      → MakesFileSet (IsCopyAt piles piled.places.items) (MayLinkAt GivesLinks piled.places.items)
      (said_at piled.said.items) folder noted.indexed.plan noted.indexed.picks.items old new
      → status_past made noted.indexed.skipped.items ≢ 1
      → MakesPublish choice bytes piles GivesLinks folder (status_past made noted.indexed.skipped.items) old new
  done_publish (suc made) GivesLinks folder old new least (lists, are, is) notes set done =
      absurd (done (omega (arith, least)))
  done_publish zero GivesLinks folder old new least (lists, are, is) notes set done =
      let picks = noted.indexed.picks.items in
      record {
        lists = lists;
        are = are;
        all = zero_where_read (sources_in lists) noted.indexed.skipped.items
            (notes (answers_in lists) is.found).0.skipped;
        indexed = noted.indexed;
        is = (notes (answers_in lists) is.found).0;
        stands = stands_whole (IsCopyOf piles lists) (MayLinkCopy GivesLinks lists) (said_in lists) folder
            noted.indexed.plan picks old new
            (set_each (IsCopyAt piles piled.places.items) (IsCopyOf piles lists)
            (MayLinkAt GivesLinks piled.places.items) (MayLinkCopy GivesLinks lists) (said_in lists) folder
            noted.indexed.plan picks old new
            (λ at. record {
              stands = λ path. copy_of piles lists piled at path is;
              links = λ bytes may. (may.0, may.1 ∙ same_size lists piled is at);
            })
            (subst (λ (said : List (Option Parts)). MakesFileSet (IsCopyAt piles piled.places.items)
            (MayLinkAt GivesLinks piled.places.items) (said_at said) folder noted.indexed.plan picks old new) is.said
            set));
      }

  -- the last line was printed after the notes, unless the output failed
  pub publish_prints : {W : Type 0} (writer : WriteOf W) (made : ℕ) (style : Style) (is_dry is_strict : Bool)
      (files : Option Held) (old mid new : W) → HasPiled piles files piled → NotesFound
      → (notes : List ℕ) × SaysNotes style (words_of piled.names.items) noted notes × TakesText writer old mid notes
      → (is_strict ≡ true → ¬ IsNotedIndex noted)
      → (made ≡ 0 → TakesText writer mid new (last_line style is_dry noted.indexed.plan
      (placed_bytes piled.places.items noted.indexed.picks.items))) → made ≤ 1
      → status_past made noted.indexed.skipped.items ≢ 1
      → PrintsPublish writer style is_dry is_strict choice bytes piles (status_past made noted.indexed.skipped.items)
      files old new
  publish_prints writer (suc made) style is_dry is_strict files old mid new (lists, are, is) indexes
      (notes, said, took) strict next least done = absurd (done (omega (arith, least)))
  publish_prints writer zero style is_dry is_strict files old mid new (lists, are, is) indexes
      (notes, said, took) strict next least done = record {
        lists = lists;
        are = are;
        noted = noted;
        indexes = indexes (answers_in lists) is.found;
        past = refl;
        names = words_of piled.names.items;
        shown = is.shown;
        notes = notes;
        said = said;
        strict = strict;
        printed = takes_both writer old mid new notes
            (last_line style is_dry noted.indexed.plan (image_bytes lists noted.indexed.picks.items)) took
            (subst (λ (images : ℕ). TakesText writer mid new (last_line style is_dry noted.indexed.plan images))
            (same_bytes lists piled noted.indexed.picks.items is) (next refl));
      }
