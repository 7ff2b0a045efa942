-- What is read of the lists of piles, source by source.
use Rattle.std.proofs.Common.{◌≡◌, ◌∙◌, ◌+◌, ◌<◌, ◌++◌, ℕ, suc, List, [], ◌∷◌, Global, Option, String, ap, ap₂}
use Rattle.std.proofs.Common.{arith, get_or, inl, inr, length, map, refl, string_bytes, subst, sym, take}
use Rattle.std.proofs.lemmas.List.{get_or_append_left, get_or_push, length-append, length-map, length_push, map_push}
use Rattle.std.proofs.lemmas.List.{length-take-le, take_more}
use Rattle.dd_engine.specs.Found.{HasFound}
use Rattle.dd_keys.specs.Sources.{Answer}
use Rattle.dd_files.specs.Files.{Held}
use Rattle.dd_line.specs.Line.{words_of}
use Rattle.dd_pile.specs.Lists.{IfList}
use Rattle.dd_staged.specs.Sources.{Source}
use Rattle.dd_staged.specs.Stages.{IsStage}
use Rattle.dd_version.specs.declared.parts.Parts.{Parts}
use Rattle.dd_inputs.proofs.HavingPaths.{last_or_before}
use Rattle.dicomdir.proofs.InPiles.{in_more, in_start, in_within, same_sources, sources_more, sources_then}
use Rattle.dicomdir.proofs.UnreadPiles.{listed_more, names_more as bad_names_more, names_start}
use Rattle.dicomdir.specs.Publishes.{AreLists, ArePlaces, AreShown, HasPiled, IsPiled, IsPlaceOf, IsShown}
use Rattle.dicomdir.specs.Publishes.{answers_in, names_in, sources_in, versions_in}
use Rattle.dicomdir.specs.Unread.{absent_by, answer_of, bad_name_by, bad_names_from, listed_from, said_of}
use Rattle.dicomdir.specs.declared.piles.Piled.{Piled}
use Rattle.dicomdir.specs.declared.piles.Place.{Place}
use Rattle.dicomdir.specs.declared.unread.StagedName.{StagedName}

-- ---- no source yet

none_shown : AreShown [] []
none_shown = record { count = refl; each = λ at within. absurd (omega (arith, within)) }

none_placed : ArePlaces [] []
none_placed = record {
  count = refl;
  each = λ at pile number is. absurd (omega (arith, is.within));
  sizes = refl;
}

pub none_piled : (files : Option Held) (piled : Piled) → piled.names.items ≡ [] → piled.places.items ≡ []
    → piled.said.items ≡ [] → piled.unread.absent.items ≡ [] → piled.unread.bad_names.items ≡ []
    → HasFound [] piled.found → HasPiled [] files piled
none_piled files piled names places said absent bad_names found = (
  [],
  tt,
  record {
    shown = rw names none_shown;
    places = rw places none_placed;
    said = said;
    absent = absent;
    bad_names = bad_names;
    found = found;
  },
)

-- the same of one list more, without its sources
pub piled_start : (lists : List (List Source)) (piled : Piled) → IsPiled lists piled
    → IsPiled (lists ++ [] ∷ []) piled
piled_start lists piled is = record {
  shown = rw (same_sources lists) is.shown;
  places = record {
    count = is.places.count ∙ sym (ap length (same_sources lists));
    each = λ at pile number in_pile. is.places.each at pile number (in_start lists at pile number in_pile);
    sizes = is.places.sizes ∙ sym (ap (map (λ (source : Source). source.size)) (same_sources lists));
  };
  said = is.said ∙ sym (ap (map (λ (source : Source). said_of source.found)) (same_sources lists));
  absent = is.absent ∙ sym (ap (listed_from absent_by 0) (same_sources lists));
  bad_names = is.bad_names ∙ sym (names_start 0 lists);
  found = rw (same_sources lists) is.found;
}

-- as many names as sources
pub names_count : (lists : List (List Source)) (piled : Piled) → IsPiled lists piled
    → length piled.names.items ≡ length (sources_in lists)
names_count lists piled is = sym (length-map piled.names.items (λ name. string_bytes name)) ∙ is.shown.count
    ∙ length-map (sources_in lists) (λ (source : Source). source.name)

from_none : (n : ℕ) → n ≡ 0 + n
from_none n = omega arith

-- ---- one source more

shown_more : (names shown : List (List ℕ)) (name text : List ℕ) → AreShown names shown
    → IsShown name text → AreShown (names ++ name ∷ []) (shown ++ text ∷ [])
shown_more names shown name text are same = record {
  count = omega (arith, are.count, length_push shown text, length_push names name);
  each = λ at within.
      elim (last_or_before at (length names) (omega (arith, within, length_push names name))) [
        | inl before ↦ rw (
          get_or_append_left shown (text ∷ []) [] at (omega (arith, before, are.count)),
          get_or_append_left names (name ∷ []) [] at before,
        ) (are.each at before)
        | inr last ↦ rw (
          get_or_push shown text [] at (are.count ∙ sym last),
          get_or_push names name [] at (sym last),
        ) same
      ];
}

module _ (lists : List (List Source)) (part : List Source) (source : Source) where
  abbrev before : List (List Source)
  before = lists ++ part ∷ []

  abbrev after : List (List Source)
  after = lists ++ (part ++ source ∷ []) ∷ []

  names_more : names_in after ≡ names_in before ++ source.name ∷ []
  names_more = ap (map (λ (source : Source). source.name)) (sources_more lists part source)
      ∙ map_push (λ (source : Source). source.name) (sources_in before) source

  answers_more : answers_in after ≡ answers_in before ++ answer_of source.found ∷ []
  answers_more = ap (map (λ (source : Source). answer_of source.found)) (sources_more lists part source)
      ∙ map_push (λ (source : Source). answer_of source.found) (sources_in before) source

  versions_more : versions_in after ≡ versions_in before ++ said_of source.found ∷ []
  versions_more = ap (map (λ (source : Source). said_of source.found)) (sources_more lists part source)
      ∙ map_push (λ (source : Source). said_of source.found) (sources_in before) source

  abbrev no_place : Place
  no_place = record { pile = 0; number = 0; size = 0 }

  places_more : (places : List Place) (place : Place) → ArePlaces before places
      → IsPlaceOf (length lists) (length part) place → place.size ≡ source.size
      → ArePlaces after (places ++ place ∷ [])
  places_more places place are is size = record {
    sizes = map_push (λ (place : Place). place.size) places place
        ∙ ap₂ (λ (sizes : List ℕ) (size : ℕ). sizes ++ size ∷ []) are.sizes size
        ∙ sym (ap (map (λ (source : Source). source.size)) (sources_more lists part source)
        ∙ map_push (λ (source : Source). source.size) (sources_in before) source);
    count = omega (
      arith,
      are.count,
      length_push places place,
      ap length (sources_more lists part source),
      length_push (sources_in before) source,
    );
    each = λ at pile number in_pile. elim (in_more lists part source at pile number in_pile) [
      | inl old ↦
          let within = in_within before at pile number old in
          subst (IsPlaceOf pile number)
          (sym (get_or_append_left places (place ∷ []) no_place at (omega (arith, within, are.count))))
          (are.each at pile number old)
      | inr next ↦ subst (IsPlaceOf pile number)
          (sym (get_or_push places place no_place at (are.count ∙ sym next.past)))
          (record {
            in_pile = is.in_pile ∙ sym next.last;
            counted = is.counted ∙ ap (λ (n : ℕ). n + 1) (sym next.next);
          })
    ];
  }

  before_count : length (sources_in before) ≡ length (sources_in lists) + length part
  before_count = ap length (sources_then lists part) ∙ length-append (sources_in lists) part

  -- a source was added: its name as lines show it, its place, and what was found of it
  pub piled_more : (old new : Piled) (text : String Global) (place : Place) → IsPiled before old
      → new.names.items ≡ old.names.items ++ text ∷ [] → IsShown source.name (string_bytes text)
      → new.places.items ≡ old.places.items ++ place ∷ [] → IsPlaceOf (length lists) (length part) place
      → place.size ≡ source.size → new.said.items ≡ old.said.items ++ said_of source.found ∷ []
      → new.unread.absent.items ≡ old.unread.absent.items ++ absent_by (length old.names.items) source.found
      → new.unread.bad_names.items
      ≡ old.unread.bad_names.items ++ bad_name_by (length (sources_in lists)) (length old.names.items) source.found
      → ((answers : List Answer) → HasFound answers old.found
      → HasFound (answers ++ answer_of source.found ∷ []) new.found)
      → IsPiled after new
  piled_more old new text place is names same places at size said absent bad_names found = record {
    shown = rw (names, map_push (λ (text : String Global). string_bytes text) old.names.items text, names_more)
        (shown_more (names_in before) (words_of old.names.items) source.name (string_bytes text) is.shown same);
    places = rw places (places_more old.places.items place is.places at size);
    said = said ∙ ap (λ (all : List (Option Parts)). all ++ said_of source.found ∷ []) is.said ∙ sym versions_more;
    absent = absent ∙ ap (λ (all : List ℕ). all ++ absent_by (length old.names.items) source.found) is.absent
        ∙ ap (λ (n : ℕ). listed_from absent_by 0 (sources_in before) ++ absent_by n source.found)
        (names_count before old is ∙ from_none (length (sources_in before)))
        ∙ sym (ap (listed_from absent_by 0) (sources_more lists part source)
        ∙ listed_more absent_by 0 (sources_in before) source);
    bad_names =
        let first = length (sources_in lists) in
        bad_names ∙ ap (λ (all : List StagedName).
        all ++ bad_name_by first (length old.names.items) source.found) is.bad_names
        ∙ ap₂ (λ (first at : ℕ). bad_names_from 0 before ++ bad_name_by first at source.found) (from_none first)
        (names_count before old is ∙ before_count ∙ ap (λ (n : ℕ). n + length part) (from_none first))
        ∙ sym (bad_names_more 0 lists part source);
    found = rw answers_more (found (answers_in before) is.found);
  }

-- ---- one pile more

list_after : (piles : List (List ℕ)) (lists : List (List Source)) (pile : List ℕ) (list : List Source)
    (files : Option Held) → AreLists piles lists files → IfList pile (λ bytes. IsStage bytes list) files
    → AreLists (piles ++ pile ∷ []) (lists ++ list ∷ []) files
list_after [] [] pile list files all one = (one, tt)
list_after [] (first ∷ lists) pile list files all one = absurd all
list_after (first ∷ piles) [] pile list files all one = absurd all
list_after (first ∷ piles) (other ∷ lists) pile list files all one =
    (all.0, list_after piles lists pile list files all.1 one)

pub lists_count : (piles : List (List ℕ)) (lists : List (List Source)) (files : Option Held)
    → AreLists piles lists files → length lists ≡ length piles
lists_count [] [] files all = refl
lists_count [] (list ∷ lists) files all = absurd all
lists_count (pile ∷ piles) [] files all = absurd all
lists_count (pile ∷ piles) (list ∷ lists) files all = ap suc (lists_count piles lists files all.1)

-- the list of one more pile was read
pub piled_then : (piles : List (List ℕ)) (at : ℕ) (list : List Source) (files : Option Held) (old new : Piled)
    → at < length piles → HasPiled (take at piles) files old
    → IfList (get_or piles at []) (λ bytes. IsStage bytes list) files
    → ((lists : List (List Source)) → length lists ≡ at → IsPiled lists old → IsPiled (lists ++ list ∷ []) new)
    → HasPiled (take (at + 1) piles) files new
piled_then piles at list files old new within (lists, are, is) one added =
    let count = lists_count (take at piles) lists files are ∙ taken in (
      lists ++ list ∷ [],
      subst (λ (l : List (List ℕ)). AreLists l (lists ++ list ∷ []) files) (sym (take_more piles at [] within))
          (list_after (take at piles) lists (get_or piles at []) list files are one),
      added lists count is,
    )
  where
    taken : length (take at piles) ≡ at
    taken = length-take-le at piles (omega (arith, within))
