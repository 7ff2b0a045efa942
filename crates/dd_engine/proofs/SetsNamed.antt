-- Each number of a set that the notes on sets name is below the count of sets.
use Rattle.std.specs.Prelude.{◌≡◌, ◌<◌, ◌≤◌, ◌+◌, Bool, ℕ, suc, nat_lt, List, [], ◌∷◌, All, length, map, filter}
use Rattle.std.specs.Prelude.{Option, None, Some, IfOk, option_map, Result, Ok, Err}
use Rattle.std.specs.List.{AllByRecursion, cons_option, enumerate_from}
use Rattle.std.proofs.Common.{refl, sym, ap, subst, arith}
use Rattle.std.proofs.lemmas.List.{length-map}
use Rattle.std.proofs.lemmas.List.Elements.{All-from_recursion}
use Rattle.std.proofs.lemmas.Option.{none-some, same_Some}
use Rattle.dd_catalogue.specs.Rising.{by_test}
use Rattle.dd_version.specs.declared.parts.Parts.{Parts}
use Rattle.dd_layout.specs.Limits.{Limits}
use Rattle.dd_engine.specs.declared.choice.Choice.{Choice}
use Rattle.dd_engine.specs.declared.merge.Pick.{Pick}
use Rattle.dd_engine.specs.declared.merge_fault.MergeFault.{MergeFault}
use Rattle.dd_engine.specs.declared.noted_merge.NotedMerge.{NotedMerge}
use Rattle.dd_engine.specs.declared.notes.NotedFault.{NotedFault}
use Rattle.dd_engine.specs.declared.set_notes.SetNotes.{SetNotes}
use Rattle.dd_engine.specs.declared.set_notes.Unreached.{Unreached}
use Rattle.dd_engine.specs.declared.set_notes.WithdrawnImage.{WithdrawnImage}
use Rattle.dd_engine.specs.MergeNotes.{NotesSets}
use Rattle.dd_engine.specs.Merging.{AreOwn, SetListing, filed_in, numbered, pick_view}
use Rattle.dd_engine.specs.SetNotes.{AreSetNotes, NameSetsBelow, WithdrawnAs, is_among, withdrawing, withdrawing_from}
use Rattle.dd_engine.specs.SetNotes.{withdrawn_among, withdrawn_as}
use Rattle.dd_engine.proofs.PicksWithin.{all_numbered_below, many_own, unmapped}
use Rattle.dd_engine.proofs.RecordsNoted.{filed_below}

-- ---- sets with records that are not reached

counted_below : (n at : ℕ) (counts : List ℕ) → at + length counts ≤ n
    → AllByRecursion (λ set. set.0 < n) (enumerate_from at counts)
counted_below n at [] within = tt
counted_below n at (count ∷ counts) within = (omega arith, counted_below n (at + 1) counts (omega arith))

chosen_below : (n : ℕ) (test : ℕ × ℕ → Bool) (sets : List (ℕ × ℕ)) → AllByRecursion (λ set. set.0 < n) sets
    → AllByRecursion (λ set. set.0 < n) (filter test sets)
chosen_below n test [] all = tt
chosen_below n test (set ∷ sets) all = by_test (test set)
    (λ e. rw e (all.0, chosen_below n test sets all.1))
    (λ e. rw e (chosen_below n test sets all.1))

-- ---- sets that withdraw

first_below : (n at : ℕ) (listings : List SetListing) (uid : List ℕ) (set : ℕ) → at + length listings ≤ n
    → withdrawing_from at listings uid ≡ Some set → set < n
first_below n at [] uid set within is = absurd (none-some set is)
first_below n at (listing ∷ listings) uid set within is = by_test (is_among listing.withdrawn uid)
    (λ e. let one : at ≡ set = same_Some at set (rw e at is) in omega arith)
    (λ e. first_below n (suc at) listings uid set (omega arith) (rw e at is))

by_below : (n : ℕ) (given : List (List ℕ)) (listings : List SetListing) (uid : List ℕ) (set : ℕ)
    → length listings ≤ n → withdrawing given listings uid ≡ Some set → set < n
by_below n given listings uid set within is = by_test (is_among given uid)
    (λ e. absurd (none-some set (rw e at is)))
    (λ e. first_below n 0 listings uid set (omega arith) (rw e at is))

-- both numbers of what is noted of an image
abbrev Below : ℕ → WithdrawnAs (ℕ × List ℕ) → Type 0
Below n image = (image.0.0 < n) × (image.1 < n)

with_option : (n : ℕ) (o : Option (WithdrawnAs (ℕ × List ℕ))) (rest : List (WithdrawnAs (ℕ × List ℕ)))
    → ((image : WithdrawnAs (ℕ × List ℕ)) → o ≡ Some image → Below n image) → AllByRecursion (Below n) rest
    → AllByRecursion (Below n) (cons_option o rest)
with_option n None rest first all = all
with_option n (Some image) rest first all = (first image refl, all)

of_map : (n : ℕ) (file : ℕ × List ℕ) (uid : List ℕ) (o : Option ℕ) (image : WithdrawnAs (ℕ × List ℕ)) → file.0 < n
    → ((set : ℕ) → o ≡ Some set → set < n) → option_map (λ set. (file, set, uid)) o ≡ Some image → Below n image
of_map n file uid None image below by is = absurd (none-some image is)
of_map n file uid (Some set) image below by is =
    subst (Below n) (same_Some (file, set, uid) image is) (below, by set refl)

images_below : (n : ℕ) (by : List ℕ → Option ℕ) (files : List ((ℕ × List ℕ) × Parts))
    → ((uid : List ℕ) (set : ℕ) → by uid ≡ Some set → set < n) → AllByRecursion (λ file. file.0.0 < n) files
    → AllByRecursion (Below n) (withdrawn_among by files)
images_below n by [] all below = tt
images_below n by (file ∷ files) all below =
    with_option n (withdrawn_as by file) (withdrawn_among by files)
    (λ one is. of_map n file.0 file.1.instance (by file.1.instance) one below.0 (all file.1.instance) is)
    (images_below n by files all below.1)

-- ---- all of them

pub named_below : (given sets : List (List ℕ)) (listings : List SetListing) (notes : SetNotes) → AreOwn sets listings
    → AreSetNotes given listings notes → NameSetsBelow (length sets) notes
named_below given sets listings notes own are =
    let n = length sets in
    let many = many_own sets listings own in
    record {
      unreached = unmapped (λ (set : ℕ × ℕ). set.0 < n) (λ (note : Unreached). (note.set, note.records))
          notes.unreached.items (All-from_recursion _ _ (subst (λ l. AllByRecursion (λ (set : ℕ × ℕ). set.0 < n) l)
          (sym are.unreached) (chosen_below n (λ set. nat_lt 0 set.1) _
          (counted_below n 0 (map (λ listing. listing.unreached) listings)
          (omega (arith, many, length-map listings (λ listing. listing.unreached)))))));
      withdrawn = unmapped (Below n) (λ (note : WithdrawnImage Pick). (pick_view note.file, note.by, note.instance))
          notes.withdrawn.items (All-from_recursion _ _ (subst (λ l. AllByRecursion (Below n) l)
          (sym are.withdrawn) (images_below n (withdrawing given listings) (filed_in listings)
          (λ uid set is. by_below n given listings uid set (omega (arith, many)) is)
          (filed_below n (numbered 0 listings) (all_numbered_below sets listings own)))));
    }

pub sets_below : (choice : Choice) (limits : Limits) (given sets : List (List ℕ))
    (result : Result NotedMerge (NotedFault MergeFault Pick)) → NotesSets choice limits given sets result
    → IfOk result (λ noted. NameSetsBelow (length sets) noted.sets)
sets_below choice limits given sets (Ok noted) is = named_below given sets is.0 noted.sets is.1 is.2.3
sets_below choice limits given sets (Err noted) is = tt
