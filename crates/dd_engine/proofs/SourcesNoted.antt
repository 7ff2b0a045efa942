-- What an index of sources answers with notes, and that each number in the answer is below the count of sources.
use Rattle.std.specs.Prelude.{◌≡◌, ◌<◌, ◌≤◌, ◌+◌, Bool, ℕ, suc, List, [], ◌∷◌, All, length, map, filter, Option}
use Rattle.std.specs.Prelude.{None, Some, IfErr, IfOk, IfSome, Result, Ok, Err}
use Rattle.std.specs.List.{AllByRecursion}
use Rattle.std.specs.Ordering.{is_eq}
use Rattle.std.proofs.Common.{sym, ap, subst, arith}
use Rattle.std.proofs.lemmas.List.Elements.{All-from_recursion}
use Rattle.std.proofs.lemmas.Option.{none-some, same_Some}
use Rattle.dd_catalogue.specs.Harmony.{harmonised}
use Rattle.dd_catalogue.specs.Rising.{by_test}
use Rattle.dd_catalogue.specs.Versions.{best_of, kept}
use Rattle.dd_version.specs.Orders.{parts_cmp}
use Rattle.dd_version.specs.declared.parts.Parts.{Parts}
use Rattle.dd_layout.specs.Limits.{Limits}
use Rattle.dd_layout.specs.Plans.{records_of}
use Rattle.dd_layout.specs.declared.fault.PlanFault.{PlanFault}
use Rattle.dd_layout.specs.declared.fault.PlanFault.TheVariants as plans
use Rattle.dd_engine.specs.declared.choice.Choice.{Choice}
use Rattle.dd_sources.specs.declared.engine_fault.EngineFault.{EngineFault}
use Rattle.dd_sources.specs.declared.engine_fault.EngineFault.TheVariants.{Memory, Absent, Unread, Plan}
use Rattle.dd_engine.specs.declared.noted_index.NotedIndex.{NotedIndex}
use Rattle.dd_engine.specs.declared.notes.ConflictingFiles.{ConflictingFiles}
use Rattle.dd_engine.specs.declared.notes.LeftOut.{LeftOut}
use Rattle.dd_engine.specs.declared.notes.NotedFault.{NotedFault}
use Rattle.dd_engine.specs.Choosing.{label_for}
use Rattle.dd_engine.specs.Indexed.{Indexes, IsWithin}
use Rattle.dd_engine.specs.IndexNotes.{ConflictsIn, FindsBoth, NotesIndex}
use Rattle.dd_keys.specs.Sources.{Answer}
use Rattle.dd_sources.specs.Indexing.{accepted, accepted_from, best_of_sources, versions_of}
use Rattle.dd_engine.specs.Noting.{AreBelow, AreLeftOut, IsBelow, IsConflictOf, LeftAs, both, first_by, first_of}
use Rattle.dd_engine.specs.Noting.{is_other, left_as}
use Rattle.dd_engine.specs.Picking.{FileKey, files_of, found_by}
use Rattle.dd_engine.proofs.BothFound.{best_among, best_rises, both_found}
use Rattle.dd_engine.proofs.ImagePicks.{holds_by, holds_of_picks}
use Rattle.dd_engine.proofs.SourcesNumbered.{accepted_below, skipped_below}

-- ---- what holds for every place holds for each place that the notes name

module _ {T U : Type 0} (place : T → U) (P : U → Type 0) where
  each_chosen : (test : U × Parts → Bool) (versions : List (U × Parts)) → AllByRecursion (λ v. P v.0) versions
      → AllByRecursion (λ v. P v.0) (filter test versions)
  each_chosen test [] all = tt
  each_chosen test (version ∷ versions) all = by_test (test version)
      (λ e. rw e (all.0, each_chosen test versions all.1))
      (λ e. rw e (each_chosen test versions all.1))

  of_files : (versions : List (U × Parts)) → AllByRecursion (λ v. P v.0) versions
      → AllByRecursion (λ file. P file.0) (files_of versions)
  of_files [] all = tt
  of_files (version ∷ versions) all = (all.0, of_files versions all.1)

  each_noted : (files : List (U × FileKey)) (m : List Parts) (notes : List (LeftOut T)) (chosen : List (U × Parts))
      → AllByRecursion (λ file. P file.0) files → AllByRecursion (λ v. P v.0) chosen
      → map (λ note. (place note.file, Some (place note.kept), note.instance)) notes ≡ map (left_as files m) chosen
      → AllByRecursion (λ note. P (place note.file) × P (place note.kept)) notes
  each_noted files m [] chosen held all is = tt
  each_noted files m (note ∷ notes) [] held all is = absurd (cc is)
  each_noted files m (note ∷ notes) (version ∷ chosen) held all is =
      let head : (place note.file, Some (place note.kept), note.instance) ≡ left_as files m version = cc is in
      let file : place note.file ≡ version.0 = ap (λ (n : LeftAs U). n.0) head in
      let first : Some (place note.kept) ≡ found_by files (kept m version.1.instance) =
      ap (λ (n : LeftAs U). n.1) head in
      let rest : map (λ note. (place note.file, Some (place note.kept), note.instance)) notes
      ≡ map (left_as files m) chosen = cc is in (
        (
          subst P (sym file) all.0,
          holds_by P files (kept m version.1.instance) (place note.kept) held (sym first),
        ),
        each_noted files m notes chosen held all.1 rest,
      )

  pub holds_of_notes : (m : List Parts) (versions : List (U × Parts)) (notes : List (LeftOut T))
      → AllByRecursion (λ v. P v.0) versions → AreLeftOut place m versions notes
      → All (λ note. P (place note.file) × P (place note.kept)) notes
  holds_of_notes m versions notes all is =
      All-from_recursion (λ note. P (place note.file) × P (place note.kept)) notes
      (each_noted (files_of versions) m notes _ (of_files versions all)
      (each_chosen (λ version. is_other (kept m version.1.instance) version.1) versions all) is)

  of_first : (versions : List (U × Parts)) (version : Parts) (at : U) → AllByRecursion (λ v. P v.0) versions
      → first_of versions version ≡ Some at → P at
  of_first [] version at all is = absurd (none-some at is)
  of_first (held ∷ versions) version at all is = by_test (is_eq (parts_cmp held.1 version))
      (λ e. let here = rw e at is in subst P (same_Some held.0 at here) all.0)
      (λ e. let there = rw e at is in of_first versions version at all.1 there)

  by_first : (versions : List (U × Parts)) (o : Option Parts) (at : U) → AllByRecursion (λ v. P v.0) versions
      → first_by versions o ≡ Some at → P at
  by_first versions None at all is = absurd (none-some at is)
  by_first versions (Some version) at all is = of_first versions version at all is

  of_both : (a b : Option U) (one other : U) → both a b ≡ Some (one, other) → ((at : U) → a ≡ Some at → P at)
      → ((at : U) → b ≡ Some at → P at) → P one × P other
  of_both None b one other is first second = absurd (cc is)
  of_both (Some a) None one other is first second = absurd (cc is)
  of_both (Some a) (Some b) one other is first second =
      let pair = same_Some (a, b) (one, other) is in
      (first one (ap (λ (p : U × U). Some p.0) pair), second other (ap (λ (p : U × U). Some p.1) pair))

  pub holds_of_conflict : (m : List Parts) (versions : List (U × Parts)) (fault : PlanFault)
      (conflict : Option (ConflictingFiles T))
      → AllByRecursion (λ v. P v.0) versions → IsConflictOf place m versions fault conflict
      → IfSome conflict (λ conflict. P (place conflict.one) × P (place conflict.other))
  holds_of_conflict m versions fault None all is = tt
  holds_of_conflict m versions (plans.Conflict a b) (Some conflict) all is =
      of_both (first_by versions (kept m a)) (first_by versions (kept m b)) (place conflict.one) (place conflict.other)
      (sym is) (λ at e. by_first versions (kept m a) at all e) (λ at e. by_first versions (kept m b) at all e)
  holds_of_conflict m versions (plans.TooMany level) (Some conflict) all is = absurd (cc is)
  holds_of_conflict m versions plans.TooLarge (Some conflict) all is = absurd (cc is)
  holds_of_conflict m versions plans.Memory (Some conflict) all is = absurd (cc is)

-- ---- numbers of sources

accepted_within : (answers : List Answer) → AllByRecursion (λ source. source.0 < length answers) (accepted answers)
accepted_within answers = by (length answers) 0 answers (omega arith) where
  by : (n at : ℕ) (answers : List Answer) → at + length answers ≤ n
      → AllByRecursion (λ source. source.0 < n) (accepted_from at answers)
  by n at [] h = tt
  by n at (Ok version ∷ answers) h = (omega arith, by n (suc at) answers (omega arith))
  by n at (Err fault ∷ answers) h = by n (suc at) answers (omega arith)

none_below : (n : ℕ) (conflict : Option (ConflictingFiles ℕ)) → conflict ≡ None → IsBelow (λ at. at) n conflict
none_below n conflict is = subst (λ o. IsBelow (λ at. at) n o) (sym is) tt

module _ (choice : Choice) (limits : Limits) (answers : List Answer) where
  pub indexed_within : (result : Result NotedIndex (NotedFault EngineFault ℕ)) → NotesIndex choice limits answers result
      → IfOk result (λ noted. IsWithin (length answers) noted.indexed)
  indexed_within (Ok noted) is = record {
    skipped = subst (λ skips. All (λ skip. skip.0 < length answers) skips) (sym is.0.skipped)
        (skipped_below (length answers) 0 answers (omega arith));
    picks =
        let m = best_of_sources (accepted answers) in
        holds_of_picks (λ (at : ℕ). at < length answers) (files_of (accepted answers)) (harmonised m)
        (records_of (label_for choice m []) (harmonised m)) _ (accepted_below (length answers) 0 answers (omega arith))
        is.0.picks;
  }
  indexed_within (Err noted) is = tt

  pub notes_below : (result : Result NotedIndex (NotedFault EngineFault ℕ)) → NotesIndex choice limits answers result
      → IfOk result (λ noted. AreBelow (λ at. at) (length answers) noted.notes.left_out.items)
  notes_below (Ok noted) is =
      holds_of_notes (λ at. at) (λ (at : ℕ). at < length answers) (best_of_sources (accepted answers))
      (accepted answers) noted.notes.left_out.items (accepted_within answers) is.1
  notes_below (Err noted) is = tt

  pub conflict_below : (result : Result NotedIndex (NotedFault EngineFault ℕ)) → NotesIndex choice limits answers result
      → IfErr result (λ noted. IsBelow (λ at. at) (length answers) noted.conflict)
  conflict_below (Ok noted) is = tt
  conflict_below (Err noted) is = by noted.fault noted.conflict is.1 where
    by : (fault : EngineFault) (conflict : Option (ConflictingFiles ℕ)) → ConflictsIn answers fault conflict
        → IsBelow (λ at. at) (length answers) conflict
    by (Plan fault) conflict is =
        holds_of_conflict (λ at. at) (λ (at : ℕ). at < length answers) (best_of_sources (accepted answers))
        (accepted answers) fault conflict (accepted_within answers) is
    by Memory conflict is = none_below (length answers) conflict is
    by (Absent at) conflict is = none_below (length answers) conflict is
    by (Unread at) conflict is = none_below (length answers) conflict is

  -- where two versions conflict, a source of each is found
  pub sources_found : (result : Result NotedIndex (NotedFault EngineFault ℕ)) → NotesIndex choice limits answers result
      → IfErr result (λ noted. FindsBoth noted.fault noted.conflict)
  sources_found (Ok noted) is = tt
  sources_found (Err noted) is = by noted.fault noted.conflict is.0 is.1 where
    by : (fault : EngineFault) (conflict : Option (ConflictingFiles ℕ)) → Indexes choice limits answers (Err fault)
        → ConflictsIn answers fault conflict → FindsBoth fault conflict
    by (Plan (plans.Conflict a b)) conflict refused is =
        let s = versions_of (accepted answers) in
        both_found (λ at. at) (accepted answers) choice limits (best_of s) [] a b conflict (best_rises s)
        (best_among s) refused is
    by (Plan (plans.TooMany level)) conflict refused is = tt
    by (Plan plans.TooLarge) conflict refused is = tt
    by (Plan plans.Memory) conflict refused is = tt
    by Memory conflict refused is = tt
    by (Absent at) conflict refused is = tt
    by (Unread at) conflict refused is = tt
