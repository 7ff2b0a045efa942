-- What is noted of a merge, and why nothing is.
use Rattle.std.proofs.Common.{◌≡◌, ℕ, List, [], Result, Ok, Err, inl, inr, refl, subst}
use Rattle.std.specs.Prelude.{IfErr, IfOk, Option}
use Rattle.dd_layout.specs.Limits.{Limits}
use Rattle.dd_engine.specs.declared.choice.Choice.{Choice}
use Rattle.dd_engine.specs.declared.merge.Pick.{Pick}
use Rattle.dd_engine.specs.declared.merge_fault.MergeFault.{MergeFault}
use Rattle.dd_engine.specs.declared.merge_fault.MergeFault.TheVariants.{Dir, Own, Plan, Memory}
use Rattle.dd_engine.specs.declared.noted_merge.NotedMerge.{NotedMerge}
use Rattle.dd_engine.specs.declared.notes.ConflictingFiles.{ConflictingFiles}
use Rattle.dd_engine.specs.declared.notes.NotedFault.{NotedFault}
use Rattle.dd_engine.specs.MergeNotes.{NotesSets, NotesSetsFault}
use Rattle.dd_engine.specs.Merging.{Merges}
use Rattle.dd_calls.specs.declared.answer.Answer.{Answer}
use Rattle.dd_calls.specs.Sizes.{by_number}
use Rattle.dd_making.specs.declared.note_rows.NoteTable.{NoteTable}
use Rattle.dd_making.specs.declared.noting.Sum.{Sum}
use Rattle.dd_making.specs.Merges.{IsNotMade, no_limits}
use Rattle.dd_making.specs.Noted.{AreNoted, sum_of}
use Rattle.dd_making.specs.Notes.{AreNotesOf}
use Rattle.dd_making.specs.Refusals.{merge_refusal}

module _ (choice : Choice) (sets : List (List ℕ)) where
  -- a refusal without its note
  dropped : (fault : MergeFault) (conflict : Option (ConflictingFiles Pick))
      → NotesSetsFault choice no_limits [] sets fault conflict → Merges choice no_limits [] sets (Err fault)
  dropped (Dir at fault) conflict is = is.0
  dropped (Own at fault) conflict is = is.0
  dropped (Plan fault) conflict is = (is.0, is.1, is.2)
  dropped Memory conflict is = is.0

  pub refused : (limits : Limits) (noted : NotedFault MergeFault Pick) (answer : Answer) → limits ≡ no_limits
      → NotesSets choice limits [] sets (Err noted) → answer ≡ merge_refusal noted.fault
      → IsNotMade choice [] sets answer
  refused limits noted answer all notes answers = record {
    fault = noted.fault;
    why = inl (dropped noted.fault noted.conflict
        (subst (λ (l : Limits). NotesSets choice l [] sets (Err noted)) all notes));
    answers = answers;
  }

  module _ (limits : Limits) (noted : NotedMerge) (all : limits ≡ no_limits)
      (notes : NotesSets choice limits [] sets (Ok noted)) where
    unlimited : NotesSets choice no_limits [] sets (Ok noted)
    unlimited = subst (λ (l : Limits). NotesSets choice l [] sets (Ok noted)) all notes

    pub are_noted : {N : Type 0} (table : N → NoteTable) (sum : N → Sum) (r : Result N Answer)
        → IfOk r (λ n. AreNotesOf noted.notes (table n)) → IfOk r (λ n. sum n ≡ sum_of noted)
        → IfOk r (λ n. AreNoted choice sets (table n) (sum n))
    are_noted table sum (Ok n) is counts = record { noted = noted; notes = unlimited; table_is = is; sum_is = counts }
    are_noted table sum (Err answer) is counts = is

    pub not_noted : {N : Type 0} (r : Result N Answer) → IfErr r (λ answer. answer ≡ by_number 91)
        → IfErr r (IsNotMade choice [] sets)
    not_noted (Ok n) is = is
    not_noted (Err answer) is = record {
      fault = Memory;
      why = inr (refl, (noted.merged, (unlimited.0, unlimited.1, unlimited.2.0)));
      answers = is;
    }
