-- A run that is refused has a reason, and its line was printed.
use Rattle.std.proofs.Common.{◌≡◌, ℕ, List, Option, inl, inr, refl, subst, sym}
use Rattle.std.specs.Prelude.{◌⊎◌}
use Rattle.clap.specs.Words.{Text}
use Rattle.dd_elem.specs.declared.device.Read.{Ghosts as ReadOf}
use Rattle.dd_elem.specs.declared.device.Write.{Ghosts as WriteOf}
use Rattle.dd_faults.specs.Refusal.{IsBadLine}
use Rattle.dd_faults.specs.declared.refusal.ProgramFault.{ProgramFault}
use Rattle.dd_faults.specs.declared.refusal.ProgramFault.TheVariants.{Memory}
use Rattle.dd_faults.specs.declared.refusal.Refusal.{Refusal}
use Rattle.dd_faults.specs.declared.refusal.Subject.TheVariants.{General}
use Rattle.dd_files.specs.Files.{Held}
use Rattle.dd_line.specs.Line.{words_of}
use Rattle.dd_line.specs.Requests.{folder_of, id_of, instances_of, read_of, uid_of}
use Rattle.dd_line.specs.declared.request.Request.{Request}
use Rattle.dd_inputs.specs.EmptyPaths.{IsOfEmptyPath, RequestsEmptyPath}
use Rattle.dd_refusals.specs.Faults.{TellsRefusal}
use Rattle.dd_inputs.specs.From.{given_list}
use Rattle.dicomdir.specs.Grounds.{HasGrounds}
use Rattle.dicomdir.specs.Names.{choice_by}
use Rattle.dd_faults.specs.Reasons.{IsDue}
use Rattle.dd_inputs.specs.Reasons.{IsDueBefore}
use Rattle.dicomdir.specs.Refused.{IsRefused, MayNameOf, refuses_notes}

module _ {R E : Type 0} (reads : ReadOf R) (writer : WriteOf E) (r : Request) (refusals failures : ℕ)
    (may_be_taken : List ℕ → Type 0) (files left : Option Held) (old new : E) (refusal : Refusal) where
  abbrev Refused : Type 0
  Refused = IsRefused reads writer r refusals failures may_be_taken files left old new

  -- before the work
  pub refused_before : (counts : ℕ) → refusals ≡ counts
      → IsDueBefore reads counts may_be_taken r files refusal.fault
      → TellsRefusal writer r (folder_of r) (words_of (read_of r)) (given_list r) refusal.subject old new → Refused
  refused_before counts same due told = record {
    refusal = refusal;
    due = inr (inl (subst (λ (n : ℕ). IsDueBefore reads n may_be_taken r files refusal.fault) (sym same) due));
    sources = words_of (read_of r);
    are = inl refl;
    told = told;
  }

  -- in the work
  pub refused_in : (counts failed : ℕ) (sources : List Text) → refusals ≡ counts → failures ≡ failed
      → IsDue reads counts failed (refuses_notes r) refusal.fault
      → HasGrounds r (choice_by (id_of r) (uid_of r)) (words_of (instances_of r)) files left refusal
      → MayNameOf r files sources
      → TellsRefusal writer r (folder_of r) sources (given_list r) refusal.subject old new → Refused
  refused_in counts failed sources same same_too due grounds are told = record {
    refusal = refusal;
    due = inr (inr (inl (
      subst (λ (n : ℕ). IsDue reads n failures (refuses_notes r) refusal.fault) (sym same)
          (subst (λ (n : ℕ). IsDue reads counts n (refuses_notes r) refusal.fault) (sym same_too) due),
      grounds,
    )));
    sources = sources;
    are = are;
    told = told;
  }

  -- for an empty path
  pub refused_empty : RequestsEmptyPath r → IsOfEmptyPath refusal.fault
      → TellsRefusal writer r (folder_of r) (words_of (read_of r)) (given_list r) refusal.subject old new → Refused
  refused_empty empty of told = record {
    refusal = refusal;
    due = inl (empty, of);
    sources = words_of (read_of r);
    are = inl refl;
    told = told;
  }

-- since an allocation was refused for the names
pub refused_names : {R E : Type 0} (reads : ReadOf R) (writer : WriteOf E) (r : Request) (refusals failures : ℕ)
    (may_be_taken : List ℕ → Type 0) (files left : Option Held) (old new : E) (fault : ProgramFault) (status : ℕ)
    (folder : List ℕ) (sources : List Text) (list : List ℕ) → status ≡ 1 → (IsBadLine fault → status ≡ 2)
    → IsBadLine fault ⊎ (fault ≡ Memory) → TellsRefusal writer r folder sources list General old new
    → IsRefused reads writer r refusals failures may_be_taken files left old new
refused_names reads writer r refusals failures may_be_taken files left old new fault status folder sources list one two
    (inl bad) told =
    let amiss = two bad in absurd (cc)
refused_names reads writer r refusals failures may_be_taken files left old new fault status folder sources list one two
    (inr memory) told = record {
      refusal = record { subject = General; fault = fault };
      due = inr (inr (inr memory));
      sources = words_of (read_of r);
      are = inl refl;
      told = record {
        line = told.line;
        told = record {
          path = told.told.path;
          concerned = told.told.concerned;
          told = told.told.told;
        };
        alone = told.alone;
      };
    }
