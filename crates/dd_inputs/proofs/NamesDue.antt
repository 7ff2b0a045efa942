-- The evidence for a fault of the list of names.
use Rattle.std.proofs.Common.{◌≡◌, ℕ, Bool, List, Option, Some, inl, inr, sym, subst}
use Rattle.std.specs.Prelude.{◌⊎◌, IfErr, Result, Ok, Err}
use Rattle.dd_elem.specs.declared.device.Read.{Ghosts as ReadOf}
use Rattle.dd_files.specs.Keeping.{HasBytes}
use Rattle.dd_faults.specs.declared.refusal.ProgramFault.{ProgramFault}
use Rattle.dd_faults.specs.declared.refusal.Refusal.{Refusal}
use Rattle.dd_faults.specs.declared.refusal.ProgramFault.TheVariants.{Absent, BadName, BadStage, Changed, Create, Dir}
use Rattle.dd_faults.specs.declared.refusal.ProgramFault.TheVariants.{Folder, ListTooLarge, Memory, Own, Plan, SetId}
use Rattle.dd_faults.specs.declared.refusal.ProgramFault.TheVariants.{Strict, TooLong, Uid, Unread, Unsent}
use Rattle.dd_files.specs.Files.{Held}
use Rattle.dd_line.specs.Requests.{keeps_going}
use Rattle.dd_line.specs.declared.request.Request.{Request}
use Rattle.dd_inputs.specs.ListedNames.{FailsAt, list_of, parts}
use Rattle.dd_inputs.specs.Reasons.{IsDueBefore, IsDueToList}

-- a name in the list that was read is bad, or an allocation was refused
pub bad_name_due : {R : Type 0} (reads : ReadOf R) (refusals : ℕ) (r : Request) (files : Option Held)
    (fault : ProgramFault) (path bytes : List ℕ) (goes : Bool) → list_of r ≡ Some path
    → HasBytes path bytes files → keeps_going r ≡ goes
    → (fault ≡ Memory) ⊎ ((number : ℕ) × (fault ≡ BadName number) × FailsAt goes (parts bytes) number)
    → IsDueToList reads refusals r files fault
bad_name_due reads refusals r files fault path bytes goes named read keeps due = elim due [
  | inl memory ↦ subst (IsDueToList reads refusals r files) (sym memory) tt
  | inr bad ↦ subst (IsDueToList reads refusals r files) (sym bad.1) (record {
    path = path;
    named = named;
    bytes = bytes;
    read = read;
    is = subst (λ (k : Bool). FailsAt k (parts bytes) bad.0) (sym keeps) bad.2;
  })
]

pub list_due : {R : Type 0} (reads : ReadOf R) (refusals : ℕ) (may_be_taken : List ℕ → Type 0) (r : Request)
    (files : Option Held) (fault : ProgramFault) → IsDueToList reads refusals r files fault
    → IsDueBefore reads refusals may_be_taken r files fault
list_due reads refusals may_be_taken r files Create due = absurd due
list_due reads refusals may_be_taken r files Absent due = due
list_due reads refusals may_be_taken r files Unread due = due
list_due reads refusals may_be_taken r files TooLong due = due
list_due reads refusals may_be_taken r files (BadName number) due = due
list_due reads refusals may_be_taken r files Memory due = due
list_due reads refusals may_be_taken r files (Plan fault) due = due
list_due reads refusals may_be_taken r files (Uid bad) due = due
list_due reads refusals may_be_taken r files (SetId bad) due = due
list_due reads refusals may_be_taken r files ListTooLarge due = due
list_due reads refusals may_be_taken r files (BadStage item) due = due
list_due reads refusals may_be_taken r files (Dir fault) due = due
list_due reads refusals may_be_taken r files (Own fault) due = due
list_due reads refusals may_be_taken r files Folder due = due
list_due reads refusals may_be_taken r files Unsent due = due
list_due reads refusals may_be_taken r files Changed due = due
list_due reads refusals may_be_taken r files Strict due = due

pub list_refused : {T R : Type 0} (reads : ReadOf R) (refusals : ℕ) (may_be_taken : List ℕ → Type 0) (r : Request)
    (a b : Option Held) (result : Result T Refusal) → b ≡ a
    → IfErr result (λ refusal. IsDueToList reads refusals r b refusal.fault)
    → IfErr result (λ refusal. IsDueBefore reads refusals may_be_taken r a refusal.fault)
list_refused reads refusals may_be_taken r a b (Ok found) same due = tt
list_refused reads refusals may_be_taken r a b (Err refusal) same due =
    list_due reads refusals may_be_taken r a refusal.fault
    (subst (λ (x : Option Held). IsDueToList reads refusals r x refusal.fault) same due)
