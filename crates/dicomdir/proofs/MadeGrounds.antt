-- The grounds of a fault once there is a plan.
use Rattle.std.proofs.Common.{◌≡◌, ℕ, zero, suc, Bool, List, [], ◌∷◌, Option, Ok, Err, Result, arith, inl, inr, refl, subst}
use Rattle.std.proofs.Common.{sym, true}
use Rattle.std.proofs.lemmas.List.Elements.{All-head, All-tail}
use Rattle.std.specs.Prelude.{◌↔◌, All, Contains, IfErr, IsTrue, zip}
use Rattle.dd_elem.specs.declared.device.Read.{Ghosts as ReadOf}
use Rattle.dd_file_set.proofs.Unlinked.{SaysToo, bytes_by}
use Rattle.dd_file_set.specs.Changed.{IfChanged, IsUnfit}
use Rattle.dd_file_set.specs.Reasons.{IsDueTo}
use Rattle.dd_faults.specs.Refusal.{IsStrict}
use Rattle.dd_faults.specs.declared.refusal.ProgramFault.{ProgramFault}
use Rattle.dd_faults.specs.declared.refusal.ProgramFault.TheVariants.{Absent, BadName, BadStage, Changed, Create, Dir}
use Rattle.dd_faults.specs.declared.refusal.ProgramFault.TheVariants.{Folder, ListTooLarge, Memory, Own, Plan, SetId}
use Rattle.dd_faults.specs.declared.refusal.ProgramFault.TheVariants.{Strict, TooLong, Uid, Unread, Unsent}
use Rattle.dd_faults.specs.declared.refusal.Refusal.{Refusal}
use Rattle.dd_files.specs.Files.{Held}
use Rattle.dd_layout.specs.Layouts.{Layout}
use Rattle.dd_version.specs.declared.parts.Parts.{Parts}
use Rattle.dd_faults.specs.Grounds.{GroundsOfMaking}
use Rattle.dicomdir.specs.Grounds.{HasUnfitImage}

pub made_grounds : {R : Type 0} (reads : ReadOf R) (refusals failures : ℕ) (HasChanged : Type 0) (fault : ProgramFault)
    → IsDueTo reads refusals failures fault → IfChanged HasChanged fault → GroundsOfMaking HasChanged ⊥ fault
made_grounds reads refusals failures HasChanged Absent due changed = tt
made_grounds reads refusals failures HasChanged Unread due changed = tt
made_grounds reads refusals failures HasChanged Create due changed = tt
made_grounds reads refusals failures HasChanged Folder due changed = tt
made_grounds reads refusals failures HasChanged Unsent due changed = tt
made_grounds reads refusals failures HasChanged Changed due changed = changed
made_grounds reads refusals failures HasChanged Memory due changed = tt
made_grounds reads refusals failures HasChanged Strict due changed = absurd due
made_grounds reads refusals failures HasChanged (Uid bad) due changed = absurd due
made_grounds reads refusals failures HasChanged (SetId bad) due changed = absurd due
made_grounds reads refusals failures HasChanged (BadName number) due changed = absurd due
made_grounds reads refusals failures HasChanged (Plan fault) due changed = absurd due
made_grounds reads refusals failures HasChanged TooLong due changed = absurd due
made_grounds reads refusals failures HasChanged ListTooLarge due changed = absurd due
made_grounds reads refusals failures HasChanged (BadStage item) due changed = absurd due
made_grounds reads refusals failures HasChanged (Dir fault) due changed = absurd due
made_grounds reads refusals failures HasChanged (Own fault) due changed = absurd due

-- a strict run has more grounds
more_grounds : (HasChanged Noted : Type 0) (fault : ProgramFault) → GroundsOfMaking HasChanged ⊥ fault
    → GroundsOfMaking HasChanged Noted fault
more_grounds HasChanged Noted Absent made = tt
more_grounds HasChanged Noted Unread made = tt
more_grounds HasChanged Noted Create made = tt
more_grounds HasChanged Noted Folder made = tt
more_grounds HasChanged Noted Unsent made = tt
more_grounds HasChanged Noted Changed made = made
more_grounds HasChanged Noted Memory made = tt
more_grounds HasChanged Noted Strict made = absurd made
more_grounds HasChanged Noted (Uid bad) made = tt
more_grounds HasChanged Noted (SetId bad) made = tt
more_grounds HasChanged Noted (BadName number) made = tt
more_grounds HasChanged Noted (Plan fault) made = absurd made
more_grounds HasChanged Noted TooLong made = absurd made
more_grounds HasChanged Noted ListTooLarge made = absurd made
more_grounds HasChanged Noted (BadStage item) made = absurd made
more_grounds HasChanged Noted (Dir fault) made = absurd made
more_grounds HasChanged Noted (Own fault) made = absurd made

pub noted_grounds : {T : Type 0} (result : Result T Refusal) (HasChanged Noted : Type 0)
    → IfErr result (λ refusal. GroundsOfMaking HasChanged ⊥ refusal.fault)
    → IfErr result (λ refusal. GroundsOfMaking HasChanged Noted refusal.fault)
noted_grounds (Ok done) HasChanged Noted made = tt
noted_grounds (Err refusal) HasChanged Noted made = more_grounds HasChanged Noted refusal.fault made

-- it is refused since there is a note
pub noted_by : (strict is_noted : Bool) (Noted : Type 0) → (true ≡ true) ↔ ((strict ≡ true) × (is_noted ≡ true))
    → IsTrue is_noted ↔ Noted → Noted
noted_by strict is_noted Noted refuses is = is.0 (refuses.0 refl).1

pub strict_grounds : (Grounds : ProgramFault → Type 0) (refusal : Refusal) → IsStrict refusal → Grounds Strict
    → Grounds refusal.fault
strict_grounds Grounds refusal is grounds = subst (λ (one : Refusal). Grounds one.fault) (sym is) grounds

-- ---- where the files of picks stand, and which images may be hard links, may be said otherwise

picked_in : {X P : Type 0} (Q : P → Type 0) (xs : List X) (picks : List P) (row : X × P) → All Q picks
    → Contains (zip xs picks) row → Q row.1
picked_in Q [] picks row all (at, within, is) = absurd (omega (arith, within))
picked_in Q (x ∷ xs) [] row all (at, within, is) = absurd (omega (arith, within))
picked_in {X = X} {P = P} Q (x ∷ xs) (pick ∷ picks) row all (zero, within, is) =
    subst (λ (one : X × P). Q one.1) is (All-head Q pick picks all)
picked_in Q (x ∷ xs) (pick ∷ picks) row all (suc at, within, is) =
    picked_in Q xs picks row (All-tail Q pick picks all) (at, omega (arith, within), is)

module _ (From To MayLink MayLinkTo : List ℕ → Type 0) (said : Option Parts) (GivesLinks : Type 0) (planned : Parts)
    (same : SaysToo From To MayLinkTo MayLink) where
  unfit_bytes : (bytes : List ℕ) → IsUnfit planned said GivesLinks MayLink bytes
      → IsUnfit planned said GivesLinks MayLinkTo bytes
  unfit_bytes bytes (inl long) = inl long
  unfit_bytes bytes (inr (inl other)) = inr (inl other)
  unfit_bytes bytes (inr (inr unlinked)) = inr (inr (unlinked.0, λ may. unlinked.1 (same.links bytes may)))

pub unfit_by : {P : Type 0} (From To MayLink MayLinkTo : P → List ℕ → Type 0) (said : P → Option Parts)
    (GivesLinks : Type 0) (plan : Layout)
    (picks : List P) (files : Option Held)
    → All (λ pick. SaysToo (From pick) (To pick) (MayLinkTo pick) (MayLink pick)) picks
    → HasUnfitImage From MayLink said GivesLinks plan picks files
    → HasUnfitImage To MayLinkTo said GivesLinks plan picks files
unfit_by From To MayLink MayLinkTo said GivesLinks plan picks files all is =
    let pick = is.row.1 in
    let same = picked_in (λ one. SaysToo (From one) (To one) (MayLinkTo one) (MayLink one)) _ picks is.row all is.among in
    let planned = is.has.planned in
    record {
      row = is.row;
      among = is.among;
      has = record {
        planned = planned;
        of = is.has.of;
        has = record {
          from = is.has.has.from;
          picked = same.stands is.has.has.from is.has.has.picked;
          unfit = bytes_by (IsUnfit planned (said pick) GivesLinks (MayLink pick))
              (IsUnfit planned (said pick) GivesLinks (MayLinkTo pick))
              is.has.has.from files
              (unfit_bytes (From pick) (To pick) (MayLink pick) (MayLinkTo pick) (said pick) GivesLinks planned same)
              is.has.has.unfit;
        };
      };
    }
