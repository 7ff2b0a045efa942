-- Why a file that was read ahead is refused in its turn.
use Rattle.std.proofs.Common.{◌≡◌, ℕ, Bool, true, false, List, length, get_or}
use Rattle.std.proofs.Common.{inl, inr, subst, sym, if◌then◌else◌}
use Rattle.std.proofs.lemmas.List.Elements.{All-get_or, All-nil, All-push, All-weaker}
use Rattle.std.proofs.lemmas.List.{get_or_past}
use Rattle.std.proofs.lemmas.Bool.{cases_lt}
use Rattle.std.specs.Prelude.{All}
use Rattle.dd_filing.specs.Ahead.{AreDue, IsDue, NextFiles, first_left, no_files, shown, with_file}
use Rattle.dd_filing.specs.Taken.{Taken}
use Rattle.dd_filing.specs.declared.places.Ahead.{Ahead}
use Rattle.dd_filing.specs.declared.places.Ahead.TheVariants as known

module _ (Refuses Fails : Type 0) where
  abbrev Due : Ahead → Type 0
  Due = IsDue Refuses Fails

  due_by : (whole : Bool) (file : Taken) → Due (known.File file)
      → Due (if whole then known.Unknown else known.File file)
  due_by true file due = tt
  due_by false file due = due

  due_shown : (digested : Bool) (file : Ahead) → Due file → Due (shown digested file)
  due_shown true file due = due
  due_shown false (known.File file) due = due_by file.whole file due
  due_shown false known.Absent due = due
  due_shown false known.Unknown due = due

  due_at : (files : List Ahead) (past : ℕ) → All Due files → Due (get_or files past known.Unknown)
  due_at files past due = elim (cases_lt past (length files)) [
    | inl within ↦ All-get_or Due files past known.Unknown within due
    | inr none ↦ subst Due (sym (get_or_past files past known.Unknown none)) tt
  ]

  -- what is so of each is so of the first that is not past
  pub due_next : (all : NextFiles) (file : Ahead) → file ≡ first_left all → AreDue Refuses Fails all → Due file
  due_next all file is due = subst Due (sym is)
      (due_shown all.digested (get_or all.files all.past known.Unknown) (due_at all.files all.past due))

  pub due_none : (all : NextFiles) → all ≡ no_files → AreDue Refuses Fails all
  due_none all is = subst (λ (x : NextFiles). AreDue Refuses Fails x) (sym is) (All-nil Due)

  pub due_with : (all after : NextFiles) (file : Ahead) → after ≡ with_file all file → AreDue Refuses Fails all
      → Due file → AreDue Refuses Fails after
  due_with all after file is due one =
      subst (λ (x : NextFiles). AreDue Refuses Fails x) (sym is) (All-push Due all.files file due one)

-- evidence once may be evidence later
due_later : (Refuses Later Fails : Type 0) → (Refuses → Later) → (file : Ahead) → IsDue Refuses Fails file
    → IsDue Later Fails file
due_later Refuses Later Fails since (known.File file) due = due
due_later Refuses Later Fails since known.Absent due = since due
due_later Refuses Later Fails since known.Unknown due = due

pub due_since : (Refuses Later Fails : Type 0) (all after : NextFiles) → after.files ≡ all.files → (Refuses → Later)
    → AreDue Refuses Fails all → AreDue Later Fails after
due_since Refuses Later Fails all after same since due =
    subst (λ (files : List Ahead). All (IsDue Later Fails) files) (sym same)
    (All-weaker (IsDue Refuses Fails) (IsDue Later Fails) (due_later Refuses Later Fails since) all.files due)
