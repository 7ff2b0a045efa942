-- The sources that a pile is made of, and the status of a run that makes it.
use Rattle.std.proofs.Common.{◌≡◌, ◌≢◌, ◌∙◌, ◌++◌, ℕ, zero, suc, Bool, true, false, List, [], ◌∷◌, Result, Ok, Err}
use Rattle.std.proofs.Common.{IfOk, Option, Some, ap, ap₂, arith, inl, inr, length, map, refl, subst, sym}
use Rattle.std.specs.Prelude.{◌⊎◌, ◌==◌, IfSome, if◌then◌else◌, slice_get}
use Rattle.std.proofs.lemmas.Bool.Decides.{eqb_tells}
use Rattle.clap.specs.Words.{Text}
use Rattle.dd_elem.specs.declared.device.Write.{Ghosts as WriteOf}
use Rattle.dd_files.specs.Files.{Held}
use Rattle.dd_json.specs.declared.value.Style.{Style}
use Rattle.dd_lines.specs.Text.{TakesText}
use Rattle.dd_pile.specs.Piles.{HaveNames, MakesPile}
use Rattle.dd_pile.specs.declared.source.StageSource.{StageSource}
use Rattle.dd_pile.specs.declared.sum.StageSum.{StageSum}
use Rattle.dd_inputs.proofs.HavingPaths.{have_given}
use Rattle.dicomdir.specs.Done.{IsDone}
use Rattle.dicomdir.specs.FileSupply.{is_one}
use Rattle.dd_inputs.specs.From.{is_absolute, looked_up}
use Rattle.dicomdir.specs.Indexes.{IsIndexStatus}
use Rattle.dd_inputs.specs.ListedNames.{HavePaths}
use Rattle.dicomdir.specs.Stages.{MakesNamed, Stages, staged_text, status_staged}

-- in the current folder a relative path is looked up like an absolute one
either_same : (absolute : Bool) (path : Text) → path ≡ if absolute then path else path
either_same true path = refl
either_same false path = refl

looked_here : (path : Text) → path ≡ looked_up [] path
looked_here path = either_same (is_absolute path) path

pub all_here : (paths : List Text) → paths ≡ map (looked_up []) paths
all_here [] = refl
all_here (path ∷ paths) = ap₂ (λ (x : Text) (xs : List Text). x ∷ xs) (looked_here path) (all_here paths)

-- each is looked up by its name
all_looked : (from : Text) (names : List Text) (sources : List StageSource)
    → map (λ source. source.name.now) sources ≡ names
    → map (λ source. source.path.now) sources ≡ map (looked_up from) names
    → map (λ source. source.path.now) sources ≡ map (looked_up from) (map (λ source. source.name.now) sources)
all_looked from names sources called placed = placed ∙ ap (map (looked_up from)) (sym called)

-- one source more, of which it is said whether its name is bad
pub said_push : (Is : ℕ → Bool) (staged : List StageSource) (more : StageSource)
    → ((at : ℕ) (source : StageSource) → slice_get staged at ≡ Some source → source.is_bad_name ≡ Is at)
    → more.is_bad_name ≡ Is (length staged) → (at : ℕ) (source : StageSource)
    → slice_get (staged ++ more ∷ []) at ≡ Some source → source.is_bad_name ≡ Is at
said_push Is [] more before last zero source is =
    subst (λ (found : Option StageSource). IfSome found (λ one. one.is_bad_name ≡ Is 0)) is last
said_push Is [] more before last (suc at) source is = absurd (cc)
said_push Is (one ∷ staged) more before last zero source is = before 0 source is
said_push Is (one ∷ staged) more before last (suc at) source is =
    said_push (λ n. Is (suc n)) staged more (λ n. before (suc n)) last at source is

-- none is
all_names : (sources : List StageSource)
    → ((at : ℕ) (source : StageSource) → slice_get sources at ≡ Some source → source.is_bad_name ≡ false)
    → HaveNames sources
all_names [] named = tt
all_names (source ∷ sources) named = (named 0 source refl, all_names sources (λ at. named (suc at)))

-- a pile of these sources is one of their names
pub makes_named : {E : Type 0} (r : Result StageSum E) (keeps_going : Bool) (from pile : Text) (names : List Text)
    (shown : List Text) (numbers : List ℕ) (sources : List StageSource) (old new : Option Held)
    → HavePaths names shown numbers → map (λ source. source.name.now) sources ≡ shown
    → map (λ source. source.path.now) sources ≡ map (looked_up from) shown
    → ((at : ℕ) (source : StageSource) → slice_get sources at ≡ Some source → source.is_bad_name ≡ is_one numbers at)
    → (keeps_going ≡ false → numbers ≡ []) → IfOk r (λ sum. MakesPile pile sources sum old new)
    → (keeps_going ≡ false → HaveNames sources → IfOk r (λ sum. sum.unread ≡ 0))
    → IfOk r (λ sum. MakesNamed keeps_going from pile names sum old new)
makes_named (Ok sum) keeps_going from pile names shown numbers sources old new have called placed named none makes
    all = record {
      sources = sources;
      bad = numbers;
      are = record {
        called = subst (λ (texts : List Text). HavePaths names texts numbers) (sym called) have;
        placed = all_looked from shown sources called placed;
        named = named;
      };
      makes = makes;
      all = λ ends. all ends (all_names sources
          (λ at source is. named at source is ∙ ap (λ (bad : List ℕ). is_one bad at) (none ends)));
    }
makes_named (Err refusal) keeps_going from pile names shown numbers sources old new have called placed named none
    makes all = tt

-- ---- the status

-- the status of a run whose output did not fail, by how many sources were not read
abbrev of_unread : ℕ → ℕ
of_unread unread = if unread == 0 then 0 else 3

unread_cases : (unread : ℕ)
    → ((unread ≡ 0) × (of_unread unread ≡ 0)) ⊎ ((unread ≢ 0) × (of_unread unread ≡ 3))
unread_cases unread = elim (eqb_tells unread 0) [
  | inl none ↦ inl (none.1, rw none.0 refl)
  | inr some ↦ inr (some.1, rw some.0 refl)
]

none_unread : (unread : ℕ) → of_unread unread ≡ 0 → unread ≡ 0
none_unread unread is = elim (unread_cases unread) [
  | inl none ↦ none.0
  | inr some ↦ absurd (omega (arith, is, some.1))
]

zero_where_none : (unread : ℕ) → unread ≡ 0 → of_unread unread ≡ 0
zero_where_none unread is = elim (unread_cases unread) [
  | inl none ↦ none.1
  | inr some ↦ absurd (some.0 is)
]

-- it is 1 only where the output failed
pub told_one : (told : ℕ) (sum : StageSum) → status_staged told sum ≡ 1 → told ≡ 1
told_one zero sum is = absurd (elim (unread_cases sum.unread) [
  | inl none ↦ omega (arith, is, none.1)
  | inr some ↦ omega (arith, is, some.1)
])
told_one (suc told) sum is = is

-- where the run ends with the first that can't be read, each was
pub all_read : (keeps_going : Bool) (from pile : Text) (shown : List Text) (numbers : List ℕ) (sum : StageSum)
    (old new : Option Held) → (numbers ≡ []) ⊎ (keeps_going ≡ true)
    → ((names : List Text) → HavePaths names shown numbers → (keeps_going ≡ false → numbers ≡ [])
    → MakesNamed keeps_going from pile names sum old new)
    → keeps_going ≡ false → sum.unread ≡ 0
all_read keeps_going from pile shown numbers sum old new (inl none) made ends =
    (made shown (rw none (have_given shown shown refl)) (λ _. none)).all ends
all_read keeps_going from pile shown numbers sum old new (inr goes) made ends = absurd (cc)

goes_on : (b : Bool) → (b ≡ false → ⊥) → b ≡ true
goes_on true amiss = refl
goes_on false amiss = absurd (amiss refl)

pub stage_status : (keeps_going : Bool) (told : ℕ) (sum : StageSum) → (told ≡ 0) ⊎ (told ≡ 1)
    → (keeps_going ≡ false → sum.unread ≡ 0) → IsIndexStatus keeps_going (status_staged told sum)
stage_status keeps_going zero sum one all = elim (unread_cases sum.unread) [
  | inl none ↦ inl (omega (arith, none.1))
  | inr some ↦ inr (some.1, goes_on keeps_going (λ ends. some.0 (all ends)))
]
stage_status keeps_going (suc told) sum (inl none) all = absurd (omega (arith, none))
stage_status keeps_going (suc told) sum (inr one) all = inl (omega (arith, one))

-- where the output did not fail, the run says what it made
pub stages_said : {W : Type 0} (writer : WriteOf W) (style : Style) (keeps_going : Bool) (from pile : Text)
    (names : List Text) (told : ℕ) (sum : StageSum) (files made : Option Held) (old new : W)
    → (told ≡ 0) ⊎ (told ≡ 1) → MakesNamed keeps_going from pile names sum files made
    → (told ≡ 0 → TakesText writer old new (staged_text style sum)) → status_staged told sum ≢ 1
    → Stages writer style keeps_going from pile names (status_staged told sum) files made old new
stages_said writer style keeps_going from pile names zero sum files made old new one makes says done = record {
  sum = sum;
  pile_made = makes;
  all = (none_unread sum.unread, zero_where_none sum.unread);
  printed = says refl;
}
stages_said writer style keeps_going from pile names (suc told) sum files made old new (inl none) makes says done =
    absurd (omega (arith, none))
stages_said writer style keeps_going from pile names (suc told) sum files made old new (inr one) makes says done =
    absurd (done one)

-- a run that is done has not failed
pub done_stages : {E : Type 0} (r : Result ℕ E) (P : ℕ → Type 0) → IfOk r (λ status. status ≢ 1 → P status)
    → IfOk r (λ status. IsDone status → P status)
done_stages (Ok status) P all = λ done. all (λ failed. elim done [
  | inl none ↦ omega (arith, failed, none)
  | inr three ↦ omega (arith, failed, three)
])
done_stages (Err refusal) P all = tt
