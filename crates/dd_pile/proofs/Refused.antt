-- What a refusal is of.
use Rattle.std.proofs.Common.{◌≡◌, ◌≢◌, ◌∙◌, ℕ, Result, Err, sym, subst}
use Rattle.dd_pile.specs.Refusals.{IsOfCopy, IsOfList, Names}
use Rattle.dd_pile.specs.declared.refusal.StageRefusal.{StageRefusal}
use Rattle.dd_pile.specs.declared.refusal.StageRefusal.TheVariants as refusals

-- what holds of the source that it names
pub named : (Is : ℕ → Type 0) (at : ℕ) (refusal : StageRefusal) → Is at → IsOfCopy at refusal → Names Is refusal
named Is at (refusals.Absent n) here is = subst Is (sym is) here
named Is at (refusals.Unread n) here is = subst Is (sym is) here
named Is at (refusals.CopyUnmade n) here is = subst Is (sym is) here
named Is at (refusals.FolderUnmade n) here is = subst Is (sym is) here
named Is at (refusals.CopyUnsent n) here is = subst Is (sym is) here
named Is at refusals.Memory here is = tt
named Is at refusals.Unstored here is = tt
named Is at refusals.ListTooLarge here is = absurd is
named Is at refusals.ListUnmade here is = absurd is
named Is at refusals.ListUnsent here is = absurd is
named Is at refusals.PileUnmade here is = absurd is

pub unnamed : (Is : ℕ → Type 0) (refusal : StageRefusal) → IsOfList refusal → Names Is refusal
unnamed Is refusals.ListTooLarge is = tt
unnamed Is refusals.ListUnmade is = tt
unnamed Is refusals.ListUnsent is = tt
unnamed Is refusals.Memory is = tt
unnamed Is (refusals.Absent n) is = absurd is
unnamed Is (refusals.Unread n) is = absurd is
unnamed Is (refusals.CopyUnmade n) is = absurd is
unnamed Is (refusals.FolderUnmade n) is = absurd is
unnamed Is (refusals.CopyUnsent n) is = absurd is
unnamed Is refusals.PileUnmade is = absurd is
unnamed Is refusals.Unstored is = absurd is

-- a copy is not refused since the list is too large
pub not_large : {T : Type 0} (r : Result T StageRefusal) (at : ℕ) (refusal : StageRefusal) → r ≡ Err refusal
    → IsOfCopy at refusal → r ≢ Err refusals.ListTooLarge
not_large r at refusal is of = λ large.
    let e : Err refusal ≡ Err refusals.ListTooLarge = sym is ∙ large in
    let same : refusal ≡ refusals.ListTooLarge = cc in
    subst (IsOfCopy at) same of

-- since the list is too large, where the result says so
pub is_large : {T : Type 0} (r : Result T StageRefusal) (refusal : StageRefusal) → r ≡ Err refusal
    → r ≡ Err refusals.ListTooLarge → refusal ≡ refusals.ListTooLarge
is_large r refusal is large = let e : Err refusal ≡ Err refusals.ListTooLarge = sym is ∙ large in cc
