-- Which path is empty, if one is.
use Rattle.std.proofs.Common.{◌≡◌, ◌<◌, ◌≤◌, ℕ, Bool, true, false, List, Some, ap, arith, nat_lt, refl, subst}
use Rattle.std.specs.Prelude.{String}
use Rattle.std.specs.declared.alloc.Global.{Global}
use Rattle.std.proofs.lemmas.Bool.Decides.{nat_tests}
use Rattle.dd_faults.specs.declared.refusal.ProgramFault.TheVariants.{Absent}
use Rattle.dd_faults.specs.declared.refusal.Subject.TheVariants.{Source}
use Rattle.dd_inputs.specs.EmptyPaths.{IsEmptyAt, IsFirstEmpty}
use Rattle.dd_inputs.proofs.empty_paths.empty_path.Goals as goal

first_is_one : (paths : List (String Global)) (a b : ℕ) → IsEmptyAt paths a
    → ((before : ℕ) → before < a → ¬ IsEmptyAt paths before) → IsFirstEmpty paths b → a ≡ b
first_is_one paths a b here none other = go (nat_lt a b) (nat_lt b a) refl refl
  where
    go : (s t : Bool) → nat_lt a b ≡ s → nat_lt b a ≡ t → a ≡ b
    go true t s is = absurd (other.first a (search (arith, nat_tests, s)) here)
    go false true s is = absurd (none b (search (arith, nat_tests, is)) other.here)
    go false false s is =
        let up : b ≤ a = search (arith, nat_tests, s) in
        let down : a ≤ b = search (arith, nat_tests, is) in omega (arith, up, down)

pub returns-in-Some-first_empty-clause-source : goal.returns-in-Some-first_empty-clause-source
returns-in-Some-first_empty-clause-source c = λ made at is.
    let one = first_is_one c.args.sources.now c.in-Some-first_empty.at at c.in-Some-first_empty.ensures.empty
    c.in-Some-first_empty.ensures.first is in
    subst (λ (n : ℕ). Some c.of-in-Some-first_empty.result ≡ Some (record { subject = Source n; fault = Absent })) one
    (ap Some c.of-in-Some-first_empty.ensures)

pub returns-in-Some-first_empty-clause-none : goal.returns-in-Some-first_empty-clause-none
returns-in-Some-first_empty-clause-none c = λ made none.
    absurd (none c.in-Some-first_empty.at c.in-Some-first_empty.ensures.empty)

pub returns-in-None-clause-source : goal.returns-in-None-clause-source
returns-in-None-clause-source c = λ made at is. absurd (c.in-None.ensures.none refl at is.here)

pub returns-in-None-clause-sources : goal.returns-in-None-clause-sources
returns-in-None-clause-sources c = λ _. c.in-None.ensures.none refl
