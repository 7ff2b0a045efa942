use Rattle.std.proofs.Common.{rules, ap, refl}
use Rattle.std.specs.List.Sorted.{IsSorted}
use Rattle.std.specs.Ordering.{eq_by_cmp, is_lt}
use Rattle.std.proofs.lemmas.Cmp.{eq_by_cmp_equiv}
use Rattle.std.proofs.lemmas.List.Filters.{dedup_is}
use Rattle.std.proofs.lemmas.List.Kept.{Contains-dedup, Contains-from_dedup, IsStrictlySortedBy-dedup}
use Rattle.std.proofs.lemmas.List.MinMax.{ranks_by}
use Rattle.std.proofs.lemmas.List.Sorted.{Contains-permutation, IsPermutation-sym, answers_always}
use Rattle.dd_engine.specs.Namings.{naming_cmp, naming_total}
use Rattle.dd_engine.proofs.NamingGroups.{tied}
use Rattle.dd_engine.proofs.patient_names.in_order.Goals as goal

pub returns-clause-rising : goal.returns-clause-rising
returns-clause-rising c =
    let is = dedup_is (eq_by_cmp naming_cmp) c.sort_unstable_by.new.self.items c.dedup.new.self.items
    c.dedup.ensures.filtered in
    let sorted : IsSorted naming_cmp c.sort_unstable_by.new.self.items =
    c.sort_unstable_by.ensures.sorted (λ a b. is_lt (naming_cmp a b)) (ranks_by naming_total (λ n. n))
    (answers_always _ _ _ (λ f a r h called. ap is_lt (search rules))) in
    rw is (IsStrictlySortedBy-dedup naming_total (λ x y. refl) _ sorted)

pub returns-clause-same : goal.returns-clause-same
returns-clause-same c =
    let is = dedup_is (eq_by_cmp naming_cmp) c.sort_unstable_by.new.self.items c.dedup.new.self.items
    c.dedup.ensures.filtered in
    let moved = c.sort_unstable_by.ensures.permutation in
    λ naming. (
      λ h. Contains-permutation _ _ naming (IsPermutation-sym _ _ moved) (Contains-from_dedup _ _ naming (rw is at h)),
      λ h. rw is (Contains-dedup (eq_by_cmp_equiv naming_total) tied _ naming
          (Contains-permutation _ _ naming moved h)),
    )
