use Rattle.std.proofs.Common.{rules, sym, ◌∙◌}
use Rattle.std.specs.List.Sorted.{IsSorted}
use Rattle.std.specs.Ordering.{is_lt}
use Rattle.std.proofs.lemmas.Cmp.{nat_list_cmp_total}
use Rattle.std.proofs.lemmas.List.Sorted.{answers_always, ranks_by}
use Rattle.dd_elem.proofs.Sameness.{same_uid}
use Rattle.dd_elem.specs.Ordered.{bytes_cmp}
use Rattle.dd_catalogue.specs.CatalogueJoin.{uids_ordered}
use Rattle.dd_catalogue.proofs.Distinct.{rising-dedup, set_from_dedup}
use Rattle.dd_catalogue.proofs.withdrawals.uid_table.Goals as goal

pub from_rising-requires : goal.from_rising-requires
from_rising-requires c =
    let up : IsSorted bytes_cmp c.sort_unstable_by.new.self.items =
    c.sort_unstable_by.ensures.sorted (λ x y. is_lt (bytes_cmp x y)) (ranks_by nat_list_cmp_total (λ u. u))
    (answers_always _ _ _ (λ f a r f' k. search rules)) in
    rising-dedup uids_ordered (λ x y. sym (same_uid x y)) c.sort_unstable_by.new.self.items c.dedup.new.self.items up
    c.dedup.ensures.filtered

pub returns : goal.returns
returns c =
    let up : IsSorted bytes_cmp c.sort_unstable_by.new.self.items =
    c.sort_unstable_by.ensures.sorted (λ x y. is_lt (bytes_cmp x y)) (ranks_by nat_list_cmp_total (λ u. u))
    (answers_always _ _ _ (λ f a r f' k. search rules)) in
    c.from_rising.ensures
    ∙ set_from_dedup uids_ordered (λ x y. sym (same_uid x y)) c.args.uids.items c.sort_unstable_by.new.self.items
    c.dedup.new.self.items c.sort_unstable_by.ensures.permutation up c.dedup.ensures.filtered
