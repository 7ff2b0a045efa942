use Rattle.std.proofs.Common.{rules, ◌≡◌, ◌<◌, ◌+◌, ◌^◌, ℕ, length, map, subst}
use Rattle.std.specs.Option.{SomeIff}
use Rattle.dd_encoding.specs.Spelling.{items_text}
use Rattle.dd_staged.specs.Sources.{source_view}
use Rattle.dd_staged.specs.Stages.{source_items}
use Rattle.dd_staged.proofs.Digested.{items_within}
use Rattle.dd_staged.proofs.sizes.stage_size.Goals as goal

pub returns : goal.returns
returns c =
    let parts = source_items (map source_view c.args.list.now) in
    let size : c.in_ok-items.items ≡ length (items_text parts) = search rules in
    subst (λ (n : ℕ). SomeIff c.whole_size.result (n < 2 ^ 32) n) (items_within parts)
    (subst (λ (n : ℕ). SomeIff c.whole_size.result (n + 96 < 2 ^ 32) (n + 96)) size c.whole_size.ensures)
