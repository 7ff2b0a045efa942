use Rattle.std.proofs.Common.{◌≡◌, true, sym, ap, ◌∙◌}
use Rattle.dd_set.specs.Views.{elements_view, set_view}
use Rattle.dd_set.proofs.Seen.{set_view-is}
use Rattle.dd_staged.specs.Sources.{source_view}
use Rattle.dd_staged.proofs.Said.{other_said}
use Rattle.dd_staged.proofs.item_reading.read_set.Goals as goal

pub returns-else-are_of_source-clause-bad : goal.returns-else-are_of_source-clause-bad
returns-else-are_of_source-clause-bad c =
    let set = c.args.set.now in
    let view : elements_view c.deref.result.now ≡ set_view set =
    ap elements_view c.deref.ensures.value ∙ sym (set_view-is set) in
    λ e source is. other_said (set_view set) (source_view c.in_ok-staged.staged) c.in_ok-staged.ensures.value
    (λ same.
    let yes : c.are_of_source.result ≡ true = c.are_of_source.ensures.1 (view ∙ same) in
    let no = c.if-are_of_source.false in
    absurd (cc)) source is
