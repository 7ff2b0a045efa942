use Rattle.std.proofs.Common.{◌≡◌, rules, sym, ◌∙◌}
use borrow.Author.Tests.{tests}
use Rattle.std.specs.List.{list_all}
use Rattle.std.proofs.lemmas.Iterator.{YieldsList-from_slice}
use Rattle.std.proofs.lemmas.Iterator.Search.{all_from_yields_List}
use Rattle.dd_set.specs.declared.set.Value.TheViews.{out-DataSet}
use Rattle.dd_part10.specs.Reading.{is_meta_tag}
use Rattle.dd_part10.proofs.Alone.{is_alone-seen}
use Rattle.dd_part10.proofs.group.is_alone.Goals as goal

pub returns : goal.returns
returns c =
    let es = (out-DataSet c.args.group.now).elements.items in
    let all : c.all.result ≡ list_all (λ e. is_meta_tag e.tag) es =
    all_from_yields_List (λ e. is_meta_tag e.tag) _ _ c.all.result c.all.ensures.ran (YieldsList-from_slice es cc)
    (λ x b q k. search (rules, tests)) in
    all ∙ sym (is_alone-seen c.args.group.now)
