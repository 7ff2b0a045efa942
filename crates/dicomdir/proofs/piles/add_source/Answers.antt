-- One source more is added.
use Rattle.std.proofs.Common.{[], ◌≡◌, ◌++◌, ◌∙◌, ◌∷◌, Option, ap, length, refl, rules, sym}
use Rattle.dd_staged.specs.Sources.{source_view}
use Rattle.dd_version.specs.declared.parts.Parts.{Parts}
use Rattle.dicomdir.proofs.Piling.{piled_more}
use Rattle.dicomdir.proofs.SaidLines.{on_ok_gives}
use Rattle.dicomdir.proofs.piles.add_source.Goals as goal

pub returns : goal.returns
returns c = λ ok lists part last counted first is.
    let many : c.len.result ≡ length c.args.piled.now.names.items = search rules in
    piled_more lists part (source_view c.args.staged) c.args.piled.now _ c.in_ok-shown_name.field-0 _ is
    c.in_ok-push.ensures.items (record {
      utf8 = rw c.deref.ensures.value at c.in_ok-shown_name.ensures.utf8;
      other = rw c.deref.ensures.value at c.in_ok-shown_name.ensures.other;
    }) c.in_ok-push-2.ensures.items
    (record { in_pile = sym last; counted = sym counted }) refl
    (c.in_ok-push-3.ensures.items ∙ ap (λ (said : Option Parts). c.args.piled.now.said.items ++ said ∷ [])
    c.in_ok-said_of.ensures) (rw many at c.in_ok-add.ensures.absent refl)
    (rw (many, sym first) at c.in_ok-add.ensures.bad_names refl)
    (rw c.answer_of.ensures at (on_ok_gives c.push-4.result ok c.push-4.ensures))
