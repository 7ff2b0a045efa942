use Rattle.std.proofs.Common.{◌≡◌, ◌<◌, ◌∙◌, Some, ap, arith, length, map, sym}
use Rattle.dd_engine.specs.Picking.{is_image}
use Rattle.dd_engine.proofs.ImagePicks.{tested}
use Rattle.dd_engine.proofs.KeptFiles.{image_more, other_more}
use Rattle.dd_engine.proofs.picks.picks_of.Goals as goal
use Rattle.dd_engine.proofs.picks.picks_of.Goals.{then-eq+in_ok-push, else-eq}

pub loop-record-preserved : goal.loop-record-preserved
loop-record-preserved g c =
    let row = c.record-item.result in
    let i = c.loop-record.record-index in
    let files = c.args.files.now in
    let rows = c.records-record-items.result.now in
    let sound = (c.records-record-items.ensures.sound i row c.loop-record-test.true).0 in
    let within : row.of < length files = omega (arith, sound, ap (λ r. r.of) c.record-item.is, c.requires) in
    let level : is_image row ≡ c.eq.result = sym (tested row) ∙ sym c.eq.ensures in
    elim c.if-eq.branch [
      | then-eq+in_ok-push w ↦
          ap (λ v. map (λ pick. Some pick) v.items) w.picks-is
          ∙ ap (map (λ pick. Some pick)) w.in_ok-push.ensures.items
          ∙ image_more files rows i row c.loop-record.picks.items w.index-files-record.result c.loop-record-test.true
          c.record-item.is (level ∙ w.if-eq.true) within w.index-files-record.is c.loop-record.invariant
      | else-eq w ↦
          ap (λ v. map (λ pick. Some pick) v.items) w.picks-is
          ∙ other_more files rows i row c.loop-record.picks.items c.loop-record-test.true c.record-item.is
          (level ∙ w.if-eq.false) c.loop-record.invariant
    ]
