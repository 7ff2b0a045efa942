use Rattle.std.proofs.Common.{◌∙◌, ap, get_or, refl}
use Rattle.std.proofs.lemmas.Bool.{le-ltb, lt-ltb}
use Rattle.dd_engine.proofs.UnreachedSets.{set_more, set_passed, shown}
use Rattle.dd_engine.proofs.set_notes.unreached_sets.Goals as goal
use Rattle.dd_engine.proofs.set_notes.unreached_sets.Goals.{then-records-gt0+in_ok-push, else-records-gt0}

pub loop-set-preserved : goal.loop-set-preserved
loop-set-preserved c =
    let counts = c.args.counts.now in
    let i = c.loop-set.set in
    let count = get_or counts i 0 in
    elim c.if-records-gt0.branch [
      | then-records-gt0+in_ok-push w ↦
          ap (λ sets. shown sets.items) w.sets-is ∙ ap shown w.in_ok-push.ensures.items
          ∙ set_more counts i count c.loop-set.sets.items c.loop-set-test.true refl
          (lt-ltb 0 count w.if-records-gt0.true) c.loop-set.invariant
      | else-records-gt0 w ↦
          ap (λ sets. shown sets.items) w.sets-is
          ∙ set_passed counts i count _ c.loop-set-test.true refl (le-ltb 0 count w.if-records-gt0.false)
          c.loop-set.invariant
    ]
