-- A part that is not UTF-8 has no path. It has the same number as the path in its place.
use Rattle.std.proofs.Common.{refl, rules}
use Rattle.dd_inputs.proofs.HavingPaths.{pushed_bad}
use Rattle.dd_inputs.proofs.listed_names.add_name.Goals as goal

pub returns-in_ok-push-in-None-2-clause-paths : goal.returns-in_ok-push-in-None-2-clause-paths
returns-in_ok-push-in-None-2-clause-paths c = λ _ given have.
    pushed_bad given c.args.part.now c.args.all.now.paths.items c.push-in-None-2.new.self.items
    c.in_ok-shown-in-None.shown c.args.all.now.bad_names.items c.push-in-None.new.self.items
    (λ utf8. c.in-None.ensures.none refl (record { some = search rules; utf8 = utf8 }))
    c.in_ok-shown-in-None.ensures (search rules) (search rules) have
