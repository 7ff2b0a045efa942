use Rattle.std.proofs.Common.{rules, ◌≤◌, ◌-◌, ◌∙◌, ap, arith, drop, length}
use Rattle.std.proofs.lemmas.List.{length-take, length-drop}
use Rattle.std.specs.List.{prefix_len}
use Rattle.dd_engine.specs.Namings.{has_id}
use Rattle.dd_catalogue.proofs.FirstAndRest.{rest_of}
use Rattle.dd_engine.proofs.NamingGroups.{several_first, several_shorter}
use Rattle.dd_engine.proofs.patient_names.of_several_names.Goals as goal

pub offset_bounds-others-len : goal.offset_bounds-others-len
offset_bounds-others-len c =
    let within = c.like_len-len.ensures.within in
    let less : c.like_len-len.result ≤ length c.args.namings.now =
    omega (
      arith,
      within,
      c.loop-rest.invariant.1,
      length-take (length c.loop-rest.rest.now - 1)
          (drop 1 c.loop-rest.rest.now),
      length-drop 1 c.loop-rest.rest.now,
    ) in
    search rules

pub loop-rest-preserved : goal.loop-rest-preserved
loop-rest-preserved c = (
  several_first c.args.namings.now c.loop-rest.rest.now c.first-item.result c.loop-rest.patients.items
      c.add.new.patients.items c.like_len-len.result c.in-len1-up.len_at_least c.first-item.is
      (c.like_len-len.ensures.count
      ∙ ap (λ naming. prefix_len (has_id naming.id) (rest_of c.loop-rest.rest.now)) c.first.view_is)
      c.in_ok-add.ensures c.loop-rest.invariant.0,
  several_shorter c.args.namings.now c.loop-rest.rest.now c.like_len-len.result c.loop-rest.invariant.1,
)
