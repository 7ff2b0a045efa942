use Rattle.std.proofs.Common.{◌≡◌, ◌<◌, ◌+◌, List, Option, None, Some, get_or, length, option_map, ap, sym, subst}
use Rattle.std.proofs.Common.{◌∙◌, arith}
use Rattle.std.proofs.Math.ListN.{set}
use Rattle.std.proofs.lemmas.List.{map-set, length-map}
use Rattle.dd_set.specs.declared.set.DataSet.{DataSet}
use Rattle.dd_encoding.specs.Elements.{Elements}
use Rattle.dd_set.specs.Views.{set_view}
use Rattle.dd_walk.specs.ReadAnswers.{Leaves}
use Rattle.dd_walk.specs.Pending.{reached, count_left, pending_view}
use Rattle.dd_walk.specs.Reading.{stands_in}
use Rattle.dd_walk.proofs.Lifting.{AtStart, dangling, at_found, twice, pending_is, count_without}
use Rattle.dd_walk.proofs.pending.lift.Goals as goal

pub returns-in-Err-clause-exact : goal.returns-in-Err-clause-exact
returns-in-Err-clause-exact c = λ sets left level.
    dangling 0 c.args.starts.now sets (reached c.args.starts.now (pending_view c.args.pending.now) c.args.offset)
    c.from.result c.args.offset c.in-Err.field-0 level c.requires.rise (omega arith) c.in-Err.ensures.position

pub returns-in-None-clause-exact : goal.returns-in-None-clause-exact
returns-in-None-clause-exact c = λ sets left level.
    let starts = c.args.starts.now in
    let pending = pending_view c.args.pending.now in
    let within : c.in-Ok.index < length c.args.pending.now = omega (arith, c.in-Ok.ensures.bound, c.requires.each) in
    let empty : get_or pending c.in-Ok.index None ≡ None =
    pending_is c.args.pending.now c.in-Ok.index c.index-pending-index.result within
    ∙ ap (λ (s : Option DataSet). option_map set_view s) (sym c.in-None.ensures.value) in
    let same : length pending ≡ length c.args.pending.now =
    length-map c.args.pending.now (λ (s : Option DataSet). option_map set_view s) in
    let found = at_found 0 starts sets pending c.from.result c.args.offset c.in-Ok.index c.requires.rise left
    (omega (arith, c.requires.each, same)) (omega arith) c.in-Ok.ensures.position in
    twice c.args.offset level (reached starts pending c.args.offset) (stands_in starts sets c.args.offset)
    (subst (λ item. AtStart (stands_in starts sets c.args.offset) (reached starts pending c.args.offset) item) empty
    found.0)

pub returns-in-Some-clause-exact : goal.returns-in-Some-clause-exact
returns-in-Some-clause-exact c = λ sets left.
    let starts = c.args.starts.now in
    let pending = pending_view c.args.pending.now in
    let within : c.in-Ok.index < length c.args.pending.now = omega (arith, c.in-Ok.ensures.bound, c.requires.each) in
    let held : get_or pending c.in-Ok.index None ≡ Some (set_view c.in-Some.set) =
    pending_is c.args.pending.now c.in-Ok.index c.index-pending-index.result within
    ∙ ap (λ (s : Option DataSet). option_map set_view s) (sym c.in-Some.ensures.value) in
    let same : length pending ≡ length c.args.pending.now =
    length-map c.args.pending.now (λ (s : Option DataSet). option_map set_view s) in
    let found = at_found 0 starts sets pending c.from.result c.args.offset c.in-Ok.index c.requires.rise left
    (omega (arith, c.requires.each, same)) (omega arith) c.in-Ok.ensures.position in
    let there = subst (λ item. AtStart (stands_in starts sets c.args.offset) (reached starts pending c.args.offset)
    item) held found.0 in
    let after : pending_view (set c.args.pending.now c.in-Ok.index c.take.new.self) ≡ set pending c.in-Ok.index None =
    map-set (λ (s : Option DataSet). option_map set_view s) c.args.pending.now c.in-Ok.index c.take.new.self
    ∙ ap (λ (s : Option DataSet). set pending c.in-Ok.index (option_map set_view s)) c.take.ensures.after in (
      there.0,
      there.1,
      subst (λ (new : List (Option Elements)). Leaves starts sets c.args.offset pending new)
          (sym after) found.1,
    )

pub returns-in-Some-clause-fewer : goal.returns-in-Some-clause-fewer
returns-in-Some-clause-fewer c =
    let pending = pending_view c.args.pending.now in
    let within : c.in-Ok.index < length c.args.pending.now = omega (arith, c.in-Ok.ensures.bound, c.requires.each) in
    let held : get_or pending c.in-Ok.index None ≡ Some (set_view c.in-Some.set) =
    pending_is c.args.pending.now c.in-Ok.index c.index-pending-index.result within
    ∙ ap (λ (s : Option DataSet). option_map set_view s) (sym c.in-Some.ensures.value) in
    let after : pending_view (set c.args.pending.now c.in-Ok.index c.take.new.self) ≡ set pending c.in-Ok.index None =
    map-set (λ (s : Option DataSet). option_map set_view s) c.args.pending.now c.in-Ok.index c.take.new.self
    ∙ ap (λ (s : Option DataSet). set pending c.in-Ok.index (option_map set_view s)) c.take.ensures.after in
    count_without pending c.in-Ok.index (set_view c.in-Some.set) held ∙ sym (ap (λ new. 1 + count_left new) after)
