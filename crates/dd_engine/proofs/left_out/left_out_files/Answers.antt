use Rattle.std.proofs.Common.{◌∷◌, [], ◌∙◌, ap, map, refl, sym}
use Rattle.std.specs.List.{zip}
use Rattle.std.proofs.lemmas.Iterator.{YieldsList-from_slice, YieldsList-from_zip}
use Rattle.std.proofs.lemmas.Iterator.Consumers.{YieldsList-end}
use Rattle.std.proofs.lemmas.List.{map-append}
use Rattle.dd_version.specs.declared.parts.Parts.{Parts}
use Rattle.dd_engine.specs.Picking.{files_of}
use Rattle.dd_engine.proofs.FilesLeftOut.{first_in, marks_held, named, none_left, note_more, says}
use Rattle.dd_engine.proofs.left_out.left_out_files.Goals as goal

pub returns-then-are_kept-clause-all : goal.returns-then-are_kept-clause-all
returns-then-are_kept-clause-all g c =
    ap (map (λ note. says note)) c.new.ensures.items
    ∙ none_left (files_of (zip c.args.origins.now c.args.versions.now)) c.args.best.now c.args.origins.now
    c.args.versions.now (sym c.are_kept.ensures ∙ c.if-are_kept.true)

pub first_mark-requires-clause-order : goal.first_mark-requires-clause-order
first_mark-requires-clause-order g c = rw c.deref.ensures.value c.in_ok-marks.ensures.order

pub first_mark-requires-clause-held : goal.first_mark-requires-clause-held
first_mark-requires-clause-held g c = rw c.deref.ensures.value
    (marks_held (files_of (zip c.args.origins.now c.args.versions.now)) c.in_ok-marks_of.field-0.items
    c.in_ok-marks.marks.items c.args.best.now c.in-Some.version.now.instance c.in-Some-other_of.kept.now
    c.requires c.in_ok-marks_of.ensures c.in_ok-marks.ensures.stable c.in-Some-other_of.ensures.some.0)

pub loop-origin-preserved-in_ok-push : goal.loop-origin-preserved-in_ok-push
loop-origin-preserved-in_ok-push g c =
    let files = files_of (zip c.args.origins.now c.args.versions.now) in
    let m = c.args.best.now in
    let one = c.in-Some-other_of.kept.now in
    ap (map (λ note. says note)) c.in_ok-push.ensures.items
    ∙ note_more files m (map (λ p. (p.0.now, p.1.now)) c.loop-origin.yielded)
    (c.in-Some.origin.now, c.in-Some.version.now) c.loop-origin.notes.items (record {
      file = c.in-Some.origin.now;
      kept = c.first_mark.result;
      instance = c.parts.result.now.instance;
    }) one c.in-Some-other_of.ensures.some.0 c.in-Some-other_of.ensures.some.1 refl
    (first_in files c.in_ok-marks_of.field-0.items c.in_ok-marks.marks.items c.deref.result.now one
    c.first_mark.result c.in_ok-marks_of.ensures c.in_ok-marks.ensures.stable c.deref.ensures.value
    c.first_mark.ensures)
    (ap (λ (parts : Parts). parts.instance) c.parts.ensures.value) c.loop-origin.invariant
    ∙ ap (named files m)
    (sym (map-append (λ p. (p.0.now, p.1.now)) c.loop-origin.yielded ((c.in-Some.origin, c.in-Some.version) ∷ [])))

pub returns-clause-all : goal.returns-clause-all
returns-clause-all g c =
    c.loop-origin.invariant
    ∙ ap (named (files_of (zip c.args.origins.now c.args.versions.now)) c.args.best.now)
    (YieldsList-end (YieldsList-from_zip (YieldsList-from_slice c.args.origins.now cc)
    (YieldsList-from_slice c.args.versions.now cc))
    c.loop-origin.yielded _ c.loop-origin.yielded_by _ c.next.new.self c.in-None.is c.next.ensures.steps).0
