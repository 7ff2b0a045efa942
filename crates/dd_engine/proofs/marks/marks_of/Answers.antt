use Rattle.std.proofs.Common.{[], ◌∷◌, ◌++◌, ◌∙◌, sym, ap, map}
use Rattle.std.proofs.lemmas.Iterator.{YieldsList-from_slice, YieldsList-from_zip}
use Rattle.std.proofs.lemmas.Iterator.Consumers.{YieldsList-end}
use Rattle.std.proofs.lemmas.List.{map-append}
use Rattle.dd_version.specs.declared.parts.Parts.{Parts}
use Rattle.dd_engine.specs.Picking.{file_of, mark_view}
use Rattle.dd_engine.proofs.ImagePicks.{twice}
use Rattle.dd_engine.proofs.marks.marks_of.Goals as goal

pub loop-origin-preserved : goal.loop-origin-preserved
loop-origin-preserved g c =
    ap (λ l. map (λ mark. mark_view mark) l) c.in_ok-push.ensures.items
    ∙ map-append (λ mark. mark_view mark) c.loop-origin.marks.items (_ ∷ [])
    ∙ ap (λ l. l ++ (c.in-Some.origin.now, file_of c.parts-parts.result.now) ∷ []) c.loop-origin.invariant
    ∙ ap (λ v. map (λ p. (p.0.now, file_of p.1.now)) c.loop-origin.yielded ++ (c.in-Some.origin.now, file_of v) ∷ [])
    c.parts-parts.ensures.value
    ∙ sym (map-append (λ p. (p.0.now, file_of p.1.now)) c.loop-origin.yielded
    ((c.in-Some.origin, c.in-Some.version) ∷ []))

pub returns : goal.returns
returns g c =
    c.loop-origin.invariant
    ∙ sym (twice (λ (p : g.row.T.Denot × Parts). (p.0, file_of p.1)) (λ p. (p.0.now, p.1.now)) c.loop-origin.yielded)
    ∙ ap (map (λ (p : g.row.T.Denot × Parts). (p.0, file_of p.1)))
    (YieldsList-end (YieldsList-from_zip (YieldsList-from_slice c.args.origins.now cc)
    (YieldsList-from_slice c.args.versions.now cc))
    c.loop-origin.yielded _ c.loop-origin.yielded_by _ c.next.new.self c.in-None.is c.next.ensures.steps).0
