use Rattle.std.proofs.Common.{◌∷◌, [], ◌∙◌, ap, map, refl, sym}
use Rattle.std.proofs.lemmas.Iterator.{YieldsList-from_slice, YieldsList-from_zip}
use Rattle.std.proofs.lemmas.Iterator.Consumers.{YieldsList-end}
use Rattle.std.proofs.lemmas.List.{map-append}
use Rattle.dd_version.specs.declared.parts.Parts.{Parts}
use Rattle.dd_engine.specs.Mentions.{first_number, mention_view}
use Rattle.dd_engine.specs.SetNotes.{withdrawn_among}
use Rattle.dd_engine.proofs.WithdrawnImages.{none_more, one_more}
use Rattle.dd_engine.proofs.set_notes.numbered_images.Goals as goal

pub loop-file-preserved-in-Continue-1 : goal.loop-file-preserved-in-Continue-1
loop-file-preserved-in-Continue-1 g c =
    let by = first_number (map (λ mention. mention_view mention) c.args.mentions.now) in
    ap (map (λ note. (note.file, note.by, note.instance))) c.in_ok-push.ensures.items
    ∙ one_more by (map (λ p. (p.0.now, p.1.now)) c.loop-file.yielded) (c.in-Some.file.now, c.in-Some.version.now)
    c.loop-file.images.items (record {
      file = c.in-Some.file.now;
      by = c.in-Some-first_number.by;
      instance = c.parts.result.now.instance;
    }) (sym (c.in-Some-first_number.ensures ∙ ap (λ (parts : Parts). by parts.instance) c.parts.ensures.value)) refl
    (ap (λ (parts : Parts). parts.instance) c.parts.ensures.value) c.loop-file.invariant
    ∙ ap (withdrawn_among by)
    (sym (map-append (λ p. (p.0.now, p.1.now)) c.loop-file.yielded ((c.in-Some.file, c.in-Some.version) ∷ [])))

pub loop-file-preserved : goal.loop-file-preserved
loop-file-preserved g c =
    let by = first_number (map (λ mention. mention_view mention) c.args.mentions.now) in
    c.loop-file.invariant
    ∙ none_more by (map (λ p. (p.0.now, p.1.now)) c.loop-file.yielded) (c.in-Some.file.now, c.in-Some.version.now)
    (sym (c.first_number.ensures ∙ ap (λ (parts : Parts). by parts.instance) c.parts.ensures.value) ∙ c.in_default.is)
    ∙ ap (withdrawn_among by)
    (sym (map-append (λ p. (p.0.now, p.1.now)) c.loop-file.yielded ((c.in-Some.file, c.in-Some.version) ∷ [])))

pub returns : goal.returns
returns g c =
    c.loop-file.invariant
    ∙ ap (withdrawn_among (first_number (map (λ mention. mention_view mention) c.args.mentions.now)))
    (YieldsList-end (YieldsList-from_zip (YieldsList-from_slice c.args.origins.now cc)
    (YieldsList-from_slice c.args.versions.now cc))
    c.loop-file.yielded _ c.loop-file.yielded_by _ c.next.new.self c.in-None.is c.next.ensures.steps).0
