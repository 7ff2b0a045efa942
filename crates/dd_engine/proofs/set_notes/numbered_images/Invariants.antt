use Rattle.std.proofs.Common.{◌≡◌, map}
use Rattle.dd_engine.specs.Mentions.{first_number, mention_view}
use Rattle.dd_engine.specs.SetNotes.{withdrawn_among}
use Rattle.dd_engine.proofs.set_notes.numbered_images.Given as goal

-- the notes on the files so far
abbrev pub invariant-loop-file : goal.invariant-loop-file
invariant-loop-file g l = map (λ note. (note.file, note.by, note.instance)) l.images.items
    ≡ withdrawn_among (first_number (map (λ mention. mention_view mention) l.mentions))
    (map (λ p. (p.0.now, p.1.now)) l.yielded)
