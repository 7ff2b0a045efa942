use Rattle.std.proofs.Common.{◌≡◌, ◌++◌, drop, length, map, take}
use Rattle.std.specs.Prelude.{None, Some}
use Rattle.std.specs.List.{enumerate_from}
use Rattle.dd_engine.specs.MergeSteps.{known_in}
use Rattle.dd_engine.specs.Mentions.{mention_view}
use Rattle.dd_engine.proofs.set_notes.listed_then_given.Given as goal

-- mentions of the images so far
abbrev pub invariant-loop-version : goal.invariant-loop-version
invariant-loop-version l = map (λ mention. mention_view mention) l.mentions.items
    ≡ map (λ version. (None, version.instance)) (take l.version-index l.gathered.versions.items)

-- of all images, and of the withdrawn UIDs so far
abbrev pub invariant-loop-uid : goal.invariant-loop-uid
invariant-loop-uid l = map (λ mention. mention_view mention) l.mentions.items
    ≡ map (λ version. (None, version.instance)) l.gathered.versions.items
    ++ map (λ uid. (None, uid)) (take l.uid-index (drop (length l.given) l.gathered.withdrawn.items))

-- of all these, and of the given UIDs so far
abbrev pub invariant-loop-at : goal.invariant-loop-at
invariant-loop-at l = map (λ mention. mention_view mention) l.mentions.items
    ≡ map (λ uid. (None, uid)) (known_in l.gathered l.given)
    ++ map (λ uid. (Some uid.0, uid.1)) (enumerate_from 0 (take l.at l.given))
