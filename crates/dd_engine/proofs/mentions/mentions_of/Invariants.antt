use Rattle.std.proofs.Common.{◌≡◌, map}
use Rattle.dd_engine.specs.Mentions.{mention_view}
use Rattle.dd_engine.proofs.mentions.mentions_of.Given as goal

-- a mention of each UID so far
abbrev pub invariant-loop-number : goal.invariant-loop-number
invariant-loop-number l =
    map (λ mention. mention_view mention) l.mentions.items ≡ map (λ p. (p.0.now, p.1.now)) l.yielded
