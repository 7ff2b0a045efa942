use Rattle.std.proofs.Common.{List, ℕ, ap, ◌∙◌}
use Rattle.std.specs.Int.{from_be_bytes, w128}
use Rattle.dd_elem.specs.Digests.{uuid_of}
use Rattle.dd_elem.proofs.uid.uuid_of.Goals as goal

pub returns : goal.returns
unfolding uuid_of
returns c = c.from_be_bytes.ensures ∙ ap (λ (octets : List ℕ). from_be_bytes w128 octets) c.uuid_octets.ensures
