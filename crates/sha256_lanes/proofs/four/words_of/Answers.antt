use Rattle.sha256_lanes.proofs.Each.{below_four}
use Rattle.sha256_lanes.proofs.four.words_of.Goals as goal

pub returns : goal.returns
returns c = below_four _ c.word_of-w0.ensures c.word_of-w1.ensures c.word_of-w2.ensures c.word_of-w3.ensures
