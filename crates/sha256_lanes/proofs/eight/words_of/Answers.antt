use Rattle.sha256_lanes.proofs.Each.{below_eight}
use Rattle.sha256_lanes.proofs.eight.words_of.Goals as goal

pub returns : goal.returns
returns c = below_eight _ c.word_of-w0.ensures c.word_of-w1.ensures c.word_of-w2.ensures c.word_of-w3.ensures
    c.word_of-w4.ensures c.word_of-w5.ensures c.word_of-w6.ensures c.word_of-w7.ensures
