use Rattle.std.proofs.Common.{rules, ◌≡◌, ap, arith, sym, ◌∙◌, slice_index, List, ℕ}
use Rattle.std.proofs.lemmas.List.{take_all}
use Rattle.std.proofs.lemmas.Slice.{overwrites}
use Rattle.std.specs.Int.{w32, to_be_bytes}
use Rattle.sha2.specs.Sha256.{digest_bytes}
use Rattle.sha2.proofs.Absorbing256.{digest_more}
use Rattle.sha256_lanes.specs.Lanes.{lane}
use Rattle.sha256_lanes.proofs.Runs.{lane_word}
use Rattle.sha256_lanes.proofs.digest.end_lane.Goals as goal

pub words-init : goal.words-init
unfolding digest_bytes
words-init g c = search rules

pub words-preserved : goal.words-preserved
words-preserved g c =
    let h = lane c.args.j c.args.hash.now in
    let word = ap (λ (v : List ℕ). slice_index v c.args.j) c.as_array.ensures
    ∙ sym (lane_word c.args.j c.args.hash.now c.words.k (omega arith)) in (
      search (rules, overwrites),
      digest_more c.words.digest h _ c.words.k _ c.words.invariant.1 (omega arith)
          (c.copy_from_slice.ensures.after ∙ c.to_be_bytes.ensures ∙ ap (to_be_bytes w32) word),
    )

pub returns-after-words-clause-last : goal.returns-after-words-clause-last
returns-after-words-clause-last g c = λ _.
    let done : c.words.k ≡ 8 = omega arith in
    sym (take_all 32 c.words.digest (omega arith)) ∙ rw done at c.words.invariant.1
