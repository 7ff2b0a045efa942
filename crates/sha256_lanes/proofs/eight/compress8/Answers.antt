use Rattle.std.proofs.Common.{rules, ◌≡◌, inl, inr, ap, ◌∙◌, arith, slice_index, [], List, ℕ}
use Rattle.std.proofs.lemmas.List.{get_or-set_same, get_or-set_other}
use Rattle.std.proofs.lemmas.Bool.{cases_lt}
use Rattle.sha256_lanes.specs.Lanes.{of_eight}
use Rattle.sha256_lanes.proofs.eight.compress8.Goals as goal

pub load-preserved : goal.load-preserved
load-preserved c = (
  search rules,
  λ k j lt low. elim (cases_lt k c.load.t) [
    | inl a ↦
        ap (λ (v : List ℕ). slice_index v j)
        (get_or-set_other c.load.w c.load.t k c.words_of-word.result [] (omega arith))
        ∙ c.load.invariant.1 k j a low
    | inr b ↦
        let e : c.load.t ≡ k = omega arith in
        rw (← e) (ap (λ (v : List ℕ). slice_index v j)
        (get_or-set_same c.load.w c.load.t c.words_of-word.result [] (omega arith))
        ∙ c.words_of-word.ensures j low)
  ],
)

pub returns : goal.returns
returns c = λ j low.
    c.compress.ensures j (of_eight c.args.front.0.now c.args.front.1.now c.args.front.2.now c.args.front.3.now
    c.args.back.0.now c.args.back.1.now c.args.back.2.now c.args.back.3.now j) low
    (λ t lt. c.load.invariant.1 t j (omega arith) low)
