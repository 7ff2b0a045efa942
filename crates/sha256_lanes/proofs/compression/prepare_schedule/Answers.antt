use Rattle.std.proofs.Common.{rules, ◌≡◌, ◌-◌, inl, inr, ap, sym, ◌∙◌, arith, slice_index, [], List, ℕ}
use Rattle.std.proofs.lemmas.List.{get_or-set_same, get_or-set_other}
use Rattle.std.proofs.lemmas.Bool.{cases_lt}
use Rattle.sha2.proofs.Schedule256.{slice_index-schedule_first, slice_index-schedule_next}
use Rattle.sha256_lanes.proofs.compression.prepare_schedule.Goals as goal

pub next-init : goal.next-init
next-init g c = (
  search rules,
  λ j b low loaded k lt. loaded k lt ∙ sym (slice_index-schedule_first b 48 k lt),
)

pub next-preserved : goal.next-preserved
next-preserved g c = (
  search rules,
  λ j b low loaded k lt. elim (cases_lt k c.next.t) [
    | inl a ↦
        ap (λ (v : List ℕ). slice_index v j)
        (get_or-set_other c.next.w c.next.t k c.add-word-in-next-2.result [] (omega arith))
        ∙ c.next.invariant.1 j b low loaded k a
    | inr same ↦
        let t = c.next.t in
        let e : t ≡ k = omega arith in
        let before = c.next.invariant.1 j b low loaded in
        rw (← e) (ap (λ (v : List ℕ). slice_index v j)
        (get_or-set_same c.next.w t c.add-word-in-next-2.result [] (omega arith))
        ∙ rw (
          c.add-word-in-next-2.ensures j low,
          c.add-word-in-next.ensures j low,
          c.add-word.ensures j low,
          c.small_sigma1-s1.ensures j low,
          c.small_sigma0-s0.ensures j low,
          before (t - 2) (omega arith),
          before (t - 7) (omega arith),
          before (t - 15) (omega arith),
          before (t - 16) (omega arith),
        ) (sym (slice_index-schedule_next b 48 t (omega arith) (omega arith))))
  ],
)

pub returns : goal.returns
returns g c = λ j b low loaded t lt. c.next.invariant.1 j b low loaded t (omega arith)
