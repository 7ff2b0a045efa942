-- Readers that are lent and taken back, and how often they read.
use Rattle.std.proofs.Common.{◌≡◌, ◌<◌, ◌≤◌, ◌+◌, ◌-◌, ℕ, List, Option, sym, subst, inl, inr, ◌∙◌, arith}
use Rattle.std.proofs.lemmas.Bool.{cases_eq}
use Rattle.dd_sources.specs.Supply.{AllStay, EachGrows, HasGivenAll, IsUsed, OthersStay, added}

-- ---- a reader of one source, which was lent, is taken back

pub used : (at sources rest limit fresh calls : ℕ) (lent out back old mid new : ℕ → ℕ) → at < sources
    → rest ≡ sources → out at ≡ lent at + 1 → OthersStay at lent out → (at < rest → back at ≡ out at - 1)
    → OthersStay at out back → AllStay old mid → (at < rest → new at ≡ added (mid at) calls) → OthersStay at mid new
    → fresh ≡ 0 → calls ≤ fresh + limit + 1 → IsUsed at (limit + 1) lent back old new
used at sources rest limit fresh calls lent out back old mid new there many one same ended others unread read rests
    none few =
    let in_rest : at < rest = omega (arith, there, many) in
    let here : back at ≡ lent at = omega (arith, one, ended in_rest) in
    let is : new at ≡ added (mid at) calls = read in_rest in
    let before : mid at ≡ old at = unread.stays at in
    record {
      ended = record {
        stays = λ other. elim (cases_eq other at) [
          | inl is ↦ subst (λ (n : ℕ). back n ≡ lent n) (sym is) here
          | inr apart ↦ others.stays other apart ∙ same.stays other apart
        ];
      };
      few = omega (arith, is, before, none, few);
      others = record { stays = λ other apart. rests.stays other apart ∙ unread.stays other };
    }

-- ---- source by source

-- the sources from this one on are as they were
pub record StayFrom (at : ℕ) (old new : ℕ → ℕ) : Type 0 where
  pub stays : (later : ℕ) → at ≤ later → new later ≡ old later

pub more_reads : (at most : ℕ) (old mid new : ℕ → ℕ) → EachGrows most old mid → StayFrom at old mid
    → new at ≤ mid at + most → OthersStay at mid new → EachGrows most old new
more_reads at most old mid new grows later here others =
    let before : mid at ≡ old at = later.stays at (omega arith) in
    let now : new at ≤ old at + most = omega (arith, before, here) in
    record {
      grows = λ other. elim (cases_eq other at) [
        | inl is ↦ subst (λ (one : ℕ). new one ≤ old one + most) (sym is) now
        | inr apart ↦ (let same = others.stays other apart in let so_far = grows.grows other in
            omega (arith, same, so_far))
      ];
    }

pub still_later : (at : ℕ) (old mid new : ℕ → ℕ) → StayFrom at old mid → OthersStay at mid new
    → StayFrom (at + 1) old new
still_later at old mid new later others = record {
  stays = λ other above.
      others.stays other (λ is. absurd (omega (arith, is, above))) ∙ later.stays other (omega (arith, above));
}

-- the sources so far were read whole, and now the next one was, too
pub given_more : (limit at : ℕ) (contents now : ℕ → Option (List ℕ)) (mid new : ℕ → Option ℕ)
    → ((before : ℕ) → before < at → HasGivenAll limit (contents before) (mid before)) → OthersStay at mid new
    → now ≡ contents → HasGivenAll limit (now at) (new at)
    → (before : ℕ) → before < at + 1 → HasGivenAll limit (contents before) (new before)
given_more limit at contents now mid new h others same last before below = elim (cases_eq before at) [
  | inl is ↦ subst (λ (n : ℕ). HasGivenAll limit (contents n) (new n)) (sym is)
      (subst (λ (all : ℕ → Option (List ℕ)). HasGivenAll limit (all at) (new at)) same last)
  | inr apart ↦ subst (λ (count : Option ℕ). HasGivenAll limit (contents before) count)
      (sym (others.stays before apart)) (h before (omega (arith, below, apart)))
]

pub others_later : {A : Type 0} (at : ℕ) (old mid new : ℕ → A) → AllStay old mid → OthersStay at mid new
    → OthersStay at old new
others_later at old mid new all others =
    record { stays = λ other apart. others.stays other apart ∙ all.stays other }
