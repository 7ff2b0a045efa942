-- The values of an argument.
use Rattle.std.proofs.Common.{◌≡◌, ◌≤◌, ◌∙◌, ℕ, List, [], Option, Some, None, codes, refl, map, subst, sym}
use Rattle.std.proofs.lemmas.Option.{same_Some}
use Rattle.std.specs.Option.{option_map, unwrap_or}
use Rattle.std.specs.Borrow.{Bor}
use Rattle.clap.specs.Words.{Row, Text, first_of}
use Rattle.dd_line.specs.Line.{IsLimit}
use Rattle.dd_line.specs.Requests.{GivesNoLimit}
use Rattle.dd_line.specs.Sizes.{IsSize}

-- the values that the matches hold, or none
pub values_or_none : (r : Option (Bor (List (Bor Text)))) (none v : Bor (List (Bor Text))) (o : Option (List Text))
    → v ≡ unwrap_or r none → none.now ≡ [] → option_map (λ s. map (λ x. x.now) s.now) r ≡ o
    → map (λ x. x.now) v.now ≡ unwrap_or o []
values_or_none None none v o is empty e = rw (is, empty, ← e) refl
values_or_none (Some r) none v o is empty e = rw (is, ← e) refl

-- ---- the limit

-- the option has no value, or one that spells a number
pub no_limit : (given : List Row) → None ≡ first_of (codes "max-bytes") given
    → IsLimit (first_of (codes "max-bytes") given) 4294967295 × (GivesNoLimit given → ⊥)
no_limit given none = (rw (sym none) refl, λ wrong. let is = wrong.1 in cc)

pub some_limit : (given : List Row) (text : Text) (bytes : ℕ) → Some text ≡ first_of (codes "max-bytes") given
    → IsSize text bytes → bytes ≤ 4294967295
    → IsLimit (first_of (codes "max-bytes") given) bytes × (GivesNoLimit given → ⊥)
some_limit given text bytes first is few = (
  rw (sym first) is,
  λ wrong. wrong.2 bytes few (subst (λ (t : Text). IsSize t bytes)
      (same_Some text wrong.0 (first ∙ wrong.1)) is),
)
