-- Fragments of a feed, one after the other.
use Rattle.std.proofs.Common.{◌≡◌, ◌<◌, ℕ, suc, ◌-◌, List, [], ◌∷◌, ◌++◌, length, Option, Some, None, Ok, Err, refl}
use Rattle.std.proofs.Common.{arith}
use Rattle.dd_grammar.specs.declared.fault.SetFault.{SetFault}
use Rattle.dd_encoding.specs.declared.syntax.Length.TheVariants.{Undefined}
use Rattle.dd_grammar.specs.AnswersAs.{FailsAs}
use Rattle.dd_grammar.specs.Faults.{is_memory}
use Rattle.dd_grammar.specs.Reading.{At, take_at, item_front_at, fragment_length, fragment_after, fragment_at}
use Rattle.dd_grammar.specs.Reading.{fragments_at, fragments_here}
use Rattle.dd_grammar.proofs.Failing.{bind_fails}
use Rattle.dd_grammar.proofs.FragmentLaws.{with_fragments, with_no_fragments, fragments_more, fragments_done}
use Rattle.dd_grammar.proofs.FragmentLaws.{fragments_fail}
use Rattle.dd_grammar.proofs.Loops.{fails_along}
use Rattle.dd_scan.proofs.Shorter.{fragment_shortens}

-- ---- one fragment

module _ (at : At) where
  pub fragment_none : (end : At) → item_front_at Undefined at ≡ Ok (None, end) → fragment_at at ≡ Ok (None, end)
  unfolding fragment_at
  fragment_none end h = rw h refl

  pub fragment_found : (n k : ℕ) (mid end : At) (f : List ℕ) → item_front_at Undefined at ≡ Ok (Some n, mid)
      → fragment_length n ≡ Ok k → take_at k mid ≡ Ok (f, end) → fragment_at at ≡ Ok (Some f, end)
  unfolding fragment_at
  fragment_found n k mid end f h l t = rw (h, l, t) refl

  front_fails : (e : SetFault) → item_front_at Undefined at ≡ Err e → fragment_at at ≡ Err e
  unfolding fragment_at
  front_fails e h = bind_fails _ fragment_after e h

  pub front_stops : (e : SetFault) → FailsAs is_memory e (item_front_at Undefined at)
      → FailsAs is_memory e (fragment_at at)
  front_stops e h = fails_along e _ _ h front_fails

  pub length_fails : (n : ℕ) (mid : At) (e : SetFault) → item_front_at Undefined at ≡ Ok (Some n, mid)
      → fragment_length n ≡ Err e → fragment_at at ≡ Err e
  unfolding fragment_at
  length_fails n mid e h l = rw (h, l) refl

  take_fails : (n k : ℕ) (mid : At) (e : SetFault) → item_front_at Undefined at ≡ Ok (Some n, mid)
      → fragment_length n ≡ Ok k → take_at k mid ≡ Err e → fragment_at at ≡ Err e
  unfolding fragment_at
  take_fails n k mid e h l t = rw (h, l, t) refl

  pub take_stops : (n k : ℕ) (mid : At) (e : SetFault) → item_front_at Undefined at ≡ Ok (Some n, mid)
      → fragment_length n ≡ Ok k → FailsAs is_memory e (take_at k mid) → FailsAs is_memory e (fragment_at at)
  take_stops n k mid e h l t = fails_along e _ _ t (λ f u. take_fails n k mid f h l u)

-- a fragment was read
pub record FragmentStep (left : Option ℕ) (bytes : List ℕ) (now : Option ℕ) (rest : List ℕ) : Type 0 where
  pub piece : List ℕ
  pub read : fragment_at (record { left = left; bytes = bytes }) ≡ Ok (Some piece, record { left = now; bytes = rest })
  pub shorter : length rest < length bytes

pub fragment_steps : (left : Option ℕ) (bytes : List ℕ) (now : Option ℕ) (rest : List ℕ) (f : List ℕ)
    → fragment_at (record { left = left; bytes = bytes }) ≡ Ok (Some f, record { left = now; bytes = rest })
    → FragmentStep left bytes now rest
fragment_steps left bytes now rest f h = record {
  piece = f;
  read = h;
  shorter = (fragment_shortens (record { left = left; bytes = bytes })).left f _ h;
}

-- ---- several

pub record FragmentsGo (first : Option ℕ) (bytes : List ℕ) (left : Option ℕ) (rest : List ℕ) : Type 0 where
  pub most : ℕ
  pub front : List (List ℕ)
  pub enough : length rest < most
  pub so_far : with_fragments front (fragments_at most (record { left = left; bytes = rest })) ≡ fragments_here
      (record { left = first; bytes = bytes })

module _ (first : Option ℕ) where
  pub fragments_start : (bytes : List ℕ) → FragmentsGo first bytes first bytes
  fragments_start bytes = record {
    most = suc (length bytes);
    front = [];
    enough = omega arith;
    so_far = with_no_fragments _;
  }

  module _ (bytes : List ℕ) (left : Option ℕ) (mid : List ℕ) where
    pub fragments_go : (now : Option ℕ) (rest : List ℕ) → FragmentsGo first bytes left mid
        → FragmentStep left mid now rest → FragmentsGo first bytes now rest
    fragments_go now rest go step = record {
      most = go.most - 1;
      front = go.front ++ step.piece ∷ [];
      enough = omega (arith, step.shorter, go.enough);
      so_far = fragments_more (length mid) go.most go.front (record { left = left; bytes = mid })
          (record { left = now; bytes = rest }) step.piece _ go.enough step.read go.so_far;
    }

    pub fragments_end : (end : At) → (go : FragmentsGo first bytes left mid)
        → fragment_at (record { left = left; bytes = mid }) ≡ Ok (None, end)
        → fragments_here (record { left = first; bytes = bytes }) ≡ Ok (go.front, end)
    fragments_end end go h = fragments_done (length mid) go.most go.front (record { left = left; bytes = mid }) end _
        go.enough h go.so_far

    pub fragments_stop : (e : SetFault) → FragmentsGo first bytes left mid
        → FailsAs is_memory e (fragment_at (record { left = left; bytes = mid }))
        → FailsAs is_memory e (fragments_here (record { left = first; bytes = bytes }))
    fragments_stop e go h = fragments_fail (length mid) go.most go.front (record { left = left; bytes = mid }) _ e
        go.enough h go.so_far
