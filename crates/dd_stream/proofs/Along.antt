-- How what is read from a feed goes together: nothing, one stretch, and another after it.
use Rattle.std.proofs.Common.{◌≤◌, ℕ, List, [], ◌++◌, length, arith, append_assoc}
use Rattle.std.proofs.lemmas.List.{length-append}
use Rattle.dd_stream.specs.Feeds.{Scans}

module _ {F : Type 0} (moves : F → F → List ℕ → Type 0) (tells : F → List ℕ → Type 0) where
  -- nothing was taken
  pub scans_none : (feed : F) (answers : List ℕ → List ℕ → Type 0) → moves feed feed []
      → ((rest : List ℕ) → tells feed rest → answers rest rest) → Scans moves tells feed feed answers
  scans_none feed answers stays gives = record { taken = []; moved = stays; gives = gives }

  -- what holds tells more
  pub scans_same : (old new : F) (answers more : List ℕ → List ℕ → Type 0) → Scans moves tells old new answers
      → ((bytes rest : List ℕ) → tells new rest → length rest ≤ length bytes → answers bytes rest → more bytes rest)
      → Scans moves tells old new more
  scans_same old new answers more s tell = record {
    taken = s.taken;
    moved = s.moved;
    gives = λ rest t. tell (s.taken ++ rest) rest t (omega (arith, length-append s.taken rest)) (s.gives rest t);
  }

  -- one stretch, and another after it
  pub scans_then : ((a b c : F) (xs ys : List ℕ) → moves a b xs → moves b c ys → moves a c (xs ++ ys))
      → ((a b : F) (xs ys : List ℕ) → moves a b xs → tells b ys → tells a (xs ++ ys))
      → (a b c : F) (first second whole : List ℕ → List ℕ → Type 0) → Scans moves tells a b first
      → Scans moves tells b c second
      → ((bytes mid rest : List ℕ) → length rest ≤ length mid → length mid ≤ length bytes → first bytes mid
      → second mid rest → whole bytes rest)
      → Scans moves tells a c whole
  scans_then goes tells_before a b c first second whole s t tell = record {
    taken = s.taken ++ t.taken;
    moved = goes a b c s.taken t.taken s.moved t.moved;
    gives = λ rest k.
        let mid : List ℕ = t.taken ++ rest in
        rw append_assoc (tell (s.taken ++ mid) mid rest (omega (arith, length-append t.taken rest))
        (omega (arith, length-append s.taken mid))
        (s.gives mid (tells_before b c t.taken rest t.moved k)) (t.gives rest k));
  }
