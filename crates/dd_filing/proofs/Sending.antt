-- A tee sends what passes piece by piece.
use Rattle.std.proofs.Common.{◌≡◌, ℕ, List, ◌++◌, Option, None, ◌⊎◌, inl, inr, subst}
use Rattle.dd_elem.specs.Device.{either_fact}
use Rattle.dd_elem.specs.declared.counts.Counts.{Counts}
use Rattle.dd_stream.specs.Sends.{Goes, Stops, StopsBy}
use Rattle.dd_stream.specs.declared.write_fault.WriteFault.{WriteFault}
use Rattle.dd_stream.specs.declared.write_fault.WriteFault.TheVariants.{Write, NotWritable}
use Rattle.dd_filing.specs.Sent.{IsSent}

-- where no write failed, all that passed was written
pub sent_whole : {R : Type 0} (late : Option ℕ) (given : List ℕ) (old new : Option (List ℕ) × R) (f g : Counts)
    → late ≡ None → IsSent late given old new f g → Goes given old new f g
sent_whole late given old new f g unfailed h = subst (λ (l : Option ℕ). IsSent l given old new f g) unfailed h

-- where each of two facts about the bytes before holds with these bytes too, so does the one that is known
pub passed_more : {S P : Type 0} (went new_went : S → List ℕ → Type 0) (given new_given : P → List ℕ → Type 0)
    (past : S ⊎ P) (before more : List ℕ)
    → ((start : S) → went start before → new_went start (before ++ more))
    → ((p : P) → given p before → new_given p (before ++ more))
    → either_fact went given past before → either_fact new_went new_given past (before ++ more)
passed_more went new_went given new_given (inl start) before more sends gives h = sends start h
passed_more went new_went given new_given (inr p) before more sends gives h = gives p h

-- where the writer failed, a first part of the bytes went
pub went_in_part : {R : Type 0} (text : List ℕ) (fault : WriteFault) (old new : Option (List ℕ) × R)
    (before after : Counts) → StopsBy text 0 fault old new before after
    → (taken : ℕ) × Stops text 0 taken old new before after
went_in_part text (Write k) old new before after h = (k, h)
went_in_part text NotWritable old new before after h = absurd h
