-- What is taken in a part of a history is taken in the history.
use Rattle.std.specs.Prelude.{◌≡◌, ◌≢◌, ◌<◌, ℕ, List, [], ◌∷◌, ◌++◌, Result, Ok, Err, OnErr, get_or, length, map}
use Rattle.std.proofs.Common.{refl, sym, ◌∙◌, ap, inl, inr}
use Rattle.dd_catalogue.specs.CatalogueJoin.{same_contents}
use Rattle.dd_catalogue.specs.Contents.{Contents, nothing}
use Rattle.dd_catalogue.specs.Histories.{all_together, taken, together}
use Rattle.dd_catalogue.specs.declared.history.History.{History}
use Rattle.dd_catalogue.proofs.Gathering.{item_there}
use Rattle.dd_catalogue.proofs.Harmonies.{member-map}
use Rattle.dd_catalogue.proofs.Members.{Member, member_of}

front_none : {V : Type 0} (s t : List V) → s ++ t ≡ [] → s ≡ []
front_none [] t e = refl
front_none (v ∷ s) t e = cc

back_none : {V : Type 0} (s t : List V) → s ++ t ≡ [] → t ≡ []
back_none [] t e = e
back_none (v ∷ s) t e = cc

-- where the lists have no member together, none of them has one
none_of : {V : Type 0} (sets : List (List V)) (s : List V) → Member s sets → together sets ≡ [] → s ≡ []
none_of [] s i none = absurd i
none_of (t ∷ sets) s (inl e) none = sym e ∙ front_none t (together sets) none
none_of (t ∷ sets) s (inr i) none = none_of sets s i (back_none t (together sets) none)

some_together : (parts : List Contents) (c : Contents) → Member c parts → c ≢ nothing → all_together parts ≢ nothing
some_together parts c i some none = some (same_contents c nothing
    (none_of (map (λ d. d.versions) parts) c.versions (member-map (λ d. d.versions) c parts i)
    (ap (λ d. d.versions) none))
    (none_of (map (λ d. d.withdrawn) parts) c.withdrawn (member-map (λ d. d.withdrawn) c parts i)
    (ap (λ d. d.withdrawn) none)))

-- the part of a turn
pub taken_in_part : (parts : List History) (i : ℕ) (part : History) → i < length parts → part ≡ get_or parts i part
    → taken part ≢ nothing → all_together (map taken parts) ≢ nothing
taken_in_part parts i part below read some =
    some_together (map taken parts) (taken part)
    (member-map taken part parts (member_of part parts (item_there parts i part below read))) some

-- what holds whatever the error
pub on_error : {T E : Type 0} (r : Result T E) (P : Type 0) → P → OnErr r P
on_error (Ok done) P h = tt
on_error (Err error) P h = h
