-- A list of sources that can be listed is a list of sources, one after the other.
use Rattle.std.proofs.Common.{◌≡◌, ℕ, ◌+◌, ◌<◌, ◌≤◌, List, ◌∷◌, length, map, drop, get_or, sym, ap, ◌∙◌, subst}
use Rattle.std.specs.List.{AllByRecursion}
use Rattle.std.proofs.lemmas.List.{at_drop_more, at_drop_all}
use Rattle.dd_staged.specs.declared.staged.Staged.{Staged}
use Rattle.dd_staged.specs.Sources.{IsListed, IsSource, source_view}

abbrev pub IsSound : List Staged → Type 0
IsSound list = AllByRecursion IsListed (map source_view list) → AllByRecursion IsSource (map source_view list)

-- the whole is where the rest is
abbrev pub IsSoundFrom : ℕ → List Staged → Type 0
IsSoundFrom i list = IsSound (drop i list) → IsSound list

rest_at : (list : List Staged) (i : ℕ) (staged : Staged) → i < length list → staged ≡ get_or list i staged
    → drop i list ≡ staged ∷ drop (i + 1) list
rest_at list i staged within is =
    at_drop_more (λ (l : List Staged). l) list i staged within
    ∙ ap (λ (s : Staged). s ∷ drop (i + 1) list) (sym is)

pub sound_more : (list : List Staged) (i : ℕ) (staged : Staged) → i < length list → staged ≡ get_or list i staged
    → (IsListed (source_view staged) → IsSource (source_view staged)) → IsSoundFrom i list → IsSoundFrom (i + 1) list
sound_more list i staged within is one so_far rest =
    so_far (subst IsSound (sym (rest_at list i staged within is)) (λ read. (one read.0, rest read.1)))

pub sound_all : (list : List Staged) (i : ℕ) → length list ≤ i → IsSoundFrom i list → IsSound list
sound_all list i past so_far =
    so_far (subst IsSound (sym (at_drop_all (λ (l : List Staged). l) list i past)) (λ read. tt))
