-- The path of a directory, by what stands before its name.
use Rattle.std.proofs.Common.{◌≡◌, ◌≢◌, ℕ, List, [], ◌++◌, ◌↔◌, ◌⊎◌, ◌∙◌, sym, ap, codes, inl, inr, append_assoc}
use Rattle.std.proofs.Common.{Bool, true, IsTrue, ⊎_elim}
use Rattle.std.proofs.lemmas.List.{append_cancel_right}
use Rattle.dicomdir_host.specs.Directory.{IsDirectoryPath}

-- that is nothing, or a folder and `/`
pub directory_named : (path front : List ℕ) → path ≡ front ++ codes "DICOMDIR"
    → ((front ≡ []) ⊎ ((folder : List ℕ) × (front ≡ folder ++ codes "/"))) ↔ IsDirectoryPath path
directory_named path front is = (to, from) where
  to : (front ≡ []) ⊎ ((folder : List ℕ) × (front ≡ folder ++ codes "/")) → IsDirectoryPath path
  to (inl none) = inl (is ∙ ap (λ f. f ++ codes "DICOMDIR") none)
  to (inr inside) = inr (
    inside.0,
    is ∙ ap (λ f. f ++ codes "DICOMDIR") inside.1
        ∙ append_assoc inside.0 (codes "/") (codes "DICOMDIR"),
  )

  from : IsDirectoryPath path → (front ≡ []) ⊎ ((folder : List ℕ) × (front ≡ folder ++ codes "/"))
  from (inl bare) = inl (append_cancel_right front [] (codes "DICOMDIR") (sym is ∙ bare))
  from (inr inside) = inr (
    inside.0,
    append_cancel_right front (inside.0 ++ codes "/") (codes "DICOMDIR")
        (sym is ∙ inside.1 ∙ sym (append_assoc inside.0 (codes "/") (codes "DICOMDIR"))),
  )

-- where the front is not empty, it ends in `/`
pub ends_named : (path front before : List ℕ) (ends : Bool) → path ≡ front ++ codes "DICOMDIR" → front ≢ []
    → (ends ≡ true → front ≡ before ++ codes "/")
    → ((folder : List ℕ) → front ≡ folder ++ codes "/" → ends ≡ true) → IsTrue ends ↔ IsDirectoryPath path
ends_named path front before ends is full one other = (
  λ yes. (directory_named path front is).0 (inr (before, one yes)),
  λ named. ⊎_elim (λ none. absurd (full none)) (λ inside. other inside.0 inside.1)
      ((directory_named path front is).1 named),
)

-- a path without that name is no path of a directory
pub unnamed : (path : List ℕ) → ((front : List ℕ) → path ≢ front ++ codes "DICOMDIR") → ¬ IsDirectoryPath path
unnamed path other (inl bare) = other [] bare
unnamed path other (inr inside) = other (inside.0 ++ codes "/")
    (inside.1 ∙ sym (append_assoc inside.0 (codes "/") (codes "DICOMDIR")))
