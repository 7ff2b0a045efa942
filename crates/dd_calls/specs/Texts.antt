-- Texts that stand one after the other in one text, with where each of them ends.
use Rattle.std.specs.Prelude.{◌≡◌, ℕ, ◌+◌, List, [], ◌∷◌, ◌++◌, length}
use Rattle.std.specs.List.{concat}
use Rattle.dd_calls.specs.declared.texts.Texts.{Texts}

-- where each of these texts ends, the first of which begins at this place
abbrev pub ends_from : ℕ → List (List ℕ) → List ℕ
ends_from at [] = []
ends_from at (text ∷ texts) = (at + length text) ∷ ends_from (at + length text) texts

-- these texts, and no others
pub record AreTexts (texts : List (List ℕ)) (joined : Texts) : Type 0 where
  pub text : joined.text.items ≡ concat texts
  pub ends : joined.ends.items ≡ ends_from 0 texts

-- these texts were put after the earlier ones
pub record Puts (texts : List (List ℕ)) (old new : Texts) : Type 0 where
  pub text : new.text.items ≡ old.text.items ++ concat texts
  pub ends : new.ends.items ≡ old.ends.items ++ ends_from (length old.text.items) texts
