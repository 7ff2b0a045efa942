-- The names of a recorded name, given to a caller.
use Rattle.std.specs.Prelude.{◌≡◌, ℕ, ◌<◌, ◌≤◌, ◌⊎◌, List, length}
use Rattle.std.specs.List.{concat}
use Rattle.dd_spelling.specs.Spellings.{shown}
use Rattle.dd_calls.specs.declared.answer.Answer.{Answer}
use Rattle.dd_calls.specs.Sizes.{over, sized}
use Rattle.dd_calls.specs.Texts.{ends_from}

-- all eight were given
pub record AreGivenNames (name old_ends old_text ends text : List ℕ) (answer : Answer) : Type 0 where
  pub fit_ends : 8 ≤ length old_ends
  pub fit_text : length (concat (shown name)) ≤ length old_text
  pub ends_are : ends ≡ over (ends_from 0 (shown name)) old_ends
  pub text_is : text ≡ over (concat (shown name)) old_text
  pub size : answer ≡ sized (length (concat (shown name))) 8 0

-- they are longer than one of the rooms
pub record AreLongerNames (name : List ℕ) (room_ends room_text : ℕ) (answer : Answer) : Type 0 where
  pub longer : (room_ends < 8) ⊎ (room_text < length (concat (shown name)))
  pub size : answer ≡ sized (length (concat (shown name))) 8 0
