-- The values of a directory beside its records (PS3.3 sections F.3.2.1 and C.12.1).
use Rattle.std.specs.Prelude.{◌≡◌, ℕ, ◌<◌, ◌≤◌, ◌⊎◌, List, [], ◌∷◌, length, unwrap_or}
use Rattle.dd_walk.specs.Reading.{IsWalk}
use Rattle.dd_walk.specs.Trees.{Walk}
use Rattle.dd_calls.specs.declared.answer.Answer.{Answer}
use Rattle.dd_calls.specs.declared.texts.Texts.{Texts}
use Rattle.dd_calls.specs.Sizes.{over, sized}
use Rattle.dd_calls.specs.Texts.{AreTexts}

-- its File-set ID, its UID, and the value that names the SOP Instance UIDs that it withdraws
abbrev pub values_beside : Walk → List (List ℕ)
values_beside walk = walk.beside.id ∷ walk.beside.uid ∷ unwrap_or walk.beside.withdrawn [] ∷ []

-- the directory in the bytes has these values beside its records, and this number of items that no offset reaches
pub record SaysBeside (bytes : List ℕ) (values : Texts) (unreached : ℕ) : Type 0 where
  pub walk : Walk
  pub is_walk : IsWalk bytes walk
  pub values_are : AreTexts (values_beside walk) values
  pub count : unreached ≡ walk.unreached

-- it was given whole
pub record IsGivenBeside (bytes old_ends old_text ends text : List ℕ) (unreached : ℕ) (answer : Answer) : Type 0 where
  pub values : Texts
  pub says : SaysBeside bytes values unreached
  pub fit_ends : length values.ends.items ≤ length old_ends
  pub fit_text : length values.text.items ≤ length old_text
  pub ends_are : ends ≡ over values.ends.items old_ends
  pub text_is : text ≡ over values.text.items old_text
  pub size : answer ≡ sized (length values.text.items) (length values.ends.items) 0

-- one of its two parts is longer than its room
pub record IsWiderBeside (bytes : List ℕ) (room_ends room_text : ℕ) (answer : Answer) : Type 0 where
  pub values : Texts
  pub unreached : ℕ
  pub says : SaysBeside bytes values unreached
  pub longer : (room_ends < length values.ends.items) ⊎ (room_text < length values.text.items)
  pub size : answer ≡ sized (length values.text.items) (length values.ends.items) 0
