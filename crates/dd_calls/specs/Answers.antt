-- What a call answers, by what its bytes say.
use Rattle.std.specs.Prelude.{◌≡◌, ℕ, ◌<◌, ◌≤◌, ◌⊎◌, List, length}
use Rattle.dd_walk.specs.declared.fault.DirFault.{DirFault}
use Rattle.dd_walk.specs.ReadAnswers.{SaysMemory}
use Rattle.dd_walk.specs.Reading.{IsWalk, Refuses}
use Rattle.dd_walk.specs.Trees.{Walk}
use Rattle.dd_report.specs.Listing.{listing_text}
use Rattle.dd_calls.specs.declared.answer.Answer.{Answer}
use Rattle.dd_calls.specs.Faults.{fault_of, refusal_of}
use Rattle.dd_calls.specs.Sizes.{over, sized}

-- the text is the list of the walk of the bytes
pub record IsListing (bytes text : List ℕ) : Type 0 where
  pub walk : Walk
  pub is_walk : IsWalk bytes walk
  pub lists : text ≡ listing_text walk

-- the bytes have a walk, and its list was given whole
pub record IsListed (bytes old new : List ℕ) (answer : Answer) : Type 0 where
  pub text : List ℕ
  pub is_listing : IsListing bytes text
  pub fits : length text ≤ length old
  pub given : new ≡ over text old
  pub size : answer ≡ sized (length text) 0 0

-- the bytes have a walk, and its list is longer than the room
pub record IsLonger (bytes : List ℕ) (room : ℕ) (answer : Answer) : Type 0 where
  pub text : List ℕ
  pub is_listing : IsListing bytes text
  pub longer : room < length text
  pub size : answer ≡ sized (length text) 0 0

-- an allocation was refused, or the bytes have no walk for this reason
pub record IsRefused (bytes : List ℕ) (status : ℕ) (answer : Answer) : Type 0 where
  pub fault : DirFault
  pub why : SaysMemory fault ⊎ Refuses bytes fault
  pub status_is : status ≡ fault_of fault
  pub answers : answer ≡ refusal_of fault 0
