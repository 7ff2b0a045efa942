-- What a function that reads at a cursor returned, against reading in memory.
use Rattle.std.specs.Prelude.{◌≡◌, Option, Some, None, Bool, true, false, Result, Ok, Err}
use Rattle.dd_stream.specs.Feeds.{Scans}
use Rattle.dd_stream.specs.declared.feed.Feed.{Ghosts as FeedOf}
use Rattle.dd_grammar.specs.declared.fault.SetFault.{SetFault}
use Rattle.dd_grammar.specs.declared.fault.SetFault.TheVariants.{Memory}
use Rattle.dd_grammar.specs.AnswersAs.{FailsAs}
use Rattle.dd_grammar.specs.Faults.{is_memory}
use Rattle.dd_grammar.specs.Reading.{At, Reads}
use Rattle.dd_scan.specs.declared.cursor.Cursor.{Cursor}

-- From one state of a cursor to another its feed gave some bytes. Whatever may still come after them, what was answered
-- is right: `answers start end` says so of where the cursor stood and where it stands.
abbrev pub Advances : {F : Type 0} → FeedOf F → Cursor F → Cursor F → (At → At → Type 0) → Type 0
Advances feed old new answers = Scans feed.moves feed.tells old.feed.now new.feed.now
    (λ bytes rest. answers (record { left = old.left; bytes = bytes }) (record { left = new.left; bytes = rest }))

-- a value, seen by `view`, is the one that reading gives
abbrev pub Finds : {X Y : Type 0} → (X → Y) → Result X SetFault → Reads Y → At → Type 0
Finds view (Ok x) read end = read ≡ Ok (view x, end)
Finds view (Err e) read end = FailsAs is_memory e read

-- reading gives this value
abbrev pub Takes : {X Y : Type 0} → Y → Result X SetFault → Reads Y → At → Type 0
Takes y (Ok x) read end = read ≡ Ok (y, end)
Takes y (Err e) read end = FailsAs is_memory e read

-- reading gives some value, and stops at this place
abbrev pub IsThere : {Y : Type 0} → Reads Y → At → Type 0
IsThere {Y} read end = (y : Y) × (read ≡ Ok (y, end))

-- reading gives some value, which is skipped
abbrev pub Skips : {X Y : Type 0} → Result X SetFault → Reads Y → At → Type 0
Skips (Ok x) read end = IsThere read end
Skips (Err e) read end = FailsAs is_memory e read

-- reading gives one more, which is skipped, or the end
abbrev pub SkipsSome : {Y : Type 0} → Result Bool SetFault → Reads (Option Y) → At → Type 0
SkipsSome {Y} (Ok true) read end = (y : Y) × (read ≡ Ok (Some y, end))
SkipsSome (Ok false) read end = read ≡ Ok (None, end)
SkipsSome (Err e) read end = FailsAs is_memory e read

-- reading gives some value, and what is returned is its summary; lack of memory comes only where reading gives one
abbrev pub GivesSummary : {X Y Z : Type 0} → (X → Z) → (Y → Z) → Result X SetFault → Reads Y → At → Type 0
GivesSummary {X} {Y} view summary (Ok x) read end = (y : Y) × (view x ≡ summary y) × (read ≡ Ok (y, end))
GivesSummary view summary (Err e) read end = FailsAs is_memory e read × (e ≡ Memory → IsThere read end)
