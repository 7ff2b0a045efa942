-- A walk over words with no fault calls for no help, and has a subcommand where one is required.
use Rattle.std.proofs.Common.{◌≡◌, ◌&&◌, ℕ, Bool, true, false, not, List, [], ◌∷◌, Option, Some, None, codes, refl, ap}
use Rattle.std.proofs.Common.{subst, length, arith}
use Rattle.std.specs.List.{list_any}
use Rattle.std.specs.Prelude.{IfSome, fold, ⊤}
use Rattle.std.specs.Str.{bytes_eq}
use Rattle.clap.specs.Facts.{explicit_source}
use Rattle.clap.specs.Faults.{check_fault, defaults_fault, level_fault, other_fault, settle_fault, turn_fault}
use Rattle.clap.specs.Faults.{walk_fault}
use Rattle.clap.specs.Kinds.{Kinds, check_kinds, or_else}
use Rattle.clap.specs.Lexer.{long_of, short_of}
use Rattle.clap.specs.Simple.{Shape}
use Rattle.clap.specs.Takes.{is_given}
use Rattle.clap.specs.declared.error.kind.ErrorKind.TheVariants.{DisplayHelpOnMissingArgumentOrSubcommand}
use Rattle.clap.specs.declared.error.kind.ErrorKind.TheVariants.{MissingSubcommand}
use Rattle.clap.specs.Walk.{finished, settled, Held, Names, Outcome, Row, Rule, Step, Text, Waiting, Walk, after_flag}
use Rattle.clap.specs.Walk.{after_step, arg_by_index, arg_by_long, bundle, done, idle, long_met, long_or_other, next}
use Rattle.clap.specs.Walk.{option, plain, plain_word, positional, refused, short_or_plain, subcommand, subcommand_met}
use Rattle.clap.specs.Walk.{subcommand_or_other, to_positional, trailing, value, waits, walk, walk_from, walked}
use Rattle.dd_line.proofs.LineEach.{first_none, second_none}

-- ---- faults that do not come

wants_one : (help argument : Bool) → check_kinds help true argument ≡ [] → ⊥
wants_one true argument none = let e : length
    (DisplayHelpOnMissingArgumentOrSubcommand ∷ []) ≡ 0 = ap length none in omega (arith, e)
wants_one false argument none = let e : length (MissingSubcommand ∷ []) ≡ 0 = ap length none in omega (arith, e)

-- a level with no fault has a subcommand where one is required
check_needs : (s : Shape) (rows : List Row) (has : Bool) → check_fault s rows has ≡ []
    → s.subcommand_required ≡ true → has ≡ true
check_needs s rows true none required = refl
check_needs s rows false none required =
    let help = s.arg_required_else_help && not (list_any (λ r. explicit_source r.source) rows) in
    let argument = not (s.subcommand_negates_reqs && false) && list_any (λ a. a.required && not
    (is_given a.id rows)) s.rules in
    absurd (wants_one help argument (subst (λ (wanted : Bool). check_kinds help wanted argument ≡ []) required none))

pub level_needs : (s : Shape) (names : Names) (h : Held) (words : List Text) (has : Bool) (below : Kinds)
    → level_fault s names h words has below ≡ []
    → (walk_fault s names (walk_from h) words ≡ []) × (s.subcommand_required ≡ true → has ≡ true)
level_needs s names h words has below none =
    let end = (walk s.rules names h words).held in
    let one = walk_fault s names (walk_from h) words in
    let three = settle_fault s.rules s.args_override_self end in
    let four = defaults_fault (settled s.rules end).rows s.rules in
    let five = check_fault s (finished s.rules end) has in
    let last : or_else four five ≡ [] = second_none three (or_else four five) (second_none below (or_else three
    (or_else four five))
    (second_none one (or_else below (or_else three (or_else four five))) none)) in (
      first_none one (or_else below (or_else three (or_else four five))) none,
      check_needs s
          (finished s.rules end) has (second_none four five last),
    )

-- ---- the walk stops at no call for help

-- the walk goes on, or it stopped at another name than `help`
abbrev pub NotHelp : Option (Text × List Text) → Type 0
NotHelp stopped = IfSome stopped (λ p. bytes_eq p.0 (codes "help") ≡ false)

-- a step that enters no subcommand
abbrev GoesOn : Step → Type 0
GoesOn (subcommand name) = ⊥
GoesOn (next waiting) = ⊤
GoesOn (trailing position) = ⊤
GoesOn value = ⊤

plain_goes_on : (c : List Rule) (waiting : Waiting) (word : Text) (h : Held) → GoesOn (plain_word c waiting word h).1
plain_goes_on c (option id) word h = tt
plain_goes_on c idle word h = tt
plain_goes_on c positional word h = tt

flag_goes_on : (c : List Rule) (waiting : Waiting) (word : Text) (h : Held) (outcome : Outcome)
    → GoesOn (after_flag c waiting word h outcome).1
flag_goes_on c waiting word h done = tt
flag_goes_on c waiting word h (waits id) = tt
flag_goes_on c waiting word h plain = plain_goes_on c waiting word h
flag_goes_on c waiting word h refused = plain_goes_on c waiting word h

short_goes_on : (c : List Rule) (waiting : Waiting) (word : Text) (flags : Option Text) (h : Held)
    → GoesOn (short_or_plain c waiting word flags h).1
short_goes_on c waiting word (Some flags) h = flag_goes_on c waiting word (bundle c flags h).0 (bundle c flags h).1
short_goes_on c waiting word None h = plain_goes_on c waiting word h

long_goes_on : (c : List Rule) (waiting : Waiting) (word : Text) (long : Option (Text × Option Text)) (h : Held)
    → GoesOn (long_or_other c waiting word long h).1
long_goes_on c waiting word (Some p) h =
    flag_goes_on c waiting word (long_met c (arg_by_long c p.0) p.1 h).0 (long_met c (arg_by_long c p.0) p.1 h).1
long_goes_on c waiting word None h = short_goes_on c waiting word (short_of word) h

other_goes_on : (c : List Rule) (waiting : Waiting) (position : ℕ) (word : Text) (h : Held)
    → GoesOn (subcommand_or_other c None waiting position word h).1
other_goes_on c waiting position word h = go (bytes_eq word (45 ∷ 45 ∷ [])) refl
  where
    go : (t : Bool) → bytes_eq word (45 ∷ 45 ∷ []) ≡ t → GoesOn (subcommand_or_other c None waiting position word h).1
    go true t = rw t tt
    go false t = rw t (long_goes_on c waiting word (long_of word) h)

to_not_help : (c : List Rule) (a : Option Rule) (word : Text) (w : Walk) (h : Held) → NotHelp w.stopped
    → NotHelp (to_positional c a word w h).stopped
to_not_help c None word w h fine = fine
to_not_help c (Some a) word w h fine = tt

step_not_help : (c : List Rule) (word : Text) (w : Walk) (h : Held) (step : Step) → GoesOn step → NotHelp w.stopped
    → NotHelp (after_step c word w h step).stopped
step_not_help c word w h (next waiting) on fine = fine
step_not_help c word w h (trailing position) on fine = fine
step_not_help c word w h (subcommand name) on fine = absurd on
step_not_help c word w h value on fine = to_not_help c (arg_by_index c w.position) word w h fine

named_not_help : (s : Shape) (name word : Text) (h : Held) → s.disable_help_subcommand ≡ false
    → other_fault s (Some name) word h ≡ [] → bytes_eq name (codes "help") ≡ false
named_not_help s name word h enabled none = go (bytes_eq name (codes "help")) refl
  where
    go : (t : Bool) → bytes_eq name (codes "help") ≡ t → bytes_eq name (codes "help") ≡ false
    go true t = let some = rw (t, enabled) at none in cc
    go false t = t

-- one word more, by what it names
met_not_help : (s : Shape) (met : Option Text) (w : Walk) (word : Text) → s.disable_help_subcommand ≡ false
    → NotHelp w.stopped → other_fault s met word w.held ≡ []
    → NotHelp (after_step s.rules word w (subcommand_or_other s.rules met w.waiting w.position word w.held).0
    (subcommand_or_other s.rules met w.waiting w.position word w.held).1).stopped
met_not_help s (Some name) w word enabled fine none = named_not_help s name word w.held enabled none
met_not_help s None w word enabled fine none =
    step_not_help s.rules word w _ _ (other_goes_on s.rules w.waiting w.position word w.held) fine

-- one word more
turn_not_help : (s : Shape) (names : Names) (held : Held) (waiting : Waiting) (position : ℕ) (is_trailing : Bool)
    (stopped : Option (Text × List Text)) (word : Text)
    → s.disable_help_subcommand ≡ false → NotHelp stopped
    → turn_fault s names
    (record { held = held; waiting = waiting; position = position; is_trailing = is_trailing; stopped = stopped })
    word ≡ []
    → NotHelp (walked s.rules names
    (record { held = held; waiting = waiting; position = position; is_trailing = is_trailing; stopped = stopped })
    word).stopped
unfolding walked
turn_not_help s names held waiting position is_trailing (Some p) word enabled fine none = fine
turn_not_help s names held waiting position true None word enabled fine none =
    to_not_help s.rules (arg_by_index s.rules position) word _ held tt
turn_not_help s names held waiting position false None word enabled fine none =
    met_not_help s (subcommand_met names waiting word) _ word enabled tt (first_none _ _ none)

-- all words
pub walk_not_help : (s : Shape) (names : Names) (w : Walk) (words : List Text) → s.disable_help_subcommand ≡ false
    → NotHelp w.stopped
    → walk_fault s names w words ≡ [] → NotHelp (fold (walked s.rules names) w words).stopped
unfolding walk_fault
walk_not_help s names w [] enabled fine none = fine
walk_not_help s names w (word ∷ rest) enabled fine none =
    walk_not_help s names (walked s.rules names w word) rest enabled
    (turn_not_help s names w.held w.waiting w.position w.is_trailing w.stopped word enabled fine (first_none _ _ none))
    (second_none (turn_fault s names w word) _ none)
