-- What the rows of a level with no fault hold of one argument.
use Rattle.std.proofs.Common.{◌≡◌, ℕ, Bool, true, false, List, [], ◌∷◌, Option, Some, None, refl, ◌&&◌, ◌||◌, not}
use Rattle.std.proofs.Common.{true≢false}
use Rattle.std.specs.List.{fold, list_any}
use Rattle.std.specs.Str.{bytes_eq}
use Rattle.clap.specs.Faults.{check_fault, defaults_fault, level_fault, other_fault, settle_fault, step_fault}
use Rattle.clap.specs.Faults.{turn_fault, walk_fault}
use Rattle.clap.specs.Kinds.{Kinds, check_kinds, or_else}
use Rattle.clap.specs.Lexer.{long_of}
use Rattle.clap.specs.Simple.{Shape}
use Rattle.clap.specs.Takes.{is_given}
use Rattle.clap.specs.declared.builder.value_parser.Reading.{Reading}
use Rattle.clap.specs.Walk.{Held, Names, Rule, Step, Text, Waiting, Walk, after_step, arg_by_index, next, nothing_held}
use Rattle.clap.specs.Walk.{rows_after, settled, subcommand, subcommand_met, subcommand_or_other, to_positional}
use Rattle.clap.specs.Walk.{trailing, value, walk, walk_from, walked}
use Rattle.dd_line.proofs.LineEach.{Each, first_none, second_none}
use Rattle.dd_line.proofs.LineRows.{AreRight, Fine, Fits, Holds, defaults_fine, long_word_fine, settled_fine}
use Rattle.dd_line.proofs.LineRows.{to_positional_fine}

module _ (name : Text) (how : Reading) (ok : AreRight) (s : Shape)
    (each : Each (Fits name how ok) s.rules) (once : s.args_override_self ≡ false) where
  met_fine : (met : Option Text) (waiting : Waiting) (position : ℕ) (word : Text) (h : Held)
      → other_fault s met word h ≡ [] → Holds name how ok h
      → Holds name how ok (subcommand_or_other s.rules met waiting position word h).0
  met_fine (Some sub) waiting position word h none all = all
  met_fine None waiting position word h none all = go (bytes_eq word (45 ∷ 45 ∷ [])) refl
    where
      go : (t : Bool) → bytes_eq word (45 ∷ 45 ∷ []) ≡ t
          → Holds name how ok (subcommand_or_other s.rules None waiting position word h).0
      go true t = rw t all
      go false t = rw t (long_word_fine name how ok s.rules each s.args_override_self once waiting word (long_of word)
          h (rw t at none) all)

  step_fine : (word : Text) (w : Walk) (h : Held) (step : Step) → step_fault s w.position h step ≡ []
      → Holds name how ok h → Holds name how ok (after_step s.rules word w h step).held
  step_fine word w h (next waiting) none all = all
  step_fine word w h (trailing position) none all = all
  step_fine word w h (subcommand sub) none all = all
  step_fine word w h value none all = go (arg_by_index s.rules w.position) refl
    where
      go : (found : Option Rule) → arg_by_index s.rules w.position ≡ found
          → Holds name how ok (to_positional s.rules (arg_by_index s.rules w.position) word w h).held
      go None e = rw e all
      go (Some a) e = rw e (to_positional_fine name how ok s.rules each s.args_override_self once (Some a) word w h
          (rw e at none) all)

  turn_fine : (names : Names) (held : Held) (waiting : Waiting) (position : ℕ) (is_trailing : Bool)
      (stopped : Option (Text × List Text)) (word : Text)
      → turn_fault s names (record {
        held = held;
        waiting = waiting;
        position = position;
        is_trailing = is_trailing;
        stopped = stopped;
      }) word ≡ [] → Holds name how ok held
      → Holds name how ok (walked s.rules names (record {
        held = held;
        waiting = waiting;
        position = position;
        is_trailing = is_trailing;
        stopped = stopped;
      }) word).held
  unfolding walked
  turn_fine names held waiting position is_trailing (Some p) word none all = all
  turn_fine names held waiting position true None word none all = step_fine word _ held value none all
  turn_fine names held waiting position false None word none all =
      let met = subcommand_met names waiting word in
      let fine = met_fine met waiting position word held (first_none _ _ none) all in
      step_fine word _ _ _ (second_none (other_fault s met word held) _ none) fine

  walk_fine : (names : Names) (w : Walk) (words : List Text) → walk_fault s names w words ≡ []
      → Holds name how ok w.held → Holds name how ok (fold (walked s.rules names) w words).held
  unfolding walk_fault
  walk_fine names w [] none all = all
  walk_fine names w (word ∷ rest) none all = walk_fine names (walked s.rules names w word) rest
      (second_none (turn_fault s names w word) _ none)
      (turn_fine names w.held w.waiting w.position w.is_trailing w.stopped word (first_none _ _ none) all)

  -- the rows of a level with no fault
  pub level_fine : (names : Names) (words : List Text) (has : Bool) (below : Kinds)
      → level_fault s names nothing_held words has below ≡ []
      → Each (Fine name how ok) (rows_after s.rules names words)
  level_fine names words has below none =
      let end = (walk s.rules names nothing_held words).held in
      let one = walk_fault s names (walk_from nothing_held) words in
      let rest : or_else (settle_fault s.rules s.args_override_self end) _ ≡ [] =
      second_none below _ (second_none one _ none) in
      let held = walk_fine names (walk_from nothing_held) words (first_none one _ none) tt in
      let fine = settled_fine name how ok s.rules each s.args_override_self once end
      (first_none _ _ rest) held in
      defaults_fine name how ok s.rules (settled s.rules end).rows each fine

none_passes : {X : Type 0} (p : X → Bool) (xs : List X) → list_any p xs ≡ false → Each (λ x. p x ≡ false) xs
none_passes p [] none = tt
none_passes p (x ∷ xs) none = go (p x) refl none (none_passes p xs)
  where
    go : (t : Bool) → p x ≡ t → (p x || list_any p xs) ≡ false → (list_any p xs ≡ false → Each (λ y. p y ≡ false) xs)
        → (p x ≡ false) × Each (λ y. p y ≡ false) xs
    go true t none rest = let some = rw t at none in absurd (true≢false some)
    go false t none rest = (t, rest (rw t at none))

-- and each argument that has to be given is
pub level_given : (s : Shape) (names : Names) (words : List Text) (below : Kinds)
    → level_fault s names nothing_held words false below ≡ [] → s.subcommand_negates_reqs ≡ false
    → Each (λ a. (a.required && not (is_given a.id (rows_after s.rules names words))) ≡ false) s.rules
level_given s names words below none negates =
    let end = (walk s.rules names nothing_held words).held in
    let one = walk_fault s names (walk_from nothing_held) words in
    let rest : or_else (settle_fault s.rules s.args_override_self end) _ ≡ [] =
    second_none below _ (second_none one _ none) in
    let last : check_fault s (rows_after s.rules names words) false ≡ [] =
    second_none (defaults_fault (settled s.rules end).rows s.rules) _ (second_none _ _ rest) in
    none_passes (λ a. a.required && not (is_given a.id (rows_after s.rules names words))) s.rules
    (none_wanted _ _ _ (rw negates at last))
  where
    none_wanted : (help command argument : Bool) → check_kinds help command argument ≡ [] → argument ≡ false
    none_wanted true command argument none = cc
    none_wanted false true argument none = cc
    none_wanted false false true none = cc
    none_wanted false false false none = refl
