-- What the rows of a walk with no fault hold of one argument.
use Rattle.std.proofs.Common.{◌≡◌, ◌&&◌, ℕ, Bool, not, true, false, zero, suc, List, [], ◌∷◌, ◌++◌, Option, Some, None}
use Rattle.std.proofs.Common.{◌⊎◌, inl, inr, refl, sym, subst, ◌∙◌, true≢false, length}
use Rattle.std.proofs.lemmas.List.{append-nil}
use Rattle.std.specs.List.{find}
use Rattle.std.specs.Option.{option_map_or}
use Rattle.std.specs.Prelude.{IfSome, ◌+◌, drop, encode_utf8, fold, if◌then◌else◌, is_some, min, slice_get}
use Rattle.std.specs.Str.{bytes_eq, chars}
use Rattle.std.proofs.lemmas.Slice.Eq.{bytes_eq-Decides}
use Rattle.clap.specs.Faults.{bundle_fault, bundle_step_fault, flag_word_fault, flags_fault}
use Rattle.clap.specs.Faults.{long_fault, option_fault, positional_fault, react_fault, settle_fault}
use Rattle.clap.specs.Facts.{unwrap_or_range}
use Rattle.clap.specs.Faults.{repeat_fault, short_fault, use_fault}
use Rattle.clap.specs.Kinds.{Kinds, range_kinds}
use Rattle.clap.specs.Lexer.{short_of}
use Rattle.clap.specs.Matches.{count_text}
use Rattle.clap.specs.declared.builder.value_parser.Reading.{Reading}
use Rattle.clap.specs.declared.builder.action.ArgAction.{ArgAction}
use Rattle.clap.specs.declared.builder.action.ArgAction.TheVariants.{Set, Append, SetTrue, SetFalse}
use Rattle.clap.specs.declared.builder.action.ArgAction.TheVariants.{Count, Help, HelpShort, HelpLong, Version}
use Rattle.clap.specs.declared.error.kind.ErrorKind.TheVariants.{ArgumentConflict, TooManyValues}
use Rattle.clap.specs.declared.parser.matches.ValueSource.{ValueSource}
use Rattle.clap.specs.declared.parser.matches.ValueSource.TheVariants.{CommandLine, DefaultValue}
use Rattle.clap.specs.Walk.{Held, Outcome, Row, Rule, Text, Waiting, Walk, action_of, after_flag}
use Rattle.clap.specs.Walk.{arg_by_id, arg_by_long, arg_by_short, attached_value}
use Rattle.clap.specs.Walk.{bundle, bundle_met, bundle_step, count_of, counted}
use Rattle.clap.specs.Walk.{done, flag_met, has_long, has_row, has_short}
use Rattle.clap.specs.Walk.{idle, is_pending, option_word}
use Rattle.clap.specs.Walk.{long_met, long_or_other, more_values, most_values, new_count, option, option_met}
use Rattle.clap.specs.Walk.{plain, plain_word, positional, reacted, reading_by, refused, settled}
use Rattle.clap.specs.Walk.{default_rows, settled_rows, short_met, short_or_plain, stronger}
use Rattle.clap.specs.Walk.{takes_several, takes_values, to_positional, used, used_as}
use Rattle.clap.specs.Walk.{used_by_id, values_or_missing, waits}
use Rattle.clap.specs.Walk.{with_default, with_values, without}
use Rattle.dd_line.proofs.LineEach.{Each, at_row_absent, at_row_each, each_found, each_join, each_named, first_none}
use Rattle.dd_line.proofs.LineEach.{named_in, second_none}

-- ---- the rows of one argument

-- which values are right, by where they come from
abbrev pub AreRight : Type 1
AreRight = Option ValueSource → List Text → Type 0

-- the action keeps the values of one use, or of all, which are right together
abbrev pub Stores : AreRight → ArgAction → Type 0
Stores ok Set = Unit {0}
Stores ok SetTrue = Unit {0}
Stores ok Append = (source : Option ValueSource) (xs ys : List Text) → ok source xs → ok (Some CommandLine) ys
    → ok (Some (stronger source CommandLine)) (xs ++ ys)
Stores ok other = ⊥

-- the action keeps the values of one use alone
abbrev IsOnce : ArgAction → Type 0
IsOnce x = (x ≡ Set) ⊎ (x ≡ SetTrue)

-- an argument that was not used has no row
not_used : (a : Rule) (values : List Text) (rows : List Row) → use_fault false a values rows ≡ []
    → IsOnce (action_of a) → has_row a.id rows ≡ false
not_used a values rows none is =
    let acted = second_none (range_kinds (unwrap_or_range a.range).start_inclusive (most_values a) (length values)) _
    none in
    elim is [
      | inl set ↦ go (has_row a.id rows) (first_none (repeat_fault false a.id rows) _ (rw set at acted))
      | inr set ↦ go (has_row a.id rows) (first_none (repeat_fault false a.id rows) _ (rw set at acted))
    ]
  where
    go : (t : Bool) → (if t && not false then ArgumentConflict ∷ [] else []) ≡ [] → t ≡ false
    go true none = cc
    go false none = refl

module _ (name : Text) (how : Reading) (ok : AreRight) where
  -- a row of the argument has its reading, and values that are right
  pub record IsRow (r : Row) : Type 0 where
    pub reading : r.reading ≡ how
    pub values : ok r.source r.values

  -- the rule is another argument's, or makes such rows
  pub record Fits (a : Rule) : Type 0 where
    pub stores : bytes_eq a.id name ≡ true → Stores ok (action_of a)
    pub reading : bytes_eq a.id name ≡ true → reading_by a ≡ how
    pub passes : bytes_eq a.id name ≡ true → (again : Bool) (values : List Text) (rows : List Row)
        → use_fault again a values rows ≡ [] → ok (Some CommandLine) (values_or_missing a values)
    pub defaults : bytes_eq a.id name ≡ true → (a.defaults ≡ []) ⊎ ok (Some DefaultValue) a.defaults

  pub other_fits : (a : Rule) → bytes_eq a.id name ≡ false → Fits a
  other_fits a other = record {
    stores = λ named. absurd (true≢false (sym named ∙ other));
    reading = λ named. absurd (true≢false (sym named ∙ other));
    passes = λ named. absurd (true≢false (sym named ∙ other));
    defaults = λ named. absurd (true≢false (sym named ∙ other));
  }

  pub all_fit : (rules : List Rule) → Each Fits (named_in name rules) → Each Fits rules
  all_fit rules own = each_named Fits name rules other_fits own

  -- the row is another argument's, or right
  abbrev pub Fine : Row → Type 0
  Fine r = bytes_eq r.id name ≡ true → IsRow r

  -- so is each row that is held
  abbrev pub Holds : Held → Type 0
  Holds h = Each Fine h.rows

  -- ---- one use

  -- values that are right stay so where these are added
  abbrev Adds : ValueSource → List Text → Type 0
  Adds s values = (source : Option ValueSource) (xs : List Text) → ok source xs
      → ok (Some (stronger source s)) (xs ++ values)

  more_fine : (id : Text) (s : ValueSource) (values : List Text) (r : Row)
      → (bytes_eq id name ≡ true → Adds s values)
      → bytes_eq r.id id ≡ true → Fine r → Each Fine (more_values s values r)
  more_fine id s values r more same fine = (
    λ named.
        let is : r.id ≡ id = (bytes_eq-Decides r.id id).0 same in
        let there : bytes_eq id name ≡ true = subst (λ (x : Text). bytes_eq x name ≡ true) is named in
        let row = fine named in
        record { reading = row.reading; values = more there r.source r.values row.values },
    tt,
  )

  with_values_fine : (id : Text) (r : Reading) (s : ValueSource) (values : List Text) (rows : List Row)
      → (bytes_eq id name ≡ true → r ≡ how) → (bytes_eq id name ≡ true → ok (Some s) values)
      → (bytes_eq id name ≡ true → Adds s values) → Each Fine rows
      → Each Fine (with_values id r s values rows)
  with_values_fine id r s values rows read right more all = at_row_each Fine id (more_values s values) _ rows
      (λ row fine same. more_fine id s values row more same fine)
      (λ named. record { reading = read named; values = right named }, tt) all

  with_values_other : (id : Text) (r : Reading) (s : ValueSource) (values : List Text) (rows : List Row)
      → bytes_eq id name ≡ false → Each Fine rows → Each Fine (with_values id r s values rows)
  with_values_other id r s values rows other all = with_values_fine id r s values rows
      (λ named. absurd (true≢false (sym named ∙ other))) (λ named. absurd (true≢false (sym named ∙ other)))
      (λ named. absurd (true≢false (sym named ∙ other))) all

  without_fine : (id : Text) (rows : List Row) → Each Fine rows → Each Fine (without id rows)
  without_fine id rows all = at_row_each Fine id (λ _. []) [] rows (λ row fine same. tt) tt all

  -- a row of another argument
  is_other : (id : Text) (r : Row) → bytes_eq id name ≡ false → bytes_eq r.id id ≡ true → bytes_eq r.id name ≡ true → ⊥
  is_other id r other same named =
      let is : r.id ≡ id = (bytes_eq-Decides r.id id).0 same in
      let there : bytes_eq id name ≡ true = subst (λ (x : Text). bytes_eq x name ≡ true) is named in
      true≢false (sym there ∙ other)

  counted_fine : (id : Text) (r : Reading) (values : List Text) (rows : List Row) → bytes_eq id name ≡ false
      → Each Fine rows → Each Fine (counted id r values rows)
  counted_fine id r [] rows other all =
      let n = min (count_of id rows + 1) 255 in
      let added : Each Fine (record {
        id = id;
        values = count_text n ∷ [];
        count = Some n;
        source = Some CommandLine;
        reading = r;
      } ∷ []) = (λ named. absurd (true≢false (sym named ∙ other)), tt) in
      at_row_each Fine id (new_count CommandLine n) _ (without id rows)
      (λ row fine same. (λ named. absurd (is_other id row other same named), tt)) added (without_fine id rows all)
  counted_fine id r (v ∷ vs) rows other all =
      with_values_other id r _ (v ∷ vs) (without id rows) other (without_fine id rows all)

  used_as_other : (x : ArgAction) (id : Text) (r : Reading) (values : List Text) (rows : List Row)
      → bytes_eq id name ≡ false → Each Fine rows → Each Fine (used_as x id r values rows)
  used_as_other Set id r values rows other all =
      with_values_other id r _ values (without id rows) other (without_fine id rows all)
  used_as_other SetTrue id r values rows other all =
      with_values_other id r _ values (without id rows) other (without_fine id rows all)
  used_as_other SetFalse id r values rows other all =
      with_values_other id r _ values (without id rows) other (without_fine id rows all)
  used_as_other Append id r values rows other all = with_values_other id r _ values rows other all
  used_as_other Count id r values rows other all = counted_fine id r values rows other all
  used_as_other Help id r values rows other all = all
  used_as_other HelpShort id r values rows other all = all
  used_as_other HelpLong id r values rows other all = all
  used_as_other Version id r values rows other all = all

  -- its first row
  first_fine : (id : Text) (r : Reading) (s : ValueSource) (values : List Text) (rows : List Row)
      → has_row id rows ≡ false → r ≡ how → ok (Some s) values → Each Fine rows
      → Each Fine (with_values id r s values rows)
  first_fine id r s values rows absent read right all =
      let added = at_row_absent id (more_values s values) _ rows absent in
      subst (Each Fine) (sym added)
      (each_join Fine rows _ all (λ _. record { reading = read; values = right }, tt))

  -- its one use
  once_fine : (id : Text) (r : Reading) (s : ValueSource) (values : List Text) (rows : List Row)
      → has_row id rows ≡ false → r ≡ how → ok (Some s) values → Each Fine rows
      → Each Fine (with_values id r s values (without id rows))
  once_fine id r s values rows absent read right all =
      let same : without id rows ≡ rows = at_row_absent id (λ _. []) [] rows absent ∙ append-nil rows in
      subst (λ (x : List Row). Each Fine (with_values id r s values x)) (sym same)
      (first_fine id r s values rows absent read right all)

  used_as_own : (x : ArgAction) (id : Text) (r : Reading) (values : List Text) (rows : List Row)
      → Stores ok x → (IsOnce x → has_row id rows ≡ false) → r ≡ how → ok (Some CommandLine) values
      → Each Fine rows → Each Fine (used_as x id r values rows)
  used_as_own Set id r values rows stores absent read right all =
      once_fine id r _ values rows (absent (inl refl)) read right all
  used_as_own SetTrue id r values rows stores absent read right all =
      once_fine id r _ values rows (absent (inr refl)) read right all
  used_as_own Append id r values rows stores absent read right all = with_values_fine id r _ values rows (λ _. read)
      (λ _. right) (λ _ source xs fine. stores source xs values fine right) all
  used_as_own SetFalse id r values rows stores absent read right all = absurd stores
  used_as_own Count id r values rows stores absent read right all = absurd stores
  used_as_own Help id r values rows stores absent read right all = absurd stores
  used_as_own HelpShort id r values rows stores absent read right all = absurd stores
  used_as_own HelpLong id r values rows stores absent read right all = absurd stores
  used_as_own Version id r values rows stores absent read right all = absurd stores

  -- a use of an argument
  used_fine : (again : Bool) → again ≡ false → (a : Rule) (values : List Text) (rows : List Row) → Fits a
      → use_fault again a values rows ≡ [] → Each Fine rows → Each Fine (used a values rows)
  used_fine again once a values rows fits none all = go (bytes_eq a.id name) refl
    where
      go : (t : Bool) → bytes_eq a.id name ≡ t → Each Fine (used a values rows)
      go true t = used_as_own (action_of a) a.id (reading_by a) (values_or_missing a values) rows (fits.stores t)
          (not_used a values rows (rw once at none)) (fits.reading t) (fits.passes t again values rows none) all
      go false t =
          used_as_other (action_of a) a.id (reading_by a) (values_or_missing a values) rows t all

  -- ---- defaults

  default_rows_fine : (id : Text) (r : Reading) (values : List Text) (rows : List Row) → has_row id rows ≡ false
      → (bytes_eq id name ≡ true → r ≡ how)
      → (bytes_eq id name ≡ true → (values ≡ []) ⊎ ok (Some DefaultValue) values) → Each Fine rows
      → Each Fine (default_rows id r values rows)
  default_rows_fine id r [] rows absent read right all = all
  default_rows_fine id r (v ∷ vs) rows absent read right all = go (bytes_eq id name) refl
    where
      own : (v ∷ vs ≡ []) ⊎ ok (Some DefaultValue) (v ∷ vs) → ok (Some DefaultValue) (v ∷ vs)
      own (inl none) = cc
      own (inr fine) = fine

      go : (t : Bool) → bytes_eq id name ≡ t → Each Fine (default_rows id r (v ∷ vs) rows)
      go true t = first_fine id r DefaultValue (v ∷ vs) rows absent (read t) (own (right t)) all
      go false t = with_values_other id r DefaultValue (v ∷ vs) rows t all

  with_default_fine : (a : Rule) (rows : List Row) → Fits a → Each Fine rows → Each Fine (with_default rows a)
  with_default_fine a rows fits all = go (has_row a.id rows) refl
    where
      go : (t : Bool) → has_row a.id rows ≡ t → Each Fine (with_default rows a)
      go true t = rw t all
      go false t =
          rw t (default_rows_fine a.id (reading_by a) a.defaults rows t fits.reading fits.defaults all)

  pub defaults_fine : (c : List Rule) (rows : List Row) → Each Fits c → Each Fine rows
      → Each Fine (fold with_default rows c)
  defaults_fine [] rows fits all = all
  defaults_fine (a ∷ c) rows fits all =
      defaults_fine c (with_default rows a) fits.1 (with_default_fine a rows fits.0 all)

  -- ---- the words

  by_id_fine : (again : Bool) → again ≡ false → (found : Option Rule) (values : List Text) (rows : List Row)
      → IfSome found Fits → option_map_or (λ a. use_fault again a values rows) found [] ≡ [] → Each Fine rows
      → Each Fine (used_by_id found values rows)
  by_id_fine again once None values rows fits none all = all
  by_id_fine again once (Some a) values rows fits none all = used_fine again once a values rows fits none all

  module _ (c : List Rule) (each : Each Fits c) (again : Bool) (once : again ≡ false) where
    found_fits : (p : Rule → Bool) → IfSome (find p c) Fits
    found_fits p = go (find p c) (each_found Fits p c each)
      where
        go : (o : Option Rule) → IfSome o (λ x. Fits x × (p x ≡ true)) → IfSome o Fits
        go None h = tt
        go (Some a) h = h.0

    settled_rows_fine : (pending : Option (Text × List Text)) (rows : List Row)
        → option_map_or (λ p. option_map_or (λ a. use_fault again a p.1 rows) (arg_by_id c p.0) []) pending [] ≡ []
        → Each Fine rows → Each Fine (settled_rows c pending rows)
    settled_rows_fine None rows none all = all
    settled_rows_fine (Some p) rows none all =
        by_id_fine again once (arg_by_id c p.0) p.1 rows (found_fits (λ a. bytes_eq a.id p.0)) none all

    pub settled_fine : (h : Held) → settle_fault c again h ≡ [] → Holds h → Holds (settled c h)
    settled_fine h none all = settled_rows_fine h.pending h.rows none all

    reacted_fine : (a : Rule) (values : List Text) (h : Held) → Fits a → react_fault c again a values h ≡ []
        → Holds h → Holds (reacted c a values h)
    reacted_fine a values h fits none all = used_fine again once a values (settled c h).rows fits
        (second_none (settle_fault c again h) _ none) (settled_fine h (first_none _ _ none) all)

    option_fine : (a : Rule) (v : Option Text) (h : Held) → Fits a → option_fault c again a v h ≡ []
        → Holds h → Holds (option_met c a v h).0
    option_fine a (Some v) h fits none all = reacted_fine a (v ∷ []) h fits none all
    option_fine a None h fits none all = settled_fine h none all

    flag_fine : (a : Rule) (v : Option Text) (h : Held) → Fits a
        → (if is_some v then TooManyValues ∷ [] else react_fault c again a [] h) ≡ []
        → Holds h → Holds (flag_met c a v h).0
    flag_fine a (Some v) h fits none all = all
    flag_fine a None h fits none all = reacted_fine a [] h fits none all

    long_fine : (found : Option Rule) (v : Option Text) (h : Held) → IfSome found Fits
        → long_fault c again found v h ≡ [] → Holds h → Holds (long_met c found v h).0
    long_fine None v h fits none all = all
    long_fine (Some a) v h fits none all = go (takes_values a) refl
      where
        go : (t : Bool) → takes_values a ≡ t → Holds (long_met c (Some a) v h).0
        go true t = rw t (option_fine a v h fits (rw t at none) all)
        go false t = rw t (flag_fine a v h fits (rw t at none) all)

    short_fine : (found : Option Rule) (rest : Text) (h : Held) (next_met : Held → Held × Outcome)
        (next_fault : Held → Kinds) → IfSome found Fits
        → ((k : Held) → next_fault k ≡ [] → Holds k → Holds (next_met k).0)
        → short_fault c again found rest h next_fault ≡ [] → Holds h → Holds (short_met c found rest h next_met).0
    short_fine None rest h next_met next_fault fits on none all = all
    short_fine (Some a) rest h next_met next_fault fits on none all = go (takes_values a) refl
      where
        go : (t : Bool) → takes_values a ≡ t → Holds (short_met c (Some a) rest h next_met).0
        go true t = rw t (option_fine a (attached_value rest) h fits (rw t at none) all)
        go false t =
            let none = rw t at none in
            rw t (on (reacted c a [] h) (second_none (react_fault c again a [] h) _ none)
            (reacted_fine a [] h fits (first_none _ _ none) all))

    bundle_step_fine : (x : Option ℕ) (flags : Text) (skip : ℕ) (so_far : Outcome) (h : Held)
        (next_met : Text → ℕ → Outcome → Held → Held × Outcome) (next_fault : Text → ℕ → Held → Kinds)
        → ((f : Text) (n : ℕ) (o : Outcome) (k : Held) → next_fault f n k ≡ [] → Holds k → Holds (next_met f n o k).0)
        → bundle_step_fault c again x flags skip h next_fault ≡ [] → Holds h
        → Holds (bundle_step c x flags skip so_far h next_met).0
    bundle_step_fine None flags skip so_far h next_met next_fault on none all = all
    bundle_step_fine (Some x) flags zero so_far h next_met next_fault on none all =
        let rest = drop (length (encode_utf8 x)) flags in
        short_fine (arg_by_short c x) rest h (next_met rest 0 done) (next_fault rest 0)
        (found_fits (λ a. not (is_some a.index) && has_short a x))
        (λ k fault fine. on rest 0 done k fault fine) none all
    bundle_step_fine (Some x) flags (suc skip) so_far h next_met next_fault on none all =
        on (drop (length (encode_utf8 x)) flags) skip so_far h none all

    bundle_fine : (k : ℕ) (flags : Text) (skip : ℕ) (so_far : Outcome) (h : Held)
        → flags_fault c again k flags skip h ≡ [] → Holds h → Holds (bundle_met c k flags skip so_far h).0
    unfolding bundle_met flags_fault
    bundle_fine zero flags skip so_far h none all = all
    bundle_fine (suc k) flags skip so_far h none all = bundle_step_fine (slice_get (chars flags) 0) flags skip so_far h
        (bundle_met c k) (flags_fault c again k) (λ f n o held fault fine. bundle_fine k f n o held fault fine) none all

    plain_fine : (waiting : Waiting) (word : Text) (h : Held) → Holds h → Holds (plain_word c waiting word h).0
    plain_fine (option id) word h all = go (arg_by_id c id)
      where
        go : (found : Option Rule) → Holds (option_word found id word h).0
        go None = all
        go (Some a) = all
    plain_fine idle word h all = all
    plain_fine positional word h all = all

    after_flag_fine : (waiting : Waiting) (word : Text) (h : Held) (outcome : Outcome) → Holds h
        → Holds (after_flag c waiting word h outcome).0
    after_flag_fine waiting word h done all = all
    after_flag_fine waiting word h (waits id) all = all
    after_flag_fine waiting word h plain all = plain_fine waiting word h all
    after_flag_fine waiting word h refused all = plain_fine waiting word h all

    short_word_fine : (waiting : Waiting) (word : Text) (flags : Option Text) (h : Held)
        → option_map_or (λ f. bundle_fault c again f h) flags [] ≡ [] → Holds h
        → Holds (short_or_plain c waiting word flags h).0
    short_word_fine waiting word None h none all = plain_fine waiting word h all
    short_word_fine waiting word (Some flags) h none all =
        after_flag_fine waiting word (bundle c flags h).0 (bundle c flags h).1
        (bundle_fine (length flags) flags h.skip plain (record h { skip = 0 }) none all)

    pub long_word_fine : (waiting : Waiting) (word : Text) (long : Option (Text × Option Text)) (h : Held)
        → flag_word_fault c again long word h ≡ [] → Holds h → Holds (long_or_other c waiting word long h).0
    long_word_fine waiting word None h none all = short_word_fine waiting word (short_of word) h none all
    long_word_fine waiting word (Some p) h none all = after_flag_fine waiting word _ _
        (long_fine (arg_by_long c p.0) p.1 h (found_fits (λ a. not (is_some a.index) && has_long a p.0)) none all)

    pub to_positional_fine : (found : Option Rule) (word : Text) (w : Walk) (h : Held)
        → option_map_or (λ a. positional_fault c again a h) found [] ≡ [] → Holds h
        → Holds (to_positional c found word w h).held
    to_positional_fine None word w h none all = all
    to_positional_fine (Some a) word w h none all = go (is_pending a h.pending && takes_several a) refl
      where
        go : (t : Bool) → (is_pending a h.pending && takes_several a) ≡ t
            → Holds (to_positional c (Some a) word w h).held
        go true t = rw t all
        go false t = rw t (settled_fine h (rw t at none) all)
