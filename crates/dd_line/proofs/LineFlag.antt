-- The text that the rows hold for a flag: `true` where the words set it, `false` where it is unset, and none where it
-- is absent, as the command has no such flag.
use Rattle.std.proofs.Common.{◌≡◌, ◌==◌, ◌∷◌, ℕ, Bool, true, false, List, [], Option, Some, None}
use Rattle.std.proofs.Common.{codes, eqb-true, inl, inr, length, map, refl, sym}
use Rattle.std.specs.List.{find}
use Rattle.std.specs.Option.{option_map, option_map_or}
use Rattle.std.specs.Prelude.{IfSome, if◌then◌else◌, option_and_then, slice_get}
use Rattle.std.specs.Str.{bytes_eq}
use Rattle.clap.specs.Facts.{explicit_source, unwrap_or_range}
use Rattle.clap.specs.Faults.{level_fault}
use Rattle.clap.specs.Kinds.{range_kinds}
use Rattle.clap.specs.Simple.{Shape, filled, with_index}
use Rattle.clap.specs.Walk.{Row, Rule, Text, action_of, most_values, nothing_held, reading_by, row_text, rows_after}
use Rattle.clap.specs.Walk.{values_or_missing}
use Rattle.clap.specs.declared.builder.action.ArgAction.TheVariants.{SetTrue}
use Rattle.clap.specs.declared.builder.value_parser.Reading.TheVariants.{AsWritten}
use Rattle.clap.specs.declared.error.kind.ErrorKind.TheVariants.{WrongNumberOfValues}
use Rattle.clap.specs.declared.parser.matches.ValueSource.{ValueSource}
use Rattle.clap.specs.declared.parser.matches.ValueSource.TheVariants.{CommandLine, DefaultValue}
use Rattle.dd_line.specs.Line.{flag, flag_names, flags, has}
use Rattle.dd_line.specs.Requests.{HasFlag, HasFlags, IsFlagText}
use Rattle.dd_line.specs.declared.line.Verb.{Verb}
use Rattle.dd_line.proofs.LineEach.{Each, among_each, each_found, first_none, named_in}
use Rattle.dd_line.proofs.LinePaths.{AreNone, level_absent}
use Rattle.dd_line.proofs.LineRows.{Fine, Fits, all_fit}
use Rattle.dd_line.proofs.LineWalk.{level_fine}

-- the values of a flag that is set, and of one that is unset
abbrev IsFlag : Option ValueSource → List Text → Type 0
IsFlag (Some CommandLine) values = values ≡ codes "true" ∷ []
IsFlag (Some DefaultValue) values = values ≡ codes "false" ∷ []
IsFlag None values = ⊥

-- the rule is another argument's, or that of the flag of this name
abbrev pub FitsFlag : Text → Rule → Type 0
FitsFlag name = Fits name AsWritten IsFlag

none_given : (n : ℕ) → range_kinds 0 0 n ≡ [] → n ≡ 0
none_given n none = go (0 == n) refl none
  where
    go : (same : Bool) → (0 == n) ≡ same → (if same then [] else (WrongNumberOfValues ∷ [])) ≡ [] → n ≡ 0
    go true e none = sym (eqb-true 0 n e)
    go false e none = cc

pub flag_fits : (name : Text) (a : Rule) → action_of a ≡ SetTrue → reading_by a ≡ AsWritten
    → (unwrap_or_range a.range).start_inclusive ≡ 0 → most_values a ≡ 0
    → a.missing ≡ codes "true" ∷ [] → a.defaults ≡ codes "false" ∷ [] → FitsFlag name a
flag_fits name a set read least most missing defaults = record {
  stores = λ named. rw set tt;
  reading = λ named. read;
  passes = λ named again values rows none. passes values (first_none _ _ none);
  defaults = λ named. inr defaults;
}
  where
    passes : (values : List Text)
        → range_kinds (unwrap_or_range a.range).start_inclusive (most_values a) (length values) ≡ []
        → values_or_missing a values ≡ codes "true" ∷ []
    passes [] range = missing
    passes (v ∷ vs) range =
        let some : length (v ∷ vs) ≡ 0 = none_given (length (v ∷ vs)) (rw (least, most) at range) in
        cc

-- the text by where it comes from
flag_text : (source : Option ValueSource) (values : List Text) → IsFlag source values
    → IsFlagText (explicit_source source) (option_map (λ (t : Text). t) (slice_get values 0))
flag_text (Some CommandLine) values is = rw is refl
flag_text (Some DefaultValue) values is = rw is (inr refl)
flag_text None values is = absurd is

-- ---- the flags that a command has, or lacks

-- the rule of a flag where the command has it, and else none
abbrev pub flag_rules : Verb → Text × List Verb → List Rule
flag_rules verb (name, verbs) = if has verbs verb then with_index 0 (filled (flag name)) ∷ [] else []

module _ (verb : Verb) (s : Shape) (words : List Text) (once : s.args_override_self ≡ false)
    (none : level_fault s [] nothing_held words false [] ≡ []) where
  abbrev rows : List Row
  rows = rows_after s.rules [] words

  -- a level with no fault that lacks the flag holds no text for it
  lacked_flag : (name : Text) → named_in name s.rules ≡ [] → HasFlag name (rows_after s.rules [] words)
  lacked_flag name lacks =
      let absent = level_absent name AreNone s words (all_fit name AsWritten (λ _. AreNone) s.rules (rw lacks tt)) once
      none (λ values never. never) in
      rw absent (inl refl)

  -- one that has it says by its text whether it is set
  level_flag : (name : Text) → named_in name s.rules ≡ with_index 0 (filled (flag name)) ∷ []
      → HasFlag name (rows_after s.rules [] words)
  level_flag name one = go (find (λ r. bytes_eq r.id name) rows) (each_found _ (λ r. bytes_eq r.id name) rows fine)
    where
      fits : Each (FitsFlag name) s.rules
      fits = all_fit name AsWritten IsFlag s.rules (rw one (flag_fits name _ refl refl refl refl refl refl, tt))

      fine : Each (Fine name AsWritten IsFlag) rows
      fine = level_fine name AsWritten IsFlag s fits once [] words false [] none

      go : (o : Option Row) → IfSome o (λ r. Fine name AsWritten IsFlag r × (bytes_eq r.id name ≡ true))
          → IsFlagText (option_map_or (λ r. explicit_source r.source) o false) (option_and_then row_text o)
      go None h = inl refl
      go (Some r) h =
          let row = h.0 h.1 in
          rw row.reading (flag_text r.source r.values row.values)

  flags_each : (fs : List (Text × List Verb)) → map (λ f. named_in f.0 s.rules) fs ≡ map (flag_rules verb) fs
      → Each (λ name. HasFlag name (rows_after s.rules [] words)) (map (λ f. f.0) fs)
  flags_each [] same = tt
  flags_each ((name, verbs) ∷ fs) same =
      let here : named_in name s.rules ≡ flag_rules verb (name, verbs) = cc in
      let later : map (λ f. named_in f.0 s.rules) fs ≡ map (flag_rules verb) fs = cc in
      (go (has verbs verb) here, flags_each fs later)
    where
      go : (t : Bool) → named_in name s.rules ≡ (if t then with_index 0 (filled (flag name)) ∷ [] else [])
          → HasFlag name (rows_after s.rules [] words)
      go true one = level_flag name one
      go false lacks = lacked_flag name lacks

  -- a level with no fault, whose rules are those of the table of flags, says of each whether it is set
  pub level_flags : map (λ f. named_in f.0 s.rules) flags ≡ map (flag_rules verb) flags
      → HasFlags (rows_after s.rules [] words)
  level_flags same = among_each _ flag_names (flags_each flags same)

-- the text is read as set exactly where the words set the flag
pub flag_read : (given : Bool) (text : Option Text) (read : Bool) → IsFlagText given text
    → (text ≡ None → read ≡ false) → (text ≡ Some (codes "true") → read ≡ true)
    → (text ≡ Some (codes "false") → read ≡ false) → read ≡ given
flag_read true text read is absent set unset = set is
flag_read false text read (inl is) absent set unset = absent is
flag_read false text read (inr is) absent set unset = unset is
