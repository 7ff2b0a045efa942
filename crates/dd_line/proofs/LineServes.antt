-- Commands that are given what they need where their words have no fault.
use Rattle.std.proofs.Common.{◌≡◌, ◌≤◌, ◌&&◌, ℕ, Bool, true, false, not, List, [], ◌∷◌, Option, Some, None, is_some}
use Rattle.std.proofs.Common.{codes, length, map, refl, sym, ◌∙◌, true≢false}
use Rattle.std.specs.List.{find}
use Rattle.std.specs.Option.{option_map, option_map_or}
use Rattle.std.specs.Prelude.{IfSome}
use Rattle.std.specs.Str.{bytes_eq}
use Rattle.std.proofs.lemmas.Slice.Eq.{bytes_eq-Decides}
use Rattle.clap.specs.Faults.{entered_fault, level_fault}
use Rattle.clap.specs.Simple.{App, Shape, entered, filled, label_of, rows_at, with_index}
use Rattle.clap.specs.Takes.{is_given}
use Rattle.clap.specs.Walk.{Rule, Text, answers_to, nothing_held, rows_after}
use Rattle.clap.specs.declared.builder.value_parser.Reading.TheVariants.{AsWritten}
use Rattle.dd_line.specs.Line.{flags, given_for, lacked, one_path, some_paths, verb_name}
use Rattle.dd_line.specs.Requests.{GivesPaths, HasOne, IsAbsent, NamesCommand}
use Rattle.dd_line.specs.declared.line.Verb.{Verb}
use Rattle.dd_line.proofs.LineEach.{Each, among_each, each_found, named_each, named_in}
use Rattle.dd_line.proofs.LineFlag.{flag_rules, level_flags}
use Rattle.dd_line.proofs.LineHelp.{NotHelp}
use Rattle.dd_line.proofs.LinePaths.{AreNone, AreOne, AreSome, joined, level_absent, level_values, one_fits, some_fits}
use Rattle.dd_line.proofs.LineRows.{all_fit}
use Rattle.dd_line.proofs.LineWalk.{level_given}

-- ---- the command that is entered

-- the level has no fault
abbrev pub IsFaultless : Shape → List Text → Type 0
IsFaultless s words = level_fault s [] nothing_held words false [] ≡ []

-- where a level of this command has no fault, its words name a command of the program
abbrev pub Serves : Shape → Type 0
Serves s = (name : Text) → answers_to name (label_of s) ≡ true → bytes_eq name (codes "help") ≡ false
    → (words : List Text) → IsFaultless s words → NamesCommand (Some (rows_at s words))

-- the command whose name is met
pub entered_serves : (a : App) (stop : Option (Text × List Text)) → Each Serves a.subs → NotHelp stop
    → is_some (entered a stop) ≡ true → entered_fault a stop ≡ [] → NamesCommand (entered a stop)
entered_serves a None serves other has none = absurd (true≢false (sym has))
entered_serves a (Some p) serves other has none = go (find (λ s. answers_to p.0 (label_of s)) a.subs)
    (each_found Serves (λ s. answers_to p.0 (label_of s)) a.subs serves) has none
  where
    go : (found : Option Shape) → IfSome found (λ s. Serves s × (answers_to p.0 (label_of s) ≡ true))
        → is_some (option_map (λ s. rows_at s p.1) found) ≡ true
        → option_map_or (λ s. level_fault s [] nothing_held p.1 false []) found [] ≡ []
        → NamesCommand (option_map (λ s. rows_at s p.1) found)
    go None h has none = absurd (true≢false (sym has))
    go (Some s) h has none = h.0 p.0 h.1 other p.1 none

-- `help` is not met
pub help_serves : (s : Shape) → s.name ≡ codes "help" → s.aliases ≡ [] → Serves s
help_serves s named none name met other words fault = go (bytes_eq s.name name) refl
  where
    go : (t : Bool) → bytes_eq s.name name ≡ t → NamesCommand (Some (rows_at s words))
    go true t =
        let is : s.name ≡ name = (bytes_eq-Decides s.name name).0 t in
        let again : bytes_eq name (codes "help") ≡ true = (bytes_eq-Decides name (codes "help")).1 (sym is ∙ named) in
        absurd (true≢false (sym again ∙ other))
    go false t = let nothing = rw (t, none) at met in absurd (true≢false (sym nothing))

-- ---- a command of the program

-- the command takes each argument once, and its required arguments have to be given
pub record IsPlain (s : Shape) : Type 0 where
  pub once : s.args_override_self ≡ false
  pub wants : s.subcommand_negates_reqs ≡ false

-- it has the flags of the table, and nothing that it lacks, and its words give it the paths that it needs
pub record IsCommand (verb : Verb) (s : Shape) : Type 0 where
  pub named : s.name ≡ verb_name verb
  pub plain : IsPlain s
  pub flags : map (λ f. named_in f.0 s.rules) flags ≡ map (flag_rules verb) flags
  pub others : map (λ name. named_in name s.rules) (lacked verb) ≡ map (λ name. []) (lacked verb)
  pub paths : IsPlain s → (words : List Text) → IsFaultless s words → GivesPaths verb (rows_after s.rules [] words)

module _ (s : Shape) (words : List Text) (plain : IsPlain s) (none : IsFaultless s words) where
  -- no row has a name that no rule has
  absent_each : (names : List Text) → map (λ name. named_in name s.rules) names ≡ map (λ name. []) names
      → Each (λ name. IsAbsent name (rows_after s.rules [] words)) names
  absent_each [] same = tt
  absent_each (name ∷ names) same =
      let here : named_in name s.rules ≡ [] = cc in
      let later : map (λ name. named_in name s.rules) names ≡ map (λ name. []) names = cc in (
        level_absent name AreNone s words (all_fit name AsWritten (λ _. AreNone) s.rules (rw here tt)) plain.once none
            (λ values never. never),
        absent_each names later,
      )

  -- an argument is given that has to be
  given_named : (name : Text) (a : Rule) → named_in name s.rules ≡ a ∷ []
      → (a.required && not (is_given a.id (rows_after s.rules [] words))) ≡ false
  given_named name a one =
      let all = named_each _ name s.rules (level_given s [] words [] none plain.wants) in
      let own = rw one at all in
      own.0

  -- a path alone
  pub one_given : (name : Text) (i : ℕ) → named_in name s.rules ≡ with_index i (filled (one_path name)) ∷ []
      → HasOne name (rows_after s.rules [] words)
  one_given name i one = level_values name AreOne s words
      (all_fit name AsWritten (λ _. AreOne) s.rules (rw one (one_fits _ _ tt refl refl refl refl, tt)))
      plain.once none (given_named name _ one)

  -- one path at least
  pub some_given : (name : Text) (i : ℕ) → named_in name s.rules ≡ with_index i (filled (some_paths name)) ∷ []
      → 1 ≤ length (given_for name (rows_after s.rules [] words))
  some_given name i some = level_values name AreSome s words
      (all_fit name AsWritten (λ _. AreSome) s.rules (rw some (some_fits _ _ joined refl refl refl, tt)))
      plain.once none (given_named name _ some)

pub command_serves : (verb : Verb) (s : Shape) → IsCommand verb s → Serves s
command_serves verb s is name met other words none =
    let plain = is.plain in
    let named = is.named in (
      verb,
      rows_after s.rules [] words,
      rw named refl,
      record {
        paths = is.paths plain words none;
        flags = level_flags verb s words plain.once none is.flags;
        others = among_each _ (lacked verb) (absent_each s words plain none (lacked verb) is.others);
      },
    )
