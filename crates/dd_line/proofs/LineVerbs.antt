-- The subcommand that a parse entered, by the command that it names.
use Rattle.std.proofs.Common.{◌≡◌, ◌⊎◌, ◌↔◌, ◌∙◌, false, List, Option, Some, None, ap, ap₂, inl, inr, refl, subst, sym, true≢false}
use Rattle.std.proofs.lemmas.Slice.Eq.{bytes_eq-Decides}
use Rattle.std.proofs.lemmas.Option.{same_Some}
use Rattle.std.specs.Box.{box_value}
use Rattle.std.specs.Option.{option_map}
use Rattle.std.specs.Prelude.{Box, codes, if◌then◌else◌}
use Rattle.std.specs.Str.{bytes_eq}
use Rattle.clap.specs.Simple.{subcommand_rows}
use Rattle.clap.specs.Walk.{Row, Text}
use Rattle.clap.specs.declared.parser.matches.ArgMatches.TheViews.{out-SubCommand}
use Rattle.clap.specs.declared.parser.matches.SubCommand.{SubCommand}
use Rattle.dd_line.specs.Line.{Asks, IsAsked, IsReading, OnlyReads, verb_name}
use Rattle.dd_line.specs.Requests.{IsRequested, IsServed, NamesCommand, Requests}
use Rattle.dd_line.specs.declared.line.Asked.{Asked}
use Rattle.dd_line.specs.declared.request.Request.{Request}
use Rattle.dd_line.specs.declared.line.Verb.{Verb}
use Rattle.dd_line.specs.declared.line.Verb.TheVariants.{Index, Merge, Withdraw, Stage, Publish, Check, List as ListSet}

-- the command that has a name
abbrev verb_of : Text → Verb
verb_of name = if bytes_eq name (codes "index") then Index
    else (if bytes_eq name (codes "merge") then Merge
    else (if bytes_eq name (codes "withdraw") then Withdraw
    else (if bytes_eq name (codes "stage") then Stage
    else (if bytes_eq name (codes "publish") then Publish
    else (if bytes_eq name (codes "check") then Check else ListSet)))))

verb_of-name : (verb : Verb) → verb_of (verb_name verb) ≡ verb
verb_of-name Index = refl
verb_of-name Merge = refl
verb_of-name Withdraw = refl
verb_of-name Stage = refl
verb_of-name Publish = refl
verb_of-name Check = refl
verb_of-name ListSet = refl

-- two commands of one name are one
same_verb : (a b : Verb) → verb_name a ≡ verb_name b → a ≡ b
same_verb a b named = sym (verb_of-name a) ∙ ap verb_of named ∙ verb_of-name b

-- the command that was named was given what it needs
named_served : (verb : Verb) (command : Text) (rows given : List Row) → NamesCommand (Some (command, rows))
    → command ≡ verb_name verb → given ≡ rows → IsServed verb given
named_served verb command rows given (named, had, is, served) name same =
    let pair = same_Some (command, rows) (verb_name named, had) is in
    let verbs = same_verb named verb (sym (ap (λ (p : Text × List Row). p.0) pair) ∙ name) in
    let lists = sym (ap (λ (p : Text × List Row). p.1) pair) ∙ sym same in
    subst (λ (v : Verb). IsServed v given) verbs
    (subst (λ (xs : List Row). IsServed named xs) lists served)

module _ {Z : Type 0} (entered : Option (Box SubCommand Z)) (name : Text) (given : List Row)
    (called : Some name ≡ option_map (λ b. (out-SubCommand (box_value b)).name.now) entered)
    (has : Some given ≡ option_map (λ p. p.1) (subcommand_rows entered)) where
  -- the subcommand that was entered, by its name and its rows
  pub entered_rows : subcommand_rows entered ≡ Some (name, given)
  entered_rows = go entered called has
    where
      go : (o : Option (Box SubCommand Z)) → Some name ≡ option_map (λ b. (out-SubCommand (box_value b)).name.now) o
          → Some given ≡ option_map (λ p. p.1) (subcommand_rows o) → subcommand_rows o ≡ Some (name, given)
      go None called has = cc
      go (Some b) called has =
          let names = same_Some _ _ called in
          let rows = same_Some _ _ has in
          ap Some (ap₂ (λ (n : Text) (g : List Row). (n, g)) (sym names) (sym rows))

  pub entered_served : (verb : Verb) → NamesCommand (subcommand_rows entered) → name ≡ verb_name verb
      → IsServed verb given
  entered_served verb names is = named_served verb name given given (subst NamesCommand entered_rows names) is refl

-- ---- a request as a line

pub requested_asks : (r : Request) (a : Asked) (found : Option (Text × List Row)) → IsRequested r found
    → ((command : Text) → (given : List Row) → Requests r command given → Asks a command given) → IsAsked a found
requested_asks r a None requested asks = absurd requested
requested_asks r a (Some (command, given)) requested asks = asks command given requested

-- the command has the name of one that only reads
abbrev pub IsReader : Text → Type 0
IsReader command = (command ≡ codes "check") ⊎ (command ≡ codes "list")

no_reader : (command : Text) → bytes_eq command (codes "check") ≡ false → bytes_eq command (codes "list") ≡ false
    → IsReader command → ⊥
no_reader command check list (inl is) = true≢false (sym ((bytes_eq-Decides command (codes "check")).1 is) ∙ check)
no_reader command check list (inr is) = true≢false (sym ((bytes_eq-Decides command (codes "list")).1 is) ∙ list)

-- such a command is one of them
pub reader : (verb : Verb) → OnlyReads verb ↔ IsReader (verb_name verb)
reader Index = (λ reads. absurd reads, no_reader (codes "index") refl refl)
reader Merge = (λ reads. absurd reads, no_reader (codes "merge") refl refl)
reader Withdraw = (λ reads. absurd reads, no_reader (codes "withdraw") refl refl)
reader Stage = (λ reads. absurd reads, no_reader (codes "stage") refl refl)
reader Publish = (λ reads. absurd reads, no_reader (codes "publish") refl refl)
reader Check = (λ _. inl refl, λ _. tt)
reader ListSet = (λ _. inr refl, λ _. tt)

-- a line only reads where its words name such a command
pub asked_reads : (a : Asked) (found : Option (Text × List Row)) → IsAsked a found → OnlyReads a.verb ↔ IsReading found
asked_reads a None asked = absurd asked
asked_reads a (Some (command, given)) asked =
    subst (λ (c : Text). OnlyReads a.verb ↔ IsReader c) asked.verb (reader a.verb)
