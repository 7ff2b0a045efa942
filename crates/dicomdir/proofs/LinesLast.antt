-- What a request makes last is what the words of its line have made last.
use Rattle.std.proofs.Common.{◌≡◌, ◌∙◌, List, [], Option, None, Some, ap, codes, get_or, refl, string_bytes, subst, sym}
use Rattle.std.specs.Prelude.{if◌then◌else◌}
use Rattle.std.specs.Str.{bytes_eq}
use Rattle.clap.specs.Words.{Row, Text, first_of}
use Rattle.dd_files.specs.Files.{Held}
use Rattle.dd_files.specs.Keeping.{IfSaid}
use Rattle.dd_line.specs.Line.{from_name, out_name, verb_name}
use Rattle.dd_line.specs.Requests.{IsOnly, IsRequested, Requests, verb_of}
use Rattle.dd_line.specs.declared.line.Verb.{Verb}
use Rattle.dd_line.specs.declared.line.Verb.TheVariants as verbs
use Rattle.dd_line.specs.declared.request.Request.{Request}
use Rattle.dd_line.specs.declared.request.Request.TheVariants.{Check, Index, List as ListSet, Merge, Publish, Stage, Withdraw}
use Rattle.dicomdir.proofs.LinesMade.{from_is}
use Rattle.dicomdir.proofs.MadeLast.{directory_none, keeps_same, list_none}
use Rattle.dd_inputs.specs.From.{from_text, looked_up}
use Rattle.dicomdir.specs.Last.{MakesLastBy, MakesLastLine, MakesLastOf, StagesListLast}
use Rattle.dd_file_set.specs.Left.{MakesDirectoryLast}

-- ---- the command

-- the command of a name
abbrev named : Text → Verb
named name = if bytes_eq name (codes "index") then verbs.Index
    else (if bytes_eq name (codes "merge") then verbs.Merge
    else (if bytes_eq name (codes "withdraw") then verbs.Withdraw
    else (if bytes_eq name (codes "stage") then verbs.Stage
    else (if bytes_eq name (codes "publish") then verbs.Publish
    else (if bytes_eq name (codes "check") then verbs.Check else verbs.List)))))

named-name : (verb : Verb) → named (verb_name verb) ≡ verb
named-name verbs.Index = refl
named-name verbs.Merge = refl
named-name verbs.Withdraw = refl
named-name verbs.Stage = refl
named-name verbs.Publish = refl
named-name verbs.Check = refl
named-name verbs.List = refl

-- two commands of one name are one
same_verb : (a b : Verb) → verb_name a ≡ verb_name b → a ≡ b
same_verb a b same = sym (named-name a) ∙ ap named same ∙ named-name b

-- one argument has one value
same_value : (name : Text) (given : List Row) (a b : Text) → IsOnly name given a → IsOnly name given b → a ≡ b
same_value name given a b one other = ap (λ (values : List Text). get_or values 0 []) (sym one ∙ other)

-- ---- what is made last

-- by the command of the request, whose OUT or PILE is this
module _ (command : Text) (given : List Row) (old new : Held) where
  by_request : (r : Request) (out : Text) → Requests r command given → IsOnly out_name given out → MakesLastOf r old new
      → MakesLastBy (verb_of r) given out old new
  by_request (Index x) out h place last = subst (λ (o : Text). MakesDirectoryLast o old new)
      (same_value out_name given (string_bytes x.new_set.out) out h.values.new_set.out place) last
  by_request (Merge x) out h place last = subst (λ (o : Text). MakesDirectoryLast o old new)
      (same_value out_name given (string_bytes x.new_set.out) out h.values.new_set.out place) last
  by_request (Withdraw x) out h place last = subst (λ (o : Text). MakesDirectoryLast o old new)
      (same_value out_name given (string_bytes x.new_set.out) out h.values.new_set.out place) last
  by_request (Stage x) out h place last = subst (λ (o : Text). StagesListLast o old new)
      (same_value out_name given (string_bytes x.pile) out h.values.pile place) last
  by_request (Publish x) out h place last =
      let from = from_is x.from (first_of from_name given) h.values.from in
      subst (λ (f : Text). MakesDirectoryLast (looked_up f out) old new) from
      (subst (λ (o : Text). MakesDirectoryLast (looked_up (from_text x.from) o) old new)
      (same_value out_name given (string_bytes x.new_set.out) out h.values.new_set.out place) last)
  by_request (Check x) out h place last = last
  by_request (ListSet x) out h place last = last

-- ---- by the words of the line

pub last_line : (r : Request) (found : Option (Text × List Row)) (old new : Option Held) → IsRequested r found
    → IfSaid (MakesLastOf r) old new → IfSaid (MakesLastLine found) old new
last_line r None old new h last = absurd h
last_line r (Some (command, given)) None new h last = last
last_line r (Some (command, given)) (Some old) None h last = absurd last
last_line r (Some (command, given)) (Some old) (Some new) h last = λ verb out named place.
    subst (λ (v : Verb). MakesLastBy v given out old new) (same_verb (verb_of r) verb (h.verb ∙ named))
    (by_request command given old new r out h place last)

-- a line that is refused
unmade_by : (verb : Verb) (given : List Row) (out : Text) (held : Held) → MakesLastBy verb given out held held
unmade_by verbs.Index given out held = directory_none out held
unmade_by verbs.Merge given out held = directory_none out held
unmade_by verbs.Withdraw given out held = directory_none out held
unmade_by verbs.Stage given out held = list_none out held
unmade_by verbs.Publish given out held = directory_none _ held
unmade_by verbs.Check given out held = keeps_same held
unmade_by verbs.List given out held = keeps_same held

pub unmade_line : (found : Option (Text × List Row)) (files : Option Held) → IfSaid (MakesLastLine found) files files
unmade_line found None = refl
unmade_line None (Some held) = keeps_same held
unmade_line (Some (command, given)) (Some held) = λ verb out named place. unmade_by verb given out held
