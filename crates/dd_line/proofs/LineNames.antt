-- Words at which no parse fails name a command of the program.
use Rattle.std.proofs.Common.{◌≡◌, List, [], is_some, refl}
use Rattle.clap.specs.Faults.{fault_of, entered_fault, walk_fault}
use Rattle.clap.specs.Simple.{argument_words, built, entered, names_of, subcommand_of}
use Rattle.clap.specs.Walk.{Text, nothing_held, stop_after, walk_from}
use Rattle.dd_line.specs.Line.{dicomdir_app}
use Rattle.dd_line.specs.Requests.{NamesCommand}
use Rattle.dd_line.proofs.LineEach.{Each, first_none, second_none}
use Rattle.dd_line.proofs.LineHelp.{NotHelp, level_needs, walk_not_help}
use Rattle.dd_line.proofs.LineCommands.{check_serves, index_serves, list_serves, merge_serves, publish_serves}
use Rattle.dd_line.proofs.LineCommands.{stage_serves, withdraw_serves}
use Rattle.dd_line.proofs.LineServes.{Serves, entered_serves, help_serves}

-- words with no fault name a command
pub names_command : (words : List Text) → fault_of dicomdir_app words ≡ []
    → NamesCommand (subcommand_of dicomdir_app words)
names_command words none =
    let app = built dicomdir_app in
    let rest = argument_words dicomdir_app words in
    let stop = stop_after app.top.rules (names_of app) rest in
    let needs = level_needs app.top (names_of app) nothing_held rest (is_some (entered app stop))
    (entered_fault app stop) none in
    let other : NotHelp stop = walk_not_help app.top (names_of app) (walk_from nothing_held) rest refl tt needs.0 in
    let one = walk_fault app.top (names_of app) (walk_from nothing_held) rest in
    let below : entered_fault app stop ≡ [] = first_none _ _ (second_none one _ none) in
    let serves : Each Serves app.subs = (
      index_serves,
      (
        merge_serves,
        (
          withdraw_serves,
          (
            stage_serves,
            (publish_serves, (check_serves, (list_serves, (help_serves _ refl refl, tt)))),
          ),
        ),
      ),
    ) in
    entered_serves app stop serves other (needs.1 refl) below
