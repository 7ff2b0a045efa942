-- What a request says of the making of a file-set is what the words say.
use Rattle.std.proofs.Common.{◌≡◌, ◌∙◌, Bool, List, Option, Some, None, false, refl, sym, true}
use Rattle.clap.specs.Words.{Row, Text}
use Rattle.dd_line.specs.Requests.{IsRequested, is_dry, keeps_going}
use Rattle.dd_line.specs.declared.request.Request.{Request}
use Rattle.dd_line.proofs.RequestLemmas.{says_parts}
use Rattle.dicomdir.specs.DryRun.{HasDryRun, HasKeepGoing}

-- a dry run
pub requested_dry : (r : Request) (found : Option (Text × List Row)) → IsRequested r found → HasDryRun found
    → is_dry r ≡ true
requested_dry r None h has = absurd h
requested_dry r (Some (command, given)) h has = (says_parts r command given h).dry_run ∙ has

not_true : (b : Bool) → ¬ (b ≡ true) → b ≡ false
not_true true none = absurd (none refl)
not_true false none = refl

-- none
pub requested_work : (r : Request) (found : Option (Text × List Row)) → IsRequested r found → ¬ HasDryRun found
    → is_dry r ≡ false
requested_work r None h none = absurd h
requested_work r (Some (command, given)) h none =
    not_true (is_dry r) (λ dry. none (sym (says_parts r command given h).dry_run ∙ dry))

-- going on past sources that fail
pub given_keep_going : (r : Request) (found : Option (Text × List Row)) → IsRequested r found → keeps_going r ≡ true
    → HasKeepGoing found
given_keep_going r None h keeps = absurd h
given_keep_going r (Some (command, given)) h keeps = sym (says_parts r command given h).keep_going ∙ keeps
