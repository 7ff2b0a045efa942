-- Where nothing is made, nothing is made too early.
use Rattle.std.proofs.Common.{◌≡◌, ℕ, List, Option, inl, refl, subst}
use Rattle.std.specs.Prelude.{IsSome}
use Rattle.dd_files.proofs.CutPower.{others_alone, safe_at_cuts}
use Rattle.dd_files.proofs.KeptFiles.{adds_none}
use Rattle.dd_files.proofs.SaidFiles.{said_same, said_so}
use Rattle.dd_files.specs.Files.{Held}
use Rattle.dd_files.specs.Keeping.{IfSaid, KeepsAll}
use Rattle.dd_files.specs.PowerCuts.{MakesLast}
use Rattle.dd_line.specs.declared.request.Request.{Request}
use Rattle.dd_line.specs.declared.request.Request.TheVariants.{Check, Index, List as ListSet, Merge, Publish, Stage, Withdraw}
use Rattle.dd_pile.specs.Last.{MakesListLast}
use Rattle.dicomdir.specs.Last.{MakesLastOf, StagesListLast}
use Rattle.dd_file_set.specs.Left.{MakesDirectoryLast}

-- ---- no call was asked for

none_last : (path : List ℕ) (held : Held) → MakesLast path held held
none_last path held = others_alone (λ other. ⊥) path held held (λ none. none) (adds_none (λ other. ⊥) held)

pub keeps_same : (held : Held) → KeepsAll held held
keeps_same held = record { stays = λ path bytes is. is }

pub directory_none : (folder : List ℕ) (held : Held) → MakesDirectoryLast folder held held
directory_none folder held = record {
  last = λ path place. none_last path held;
  cuts = λ path place. safe_at_cuts path held held (none_last path held);
  directory = λ path place. inl refl;
  places = λ path free some. absurd (let amiss = subst IsSome free some in cc);
}

pub list_none : (pile : List ℕ) (held : Held) → StagesListLast pile held held
list_none pile held = record {
  last = λ path place. none_last path held;
  cuts = λ path place. safe_at_cuts path held held (none_last path held);
}

request_none : (r : Request) (held : Held) → MakesLastOf r held held
request_none (Index x) held = directory_none _ held
request_none (Merge x) held = directory_none _ held
request_none (Withdraw x) held = directory_none _ held
request_none (Stage x) held = list_none _ held
request_none (Publish x) held = directory_none _ held
request_none (Check x) held = keeps_same held
request_none (ListSet x) held = keeps_same held

-- ---- the files hold what they held

pub same_directory : (folder : List ℕ) (a b : Option Held) → b ≡ a → IfSaid (MakesDirectoryLast folder) a b
same_directory folder a b same = said_same (MakesDirectoryLast folder) (directory_none folder) a b same

pub same_list : (pile : List ℕ) (a b : Option Held) → b ≡ a → IfSaid (StagesListLast pile) a b
same_list pile a b same = said_same (StagesListLast pile) (list_none pile) a b same

pub same_request : (r : Request) (a b : Option Held) → b ≡ a → IfSaid (MakesLastOf r) a b
same_request r a b same = said_same (MakesLastOf r) (request_none r) a b same

-- ---- a pile

pub list_cuts : (pile : List ℕ) (a b : Option Held) → IfSaid (MakesListLast pile) a b → IfSaid (StagesListLast pile) a b
list_cuts pile a b made = said_so (MakesListLast pile) (StagesListLast pile) a b
    (λ old new last. record { last = last; cuts = λ path place. safe_at_cuts path old new (last path place) }) made
