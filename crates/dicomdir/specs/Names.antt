-- The names of a command line: which have the wrong form (File-set IDs, PS3.3 section F.3.2.1, and UIDs, PS3.5 section
-- 9.1), and which label they ask for.
use Rattle.std.specs.Prelude.{◌≡◌, ◌⊎◌, List, [], Option, Some, String, Contains, unwrap_or}
use Rattle.std.specs.declared.alloc.Global.{Global}
use Rattle.clap.specs.Words.{Text}
use Rattle.dd_elem.specs.SetId.{IsSetId}
use Rattle.dd_engine.specs.declared.choice.Choice.{Choice}
use Rattle.dd_elem.specs.Uid.{IsUid}
use Rattle.dd_line.specs.Line.{words_of}
use Rattle.dd_line.specs.Requests.{id_of, uid_of}
use Rattle.dd_line.specs.declared.request.Request.{Request}

-- the ID of the file-set, or its UID
abbrev pub HasBadId : Request → Type 0
HasBadId r = (id : Text) × (id_of r ≡ Some id) × ¬ IsSetId id

abbrev pub HasBadOwnUid : Request → Type 0
HasBadOwnUid r = (uid : Text) × (uid_of r ≡ Some uid) × ¬ IsUid uid

abbrev pub HasBadLabel : Request → Type 0
HasBadLabel r = HasBadId r ⊎ HasBadOwnUid r

-- the label that these texts ask for: the ID is empty where there is no text of it
abbrev pub choice_by : Option Text → Option Text → Choice
choice_by id uid = record { id = unwrap_or id []; uid = uid }

-- one of these texts is not a UID
abbrev pub HasBadUid : List (String Global) → Type 0
HasBadUid texts = (uid : Text) × Contains (words_of texts) uid × ¬ IsUid uid
