-- A file-set that was made, image by image and then its directory, stands whole.
use Rattle.std.proofs.Common.{◌≡◌, ◌∙◌, ℕ, List, [], ◌∷◌, Option, None, Some, ap, inl, inr, refl, subst, sym}
use Rattle.std.specs.Prelude.{◌⊎◌, IsSomeAnd, option_map}
use Rattle.dd_dir.specs.Directories.{directory_of}
use Rattle.dd_elem.specs.FileId.{Ranks}
use Rattle.dd_files.proofs.AddedWhole.{AddsWhole, stored_whole, whole_linked, whole_none, whole_published, whole_stored}
use Rattle.dd_files.proofs.AddedWhole.{whole_then}
use Rattle.dd_files.proofs.FileLaws.{file_here, file_there}
use Rattle.dd_files.proofs.KeptFiles.{all_then, new_keeps}
use Rattle.dd_files.specs.Files.{Held, linked, published, stored, with_file}
use Rattle.dd_files.specs.Keeping.{IfSaid, IsFree, KeepsAll}
use Rattle.dd_files.specs.PowerCuts.{IsAllStored}
use Rattle.dd_filing.specs.declared.agreeing.Filed.TheVariants.{AsPlanned}
use Rattle.dd_filing.specs.Filing.{IsFileAs}
use Rattle.dd_version.specs.declared.parts.Parts.{Parts}
use Rattle.dd_records.specs.declared.record.PlanRecord.{PlanRecord}
use Rattle.dd_layout.specs.Layouts.{Layout}
use Rattle.dd_file_set.specs.Made.{HasAtOne, IsImagePath, IsPlace, MakesFileSet, MakesImage, MakesRows}
use Rattle.dd_file_set.specs.Standing.{AllStand, IsOfOne, StandsWhole, picked_rows}

-- ---- one new file

-- where no file stands now, none stood before
free_before : (old new : Held) (path : List ℕ) → KeepsAll old new → new.bytes_at path ≡ None → old.bytes_at path ≡ None
free_before old new path keeps free = go (old.bytes_at path) refl
  where
    go : (file : Option (List ℕ)) → old.bytes_at path ≡ file → old.bytes_at path ≡ None
    go None is = is
    go (Some bytes) is =
        let amiss : None ≡ Some bytes = sym free ∙ keeps.stays path bytes is in absurd (cc)

-- ---- one image

some_bytes : (file : Option (List ℕ)) (P : List ℕ → Type 0) → IsSomeAnd file P
    → (bytes : List ℕ) × (file ≡ Some bytes) × P bytes
some_bytes None P some = absurd some
some_bytes (Some bytes) P some = (bytes, refl, some)

-- the image is the one new file
record OneStands (From MayLink : List ℕ → Type 0) (said : Option Parts) (folder : List ℕ) (file : Ranks)
    (planned : Parts) (old : Held)
    (new : Option Held) : Type 0 where
  after : Held
  is : new ≡ Some after
  path : List ℕ
  place : IsPlace folder file path
  free : old.bytes_at path ≡ None
  bytes : List ℕ
  made : after.bytes_at ≡ with_file path (Some bytes) old.bytes_at
  of_pick : HasAtOne From bytes (Some old)
  kind : IsFileAs planned said AsPlanned bytes ⊎ MayLink bytes
  whole : AddsWhole (IsImagePath folder) old after

one_stands : (From MayLink : List ℕ → Type 0) (said : Option Parts) (folder : List ℕ) (file : Ranks) (planned : Parts)
    (old : Held)
    (new : Option Held) → MakesImage From MayLink said folder file planned (Some old) new
    → OneStands From MayLink said folder file planned old new
one_stands From MayLink said folder file planned old new (inl copied) = record {
  after = published copied.path copied.bytes old;
  is = copied.made;
  path = copied.path;
  place = copied.place;
  free = copied.free;
  bytes = copied.bytes;
  made = refl;
  of_pick = copied.of;
  kind = inl copied.is;
  whole = whole_published (IsImagePath folder) copied.path copied.bytes old
      (record { file = file; ranks = copied.ranks; place = copied.place }) copied.free;
}
one_stands From MayLink said folder file planned old new (inr link) =
    let some = some_bytes (old.bytes_at link.from) MayLink link.there in
    record {
      after = linked link.from link.path old;
      is = link.made;
      path = link.path;
      place = link.place;
      free = link.free;
      bytes = some.0;
      made = ap (λ (file : Option (List ℕ)). with_file link.path file old.bytes_at) some.1;
      of_pick = record { from = link.from; picked = link.picked; there = some.1 };
      kind = inr some.2;
      whole = whole_linked (IsImagePath folder) link.from link.path old
          (record { file = file; ranks = link.ranks; place = link.place }) link.free;
    }

-- a file that had these bytes has them still
has_later : (From : List ℕ → Type 0) (bytes : List ℕ) (old new : Held) → KeepsAll old new
    → HasAtOne From bytes (Some old) → HasAtOne From bytes (Some new)
has_later From bytes old new keeps at =
    record { from = at.from; picked = at.picked; there = keeps.stays at.from bytes at.there }

-- ---- the images

module _ {P : Type 0} (From MayLink : P → List ℕ → Type 0) (said : P → Option Parts) (folder : List ℕ)
    (versions : List Parts) (first : Held)
  where
    -- the images of these records stand, what stood before does, and nothing else was made
    record RowsStand (rows : List (PlanRecord × P)) (old : Held) (new : Option Held) : Type 0 where
      after : Held
      is : new ≡ Some after
      stays : KeepsAll old after
      images : AllStand From MayLink said folder versions rows first after
      others : (other : List ℕ) → ¬ IsOfOne folder rows other → after.bytes_at other ≡ old.bytes_at other
      whole : AddsWhole (IsImagePath folder) old after

    rows_stand : (rows : List (PlanRecord × P)) (old : Held) (new : Option Held) → KeepsAll first old
        → MakesRows From MayLink said folder versions rows (Some old) new → RowsStand rows old new
    rows_stand [] old new keeps made = record {
      after = old;
      is = made;
      stays = record { stays = λ path bytes stood. stood };
      images = tt;
      others = λ other apart. refl;
      whole = whole_none (IsImagePath folder) old;
    }
    rows_stand (row ∷ rows) old new keeps made =
        let row_made = made.1 in
        let one = one_stands (From row.1) (MayLink row.1)
        (said row.1) folder row_made.file row_made.planned old made.0 row_made.made in
        let mid = one.after in
        let step = new_keeps old mid one.path (Some one.bytes) one.made one.free in
        let rest = rows_stand rows mid new (all_then first old mid keeps step)
        (subst (λ (held : Option Held). MakesRows From MayLink said folder versions rows held new) one.is made.2) in
        record {
          after = rest.after;
          is = rest.is;
          stays = all_then old mid rest.after step rest.stays;
          images = (
            record {
              file = row_made.file;
              named = row_made.named;
              planned = row_made.planned;
              of = row_made.of;
              path = one.path;
              place = one.place;
              free = free_before first old one.path keeps one.free;
              bytes = one.bytes;
              image = rest.stays.stays one.path one.bytes
                  (ap (λ (files : List ℕ → Option (List ℕ)). files one.path) one.made
                  ∙ file_here one.path (Some one.bytes) old.bytes_at);
              of_pick = has_later (From row.1) one.bytes mid rest.after rest.stays
                  (has_later (From row.1) one.bytes old mid step one.of_pick);
              is = one.kind;
            },
            rest.images,
          );
          others = λ other apart. rest.others other (λ later. apart (inr later))
              ∙ ap (λ (files : List ℕ → Option (List ℕ)). files other) one.made
              ∙ file_there one.path other (Some one.bytes) old.bytes_at
              (λ same. apart (inl (record {
                file = row_made.file;
                named = row_made.named;
                place = subst (IsPlace folder row_made.file) same one.place;
              })));
          whole = whole_then (IsImagePath folder) old mid rest.after one.whole rest.whole;
        }

-- the images stand also where one more file is made
module _ {P : Type 0} (From MayLink : P → List ℕ → Type 0) (said : P → Option Parts) (folder : List ℕ)
    (versions : List Parts)
    (first old new : Held) (keeps : KeepsAll old new) where
  still_stand : (rows : List (PlanRecord × P)) → AllStand From MayLink said folder versions rows first old
      → AllStand From MayLink said folder versions rows first new
  still_stand [] stand = tt
  still_stand (row ∷ rows) stand = (
    record {
      file = stand.0.file;
      named = stand.0.named;
      planned = stand.0.planned;
      of = stand.0.of;
      path = stand.0.path;
      place = stand.0.place;
      free = stand.0.free;
      bytes = stand.0.bytes;
      image = keeps.stays stand.0.path stand.0.bytes stand.0.image;
      of_pick = has_later (From row.1) stand.0.bytes old new keeps stand.0.of_pick;
      is = stand.0.is;
    },
    still_stand rows stand.1,
  )

-- ---- files that do not say what they hold

one_unsaid : (From MayLink : List ℕ → Type 0) (said : Option Parts) (folder : List ℕ) (file : Ranks) (planned : Parts)
    (new : Option Held)
    → MakesImage From MayLink said folder file planned None new → new ≡ None
one_unsaid From MayLink said folder file planned new (inl copied) = copied.made
one_unsaid From MayLink said folder file planned new (inr link) = link.made

pub rows_unsaid : {P : Type 0} (From MayLink : P → List ℕ → Type 0) (said : P → Option Parts) (folder : List ℕ)
    (versions : List Parts)
    (rows : List (PlanRecord × P)) (new : Option Held) → MakesRows From MayLink said folder versions rows None new
    → new ≡ None
rows_unsaid From MayLink said folder versions [] new made = made
rows_unsaid From MayLink said folder versions (row ∷ rows) new made =
    let row_made = made.1 in
    let none = one_unsaid (From row.1) (MayLink row.1) (said row.1) folder row_made.file row_made.planned made.0
    row_made.made in
    rows_unsaid From MayLink said folder versions rows new
    (subst (λ (held : Option Held). MakesRows From MayLink said folder versions rows held new) none made.2)

-- ---- all of it

said_by : (Holds : Held → Held → Type 0) (old after : Held) (new : Option Held) → new ≡ Some after → Holds old after
    → IfSaid Holds (Some old) new
said_by Holds old after new is holds =
    subst (λ (held : Option Held). IfSaid Holds (Some old) held) (sym is) holds

-- the directory is stored after all
abbrev pub with_directory : List ℕ → List ℕ → Held → Held
with_directory path text held = stored (published path text (stored held))

directory_whole : (folder path text : List ℕ) (old mid : Held) → AddsWhole (IsImagePath folder) old mid
    → mid.bytes_at path ≡ None → IsAllStored old (with_directory path text mid)
directory_whole folder path text old mid whole free =
    let Any = λ (other : List ℕ). Unit {0} in
    stored_whole Any old (published path text (stored mid)) (whole_then Any old (stored mid)
    (published path text (stored mid))
    (whole_then Any old mid (stored mid) (at_any old mid whole) (whole_stored Any mid))
    (whole_published Any path text (stored mid) tt free))
  where
    at_any : (old mid : Held) → AddsWhole (IsImagePath folder) old mid → AddsWhole (λ other. Unit {0}) old mid
    at_any old mid whole = record {
      adds = record {
        stays = whole.adds.stays;
        calls = whole.adds.calls;
        asked = whole.adds.asked;
        places = λ other made. tt;
        others = whole.adds.others;
      };
      whole = whole.whole;
    }

pub stands_whole : {P : Type 0} (From MayLink : P → List ℕ → Type 0) (said : P → Option Parts) (folder : List ℕ)
    (plan : Layout)
    (picks : List P) (old new : Option Held) → MakesFileSet From MayLink said folder plan picks old new
    → IfSaid (StandsWhole From MayLink said folder plan picks) old new
stands_whole From MayLink said folder plan picks None new made =
    let text = directory_of plan.label plan.versions plan.withdrawn in
    made.directory ∙ ap (λ (held : Option Held). option_map (with_directory made.path text) held)
    (rows_unsaid From MayLink said folder plan.versions (picked_rows plan picks) made.copied made.images)
stands_whole From MayLink said folder plan picks (Some old) new made =
    let rows = picked_rows plan picks in
    let same : KeepsAll old old = record { stays = λ path bytes stood. stood } in
    let all = rows_stand From MayLink said folder plan.versions old rows old made.copied same made.images in
    let text = directory_of plan.label plan.versions plan.withdrawn in
    let free = subst (λ (held : Option Held). IsFree made.path held) all.is made.free in
    let end = with_directory made.path text all.after in
    let keeps = new_keeps all.after end made.path (Some text) refl free in
    said_by (StandsWhole From MayLink said folder plan picks) old end new
    (made.directory ∙ ap (λ (held : Option Held). option_map (with_directory made.path text) held) all.is)
    (record {
      stays = all_then old all.after end all.stays keeps;
      images = still_stand From MayLink said folder plan.versions old all.after end keeps rows all.images;
      path = made.path;
      place = made.place;
      free = free_before old all.after made.path all.stays free;
      directory = file_here made.path (Some text) all.after.bytes_at;
      visited = made.visited;
      again = made.again;
      others = λ other apart none. file_there made.path other (Some text) all.after.bytes_at apart
          ∙ all.others other none;
      stored = directory_whole folder made.path text old all.after all.whole free;
    })

-- what the images of a plan add, where the files say what they hold
pub record ImagesAdd (folder : List ℕ) (old : Held) (new : Option Held) : Type 0 where
  pub after : Held
  pub is : new ≡ Some after
  pub whole : AddsWhole (IsImagePath folder) old after

pub images_add : {P : Type 0} (From MayLink : P → List ℕ → Type 0) (said : P → Option Parts) (folder : List ℕ)
    (plan : Layout)
    (picks : List P) (old : Held) (new : Option Held)
    → MakesRows From MayLink said folder plan.versions (picked_rows plan picks) (Some old) new
    → ImagesAdd folder old new
images_add From MayLink said folder plan picks old new made =
    let same : KeepsAll old old = record { stays = λ path bytes stood. stood } in
    let all = rows_stand From MayLink said folder plan.versions old (picked_rows plan picks) old new same made in
    record { after = all.after; is = all.is; whole = all.whole }
