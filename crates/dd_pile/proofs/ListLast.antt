-- The list is made last: all copies have ended and were stored.
use Rattle.std.proofs.Common.{◌≡◌, ◌∙◌, ℕ, List, Option, None, Some, sym, ap, subst}
use Rattle.std.proofs.lemmas.List.{append_cancel_left}
use Rattle.std.specs.Prelude.{option_map}
use Rattle.dd_files.proofs.AddedWhole.{AddsWhole, last_after, stored_whole, whole_none, whole_published, whole_stored}
use Rattle.dd_files.proofs.AddedWhole.{whole_then}
use Rattle.dd_files.proofs.CutPower.{others_alone}
use Rattle.dd_files.proofs.KeptFiles.{held_published}
use Rattle.dd_files.specs.Calls.{Call, IsEndedBy, IsMadeBy}
use Rattle.dd_files.specs.Files.{Held, ended, published, stored}
use Rattle.dd_files.specs.Keeping.{Adds, IfSaid, IsFree}
use Rattle.dd_files.specs.PowerCuts.{IsAllStored}
use Rattle.dd_filing.specs.declared.source_copies.SourceCopy.{SourceCopy}
use Rattle.dd_files.proofs.SaidFiles.{said_both, said_so}
use Rattle.dd_files.proofs.OnePaths.{one_path}
use Rattle.dd_pile.proofs.PilePaths.{list_apart}
use Rattle.dd_pile.specs.Copies.{WritesCopy, WritesFront}
use Rattle.dd_pile.specs.Last.{HaveEnded, MakesListLast}
use Rattle.dd_pile.specs.Paths.{IsCopyOfPile, IsCopyPath, IsListPath}

-- ---- files at paths of one kind are at paths of a wider one

abbrev adds_wider : (MayBe Also : List ℕ → Type 0) (a b : Held) → ((path : List ℕ) → MayBe path → Also path)
    → Adds MayBe a b → Adds Also a b
adds_wider MayBe Also a b wider adds = record {
  stays = adds.stays;
  calls = adds.calls;
  asked = adds.asked;
  places = λ path made. wider path (adds.places path made);
  others = adds.others;
}

-- ---- each copy ends

have_ended : (MayBe : List ℕ → Type 0) (a b : Held) → AddsWhole MayBe a b → HaveEnded a b
have_ended MayBe a b is calls asked path made =
    let same = append_cancel_left a.calls is.adds.calls calls (sym is.adds.asked ∙ asked) in
    subst (λ (all : List Call). IsEndedBy all path) same
    (is.whole path (subst (λ (all : List Call). IsMadeBy all path) (sym same) made))

module _ (MayBe : List ℕ → Type 0) where
  pub said_whole_none : (a b : Option Held) → b ≡ a → IfSaid (AddsWhole MayBe) a b
  said_whole_none None b same = same
  said_whole_none (Some held) b same =
      subst (λ (x : Option Held). IfSaid (AddsWhole MayBe) (Some held) x) (sym same) (whole_none MayBe held)

  pub said_whole : (a b : Option Held) → IfSaid (Adds MayBe) a b → IfSaid HaveEnded a b → IfSaid (AddsWhole MayBe) a b
  said_whole None b adds ended = adds
  said_whole (Some a) None adds ended = adds
  said_whole (Some a) (Some b) adds ended = record { adds = adds; whole = ended adds.calls adds.asked }

  pub said_whole_then : (a b c : Option Held) → IfSaid (AddsWhole MayBe) a b → IfSaid (AddsWhole MayBe) b c
      → IfSaid (AddsWhole MayBe) a c
  said_whole_then a b c one two =
      said_both (AddsWhole MayBe) (AddsWhole MayBe) (AddsWhole MayBe) a b c (whole_then MayBe) one two

  pub said_adds : (a b : Option Held) → IfSaid (AddsWhole MayBe) a b → IfSaid (Adds MayBe) a b
  said_adds a b h = said_so (AddsWhole MayBe) (Adds MayBe) a b (λ old new is. is.adds) h

  pub said_ended_all : (a b : Option Held) → IfSaid (AddsWhole MayBe) a b → IfSaid HaveEnded a b
  said_ended_all a b h = said_so (AddsWhole MayBe) HaveEnded a b (have_ended MayBe) h

-- a copy that was written has ended
copy_whole : (pile : List ℕ) (number : ℕ) (path bytes : List ℕ) (a b : Option Held) → IsCopyPath pile number path
    → IsFree path a → b ≡ option_map (published path bytes) a → IfSaid (AddsWhole (IsCopyOfPile pile)) a b
copy_whole pile number path bytes None b place free made = made
copy_whole pile number path bytes (Some held) b place free made =
    subst (λ (x : Option Held). IfSaid (AddsWhole (IsCopyOfPile pile)) (Some held) x) (sym made)
    (whole_published (IsCopyOfPile pile) path bytes held (number, place) free)

pub copy_ended : (pile : List ℕ) (number : ℕ) (source : List ℕ) (copy : SourceCopy) (a b c : Option Held)
    → WritesCopy pile number source copy a b → c ≡ option_map ended b → IfSaid HaveEnded a c
copy_ended pile number source copy a b c h closed =
    said_ended_all (IsCopyOfPile pile) a c
    (copy_whole pile number h.starts.path h.bytes a c h.starts.place h.starts.free
    (held_published h.starts.path h.bytes a h.start b c h.starts.started h.written closed))

pub cut_ended : (pile : List ℕ) (number : ℕ) (a b c : Option Held) → WritesFront pile number a b
    → c ≡ option_map ended b → IfSaid HaveEnded a c
cut_ended pile number a b c h closed =
    said_ended_all (IsCopyOfPile pile) a c
    (copy_whole pile number h.starts.path h.bytes a c h.starts.place h.starts.free
    (held_published h.starts.path h.bytes a h.start b c h.starts.started h.written closed))

-- nothing was made
pub none_ended : (pile : List ℕ) (a b : Option Held) → b ≡ a → IfSaid HaveEnded a b
none_ended pile a b same =
    said_ended_all (IsCopyOfPile pile) a b (said_whole_none (IsCopyOfPile pile) a b same)

-- ---- the list is made last

pub copies_alone : (pile : List ℕ) (a b : Option Held) → IfSaid (Adds (IsCopyOfPile pile)) a b
    → IfSaid (MakesListLast pile) a b
copies_alone pile a b h = said_so (Adds (IsCopyOfPile pile)) (MakesListLast pile) a b
    (λ old new adds path place. others_alone (IsCopyOfPile pile) path old new (list_apart pile path place) adds) h

made_last : (pile : List ℕ) (old mid new : Held) → AddsWhole (IsCopyOfPile pile) old mid
    → Adds (IsListPath pile) (stored mid) new → MakesListLast pile old new
made_last pile old mid new copies list path place =
    last_after (IsCopyOfPile pile) path old mid new (list_apart pile path place) copies
    (adds_wider (IsListPath pile) (λ other. path ≡ other) (stored mid) new
    (λ other there. one_path pile _ path other place there) list)

pub list_last : (pile : List ℕ) (a b c d : Option Held) → IfSaid (Adds (IsCopyOfPile pile)) a b → IfSaid HaveEnded a b
    → c ≡ option_map stored b → IfSaid (Adds (IsListPath pile)) c d → IfSaid (MakesListLast pile) a d
list_last pile None b c d adds ended safe list =
    subst (λ (x : Option Held). IfSaid (Adds (IsListPath pile)) x d)
    (safe ∙ ap (λ (x : Option Held). option_map stored x) adds) list
list_last pile (Some a) None c d adds ended safe list = absurd adds
list_last pile (Some a) (Some b) c None adds ended safe list =
    absurd (subst (λ (x : Option Held). IfSaid (Adds (IsListPath pile)) x None) safe list)
list_last pile (Some a) (Some b) c (Some d) adds ended safe list =
    made_last pile a b d (record { adds = adds; whole = ended adds.calls adds.asked })
    (subst (λ (x : Option Held). IfSaid (Adds (IsListPath pile)) x (Some d)) safe list)

-- ---- all of it is stored

abbrev Any : List ℕ → Type 0
Any path = Unit {0}

pub list_stored : (pile path text : List ℕ) (a b : Held) → Adds (IsCopyOfPile pile) a b → HaveEnded a b
    → b.bytes_at path ≡ None → IsAllStored a (stored (published path text (stored b)))
list_stored pile path text a b adds ended free =
    let listed = published path text (stored b) in
    let copies : AddsWhole Any a b = record {
      adds = adds_wider (IsCopyOfPile pile) Any a b (λ other place. tt) adds;
      whole = ended adds.calls adds.asked;
    } in
    stored_whole Any a listed
    (whole_then Any a (stored b) listed (whole_then Any a b (stored b) copies (whole_stored Any b))
    (whole_published Any path text (stored b) tt free))
