-- One copy more in a pile.
use Rattle.std.proofs.Common.{◌≡◌, ◌∙◌, ◌+◌, ◌<◌, ℕ, zero, suc, List, []}
use Rattle.std.proofs.Common.{◌∷◌, ◌++◌, Option, None, Some, Result, Ok, Err, true, false, length, refl, sym}
use Rattle.std.proofs.Common.{ap, get_or, map, take, subst, arith, inl, inr, ◌⊎◌}
use Rattle.std.proofs.lemmas.List.{length-map, length_push, map_push, take_more}
use Rattle.std.specs.List.{AllByRecursion}
use Rattle.std.specs.Prelude.{IfErr, IfOk, IfSome, IsOk, option_map, slice_get}
use Rattle.dd_keys.specs.Sources.{Answer, IsOfSource}
use Rattle.dd_files.proofs.FileLaws.{file_here, file_there}
use Rattle.dd_files.proofs.KeptFiles.{all_then, held_published, new_keeps}
use Rattle.dd_files.specs.Files.{Held, ended, published, stored}
use Rattle.dd_filing.specs.declared.source_copies.SourceCopy.{SourceCopy}
use Rattle.dd_staged.specs.Sources.{IsListed, Source, has_copy, source_view}
use Rattle.dd_staged.specs.declared.source_fault.SourceFault.{SourceFault}
use Rattle.dd_staged.specs.declared.source_fault.SourceFault.TheVariants.{Absent, BadName, Key, Unread}
use Rattle.dd_version.specs.declared.parts.Parts.{Parts}
use Rattle.dd_staged.specs.Stages.{stage_text}
use Rattle.dd_staged.specs.declared.staged.Staged.{Staged}
use Rattle.dd_files.proofs.SaidFiles.{said_both, said_by}
use Rattle.dd_pile.proofs.ListLast.{list_stored}
use Rattle.dd_pile.specs.Copies.{IsCopyOf, WritesCopy, WritesFront}
use Rattle.dd_files.specs.Keeping.{Adds, IfSaid, IsFree, Keeps, KeepsAll}
use Rattle.dd_pile.specs.Last.{HaveEnded}
use Rattle.dd_pile.specs.Paths.{IsCopyOfPile, IsCopyPath, IsListPath}
use Rattle.dd_pile.specs.Piles.{CopiesStand, EachStaged, HaveNames, IsCopied, IsListedAs, IsStaged, PileStands}
use Rattle.dd_pile.specs.Piles.{StagesOne, WritesList, as_listed}
use Rattle.dd_pile.specs.declared.source.StageSource.{StageSource}

-- ---- a copy that has ended

-- a version or a fault of a copy is listed as it was found
listed_copy : (pile : List ℕ) (number : ℕ) (source : StageSource) (size : ℕ) (found : Answer) (a b : Held)
    → IsCopied pile number source size found a b → IsListedAs pile number source size (as_listed found) a b
listed_copy pile number source size (Ok parts) a b is = is
listed_copy pile number source size (Err fault) a b is = is

copy_stands : (pile : List ℕ) (number : ℕ) (source : StageSource) (copy : SourceCopy) (name path bytes : List ℕ)
    (a c : Option Held) → source.is_bad_name ≡ false → IsCopyPath pile number path → IsFree path a
    → c ≡ option_map (published path bytes) a → copy.size ≡ length bytes
    → IfSome a (λ files. IsCopyOf (files.bytes_at source.path.now) bytes copy.found)
    → IfSaid (StagesOne pile number source (record { name = name; size = copy.size; found = as_listed copy.found })) a c
copy_stands pile number source copy name path bytes None c named place free made size of = made
copy_stands pile number source copy name path bytes (Some held) c named place free made size of =
    let listed : Source = record { name = name; size = copy.size; found = as_listed copy.found } in
    let kept = new_keeps held (published path bytes held) path (Some bytes) refl free in
    subst (λ (x : Option Held). IfSaid (StagesOne pile number source listed) (Some held) x) (sym made) (record {
      stays = kept;
      staged = listed_copy pile number source copy.size copy.found held (published path bytes held) (record {
        named = named;
        path = path;
        place = place;
        free = free;
        copy = bytes;
        made = file_here path (Some bytes) held.bytes_at;
        counted = size;
        of = record {
          bytes = of.bytes;
          stands = kept.stays source.path.now of.bytes of.stands;
          front = of.front;
          found = of.found;
        };
      });
      others = λ other no. file_there path other (Some bytes) held.bytes_at
          (λ same. no (subst (λ (one : List ℕ). IsCopyPath pile number one) same place));
    })

-- what was written is the copy, once it has ended
pub staged_one : (pile : List ℕ) (number : ℕ) (source : StageSource) (copy : SourceCopy) (name : List ℕ)
    (a b c : Option Held) → source.is_bad_name ≡ false → WritesCopy pile number source.path.now copy a b
    → c ≡ option_map ended b
    → IfSaid (StagesOne pile number source (record { name = name; size = copy.size; found = as_listed copy.found })) a c
staged_one pile number source copy name a b c named h closed =
    copy_stands pile number source copy name h.starts.path h.bytes a c named h.starts.place h.starts.free
    (held_published h.starts.path h.bytes a h.start b c h.starts.started h.written closed) h.size h.of

-- what can be listed of a copy: no read of the source failed, and no allocation was refused
pub copy_listed : (found : Answer) (name : List ℕ) (size : ℕ) → IfErr found IsOfSource
    → IsListed (record { name = name; size = size; found = as_listed found })
copy_listed (Ok version) name size settled = tt
copy_listed (Err fault) name size settled = record { read = settled.0; memory = settled.1 }

pub copy_counts : (found : Answer) → has_copy (as_listed found) ≡ true
copy_counts (Ok version) = refl
copy_counts (Err fault) = refl

-- ---- a source that was not read: what the list says of it holds in any files

module _ (pile : List ℕ) (number : ℕ) (source : StageSource) (listed : Source)
    (is : (old new : Held) → IsStaged pile number source listed old new) where
  -- nothing was made
  pub skipped_one : (a c : Option Held) → c ≡ a → IfSaid (StagesOne pile number source listed) a c
  skipped_one None c same = same
  skipped_one (Some held) c same =
      subst (λ (x : Option Held). IfSaid (StagesOne pile number source listed) (Some held) x) (sym same) (record {
        stays = record { stays = λ path bytes stood. stood };
        staged = is held held;
        others = λ other no. refl;
      })

  cut_stands : (path bytes : List ℕ) (a c : Option Held) → IsCopyPath pile number path → IsFree path a
      → c ≡ option_map (published path bytes) a → IfSaid (StagesOne pile number source listed) a c
  cut_stands path bytes None c place free made = made
  cut_stands path bytes (Some held) c place free made =
      subst (λ (x : Option Held). IfSaid (StagesOne pile number source listed) (Some held) x) (sym made) (record {
        stays = new_keeps held (published path bytes held) path (Some bytes) refl free;
        staged = is held (published path bytes held);
        others = λ other no. file_there path other (Some bytes) held.bytes_at
            (λ same. no (subst (λ (one : List ℕ). IsCopyPath pile number one) same place));
      })

  -- a part of a copy was made, and has ended
  pub cut_one : (a b c : Option Held) → WritesFront pile number a b → c ≡ option_map ended b
      → IfSaid (StagesOne pile number source listed) a c
  cut_one a b c h closed =
      cut_stands h.starts.path h.bytes a c h.starts.place h.starts.free
      (held_published h.starts.path h.bytes a h.start b c h.starts.started h.written closed)

-- ---- the answer is the item of the list, so what holds of the item holds of the answer

pub view_so : {E : Type 0} (r : Result Staged E) (listed : Source) (P : Source → Type 0)
    → IfOk r (λ staged. source_view staged ≡ listed) → (IsOk r → P listed)
    → IfOk r (λ staged. P (source_view staged))
view_so (Ok staged) listed P same is = subst P (sym same) (is refl)
view_so (Err refusal) listed P same is = tt

-- ---- after others

none_or_some : {A : Type 0} (x : Option A) → (x ≡ None) ⊎ ((y : A) × (x ≡ Some y))
none_or_some None = inl refl
none_or_some (Some y) = inr (y, refl)

-- no file stood where none stands
free_before : (a b : Held) (path : List ℕ) → KeepsAll a b → b.bytes_at path ≡ None → a.bytes_at path ≡ None
free_before a b path kept free = elim (none_or_some (a.bytes_at path)) [
  | inl none ↦ none
  | inr some ↦ absurd (let e : None ≡ Some some.0 = sym free ∙ kept.stays path some.0 some.1 in cc)
]

-- what was staged stands
copied_still : (pile : List ℕ) (number : ℕ) (source : StageSource) (size : ℕ) (answer : Answer) (a b c : Held)
    → KeepsAll b c → IsCopied pile number source size answer a b → IsCopied pile number source size answer a c
copied_still pile number source size answer a b c kept h = record {
  named = h.named;
  path = h.path;
  place = h.place;
  free = h.free;
  copy = h.copy;
  made = kept.stays h.path h.copy h.made;
  counted = h.counted;
  of = record {
    bytes = h.of.bytes;
    stands = kept.stays source.path.now h.of.bytes h.of.stands;
    front = h.of.front;
    found = h.of.found;
  };
}

staged_still : (pile : List ℕ) (number : ℕ) (source : StageSource) (listed : Source) (a b c : Held) → KeepsAll b c
    → IsStaged pile number source listed a b → IsStaged pile number source listed a c
staged_still pile number source listed a b c kept h = go listed.found h where
  go : (found : Result Parts SourceFault) → IsListedAs pile number source listed.size found a b
      → IsListedAs pile number source listed.size found a c
  go (Ok parts) is = copied_still pile number source listed.size (Ok parts) a b c kept is
  go (Err (Key fault)) is = copied_still pile number source listed.size (Err fault) a b c kept is
  go (Err Absent) is = is
  go (Err Unread) is = is
  go (Err (BadName n)) is = is

copied_since : (pile : List ℕ) (number : ℕ) (source : StageSource) (size : ℕ) (answer : Answer) (a b c : Held)
    → KeepsAll a b → IsCopied pile number source size answer b c → IsCopied pile number source size answer a c
copied_since pile number source size answer a b c kept h = record {
  named = h.named;
  path = h.path;
  place = h.place;
  free = free_before a b h.path kept h.free;
  copy = h.copy;
  made = h.made;
  counted = h.counted;
  of = h.of;
}

staged_since : (pile : List ℕ) (number : ℕ) (source : StageSource) (listed : Source) (a b c : Held) → KeepsAll a b
    → IsStaged pile number source listed b c → IsStaged pile number source listed a c
staged_since pile number source listed a b c kept h = go listed.found h where
  go : (found : Result Parts SourceFault) → IsListedAs pile number source listed.size found b c
      → IsListedAs pile number source listed.size found a c
  go (Ok parts) is = copied_since pile number source listed.size (Ok parts) a b c kept is
  go (Err (Key fault)) is = copied_since pile number source listed.size (Err fault) a b c kept is
  go (Err Absent) is = is
  go (Err Unread) is = is
  go (Err (BadName n)) is = is

-- an element of a list with one more is one of the list, or the last
last_or_before : {A : Type 0} (list : List A) (last one : A) (at : ℕ) → slice_get (list ++ last ∷ []) at ≡ Some one
    → (slice_get list at ≡ Some one) ⊎ ((at ≡ length list) × (one ≡ last))
last_or_before [] last one zero is = inr (refl, cc)
last_or_before [] last one (suc at) is = absurd (cc)
last_or_before (first ∷ list) last one zero is = inl is
last_or_before (first ∷ list) last one (suc at) is = elim (last_or_before list last one at is) [
  | inl before ↦ inl before
  | inr here ↦ inr (ap suc here.0, here.1)
]

same_source : (sources : List StageSource) (at next : ℕ) (one other : StageSource) → slice_get sources at ≡ Some one
    → slice_get sources next ≡ Some other → at ≡ next → one ≡ other
same_source sources at next one other is its same =
    let e : Some one ≡ Some other = sym is ∙ ap (λ (n : ℕ). slice_get sources n) same ∙ its in cc

one_more : (pile : List ℕ) (sources : List StageSource) (list : List Source) (source : StageSource) (listed : Source)
    (a b c : Held) → slice_get sources (length list) ≡ Some source → CopiesStand pile sources list a b
    → StagesOne pile (length list + 1) source listed b c → CopiesStand pile sources (list ++ listed ∷ []) a c
one_more pile sources list source listed a b c next before one =
    let many : length (list ++ listed ∷ []) ≡ length list + 1 = length_push list listed in
    record {
      stays = all_then a b c before.stays one.stays;
      each = λ at other its is itself. elim (last_or_before list listed its at itself) [
        | inl there ↦ staged_still pile (at + 1) other its a b c one.stays (before.each at other its is there)
        | inr here ↦
            let same : source ≡ other = sym (same_source sources at (length list) other source is next here.0) in
            subst (λ (s : StageSource). IsStaged pile (at + 1) s its a c) same
            (subst (λ (l : Source). IsStaged pile (at + 1) source l a c) (sym here.1)
            (subst (λ (n : ℕ). IsStaged pile (n + 1) source listed a c) (sym here.0)
            (staged_since pile (length list + 1) source listed a b c before.stays one.staged)))
      ];
      others = λ other no.
          one.others other
          (λ place. no (record { at = length list; within = omega (arith, many); place = place }))
          ∙ before.others other
          (λ h.
          let within = h.within in
          no (record { at = h.at; within = omega (arith, many, within); place = h.place }));
    }

-- the copies with one more
pub copies_more : (pile : List ℕ) (sources : List StageSource) (list : List Source) (source : StageSource)
    (listed : Source) (a b c : Option Held) → slice_get sources (length list) ≡ Some source
    → IfSaid (CopiesStand pile sources list) a b → IfSaid (StagesOne pile (length list + 1) source listed) b c
    → IfSaid (CopiesStand pile sources (list ++ listed ∷ [])) a c
copies_more pile sources list source listed a b c next before one =
    said_both (CopiesStand pile sources list) (StagesOne pile (length list + 1) source listed)
    (CopiesStand pile sources (list ++ listed ∷ [])) a b c
    (λ old mid new first last. one_more pile sources list source listed old mid new next first last) before one

-- the copies stand after what stood has stayed
pub each_since : (pile : List ℕ) (sources : List StageSource) (list : List Source) (a b c : Option Held)
    → IfSaid (CopiesStand pile sources list) a b → Keeps b c → IfSaid (EachStaged pile sources list) a c
each_since pile sources list a b c before kept =
    said_both (CopiesStand pile sources list) KeepsAll (EachStaged pile sources list) a b c
    (λ old mid new stand stays at source listed is its.
    staged_still pile (at + 1) source listed old mid new stays (stand.each at source listed is its)) before kept

-- a store changes no bytes
pub copies_stored : (pile : List ℕ) (sources : List StageSource) (list : List Source) (a b c : Option Held)
    → IfSaid (CopiesStand pile sources list) a b → c ≡ option_map stored b → IfSaid (CopiesStand pile sources list) a c
copies_stored pile sources list a b c before safe =
    let Same = λ (old new : Held). new ≡ stored old in
    let same : IfSaid Same b c = said_by Same stored b c safe (λ held told. refl) in
    said_both (CopiesStand pile sources list) Same (CopiesStand pile sources list) a b c
    (λ old mid new stand is.
    let kept : KeepsAll mid (stored mid) = record { stays = λ path bytes stood. stood } in
    subst (λ (held : Held). CopiesStand pile sources list old held) (sym is) (record {
      stays = all_then old mid (stored mid) stand.stays kept;
      each = λ at source listed is its.
          staged_still pile (at + 1) source listed old mid (stored mid) kept (stand.each at source listed is its);
      others = λ other no. stand.others other no;
    })) before same

-- ---- as the program keeps the list

pub source_at : (sources : List StageSource) (at : ℕ) (d : StageSource) → at < length sources
    → slice_get sources at ≡ Some (get_or sources at d)
source_at [] at d within = absurd (omega (arith, within))
source_at (first ∷ sources) zero d within = refl
source_at (first ∷ sources) (suc at) d within = source_at sources at d (omega (arith, within))

pub stand_more : (pile : List ℕ) (sources : List StageSource) (old new : List Staged) (one : Staged) (at : ℕ)
    (d : StageSource) (a b c : Option Held) → new ≡ old ++ one ∷ [] → length old ≡ at → at < length sources
    → IfSaid (CopiesStand pile sources (map source_view old)) a b
    → IfSaid (StagesOne pile (at + 1) (get_or sources at d) (source_view one)) b c
    → IfSaid (CopiesStand pile sources (map source_view new)) a c
stand_more pile sources old new one at d a b c is many within before staged =
    let list = map source_view old in
    let size : at ≡ length list = sym many ∙ sym (length-map old source_view) in
    subst (λ (all : List Source). IfSaid (CopiesStand pile sources all) a c)
    (sym (ap (map source_view) is ∙ map_push source_view old one))
    (copies_more pile sources list (get_or sources at d) (source_view one) a b c
    (subst (λ (n : ℕ). slice_get sources n ≡ Some (get_or sources at d)) size (source_at sources at d within)) before
    (subst (λ (n : ℕ). IfSaid (StagesOne pile (n + 1) (get_or sources at d) (source_view one)) b c) size staged))

pub pushed_more : (old new : List Staged) (one : Staged) (at : ℕ) → new ≡ old ++ one ∷ [] → length old ≡ at
    → length new ≡ at + 1
pushed_more old new one at is many =
    ap (λ (all : List Staged). length all) is ∙ length_push old one ∙ ap (λ (n : ℕ). n + 1) many

-- what holds of each so far and of one more
all_more : (P : Source → Type 0) (list : List Source) (one : Source) → AllByRecursion P list → P one
    → AllByRecursion P (list ++ one ∷ [])
all_more P [] one all last = (last, tt)
all_more P (first ∷ list) one all last = (all.0, all_more P list one all.1 last)

pub each_more : (P : Source → Type 0) (old new : List Staged) (one : Staged) → new ≡ old ++ one ∷ []
    → AllByRecursion P (map source_view old) → P (source_view one) → AllByRecursion P (map source_view new)
each_more P old new one is before last =
    subst (AllByRecursion P) (sym (ap (map source_view) is ∙ map_push source_view old one))
    (all_more P (map source_view old) (source_view one) before last)

-- a source of many is named where all are
pub name_of : (sources : List StageSource) (at : ℕ) (d : StageSource) → at < length sources → HaveNames sources
    → (get_or sources at d).is_bad_name ≡ false
name_of [] at d within all = absurd (omega (arith, within))
name_of (first ∷ sources) zero d within all = all.0
name_of (first ∷ sources) (suc at) d within all = name_of sources at d (omega (arith, within)) all.1

-- ---- with the list

list_stands : (pile : List ℕ) (sources : List StageSource) (list : List Source) (a b : Held) (path : List ℕ)
    → IsListPath pile path → b.bytes_at path ≡ None → CopiesStand pile sources list a b
    → Adds (IsCopyOfPile pile) a b → HaveEnded a b
    → PileStands pile sources list a (stored (published path (stage_text list) (stored b)))
list_stands pile sources list a b path place free before adds ended =
    let text = stage_text list in
    let last = stored (published path text (stored b)) in
    let kept = new_keeps b last path (Some text) refl free in
    record {
      stays = all_then a b last before.stays kept;
      each = λ at source listed is its.
          staged_still pile (at + 1) source listed a b last kept (before.each at source listed is its);
      path = path;
      place = place;
      free = free_before a b path before.stays free;
      written = file_here path (Some text) b.bytes_at;
      others = λ other apart no. file_there path other (Some text) b.bytes_at apart ∙ before.others other no;
      stored = list_stored pile path text a b adds ended free;
    }

pub pile_stands : (pile : List ℕ) (sources : List StageSource) (list : List Source) (a b c d e : Option Held)
    → IfSaid (CopiesStand pile sources list) a b → IfSaid (Adds (IsCopyOfPile pile)) a b → IfSaid HaveEnded a b
    → c ≡ option_map stored b → WritesList pile list c d → e ≡ option_map stored d
    → IfSaid (PileStands pile sources list) a e
pile_stands pile sources list None b c d e before adds ended safe h last =
    last ∙ ap (λ (x : Option Held). option_map stored x)
    (h.made ∙ ap (λ (x : Option Held). option_map (published h.path (stage_text list)) x)
    (safe ∙ ap (λ (x : Option Held). option_map stored x) before))
pile_stands pile sources list (Some a) None c d e before adds ended safe h last = absurd before
pile_stands pile sources list (Some a) (Some b) c d e before adds ended safe h last =
    subst (λ (x : Option Held). IfSaid (PileStands pile sources list) (Some a) x)
    (sym (last ∙ ap (λ (x : Option Held). option_map stored x)
    (h.made ∙ ap (λ (x : Option Held). option_map (published h.path (stage_text list)) x) safe)))
    (list_stands pile sources list a b h.path h.place (subst (λ (x : Option Held). IsFree h.path x) safe h.free) before
    adds ended)

-- ---- names

pub names_more : (sources : List StageSource) (old new : List Staged) (one : Staged) (at : ℕ) (d : StageSource)
    → new ≡ old ++ one ∷ [] → at < length sources
    → map (λ listed. listed.name) (map source_view old) ≡ map (λ source. source.name.now) (take at sources)
    → one.name.items ≡ (get_or sources at d).name.now
    → map (λ listed. listed.name) (map source_view new) ≡ map (λ source. source.name.now) (take (at + 1) sources)
names_more sources old new one at d is within before named =
    let name_of : Source → List ℕ = λ (listed : Source). listed.name in
    let named_so : StageSource → List ℕ = λ (source : StageSource). source.name.now in
    ap (λ (all : List Staged). map name_of (map source_view all)) is
    ∙ ap (map name_of) (map_push source_view old one)
    ∙ map_push name_of (map source_view old) (source_view one)
    ∙ ap (λ (front : List (List ℕ)). front ++ one.name.items ∷ []) before
    ∙ ap (λ (last : List ℕ). map named_so (take at sources) ++ last ∷ []) named
    ∙ sym (map_push named_so (take at sources) (get_or sources at d))
    ∙ ap (map named_so) (sym (take_more sources at d within))
