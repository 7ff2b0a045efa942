-- The list of a pile says of its sources what `index` reads of them.
use Rattle.std.proofs.Common.{◌≡◌, ◌∙◌, ◌<◌, ◌+◌, ℕ, zero, suc, Bool, true, false, List, [], ◌∷◌, Some, Ok, Err}
use Rattle.std.proofs.Common.{ap, arith, if◌then◌else◌, inl, inr, length, map, refl, subst, sym}
use Rattle.std.specs.Cmp.{nat_eq_equiv}
use Rattle.std.specs.Prelude.{◌⊎◌, Contains, IfErr, slice_get, slice_index_or}
use Rattle.std.specs.List.{AllByRecursion}
use Rattle.std.specs.Str.{IsUtf8}
use Rattle.std.proofs.lemmas.List.{length-map}
use Rattle.std.proofs.lemmas.Map.Views.{list_any-from_Contains}
use Rattle.std.proofs.lemmas.Option.{same_Some, slice_get_within}
use Rattle.clap.specs.Words.{Row, Text}
use Rattle.dd_catalogue.proofs.Members.{Member, contained, member_of}
use Rattle.dd_keys.specs.Sources.{AnswersSource, IsOfSource}
use Rattle.dd_files.specs.Files.{Held}
use Rattle.dd_line.specs.declared.line.Verb.TheVariants.{Index, Publish}
use Rattle.dd_pile.specs.Lists.{HasList}
use Rattle.dd_pile.specs.Piles.{IsCopied, IsListedAs, PileStands}
use Rattle.dd_pile.specs.declared.source.StageSource.{StageSource}
use Rattle.dd_staged.specs.Sources.{IsFound, IsSource, Source, has_copy}
use Rattle.dd_staged.specs.Stages.{IsStage, stage_text}
use Rattle.dd_staged.specs.declared.source_fault.SourceFault.TheVariants.{Absent, BadName, Key, Unread}
use Rattle.dd_version.specs.declared.parts.Parts.{Parts}
use Rattle.dicomdir_laws.proofs.KeptListed.{one_directory, one_list}
use Rattle.dicomdir.proofs.ShortFiles.{short_file}
use Rattle.dicomdir_laws.proofs.SaidByFiles.{version_is}
use Rattle.dicomdir_laws.proofs.SaidByLists.{one_list_of, said_of_answer}
use Rattle.dicomdir_laws.specs.Headline.{IsPileOf, LeaveOneDirectory, Makes, OneFileSays, PublishesSources}
use Rattle.dicomdir_laws.specs.Headline.{SayTheSame, SaysVersion, paths_read}
use Rattle.dicomdir.specs.FileSupply.{is_one}
use Rattle.dd_inputs.specs.From.{looked_up}
use Rattle.dicomdir.specs.Indexes.{most_of_source}
use Rattle.dicomdir.specs.Lines.{choice_of}
use Rattle.dicomdir.specs.Unread.{Staged, answer_of}

-- ---- members by number

some_at : {V : Type 0} (xs : List V) (k : ℕ) → k < length xs → (x : V) × (slice_get xs k ≡ Some x)
some_at [] k below = absurd (omega arith)
some_at (x ∷ xs) zero below = (x, refl)
some_at (x ∷ xs) (suc k) below = some_at xs k (omega arith)

member_at : {V : Type 0} (v : V) (xs : List V) → Member v xs → (k : ℕ) × (slice_get xs k ≡ Some v)
member_at v [] held = absurd held
member_at {V = V} v (w ∷ xs) (inl is) = (zero, ap (λ (x : V). Some x) is)
member_at v (w ∷ xs) (inr later) = let there = member_at v xs later in (suc there.0, there.1)

at_member : {V : Type 0} (v : V) (xs : List V) (k : ℕ) → slice_get xs k ≡ Some v → Member v xs
at_member v [] k is = absurd (cc)
at_member v (w ∷ xs) zero is = inl (same_Some w v is)
at_member v (w ∷ xs) (suc k) is = inr (at_member v xs k is)

get_map : {V W : Type 0} (f : V → W) (xs : List V) (k : ℕ) (x : V) → slice_get xs k ≡ Some x
    → slice_get (map f xs) k ≡ Some (f x)
get_map f [] k x is = absurd (cc)
get_map {W = W} f (y ∷ xs) zero x is = ap (λ z. Some (f z)) (same_Some y x is)
get_map f (y ∷ xs) (suc k) x is = get_map f xs k x is

all_at : {V : Type 0} (P : V → Type 0) (xs : List V) (k : ℕ) (x : V) → AllByRecursion P xs
    → slice_get xs k ≡ Some x → P x
all_at P [] k x all is = absurd (cc)
all_at P (y ∷ xs) zero x all is = subst P (same_Some y x is) all.0
all_at P (y ∷ xs) (suc k) x all is = all_at P xs k x all.1 is

one_file : (now : Held) (path name : Text) (bytes file : List ℕ) → path ≡ name → now.bytes_at path ≡ Some bytes
    → now.bytes_at name ≡ Some file → bytes ≡ file
one_file now path name bytes file same here there =
    same_Some bytes file (sym here ∙ ap now.bytes_at same ∙ there)

one_at : {V : Type 0} (xs : List V) (k : ℕ) (v w : V) → slice_get xs k ≡ Some v → slice_get xs k ≡ Some w → v ≡ w
one_at xs k v w one two = same_Some v w (sym one ∙ two)

-- ---- a source that was read

settled_of : (found : Staged) → has_copy found ≡ true → IsFound found → IfErr (answer_of found) IsOfSource
settled_of (Ok version) read is = tt
settled_of (Err (Key fault)) read is = (is.of_read.read, is.of_read.memory)
settled_of (Err Absent) read is = let no : false ≡ true = read in absurd (cc)
settled_of (Err Unread) read is = let no : false ≡ true = read in absurd (cc)
settled_of (Err (BadName number)) read is = let no : false ≡ true = read in absurd (cc)

copied_of : (pile : Text) (number size : ℕ) (source : StageSource) (found : Staged) (old new : Held)
    → has_copy found ≡ true → IsListedAs pile number source size found old new
    → IsCopied pile number source size (answer_of found) old new
copied_of pile number size source (Ok version) old new read is = is
copied_of pile number size source (Err (Key fault)) old new read is = is
copied_of pile number size source (Err Absent) old new read is = let no : false ≡ true = read in absurd (cc)
copied_of pile number size source (Err Unread) old new read is = let no : false ≡ true = read in absurd (cc)
copied_of pile number size source (Err (BadName n)) old new read is = let no : false ≡ true = read in absurd (cc)

-- ---- the paths of the sources that were read

module _ (path : Text) where
  in_front : (read : Bool) (first : Text) (rest : List Text) → read ≡ true → first ≡ path
      → Member path (if read then first ∷ rest else rest)
  in_front true first rest is same = inl same
  in_front false first rest is same = let no : false ≡ true = is in absurd (cc)

  behind : (read : Bool) (first : Text) (rest : List Text) → Member path rest
      → Member path (if read then first ∷ rest else rest)
  behind true first rest later = inr later
  behind false first rest later = later

  either : (read : Bool) (first : Text) (rest : List Text) → Member path (if read then first ∷ rest else rest)
      → ((read ≡ true) × (first ≡ path)) ⊎ Member path rest
  either true first rest (inl same) = inl (refl, same)
  either true first rest (inr later) = inr later
  either false first rest later = inr later

  read_at : (paths : List Text) (list : List Source) (k : ℕ) (item : Source) → slice_get paths k ≡ Some path
      → slice_get list k ≡ Some item → has_copy item.found ≡ true → Member path (paths_read paths list)
  read_at [] list k item at of read = absurd (cc)
  read_at (first ∷ paths) [] k item at of read = absurd (cc)
  read_at (first ∷ paths) (source ∷ list) zero item at of read =
      in_front (has_copy source.found) first (paths_read paths list)
      (subst (λ (s : Source). has_copy s.found ≡ true) (sym (same_Some source item of)) read)
      (same_Some first path at)
  read_at (first ∷ paths) (source ∷ list) (suc k) item at of read =
      behind (has_copy source.found) first (paths_read paths list) (read_at paths list k item at of read)

  record WasRead (paths : List Text) (list : List Source) : Type 0 where
    pub k : ℕ
    pub item : Source
    pub at : slice_get paths k ≡ Some path
    pub of : slice_get list k ≡ Some item
    pub read : has_copy item.found ≡ true

  was_read : (paths : List Text) (list : List Source) → Member path (paths_read paths list) → WasRead paths list
  was_read [] list among = absurd among
  was_read (first ∷ paths) [] among = absurd among
  was_read (first ∷ paths) (source ∷ list) among =
      elim (either (has_copy source.found) first (paths_read paths list) among) [
        | inl here ↦ record {
          k = zero;
          item = source;
          at = ap (λ (p : Text). Some p) here.1;
          of = refl;
          read = here.0;
        }
        | inr later ↦
            let there = was_read paths list later in
            record { k = suc there.k; item = there.item; at = there.at; of = there.of; read = there.read }
      ]

-- ---- one pile

get_of : {V : Type 0} (xs : List V) (k : ℕ) (d v : V) → slice_get xs k ≡ Some v → slice_index_or xs k d ≡ v
get_of [] k d v is = absurd (cc)
get_of (x ∷ xs) zero d v is = same_Some x v is
get_of (x ∷ xs) (suc k) d v is = get_of xs k d v is

module _ (pile : Text) (paths : List Text) (held now : Held) (is : IsPileOf pile paths held now) where
  abbrev sources : List StageSource
  sources = is.makes.sources

  abbrev pub list : List Source
  list = is.makes.makes.list

  abbrev stands : PileStands pile sources list is.before is.made
  stands = is.makes.makes.stands

  pub has_list : HasList pile (λ bytes. IsStage bytes list) held
  has_list = record {
    path = stands.path;
    place = stands.place;
    bytes = stage_text list;
    there = is.kept.stays stands.path (stage_text list) stands.written;
    is = is.makes.makes.spelled;
  }

  listed : length list ≡ length sources
  listed = sym (length-map list (λ (source : Source). source.name)) ∙ ap length is.makes.makes.names
      ∙ length-map sources (λ (source : StageSource). source.name.now)

  abbrev looked : List Text
  looked = map (looked_up is.from) is.names

  copied : (k : ℕ) (source : StageSource) (item : Source) → slice_get sources k ≡ Some source
      → slice_get list k ≡ Some item → has_copy item.found ≡ true
      → IsCopied pile (k + 1) source item.size (answer_of item.found) is.before is.made
  copied k source item at of read = copied_of pile (k + 1) item.size source item.found is.before is.made read
      (stands.each k source item at of)

  -- a source that was read has a name
  named : (k : ℕ) (source : StageSource) (item : Source) → slice_get sources k ≡ Some source
      → slice_get list k ≡ Some item → has_copy item.found ≡ true → ¬ Contains is.makes.bad k
  named k source item at of read has =
      let one : is_one is.makes.bad k ≡ true = list_any-from_Contains nat_eq_equiv k is.makes.bad has in
      let no : true ≡ false =
      sym one ∙ sym (is.makes.are.named k source at) ∙ (copied k source item at of read).named in
      absurd (cc)

  -- and stands where that is looked up
  placed : (k : ℕ) (source : StageSource) (item : Source) (name : Text) → slice_get sources k ≡ Some source
      → slice_get list k ≡ Some item → has_copy item.found ≡ true → slice_get is.names k ≡ Some name
      → source.path.now ≡ looked_up is.from name
  placed k source item name at of read called =
      let shown = map (λ (source : StageSource). source.name.now) sources in
      let here = get_map (λ (source : StageSource). source.name.now) sources k source at in
      let same : source.name.now ≡ name = sym (get_of shown k [] source.name.now here)
      ∙ is.makes.are.called.named k (slice_get_within is.names k name called) (named k source item at of read)
      ∙ get_of is.names k [] name called in
      same_Some source.path.now (looked_up is.from name)
      (sym (get_map (λ (source : StageSource). source.path.now) sources k source at)
      ∙ ap (λ (l : List Text). slice_get l k) is.makes.are.placed
      ∙ get_map (looked_up is.from) shown k source.name.now here
      ∙ ap (λ (n : Text). Some (looked_up is.from n)) same)

  -- the source at a number, and what its file held
  pub record IsAt (k : ℕ) (item : Source) : Type 0 where
    pub path : Text
    pub numbered : slice_get looked k ≡ Some path
    pub among : Contains paths path
    pub bytes : List ℕ
    pub there : now.bytes_at path ≡ Some bytes
    pub found : AnswersSource most_of_source bytes (answer_of item.found)

  is_at : (k : ℕ) (item : Source) → slice_get list k ≡ Some item → has_copy item.found ≡ true → IsAt k item
  is_at k item of read =
      let within : k < length sources = omega (arith, slice_get_within list k item of, listed) in
      let source = some_at sources k within in
      let many : length is.names ≡ length sources = sym is.makes.are.called.count
      ∙ length-map sources (λ (source : StageSource). source.name.now) in
      let name = some_at is.names k (omega (arith, within, many)) in
      let staged = copied k source.0 item source.1 of read in
      let path = looked_up is.from name.0 in
      let numbered = get_map (looked_up is.from) is.names k name.0 name.1 in
      let among : Contains paths path = contained path paths
      (subst (λ (l : List Text). Member path l) (sym is.looked) (read_at path looked list k item numbered of read)) in
      record {
        path = path;
        numbered = numbered;
        among = among;
        bytes = staged.of.bytes;
        there = is.same path among
            ∙ ap is.made.bytes_at (sym (placed k source.0 item name.0 source.1 of read name.1)) ∙ staged.of.stands;
        found = staged.of.found;
      }

  -- what `index` finds of a source, the list says
  pub says_staged : (names : List Text) (version : Parts) (says : OneFileSays names now version)
      → Contains paths says.name → Member (Ok version) (map (λ (source : Source). source.found) list)
  says_staged names version says among =
      let at = was_read says.name looked list
      (subst (λ (l : List Text). Member says.name l) is.looked (member_of says.name paths among)) in
      let here = is_at at.k at.item at.of at.read in
      let path : here.path ≡ says.name = one_at looked at.k here.path says.name here.numbered at.at in
      let bytes : here.bytes ≡ says.file =
      one_file now here.path says.name here.bytes says.file path here.there says.there in
      let answers : AnswersSource most_of_source says.file (answer_of at.item.found) =
      subst (λ (b : List ℕ). AnswersSource most_of_source b (answer_of at.item.found)) bytes here.found in
      let source : IsSource at.item = all_at IsSource list at.k at.item is.makes.makes.spelled.each at.of in
      let found = said_of_answer now version at.item.found
      (version_is says.file version (answer_of at.item.found)
      (settled_of at.item.found at.read source.found) (answers.fits says.short) says.right) in
      at_member (Ok version) (map (λ (source : Source). source.found) list) at.k
      (get_map (λ (source : Source). source.found) list at.k at.item at.of ∙ ap (λ (a : Staged). Some a) found)

  -- what the list says of a source, `index` finds
  pub staged_says : (names : List Text) (version : Parts) → ((name : Text) → Contains paths name → Contains names name)
      → ((name : Text) → Contains names name → IsUtf8 name)
      → Member (Ok version) (map (λ (source : Source). source.found) list) → OneFileSays names now version
  staged_says names version among utf8 found =
      let answers = map (λ (source : Source). source.found) list in
      let at = member_at (Ok version) answers found in
      let within : at.0 < length list = omega (
        arith,
        slice_get_within answers at.0 (Ok version) at.1,
        length-map list (λ (source : Source). source.found),
      ) in
      let item = some_at list at.0 within in
      let is : item.0.found ≡ Ok version = same_Some item.0.found (Ok version)
      (sym (get_map (λ (source : Source). source.found) list at.0 item.0 item.1) ∙ at.1) in
      let here = is_at at.0 item.0 item.1 (ap has_copy is) in
      let right : AnswersSource most_of_source here.bytes (Ok version) =
      subst (λ (a : Staged). AnswersSource most_of_source here.bytes (answer_of a)) is here.found in
      let name = among here.path here.among in
      let short = short_file here.bytes version right in
      record {
        name = here.path;
        among = name;
        path = utf8 here.path name;
        file = here.bytes;
        there = here.there;
        short = short;
        right = (right.fits short).found;
      }

-- ---- the law

module _ (given others : List Row) (old first : Held) (of : PublishesSources given others old first)
    (version : Parts) where
  index_says : SaysVersion Publish given old version → SaysVersion Index others first version
  index_says (piles, are, says) =
      let among : Contains of.piles says.pile = subst (λ (l : List Text). Contains l says.pile)
      (one_list _ _ _ piles of.piles old are of.are) says.among in
      let pile = of.each says.pile among in
      let same : says.sources ≡ list says.pile (of.staged says.pile) old first pile =
      one_list_of says.pile old says.sources _ says.list (has_list says.pile (of.staged says.pile) old first pile) in
      let found : Member (Ok version) (map (λ (source : Source). source.found)
      (list says.pile (of.staged says.pile) old first pile)) =
      member_of (Ok version) _ (subst (λ (l : List Source). Contains (map (λ (source : Source). source.found) l)
      (Ok version)) same says.says) in (
        of.sources,
        of.are_sources,
        staged_says says.pile (of.staged says.pile) old first pile of.sources version
            (λ name staged. (of.all name).1 (says.pile, among, staged)) of.utf8 found,
      )

  publish_says : SaysVersion Index others first version → SaysVersion Publish given old version
  publish_says (names, are, says) =
      let says : OneFileSays of.sources first version = subst (λ (l : List Text). OneFileSays l first version)
      (one_list _ _ _ names of.sources first are of.are_sources) says in
      let (name, among, staged) = (of.all says.name).0 says.among in
      let pile = of.each name among in (
        of.piles,
        of.are,
        record {
          pile = name;
          among = among;
          sources = list name (of.staged name) old first pile;
          list = has_list name (of.staged name) old first pile;
          says = contained (Ok version) _
              (says_staged name (of.staged name) old first pile of.sources version says staged);
        },
      )

pub published_sources : (given others : List Row) (old new first last : Held) → Makes Publish given old new
    → Makes Index others first last → choice_of given ≡ choice_of others → PublishesSources given others old first
    → LeaveOneDirectory Publish Index given others new last
published_sources given others old new first last made also choice of =
    let same : SayTheSame Publish Index given others old first = record {
      versions = λ version. (
        index_says given others old first of version,
        publish_says given others old first of version,
      );
      withdrawn = λ uid. (λ none. none, λ none. none);
    } in
    one_directory Publish Index given others old new first last made also choice same
