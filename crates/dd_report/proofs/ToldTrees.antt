-- What a check prints of records, one after the other, and of trees of them.
use Rattle.std.proofs.Common.{◌≡◌, ◌∙◌, ℕ, zero, suc, Bool, true, false, List, [], ◌∷◌, ◌++◌, ◌+◌, ◌<◌, ◌≤◌}
use Rattle.std.proofs.Common.{Option, None, Some}
use Rattle.std.proofs.Common.{Result, Ok, Err, length, take, drop, get_or, refl, sym, ap}
use Rattle.std.proofs.Common.{subst, append_assoc, append-nil, arith, rules}
use Rattle.std.proofs.Common.{inl, inr}
use Rattle.std.specs.Prelude.{◌≢◌, ◌&&◌, ◌||◌, ◌==◌, not, nat_lt, All, IfOk, IfSome, IsSome}
use Rattle.std.specs.Io.KnownBytes.{Consumes}
use Rattle.std.specs.List.{flat_map}
use Rattle.std.proofs.lemmas.List.{take_all}
use Rattle.dd_elem.specs.declared.device.Read.{Ghosts as ReadOf}
use Rattle.dd_elem.specs.Device.{Gives, HasWorked}
use Rattle.dd_elem.specs.FileIdForm.{IsFileId}
use Rattle.dd_version.specs.Fitting.{is_empty}
use Rattle.dd_walk.specs.declared.forest.Tree.{Tree, out-Tree, the_lemmas}
use Rattle.dd_walk.specs.ForestViews.{tree_view, trees_view, walk_view}
use Rattle.dd_walk.specs.Trees.{Node, Trees, Walk}
use Rattle.dd_walk.specs.declared.forest.Forest.{Forest}
use Rattle.dd_files.specs.Files.{Held}
use Rattle.dd_files.specs.Paths.{IsPathIn, id_path}
use Rattle.dd_files.proofs.FilePaths.{id_ascii}
use Rattle.dd_report.specs.Checking.{Checks, ChecksAll, FindsFile, FindsRead, TellsAll, TellsFirst}
use Rattle.dd_report.specs.Checking.{TellsSome, TellsWalk, end_line, file_line, finding_line, is_right}
use Rattle.dd_report.specs.Checking.{most_read}
use Rattle.dd_json.specs.declared.value.Style.{Style}
use Rattle.dd_report.specs.declared.checking.Comparison.{Comparison}
use Rattle.dd_report.specs.declared.checking.ReportFault.{ReportFault}
use Rattle.dd_report.specs.declared.checking.ReportFault.TheVariants.{Memory, Unsent}
use Rattle.dd_report.specs.declared.findings.Finding.{Finding}
use Rattle.dd_report.specs.declared.agreements.Inherited.{Inherited}
use Rattle.dd_report.specs.Agreements.{IsInherited, Standing, branch_standings, found_in, standing_below}
use Rattle.dd_report.specs.Agreements.{standings_below}
use Rattle.dd_report.specs.Finding.{FindsBy, IsFound, NamesFile, file_in}
use Rattle.dd_lines.specs.Telling.{Fails, GoesOn, Way}
use Rattle.dd_lines.specs.Text.{FailsAmid, TakesAll}
use Rattle.dd_report.specs.Batches.{Closes, Grows, Report, Reports}
use Rattle.dd_report.proofs.Batching.{grows_none, grows_then}
use Rattle.dd_lines.proofs.GoingOn.{all_goes, fails_next, fails_of_none, goes_then, none_goes}
use Rattle.dd_lines.proofs.GoingOn.{one_more, parted}

-- ---- nothing is printed only where nothing is found

both_not : (a b : Bool) → (not a || not b) ≡ not (a && b)
both_not true b = refl
both_not false b = refl

right : (findings : List ℕ) (walk : Walk) (found some all : Bool) → found ≡ not (is_empty findings)
    → some ≡ not (walk.unreached == 0) → all ≡ (found || some) → all ≡ not (is_right findings walk)
right findings walk found some all one two both =
    both ∙ ap (λ (b : Bool). b || some) one ∙ ap (λ (b : Bool). not (is_empty findings) || b) two
    ∙ both_not (is_empty findings) (walk.unreached == 0)

pub some_unreached : (n : ℕ) → nat_lt 0 n ≡ not (n == 0)
some_unreached zero = refl
some_unreached (suc n) = search (arith)

at_same : (t : Tree) → (out-Tree t).at ≡ (tree_view t).node.at
at_same t = search (rules, the_lemmas)

-- the line of a finding, by what the record of a tree says
pub tree_line : (style : Style) (t : Tree) (file : List ℕ) (finding : Option Finding)
    → file ≡ file_in (tree_view t).node
    → file_line style (out-Tree t).at file finding ≡ finding_line style (tree_view t).node finding
tree_line style t file finding is =
    ap (λ (at : ℕ). file_line style at file finding) (at_same t)
    ∙ ap (λ (name : List ℕ). file_line style (tree_view t).node.at name finding) is

-- ---- the records of trees

below_is : (t : Tree) → (tree_view t).below ≡ trees_view (out-Tree t).below.items
below_is t = search (rules, the_lemmas)

abbrev pub tree_standings : List Node → Tree → List Standing
tree_standings above t = branch_standings above (tree_view t)

standings_each : (above : List Node) (trees : List Tree)
    → standings_below above (trees_view trees) ≡ flat_map (tree_standings above) trees
standings_each above [] = refl
standings_each above (t ∷ trees) =
    ap (λ (xs : List Standing). tree_standings above t ++ xs) (standings_each above trees)

-- the standings of the first trees and of one more
one_tree_more : (above : List Node) (trees : List Tree) (i : ℕ) (t : Tree) → i < length trees → t ≡ get_or trees i t
    → standings_below above (trees_view (take (i + 1) trees))
    ≡ standings_below above (trees_view (take i trees)) ++ tree_standings above t
one_tree_more above trees i t within is =
    standings_each above (take (i + 1) trees) ∙ one_more (tree_standings above) trees i t within
    ∙ ap (λ (xs : List Standing). xs ++ tree_standings above (get_or trees i t))
    (sym (standings_each above (take i trees)))
    ∙ ap (λ (x : Tree). standings_below above (trees_view (take i trees)) ++ tree_standings above x) (sym is)

-- and of those after it
trees_parted : (above : List Node) (trees : List Tree) (i : ℕ) (t : Tree) → i < length trees → t ≡ get_or trees i t
    → standings_below above (trees_view trees)
    ≡ (standings_below above (trees_view (take i trees)) ++ tree_standings above t)
    ++ flat_map (tree_standings above) (drop (i + 1) trees)
trees_parted above trees i t within is =
    let later = flat_map (tree_standings above) (drop (i + 1) trees) in
    standings_each above trees ∙ parted (tree_standings above) trees i t within
    ∙ ap (λ (xs : List Standing). (xs ++ tree_standings above (get_or trees i t)) ++ later)
    (sym (standings_each above (take i trees)))
    ∙ ap (λ (x : Tree). (standings_below above (trees_view (take i trees)) ++ tree_standings above x) ++ later) (sym is)

-- ---- the file of a record

-- what a reader gave and what it has left are the bytes that it came with
stored_given : (held : Option Held) (path given : List ℕ) (old new : Option (List ℕ))
    → IfSome held (λ files. IsSome (files.bytes_at path) × (old ≡ files.bytes_at path)) → Consumes old new given
    → IfSome held (λ files. IsSome (files.bytes_at path) × Consumes (files.bytes_at path) new given)
stored_given None path given old new there known = tt
stored_given (Some files) path given old new there known =
    (there.0, subst (λ (o : Option (List ℕ)). Consumes o new given) there.1 known)

module _ {R : Type 0} (readers : ReadOf R) (held : Option Held) (folder : List ℕ) (comparison : Comparison) where
  pub read_found : (opened path file given : List ℕ) (standing : Standing) (finding : Option Finding) (fresh left : R)
      → file ≡ file_in standing.node → IsFileId (file_in standing.node) → opened ≡ path
      → (All (λ (byte : ℕ). byte < 128) file → IsPathIn folder (id_path file) path)
      → IfSome held (λ files. IsSome (files.bytes_at opened) × (readers.remaining fresh ≡ files.bytes_at opened))
      → ((past : readers.Past) → readers.has_given fresh past []) → readers.calls fresh ≡ 0 → readers.failures fresh ≡ 0
      → Gives readers.has_given fresh left given → Consumes (readers.remaining fresh) (readers.remaining left) given
      → readers.calls left ≤ readers.calls fresh + most_read + 1
      → IsFound finding (found_in comparison standing) most_read given (readers.remaining left) (readers.failures fresh)
      (readers.failures left)
      → FindsRead readers held folder comparison standing finding
  read_found opened path file given standing finding fresh left is id at place there first unread none gives known
      reads found = record {
        path = path;
        place = subst (λ (name : List ℕ). IsPathIn folder (id_path name) path) is
            (place (subst (λ (name : List ℕ). All (λ (byte : ℕ). byte < 128) name) (sym is)
            (id_ascii (file_in standing.node) id)));
        reader = left;
        given = given;
        gave = λ past. gives.then past [] (first past);
        stored = subst (λ (xs : List ℕ). IfSome held (λ files.
            IsSome (files.bytes_at xs) × Consumes (files.bytes_at xs) (readers.remaining left) given)) at
            (stored_given held opened given (readers.remaining fresh) (readers.remaining left) there known);
        reads = subst (λ (n : ℕ). readers.calls left ≤ n + most_read + 1) unread reads;
        found = subst (λ (n : ℕ). IsFound finding (found_in comparison standing) most_read given
            (readers.remaining left) n (readers.failures left)) none found;
      }

  -- the same of what is found wherever the record stands
  pub file_found : {A E : Type 0} (r : Result A E) (sense : A → Option Finding) (said : Inherited)
      (opened path file : List ℕ)
      (node : Node) (fresh left : R) (old new : ℕ)
      → file ≡ file_in node → NamesFile node → IsFileId (file_in node) → opened ≡ path
      → (All (λ (byte : ℕ). byte < 128) file → IsPathIn folder (id_path file) path)
      → IfSome held (λ files. IsSome (files.bytes_at opened) × (readers.remaining fresh ≡ files.bytes_at opened))
      → ((past : readers.Past) → readers.has_given fresh past []) → readers.calls fresh ≡ 0
      → readers.failures fresh ≡ 0 → HasWorked old new
      → IfOk r (λ judged. (above : List Node) → IsInherited said (node ∷ above)
      → FindsBy readers most_read (found_in comparison (standing_below above node)) (sense judged)
      fresh left)
      → IfOk r (λ judged. (above : List Node) → IsInherited said (node ∷ above)
      → FindsFile readers held folder comparison (standing_below above node) old new (sense judged))
  file_found (Ok judged) sense said opened path file node fresh left old new is names id at place there first unread
      none
      worked finds = λ above inherits. record {
        unnamed = λ unnamed. absurd (unnamed names);
        misnamed = λ _ bad. absurd (bad id);
        named = λ _ _.
            let by = finds above inherits in
            inr (
              worked,
              read_found opened path file by.given (standing_below above node) (sense judged) fresh left is id at place
                  there first unread none by.gave by.known by.few by.answered,
            );
      }
  file_found (Err fault) sense said opened path file node fresh left old new is names id at place there first unread
      none
      worked finds = tt

module _ {R : Type 0} (readers : ReadOf R) (held : Option Held) (folder : List ℕ) (comparison : Comparison)
    (style : Style) where
  -- ---- records

  abbrev Told : List Standing → ℕ → ℕ → List ℕ → Type 0
  Told = TellsAll readers held folder comparison style

  abbrev First : List Standing → ℕ → ℕ → List ℕ → Type 0
  First = TellsFirst readers held folder comparison style

  abbrev Checked : List Standing → Result Bool ReportFault → ℕ → ℕ → Way → Way → Type 0
  Checked = Checks readers held folder comparison style

  abbrev Reported : {T : Type 0} → List Standing → Result T ReportFault → ℕ → ℕ → Report → Report → Type 0
  Reported all r f g a b = Reports readers held folder comparison style all r f g a b

  -- the texts of both lists
  both_told : (xs ys : List Standing) (f g h : ℕ) (one two : List ℕ) → Told xs f g one → Told ys g h two
      → Told (xs ++ ys) f h (one ++ two)
  both_told [] ys f g h one two first second =
      subst (λ (n : ℕ). Told ys n h (one ++ two)) first.0
      (subst (λ (text : List ℕ). Told ys g h (text ++ two)) (sym first.1) second)
  both_told (x ∷ xs) ys f g h one two first second = (
    first.0,
    first.1 ++ two,
    first.2,
    ap (λ (text : List ℕ). text ++ two) first.3 ∙ append_assoc first.0 first.1 two,
    first.4,
    both_told xs ys first.2 g h first.1 two first.5 second,
  )

  -- the first of both lists
  first_after : (xs ys : List Standing) (f g h : ℕ) (one two : List ℕ) → Told xs f g one → First ys g h two
      → First (xs ++ ys) f h (one ++ two)
  first_after xs ys f g h one two told first = record {
    first = xs ++ first.first;
    others = first.others;
    parts = ap (λ (zs : List Standing). xs ++ zs) first.parts ∙ sym (append_assoc xs first.first first.others);
    told = both_told xs first.first f g h one two told first.told;
  }

  first_front : (xs ys : List Standing) (f g : ℕ) (text : List ℕ) → First xs f g text → First (xs ++ ys) f g text
  first_front xs ys f g text first = record {
    first = first.first;
    others = first.others ++ ys;
    parts = ap (λ (zs : List Standing). zs ++ ys) first.parts ∙ append_assoc first.first first.others ys;
    told = first.told;
  }

  pub none_told : {T : Type 0} (done : T) (n : ℕ) (w : Report) → Reported [] (Ok done) n n w w
  none_told done n w = ([], (refl, refl), grows_none w)

  -- memory ran out before anything was found of a record's file
  pub record_cut : (T : Type 0) (standing : Standing) (f g : ℕ) (a b : Report) → g ≡ f → b ≡ a
      → Reported {T = T} (standing ∷ []) (Err Memory) f g a b
  record_cut T standing f g a b same still = (
    [],
    record { first = []; others = standing ∷ []; parts = refl; told = (same, refl) },
    subst (λ (w : Report). Grows [] a w) (sym still) (grows_none a),
  )

  one_told : (standing : Standing) (f g : ℕ) (finding : Option Finding)
      → FindsFile readers held folder comparison standing f g finding
      → Told (standing ∷ []) f g (finding_line style standing.node finding)
  one_told standing f g finding finds = (
    finding_line style standing.node finding,
    [],
    g,
    sym (append-nil (finding_line style standing.node finding)),
    record { finding = finding; finds = finds; line = refl },
    (refl, refl),
  )

  pub record_told : {T : Type 0} (done : T) (standing : Standing) (f g : ℕ) (finding : Option Finding)
      (start a b : Report) → a ≡ start → FindsFile readers held folder comparison standing f g finding
      → Grows (finding_line style standing.node finding) a b → Reported (standing ∷ []) (Ok done) f g start b
  record_told done standing f g finding start a b is finds grows = (
    finding_line style standing.node finding,
    one_told standing f g finding finds,
    subst (λ (w : Report). Grows (finding_line style standing.node finding) w b) is grows,
  )

  pub record_unsent : (T : Type 0) (standing : Standing) (f g : ℕ) (finding : Option Finding)
      (start a b : Report) → a ≡ start → FindsFile readers held folder comparison standing f g finding
      → Fails (finding_line style standing.node finding) a.course b.course
      → Reported {T = T} (standing ∷ []) (Err Unsent) f g start b
  record_unsent T standing f g finding start a b is finds failed = (
    finding_line style standing.node finding,
    record { first = standing ∷ []; others = []; parts = refl; told = one_told standing f g finding finds },
    subst (λ (w : Report). Fails (finding_line style standing.node finding) w.course b.course) is failed,
  )

  -- what is said of both lists
  then_told : {T : Type 0} (xs ys : List Standing) (one two done : T) (f g h : ℕ) (a b c : Report)
      → Reported xs (Ok one) f g a b → Reported ys (Ok two) g h b c → Reported (xs ++ ys) (Ok done) f h a c
  then_told xs ys one two done f g h a b c first second = (
    first.0 ++ second.0,
    both_told xs ys f g h first.0 second.0 first.1 second.1,
    grows_then first.0 second.0 a b c first.2 second.2,
  )

  -- a fault in the next of them ends the check
  ends_told : {T : Type 0} (xs ys zs all : List Standing) (fault : ReportFault) (done : T) (f g h : ℕ) (a b c : Report)
      → all ≡ (xs ++ ys) ++ zs → Reported xs (Ok done) f g a b → Reported {T = T} ys (Err fault) g h b c
      → Reported {T = T} all (Err fault) f h a c
  ends_told xs ys zs all Memory done f g h a b c are first next =
      let some : First ((xs ++ ys) ++ zs) f h (first.0 ++ next.0) =
      first_front (xs ++ ys) zs f h (first.0 ++ next.0)
      (first_after xs ys f g h first.0 next.0 first.1 next.1) in (
        first.0 ++ next.0,
        subst (λ (ns : List Standing). First ns f h (first.0 ++ next.0)) (sym are) some,
        grows_then first.0 next.0 a b c first.2 next.2,
      )
  ends_told xs ys zs all Unsent done f g h a b c are first next =
      let some : First ((xs ++ ys) ++ zs) f h (first.0 ++ next.0) =
      first_front (xs ++ ys) zs f h (first.0 ++ next.0)
      (first_after xs ys f g h first.0 next.0 first.1 next.1) in (
        first.0 ++ next.0,
        subst (λ (ns : List Standing). First ns f h (first.0 ++ next.0)) (sym are) some,
        fails_next first.0 next.0 a.course b.course c.course first.2.goes next.2,
      )

  -- files that hold the same
  abbrev ReportedOver : {T : Type 0} → Option Held → List Standing → Result T ReportFault → ℕ → ℕ → Report → Report
      → Type 0
  ReportedOver mid all r f g a b = Reports readers mid folder comparison style all r f g a b

  over : {T : Type 0} (mid : Option Held) (all : List Standing) (r : Result T ReportFault) (f g : ℕ) (a b : Report)
      → mid ≡ held → ReportedOver mid all r f g a b → Reported all r f g a b
  over mid all r f g a b same reports =
      subst (λ (h : Option Held). Reports readers h folder comparison style all r f g a b) same reports

  -- ---- trees

  pub more_told : {T : Type 0} (above : List Node) (mid : Option Held) (trees : List Tree) (i : ℕ) (t : Tree)
      (one so_far done : T) (f g h : ℕ) (a b c : Report) → i < length trees → t ≡ get_or trees i t → mid ≡ held
      → Reported (standings_below above (trees_view (take i trees))) (Ok so_far) f g a b
      → ReportedOver mid (tree_standings above t) (Ok one) g h b c
      → Reported (standings_below above (trees_view (take (i + 1) trees))) (Ok done) f h a c
  more_told above mid trees i t one so_far done f g h a b c within is same first next =
      subst (λ (ns : List Standing). Reported ns (Ok done) f h a c) (sym (one_tree_more above trees i t within is))
      (then_told (standings_below above (trees_view (take i trees))) (tree_standings above t) so_far one done f g h a
      b c
      first (over mid (tree_standings above t) (Ok one) g h b c same next))

  pub all_told : {T : Type 0} (above : List Node) (trees : List Tree) (i : ℕ) (so_far done : T) (f g : ℕ) (a b : Report)
      → length trees ≤ i → Reported (standings_below above (trees_view (take i trees))) (Ok so_far) f g a b
      → Reported (standings_below above (trees_view trees)) (Ok done) f g a b
  all_told above trees i so_far done f g a b past first =
      subst (λ (ts : List Tree). Reported (standings_below above (trees_view ts)) (Ok done) f g a b)
      (take_all i trees past) first

  pub trees_end : {T : Type 0} (above : List Node) (mid : Option Held) (trees : List Tree) (i : ℕ) (t : Tree)
      (r one : Result T ReportFault) (fault : ReportFault) (so_far : T) (f g h : ℕ) (a b c : Report) → i < length trees
      → t ≡ get_or trees i t → mid ≡ held → r ≡ Err fault → one ≡ Err fault
      → Reported (standings_below above (trees_view (take i trees))) (Ok so_far) f g a b
      → ReportedOver mid (tree_standings above t) one g h b c
      → Reported (standings_below above (trees_view trees)) r f h a c
  trees_end above mid trees i t r one fault so_far f g h a b c within is same ends was first next =
      subst (λ (x : Result _ ReportFault). Reported (standings_below above (trees_view trees)) x f h a c) (sym ends)
      (ends_told (standings_below above (trees_view (take i trees))) (tree_standings above t)
      (flat_map (tree_standings above) (drop (i + 1) trees)) (standings_below above (trees_view trees)) fault so_far
      f g h a b c (trees_parted above trees i t within is) first
      (subst (λ (x : Result _ ReportFault). Reported (tree_standings above t) x g h b c) was
      (over mid (tree_standings above t) one g h b c same next)))

  -- a record alone, and those below it
  abbrev alone : List Node → Tree → List Standing
  alone above t = standing_below above (tree_view t).node ∷ []

  abbrev lower : List Node → Tree → Trees → List Standing
  lower above t trees = standings_below ((tree_view t).node ∷ above) trees

  both_branches : {T : Type 0} (above : List Node) (t : Tree) (here : T) (r : Result T ReportFault) (f g h : ℕ)
      (a b c : Report) → Reported (alone above t) (Ok here) f g a b
      → Reported (lower above t (tree_view t).below) r g h b c → Reported (tree_standings above t) r f h a c
  both_branches above t here (Ok done) f g h a b c first rest =
      then_told (alone above t) (lower above t (tree_view t).below) here done done f g h a b c first rest
  both_branches above t here (Err fault) f g h a b c first rest =
      ends_told (alone above t) (lower above t (tree_view t).below) [] (tree_standings above t) fault here
      f g h a b c (sym (append-nil (tree_standings above t))) first rest

  pub branch_told : {T : Type 0} (above : List Node) (mid : Option Held) (t : Tree) (trees : List Tree) (here : T)
      (r : Result T ReportFault) (f g h : ℕ) (a b c : Report) → mid ≡ held → trees ≡ (out-Tree t).below.items
      → Reported (alone above t) (Ok here) f g a b
      → ReportedOver mid (lower above t (trees_view trees)) r g h b c
      → Reported (tree_standings above t) r f h a c
  branch_told above mid t trees here r f g h a b c same is first rest =
      both_branches above t here r f g h a b c first
      (subst (λ (ts : Trees). Reported (lower above t ts) r g h b c) (ap trees_view is ∙ sym (below_is t))
      (over mid (lower above t (trees_view trees)) r g h b c same rest))

  pub record_ends : {T : Type 0} (done : T) (above : List Node) (t : Tree) (r one : Result T ReportFault)
      (fault : ReportFault) (f g : ℕ) (a b : Report) → r ≡ Err fault → one ≡ Err fault
      → Reported (alone above t) one f g a b → Reported (tree_standings above t) r f g a b
  record_ends done above t r one fault f g a b ends was first =
      subst (λ (x : Result _ ReportFault). Reported (tree_standings above t) x f g a b) (sym ends)
      (ends_told [] (alone above t) (lower above t (tree_view t).below) (tree_standings above t) fault done
      f f g a a b refl (none_told done f a)
      (subst (λ (x : Result _ ReportFault). Reported (alone above t) x f g a b) was first))

  -- ---- all records

  no_more : (text : List ℕ) (a b c : Way) → GoesOn text a b → GoesOn [] b c → GoesOn text a c
  no_more text a b c first second =
      subst (λ (all : List ℕ). GoesOn all a c) (append-nil text) (goes_then text [] a b c first second)

  fails_after_all : (text : List ℕ) (a b c : Way) → GoesOn text a b → Fails [] b c → Fails text a c
  fails_after_all text a b c first failed =
      subst (λ (all : List ℕ). Fails all a c) (append-nil text) (fails_next text [] a b c first failed)

  -- once the files that wait are spoken of too
  closed : {T : Type 0} (all : List Standing) (r : Result T ReportFault) (answer : Result Bool ReportFault) (f g : ℕ)
      (a b : Report) (c : Way) → a.found ≡ false → Reported all r f g a b → Closes r answer b c
      → Checked all answer f g a.course c
  closed all (Ok done) (Ok found) f g a b c none reports closes = (
    reports.0,
    reports.1,
    closes.1 ∙ reports.2.found ∙ ap (λ (x : Bool). x || not (is_empty reports.0)) none,
    no_more reports.0 a.course b.course c reports.2.goes closes.0,
  )
  closed all (Ok done) (Err Memory) f g a b c none reports closes = absurd closes
  closed all (Ok done) (Err Unsent) f g a b c none reports closes = (
    reports.0,
    record { first = all; others = []; parts = sym (append-nil all); told = reports.1 },
    fails_after_all reports.0 a.course b.course c reports.2.goes closes,
  )
  closed all (Err Memory) (Ok found) f g a b c none reports closes = absurd closes
  closed all (Err Memory) (Err Memory) f g a b c none reports closes =
      (reports.0, reports.1, no_more reports.0 a.course b.course c reports.2.goes closes)
  closed all (Err Memory) (Err Unsent) f g a b c none reports closes =
      (reports.0, reports.1, fails_after_all reports.0 a.course b.course c reports.2.goes closes)
  closed all (Err Unsent) (Ok found) f g a b c none reports closes = absurd closes
  closed all (Err Unsent) (Err Memory) f g a b c none reports closes = absurd closes
  closed all (Err Unsent) (Err Unsent) f g a b c none reports closes = (
    reports.0,
    reports.1,
    subst (λ (h : Option (List ℕ)). FailsAmid a.course.holds h a.course.failures c.failures
        (a.course.waits ++ reports.0))
        (sym closes.0)
        (subst (λ (n : ℕ). FailsAmid a.course.holds b.course.holds a.course.failures n (a.course.waits ++ reports.0))
        (sym closes.1) reports.2),
  )

  pub all_closed : {T : Type 0} (all : List Standing) (r : Result T ReportFault) (answer : Result Bool ReportFault)
      (f g : ℕ) (a b : Report) (start c : Way) → a.found ≡ false → a.course ≡ start → Reported all r f g a b
      → Closes r answer b c → Checked all answer f g start c
  all_closed all r answer f g a b start c none is reports closes =
      subst (λ (w : Way). Checked all answer f g w c) is (closed all r answer f g a b c none reports closes)

  -- ---- a directory

  abbrev CheckedAll : Walk → Result Bool ReportFault → ℕ → ℕ → Way → Way → Type 0
  CheckedAll = ChecksAll readers held folder comparison style

  -- a fault in its trees is one of all
  pub walk_ends : (forest : Forest) (trees : List Tree) (r one : Result Bool ReportFault) (fault : ReportFault) (f g : ℕ)
      (a b : Way) → trees ≡ forest.trees.items → r ≡ Err fault → one ≡ Err fault
      → Checked (standings_below [] (trees_view trees)) one f g a b → CheckedAll (walk_view forest) r f g a b
  walk_ends forest trees r one Memory f g a b is ends was checks =
      let same : Checked (standings_below [] (trees_view forest.trees.items)) (Err Memory) f g a b =
      subst (λ (ts : List Tree). Checked (standings_below [] (trees_view ts)) (Err Memory) f g a b) is
      (subst (λ (x : Result Bool ReportFault). Checked (standings_below [] (trees_view trees)) x f g a b) was checks) in
      rw ends same
  walk_ends forest trees r one Unsent f g a b is ends was checks =
      let same : Checked (standings_below [] (trees_view forest.trees.items)) (Err Unsent) f g a b =
      subst (λ (ts : List Tree). Checked (standings_below [] (trees_view ts)) (Err Unsent) f g a b) is
      (subst (λ (x : Result Bool ReportFault). Checked (standings_below [] (trees_view trees)) x f g a b) was checks) in
      rw ends (same.0, inl same.1, same.2)

  abbrev Walked : Forest → Bool → ℕ → ℕ → List ℕ → Type 0
  Walked forest = TellsWalk readers held folder comparison style (walk_view forest)

  walk_told : (forest : Forest) (trees : List Tree) (found some all : Bool) (f g : ℕ) (text : List ℕ)
      → trees ≡ forest.trees.items → Told (standings_below [] (trees_view trees)) f g text → found ≡ not (is_empty text)
      → some ≡ not (forest.unreached == 0) → all ≡ (found || some)
      → Walked forest all f g (text ++ end_line style text (walk_view forest))
  walk_told forest trees found some all f g text is told one two both = (
    text,
    subst (λ (ts : List Tree). Told (standings_below [] (trees_view ts)) f g text) is told,
    right text (walk_view forest) found some all one two both,
    refl,
  )

  -- after the findings the end
  pub all_checked : (forest : Forest) (trees : List Tree) (found some all : Bool) (f g : ℕ) (a b c : Way)
      → trees ≡ forest.trees.items → Checked (standings_below [] (trees_view trees)) (Ok found) f g a b
      → ((findings : List ℕ) → found ≡ not (is_empty findings)
      → GoesOn (end_line style findings (walk_view forest)) b c)
      → some ≡ not (forest.unreached == 0) → all ≡ (found || some)
      → CheckedAll (walk_view forest) (Ok all) f g a c
  all_checked forest trees found some all f g a b c is checked ends two both =
      let end = end_line style checked.0 (walk_view forest) in (
        checked.0 ++ end,
        walk_told forest trees found some all f g checked.0 is checked.1 checked.2 two both,
        goes_then checked.0 end a b c checked.3 (ends checked.0 checked.2),
      )

  -- the writer failed there
  pub end_unsent : (forest : Forest) (trees : List Tree) (found : Bool) (f g : ℕ) (a b c : Way)
      → trees ≡ forest.trees.items → Checked (standings_below [] (trees_view trees)) (Ok found) f g a b
      → ((findings : List ℕ) → found ≡ not (is_empty findings) → Fails (end_line style findings (walk_view forest)) b c)
      → CheckedAll (walk_view forest) (Err Unsent) f g a c
  end_unsent forest trees found f g a b c is checked failed =
      let some = not (forest.unreached == 0) in
      let all = found || some in
      let end = end_line style checked.0 (walk_view forest) in (
        checked.0 ++ end,
        inr (all, walk_told forest trees found some all f g checked.0 is checked.1 checked.2 refl refl),
        fails_next checked.0 end a b c checked.3 (failed checked.0 checked.2),
      )

  -- ---- all that waits then goes, or the writer fails in it

  pub walk_went : (walk : Walk) (r : Result Bool ReportFault) (f g : ℕ) (a b : Way) (c : Option (List ℕ)) (h : ℕ)
      → a.waits ≡ [] → CheckedAll walk r f g a b → TakesAll b.holds c b.failures h b.waits
      → IfOk r (λ found. (text : List ℕ)
      × TellsWalk readers held folder comparison style walk found f g text
      × TakesAll a.holds c a.failures h text)
  walk_went walk (Ok found) f g a b c h none checks took =
      (checks.0, checks.1, all_goes checks.0 a b c h none checks.2 took)
  walk_went walk (Err fault) f g a b c h none checks took = tt

  pub walk_cut : (walk : Walk) (r : Result Bool ReportFault) (f g : ℕ) (a b : Way) (c : Option (List ℕ)) (h : ℕ)
      → a.waits ≡ [] → CheckedAll walk r f g a b → TakesAll b.holds c b.failures h b.waits → r ≡ Err Memory
      → (text : List ℕ) × First (standings_below [] walk.trees) f g text × TakesAll a.holds c a.failures h text
  walk_cut walk r f g a b c h none checks took is =
      let cut : CheckedAll walk (Err Memory) f g a b =
      subst (λ (x : Result Bool ReportFault). CheckedAll walk x f g a b) is checks in
      (cut.0, cut.1, all_goes cut.0 a b c h none cut.2 took)

  abbrev SomeTold : Walk → ℕ → ℕ → List ℕ → Type 0
  SomeTold = TellsSome readers held folder comparison style

  pub walk_unsent : (walk : Walk) (r : Result Bool ReportFault) (f g : ℕ) (a b : Way) → a.waits ≡ [] → r ≡ Err Unsent
      → CheckedAll walk r f g a b
      → (text : List ℕ) × SomeTold walk f g text × FailsAmid a.holds b.holds a.failures b.failures text
  walk_unsent walk r f g a b none is checks =
      let cut : CheckedAll walk (Err Unsent) f g a b =
      subst (λ (x : Result Bool ReportFault). CheckedAll walk x f g a b) is checks in
      (cut.0, cut.1, fails_of_none cut.0 a b none cut.2)

  pub rest_unsent : (walk : Walk) (r : Result Bool ReportFault) (f g : ℕ) (a b : Way) (c : Option (List ℕ)) (h : ℕ)
      → a.waits ≡ [] → r ≢ Err Unsent → CheckedAll walk r f g a b → FailsAmid b.holds c b.failures h b.waits
      → (text : List ℕ) × SomeTold walk f g text × FailsAmid a.holds c a.failures h text
  rest_unsent walk (Ok found) f g a b c h none not checks failed =
      (checks.0, inr (found, checks.1), none_goes checks.0 a b c h none checks.2 failed)
  rest_unsent walk (Err Memory) f g a b c h none not checks failed =
      (checks.0, inl checks.1, none_goes checks.0 a b c h none checks.2 failed)
  rest_unsent walk (Err Unsent) f g a b c h none not checks failed = absurd (not refl)
