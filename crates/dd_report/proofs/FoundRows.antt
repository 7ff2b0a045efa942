-- Records and the paths of their files, one after the other.
use Rattle.std.proofs.Common.{◌≡◌, ◌∙◌, ℕ, List, [], ◌∷◌, ◌++◌, ◌+◌, ◌<◌, ◌≤◌, Option, None, Result, Ok, Err, length, take, get_or}
use Rattle.std.proofs.Common.{refl, sym, ap, ap₂, subst, append_assoc, append-nil}
use Rattle.std.proofs.lemmas.List.{map-append, take_all}
use Rattle.std.proofs.lemmas.List.Elements.{All-append, All-cons, All-nil}
use Rattle.std.specs.Prelude.{All, IfOk, OnOk}
use Rattle.std.specs.List.{flat_map}
use Rattle.dd_elem.specs.Device.{counted}
use Rattle.dd_elem.specs.FileIdForm.{IsFileId}
use Rattle.dd_walk.specs.declared.forest.Tree.{Tree, out-Tree}
use Rattle.dd_walk.specs.ForestViews.{tree_view, trees_view}
use Rattle.dd_walk.specs.Trees.{Node}
use Rattle.dd_files.proofs.FilePaths.{id_ascii}
use Rattle.dd_files.specs.Files.{Held}
use Rattle.dd_files.specs.FoundPaths.{IsFoundAt}
use Rattle.dd_files.specs.Paths.{IsPathIn, id_path}
use Rattle.dd_lines.proofs.GoingOn.{one_more}
use Rattle.dd_report.specs.declared.found_records.FoundRecord.{FoundRecord}
use Rattle.dd_report.specs.Finding.{file_in}
use Rattle.dd_report.specs.FoundRecords.{AreFound, FindsMore, FoundRow, IsFound, IsPathOf, Row, branch_rows, found_row}
use Rattle.dd_report.specs.FoundRecords.{found_rows, row_of, rows_of}
use Rattle.dd_report.proofs.ListedLines.{below_is}

-- ---- records depth first

abbrev pub tree_rows : ℕ → Tree → List Row
tree_rows level t = branch_rows level (tree_view t)

rows_each : (level : ℕ) (trees : List Tree) → rows_of level (trees_view trees) ≡ flat_map (tree_rows level) trees
rows_each level [] = refl
rows_each level (t ∷ trees) = ap (λ (xs : List Row). tree_rows level t ++ xs) (rows_each level trees)

rows_more : (level : ℕ) (trees : List Tree) (i : ℕ) (t : Tree) → i < length trees → t ≡ get_or trees i t
    → rows_of level (trees_view (take i trees)) ++ tree_rows level t ≡ rows_of level (trees_view (take (i + 1) trees))
rows_more level trees i t within is =
    ap (λ (x : Tree). rows_of level (trees_view (take i trees)) ++ tree_rows level x) is
    ∙ ap (λ (xs : List Row). xs ++ tree_rows level (get_or trees i t)) (rows_each level (take i trees))
    ∙ sym (rows_each level (take (i + 1) trees) ∙ one_more (tree_rows level) trees i t within)

-- ---- what is found

module _ (IsShown : List ℕ → List ℕ → List ℕ → Type 0) (held : Option Held) (folder : List ℕ) where
  abbrev Finds : List Row → List FoundRow → List FoundRow → Type 0
  Finds = FindsMore IsShown held folder

  pub finds_none : (old : List FoundRow) → Finds [] old old
  finds_none old =
      ([], record { rows_are = refl; paths_are = All-nil (IsFound IsShown held folder) }, sym (append-nil old))

  finds_then : (one two : List Row) (a b c : List FoundRow) → Finds one a b → Finds two b c → Finds (one ++ two) a c
  finds_then one two a b c (xs, first, b_is) (ys, second, c_is) = (
    xs ++ ys,
    record {
      rows_are = map-append (λ (x : FoundRow). x.row) xs ys
          ∙ ap₂ (λ (p q : List Row). p ++ q) first.rows_are second.rows_are;
      paths_are = All-append (IsFound IsShown held folder) xs ys first.paths_are second.paths_are;
    },
    c_is ∙ ap (λ (zs : List FoundRow). zs ++ ys) b_is ∙ append_assoc a xs ys,
  )

  -- a record more
  finds_one : (found : FoundRecord) (a b : List FoundRecord) → IsFound IsShown held folder (found_row found)
      → b ≡ a ++ found ∷ [] → Finds ((found_row found).row ∷ []) (found_rows a) (found_rows b)
  finds_one found a b is more = (
    found_row found ∷ [],
    record {
      rows_are = refl;
      paths_are = All-cons (IsFound IsShown held folder) (found_row found) [] is (All-nil (IsFound IsShown held folder));
    },
    ap found_rows more ∙ map-append found_row a (found ∷ []),
  )

  -- a record, and then those below it
  pub branch_found : {A E : Type 0} (r : Result A E) (later : Option Held) (level deeper : ℕ) (t : Tree)
      (trees : List Tree) (found : FoundRecord) (a b c : List FoundRecord) → later ≡ held
      → (found_row found).row ≡ row_of level (tree_view t).node
      → IsFound IsShown held folder (found_row found) → b ≡ a ++ found ∷ [] → deeper ≡ counted level
      → trees ≡ (out-Tree t).below.items
      → OnOk r (FindsMore IsShown later folder (rows_of deeper (trees_view trees)) (found_rows b) (found_rows c))
      → OnOk r (Finds (branch_rows level (tree_view t)) (found_rows a) (found_rows c))
  branch_found (Ok done) later level deeper t trees found a b c kept row is more deep below rest =
      let same : rows_of deeper (trees_view trees) ≡ rows_of (counted level) (tree_view t).below =
      ap (λ (k : ℕ). rows_of k (trees_view trees)) deep
      ∙ ap (λ (ts : List Tree). rows_of (counted level) (trees_view ts)) below
      ∙ ap (rows_of (counted level)) (sym (below_is t)) in
      finds_then (row_of level (tree_view t).node ∷ []) (rows_of (counted level) (tree_view t).below)
      (found_rows a) (found_rows b) (found_rows c)
      (subst (λ (x : Row). Finds (x ∷ []) (found_rows a) (found_rows b)) row (finds_one found a b is more))
      (subst (λ (rows : List Row). Finds rows (found_rows b) (found_rows c)) same
      (subst (λ (held : Option Held). FindsMore IsShown held folder (rows_of deeper (trees_view trees)) (found_rows b)
      (found_rows c)) kept rest))
  branch_found (Err fault) later level deeper t trees found a b c kept row is more deep below rest = tt

  -- the trees so far, and one more
  pub tree_found : (later : Option Held) (level : ℕ) (trees : List Tree) (i : ℕ) (t : Tree) (a b c : List FoundRow)
      → later ≡ held → i < length trees → t ≡ get_or trees i t → Finds (rows_of level (trees_view (take i trees))) a b
      → FindsMore IsShown later folder (branch_rows level (tree_view t)) b c → Finds (rows_of level (trees_view (take (i + 1) trees))) a c
  tree_found later level trees i t a b c kept within is so_far next =
      subst (λ (rows : List Row). Finds rows a c) (rows_more level trees i t within is)
      (finds_then (rows_of level (trees_view (take i trees))) (tree_rows level t) a b c so_far
      (subst (λ (held : Option Held). FindsMore IsShown held folder (tree_rows level t) b c) kept next))

  -- all trees
  pub trees_found : (level : ℕ) (trees : List Tree) (i : ℕ) (a b : List FoundRow) → length trees ≤ i
      → Finds (rows_of level (trees_view (take i trees))) a b → Finds (rows_of level (trees_view trees)) a b
  trees_found level trees i a b past so_far =
      subst (λ (ts : List Tree). Finds (rows_of level (trees_view ts)) a b) (take_all i trees past) so_far

  -- all that is found, where nothing was before
  pub all_found : (rows : List Row) (old new : List FoundRow) → old ≡ [] → Finds rows old new
      → AreFound IsShown held folder rows new
  all_found rows old new none (found, are, is) =
      subst (λ (xs : List FoundRow). AreFound IsShown held folder rows xs)
      (sym (is ∙ ap (λ (xs : List FoundRow). xs ++ found) none)) are

  -- ---- the path of a record

  pub no_path : (node : Node) (file : List ℕ) → file ≡ file_in node → ¬ IsFileId file
      → IsPathOf IsShown held folder node None
  no_path node file is none = record {
    unnamed = λ _. refl;
    named = λ id. absurd (none (subst IsFileId (sym is) id));
  }

  pub path_found : {A E : Type 0} (r : Result A E) (sense : A → Option (List ℕ)) (node : Node)
      (file path opened : List ℕ) → file ≡ file_in node → IsFileId file → opened ≡ path
      → (All (λ (byte : ℕ). byte < 128) file → IsPathIn folder (id_path file) path)
      → IfOk r (λ found. IsFoundAt (IsShown folder opened) held opened (sense found))
      → IfOk r (λ found. IsPathOf IsShown held folder node (sense found))
  path_found (Ok found) sense node file path opened is id same at there = record {
    unnamed = λ none. absurd (none (subst IsFileId is id));
    named = λ _. (
      path,
      subst (λ (name : List ℕ). IsPathIn folder (id_path name) path) is (at (id_ascii file id)),
      subst (λ (place : List ℕ). IsFoundAt (IsShown folder place) held place (sense found)) same there,
    );
  }
  path_found (Err fault) sense node file path opened is id same at there = tt
