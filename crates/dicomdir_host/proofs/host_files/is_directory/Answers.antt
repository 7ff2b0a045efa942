-- What stands before the name says whether the path is a directory's.
use Rattle.std.proofs.Common.{◌≡◌, ◌≢◌, ◌++◌, ◌∙◌, List, ℕ, [], ap, codes, rules, sym}
use Rattle.std.proofs.lemmas.Bool.Decides.{Decides-eqb}
use Rattle.std.proofs.lemmas.Slice.Eq.{ends_is, strip_suffix_is}
use Rattle.dicomdir_host.proofs.DirectoryPaths.{ends_named, unnamed}
use Rattle.dicomdir_host.proofs.host_files.is_directory.Goals as goal

pub returns-else-is_empty : goal.returns-else-is_empty
returns-else-is_empty c =
    let path = c.as_bytes.result.now in
    let name = c.as_bytes-2.result.now in
    let front = c.in-Some.folder.now in
    let full : front ≢ [] = search rules in
    let cut : path ≡ front ++ name =
    rw c.in-Some.is at (strip_suffix_is Decides-eqb path name c.strip_suffix.result c.strip_suffix.ensures.cases) in
    let is : c.args.path.now ≡ front ++ codes "DICOMDIR" =
    sym c.as_bytes.ensures.value ∙ cut ∙ ap (λ (n : List ℕ). front ++ n) c.as_bytes-2.ensures.value in
    let ends = ends_is Decides-eqb front (codes "/") c.ends_with.result c.ends_with.ensures.value in
    ends_named c.args.path.now front _ c.ends_with.result is full ends.0 ends.1

pub returns-in-None : goal.returns-in-None
returns-in-None c =
    let path = c.as_bytes.result.now in
    let name = c.as_bytes-2.result.now in
    let none : (front : List ℕ) → path ≢ front ++ name =
    rw c.in-None.is at (strip_suffix_is Decides-eqb path name c.strip_suffix.result c.strip_suffix.ensures.cases) in
    let other : (front : List ℕ) → c.args.path.now ≢ front ++ codes "DICOMDIR" = λ front is. none front
    (c.as_bytes.ensures.value ∙ is ∙ ap (λ (n : List ℕ). front ++ n) (sym c.as_bytes-2.ensures.value)) in
    (λ yes. absurd (search rules), λ is. absurd (unnamed c.args.path.now other is))
