-- The files of a map by path, as a list of paths and bytes.
use Rattle.std.proofs.Common.{◌≡◌, ℕ, List, [], ◌∷◌, map, refl, Vec, string_bytes, false, ap, ◌∙◌, sym, arith}
use Rattle.std.proofs.Common.{inl, inr}
use Rattle.std.specs.Prelude.{Some, option_map, String, bytes_eq}
use Rattle.std.specs.BTreeMap.{BTreeMap, get_by_text, UpdatesBy}
use Rattle.std.specs.Cmp.Lexicographic.{slice_cmp}
use Rattle.std.specs.Ordering.{is_eq, nat_cmp}
use Rattle.std.specs.String.{string_cmp}
use Rattle.std.specs.Map.{lookup}
use Rattle.std.specs.declared.alloc.Global.{Global}
use Rattle.std.proofs.lemmas.Map.Text.{is_eq-slice_cmp, btree_map_updates_text}
use Rattle.std.proofs.lemmas.Slice.Eq.{bytes_eq-Decides}
use Rattle.std.proofs.lemmas.Bool.{false_from_ne_true}
use Rattle.dd_files.proofs.FileLaws.{by_test}
use Rattle.dd_mem_files.specs.MemFiles.{listed, bytes_at, KeepsFiles, SetsFile}

-- a path finds the same bytes in the list
lookup-map : (path : List ℕ) (es : List (String Global × Vec ℕ Global))
    → lookup (bytes_eq path) (map (λ e. (string_bytes e.0, e.1.items)) es)
    ≡ option_map (λ v. v.items) (lookup (λ k. is_eq (slice_cmp nat_cmp path (string_bytes k))) es)
lookup-map path [] = refl
lookup-map path (e ∷ es) =
    let rest = lookup-map path es in
    let same = is_eq-slice_cmp path (string_bytes e.0) in
    rw same (grind (arith, rest))

-- a path finds the same bytes in the map
pub lookup-listed : (path : List ℕ) (files : BTreeMap (String Global) (Vec ℕ Global))
    → lookup (bytes_eq path) (listed files) ≡ option_map (λ v. v.items) (get_by_text files path)
lookup-listed path files = lookup-map path files.entries

-- where a map changes at a path alone, so do the files
pub sets_file : (old new : BTreeMap (String Global) (Vec ℕ Global)) (path : List ℕ) (v : Vec ℕ Global)
    (bytes : List ℕ) → v.items ≡ bytes
    → UpdatesBy string_cmp (λ k. slice_cmp nat_cmp path (string_bytes k)) old new (Some v)
    → SetsFile (listed old) (listed new) path bytes
sets_file old new path v bytes same updates =
    let changed = btree_map_updates_text path old new (Some v) updates in
    let self_test = (bytes_eq-Decides path path).1 refl in
    let here : get_by_text new path ≡ Some v = changed path ∙ rw self_test in
    record {
      file = lookup-listed path new ∙ ap (option_map (λ w. w.items)) here ∙ ap (λ (xs : List ℕ). Some xs) same;
      others = λ other apart.
          let other_test : bytes_eq path other ≡ false = false_from_ne_true (bytes_eq path other)
          (λ t. apart (sym ((bytes_eq-Decides path other).0 t))) in
          let there : get_by_text new other ≡ get_by_text old other = changed other ∙ rw other_test in
          lookup-listed other new ∙ ap (option_map (λ w. w.items)) there ∙ sym (lookup-listed other old);
    }

-- a file that gets the bytes that it had leaves all as it was
pub keeps_files : (old new : List (List ℕ × List ℕ)) (path bytes : List ℕ) → bytes_at old path ≡ Some bytes
    → SetsFile old new path bytes → KeepsFiles old new
keeps_files old new path bytes had sets =
    record {
      all = λ other. elim (by_test (bytes_eq other path) (other ≡ path) (bytes_eq-Decides other path)) [
        | inl same ↦ rw (same.1) (sets.file ∙ sym had)
        | inr apart ↦ sets.others other apart.1
      ];
    }
