-- The offsets in a directory are smaller than its size.
use Rattle.std.specs.Prelude.{◌≡◌, ℕ, List, [], None, Result, Ok, Err, IfOk}
use Rattle.std.specs.List.{last_or}
use Rattle.std.proofs.Common.{sym, subst}
use Rattle.dd_version.specs.declared.parts.Parts.{Parts}
use Rattle.dd_stream.specs.declared.write_fault.WriteFault.{WriteFault}
use Rattle.dd_records.specs.declared.label.Label.{Label}
use Rattle.dd_layout.specs.Paths.{is_path, parent_of}
use Rattle.dd_layout.specs.Plans.{size, tree}
use Rattle.dd_layout.specs.Tree.{children, first_child}
use Rattle.dd_layout.proofs.OffsetsWithin.{found_there, last_there, named_within, records_within}
use Rattle.dd_dir.specs.Directories.{OffsetsWithin}

offsets_within : (label : Label) (versions : List Parts) (withdrawn : List (List ℕ))
    → OffsetsWithin (size label versions withdrawn) label versions
offsets_within label versions withdrawn = record {
  first = named_within label versions withdrawn (first_child (tree versions) [])
      (found_there (λ y. is_path (parent_of y) []) (tree versions));
  last = named_within label versions withdrawn (last_or None (children (tree versions) []))
      (last_there (λ y. is_path (parent_of y) []) (tree versions));
  records = records_within label versions withdrawn;
}

-- so they are smaller than the number of bytes that were sent, where these are as many as planned
pub within_size : (label : Label) (versions : List Parts) (withdrawn : List (List ℕ)) (sent : Result ℕ WriteFault)
    → IfOk sent (λ n. n ≡ size label versions withdrawn) → IfOk sent (λ n. OffsetsWithin n label versions)
within_size label versions withdrawn (Ok n) is =
    subst (λ (k : ℕ). OffsetsWithin k label versions) (sym is) (offsets_within label versions withdrawn)
within_size label versions withdrawn (Err fault) is = tt
