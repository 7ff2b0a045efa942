-- The map and the list of files have the same bytes at the path.
use Rattle.std.proofs.Common.{ℕ, List, Some, ap, sym, ◌∙◌}
use Rattle.std.specs.Prelude.{option_map}
use Rattle.dd_mem_files.proofs.Stored.{lookup-listed}
use Rattle.dd_mem_files.proofs.mem_files.MemFiles.bytes.Goals as goal

pub returns-in-Some : goal.returns-in-Some
returns-in-Some c =
    rw (← c.self.view_is) (ap (λ (xs : List ℕ). Some xs) c.as_slice.ensures.value
    ∙ ap (option_map (λ v. v.items)) c.in-Some.ensures.value
    ∙ sym (lookup-listed c.args.path.now c.self.inside.files))

pub returns-in-None : goal.returns-in-None
returns-in-None c =
    rw (← c.self.view_is) (ap (option_map (λ v. v.items)) c.in-None.ensures.value
    ∙ sym (lookup-listed c.args.path.now c.self.inside.files))
