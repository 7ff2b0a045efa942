-- A case that keeps its equation.
use Rattle.std.specs.Prelude.{◌≡◌, Option, Some, None}
use Rattle.std.proofs.Common.{refl}

pub by_option : {A G : Type 0} (r : Option A) → (r ≡ None → G) → ((a : A) → r ≡ Some a → G) → G
by_option None absent present = absent refl
by_option (Some a) absent present = present a refl
