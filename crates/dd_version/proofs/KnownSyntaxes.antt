-- The test `is_known_syntax` decides whether a transfer syntax is known, by tests of its UID.
use Rattle.std.proofs.Common.{◌≡◌, ℕ, Bool, true, false, ◌||◌, List, refl, ap, bytes_eq}
use Rattle.std.specs.Prelude.{Contains, Decides}
use Rattle.std.specs.List.{list_any}
use Rattle.std.proofs.lemmas.Cmp.{nat_list_eq_equiv}
use Rattle.dd_version.specs.Syntaxes.{implicit_syntax, explicit_syntax, encapsulated_syntaxes, known_syntaxes}
use Rattle.dd_version.specs.Syntaxes.{is_known_syntax}
use Rattle.dd_version.specs.declared.syntaxes.TheConstants.{ENCAPSULATED}
use Rattle.dd_version.proofs.Listed.{listed_decides}

-- the test decides
pub is_known_syntax_decides : (uid : List ℕ) → Decides (is_known_syntax uid) (Contains known_syntaxes uid)
unfolding is_known_syntax
is_known_syntax_decides uid = listed_decides known_syntaxes uid

-- a search in the code's table
pub in_table : (uid : List ℕ) → list_any (λ known. bytes_eq known.now uid) ENCAPSULATED
    ≡ list_any (bytes_eq uid) encapsulated_syntaxes
in_table uid =
    ap (λ (test : List ℕ → Bool). list_any test encapsulated_syntaxes)
    (λ i known. nat_list_eq_equiv.symm known uid i)

-- ---- by one test after the other

second : (one other : Bool) → other ≡ true → one || other ≡ true
second true other e = refl
second false other e = e

pub known_implicit : (uid : List ℕ) → bytes_eq uid implicit_syntax ≡ true → is_known_syntax uid ≡ true
unfolding is_known_syntax
known_implicit uid e = rw e refl

pub known_explicit : (uid : List ℕ) → bytes_eq uid explicit_syntax ≡ true → is_known_syntax uid ≡ true
unfolding is_known_syntax
known_explicit uid e = second (bytes_eq uid implicit_syntax) _ (rw e refl)

pub known_else : (uid : List ℕ) → bytes_eq uid implicit_syntax ≡ false → bytes_eq uid explicit_syntax ≡ false
    → list_any (bytes_eq uid) encapsulated_syntaxes ≡ is_known_syntax uid
unfolding is_known_syntax
known_else uid implicit explicit = rw (implicit, explicit) refl
