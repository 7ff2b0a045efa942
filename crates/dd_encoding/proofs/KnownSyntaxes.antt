-- The syntax of a transfer syntax, by tests of its UID.
use Rattle.std.proofs.Common.{◌≡◌, ℕ, Bool, true, false, ◌||◌, List, [], ◌∷◌, Option, Some, None, option_map, map}
use Rattle.std.proofs.Common.{if◌then◌else◌, refl, sym, ◌∙◌, bytes_eq}
use Rattle.std.specs.Prelude.{find, codes, is_some, Contains, Decides}
use Rattle.std.specs.List.{list_any}
use Rattle.std.proofs.lemmas.Cmp.{nat_list_eq_equiv}
use Rattle.dd_encoding.specs.declared.syntax.Syntax.{Syntax}
use Rattle.dd_encoding.specs.declared.syntax.Syntax.TheVariants.{Explicit, Encapsulated}
use Rattle.dd_version.specs.Syntaxes.{encapsulated_syntaxes, known_syntaxes, is_known_syntax}
use Rattle.dd_version.proofs.KnownSyntaxes.{is_known_syntax_decides}
use Rattle.dd_encoding.specs.Syntaxes.{TransferSyntax, transfer_syntaxes, syntax_of}

abbrev encapsulated : List ℕ → TransferSyntax
encapsulated uid = record { uid = uid; syntax = Encapsulated }

abbrev syntax_in : Option TransferSyntax → Option Syntax
syntax_in found = option_map (λ (t : TransferSyntax). t.syntax) found

found_step : (is any : Bool) (uid : List ℕ) (found : Option TransferSyntax)
    → syntax_in found ≡ (if any then Some Encapsulated else None)
    → syntax_in (if is then Some (encapsulated uid) else found) ≡ (if is || any then Some Encapsulated else None)
found_step true any uid found h = refl
found_step false any uid found h = h

found_among : (uid : List ℕ) (uids : List (List ℕ))
    → syntax_in (find (λ (t : TransferSyntax). bytes_eq t.uid uid) (map encapsulated uids))
    ≡ (if list_any (bytes_eq uid) uids then Some Encapsulated else None)
found_among uid [] = refl
found_among uid (known ∷ uids) =
    rw (nat_list_eq_equiv.symm uid known) (found_step (bytes_eq known uid) _ known _ (found_among uid uids))

-- after the tests for the two others
pub after_both : (uid : List ℕ) (listed : Bool) → bytes_eq uid (codes "1.2.840.10008.1.2") ≡ false
    → bytes_eq uid (codes "1.2.840.10008.1.2.1") ≡ false
    → list_any (bytes_eq uid) encapsulated_syntaxes ≡ listed
    → (if listed then Some Encapsulated else None) ≡ syntax_of uid
unfolding syntax_of
after_both uid listed implicit explicit is =
    let no_implicit = nat_list_eq_equiv.symm (codes "1.2.840.10008.1.2") uid ∙ implicit in
    let no_explicit = nat_list_eq_equiv.symm (codes "1.2.840.10008.1.2.1") uid ∙ explicit in
    rw (no_implicit, no_explicit) (rw is at (sym (found_among uid encapsulated_syntaxes)))

-- Explicit VR Little Endian has a syntax
pub explicit_known : syntax_of (codes "1.2.840.10008.1.2.1") ≡ Some Explicit
unfolding syntax_of
explicit_known = refl

-- ---- a transfer syntax has a syntax exactly where it is known

some_step : (is any : Bool) (t : TransferSyntax) (found : Option TransferSyntax) → is_some (syntax_in found) ≡ any
    → is_some (syntax_in (if is then Some t else found)) ≡ is || any
some_step true any t found h = refl
some_step false any t found h = h

some_among : (uid : List ℕ) (ts : List TransferSyntax)
    → is_some (syntax_in (find (λ (t : TransferSyntax). bytes_eq t.uid uid) ts))
    ≡ list_any (bytes_eq uid) (map (λ (t : TransferSyntax). t.uid) ts)
some_among uid [] = refl
some_among uid (t ∷ ts) =
    rw (nat_list_eq_equiv.symm uid t.uid) (some_step (bytes_eq t.uid uid) _ t _ (some_among uid ts))

known_is : (uid : List ℕ) → is_some (syntax_of uid) ≡ is_known_syntax uid
unfolding syntax_of is_known_syntax
known_is uid = some_among uid transfer_syntaxes

pub syntax_decides : (uid : List ℕ) → Decides (is_some (syntax_of uid)) (Contains known_syntaxes uid)
syntax_decides uid = rw (known_is uid) (is_known_syntax_decides uid)
