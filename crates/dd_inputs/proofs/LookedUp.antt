-- The path that a name has in a folder is the one at which it is looked up there.
use Rattle.std.proofs.Common.{◌≡◌, ◌≢◌, ◌++◌, ◌∷◌, ◌∙◌, ◌==◌, Bool, true, false, [], Result, Ok, Err, IfOk, codes, eqb-true}
use Rattle.std.proofs.Common.{get_or, length, refl, sym, take, true≢false}
use Rattle.std.proofs.lemmas.Bool.Decides.{Decides-eqb}
use Rattle.std.proofs.lemmas.List.{append_assoc}
use Rattle.std.proofs.lemmas.Slice.Eq.{ends_is}
use Rattle.std.specs.Prelude.{◌-◌, String, if◌then◌else◌, string_bytes}
use Rattle.std.specs.declared.alloc.Global.{Global}
use Rattle.clap.specs.Words.{Text}
use Rattle.dd_files.specs.Paths.{EndsInSlash}
use Rattle.dd_inputs.specs.From.{ends_in_slash, is_absolute, joint, looked_up}

not_absolute : (path : Text) → (get_or path 0 0 ≡ 47 → ⊥) → is_absolute path ≡ false
not_absolute [] none = refl
not_absolute (byte ∷ rest) none = go (byte == 47) refl
  where
    go : (t : Bool) → (byte == 47) ≡ t → t ≡ false
    go true t = absurd (none (eqb-true byte 47 t))
    go false t = refl

joined : (from path found : Text) → (from ≡ [] → found ≡ path) → (EndsInSlash from → found ≡ from ++ path)
    → (from ≢ [] → ¬ EndsInSlash from → found ≡ from ++ codes "/" ++ path) → found ≡ from ++ (joint from ++ path)
joined [] path found bare ended apart = bare refl
joined (byte ∷ rest) path found bare ended apart = go (ends_in_slash (byte ∷ rest)) refl
  where
    go : (t : Bool) → ends_in_slash (byte ∷ rest) ≡ t
        → found ≡ (byte ∷ rest) ++ ((if t then [] else codes "/") ++ path)
    go true t =
        let ends = ends_is Decides-eqb (byte ∷ rest) (codes "/") true (sym t) in
        ended (take (length (byte ∷ rest) - 1) (byte ∷ rest), ends.0 refl)
    go false t =
        let ends = ends_is Decides-eqb (byte ∷ rest) (codes "/") false (sym t) in
        apart (λ none. cc) (λ front. true≢false (sym (ends.1 front.0 front.1)))
        ∙ append_assoc (byte ∷ rest) (codes "/") path

pub looked : {E : Type 0} (r : Result (String Global) E) (from path : Text) → (get_or path 0 0 ≡ 47 → ⊥)
    → IfOk r (λ found. from ≡ [] → string_bytes found ≡ path)
    → IfOk r (λ found. EndsInSlash from → string_bytes found ≡ from ++ path)
    → IfOk r (λ found. from ≢ [] → ¬ EndsInSlash from → string_bytes found ≡ from ++ codes "/" ++ path)
    → IfOk r (λ found. string_bytes found ≡ looked_up from path)
looked (Ok found) from path none bare ended apart =
    rw (not_absolute path none) (joined from path (string_bytes found) bare ended apart)
looked (Err e) from path none bare ended apart = tt
