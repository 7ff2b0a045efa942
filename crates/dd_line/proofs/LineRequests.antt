-- The one value of an argument, and what becomes of a refusal.
use Rattle.std.proofs.Common.{◌≡◌, List, [], Option, Some, None, sym}
use Rattle.std.proofs.Common.{Err, Ok, Result, length, subst}
use Rattle.std.specs.List.{find}
use Rattle.std.specs.Option.{option_map, unwrap_or}
use Rattle.std.specs.Prelude.{◌∷◌, IfErr, IsErrAnd, option_and_then, slice_get}
use Rattle.std.specs.Str.{bytes_eq}
use Rattle.clap.specs.Words.{Row, Text, first_of}
use Rattle.dd_line.specs.Requests.{HasOne, IsOnly}
use Rattle.dd_line.specs.declared.line.LineFault.{LineFault}

-- ---- the one value of an argument

pub only_value : (name : Text) (rows : List Row) (value : Text) → HasOne name rows → Some value ≡ first_of name rows
    → IsOnly name rows value
only_value name rows value one first = go (find (λ r. bytes_eq r.id name) rows) one first
  where
    alone : (values : List Text) → length values ≡ 1 → Some value ≡ slice_get values 0 → values ≡ value ∷ []
    alone [] one first = cc
    alone (v ∷ []) one first = cc
    alone (v ∷ (w ∷ vs)) one first = cc

    go : (o : Option Row) → length (unwrap_or (option_map (λ r. r.values) o) []) ≡ 1
        → Some value ≡ option_and_then (λ r. slice_get r.values 0) o
        → unwrap_or (option_map (λ r. r.values) o) [] ≡ value ∷ []
    go None one first = cc
    go (Some r) one first = alone r.values one first

pub no_value : (name : Text) (rows : List Row) → HasOne name rows → None ≡ first_of name rows → ⊥
no_value name rows one first = go (find (λ r. bytes_eq r.id name) rows) one first
  where
    alone : (values : List Text) → length values ≡ 1 → None ≡ slice_get values 0 → ⊥
    alone [] one first = cc
    alone (v ∷ vs) one first = cc

    go : (o : Option Row) → length (unwrap_or (option_map (λ r. r.values) o) []) ≡ 1
        → None ≡ option_and_then (λ r. slice_get r.values 0) o → ⊥
    go None one first = cc
    go (Some r) one first = alone r.values one first

-- ---- refusals

-- what holds of a fault holds of it where it is passed on
pub passed_on : {T : Type 0} (r : Result T LineFault) (e : LineFault) (P : LineFault → Type 0)
    → IsErrAnd r (λ fault. fault ≡ e) → P e → IfErr r P
passed_on (Ok x) e P is holds = tt
passed_on (Err fault) e P is holds = subst P (sym is) holds
