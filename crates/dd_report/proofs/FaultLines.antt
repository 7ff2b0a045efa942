-- The lines of faults and of a file-set, by equal parts.
use Rattle.std.proofs.Common.{◌≡◌, ◌∙◌, ℕ, List, [], ◌∷◌, ◌++◌, Result, ap, ap₂, append-nil, subst}
use Rattle.std.specs.Borrow.{Bor}
use Rattle.std.specs.List.{concat}
use Rattle.std.specs.Prelude.{Some, codes}
use Rattle.dd_walk.specs.Trees.{Walk}
use Rattle.dd_report.specs.Listing.{or_dash, set_line, set_parts}
use Rattle.serde_json.specs.Data.{Data, Members, object}
use Rattle.dd_json.specs.declared.value.Json.{Joined, Object}
use Rattle.dd_json.specs.declared.value.Style.TheVariants.{Text}
use Rattle.dd_json.specs.Values.{json_line, printed, value_of}
use Rattle.dd_json.proofs.ValueTexts.{Named, Sees, object_is, value-Joined}
use Rattle.dd_lines.specs.Telling.{Tells, Way, parts_of, shown_line}
use Rattle.dd_report.specs.FindingJson.{fault_json, fault_line}

pub fault_tells : {T E : Type 0} (r : Result T E) (file given words : List ℕ) (named cause : Data) (a b : Way)
    → given ≡ words → named ≡ cause
    → Tells r (json_line (fault_line file (fault_json (printed (codes "31 File " ++ given)) named))) a b
    → Tells r (json_line (fault_line file (fault_json (printed (codes "31 File " ++ words)) cause))) a b
fault_tells r file given words named cause a b is is_cause tells =
    subst (λ (text : List ℕ). Tells r text a b)
    (ap₂ (λ (w : List ℕ) (c : Data). json_line (fault_line file (fault_json (printed (codes "31 File " ++ w)) c))) is
    is_cause)
    tells

-- three parts, one after the other
three_parts : (first words of : List ℕ) → concat (first ∷ words ∷ of ∷ []) ≡ first ++ (words ++ of)
three_parts first words of = ap (λ (xs : List ℕ). first ++ (words ++ xs)) (append-nil of)

-- the members of a fault are those of a literal
pub members_tell : {T E : Type 0} (r : Result T E) (file : List ℕ) (members : Bor (List Named)) (ms : Members)
    (a b : Way)
    → Sees members.now ms → Tells r (json_line (fault_line file (value_of (Object members)))) a b
    → Tells r (json_line (fault_line file (object ms))) a b
members_tell r file members ms a b sees tells =
    subst (λ (fault : Data). Tells r (json_line (fault_line file fault)) a b) (object_is members ms sees) tells

-- the words and the cause of a fault are those of a literal
pub parts_tell : {T E : Type 0} (r : Result T E) (file first words of : List ℕ) (parts : Bor (List (Bor (List ℕ))))
    (members : Bor (List Named)) (ms : Members) (a b : Way) → concat (parts_of parts.now) ≡ concat
    (first ∷ words ∷ of ∷ [])
    → Sees members.now ms
    → Tells r (json_line (fault_line file (fault_json (value_of (Joined parts)) (value_of (Object members))))) a b
    → Tells r (json_line (fault_line file (fault_json (printed (first ++ (words ++ of))) (object ms)))) a b
parts_tell r file first words of parts members ms a b is sees tells =
    subst (λ (text : List ℕ). Tells r text a b)
    (ap₂ (λ (w c : Data). json_line (fault_line file (fault_json w c)))
    (value-Joined parts ∙ ap printed (is ∙ three_parts first words of)) (object_is members ms sees)) tells

pub set_tells : {T E : Type 0} (r : Result T E) (walk : Walk) (id uid : List ℕ) (a b : Way)
    → id ≡ or_dash (Some walk.beside.id) → uid ≡ walk.beside.uid → Tells r (shown_line (set_parts id uid)) a b
    → Tells r (set_line Text walk) a b
set_tells r walk id uid a b id_is uid_is tells =
    subst (λ (parts : List (List ℕ)). Tells r (shown_line parts) a b) (ap₂ set_parts id_is uid_is) tells
