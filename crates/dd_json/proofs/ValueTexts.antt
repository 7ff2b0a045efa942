-- The texts of values, level by level, and of items and members from one of them on.
use Rattle.std.proofs.Common.{◌≡◌, ◌∙◌, ℕ, Bool, true, false, List, [], ◌∷◌, ◌++◌, ◌+◌, ◌<◌, ◌≤◌, length, drop, get_or}
use Rattle.std.proofs.Common.{Result, ap, ap₂, refl, sym, subst, rules, append_assoc, arith, length-drop}
use Rattle.std.specs.Prelude.{IsErr}
use Rattle.std.proofs.lemmas.List.{drop_all, drop_more}
use Rattle.std.specs.Borrow.{Bor}
use Rattle.std.specs.List.{concat}
use Rattle.json.specs.Print.{quoted}
use Rattle.serde_json.specs.Data.{Data, Members, array, boolean, member, no_members, object, string}
use Rattle.serde_json.specs.Written.{comma_if, compact_text, items_text, members_text}
use Rattle.dd_lines.specs.Telling.{Fails, GoesOn, Tells, Way, parts_of}
use Rattle.dd_lines.specs.Text.{joined}
use Rattle.dd_lines.proofs.GoingOn.{tells_then}
use Rattle.dd_json.specs.declared.value.Json.{Json, Array, Boolean, Joined, Number, Object, Shown, Text, Texts, the_lemmas}
use Rattle.dd_json.specs.Values.{count, items_view, json_line, members_view, printed, value_of}
use Rattle.dd_json.proofs.Along.{Along, along_fails, along_more}

-- ---- arrays and objects

pub value-Array : (items : Bor (List Json)) → value_of (Array items) ≡ array (items_view items.now)
value-Array items = search (rules, the_lemmas)

pub value-Object : (members : Bor (List (Bor (List ℕ) × Json)))
    → value_of (Object members) ≡ object (members_view members.now)
value-Object members = search (rules, the_lemmas)

-- the bracket went, and then what comes after it
pub array_tells : {T E : Type 0} (r : Result T E) (value : Json) (items : Bor (List Json)) (a b c : Way)
    → value ≡ Array items → GoesOn (91 ∷ []) a b → Tells r (items_text false (items_view items.now)) b c
    → Tells r (compact_text (value_of value)) a c
array_tells r value items a b c is first rest =
    subst (λ (text : List ℕ). Tells r text a c) (sym (ap compact_text (ap value_of is ∙ value-Array items)))
    (tells_then r (91 ∷ []) (items_text false (items_view items.now)) a b c first rest)

pub object_tells : {T E : Type 0} (r : Result T E) (value : Json) (members : Bor (List (Bor (List ℕ) × Json)))
    (a b c : Way) → value ≡ Object members → GoesOn (123 ∷ []) a b
    → Tells r (members_text false (members_view members.now)) b c → Tells r (compact_text (value_of value)) a c
object_tells r value members a b c is first rest =
    subst (λ (text : List ℕ). Tells r text a c) (sym (ap compact_text (ap value_of is ∙ value-Object members)))
    (tells_then r (123 ∷ []) (members_text false (members_view members.now)) a b c first rest)

-- ---- items

-- the text of the items from one on
abbrev pub items_from : Bool → List Json → ℕ → List ℕ
items_from later items i = items_text later (items_view (drop i items))

abbrev pub AlongItems : Bool → List Json → ℕ → Way → Way → Type 0
AlongItems later items i a b = Along (items_text false (items_view items)) (items_from later items i) a b

pub item_next : (later : Bool) (items : List Json) (i : ℕ) (d : Json) (a b : Way) → i < length items
    → d ≡ get_or items i d → AlongItems later items i a b
    → Along (items_text false (items_view items))
    (comma_if later ++ (compact_text (value_of d) ++ items_from true items (i + 1))) a b
item_next later items i d a b within is so_far =
    subst (λ (x : Json). Along (items_text false (items_view items))
    (comma_if later ++ (compact_text (value_of x) ++ items_from true items (i + 1))) a b) (sym is)
    (subst (λ (xs : List Json). Along (items_text false (items_view items)) (items_text later (items_view xs)) a b)
    (drop_more items i d within) so_far)

pub items_end : (later : Bool) (items : List Json) (i : ℕ) (a b : Way) → length items ≤ i → AlongItems later items i a b
    → Along (items_text false (items_view items)) (93 ∷ []) a b
items_end later items i a b past so_far =
    subst (λ (xs : List Json). Along (items_text false (items_view items)) (items_text later (items_view xs)) a b)
    (drop_all i items past) so_far

-- ---- members

abbrev pub Named : Type 0
Named = Bor (List ℕ) × Json

abbrev pub members_from : Bool → List Named → ℕ → List ℕ
members_from later members i = members_text later (members_view (drop i members))

abbrev pub AlongMembers : Bool → List Named → ℕ → Way → Way → Type 0
AlongMembers later members i a b =
    Along (members_text false (members_view members)) (members_from later members i) a b

-- the name and the colon, and then the value
regroup : (comma name value rest : List ℕ)
    → comma ++ (name ++ 58 ∷ (value ++ rest)) ≡ comma ++ ((name ++ 58 ∷ []) ++ (value ++ rest))
regroup comma name value rest = ap (λ (xs : List ℕ). comma ++ xs) (sym (append_assoc name (58 ∷ []) (value ++ rest)))

pub member_next : (later : Bool) (members : List Named) (i : ℕ) (d : Named) (a b : Way) → i < length members
    → AlongMembers later members i a b
    → Along (members_text false (members_view members))
    (comma_if later ++ ((quoted (get_or members i d).0.now ++ 58 ∷ [])
    ++ (compact_text (value_of (get_or members i d).1) ++ members_from true members (i + 1)))) a b
member_next later members i d a b within so_far =
    let all = members_text false (members_view members) in
    let rest = members_from true members (i + 1) in
    subst (λ (xs : List ℕ). Along all xs a b)
    (regroup (comma_if later) (quoted (get_or members i d).0.now) (compact_text (value_of (get_or members i d).1)) rest)
    (subst (λ (xs : List Named). Along all (members_text later (members_view xs)) a b)
    (drop_more members i d within) so_far)

-- the writer failed in the comma
comma_first : {T E : Type 0} (r : Result T E) (text : List ℕ) (later : Bool) (rest : List Named) (a b c : Way) → IsErr r
    → 0 < length rest → Along text (members_text later (members_view rest)) a b → Fails (comma_if later) b c
    → Tells r text a c
comma_first r text later [] a b c err some so_far failed = absurd (omega (arith, some))
comma_first r text later (named ∷ rest) a b c err some so_far failed =
    along_fails r text (comma_if later)
    (quoted named.0.now ++ 58 ∷ (compact_text (value_of named.1) ++ members_text true (members_view rest))) a b c err
    so_far failed

pub comma_fails : {T E : Type 0} (r : Result T E) (later : Bool) (members : List Named) (i : ℕ) (a b c : Way) → IsErr r
    → i < length members → AlongMembers later members i a b → Fails (comma_if later) b c
    → Tells r (members_text false (members_view members)) a c
comma_fails r later members i a b c err within so_far failed =
    comma_first r (members_text false (members_view members)) later (drop i members) a b c err
    (omega (arith, within, length-drop i members)) so_far failed

-- it failed in the name
pub name_fails : {T E : Type 0} (r : Result T E) (later : Bool) (members : List Named) (i : ℕ) (d : Named)
    (a b c e : Way) → IsErr r → i < length members → AlongMembers later members i a b → GoesOn (comma_if later) b c
    → Fails (quoted (get_or members i d).0.now ++ 58 ∷ []) c e → Tells r (members_text false (members_view members)) a e
name_fails r later members i d a b c e err within so_far comma failed =
    let all = members_text false (members_view members) in
    let name = quoted (get_or members i d).0.now ++ 58 ∷ [] in
    let rest = compact_text (value_of (get_or members i d).1) ++ members_from true members (i + 1) in
    along_fails r all name rest a c e err
    (along_more all (comma_if later) (name ++ rest) a b c (member_next later members i d a b within so_far) comma) failed

-- the comma and the name went
named_next : (later : Bool) (members : List Named) (i : ℕ) (d : Named) (a b c e : Way) → i < length members
    → AlongMembers later members i a b → GoesOn (comma_if later) b c
    → GoesOn (quoted (get_or members i d).0.now ++ 58 ∷ []) c e
    → Along (members_text false (members_view members))
    (compact_text (value_of (get_or members i d).1) ++ members_from true members (i + 1)) a e
named_next later members i d a b c e within so_far comma named =
    let all = members_text false (members_view members) in
    let name = quoted (get_or members i d).0.now ++ 58 ∷ [] in
    let rest = compact_text (value_of (get_or members i d).1) ++ members_from true members (i + 1) in
    along_more all name rest a c e
    (along_more all (comma_if later) (name ++ rest) a b c (member_next later members i d a b within so_far) comma) named

-- it failed in the value
pub value_fails : {T E : Type 0} (r : Result T E) (later : Bool) (members : List Named) (i : ℕ) (d : Named)
    (a b c e f : Way) → IsErr r → i < length members → AlongMembers later members i a b → GoesOn (comma_if later) b c
    → GoesOn (quoted (get_or members i d).0.now ++ 58 ∷ []) c e
    → Fails (compact_text (value_of (get_or members i d).1)) e f → Tells r (members_text false (members_view members)) a f
value_fails r later members i d a b c e f err within so_far comma named failed =
    along_fails r (members_text false (members_view members)) (compact_text (value_of (get_or members i d).1))
    (members_from true members (i + 1)) a e f err (named_next later members i d a b c e within so_far comma named) failed

-- the member went
pub member_goes : (later : Bool) (members : List Named) (i : ℕ) (d : Named) (a b c e f : Way) → i < length members
    → AlongMembers later members i a b → GoesOn (comma_if later) b c
    → GoesOn (quoted (get_or members i d).0.now ++ 58 ∷ []) c e
    → GoesOn (compact_text (value_of (get_or members i d).1)) e f → AlongMembers true members (i + 1) a f
member_goes later members i d a b c e f within so_far comma named value =
    along_more (members_text false (members_view members)) (compact_text (value_of (get_or members i d).1))
    (members_from true members (i + 1)) a e f (named_next later members i d a b c e within so_far comma named) value

pub members_end : (later : Bool) (members : List Named) (i : ℕ) (a b : Way) → length members ≤ i
    → AlongMembers later members i a b → Along (members_text false (members_view members)) (125 ∷ []) a b
members_end later members i a b past so_far =
    subst (λ (xs : List Named). Along (members_text false (members_view members)) (members_text later (members_view xs)) a b)
    (drop_all i members past) so_far

-- ---- values of literals, for callers: an object is what its members are, one after the other

pub value-Boolean : (truth : Bool) → value_of (Boolean truth) ≡ boolean truth
value-Boolean truth = search (rules, the_lemmas)

pub value-Number : (n : ℕ) → value_of (Number n) ≡ count n
value-Number n = search (rules, the_lemmas)

pub value-Text : (text : Bor (List ℕ)) → value_of (Text text) ≡ string text.now
value-Text text = search (rules, the_lemmas)

pub value-Texts : (texts : Bor (List (Bor (List ℕ)))) → value_of (Texts texts) ≡ string (joined texts.now)
value-Texts texts = search (rules, the_lemmas)

pub value-Shown : (bytes : Bor (List ℕ)) → value_of (Shown bytes) ≡ printed bytes.now
value-Shown bytes = search (rules, the_lemmas)

pub value-Joined : (parts : Bor (List (Bor (List ℕ)))) → value_of (Joined parts) ≡ printed (concat (parts_of parts.now))
value-Joined parts = search (rules, the_lemmas)

-- these members are seen as those: each has its name, and a value that stands for the data
pub data Sees : List Named → Members → Type 0 where
  sees_none : Sees [] no_members
  sees_more : {name : Bor (List ℕ)} {value : Json} {rest : List Named} {d : Data} {ms : Members} → value_of value ≡ d
      → Sees rest ms → Sees ((name, value) ∷ rest) (member name.now d ms)

seen : {members : List Named} {ms : Members} → Sees members ms → members_view members ≡ ms
seen sees_none = refl
seen (sees_more {name} {value} {rest} {d} {ms} is others) = ap₂ (member name.now) is (seen others)

pub object_is : (members : Bor (List Named)) (ms : Members) → Sees members.now ms → value_of (Object members) ≡ object ms
object_is members ms sees = value-Object members ∙ ap object (seen sees)

-- the line of an object with such members went
pub object_line : {T E : Type 0} (r : Result T E) (members : Bor (List Named)) (ms : Members) (a b : Way)
    → Tells r (json_line (value_of (Object members))) a b → Sees members.now ms → Tells r (json_line (object ms)) a b
object_line r members ms a b tells sees =
    subst (λ (x : Data). Tells r (json_line x) a b) (object_is members ms sees) tells
