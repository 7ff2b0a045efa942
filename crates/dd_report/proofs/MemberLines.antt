-- The object of a record, which is written in parts.
use Rattle.std.proofs.Common.{◌≡◌, ◌∙◌, ◌==◌, ℕ, List, [], ◌∷◌, ◌++◌, length, Result, refl, sym, ap, ap₂, subst}
use Rattle.std.proofs.Common.{append_assoc, append-nil, arith, eqb-true, false, true}
use Rattle.std.specs.Prelude.{IsErr, codes}
use Rattle.std.specs.Borrow.{Bor}
use Rattle.std.specs.List.{flat_map}
use Rattle.json.specs.Print.{escape_byte, quoted}
use Rattle.serde_json.specs.Data.{Data, Members, object, string}
use Rattle.serde_json.specs.Written.{compact_text, members_text}
use Rattle.dd_encoding.specs.Elements.{Elements}
use Rattle.dd_set.specs.Views.{set_view}
use Rattle.dd_walk.specs.declared.forest.Tree.{Tree, out-Tree}
use Rattle.dd_walk.specs.ForestViews.{tree_view}
use Rattle.dd_walk.specs.Saying.{key_of}
use Rattle.dd_report.specs.declared.known.Form.{Form}
use Rattle.dd_report.specs.Finding.{file_in}
use Rattle.dd_report.specs.Listing.{elements_in, file_members, label_tag, members_with, named_members, record_json}
use Rattle.dd_report.specs.Listing.{record_members, uid_members, uid_tag}
use Rattle.dd_report.proofs.RecordLines.{kind_same, set_same}
use Rattle.dd_lines.specs.Telling.{Fails, GoesOn, Tells, Way}
use Rattle.dd_json.specs.Values.{json_line, members_in, members_view, object_of, printed, value_of}
use Rattle.dd_json.proofs.Steps.{first_fails, middle_fails, third_tells}
use Rattle.dd_json.specs.declared.value.Json.{Object}
use Rattle.dd_json.proofs.ValueTexts.{Named, Sees, object_is, value-Object}
use Rattle.dd_lines.proofs.GoingOn.{tells_then}
use Rattle.dd_report.specs.MemberTexts.{back_text, front_text, member_text, more_text, open_text}

-- ---- a member

member_is : (name : List ℕ) (value : Data)
    → 44 ∷ [] ++ ((quoted name ++ 58 ∷ []) ++ compact_text value) ≡ member_text name value
member_is name value = ap (λ (xs : List ℕ). 44 ∷ xs) (append_assoc (quoted name) (58 ∷ []) (compact_text value))

-- the comma went, then the name, and then the value
pub value_tells : {T E : Type 0} (r : Result T E) (name : List ℕ) (value : Data) (a b c d : Way) → GoesOn (44 ∷ []) a b
    → GoesOn (quoted name ++ 58 ∷ []) b c → Tells r (compact_text value) c d → Tells r (member_text name value) a d
value_tells r name value a b c d comma named tells =
    subst (λ (text : List ℕ). Tells r text a d) (member_is name value)
    (third_tells r (44 ∷ []) (quoted name ++ 58 ∷ []) (compact_text value) a b c d comma named tells)

-- the writer failed in the comma, or in the name
pub comma_fails : {T E : Type 0} (r : Result T E) (name : List ℕ) (value : Data) (a b : Way) → IsErr r
    → Fails (44 ∷ []) a b → Tells r (member_text name value) a b
comma_fails r name value a b err failed =
    subst (λ (text : List ℕ). Tells r text a b) (member_is name value)
    (first_fails r (44 ∷ []) ((quoted name ++ 58 ∷ []) ++ compact_text value) a b err failed)

pub name_fails : {T E : Type 0} (r : Result T E) (name : List ℕ) (value : Data) (a b c : Way) → IsErr r
    → GoesOn (44 ∷ []) a b → Fails (quoted name ++ 58 ∷ []) b c → Tells r (member_text name value) a c
name_fails r name value a b c err comma failed =
    subst (λ (text : List ℕ). Tells r text a c) (member_is name value)
    (middle_fails r (44 ∷ []) (quoted name ++ 58 ∷ []) (compact_text value) a b c err comma failed)

-- ---- members

abbrev pub named_text : Named → List ℕ
named_text named = member_text named.0.now (value_of named.1)

pub members_each : (members : List Named) → more_text (members_view members) ≡ flat_map named_text members
members_each [] = refl
members_each (named ∷ rest) = ap (λ (xs : List ℕ). named_text named ++ xs) (members_each rest)

-- the first member went, and then the others
pub record_goes : {T E : Type 0} (r : Result T E) (members : Bor (List Named)) (a b c : Way)
    → GoesOn (codes "{\"line\":\"RECORD\"") a b → Tells r (more_text (members_view members.now)) b c
    → Tells r (open_text (value_of (Object members))) a c
record_goes r members a b c first tells =
    subst (λ (value : Data). Tells r (open_text value) a c) (sym (value-Object members))
    (tells_then r (codes "{\"line\":\"RECORD\"") (more_text (members_view members.now)) a b c first tells)

-- an object was opened with members that stand for these
pub record_opens : {T E : Type 0} (r : Result T E) (members : Bor (List Named)) (ms : Members) (a b : Way)
    → Tells r (open_text (value_of (Object members))) a b → Sees members.now ms → Tells r (open_text (object ms)) a b
record_opens r members ms a b tells sees =
    subst (λ (value : Data). Tells r (open_text value) a b) (object_is members ms sees) tells

-- ---- the whole object

regroup : (name value more rest : List ℕ)
    → name ++ 58 ∷ (value ++ (more ++ rest)) ≡ ((name ++ 58 ∷ value) ++ more) ++ rest
regroup name value more rest =
    sym (append_assoc (name ++ 58 ∷ value) more rest ∙ append_assoc name (58 ∷ value) (more ++ rest))

more_last : (members last : List (List ℕ × Data)) → members_text true (members_in (members ++ last))
    ≡ more_text (members_in members) ++ members_text true (members_in last)
more_last [] last = refl
more_last (named ∷ members) last =
    let more = more_text (members_in members) in
    let rest = members_text true (members_in last) in
    ap (λ (xs : List ℕ). 44 ∷ (quoted named.0 ++ 58 ∷ (compact_text named.1 ++ xs))) (more_last members last)
    ∙ ap (λ (xs : List ℕ). 44 ∷ xs) (regroup (quoted named.0) (compact_text named.1) more rest)

abbrev pub record_of : List (List ℕ × Data) → Data
record_of members = object_of ((codes "line", string (codes "RECORD")) ∷ members)

pub parts_join : (members last : List (List ℕ × Data))
    → front_text members ++ back_text last ≡ json_line (record_of (members ++ last))
unfolding escape_byte
parts_join members last =
    let more = more_text (members_in members) in
    let rest = members_text true (members_in last) in
    let head = codes "{\"line\":\"RECORD\"" in
    ap (λ (xs : List ℕ). head ++ xs) (sym (append_assoc more rest (10 ∷ [])))
    ∙ ap (λ (xs : List ℕ). (head ++ xs) ++ 10 ∷ []) (sym (more_last members last))

-- ---- its last member

elements_text : (value : Data)
    → codes ",\"elements\":" ++ (compact_text value ++ (125 ∷ 10 ∷ [])) ≡ back_text ((codes "elements", value) ∷ [])
unfolding escape_byte
elements_text value =
    ap (λ (xs : List ℕ). codes ",\"elements\":" ++ xs) (sym (append_assoc (compact_text value) (125 ∷ []) (10 ∷ [])))

pub elements_end : {T E : Type 0} (r : Result T E) (value : Data) (a b c d : Way)
    → GoesOn (codes ",\"elements\":") a b → GoesOn (compact_text value) b c → Tells r (125 ∷ 10 ∷ []) c d
    → Tells r (back_text ((codes "elements", value) ∷ [])) a d
elements_end r value a b c d named went tells =
    subst (λ (text : List ℕ). Tells r text a d) (elements_text value)
    (third_tells r (codes ",\"elements\":") (compact_text value) (125 ∷ 10 ∷ []) a b c d named went tells)

-- the writer failed in its name, or in the data set
pub named_fails : {T E : Type 0} (r : Result T E) (value : Data) (a b : Way) → IsErr r
    → Fails (codes ",\"elements\":") a b → Tells r (back_text ((codes "elements", value) ∷ [])) a b
named_fails r value a b err failed =
    subst (λ (text : List ℕ). Tells r text a b) (elements_text value)
    (first_fails r (codes ",\"elements\":") (compact_text value ++ (125 ∷ 10 ∷ [])) a b err failed)

pub elements_fail : {T E : Type 0} (r : Result T E) (value : Data) (a b c : Way) → IsErr r
    → GoesOn (codes ",\"elements\":") a b → Fails (compact_text value) b c
    → Tells r (back_text ((codes "elements", value) ∷ [])) a c
elements_fail r value a b c err named failed =
    subst (λ (text : List ℕ). Tells r text a c) (elements_text value)
    (middle_fails r (codes ",\"elements\":") (compact_text value) (125 ∷ 10 ∷ []) a b c err named failed)

-- ---- a record

-- the writer failed in the members that each form has
pub front_fails : {T E : Type 0} (r : Result T E) (form : Form) (level : ℕ) (t : Tree) (a b : Way) → IsErr r
    → Fails (front_text (record_members level (tree_view t).node)) a b
    → Tells r (json_line (record_json form level (tree_view t).node)) a b
front_fails r form level t a b err failed =
    let node = (tree_view t).node in
    subst (λ (text : List ℕ). Tells r text a b) (parts_join (record_members level node) (elements_in form node.set))
    (first_fails r (front_text (record_members level node)) (back_text (elements_in form node.set)) a b err failed)

-- they went, and then what the form adds
pub back_tells : {T E : Type 0} (r : Result T E) (form : Form) (level : ℕ) (t : Tree) (set : Elements) (a b c : Way)
    → set ≡ set_view (out-Tree t).set → GoesOn (front_text (record_members level (tree_view t).node)) a b
    → Tells r (back_text (elements_in form set)) b c → Tells r (json_line (record_json form level (tree_view t).node))
    a c
back_tells r form level t set a b c is front tells =
    let node = (tree_view t).node in
    subst (λ (text : List ℕ). Tells r text a c) (parts_join (record_members level node) (elements_in form node.set))
    (tells_then r (front_text (record_members level node)) (back_text (elements_in form node.set)) a b c front
    (subst (λ (x : Elements). Tells r (back_text (elements_in form x)) b c) (is ∙ sym (set_same t)) tells))

-- the File ID is a member where it has bytes
no_file : (file : List ℕ) → (length file == 0) ≡ true → [] ≡ file_members file
no_file [] none = refl
no_file (byte ∷ file) none = absurd (omega (arith, eqb-true (length (byte ∷ file)) 0 none))

some_file : (file : List ℕ) → (length file == 0) ≡ false → (codes "file", printed file) ∷ [] ≡ file_members file
some_file [] some = absurd (cc)
some_file (byte ∷ file) some = refl

members_are : (level : ℕ) (t : Tree) (key : List ℕ) (file : List (List ℕ × Data))
    → key ≡ key_of (label_tag (out-Tree t).kind.now) (tree_view t).node.set
    → file ≡ file_members (file_in (tree_view t).node)
    → members_with level (tree_view t).node file key ≡ named_members level (tree_view t).node
members_are level t key file key_is file_is =
    let node = (tree_view t).node in
    ap₂ (members_with level node) file_is
    (key_is ∙ ap (λ (kind : List ℕ). key_of (label_tag kind) node.set) (sym (kind_same t)))

pub without_file : {T E : Type 0} (r : Result T E) (level : ℕ) (t : Tree) (file key : List ℕ) (a b : Way)
    → file ≡ file_in (tree_view t).node → key ≡ key_of (label_tag (out-Tree t).kind.now) (tree_view t).node.set
    → (length file == 0) ≡ true → Tells r (front_text (members_with level (tree_view t).node [] key)) a b
    → Tells r (front_text (named_members level (tree_view t).node)) a b
without_file r level t file key a b file_is key_is none tells =
    subst (λ (members : List (List ℕ × Data)). Tells r (front_text members) a b)
    (members_are level t key [] key_is (no_file file none ∙ ap file_members file_is)) tells

pub with_file : {T E : Type 0} (r : Result T E) (level : ℕ) (t : Tree) (file key : List ℕ) (a b : Way)
    → file ≡ file_in (tree_view t).node → key ≡ key_of (label_tag (out-Tree t).kind.now) (tree_view t).node.set
    → (length file == 0) ≡ false
    → Tells r (front_text (members_with level (tree_view t).node ((codes "file", printed file) ∷ []) key)) a b
    → Tells r (front_text (named_members level (tree_view t).node)) a b
with_file r level t file key a b file_is key_is some tells =
    subst (λ (members : List (List ℕ × Data)). Tells r (front_text members) a b)
    (members_are level t key ((codes "file", printed file) ∷ []) key_is
    (some_file file some ∙ ap file_members file_is)) tells

-- ---- its UID

-- members after others
more_join : (members more : List (List ℕ × Data))
    → more_text (members_in members) ++ more_text (members_in more) ≡ more_text (members_in (members ++ more))
more_join [] more = refl
more_join (named ∷ members) more =
    append_assoc (member_text named.0 named.1) (more_text (members_in members)) (more_text (members_in more))
    ∙ ap (λ (xs : List ℕ). member_text named.0 named.1 ++ xs) (more_join members more)

pub front_more : (members more : List (List ℕ × Data))
    → front_text members ++ more_text (members_in more) ≡ front_text (members ++ more)
front_more members more =
    append_assoc (codes "{\"line\":\"RECORD\"") (more_text (members_in members)) (more_text (members_in more))
    ∙ ap (λ (xs : List ℕ). codes "{\"line\":\"RECORD\"" ++ xs) (more_join members more)

abbrev uid_text : List ℕ → List ℕ
uid_text uid = more_text (members_in (uid_members uid))

-- it is a member where it has bytes
pub no_uid : (uid : List ℕ) → (length uid == 0) ≡ true → uid_text uid ≡ []
no_uid [] none = refl
no_uid (byte ∷ uid) none = absurd (omega (arith, eqb-true (length (byte ∷ uid)) 0 none))

some_uid : (uid : List ℕ) → (length uid == 0) ≡ false → member_text (codes "uid") (printed uid) ≡ uid_text uid
some_uid [] some = absurd (cc)
some_uid (byte ∷ uid) some = sym (append-nil (member_text (codes "uid") (printed (byte ∷ uid))))

pub uid_told : {T E : Type 0} (r : Result T E) (uid : List ℕ) (value : Data) (a b : Way) → value ≡ printed uid
    → (length uid == 0) ≡ false → Tells r (member_text (codes "uid") value) a b → Tells r (uid_text uid) a b
uid_told r uid value a b is some tells =
    subst (λ (text : List ℕ). Tells r text a b) (ap (member_text (codes "uid")) is ∙ some_uid uid some) tells

-- the writer failed in the members before it
pub named_fail : {T E : Type 0} (r : Result T E) (level : ℕ) (t : Tree) (a b : Way) → IsErr r
    → Fails (front_text (named_members level (tree_view t).node)) a b
    → Tells r (front_text (record_members level (tree_view t).node)) a b
named_fail r level t a b err failed =
    let node = (tree_view t).node in
    let uid = key_of (uid_tag node.kind) node.set in
    subst (λ (text : List ℕ). Tells r text a b) (front_more (named_members level node) (uid_members uid))
    (first_fails r (front_text (named_members level node)) (uid_text uid) a b err failed)

-- they went, and then the UID
pub uid_tells : {T E : Type 0} (r : Result T E) (level : ℕ) (t : Tree) (uid : List ℕ) (a b c : Way)
    → uid ≡ key_of (uid_tag (out-Tree t).kind.now) (tree_view t).node.set
    → GoesOn (front_text (named_members level (tree_view t).node)) a b → Tells r (uid_text uid) b c
    → Tells r (front_text (record_members level (tree_view t).node)) a c
uid_tells r level t uid a b c is named tells =
    let node = (tree_view t).node in
    let same = is ∙ ap (λ (kind : List ℕ). key_of (uid_tag kind) node.set) (sym (kind_same t)) in
    subst (λ (text : List ℕ). Tells r text a c)
    (front_more (named_members level node) (uid_members (key_of (uid_tag node.kind) node.set)))
    (tells_then r (front_text (named_members level node)) (uid_text (key_of (uid_tag node.kind) node.set)) a b c named
    (subst (λ (x : List ℕ). Tells r (uid_text x) b c) same tells))
