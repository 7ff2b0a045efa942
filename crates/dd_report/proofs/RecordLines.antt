-- The words of a record, the values that a person knows it by, and the end of its line.
use Rattle.std.proofs.Common.{◌≡◌, ◌∙◌, ℕ, List, [], ◌∷◌, ◌++◌, Result, refl, sym, ap, ap₂, subst, rules}
use Rattle.std.proofs.lemmas.List.Folds.{concat-append}
use Rattle.std.proofs.lemmas.List.{map-append}
use Rattle.std.specs.Prelude.{IsErr, codes}
use Rattle.std.specs.Fmt.{decimal}
use Rattle.std.specs.List.{concat, flat_map}
use Rattle.dd_elem.specs.declared.tag.Tag.{Tag}
use Rattle.dd_keys.specs.Values.{value_at}
use Rattle.dd_encoding.specs.Elements.{Elements}
use Rattle.dd_set.specs.Views.{set_view}
use Rattle.dd_walk.specs.declared.forest.Tree.{Tree, out-Tree, the_lemmas}
use Rattle.dd_walk.specs.ForestViews.{tree_view}
use Rattle.dd_walk.specs.Trees.{Node}
use Rattle.dd_report.specs.declared.known.Form.{Form}
use Rattle.dd_report.specs.Listing.{flag_of, label_of, or_dash, record_parts, spaced, tags_in, value_parts}
use Rattle.dd_lines.specs.Telling.{Fails, GoesOn, Tells, Way, shown, shown_byte, shown_line}
use Rattle.dd_lines.proofs.GoingOn.{fails_next, fails_front, goes_then, line_ends, line_fails}

-- ---- two rows of parts

shown_append : (one two : List (List ℕ)) → shown (concat (one ++ two)) ≡ shown (concat one) ++ shown (concat two)
shown_append one two = ap shown (concat-append one two) ∙ map-append shown_byte (concat one) (concat two)

first_fails : {T E : Type 0} (r : Result T E) (one two : List (List ℕ)) (a b : Way) → IsErr r
    → Fails (shown (concat one)) a b → Tells r (shown_line (one ++ two)) a b
first_fails r one two a b err failed =
    line_fails r (one ++ two) a b err
    (subst (λ (text : List ℕ). Fails text a b) (sym (shown_append one two))
    (fails_front (shown (concat one)) (shown (concat two)) a b failed))

second_fails : {T E : Type 0} (r : Result T E) (one two : List (List ℕ)) (a b c : Way) → IsErr r
    → GoesOn (shown (concat one)) a b → Fails (shown (concat two)) b c → Tells r (shown_line (one ++ two)) a c
second_fails r one two a b c err first failed =
    line_fails r (one ++ two) a c err
    (subst (λ (text : List ℕ). Fails text a c) (sym (shown_append one two))
    (fails_next (shown (concat one)) (shown (concat two)) a b c first failed))

both_end : {T E : Type 0} (r : Result T E) (one two : List (List ℕ)) (a b c d : Way)
    → GoesOn (shown (concat one)) a b → GoesOn (shown (concat two)) b c → Tells r (10 ∷ []) c d
    → Tells r (shown_line (one ++ two)) a d
both_end r one two a b c d first second end =
    line_ends r (one ++ two) a c d
    (subst (λ (text : List ℕ). GoesOn text a c) (sym (shown_append one two))
    (goes_then (shown (concat one)) (shown (concat two)) a b c first second)) end

-- ---- a record

pub at_same : (t : Tree) → (tree_view t).node.at ≡ (out-Tree t).at
at_same t = search (rules, the_lemmas)

pub kind_same : (t : Tree) → (tree_view t).node.kind ≡ (out-Tree t).kind.now
kind_same t = search (rules, the_lemmas)

pub in_use_same : (t : Tree) → (tree_view t).node.in_use ≡ (out-Tree t).in_use
in_use_same t = search (rules, the_lemmas)

pub set_same : (t : Tree) → (tree_view t).node.set ≡ set_view (out-Tree t).set
set_same t = search (rules, the_lemmas)

abbrev pub words_of : Node → List (List ℕ)
words_of node = spaced (decimal node.at) node.kind (label_of node) (flag_of node)

abbrev pub values_of : Form → Node → List (List ℕ)
values_of form node = flat_map (value_parts node.set) (tags_in form node.kind)

pub words_are : (t : Tree) (at kind label flag : List ℕ) → at ≡ decimal (out-Tree t).at → kind ≡ (out-Tree t).kind.now
    → label ≡ label_of (tree_view t).node → flag ≡ flag_of (tree_view t).node
    → spaced at kind label flag ≡ words_of (tree_view t).node
words_are t at kind label flag at_is kind_is label_is flag_is =
    let node = (tree_view t).node in
    ap (λ (xs : List ℕ). spaced xs kind label flag) (at_is ∙ ap decimal (sym (at_same t)))
    ∙ ap (λ (xs : List ℕ). spaced (decimal node.at) xs label flag) (kind_is ∙ sym (kind_same t))
    ∙ ap (λ (xs : List ℕ). spaced (decimal node.at) node.kind xs flag) label_is
    ∙ ap (λ (xs : List ℕ). spaced (decimal node.at) node.kind (label_of node) xs) flag_is

pub values_are : (form : Form) (t : Tree) (set : Elements) (tags : List Tag) → set ≡ set_view (out-Tree t).set
    → tags ≡ tags_in form (out-Tree t).kind.now
    → flat_map (value_parts set) tags ≡ values_of form (tree_view t).node
values_are form t set tags set_is tags_are =
    ap₂ (λ (x : Elements) (ts : List Tag). flat_map (value_parts x) ts) (set_is ∙ sym (set_same t))
    (tags_are ∙ ap (tags_in form) (sym (kind_same t)))

-- its line went, or the writer failed in it
pub words_fail : {T E : Type 0} (r : Result T E) (form : Form) (t : Tree) (words : List (List ℕ)) (a b : Way) → IsErr r
    → words ≡ words_of (tree_view t).node → Fails (shown (concat words)) a b
    → Tells r (shown_line (record_parts form (tree_view t).node)) a b
words_fail r form t words a b err is failed =
    let values = values_of form (tree_view t).node in
    subst (λ (front : List (List ℕ)). Tells r (shown_line (front ++ values)) a b) is
    (first_fails r words values a b err failed)

pub values_fail : {T E : Type 0} (r : Result T E) (form : Form) (t : Tree) (words values : List (List ℕ)) (a b c : Way)
    → IsErr r → words ≡ words_of (tree_view t).node → values ≡ values_of form (tree_view t).node
    → GoesOn (shown (concat words)) a b → Fails (shown (concat values)) b c
    → Tells r (shown_line (record_parts form (tree_view t).node)) a c
values_fail r form t words values a b c err words_is values_is first failed =
    subst (λ (all : List (List ℕ)). Tells r (shown_line all) a c)
    (ap₂ (λ (front after : List (List ℕ)). front ++ after) words_is values_is)
    (second_fails r words values a b c err first failed)

pub record_ends : {T E : Type 0} (r : Result T E) (form : Form) (t : Tree) (words values : List (List ℕ))
    (a b c d : Way) → words ≡ words_of (tree_view t).node → values ≡ values_of form (tree_view t).node
    → GoesOn (shown (concat words)) a b → GoesOn (shown (concat values)) b c → Tells r (10 ∷ []) c d
    → Tells r (shown_line (record_parts form (tree_view t).node)) a d
record_ends r form t words values a b c d words_is values_is first second end =
    subst (λ (all : List (List ℕ)). Tells r (shown_line all) a d)
    (ap₂ (λ (front after : List (List ℕ)). front ++ after) words_is values_is)
    (both_end r words values a b c d first second end)

-- ---- its values

abbrev pub value_text : Elements → Tag → List ℕ
value_text set wanted = shown (concat (value_parts set wanted))

pub values_each : (set : Elements) (tags : List Tag)
    → shown (concat (flat_map (value_parts set) tags)) ≡ flat_map (value_text set) tags
values_each set [] = refl
values_each set (wanted ∷ tags) =
    shown_append (value_parts set wanted) (flat_map (value_parts set) tags)
    ∙ ap (λ (xs : List ℕ). value_text set wanted ++ xs) (values_each set tags)

pub value_is : (set : Elements) (wanted : Tag) (value : List ℕ) → value ≡ or_dash (value_at wanted set)
    → shown (concat (codes " | " ∷ value ∷ [])) ≡ value_text set wanted
value_is set wanted value is = ap (λ (xs : List ℕ). shown (concat (codes " | " ∷ xs ∷ []))) is
