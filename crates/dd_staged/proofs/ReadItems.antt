-- Items are the sources that were read of them, and then the rest.
use Rattle.std.proofs.Common.{◌≡◌, ℕ, ◌+◌, ◌<◌, ◌≤◌, List, [], ◌∷◌, ◌++◌, length, map, drop, get_or}
use Rattle.std.proofs.Common.{sym, refl, ap, ◌∙◌}
use Rattle.std.specs.List.{AllByRecursion}
use Rattle.std.proofs.lemmas.List.{length-map}
use Rattle.dd_encoding.specs.declared.syntax.Length.TheVariants.{Defined}
use Rattle.dd_encoding.specs.Elements.{Item, Items, elements_of, item, items_of, no_items}
use Rattle.dd_set.specs.declared.set.Item.{Item as ItemValue}
use Rattle.dd_set.specs.Views.{item_view, items_view}
use Rattle.dd_set.proofs.Counting.{items_view-drop, items_view-end, with_item}
use Rattle.dd_staged.specs.declared.staged.Staged.{Staged}
use Rattle.dd_staged.specs.Refusals.{IsBadItem, SpellsNone}
use Rattle.dd_staged.specs.Sources.{IsSource, Source, source_view}
use Rattle.dd_staged.specs.Stages.{source_elements, source_item, source_items}

-- the items of sources, and then others
abbrev pub with_sources : List Source → Items → Items
with_sources [] others = others
with_sources (source ∷ sources) others =
    item Defined (elements_of (source_elements source)) (with_sources sources others)

pub with_sources-is : (sources : List Source) (others : List Item)
    → with_sources sources (items_of others) ≡ items_of (map source_item sources ++ others)
with_sources-is [] others = refl
with_sources-is (source ∷ sources) others =
    ap (λ (rest : Items). item Defined (elements_of (source_elements source)) rest) (with_sources-is sources others)

each_more : (list : List Staged) (staged : Staged) → AllByRecursion IsSource (map source_view list)
    → IsSource (source_view staged) → AllByRecursion IsSource (map source_view (list ++ staged ∷ []))
each_more [] staged each is = (is, tt)
each_more (first ∷ list) staged each is = (each.0, each_more list staged each.1 is)

with_more : (list : List Staged) (staged : Staged) (others : Items)
    → with_sources (map source_view (list ++ staged ∷ [])) others
    ≡ with_sources (map source_view list) (with_item (source_item (source_view staged)) others)
with_more [] staged others = refl
with_more (first ∷ list) staged others =
    ap (λ (rest : Items). item Defined (elements_of (source_elements (source_view first))) rest)
    (with_more list staged others)

with_none : (list : List Staged) → with_sources (map source_view list) no_items ≡ source_items (map source_view list)
with_none [] = refl
with_none (first ∷ list) =
    ap (λ (rest : Items). item Defined (elements_of (source_elements (source_view first))) rest) (with_none list)

-- the first sources of items were read
pub record HasRead (parts : List ItemValue) (i : ℕ) (list : List Staged) : Type 0 where
  pub each : AllByRecursion IsSource (map source_view list)
  pub so_far : items_view parts ≡ with_sources (map source_view list) (items_view (drop i parts))

pub reads_none : (parts : List ItemValue) → HasRead parts 0 []
reads_none parts = record { each = tt; so_far = refl }

pub reads_more : (parts : List ItemValue) (i : ℕ) (p : ItemValue) (list : List Staged) (staged : Staged)
    → i < length parts → p ≡ get_or parts i p → IsSource (source_view staged)
    → item_view p ≡ source_item (source_view staged) → HasRead parts i list
    → HasRead parts (i + 1) (list ++ staged ∷ [])
reads_more parts i p list staged within at is same read =
    let rest = items_view (drop (i + 1) parts) in
    record {
      each = each_more list staged read.each is;
      so_far = read.so_far ∙ ap (with_sources (map source_view list)) (items_view-drop parts i p within at
          ∙ ap (λ (q : Item). with_item q rest) same) ∙ sym (with_more list staged rest);
    }

pub reads_all : (parts : List ItemValue) (i : ℕ) (list : List Staged) → length parts ≤ i → HasRead parts i list
    → items_view parts ≡ source_items (map source_view list)
reads_all parts i list past read =
    read.so_far ∙ ap (with_sources (map source_view list)) (items_view-end parts i past) ∙ with_none list

pub reads_bad : (parts : List ItemValue) (i : ℕ) (p : ItemValue) (list : List Staged) (n : ℕ)
    → i < length parts → p ≡ get_or parts i p → n ≡ length list + 1
    → SpellsNone (item_view p)
    → HasRead parts i list → IsBadItem n (items_view parts)
reads_bad parts i p list n within at count bad read =
    record {
      sources = map source_view list;
      bad = item_view p;
      others = map item_view (drop (i + 1) parts);
      each = read.each;
      none = bad;
      is = read.so_far ∙ ap (with_sources (map source_view list)) (items_view-drop parts i p within at)
          ∙ with_sources-is (map source_view list) (item_view p ∷ map item_view (drop (i + 1) parts));
      count = count ∙ ap (λ (k : ℕ). k + 1) (sym (length-map list source_view));
    }
