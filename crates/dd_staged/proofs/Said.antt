-- A set or an item spells the source that it says, or none.
use Rattle.std.proofs.Common.{◌≡◌, ◌≢◌, subst, sym, ap, ◌∙◌}
use Rattle.dd_encoding.specs.declared.syntax.Length.TheVariants.{Defined, Undefined}
use Rattle.dd_encoding.specs.Elements.{Elements, Item, elements_of}
use Rattle.dd_staged.specs.Sources.{IsSource, Source}
use Rattle.dd_staged.specs.Stages.{source_elements, source_item}
use Rattle.dd_staged.specs.Values.{source_in}
use Rattle.dd_staged.proofs.Back.{source_back}

said : (set : Elements) (source : Source) → IsSource source → set ≡ elements_of (source_elements source)
    → source_in set ≡ source
said set source is same = ap source_in same ∙ source_back source is

-- what it says is no source
pub not_said : (set : Elements) → ¬ IsSource (source_in set) → (source : Source) → IsSource source
    → set ≢ elements_of (source_elements source)
not_said set none source is same = none (subst IsSource (sym (said set source is same)) is)

-- its elements are not those of the source that it says
pub other_said : (set : Elements) (found : Source) → found ≡ source_in set
    → set ≢ elements_of (source_elements found) → (source : Source) → IsSource source
    → set ≢ elements_of (source_elements source)
other_said set found is_said differ source is same =
    differ (same ∙ ap (λ (s : Source). elements_of (source_elements s)) (sym (is_said ∙ said set source is same)))

pub set_of_item : (p : Item) (source : Source) → p ≡ source_item source
    → p.set ≡ elements_of (source_elements source)
set_of_item p source same = ap (λ (q : Item). q.set) same

pub other_length : (p : Item) (source : Source) → p.length ≡ Undefined → p ≢ source_item source
other_length p source form same = let e : Undefined ≡ Defined = sym form ∙ ap (λ (q : Item). q.length) same in cc
