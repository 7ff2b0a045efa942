use Rattle.std.proofs.Common.{rules, ◌≡◌, ℕ, ◌+◌, ◌<◌, ◌≤◌, List, [], Option, Some, Err, map, length, get_or, ap}
use Rattle.std.proofs.Common.{sym, subst, ◌∙◌, arith, Vec, option_map}
use Rattle.std.specs.declared.alloc.Global.{Global}
use Rattle.std.specs.Vec.{with_items}
use Rattle.std.proofs.lemmas.List.{with_items_is, length-map}
use Rattle.dd_set.specs.Starts.{places_in}
use Rattle.dd_encoding.specs.Spelling.{elements_text}
use Rattle.dd_set.specs.Views.{set_view, items_view}
use Rattle.dd_records.specs.ElementForms.{tag}
use Rattle.dd_walk.specs.declared.fault.DirFault.TheVariants.{Memory}
use Rattle.dd_walk.specs.Reading.{Contents}
use Rattle.dd_walk.specs.Saying.{sets_of, beside_in}
use Rattle.dd_walk.specs.Trees.{Beside}
use Rattle.dd_walk.proofs.Contents.{without_starts, with_all_there, wanted_there}
use Rattle.dd_walk.proofs.Moved.{places_within}
use Rattle.dd_walk.proofs.directory.directory_of.Goals as goal

pub returns-in_err-starts : goal.returns-in_err-starts
returns-in_err-starts c = λ front long.
    let is : c.from_residual.result ≡ Err Memory = search rules in
    rw is (wanted_there c.args.uid front (set_view c.args.set) c.in-Some.first c.in-Some-number_at.last
    (sym c.in-Some.ensures) (sym c.in-Some-number_at.ensures) c.in_err-starts.ensures.memory)

pub returns-in_default-2 : goal.returns-in_default-2
returns-in_default-2 c = λ front long.
    without_starts c.args.uid front (set_view c.args.set) (sym (c.in_ok-starts.ensures.spelled c.requires.spelled)
    ∙ ap (λ (o : Option (Vec ℕ Global)). option_map (λ (v : Vec ℕ Global). v.items) o) c.in_default-2.is)

pub shift-requires : goal.shift-requires
shift-requires c = λ i within.
    let ns = c.in-Some-2.starts.items in
    let are : places_in (tag 0x0004 0x1220) [] (set_view c.args.set) ≡ Some ns =
    sym (c.in_ok-starts.ensures.spelled c.requires.spelled)
    ∙ ap (λ (o : Option (Vec ℕ Global)). option_map (λ (v : Vec ℕ Global). v.items) o) c.in-Some-2.is in
    let same : c.deref_mut.result.now ≡ ns = c.deref_mut.ensures.value in
    let there : i < length ns = subst (λ (ms : List ℕ). i < length ms) same within in
    let below : get_or ns i 0 ≤ length (elements_text (set_view c.args.set)) =
    places_within (tag 0x0004 0x1220) (set_view c.args.set) ns are i there in
    let value : get_or c.deref_mut.result.now i 0 ≡ get_or ns i 0 = ap (λ (ms : List ℕ). get_or ms i 0) same in
    omega (arith, below, value, c.requires.fits)

pub returns : goal.returns
returns c = λ front long.
    let ns = c.in-Some-2.starts.items in
    let are : places_in (tag 0x0004 0x1220) [] (set_view c.args.set) ≡ Some ns =
    sym (c.in_ok-starts.ensures.spelled c.requires.spelled)
    ∙ ap (λ (o : Option (Vec ℕ Global)). option_map (λ (v : Vec ℕ Global). v.items) o) c.in-Some-2.is in
    let same : c.deref_mut.result.now ≡ ns = c.deref_mut.ensures.value in
    let moved : c.shift.new.starts ≡ map (λ (n : ℕ). n + c.args.at) ns =
    c.shift.ensures ∙ ap (λ (ms : List ℕ). map (λ (n : ℕ). n + c.args.at) ms) same in
    let many : length c.shift.new.starts ≡ c.in-Some-2.starts.len =
    omega (arith, ap length moved, length-map ns (λ (n : ℕ). n + c.args.at), c.in-Some-2.starts.ok) in
    let written : (with_items c.in-Some-2.starts c.shift.new.starts).items ≡ c.shift.new.starts =
    with_items_is c.in-Some-2.starts c.shift.new.starts many in
    let set = set_view c.args.set in
    let sets = sets_of (items_view c.in-Some-items_of.items.items) in
    let made : List ℕ → Beside → Contents = λ starts beside. record {
      first = c.in-Some.first;
      last = c.in-Some-number_at.last;
      starts = starts;
      sets = sets;
      beside = beside;
    } in
    with_all_there c.args.uid front c.args.at set c.in-Some.first c.in-Some-number_at.last ns sets long
    (sym c.in-Some.ensures) (sym c.in-Some-number_at.ensures) are (sym c.in-Some-items_of.ensures)
    ∙ ap (λ (starts : List ℕ). Some (made starts (beside_in c.args.uid set))) (sym moved ∙ sym written)
    ∙ ap (λ (beside : Beside). Some (made (with_items c.in-Some-2.starts c.shift.new.starts).items beside))
    (λ i. record {
      uid = c.args.uid;
      id = sym c.id_of-id.ensures i;
      withdrawn = sym c.withdrawn_of-withdrawn.ensures i;
    })
