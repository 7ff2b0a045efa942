use Rattle.std.proofs.Common.{◌∷◌, ◌++◌, ◌-◌, ◌≤◌, List, [], ℕ, ◌∙◌, ap, arith, append_assoc, drop, length, map, sym}
use Rattle.std.proofs.Common.{take}
use Rattle.std.specs.Prelude.{None, Some}
use Rattle.std.proofs.lemmas.List.{append-nil, length-drop, length-take-le, map-append, take_all}
use Rattle.dd_engine.specs.MergeSteps.{Withdrawal, known_in}
use Rattle.dd_engine.specs.Mentions.{mention_view}
use Rattle.dd_engine.proofs.NewUids.{all_known, given_more}
use Rattle.dd_engine.proofs.set_notes.listed_then_given.Goals as goal

pub loop-at-init : goal.loop-at-init
loop-at-init c =
    let versions = c.args.gathered.now.versions.items in
    let own = c.args.gathered.now.withdrawn.items in
    let all = c.deref.result.now in
    let n = length c.args.given.now in
    let k = c.loop-uid.uid-index in
    let many = length-drop n all in
    let taken = length-take-le (length all - n) (drop n all) (omega (arith, many)) in
    let past : length (drop n all) ≤ k = omega (arith, c.loop-uid-test.false, taken, many) in
    let front : List Withdrawal = map (λ version. (None, version.instance)) versions in
    c.loop-uid.invariant
    ∙ ap (λ (l : List (List ℕ)). front ++ map (λ uid. (None, uid)) (take k (drop n l))) (sym c.deref.ensures.value)
    ∙ ap (λ (l : List (List ℕ)). front ++ map (λ uid. (None, uid)) l) (take_all k (drop n all) past)
    ∙ ap (λ (l : List (List ℕ)). front ++ map (λ uid. (None, uid)) (drop n l)) c.deref.ensures.value
    ∙ all_known versions (drop n own)
    ∙ sym (append-nil (map (λ uid. (None, uid)) (known_in c.args.gathered.now c.args.given.now)))

pub loop-at-preserved : goal.loop-at-preserved
loop-at-preserved c =
    let uid = c.index-given-at.result in
    ap (λ l. map (λ mention. mention_view mention) l) c.in_ok-push-3.ensures.items
    ∙ map-append (λ mention. mention_view mention) c.loop-at.mentions.items (_ ∷ [])
    ∙ ap (λ (l : List Withdrawal). l ++ (Some c.loop-at.at, uid) ∷ []) c.loop-at.invariant
    ∙ append_assoc (map (λ uid. (None, uid)) (known_in c.args.gathered.now c.args.given.now)) _ _
    ∙ ap (λ (l : List Withdrawal). map (λ uid. (None, uid)) (known_in c.args.gathered.now c.args.given.now) ++ l)
    (given_more c.args.given.now c.loop-at.at uid c.loop-at-test.true c.index-given-at.is)
