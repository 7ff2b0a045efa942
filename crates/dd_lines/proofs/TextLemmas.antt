-- What several writes of a text took together.
use Rattle.std.proofs.Common.{◌≡◌, ◌∙◌, ℕ, List, [], ◌∷◌, ◌++◌, ◌+◌, ◌<◌, ◌≤◌, Option, Result, Ok, Err, length}
use Rattle.std.proofs.Common.{take, drop, get_or}
use Rattle.std.proofs.Common.{refl, sym, ap, subst, arith, append_assoc, append-nil, length-append}
use Rattle.std.specs.Borrow.{Bor}
use Rattle.std.specs.Prelude.{OnErr, OnOk}
use Rattle.std.specs.Str.{IsUtf8}
use Rattle.std.proofs.KnownBytes.{Appends-trans}
use Rattle.std.proofs.Math.Seq.{take-append-add}
use Rattle.std.proofs.lemmas.List.{take-append-le, drop_all, drop_more}
use Rattle.std.specs.Io.KnownBytes.{Appends}
use Rattle.dd_elem.specs.Device.{HasFailed}
use Rattle.dd_elem.proofs.Known.{appends_none}
use Rattle.dd_lines.specs.Text.{FailsAmid, Sent, TakesAll, joined, line_text, masked}
use Rattle.dd_lines.proofs.Masking.{masked-append, masked-nil}

-- ---- a text of which the front is sent

-- nothing is sent at first
pub sent_none : (text : List ℕ) (a : Option (List ℕ)) (f : ℕ) → Sent text text a a f f
sent_none text a f = record { gone = []; parts = refl; took = (refl, appends_none a) }

-- one part more
pub sent_more : (text part rest : List ℕ) (a b c : Option (List ℕ)) (f g h : ℕ)
    → Sent text (part ++ rest) a b f g → TakesAll b c g h part → Sent text rest a c f h
sent_more text part rest a b c f g h so_far took = record {
  gone = so_far.gone ++ part;
  parts = so_far.parts ∙ sym (append_assoc so_far.gone part rest);
  took = (took.0 ∙ so_far.took.0, Appends-trans a b c so_far.gone part so_far.took.1 took.1);
}

-- the last part
pub sent_last : (text part : List ℕ) (a b c : Option (List ℕ)) (f g h : ℕ)
    → Sent text part a b f g → TakesAll b c g h part → TakesAll a c f h text
sent_last text part a b c f g h so_far took = (
  took.0 ∙ so_far.took.0,
  subst (Appends a c) (sym so_far.parts) (Appends-trans a b c so_far.gone part so_far.took.1 took.1),
)

-- the front of a part, after what went before it
front_after : (gone part rest : List ℕ) (n : ℕ) → n < length part
    → take (length gone + n) (gone ++ (part ++ rest)) ≡ gone ++ take n part
front_after gone part rest n within =
    take-append-add gone (part ++ rest) n
    ∙ ap (λ (xs : List ℕ). gone ++ xs) (take-append-le n part rest (omega (arith, within)))

-- the writer failed in a part
pub fails_more : (text part rest : List ℕ) (a b c : Option (List ℕ)) (f g h : ℕ)
    → Sent text (part ++ rest) a b f g → FailsAmid b c g h part → FailsAmid a c f h text
fails_more text part rest a b c f g h so_far failed =
    let n = failed.taken in
    record {
      taken = length so_far.gone + n;
      within = subst (λ (xs : List ℕ). length so_far.gone + n < length xs) (sym so_far.parts)
          (omega (arith, failed.within, length-append so_far.gone (part ++ rest), length-append part rest));
      front = subst (λ (xs : List ℕ). Appends a c (take (length so_far.gone + n) xs)) (sym so_far.parts)
          (subst (Appends a c) (sym (front_after so_far.gone part rest n failed.within))
          (Appends-trans a b c so_far.gone (take n part) so_far.took.1 failed.front));
      failed = subst (λ (n : ℕ). HasFailed n h) so_far.took.0 failed.failed;
    }

-- it failed in the front of what was to be sent
pub fails_before : (front rest : List ℕ) (a b : Option (List ℕ)) (f g : ℕ)
    → FailsAmid a b f g front → FailsAmid a b f g (front ++ rest)
fails_before front rest a b f g failed =
    fails_more (front ++ rest) front rest a a b f f g (sent_none (front ++ rest) a f) failed

-- ---- what waits of a text, in front of what is still to come

-- what waited went, and the next part waits
pub sent_front : (front rest : List ℕ) (a b : Option (List ℕ)) (f g : ℕ)
    → TakesAll a b f g front → Sent (front ++ rest) rest a b f g
sent_front front rest a b f g took = record { gone = front; parts = refl; took = took }

-- of what was still to be sent, more is taken up
pub sent_on : (text mid left : List ℕ) (a b c : Option (List ℕ)) (f g h : ℕ)
    → Sent text mid a b f g → Sent mid left b c g h → Sent text left a c f h
sent_on text mid left a b c f g h so_far next =
    sent_more text next.gone left a b c f g h
    (subst (λ (xs : List ℕ). Sent text xs a b f g) next.parts so_far) next.took

-- both went
pub sent_both : (one two left : List ℕ) (a b c : Option (List ℕ)) (f g h : ℕ)
    → left ≡ [] → TakesAll a b f g one → TakesAll b c g h two → Sent (one ++ two) left a c f h
sent_both one two left a b c f g h none first second = record {
  gone = one ++ two;
  parts = rw none (sym (append-nil (one ++ two)));
  took = sent_last (one ++ two) two a b c f g h (sent_front one two a b f g first) second;
}

-- what waited went, and the writer failed in the next part
pub fails_after : (one two : List ℕ) (a b c : Option (List ℕ)) (f g h : ℕ)
    → TakesAll a b f g one → FailsAmid b c g h two → FailsAmid a c f h (one ++ two)
fails_after one two a b c f g h first failed =
    fails_more (one ++ two) two [] a b c f g h
    (subst (λ (xs : List ℕ). Sent (one ++ two) xs a b f g) (sym (append-nil two)) (sent_front one two a b f g first))
    failed

-- a part more is taken up, of which some may wait
pub sent_then : (text held part rest left : List ℕ) (a b c : Option (List ℕ)) (f g h : ℕ)
    → Sent text (held ++ (part ++ rest)) a b f g → Sent (held ++ part) left b c g h → Sent text (left ++ rest) a c f h
sent_then text held part rest left a b c f g h so_far next =
    let shape : (held ++ part) ++ rest ≡ next.gone ++ (left ++ rest) =
    ap (λ (xs : List ℕ). xs ++ rest) next.parts ∙ append_assoc next.gone left rest in
    sent_more text next.gone (left ++ rest) a b c f g h
    (subst (λ (xs : List ℕ). Sent text xs a b f g) (sym (append_assoc held part rest) ∙ shape) so_far) next.took

-- the writer failed in this
pub fails_then : (text held part rest : List ℕ) (a b c : Option (List ℕ)) (f g h : ℕ)
    → Sent text (held ++ (part ++ rest)) a b f g → FailsAmid b c g h (held ++ part) → FailsAmid a c f h text
fails_then text held part rest a b c f g h so_far failed =
    fails_more text (held ++ part) rest a b c f g h
    (subst (λ (xs : List ℕ). Sent text xs a b f g) (sym (append_assoc held part rest)) so_far) failed

-- ---- the parts of a line

-- what a line still has from a part on
line_from : (parts : List (Bor (List ℕ))) (i : ℕ) (d : Bor (List ℕ)) → i < length parts → IsUtf8 (get_or parts i d).now
    → line_text (drop i parts) ≡ masked (get_or parts i d).now ++ line_text (drop (i + 1) parts)
line_from parts i d within utf8 =
    ap line_text (drop_more parts i d within)
    ∙ ap (λ (xs : List ℕ). xs ++ 10 ∷ []) (masked-append (get_or parts i d).now (joined (drop (i + 1) parts)) utf8)
    ∙ append_assoc (masked (get_or parts i d).now) (masked (joined (drop (i + 1) parts))) (10 ∷ [])

-- after the last part its end
line_end : (parts : List (Bor (List ℕ))) (i : ℕ) → length parts ≤ i → line_text (drop i parts) ≡ 10 ∷ []
line_end parts i past = ap line_text (drop_all i parts past) ∙ ap (λ (xs : List ℕ). xs ++ 10 ∷ []) masked-nil

-- the line is taken up to a part, and `held` of it waits
abbrev pub SentTo : List (Bor (List ℕ)) → ℕ → List ℕ → Option (List ℕ) → Option (List ℕ) → ℕ → ℕ → Type 0
SentTo parts i held old new failures_old failures_new =
    Sent (line_text parts) (held ++ line_text (drop i parts)) old new failures_old failures_new

part_next : (parts : List (Bor (List ℕ))) (i : ℕ) (d : Bor (List ℕ)) (held : List ℕ) (a b : Option (List ℕ))
    (f g : ℕ) → i < length parts → IsUtf8 (get_or parts i d).now → SentTo parts i held a b f g
    → Sent (line_text parts) (held ++ (masked (get_or parts i d).now ++ line_text (drop (i + 1) parts))) a b f g
part_next parts i d held a b f g within utf8 so_far =
    subst (λ (xs : List ℕ). Sent (line_text parts) (held ++ xs) a b f g) (line_from parts i d within utf8) so_far

-- one part more
pub part_goes : (parts : List (Bor (List ℕ))) (i : ℕ) (d : Bor (List ℕ)) (held left : List ℕ)
    (a b c : Option (List ℕ)) (f g h : ℕ) → i < length parts → SentTo parts i held a b f g
    → Sent (held ++ masked (get_or parts i d).now) left b c g h → IsUtf8 (get_or parts i d).now
    → SentTo parts (i + 1) left a c f h
part_goes parts i d held left a b c f g h within so_far next utf8 =
    sent_then (line_text parts) held (masked (get_or parts i d).now) (line_text (drop (i + 1) parts)) left a b c f g h
    (part_next parts i d held a b f g within utf8 so_far) next

-- the writer failed in a part
pub part_fails : (parts : List (Bor (List ℕ))) (i : ℕ) (d : Bor (List ℕ)) (held : List ℕ)
    (a b c : Option (List ℕ)) (f g h : ℕ) → i < length parts → SentTo parts i held a b f g
    → FailsAmid b c g h (held ++ masked (get_or parts i d).now) → IsUtf8 (get_or parts i d).now
    → FailsAmid a c f h (line_text parts)
part_fails parts i d held a b c f g h within so_far failed utf8 =
    fails_then (line_text parts) held (masked (get_or parts i d).now) (line_text (drop (i + 1) parts)) a b c f g h
    (part_next parts i d held a b f g within utf8 so_far) failed

-- after the last part the end of the line waits
pub end_next : (parts : List (Bor (List ℕ))) (i : ℕ) (held : List ℕ) (a b : Option (List ℕ)) (f g : ℕ)
    → length parts ≤ i → SentTo parts i held a b f g → Sent (line_text parts) (held ++ 10 ∷ []) a b f g
end_next parts i held a b f g past so_far =
    subst (λ (xs : List ℕ). Sent (line_text parts) (held ++ xs) a b f g) (line_end parts i past) so_far

-- it is taken up
pub end_goes : (parts : List (Bor (List ℕ))) (i : ℕ) (held left : List ℕ) (a b c : Option (List ℕ)) (f g h : ℕ)
    → length parts ≤ i → SentTo parts i held a b f g → Sent (held ++ 10 ∷ []) left b c g h
    → Sent (line_text parts) left a c f h
end_goes parts i held left a b c f g h past so_far next =
    subst (λ (xs : List ℕ). Sent (line_text parts) xs a c f h) (append-nil left)
    (sent_then (line_text parts) held (10 ∷ []) [] left a b c f g h (end_next parts i held a b f g past so_far) next)

-- or the writer failed
pub end_fails : (parts : List (Bor (List ℕ))) (i : ℕ) (held : List ℕ) (a b c : Option (List ℕ)) (f g h : ℕ)
    → length parts ≤ i → SentTo parts i held a b f g → FailsAmid b c g h (held ++ 10 ∷ [])
    → FailsAmid a c f h (line_text parts)
end_fails parts i held a b c f g h past so_far failed =
    fails_then (line_text parts) held (10 ∷ []) [] a b c f g h (end_next parts i held a b f g past so_far) failed

-- what waits of the line fails to go
pub rest_fails : (text left : List ℕ) (a b c : Option (List ℕ)) (f g h : ℕ)
    → Sent text left a b f g → FailsAmid b c g h left → FailsAmid a c f h text
rest_fails text left a b c f g h so_far failed =
    fails_more text left [] a b c f g h
    (subst (λ (xs : List ℕ). Sent text xs a b f g) (sym (append-nil left)) so_far) failed

-- ---- what a `Result` says

pub on_err : {T E X : Type 0} (r : Result T E) → X → OnErr r X
on_err (Ok x) is = tt
on_err (Err e) is = is

pub on_err_weaker : {T E X Y : Type 0} (r : Result T E) → (X → Y) → OnErr r X → OnErr r Y
on_err_weaker (Ok x) weaker is = tt
on_err_weaker (Err e) weaker is = weaker is

pub on_ok_weaker : {T E X Y : Type 0} (r : Result T E) → (X → Y) → OnOk r X → OnOk r Y
on_ok_weaker (Ok x) weaker is = weaker is
on_ok_weaker (Err e) weaker is = tt
