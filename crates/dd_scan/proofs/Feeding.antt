-- Taking bytes of a feed, where those that were taken are known, and what may follow is not.
use Rattle.std.proofs.Common.{◌≡◌, ◌≢◌, ◌<◌, ◌≤◌, ℕ, true, false, List, ◌++◌, length, take, Option, Some, None, Result}
use Rattle.std.proofs.Common.{Ok, Err, refl, sym, ◌∙◌, arith, append-nil}
use Rattle.std.specs.Int.{w32, from_le_bytes}
use Rattle.std.proofs.lemmas.Bool.{le-ltb, lt-ltb}
use Rattle.std.proofs.lemmas.List.{length-append, length-take-le, nil_from_length, take_at as take_front}
use Rattle.std.proofs.lemmas.List.{drop_at as drop_front}
use Rattle.dd_grammar.specs.declared.fault.SetFault.{SetFault}
use Rattle.dd_grammar.specs.declared.fault.SetFault.TheVariants.{Truncated, Overrun}
use Rattle.dd_encoding.specs.declared.syntax.Length.{Length}
use Rattle.dd_encoding.specs.declared.syntax.Length.TheVariants.{Defined}
use Rattle.dd_encoding.specs.declared.syntax.Syntax.{Syntax}
use Rattle.dd_stream.specs.Feeds.{IsOver}
use Rattle.dd_grammar.specs.Reading.{eight_at, head_at, long_length_at, opening_at, front_at, item_opening}
use Rattle.dd_grammar.specs.Reading.{item_front_at, At, ◌>>=◌, leaves_fewer, left_after, take_at, is_over}
use Rattle.dd_grammar.proofs.Failing.{bind_fails, fails_is}
use Rattle.dd_grammar.proofs.Loops.{differ}
use Rattle.dd_grammar.proofs.Steps.{bind_made}
use Rattle.dd_scan.specs.Skips.{Finds}

-- ---- a number of bytes

-- the enclosing length leaves too few
pub take_overruns : (n : ℕ) (left : Option ℕ) (bytes : List ℕ) → leaves_fewer left n ≡ true
    → take_at n (record { left = left; bytes = bytes }) ≡ Err Overrun
unfolding take_at
take_overruns n left bytes fewer = rw fewer refl

-- there are too few
pub take_ends : (n : ℕ) (left : Option ℕ) (bytes : List ℕ) → leaves_fewer left n ≡ false → length bytes < n
    → take_at n (record { left = left; bytes = bytes }) ≡ Err Truncated
unfolding take_at
take_ends n left bytes enough few = rw (enough, lt-ltb (length bytes) n few) refl

-- there are enough, and these
pub take_whole : (n : ℕ) (left : Option ℕ) (taken rest : List ℕ) → leaves_fewer left n ≡ false → length taken ≡ n
    → take_at n (record { left = left; bytes = taken ++ rest }) ≡ Ok
    (taken, record { left = left_after left n; bytes = rest })
unfolding take_at
take_whole n left taken rest enough whole =
    rw (
      enough,
      le-ltb (length (taken ++ rest)) n (omega (arith, length-append taken rest)),
      take_front taken rest n
          (omega arith),
      drop_front taken rest n (omega arith),
    ) refl

-- where the feed is over after some bytes, no more were to come
pub over_length : {F : Type 0} (tells : F → List ℕ → Type 0) (feed : F) (taken rest : List ℕ) → IsOver tells feed
    → tells feed rest → length (taken ++ rest) ≡ length taken
over_length tells feed taken rest over t = rw (over.none rest t, append-nil) refl

-- a front of a room
pub front_length : (n : ℕ) (room : List ℕ) → n ≤ length room → length (take n room) ≡ n
front_length n room within = length-take-le n room within

-- ---- eight bytes, or the end

-- the set or the sequence is over
pub head_over : (form : Length) (at : At) → is_over form at ≡ true → head_at form at ≡ Ok (None, at)
unfolding head_at
head_over form at over = rw over refl

-- it is not
pub head_more : (form : Length) (at : At) → is_over form at ≡ false → head_at form at ≡ eight_at at
unfolding head_at
head_more form at over = rw over refl

-- eight bytes are there
pub eight_found : (n : ℕ) (at end : At) (head : List ℕ) → n ≡ 8 → take_at n at ≡ Ok (head, end)
    → eight_at at ≡ Ok (Some head, end)
eight_found n at end head eight h = rw (rw eight at h) refl

-- they are not
pub eight_fails : (n : ℕ) (at : At) (e : SetFault) → n ≡ 8 → take_at n at ≡ Err e → eight_at at ≡ Err e
eight_fails n at e eight h = rw (rw eight at h) refl

-- at the top: no byte, eight, or fewer
pub top_none : (left : Option ℕ) (bytes rest : List ℕ) → left ≡ None → length bytes ≡ 0 → length rest ≡ 0
    → head_at Defined (record { left = left; bytes = bytes }) ≡ Ok (None, record { left = left; bytes = rest })
top_none (Some n) bytes rest top none end = absurd cc
top_none None bytes rest top none end =
    let over : is_over Defined (record { left = None; bytes = bytes }) ≡ true = rw none refl in
    let same : bytes ≡ rest = nil_from_length bytes none ∙ sym (nil_from_length rest end) in
    head_over Defined (record { left = None; bytes = bytes }) over ∙ rw same refl

pub top_found : (left : Option ℕ) (head rest : List ℕ) → left ≡ None → length head ≡ 8
    → head_at Defined (record { left = left; bytes = head ++ rest })
    ≡ Ok (Some head, record { left = left; bytes = rest })
top_found (Some n) head rest top eight = absurd cc
top_found None head rest top eight =
    let at : At = record { left = None; bytes = head ++ rest } in
    let more : is_over Defined at ≡ false = differ (length (head ++ rest)) 0
    (λ none. absurd (omega (arith, length-append head rest))) in
    head_more Defined at more ∙ eight_found 8 at _ head refl (take_whole 8 None head rest refl eight)

pub top_fails : (left : Option ℕ) (bytes : List ℕ) → left ≡ None → length bytes ≢ 0 → length bytes < 8
    → head_at Defined (record { left = left; bytes = bytes }) ≡ Err Truncated
top_fails (Some n) bytes top some few = absurd cc
top_fails None bytes top some few =
    let at : At = record { left = None; bytes = bytes } in
    head_more Defined at (differ (length bytes) 0 some) ∙ eight_fails 8 at Truncated refl
    (take_ends 8 None bytes refl few)

-- ---- headers

pub long_found : (n : ℕ) (at end : At) (length : List ℕ) → n ≡ 4 → take_at n at ≡ Ok (length, end)
    → long_length_at at ≡ Ok (from_le_bytes w32 length, end)
unfolding long_length_at
long_found n at end length four h = rw (rw four at h) refl

pub long_fails : (n : ℕ) (at : At) (e : SetFault) → n ≡ 4 → take_at n at ≡ Err e → long_length_at at ≡ Err e
unfolding long_length_at
long_fails n at e four h = rw (rw four at h) refl

module _ (syntax : Syntax) (form : Length) (low : ℕ) (at : At) where
  pub front_fails : (e : SetFault) → head_at form at ≡ Err e → front_at syntax form low at ≡ Err e
  unfolding front_at
  front_fails e h = rw h refl

  pub front_none : (end : At) → head_at form at ≡ Ok (None, end) → front_at syntax form low at ≡ Ok (None, end)
  unfolding front_at
  front_none end h = rw h refl

  pub front_opens : (head : List ℕ) (end : At) → head_at form at ≡ Ok (Some head, end)
      → front_at syntax form low at ≡ opening_at syntax form low head end
  unfolding front_at
  front_opens head end h = rw h refl

module _ (form : Length) (at : At) where
  pub item_front_fails : (e : SetFault) → head_at form at ≡ Err e → item_front_at form at ≡ Err e
  unfolding item_front_at
  item_front_fails e h = rw h refl

  pub item_front_none : (end : At) → head_at form at ≡ Ok (None, end) → item_front_at form at ≡ Ok (None, end)
  unfolding item_front_at
  item_front_none end h = rw h refl

  pub item_front_opens : (head : List ℕ) (end : At) → head_at form at ≡ Ok (Some head, end)
      → item_front_at form at ≡ (item_opening form head >>= λ length. Ok (length, end))
  unfolding item_front_at
  item_front_opens head end h = rw h refl

  -- what the opening of an item says is what reading finds
  pub item_front_found : (head : List ℕ) (end : At) (r : Result (Option ℕ) SetFault)
      → head_at form at ≡ Ok (Some head, end) → r ≡ item_opening form head
      → Finds (λ n. n) r (item_front_at form at) end
  item_front_found head end (Ok length) h is = item_front_opens head end h ∙ bind_made _ _ _ (sym is)
  item_front_found head end (Err e) h is = fails_is e _ (item_front_opens head end h ∙ bind_fails _ _ _ (sym is))
