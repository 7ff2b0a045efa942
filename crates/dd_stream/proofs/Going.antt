-- How texts go to a writer, part by part.
use Rattle.std.proofs.Common.{◌≡◌, ℕ, ◌+◌, ◌-◌, ◌<◌, ◌≤◌, ◌^◌, List, [], ◌++◌, length, take, drop, Option, Result, Ok, Err}
use Rattle.std.proofs.Common.{refl, sym, ap, subst, ◌∙◌, arith, append_assoc, append-nil, length-append, length-drop}
use Rattle.std.proofs.Common.{take-append-drop}
use Rattle.std.proofs.lemmas.List.{take_all, length-take}
use Rattle.std.specs.Io.KnownBytes.{Appends}
use Rattle.std.proofs.KnownBytes.{Appends-nil, Appends-trans}
use Rattle.dd_elem.proofs.Known.{appends_more}
use Rattle.dd_elem.specs.Device.{counted, HasFailed}
use Rattle.dd_elem.specs.declared.counts.Counts.{Counts}
use Rattle.dd_stream.specs.declared.write_fault.WriteFault.{WriteFault}
use Rattle.dd_stream.specs.declared.write_fault.WriteFault.TheVariants.{Write, NotWritable}
use Rattle.dd_stream.specs.Sends.{Goes, Stops, StopsBy, Sends}

-- ---- one text

-- all bytes from a place on
pub take-rest : (bytes : List ℕ) (at : ℕ) → take (length bytes - at) (drop at bytes) ≡ drop at bytes
take-rest bytes at = take_all (length bytes - at) (drop at bytes) (omega (arith, length-drop at bytes))

-- a writer took the front of a text and then n bytes of the rest
pub took_more : (a b c : Option (List ℕ)) (bytes : List ℕ) (at n : ℕ) → Appends a b (take at bytes)
    → Appends b c (take n (take (length bytes - at) (drop at bytes))) → Appends a c (take (at + n) bytes)
took_more a b c bytes at n one two = appends_more a b c bytes at n one
    (subst (λ (rest : List ℕ). Appends b c (take n rest)) (take-rest bytes at) two)

-- or none of it
pub took_none : (a b c : Option (List ℕ)) (bytes : List ℕ) (at n : ℕ) → n ≡ 0 → Appends a b (take at bytes)
    → Appends b c (take n (take (length bytes - at) (drop at bytes))) → Appends a c (take at bytes)
took_none a b c bytes at n none one two =
    let same : at + n ≡ at = omega arith in subst (λ (m : ℕ). Appends a c (take m bytes)) same
    (took_more a b c bytes at n one two)

-- the count of a writer's failures where it did not fail and then did
pub failed_then : (first before after : ℕ) → before ≡ first → after ≡ counted before → HasFailed first after
failed_then first before after same failed = omega (arith, same, failed)

-- the writer failed after the front of a text, in one call more
stops_at : {R : Type 0} (bytes : List ℕ) (sent at : ℕ) (a b : Option (List ℕ) × R) (before after : Counts)
    → at < length bytes → Appends a.0 b.0 (take at bytes) → b.1 ≡ a.1
    → HasFailed before.failures after.failures → after.calls ≤ before.calls + at + 1
    → Stops bytes sent (sent + at) a b before after
stops_at bytes sent at a b before after within holds stays failed called = record {
  front = take at bytes;
  rest = drop at bytes;
  parts = sym (take-append-drop at bytes);
  more = omega (arith, length-drop at bytes);
  count = omega (arith, length-take at bytes);
  holds = holds;
  failed = failed;
  called = omega (arith, within, called);
  stays = stays;
}

pub fails_at : {R : Type 0} (bytes : List ℕ) (sent at : ℕ) (a b : Option (List ℕ) × R) (before after : Counts)
    → at < length bytes → Appends a.0 b.0 (take at bytes) → b.1 ≡ a.1
    → HasFailed before.failures after.failures → after.calls ≤ before.calls + at + 1
    → Sends bytes sent (Err (Write (sent + at))) a b before after
fails_at bytes sent at a b before after within holds stays failed called =
    record { ok = tt; err = stops_at bytes sent at a b before after within holds stays failed called }

-- ---- several texts, one after the other

-- no text at all
pub goes_none : {R : Type 0} (a : Option (List ℕ) × R) (f : Counts) → Goes [] a a f f
goes_none a f = record { holds = Appends-nil a.0; worked = refl; called = omega arith; stays = refl }

-- one went and then another
pub goes_then : {R : Type 0} (xs ys : List ℕ) (a b c : Option (List ℕ) × R) (f g h : Counts) → Goes xs a b f g
    → Goes ys b c g h → Goes (xs ++ ys) a c f h
goes_then xs ys a b c f g h one two = record {
  holds = Appends-trans a.0 b.0 c.0 xs ys one.holds two.holds;
  worked = two.worked ∙ one.worked;
  called = omega (arith, one.called, two.called, length-append xs ys);
  stays = two.stays ∙ one.stays;
}

-- one went and the writer failed in another
pub stops_then : {R : Type 0} (xs ys : List ℕ) (sent k : ℕ) (a b c : Option (List ℕ) × R) (f g h : Counts) → Goes xs a b f g
    → Stops ys (sent + length xs) k b c g h → Stops (xs ++ ys) sent k a c f h
stops_then xs ys sent k a b c f g h one two = record {
  front = xs ++ two.front;
  rest = two.rest;
  parts = ap (λ (zs : List ℕ). xs ++ zs) two.parts ∙ sym (append_assoc xs two.front two.rest);
  more = two.more;
  count = two.count ∙ (omega (arith, length-append xs two.front));
  holds = Appends-trans a.0 b.0 c.0 xs two.front one.holds two.holds;
  failed = subst (λ (n : ℕ). HasFailed n h.failures) one.worked two.failed;
  called = omega (arith, one.called, two.called, length-append xs ys);
  stays = two.stays ∙ one.stays;
}

-- the writer failed in one, so that another did not go at all
pub stops_before : {R : Type 0} (xs ys : List ℕ) (sent k : ℕ) (a b : Option (List ℕ) × R) (f g : Counts)
    → Stops xs sent k a b f g → Stops (xs ++ ys) sent k a b f g
stops_before xs ys sent k a b f g one = record {
  front = one.front;
  rest = one.rest ++ ys;
  parts = ap (λ (zs : List ℕ). zs ++ ys) one.parts ∙ append_assoc one.front one.rest ys;
  more = omega (arith, one.more, length-append one.rest ys);
  count = one.count;
  holds = one.holds;
  failed = one.failed;
  called = omega (arith, one.called, length-append xs ys);
  stays = one.stays;
}

-- the same piece, after some bytes
stops_after : {R : Type 0} (piece : List ℕ) (before k : ℕ) (a b : Option (List ℕ) × R) (f g : Counts)
    → Stops piece 0 k a b f g → Stops piece (0 + before) (before + k) a b f g
stops_after piece before k a b f g stopped = record {
  front = stopped.front;
  rest = stopped.rest;
  parts = stopped.parts;
  more = stopped.more;
  count = omega (arith, stopped.count);
  holds = stopped.holds;
  failed = stopped.failed;
  called = stopped.called;
  stays = stopped.stays;
}

-- what went before goes whole, and a part of the next piece does not go
pub stops_amid : {R : Type 0} (sent piece : List ℕ) (fault : WriteFault) (a b c : Option (List ℕ) × R)
    (f g h : Counts) → Goes sent a b f g → StopsBy piece 0 fault b c g h
    → (taken : ℕ) × Stops (sent ++ piece) 0 taken a c f h
stops_amid sent piece NotWritable a b c f g h went stopped = absurd stopped
stops_amid sent piece (Write k) a b c f g h went stopped = (
  length sent + k,
  stops_then sent piece 0 (length sent + k) a b c f g h went (stops_after piece (length sent) k b c g h stopped),
)

-- ---- a text of which the front is sent

-- Of a whole text the front is sent, which after `start` bytes makes `sent`, and the rest is not.
pub record GoesOn {R : Type 0} (all rest : List ℕ) (start sent : ℕ) (old new : Option (List ℕ) × R) (before after : Counts)
    : Type 0 where
  pub gone : List ℕ
  pub parts : all ≡ gone ++ rest
  pub count : sent ≡ start + length gone
  pub goes : Goes gone old new before after

-- nothing is sent at first
pub goes_on_none : {R : Type 0} (all : List ℕ) (start : ℕ) (a : Option (List ℕ) × R) (f : Counts)
    → GoesOn all all start start a a f f
goes_on_none all start a f = record { gone = []; parts = refl; count = omega arith; goes = goes_none a f }

-- a piece more
pub goes_on_piece : {R : Type 0} (all rest piece others : List ℕ) (start sent n : ℕ) (a b c : Option (List ℕ) × R)
    (f g h : Counts) → GoesOn all rest start sent a b f g → rest ≡ piece ++ others → Sends piece sent (Ok n) b c g h
    → GoesOn all others start n a c f h
goes_on_piece all rest piece others start sent n a b c f g h so_far is more = record {
  gone = so_far.gone ++ piece;
  parts = so_far.parts ∙ ap (λ (xs : List ℕ). so_far.gone ++ xs) is ∙ sym (append_assoc so_far.gone piece others);
  count = omega (arith, so_far.count, more.ok.0, length-append so_far.gone piece);
  goes = goes_then so_far.gone piece a b c f g h so_far.goes more.ok.1;
}

-- the writer failed in a piece
stops_on : {R : Type 0} (all rest piece others : List ℕ) (start sent : ℕ) (fault : WriteFault)
    (a b c : Option (List ℕ) × R) (f g h : Counts) → GoesOn all rest start sent a b f g → rest ≡ piece ++ others
    → StopsBy piece sent fault b c g h → StopsBy all start fault a c f h
stops_on all rest piece others start sent NotWritable a b c f g h so_far is stopped = stopped
stops_on all rest piece others start sent (Write k) a b c f g h so_far is stopped =
    let here : Stops piece (start + length so_far.gone) k b c g h =
    subst (λ (n : ℕ). Stops piece n k b c g h) so_far.count stopped in
    let whole : Stops (so_far.gone ++ (piece ++ others)) start k a c f h =
    stops_then so_far.gone (piece ++ others) start k a b c f g h so_far.goes
    (stops_before piece others (start + length so_far.gone) k b c g h here) in
    subst (λ (text : List ℕ). Stops text start k a c f h) (sym
    (so_far.parts ∙ ap (λ (xs : List ℕ). so_far.gone ++ xs) is)) whole

pub goes_on_fails : {R : Type 0} (all rest piece others : List ℕ) (start sent : ℕ) (fault : WriteFault)
    (a b c : Option (List ℕ) × R) (f g h : Counts) → GoesOn all rest start sent a b f g → rest ≡ piece ++ others
    → Sends piece sent (Err fault) b c g h → Sends all start (Err fault) a c f h
goes_on_fails all rest piece others start sent fault a b c f g h so_far is stopped =
    record { ok = tt; err = stops_on all rest piece others start sent fault a b c f g h so_far is stopped.err }

-- the whole is sent
pub goes_on_whole : {R : Type 0} (all : List ℕ) (start sent : ℕ) (a b : Option (List ℕ) × R) (f g : Counts)
    → GoesOn all [] start sent a b f g → Sends all start (Ok sent) a b f g
goes_on_whole all start sent a b f g so_far =
    let same : all ≡ so_far.gone = so_far.parts ∙ append-nil so_far.gone in
    record {
      ok = (
        so_far.count ∙ ap (λ (xs : List ℕ). start + length xs) (sym same),
        subst (λ (xs : List ℕ). Goes xs a b f g)
            (sym same) so_far.goes,
      );
      err = tt;
    }

-- nothing is left to send
pub goes_on_end : {R : Type 0} (all rest : List ℕ) (start sent : ℕ) (a b : Option (List ℕ) × R) (f g : Counts)
    → GoesOn all rest start sent a b f g → rest ≡ [] → Sends all start (Ok sent) a b f g
goes_on_end all rest start sent a b f g so_far none = goes_on_whole all start sent a b f g
    (subst (λ (xs : List ℕ). GoesOn all xs start sent a b f g) none so_far)

-- the last piece
pub goes_on_last : {R : Type 0} (all rest piece : List ℕ) (start sent : ℕ) (r : Result ℕ WriteFault)
    (a b c : Option (List ℕ) × R) (f g h : Counts) → GoesOn all rest start sent a b f g → rest ≡ piece
    → Sends piece sent r b c g h → Sends all start r a c f h
goes_on_last all rest piece start sent (Err fault) a b c f g h so_far is ended =
    goes_on_fails all rest piece [] start sent fault a b c f g h so_far (is ∙ sym (append-nil piece)) ended
goes_on_last all rest piece start sent (Ok n) a b c f g h so_far is ended =
    goes_on_whole all start n a c f h (goes_on_piece all rest piece [] start sent n a b c f g h so_far
    (is ∙ sym (append-nil piece)) ended)

-- there is room for a piece where there is for the whole
pub goes_on_fits : {R : Type 0} (all rest piece others : List ℕ) (start sent : ℕ) (a b : Option (List ℕ) × R) (f g : Counts)
    → GoesOn all rest start sent a b f g → rest ≡ piece ++ others → start + length all < 2 ^ 64
    → sent + length piece < 2 ^ 64
goes_on_fits all rest piece others start sent a b f g so_far is fits =
    let whole : length all ≡ length so_far.gone + (length piece + length others) =
    ap length (so_far.parts ∙ ap (λ (xs : List ℕ). so_far.gone ++ xs) is) ∙ length-append so_far.gone (piece ++ others)
    ∙ ap (λ (n : ℕ). length so_far.gone + n) (length-append piece others) in
    omega (arith, whole, so_far.count, fits)

-- ---- two texts

-- the writer failed in the first of two
pub first_fails : {R : Type 0} (piece others : List ℕ) (sent : ℕ) (fault : WriteFault) (a b : Option (List ℕ) × R)
    (f g : Counts) → Sends piece sent (Err fault) a b f g → Sends (piece ++ others) sent (Err fault) a b f g
first_fails piece others sent fault a b f g stopped =
    goes_on_fails (piece ++ others) (piece ++ others) piece others sent sent fault a a b f f g
    (goes_on_none (piece ++ others) sent a f) refl stopped

-- the first of two went, and the second as it did
pub then_sends : {R : Type 0} (piece others : List ℕ) (sent n : ℕ) (r : Result ℕ WriteFault)
    (a b c : Option (List ℕ) × R) (f g h : Counts) → Sends piece sent (Ok n) a b f g → Sends others n r b c g h
    → Sends (piece ++ others) sent r a c f h
then_sends piece others sent n r a b c f g h one two =
    let so_far : GoesOn (piece ++ others) others sent n a b f g =
    goes_on_piece (piece ++ others) (piece ++ others) piece others sent sent n a a b f f g
    (goes_on_none (piece ++ others) sent a f) refl one in
    goes_on_last (piece ++ others) others others sent n r a b c f g h so_far refl two

-- the same text
pub sends_same : {R : Type 0} (text same : List ℕ) (sent : ℕ) (r : Result ℕ WriteFault) (a b : Option (List ℕ) × R)
    (f g : Counts) → text ≡ same → Sends text sent r a b f g → Sends same sent r a b f g
sends_same text same sent r a b f g is sends = subst (λ (t : List ℕ). Sends t sent r a b f g) is sends

-- there is room for the last of three texts where there is for the whole
pub third_fits : (one two three whole : List ℕ) (sent n m : ℕ) → one ++ (two ++ three) ≡ whole
    → sent + length whole < 2 ^ 64 → n ≡ sent + length one → m ≡ n + length two → m + length three < 2 ^ 64
third_fits one two three whole sent n m is fits first second =
    let sum : length whole ≡ length one + (length two + length three) =
    sym (ap length is) ∙ length-append one (two ++ three) ∙ ap (λ (k : ℕ). length one + k) (length-append two three) in
    omega (arith, sum, fits, first, second)
