-- What several reads gave, and what several writes took.
use Rattle.std.proofs.Common.{ℕ, List, [], ◌++◌, ◌+◌, ◌≤◌, length, take, drop, sym, subst, append_assoc, append-nil}
use Rattle.std.proofs.Math.Seq.{take-add}
use Rattle.std.proofs.lemmas.List.{take_all}
use Rattle.std.specs.Prelude.{Option}
use Rattle.std.specs.Io.KnownBytes.{Appends, Consumes}
use Rattle.std.proofs.KnownBytes.{Appends-nil, Appends-trans, Consumes-nil, Consumes-trans}
use Rattle.dd_elem.specs.Device.{Gives}

-- no read gave nothing
pub gives_none : {S P : Type 0} (given : S → P → List ℕ → Type 0) (s : S) → Gives given s s []
gives_none given s = record { then = λ past before h. subst (given s past) (sym (append-nil before)) h }

-- a reader gave some bytes and then more
pub gives_more : {S P : Type 0} (given : S → P → List ℕ → Type 0) (a b c : S) (xs ys : List ℕ) → Gives given a b xs
    → Gives given b c ys → Gives given a c (xs ++ ys)
gives_more given a b c xs ys one two =
    record {
      then = λ past before h. subst (given c past) (append_assoc before xs ys)
          (two.then past (before ++ xs) (one.then past before h));
    }

-- no read consumed nothing
pub consumes_none : (a : Option (List ℕ)) → Consumes a a []
consumes_none a = Consumes-nil a

-- a reader lost some known bytes and then more
pub consumes_more : (a b c : Option (List ℕ)) (xs ys : List ℕ) → Consumes a b xs → Consumes b c ys
    → Consumes a c (xs ++ ys)
consumes_more a b c xs ys one two = Consumes-trans a b c xs ys one two

-- no write added nothing
pub appends_none : (a : Option (List ℕ)) → Appends a a []
appends_none a = Appends-nil a

-- a writer took the front of a piece and then the front of its rest
pub appends_more : (a b c : Option (List ℕ)) (piece : List ℕ) (m n : ℕ) → Appends a b (take m piece)
    → Appends b c (take n (drop m piece)) → Appends a c (take (m + n) piece)
appends_more a b c piece m n one two =
    subst (Appends a c) (sym (take-add m n piece)) (Appends-trans a b c (take m piece) (take n (drop m piece)) one two)

-- a writer took a whole piece
pub appends_all : (a b : Option (List ℕ)) (piece : List ℕ) (n : ℕ) → length piece ≤ n → Appends a b (take n piece)
    → Appends a b piece
appends_all a b piece n whole took = subst (Appends a b) (take_all n piece whole) took
