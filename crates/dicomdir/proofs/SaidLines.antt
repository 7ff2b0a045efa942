-- Lines that were printed one after the other.
use Rattle.std.proofs.Common.{◌≡◌, ◌∙◌, ℕ, List, [], ◌∷◌, ◌++◌, ◌+◌, ◌<◌, ap, append-nil, append_assoc, get_or}
use Rattle.std.proofs.Common.{length, refl, subst, sym, take}
use Rattle.std.proofs.KnownBytes.{Appends-nil, Appends-trans}
use Rattle.std.proofs.lemmas.List.{take_more}
use Rattle.std.specs.Prelude.{IsOk, OnOk, Result, Ok, Err}
use Rattle.dd_engine.specs.declared.noted_index.NotedIndex.{NotedIndex}
use Rattle.dd_engine.specs.declared.noted_merge.NotedMerge.{NotedMerge}
use Rattle.dd_elem.specs.declared.device.Write.{Ghosts as WriteOf}
use Rattle.dd_lines.specs.Text.{TakesText}
use Rattle.dd_json.specs.declared.value.Style.{Style}
use Rattle.dicomdir.specs.Said.{AreLines, IsLeftOut, IsNames, IsSkip, IsUnlisted, IsUnreached, SaysNotes, SaysSetNotes}
use Rattle.dicomdir.specs.Said.{ShowsMember}
use Rattle.dd_refusals.specs.Faults.{path_at}

-- a line after all others
lines_push : {T : Type 0} (IsLine : T → List ℕ → Type 0) (xs : List T) (x : T) (text line : List ℕ)
    → AreLines IsLine xs text → IsLine x line → AreLines IsLine (xs ++ x ∷ []) (text ++ line)
lines_push IsLine [] x text line are is = (line, [], rw are (sym (append-nil line)), is, refl)
lines_push IsLine (y ∷ xs) x text line (here, later, parts, first, rest) is = (
  here,
  later ++ line,
  ap (λ (bytes : List ℕ). bytes ++ line) parts ∙ append_assoc here later line,
  first,
  lines_push IsLine xs x later line rest is,
)

-- what was printed of the first lines, and of one more
abbrev pub SaidTo : {T W : Type 0} → WriteOf W → (T → List ℕ → Type 0) → List T → W → W → Type 0
SaidTo writer IsLine xs old new = (text : List ℕ) × AreLines IsLine xs text × TakesText writer old new text

pub said_none : {T W : Type 0} (writer : WriteOf W) (IsLine : T → List ℕ → Type 0) (old : W)
    → SaidTo writer IsLine [] old old
said_none writer IsLine old = ([], refl, (refl, Appends-nil (writer.contents old)))

pub said_more : {T W : Type 0} (writer : WriteOf W) (IsLine : T → List ℕ → Type 0) (xs : List T) (at : ℕ) (x : T)
    (line : List ℕ) (a b c : W) → at < length xs → SaidTo writer IsLine (take at xs) a b
    → IsLine (get_or xs at x) line → TakesText writer b c line → SaidTo writer IsLine (take (at + 1) xs) a c
said_more {T = T} writer IsLine xs at x line a b c within (text, are, took) is next =
    subst (λ (first : List T). SaidTo writer IsLine first a c) (sym (take_more xs at x within)) (
      text ++ line,
      lines_push IsLine (take at xs) (get_or xs at x) text line are is,
      (
        next.0 ∙ took.0,
        Appends-trans (writer.contents a) (writer.contents b) (writer.contents c) text line took.1 next.1,
      ),
    )

-- ---- answers

pub on_ok_gives : {T E P : Type 0} (r : Result T E) → IsOk r → OnOk r P → P
on_ok_gives (Ok x) ok holds = holds
on_ok_gives (Err e) ok holds = absurd cc

-- ---- one text after another

pub takes_both : {W : Type 0} (writer : WriteOf W) (a b c : W) (one two : List ℕ) → TakesText writer a b one
    → TakesText writer b c two → TakesText writer a c (one ++ two)
takes_both writer a b c one two first next = (
  next.0 ∙ first.0,
  Appends-trans (writer.contents a) (writer.contents b) (writer.contents c) one two first.1 next.1,
)

pub notes_said : {W : Type 0} (writer : WriteOf W) (style : Style) (sources : List (List ℕ)) (noted : NotedIndex)
    (a b c d : W) → SaidTo writer (IsSkip style sources) noted.indexed.skipped.items a b
    → SaidTo writer (IsLeftOut style (λ at shown. shown ≡ path_at sources at)) noted.notes.left_out.items b c
    → SaidTo writer (IsNames style) noted.notes.names.items c d
    → (text : List ℕ) × SaysNotes style sources noted text × TakesText writer a d text
notes_said writer style sources noted a b c d (skips, skipped, one) (left, left_out, two) (names, named, three) =
    let says : SaysNotes style sources noted (skips ++ (left ++ names)) = record {
      skips = skips;
      skipped = skipped;
      left = left;
      left_out = left_out;
      names = names;
      named = named;
      is = refl;
    } in (
      skips ++ (left ++ names),
      says,
      takes_both writer a b d skips (left ++ names) one
          (takes_both writer b c d left names two three),
    )

pub set_notes_said : {W : Type 0} (writer : WriteOf W) (style : Style) (folders : List (List ℕ)) (noted : NotedMerge)
    (a b c still d e : W) → SaidTo writer (IsUnreached style folders) noted.sets.unreached.items a b
    → SaidTo writer (IsLeftOut style (ShowsMember folders)) noted.notes.left_out.items b c → still ≡ c
    → SaidTo writer (IsUnlisted style) noted.sets.unlisted.items still d
    → SaidTo writer (IsNames style) noted.notes.names.items d e
    → (text : List ℕ) × SaysSetNotes style folders noted text × TakesText writer a e text
set_notes_said {W = W} writer style folders noted a b c still d e (unreached, first, one) (left, left_out, two) same
    (unlisted, third, three) (names, named, four) =
    let says : SaysSetNotes style folders noted (unreached ++ (left ++ (unlisted ++ names))) = record {
      unreached = unreached;
      are_unreached = first;
      left = left;
      left_out = left_out;
      unlisted = unlisted;
      are_unlisted = third;
      names = names;
      named = named;
      is = refl;
    } in (
      unreached ++ (left ++ (unlisted ++ names)),
      says,
      takes_both writer a b e unreached (left ++ (unlisted ++ names)) one
          (takes_both writer b c e left (unlisted ++ names) two
          (takes_both writer c d e unlisted names
          (subst (λ (from : W). TakesText writer from d unlisted) same three) four)),
    )
