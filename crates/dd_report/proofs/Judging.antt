-- What is judged of a file before its digest is computed is what is found of its bytes.
use Rattle.std.proofs.Common.{◌≡◌, ◌∙◌, ℕ, Bool, true, false, List, ◌∷◌, Option, None, Some, Result, Ok, Err, inl, inr}
use Rattle.std.proofs.Common.{refl, sym, ap, subst}
use Rattle.std.specs.Prelude.{◌&&◌, not, is_some, IfOk, IsNone, if◌then◌else◌}
use Rattle.std.specs.Option.{option_or}
use Rattle.sha2.specs.Sha256.{sha256}
use Rattle.sha2.specs.declared.Sha256.{Sha256}
use Rattle.dd_elem.specs.declared.device.Read.{Ghosts as ReadOf}
use Rattle.dd_walk.specs.Saying.{digest_in}
use Rattle.dd_walk.specs.Trees.{Node}
use Rattle.dd_files.specs.ReadToEnd.{IsFilled}
use Rattle.dd_slots.specs.Slots.{HasTaken, IsSlotOf}
use Rattle.dd_slots.specs.declared.slot.Slot.{Slot}
use Rattle.dd_stream.specs.Reads.{ReadsUpTo}
use Rattle.dd_report.specs.Agreements.{IsInherited, Standing, by_keys, found_in, is_image, standing_below}
use Rattle.dd_report.specs.Batches.{judged}
use Rattle.dd_report.specs.Finding.{FindsBy, by_digest, compared, without_digest}
use Rattle.dd_report.specs.declared.agreements.Inherited.{Inherited}
use Rattle.dd_report.specs.declared.checking.Comparison.{Comparison}
use Rattle.dd_report.specs.declared.findings.Finding.{Finding}
use Rattle.dd_report.specs.declared.findings.Finding.TheVariants.{NoDigest, Unreadable}
use Rattle.dd_report.specs.declared.findings.Judgement.{Judgement}

-- ---- a file that is read whole

or_none : (finding : Option Finding) → option_or finding None ≡ finding
or_none None = refl
or_none (Some finding) = refl

and_false : (b : Bool) → (b && false) ≡ false
and_false true = refl
and_false false = refl

-- by the digest of its bytes, and whether its record has one
abbrev pub by_digest_of : Bool → Node → List ℕ → Option Finding
by_digest_of strict node given = option_or (by_digest node given) (without_digest strict node)

-- the same where something else is found of a file whose digest does not differ
abbrev pub by_digest_or : Bool → Node → Option Finding → List ℕ → Option Finding
by_digest_or strict node otherwise given =
    option_or (option_or (by_digest node given) otherwise) (without_digest strict node)

pub nothing_else : (strict : Bool) (node : Node) (given : List ℕ)
    → by_digest_or strict node None given ≡ by_digest_of strict node given
nothing_else strict node given =
    ap (λ (o : Option Finding). option_or o (without_digest strict node)) (or_none (by_digest node given))

pub undigested : (strict : Bool) (node : Node) (otherwise : Option Finding) (given : List ℕ)
    → digest_in node.set ≡ None
    → option_or otherwise (without_digest strict node) ≡ by_digest_or strict node otherwise given
undigested strict node otherwise given none =
    ap (λ (recorded : Option (List ℕ)). option_or (option_or (compared recorded (sha256 given)) otherwise)
    (without_digest strict node)) (sym none)

digested : (strict : Bool) (node : Node) (otherwise : Option Finding) (given recorded : List ℕ)
    → digest_in node.set ≡ Some recorded
    → option_or (compared (Some recorded) (sha256 given)) otherwise ≡ by_digest_or strict node otherwise given
digested strict node otherwise given recorded is =
    let found = option_or (compared (Some recorded) (sha256 given)) otherwise in
    let rest : without_digest strict node ≡ None =
    ap (λ (o : Option (List ℕ)). if strict && not (is_some o) then Some NoDigest else None) is
    ∙ ap (λ (b : Bool). if b then Some NoDigest else None) (and_false strict) in
    sym (or_none found) ∙ ap (λ (o : Option Finding). option_or found o) (sym rest)
    ∙ ap (λ (o : Option (List ℕ)). option_or (option_or (compared o (sha256 given)) otherwise)
    (without_digest strict node)) (sym is)

is_none : {A : Type 0} (o : Option A) → IsNone o → o ≡ None
is_none None none = refl
is_none (Some value) none = absurd (cc none)

pub kept_whole : (slot : Slot) → IsNone slot.hasher → slot.hasher ≡ None
kept_whole slot none = is_none slot.hasher none

own_bytes : (slot : Slot) (given : List ℕ) → slot.hasher ≡ None → IsSlotOf slot given → slot.kept.items ≡ given
own_bytes slot given none taken =
    subst (λ (hasher : Option Sha256). HasTaken hasher slot.kept.items given) none taken

-- its bytes wait
pub digest_waits : (strict : Bool) (node : Node) (slot : Slot) (otherwise : Option Finding) (given recorded : List ℕ)
    → digest_in node.set ≡ Some recorded → slot.hasher ≡ None → IsSlotOf slot given
    → option_or (compared (Some recorded) (sha256 slot.kept.items)) otherwise ≡ by_digest_or strict node otherwise given
digest_waits strict node slot otherwise given recorded is kept taken =
    ap (λ (bytes : List ℕ). option_or (compared (Some recorded) (sha256 bytes)) otherwise)
    (own_bytes slot given kept taken)
    ∙ digested strict node otherwise given recorded is

-- its digest is known
pub digest_known : (strict : Bool) (node : Node) (otherwise : Option Finding) (given recorded digest : List ℕ)
    (differs : Option Finding) → digest_in node.set ≡ Some recorded → digest ≡ sha256 given
    → differs ≡ compared (Some recorded) digest
    → option_or differs otherwise ≡ by_digest_or strict node otherwise given
digest_known strict node otherwise given recorded digest differs is right found =
    ap (λ (o : Option Finding). option_or o otherwise) (found ∙ ap (λ (d : List ℕ). compared (Some recorded) d) right)
    ∙ digested strict node otherwise given recorded is

-- ---- a file that is read

module _ {R : Type 0} (readers : ReadOf R) (limit : ℕ) (old new : R) (slot : Slot) (strict : Bool) (node : Node) where
  abbrev Filled : Bool → Type 0
  Filled read = ReadsUpTo readers limit old new (IsFilled read slot limit)

  abbrev Finds : Option Finding → Type 0
  Finds finding = FindsBy readers limit (λ (given : List ℕ). by_digest_of strict node given) finding old new

  unreadable : Filled false → Finds (Some Unreadable)
  unreadable read = record {
    given = read.given;
    gave = read.gave;
    known = read.known;
    few = read.few;
    answered = inr (refl, read.answered);
  }

  whole : (finding : Option Finding) → Filled true
      → ((given : List ℕ) → IsSlotOf slot given → finding ≡ by_digest_of strict node given) → Finds finding
  whole finding read is = record {
    given = read.given;
    gave = read.gave;
    known = read.known;
    few = read.few;
    answered = inl (is read.given read.answered.0, read.answered.1);
  }

  pub finds_unreadable : (read : Bool) → read ≡ false → Filled read → Finds (Some Unreadable)
  finds_unreadable read is filled = unreadable (subst (λ (b : Bool). Filled b) is filled)

  pub finds_whole : (read : Bool) (finding : Option Finding) → read ≡ true → Filled read
      → ((given : List ℕ) → IsSlotOf slot given → finding ≡ by_digest_of strict node given) → Finds finding
  finds_whole read finding is filled found = whole finding (subst (λ (b : Bool). Filled b) is filled) found

-- ---- by this comparison

module _ {R : Type 0} (readers : ReadOf R) (limit : ℕ) (old new : R) (comparison : Comparison) (standing : Standing)
    (finding : Option Finding) where
  abbrev by_this : Bool → List ℕ → Option Finding
  by_this keys given =
      option_or (if keys then by_keys standing given else by_digest standing.node given)
      (without_digest comparison.strict standing.node)

  pub by_digest_found : (comparison.keys && is_image standing.node) ≡ false
      → FindsBy readers limit (λ (given : List ℕ). by_digest_of comparison.strict standing.node given) finding old new
      → FindsBy readers limit (found_in comparison standing) finding old new
  by_digest_found is by =
      subst (λ (keys : Bool). FindsBy readers limit (λ (given : List ℕ). by_this keys given) finding old new) (sym is)
      by

  pub by_keys_found : (comparison.keys && is_image standing.node) ≡ true
      → FindsBy readers limit (λ (given : List ℕ). option_or (by_keys standing given)
      (without_digest comparison.strict standing.node)) finding old new
      → FindsBy readers limit (found_in comparison standing) finding old new
  by_keys_found is by =
      subst (λ (keys : Bool). FindsBy readers limit (λ (given : List ℕ). by_this keys given) finding old new) (sym is)
      by

-- the same of each judgement by keys
pub keys_found : {R E : Type 0} (readers : ReadOf R) (limit : ℕ) (old new : R) (comparison : Comparison) (node : Node)
    (said : Inherited) (slot : Slot) (r : Result Judgement E) → (comparison.keys && is_image node) ≡ true
    → IfOk r (λ judgement. (above : List Node) → IsInherited said (node ∷ above)
    → FindsBy readers limit (λ (given : List ℕ). option_or (by_keys (standing_below above node) given)
    (without_digest comparison.strict node)) (judged judgement slot) old new)
    → IfOk r (λ judgement. (above : List Node) → IsInherited said (node ∷ above)
    → FindsBy readers limit (found_in comparison (standing_below above node)) (judged judgement slot) old new)
keys_found readers limit old new comparison node said slot (Ok judgement) is found = λ above inherits.
    by_keys_found readers limit old new comparison (standing_below above node) (judged judgement slot) is
    (found above inherits)
keys_found readers limit old new comparison node said slot (Err fault) is found = tt

pub keys_first : (keys image both : Bool) → both ≡ (keys && image) → both ≡ true → keys ≡ true
keys_first true image both is both_are = refl
keys_first false image both is both_are = sym is ∙ both_are
