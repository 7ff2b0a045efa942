-- What is found of an IMAGE record, by the digest of its file and by what reading the file gives.
use Rattle.std.proofs.Common.{◌≡◌, ◌∙◌, inl, ℕ, Bool, List, ◌∷◌, Option, None, Some, Result, Ok, Err, sym, ap, subst}
use Rattle.std.specs.Prelude.{IfOk, OnErr}
use Rattle.std.specs.Option.{option_or}
use Rattle.sha2.specs.Sha256.{sha256}
use Rattle.dd_elem.specs.Device.{Gives}
use Rattle.dd_elem.specs.declared.device.Read.{Ghosts as ReadOf}
use Rattle.dd_elem.specs.declared.tag.Tag.{Tag}
use Rattle.dd_grammar.specs.declared.fault.SetFault.TheVariants.{Memory}
use Rattle.dd_keys.specs.Kept.{IsKept}
use Rattle.dd_part10.specs.declared.fault.FileFault.{FileFault}
use Rattle.dd_part10.specs.declared.fault.FileFault.TheVariants as faults
use Rattle.dd_part10.specs.declared.scanned.Scanned.{Scanned}
use Rattle.dd_part10.specs.declared.stream_fault.StreamFault.{StreamFault}
use Rattle.dd_part10.specs.declared.stream_fault.StreamFault.TheVariants.{File}
use Rattle.dd_part10.specs.Faults.{SaysMemory}
use Rattle.dd_part10.specs.Memory.{IsRefused}
use Rattle.dd_part10.specs.Reading.{FileParts, file_in}
use Rattle.dd_part10.specs.Streaming.{IsFileAnswer}
use Rattle.dd_slots.specs.Slots.{IsSlotOf}
use Rattle.dd_slots.specs.declared.slot.Slot.{Slot}
use Rattle.dd_stream.specs.Reads.{ReadsUpTo}
use Rattle.dd_walk.specs.Saying.{digest_in}
use Rattle.dd_walk.specs.Trees.{Node}
use Rattle.dd_report.specs.declared.agreements.Inherited.{Inherited}
use Rattle.dd_report.specs.declared.findings.Finding.{Finding}
use Rattle.dd_report.specs.declared.findings.Judgement.{Judgement}
use Rattle.dd_report.specs.Agreements.{IsInherited, by_keys, compared_tags, mislabelled, standing_below}
use Rattle.dd_report.specs.Batches.{judged}
use Rattle.dd_report.specs.Finding.{FindsBy, by_digest, compared, without_digest}

-- a fault that does not say memory is the answer of reading the file
pub refused : (wanted : List Tag) (e : FileFault) (given : List ℕ) → IsRefused wanted e given → (SaysMemory e → ⊥)
    → file_in given ≡ Err e
refused wanted (faults.Meta Memory) given h silent = absurd (silent tt)
refused wanted (faults.Set Memory) given h silent = absurd (silent tt)
refused wanted e given h silent = h

-- by the digest and by keys, and whether its record has a digest
abbrev pub by_keys_of : Bool → Node → List Node → List ℕ → Option Finding
by_keys_of strict node above given = option_or (by_keys (standing_below above node) given) (without_digest strict node)

module _ (strict : Bool) (node : Node) (above : List Node) (given : List ℕ) where
  -- by what reading the file gives
  pub by_wrong : (read : Result FileParts FileFault) (finding wrong : Option Finding) → file_in given ≡ read
      → wrong ≡ mislabelled (standing_below above node) read
      → finding ≡ option_or (option_or (by_digest node given) wrong) (without_digest strict node)
      → finding ≡ by_keys_of strict node above given
  by_wrong read finding wrong gives is found =
      found ∙ ap (λ (o : Option Finding). option_or (option_or (by_digest node given) o) (without_digest strict node))
      (is ∙ ap (λ (r : Result FileParts FileFault). mislabelled (standing_below above node) r) (sym gives))

  -- by the digest, which differs
  pub by_differs : (digest : List ℕ) (differs : Option Finding) (finding : Finding) → digest ≡ sha256 given
      → differs ≡ compared (digest_in node.set) digest → differs ≡ Some finding
      → Some finding ≡ by_keys_of strict node above given
  by_differs digest differs finding right is some =
      ap (λ (o : Option Finding). option_or (option_or o (mislabelled (standing_below above node) (file_in given)))
      (without_digest strict node))
      (sym some ∙ is ∙ ap (λ (d : List ℕ). compared (digest_in node.set) d) right)

module _ {R : Type 0} (readers : ReadOf R) (limit : ℕ) (old new : R) (slot : Slot) (answer : Result Scanned StreamFault)
    (fault : FileFault) (is : answer ≡ Err (File fault))
    (read : ReadsUpTo readers limit old new (IsKept answer slot compared_tags limit)) where
  abbrev Answer : Result Scanned StreamFault → Type 0
  Answer a =
      IsFileAnswer a compared_tags limit read.given (readers.remaining new) (readers.failures old)
      (readers.failures new)

  -- what is found of a file that is no DICOM file
  pub no_file_found : {E : Type 0} (r : Result Judgement E) (said : Inherited) (strict : Bool) (node : Node)
      → IfOk r (λ judgement. (above : List Node) (given : List ℕ) → IsSlotOf slot given
      → IsRefused compared_tags fault given → judged judgement slot ≡ by_keys_of strict node above given)
      → IfOk r (λ judgement. (above : List Node) → IsInherited said (node ∷ above)
      → FindsBy readers limit (λ (given : List ℕ). by_keys_of strict node above given) (judged judgement slot) old new)
  no_file_found (Ok judgement) said strict node found = λ above inherits.
      let h = subst (λ (a : Result Scanned StreamFault). Answer a) is read.answered.file in
      record {
        given = read.given;
        gave = read.gave;
        known = read.known;
        few = read.few;
        answered = inl (found above read.given read.answered.kept h.1, h.0);
      }
  no_file_found (Err e) said strict node found = tt

  -- where memory ran out, the digest does not differ and memory is wanted
  pub no_file_wants : {T E : Type 0} (r : Result T E) (node : Node)
      → OnErr r (SaysMemory fault × ((given : List ℕ) → IsSlotOf slot given → by_digest node given ≡ None))
      → OnErr r ((given : List ℕ) × (wants : FileFault) × Gives readers.has_given old new given
      × (by_digest node given ≡ None) × SaysMemory wants × IsRefused compared_tags wants given)
  no_file_wants (Ok done) node wants = tt
  no_file_wants (Err e) node wants =
      let h = subst (λ (a : Result Scanned StreamFault). Answer a) is read.answered.file in
      (read.given, fault, read.gave, wants.1 read.given read.answered.kept, wants.0, h.1)
