-- A file that is given by its digest and a head.
use Rattle.std.proofs.Common.{◌≡◌, ◌∙◌, ℕ, List, [], ◌∷◌, ◌++◌, length, take, drop, refl, ap, sym, arith, true}
use Rattle.std.proofs.Common.{Option, Some, Result, Ok, Err, length-append}
use Rattle.std.proofs.Math.Seq.{take-append_seam, drop-append_seam}
use Rattle.std.proofs.lemmas.Bool.{le-leb}
use Rattle.std.specs.Prelude.{nat_le}
use Rattle.sha2.proofs.Facts256.{length-sha256}
use Rattle.sha2.specs.Sha256.{sha256}
use Rattle.dd_encoding.specs.Meta.{class_tag, instance_tag}
use Rattle.dd_encoding.specs.declared.meta.Meta.{Meta}
use Rattle.dd_records.specs.ElementForms.{tag}
use Rattle.dd_part10.specs.declared.fault.FileFault.{FileFault}
use Rattle.dd_part10.specs.Reading.{FileParts, file_in}
use Rattle.dd_report.specs.Agreements.{Standing, agreement, first_wrong, has_digest, inherited, mislabelled, patient_id}
use Rattle.dd_report.specs.Agreements.{recorded_class, recorded_instance, syntax_agreement}
use Rattle.dd_report.specs.declared.checking.Comparison.{Comparison}
use Rattle.dd_report.specs.declared.findings.Finding.{Finding}
use Rattle.dd_calls.specs.Findings.{found_by_head, found_by_keys, found_given}
use Rattle.dd_calls.specs.Heads.{SayTheSame}

-- what is found of an image by the values that are compared
abbrev by_values : Standing → Meta → (class instance patient study series : List ℕ) → Option Finding
by_values standing meta class instance patient study series = first_wrong
    (agreement class_tag meta.class (recorded_class standing)
    ∷ agreement instance_tag meta.instance (recorded_instance standing)
    ∷ syntax_agreement standing meta.transfer
    ∷ agreement (tag 0x0008 0x0016) class (recorded_class standing)
    ∷ agreement (tag 0x0008 0x0018) instance (recorded_instance standing)
    ∷ agreement (tag 0x0010 0x0020) (patient_id (has_digest standing) patient)
    (patient_id (has_digest standing) (inherited standing (tag 0x0010 0x0020)))
    ∷ agreement (tag 0x0020 0x000d) study (inherited standing (tag 0x0020 0x000d))
    ∷ agreement (tag 0x0020 0x000e) series (inherited standing (tag 0x0020 0x000e))
    ∷ [])

same_values : (standing : Standing) (m n : Meta) (a b c d e f g h i j : List ℕ)
    → m ≡ n → a ≡ b → c ≡ d → e ≡ f → g ≡ h → i ≡ j
    → by_values standing m a c e g i ≡ by_values standing n b d f h j
same_values standing m n a b c d e f g h i j one two three four five six = rw (one, two, three, four, five, six) refl

same_mislabelled : (standing : Standing) (one other : Result FileParts FileFault) → SayTheSame one other
    → mislabelled standing one ≡ mislabelled standing other
same_mislabelled standing (Ok one) (Ok other) (meta, values) =
    same_values standing one.meta other.meta _ _ _ _ _ _ _ _ _ _ meta values.0 values.1.0 values.1.1.0 values.1.1.1.0
    values.1.1.1.1.0
same_mislabelled standing (Err one) (Err other) same =
    ap (λ (fault : FileFault). mislabelled standing (Err fault)) same
same_mislabelled standing (Ok one) (Err other) same = absurd same
same_mislabelled standing (Err one) (Ok other) same = absurd same

module _ (comparison : Comparison) (standing : Standing) where
  same_found : (digest : List ℕ) (one other : Result FileParts FileFault) → SayTheSame one other
      → found_by_keys comparison standing digest one ≡ found_by_keys comparison standing digest other
  same_found digest one other same = rw (same_mislabelled standing one other same) refl

  by_parts : (digest head : List ℕ) → length digest ≡ 32
      → found_by_head comparison standing (digest ++ head) ≡ Some (found_by_keys comparison standing digest (file_in head))
  by_parts digest head long =
      let front : take 32 (digest ++ head) ≡ digest =
      ap (λ (n : ℕ). take n (digest ++ head)) (sym long) ∙ take-append_seam digest head in
      let back : drop 32 (digest ++ head) ≡ head =
      ap (λ (n : ℕ). drop n (digest ++ head)) (sym long) ∙ drop-append_seam digest head in
      let whole = length-append digest head in
      let enough : nat_le 32 (length (digest ++ head)) ≡ true =
      le-leb 32 (length (digest ++ head)) (omega (arith, long, whole)) in
      rw (enough, front, back) refl

  pub head_stands : (head given : List ℕ) → SayTheSame (file_in head) (file_in given)
      → found_given comparison standing 4 (sha256 given ++ head) ≡ found_given comparison standing 2 given
  head_stands head given same =
      by_parts (sha256 given) head (length-sha256 given)
      ∙ ap Some (same_found (sha256 given) (file_in head) (file_in given) same)
