-- No check of the table fails exactly where the checks of each row pass.
use Rattle.std.proofs.Common.{◌≡◌, List, [], ◌∷◌, Option, Some, None, map, refl}
use Rattle.dd_part10.specs.Reading.{FileParts}
use Rattle.dd_keys.specs.declared.fault.KeyFault.{KeyFault}
use Rattle.dd_keys.specs.Faults.{first, row_fault, table_fault}
use Rattle.dd_keys.specs.Table.{Row, key, uid, rows, charset_row, class_row, instance_row, study_date_row}
use Rattle.dd_keys.specs.Table.{study_time_row, accession_row, modality_row, description_row, patient_name_row}
use Rattle.dd_keys.specs.Table.{patient_id_row, study_row, series_row, study_id_row, series_number_row}
use Rattle.dd_keys.specs.Table.{instance_number_row}

-- none of these is there
abbrev NoneThere : List (Option KeyFault) → Type 0
NoneThere [] = Unit {0}
NoneThere (fault ∷ faults) = (fault ≡ None) × NoneThere faults

none_more : (fault : Option KeyFault) (faults : List (Option KeyFault)) → (first faults ≡ None → NoneThere faults)
    → first (fault ∷ faults) ≡ None → NoneThere (fault ∷ faults)
none_more None faults rest e = (refl, rest e)
none_more (Some fault) faults rest e = absurd (cc)

none_there : (faults : List (Option KeyFault)) → first faults ≡ None → NoneThere faults
none_there [] e = tt
none_there (fault ∷ faults) e = none_more fault faults (none_there faults) e

first_more : (fault : Option KeyFault) (faults : List (Option KeyFault)) → fault ≡ None → first faults ≡ None
    → first (fault ∷ faults) ≡ None
first_more None faults here rest = rest
first_more (Some fault) faults here rest = absurd (cc)

first_none : (faults : List (Option KeyFault)) → NoneThere faults → first faults ≡ None
first_none [] none = refl
first_none (fault ∷ faults) none = first_more fault faults none.0 (first_none faults none.1)

-- the checks of each row pass
pub record Passes (fault : Row → Option KeyFault) : Type 0 where
  pub charset : fault (key charset_row) ≡ None
  pub class : fault (uid class_row) ≡ None
  pub instance : fault (uid instance_row) ≡ None
  pub study_date : fault (key study_date_row) ≡ None
  pub study_time : fault (key study_time_row) ≡ None
  pub accession : fault (key accession_row) ≡ None
  pub modality : fault (key modality_row) ≡ None
  pub description : fault (key description_row) ≡ None
  pub patient_name : fault (key patient_name_row) ≡ None
  pub patient_id : fault (key patient_id_row) ≡ None
  pub study : fault (uid study_row) ≡ None
  pub series : fault (uid series_row) ≡ None
  pub study_id : fault (key study_id_row) ≡ None
  pub series_number : fault (key series_number_row) ≡ None
  pub instance_number : fault (key instance_number_row) ≡ None

all_pass : (fault : Row → Option KeyFault) → first (map fault rows) ≡ None → Passes fault
all_pass fault e =
    let n = none_there (map fault rows) e in
    let more = n.1.1.1.1.1 in
    let last = more.1.1.1.1.1 in
    record {
      charset = n.0;
      class = n.1.0;
      instance = n.1.1.0;
      study_date = n.1.1.1.0;
      study_time = n.1.1.1.1.0;
      accession = more.0;
      modality = more.1.0;
      description = more.1.1.0;
      patient_name = more.1.1.1.0;
      patient_id = more.1.1.1.1.0;
      study = last.0;
      series = last.1.0;
      study_id = last.1.1.0;
      series_number = last.1.1.1.0;
      instance_number = last.1.1.1.1.0;
    }

none_fails : (fault : Row → Option KeyFault) → Passes fault → first (map fault rows) ≡ None
none_fails fault p =
    first_none (map fault rows) (
      p.charset,
      (
        p.class,
        (
          p.instance,
          (
            p.study_date,
            (
              p.study_time,
              (
                p.accession,
                (
                  p.modality,
                  (
                    p.description,
                    (
                      p.patient_name,
                      (
                        p.patient_id,
                        (
                          p.study,
                          (p.series, (p.study_id, (p.series_number, (p.instance_number, tt)))),
                        ),
                      ),
                    ),
                  ),
                ),
              ),
            ),
          ),
        ),
      ),
    )

pub passes : (file : FileParts) → table_fault file ≡ None → Passes (row_fault file)
unfolding table_fault
passes file e = all_pass (row_fault file) e

pub table_fault_none : (file : FileParts) → Passes (row_fault file) → table_fault file ≡ None
unfolding table_fault
table_fault_none file p = none_fails (row_fault file) p
