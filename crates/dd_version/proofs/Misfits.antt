-- Parts fit where no tag is found whose part does not, and the first one found is the least.
use Rattle.std.proofs.Common.{◌≡◌, ◌≢◌, ◌≤◌, ℕ, Bool, true, false, ◌&&◌, not, nat_le, List, [], ◌∷◌, Some, None, refl}
use Rattle.std.proofs.Common.{sym, subst, arith}
use Rattle.std.specs.Prelude.{All, Contains, Option, find, option_map}
use Rattle.std.proofs.lemmas.Bool.{and_parts, leb-true}
use Rattle.std.proofs.lemmas.List.Elements.{All-nil, All-cons, All-contains, Contains-push, Contains-append_left}
use Rattle.std.proofs.lemmas.List.Elements.{Contains-append_right}
use Rattle.dd_elem.specs.Tag.{number_of}
use Rattle.dd_elem.specs.declared.tag.Tag.{Tag}
use Rattle.dd_version.specs.Fitting.{Fits, Fitting, IsLeastMisfit, fittings, is_empty, least_misfit}
use Rattle.dd_version.specs.declared.parts.Parts.{Parts}
use Rattle.dd_version.proofs.ImageClasses.{is_image_class_decides}
use Rattle.dd_version.proofs.KnownSyntaxes.{is_known_syntax_decides}

-- the first tag of a list whose part does not fit
abbrev first : List Fitting → Option Tag
first fs = option_map (λ f. f.0) (find (λ f. not f.1) fs)

-- ---- the first is the least, where the tags rise

-- each tag of the list is this one or above it
abbrev none_below : Tag → List Fitting → Bool
none_below tag [] = true
none_below tag (f ∷ fs) = nat_le (number_of tag) (number_of f.0) && none_below tag fs

abbrev rises : List Fitting → Bool
rises [] = true
rises (f ∷ fs) = none_below f.0 fs && rises fs

-- a tag, where its part does not fit, is this one or above it
abbrev IsAbove : Tag → Fitting → Type 0
IsAbove tag f = f.1 ≡ false → number_of tag ≤ number_of f.0

record IsLeastOf (fs : List Fitting) (tag : Tag) : Type 0 where
  misfit : Contains fs (tag, false)
  least : All (IsAbove tag) fs

all_above : (tag : Tag) (fs : List Fitting) → none_below tag fs ≡ true → All (IsAbove tag) fs
all_above tag [] e = All-nil (IsAbove tag)
all_above tag (f ∷ fs) e =
    let p = and_parts _ _ e in
    All-cons (IsAbove tag) f fs (λ is. leb-true (number_of tag) (number_of f.0) p.0) (all_above tag fs p.1)

-- a tag whose part fits is passed over
true_fits : {P : Type 0} → true ≡ false → P
true_fits contradiction = absurd (cc)

least_of_more : (tag : Tag) (fits : Bool) (fs : List Fitting) (least : Tag) → rises ((tag, fits) ∷ fs) ≡ true
    → (rises fs ≡ true → first fs ≡ Some least → IsLeastOf fs least) → first ((tag, fits) ∷ fs) ≡ Some least
    → IsLeastOf ((tag, fits) ∷ fs) least
least_of_more tag true fs least up among e =
    let p = and_parts (none_below tag fs) (rises fs) up in
    let found : IsLeastOf fs least = among p.1 e in
    record {
      misfit = Contains-append_right ((tag, true) ∷ []) fs (least, false) found.misfit;
      least = All-cons (IsAbove least) (tag, true) fs true_fits found.least;
    }
least_of_more tag false fs least up among e =
    let p = and_parts (none_below tag fs) (rises fs) up in
    let same : tag ≡ least = cc in
    let here : Contains ((tag, false) ∷ fs) (tag, false) = Contains-append_left ((tag, false) ∷ []) fs (tag, false)
    (Contains-push [] (tag, false)) in
    record {
      misfit = subst (λ (t : Tag). Contains ((tag, false) ∷ fs) (t, false)) same here;
      least = subst (λ (t : Tag). All (IsAbove t) ((tag, false) ∷ fs)) same
          (All-cons (IsAbove tag) (tag, false) fs (λ is. omega arith) (all_above tag fs p.0));
    }

least_of : (fs : List Fitting) (least : Tag) → rises fs ≡ true → first fs ≡ Some least → IsLeastOf fs least
least_of [] least up e = absurd (cc)
least_of (f ∷ fs) least up e = least_of_more f.0 f.1 fs least up (least_of fs least) e

-- the tag that is found is the least whose part does not fit
pub least_from_found : (parts : Parts) (tag : Tag) → Some tag ≡ least_misfit parts → IsLeastMisfit parts tag
least_from_found parts tag e =
    let found = least_of (fittings parts) tag refl (sym e) in
    record {
      misfit = found.misfit;
      least = λ other misfit. All-contains (IsAbove tag) (fittings parts) (other, false) found.least misfit refl;
    }

-- ---- no tag is found exactly where all parts fit

-- each part fits
abbrev AllFit : List Fitting → Type 0
AllFit [] = Unit {0}
AllFit (f ∷ fs) = (f.1 ≡ true) × AllFit fs

more_fit : (tag : Tag) (fits : Bool) (fs : List Fitting) → (first fs ≡ None → AllFit fs)
    → first ((tag, fits) ∷ fs) ≡ None → AllFit ((tag, fits) ∷ fs)
more_fit tag true fs rest e = (refl, rest e)
more_fit tag false fs rest e = absurd (cc)

all_fit : (fs : List Fitting) → first fs ≡ None → AllFit fs
all_fit [] e = tt
all_fit (f ∷ fs) e = more_fit f.0 f.1 fs (all_fit fs) e

none_of_more : (tag : Tag) (fits : Bool) (fs : List Fitting) → fits ≡ true → first fs ≡ None
    → first ((tag, fits) ∷ fs) ≡ None
none_of_more tag true fs fit rest = rest
none_of_more tag false fs fit rest = absurd (cc)

none_of : (fs : List Fitting) → AllFit fs → first fs ≡ None
none_of [] all = refl
none_of (f ∷ fs) all = none_of_more f.0 f.1 fs all.0 (none_of fs all.1)

-- a test for bytes
some_bytes : (key : List ℕ) → not (is_empty key) ≡ true → key ≢ []
some_bytes [] e = absurd (cc)
some_bytes (byte ∷ bytes) e = λ none. absurd (cc)

test_from_bytes : (key : List ℕ) → key ≢ [] → not (is_empty key) ≡ true
test_from_bytes [] some = absurd (some refl)
test_from_bytes (byte ∷ bytes) some = refl

-- where none is found the parts fit
pub fits_from_none : (parts : Parts) → None ≡ least_misfit parts → Fits parts
fits_from_none parts e =
    let all = all_fit (fittings parts) (sym e) in
    record {
      transfer = (is_known_syntax_decides parts.transfer).0 all.0;
      class = (is_image_class_decides parts.class).0 all.1.0;
      study_date = some_bytes parts.study.date all.1.1.0;
      study_time = some_bytes parts.study.time all.1.1.1.0;
      modality = some_bytes parts.series.modality all.1.1.1.1.0;
      patient_id = some_bytes parts.patient.id all.1.1.1.1.1.0;
      study_id = some_bytes parts.study.id all.1.1.1.1.1.1.0;
      series_number = some_bytes parts.series.number all.1.1.1.1.1.1.1.0;
      instance_number = some_bytes parts.number all.1.1.1.1.1.1.1.1.0;
    }

-- where the parts fit none is found
pub none_from_fits : (parts : Parts) → Fits parts → least_misfit parts ≡ None
none_from_fits parts fits =
    none_of (fittings parts) (
      (is_known_syntax_decides parts.transfer).1 fits.transfer,
      (
        (is_image_class_decides parts.class).1 fits.class,
        (
          test_from_bytes parts.study.date fits.study_date,
          (
            test_from_bytes parts.study.time fits.study_time,
            (
              test_from_bytes parts.series.modality fits.modality,
              (
                test_from_bytes parts.patient.id fits.patient_id,
                (
                  test_from_bytes parts.study.id fits.study_id,
                  (
                    test_from_bytes parts.series.number fits.series_number,
                    (
                      test_from_bytes parts.number fits.instance_number,
                      tt,
                    ),
                  ),
                ),
              ),
            ),
          ),
        ),
      ),
    )

-- where one is found the parts do not fit
pub misfit_from_found : (parts : Parts) (tag : Tag) → Some tag ≡ least_misfit parts → Fits parts → ⊥
misfit_from_found parts tag e fits = let none = none_from_fits parts fits in absurd (cc)
