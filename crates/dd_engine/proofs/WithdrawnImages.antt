-- The images that sets withdraw, by the first number of each UID among the withdrawals.
use Rattle.std.specs.Prelude.{◌≡◌, ℕ, suc, List, [], ◌∷◌, ◌++◌, map, Option, None, Some, option_map, if◌then◌else◌}
use Rattle.std.specs.List.{cons_option, zip}
use Rattle.std.proofs.Common.{refl, sym, ◌∙◌, ap, ap₂}
use Rattle.std.proofs.lemmas.List.{append-nil, map-append}
use Rattle.std.proofs.lemmas.List.Elements.{filter_map-append}
use Rattle.dd_catalogue.specs.Conflicts.{same}
use Rattle.dd_catalogue.specs.Rising.{by_test}
use Rattle.dd_version.specs.declared.parts.Parts.{Parts}
use Rattle.dd_engine.specs.declared.gathering.Gathered.{Gathered}
use Rattle.dd_engine.specs.declared.merge.Pick.{Pick}
use Rattle.dd_engine.specs.declared.set_notes.WithdrawnImage.{WithdrawnImage}
use Rattle.dd_engine.specs.Mentions.{first_number}
use Rattle.dd_engine.specs.Merging.{SetListing, filed_in, pick_view}
use Rattle.dd_engine.specs.MergeSteps.{GathersOf, Withdrawal, withdrawals_from, withdrawals_in}
use Rattle.dd_engine.specs.SetNotes.{AreWithdrawn, WithdrawnAs, is_among, withdrawing, withdrawing_from}
use Rattle.dd_engine.specs.SetNotes.{withdrawn_among, withdrawn_as}
use Rattle.dd_engine.proofs.ImagePicks.{twice}
use Rattle.dd_engine.proofs.RecordsNoted.{filed_is}

-- ---- the first set that withdraws a UID

-- a UID among some that have one number, and others after them
pub in_row : (number : Option ℕ) (uids : List (List ℕ)) (rest : List Withdrawal) (uid : List ℕ)
    → first_number (map (λ one. (number, one)) uids ++ rest) uid
    ≡ (if is_among uids uid then number else first_number rest uid)
in_row number [] rest uid = refl
in_row number (one ∷ uids) rest uid = by_test (same one uid)
    (λ e. rw e refl)
    (λ e. rw e (in_row number uids rest uid))

of_sets : (at : ℕ) (listings : List SetListing) (uid : List ℕ)
    → first_number (withdrawals_from at listings) uid ≡ withdrawing_from at listings uid
of_sets at [] uid = refl
of_sets at (listing ∷ listings) uid =
    in_row (Some at) listing.withdrawn (withdrawals_from (suc at) listings) uid
    ∙ ap (λ (other : Option ℕ). if is_among listing.withdrawn uid then Some at else other)
    (of_sets (suc at) listings uid)

of_withdrawals : (given : List (List ℕ)) (listings : List SetListing) (uid : List ℕ)
    → first_number (withdrawals_in given listings) uid ≡ withdrawing given listings uid
of_withdrawals given listings uid =
    in_row None given (withdrawals_from 0 listings) uid
    ∙ ap (λ (other : Option ℕ). if is_among given uid then None else other) (of_sets 0 listings uid)

zipped : (uids : List Withdrawal) → zip (map (λ uid. uid.0) uids) (map (λ uid. uid.1) uids) ≡ uids
zipped [] = refl
zipped (uid ∷ uids) = ap (λ l. uid ∷ l) (zipped uids)

-- ---- notes on files, where `by` gives the set that withdraws a UID

module _ {T : Type 0} (by : List ℕ → Option ℕ) where
  abbrev pub says : WithdrawnImage T → WithdrawnAs T
  says note = (note.file, note.by, note.instance)

  -- a file more of an instance that no set withdraws
  pub none_more : (done : List (T × Parts)) (next : T × Parts) → by next.1.instance ≡ None
      → withdrawn_among by done ≡ withdrawn_among by (done ++ next ∷ [])
  none_more done next none =
      let here : withdrawn_among by (next ∷ []) ≡ [] = rw none refl in
      sym (filter_map-append (withdrawn_as by) done (next ∷ []) ∙ ap (λ l. withdrawn_among by done ++ l) here
      ∙ append-nil (withdrawn_among by done))

  -- and of one that a set withdraws
  pub one_more : (done : List (T × Parts)) (next : T × Parts) (notes : List (WithdrawnImage T))
      (note : WithdrawnImage T) → by next.1.instance ≡ Some note.by → note.file ≡ next.0
      → note.instance ≡ next.1.instance
      → map (λ note. (note.file, note.by, note.instance)) notes ≡ withdrawn_among by done
      → map (λ note. (note.file, note.by, note.instance)) (notes ++ note ∷ [])
      ≡ withdrawn_among by (done ++ next ∷ [])
  one_more done next notes note set file instance was =
      let new : WithdrawnAs T = (next.0, note.by, next.1.instance) in
      let here : withdrawn_among by (next ∷ []) ≡ new ∷ [] = rw set refl in
      let is : says note ≡ new = λ j. (file j, note.by, instance j) in
      map-append says notes (note ∷ [])
      ∙ ap (λ l. l ++ says note ∷ []) was
      ∙ ap (λ n. withdrawn_among by done ++ n ∷ []) is
      ∙ ap (λ l. withdrawn_among by done ++ l) (sym here)
      ∙ sym (filter_map-append (withdrawn_as by) done (next ∷ []))

-- ---- notes on all images

by_alike : {T : Type 0} (f g : List ℕ → Option ℕ) → ((uid : List ℕ) → f uid ≡ g uid) → (files : List (T × Parts))
    → withdrawn_among f files ≡ withdrawn_among g files
by_alike f g alike [] = refl
by_alike {T} f g alike (file ∷ files) =
    ap₂ (λ (o : Option (WithdrawnAs T)) l. cons_option o l)
    (ap (option_map (λ set. (file.0, set, file.1.instance))) (alike file.1.instance))
    (by_alike f g alike files)

-- the same where each place is mapped
of_place : {T U : Type 0} (place : T → U) (file : T) (uid : List ℕ) (o : Option ℕ) (l : List (WithdrawnAs T))
    → map {B = WithdrawnAs U} (λ image. (place image.0, image.1, image.2))
    (cons_option (option_map (λ set. (file, set, uid)) o) l)
    ≡ cons_option (option_map (λ set. (place file, set, uid)) o)
    (map (λ image. (place image.0, image.1, image.2)) l)
of_place place file uid None l = refl
of_place place file uid (Some set) l = refl

of_places : {T U : Type 0} (place : T → U) (by : List ℕ → Option ℕ) (files : List (T × Parts))
    → map {B = WithdrawnAs U} (λ image. (place image.0, image.1, image.2)) (withdrawn_among by files)
    ≡ withdrawn_among by (map (λ file. (place file.0, file.1)) files)
of_places place by [] = refl
of_places {U} place by (file ∷ files) =
    of_place place file.0 file.1.instance (by file.1.instance) (withdrawn_among by files)
    ∙ ap (λ (l : List (WithdrawnAs U)). cons_option (withdrawn_as by (place file.0, file.1)) l)
    (of_places place by files)

pub are_withdrawn : (given : List (List ℕ)) (listings : List SetListing) (gathered : Gathered)
    (by : List ℕ → Option ℕ) (files : List (Pick × Parts)) (notes : List (WithdrawnImage Pick))
    → GathersOf given listings gathered
    → ((uid : List ℕ) → by uid ≡ first_number (zip gathered.by.items gathered.withdrawn.items) uid)
    → files ≡ zip gathered.origins.items gathered.versions.items
    → map (λ note. (note.file, note.by, note.instance)) notes ≡ withdrawn_among by files
    → AreWithdrawn given listings notes
are_withdrawn given listings gathered by files notes held first are is =
    let pairs : zip gathered.by.items gathered.withdrawn.items ≡ withdrawals_in given listings =
    ap₂ (λ (a : List (Option ℕ)) (b : List (List ℕ)). zip a b) held.by held.withdrawn
    ∙ zipped (withdrawals_in given listings) in
    let told : WithdrawnAs Pick → WithdrawnAs (ℕ × List ℕ) = λ image. (pick_view image.0, image.1, image.2) in
    sym (twice told (λ (note : WithdrawnImage Pick). (note.file, note.by, note.instance)) notes)
    ∙ ap (map told) is
    ∙ ap (map told) (by_alike by (withdrawing given listings)
    (λ uid. first uid ∙ ap (λ (l : List Withdrawal). first_number l uid) pairs ∙ of_withdrawals given listings uid)
    files)
    ∙ of_places (λ pick. pick_view pick) (withdrawing given listings) files
    ∙ ap (λ (l : List (Pick × Parts)). withdrawn_among (withdrawing given listings)
    (map (λ file. (pick_view file.0, file.1)) l)) are
    ∙ ap (withdrawn_among (withdrawing given listings))
    (filed_is listings gathered.versions.items gathered.origins.items
    (record { versions = held.versions; origins = held.origins }))

-- where nothing is withdrawn, nothing is noted
none_by : {T : Type 0} (files : List (T × Parts)) → [] ≡ withdrawn_among (λ _. None) files
none_by [] = refl
none_by (file ∷ files) = none_by files

pub none_withdrawn : (given : List (List ℕ)) (listings : List SetListing) (gathered : Gathered)
    → GathersOf given listings gathered → gathered.withdrawn.items ≡ [] → AreWithdrawn given listings []
none_withdrawn given listings gathered held none =
    let no_pairs : withdrawals_in given listings ≡ [] =
    no_uids (withdrawals_in given listings) (sym held.withdrawn ∙ none) in
    none_by (filed_in listings)
    ∙ by_alike (λ _. None) (withdrawing given listings)
    (λ uid. ap (λ (l : List Withdrawal). first_number l uid) (sym no_pairs) ∙ of_withdrawals given listings uid)
    (filed_in listings)
  where
    no_uids : (uids : List Withdrawal) → map (λ uid. uid.1) uids ≡ [] → uids ≡ []
    no_uids [] is = refl
    no_uids (uid ∷ uids) is = absurd (cc is)
