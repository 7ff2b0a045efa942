-- The bytes that were counted of sources are those of their files.
use Rattle.std.proofs.Common.{◌≡◌, ◌∙◌, ◌<◌, ℕ, List, [], ◌∷◌, Bool, Option, None, Some, Result}
use Rattle.std.proofs.Common.{Ok, Err, true}
use Rattle.std.proofs.Common.{◌++◌, Global, String, ap, arith, get_or, length, refl, subst, sym, take}
use Rattle.std.proofs.lemmas.List.{take-append-le, take_all}
use Rattle.std.proofs.lemmas.List.Elements.{All-head, All-tail, All-weaker}
use Rattle.std.proofs.lemmas.List.Sums.{sum_by-cons}
use Rattle.std.proofs.lemmas.Option.{slice_get_within}
use Rattle.std.specs.Prelude.{All, IfOk, IfSome, IsSomeAnd, min, sum_by, unwrap_or}
use Rattle.dd_elem.specs.Device.{last_count}
use Rattle.dd_catalogue.specs.Harmony.{harmonised}
use Rattle.dd_engine.specs.Choosing.{label_for}
use Rattle.dd_keys.specs.Sources.{Answer, AnswersSource}
use Rattle.dd_sources.specs.Indexing.{accepted, best_of_sources}
use Rattle.dd_engine.specs.IndexNotes.{NotesIndex, NotesSupply}
use Rattle.dd_sources.specs.Readings.{IsReading, Reading, answers_of}
use Rattle.dd_engine.specs.PastFailures.{NotesPast}
use Rattle.dd_sources.specs.Supply.{HasGivenAll, IsAnswer}
use Rattle.dd_engine.specs.declared.choice.Choice.{Choice}
use Rattle.dd_engine.specs.declared.noted_index.NotedIndex.{NotedIndex}
use Rattle.dd_engine.specs.declared.past_failures.PastFailures.{PastFailures}
use Rattle.dd_sources.specs.declared.supply.Supply.{Ghosts as SupplyOf}
use Rattle.dd_files.specs.Files.{Held}
use Rattle.dd_layout.specs.Limits.{Limits}
use Rattle.dd_layout.specs.Plans.{records_of}
use Rattle.dd_line.specs.Line.{words_of}
use Rattle.dd_version.specs.declared.parts.Parts.{Parts}
use Rattle.dicomdir.proofs.BadNames.{answers_name, get_at, there_named}
use Rattle.dicomdir.proofs.PickedSources.{HasVersion, picks_have}
use Rattle.dicomdir.proofs.ReadSources.{AllCounted, AreAll, all_answers, all_past, answered, as_readings}
use Rattle.dicomdir.proofs.ShortFiles.{short_file}
use Rattle.dicomdir.specs.FileSupply.{IsThere, contents_by, counts_at}
use Rattle.dicomdir.specs.Indexes.{CountsPicks, limits_of, most_of_source}
use Rattle.dd_inputs.specs.ListedNames.{HavePaths}
use Rattle.dicomdir.specs.declared.source_counts.SourceCounts.{SourceCounts}

-- ---- sums

same_sum : (f g : ℕ → ℕ) (picks : List ℕ) → All (λ at. f at ≡ g at) picks → sum_by f picks ≡ sum_by g picks
same_sum f g [] all = refl
same_sum f g (at ∷ picks) all =
    let here : f at ≡ g at = All-head (λ (n : ℕ). f n ≡ g n) at picks all in
    let rest = same_sum f g picks (All-tail (λ (n : ℕ). f n ≡ g n) at picks all) in
    let one = sum_by-cons f at picks in
    let other = sum_by-cons g at picks in
    omega (arith, here, rest, one, other)

-- ---- one source

-- a file of a version has at most as many bytes as a source may have, so that all were counted
file_counted : (file : Option (List ℕ)) (version : Parts) (count : ℕ)
    → IsSomeAnd file (λ bytes. AnswersSource most_of_source bytes (Ok version))
    → HasGivenAll most_of_source file (Some count) → count ≡ length (unwrap_or file [])
file_counted None version count right given = absurd right
file_counted (Some bytes) version count right given =
    let short = short_file bytes version right in
    let is = given short in
    omega (arith, short, is)

module _ (sources : List (List ℕ)) (texts : List (String Global)) (bad : List ℕ) (held : Held)
    (have : HavePaths sources (words_of texts) bad) where
  counted_here : (at : ℕ) → at < length sources → (version : Parts) (count : ℕ)
      → IsAnswer most_of_source (contents_by (Some held) (words_of texts) at) (Ok version)
      → IsThere (Some held) (words_of texts) bad at
      → HasGivenAll most_of_source (contents_by (Some held) (words_of texts) at) (Some count)
      → count ≡ length (unwrap_or (held.bytes_at (get_or sources at [])) [])
  counted_here at within version count is there given =
      let inside : at < length (words_of texts) = omega (arith, within, have.count) in
      let same = there_named sources texts bad (Some held) have at within there in
      let answers = answers_name sources texts bad (Some held) have at within (Ok version) is there in
      file_counted (held.bytes_at (get_or sources at [])) version count answers.right
      (subst (λ (path : List ℕ). HasGivenAll most_of_source (held.bytes_at path) (Some count)) same
      (rw (get_at (words_of texts) at inside) at given))

  read_counted : (There : Type 0) (given : Option ℕ) (at : ℕ) → at < length sources → (version : Parts) (count : ℕ)
      (refusals refused unread failed : ℕ) → (There → IsThere (Some held) (words_of texts) bad at)
      → given ≡ Some count
      → IsReading most_of_source (contents_by (Some held) (words_of texts) at) There given at (Ok (Ok version)) refusals
      refused unread failed
      → count ≡ length (unwrap_or (held.bytes_at (get_or sources at [])) [])
  read_counted There given at within version count refusals refused unread failed stands is h =
      counted_here at within version count h.0 (stands h.3)
      (subst (λ (counted : Option ℕ).
      HasGivenAll most_of_source (contents_by (Some held) (words_of texts) at) counted) is h.4)

-- ---- all that are picked

pub picks_counted : (keeps_going : Bool) (sources : List (List ℕ)) (texts : List (String Global)) (bad : List ℕ)
    (old : Option Held) (given : ℕ → Option ℕ) (readings : List Reading) (counts : List SourceCounts) (picks : List ℕ)
    → AreAll keeps_going sources texts bad old given readings
    → ((at : ℕ) → given at ≡ Some (counts_at counts at).bytes) → All (HasVersion readings) picks
    → CountsPicks sources counts picks old
picks_counted keeps_going sources texts bad None given readings counts picks h same all = tt
picks_counted keeps_going sources texts bad (Some held) given readings counts picks h same all =
    ap (λ (n : ℕ). min n last_count)
    (same_sum (λ at. (counts_at counts at).bytes)
    (λ at. length (unwrap_or (held.bytes_at (get_or sources at [])) [])) picks
    (All-weaker (HasVersion readings)
    (λ at. (counts_at counts at).bytes ≡ length (unwrap_or (held.bytes_at (get_or sources at [])) [])) one picks all))
  where
    one : (at : ℕ) → HasVersion readings at
        → (counts_at counts at).bytes ≡ length (unwrap_or (held.bytes_at (get_or sources at [])) [])
    one at (version, is) =
        let within : at < length sources =
        omega (arith, slice_get_within readings at (Ok (Ok version)) is, h.many, h.have.count) in
        read_counted sources texts bad held h.have (h.There at) (given at) at within version (counts_at counts at).bytes
        (h.refusals at) (h.refused at) (h.unread at) (h.failed at) (h.stands at) (same at)
        (subst (λ (o : Option Reading). IfSome o (λ reading. IsReading most_of_source
        (contents_by (Some held) (words_of texts) at) (h.There at) (given at) at reading (h.refusals at) (h.refused at)
        (h.unread at) (h.failed at))) is (h.are.each at))

-- ---- the index

-- the sources that are picked have versions
indexed_have : (choice : Choice) (limits : Limits) (readings : List Reading) (noted : NotedIndex)
    → NotesIndex choice limits (answers_of readings) (Ok noted)
    → All (HasVersion readings) noted.indexed.picks.items
indexed_have choice limits readings noted h =
    let best = best_of_sources (accepted (answers_of readings)) in
    picks_have readings (harmonised best) (records_of (label_for choice best []) (harmonised best))
    noted.indexed.picks.items h.0.picks

module _ {S In : Type 0} (supply : SupplyOf S In) (keeps_going : Bool) (choice : Choice) (bytes : ℕ)
    (sources : List (List ℕ)) (texts : List (String Global)) (bad : List ℕ) (old : Option Held) (start end : S)
    (have : HavePaths sources (words_of texts) bad) (many : supply.sources start ≡ length (words_of texts))
    (same : supply.contents start ≡ contents_by old (words_of texts))
    (stands : (at : ℕ) → supply.is_there (supply.rest start) at → IsThere old (words_of texts) bad at)
    (counts : List SourceCounts) (given : (at : ℕ) → supply.given end at ≡ Some (counts_at counts at).bytes) where
  pub counts_past : {E : Type 0} (r : Result PastFailures E) → keeps_going ≡ true
      → IfOk r (λ past. NotesPast supply choice (limits_of bytes) most_of_source past start end)
      → IfOk r (λ past. CountsPicks sources counts past.noted.indexed.picks.items old)
  counts_past (Ok past) keeps h =
      picks_counted keeps_going sources texts bad old (supply.given end) h.0 counts past.noted.indexed.picks.items
      (all_past supply keeps_going sources texts bad old start end have many same stands h.0 keeps h.1) given
      (indexed_have choice (limits_of bytes) h.0 past.noted h.2)
  counts_past (Err noted) keeps h = tt

-- where it ends with the first source that fails
pub counts_whole : (keeps_going : Bool) (choice : Choice) (bytes : ℕ) (sources : List (List ℕ))
    (texts : List (String Global)) (bad : List ℕ) (old : Option Held) (counts : List SourceCounts) (count : ℕ)
    → HavePaths sources (words_of texts) bad → count ≡ length (words_of texts) → (noted : NotedIndex)
    → NotesSupply choice (limits_of bytes) most_of_source (contents_by old (words_of texts)) count (Ok noted)
    → AllCounted texts bad old (λ at. Some (counts_at counts at).bytes) count
    → CountsPicks sources counts noted.indexed.picks.items old
counts_whole keeps_going choice bytes sources texts bad old counts count have many noted h counted =
    let given : ℕ → Option ℕ = λ at. Some (counts_at counts at).bytes in
    picks_counted keeps_going sources texts bad old given (as_readings h.0) counts noted.indexed.picks.items
    (all_answers keeps_going sources texts bad old given count h.0 have many h.1 h.2 counted) (λ at. refl)
    (indexed_have choice (limits_of bytes) (as_readings h.0) noted
    (subst (λ (all : List Answer). NotesIndex choice (limits_of bytes) all (Ok noted)) (sym (answered h.0)) h.3))

-- the same of counts that are equal
pub same_counts : (sources : List (List ℕ)) (counts others : List SourceCounts) (picks : List ℕ) (old : Option Held)
    → counts ≡ others → CountsPicks sources others picks old → CountsPicks sources counts picks old
same_counts sources counts others picks old same h =
    subst (λ (one : List SourceCounts). CountsPicks sources one picks old) (sym same) h

pub same_past : {E : Type 0} (sources : List (List ℕ)) (counts others : List SourceCounts) (r : Result PastFailures E)
    (old : Option Held) → counts ≡ others
    → IfOk r (λ past. CountsPicks sources others past.noted.indexed.picks.items old)
    → IfOk r (λ past. CountsPicks sources counts past.noted.indexed.picks.items old)
same_past sources counts others (Ok past) old same h =
    same_counts sources counts others past.noted.indexed.picks.items old same h
same_past sources counts others (Err noted) old same h = tt

-- ---- a list that is written in place

pub take_first : {A : Type 0} (n : ℕ) (xs ys : List A) → n ≡ length xs → take n (xs ++ ys) ≡ xs
take_first n xs ys is = take-append-le n xs ys (omega (arith, is)) ∙ take_all n xs (omega (arith, is))
