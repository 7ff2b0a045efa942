-- What is said of files that wait, as a batch takes them, and as they are digested.
use Rattle.std.proofs.Common.{◌≡◌, ◌∙◌, ℕ, zero, suc, Bool, true, false, List, [], ◌∷◌, ◌++◌, ◌+◌, ◌<◌, ◌≤◌, length}
use Rattle.std.proofs.Common.{take}
use Rattle.std.proofs.Common.{None, Option, Some, Result, Ok, Err, get_or, length-take-le, refl, sym}
use Rattle.std.proofs.Common.{ap, subst, append_assoc, append-nil, arith}
use Rattle.std.proofs.lemmas.List.{get_or-take, take-append-le, take_all}
use Rattle.std.proofs.lemmas.Grind.{flat_map-append}
use Rattle.std.specs.Prelude.{◌≢◌, ◌||◌, not, IfOk, IsErr}
use Rattle.std.specs.List.{concat, flat_map}
use Rattle.std.specs.Option.{option_or}
use Rattle.dd_report.specs.Finding.{compared}
use Rattle.sha2.specs.Sha256.{sha256}
use Rattle.sha2.specs.declared.Sha256.{Sha256}
use Rattle.dd_elem.specs.declared.device.Write.{Ghosts as WriteOf}
use Rattle.dd_elem.proofs.Known.{appends_none}
use Rattle.dd_slots.specs.Slots.{HasTaken, IsSlotOf, lane_count}
use Rattle.dd_slots.specs.declared.digests.Lanes.{Lanes}
use Rattle.dd_slots.specs.declared.digests.Lanes.TheVariants.{Four, Eight}
use Rattle.dd_slots.specs.declared.slot.Slot.{Slot}
use Rattle.dd_version.specs.Fitting.{is_empty}
use Rattle.dd_report.specs.Batches.{Adds, AllKept, CanSettle, Closes, Grows, IsReady, KeepsPending, Report, by_recorded}
use Rattle.dd_report.specs.Batches.{digest_line, files_of}
use Rattle.dd_report.specs.Batches.{pending_files, pending_line, pending_text, report_of}
use Rattle.serde_json.specs.Written.{compact_text}
use Rattle.dd_json.specs.declared.value.Style.{Style}
use Rattle.dd_json.specs.declared.value.Style.TheVariants.{Text, Json}
use Rattle.dd_report.specs.Checking.{file_line, finding_parts}
use Rattle.dd_report.specs.FindingJson.{finding_json}
use Rattle.dd_lines.specs.Telling.{Fails, GoesOn, Tells, Way, shown, way, way_of}
use Rattle.dd_lines.specs.Text.{FailsAmid}
use Rattle.dd_report.specs.declared.batch.Batch.{Batch}
use Rattle.dd_report.specs.declared.batch.Named.{Named}
use Rattle.dd_report.specs.declared.findings.Expected.{Expected}
use Rattle.dd_report.specs.declared.findings.Finding.{Finding}
use Rattle.dd_report.specs.declared.batch.PendingFile.{PendingFile}
use Rattle.dd_report.specs.declared.checking.ReportFault.{ReportFault}
use Rattle.dd_report.specs.declared.checking.ReportFault.TheVariants.{Memory, Unsent}
use Rattle.dd_lines.specs.declared.line_buffer.LineBuffer.{LineBuffer}
use Rattle.dd_lines.proofs.GoingOn.{fails_front, fails_next, goes_none, goes_then, one_more}

-- ---- whether anything is said

pub either : (one two : List ℕ) → not (is_empty (one ++ two)) ≡ (not (is_empty one) || not (is_empty two))
either [] two = refl
either (byte ∷ one) two = refl

pub or_comm : (a b : Bool) → (a || b) ≡ (b || a)
or_comm true true = refl
or_comm true false = refl
or_comm false true = refl
or_comm false false = refl

pub or_false : (b : Bool) → (b || false) ≡ b
or_false true = refl
or_false false = refl

or_true : (b : Bool) → (b || true) ≡ true
or_true true = refl
or_true false = refl

or_assoc : (a b c : Bool) → ((a || b) || c) ≡ (a || (b || c))
or_assoc true b c = refl
or_assoc false b c = refl

-- ---- texts that go into a report

pub grows_none : (w : Report) → Grows [] w w
grows_none w = record { goes = goes_none w.course; found = sym (or_false w.found) }

pub grows_then : (one two : List ℕ) (a b c : Report) → Grows one a b → Grows two b c → Grows (one ++ two) a c
grows_then one two a b c first second = record {
  goes = goes_then one two a.course b.course c.course first.goes second.goes;
  found = second.found ∙ ap (λ (x : Bool). x || not (is_empty two)) first.found
      ∙ or_assoc a.found (not (is_empty one)) (not (is_empty two))
      ∙ ap (λ (x : Bool). a.found || x) (sym (either one two));
}

pub adds_then : {T E : Type 0} (r : Result T E) (one two : List ℕ) (a b c : Report) → Grows one a b → Adds r two b c
    → Adds r (one ++ two) a c
adds_then (Ok done) one two a b c first second = grows_then one two a b c first second
adds_then (Err fault) one two a b c first second =
    fails_next one two a.course b.course c.course first.goes second

pub adds_all : {T E : Type 0} (r : Result T E) (text : List ℕ) (a b c : Report) → Grows text a b → Adds r [] b c
    → Adds r text a c
adds_all r text a b c first second =
    subst (λ (all : List ℕ). Adds r all a c) (append-nil text) (adds_then r text [] a b c first second)

-- ---- files of a batch

abbrev seven : Batch → List PendingFile
seven batch =
    batch.first ∷ batch.second ∷ batch.third ∷ batch.fourth ∷ batch.fifth ∷ batch.sixth ∷ batch.seventh ∷ []

seven_same : (old new : Batch) → KeepsPending old new → seven new ≡ seven old
seven_same old new h = cc

-- fewer than eight files wait
pub pending_same : (old new : Batch) → old.used < 8 → KeepsPending old new → pending_files new ≡ pending_files old
pending_same old new room h =
    let here : old.used ≤ length (seven new) = omega (arith, room) in
    let there : old.used ≤ length (seven old) = omega (arith, room) in
    ap (λ (n : ℕ). take n (files_of new)) h.used
    ∙ take-append-le old.used (seven new) (new.next ∷ []) here
    ∙ ap (λ (xs : List PendingFile). take old.used xs) (seven_same old new h)
    ∙ sym (take-append-le old.used (seven old) (old.next ∷ []) there)

pub ready_same : (old new : Batch) → IsReady old → KeepsPending old new → IsReady new
ready_same old new ready h = (
  subst (λ (n : ℕ). n < 8) (sym h.used) ready.0,
  subst (λ (xs : List PendingFile). AllKept xs) (sym (pending_same old new ready.0 h)) ready.1,
)

abbrev report_at : List ℕ → Option (List ℕ) → ℕ → Bool → List ℕ → Report
report_at waiting holds failures found text = record {
  course = way (waiting ++ text) holds failures;
  found = found || not (is_empty text);
}

pub report_same : {W : Type 0} (writer : WriteOf W) (lines : LineBuffer W) (old new : Batch) → old.used < 8
    → KeepsPending old new → report_of writer lines new ≡ report_of writer lines old
report_same writer lines old new room h =
    let holds = writer.contents lines.to.now in
    let failures = writer.failures lines.to.now in
    ap (λ (xs : List PendingFile). report_at lines.waiting holds failures new.found (flat_map pending_line xs))
    (pending_same old new room h)
    ∙ ap (λ (b : Bool). report_at lines.waiting holds failures b (pending_text old)) h.found

kept_more : (files : List PendingFile) (one : PendingFile) → AllKept files → one.slot.hasher ≡ None
    → AllKept (files ++ one ∷ [])
kept_more [] one kept here = (here, tt)
kept_more (file ∷ files) one kept here = (kept.0, kept_more files one kept.1 here)

pub at_most_eight : (lanes : Lanes) → lane_count lanes ≤ 8
at_most_eight Four = omega arith
at_most_eight Eight = omega arith

-- one more waits
pub settles_more : (old new : Batch) (one : PendingFile) → IsReady old → one.slot.hasher ≡ None
    → new.used ≡ old.used + 1
    → pending_files new ≡ pending_files old ++ one ∷ [] → CanSettle new
settles_more old new one ready kept count files = (
  omega (arith, count, ready.0),
  subst (λ (xs : List PendingFile). AllKept xs) (sym files) (kept_more (pending_files old) one ready.1 kept),
)

pending_more : (old new : Batch) (one : PendingFile) → pending_files new ≡ pending_files old ++ one ∷ []
    → pending_text new ≡ pending_text old ++ pending_line one
pending_more old new one files =
    ap (λ (xs : List PendingFile). flat_map pending_line xs) files
    ∙ flat_map-append pending_line (pending_files old) (one ∷ [])
    ∙ ap (λ (ys : List ℕ). pending_text old ++ ys) (append-nil (pending_line one))

pub line_waits : {W : Type 0} (writer : WriteOf W) (lines : LineBuffer W) (old new : Batch) (one : PendingFile)
    → pending_files new ≡ pending_files old ++ one ∷ [] → new.found ≡ old.found
    → Grows (pending_line one) (report_of writer lines old) (report_of writer lines new)
line_waits writer lines old new one files found =
    let line = pending_line one in
    let all = pending_more old new one files in
    record {
      goes = record {
        gone = [];
        parts = append_assoc lines.waiting (pending_text old) line
            ∙ ap (λ (text : List ℕ). lines.waiting ++ text) (sym all);
        took = (refl, appends_none (writer.contents lines.to.now));
      };
      found = ap (λ (b : Bool). b || not (is_empty (pending_text new))) found
          ∙ ap (λ (text : List ℕ). old.found || not (is_empty text)) all
          ∙ ap (λ (b : Bool). old.found || b) (either (pending_text old) line)
          ∙ sym (or_assoc old.found (not (is_empty (pending_text old))) (not (is_empty line)));
    }

-- ---- no file waits

none_waits : (batch : Batch) → batch.used ≡ 0 → pending_text batch ≡ []
none_waits batch none = ap (λ (n : ℕ). flat_map pending_line (take n (files_of batch))) none

pub none_ready : (batch : Batch) → batch.used ≡ 0 → IsReady batch
none_ready batch none = (
  omega (arith, none),
  subst (λ (n : ℕ). AllKept (take n (files_of batch))) (sym none) tt,
)

pub course_of_none : {W : Type 0} (writer : WriteOf W) (lines : LineBuffer W) (batch : Batch) → batch.used ≡ 0
    → (report_of writer lines batch).course ≡ way_of writer lines
course_of_none writer lines batch none =
    let holds = writer.contents lines.to.now in
    let failures = writer.failures lines.to.now in
    ap (λ (text : List ℕ). way (lines.waiting ++ text) holds failures) (none_waits batch none)
    ∙ ap (λ (text : List ℕ). way text holds failures) (append-nil lines.waiting)

pub found_of_none : {W : Type 0} (writer : WriteOf W) (lines : LineBuffer W) (batch : Batch) → batch.used ≡ 0
    → (report_of writer lines batch).found ≡ batch.found
found_of_none writer lines batch none =
    ap (λ (text : List ℕ). batch.found || not (is_empty text)) (none_waits batch none) ∙ or_false batch.found

-- ---- what is found of files that wait is said

pub settle_grows : {W : Type 0} (writer : WriteOf W) (before after : LineBuffer W) (old new : Batch)
    → GoesOn (pending_text old) (way_of writer before) (way_of writer after) → new.used ≡ 0
    → new.found ≡ (old.found || not (is_empty (pending_text old)))
    → Grows [] (report_of writer before old) (report_of writer after new)
settle_grows writer before after old new goes none found =
    let text = pending_text old in
    let waits = none_waits new none in
    record {
      goes = record {
        gone = goes.gone;
        parts = append-nil (before.waiting ++ text) ∙ goes.parts
            ∙ ap (λ (xs : List ℕ). goes.gone ++ xs)
            (sym (append-nil after.waiting) ∙ ap (λ (xs : List ℕ). after.waiting ++ xs) (sym waits));
        took = goes.took;
      };
      found = ap (λ (xs : List ℕ). new.found || not (is_empty xs)) waits ∙ ap (λ (b : Bool). b || false) found;
    }

pub settle_fails : {W : Type 0} (writer : WriteOf W) (before after : LineBuffer W) (old new : Batch)
    → Fails (pending_text old) (way_of writer before) (way_of writer after)
    → Fails [] (report_of writer before old).course (report_of writer after new).course
settle_fails writer before after old new failed =
    subst (λ (xs : List ℕ). FailsAmid (writer.contents before.to.now) (writer.contents after.to.now)
    (writer.failures before.to.now) (writer.failures after.to.now) xs)
    (sym (append-nil (before.waiting ++ pending_text old))) failed

-- and then a finding that needs no digest
pub known_told : {W T E : Type 0} (writer : WriteOf W) (r : Result T E) (line : List ℕ) (before after : LineBuffer W)
    (start : Report) (old new : Batch) → Grows [] start (report_of writer before old) → old.used ≡ 0 → new.used ≡ 0
    → new.found ≡ true → true ≡ not (is_empty line) → Tells r line (way_of writer before) (way_of writer after)
    → Adds r line start (report_of writer after new)
known_told writer (Ok done) line before after start old new first none still found some goes = record {
  goes = goes_then [] line start.course (report_of writer before old).course (report_of writer after new).course
      first.goes
      (subst (λ (w : Way). GoesOn line w (report_of writer after new).course)
      (sym (course_of_none writer before old none))
      (subst (λ (w : Way). GoesOn line (way_of writer before) w) (sym (course_of_none writer after new still)) goes));
  found = found_of_none writer after new still ∙ found ∙ sym (or_true start.found)
      ∙ ap (λ (b : Bool). start.found || b) some;
}
known_told writer (Err fault) line before after start old new first none still found some failed =
    fails_next [] line start.course (report_of writer before old).course (report_of writer after new).course first.goes
    (subst (λ (w : Way). Fails line w (report_of writer after new).course) (sym (course_of_none writer before old none))
    (subst (λ (w : Way). Fails line (way_of writer before) w) (sym (course_of_none writer after new still)) failed))

-- ---- digests of files that wait

abbrev pub AreDigests : List PendingFile → List (List ℕ) → Type 0
AreDigests [] digests = Unit {0}
AreDigests (one ∷ files) [] = ⊥
AreDigests (one ∷ files) (digest ∷ digests) =
    ((bytes : List ℕ) → IsSlotOf one.slot bytes → digest ≡ sha256 bytes) × AreDigests files digests

keeps_own : (slot : Slot) → slot.hasher ≡ None → IsSlotOf slot slot.kept.items
keeps_own slot none =
    subst (λ (hasher : Option Sha256). HasTaken hasher slot.kept.items slot.kept.items) (sym none) refl

pub right_at : (files : List PendingFile) (digests : List (List ℕ)) (used at : ℕ) (other : PendingFile)
    → AreDigests files digests → AllKept (take used files) → at < used → at < length files
    → get_or digests at [] ≡ sha256 (get_or files at other).slot.kept.items
right_at [] digests used at other h kept below within = absurd (omega (arith, within))
right_at (one ∷ files) [] used at other h kept below within = absurd h
right_at (one ∷ files) (digest ∷ digests) zero at other h kept below within = absurd (omega (arith, below))
right_at (one ∷ files) (digest ∷ digests) (suc used) zero other h kept below within =
    h.0 one.slot.kept.items (keeps_own one.slot kept.0)
right_at (one ∷ files) (digest ∷ digests) (suc used) (suc at) other h kept below within =
    right_at files digests used at other h.1 kept.1 (omega (arith, below)) (omega (arith, within))

-- the line of the next one
pub piece_is : (batch : Batch) (digests : List (List ℕ)) (at : ℕ) (one : PendingFile) (digest : List ℕ)
    → AreDigests (files_of batch) digests → CanSettle batch → at < batch.used
    → one ≡ get_or (files_of batch) at one → digest ≡ get_or digests at []
    → digest_line one.named one.expected digest ≡ pending_line (get_or (pending_files batch) at one)
piece_is batch digests at one digest h can below is has =
    let within : at < length (files_of batch) = omega (arith, below, can.0) in
    let right : digest ≡ sha256 one.slot.kept.items =
    has ∙ right_at (files_of batch) digests batch.used at one h can.1 below within
    ∙ ap (λ (file : PendingFile). sha256 file.slot.kept.items) (sym is) in
    ap (λ (d : List ℕ). digest_line one.named one.expected d) right
    ∙ ap pending_line (is ∙ sym (get_or-take batch.used (files_of batch) at one below))

pub pending_count : (batch : Batch) → CanSettle batch → length (pending_files batch) ≡ batch.used
pending_count batch can =
    let within : batch.used ≤ length (files_of batch) = omega (arith, can.0) in
    length-take-le batch.used (files_of batch) within

-- whether one more says anything
pub found_more : (files : List PendingFile) (i : ℕ) (one : PendingFile) (piece : List ℕ) (start some here found : Bool)
    → i < length files → piece ≡ pending_line (get_or files i one)
    → some ≡ (start || not (is_empty (flat_map pending_line (take i files)))) → here ≡ not (is_empty piece)
    → found ≡ (here || some) → found ≡ (start || not (is_empty (flat_map pending_line (take (i + 1) files))))
found_more files i one piece start some here found within is first next both =
    let front = flat_map pending_line (take i files) in
    both ∙ or_comm here some ∙ ap (λ (b : Bool). b || here) first
    ∙ ap (λ (b : Bool). (start || not (is_empty front)) || b) next
    ∙ or_assoc start (not (is_empty front)) (not (is_empty piece))
    ∙ ap (λ (b : Bool). start || b) (sym (either front piece))
    ∙ ap (λ (line : List ℕ). start || not (is_empty (front ++ line))) is
    ∙ ap (λ (text : List ℕ). start || not (is_empty text)) (sym (one_more pending_line files i one within))

pub found_all : (files : List PendingFile) (i : ℕ) (start found : Bool) → length files ≤ i
    → found ≡ (start || not (is_empty (flat_map pending_line (take i files))))
    → found ≡ (start || not (is_empty (flat_map pending_line files)))
found_all files i start found past so_far =
    so_far ∙ ap (λ (xs : List PendingFile). start || not (is_empty (flat_map pending_line xs))) (take_all i files past)

pub not_empty : (text : List ℕ) → true ≡ not (is_empty (text ++ 10 ∷ []))
not_empty [] = refl
not_empty (byte ∷ text) = refl

-- a line of a finding is not empty
pub some_line : (style : Style) (at : ℕ) (file : List ℕ) (finding : Finding)
    → true ≡ not (is_empty (file_line style at file (Some finding)))
some_line Text at file finding = not_empty (shown (concat (finding_parts at file finding)))
some_line Json at file finding = not_empty (compact_text (finding_json at file finding))

-- the line of one file
module _ (named : Named) (expected : Expected) (digest : List ℕ) (judged : Option Finding)
    (is : judged ≡ by_recorded expected digest) where
  pub none_goes_on : (w : Way) → judged ≡ None → GoesOn (digest_line named expected digest) w w
  none_goes_on w none =
      subst (λ (found : Option Finding). GoesOn (file_line named.style named.at named.file.now found) w w)
      (sym none ∙ is)
      (goes_none w)

  pub none_says : judged ≡ None → false ≡ not (is_empty (digest_line named expected digest))
  none_says none =
      ap (λ (found : Option Finding). not (is_empty (file_line named.style named.at named.file.now found)))
      (sym none ∙ is)

  pub finding_goes : (finding : Finding) → judged ≡ Some finding
      → file_line named.style named.at named.file.now (Some finding) ≡ digest_line named expected digest
  finding_goes finding some =
      ap (λ (found : Option Finding). file_line named.style named.at named.file.now found) (sym some ∙ is)

  pub finding_says : (finding : Finding) → judged ≡ Some finding
      → true ≡ not (is_empty (digest_line named expected digest))
  finding_says finding some =
      some_line named.style named.at named.file.now finding
      ∙ ap (λ (text : List ℕ). not (is_empty text)) (finding_goes finding some)

-- whether its record has another digest, or this is found otherwise
pub differs_found : (expected : Expected) (digest : List ℕ) (differs : Option Finding) (finding : Finding)
    → differs ≡ compared (Some expected.recorded) digest → differs ≡ Some finding
    → Some finding ≡ by_recorded expected digest
differs_found expected digest differs finding is some =
    ap (λ (o : Option Finding). option_or o expected.otherwise) (sym some ∙ is)

pub otherwise_found : (expected : Expected) (digest : List ℕ) (differs otherwise : Option Finding)
    → differs ≡ compared (Some expected.recorded) digest → differs ≡ None → expected.otherwise ≡ otherwise
    → otherwise ≡ by_recorded expected digest
otherwise_found expected digest differs otherwise compares agrees same =
    sym same ∙ ap (λ (o : Option Finding). option_or o expected.otherwise) (sym agrees ∙ compares)

pub said_found : {E : Type 0} (r : Result Bool E) (text : List ℕ) → IfOk r (λ found. found ≡ true)
    → true ≡ not (is_empty text) → IfOk r (λ found. found ≡ not (is_empty text))
said_found (Ok found) text is some = is ∙ some
said_found (Err fault) text is some = tt

-- ---- the next slot alone is other

keeps_next : (batch : Batch) (next : PendingFile) → KeepsPending batch (record batch { next = next })
keeps_next batch next = record {
  first = refl;
  second = refl;
  third = refl;
  fourth = refl;
  fifth = refl;
  sixth = refl;
  seventh = refl;
  used = refl;
  found = refl;
}

pub other_settles : (batch : Batch) (next : PendingFile) → IsReady batch → CanSettle (record batch { next = next })
other_settles batch next ready =
    let still = ready_same batch (record batch { next = next }) ready (keeps_next batch next) in
    (omega (arith, still.0), still.1)

pub other_adds : {W T E : Type 0} (writer : WriteOf W) (r : Result T E) (before after : LineBuffer W)
    (batch new : Batch)
    (next : PendingFile) (text : List ℕ) → IsReady batch
    → Adds r text (report_of writer before (record batch { next = next })) (report_of writer after new)
    → Adds r text (report_of writer before batch) (report_of writer after new)
other_adds writer r before after batch new next text ready adds =
    subst (λ (start : Report). Adds r text start (report_of writer after new))
    (report_same writer before batch (record batch { next = next }) ready.0 (keeps_next batch next)) adds

-- the next file waits now
pub next_settles : (batch new : Batch) (next : PendingFile) → IsReady batch → next.slot.hasher ≡ None
    → new.used ≡ batch.used + 1 → pending_files new ≡ pending_files (record batch { next = next }) ++ next ∷ []
    → CanSettle new
next_settles batch new next ready kept count files =
    settles_more (record batch { next = next }) new next
    (ready_same batch (record batch { next = next }) ready (keeps_next batch next)) kept count files

pub next_waits : {W : Type 0} (writer : WriteOf W) (lines : LineBuffer W) (batch new : Batch) (next : PendingFile)
    → IsReady batch → pending_files new ≡ pending_files (record batch { next = next }) ++ next ∷ []
    → new.found ≡ batch.found → Grows (pending_line next) (report_of writer lines batch) (report_of writer lines new)
next_waits writer lines batch new next ready files found =
    subst (λ (start : Report). Grows (pending_line next) start (report_of writer lines new))
    (report_same writer lines batch (record batch { next = next }) ready.0 (keeps_next batch next))
    (line_waits writer lines (record batch { next = next }) new next files found)

-- ---- the answer of a check, once the files that wait are spoken of

pub closes_unsent : {T : Type 0} (r : Result T ReportFault) (a : Report) (c : Way) → r ≡ Err Unsent
    → c.holds ≡ a.course.holds → c.failures ≡ a.course.failures → Closes r (Err Unsent) a c
closes_unsent r a c is holds failures =
    subst (λ (x : Result _ ReportFault). Closes x (Err Unsent) a c) (sym is) (holds, failures)

pub closes_failed : {T : Type 0} (r : Result T ReportFault) (a : Report) (c : Way) → r ≢ Err Unsent
    → Fails [] a.course c → Closes r (Err Unsent) a c
closes_failed (Ok done) a c not failed = failed
closes_failed (Err Memory) a c not failed = failed
closes_failed (Err Unsent) a c not failed = absurd (not refl)

pub closes_ok : {T : Type 0} (r : Result T ReportFault) (done : T) (found : Bool) (a b : Report) (c : Way) → r ≡ Ok done
    → Grows [] a b → b.course ≡ c → b.found ≡ found → Closes r (Ok found) a c
closes_ok r done found a b c is grows same some =
    subst (λ (x : Result _ ReportFault). Closes x (Ok found) a c) (sym is) (
      subst (λ (w : Way). GoesOn [] a.course w) same grows.goes,
      sym some ∙ grows.found ∙ or_false a.found,
    )

pub closes_err : {T : Type 0} (r : Result T ReportFault) (fault : ReportFault) (a b : Report) (c : Way) → r ≡ Err fault
    → r ≢ Err Unsent → Grows [] a b → b.course ≡ c → Closes r (Err fault) a c
closes_err r Memory a b c is not grows same =
    subst (λ (x : Result _ ReportFault). Closes x (Err Memory) a c) (sym is)
    (subst (λ (w : Way). GoesOn [] a.course w) same grows.goes)
closes_err r Unsent a b c is not grows same = absurd (not is)

-- the writer failed in what waited
pub adds_err : {T E : Type 0} (r : Result T E) (text : List ℕ) (a b : Report) → IsErr r → Fails [] a.course b.course
    → Adds r text a b
adds_err (Ok done) text a b is failed = absurd (cc)
adds_err (Err fault) text a b is failed = fails_front [] text a.course b.course failed
