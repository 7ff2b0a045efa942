-- The notes of a table, one more at a time.
use Rattle.std.proofs.Common.{◌≡◌, ◌∙◌, ℕ, List, [], ◌∷◌, ◌++◌, ◌+◌, ◌<◌, ◌≤◌, length, map, take, get_or}
use Rattle.std.proofs.Common.{sym, ap, ap₂, subst, append_assoc, append-nil}
use Rattle.std.proofs.lemmas.Grind.{flat_map-append}
use Rattle.std.proofs.lemmas.List.{map-append, take_all, take_more}
use Rattle.std.specs.List.{flat_map}
use Rattle.dd_engine.specs.declared.merge.Pick.{Pick}
use Rattle.dd_engine.specs.declared.notes.LeftOut.{LeftOut}
use Rattle.dd_engine.specs.declared.notes.Notes.{Notes}
use Rattle.dd_engine.specs.PatientNames.{NamedPatient}
use Rattle.dd_calls.specs.declared.texts.Texts.{Texts}
use Rattle.dd_calls.specs.Texts.{AreTexts, Puts}
use Rattle.dd_calls.proofs.Growing.{put_first, puts_none, puts_then}
use Rattle.dd_making.specs.Notes.{AddsNotes, AreNotesOf, left_out_row, left_out_texts, names_row, names_texts}
use Rattle.dd_making.specs.Notes.{note_rows, note_texts}
use Rattle.dd_making.specs.declared.note_rows.NoteRow.{NoteRow}
use Rattle.dd_making.specs.declared.note_rows.NoteTable.{NoteTable}

pub adds_none : (t : NoteTable) → AddsNotes [] [] t t
adds_none t = record { rows_are = sym (append-nil t.rows.items); texts_are = puts_none t.texts }

pub adds_then : (r s : List NoteRow) (v w : List (List ℕ)) (a b c : NoteTable) → AddsNotes r v a b → AddsNotes s w b c
    → AddsNotes (r ++ s) (v ++ w) a c
adds_then r s v w a b c one two = record {
  rows_are = two.rows_are ∙ ap (λ (xs : List NoteRow). xs ++ s) one.rows_are ∙ append_assoc a.rows.items r s;
  texts_are = puts_then v w a.texts b.texts c.texts one.texts_are two.texts_are;
}

-- ---- notes of one kind, each of which has a row and texts

module _ {T : Type 0} (row : T → NoteRow) (texts : T → List (List ℕ)) (notes : List T) where
  -- the first notes were added
  abbrev pub Went : ℕ → NoteTable → NoteTable → Type 0
  Went i old new = AddsNotes (map row (take i notes)) (flat_map texts (take i notes)) old new

  pub went_more : (i : ℕ) (d : T) (a b c : NoteTable) → i < length notes → d ≡ get_or notes i d → Went i a b
      → AddsNotes (row d ∷ []) (texts d) b c → Went (i + 1) a c
  went_more i d a b c below is so_far next =
      let front = take i notes in
      let more : take (i + 1) notes ≡ front ++ d ∷ [] =
      take_more notes i d below ∙ sym (ap (λ (n : T). front ++ n ∷ []) is) in
      let rows : map row front ++ row d ∷ [] ≡ map row (take (i + 1) notes) =
      sym (ap (λ (ns : List T). map row ns) more ∙ map-append row front (d ∷ [])) in
      let all : flat_map texts front ++ texts d ≡ flat_map texts (take (i + 1) notes) =
      sym (ap (λ (ns : List T). flat_map texts ns) more ∙ flat_map-append texts front (d ∷ [])
      ∙ ap (λ (ts : List (List ℕ)). flat_map texts front ++ ts) (append-nil (texts d))) in
      subst (λ (rs : List NoteRow). AddsNotes rs (flat_map texts (take (i + 1) notes)) a c) rows
      (subst (λ (ts : List (List ℕ)). AddsNotes (map row front ++ row d ∷ []) ts a c) all
      (adds_then (map row front) (row d ∷ []) (flat_map texts front) (texts d) a b c so_far next))

  pub went_all : (i : ℕ) (a b : NoteTable) → length notes ≤ i → Went i a b
      → AddsNotes (map row notes) (flat_map texts notes) a b
  went_all i a b past so_far =
      subst (λ (ns : List T). AddsNotes (map row ns) (flat_map texts ns) a b) (take_all i notes past) so_far

-- the texts of one more were put
pub put_more : (texts : List (List ℕ)) (i : ℕ) (d text : List ℕ) (a b c : Texts) → i < length texts
    → text ≡ get_or texts i d → Puts (take i texts) a b → Puts (text ∷ []) b c → Puts (take (i + 1) texts) a c
put_more texts i d text a b c below is so_far next =
    let more : take i texts ++ text ∷ [] ≡ take (i + 1) texts =
    ap (λ (t : List ℕ). take i texts ++ t ∷ []) is ∙ sym (take_more texts i d below) in
    subst (λ (ts : List (List ℕ)). Puts ts a c) more (puts_then (take i texts) (text ∷ []) a b c so_far next)

pub put_all : (texts : List (List ℕ)) (i : ℕ) (a b : Texts) → length texts ≤ i → Puts (take i texts) a b → Puts texts a b
put_all texts i a b past so_far = subst (λ (ts : List (List ℕ)). Puts ts a b) (take_all i texts past) so_far

-- notes that were added where there were none
pub all_notes : (notes : Notes Pick) (files : List (LeftOut Pick)) (patients : List NamedPatient) (a b c : NoteTable)
    → files ≡ notes.left_out.items → patients ≡ notes.names.items
    → a.rows.items ≡ [] → a.texts.text.items ≡ [] → a.texts.ends.items ≡ []
    → AddsNotes (map left_out_row files) (flat_map left_out_texts files) a b
    → AddsNotes (map names_row patients) (flat_map names_texts patients) b c → AreNotesOf notes c
all_notes notes files patients a b c files_are patients_are no_rows no_text no_ends one two =
    let rows = map left_out_row files ++ map names_row patients in
    let texts = flat_map left_out_texts files ++ flat_map names_texts patients in
    let both : AddsNotes rows texts a c =
    adds_then (map left_out_row files) (map names_row patients) (flat_map left_out_texts files)
    (flat_map names_texts patients) a b c one two in
    let as_rows : rows ≡ note_rows notes =
    ap₂ (λ (fs : List (LeftOut Pick)) (ps : List NamedPatient). map left_out_row fs ++ map names_row ps)
    files_are patients_are in
    let as_texts : texts ≡ note_texts notes =
    ap₂ (λ (fs : List (LeftOut Pick)) (ps : List NamedPatient). flat_map left_out_texts fs ++ flat_map names_texts ps)
    files_are patients_are in record {
      rows = both.rows_are ∙ ap (λ (xs : List NoteRow). xs ++ rows) no_rows ∙ as_rows;
      texts = subst (λ (ts : List (List ℕ)). AreTexts ts c.texts) as_texts
          (put_first texts a.texts c.texts no_text no_ends both.texts_are);
    }
