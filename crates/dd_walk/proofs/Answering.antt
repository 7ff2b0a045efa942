-- What is known of the bytes when the parts of reading them have answered.
use Rattle.std.proofs.Common.{◌≡◌, ◌⊎◌, inl, inr, ℕ, ◌+◌, ◌<◌, Bool, true, List, ◌++◌, length, take, Option, Some, None}
use Rattle.std.proofs.Common.{Result, Ok, Err, IfOk, IfErr, if◌then◌else◌, refl, sym, ap, subst, ◌∙◌, arith}
use Rattle.std.proofs.Common.{length-append, bytes_eq}
use Rattle.dd_encoding.specs.Elements.{Elements}
use Rattle.dd_encoding.specs.Spelling.{elements_text, Spells}
use Rattle.dd_encoding.specs.declared.syntax.Syntax.{Syntax}
use Rattle.dd_encoding.specs.declared.syntax.Syntax.TheVariants.{Explicit}
use Rattle.dd_grammar.proofs.Steps.{some_is}
use Rattle.dd_encoding.specs.Syntaxes.{syntax_of}
use Rattle.dd_encoding.proofs.KnownSyntaxes.{explicit_known}
use Rattle.dd_records.specs.Directory.{directory_class, directory_syntax}
use Rattle.std.proofs.lemmas.Bool.{and_parts}
use Rattle.std.proofs.lemmas.Slice.Eq.{bytes_eq-Decides}
use Rattle.dd_part10.specs.declared.fault.FileFault.{FileFault}
use Rattle.dd_encoding.specs.declared.meta.Meta.{Meta}
use Rattle.dd_part10.specs.File.{IsFile}
use Rattle.dd_encoding.specs.Head.{prefix, group_length_text}
use Rattle.dd_walk.specs.declared.fault.DirFault.{DirFault}
use Rattle.dd_walk.specs.declared.fault.DirFault.TheVariants as faults
use Rattle.dd_walk.specs.declared.forest.Forest.{Forest}
use Rattle.dd_walk.specs.ForestViews.{walk_view}
use Rattle.dd_walk.specs.ReadAnswers.{SaysMemory, TellsContents}
use Rattle.dd_walk.specs.Reading.{Contents, contents_in, contents_of, is_directory_meta, IsDirectoryFile, IsWalkOf}
use Rattle.dd_walk.specs.Reading.{IsWalk}
use Rattle.dd_walk.specs.Reading.{RefusesOf, Refuses}
use Rattle.dd_walk.specs.Pending.{Rises}
use Rattle.dd_walk.proofs.Contents.{same_many}
use Rattle.dd_walk.proofs.Moved.{places_many}
use Rattle.dd_walk.proofs.Sequences.{items_in, items_in-is}
use Rattle.dd_walk.proofs.WalkPlaces.{rises_lower, contents_rise, contents_parts}
use Rattle.dd_records.specs.ElementForms.{tag}
use Rattle.dd_set.specs.Starts.{places_in}

-- ---- a fault that is handed on

pub same_exit : (r : Result Forest DirFault) (fault other : DirFault) → r ≡ Err other → other ≡ fault → r ≡ Err fault
same_exit r fault other is same = cc

pub same_fault : (r : Result Forest DirFault) (fault other : DirFault) → r ≡ Err fault → r ≡ Err other → fault ≡ other
same_fault r fault other first second = cc

-- ---- a file of the class of directories

pub says : (file : List ℕ) (meta : Meta) (set : Elements) (at : ℕ) (contents : Option Contents)
    → is_directory_meta meta ≡ true → contents_in meta.instance (take at file) set ≡ contents
    → contents_of file meta set at ≡ contents
says file meta set at contents class is =
    ap (λ (b : Bool). if b then contents_in meta.instance (take at file) set else None) class ∙ is

pub is_directory : (file : List ℕ) (meta : Meta) (set : Elements) (at : ℕ) (contents : Contents)
    → IsFile file meta set at
    → is_directory_meta meta ≡ true → contents_in meta.instance (take at file) set ≡ Some contents
    → IsDirectoryFile file contents
is_directory file meta set at contents is_file class is = record {
  meta = meta;
  set = set;
  at = at;
  is_file = is_file;
  says = says file meta set at (Some contents) class is;
}

-- its data set is spelled in Explicit VR
pub is_explicit : (file : List ℕ) (meta : Meta) (set : Elements) (at : ℕ) → IsFile file meta set at
    → is_directory_meta meta ≡ true → Spells Explicit set (elements_text set)
is_explicit file meta set at h class =
    let named = (bytes_eq-Decides meta.transfer directory_syntax).0
    (and_parts (bytes_eq meta.class directory_class) (bytes_eq meta.transfer directory_syntax) class).1 in
    let known : syntax_of meta.transfer ≡ Some Explicit = ap syntax_of named ∙ explicit_known in
    let same : h.syntax ≡ Explicit = some_is h.syntax Explicit (sym h.known ∙ known) in
    subst (λ (text : List ℕ). Spells Explicit set text) h.follows.whole
    (subst (λ (syntax : Syntax). Spells syntax set h.set_text) same h.follows)

-- all its bytes stand before its data set or are of it
pub all_bytes : (file : List ℕ) (meta : Meta) (set : Elements) (at : ℕ) → IsFile file meta set at
    → at + length (elements_text set) ≡ length file
all_bytes file meta set at h =
    let head = group_length_text (length h.group_text) in
    let rest = h.group_text ++ h.set_text in
    let twelve : length head ≡ 12 = refl in
    let one : length file ≡ length (h.preamble ++ (prefix ++ (head ++ rest))) = ap length h.parts in
    let two : length (h.preamble ++ (prefix ++ (head ++ rest))) ≡ 128 + (4 + (12 + length rest)) =
    length-append h.preamble (prefix ++ (head ++ rest)) ∙ ap (λ (n : ℕ). n + length (prefix ++ (head ++ rest))) h.free
    ∙ ap (λ (n : ℕ). 128 + n) (length-append prefix (head ++ rest))
    ∙ ap (λ (n : ℕ). 128 + (4 + n)) (length-append head rest) in
    let three : length rest ≡ length h.group_text + length h.set_text = length-append h.group_text h.set_text in
    let text : length h.set_text ≡ length (elements_text set) = ap length h.follows.whole in
    let is : at ≡ 144 + length h.group_text = h.place in
    omega (arith, is, one, two, three, text)

-- ---- a refusal of the contents

pub told_refused : (file : List ℕ) (meta : Meta) (set : Elements) (at : ℕ) (fault : DirFault) → IsFile file meta set at
    → is_directory_meta meta ≡ true → TellsContents (contents_in meta.instance (take at file) set) (Err fault)
    → SaysMemory fault ⊎ Refuses file fault
told_refused file meta set at (faults.File fault) is_file class told = absurd told
told_refused file meta set at faults.NotDirectory is_file class told =
    inr (record { meta = meta; set = set; at = at; is_file = is_file; says = says file meta set at None class told })
told_refused file meta set at (faults.RecordShape place) is_file class told = absurd told
told_refused file meta set at (faults.Dangling place) is_file class told = absurd told
told_refused file meta set at (faults.Twice place) is_file class told = absurd told
told_refused file meta set at faults.LastRoot is_file class told = absurd told
told_refused file meta set at faults.Memory is_file class told = inl tt
told_refused file meta set at (faults.TooDeep place) is_file class told = absurd told

pub told_no_file : (contents : Option Contents) (fault : DirFault) (cause : FileFault)
    → TellsContents contents (Err fault) → fault ≡ faults.File cause → ⊥
told_no_file contents fault cause told is = subst (λ (e : DirFault). TellsContents contents (Err e)) is told

pub told_wanted : (file : List ℕ) (meta : Meta) (set : Elements) (at : ℕ) (fault : DirFault) → IsFile file meta set at
    → is_directory_meta meta ≡ true → TellsContents (contents_in meta.instance (take at file) set) (Err fault)
    → fault ≡ faults.Memory
    → (contents : Contents) × IsDirectoryFile file contents × (0 < length contents.starts)
told_wanted file meta set at fault is_file class told is =
    let contents = contents_in meta.instance (take at file) set in
    let there = subst (λ (e : DirFault). TellsContents contents (Err e)) is told in
    (there.0, is_directory file meta set at there.0 is_file class there.1, there.2)

-- ---- contents that were answered

pub starts_rise : (file : List ℕ) (contents : Contents) → IsDirectoryFile file contents → Rises 0 contents.starts
starts_rise file contents is = rises_lower 144 0 contents.starts (omega arith) (contents_rise file contents is)

pub starts_many : (file : List ℕ) (contents : Contents) → IsDirectoryFile file contents
    → length contents.starts ≡ length contents.sets
starts_many file contents is =
    let named = (contents_parts file is.meta is.set is.at contents is.says).1 in
    let records = tag 0x0004 0x1220 in
    same_many (places_in records (take is.at file) is.set) (items_in records is.set) contents.starts contents.sets
    (places_many records (take is.at file) is.set) named.starts_are (items_in-is records is.set ∙ named.sets_are)

pub walk_in : (file : List ℕ) (contents : Contents) (result : Result Forest DirFault) → IsDirectoryFile file contents
    → IfOk result (λ (f : Forest). IsWalkOf contents (walk_view f))
    → IfOk result (λ (f : Forest). IsWalk file (walk_view f))
walk_in file contents (Ok f) is walk = record { contents = contents; is_directory = is; is_walk = walk }
walk_in file contents (Err fault) is walk = tt

refuses_by : (file : List ℕ) (contents : Contents) (fault : DirFault) → IsDirectoryFile file contents
    → RefusesOf contents fault → Refuses file fault
refuses_by file contents (faults.File fault) is refuses = absurd refuses
refuses_by file contents faults.NotDirectory is refuses = absurd refuses
refuses_by file contents (faults.RecordShape place) is refuses =
    record { contents = contents; is_directory = is; refuses = refuses }
refuses_by file contents (faults.Dangling place) is refuses =
    record { contents = contents; is_directory = is; refuses = refuses }
refuses_by file contents (faults.Twice place) is refuses =
    record { contents = contents; is_directory = is; refuses = refuses }
refuses_by file contents faults.LastRoot is refuses =
    record { contents = contents; is_directory = is; refuses = refuses }
refuses_by file contents faults.Memory is refuses = absurd refuses
refuses_by file contents (faults.TooDeep place) is refuses =
    record { contents = contents; is_directory = is; refuses = refuses }

pub refused_in : (file : List ℕ) (contents : Contents) (result : Result Forest DirFault) → IsDirectoryFile file contents
    → IfErr result (λ (fault : DirFault). (fault ≡ faults.Memory) ⊎ RefusesOf contents fault)
    → IfErr result (λ (fault : DirFault). SaysMemory fault ⊎ Refuses file fault)
refused_in file contents (Ok f) is refused = tt
refused_in file contents (Err fault) is (inl memory) = inl (subst (λ (e : DirFault). SaysMemory e) (sym memory) tt)
refused_in file contents (Err fault) is (inr refuses) = inr (refuses_by file contents fault is refuses)
