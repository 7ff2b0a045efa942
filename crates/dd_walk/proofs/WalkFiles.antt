-- What holds of every directory: it has one walk at most, and one or a fault, not both, and no two faults.
use Rattle.std.proofs.Common.{◌≡◌, ◌⊎◌, inl, inr, ℕ, ◌<◌, ◌^◌, List, length, Option, Some}
use Rattle.std.proofs.Common.{None, Result, Ok, Err, refl, sym, ap, subst, ◌∙◌}
use Rattle.std.proofs.lemmas.Bool.{cases_eq}
use Rattle.dd_stream.specs.Bytes.{AreBytes}
use Rattle.dd_encoding.specs.Elements.{Elements}
use Rattle.dd_part10.specs.declared.fault.FileFault.{FileFault}
use Rattle.dd_encoding.specs.declared.meta.Meta.{Meta}
use Rattle.dd_part10.specs.File.{IsFile}
use Rattle.dd_part10.specs.Reading.{FileParts, file_in}
use Rattle.dd_part10.proofs.Found.{file_found}
use Rattle.dd_part10.proofs.Only.{file_only}
use Rattle.dd_walk.specs.declared.fault.DirFault.{DirFault}
use Rattle.dd_walk.specs.declared.fault.DirFault.TheVariants as faults
use Rattle.dd_walk.specs.Reading.{Contents, contents_of, stands_of, count_unseen, IsDirectoryFile, AreTrees, IsWalkOf}
use Rattle.dd_walk.specs.Reading.{IsWalk, IsNoDirectory, BreaksOff, EndElsewhere, RefusesOf, IsRefused, Refuses}
use Rattle.dd_walk.specs.Trees.{Trees, Walk, offsets, last_offset_or}
use Rattle.dd_walk.specs.Walks.{nothing, with_all}
use Rattle.dd_walk.proofs.WalkEnds.{Grows, Breaks, Ends, always_ends}
use Rattle.dd_walk.proofs.WalkLaws.{IsOfRecord, stop_fault, chain_is_one, chain_or_stop, one_stop}
use Rattle.dd_walk.proofs.WalkPlaces.{nothing_at_zero}

-- ---- one file

same_parts : (r : Result FileParts FileFault) (a b : FileParts) → r ≡ Ok a → r ≡ Ok b → b ≡ a
same_parts r a b x y = cc

no_parts : (r : Result FileParts FileFault) (a : FileParts) (fault : FileFault) → r ≡ Ok a → r ≡ Err fault → ⊥
no_parts r a fault x y = cc

one_fault_of : (r : Result FileParts FileFault) (fault other : FileFault) → r ≡ Err fault → r ≡ Err other
    → other ≡ fault
one_fault_of r fault other x y = cc

same_contents : (o : Option Contents) (a b : Contents) → o ≡ Some a → o ≡ Some b → b ≡ a
same_contents o a b x y = cc

no_contents : (o : Option Contents) (a : Contents) → o ≡ Some a → o ≡ None → ⊥
no_contents o a x y = cc

-- what a file with these parts says
abbrev pub said_of : List ℕ → FileParts → Option Contents
said_of file x = contents_of file x.meta x.set x.set_at

-- a file is read in one way
pub file_one : (file : List ℕ) (meta other : Meta) (set others : Elements) (at place : ℕ) → IsFile file meta set at
    → IsFile file other others place
    → ◌≡◌ {A = FileParts} (record { meta = other; set = others; set_at = place })
    (record { meta = meta; set = set; set_at = at })
file_one file meta other set others at place a b =
    same_parts (file_in file) (record { meta = meta; set = set; set_at = at })
    (record { meta = other; set = others; set_at = place }) (file_only file meta set at a)
    (file_only file other others place b)

-- and says one thing of its records
pub contents_one : (file : List ℕ) (contents other : Contents) → IsDirectoryFile file contents
    → IsDirectoryFile file other → other ≡ contents
contents_one file contents other a b =
    let is = file_one file a.meta b.meta a.set b.set a.at b.at a.is_file b.is_file in
    same_contents (contents_of file a.meta a.set a.at) contents other a.says (sym (ap (said_of file) is) ∙ b.says)

pub directory_or_none : (file : List ℕ) (contents : Contents) → IsDirectoryFile file contents → IsNoDirectory file → ⊥
directory_or_none file contents a b =
    let is = file_one file a.meta b.meta a.set b.set a.at b.at a.is_file b.is_file in
    no_contents (contents_of file a.meta a.set a.at) contents a.says (sym (ap (said_of file) is) ∙ b.says)

file_or_fault : (file : List ℕ) (meta : Meta) (set : Elements) (at : ℕ) (fault : FileFault) → IsFile file meta set at
    → file_in file ≡ Err fault → ⊥
file_or_fault file meta set at fault h e =
    no_parts (file_in file) (record { meta = meta; set = set; set_at = at }) fault (file_only file meta set at h) e

-- ---- one walk of what a directory says

same_walk : (a b : Walk) → a.beside ≡ b.beside → a.trees ≡ b.trees → a.unreached ≡ b.unreached → a ≡ b
same_walk a b x y z = λ i. record { beside = x i; trees = y i; unreached = z i }

module _ (contents : Contents) (empty : stands_of contents 0 ≡ None) where
  pub trees_one : (trees other : Trees) → AreTrees contents trees → AreTrees contents other → other ≡ trees
  trees_one trees other a b =
      chain_is_one (stands_of contents) empty trees other contents.first 0 a.chain b.chain

  pub walk_one : (walk other : Walk) → IsWalkOf contents walk → IsWalkOf contents other → other ≡ walk
  walk_one walk other a b =
      let trees : other.trees ≡ walk.trees = trees_one walk.trees other.trees a.trees b.trees in
      let left : Trees → ℕ = λ t. count_unseen (with_all (offsets t) nothing) contents.starts in
      same_walk other walk (b.beside ∙ sym a.beside) trees (b.unreached ∙ ap left trees ∙ sym a.unreached)

  -- trees, and a stop
  pub trees_or_stop : (trees : Trees) (fault : DirFault) → AreTrees contents trees → BreaksOff contents fault → ⊥
  trees_or_stop trees fault a stop =
      chain_or_stop (stands_of contents) empty trees contents.first 0 nothing fault a.chain a.apart stop

  -- a walk, and trees that end elsewhere
  pub ends_or_not : (walk : Walk) → IsWalkOf contents walk → EndElsewhere contents → ⊥
  ends_or_not walk a other =
      let is : other.trees ≡ walk.trees = trees_one walk.trees other.trees a.trees other.are_trees in
      other.elsewhere (ap (λ (t : Trees). last_offset_or 0 t) is ∙ a.ends)

  pub walk_or_refused : (walk : Walk) (fault : DirFault) → IsWalkOf contents walk → RefusesOf contents fault → ⊥
  walk_or_refused walk (faults.File fault) a h = h
  walk_or_refused walk faults.NotDirectory a h = h
  walk_or_refused walk (faults.RecordShape at) a h = trees_or_stop walk.trees (faults.RecordShape at) a.trees h
  walk_or_refused walk (faults.Dangling at) a h = trees_or_stop walk.trees (faults.Dangling at) a.trees h
  walk_or_refused walk (faults.Twice at) a h = trees_or_stop walk.trees (faults.Twice at) a.trees h
  walk_or_refused walk faults.LastRoot a h = ends_or_not walk a h
  walk_or_refused walk faults.Memory a h = h
  walk_or_refused walk (faults.TooDeep at) a h = trees_or_stop walk.trees (faults.TooDeep at) a.trees h

-- ---- why it has none

-- a directory that has no walk ends elsewhere, or its way breaks off
abbrev pub Reason : Contents → DirFault → Type 0
Reason contents fault = (fault ≡ faults.LastRoot) × EndElsewhere contents ⊎ BreaksOff contents fault

pub reason_of : (contents : Contents) (fault : DirFault) → RefusesOf contents fault → Reason contents fault
reason_of contents (faults.File fault) h = absurd h
reason_of contents faults.NotDirectory h = absurd h
reason_of contents (faults.RecordShape at) h = inr h
reason_of contents (faults.Dangling at) h = inr h
reason_of contents (faults.Twice at) h = inr h
reason_of contents faults.LastRoot h = inl (refl, h)
reason_of contents faults.Memory h = absurd h
reason_of contents (faults.TooDeep at) h = inr h

pub refuses_stop : (contents : Contents) (fault : DirFault) → IsOfRecord fault → BreaksOff contents fault
    → RefusesOf contents fault
refuses_stop contents (faults.File fault) of h = absurd of
refuses_stop contents faults.NotDirectory of h = absurd of
refuses_stop contents (faults.RecordShape at) of h = h
refuses_stop contents (faults.Dangling at) of h = h
refuses_stop contents (faults.Twice at) of h = h
refuses_stop contents faults.LastRoot of h = absurd of
refuses_stop contents faults.Memory of h = absurd of
refuses_stop contents (faults.TooDeep at) of h = h

one_reason : (contents : Contents) → stands_of contents 0 ≡ None → (fault other : DirFault) → Reason contents fault
    → Reason contents other → other ≡ fault
one_reason contents empty fault other (inl a) (inl b) = b.0 ∙ sym a.0
one_reason contents empty fault other (inl a) (inr b) =
    absurd (trees_or_stop contents empty a.1.trees other a.1.are_trees b)
one_reason contents empty fault other (inr a) (inl b) =
    absurd (trees_or_stop contents empty b.1.trees fault b.1.are_trees a)
one_reason contents empty fault other (inr a) (inr b) =
    one_stop (stands_of contents) empty contents.first 0 nothing fault other a b

-- bytes that have no walk are no file, no directory, or one that has none
data Cause (file : List ℕ) (fault : DirFault) : Type 0 where
  no_file : (cause : FileFault) → fault ≡ faults.File cause → file_in file ≡ Err cause → Cause file fault
  no_directory : fault ≡ faults.NotDirectory → IsNoDirectory file → Cause file fault
  no_walk : IsRefused file fault → Cause file fault

cause_of : (file : List ℕ) (fault : DirFault) → Refuses file fault → Cause file fault
cause_of file (faults.File fault) h = no_file fault refl h
cause_of file faults.NotDirectory h = no_directory refl h
cause_of file (faults.RecordShape at) h = no_walk h
cause_of file (faults.Dangling at) h = no_walk h
cause_of file (faults.Twice at) h = no_walk h
cause_of file faults.LastRoot h = no_walk h
cause_of file faults.Memory h = no_walk h
cause_of file (faults.TooDeep at) h = no_walk h

pub refuses_record : (file : List ℕ) (fault : DirFault) → IsOfRecord fault → IsRefused file fault → Refuses file fault
refuses_record file (faults.File fault) of h = absurd of
refuses_record file faults.NotDirectory of h = absurd of
refuses_record file (faults.RecordShape at) of h = h
refuses_record file (faults.Dangling at) of h = h
refuses_record file (faults.Twice at) of h = h
refuses_record file faults.LastRoot of h = h
refuses_record file faults.Memory of h = h
refuses_record file (faults.TooDeep at) of h = h

-- ---- the laws

pub one_walk : (file : List ℕ) (walk other : Walk) → IsWalk file walk → IsWalk file other → other ≡ walk
one_walk file walk other a b =
    let is : b.contents ≡ a.contents = contents_one file a.contents b.contents a.is_directory b.is_directory in
    walk_one a.contents (nothing_at_zero file a.contents a.is_directory) walk other a.is_walk
    (subst (λ (c : Contents). IsWalkOf c other) is b.is_walk)

walk_or_cause : (file : List ℕ) (walk : Walk) (fault : DirFault) → IsWalk file walk → Cause file fault → ⊥
walk_or_cause file walk fault a (no_file cause is e) =
    let d = a.is_directory in
    file_or_fault file d.meta d.set d.at cause d.is_file e
walk_or_cause file walk fault a (no_directory is h) = directory_or_none file a.contents a.is_directory h
walk_or_cause file walk fault a (no_walk h) =
    let is : h.contents ≡ a.contents = contents_one file a.contents h.contents a.is_directory h.is_directory in
    walk_or_refused a.contents (nothing_at_zero file a.contents a.is_directory) walk fault a.is_walk
    (subst (λ (c : Contents). RefusesOf c fault) is h.refuses)

pub walk_or_not : (file : List ℕ) (walk : Walk) (fault : DirFault) → IsWalk file walk → Refuses file fault → ⊥
walk_or_not file walk fault a h = walk_or_cause file walk fault a (cause_of file fault h)

one_cause : (file : List ℕ) (fault other : DirFault) → Cause file fault → Cause file other → other ≡ fault
one_cause file fault other (no_file a is e) (no_file b also f) =
    also ∙ ap (λ (x : FileFault). faults.File x) (one_fault_of (file_in file) a b e f) ∙ sym is
one_cause file fault other (no_file a is e) (no_directory also h) =
    absurd (file_or_fault file h.meta h.set h.at a h.is_file e)
one_cause file fault other (no_file a is e) (no_walk h) =
    let d = h.is_directory in
    absurd (file_or_fault file d.meta d.set d.at a d.is_file e)
one_cause file fault other (no_directory is h) (no_file b also f) =
    absurd (file_or_fault file h.meta h.set h.at b h.is_file f)
one_cause file fault other (no_directory is h) (no_directory also k) = also ∙ sym is
one_cause file fault other (no_directory is h) (no_walk k) =
    absurd (directory_or_none file k.contents k.is_directory h)
one_cause file fault other (no_walk h) (no_file b also f) =
    let d = h.is_directory in
    absurd (file_or_fault file d.meta d.set d.at b d.is_file f)
one_cause file fault other (no_walk h) (no_directory also k) =
    absurd (directory_or_none file h.contents h.is_directory k)
one_cause file fault other (no_walk h) (no_walk k) =
    let is : k.contents ≡ h.contents = contents_one file h.contents k.contents h.is_directory k.is_directory in
    one_reason h.contents (nothing_at_zero file h.contents h.is_directory) fault other
    (reason_of h.contents fault h.refuses)
    (reason_of h.contents other (subst (λ (c : Contents). RefusesOf c other) is k.refuses))

pub one_refusal : (file : List ℕ) (fault other : DirFault) → Refuses file fault → Refuses file other → other ≡ fault
one_refusal file fault other a b = one_cause file fault other (cause_of file fault a) (cause_of file other b)

-- ---- one of the two

abbrev pub Decided : List ℕ → Type 0
Decided file = ((walk : Walk) × IsWalk file walk) ⊎ ((fault : DirFault) × Refuses file fault)

-- trees that end somewhere
grown : (file : List ℕ) (contents : Contents) → IsDirectoryFile file contents
    → Grows (stands_of contents) contents.first 0 nothing → Decided file
grown file contents h grows =
    let trees : AreTrees contents grows.trees = record { chain = grows.chain; apart = grows.apart } in
    elim (cases_eq (last_offset_or 0 grows.trees) contents.last) [
      | inl is ↦ inl (
        record {
          beside = contents.beside;
          trees = grows.trees;
          unreached = count_unseen (with_all (offsets grows.trees) nothing) contents.starts;
        },
        record {
          contents = contents;
          is_directory = h;
          is_walk = record { trees = trees; ends = is; beside = refl; unreached = refl };
        },
      )
      | inr not ↦ inr (
        faults.LastRoot,
        record {
          contents = contents;
          is_directory = h;
          refuses = record { trees = grows.trees; are_trees = trees; elsewhere = not };
        },
      )
    ]

broken : (file : List ℕ) (contents : Contents) → IsDirectoryFile file contents
    → Breaks (stands_of contents) contents.first 0 nothing → Decided file
broken file contents h stop =
    let of = stop_fault (stands_of contents) contents.first 0 nothing stop.fault stop.stops in
    inr (
      stop.fault,
      refuses_record file stop.fault of (record {
        contents = contents;
        is_directory = h;
        refuses = refuses_stop contents stop.fault of stop.stops;
      }),
    )

directory_decided : (file : List ℕ) (contents : Contents) → IsDirectoryFile file contents
    → Ends (stands_of contents) contents.first 0 nothing → Decided file
directory_decided file contents h (inl grows) = grown file contents h grows
directory_decided file contents h (inr stop) = broken file contents h stop

file_decided : (file : List ℕ) (x : FileParts) → IsFile file x.meta x.set x.set_at → (o : Option Contents)
    → said_of file x ≡ o → Decided file
file_decided file x h None e =
    inr (faults.NotDirectory, record { meta = x.meta; set = x.set; at = x.set_at; is_file = h; says = e })
file_decided file x h (Some contents) e =
    directory_decided file contents
    (record { meta = x.meta; set = x.set; at = x.set_at; is_file = h; says = e })
    (always_ends contents.starts contents.sets contents.first 0 nothing)

bytes_decided : (file : List ℕ) (r : Result FileParts FileFault) → file_in file ≡ r → AreBytes file
    → length file < 2 ^ 64 → Decided file
bytes_decided file (Err fault) e fits room = inr (faults.File fault, e)
bytes_decided file (Ok x) e fits room =
    file_decided file x (file_found file x e fits room) (said_of file x) refl

pub walk_or_fault : (file : List ℕ) → AreBytes file → length file < 2 ^ 64 → Decided file
walk_or_fault file fits room = bytes_decided file (file_in file) refl fits room
