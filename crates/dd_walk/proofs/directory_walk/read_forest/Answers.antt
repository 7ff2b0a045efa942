use Rattle.std.proofs.Common.{rules, ◌≡◌, ℕ, List, Result, true, Err, take, sym, ◌∙◌, arith}
use Rattle.std.proofs.lemmas.Result.{err_from_is_err_and}
use Rattle.dd_encoding.specs.Elements.{Elements}
use Rattle.dd_encoding.specs.declared.meta.Meta.{Meta}
use Rattle.dd_set.specs.Views.{set_view}
use Rattle.dd_part10.specs.File.{IsFile}
use Rattle.dd_walk.specs.declared.fault.DirFault.{DirFault}
use Rattle.dd_walk.specs.declared.forest.Forest.{Forest}
use Rattle.dd_walk.specs.ReadAnswers.{TellsContents, contents_view}
use Rattle.dd_walk.specs.Reading.{IsDirectoryFile, contents_in, is_directory_meta}
use Rattle.dd_walk.proofs.Answering.{is_directory, is_explicit, all_bytes, told_refused, told_no_file, told_wanted}
use Rattle.dd_walk.proofs.Answering.{starts_rise, starts_many, walk_in, refused_in, same_exit, same_fault}
use Rattle.dd_walk.proofs.Moved.{sets_many}
use Rattle.dd_walk.proofs.WalkPlaces.{front_length}
use Rattle.dd_walk.proofs.directory_walk.read_forest.Goals as goal
use Rattle.dd_walk.proofs.directory_walk.read_forest.Goals.{In_ok-directory}

pub directory_of-requires-clause-spelled : goal.directory_of-requires-clause-spelled
directory_of-requires-clause-spelled c =
    let f = c.in_ok-file.file in
    let is_file : IsFile c.args.bytes.now f.meta (set_view f.set) f.set_at = search rules in
    is_explicit c.args.bytes.now f.meta (set_view f.set) f.set_at is_file (sym c.if-not-is_directory_meta.ensures)

pub directory_of-requires-clause-fits : goal.directory_of-requires-clause-fits
directory_of-requires-clause-fits c =
    let f = c.in_ok-file.file in
    let is_file : IsFile c.args.bytes.now f.meta (set_view f.set) f.set_at = search rules in
    omega (arith, all_bytes c.args.bytes.now f.meta (set_view f.set) f.set_at is_file)

-- ---- the contents are refused

-- the bytes are a file of a directory, whose contents are refused for the fault that is answered
record IsRefusal (file : List ℕ) (answer : Result Forest DirFault) : Type 0 where
  meta : Meta
  set : Elements
  at : ℕ
  fault : DirFault
  is_file : IsFile file meta set at
  class : is_directory_meta meta ≡ true
  refuses : TellsContents (contents_in meta.instance (take at file) set) (Err fault)
  is : answer ≡ Err fault

refusal : (c : goal.After-from_residual-in_err-directory)
    → IsRefusal c.args.bytes.now c.from_residual-in_err-directory.result
refusal c =
    let f = c.in_ok-file.file in
    let file = c.args.bytes.now in
    let is_file : IsFile file f.meta (set_view f.set) f.set_at = search rules in
    let exit = c.from_residual-in_err-directory in
    let p = err_from_is_err_and exit.result exit.ensures.1 in
    record {
      meta = f.meta;
      set = set_view f.set;
      at = f.set_at;
      fault = c.in_err-directory.field-0.0;
      is_file = is_file;
      class = sym c.if-not-is_directory_meta.ensures;
      refuses = c.in_err-directory.ensures (take f.set_at file)
          (front_length file f.meta (set_view f.set) f.set_at is_file).1;
      is = same_exit _ _ _ p.1 p.2;
    }

pub returns-in_err-directory-clause-refused : goal.returns-in_err-directory-clause-refused
returns-in_err-directory-clause-refused c =
    let r = refusal c in
    rw r.is (told_refused _ r.meta r.set r.at r.fault r.is_file r.class r.refuses)

pub returns-in_err-directory-clause-group : goal.returns-in_err-directory-clause-group
returns-in_err-directory-clause-group c = λ memory.
    let r = refusal c in
    absurd (told_no_file _ r.fault _ r.refuses (same_fault _ _ _ r.is memory))

pub returns-in_err-directory-clause-set : goal.returns-in_err-directory-clause-set
returns-in_err-directory-clause-set c = λ memory.
    let r = refusal c in
    absurd (told_no_file _ r.fault _ r.refuses (same_fault _ _ _ r.is memory))

pub returns-in_err-directory-clause-records : goal.returns-in_err-directory-clause-records
returns-in_err-directory-clause-records c = λ memory.
    let r = refusal c in
    told_wanted _ r.meta r.set r.at r.fault r.is_file r.class r.refuses (same_fault _ _ _ r.is memory)

-- ---- the contents are there

directory_file : (c : In_ok-directory)
    → IsDirectoryFile c.args.bytes.now (contents_view c.in_ok-directory.directory)
directory_file c =
    let f = c.in_ok-file.file in
    let file = c.args.bytes.now in
    let is_file : IsFile file f.meta (set_view f.set) f.set_at = search rules in
    is_directory file f.meta (set_view f.set) f.set_at (contents_view c.in_ok-directory.directory) is_file
    (sym c.if-not-is_directory_meta.ensures)
    (c.in_ok-directory.ensures (take f.set_at file) (front_length file f.meta (set_view f.set) f.set_at is_file).1)

pub trees_of-requires-clause-rise : goal.trees_of-requires-clause-rise
trees_of-requires-clause-rise c = starts_rise _ _ (directory_file c)

pub trees_of-requires-clause-each : goal.trees_of-requires-clause-each
trees_of-requires-clause-each c =
    starts_many _ _ (directory_file c) ∙ sets_many c.in_ok-directory.directory.items.items

pub returns-clause-walk : goal.returns-clause-walk
returns-clause-walk c =
    walk_in _ _ c.trees_of.result (directory_file (goal.at.returns-clause-walk c).In_ok-directory)
    c.trees_of.ensures.walk

pub returns-clause-refused : goal.returns-clause-refused
returns-clause-refused c =
    refused_in _ _ c.trees_of.result (directory_file (goal.at.returns-clause-refused c).In_ok-directory)
    c.trees_of.ensures.refused

pub returns-clause-records : goal.returns-clause-records
returns-clause-records c = λ memory. (
  contents_view c.in_ok-directory.directory,
  directory_file (goal.at.returns-clause-records c).In_ok-directory,
  c.trees_of.ensures.memory memory,
)

pub returns-in_err-file-clause-set : goal.returns-in_err-file-clause-set
returns-in_err-file-clause-set c = λ memory. c.parse_file.ensures.set (search rules)
