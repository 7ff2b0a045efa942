-- The parts of a request are what the words give.
use Rattle.std.proofs.Common.{◌≡◌, ◌↔◌, ◌∷◌, ◌∙◌, false, List, [], Option, Some, None, ap, codes, inl, inr, refl, subst, sym}
use Rattle.std.proofs.lemmas.List.{append-nil}
use Rattle.std.specs.Prelude.{string_bytes}
use Rattle.clap.specs.Takes.{is_given}
use Rattle.clap.specs.Words.{Row, Text, first_of}
use Rattle.dd_line.specs.Line.{HasBadName, IsCheck, IsReading, OnlyReads, given_for, verb_name}
use Rattle.dd_line.specs.Requests.{IsAbsent, IsRequested, Requests}
use Rattle.dd_line.specs.Requests.{RequestsBadName, SaysParts, verb_of}
use Rattle.dd_line.proofs.LineVerbs.{IsReader, reader}
use Rattle.dd_line.specs.declared.line.Verb.TheVariants.{Check}
use Rattle.dd_line.specs.declared.request.Request.{Request}
use Rattle.dd_line.specs.declared.request.Request.TheVariants.{Index as ToIndex, Merge as ToMerge, Withdraw as ToWithdraw}
use Rattle.dd_line.specs.declared.request.Request.TheVariants.{Stage as ToStage, Publish as ToPublish}
use Rattle.dd_line.specs.declared.request.Request.TheVariants.{Check as ToCheck, List as ToList}

no_flag : (name : Text) (given : List Row) → IsAbsent name given → false ≡ is_given name given
no_flag name given none = rw none refl

no_values : (name : Text) (given : List Row) → IsAbsent name given → given_for name given ≡ []
no_values name given none = rw none refl

no_value : (name : Text) (given : List Row) → IsAbsent name given → None ≡ first_of name given
no_value name given none = rw none refl

pub says_parts : (r : Request) (command : Text) (given : List Row) → Requests r command given
    → SaysParts r command given
says_parts (ToIndex x) command given h =
    let out = h.values.new_set.out in
    let set = no_values (codes "set") given (h.others (codes "set") refl) in
    let pile = no_values (codes "pile") given (h.others (codes "pile") refl) in
    record {
      verb = h.verb;
      id = h.values.new_set.id;
      uid = h.values.new_set.uid;
      paths = rw (out, set, pile, append-nil) (ap (λ (xs : List Text). string_bytes x.new_set.out ∷ xs)
          h.values.sources.words);
      instances = sym (no_values (codes "instance") given (h.others (codes "instance") refl));
      dry_run = h.values.new_set.dry_run;
      link = no_flag (codes "link") given (h.others (codes "link") refl);
      keep_going = h.values.keep_going;
      json = h.values.new_set.json;
    }
says_parts (ToMerge x) command given h =
    let out = h.values.new_set.out in
    let source = no_values (codes "source") given (h.others (codes "source") refl) in
    let pile = no_values (codes "pile") given (h.others (codes "pile") refl) in
    record {
      verb = h.verb;
      id = h.values.new_set.id;
      uid = h.values.new_set.uid;
      paths = rw (out, source, pile, append-nil) (ap (λ (xs : List Text). string_bytes x.new_set.out ∷ xs)
          h.values.sets.words);
      instances = sym (no_values (codes "instance") given (h.others (codes "instance") refl));
      dry_run = h.values.new_set.dry_run;
      link = h.values.link;
      keep_going = no_flag (codes "keep-going") given (h.others (codes "keep-going") refl);
      json = h.values.new_set.json;
    }
says_parts (ToWithdraw x) command given h =
    let out = h.values.new_set.out in
    let source = no_values (codes "source") given (h.others (codes "source") refl) in
    let pile = no_values (codes "pile") given (h.others (codes "pile") refl) in
    let set = h.values.set in
    record {
      verb = h.verb;
      id = h.values.new_set.id;
      uid = h.values.new_set.uid;
      paths = rw (out, source, pile, set) refl;
      instances = h.values.instances;
      dry_run = h.values.new_set.dry_run;
      link = no_flag (codes "link") given (h.others (codes "link") refl);
      keep_going = no_flag (codes "keep-going") given (h.others (codes "keep-going") refl);
      json = h.values.new_set.json;
    }
says_parts (ToStage x) command given h =
    let out = h.values.pile in
    let set = no_values (codes "set") given (h.others (codes "set") refl) in
    let pile = no_values (codes "pile") given (h.others (codes "pile") refl) in
    record {
      verb = h.verb;
      id = no_value (codes "id") given (h.others (codes "id") refl);
      uid = no_value (codes "uid") given (h.others (codes "uid") refl);
      paths = rw (out, set, pile, append-nil) (ap (λ (xs : List Text). string_bytes x.pile ∷ xs)
          h.values.sources.words);
      instances = sym (no_values (codes "instance") given (h.others (codes "instance") refl));
      dry_run = no_flag (codes "dry-run") given (h.others (codes "dry-run") refl);
      link = no_flag (codes "link") given (h.others (codes "link") refl);
      keep_going = h.values.keep_going;
      json = h.values.json;
    }
says_parts (ToPublish x) command given h =
    let out = h.values.new_set.out in
    let source = no_values (codes "source") given (h.others (codes "source") refl) in
    let set = no_values (codes "set") given (h.others (codes "set") refl) in
    record {
      verb = h.verb;
      id = h.values.new_set.id;
      uid = h.values.new_set.uid;
      paths = rw (out, source, set) (ap (λ (xs : List Text). string_bytes x.new_set.out ∷ xs)
          h.values.piles.words);
      instances = sym (no_values (codes "instance") given (h.others (codes "instance") refl));
      dry_run = h.values.new_set.dry_run;
      link = h.values.link;
      keep_going = no_flag (codes "keep-going") given (h.others (codes "keep-going") refl);
      json = h.values.new_set.json;
    }
says_parts (ToCheck x) command given h =
    let out = no_values (codes "out") given (h.others (codes "out") refl) in
    let source = no_values (codes "source") given (h.others (codes "source") refl) in
    let pile = no_values (codes "pile") given (h.others (codes "pile") refl) in
    let set = h.values.set in
    record {
      verb = h.verb;
      id = no_value (codes "id") given (h.others (codes "id") refl);
      uid = no_value (codes "uid") given (h.others (codes "uid") refl);
      paths = rw (out, source, pile, set) refl;
      instances = sym (no_values (codes "instance") given (h.others (codes "instance") refl));
      dry_run = no_flag (codes "dry-run") given (h.others (codes "dry-run") refl);
      link = no_flag (codes "link") given (h.others (codes "link") refl);
      keep_going = no_flag (codes "keep-going") given (h.others (codes "keep-going") refl);
      json = h.values.json;
    }
says_parts (ToList x) command given h =
    let out = no_values (codes "out") given (h.others (codes "out") refl) in
    let source = no_values (codes "source") given (h.others (codes "source") refl) in
    let pile = no_values (codes "pile") given (h.others (codes "pile") refl) in
    let set = h.values.set in
    record {
      verb = h.verb;
      id = no_value (codes "id") given (h.others (codes "id") refl);
      uid = no_value (codes "uid") given (h.others (codes "uid") refl);
      paths = rw (out, source, pile, set) refl;
      instances = sym (no_values (codes "instance") given (h.others (codes "instance") refl));
      dry_run = no_flag (codes "dry-run") given (h.others (codes "dry-run") refl);
      link = no_flag (codes "link") given (h.others (codes "link") refl);
      keep_going = no_flag (codes "keep-going") given (h.others (codes "keep-going") refl);
      json = h.values.json;
    }

-- ---- the names

-- a name of the wrong form is one that the words give
pub requested_bad : (r : Request) (found : Option (Text × List Row)) → IsRequested r found → RequestsBadName r
    → HasBadName found
requested_bad r None h bad = absurd h
requested_bad r (Some (command, given)) h (inl (id, is, bad)) =
    inl (id, sym (says_parts r command given h).id ∙ is, bad)
requested_bad r (Some (command, given)) h (inr (inl (uid, is, bad))) =
    inr (inl (uid, sym (says_parts r command given h).uid ∙ is, bad))
requested_bad r (Some (command, given)) h (inr (inr (uid, has, bad))) =
    inr (inr (uid, rw (says_parts r command given h).instances at has, bad))

pub given_bad : (r : Request) (found : Option (Text × List Row)) → IsRequested r found → HasBadName found
    → RequestsBadName r
given_bad r None h (inl (id, gives, bad)) = absurd h
given_bad r None h (inr bad) = absurd h
given_bad r (Some (command, given)) h (inl (id, gives, bad)) =
    inl (id, (says_parts r command given h).id ∙ gives, bad)
given_bad r (Some (command, given)) h (inr (inl (uid, gives, bad))) =
    inr (inl (uid, (says_parts r command given h).uid ∙ gives, bad))
given_bad r (Some (command, given)) h (inr (inr (uid, gives, bad))) =
    inr (inr (uid, rw (says_parts r command given h).instances gives, bad))

-- a request is of `check` where the words name it
pub requested_check : (r : Request) (found : Option (Text × List Row)) → IsRequested r found → verb_of r ≡ Check
    → IsCheck found
requested_check r None h is = absurd h
requested_check r (Some (command, given)) h is = sym h.verb ∙ ap verb_name is

-- a request only reads where the words name such a command
pub requested_reads : (r : Request) (found : Option (Text × List Row)) → IsRequested r found
    → OnlyReads (verb_of r) ↔ IsReading found
requested_reads r None h = absurd h
requested_reads r (Some (command, given)) h =
    subst (λ (c : Text). OnlyReads (verb_of r) ↔ IsReader c) h.verb (reader (verb_of r))
