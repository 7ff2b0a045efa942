-- The join of catalogues: the best of both that neither has withdrawn, and what either has withdrawn.
use Rattle.std.specs.Prelude.{◌≡◌, ◌≢◌, ℕ, List, ◌++◌}
use Rattle.std.proofs.Common.{sym, ◌∙◌, ap, append_assoc}
use Rattle.std.proofs.lemmas.Cmp.{nat_list_cmp_total}
use Rattle.std.proofs.lemmas.Map.Lookups.{exact_bytes}
use Rattle.dd_elem.specs.Ordered.{bytes_cmp}
use Rattle.dd_catalogue.specs.BestLaws.{rising-best, best_comm, best_left, best_right, best_self, best_of_rising}
use Rattle.dd_catalogue.specs.Contents.{Contents, HoldsBoth, IsHeld, all_of, held_of, left_of, nothing, uids_of}
use Rattle.dd_catalogue.specs.FreeLaws.{kept_comm, kept_is_free, kept_itself, kept_of_kept_sets, kept_twice}
use Rattle.dd_catalogue.specs.Joins.{JoinLaws}
use Rattle.dd_catalogue.specs.Rising.{Orders}
use Rattle.dd_catalogue.specs.Versions.{versions_ordered}

pub uids_ordered : Orders (λ u. u) bytes_cmp bytes_cmp
uids_ordered = record {
  keys_total = nat_list_cmp_total;
  keys_apart = exact_bytes;
  values_total = nat_list_cmp_total;
  values_apart = exact_bytes;
}

-- what a catalogue holds that took what both hold
abbrev pub both : Contents → Contents → Contents
both c d = held_of (all_of c d)

-- the second one holds something
abbrev pub BringsSome : Contents → Contents → Type 0
BringsSome c d = d ≢ nothing

pub held_is_held : (c : Contents) → IsHeld (held_of c)
held_is_held c = record {
  versions = rising-best versions_ordered (left_of c.versions c.withdrawn);
  withdrawn = rising-best uids_ordered c.withdrawn;
  apart = kept_is_free versions_ordered c.versions c.withdrawn;
}

pub same_contents : (c d : Contents) → c.versions ≡ d.versions → c.withdrawn ≡ d.withdrawn → c ≡ d
same_contents c d e f = λ i. record { versions = e i; withdrawn = f i }

-- what is held is what it holds
pub held_itself : (c : Contents) → IsHeld c → held_of c ≡ c
held_itself c h = same_contents (held_of c) c
    (kept_itself versions_ordered c.versions c.withdrawn h.versions h.apart)
    (best_of_rising uids_ordered c.withdrawn h.withdrawn)

pub held_of_held : (c d : Contents) → HoldsBoth c d
held_of_held c d = same_contents (held_of (all_of (held_of c) (held_of d))) (held_of (all_of c d))
    (kept_of_kept_sets versions_ordered c.versions d.versions c.withdrawn d.withdrawn)
    (uids_of_uids c.withdrawn d.withdrawn)
  where
    uids_of_uids : (w u : List (List ℕ)) → uids_of (uids_of w ++ uids_of u) ≡ uids_of (w ++ u)
    uids_of_uids w u = best_left uids_ordered w (uids_of u) ∙ best_right uids_ordered w u

all_assoc : (c d e : Contents) → all_of (all_of c d) e ≡ all_of c (all_of d e)
all_assoc c d e = same_contents (all_of (all_of c d) e) (all_of c (all_of d e))
    (append_assoc c.versions d.versions e.versions) (append_assoc c.withdrawn d.withdrawn e.withdrawn)

pub catalogue_laws : JoinLaws IsHeld both
catalogue_laws = record {
  kept = λ c d h h'. held_is_held (all_of c d);
  commutative = λ c d h h'. same_contents (both c d) (both d c)
      (kept_comm versions_ordered c.versions d.versions c.withdrawn d.withdrawn)
      (best_comm uids_ordered c.withdrawn d.withdrawn);
  associative = λ c d e h h' h''.
      ap (λ x. held_of (all_of (both c d) x)) (sym (held_itself e h''))
      ∙ held_of_held (all_of c d) e ∙ ap held_of (all_assoc c d e) ∙ sym (held_of_held c (all_of d e))
      ∙ ap (λ x. held_of (all_of x (both d e))) (held_itself c h);
  idempotent = λ c h. same_contents (both c c) c
      (kept_twice versions_ordered c.versions c.withdrawn h.versions h.apart)
      (best_self uids_ordered c.withdrawn h.withdrawn);
}
