-- Where the refusal of a plan names two versions, the place of each is found.
use Rattle.std.specs.Prelude.{◌≡◌, Bool, true, false, ℕ, List, [], ◌∷◌, find, map, nat_lt, Option, None, Some, IsSome}
use Rattle.std.specs.Prelude.{option_map, if◌then◌else◌}
use Rattle.std.specs.Ordering.{is_eq}
use Rattle.std.proofs.Common.{refl, sym, ◌∙◌, ap, subst, inl, inr}
use Rattle.std.proofs.lemmas.Cmp.{nat_list_cmp_total, tied_itself}
use Rattle.std.proofs.lemmas.Option.{none-some, same_Some}
use Rattle.dd_catalogue.proofs.BestMembers.{at-member, best_is_best}
use Rattle.dd_catalogue.proofs.Cases.{by_option}
use Rattle.dd_catalogue.proofs.Members.{Member, contained, member_of}
use Rattle.dd_catalogue.specs.Conflicts.{first_conflict, conflicts}
use Rattle.dd_catalogue.specs.Harmony.{harmonised}
use Rattle.dd_catalogue.specs.Rising.{by_test}
use Rattle.dd_catalogue.specs.Versions.{IsCatalogue, best_of, instance_of, kept, versions_ordered}
use Rattle.dd_dir.specs.Deriving.{either}
use Rattle.dd_dir.specs.Directories.{unnamed_label}
use Rattle.dd_version.specs.Orders.{parts_cmp, parts_total}
use Rattle.dd_version.specs.declared.parts.Parts.{Parts}
use Rattle.dd_layout.specs.Limits.{Limits}
use Rattle.dd_layout.specs.Plans.{size, tree}
use Rattle.dd_layout.specs.Refusal.{conflict_or, crowded, crowding_or, excess, refusal}
use Rattle.dd_layout.specs.declared.fault.PlanFault.{PlanFault}
use Rattle.dd_layout.specs.declared.fault.PlanFault.TheVariants.{Conflict, TooLarge}
use Rattle.dd_records.specs.declared.label.Label.{Label}
use Rattle.dd_records.specs.declared.level.Level.{Level}
use Rattle.dd_engine.specs.declared.choice.Choice.{Choice}
use Rattle.dd_engine.specs.declared.notes.ConflictingFiles.{ConflictingFiles}
use Rattle.dd_engine.specs.Choosing.{derivation, label_for, refusal_for}
use Rattle.dd_engine.specs.Noting.{IsConflictOf, both, first_by, first_of}

-- ---- the two versions that a refusal names conflict

excess_apart : (label : Label) (limits : Limits) (l : List Parts) (w : List (List ℕ)) (a b : List ℕ)
    → excess label limits l w ≡ Some (Conflict a b) → ⊥
excess_apart label limits l w a b is = by (crowded limits.per_level (tree l)) (nat_lt limits.bytes (size label l w)) is
  where
    by : (o : Option Level) (t : Bool) → crowding_or o (if t then Some TooLarge else None) ≡ Some (Conflict a b) → ⊥
    by None true is = cc
    by None false is = cc
    by (Some level) t is = cc

pair_is : (c : Option (List ℕ × List ℕ)) (e : Option PlanFault) (a b : List ℕ) → (e ≡ Some (Conflict a b) → ⊥)
    → conflict_or c e ≡ Some (Conflict a b) → c ≡ Some (a, b)
pair_is None e a b apart is = absurd (apart is)
pair_is (Some pair) e a b apart is =
    let first : pair.0 ≡ a = cc is in
    let second : pair.1 ≡ b = cc is in
    λ j. Some (first j, second j)

refusal_conflict : (label : Label) (limits : Limits) (m : List Parts) (w : List (List ℕ)) (a b : List ℕ)
    → refusal label limits m w ≡ Some (Conflict a b) → first_conflict m ≡ Some (a, b)
refusal_conflict label limits m w a b is =
    pair_is (first_conflict m) (excess label limits (harmonised m) w) a b
    (excess_apart label limits (harmonised m) w a b) is

derivation_conflict : (uid : Option (List ℕ)) (id : List ℕ) (limits : Limits) (m : List Parts) (w : List (List ℕ))
    (a b : List ℕ) → derivation uid id limits m w ≡ Some (Conflict a b) → first_conflict m ≡ Some (a, b)
derivation_conflict None id limits m w a b is = refusal_conflict (unnamed_label id) limits m w a b is
derivation_conflict (Some uid) id limits m w a b is = absurd (none-some (Conflict a b) is)

pub one_of : {G : Type 0} (d e : Option PlanFault) (fault : PlanFault) → (d ≡ Some fault → G) → (e ≡ Some fault → G)
    → either d e ≡ Some fault → G
one_of None e fault first second is = second is
one_of (Some d) e fault first second is = first is

pub named_conflict : (choice : Choice) (limits : Limits) (m : List Parts) (w : List (List ℕ)) (a b : List ℕ)
    → refusal_for choice limits m w ≡ Some (Conflict a b) → first_conflict m ≡ Some (a, b)
named_conflict choice limits m w a b is =
    one_of (derivation choice.uid choice.id limits m w) (refusal (label_for choice m w) limits m w) (Conflict a b)
    (λ e. derivation_conflict choice.uid choice.id limits m w a b e)
    (λ e. refusal_conflict (label_for choice m w) limits m w a b e) is

-- ---- they are kept

record HasInstance (m : List Parts) (uid : List ℕ) : Type 0 where
  version : Parts
  member : Member version m
  is : version.instance ≡ uid

below_first : (v : Parts) (m : List Parts) (uid : List ℕ) → HasInstance m uid → HasInstance (v ∷ m) uid
below_first v m uid has = record { version = has.version; member = inr has.member; is = has.is }

found_member : (test : Parts → Bool) (m : List Parts) (v : Parts) → find test m ≡ Some v → Member v m
found_member test [] v is = absurd (none-some v is)
found_member test (w ∷ m) v is = by_test (test w)
    (λ e. inl (same_Some w v (rw e at is)))
    (λ e. inr (found_member test m v (rw e at is)))

conflict_has : (m : List Parts) (a b : List ℕ) → first_conflict m ≡ Some (a, b) → HasInstance m a × HasInstance m b
conflict_has [] a b is = absurd (none-some (a, b) is)
conflict_has (v ∷ m) a b is = by_option (find (conflicts v) m)
    (λ e. let rest = conflict_has m a b (rw e at is) in (below_first v m a rest.0, below_first v m b rest.1))
    (λ w e. let pair = same_Some (v.instance, w.instance) (a, b) (rw e at is) in (
      record { version = v; member = inl refl; is = ap (λ (p : List ℕ × List ℕ). p.0) pair },
      record {
        version = w;
        member = inr (found_member (conflicts v) m w e);
        is = ap (λ (p : List ℕ × List ℕ). p.1) pair;
      },
    ))

-- ---- and the place of each is found

first_some : {T : Type 0} (versions : List (T × Parts)) (v : Parts) → Member v (map (λ held. held.1) versions)
    → IsSome (first_of versions v)
first_some [] v i = absurd i
first_some (held ∷ versions) v (inl is) =
    let tie : is_eq (parts_cmp held.1 v) ≡ true =
    ap (λ x. is_eq (parts_cmp x v)) is ∙ ap is_eq (tied_itself parts_total v) in
    rw tie refl
first_some (held ∷ versions) v (inr i) = by_test (is_eq (parts_cmp held.1 v))
    (λ e. rw e refl)
    (λ e. rw e (first_some versions v i))

by_some : {T : Type 0} (versions : List (T × Parts)) (m : List Parts) (uid : List ℕ) → IsCatalogue m
    → ((v : Parts) → Member v m → Member v (map (λ held. held.1) versions)) → HasInstance m uid
    → IsSome (first_by versions (kept m uid))
by_some versions m uid up among has =
    let is : kept m uid ≡ Some has.version =
    ap (kept m) (sym has.is) ∙ at-member instance_of nat_list_cmp_total has.version m up has.member in
    subst (λ o. IsSome (first_by versions o)) (sym is)
    (first_some versions has.version (among has.version has.member))

both_some : {T : Type 0} (a b : Option T) → IsSome a → IsSome b → IsSome (both a b)
both_some None b first second = absurd (cc first)
both_some (Some a) None first second = absurd (cc second)
both_some (Some a) (Some b) first second = refl

mapped_some : {A B : Type 0} (f : A → B) (o : Option A) (p : Option B) → option_map f o ≡ p → IsSome p → IsSome o
mapped_some f None p is some = subst (λ q. IsSome q) (sym is) some
mapped_some f (Some a) p is some = refl

-- of a catalogue of versions that are among these
pub both_found : {T U : Type 0} (place : T → U) (versions : List (U × Parts)) (choice : Choice) (limits : Limits)
    (m : List Parts) (w : List (List ℕ)) (a b : List ℕ) (noted : Option (ConflictingFiles T)) → IsCatalogue m
    → ((v : Parts) → Member v m → Member v (map (λ held. held.1) versions))
    → refusal_for choice limits m w ≡ Some (Conflict a b) → IsConflictOf place m versions (Conflict a b) noted
    → IsSome noted
both_found place versions choice limits m w a b noted up among refused is =
    let has = conflict_has m a b (named_conflict choice limits m w a b refused) in
    mapped_some (λ pair. (place pair.one, place pair.other)) noted _ is
    (both_some (first_by versions (kept m a)) (first_by versions (kept m b))
    (by_some versions m a up among has.0) (by_some versions m b up among has.1))

-- the best of versions
pub best_rises : (s : List Parts) → IsCatalogue (best_of s)
best_rises s = (best_is_best versions_ordered s).rising

pub best_among : (s : List Parts) (v : Parts) → Member v (best_of s) → Member v s
best_among s v i = member_of v s (((best_is_best versions_ordered s).each v).0 (contained v (best_of s) i)).member
