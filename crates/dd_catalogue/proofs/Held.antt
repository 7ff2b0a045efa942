-- What a catalogue holds after each of its steps.
use Rattle.std.specs.Prelude.{◌≡◌, ◌≤◌, ◌+◌, ◌*◌, ℕ, Bool, true, false, not, ◌&&◌, List, [], ◌∷◌, ◌++◌, Contains}
use Rattle.std.specs.Prelude.{filter, length, map, min}
use Rattle.std.proofs.Common.{refl, sym, ◌∙◌, ap, subst, append-nil, arith, length-append}
use Rattle.std.proofs.lemmas.List.Elements.{filter_agree, filter_passes, All-contains}
use Rattle.std.proofs.lemmas.List.{length-map}
use Rattle.dd_elem.specs.Device.{last_count}
use Rattle.dd_elem.specs.Ordered.{bytes_cmp}
use Rattle.dd_version.specs.Orders.{parts_cmp}
use Rattle.dd_version.specs.declared.parts.Parts.{Parts}
use Rattle.dd_catalogue.specs.Compared.{compared_keys}
use Rattle.dd_catalogue.specs.BestLaws.{best_of_rising, same_best_at}
use Rattle.dd_catalogue.specs.CatalogueJoin.{uids_ordered, held_is_held, same_contents}
use Rattle.dd_catalogue.specs.Contents.{Contents, IsHeld, SameContents, and_version, and_withdrawn, all_of, held_of}
use Rattle.dd_catalogue.specs.Contents.{compared_in_merge, is_withdrawn, kept_of, left_of, uids_of}
use Rattle.dd_catalogue.specs.Free.{is_free}
use Rattle.dd_catalogue.specs.FreeLaws.{free_of_best, free_of_set, kept_itself, free-append, same_free}
use Rattle.dd_catalogue.specs.Harmony.{agreed, harmonised}
use Rattle.dd_catalogue.specs.Rising.{by_test}
use Rattle.dd_catalogue.specs.Versions.{best_of, compared_of, versions_ordered, instance_of}
use Rattle.dd_catalogue.proofs.BestMembers.{absorbed, best_of_same}
use Rattle.dd_catalogue.proofs.Counted.{compared_at_most, length-best}
use Rattle.dd_catalogue.proofs.FreeMembers.{free_decides, kept_of_same, withdrawn_member}
use Rattle.dd_catalogue.proofs.Harmonies.{harmonised_rises}
use Rattle.dd_catalogue.proofs.Woven.{compared_at_end}

-- ---- filters

pub filter_twice : {V : Type 0} (test : V → Bool) (m : List V) → filter test (filter test m) ≡ filter test m
filter_twice test [] = refl
filter_twice test (v ∷ m) = by_test (test v)
    (λ e. rw (e, e) (ap (λ x. v ∷ x) (filter_twice test m)))
    (λ e. rw e (filter_twice test m))

filter_both : {V : Type 0} (p q : V → Bool) (m : List V) → filter (λ v. p v && q v) m ≡ filter p (filter q m)
filter_both p q [] = refl
filter_both p q (v ∷ m) = by_test (p v)
    (λ e. by_test (q v)
    (λ f. rw (e, f, e) (ap (λ x. v ∷ x) (filter_both p q m)))
    (λ f. rw (e, f) (filter_both p q m)))
    (λ e. by_test (q v)
    (λ f. rw (e, f, e) (filter_both p q m))
    (λ f. rw (e, f) (filter_both p q m)))

filter_map : {V : Type 0} (test : V → Bool) (f : V → V) (m : List V) → ((v : V) → test (f v) ≡ test v)
    → filter test (map f m) ≡ map f (filter test m)
filter_map test f [] h = refl
filter_map test f (v ∷ m) h = by_test (test v)
    (λ e. rw (h v, e) (ap (λ x. f v ∷ x) (filter_map test f m h)))
    (λ e. rw (h v, e) (filter_map test f m h))

pub left_of_none : (m : List Parts) → left_of m [] ≡ m
left_of_none [] = refl
left_of_none (v ∷ m) = ap (λ x. v ∷ x) (left_of_none m)

left_twice : (m : List Parts) (w : List (List ℕ)) → left_of (left_of m w) w ≡ left_of m w
left_twice m w = filter_twice (λ v. is_free bytes_cmp w v.instance) m

-- what took anything is as a catalogue holds it
pub held_as : (c d : Contents) → c ≡ held_of d → IsHeld c
held_as c d e = subst IsHeld (sym e) (held_is_held d)

-- ---- sifting

pub sifted : (s : List Parts) (w : List (List ℕ)) → left_of (best_of s) w ≡ kept_of s w
sifted s w = sym (free_of_best versions_ordered s w)

pub sifted_by_set : (s : List Parts) (w : List (List ℕ)) → left_of (best_of s) (uids_of w) ≡ kept_of s w
sifted_by_set s w =
    filter_agree (λ v. is_free bytes_cmp (uids_of w) v.instance) (λ v. is_free bytes_cmp w v.instance)
    (λ v. free_of_set uids_ordered w v.instance) (best_of s) ∙ sifted s w

-- what is left after the versions that are withdrawn
pub kept_apart : (s : List Parts) (w : List (List ℕ)) → left_of (kept_of s w) w ≡ kept_of s w
kept_apart s w =
    ap (λ m. left_of m w) (free_of_best versions_ordered s w) ∙ left_twice (best_of s) w
    ∙ sym (free_of_best versions_ordered s w)

pub kept_by_set : (s : List Parts) (w : List (List ℕ)) → kept_of s (uids_of w) ≡ kept_of s w
kept_by_set s w = same_free instance_of bytes_cmp parts_cmp s (uids_of w) w (λ k. free_of_set uids_ordered w k)

-- ---- one version more

not_false : (b : Bool) → not b ≡ false → b ≡ true
not_false true e = refl
not_false false e = let no : true ≡ false = e in cc

not_true : (b : Bool) → not b ≡ true → b ≡ false
not_true true e = let no : false ≡ true = e in cc
not_true false e = refl

-- its instance is withdrawn
pub held_without : (c : Contents) (v : Parts) → IsHeld c → is_withdrawn c.withdrawn v.instance ≡ true
    → c ≡ held_of (and_version v c)
held_without c v h e =
    let gone : is_free bytes_cmp c.withdrawn v.instance ≡ false =
    not_true (is_free bytes_cmp c.withdrawn v.instance) e in
    let same : left_of (v ∷ c.versions) c.withdrawn ≡ left_of c.versions c.withdrawn = rw gone refl in
    sym (same_contents (held_of (and_version v c)) c
    (ap best_of same ∙ kept_itself versions_ordered c.versions c.withdrawn h.versions h.apart)
    (best_of_rising uids_ordered c.withdrawn h.withdrawn))

-- its instance is not withdrawn
left_with : (m : List Parts) (w : List (List ℕ)) (v : Parts) → left_of m w ≡ m → is_withdrawn w v.instance ≡ false
    → kept_of (v ∷ m) w ≡ best_of (v ∷ m)
left_with m w v apart e =
    let there : is_free bytes_cmp w v.instance ≡ true = not_false (is_free bytes_cmp w v.instance) e in
    let same : left_of (v ∷ m) w ≡ v ∷ left_of m w = rw there refl in
    ap best_of (same ∙ ap (λ x. v ∷ x) apart)

pub held_with : (c : Contents) (v : Parts) → IsHeld c → is_withdrawn c.withdrawn v.instance ≡ false
    → record { versions = best_of (v ∷ c.versions); withdrawn = c.withdrawn } ≡ held_of (and_version v c)
held_with c v h e = same_contents _ (held_of (and_version v c))
    (sym (left_with c.versions c.withdrawn v h.apart e)) (sym (best_of_rising uids_ordered c.withdrawn h.withdrawn))

-- ---- one withdrawn UID more

same_uids : (w : List (List ℕ)) (uid : List ℕ) → is_withdrawn w uid ≡ true → uids_of (uid ∷ w) ≡ uids_of w
same_uids w uid e = same_best_at uids_ordered (uid ∷ w) w (λ k. absorbed uids_ordered k uid w
    (withdrawn_member uids_ordered w uid (not_true (is_free bytes_cmp w uid) e)))

-- it was withdrawn before
pub held_already : (c : Contents) (uid : List ℕ) → IsHeld c → is_withdrawn c.withdrawn uid ≡ true
    → c ≡ held_of (and_withdrawn uid c)
held_already c uid h e =
    let w = c.withdrawn in
    let same = same_uids w uid e in
    sym (same_contents (held_of (and_withdrawn uid c)) c
    (ap best_of (filter_agree (λ v. is_free bytes_cmp (uid ∷ w) v.instance) (λ v. is_free bytes_cmp w v.instance)
    (λ v. sym (free_of_set uids_ordered (uid ∷ w) v.instance) ∙ ap (λ x. is_free bytes_cmp x v.instance) same
    ∙ free_of_set uids_ordered w v.instance) c.versions)
    ∙ kept_itself versions_ordered c.versions w h.versions h.apart)
    (same ∙ best_of_rising uids_ordered w h.withdrawn))

-- without its version
kept_less : (c : Contents) (uid : List ℕ) → IsHeld c
    → kept_of c.versions (uid ∷ c.withdrawn) ≡ left_of c.versions (uid ∷ [])
kept_less c uid h =
    let m = c.versions in
    let w = c.withdrawn in
    free_of_best versions_ordered m (uid ∷ w)
    ∙ ap (λ x. left_of x (uid ∷ w)) (best_of_rising versions_ordered m h.versions)
    ∙ filter_agree (λ v. is_free bytes_cmp (uid ∷ w) v.instance)
    (λ v. is_free bytes_cmp (uid ∷ []) v.instance && is_free bytes_cmp w v.instance)
    (λ v. free-append bytes_cmp (uid ∷ []) w v.instance) m
    ∙ filter_both (λ v. is_free bytes_cmp (uid ∷ []) v.instance) (λ v. is_free bytes_cmp w v.instance) m
    ∙ ap (λ x. left_of x (uid ∷ [])) h.apart

pub held_less : (c : Contents) (uid : List ℕ) → IsHeld c
    → record { versions = left_of c.versions (uid ∷ []); withdrawn = uids_of (uid ∷ c.withdrawn) }
    ≡ held_of (and_withdrawn uid c)
held_less c uid h = same_contents _ (held_of (and_withdrawn uid c)) (sym (kept_less c uid h)) refl

-- ---- merges

-- where the versions of both were merged, and then sifted by what the first had withdrawn
pub counted_maps : (c d : Contents) (t : List Parts) (x : List (List ℕ)) (maps sifted : ℕ) → IsHeld c
    → d.withdrawn ≡ [] → maps ≡ compared_of c.versions d.versions → t ≡ best_of (c.versions ++ d.versions)
    → x ≡ c.withdrawn → sifted ≡ min (compared_keys bytes_cmp (map instance_of t) x) last_count
    → min (maps + sifted) last_count ≡ min (compared_in_merge c d) last_count
counted_maps c d t x maps sifted h none a b e s =
    let w = c.withdrawn in
    let t' = best_of (c.versions ++ d.versions) in
    let same : w ++ d.withdrawn ≡ w = ap (λ y. w ++ y) none ∙ append-nil w in
    let sets : compared_keys bytes_cmp w d.withdrawn ≡ 0 =
    compared_at_end (λ u. u) bytes_cmp bytes_cmp w d.withdrawn (ap length none) in
    let uids : uids_of (w ++ d.withdrawn) ≡ w = ap uids_of same ∙ best_of_rising uids_ordered w h.withdrawn in
    let walk : compared_keys bytes_cmp (map instance_of t) x
    ≡ compared_keys bytes_cmp (map instance_of t') (uids_of (w ++ d.withdrawn)) =
    rw (b, e, uids) refl in
    omega (arith, s, sets, a, walk)

-- where the withdrawn UIDs of both were merged, then the versions of both, and these were sifted by them
pub counted_both : (c d : Contents) (t : List Parts) (x : List (List ℕ)) (sets maps sifted : ℕ)
    → sets ≡ compared_keys bytes_cmp c.withdrawn d.withdrawn → maps ≡ compared_of c.versions d.versions
    → t ≡ best_of (c.versions ++ d.versions) → x ≡ uids_of (c.withdrawn ++ d.withdrawn)
    → sifted ≡ min (compared_keys bytes_cmp (map instance_of t) x) last_count
    → min (min (sets + maps) last_count + sifted) last_count ≡ min (compared_in_merge c d) last_count
counted_both c d t x sets maps sifted r a b e s =
    let walk : compared_keys bytes_cmp (map instance_of t) x
    ≡ compared_keys bytes_cmp (map instance_of (best_of (c.versions ++ d.versions)))
    (uids_of (c.withdrawn ++ d.withdrawn)) = rw (b, e) refl in
    omega (arith, s, r, a, walk)

pub few_in_merge : (c d : Contents)
    → compared_in_merge c d
    ≤ 2 * (length c.versions + length d.versions + (length c.withdrawn + length d.withdrawn))
few_in_merge c d =
    let m = c.versions ++ d.versions in
    let w = c.withdrawn ++ d.withdrawn in
    omega (
      arith,
      compared_at_most (λ u. u) bytes_cmp bytes_cmp c.withdrawn d.withdrawn,
      compared_at_most instance_of bytes_cmp parts_cmp c.versions d.versions,
      compared_at_most (λ u. u) bytes_cmp bytes_cmp (map instance_of (best_of m)) (uids_of w),
      length-map (best_of m) instance_of,
      length-best instance_of bytes_cmp parts_cmp m,
      length-append c.versions d.versions,
      length-best (λ u. u) bytes_cmp bytes_cmp w,
      length-append c.withdrawn d.withdrawn,
    )

-- where the other has withdrawn nothing
pub held_of_maps : (c d : Contents) → IsHeld c → d.withdrawn ≡ []
    → record { versions = left_of (best_of (c.versions ++ d.versions)) c.withdrawn; withdrawn = c.withdrawn }
    ≡ held_of (all_of c d)
held_of_maps c d h none =
    let same : c.withdrawn ++ d.withdrawn ≡ c.withdrawn = ap (λ x. c.withdrawn ++ x) none ∙ append-nil c.withdrawn in
    same_contents _ (held_of (all_of c d))
    (sifted (c.versions ++ d.versions) c.withdrawn ∙ ap (λ x. kept_of (c.versions ++ d.versions) x) (sym same))
    (sym (ap uids_of same ∙ best_of_rising uids_ordered c.withdrawn h.withdrawn))

pub held_of_both : (c d : Contents)
    → record {
      versions = left_of (best_of (c.versions ++ d.versions)) (uids_of (c.withdrawn ++ d.withdrawn));
      withdrawn = uids_of (c.withdrawn ++ d.withdrawn);
    } ≡ held_of (all_of c d)
held_of_both c d = same_contents _ (held_of (all_of c d))
    (sifted_by_set (c.versions ++ d.versions) (c.withdrawn ++ d.withdrawn)) refl

-- ---- harmony

harmonised_apart : (m : List Parts) (w : List (List ℕ)) → left_of m w ≡ m → left_of (harmonised m) w ≡ harmonised m
harmonised_apart m w apart =
    filter_map (λ v. is_free bytes_cmp w v.instance) (agreed m) m (λ v. refl) ∙ ap (map (agreed m)) apart

pub harmonised_held : (c : Contents) → IsHeld c
    → IsHeld (record { versions = harmonised c.versions; withdrawn = c.withdrawn })
harmonised_held c h = record {
  versions = harmonised_rises c.versions h.versions;
  withdrawn = h.withdrawn;
  apart = harmonised_apart c.versions c.withdrawn h.apart;
}

-- ---- laws

pub held_is_apart : (c : Contents) (v : Parts) → IsHeld c → Contains c.versions v → ¬ Contains c.withdrawn v.instance
held_is_apart c v h there =
    let there' : Contains (left_of c.versions c.withdrawn) v = subst (λ m. Contains m v) (sym h.apart) there in
    (free_decides uids_ordered c.withdrawn v.instance).0
    (All-contains (λ u. is_free bytes_cmp c.withdrawn u.instance ≡ true) (left_of c.versions c.withdrawn) v
    (filter_passes (λ u. is_free bytes_cmp c.withdrawn u.instance) c.versions) there')

pub held_of_same : (c d : Contents) → SameContents c d → held_of c ≡ held_of d
held_of_same c d same = same_contents (held_of c) (held_of d)
    (kept_of_same versions_ordered uids_ordered c.versions d.versions c.withdrawn d.withdrawn same.versions
    same.withdrawn)
    (best_of_same uids_ordered c.withdrawn d.withdrawn same.withdrawn)
