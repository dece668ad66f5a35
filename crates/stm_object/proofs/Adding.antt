-- A commit adds its record behind all that its client had.
use Rattle.std.proofs.Common.{◌≡◌, ◌⊎◌, inl, inr, ℕ, zero, suc, ◌+◌, ◌*◌, ◌<◌, ◌≤◌, Bool, true, false, cond, eqb, ltb}
use Rattle.std.proofs.Common.{◌||◌, ◌&&◌, List, [], ◌∷◌, ◌++◌, append_assoc, refl, sym, ap, subst, ◌∙◌, arith}
use Rattle.std.proofs.lemmas.Bool.Decides.{nat_tests}
use mathlib.Core.Option.{some, some-injective, some-ne-none}
use Rattle.tx_memory.specs.Image.{In}
use Rattle.stm_core.specs.Client.{Client, Record, before, rank, inserted, is_settled, aborted_of, given_up, all_aborted}
use Rattle.stm_core.specs.Event.{begin, finish}
use Rattle.stm_core.proofs.Lists.{by_bool}
use Rattle.stm_logs.specs.Log.{LogValue}
use Rattle.stm_region.specs.Shown.{RegionShown, ClientShown, acted}
use Rattle.stm_region.specs.Findings.{IsEarlier, AreEarlier}
use Rattle.stm_attempt.specs.Begun.{still}
use Rattle.stm_attempt.specs.Committing.{HasCommitted, HasStopped, IsCommitVersion, commit_record}
use Rattle.stm_attempt.specs.declared.conflict.Stop.{Stop}
use Rattle.stm_attempt.proofs.Named.{apart, same_attempt}
use Rattle.stm_object.specs.declared.place.CommitPosition.{CommitPosition}
use Rattle.stm_object.specs.Places.{place_of}
use Rattle.stm_object.specs.History.{IsUnplaced, AddsRecord, AddsAt, AddsAborted, AddsNoAborted}

record_tag : (region : RegionShown) (tag : List ℕ) (v : Client) (pairs : List (ℕ × ℕ)) (version : ℕ)
    → (commit_record region tag v pairs version).tag ≡ tag
record_tag region tag v [] version = refl
record_tag region tag v (p ∷ ps) version = refl

record_attempt : (region : RegionShown) (tag : List ℕ) (v : Client) (pairs : List (ℕ × ℕ)) (version : ℕ)
    → (commit_record region tag v pairs version).attempt ≡ v.attempt.number
record_attempt region tag v [] version = refl
record_attempt region tag v (p ∷ ps) version = refl

record_renewal : (region : RegionShown) (tag : List ℕ) (v : Client) (pairs : List (ℕ × ℕ)) (version : ℕ)
    → (commit_record region tag v pairs version).renewal ≡ region.renewal
record_renewal region tag v [] version = refl
record_renewal region tag v (p ∷ ps) version = refl

pub record_reads : (region : RegionShown) (tag : List ℕ) (v : Client) (pairs : List (ℕ × ℕ)) (version : ℕ)
    → (commit_record region tag v pairs version).reads ≡ v.attempt.reads
record_reads region tag v [] version = refl
record_reads region tag v (p ∷ ps) version = refl

pub record_writes : (region : RegionShown) (tag : List ℕ) (v : Client) (pairs : List (ℕ × ℕ)) (version : ℕ)
    → (commit_record region tag v pairs version).writes ≡ pairs
record_writes region tag v [] version = refl
record_writes region tag v (p ∷ ps) version = refl

record_later : (region : RegionShown) (tag : List ℕ) (v : Client) (pairs : List (ℕ × ℕ)) (version floor : ℕ)
    → IsCommitVersion v pairs version → floor ≤ v.attempt.rv →
    floor ≤ (commit_record region tag v pairs version).version
record_later region tag v [] version floor h l = l
record_later region tag v (p ∷ ps) version floor h l = omega (arith, h, l)

record_behind : (region : RegionShown) (tag : List ℕ) (v : Client) (pairs : List (ℕ × ℕ)) (version floor : ℕ)
    → IsCommitVersion v pairs version → floor ≤ v.attempt.rv
    → 2 * floor < rank (commit_record region tag v pairs version)
record_behind region tag v [] version floor h l = omega (arith, l)
record_behind region tag v (p ∷ ps) version floor h l = omega (arith, h, l)

version_later : (v : Client) (pairs : List (ℕ × ℕ)) (version floor : ℕ) → IsCommitVersion v pairs version
    → floor ≤ v.attempt.rv → floor ≤ version
version_later v [] version floor h l = omega (arith, h, l)
version_later v (p ∷ ps) version floor h l = omega (arith, h, l)

record_small : (region : RegionShown) (tag : List ℕ) (v : Client) (pairs : List (ℕ × ℕ)) (version : ℕ)
    → IsCommitVersion v pairs version → (commit_record region tag v pairs version).version ≤ version
record_small region tag v [] version h = omega (arith, h)
record_small region tag v (w ∷ ws) version h = omega arith

record_unplaced : (region : RegionShown) (tag : List ℕ) (v : Client) (pairs : List (ℕ × ℕ)) (version : ℕ)
    → v.attempt.began_at ≡ 0 → (commit_record region tag v pairs version).point ≡ 0
record_unplaced region tag v [] version p = p
record_unplaced region tag v (w ∷ ws) version p = refl

-- one record of a list is there, or another one
in_cons : (x y : Record) (xs : List Record) → In y (x ∷ xs) → (x ≡ y) ⊎ In y xs
in_cons x y xs (zero, e) = inl (some-injective x y e)
in_cons x y xs (suc j, e) = inr (j, e)

pub in_snoc : (xs : List Record) (x y : Record) → In y (xs ++ (x ∷ [])) → In y xs ⊎ (x ≡ y)
in_snoc [] x y i = elim (in_cons x y [] i) [ inl e ↦ inr e | inr j ↦ absurd (some-ne-none y (sym j.1)) ]
in_snoc (z ∷ xs) x y i = elim (in_cons z y (xs ++ (x ∷ [])) i) [
  | inl e ↦ inl (zero, ap some e)
  | inr j ↦ elim (in_snoc xs x y j) [ inl k ↦ inl (suc k.0, k.1) | inr e ↦ inr e ]
]

-- a record that stands before none is put last
pub inserted_last : (r : Record) (l : List Record) → ((x : Record) → In x l → before r x ≡ false)
    → inserted r l ≡ l ++ (r ∷ [])
inserted_last r [] f = refl
inserted_last r (x ∷ l) f = rw (f x (zero, refl)) (ap (λ (m : List Record). x ∷ m)
    (inserted_last r l (λ y i. f y (suc i.0, i.1))))

-- neither an earlier renewal, nor a smaller place in it
pub not_earlier : (a b c d e f : ℕ) → d ≤ a → (d ≡ a → (e ≤ b) × (f ≤ c))
    → (ltb a d || (eqb a d && (ltb b e || (eqb b e && ltb c f)))) ≡ false
not_earlier a b c d e f l h = by_bool (eqb a d)
    (λ t. let same : d ≡ a = grind (arith, nat_tests) in let p = h same in let q = p.0 in let w = p.1 in
    grind (arith, nat_tests))
    (λ t. let q : ltb a d ≡ false = grind (arith, nat_tests) in rw (q, t) refl)

half : (b : Bool) → cond b 0 1 ≤ 1
half true = omega arith
half false = omega arith

pub rank_small : (x : Record) → rank x ≤ 2 * x.version + 1
rank_small x = let h = half x.writer in omega arith

-- the record of a commit stands before none that its client had
stands_last : (region : RegionShown) (tag : List ℕ) (v : Client) (pairs : List (ℕ × ℕ)) (version : ℕ)
    → v.attempt.began_at ≡ 0 → IsCommitVersion v pairs version → (x : Record)
    → IsEarlier region.renewal v.attempt.rv x → x.point ≡ 0 →
    before (commit_record region tag v pairs version) x ≡ false
stands_last region tag v [] version p h x k u =
    not_earlier region.renewal (2 * v.attempt.rv + 1) v.attempt.began_at x.renewal (rank x) x.point k.present
    (λ e. (let q = k.version e in let s = rank_small x in omega arith, omega (arith, p, u)))
stands_last region tag v (w ∷ ws) version p h x k u =
    not_earlier region.renewal (2 * version + 0) 0 x.renewal (rank x) x.point k.present
    (λ e. (let q = k.version e in let s = rank_small x in omega (arith, h), omega (arith, u)))

-- so it stands behind all of them
pub added_last : (region region' : RegionShown) (tag : List ℕ) (pairs : List (ℕ × ℕ)) (rv version : ℕ)
    (c c0 : ClientShown) (v1 v2 : Client) → region'.renewal ≡ region.renewal
    → AreEarlier region.renewal rv c.value.records → IsUnplaced c.value → c0 ≡ acted region begin rv c
    → still v1 ≡ still c0.value → HasCommitted region' tag pairs v1 v2 version
    → v2.records ≡ c.value.records ++ (commit_record region' tag v1 pairs version ∷ [])
added_last region region' tag pairs rv version c c0 v1 v2 renewed earlier unplaced begun same done =
    let rv0 : c0.value.attempt.rv ≡ rv = ap (λ (x : ClientShown). x.value.attempt.rv) begun in
    let place0 : c0.value.attempt.began_at ≡ 0 = ap (λ (x : ClientShown). x.value.attempt.began_at) begun in
    let records0 : c0.value.records ≡ c.value.records = ap (λ (x : ClientShown). x.value.records) begun in
    let rv1 : v1.attempt.rv ≡ c0.value.attempt.rv = ap (λ (x : Client). x.attempt.rv) same in
    let place1 : v1.attempt.began_at ≡ 0 = ap (λ (x : Client). x.attempt.began_at) same ∙ place0 in
    let records1 : v1.records ≡ c0.value.records = ap (λ (x : Client). x.records) same in
    let known : (x : Record) → In x c.value.records → IsEarlier region'.renewal v1.attempt.rv x = λ x i.
    subst (λ (n : ℕ). IsEarlier n v1.attempt.rv x) (sym renewed)
    (subst (λ (n : ℕ). IsEarlier region.renewal n x) (sym (rv1 ∙ rv0)) (earlier x i)) in
    let made = commit_record region' tag v1 pairs version in
    done.records ∙ (ap (λ (rs : List Record). inserted made rs) (records1 ∙ records0)
    ∙ inserted_last made c.value.records (λ x i. stands_last region' tag v1 pairs version place1 done.versioned x
    (known x i) (unplaced.each x i)))

-- what a commit leaves of the value that its attempt began with
pub record Decided (region : RegionShown) (tag : List ℕ) (v v' : Client) : Type 0 where
  pub attempt : v'.attempt.number ≡ v.attempt.number + 1
  pub grants : v'.grants ≡ v.grants
  pub floor : v.floor ≤ v'.floor
  pub adds : AddsRecord region tag v v'
  pub unplaced : IsUnplaced v'

pub committed : (region region' : RegionShown) (tag : List ℕ) (pairs : List (ℕ × ℕ)) (rv version : ℕ)
    (c c0 : ClientShown) (v1 v2 v' : Client) → region'.renewal ≡ region.renewal
    → AreEarlier region.renewal rv c.value.records → IsUnplaced c.value → c0 ≡ acted region begin rv c
    → still v1 ≡ still c0.value → c.value.floor ≤ rv → HasCommitted region' tag pairs v1 v2 version → v' ≡ v2
    → (d : Decided region tag c.value v') × (d.adds.made ≡ commit_record region' tag v1 pairs version)
committed region region' tag pairs rv version c c0 v1 v2 v' renewed earlier unplaced begun same low done end =
    let attempt0 : c0.value.attempt.number ≡ c.value.attempt.number + 1 =
    ap (λ (x : ClientShown). x.value.attempt.number) begun in
    let grants0 : c0.value.grants ≡ c.value.grants = ap (λ (x : ClientShown). x.value.grants) begun in
    let rv0 : c0.value.attempt.rv ≡ rv = ap (λ (x : ClientShown). x.value.attempt.rv) begun in
    let place0 : c0.value.attempt.began_at ≡ 0 = ap (λ (x : ClientShown). x.value.attempt.began_at) begun in
    let attempt1 : v1.attempt.number ≡ c0.value.attempt.number = ap (λ (x : Client). x.attempt.number) same in
    let grants1 : v1.grants ≡ c0.value.grants = ap (λ (x : Client). x.grants) same in
    let rv1 : v1.attempt.rv ≡ c0.value.attempt.rv = ap (λ (x : Client). x.attempt.rv) same in
    let place1 : v1.attempt.began_at ≡ 0 = ap (λ (x : Client). x.attempt.began_at) same ∙ place0 in
    let attempt2 : v'.attempt.number ≡ v1.attempt.number = ap (λ (x : Client). x.attempt.number) end ∙
    done.same.number in
    let grants2 : v'.grants ≡ v1.grants = ap (λ (x : Client). x.grants) end ∙ done.same.grants in
    let floor2 : v'.floor ≡ version = ap (λ (x : Client). x.floor) end ∙ done.known in
    let early : c.value.floor ≤ v1.attempt.rv = omega (arith, low, rv0, rv1) in
    let later = version_later v1 pairs version c.value.floor done.versioned early in
    let made = commit_record region' tag v1 pairs version in
    let records : v'.records ≡ c.value.records ++ (made ∷ []) = ap (λ (x : Client). x.records) end
    ∙ added_last region region' tag pairs rv version c c0 v1 v2 renewed earlier unplaced begun same done in
    let small = record_small region' tag v1 pairs version done.versioned in (
      record {
        attempt = attempt2 ∙ (attempt1 ∙ attempt0);
        grants = grants2 ∙ (grants1 ∙ grants0);
        floor = omega (arith, later, floor2);
        adds = record {
          made = made;
          tag_is = record_tag region' tag v1 pairs version;
          attempt_is = record_attempt region' tag v1 pairs version ∙ sym attempt2;
          renewal_is = record_renewal region' tag v1 pairs version ∙ renewed;
          unplaced = record_unplaced region' tag v1 pairs version place1;
          later = record_later region' tag v1 pairs version c.value.floor done.versioned early;
          behind = record_behind region' tag v1 pairs version c.value.floor done.versioned early;
          known = omega (arith, small, floor2);
          records = records;
        };
        unplaced = record {
          each = λ x i. elim (in_snoc c.value.records made x (subst (λ (rs : List Record). In x rs) records i)) [
            | inl j ↦ unplaced.each x j
            | inr e ↦ subst (λ (y : Record). y.point ≡ 0) e (record_unplaced region' tag v1 pairs version place1)
          ];
        };
      },
      refl,
    )

-- a finish is a commit that wrote nothing
pub finish_commits : (region region' : RegionShown) (tag : List ℕ) (rv n : ℕ) (c c0 c1 c2 : ClientShown)
    → c0 ≡ acted region begin rv c → still c1.value ≡ still c0.value → c2 ≡ acted region' (finish tag) n c1
    → c2.value.attempt.held ≡ [] → HasCommitted region' tag [] c1.value c2.value c1.value.attempt.rv
finish_commits region region' tag rv n c c0 c1 c2 begun same ended free =
    let floor1 : c1.value.floor ≡ c1.value.attempt.rv = ap (λ (x : Client). x.floor) same
    ∙ (ap (λ (x : ClientShown). x.value.floor) begun ∙ (sym (ap (λ (x : ClientShown). x.value.attempt.rv) begun)
    ∙ sym (ap (λ (x : Client). x.attempt.rv) same))) in
    record {
      records = ap (λ (x : ClientShown). x.value.records) ended;
      versioned = refl;
      known = ap (λ (x : ClientShown). x.value.floor) ended ∙ floor1;
      free = free;
      settled = ap (λ (x : ClientShown). is_settled x.value.attempt.phase) ended;
      same = same_attempt c1.value c2.value (ap (λ (x : ClientShown). apart x.value) ended);
      steps = λ _. ap (λ (x : ClientShown). x.value.attempt.steps) ended;
    }

-- the aborted attempts that a client has when an attempt has begun and read
begun_aborted : (region : RegionShown) (rv : ℕ) (c c0 : ClientShown) (v last : Client) → c0 ≡ acted region begin rv c
    → still v ≡ still c0.value → last.aborted_before ≡ v.aborted_before → last.aborted ≡ v.aborted
    → (last.aborted_before ≡ c.value.aborted_before) × (last.aborted ≡ given_up c.value)
begun_aborted region rv c c0 v last begun same before now = (
  before ∙ (ap (λ (x : Client). x.aborted_before) same ∙ ap (λ (x : ClientShown). x.value.aborted_before) begun),
  now ∙ (ap (λ (x : Client). x.aborted) same ∙ ap (λ (x : ClientShown). x.value.aborted) begun),
)

-- an attempt that ended undecided is listed as aborted
listed : (region : RegionShown) (rv : ℕ) (c c0 : ClientShown) (v last : Client) → c0 ≡ acted region begin rv c
    → still v ≡ still c0.value → last.attempt.renewal ≡ v.attempt.renewal → last.aborted_before ≡ v.aborted_before
    → last.aborted ≡ v.aborted → is_settled last.attempt.phase ≡ false → AddsAborted region c.value last
listed region rv c c0 v last begun same renewal before now unsettled =
    let h = begun_aborted region rv c c0 v last begun same before now in
    record {
      renewal = renewal ∙ (ap (λ (x : Client). x.attempt.renewal) same
          ∙ ap (λ (x : ClientShown). x.value.attempt.renewal) begun);
      listed = ap (λ b. last.aborted_before ++ cond b last.aborted (last.aborted ++ aborted_of last.attempt ∷ []))
          unsettled
          ∙ (ap (λ l. l ++ (last.aborted ++ aborted_of last.attempt ∷ [])) h.0
          ∙ (ap (λ l. c.value.aborted_before ++ (l ++ aborted_of last.attempt ∷ [])) h.1
          ∙ sym (append_assoc c.value.aborted_before (given_up c.value) (aborted_of last.attempt ∷ []))));
    }

-- so is one that was given up while it ran, and one whose commit stopped
pub abort_listed : (region : RegionShown) (rv : ℕ) (c c0 : ClientShown) (v last : Client)
    → c0 ≡ acted region begin rv c → still v ≡ still c0.value → is_settled v.attempt.phase ≡ false → last ≡ v
    → AddsAborted region c.value last
abort_listed region rv c c0 v last begun same unsettled end =
    subst (λ (x : Client). AddsAborted region c.value x) (sym end)
    (listed region rv c c0 v v begun same refl refl refl unsettled)

pub stop_listed : (region region' : RegionShown) (rv : ℕ) (log : LogValue) (s : Stop) (c c0 : ClientShown)
    (v v2 last : Client) → c0 ≡ acted region begin rv c → still v ≡ still c0.value → HasStopped region' log s v v2
    → last ≡ v2 → AddsAborted region c.value last
stop_listed region region' rv log s c c0 v v2 last begun same stopped end =
    subst (λ (x : Client). AddsAborted region c.value x) (sym end)
    (listed region rv c c0 v v2 begun same stopped.same.renewal stopped.same.aborted_before stopped.same.aborted
    stopped.unsettled)

-- an attempt that committed is not
pub commit_unlisted : (region region' : RegionShown) (tag : List ℕ) (pairs : List (ℕ × ℕ)) (rv version : ℕ)
    (c c0 : ClientShown) (v v2 last : Client) → c0 ≡ acted region begin rv c → still v ≡ still c0.value
    → HasCommitted region' tag pairs v v2 version → last ≡ v2 → AddsNoAborted c.value last
commit_unlisted region region' tag pairs rv version c c0 v v2 last begun same done end =
    let h = begun_aborted region rv c c0 v v2 begun same done.same.aborted_before done.same.aborted in
    record {
      same = ap (λ (x : Client). all_aborted x) end
          ∙ (ap (λ b. v2.aborted_before ++ cond b v2.aborted (v2.aborted ++ aborted_of v2.attempt ∷ [])) done.settled
          ∙ (ap (λ l. l ++ v2.aborted) h.0 ∙ ap (λ l. c.value.aborted_before ++ l) h.1));
    }

-- what an attempt that made no record keeps
pub unplaced_still : (v v' : Client) → IsUnplaced v → v'.records ≡ v.records → IsUnplaced v'
unplaced_still v v' unplaced e = record { each = λ x i. unplaced.each x (subst (λ (rs : List Record). In x rs) e i) }

pub unplaced_begun : (region : RegionShown) (rv : ℕ) (c c0 : ClientShown) (v v' : Client) → IsUnplaced c.value
    → c0 ≡ acted region begin rv c → still v ≡ still c0.value → v' ≡ v → IsUnplaced v'
unplaced_begun region rv c c0 v v' unplaced begun same end =
    unplaced_still c.value v' unplaced (ap (λ (x : Client). x.records) end ∙
    (ap (λ (x : Client). x.records) same ∙ ap (λ (x : ClientShown). x.value.records) begun))

pub unplaced_stopped : (region region' : RegionShown) (rv : ℕ) (log : LogValue) (s : Stop) (c c0 : ClientShown)
    (v v2 v' : Client) → IsUnplaced c.value → c0 ≡ acted region begin rv c → still v ≡ still c0.value
    → HasStopped region' log s v v2 → v' ≡ v2 → IsUnplaced v'
unplaced_stopped region region' rv log s c c0 v v2 v' unplaced begun same stopped end =
    let before = unplaced_begun region rv c c0 v v unplaced begun same refl in
    subst (λ (x : Client). IsUnplaced x) (sym end) (unplaced_still v v2 before stopped.records)

pub unplaced_joined : (v w v' : Client) → IsUnplaced v → IsUnplaced w
    → ((r : Record) → In r v'.records → In r v.records ⊎ In r w.records) → IsUnplaced v'
unplaced_joined v w v' unplaced unplaced' only = record {
  each = λ x i. elim (only x i) [
    | inl j ↦ unplaced.each x j
    | inr j ↦ unplaced'.each x j
  ];
}

-- whether a commit wrote
abbrev pub wrote_in : List (ℕ × ℕ) → Bool
wrote_in [] = false
wrote_in (p ∷ ps) = true

-- a place by its parts
abbrev pub place_at : ℕ → ℕ → Bool → CommitPosition
place_at renewal version wrote = record { renewal = renewal; version = version; wrote = wrote }

-- the place of a commit's record
pub record_place : (region : RegionShown) (tag : List ℕ) (v : Client) (pairs : List (ℕ × ℕ)) (version : ℕ)
    → IsCommitVersion v pairs version
    → place_of (commit_record region tag v pairs version) ≡ place_at region.renewal version (wrote_in pairs)
record_place region tag v [] version h = ap (λ (n : ℕ). place_at region.renewal n false) (sym h)
record_place region tag v (p ∷ ps) version h = refl

-- a commit wrote where its version is above the read version
pub wrote_is : (v : Client) (pairs : List (ℕ × ℕ)) (version found rv : ℕ) → found ≡ version → rv ≡ v.attempt.rv
    → IsCommitVersion v pairs version → ltb rv found ≡ wrote_in pairs
wrote_is v [] version found rv f e h = let same : rv ≡ found = e ∙ (sym h ∙ sym f) in grind (arith, nat_tests)
wrote_is v (p ∷ ps) version found rv f e h = let low : rv < found = omega (arith, e, f, h) in grind (arith, nat_tests)

-- the place that is returned, known by its parts
pub at_place : (region : RegionShown) (tag : List ℕ) (w : Client) (pairs : List (ℕ × ℕ)) (version renewal found : ℕ)
    (wrote : Bool) → IsCommitVersion w pairs version → renewal ≡ region.renewal → found ≡ version
    → wrote ≡ wrote_in pairs → place_at renewal found wrote ≡ place_of (commit_record region tag w pairs version)
at_place region tag w pairs version renewal found wrote h e f k =
    ap (λ (n : ℕ). place_at n found wrote) e ∙ (ap (λ (n : ℕ). place_at region.renewal n wrote) f
    ∙ (ap (λ (b : Bool). place_at region.renewal version b) k ∙ sym (record_place region tag w pairs version h)))

pub adds_at : (region region' : RegionShown) (tag : List ℕ) (place : CommitPosition) (v w v' : Client)
    (pairs : List (ℕ × ℕ))
    (version : ℕ) (a : AddsRecord region tag v v') → a.made ≡ commit_record region' tag w pairs version
    → place ≡ place_of (commit_record region' tag w pairs version) → AddsAt region tag place v v'
adds_at region region' tag place v w v' pairs version a is at =
    record { adds = a; place_is = at ∙ ap (λ (r : Record). place_of r) (sym is) }

pub only_of : (rs xs xs' ys ys' : List Record) → ((r : Record) → In r rs → In r xs ⊎ In r ys) → xs' ≡ xs → ys' ≡ ys
    → (r : Record) → In r rs → In r xs' ⊎ In r ys'
only_of rs xs xs' ys ys' h e f =
    subst (λ (zs : List Record). (r : Record) → In r rs → In r zs ⊎ In r ys') (sym e)
    (subst (λ (zs : List Record). (r : Record) → In r rs → In r xs ⊎ In r zs) (sym f) h)
