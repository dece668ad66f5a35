-- The record of a decided writer, and of a reader, beside the story.
use Rattle.std.proofs.Common.{◌≡◌, ◌≢◌, ℕ, suc, ◌-◌, ◌<◌, inl, inr, ⊎_elim, true, false, List, [], length-set, set, sym}
use Rattle.std.proofs.Common.{ap, ◌∙◌, subst, arith, refl}
use mathlib.Core.Option.{some}
use mathlib.Core.Logic.{dite}
use native.Mathlib.Decide.{ℕ_discrete}
use lib.ListN.{get_elem?}
use Rattle.tx_memory.specs.Image.{In}
use Rattle.stm_core.specs.Client.{Client, Record, decided, inserted, RecordLaw}
use Rattle.stm_core.specs.Version.{At, IsOpen}
use Rattle.stm_core.specs.Records.{AllInside, IsTold, IsFiled, Filed}
use Rattle.stm_core.proofs.Lists.{at_set, set_here, set_else, clash, nothing_in}
use Rattle.stm_core.proofs.Orders.{in_inserted, inserted_in, inserted_old, inserted_ordered}
use Rattle.stm_core.proofs.Filing.{told_on, filed_on, filing_keeps, split_writer, stay_keeps}

module _ (lawful : RecordLaw) (size renewal : ℕ) (story : List (List (ℕ × ℕ))) (clock : ℕ) (cs : List Client) (id : ℕ)
    (v w : Client) (r : Record) (h : Filed lawful size renewal story clock cs) (at : At cs id v) where
  it : IsFiled lawful size renewal story v
  it = h.filed id v at

  module _ (open' : IsOpen v) (numbers : (i : ℕ) (o : Client) → At cs i o → i ≢ id → decided o ≡ true →
      (0 < o.attempt.wv) × (o.attempt.wv ≢ v.attempt.wv)) (phase : decided w ≡ true)
      (is_gathered : w.is_gathered ≡ false) (reads : w.attempt.reads ≡ v.attempt.reads)
      (wv : w.attempt.wv ≡ v.attempt.wv) (writes : w.attempt.writes ≡ v.attempt.writes)
      (records : w.records ≡ inserted r v.records) (r_tag : r.tag ≡ v.attempt.tag) (r_reads : r.reads ≡ v.attempt.reads)
      (r_writes : r.writes ≡ v.attempt.writes) (r_writer : r.writer ≡ true) (r_version : r.version ≡ v.attempt.wv)
      (r_renewal : r.renewal ≡ renewal) (aborted : w.aborted ≡ v.aborted) where
    abbrev story' : List (List (ℕ × ℕ))
    story' = set story (v.attempt.wv - 1) v.attempt.writes

    place : get_elem? story (v.attempt.wv - 1) ≡ some []
    place = h.empty id v at open'

    differ : (n : ℕ) → 0 < n → n ≢ v.attempt.wv → n - 1 ≢ v.attempt.wv - 1
    differ n z ne e = ne (let k = open'.0 in omega (arith, z, e))

    record_stays : (i : ℕ) (o : Client) → At cs i o → (x : Record) → In x o.records → x.writer ≡ true → 0 < x.version →
        get_elem? story (x.version - 1) ≡ some x.writes → get_elem? story' (x.version - 1) ≡ some x.writes
    record_stays i o e x m t z p = set_else story (v.attempt.wv - 1) (x.version - 1) v.attempt.writes x.writes
        (differ x.version z (h.unwritten i id o v x e at m t open')) p

    other : (i : ℕ) (o : Client) → At cs i o → i ≢ id → IsFiled lawful size renewal story' o
    other i o e n = filed_on lawful size renewal story story' o (h.filed i o e) (record_stays i o e) (λ d p. let q =
        numbers i o e n d in set_else story (v.attempt.wv - 1) (o.attempt.wv - 1) v.attempt.writes o.attempt.writes
        (differ o.attempt.wv q.0 q.1) p)

    here : get_elem? story' (v.attempt.wv - 1) ≡ some v.attempt.writes
    here = set_here story (v.attempt.wv - 1) [] v.attempt.writes place

    new_told : IsTold lawful size renewal story' r
    new_told = record {
      abides = rw (r_tag, r_reads, r_writes) (it.abides open');
      present = r_renewal;
      reads = rw r_reads it.reads;
      writes = rw r_writes (it.writes open'.0).0;
      once = rw r_writes (it.writes open'.0).1;
      writer = λ t. rw (r_version, r_writes) (open'.0, here);
      reader = λ f. clash r_writer f;
    }

    mine : IsFiled lawful size renewal story' w
    mine = record {
      ordered = rw records (inserted_ordered r v.records it.ordered
          (λ x m t t'. rw r_version (h.unwritten id id v v x at at m t open')));
      told = λ x m. ⊎_elim (λ e. subst (IsTold lawful size renewal story') e new_told)
          (λ old. told_on lawful size renewal story story' x (it.told x old) (record_stays id v at x old))
          (in_inserted r v.records x (subst (In x) records m));
      reads = rw reads it.reads;
      aborted = λ x m. it.aborted x (subst (In x) aborted m);
      writes = λ z. rw writes (it.writes open'.0);
      abides = λ o. clash phase o.1;
      commits = λ d. rw (wv, writes) here;
      gone = λ s. clash s is_gathered;
    }

    new_else : (i : ℕ) (o : Client) (x y : Record) → At cs i o → i ≢ id → In x w.records → x.writer ≡ true →
        In y o.records → y.writer ≡ true → x.version ≢ y.version
    new_else i o x y e n m t m' t' = ⊎_elim (λ q. λ s. h.unwritten i id o v y e at m' t' open'
        (sym s ∙ (sym (ap (λ (z : Record). z.version) q) ∙ r_version)))
        (λ old. h.once id i v o x y at e (λ s. n (sym s)) old m' t t')
        (in_inserted r v.records x (subst (In x) records m))

    pub commit_keeps : ((i : ℕ) (o : Client) → At cs i o → i ≢ id → IsOpen o → o.attempt.wv ≢ v.attempt.wv) →
        Filed lawful size renewal story' clock (set cs id w)
    commit_keeps opens = filing_keeps lawful size renewal story story' clock clock cs id v w h at record {
      mine = mine;
      others = other;
      versions = length-set story (v.attempt.wv - 1) v.attempt.writes ∙ h.versions;
      unwritten_mine = λ i o x e n m t op. clash phase op.1;
      unwritten_else = λ i o x e n m t op. ⊎_elim (λ q. λ s. opens i o e n op
          (sym s ∙ (sym (ap (λ (z : Record). z.version) q) ∙ r_version))) (λ old. h.unwritten id i v o x at e old t op)
          (in_inserted r v.records x (subst (In x) records m));
      unwritten_self = λ x m t op. clash phase op.1;
      empty_mine = λ op. clash phase op.1;
      empty_else = λ i o e n op. set_else story (v.attempt.wv - 1) (o.attempt.wv - 1) v.attempt.writes []
          (differ o.attempt.wv op.0 (opens i o e n op)) (h.empty i o e op);
      once = λ i o x y e n m m' t t'. new_else i o x y e n m t m' t';
      complete = λ u ws e n. dite (ℕ_discrete u (v.attempt.wv - 1))
          (λ q. inl (
            r,
            rw records (inserted_in r v.records),
            r_writer,
            r_version ∙ (let k = open'.0 in
                omega (arith, q)),
          ))
          (λ q. ⊎_elim (λ p. inl (p.0, rw records (inserted_old r v.records p.0 p.1), p.2, p.3)) (λ p. inr p)
          (split_writer lawful size renewal story clock cs id v h at (suc u) (h.complete u ws (back u ws q e) n)));
    }
      where
        back : (u : ℕ) (ws : List (ℕ × ℕ)) → u ≢ v.attempt.wv - 1 → get_elem? story' u ≡ some ws →
            get_elem? story u ≡ some ws
        back u ws q e = ⊎_elim (λ p. absurd (q p.0)) (λ p. p.1)
            (at_set story (v.attempt.wv - 1) u v.attempt.writes ws e)

  -- a reader's record
  module _ (phase : decided w ≡ false) (is_gathered : w.is_gathered ≡ false) (reads : w.attempt.reads ≡ v.attempt.reads)
      (wv : w.attempt.wv ≡ v.attempt.wv) (none' : v.attempt.wv ≡ 0) (records : w.records ≡ inserted r v.records)
      (r_lawful : lawful r.tag r.reads r.writes) (r_reads : r.reads ≡ v.attempt.reads) (r_writes : r.writes ≡ [])
      (r_writer : r.writer ≡ false) (r_renewal : r.renewal ≡ renewal) (aborted : w.aborted ≡ v.aborted) where
    closed : 0 < w.attempt.wv → ⊥
    closed z = (let e : w.attempt.wv ≡ 0 = wv ∙ none' in omega arith)

    nothing_inside : AllInside size []
    nothing_inside a x i = absurd (nothing_in (a, x) i)

    reader_told : IsTold lawful size renewal story r
    reader_told = record {
      abides = r_lawful;
      present = r_renewal;
      reads = rw r_reads it.reads;
      writes = rw r_writes nothing_inside;
      once = rw r_writes refl;
      writer = λ t. clash t r_writer;
      reader = λ f. r_writes;
    }

    pub reader_keeps : Filed lawful size renewal story clock (set cs id w)
    reader_keeps = stay_keeps lawful size renewal story clock cs id v h at w
        record {
          ordered = rw records (inserted_ordered r v.records it.ordered (λ x m t t'. clash t' r_writer));
          told = λ x m. ⊎_elim (λ e. subst (IsTold lawful size renewal story) e reader_told) (λ old. it.told x old)
              (in_inserted r v.records x (subst (In x) records m));
          reads = rw reads it.reads;
          aborted = λ x m. it.aborted x (subst (In x) aborted m);
          writes = λ z. absurd (closed z);
          abides = λ o. absurd (closed o.0);
          commits = λ d. clash d phase;
          gone = λ s. clash s is_gathered;
        }
        (λ x m t. ⊎_elim (λ e. clash t (sym (ap (λ (z : Record). z.writer) e) ∙ r_writer)) (λ old. old)
        (in_inserted r v.records x (subst (In x) records m)))
        (λ x m. rw records (inserted_old r v.records x m)) (λ o. absurd (closed o.0))
