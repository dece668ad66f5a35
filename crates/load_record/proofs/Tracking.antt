-- One more access of a memory whose accesses are recorded.
use Rattle.std.proofs.Common.{◌≡◌, ℕ, Bool, true, false, ◌&&◌, eqb, List, [], ◌∷◌, ◌++◌, Option, Some, None, refl, sym}
use Rattle.std.proofs.Common.{ap, subst, ◌∙◌, arith}
use Rattle.std.proofs.lemmas.Bool.Decides.{nat_tests}
use Rattle.std.specs.FinMap.{get, insert, empty}
use Rattle.tx_memory.specs.View.{Words, View, HasRead}
use Rattle.tx_memory.specs.declared.memory.Addr.{Addr}
use Rattle.tx_memory.specs.declared.access.Access.{Access}
use Rattle.tx_memory.specs.declared.access.Access.TheVariants.{Read, Write}
use Rattle.tx_memory.specs.Accesses.{reads_with, reads_behind, writes_behind, is_right_read, are_right}
use Rattle.tx_memory.specs.Accesses.{AreOf, IsTracked}
use Rattle.load_record.specs.Observed.{HasSeen}

reads_read : (r w : Words) (xs : List Access) (a : Addr) (v : ℕ) →
    reads_behind r w (xs ++ (Read a v ∷ [])) ≡ reads_with (reads_behind r w xs) (writes_behind w xs) a.0 v
reads_read r w [] a v = refl
reads_read r w (Read b x ∷ xs) a v = reads_read (reads_with r w b.0 x) w xs a v
reads_read r w (Write b x ∷ xs) a v = reads_read r (insert w b.0 x) xs a v

reads_write : (r w : Words) (xs : List Access) (a : Addr) (v : ℕ) →
    reads_behind r w (xs ++ (Write a v ∷ [])) ≡ reads_behind r w xs
reads_write r w [] a v = refl
reads_write r w (Read b x ∷ xs) a v = reads_write (reads_with r w b.0 x) w xs a v
reads_write r w (Write b x ∷ xs) a v = reads_write r (insert w b.0 x) xs a v

writes_read : (w : Words) (xs : List Access) (a : Addr) (v : ℕ) →
    writes_behind w (xs ++ (Read a v ∷ [])) ≡ writes_behind w xs
writes_read w [] a v = refl
writes_read w (Read b x ∷ xs) a v = writes_read w xs a v
writes_read w (Write b x ∷ xs) a v = writes_read (insert w b.0 x) xs a v

writes_write : (w : Words) (xs : List Access) (a : Addr) (v : ℕ) →
    writes_behind w (xs ++ (Write a v ∷ [])) ≡ insert (writes_behind w xs) a.0 v
writes_write w [] a v = refl
writes_write w (Read b x ∷ xs) a v = writes_write w xs a v
writes_write w (Write b x ∷ xs) a v = writes_write (insert w b.0 x) xs a v

both : (a b : Bool) → a ≡ true → b ≡ true → (a && b) ≡ true
both true b e f = f
both false b e f = absurd (let n : false ≡ true = e in cc)

first : (a b : Bool) → (a && b) ≡ true → a ≡ true
first true b e = refl
first false b e = absurd (let n : false ≡ true = e in cc)

second : (a b : Bool) → (a && b) ≡ true → b ≡ true
second true b e = e
second false b e = absurd (let n : false ≡ true = e in cc)

right_read : (r w : Words) (xs : List Access) (a : Addr) (v : ℕ) → are_right r w xs ≡ true →
    is_right_read (get (writes_behind w xs) a.0) (get (reads_behind r w xs) a.0) v ≡ true →
    are_right r w (xs ++ (Read a v ∷ [])) ≡ true
right_read r w [] a v h k = both (is_right_read (get w a.0) (get r a.0) v) true k refl
right_read r w (Read b x ∷ xs) a v h k =
    both (is_right_read (get w b.0) (get r b.0) x) (are_right (reads_with r w b.0 x) w (xs ++ (Read a v ∷ [])))
    (first (is_right_read (get w b.0) (get r b.0) x) (are_right (reads_with r w b.0 x) w xs) h)
    (right_read (reads_with r w b.0 x) w xs a v (second (is_right_read (get w b.0) (get r b.0) x)
    (are_right (reads_with r w b.0 x) w xs) h) k)
right_read r w (Write b x ∷ xs) a v h k = right_read r (insert w b.0 x) xs a v h k

right_write : (r w : Words) (xs : List Access) (a : Addr) (v : ℕ) → are_right r w xs ≡ true →
    are_right r w (xs ++ (Write a v ∷ [])) ≡ true
right_write r w [] a v h = refl
right_write r w (Read b x ∷ xs) a v h =
    both (is_right_read (get w b.0) (get r b.0) x) (are_right (reads_with r w b.0 x) w (xs ++ (Write a v ∷ [])))
    (first (is_right_read (get w b.0) (get r b.0) x) (are_right (reads_with r w b.0 x) w xs) h)
    (right_write (reads_with r w b.0 x) w xs a v (second (is_right_read (get w b.0) (get r b.0) x)
    (are_right (reads_with r w b.0 x) w xs) h))
right_write r w (Write b x ∷ xs) a v h = right_write r (insert w b.0 x) xs a v h

same : (v u : ℕ) → v ≡ u → eqb v u ≡ true
same v u e = grind (arith, nat_tests)

-- a read returns the value written or read there before, if there was one
returned : (s s' : View) (a v : ℕ) (own read : Option ℕ) → get s.writes a ≡ own → get s.reads a ≡ read →
    HasRead s s' a v → is_right_read own read v ≡ true
returned s s' a v (Some w) read e f h = same v w (h.own w e).0
returned s s' a v None (Some w) e f h = same v w ((h.entered e).1 w f)
returned s s' a v None None e f h = refl

enters : (s s' : View) (a v : ℕ) (own : Option ℕ) → get s.writes a ≡ own → HasRead s s' a v →
    s'.reads ≡ reads_with s.reads s.writes a v
enters s s' a v (Some w) e h = rw e (h.own w e).1
enters s s' a v None e h = rw e (h.entered e).0

-- one more read
pub tracked_read : (s s' : View) (a : Addr) (v : ℕ) (seen seen' : Option (List Access)) →
    IsTracked seen s.reads s.writes → HasRead s s' a.0 v → s'.writes ≡ s.writes → HasSeen (Read a v) seen seen' →
    IsTracked seen' s'.reads s'.writes
tracked_read s s' a v seen seen' tracked h wrote sees = λ all is.
    let k = sees all is in
    let t = tracked k.0 k.1 in
    let right : is_right_read (get (writes_behind empty k.0) a.0) (get (reads_behind empty empty k.0) a.0) v ≡ true =
    subst (λ (m : Words). is_right_read (get m a.0) (get (reads_behind empty empty k.0) a.0) v ≡ true) t.1
    (subst (λ (m : Words). is_right_read (get s.writes a.0) (get m a.0) v ≡ true) t.0
    (returned s s' a.0 v (get s.writes a.0) (get s.reads a.0) refl refl h)) in
    subst (λ (l : List Access). AreOf l s'.reads s'.writes) (sym k.2) (
      enters s s' a.0 v (get s.writes a.0) refl h ∙ (ap (λ (m : Words). reads_with m s.writes a.0 v) t.0 ∙
          (ap (λ (m : Words). reads_with (reads_behind empty empty k.0) m a.0 v) t.1 ∙
          sym (reads_read empty empty k.0 a v))),
      wrote ∙ (t.1 ∙ sym (writes_read empty k.0 a v)),
      right_read empty empty k.0 a v t.2 right,
    )

-- one more write
pub tracked_write : (s s' : View) (a : Addr) (v : ℕ) (seen seen' : Option (List Access)) →
    IsTracked seen s.reads s.writes → s'.reads ≡ s.reads → s'.writes ≡ insert s.writes a.0 v →
    HasSeen (Write a v) seen seen' → IsTracked seen' s'.reads s'.writes
tracked_write s s' a v seen seen' tracked read wrote sees = λ all is.
    let k = sees all is in
    let t = tracked k.0 k.1 in
    subst (λ (l : List Access). AreOf l s'.reads s'.writes) (sym k.2) (
      read ∙ (t.0 ∙ sym (reads_write empty empty k.0 a v)),
      wrote ∙ (ap (λ (m : Words). insert m a.0 v) t.1 ∙ sym (writes_write empty k.0 a v)),
      right_write empty empty k.0 a v t.2,
    )
