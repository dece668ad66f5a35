-- The running core plays a list with numbers for its tags.
use Rattle.std.proofs.Common.{◌≡◌, ℕ, suc, ◌-◌, ◌≤◌, true, List, [], ◌∷◌, ◌++◌, length, length-append, length-set, set}
use Rattle.std.proofs.Common.{map, refl, ap, ◌∙◌, subst, arith}
use Rattle.std.proofs.lemmas.List.{length-map}
use Rattle.stm_core.specs.Event.{after, giving, fresh, taking, renewing, gone, begin, probe, fetch, check, lock, tick}
use Rattle.stm_core.specs.Event.{validate, put, release, give_back, finish}
use Rattle.stm_core.specs.Core.{Core, Event, acts, splits, gathers, renews, stamp_of, client_of, found, played, Leads}
use Rattle.stm_core.specs.Core.{opened}
use Rattle.stm_core.specs.Theorem.{free_law}
use Rattle.stm_core.specs.Guards.{stripe_of}
use Rattle.stm_replay.specs.Running.{has_number, run_opened, ran}
use Rattle.stm_replay.specs.declared.event.Event.TheVariants.{Begin, Probe, Fetch, Check, Lock, Tick, Validate, Put}
use Rattle.stm_replay.specs.declared.event.Event.TheVariants.{Release, GiveBack, Finish, Split, Gather, Renew}
use Rattle.stm_replay.specs.Numbered.{numbered_event, numbered_client, numbered_core, EveryEventIsPlayable}
use Rattle.stm_replay.specs.Numbered.{MayRunInTurn}
use Rattle.stm_replay.specs.Numbered.{PlayedWithNumbers}
use Rattle.stm_replay.proofs.Following.{running_follows, leads_snoc, ran_snoc}
use Rattle.stm_replay.proofs.Numbering.{allowed_with_numbers}
use Rattle.stm_replay.proofs.Counting.{numbered_split}
use Rattle.stm_core.specs.Client.{RecordLaw}

pub every_event_is_playable : (A : Type 0) → EveryEventIsPlayable A
every_event_is_playable A number (acts k begin) = (Begin k, refl)
every_event_is_playable A number (acts k (probe n)) = (Probe k n, refl)
every_event_is_playable A number (acts k (fetch a)) = (Fetch k a, refl)
every_event_is_playable A number (acts k (check a)) = (Check k a, refl)
every_event_is_playable A number (acts k (lock n)) = (Lock k n, refl)
every_event_is_playable A number (acts k (tick from tag writes)) = (Tick k from (number tag) writes, refl)
every_event_is_playable A number (acts k (validate n)) = (Validate k n, refl)
every_event_is_playable A number (acts k (put a x)) = (Put k a x, refl)
every_event_is_playable A number (acts k (release n)) = (Release k n, refl)
every_event_is_playable A number (acts k (give_back n)) = (GiveBack k n, refl)
every_event_is_playable A number (acts k (finish tag)) = (Finish k (number tag), refl)
every_event_is_playable A number (splits k) = (Split k, refl)
every_event_is_playable A number (gathers k j) = (Gather k j, refl)
every_event_is_playable A number (renews k last) = (Renew k last, refl)

more : (c : Core) (k : ℕ) → length (set c.clients (k - 1) (giving (client_of c k)) ++ fresh (client_of c k) ∷ []) ≡ suc
    (length c.clients)
more c k = length-append (set c.clients (k - 1) (giving (client_of c k))) (fresh (client_of c k) ∷ []) ∙ (let h =
    length-set c.clients (k - 1) (giving (client_of c k)) in omega arith)

-- the number of clients never falls, and a split adds one
grow : (lk : ℕ → ℕ) (e : Event) (c : Core) → length c.clients ≤ length (played lk e c).clients
grow lk (acts k e) c = (let h = length-set c.clients (k - 1)
    (after (stamp_of c k) lk e (found lk c e) (client_of c k)) in omega arith)
grow lk (splits k) c = (let h = more c k in omega arith)
grow lk (gathers k j) c = (let h = length-set (set c.clients (k - 1) (taking (client_of c k) (client_of c j)))
    (j - 1) gone in let g = length-set c.clients (k - 1) (taking (client_of c k) (client_of c j)) in omega arith)
grow lk (renews k last) c = (let h = length-set c.clients (k - 1) (renewing (client_of c k)) in omega arith)

grow_all : (lk : ℕ → ℕ) (es : List Event) (c d : Core) → Leads free_law lk c es d → length c.clients ≤ length d.clients
grow_all lk [] c d h = (let e = ap (λ (x : Core). length x.clients) h in omega (arith, e))
grow_all lk (e ∷ es) c d h = (let a = grow lk e c in let b = grow_all lk es (played lk e c) d h.1 in
    omega (arith, a, b))

numbers : (lk : ℕ → ℕ) (e : Event) (es : List Event) (c d : Core) → Leads free_law lk c (e ∷ es) d →
    length d.clients ≤ 4294967295 → has_number e c ≡ true
numbers lk (splits k) es c d h l = numbered_split c k (let a = more c k in let b =
    grow_all lk es (played lk (splits k) c) d h.1 in omega (arith, a, b, l))
numbers lk (acts k e) es c d h l = refl
numbers lk (gathers k j) es c d h l = refl
numbers lk (renews k last) es c d h l = refl

module _ (image : List ℕ) (last stripes : ℕ) where
  -- an event that is allowed next may be played next
  may_run : (past es : List Event) (c d : Core) → length d.clients ≤ 4294967295 →
      Leads free_law (stripe_of stripes) (opened image last stripes) past c →
      Leads free_law (stripe_of stripes) c es d → MayRunInTurn es (ran past (run_opened image last stripes))
  may_run past [] c d l h g = tt
  may_run past (e ∷ es) c d l h g = (
    ((running_follows image last stripes past c h).allows e).1 (g.0, numbers (stripe_of stripes) e es c d g l),
    subst (MayRunInTurn es) (ran_snoc past e (run_opened image last stripes))
        (may_run (past ++ e ∷ []) es (played (stripe_of stripes) e c) d l
        (leads_snoc (stripe_of stripes) past e (opened image last stripes) c h g.0) g.1),
  )

pub played_with_numbers : (lawful : RecordLaw) → PlayedWithNumbers lawful
played_with_numbers lawful number image last stripes es c h =
    let g = allowed_with_numbers lawful number image last stripes es c h in (
      (λ l. may_run image last stripes [] (map (numbered_event number) es) (opened image last stripes)
          (numbered_core number c) (let e = length-map c.clients (numbered_client number) in
          omega (arith, e, l)) refl g),
      (running_follows image last stripes (map (numbered_event number) es) (numbered_core number c) g).shows,
    )
