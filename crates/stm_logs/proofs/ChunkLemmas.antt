-- Chunks as one list.
use Rattle.std.proofs.Common.{◌≡◌, inl, inr, ℕ, zero, suc, ◌+◌, ◌-◌, ◌*◌, ◌<◌, ◌≤◌, ◌/◌, ◌%◌, List, [], ◌∷◌}
use Rattle.std.proofs.Common.{◌++◌, length, take, get_or, set, refl, sym, ap, ◌∙◌, arith, append_assoc, length-append}
use Rattle.std.proofs.Math.ListN.{get_or-append}
use Rattle.std.proofs.lemmas.List.{append-nil, get_or-append_right, get_or-set_other, get_or-take, length-set}
use Rattle.std.proofs.lemmas.List.{length-take-le, take_more_set, take-append-le}
use Rattle.std.proofs.lemmas.Grind.{get_or-set_at}
use Rattle.stm_logs.proofs.NodeLemmas.{same_or}
use Rattle.stm_logs.specs.Chunks.{joined_chunks, logged, AreWhole, HasRoomInChunks, IsLonger, IsRoomier}
use Rattle.stm_logs.specs.Chunks.{IsSetAside}

abbrev AllFull : List (List ℕ) → Type 0
AllFull cs = (k : ℕ) → k < length cs → length (get_or cs k []) ≡ 1024

behind : (c : List ℕ) (cs : List (List ℕ)) → AllFull (c ∷ cs) → AllFull cs
behind c cs full k l = full (suc k) (omega arith)

first : (c : List ℕ) (cs : List (List ℕ)) → AllFull (c ∷ cs) → length c ≡ 1024
first c cs full = full 0 (omega arith)

pub length-joined : (cs : List (List ℕ)) → ((k : ℕ) → k < length cs → length (get_or cs k []) ≡ 1024) →
    length (joined_chunks cs) ≡ 1024 * length cs
length-joined [] full = refl
length-joined (c ∷ cs) full =
    let rest = length-joined cs (behind c cs full) in
    let one = first c cs full in
    omega (arith, rest, one, length-append c (joined_chunks cs))

pub joined_at : (cs : List (List ℕ)) (q r : ℕ) → AllFull cs → q < length cs → r < 1024 →
    get_or (joined_chunks cs) (1024 * q + r) 0 ≡ get_or (get_or cs q []) r 0
joined_at [] q r full l m = absurd (omega arith)
joined_at (c ∷ cs) zero r full l m =
    let one = first c cs full in
    let e : 1024 * 0 + r ≡ r = omega arith in
    rw e (get_or-append c (joined_chunks cs) 0 r (omega (arith, one)))
joined_at (c ∷ cs) (suc q) r full l m =
    let one = first c cs full in
    let e : 1024 * suc q + r - 1024 ≡ 1024 * q + r = omega arith in
    get_or-append_right c (joined_chunks cs) 1024 (1024 * suc q + r) 0 one (omega arith)
    ∙ ap (λ k. get_or (joined_chunks cs) k 0) e ∙ joined_at cs q r (behind c cs full) (omega arith) m

pub joined-append : (cs ds : List (List ℕ)) → joined_chunks (cs ++ ds) ≡ joined_chunks cs ++ joined_chunks ds
joined-append [] ds = refl
joined-append (c ∷ cs) ds = ap (λ ys. c ++ ys) (joined-append cs ds) ∙
    sym (append_assoc c (joined_chunks cs) (joined_chunks ds))

first_whole : (rest : List (List ℕ)) (full : ℕ) → AreWhole rest → full ≤ length rest → AllFull (take full rest)
first_whole rest full whole few k below =
    let len : length (take full rest) ≡ full = length-take-le full rest few in
    let under : k < full = omega (arith, len, below) in
    ap length (get_or-take full rest k [] under) ∙ whole.each k (omega (arith, under, few))

length-first : (rest : List (List ℕ)) (full : ℕ) → AreWhole rest → full ≤ length rest →
    length (joined_chunks (take full rest)) ≡ 1024 * full
length-first rest full whole few =
    length-joined (take full rest) (first_whole rest full whole few) ∙ ap (λ n. 1024 * n) (length-take-le full rest few)

pub length-logged : (rest : List (List ℕ)) (full : ℕ) (hand : List ℕ) (used : ℕ) →
    HasRoomInChunks rest full hand →
    used ≤ length hand
    → length (logged rest full hand used) ≡ 1024 * full + used
length-logged rest full hand used room few =
    omega (
      arith,
      length-append (joined_chunks (take full rest)) (take used hand),
      length-first rest full room.whole room.count,
      length-take-le used hand few,
    )

-- a value of a full chunk
pub full_at : (rest : List (List ℕ)) (full : ℕ) (hand : List ℕ) (used i : ℕ) → HasRoomInChunks rest full hand →
    i / 1024 < full
    → get_or (get_or rest (i / 1024) []) (i % 1024) 0 ≡ get_or (logged rest full hand used) i 0
full_at rest full hand used i room below =
    let e : 1024 * (i / 1024) + i % 1024 ≡ i = omega arith in
    let len = length-first rest full room.whole room.count in
    let few : i / 1024 < length (take full rest) = omega (arith, below, length-take-le full rest room.count) in
    ap (λ (c : List ℕ). get_or c (i % 1024) 0) (sym (get_or-take full rest (i / 1024) [] below))
    ∙ sym (joined_at (take full rest) (i / 1024) (i % 1024) (first_whole rest full room.whole room.count) few
    (omega arith))
    ∙ ap (λ k. get_or (joined_chunks (take full rest)) k 0) e
    ∙ sym (get_or-append (joined_chunks (take full rest)) (take used hand) 0 i (omega (arith, len, below)))

-- a value of the chunk at hand
pub hand_at : (rest : List (List ℕ)) (full : ℕ) (hand : List ℕ) (used i : ℕ) → HasRoomInChunks rest full hand
    → used ≤ length hand → length hand ≤ 1024 → full ≤ i / 1024 →
    i < length (logged rest full hand used)
    → get_or hand (i % 1024) 0 ≡ get_or (logged rest full hand used) i 0
hand_at rest full hand used i room few small over inside =
    let len = length-first rest full room.whole room.count in
    let below : i < 1024 * full + used = omega (arith, length-logged rest full hand used room few, inside) in
    let e : i % 1024 ≡ i - 1024 * full = omega (arith, below, few, small, over) in
    let under : i - 1024 * full < used = omega (arith, below, over) in
    ap (λ k. get_or hand k 0) e
    ∙ sym (get_or-take used hand (i - 1024 * full) 0 under)
    ∙ sym (get_or-append_right (joined_chunks (take full rest)) (take used hand) (1024 * full) i 0 len
    (omega (arith, over)))

set_whole : (chunks : List (List ℕ)) (i : ℕ) (chunk : List ℕ) (k : ℕ) → AreWhole chunks → length chunk ≡ 1024 →
    k < length (set chunks i chunk)
    → length (get_or (set chunks i chunk) k []) ≡ 1024
set_whole chunks i chunk k whole places l =
    let below : k < length chunks = omega (arith, l, length-set chunks i chunk) in
    elim (same_or k i) [
      | inl e ↦ ap length (get_or-set_at chunks i k chunk [] e (omega (arith, e, below))) ∙ places
      | inr ne ↦ ap length (get_or-set_other chunks i k chunk [] ne) ∙ whole.each k below
    ]

pub longer : (cs more : List (List ℕ)) (chunk : List ℕ) → AreWhole cs → length cs < 1125899906842624 →
    length chunk ≡ 1024 → more ≡ cs ++ chunk ∷ [] → IsLonger cs more
longer cs more chunk whole few places is =
    let len : length more ≡ length cs + 1 = ap length is ∙ length-append cs (chunk ∷ []) in
    record {
      chunk = chunk;
      appended = is;
      whole = record {
        each = λ k l. ap (λ xs. length (get_or xs k [])) is ∙ (elim (same_or k (length cs)) [
          | inl e ↦ (
              let none : k - length cs ≡ 0 = omega (arith, e) in
              ap length (get_or-append_right cs (chunk ∷ []) (length cs) k [] refl (omega (arith, e))
              ∙ ap (λ j. get_or (chunk ∷ []) j []) none) ∙ places)
          | inr ne ↦ (
              let below : k < length cs = omega (arith, ne, l, len) in
              ap length (get_or-append cs (chunk ∷ []) [] k below) ∙ whole.each k below)
        ]);
        limit = omega (arith, few, len);
      };
    }

pub longer_roomier : (rest more : List (List ℕ)) (full : ℕ) → full ≡ length rest → IsLonger rest more →
    IsRoomier rest more full
longer_roomier rest more full e longer = record {
  whole = longer.whole;
  inside = omega (arith, e, ap length longer.appended, length-append rest (longer.chunk ∷ []));
  same = ap (take full) longer.appended ∙ take-append-le full rest (longer.chunk ∷ []) (omega (arith, e));
}

pub set_aside : (rest more : List (List ℕ)) (full : ℕ) (chunk spare : List ℕ) → IsRoomier rest more full →
    length chunk ≡ 1024 → spare ≡ get_or more full []
    → IsSetAside rest full chunk (set more full chunk) (full + 1) spare
set_aside rest more full chunk spare roomier places found = record {
  whole = record {
    each = λ k l. set_whole more full chunk k roomier.whole places l;
    limit = omega (arith, roomier.whole.limit, length-set more full chunk);
  };
  inside = omega (arith, roomier.inside, length-set more full chunk);
  places = ap length found ∙ roomier.whole.each full roomier.inside;
  same =
      ap joined_chunks (take_more_set more full chunk roomier.inside) ∙ joined-append (take full more) (chunk ∷ [])
      ∙ ap (λ ys. joined_chunks (take full more) ++ ys) (append-nil chunk) ∙
      ap (λ (cs : List (List ℕ)). joined_chunks cs ++ chunk) roomier.same;
}
