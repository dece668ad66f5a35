use Rattle.std.proofs.Common.{ap, ◌∙◌, length, List, ℕ, get_or, ◌<◌, ◌≤◌, ◌%◌, ◌≡◌, [], inl, inr, arith}
use Rattle.std.proofs.lemmas.List.{get_or_default}
use Rattle.stm_logs.specs.Chunks.{logged}
use Rattle.stm_logs.proofs.ChunkLemmas.{full_at, hand_at, length-logged}
use Rattle.stm_logs.proofs.read.ReadLog.get.Goals as goal

pub get-requires : goal.get-requires
get-requires g c =
    let s = c.self.inside in
    let room = c.self.invariant.0 in
    let below = c.if-chunk-self.true in
    let chunk = c.index.ensures ∙ get_or_default s.rest.items _ _ [] (omega (arith, below, room.count)) in
    let whole = ap length chunk ∙ room.whole.each _ (omega (arith, below, room.count)) in
    omega (arith, whole)

pub returns-then-chunk-self : goal.returns-then-chunk-self
returns-then-chunk-self g c =
    let s = c.self.inside in
    let room = c.self.invariant.0 in
    let below = c.if-chunk-self.true in
    let chunk = c.index.ensures ∙ get_or_default s.rest.items _ _ [] (omega (arith, below, room.count)) in
    c.get.ensures ∙ ap (λ (x : List ℕ). get_or x (c.args.i % 1024) 0) chunk
    ∙ full_at s.rest.items s.full s.hand s.used c.args.i room below ∙
    ap (λ (x : List ℕ). get_or x c.args.i 0) c.self.view_is

pub get-requires-2 : goal.get-requires-2
get-requires-2 g c =
    let s = c.self.inside in
    let is : logged s.rest.items s.full s.hand s.used ≡ c.args.self.now = c.self.view_is in
    let inside : c.args.i < length (logged s.rest.items s.full s.hand s.used) = rw is c.requires in
    let few : s.used ≤ length s.hand = omega (arith, c.self.invariant.1, c.self.invariant.2) in
    let count = length-logged s.rest.items s.full s.hand s.used c.self.invariant.0 few in
    elim c.self.invariant.0.here [
      | inl none ↦ absurd (omega (arith, none, few, inside, count, c.if-chunk-self.false))
      | inr all ↦ omega (arith, all)
    ]

pub returns : goal.returns
returns g c =
    let s = c.self.inside in
    let room = c.self.invariant.0 in
    let is : logged s.rest.items s.full s.hand s.used ≡ c.args.self.now = c.self.view_is in
    let inside : c.args.i < length (logged s.rest.items s.full s.hand s.used) = rw is c.requires in
    let few : s.used ≤ length s.hand = omega (arith, c.self.invariant.1, c.self.invariant.2) in
    let small : length s.hand ≤ 1024 = elim room.here [ inl none ↦ omega arith | inr all ↦ omega arith ] in
    c.get-2.ensures ∙ hand_at s.rest.items s.full s.hand s.used c.args.i room few small c.if-chunk-self.false inside
    ∙ ap (λ (x : List ℕ). get_or x c.args.i 0) is
