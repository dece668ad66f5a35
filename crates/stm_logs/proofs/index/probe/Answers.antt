use Rattle.std.proofs.Common.{◌≡◌, ℕ, ◌<◌, List, length, arith, ap, ◌∙◌, subst}
use Rattle.stm_logs.specs.declared.nodes.Entry.{Entry}
use Rattle.stm_logs.specs.Nodes.{Node, at, entry_of}
use Rattle.stm_logs.specs.Index.{home, IsOther}
use Rattle.stm_logs.proofs.IndexLemmas.{stepped, Stepped}
use Rattle.stm_logs.proofs.index.probe.Given as given
use Rattle.stm_logs.proofs.index.probe.Goals as goal

stepping : (g : given.Over) (c : goal.After-behind-place g)
    → Stepped (IsOther c.args.nodes.now.list c.args.number) (length c.args.nodes.now.list)
    (home c.args.number (length c.args.nodes.now.list)) c.loop-number.place c.behind-place.result
stepping g c =
    let ns : List Node = c.args.nodes.now.list in
    let len : c.len-len.result ≡ length ns = c.loop-number.invariant.len in
    let slot : c.slot-slot.result ≡ (at ns c.loop-number.place).slot = c.slot-slot.ensures in
    let there : c.get.result.now ≡ entry_of (at ns ((at ns c.loop-number.place).slot)) =
    c.get.ensures ∙ ap (λ (x : ℕ). entry_of (at ns x)) slot in
    let other : IsOther ns c.args.number c.loop-number.place =
    (omega arith, λ key. c.if-get-number.false (ap (λ (x : Entry). x.number) there ∙ key)) in
    let start : c.start-place.result ≡ home c.args.number (length ns) =
    c.start-place.ensures.place ∙ ap (home c.args.number) len in
    stepped ns c.args.nodes.now.count c.args.number _ c.loop-number.place c.behind-place.result c.requires
    (subst (λ s. s < length ns) start (omega arith)) c.loop-number.invariant.inside
    (λ l. c.behind-place.ensures.on (omega arith)) (λ l. c.behind-place.ensures.round (omega arith))
    c.loop-number.invariant.along other

pub loop-number-smaller : goal.loop-number-smaller
loop-number-smaller g c = (stepping g c).nearer

pub loop-number-preserved : goal.loop-number-preserved
loop-number-preserved g c = record {
  len = c.loop-number.invariant.len;
  inside = (stepping g c).inside;
  along = (stepping g c).along;
}
