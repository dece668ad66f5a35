use Rattle.std.proofs.Common.{◌≡◌, ℕ, ◌+◌, List, set, sym, ap, ◌∙◌, subst}
use Rattle.stm_logs.specs.declared.nodes.Entry.{Entry}
use Rattle.stm_logs.specs.Nodes.{Node, at, bare, kept_finger, with_entry, with_finger, with_slot}
use Rattle.stm_logs.specs.Index.{Entered}
use Rattle.stm_logs.proofs.IndexLemmas.{entered, written, placed, leads}
use Rattle.stm_logs.proofs.index.enter.Goals as goal

pub returns-clause-entered : goal.returns-clause-entered
returns-clause-entered g c =
    let ns : List Node = c.args.nodes.now.list in
    let n : ℕ = c.args.nodes.now.count in
    let f : ℕ = (at ns (n + 1)).finger in
    let node : Node = bare c.args.node in
    let put : Entry = record c.args.node { place = c.args.place } in
    let position : c.args.position ≡ n + 1 = c.requires.position in
    let y : Node = placed node c.args.place (at ns (n + 1)).slot f in
    let one : c.put.new.self.list ≡ set ns (n + 1) y = ap (λ b. b.list) c.put.ensures ∙
    ap (λ i. set ns i (with_entry (at ns i) put)) position in
    let h : ℕ = kept_finger c.args.is_long (at c.put.new.self.list c.args.place) in
    let two : c.set_place.new.nodes.list ≡ set (set ns (n + 1) y) c.args.place
    (leads (at (set ns (n + 1) y) c.args.place) (n + 1) h) =
    ap (λ b. b.list) c.set_place.ensures ∙ ap (λ xs. set xs c.args.place
    (with_finger (with_slot (at xs c.args.place) c.args.position) h)) one
    ∙ ap (λ i. set (set ns (n + 1) y) c.args.place (leads (at (set ns (n + 1) y) c.args.place) i h)) position in
    subst (λ xs. Entered ns xs n node) (sym two)
    (entered ns _ n c.args.place node c.requires.indexed c.requires.room c.requires.place c.requires.free
    (written ns n c.args.place f h node c.requires.room c.requires.place.inside c.requires.free))
