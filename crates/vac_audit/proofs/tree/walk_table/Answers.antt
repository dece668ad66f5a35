use Rattle.std.proofs.Common.{arith, ap, sym, [], length}
use Rattle.vac_audit.specs.declared.tree.Step.TheVariants.{Left, Right}
use Rattle.vac_audit.specs.declared.tree.Turn.TheVariants.{Down, Up}
use Rattle.vac_audit.proofs.Going.{tree_start, goes_down, goes_not_down, as_pushed, turn_as, weight_pushed, weight_down}
use Rattle.vac_audit.proofs.Standing.{turn_weight}
use Rattle.vac_audit.proofs.Going.{goes_order, goes_fault, goes_right, goes_up, goes_colour, goes_done}
use Rattle.vac_audit.proofs.Standing.{room_less, lefts_append}
use Rattle.vac_audit.proofs.Going.{goes_red, popped, blocks_split, popped_weight, empty_of}
use Rattle.vac_audit.proofs.Going.{handed_table}
use Rattle.vac_audit.proofs.tree.walk_table.Goals as goal

pub walk-init : goal.walk-init
walk-init c = as_pushed c.args.words.now c.args.reached.now.items c.args.notes.now c.args.table c.args.root
    c.args.reached.now.items c.args.notes.now _ _ _ _ _ c.new-path.ensures.items
    (tree_start c.args.words.now c.args.reached.now.items c.args.notes.now c.args.table c.args.root
    (omega (arith, c.requires.inside, c.requires.marked.size)) c.requires.marked.few c.requires.ready c.requires.room)

pub returns-in_err-turn-in-Down-clause-ran : goal.returns-in_err-turn-in-Down-clause-ran
returns-in_err-turn-in-Down-clause-ran c =
    handed_table c.args.words.now c.args.reached.now.items c.follow_down.new.reached.items c.args.notes.now c.walk.notes
    c.args.table c.args.root c.from_residual.result c.in_err-turn-in-Down.field-0.0 c.from_residual.ensures.1
    (goes_not_down c.args.words.now c.args.reached.now.items c.args.notes.now c.args.table c.args.root
    c.walk.reached.items c.follow_down.new.reached.items c.walk.notes c.walk.path.items c.follow_down.new.path.items
    c.in-Down.at c.walk.above c.walk.nodes c.in_err-turn-in-Down.field-0.0
    (turn_as c.args.words.now c.args.reached.now.items c.args.notes.now c.args.table c.args.root
    c.walk.reached.items c.walk.notes c.walk.path.items c.walk.turn
    (Down c.in-Down.at) c.walk.above c.walk.nodes c.in-Down.is c.walk.invariant) c.in_err-turn-in-Down.ensures.ran)

pub walk-smaller-in-Down : goal.walk-smaller-in-Down
walk-smaller-in-Down c = omega (
  arith,
  weight_down c.args.words.now c.walk.reached.items c.follow_down.new.reached.items
      c.walk.path.items c.follow_down.new.path.items c.in-Down.at c.in_ok-turn-in-Down.turn
      c.in_ok-turn-in-Down.ensures.ran.1,
  ap turn_weight c.in-Down.is,
)

pub walk-preserved-in-Down : goal.walk-preserved-in-Down
walk-preserved-in-Down c = goes_down c.args.words.now c.args.reached.now.items c.args.notes.now c.args.table c.args.root
    c.walk.reached.items c.follow_down.new.reached.items c.walk.notes c.walk.path.items c.follow_down.new.path.items
    c.in-Down.at c.walk.above c.walk.nodes c.in_ok-turn-in-Down.turn
    (turn_as c.args.words.now c.args.reached.now.items c.args.notes.now c.args.table c.args.root c.walk.reached.items
    c.walk.notes c.walk.path.items c.walk.turn (Down c.in-Down.at) c.walk.above c.walk.nodes c.in-Down.is
    c.walk.invariant) c.follow_down.ensures.size c.in_ok-turn-in-Down.ensures.ran.0 c.in_ok-turn-in-Down.ensures.ran.1

pub returns-in_err-look_at_root-in-None-clause-ran : goal.returns-in_err-look_at_root-in-None-clause-ran
returns-in_err-look_at_root-in-None-clause-ran c =
    handed_table c.args.words.now c.args.reached.now.items c.walk.reached.items c.args.notes.now c.walk.notes
    c.args.table c.args.root c.from_residual-in_err-look_at_root-in-None.result _
    c.from_residual-in_err-look_at_root-in-None.ensures.1
    (goes_red c.args.words.now c.args.reached.now.items c.args.notes.now c.args.table c.args.root c.walk.reached.items
    c.walk.notes c.walk.above c.walk.nodes c.in-Up.done _
    (turn_as c.args.words.now c.args.reached.now.items c.args.notes.now c.args.table c.args.root
    c.walk.reached.items c.walk.notes [] c.walk.turn (Up c.in-Up.done) c.walk.above c.walk.nodes c.in-Up.is
    (as_pushed c.args.words.now c.args.reached.now.items c.args.notes.now c.args.table c.args.root
    c.walk.reached.items c.walk.notes c.walk.path.items [] c.walk.turn c.walk.above c.walk.nodes
    (empty_of c.walk.path.items (λ l. c.in-None.ensures.variant.1 (omega (arith, c.walk.path.ok))))
    c.walk.invariant)) c.in_err-look_at_root-in-None.ensures.looked)

pub returns-in-None-clause-ran : goal.returns-in-None-clause-ran
returns-in-None-clause-ran c = goes_done c.args.words.now c.args.reached.now.items c.args.notes.now c.args.table
    c.args.root c.walk.reached.items c.walk.notes c.walk.above c.walk.nodes c.in-Up.done
    (turn_as c.args.words.now c.args.reached.now.items c.args.notes.now c.args.table c.args.root c.walk.reached.items
    c.walk.notes [] c.walk.turn (Up c.in-Up.done) c.walk.above c.walk.nodes c.in-Up.is
    (as_pushed c.args.words.now c.args.reached.now.items c.args.notes.now c.args.table c.args.root c.walk.reached.items
    c.walk.notes c.walk.path.items [] c.walk.turn c.walk.above c.walk.nodes
    (empty_of c.walk.path.items (λ l. c.in-None.ensures.variant.1 (omega (arith, c.walk.path.ok)))) c.walk.invariant))
    c.in_ok-look_at_root-in-None.ensures.looked

pub look_at_key-requires-clause-inside : goal.look_at_key-requires-clause-inside
look_at_key-requires-clause-inside c = let h = (popped c.args.words.now c.args.reached.now.items c.args.notes.now
    c.args.table c.args.root c.walk.reached.items c.walk.notes c.walk.path.items c.pop.new.self.items
    c.in-Some-Left.field-0 _ c.walk.turn c.in-Up.done c.walk.above c.walk.nodes c.in-Some-Left.ensures.items
    c.in-Some-Left.field-0-is c.in-Up.is c.walk.invariant) in let b =
    blocks_split (length c.args.words.now) c.pop.new.self.items (Left c.in-Some-Left.node) h.in_blocks in b.1.1.0

pub returns-in_err-above-in-Some-Left-clause-ran : goal.returns-in_err-above-in-Some-Left-clause-ran
returns-in_err-above-in-Some-Left-clause-ran c =
    handed_table c.args.words.now c.args.reached.now.items c.walk.reached.items c.args.notes.now c.walk.notes
    c.args.table c.args.root c.from_residual-in_err-above-in-Some-Left.result _
    c.from_residual-in_err-above-in-Some-Left.ensures.1
    (goes_order c.args.words.now c.args.reached.now.items c.args.notes.now c.args.table c.args.root c.walk.reached.items
    c.walk.notes c.pop.new.self.items c.in-Some-Left.node c.walk.above c.walk.nodes c.in-Up.done _
    (popped c.args.words.now c.args.reached.now.items c.args.notes.now c.args.table c.args.root c.walk.reached.items
    c.walk.notes c.walk.path.items c.pop.new.self.items c.in-Some-Left.field-0 _ c.walk.turn c.in-Up.done
    c.walk.above c.walk.nodes c.in-Some-Left.ensures.items c.in-Some-Left.field-0-is c.in-Up.is c.walk.invariant)
    c.in_err-above-in-Some-Left.ensures.looked)

pub look_at_node-requires-clause-inside : goal.look_at_node-requires-clause-inside
look_at_node-requires-clause-inside c = let h = (popped c.args.words.now c.args.reached.now.items c.args.notes.now
    c.args.table c.args.root c.walk.reached.items c.walk.notes c.walk.path.items c.pop.new.self.items
    c.in-Some-Left.field-0 _ c.walk.turn c.in-Up.done c.walk.above c.walk.nodes c.in-Some-Left.ensures.items
    c.in-Some-Left.field-0-is c.in-Up.is c.walk.invariant) in let b =
    blocks_split (length c.args.words.now) c.pop.new.self.items (Left c.in-Some-Left.node) h.in_blocks in b.1.1.0

pub look_at_node-requires-clause-room : goal.look_at_node-requires-clause-room
look_at_node-requires-clause-room c = let h = (popped c.args.words.now c.args.reached.now.items c.args.notes.now
    c.args.table c.args.root c.walk.reached.items c.walk.notes c.walk.path.items c.pop.new.self.items
    c.in-Some-Left.field-0 _ c.walk.turn c.in-Up.done c.walk.above c.walk.nodes c.in-Some-Left.ensures.items
    c.in-Some-Left.field-0-is c.in-Up.is c.walk.invariant) in let b =
    blocks_split (length c.args.words.now) c.pop.new.self.items (Left c.in-Some-Left.node) h.in_blocks in
    room_less c.args.table c.walk.notes _ 1 (omega (
      arith,
      lefts_append c.pop.new.self.items
          (Left c.in-Some-Left.node),
    )) h.room

pub returns-in_err-look_at_node-in-Some-Left-clause-ran : goal.returns-in_err-look_at_node-in-Some-Left-clause-ran
returns-in_err-look_at_node-in-Some-Left-clause-ran c =
    handed_table c.args.words.now c.args.reached.now.items c.look_at_node.new.reached.items c.args.notes.now
    c.look_at_node.new.notes c.args.table c.args.root c.from_residual-in_err-look_at_node-in-Some-Left.result
    c.in_err-look_at_node-in-Some-Left.field-0.0 c.from_residual-in_err-look_at_node-in-Some-Left.ensures.1
    (goes_fault c.args.words.now c.args.reached.now.items c.args.notes.now c.args.table c.args.root c.walk.reached.items
    c.look_at_node.new.reached.items c.walk.notes c.look_at_node.new.notes c.pop.new.self.items c.in-Some-Left.node
    c.walk.above c.walk.nodes c.in-Up.done c.in_err-look_at_node-in-Some-Left.field-0.0
    (popped c.args.words.now c.args.reached.now.items c.args.notes.now c.args.table c.args.root c.walk.reached.items
    c.walk.notes c.walk.path.items c.pop.new.self.items c.in-Some-Left.field-0 _ c.walk.turn c.in-Up.done
    c.walk.above c.walk.nodes c.in-Some-Left.ensures.items c.in-Some-Left.field-0-is c.in-Up.is c.walk.invariant)
    c.in_ok-above-in-Some-Left.ensures.looked.0 c.in_err-look_at_node-in-Some-Left.ensures.ran)

pub overflow_add-node : goal.overflow_add-node
overflow_add-node c = let h = (popped c.args.words.now c.args.reached.now.items c.args.notes.now c.args.table
    c.args.root c.walk.reached.items c.walk.notes c.walk.path.items c.pop.new.self.items c.in-Some-Left.field-0 _
    c.walk.turn c.in-Up.done c.walk.above c.walk.nodes c.in-Some-Left.ensures.items c.in-Some-Left.field-0-is c.in-Up.is
    c.walk.invariant) in let b = blocks_split (length c.args.words.now) c.pop.new.self.items
    (Left c.in-Some-Left.node) h.in_blocks in omega (arith, b.1.1.0, c.requires.marked.size, c.requires.marked.few)

pub walk-smaller-in-Some-Left : goal.walk-smaller-in-Some-Left
walk-smaller-in-Some-Left c = omega (
  arith,
  c.in_ok-look_at_node-in-Some-Left.ensures.fewer,
  weight_pushed _ _ _ c.in_ok-turn-in-Some-Left.ensures.down,
  popped_weight _ _ _ _ c.in-Some-Left.ensures.items c.in-Some-Left.field-0-is,
  ap turn_weight c.in-Up.is,
  ap turn_weight c.in_ok-turn-in-Some-Left.ensures.on,
)

pub walk-preserved-in-Some-Left : goal.walk-preserved-in-Some-Left
walk-preserved-in-Some-Left c =
    let h = (popped c.args.words.now c.args.reached.now.items c.args.notes.now c.args.table c.args.root
    c.walk.reached.items c.walk.notes c.walk.path.items c.pop.new.self.items c.in-Some-Left.field-0 _ c.walk.turn
    c.in-Up.done c.walk.above c.walk.nodes c.in-Some-Left.ensures.items c.in-Some-Left.field-0-is c.in-Up.is
    c.walk.invariant) in let b = blocks_split (length c.args.words.now) c.pop.new.self.items
    (Left c.in-Some-Left.node) h.in_blocks in
    turn_as c.args.words.now c.args.reached.now.items c.args.notes.now c.args.table c.args.root
    c.look_at_node.new.reached.items c.look_at_node.new.notes _ _ _ _ _ (sym c.in_ok-turn-in-Some-Left.ensures.on)
    (as_pushed c.args.words.now c.args.reached.now.items c.args.notes.now c.args.table c.args.root
    c.look_at_node.new.reached.items c.look_at_node.new.notes _ _ _ _ _ c.in_ok-turn-in-Some-Left.ensures.down
    (goes_right c.args.words.now c.args.reached.now.items c.args.notes.now c.args.table c.args.root c.walk.reached.items
    c.look_at_node.new.reached.items c.walk.notes c.look_at_node.new.notes c.pop.new.self.items c.in-Some-Left.node
    c.walk.above c.in_ok-above-in-Some-Left.above c.walk.nodes c.in-Up.done h b.1 b.0
    c.in_ok-above-in-Some-Left.ensures.key c.in_ok-above-in-Some-Left.ensures.looked c.look_at_node.ensures.size
    c.in_ok-look_at_node-in-Some-Left.ensures.fewer c.in_ok-look_at_node-in-Some-Left.ensures.ready
    c.in_ok-look_at_node-in-Some-Left.ensures.pushed c.in_ok-look_at_node-in-Some-Left.ensures.ran))

pub look_at_colour-requires-clause-inside : goal.look_at_colour-requires-clause-inside
look_at_colour-requires-clause-inside c = let h = (popped c.args.words.now c.args.reached.now.items c.args.notes.now
    c.args.table c.args.root c.walk.reached.items c.walk.notes c.walk.path.items c.pop.new.self.items
    c.in-Some-Right.field-0 _ c.walk.turn c.in-Up.done c.walk.above c.walk.nodes c.in-Some-Right.ensures.items
    c.in-Some-Right.field-0-is c.in-Up.is c.walk.invariant) in let b =
    blocks_split (length c.args.words.now) c.pop.new.self.items
    (Right c.in-Some-Right.node c.in-Some-Right.left) h.in_blocks in b.1.1.0

pub returns-in_err-side-in-Some-Right-clause-ran : goal.returns-in_err-side-in-Some-Right-clause-ran
returns-in_err-side-in-Some-Right-clause-ran c =
    handed_table c.args.words.now c.args.reached.now.items c.walk.reached.items c.args.notes.now c.walk.notes
    c.args.table c.args.root c.from_residual-in_err-side-in-Some-Right.result _
    c.from_residual-in_err-side-in-Some-Right.ensures.1
    (goes_colour c.args.words.now c.args.reached.now.items c.args.notes.now c.args.table c.args.root
    c.walk.reached.items c.walk.notes c.pop.new.self.items c.in-Some-Right.node c.walk.above c.walk.nodes
    c.in-Some-Right.left c.in-Up.done _ (popped c.args.words.now c.args.reached.now.items c.args.notes.now
    c.args.table c.args.root c.walk.reached.items c.walk.notes c.walk.path.items c.pop.new.self.items
    c.in-Some-Right.field-0 _ c.walk.turn c.in-Up.done c.walk.above c.walk.nodes c.in-Some-Right.ensures.items
    c.in-Some-Right.field-0-is c.in-Up.is c.walk.invariant) c.in_err-side-in-Some-Right.ensures.looked)

pub walk-smaller : goal.walk-smaller
walk-smaller c = omega (
  arith,
  popped_weight _ _ _ _ c.in-Some-Right.ensures.items c.in-Some-Right.field-0-is,
  ap turn_weight c.in-Up.is,
)

pub walk-preserved : goal.walk-preserved
walk-preserved c =
    let h = (popped c.args.words.now c.args.reached.now.items c.args.notes.now c.args.table c.args.root
    c.walk.reached.items c.walk.notes c.walk.path.items c.pop.new.self.items c.in-Some-Right.field-0 _ c.walk.turn
    c.in-Up.done c.walk.above c.walk.nodes c.in-Some-Right.ensures.items c.in-Some-Right.field-0-is c.in-Up.is
    c.walk.invariant) in let b = blocks_split (length c.args.words.now) c.pop.new.self.items
    (Right c.in-Some-Right.node c.in-Some-Right.left) h.in_blocks in
    goes_up c.args.words.now c.args.reached.now.items c.args.notes.now c.args.table c.args.root c.walk.reached.items
    c.walk.notes c.pop.new.self.items c.in-Some-Right.node c.walk.above c.walk.nodes c.in-Some-Right.left
    c.in-Up.done _ h b.0 c.in_ok-side-in-Some-Right.ensures.low c.in_ok-side-in-Some-Right.ensures.looked
