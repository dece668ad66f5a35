-- Red-black trees of pairs of key and block, as the tables of a heap are.
pub use Rattle.tx_tree.specs.Tree.{Tree, leaf, node, rows, blacks, is_red, IsEven, IsApart}
pub use Rattle.tx_tree.specs.Hangs.{IsNodeOfRow, Hangs}
