-- Each step of the code's walk of a table keeps its relation to the definition's walk.
use Rattle.std.proofs.Common.{◌≡◌, inl, inr, ℕ, ◌+◌, ◌*◌, ◌%◌, ◌<◌, ◌≤◌, Bool, true, false, List, []}
use Rattle.std.proofs.Common.{◌∷◌, ◌++◌, length, zero, suc, refl, sym, ap, ◌∙◌, subst, arith, nat_eq, length-append}
use Rattle.std.specs.Result.{IsErrAnd}
use Rattle.std.specs.Prelude.{Result, Ok, Err, Some, None, IfErr, IfOk, OnOk, slice_index, not}
use Rattle.std.proofs.lemmas.List.{append_assoc}
use Rattle.tx_alloc.specs.Pool.{IsBlock}
use Rattle.tx_alloc.specs.Rows.{Rows}
use Rattle.vac_audit.specs.Tree.{Tree, leaf, node, rows, is_red}
use Rattle.vac_audit.specs.Walk.{Seen, Look, wants, above, is_key, walk_tree, walk_table}
use Rattle.vac_audit.specs.Marks.{Marks, Followed, unmarked}
use Rattle.vac_audit.specs.TreeRan.{IsSide, TableRan, KeyLooked, RootLooked, WentDown, DownFlaw, DownRan, ColourLooked}
use Rattle.vac_audit.specs.TreeRan.{LookRan, NodeLooked, Noted, Indexed, Ready, HasRoomForItems, Pushed, look_of}
use Rattle.vac_audit.specs.declared.Flaw.{Flaw}
use Rattle.vac_audit.specs.declared.Flaw.TheVariants.{Shared, Order, Colour}
use Rattle.vac_audit.specs.declared.notes.Notes.{Notes}
use Rattle.vac_audit.specs.declared.tree.Fault.{Fault}
use Rattle.vac_audit.specs.declared.tree.Fault.TheVariants.{Memory, Found}
use Rattle.vac_audit.specs.declared.tree.Side.{Side}
use Rattle.vac_audit.specs.declared.tree.Step.{Step}
use Rattle.vac_audit.specs.declared.tree.Step.TheVariants.{Left, Right}
use Rattle.vac_audit.specs.declared.tree.Table.{Table}
use Rattle.vac_audit.specs.declared.tree.Turn.{Turn}
use Rattle.vac_audit.specs.declared.tree.Turn.TheVariants.{Down, Up}
use Rattle.vac_audit.proofs.Noting.{noted_more, noted_none}
use Rattle.vac_audit.proofs.Running.{then_err}
use Rattle.vac_audit.proofs.Stack.{Frame, in_left, in_right, least, unwind, down_end, down_flaw, down_out, down_block}
use Rattle.vac_audit.proofs.Stack.{left_order, left_flaw, left_done, right_flaw, right_done, above_node}
use Rattle.vac_audit.proofs.Steps.{then_with, test_with, enter_ok}
use Rattle.vac_audit.proofs.Standing.{node_of, AllBlocks, no_end, last_same, weight, turn_weight, lefts, IsStep}
use Rattle.vac_audit.proofs.Standing.{IsPath, rows_above, Once, once_down, once_left, once_other, rows_none}
use Rattle.vac_audit.proofs.Standing.{ready_less, room_less, room_next, indexed_as, unmarked_few, whole, StopsAt}
use Rattle.vac_audit.proofs.Standing.{TreeRest, TreeGoes, path_length, blocks_pushed, weight_append, lefts_append}
use Rattle.vac_audit.proofs.Standing.{table_flaw, key_as, fresh_block}

-- a red tree is in a block
red_block : (m : ℕ → ℕ) (n : ℕ) (look : Look) (levels a lo : ℕ) (s : Seen) (x : Tree × Seen) →
    walk_tree m n look (suc levels) a lo s ≡ Ok x → is_red x.0 ≡ true → IsBlock n (m a)
red_block m n look levels a lo s x e red = enter_ok _ m n a s.blocks _ _ x e
    (λ z q. let r : (leaf, s) ≡ x = cc in
    absurd (let w : is_red leaf ≡ true = subst (λ (y : Tree × Seen). is_red y.0 ≡ true) (sym r) red in
    let v : false ≡ true = w in cc))
    (λ p h q. subst (λ (z : ℕ). IsBlock n z) (sym h.at) h.block)

module _ (words : List ℕ) (marks0 : List Bool) (notes0 : Notes) (table : Table) (root : ℕ) where
  abbrev Goes : List Bool → Notes → List Step → Turn → ℕ → ℕ → Type 0
  Goes marks notes path turn from nodes = TreeGoes words marks0 notes0 table root marks notes path turn from nodes

  abbrev Rest : Look → Seen → List Bool → Notes → List Step → Turn → ℕ → ℕ → Type 0
  Rest look s0 marks notes path turn from nodes = TreeRest words
      (length marks0) root look s0 notes0 table marks notes path turn from nodes

  -- the definition's result is this flaw
  abbrev pub Flawed : Flaw → Type 0
  Flawed f = (tables : ℕ → Rows) → Indexed table notes0 tables → (s0 : Seen) → Marks marks0 s0.blocks
      → walk_table (slice_index words) (length words) (look_of (slice_index words) (length words) tables
      (suc (length marks0)) table) (suc (length marks0)) root s0 ≡ Err f

  pub tree_start : root < length words → length marks0 ≤ 262144 → Ready table notes0 (unmarked marks0) →
      HasRoomForItems table notes0 (unmarked marks0) → Goes marks0 notes0 [] (Down root) 1 0
  tree_start l few ready room = record {
    size = refl;
    in_blocks = tt;
    turn_in = l;
    key = omega arith;
    ready = ready;
    room = room_less table notes0 (unmarked marks0) (unmarked marks0 + 0) (omega arith) room;
    few = omega (arith, unmarked_few marks0);
    rest = λ tables ix s0 s. record {
      frames = [];
      levels = suc (length marks0);
      seen = s0;
      done = [];
      are = s;
      path_is = refl;
      count = omega arith;
      once = λ x. inl (omega arith);
      many = refl;
      noted = noted_none table (slice_index words) notes0 s0.lists;
      stands = (refl, refl, refl);
    };
  }

  -- a pointer that is the end
  pub goes_end : (marks marks' : List Bool) (notes : Notes) (path : List Step) (at from nodes : ℕ) (side : Side) →
      Goes marks notes path (Down at) from nodes → length path ≤ length marks
      → length marks' ≡ length marks → unmarked marks' ≡ unmarked marks → Followed words marks marks' at (Ok None) →
      side.blacks ≡ 0 → side.red ≡ false → Goes marks' notes path (Up side) from nodes
  goes_end marks marks' notes path at from nodes side h few size fewer f black red = record {
    size = size ∙ h.size;
    in_blocks = h.in_blocks;
    turn_in = omega (arith, h.size);
    key = h.key;
    ready = ready_less table notes (unmarked marks) (unmarked marks') (omega (arith, fewer)) h.ready;
    room = room_less table notes (unmarked marks + lefts path) (unmarked marks' + lefts path)
        (omega (arith, fewer)) h.room;
    few = omega (arith, h.few, fewer);
    rest = λ tables ix s0 s. let r = h.rest tables ix s0 s in
        go (look_of (slice_index words) (length words) tables (suc (length marks0)) table) s0 r r.levels r.count
        r.stands;
  } where
    go : (look : Look) (s0 : Seen) (r : Rest look s0 marks notes path (Down at) from nodes) (levels : ℕ) →
        levels + length r.frames ≡ suc (length marks0) → StopsAt words (length marks0) root look s0
        (Down at) r.frames levels from r.seen r.done
        → Rest look s0 marks' notes path (Up side) from nodes
    go look s0 r zero c k = absurd (omega (arith, c, path_length path r.frames r.path_is, h.size))
    go look s0 r (suc l) c k =
        let g = f r.seen.blocks r.are in
        record {
          frames = r.frames;
          levels = suc l;
          seen = r.seen;
          done = r.done;
          are = g.1;
          path_is = r.path_is;
          count = c;
          once = r.once;
          many = r.many;
          noted = r.noted;
          stands = (
            leaf,
            (
              record { blacks = black; red = red },
              k.0,
              down_end (slice_index words) (length words) look r.frames l at r.seen
                  (whole words (length marks0) root look s0) g.0 k.1,
              k.2 ∙ rows_none (rows_above (slice_index words) r.frames),
            ),
          );
        }

  -- a pointer to a block
  pub goes_block : (marks marks' : List Bool) (notes : Notes) (path : List Step) (at p from nodes : ℕ) →
      Goes marks notes path (Down at) from nodes → length path ≤ length marks
      → length marks' ≡ length marks → unmarked marks' + 1 ≡ unmarked marks →
      Followed words marks marks' at (Ok (Some p)) → IsBlock (length words) p →
      Goes marks' notes (path ++ (Left p ∷ [])) (Down (p + 1)) from nodes
  goes_block marks marks' notes path at p from nodes h few size fewer f b = record {
    size = size ∙ h.size;
    in_blocks = blocks_pushed (length words) path (Left p) h.in_blocks b;
    turn_in = omega (arith, b.1.0);
    key = h.key;
    ready = ready_less table notes (unmarked marks) (unmarked marks') (omega (arith, fewer)) h.ready;
    room = room_less table notes (unmarked marks + lefts path) (unmarked marks' + lefts (path ++ (Left p ∷ [])))
        (omega (arith, fewer, lefts_append path (Left p))) h.room;
    few = omega (arith, h.few, fewer, lefts_append path (Left p));
    rest = λ tables ix s0 s. let r = h.rest tables ix s0 s in
        go (look_of (slice_index words) (length words) tables (suc (length marks0)) table) s0 r r.levels r.count
        r.stands;
  } where
    go : (look : Look) (s0 : Seen) (r : Rest look s0 marks notes path (Down at) from nodes) (levels : ℕ) →
        levels + length r.frames ≡ suc (length marks0) → StopsAt words (length marks0) root look s0
        (Down at) r.frames levels from r.seen r.done
        → Rest look s0 marks' notes (path ++ (Left p ∷ [])) (Down (p + 1)) from nodes
    go look s0 r zero c k = absurd (omega (arith, c, path_length path r.frames r.path_is, h.size))
    go look s0 r (suc l) c k =
        let g = f r.seen.blocks r.are in
        record {
          frames = in_left p ∷ r.frames;
          levels = l;
          seen = record r.seen { blocks = p ∷ r.seen.blocks };
          done = r.done;
          are = g.2;
          path_is = (path, (Left p, (refl, refl, r.path_is)));
          count = omega arith;
          once = once_down r.frames r.done r.seen.blocks p (fresh_block (slice_index words)
              (length words) at r.seen.blocks p g.0 b) r.once;
          many = r.many;
          noted = r.noted;
          stands = (
            k.0,
            down_block (slice_index words) (length words) look r.frames l at p r.seen
                (whole words (length marks0) root look s0) g.0 b k.1,
            k.2,
          );
        }

  pub goes_flaw : (marks marks' : List Bool) (notes : Notes) (path : List Step) (at from nodes : ℕ) (flaw : Flaw) →
      Goes marks notes path (Down at) from nodes → length path ≤ length marks
      → Followed words marks marks' at (Err flaw) → Flawed flaw
  goes_flaw marks marks' notes path at from nodes flaw h few f tables ix s0 s = let r = h.rest tables ix s0 s in
      go (look_of (slice_index words) (length words) tables (suc (length marks0)) table) r r.levels r.count r.stands
    where
      go : (look : Look) (r : Rest look s0 marks notes path (Down at) from nodes) (levels : ℕ) →
          levels + length r.frames ≡ suc (length marks0) → StopsAt words (length marks0) root look s0
          (Down at) r.frames levels from r.seen r.done
          → walk_table (slice_index words) (length words) look (suc (length marks0)) root s0 ≡ Err flaw
      go look r zero c k = absurd (omega (arith, c, path_length path r.frames r.path_is, h.size))
      go look r (suc l) c k = table_flaw words (length marks0) root look s0 flaw
          (down_flaw (slice_index words) (length words) look r.frames l at r.seen
          (whole words (length marks0) root look s0) flaw (f r.seen.blocks r.are) k.1)

  -- the path is too deep
  pub goes_out : (marks : List Bool) (notes : Notes) (path : List Step) (at from nodes : ℕ) →
      Goes marks notes path (Down at) from nodes → length marks < length path → Flawed (Shared at)
  goes_out marks notes path at from nodes h many tables ix s0 s = let r = h.rest tables ix s0 s in
      go (look_of (slice_index words) (length words) tables (suc (length marks0)) table) r r.levels r.count r.stands
    where
      go : (look : Look) (r : Rest look s0 marks notes path (Down at) from nodes) (levels : ℕ) →
          levels + length r.frames ≡ suc (length marks0) → StopsAt words (length marks0) root look s0
          (Down at) r.frames levels from r.seen r.done
          → walk_table (slice_index words) (length words) look (suc (length marks0)) root s0 ≡ Err (Shared at)
      go look r zero c k = table_flaw words (length marks0) root look s0 (Shared at)
          (down_out (slice_index words) (length words) look r.frames at r.seen
          (whole words (length marks0) root look s0) k.1)
      go look r (suc l) c k = absurd (omega (arith, c, path_length path r.frames r.path_is, h.size))

  -- the walk that remains after a left side was walked
  pub record LeftRest (look : Look) (s0 : Seen) (marks : List Bool) (notes : Notes) (path : List Step)
      (p from nodes : ℕ) (side : Side) : Type 0 where
    pub frames : List Frame
    pub levels : ℕ
    pub seen : Seen
    pub done : Rows
    pub t : Tree
    pub is_t : IsSide side t
    pub are : Marks marks seen.blocks
    pub path_is : IsPath path frames
    pub count : levels + suc (length frames) ≡ suc (length marks0)
    pub once : Once (in_left p ∷ frames) done seen.blocks
    pub many : nodes ≡ length done
    pub noted : Noted table (slice_index words) notes0 notes done seen.lists
    pub low : from ≡ above (least (slice_index words) frames) (rows t)
    pub stands : unwind (slice_index words) (length words) look (in_left p ∷ frames) levels (Ok (t, seen)) ≡ whole words
        (length marks0) root look s0
    pub rows_are : done ≡ rows_above (slice_index words) frames ++ rows t

  left_rest : (look : Look) (s0 : Seen) (marks : List Bool) (notes : Notes) (path : List Step) (p from nodes : ℕ)
      (side : Side) → Rest look s0 marks notes (path ++ (Left p ∷ [])) (Up side) from nodes →
      LeftRest look s0 marks notes path p from nodes side
  left_rest look s0 marks notes path p from nodes side r = go r.frames r.path_is r.count r.once r.stands
    where
      go : (fs : List Frame) → IsPath (path ++ (Left p ∷ [])) fs → r.levels + length fs ≡ suc (length marks0) →
          Once fs r.done r.seen.blocks → StopsAt words (length marks0) root look s0
          (Up side) fs r.levels from r.seen r.done → LeftRest look s0 marks notes path p from nodes side
      go [] e c o k = absurd (no_end path (Left p) e)
      go (in_left q ∷ fs) e c o k =
          let same = last_same path e.0 (Left p) e.1.0 e.1.1.0 in
          let q_is : p ≡ q = subst (λ (z : Step). IsStep z (in_left q)) (sym same.1) e.1.1.1 in
          record {
            frames = fs;
            levels = r.levels;
            seen = r.seen;
            done = r.done;
            t = k.0;
            is_t = k.1.0;
            are = r.are;
            path_is = subst (λ (z : List Step). IsPath z fs) (sym same.0) e.1.1.2;
            count = c;
            once = subst (λ (z : ℕ). Once (in_left z ∷ fs) r.done r.seen.blocks) (sym q_is) o;
            many = r.many;
            noted = r.noted;
            low = k.1.1;
            stands = subst (λ (z : ℕ). unwind (slice_index words) (length words) look (in_left z ∷ fs) r.levels
                (Ok (k.0, r.seen)) ≡ whole words (length marks0) root look s0) (sym q_is) k.1.2;
            rows_are = k.1.3;
          }
      go (in_right q t ∷ fs) e c o k = let same = last_same path e.0 (Left p) e.1.0 e.1.1.0 in
          absurd (subst (λ (z : Step). IsStep z (in_right q t)) (sym same.1) e.1.1.1)

  -- the test of a node, with the levels of the start
  looked_node : (marks marks' : List Bool) (notes notes' : Notes) (p : ℕ) (tables : ℕ → Rows) (s : Seen) →
      length marks ≡ length marks0 → LookRan words marks marks' notes notes' table p (Ok tt) →
      Indexed table notes tables → Marks marks s.blocks
      → NodeLooked words marks marks' notes notes' table p (look_of (slice_index words) (length words) tables
      (suc (length marks0)) table) s
  looked_node marks marks' notes notes' p tables s e f ix a =
      subst (λ (z : ℕ). NodeLooked words marks marks' notes notes' table p
      (look_of (slice_index words) (length words) tables (suc z) table) s) e (f tables ix s a)

  looked_flaw : (marks marks' : List Bool) (notes notes' : Notes) (p : ℕ) (tables : ℕ → Rows) (s : Seen) (flaw : Flaw) →
      length marks ≡ length marks0 → LookRan words marks marks' notes notes' table p (Err (Found flaw)) →
      Indexed table notes tables → Marks marks s.blocks
      → look_of (slice_index words) (length words) tables (suc (length marks0)) table p s ≡ Err flaw
  looked_flaw marks marks' notes notes' p tables s flaw e f ix a =
      subst (λ (z : ℕ). look_of (slice_index words) (length words) tables (suc z) table p s ≡ Err flaw) e
      (f tables ix s a)

  -- the right side of a node whose left side was walked
  pub goes_right : (marks marks' : List Bool) (notes notes' : Notes) (path : List Step) (p from next nodes : ℕ)
      (side : Side) → Goes marks notes (path ++ (Left p ∷ [])) (Up side) from nodes
      → IsBlock (length words) p → AllBlocks (length words) path → slice_index words p < 4294967296 →
      KeyLooked words p from (Ok next) → length marks' ≡ length marks → unmarked marks' ≤ unmarked marks
      → Ready table notes' (unmarked marks') → Pushed table notes notes' →
      LookRan words marks marks' notes notes' table p (Ok tt)
      → Goes marks' notes' (path ++ (Right p side ∷ [])) (Down (p + 2)) next (nodes + 1)
  goes_right marks marks' notes notes' path p from next nodes side h b all small looked size fewer ready pushed f =
      record {
        size = size ∙ h.size;
        in_blocks = blocks_pushed (length words) path (Right p side) all b;
        turn_in = omega (arith, b.1.0);
        key = omega (arith, small, looked.1);
        ready = ready;
        room = room_next table notes notes' (unmarked marks + lefts (path ++ (Left p ∷ [])))
            (unmarked marks' + lefts (path ++ (Right p side ∷ [])))
            (omega (arith, fewer, lefts_append path (Left p), lefts_append path (Right p side))) pushed h.room;
        few = omega (arith, h.few, fewer, lefts_append path (Left p), lefts_append path (Right p side));
        rest = λ tables ix s0 s. go tables ix s0 (left_rest (look_of (slice_index words) (length words) tables
            (suc (length marks0)) table) s0 marks notes path p from nodes side (h.rest tables ix s0 s));
      } where
        go : (tables : ℕ → Rows) → Indexed table notes0 tables → (s0 : Seen) →
            LeftRest (look_of (slice_index words) (length words) tables (suc (length marks0)) table) s0 marks notes path
            p
            from nodes side
            → Rest (look_of (slice_index words) (length words) tables (suc (length marks0)) table) s0 marks' notes'
            (path ++ (Right p side ∷ [])) (Down (p + 2)) next (nodes + 1)
        go tables ix s0 r =
            let look = look_of (slice_index words) (length words) tables (suc (length marks0)) table in
            let g = looked_node marks marks' notes notes' p tables r.seen h.size f
            (indexed_as table (slice_index words) notes0 notes r.done r.seen.lists tables r.noted ix) r.are in
            let key : is_key (slice_index words) p (above (least (slice_index words) r.frames) (rows r.t)) ≡ true =
            key_as (slice_index words) p from _ true r.low looked.0 in
            record {
              frames = in_right p r.t ∷ r.frames;
              levels = r.levels;
              seen = g.s';
              done = r.done ++ ((slice_index words p, p) ∷ []);
              are = g.are;
              path_is = (path, (Right p side, (refl, (refl, r.is_t), r.path_is)));
              count = r.count;
              once = once_left r.frames r.done r.seen.blocks g.s'.blocks (slice_index words p) p r.t g.more r.once;
              many = omega (arith, r.many, length-append r.done ((slice_index words p, p) ∷ []));
              noted = noted_more (slice_index words) notes0 notes notes' r.done
                  (slice_index words p) p r.seen.lists g.s'.lists
                  (λ q o. g.kept q (once_other r.frames r.done r.seen.blocks p q r.once o)) table r.noted g.noted;
              stands = (
                looked.1,
                left_done (slice_index words) (length words) look r.frames r.levels p r.t r.seen g.s'
                    (whole words (length marks0) root look s0) key g.is r.stands,
                ap (λ (z : Rows). z ++ ((slice_index words p, p) ∷ [])) r.rows_are ∙
                    append_assoc (rows_above (slice_index words) r.frames) (rows r.t) ((slice_index words p, p) ∷ []),
              );
            }

  pub goes_order : (marks : List Bool) (notes : Notes) (path : List Step) (p from nodes : ℕ) (side : Side) (flaw : Flaw)
      → Goes marks notes (path ++ (Left p ∷ [])) (Up side) from nodes
      → KeyLooked words p from (Err flaw) → Flawed flaw
  goes_order marks notes path p from nodes side flaw h bad tables ix s0 s =
      let look = look_of (slice_index words) (length words) tables (suc (length marks0)) table in
      let r = left_rest look s0 marks notes path p from nodes side (h.rest tables ix s0 s) in
      subst (λ (z : Flaw). walk_table (slice_index words) (length words) look (suc (length marks0)) root s0 ≡ Err z)
      (sym bad.1)
      (table_flaw words (length marks0) root look s0 (Order p)
      (left_order (slice_index words) (length words) look r.frames r.levels p r.t r.seen
      (whole words (length marks0) root look s0)
      (key_as (slice_index words) p from _ false r.low bad.0) r.stands))

  pub goes_looked : (marks marks' : List Bool) (notes notes' : Notes) (path : List Step) (p from nodes : ℕ)
      (side : Side) (flaw : Flaw) → Goes marks notes (path ++ (Left p ∷ [])) (Up side) from nodes
      → is_key (slice_index words) p from ≡ true → LookRan words marks marks' notes notes' table p (Err (Found flaw)) →
      Flawed flaw
  goes_looked marks marks' notes notes' path p from nodes side flaw h holds f tables ix s0 s =
      let look = look_of (slice_index words) (length words) tables (suc (length marks0)) table in
      let r = left_rest look s0 marks notes path p from nodes side (h.rest tables ix s0 s) in
      let key : is_key (slice_index words) p (above (least (slice_index words) r.frames) (rows r.t)) ≡ true =
      key_as (slice_index words) p from _ true r.low holds in
      let e = looked_flaw marks marks' notes notes' p tables r.seen flaw h.size f
      (indexed_as table (slice_index words) notes0 notes r.done r.seen.lists tables r.noted ix) r.are in
      table_flaw words (length marks0) root look s0 flaw (left_flaw (slice_index words)
      (length words) look r.frames r.levels p r.t r.seen
      (whole words (length marks0) root look s0) flaw key e r.stands)

  pub goes_fault : (marks marks' : List Bool) (notes notes' : Notes) (path : List Step) (p from nodes : ℕ) (side : Side)
      (fault : Fault) → Goes marks notes (path ++ (Left p ∷ [])) (Up side) from nodes
      → is_key (slice_index words) p from ≡ true → LookRan words marks marks' notes notes' table p (Err fault) →
      TableRan words marks0 marks' notes0 notes' table root (Err fault)
  goes_fault marks marks' notes notes' path p from nodes side Memory h holds f tables ix s0 s = tt
  goes_fault marks marks' notes notes' path p from nodes side (Found flaw) h holds f tables ix s0 s =
      goes_looked marks marks' notes notes' path p from nodes side flaw h holds f tables ix s0 s

  -- a node whose right side was walked
  pub record RightRest (look : Look) (s0 : Seen) (marks : List Bool) (notes : Notes) (path : List Step)
      (p from nodes : ℕ) (left right : Side) : Type 0 where
    pub frames : List Frame
    pub levels : ℕ
    pub seen : Seen
    pub done : Rows
    pub are : Marks marks seen.blocks
    pub path_is : IsPath path frames
    pub count : levels + suc (length frames) ≡ suc (length marks0)
    pub once : Once frames done seen.blocks
    pub many : nodes ≡ length done
    pub noted : Noted table (slice_index words) notes0 notes done seen.lists
    pub l : Tree
    pub t : Tree
    pub is_l : IsSide left l
    pub is_t : IsSide right t
    pub low : from ≡ above (slice_index words p + 1) (rows t)
    pub stands : unwind (slice_index words) (length words) look (in_right p l ∷ frames) levels
        (Ok (t, seen)) ≡ whole words (length marks0) root look s0
    pub rows_are : done ≡ (rows_above (slice_index words) frames ++ (rows l ++ ((slice_index words p, p) ∷ []))) ++ rows
        t

  right_rest : (look : Look) (s0 : Seen) (marks : List Bool) (notes : Notes) (path : List Step) (p from nodes : ℕ)
      (left right : Side) → Rest look s0 marks notes (path ++ (Right p left ∷ [])) (Up right) from nodes
      → RightRest look s0 marks notes path p from nodes left right
  right_rest look s0 marks notes path p from nodes left right r = go r.frames r.path_is r.count r.once r.stands
    where
      go : (fs : List Frame) → IsPath (path ++ (Right p left ∷ [])) fs → r.levels + length fs ≡ suc (length marks0) →
          Once fs r.done r.seen.blocks → StopsAt words (length marks0) root look s0
          (Up right) fs r.levels from r.seen r.done → RightRest look s0 marks notes path p from nodes left right
      go [] e c o k = absurd (no_end path (Right p left) e)
      go (in_left q ∷ fs) e c o k = let same = last_same path e.0 (Right p left) e.1.0 e.1.1.0 in
          absurd (subst (λ (z : Step). IsStep z (in_left q)) (sym same.1) e.1.1.1)
      go (in_right q l ∷ fs) e c o k =
          let same = last_same path e.0 (Right p left) e.1.0 e.1.1.0 in
          let is : (p ≡ q) × IsSide left l = subst (λ (z : Step). IsStep z (in_right q l)) (sym same.1) e.1.1.1 in
          record {
            frames = fs;
            levels = r.levels;
            seen = r.seen;
            done = r.done;
            are = r.are;
            path_is = subst (λ (z : List Step). IsPath z fs) (sym same.0) e.1.1.2;
            count = c;
            once = o;
            many = r.many;
            noted = r.noted;
            l = l;
            t = k.0;
            is_l = is.1;
            is_t = k.1.0;
            low = subst (λ (z : ℕ). from ≡ above (slice_index words z + 1) (rows k.0)) (sym is.0) k.1.1;
            stands = subst (λ (z : ℕ). unwind (slice_index words) (length words) look (in_right z l ∷ fs) r.levels
                (Ok (k.0, r.seen)) ≡ whole words (length marks0) root look s0) (sym is.0) k.1.2;
            rows_are = subst (λ (z : ℕ). r.done ≡ (rows_above (slice_index words) fs ++
                (rows l ++ ((slice_index words z, z) ∷ []))) ++ rows k.0) (sym is.0) k.1.3;
          }

  pub goes_colour : (marks : List Bool) (notes : Notes) (path : List Step) (p from nodes : ℕ) (left right : Side)
      (f : Flaw) → Goes marks notes (path ++ (Right p left ∷ [])) (Up right) from nodes
      → ColourLooked words p left right (Err f) → Flawed f
  goes_colour marks notes path p from nodes left right f h looked tables ix s0 s =
      let look = look_of (slice_index words) (length words) tables (suc (length marks0)) table in
      let r = right_rest look s0 marks notes path p from nodes left right (h.rest tables ix s0 s) in
      let c = looked r.l r.t r.is_l r.is_t in
      subst (λ (z : Flaw). walk_table (slice_index words) (length words) look (suc (length marks0)) root s0 ≡ Err z)
      (sym c.1)
      (table_flaw words (length marks0) root look s0 (Colour (p + 3))
      (right_flaw (slice_index words) (length words) look r.frames r.levels p r.l r.t r.seen
      (whole words (length marks0) root look s0) c.0 r.stands))

  pub goes_up : (marks : List Bool) (notes : Notes) (path : List Step) (p from nodes : ℕ) (left right side : Side) →
      Goes marks notes (path ++ (Right p left ∷ [])) (Up right) from nodes
      → AllBlocks (length words) path → side.blacks ≤ right.blacks + 1 → ColourLooked words p left right (Ok side) →
      Goes marks notes path (Up side) from nodes
  goes_up marks notes path p from nodes left right side h all low looked = record {
    size = h.size;
    in_blocks = all;
    turn_in = omega (arith, h.turn_in, length-append path (Right p left ∷ []));
    key = h.key;
    ready = h.ready;
    room = room_less table notes (unmarked marks + lefts (path ++ (Right p left ∷ []))) (unmarked marks + lefts path)
        (omega (arith, lefts_append path (Right p left))) h.room;
    few = omega (arith, h.few, lefts_append path (Right p left));
    rest = λ tables ix s0 s. go (look_of (slice_index words) (length words) tables (suc (length marks0)) table) s0
        (right_rest (look_of (slice_index words) (length words) tables (suc (length marks0)) table) s0 marks notes path
        p from nodes left right (h.rest tables ix s0 s));
  } where
    go : (look : Look) (s0 : Seen) → RightRest look s0 marks notes path p from nodes left right →
        Rest look s0 marks notes path (Up side) from nodes
    go look s0 r =
        let c = looked r.l r.t r.is_l r.is_t in
        record {
          frames = r.frames;
          levels = suc r.levels;
          seen = r.seen;
          done = r.done;
          are = r.are;
          path_is = r.path_is;
          count = omega (arith, r.count);
          once = r.once;
          many = r.many;
          noted = r.noted;
          stands = (
            node (nat_eq (slice_index words (p + 3)) 1) r.l (slice_index words p, p) r.t,
            (
              record { blacks = c.1; red = c.2 },
              r.low ∙ sym (above_node (least (slice_index words) r.frames) (slice_index words p) p (rows r.l)
                  (rows r.t)),
              right_done (slice_index words) (length words) look r.frames r.levels p r.l r.t r.seen
                  (whole words (length marks0) root look s0) c.0 r.stands,
              r.rows_are ∙ (append_assoc (rows_above (slice_index words) r.frames)
                  (rows r.l ++ ((slice_index words p, p) ∷ [])) (rows r.t)
                  ∙ ap (λ (z : Rows). rows_above (slice_index words) r.frames ++ z)
                  (append_assoc (rows r.l) ((slice_index words p, p) ∷ []) (rows r.t))),
            ),
          );
        }

  -- the whole tree was walked
  pub record AllDone (look : Look) (s0 : Seen) (marks : List Bool) (notes : Notes) (side : Side) (nodes : ℕ) :
      Type 0 where
    pub t : Tree
    pub seen : Seen
    pub are : Marks marks seen.blocks
    pub is : IsSide side t
    pub done : whole words (length marks0) root look s0 ≡ Ok (t, seen)
    pub many : nodes ≡ length (rows t)
    pub noted : Noted table (slice_index words) notes0 notes (rows t) seen.lists

  all_done : (look : Look) (s0 : Seen) (marks : List Bool) (notes : Notes) (from nodes : ℕ) (side : Side) →
      Rest look s0 marks notes [] (Up side) from nodes → AllDone look s0 marks notes side nodes
  all_done look s0 marks notes from nodes side r = go r.frames r.path_is r.stands
    where
      go : (fs : List Frame) → IsPath [] fs → StopsAt words (length marks0) root look s0
          (Up side) fs r.levels from r.seen r.done → AllDone look s0 marks notes side nodes
      go [] e k = record {
        t = k.0;
        seen = r.seen;
        are = r.are;
        is = k.1.0;
        done = sym k.1.2;
        many = r.many ∙ ap (λ (z : Rows). length z) k.1.3;
        noted = subst (λ (z : Rows). Noted table (slice_index words) notes0 notes z r.seen.lists) k.1.3 r.noted;
      }
      go (f ∷ fs) e k = absurd (no_end e.0 e.1.0 (sym e.1.1.0))

  pub goes_done : (marks : List Bool) (notes : Notes) (from nodes : ℕ) (side : Side) →
      Goes marks notes [] (Up side) from nodes → side.red ≡ false →
      TableRan words marks0 marks notes0 notes table root (Ok nodes)
  goes_done marks notes from nodes side h black tables ix s0 s =
      let look = look_of (slice_index words) (length words) tables (suc (length marks0)) table in
      let r = all_done look s0 marks notes from nodes side (h.rest tables ix s0 s) in
      let b : not (is_red r.t) ≡ true = ap (λ (z : Bool). not z) (sym r.is.red ∙ black) in (
        (rows r.t, r.seen),
        (
          then_with (whole words (length marks0) root look s0) _ (r.t, r.seen) _ r.done
              (test_with (not (is_red r.t)) (Colour (slice_index words root + 3)) _ _ b refl),
          r.are,
          r.many,
          r.noted,
        ),
      )

  pub goes_red : (marks : List Bool) (notes : Notes) (from nodes : ℕ) (side : Side) (flaw : Flaw) →
      Goes marks notes [] (Up side) from nodes → RootLooked words root side (Err flaw) → Flawed flaw
  goes_red marks notes from nodes side flaw h looked tables ix s0 s =
      let look = look_of (slice_index words) (length words) tables (suc (length marks0)) table in
      let r = all_done look s0 marks notes from nodes side (h.rest tables ix s0 s) in
      let e : is_red r.t ≡ true = sym r.is.red ∙ looked.0 in
      let b : not (is_red r.t) ≡ false = ap (λ (z : Bool). not z) e in
      let bx = red_block (slice_index words) (length words) look (length marks0) root 1 s0 (r.t, r.seen) r.done e in
      then_with (whole words (length marks0) root look s0) _ (r.t, r.seen) _ r.done
      (then_err (wants (not (is_red r.t)) (Colour (slice_index words root + 3))) _ flaw
      (ap (λ (z : Bool). wants z (Colour (slice_index words root + 3))) b ∙ ap (λ (z : Flaw). Err z)
      (sym (looked.1 bx.1.0))))

  -- an equal path and an equal turn, as the code has them
  pub as_pushed : (marks : List Bool) (notes : Notes) (path path' : List Step) (turn : Turn) (from nodes : ℕ) →
      path' ≡ path → Goes marks notes path turn from nodes → Goes marks notes path' turn from nodes
  as_pushed marks notes path path' turn from nodes e h = subst (λ (z : List Step). Goes marks notes z turn from nodes)
      (sym e) h

  pub turn_as : (marks : List Bool) (notes : Notes) (path : List Step) (turn turn' : Turn) (from nodes : ℕ) →
      turn ≡ turn' → Goes marks notes path turn from nodes → Goes marks notes path turn' from nodes
  turn_as marks notes path turn turn' from nodes e h = subst (λ (z : Turn). Goes marks notes path z from nodes) e h

  -- the step that the code popped
  pub popped : (marks : List Bool) (notes : Notes) (path rest : List Step) (found s : Step) (turn : Turn) (side : Side)
      (from nodes : ℕ) → path ≡ rest ++ (found ∷ []) → found ≡ s → turn ≡ Up side
      → Goes marks notes path turn from nodes → Goes marks notes (rest ++ (s ∷ [])) (Up side) from nodes
  popped marks notes path rest found s turn side from nodes e f g h =
      turn_as marks notes (rest ++ (s ∷ [])) turn (Up side) from nodes g
      (as_pushed marks notes path (rest ++ (s ∷ [])) turn from nodes (ap (λ (z : Step). rest ++ (z ∷ [])) (sym f) ∙
      sym e) h)

  -- one pointer was followed downwards
  pub goes_down : (marks marks' : List Bool) (notes : Notes) (path path' : List Step) (at from nodes : ℕ) (turn : Turn)
      → Goes marks notes path (Down at) from nodes → length marks' ≡ length marks
      → length path ≤ length marks → WentDown words marks marks' path path' at turn →
      Goes marks' notes path' turn from nodes
  goes_down marks marks' notes path path' at from nodes (Down next) h size few w =
      turn_as marks' notes path' (Down (w.node + 1)) (Down next) from nodes (ap (λ (z : ℕ). Down z) (sym w.left))
      (as_pushed marks' notes (path ++ (Left w.node ∷ [])) path' (Down (w.node + 1)) from nodes w.longer
      (goes_block marks marks' notes path at w.node from nodes h few size w.fewer w.followed w.block))
  goes_down marks marks' notes path path' at from nodes (Up side) h size few w =
      as_pushed marks' notes path path' (Up side) from nodes w.same
      (goes_end marks marks' notes path at from nodes side h few size w.as_many w.followed w.empty.blacks
      w.empty.red)

  goes_bad : (marks marks' : List Bool) (notes : Notes) (path : List Step) (at from nodes : ℕ) (flaw : Flaw) →
      Goes marks notes path (Down at) from nodes → DownFlaw words marks marks' path at flaw → Flawed flaw
  goes_bad marks marks' notes path at from nodes flaw h (inl deep) tables ix s0 s =
      subst (λ (z : Flaw). walk_table (slice_index words) (length words)
      (look_of (slice_index words) (length words) tables (suc (length marks0)) table)
      (suc (length marks0)) root s0 ≡ Err z) (sym deep.1)
      (goes_out marks notes path at from nodes h deep.0 tables ix s0 s)
  goes_bad marks marks' notes path at from nodes flaw h (inr bad) tables ix s0 s =
      goes_flaw marks marks' notes path at from nodes flaw h bad.0 bad.1 tables ix s0 s

  pub goes_not_down : (marks marks' : List Bool) (notes : Notes) (path path' : List Step) (at from nodes : ℕ)
      (fault : Fault) → Goes marks notes path (Down at) from nodes →
      DownRan words marks marks' path path' at (Err fault)
      → TableRan words marks0 marks' notes0 notes table root (Err fault)
  goes_not_down marks marks' notes path path' at from nodes Memory h f tables ix s0 s = tt
  goes_not_down marks marks' notes path path' at from nodes (Found flaw) h f tables ix s0 s =
      goes_bad marks marks' notes path at from nodes flaw h f tables ix s0 s

pub weight_pushed : (ss : List Step) (s : Step) (path : List Step) → path ≡ ss ++ (s ∷ []) →
    weight path ≡ weight ss + weight (s ∷ [])
weight_pushed ss s path e = ap weight e ∙ weight_append ss s

pub weight_down : (words : List ℕ) (marks marks' : List Bool) (path path' : List Step) (at : ℕ) (turn : Turn) →
    WentDown words marks marks' path path' at turn
    → 4 * unmarked marks' + weight path' + turn_weight turn < 4 * unmarked marks + weight path + 1
weight_down words marks marks' path path' at (Down next) w =
    omega (arith, w.fewer, weight_pushed path (Left w.node) path' w.longer)
weight_down words marks marks' path path' at (Up side) w = omega (arith, w.as_many, ap weight w.same)

pub blocks_split : (n : ℕ) (ss : List Step) (s : Step) → AllBlocks n (ss ++ (s ∷ [])) →
    AllBlocks n ss × IsBlock n (node_of s)
blocks_split n [] s h = (tt, h.0)
blocks_split n (x ∷ ss) s h = let w = blocks_split n ss s h.1 in ((h.0, w.0), w.1)

pub popped_weight : (path rest : List Step) (found s : Step) → path ≡ rest ++ (found ∷ []) → found ≡ s →
    weight path ≡ weight rest + weight (s ∷ [])
popped_weight path rest found s e f = weight_pushed rest s path (e ∙ ap (λ (z : Step). rest ++ (z ∷ [])) f)

pub empty_of : (path : List Step) → (0 < length path → false ≡ true) → [] ≡ path
empty_of [] h = refl
empty_of (s ∷ path) h = absurd (let q : false ≡ true = h (omega arith) in cc)

pub small_sum : (a : ℕ) → a < 4294967290 → (a % 4294967296 + 3) % 4294967296 ≡ a + 3
small_sum a l =
    let e : a % 4294967296 ≡ a = omega arith in
    rw e (omega arith)

-- a fault that was passed on
pub handed_table : (words : List ℕ) (marks marks' : List Bool) (notes notes' : Notes) (table : Table) (root : ℕ)
    (r : Result ℕ Fault) (fault : Fault) → IsErrAnd r (λ f. f ≡ fault)
    → TableRan words marks marks' notes notes' table root (Err fault) →
    TableRan words marks marks' notes notes' table root r
handed_table words marks marks' notes notes' table root (Ok n) fault h ran = absurd h
handed_table words marks marks' notes notes' table root (Err f) fault h ran =
    subst (λ (e : Fault). TableRan words marks marks' notes notes' table root (Err e)) (sym h) ran

-- a node was reached, and the step to it was pushed, unless memory was refused
pub entered : (words : List ℕ) (marks marks' : List Bool) (path path' : List Step) (at p : ℕ)
    (result : Result Turn Fault) → length path ≤ length marks → IsBlock (length words) p →
    unmarked marks' + 1 ≡ unmarked marks
    → Followed words marks marks' at (Ok (Some p)) → OnOk result (path' ≡ path ++ (Left p ∷ [])) →
    IfOk result (λ turn. turn ≡ Down (p + 1)) → IfErr result (λ fault. fault ≡ Memory) →
    DownRan words marks marks' path path' at result
entered words marks marks' path path' at p (Ok turn) few b fewer f longer on memory =
    subst (λ (z : Turn). DownRan words marks marks' path path' at (Ok z)) (sym on) (
      few,
      record { node = p; block = b; left = refl; longer = longer; fewer = fewer; followed = f },
    )
entered words marks marks' path path' at p (Err fault) few b fewer f longer on memory =
    subst (λ (z : Fault). DownRan words marks marks' path path' at (Err z)) (sym memory) tt
