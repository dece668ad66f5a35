-- Trees put together from a way and a tree: black nodes, colours, rows, height.
use Rattle.std.proofs.Common.{◌≡◌, ℕ, ◌+◌, ◌*◌, ◌≤◌, ◌^◌, Bool, true, false, cond, ◌∷◌, ◌++◌, length, refl, sym, ap}
use Rattle.std.proofs.Common.{◌∙◌, append_assoc, arith, rules, add-zero, length-append, append-nil}
use Rattle.std.proofs.lemmas.Nat.{pow-add}
use Rattle.std.proofs.Math.Pow.{pow_mono}
use Rattle.std.proofs.Math.Nat.{mul-le-mul}
use Rattle.tx_alloc.specs.Rows.{Rows}
use Rattle.tx_tree.specs.Tree.{Tree, leaf, node, join, rows, blacks, IsEven, EvenAt, is_red, IsApart, height}
use Rattle.tx_tree.specs.Way.{Way, top, step, plug, depth, under, front, behind, IsEvenWay, IsApartWay}

pub even_plug : (w : Way) (t : Tree) (h : ℕ) → EvenAt t h → IsEvenWay w h → IsEven (plug w t)
even_plug top t h e f = e.0
even_plug (step false c r o w) t h e f = even_plug w (node c t r o) (h + cond c 0 1) (search rules) f.1
even_plug (step true c r o w) t h e f = even_plug w (node c o r t) (h + cond c 0 1) (search rules) f.1

pub even_parts : (w : Way) (t : Tree) → IsEven (plug w t) → IsEven t × IsEvenWay w (blacks t)
even_parts top t e = (e, tt)
even_parts (step false c r o w) t e =
    let i = even_parts w (node c t r o) e in (i.0.1, ((i.0.2, sym i.0.0), i.1))
even_parts (step true c r o w) t e =
    let i = even_parts w (node c o r t) e in
    let same : blacks o ≡ blacks t = i.0.0 in
    (i.0.2, ((i.0.1, i.0.0), rw same at i.1))

pub apart_plug : (w : Way) (t : Tree) → IsApart t → IsApartWay w (is_red t) →
    IsApart (plug w t) × (is_red (plug w t) ≡ false)
apart_plug top t a f = (a, f)
apart_plug (step false c r o w) t a f = apart_plug w (node c t r o) (f.0, a, f.1) f.2
apart_plug (step true c r o w) t a f = apart_plug w (node c o r t) ((λ e. let p = f.0 e in (p.1, p.0)), f.1, a) f.2

pub apart_parts : (w : Way) (t : Tree) → IsApart (plug w t) → is_red (plug w t) ≡ false →
    IsApart t × IsApartWay w (is_red t)
apart_parts top t a b = (a, b)
apart_parts (step false c r o w) t a b =
    let i = apart_parts w (node c t r o) a b in (i.0.1, (i.0.0, i.0.2, i.1))
apart_parts (step true c r o w) t a b =
    let i = apart_parts w (node c o r t) a b in (i.0.2, ((λ e. let p = i.0.0 e in (p.1, p.0)), i.0.1, i.1))

pub apart_black : (w : Way) (c : Bool) → IsApartWay w c → IsApartWay w false
apart_black top c f = refl
apart_black (step right d r o w) c f = ((λ e. (refl, (f.0 e).1)), f.1, f.2)

pub rows_plug : (w : Way) (t : Tree) → rows (plug w t) ≡ front w ++ (rows t ++ behind w)
rows_plug top t = sym (append-nil (rows t))
rows_plug (step false c r o w) t = rows_plug w (node c t r o) ∙ simp append_assoc
rows_plug (step true c r o w) t = rows_plug w (node c o r t) ∙ simp append_assoc

pub plug_rows : (w : Way) (t t' : Tree) → rows t' ≡ rows t → rows (plug w t') ≡ rows (plug w t)
plug_rows w t t' e = rows_plug w t' ∙ (ap (λ (z : Rows). front w ++ (z ++ behind w)) e ∙ sym (rows_plug w t))

pub depth_plug : (w : Way) (t : Tree) → depth w + height t ≤ height (plug w t)
depth_plug top t = omega arith
depth_plug (step false c r o w) t = let i = depth_plug w (node c t r o) in omega arith
depth_plug (step true c r o w) t = let i = depth_plug w (node c o r t) in omega arith

pub plug_under : (v w : Way) (t : Tree) → plug (under v w) t ≡ plug w (plug v t)
plug_under top w t = refl
plug_under (step right c r o v) w t = plug_under v w (join right c t r o)

-- at most twice as many nodes as black ones are on a way down, and at least 2 ^ blacks - 1 nodes are in the tree
pub one_or_none : (b : Bool) → cond b 1 0 ≤ 1
one_or_none true = omega arith
one_or_none false = omega arith

pub height_blacks : (t : Tree) → IsEven t → IsApart t → height t ≤ 2 * blacks t + cond (is_red t) 1 0
height_blacks leaf e a = omega arith
height_blacks (node true l r t) e a =
    let black = a.0 refl in
    let hl = height_blacks l e.1 a.1 in let ht = height_blacks t e.2 a.2 in
    let hl' : height l ≤ 2 * blacks l + 0 = rw black.0 at hl in
    let ht' : height t ≤ 2 * blacks t + 0 = rw black.1 at ht in
    omega (arith, e.0)
height_blacks (node false l r t) e a =
    let hl = height_blacks l e.1 a.1 in let ht = height_blacks t e.2 a.2 in
    let cl = one_or_none (is_red l) in let ct = one_or_none (is_red t) in
    omega (arith, e.0)

pub blacks_size : (t : Tree) → IsEven t → 2 ^ blacks t ≤ length (rows t) + 1
blacks_size leaf e = omega arith
blacks_size (node true l r t) e =
    let n : length (rows l ++ (r ∷ rows t)) ≡ length (rows l) + (1 + length (rows t)) =
    length-append (rows l) (r ∷ rows t) ∙ omega arith in
    rw (add-zero, n) (omega (arith, blacks_size l e.1))
blacks_size (node false l r t) e =
    let n : length (rows l ++ (r ∷ rows t)) ≡ length (rows l) + (1 + length (rows t)) =
    length-append (rows l) (r ∷ rows t) ∙ omega arith in
    let ht : 2 ^ blacks l ≤ length (rows t) + 1 = rw (← e.0) at (blacks_size t e.2) in
    rw (pow-add, n) (omega (arith, blacks_size l e.1, ht))

pub height_log : (t : Tree) → IsEven t → IsApart t → is_red t ≡ false →
    2 ^ height t ≤ (length (rows t) + 1) * (length (rows t) + 1)
height_log t e a black =
    let h : height t ≤ 2 * blacks t + 0 = rw black at (height_blacks t e a) in
    let low : height t ≤ blacks t + blacks t = omega arith in
    let square : 2 ^ height t ≤ 2 ^ blacks t * 2 ^ blacks t = rw pow-add at (pow_mono low) in
    let b = blacks_size t e in
    omega (arith, square, mul-le-mul b b)
