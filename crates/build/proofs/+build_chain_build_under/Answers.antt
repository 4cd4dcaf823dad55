-- `build::build_chain` and `build::build_under` leave the tree of the rules in the first free cells.
-- Assumes nothing.
use Prim.Native.Nat.{ℕ, ◌<◌, ◌≤◌, ◌+◌, ◌-◌}
use mathlib.Core.Path.{◌≡◌, refl, ◌∙◌}
use mathlib.Core.List.{List}
use native.Mathlib.Nat.{pos_of_ne-zero}
use native.Mathlib.Omega.{arith}
use lib.ListN.{length, get_or, take, drop, length-drop}
use lib.Seq.{length-take-le}
use Rattle.model.specs.Rules.{ends}
use Rattle.rows.specs.Rows.{field_at, first_of, tree_at, under_at}
use Rattle.rows.proofs.Sets.{tree_step}
use Rattle.rows.proofs.Room.{set_fits, sets_fit, ends_fit, scratch_on, scratch_under}
use Rattle.cells.specs.Text.{only_down, frees, width, under}
use Rattle.cells.specs.States.{State, RoomFor, Laid, Builds}
use Rattle.cells.specs.declared.Below.{Below}
use Rattle.cells.proofs.State.{st_head}
use Rattle.cells.proofs.Lent.{first_at}
use Rattle.build.proofs.Chains.{Run-of, Turn, Filled, filled_start, fill_turn, below_is, fill_on, turn_room, turn_spare, down_room, filled_all, built_none, split, past_run, one_first, one_spare, one_room, one_built}
use borrow.Rule.Slice.PartMut.{mid_len, same_len_mid}
use Rattle.build.proofs.+build_chain_build_under.Goals as goal

-- below the only cell of a chain, where no other field is left: a name
leaf : (rules ps ws : List ℕ) (f d c : ℕ) (b : Below) → d ≡ 1 → b ≡ only_down (first_of ps) → Builds ws ws b c (tree_at rules (f + 1) (d - 1) ps)
leaf rules ps ws f d c b one is = λ a m q s. built_none rules ps (f + 1) (d - 1) m (omega arith) is s

-- the run that the loop goes over, for any room that could be named
ran : (base : ℕ) (ws ws₀ ps : List ℕ) (h c f d : ℕ) → 0 < d → Laid base ws ws₀ h c (ends (field_at (take base ws) f) ps) → (a m : ℕ) (q : List ℕ)
    → State (drop base ws) c a a q (frees a (width (tree_at (take base ws) f d ps) + under (tree_at (take base ws) f d ps) + m)) → Run-of (drop base ws₀) h c (take base ws₀) ps f d a m q
ran base ws ws₀ ps h c f d p l a m q s = rw l.kept (l.lays _ _ _ (split (take base ws) ps f d m (λ z. omega arith) s))

-- where a turn of the loop stands
turn : {base : ℕ} {ws ws₀ ws' sets₀ sets ends₀ ends' : List ℕ} {n h c f d k : ℕ} → 0 < d → (r : RoomFor (drop base ws) c (tree_at (take base ws) f d (take n sets₀)))
    → Laid base ws ws₀ h c (ends (field_at (take base ws) f) (take n sets₀)) → Filled base ws₀ ws' sets₀ sets ends₀ ends' n h c f d (get_or ws base 0) k → k < get_or ws₀ base 0
    → Turn (drop base ws') c r.a r.more r.q k (under_at (take base ws₀) f d (take n sets₀)) (ends (field_at (take base ws₀) f) (take n sets₀))
turn {base} {ws} {ws₀} {ws'} {sets₀} {sets} {ends₀} {ends'} {n} {h} {c} {f} {d} {k} p r l g u = fill_turn g r.a r.more r.q (first_at base ws ∙ st_head r.state) (ran base ws ws₀ (take n sets₀) h c f d p l r.a r.more r.q r.state) (rw first_at at u)

-- what is built once the loop has ended
all_hung : {base : ℕ} {ws ws₀ ws' sets₀ sets ends₀ ends' : List ℕ} {n h c f d k : ℕ} → 0 < d → Laid base ws ws₀ h c (ends (field_at (take base ws) f) (take n sets₀))
    → Filled base ws₀ ws' sets₀ sets ends₀ ends' n h c f d (get_or ws base 0) k → get_or ws₀ base 0 ≤ k → Builds (drop base ws) (drop base ws') (only_down h) c (tree_at (take base ws) f d (take n sets₀))
all_hung {base} {ws} {ws₀} {ws'} {sets₀} {sets} {ends₀} {ends'} {n} {h} {c} {f} {d} {k} p l g u a m q s =
    let r = ran base ws ws₀ (take n sets₀) h c f d p l a m q s in
    rw (← l.kept, tree_step (take base ws₀) f d (take n sets₀) (λ z. omega arith)) (filled_all (g.fills a m q (first_at base ws ∙ st_head s) r) r (omega (arith, past_run _ r, first_at base ws₀)))

pub build_chain-returns-then-left-eq0 : goal.build_chain-returns-then-left-eq0
build_chain-returns-then-left-eq0 t c = record { builds = λ a m q s. built_none _ _ _ _ m c.if-left-eq0.true c.build_leaf.ensures s; kept = refl }

pub build_chain-build_one-one-requires : goal.build_chain-build_one-one-requires
build_chain-build_one-one-requires t c = (c.requires.inside, one_first c.if-left-eq0.false (rw c.of-rows.ensures at (c.flat.ensures c.if-flat.true)) c.requires.room)

pub build_chain-write_below-requires : goal.build_chain-write_below-requires
build_chain-write_below-requires t c =
    let a = c.args in
    let r = c.requires.room in
    let o = c.build_one-one in
    let part = drop a.base o.new.words in
    let below = leaf (take a.base a.words.now) (take a.n a.sets.now) part a.field a.left a.c c.build_leaf-then-left-eq1.result c.if-left-eq1.true c.build_leaf-then-left-eq1.ensures in
    omega (arith, one_room r.more c.if-left-eq0.false (rw c.of-rows.ensures at (c.flat.ensures c.if-flat.true)) r.state o.ensures.0.lays o.ensures.1 part c.build_leaf-then-left-eq1.result below, length-drop a.base o.new.words)

pub build_chain-returns-then-left-eq1 : goal.build_chain-returns-then-left-eq1
build_chain-returns-then-left-eq1 t c =
    let a = c.args in
    let o = c.build_one-one in
    let w = c.write_below.ensures in
    let part = drop a.base o.new.words in
    let below = leaf (take a.base a.words.now) (take a.n a.sets.now) part a.field a.left a.c c.build_leaf-then-left-eq1.result c.if-left-eq1.true c.build_leaf-then-left-eq1.ensures in
    record {
      builds = rw w.hangs (λ _ m _ s. one_built m c.if-left-eq0.false (rw c.of-rows.ensures at (c.flat.ensures c.if-flat.true)) s o.ensures.0.lays o.ensures.1 part c.build_leaf-then-left-eq1.result below);
      kept = w.kept ∙ o.ensures.0.kept;
    }

pub build_chain-build_chain-below-requires : goal.build_chain-build_chain-below-requires
build_chain-build_chain-below-requires t c =
    let r = c.requires.room in
    let o = c.build_one-one in
    let l = pos_of_ne-zero c.if-left-eq0.false in (
      omega (arith, c.decreases),
      record {
        inside = omega (arith, o.auto.words, c.requires.inside);
        room = rw o.ensures.0.kept (one_spare r.more c.if-left-eq0.false (rw c.of-rows.ensures at (c.flat.ensures c.if-flat.true)) r.state o.ensures.0.lays o.ensures.1);
        scratch = scratch_on c.requires.scratch l;
        depth = omega (arith, c.requires.depth);
      },
    )

pub build_chain-write_below-requires-then-flat : goal.build_chain-write_below-requires-then-flat
build_chain-write_below-requires-then-flat t c =
    let a = c.args in
    let r = c.requires.room in
    let o = c.build_one-one in
    let b = c.build_chain-below in
    omega (
      arith,
      one_room r.more c.if-left-eq0.false (rw c.of-rows.ensures at (c.flat.ensures c.if-flat.true)) r.state o.ensures.0.lays o.ensures.1 (drop a.base b.new.words) b.result (rw o.ensures.0.kept at b.ensures.builds),
      length-drop a.base b.new.words,
    )

pub build_chain-returns-then-flat : goal.build_chain-returns-then-flat
build_chain-returns-then-flat t c =
    let a = c.args in
    let o = c.build_one-one in
    let b = c.build_chain-below in
    let w = c.write_below-then-flat.ensures in
    record {
      builds = rw w.hangs (λ _ m _ s. one_built m c.if-left-eq0.false (rw c.of-rows.ensures at (c.flat.ensures c.if-flat.true)) s o.ensures.0.lays o.ensures.1 (drop a.base b.new.words) b.result (rw o.ensures.0.kept at b.ensures.builds));
      kept = w.kept ∙ b.ensures.kept ∙ o.ensures.0.kept;
    }

pub build_under-build_run-lowest-requires : goal.build_under-build_run-lowest-requires
build_under-build_run-lowest-requires t c =
    let p = c.requires.1 in (
      p.inside,
      record { a = _; more = _; q = _; state = split _ _ _ _ p.room.more (λ z. omega (arith, c.requires.0)) p.room.state },
      omega (arith, ends_fit p.scratch c.requires.0, length-take-le c.args.n c.args.sets.now (set_fits p.scratch)),
    )

pub build_under-loop-k-init : goal.build_under-loop-k-init
build_under-loop-k-init t c = filled_start _ _ _ _ _ _ _ _ _ _

pub build_under-end_of-end-requires : goal.build_under-end_of-end-requires
build_under-end_of-end-requires t c =
    let here = turn c.requires.0 c.requires.1.room c.build_run-lowest.ensures c.loop-k.invariant c.loop-k-test.true in
    omega (arith, turn_room here, length-drop c.args.base c.loop-k.words)

pub build_under-build_chain-below-requires : goal.build_under-build_chain-below-requires
build_under-build_chain-below-requires t c =
    let p = c.requires.1 in
    let l = c.loop-k.invariant in
    let w = c.narrowed-m in
    let sets = w.new.sets in
    let fit = sets_fit p.scratch c.requires.0 in
    let here = turn c.requires.0 p.room c.build_run-lowest.ensures l c.loop-k-test.true in (
      omega (arith, c.decreases),
      record {
        inside = omega (arith, l.long, c.build_run-lowest.auto.words, p.inside);
        room = turn_spare here _ (below_is l w.ensures c.end_of-end.ensures w.auto.sets (omega (arith, fit, l.sets_long)));
        scratch = scratch_under p.scratch c.requires.0 0 w.ensures.few (omega (arith, w.ensures.few))
            (omega (arith, fit, l.sets_long, w.auto.sets, mid_len c.args.n (length sets) sets (omega arith))) (omega (arith, l.ends_long, c.build_run-lowest.auto.ends));
        depth = omega (arith, p.depth);
      },
    )

pub build_under-write_below-requires : goal.build_under-write_below-requires
build_under-write_below-requires t c =
    let p = c.requires.1 in
    let l = c.loop-k.invariant in
    let w = c.narrowed-m in
    let fit = sets_fit p.scratch c.requires.0 in
    let here = turn c.requires.0 p.room c.build_run-lowest.ensures l c.loop-k-test.true in
    omega (
      arith,
      down_room here _ (below_is l w.ensures c.end_of-end.ensures w.auto.sets (omega (arith, fit, l.sets_long))) _ _ c.build_chain-below.ensures.builds,
      length-drop c.args.base c.build_chain-below.new.words,
    )

pub build_under-loop-k-preserved : goal.build_under-loop-k-preserved
build_under-loop-k-preserved t c =
    let l = c.loop-k.invariant in
    let x = c.narrowed-m in
    let b = c.build_chain-below in
    let fit = sets_fit c.requires.1.scratch c.requires.0 in
    fill_on l x.ensures c.end_of-end.ensures x.auto.sets (omega (arith, fit, l.sets_long)) b.new.sets b.ensures b.auto.words c.write_below.ensures c.write_below.auto.words
    (same_len_mid c.args.n (length x.new.sets - c.args.n) x.new.sets b.new.sets b.auto.sets) b.auto.ends (rw first_at at c.loop-k-test.true)

pub build_under-returns : goal.build_under-returns
build_under-returns t c =
    let l = c.loop-k.invariant in
    record { builds = all_hung c.requires.0 c.build_run-lowest.ensures l c.loop-k-test.false; kept = l.kept ∙ c.build_run-lowest.ensures.kept }
