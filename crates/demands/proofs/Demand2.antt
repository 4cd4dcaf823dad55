-- Demand 2 holds.
-- Assumes nothing.
use mathlib.Core.Path.{◌≡◌, refl, sym, ap, subst, ◌∙◌}
use mathlib.Core.Logic.{◌⊎◌, inl, inr, ⊎_elim, ◌↔◌, ◌≢◌}
use mathlib.Core.Bool.{Bool, true, false, cond}
use mathlib.Core.List.{List}
use Prim.Native.Nat.{ℕ, suc, ◌-◌, ◌≤◌, ◌<◌}
use native.Mathlib.Omega.{arith}
use lib.Dec.{ltb, eqb}
use lib.ListN.{length, get_or}
use borrow.Author.Tests.{ltb-false, le-ltb, eqb-true, eqb-false, eq-eqb, ne_eqb}
use Rattle.model.specs.Lists.{In}
use Rattle.model.specs.Table.{Kind, Rule, Table, Shaped, default_rule, winner_of, packet_right, stands, delete_answer, read_answer, place_answer}
use Rattle.model.specs.Ipv4.{ipv4, large, kind_in, ipv4_shaped}
use Rattle.model.proofs.Tests.{by_test, never}
use Rattle.model.proofs.UpTo.{up_to_is}
use Rattle.model.proofs.Keep.{in_left, in_right, in_get_d, at_place}
use Rattle.model.proofs.Limits.{from_within, distinct, not_standing, rising_places, rule_in_lem, rule_none}
use Rattle.model.proofs.Decide.{default_cells, winner_in, winner_holds, winner_least}
use Rattle.model.proofs.Edits.{from_added, in_added, from_removed, in_removed, delete_fewer}
use Rattle.header.specs.declared.Packet.{Packet}
use Rattle.std.specs.Prelude.{Ok}
use Rattle.header.specs.Header.{header_of}
use Rattle.header.specs.Facts.{WithinTops}
use Rattle.header.proofs.Facts.{within_tops_lem}
use Rattle.ipv4.specs.declared.Rule.{Rule as Given}
use Rattle.ipv4.specs.Rule.{six, given}
use Rattle.layout.specs.Store.{cells_in, table_of, start_answer, start_words, insert_says, insert_words, delete_says, delete_words, read_says, read_gives, place_says, place_gives, cells_gives}
use Rattle.lookup.specs.Walk.{lookup_values, lookup_packet}
use Rattle.demands.specs.Calls.{Passes, rules_in, default_in, every_in, field_count, values_in, Bytes, lookup}
use Rattle.demands.specs.Demand2.{Names, Edited, Fresh, Listed, AllEnds, Demand2}
use Rattle.demands.proofs.Held.{Leaves, right, in_use, checked_0, start_leaves, insert_leaves, delete_leaves}
use Rattle.demands.proofs.KindNamed.{shaped_in, insert_large, delete_large, start_large}
use Rattle.demands.proofs.Fields.{all_held, held_all}
use Rattle.demands.proofs.Packets.{tops_right, readable_is}
use Rattle.demands.proofs.Decided.{lookup_is}
use Rattle.demands.proofs.Tally.{tally_same}

-- only the default is read that stands in no row of a rule
only_default : (t : Table) (n : ℕ) → stands n t.rules ≡ false → read_answer t n ≡ 0 → n ≡ 65535
only_default t n e a = go (eqb n 65535) refl (ltb 65534 n) (stands n t.rules) e a
  where
    go : (b : Bool) → eqb n 65535 ≡ b → (x y : Bool) → y ≡ false → ◌≡◌ {A = ℕ} (cond b 0 (cond x 1 (cond y 0 4))) 0 → n ≡ 65535
    go true q x y f z = eqb-true n 65535 q
    go false q true y f z = absurd (omega arith)
    go false q false true f z = never f
    go false q false false f z = absurd (omega arith)

module _ (k : Kind) (s : Shaped k) where
  pub default_in_lem : (ws : List ℕ) → In (default_rule k (default_in k ws)) (every_in k ws)
  default_in_lem ws = in_right (rules_in k ws) _ _ (inl refl)

  -- THE RULE THAT DECIDES is the right one
  pub names : (ws : List ℕ) → Passes k ws → (vs : List ℕ) → packet_right k vs ≡ true → Names k ws vs (lookup_values k ws vs)
  names ws h vs v =
      let t = table_of k ws in
      let w = winner_of k t vs in
      rw (lookup_is k s ws h vs v)
      (record {
        answer = refl;
        rule = w;
        one_of = winner_in k t vs v;
        number = refl;
        action = refl;
        holds = all_held k vs w (winner_holds k t vs v);
        least = λ r m a. winner_least k t vs v r m (held_all k vs r a);
        only = λ r m e. distinct k t (right k s ws h) r w (inr m) (inr (winner_in k t vs v)) e;
      })

  -- AN EDIT that leaves the table t
  edited : {ws after : List ℕ} {c : ℕ} {t : Table} (R : Rule → Type 0) → Leaves k ws after c t → c ≡ cells_in ws → t.action ≡ default_in k ws → ((r : Rule) → In r t.rules ↔ R r) → Edited k ws after R
  edited R l e a h =
      record {
        passes = l.pass;
        rules = λ r. subst (λ (x : Table). In r x.rules ↔ R r) (sym l.table) (h r);
        default = ap (λ (x : Table). x.action) l.table ∙ a;
        cells = l.cells_left ∙ e;
      }

  inserted : (ws : List ℕ) (r : Rule) → insert_says k ws r ≡ 0 → Edited k ws (insert_words k ws r) (λ x. (x ≡ r) ⊎ In x (rules_in k ws))
  inserted ws r h = edited _ (insert_leaves k s ws r h) refl refl (λ x. (from_added r x (rules_in k ws), in_added r x (rules_in k ws)))

  deleted : (ws : List ℕ) (n : ℕ) → delete_says k ws n ≡ 0 → Edited k ws (delete_words k ws n) (λ x. In x (rules_in k ws) × (x.number ≢ n))
  deleted ws n h = edited _ (delete_leaves k s ws n h) refl refl (λ x. (from_removed n (rules_in k ws) x, λ m. in_removed n (rules_in k ws) x m.0 m.1))

  started : (ws : List ℕ) (c a : ℕ) → start_answer k ws c ≡ 0 → Fresh k c a (start_words k ws c a)
  started ws c a h =
      let l = start_leaves k s ws c a h in
      record { passes = l.pass; rules = ap (λ (x : Table). x.rules) l.table; default = ap (λ (x : Table). x.action) l.table; cells = l.cells_left }

  started_cells : (ws : List ℕ) (c a : ℕ) → start_answer k ws c ≡ 0 → cells_gives k (start_words k ws c a) ≡ field_count k
  started_cells ws c a h = let l = start_leaves k s ws c a h in in_use k s (start_words k ws c a) _ l.pass l.table ∙ default_cells k a

  deleted_cells : (ws : List ℕ) (n : ℕ) → delete_says k ws n ≡ 0 → cells_gives k (delete_words k ws n) ≤ cells_gives k ws
  deleted_cells ws n h =
      let t = table_of k ws in
      let l = delete_leaves k s ws n h in
      omega (arith, in_use k s (delete_words k ws n) _ l.pass l.table, in_use k s ws t (checked_0 k s ws (delete_answer t n) h).0 refl, delete_fewer k n t)

  read_right : (ws : List ℕ) (n : ℕ) → read_says k ws n ≡ 0 → In (read_gives k ws n) (every_in k ws) × ((read_gives k ws n).number ≡ n)
  read_right ws n h =
      let t = table_of k ws in
      let d = default_rule k t.action in
      rw (eq-eqb (read_says k ws n) 0 h)
      (by_test (stands n t.rules)
      (λ e. let z = rule_in_lem d n t.rules e in (in_left t.rules _ _ z.0, z.1))
      (λ e. rw (rule_none d n t.rules (not_standing n t.rules e)) (default_in_lem ws, sym (only_default t n e (checked_0 k s ws (read_answer t n) h).1))))

  -- the rules by their places
  module _ (ws : List ℕ) where
    abbrev R : List Rule
    R = (table_of k ws).rules

    placed_at : (p : ℕ) → place_says k ws p ≡ 0 → (0 < p) × (p ≤ length R) × (place_gives k ws p ≡ get_or R (p - 1) (default_rule k (table_of k ws).action))
    placed_at p h =
        let a : place_answer (table_of k ws) p ≡ 0 = (checked_0 k s ws (place_answer (table_of k ws) p) h).1 in
        by_test (eqb p 0)
        (λ z. absurd (let y : 4 ≡ 0 = rw z at a in omega arith))
        (λ z. by_test (ltb (length R) p)
        (λ l. absurd (let y : 4 ≡ 0 = rw (z, l) at a in omega arith))
        (λ l. (omega (arith, eqb-false p 0 z), ltb-false (length R) p l, rw (eq-eqb (place_says k ws p) 0 h))))

    listed : Listed k ws
    listed = record {
      one_of = λ p h. let a = placed_at p h in rw a.2 (in_get_d R (p - 1) _ (omega (arith, a.0, a.1)));
      rising = λ p q h g l.
          let a = placed_at p h in
          let b = placed_at q g in
          rw (a.2, b.2) (rising_places 0 R (from_within k (table_of k ws) (right k s ws (checked_0 k s ws (place_answer (table_of k ws) p) h).0)).rising (p - 1) (q - 1) _ (omega (arith, a.0)) (omega (arith, b.0, b.1)));
      all = λ h r m.
          let t = at_place R (default_rule k (table_of k ws).action) r m in
          let e : place_says k ws (suc t.0) ≡ 0 = rw (h, ne_eqb (suc t.0) 0 (λ z. omega arith), le-ltb (length R) (suc t.0) (omega (arith, t.1))) in
          let z : suc t.0 - 1 ≡ t.0 = omega arith in
          (suc t.0, e, (placed_at (suc t.0) e).2 ∙ ap (λ i. get_or R i (default_rule k (table_of k ws).action)) z ∙ t.2);
    }

-- THE LIBRARY'S RULES as structs: six numbers are read of each array, which has no more
six_one : (xs ys : List ℕ) → length xs ≡ field_count large → length ys ≡ field_count large → six xs ≡ six ys → xs ≡ ys
six_one xs ys l m e = up_to_is 0 xs (field_count large) (λ i. get_or xs i 0) l (λ i h. refl) ∙ e ∙ sym (up_to_is 0 ys (field_count large) (λ i. get_or ys i 0) m (λ i h. refl))

one_struct : (g h : Given) → AllEnds large g → AllEnds large h → given g ≡ given h → g ≡ h
one_struct g h a b e =
    let x = six_one g.low h.low a.lows b.lows (ap (λ (r : Rule). r.lows) e) in
    let y = six_one g.high h.high a.highs b.highs (ap (λ (r : Rule). r.highs) e) in
    λ i. record { number = (e i).number; action = (e i).action; low = x i; high = y i }

-- THE LIBRARY'S LOOKUPS
record_names : (ws : List ℕ) → Passes (kind_in ws) ws → (p : Packet) → WithinTops p → Names (kind_in ws) ws (values_in p) (lookup ws p)
record_names ws h p t = names (kind_in ws) (shaped_in ws) ws h (values_in p) (tops_right p t)

packet_names : (ws : List ℕ) → Passes (kind_in ws) ws → (bytes : List ℕ) → Bytes bytes → (p : Packet) → header_of bytes ≡ Ok p → WithinTops p × Names (kind_in ws) ws (values_in p) (lookup_packet ws bytes)
packet_names ws h bytes b p e = let t = within_tops_lem bytes p b e in (t, rw (readable_is ws bytes p e) (record_names ws h p t))

pub demand2 : Demand2
demand2 =
    record {
      by_values = record_names;
      by_packet = packet_names;
      by_tally = λ ws h bytes b p e t. ⊎_elim inl (λ q. inr (rw q (packet_names ws h bytes b p e).1)) (tally_same ws bytes t);
      default = λ ws. default_in_lem (kind_in ws) (shaped_in ws) ws;
      insert = λ ws. inserted (kind_in ws) (shaped_in ws) ws;
      insert_kind = λ ws r. ap ipv4 (insert_large ws r);
      delete = λ ws. deleted (kind_in ws) (shaped_in ws) ws;
      delete_kind = λ ws n. ap ipv4 (delete_large ws n);
      start = started large (ipv4_shaped true);
      start_kind = λ ws c a h. ap ipv4 (start_large true ws c a h);
      start_cells = started_cells large (ipv4_shaped true);
      delete_cells = λ ws. deleted_cells (kind_in ws) (shaped_in ws) ws;
      read = λ ws. read_right (kind_in ws) (shaped_in ws) ws;
      rule_at_lem = λ ws. listed (kind_in ws) (shaped_in ws) ws;
      read_one = one_struct;
    }
