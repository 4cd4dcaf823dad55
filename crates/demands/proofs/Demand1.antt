-- Demand 1 holds.
-- Assumes nothing.
use mathlib.Core.Path.{◌≡◌, refl, sym, ap, ◌∙◌}
use mathlib.Core.Logic.{◌⊎◌, inl, inr, ⊎_elim, ◌≢◌}
use mathlib.Core.Bool.{Bool, true, false, cond, not, ◌&&◌, ◌||◌}
use mathlib.Core.List.{List}
use Prim.Native.Nat.{ℕ, ◌*◌, ◌≤◌, ◌<◌}
use native.Mathlib.Omega.{arith}
use native.Mathlib.Nat.{zero-add}
use lib.Dec.{ltb, leb, eqb}
use lib.ListN.{length, get_or, drop}
use borrow.Author.Tests.{lt-ltb, ltb-true, ltb-false, leb-true, leb-false, eqb-true, eqb-false, eq-eqb, ne_eqb, not-true, not-false}
use Rattle.model.specs.Lists.{In}
use Rattle.model.specs.Rules.{ranges_right}
use Rattle.model.specs.Table.{Kind, Rule, Table, Shaped, fields, ports_right, rule_right, stands, with_rule, cells_of, insert_answer, delete_answer, place_answer}
use Rattle.model.specs.Ipv4.{large, kind_in, ipv4_shaped}
use Rattle.model.proofs.Tests.{by_test, never, and_left, and_right}
use Rattle.model.proofs.UpTo.{length_up_to}
use Rattle.model.proofs.Limits.{standing, not_standing}
use Rattle.header.specs.declared.Packet.{Packet}
use Rattle.layout.specs.Store.{size, cells_in, table_of, room_for, passes, unless, checked, start_answer, insert_says, delete_says, read_says, read_gives, place_says, place_gives, zero_rule, cells_says, cells_gives}
use Rattle.lookup.specs.declared.Found.{Found}
use Rattle.lookup.specs.Walk.{lookup_in, lookup_values, lookup_packet}
use Rattle.lookup.proofs.Steps.{wrong_11, right_in}
use Rattle.demands.specs.Calls.{Passes, field_count, low_at, high_at, top_at, FullPorts, PortsOnly, NoRoom, values_in, lookup}
use Rattle.demands.specs.Links.{Undecided}
use Rattle.demands.specs.Demand1.{Refuses, refuses, goes_on, done, WrongRange, WrongPorts, Spares, OnlyAnswer, Demand1}
use Rattle.demands.proofs.KindNamed.{shaped_in}
use Rattle.demands.proofs.Fields.{says_no, ports_say, wrong_from, right_from}
use Rattle.demands.proofs.Held.{Leaves, refused_keeps, start_leaves, insert_leaves, delete_leaves}
use Rattle.demands.proofs.Room.{no_room, room_there}
use Rattle.demands.proofs.Lost.{nine_or_done, undecided_9}
use Rattle.demands.proofs.Packets.{tops_right, refused_by, readable_is}
use Rattle.demands.proofs.Answers.{Answers, lookup_lines, right_lines, zeros, few_reads, ByHeader, packet_zeros, packet_reads, packet_lines}
use Rattle.demands.proofs.Tally.{tally_before, tally_13, tally_zeros, tally_kept}

-- one line of the table, decided by a test; and by a test that says yes where the call goes on
pub line : {P : Type 0} {others : ℕ → Type 0} (b : Bool) (n x : ℕ) → (b ≡ true → P) → (b ≡ false → P → ⊥) → others x → Refuses n P others (cond b n x)
line true n x t f o = refuses (t refl) refl
line false n x t f o = goes_on (f refl) o

pub on_line : {P : Type 0} {others : ℕ → Type 0} (b : Bool) (n x : ℕ) → (b ≡ false → P) → (b ≡ true → P → ⊥) → others x → Refuses n P others (cond b x n)
on_line true n x f t o = goes_on (t refl) o
on_line false n x f t o = refuses (f refl) refl

abbrev answer_in : Found → ℕ
answer_in f = f.answer

module _ (k : Kind) where
  -- 9, where the store fails the check
  pub check_line : {others : ℕ → Type 0} (ws : List ℕ) (x : ℕ) → others x → Refuses 9 (Passes k ws → ⊥) others (checked k ws x)
  check_line ws x o = on_line (passes k ws) 9 x (λ f p. never (sym p ∙ f)) (λ t n. n t) o

  -- 8
  start_lines : (ws : List ℕ) (c : ℕ) → Refuses 8 (NoRoom k c ws) done (start_answer k ws c)
  start_lines ws c = on_line (room_for k c ws) 8 0 (no_room k c ws) (room_there k c ws) refl

  -- 2
  module _ (r : Rule) (l : length r.lows ≡ field_count k) (h : length r.highs ≡ field_count k) where
    ranges : rule_right k r ≡ (ranges_right (fields k) r && ports_right k r)
    ranges = simp (eq-eqb _ (field_count k) l, eq-eqb _ (field_count k) h)

    wrong : not (rule_right k r) ≡ true → WrongRange k r ⊎ WrongPorts k r
    wrong e =
        let f = sym ranges ∙ not-true (rule_right k r) e in
        by_test (ranges_right (fields k) r)
        (λ t. let g : ports_right k r ≡ false = rw t at f in inr (λ x. says_no (ports_right k r) (ports_say k r) g (inr x), λ x. says_no (ports_right k r) (ports_say k r) g (inl x)))
        (λ t. inl (simp zero-add at (wrong_from r k.tops 0 t)))

    crossed : (i : ℕ) → (low_at r i ≤ high_at r i) × (high_at r i ≤ top_at k i) → (high_at r i < low_at r i) ⊎ (top_at k i < high_at r i) → ⊥
    crossed i g (inl x) = omega (arith, g.0)
    crossed i g (inr x) = omega (arith, g.1)

    all_right : not (rule_right k r) ≡ false → (ranges_right (fields k) r && ports_right k r) ≡ true
    all_right e = sym ranges ∙ not-false (rule_right k r) e

    not_wrong : not (rule_right k r) ≡ false → WrongRange k r ⊎ WrongPorts k r → ⊥
    not_wrong e (inl w) = crossed w.0 (simp zero-add at (right_from r k.tops 0 (and_left _ _ (all_right e)) w.0 w.1)) w.2
    not_wrong e (inr w) = ⊎_elim (λ (x : PortsOnly k r). w.1 x) (λ (x : FullPorts k r). w.0 x) ((ports_say k r).0 (and_right (ranges_right (fields k) r) _ (all_right e)))

  -- 1, 3, 5, 6 and 4
  insert_lines : (c : ℕ) (t : Table) (r : Rule) → length r.lows ≡ field_count k → length r.highs ≡ field_count k
      → Refuses 1 (65534 < r.number)
      (Refuses 2 (WrongRange k r ⊎ WrongPorts k r)
      (Refuses 3 ((s : Rule) × In s t.rules × (s.number ≡ r.number))
      (Refuses 5 (k.most ≤ length t.rules)
      (Refuses 6 (c < cells_of k (with_rule r t))
      done))))
      (insert_answer k c t r)
  insert_lines c t r l h =
      let n = r.number in
      let m = length t.rules in
      let x = cells_of k (with_rule r t) in
      line (ltb 65534 n) 1 _ (ltb-true 65534 n) (λ f p. omega (arith, ltb-false 65534 n f))
      (line (not (rule_right k r)) 2 _ (wrong r l h) (not_wrong r l h)
      (line (stands n t.rules) 3 _ (standing n t.rules) (λ f p. not_standing n t.rules f p.0 p.1 p.2)
      (line (leb k.most m) 5 _ (leb-true k.most m) (λ f p. omega (arith, leb-false k.most m f))
      (line (ltb c x) 6 0 (ltb-true c x) (λ f p. omega (arith, ltb-false c x f)) refl))))

  delete_lines : (t : Table) (n : ℕ) → Refuses 1 (65534 < n) (Refuses 4 (((s : Rule) × In s t.rules × (s.number ≡ n)) → ⊥) done) (delete_answer t n)
  delete_lines t n =
      line (ltb 65534 n) 1 _ (ltb-true 65534 n) (λ f p. omega (arith, ltb-false 65534 n f))
      (on_line (stands n t.rules) 4 0 (λ f p. not_standing n t.rules f p.0 p.1 p.2) (λ e p. p (standing n t.rules e)) refl)

  place_lines : (t : Table) (p : ℕ) → Refuses 4 ((p ≡ 0) ⊎ (length t.rules < p)) done (place_answer t p)
  place_lines t p =
      let n = length t.rules in
      line (eqb p 0 || ltb n p) 4 0
      (λ e. by_test (eqb p 0) (λ z. inl (eqb-true p 0 z)) (λ z. inr (ltb-true n p (rw z at e))))
      (λ e q. by_test (eqb p 0) (λ z. never (rw z at e)) (λ z. ⊎_elim (λ y. eqb-false p 0 z y) (λ l. never (rw (z, lt-ltb n p l) at e)) q))
      refl

  -- what a start and the edits keep
  pub spares : (c a : ℕ) (new ws : List ℕ) → (a ≡ 0 → (t : Table) × Leaves k ws (unless a new ws) c t) → Spares k c a ws (unless a new ws)
  spares c a new ws h =
      record {
        unchanged = refused_keeps a new ws;
        behind = by_test (eqb a 0) (λ e. (h (eqb-true a 0 e)).1.behind) (λ e. ap (drop (size k c)) (refused_keeps a new ws (eqb-false a 0 e)));
        long = by_test (eqb a 0) (λ e. (h (eqb-true a 0 e)).1.long) (λ e. ap length (refused_keeps a new ws (eqb-false a 0 e)));
      }

  -- what a refused read and count give
  read_zeros : (ws : List ℕ) (n : ℕ) → read_says k ws n ≢ 0 → read_gives k ws n ≡ zero_rule k
  read_zeros ws n h = rw (ne_eqb (read_says k ws n) 0 h)

  rule_at_zeros : (ws : List ℕ) (p : ℕ) → place_says k ws p ≢ 0 → place_gives k ws p ≡ zero_rule k
  rule_at_zeros ws p h = rw (ne_eqb (place_says k ws p) 0 h)

  cells_zeros : (ws : List ℕ) → cells_says k ws ≢ 0 → cells_gives k ws ≡ 0
  cells_zeros ws h = go (passes k ws) h
    where
      go : (b : Bool) → (◌≡◌ {A = ℕ} (cond b 0 9) 0 → ⊥) → cond b (cells_of k (table_of k ws)) 0 ≡ 0
      go true n = absurd (n refl)
      go false n = refl

-- THE LOOKUPS
store_answers : (k : Kind) (s : Shaped k) (ws vs : List ℕ) → length vs ≡ field_count k → Answers k vs (Undecided k ws vs) (field_count k * cells_in ws) (lookup_in k ws vs) (lookup_values k ws vs)
store_answers k s ws vs n = record { right = right_in k ws vs; wrong = wrong_11 k ws vs; nine_or_done = rw n at (nine_or_done k s ws vs); nine = undecided_9 k s ws vs }

record_answers : (ws : List ℕ) (p : Packet) → Answers (kind_in ws) (values_in p) (Undecided (kind_in ws) ws (values_in p)) (field_count (kind_in ws) * cells_in ws) (lookup_in (kind_in ws) ws (values_in p)) (lookup ws p)
record_answers ws p = store_answers (kind_in ws) (shaped_in ws) ws (values_in p) refl

store_header : (ws bytes : List ℕ) → ByHeader (lookup ws) bytes (lookup_packet ws bytes)
store_header ws bytes = record { unread = refused_by ws bytes; read = readable_is ws bytes }

store_zeros : (ws bytes : List ℕ) → (lookup_packet ws bytes).answer ≢ 0 → OnlyAnswer (lookup_packet ws bytes)
store_zeros ws bytes = packet_zeros (store_header ws bytes) (λ p. zeros (record_answers ws p))

pub demand1 : Demand1
demand1 =
    record {
      start = start_lines large;
      start_spares = λ ws c a. spares large c (start_answer large ws c) _ ws (λ h. (_, start_leaves large (ipv4_shaped true) ws c a h));
      all_ends = λ g. (length_up_to _ (λ i. get_or g.low i 0), length_up_to _ (λ i. get_or g.high i 0));
      insert = λ ws r l h. check_line (kind_in ws) ws _ (insert_lines (kind_in ws) (cells_in ws) (table_of (kind_in ws) ws) r l h);
      insert_spares = λ ws r. spares (kind_in ws) (cells_in ws) (insert_says (kind_in ws) ws r) _ ws (λ h. (_, insert_leaves (kind_in ws) (shaped_in ws) ws r h));
      delete = λ ws n. check_line (kind_in ws) ws _ (delete_lines (kind_in ws) (table_of (kind_in ws) ws) n);
      delete_spares = λ ws n. spares (kind_in ws) (cells_in ws) (delete_says (kind_in ws) ws n) _ ws (λ h. (_, delete_leaves (kind_in ws) (shaped_in ws) ws n h));
      read = λ ws n h. rw (ne_eqb n 65535 h) (check_line (kind_in ws) ws _ (delete_lines (kind_in ws) (table_of (kind_in ws) ws) n));
      read_default = λ ws. check_line (kind_in ws) ws 0 refl;
      read_zeros = λ ws. read_zeros (kind_in ws) ws;
      rule_at_lem = λ ws p. check_line (kind_in ws) ws _ (place_lines (kind_in ws) (table_of (kind_in ws) ws) p);
      rule_at_zeros = λ ws. rule_at_zeros (kind_in ws) ws;
      cells = λ ws. check_line (kind_in ws) ws 0 refl;
      cells_zeros = λ ws. cells_zeros (kind_in ws) ws;
      lookup_answer = λ ws p. lookup_lines (record_answers ws p) refl;
      lookup_zeros = λ ws p. zeros (record_answers ws p);
      packet_answer = λ ws bytes. packet_lines (store_header ws bytes) (λ p. Refuses 9 (Undecided (kind_in ws) ws (values_in p)) done) (λ p t. right_lines (record_answers ws p) (tops_right p t));
      packet_zeros = store_zeros;
      lookup_reads = λ ws p. few_reads (record_answers ws p);
      packet_reads = λ ws bytes. packet_reads (store_header ws bytes) _ (λ p. few_reads (record_answers ws p));
      tally_before = tally_before;
      tally_13 = tally_13;
      tally_zeros = λ ws bytes t. tally_zeros ws bytes t (store_zeros ws bytes);
      tally_kept = tally_kept;
    }
