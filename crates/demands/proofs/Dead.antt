-- Rules that never win, by the store's rules alone.
-- Assumes nothing.
use mathlib.Core.Path.{◌≡◌, refl, sym, ap, subst, ◌∙◌}
use mathlib.Core.Bool.{Bool}
use mathlib.Core.Logic.{inr, ⊎_elim, ◌≢◌}
use mathlib.Core.List.{List}
use Prim.Native.Nat.{ℕ}
use native.Mathlib.Omega.{arith}
use Rattle.model.specs.Lists.{In}
use Rattle.model.specs.Table.{Kind, Rule, Shaped, default_rule, winner_of}
use Rattle.model.specs.Ipv4.{ipv4, kind_in}
use Rattle.model.proofs.Keep.{in_left}
use Rattle.model.proofs.Limits.{distinct, from_every}
use Rattle.model.proofs.Decide.{winner_in, winner_holds, winner_least}
use Rattle.header.specs.declared.Packet.{Packet}
use Rattle.header.specs.Facts.{WithinTops}
use Rattle.header.proofs.Facts.{within_tops_lem}
use Rattle.layout.specs.Store.{table_of, delete_says, delete_words}
use Rattle.search.specs.Facts.{Means}
use Rattle.search.proofs.Topped.{tops_right as in_tops_right, right_tops}
use Rattle.live.specs.Live.{dead_says}
use Rattle.live.specs.Facts.{Lives}
use Rattle.live.proofs.Facts.{rule_read_lem, alive}
use Rattle.lookup.specs.declared.Found.{Found}
use Rattle.lookup.specs.Walk.{lookup_values, lookup_packet}
use Rattle.demands.specs.Calls.{Passes, rules_in, default_in, every_in, values_in, Bytes, lookup}
use Rattle.demands.specs.Demand2.{Names, Edited}
use Rattle.demands.specs.Dead.{Wins, Said, SameRule, Dead}
use Rattle.demands.proofs.KindNamed.{shaped_in, delete_large}
use Rattle.demands.proofs.Held.{right, checked_0}
use Rattle.demands.proofs.Fields.{all_held, held_all}
use Rattle.demands.proofs.Packets.{tops_right, refused_by, readable_is, by_header}
use Rattle.demands.proofs.Decided.{lookup_is}
use Rattle.demands.proofs.Demand1.{demand1}
use Rattle.demands.proofs.Demand2.{default_in_lem, names, demand2}

module _ (k : Kind) (s : Shaped k) (ws : List ℕ) (h : Passes k ws) where
  -- the rule that wins is the table's winner, by its number
  module _ (r : Rule) (m : In r (every_in k ws)) where
    means : Means k (table_of k ws) r.number (Wins k ws r)
    means vs i =
        let t = table_of k ws in
        let w = winner_of k t vs in
        let v = in_tops_right k vs i in
        let a : Wins k ws w vs = record { holds = all_held k vs w (winner_holds k t vs v); least = λ x n b. winner_least k t vs v x n (held_all k vs x b) } in (
          λ e. subst (λ (x : Rule). Wins k ws x vs) (distinct k t (right k s ws h) w r (inr (winner_in k t vs v)) (inr m) e) a,
          λ b. omega (arith, winner_least k t vs v r m (held_all k vs r b.holds), b.least w (winner_in k t vs v) a.holds),
        )

    lives : Lives k ws r.number (Wins k ws r)
    lives = alive.lives k s ws r.number (rule_read_lem k s ws h r m) (Wins k ws r) means

-- what is said of a rule
said : (ws : List ℕ) → Passes (kind_in ws) ws → (r : Rule) → In r (every_in (kind_in ws) ws) → Said ws r
said ws h r m =
    let l = lives (kind_in ws) (shaped_in ws) ws h r m in
    record {
      answer = l.answer;
      one_of = l.one_of;
      dead = l.dead;
      dead_record = l.dead_value;
      live = l.live.0;
      named = λ d.
          let e = l.live.0 d in
          let vs = (dead_says (kind_in ws) ws r.number).value in
          let v = in_tops_right (kind_in ws) vs e.within in
          let n = (means (kind_in ws) (shaped_in ws) ws h r m vs e.within).1 e.holds in
          let q = distinct (kind_in ws) (table_of (kind_in ws) ws) (right (kind_in ws) (shaped_in ws) ws h) (winner_of (kind_in ws) (table_of (kind_in ws) ws) vs) r (inr (winner_in (kind_in ws) (table_of (kind_in ws) ws) vs v)) (inr m) n in
          rw (lookup_is (kind_in ws) (shaped_in ws) ws h vs v) (refl, n, ap (λ (x : Rule). x.action) q);
    }

-- a dead rule is deleted: the rule that decided before is still there, and no other has come
module _ (ws : List ℕ) (n : ℕ) (d : (dead_says (kind_in ws) ws n).dead ≡ 1) (a : delete_says (kind_in ws) ws n ≡ 0) (h : Passes (kind_in ws) ws) where
  abbrev after : List ℕ
  after = delete_words (kind_in ws) ws n

  edit : Edited (kind_in ws) ws after (λ x. In x (rules_in (kind_in ws) ws) × (x.number ≢ n))
  edit = demand2.delete ws n a

  same_default : default_rule (kind_in ws) (default_in (kind_in ws) after) ≡ default_rule (kind_in ws) (default_in (kind_in ws) ws)
  same_default = ap (λ (x : ℕ). default_rule (kind_in ws) x) edit.default

  still : (x : Rule) → In x (every_in (kind_in ws) ws) → x.number ≢ n → In x (every_in (kind_in ws) after)
  still x m u = ⊎_elim
      (λ (i : In x (rules_in (kind_in ws) ws)). in_left (rules_in (kind_in ws) after) _ _ ((edit.rules x).1 (i, u)))
      (λ (q : x ≡ default_rule (kind_in ws) (default_in (kind_in ws) ws)). subst (λ (y : Rule). In y (every_in (kind_in ws) after)) (same_default ∙ sym q) (default_in_lem (kind_in ws) (shaped_in ws) after))
      (from_every (kind_in ws) (table_of (kind_in ws) ws) x m)

  before : (x : Rule) → In x (every_in (kind_in ws) after) → In x (every_in (kind_in ws) ws)
  before x m = ⊎_elim
      (λ (i : In x (rules_in (kind_in ws) after)). in_left (rules_in (kind_in ws) ws) _ _ ((edit.rules x).0 i).0)
      (λ (q : x ≡ default_rule (kind_in ws) (default_in (kind_in ws) after)). subst (λ (y : Rule). In y (every_in (kind_in ws) ws)) (sym same_default ∙ sym q) (demand2.default ws))
      (from_every (kind_in ws) (table_of (kind_in ws) after) x m)

  module _ (p : Packet) (t : WithinTops p) where
    old : Names (kind_in ws) ws (values_in p) (lookup ws p)
    old = demand2.by_values ws h p t

    new : Names (kind_in ws) after (values_in p) (lookup after p)
    new = subst (λ (f : Found). Names (kind_in ws) after (values_in p) f) (ap (λ (b : Bool). lookup_values (ipv4 b) after (values_in p)) (sym (delete_large ws n))) (names (kind_in ws) (shaped_in ws) after edit.passes (values_in p) (tops_right p t))

    not_it : old.rule.number ≢ n
    not_it e = (said ws h old.rule old.one_of).dead.0 (subst (λ (x : ℕ). (dead_says (kind_in ws) ws x).dead ≡ 1) (sym e) d) (values_in p)
        (right_tops (kind_in ws) (values_in p) (tops_right p t)) (record { holds = old.holds; least = old.least })

    same_rule : new.rule ≡ old.rule
    same_rule =
        let m = before new.rule new.one_of in
        old.only new.rule m (omega (arith, old.least new.rule m new.holds, new.least old.rule (still old.rule old.one_of not_it) old.holds))

    same : SameRule (lookup after p) (lookup ws p)
    same = (
      new.answer ∙ sym old.answer,
      new.number ∙ ap (λ (x : Rule). x.number) same_rule ∙ sym old.number,
      new.action ∙ ap (λ (x : Rule). x.action) same_rule ∙ sym old.action,
    )

  -- by packet: its header gives no values, or those of a record within the tops
  same_packet : (bytes : List ℕ) → Bytes bytes → SameRule (lookup_packet after bytes) (lookup_packet ws bytes)
  same_packet bytes b = by_header (SameRule (lookup_packet after bytes) (lookup_packet ws bytes)) bytes
      (λ r e. rw (refused_by after bytes r e, refused_by ws bytes r e) (refl, refl, refl))
      (λ p e. rw (readable_is after bytes p e, readable_is ws bytes p e) (same p (within_tops_lem bytes p b e)))

pub dead : Dead
dead =
    record {
      answer = λ ws n u. rw (alive.answer (kind_in ws) ws n) (demand1.read ws n u);
      answer_default = λ ws. rw (alive.answer (kind_in ws) ws 65535) (demand1.read_default ws);
      refused = λ ws n u. let q = alive.refused (kind_in ws) ws n (λ e. u (alive.answer (kind_in ws) ws n ∙ e)) in (q.dead, q.value);
      said = said;
      deleted = λ ws n d a. same ws n d a (checked_0 (kind_in ws) (shaped_in ws) ws _ a).0;
      deleted_packet = λ ws n d a. same_packet ws n d a (checked_0 (kind_in ws) (shaped_in ws) ws _ a).0;
    }
