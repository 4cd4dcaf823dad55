-- Over words that pass the check, the lookup of right values answers what the rules say: the winner's number and action, and the reads of demand 3.
-- Assumes nothing.
use mathlib.Core.Path.{◌≡◌, sym, ap, ◌∙◌}
use mathlib.Core.Bool.{true}
use mathlib.Core.List.{List}
use Prim.Native.Nat.{ℕ}
use native.Mathlib.Omega.{arith}
use lib.ListN.{length}
use Rattle.model.specs.Rules.{reads}
use Rattle.model.specs.Table.{Kind, Table, Shaped, winner_of, reads_of, packet_right}
use Rattle.cells.proofs.Text.{deep_tree}
use Rattle.table.specs.Rows.{rows_text, places}
use Rattle.layout.specs.Named.{stored}
use Rattle.layout.specs.Store.{table_of, passes}
use Rattle.layout.proofs.Bridge.{stored_cells, stored_reads, stored_finds}
use Rattle.layout.proofs.Sound.{sound, count_is}
use Rattle.tied.proofs.Places.{ties}
use Rattle.lookup.specs.declared.Found.{Found}
use Rattle.lookup.specs.Walk.{lookup_values}
use Rattle.lookup.proofs.Tree.{lookup_tree, rule_found}
use Rattle.demands.proofs.Held.{room, right, fits}
use Rattle.demands.proofs.Fields.{right_length}
use Rattle.lookup.proofs.Steps.{right_in}

-- what the rules of a table say of a packet's values
abbrev pub found_of : Kind → Table → List ℕ → Found
found_of k t vs = record { answer = 0; rule = (winner_of k t vs).number; action = (winner_of k t vs).action; reads = reads_of k t vs }

module _ (k : Kind) (s : Shaped k) (ws : List ℕ) (h : passes k ws ≡ true) where
  pub lookup_is : (vs : List ℕ) → packet_right k vs ≡ true → lookup_values k ws vs ≡ found_of k (table_of k ws) vs
  unfolding stored
  lookup_is vs v =
      let t = table_of k ws in
      let w = right k s ws h in
      let r = room k s ws h in
      let o = sound k s ws h in
      let n = right_length k vs v in
      let f = stored_finds k s t w vs v in
      right_in k ws vs v
      ∙ lookup_tree k ws vs (stored k t) f.place o.marked r.least r.most r.long (ties.cells k s ws h) (omega (arith, stored_cells k s t w, fits k s ws h))
      (rw n (deep_tree (rows_text k t) 0 (length k.tops) (places k.width (length t.rules)))) f.found_there
      ∙ rule_found k s t (omega (arith, count_is k s ws, o.few)) ws (sym (count_is k s ws)) o.rows vs f (reads (stored k t) vs)
      ∙ ap (λ x. record { answer = 0; rule = (winner_of k t vs).number; action = (winner_of k t vs).action; reads = x }) (stored_reads k s t w vs v)
