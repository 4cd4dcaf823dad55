-- Request P1 in plain facts holds of the library's tallies.
-- Assumes nothing.
use mathlib.Core.Path.{refl, sym, subst, ◌∙◌}
use mathlib.Core.Bool.{Bool}
use native.Mathlib.Omega.{arith}
use Rattle.model.specs.Ipv4.{ipv4, kind_in}
use Rattle.header.specs.Header.{total_length}
use Rattle.layout.specs.Store.{insert_words, delete_words}
use Rattle.demands.specs.Tally.{WellKept, Tallied}
use Rattle.demands.proofs.KindNamed.{shaped_in, insert_large, delete_large}
use Rattle.demands.proofs.Tally.{counts_it, keeps_places}
use Rattle.demands.proofs.Readings.{stays_first, difference_right}
use Rattle.demands.proofs.Kept.{inserted_kept, deleted_kept, looked_kept, cleared_kept, never_13}

pub tallied : Tallied
tallied =
    record {
      counts = λ ws bytes t s. counts_it ws bytes t _ s;
      whole = λ ws bytes t s. keeps_places ws bytes t _ s;
      packets_right = λ t s. difference_right (λ u. u.packets) (λ bytes. 1) (λ m u a. a.packets ∙ sym a.keys) (λ i bytes u. refl) (λ i n u. refl) (λ u keys. refl) _ t s;
      bytes_right = λ t s. difference_right (λ u. u.bytes) total_length (λ m u a. a.bytes ∙ sym a.keys) (λ i bytes u. refl) (λ i n u. refl) (λ u keys. refl) _ t s;
      place_kept = stays_first;
      clear_kept = λ ws. cleared_kept (kind_in ws) ws;
      look_kept = looked_kept;
      insert_kept = λ ws r a t w. subst (λ (b : Bool). WellKept (ipv4 b) (insert_words (kind_in ws) ws r) t) (sym (insert_large ws r)) (inserted_kept (kind_in ws) (shaped_in ws) ws r a t w);
      delete_kept = λ ws n a t u d w. subst (λ (b : Bool). WellKept (ipv4 b) (delete_words (kind_in ws) ws n) u) (sym (delete_large ws n)) (deleted_kept (kind_in ws) (shaped_in ws) ws n a t u d w);
      room = λ ws h t s. never_13 ws h t (omega (arith, s.keys, (shaped_in ws).few));
    }
