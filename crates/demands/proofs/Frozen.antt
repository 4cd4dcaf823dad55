-- Request P8 in plain facts holds.
-- Assumes nothing.
use mathlib.Core.Path.{◌≡◌, refl, sym, ap, ap₂, subst⁻¹, ◌∙◌}
use mathlib.Core.Logic.{◌≢◌}
use mathlib.Core.Bool.{Bool, true, cond}
use mathlib.Core.List.{List, [], ◌++◌, map, append-nil}
use Prim.Native.Nat.{ℕ, ◌+◌, ◌*◌, ◌≤◌, ◌^◌}
use native.Mathlib.Omega.{arith}
use lib.Dec.{leb}
use lib.ListN.{length, drop}
use Rattle.model.specs.Lists.{In}
use Rattle.model.specs.Bench.{rows, both}
use Rattle.model.specs.Table.{Kind, Table, front, fields, every_rule, packet_right}
use Rattle.model.specs.Ipv4.{ipv4, large, is_large, kind_in}
use Rattle.model.proofs.Tests.{by_test}
use Rattle.model.proofs.Limits.{from_within}
use Rattle.header.specs.declared.Packet.{Packet}
use Rattle.std.specs.Prelude.{Ok, Err}
use Rattle.header.specs.Header.{header_of}
use Rattle.header.specs.Facts.{WithinTops}
use Rattle.header.proofs.Facts.{within_tops_lem}
use Rattle.layout.specs.Store.{size, table_of, unless}
use Rattle.blocks.specs.Blocks.{pow8, least_from, depth, blocks_up}
use Rattle.blocks.specs.Sums.{blocks_sum}
use Rattle.frozen.specs.Frozen.{image_text, image_size, image_says}
use Rattle.lookup.specs.declared.Found.{Found}
use Rattle.lookup.specs.Walk.{lookup_packet}
use Rattle.lookup.proofs.Steps.{wrong_11}
use Rattle.tally.specs.declared.Tallies.{Tallies}
use Rattle.tally.specs.Tally.{tally_answer, tallies_left}
use Rattle.image.specs.Image.{image_in, image_lookup, image_packet, image_tally, image_tallies}
use Rattle.image.proofs.Steps.{right_in, by_header as looked_over, wrong_11 as image_11}
use Rattle.image.proofs.Tree.{Words}
use Rattle.demands.specs.Calls.{Passes, rules_in, every_in, field_count, values_in, Bytes, lookup}
use Rattle.demands.specs.Blocks.{ImageUndecided}
use Rattle.demands.specs.Demand1.{Refuses, refuses, goes_on, done, OnlyAnswer}
use Rattle.demands.specs.Demand3.{words_left}
use Rattle.demands.specs.Bench.{words_both}
use Rattle.demands.specs.Dead.{SameRule}
use Rattle.demands.specs.Frozen.{image_of, total_of, IsImage, SameImages, lookup_over, BlocksRead, Gives, frozen_for, FrozenBench, Frozen}
use Rattle.demands.proofs.KindNamed.{shaped_in, by_pass, pass_in, image_large}
use Rattle.demands.proofs.Held.{room, right, fits, checked_0}
use Rattle.demands.proofs.Packets.{tops_right, refused_by, readable_is, by_header}
use Rattle.demands.proofs.Answers.{Answers, lookup_lines, right_lines, zeros, few_reads, ByHeader, packet_zeros, packet_reads, packet_lines}
use Rattle.demands.proofs.Decided.{lookup_is}
use Rattle.demands.proofs.Tally.{found_before, found_13, found_zeros, found_kept, found_done, found_same, found_left}
use Rattle.demands.proofs.Demand1.{check_line}
use Rattle.demands.proofs.Demand3.{stays, alike_table}
use Rattle.demands.proofs.Bench.{is_both, each_row}
use Rattle.demands.proofs.Stacked.{takes, takes_one, stored_blocks}
use Rattle.demands.proofs.Strayed.{image_nine_or_done, image_undecided_9}
use Rattle.demands.proofs.Images.{total_zeros, total_is, total_exact, total_most, freeze_lines, freeze_keeps, froze_words, froze_image, froze_behind, froze_long, froze_whole, not_store, check_lines, check_0, 0-check}
use Rattle.demands.proofs.Imaged.{blocks_read, frozen_of, image_gives, few_blocks}

-- the total, by the blocks that the rules take
total_blocks : (ws : List ℕ) → Passes (kind_in ws) ws → total_of ws ≡ front (kind_in ws) + 16 * blocks_sum (fields (kind_in ws)) (every_in (kind_in ws) ws)
total_blocks ws h = total_is (kind_in ws) (shaped_in ws) ws h ∙ ap (λ n. front (kind_in ws) + 16 * n) (stored_blocks (kind_in ws) (shaped_in ws) (table_of (kind_in ws) ws) (right (kind_in ws) (shaped_in ws) ws h))

-- two stores that pass, of one kind and one table
same_images : (ws vs : List ℕ) → Passes (kind_in ws) ws → Passes (kind_in vs) vs → is_large ws ≡ is_large vs → table_of (kind_in ws) ws ≡ table_of (kind_in vs) vs → SameImages ws vs
same_images ws vs g h b e =
    let image : image_of ws ≡ image_of vs = ap₂ (λ (x : Bool) (t : Table). image_text (ipv4 x) t) b e in
    let total : total_of ws ≡ total_of vs = rw (g, h) (ap₂ (λ (x : Bool) (t : Table). image_size (ipv4 x) t) b e) in
    record {
      image = image;
      total = (rw (g, h), total);
      freeze = λ slice. (
        rw (g, h) (ap₂ (λ (x : Bool) (t : Table). cond (leb (image_size (ipv4 x) t) (length slice)) 0 8) b e),
        rw (g, h) (ap₂ (λ (x : Bool) (t : Table). unless (cond (leb (image_size (ipv4 x) t) (length slice)) 0 8) (image_text (ipv4 x) t ++ drop (image_size (ipv4 x) t) slice) slice) b e),
      );
    }

-- THE IMAGE CHECK: an image is that of a store of the kind that it names
abbrev Of : Kind → List ℕ → Type 0
Of k image = (ws : List ℕ) × Passes k ws × (image ≡ image_text k (table_of k ws))

module _ (image : List ℕ) where
  of_is : IsImage image → Of (kind_in image) image
  of_is (ws, h, e) =
      let b : is_large image ≡ is_large ws = ap is_large (e ∙ sym (append-nil (image_of ws))) ∙ image_large (is_large ws) (table_of (kind_in ws) ws) [] in
      subst⁻¹ (λ (x : Bool). Of (ipv4 x) image) b (ws, h, e)

  is_of : Of (kind_in image) image → IsImage image
  is_of (ws, h, e) = (ws, pass_in (is_large image) ws h, e ∙ ap (λ (x : Bool). image_text (ipv4 x) (table_of (ipv4 x) ws)) (sym (by_pass (is_large image) ws h)))

  pub image_lines : Refuses 9 (IsImage image → ⊥) done (image_says (kind_in image) image)
  image_lines = go (check_lines (kind_in image) (shaped_in image) image)
    where
      go : {a : ℕ} → Refuses 9 (Of (kind_in image) image → ⊥) done a → Refuses 9 (IsImage image → ⊥) done a
      go (refuses p e) = refuses (λ o. p (of_is o)) e
      go (goes_on n e) = goes_on (λ p. n (λ o. p (is_of o))) e

  image_0 : image_says (kind_in image) image ≡ 0 → IsImage image
  image_0 e = is_of (check_0 (kind_in image) (shaped_in image) image e)

  pub 0-image : IsImage image → image_says (kind_in image) image ≡ 0
  0-image o = 0-check (kind_in image) (shaped_in image) image (of_is o)

  no_store : IsImage image → Passes (kind_in image) image → ⊥
  no_store o = not_store (kind_in image) (shaped_in image) image (of_is o)

-- LOOKUPS OVER ANY WORDS
over_answers : (image : List ℕ) (p : Packet) → Answers (kind_in image) (values_in p) (ImageUndecided (kind_in image) image (values_in p)) (8 * field_count (kind_in image)) (image_in (kind_in image) image (values_in p)) (lookup_over image p)
over_answers image p =
    record {
      right = right_in (kind_in image) image (values_in p);
      wrong = image_11 (kind_in image) image (values_in p);
      nine_or_done = image_nine_or_done (kind_in image) (shaped_in image) image (values_in p);
      nine = image_undecided_9 (kind_in image) (shaped_in image) image (values_in p);
    }

pub over_header : (image bytes : List ℕ) → ByHeader (lookup_over image) bytes (image_packet image bytes)
over_header image bytes = record { unread = λ r e. sym (looked_over image bytes (Err r) (sym e)); read = λ p e. sym (looked_over image bytes (Ok p) (sym e)) }

over_zeros : (image bytes : List ℕ) → (image_packet image bytes).answer ≢ 0 → OnlyAnswer (image_packet image bytes)
over_zeros image bytes = packet_zeros (over_header image bytes) (λ p. zeros (over_answers image p))

-- THE IMAGE OF A STORE THAT PASSES, with any words behind it
pub tops_small : Words large.tops
tops_small = (omega arith, (omega arith, (omega arith, (omega arith, (omega arith, (omega arith, tt))))))

module _ (ws : List ℕ) (h : Passes (kind_in ws) ws) (rest : List ℕ) where
  abbrev W : List ℕ
  W = image_of ws ++ rest

  pub over_is : (vs : List ℕ) → packet_right (kind_in ws) vs ≡ true → image_lookup (kind_in W) W vs ≡ frozen_of (kind_in ws) (table_of (kind_in ws) ws) vs
  over_is vs v = ap (λ (b : Bool). image_lookup (ipv4 b) W vs) (image_large (is_large ws) (table_of (kind_in ws) ws) rest) ∙ image_gives (kind_in ws) (shaped_in ws) tops_small (table_of (kind_in ws) ws) (right (kind_in ws) (shaped_in ws) ws h) rest (omega (arith, fits (kind_in ws) (shaped_in ws) ws h, (room (kind_in ws) (shaped_in ws) ws h).most)) vs v

  same_values : (p : Packet) → SameRule (lookup_over W p) (lookup ws p)
  same_values p = by_test (packet_right (kind_in ws) (values_in p))
      (λ v. rw (over_is (values_in p) v, lookup_is (kind_in ws) (shaped_in ws) ws h (values_in p) v) (refl, refl, refl))
      (λ v. rw (image_11 (kind_in W) W (values_in p) v, wrong_11 (kind_in ws) ws (values_in p) v) (refl, refl, refl))

  same_packet : (bytes : List ℕ) → SameRule (image_packet W bytes) (lookup_packet ws bytes)
  same_packet bytes = by_header _ bytes
      (λ r u. rw ((over_header W bytes).unread r u, refused_by ws bytes r u) (refl, refl, refl))
      (λ p u. rw ((over_header W bytes).read p u, readable_is ws bytes p u) (same_values p))

  most : (p : Packet) (L : ℕ) → 1 ≤ L → 2 * length (rules_in (kind_in ws) ws) + 1 ≤ 8 ^ L → (lookup_over W p).reads ≤ field_count (kind_in ws) * L
  most p L o e = by_test (packet_right (kind_in ws) (values_in p))
      (λ v. rw (over_is (values_in p) v) (few_blocks (kind_in ws) (shaped_in ws) tops_small (table_of (kind_in ws) ws) (right (kind_in ws) (shaped_in ws) ws h) (values_in p) v L o e))
      (λ v. rw (image_11 (kind_in W) W (values_in p) v) (omega arith))

  most_18 : length (rules_in (kind_in ws) ws) ≤ 64 → (p : Packet) → (lookup_over W p).reads ≤ 18
  most_18 few p = most p 3 (omega arith) (omega (arith, few))

  most_24 : (p : Packet) → (lookup_over W p).reads ≤ 24
  most_24 p = most p 4 (omega arith) (omega (arith, (shaped_in ws).few, (from_within (kind_in ws) (table_of (kind_in ws) ws) (right (kind_in ws) (shaped_in ws) ws h)).fits))

  count : (p : Packet) → WithinTops p → BlocksRead (kind_in ws) (every_in (kind_in ws) ws) (values_in p) (lookup_over W p).reads
  count p t = rw (over_is (values_in p) (tops_right p t)) (blocks_read (kind_in ws) (values_in p) (every_in (kind_in ws) ws))

  count_packet : (bytes : List ℕ) → Bytes bytes → (p : Packet) → header_of bytes ≡ Ok p → BlocksRead (kind_in ws) (every_in (kind_in ws) ws) (values_in p) (image_packet W bytes).reads
  count_packet bytes b p e = rw ((over_header W bytes).read p e) (count p (within_tops_lem bytes p b e))

  count_tally : (bytes : List ℕ) → Bytes bytes → (p : Packet) → header_of bytes ≡ Ok p → (t : Tallies) → (image_tally W bytes t).answer ≡ 0 → BlocksRead (kind_in ws) (every_in (kind_in ws) ws) (values_in p) (image_tally W bytes t).reads
  unfolding image_tally
  count_tally bytes b p e t a = rw (found_done (image_packet W bytes) bytes t a) (count_packet bytes b p e)

  same_tally : (bytes : List ℕ) (t : Tallies) → SameRule (image_tally W bytes t) (tally_answer ws bytes t)
  unfolding image_tally tally_answer
  same_tally bytes t = found_same (image_packet W bytes) (lookup_packet ws bytes) (same_packet bytes) bytes t

  same_left : (bytes : List ℕ) (t : Tallies) → image_tallies W bytes t ≡ tallies_left ws bytes t
  unfolding image_tallies tallies_left
  same_left bytes t = found_left (image_packet W bytes) (lookup_packet ws bytes) (same_packet bytes) bytes t

  gives : Gives ws (image_of ws ++ rest)
  gives =
      record {
        by_values = same_values;
        answer = λ p t. ap (λ (f : Found). f.answer) (over_is (values_in p) (tops_right p t));
        by_packet = same_packet;
        by_tally = same_tally;
        same_tallies = same_left;
        count = count;
        count_packet = count_packet;
        count_tally = count_tally;
        most = most;
        most_packet = λ bytes L o e. packet_reads (over_header W bytes) _ (λ p. most p L o e);
        most_18 = most_18;
        most_18_packet = λ few bytes. packet_reads (over_header W bytes) 18 (most_18 few);
        most_24 = most_24;
        most_24_packet = λ bytes. packet_reads (over_header W bytes) 24 most_24;
      }

-- so the images of two stores of one table are not told apart by a lookup, also where their kinds differ
module _ (ws vs : List ℕ) (g : Passes (kind_in ws) ws) (h : Passes (kind_in vs) vs) (e : table_of (kind_in ws) ws ≡ table_of (kind_in vs) vs) where
  over_whole : (us : List ℕ) (o : Passes (kind_in us) us) (xs : List ℕ) → packet_right large xs ≡ true → image_lookup (kind_in (image_of us)) (image_of us) xs ≡ frozen_of large (table_of (kind_in us) us) xs
  over_whole us o xs v = ap (λ w. image_lookup (kind_in w) w xs) (sym (append-nil (image_of us))) ∙ over_is us o [] xs v

  pub same_over : (p : Packet) → lookup_over (image_of ws) p ≡ lookup_over (image_of vs) p
  same_over p = by_test (packet_right large (values_in p))
      (λ v. over_whole ws g (values_in p) v ∙ ap (λ (t : Table). frozen_of large t (values_in p)) e ∙ sym (over_whole vs h (values_in p) v))
      (λ v. image_11 (kind_in (image_of ws)) (image_of ws) (values_in p) v ∙ sym (image_11 (kind_in (image_of vs)) (image_of vs) (values_in p) v))

  pub same_over_packet : (bytes : List ℕ) → image_packet (image_of ws) bytes ≡ image_packet (image_of vs) bytes
  same_over_packet bytes = by_header _ bytes
      (λ r u. (over_header (image_of ws) bytes).unread r u ∙ sym ((over_header (image_of vs) bytes).unread r u))
      (λ p u. (over_header (image_of ws) bytes).read p u ∙ same_over p ∙ sym ((over_header (image_of vs) bytes).read p u))

-- THE STARRED LIST: what the definitions say of its rows
starred_blocks : map (λ r. frozen_of large both r.asked) rows ≡ map frozen_for rows
unfolding pow8 least_from depth
starred_blocks = refl

starred_total : blocks_sum (fields large) (every_rule large both) ≡ 41
unfolding pow8 least_from depth blocks_up
starred_total = refl

starred : (lent : List ℕ) (c : ℕ) → 54 ≤ c → c ≤ 65536 → size large c ≤ length lent → FrozenBench lent c
starred lent c a b l =
    let ws = words_both lent c in
    let s = is_both lent c a b l in
    let pass = pass_in true ws s.pass in
    let z = by_pass true ws s.pass in
    let table : table_of (kind_in ws) ws ≡ both = ap (λ (x : Bool). table_of (ipv4 x) ws) z ∙ s.table in
    record {
      lookups = each_row (image_lookup (kind_in (image_of ws)) (image_of ws)) (frozen_of large both)
          (λ vs v. ap (λ w. image_lookup (kind_in w) w vs) (sym (append-nil (image_of ws))) ∙ over_is ws pass [] vs v ∙ ap (λ (t : Table). frozen_of large t vs) table)
          ∙ starred_blocks;
      total = total_blocks ws pass ∙ ap₂ (λ (x : Bool) (t : Table). front (ipv4 x) + 16 * blocks_sum (fields large) (every_rule large t)) z table ∙ ap (λ n. 8192 + 16 * n) starred_total;
    }

pub frozen : Frozen
unfolding image_tally image_tallies
frozen =
    record {
      total_answer = λ ws. check_line (kind_in ws) ws 0 refl;
      total_zeros = λ ws. total_zeros (kind_in ws) (shaped_in ws) ws;
      total = λ ws h. (_, takes (kind_in ws) (every_in (kind_in ws) ws), total_blocks ws h);
      total_one = λ ws. takes_one (field_count (kind_in ws)) (λ r. In r (every_in (kind_in ws) ws)) 0;
      total_exact = λ ws. total_exact (kind_in ws) (shaped_in ws) ws;
      total_most = λ ws. total_most (kind_in ws) (shaped_in ws) ws;
      freeze = λ ws. freeze_lines (kind_in ws) (shaped_in ws) ws;
      freeze_refused = λ ws. freeze_keeps (kind_in ws) (shaped_in ws) ws;
      froze = λ ws slice a. record { image = froze_image (kind_in ws) (shaped_in ws) ws slice a; behind = froze_behind (kind_in ws) (shaped_in ws) ws slice a; long = froze_long (kind_in ws) (shaped_in ws) ws slice a };
      froze_whole = λ ws. froze_whole (kind_in ws) (shaped_in ws) ws;
      check = λ image. image_lines image;
      check_accepts = λ image. (image_0 image, 0-image image);
      no_store = no_store;
      alike = λ g h e l. same_images (words_left g) (words_left h) (stays g).0 (stays h).0 ((stays g).1 ∙ l ∙ sym (stays h).1) (alike_table g h e);
      alike_lookup = λ g h e. same_over (words_left g) (words_left h) (stays g).0 (stays h).0 (alike_table g h e);
      alike_packet = λ g h e. same_over_packet (words_left g) (words_left h) (stays g).0 (stays h).0 (alike_table g h e);
      gives = gives;
      froze_gives = λ ws slice a. rw (froze_words (kind_in ws) (shaped_in ws) ws slice a) (gives ws (checked_0 (kind_in ws) (shaped_in ws) ws _ a).0 (drop (total_of ws) slice));
      lookup_answer = λ image p. lookup_lines (over_answers image p) refl;
      lookup_zeros = λ image p. zeros (over_answers image p);
      packet_answer = λ image bytes. packet_lines (over_header image bytes) (λ p. Refuses 9 (ImageUndecided (kind_in image) image (values_in p)) done) (λ p t. right_lines (over_answers image p) (tops_right p t));
      packet_zeros = over_zeros;
      lookup_reads = λ image p. few_reads (over_answers image p);
      packet_reads = λ image bytes. packet_reads (over_header image bytes) _ (λ p. few_reads (over_answers image p));
      tally_before = λ image bytes t. found_before (image_packet image bytes) bytes t;
      tally_13 = λ image bytes t. found_13 (image_packet image bytes) bytes t;
      tally_zeros = λ image bytes t. found_zeros (image_packet image bytes) bytes t (over_zeros image bytes);
      tally_kept = λ image bytes t. found_kept (image_packet image bytes) bytes t;
      bench = starred;
    }
