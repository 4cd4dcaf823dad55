-- The worst packet of an image, by lookups over it alone: a lookup reads as many blocks as the rules say.
-- Assumes nothing.
use mathlib.Core.Path.{◌≡◌, refl, sym, ap, ◌∙◌}
use mathlib.Core.Bool.{Bool, true}
use mathlib.Core.List.{List, [], append-nil}
use Prim.Native.Nat.{ℕ, ◌+◌, ◌*◌, ◌≤◌, ◌^◌}
use native.Mathlib.Omega.{arith}
use lib.ListN.{length}
use Rattle.model.specs.Table.{every_rule, packet_right}
use Rattle.model.specs.Ipv4.{ipv4, large, is_large, kind_in}
use Rattle.model.proofs.Tests.{by_test, never}
use Rattle.model.proofs.Limits.{from_within}
use Rattle.header.specs.declared.Packet.{Packet}
use Rattle.layout.specs.Store.{table_of}
use Rattle.search.specs.Facts.{InTops}
use Rattle.search.proofs.Topped.{tops_right as in_tops_right, right_tops}
use Rattle.frozen.specs.Frozen.{image_passes, image_says}
use Rattle.lookup.specs.declared.Found.{Found}
use Rattle.image.specs.Image.{image_lookup}
use Rattle.image.proofs.Steps.{wrong_11}
use Rattle.depths.specs.Depths.{image_worst}
use Rattle.depths.specs.Facts.{blocks_of, Told}
use Rattle.depths.proofs.Weighed.{each_block}
use Rattle.depths.proofs.Facts.{depths}
use Rattle.demands.specs.Calls.{Passes, rules_in, field_count, values_in}
use Rattle.demands.specs.Frozen.{image_of, IsImage, lookup_over}
use Rattle.demands.specs.Deepest.{ToldOver, Deepest}
use Rattle.demands.proofs.KindNamed.{shaped_in, image_large}
use Rattle.demands.proofs.Held.{right}
use Rattle.demands.proofs.Answers.{packet_reads}
use Rattle.demands.proofs.Images.{image_table}
use Rattle.demands.proofs.Imaged.{frozen_of, few_blocks}
use Rattle.demands.proofs.Frozen.{image_lines, 0-image, over_header, tops_small, over_is}

-- the words of an image pass
passes_is : (image : List ℕ) → IsImage image → image_passes (kind_in image) image ≡ true
passes_is image o = by_test (image_passes (kind_in image) image) (λ z. z) (λ z. absurd (let y : ◌≡◌ {A = ℕ} 9 0 = rw z at (0-image image o) in omega arith))

module _ (ws : List ℕ) (h : Passes (kind_in ws) ws) where
  abbrev W : List ℕ
  W = image_of ws

  is : IsImage W
  is = (ws, h, refl)

  -- it names the store's kind, and gives its table back
  here : is_large W ≡ is_large ws
  here = ap is_large (sym (append-nil W)) ∙ image_large (is_large ws) (table_of (kind_in ws) ws) []

  table : table_of (kind_in W) W ≡ table_of (kind_in ws) ws
  table = ap (λ (b : Bool). table_of (ipv4 b) W) here ∙ ap (table_of (kind_in ws)) (sym (append-nil W)) ∙ image_table (kind_in ws) (shaped_in ws) (table_of (kind_in ws) ws) [] (right (kind_in ws) (shaped_in ws) ws h)

  rules : Told (kind_in W) W
  rules = depths.told (kind_in W) (shaped_in W) W (passes_is W is)

  looked : (vs : List ℕ) → InTops (kind_in W) vs → image_lookup (kind_in W) W vs ≡ frozen_of (kind_in ws) (table_of (kind_in ws) ws) vs
  looked vs i = ap (λ w. image_lookup (kind_in w) w vs) (sym (append-nil W)) ∙ over_is ws h [] vs (in_tops_right (kind_in W) vs i)

  reads_are : (vs : List ℕ) → InTops (kind_in W) vs → (image_lookup (kind_in W) W vs).reads ≡ blocks_of (kind_in W) (table_of (kind_in W) W) vs
  reads_are vs i = ap (λ (f : Found). f.reads) (looked vs i) ∙ ap (λ t. blocks_of (kind_in ws) t vs) (sym table)

  no_more : (vs : List ℕ) → InTops (kind_in W) vs → (image_lookup (kind_in W) W vs).reads ≤ (image_worst (kind_in W) W).reads
  no_more vs i = rw (reads_are vs i) (rules.no_more vs i)

  no_record : (p : Packet) → (lookup_over W p).reads ≤ (image_worst (kind_in W) W).reads
  no_record p = by_test (packet_right (kind_in ws) (values_in p))
      (λ v. no_more (values_in p) (right_tops (kind_in W) (values_in p) v))
      (λ v. rw (wrong_11 (kind_in W) W (values_in p) v) (omega arith))

  -- the bound, of the record that is shown
  bound : (L : ℕ) → 1 ≤ L → 2 * length (rules_in (kind_in ws) ws) + 1 ≤ 8 ^ L → (image_worst (kind_in W) W).reads ≤ field_count (kind_in ws) * L
  bound L o e =
      let v = (image_worst (kind_in W) W).value in
      let q : blocks_of (kind_in ws) (table_of (kind_in ws) ws) v ≡ (image_worst (kind_in W) W).reads = ap (λ t. blocks_of (kind_in ws) t v) (sym table) ∙ rules.takes in
      omega (arith, few_blocks (kind_in ws) (shaped_in ws) tops_small (table_of (kind_in ws) ws) (right (kind_in ws) (shaped_in ws) ws h) v (in_tops_right (kind_in W) v rules.within) L o e)

  told_over : ToldOver W
  told_over =
      let v = (image_worst (kind_in W) W).value in
      let i = rules.within in
      record {
        within = i;
        taken = (ap (λ (f : Found). f.answer) (looked v i), reads_are v i ∙ rules.takes);
        no_more = no_more;
        fewer = λ vs j l. rw (reads_are vs j) (rules.fewer vs j l);
        no_packet = λ bytes. packet_reads (over_header W bytes) _ no_record;
        least = omega (arith, rules.takes, each_block large.tops 0 v (every_rule (kind_in W) (table_of (kind_in W) W)));
        most_24 = bound 4 (omega arith) (omega (arith, (shaped_in ws).few, (from_within (kind_in ws) (table_of (kind_in ws) ws) (right (kind_in ws) (shaped_in ws) ws h)).fits));
      }

-- THE ANSWER is that of the image check
answer_is : (image : List ℕ) → (image_worst (kind_in image) image).answer ≡ image_says (kind_in image) image
answer_is image = by_test (image_passes (kind_in image) image)
    (λ z. (depths.told (kind_in image) (shaped_in image) image z).answer ∙ rw z)
    (λ z. (depths.refused (kind_in image) image (λ y. never (sym y ∙ z))).answer ∙ rw z)

pub deepest : Deepest
deepest =
    record {
      answer = λ image. rw (answer_is image) (image_lines image);
      refused = λ image u. let q = depths.refused (kind_in image) image (λ z. u (depths.told (kind_in image) (shaped_in image) image z).answer) in (q.reads, q.value);
      told = λ image o. rw o.2 (told_over o.0 o.1);
      tight = bound;
    }
